-- Commands that read a node.
use Rattle.std.specs.Prelude.{[], ◌∷◌, Some, None}
use Rattle.plain_orders.specs.declared.act.Act.TheVariants.{Read}
use Rattle.app_job.specs.declared.answer.Answer.TheVariants.{Value, Shape as ShapeAnswer, Next as NextAnswer, Done as DoneAnswer}
use Rattle.app_job.specs.declared.command.Command.TheVariants.{Get, Shape, Next}
use Rattle.fit_examples.specs.Groups.{at_x, at_y, five, held_x, met, Does, DoesHeld, DoesAs}
use Rattle.script_fits.specs.Locking.{no_past}
use Rattle.plain_orders.specs.declared.question.Question.TheVariants.{Get as GetQuestion, Shape as DataQuestion, Next as NextQuestion}
use Rattle.plain_orders.specs.declared.via.Via.TheVariants.{Fetched, Cached}
use Rattle.subscript_keys.specs.declared.sub.Sub.TheVariants.{Text}

-- a get, of a data and of a next
abbrev pub ReadExamples : Type 0
ReadExamples =
    -- a get
    Does met (Get at_x) (Read 0 5 0 2 Fetched (GetQuestion at_x.key None) ∷ []) (Value None 2 Fetched)
    -- another line
    × (¬ Does met (Get at_x) (Read 0 6 0 2 Fetched (GetQuestion at_x.key None) ∷ []) (Value None 2 Fetched))
    -- another job's acts
    × (¬ DoesAs 2 (Get at_x) (Read 2 5 0 2 Fetched (GetQuestion at_x.key None) ∷ []) (Value None 2 Fetched))
    -- another server
    × (¬ Does met (Get at_x) (Read 0 5 1 2 Fetched (GetQuestion at_x.key None) ∷ []) (Value None 2 Fetched))
    -- another node
    × (¬ Does met (Get at_x) (Read 0 5 0 2 Fetched (GetQuestion at_y.key None) ∷ []) (Value None 2 Fetched))
    -- another question
    × (¬ Does met (Get at_x) (Read 0 5 0 2 Fetched (DataQuestion at_x.key 0) ∷ []) (Value None 2 Fetched))
    -- the answer has another number
    × (¬ Does met (Get at_x) (Read 0 5 0 2 Fetched (GetQuestion at_x.key None) ∷ []) (Value None 1 Fetched))
    -- the answer came in another way
    × (¬ Does met (Get at_x) (Read 0 5 0 2 Fetched (GetQuestion at_x.key None) ∷ []) (Value None 2 Cached))
    -- the answer has another value
    × (¬ Does met (Get at_x) (Read 0 5 0 2 Fetched (GetQuestion at_x.key None) ∷ []) (Value (Some five) 2 Fetched))
    -- another answer
    × (¬ Does met (Get at_x) (Read 0 5 0 2 Fetched (GetQuestion at_x.key None) ∷ []) DoneAnswer)
    -- an act more
    × (¬ Does met (Get at_x) (Read 0 5 0 2 Fetched (GetQuestion at_x.key None) ∷ Read 0 5 0 2 Fetched (GetQuestion at_x.key None) ∷ []) (Value None 2 Fetched))
    -- an act less
    × (¬ Does met (Get at_x) [] (Value None 2 Fetched))
    -- an unlock held back
    × (¬ DoesHeld met no_past (Get at_x) (Read 0 5 0 2 Fetched (GetQuestion at_x.key None) ∷ []) (Value None 2 Fetched) (held_x ∷ []))
    -- a data
    × Does met (Shape at_x) (Read 0 5 0 2 Fetched (DataQuestion at_x.key 0) ∷ []) (ShapeAnswer 0 2 Fetched)
    -- another line
    × (¬ Does met (Shape at_x) (Read 0 6 0 2 Fetched (DataQuestion at_x.key 0) ∷ []) (ShapeAnswer 0 2 Fetched))
    -- another job's acts
    × (¬ DoesAs 2 (Shape at_x) (Read 2 5 0 2 Fetched (DataQuestion at_x.key 0) ∷ []) (ShapeAnswer 0 2 Fetched))
    -- another server
    × (¬ Does met (Shape at_x) (Read 0 5 1 2 Fetched (DataQuestion at_x.key 0) ∷ []) (ShapeAnswer 0 2 Fetched))
    -- another node
    × (¬ Does met (Shape at_x) (Read 0 5 0 2 Fetched (DataQuestion at_y.key 0) ∷ []) (ShapeAnswer 0 2 Fetched))
    -- another question
    × (¬ Does met (Shape at_x) (Read 0 5 0 2 Fetched (GetQuestion at_x.key None) ∷ []) (ShapeAnswer 0 2 Fetched))
    -- the answer has another number
    × (¬ Does met (Shape at_x) (Read 0 5 0 2 Fetched (DataQuestion at_x.key 0) ∷ []) (ShapeAnswer 0 1 Fetched))
    -- the answer came in another way
    × (¬ Does met (Shape at_x) (Read 0 5 0 2 Fetched (DataQuestion at_x.key 0) ∷ []) (ShapeAnswer 0 2 Cached))
    -- the answer has another code
    × (¬ Does met (Shape at_x) (Read 0 5 0 2 Fetched (DataQuestion at_x.key 0) ∷ []) (ShapeAnswer 1 2 Fetched))
    -- another answer
    × (¬ Does met (Shape at_x) (Read 0 5 0 2 Fetched (DataQuestion at_x.key 0) ∷ []) DoneAnswer)
    -- an act more
    × (¬ Does met (Shape at_x) (Read 0 5 0 2 Fetched (DataQuestion at_x.key 0) ∷ Read 0 5 0 2 Fetched (DataQuestion at_x.key 0) ∷ []) (ShapeAnswer 0 2 Fetched))
    -- an act less
    × (¬ Does met (Shape at_x) [] (ShapeAnswer 0 2 Fetched))
    -- an unlock held back
    × (¬ DoesHeld met no_past (Shape at_x) (Read 0 5 0 2 Fetched (DataQuestion at_x.key 0) ∷ []) (ShapeAnswer 0 2 Fetched) (held_x ∷ []))
    -- a next
    × Does met (Next at_x (Some (Text []))) (Read 0 5 0 2 Fetched (NextQuestion at_x.key (Some (Text [])) None) ∷ []) (NextAnswer None 2 Fetched)
    -- another line
    × (¬ Does met (Next at_x (Some (Text []))) (Read 0 6 0 2 Fetched (NextQuestion at_x.key (Some (Text [])) None) ∷ []) (NextAnswer None 2 Fetched))
    -- another job's acts
    × (¬ DoesAs 2 (Next at_x (Some (Text []))) (Read 2 5 0 2 Fetched (NextQuestion at_x.key (Some (Text [])) None) ∷ []) (NextAnswer None 2 Fetched))
    -- another server
    × (¬ Does met (Next at_x (Some (Text []))) (Read 0 5 1 2 Fetched (NextQuestion at_x.key (Some (Text [])) None) ∷ []) (NextAnswer None 2 Fetched))
    -- another parent
    × (¬ Does met (Next at_x (Some (Text []))) (Read 0 5 0 2 Fetched (NextQuestion at_y.key (Some (Text [])) None) ∷ []) (NextAnswer None 2 Fetched))
    -- another subscript
    × (¬ Does met (Next at_x (Some (Text []))) (Read 0 5 0 2 Fetched (NextQuestion at_x.key (Some (Text five)) None) ∷ []) (NextAnswer None 2 Fetched))
    -- no subscript
    × (¬ Does met (Next at_x (Some (Text []))) (Read 0 5 0 2 Fetched (NextQuestion at_x.key None None) ∷ []) (NextAnswer None 2 Fetched))
    -- another question
    × (¬ Does met (Next at_x (Some (Text []))) (Read 0 5 0 2 Fetched (GetQuestion at_x.key None) ∷ []) (NextAnswer None 2 Fetched))
    -- the answer has another number
    × (¬ Does met (Next at_x (Some (Text []))) (Read 0 5 0 2 Fetched (NextQuestion at_x.key (Some (Text [])) None) ∷ []) (NextAnswer None 1 Fetched))
    -- the answer came in another way
    × (¬ Does met (Next at_x (Some (Text []))) (Read 0 5 0 2 Fetched (NextQuestion at_x.key (Some (Text [])) None) ∷ []) (NextAnswer None 2 Cached))
    -- the answer has another subscript
    × (¬ Does met (Next at_x (Some (Text []))) (Read 0 5 0 2 Fetched (NextQuestion at_x.key (Some (Text [])) None) ∷ []) (NextAnswer (Some (Text five)) 2 Fetched))
    -- another answer
    × (¬ Does met (Next at_x (Some (Text []))) (Read 0 5 0 2 Fetched (NextQuestion at_x.key (Some (Text [])) None) ∷ []) DoneAnswer)
    -- an act more
    × (¬ Does met (Next at_x (Some (Text []))) (Read 0 5 0 2 Fetched (NextQuestion at_x.key (Some (Text [])) None) ∷ Read 0 5 0 2 Fetched (NextQuestion at_x.key (Some (Text [])) None) ∷ []) (NextAnswer None 2 Fetched))
    -- an act less
    × (¬ Does met (Next at_x (Some (Text []))) [] (NextAnswer None 2 Fetched))
    -- an unlock held back
    × (¬ DoesHeld met no_past (Next at_x (Some (Text []))) (Read 0 5 0 2 Fetched (NextQuestion at_x.key (Some (Text [])) None) ∷ []) (NextAnswer None 2 Fetched) (held_x ∷ []))
