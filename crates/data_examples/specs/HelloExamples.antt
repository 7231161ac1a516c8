-- Examples of a start, of a Hello and of the save of its Open; and of inputs that are refused since one condition fails: it is named above each.
use Rattle.std.specs.Prelude.{◌<◌, List, [], ◌∷◌, replicate, set}
use Rattle.plain_orders.specs.declared.act.Act.TheVariants.{Enter, Synced, Shut}
use Rattle.plain_orders.specs.declared.causes.ShutCause.TheVariants.{Replaced}
use Rattle.plain_orders.specs.declared.entry.Entry.{Entry}
use Rattle.plain_orders.specs.declared.entry.Entry.TheVariants.{Epoch, Opened, Closed}
use Rattle.plain_orders.specs.declared.limits.TheConstants.{START_EPOCH_LIMIT}
use Rattle.plain_orders.specs.Entries.{last_epoch}
use Rattle.ecp_messages.specs.declared.down.Down.TheVariants.{Welcome}
use Rattle.ecp_messages.specs.declared.up.Up.TheVariants.{Hello, Done}
use Rattle.end_words.specs.Windows.{fresh}
use Rattle.data_rules.specs.declared.limits.TheConstants.{APP_LIMIT}
use Rattle.data_rules.specs.declared.data_in.DataIn.TheVariants.{Frame, Connected, Saved}
use Rattle.data_rules.specs.declared.rows.Role.TheVariants.{Bound}
use Rattle.data_rules.specs.declared.rows.Says.TheVariants.{NewWelcome}
use Rattle.data_rules.specs.DataState.{DataState}
use Rattle.data_rules.specs.Puts.{Sofar, begun, no_outs, frame_on}
use Rattle.data_rules.specs.Callers.{TakesHello}
use Rattle.data_rules.specs.Step.{DataStep, DataMay, StartMay, DataStart}
use Rattle.data_examples.specs.Servers.{times, up, outs, head, began, accepted, greeted, welcomed, accepted_more}

-- a second Hello of application server 1 is taken on connection 8: its session is closed, and a new one opens
abbrev pub replaced : DataState
replaced =
    record welcomed {
      order = Epoch 1 ∷ Opened 2 1 ∷ Closed 2 ∷ Opened 4 1 ∷ [];
      dials = set (replicate APP_LIMIT 0) 1 2;
      conns = record { number = 8; role = Bound 4 } ∷ [];
      windows = record { session = 4; window = fresh } ∷ [];
      replies = record { at = 4; says = NewWelcome 8 4 } ∷ [];
    }

-- a start, a Hello and a save
abbrev pub HelloExamples : Type 0
HelloExamples =
    -- a start
    StartMay []
    × DataStart 0 times [] 0 no_outs began
    -- ordered
    × (StartMay (Epoch 2 ∷ []) → ⊥)
    -- low
    × ((es : List Entry) → START_EPOCH_LIMIT < last_epoch es → StartMay es → ⊥)
    -- a connection
    × DataMay began (Connected 7)
    × DataStep began 0 (Connected 7) no_outs accepted
    -- it is there already
    × (DataMay accepted (Connected 7) → ⊥)
    -- a Hello
    × DataStep accepted 0 (Frame 7 (up 0 0 (Hello 1 1))) (outs [] [] (Enter 0 (Opened 2 1) ∷ [])) greeted
    -- a frame that is none: a numbered message has no number
    × DataMay accepted (Frame 7 (up 1 0 Done))
    × (DataMay accepted (Frame 7 (up 0 0 Done)) → ⊥)
    -- another message comes first
    × DataStep accepted 0 (Frame 7 (up 1 0 Done)) (outs [] (7 ∷ []) []) began
    -- the Epoch is saved: nothing leaves
    × DataStep greeted 0 (Saved 1) (outs [] [] (Synced 0 1 ∷ [])) (record greeted { synced = 1 })
    -- the Open is saved: its Welcome leaves
    × DataMay greeted (Saved 2)
    × DataStep greeted 0 (Saved 2) (outs (frame_on 7 0 0 (Welcome 2 1 2 (head 2 0 0) 0) ∷ []) [] (Synced 0 2 ∷ [])) welcomed
    -- within
    × (DataMay greeted (Saved 3) → ⊥)
    -- no_less
    × (DataMay welcomed (Saved 1) → ⊥)
    -- a second Hello
    × DataStep accepted_more 0 (Frame 8 (up 0 0 (Hello 1 2))) (outs [] (7 ∷ []) (Shut 0 2 Replaced ∷ Enter 0 (Opened 4 1) ∷ [])) replaced
    -- later
    × ((c : Sofar) → TakesHello (begun accepted_more) 8 0 1 0 c → ⊥)
    × DataStep accepted_more 0 (Frame 8 (up 0 0 (Hello 1 0))) (outs [] (8 ∷ []) []) welcomed
