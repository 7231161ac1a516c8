-- The state, the moment, the line and the command decide what a job's step puts, writes, leaves and answers.
use Rattle.std.proofs.Common.{◌≡◌, ℕ, Bool, true, false, List, ◌++◌, refl, sym, ap, ◌∙◌, length, drop, Option, Some, None, append_assoc}
use Rattle.std.proofs.lemmas.List.{append_cancel_left}
use Rattle.subscript_keys.specs.declared.sub.Sub.{Sub}
use Rattle.subscript_keys.specs.Key.{sub_bytes}
use Rattle.subscript_keys.proofs.Ties.{one-sub}
use Rattle.plain_orders.specs.Answers.{IsSubIn}
use Rattle.plain_orders.proofs.NodeKeys.{under_rest}
use Rattle.app_job.specs.Sites.{Site}
use Rattle.app_job.specs.declared.command.Command.{Command}
use Rattle.app_job.specs.declared.command.Command.TheVariants.{Set, Kill, Get, Shape, Next, Incr, Lock, Unlock, Start, Commit, Rollback, Sync}
use Rattle.app_job.specs.declared.refusal.Refusal.{Refusal}
use Rattle.app_rules.specs.JobState.{Work, Turn}
use Rattle.app_rules.specs.Refusing.{refusal_of}
use Rattle.app_rules.specs.Issuing.{is_up, uses, has_own}
use Rattle.app_rules.specs.Reading.{Walk, Walked, NextsFound, NextsWalked, next_walk, nexts, caches, found_key}
use Rattle.app_rules.specs.Reading.Walked.{Needs, Finds, Ends}
use Rattle.app_rules.specs.JobStep.{NextsFree, NextsUp, Does, Turns, ended, work_of}
use Rattle.app_rules.specs.Laws.{JobStepsAlike}

as_one : {X : Type 0} {b c x : X} → b ≡ x → c ≡ x → c ≡ b
as_one e f = f ∙ sym e

-- one subscript stands in a key right after the parent
sub_alike : (parent : List ℕ) (key : Option (List ℕ)) (a b : Option Sub) → IsSubIn parent key a → IsSubIn parent key b → b ≡ a
sub_alike parent None None None x y = refl
sub_alike parent None None (Some t) x y = absurd y
sub_alike parent None (Some s) b x y = absurd x
sub_alike parent (Some key) None b x y = absurd x
sub_alike parent (Some key) (Some s) None x y = absurd y
sub_alike parent (Some key) (Some s) (Some t) x y =
    let p : key ≡ parent ++ (sub_bytes s ++ drop (length (parent ++ sub_bytes s)) key) = under_rest (parent ++ sub_bytes s) key x.1 ∙ append_assoc parent (sub_bytes s) _ in
    let q : key ≡ parent ++ (sub_bytes t ++ drop (length (parent ++ sub_bytes t)) key) = under_rest (parent ++ sub_bytes t) key y.1 ∙ append_assoc parent (sub_bytes t) _ in
    ap Some (one-sub t s _ _ y.0 x.0 (append_cancel_left parent _ _ (sym q ∙ p))).0

found_alike : (x : Walk) (d : ℕ) (parent : List ℕ) (sub : Option Sub) (w : Work) (t u : Turn) → NextsFound x d parent sub w t → NextsFound x d parent sub w u → u ≡ t
found_alike x d parent sub w t u g h =
    as_one g.after (h.after ∙ ap (λ f. nexts d parent sub f (caches d x.cache w)) (sub_alike parent (found_key x.walked parent sub) g.found h.found g.its h.its))

walked_alike : (k : Walked) (x : Walk) (d : ℕ) (parent : List ℕ) (sub : Option Sub) (w : Work) (t u : Turn)
    → NextsWalked k x d parent sub w t → NextsWalked k x d parent sub w u → u ≡ t
walked_alike (Needs needed) x d parent sub w t u g h = as_one g h
walked_alike (Finds run) x d parent sub w t u g h = found_alike x d parent sub w t u g h
walked_alike Ends x d parent sub w t u g h = found_alike x d parent sub w t u g h

free_alike : (own : Bool) (parent : Site) (sub : Option Sub) (w : Work) (t u : Turn) → NextsFree own parent sub w t → NextsFree own parent sub w u → u ≡ t
free_alike true parent sub w t u g h = as_one g h
free_alike false parent sub w t u g h =
    walked_alike (next_walk parent.server parent.key sub w).walked (next_walk parent.server parent.key sub w) parent.server parent.key sub w t u g h

up_alike : (up : Bool) (parent : Site) (sub : Option Sub) (w : Work) (t u : Turn) → NextsUp up parent sub w t → NextsUp up parent sub w u → u ≡ t
up_alike true parent sub w t u g h = free_alike (has_own w parent.server) parent sub (uses parent.server w) t u g h
up_alike false parent sub w t u g h = as_one g h

does_alike : (command : Command) (now : ℕ) (w : Work) (t u : Turn) → Does command now w t → Does command now w u → u ≡ t
does_alike (Set at value) now w t u g h = as_one g h
does_alike (Kill at) now w t u g h = as_one g h
does_alike (Get at) now w t u g h = as_one g h
does_alike (Shape at) now w t u g h = as_one g h
does_alike (Next parent sub) now w t u g h = up_alike (is_up w parent.server) parent sub w t u g h
does_alike (Incr at amount) now w t u g h = as_one g h
does_alike (Lock at mode wait) now w t u g h = as_one g h
does_alike (Unlock at mode at_once) now w t u g h = as_one g h
does_alike Start now w t u g h = as_one g h
does_alike (Commit sync) now w t u g h = as_one g h
does_alike Rollback now w t u g h = as_one g h
does_alike (Sync server) now w t u g h = as_one g h

turns_alike : (r : Option Refusal) (command : Command) (now : ℕ) (w : Work) (t u : Turn) → Turns r command now w t → Turns r command now w u → u ≡ t
turns_alike (Some r) command now w t u g h = as_one g h
turns_alike None command now w t u g h = does_alike command now w t u g h

pub job_steps_alike : JobStepsAlike
job_steps_alike a new other j job other_job now line command answer other_answer outs other_outs x y =
    let e : y.turn ≡ x.turn = turns_alike (refusal_of command a j (work_of a j now line).at) command now (work_of a j now line) x.turn y.turn x.turns y.turns in (
      as_one x.app (y.app ∙ ap (λ t. (ended t).ends.state) e),
      as_one x.puts (y.puts ∙ ap (λ t. (ended t).ends.outs) e),
      as_one x.job (y.job ∙ ap (λ t. (ended t).job) e),
      as_one x.answered (y.answered ∙ ap (λ t. t.answer) e),
    )
