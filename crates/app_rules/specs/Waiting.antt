-- Why a command waits: the first of its reasons that holds of the step's own ends and job.
use Rattle.std.specs.Prelude.{◌≡◌, ℕ, Bool, true, false, ◌&&◌, not, if◌then◌else◌, List, [], ◌∷◌, Option, Some, None, is_some}
use Rattle.std.specs.List.{find, list_all}
use Rattle.subscript_keys.specs.declared.sub.Sub.{Sub}
use Rattle.subscript_keys.specs.Span.{span_hi}
use Rattle.plain_orders.specs.Own.{touches_own}
use Rattle.ecp_messages.specs.declared.about.About.{About}
use Rattle.ecp_messages.specs.declared.about.About.TheVariants.{Counted, NotWhole, Range, Committed, RolledBack, Synced}
use Rattle.app_job.specs.declared.command.Command.{Command}
use Rattle.app_job.specs.declared.command.Command.TheVariants.{Set, Kill, Get, Shape, Next, Incr, Lock, Unlock, Start, Commit, Rollback, Sync}
use Rattle.app_job.specs.declared.answer.Answer.{Answer}
use Rattle.app_job.specs.declared.answer.Answer.TheVariants as answers
use Rattle.app_job.specs.declared.why.Why.{Why}
use Rattle.app_job.specs.declared.why.Why.TheVariants as why
use Rattle.end_words.specs.Runs.{covers}
use Rattle.app_rules.specs.AppState.{AppState}
use Rattle.app_rules.specs.declared.app_outs.AppOuts.{AppOuts}
use Rattle.app_rules.specs.declared.session_parts.Asked.{Asked}
use Rattle.app_rules.specs.declared.session_parts.Ended.{Ended}
use Rattle.app_rules.specs.declared.session_parts.Syncing.{Syncing}
use Rattle.app_rules.specs.declared.session_parts.Told.{Told}
use Rattle.app_rules.specs.declared.session_parts.Updated.{Updated}
use Rattle.app_rules.specs.JobState.{JobState, Work}
use Rattle.app_rules.specs.Refusing.{refusal_of}
use Rattle.app_rules.specs.Issuing.{is_up, is_full, has_own, own_ops, told_at}
use Rattle.app_rules.specs.Reading.{Walked, walks, holds_below, cache_of, next_walk}
use Rattle.app_rules.specs.Reading.Walked.{Needs, Finds, Ends}
use Rattle.app_rules.specs.Locking.{ask_of_job, is_due}
use Rattle.app_rules.specs.Ending.{HowEnded, living, has_room, are_up, is_up_end, is_told_end, is_inner, sync_of_job}
use Rattle.app_rules.specs.JobStep.{JobStep, is_waiting, work_of}

-- a reason, and whether it holds
pub record WaitReason : Type 0 where
  pub holds : Bool
  pub why : Why

-- the first that holds
abbrev pub first_why : List WaitReason → Option Why
first_why [] = None
first_why (r ∷ rs) = if r.holds then Some r.why else first_why rs

-- the connection isn't Normal
abbrev pub off : Work → ℕ → WaitReason
off w d = record { holds = not (is_up w d); why = why.State }

-- the command needs a place, and the queue holds as many items as it may
abbrev pub full : Work → ℕ → WaitReason
full w d = record { holds = is_full w d; why = why.Queue }

-- the job's own Sets and Kills haven't all entered by the front
abbrev pub own : Work → ℕ → WaitReason
own w d = record { holds = has_own w d; why = why.Own }

-- no cached run covers the node, and no own update decides its value
abbrev pub needs_node : Work → ℕ → List ℕ → Bool
needs_node w d key = not (touches_own (own_ops w d) key) && not (is_some (find (covers key) (cache_of w d)))

-- a walk ended at a key that no run covers
abbrev pub needs_key : Walked → Bool
needs_key (Needs key) = true
needs_key (Finds run) = false
needs_key Ends = false

-- no cached run covers a needed key
abbrev pub unread : Bool → WaitReason
unread needs = record { holds = needs; why = why.Fetch }

-- the walk of a command that asks for a node's shape
abbrev pub shape_needs : Work → ℕ → List ℕ → Bool
shape_needs w d key = needs_key (walks (holds_below key) (span_hi key) key (cache_of w d)).walked

-- the walk of a next
abbrev pub next_needs : Work → ℕ → List ℕ → Option Sub → Bool
next_needs w d parent sub = needs_key (next_walk d parent sub w).walked

-- a Grant was taken in this epoch
abbrev pub is_granted : Option Asked → Bool
is_granted None = false
is_granted (Some a) = is_some a.at

-- no Grant was taken in this epoch, and the time to wait isn't over
abbrev pub ungranted : Work → ℕ → Option ℕ → ℕ → WaitReason
ungranted w d wait now = record { holds = not (is_granted (ask_of_job w d)) && not (is_due wait w.at.first now); why = why.Grant }

-- no Answer was taken
abbrev pub unanswered : Bool → WaitReason
unanswered answered = record { holds = not answered; why = why.Reply }

-- what an Answer tells of an increment
abbrev pub is_sum : About → Bool
is_sum Counted = true
is_sum NotWhole = true
is_sum Range = true
is_sum Committed = false
is_sum RolledBack = false
is_sum Synced = false

-- the Answer of an increment was taken
abbrev pub is_sum_told : Option Told → Bool
is_sum_told None = false
is_sum_told (Some t) = is_sum t.about

-- of an increment, by its number where it was issued before
abbrev pub incr_why : Option ℕ → Work → ℕ → Option Why
incr_why None w d = first_why (off w d ∷ full w d ∷ own w d ∷ unanswered false ∷ [])
incr_why (Some n) w d = first_why (off w d ∷ unanswered (is_sum_told (told_at w d n)) ∷ [])

-- some connection that is needed isn't Normal
abbrev pub any_off : Bool → WaitReason
any_off all_up = record { holds = not all_up; why = why.State }

-- some queue that gets the end of the transaction has no place
abbrev pub any_full : Bool → WaitReason
any_full all_have_room = record { holds = not all_have_room; why = why.Queue }

-- an end of the transaction is put whose Answer is wanted
abbrev pub is_awaited : Bool → List Updated → Bool
is_awaited wanted [] = false
is_awaited wanted (u ∷ us) = wanted

-- of the ends that were put at a step before
abbrev pub put_why : List Ended → Bool → Work → Option Why
put_why [] wanted w = None
put_why (e ∷ es) false w = None
put_why (e ∷ es) true w = first_why (any_off (list_all (is_up_end w) (e ∷ es)) ∷ unanswered (list_all (is_told_end w) (e ∷ es)) ∷ [])

-- of the end of the outermost transaction
abbrev pub end_why : Option (List Ended) → HowEnded → Work → Option Why
end_why None how w =
    first_why (any_off (are_up w) ∷ any_full (list_all (has_room w) (living w)) ∷ unanswered (not (is_awaited how.wanted (living w))) ∷ [])
end_why (Some ends) how w = put_why ends how.wanted w

-- of a sync, by whether it was put before
abbrev pub sync_why : Option Syncing → Work → ℕ → Option Why
sync_why None w d = first_why (off w d ∷ own w d ∷ unanswered false ∷ [])
sync_why (Some a) w d = first_why (off w d ∷ unanswered (is_some a.at) ∷ [])

-- Why a command that isn't refused waits, if it does, at the beginning of a step.
abbrev pub why_of : Command → ℕ → Work → Option Why
why_of (Set at value) now w = first_why (off w at.server ∷ full w at.server ∷ [])
why_of (Kill at) now w = first_why (off w at.server ∷ full w at.server ∷ [])
why_of (Get at) now w = first_why (off w at.server ∷ unread (needs_node w at.server at.key) ∷ [])
why_of (Shape at) now w = first_why (off w at.server ∷ own w at.server ∷ unread (shape_needs w at.server at.key) ∷ [])
why_of (Next parent sub) now w = first_why (off w parent.server ∷ own w parent.server ∷ unread (next_needs w parent.server parent.key sub) ∷ [])
why_of (Incr at amount) now w = incr_why w.at.added w at.server
why_of (Lock at mode wait) now w = first_why (off w at.server ∷ ungranted w at.server wait now ∷ [])
why_of (Unlock at mode at_once) now w = first_why (off w at.server ∷ [])
why_of Start now w = None
why_of (Commit sync) now w = if is_inner w then None else end_why w.at.ends (record { commits = true; wanted = sync }) w
why_of Rollback now w = end_why w.at.ends (record { commits = false; wanted = true }) w
why_of (Sync server) now w = sync_why (sync_of_job w server) w server

-- the command waits for exactly this, or is over
abbrev pub WaitsFor : Option Why → Answer → Type 0
WaitsFor None answer = is_waiting answer ≡ false
WaitsFor (Some y) answer = answer ≡ answers.Waiting y

-- a command that isn't refused waits with the first of its reasons that holds, and is over where none does
abbrev pub WaitsForTheFirst : Type 0
WaitsForTheFirst = (a new : AppState) (j job : JobState) (now line : ℕ) (command : Command) (answer : Answer) (outs : AppOuts)
    → JobStep a j now line command answer outs new job → refusal_of command a j (work_of a j now line).at ≡ None
    → WaitsFor (why_of command now (work_of a j now line)) answer
