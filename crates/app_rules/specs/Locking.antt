-- Locks and unlocks of a job.
use Rattle.std.specs.Prelude.{ℕ, Bool, true, false, ◌==◌, ◌&&◌, ◌+◌, ◌-◌, if◌then◌else◌, List, [], ◌∷◌, ◌++◌, Option, Some, None, nat_le, nat_eq}
use Rattle.std.specs.List.{find, list_any}
use Rattle.std.specs.Cmp.Lexicographic.{pointwise}
use Rattle.plain_orders.specs.declared.mode.Mode.{Mode}
use Rattle.plain_orders.specs.declared.mode.Mode.TheVariants.{Exclusive, Shared}
use Rattle.plain_orders.specs.declared.act.Act.TheVariants.{Granted, GiveUp, Done}
use Rattle.plain_orders.specs.Times.{until}
use Rattle.ecp_messages.specs.declared.up.Up.TheVariants.{Ask, Unlock}
use Rattle.app_job.specs.Sites.{Site}
use Rattle.app_job.specs.declared.answer.Answer.TheVariants as answers
use Rattle.app_job.specs.declared.why.Why.TheVariants as why
use Rattle.app_job.specs.declared.refusal.Refusal.TheVariants.{LockTimeout}
use Rattle.plain_orders.specs.declared.refused.Refused.TheVariants as words
use Rattle.app_rules.specs.AppState.{AppEnd, Session}
use Rattle.app_rules.specs.declared.session_parts.Asked.{Asked}
use Rattle.app_rules.specs.declared.session_parts.Held.{Held}
use Rattle.app_rules.specs.Works.{writes, puts, sets, becomes, end_at, session_at}
use Rattle.app_rules.specs.JobState.{JobState, Work, Turn, turn, on, in_job}
use Rattle.app_rules.specs.Refusing.{is_ask_of, quits, says_no}
use Rattle.app_rules.specs.Issuing.{waits, when_normal, when_up}

-- two modes are one
abbrev pub is_same_mode : Mode → Mode → Bool
is_same_mode Exclusive Exclusive = true
is_same_mode Exclusive Shared = false
is_same_mode Shared Exclusive = false
is_same_mode Shared Shared = true

-- what a job holds of a name in a mode
abbrev pub is_lane : ℕ → Mode → List ℕ → Held → Bool
is_lane job mode key h = h.job == job && is_same_mode mode h.mode && pointwise nat_eq key h.key

-- the job holds the name in the mode
abbrev pub is_held : Session → ℕ → Mode → List ℕ → Bool
is_held s job mode key = list_any (is_lane job mode key) s.held

-- one more is held
abbrev pub raised : ℕ → Mode → List ℕ → ℕ → List Held → List Held
raised job mode key at [] = record { job = job; mode = mode; key = key; count = 1; at = at } ∷ []
raised job mode key at (h ∷ hs) = if is_lane job mode key h then record h { count = h.count + 1 } ∷ hs else h ∷ raised job mode key at hs

-- one less
abbrev pub lowered : ℕ → Mode → List ℕ → List Held → List Held
lowered job mode key [] = []
lowered job mode key (h ∷ hs) =
    if is_lane job mode key h then (if h.count == 1 then hs else record h { count = h.count - 1 } ∷ hs) else h ∷ lowered job mode key hs

-- a ticket more
abbrev pub with_ticket : AppEnd → AppEnd
with_ticket e = record e { ticket = e.ticket + 1 }

-- an Ask more that a command waits for
abbrev pub with_ask : ℕ → ℕ → Mode → List ℕ → Session → Session
with_ask ticket job mode key s =
    record s { asks = s.asks ++ record { ticket = ticket; job = job; mode = mode; key = key; put = true; at = None } ∷ [] }

-- an Ask is put
abbrev pub asks : ℕ → Mode → List ℕ → Work → Work
asks d mode key w =
    on (puts d (Ask ((end_at w.ends.state d).ticket + 1) w.job.index mode key))
    (on (sets d (with_ask ((end_at w.ends.state d).ticket + 1) w.job.index mode key))
    (on (becomes d with_ticket) w))

-- the Ask of the job's command, where one is there
abbrev pub ask_of_job : Work → ℕ → Option Asked
ask_of_job w d = find (is_ask_of w.job.index) (session_at w.ends.state d).asks

-- the job holds the name once more
abbrev pub with_held : ℕ → Mode → List ℕ → ℕ → Session → Session
with_held job mode key at s = record s { held = raised job mode key at s.held }

-- the command's grant was delivered
abbrev pub holds_now : ℕ → Mode → List ℕ → ℕ → Work → Turn
holds_now d mode key at w =
    turn (on (writes (Granted w.job.index w.at.line d at)) (on (sets d (with_held w.job.index mode key at)) w)) (answers.Granted at)

-- the due time is reached: the request is given up
abbrev pub times_out : ℕ → Mode → List ℕ → Work → Turn
times_out d mode key w = turn (says_no words.LockTimeout (quits d mode key w)) (answers.Refused LockTimeout)

-- the time to wait is over, counted from the command's first step
abbrev pub is_due : Option ℕ → ℕ → ℕ → Bool
is_due None first now = false
is_due (Some ticks) first now = nat_le (until first ticks) now

-- by whether the time to wait is over
abbrev pub waits_grant : Bool → ℕ → Mode → List ℕ → Work → Turn
waits_grant true d mode key w = times_out d mode key w
waits_grant false d mode key w = waits why.Grant w

-- by whether a Grant was taken in this epoch
abbrev pub by_grant : Option ℕ → ℕ → Mode → List ℕ → Option ℕ → ℕ → Work → Turn
by_grant (Some at) d mode key wait now w = holds_now d mode key at w
by_grant None d mode key wait now w = waits_grant (is_due wait w.at.first now) d mode key w

-- by the Ask of the command, which is put where there is none; its Grant can't have been taken then
abbrev pub locks_by : Option Asked → ℕ → Mode → List ℕ → Option ℕ → ℕ → Work → Turn
locks_by None d mode key wait now w = by_grant None d mode key wait now (asks d mode key w)
locks_by (Some a) d mode key wait now w = by_grant a.at d mode key wait now w

-- a lock at a Normal connection
abbrev pub locks_now : ℕ → Mode → List ℕ → Option ℕ → ℕ → Work → Turn
locks_now d mode key wait now w = locks_by (ask_of_job w d) d mode key wait now w

-- A lock.
abbrev pub lock_turn : Site → Mode → Option ℕ → ℕ → Work → Turn
lock_turn at mode wait now w = when_normal at.server (locks_now at.server mode at.key wait now) w

-- a command is done
abbrev pub done : Work → Turn
done w = turn (on (writes (Done w.job.index w.at.line)) w) answers.Done

-- the job holds the name once less
abbrev pub without_held : ℕ → Mode → List ℕ → Session → Session
without_held job mode key s = record s { held = lowered job mode key s.held }

-- a hold is given up
abbrev pub gives_up : ℕ → Mode → List ℕ → Work → Work
gives_up d mode key w =
    on (puts d (Unlock w.job.index mode key))
    (on (writes (GiveUp w.job.index w.at.line d mode key))
    (on (sets d (without_held w.job.index mode key)) w))

-- where it is held
abbrev pub gives_up_if : Bool → ℕ → Mode → List ℕ → Work → Work
gives_up_if true d mode key w = gives_up d mode key w
gives_up_if false d mode key w = w

-- the job holds the name in the mode at this data server
abbrev pub holds_it : Work → ℕ → Mode → List ℕ → Bool
holds_it w d mode key = is_held (session_at w.ends.state d) w.job.index mode key

-- an unlock waits for the end of the transaction
abbrev pub with_held_back : ℕ → ℕ → Mode → List ℕ → JobState → JobState
with_held_back d session mode key j =
    record j { held_back = j.held_back ++ record { server = d; session = session; mode = mode; key = key } ∷ [] }

-- an unlock of what isn't held is not held back
abbrev pub holds_back_if : Bool → ℕ → Mode → List ℕ → Work → Work
holds_back_if true d mode key w = in_job (with_held_back d (session_at w.ends.state d).number mode key) w
holds_back_if false d mode key w = w

-- at once, or held back
abbrev pub unlocks_held : Bool → ℕ → Mode → List ℕ → Work → Work
unlocks_held true d mode key w = gives_up_if (holds_it w d mode key) d mode key w
unlocks_held false d mode key w = holds_back_if (holds_it w d mode key) d mode key w

-- An unlock.
abbrev pub unlock_turn : Site → Mode → Bool → Work → Turn
unlock_turn at mode now w =
    when_up at.server (λ v. done (unlocks_held (if now then true else v.job.level == 0) at.server mode at.key v)) w
