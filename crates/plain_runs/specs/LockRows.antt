-- The rows on holds.
use Rattle.std.specs.Prelude.{◌≡◌, ℕ, Bool, true, false, ◌==◌, ◌&&◌, ◌+◌, ◌≤◌, if◌then◌else◌, List, [], ◌∷◌, ◌++◌, length, take, Option, Some, None, map, filter, not, is_some, nat_eq, nat_lt}
use Rattle.std.specs.List.{list_any}
use Rattle.std.specs.Cmp.Lexicographic.{pointwise}
use Rattle.plain_orders.specs.declared.mode.Mode.{Mode}
use Rattle.plain_orders.specs.Entries.{live, closed_by}
use Rattle.plain_orders.specs.Ordered.{KeyMay}
use Rattle.plain_runs.specs.Plain.{Server, Job, Hold, Given, Quitted, pair_session, issued_in}
use Rattle.plain_runs.specs.Items.{all_stand}
use Rattle.plain_runs.specs.JobRows.{has_session, acted, sees_up}
use Rattle.plain_runs.specs.Holds.{binds, is_mode, opposes, is_sent_at, is_kept, is_asked, given_hold, new_hold, answered_hold, released_hold, given_up, is_same_given, freed_hold}

-- the quit is of this holder, node and mode
abbrev pub is_quit : ℕ → ℕ → Mode → List ℕ → Quitted → Bool
is_quit session job mode key q = (q.session == session && q.job == job) && (is_mode q.mode mode && pointwise nat_eq q.key key)

-- a lock on a node is granted against no hold in force of another holder, while no round is due
pub record GrantMay (s : Server) (session job : ℕ) (mode : Mode) (key : List ℕ) (at : ℕ) : Type 0 where
  pub is_live : live s.order session ≡ true
  pub up : s.due ≡ None
  pub here : at ≡ length s.order
  pub free : list_any (λ h. binds h && opposes session job mode key h) s.holds ≡ false
  pub node : KeyMay key

-- a grant reaches its job once its number is synced
pub record GrantedMay (s : Server) (app job at : ℕ) : Type 0 where
  pub session : has_session s app ≡ true
  pub sent : list_any (is_sent_at (pair_session s app) job at) s.holds ≡ true
  pub synced : at ≤ s.synced

-- a Close of the session is synced
pub record ReleaseMay (s : Server) (session : ℕ) : Type 0 where
  pub closed : closed_by s.order session s.synced ≡ true

-- an answered hold is given up, in force or not
pub record GiveUpMay (s : Server) (app job : ℕ) (mode : Mode) (key : List ℕ) : Type 0 where
  pub session : has_session s app ≡ true
  pub answered : list_any (is_kept (pair_session s app) job mode key) s.holds ≡ true

-- a request for a node is given up in the pair's session
pub record QuitMay (s : Server) (app : ℕ) (key : List ℕ) : Type 0 where
  pub session : has_session s app ≡ true
  pub node : KeyMay key

-- when a request of this holder, node and mode was given up
abbrev pub given_quit : ℕ → ℕ → Mode → List ℕ → Quitted → Option Given
given_quit session job mode key q = if is_quit session job mode key q then Some q.given else None

-- the one that came first
abbrev pub earlier : Option Given → Option Given → Option Given
earlier None o = o
earlier (Some g) None = Some g
earlier (Some g) (Some o) = if nat_lt o.turn g.turn then Some o else Some g

-- the one of a list that came first
abbrev pub earliest : List (Option Given) → Option Given
earliest [] = None
earliest (o ∷ os) = earlier o (earliest os)

-- what was given up first of this holder, node and mode
abbrev pub first_given : Server → ℕ → ℕ → Mode → List ℕ → Option Given
first_given s session job mode key = earlier (earliest (map (given_hold session job mode key) s.holds)) (earliest (map (given_quit session job mode key) s.quits))

-- how many items were issued in the session before
abbrev pub given_before : Option Given → ℕ
given_before None = 0
given_before (Some g) = g.before

-- what was given up first goes once all that its job had issued before stands in the order
pub record FreeMay (s : Server) (session job : ℕ) (mode : Mode) (key : List ℕ) : Type 0 where
  pub given : is_some (first_given s session job mode key) ≡ true
  pub entered : all_stand s.order session job 0 (take (given_before (first_given s session job mode key)) (issued_in s session)) ≡ true

-- what they change

-- the first hold that passes a test, changed
abbrev pub change_first : (Hold → Bool) → (Hold → Hold) → List Hold → List Hold
change_first p f [] = []
change_first p f (h ∷ hs) = if p h then f h ∷ hs else h ∷ change_first p f hs

-- the last hold that passes a test, changed
abbrev pub change_last : (Hold → Bool) → (Hold → Hold) → List Hold → List Hold
change_last p f [] = []
change_last p f (h ∷ hs) = if list_any p hs then h ∷ change_last p f hs else (if p h then f h ∷ hs else h ∷ hs)

-- the first quit that passes a test
abbrev pub first_quit : (Quitted → Bool) → List Quitted → Option Quitted
first_quit p [] = None
first_quit p (q ∷ qs) = if p q then Some q else first_quit p qs

-- without the first quit that passes a test
abbrev pub drop_quit : (Quitted → Bool) → List Quitted → List Quitted
drop_quit p [] = []
drop_quit p (q ∷ qs) = if p q then qs else q ∷ drop_quit p qs

-- a new hold, in place of the earliest quit of its holder, node and mode if there is one
abbrev pub grants : Server → ℕ → ℕ → Mode → List ℕ → ℕ → Server
grants s session job mode key at =
    record s {
      holds = s.holds ++ new_hold session job mode key at (first_quit (is_quit session job mode key) s.quits) ∷ [];
      quits = drop_quit (is_quit session job mode key) s.quits;
    }

-- the earliest such hold is answered
abbrev pub granted : Server → ℕ → ℕ → ℕ → Server
granted s app job at = sees_up (record s { holds = change_first (is_sent_at (pair_session s app) job at) answered_hold s.holds }) job at

-- the holds of the session are no longer in force, and its quits go
abbrev pub releases : Server → ℕ → Server
releases s session = record s { holds = map (released_hold session) s.holds; quits = filter (λ (q : Quitted). not (q.session == session)) s.quits }

-- given up at this turn, after what was issued in the session so far
abbrev pub given_now : Server → ℕ → Given
given_now s session = record { turn = s.turns; before = length (issued_in s session) }

-- the latest such hold is given up
abbrev pub gives_up : Server → ℕ → ℕ → Mode → List ℕ → Server
gives_up s app job mode key =
    acted
    (record s {
      holds = change_last (is_kept (pair_session s app) job mode key) (given_up (given_now s (pair_session s app))) s.holds;
      turns = s.turns + 1;
    })
    job

-- the earliest such sent hold is given up, or a quit is added
abbrev pub quits : Server → ℕ → ℕ → Mode → List ℕ → Server
quits s app job mode key =
    acted
    (record s {
      holds = change_first (is_asked (pair_session s app) job mode key) (given_up (given_now s (pair_session s app))) s.holds;
      quits = if list_any (is_asked (pair_session s app) job mode key) s.holds then s.quits else s.quits ++ (record { session = pair_session s app; job = job; mode = mode; key = key; given = given_now s (pair_session s app) }) ∷ [];
      turns = s.turns + 1;
    })
    job

-- the job gave a request up at this line
abbrev pub quits_at : Job → ℕ → Job
quits_at x line = record x { quit_lines = x.quit_lines ++ line ∷ [] }

-- the one that was given up first goes
abbrev pub frees : Server → ℕ → ℕ → Mode → List ℕ → Server
frees s session job mode key =
    record s {
      holds = map (freed_hold (first_given s session job mode key) session job mode key) s.holds;
      quits = filter (λ q. not (is_same_given (given_quit session job mode key q) (first_given s session job mode key))) s.quits;
    }
