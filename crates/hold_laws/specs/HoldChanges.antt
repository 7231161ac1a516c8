-- What acts make of a server's holds and of the requests that were given up.
use Rattle.std.specs.Prelude.{◌≡◌, ℕ, Bool, true, false, ◌==◌, ◌&&◌, ◌||◌, not, List, slice_get, take, is_some, nat_lt, IsSomeAnd}
use Rattle.plain_orders.specs.declared.act.Act.{Act}
use Rattle.plain_orders.specs.declared.act.Act.TheVariants.{Opened, Enter, Synced, Shut, Release, Met, Told, Back, Crash, Issue, Read}
use Rattle.plain_orders.specs.declared.act.Act.TheVariants.{Grant, Granted, GiveUp, Quit, Free, Counted, NotWhole, Range, Committed, RolledBack}
use Rattle.plain_orders.specs.declared.act.Act.TheVariants.{Reached, Level, Done, Refused, Broke, Mended, Tick, Lose, Died}
use Rattle.plain_orders.specs.declared.layout.Layout.{Layout}
use Rattle.plain_orders.specs.Entries.{live}
use Rattle.plain_runs.specs.Plain.{Plain, Server, Hold, app_of, pair_session}
use Rattle.plain_runs.specs.Holds.{binds, given_hold, is_asked, is_kept, is_same_given, is_sent, is_sent_at}
use Rattle.plain_runs.specs.LockRows.{first_given}
use Rattle.plain_runs.specs.Run.{after_all}
use Rattle.plain_runs.specs.Step.{after}
use Rattle.plain_runs.specs.Laws.{IsHold}

-- What becomes of a hold: it stays its holder's, of the same lock and number. It is answered, given up, no longer in force and
-- gone for good, and when it is gone it is neither answered nor given up any more.
pub record IsLater (h k : Hold) : Type 0 where
  pub session : k.session ≡ h.session
  pub job : k.job ≡ h.job
  pub mode : k.mode ≡ h.mode
  pub key : k.key ≡ h.key
  pub at : k.at ≡ h.at
  pub answered : h.answered ≡ true → k.answered ≡ true
  pub given : is_some h.given ≡ true → k.given ≡ h.given
  pub released : h.in_force ≡ false → k.in_force ≡ false
  pub gone : h.gone ≡ true → k.gone ≡ true
  pub frozen : h.gone ≡ true → (k.answered ≡ h.answered) × (k.given ≡ h.given)

-- A hold keeps its place, whatever acts come.
abbrev pub HoldsStay : Type 0
HoldsStay =
    (layout : Layout) (p : Plain) (acts : List Act) (d i : ℕ) (h : Hold) → IsHold (p.server_at d) i h
    → IsSomeAnd (slice_get ((after_all layout p acts).server_at d).holds i) (IsLater h)

-- an act that may change holds or requests that were given up
abbrev pub changes_holds : Act → Bool
changes_holds (Opened d entries) = false
changes_holds (Enter d entry) = false
changes_holds (Synced d n) = false
changes_holds (Shut d session cause) = false
changes_holds (Release d session) = true
changes_holds (Met app d session) = false
changes_holds (Told app d session epoch kept) = false
changes_holds (Back d) = true
changes_holds (Crash d kept) = true
changes_holds (Issue job line d w item) = false
changes_holds (Read job line d at via question) = false
changes_holds (Grant d session job mode key at) = true
changes_holds (Granted job line d at) = true
changes_holds (GiveUp job line d mode key) = true
changes_holds (Quit job line d mode key) = true
changes_holds (Free d session job mode key) = true
changes_holds (Counted job line d at sum) = false
changes_holds (NotWhole job line d at) = false
changes_holds (Range job line d at) = false
changes_holds (Committed job line d at) = false
changes_holds (RolledBack job line d at) = false
changes_holds (Reached job line d at) = false
changes_holds (Level job line level) = false
changes_holds (Done job line) = false
changes_holds (Refused job line refusal) = false
changes_holds (Broke app d end time) = false
changes_holds (Mended app d) = false
changes_holds (Tick time) = false
changes_holds (Lose app d loss) = false
changes_holds (Died app) = false

-- the same holds, the same requests that were given up, and the same turn that is next
pub record SameHolds (s t : Server) : Type 0 where
  pub holds : t.holds ≡ s.holds
  pub quits : t.quits ≡ s.quits
  pub turns : t.turns ≡ s.turns

-- Every other act leaves them.
abbrev pub OthersLeaveHolds : Type 0
OthersLeaveHolds = (layout : Layout) (p : Plain) (a : Act) (d : ℕ) → changes_holds a ≡ false → SameHolds (p.server_at d) ((after layout p a).server_at d)

-- The holds of a server that an act there may change; where it answers a grant, or gives a lock or a request up, it changes one of these.
abbrev pub may_change : Layout → Server → Act → Hold → Bool
may_change l s (Opened d entries) h = false
may_change l s (Enter d entry) h = false
may_change l s (Synced d n) h = false
may_change l s (Shut d session cause) h = false
may_change l s (Release d session) h = h.session == session && h.in_force
may_change l s (Met app d session) h = false
may_change l s (Told app d session epoch kept) h = false
may_change l s (Back d) h = live s.order h.session && (binds h && (not h.answered || is_some h.given))
may_change l s (Crash d kept) h = (h.in_force && not (live (take kept s.order) h.session)) || (is_sent h && nat_lt kept h.at)
may_change l s (Issue job line d w item) h = false
may_change l s (Read job line d at via question) h = false
may_change l s (Grant d session job mode key at) h = false
may_change l s (Granted job line d at) h = is_sent_at (pair_session s (app_of l job)) job at h
may_change l s (GiveUp job line d mode key) h = is_kept (pair_session s (app_of l job)) job mode key h
may_change l s (Quit job line d mode key) h = is_asked (pair_session s (app_of l job)) job mode key h
may_change l s (Free d session job mode key) h = is_same_given (given_hold session job mode key h) (first_given s session job mode key)
may_change l s (Counted job line d at sum) h = false
may_change l s (NotWhole job line d at) h = false
may_change l s (Range job line d at) h = false
may_change l s (Committed job line d at) h = false
may_change l s (RolledBack job line d at) h = false
may_change l s (Reached job line d at) h = false
may_change l s (Level job line level) h = false
may_change l s (Done job line) h = false
may_change l s (Refused job line refusal) h = false
may_change l s (Broke app d end time) h = false
may_change l s (Mended app d) h = false
may_change l s (Tick time) h = false
may_change l s (Lose app d loss) h = false
may_change l s (Died app) h = false

-- An act leaves each other hold as it was.
abbrev pub OthersStay : Type 0
OthersStay =
    (layout : Layout) (p : Plain) (a : Act) (d i : ℕ) (h : Hold) → IsHold (p.server_at d) i h → may_change layout (p.server_at d) a h ≡ false
    → IsHold ((after layout p a).server_at d) i h
