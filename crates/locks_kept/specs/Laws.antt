-- Moves that keep what holds in force are of, what the rows of a table of locks are, and what the Grants say that wait.
use Rattle.std.specs.Prelude.{◌≡◌, ◌<◌, ⊤, ℕ, true, List, length, IfSome}
use Rattle.std.specs.List.{AllByRecursion}
use Rattle.plain_orders.specs.declared.act.Act.{Act}
use Rattle.plain_orders.specs.declared.layout.Layout.{Layout}
use Rattle.plain_runs.specs.Run.{IsRun, state_after}
use Rattle.data_rules.specs.DataState.{DataState}
use Rattle.cluster_runs.specs.declared.move_outs.MoveOuts.{MoveOuts}
use Rattle.cluster_runs.specs.declared.moves.Move.{Move}
use Rattle.cluster_runs.specs.declared.moves.Move.TheVariants.{App, Begin, Die, Halt, Looked, Server, Step, Tick}
use Rattle.cluster_runs.specs.CoresState.{CoresState}
use Rattle.cluster_runs.specs.Goes.{Goes}
use Rattle.cluster_runs.specs.Machine.{Machine}
use Rattle.cluster_runs.specs.Mirrors.{Mirrors}
use Rattle.cluster_runs.specs.Moves.{Allowed}
use Rattle.cluster_invariant.specs.Holds.{Holds}
use Rattle.cluster_promises.specs.Forced.{AllForced}
use Rattle.cluster_promises.specs.Locks.{GrantWaits, LockMay, has_one_row}

-- at each data server, each hold in force is of a live session, or of one whose Close isn't synced
abbrev pub EachForced : Layout → Machine → Type 0
EachForced l m = (d : ℕ) → AllForced ((state_after l m.trail).server_at d)

-- Each move keeps it, where the trail stays a run.
abbrev pub MovesKeepForced : Type 0
MovesKeepForced = (l : Layout) (c : CoresState) (m : Machine) (move : Move) (outs : MoveOuts) (written : List Act) (new : Machine)
    → Holds l m → EachForced l m → IsRun l m.trail → Mirrors c m → Allowed c move → Goes m move outs written new → IsRun l new.trail → EachForced l new

-- what is put upwards in any lane asks for names that may be locked, and claims one hold at least
abbrev pub EachUpMay : Machine → Type 0
EachUpMay m = (d session k : ℕ) → AllByRecursion LockMay ((m.site_at d).lane_at session k).up

-- the table of a running node: each row counts one hold at least, and no two are of one lock of one holder
pub record RowsAre (n : DataState) : Type 0 where
  pub positive : AllByRecursion (λ h. 0 < h.count) n.locks.holds
  pub one_each : has_one_row n.locks.holds ≡ true

-- at each data server that runs
abbrev pub EachRows : Machine → Type 0
EachRows m = (d : ℕ) → IfSome (m.site_at d).node RowsAre

-- Each move keeps that.
abbrev pub MovesKeepRows : Type 0
MovesKeepRows = (l : Layout) (c : CoresState) (m : Machine) (move : Move) (outs : MoveOuts) (written : List Act) (new : Machine)
    → Holds l m → EachUpMay m → EachRows m → IsRun l m.trail → Mirrors c m → Allowed c move → Goes m move outs written new → EachRows new

-- each Grant that waits at a running node says the length at which it was granted
abbrev pub GrantsWait : DataState → Type 0
GrantsWait n = AllByRecursion (λ r. GrantWaits (length n.order) r.at r.says) n.replies

-- at each data server that runs
abbrev pub EachGrantsWait : Machine → Type 0
EachGrantsWait m = (d : ℕ) → IfSome (m.site_at d).node GrantsWait

-- Each move keeps that.
abbrev pub MovesKeepGrants : Type 0
MovesKeepGrants = (l : Layout) (c : CoresState) (m : Machine) (move : Move) (outs : MoveOuts) (written : List Act) (new : Machine)
    → Holds l m → EachGrantsWait m → IsRun l m.trail → Mirrors c m → Allowed c move → Goes m move outs written new → EachGrantsWait new

-- a move is no input of an application server and no step of a job's command
abbrev pub IsBeside : Move → Type 0
IsBeside (Step job now line command) = ⊥
IsBeside (Looked job line command) = ⊤
IsBeside (App app now input) = ⊥
IsBeside (Server server now input) = ⊤
IsBeside (Begin server now entries) = ⊤
IsBeside (Halt server) = ⊤
IsBeside (Die app) = ⊤
IsBeside (Tick now) = ⊤

-- Each such move leaves what is put upwards in each lane.
abbrev pub MovesBesideLeaveUps : Type 0
MovesBesideLeaveUps = (m : Machine) (move : Move) (outs : MoveOuts) (written : List Act) (new : Machine) → IsBeside move → Goes m move outs written new
    → (d session k : ℕ) → ((new.site_at d).lane_at session k).up ≡ ((m.site_at d).lane_at session k).up

-- a move is no step of a data server
abbrev pub IsNoServer : Move → Type 0
IsNoServer (Step job now line command) = ⊤
IsNoServer (Looked job line command) = ⊤
IsNoServer (App app now input) = ⊤
IsNoServer (Server server now input) = ⊥
IsNoServer (Begin server now entries) = ⊤
IsNoServer (Halt server) = ⊤
IsNoServer (Die app) = ⊤
IsNoServer (Tick now) = ⊤

-- Each such move leaves what is put downwards in each lane.
abbrev pub OtherMovesLeaveDowns : Type 0
OtherMovesLeaveDowns = (m : Machine) (move : Move) (outs : MoveOuts) (written : List Act) (new : Machine) → IsNoServer move → Goes m move outs written new
    → (d session k : ℕ) → ((new.site_at d).lane_at session k).down ≡ ((m.site_at d).lane_at session k).down
