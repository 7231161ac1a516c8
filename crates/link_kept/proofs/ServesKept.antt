-- The windows and lanes of a data server, and all that it has of its sessions, after each move of it.
use Rattle.std.proofs.Common.{◌≡◌, ℕ, Bool, true, false, List, refl}
use Rattle.std.proofs.lemmas.Bool.{false≢true}
use Rattle.plain_orders.specs.declared.act.Act.{Act}
use Rattle.plain_orders.specs.declared.layout.Layout.{Layout}
use Rattle.plain_orders.specs.Entries.{live}
use Rattle.plain_runs.specs.Run.{IsRun, state_after}
use Rattle.lock_table.specs.declared.rows.Request.{Request}
use Rattle.ecp_messages.specs.declared.up.Up.{Up}
use Rattle.ecp_messages.specs.declared.up.Up.TheVariants as up
use Rattle.data_rules.specs.DataState.{DataState}
use Rattle.data_rules.specs.declared.data_in.DataIn.{DataIn}
use Rattle.data_rules.specs.declared.data_in.DataIn.TheVariants as data_in
use Rattle.data_rules.specs.declared.data_outs.DataOuts.{DataOuts}
use Rattle.data_rules.specs.Puts.{Sofar, begun}
use Rattle.data_rules.specs.Step.{DataStep, made}
use Rattle.cluster_runs.specs.declared.move_outs.MoveOuts.{MoveOuts}
use Rattle.cluster_runs.specs.declared.moves.Move.TheVariants.{Server as ServerMove}
use Rattle.cluster_runs.specs.CoresState.{CoresState}
use Rattle.cluster_runs.specs.Moves.{Allowed}
use Rattle.cluster_runs.specs.Mirrors.{Mirrors}
use Rattle.cluster_runs.specs.Machine.{Machine, Site}
use Rattle.cluster_runs.specs.Goes.{ServerGoes}
use Rattle.cluster_invariant.specs.Link.{NodeLink}
use Rattle.cluster_invariant.specs.Served.{IsServed, NodeServes}
use Rattle.cluster_invariant.specs.Holds.{Holds}
use Rattle.cluster_invariant.proofs.AllLists.{all_follow}
use Rattle.cluster_invariant.proofs.Small.{of_some}
use Rattle.cluster_invariant.proofs.PieceKinds.{Piece, makes}
use Rattle.cluster_invariant.proofs.PieceMay.{begins}
use Rattle.cluster_invariant.proofs.Pieces.{MayMake}
use Rattle.link_kept.proofs.AppLater.{LaneLater}
use Rattle.link_kept.proofs.WindowsServer.{WindowsAfter}
use Rattle.link_kept.proofs.FitsWell.{is_hello, may_close}
use Rattle.link_kept.proofs.ServesServer.{ServesAfter, serves_still}
use Rattle.link_kept.proofs.StepFits.{ConnsKnow, LeftToOthers}
use Rattle.link_kept.proofs.ServerMoves.{serves_kept_by_server}
use Rattle.link_kept.proofs.CloseRequests.{AskersLive, tick_askers}
use Rattle.link_kept.proofs.HelloRequests.{hello_askers}

-- a Hello, by its application server and dial
hello_of : (m : Up) → is_hello m ≡ true → (app : ℕ) × ((dial : ℕ) × (m ≡ up.Hello app dial))
hello_of (up.Hello app dial) is = (app, (dial, refl))
hello_of (up.Recover app s epoch taken dial) is = absurd (false≢true is)
hello_of (up.Update w job txn op) is = absurd (false≢true is)
hello_of (up.Add w job key amount) is = absurd (false≢true is)
hello_of (up.Fetch key) is = absurd (false≢true is)
hello_of (up.Ask ticket job mode key) is = absurd (false≢true is)
hello_of (up.Unlock job mode key) is = absurd (false≢true is)
hello_of (up.Cancel ticket) is = absurd (false≢true is)
hello_of (up.Commit w job txn wanted) is = absurd (false≢true is)
hello_of (up.Rollback w job txn) is = absurd (false≢true is)
hello_of (up.Sync ticket) is = absurd (false≢true is)
hello_of up.Done is = absurd (false≢true is)
hello_of (up.Claim job mode number at key) is = absurd (false≢true is)
hello_of up.Bare is = absurd (false≢true is)

-- where a session may be closed the requests that wait are of live sessions in the end
askers_kept : (old : DataState) (now : ℕ) (input : DataIn) (outs : DataOuts) (new : DataState) → may_close input ≡ true → DataStep old now input outs new
    → AskersLive old → AskersLive new
askers_kept old now (data_in.Frame conn f) outs new may steps lives = go (hello_of f.message may)
  where
    go : (app : ℕ) × ((dial : ℕ) × (f.message ≡ up.Hello app dial)) → AskersLive new
    go is = hello_askers f is.0 is.1.0 conn now (begun old) (made new outs) is.1.1 steps lives
askers_kept old now (data_in.Connected conn) outs new may steps lives = absurd (false≢true may)
askers_kept old now (data_in.Broken conn) outs new may steps lives = absurd (false≢true may)
askers_kept old now data_in.Tick outs new may steps lives = tick_askers old now outs new steps lives
askers_kept old now (data_in.Saved upto) outs new may steps lives = absurd (false≢true may)

-- What holds of a data server after a step: its lanes went on, and its windows and what it has of its sessions are as they are to be.
pub record NodeKept (x y : Site) (new : DataState) : Type 0 where
  pub windows : WindowsAfter y new
  pub goes_on : (s k : ℕ) → LaneLater (x.lane_at s k) (y.lane_at s k)
  pub serves : NodeServes y new

-- Each move of a data server keeps these.
pub node_kept_by_server : (l : Layout) (c : CoresState) (m : Machine) (server now : ℕ) (input : DataIn) (outs : MoveOuts) (written : List Act) (new : Machine)
    → Holds l m → IsRun l m.trail → Mirrors c m → Allowed c (ServerMove server now input) → (goes : ServerGoes m server now input outs written new)
    → (E : Sofar → Type 0)
    → ((b : Sofar) → E b → ConnsKnow (λ s. (m.site_at server).lane_at s (m.site_at server).past) (record { old = goes.node; now = now; input = input }) b)
    → LeftToOthers (λ s. (m.site_at server).lane_at s (m.site_at server).past) (record { old = goes.node; now = now; input = input }) E
    → ((p : Piece) (b : Sofar) → MayMake (record { old = goes.node; now = now; input = input }) p b → E b → E (makes now p b))
    → E (begins (record { old = goes.node; now = now; input = input })) → NodeKept (m.site_at server) (new.site_at server) goes.state
node_kept_by_server l c m server now input outs written new h run shows allowed goes E know left keeps first =
    kept (serves_kept_by_server l c m server now input outs written new h run shows allowed goes E know left keeps first (λ b. Unit {0}) (λ p b may well g. tt) tt).0
  where
    x : Site
    x = m.site_at server

    node : NodeLink ((state_after l m.trail).server_at server) x m.is_dead_at goes.node
    node = of_some (NodeLink ((state_after l m.trail).server_at server) x m.is_dead_at) x.node goes.node goes.runs (h.sites server).link.node

    lives : AskersLive goes.node
    lives =
        all_follow (λ (r : Request). IsServed x goes.node r.who.session) (λ (r : Request). live goes.node.order r.who.session ≡ true) (λ (r : Request) is. is.lives)
        goes.node.locks.requests node.serves.requests

    kept : ServesAfter goes.node goes.state x (new.site_at server) (may_close input) → NodeKept x (new.site_at server) goes.state
    kept a = record { windows = a.windows; goes_on = a.goes_on; serves = go (may_close input) refl }
      where
        go : (b : Bool) → may_close input ≡ b → NodeServes (new.site_at server) goes.state
        go true closing = a.serves (askers_kept goes.node now input goes.data_outs goes.state closing goes.steps lives)
        go false still = serves_still goes.node goes.state x (new.site_at server) (may_close input) still a
