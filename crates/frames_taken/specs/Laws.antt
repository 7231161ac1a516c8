-- What the two ends of a connection make of the frames that come to them, where the invariant holds before.
use Rattle.std.specs.Prelude.{◌≡◌, ◌≢◌, ◌<◌, ◌+◌, ℕ, true, false, List, [], ◌∷◌, drop, Some, None}
use Rattle.plain_orders.specs.declared.act.Act.{Act}
use Rattle.plain_orders.specs.declared.layout.Layout.{Layout}
use Rattle.plain_runs.specs.Run.{IsRun}
use Rattle.ecp_messages.specs.declared.down.Down.{Down}
use Rattle.ecp_messages.specs.declared.down.Down.TheVariants.{Welcome}
use Rattle.ecp_messages.specs.declared.down.DownFrame.{DownFrame}
use Rattle.ecp_messages.specs.declared.up.UpFrame.{UpFrame}
use Rattle.app_rules.specs.declared.app_in.AppIn.TheVariants as app_in
use Rattle.app_rules.specs.Welcoming.{greatest}
use Rattle.app_rules.specs.Works.{end_at}
use Rattle.cluster_runs.specs.declared.move_outs.MoveOuts.{MoveOuts}
use Rattle.data_rules.specs.declared.data_in.DataIn.TheVariants as data_in
use Rattle.data_rules.specs.declared.rows.Role.TheVariants.{Bound}
use Rattle.data_rules.specs.Conns.{role_of}
use Rattle.data_rules.specs.DataState.{DataState}
use Rattle.cluster_runs.specs.declared.moves.Move.TheVariants.{App, Server}
use Rattle.cluster_runs.specs.CoresState.{CoresState}
use Rattle.cluster_runs.specs.Goes.{AppGoes}
use Rattle.cluster_runs.specs.Machine.{Machine}
use Rattle.cluster_runs.specs.Mirrors.{Mirrors}
use Rattle.cluster_runs.specs.Moves.{Allowed}
use Rattle.cluster_invariant.specs.Coherence.{front_of}
use Rattle.cluster_invariant.specs.Holds.{Holds}
use Rattle.cluster_invariant.specs.Link.{WithSession, is_numbered_down}
use Rattle.cluster_invariant.specs.Words.{is_reset_down}

-- the length of the order in a message's header, 0 where it has none
abbrev pub length_said : Down → ℕ
length_said (Welcome session epoch kept front taken) = front.n
length_said m = (front_of m).n

-- A frame is taken: it ends no connection, and a Reset loses the session.
pub record IsTaken (m : Machine) (app now d : ℕ) (frame : DownFrame) (outs : MoveOuts) (written : List Act) (new : Machine)
    (goes : AppGoes m app now (app_in.Frame d frame) outs written new) : Type 0 where
  pub kept : is_reset_down frame.message ≡ false → goes.app_outs.cuts ≡ []
  pub lost : is_reset_down frame.message ≡ true → (end_at goes.state d).session ≡ None

-- No frame that comes is stray, unless it says that an order has the greatest length.
abbrev pub NoFrameIsStray : Type 0
NoFrameIsStray = (l : Layout) (c : CoresState) (m : Machine) (app now d : ℕ) (frame : DownFrame) (outs : MoveOuts) (written : List Act) (new : Machine)
    → Holds l m → IsRun l m.trail → Mirrors c m → Allowed c (App app now (app_in.Frame d frame)) → (goes : AppGoes m app now (app_in.Frame d frame) outs written new)
    → length_said frame.message < greatest → IsTaken m app now d frame outs written new goes

-- a message is the next of those that were put, behind so many that were taken
pub record IsNextOf {M : Type 0} (put : List M) (taken seq : ℕ) (message : M) : Type 0 where
  pub behind : List M
  pub its : drop taken put ≡ message ∷ behind
  pub number : seq ≡ taken + 1

-- Each numbered message that comes to an application server is the next one that was put to its session, in the order that the end is told of.
abbrev pub DownsComeInOrder : Type 0
DownsComeInOrder = (l : Layout) (c : CoresState) (m : Machine) (app now d : ℕ) (frame : DownFrame)
    → Holds l m → Mirrors c m → Allowed c (App app now (app_in.Frame d frame)) → is_numbered_down frame.message ≡ true
    → WithSession ((m.site_at d).end_at app).state.session ((m.site_at d).end_at app).told (λ s k.
    IsNextOf ((m.site_at d).lane_at s.number k).down ((m.site_at d).lane_at s.number k).down_taken frame.seq frame.message)

-- And each that comes to a data server on the connection of a session is the next one that its application server put in the current order.
abbrev pub UpsComeInOrder : Type 0
UpsComeInOrder = (l : Layout) (c : CoresState) (m : Machine) (server now conn session : ℕ) (frame : UpFrame) (n : DataState)
    → Holds l m → Mirrors c m → Allowed c (Server server now (data_in.Frame conn frame)) → (m.site_at server).node ≡ Some n
    → role_of n conn ≡ Some (Bound session) → frame.seq ≢ 0
    → IsNextOf ((m.site_at server).lane_at session (m.site_at server).past).up ((m.site_at server).lane_at session (m.site_at server).past).up_taken frame.seq frame.message
