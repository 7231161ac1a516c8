-- The part on connections, for one that ended at a data server.
use Rattle.std.proofs.Common.{◌≡◌, ℕ, Bool, true, false, not, filter, ◌&&◌, ◌==◌, if◌then◌else◌, List, [], Option, Some, None, is_some, option_map, refl, sym, ◌∙◌, ap, subst, arith}
use Rattle.std.specs.Prelude.{IsSomeAnd}
use Rattle.std.specs.List.{find}
use Rattle.std.proofs.lemmas.Bool.{eq-eqb, eqb-true, false≢true}
use Rattle.std.proofs.lemmas.List.{append-nil}
use Rattle.plain_orders.specs.declared.act.Act.{Act}
use Rattle.plain_orders.specs.declared.layout.Layout.{Layout}
use Rattle.plain_orders.specs.Sessions.{app_in}
use Rattle.plain_runs.specs.Plain.{Plain, Server}
use Rattle.plain_runs.specs.Run.{IsRun, after_all, state_after}
use Rattle.data_rules.specs.declared.data_in.DataIn.TheVariants as data_in
use Rattle.data_rules.specs.declared.data_outs.DataOuts.{DataOuts}
use Rattle.data_rules.specs.declared.rows.Conn.{Conn}
use Rattle.data_rules.specs.declared.rows.Role.{Role}
use Rattle.data_rules.specs.DataState.{DataState}
use Rattle.data_rules.specs.Conns.{breaks_if, end_breaks, is_conn, is_normal, is_other_conn, leaves_conn as node_leaves, link_of as node_link, loses_conn, role_in, role_of, with_event, without_conn}
use Rattle.data_rules.specs.declared.rows.Role.TheVariants.{New, Waiting, Bound, Closing}
use Rattle.data_rules.specs.declared.down_frames.DownOut.{DownOut}
use Rattle.link_states.specs.declared.link_event.LinkEvent.TheVariants.{Ended}
use Rattle.data_rules.specs.Puts.{Sofar, becomes, begun}
use Rattle.cluster_runs.specs.declared.move_outs.MoveOuts.{MoveOuts}
use Rattle.cluster_runs.specs.declared.moves.Move.TheVariants.{Server as ServerMove}
use Rattle.cluster_runs.specs.CoresState.{CoresState}
use Rattle.cluster_runs.specs.Machine.{Machine, Site, DataConnection}
use Rattle.cluster_runs.specs.Mirrors.{Mirrors}
use Rattle.cluster_runs.specs.Moves.{Allowed}
use Rattle.cluster_runs.specs.Sent.{Connection, FirstTaken}
use Rattle.cluster_runs.specs.Connections.{data_leaves, hears_downs, is_link, leaves_conn as site_leaves, leaves_conns, left, link_in, link_of}
use Rattle.cluster_runs.specs.Lanes.{with_data_step}
use Rattle.cluster_runs.specs.Goes.{ServerGoes, server_site, with_hellos, with_lanes, with_node}
use Rattle.cluster_invariant.specs.Dials.{ConnectionIs, DialsAre, FirstIs, IsLinkedBy, has_conn, is_here, is_left_at}
use Rattle.cluster_invariant.specs.Holds.{Holds}
use Rattle.cluster_invariant.proofs.Small.{of_some}
use Rattle.dials_kept.proofs.ConnectionsGrow.{Grows, StaysKnown}
use Rattle.dials_kept.proofs.ShortDials.{EachDials}
use Rattle.dials_server.proofs.KnownServer.{dials_by_server}
use Rattle.dials_server.proofs.LinkWords.{is_link_true}
use Rattle.dials_server.proofs.NodeConns.{conn_goes, node_goes, there_fewer}
use Rattle.dials_server.proofs.QuietServer.{Quietly, dials_quietly, lane_step, of_some_and}

-- what the node's state and the outputs are then
pub record LosesOnly (b c : Sofar) : Type 0 where
  pub frames : c.outs.frames ≡ b.outs.frames
  pub cuts : c.outs.cuts ≡ b.outs.cuts
  pub conns : c.state.conns ≡ b.state.conns
  pub order : c.state.order ≡ b.state.order
  pub dials : c.state.dials ≡ b.state.dials
  pub noted : c.state.noted ≡ b.state.noted
  pub locks : c.state.locks ≡ b.state.locks
  pub replies : c.state.replies ≡ b.state.replies
  pub callers : c.state.callers ≡ b.state.callers
  pub round : c.state.round ≡ b.state.round

loses_same : (b : Sofar) → LosesOnly b b
loses_same b = record { frames = refl; cuts = refl; conns = refl; order = refl; dials = refl; noted = refl; locks = refl; replies = refl; callers = refl; round = refl }

breaks_only : (o : Option ℕ) (now : ℕ) (b : Sofar) → LosesOnly b (end_breaks o now b)
breaks_only None now b = loses_same b
breaks_only (Some app) now b = go (is_normal (node_link b.state app))
  where
    go : (t : Bool) → LosesOnly b (becomes (with_event app now Ended) (breaks_if t app now b))
    go true = record { frames = refl; cuts = refl; conns = refl; order = refl; dials = refl; noted = refl; locks = refl; replies = refl; callers = refl; round = refl }
    go false = record { frames = refl; cuts = refl; conns = refl; order = refl; dials = refl; noted = refl; locks = refl; replies = refl; callers = refl; round = refl }

pub loses_only : (r : Option Role) (now : ℕ) (b : Sofar) → LosesOnly b (loses_conn r now b)
loses_only None now b = loses_same b
loses_only (Some New) now b = loses_same b
loses_only (Some Waiting) now b = loses_same b
loses_only (Some (Bound s)) now b = breaks_only (app_in b.state.order s) now b
loses_only (Some (Closing s)) now b = loses_same b

none_is_here : (o : Option DataConnection) → is_here (option_map left o) ≡ false
none_is_here None = refl
none_is_here (Some c) = refl

pub left_link : (o : Option DataConnection) → link_in (option_map left o) ≡ link_in o
left_link None = refl
left_link (Some c) = refl

-- what a connection keeps that the data end leaves
leaves_keep : (b : Bool) (c : Connection) → ((if b then data_leaves c else c).ups ≡ c.ups) × ((if b then data_leaves c else c).knew ≡ c.knew)
    × ((if b then data_leaves c else c).app_left ≡ c.app_left)
leaves_keep true c = (refl, refl, refl)
leaves_keep false c = (refl, refl, refl)

-- A site after one that ended there has them.
pub broken_site : (v w : Server) (x : Site) (dead : ℕ → Bool) (n m : DataState) (outs : DataOuts) (now conn : ℕ) → StaysKnown v w → x.node ≡ Some n
    → outs.frames ≡ [] → outs.cuts ≡ [] → m.order ≡ n.order → m.dials ≡ n.dials → m.conns ≡ filter (is_other_conn conn) n.conns → DialsAre v x dead
    → DialsAre w (with_lanes n m outs (with_hellos (data_in.Broken conn) (leaves_conns [] (hears_downs [] (with_node now m (site_leaves conn x)))))) dead
broken_site v w x dead n m outs now conn later runs frames cuts order dials conns is =
    dials_quietly v w x y dead (λ a k c. if is_link a k (link_of x conn) then data_leaves c else c) n m later quiet runs refl (λ k. here k (k == conn) refl)
    (λ at. node_goes y n m (conn_goes y n m conn at.differ order dials conns) at) is
  where
    y : Site
    y = with_lanes n m outs (with_hellos (data_in.Broken conn) (leaves_conns [] (hears_downs [] (with_node now m (site_leaves conn x)))))

    links : (k : ℕ) → link_of y k ≡ link_of x k
    links k = go (k == conn)
      where
        go : (b : Bool) → link_in (if b then option_map left (x.connection_at k) else x.connection_at k) ≡ link_of x k
        go true = left_link (x.connection_at k)
        go false = refl

    here : (k : ℕ) (b : Bool) → (k == conn) ≡ b → is_here (if b then option_map left (x.connection_at k) else x.connection_at k) ≡ is_some (role_of m k)
    here k b same =
        by b ∙ ap (λ (t : Bool). if t then false else is_some (role_of n k)) (sym same)
        ∙ sym (ap (λ (cs : List Conn). is_some (option_map role_in (find (is_conn k) cs))) conns ∙ there_fewer n.conns conn k)
      where
        by : (t : Bool) → is_here (if t then option_map left (x.connection_at k) else x.connection_at k) ≡ (if t then false else is_some (role_of n k))
        by true = none_is_here (x.connection_at k)
        by false = is.here k ∙ ap (λ (o : Option DataState). has_conn o k) runs

    -- the connections that were left are those whose data connections were
    left_so : (a k : ℕ) (c : Connection) → (x.end_at a).connection_at k ≡ Some c → ConnectionIs v x a k c → (o : Option FirstTaken) → c.first ≡ o
        → c.data_left ≡ is_left_at x o → (b : Bool) → is_link a k (link_of x conn) ≡ b → (if b then data_leaves c else c).data_left ≡ is_left_at y o
    left_so a k c it at None first was true linked = absurd (no_first linked)
      where
        no_first : is_link a k (link_of x conn) ≡ true → ⊥
        no_first link_so =
            subst (λ (o : Option FirstTaken). IsSomeAnd o (λ f. f.conn ≡ conn)) first
            (of_some_and (λ (z : Connection). IsSomeAnd z.first (λ f. f.conn ≡ conn)) ((x.end_at a).connection_at k) c it
            (of_some (IsLinkedBy x conn) (link_of x conn) (record { app = a; dial = k }) (is_link_true a k (link_of x conn) link_so) (is.links conn)))
    left_so a k c it at None first was false linked = was
    left_so a k c it at (Some f) first was true linked = sym (ap not (go (f.conn == conn) refl))
      where
        its : f.conn ≡ conn
        its =
            subst (λ (o : Option FirstTaken). IsSomeAnd o (λ y. y.conn ≡ conn)) first
            (of_some_and (λ (z : Connection). IsSomeAnd z.first (λ y. y.conn ≡ conn)) ((x.end_at a).connection_at k) c it
            (of_some (IsLinkedBy x conn) (link_of x conn) (record { app = a; dial = k }) (is_link_true a k (link_of x conn) linked) (is.links conn)))

        go : (b : Bool) → (f.conn == conn) ≡ b → is_here (if b then option_map left (x.connection_at f.conn) else x.connection_at f.conn) ≡ false
        go true same = none_is_here (x.connection_at f.conn)
        go false other = absurd (false≢true (sym other ∙ eq-eqb f.conn conn its))
    left_so a k c it at (Some f) first was false unlinked = was ∙ ap not (sym (go (f.conn == conn) refl))
      where
        go : (b : Bool) → (f.conn == conn) ≡ b → is_here (if b then option_map left (x.connection_at f.conn) else x.connection_at f.conn) ≡ is_here (x.connection_at f.conn)
        go true same = absurd (false≢true (sym unlinked ∙ is_so))
          where
            link : link_of x conn ≡ Some (record { app = a; dial = k })
            link =
                ap (λ (i : ℕ). link_of x i) (sym (eqb-true f.conn conn same))
                ∙ (of_some (FirstIs v x a k) c.first f first at.where_taken).linked

            is_so : is_link a k (link_of x conn) ≡ true
            is_so = ap (is_link a k) link ∙ ap (λ (b : Bool). b && (k == k)) (eq-eqb a a refl) ∙ eq-eqb k k refl
        go false other = refl

    twice : (g : Connection → Connection) (o : Option Connection) → option_map (λ c. c) (option_map g o) ≡ option_map g o
    twice g None = refl
    twice g (Some c) = refl

    quiet : Quietly x y (λ a k c. if is_link a k (link_of x conn) then data_leaves c else c)
    quiet = record {
      past = refl;
      began = λ s k. (lane_step (k == x.past) (x.lane_at s k) (with_data_step n m outs.frames s (x.lane_at s k)) refl refl).0;
      taken = λ s k. omega (arith, (lane_step (k == x.past) (x.lane_at s k) (with_data_step n m outs.frames s (x.lane_at s k)) refl refl).1);
      states = λ a. refl;
      tolds = λ a. refl;
      each = λ a k. twice _ ((x.end_at a).connection_at k);
      ups = λ a k c. (leaves_keep (is_link a k (link_of x conn)) c).0;
      knew = λ a k c. (leaves_keep (is_link a k (link_of x conn)) c).1;
      app_left = λ a k c. (leaves_keep (is_link a k (link_of x conn)) c).2;
      grows = λ a k c it. grow a k c it (of_some (ConnectionIs v x a k) ((x.end_at a).connection_at k) c it ((is.pairs a).each k)) (is_link a k (link_of x conn)) refl;
      links = links;
    }
      where
        grow : (a k : ℕ) (c : Connection) → (x.end_at a).connection_at k ≡ Some c → ConnectionIs v x a k c → (b : Bool) → is_link a k (link_of x conn) ≡ b
            → Grows x y c (if b then data_leaves c else c)
        grow a k c it at true same = record {
          more = [];
          ups = sym (append-nil c.ups);
          follow = refl;
          alone = λ none. refl;
          untaken = λ none. none;
          within_ups = λ low. low;
          counted = refl;
          heard = [];
          downs = sym (append-nil c.downs);
          within = λ low. low;
          unheard = λ none. refl;
          quiet = λ none. refl;
          unreset = refl;
          linked = refl;
          its = refl;
          knew = refl;
          first = refl;
          data_left = λ taken was. left_so a k c it at c.first refl was true same;
        }
        grow a k c it at false same = record {
          more = [];
          ups = sym (append-nil c.ups);
          follow = refl;
          alone = λ none. refl;
          untaken = λ none. none;
          within_ups = λ low. low;
          counted = refl;
          heard = [];
          downs = sym (append-nil c.downs);
          within = λ low. low;
          unheard = λ none. refl;
          quiet = λ none. refl;
          unreset = refl;
          linked = refl;
          its = refl;
          knew = refl;
          first = refl;
          data_left = λ taken was. left_so a k c it at c.first refl was false same;
        }

-- One that ended there keeps it.
pub dials_kept_by_ending : (conn : ℕ) (l : Layout) (c : CoresState) (m : Machine) (server now : ℕ) (outs : MoveOuts) (written : List Act) (new : Machine)
    → Holds l m → IsRun l m.trail → IsRun l new.trail → Mirrors c m → Allowed c (ServerMove server now (data_in.Broken conn))
    → ServerGoes m server now (data_in.Broken conn) outs written new → EachDials l (state_after l new.trail) new
dials_kept_by_ending conn l c m server now outs written new h run after_run shows allowed goes =
    dials_by_server l c m server now (data_in.Broken conn) outs written new h run after_run shows allowed goes
    (λ later w ordered.
    subst (λ (y : Site). DialsAre (q.server_at server) y m.is_dead_at) (sym (shape later))
    (broken_site ((state_after l m.trail).server_at server) (q.server_at server) x m.is_dead_at goes.node goes.state goes.data_outs now conn later goes.runs frames cuts
    (ap (λ (b : Sofar). b.state.order) goes.steps ∙ only.order) (ap (λ (b : Sofar). b.state.dials) goes.steps ∙ only.dials)
    (ap (λ (b : Sofar). b.state.conns) goes.steps ∙ only.conns) (h.sites server).dials))
  where
    q : Plain
    q = after_all l (state_after l m.trail) written

    x : Site
    x = m.site_at server

    only : LosesOnly (becomes (without_conn conn) (begun goes.node)) (node_leaves conn now (begun goes.node))
    only = loses_only (role_of goes.node conn) now (becomes (without_conn conn) (begun goes.node))

    frames : goes.data_outs.frames ≡ []
    frames = ap (λ (b : Sofar). b.outs.frames) goes.steps ∙ only.frames

    cuts : goes.data_outs.cuts ≡ []
    cuts = ap (λ (b : Sofar). b.outs.cuts) goes.steps ∙ only.cuts

    shape : StaysKnown ((state_after l m.trail).server_at server) (q.server_at server)
        → server_site goes.node now (data_in.Broken conn) goes.data_outs goes.state x
        ≡ with_lanes goes.node goes.state goes.data_outs (with_hellos (data_in.Broken conn) (leaves_conns [] (hears_downs [] (with_node now goes.state (site_leaves conn x)))))
    shape later =
        ap
        (λ (fs : List DownOut).
        with_lanes goes.node goes.state goes.data_outs
        (with_hellos (data_in.Broken conn) (leaves_conns goes.data_outs.cuts (hears_downs fs (with_node now goes.state (site_leaves conn x)))))) frames
        ∙ ap
        (λ (cs : List ℕ).
        with_lanes goes.node goes.state goes.data_outs (with_hellos (data_in.Broken conn) (leaves_conns cs (hears_downs [] (with_node now goes.state (site_leaves conn x)))))) cuts
