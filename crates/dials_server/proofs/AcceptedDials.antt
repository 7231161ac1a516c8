-- The part on connections, for a connection that comes to a data server.
use Rattle.std.proofs.Common.{◌≡◌, ℕ, Bool, true, false, not, cond, ◌||◌, ◌==◌, if◌then◌else◌, List, [], ◌∷◌, Option, Some, None, is_some, option_map, refl, sym, ◌∙◌, ap, subst, arith}
use Rattle.std.specs.Prelude.{IfSome}
use Rattle.std.specs.List.{find, list_any}
use Rattle.std.proofs.lemmas.Bool.{eq-eqb, eqb-true, false≢true, ne_eqb}
use Rattle.std.proofs.lemmas.List.{append-nil}
use Rattle.plain_orders.specs.declared.act.Act.{Act}
use Rattle.plain_orders.specs.declared.layout.Layout.{Layout}
use Rattle.plain_runs.specs.Plain.{Plain, Server}
use Rattle.plain_runs.specs.Run.{IsRun, after_all, state_after}
use Rattle.data_rules.specs.declared.data_in.DataIn.TheVariants as data_in
use Rattle.data_rules.specs.DataState.{DataState}
use Rattle.data_rules.specs.Conns.{role_of, with_conn}
use Rattle.data_rules.specs.Puts.{Sofar, no_outs}
use Rattle.cluster_runs.specs.declared.move_outs.MoveOuts.{MoveOuts}
use Rattle.cluster_runs.specs.declared.moves.Move.TheVariants.{Server as ServerMove}
use Rattle.cluster_runs.specs.CoresState.{CoresState, Accepted, Linked, is_accepted}
use Rattle.cluster_runs.specs.Machine.{Machine, Site, DataConnection}
use Rattle.cluster_runs.specs.Mirrors.{Mirrors, accepted_of}
use Rattle.cluster_runs.specs.Moves.{Allowed, NodeMay}
use Rattle.cluster_runs.specs.Sent.{FirstTaken}
use Rattle.cluster_runs.specs.Connections.{link_in, link_of}
use Rattle.cluster_runs.specs.Lanes.{with_data_step}
use Rattle.cluster_runs.specs.Goes.{ServerGoes, server_site}
use Rattle.cluster_invariant.specs.Dials.{ConnectionIs, DialsAre, FirstIs, has_conn, is_here, is_left_at}
use Rattle.cluster_invariant.specs.Holds.{Holds}
use Rattle.cluster_invariant.proofs.Small.{of_some}
use Rattle.dials_kept.proofs.ConnectionsGrow.{StaysKnown}
use Rattle.dials_kept.proofs.ShortDials.{EachDials}
use Rattle.dials_server.proofs.KnownServer.{dials_by_server}
use Rattle.dials_server.proofs.NodeConns.{conn_comes, node_goes, there_more}
use Rattle.dials_server.proofs.QuietServer.{Quietly, dials_quietly, lane_step}

-- a number that wasn't accepted before
not_accepted : (server conn : ℕ) (xs : List Accepted) → list_any (is_accepted server conn) xs ≡ false → find (is_accepted server conn) xs ≡ None
not_accepted server conn [] none = refl
not_accepted server conn (x ∷ xs) none = go (is_accepted server conn x) none (not_accepted server conn xs)
  where
    go : (b : Bool) → (b || list_any (is_accepted server conn) xs) ≡ false → (list_any (is_accepted server conn) xs ≡ false → find (is_accepted server conn) xs ≡ None)
        → cond b (Some x) (find (is_accepted server conn) xs) ≡ None
    go true none_there more = absurd (false≢true (sym none_there))
    go false none_there more = more none_there

no_data_connection : (server conn : ℕ) (o : Option DataConnection) → option_map (accepted_of server conn) o ≡ None → o ≡ None
no_data_connection server conn None none = refl
no_data_connection server conn (Some c) none = absurd (cc (none))

-- its site
connected_site : (v w : Server) (x : Site) (dead : ℕ → Bool) (n : DataState) (now conn : ℕ) → StaysKnown v w → x.node ≡ Some n → is_some (role_of n conn) ≡ false
    → x.connection_at conn ≡ None → DialsAre v x dead → DialsAre w (server_site n now (data_in.Connected conn) no_outs (with_conn conn n) x) dead
connected_site v w x dead n now conn later runs unknown fresh is =
    dials_quietly v w x y dead (λ a m c. c) n (with_conn conn n) later quiet runs refl (λ k. here k (k == conn) refl)
    (λ at. node_goes y n (with_conn conn n) (conn_comes y n conn at.differ unknown (links conn ∙ ap link_in fresh)) at) is
  where
    y : Site
    y = server_site n now (data_in.Connected conn) no_outs (with_conn conn n) x

    came : DataConnection
    came = record { link = None; left = false }

    links : (k : ℕ) → link_of y k ≡ link_of x k
    links k = go (k == conn) refl
      where
        go : (b : Bool) → (k == conn) ≡ b → link_in (if b then Some came else x.connection_at k) ≡ link_of x k
        go true same = sym (ap (λ (i : ℕ). link_of x i) (eqb-true k conn same) ∙ ap link_in fresh)
        go false other = refl

    here : (k : ℕ) (b : Bool) → (k == conn) ≡ b → is_here (if b then Some came else x.connection_at k) ≡ is_some (role_of (with_conn conn n) k)
    here k true same = sym (there_more n conn k ∙ ap (λ (b : Bool). is_some (role_of n k) || b) (eq-eqb conn k (sym (eqb-true k conn same))) ∙ or_true (is_some (role_of n k)))
      where
        or_true : (b : Bool) → (b || true) ≡ true
        or_true true = refl
        or_true false = refl
    here k false other =
        is.here k ∙ ap (λ (o : Option DataState). has_conn o k) runs
        ∙ sym (there_more n conn k ∙ ap (λ (b : Bool). is_some (role_of n k) || b) (ne_eqb conn k (λ same. false≢true (sym other ∙ eq-eqb k conn (sym same)))) ∙ or_false (is_some (role_of n k)))
      where
        or_false : (b : Bool) → (b || false) ≡ b
        or_false true = refl
        or_false false = refl

    -- no first frame was taken on it
    left_so : (a m : ℕ) (o : Option FirstTaken) → IfSome o (FirstIs v x a m) → is_left_at y o ≡ is_left_at x o
    left_so a m None taken = refl
    left_so a m (Some f) taken = go (f.conn == conn) refl
      where
        go : (b : Bool) → (f.conn == conn) ≡ b → not (is_here (if b then Some came else x.connection_at f.conn)) ≡ not (is_here (x.connection_at f.conn))
        go true same =
            absurd (let both : ◌≡◌ {A = Option Linked} None (Some (record { app = a; dial = m }))
            = sym (ap (λ (i : ℕ). link_of x i) (eqb-true f.conn conn same) ∙ ap link_in fresh) ∙ taken.linked in cc)
        go false other = refl

    quiet : Quietly x y (λ a m c. c)
    quiet = record {
      past = refl;
      began = λ s k. (lane_step (k == x.past) (x.lane_at s k) (with_data_step n (with_conn conn n) [] s (x.lane_at s k)) refl refl).0;
      taken = λ s k. omega (arith, (lane_step (k == x.past) (x.lane_at s k) (with_data_step n (with_conn conn n) [] s (x.lane_at s k)) refl refl).1);
      states = λ a. refl;
      tolds = λ a. refl;
      each = λ a m. refl;
      ups = λ a m c. refl;
      knew = λ a m c. refl;
      app_left = λ a m c. refl;
      grows = λ a m c it. record {
        more = [];
        ups = sym (append-nil c.ups);
        follow = refl;
        alone = λ none. refl;
        untaken = λ none. none;
        within_ups = λ low. low;
        counted = refl;
        heard = [];
        downs = sym (append-nil c.downs);
        within = λ low. low;
        unheard = λ none. refl;
        quiet = λ none. refl;
        unreset = refl;
        linked = refl;
        its = refl;
        knew = refl;
        first = refl;
        data_left =
            λ taken at.
            at ∙ sym (left_so a m c.first (of_some (ConnectionIs v x a m) ((x.end_at a).connection_at m) c it ((is.pairs a).each m)).where_taken);
      };
      links = links;
    }

-- A connection that comes keeps it.
pub dials_kept_by_accept : (conn : ℕ) (l : Layout) (c : CoresState) (m : Machine) (server now : ℕ) (outs : MoveOuts) (written : List Act) (new : Machine)
    → Holds l m → IsRun l m.trail → IsRun l new.trail → Mirrors c m → Allowed c (ServerMove server now (data_in.Connected conn))
    → ServerGoes m server now (data_in.Connected conn) outs written new → EachDials l (state_after l new.trail) new
dials_kept_by_accept conn l c m server now outs written new h run after_run shows allowed goes =
    dials_by_server l c m server now (data_in.Connected conn) outs written new h run after_run shows allowed goes
    (λ later w ordered.
    subst (λ (b : Sofar). DialsAre (q.server_at server) (server_site goes.node now (data_in.Connected conn) b.outs b.state x) m.is_dead_at) (sym goes.steps)
    (connected_site ((state_after l m.trail).server_at server) (q.server_at server) x m.is_dead_at goes.node now conn later goes.runs may fresh (h.sites server).dials))
  where
    q : Plain
    q = after_all l (state_after l m.trail) written

    x : Site
    x = m.site_at server

    may : is_some (role_of goes.node conn) ≡ false
    may = subst (λ (o : Option DataState). NodeMay o (data_in.Connected conn)) (shows.nodes server ∙ goes.runs) allowed.may

    fresh : x.connection_at conn ≡ None
    fresh =
        no_data_connection server conn (x.connection_at conn)
        (sym (shows.accepted server conn) ∙ not_accepted server conn c.accepted allowed.takes)
