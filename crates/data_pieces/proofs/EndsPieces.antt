-- Each small change of a data server's step keeps what goes along of its ends.
use Rattle.std.proofs.Common.{◌≡◌, ◌≤◌, ℕ, ◌+◌, Bool, true, false, List, [], ◌∷◌, ◌++◌, map, length, Option, Some, None, is_some, option_map, refl, sym, ◌∙◌, ap, subst, arith}
use Rattle.std.specs.List.{AllByRecursion}
use Rattle.plain_orders.specs.declared.act.Act.TheVariants as act
use Rattle.plain_orders.specs.declared.causes.ShutCause.{ShutCause}
use Rattle.plain_orders.specs.declared.entry.Entry.{Entry}
use Rattle.plain_orders.specs.declared.entry.Entry.TheVariants.{Closed, Opened}
use Rattle.plain_orders.specs.declared.layout.Layout.{Layout}
use Rattle.plain_orders.specs.Entries.{live, live_session}
use Rattle.plain_orders.specs.Ordered.{MayFollow}
use Rattle.plain_orders.specs.Sessions.{app_in}
use Rattle.std.proofs.lemmas.List.{length-append}
use Rattle.plain_orders.proofs.EntryLemmas.{live_session-push}
use Rattle.plain_orders.proofs.LiveSessions.{ordered_one_live}
use Rattle.plain_runs.specs.EndRows.{shut}
use Rattle.plain_runs.specs.OrderRows.{entered}
use Rattle.plain_runs.specs.Plain.{Plain, Server}
use Rattle.link_states.specs.declared.data_link.DataLink.{DataLink}
use Rattle.link_states.specs.declared.data_link.DataLink.TheVariants.{Free}
use Rattle.link_states.specs.declared.link_event.LinkEvent.TheVariants as event
use Rattle.link_states.specs.Tables.{data_next}
use Rattle.data_rules.specs.DataState.{DataState}
use Rattle.data_rules.specs.declared.rows.Caller.{Caller}
use Rattle.data_rules.specs.declared.data_in.DataIn.{DataIn}
use Rattle.data_rules.specs.declared.data_in.DataIn.TheVariants as data_in
use Rattle.data_rules.specs.declared.rows.Conn.{Conn}
use Rattle.data_rules.specs.declared.rows.LiveEnd.{LiveEnd}
use Rattle.data_rules.specs.declared.rows.Role.{Role}
use Rattle.data_rules.specs.declared.rows.Role.TheVariants.{Bound}
use Rattle.data_rules.specs.Conns.{with_role_if, breaks_if, end_breaks, is_normal, link_of, role_in, with_event, without_conn}
use Rattle.data_rules.specs.Entering.{enters}
use Rattle.data_rules.specs.Opening.{breaks_unless, opens}
use Rattle.data_rules.specs.Puts.{Sofar, becomes, begun, conn_of}
use Rattle.cluster_invariant.proofs.ConnRoles.{bound_role}
use Rattle.cluster_invariant.proofs.PieceKinds.{Ending, There, Here, cuts_if, ends_back, event_of, shuts}
use Rattle.cluster_invariant.proofs.PieceMay.{Coming, begins}
use Rattle.cluster_invariant.proofs.PiecesOfCloses.{conn_there}
use Rattle.cluster_invariant.proofs.PiecesOfSteps.{synced_state}
use Rattle.data_pieces.proofs.BreakPieces.{HadConn, links_breaks}
use Rattle.data_pieces.proofs.CallersGo.{CallersOf, callers_gone, callers_order}
use Rattle.data_pieces.proofs.CallerPieces.{dropped_callers}
use Rattle.data_pieces.proofs.ClosePieces.{ClosedWith, closed_callers, closed_conns, links_closes}
use Rattle.data_pieces.proofs.ConnLists.{conn_for, role_at}
use Rattle.data_pieces.proofs.ConnPieces.{links_forgets}
use Rattle.data_pieces.proofs.EndsGo.{Grown, grown_push, grown_same, whence_closed, whence_dropped, EndsGo, callers_as, callers_close, callers_core, close_still, on_core}
use Rattle.data_pieces.proofs.EntryPieces.{Entered, IsItemOf, OpenedOn, links_enters, links_opens}
use Rattle.data_pieces.proofs.LinksGo.{LinksGo}
use Rattle.data_pieces.proofs.PieceFacts.{enters_acts, enters_facts, opens_acts, opens_facts, shuts_acts, shuts_facts}
use Rattle.data_pieces.proofs.PlainView.{view, view_enter, view_shut}
use Rattle.data_pieces.proofs.QuietPieces.{Quiet, links_quiet}
use Rattle.data_pieces.proofs.RoundOn.{ends_round, on_beside, on_closes, on_enters, on_none}

pub some_role : (o : Option Conn) (r : Role) → option_map role_in o ≡ Some r → is_some o ≡ true
some_role None r is = absurd cc
some_role (Some c) r is = refl

-- what holds of the connections of live sessions as a step begins
pub record ConnsHold (old : DataState) : Type 0 where
  pub bound : (conn s : ℕ) → role_at conn old.conns ≡ Some (Bound s) → (live old.order s ≡ true) × (conn_for s old.conns ≡ Some conn)

begins_conns : (old : DataState) (now : ℕ) (input : DataIn) → (begins (record { old = old; now = now; input = input })).state.conns ≡ old.conns
begins_conns old now (data_in.Frame conn up) = refl
begins_conns old now (data_in.Connected conn) = refl
begins_conns old now (data_in.Broken conn) = refl
begins_conns old now data_in.Tick = refl
begins_conns old now (data_in.Saved upto) = ap (λ (d : DataState). d.conns) (synced_state upto (begun old))

begins_order : (old : DataState) (now : ℕ) (input : DataIn) → (begins (record { old = old; now = now; input = input })).state.order ≡ old.order
begins_order old now (data_in.Frame conn up) = refl
begins_order old now (data_in.Connected conn) = refl
begins_order old now (data_in.Broken conn) = refl
begins_order old now data_in.Tick = refl
begins_order old now (data_in.Saved upto) = ap (λ (d : DataState). d.order) (synced_state upto (begun old))

-- what an end that breaks leaves
record BreakLeaves (b c : Sofar) : Type 0 where
  order : c.state.order ≡ b.state.order
  synced : c.state.synced ≡ b.state.synced
  conns : c.state.conns ≡ b.state.conns
  callers : c.state.callers ≡ b.state.callers
  round : c.state.round ≡ b.state.round

break_leaves : (app now : ℕ) (b : Sofar) → BreakLeaves b (end_breaks (Some app) now b)
break_leaves app now b = go (is_normal (link_of b.state app))
  where
    go : (normal : Bool) → BreakLeaves b (becomes (with_event app now event.Ended) (breaks_if normal app now b))
    go true = record { order = refl; synced = refl; conns = refl; callers = refl; round = refl }
    go false = record { order = refl; synced = refl; conns = refl; callers = refl; round = refl }

-- ends that go on leave the Hellos
pub back_callers : (xs : List LiveEnd) (now : ℕ) (b : Sofar) → (ends_back xs now b).state.callers ≡ b.state.callers
back_callers [] now b = refl
back_callers (x ∷ xs) now b = back_callers xs now _ ∙ one (is_some (conn_of b.state x.session))
  where
    one : (joined : Bool) → (breaks_unless joined x.app now (becomes (with_event x.app now (event.RoundOver joined)) b)).state.callers ≡ b.state.callers
    one true = refl
    one false = refl

module _ (l : Layout) (p : Plain) (d k : ℕ) (t : Coming) (W : Caller → Type 0) (hold : ConnsHold t.old) where
  -- what holds of a state that a step has come to
  abbrev pub Going : Sofar → Type 0
  Going b = EndsGo t W d (view l p d k b.outs.acts) b.state

  pub going_quiet : (b c : Sofar) → Quiet b c → Going b → Going c
  going_quiet b c q h = record {
    links = links_quiet l p d k b c q h.links;
    callers = callers_core b.state c.state q.core h.callers;
    on = λ still. on_core b.state c.state q.core (h.on still);
    grown = grown_same t.old.order b.state.order c.state.order q.core.order h.grown;
    whence = subst (AllByRecursion W) (sym q.core.callers) h.whence;
  }

  -- what a cut leaves
  pub going_cut : (ending : Ending) (conn : ℕ) (b : Sofar) → Going b → Going (cuts_if ending conn b)
  going_cut There conn b h = h
  going_cut Here conn b h = h

  pub forgets_go : (conn : ℕ) (b : Sofar) → ((s : ℕ) → role_at conn b.state.conns ≡ Some (Bound s) → app_in b.state.order s ≡ None) → Going b → Going (becomes (without_conn conn) b)
  forgets_go conn b apart h = record {
    links = links_forgets d (view l p d k b.outs.acts) b.state conn apart h.links;
    callers = callers_gone conn b.state.conns b.state.order b.state.callers h.callers;
    on = λ still. on_beside b.state (without_conn conn b.state) refl refl refl (λ none. ap (dropped_callers (Some conn)) none) (h.on still);
    grown = h.grown;
    whence = whence_dropped W (Some conn) b.state.callers h.whence;
  }

  pub had_conn : (conn session app : ℕ) (b : Sofar) → b ≡ begins t → role_at conn b.state.conns ≡ Some (Bound session) → app_in b.state.order session ≡ Some app → Going b → HadConn b.state app session conn
  had_conn conn session app b first role opened h = record {
    has = (ordered_one_live b.state.order h.links.ordered).is_one app session (ap (λ (es : List Entry). live es session) orders ∙ (hold.bound conn session (ap (role_at conn) (sym conns) ∙ role)).0) opened;
    role = role;
    its = its conn role;
    only = λ m bound. (let here : conn_for session b.state.conns ≡ Some m = its m bound in let there : conn_for session b.state.conns ≡ Some conn = its conn role in cc);
  }
    where
      conns : b.state.conns ≡ t.old.conns
      conns = ap (λ (c : Sofar). c.state.conns) first ∙ begins_conns t.old t.now t.input

      orders : b.state.order ≡ t.old.order
      orders = ap (λ (c : Sofar). c.state.order) first ∙ begins_order t.old t.now t.input

      its : (m : ℕ) → role_at m b.state.conns ≡ Some (Bound session) → conn_for session b.state.conns ≡ Some m
      its m bound = ap (conn_for session) conns ∙ (hold.bound m session (ap (role_at m) (sym conns) ∙ bound)).1

  pub breaks_go : (conn session app : ℕ) (b : Sofar) → HadConn b.state app session conn → Going b → Going (end_breaks (Some app) t.now (becomes (without_conn conn) b))
  breaks_go conn session app b had h = go (break_leaves app t.now (becomes (without_conn conn) b))
    where
      go : BreakLeaves (becomes (without_conn conn) b) (end_breaks (Some app) t.now (becomes (without_conn conn) b)) → Going (end_breaks (Some app) t.now (becomes (without_conn conn) b))
      go s = record {
        links = links_breaks l p d k app session conn t.now b h.links had;
        callers =
            callers_as (end_breaks (Some app) t.now (becomes (without_conn conn) b)).state (without_conn conn b.state).conns b.state.order (without_conn conn b.state).callers s.conns s.order s.callers
            (callers_gone conn b.state.conns b.state.order b.state.callers h.callers);
        on = λ still. on_beside b.state (end_breaks (Some app) t.now (becomes (without_conn conn) b)).state s.synced s.order s.round (λ none. s.callers ∙ ap (dropped_callers (Some conn)) none) (h.on still);
        grown = grown_same t.old.order b.state.order (end_breaks (Some app) t.now (becomes (without_conn conn) b)).state.order s.order h.grown;
        whence = subst (AllByRecursion W) (sym s.callers) (whence_dropped W (Some conn) b.state.callers h.whence);
      }

  -- what a step of the order makes of the plain server
  entered_view : (b c : Sofar) (e : Entry) → b.state.server ≡ d → c.outs.acts ≡ b.outs.acts ++ act.Enter b.state.server e ∷ [] → view l p d k c.outs.acts ≡ entered (view l p d k b.outs.acts) e
  entered_view b c e its acts = ap (view l p d k) acts ∙ ap (λ (q : ℕ). view l p d k (b.outs.acts ++ act.Enter q e ∷ [])) its ∙ view_enter l p d k b.outs.acts e

  pub enters_go : (e : Entry) (s : ℕ) (b : Sofar) → IsItemOf s e → MayFollow b.state.order e → is_some (conn_for s b.state.conns) ≡ true → Going b → Going (enters e b)
  enters_go e s b item may joined h = go (enters_facts e b)
    where
      go : Entered e b.state (enters e b).state → Going (enters e b)
      go f = record {
        links = subst (λ (v : Server). LinksGo d v (enters e b).state) (sym (entered_view b (enters e b) e h.links.server (enters_acts e b)))
            (links_enters d (view l p d k b.outs.acts) b.state (enters e b).state s e f item may joined h.links);
        callers =
            callers_as (enters e b).state b.state.conns (b.state.order ++ e ∷ []) b.state.callers f.conns f.order f.callers
            (callers_order b.state.conns b.state.order (b.state.order ++ e ∷ []) b.state.callers (λ a none. live_session-push b.state.order e a ∙ item.sessions (live_session b.state.order a) a ∙ none) h.callers);
        on = λ still. on_enters b.state (enters e b).state e item.quiet f.synced f.order f.round f.callers (h.on still);
        grown = grown_push t.old.order b.state.order (enters e b).state.order e f.order h.links.ordered may item.epoch h.grown;
        whence = subst (AllByRecursion W) (sym f.callers) h.whence;
      }

  -- a session opens, and the Hellos are as they are to be then
  pub opens_go : (app conn : ℕ) (r : Role) (b : Sofar) → live_session b.state.order app ≡ None → b.state.round ≡ None → role_at conn b.state.conns ≡ Some r → ((s : ℕ) → r ≡ Bound s → ⊥)
      → LinksGo d (view l p d k b.outs.acts) b.state
      → CallersOf (map (with_role_if conn (Bound (length b.state.order + 1))) b.state.conns) (b.state.order ++ Opened (length b.state.order + 1) app ∷ []) b.state.callers
      → (ends_round t.input ≡ false → b.state.callers ≡ []) → (ends_round t.input ≡ false → b.state.synced ≤ length b.state.order)
      → Grown t.old.order b.state.order → AllByRecursion W b.state.callers → Going (opens app conn t.now b)
  opens_go app conn r b free none role unbound links callers nobody within grown whence = go (opens_facts app conn t.now b)
    where
      e : Entry
      e = Opened (length b.state.order + 1) app

      go : OpenedOn app conn (data_next b.state.times t.now (link_of b.state app) event.Opened) b.state (opens app conn t.now b).state → Going (opens app conn t.now b)
      go f = record {
        links = subst (λ (v : Server). LinksGo d v (opens app conn t.now b).state) (sym (entered_view b (opens app conn t.now b) _ links.server (opens_acts app conn t.now b)))
            (links_opens d (view l p d k b.outs.acts) b.state (opens app conn t.now b).state app conn r (λ x. data_next b.state.times t.now x event.Opened) refl f free none role unbound links);
        callers =
            callers_as (opens app conn t.now b).state (map (with_role_if conn (Bound (length b.state.order + 1))) b.state.conns) (b.state.order ++ Opened (length b.state.order + 1) app ∷ []) b.state.callers
            f.conns f.order f.callers callers;
        on = λ still. on_none (opens app conn t.now b).state (f.round ∙ none) (f.callers ∙ nobody still)
            (subst (λ (m : ℕ). m ≤ length (opens app conn t.now b).state.order) (sym f.synced)
            (subst (λ (es : List Entry). b.state.synced ≤ length es) (sym f.order)
            (omega (arith, within still, length-append b.state.order (Opened (length b.state.order + 1) app ∷ [])))));
        grown = grown_push t.old.order b.state.order (opens app conn t.now b).state.order (Opened (length b.state.order + 1) app) f.order links.ordered
            (record { is_started = links.started; is_position = refl; is_free = free }) (λ n. refl) grown;
        whence = subst (AllByRecursion W) (sym f.callers) whence;
      }

  -- a session is closed
  pub closes_go : (s app : ℕ) (cause : ShutCause) (b : Sofar) → live_session b.state.order app ≡ Some s → data_next b.state.times t.now (link_of b.state app) (event_of cause) ≡ Free → Going b → Going (shuts s app cause t.now b)
  closes_go s app cause b has free h = go (subst (λ (x : DataLink). ClosedWith s app x (closed_conns cause (conn_of b.state s) s b.state.conns) (closed_callers cause (conn_of b.state s) b.state.callers) b.state (shuts s app cause t.now b).state) free (shuts_facts s app cause t.now b))
    where
      shuts_view : view l p d k (shuts s app cause t.now b).outs.acts ≡ shut (view l p d k b.outs.acts) s
      shuts_view =
          ap (view l p d k) (shuts_acts s app cause t.now b) ∙ ap (λ (q : ℕ). view l p d k (b.outs.acts ++ act.Shut q s cause ∷ [])) h.links.server ∙ view_shut l p d k b.outs.acts s cause

      go : ClosedWith s app Free (closed_conns cause (conn_of b.state s) s b.state.conns) (closed_callers cause (conn_of b.state s) b.state.callers) b.state (shuts s app cause t.now b).state → Going (shuts s app cause t.now b)
      go f = record {
        links = subst (λ (v : Server). LinksGo d v (shuts s app cause t.now b).state) (sym shuts_view) (links_closes d (view l p d k b.outs.acts) b.state (shuts s app cause t.now b).state s app cause f has h.links);
        callers =
            callers_as (shuts s app cause t.now b).state (closed_conns cause (conn_of b.state s) s b.state.conns) (b.state.order ++ Closed s ∷ []) (closed_callers cause (conn_of b.state s) b.state.callers) f.conns f.order f.callers
            (callers_order (closed_conns cause (conn_of b.state s) s b.state.conns) b.state.order (b.state.order ++ Closed s ∷ []) (closed_callers cause (conn_of b.state s) b.state.callers) (λ a none. close_still b.state.order s a none)
            (callers_close cause (conn_of b.state s) s b.state.conns b.state.order b.state.callers (λ w is. (bound_role s b.state.conns w h.links.differ is, conn_there s b.state.conns w is)) h.callers));
        on = λ still. on_closes b.state (shuts s app cause t.now b).state s cause (conn_of b.state s) f.synced f.order f.round f.callers (h.on still);
        grown = grown_push t.old.order b.state.order (shuts s app cause t.now b).state.order (Closed s) f.order h.links.ordered
            (record { is_live = (ordered_one_live b.state.order h.links.ordered).lives app s has }) (λ n. refl) h.grown;
        whence = subst (AllByRecursion W) (sym f.callers) (whence_closed W cause (conn_of b.state s) b.state.callers h.whence);
      }
