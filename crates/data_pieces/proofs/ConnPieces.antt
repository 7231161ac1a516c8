-- Small changes of a data server's step that concern connections keep its ends.
use Rattle.std.proofs.Common.{◌≡◌, ◌≢◌, ℕ, Bool, true, false, ◌==◌, not, cond, List, [], ◌∷◌, map, length, filter, Option, Some, None, is_some, option_map, refl, sym, ◌∙◌, ap, subst, eqb}
use Rattle.std.specs.Prelude.{IfSome, IsSomeAnd, set}
use Rattle.std.specs.List.{find}
use Rattle.std.proofs.lemmas.Bool.{eqb-true, eq-eqb, ne_eqb, false≢true}
use Rattle.std.proofs.lemmas.List.{length-set}
use Rattle.plain_orders.specs.declared.entry.Entry.{Entry}
use Rattle.plain_orders.specs.Entries.{last_epoch, live_session}
use Rattle.plain_orders.specs.Ordered.{IsOrdered}
use Rattle.plain_orders.specs.Sessions.{app_in}
use Rattle.plain_orders.proofs.LiveSessions.{OneLive, ordered_one_live}
use Rattle.plain_runs.specs.Plain.{Server}
use Rattle.link_states.specs.declared.data_link.DataLink.{DataLink}
use Rattle.link_states.specs.declared.data_link.DataLink.TheVariants.{Free, Normal, Trouble, Recovering}
use Rattle.link_states.specs.declared.link_event.LinkEvent.TheVariants.{Resumed}
use Rattle.link_states.specs.Tables.{data_next}
use Rattle.recovery_round.specs.RoundWords.{Round}
use Rattle.data_rules.specs.DataState.{DataState}
use Rattle.data_rules.specs.declared.rows.Conn.{Conn}
use Rattle.data_rules.specs.declared.rows.Role.{Role}
use Rattle.data_rules.specs.declared.rows.Role.TheVariants.{New, Waiting, Bound, Closing}
use Rattle.data_rules.specs.Puts.{Sofar, conn_of}
use Rattle.data_rules.specs.Conns.{is_conn, is_other_conn, link_of, with_conn, with_role, with_role_if, without_conn, role_in, drops_conn}
use Rattle.data_rules.specs.Callers.{resumed, with_caller}
use Rattle.cluster_invariant.specs.Ends.{LinkIs, due_in}
use Rattle.cluster_invariant.proofs.ConnRoles.{bound_role, dropped, other_stays, new_stays}
use Rattle.cluster_invariant.proofs.PiecesOfCloses.{role_given}
use Rattle.data_pieces.proofs.ConnLists.{Differ, NoneFor, role_at, conn_for, none_for, for_gone, for_role, for_more, for_bound, differ_gone, differ_role, differ_more}
use Rattle.data_pieces.proofs.LinksGo.{LinksGo, link_same, links_stay, links_set}

-- connections alone change

-- those of live sessions stay
pub record NewConns (n k : DataState) : Type 0 where
  pub server : k.server ≡ n.server
  pub order : k.order ≡ n.order
  pub links : k.links ≡ n.links
  pub round : k.round ≡ n.round
  pub differ : Differ k.conns
  pub stays : (app s : ℕ) → live_session n.order app ≡ Some s → conn_for s k.conns ≡ conn_for s n.conns

pub links_conns : (d : ℕ) (v : Server) (n k : DataState) → NewConns n k → LinksGo d v n → LinksGo d v k
links_conns d v n k t h = record {
  server = t.server ∙ h.server;
  ordered = subst IsOrdered (sym t.order) h.ordered;
  started = subst (λ (es : List Entry). last_epoch es ≢ 0) (sym t.order) h.started;
  order = h.order ∙ sym t.order;
  differ = t.differ;
  places = ap (λ (ls : List DataLink). length ls) t.links ∙ h.places;
  links = links_stay v v n k t.links
      (λ app link is. link_same v v n k app link (λ broke at. refl) (ap (option_map due_in) t.round) (ap (λ (es : List Entry). live_session es app) t.order) (λ s at. t.stays app s at) is) h.links;
  due = ap (option_map due_in) t.round ∙ h.due;
  unbroken = subst (λ (o : Option Round). IfSome o (λ r. (app : ℕ) → v.end_at app ≡ None)) (sym t.round) h.unbroken;
}

-- a connection comes
pub links_accepts : (d : ℕ) (v : Server) (n : DataState) (conn : ℕ) → is_some (role_at conn n.conns) ≡ false → LinksGo d v n → LinksGo d v (with_conn conn n)
links_accepts d v n conn unknown h =
    links_conns d v n (with_conn conn n)
    (record {
      server = refl;
      order = refl;
      links = refl;
      round = refl;
      differ = differ_more (record { number = conn; role = New }) n.conns h.differ unknown;
      stays = λ app s is. ap (option_map (λ (c : Conn). c.number)) (for_more s (record { number = conn; role = New }) n.conns refl);
    }) h

-- one goes that is no live session's
pub links_forgets : (d : ℕ) (v : Server) (n : DataState) (conn : ℕ) → ((s : ℕ) → role_at conn n.conns ≡ Some (Bound s) → app_in n.order s ≡ None) → LinksGo d v n → LinksGo d v (without_conn conn n)
links_forgets d v n conn apart h =
    links_conns d v n (without_conn conn n)
    (record {
      server = refl;
      order = refl;
      links = refl;
      round = refl;
      differ = differ_gone conn n.conns h.differ;
      stays = λ app s is. ap (option_map (λ (c : Conn). c.number)) (for_gone conn s n.conns (none_for conn s n.conns h.differ (other app s is)));
    }) h
  where
    other : (app s : ℕ) → live_session n.order app ≡ Some s → role_at conn n.conns ≡ Some (Bound s) → ⊥
    other app s is role = (let has : app_in n.order s ≡ Some app = (ordered_one_live n.order h.ordered).has_app app s is in let none : app_in n.order s ≡ None = apart s role in cc)

-- a connection that isn't there any more
pub role_gone : (w : ℕ) (cs : List Conn) → role_at w (filter (is_other_conn w) cs) ≡ None
role_gone w [] = refl
role_gone w (c ∷ cs) = go (c.number == w) refl (role_gone w cs)
  where
    go : (b : Bool) → (c.number == w) ≡ b → role_at w (filter (is_other_conn w) cs) ≡ None → role_at w (cond (not b) (c ∷ filter (is_other_conn w) cs) (filter (is_other_conn w) cs)) ≡ None
    go true is more = more
    go false is more = ap (λ (t : Bool). option_map role_in (cond t (Some c) (find (is_conn w) (filter (is_other_conn w) cs)))) is ∙ more

-- what another is for it was for before
pub role_before : (w m : ℕ) (r : Role) (cs : List Conn) → role_at m (filter (is_other_conn w) cs) ≡ Some r → role_at m cs ≡ Some r
role_before w m r cs is = go (eqb m w) refl
  where
    go : (b : Bool) → eqb m w ≡ b → role_at m cs ≡ Some r
    go true same = absurd (let none : role_at m (filter (is_other_conn w) cs) ≡ None = ap (λ (q : ℕ). role_at q (filter (is_other_conn w) cs)) (eqb-true m w same) ∙ role_gone w cs in cc)
    go false other = sym (ap (option_map role_in) (other_stays cs w m (λ same. false≢true (sym other ∙ eq-eqb m w same)))) ∙ is

pub role_dropped : (o : Option ℕ) (m : ℕ) (r : Role) (cs : List Conn) → role_at m (dropped o cs) ≡ Some r → role_at m cs ≡ Some r
role_dropped None m r cs is = is
role_dropped (Some w) m r cs is = role_before w m r cs is

pub differ_dropped : (o : Option ℕ) (cs : List Conn) → Differ cs → Differ (dropped o cs)
differ_dropped None cs h = h
differ_dropped (Some w) cs h = differ_gone w cs h

-- another connection of a session is dropped, or none
pub for_dropped : (o : Option ℕ) (s : ℕ) (cs : List Conn) → Differ cs → ((w : ℕ) → o ≡ Some w → role_at w cs ≡ Some (Bound s) → ⊥) → conn_for s (dropped o cs) ≡ conn_for s cs
for_dropped None s cs differ apart = refl
for_dropped (Some w) s cs differ apart = ap (option_map (λ (c : Conn). c.number)) (for_gone w s cs (none_for w s cs differ (apart w refl)))

-- a Hello waits, in place of an older one
pub links_waits : (d : ℕ) (v : Server) (app conn : ℕ) (b : Sofar) (o : Option ℕ) → ((w : ℕ) → o ≡ Some w → role_at w b.state.conns ≡ Some Waiting) → role_at conn b.state.conns ≡ Some New
    → LinksGo d v b.state → LinksGo d v (with_caller app conn (drops_conn o b).state)
links_waits d v app conn b o waits new h = go o waits (λ s. none_for conn s (dropped o b.state.conns) (differ_dropped o b.state.conns h.differ) (apart s))
  where
    apart : (s : ℕ) → role_at conn (dropped o b.state.conns) ≡ Some (Bound s) → ⊥
    apart s is = (let was : role_at conn b.state.conns ≡ Some (Bound s) = role_dropped o conn (Bound s) b.state.conns is in cc)

    old : (q : Option ℕ) → ((w : ℕ) → q ≡ Some w → role_at w b.state.conns ≡ Some Waiting) → (s w : ℕ) → q ≡ Some w → role_at w b.state.conns ≡ Some (Bound s) → ⊥
    old q is s w at bound = (let waiting : role_at w b.state.conns ≡ Some Waiting = is w at in cc)

    go : (q : Option ℕ) → ((w : ℕ) → q ≡ Some w → role_at w b.state.conns ≡ Some Waiting) → ((s : ℕ) → NoneFor conn s (dropped q b.state.conns)) → LinksGo d v (with_caller app conn (drops_conn q b).state)
    go None is none =
        links_conns d v b.state (with_caller app conn b.state)
        (record {
          server = refl;
          order = refl;
          links = refl;
          round = refl;
          differ = differ_role conn Waiting b.state.conns h.differ;
          stays = λ a s at. for_role conn s Waiting b.state.conns (none s) refl;
        }) h
    go (Some w) is none =
        links_conns d v b.state (with_caller app conn (drops_conn (Some w) b).state)
        (record {
          server = refl;
          order = refl;
          links = refl;
          round = refl;
          differ = differ_role conn Waiting (filter (is_other_conn w) b.state.conns) (differ_gone w b.state.conns h.differ);
          stays = λ a s at. for_role conn s Waiting (filter (is_other_conn w) b.state.conns) (none s) refl ∙ for_dropped (Some w) s b.state.conns h.differ (old (Some w) is s);
        }) h

-- a Recover of a closed session awaits its Reset
pub links_closing : (d : ℕ) (v : Server) (n : DataState) (conn session : ℕ) → role_at conn n.conns ≡ Some New → LinksGo d v n → LinksGo d v (with_role conn (Closing session) n)
links_closing d v n conn session new h =
    links_conns d v n (with_role conn (Closing session) n)
    (record {
      server = refl;
      order = refl;
      links = refl;
      round = refl;
      differ = differ_role conn (Closing session) n.conns h.differ;
      stays = λ app s is. for_role conn s (Closing session) n.conns (none_for conn s n.conns h.differ (λ bound. (let both : Some New ≡ Some (Bound s) = sym new ∙ bound in cc))) refl;
    }) h

-- a session takes a new connection

some_role : (o : Option Conn) (r : Role) → option_map role_in o ≡ Some r → is_some o ≡ true
some_role None r is = absurd cc
some_role (Some c) r is = refl

-- the state of an end whose session has a connection
resumed_link : (v : Server) (n k : DataState) (app session now : ℕ) (x : DataLink) → k.round ≡ n.round → k.order ≡ n.order → live_session n.order app ≡ Some session
    → is_some (conn_for session k.conns) ≡ true → LinkIs v n app x → LinkIs v k app (data_next n.times now x Resumed)
resumed_link v n k app session now Free round order has joined h = absurd (let none : live_session n.order app ≡ None = h in cc)
resumed_link v n k app session now Normal round order has joined h = record {
  out_of_round = round ∙ h.out_of_round;
  joined = subst (λ (o : Option ℕ). IsSomeAnd o (λ s. is_some (conn_for s k.conns) ≡ true)) (sym (ap (λ (es : List Entry). live_session es app) order ∙ has)) joined;
}
resumed_link v n k app session now (Trouble broke) round order has joined h = record {
  out_of_round = round ∙ h.out_of_round;
  joined = subst (λ (o : Option ℕ). IsSomeAnd o (λ s. is_some (conn_for s k.conns) ≡ true)) (sym (ap (λ (es : List Entry). live_session es app) order ∙ has)) joined;
}
resumed_link v n k app session now (Recovering due) round order has joined h = record {
  in_round = subst (λ (o : Option Round). IsSomeAnd o (λ r. r.due ≡ due)) (sym round) h.in_round;
  has_live = ap (λ (es : List Entry). is_some (live_session es app)) order ∙ h.has_live;
}

pub links_resumes : (d : ℕ) (v : Server) (app session conn now : ℕ) (b : Sofar) → role_at conn b.state.conns ≡ Some New → live_session b.state.order app ≡ Some session
    → LinksGo d v b.state → LinksGo d v (resumed app session conn now (drops_conn (conn_of b.state session) b).state)
links_resumes d v app session conn now b new has h =
    go (conn_of b.state session) (λ w is. bound_role session b.state.conns w h.differ is) (new_stays b.state session conn h.differ new)
  where
    n : DataState
    n = b.state

    by : (o : Option ℕ) (k : DataState) → ((w : ℕ) → o ≡ Some w → role_at w n.conns ≡ Some (Bound session)) → role_at conn (dropped o n.conns) ≡ Some New
        → k.server ≡ n.server → k.order ≡ n.order → k.round ≡ n.round → k.links ≡ set n.links app (data_next n.times now (link_of n app) Resumed) → k.conns ≡ map (with_role_if conn (Bound session)) (dropped o n.conns)
        → LinksGo d v k
    by o k old there server order round links conns = record {
      server = server ∙ h.server;
      ordered = subst IsOrdered (sym order) h.ordered;
      started = subst (λ (es : List Entry). last_epoch es ≢ 0) (sym order) h.started;
      order = h.order ∙ sym order;
      differ = subst Differ (sym conns) (differ_role conn (Bound session) (dropped o n.conns) (differ_dropped o n.conns h.differ));
      places = ap (λ (ls : List DataLink). length ls) links ∙ length-set n.links app _ ∙ h.places;
      links = links_set v v n k app (data_next n.times now (link_of n app) Resumed) links h.places
          (λ low. resumed_link v n k app session now (link_of n app) round order has joined (h.links app low))
          (λ a differs link is. link_same v v n k a link (λ broke at. refl) (ap (option_map due_in) round) (ap (λ (es : List Entry). live_session es a) order) (λ s at. others a s differs at) is) h.links;
      due = ap (option_map due_in) round ∙ h.due;
      unbroken = subst (λ (o : Option Round). IfSome o (λ r. (a : ℕ) → v.end_at a ≡ None)) (sym round) h.unbroken;
    }
      where
        joined : is_some (conn_for session k.conns) ≡ true
        joined =
            subst (λ (cs : List Conn). is_some (conn_for session cs) ≡ true) (sym conns)
            (for_bound conn session (map (with_role_if conn (Bound session)) (dropped o n.conns)) (role_given conn (Bound session) (dropped o n.conns) (some_role (find (is_conn conn) (dropped o n.conns)) New there)))

        others : (a s : ℕ) → a ≢ app → live_session n.order a ≡ Some s → conn_for s k.conns ≡ conn_for s n.conns
        others a s differs at =
            ap (conn_for s) conns
            ∙ for_role conn s (Bound session) (dropped o n.conns)
            (none_for conn s (dropped o n.conns) (differ_dropped o n.conns h.differ) (λ bound. (let both : Some New ≡ Some (Bound s) = sym there ∙ bound in cc)))
            (ne_eqb session s apart)
            ∙ for_dropped o s n.conns h.differ (λ w is bound. apart (let both : Some (Bound session) ≡ Some (Bound s) = sym (old w is) ∙ bound in cc))
          where
            live : OneLive n.order
            live = ordered_one_live n.order h.ordered

            apart : session ≢ s
            apart same = differs (let first : app_in n.order s ≡ Some a = live.has_app a s at in let second : app_in n.order session ≡ Some app = live.has_app app session has in cc)

    go : (o : Option ℕ) → ((w : ℕ) → o ≡ Some w → role_at w n.conns ≡ Some (Bound session)) → role_at conn (dropped o n.conns) ≡ Some New → LinksGo d v (resumed app session conn now (drops_conn o b).state)
    go None old there = by None (resumed app session conn now n) old there refl refl refl refl refl
    go (Some w) old there = by (Some w) (resumed app session conn now (drops_conn (Some w) b).state) old there refl refl refl refl refl
