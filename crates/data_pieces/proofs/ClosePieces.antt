-- A data server's ends keep what holds of them as a session is closed.
use Rattle.std.proofs.Common.{◌≡◌, ◌≢◌, ℕ, Bool, List, [], ◌∷◌, ◌++◌, map, length, filter, Option, Some, None, option_map, refl, sym, ◌∙◌, ap, subst, if◌then◌else◌}
use Rattle.std.specs.Prelude.{IfSome, set}
use Rattle.std.proofs.lemmas.Bool.{eq-eqb, ne_eqb}
use Rattle.std.proofs.lemmas.List.{length-set}
use Rattle.plain_orders.specs.declared.causes.ShutCause.{ShutCause}
use Rattle.plain_orders.specs.declared.causes.ShutCause.TheVariants as causes
use Rattle.plain_orders.specs.declared.entry.Entry.{Entry}
use Rattle.plain_orders.specs.declared.entry.Entry.TheVariants.{Closed}
use Rattle.plain_orders.specs.Entries.{last_epoch, live_session, unless_closed}
use Rattle.plain_orders.specs.Ordered.{IsOrdered}
use Rattle.plain_orders.specs.Sessions.{app_in}
use Rattle.plain_orders.proofs.EntryLemmas.{last_epoch-push, live_session-push}
use Rattle.plain_orders.proofs.LiveSessions.{OneLive, ordered_one_live}
use Rattle.plain_orders.proofs.OrderLemmas.{ordered-push}
use Rattle.plain_runs.specs.EndRows.{shut}
use Rattle.plain_runs.specs.Plain.{Server}
use Rattle.link_states.specs.declared.data_link.DataLink.{DataLink}
use Rattle.link_states.specs.declared.data_link.DataLink.TheVariants.{Free}
use Rattle.recovery_round.specs.RoundWords.{Round, without}
use Rattle.data_rules.specs.DataState.{DataState}
use Rattle.data_rules.specs.declared.rows.Conn.{Conn}
use Rattle.data_rules.specs.declared.rows.Caller.{Caller}
use Rattle.data_rules.specs.declared.rows.Role.TheVariants.{Bound, Closing}
use Rattle.data_rules.specs.Conns.{with_role_if, is_other_caller}
use Rattle.cluster_invariant.specs.Ends.{due_in}
use Rattle.cluster_invariant.proofs.ConnRoles.{bound_role, dropped}
use Rattle.data_pieces.proofs.ConnLists.{Differ, role_at, conn_for, none_for, for_role, differ_role}
use Rattle.data_pieces.proofs.ConnPieces.{differ_dropped, for_dropped}
use Rattle.data_pieces.proofs.EntryPieces.{mended_none, mended_other}
use Rattle.data_pieces.proofs.LinksGo.{LinksGo, link_same, links_set}

-- the connections once a session was closed: its own awaits the Reset, or is dropped
abbrev pub closed_conns : ShutCause → Option ℕ → ℕ → List Conn → List Conn
closed_conns (causes.Trouble time) None s cs = cs
closed_conns (causes.Trouble time) (Some conn) s cs = map (with_role_if conn (Closing s)) cs
closed_conns causes.Replaced o s cs = dropped o cs
closed_conns (causes.Round time) None s cs = cs
closed_conns (causes.Round time) (Some conn) s cs = map (with_role_if conn (Closing s)) cs

-- the Hellos that wait, likewise
abbrev pub closed_callers : ShutCause → Option ℕ → List Caller → List Caller
closed_callers (causes.Trouble time) o cs = cs
closed_callers causes.Replaced None cs = cs
closed_callers causes.Replaced (Some conn) cs = filter (is_other_caller conn) cs
closed_callers (causes.Round time) o cs = cs

-- the state after a Close
pub record ClosedWith (s app : ℕ) (link : DataLink) (cs : List Conn) (waiting : List Caller) (n k : DataState) : Type 0 where
  pub server : k.server ≡ n.server
  pub order : k.order ≡ n.order ++ Closed s ∷ []
  pub synced : k.synced ≡ n.synced
  pub links : k.links ≡ set n.links app link
  pub conns : k.conns ≡ cs
  pub callers : k.callers ≡ waiting
  pub round : k.round ≡ option_map (λ r. without r s) n.round

-- the same, by the cause and the connection that the session had
abbrev pub ClosedBy : ℕ → ℕ → ShutCause → DataLink → DataState → DataState → Type 0
ClosedBy s app cause link n k = ClosedWith s app link (closed_conns cause (conn_for s n.conns) s n.conns) (closed_callers cause (conn_for s n.conns) n.callers) n k

closed_differ : (cause : ShutCause) (o : Option ℕ) (s : ℕ) (cs : List Conn) → Differ cs → Differ (closed_conns cause o s cs)
closed_differ (causes.Trouble time) None s cs h = h
closed_differ (causes.Trouble time) (Some conn) s cs h = differ_role conn (Closing s) cs h
closed_differ causes.Replaced o s cs h = differ_dropped o cs h
closed_differ (causes.Round time) None s cs h = h
closed_differ (causes.Round time) (Some conn) s cs h = differ_role conn (Closing s) cs h

-- the connections of other sessions stay
closed_others : (cause : ShutCause) (o : Option ℕ) (s q : ℕ) (cs : List Conn) → Differ cs → ((w : ℕ) → o ≡ Some w → role_at w cs ≡ Some (Bound s)) → s ≢ q
    → conn_for q (closed_conns cause o s cs) ≡ conn_for q cs
closed_others cause o s q cs differ its apart = go cause o its
  where
    unbound : (p : Option ℕ) (w : ℕ) → ((w : ℕ) → p ≡ Some w → role_at w cs ≡ Some (Bound s)) → p ≡ Some w → role_at w cs ≡ Some (Bound q) → ⊥
    unbound p w at is bound = apart (let both : Some (Bound s) ≡ Some (Bound q) = sym (at w is) ∙ bound in cc)

    go : (c : ShutCause) (p : Option ℕ) → ((w : ℕ) → p ≡ Some w → role_at w cs ≡ Some (Bound s)) → conn_for q (closed_conns c p s cs) ≡ conn_for q cs
    go (causes.Trouble time) None at = refl
    go (causes.Trouble time) (Some conn) at = for_role conn q (Closing s) cs (none_for conn q cs differ (unbound (Some conn) conn at refl)) refl
    go causes.Replaced p at = for_dropped p q cs differ (λ w is. unbound p w at is)
    go (causes.Round time) None at = refl
    go (causes.Round time) (Some conn) at = for_role conn q (Closing s) cs (none_for conn q cs differ (unbound (Some conn) conn at refl)) refl

same_due : (s : ℕ) (o : Option Round) → option_map due_in (option_map (λ r. without r s) o) ≡ option_map due_in o
same_due s None = refl
same_due s (Some r) = refl

pub links_closes : (d : ℕ) (v : Server) (n k : DataState) (s app : ℕ) (cause : ShutCause) → ClosedBy s app cause Free n k → live_session n.order app ≡ Some s → LinksGo d v n → LinksGo d (shut v s) k
links_closes d v n k s app cause t has h = record {
  server = t.server ∙ h.server;
  ordered = subst IsOrdered (sym t.order) (ordered-push n.order (Closed s) h.ordered (record { is_live = live.lives app s has }));
  started = λ zero. h.started (sym (last_epoch-push n.order (Closed s)) ∙ ap last_epoch (sym t.order) ∙ zero);
  order = ap (λ (es : List Entry). es ++ Closed s ∷ []) h.order ∙ sym t.order;
  differ = subst Differ (sym t.conns) (closed_differ cause (conn_for s n.conns) s n.conns h.differ);
  places = ap (λ (ls : List DataLink). length ls) t.links ∙ length-set n.links app Free ∙ h.places;
  links = links_set v (shut v s) n k app Free t.links h.places (λ low. live_is app ∙ ap (unless_closed s) has ∙ ap (λ (b : Bool). if b then None else Some s) (eq-eqb s s refl))
      (λ a differs link is. link_same v (shut v s) n k a link (λ broke at. mended_other v.end_at (app_in v.order s) a (other_app a differs)) due (other_live a differs) (λ q at. others a q differs at) is) h.links;
  due = due ∙ h.due;
  unbroken = subst (λ (o : Option Round). IfSome o (λ r. (a : ℕ) → (shut v s).end_at a ≡ None)) (sym t.round) (none n.round h.unbroken);
}
  where
    live : OneLive n.order
    live = ordered_one_live n.order h.ordered

    due : option_map due_in k.round ≡ option_map due_in n.round
    due = ap (option_map due_in) t.round ∙ same_due s n.round

    live_is : (a : ℕ) → live_session k.order a ≡ unless_closed s (live_session n.order a)
    live_is a = ap (λ (es : List Entry). live_session es a) t.order ∙ live_session-push n.order (Closed s) a

    other_app : (a : ℕ) → a ≢ app → app_in v.order s ≡ Some a → ⊥
    other_app a differs its =
        differs (let first : app_in n.order s ≡ Some app = live.has_app app s has in let second : app_in n.order s ≡ Some a = ap (λ (es : List Entry). app_in es s) (sym h.order) ∙ its in cc)

    apart : (a q : ℕ) → a ≢ app → live_session n.order a ≡ Some q → s ≢ q
    apart a q differs at same =
        differs (let first : app_in n.order s ≡ Some app = live.has_app app s has in let second : app_in n.order q ≡ Some a = live.has_app a q at in cc)

    other_live : (a : ℕ) → a ≢ app → live_session k.order a ≡ live_session n.order a
    other_live a differs = live_is a ∙ go (live_session n.order a) refl
      where
        go : (o : Option ℕ) → live_session n.order a ≡ o → unless_closed s o ≡ o
        go None at = refl
        go (Some q) at = ap (λ (b : Bool). if b then None else Some q) (ne_eqb q s (λ same. apart a q differs at (sym same)))

    others : (a q : ℕ) → a ≢ app → live_session n.order a ≡ Some q → conn_for q k.conns ≡ conn_for q n.conns
    others a q differs at =
        ap (conn_for q) t.conns
        ∙ closed_others cause (conn_for s n.conns) s q n.conns h.differ (λ w is. bound_role s n.conns w h.differ is) (apart a q differs at)

    none : (o : Option Round) → IfSome o (λ r. (a : ℕ) → v.end_at a ≡ None) → IfSome (option_map (λ r. without r s) o) (λ r. (a : ℕ) → (shut v s).end_at a ≡ None)
    none None u = tt
    none (Some r) u = mended_none v.end_at (app_in v.order s) u
