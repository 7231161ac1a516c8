-- All that goes along of a node's ends as a step of it is made, over those small changes that several things come together in.
use Rattle.std.proofs.Common.{◌≡◌, ◌≢◌, ℕ, Bool, true, false, List, [], ◌∷◌, ◌++◌, length, Option, Some, None, is_some, option_map, refl, sym, ◌∙◌, ap, subst, arith, if◌then◌else◌}
use Rattle.std.specs.Prelude.{IfSome, nat_lt}
use Rattle.std.specs.List.{AllByRecursion, find}
use Rattle.std.proofs.lemmas.Bool.{ltb-true, ltb-false, ne_eqb}
use Rattle.plain_orders.specs.declared.causes.ShutCause.{ShutCause}
use Rattle.plain_orders.specs.declared.causes.ShutCause.TheVariants as causes
use Rattle.plain_orders.specs.declared.entry.Entry.{Entry}
use Rattle.plain_orders.specs.declared.entry.Entry.TheVariants.{Closed, Commit, Epoch, Opened, Rollback, Update}
use Rattle.plain_orders.specs.Ordered.{IsOrdered, MayFollow}
use Rattle.link_states.specs.declared.data_link.DataLink.{DataLink}
use Rattle.plain_orders.specs.Entries.{epoch_after, last_epoch, live_session, unless_closed}
use Rattle.plain_orders.proofs.EntryLemmas.{app_from-push, last_epoch-push, live_session-push}
use Rattle.plain_orders.proofs.LiveSessions.{none_opened}
use Rattle.plain_orders.specs.Sessions.{app_after, app_in}
use Rattle.cluster_invariant.proofs.AllLists.{all_filtered}
use Rattle.plain_runs.specs.Plain.{Server}
use Rattle.recovery_round.specs.RoundWords.{Round, without}
use Rattle.data_rules.specs.DataState.{DataState}
use Rattle.data_rules.specs.declared.rows.Caller.{Caller}
use Rattle.data_rules.specs.declared.rows.Conn.{Conn}
use Rattle.data_rules.specs.declared.rows.Role.TheVariants.{Bound, Closing, Waiting}
use Rattle.data_rules.specs.Conns.{is_other_caller, is_conn, drops_conn}
use Rattle.data_rules.specs.Puts.{Sofar}
use Rattle.cluster_invariant.specs.Ends.{due_in}
use Rattle.cluster_invariant.proofs.PieceMay.{Coming}
use Rattle.data_pieces.proofs.CallersGo.{CallersOf, callers_role}
use Rattle.data_pieces.proofs.CallerPieces.{callers_dropped, dropped_callers}
use Rattle.data_pieces.proofs.ClosePieces.{closed_callers, closed_conns}
use Rattle.data_pieces.proofs.ConnLists.{Differ, conn_for, role_at}
use Rattle.data_pieces.proofs.LinksGo.{LinksGo, SameCore, link_same, links_stay}
use Rattle.data_pieces.proofs.RoundOn.{RoundOn, ends_round, on_beside}

-- a list that goes on by no Epoch, and the application servers of its sessions
pub record Grown (es fs : List Entry) : Type 0 where
  pub apps : (s a : ℕ) → app_in es s ≡ Some a → app_in fs s ≡ Some a
  pub epoch : last_epoch fs ≡ last_epoch es

pub grown_same : (es fs gs : List Entry) → gs ≡ fs → Grown es fs → Grown es gs
grown_same es fs gs same h = subst (Grown es) (sym same) h

pub grown_none : (es : List Entry) → Grown es es
grown_none es = record { apps = λ s a is. is; epoch = refl }

still_app : (fs : List Entry) (e : Entry) → IsOrdered fs → MayFollow fs e → (s a : ℕ) → app_in fs s ≡ Some a → app_after (app_in fs s) e s ≡ Some a
still_app fs (Epoch number) o may s a is = is
still_app fs (Opened session app) o may s a is = ap (λ (b : Bool). if b then Some app else app_in fs s) (ne_eqb session s differs) ∙ is
  where
    differs : session ≢ s
    differs same = go (nat_lt (length fs) s) refl
      where
        go : (b : Bool) → nat_lt (length fs) s ≡ b → ⊥
        go true low = (let none : app_in fs s ≡ None = none_opened fs o s (ltb-true (length fs) s low) in cc)
        go false high = absurd (omega (arith, may.is_position, same, ltb-false (length fs) s high))
still_app fs (Closed session) o may s a is = is
still_app fs (Update session w job txn op) o may s a is = is
still_app fs (Commit session w job txn) o may s a is = is
still_app fs (Rollback session w job txn) o may s a is = is

pub grown_push : (es fs gs : List Entry) (e : Entry) → gs ≡ fs ++ e ∷ [] → IsOrdered fs → MayFollow fs e → ((n : ℕ) → epoch_after n e ≡ n) → Grown es fs → Grown es gs
grown_push es fs gs e same o may quiet h =
    subst (Grown es) (sym same)
    (record {
      apps = λ s a is. app_from-push None fs e s ∙ still_app fs e o may s a (h.apps s a is);
      epoch = last_epoch-push fs e ∙ quiet (last_epoch fs) ∙ h.epoch;
    })

-- the ends, the Hellos that wait, and, where no round ends, that none is over
pub record EndsGo (t : Coming) (W : Caller → Type 0) (d : ℕ) (v : Server) (n : DataState) : Type 0 where
  pub links : LinksGo d v n
  pub callers : CallersOf n.conns n.order n.callers
  pub on : ends_round t.input ≡ false → RoundOn n
  -- the order goes on, and each Hello that waits did before or came just now
  pub grown : Grown t.old.order n.order
  pub whence : AllByRecursion W n.callers

-- the Hellos of a state whose parts are these
pub callers_as : (k : DataState) (cs : List Conn) (es : List Entry) (ws : List Caller) → k.conns ≡ cs → k.order ≡ es → k.callers ≡ ws → CallersOf cs es ws → CallersOf k.conns k.order k.callers
callers_as k cs es ws conns order callers h =
    subst (λ (xs : List Conn). CallersOf xs k.order k.callers) (sym conns)
    (subst (λ (xs : List Entry). CallersOf cs xs k.callers) (sym order) (subst (λ (xs : List Caller). CallersOf cs es xs) (sym callers) h))

-- the Hellos stay where nothing of the ends changes
pub callers_core : (n k : DataState) → SameCore n k → CallersOf n.conns n.order n.callers → CallersOf k.conns k.order k.callers
callers_core n k s h = callers_as k n.conns n.order n.callers s.conns s.order s.callers h

-- and so does the round
pub on_core : (n k : DataState) → SameCore n k → RoundOn n → RoundOn k
on_core n k s h = on_beside n k s.synced s.order s.round (λ none. s.callers ∙ none) h

-- none waits in any list where none does in one
pub callers_none : (cs : List Conn) (es fs : List Entry) (ws : List Caller) → ws ≡ [] → CallersOf cs es ws → CallersOf cs fs ws
callers_none cs es fs ws none h =
    subst (CallersOf cs fs) (sym none) (go (subst (CallersOf cs es) none h))
  where
    go : CallersOf cs es [] → CallersOf cs fs []
    go g = record { each = tt; one_each = refl; apart = refl; all = g.all }

-- a connection that is dropped takes its Hello along
pub dropped_waiting : (o : Option ℕ) (b : Sofar) → (drops_conn o b).state.callers ≡ dropped_callers o b.state.callers
dropped_waiting None b = refl
dropped_waiting (Some w) b = refl

pub dropped_none : (o : Option ℕ) (ws : List Caller) → ws ≡ [] → dropped_callers o ws ≡ []
dropped_none None ws none = none
dropped_none (Some w) ws none = ap (dropped_callers (Some w)) none

-- the Hellos as a session is closed
pub callers_close : (cause : ShutCause) (o : Option ℕ) (s : ℕ) (cs : List Conn) (es : List Entry) (ws : List Caller) → ((w : ℕ) → o ≡ Some w → (role_at w cs ≡ Some (Bound s)) × (is_some (find (is_conn w) cs) ≡ true))
    → CallersOf cs es ws → CallersOf (closed_conns cause o s cs) es (closed_callers cause o ws)
callers_close (causes.Trouble time) None s cs es ws its h = h
callers_close (causes.Trouble time) (Some conn) s cs es ws its h =
    callers_role conn (Closing s) cs es ws (λ waits. (let both : Some (Bound s) ≡ Some Waiting = sym (its conn refl).0 ∙ waits in cc)) (λ same. absurd cc) (its conn refl).1 h
callers_close causes.Replaced None s cs es ws its h = h
callers_close causes.Replaced (Some conn) s cs es ws its h = callers_dropped (Some conn) cs es ws h
callers_close (causes.Round time) None s cs es ws its h = h
callers_close (causes.Round time) (Some conn) s cs es ws its h =
    callers_role conn (Closing s) cs es ws (λ waits. (let both : Some (Bound s) ≡ Some Waiting = sym (its conn refl).0 ∙ waits in cc)) (λ same. absurd cc) (its conn refl).1 h

-- no session comes of a Close
pub close_still : (es : List Entry) (s a : ℕ) → live_session es a ≡ None → live_session (es ++ Closed s ∷ []) a ≡ None
close_still es s a none = live_session-push es (Closed s) a ∙ ap (unless_closed s) none

-- an Open is of its own application server
pub open_still : (es : List Entry) (s app a : ℕ) → a ≢ app → live_session es a ≡ None → live_session (es ++ Opened s app ∷ []) a ≡ None
open_still es s app a differs none =
    live_session-push es (Opened s app) a ∙ ap (λ (b : Bool). if b then Some s else live_session es a) (ne_eqb app a (λ same. differs (sym same))) ∙ none

-- a session that isn't awaited any more
pub links_unawaited : (d : ℕ) (v : Server) (n k : DataState) (s : ℕ) → k.server ≡ n.server → k.order ≡ n.order → k.links ≡ n.links → k.conns ≡ n.conns → k.round ≡ option_map (λ r. without r s) n.round
    → LinksGo d v n → LinksGo d v k
links_unawaited d v n k s server order links conns round h = record {
  server = server ∙ h.server;
  ordered = subst IsOrdered (sym order) h.ordered;
  started = subst (λ (es : List Entry). last_epoch es ≢ 0) (sym order) h.started;
  order = h.order ∙ sym order;
  differ = subst Differ (sym conns) h.differ;
  places = ap (λ (ls : List DataLink). length ls) links ∙ h.places;
  links = links_stay v v n k links
      (λ app link is. link_same v v n k app link (λ broke at. refl) due (ap (λ (es : List Entry). live_session es app) order) (λ q at. ap (conn_for q) conns) is) h.links;
  due = due ∙ h.due;
  unbroken = subst (λ (o : Option Round). IfSome o (λ r. (app : ℕ) → v.end_at app ≡ None)) (sym round) (go n.round h.unbroken);
}
  where
    same_due : (o : Option Round) → option_map due_in (option_map (λ r. without r s) o) ≡ option_map due_in o
    same_due None = refl
    same_due (Some r) = refl

    due : option_map due_in k.round ≡ option_map due_in n.round
    due = ap (option_map due_in) round ∙ same_due n.round

    go : (o : Option Round) → IfSome o (λ r. (app : ℕ) → v.end_at app ≡ None) → IfSome (option_map (λ r. without r s) o) (λ r. (app : ℕ) → v.end_at app ≡ None)
    go None u = tt
    go (Some r) u = u

-- fewer Hellos

pub whence_dropped : (W : Caller → Type 0) (o : Option ℕ) (ws : List Caller) → AllByRecursion W ws → AllByRecursion W (dropped_callers o ws)
whence_dropped W None ws h = h
whence_dropped W (Some w) ws h = all_filtered W (is_other_caller w) ws h

pub whence_closed : (W : Caller → Type 0) (cause : ShutCause) (o : Option ℕ) (ws : List Caller) → AllByRecursion W ws → AllByRecursion W (closed_callers cause o ws)
whence_closed W (causes.Trouble time) o ws h = h
whence_closed W causes.Replaced None ws h = h
whence_closed W causes.Replaced (Some conn) ws h = all_filtered W (is_other_caller conn) ws h
whence_closed W (causes.Round time) o ws h = h
