-- A data server's ends keep what holds of them as entries enter: items, Opens and Closes.
use Rattle.std.proofs.Common.{◌≡◌, ◌≢◌, ◌<◌, ◌+◌, ◌==◌, ℕ, Bool, true, false, List, [], ◌∷◌, ◌++◌, map, length, Option, Some, None, is_some, option_map, refl, sym, ◌∙◌, ap, subst, arith, if◌then◌else◌}
use Rattle.std.specs.Prelude.{IfSome, IsSomeAnd, set}
use Rattle.std.specs.List.{find}
use Rattle.std.proofs.lemmas.Bool.{eq-eqb, ne_eqb, false≢true}
use Rattle.std.proofs.lemmas.List.{length-set}
use Rattle.plain_orders.specs.declared.entry.Entry.{Entry}
use Rattle.plain_orders.specs.declared.entry.Entry.TheVariants.{Opened, Update as UpdateEntry, Commit as CommitEntry, Rollback as RollbackEntry}
use Rattle.plain_orders.specs.declared.op.Op.TheVariants as ops
use Rattle.plain_orders.specs.Entries.{epoch_after, last_epoch, live, live_session, live_session_after}
use Rattle.plain_orders.specs.Ordered.{IsOrdered, MayFollow}
use Rattle.plain_orders.specs.Sessions.{app_in}
use Rattle.plain_orders.proofs.EntryLemmas.{last_epoch-push, live_session-push}
use Rattle.plain_orders.proofs.LiveSessions.{ordered_one_live}
use Rattle.plain_orders.proofs.OrderLemmas.{ordered-push}
use Rattle.plain_orders.proofs.PastLemmas.{ordered_past}
use Rattle.plain_runs.specs.OrderRows.{entered, entered_of, mended_end}
use Rattle.plain_runs.specs.Plain.{Server}
use Rattle.link_states.specs.declared.data_link.DataLink.{DataLink}
use Rattle.link_states.specs.declared.data_link.DataLink.TheVariants.{Free, Normal, Trouble, Recovering}
use Rattle.ecp_messages.specs.declared.up.Up.{Up}
use Rattle.ecp_messages.specs.declared.up.Up.TheVariants.{Hello, Recover, Update, Add, Fetch, Ask, Unlock, Cancel, Commit, Rollback, Sync, Done, Claim, Bare}
use Rattle.recovery_round.specs.RoundWords.{Round}
use Rattle.data_rules.specs.DataState.{DataState}
use Rattle.data_rules.specs.declared.limits.TheConstants.{APP_LIMIT}
use Rattle.data_rules.specs.declared.rows.Conn.{Conn}
use Rattle.data_rules.specs.declared.rows.Role.{Role}
use Rattle.data_rules.specs.declared.rows.Role.TheVariants.{Bound}
use Rattle.data_rules.specs.Conns.{link_of, with_role_if}
use Rattle.cluster_invariant.specs.Ends.{LinkIs, due_in}
use Rattle.cluster_invariant.proofs.PieceMay.{item_of}
use Rattle.cluster_invariant.proofs.PiecesOfCloses.{role_given}
use Rattle.cluster_invariant.proofs.Small.{put_other}
use Rattle.data_pieces.proofs.AwaitedSessions.{is_quiet}
use Rattle.data_pieces.proofs.ConnLists.{Differ, role_at, conn_for, none_for, for_role, for_bound, differ_role}
use Rattle.data_pieces.proofs.LinksGo.{LinksGo, link_same, links_set, links_stay}

-- items

-- an item of this session
pub record IsItemOf (s : ℕ) (e : Entry) : Type 0 where
  pub enters : (v : Server) → entered v e ≡ entered_of v s e
  pub lives : (es : List Entry) → MayFollow es e → live es s ≡ true
  pub quiet : is_quiet e ≡ true
  pub sessions : (o : Option ℕ) (a : ℕ) → live_session_after o e a ≡ o
  pub epoch : (n : ℕ) → epoch_after n e ≡ n

some_same : (x y : Entry) → Some x ≡ Some y → x ≡ y
some_same x y same = cc

pub item_is : (s : ℕ) (m : Up) (e : Entry) → item_of s m ≡ Some e → IsItemOf s e
item_is s (Hello app dial) e its = absurd cc
item_is s (Recover app q epoch taken dial) e its = absurd cc
item_is s (Update w job txn op) e its =
    subst (IsItemOf s) (some_same (UpdateEntry s w job txn op) e its)
    (record { enters = λ v. refl; lives = λ es may. may.is_live; quiet = refl; sessions = λ o a. refl; epoch = λ n. refl })
item_is s (Add w job key amount) e its =
    subst (IsItemOf s) (some_same (UpdateEntry s w job 0 (ops.Add key amount)) e its)
    (record { enters = λ v. refl; lives = λ es may. may.is_live; quiet = refl; sessions = λ o a. refl; epoch = λ n. refl })
item_is s (Fetch key) e its = absurd cc
item_is s (Ask ticket job mode key) e its = absurd cc
item_is s (Unlock job mode key) e its = absurd cc
item_is s (Cancel ticket) e its = absurd cc
item_is s (Commit w job txn wanted) e its =
    subst (IsItemOf s) (some_same (CommitEntry s w job txn) e its)
    (record { enters = λ v. refl; lives = λ es may. may.is_live; quiet = refl; sessions = λ o a. refl; epoch = λ n. refl })
item_is s (Rollback w job txn) e its =
    subst (IsItemOf s) (some_same (RollbackEntry s w job txn) e its)
    (record { enters = λ v. refl; lives = λ es may. may.is_live; quiet = refl; sessions = λ o a. refl; epoch = λ n. refl })
item_is s (Sync ticket) e its = absurd cc
item_is s Done e its = absurd cc
item_is s (Claim job mode number at key) e its = absurd cc
item_is s Bare e its = absurd cc

-- what an entry mends stays of others
pub mended_other : (f : ℕ → Option ℕ) (o : Option ℕ) (a : ℕ) → (o ≡ Some a → ⊥) → mended_end f o a ≡ f a
mended_other f None a apart = refl
mended_other f (Some q) a apart = put_other f q None a (λ same. apart (ap Some (sym same)))

-- and none is set by it
pub mended_none : (f : ℕ → Option ℕ) (o : Option ℕ) → ((a : ℕ) → f a ≡ None) → (a : ℕ) → mended_end f o a ≡ None
mended_none f None none a = none a
mended_none f (Some q) none a = go (a == q)
  where
    go : (b : Bool) → (if b then None else f a) ≡ None
    go true = refl
    go false = none a

-- where it is in trouble an end has no connection
trouble_apart : (v : Server) (n : DataState) (app s broke : ℕ) → live_session n.order app ≡ Some s → is_some (conn_for s n.conns) ≡ true → LinkIs v n app (Trouble broke) → ⊥
trouble_apart v n app s broke has joined is = go (live_session n.order app) has is.apart
  where
    go : (o : Option ℕ) → o ≡ Some s → IsSomeAnd o (λ q. conn_for q n.conns ≡ None) → ⊥
    go None at none = none
    go (Some q) at none =
        (let same : q ≡ s = cc in false≢true (sym (ap is_some (ap (λ (k : ℕ). conn_for k n.conns) (sym same) ∙ none)) ∙ joined))

-- an entry enters, and nothing else of the ends changes
pub record Entered (e : Entry) (n k : DataState) : Type 0 where
  pub server : k.server ≡ n.server
  pub order : k.order ≡ n.order ++ e ∷ []
  pub synced : k.synced ≡ n.synced
  pub links : k.links ≡ n.links
  pub conns : k.conns ≡ n.conns
  pub callers : k.callers ≡ n.callers
  pub round : k.round ≡ n.round

pub links_enters : (d : ℕ) (v : Server) (n k : DataState) (s : ℕ) (e : Entry) → Entered e n k → IsItemOf s e → MayFollow n.order e → is_some (conn_for s n.conns) ≡ true
    → LinksGo d v n → LinksGo d (entered v e) k
links_enters d v n k s e t item may joined h =
    subst (λ (w : Server). LinksGo d w k) (sym (item.enters v))
    (record {
      server = t.server ∙ h.server;
      ordered = subst IsOrdered (sym t.order) (ordered-push n.order e h.ordered may);
      started = λ none. h.started (sym (item.epoch (last_epoch n.order)) ∙ sym (last_epoch-push n.order e) ∙ ap last_epoch (sym t.order) ∙ none);
      order = ap (λ (es : List Entry). es ++ e ∷ []) h.order ∙ sym t.order;
      differ = subst Differ (sym t.conns) h.differ;
      places = ap (λ (ls : List DataLink). length ls) t.links ∙ h.places;
      links = links_stay v (entered_of v s e) n k t.links
          (λ app link is. link_same v (entered_of v s e) n k app link
          (λ broke at. mended_other v.end_at (app_in v.order s) app (λ its. trouble_apart v n app s broke (has app (ap (λ (es : List Entry). app_in es s) (sym h.order) ∙ its)) joined (subst (LinkIs v n app) at is)))
          (ap (option_map due_in) t.round) (same_live app) (λ q at. ap (conn_for q) t.conns) is) h.links;
      due = ap (option_map due_in) t.round ∙ h.due;
      unbroken = subst (λ (o : Option Round). IfSome o (λ r. (app : ℕ) → (entered_of v s e).end_at app ≡ None)) (sym t.round) (none n.round h.unbroken);
    })
  where
    has : (app : ℕ) → app_in n.order s ≡ Some app → live_session n.order app ≡ Some s
    has app its = (ordered_one_live n.order h.ordered).is_one app s (item.lives n.order may) its

    same_live : (app : ℕ) → live_session k.order app ≡ live_session n.order app
    same_live app = ap (λ (es : List Entry). live_session es app) t.order ∙ live_session-push n.order e app ∙ item.sessions (live_session n.order app) app

    none : (o : Option Round) → IfSome o (λ r. (app : ℕ) → v.end_at app ≡ None) → IfSome o (λ r. (app : ℕ) → (entered_of v s e).end_at app ≡ None)
    none None u = tt
    none (Some r) u = mended_none v.end_at (app_in v.order s) u

-- Opens

-- the state after an Open on a connection that was no session's
pub record OpenedOn (app conn : ℕ) (link : DataLink) (n k : DataState) : Type 0 where
  pub server : k.server ≡ n.server
  pub order : k.order ≡ n.order ++ Opened (length n.order + 1) app ∷ []
  pub synced : k.synced ≡ n.synced
  pub links : k.links ≡ set n.links app link
  pub conns : k.conns ≡ map (with_role_if conn (Bound (length n.order + 1))) n.conns
  pub callers : k.callers ≡ n.callers
  pub round : k.round ≡ n.round

free_link : (v : Server) (n : DataState) (app : ℕ) (x : DataLink) → live_session n.order app ≡ None → LinkIs v n app x → x ≡ Free
free_link v n app Free free is = refl
free_link v n app Normal free is = absurd (subst (λ (o : Option ℕ). IsSomeAnd o (λ s. is_some (conn_for s n.conns) ≡ true)) free is.joined)
free_link v n app (Trouble broke) free is = absurd (subst (λ (o : Option ℕ). IsSomeAnd o (λ s. conn_for s n.conns ≡ None)) free is.apart)
free_link v n app (Recovering due) free is = absurd (false≢true (ap is_some (sym free) ∙ is.has_live))

pub links_opens : (d : ℕ) (v : Server) (n k : DataState) (app conn : ℕ) (r : Role) (f : DataLink → DataLink) → f Free ≡ Normal → OpenedOn app conn (f (link_of n app)) n k
    → live_session n.order app ≡ None → n.round ≡ None → role_at conn n.conns ≡ Some r → ((s : ℕ) → r ≡ Bound s → ⊥) → LinksGo d v n → LinksGo d (entered v (Opened (length n.order + 1) app)) k
links_opens d v n k app conn r f normal t free none role unbound h = record {
  server = t.server ∙ h.server;
  ordered = subst IsOrdered (sym t.order) (ordered-push n.order (Opened s app) h.ordered (record { is_started = h.started; is_position = refl; is_free = free }));
  started = λ zero. h.started (sym (last_epoch-push n.order (Opened s app)) ∙ ap last_epoch (sym t.order) ∙ zero);
  order = ap (λ (es : List Entry). es ++ Opened s app ∷ []) h.order ∙ sym t.order;
  differ = subst Differ (sym t.conns) (differ_role conn (Bound s) n.conns h.differ);
  places = ap (λ (ls : List DataLink). length ls) t.links ∙ length-set n.links app _ ∙ h.places;
  links = links_set v w n k app (f (link_of n app)) t.links h.places here
      (λ a differs link is. link_same v w n k a link (λ broke at. put_other v.end_at app None a differs) (ap (option_map due_in) t.round) (other_live a differs) (λ q at. others a q at) is) h.links;
  due = ap (option_map due_in) t.round ∙ h.due;
  unbroken = subst (λ (o : Option Round). IfSome o (λ r. (a : ℕ) → w.end_at a ≡ None)) (sym (t.round ∙ none)) tt;
}
  where
    s : ℕ
    s = length n.order + 1

    w : Server
    w = entered v (Opened s app)

    live_is : (a : ℕ) → live_session k.order a ≡ (if app == a then Some s else live_session n.order a)
    live_is a = ap (λ (es : List Entry). live_session es a) t.order ∙ live_session-push n.order (Opened s app) a

    other_live : (a : ℕ) → a ≢ app → live_session k.order a ≡ live_session n.order a
    other_live a differs = live_is a ∙ ap (λ (b : Bool). if b then Some s else live_session n.order a) (ne_eqb app a (λ same. differs (sym same)))

    others : (a q : ℕ) → live_session n.order a ≡ Some q → conn_for q k.conns ≡ conn_for q n.conns
    others a q at =
        ap (conn_for q) t.conns
        ∙ for_role conn q (Bound s) n.conns (none_for conn q n.conns h.differ (λ bound. unbound q (let same : Some r ≡ Some (Bound q) = sym role ∙ bound in cc)))
        (ne_eqb s q (λ same. absurd (omega (arith, same, (ordered_past n.order h.ordered).is_past a q at))))

    some_role : (o : Option Conn) → option_map (λ (c : Conn). c.role) o ≡ Some r → is_some o ≡ true
    some_role None is = absurd cc
    some_role (Some c) is = refl

    joined : is_some (conn_for s k.conns) ≡ true
    joined =
        subst (λ (cs : List Conn). is_some (conn_for s cs) ≡ true) (sym t.conns)
        (for_bound conn s (map (with_role_if conn (Bound s)) n.conns) (role_given conn (Bound s) n.conns (some_role (find (λ c. c.number == conn) n.conns) role)))

    here : app < APP_LIMIT → LinkIs w k app (f (link_of n app))
    here low =
        subst (LinkIs w k app) (sym (ap f (free_link v n app (link_of n app) free (h.links app low)) ∙ normal))
        (record {
          out_of_round = t.round ∙ none;
          joined = subst (λ (o : Option ℕ). IsSomeAnd o (λ q. is_some (conn_for q k.conns) ≡ true)) (sym (live_is app ∙ ap (λ (b : Bool). if b then Some s else live_session n.order app) (eq-eqb app app refl))) joined;
        })
