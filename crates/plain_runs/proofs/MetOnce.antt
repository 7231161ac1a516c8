-- A session is met once: while its pair has it, or after the loss of its pair.
use Rattle.std.proofs.Common.{◌≡◌, ℕ, zero, suc, ◌+◌, ◌≤◌, List, [], ◌∷◌, ◌++◌, length, take, refl, subst, sym, ap, ◌∙◌, Bool, true, false, eqb, ◌==◌, ◌||◌, if◌then◌else◌, arith, ◌⊎◌, inl, inr, Option, Some, None}
use Rattle.std.specs.Prelude.{is_some}
use Rattle.std.specs.Option.{option_map}
use Rattle.std.proofs.lemmas.Bool.{eq-eqb, eqb-true}
use Rattle.std.proofs.lemmas.Option.{same_Some}
use Rattle.plain_orders.specs.declared.entry.Entry.{Entry}
use Rattle.plain_orders.specs.declared.entry.Entry.TheVariants.{Epoch, Opened as OpenedEntry, Closed, Update, Commit, Rollback}
use Rattle.plain_orders.specs.declared.layout.Layout.{Layout}
use Rattle.plain_orders.specs.declared.refused.ReasonName.{ReasonName}
use Rattle.plain_orders.specs.Entries.{entry_at, last_epoch}
use Rattle.plain_orders.proofs.Places.{entry_more, entry_pushed, entry_take, entry_taken, entry_last}
use Rattle.plain_runs.specs.Plain.{Entered, Pair, Server, Session, put}
use Rattle.plain_runs.specs.OrderRows.{CrashMay, EnterMay, OpenedMay, crashed, entered, opened_with}
use Rattle.plain_runs.specs.EndRows.{MetMay, met_by, new_session, shut, since_loss, without_session}
use Rattle.plain_runs.proofs.RunLemmas.{at_put}
use Rattle.plain_runs.proofs.Lists.{both_ways}
use Rattle.plain_runs.proofs.Orders.{OrdersKept, facet}
use Rattle.plain_runs.proofs.Bases.{owner_in}
use Rattle.plain_runs.proofs.Issued.{IssuedKept, view}

-- what this sees of a server
pub record Meetings : Type 0 where
  pub order : List Entry
  pub owner : ℕ → Option ℕ
  pub ent : ℕ → Option Entered
  pub pair : ℕ → Option ℕ

abbrev pub meetings : Server → Meetings
meetings s = record { order = s.order; owner = λ n. owner_in (s.session_at n); ent = s.entered_at; pair = λ a. (s.pair_at a).session }

-- an Open is after a loss of its pair
abbrev pub lost_of : Option Entered → Bool
lost_of None = false
lost_of (Some e) = e.lost_since

pub record MetKept (v : Meetings) : Type 0 where
  pub mine : (n a : ℕ) (e : Entered) → entry_at v.order n ≡ Some (OpenedEntry n a) → v.ent n ≡ Some e → e.app ≡ a
  pub stands : (n a : ℕ) → v.owner n ≡ Some a → entry_at v.order n ≡ Some (OpenedEntry n a)
  pub lost : (n a : ℕ) → v.owner n ≡ Some a → (v.pair a ≡ Some n) ⊎ (lost_of (v.ent n) ≡ true)

abbrev pub MetSteps : Server → Server → Type 0
MetSteps s t = MetKept (meetings s) → MetKept (meetings t)

-- a session that was met is synced
abbrev pub MetLow : Server → Type 0
MetLow s = (n a : ℕ) → owner_in (s.session_at n) ≡ Some a → n ≤ s.synced

-- no session is met, and each pair keeps its session
pub calm_met : (v w : Meetings) → w ≡ record v { owner = w.owner; pair = w.pair } → ((n a : ℕ) → w.owner n ≡ Some a → v.owner n ≡ Some a) → ((a n : ℕ) → v.pair a ≡ Some n → w.pair a ≡ Some n) → MetKept v → MetKept w
calm_met v w same owner pair k = subst MetKept (sym same) (record {
  mine = k.mine;
  stands = λ n a o. k.stands n a (owner n a o);
  lost = λ n a o. kept n a (k.lost n a (owner n a o));
})
  where
    kept : (n a : ℕ) → (v.pair a ≡ Some n) ⊎ (lost_of (v.ent n) ≡ true) → (w.pair a ≡ Some n) ⊎ (lost_of (v.ent n) ≡ true)
    kept n a (inl p) = inl (pair a n p)
    kept n a (inr e) = inr e

-- an entry at the end that opens no session
pub push_met : (s t : Server) (e : Entry) → meetings t ≡ record (meetings s) { order = s.order ++ e ∷ [] } → ((n a : ℕ) → e ≡ OpenedEntry n a → ⊥) → MetSteps s t
push_met s t e same none k = subst MetKept (sym same) (record {
  mine = λ n a x at en. mine n a x en (entry_pushed s.order e (OpenedEntry n a) n at);
  stands = λ n a o. entry_more s.order e (OpenedEntry n a) n (k.stands n a o);
  lost = k.lost;
})
  where
    mine : (n a : ℕ) (x : Entered) → s.entered_at n ≡ Some x → (entry_at s.order n ≡ Some (OpenedEntry n a)) ⊎ (e ≡ OpenedEntry n a) → x.app ≡ a
    mine n a x en (inl old) = k.mine n a x old en
    mine n a x en (inr new) = absurd (none n a new)

pub open_met : (s : Server) (session app : ℕ) → session ≡ length s.order + 1 → s.synced ≤ length s.order → MetLow s → MetSteps s (entered s (OpenedEntry session app))
open_met s session app place within low k = record {
  mine = λ n a x at en. mine n a x at en (eqb n session) refl;
  stands = λ n a o. entry_more s.order (OpenedEntry session app) (OpenedEntry n a) n (k.stands n a o);
  lost = λ n a o. lost n a (k.lost n a o) (eqb n session) refl (low n a o);
}
  where
    fresh : Entered
    fresh = record { app = app; in_order = length s.past; lost_since = false }

    mine : (n a : ℕ) (x : Entered) → entry_at (s.order ++ OpenedEntry session app ∷ []) n ≡ Some (OpenedEntry n a) → (entered s (OpenedEntry session app)).entered_at n ≡ Some x → (b : Bool) → eqb n session ≡ b → x.app ≡ a
    mine n a x at en true e =
        let here : n ≡ session = eqb-true n session e in
        let one : OpenedEntry session app ≡ OpenedEntry n a = same_Some _ _ (sym (entry_last s.order (OpenedEntry session app) n (here ∙ place)) ∙ at) in
        let its : fresh ≡ x = same_Some _ _ (subst (λ (b : Bool). (if b then Some fresh else s.entered_at n) ≡ Some x) e en) in
        let apps : app ≡ a = cc (one) in
        sym (ap (λ (y : Entered). y.app) its) ∙ apps
    mine n a x at en false e = old (entry_pushed s.order (OpenedEntry session app) (OpenedEntry n a) n at)
      where
        old : (entry_at s.order n ≡ Some (OpenedEntry n a)) ⊎ (OpenedEntry session app ≡ OpenedEntry n a) → x.app ≡ a
        old (inl was) = k.mine n a x was (subst (λ (b : Bool). (if b then Some fresh else s.entered_at n) ≡ Some x) e en)
        old (inr new) = let same : session ≡ n = cc (new) in absurd (both_ways (eqb n session) (eq-eqb n session (sym same)) e)

    lost : (n a : ℕ) → ((s.pair_at a).session ≡ Some n) ⊎ (lost_of (s.entered_at n) ≡ true) → (b : Bool) → eqb n session ≡ b → n ≤ s.synced → ((s.pair_at a).session ≡ Some n) ⊎ (lost_of ((entered s (OpenedEntry session app)).entered_at n) ≡ true)
    lost n a x true e low = absurd (omega (arith, eqb-true n session e, place, within, low))
    lost n a (inl p) false e low = inl p
    lost n a (inr h) false e low = inr (subst (λ (b : Bool). lost_of (if b then Some fresh else s.entered_at n) ≡ true) (sym e) h)

pub enter_met : (l : Layout) (clock : ℕ) (s : Server) (x : Entry) → EnterMay l clock s x → s.synced ≤ length s.order → MetLow s → MetSteps s (entered s x)
enter_met l clock s (Epoch number) may within low = absurd may
enter_met l clock s (Closed session) may within low = absurd may
enter_met l clock s (OpenedEntry session app) may within low = open_met s session app may.place within low
enter_met l clock s (Update session w job txn op) may within low = push_met s (entered s (Update session w job txn op)) (Update session w job txn op) refl (λ n a e. absurd (cc (e)))
enter_met l clock s (Commit session w job txn) may within low = push_met s (entered s (Commit session w job txn)) (Commit session w job txn) refl (λ n a e. absurd (cc (e)))
enter_met l clock s (Rollback session w job txn) may within low = push_met s (entered s (Rollback session w job txn)) (Rollback session w job txn) refl (λ n a e. absurd (cc (e)))

pub shut_met : (s : Server) (session : ℕ) → MetSteps s (shut s session)
shut_met s session = push_met s (shut s session) (Closed session) refl (λ n a e. absurd (cc (e)))

pub opened_met : (clock round : ℕ) (s : Server) (entries : List Entry) → OpenedMay s entries → OrdersKept (facet s) → IssuedKept (view s) → MetSteps s (opened_with clock round s entries)
opened_met clock round s entries may os is k = record {
  mine = λ n a x at en. absurd (both_ways (is_some (s.entered_at n)) (ap is_some en) (is.fresh may.fresh n));
  stands = λ n a o. absurd (nothing n (subst (λ (es : List Entry). entry_at es n ≡ Some (OpenedEntry n a)) (os.fresh may.fresh).0 (k.stands n a o)));
  lost = k.lost;
}
  where
    nothing : (n : ℕ) {x : Entry} → entry_at [] n ≡ Some x → ⊥
    nothing zero h = absurd (cc (h))
    nothing (suc i) h = absurd (cc (h))

pub crash_met : (clock round : ℕ) (s : Server) (kept : ℕ) → CrashMay s kept → MetLow s → MetSteps s (crashed clock round s kept)
crash_met clock round s kept may low k = record {
  mine = λ n a x at en. mine n a x en (entry_pushed (take kept s.order) _ (OpenedEntry n a) n at);
  stands = λ n a o. entry_more (take kept s.order) _ (OpenedEntry n a) n (entry_take kept s.order n (omega (arith, low n a o, may.no_less)) ∙ k.stands n a o);
  lost = k.lost;
}
  where
    mine : (n a : ℕ) (x : Entered) → s.entered_at n ≡ Some x → (entry_at (take kept s.order) n ≡ Some (OpenedEntry n a)) ⊎ (Epoch (last_epoch (take kept s.order) + 1) ≡ OpenedEntry n a) → x.app ≡ a
    mine n a x en (inl old) = k.mine n a x (entry_taken kept s.order _ n old) en
    mine n a x en (inr new) = absurd (cc (new))

-- a session is met
pub meet_met : (l : Layout) (s : Server) (app session : ℕ) → MetMay s app session → MetSteps s (met_by l s app session)
meet_met l s app session may k = record {
  mine = k.mine;
  stands = λ n a o. stands n a o (eqb n session) refl;
  lost = λ n a o. lost n a o (eqb n session) refl;
}
  where
    new : Server
    new = met_by l s app session

    owner : (n a : ℕ) (b : Bool) → eqb n session ≡ b → owner_in (new.session_at n) ≡ Some a → (if b then Some app else owner_in (s.session_at n)) ≡ Some a
    owner n a true e o = subst (λ (c : Bool). owner_in (if c then Some (new_session s app session) else s.session_at n) ≡ Some a) e o
    owner n a false e o = subst (λ (c : Bool). owner_in (if c then Some (new_session s app session) else s.session_at n) ≡ Some a) e o

    stands : (n a : ℕ) → owner_in (new.session_at n) ≡ Some a → (b : Bool) → eqb n session ≡ b → entry_at s.order n ≡ Some (OpenedEntry n a)
    stands n a o true e =
        let its : app ≡ a = same_Some app a (owner n a true e o) in
        let here : n ≡ session = eqb-true n session e in
        subst (λ m. entry_at s.order m ≡ Some (OpenedEntry m a)) (sym here) (subst (λ b. entry_at s.order session ≡ Some (OpenedEntry session b)) its may.place)
    stands n a o false e = k.stands n a (owner n a false e o)

    other : (a n : ℕ) → (s.pair_at a).session ≡ Some n → (new.pair_at a).session ≡ Some n
    other a n p = go (eqb a app) refl
      where
        go : (b : Bool) → eqb a app ≡ b → (if b then record { session = Some session; broke = None } else s.pair_at a).session ≡ Some n
        go true e = absurd (both_ways (is_some (s.pair_at app).session) (subst (λ i. is_some (s.pair_at i).session ≡ true) (eqb-true a app e) (ap is_some p)) may.none)
        go false e = p

    lost : (n a : ℕ) → owner_in (new.session_at n) ≡ Some a → (b : Bool) → eqb n session ≡ b → ((new.pair_at a).session ≡ Some n) ⊎ (lost_of (s.entered_at n) ≡ true)
    lost n a o true e =
        let its : app ≡ a = same_Some app a (owner n a true e o) in
        let here : n ≡ session = eqb-true n session e in
        inl (ap (λ (b : Bool). (if b then record { session = Some session; broke = None } else s.pair_at a).session) (eq-eqb a app (sym its)) ∙ ap Some (sym here))
    lost n a o false e = old (k.lost n a (owner n a false e o))
      where
        old : ((s.pair_at a).session ≡ Some n) ⊎ (lost_of (s.entered_at n) ≡ true) → ((new.pair_at a).session ≡ Some n) ⊎ (lost_of (s.entered_at n) ≡ true)
        old (inl p) = inl (other a n p)
        old (inr h) = inr h

-- a session is lost
pub lose_met : (l : Layout) (s : Server) (app : ℕ) (reason : ReasonName) → IssuedKept (view s) → MetSteps s (without_session l s app reason)
lose_met l s app reason is k = record {
  mine = λ n a x at en. mine n a x at (s.entered_at n) refl en;
  stands = k.stands;
  lost = λ n a o. lost n a o (k.lost n a o) (eqb a app) refl;
}
  where
    mine : (n a : ℕ) (x : Entered) → entry_at s.order n ≡ Some (OpenedEntry n a) → (o : Option Entered) → s.entered_at n ≡ o → since_loss app o ≡ Some x → x.app ≡ a
    mine n a x at None e en = absurd (cc (en))
    mine n a x at (Some y) e en = sym (ap (λ (z : Entered). z.app) (same_Some (record y { lost_since = y.lost_since || y.app == app }) x en)) ∙ k.mine n a y at e

    was_lost : (o : Option Entered) → lost_of o ≡ true → lost_of (since_loss app o) ≡ true
    was_lost None h = h
    was_lost (Some y) h = ap (λ (b : Bool). b || y.app == app) h

    now_lost : (n a : ℕ) → a ≡ app → entry_at s.order n ≡ Some (OpenedEntry n a) → (o : Option Entered) → s.entered_at n ≡ o → is_some o ≡ true → lost_of (since_loss app o) ≡ true
    now_lost n a same at None e h = absurd (cc (h))
    now_lost n a same at (Some y) e h = right y.lost_since (y.app == app) (eq-eqb y.app app (k.mine n a y at e ∙ same))
      where
        right : (b c : Bool) → c ≡ true → (b || c) ≡ true
        right true c h = refl
        right false c h = h

    there : (o : Option Session) (a : ℕ) → owner_in o ≡ Some a → is_some o ≡ true
    there None a h = absurd (cc (h))
    there (Some m) a h = refl

    lost : (n a : ℕ) → owner_in (s.session_at n) ≡ Some a → ((s.pair_at a).session ≡ Some n) ⊎ (lost_of (s.entered_at n) ≡ true) → (b : Bool) → eqb a app ≡ b
        → (((without_session l s app reason).pair_at a).session ≡ Some n) ⊎ (lost_of (since_loss app (s.entered_at n)) ≡ true)
    lost n a o (inr h) b e = inr (was_lost (s.entered_at n) h)
    lost n a o (inl p) true e = inr (now_lost n a (eqb-true a app e) (k.stands n a o) (s.entered_at n) refl (is.met n (there (s.session_at n) a o)))
    lost n a o (inl p) false e = inl (ap (λ (b : Bool). (if b then record { session = None; broke = None } else s.pair_at a).session) e ∙ p)

-- sessions keep their application servers
pub owner_met : (s t : Server) (n : ℕ) (f : Session → Session) → meetings t ≡ record (meetings s) { owner = λ m. owner_in (put s.session_at n (option_map f (s.session_at n)) m) } → ((m : Session) → (f m).app ≡ m.app) → MetSteps s t
owner_met s t n f same keeps k =
    subst MetKept (sym same)
    (calm_met (meetings s) (record (meetings s) { owner = λ m. owner_in (put s.session_at n (option_map f (s.session_at n)) m) }) refl
    (λ m a. at_put (λ o r. owner_in r ≡ Some a → owner_in o ≡ Some a) s.session_at n _ (λ o e. e) (here (s.session_at n) a) m) (λ a m p. p) k)
  where
    here : (o : Option Session) (a : ℕ) → owner_in (option_map f o) ≡ Some a → owner_in o ≡ Some a
    here None a e = e
    here (Some m) a e = ap Some (sym (keeps m)) ∙ e

-- one pair changes, its session as it was
pub pair_met_steps : (s : Server) (a : ℕ) (x : Pair) → x.session ≡ (s.pair_at a).session → MetKept (meetings s) → MetKept (record (meetings s) { pair = λ b. (put s.pair_at a x b).session })
pair_met_steps s a x same =
    calm_met (meetings s) (record (meetings s) { pair = λ b. (put s.pair_at a x b).session }) refl (λ n b o. o)
    (λ b n. at_put (λ (y z : Pair). y.session ≡ Some n → z.session ≡ Some n) s.pair_at a x (λ y e. e) (λ e. same ∙ e) b)
