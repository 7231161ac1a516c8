-- The items of a session that was met stand as they were issued.
use Rattle.std.proofs.Common.{◌≡◌, ℕ, zero, suc, ◌<◌, ◌≤◌, ◌+◌, ◌-◌, List, [], ◌∷◌, ◌++◌, length, take, refl, subst, sym, ap, ◌∙◌, Bool, true, false, eqb, if◌then◌else◌, arith, ◌||◌, Option, Some, None, slice_get, ◌⊎◌, inl, inr, append_assoc}
use Rattle.std.specs.Prelude.{is_some}
use Rattle.std.specs.Option.{option_map}
use Rattle.std.proofs.lemmas.Bool.{eqb-true}
use Rattle.std.proofs.lemmas.List.{append-nil}
use Rattle.plain_orders.specs.Own.{Issued}
use Rattle.plain_orders.specs.Ordered.{MayFollow, OrderedFrom}
use Rattle.plain_orders.specs.Entries.{live}
use Rattle.plain_orders.specs.declared.entry.Entry.{Entry}
use Rattle.plain_orders.specs.declared.entry.Entry.TheVariants.{Epoch, Opened as OpenedEntry, Closed, Update, Commit, Rollback}
use Rattle.plain_orders.specs.declared.act.Act.{Act}
use Rattle.plain_orders.specs.declared.act.Act.TheVariants.{Opened, Enter, Synced, Shut, Release, Met, Told, Back, Crash, Issue, Read, Grant, Granted, GiveUp, Quit, Free, Counted, NotWhole, Range, Committed, RolledBack, Reached, Level, Done, Refused, Broke, Mended, Tick, Lose, Died}
use Rattle.plain_orders.specs.declared.refused.Refused.{Refused as Refusal}
use Rattle.plain_orders.specs.declared.refused.Refused.TheVariants.{NoTransaction, TooDeep, RollbackOnly, LockTimeout, Network}
use Rattle.plain_orders.specs.declared.refused.ReasonName.TheVariants.{Reset, Expired}
use Rattle.plain_orders.specs.declared.causes.Loss.{Loss}
use Rattle.plain_orders.specs.declared.causes.Loss.TheVariants.{Reset as ByReset, Expired as ByExpired, NoWay as ByNoWay}
use Rattle.plain_orders.specs.declared.causes.PairEnd.{PairEnd}
use Rattle.plain_orders.specs.declared.causes.PairEnd.TheVariants.{App as AppEnd, Server as ServerEnd}
use Rattle.plain_orders.specs.declared.layout.Layout.{Layout}
use Rattle.plain_runs.specs.Plain.{Plain, Server, Session, Entered, start, app_of, with_session, pair_session}
use Rattle.plain_runs.specs.Items.{entry_of}
use Rattle.plain_runs.specs.OrderRows.{OpenedMay, EnterMay, CrashMay, entered, opened_with, crashed}
use Rattle.plain_runs.specs.EndRows.{MetMay, broke, lost, shut, met_by, told_of, begun_by, new_session, since_loss, without_session}
use Rattle.plain_runs.specs.JobRows.{refused, issues, txn_of}
use Rattle.plain_runs.specs.Step.{MayCome, after}
use Rattle.plain_runs.specs.Run.{IsRun, RunFrom, after_all}
use Rattle.plain_runs.specs.Laws.{StandsAsIssued, ItemsWereIssued, server_after}
use Rattle.plain_runs.proofs.RunLemmas.{at_put}
use Rattle.plain_runs.proofs.Orders.{Each, each-append}
use Rattle.plain_runs.proofs.OrderLaws.{shut_live}
use Rattle.plain_runs.proofs.Lists.{both_ways, opens, is_open, live_opens}
use Rattle.plain_runs.proofs.HoldRows.{issued_of}
use Rattle.plain_runs.proofs.LockRows.{each_at}
use Rattle.plain_orders.specs.ItemEntries.{is_item_of, w_of}
use Rattle.plain_orders.proofs.Places.{get_append}

-- where an entry may stand, counted from 0: a session's items after its Open, which stands at its number; no Close is of session 0
abbrev pub PlacedAt : ℕ → Entry → Type 0
PlacedAt k (Epoch number) = Unit {0}
PlacedAt k (OpenedEntry session app) = session ≡ k + 1
PlacedAt k (Closed session) = 0 < session
PlacedAt k (Update session w job txn op) = session ≤ k
PlacedAt k (Commit session w job txn) = session ≤ k
PlacedAt k (Rollback session w job txn) = session ≤ k

abbrev pub PlacedFrom : ℕ → List Entry → Type 0
PlacedFrom k [] = Unit {0}
PlacedFrom k (e ∷ es) = PlacedAt k e × PlacedFrom (k + 1) es

pub placed-append : (k : ℕ) (xs ys : List Entry) → PlacedFrom k xs → PlacedFrom (k + length xs) ys → PlacedFrom k (xs ++ ys)
placed-append k [] ys p q = subst (λ n. PlacedFrom n ys) (omega arith) q
placed-append k (x ∷ xs) ys p q = (p.0, placed-append (k + 1) xs ys p.1 (subst (λ n. PlacedFrom n ys) (omega arith) q))

pub placed_push : (es : List Entry) (e : Entry) → PlacedFrom 0 es → PlacedAt (length es) e → PlacedFrom 0 (es ++ e ∷ [])
placed_push es e p q = placed-append 0 es (e ∷ []) p (subst (λ n. PlacedAt n e) (omega arith) q, tt)

pub placed-take : (k n : ℕ) (xs : List Entry) → PlacedFrom k xs → PlacedFrom k (take n xs)
placed-take k zero xs p = tt
placed-take k (suc n) [] p = tt
placed-take k (suc n) (x ∷ xs) p = (p.0, placed-take (k + 1) n xs p.1)

open_here : (k : ℕ) (e : Entry) (s : ℕ) → PlacedAt k e → is_open s e ≡ true → s ≡ k + 1
open_here k (Epoch number) s p o = absurd (cc (o))
open_here k (OpenedEntry session app) s p o = sym (eqb-true session s o) ∙ p
open_here k (Closed session) s p o = absurd (cc (o))
open_here k (Update session w job txn op) s p o = absurd (cc (o))
open_here k (Commit session w job txn) s p o = absurd (cc (o))
open_here k (Rollback session w job txn) s p o = absurd (cc (o))

pub opens_low : (k : ℕ) (es : List Entry) (s : ℕ) → PlacedFrom k es → opens es s ≡ true → s ≤ k + length es
opens_low k [] s p o = absurd (cc (o))
opens_low k (x ∷ es) s p o = go (is_open s x) refl (opens_low (k + 1) es s p.1) o
  where
    go : (b : Bool) → is_open s x ≡ b → (opens es s ≡ true → s ≤ k + 1 + length es) → (b || opens es s) ≡ true → s ≤ k + length (x ∷ es)
    go true e f h = omega (arith, open_here k x s p.0 e)
    go false e f h = omega (arith, f h)

pub opens_high : (k : ℕ) (es : List Entry) (s : ℕ) → PlacedFrom k es → opens es s ≡ true → k < s
opens_high k [] s p o = absurd (cc (o))
opens_high k (x ∷ es) s p o = go (is_open s x) refl (opens_high (k + 1) es s p.1) o
  where
    go : (b : Bool) → is_open s x ≡ b → (opens es s ≡ true → k + 1 < s) → (b || opens es s) ≡ true → k < s
    go true e f h = omega (arith, open_here k x s p.0 e)
    go false e f h = omega (arith, f h)

pub live_high : (es : List Entry) (s : ℕ) → PlacedFrom 0 es → live es s ≡ true → 0 < s
live_high es s p l = opens_high 0 es s p (live_opens es s l)

pub live_low : (es : List Entry) (s : ℕ) → PlacedFrom 0 es → live es s ≡ true → s ≤ length es
live_low es s p l = omega (arith, opens_low 0 es s p (live_opens es s l))

pub item_here : (k : ℕ) (e : Entry) (n : ℕ) → PlacedAt k e → is_item_of n e ≡ true → n ≤ k
item_here k (Epoch number) n p i = absurd (cc (i))
item_here k (OpenedEntry session app) n p i = absurd (cc (i))
item_here k (Closed session) n p i = absurd (cc (i))
item_here k (Update session w job txn op) n p i = omega (arith, eqb-true session n i, p)
item_here k (Commit session w job txn) n p i = omega (arith, eqb-true session n i, p)
item_here k (Rollback session w job txn) n p i = omega (arith, eqb-true session n i, p)

items_low : (k m : ℕ) (es : List Entry) → PlacedFrom k es → k + length es ≤ m → Each (λ e. (n : ℕ) → is_item_of n e ≡ true → n ≤ m) es
items_low k m [] p low = tt
items_low k m (x ∷ es) p low = ((λ n i. omega (arith, item_here k x n p.0 i, low)), items_low (k + 1) m es p.1 (omega arith))

placed_next : (before : List Entry) (e : Entry) → PlacedFrom 0 before → MayFollow before e → PlacedAt (length before) e
placed_next before (Epoch number) p m = tt
placed_next before (OpenedEntry session app) p m = m.is_position
placed_next before (Closed session) p m = live_high before session p m.is_live
placed_next before (Update session w job txn op) p m = live_low before session p m.is_live
placed_next before (Commit session w job txn) p m = live_low before session p m.is_live
placed_next before (Rollback session w job txn) p m = live_low before session p m.is_live

pub placed_from : (before es : List Entry) → PlacedFrom 0 before → OrderedFrom before es → PlacedFrom 0 (before ++ es)
placed_from before [] p o = subst (PlacedFrom 0) (sym (append-nil before)) p
placed_from before (e ∷ es) p o = subst (PlacedFrom 0) (append_assoc before (e ∷ []) es) (placed_from (before ++ e ∷ []) es (placed_push before e p (placed_next before e p o.0)) o.1)

each_of : {X : Type 0} (P : X → Type 0) → ((x : X) → P x) → (xs : List X) → Each P xs
each_of P f [] = tt
each_of P f (x ∷ xs) = (f x, each_of P f xs)

each_both : {X : Type 0} (P Q R : X → Type 0) → ((x : X) → P x → Q x → R x) → (xs : List X) → Each P xs → Each Q xs → Each R xs
each_both P Q R f [] p q = tt
each_both P Q R f (x ∷ xs) p q = (f x p.0 q.0, each_both P Q R f xs p.1 q.1)

pub each_map : {X : Type 0} (P R : X → Type 0) → ((x : X) → P x → R x) → (xs : List X) → Each P xs → Each R xs
each_map P R f [] p = tt
each_map P R f (x ∷ xs) p = (f x p.0, each_map P R f xs p.1)

each-take : {X : Type 0} (P : X → Type 0) (n : ℕ) (xs : List X) → Each P xs → Each P (take n xs)
each-take P zero xs p = tt
each-take P (suc n) [] p = tt
each-take P (suc n) (x ∷ xs) p = (p.0, each-take P n xs p.1)

abbrev pub AsIssued : (ℕ → Option Session) → (ℕ → Option Entered) → Entry → Type 0
AsIssued ses ent e = (n : ℕ) → is_some (ent n) ≡ true → is_item_of n e ≡ true → StandsAsIssued (issued_of (ses n)) n e

-- what the law sees of a server
pub record View : Type 0 where
  pub opened : Bool
  pub order : List Entry
  pub ses : ℕ → Option Session
  pub ent : ℕ → Option Entered

abbrev pub view : Server → View
view s = record { opened = s.opened; order = s.order; ses = s.session_at; ent = s.entered_at }

pub record IssuedKept (v : View) : Type 0 where
  pub fresh : v.opened ≡ false → (n : ℕ) → is_some (v.ent n) ≡ false
  pub placed : PlacedFrom 0 v.order
  pub met : (n : ℕ) → is_some (v.ses n) ≡ true → is_some (v.ent n) ≡ true
  pub as_issued : Each (AsIssued v.ses v.ent) v.order

abbrev pub IssuedSteps : Server → Server → Type 0
IssuedSteps s t = IssuedKept (view s) → IssuedKept (view t)

issued_same : (s : Server) → IssuedSteps s s
issued_same s k = k

-- an entry at the end
push : (s t : Server) (e : Entry) → view t ≡ record (view s) { order = s.order ++ e ∷ [] } → (IssuedKept (view s) → PlacedAt (length s.order) e) → AsIssued s.session_at s.entered_at e → IssuedSteps s t
push s t e same place here k = subst IssuedKept (sym same) (record {
  fresh = k.fresh;
  placed = placed_push s.order e k.placed (place k);
  met = k.met;
  as_issued = each-append (AsIssued s.session_at s.entered_at) s.order (e ∷ []) k.as_issued (here, tt);
})

opened_steps : (clock round : ℕ) (s : Server) (entries : List Entry) → OpenedMay s entries → IssuedSteps s (opened_with clock round s entries)
opened_steps clock round s entries may k = record {
  fresh = λ f. absurd (cc (f));
  placed = placed_push entries _ (placed_from [] entries tt may.ordered) tt;
  met = k.met;
  as_issued = each_of (AsIssued s.session_at s.entered_at) (λ e n ent i. absurd (both_ways (is_some (s.entered_at n)) ent (k.fresh may.fresh n))) _;
}

open_steps : (s : Server) (session app : ℕ) → s.opened ≡ true → session ≡ length s.order + 1 → IssuedSteps s (entered s (OpenedEntry session app))
open_steps s session app opened place k = record {
  fresh = λ f. absurd (both_ways s.opened opened f);
  placed = placed_push s.order (OpenedEntry session app) k.placed place;
  met = λ n m. at_put (λ o r. is_some o ≡ true → is_some r ≡ true) s.entered_at session _ (λ o x. x) (λ _. refl) n (k.met n m);
  as_issued = each-append _ s.order (OpenedEntry session app ∷ [])
      (each_both (AsIssued s.session_at s.entered_at) (λ e. (n : ℕ) → is_item_of n e ≡ true → n ≤ length s.order) (AsIssued s.session_at (entered s (OpenedEntry session app)).entered_at)
      (λ e old low n ent i. go e old low n (eqb n session) refl ent i) s.order k.as_issued (items_low 0 (length s.order) s.order k.placed (omega arith)))
      ((λ n ent i. absurd (cc (i))), tt);
}
  where
    go : (e : Entry) → AsIssued s.session_at s.entered_at e → ((n : ℕ) → is_item_of n e ≡ true → n ≤ length s.order) → (n : ℕ) (b : Bool) → eqb n session ≡ b → is_some ((entered s (OpenedEntry session app)).entered_at n) ≡ true → is_item_of n e ≡ true → StandsAsIssued (issued_of (s.session_at n)) n e
    go e old low n true q ent i = absurd (omega (arith, low n i, eqb-true n session q, place))
    go e old low n false q ent i = old n (subst (λ (b : Bool). is_some (if b then Some (record { app = app; in_order = length s.past; lost_since = false }) else s.entered_at n) ≡ true) q ent) i

enter_steps : (l : Layout) (clock : ℕ) (s : Server) (x : Entry) → EnterMay l clock s x → IssuedSteps s (entered s x)
enter_steps l clock s (Epoch number) may = absurd may
enter_steps l clock s (Closed session) may = absurd may
enter_steps l clock s (OpenedEntry session app) may = open_steps s session app may.opened may.place
enter_steps l clock s (Update session w job txn op) may =
    push s (entered s (Update session w job txn op)) (Update session w job txn op) refl (λ k. live_low s.order session k.placed may.is_live)
    (λ n ent i. subst (λ m. StandsAsIssued (issued_of (s.session_at m)) m (Update session w job txn op)) (eqb-true session n i) may.issued)
enter_steps l clock s (Commit session w job txn) may =
    push s (entered s (Commit session w job txn)) (Commit session w job txn) refl (λ k. live_low s.order session k.placed may.is_live)
    (λ n ent i. subst (λ m. StandsAsIssued (issued_of (s.session_at m)) m (Commit session w job txn)) (eqb-true session n i) may.issued)
enter_steps l clock s (Rollback session w job txn) may =
    push s (entered s (Rollback session w job txn)) (Rollback session w job txn) refl (λ k. live_low s.order session k.placed may.is_live)
    (λ n ent i. subst (λ m. StandsAsIssued (issued_of (s.session_at m)) m (Rollback session w job txn)) (eqb-true session n i) may.issued)

crash_steps : (clock round : ℕ) (s : Server) (kept : ℕ) → CrashMay s kept → IssuedSteps s (crashed clock round s kept)
crash_steps clock round s kept may k = record {
  fresh = λ f. absurd (both_ways s.opened may.opened f);
  placed = placed_push (take kept s.order) _ (placed-take 0 kept s.order k.placed) tt;
  met = k.met;
  as_issued = each-append (AsIssued s.session_at s.entered_at) (take kept s.order) _ (each-take (AsIssued s.session_at s.entered_at) kept s.order k.as_issued) ((λ n ent i. absurd (cc (i))), tt);
}

as_more : (xs ys : List Issued) (n : ℕ) (e : Entry) → StandsAsIssued xs n e → StandsAsIssued (xs ++ ys) n e
as_more xs ys n e h = go (slice_get xs (w_of e - 1)) refl h
  where
    go : (o : Option Issued) → slice_get xs (w_of e - 1) ≡ o → option_map (entry_of n (w_of e)) o ≡ Some e → option_map (entry_of n (w_of e)) (slice_get (xs ++ ys) (w_of e - 1)) ≡ Some e
    go None is h = absurd (cc (h))
    go (Some x) is h = ap (option_map (entry_of n (w_of e))) (get_append xs ys x (w_of e - 1) is) ∙ h

abbrev Grown : Option Session → Option Session → Type 0
Grown o r = (more : List Issued) × (issued_of r ≡ issued_of o ++ more)

grown_same : (o : Option Session) → Grown o o
grown_same o = ([], sym (append-nil (issued_of o)))

-- what was issued grows
grow : (s t : Server) → t.opened ≡ s.opened → t.order ≡ s.order → ((n : ℕ) → Grown (s.session_at n) (t.session_at n)) → ((n : ℕ) → is_some (t.entered_at n) ≡ is_some (s.entered_at n))
    → ((n : ℕ) → is_some (t.session_at n) ≡ true → is_some (s.session_at n) ≡ true ⊎ is_some (s.entered_at n) ≡ true) → IssuedSteps s t
grow s t op o more ent known k = record {
  fresh = λ f n. ent n ∙ k.fresh (sym op ∙ f) n;
  placed = subst (PlacedFrom 0) (sym o) k.placed;
  met = λ n m. ent n ∙ enters n (known n m);
  as_issued = subst (Each (AsIssued t.session_at t.entered_at)) (sym o)
      (each_map (AsIssued s.session_at s.entered_at) (AsIssued t.session_at t.entered_at)
      (λ e old n x i. subst (λ (is : List Issued). StandsAsIssued is n e) (sym (more n).1) (as_more (issued_of (s.session_at n)) (more n).0 n e (old n (sym (ent n) ∙ x) i))) s.order k.as_issued);
}
  where
    enters : (n : ℕ) → is_some (s.session_at n) ≡ true ⊎ is_some (s.entered_at n) ≡ true → is_some (s.entered_at n) ≡ true
    enters n (inl m) = k.met n m
    enters n (inr e) = e

session_steps : (s t : Server) (n : ℕ) (f : Session → Session) → view t ≡ view (with_session s n f) → ((m : Session) → (more : List Issued) × ((f m).issued ≡ m.issued ++ more)) → IssuedSteps s t
session_steps s t n f same more k =
    subst IssuedKept (sym same) (grow s (with_session s n f) refl refl (λ m. at_put Grown s.session_at n (option_map f (s.session_at n)) grown_same (here (s.session_at n)) m) (λ m. refl)
    (λ m e. inl (at_put (λ o r. is_some r ≡ true → is_some o ≡ true) s.session_at n (option_map f (s.session_at n)) (λ o x. x) (back (s.session_at n)) m e)) k)
  where
    here : (o : Option Session) → Grown o (option_map f o)
    here None = ([], refl)
    here (Some m) = more m

    back : (o : Option Session) → is_some (option_map f o) ≡ true → is_some o ≡ true
    back None e = e
    back (Some m) e = refl

none_of : (o : Option Session) → is_some o ≡ false → issued_of o ≡ []
none_of None e = refl
none_of (Some m) e = absurd (cc (e))

met_steps : (l : Layout) (s : Server) (app session : ℕ) → MetMay s app session → IssuedSteps s (met_by l s app session)
met_steps l s app session may =
    grow s (met_by l s app session) refl refl
    (λ m. at_put Grown s.session_at session _ grown_same ([], sym (append-nil (issued_of (s.session_at session)) ∙ none_of (s.session_at session) may.fresh)) m) (λ m. refl) (λ m e. known m (eqb m session) refl e)
  where
    known : (m : ℕ) (b : Bool) → eqb m session ≡ b → is_some ((met_by l s app session).session_at m) ≡ true → is_some (s.session_at m) ≡ true ⊎ is_some (s.entered_at m) ≡ true
    known m true q e = inr (subst (λ n. is_some (s.entered_at n) ≡ true) (sym (eqb-true m session q)) may.entered)
    known m false q e = inl (subst (λ (b : Bool). is_some (if b then Some (new_session s app session) else s.session_at m) ≡ true) q e)

since_same : (app : ℕ) (o : Option Entered) → is_some (since_loss app o) ≡ is_some o
since_same app None = refl
since_same app (Some e) = refl

lose_steps : (s t : Server) (app : ℕ) → view t ≡ record (view s) { ent = λ n. since_loss app (s.entered_at n) } → IssuedSteps s t
lose_steps s t app same k = subst IssuedKept (sym same) (record {
  fresh = λ f n. since_same app (s.entered_at n) ∙ k.fresh f n;
  placed = k.placed;
  met = λ n m. since_same app (s.entered_at n) ∙ k.met n m;
  as_issued = each_map (AsIssued s.session_at s.entered_at) (AsIssued s.session_at (λ n. since_loss app (s.entered_at n))) (λ e old n x i. old n (sym (since_same app (s.entered_at n)) ∙ x) i) s.order k.as_issued;
})

lost_steps : (l : Layout) (p : Plain) (app d : ℕ) (loss : Loss) (e : ℕ) → IssuedSteps (p.server_at e) ((lost l p app d loss).server_at e)
lost_steps l p app d (ByReset at) e = at_put IssuedSteps p.server_at d _ issued_same (lose_steps (p.server_at d) (without_session l (p.server_at d) app Reset) app refl) e
lost_steps l p app d (ByExpired time) e = at_put IssuedSteps p.server_at d _ issued_same (lose_steps (p.server_at d) (without_session l (p.server_at d) app Expired) app refl) e
lost_steps l p app d (ByNoWay from to) e = at_put IssuedSteps p.server_at d _ issued_same (issued_same (p.server_at d)) e

broke_steps : (s : Server) (app : ℕ) (end : PairEnd) (time : ℕ) → IssuedSteps s (broke s app end time)
broke_steps s app AppEnd time = issued_same s
broke_steps s app ServerEnd time = issued_same s

refused_steps : (p : Plain) (j : ℕ) (r : Refusal) (e : ℕ) → IssuedSteps (p.server_at e) ((refused p j r).server_at e)
refused_steps p j NoTransaction e = issued_same (p.server_at e)
refused_steps p j TooDeep e = issued_same (p.server_at e)
refused_steps p j RollbackOnly e = issued_same (p.server_at e)
refused_steps p j LockTimeout e = issued_same (p.server_at e)
refused_steps p j (Network d state reason) e = at_put IssuedSteps p.server_at d _ issued_same (issued_same (p.server_at d)) e

pub row_steps : (l : Layout) (p : Plain) (a : Act) → MayCome l p a → (e : ℕ) → IssuedSteps (p.server_at e) ((after l p a).server_at e)
row_steps l p (Opened d entries) may e = at_put IssuedSteps p.server_at d _ issued_same (opened_steps p.clock l.times.round (p.server_at d) entries may) e
row_steps l p (Enter d x) may e = at_put IssuedSteps p.server_at d _ issued_same (enter_steps l p.clock (p.server_at d) x may) e
row_steps l p (Synced d n) may e = at_put IssuedSteps p.server_at d _ issued_same (issued_same (p.server_at d)) e
row_steps l p (Shut d session cause) may e = at_put IssuedSteps p.server_at d _ issued_same (push (p.server_at d) (shut (p.server_at d) session) (Closed session) refl (λ k. live_high (p.server_at d).order session k.placed (shut_live l p (p.server_at d) session cause may)) (λ n ent i. absurd (cc (i)))) e
row_steps l p (Release d session) may e = at_put IssuedSteps p.server_at d _ issued_same (issued_same (p.server_at d)) e
row_steps l p (Met app d session) may e = at_put IssuedSteps p.server_at d _ issued_same (met_steps l (p.server_at d) app session may.1) e
row_steps l p (Told app d session epoch kept) may e = at_put IssuedSteps p.server_at d _ issued_same (session_steps (p.server_at d) (told_of l (p.server_at d) app session epoch kept) session (λ m. record m { told = begun_by (p.server_at d) epoch }) refl (λ m. ([], sym (append-nil m.issued)))) e
row_steps l p (Back d) may e = at_put IssuedSteps p.server_at d _ issued_same (issued_same (p.server_at d)) e
row_steps l p (Crash d kept) may e = at_put IssuedSteps p.server_at d _ issued_same (crash_steps p.clock l.times.round (p.server_at d) kept may) e
row_steps l p (Issue job line d w item) may e = at_put IssuedSteps p.server_at d _ issued_same (session_steps (p.server_at d) (issues (p.server_at d) (app_of l job) (record { item = item; txn = txn_of (p.job_at job) item; job = job; line = line })) (pair_session (p.server_at d) (app_of l job)) (λ m. record m { issued = m.issued ++ (record { item = item; txn = txn_of (p.job_at job) item; job = job; line = line }) ∷ [] }) refl (λ m. ((record { item = item; txn = txn_of (p.job_at job) item; job = job; line = line }) ∷ [], refl))) e
row_steps l p (Read job line d at via question) may e = at_put IssuedSteps p.server_at d _ issued_same (issued_same (p.server_at d)) e
row_steps l p (Grant d session job mode key at) may e = at_put IssuedSteps p.server_at d _ issued_same (issued_same (p.server_at d)) e
row_steps l p (Granted job line d at) may e = at_put IssuedSteps p.server_at d _ issued_same (issued_same (p.server_at d)) e
row_steps l p (GiveUp job line d mode key) may e = at_put IssuedSteps p.server_at d _ issued_same (issued_same (p.server_at d)) e
row_steps l p (Quit job line d mode key) may e = at_put IssuedSteps p.server_at d _ issued_same (issued_same (p.server_at d)) e
row_steps l p (Free d session job mode key) may e = at_put IssuedSteps p.server_at d _ issued_same (issued_same (p.server_at d)) e
row_steps l p (Counted job line d at sum) may e = at_put IssuedSteps p.server_at d _ issued_same (issued_same (p.server_at d)) e
row_steps l p (NotWhole job line d at) may e = at_put IssuedSteps p.server_at d _ issued_same (issued_same (p.server_at d)) e
row_steps l p (Range job line d at) may e = at_put IssuedSteps p.server_at d _ issued_same (issued_same (p.server_at d)) e
row_steps l p (Committed job line d at) may e = at_put IssuedSteps p.server_at d _ issued_same (issued_same (p.server_at d)) e
row_steps l p (RolledBack job line d at) may e = at_put IssuedSteps p.server_at d _ issued_same (issued_same (p.server_at d)) e
row_steps l p (Reached job line d at) may e = at_put IssuedSteps p.server_at d _ issued_same (issued_same (p.server_at d)) e
row_steps l p (Level job line level) may e = issued_same (p.server_at e)
row_steps l p (Done job line) may e = issued_same (p.server_at e)
row_steps l p (Refused job line refusal) may e = refused_steps p job refusal e
row_steps l p (Broke app d end time) may e = at_put IssuedSteps p.server_at d _ issued_same (broke_steps (p.server_at d) app end time) e
row_steps l p (Mended app d) may e = at_put IssuedSteps p.server_at d _ issued_same (issued_same (p.server_at d)) e
row_steps l p (Tick time) may e = issued_same (p.server_at e)
row_steps l p (Lose app d loss) may e = lost_steps l p app d loss e
row_steps l p (Died app) may e = issued_same (p.server_at e)

run_steps : (l : Layout) (p : Plain) (acts : List Act) → RunFrom l p acts → (e : ℕ) → IssuedSteps (p.server_at e) ((after_all l p acts).server_at e)
run_steps l p [] run e k = k
run_steps l p (a ∷ acts) run e k = run_steps l (after l p a) acts run.1 e (row_steps l p a run.0 e k)

pub issued_kept : (l : Layout) (acts : List Act) (d : ℕ) → IsRun l acts → IssuedKept (view (server_after l acts d))
issued_kept l acts d run = run_steps l start acts run d (record { fresh = λ _ n. refl; placed = tt; met = λ n m. absurd (cc (m)); as_issued = tt })

pub items_were_issued : ItemsWereIssued
items_were_issued l acts d i n e run met there is =
    let kept = issued_kept l acts d run in
    each_at (AsIssued (server_after l acts d).session_at (server_after l acts d).entered_at) (server_after l acts d).order i e kept.as_issued there n (kept.met n met) is
