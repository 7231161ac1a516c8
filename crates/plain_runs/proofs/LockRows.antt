-- What each row does to the holds of a server.
use Rattle.std.proofs.Common.{◌≡◌, ℕ, zero, suc, ◌≤◌, ◌<◌, ◌+◌, List, [], ◌∷◌, ◌++◌, length, take, map, refl, subst, sym, ap, ◌∙◌, Bool, true, false, cond, eqb, if◌then◌else◌, arith, length-append, Option, Some, None, slice_get, ◌⊎◌, inl, inr, ◌||◌, ◌&&◌, not, ◌==◌}
use Rattle.std.specs.Prelude.{is_some}
use Rattle.std.specs.List.{list_any, filter}
use Rattle.std.specs.Option.{option_map}
use Rattle.std.proofs.lemmas.Bool.{eqb-true, eq-eqb, and_parts, not-true}
use Rattle.std.proofs.lemmas.Option.{same_Some}
use Rattle.std.proofs.lemmas.List.{take_all, append-nil, take-append-le, length-take-le, take-take}
use Rattle.plain_orders.specs.declared.mode.Mode.{Mode}
use Rattle.plain_orders.specs.Own.{Issued}
use Rattle.plain_orders.specs.Entries.{entry_at}
use Rattle.plain_orders.specs.declared.entry.Entry.{Entry}
use Rattle.plain_orders.specs.declared.entry.Entry.TheVariants.{Epoch, Opened as OpenedEntry, Closed, Update, Commit, Rollback}
use Rattle.plain_orders.specs.declared.layout.Layout.{Layout}
use Rattle.plain_orders.specs.Entries.{live, count, last_epoch}
use Rattle.plain_runs.specs.Plain.{Server, Session, Hold, Given, Quitted, with_session, pair_session, issued_in}
use Rattle.plain_runs.specs.OrderRows.{OpenedMay, EnterMay, SyncedMay, CrashMay, BackMay, entered, opened_with, crashed, came_back, saved, due_of}
use Rattle.plain_runs.specs.EndRows.{MetMay, met_by, new_session}
use Rattle.plain_runs.specs.LockRows.{GrantMay, ReleaseMay, FreeMay, is_quit, first_quit, drop_quit, change_first, change_last, given_now, first_given, grants, granted, releases, gives_up, quits, frees}
use Rattle.plain_runs.proofs.RunLemmas.{at_put}
use Rattle.plain_runs.proofs.Orders.{Each, facet, OrdersKept, order_in_order}
use Rattle.plain_runs.proofs.Lists.{both_ways, any_take, any_wider, opens, is_open, live_opens, live_has, none_live}
use Rattle.plain_runs.proofs.HoldRows.{HoldKept, IssuedGrows, issued_of, grow_hold, sent_facts, of_facts, answer_hold, give_hold, free_hold, back_hold, release_hold, crash_hold}
use Rattle.plain_runs.specs.Holds.{is_sent, hold_after_crash, hold_after_back, is_kept, is_asked, is_of, is_lock, is_sent_at, new_hold, answered_hold, released_hold, given_up, freed_hold}

-- lists of holds, changed one by one
pub each_map : (P Q : Hold → Type 0) (f : Hold → Hold) → ((h : Hold) → P h → Q (f h)) → (hs : List Hold) → Each P hs → Each Q (map f hs)
each_map P Q f step [] e = tt
each_map P Q f step (h ∷ hs) e = (step h e.0, each_map P Q f step hs e.1)

pub each_weaker : {X : Type 0} (P Q : X → Type 0) → ((x : X) → P x → Q x) → (xs : List X) → Each P xs → Each Q xs
each_weaker P Q f [] e = tt
each_weaker P Q f (x ∷ xs) e = (f x e.0, each_weaker P Q f xs e.1)

pub each_push : {X : Type 0} (P : X → Type 0) (xs : List X) (x : X) → Each P xs → P x → Each P (xs ++ x ∷ [])
each_push P [] x e p = (p, tt)
each_push P (y ∷ xs) x e p = (e.0, each_push P xs x e.1 p)

each_filter : {X : Type 0} (P : X → Type 0) (t : X → Bool) (xs : List X) → Each P xs → Each P (filter t xs)
each_filter P t [] e = tt
each_filter P t (x ∷ xs) e = go (t x) (each_filter P t xs e.1)
  where
    go : (b : Bool) → Each P (filter t xs) → Each P (cond b (x ∷ filter t xs) (filter t xs))
    go true r = (e.0, r)
    go false r = r

pub each_first : (P : Hold → Type 0) (p : Hold → Bool) (f : Hold → Hold) → ((h : Hold) → p h ≡ true → P h → P (f h)) → (hs : List Hold) → Each P hs → Each P (change_first p f hs)
each_first P p f step [] e = tt
each_first P p f step (h ∷ hs) e = go (p h) refl (each_first P p f step hs e.1)
  where
    go : (b : Bool) → p h ≡ b → Each P (change_first p f hs) → Each P (cond b (f h ∷ hs) (h ∷ change_first p f hs))
    go true is r = (step h is e.0, e.1)
    go false is r = (e.0, r)

pub each_last : (P : Hold → Type 0) (p : Hold → Bool) (f : Hold → Hold) → ((h : Hold) → p h ≡ true → P h → P (f h)) → (hs : List Hold) → Each P hs → Each P (change_last p f hs)
each_last P p f step [] e = tt
each_last P p f step (h ∷ hs) e = go (list_any p hs) (p h) refl (each_last P p f step hs e.1)
  where
    go : (c b : Bool) → p h ≡ b → Each P (change_last p f hs) → Each P (cond c (h ∷ change_last p f hs) (cond b (f h ∷ hs) (h ∷ hs)))
    go true b is r = (e.0, r)
    go false true is r = (step h is e.0, e.1)
    go false false is r = (e.0, e.1)

each_drop : (P : Quitted → Type 0) (t : Quitted → Bool) (xs : List Quitted) → Each P xs → Each P (drop_quit t xs)
each_drop P t [] e = tt
each_drop P t (x ∷ xs) e = go (t x) (each_drop P t xs e.1)
  where
    go : (b : Bool) → Each P (drop_quit t xs) → Each P (cond b xs (x ∷ drop_quit t xs))
    go true r = e.1
    go false r = (e.0, r)

-- the first quit that passes a test passes it, and has what each has
first_has : (P : Quitted → Type 0) (t : Quitted → Bool) (xs : List Quitted) (q : Quitted) → first_quit t xs ≡ Some q → Each P xs → (t q ≡ true) × P q
first_has P t [] q f e = absurd (cc (f))
first_has P t (x ∷ xs) q f e = go (t x) refl (λ g. first_has P t xs q g e.1) f
  where
    go : (b : Bool) → t x ≡ b → (first_quit t xs ≡ Some q → (t q ≡ true) × P q) → cond b (Some x) (first_quit t xs) ≡ Some q → (t q ≡ true) × P q
    go true is r g = let same : x ≡ q = cc (g) in (subst (λ y. t y ≡ true) same is, subst P same e.0)
    go false is r g = r g

pub each_at : {X : Type 0} (P : X → Type 0) (xs : List X) (i : ℕ) (x : X) → Each P xs → slice_get xs i ≡ Some x → P x
each_at P [] i x e g = absurd (cc (g))
each_at P (y ∷ xs) zero x e g = subst P (cc (g)) e.0
each_at P (y ∷ xs) (suc i) x e g = each_at P xs i x e.1 g

-- what rows on holds see of a server
pub record Locks : Type 0 where
  pub opened : Bool
  pub order : List Entry
  pub synced : ℕ
  pub due : Option ℕ
  pub session_at : ℕ → Option Session
  pub quits : List Quitted
  pub holds : List Hold

abbrev pub locks : Server → Locks
locks s = record { opened = s.opened; order = s.order; synced = s.synced; due = s.due; session_at = s.session_at; quits = s.quits; holds = s.holds }

pub record QuitKept (ses : ℕ → Option Session) (q : Quitted) : Type 0 where
  pub met : is_some (ses q.session) ≡ true
  pub before : q.given.before ≤ length (issued_of (ses q.session))

abbrev pub HoldOf : Locks → Hold → Type 0
HoldOf s h = HoldKept s.order s.synced s.due s.session_at h

pub record LocksKept (s : Locks) : Type 0 where
  pub fresh : s.opened ≡ false → s.holds ≡ []
  pub opened : (n : ℕ) → is_some (s.session_at n) ≡ true → opens (take s.synced s.order) n ≡ true
  pub quits : Each (QuitKept s.session_at) s.quits
  pub holds : Each (HoldOf s) s.holds

abbrev pub LockSteps : Server → Server → Type 0
LockSteps s t = OrdersKept (facet s) → LocksKept (locks s) → LocksKept (locks t)

pub steps_same : (s : Server) → LockSteps s s
steps_same s o k = k

issued_same : (o : Option Session) → IssuedGrows o o
issued_same o = ((λ e. e), ([], sym (append-nil (issued_of o))))

grow_quit : (ses ses' : ℕ → Option Session) → ((n : ℕ) → IssuedGrows (ses n) (ses' n)) → (q : Quitted) → QuitKept ses q → QuitKept ses' q
grow_quit ses ses' grows q k = record {
  met = (grows q.session).0 k.met;
  before = omega (arith, k.before, ap length (grows q.session).1.1, length-append (issued_of (ses q.session)) (grows q.session).1.0);
}

-- the order, what is synced and what was issued grow
grown : (s t : Locks) (more : List Entry) → t.order ≡ s.order ++ more → s.synced ≤ t.synced → (t.due ≡ None → s.due ≡ None) → ((n : ℕ) → IssuedGrows (s.session_at n) (t.session_at n)) → t.quits ≡ s.quits → t.holds ≡ s.holds
    → (t.opened ≡ false → s.opened ≡ false) → ((n : ℕ) → is_some (t.session_at n) ≡ true → (is_some (s.session_at n) ≡ true) ⊎ (opens (take s.synced s.order) n ≡ true)) → s.synced ≤ length s.order → LocksKept s → LocksKept t
grown s t more o low due grows qs hs op known within k = record {
  fresh = λ f. hs ∙ k.fresh (op f);
  opened = λ n m. subst (λ (es : List Entry). opens (take t.synced es) n ≡ true) (sym o) (wider n (known n m));
  quits = subst (Each (QuitKept t.session_at)) (sym qs) (each_weaker (QuitKept s.session_at) (QuitKept t.session_at) (grow_quit s.session_at t.session_at grows) s.quits k.quits);
  holds = subst (Each (HoldOf t)) (sym hs) (subst (λ (es : List Entry). Each (HoldKept es t.synced t.due t.session_at) s.holds) (sym o)
      (each_weaker (HoldOf s) (HoldKept (s.order ++ more) t.synced t.due t.session_at) (λ h. grow_hold s.order more s.synced t.synced s.due t.due s.session_at t.session_at h within low due grows) s.holds k.holds));
}
  where
    longer : (n : ℕ) → opens (take s.synced s.order) n ≡ true → opens (take t.synced (s.order ++ more)) n ≡ true
    longer n x = any_wider (is_open n) s.synced t.synced (s.order ++ more) low (subst (λ (es : List Entry). opens es n ≡ true) (sym (take-append-le s.synced s.order more within)) x)

    wider : (n : ℕ) → (is_some (s.session_at n) ≡ true) ⊎ (opens (take s.synced s.order) n ≡ true) → opens (take t.synced (s.order ++ more)) n ≡ true
    wider n (inl m) = longer n (k.opened n m)
    wider n (inr x) = longer n x

-- an entry at the end
pub entry_steps : (s t : Server) (e : Entry) → locks t ≡ record (locks s) { order = s.order ++ e ∷ [] } → LockSteps s t
entry_steps s t e same o k =
    subst LocksKept (sym same) (grown (locks s) (record (locks s) { order = s.order ++ e ∷ [] }) (e ∷ []) refl (omega arith) (λ x. x) (λ n. issued_same (s.session_at n)) refl refl (λ x. x) (λ n m. inl m) o.within k)

pub enter_steps : (l : Layout) (clock : ℕ) (s : Server) (x : Entry) → EnterMay l clock s x → LockSteps s (entered s x)
enter_steps l clock s (Epoch number) may = absurd may
enter_steps l clock s (Closed session) may = absurd may
enter_steps l clock s (OpenedEntry session app) may = entry_steps s (entered s (OpenedEntry session app)) (OpenedEntry session app) refl
enter_steps l clock s (Update session w job txn op) may = entry_steps s (entered s (Update session w job txn op)) (Update session w job txn op) refl
enter_steps l clock s (Commit session w job txn) may = entry_steps s (entered s (Commit session w job txn)) (Commit session w job txn) refl
enter_steps l clock s (Rollback session w job txn) may = entry_steps s (entered s (Rollback session w job txn)) (Rollback session w job txn) refl

pub saved_steps : (s : Server) (n : ℕ) → SyncedMay s n → LockSteps s (saved s n)
saved_steps s n may o k = grown (locks s) (locks (saved s n)) [] (sym (append-nil s.order)) may.no_less (λ x. x) (λ m. issued_same (s.session_at m)) refl refl (λ x. x) (λ m e. inl e) o.within k

-- a session changed, what was issued in it going on
pub session_steps : (s t : Server) (n : ℕ) (f : Session → Session) → locks t ≡ locks (with_session s n f) → ((m : Session) → (more : List Issued) × ((f m).issued ≡ m.issued ++ more)) → LockSteps s t
session_steps s t n f same more o k =
    subst LocksKept (sym same) (grown (locks s) (locks (with_session s n f)) [] (sym (append-nil s.order)) (omega arith) (λ x. x)
    (λ m. at_put IssuedGrows s.session_at n (option_map f (s.session_at n)) issued_same (here (s.session_at n)) m) refl refl (λ x. x)
    (λ m e. inl (at_put (λ o r. is_some r ≡ true → is_some o ≡ true) s.session_at n (option_map f (s.session_at n)) (λ o x. x) (back (s.session_at n)) m e)) o.within k)
  where
    here : (o : Option Session) → IssuedGrows o (option_map f o)
    here None = ((λ e. e), ([], refl))
    here (Some m) = ((λ e. refl), more m)

    back : (o : Option Session) → is_some (option_map f o) ≡ true → is_some o ≡ true
    back None e = e
    back (Some m) e = refl

-- the entry at a position is among the first so many
open_below : (es : List Entry) (i n session app : ℕ) → slice_get es i ≡ Some (OpenedEntry session app) → i < n → opens (take n es) session ≡ true
open_below [] i n session app e low = absurd (cc (e))
open_below (x ∷ es) i zero session app e low = absurd (omega arith)
open_below (x ∷ es) zero (suc n) session app e low =
    let first : OpenedEntry session app ≡ x = sym (same_Some x (OpenedEntry session app) e) in
    subst (λ (y : Entry). (is_open session y || opens (take n es) session) ≡ true) first (ap (λ (b : Bool). b || opens (take n es) session) (eq-eqb session session refl))
open_below (x ∷ es) (suc i) (suc n) session app e low = go (is_open session x) (open_below es i n session app e (omega arith))
  where
    go : (b : Bool) → opens (take n es) session ≡ true → (b || opens (take n es) session) ≡ true
    go true h = refl
    go false h = h

open_at : (es : List Entry) (session app d : ℕ) → entry_at es session ≡ Some (OpenedEntry session app) → session ≤ d → opens (take d es) session ≡ true
open_at es zero app d e low = absurd (cc (e))
open_at es (suc i) app d e low = open_below es i d (suc i) app e low

none_of : (o : Option Session) → is_some o ≡ false → issued_of o ≡ []
none_of None e = refl
none_of (Some m) e = absurd (cc (e))

pub met_steps : (l : Layout) (s : Server) (app session : ℕ) → MetMay s app session → LockSteps s (met_by l s app session)
met_steps l s app session may o k =
    grown (locks s) (locks (met_by l s app session)) [] (sym (append-nil s.order)) (omega arith) (λ x. x)
    (λ m. at_put IssuedGrows s.session_at session _ issued_same ((λ e. refl), ([], sym (append-nil (issued_of (s.session_at session)) ∙ none_of (s.session_at session) may.fresh))) m) refl refl (λ x. x)
    (λ m e. known m (eqb m session) refl e) o.within k
  where
    known : (m : ℕ) (b : Bool) → eqb m session ≡ b → is_some ((met_by l s app session).session_at m) ≡ true → (is_some (s.session_at m) ≡ true) ⊎ (opens (take s.synced s.order) m ≡ true)
    known m true q e = inr (subst (λ n. opens (take s.synced s.order) n ≡ true) (sym (eqb-true m session q)) (open_at s.order session app s.synced may.place may.synced))
    known m false q e = inl (subst (λ (b : Bool). is_some (if b then Some (new_session s app session) else s.session_at m) ≡ true) q e)

-- the rows on holds: the order and the sessions as they were
locked : (s : Server) (qs : List Quitted) (hs : List Hold) → (s.opened ≡ false → s.holds ≡ [] → hs ≡ []) → (LocksKept (locks s) → Each (QuitKept s.session_at) qs) → (LocksKept (locks s) → Each (HoldOf (locks s)) hs)
    → LocksKept (locks s) → LocksKept (record (locks s) { quits = qs; holds = hs })
locked s qs hs none q h k = record { fresh = λ f. none f (k.fresh f); opened = k.opened; quits = q k; holds = h k }

pub granted_steps : (s : Server) (app job at : ℕ) → is_some (s.session_at (pair_session s app)) ≡ true → at ≤ s.synced → LockSteps s (granted s app job at)
granted_steps s app job at met low o =
    locked s s.quits (change_first (is_sent_at (pair_session s app) job at) answered_hold s.holds) (λ _ e. ap (change_first (is_sent_at (pair_session s app) job at) answered_hold) e) (λ k. k.quits)
    (λ k. each_first (HoldOf (locks s)) (is_sent_at (pair_session s app) job at) answered_hold (answer_hold s.order s.synced s.due s.session_at (pair_session s app) job at met low) s.holds k.holds)

pub give_steps : (s : Server) (app job : ℕ) (mode : Mode) (key : List ℕ) → is_some (s.session_at (pair_session s app)) ≡ true → LockSteps s (gives_up s app job mode key)
give_steps s app job mode key met o =
    locked s s.quits (change_last (is_kept (pair_session s app) job mode key) (given_up (given_now s (pair_session s app))) s.holds) (λ _ e. ap (change_last (is_kept (pair_session s app) job mode key) (given_up (given_now s (pair_session s app)))) e) (λ k. k.quits)
    (λ k. each_last (HoldOf (locks s)) (is_kept (pair_session s app) job mode key) (given_up (given_now s (pair_session s app))) give s.holds k.holds)
  where
    give : (h : Hold) → is_kept (pair_session s app) job mode key h ≡ true → HoldOf (locks s) h → HoldOf (locks s) (given_up (given_now s (pair_session s app)) h)
    give h p =
        let a = and_parts (h.answered && not (is_some h.given)) (not h.gone && (is_of (pair_session s app) job h && is_lock mode key h)) p in
        let c = and_parts (not h.gone) (is_of (pair_session s app) job h && is_lock mode key h) a.1 in
        let d = and_parts (is_of (pair_session s app) job h) (is_lock mode key h) c.1 in
        give_hold s.order s.synced s.due s.session_at (pair_session s app) (given_now s (pair_session s app)) met refl h (of_facts (pair_session s app) job h d.0).0 (not-true h.gone c.0)

pub quit_steps : (s : Server) (app job : ℕ) (mode : Mode) (key : List ℕ) → is_some (s.session_at (pair_session s app)) ≡ true → LockSteps s (quits s app job mode key)
quit_steps s app job mode key met o =
    locked s (quits s app job mode key).quits (quits s app job mode key).holds (λ _ e. ap (change_first (is_asked (pair_session s app) job mode key) (given_up (given_now s (pair_session s app)))) e)
    (λ k. quit k (list_any (is_asked (pair_session s app) job mode key) s.holds))
    (λ k. each_first (HoldOf (locks s)) (is_asked (pair_session s app) job mode key) (given_up (given_now s (pair_session s app))) give s.holds k.holds)
  where
    quit : LocksKept (locks s) → (b : Bool) → Each (QuitKept s.session_at) (if b then s.quits else s.quits ++ (record { session = pair_session s app; job = job; mode = mode; key = key; given = given_now s (pair_session s app) }) ∷ [])
    quit k true = k.quits
    quit k false = each_push (QuitKept s.session_at) s.quits _ k.quits (record { met = met; before = omega arith })

    give : (h : Hold) → is_asked (pair_session s app) job mode key h ≡ true → HoldOf (locks s) h → HoldOf (locks s) (given_up (given_now s (pair_session s app)) h)
    give h p =
        let a = and_parts (is_sent h) (is_of (pair_session s app) job h && is_lock mode key h) p in
        let b = and_parts (is_of (pair_session s app) job h) (is_lock mode key h) a.1 in
        give_hold s.order s.synced s.due s.session_at (pair_session s app) (given_now s (pair_session s app)) met refl h (of_facts (pair_session s app) job h b.0).0 (sent_facts h a.0).2

pub release_steps : (s : Server) (session : ℕ) → ReleaseMay s session → LockSteps s (releases s session)
release_steps s session may o =
    locked s (releases s session).quits (releases s session).holds (λ _ e. ap (map (released_hold session)) e)
    (λ k. each_filter (QuitKept s.session_at) _ s.quits k.quits)
    (λ k. each_map (HoldOf (locks s)) (HoldOf (locks s)) (released_hold session) (λ h x. release_hold s.order s.synced s.due s.session_at session h may.closed x) s.holds k.holds)

pub free_steps : (s : Server) (session job : ℕ) (mode : Mode) (key : List ℕ) → FreeMay s session job mode key → LockSteps s (frees s session job mode key)
free_steps s session job mode key may o =
    locked s (frees s session job mode key).quits (frees s session job mode key).holds (λ _ e. ap (map (freed_hold (first_given s session job mode key) session job mode key)) e)
    (λ k. each_filter (QuitKept s.session_at) _ s.quits k.quits)
    (λ k. each_map (HoldOf (locks s)) (HoldOf (locks s)) (freed_hold (first_given s session job mode key) session job mode key)
    (λ h x. free_hold s.order s.synced s.due s.session_at (first_given s session job mode key) session job mode key h may.entered x) s.holds k.holds)

pub grant_steps : (s : Server) (session job : ℕ) (mode : Mode) (key : List ℕ) (at : ℕ) → GrantMay s session job mode key at → LockSteps s (grants s session job mode key at)
grant_steps s session job mode key at may o =
    locked s (grants s session job mode key at).quits (grants s session job mode key at).holds (λ f _. absurd (cc (subst (λ (es : List Entry). live es session ≡ true) (o.fresh f).0 may.is_live)))
    (λ k. each_drop (QuitKept s.session_at) _ s.quits k.quits)
    (λ k. each_push (HoldOf (locks s)) s.holds _ k.holds (new k (first_quit (is_quit session job mode key) s.quits) refl))
  where
    its : (q : Quitted) → is_quit session job mode key q ≡ true → q.session ≡ session
    its q p = eqb-true q.session session (and_parts (q.session == session) (q.job == job) (and_parts (q.session == session && q.job == job) _ p).0).0

    new : LocksKept (locks s) → (o : Option Quitted) → first_quit (is_quit session job mode key) s.quits ≡ o → HoldOf (locks s) (new_hold session job mode key at o)
    new k None e = record {
      met = λ t. absurd (cc (t));
      low = λ t. absurd (cc (t));
      in_order = λ _ _. (omega (arith, may.here), subst (λ (es : List Entry). opens es session ≡ true) (sym (take_all at s.order (omega (arith, may.here)))) (live_opens s.order session may.is_live));
      before = λ g x. absurd (cc (x));
      closed = λ f. absurd (cc (f));
      ended = λ f. absurd (cc (f));
      settled = λ _ f. absurd (cc (f));
    }
    new k (Some q) e =
        let x = first_has (QuitKept s.session_at) (is_quit session job mode key) s.quits q e k.quits in record {
          met = λ t. subst (λ n. is_some (s.session_at n) ≡ true) (its q x.0) x.1.met;
          low = λ t. absurd (cc (t));
          in_order = λ t. absurd (cc (t));
          before = λ g y. subst (λ (z : Given). z.before ≤ length (issued_of (s.session_at session))) (same_Some q.given g y) (subst (λ n. q.given.before ≤ length (issued_of (s.session_at n))) (its q x.0) x.1.before);
          closed = λ f. absurd (cc (f));
          ended = λ f. absurd (cc (f));
          settled = λ _ f. absurd (cc (f));
        }

pub back_steps : (s : Server) → BackMay s → LockSteps s (came_back s)
back_steps s may o k = record {
  fresh = λ f. ap (map (hold_after_back s.order)) (k.fresh f);
  opened = k.opened;
  quits = tt;
  holds = each_map (HoldOf (locks s)) (HoldKept s.order s.synced None s.session_at) (hold_after_back s.order)
      (λ h x. back_hold s.order s.synced s.due s.session_at h (order_in_order (facet s) o) (λ n m. any_take (is_open n) s.synced s.order (k.opened n m))
      (λ n l. eqb-true (count s.order n) (length (issued_in s n)) (live_has s.order _ n may.counted l)) x) s.holds k.holds;
}

pub crash_steps : (clock round : ℕ) (s : Server) (kept : ℕ) → CrashMay s kept → LockSteps s (crashed clock round s kept)
crash_steps clock round s kept may o k = record {
  fresh = λ f. absurd (both_ways s.opened may.opened f);
  opened = λ n m. subst (λ (es : List Entry). opens es n ≡ true) (sym whole) (any_wider (is_open n) s.synced kept s.order may.no_less (k.opened n m));
  quits = tt;
  holds = each_map (HoldOf (locks s)) (HoldOf (locks (crashed clock round s kept))) (hold_after_crash (take kept s.order) kept)
      (λ h x. crash_hold s.order s.synced s.due (due_of (take kept s.order) clock round) s.session_at kept last h may.no_less may.within k.opened (λ e n. none_live (take kept s.order) clock round e n) x) s.holds k.holds;
}
  where
    last : Entry
    last = Epoch (last_epoch (take kept s.order) + 1)

    whole : take kept (take kept s.order ++ last ∷ []) ≡ take kept s.order
    whole = take-append-le kept (take kept s.order) (last ∷ []) (omega (arith, length-take-le kept s.order may.within)) ∙ take-take kept kept s.order (omega arith)

pub opened_steps : (clock round : ℕ) (s : Server) (entries : List Entry) → OpenedMay s entries → LockSteps s (opened_with clock round s entries)
opened_steps clock round s entries may o k = record {
  fresh = λ f. absurd (cc (f));
  opened = λ n m. absurd (none n m);
  quits = k.quits;
  holds = subst (Each (HoldOf (locks (opened_with clock round s entries)))) (sym (k.fresh may.fresh)) tt;
}
  where
    empty : (n : ℕ) (m : ℕ) → opens (take m []) n ≡ true → ⊥
    empty n zero e = absurd (cc (e))
    empty n (suc m) e = absurd (cc (e))

    none : (n : ℕ) → is_some (s.session_at n) ≡ true → ⊥
    none n m = empty n s.synced (subst (λ (es : List Entry). opens (take s.synced es) n ≡ true) (o.fresh may.fresh).0 (k.opened n m))
