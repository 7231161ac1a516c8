-- What each row makes of a server's holds, of the requests that were given up there and of their turns.
use Rattle.std.proofs.Common.{◌≡◌, ℕ, ◌≤◌, ◌+◌, List, [], ◌∷◌, ◌++◌, map, length, take, refl, subst, sym, ap, ◌∙◌, Bool, true, false, cond}
use Rattle.std.proofs.Common.{eqb, if◌then◌else◌, arith, ◌&&◌, not, ◌==◌, Option, Some, None}
use Rattle.std.specs.Prelude.{is_some}
use Rattle.std.specs.List.{list_any}
use Rattle.std.specs.Option.{option_map}
use Rattle.std.proofs.lemmas.Bool.{and_parts, eqb-true, not-true}
use Rattle.std.proofs.lemmas.List.{append-nil}
use Rattle.plain_orders.specs.declared.entry.Entry.{Entry}
use Rattle.plain_orders.specs.declared.entry.Entry.TheVariants.{Epoch, Opened as OpenedEntry, Closed, Update, Commit, Rollback}
use Rattle.plain_orders.specs.declared.layout.Layout.{Layout}
use Rattle.plain_orders.specs.declared.mode.Mode.{Mode}
use Rattle.plain_orders.specs.Entries.{count, last_epoch}
use Rattle.plain_orders.specs.Own.{Issued}
use Rattle.plain_runs.specs.Plain.{Server, Session, Hold, Quitted, issued_in, pair_session, with_session}
use Rattle.plain_runs.specs.Holds.{answered_hold, freed_hold, given_up, hold_after_back, hold_after_crash, is_asked, is_kept, is_lock, is_of}
use Rattle.plain_runs.specs.Holds.{is_same_given, is_sent, is_sent_at, new_hold, released_hold}
use Rattle.plain_runs.specs.OrderRows.{BackMay, CrashMay, EnterMay, OpenedMay, SyncedMay, came_back, crashed, due_of, entered, opened_with, saved}
use Rattle.plain_runs.specs.EndRows.{MetMay, met_by}
use Rattle.plain_runs.specs.LockRows.{FreeMay, first_given, first_quit, frees, given_now, given_quit, gives_up, granted, grants, is_quit, quits, releases}
use Rattle.plain_runs.proofs.RunLemmas.{at_put}
use Rattle.plain_runs.proofs.Orders.{Each, OrdersKept, facet, order_in_order}
use Rattle.plain_runs.proofs.Lists.{any_take, both_ways, is_open, live_has, none_live}
use Rattle.plain_runs.proofs.HoldRows.{IssuedGrows, issued_of, sent_facts}
use Rattle.plain_runs.proofs.LockRows.{HoldOf, Locks, LocksKept, each_first, each_last, each_map, each_push, locks}
use Rattle.hold_laws.proofs.OverRows.{GivenWhereGone, OverWhereGone, given_back, given_crash, given_freed, over_back, over_crash, over_freed, over_grows}
use Rattle.hold_laws.proofs.QuitsRise.{QuitsRise, rise_drop, rise_filter, rise_push, rise_up}
use Rattle.hold_laws.proofs.Turns.{bit, give_first, give_last, in_holds, in_holds-push, in_quits, quits_filter, quits_push, quits_taken, times}
use Rattle.hold_laws.proofs.Turns.{turns_first, turns_map}

abbrev pub OverOf : Locks → Hold → Type 0
OverOf v h = GivenWhereGone h × OverWhereGone v.order v.synced v.due v.session_at h

-- each turn stands at most once, and none that didn't come yet
pub record TurnsOnce (hs : List Hold) (qs : List Quitted) (turns : ℕ) : Type 0 where
  pub once : (n : ℕ) → in_holds n hs + in_quits n qs ≤ 1
  pub below : (n : ℕ) → turns ≤ n → in_holds n hs + in_quits n qs ≤ 0

pub record MarksKept (v : Locks) (next : ℕ) : Type 0 where
  pub over : Each (OverOf v) v.holds
  pub turns : TurnsOnce v.holds v.quits next
  pub rise : QuitsRise v.quits next

abbrev pub MarkSteps : Server → Server → Type 0
MarkSteps s t = OrdersKept (facet s) → LocksKept (locks s) → MarksKept (locks s) s.turns → MarksKept (locks t) t.turns

pub marks_same : (s : Server) → MarkSteps s s
marks_same s o k m = m

-- what both say of each
each_with : (P Q R : Hold → Type 0) → ((h : Hold) → P h → Q h → R h) → (hs : List Hold) → Each P hs → Each Q hs → Each R hs
each_with P Q R f [] p q = tt
each_with P Q R f (h ∷ hs) p q = (f h p.0 q.0, each_with P Q R f hs p.1 q.1)

each_map_with : (P Q R : Hold → Type 0) (f : Hold → Hold) → ((h : Hold) → P h → Q h → R (f h)) → (hs : List Hold) → Each P hs → Each Q hs → Each R (map f hs)
each_map_with P Q R f step [] p q = tt
each_map_with P Q R f step (h ∷ hs) p q = (step h p.0 q.0, each_map_with P Q R f step hs p.1 q.1)

-- fewer turns
fewer : (hs ks : List Hold) (qs rs : List Quitted) (turns : ℕ) → ((n : ℕ) → in_holds n ks + in_quits n rs ≤ in_holds n hs + in_quits n qs)
    → TurnsOnce hs qs turns → TurnsOnce ks rs turns
fewer hs ks qs rs turns f k = record { once = λ n. omega (arith, f n, k.once n); below = λ n low. omega (arith, f n, k.below n low) }

-- one more, which is the next
one_more : (hs ks : List Hold) (qs rs : List Quitted) (turns : ℕ)
    → ((n : ℕ) → in_holds n ks + in_quits n rs ≤ in_holds n hs + in_quits n qs + bit (eqb turns n)) → TurnsOnce hs qs turns → TurnsOnce ks rs (turns + 1)
one_more hs ks qs rs turns f k = record {
  once = λ n. once n (eqb turns n) refl;
  below = λ n low. below n low (eqb turns n) refl;
}
  where
    once : (n : ℕ) (b : Bool) → eqb turns n ≡ b → in_holds n ks + in_quits n rs ≤ 1
    once n true e = omega (arith, f n, ap bit e, k.below n (omega (arith, eqb-true turns n e)))
    once n false e = omega (arith, f n, ap bit e, k.once n)

    below : (n : ℕ) → turns + 1 ≤ n → (b : Bool) → eqb turns n ≡ b → in_holds n ks + in_quits n rs ≤ 0
    below n low true e = absurd (omega (arith, low, eqb-true turns n e))
    below n low false e = omega (arith, f n, ap bit e, k.below n (omega (arith, low)))

-- the order, what is synced and what was issued grow
grown : (s t : Locks) (turns : ℕ) (more : List Entry) → t.order ≡ s.order ++ more → s.synced ≤ t.synced → (t.due ≡ None → s.due ≡ None)
    → ((n : ℕ) → IssuedGrows (s.session_at n) (t.session_at n)) → t.quits ≡ s.quits → t.holds ≡ s.holds → s.synced ≤ length s.order
    → LocksKept s → MarksKept s turns → MarksKept t turns
grown s t turns more o low due grows qs hs within k m = record {
  over = subst (Each (OverOf t)) (sym hs)
      (subst (λ (es : List Entry). Each (λ h. GivenWhereGone h × OverWhereGone es t.synced t.due t.session_at h) s.holds) (sym o)
      (each_with (HoldOf s) (OverOf s) (λ h. GivenWhereGone h × OverWhereGone (s.order ++ more) t.synced t.due t.session_at h)
      (λ h x y. (y.0, over_grows s.order more s.synced t.synced s.due t.due s.session_at t.session_at h within low due grows x y.1)) s.holds k.holds m.over));
  turns = subst (λ (rs : List Quitted). TurnsOnce t.holds rs turns) (sym qs) (subst (λ (ks : List Hold). TurnsOnce ks s.quits turns) (sym hs) m.turns);
  rise = subst (λ (rs : List Quitted). QuitsRise rs turns) (sym qs) m.rise;
}

issued_same : (o : Option Session) → IssuedGrows o o
issued_same o = ((λ e. e), ([], sym (append-nil (issued_of o))))

-- an entry at the end
pub entry_marks : (s t : Server) (e : Entry) → locks t ≡ record (locks s) { order = s.order ++ e ∷ [] } → t.turns ≡ s.turns → MarkSteps s t
entry_marks s t e same turns o k m =
    subst (MarksKept (locks t)) (sym turns)
    (subst (λ (v : Locks). MarksKept v s.turns) (sym same)
    (grown (locks s) (record (locks s) { order = s.order ++ e ∷ [] }) s.turns (e ∷ []) refl (omega arith) (λ x. x)
    (λ n. issued_same (s.session_at n)) refl refl o.within k m))

pub enter_marks : (l : Layout) (clock : ℕ) (s : Server) (x : Entry) → EnterMay l clock s x → MarkSteps s (entered s x)
enter_marks l clock s (Epoch number) may = absurd may
enter_marks l clock s (Closed session) may = absurd may
enter_marks l clock s (OpenedEntry session app) may = entry_marks s (entered s (OpenedEntry session app)) (OpenedEntry session app) refl refl
enter_marks l clock s (Update session w job txn op) may = entry_marks s (entered s (Update session w job txn op)) (Update session w job txn op) refl refl
enter_marks l clock s (Commit session w job txn) may = entry_marks s (entered s (Commit session w job txn)) (Commit session w job txn) refl refl
enter_marks l clock s (Rollback session w job txn) may = entry_marks s (entered s (Rollback session w job txn)) (Rollback session w job txn) refl refl

pub saved_marks : (s : Server) (n : ℕ) → SyncedMay s n → MarkSteps s (saved s n)
saved_marks s n may o k m =
    grown (locks s) (locks (saved s n)) s.turns [] (sym (append-nil s.order)) may.no_less (λ x. x) (λ i. issued_same (s.session_at i)) refl refl o.within k m

-- sessions changed, what was issued in them going on
pub session_marks : (s t : Server) → locks t ≡ record (locks s) { session_at = t.session_at } → t.turns ≡ s.turns
    → ((n : ℕ) → IssuedGrows (s.session_at n) (t.session_at n)) → MarkSteps s t
session_marks s t same turns grows o k m =
    subst (MarksKept (locks t)) (sym turns)
    (subst (λ (v : Locks). MarksKept v s.turns) (sym same)
    (grown (locks s) (record (locks s) { session_at = t.session_at }) s.turns [] (sym (append-nil s.order)) (omega arith) (λ x. x)
    grows refl refl o.within k m))

-- one session changed
pub issued_grows : (s : Server) (n : ℕ) (f : Session → Session) → ((x : Session) → (more : List Issued) × ((f x).issued ≡ x.issued ++ more)) → (i : ℕ)
    → IssuedGrows (s.session_at i) ((with_session s n f).session_at i)
issued_grows s n f more i = at_put IssuedGrows s.session_at n (option_map f (s.session_at n)) issued_same (here (s.session_at n)) i
  where
    here : (o : Option Session) → IssuedGrows o (option_map f o)
    here None = ((λ e. e), ([], refl))
    here (Some x) = ((λ e. refl), more x)

-- a session more
pub met_grows : (l : Layout) (s : Server) (app session : ℕ) → MetMay s app session → (n : ℕ)
    → IssuedGrows (s.session_at n) ((met_by l s app session).session_at n)
met_grows l s app session may n =
    at_put IssuedGrows s.session_at session _ issued_same
    ((λ e. refl), ([], sym (append-nil (issued_of (s.session_at session)) ∙ none_of (s.session_at session) may.fresh))) n
  where
    none_of : (o : Option Session) → is_some o ≡ false → issued_of o ≡ []
    none_of None e = refl
    none_of (Some x) e = absurd (cc (e))

-- the rows on holds: the order and the sessions as they were

-- a hold that is there is over where it is gone
there_over : (v : Locks) (h : Hold) → h.gone ≡ false → OverOf v h
there_over v h there = ((λ g. absurd (both_ways h.gone g there)), λ n g. absurd (both_ways h.gone g there))

pub granted_marks : (s : Server) (app job at : ℕ) → MarkSteps s (granted s app job at)
granted_marks s app job at o k m = record {
  over = each_first (OverOf (locks s)) (is_sent_at (pair_session s app) job at) answered_hold
      (λ h p _. there_over (locks s) (answered_hold h)
      (sent_facts h (and_parts (is_sent h) (is_of (pair_session s app) job h && h.at == at) p).0).2) s.holds m.over;
  turns = fewer s.holds (granted s app job at).holds s.quits s.quits s.turns
      (λ n. omega (arith, ap (times n) (turns_first (is_sent_at (pair_session s app) job at) answered_hold (λ h. refl) s.holds))) m.turns;
  rise = m.rise;
}

pub give_marks : (s : Server) (app job : ℕ) (mode : Mode) (key : List ℕ) → MarkSteps s (gives_up s app job mode key)
give_marks s app job mode key o k m = record {
  over = each_last (OverOf (locks s)) (is_kept (pair_session s app) job mode key) (given_up (given_now s (pair_session s app)))
      (λ h p _. there_over (locks s) (given_up (given_now s (pair_session s app)) h) (facts h p).1) s.holds m.over;
  turns = one_more s.holds (gives_up s app job mode key).holds s.quits s.quits s.turns
      (λ n. low n (list_any (is_kept (pair_session s app) job mode key) s.holds)
      (give_last n (is_kept (pair_session s app) job mode key) (given_now s (pair_session s app)) (λ h p. (facts h p).0) s.holds)) m.turns;
  rise = rise_up s.quits s.turns (s.turns + 1) (omega arith) m.rise;
}
  where
    facts : (h : Hold) → is_kept (pair_session s app) job mode key h ≡ true → (is_some h.given ≡ false) × (h.gone ≡ false)
    facts h p =
        let a = and_parts (h.answered && not (is_some h.given)) (not h.gone && (is_of (pair_session s app) job h && is_lock mode key h)) p in
        let b = and_parts h.answered (not (is_some h.given)) a.0 in
        let c = and_parts (not h.gone) (is_of (pair_session s app) job h && is_lock mode key h) a.1 in
        (not-true (is_some h.given) b.1, not-true h.gone c.0)

    low : (n : ℕ) (b : Bool) → in_holds n (gives_up s app job mode key).holds ≡ in_holds n s.holds + cond b (bit (eqb s.turns n)) 0
        → in_holds n (gives_up s app job mode key).holds + in_quits n s.quits ≤ in_holds n s.holds + in_quits n s.quits + bit (eqb s.turns n)
    low n true e = omega (arith, e)
    low n false e = omega (arith, e)

pub quit_marks : (s : Server) (app job : ℕ) (mode : Mode) (key : List ℕ) → MarkSteps s (quits s app job mode key)
quit_marks s app job mode key o k m = record {
  over = each_first (OverOf (locks s)) (is_asked (pair_session s app) job mode key) (given_up (given_now s (pair_session s app)))
      (λ h p _. there_over (locks s) (given_up (given_now s (pair_session s app)) h) (facts h p).2) s.holds m.over;
  turns = one_more s.holds (quits s app job mode key).holds s.quits (quits s app job mode key).quits s.turns
      (λ n. low n (list_any (is_asked (pair_session s app) job mode key) s.holds)
      (give_first n (is_asked (pair_session s app) job mode key) (given_now s (pair_session s app)) (λ h p. (facts h p).1) s.holds)) m.turns;
  rise = rise (list_any (is_asked (pair_session s app) job mode key) s.holds);
}
  where
    facts : (h : Hold) → is_asked (pair_session s app) job mode key h ≡ true → (h.answered ≡ false) × (is_some h.given ≡ false) × (h.gone ≡ false)
    facts h p = sent_facts h (and_parts (is_sent h) (is_of (pair_session s app) job h && is_lock mode key h) p).0

    new : Quitted
    new = record { session = pair_session s app; job = job; mode = mode; key = key; given = given_now s (pair_session s app) }

    rise : (b : Bool) → QuitsRise (if b then s.quits else s.quits ++ new ∷ []) (s.turns + 1)
    rise true = rise_up s.quits s.turns (s.turns + 1) (omega arith) m.rise
    rise false = rise_push s.quits new m.rise

    low : (n : ℕ) (b : Bool) → in_holds n (quits s app job mode key).holds ≡ in_holds n s.holds + cond b (bit (eqb s.turns n)) 0
        → in_holds n (quits s app job mode key).holds + in_quits n (if b then s.quits else s.quits ++ new ∷ [])
        ≤ in_holds n s.holds + in_quits n s.quits + bit (eqb s.turns n)
    low n true e = omega (arith, e)
    low n false e = omega (arith, e, quits_push n s.quits new)

pub release_marks : (s : Server) (session : ℕ) → MarkSteps s (releases s session)
release_marks s session o k m = record {
  over = each_map (OverOf (locks s)) (OverOf (locks s)) (released_hold session) (λ h x. x) s.holds m.over;
  turns = fewer s.holds (releases s session).holds s.quits (releases s session).quits s.turns
      (λ n. omega (arith, ap (times n) (turns_map (released_hold session) (λ h. refl) s.holds), quits_filter n stays s.quits)) m.turns;
  rise = rise_filter stays s.quits s.turns m.rise;
}
  where
    stays : Quitted → Bool
    stays q = not (q.session == session)

pub free_marks : (s : Server) (session job : ℕ) (mode : Mode) (key : List ℕ) → FreeMay s session job mode key → MarkSteps s (frees s session job mode key)
free_marks s session job mode key may o k m = record {
  over = each_map (OverOf (locks s)) (OverOf (locks s)) (freed_hold (first_given s session job mode key) session job mode key)
      (λ h x. (
        given_freed (first_given s session job mode key) session job mode key h x.0,
        over_freed s.order s.synced s.due s.session_at (first_given s session job mode key) session job mode key h may.entered x.1,
      )) s.holds m.over;
  turns = fewer s.holds (frees s session job mode key).holds s.quits (frees s session job mode key).quits s.turns
      (λ n. omega (
        arith,
        ap (times n) (turns_map (freed_hold (first_given s session job mode key) session job mode key) (λ h. refl) s.holds),
        quits_filter n stays s.quits,
      )) m.turns;
  rise = rise_filter stays s.quits s.turns m.rise;
}
  where
    stays : Quitted → Bool
    stays q = not (is_same_given (given_quit session job mode key q) (first_given s session job mode key))

pub grant_marks : (s : Server) (session job : ℕ) (mode : Mode) (key : List ℕ) (at : ℕ) → MarkSteps s (grants s session job mode key at)
grant_marks s session job mode key at o k m = record {
  over = each_push (OverOf (locks s)) s.holds new m.over (there_over (locks s) new refl);
  turns = fewer s.holds (grants s session job mode key at).holds s.quits (grants s session job mode key at).quits s.turns
      (λ n. omega (arith, in_holds-push n s.holds new, quits_taken n (is_quit session job mode key) s.quits)) m.turns;
  rise = rise_drop (is_quit session job mode key) s.quits s.turns m.rise;
}
  where
    new : Hold
    new = new_hold session job mode key at (first_quit (is_quit session job mode key) s.quits)

no_quits : (n : ℕ) → in_quits n [] ≡ 0
no_quits n = refl

pub back_marks : (s : Server) → BackMay s → MarkSteps s (came_back s)
back_marks s may o k m = record {
  over = each_map_with (HoldOf (locks s)) (OverOf (locks s)) (OverOf (locks (came_back s))) (hold_after_back s.order)
      (λ h x y. (given_back s.order h y.0, over h x y.0)) s.holds k.holds m.over;
  turns = fewer s.holds (came_back s).holds s.quits [] s.turns
      (λ n. omega (arith, no_quits n, ap (times n) (turns_map (hold_after_back s.order) (λ h. refl) s.holds))) m.turns;
  rise = tt;
}
  where
    over : (h : Hold) → HoldOf (locks s) h → GivenWhereGone h → OverWhereGone s.order s.synced None s.session_at (hold_after_back s.order h)
    over h x given =
        over_back s.order s.synced s.due s.session_at h (order_in_order (facet s) o) may.closes
        (λ n met. any_take (is_open n) s.synced s.order (k.opened n met))
        (λ n l. eqb-true (count s.order n) (length (issued_in s n)) (live_has s.order _ n may.counted l)) x given

pub crash_marks : (clock round : ℕ) (s : Server) (kept : ℕ) → CrashMay s kept → MarkSteps s (crashed clock round s kept)
crash_marks clock round s kept may o k m = record {
  over = each_map_with (HoldOf (locks s)) (OverOf (locks s)) (OverOf (locks (crashed clock round s kept))) (hold_after_crash (take kept s.order) kept)
      (λ h x y. (
        given_crash (take kept s.order) kept h y.0,
        over_crash s.order s.synced s.due (due_of (take kept s.order) clock round) s.session_at kept (Epoch (last_epoch (take kept s.order) + 1)) h
            may.no_less may.within k.opened (λ e n. none_live (take kept s.order) clock round e n) x,
      )) s.holds k.holds m.over;
  turns = fewer s.holds (crashed clock round s kept).holds s.quits [] s.turns
      (λ n. omega (arith, no_quits n, ap (times n) (turns_map (hold_after_crash (take kept s.order) kept) (λ h. refl) s.holds))) m.turns;
  rise = tt;
}

pub opened_marks : (clock round : ℕ) (s : Server) (entries : List Entry) → OpenedMay s entries → MarkSteps s (opened_with clock round s entries)
opened_marks clock round s entries may o k m = record {
  over = subst (Each (OverOf (locks (opened_with clock round s entries)))) (sym (k.fresh may.fresh)) tt;
  turns = m.turns;
  rise = m.rise;
}
