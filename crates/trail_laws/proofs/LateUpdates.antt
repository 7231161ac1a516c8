-- No update of an old holder enters after a lock was taken over.
use Rattle.std.proofs.Common.{◌≡◌, ℕ, zero, suc, ◌≤◌, ◌<◌, ◌+◌, ◌-◌, List, [], ◌∷◌, ◌++◌, length, take, max, refl, subst, sym, ap, ◌∙◌, Bool, true, false, eqb, if◌then◌else◌, arith, append_assoc, length-append, ◌⊎◌, inl, inr, Option, Some, None, slice_get, ◌||◌, not, ◌==◌}
use Rattle.std.specs.Prelude.{is_some, IsSomeAnd}
use Rattle.std.specs.List.{list_any}
use Rattle.std.specs.Option.{option_map}
use Rattle.std.proofs.lemmas.Bool.{and_parts, cases_lt, eq-eqb, eqb-true}
use Rattle.std.proofs.lemmas.Option.{same_Some}
use Rattle.plain_orders.specs.declared.act.Act.{Act}
use Rattle.plain_orders.specs.declared.act.Act.TheVariants.{Enter, Grant}
use Rattle.plain_orders.specs.declared.entry.Entry.{Entry}
use Rattle.plain_orders.specs.declared.entry.Entry.TheVariants.{Epoch, Opened as OpenedEntry, Closed, Update, Commit, Rollback}
use Rattle.plain_orders.specs.declared.item.Item.{Item}
use Rattle.plain_orders.specs.declared.item.Item.TheVariants.{Op, Commit as CommitItem, Rollback as RollbackItem}
use Rattle.plain_orders.specs.declared.layout.Layout.{Layout}
use Rattle.plain_orders.specs.Entries.{closes, count, count_from, live, live_after, w_in}
use Rattle.plain_orders.specs.ItemEntries.{has_item, is_item_at, is_item_of, w_of}
use Rattle.plain_orders.specs.Ordered.{IsOrdered, MayFollow}
use Rattle.plain_orders.specs.Own.{Issued}
use Rattle.plain_orders.proofs.EntryLemmas.{live-push}
use Rattle.plain_orders.proofs.OrderLemmas.{ordered_induction}
use Rattle.plain_orders.proofs.PastLemmas.{ordered_past}
use Rattle.plain_orders.proofs.Places.{count_from_low}
use Rattle.plain_runs.specs.Plain.{Server, Hold, Given, current, issued_in, start}
use Rattle.plain_runs.specs.Items.{all_stand, entry_of, entry_of_item}
use Rattle.plain_runs.specs.OrderRows.{EnterMay, ItemMay}
use Rattle.plain_runs.specs.Run.{IsRun, RunFrom, after_all, state_after}
use Rattle.plain_runs.specs.Laws.{IsHold, server_after}
use Rattle.plain_runs.proofs.RunLemmas.{run_parts}
use Rattle.plain_runs.proofs.Lists.{both_ways, any_take}
use Rattle.plain_runs.proofs.Ordered.{each_is_ordered}
use Rattle.plain_runs.proofs.ToldItems.{last_nth}
use Rattle.trail_laws.specs.OrderLaw.{is_by}
use Rattle.trail_laws.specs.LockLaw.{HandedBefore, IsHandedOverIn, NoLateUpdate}
use Rattle.trail_laws.proofs.Durable.{later_order}
use Rattle.trail_laws.proofs.HoldGoes.{HoldGoes, stands, follow_at}
use Rattle.trail_laws.proofs.ServerGoes.{ServerGoes, grip, goes}
use Rattle.trail_laws.proofs.Handover.{Made, answered_stands, grant_front, handover, made}

-- in an ordered list a session that is closed isn't live
abbrev IsDead : ℕ → List Entry → Type 0
IsDead s es = list_any (closes s) es ≡ true → (live es s ≡ false) × (s ≤ length es)

any_pushed : (p : Entry → Bool) (es : List Entry) (e : Entry) → list_any p (es ++ e ∷ []) ≡ true → (list_any p es ≡ true) ⊎ (p e ≡ true)
any_pushed p [] e h = inr (one (p e) h)
  where
    one : (b : Bool) → (b || false) ≡ true → b ≡ true
    one true h = refl
    one false h = h
any_pushed p (x ∷ es) e h = go (p x) h (any_pushed p es e)
  where
    go : (b : Bool) → (b || list_any p (es ++ e ∷ [])) ≡ true → (list_any p (es ++ e ∷ []) ≡ true → (list_any p es ≡ true) ⊎ (p e ≡ true)) → ((b || list_any p es) ≡ true) ⊎ (p e ≡ true)
    go true h more = inl refl
    go false h more = more h

dead_push : (s : ℕ) (es : List Entry) (e : Entry) → IsOrdered es → IsDead s es → MayFollow es e → IsDead s (es ++ e ∷ [])
dead_push s es e o dead may h = go (any_pushed (closes s) es e h)
  where
    old : (e : Entry) → MayFollow es e → live es s ≡ false → s ≤ length es → live_after (live es s) e s ≡ false
    old (Epoch number) may d low = d
    old (OpenedEntry session app) may d low = one (eqb session s) refl
      where
        one : (b : Bool) → eqb session s ≡ b → (if b then true else live es s) ≡ false
        one true q = absurd (omega (arith, eqb-true session s q, may.is_position, low))
        one false q = d
    old (Closed session) may d low = one (eqb session s)
      where
        one : (b : Bool) → (if b then false else live es s) ≡ false
        one true = refl
        one false = d
    old (Update session w job txn op) may d low = d
    old (Commit session w job txn) may d low = d
    old (Rollback session w job txn) may d low = d

    reach : live es s ≡ true → (length es < s) ⊎ (s ≤ length es) → s ≤ length es
    reach on (inl late) = absurd (both_ways (live es s) on ((ordered_past es o).is_dead s late))
    reach on (inr low) = low

    new : (e : Entry) → MayFollow es e → closes s e ≡ true → (live_after (live es s) e s ≡ false) × (s ≤ length es)
    new (Epoch number) may h = absurd (cc (h))
    new (OpenedEntry session app) may h = absurd (cc (h))
    new (Closed session) may h =
        let same : session ≡ s = eqb-true session s h in
        (ap (λ (b : Bool). if b then false else live es s) h, reach (subst (λ n. live es n ≡ true) same may.is_live) (cases_lt (length es) s))
    new (Update session w job txn op) may h = absurd (cc (h))
    new (Commit session w job txn) may h = absurd (cc (h))
    new (Rollback session w job txn) may h = absurd (cc (h))

    longer : s ≤ length es → s ≤ length (es ++ e ∷ [])
    longer low = omega (arith, low, length-append es (e ∷ []))

    go : (list_any (closes s) es ≡ true) ⊎ (closes s e ≡ true) → (live (es ++ e ∷ []) s ≡ false) × (s ≤ length (es ++ e ∷ []))
    go (inl c) = let x = dead c in (live-push es e s ∙ old e may x.0 x.1, longer x.1)
    go (inr c) = let x = new e may c in (live-push es e s ∙ x.0, longer x.1)

closed_dead : (es : List Entry) (s : ℕ) → IsOrdered es → list_any (closes s) es ≡ true → live es s ≡ false
closed_dead es s o c = (ordered_induction (IsDead s) (λ h. absurd (cc (h))) (dead_push s) es o c).0

-- an item that stands is counted
counted : (k : ℕ) (es : List Entry) (s w : ℕ) → has_item es s w ≡ true → w ≤ count_from k es s
counted k [] s w h = absurd (cc (h))
counted k (x ∷ es) s w h = go (is_item_at s w x) refl h (counted (max k (w_in s x)) es s w)
  where
    its : (x : Entry) → is_item_at s w x ≡ true → w_in s x ≡ w
    its (Epoch number) e = absurd (cc (e))
    its (OpenedEntry session app) e = absurd (cc (e))
    its (Closed session) e = absurd (cc (e))
    its (Update session v job txn op) e = let p = and_parts (session == s) (v == w) e in ap (λ (b : Bool). if b then v else 0) p.0 ∙ eqb-true v w p.1
    its (Commit session v job txn) e = let p = and_parts (session == s) (v == w) e in ap (λ (b : Bool). if b then v else 0) p.0 ∙ eqb-true v w p.1
    its (Rollback session v job txn) e = let p = and_parts (session == s) (v == w) e in ap (λ (b : Bool). if b then v else 0) p.0 ∙ eqb-true v w p.1

    go : (b : Bool) → is_item_at s w x ≡ b → (b || has_item es s w) ≡ true → (has_item es s w ≡ true → w ≤ count_from (max k (w_in s x)) es s) → w ≤ count_from (max k (w_in s x)) es s
    go true e h more = omega (arith, its x e, count_from_low (max k (w_in s x)) es s)
    go false e h more = more h

-- of what a job issued, each stands where all do
stands_one : (es : List Entry) (s job k : ℕ) (is : List Issued) (i : ℕ) (x : Issued) → all_stand es s job k is ≡ true → slice_get is i ≡ Some x → x.job ≡ job → has_item es s (k + i + 1) ≡ true
stands_one es s job k [] i x all at mine = absurd (cc (at))
stands_one es s job k (y ∷ is) zero x all at mine =
    let p = and_parts (not (y.job == job) || has_item es s (k + 1)) (all_stand es s job (k + 1) is) all in
    let its : (y.job == job) ≡ true = eq-eqb y.job job (ap (λ (z : Issued). z.job) (same_Some y x at) ∙ mine) in
    let place : k + 1 ≡ k + 0 + 1 = omega arith in
    subst (λ n. has_item es s n ≡ true) place (subst (λ (b : Bool). (not b || has_item es s (k + 1)) ≡ true) its p.0)
stands_one es s job k (y ∷ is) (suc i) x all at mine =
    let p = and_parts (not (y.job == job) || has_item es s (k + 1)) (all_stand es s job (k + 1) is) all in
    let place : k + 1 + i + 1 ≡ k + suc i + 1 = omega arith in
    subst (λ n. has_item es s n ≡ true) place (stands_one es s job (k + 1) is i x p.1 at mine)

got_front : {X : Type 0} (n : ℕ) (xs : List X) (i : ℕ) → i < n → slice_get (take n xs) i ≡ slice_get xs i
got_front zero xs i low = absurd (omega (arith, low))
got_front (suc n) [] i low = refl
got_front (suc n) (x ∷ xs) zero low = refl
got_front (suc n) (x ∷ xs) (suc i) low = got_front n xs i (omega (arith, low))

got_more : {X : Type 0} (xs ys : List X) (i : ℕ) (x : X) → slice_get xs i ≡ Some x → slice_get (xs ++ ys) i ≡ Some x
got_more [] ys i x e = absurd (cc (e))
got_more (z ∷ xs) ys zero x e = e
got_more (z ∷ xs) ys (suc i) x e = got_more xs ys i x e

-- what an item that enters is
record Enters (s : Server) (n job : ℕ) (e : Entry) : Type 0 where
  is_live : live s.order n ≡ true
  next : w_of e ≡ count s.order n + 1
  item : (x : Issued) × ((slice_get (issued_in s n) (w_of e - 1) ≡ Some x) × (x.job ≡ job))

enters : (l : Layout) (clock : ℕ) (s : Server) (n job : ℕ) (e : Entry) → EnterMay l clock s e → is_item_of n e ≡ true → is_by job e ≡ true → Enters s n job e
enters l clock s n job e may its by = go e may its by
  where
    -- the job of an entry that an item becomes
    job_of : (m w : ℕ) (x : Issued) (f : Entry) → entry_of m w x ≡ f → is_by job f ≡ true → x.job ≡ job
    job_of m w x f same h = by_item x.item (subst (λ g. is_by job g ≡ true) (sym same) h)
      where
        by_item : (y : Item) → is_by job (entry_of_item m w x.job x.txn y) ≡ true → x.job ≡ job
        by_item (Op op) h = eqb-true x.job job h
        by_item (CommitItem k) h = eqb-true x.job job h
        by_item (RollbackItem k) h = eqb-true x.job job h

    found : (m w : ℕ) (f : Entry) (r : Option Issued) → slice_get (issued_in s m) (w - 1) ≡ r → option_map (entry_of m w) r ≡ Some f → is_by job f ≡ true → (x : Issued) × ((slice_get (issued_in s m) (w - 1) ≡ Some x) × (x.job ≡ job))
    found m w f None at e h = absurd (cc (e))
    found m w f (Some x) at e h = (x, (at, job_of m w x f (same_Some (entry_of m w x) f e) h))

    of_item : (session w : ℕ) (f : Entry) → w_of f ≡ w → ItemMay s session w f → session ≡ n → is_by job f ≡ true → Enters s n job f
    of_item session w f is m same h =
        subst (λ k. Enters s k job f) same
        (record {
          is_live = m.is_live;
          next = is ∙ m.next;
          item = subst (λ k. (x : Issued) × ((slice_get (issued_in s session) (k - 1) ≡ Some x) × (x.job ≡ job))) (sym is) (found session w f (slice_get (issued_in s session) (w - 1)) refl m.issued h);
        })

    go : (f : Entry) → EnterMay l clock s f → is_item_of n f ≡ true → is_by job f ≡ true → Enters s n job f
    go (Epoch number) m i b = absurd m
    go (OpenedEntry session app) m i b = absurd (cc (i))
    go (Closed session) m i b = absurd m
    go (Update session w j txn op) m i b = of_item session w (Update session w j txn op) refl m (eqb-true session n i) b
    go (Commit session w j txn) m i b = of_item session w (Commit session w j txn) refl m (eqb-true session n i) b
    go (Rollback session w j txn) m i b = of_item session w (Rollback session w j txn) refl m (eqb-true session n i) b

-- at the moment of the entry
late : (es : List Entry) (s t : Server) (k : Hold) (g : Given) (e : Entry) → ((p : Entry → Bool) → list_any p es ≡ true → list_any p s.order ≡ true) → IsOrdered s.order → ServerGoes (grip s) (grip t) → Enters s k.session k.job e → k.given ≡ Some g → IsHandedOverIn es t k → g.before < w_of e
late es s t k g e in_ o all ent is (inl c) = absurd (both_ways (live s.order k.session) ent.is_live (closed_dead s.order k.session o (in_ (closes k.session) c)))
late es s t k g e in_ o all ent is (inr some) = go (cases_lt g.before (w_of e))
  where
    stood : all_stand es k.session k.job 0 (take g.before (issued_in t k.session)) ≡ true
    stood = subst (λ (r : Option Given). IsSomeAnd r (λ (x : Given). all_stand es k.session k.job 0 (take x.before (issued_in t k.session)) ≡ true)) is some

    later : slice_get (issued_in t k.session) (w_of e - 1) ≡ Some ent.item.0
    later = ap (λ (xs : List Issued). slice_get xs (w_of e - 1)) (all.issued k.session).1.1 ∙ got_more (issued_in s k.session) (all.issued k.session).1.0 (w_of e - 1) ent.item.0 ent.item.1.0

    go : (g.before < w_of e) ⊎ (w_of e ≤ g.before) → g.before < w_of e
    go (inl high) = high
    go (inr low) =
        let one : has_item es k.session (0 + (w_of e - 1) + 1) ≡ true =
        stands_one es k.session k.job 0 (take g.before (issued_in t k.session)) (w_of e - 1) ent.item.0 stood (got_front g.before (issued_in t k.session) (w_of e - 1) (omega (arith, low, ent.next)) ∙ later) ent.item.1.1
        in
        absurd (omega (arith, ent.next, counted 0 s.order k.session (0 + (w_of e - 1) + 1) (in_ (is_item_at k.session (0 + (w_of e - 1) + 1)) one)))

pub no_late_update : NoLateUpdate
no_late_update l before middle later d session job mode key at i h k n g e run is opp now gave new ans its by =
    late s0.order s2 s3 k g e in_ (subst IsOrdered (last_nth s2.past s2.order) (each_is_ordered l (before ++ a ∷ middle) d (current s2) parts.0)) second (enters l (state_after l (before ++ a ∷ middle)).clock s2 k.session k.job e may its by) gave
    (subst (λ (as_ : List Act). IsHandedOverIn s0.order (server_after l as_ d) k) (sym all) over.handed)
  where
    a : Act
    a = Grant d session job mode key at

    b : Act
    b = Enter d e

    all : (before ++ a ∷ middle) ++ b ∷ later ≡ before ++ a ∷ (middle ++ b ∷ later)
    all = append_assoc before (a ∷ middle) (b ∷ later)

    s0 : Server
    s0 = server_after l before d

    s2 : Server
    s2 = server_after l (before ++ a ∷ middle) d

    s3 : Server
    s3 = server_after l ((before ++ a ∷ middle) ++ b ∷ later) d

    parts : RunFrom l start (before ++ a ∷ middle) × RunFrom l (after_all l start (before ++ a ∷ middle)) (b ∷ later)
    parts = run_parts l start (before ++ a ∷ middle) (b ∷ later) run

    may : EnterMay l (state_after l (before ++ a ∷ middle)).clock s2 e
    may = parts.1.0

    over : HandedBefore s0 (server_after l (before ++ a ∷ (middle ++ b ∷ later)) d) at h k
    over =
        handover l before (middle ++ b ∷ later) d session job mode key at i h k (subst (IsRun l) all run) is opp (subst (λ (as_ : List Act). IsHold (server_after l as_ d) i k) all now)
        (touched_by k.answered (ap is_some gave))
      where
        touched_by : (x : Bool) → is_some k.given ≡ true → (x || is_some k.given) ≡ true
        touched_by true h = refl
        touched_by false h = h

    second : ServerGoes (grip s2) (grip s3)
    second = goes l (before ++ a ∷ middle) (b ∷ later) d run

    mid : Made s0 s2 at
    mid = made l before middle d session job mode key at parts.0

    stood : stands mid.hold ≡ true
    stood = (follow_at (HoldGoes s2.past s2.order s3.past s3.order) s2.holds s3.holds (length s0.holds) mid.hold n second.holds mid.is new).stood (answered_stands n ans)

    front : take at s2.order ≡ s0.order
    front =
        ap (take at) (sym (last_nth s2.past s2.order))
        ∙ mid.keeps.stood stood (length s2.past) (later_order l before (a ∷ middle) d parts.0) (omega arith)
        ∙ grant_front l before middle d session job mode key at parts.0

    in_ : (p : Entry → Bool) → list_any p s0.order ≡ true → list_any p s2.order ≡ true
    in_ p c = any_take p at s2.order (subst (λ (es : List Entry). list_any p es ≡ true) (sym front) c)
