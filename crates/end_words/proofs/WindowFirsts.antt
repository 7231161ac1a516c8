-- What a window sends again are messages that it was given, each with its first number.
use Rattle.std.proofs.Common.{zero, suc, ◌≡◌, ◌<◌, ◌⊎◌, ℕ, ◌+◌, ◌-◌, ◌≤◌, max, List, [], ◌∷◌, ◌++◌, drop, length, refl, sym, ap, subst, ◌∙◌, arith, rules, Bool, true, false, if◌then◌else◌, nat_lt, Some, inl, inr}
use Rattle.std.specs.List.{AllByRecursion}
use Rattle.std.specs.Prelude.{slice_get}
use Rattle.std.proofs.lemmas.Bool.{cases_lt}
use Rattle.std.proofs.lemmas.List.{drop-drop, length-drop, length-append, drop-append-le}
use Rattle.end_words.specs.Windows.{Window, sent, with_sent, with_ack, with_taken, numbered_from, resent}
use Rattle.end_words.specs.Laws.{WindowKeeps, StandsAt, SendsFirsts}

-- the first of what is left stands there
left_first : {M : Type 0} (n : ℕ) (ms : List M) (x : M) (xs : List M) → drop n ms ≡ x ∷ xs → (slice_get ms n ≡ Some x) × (drop (n + 1) ms ≡ xs)
left_first zero [] x xs e = absurd (cc (e))
left_first zero (m ∷ ms) x xs e = (cc (e), cc (e))
left_first (suc n) [] x xs e = absurd (cc (e))
left_first (suc n) (m ∷ ms) x xs e =
    let t = left_first n ms x xs e in
    let next : suc n + 1 ≡ suc (n + 1) = omega arith in
    (t.0, ap (λ k. drop k (m ∷ ms)) next ∙ t.1)

-- what is numbered from a place on stands in a list where that stands there
numbered_stands : {M : Type 0} (n : ℕ) (ms xs : List M) → drop n ms ≡ xs → AllByRecursion (StandsAt ms) (numbered_from n xs)
numbered_stands n ms [] e = tt
numbered_stands n ms (x ∷ xs) e =
    let t = left_first n ms x xs e in
    let back : n + 1 - 1 ≡ n = omega arith in
    (ap (slice_get ms) back ∙ t.0, numbered_stands (n + 1) ms xs t.1)

-- what is left of what is left
left_again : {M : Type 0} (a t : ℕ) (ms ws : List M) → ws ≡ drop a ms → drop (max t a) ms ≡ drop (t - a) ws
left_again a t ms ws e = go (cases_lt t a)
  where
    go : (t < a) ⊎ (a ≤ t) → drop (max t a) ms ≡ drop (t - a) ws
    go (inl low) =
        let same : max t a ≡ a = omega (arith, low) in
        let none : t - a ≡ 0 = omega (arith, low) in
        ap (λ k. drop k ms) same ∙ (sym e ∙ sym (ap (λ k. drop k ws) none))
    go (inr high) =
        let same : max t a ≡ a + (t - a) = omega (arith, high) in
        ap (λ k. drop k ms) same ∙ (sym (drop-drop (t - a) a ms) ∙ ap (drop (t - a)) (sym e))

-- how many are kept
kept_count : {M : Type 0} (ms : List M) (w : Window M) → WindowKeeps M ms w → sent w ≡ length ms
kept_count ms w h = omega (arith, ap length h.waiting, length-drop w.acked ms, h.within)

acked_keeps : {M : Type 0} (ms : List M) (w : Window M) (ack : ℕ) → ack ≤ sent w → WindowKeeps M ms w → WindowKeeps M ms (with_ack w ack)
acked_keeps ms w ack low h = record {
  within = omega (arith, low, kept_count ms w h, h.within);
  waiting = sym (swapped ∙ left_again w.acked ack ms w.waiting h.waiting);
}
  where
    swapped : drop (max w.acked ack) ms ≡ drop (max ack w.acked) ms
    swapped = let same : max w.acked ack ≡ max ack w.acked = omega arith in ap (λ k. drop k ms) same

pub sends_firsts : (M : Type 0) → SendsFirsts M
sends_firsts M = record {
  begins = record { within = omega arith; waiting = refl };
  sends = λ ms w m h. record {
    within = omega (arith, h.within, length-append ms (m ∷ []));
    waiting = ap (λ l. l ++ m ∷ []) h.waiting ∙ sym (drop-append-le w.acked ms (m ∷ []) h.within);
  };
  puts = λ ms w h. record { within = h.within; waiting = h.waiting };
  acks = λ ms w ack low h. acked_keeps ms w ack low h;
  takes = λ ms w ack low h. let k = acked_keeps ms w ack low h in record { within = k.within; waiting = k.waiting };
  counts = λ ms w h. kept_count ms w h;
  again = λ ms w taken h. by (nat_lt (sent w) taken) ms (max taken w.acked) (drop (taken - w.acked) w.waiting) (left_again w.acked taken ms w.waiting h.waiting);
}
  where
    by : (t : Bool) (ms : List M) (n : ℕ) (xs : List M) → drop n ms ≡ xs → AllByRecursion (StandsAt ms) (if t then [] else numbered_from n xs)
    by true ms n xs e = tt
    by false ms n xs e = numbered_stands n ms xs e
