-- Frames of a session that are sent again: they are the next messages with their numbers, and a Normal is among them only where one was put.
use Rattle.std.proofs.Common.{Bool, List, [], ap, arith, cond, drop, false, filter, if◌then◌else◌, length, map, max, not, refl, suc, sym, take, true, zero, ℕ}
use Rattle.std.proofs.Common.{◌&&◌, ◌++◌, ◌+◌, ◌-◌, ◌||◌, ◌∙◌, ◌∷◌, ◌≡◌, ◌≢◌, ◌≤◌}
use Rattle.std.proofs.lemmas.Bool.{and_parts, false≢true, lt-ltb, ltb-true, ne_eqb, or_parts, true≢false}
use Rattle.std.proofs.lemmas.List.{append-nil, drop-append-le, drop-drop, length-append, length-drop}
use Rattle.std.specs.List.{list_all, list_any}
use Rattle.std.specs.Prelude.{nat_lt}
use Rattle.cluster_invariant.specs.Link.{WindowIs, fits_down, is_normal_frame, is_numbered_down, is_of_session}
use Rattle.cluster_invariant.specs.Rounds.{LaneRound, awaits_normal}
use Rattle.cluster_invariant.specs.Words.{IsFront, is_normal_down, is_opened_in, numbered_behind, numbered_downs}
use Rattle.cluster_runs.specs.Sent.{Lane}
use Rattle.cluster_runs.specs.Written.{count_of}
use Rattle.ecp_messages.specs.declared.down.Down.{Down}
use Rattle.end_words.specs.Windows.{Window, numbered_from, resent, sent}
use Rattle.link_downs.proofs.NumberedPuts.{PutNext}
use Rattle.link_firsts.proofs.RecoverPuts.{again_frame}
use Rattle.plain_orders.specs.declared.entry.Entry.{Entry}
use Rattle.ecp_messages.specs.declared.down.Down.TheVariants as down

-- what has a number may have any
fits_next : (m : Down) (n : ℕ) → is_numbered_down m ≡ true → fits_down m (n + 1) ≡ true
fits_next (down.Welcome session epoch kept front taken) n is = is
fits_next (down.Reset session at) n is = is
fits_next (down.Block front block) n is = lt-ltb 0 (n + 1) (omega arith)
fits_next (down.Drop front lo hi) n is = lt-ltb 0 (n + 1) (omega arith)
fits_next (down.Ack front) n is = lt-ltb 0 (n + 1) (omega arith)
fits_next (down.Grant front ticket at) n is = lt-ltb 0 (n + 1) (omega arith)
fits_next (down.Answer front about job number at sum) n is = lt-ltb 0 (n + 1) (omega arith)
fits_next (down.Normal front) n is = lt-ltb 0 (n + 1) (omega arith)
fits_next down.Bare n is = absurd (false≢true is)

pub again_next : (n ack : ℕ) (ms : List Down) → list_all is_numbered_down ms ≡ true → PutNext n ack (map (again_frame ack) (numbered_from n ms)) ms
again_next n ack [] all = record { kinds = refl; numbers = refl; acks = tt }
again_next n ack (m ∷ ms) all = go (again_next (n + 1) ack ms (and_parts (is_numbered_down m) (list_all is_numbered_down ms) all).1)
  where
    some : n + 1 ≢ 0
    some same = absurd (omega (arith, same))

    go : PutNext (n + 1) ack (map (again_frame ack) (numbered_from (n + 1) ms)) ms → PutNext n ack (map (again_frame ack) (numbered_from n (m ∷ ms))) (m ∷ ms)
    go more = record {
      kinds =
          ap (λ (b : Bool). b && list_all is_of_session (map (again_frame ack) (numbered_from (n + 1) ms)))
          (fits_next m n (and_parts (is_numbered_down m) (list_all is_numbered_down ms) all).0) ∙ more.kinds;
      numbers =
          ap (λ (b : Bool). if b then numbered_downs (map (again_frame ack) (numbered_from (n + 1) ms)) else (n + 1, m) ∷ numbered_downs
          (map (again_frame ack) (numbered_from (n + 1) ms))) (ne_eqb (n + 1) 0 some)
          ∙ ap (λ (xs : List (ℕ × Down)). (n + 1, m) ∷ xs) more.numbers;
      acks = (omega arith, more.acks);
    }

pub again_calm : (n ack : ℕ) (ms : List Down) → list_any is_normal_frame (map (again_frame ack) (numbered_from n ms)) ≡ list_any is_normal_down ms
again_calm n ack [] = refl
again_calm n ack (m ∷ ms) = ap (λ (b : Bool). is_normal_down m || b) (again_calm (n + 1) ack ms)

-- of what a test finds once nothing is left behind the place where it was found
none_of : {X : Type 0} (p : X → Bool) (xs : List X) → count_of p xs ≡ 0 → list_any p xs ≡ false
none_of p [] none = refl
none_of p (x ∷ xs) none = go (p x) refl (none_of p xs)
  where
    go : (b : Bool) → p x ≡ b → (count_of p xs ≡ 0 → list_any p xs ≡ false) → (p x || list_any p xs) ≡ false
    go true is more = absurd (omega (arith, sym none ∙ ap (λ (b : Bool). length (cond b (x ∷ filter p xs) (filter p xs))) is))
    go false is more = ap (λ (b : Bool). b || list_any p xs) is ∙ more (sym (ap (λ (b : Bool). length (cond b (x ∷ filter p xs) (filter p xs))) is) ∙ none)

none_behind : {X : Type 0} (p : X → Bool) (n : ℕ) (xs : List X) → list_any p xs ≡ false → list_any p (drop n xs) ≡ false
none_behind p zero xs none = none
none_behind p (suc n) [] none = refl
none_behind p (suc n) (x ∷ xs) none = none_behind p n xs (or_parts (p x) (list_any p xs) none).1

once_behind : {X : Type 0} (p : X → Bool) (n : ℕ) (xs : List X) → count_of p xs ≤ 1 → list_any p (take n xs) ≡ true → list_any p (drop n xs) ≡ false
once_behind p zero xs once some = absurd (false≢true some)
once_behind p (suc n) [] once some = absurd (false≢true some)
once_behind p (suc n) (x ∷ xs) once some = go (p x) refl (once_behind p n xs)
  where
    count_is : (b : Bool) → p x ≡ b → count_of p (x ∷ xs) ≡ length (cond b (x ∷ filter p xs) (filter p xs))
    count_is b is = ap (λ (b : Bool). length (cond b (x ∷ filter p xs) (filter p xs))) is

    go : (b : Bool) → p x ≡ b → (count_of p xs ≤ 1 → list_any p (take n xs) ≡ true → list_any p (drop n xs) ≡ false) → list_any p (drop n xs) ≡ false
    go true is more = none_behind p n xs (none_of p xs (omega (arith, count_is true is, once)))
    go false is more = more (omega (arith, count_is false is, once)) (sym (ap (λ (b : Bool). b || list_any p (take n xs)) is) ∙ some)

-- where a Normal isn't awaited none is left
pub calm_behind : (es : List Entry) (s : ℕ) (lane : Lane) → LaneRound es s lane → awaits_normal es s lane ≡ false
    → list_any is_normal_down (drop lane.down_taken lane.down) ≡ false
calm_behind es s lane round none = go (is_opened_in es s) refl
  where
    told : (b : Bool) → not b ≡ false → b ≡ true
    told true is = refl
    told false is = absurd (true≢false is)

    go : (b : Bool) → is_opened_in es s ≡ b → list_any is_normal_down (drop lane.down_taken lane.down) ≡ false
    go true is = none_behind is_normal_down lane.down_taken lane.down (round.opened is)
    go false is =
        once_behind is_normal_down lane.down_taken lane.down round.once
        (told (list_any is_normal_down (take lane.down_taken lane.down))
        (sym (ap (λ (b : Bool). not b && not (list_any is_normal_down (take lane.down_taken lane.down))) is) ∙ none))

-- what a window sends again is what stands behind the messages that were taken
pub again_is : (w : Window Down) (put : List Down) (reached came : ℕ) → WindowIs w put reached came → reached ≤ length put
    → resent w reached ≡ numbered_behind reached put
again_is w put reached came is within =
    ap (λ (b : Bool). if b then [] else numbered_from (max reached w.acked) (drop (reached - w.acked) w.waiting)) not_less
    ∙ ap (λ (i : ℕ). numbered_from i (drop (reached - w.acked) w.waiting)) (omega (arith, is.acked))
    ∙ ap (λ (ms : List Down). numbered_from reached (drop (reached - w.acked) ms)) is.waiting
    ∙ ap (numbered_from reached) (drop-drop (reached - w.acked) w.acked put ∙ ap (λ (i : ℕ). drop i put) same)
  where
    same : w.acked + (reached - w.acked) ≡ reached
    same = omega (arith, is.acked)

    so_far : sent w ≡ length put
    so_far = ap (λ (ms : List Down). w.acked + length ms) is.waiting ∙ omega (arith, is.acked, within, length-drop w.acked put)

    not_less : nat_lt (sent w) reached ≡ false
    not_less = go (nat_lt (sent w) reached) refl
      where
        go : (b : Bool) → nat_lt (sent w) reached ≡ b → nat_lt (sent w) reached ≡ false
        go true less = absurd (omega (arith, ltb-true (sent w) reached less, so_far, within))
        go false less = less

-- a window that keeps what it kept was given nothing
pub given_none : (w u : Window Down) (put later : List Down) (a b c e : ℕ) → u.acked ≡ w.acked → u.waiting ≡ w.waiting → WindowIs w put a b
    → WindowIs u later c e → a ≤ length put → IsFront put later → later ≡ put
given_none w u put later a b c e acked waiting is now within front = front.1 ∙ ap (λ (ms : List Down). put ++ ms) (empty front.0 none) ∙ append-nil put
  where
    same : drop w.acked put ≡ drop w.acked put ++ front.0
    same =
        sym is.waiting ∙ sym waiting ∙ now.waiting ∙ ap (λ (i : ℕ). drop i later) acked ∙ ap (drop w.acked) front.1
        ∙ drop-append-le w.acked put front.0 (omega (arith, is.acked, within))

    none : length front.0 ≡ 0
    none = omega (arith, ap (λ (ms : List Down). length ms) same, length-append (drop w.acked put) front.0)

    empty : (ms : List Down) → length ms ≡ 0 → ms ≡ []
    empty [] at = refl
    empty (m ∷ ms) at = absurd (omega (arith, at))
