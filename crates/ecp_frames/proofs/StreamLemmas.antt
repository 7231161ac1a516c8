-- How the first refused length of a stream is found, frame by frame.
use Rattle.std.proofs.Common.{◌≡◌, ◌≢◌, ℕ, zero, suc, ◌+◌, ◌-◌, ◌<◌, ◌≤◌, Bool, true, false, cond, ltb, leb, eqb, List, [], ◌∷◌, ◌++◌, length, take, drop, Option, Some, None, is_none, ◌&&◌, option_and_then, refl, sym, ◌∙◌, ap, subst, ⊎_elim, arith, length-append, length-drop}
use Rattle.std.proofs.lemmas.Bool.{cases_lt}
use Rattle.std.proofs.lemmas.Bool.Decides.{nat_tests}
use Rattle.std.proofs.lemmas.List.{append-nil, drop-append-le, drop-drop, take-append-le}
use Rattle.std.specs.Int.{w32, from_be_bytes}
use Rattle.ecp_frames.specs.declared.frame_error.FrameError.{FrameError}
use Rattle.ecp_frames.specs.declared.frame_error.FrameError.TheVariants.{TooLong, Empty, Memory}
use Rattle.ecp_frames.specs.Stream.{length_ahead, refusal, whole_ahead, first_of_two, fault_within, fault_in, IsBoundary}

is_short : (m : ℕ) → m < 4 → ltb m 4 ≡ true
is_short m h = grind (arith, nat_tests)

is_long : (m : ℕ) → 4 ≤ m → ltb m 4 ≡ false
is_long m h = grind (arith, nat_tests)

pub nothing_ahead : (bs : List ℕ) → length bs < 4 → length_ahead bs ≡ None
nothing_ahead bs h = rw (is_short (length bs) h) refl

pub ahead_is : (bs : List ℕ) → 4 ≤ length bs → length_ahead bs ≡ Some (from_be_bytes w32 (take 4 bs))
ahead_is bs h = rw (is_long (length bs) h) refl

-- a length that is there takes four bytes
pub ahead_long : (bs : List ℕ) (n : ℕ) → length_ahead bs ≡ Some n → 4 ≤ length bs
ahead_long bs n is = ⊎_elim (λ (h : length bs < 4). absurd (differ (sym (nothing_ahead bs h) ∙ is))) (λ (h : 4 ≤ length bs). h) (cases_lt (length bs) 4)
  where
    differ : let none : Option ℕ = None in none ≡ Some n → ⊥
    differ e = cc

-- more bytes leave the length that is there
pub ahead_append : (bs more : List ℕ) (n : ℕ) → length_ahead bs ≡ Some n → length_ahead (bs ++ more) ≡ Some n
ahead_append bs more n is =
    let long : 4 ≤ length bs = ahead_long bs n is in
    let longer : 4 ≤ length (bs ++ more) = omega (arith, length-append bs more) in
    ahead_is (bs ++ more) longer ∙ ap (λ (xs : List ℕ). Some (from_be_bytes w32 xs)) (take-append-le 4 bs more long) ∙ sym (ahead_is bs long) ∙ is

step_within : (t u : ℕ) (bs : List ℕ) → ((n : ℕ) → 4 ≤ length bs → fault_within t (drop (4 + n) bs) ≡ fault_within u (drop (4 + n) bs)) → fault_within (suc t) bs ≡ fault_within (suc u) bs
step_within t u bs same = cases (length_ahead bs) refl
  where
    cases : (o : Option ℕ) → length_ahead bs ≡ o → option_and_then (λ n. first_of_two (refusal n) (fault_within t (drop (4 + n) bs))) o ≡ option_and_then (λ n. first_of_two (refusal n) (fault_within u (drop (4 + n) bs))) o
    cases None is = refl
    cases (Some n) is = ap (λ (f : Option FrameError). first_of_two (refusal n) f) (same n (ahead_long bs n is))

nothing_within : (u : ℕ) (bs : List ℕ) → length bs ≤ 0 → fault_within (suc u) bs ≡ None
nothing_within u bs h = rw (nothing_ahead bs (omega arith)) refl

-- as many frames as there are bytes are enough
same_within : (t u : ℕ) (bs : List ℕ) → length bs ≤ t → length bs ≤ u → fault_within t bs ≡ fault_within u bs
same_within zero zero bs a b = refl
same_within zero (suc u) bs a b = sym (nothing_within u bs a)
same_within (suc t) zero bs a b = nothing_within t bs b
same_within (suc t) (suc u) bs a b = step_within t u bs (λ n long. same_within t u (drop (4 + n) bs) (omega (arith, length-drop (4 + n) bs)) (omega (arith, length-drop (4 + n) bs)))

-- the first refused length is the first one, or that behind an allowed frame
pub fault_step : (bs : List ℕ) → fault_in bs ≡ option_and_then (λ n. first_of_two (refusal n) (fault_in (drop (4 + n) bs))) (length_ahead bs)
fault_step bs = same_within (length bs) (suc (length bs)) bs (omega arith) (omega arith) ∙ cases (length_ahead bs) refl
  where
    cases : (o : Option ℕ) → length_ahead bs ≡ o → option_and_then (λ n. first_of_two (refusal n) (fault_within (length bs) (drop (4 + n) bs))) o ≡ option_and_then (λ n. first_of_two (refusal n) (fault_in (drop (4 + n) bs))) o
    cases None is = refl
    cases (Some n) is = ap (λ (f : Option FrameError). first_of_two (refusal n) f) (same_within (length bs) (length (drop (4 + n) bs)) (drop (4 + n) bs) (omega (arith, length-drop (4 + n) bs)) (omega arith))

pub fault_stops : (bs : List ℕ) → length_ahead bs ≡ None → fault_in bs ≡ None
fault_stops bs is = fault_step bs ∙ rw is refl

pub fault_here : (bs : List ℕ) (n : ℕ) (e : FrameError) → length_ahead bs ≡ Some n → refusal n ≡ Some e → fault_in bs ≡ Some e
fault_here bs n e is bad = fault_step bs ∙ rw is (rw bad refl)

pub fault_goes_on : (bs : List ℕ) (n : ℕ) → length_ahead bs ≡ Some n → refusal n ≡ None → fault_in bs ≡ fault_in (drop (4 + n) bs)
fault_goes_on bs n is good = fault_step bs ∙ rw is (rw good refl)

nothing_in : (t : ℕ) → fault_within t [] ≡ None
nothing_in zero = refl
nothing_in (suc t) = refl

stays_step : (t : ℕ) (bs more : List ℕ) (e : FrameError) → ((n : ℕ) → fault_within t (drop (4 + n) bs) ≡ Some e → fault_within t (drop (4 + n) (bs ++ more)) ≡ Some e) → fault_within (suc t) bs ≡ Some e → fault_within (suc t) (bs ++ more) ≡ Some e
stays_step t bs more e stays is = cases (length_ahead bs) refl is
  where
    behind : (n : ℕ) (r : Option FrameError) → first_of_two r (fault_within t (drop (4 + n) bs)) ≡ Some e → first_of_two r (fault_within t (drop (4 + n) (bs ++ more))) ≡ Some e
    behind n None was = stays n was
    behind n (Some fault) was = was

    cases : (o : Option ℕ) → length_ahead bs ≡ o → option_and_then (λ n. first_of_two (refusal n) (fault_within t (drop (4 + n) bs))) o ≡ Some e → fault_within (suc t) (bs ++ more) ≡ Some e
    cases None o was = absurd (cc (was))
    cases (Some n) o was = rw (ahead_append bs more n o) (behind n (refusal n) was)

drop_past : (n : ℕ) (bs : List ℕ) → length bs ≤ n → drop n bs ≡ []
drop_past zero [] le = refl
drop_past zero (b ∷ bs) le = absurd (omega arith)
drop_past (suc n) [] le = refl
drop_past (suc n) (b ∷ bs) le = drop_past n bs (omega arith)

nothing_past : (t : ℕ) (bs : List ℕ) (n : ℕ) (e : FrameError) → length bs < n → fault_within t (drop n bs) ≡ Some e → ⊥
nothing_past t bs n e h was = differ (sym (nothing_in t) ∙ ap (λ (xs : List ℕ). fault_within t xs) (sym (drop_past n bs (omega arith))) ∙ was)
  where
    differ : let none : Option FrameError = None in none ≡ Some e → ⊥
    differ d = cc

stays_behind : (t : ℕ) (bs more : List ℕ) (e : FrameError) (n : ℕ) → (fault_within t (drop n bs) ≡ Some e → fault_within t (drop n bs ++ more) ≡ Some e) → fault_within t (drop n bs) ≡ Some e → fault_within t (drop n (bs ++ more)) ≡ Some e
stays_behind t bs more e n stays was = ⊎_elim (λ (h : length bs < n). absurd (nothing_past t bs n e h was)) (λ (h : n ≤ length bs). rw (drop-append-le n bs more h) (stays was)) (cases_lt (length bs) n)

stays_within : (t : ℕ) (bs more : List ℕ) (e : FrameError) → fault_within t bs ≡ Some e → fault_within t (bs ++ more) ≡ Some e
stays_within zero bs more e is = absurd (cc (is))
stays_within (suc t) bs more e is = stays_step t bs more e (λ n. stays_behind t bs more e (4 + n) (stays_within t (drop (4 + n) bs) more e)) is

-- a refused length stays refused whatever follows
pub fault_stays : (bs more : List ℕ) (e : FrameError) → fault_in bs ≡ Some e → fault_in (bs ++ more) ≡ Some e
fault_stays bs more e is = stays_within (length (bs ++ more)) bs more e (same_within (length (bs ++ more)) (length bs) bs (omega (arith, length-append bs more)) (omega arith) ∙ is)

-- looking on behind one allowed frame
pub scan_more : (bytes : List ℕ) (from at n : ℕ) → at ≤ length bytes → length_ahead (drop at bytes) ≡ Some n → refusal n ≡ None → ((more : List ℕ) → fault_in (drop from (bytes ++ more)) ≡ fault_in (drop at (bytes ++ more))) → (more : List ℕ) → fault_in (drop from (bytes ++ more)) ≡ fault_in (drop (at + (4 + n)) (bytes ++ more))
scan_more bytes from at n within is good so_far more =
    let there : drop at (bytes ++ more) ≡ drop at bytes ++ more = drop-append-le at bytes more within in
    let ahead : length_ahead (drop at (bytes ++ more)) ≡ Some n = rw there (ahead_append (drop at bytes) more n is) in
    so_far more ∙ fault_goes_on (drop at (bytes ++ more)) n ahead good ∙ ap (λ (xs : List ℕ). fault_in xs) (drop-drop (4 + n) at (bytes ++ more))

-- what was looked at has the fault that stands at the place reached
pub scan_to : (bytes : List ℕ) (from at : ℕ) → ((more : List ℕ) → fault_in (drop from (bytes ++ more)) ≡ fault_in (drop at (bytes ++ more))) → fault_in (drop from bytes) ≡ fault_in (drop at bytes)
scan_to bytes from at so_far = ap (λ (xs : List ℕ). fault_in (drop from xs)) (sym (append-nil bytes)) ∙ so_far [] ∙ ap (λ (xs : List ℕ). fault_in (drop at xs)) (append-nil bytes)

pub scan_end : (bytes : List ℕ) (from at : ℕ) → ((more : List ℕ) → fault_in (drop from (bytes ++ more)) ≡ fault_in (drop at (bytes ++ more))) → length_ahead (drop at bytes) ≡ None → fault_in (drop from bytes) ≡ None
scan_end bytes from at so_far is = scan_to bytes from at so_far ∙ fault_stops (drop at bytes) is

pub scan_past : (bytes : List ℕ) (from at : ℕ) → ((more : List ℕ) → fault_in (drop from (bytes ++ more)) ≡ fault_in (drop at (bytes ++ more))) → length bytes ≤ at → fault_in (drop from bytes) ≡ None
scan_past bytes from at so_far past = scan_end bytes from at so_far (nothing_ahead (drop at bytes) (omega (arith, length-drop at bytes)))

pub scan_fault : (bytes : List ℕ) (from at n : ℕ) (e : FrameError) → ((more : List ℕ) → fault_in (drop from (bytes ++ more)) ≡ fault_in (drop at (bytes ++ more))) → length_ahead (drop at bytes) ≡ Some n → refusal n ≡ Some e → fault_in (drop from bytes) ≡ Some e
scan_fault bytes from at n e so_far is bad = scan_to bytes from at so_far ∙ fault_here (drop at bytes) n e is bad

-- a refused length is not a lack of memory
pub refusal_is : (n : ℕ) (e : FrameError) → refusal n ≡ Some e → e ≢ Memory
refusal_is n e is = empty (eqb n 0) is
  where
    long : (b : Bool) → cond b (Some (TooLong n)) None ≡ Some e → e ≡ Memory → ⊥
    long true was memory = cc
    long false was memory = cc

    empty : (b : Bool) → cond b (Some Empty) (cond (ltb 16384 n) (Some (TooLong n)) None) ≡ Some e → e ≡ Memory → ⊥
    empty true was memory = cc
    empty false was memory = long (ltb 16384 n) was memory

-- behind the first frame the lengths looked at stay looked at
pub boundary_behind : (held : List ℕ) (n checked : ℕ) → length_ahead held ≡ Some n → refusal n ≡ None → 4 + n ≤ length held → IsBoundary held checked → IsBoundary (drop (4 + n) held) (checked - (4 + n))
boundary_behind held n checked is good within boundary = λ more. ⊎_elim (λ (h : checked < 4 + n). rw (nothing_left h) refl) (passed more) (cases_lt checked (4 + n))
  where
    nothing_left : checked < 4 + n → checked - (4 + n) ≡ 0
    nothing_left h = omega arith

    passed : (more : List ℕ) → 4 + n ≤ checked → fault_in (drop (4 + n) held ++ more) ≡ fault_in (drop (checked - (4 + n)) (drop (4 + n) held ++ more))
    passed more h =
        let there : drop (4 + n) (held ++ more) ≡ drop (4 + n) held ++ more = drop-append-le (4 + n) held more within in
        let back : (4 + n) + (checked - (4 + n)) ≡ checked = omega arith in
        ap (λ (xs : List ℕ). fault_in xs) (sym there) ∙ sym (fault_goes_on (held ++ more) n (ahead_append held more n is) good) ∙ boundary more ∙ ap (λ (k : ℕ). fault_in (drop k (held ++ more))) (sym back) ∙ ap (λ (xs : List ℕ). fault_in xs) (sym (drop-drop (checked - (4 + n)) (4 + n) (held ++ more))) ∙ ap (λ (xs : List ℕ). fault_in (drop (checked - (4 + n)) xs)) there

-- a frame that is whole has an allowed length, and all its bytes are there
pub record IsWhole (bytes : List ℕ) (n : ℕ) : Type 0 where
  pub ahead : length_ahead bytes ≡ Some n
  pub allowed : refusal n ≡ None
  pub within : 4 + n ≤ length bytes

whole_at : (bytes : List ℕ) (n m : ℕ) → length_ahead bytes ≡ Some m → (r : Option FrameError) → refusal m ≡ r → (b : Bool) → leb (4 + m) (length bytes) ≡ b → cond (is_none r && b) (Some m) None ≡ Some n → IsWhole bytes n
whole_at bytes n m ahead None allowed true within is = let same : m ≡ n = cc in subst (λ (k : ℕ). IsWhole bytes k) same (record { ahead = ahead; allowed = allowed; within = grind (arith, nat_tests) })
whole_at bytes n m ahead None allowed false within is = absurd (cc (is))
whole_at bytes n m ahead (Some e) allowed b within is = absurd (cc (is))

pub whole_is : (bytes : List ℕ) (n : ℕ) → whole_ahead bytes ≡ Some n → IsWhole bytes n
whole_is bytes n is = cases (length_ahead bytes) refl is
  where
    cases : (o : Option ℕ) → length_ahead bytes ≡ o → option_and_then (λ m. cond (is_none (refusal m) && leb (4 + m) (length bytes)) (Some m) None) o ≡ Some n → IsWhole bytes n
    cases None ahead was = absurd (cc (was))
    cases (Some m) ahead was = whole_at bytes n m ahead (refusal m) refl (leb (4 + m) (length bytes)) refl was
