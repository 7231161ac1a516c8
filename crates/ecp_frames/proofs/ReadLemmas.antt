-- What is read of a stream depends on its bytes alone.
use Rattle.std.proofs.Common.{◌≡◌, ℕ, zero, suc, ◌+◌, ◌<◌, ◌≤◌, true, cond, leb, List, [], ◌∷◌, ◌++◌, length, take, drop, Option, Some, None, is_some, option_and_then, refl, sym, ◌∙◌, ap, subst, ⊎_elim, arith, append_assoc, length-append, length-drop}
use Rattle.std.proofs.lemmas.Bool.{cases_lt}
use Rattle.std.proofs.lemmas.Bool.Decides.{nat_tests}
use Rattle.std.proofs.lemmas.List.{append-nil, drop-append-le, take-append-le}
use Rattle.std.proofs.Math.ListN.{drop_of_length-le}
use Rattle.std.specs.Option.{option_map, option_map_or}
use Rattle.ecp_frames.specs.declared.frame_error.FrameError.{FrameError}
use Rattle.ecp_frames.specs.Stream.{length_ahead, refusal, whole_ahead, first_of_two, fault_in}
use Rattle.ecp_frames.specs.Reading.{Call, Feeds, Looks, Read, give, call, read_on, read, all_fed, frames_within, frames_in, SameAsWhole}
use Rattle.ecp_frames.proofs.StreamLemmas.{nothing_ahead, ahead_append, fault_step, fault_goes_on, fault_stays, IsWhole, whole_is}

none_whole : (bs : List ℕ) → length bs < 4 → whole_ahead bs ≡ None
none_whole bs h = rw (nothing_ahead bs h) refl

is_within : (m n : ℕ) → m ≤ n → leb m n ≡ true
is_within m n h = grind (arith, nat_tests)

-- a whole frame stays whole whatever follows
whole_append : (bs more : List ℕ) (n : ℕ) → IsWhole bs n → whole_ahead (bs ++ more) ≡ Some n
whole_append bs more n w =
    let within = w.within in
    let longer : 4 + n ≤ length (bs ++ more) = omega (arith, length-append bs more) in
    rw (ahead_append bs more n w.ahead) (rw (w.allowed, is_within (4 + n) (length (bs ++ more)) longer) refl)

step_frames : (t u : ℕ) (bs : List ℕ) → ((n : ℕ) → 4 + n ≤ length bs → frames_within t (drop (4 + n) bs) ≡ frames_within u (drop (4 + n) bs)) → frames_within (suc t) bs ≡ frames_within (suc u) bs
step_frames t u bs same = cases (whole_ahead bs) refl
  where
    cases : (o : Option ℕ) → whole_ahead bs ≡ o → option_map_or (λ f. f ∷ frames_within t (option_map_or (λ n. drop (4 + n) bs) o bs)) (option_map (λ n. take n (drop 4 bs)) o) [] ≡ option_map_or (λ f. f ∷ frames_within u (option_map_or (λ n. drop (4 + n) bs) o bs)) (option_map (λ n. take n (drop 4 bs)) o) []
    cases None is = refl
    cases (Some n) is = ap (λ (fs : List (List ℕ)). take n (drop 4 bs) ∷ fs) (same n (whole_is bs n is).within)

no_frames : (u : ℕ) (bs : List ℕ) → whole_ahead bs ≡ None → frames_within (suc u) bs ≡ []
no_frames u bs is = cases (whole_ahead bs) is
  where
    cases : (o : Option ℕ) → o ≡ None → option_map_or (λ f. f ∷ frames_within u (option_map_or (λ n. drop (4 + n) bs) o bs)) (option_map (λ n. take n (drop 4 bs)) o) [] ≡ []
    cases None is = refl
    cases (Some n) is = absurd (cc (is))

same_frames : (t u : ℕ) (bs : List ℕ) → length bs ≤ t → length bs ≤ u → frames_within t bs ≡ frames_within u bs
same_frames zero zero bs a b = refl
same_frames zero (suc u) bs a b = sym (no_frames u bs (none_whole bs (omega arith)))
same_frames (suc t) zero bs a b = no_frames t bs (none_whole bs (omega arith))
same_frames (suc t) (suc u) bs a b = step_frames t u bs (λ n long. same_frames t u (drop (4 + n) bs) (omega (arith, length-drop (4 + n) bs)) (omega (arith, length-drop (4 + n) bs)))

frames_none : (bs : List ℕ) → whole_ahead bs ≡ None → frames_in bs ≡ []
frames_none bs is = same_frames (length bs) (suc (length bs)) bs (omega arith) (omega arith) ∙ no_frames (length bs) bs is

frames_some : (bs : List ℕ) (n : ℕ) → whole_ahead bs ≡ Some n → frames_in bs ≡ take n (drop 4 bs) ∷ frames_in (drop (4 + n) bs)
frames_some bs n is =
    same_frames (length bs) (suc (length bs)) bs (omega arith) (omega arith) ∙ first (whole_ahead bs) is ∙ ap (λ (fs : List (List ℕ)). take n (drop 4 bs) ∷ fs) (same_frames (length bs) (length (drop (4 + n) bs)) (drop (4 + n) bs) (omega (arith, length-drop (4 + n) bs)) (omega arith))
  where
    first : (o : Option ℕ) → o ≡ Some n → option_map_or (λ f. f ∷ frames_within (length bs) (option_map_or (λ m. drop (4 + m) bs) o bs)) (option_map (λ m. take m (drop 4 bs)) o) [] ≡ take n (drop 4 bs) ∷ frames_within (length bs) (drop (4 + n) bs)
    first None was = absurd (cc (was))
    first (Some m) was = let same : m ≡ n = cc in subst (λ (k : ℕ). take m (drop 4 bs) ∷ frames_within (length bs) (drop (4 + m) bs) ≡ take k (drop 4 bs) ∷ frames_within (length bs) (drop (4 + k) bs)) same refl

-- a whole frame at the front is the first, whatever follows
frames_front : (bs more : List ℕ) (n : ℕ) → IsWhole bs n → frames_in (bs ++ more) ≡ take n (drop 4 bs) ∷ frames_in (drop (4 + n) bs ++ more)
frames_front bs more n w =
    let within = w.within in
    let head : drop 4 (bs ++ more) ≡ drop 4 bs ++ more = drop-append-le 4 bs more (omega arith) in
    let body : take n (drop 4 (bs ++ more)) ≡ take n (drop 4 bs) = ap (λ (xs : List ℕ). take n xs) head ∙ take-append-le n (drop 4 bs) more (omega (arith, length-drop 4 bs)) in
    let tail : drop (4 + n) (bs ++ more) ≡ drop (4 + n) bs ++ more = drop-append-le (4 + n) bs more within in
    frames_some (bs ++ more) n (whole_append bs more n w) ∙ ap (λ (f : List ℕ). f ∷ frames_in (drop (4 + n) (bs ++ more))) body ∙ ap (λ (xs : List ℕ). take n (drop 4 bs) ∷ frames_in xs) tail

refused_whole : (bs : List ℕ) (n : ℕ) (e : FrameError) → length_ahead bs ≡ Some n → refusal n ≡ Some e → whole_ahead bs ≡ None
refused_whole bs n e is bad = rw is (rw bad refl)

nothing_behind : (bs : List ℕ) (n : ℕ) (e : FrameError) → length bs < n → fault_in (drop n bs) ≡ Some e → ⊥
nothing_behind bs n e h was = differ (ap (λ (xs : List ℕ). fault_in xs) (sym (drop_of_length-le bs (omega arith))) ∙ was)
  where
    differ : fault_in [] ≡ Some e → ⊥
    differ d = cc

stay_step : (bs : List ℕ) (e : FrameError) (x y : List ℕ) → ((n : ℕ) → 4 + n ≤ length bs → fault_in (drop (4 + n) bs) ≡ Some e → frames_in (drop (4 + n) bs ++ x) ≡ frames_in (drop (4 + n) bs ++ y)) → fault_in bs ≡ Some e → frames_in (bs ++ x) ≡ frames_in (bs ++ y)
stay_step bs e x y rest is = cases (length_ahead bs) refl (sym (fault_step bs) ∙ is)
  where
    whole : (n : ℕ) → length_ahead bs ≡ Some n → refusal n ≡ None → fault_in (drop (4 + n) bs) ≡ Some e → 4 + n ≤ length bs → frames_in (bs ++ x) ≡ frames_in (bs ++ y)
    whole n ahead allowed was h =
        let w : IsWhole bs n = record { ahead = ahead; allowed = allowed; within = h } in
        frames_front bs x n w ∙ ap (λ (fs : List (List ℕ)). take n (drop 4 bs) ∷ fs) (rest n h was) ∙ sym (frames_front bs y n w)

    inner : (n : ℕ) → length_ahead bs ≡ Some n → (r : Option FrameError) → refusal n ≡ r → first_of_two r (fault_in (drop (4 + n) bs)) ≡ Some e → frames_in (bs ++ x) ≡ frames_in (bs ++ y)
    inner n ahead (Some bad) r was = frames_none (bs ++ x) (refused_whole (bs ++ x) n bad (ahead_append bs x n ahead) r) ∙ sym (frames_none (bs ++ y) (refused_whole (bs ++ y) n bad (ahead_append bs y n ahead) r))
    inner n ahead None r was = ⊎_elim (λ (h : length bs < 4 + n). absurd (nothing_behind bs (4 + n) e h was)) (λ (h : 4 + n ≤ length bs). whole n ahead r was h) (cases_lt (length bs) (4 + n))

    cases : (o : Option ℕ) → length_ahead bs ≡ o → option_and_then (λ n. first_of_two (refusal n) (fault_in (drop (4 + n) bs))) o ≡ Some e → frames_in (bs ++ x) ≡ frames_in (bs ++ y)
    cases None ahead was = absurd (cc (was))
    cases (Some n) ahead was = inner n ahead (refusal n) refl was

-- after a refused length nothing gives other frames
frames_stay : (t : ℕ) (bs : List ℕ) (e : FrameError) (x y : List ℕ) → length bs ≤ t → fault_in bs ≡ Some e → frames_in (bs ++ x) ≡ frames_in (bs ++ y)
frames_stay zero bs e x y le is = stay_step bs e x y (λ n h was. absurd (omega arith)) is
frames_stay (suc t) bs e x y le is = stay_step bs e x y (λ n h was. frames_stay t (drop (4 + n) bs) e x y (omega (arith, length-drop (4 + n) bs)) was) is

-- what was given and what is held stand for all the bytes fed so far, whatever follows
record Same (r : Read) (all : List ℕ) : Type 0 where
  frames : (more : List ℕ) → r.given ++ frames_in (r.held ++ more) ≡ frames_in (all ++ more)
  fault : (more : List ℕ) → fault_in (r.held ++ more) ≡ fault_in (all ++ more)

feed_same : (r : Read) (all piece : List ℕ) (f : Option FrameError) → fault_in r.held ≡ f → Same r all → Same (record r { held = cond (is_some f) r.held (r.held ++ piece) }) (all ++ piece)
feed_same r all piece None is same = record {
  frames = λ more. ap (λ (xs : List ℕ). r.given ++ frames_in xs) (append_assoc r.held piece more) ∙ same.frames (piece ++ more) ∙ ap (λ (xs : List ℕ). frames_in xs) (sym (append_assoc all piece more));
  fault = λ more. ap (λ (xs : List ℕ). fault_in xs) (append_assoc r.held piece more) ∙ same.fault (piece ++ more) ∙ ap (λ (xs : List ℕ). fault_in xs) (sym (append_assoc all piece more));
}
feed_same r all piece (Some e) is same = record {
  frames = λ more. ap (λ (fs : List (List ℕ)). r.given ++ fs) (frames_stay (length r.held) r.held e more (piece ++ more) (omega arith) is) ∙ same.frames (piece ++ more) ∙ ap (λ (xs : List ℕ). frames_in xs) (sym (append_assoc all piece more));
  fault = λ more. fault_stays r.held more e is ∙ sym (fault_stays r.held (piece ++ more) e is) ∙ same.fault (piece ++ more) ∙ ap (λ (xs : List ℕ). fault_in xs) (sym (append_assoc all piece more));
}

-- a look where that whole frame is first
abbrev give_at : Read → Option ℕ → Read
give_at r o = give r (option_map (λ n. take n (drop 4 r.held)) o) (option_map_or (λ n. drop (4 + n) r.held) o r.held)

look_same : (r : Read) (all : List ℕ) (o : Option ℕ) → whole_ahead r.held ≡ o → Same r all → Same (give_at r o) all
look_same r all None is same = same
look_same r all (Some n) is same =
    let w : IsWhole r.held n = whole_is r.held n is in
    record {
      frames = λ more. append_assoc r.given (take n (drop 4 r.held) ∷ []) (frames_in (drop (4 + n) r.held ++ more)) ∙ ap (λ (fs : List (List ℕ)). r.given ++ fs) (sym (frames_front r.held more n w)) ∙ same.frames more;
      fault = λ more. ap (λ (xs : List ℕ). fault_in xs) (sym (drop-append-le (4 + n) r.held more w.within)) ∙ sym (fault_goes_on (r.held ++ more) n (ahead_append r.held more n w.ahead) w.allowed) ∙ same.fault more;
    }

calls_same : (r : Read) (all : List ℕ) (calls : List Call) → Same r all → Same (read_on r calls) (all ++ all_fed calls)
calls_same r all [] same = subst (λ (xs : List ℕ). Same r xs) (sym (append-nil all)) same
calls_same r all (Feeds piece ∷ calls) same = subst (λ (xs : List ℕ). Same (read_on (call r (Feeds piece)) calls) xs) (append_assoc all piece (all_fed calls)) (calls_same (call r (Feeds piece)) (all ++ piece) calls (feed_same r all piece (fault_in r.held) refl same))
calls_same r all (Looks ∷ calls) same = calls_same (call r Looks) all calls (look_same r all (whole_ahead r.held) refl same)

-- frames and refusal are those of all the bytes together
pub same_as_whole : (calls : List Call) → SameAsWhole calls
same_as_whole calls =
    let same : Same (read calls) (all_fed calls) = calls_same (record { held = []; given = [] }) [] calls (record { frames = λ more. refl; fault = λ more. refl }) in
    record {
      frames = ap (λ (xs : List ℕ). (read calls).given ++ frames_in xs) (sym (append-nil (read calls).held)) ∙ same.frames [] ∙ ap (λ (xs : List ℕ). frames_in xs) (append-nil (all_fed calls));
      fault = ap (λ (xs : List ℕ). fault_in xs) (sym (append-nil (read calls).held)) ∙ same.fault [] ∙ ap (λ (xs : List ℕ). fault_in xs) (append-nil (all_fed calls));
    }
