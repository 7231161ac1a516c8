-- Which images of a disk in memory its calls allow.
use Rattle.std.proofs.Common.{◌≡◌, ◌⊎◌, inl, inr, ⊎_elim, ℕ, ◌+◌, ◌-◌, ◌<◌, ◌≤◌, min, max, List, [], ◌∷◌, ◌++◌, get_or, length, take, drop, refl, ap, sym, ◌∙◌, subst, arith, length-append, length-drop}
use Rattle.std.proofs.lemmas.List.{length-take, get_or-take, get_or-drop, get_or_append_left, get_or-append_right, get_or_past}
use Rattle.std.proofs.Math.ListN.{drop_of_length-le}
use Rattle.std.proofs.Math.Seq.{take-append_seam, drop-append_seam, drop-append-add}
use Rattle.std.proofs.lemmas.Bool.{cases_lt}
use Rattle.std.proofs.lemmas.Grind.{same_number_lists}
use Rattle.outer_disk.specs.Disk.{written, Torn, Cut}
use Rattle.outer_disk.specs.Calls.{bytes_after, AreWithin, LeavesAfter, LeavesFrom, MayLeave}
use Rattle.outer_disk.specs.declared.disk_call.DiskCall.{DiskCall}
use Rattle.outer_disk.specs.declared.disk_call.DiskCall.TheVariants.{Write, Cut as CutTo, Sync}

-- in front of the place the bytes are those of c
low : (c rest : List ℕ) (at p : ℕ) → at ≤ length c → p < at → get_or (take at c ++ rest) p 0 ≡ get_or c p 0
low c rest at p le lt = get_or_append_left (take at c) rest 0 p (omega (arith, length-take at c)) ∙ get_or-take at c p 0 lt

-- from the place on they are those of the rest
high : (c rest : List ℕ) (at p : ℕ) → at ≤ length c → at ≤ p → get_or (take at c ++ rest) p 0 ≡ get_or rest (p - at) 0
high c rest at p le from = get_or-append_right (take at c) rest at p 0 (omega (arith, length-take at c)) from

-- behind a middle of n bytes they are those of c
behind : (c mid : List ℕ) (at n p : ℕ) → at ≤ length c → length mid ≡ n → at + n ≤ p → get_or (take at c ++ (mid ++ drop (at + n) c)) p 0 ≡ get_or c p 0
behind c mid at n p le long from =
    let last : get_or c (at + n + (p - at - n)) 0 ≡ get_or c p 0 = subst (λ q. get_or c q 0 ≡ get_or c p 0) (omega arith) refl in
    high c (mid ++ drop (at + n) c) at p le (omega arith)
    ∙ get_or-append_right mid (drop (at + n) c) n (p - at) 0 long (omega arith)
    ∙ get_or-drop (at + n) c (p - at - n) 0
    ∙ last

-- the bytes of c, with those of s in a range
abbrev pub within : List ℕ → List ℕ → ℕ → ℕ → List ℕ
within c s at n = take at c ++ (take n (drop at s) ++ drop (at + n) c)

length-middle : (s : List ℕ) (at n : ℕ) → at ≤ length s → length (take n (drop at s)) ≡ min n (length s - at)
length-middle s at n le = length-take n (drop at s) ∙ ap (λ m. min n m) (length-drop at s)

-- as long as s, where c is as long as s with n bytes written over it
length-within : (c s : List ℕ) (at n : ℕ) → at ≤ length s → length c ≡ max (length s) (at + n) → length (within c s at n) ≡ length s
length-within c s at n le long =
    omega (arith, length-append (take at c) (take n (drop at s) ++ drop (at + n) c), length-append (take n (drop at s)) (drop (at + n) c), length-take at c, length-middle s at n le, length-drop (at + n) c)

-- in the range they are those of s
middle : (c s : List ℕ) (at n p : ℕ) → at ≤ length s → length c ≡ max (length s) (at + n) → at ≤ p → p < at + n → get_or (within c s at n) p 0 ≡ get_or s p 0
middle c s at n p le long from to = ⊎_elim here past (cases_lt p (length s))
  where
    here : p < length s → get_or (within c s at n) p 0 ≡ get_or s p 0
    here lt =
        let last : get_or s (at + (p - at)) 0 ≡ get_or s p 0 = subst (λ q. get_or s q 0 ≡ get_or s p 0) (omega arith) refl in
        high c (take n (drop at s) ++ drop (at + n) c) at p (omega arith) from
        ∙ get_or_append_left (take n (drop at s)) (drop (at + n) c) 0 (p - at) (omega (arith, length-middle s at n le))
        ∙ get_or-take n (drop at s) (p - at) 0 (omega arith)
        ∙ get_or-drop at s (p - at) 0
        ∙ last

    past : length s ≤ p → get_or (within c s at n) p 0 ≡ get_or s p 0
    past le' = get_or_past (within c s at n) p 0 (omega (arith, length-within c s at n le long)) ∙ sym (get_or_past s p 0 le')

-- behind it they are those of c, where s goes on there
above : (c s : List ℕ) (at n p : ℕ) → at ≤ length s → length c ≡ max (length s) (at + n) → at + n ≤ p → (get_or c p 0 ≡ get_or s p 0) → get_or (within c s at n) p 0 ≡ get_or s p 0
above c s at n p le long from same = ⊎_elim here past (cases_lt p (length s))
  where
    here : p < length s → get_or (within c s at n) p 0 ≡ get_or s p 0
    here lt = behind c (take n (drop at s)) at n p (omega arith) (omega (arith, length-middle s at n le)) from ∙ same

    past : length s ≤ p → get_or (within c s at n) p 0 ≡ get_or s p 0
    past le' = get_or_past (within c s at n) p 0 (omega (arith, length-within c s at n le long)) ∙ sym (get_or_past s p 0 le')

take-within : (c s : List ℕ) (at n : ℕ) → at ≤ length c → take at (within c s at n) ≡ take at c
take-within c s at n le =
    let front : length (take at c) ≡ at = omega (arith, length-take at c) in
    subst (λ m. take m (within c s at n) ≡ take at c) front (take-append_seam (take at c) (take n (drop at s) ++ drop (at + n) c))

drop-within : (c s : List ℕ) (at n : ℕ) → at ≤ length s → length c ≡ max (length s) (at + n) → drop (at + n) (within c s at n) ≡ drop (at + n) c
drop-within c s at n le long = ⊎_elim short enough (cases_lt (length s) (at + n))
  where
    short : length s < at + n → drop (at + n) (within c s at n) ≡ drop (at + n) c
    short lt =
        drop_of_length-le (within c s at n) {i = at + n} (omega (arith, length-within c s at n le long))
        ∙ sym (drop_of_length-le c {i = at + n} (omega arith))

    enough : at + n ≤ length s → drop (at + n) (within c s at n) ≡ drop (at + n) c
    enough le' =
        let front : length (take at c) ≡ at = omega (arith, length-take at c) in
        let mid : length (take n (drop at s)) ≡ n = omega (arith, length-middle s at n le) in
        let rest = take n (drop at s) ++ drop (at + n) c in
        let first : drop (at + n) (take at c ++ rest) ≡ drop n rest = subst (λ m. drop (m + n) (take at c ++ rest) ≡ drop n rest) front (drop-append-add (take at c) rest n) in
        let second : drop n rest ≡ drop (at + n) c = subst (λ m. drop m rest ≡ drop (at + n) c) mid (drop-append_seam (take n (drop at s)) (drop (at + n) c)) in
        first ∙ second

-- a place in a range of n bytes
abbrev pub InRange : ℕ → ℕ → ℕ → Type 0
InRange at n p = (at ≤ p) × (p < at + n)

-- c is as long as s, and agrees with it at each place that has no mark
pub record Agrees (mark : ℕ → Type 0) (s c : List ℕ) : Type 0 where
  pub long : length c ≡ length s
  pub each : (p : ℕ) → (mark p → ⊥) → get_or c p 0 ≡ get_or s p 0

-- a place has a mark after calls, where it had one before
abbrev pub Marked : (ℕ → Type 0) → List DiskCall → ℕ → Type 0
Marked mark [] p = mark p
Marked mark (Write at part ∷ calls) p = Marked (λ q. mark q ⊎ InRange at (length part) q) calls p
Marked mark (CutTo to ∷ calls) p = Marked mark calls p
Marked mark (Sync ∷ calls) p = Marked (λ q. ⊥) calls p

length-written : (s part : List ℕ) (at : ℕ) → at ≤ length s → length (written s at part) ≡ max (length s) (at + length part)
length-written s part at le =
    omega (arith, length-append (take at s) (part ++ drop (at + length part) s), length-append part (drop (at + length part) s), length-take at s, length-drop (at + length part) s)

-- outside of its range a write keeps the bytes
kept : (s part : List ℕ) (at p : ℕ) → at ≤ length s → (p < at) ⊎ (at + length part ≤ p) → get_or (written s at part) p 0 ≡ get_or s p 0
kept s part at p le (inl front) = low s (part ++ drop (at + length part) s) at p le front
kept s part at p le (inr back) = behind s part at (length part) p le refl back

-- an image of the bytes after a write comes from one of those before it
write_step : (s part : List ℕ) (at : ℕ) (mark : ℕ → Type 0) (c : List ℕ) → at ≤ length s → Agrees (λ q. mark q ⊎ InRange at (length part) q) (written s at part) c
    → Agrees mark s (within c s at (length part)) × Torn at (length part) (within c s at (length part)) c
write_step s part at mark c le agrees = (record { long = length-within c s at n le long; each = each }, torn)
  where
    n : ℕ
    n = length part

    long : length c ≡ max (length s) (at + n)
    long = agrees.long ∙ length-written s part at le

    outside : (p : ℕ) → (mark p → ⊥) → (p < at) ⊎ (at + n ≤ p) → get_or c p 0 ≡ get_or s p 0
    outside p free side = agrees.each p (⊎_elim free (out side)) ∙ kept s part at p le side
      where
        out : (p < at) ⊎ (at + n ≤ p) → InRange at n p → ⊥
        out (inl front) range = omega (arith, range.0, range.1)
        out (inr back) range = omega (arith, range.0, range.1)

    each : (p : ℕ) → (mark p → ⊥) → get_or (within c s at n) p 0 ≡ get_or s p 0
    each p free = ⊎_elim
        (λ front. low c (take n (drop at s) ++ drop (at + n) c) at p (omega (arith, long)) front ∙ outside p free (inl front))
        (λ from. ⊎_elim (λ to. middle c s at n p le long from to) (λ back. above c s at n p le long back (outside p free (inr back))) (cases_lt p (at + n)))
        (cases_lt p at)

    torn : Torn at n (within c s at n) c
    torn = record {
      before = sym (take-within c s at n (omega (arith, long)));
      after = sym (drop-within c s at n le long);
      no_shorter = omega (arith, length-within c s at n le long, long);
      no_longer = omega (arith, length-within c s at n le long, long);
    }

-- an image of the bytes after a cut comes from one of those before it
cut_step : (s : List ℕ) (to : ℕ) (mark : ℕ → Type 0) (c : List ℕ) → to ≤ length s → Agrees mark (take to s) c
    → Agrees mark s (c ++ drop to s) × Cut to (c ++ drop to s) c
cut_step s to mark c le agrees = (record { long = all; each = each }, record { no_shorter = omega (arith, all, long); front = take-append_seam c (drop to s) })
  where
    long : length c ≡ to
    long = omega (arith, agrees.long, length-take to s)

    all : length (c ++ drop to s) ≡ length s
    all = omega (arith, length-append c (drop to s), length-drop to s, long)

    each : (p : ℕ) → (mark p → ⊥) → get_or (c ++ drop to s) p 0 ≡ get_or s p 0
    each p free = ⊎_elim
        (λ front. get_or_append_left c (drop to s) 0 p (omega (arith, long)) ∙ agrees.each p free ∙ get_or-take to s p 0 front)
        (λ from.
        let last : get_or s (to + (p - to)) 0 ≡ get_or s p 0 = subst (λ q. get_or s q 0 ≡ get_or s p 0) (omega arith) refl in
        get_or-append_right c (drop to s) to p 0 long from ∙ get_or-drop to s (p - to) 0 ∙ last)
        (cases_lt p to)

-- with no mark there is one image
pub one_image : (s c : List ℕ) → Agrees (λ q. ⊥) s c → c ≡ s
one_image s c agrees = same_number_lists c s agrees.long (λ p lt. agrees.each p (λ h. h))

-- each image that agrees where no unsynced write came is left by some crash
pub leaves_image : (s : List ℕ) (old : List ℕ → Type 0) (mark : ℕ → Type 0) (calls : List DiskCall) (c : List ℕ) → AreWithin s calls
    → ((d : List ℕ) → Agrees mark s d → old d) → Agrees (Marked mark calls) (bytes_after s calls) c → LeavesFrom s old calls c
leaves_image s old mark [] c fit here agrees = here c agrees
leaves_image s old mark (Write at part ∷ calls) c fit here agrees =
    leaves_image (written s at part) (LeavesAfter s old (Write at part)) (λ q. mark q ⊎ InRange at (length part) q) calls c fit.1
    (λ d is. let step = write_step s part at mark d fit.0 is in (within d s at (length part), here (within d s at (length part)) step.0, step.1))
    agrees
leaves_image s old mark (CutTo to ∷ calls) c fit here agrees =
    leaves_image (take to s) (LeavesAfter s old (CutTo to)) mark calls c fit.1
    (λ d is. let step = cut_step s to mark d fit.0 is in (d ++ drop to s, here (d ++ drop to s) step.0, step.1))
    agrees
leaves_image s old mark (Sync ∷ calls) c fit here agrees =
    leaves_image s (LeavesAfter s old Sync) (λ q. ⊥) calls c fit.1 (one_image s) agrees

-- what a read gives is left by some crash
pub leaves_held : (first : List ℕ) (calls : List DiskCall) → AreWithin first calls → MayLeave first calls (bytes_after first calls)
leaves_held first calls fit =
    leaves_image first (λ d. d ≡ first) (λ q. ⊥) calls (bytes_after first calls) fit (one_image first) (record { long = refl; each = λ p free. refl })
