-- Lists that are left of others, in the same order.
use Rattle.std.proofs.Common.{◌≡◌, ◌⊎◌, inl, inr, Bool, true, false, cond, List, [], ◌∷◌, ◌++◌, filter, refl, sym, ◌∙◌, subst}
use Rattle.std.specs.Prelude.{⊤}
use Rattle.std.specs.List.{AllByRecursion}

-- what is left of the second list is the first
abbrev pub IsPart : {X : Type 0} → List X → List X → Type 0
IsPart [] ys = ⊤
IsPart (x ∷ xs) [] = ⊥
IsPart (x ∷ xs) (y ∷ ys) = ((x ≡ y) × IsPart xs ys) ⊎ IsPart (x ∷ xs) ys

pub part_more : {X : Type 0} (y : X) (xs ys : List X) → IsPart xs ys → IsPart xs (y ∷ ys)
part_more y [] ys is = tt
part_more y (x ∷ xs) ys is = inr is

pub part_same : {X : Type 0} (xs : List X) → IsPart xs xs
part_same [] = tt
part_same (x ∷ xs) = inl (refl, part_same xs)

-- a part of a part
pub part_then : {X : Type 0} (xs ys zs : List X) → IsPart xs ys → IsPart ys zs → IsPart xs zs
part_then [] ys zs a b = tt
part_then (x ∷ xs) [] zs a b = absurd a
part_then (x ∷ xs) (y ∷ ys) [] a b = absurd b
part_then (x ∷ xs) (y ∷ ys) (z ∷ zs) (inl a) (inl b) = inl (a.0 ∙ b.0, part_then xs ys zs a.1 b.1)
part_then (x ∷ xs) (y ∷ ys) (z ∷ zs) (inr a) (inl b) = inr (part_then (x ∷ xs) ys zs a b.1)
part_then (x ∷ xs) (y ∷ ys) (z ∷ zs) a (inr b) = inr (part_then (x ∷ xs) (y ∷ ys) zs a b)

-- what a filter leaves
pub part_left : {X : Type 0} (p : X → Bool) (xs : List X) → IsPart (filter p xs) xs
part_left p [] = tt
part_left p (x ∷ xs) = go (p x) (part_left p xs)
  where
    go : (b : Bool) → IsPart (filter p xs) xs → IsPart (cond b (x ∷ filter p xs) (filter p xs)) (x ∷ xs)
    go true more = inl (refl, more)
    go false more = part_more x (filter p xs) xs more

-- a filter of both
pub part_filtered : {X : Type 0} (p : X → Bool) (xs ys : List X) → IsPart xs ys → IsPart (filter p xs) (filter p ys)
part_filtered p [] ys is = tt
part_filtered p (x ∷ xs) [] is = absurd is
part_filtered p (x ∷ xs) (y ∷ ys) (inl is) = subst (λ z. IsPart (filter p (x ∷ xs)) (cond (p z) (z ∷ filter p ys) (filter p ys))) is.0 (go (p x) (part_filtered p xs ys is.1))
  where
    go : (b : Bool) → IsPart (filter p xs) (filter p ys) → IsPart (cond b (x ∷ filter p xs) (filter p xs)) (cond b (x ∷ filter p ys) (filter p ys))
    go true more = inl (refl, more)
    go false more = more
part_filtered p (x ∷ xs) (y ∷ ys) (inr is) = go (p y) (part_filtered p (x ∷ xs) ys is)
  where
    go : (b : Bool) → IsPart (filter p (x ∷ xs)) (filter p ys) → IsPart (filter p (x ∷ xs)) (cond b (y ∷ filter p ys) (filter p ys))
    go true more = part_more y (filter p (x ∷ xs)) (filter p ys) more
    go false more = more

-- what stands in front
pub part_front : {X : Type 0} (xs ys : List X) → IsPart xs (xs ++ ys)
part_front [] ys = tt
part_front (x ∷ xs) ys = inl (refl, part_front xs ys)

-- behind what stands in front of both
pub part_joined : {X : Type 0} (xs ys zs : List X) → IsPart ys zs → IsPart (xs ++ ys) (xs ++ zs)
part_joined [] ys zs is = is
part_joined (x ∷ xs) ys zs is = inl (refl, part_joined xs ys zs is)

-- what holds of all holds of a part
pub part_all : {X : Type 0} (P : X → Type 0) (xs ys : List X) → IsPart xs ys → AllByRecursion P ys → AllByRecursion P xs
part_all P [] ys is all = tt
part_all P (x ∷ xs) [] is all = absurd is
part_all P (x ∷ xs) (y ∷ ys) (inl is) all = (subst P (sym is.0) all.0, part_all P xs ys is.1 all.1)
part_all P (x ∷ xs) (y ∷ ys) (inr is) all = part_all P (x ∷ xs) ys is all.1
