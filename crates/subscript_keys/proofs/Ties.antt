-- Equal bytes come from one number, one subscript, one node.
use Rattle.std.proofs.Common.{◌≡◌, ℕ, ◌<◌, Bool, true, false, List, [], ◌∷◌, ◌++◌, refl, sym, ap, ◌∙◌, inl, inr, arith, ℤ, pos, negsuc, neg_ℤ, append_assoc}
use Rattle.std.specs.Prelude.{if◌then◌else◌}
use Rattle.std.specs.List.{AllByRecursion}
use Rattle.std.specs.Ordering.{nat_cmp, ordering_then}
use Rattle.std.specs.Cmp.{ranked, int_ranked}
use Rattle.std.specs.Cmp.Lexicographic.{slice_cmp}
use Rattle.std.specs.declared.cmp.Ordering.{Ordering}
use Rattle.std.specs.declared.cmp.Ordering.TheVariants.{Less, Equal, Greater}
use Rattle.std.specs.Int.Digits.{number_from_digits}
use Rattle.std.proofs.lemmas.Int.{ints}
use Rattle.std.proofs.lemmas.List.{append-nil}
use Rattle.subscript_keys.specs.declared.decimal.Decimal.{Decimal}
use Rattle.subscript_keys.specs.declared.sub.Sub.{Sub}
use Rattle.subscript_keys.specs.declared.sub.Sub.TheVariants.{Num, Text}
use Rattle.subscript_keys.specs.declared.node.Node.{Node}
use Rattle.subscript_keys.specs.Decimal.{digits, plus, IsShort, IsDecimal, scaled, scaled_size}
use Rattle.subscript_keys.specs.Key.{sub_bytes, subs_bytes, key_of, IsName, IsSub, IsNode}
use Rattle.subscript_keys.specs.NodeOrder.{sub_cmp}
use Rattle.subscript_keys.proofs.Orders.{nat_cmp-eq, cmp-ended}
use Rattle.subscript_keys.proofs.Fractions.{filled, IsFraction, fraction-cmp, digits-number}
use Rattle.subscript_keys.proofs.NumberForms.{short-fraction, short-size, filled-above, zero-null}
use Rattle.subscript_keys.proofs.KeyOrders.{sub-cmp, sub-tag, name-above}

-- both parts of a comparison that finds nothing
pub then-equal : (a b : Ordering) → ordering_then a b ≡ Equal → (a ≡ Equal) × (b ≡ Equal)
then-equal Less b e = (e, cc)
then-equal Equal b e = (refl, e)
then-equal Greater b e = (e, cc)

pub same_numbers : (m n : ℕ) → nat_cmp m n ≡ Equal → m ≡ n
same_numbers m n e = ranked m n Equal (sym e)

pub same_lists : (s t : List ℕ) → slice_cmp nat_cmp s t ≡ Equal → s ≡ t
same_lists [] [] e = refl
same_lists [] (d ∷ t) e = cc
same_lists (c ∷ s) [] e = cc
same_lists (c ∷ s) (d ∷ t) e =
    let parts = then-equal (nat_cmp c d) (slice_cmp nat_cmp s t) e in
    let first : c ≡ d = same_numbers c d parts.0 in
    let rest : s ≡ t = same_lists s t parts.1 in
    cc

pub itself : (s : List ℕ) → slice_cmp nat_cmp s s ≡ Equal
itself [] = refl
itself (c ∷ s) = ap (λ o. ordering_then o (slice_cmp nat_cmp s s)) (nat_cmp-eq c c refl) ∙ itself s

pub same-decimal : (a b : Decimal) → a.negative ≡ b.negative → a.exponent ≡ b.exponent → a.digits ≡ b.digits → a ≡ b
same-decimal a b e f g =
    ap (λ (v : Bool). let d : Decimal = record { negative = v; exponent = a.exponent; digits = a.digits } in d) e
    ∙ ap (λ (v : ℤ). let d : Decimal = record { negative = b.negative; exponent = v; digits = a.digits } in d) f
    ∙ ap (λ (v : ℕ). let d : Decimal = record { negative = b.negative; exponent = b.exponent; digits = v } in d) g

same-exponent : (x y : ℤ) → plus 18 x ≡ plus 18 y → 0 < plus 18 x → x ≡ y
same-exponent (pos x) (pos y) e h = let same : x ≡ y = omega arith in ap pos same
same-exponent (pos x) (negsuc y) e h = absurd (omega arith)
same-exponent (negsuc x) (pos y) e h = absurd (omega arith)
same-exponent (negsuc x) (negsuc y) e h = let same : x ≡ y = omega arith in ap negsuc same

pub fraction-wide : (w : ℕ) (ds : List ℕ) → IsFraction w ds → 0 < w
fraction-wide w [] p = absurd (omega (arith, p.first))
fraction-wide w (d ∷ ds) p = omega (arith, p.fits)

pub same-shorts : (a b : Decimal) → IsShort a → IsShort b → a.negative ≡ b.negative → scaled_size a ≡ scaled_size b → a ≡ b
same-shorts a b p q sign size =
    let fa = short-fraction a p in
    let fb = short-fraction b q in
    let v = plus 18 a.exponent in
    let w = plus 18 b.exponent in
    let sizes : filled v (digits a.digits) ≡ filled w (digits b.digits) = sym (short-size a p) ∙ size ∙ short-size b q in
    let parts = then-equal (nat_cmp v w) (slice_cmp nat_cmp (digits a.digits) (digits b.digits)) (sym (fraction-cmp v w (digits a.digits) (digits b.digits) fa fb) ∙ nat_cmp-eq _ _ sizes) in
    let places : digits a.digits ≡ digits b.digits = same_lists (digits a.digits) (digits b.digits) parts.1 in
    same-decimal a b sign (same-exponent a.exponent b.exponent (same_numbers v w parts.0) (fraction-wide v (digits a.digits) fa))
    (sym (digits-number a.digits) ∙ ap (number_from_digits 10) places ∙ digits-number b.digits)

pub short-size-above : (d : Decimal) → IsShort d → 0 < scaled_size d
short-size-above d s = rw (short-size d s) (filled-above (plus 18 d.exponent) (digits d.digits) (short-fraction d s))

signed : (d : Decimal) (negative : Bool) → d.negative ≡ negative → scaled d ≡ (if negative then neg_ℤ (pos (scaled_size d)) else pos (scaled_size d))
unfolding scaled
signed d negative e = ap (λ b. if b then neg_ℤ (pos (scaled_size d)) else pos (scaled_size d)) e

shorts-at : (a b : Decimal) (m n : Bool) → a.negative ≡ m → b.negative ≡ n → IsShort a → IsShort b → scaled a ≡ scaled b → a ≡ b
shorts-at a b true true e f p q h =
    let values : neg_ℤ (pos (scaled_size a)) ≡ neg_ℤ (pos (scaled_size b)) = sym (signed a true e) ∙ h ∙ signed b true f in
    same-shorts a b p q (e ∙ sym f) (omega (arith, ints))
shorts-at a b true false e f p q h =
    let values : neg_ℤ (pos (scaled_size a)) ≡ pos (scaled_size b) = sym (signed a true e) ∙ h ∙ signed b false f in
    absurd (omega (arith, ints, short-size-above a p))
shorts-at a b false true e f p q h =
    let values : pos (scaled_size a) ≡ neg_ℤ (pos (scaled_size b)) = sym (signed a false e) ∙ h ∙ signed b true f in
    absurd (omega (arith, ints, short-size-above b q))
shorts-at a b false false e f p q h =
    let values : pos (scaled_size a) ≡ pos (scaled_size b) = sym (signed a false e) ∙ h ∙ signed b false f in
    same-shorts a b p q (e ∙ sym f) (omega (arith, ints))

short-not-zero : (a : Decimal) (m : Bool) → a.negative ≡ m → IsShort a → scaled a ≡ pos 0 → ⊥
short-not-zero a true e p h = let value : neg_ℤ (pos (scaled_size a)) ≡ pos 0 = sym (signed a true e) ∙ h in absurd (omega (arith, ints, short-size-above a p))
short-not-zero a false e p h = let value : pos (scaled_size a) ≡ pos 0 = sym (signed a false e) ∙ h in absurd (omega (arith, ints, short-size-above a p))

-- numbers of one value are one number
pub same-number : (a b : Decimal) → IsDecimal a → IsDecimal b → scaled a ≡ scaled b → a ≡ b
same-number a b (inl p) (inl q) h = same-decimal a b (p.negative ∙ sym q.negative) (p.exponent ∙ sym q.exponent) (p.digits ∙ sym q.digits)
same-number a b (inl p) (inr q) h = absurd (short-not-zero b b.negative refl q (sym h ∙ (zero-null a p).value))
same-number a b (inr p) (inl q) h = absurd (short-not-zero a a.negative refl p (h ∙ (zero-null b q).value))
same-number a b (inr p) (inr q) h = shorts-at a b a.negative b.negative refl refl p q h

pub same-sub : (a b : Sub) → IsSub a → IsSub b → sub_cmp a b ≡ Equal → a ≡ b
same-sub (Num a) (Num b) p q e = ap Num (same-number a b p q (int_ranked (scaled a) (scaled b) Equal (sym e)))
same-sub (Num a) (Text t) p q e = cc
same-sub (Text s) (Num b) p q e = cc
same-sub (Text s) (Text t) p q e = ap Text (same_lists s t e)

-- bytes that begin with two subscripts begin with one
pub one-sub : (a b : Sub) (r q : List ℕ) → IsSub a → IsSub b → sub_bytes a ++ r ≡ sub_bytes b ++ q → (a ≡ b) × (r ≡ q)
one-sub a b r q p s e =
    let level : slice_cmp nat_cmp (sub_bytes a ++ r) (sub_bytes b ++ q) ≡ Equal = ap (slice_cmp nat_cmp (sub_bytes a ++ r)) (sym e) ∙ itself (sub_bytes a ++ r) in
    let parts = then-equal (sub_cmp a b) (slice_cmp nat_cmp r q) (sym (sub-cmp a b r q p s) ∙ level) in
    (same-sub a b p s parts.0, same_lists r q parts.1)

-- bytes of subscripts that begin with those of others are those of the others and more
pub more-subs : (ss ts : List Sub) (u : List ℕ) → AllByRecursion IsSub ss → AllByRecursion IsSub ts → subs_bytes ss ++ u ≡ subs_bytes ts → (more : List Sub) × (ts ≡ ss ++ more) × (u ≡ subs_bytes more) × AllByRecursion IsSub more
more-subs [] ts u p q e = (ts, refl, e, q)
more-subs (s ∷ ss) [] u p q e =
    let tag = sub-tag s p.0 in
    let begins : (tag.1 ++ subs_bytes ss) ++ u ≡ (tag.1 ++ subs_bytes ss) ++ u = refl in
    let whole : tag.0 ∷ ((tag.1 ++ subs_bytes ss) ++ u) ≡ [] = ap (λ b. (b ++ subs_bytes ss) ++ u) (sym tag.2) ∙ e in
    cc
more-subs (s ∷ ss) (t ∷ ts) u p q e =
    let parts = one-sub s t (subs_bytes ss ++ u) (subs_bytes ts) p.0 q.0 (sym (append_assoc (sub_bytes s) (subs_bytes ss) u) ∙ e) in
    let rest = more-subs ss ts u p.1 q.1 parts.1 in
    let first : t ≡ s = sym parts.0 in
    let others : ts ≡ ss ++ rest.0 = rest.1 in
    (rest.0, cc, rest.2, rest.3)

-- two names, each ended by 00
pub one-name : (a b r q : List ℕ) → IsName a → IsName b → a ++ 0 ∷ r ≡ b ++ 0 ∷ q → (a ≡ b) × (r ≡ q)
one-name a b r q p s e =
    let level : slice_cmp nat_cmp (a ++ 0 ∷ r) (b ++ 0 ∷ q) ≡ Equal = ap (slice_cmp nat_cmp (a ++ 0 ∷ r)) (sym e) ∙ itself (a ++ 0 ∷ r) in
    let parts = then-equal (slice_cmp nat_cmp a b) (slice_cmp nat_cmp r q) (sym (cmp-ended a b r q (name-above a p) (name-above b s)) ∙ level) in
    (same_lists a b parts.0, same_lists r q parts.1)

same-node : (a b : Node) → a.name ≡ b.name → a.subs ≡ b.subs → a ≡ b
same-node a b e f =
    ap (λ (v : List ℕ). let n : Node = record { name = v; subs = a.subs } in n) e
    ∙ ap (λ (v : List Sub). let n : Node = record { name = b.name; subs = v } in n) f

-- one key, one node
pub one-node : (a b : Node) → IsNode a → IsNode b → key_of a ≡ key_of b → a ≡ b
unfolding key_of
one-node a b p q e =
    let parts = one-name a.name b.name (subs_bytes a.subs) (subs_bytes b.subs) p.name q.name e in
    let more = more-subs a.subs b.subs [] p.subs q.subs (append-nil (subs_bytes a.subs) ∙ parts.1) in
    same-node a b parts.0 (sym (more.1 ∙ ap (λ m. a.subs ++ m) (none more.0 more.3 (sym more.2)) ∙ append-nil a.subs))
  where
    none : (ss : List Sub) → AllByRecursion IsSub ss → subs_bytes ss ≡ [] → ss ≡ []
    none [] p e = refl
    none (s ∷ ss) p e =
        let tag = sub-tag s p.0 in
        let whole : tag.0 ∷ (tag.1 ++ subs_bytes ss) ≡ [] = ap (λ b. b ++ subs_bytes ss) (sym tag.2) ∙ e in
        cc
