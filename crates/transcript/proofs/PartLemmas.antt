-- The forms of subscripts.
use Rattle.std.proofs.Common.{◌≡◌, ℕ, ◌+◌, ◌<◌, ◌≤◌, List, [], ◌∷◌, ◌++◌, length, ap, inl, inr, arith, length-append}
use Rattle.std.proofs.lemmas.List.{length-map}
use Rattle.std.specs.List.{AllByRecursion}
use Rattle.subscript_keys.specs.declared.sub.Sub.{Sub}
use Rattle.subscript_keys.specs.declared.sub.Sub.TheVariants.{Num, Text}
use Rattle.subscript_keys.specs.declared.node.Node.{Node}
use Rattle.subscript_keys.specs.Decimal.{sign_text, digit_text, fraction_text, IsNumberText}
use Rattle.subscript_keys.specs.Key.{HasForm, IsSub, IsNode}

-- a subscript of a node has its form
pub sub_form : (s : Sub) → IsSub s → HasForm s
sub_form (Num d) is = is
sub_form (Text t) is = is.no_number

subs-forms : (subs : List Sub) → AllByRecursion IsSub subs → AllByRecursion HasForm subs
subs-forms [] all = tt
subs-forms (s ∷ subs) all = (sub_form s all.0, subs-forms subs all.1)

-- the subscripts of a node have their forms
pub node_has_forms : (node : Node) → IsNode node → AllByRecursion HasForm node.subs
node_has_forms node is = subs-forms node.subs is.subs

-- and so has one subscript more
pub forms_more : (subs : List Sub) (s : Sub) → AllByRecursion HasForm subs → HasForm s → AllByRecursion HasForm (subs ++ s ∷ [])
forms_more [] s all is = (is, tt)
forms_more (t ∷ subs) s all is = (all.0, forms_more subs s all.1 is)

fraction-length : (ds : List ℕ) → length ds ≤ length (fraction_text ds)
fraction-length [] = omega arith
fraction-length (d ∷ ds) = omega (arith, length-map ds (λ n. n + 48))

-- the empty text is no canonical number
pub empty_is_no_number : IsNumberText [] → ⊥
empty_is_no_number (inl e) = absurd (omega (arith, ap length e))
empty_is_no_number (inr (negative, whole, fraction, are, e)) =
    let long : 0 ≡ length ((sign_text negative ++ digit_text whole) ++ fraction_text fraction) = ap length e in
    let some : 0 < length whole + length fraction = are.some in
    absurd (omega (arith, long, some, length-append (sign_text negative ++ digit_text whole) (fraction_text fraction), length-append (sign_text negative) (digit_text whole), length-map whole (λ d. d + 48), fraction-length fraction))
