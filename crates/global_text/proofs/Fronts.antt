-- What stands in front stays there.
use Rattle.std.proofs.Common.{◌≡◌, ℕ, List, ◌++◌, length, take, drop, sym, ap, ◌∙◌, append_assoc}
use Rattle.std.proofs.Math.Seq.{take-append_seam}
use Rattle.std.proofs.lemmas.List.{take-append-drop}
use Rattle.subscript_keys.specs.Decimal.{BeginsWith}

joined : (whole front : List ℕ) → BeginsWith whole front → whole ≡ front ++ drop (length front) whole
joined whole front e = sym (take-append-drop (length front) whole) ∙ ap (λ x. x ++ drop (length front) whole) e

-- one front after another
pub front_trans : (a b c : List ℕ) → BeginsWith b a → BeginsWith c b → BeginsWith c a
front_trans a b c p q =
    let whole : c ≡ a ++ (drop (length a) b ++ drop (length b) c) = joined c b q ∙ ap (λ x. x ++ drop (length b) c) (joined b a p) ∙ append_assoc a (drop (length a) b) (drop (length b) c) in
    ap (λ x. take (length a) x) whole ∙ take-append_seam a (drop (length a) b ++ drop (length b) c)

-- more at the end
pub front_longer : (a b more : List ℕ) → b ≡ a ++ more → BeginsWith b a
front_longer a b more e = ap (λ x. take (length a) x) e ∙ take-append_seam a more
