-- The pairs of a node's span are those at and below it, and the pair of its key alone is the one of that span.
use Rattle.std.proofs.Common.{◌≡◌, ◌∙◌, ℕ, Bool, true, false, not, cond, ◌&&◌, List, [], ◌∷◌, ◌++◌, refl, sym, ap, ap₂, subst}
use Rattle.std.specs.Ordering.{is_lt, is_gt, is_eq}
use Rattle.std.specs.BTreeMap.{is_at}
use Rattle.std.proofs.lemmas.Bool.{and_parts}
use Rattle.subscript_keys.specs.declared.span.Span.{Span}
use Rattle.subscript_keys.specs.Key.{IsKey}
use Rattle.subscript_keys.specs.Span.{span_lo, span_hi}
use Rattle.plain_orders.specs.PairMap.{Map, key_cmp, is_in, within, is_under, pairs_under, remove_under, remove, IsBeforeAll, IsRising}
use Rattle.plain_orders.specs.Spans.{node_span, killed_span}
use Rattle.plain_orders.proofs.Locality.{in_span}
use Rattle.plain_orders.proofs.NodeKeys.{under_in}
use Rattle.plain_orders.proofs.RisingLemmas.{before_behind}
use Rattle.plain_orders.proofs.Values.{its_key}
use Rattle.plain_programs.proofs.SpanLemmas.{end-apart}
use Rattle.span_index.proofs.KeyLemmas.{is_lt-is_gt, not_above_itself, not_true}
use Rattle.block_tree.specs.TreeWords.{without}
use Rattle.block_tree.proofs.CutLemmas.{behind_above, only_it}
use Rattle.folded_store.specs.Limits.{PairsFit}

not_both : (b : Bool) → (not b && b) ≡ false
not_both true = refl
not_both false = refl

-- a pair is in a node's span where its key begins with the node's
in_killed : (node : List ℕ) (p : List ℕ × List ℕ) → IsKey node → IsKey p.0 → is_in (killed_span node) p ≡ is_under node p.0
in_killed node p k l = go (is_under node p.0) refl
  where
    go : (b : Bool) → is_under node p.0 ≡ b → is_in (killed_span node) p ≡ b
    go true e = in_span (killed_span node) p (under_in node p.0 k l e)
    go false e =
        let apart : is_lt (key_cmp p.0 (node ++ 0xFF ∷ [])) ≡ is_gt (key_cmp node p.0) = ap is_lt (end-apart node p.0 e) ∙ is_lt-is_gt p.0 node in
        ap (λ b. not (is_gt (key_cmp node p.0)) && b) apart ∙ not_both (is_gt (key_cmp node p.0))

-- a span by its two ends
pub span_of : (span : Span) (node : List ℕ) → span.lo ≡ span_lo node → span.hi ≡ span_hi node → span ≡ killed_span node
span_of span node lo hi = ap₂ (λ (x y : List ℕ). let s : Span = record { lo = x; hi = y } in s) lo hi

-- so the pairs of the span are those of the node and its descendants
pub killed : (node : List ℕ) (m : Map) → IsKey node → PairsFit m → (within m (killed_span node) ≡ pairs_under m node) × (without m (killed_span node) ≡ remove_under m node)
killed node [] k h = (refl, refl)
killed node (p ∷ ps) k h =
    let same = in_killed node p k h.0.key_may.is_key in
    let r = killed node ps k h.1 in (
      ap (λ b. cond b (p ∷ within ps (killed_span node)) (within ps (killed_span node))) same ∙ ap (λ xs. cond (is_under node p.0) (p ∷ xs) xs) r.0,
      ap (λ b. cond (not b) (p ∷ without ps (killed_span node)) (without ps (killed_span node))) same ∙ ap (λ xs. cond (not (is_under node p.0)) (p ∷ xs) xs) r.1,
    )

-- a pair is in the span of a node alone where its key is the node's
in_node : (key : List ℕ) (p : List ℕ × List ℕ) → is_in (node_span key) p ≡ is_at (key_cmp key) p.0
in_node key p = go (is_at (key_cmp key) p.0) refl
  where
    here : not (is_gt (key_cmp key key)) && is_lt (key_cmp key (key ++ 0 ∷ [])) ≡ true
    here = ap (λ b. not b && is_lt (key_cmp key (key ++ 0 ∷ []))) (not_above_itself key) ∙ ap is_lt (behind_above key)

    there : is_at (key_cmp key) p.0 ≡ false → (b : Bool) → is_in (node_span key) p ≡ b → b ≡ false
    there e true f =
        let parts = and_parts (not (is_gt (key_cmp key p.0))) (is_lt (key_cmp p.0 (key ++ 0 ∷ []))) f in
        let found = only_it key p.0 (not_true (is_gt (key_cmp key p.0)) parts.0) parts.1 in
        absurd (cc (found, e))
    there e false f = refl

    go : (a : Bool) → is_at (key_cmp key) p.0 ≡ a → is_in (node_span key) p ≡ a
    go true e = ap (λ k. not (is_gt (key_cmp key k)) && is_lt (key_cmp k (key ++ 0 ∷ []))) (sym (its_key key p.0 e)) ∙ here
    go false e = there e (is_in (node_span key) p) refl

none_before : (key : List ℕ) (m : Map) → IsRising m → IsBeforeAll key m → without m (node_span key) ≡ m
none_before key [] r b = refl
none_before key (p ∷ ps) r b =
    let out : is_in (node_span key) p ≡ false = in_node key p ∙ ap is_eq b in
    ap (λ t. cond (not t) (p ∷ without ps (node_span key)) (without ps (node_span key))) out ∙ ap (λ xs. p ∷ xs) (none_before key ps r.1 (before_behind key p.0 ps b r.0))

-- without that span the pair of the key is removed
pub node_removed : (key : List ℕ) (m : Map) → IsRising m → without m (node_span key) ≡ remove m key
node_removed key [] r = refl
node_removed key (p ∷ ps) r =
    ap (λ t. cond (not t) (p ∷ without ps (node_span key)) (without ps (node_span key))) (in_node key p)
    ∙ go (is_at (key_cmp key) p.0) refl (node_removed key ps r.1)
  where
    go : (a : Bool) → is_at (key_cmp key) p.0 ≡ a → without ps (node_span key) ≡ remove ps key
        → cond (not a) (p ∷ without ps (node_span key)) (without ps (node_span key)) ≡ cond a ps (p ∷ remove ps key)
    go true e more = none_before key ps r.1 (subst (λ k. IsBeforeAll k ps) (sym (its_key key p.0 e)) r.0)
    go false e more = ap (λ xs. p ∷ xs) more
