-- A block stands for one run.
use Rattle.std.proofs.Common.{◌≡◌, ◌≢◌, ℕ, ◌+◌, ◌<◌, ◌≤◌, List, [], ◌∷◌, ◌++◌, length, refl, sym, subst, ◌∙◌, ap, arith, append_assoc}
use Rattle.std.specs.List.{AllByRecursion}
use Rattle.std.proofs.lemmas.List.{append-nil, length-append}
use Rattle.subscript_keys.specs.declared.pair.Pair.{Pair}
use Rattle.subscript_keys.specs.declared.span.Span.{Span}
use Rattle.subscript_keys.specs.declared.run.Run.{Run}
use Rattle.field_bytes.specs.Fields.{u16_bytes, list_bytes, IsShortList, NoneAhead, IsPrefixFree}
use Rattle.field_bytes.proofs.PrefixFree.{list_prefix_free, u16_prefix_free, both_prefix_free, no_second}
use Rattle.block_bytes.specs.Blocks.{pair_bytes, pairs_bytes, span_bytes, block_bytes, HasShortLists, HasShortEnds, IsShortRun, IsBlockOf}
use Rattle.block_bytes.proofs.BlockLengths.{short_run}

pub span_prefix_free : IsPrefixFree span_bytes HasShortEnds
unfolding span_bytes
span_prefix_free x y r s p q e =
    let t = both_prefix_free list_bytes list_bytes IsShortList IsShortList list_prefix_free list_prefix_free x.lo y.lo x.hi y.hi r s p.0 q.0 p.1 q.1 e in
    (same t.0 t.1, t.2)
  where
    same : x.lo ≡ y.lo → x.hi ≡ y.hi → x ≡ y
    same lo hi = ap (λ (l : List ℕ). record x { lo = l }) lo ∙ ap (λ (h : List ℕ). record y { hi = h }) hi

pub pair_prefix_free : IsPrefixFree pair_bytes HasShortLists
unfolding pair_bytes
pair_prefix_free x y r s p q e =
    let t = both_prefix_free list_bytes list_bytes IsShortList IsShortList list_prefix_free list_prefix_free x.key y.key x.value y.value r s p.0 q.0 p.1 q.1 e in
    (same t.0 t.1, t.2)
  where
    same : x.key ≡ y.key → x.value ≡ y.value → x ≡ y
    same key value = ap (λ (k : List ℕ). record x { key = k }) key ∙ ap (λ (v : List ℕ). record y { value = v }) value

-- where no other end stands behind the first, no span is ahead
pub no_other_end : (bytes rest lo : List ℕ) → IsShortList lo → bytes ≡ list_bytes lo ++ rest → NoneAhead list_bytes IsShortList rest → NoneAhead span_bytes HasShortEnds bytes
unfolding span_bytes
no_other_end bytes rest lo p e none span r q f =
    no_second list_bytes list_bytes IsShortList IsShortList list_prefix_free bytes rest lo p e none span.lo span.hi r q.0 q.1 (f ∙ append_assoc (list_bytes span.lo) (list_bytes span.hi) r)

-- where no value stands behind the key, no pair is ahead
pub no_value : (bytes rest key : List ℕ) → IsShortList key → bytes ≡ list_bytes key ++ rest → NoneAhead list_bytes IsShortList rest → NoneAhead pair_bytes HasShortLists bytes
unfolding pair_bytes
no_value bytes rest key p e none pair r q f =
    no_second list_bytes list_bytes IsShortList IsShortList list_prefix_free bytes rest key p e none pair.key pair.value r q.0 q.1 (f ∙ append_assoc (list_bytes pair.key) (list_bytes pair.value) r)

pub pairs-push : (ps : List Pair) (p : Pair) → AllByRecursion HasShortLists ps → HasShortLists p → AllByRecursion HasShortLists (ps ++ p ∷ [])
pairs-push [] p a b = (b, tt)
pairs-push (q ∷ ps) p a b = (a.0, pairs-push ps p a.1 b)

pairs-joined : (ps : List Pair) (p : Pair) → pairs_bytes (ps ++ p ∷ []) ≡ pairs_bytes ps ++ pair_bytes p
pairs-joined [] p = append-nil (pair_bytes p)
pairs-joined (q ∷ ps) p = ap (λ x. pair_bytes q ++ x) (pairs-joined ps p) ∙ sym (append_assoc (pair_bytes q) (pairs_bytes ps) (pair_bytes p))

-- one pair more
pub pairs-turn : (ps : List Pair) (p : Pair) (bytes rest after : List ℕ) → bytes ≡ pairs_bytes ps ++ rest → rest ≡ pair_bytes p ++ after → bytes ≡ pairs_bytes (ps ++ p ∷ []) ++ after
pairs-turn ps p bytes rest after e k =
    e ∙ ap (λ x. pairs_bytes ps ++ x) k ∙ sym (append_assoc (pairs_bytes ps) (pair_bytes p) after) ∙ ap (λ x. x ++ after) (sym (pairs-joined ps p))

-- pairs that begin the bytes of others, which are no fewer, begin these others
pub record Begins (ps qs : List Pair) (rest : List ℕ) : Type 0 where
  pub more : List Pair
  pub whole : qs ≡ ps ++ more
  pub left : rest ≡ pairs_bytes more
  pub short : AllByRecursion HasShortLists more

pub begins : (ps qs : List Pair) (rest : List ℕ) → AllByRecursion HasShortLists ps → AllByRecursion HasShortLists qs → length ps ≤ length qs → pairs_bytes ps ++ rest ≡ pairs_bytes qs → Begins ps qs rest
begins [] qs rest p q h e = record { more = qs; whole = refl; left = e; short = q }
begins (x ∷ ps) [] rest p q h e = absurd (omega arith)
begins (x ∷ ps) (y ∷ qs) rest p q h e =
    let one = pair_prefix_free x y (pairs_bytes ps ++ rest) (pairs_bytes qs) p.0 q.0 (sym (append_assoc (pair_bytes x) (pairs_bytes ps) rest) ∙ e) in
    let t : Begins ps qs rest = begins ps qs rest p.1 q.1 (omega arith) one.1 in
    record {
      more = t.more;
      whole = ap (λ (l : List Pair). y ∷ l) t.whole ∙ ap (λ (z : Pair). z ∷ (ps ++ t.more)) (sym one.0);
      left = t.left;
      short = t.short;
    }

stopped : (ms : List Pair) (rest : List ℕ) → AllByRecursion HasShortLists ms → rest ≡ pairs_bytes ms → 0 < length ms → NoneAhead pair_bytes HasShortLists rest → ⊥
stopped [] rest p e h none = absurd (omega arith)
stopped (m ∷ ms) rest p e h none = none m (pairs_bytes ms) p.0 e

-- where no pair stands behind too few, the bytes are no such pairs
pub no_more_pairs : (ps : List Pair) (bytes rest : List ℕ) (count : ℕ) → AllByRecursion HasShortLists ps → bytes ≡ pairs_bytes ps ++ rest → length ps < count → NoneAhead pair_bytes HasShortLists rest → (qs : List Pair) → AllByRecursion HasShortLists qs → length qs ≡ count → bytes ≢ pairs_bytes qs
no_more_pairs ps bytes rest count p e h none qs q n f =
    let t : Begins ps qs rest = begins ps qs rest p q (omega arith) (sym e ∙ f) in
    let long : length qs ≡ length ps + length t.more = ap length t.whole ∙ length-append ps t.more in
    stopped t.more rest t.short t.left (omega (arith, long)) none

-- where bytes follow as many pairs, they are no such pairs
pub left_over : (ps : List Pair) (bytes rest : List ℕ) (count : ℕ) → AllByRecursion HasShortLists ps → bytes ≡ pairs_bytes ps ++ rest → length ps ≡ count → (length rest ≡ 0 → ⊥) → (qs : List Pair) → AllByRecursion HasShortLists qs → length qs ≡ count → bytes ≢ pairs_bytes qs
left_over ps bytes rest count p e h some qs q n f =
    let t : Begins ps qs rest = begins ps qs rest p q (omega arith) (sym e ∙ f) in
    let long : length qs ≡ length ps + length t.more = ap length t.whole ∙ length-append ps t.more in
    some (ap length t.left ∙ ap (λ l. length (pairs_bytes l)) (nothing t.more (omega (arith, long))))
  where
    nothing : (l : List Pair) → length l ≡ 0 → l ≡ []
    nothing [] k = refl
    nothing (x ∷ l) k = absurd (omega arith)

pub same_pairs : (ps qs : List Pair) → AllByRecursion HasShortLists ps → AllByRecursion HasShortLists qs → length ps ≡ length qs → pairs_bytes ps ≡ pairs_bytes qs → ps ≡ qs
same_pairs [] [] p q h e = refl
same_pairs [] (y ∷ qs) p q h e = absurd (omega arith)
same_pairs (x ∷ ps) [] p q h e = absurd (omega arith)
same_pairs (x ∷ ps) (y ∷ qs) p q h e =
    let one = pair_prefix_free x y (pairs_bytes ps) (pairs_bytes qs) p.0 q.0 e in
    ap (λ (z : Pair). z ∷ ps) one.0 ∙ ap (λ (l : List Pair). y ∷ l) (same_pairs ps qs p.1 q.1 (omega arith) one.1)

pub block-whole : (run : Run) → block_bytes run ≡ 1 ∷ (span_bytes run.span ++ (u16_bytes (length run.pairs) ++ pairs_bytes run.pairs))
unfolding block_bytes
block-whole run = refl

-- short runs of the same bytes are the same
pub same_runs : (a b : Run) → IsShortRun a → IsShortRun b → block_bytes a ≡ block_bytes b → a ≡ b
same_runs a b p q e =
    let tails : span_bytes a.span ++ (u16_bytes (length a.pairs) ++ pairs_bytes a.pairs) ≡ span_bytes b.span ++ (u16_bytes (length b.pairs) ++ pairs_bytes b.pairs) = cc (block-whole a, block-whole b) in
    let spans = span_prefix_free a.span b.span _ _ p.ends q.ends tails in
    let counts = u16_prefix_free (length a.pairs) (length b.pairs) _ _ p.few q.few spans.1 in
    same spans.0 (same_pairs a.pairs b.pairs p.pairs q.pairs counts.0 counts.1)
  where
    same : a.span ≡ b.span → a.pairs ≡ b.pairs → a ≡ b
    same span pairs = ap (λ (s : Span). record a { span = s }) span ∙ ap (λ (l : List Pair). record b { pairs = l }) pairs

pub one_run : (a b : Run) (bytes : List ℕ) → IsBlockOf a bytes → IsBlockOf b bytes → a ≡ b
one_run a b bytes p q =
    same_runs a b (short_run a (subst (λ (x : List ℕ). length x ≤ 8192) (sym p.written) p.limit)) (short_run b (subst (λ (x : List ℕ). length x ≤ 8192) (sym q.written) q.limit)) (p.written ∙ sym q.written)
