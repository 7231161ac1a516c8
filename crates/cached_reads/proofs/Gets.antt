-- A get: own updates that touch the node decide its value, and else the first run that covers it has it.
use Rattle.std.proofs.Common.{◌≡◌, ℕ, Bool, true, false, cond, not, ◌||◌, List, [], ◌∷◌, Some, None, take, refl, sym, ◌∙◌, ap, subst, nat_eq}
use Rattle.std.specs.List.{find, AllByRecursion}
use Rattle.std.specs.Cmp.Lexicographic.{pointwise}
use Rattle.std.specs.BTreeMap.{is_at}
use Rattle.std.specs.Ordering.{is_eq}
use Rattle.std.proofs.lemmas.Bool.{false≢true, eq-eqb, eqb-true, and_from, and_parts}
use Rattle.subscript_keys.specs.declared.run.Run.{Run}
use Rattle.subscript_keys.proofs.Ties.{itself}
use Rattle.plain_orders.specs.declared.entry.Entry.{Entry}
use Rattle.plain_orders.specs.declared.op.Op.{Op}
use Rattle.plain_orders.specs.declared.op.Op.TheVariants.{Set, Kill, Add}
use Rattle.plain_orders.specs.declared.sum.Sum.{Sum}
use Rattle.plain_orders.specs.declared.sum.Sum.TheVariants.{Nothing, Whole, NotWhole, Range}
use Rattle.plain_orders.specs.Numbers.{integer_text}
use Rattle.plain_orders.specs.Fold.{fold, op_after, op_sum, with_sum}
use Rattle.plain_orders.specs.Own.{op_touches, touches_own, ops_after, value_over}
use Rattle.plain_orders.specs.PairMap.{Map, key_cmp, value_at, within}
use Rattle.plain_orders.proofs.Locality.{is_in_span}
use Rattle.plain_orders.proofs.Values.{its_key, put_value, killed_value, within_value, ops_agree}
use Rattle.end_words.specs.Runs.{TrueAt, covers, pairs_of}
use Rattle.cached_reads.specs.Laws.{AreTrueAt, IsChange}

-- the first that a test finds passes it
pub found_passes : (test : Run → Bool) (runs : List Run) (run : Run) → find test runs ≡ Some run → test run ≡ true
found_passes test [] run e = cc
found_passes test (r ∷ rs) run e = go (found_passes test rs run) (test r) refl e
  where
    go : (find test rs ≡ Some run → test run ≡ true) → (b : Bool) → test r ≡ b → cond b (Some r) (find test rs) ≡ Some run → test run ≡ true
    go more true is e = let same : r ≡ run = cc e in subst (λ (x : Run). test x ≡ true) same is
    go more false is e = more e

-- and has what all have
pub found_has : (P : Run → Type 0) (test : Run → Bool) (runs : List Run) (run : Run) → AllByRecursion P runs → find test runs ≡ Some run → P run
found_has P test [] run all e = cc
found_has P test (r ∷ rs) run all e = go (found_has P test rs run all.1) (test r) e
  where
    go : (find test rs ≡ Some run → P run) → (b : Bool) → cond b (Some r) (find test rs) ≡ Some run → P run
    go more true e = let same : r ≡ run = cc e in subst P same all.0
    go more false e = more e

-- a list is itself, byte by byte
pub itself_eq : (k : List ℕ) → pointwise nat_eq k k ≡ true
itself_eq [] = refl
itself_eq (x ∷ k) = and_from (nat_eq x x) (pointwise nat_eq k k) (eq-eqb x x refl) (itself_eq k)

-- lists that are alike, byte by byte, are one
alike : (j k : List ℕ) → pointwise nat_eq j k ≡ true → j ≡ k
alike [] [] h = refl
alike [] (x ∷ k) h = absurd (false≢true h)
alike (x ∷ j) [] h = absurd (false≢true h)
alike (x ∷ j) (y ∷ k) h =
    let parts = and_parts (nat_eq x y) (pointwise nat_eq j k) h in
    ap (λ z. z ∷ j) (eqb-true x y parts.0) ∙ ap (λ t. y ∷ t) (alike j k parts.1)

module _ (key : List ℕ) where
  -- another key is told apart from it
  apart : (k : List ℕ) → pointwise nat_eq k key ≡ false → is_at (key_cmp key) k ≡ false
  apart k other = go (is_at (key_cmp key) k) refl
    where
      go : (b : Bool) → is_at (key_cmp key) k ≡ b → b ≡ false
      go true is = absurd (false≢true (sym other ∙ subst (λ q. pointwise nat_eq q key ≡ true) (its_key key k is) (itself_eq key)))
      go false is = refl

  sum_elsewhere : (m : Map) (k : List ℕ) (x : Sum) → is_at (key_cmp key) k ≡ false → value_at (with_sum m k x) key ≡ value_at m key
  sum_elsewhere m k Nothing other = refl
  sum_elsewhere m k (Whole n) other = put_value key m k (integer_text n) ∙ ap (λ b. cond b (Some (integer_text n)) (value_at m key)) other
  sum_elsewhere m k NotWhole other = refl
  sum_elsewhere m k Range other = refl

  -- an operation elsewhere leaves the value
  elsewhere : (m : Map) (op : Op) → op_touches key op ≡ false → value_at (op_after m op) key ≡ value_at m key
  elsewhere m (Set k v) other = put_value key m k v ∙ ap (λ b. cond b (Some v) (value_at m key)) (apart k other)
  elsewhere m (Kill k) other = killed_value key m k ∙ ap (λ b. cond (not b) (value_at m key) None) other
  elsewhere m (Add k amount) other = sum_elsewhere m k (op_sum m (Add k amount)) (apart k other)

  -- several leave it
  pub all_elsewhere : (m : Map) (ops : List Op) → touches_own ops key ≡ false → value_at (ops_after m ops) key ≡ value_at m key
  all_elsewhere m [] other = refl
  all_elsewhere m (o ∷ os) other = go (all_elsewhere (op_after m o) os) (op_touches key o) refl other
    where
      go : (touches_own os key ≡ false → value_at (ops_after (op_after m o) os) key ≡ value_at (op_after m o) key)
          → (b : Bool) → op_touches key o ≡ b → (b || touches_own os key) ≡ false → value_at (ops_after (op_after m o) os) key ≡ value_at m key
      go more true is other = absurd (false≢true (sym other))
      go more false is other = more other ∙ elsewhere m o is

  -- the same list is at the key
  same_key : (k : List ℕ) → pointwise nat_eq k key ≡ true → is_at (key_cmp key) k ≡ true
  same_key k same = ap is_eq (ap (key_cmp key) (alike k key same) ∙ itself key)

  -- an operation there decides the value
  decides : (m n : Map) (op : Op) → IsChange op → op_touches key op ≡ true → value_at (op_after m op) key ≡ value_at (op_after n op) key
  decides m n (Set k v) change here =
      put_value key m k v ∙ ap (λ b. cond b (Some v) (value_at m key)) (same_key k here)
      ∙ sym (put_value key n k v ∙ ap (λ b. cond b (Some v) (value_at n key)) (same_key k here))
  decides m n (Kill k) change here =
      killed_value key m k ∙ ap (λ b. cond (not b) (value_at m key) None) here
      ∙ sym (killed_value key n k ∙ ap (λ b. cond (not b) (value_at n key) None) here)
  decides m n (Add k amount) change here = absurd change

  -- one of several decides it
  pub some_decides : (m n : Map) (ops : List Op) → AllByRecursion IsChange ops → touches_own ops key ≡ true
      → value_at (ops_after m ops) key ≡ value_at (ops_after n ops) key
  some_decides m n [] changes here = absurd (false≢true here)
  some_decides m n (o ∷ os) changes here = go (some_decides (op_after m o) (op_after n o) os changes.1) (op_touches key o) refl here
    where
      go : (touches_own os key ≡ true → value_at (ops_after (op_after m o) os) key ≡ value_at (ops_after (op_after n o) os) key)
          → (b : Bool) → op_touches key o ≡ b → (b || touches_own os key) ≡ true
          → value_at (ops_after (op_after m o) os) key ≡ value_at (ops_after (op_after n o) os) key
      go more true is here = ops_agree key (op_after m o) (op_after n o) os (decides m n o changes.0 is)
      go more false is here = more here

-- a run that has a map's pairs of its span has the value of each key that it covers
pub value_of : (m : Map) (run : Run) (key : List ℕ) → pairs_of run ≡ within m run.span → covers key run ≡ true → value_at (pairs_of run) key ≡ value_at m key
value_of m run key its covered = ap (λ (x : Map). value_at x key) its ∙ within_value key m run.span (is_in_span run.span (key, []) covered)

pub runs_answer : (es : List Entry) (n : ℕ) (runs : List Run) (run : Run) (ops : List Op) (key : List ℕ)
    → AreTrueAt es n runs → find (covers key) runs ≡ Some run → touches_own ops key ≡ false
    → value_at (pairs_of run) key ≡ value_over (take n es) ops key
runs_answer es n runs run ops key all found other =
    value_of (fold (take n es)).pairs run key (found_has (λ r. TrueAt r es n) (covers key) runs run all found) (found_passes (covers key) runs run found)
    ∙ sym (all_elsewhere key (fold (take n es)).pairs ops other)

pub own_decide : (es : List Entry) (ops : List Op) (key : List ℕ) → AllByRecursion IsChange ops → touches_own ops key ≡ true
    → value_at (ops_after [] ops) key ≡ value_over es ops key
own_decide es ops key changes here = some_decides key [] (fold es).pairs ops changes here
