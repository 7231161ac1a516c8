-- Two increments of one node never answer the same number.
use Rattle.std.proofs.Common.{◌≡◌, ◌≢◌, ℕ, zero, suc, ◌≤◌, ◌<◌, ◌+◌, ◌-◌, List, [], ◌∷◌, ◌++◌, take, refl, subst, sym, ap, ◌∙◌, Bool, true, false, cond, if◌then◌else◌, arith, slice_get, ◌⊎◌, inl, inr, Option, Some, None, nat_eq, ℤ, pos, negsuc}
use Rattle.std.specs.Prelude.{IsSomeAnd, ◌+ℤ◌, neg_ℤ}
use Rattle.std.specs.Ordering.{is_eq}
use Rattle.std.specs.Cmp.Lexicographic.{pointwise, bytes_decides}
use Rattle.std.proofs.lemmas.Bool.{and_parts, ltb-true, cases_lt}
use Rattle.std.proofs.lemmas.Option.{same_Some}
use Rattle.std.proofs.lemmas.List.{take-take}
use Rattle.std.proofs.Math.IntN.{+ℤ-neg_ℤ_cancel, +ℤ_comm, +ℤ_invr}
use Rattle.subscript_keys.proofs.Ties.{itself}
use Rattle.plain_orders.specs.declared.op.Op.TheVariants.{Set, Kill, Add}
use Rattle.plain_orders.specs.declared.sum.Sum.{Sum}
use Rattle.plain_orders.specs.declared.sum.Sum.TheVariants.{Nothing, Whole, NotWhole, Range}
use Rattle.plain_orders.specs.declared.entry.Entry.{Entry}
use Rattle.plain_orders.specs.declared.entry.Entry.TheVariants.{Epoch, Opened, Closed, Update, Commit, Rollback}
use Rattle.plain_orders.specs.declared.act.Act.{Act}
use Rattle.plain_orders.specs.declared.act.Act.TheVariants.{Counted}
use Rattle.plain_orders.specs.Answers.{entry_sum, sum_at, sum_if}
use Rattle.plain_orders.specs.Fold.{Folded, fold, fold_step, op_after, sum_of, sum_on, sum_with}
use Rattle.plain_orders.specs.Numbers.{integer_text, is_short, whole_of}
use Rattle.plain_orders.specs.Ordered.{IsOrdered}
use Rattle.plain_orders.specs.PairMap.{Map, put, value_at}
use Rattle.plain_orders.proofs.FoldLemmas.{fold-push}
use Rattle.plain_orders.proofs.FrontLemmas.{ordered-take}
use Rattle.plain_orders.proofs.OrderKeys.{folded_keys}
use Rattle.plain_orders.proofs.RisingLemmas.{fold_rises}
use Rattle.plain_orders.proofs.Values.{put_value}
use Rattle.plain_runs.specs.Plain.{Server, current, start}
use Rattle.plain_runs.specs.Step.{MayCome}
use Rattle.plain_runs.specs.Run.{IsRun, state_after}
use Rattle.plain_runs.specs.Laws.{server_after}
use Rattle.plain_runs.proofs.RunLemmas.{run_parts}
use Rattle.plain_runs.proofs.OrderLaws.{synced_stays}
use Rattle.plain_runs.proofs.Ordered.{each_is_ordered}
use Rattle.plain_runs.proofs.ToldItems.{last_nth}
use Rattle.trail_laws.specs.Touches.{touched_at, touches_if}
use Rattle.trail_laws.specs.IncrementLaw.{is_positive, is_rise, RisesAt, NoneBetween, IncrementsDiffer}
use Rattle.trail_laws.proofs.Durable.{may_after, got_taken, later_order}
use Rattle.trail_laws.proofs.NodeValues.{entry_still}
use Rattle.trail_laws.proofs.WholeTexts.{whole_back}

-- one entry more of a front
front_more : {X : Type 0} (xs : List X) (i : ℕ) (x : X) → slice_get xs i ≡ Some x → take (suc i) xs ≡ take i xs ++ x ∷ []
front_more [] i x e = absurd (cc (e))
front_more (y ∷ xs) zero x e = ap (λ z. z ∷ []) (same_Some y x e)
front_more (y ∷ xs) (suc i) x e = ap (λ (zs : List _). y ∷ zs) (front_more xs i x e)

fold_more : (es : List Entry) (i : ℕ) (e : Entry) → slice_get es i ≡ Some e → fold (take (suc i) es) ≡ fold_step (fold (take i es)) e
fold_more es i e at = ap fold (front_more es i e at) ∙ fold-push (take i es) e

-- a greater number is another one
grown_differs : (v b : ℤ) → is_positive b ≡ true → v +ℤ b ≡ v → ⊥
grown_differs v (pos n) p e = absurd (omega (arith, ltb-true 0 n p, nothing))
  where
    zero_is : pos n ≡ pos 0
    zero_is = sym (+ℤ-neg_ℤ_cancel (pos n) v) ∙ ap (λ x. x +ℤ neg_ℤ v) (+ℤ_comm (pos n) v ∙ e) ∙ +ℤ_invr v

    nothing : n ≡ 0
    nothing = cc (zero_is)
grown_differs v (negsuc n) p e = absurd (cc (p))

-- what is answered has few digits
sum_short : (n v : ℤ) → sum_of n ≡ Whole v → (n ≡ v) × (is_short v ≡ true)
sum_short n v e = go (is_short n) refl e
  where
    go : (b : Bool) → is_short n ≡ b → (if b then Whole n else Range) ≡ Whole v → (n ≡ v) × (is_short v ≡ true)
    go true is e = let same : n ≡ v = cc (e) in (same, subst (λ x. is_short x ≡ true) same is)
    go false is e = absurd (cc (e))

with_short : (o : Option (List ℕ)) (a v : ℤ) → sum_with o a ≡ Whole v → is_short v ≡ true
with_short None a v e = (sum_short a v e).1
with_short (Some text) a v e = go (whole_of text) e
  where
    go : (w : Option ℤ) → sum_on w a ≡ Whole v → is_short v ≡ true
    go None e = absurd (cc (e))
    go (Some n) e = (sum_short (n +ℤ a) v e).1

module _ (q : List ℕ) where
  -- an increment of the node
  record Rises (e : Entry) : Type 0 where
    amount : ℤ
    up : is_positive amount ≡ true
    after : (f : Folded) → (fold_step f e).pairs ≡ op_after f.pairs (Add q amount)
    sum : (m : Map) → entry_sum m e ≡ sum_with (value_at m q) amount

  rises : (e : Entry) → is_rise q e ≡ true → Rises e
  rises (Epoch number) h = absurd (cc (h))
  rises (Opened session app) h = absurd (cc (h))
  rises (Closed session) h = absurd (cc (h))
  rises (Commit session w job txn) h = absurd (cc (h))
  rises (Rollback session w job txn) h = absurd (cc (h))
  rises (Update session w job txn (Set k v)) h = absurd (cc (h))
  rises (Update session w job txn (Kill k)) h = absurd (cc (h))
  rises (Update session w job txn (Add k amount)) h =
      let x = and_parts (pointwise nat_eq k q) (is_positive amount) h in
      let same : k ≡ q = (bytes_decides k q).0 x.0 in
      record {
        amount = amount;
        up = x.1;
        after = λ f. ap (λ n. op_after f.pairs (Add n amount)) same;
        sum = λ m. ap (λ n. sum_with (value_at m n) amount) same;
      }

  -- the number that an increment writes is the node's value then
  counted_value : (m : Map) (a v : ℤ) → sum_with (value_at m q) a ≡ Whole v → value_at (op_after m (Add q a)) q ≡ Some (integer_text v)
  counted_value m a v e = ap (λ (s : Sum). value_at (with_it s) q) e ∙ put_value q m q (integer_text v) ∙ ap (λ (b : Bool). cond b (Some (integer_text v)) (value_at m q)) (ap is_eq (itself q))
    where
      with_it : Sum → Map
      with_it Nothing = m
      with_it (Whole n) = put m q (integer_text n)
      with_it NotWhole = m
      with_it Range = m

  -- the value stays up to the next entry that touches the node
  value_stays : (es : List Entry) (i n : ℕ) (x : Option (List ℕ)) → IsOrdered es → value_at (fold (take i es)).pairs q ≡ x → ((k : ℕ) → i < k → k ≤ i + n → touched_at es q k ≡ false) → value_at (fold (take (i + n) es)).pairs q ≡ x
  value_stays es i zero x o e none = let place : i + 0 ≡ i = omega arith in ap (λ k. value_at (fold (take k es)).pairs q) place ∙ e
  value_stays es i (suc n) x o e none =
      let place : i + suc n ≡ suc (i + n) = omega arith in
      ap (λ k. value_at (fold (take k es)).pairs q) place ∙ go (slice_get es (i + n)) refl (none (suc (i + n)) (omega arith) (omega arith)) ∙ value_stays es i n x o e (λ k low high. none k low (omega (arith, high)))
    where
      past : (xs : List Entry) (k : ℕ) → slice_get xs k ≡ None → take (suc k) xs ≡ take k xs
      past [] zero h = refl
      past [] (suc k) h = refl
      past (y ∷ xs) zero h = absurd (cc (h))
      past (y ∷ xs) (suc k) h = ap (λ (zs : List Entry). y ∷ zs) (past xs k h)

      go : (r : Option Entry) → slice_get es (i + n) ≡ r → touches_if q (fold (take (i + n) es)) (slice_get es (i + n)) ≡ false → value_at (fold (take (suc (i + n)) es)).pairs q ≡ value_at (fold (take (i + n) es)).pairs q
      go None at t = ap (λ (l : List Entry). value_at (fold l).pairs q) (past es (i + n) at)
      go (Some e) at t =
          ap (λ (f : Folded). value_at f.pairs q) (fold_more es (i + n) e at)
          ∙ entry_still q (fold (take (i + n) es)) e (subst (λ r. touches_if q (fold (take (i + n) es)) r ≡ false) at t) (folded_keys (take (i + n) es) (ordered-take es (i + n) o)) (fold_rises (take (i + n) es))

  -- the first increment and a later one
  later_differs : (es : List Entry) (i n : ℕ) (v w : ℤ) (e f : Entry) → IsOrdered es → slice_get es i ≡ Some e → slice_get es (suc i + n) ≡ Some f → Rises e → Rises f → ((k : ℕ) → suc i < k → k ≤ suc i + n → touched_at es q k ≡ false)
      → sum_at es (suc i) ≡ Whole v → sum_at es (suc (suc i + n)) ≡ Whole w → v ≡ w → ⊥
  later_differs es i n v w e f o at_e at_f r t none sum_e sum_f same =
      grown_differs v t.amount t.up ((sum_short (v +ℤ t.amount) w (sym second ∙ is_f)).0 ∙ sym same)
    where
      is_e : sum_with (value_at (fold (take i es)).pairs q) r.amount ≡ Whole v
      is_e = sym (r.sum (fold (take i es)).pairs) ∙ ap (sum_if (fold (take i es)).pairs) (sym at_e) ∙ sum_e

      is_f : sum_with (value_at (fold (take (suc i + n) es)).pairs q) t.amount ≡ Whole w
      is_f = sym (t.sum (fold (take (suc i + n) es)).pairs) ∙ ap (sum_if (fold (take (suc i + n) es)).pairs) (sym at_f) ∙ sum_f

      written : value_at (fold (take (suc i) es)).pairs q ≡ Some (integer_text v)
      written = ap (λ (x : Folded). value_at x.pairs q) (fold_more es i e at_e) ∙ ap (λ m. value_at m q) (r.after (fold (take i es))) ∙ counted_value (fold (take i es)).pairs r.amount v is_e

      there : value_at (fold (take (suc i + n) es)).pairs q ≡ Some (integer_text v)
      there = value_stays es (suc i) n (Some (integer_text v)) o written none

      second : sum_with (value_at (fold (take (suc i + n) es)).pairs q) t.amount ≡ sum_of (v +ℤ t.amount)
      second = ap (λ x. sum_with x t.amount) there ∙ ap (λ x. sum_on x t.amount) (whole_back v (with_short (value_at (fold (take i es)).pairs q) r.amount v is_e))

  some_there : (o : Option Entry) → IsSomeAnd o (λ e. is_rise q e ≡ true) → (e : Entry) × ((o ≡ Some e) × (is_rise q e ≡ true))
  some_there None h = absurd h
  some_there (Some e) h = (e, (refl, h))

  in_turn : (es : List Entry) (i j : ℕ) (v w : ℤ) → IsOrdered es → i < j → RisesAt es q i → RisesAt es q j → ((k : ℕ) → i < k → k < j → touched_at es q k ≡ false) → sum_at es i ≡ Whole v → sum_at es j ≡ Whole w → v ≡ w → ⊥
  in_turn es zero j v w o less a b none sum_i sum_j same = absurd a
  in_turn es (suc i) zero v w o less a b none sum_i sum_j same = absurd (omega (arith, less))
  in_turn es (suc i) (suc j) v w o less a b none sum_i sum_j same =
      let x = some_there (slice_get es i) a in
      let y = some_there (slice_get es j) b in
      let apart : suc i + (j - suc i) ≡ j = omega (arith, less) in
      later_differs es i (j - suc i) v w x.0 y.0 o x.1.0 (ap (slice_get es) apart ∙ y.1.0) (rises x.0 x.1.1) (rises y.0 y.1.1)
      (λ k low high. none k low (omega (arith, high, apart))) sum_i (ap (λ n. sum_at es (suc n)) apart ∙ sum_j) same

  differ : (es : List Entry) (i j : ℕ) (v w : ℤ) → IsOrdered es → i ≢ j → RisesAt es q i → RisesAt es q j → NoneBetween es q i j → sum_at es i ≡ Whole v → sum_at es j ≡ Whole w → v ≢ w
  differ es i j v w o other a b none sum_i sum_j same = go (cases_lt i j)
    where
      go : (i < j) ⊎ (j ≤ i) → ⊥
      go (inl less) = in_turn es i j v w o less a b (λ k low high. none k (omega (arith, low, less)) (omega (arith, high, less))) sum_i sum_j same
      go (inr more) =
          let less : j < i = omega (arith, more, other) in
          in_turn es j i w v o less b a (λ k low high. none k (omega (arith, low, less)) (omega (arith, high, less))) sum_j sum_i (sym same)

-- a sum stays with the front of its list
sum_taken : (xs ys : List Entry) (n at : ℕ) → take n xs ≡ take n ys → at ≤ n → sum_at xs at ≡ sum_at ys at
sum_taken xs ys n zero e low = refl
sum_taken xs ys n (suc i) e low =
    let front : take i xs ≡ take i ys = sym (take-take i n xs (omega (arith, low))) ∙ ap (take i) e ∙ take-take i n ys (omega (arith, low)) in
    ap (λ (l : List Entry). sum_if (fold l).pairs (slice_get xs i)) front ∙ ap (sum_if (fold (take i ys)).pairs) (got_taken xs ys n i e (omega (arith, low)))

pub increments_differ : IncrementsDiffer
increments_differ l before middle later d job line at other_job other_line other_at sum other_sum node run apart rises_at rises_other none =
    differ node s.order at other_at sum other_sum (subst IsOrdered (last_nth s.past s.order) (each_is_ordered l (before ++ a ∷ middle) d (current s) shorter)) apart rises_at rises_other none
    (sum_taken s.order (server_after l before d).order (server_after l before d).synced at front first.1.stands.synced ∙ first.1.is_sum) second.1.is_sum
  where
    a : Act
    a = Counted job line d at sum

    b : Act
    b = Counted other_job other_line d other_at other_sum

    s : Server
    s = server_after l (before ++ a ∷ middle) d

    shorter : IsRun l (before ++ a ∷ middle)
    shorter = (run_parts l start (before ++ a ∷ middle) (b ∷ later) run).0

    first : MayCome l (state_after l before) a
    first = may_after l before middle a shorter

    second : MayCome l (state_after l (before ++ a ∷ middle)) b
    second = may_after l (before ++ a ∷ middle) later b run

    front : take (server_after l before d).synced s.order ≡ take (server_after l before d).synced (server_after l before d).order
    front =
        ap (take (server_after l before d).synced) (sym (last_nth s.past s.order))
        ∙ synced_stays l before (a ∷ middle) d (current s) shorter (later_order l before (a ∷ middle) d shorter) (omega arith)
