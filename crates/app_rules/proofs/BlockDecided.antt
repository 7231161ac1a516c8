-- Bytes are the block of a run, or no run's: they are read from the front, and then looked at.
use Rattle.std.proofs.Common.{zero, suc, ◌≡◌, ◌<◌, ◌≤◌, ◌⊎◌, ℕ, ◌+◌, List, [], ◌∷◌, ◌++◌, drop, take, length, refl, sym, ap, subst, ◌∙◌, arith, inl, inr, append_assoc}
use Rattle.std.specs.List.{AllByRecursion}
use Rattle.std.specs.Ordering.{nat_cmp}
use Rattle.std.specs.Cmp.Lexicographic.{slice_cmp}
use Rattle.std.specs.declared.cmp.Ordering.{Ordering}
use Rattle.std.specs.declared.cmp.Ordering.TheVariants.{Less, Equal, Greater}
use Rattle.std.proofs.lemmas.Bool.{cases_lt}
use Rattle.std.proofs.lemmas.List.{length-append, length-drop, take_at, drop_at}
use Rattle.std.proofs.lemmas.Map.Lookups.{exact_bytes}
use Rattle.subscript_keys.specs.declared.pair.Pair.{Pair}
use Rattle.subscript_keys.specs.declared.run.Run.{Run}
use Rattle.subscript_keys.specs.Span.{IsIn}
use Rattle.subscript_keys.proofs.Ties.{itself}
use Rattle.field_bytes.specs.Fields.{u16_bytes, list_bytes}
use Rattle.field_bytes.proofs.PrefixFree.{list_prefix_free}
use Rattle.block_bytes.specs.Blocks.{pair_bytes, pairs_bytes, span_bytes, block_bytes, IsBlock, IsBlockOf, IsBlockRun, IsBefore, IsBeforePairs, PairsRise}
use Rattle.block_bytes.proofs.BlockLengths.{list_length, short_run}
use Rattle.block_bytes.proofs.OneRun.{same_runs}
use Rattle.app_rules.specs.Downs.{IsNoRun}

abbrev Decided : Type 0 → Type 0
Decided A = A ⊎ (A → ⊥)

same_bytes : (xs ys : List ℕ) → Decided (xs ≡ ys)
same_bytes xs ys = go (slice_cmp nat_cmp xs ys) refl
  where
    go : (o : Ordering) → slice_cmp nat_cmp xs ys ≡ o → Decided (xs ≡ ys)
    go Less e = inr (λ s. absurd (cc (e, ap (λ x. slice_cmp nat_cmp x ys) s, itself ys)))
    go Equal e = inl (exact_bytes xs ys e)
    go Greater e = inr (λ s. absurd (cc (e, ap (λ x. slice_cmp nat_cmp x ys) s, itself ys)))

both : {A B : Type 0} → Decided A → Decided B → Decided (A × B)
both (inl a) (inl b) = inl (a, b)
both (inl a) (inr none) = inr (λ t. none t.1)
both (inr none) _ = inr (λ t. none t.0)

is_before : (a b : List ℕ) → Decided (IsBefore a b)
is_before a b = go (slice_cmp nat_cmp a b) refl
  where
    go : (o : Ordering) → slice_cmp nat_cmp a b ≡ o → Decided (IsBefore a b)
    go Less e = inl e
    go Equal e = inr (λ f. absurd (cc (e, f)))
    go Greater e = inr (λ f. absurd (cc (e, f)))

is_in : (lo hi key : List ℕ) → Decided (IsIn lo hi key)
is_in lo hi key = go (slice_cmp nat_cmp lo key) refl (is_before key hi)
  where
    go : (o : Ordering) → slice_cmp nat_cmp lo key ≡ o → Decided (IsBefore key hi) → Decided (IsIn lo hi key)
    go Less e (inl b) = inl (record { from = λ g. absurd (cc (e, g)); to = b })
    go Less e (inr none) = inr (λ i. none i.to)
    go Equal e (inl b) = inl (record { from = λ g. absurd (cc (e, g)); to = b })
    go Equal e (inr none) = inr (λ i. none i.to)
    go Greater e _ = inr (λ i. i.from e)

before_pairs : (key : List ℕ) (ps : List Pair) → Decided (IsBeforePairs key ps)
before_pairs key [] = inl tt
before_pairs key (p ∷ ps) = is_before key p.key

pairs_rise : (ps : List Pair) → Decided (PairsRise ps)
pairs_rise [] = inl tt
pairs_rise (p ∷ ps) = both (before_pairs p.key ps) (pairs_rise ps)

pairs_in : (lo hi : List ℕ) (ps : List Pair) → Decided (AllByRecursion (λ p. IsIn lo hi p.key) ps)
pairs_in lo hi [] = inl tt
pairs_in lo hi (p ∷ ps) = both (is_in lo hi p.key) (pairs_in lo hi ps)

is_block_run : (run : Run) → Decided (IsBlockRun run)
is_block_run run = go (is_before run.span.lo run.span.hi) (pairs_rise run.pairs) (pairs_in run.span.lo run.span.hi run.pairs)
  where
    go : Decided (IsBefore run.span.lo run.span.hi) → Decided (PairsRise run.pairs) → Decided (AllByRecursion (λ p. IsIn run.span.lo run.span.hi p.key) run.pairs) → Decided (IsBlockRun run)
    go (inl a) (inl b) (inl c) = inl (record { span = a; rising = b; within = c })
    go (inl a) (inl b) (inr none) = inr (λ r. none r.within)
    go (inl a) (inr none) _ = inr (λ r. none r.rising)
    go (inr none) _ _ = inr (λ r. none r.span)

-- a list with its count stands ahead
record Ahead (bytes : List ℕ) : Type 0 where
  pub list : List ℕ
  pub rest : List ℕ
  pub its : bytes ≡ list_bytes list ++ rest

behind_count : (x rest : List ℕ) → drop 2 (list_bytes x ++ rest) ≡ x ++ rest
unfolding list_bytes u16_bytes
behind_count x rest = refl

-- some front of these bytes is the list that stands ahead of those, or none so long is
seek : (bytes t : List ℕ) (n : ℕ) → Ahead bytes ⊎ ((k : ℕ) → k < n → bytes ≡ list_bytes (take k t) ++ drop k t → ⊥)
seek bytes t zero = inr (λ k low e. omega (arith, low))
seek bytes t (suc n) = go (same_bytes bytes (list_bytes (take n t) ++ drop n t)) (seek bytes t n)
  where
    go : Decided (bytes ≡ list_bytes (take n t) ++ drop n t) → Ahead bytes ⊎ ((k : ℕ) → k < n → bytes ≡ list_bytes (take k t) ++ drop k t → ⊥)
        → Ahead bytes ⊎ ((k : ℕ) → k < suc n → bytes ≡ list_bytes (take k t) ++ drop k t → ⊥)
    go (inl e) _ = inl (record { list = take n t; rest = drop n t; its = e })
    go (inr other) (inl a) = inl a
    go (inr other) (inr none) = inr (λ k low e. last k (cases_lt k n) low e)
      where
        last : (k : ℕ) → (k < n) ⊎ (n ≤ k) → k < suc n → bytes ≡ list_bytes (take k t) ++ drop k t → ⊥
        last k (inl less) low e = none k less e
        last k (inr more) low e = let same : k ≡ n = omega (arith, more, low) in other (subst (λ i. bytes ≡ list_bytes (take i t) ++ drop i t) same e)

found_by : (bytes t : List ℕ) (a : Ahead bytes) → t ≡ a.list ++ a.rest → bytes ≡ list_bytes (take (length a.list) t) ++ drop (length a.list) t
found_by bytes t a e =
    subst (λ u. bytes ≡ list_bytes (take (length a.list) u) ++ drop (length a.list) u) (sym e)
    (a.its ∙ (ap (λ l. list_bytes l ++ a.rest) (sym (take_at a.list a.rest (length a.list) refl)) ∙ ap (λ r. list_bytes (take (length a.list) (a.list ++ a.rest)) ++ r) (sym (drop_at a.list a.rest (length a.list) refl))))

list_ahead : (bytes : List ℕ) → Decided (Ahead bytes)
list_ahead bytes = go (seek bytes (drop 2 bytes) (suc (length (drop 2 bytes))))
  where
    go : Ahead bytes ⊎ ((k : ℕ) → k < suc (length (drop 2 bytes)) → bytes ≡ list_bytes (take k (drop 2 bytes)) ++ drop k (drop 2 bytes) → ⊥) → Decided (Ahead bytes)
    go (inl a) = inl a
    go (inr none) = inr (λ a.
        let e : drop 2 bytes ≡ a.list ++ a.rest = ap (drop 2) a.its ∙ behind_count a.list a.rest in
        none (length a.list) (omega (arith, ap length e, length-append a.list a.rest)) (found_by bytes (drop 2 bytes) a e))

-- how long what stands ahead and behind is
ahead_length : (bytes : List ℕ) (a : Ahead bytes) → length bytes ≡ 2 + length a.list + length a.rest
ahead_length bytes a = omega (arith, ap length a.its, length-append (list_bytes a.list) a.rest, list_length a.list)

-- short bytes have one list ahead
one_ahead : (bytes x r : List ℕ) (a : Ahead bytes) → length bytes ≤ 8192 → bytes ≡ list_bytes x ++ r → (a.list ≡ x) × (a.rest ≡ r)
one_ahead bytes x r a low e =
    let other : Ahead bytes = record { list = x; rest = r; its = e } in
    list_prefix_free a.list x a.rest r (omega (arith, low, ahead_length bytes a)) (omega (arith, low, ahead_length bytes other)) (sym a.its ∙ e)

-- bytes are those of some pairs
abbrev Pairs : List ℕ → Type 0
Pairs bytes = (ps : List Pair) × (bytes ≡ pairs_bytes ps)

pair_split : (p : Pair) (ps : List Pair) → pairs_bytes (p ∷ ps) ≡ list_bytes p.key ++ (list_bytes p.value ++ pairs_bytes ps)
unfolding pair_bytes
pair_split p ps = append_assoc (list_bytes p.key) (list_bytes p.value) (pairs_bytes ps)

by_rest : (bytes : List ℕ) (k : Ahead bytes) (v : Ahead k.rest) → (bytes ≡ [] → ⊥) → length bytes ≤ 8192 → Decided (Pairs v.rest) → Decided (Pairs bytes)
by_rest bytes k v some short (inl w) =
    let p : Pair = record { key = k.list; value = v.list } in
    inl (p ∷ w.0, k.its ∙ (ap (λ r. list_bytes k.list ++ r) (v.its ∙ ap (λ r. list_bytes v.list ++ r) w.1) ∙ sym (pair_split p w.0)))
by_rest bytes k v some short (inr none) = inr (λ w. go w.0 w.1)
  where
    go : (ps : List Pair) → bytes ≡ pairs_bytes ps → ⊥
    go [] e = some e
    go (p ∷ ps) e =
        let one = one_ahead bytes p.key (list_bytes p.value ++ pairs_bytes ps) k short (e ∙ pair_split p ps) in
        let two = one_ahead k.rest p.value (pairs_bytes ps) v (omega (arith, short, ahead_length bytes k)) one.1 in
        none (ps, two.1)

by_value : (bytes : List ℕ) (k : Ahead bytes) (n : ℕ) → (bytes ≡ [] → ⊥) → length bytes ≤ suc n → length bytes ≤ 8192
    → ((rest : List ℕ) → length rest ≤ n → length rest ≤ 8192 → Decided (Pairs rest)) → Decided (Ahead k.rest) → Decided (Pairs bytes)
by_value bytes k n some low short ih (inl v) =
    by_rest bytes k v some short (ih v.rest (omega (arith, low, ahead_length bytes k, ahead_length k.rest v)) (omega (arith, short, ahead_length bytes k, ahead_length k.rest v)))
by_value bytes k n some low short ih (inr none) = inr (λ w. go w.0 w.1)
  where
    go : (ps : List Pair) → bytes ≡ pairs_bytes ps → ⊥
    go [] e = some e
    go (p ∷ ps) e =
        let one = one_ahead bytes p.key (list_bytes p.value ++ pairs_bytes ps) k short (e ∙ pair_split p ps) in
        none (record { list = p.value; rest = pairs_bytes ps; its = one.1 })

by_key : (bytes : List ℕ) (n : ℕ) → (bytes ≡ [] → ⊥) → length bytes ≤ suc n → length bytes ≤ 8192
    → ((rest : List ℕ) → length rest ≤ n → length rest ≤ 8192 → Decided (Pairs rest)) → Decided (Ahead bytes) → Decided (Pairs bytes)
by_key bytes n some low short ih (inl k) = by_value bytes k n some low short ih (list_ahead k.rest)
by_key bytes n some low short ih (inr none) = inr (λ w. go w.0 w.1)
  where
    go : (ps : List Pair) → bytes ≡ pairs_bytes ps → ⊥
    go [] e = some e
    go (p ∷ ps) e = none (record { list = p.key; rest = list_bytes p.value ++ pairs_bytes ps; its = e ∙ pair_split p ps })

pairs_known : (n : ℕ) (bytes : List ℕ) → length bytes ≤ n → length bytes ≤ 8192 → Decided (Pairs bytes)
pairs_known n [] low short = inl ([], refl)
pairs_known zero (b ∷ bs) low short = absurd (omega (arith, low))
pairs_known (suc n) (b ∷ bs) low short = by_key (b ∷ bs) n (λ e. absurd (cc (e))) low short (λ rest l s. pairs_known n rest l s) (list_ahead (b ∷ bs))

-- the same bytes are of the same pairs
one_pairs : (ps qs : List Pair) → length (pairs_bytes ps) ≤ 8192 → pairs_bytes ps ≡ pairs_bytes qs → ps ≡ qs
one_pairs [] [] short e = refl
one_pairs [] (q ∷ qs) short e = absurd (omega (arith, ap length (e ∙ pair_split q qs), length-append (list_bytes q.key) (list_bytes q.value ++ pairs_bytes qs), list_length q.key))
one_pairs (p ∷ ps) [] short e = absurd (omega (arith, ap length (sym e ∙ pair_split p ps), length-append (list_bytes p.key) (list_bytes p.value ++ pairs_bytes ps), list_length p.key))
one_pairs (p ∷ ps) (q ∷ qs) short e =
    let k : Ahead (pairs_bytes (p ∷ ps)) = record { list = p.key; rest = list_bytes p.value ++ pairs_bytes ps; its = pair_split p ps } in
    let v : Ahead k.rest = record { list = p.value; rest = pairs_bytes ps; its = refl } in
    let key = one_ahead (pairs_bytes (p ∷ ps)) q.key (list_bytes q.value ++ pairs_bytes qs) k short (e ∙ pair_split q qs) in
    let value = one_ahead k.rest q.value (pairs_bytes qs) v (omega (arith, short, ahead_length (pairs_bytes (p ∷ ps)) k)) key.1 in
    let rest = one_pairs ps qs (omega (arith, short, ahead_length (pairs_bytes (p ∷ ps)) k, ahead_length k.rest v)) value.1 in
    ap (λ (l : List Pair). p ∷ l) rest ∙ (ap (λ (x : List ℕ). record p { key = x } ∷ qs) key.0 ∙ ap (λ (y : List ℕ). record q { value = y } ∷ qs) value.0)

-- what stands behind a run's span
abbrev tail_of : Run → List ℕ
tail_of run = u16_bytes (length run.pairs) ++ pairs_bytes run.pairs

behind_u16 : (n : ℕ) (rest : List ℕ) → drop 2 (u16_bytes n ++ rest) ≡ rest
unfolding u16_bytes
behind_u16 n rest = refl

run_split : (run : Run) → block_bytes run ≡ 1 ∷ (list_bytes run.span.lo ++ (list_bytes run.span.hi ++ tail_of run))
unfolding block_bytes span_bytes
run_split run = ap (λ r. 1 ∷ r) (append_assoc (list_bytes run.span.lo) (list_bytes run.span.hi) (tail_of run))

-- a run of these bytes has what was read
module _ (bs : List ℕ) (short : length (1 ∷ bs) ≤ 8192) where
  whole : (run : Run) → IsBlockOf run (1 ∷ bs) → bs ≡ list_bytes run.span.lo ++ (list_bytes run.span.hi ++ tail_of run)
  whole run b = cc (sym b.written ∙ run_split run)

  by_run : (lo : Ahead bs) (hi : Ahead lo.rest) (w : Pairs (drop 2 hi.rest)) (same : Decided (block_bytes (record { span = record { lo = lo.list; hi = hi.list }; pairs = w.0 }) ≡ 1 ∷ bs))
      → Decided (IsBlockRun (record { span = record { lo = lo.list; hi = hi.list }; pairs = w.0 })) → IsBlock (1 ∷ bs) ⊎ IsNoRun (1 ∷ bs)
  by_run lo hi w (inl e) (inl r) = inl (record { span = record { lo = lo.list; hi = hi.list }; pairs = w.0 }, record { has_block = r; written = e; limit = short })
  by_run lo hi w (inl e) (inr none) = inr (record { none = λ run b. none (subst IsBlockRun (same_runs run _ (short_run run (omega (arith, ap length b.written, short))) (short_run _ (omega (arith, ap length e, short))) (b.written ∙ sym e)) b.has_block) })
  by_run lo hi w (inr other) _ = inr (record { none = λ run b. other (is_it run b) })
    where
      is_it : (run : Run) → IsBlockOf run (1 ∷ bs) → block_bytes (record { span = record { lo = lo.list; hi = hi.list }; pairs = w.0 }) ≡ 1 ∷ bs
      is_it run b =
          let one = one_ahead bs run.span.lo (list_bytes run.span.hi ++ tail_of run) lo (omega (arith, short)) (whole run b) in
          let two = one_ahead lo.rest run.span.hi (tail_of run) hi (omega (arith, short, ahead_length bs lo)) one.1 in
          let left : drop 2 hi.rest ≡ pairs_bytes run.pairs = ap (drop 2) two.1 ∙ behind_u16 (length run.pairs) (pairs_bytes run.pairs) in
          let few : length (pairs_bytes w.0) ≤ 8192 = omega (arith, short, ahead_length bs lo, ahead_length lo.rest hi, ap length w.1, length-drop 2 hi.rest) in
          let pairs : w.0 ≡ run.pairs = one_pairs w.0 run.pairs few (sym w.1 ∙ left) in
          ap (λ (x : List ℕ). block_bytes (record { span = record { lo = x; hi = hi.list }; pairs = w.0 })) one.0
          ∙ (ap (λ (x : List ℕ). block_bytes (record { span = record { lo = run.span.lo; hi = x }; pairs = w.0 })) two.0
          ∙ (ap (λ (l : List Pair). block_bytes (record { span = run.span; pairs = l })) pairs ∙ b.written))

  by_pairs : (lo : Ahead bs) (hi : Ahead lo.rest) → Decided (Pairs (drop 2 hi.rest)) → IsBlock (1 ∷ bs) ⊎ IsNoRun (1 ∷ bs)
  by_pairs lo hi (inl w) = by_run lo hi w (same_bytes _ _) (is_block_run _)
  by_pairs lo hi (inr none) = inr (record {
    none = λ run b.
        let one = one_ahead bs run.span.lo (list_bytes run.span.hi ++ tail_of run) lo (omega (arith, short)) (whole run b) in
        let two = one_ahead lo.rest run.span.hi (tail_of run) hi (omega (arith, short, ahead_length bs lo)) one.1 in
        none (run.pairs, ap (drop 2) two.1 ∙ behind_u16 (length run.pairs) (pairs_bytes run.pairs));
  })

  by_hi : (lo : Ahead bs) → Decided (Ahead lo.rest) → IsBlock (1 ∷ bs) ⊎ IsNoRun (1 ∷ bs)
  by_hi lo (inl hi) = by_pairs lo hi (pairs_known (length (drop 2 hi.rest)) (drop 2 hi.rest) (omega arith) (omega (arith, short, ahead_length bs lo, ahead_length lo.rest hi, length-drop 2 hi.rest)))
  by_hi lo (inr none) = inr (record {
    none = λ run b.
        let one = one_ahead bs run.span.lo (list_bytes run.span.hi ++ tail_of run) lo (omega (arith, short)) (whole run b) in
        none (record { list = run.span.hi; rest = tail_of run; its = one.1 });
  })

  by_lo : Decided (Ahead bs) → IsBlock (1 ∷ bs) ⊎ IsNoRun (1 ∷ bs)
  by_lo (inl lo) = by_hi lo (list_ahead lo.rest)
  by_lo (inr none) = inr (record { none = λ run b. none (record { list = run.span.lo; rest = list_bytes run.span.hi ++ tail_of run; its = whole run b }) })

-- the first byte of a block is 01
by_first : (block : List ℕ) → length block ≤ 8192 → IsBlock block ⊎ IsNoRun block
by_first [] short = inr (record { none = λ run b. absurd (cc (b.written, run_split run)) })
by_first (b ∷ bs) short = go (same_bytes (b ∷ []) (1 ∷ []))
  where
    go : Decided ((b ∷ []) ≡ 1 ∷ []) → IsBlock (b ∷ bs) ⊎ IsNoRun (b ∷ bs)
    go (inl e) = let first : b ≡ 1 = cc (e) in subst (λ x. IsBlock (x ∷ bs) ⊎ IsNoRun (x ∷ bs)) (sym first) (by_lo bs short (list_ahead bs))
    go (inr other) = inr (record { none = λ run k. other (cc (k.written, run_split run)) })

pub block_known : (block : List ℕ) → IsBlock block ⊎ IsNoRun block
block_known block = go (cases_lt 8192 (length block))
  where
    go : (8192 < length block) ⊎ (length block ≤ 8192) → IsBlock block ⊎ IsNoRun block
    go (inl long) = inr (record { none = λ run b. omega (arith, long, b.limit) })
    go (inr short) = by_first block short
