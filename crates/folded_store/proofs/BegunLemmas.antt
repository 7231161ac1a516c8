-- Open transactions by their places.
use Rattle.std.proofs.Common.{◌≡◌, ◌≢◌, ◌∙◌, ◌<◌, ◌+◌, ℕ, zero, suc, Bool, true, false, not, cond, if◌then◌else◌, ◌||◌, List, [], ◌∷◌, ◌++◌, length, get_or, set, map, Some, None, refl, sym, ap, ap₂, append_assoc, arith, nat_eq, subst, slice_index_or, slice_set}
use Rattle.std.specs.List.{filter, list_any, position, position_from, remove}
use Rattle.std.proofs.lemmas.Iterator.Adapters.{position_from-zero}
use Rattle.subscript_keys.specs.declared.span.Span.{Span}
use Rattle.plain_orders.specs.PairMap.{Map}
use Rattle.plain_orders.specs.Fold.{Undo, Transaction, all_undone, is_it, is_begun, beginning, noted, with_undo, undo_added, undo_in, ended, is_elsewhere, session_undone}
use Rattle.plain_orders.specs.Spans.{undo_span, session_spans}
use Rattle.plain_orders.proofs.PastLemmas.{apart}
use Rattle.folded_store.specs.Transactions.{is_of, first_undo, without_first}

-- the first that a test finds stands at this place
abbrev pub IsFirstAt : {X : Type 0} → (X → Bool) → ℕ → List X → Type 0
IsFirstAt p i [] = ⊥
IsFirstAt p zero (x ∷ xs) = p x ≡ true
IsFirstAt p (suc i) (x ∷ xs) = (p x ≡ false) × IsFirstAt p i xs

module _ {X : Type 0} (p : X → Bool) where
  first_from : (xs : List X) (k i : ℕ) → position_from p k xs ≡ Some i → (n : ℕ) × (i ≡ k + n) × IsFirstAt p n xs
  first_from [] k i e = absurd (cc)
  first_from (x ∷ xs) k i e = go (p x) refl e (first_from xs (k + 1) i)
    where
      go : (b : Bool) → p x ≡ b → cond b (Some k) (position_from p (k + 1) xs) ≡ Some i → (position_from p (k + 1) xs ≡ Some i → (n : ℕ) × (i ≡ k + 1 + n) × IsFirstAt p n xs)
          → (n : ℕ) × (i ≡ k + n) × IsFirstAt p n (x ∷ xs)
      go true f e more = let same : k ≡ i = cc in (0, omega arith, f)
      go false f e more = let r = more e in (suc r.0, omega (arith, r.1), (f, r.2))

  none_from : (xs : List X) (k : ℕ) → position_from p k xs ≡ None → list_any p xs ≡ false
  none_from [] k e = refl
  none_from (x ∷ xs) k e = go (p x) e (none_from xs (k + 1))
    where
      go : (b : Bool) → cond b (Some k) (position_from p (k + 1) xs) ≡ None → (position_from p (k + 1) xs ≡ None → list_any p xs ≡ false) → (b || list_any p xs) ≡ false
      go true e more = absurd (cc)
      go false e more = more e

  -- what a position says
  pub first_at : (xs : List X) (i : ℕ) → position p xs ≡ Some i → IsFirstAt p i xs
  first_at xs i e =
      let r = first_from xs 0 i (sym (position_from-zero p xs) ∙ e) in
      let same : r.0 ≡ i = omega (arith, r.1) in
      subst (λ n. IsFirstAt p n xs) same r.2

  pub none_at : (xs : List X) → position p xs ≡ None → list_any p xs ≡ false
  none_at xs e = none_from xs 0 (sym (position_from-zero p xs) ∙ e)

  pub any_at : (i : ℕ) (xs : List X) → IsFirstAt p i xs → list_any p xs ≡ true
  any_at i [] h = absurd h
  any_at zero (x ∷ xs) h = ap (λ b. b || list_any p xs) h
  any_at (suc i) (x ∷ xs) h = ap (λ b. b || list_any p xs) h.0 ∙ any_at i xs h.1

  -- those that are not found, without the first that is
  pub filter_removed : (q : X → Bool) → ((x : X) → q x ≡ not (p x)) → (i : ℕ) (xs : List X) → IsFirstAt p i xs → filter q (remove xs i) ≡ filter q xs
  filter_removed q opposite i [] h = absurd h
  filter_removed q opposite zero (x ∷ xs) h = ap (λ b. cond b (x ∷ filter q xs) (filter q xs)) (sym (opposite x ∙ ap not h))
  filter_removed q opposite (suc i) (x ∷ xs) h = ap (λ ys. cond (q x) (x ∷ ys) ys) (filter_removed q opposite i xs h.1)

module _ (s j t : ℕ) where
  -- where none is it, nothing is put back and all stay open
  pub not_open : (ts : List Transaction) → is_begun s j t ts ≡ false → (undo_in s j t ts ≡ []) × (ended s j t ts ≡ ts)
  not_open [] e = (refl, refl)
  not_open (x ∷ ts) e = go (is_it s j t x) e (not_open ts)
    where
      go : (b : Bool) → (b || is_begun s j t ts) ≡ false → (is_begun s j t ts ≡ false → (undo_in s j t ts ≡ []) × (ended s j t ts ≡ ts))
          → ((if b then x.undo else undo_in s j t ts) ≡ []) × (cond (not b) (x ∷ ended s j t ts) (ended s j t ts) ≡ x ∷ ts)
      go true e more = absurd (cc)
      go false e more = let r = more e in (r.0, ap (λ ys. x ∷ ys) r.1)

  -- so where something is to be put back, it is open
  pub open_if_some : (ts : List Transaction) → undo_in s j t ts ≢ [] → is_begun s j t ts ≡ true
  open_if_some ts some = go (is_begun s j t ts) refl
    where
      go : (b : Bool) → is_begun s j t ts ≡ b → is_begun s j t ts ≡ true
      go true e = e
      go false e = absurd (some (not_open ts e).0)

  -- an item more in the one at a place
  pub added_at : (u : Undo) (i : ℕ) (ts : List Transaction) (d : Transaction) → IsFirstAt (is_it s j t) i ts → undo_added s j t u ts ≡ set ts i (with_undo u (get_or ts i d))
  added_at u i [] d h = absurd h
  added_at u zero (x ∷ ts) d h = ap (λ b. if b then with_undo u x ∷ ts else x ∷ undo_added s j t u ts) h
  added_at u (suc i) (x ∷ ts) d h = ap (λ b. if b then with_undo u x ∷ ts else x ∷ undo_added s j t u ts) h.0 ∙ ap (λ ys. x ∷ ys) (added_at u i ts d h.1)

  -- what the one at a place would put back
  pub undo_at : (i : ℕ) (ts : List Transaction) (d : Transaction) → IsFirstAt (is_it s j t) i ts → undo_in s j t ts ≡ (get_or ts i d).undo
  undo_at i [] d h = absurd h
  undo_at zero (x ∷ ts) d h = ap (λ b. if b then x.undo else undo_in s j t ts) h
  undo_at (suc i) (x ∷ ts) d h = ap (λ b. if b then x.undo else undo_in s j t ts) h.0 ∙ undo_at i ts d h.1

module _ (session : ℕ) where
  -- the latest begun of a session, by its place
  pub first_undo_at : (i : ℕ) (ts : List Transaction) (d : Transaction) → IsFirstAt (is_of session) i ts → first_undo session ts ≡ Some (get_or ts i d).undo
  first_undo_at i [] d h = absurd h
  first_undo_at zero (x ∷ ts) d h = ap (λ b. if b then Some x.undo else first_undo session ts) h
  first_undo_at (suc i) (x ∷ ts) d h = ap (λ b. if b then Some x.undo else first_undo session ts) h.0 ∙ first_undo_at i ts d h.1

  pub without_first_at : (i : ℕ) (ts : List Transaction) → IsFirstAt (is_of session) i ts → without_first session ts ≡ remove ts i
  without_first_at i [] h = absurd h
  without_first_at zero (x ∷ ts) h = ap (λ b. if b then ts else x ∷ without_first session ts) h
  without_first_at (suc i) (x ∷ ts) h = ap (λ b. if b then ts else x ∷ without_first session ts) h.0 ∙ ap (λ ys. x ∷ ys) (without_first_at i ts h.1)

  -- where none is of the session
  pub no_first : (ts : List Transaction) → list_any (is_of session) ts ≡ false → (first_undo session ts ≡ None) × (without_first session ts ≡ ts)
  no_first [] e = (refl, refl)
  no_first (x ∷ ts) e = go (is_of session x) e (no_first ts)
    where
      go : (b : Bool) → (b || list_any (is_of session) ts) ≡ false → (list_any (is_of session) ts ≡ false → (first_undo session ts ≡ None) × (without_first session ts ≡ ts))
          → ((if b then Some x.undo else first_undo session ts) ≡ None) × ((if b then ts else x ∷ without_first session ts) ≡ x ∷ ts)
      go true e more = absurd (cc)
      go false e more = let r = more e in (r.0, ap (λ ys. x ∷ ys) r.1)

  -- with none of a session open, a Close changes nothing
  pub close_done : (ts : List Transaction) (m : Map) → first_undo session ts ≡ None → (session_undone session ts m ≡ m) × (session_spans session ts ≡ []) × (filter (is_elsewhere session) ts ≡ ts)
  close_done [] m e = (refl, refl, refl)
  close_done (x ∷ ts) m e = go (nat_eq x.session session) e (close_done ts m)
    where
      go : (b : Bool) → (if b then Some x.undo else first_undo session ts) ≡ None
          → (first_undo session ts ≡ None → (session_undone session ts m ≡ m) × (session_spans session ts ≡ []) × (filter (is_elsewhere session) ts ≡ ts))
          → (session_undone session ts (if b then all_undone m x.undo else m) ≡ m) × ((if b then map undo_span x.undo ++ session_spans session ts else session_spans session ts) ≡ [])
          × (cond (not b) (x ∷ filter (is_elsewhere session) ts) (filter (is_elsewhere session) ts) ≡ x ∷ ts)
      go true e more = absurd (cc)
      go false e more = let r = more e in (r.0, r.1, ap (λ ys. x ∷ ys) r.2)

  -- and none goes
  pub none_goes : (ts : List Transaction) → first_undo session ts ≡ None → without_first session ts ≡ ts
  none_goes [] e = refl
  none_goes (x ∷ ts) e = go (nat_eq x.session session) e (none_goes ts)
    where
      go : (b : Bool) → (if b then Some x.undo else first_undo session ts) ≡ None → (first_undo session ts ≡ None → without_first session ts ≡ ts) → (if b then ts else x ∷ without_first session ts) ≡ x ∷ ts
      go true e more = absurd (cc)
      go false e more = ap (λ ys. x ∷ ys) (more e)

  -- where one is found later, one was open at first
  pub found_at_first : (ts v : List Transaction) (us : List Undo) → first_undo session ts ≡ Some us → (first_undo session v ≡ None → ts ≡ v) → first_undo session v ≢ None
  found_at_first ts v us first still none =
      let same : ts ≡ v = still none in
      absurd (cc)

  -- else it undoes the latest begun first, and is then the Close of the others
  pub close_step : (ts : List Transaction) (us : List Undo) (m : Map) → first_undo session ts ≡ Some us
      → (session_undone session ts m ≡ session_undone session (without_first session ts) (all_undone m us))
      × (session_spans session ts ≡ map undo_span us ++ session_spans session (without_first session ts))
      × (filter (is_elsewhere session) ts ≡ filter (is_elsewhere session) (without_first session ts))
      × (length (without_first session ts) < length ts)
  close_step [] us m e = absurd (cc)
  close_step (x ∷ ts) us m e = go (nat_eq x.session session) refl e (close_step ts us m)
    where
      go : (b : Bool) → nat_eq x.session session ≡ b → (if b then Some x.undo else first_undo session ts) ≡ Some us
          → (first_undo session ts ≡ Some us
          → (session_undone session ts m ≡ session_undone session (without_first session ts) (all_undone m us))
          × (session_spans session ts ≡ map undo_span us ++ session_spans session (without_first session ts))
          × (filter (is_elsewhere session) ts ≡ filter (is_elsewhere session) (without_first session ts))
          × (length (without_first session ts) < length ts))
          → (session_undone session ts (if b then all_undone m x.undo else m) ≡ session_undone session (if b then ts else x ∷ without_first session ts) (all_undone m us))
          × ((if b then map undo_span x.undo ++ session_spans session ts else session_spans session ts) ≡ map undo_span us ++ session_spans session (if b then ts else x ∷ without_first session ts))
          × (cond (not b) (x ∷ filter (is_elsewhere session) ts) (filter (is_elsewhere session) ts) ≡ filter (is_elsewhere session) (if b then ts else x ∷ without_first session ts))
          × (length (if b then ts else x ∷ without_first session ts) < length (x ∷ ts))
      go true f e more = let same : x.undo ≡ us = cc in (ap (λ vs. session_undone session ts (all_undone m vs)) same, ap (λ vs. map undo_span vs ++ session_spans session ts) same, refl, omega arith)
      go false f e more =
          let r = more e in
          let left = without_first session ts in (
            r.0 ∙ ap (λ b. session_undone session left (if b then all_undone (all_undone m us) x.undo else all_undone m us)) (sym f),
            r.1 ∙ ap (λ b. map undo_span us ++ (if b then map undo_span x.undo ++ session_spans session left else session_spans session left)) (sym f),
            ap (λ ys. x ∷ ys) r.2 ∙ ap (λ b. cond (not b) (x ∷ filter (is_elsewhere session) left) (filter (is_elsewhere session) left)) (sym f),
            omega (arith, r.3),
          )

  -- the same of what a loop keeps
  module _ (ts left : List Transaction) (us : List Undo) (m n : Map) (xs ys : List Span) (first : first_undo session ts ≡ Some us) (rest : left ≡ without_first session ts) (back : n ≡ all_undone m us)
      (told : ys ≡ xs ++ map undo_span us) where
    pub undone_still : session_undone session left n ≡ session_undone session ts m
    undone_still = ap₂ (λ (l : List Transaction) (q : Map). session_undone session l q) rest back ∙ sym (close_step ts us m first).0

    pub told_still : ys ++ session_spans session left ≡ xs ++ session_spans session ts
    told_still =
        ap₂ (λ (zs : List Span) (l : List Transaction). zs ++ session_spans session l) told rest
        ∙ append_assoc xs (map undo_span us) (session_spans session (without_first session ts))
        ∙ ap (λ zs. xs ++ zs) (sym (close_step ts us m first).1)

    pub open_still : filter (is_elsewhere session) left ≡ filter (is_elsewhere session) ts
    open_still = ap (filter (is_elsewhere session)) rest ∙ sym (close_step ts us m first).2

    pub fewer_left : length left < length ts
    fewer_left = subst (λ (l : List Transaction). length l < length ts) (sym rest) (close_step ts us m first).3

module _ (s j t : ℕ) (u : Undo) (ts v : List Transaction) (same : ts ≡ v) (some : t ≡ 0 → ⊥) where
  note_of : (b : Bool) → is_begun s j t v ≡ b → noted s j t (Some u) v ≡ (if b then undo_added s j t u v else beginning s j t u ∷ v)
  note_of b e =
      ap (λ z. if z then v else (if is_begun s j t v then undo_added s j t u v else beginning s j t u ∷ v)) (apart t 0 some)
      ∙ ap (λ z. if z then undo_added s j t u v else beginning s j t u ∷ v) e

  -- an item noted in the transaction at a place
  pub noted_at : (i : ℕ) (x y : Transaction) → position (is_it s j t) v ≡ Some i → x ≡ slice_index_or ts i x → y ≡ with_undo u x → slice_set ts i y ≡ noted s j t (Some u) v
  noted_at i x y e got is =
      let here = first_at (is_it s j t) v i e in
      ap (λ l. slice_set l i y) same
      ∙ ap (set v i) (is ∙ ap (with_undo u) (got ∙ ap (λ l. slice_index_or l i x) same))
      ∙ sym (added_at s j t u i v x here)
      ∙ sym (note_of true (any_at (is_it s j t) i v here))

  -- or in one that it begins
  pub noted_new : (ys : List Transaction) → position (is_it s j t) v ≡ None → ys ≡ beginning s j t u ∷ v → ys ≡ noted s j t (Some u) v
  noted_new ys e is = is ∙ sym (note_of false (none_at (is_it s j t) v e))
