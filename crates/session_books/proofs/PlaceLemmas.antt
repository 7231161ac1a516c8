-- The first place that a test finds, in a list with one entry more.
use Rattle.std.proofs.Common.{◌≡◌, ◌∙◌, ◌<◌, ◌≤◌, ◌+◌, ℕ, suc, max, Bool, true, false, if◌then◌else◌, nat_eq, List, [], ◌∷◌, ◌++◌, length, Some, None, refl, ap, arith}
use Rattle.std.proofs.lemmas.Bool.{eqb-true, and_parts}
use Rattle.plain_orders.specs.declared.entry.Entry.{Entry}
use Rattle.plain_orders.specs.declared.entry.Entry.TheVariants.{Epoch, Opened, Closed, Update, Commit, Rollback}
use Rattle.plain_orders.specs.Entries.{count_from, w_in}
use Rattle.plain_orders.specs.ItemEntries.{is_item_at}
use Rattle.plain_orders.proofs.Places.{count_from_low}
use Rattle.session_books.specs.Places.{place_from}

module _ (test : Entry → Bool) where
  -- an entry that is not found
  pub place_quiet : (k : ℕ) (es : List Entry) (e : Entry) → test e ≡ false → place_from test k (es ++ e ∷ []) ≡ place_from test k es
  place_quiet k [] e f = ap (λ b. if b then Some (k + 1) else None) f
  place_quiet k (x ∷ es) e f = ap (λ o. if test x then Some (k + 1) else o) (place_quiet (k + 1) es e f)

  -- the first that is found
  pub place_last : (k : ℕ) (es : List Entry) (e : Entry) → place_from test k es ≡ None → test e ≡ true → place_from test k (es ++ e ∷ []) ≡ Some (k + length es + 1)
  place_last k [] e n t = let same : k + 1 ≡ k + 0 + 1 = omega arith in ap (λ b. if b then Some (k + 1) else None) t ∙ ap Some same
  place_last k (x ∷ es) e n t = go (test x) n (place_last (k + 1) es e)
    where
      go : (b : Bool) → (if b then Some (k + 1) else place_from test (k + 1) es) ≡ None → (place_from test (k + 1) es ≡ None → test e ≡ true → place_from test (k + 1) (es ++ e ∷ []) ≡ Some (k + 1 + length es + 1))
          → (if b then Some (k + 1) else place_from test (k + 1) (es ++ e ∷ [])) ≡ Some (k + length (x ∷ es) + 1)
      go true n more = absurd (cc)
      go false n more = let same : k + 1 + length es + 1 ≡ k + suc (length es) + 1 = omega arith in more n t ∙ ap Some same

  -- a place is one of the list
  pub place_within : (k : ℕ) (es : List Entry) (at : ℕ) → place_from test k es ≡ Some at → (k < at) × (at ≤ k + length es)
  place_within k [] at h = absurd (cc)
  place_within k (x ∷ es) at h = go (test x) h (place_within (k + 1) es at)
    where
      go : (b : Bool) → (if b then Some (k + 1) else place_from test (k + 1) es) ≡ Some at → (place_from test (k + 1) es ≡ Some at → (k + 1 < at) × (at ≤ k + 1 + length es)) → (k < at) × (at ≤ k + length (x ∷ es))
      go true h more = let same : k + 1 ≡ at = cc in (omega arith, omega arith)
      go false h more = let r = more h in (omega (arith, r.0), omega (arith, r.1))

-- the item of a session has its running number
pub item_w : (s w : ℕ) (e : Entry) → is_item_at s w e ≡ true → w_in s e ≡ w
item_w s w (Epoch number) h = absurd (cc)
item_w s w (Opened session app) h = absurd (cc)
item_w s w (Closed session) h = absurd (cc)
item_w s w (Update session v job txn op) h = let p = and_parts (nat_eq session s) (nat_eq v w) h in ap (λ b. if b then v else 0) p.0 ∙ eqb-true v w p.1
item_w s w (Commit session v job txn) h = let p = and_parts (nat_eq session s) (nat_eq v w) h in ap (λ b. if b then v else 0) p.0 ∙ eqb-true v w p.1
item_w s w (Rollback session v job txn) h = let p = and_parts (nat_eq session s) (nat_eq v w) h in ap (λ b. if b then v else 0) p.0 ∙ eqb-true v w p.1

-- no item stands above the count
pub none_above : (s w k n : ℕ) (es : List Entry) → count_from n es s < w → place_from (is_item_at s w) k es ≡ None
none_above s w k n [] low = refl
none_above s w k n (x ∷ es) low = go (is_item_at s w x) refl (none_above s w (k + 1) (max n (w_in s x)) es low)
  where
    go : (b : Bool) → is_item_at s w x ≡ b → place_from (is_item_at s w) (k + 1) es ≡ None → (if b then Some (k + 1) else place_from (is_item_at s w) (k + 1) es) ≡ None
    go true e more = absurd (let is : w_in s x ≡ w = item_w s w x e in let up = count_from_low (max n (w_in s x)) es s in omega arith)
    go false e more = more
