-- The order that an Epoch began last.
use Rattle.std.proofs.Common.{◌≡◌, ◌≢◌, ◌<◌, ◌≤◌, ◌+◌, ℕ, zero, suc, Bool, List, [], ◌∷◌, length, get_or, refl, sym, ◌∙◌, ap, subst, arith, if◌then◌else◌, ◌==◌}
use Rattle.std.proofs.lemmas.Bool.{eq-eqb, ne_eqb}
use Rattle.std.proofs.lemmas.List.{length-append}
use Rattle.plain_orders.specs.declared.entry.Entry.{Entry}
use Rattle.plain_orders.specs.Entries.{last_epoch}
use Rattle.plain_runs.specs.Plain.{Server, current, order_at, orders}
use Rattle.plain_runs.specs.EndRows.{begun_by, begun_from}

-- none of them began with it
none_begun : (epoch found i : ℕ) (os : List (List Entry)) → ((k : ℕ) → k < length os → epoch ≢ last_epoch (get_or os k [])) → begun_from epoch found i os ≡ found
none_begun epoch found i [] none = refl
none_begun epoch found i (o ∷ os) none =
    none_begun epoch (if last_epoch o == epoch then i else found) (i + 1) os (λ k low. subst (λ n. epoch ≢ last_epoch (get_or (o ∷ os) n [])) (one k) (none (suc k) (omega (arith, low))))
    ∙ ap (λ (b : Bool). if b then i else found) (ne_eqb (last_epoch o) epoch (λ same. none zero (omega arith) (sym same)))
  where
    one : (k : ℕ) → suc k ≡ suc k
    one k = refl

begun_at : (epoch found i j : ℕ) (os : List (List Entry)) → j < length os → epoch ≡ last_epoch (get_or os j []) → ((k : ℕ) → j < k → k < length os → epoch ≢ last_epoch (get_or os k [])) → begun_from epoch found i os ≡ i + j
begun_at epoch found i j [] low its none = absurd (omega (arith, low))
begun_at epoch found i zero (o ∷ os) low its none =
    ap (λ (b : Bool). begun_from epoch (if b then i else found) (i + 1) os) (eq-eqb (last_epoch o) epoch (sym its))
    ∙ none_begun epoch i (i + 1) os (λ k under. none (suc k) (omega arith) (omega (arith, under))) ∙ omega arith
begun_at epoch found i (suc j) (o ∷ os) low its none =
    begun_at epoch (if last_epoch o == epoch then i else found) (i + 1) j os (omega (arith, low)) its (λ k later under. none (suc k) (omega (arith, later)) (omega (arith, under))) ∙ omega arith

-- An order that an Epoch began, where no later one did.
pub begun_is : (v : Server) (epoch j : ℕ) → j ≤ current v → epoch ≡ last_epoch (order_at v j) → ((k : ℕ) → j < k → k ≤ current v → epoch < last_epoch (order_at v k)) → begun_by v epoch ≡ j
begun_is v epoch j low its later =
    begun_at epoch 0 0 j (orders v) (omega (arith, low, count)) its
    (λ k above under same. absurd (omega (arith, same, later k above (omega (arith, under, count)))))
    ∙ omega arith
  where
    count : length (orders v) ≡ current v + 1
    count = length-append v.past (v.order ∷ [])
