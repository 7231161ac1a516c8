-- A plain server that goes on by its current order: the orders before it stay as they are.
use Rattle.std.proofs.Common.{◌≡◌, ◌≢◌, ◌<◌, ◌⊎◌, inl, inr, ℕ, ◌+◌, ◌-◌, List, [], ◌∷◌, length, get_or, sym, ◌∙◌, ap, arith}
use Rattle.plain_orders.specs.declared.entry.Entry.{Entry}
use Rattle.plain_runs.specs.Plain.{Server, current, order_at}
use Rattle.std.proofs.lemmas.List.{get_or_append_left}
use Rattle.data_rules.specs.Places.{epoch_place}
use Rattle.cluster_invariant.specs.Words.{stays_at}
use Rattle.cluster_invariant.proofs.PastOrders.{order_now, past_stays}
use Rattle.link_kept.proofs.WindowsGo.{same_or}

module _ (v w : Server) (past : w.past ≡ v.past) where
  pub same_now : current w ≡ current v
  same_now = ap (λ (xs : List (List Entry)). length xs) past

  pub order_before : (k : ℕ) → k < current v → order_at w k ≡ order_at v k
  order_before k low =
      get_or_append_left w.past (w.order ∷ []) [] k (omega (arith, low, same_now)) ∙ ap (λ (xs : List (List Entry)). get_or xs k []) past
      ∙ sym (get_or_append_left v.past (v.order ∷ []) [] k low)

  pub left_before : epoch_place w.order ≡ epoch_place v.order → (k : ℕ) → k < current v → stays_at w k ≡ stays_at v k
  left_before place k low =
      past_stays w k (λ same. absurd (omega (arith, same, low, same_now))) ∙ ap (λ (n : ℕ). n - 1) (go (same_or (k + 1) (current v)))
      ∙ sym (past_stays v k (λ same. absurd (omega (arith, same, low))))
    where
      go : (k + 1 ≡ current v) ⊎ (k + 1 ≢ current v) → epoch_place (order_at w (k + 1)) ≡ epoch_place (order_at v (k + 1))
      go (inl same) =
          ap epoch_place (ap (order_at w) (same ∙ sym same_now) ∙ order_now w) ∙ place ∙ sym (ap epoch_place (ap (order_at v) same ∙ order_now v))
      go (inr apart) = ap epoch_place (order_before (k + 1) (omega (arith, low, apart)))
