-- The orders of a plain server go on by the deeds of its data server, and no less of them stays.
use Rattle.std.proofs.Common.{◌≡◌, ◌≢◌, ◌≤◌, ◌<◌, ℕ, ◌+◌, Bool, true, false, List, [], ◌∷◌, length, get_or, refl, sym, ◌∙◌, ap, subst, arith, ◌==◌}
use Rattle.std.specs.List.{AllByRecursion}
use Rattle.std.proofs.lemmas.Bool.{eqb-true, eq-eqb, false≢true}
use Rattle.std.proofs.lemmas.List.{get_or_append_left}
use Rattle.plain_orders.specs.declared.entry.Entry.{Entry}
use Rattle.plain_runs.specs.Plain.{Server, current, order_at}
use Rattle.data_rules.specs.Places.{epoch_place}
use Rattle.cluster_invariant.specs.Orders.{OrdersAgree}
use Rattle.cluster_invariant.specs.Words.{IsFront, stays_at}
use Rattle.cluster_invariant.proofs.Deeds.{Deed, DeedIs, deeds_grow, order_by}
use Rattle.cluster_invariant.proofs.Written.{place_kept}
use Rattle.link_kept.proofs.Later.{front_same}
use Rattle.cluster_invariant.proofs.PastOrders.{now_stays, order_now, past_stays, stays_within}
use Rattle.coherence_kept.proofs.Grows.{OrdersOn}

-- The orders of a plain server go on by the deeds of its data server.
pub deeds_on : (v w : Server) (ds : List Deed) → OrdersAgree v → AllByRecursion DeedIs ds → w.past ≡ v.past → w.order ≡ order_by ds v.order → v.synced ≤ w.synced
    → OrdersOn v w
deeds_on v w ds agree may past order synced = record {
  goes_on = λ k low. goes_on k (k == current v) refl low;
  within = stays_within v agree;
  stays = λ k low. stays k (k == current v) refl low;
}
  where
    now : current w ≡ current v
    now = ap (λ (xs : List (List Entry)). length xs) past

    here : order_at w (current v) ≡ order_by ds v.order
    here = ap (order_at w) (sym now) ∙ order_now w ∙ order

    below : (k : ℕ) → k ≤ current v → (k == current v) ≡ false → k < current v
    below k low other = go (λ same. false≢true (sym other ∙ eq-eqb k (current v) same))
      where
        go : k ≢ current v → k < current v
        go apart = omega (arith, low, apart)

    before : (k : ℕ) → k < current v → order_at w k ≡ order_at v k
    before k low =
        get_or_append_left w.past (w.order ∷ []) [] k (omega (arith, low, now)) ∙ ap (λ (xs : List (List Entry)). get_or xs k []) past
        ∙ sym (get_or_append_left v.past (v.order ∷ []) [] k low)

    goes_on : (k : ℕ) (b : Bool) → (k == current v) ≡ b → k ≤ current v → IsFront (order_at v k) (order_at w k)
    goes_on k true same low =
        subst (λ (n : ℕ). IsFront (order_at v n) (order_at w n)) (sym (eqb-true k (current v) same))
        (subst (λ (es : List Entry). IsFront es (order_at w (current v))) (sym (order_now v))
        (subst (λ (es : List Entry). IsFront v.order es) (sym here) (deeds_grow ds v.order)))
    goes_on k false other low =
        subst (λ (es : List Entry). IsFront (order_at v k) es) (sym (before k (below k low other))) (front_same (order_at v k))

    places : (k : ℕ) (b : Bool) → (k == current v) ≡ b → k ≤ current v → epoch_place (order_at w k) ≡ epoch_place (order_at v k)
    places k true same low =
        subst (λ (n : ℕ). epoch_place (order_at w n) ≡ epoch_place (order_at v n)) (sym (eqb-true k (current v) same))
        (ap epoch_place here ∙ place_kept ds v.order may ∙ ap epoch_place (sym (order_now v)))
    places k false other low = ap epoch_place (before k (below k low other))

    stays_here : (u : Server) (k : ℕ) → k ≡ current u → stays_at u k ≡ u.synced
    stays_here u k same = ap (stays_at u) same ∙ now_stays u

    stays : (k : ℕ) (b : Bool) → (k == current v) ≡ b → k ≤ current v → stays_at v k ≤ stays_at w k
    stays k true same low = omega (arith, stays_here v k (eqb-true k (current v) same), stays_here w k (eqb-true k (current v) same ∙ sym now), synced)
    stays k false other low = go (below k low other)
      where
        go : k < current v → stays_at v k ≤ stays_at w k
        go less =
            omega (
              arith,
              past_stays v k (λ same. absurd (omega (arith, same, less))),
              past_stays w k (λ same. absurd (omega (arith, same, less, now))),
              places (k + 1) (k + 1 == current v) refl (omega (arith, less)),
            )
