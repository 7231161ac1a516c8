-- What was put in each order stays coherent where no data server puts more.
use Rattle.std.proofs.Common.{◌≡◌, ◌≤◌, ◌<◌, ℕ, Bool, true, false, List, [], refl, sym, ◌∙◌, ap, subst, arith}
use Rattle.std.specs.Prelude.{nat_lt}
use Rattle.std.proofs.lemmas.Bool.{false≢true, ltb-true, ltb-false}
use Rattle.plain_orders.specs.declared.entry.Entry.{Entry}
use Rattle.block_holders.specs.declared.noted.Noted.{Noted}
use Rattle.std.specs.List.{list_any}
use Rattle.block_holders.specs.HolderWords.{is_noted_for}
use Rattle.plain_runs.specs.Plain.{Server, current, order_at}
use Rattle.data_rules.specs.DataState.{DataState}
use Rattle.cluster_runs.specs.Sent.{Lane, no_lane}
use Rattle.cluster_runs.specs.Machine.{Site}
use Rattle.cluster_invariant.specs.Coherence.{IsCoherent, NodeHeld, BlocksHold, IsHeld}
use Rattle.cluster_invariant.specs.Words.{stays_at}
use Rattle.coherence_kept.proofs.Grows.{OrdersOn, coherent_later}

-- what is coherent of a lane in an order
abbrev pub LaneCoherent : List Entry → ℕ → ℕ → Lane → Type 0
LaneCoherent es stays s lane = IsCoherent es stays s lane.front lane.down

-- of a lane to which nothing was put
pub none_coherent : (es : List Entry) (stays s : ℕ) → LaneCoherent es stays s no_lane
none_coherent es stays s = record {
  first = record { within = omega arith; counted = refl; synced = omega arith; below = omega arith };
  rising = tt;
  headers = tt;
  blocks = tt;
}

-- An order that was there, or one in which nothing was put yet.
pub lanes_later : (v w : Server) (x : Site) → OrdersOn v w → ((s k : ℕ) → current v < k → x.lane_at s k ≡ no_lane)
    → ((s k : ℕ) → k ≤ current v → LaneCoherent (order_at v k) (stays_at v k) s (x.lane_at s k))
    → (s k : ℕ) → LaneCoherent (order_at w k) (stays_at w k) s (x.lane_at s k)
lanes_later v w x on to_come lanes s k = go (nat_lt (current v) k) refl
  where
    go : (b : Bool) → nat_lt (current v) k ≡ b → LaneCoherent (order_at w k) (stays_at w k) s (x.lane_at s k)
    go false under =
        let low : k ≤ current v = ltb-false (current v) k under in
        coherent_later (order_at v k) (order_at w k) (stays_at v k) (stays_at w k) s (x.lane_at s k).front (x.lane_at s k).down (on.goes_on k low) (on.within k low)
        (on.stays k low) (lanes s k low)
    go true above = subst (λ (z : Lane). LaneCoherent (order_at w k) (stays_at w k) s z) (sym (to_come s k (ltb-true (current v) k above))) (none_coherent (order_at w k) (stays_at w k) s)

-- A node without notes, in whose order nothing was put.
pub none_held : (y : Site) (n : DataState) → n.noted ≡ [] → ((s : ℕ) → y.lane_at s y.past ≡ no_lane) → NodeHeld y n
none_held y n none empty = record {
  held =
      λ s lives. subst (λ (z : Lane). BlocksHold n.order (IsHeld n.order n.noted s) z.down) (sym (empty s)) tt;
  noted = λ s there. absurd (false≢true (sym (ap (λ (xs : List Noted). list_any (is_noted_for s) xs) none) ∙ there));
}

-- lanes alone count of a site
pub held_same : (x y : Site) (n : DataState) → ((s : ℕ) → y.lane_at s y.past ≡ x.lane_at s x.past) → NodeHeld x n → NodeHeld y n
held_same x y n same is = record {
  held = λ s lives. subst (λ (z : Lane). BlocksHold n.order (IsHeld n.order n.noted s) z.down) (sym (same s)) (is.held s lives);
  noted = is.noted;
}
