-- What the Welcome of a new epoch says stays so while the order that runs goes on.
use Rattle.std.proofs.Common.{◌≡◌, ◌≤◌, ◌<◌, ℕ, None, sym, ◌∙◌, ap, subst, arith}
use Rattle.plain_orders.specs.Entries.{last_epoch}
use Rattle.plain_orders.specs.Sessions.{place_of_epoch}
use Rattle.plain_runs.specs.Plain.{Server, current, order_at}
use Rattle.ecp_messages.specs.declared.front.Front.{Front}
use Rattle.cluster_runs.specs.Machine.{Site}
use Rattle.cluster_invariant.specs.Link.{SaysEpoch}
use Rattle.cluster_invariant.specs.Words.{stays_at}
use Rattle.link_kept.proofs.Later.{Later, header_later, place_later}

pub says_stays : (v w : Server) (x : Site) → Later x v w → current w ≡ current v → (s k j epoch kept : ℕ) (front : Front) → (x.lane_at s j).began ≡ None
    → SaysEpoch v s k j epoch kept front → SaysEpoch w s k j epoch kept front
says_stays v w x later now s k j epoch kept front unlearnt says = record {
  later = says.later;
  there = omega (arith, says.there, later.there);
  its_epoch = says.its_epoch ∙ sym (later.last j says.there);
  stays = omega (arith, says.stays, later.place j says.there, later.stays j says.there);
  only = λ i above low. subst (λ (n : ℕ). epoch < n) (sym (later.last i (omega (arith, low, now)))) (says.only i above (omega (arith, low, now)));
  place =
      ap (λ (n : ℕ). place_of_epoch n 0 (order_at w j)) (later.last k (omega (arith, says.later, says.there)))
      ∙ place_later (last_epoch (order_at v k)) (order_at v j) (order_at w j) kept (later.goes_on j says.there) says.place;
  kept_more = subst (λ (n : ℕ). n ≤ kept) (sym (later.left k (omega (arith, says.later, says.there)))) says.kept_more;
  kept_less = says.kept_less;
  header =
      header_later (order_at v j) (order_at w j) (stays_at v j) (stays_at w j) s front (later.goes_on j says.there) (later.within j says.there)
      (later.stays j says.there) says.header;
  counted = says.counted ∙ sym (later.counts s j says.there unlearnt);
}
