-- The items of a job stand in order where those of its session do.
use Rattle.std.proofs.Common.{◌≡◌, ℕ, zero, suc, ◌<◌, ◌+◌, List, [], ◌∷◌, length, subst, sym, Bool, true, false, if◌then◌else◌, arith, ◌&&◌}
use Rattle.plain_orders.specs.declared.entry.Entry.{Entry}
use Rattle.plain_orders.specs.ItemEntries.{is_item_of, numbers, w_of}
use Rattle.plain_runs.specs.Laws.{count_up}
use Rattle.plain_runs.specs.Plain.{order_at}
use Rattle.plain_runs.specs.Laws.{server_after}
use Rattle.plain_runs.proofs.OrderLaws.{items_in_order}
use Rattle.trail_laws.specs.OrderLaw.{is_by, job_numbers, RiseAbove, JobsInOrder}

rise_lower : (k m : ℕ) (ns : List ℕ) → k < m → RiseAbove m ns → RiseAbove k ns
rise_lower k m [] low r = tt
rise_lower k m (n ∷ ns) low r = (omega (arith, r.0), r.1)

job_rises : (es : List Entry) (s j k n : ℕ) → numbers es s ≡ count_up k n → RiseAbove k (job_numbers es s j)
job_rises [] s j k n e = tt
job_rises (x ∷ es) s j k n e = go (is_item_of s x) n e (λ k n e. job_rises es s j k n e)
  where
    mine : (b : Bool) → k < w_of x → RiseAbove (w_of x) (job_numbers es s j) → RiseAbove k (if b then w_of x ∷ job_numbers es s j else job_numbers es s j)
    mine true above rest = (above, rest)
    mine false above rest = rise_lower k (w_of x) (job_numbers es s j) above rest

    go : (b : Bool) (n : ℕ) → (if b then w_of x ∷ numbers es s else numbers es s) ≡ count_up k n → ((k n : ℕ) → numbers es s ≡ count_up k n → RiseAbove k (job_numbers es s j))
        → RiseAbove k (if b && is_by j x then w_of x ∷ job_numbers es s j else job_numbers es s j)
    go false n e more = more k n e
    go true zero e more = absurd (cc (e))
    go true (suc n) e more =
        let first : w_of x ≡ k + 1 = cc (e) in
        mine (is_by j x) (omega (arith, first)) (subst (λ m. RiseAbove m (job_numbers es s j)) (sym first) (more (k + 1) n (cc (e))))

pub jobs_in_order : JobsInOrder
jobs_in_order l acts d k session job run = job_rises (order_at (server_after l acts d) k) session job 0 (length (numbers (order_at (server_after l acts d) k) session)) (items_in_order l acts d k session run)
