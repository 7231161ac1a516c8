-- A session that a data server's step closes: what was put to it up to its Close is coherent.
use Rattle.std.proofs.Common.{◌≡◌, ◌≤◌, ℕ, Bool, true, List, [], ◌∷◌, ◌++◌, length, drop, sym, ◌∙◌, ap, subst, arith}
use Rattle.std.proofs.lemmas.List.{append_assoc, length-append}
use Rattle.std.proofs.Math.Seq.{drop-append_seam}
use Rattle.plain_orders.specs.declared.entry.Entry.{Entry}
use Rattle.plain_orders.specs.Ordered.{IsOrdered}
use Rattle.plain_orders.proofs.OrderLemmas.{ordered-front, ordered-last}
use Rattle.data_rules.specs.DataState.{DataState}
use Rattle.data_rules.specs.declared.down_frames.DownOut.{DownOut}
use Rattle.cluster_runs.specs.Lanes.{downs_given, drops_until, is_closed_by, notes_of, with_data_step}
use Rattle.cluster_runs.specs.Sent.{Lane}
use Rattle.cluster_invariant.specs.Coherence.{BlocksHold, IsHeld, IsCoherent}
use Rattle.cluster_invariant.specs.Words.{IsFront}
use Rattle.link_kept.proofs.Later.{front_same}
use Rattle.coherence_kept.proofs.CoherenceLater.{LaneCoherent}
use Rattle.coherence_kept.proofs.Grows.{coherent_later}
use Rattle.coherence_kept.proofs.ServerHeld.{session_held, spans_for}
use Rattle.coherence_kept.proofs.StepHeld.{MayAll, closed_coherent}

-- each entry of an ordered list may follow those before it
pub may_all : (us es : List Entry) → IsOrdered (us ++ es) → MayAll us es
may_all us [] o = tt
may_all us (e ∷ es) o = go (subst IsOrdered (sym (append_assoc us (e ∷ []) es)) o) (may_all (us ++ e ∷ []) es)
  where
    go : IsOrdered ((us ++ e ∷ []) ++ es) → (IsOrdered ((us ++ e ∷ []) ++ es) → MayAll (us ++ e ∷ []) es) → MayAll us (e ∷ es)
    go all more = (ordered-last us e (ordered-front (us ++ e ∷ []) es all), more all)

-- What was put to a session that the step closed is coherent in the order after it.
pub closed_after : (old new : DataState) (frames : List DownOut) (lane : Lane) (s stays more : ℕ) → IsFront old.order new.order → IsOrdered new.order → old.synced ≤ stays
    → stays ≤ length old.order → stays ≤ more → LaneCoherent old.order stays s lane → BlocksHold old.order (IsHeld old.order old.noted s) lane.down
    → is_closed_by old new s ≡ true → LaneCoherent new.order more s (with_data_step old new frames s lane)
closed_after old new frames lane s stays more front ordered synced within low is blocks closed =
    subst (λ (b : Bool). IsCoherent new.order more s lane.front (lane.down ++ downs_given b old new s)) (sym closed)
    (coherent_later new.order new.order stays more s lane.front (lane.down ++ drops_until s (notes_of old s) es) (front_same new.order)
    (omega (arith, within, ap (λ (xs : List Entry). length xs) goes_on, length-append old.order es)) low
    (subst (λ (xs : List Entry). IsCoherent xs stays s lane.front (lane.down ++ drops_until s (notes_of old s) es)) (sym goes_on)
    (closed_coherent s old.synced stays lane.front synced old.order (spans_for s old.noted) lane.down es within
    (ordered-front old.order es (subst IsOrdered goes_on ordered)) (may_all old.order es (subst IsOrdered goes_on ordered))
    (session_held old.order old.noted stays s lane.front lane.down is blocks))))
  where
    es : List Entry
    es = drop (length old.order) new.order

    goes_on : new.order ≡ old.order ++ es
    goes_on = front.1 ∙ ap (λ (xs : List Entry). old.order ++ xs) (sym (ap (drop (length old.order)) front.1 ∙ drop-append_seam old.order front.0))
