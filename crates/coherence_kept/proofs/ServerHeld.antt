-- Where a data server's step begins: what was put to each live session, with the runs that it has; and past orders over the step.
use Rattle.std.proofs.Common.{◌≡◌, ◌≢◌, ◌≤◌, ◌&&◌, ◌||◌, ◌==◌, ℕ, Bool, true, false, cond, List, [], ◌∷◌, map, filter, refl, sym, ◌∙◌, ap, subst}
use Rattle.std.specs.List.{list_any}
use Rattle.subscript_keys.specs.declared.span.Span.{Span}
use Rattle.plain_orders.specs.declared.entry.Entry.{Entry}
use Rattle.plain_runs.specs.Plain.{Server, current, order_at}
use Rattle.end_words.specs.Runs.{same_span}
use Rattle.block_holders.specs.declared.noted.Noted.{Noted}
use Rattle.block_holders.specs.HolderWords.{is_noted}
use Rattle.ecp_messages.specs.declared.down.Down.{Down}
use Rattle.ecp_messages.specs.declared.front.Front.{Front}
use Rattle.data_rules.specs.DataState.{DataState}
use Rattle.data_rules.specs.declared.data_outs.DataOuts.{DataOuts}
use Rattle.cluster_runs.specs.Lanes.{is_noted_of, span_of}
use Rattle.cluster_runs.specs.Machine.{Site}
use Rattle.cluster_runs.specs.Sent.{Lane}
use Rattle.cluster_invariant.specs.Coherence.{BlocksHold, IsHeld, IsCoherent}
use Rattle.cluster_invariant.specs.Words.{stays_at}
use Rattle.link_kept.proofs.Later.{front_same}
use Rattle.link_kept.proofs.WindowsServer.{LanesGrow}
use Rattle.coherence_kept.proofs.CoherenceLater.{LaneCoherent}
use Rattle.coherence_kept.proofs.EntryDrops.{HeldBy, is_span}
use Rattle.coherence_kept.proofs.Grows.{OrdersOn, blocks_later, coherent_later}
use Rattle.coherence_kept.proofs.Joined.{Held}

-- the spans that are noted for a session
abbrev pub spans_for : ℕ → List Noted → List Span
spans_for s xs = map span_of (filter (is_noted_of s) xs)

-- a note of a session, by its span alone
pub noted_for : (s : ℕ) (p : Span) (xs : List Noted) → is_noted s p xs ≡ list_any (is_span p) (spans_for s xs)
noted_for s p [] = refl
noted_for s p (x ∷ xs) = go (x.session == s) (noted_for s p xs)
  where
    go : (b : Bool) → is_noted s p xs ≡ list_any (is_span p) (spans_for s xs)
        → ((b && same_span x.span p) || is_noted s p xs) ≡ list_any (is_span p) (map span_of (cond b (x ∷ filter (is_noted_of s) xs) (filter (is_noted_of s) xs)))
    go true more = ap (λ (c : Bool). same_span x.span p || c) more
    go false more = more

-- What was put to a session, with what its data server has for it, by its spans alone.
pub session_held : (es : List Entry) (noted : List Noted) (stays s : ℕ) (f : Front) (down : List Down) → IsCoherent es stays s f down → BlocksHold es (IsHeld es noted s) down
    → Held es stays s (HeldBy es (spans_for s noted)) f down
session_held es noted stays s f down is blocks = record {
  first = is.first;
  rising = is.rising;
  headers = is.headers;
  blocks =
      blocks_later es es stays s (IsHeld es noted s) (HeldBy es (spans_for s noted)) down (front_same es) is.headers
      (λ r h. record { noted = sym (noted_for s r.span noted) ∙ h.is_noted; is_wide = h.is_wide; is_true = h.is_true }) blocks;
}

-- and back, as a step ends
pub held_session : (es : List Entry) (noted : List Noted) (stays s : ℕ) (f : Front) (down : List Down) → Held es stays s (HeldBy es (spans_for s noted)) f down
    → BlocksHold es (IsHeld es noted s) down
held_session es noted stays s f down h =
    blocks_later es es stays s (HeldBy es (spans_for s noted)) (IsHeld es noted s) down (front_same es) h.headers
    (λ r is. record { is_noted = noted_for s r.span noted ∙ is.noted; is_wide = is.is_wide; is_true = is.is_true }) h.blocks

-- What was put in past orders stays coherent over a step of the data server.
pub past_coherent : (v w : Server) (old new : DataState) (outs : DataOuts) (x y : Site) → OrdersOn v w → LanesGrow old new outs x y → (s k : ℕ) → k ≤ current v → k ≢ x.past
    → LaneCoherent (order_at v k) (stays_at v k) s (x.lane_at s k) → LaneCoherent (order_at w k) (stays_at w k) s (y.lane_at s k)
past_coherent v w old new outs x y on grow s k low other h =
    subst (λ (z : Lane). LaneCoherent (order_at w k) (stays_at w k) s z) (sym (grow.others s k other))
    (coherent_later (order_at v k) (order_at w k) (stays_at v k) (stays_at w k) s (x.lane_at s k).front (x.lane_at s k).down (on.goes_on k low) (on.within k low) (on.stays k low) h)
