-- A live session's window in a step: what its lane had and what the step put behind it is coherent, with the runs that the session has.
use Rattle.std.proofs.Common.{◌≡◌, ◌≤◌, ℕ, List, [], ◌∷◌, ◌++◌, ◌+◌, ◌-◌, max, length, drop, sym, ◌∙◌, ap, subst, arith}
use Rattle.std.proofs.lemmas.List.{append_assoc, append-nil, length-append, drop-append-le, drop-drop}
use Rattle.std.proofs.Math.Seq.{drop-append_seam}
use Rattle.subscript_keys.specs.declared.span.Span.{Span}
use Rattle.plain_orders.specs.declared.entry.Entry.{Entry}
use Rattle.ecp_messages.specs.declared.down.Down.{Down}
use Rattle.end_words.specs.Windows.{Window, with_sent, with_ack, with_ack_put}
use Rattle.cluster_runs.specs.Sent.{Lane}
use Rattle.cluster_runs.specs.Lanes.{given_since}
use Rattle.cluster_runs.specs.WireDrops.{head}
use Rattle.cluster_invariant.specs.Coherence.{front_of, BlocksHold}
use Rattle.coherence_kept.proofs.EntryDrops.{HeldBy}
use Rattle.coherence_kept.proofs.Joined.{Held}
use Rattle.coherence_kept.proofs.StepHeld.{message_held}

-- what a step came to for a session, by its window
pub record PutHeld (lane : Lane) (es : List Entry) (stays s : ℕ) (spans : List Span) (w : Window Down) : Type 0 where
  -- what the step put
  pub more : List Down
  pub waiting : w.waiting ≡ drop w.acked (lane.down ++ more)
  pub acked : w.acked ≤ length lane.down
  pub held : Held es stays s (HeldBy es spans) lane.front (lane.down ++ more)

-- where a step begins nothing was put
pub put_first : (lane : Lane) (es : List Entry) (stays s : ℕ) (spans : List Span) (w : Window Down) → w.waiting ≡ drop w.acked lane.down → w.acked ≤ length lane.down
    → Held es stays s (HeldBy es spans) lane.front lane.down → PutHeld lane es stays s spans w
put_first lane es stays s spans w waiting acked held = record {
  more = [];
  waiting = waiting ∙ ap (drop w.acked) (sym (append-nil lane.down));
  acked = acked;
  held = subst (Held es stays s (HeldBy es spans) lane.front) (sym (append-nil lane.down)) held;
}

-- A numbered message at the whole length.
pub put_message : (lane : Lane) (es : List Entry) (synced stays s : ℕ) (spans : List Span) (w : Window Down) (m : Down) → synced ≤ stays → stays ≤ length es
    → front_of m ≡ head es es synced s → BlocksHold es (HeldBy es spans) (m ∷ []) → PutHeld lane es stays s spans w → PutHeld lane es stays s spans (with_sent w m)
put_message lane es synced stays s spans w m low within its blocks h = record {
  more = h.more ++ m ∷ [];
  waiting =
      ap (λ (ms : List Down). ms ++ m ∷ []) h.waiting
      ∙ sym (drop-append-le w.acked (lane.down ++ h.more) (m ∷ []) (omega (arith, h.acked, length-append lane.down h.more)))
      ∙ ap (drop w.acked) (append_assoc lane.down h.more (m ∷ []));
  acked = h.acked;
  held =
      subst (Held es stays s (HeldBy es spans) lane.front) (append_assoc lane.down h.more (m ∷ []))
      (message_held es synced stays s low within spans lane.front (lane.down ++ h.more) h.held m its blocks);
}

-- an acknowledgement that goes out with it
pub put_ack_put : (lane : Lane) (es : List Entry) (stays s : ℕ) (spans : List Span) (w : Window Down) → PutHeld lane es stays s spans w
    → PutHeld lane es stays s spans (with_ack_put w)
put_ack_put lane es stays s spans w h = record { more = h.more; waiting = h.waiting; acked = h.acked; held = h.held }

-- an acknowledgement that came
pub put_ack : (lane : Lane) (es : List Entry) (stays s : ℕ) (spans : List Span) (w : Window Down) (ack : ℕ) → ack ≤ length lane.down → PutHeld lane es stays s spans w
    → PutHeld lane es stays s spans (with_ack w ack)
put_ack lane es stays s spans w ack low h = record {
  more = h.more;
  waiting =
      ap (drop (ack - w.acked)) h.waiting ∙ drop-drop (ack - w.acked) w.acked (lane.down ++ h.more)
      ∙ ap (λ (n : ℕ). drop n (lane.down ++ h.more)) same;
  acked = omega (arith, low, h.acked);
  held = h.held;
}
  where
    same : w.acked + (ack - w.acked) ≡ max w.acked ack
    same = omega arith

-- What the window was given in the step is what was put in it.
pub put_given : (lane : Lane) (es : List Entry) (stays s : ℕ) (spans : List Span) (w : Window Down) (h : PutHeld lane es stays s spans w)
    → given_since (length lane.down) w ≡ h.more
put_given lane es stays s spans w h =
    ap (drop (length lane.down - w.acked)) h.waiting ∙ drop-drop (length lane.down - w.acked) w.acked (lane.down ++ h.more)
    ∙ ap (λ (n : ℕ). drop n (lane.down ++ h.more)) same ∙ drop-append_seam lane.down h.more
  where
    same : w.acked + (length lane.down - w.acked) ≡ length lane.down
    same = omega (arith, h.acked)
