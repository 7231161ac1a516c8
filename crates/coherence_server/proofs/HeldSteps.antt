-- What was put to each live session is coherent while a step of its data server goes on.
use Rattle.std.proofs.Common.{◌≡◌, ◌≢◌, ◌≤◌, ◌⊎◌, inl, inr, ℕ, true, List, [], ◌∷◌, ◌++◌, length, filter, drop, refl, sym, ◌∙◌, ap, subst, arith}
use Rattle.std.proofs.lemmas.List.{append_assoc, length-append, drop-append-le}
use Rattle.plain_orders.specs.declared.entry.Entry.{Entry}
use Rattle.plain_orders.specs.Entries.{live}
use Rattle.plain_orders.specs.Ordered.{IsOrdered, MayFollow}
use Rattle.subscript_keys.specs.declared.span.Span.{Span}
use Rattle.ecp_messages.specs.declared.down.Down.{Down}
use Rattle.end_words.specs.Windows.{Window}
use Rattle.block_holders.specs.declared.noted.Noted.{Noted}
use Rattle.block_holders.specs.HolderWords.{touched}
use Rattle.data_rules.specs.DataState.{DataState, SessionWindow}
use Rattle.data_rules.specs.Entering.{appends, spans_of, with_entry}
use Rattle.data_rules.specs.Puts.{Sofar, becomes, set_window, window_in, window_of}
use Rattle.cluster_runs.specs.Sent.{Lane}
use Rattle.cluster_runs.specs.WireDrops.{drops_of, is_met, is_unmet}
use Rattle.cluster_invariant.specs.Coherence.{IsHeader}
use Rattle.cluster_invariant.proofs.PutLaws.{Appended, appends_state}
use Rattle.link_kept.proofs.WindowLists.{set_elsewhere, set_here}
use Rattle.link_kept.proofs.WindowsGo.{same_or}
use Rattle.coherence_kept.proofs.EntryDrops.{HeldBy, entry_held}
use Rattle.coherence_kept.proofs.Joined.{Held}
use Rattle.coherence_kept.proofs.ServerHeld.{spans_for}
use Rattle.coherence_kept.proofs.WindowHeld.{PutHeld}
use Rattle.coherence_server.proofs.SentWindows.{Sent, drops_sent, spans_touched, spans_untouched}

-- one session
abbrev pub HeldOf : (ℕ → Lane) → ℕ → DataState → ℕ → Type 0
HeldOf lane_of stays d s = PutHeld (lane_of s) d.order stays s (spans_for s d.noted) (window_of d s)

-- What a step came to: so much of the order stays, and what was put to each live session is coherent.
pub record HeldIn (lane_of : ℕ → Lane) (stays : ℕ) (es : List Entry) (synced : ℕ) (xs : List Noted) (ws : List SessionWindow) : Type 0 where
  pub ordered : IsOrdered es
  pub low : synced ≤ stays
  pub within : stays ≤ length es
  pub first : (s : ℕ) → IsHeader es stays s (lane_of s).front
  pub each : (s : ℕ) → live es s ≡ true → PutHeld (lane_of s) es stays s (spans_for s xs) (window_in ws s)

-- of a state
abbrev pub HeldGo : (ℕ → Lane) → ℕ → DataState → Type 0
HeldGo lane_of stays d = HeldIn lane_of stays d.order d.synced d.noted d.windows

-- a state with the same order, notes and windows, and as much synced
pub record SameHeld (d e : DataState) : Type 0 where
  pub order : e.order ≡ d.order
  pub synced : e.synced ≡ d.synced
  pub noted : e.noted ≡ d.noted
  pub windows : e.windows ≡ d.windows

pub held_same : (lane_of : ℕ → Lane) (stays : ℕ) (d e : DataState) → SameHeld d e → HeldGo lane_of stays d → HeldGo lane_of stays e
held_same lane_of stays d e same h = record {
  ordered = subst IsOrdered (sym same.order) h.ordered;
  low = omega (arith, same.synced, h.low);
  within = omega (arith, ap (λ (es : List Entry). length es) same.order, h.within);
  first = λ s. subst (λ (es : List Entry). IsHeader es stays s (lane_of s).front) (sym same.order) (h.first s);
  each =
      λ s lives.
      subst (λ (es : List Entry). PutHeld (lane_of s) es stays s (spans_for s e.noted) (window_of e s)) (sym same.order)
      (subst (λ (xs : List Noted). PutHeld (lane_of s) d.order stays s (spans_for s xs) (window_of e s)) (sym same.noted)
      (subst (λ (ws : List SessionWindow). PutHeld (lane_of s) d.order stays s (spans_for s d.noted) (window_in ws s)) (sym same.windows)
      (h.each s (sym (ap (λ (es : List Entry). live es s) same.order) ∙ lives))));
}

-- a window in place of a live session's
pub held_set : (lane_of : ℕ → Lane) (stays : ℕ) (d : DataState) (q : ℕ) (w : Window Down) → (live d.order q ≡ true → PutHeld (lane_of q) d.order stays q (spans_for q d.noted) w)
    → HeldGo lane_of stays d → HeldGo lane_of stays (record d { windows = set_window d.windows q w })
held_set lane_of stays d q w new h = record {
  ordered = h.ordered;
  low = h.low;
  within = h.within;
  first = h.first;
  each = λ s lives. each s lives (same_or s q);
}
  where
    each : (s : ℕ) → live d.order s ≡ true → (s ≡ q) ⊎ (s ≢ q) → PutHeld (lane_of s) d.order stays s (spans_for s d.noted) (window_in (set_window d.windows q w) s)
    each s lives (inl same) =
        subst (λ (k : ℕ). PutHeld (lane_of k) d.order stays k (spans_for k d.noted) (window_in (set_window d.windows q w) k)) (sym same)
        (subst (λ (u : Window Down). PutHeld (lane_of q) d.order stays q (spans_for q d.noted) u) (sym (set_here d.windows q w)) (new (ap (live d.order) (sym same) ∙ lives)))
    each s lives (inr apart) =
        subst (λ (u : Window Down). PutHeld (lane_of s) d.order stays s (spans_for s d.noted) u) (sym (set_elsewhere d.windows q s w apart)) (h.each s lives)

-- messages that were sent behind those that were put
pub sent_held : (lane : Lane) (es fs : List Entry) (stays s : ℕ) (spans more : List Span) (w u : Window Down) (ms : List Down) → (h : PutHeld lane es stays s spans w) → Sent w u ms
    → Held fs stays s (HeldBy fs more) lane.front ((lane.down ++ h.more) ++ ms) → PutHeld lane fs stays s more u
sent_held lane es fs stays s spans more w u ms h sent held = record {
  more = h.more ++ ms;
  waiting =
      sent.waiting ∙ ap (λ (l : List Down). l ++ ms) h.waiting
      ∙ sym (drop-append-le w.acked (lane.down ++ h.more) ms (omega (arith, h.acked, length-append lane.down h.more)))
      ∙ ap (drop w.acked) (append_assoc lane.down h.more ms) ∙ ap (λ (n : ℕ). drop n (lane.down ++ (h.more ++ ms))) (sym sent.acked);
  acked = omega (arith, sent.acked, h.acked);
  held = subst (Held fs stays s (HeldBy fs more) lane.front) (append_assoc lane.down h.more ms) held;
}

-- An entry with its Drops, for one session.
pub append_held : (lane_of : ℕ → Lane) (stays : ℕ) (e : Entry) (b : Sofar) (s : ℕ) → IsOrdered b.state.order → MayFollow b.state.order e → b.state.synced ≤ stays
    → stays ≤ length b.state.order → HeldOf lane_of stays b.state s → HeldOf lane_of stays (appends e b).state s
append_held lane_of stays e b s ordered may low within h = go (appends_state e b)
  where
    es : List Entry
    es = b.state.order

    ts : List Span
    ts = spans_of b.state e

    mid : Sofar
    mid = becomes (with_entry e ts) b

    spans : List Span
    spans = spans_for s b.state.noted

    sent : Sent (window_of b.state s) (window_of (appends e b).state s) (drops_of es (es ++ e ∷ []) b.state.synced s (filter (is_met ts) spans))
    sent =
        subst (λ (l : List Span). Sent (window_of b.state s) (window_of (appends e b).state s) (drops_of es (es ++ e ∷ []) b.state.synced s l)) (spans_touched s ts b.state.noted)
        (drops_sent es e s (touched ts b.state.noted) mid refl)

    held : PutHeld (lane_of s) (es ++ e ∷ []) stays s (filter (is_unmet ts) spans) (window_of (appends e b).state s)
    held =
        sent_held (lane_of s) es (es ++ e ∷ []) stays s spans (filter (is_unmet ts) spans) (window_of b.state s) (window_of (appends e b).state s)
        (drops_of es (es ++ e ∷ []) b.state.synced s (filter (is_met ts) spans)) h sent
        (entry_held es e b.state.synced stays s low within ordered may spans (lane_of s).front ((lane_of s).down ++ h.more) h.held)

    go : Appended e b (appends e b) → HeldOf lane_of stays (appends e b).state s
    go a =
        subst (λ (l : List Entry). PutHeld (lane_of s) l stays s (spans_for s (appends e b).state.noted) (window_of (appends e b).state s)) (sym (ap (λ (d : DataState). d.order) a.state))
        (subst (λ (xs : List Noted). PutHeld (lane_of s) (es ++ e ∷ []) stays s (spans_for s xs) (window_of (appends e b).state s)) (sym (ap (λ (d : DataState). d.noted) a.state))
        (subst (λ (l : List Span). PutHeld (lane_of s) (es ++ e ∷ []) stays s l (window_of (appends e b).state s)) (sym (spans_untouched s ts b.state.noted)) held))
