-- Each small change of a data server's step keeps what was put to its live sessions coherent.
use Rattle.std.proofs.Common.{◌≡◌, ◌≢◌, ◌⊎◌, inl, inr, ◌+◌, ℕ, true, List, [], ◌∷◌, ◌++◌, length, drop, Option, Some, None, refl, sym, ◌∙◌, ap, subst, arith}
use Rattle.std.proofs.lemmas.List.{length-append}
use Rattle.plain_orders.specs.declared.act.Act.TheVariants as act
use Rattle.plain_orders.specs.declared.causes.ShutCause.{ShutCause}
use Rattle.plain_orders.specs.declared.entry.Entry.{Entry}
use Rattle.plain_orders.specs.declared.entry.Entry.TheVariants.{Opened, Closed}
use Rattle.plain_orders.specs.Entries.{live}
use Rattle.plain_orders.specs.Ordered.{IsOrdered, MayFollow}
use Rattle.plain_orders.proofs.OrderLemmas.{ordered-last}
use Rattle.subscript_keys.specs.declared.run.Run.{Run}
use Rattle.subscript_keys.specs.declared.span.Span.{Span}
use Rattle.block_bytes.specs.Blocks.{IsBlockOf}
use Rattle.end_words.specs.Runs.{TrueAt, covers}
use Rattle.ecp_messages.specs.declared.down.Down.{Down}
use Rattle.ecp_messages.specs.declared.down.Down.TheVariants as down
use Rattle.end_words.specs.Windows.{Window, fresh, with_ack_put, with_sent}
use Rattle.block_holders.specs.HolderWords.{with_noted}
use Rattle.data_rules.specs.DataState.{DataState, SessionWindow}
use Rattle.data_rules.specs.declared.rows.Says.{Says}
use Rattle.data_rules.specs.declared.rows.Says.TheVariants.{NewWelcome, EpochWelcome, ResetOf, GrantOf, AnswerOf}
use Rattle.data_rules.specs.Callers.{sends_again}
use Rattle.data_rules.specs.Closing.{silenced}
use Rattle.data_rules.specs.Entering.{appends, enters}
use Rattle.data_rules.specs.Leaving.{leaves, new_welcome, epoch_welcome}
use Rattle.data_rules.specs.Opening.{opens}
use Rattle.data_rules.specs.Puts.{Sofar, becomes, conn_of, head_of, puts, set_window, tells, window_in, window_of, writes}
use Rattle.cluster_runs.specs.Sent.{Lane}
use Rattle.cluster_invariant.specs.Coherence.{BlocksHold, IsHeader, front_of}
use Rattle.cluster_invariant.specs.Link.{LaneCounts}
use Rattle.cluster_invariant.proofs.PieceKinds.{with_close}
use Rattle.cluster_invariant.proofs.PutLaws.{Appended, appends_state, only_puts, puts_state, windows_put}
use Rattle.link_kept.proofs.Later.{header_later}
use Rattle.link_kept.proofs.WindowLists.{gone_elsewhere, set_elsewhere, set_here}
use Rattle.link_kept.proofs.WindowsGo.{same_or, close_live, open_or}
use Rattle.coherence_kept.proofs.EntryDrops.{HeldBy}
use Rattle.coherence_kept.proofs.Joined.{Held}
use Rattle.coherence_kept.proofs.ServerHeld.{spans_for}
use Rattle.coherence_kept.proofs.StepHeld.{fetch_held}
use Rattle.coherence_kept.proofs.WindowHeld.{PutHeld, put_ack_put, put_first, put_message}
use Rattle.coherence_server.proofs.HeldSteps.{HeldGo, HeldIn, HeldOf, append_held, held_set, sent_held}
use Rattle.coherence_server.proofs.SentWindows.{puts_here, puts_there, spans_beside, spans_forgotten, spans_with}

module _ (lane_of : ℕ → Lane) (stays : ℕ) (counts : (s : ℕ) → LaneCounts (lane_of s)) where
  -- putting

  pub tells_held : (s conn n : ℕ) (m : Down) (b : Sofar) → HeldGo lane_of stays b.state → HeldGo lane_of stays (tells s conn n m b).state
  tells_held s conn n m b h =
      held_set lane_of stays b.state s (with_ack_put (window_of b.state s))
      (λ lives. put_ack_put (lane_of s) b.state.order stays s (spans_for s b.state.noted) (window_of b.state s) (h.each s lives)) h

  pub again_held : (s conn : ℕ) (ms : List (ℕ × Down)) (b : Sofar) → HeldGo lane_of stays b.state → HeldGo lane_of stays (sends_again s conn ms b).state
  again_held s conn [] b h = h
  again_held s conn (m ∷ ms) b h = again_held s conn ms (tells s conn m.0 m.1 b) (tells_held s conn m.0 m.1 b h)

  pub puts_held : (s : ℕ) (m : Down) (b : Sofar) → front_of m ≡ head_of b.state s → BlocksHold b.state.order (HeldBy b.state.order (spans_for s b.state.noted)) (m ∷ [])
      → HeldGo lane_of stays b.state → HeldGo lane_of stays (puts s m b).state
  puts_held s m b its blocks h = subst (λ (d : DataState). HeldGo lane_of stays d) (sym (puts_state s m b)) (go (conn_of b.state s))
    where
      d : DataState
      d = b.state

      once : HeldIn lane_of stays b.state.order b.state.synced b.state.noted (set_window b.state.windows s (with_sent (window_in b.state.windows s) m))
      once =
          held_set lane_of stays b.state s (with_sent (window_in b.state.windows s) m)
          (λ lives.
          put_message (lane_of s) b.state.order b.state.synced stays s (spans_for s b.state.noted) (window_in b.state.windows s) m h.low h.within its blocks (h.each s lives)) h

      go : (o : Option ℕ) → HeldIn lane_of stays b.state.order b.state.synced b.state.noted (windows_put o s m b.state.windows)
      go None = once
      go (Some conn) =
          held_set lane_of stays (record b.state { windows = set_window b.state.windows s (with_sent (window_in b.state.windows s) m) }) s
          (with_ack_put (window_in (set_window b.state.windows s (with_sent (window_in b.state.windows s) m)) s))
          (λ lives.
          put_ack_put (lane_of s) b.state.order stays s (spans_for s b.state.noted) (window_in (set_window b.state.windows s (with_sent (window_in b.state.windows s) m)) s)
          (once.each s lives)) once

  pub leaves_held : (says : Says) (b : Sofar) → HeldGo lane_of stays b.state → HeldGo lane_of stays (leaves says b).state
  leaves_held (NewWelcome conn s) b h = tells_held s conn 0 (new_welcome b.state s) b h
  leaves_held (EpochWelcome conn s kept) b h = tells_held s conn 0 (epoch_welcome b.state s kept) b h
  leaves_held (ResetOf conn s place) b h = h
  leaves_held (GrantOf s ticket number) b h = puts_held s (down.Grant (head_of b.state s) ticket number) b refl tt h
  leaves_held (AnswerOf s about job number place sum) b h = puts_held s (down.Answer (head_of b.state s) about job number place sum) b refl tt h

  -- a run is noted, and its Block is put
  pub fetches_held : (s : ℕ) (run : Run) (block : List ℕ) (b : Sofar) (key : List ℕ) → covers key run ≡ true → TrueAt run b.state.order (length b.state.order) → IsBlockOf run block
      → HeldGo lane_of stays b.state
      → HeldIn lane_of stays (puts s (down.Block (head_of b.state s) block) b).state.order (puts s (down.Block (head_of b.state s) block) b).state.synced
      (with_noted s run.span (puts s (down.Block (head_of b.state s) block) b).state.noted) (puts s (down.Block (head_of b.state s) block) b).state.windows
  fetches_held s run block b key covered is_true in_bytes h =
      subst (λ (d : DataState). HeldIn lane_of stays d.order d.synced (with_noted s run.span d.noted) d.windows) (sym (only_puts s m b).state) (record {
        ordered = h.ordered;
        low = h.low;
        within = h.within;
        first = h.first;
        each = λ q lives. each q lives (same_or q s);
      })
    where
      m : Down
      m = down.Block (head_of b.state s) block

      after : List SessionWindow
      after = (only_puts s m b).windows

      its : (q : ℕ) → window_of (puts s m b).state q ≡ window_in after q
      its q = ap (λ (d : DataState). window_of d q) (only_puts s m b).state

      each : (q : ℕ) → live b.state.order q ≡ true → (q ≡ s) ⊎ (q ≢ s) → PutHeld (lane_of q) b.state.order stays q (spans_for q (with_noted s run.span b.state.noted)) (window_in after q)
      each q lives (inl same) =
          subst (λ (k : ℕ). PutHeld (lane_of k) b.state.order stays k (spans_for k (with_noted s run.span b.state.noted)) (window_in after k)) (sym same)
          (subst (λ (w : Window Down). PutHeld (lane_of s) b.state.order stays s (spans_for s (with_noted s run.span b.state.noted)) w) (its s) (own (h.each s (ap (live b.state.order) (sym same) ∙ lives))))
        where
          own : PutHeld (lane_of s) b.state.order stays s (spans_for s b.state.noted) (window_of b.state s)
              → PutHeld (lane_of s) b.state.order stays s (spans_for s (with_noted s run.span b.state.noted)) (window_of (puts s m b).state s)
          own p =
              sent_held (lane_of s) b.state.order b.state.order stays s (spans_for s b.state.noted) (spans_for s (with_noted s run.span b.state.noted)) (window_of b.state s)
              (window_of (puts s m b).state s) (m ∷ []) p (puts_here s m b)
              (fetch_held b.state.order b.state.synced stays s h.low h.within (spans_for s b.state.noted) (spans_for s (with_noted s run.span b.state.noted)) (lane_of s).front
              ((lane_of s).down ++ p.more) p.held (spans_with s run.span b.state.noted).0 key run block (spans_with s run.span b.state.noted).1 covered is_true in_bytes)
      each q lives (inr apart) =
          subst (λ (w : Window Down). PutHeld (lane_of q) b.state.order stays q (spans_for q (with_noted s run.span b.state.noted)) w) (its q)
          (subst (λ (w : Window Down). PutHeld (lane_of q) b.state.order stays q (spans_for q (with_noted s run.span b.state.noted)) w) (sym (puts_there s q m b apart))
          (subst (λ (l : List Span). PutHeld (lane_of q) b.state.order stays q l (window_of b.state q)) (sym (spans_beside s q run.span b.state.noted apart)) (h.each q lives)))

  -- entries

  -- what an entry more leaves of all
  pub appends_held : (e : Entry) (b : Sofar) → IsOrdered (appends e b).state.order → HeldIn lane_of stays b.state.order b.state.synced b.state.noted b.state.windows
      → ((s : ℕ) → live (b.state.order ++ e ∷ []) s ≡ true → live b.state.order s ≡ true) → HeldGo lane_of stays (appends e b).state
  appends_held e b ordered h lived = record {
    ordered = ordered;
    low = omega (arith, ap (λ (d : DataState). d.synced) (appends_state e b).state, h.low);
    within = omega (arith, ap (λ (l : List Entry). length l) its, length-append b.state.order (e ∷ []), h.within);
    first =
        λ s.
        subst (λ (l : List Entry). IsHeader l stays s (lane_of s).front) (sym its)
        (header_later b.state.order (b.state.order ++ e ∷ []) stays stays s (lane_of s).front (e ∷ [], refl) h.within (omega arith) (h.first s));
    each =
        λ s lives.
        append_held lane_of stays e b s h.ordered may h.low h.within (h.each s (lived s (ap (λ (l : List Entry). live l s) (sym its) ∙ lives)));
  }
    where
      its : (appends e b).state.order ≡ b.state.order ++ e ∷ []
      its = ap (λ (d : DataState). d.order) (appends_state e b).state

      may : MayFollow b.state.order e
      may = ordered-last b.state.order e (subst IsOrdered its ordered)

  -- a session that closes
  pub closes_held : (s : ℕ) (cause : ShutCause) (b : Sofar) → IsOrdered (with_close s cause b).state.order → HeldGo lane_of stays b.state → HeldGo lane_of stays (with_close s cause b).state
  closes_held s cause b ordered h = go (appends_state (Closed s) quiet)
    where
      quiet : Sofar
      quiet = becomes (silenced s) (writes (act.Shut b.state.server s cause) b)

      go : Appended (Closed s) quiet (appends (Closed s) quiet) → HeldGo lane_of stays (with_close s cause b).state
      go a = record {
        ordered = ordered;
        low = omega (arith, ap (λ (d : DataState). d.synced) a.state, h.low);
        within = omega (arith, ap (λ (l : List Entry). length l) its, length-append b.state.order (Closed s ∷ []), h.within);
        first =
            λ q.
            subst (λ (l : List Entry). IsHeader l stays q (lane_of q).front) (sym its)
            (header_later b.state.order (b.state.order ++ Closed s ∷ []) stays stays q (lane_of q).front (Closed s ∷ [], refl) h.within (omega arith) (h.first q));
        each =
            λ q lives.
            let at : (q ≢ s) × (live b.state.order q ≡ true) = close_live b.state.order s q (ap (λ (l : List Entry). live l q) (sym its) ∙ lives) in
            append_held lane_of stays (Closed s) quiet q h.ordered may h.low h.within (one q at.0 (h.each q at.1));
      }
        where
          its : (appends (Closed s) quiet).state.order ≡ b.state.order ++ Closed s ∷ []
          its = ap (λ (d : DataState). d.order) a.state

          may : MayFollow b.state.order (Closed s)
          may = ordered-last b.state.order (Closed s) (subst IsOrdered its ordered)

          one : (q : ℕ) → q ≢ s → PutHeld (lane_of q) b.state.order stays q (spans_for q b.state.noted) (window_of b.state q) → HeldOf lane_of stays quiet.state q
          one q apart p =
              subst (λ (l : List Span). PutHeld (lane_of q) b.state.order stays q l (window_of quiet.state q)) (sym (spans_forgotten s q b.state.noted apart))
              (subst (λ (w : Window Down). PutHeld (lane_of q) b.state.order stays q (spans_for q b.state.noted) w) (sym (gone_elsewhere b.state.windows s q apart)) p)

  -- a session whose window is a fresh one
  pub fresh_held : (es : List Entry) (s : ℕ) (spans : List Span) → IsHeader es stays s (lane_of s).front → (lane_of s).down ≡ [] → PutHeld (lane_of s) es stays s spans fresh
  fresh_held es s spans first empty =
      put_first (lane_of s) es stays s spans fresh (ap (drop 0) (sym empty)) (omega arith)
      (subst (Held es stays s (HeldBy es spans) (lane_of s).front) (sym empty) (record { first = first; rising = tt; headers = tt; blocks = tt }))

  -- a session that opens
  pub opens_held : (app conn now : ℕ) (b : Sofar) → IsOrdered (opens app conn now b).state.order → (lane_of (length b.state.order + 1)).began ≡ None → HeldGo lane_of stays b.state
      → HeldGo lane_of stays (opens app conn now b).state
  opens_held app conn now b ordered unlearnt h = record {
    ordered = ordered;
    low = omega (arith, ap (λ (d : DataState). d.synced) a.state, h.low);
    within = omega (arith, ap (λ (l : List Entry). length l) its, length-append b.state.order (Opened s app ∷ []), h.within);
    first = first;
    each = λ q lives. each q lives (same_or q s);
  }
    where
      s : ℕ
      s = length b.state.order + 1

      written : Sofar
      written = writes (act.Enter b.state.server (Opened s app)) b

      after : Sofar
      after = enters (Opened s app) b

      a : Appended (Opened s app) written (appends (Opened s app) written)
      a = appends_state (Opened s app) written

      its : after.state.order ≡ b.state.order ++ Opened s app ∷ []
      its = ap (λ (d : DataState). d.order) a.state

      may : MayFollow b.state.order (Opened s app)
      may = ordered-last b.state.order (Opened s app) (subst IsOrdered its ordered)

      first : (q : ℕ) → IsHeader after.state.order stays q (lane_of q).front
      first q =
          subst (λ (l : List Entry). IsHeader l stays q (lane_of q).front) (sym its)
          (header_later b.state.order (b.state.order ++ Opened s app ∷ []) stays stays q (lane_of q).front (Opened s app ∷ [], refl) h.within (omega arith) (h.first q))

      each : (q : ℕ) → live after.state.order q ≡ true → (q ≡ s) ⊎ (q ≢ s)
          → PutHeld (lane_of q) after.state.order stays q (spans_for q after.state.noted) (window_in (set_window after.state.windows s fresh) q)
      each q lives (inl same) =
          subst (λ (k : ℕ). PutHeld (lane_of k) after.state.order stays k (spans_for k after.state.noted) (window_in (set_window after.state.windows s fresh) k)) (sym same)
          (subst (λ (w : Window Down). PutHeld (lane_of s) after.state.order stays s (spans_for s after.state.noted) w) (sym (set_here after.state.windows s fresh))
          (fresh_held after.state.order s (spans_for s after.state.noted) (first s) ((counts s).no_down unlearnt)))
      each q lives (inr apart) =
          subst (λ (w : Window Down). PutHeld (lane_of q) after.state.order stays q (spans_for q after.state.noted) w) (sym (set_elsewhere after.state.windows s q fresh apart))
          (append_held lane_of stays (Opened s app) written q h.ordered may h.low h.within (h.each q (was (open_or b.state.order s app q (ap (λ (l : List Entry). live l q) (sym its) ∙ lives)))))
        where
          was : (q ≡ s) ⊎ (live b.state.order q ≡ true) → live b.state.order q ≡ true
          was (inl same) = absurd (apart same)
          was (inr is) = is
