-- How many messages of each session a data server's step takes: none or the next one.
use Rattle.std.proofs.Common.{◌≡◌, ◌≤◌, ◌<◌, ◌⊎◌, inl, inr, ℕ, zero, suc, ◌+◌, Bool, true, false, if◌then◌else◌, List, [], ◌∷◌, drop, length, take, Some, refl, sym, ◌∙◌, ap, subst, arith}
use Rattle.std.specs.List.{list_any}
use Rattle.std.proofs.lemmas.Bool.{false≢true, true≢false}
use Rattle.std.proofs.lemmas.List.{length-append}
use Rattle.plain_orders.specs.declared.entry.Entry.{Entry}
use Rattle.plain_orders.specs.Entries.{live, last_epoch}
use Rattle.plain_orders.specs.Sessions.{app_in}
use Rattle.plain_runs.proofs.Lists.{any_wider}
use Rattle.ecp_messages.specs.declared.down.Down.{Down}
use Rattle.ecp_messages.specs.declared.up.Up.{Up}
use Rattle.ecp_messages.specs.declared.up.UpFrame.{UpFrame}
use Rattle.end_words.specs.Windows.{Window, fresh}
use Rattle.data_rules.specs.DataState.{DataState, SessionWindow}
use Rattle.data_rules.specs.declared.data_in.DataIn.{DataIn}
use Rattle.data_rules.specs.declared.data_in.DataIn.TheVariants as data_in
use Rattle.data_rules.specs.declared.data_outs.DataOuts.{DataOuts}
use Rattle.data_rules.specs.declared.down_frames.DownOut.{DownOut}
use Rattle.data_rules.specs.declared.rows.Role.TheVariants.{Bound}
use Rattle.data_rules.specs.Conns.{role_of}
use Rattle.data_rules.specs.Puts.{Sofar, begun, window_in, window_of}
use Rattle.data_rules.specs.Step.{DataMay, DataStep, made}
use Rattle.cluster_runs.specs.Lanes.{with_data_step}
use Rattle.cluster_runs.specs.Sent.{Lane, ups_taken}
use Rattle.cluster_runs.specs.Machine.{Site}
use Rattle.cluster_invariant.specs.Dials.{RoleIs}
use Rattle.cluster_invariant.specs.Link.{LaneCounts, NodeWindows, is_window_of}
use Rattle.cluster_invariant.specs.Words.{IsFront}
use Rattle.cluster_invariant.proofs.PieceKinds.{Piece, makes}
use Rattle.cluster_invariant.proofs.PieceMay.{ComesAgainMay, Coming, TakesMay, begins}
use Rattle.cluster_invariant.proofs.Pieces.{MayMake, kept_by_pieces}
use Rattle.cluster_invariant.proofs.PiecesOfSteps.{StepFrom, step_pieces, synced_state}
use Rattle.cluster_invariant.proofs.Small.{of_some}
use Rattle.data_puts.proofs.EndsAfter.{InputKnown}
use Rattle.link_kept.proofs.FramesFit.{FrameAt, begins_old}
use Rattle.link_kept.proofs.OrderGrows.{order_grows}
use Rattle.link_kept.proofs.WindowLists.{none_there}
use Rattle.asks_kept.proofs.AsksFit.{just_next}
use Rattle.asks_kept.proofs.CountsPieces.{Counts, counts_piece, taken_in}

-- a save changes no window
begins_windows : (t : Coming) → ((begins t).state.windows ≡ t.old.windows) × ((begins t).state.order ≡ t.old.order)
begins_windows t = go t.input
  where
    go : (i : DataIn) → ((begins (record { old = t.old; now = t.now; input = i })).state.windows ≡ t.old.windows)
        × ((begins (record { old = t.old; now = t.now; input = i })).state.order ≡ t.old.order)
    go (data_in.Frame conn f) = (refl, refl)
    go (data_in.Connected conn) = (refl, refl)
    go (data_in.Broken conn) = (refl, refl)
    go data_in.Tick = (refl, refl)
    go (data_in.Saved upto) =
        (ap (λ (d : DataState). d.windows) (synced_state upto (begun t.old)), ap (λ (d : DataState). d.order) (synced_state upto (begun t.old)))

module _ (x : Site) (dead : ℕ → Bool) (t : Coming) (at_frame : FrameAt x dead t.old t.input) (windows : NodeWindows x t.old)
    (counts : (s k : ℕ) → LaneCounts (x.lane_at s k)) (to_open : (s : ℕ) → length t.old.order < s → (x.lane_at s x.past).up ≡ [])
    (known : InputKnown (λ s. x.lane_at s x.past) t.old t.now t.input) where
  abbrev lane_of : ℕ → Lane
  lane_of s = x.lane_at s x.past

  -- the next message of the session was taken
  pub record TookOne (s n : ℕ) : Type 0 where
    pub conn : ℕ
    pub f : UpFrame
    pub may : TakesMay t conn s f (begins t)
    pub rest : List Up
    pub next : drop (x.lane_at s x.past).up_taken (x.lane_at s x.past).up ≡ f.message ∷ rest
    pub more : n ≡ (x.lane_at s x.past).up_taken + 1

  -- What the step has come to.
  pub record CountsGo (b : Sofar) : Type 0 where
    pub upper : (s : ℕ) → (taken_in b s ≤ (x.lane_at s x.past).up_taken) ⊎ TookOne s (taken_in b s)
    pub lower : (s : ℕ) → ((x.lane_at s x.past).up ≡ []) ⊎ ((x.lane_at s x.past).up_taken ≤ taken_in b s) ⊎ (live b.state.order s ≡ false)
    pub longer : length t.old.order ≤ length b.state.order

  -- a live session's window counts as many as its lane as the step begins
  begun_taken : (s : ℕ) → live t.old.order s ≡ true → taken_in (begins t) s ≡ (x.lane_at s x.past).up_taken
  begun_taken s lives = ap (λ (ws : List SessionWindow). (window_in ws s).taken) (begins_windows t).0 ∙ (windows.each s lives).taken

  pub counts_begin : CountsGo (begins t)
  counts_begin = record {
    upper = λ s. upper s (live t.old.order s) refl;
    lower = λ s. lower s (live t.old.order s) refl;
    longer = omega (arith, ap (λ (es : List Entry). length es) (begins_windows t).1);
  }
    where
      none : (s : ℕ) → live t.old.order s ≡ false → (b : Bool) → list_any (is_window_of s) t.old.windows ≡ b → window_in t.old.windows s ≡ fresh
      none s gone true there = absurd (true≢false (sym (windows.lives s there) ∙ gone))
      none s gone false there = none_there t.old.windows s there

      upper : (s : ℕ) (b : Bool) → live t.old.order s ≡ b → (taken_in (begins t) s ≤ (x.lane_at s x.past).up_taken) ⊎ TookOne s (taken_in (begins t) s)
      upper s true lives = inl (omega (arith, begun_taken s lives))
      upper s false gone =
          inl (omega (
            arith,
            ap (λ (ws : List SessionWindow). (window_in ws s).taken) (begins_windows t).0,
            ap (λ (w : Window Down). w.taken) (none s gone (list_any (is_window_of s) t.old.windows) refl),
          ))

      lower : (s : ℕ) (b : Bool) → live t.old.order s ≡ b
          → ((x.lane_at s x.past).up ≡ []) ⊎ ((x.lane_at s x.past).up_taken ≤ taken_in (begins t) s) ⊎ (live (begins t).state.order s ≡ false)
      lower s true lives = inr (inl (omega (arith, begun_taken s lives)))
      lower s false gone = inr (inr (ap (λ (es : List Entry). live es s) (begins_windows t).1 ∙ gone))

  -- each small change
  pub counts_go : (p : Piece) (b : Sofar) → MayMake t p b → CountsGo b → CountsGo (makes t.now p b)
  counts_go p b may h = record {
    upper = λ s. upper s (counts_piece t s p b may);
    lower = λ s. lower s (counts_piece t s p b may);
    longer = longer (order_grows t.now p b);
  }
    where
      c : Sofar
      c = makes t.now p b

      longer : IsFront b.state.order c.state.order → length t.old.order ≤ length c.state.order
      longer front = omega (arith, h.longer, ap (λ (es : List Entry). length es) front.1, length-append b.state.order front.0)

      -- the message that was taken
      taken_one : (s conn : ℕ) (f : UpFrame) → TakesMay t conn s f b → taken_in c s ≡ taken_in b s + 1 → TookOne s (taken_in c s)
      taken_one s conn f m more = go (subst (λ (e : Sofar). TakesMay t conn s f e) m.first m)
        where
          go : TakesMay t conn s f (begins t) → TookOne s (taken_in c s)
          go first =
              let next : (rest : List Up) × (drop (x.lane_at s x.past).up_taken (x.lane_at s x.past).up ≡ f.message ∷ rest) = just_next x dead t at_frame conn s f first in
              record {
                conn = conn;
                f = f;
                may = first;
                rest = next.0;
                next = next.1;
                more = more ∙ ap (λ (n : ℕ). n + 1) (ap (λ (e : Sofar). taken_in e s) m.first ∙ begun_taken s lives);
              }
            where
              lives : live t.old.order s ≡ true
              lives =
                  (of_some (RoleIs x t.old conn) (role_of t.old conn) (Bound s)
                  (sym (ap (λ (d : DataState). role_of d conn) (begins_old t conn f first.on.came)) ∙ first.on.bound) (at_frame.dials.roles conn)).lives

      upper : (s : ℕ) → Counts t b c s → (taken_in c s ≤ (x.lane_at s x.past).up_taken) ⊎ TookOne s (taken_in c s)
      upper s (inl stays) =
          subst (λ (n : ℕ). (n ≤ (x.lane_at s x.past).up_taken) ⊎ TookOne s n) (sym stays.taken) (h.upper s)
      upper s (inr (inl begins)) = inl (omega (arith, begins.taken))
      upper s (inr (inr (inl ends))) = inl (omega (arith, ends.taken))
      upper s (inr (inr (inr more))) = inr (taken_one s more.conn more.f more.may more.taken)

      -- of a session that opens or comes again nothing was put
      none_put : (s : ℕ) → (s ≡ length b.state.order + 1) ⊎ ((conn : ℕ) × (kept : ℕ) × ComesAgainMay t s conn kept b) → (x.lane_at s x.past).up ≡ []
      none_put s (inl is) = let low : length t.old.order ≤ length b.state.order = h.longer in to_open s (omega (arith, is, low))
      none_put s (inr again) = go again.0 again.1 again.2
        where
          go : (conn kept : ℕ) → ComesAgainMay t s conn kept b → (x.lane_at s x.past).up ≡ []
          go conn kept m =
              known.unlearnt conn m.app s m.came.epoch m.came.taken m.came.dial m.came.came.up m.came.came.its m.came.came.says m.came.firstly.later
              (λ a is. one a m.app (sym is ∙ ap (λ (es : List Entry). app_in es s) (sym m.came.firstly.same) ∙ m.came.its))
              (subst (λ (es : List Entry). m.came.epoch < last_epoch es) m.came.firstly.same m.older)
            where
              one : (a b : ℕ) → Some a ≡ Some b → a ≡ b
              one a b same = cc

      lower : (s : ℕ) → Counts t b c s
          → ((x.lane_at s x.past).up ≡ []) ⊎ ((x.lane_at s x.past).up_taken ≤ taken_in c s) ⊎ (live c.state.order s ≡ false)
      lower s (inl stays) = go (h.lower s)
        where
          go : ((x.lane_at s x.past).up ≡ []) ⊎ ((x.lane_at s x.past).up_taken ≤ taken_in b s) ⊎ (live b.state.order s ≡ false)
              → ((x.lane_at s x.past).up ≡ []) ⊎ ((x.lane_at s x.past).up_taken ≤ taken_in c s) ⊎ (live c.state.order s ≡ false)
          go (inl none) = inl none
          go (inr (inl low)) = inr (inl (omega (arith, low, stays.taken)))
          go (inr (inr gone)) = inr (inr (stays.lives ∙ gone))
      lower s (inr (inl begins)) = inl (none_put s begins.why)
      lower s (inr (inr (inl ends))) = inr (inr ends.dead)
      lower s (inr (inr (inr more))) =
          let one : TookOne s (taken_in c s) = taken_one s more.conn more.f more.may more.taken in inr (inl (omega (arith, one.more)))

  -- After the whole step.
  module _ (new : DataState) (frames : List DownOut) (outs : DataOuts) (from : StepFrom t.old) (may : DataMay t.old t.input)
      (steps : DataStep t.old t.now t.input outs new) where
    went : CountsGo (made new outs)
    went = kept_by_pieces t CountsGo counts_go (begins t) (made new outs) (step_pieces t.old t.now t.input outs new from may steps) counts_begin

    -- the lane of a session
    abbrev pub lane_after : ℕ → Lane
    lane_after s = with_data_step t.old new frames s (x.lane_at s x.past)

    -- no more than the next message was taken
    pub after_upper : (s : ℕ) → ((lane_after s).up_taken ≤ (x.lane_at s x.past).up_taken) ⊎ TookOne s (lane_after s).up_taken
    after_upper s = go (live new.order s)
      where
        go : (b : Bool) → ((if b then (window_of new s).taken else (x.lane_at s x.past).up_taken) ≤ (x.lane_at s x.past).up_taken)
            ⊎ TookOne s (if b then (window_of new s).taken else (x.lane_at s x.past).up_taken)
        go true = went.upper s
        go false = inl (omega arith)

    -- and no fewer than before
    pub after_lower : (s : ℕ) → ((x.lane_at s x.past).up ≡ []) ⊎ ((x.lane_at s x.past).up_taken ≤ (lane_after s).up_taken)
    after_lower s = go (live new.order s) refl (went.lower s)
      where
        go : (b : Bool) → live new.order s ≡ b
            → ((x.lane_at s x.past).up ≡ []) ⊎ ((x.lane_at s x.past).up_taken ≤ (window_of new s).taken) ⊎ (live new.order s ≡ false)
            → ((x.lane_at s x.past).up ≡ []) ⊎ ((x.lane_at s x.past).up_taken ≤ (if b then (window_of new s).taken else (x.lane_at s x.past).up_taken))
        go b is (inl none) = inl none
        go true is (inr (inl low)) = inr low
        go true is (inr (inr gone)) = absurd (true≢false (sym is ∙ gone))
        go false is more = inr (omega arith)

    abbrev nothing : List Up
    nothing = []

    none_of : (n : ℕ) → take n nothing ≡ []
    none_of zero = refl
    none_of (suc n) = refl

    -- so what was taken before is among what is taken
    pub after_wider : (s : ℕ) (p : Up → Bool) → list_any p (ups_taken (x.lane_at s x.past)) ≡ true → list_any p (ups_taken (lane_after s)) ≡ true
    after_wider s p is = go (after_lower s)
      where
        go : ((x.lane_at s x.past).up ≡ []) ⊎ ((x.lane_at s x.past).up_taken ≤ (lane_after s).up_taken) → list_any p (ups_taken (lane_after s)) ≡ true
        go (inl none) =
            absurd (false≢true (sym (ap (λ (us : List Up). list_any p (take (x.lane_at s x.past).up_taken us)) none
            ∙ ap (list_any p) (none_of (x.lane_at s x.past).up_taken)) ∙ is))
        go (inr low) = any_wider p (x.lane_at s x.past).up_taken (lane_after s).up_taken (x.lane_at s x.past).up low is
