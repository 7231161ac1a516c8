-- The lane of a session after a step of its data server, by what the step gave its window.
use Rattle.std.proofs.Common.{◌≡◌, ◌≤◌, ◌&&◌, ◌||◌, ℕ, Bool, true, false, not, if◌then◌else◌, List, [], ◌∷◌, ◌++◌, length, drop, take, filter, refl, sym, ◌∙◌, ap, subst, arith}
use Rattle.std.specs.List.{list_any}
use Rattle.std.proofs.lemmas.List.{append_cancel_left, drop-append-le, take-append-le}
use Rattle.subscript_keys.specs.declared.span.Span.{Span}
use Rattle.plain_orders.specs.declared.entry.Entry.{Entry}
use Rattle.plain_orders.specs.Entries.{closes, live}
use Rattle.plain_orders.specs.Fold.{fold}
use Rattle.plain_orders.specs.Spans.{entry_spans}
use Rattle.ecp_messages.specs.declared.down.Down.{Down}
use Rattle.ecp_messages.specs.declared.down.Down.TheVariants as down
use Rattle.ecp_messages.specs.declared.front.Front.{Front}
use Rattle.end_words.specs.Windows.{Window, fresh, sent}
use Rattle.data_rules.specs.DataState.{DataState}
use Rattle.data_rules.specs.declared.down_frames.DownOut.{DownOut}
use Rattle.data_rules.specs.Puts.{window_of}
use Rattle.cluster_runs.specs.Lanes.{downs_given, drops_until, given_since, is_closed_by, notes_of, with_data_step}
use Rattle.cluster_runs.specs.Sent.{Lane, downs_taken}
use Rattle.cluster_runs.specs.WireDrops.{Notes, drops_of, is_block, is_met, with_entry}
use Rattle.cluster_runs.specs.Written.{count_of}
use Rattle.cluster_invariant.specs.Link.{LaneCounts, WindowIs}
use Rattle.cluster_invariant.specs.Rounds.{LaneRound, awaits_normal, is_fetch}
use Rattle.cluster_invariant.specs.Words.{is_normal_down, is_opened_in}
use Rattle.rounds_server.proofs.Counted.{count_joined, none_counted, none_joined}
use Rattle.rounds_server.proofs.Gave.{Gave}

-- what a step put to a session
abbrev pub step_downs : DataState → DataState → ℕ → List Down
step_downs old new s = downs_given (is_closed_by old new s) old new s

-- To a live one it is what it gave its window.
pub gave_holds : (lane : Lane) (ms : List Down) (w : Window Down) (reached came : ℕ) (T : List Down → ℕ → Type 0)
    → WindowIs w (lane.down ++ ms) reached came → Gave lane T w → T ms w.taken
gave_holds lane ms w reached came T is g = subst (λ (ns : List Down). T ns w.taken) (sym same) g.holds
  where
    same : ms ≡ g.more
    same =
        append_cancel_left (drop w.acked lane.down) ms g.more
        (sym (drop-append-le w.acked lane.down ms g.acked) ∙ sym is.waiting ∙ g.waiting ∙ drop-append-le w.acked lane.down g.more g.acked)

-- To one that was closed only Drops were put.

module _ (p : Down → Bool) (drops : (front : Front) (lo hi : List ℕ) → p (down.Drop front lo hi) ≡ false) where
  none_of_drops : (before with_it : List Entry) (synced s : ℕ) (xs : List Span) → list_any p (drops_of before with_it synced s xs) ≡ false
  none_of_drops before with_it synced s [] = refl
  none_of_drops before with_it synced s (x ∷ xs) =
      ap (λ (b : Bool). b || list_any p (drops_of before with_it synced s xs)) (drops _ x.lo x.hi) ∙ none_of_drops before with_it synced s xs

  none_until : (s : ℕ) (t : Notes) (es : List Entry) → list_any p (drops_until s t es) ≡ false
  none_until s t [] = refl
  none_until s t (e ∷ es) = go (closes s e) (none_until s (record (with_entry t s e) { due = [] }) es)
    where
      go : (b : Bool) → list_any p (drops_until s (record (with_entry t s e) { due = [] }) es) ≡ false
          → list_any p (if b then [] else (with_entry t s e).due ++ drops_until s (record (with_entry t s e) { due = [] }) es) ≡ false
      go true more = refl
      go false more =
          none_joined p (with_entry t s e).due (drops_until s (record (with_entry t s e) { due = [] }) es)
          (none_of_drops t.order (t.order ++ e ∷ []) t.synced s (filter (is_met (entry_spans (fold t.order) e)) t.noted)) more

  -- and to one that wasn't live before, nothing
  pub none_gone : (old new : DataState) (s : ℕ) → live new.order s ≡ false → (live old.order s ≡ false → window_of old s ≡ fresh) → window_of new s ≡ fresh
      → list_any p (step_downs old new s) ≡ false
  none_gone old new s gone was now = ap (λ (b : Bool). list_any p (downs_given (live old.order s && not b) old new s)) gone ∙ go (live old.order s) refl
    where
      go : (b : Bool) → live old.order s ≡ b → list_any p (downs_given (b && not false) old new s) ≡ false
      go true is = none_until s (notes_of old s) (drop (length old.order) new.order)
      go false is =
          ap (λ (w : Window Down). list_any p (given_since (sent w) (window_of new s))) (was is)
          ∙ ap (λ (w : Window Down). list_any p (given_since (sent (fresh {M = Down})) w)) now

-- What is known of what a step put to a session, and of how many messages were taken of it then.
pub record Given (es : List Entry) (s : ℕ) (lane : Lane) (in_round : Bool) (ms : List Down) (taken : ℕ) : Type 0 where
  pub once : count_of is_normal_down (lane.down ++ ms) ≤ 1
  pub opened : is_opened_in es s ≡ true → list_any is_normal_down ms ≡ false
  pub untold : in_round ≡ true → list_any is_normal_down ms ≡ false
  pub blocks : count_of is_block (lane.down ++ ms) ≡ count_of is_fetch (take taken lane.up)

-- of one that isn't live
pub gone_given : (es : List Entry) (old new : DataState) (s : ℕ) (lane : Lane) (in_round : Bool) → live new.order s ≡ false
    → (live old.order s ≡ false → window_of old s ≡ fresh)
    → window_of new s ≡ fresh → LaneRound es s lane → Given es s lane in_round (step_downs old new s) lane.up_taken
gone_given es old new s lane in_round gone was now h = record {
  once = omega (arith, h.once, count_joined is_normal_down lane.down (step_downs old new s), none_counted is_normal_down (step_downs old new s) normals);
  opened = λ is. normals;
  untold = λ is. normals;
  blocks = more ∙ h.blocks;
}
  where
    normals : list_any is_normal_down (step_downs old new s) ≡ false
    normals = none_gone is_normal_down (λ front lo hi. refl) old new s gone was now

    more : count_of is_block (lane.down ++ step_downs old new s) ≡ count_of is_block lane.down
    more =
        omega (
          arith,
          count_joined is_block lane.down (step_downs old new s),
          none_counted is_block (step_downs old new s) (none_gone is_block (λ front lo hi. refl) old new s gone was now),
        )

-- orders that tell alike which sessions were opened in them, and lanes of which as much was taken downwards
pub alike_awaits : (es fs : List Entry) (s : ℕ) (a b : Lane) → is_opened_in fs s ≡ is_opened_in es s → downs_taken b ≡ downs_taken a
    → awaits_normal fs s b ≡ awaits_normal es s a
alike_awaits es fs s a b opened taken =
    ap (λ (t : Bool). not t && not (list_any is_normal_down (downs_taken b))) opened
    ∙ ap (λ (ms : List Down). not (is_opened_in es s) && not (list_any is_normal_down ms)) taken

-- what was taken downwards stays as more is put
pub taken_downs : (old new : DataState) (frames : List DownOut) (s : ℕ) (lane : Lane) → LaneCounts lane
    → downs_taken (with_data_step old new frames s lane) ≡ downs_taken lane
taken_downs old new frames s lane counts = take-append-le lane.down_taken lane.down (step_downs old new s) counts.down_taken

-- The lane has what a round puts.
pub lane_given : (es fs : List Entry) (old new : DataState) (frames : List DownOut) (s : ℕ) (lane : Lane) (in_round : Bool)
    → is_opened_in fs s ≡ is_opened_in es s → LaneCounts lane
    → Given es s lane in_round (step_downs old new s) (if live new.order s then (window_of new s).taken else lane.up_taken) → LaneRound es s lane
    → LaneRound fs s (with_data_step old new frames s lane)
lane_given es fs old new frames s lane in_round same counts given h = record {
  once = given.once;
  opened = λ is. none_joined is_normal_down lane.down (step_downs old new s) (h.opened (sym same ∙ is)) (given.opened (sym same ∙ is));
  awaits =
      λ begun due.
      h.awaits begun (sym (alike_awaits es fs s lane (with_data_step old new frames s lane) same (taken_downs old new frames s lane counts)) ∙ due);
  blocks = given.blocks;
}

-- It has it still where nothing is put and the order goes on.
pub lane_alike : (es fs : List Entry) (s : ℕ) (lane : Lane) → is_opened_in fs s ≡ is_opened_in es s → LaneRound es s lane → LaneRound fs s lane
lane_alike es fs s lane same h = record {
  once = h.once;
  opened = λ is. h.opened (sym same ∙ is);
  awaits = λ begun due. h.awaits begun (sym (alike_awaits es fs s lane lane same refl) ∙ due);
  blocks = h.blocks;
}
