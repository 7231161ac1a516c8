-- Each small change of a data server's step, by its kind.
use Rattle.std.proofs.Common.{◌≤◌, ℕ, Bool, true, false, List, ◌++◌, length, Option, Some, None, refl, sym, ◌∙◌, ap, subst, arith}
use Rattle.plain_orders.specs.declared.act.Act.TheVariants as act
use Rattle.plain_orders.specs.declared.causes.ShutCause.{ShutCause}
use Rattle.plain_orders.specs.declared.causes.ShutCause.TheVariants.{Trouble, Replaced, Round}
use Rattle.plain_orders.specs.Ordered.{IsOrdered}
use Rattle.ecp_messages.specs.declared.down.Down.TheVariants as down
use Rattle.end_words.specs.Windows.{fresh, resent, with_ack, with_taken}
use Rattle.lock_table.specs.LockWords.{Freed, asked, freed, without_grant, without_request, without_session}
use Rattle.data_rules.specs.DataState.{DataState}
use Rattle.data_rules.specs.declared.rows.LiveEnd.{LiveEnd}
use Rattle.data_rules.specs.Callers.{old_welcome, waiting_conn}
use Rattle.data_rules.specs.Conns.{breaks_if, without_conn, end_breaks, is_normal, link_of, drops_conn}
use Rattle.data_rules.specs.Granting.{frees, locks_become}
use Rattle.data_rules.specs.Opening.{live_ends}
use Rattle.data_rules.specs.Puts.{Sofar, becomes, conn_of, head_of, set_window, tells, window_in, window_of, writes}
use Rattle.cluster_runs.specs.Sent.{Lane}
use Rattle.cluster_invariant.specs.Link.{LaneCounts}
use Rattle.cluster_invariant.proofs.PieceKinds.{Ending, There, Here, LockCall, Asks, Unlocks, Withdraws, GivesBack, ForgetsTicket, Claims, Cancels, Releases, Piece, Accepts, Forgets, Breaks, Dials, Waits, Opens, OpensNext, Resumes, GoesOn, ComesAgain, AwaitsReset, Closes, Acknowledges, Takes, TakesDone, Enters, Fetches, PutsNormal, PutsAck, Replies, Leaves, Bares, Locks, RoundEnds, Ticks, calls, cuts_if, ends_back, makes, next_caller, parts_from, round_over, with_close, with_replies}
use Rattle.cluster_invariant.proofs.PieceMay.{Coming}
use Rattle.cluster_invariant.proofs.Pieces.{MayMake}
use Rattle.cluster_invariant.proofs.PutLaws.{only_locks}
use Rattle.cluster_invariant.proofs.PiecesOfRounds.{ends_aside}
use Rattle.link_kept.proofs.WindowPieces.{PutsWell, back_written, item_still}
use Rattle.link_kept.proofs.WindowsGo.{IsStill, still_live}
use Rattle.coherence_kept.proofs.ServerHeld.{spans_for}
use Rattle.coherence_kept.proofs.WindowHeld.{PutHeld, put_ack}
use Rattle.coherence_server.proofs.HeldPieces.{again_held, appends_held, closes_held, fetches_held, fresh_held, leaves_held, opens_held, puts_held, tells_held}
use Rattle.coherence_server.proofs.HeldSteps.{HeldGo, SameHeld, held_same, held_set}

-- changes beside what is put

same_then : (d e f : DataState) → SameHeld d e → SameHeld e f → SameHeld d f
same_then d e f x y = record { order = y.order ∙ x.order; synced = y.synced ∙ x.synced; noted = y.noted ∙ x.noted; windows = y.windows ∙ x.windows }

cuts_same : (ending : Ending) (conn : ℕ) (b : Sofar) → SameHeld b.state (cuts_if ending conn b).state
cuts_same There conn b = record { order = refl; synced = refl; noted = refl; windows = refl }
cuts_same Here conn b = record { order = refl; synced = refl; noted = refl; windows = refl }

drops_same : (o : Option ℕ) (b : Sofar) → SameHeld b.state (drops_conn o b).state
drops_same None b = record { order = refl; synced = refl; noted = refl; windows = refl }
drops_same (Some conn) b = record { order = refl; synced = refl; noted = refl; windows = refl }

breaks_same : (normal : Bool) (app now : ℕ) (b : Sofar) → SameHeld b.state (breaks_if normal app now b).state
breaks_same true app now b = record { order = refl; synced = refl; noted = refl; windows = refl }
breaks_same false app now b = record { order = refl; synced = refl; noted = refl; windows = refl }

parts_same : (cause : ShutCause) (o : Option ℕ) (s : ℕ) (b : Sofar) → SameHeld b.state (parts_from cause o s b).state
parts_same (Trouble time) None s b = record { order = refl; synced = refl; noted = refl; windows = refl }
parts_same (Trouble time) (Some conn) s b = record { order = refl; synced = refl; noted = refl; windows = refl }
parts_same Replaced o s b = drops_same o b
parts_same (Round time) None s b = record { order = refl; synced = refl; noted = refl; windows = refl }
parts_same (Round time) (Some conn) s b = record { order = refl; synced = refl; noted = refl; windows = refl }

locks_same : (f : Freed) (b : Sofar) → SameHeld b.state (locks_become f b).state
locks_same f b = record {
  order = ap (λ (d : DataState). d.order) (only_locks f b).state;
  synced = ap (λ (d : DataState). d.synced) (only_locks f b).state;
  noted = ap (λ (d : DataState). d.noted) (only_locks f b).state;
  windows = ap (λ (d : DataState). d.windows) (only_locks f b).state;
}

calls_same : (call : LockCall) (b : Sofar) → SameHeld b.state (calls call b).state
calls_same (Asks r) b = locks_same (asked b.state.locks r (length b.state.order)) b
calls_same (Unlocks who mode key) b = at (locks_same (freed b.state.locks who key mode (length b.state.order)) (frees who mode key b))
  where
    at : SameHeld (frees who mode key b).state (calls (Unlocks who mode key) b).state → SameHeld b.state (calls (Unlocks who mode key) b).state
    at s = record { order = s.order; synced = s.synced; noted = s.noted; windows = s.windows }
calls_same (Withdraws r session ticket) b = at (locks_same (without_request b.state.locks session ticket (length b.state.order)) (frees r.who r.mode r.name b))
  where
    at : SameHeld (frees r.who r.mode r.name b).state (calls (Withdraws r session ticket) b).state → SameHeld b.state (calls (Withdraws r session ticket) b).state
    at s = record { order = s.order; synced = s.synced; noted = s.noted; windows = s.windows }
calls_same (GivesBack r) b = at (locks_same (without_grant b.state.locks r (length b.state.order)) (frees r.who r.mode r.name b))
  where
    at : SameHeld (frees r.who r.mode r.name b).state (calls (GivesBack r) b).state → SameHeld b.state (calls (GivesBack r) b).state
    at s = record { order = s.order; synced = s.synced; noted = s.noted; windows = s.windows }
calls_same (ForgetsTicket r) b = record { order = refl; synced = refl; noted = refl; windows = refl }
calls_same (Claims who key mode number at) b = record { order = refl; synced = refl; noted = refl; windows = refl }
calls_same (Cancels r) b = locks_same (without_request b.state.locks r.who.session r.ticket (length b.state.order)) b
calls_same (Releases session) b = at (locks_same (without_session b.state.locks session (length b.state.order)) (writes (act.Release b.state.server session) b))
  where
    at : SameHeld (writes (act.Release b.state.server session) b).state (calls (Releases session) b).state → SameHeld b.state (calls (Releases session) b).state
    at s = record { order = s.order; synced = s.synced; noted = s.noted; windows = s.windows }

round_same : (xs : List LiveEnd) (now : ℕ) (b : Sofar) → SameHeld b.state (ends_back xs now (back_written b)).state
round_same xs now b = record {
  order = (ends_aside xs now).order (back_written b);
  synced = (ends_aside xs now).synced (back_written b);
  noted = (ends_aside xs now).noted (back_written b);
  windows = (ends_aside xs now).windows (back_written b);
}

module _ (lane_of : ℕ → Lane) (stays : ℕ) (counts : (s : ℕ) → LaneCounts (lane_of s)) where
  beside : (b c : Sofar) → SameHeld b.state c.state → HeldGo lane_of stays b.state → HeldGo lane_of stays c.state
  beside b c same h = held_same lane_of stays b.state c.state same h

  -- an acknowledgement that came
  acked_held : (s ack : ℕ) (b : Sofar) → ack ≤ (lane_of s).down_taken → HeldGo lane_of stays b.state
      → HeldGo lane_of stays (record b.state { windows = set_window b.state.windows s (with_ack (window_in b.state.windows s) ack) })
  acked_held s ack b low h =
      held_set lane_of stays b.state s (with_ack (window_in b.state.windows s) ack)
      (λ lives.
      put_ack (lane_of s) b.state.order stays s (spans_for s b.state.noted) (window_in b.state.windows s) ack (omega (arith, low, (counts s).down_taken)) (h.each s lives)) h

  took_held : (s ack : ℕ) (b : Sofar) → ack ≤ (lane_of s).down_taken → HeldGo lane_of stays b.state
      → HeldGo lane_of stays (record b.state { windows = set_window b.state.windows s (with_taken (window_in b.state.windows s) ack) })
  took_held s ack b low h =
      held_set lane_of stays b.state s (with_taken (window_in b.state.windows s) ack)
      (λ lives. taken (put_ack (lane_of s) b.state.order stays s (spans_for s b.state.noted) (window_in b.state.windows s) ack (omega (arith, low, (counts s).down_taken)) (h.each s lives))) h
    where
      taken : PutHeld (lane_of s) b.state.order stays s (spans_for s b.state.noted) (with_ack (window_in b.state.windows s) ack)
          → PutHeld (lane_of s) b.state.order stays s (spans_for s b.state.noted) (with_taken (window_in b.state.windows s) ack)
      taken p = record { more = p.more; waiting = p.waiting; acked = p.acked; held = p.held }

  -- What each small change makes of what was put.
  pub held_piece : (t : Coming) (p : Piece) (b : Sofar) → MayMake t p b → PutsWell lane_of p b → IsOrdered (makes t.now p b).state.order → HeldGo lane_of stays b.state
      → HeldGo lane_of stays (makes t.now p b).state
  held_piece t (Accepts conn) b may well ordered h = h
  held_piece t (Forgets ending conn) b may well ordered h = beside (becomes (without_conn conn) b) (makes t.now (Forgets ending conn) b) (cuts_same ending conn (becomes (without_conn conn) b)) h
  held_piece t (Breaks ending conn session app) b may well ordered h =
      beside (end_breaks (Some app) t.now (becomes (without_conn conn) b)) (makes t.now (Breaks ending conn session app) b)
      (cuts_same ending conn (end_breaks (Some app) t.now (becomes (without_conn conn) b))) (broken (breaks_same (is_normal (link_of b.state app)) app t.now (becomes (without_conn conn) b)))
    where
      broken : SameHeld (becomes (without_conn conn) b).state (breaks_if (is_normal (link_of b.state app)) app t.now (becomes (without_conn conn) b)).state
          → HeldGo lane_of stays (end_breaks (Some app) t.now (becomes (without_conn conn) b)).state
      broken same = beside b (end_breaks (Some app) t.now (becomes (without_conn conn) b)) (record { order = same.order; synced = same.synced; noted = same.noted; windows = same.windows }) h
  held_piece t (Dials app dial) b may well ordered h = h
  held_piece t (Waits app conn) b may well ordered h = go (drops_same (waiting_conn b.state app) b)
    where
      go : SameHeld b.state (drops_conn (waiting_conn b.state app) b).state → HeldGo lane_of stays (makes t.now (Waits app conn) b).state
      go same = beside b (makes t.now (Waits app conn) b) (record { order = same.order; synced = same.synced; noted = same.noted; windows = same.windows }) h
  held_piece t (Opens app conn) b may well ordered h = opens_held lane_of stays counts app conn t.now b ordered well.unlearnt h
  held_piece t (OpensNext app conn) b may well ordered h = opens_held lane_of stays counts app conn t.now (becomes next_caller b) ordered well.unlearnt h
  held_piece t (Resumes app session conn) b may well ordered h = go (drops_same (conn_of b.state session) b)
    where
      go : SameHeld b.state (drops_conn (conn_of b.state session) b).state → HeldGo lane_of stays (makes t.now (Resumes app session conn) b).state
      go same = beside b (makes t.now (Resumes app session conn) b) (record { order = same.order; synced = same.synced; noted = same.noted; windows = same.windows }) h
  held_piece t (GoesOn session conn taken) b may well ordered h =
      again_held lane_of stays counts session conn (resent (window_of b.state session) taken) (tells session conn 0 (old_welcome b.state session) b)
      (tells_held lane_of stays counts session conn 0 (old_welcome b.state session) b h)
  held_piece t (ComesAgain session conn kept) b may well ordered h =
      held_set lane_of stays b.state session fresh
      (λ lives. fresh_held lane_of stays counts b.state.order session (spans_for session b.state.noted) (h.first session) ((counts session).no_down well)) h
  held_piece t (AwaitsReset session conn at) b may well ordered h = h
  held_piece t (Closes session app cause) b may well ordered h = go (parts_same cause (conn_of b.state session) session (with_close session cause b))
    where
      go : SameHeld (with_close session cause b).state (parts_from cause (conn_of b.state session) session (with_close session cause b)).state
          → HeldGo lane_of stays (makes t.now (Closes session app cause) b).state
      go same =
          beside (with_close session cause b) (makes t.now (Closes session app cause) b) (record { order = same.order; synced = same.synced; noted = same.noted; windows = same.windows })
          (closes_held lane_of stays counts session cause b (subst IsOrdered same.order ordered) h)
  held_piece t (Acknowledges conn session up) b may well ordered h = acked_held session up.ack b well.came h
  held_piece t (Takes conn session up) b may well ordered h = took_held session up.ack b well.comes.came h
  held_piece t (TakesDone conn session up) b may well ordered h = took_held session up.ack b well.comes.came h
  held_piece t (Enters e) b may well ordered h =
      appends_held lane_of stays counts e (writes (act.Enter b.state.server e) b) ordered h (λ s lives. sym (still_live b.state.order e s still) ∙ lives)
    where
      still : IsStill e
      still = item_still may.session may.its.up.message e may.item
  held_piece t (Fetches session run block) b may well ordered h = fetches_held lane_of stays counts session run block b may.key may.covered may.is_true may.in_bytes h
  held_piece t (PutsNormal app session) b may well ordered h = puts_held lane_of stays counts session (down.Normal (head_of b.state session)) b refl tt h
  held_piece t (PutsAck session) b may well ordered h = puts_held lane_of stays counts session (down.Ack (head_of b.state session)) b refl tt h
  held_piece t (Replies at says) b may well ordered h = h
  held_piece t (Leaves before r behind) b may well ordered h = leaves_held lane_of stays counts r.says (becomes (with_replies (before ++ behind)) b) h
  held_piece t (Bares session conn) b may well ordered h = tells_held lane_of stays counts session conn 0 down.Bare b h
  held_piece t (Locks call) b may well ordered h = beside b (calls call b) (calls_same call b) h
  held_piece t RoundEnds b may well ordered h = beside b (round_over t.now b) (round_same (live_ends b.state.order) t.now b) h
  held_piece t (Ticks app session) b may well ordered h = h
