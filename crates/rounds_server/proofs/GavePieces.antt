-- What each small change of a data server's step gives the window of a session.
use Rattle.std.proofs.Common.{◌≡◌, ◌≤◌, ℕ, ◌+◌, List, [], ◌∷◌, ◌++◌, length, None, Some, refl, sym, ◌∙◌, ap, subst, arith}
use Rattle.subscript_keys.specs.declared.run.Run.{Run}
use Rattle.plain_orders.specs.declared.act.Act.TheVariants as act
use Rattle.ecp_messages.specs.declared.down.Down.{Down}
use Rattle.ecp_messages.specs.declared.down.Down.TheVariants as down
use Rattle.ecp_messages.specs.declared.up.UpFrame.{UpFrame}
use Rattle.end_words.specs.Windows.{fresh, resent, with_ack, with_taken}
use Rattle.data_rules.specs.Callers.{old_welcome, waiting_conn}
use Rattle.data_rules.specs.Conns.{breaks_if, drops_conn, end_breaks, is_normal, link_of, without_conn}
use Rattle.data_rules.specs.Opening.{live_ends}
use Rattle.data_rules.specs.Puts.{Sofar, becomes, conn_of, head_of, tells, window_of, writes}
use Rattle.cluster_runs.specs.Sent.{Lane}
use Rattle.cluster_invariant.specs.Link.{LaneCounts}
use Rattle.cluster_invariant.proofs.PieceKinds.{Piece, Accepts, Forgets, Breaks, Dials, Waits, Opens, OpensNext, Resumes, GoesOn, ComesAgain, AwaitsReset, Closes, Acknowledges, Takes, TakesDone, Enters, Fetches, PutsNormal, PutsAck, Replies, Leaves, Bares, Locks, RoundEnds, Ticks, calls, makes, next_caller, round_over, with_replies}
use Rattle.cluster_invariant.proofs.PieceMay.{Coming, FetchesMay, PutsNormalMay, TakesMay}
use Rattle.cluster_invariant.proofs.Pieces.{MayMake}
use Rattle.link_kept.proofs.WindowPieces.{PutsWell, SameWindows, TakesWell, item_still, same_breaks, same_calls, same_cuts, same_drops, same_round}
use Rattle.link_kept.proofs.WindowsGo.{still_live}
use Rattle.rounds_server.proofs.Gave.{GaveTo, LeftByPlain, gave_ack, gave_again, gave_appends, gave_closes, gave_fresh, gave_leaves, gave_opens, gave_plain, gave_puts, gave_same, gave_set, gave_taken, gave_tells}

-- What stays of a session as messages are put to it and taken of it, by what is known where they are.
pub record Keeps (lane_of : ℕ → Lane) (t : Coming) (s : ℕ) (T : List Down → ℕ → Type 0) (E : Sofar → Type 0) : Type 0 where
  pub plain : LeftByPlain T
  pub normal : (app q : ℕ) (b : Sofar) → s ≡ q → E b → PutsNormalMay t app q b → (ms : List Down) (n : ℕ) → T ms n
      → T (ms ++ down.Normal (head_of b.state q) ∷ []) n
  pub block : (q : ℕ) (run : Run) (bytes : List ℕ) (b : Sofar) → s ≡ q → E b → FetchesMay t q run bytes b → (ms : List Down) (n : ℕ) → T ms n
      → T (ms ++ down.Block (head_of b.state q) bytes ∷ []) n
  pub taken : (conn q : ℕ) (up : UpFrame) (b : Sofar) → s ≡ q → E b → TakesMay t conn q up b → (ms : List Down) → T ms (window_of b.state q).taken
      → T ms ((window_of b.state q).taken + 1)
  pub new : (lane_of s).began ≡ None → T [] 0

module _ (lane_of : ℕ → Lane) (t : Coming) (s : ℕ) (T : List Down → ℕ → Type 0) (counts : LaneCounts (lane_of s))
    (E : Sofar → Type 0) (keeps : Keeps lane_of t s T E) where
  abbrev At : Sofar → Type 0
  At b = GaveTo (lane_of s) s T b.state

  -- of an order that its application server didn't learn of nothing was put
  none_put : (q : ℕ) → s ≡ q → (lane_of q).began ≡ None → ((lane_of s).down ≡ []) × T [] 0
  none_put q same unlearnt = go (ap (λ (k : ℕ). (lane_of k).began) same ∙ unlearnt)
    where
      go : (lane_of s).began ≡ None → ((lane_of s).down ≡ []) × T [] 0
      go none = (counts.no_down none, keeps.new none)

  -- it acknowledges what was put before
  ack_low : (q ack : ℕ) → s ≡ q → ack ≤ (lane_of q).down_taken → ack ≤ length (lane_of s).down
  ack_low q ack same low = go (subst (λ (k : ℕ). ack ≤ (lane_of k).down_taken) (sym same) low)
    where
      go : ack ≤ (lane_of s).down_taken → ack ≤ length (lane_of s).down
      go under = omega (arith, under, counts.down_taken)

  took_at : (conn q : ℕ) (up : UpFrame) (b : Sofar) → TakesMay t conn q up b → TakesWell lane_of q up.ack b → E b → At b → At (makes t.now (Takes conn q up) b)
  took_at conn q up b may well e h =
      gave_set (lane_of s) s T T b.state q (with_taken (window_of b.state q) up.ack)
      (λ same g. gave_taken (lane_of s) T T (window_of b.state q) up.ack (ack_low q up.ack same well.comes.came) (keeps.taken conn q up b same e may) g)
      (λ apart ms n is. is) h

  -- Each of them keeps it.
  pub gave_piece : (p : Piece) (b : Sofar) → MayMake t p b → PutsWell lane_of p b → E b → At b → At (makes t.now p b)
  gave_piece (Accepts conn) b may well e h = h
  gave_piece (Forgets ending conn) b may well e h =
      gave_same (lane_of s) s T (becomes (without_conn conn) b) (makes t.now (Forgets ending conn) b) (same_cuts ending conn (becomes (without_conn conn) b)) h
  gave_piece (Breaks ending conn q app) b may well e h =
      gave_same (lane_of s) s T (end_breaks (Some app) t.now (becomes (without_conn conn) b)) (makes t.now (Breaks ending conn q app) b)
      (same_cuts ending conn (end_breaks (Some app) t.now (becomes (without_conn conn) b)))
      (broken (same_breaks (is_normal (link_of b.state app)) app t.now (becomes (without_conn conn) b)))
    where
      broken : SameWindows (becomes (without_conn conn) b) (breaks_if (is_normal (link_of b.state app)) app t.now (becomes (without_conn conn) b))
          → At (end_breaks (Some app) t.now (becomes (without_conn conn) b))
      broken same = gave_same (lane_of s) s T b (end_breaks (Some app) t.now (becomes (without_conn conn) b))
          (record { windows = same.windows; order = same.order }) h
  gave_piece (Dials app dial) b may well e h = h
  gave_piece (Waits app conn) b may well e h = go (same_drops (waiting_conn b.state app) b)
    where
      go : SameWindows b (drops_conn (waiting_conn b.state app) b) → At (makes t.now (Waits app conn) b)
      go same = gave_same (lane_of s) s T b (makes t.now (Waits app conn) b) (record { windows = same.windows; order = same.order }) h
  gave_piece (Opens app conn) b may well e h =
      gave_opens (lane_of s) s T keeps.plain app conn t.now b (λ same. none_put (length b.state.order + 1) same well.unlearnt) h
  gave_piece (OpensNext app conn) b may well e h =
      gave_opens (lane_of s) s T keeps.plain app conn t.now (becomes next_caller b) (λ same. none_put (length b.state.order + 1) same well.unlearnt) h
  gave_piece (Resumes app q conn) b may well e h = go (same_drops (conn_of b.state q) b)
    where
      go : SameWindows b (drops_conn (conn_of b.state q) b) → At (makes t.now (Resumes app q conn) b)
      go same = gave_same (lane_of s) s T b (makes t.now (Resumes app q conn) b) (record { windows = same.windows; order = same.order }) h
  gave_piece (GoesOn q conn taken) b may well e h =
      gave_again (lane_of s) s T keeps.plain q conn (resent (window_of b.state q) taken) (tells q conn 0 (old_welcome b.state q) b)
      (gave_tells (lane_of s) s T q conn 0 (old_welcome b.state q) b h)
  gave_piece (ComesAgain q conn kept) b may well e h =
      gave_set (lane_of s) s T T b.state q fresh
      (λ same g. let first : ((lane_of s).down ≡ []) × T [] 0 = none_put q same well in gave_fresh (lane_of s) T first.0 first.1) (λ apart ms n is. is) h
  gave_piece (AwaitsReset q conn at) b may well e h = h
  gave_piece (Closes q app cause) b may well e h = gave_closes (lane_of s) s T keeps.plain q app cause t.now b h
  gave_piece (Acknowledges conn q up) b may well e h =
      gave_set (lane_of s) s T T b.state q (with_ack (window_of b.state q) up.ack)
      (λ same g. gave_ack (lane_of s) T (window_of b.state q) up.ack (ack_low q up.ack same well.came) g) (λ apart ms n is. is) h
  gave_piece (Takes conn q up) b may well e h = took_at conn q up b may well e h
  gave_piece (TakesDone conn q up) b may well e h = took_at conn q up b may.takes well e h
  gave_piece (Enters entry) b may well e h =
      gave_appends (lane_of s) s T keeps.plain entry (writes (act.Enter b.state.server entry) b)
      (λ lives. h (sym (still_live b.state.order entry s (item_still may.session may.its.up.message entry may.item)) ∙ lives))
  gave_piece (Fetches q run bytes) b may well e h =
      gave_puts (lane_of s) s T T q (down.Block (head_of b.state q) bytes) b (λ same. keeps.block q run bytes b same e may) (λ apart ms n is. is) h
  gave_piece (PutsNormal app q) b may well e h =
      gave_puts (lane_of s) s T T q (down.Normal (head_of b.state q)) b (λ same. keeps.normal app q b same e may) (λ apart ms n is. is) h
  gave_piece (PutsAck q) b may well e h = gave_plain (lane_of s) s T keeps.plain q (down.Ack (head_of b.state q)) b refl h
  gave_piece (Replies at says) b may well e h = h
  gave_piece (Leaves before r behind) b may well e h = gave_leaves (lane_of s) s T keeps.plain r.says (becomes (with_replies (before ++ behind)) b) h
  gave_piece (Bares q conn) b may well e h = gave_tells (lane_of s) s T q conn 0 down.Bare b h
  gave_piece (Locks call) b may well e h = gave_same (lane_of s) s T b (calls call b) (same_calls call b) h
  gave_piece RoundEnds b may well e h = gave_same (lane_of s) s T b (round_over t.now b) (same_round (live_ends b.state.order) t.now b) h
  gave_piece (Ticks app q) b may well e h = h
