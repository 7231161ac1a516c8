-- In a round each session that was there before is awaited, or learnt of the order: so it is in the midst of a step.
use Rattle.std.proofs.Common.{◌≡◌, ◌≢◌, ◌≤◌, ◌⊎◌, inl, inr, ℕ, ◌+◌, not, Bool, true, false, List, [], ◌∷◌, ◌++◌, length, filter, Option, Some, None, is_some, option_map, refl, sym, ◌∙◌, ap, subst, arith}
use Rattle.std.specs.Prelude.{◌==◌, IfSome}
use Rattle.std.specs.List.{list_any}
use Rattle.std.proofs.lemmas.Bool.{and_parts, eqb-true, false≢true, ne_eqb}
use Rattle.plain_orders.specs.declared.causes.ShutCause.{ShutCause}
use Rattle.plain_orders.specs.declared.entry.Entry.{Entry}
use Rattle.plain_orders.specs.declared.entry.Entry.TheVariants.{Opened}
use Rattle.plain_orders.specs.Entries.{live}
use Rattle.plain_orders.specs.Ordered.{IsOrdered}
use Rattle.plain_orders.specs.Sessions.{live_sessions, opened_sessions}
use Rattle.plain_runs.specs.Plain.{Server}
use Rattle.link_states.specs.declared.link_event.LinkEvent.TheVariants as event
use Rattle.ecp_messages.specs.declared.down.Down.TheVariants as down
use Rattle.ecp_messages.specs.declared.up.UpFrame.{UpFrame}
use Rattle.recovery_round.specs.RoundWords.{Round, is_another, is_over, without}
use Rattle.data_rules.specs.DataState.{DataState}
use Rattle.data_rules.specs.declared.data_in.DataIn.{DataIn}
use Rattle.data_rules.specs.declared.data_in.DataIn.TheVariants as data_in
use Rattle.data_rules.specs.Callers.{waiting_conn}
use Rattle.data_rules.specs.Conns.{breaks_if, drops_conn, end_breaks, is_normal, link_of, with_event, without_conn}
use Rattle.data_rules.specs.Entering.{enters}
use Rattle.data_rules.specs.Opening.{is_round_over, live_ends}
use Rattle.data_rules.specs.Puts.{Sofar, becomes, begun, conn_of, head_of}
use Rattle.cluster_runs.specs.Sent.{Lane}
use Rattle.cluster_runs.specs.Machine.{Site}
use Rattle.cluster_invariant.specs.Ends.{RoundIs, is_undone}
use Rattle.cluster_invariant.specs.Link.{LaneCounts}
use Rattle.cluster_invariant.specs.Words.{is_begun, is_same}
use Rattle.cluster_invariant.proofs.ConnRoles.{dropped_order, dropped_round}
use Rattle.cluster_invariant.proofs.PieceKinds.{Ending, There, Here, Piece, Accepts, Forgets, Breaks, Dials, Waits, Opens, OpensNext, Resumes, GoesOn, ComesAgain, AwaitsReset, Closes, Acknowledges, Takes, TakesDone, Enters, Fetches, PutsNormal, PutsAck, Replies, Leaves, Bares, Locks, RoundEnds, Ticks, cuts_if, makes, next_caller, shuts, with_replies}
use Rattle.cluster_invariant.proofs.PieceMay.{Coming, TakesDoneMay, begins}
use Rattle.cluster_invariant.proofs.Pieces.{MayMake}
use Rattle.cluster_invariant.proofs.PiecesOfRounds.{back_written, ends_aside, opens_round}
use Rattle.cluster_invariant.proofs.PiecesOfSteps.{synced_state}
use Rattle.cluster_invariant.proofs.PutLaws.{only_leaves, only_puts}
use Rattle.data_pieces.proofs.LinksGo.{SameCore}
use Rattle.data_pieces.proofs.PieceFacts.{enters_facts, opens_facts, shuts_facts}
use Rattle.data_pieces.proofs.QuietPieces.{quiet_calls, quiet_goes_on}
use Rattle.dials_server.proofs.OverRounds.{among_filtered, done_learnt, live_opened}
use Rattle.link_kept.proofs.ServesServer.{live_within}
use Rattle.link_kept.proofs.WindowsGo.{close_live, open_or, same_or, still_live}
use Rattle.link_kept.proofs.WindowPieces.{item_still}

-- by the round that is on
abbrev pub LearntOr : (ℕ → Lane) → Option Round → ℕ → Type 0
LearntOr lane_of None s = is_begun (lane_of s) ≡ true
LearntOr lane_of (Some r) s = (list_any (is_same s) r.awaited ≡ true) ⊎ (is_begun (lane_of s) ≡ true)

-- of each session that was live before and is
abbrev pub RoundsLearnt : (ℕ → Lane) → Coming → DataState → Type 0
RoundsLearnt lane_of t n = is_some t.old.round ≡ true → (s : ℕ) → live t.old.order s ≡ true → live n.order s ≡ true → LearntOr lane_of n.round s

begun_or : (lane_of : ℕ → Lane) (o : Option Round) (s : ℕ) → is_begun (lane_of s) ≡ true → LearntOr lane_of o s
begun_or lane_of None s is = is
begun_or lane_of (Some r) s is = inr is

-- another session isn't awaited any more
or_without : (lane_of : ℕ → Lane) (o : Option Round) (q s : ℕ) → s ≢ q → LearntOr lane_of o s → LearntOr lane_of (option_map (λ r. without r q) o) s
or_without lane_of None q s apart h = h
or_without lane_of (Some r) q s apart (inl there) = inl (among_filtered (is_another q) r.awaited s (ap not (ne_eqb s q apart)) there)
or_without lane_of (Some r) q s apart (inr is) = inr is

-- no session is awaited as a round is over
or_over : (lane_of : ℕ → Lane) (n : DataState) (o : Option Round) (s : ℕ) → is_round_over n o ≡ true → LearntOr lane_of o s → is_begun (lane_of s) ≡ true
or_over lane_of n None s over h = h
or_over lane_of n (Some r) s over (inr is) = is
or_over lane_of n (Some r) s over (inl there) = absurd (false≢true (ap (list_any (is_same s)) (sym (empty r.awaited (and_parts (is_over r) _ over).0)) ∙ there))
  where
    empty : (xs : List ℕ) → (length xs == 0) ≡ true → xs ≡ []
    empty [] is = refl
    empty (k ∷ ks) is = absurd (omega (arith, eqb-true (length (k ∷ ks)) 0 is))

module _ (lane_of : ℕ → Lane) (t : Coming) where
  -- where the round is as it was, and no session is live that wasn't
  rounds_same : (n k : DataState) → k.round ≡ n.round → ((s : ℕ) → live t.old.order s ≡ true → live k.order s ≡ true → live n.order s ≡ true) → RoundsLearnt lane_of t n → RoundsLearnt lane_of t k
  rounds_same n k round lives h on s was is = subst (λ (o : Option Round). LearntOr lane_of o s) (sym round) (h on s was (lives s was is))

  rounds_beside : (n k : DataState) → k.round ≡ n.round → k.order ≡ n.order → RoundsLearnt lane_of t n → RoundsLearnt lane_of t k
  rounds_beside n k round order h = rounds_same n k round (λ s was is. sym (ap (λ (es : List Entry). live es s) order) ∙ is) h

  rounds_core : (n k : DataState) → SameCore n k → RoundsLearnt lane_of t n → RoundsLearnt lane_of t k
  rounds_core n k same h = rounds_beside n k same.round same.order h

  rounds_cut : (ending : Ending) (conn : ℕ) (b : Sofar) → RoundsLearnt lane_of t b.state → RoundsLearnt lane_of t (cuts_if ending conn b).state
  rounds_cut There conn b h = h
  rounds_cut Here conn b h = h

  rounds_breaks : (app now : ℕ) (b : Sofar) → RoundsLearnt lane_of t b.state → RoundsLearnt lane_of t (end_breaks (Some app) now b).state
  rounds_breaks app now b h = go (is_normal (link_of b.state app))
    where
      go : (normal : Bool) → RoundsLearnt lane_of t (becomes (with_event app now event.Ended) (breaks_if normal app now b)).state
      go true = h
      go false = h

  rounds_drops : (o : Option ℕ) (b : Sofar) → RoundsLearnt lane_of t b.state → RoundsLearnt lane_of t (drops_conn o b).state
  rounds_drops o b h = rounds_beside b.state (drops_conn o b).state (dropped_round o b) (dropped_order o b) h

  -- a session opens that wasn't there before
  rounds_opens : (n k : DataState) (app : ℕ) → IsOrdered t.old.order → length t.old.order ≤ length n.order → k.round ≡ n.round → k.order ≡ n.order ++ Opened (length n.order + 1) app ∷ []
      → RoundsLearnt lane_of t n → RoundsLearnt lane_of t k
  rounds_opens n k app ordered longer round order h =
      rounds_same n k round
      (λ s was is. go s was (open_or n.order (length n.order + 1) app s (sym (ap (λ (es : List Entry). live es s) order) ∙ is))) h
    where
      go : (s : ℕ) → live t.old.order s ≡ true → (s ≡ length n.order + 1) ⊎ (live n.order s ≡ true) → live n.order s ≡ true
      go s was (inl same) = absurd (omega (arith, same, longer, live_within t.old.order ordered s was))
      go s was (inr lives) = lives

  rounds_shuts : (s app : ℕ) (cause : ShutCause) (now : ℕ) (b : Sofar) → RoundsLearnt lane_of t b.state → RoundsLearnt lane_of t (shuts s app cause now b).state
  rounds_shuts s app cause now b h on q was is =
      subst (λ (o : Option Round). LearntOr lane_of o q) (sym (shuts_facts s app cause now b).round)
      (or_without lane_of b.state.round s q lives.0 (h on q was lives.1))
    where
      lives : (q ≢ s) × (live b.state.order q ≡ true)
      lives = close_live b.state.order s q (sym (ap (λ (es : List Entry). live es q) (shuts_facts s app cause now b).order) ∙ is)

  -- Each small change.
  pub rounds_piece : IsOrdered t.old.order → (q : Piece) (b : Sofar) → MayMake t q b → length t.old.order ≤ length b.state.order
      → ((conn session : ℕ) (f : UpFrame) → TakesDoneMay t conn session f b → is_begun (lane_of session) ≡ true) → RoundsLearnt lane_of t b.state → RoundsLearnt lane_of t (makes t.now q b).state
  rounds_piece ordered (Accepts conn) b may longer done h = h
  rounds_piece ordered (Forgets ending conn) b may longer done h = rounds_cut ending conn (becomes (without_conn conn) b) h
  rounds_piece ordered (Breaks ending conn session app) b may longer done h =
      rounds_cut ending conn (end_breaks (Some app) t.now (becomes (without_conn conn) b)) (rounds_breaks app t.now (becomes (without_conn conn) b) h)
  rounds_piece ordered (Dials app dial) b may longer done h = h
  rounds_piece ordered (Waits app conn) b may longer done h = rounds_drops (waiting_conn b.state app) b h
  rounds_piece ordered (Opens app conn) b may longer done h =
      rounds_opens b.state (makes t.now (Opens app conn) b).state app ordered longer (opens_round app conn t.now b) (opens_facts app conn t.now b).order h
  rounds_piece ordered (OpensNext app conn) b may longer done h =
      rounds_opens b.state (makes t.now (OpensNext app conn) b).state app ordered longer (opens_round app conn t.now (becomes next_caller b)) (opens_facts app conn t.now (becomes next_caller b)).order h
  rounds_piece ordered (Resumes app session conn) b may longer done h = rounds_drops (conn_of b.state session) b h
  rounds_piece ordered (GoesOn session conn taken) b may longer done h = rounds_core b.state (makes t.now (GoesOn session conn taken) b).state (quiet_goes_on session conn taken b).core h
  rounds_piece ordered (ComesAgain session conn kept) b may longer done h = h
  rounds_piece ordered (AwaitsReset session conn at) b may longer done h = h
  rounds_piece ordered (Closes session app cause) b may longer done h = rounds_shuts session app cause t.now b h
  rounds_piece ordered (Acknowledges conn session f) b may longer done h = h
  rounds_piece ordered (Takes conn session f) b may longer done h = h
  rounds_piece ordered (TakesDone conn session f) b may longer done h = λ on s was is. go s (h on s was is) (same_or s session)
    where
      go : (s : ℕ) → LearntOr lane_of b.state.round s → (s ≡ session) ⊎ (s ≢ session) → LearntOr lane_of (option_map (λ r. without r session) b.state.round) s
      go s was (inl same) = begun_or lane_of (option_map (λ r. without r session) b.state.round) s (ap (λ (n : ℕ). is_begun (lane_of n)) same ∙ done conn session f may)
      go s was (inr apart) = or_without lane_of b.state.round session s apart was
  rounds_piece ordered (Enters e) b may longer done h =
      rounds_same b.state (enters e b).state (enters_facts e b).round
      (λ s was is. sym (ap (λ (es : List Entry). live es s) (enters_facts e b).order ∙ still_live b.state.order e s (item_still may.session may.its.up.message e may.item)) ∙ is) h
  rounds_piece ordered (Fetches session run block) b may longer done h =
      rounds_beside b.state (makes t.now (Fetches session run block) b).state (ap (λ (n : DataState). n.round) (only_puts session (down.Block (head_of b.state session) block) b).state)
      (ap (λ (n : DataState). n.order) (only_puts session (down.Block (head_of b.state session) block) b).state) h
  rounds_piece ordered (PutsNormal app session) b may longer done h =
      rounds_beside b.state (makes t.now (PutsNormal app session) b).state (ap (λ (n : DataState). n.round) (only_puts session _ b).state) (ap (λ (n : DataState). n.order) (only_puts session _ b).state) h
  rounds_piece ordered (PutsAck session) b may longer done h =
      rounds_beside b.state (makes t.now (PutsAck session) b).state (ap (λ (n : DataState). n.round) (only_puts session _ b).state) (ap (λ (n : DataState). n.order) (only_puts session _ b).state) h
  rounds_piece ordered (Replies at says) b may longer done h = h
  rounds_piece ordered (Leaves before r behind) b may longer done h =
      rounds_beside b.state (makes t.now (Leaves before r behind) b).state (ap (λ (n : DataState). n.round) (only_leaves r.says (becomes (with_replies (before ++ behind)) b)).state)
      (ap (λ (n : DataState). n.order) (only_leaves r.says (becomes (with_replies (before ++ behind)) b)).state) h
  rounds_piece ordered (Bares session conn) b may longer done h = h
  rounds_piece ordered (Locks call) b may longer done h = rounds_core b.state (makes t.now (Locks call) b).state (quiet_calls call b).core h
  rounds_piece ordered RoundEnds b may longer done h =
      λ on s was is.
      subst (λ (o : Option Round). LearntOr lane_of o s) (sym ((ends_aside (live_ends b.state.order) t.now).round (back_written b)))
      (or_over lane_of b.state b.state.round s may
      (h on s was (sym (ap (λ (es : List Entry). live es s) ((ends_aside (live_ends b.state.order) t.now).order (back_written b))) ∙ is)))
  rounds_piece ordered (Ticks app session) b may longer done h = h

-- where a step begins
pub rounds_begin : (v : Server) (x : Site) (old : DataState) (now : ℕ) (input : DataIn) → ((s : ℕ) → LaneCounts (x.lane_at s x.past)) → RoundIs v old (λ s. x.lane_at s x.past)
    → RoundsLearnt (λ s. x.lane_at s x.past) (record { old = old; now = now; input = input }) (begins (record { old = old; now = now; input = input })).state
rounds_begin v x old now input counts round = go input
  where
    lane_of : ℕ → Lane
    lane_of s = x.lane_at s x.past

    by : (o : Option Round) (s : ℕ) → is_some o ≡ true → IfSome o (λ r. r.awaited ≡ filter (is_undone lane_of) (live_sessions old.order)) → live old.order s ≡ true → LearntOr lane_of o s
    by None s some is lives = absurd (false≢true some)
    by (Some r) s some is lives = or (is_undone lane_of s) refl
      where
        or : (b : Bool) → is_undone lane_of s ≡ b → LearntOr lane_of (Some r) s
        or false done = inr (done_learnt x s (counts s) done)
        or true undone =
            inl (ap (list_any (is_same s)) is
            ∙ among_filtered (is_undone lane_of) (live_sessions old.order) s undone
            (among_filtered (live old.order) (opened_sessions old.order) s lives (live_opened false old.order s lives refl)))

    from : is_some old.round ≡ true → (s : ℕ) → live old.order s ≡ true → live old.order s ≡ true → LearntOr lane_of old.round s
    from on s was is = by old.round s on round.awaited is

    go : (i : DataIn) → RoundsLearnt lane_of (record { old = old; now = now; input = i }) (begins (record { old = old; now = now; input = i })).state
    go (data_in.Frame conn f) = from
    go (data_in.Connected conn) = from
    go (data_in.Broken conn) = from
    go data_in.Tick = from
    go (data_in.Saved upto) =
        subst (λ (n : DataState). RoundsLearnt lane_of (record { old = old; now = now; input = data_in.Saved upto }) n) (sym (synced_state upto (begun old))) from
