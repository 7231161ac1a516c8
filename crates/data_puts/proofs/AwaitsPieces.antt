-- What a round awaits goes along with each small change of a data server's step.
use Rattle.std.proofs.Common.{◌≡◌, ◌≢◌, ◌⊎◌, inl, inr, ℕ, zero, suc, Bool, true, false, List, [], ◌∷◌, ◌++◌, drop, Option, Some, None, is_some, option_map, refl, sym, ◌∙◌, ap, subst}
use Rattle.std.proofs.lemmas.Bool.{true≢false}
use Rattle.plain_orders.specs.declared.act.Act.TheVariants as act
use Rattle.plain_orders.specs.declared.causes.ShutCause.{ShutCause}
use Rattle.plain_orders.specs.declared.entry.Entry.{Entry}
use Rattle.plain_orders.specs.declared.entry.Entry.TheVariants.{Closed}
use Rattle.ecp_messages.specs.declared.down.Down.{Down}
use Rattle.ecp_messages.specs.declared.down.Down.TheVariants as down
use Rattle.ecp_messages.specs.declared.up.Up.{Up}
use Rattle.ecp_messages.specs.declared.up.UpFrame.{UpFrame}
use Rattle.end_words.specs.Windows.{Window, fresh, with_ack, with_taken}
use Rattle.recovery_round.specs.RoundWords.{Round, without}
use Rattle.data_rules.specs.DataState.{DataState, SessionWindow}
use Rattle.data_rules.specs.declared.data_in.DataIn.TheVariants as data_in
use Rattle.data_rules.specs.Callers.{waiting_conn}
use Rattle.data_rules.specs.Closing.{silenced}
use Rattle.data_rules.specs.Conns.{breaks_if, with_event, end_breaks, is_normal, link_of, without_conn}
use Rattle.data_rules.specs.Entering.{enters}
use Rattle.data_rules.specs.Opening.{live_ends}
use Rattle.data_rules.specs.Puts.{Sofar, becomes, conn_of, head_of, set_window, window_in, window_of, writes}
use Rattle.cluster_runs.specs.Sent.{Lane}
use Rattle.cluster_invariant.specs.Ends.{is_done}
use Rattle.cluster_invariant.proofs.ConnRoles.{dropped_round}
use Rattle.cluster_invariant.proofs.PieceKinds.{Ending, There, Here, Piece, Accepts, Forgets, Breaks, Dials, Waits, Opens, OpensNext, Resumes, GoesOn, ComesAgain, AwaitsReset, Closes, Acknowledges, Takes, TakesDone, Enters, Fetches, PutsNormal, PutsAck, Replies, Leaves, Bares, Locks, RoundEnds, Ticks, calls, cuts_if, makes, next_caller, shuts, with_close, with_replies}
use Rattle.cluster_invariant.proofs.PieceMay.{ComesAgainMay, Coming, TakesMay}
use Rattle.cluster_invariant.proofs.Pieces.{MayMake}
use Rattle.cluster_invariant.proofs.PiecesOfRounds.{back_written, ends_aside, opens_round}
use Rattle.cluster_invariant.proofs.PutLaws.{only_leaves, only_puts}
use Rattle.link_kept.proofs.WindowLists.{gone_elsewhere, set_elsewhere}
use Rattle.link_kept.proofs.WindowsGo.{same_or}
use Rattle.link_states.specs.declared.link_event.LinkEvent.TheVariants as event
use Rattle.link_kept.proofs.WindowPieces.{SameWindows, same_calls, same_cuts, same_drops, same_parts}
use Rattle.data_puts.proofs.AwaitsGo.{Awaits, awaits_close, awaits_live, awaits_more, awaits_quiet, awaits_taken, undone_at, undone_in}
use Rattle.data_pieces.proofs.EntryPieces.{item_is}
use Rattle.data_pieces.proofs.PieceFacts.{ClosedTo, enters_facts, shuts_facts}
use Rattle.data_pieces.proofs.QuietPieces.{quiet_calls, quiet_goes_on}
use Rattle.data_puts.proofs.TakenSame.{SameTaken, set_taken, taken_appends, taken_bare, taken_goes_on, taken_leaves, taken_puts}

-- what is known of the messages of sessions
pub record TakesKnown (lane_of : ℕ → Lane) (t : Coming) (E : Sofar → Type 0) : Type 0 where
  -- one that comes is the next that was put
  pub next : (conn session : ℕ) (up : UpFrame) (b : Sofar) → TakesMay t conn session up b → (rest : List Up) × (drop (window_of b.state session).taken (lane_of session).up ≡ up.message ∷ rest)
  -- of a session that comes again nothing was put
  pub again : (session conn kept : ℕ) (b : Sofar) → E b → ComesAgainMay t session conn kept b → (lane_of session).up ≡ []
  -- no Done comes
  pub undone : (conn : ℕ) (up : UpFrame) → t.input ≡ data_in.Frame conn up → is_done up.message ≡ false

cut_round : (ending : Ending) (conn : ℕ) (b : Sofar) → (cuts_if ending conn b).state.round ≡ b.state.round
cut_round There conn b = refl
cut_round Here conn b = refl

none_is : (o : Option Round) → is_some o ≡ false → o ≡ None
none_is None is = refl
none_is (Some r) is = absurd (true≢false is)

module _ (lane_of : ℕ → Lane) where
  abbrev pub AwaitsOn : Sofar → Type 0
  AwaitsOn b = Awaits lane_of b.state.round b.state.windows b.state.order

  -- nothing of it changes
  pub awaits_same : (b c : Sofar) → c.state.round ≡ b.state.round → c.state.order ≡ b.state.order → SameTaken b c → AwaitsOn b → AwaitsOn c
  awaits_same b c round order taken h =
      subst (λ (o : Option Round). Awaits lane_of o c.state.windows c.state.order) (sym round)
      (subst (λ (es : List Entry). Awaits lane_of b.state.round c.state.windows es) (sym order) (awaits_taken lane_of b.state.round b.state.windows c.state.windows b.state.order taken h))

  pub awaits_beside : (b c : Sofar) → c.state.round ≡ b.state.round → SameWindows b c → AwaitsOn b → AwaitsOn c
  awaits_beside b c round same h = awaits_same b c round same.order (λ s. ap (λ (ws : List SessionWindow). (window_in ws s).taken) same.windows) h

  no_round : (b : Sofar) → b.state.round ≡ None → AwaitsOn b
  no_round b none = subst (λ (o : Option Round). Awaits lane_of o b.state.windows b.state.order) (sym none) tt

  -- an end that breaks
  pub awaits_breaks : (app now : ℕ) (b : Sofar) → AwaitsOn b → AwaitsOn (end_breaks (Some app) now b)
  awaits_breaks app now b h = go (is_normal (link_of b.state app))
    where
      go : (normal : Bool) → AwaitsOn (becomes (with_event app now event.Ended) (breaks_if normal app now b))
      go true = h
      go false = h

  -- a Close
  closes_on : (s app : ℕ) (cause : ShutCause) (now : ℕ) (b : Sofar) → AwaitsOn b → AwaitsOn (shuts s app cause now b)
  closes_on s app cause now b h = go (shuts_facts s app cause now b)
    where
      silent : Sofar
      silent = becomes (silenced s) (writes (act.Shut b.state.server s cause) b)

      windows : (q : ℕ) → q ≢ s → (window_in (shuts s app cause now b).state.windows q).taken ≡ (window_in b.state.windows q).taken
      windows q differs =
          ap (λ (ws : List SessionWindow). (window_in ws q).taken) (same_parts cause (conn_of b.state s) s (with_close s cause b)).windows
          ∙ taken_appends (Closed s) (becomes (silenced s) (writes (act.Shut b.state.server s cause) b)) q
          ∙ ap (λ (w : Window Down). w.taken) (gone_elsewhere b.state.windows s q differs)

      go : ClosedTo s app cause (conn_of b.state s) now b.state (shuts s app cause now b).state → AwaitsOn (shuts s app cause now b)
      go f =
          subst (λ (o : Option Round). Awaits lane_of o (shuts s app cause now b).state.windows (shuts s app cause now b).state.order) (sym f.round)
          (subst (λ (es : List Entry). Awaits lane_of (option_map (λ r. without r s) b.state.round) (shuts s app cause now b).state.windows es) (sym f.order)
          (awaits_close lane_of b.state.round b.state.windows (shuts s app cause now b).state.windows b.state.order s windows h))

  module _ (t : Coming) (E : Sofar → Type 0) (known : TakesKnown lane_of t E) where
    awaits_again : (session conn kept : ℕ) (b : Sofar) → E b → ComesAgainMay t session conn kept b → AwaitsOn b → AwaitsOn (makes t.now (ComesAgain session conn kept) b)
    awaits_again session conn kept b e may h =
        awaits_live lane_of b.state.round b.state.windows (set_window b.state.windows session fresh) b.state.order (λ s is. go s (same_or s session)) h
      where
        none_at : (n : ℕ) → undone_at [] n ≡ true
        none_at zero = refl
        none_at (suc n) = refl

        go : (s : ℕ) → (s ≡ session) ⊎ (s ≢ session) → undone_in lane_of (set_window b.state.windows session fresh) s ≡ undone_in lane_of b.state.windows s
        go s (inl same) =
            ap (λ (ups : List Up). undone_at ups (window_in (set_window b.state.windows session fresh) s).taken) (ap (λ (n : ℕ). (lane_of n).up) same ∙ known.again session conn kept b e may)
            ∙ none_at _
            ∙ sym (ap (λ (ups : List Up). undone_at ups (window_in b.state.windows s).taken) (ap (λ (n : ℕ). (lane_of n).up) same ∙ known.again session conn kept b e may) ∙ none_at _)
        go s (inr differs) = ap (λ (w : Window Down). undone_at (lane_of s).up w.taken) (set_elsewhere b.state.windows session s fresh differs)

    -- Each of them.
    pub awaits_piece : (q : Piece) (b : Sofar) → MayMake t q b → E b → AwaitsOn b → AwaitsOn (makes t.now q b)
    awaits_piece (Accepts conn) b may e h = h
    awaits_piece (Forgets ending conn) b may e h = awaits_beside (becomes (without_conn conn) b) (makes t.now (Forgets ending conn) b) (cut_round ending conn (becomes (without_conn conn) b)) (same_cuts ending conn (becomes (without_conn conn) b)) h
    awaits_piece (Breaks ending conn session app) b may e h =
        awaits_beside (end_breaks (Some app) t.now (becomes (without_conn conn) b)) (makes t.now (Breaks ending conn session app) b) (cut_round ending conn (end_breaks (Some app) t.now (becomes (without_conn conn) b)))
        (same_cuts ending conn (end_breaks (Some app) t.now (becomes (without_conn conn) b))) (awaits_breaks app t.now (becomes (without_conn conn) b) h)
    awaits_piece (Dials app dial) b may e h = h
    awaits_piece (Waits app conn) b may e h = awaits_beside b (makes t.now (Waits app conn) b) (dropped_round (waiting_conn b.state app) b) (record { windows = (same_drops (waiting_conn b.state app) b).windows; order = (same_drops (waiting_conn b.state app) b).order }) h
    awaits_piece (Opens app conn) b may e h = no_round (makes t.now (Opens app conn) b) (opens_round app conn t.now b ∙ none_is b.state.round may.round)
    awaits_piece (OpensNext app conn) b may e h = no_round (makes t.now (OpensNext app conn) b) (opens_round app conn t.now (becomes next_caller b) ∙ may.over)
    awaits_piece (Resumes app session conn) b may e h =
        awaits_beside b (makes t.now (Resumes app session conn) b) (dropped_round (conn_of b.state session) b)
        (record { windows = (same_drops (conn_of b.state session) b).windows; order = (same_drops (conn_of b.state session) b).order }) h
    awaits_piece (GoesOn session conn taken) b may e h =
        awaits_same b (makes t.now (GoesOn session conn taken) b) (quiet_goes_on session conn taken b).core.round (quiet_goes_on session conn taken b).core.order (taken_goes_on session conn taken b) h
    awaits_piece (ComesAgain session conn kept) b may e h = awaits_again session conn kept b e may h
    awaits_piece (AwaitsReset session conn at) b may e h = h
    awaits_piece (Closes session app cause) b may e h = closes_on session app cause t.now b h
    awaits_piece (Acknowledges conn session up) b may e h =
        awaits_same b (makes t.now (Acknowledges conn session up) b) refl refl (set_taken b.state.windows session (with_ack (window_in b.state.windows session) up.ack) refl) h
    awaits_piece (Takes conn session up) b may e h =
        awaits_more lane_of b.state.round b.state.windows b.state.order session (with_taken (window_in b.state.windows session) up.ack) up.message (known.next conn session up b may).0 refl
        (known.next conn session up b may).1 (known.undone conn up may.on.came) h
    awaits_piece (TakesDone conn session up) b may e h = absurd (true≢false (sym (ap is_done may.done) ∙ known.undone conn up may.takes.on.came))
    awaits_piece (Enters e) b may along h =
        subst (λ (o : Option Round). Awaits lane_of o (enters e b).state.windows (enters e b).state.order) (sym (enters_facts e b).round)
        (subst (λ (es : List Entry). Awaits lane_of b.state.round (enters e b).state.windows es) (sym (enters_facts e b).order)
        (awaits_quiet lane_of b.state.round (enters e b).state.windows b.state.order e (item_is may.session may.its.up.message e may.item).quiet
        (awaits_taken lane_of b.state.round b.state.windows (enters e b).state.windows b.state.order (taken_appends e (writes (act.Enter b.state.server e) b)) h)))
    awaits_piece (Fetches session run block) b may e h =
        awaits_same b (makes t.now (Fetches session run block) b) (ap (λ (d : DataState). d.round) (only_puts session (down.Block (head_of b.state session) block) b).state)
        (ap (λ (d : DataState). d.order) (only_puts session (down.Block (head_of b.state session) block) b).state) (taken_puts session (down.Block (head_of b.state session) block) b) h
    awaits_piece (PutsNormal app session) b may e h =
        awaits_same b (makes t.now (PutsNormal app session) b) (ap (λ (d : DataState). d.round) (only_puts session (down.Normal (head_of b.state session)) b).state)
        (ap (λ (d : DataState). d.order) (only_puts session (down.Normal (head_of b.state session)) b).state) (taken_puts session (down.Normal (head_of b.state session)) b) h
    awaits_piece (PutsAck session) b may e h =
        awaits_same b (makes t.now (PutsAck session) b) (ap (λ (d : DataState). d.round) (only_puts session (down.Ack (head_of b.state session)) b).state)
        (ap (λ (d : DataState). d.order) (only_puts session (down.Ack (head_of b.state session)) b).state) (taken_puts session (down.Ack (head_of b.state session)) b) h
    awaits_piece (Replies at says) b may e h = h
    awaits_piece (Leaves before r behind) b may e h =
        awaits_same b (makes t.now (Leaves before r behind) b) (ap (λ (d : DataState). d.round) (only_leaves r.says (becomes (with_replies (before ++ behind)) b)).state)
        (ap (λ (d : DataState). d.order) (only_leaves r.says (becomes (with_replies (before ++ behind)) b)).state) (taken_leaves r.says (becomes (with_replies (before ++ behind)) b)) h
    awaits_piece (Bares session conn) b may e h = awaits_same b (makes t.now (Bares session conn) b) refl refl (taken_bare session conn b) h
    awaits_piece (Locks call) b may e h = awaits_beside b (calls call b) (quiet_calls call b).core.round (same_calls call b) h
    awaits_piece RoundEnds b may e h = no_round (makes t.now RoundEnds b) ((ends_aside (live_ends b.state.order) t.now).round (back_written b))
    awaits_piece (Ticks app session) b may e h = h
