-- A connection whose session is closed by a tick: a round was on as the step began.
use Rattle.std.proofs.Common.{◌≡◌, ◌≢◌, ◌≤◌, ◌<◌, ◌⊎◌, inl, inr, ℕ, zero, suc, ◌+◌, Bool, true, false, List, [], ◌∷◌, ◌++◌, map, length, Option, Some, None, is_some, option_map, get_or, refl, sym, ◌∙◌, ap, subst, arith}
use Rattle.std.specs.Prelude.{IsSomeAnd, nat_lt}
use Rattle.std.proofs.lemmas.Bool.{false≢true, ltb-false, ltb-true}
use Rattle.plain_orders.specs.declared.causes.ShutCause.{ShutCause}
use Rattle.plain_orders.specs.declared.causes.ShutCause.TheVariants as causes
use Rattle.plain_orders.specs.declared.layout.Layout.{Layout}
use Rattle.plain_orders.specs.Entries.{live_session}
use Rattle.plain_runs.specs.Plain.{Plain}
use Rattle.link_states.specs.declared.data_link.DataLink.{DataLink}
use Rattle.link_states.specs.declared.data_link.DataLink.TheVariants as links
use Rattle.link_states.specs.declared.link_event.LinkEvent.TheVariants as event
use Rattle.link_states.specs.Tables.{data_next}
use Rattle.ecp_messages.specs.declared.down.Down.TheVariants as down
use Rattle.recovery_round.specs.RoundWords.{Round, without}
use Rattle.data_rules.specs.DataState.{DataState}
use Rattle.data_rules.specs.declared.limits.TheConstants.{APP_LIMIT}
use Rattle.data_rules.specs.declared.rows.Caller.{Caller}
use Rattle.data_rules.specs.declared.rows.Conn.{Conn}
use Rattle.data_rules.specs.declared.rows.Role.{Role}
use Rattle.data_rules.specs.declared.rows.Role.TheVariants.{New, Waiting, Bound, Closing}
use Rattle.data_rules.specs.Callers.{waiting_conn}
use Rattle.data_rules.specs.Conns.{breaks_if, drops_conn, end_breaks, is_normal, link_of, with_event, with_role_if, without_conn}
use Rattle.data_rules.specs.Entering.{enters}
use Rattle.data_rules.specs.Messages.{is_awaited}
use Rattle.data_rules.specs.Opening.{live_ends}
use Rattle.data_rules.specs.Puts.{Sofar, becomes, conn_of, head_of}
use Rattle.data_rules.specs.Saving.{hears_tick}
use Rattle.cluster_invariant.specs.Ends.{LinkIs}
use Rattle.cluster_invariant.proofs.PieceKinds.{Ending, There, Here, Piece, Accepts, Forgets, Breaks, Dials, Waits, Opens, OpensNext, Resumes, GoesOn, ComesAgain, AwaitsReset, Closes, Acknowledges, Takes, TakesDone, Enters, Fetches, PutsNormal, PutsAck, Replies, Leaves, Bares, Locks, RoundEnds, Ticks, cuts_if, makes, next_caller, shuts, with_replies}
use Rattle.cluster_invariant.proofs.PieceMay.{ClosesBy, ClosesMay, Coming, TickCloses}
use Rattle.cluster_invariant.proofs.Pieces.{MayMake}
use Rattle.cluster_invariant.proofs.PiecesOfRounds.{back_written, ends_aside, opens_round}
use Rattle.cluster_invariant.proofs.PutLaws.{only_leaves, only_puts}
use Rattle.data_pieces.proofs.CallersGo.{role_less}
use Rattle.data_pieces.proofs.ClosePieces.{closed_conns}
use Rattle.data_pieces.proofs.ConnLists.{role_at}
use Rattle.data_pieces.proofs.ConnPieces.{role_before, role_dropped}
use Rattle.data_pieces.proofs.LinksGo.{SameCore}
use Rattle.data_pieces.proofs.PieceFacts.{enters_facts, opens_facts, shuts_facts}
use Rattle.data_pieces.proofs.QuietPieces.{quiet_calls, quiet_goes_on}
use Rattle.data_pieces.proofs.PlainView.{view}
use Rattle.data_puts.proofs.SpokenAlong.{Along}
use Rattle.link_nodes.proofs.BoundsGo.{role_set}

-- a round that is on was on, and a connection that awaits the Reset of the session that it had before does so since a round
pub record ClosingGo (t : Coming) (n : DataState) : Type 0 where
  pub still : is_some n.round ≡ true → is_some t.old.round ≡ true
  pub closing : (m s : ℕ) → role_at m n.conns ≡ Some (Closing s) → role_at m t.old.conns ≡ Some (Bound s) → is_some t.old.round ≡ true

over_places : (xs : List DataLink) (k : ℕ) → length xs ≤ k → get_or xs k links.Free ≡ links.Free
over_places [] k low = refl
over_places (x ∷ xs) zero low = absurd (omega (arith, low))
over_places (x ∷ xs) (suc k) low = over_places xs k (omega (arith, low))

-- there is no link beyond the places
beyond : (xs : List DataLink) (k : ℕ) → nat_lt k (length xs) ≡ false → get_or xs k links.Free ≡ links.Free
beyond xs k is = over_places xs k (ltb-false k (length xs) is)

module _ (t : Coming) where
  closing_by : (n k : DataState) → (is_some k.round ≡ true → is_some n.round ≡ true) → ((m s : ℕ) → role_at m k.conns ≡ Some (Closing s) → role_at m n.conns ≡ Some (Closing s)) → ClosingGo t n → ClosingGo t k
  closing_by n k round before h = record { still = λ is. h.still (round is); closing = λ m s is was. h.closing m s (before m s is) was }

  closing_same : (n k : DataState) → k.round ≡ n.round → k.conns ≡ n.conns → ClosingGo t n → ClosingGo t k
  closing_same n k round conns h =
      closing_by n k (λ is. sym (ap (λ (o : Option Round). is_some o) round) ∙ is) (λ m s is. sym (ap (role_at m) conns) ∙ is) h

  closing_core : (n k : DataState) → SameCore n k → ClosingGo t n → ClosingGo t k
  closing_core n k same h = closing_same n k same.round same.conns h

  -- roles that are told are no Resets
  set_other : (conn m s : ℕ) (r : Role) (cs : List Conn) → ((q : ℕ) → r ≡ Closing q → ⊥) → role_at m (map (with_role_if conn r) cs) ≡ Some (Closing s) → role_at m cs ≡ Some (Closing s)
  set_other conn m s r cs apart is = go (role_set conn m r (Closing s) cs is)
    where
      go : ((m ≡ conn) × (Closing s ≡ r)) ⊎ ((m ≢ conn) × (role_at m cs ≡ Some (Closing s))) → role_at m cs ≡ Some (Closing s)
      go (inl here) = absurd (apart s (sym here.1))
      go (inr there) = there.1

  closing_cut : (ending : Ending) (conn : ℕ) (b : Sofar) → ClosingGo t b.state → ClosingGo t (cuts_if ending conn b).state
  closing_cut There conn b h = h
  closing_cut Here conn b h = h

  closing_gone : (conn : ℕ) (n : DataState) → ClosingGo t n → ClosingGo t (without_conn conn n)
  closing_gone conn n h = closing_by n (without_conn conn n) (λ is. is) (λ m s is. role_before conn m (Closing s) n.conns is) h

  closing_drops : (o : Option ℕ) (b : Sofar) → ClosingGo t b.state → ClosingGo t (drops_conn o b).state
  closing_drops None b h = h
  closing_drops (Some w) b h = closing_gone w b.state h

  closing_breaks : (app now : ℕ) (b : Sofar) → ClosingGo t b.state → ClosingGo t (end_breaks (Some app) now b).state
  closing_breaks app now b h = go (is_normal (link_of b.state app))
    where
      go : (normal : Bool) → ClosingGo t (becomes (with_event app now event.Ended) (breaks_if normal app now b)).state
      go true = closing_by b.state (with_event app now event.Ended b.state) (λ is. is) (λ m s is. is) h
      go false = closing_by b.state (with_event app now event.Ended b.state) (λ is. is) (λ m s is. is) h

  some_round : (o : Option Round) (s : ℕ) → is_some (option_map (λ r. without r s) o) ≡ true → is_some o ≡ true
  some_round None s is = is
  some_round (Some r) s is = refl

  some_and : (o : Option Round) (P : Round → Type 0) → IsSomeAnd o P → is_some o ≡ true
  some_and None P is = absurd is
  some_and (Some r) P is = refl

  module _ (l : Layout) (p : Plain) (d k : ℕ) (W : Caller → Type 0) where
    -- a tick that closes a session with a connection is in a round
    tick_round : (session app conn : ℕ) (cause : ShutCause) (b : Sofar) → Along l p d k t W b → live_session b.state.order app ≡ Some session → conn_of b.state session ≡ Some conn → TickCloses t session app cause b
        → is_some b.state.round ≡ true
    tick_round session app conn cause b a has its why = go (link_of b.state app) refl (nat_lt app APP_LIMIT) refl
      where
        is_link : app < APP_LIMIT → (x : DataLink) → link_of b.state app ≡ x → LinkIs (view l p d k b.outs.acts) b.state app x
        is_link low x is = subst (λ (y : DataLink). LinkIs (view l p d k b.outs.acts) b.state app y) is (a.ends.links.links app low)

        apart : IsSomeAnd (live_session b.state.order app) (λ s. conn_of b.state s ≡ None) → ⊥
        apart is = absurd (let none : conn_of b.state session ≡ None = subst (λ (o : Option ℕ). IsSomeAnd o (λ s. conn_of b.state s ≡ None)) has is in cc)

        out : (x : DataLink) → link_of b.state app ≡ x → nat_lt app APP_LIMIT ≡ false → x ≡ links.Free
        out x is over = sym is ∙ beyond b.state.links app (ap (nat_lt app) a.ends.links.places ∙ over)

        go : (x : DataLink) → link_of b.state app ≡ x → (low : Bool) → nat_lt app APP_LIMIT ≡ low → is_some b.state.round ≡ true
        go links.Free is low its_low = absurd (false≢true (sym (ap (λ (y : DataLink). hears_tick y (is_awaited b.state session)) is) ∙ why.hears))
        go links.Normal is low its_low =
            absurd (let free : data_next b.state.times t.now links.Normal event.Ticked ≡ links.Free = sym (ap (λ (y : DataLink). data_next b.state.times t.now y event.Ticked) is) ∙ why.free in cc)
        go (links.Trouble broke) is true low = absurd (apart (is_link (ltb-true app APP_LIMIT low) (links.Trouble broke) is).apart)
        go (links.Trouble broke) is false over = absurd (let free : links.Trouble broke ≡ links.Free = out (links.Trouble broke) is over in cc)
        go (links.Recovering due) is true low = some_and b.state.round _ (is_link (ltb-true app APP_LIMIT low) (links.Recovering due) is).in_round
        go (links.Recovering due) is false over = absurd (let free : links.Recovering due ≡ links.Free = out (links.Recovering due) is over in cc)

    closing_shuts : (session app : ℕ) (cause : ShutCause) (b : Sofar) → ClosesMay t session app cause b → Along l p d k t W b → ClosingGo t b.state → ClosingGo t (shuts session app cause t.now b).state
    closing_shuts session app cause b may a h = record {
      still = λ is. h.still (some_round b.state.round session (sym (ap (λ (o : Option Round). is_some o) (shuts_facts session app cause t.now b).round) ∙ is));
      closing = λ m s is was. by cause may.why (conn_of b.state session) refl m s (sym (ap (role_at m) (shuts_facts session app cause t.now b).conns) ∙ is) was;
    }
      where
        set : (conn : ℕ) → conn_of b.state session ≡ Some conn → (c : ShutCause) → TickCloses t session app c b → (m s : ℕ) → role_at m (map (with_role_if conn (Closing session)) b.state.conns) ≡ Some (Closing s)
            → role_at m t.old.conns ≡ Some (Bound s) → is_some t.old.round ≡ true
        set conn its c why m s is was = go (role_set conn m (Closing session) (Closing s) b.state.conns is)
          where
            go : ((m ≡ conn) × (Closing s ≡ Closing session)) ⊎ ((m ≢ conn) × (role_at m b.state.conns ≡ Some (Closing s))) → is_some t.old.round ≡ true
            go (inl here) = h.still (tick_round session app conn c b a may.has its why)
            go (inr there) = h.closing m s there.1 was

        by : (c : ShutCause) → ClosesBy t session app c b → (o : Option ℕ) → conn_of b.state session ≡ o → (m s : ℕ) → role_at m (closed_conns c o session b.state.conns) ≡ Some (Closing s)
            → role_at m t.old.conns ≡ Some (Bound s) → is_some t.old.round ≡ true
        by (causes.Trouble time) why None its m s is was = h.closing m s is was
        by (causes.Trouble time) why (Some conn) its m s is was = set conn its (causes.Trouble time) why m s is was
        by causes.Replaced why o its m s is was = h.closing m s (role_dropped o m (Closing s) b.state.conns is) was
        by (causes.Round time) why None its m s is was = h.closing m s is was
        by (causes.Round time) why (Some conn) its m s is was = set conn its (causes.Round time) why m s is was

    -- Each small change.
    pub closing_piece : (q : Piece) (b : Sofar) → MayMake t q b → Along l p d k t W b → ClosingGo t b.state → ClosingGo t (makes t.now q b).state
    closing_piece (Accepts conn) b may a h =
        closing_by b.state (makes t.now (Accepts conn) b).state (λ is. is) (λ m s is. role_less m (record { number = conn; role = New }) b.state.conns (Closing s) (λ same. absurd cc) is) h
    closing_piece (Forgets ending conn) b may a h = closing_cut ending conn (becomes (without_conn conn) b) (closing_gone conn b.state h)
    closing_piece (Breaks ending conn session app) b may a h =
        closing_cut ending conn (end_breaks (Some app) t.now (becomes (without_conn conn) b)) (closing_breaks app t.now (becomes (without_conn conn) b) (closing_gone conn b.state h))
    closing_piece (Dials app dial) b may a h = closing_by b.state (makes t.now (Dials app dial) b).state (λ is. is) (λ m s is. is) h
    closing_piece (Waits app conn) b may a h =
        closing_by c.state (makes t.now (Waits app conn) b).state (λ is. is) (λ m s is. set_other conn m s Waiting c.state.conns (λ q same. absurd cc) is) (closing_drops (waiting_conn b.state app) b h)
      where
        c : Sofar
        c = drops_conn (waiting_conn b.state app) b
    closing_piece (Opens app conn) b may a h =
        closing_by b.state (makes t.now (Opens app conn) b).state (λ is. sym (ap (λ (o : Option Round). is_some o) (opens_round app conn t.now b)) ∙ is)
        (λ m s is. set_other conn m s (Bound (length b.state.order + 1)) b.state.conns (λ q same. absurd cc) (sym (ap (role_at m) (opens_facts app conn t.now b).conns) ∙ is)) h
    closing_piece (OpensNext app conn) b may a h =
        closing_by b.state (makes t.now (OpensNext app conn) b).state (λ is. sym (ap (λ (o : Option Round). is_some o) (opens_round app conn t.now (becomes next_caller b))) ∙ is)
        (λ m s is. set_other conn m s (Bound (length b.state.order + 1)) b.state.conns (λ q same. absurd cc) (sym (ap (role_at m) (opens_facts app conn t.now (becomes next_caller b)).conns) ∙ is)) h
    closing_piece (Resumes app session conn) b may a h =
        closing_by c.state (makes t.now (Resumes app session conn) b).state (λ is. is) (λ m s is. set_other conn m s (Bound session) c.state.conns (λ q same. absurd cc) is) (closing_drops (conn_of b.state session) b h)
      where
        c : Sofar
        c = drops_conn (conn_of b.state session) b
    closing_piece (GoesOn session conn taken) b may a h = closing_core b.state (makes t.now (GoesOn session conn taken) b).state (quiet_goes_on session conn taken b).core h
    closing_piece (ComesAgain session conn kept) b may a h = closing_by b.state (makes t.now (ComesAgain session conn kept) b).state (λ is. is) (λ m s is. is) h
    closing_piece (AwaitsReset session conn at) b may a h = record {
      still = h.still;
      closing = λ m s is was. go m s (role_set conn m (Closing session) (Closing s) b.state.conns is) was;
    }
      where
        go : (m s : ℕ) → ((m ≡ conn) × (Closing s ≡ Closing session)) ⊎ ((m ≢ conn) × (role_at m b.state.conns ≡ Some (Closing s))) → role_at m t.old.conns ≡ Some (Bound s) → is_some t.old.round ≡ true
        go m s (inl here) was = absurd (let new : Some New ≡ Some (Bound s) = sym may.came.firstly.was_new ∙ ap (λ (n : ℕ). role_at n t.old.conns) (sym here.0) ∙ was in cc)
        go m s (inr there) was = h.closing m s there.1 was
    closing_piece (Closes session app cause) b may a h = closing_shuts session app cause b may a h
    closing_piece (Acknowledges conn session f) b may a h = closing_by b.state (makes t.now (Acknowledges conn session f) b).state (λ is. is) (λ m s is. is) h
    closing_piece (Takes conn session f) b may a h = closing_by b.state (makes t.now (Takes conn session f) b).state (λ is. is) (λ m s is. is) h
    closing_piece (TakesDone conn session f) b may a h = closing_by b.state (makes t.now (TakesDone conn session f) b).state (λ is. some_round b.state.round session is) (λ m s is. is) h
    closing_piece (Enters e) b may a h = closing_same b.state (enters e b).state (enters_facts e b).round (enters_facts e b).conns h
    closing_piece (Fetches session run block) b may a h =
        closing_same b.state (makes t.now (Fetches session run block) b).state (ap (λ (n : DataState). n.round) (only_puts session (down.Block (head_of b.state session) block) b).state)
        (ap (λ (n : DataState). n.conns) (only_puts session (down.Block (head_of b.state session) block) b).state) h
    closing_piece (PutsNormal app session) b may a h =
        closing_same b.state (makes t.now (PutsNormal app session) b).state (ap (λ (n : DataState). n.round) (only_puts session _ b).state) (ap (λ (n : DataState). n.conns) (only_puts session _ b).state) h
    closing_piece (PutsAck session) b may a h =
        closing_same b.state (makes t.now (PutsAck session) b).state (ap (λ (n : DataState). n.round) (only_puts session _ b).state) (ap (λ (n : DataState). n.conns) (only_puts session _ b).state) h
    closing_piece (Replies at says) b may a h = closing_by b.state (makes t.now (Replies at says) b).state (λ is. is) (λ m s is. is) h
    closing_piece (Leaves before r behind) b may a h =
        closing_same b.state (makes t.now (Leaves before r behind) b).state (ap (λ (n : DataState). n.round) (only_leaves r.says (becomes (with_replies (before ++ behind)) b)).state)
        (ap (λ (n : DataState). n.conns) (only_leaves r.says (becomes (with_replies (before ++ behind)) b)).state) h
    closing_piece (Bares session conn) b may a h = closing_by b.state (makes t.now (Bares session conn) b).state (λ is. is) (λ m s is. is) h
    closing_piece (Locks call) b may a h = closing_core b.state (makes t.now (Locks call) b).state (quiet_calls call b).core h
    closing_piece RoundEnds b may a h =
        closing_by b.state (makes t.now RoundEnds b).state
        (λ is. absurd (false≢true (sym (ap (λ (o : Option Round). is_some o) ((ends_aside (live_ends b.state.order) t.now).round (back_written b))) ∙ is)))
        (λ m s is. sym (ap (role_at m) ((ends_aside (live_ends b.state.order) t.now).conns (back_written b))) ∙ is) h
    closing_piece (Ticks app session) b may a h = closing_by b.state (makes t.now (Ticks app session) b).state (λ is. is) (λ m s is. is) h
