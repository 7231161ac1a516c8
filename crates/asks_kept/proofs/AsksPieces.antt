-- Requests for locks over each small change of a data server's step.
use Rattle.std.proofs.Common.{◌≡◌, ℕ, Bool, true, false, List, [], ◌∷◌, ◌++◌, filter, length, Some, None, refl, sym, ◌∙◌, ap, subst}
use Rattle.std.specs.Prelude.{⊤, ◌==◌, ◌&&◌, ◌||◌}
use Rattle.std.proofs.lemmas.Bool.{eq-eqb, eqb-true}
use Rattle.std.specs.List.{list_any}
use Rattle.plain_orders.specs.declared.act.Act.TheVariants as act
use Rattle.lock_table.specs.declared.rows.Request.{Request}
use Rattle.lock_table.specs.LockWords.{Locks, asked, freed, is_other_ticket, is_request_elsewhere, is_hold_elsewhere, lowered, passed, without_grant, without_request, without_session, without_ticket}
use Rattle.ecp_messages.specs.declared.down.Down.TheVariants as down
use Rattle.ecp_messages.specs.declared.up.Up.{Up}
use Rattle.ecp_messages.specs.declared.up.Up.TheVariants as up
use Rattle.end_words.specs.Windows.{resent}
use Rattle.data_rules.specs.DataState.{DataState}
use Rattle.data_rules.specs.declared.rows.Reply.{Reply}
use Rattle.data_rules.specs.declared.rows.Says.{Says}
use Rattle.data_rules.specs.declared.rows.Says.TheVariants.{AnswerOf, EpochWelcome, GrantOf, NewWelcome, ResetOf}
use Rattle.data_rules.specs.Callers.{old_welcome, waiting_conn}
use Rattle.data_rules.specs.Conns.{drops_conn, end_breaks, without_conn}
use Rattle.data_rules.specs.Granting.{frees}
use Rattle.data_rules.specs.Leaving.{epoch_welcome, leaves, new_welcome}
use Rattle.data_rules.specs.Opening.{live_ends}
use Rattle.data_rules.specs.Puts.{Sofar, becomes, conn_of, head_of, puts, tells, window_of, writes}
use Rattle.cluster_runs.specs.Sent.{Lane}
use Rattle.cluster_invariant.specs.Asks.{grants_of, is_grant_of}
use Rattle.cluster_invariant.proofs.Parts.{IsPart, part_all, part_left, part_same}
use Rattle.cluster_invariant.proofs.PieceKinds.{LockCall, Asks, Unlocks, Withdraws, GivesBack, ForgetsTicket, Claims, Cancels, Releases, Piece, Accepts, Forgets, Breaks, Dials, Waits, Opens, OpensNext, Resumes, GoesOn, ComesAgain, AwaitsReset, Closes, Acknowledges, Takes, TakesDone, Enters, Fetches, PutsNormal, PutsAck, Replies, Leaves, Bares, Locks as CallsLocks, RoundEnds, Ticks, calls, makes, next_caller, with_replies}
use Rattle.cluster_invariant.proofs.PieceMay.{Asked, CallsMay, Coming, RepliesMay}
use Rattle.cluster_invariant.proofs.Pieces.{MayMake}
use Rattle.cluster_invariant.proofs.PutLaws.{puts_state}
use Rattle.cluster_invariant.proofs.RequestParts.{part_tickets}
use Rattle.asks_kept.proofs.AsksGo.{AsksIn, CallGo, RequestGo, asks_called, asks_fewer, asks_granted, call_asked, call_passed}
use Rattle.asks_kept.proofs.FewerGrants.{FewerGrants, RepliesFewer, fewer_acked, fewer_again, fewer_appends, fewer_backs, fewer_breaks, fewer_cut, fewer_drop, fewer_fresh, fewer_gone_conn, fewer_opens, fewer_puts, fewer_reply, fewer_same, fewer_shuts, fewer_taken, fewer_tells, fewer_then, replied_in}
use Rattle.asks_kept.proofs.Tickets.{IsApart, passed_apart}

-- it calls no table of locks, and no reply leaves by it
abbrev pub IsPlain : Piece → Type 0
IsPlain (CallsLocks call) = ⊥
IsPlain (Leaves before r behind) = ⊥
IsPlain p = ⊤

-- a reply that is made by itself is no Grant
made_none : (t : Coming) (at : ℕ) (says : Says) (b : Sofar) → RepliesMay t at says b → (s k : ℕ) → is_grant_of s k (record { at = at; says = says }) ≡ false
made_none t at (NewWelcome conn session) b may s k = refl
made_none t at (EpochWelcome conn session kept) b may s k = refl
made_none t at (ResetOf conn session place) b may s k = refl
made_none t at (GrantOf session ticket number) b may s k = absurd may
made_none t at (AnswerOf session about job number place sum) b may s k = refl

-- such a change leaves the table, and no more Grants wait after it
pub fewer_piece : (t : Coming) (p : Piece) (b : Sofar) → IsPlain p → MayMake t p b → FewerGrants b.state (makes t.now p b).state
fewer_piece t (Accepts conn) b plain may = fewer_same b.state _ refl refl refl
fewer_piece t (Forgets ending conn) b plain may =
    fewer_then b.state (without_conn conn b.state) _ (fewer_gone_conn conn b.state) (fewer_cut ending conn (becomes (without_conn conn) b))
fewer_piece t (Breaks ending conn session app) b plain may =
    fewer_then b.state (end_breaks (Some app) t.now (becomes (without_conn conn) b)).state _
    (fewer_then b.state (without_conn conn b.state) _ (fewer_gone_conn conn b.state) (fewer_breaks app t.now (becomes (without_conn conn) b)))
    (fewer_cut ending conn (end_breaks (Some app) t.now (becomes (without_conn conn) b)))
fewer_piece t (Dials app dial) b plain may = fewer_same b.state _ refl refl refl
fewer_piece t (Waits app conn) b plain may =
    fewer_then b.state (drops_conn (waiting_conn b.state app) b).state _ (fewer_drop (waiting_conn b.state app) b) (fewer_same (drops_conn (waiting_conn b.state app) b).state _ refl refl refl)
fewer_piece t (Opens app conn) b plain may = fewer_opens app conn t.now b
fewer_piece t (OpensNext app conn) b plain may =
    fewer_then b.state (next_caller b.state) _ (fewer_same b.state (next_caller b.state) refl refl refl) (fewer_opens app conn t.now (becomes next_caller b))
fewer_piece t (Resumes app session conn) b plain may =
    fewer_then b.state (drops_conn (conn_of b.state session) b).state _ (fewer_drop (conn_of b.state session) b) (fewer_same (drops_conn (conn_of b.state session) b).state _ refl refl refl)
fewer_piece t (GoesOn session conn taken) b plain may =
    fewer_then b.state (tells session conn 0 (old_welcome b.state session) b).state _ (fewer_tells session conn 0 (old_welcome b.state session) b)
    (fewer_again session conn (resent (window_of b.state session) taken) (tells session conn 0 (old_welcome b.state session) b))
fewer_piece t (ComesAgain session conn kept) b plain may =
    fewer_then b.state _ _ (fewer_fresh b.state session) (fewer_reply _ _ (λ s k. refl))
fewer_piece t (AwaitsReset session conn at) b plain may =
    fewer_then b.state _ _ (fewer_same b.state _ refl refl refl) (fewer_reply _ _ (λ s k. refl))
fewer_piece t (Closes session app cause) b plain may = fewer_shuts session app cause t.now b
fewer_piece t (Acknowledges conn session f) b plain may = fewer_acked b.state session f.ack
fewer_piece t (Takes conn session f) b plain may = fewer_taken b.state session f.ack
fewer_piece t (TakesDone conn session f) b plain may = fewer_then b.state _ _ (fewer_taken b.state session f.ack) (fewer_same _ _ refl refl refl)
fewer_piece t (Enters e) b plain may = fewer_appends e (writes (act.Enter b.state.server e) b)
fewer_piece t (Fetches session run block) b plain may =
    fewer_then b.state (puts session (down.Block (head_of b.state session) block) b).state _ (fewer_puts session (down.Block (head_of b.state session) block) b (λ k. refl))
    (fewer_same (puts session (down.Block (head_of b.state session) block) b).state _ refl refl refl)
fewer_piece t (PutsNormal app session) b plain may = fewer_puts session (down.Normal (head_of b.state session)) b (λ k. refl)
fewer_piece t (PutsAck session) b plain may = fewer_puts session (down.Ack (head_of b.state session)) b (λ k. refl)
fewer_piece t (Replies at says) b plain may = fewer_reply b.state (record { at = at; says = says }) (made_none t at says b may)
fewer_piece t (Leaves before r behind) b plain may = absurd plain
fewer_piece t (Bares session conn) b plain may = fewer_tells session conn 0 down.Bare b
fewer_piece t (CallsLocks call) b plain may = absurd plain
fewer_piece t RoundEnds b plain may =
    fewer_then b.state _ _ (fewer_same b.state _ refl refl refl) (fewer_backs (live_ends b.state.order) t.now (writes (act.Back b.state.server) (becomes (λ d. record d { round = None }) b)))
fewer_piece t (Ticks app session) b plain may = fewer_same b.state _ refl refl refl

-- a reply that leaves

leave_fewer : (q : Reply) (before behind : List Reply) → RepliesFewer (before ++ q ∷ behind) (before ++ behind)
leave_fewer q [] behind s k is = more (is_grant_of s k q) (list_any (is_grant_of s k) behind) is
  where
    more : (a b : Bool) → b ≡ true → (a || b) ≡ true
    more true b at = refl
    more false b at = at
leave_fewer q (x ∷ before) behind s k is = go (is_grant_of s k x) is (leave_fewer q before behind s k)
  where
    go : (a : Bool) → (a || replied_in (before ++ behind) s k) ≡ true → (replied_in (before ++ behind) s k ≡ true → replied_in (before ++ q ∷ behind) s k ≡ true)
        → (a || replied_in (before ++ q ∷ behind) s k) ≡ true
    go true at less = refl
    go false at less = less at

-- it waited
waited : (q : Reply) (before behind : List Reply) (s k : ℕ) → is_grant_of s k q ≡ true → replied_in (before ++ q ∷ behind) s k ≡ true
waited q [] behind s k is = ap (λ (a : Bool). a || replied_in behind s k) is
waited q (x ∷ before) behind s k is = more (is_grant_of s k x) (replied_in (before ++ q ∷ behind) s k) (waited q before behind s k is)
  where
    more : (a b : Bool) → b ≡ true → (a || b) ≡ true
    more true b at = refl
    more false b at = at

-- the requests that a table has where the call of a job comes are known
pub record NewAsk (lane_of : ℕ → Lane) (ups : ℕ → List Up) (d : DataState) (r : Request) : Type 0 where
  pub its : RequestGo lane_of ups d.windows d.replies r
  pub apart : IsApart d.locks.requests r

module _ (lane_of : ℕ → Lane) (ups : ℕ → List Up) (t : Coming) where
  abbrev pub At : Sofar → Type 0
  At b = AsksIn lane_of ups b.state

  -- a reply leaves
  leave_piece : (before behind : List Reply) (r : Reply) (b : Sofar) → b.state.replies ≡ before ++ r ∷ behind → At b → At (makes t.now (Leaves before r behind) b)
  leave_piece before behind r b its h = go r.says refl
    where
      c : Sofar
      c = becomes (with_replies (before ++ behind)) b

      less : RepliesFewer b.state.replies (before ++ behind)
      less = subst (λ (qs : List Reply). RepliesFewer qs (before ++ behind)) (sym its) (leave_fewer r before behind)

      fewer : FewerGrants b.state c.state
      fewer = record { locks = refl; windows = λ s k is. is; replies = less }

      plain : (e : Sofar) → FewerGrants c.state e.state → At e
      plain e more = asks_fewer lane_of ups b.state e.state (fewer_then b.state c.state e.state fewer more) h

      granted : (session ticket number : ℕ) → r.says ≡ GrantOf session ticket number → At (puts session (down.Grant (head_of c.state session) ticket number) c)
      granted session ticket number says =
          subst (λ (d : DataState). AsksIn lane_of ups d) (sym (puts_state session (down.Grant (head_of c.state session) ticket number) c))
          (asks_granted lane_of ups b (before ++ behind) session ticket (down.Grant (head_of c.state session) ticket number) there less
          (λ k is. sym (eqb-true ticket k is)) h)
        where
          there : replied_in b.state.replies session ticket ≡ true
          there =
              ap (λ (qs : List Reply). replied_in qs session ticket) its
              ∙ waited r before behind session ticket (ap (grants_of session ticket) says
              ∙ ap (λ (a : Bool). a && ticket == ticket) (eq-eqb session session refl) ∙ eq-eqb ticket ticket refl)

      go : (says : Says) → r.says ≡ says → At (leaves says c)
      go (NewWelcome conn session) is = plain (leaves (NewWelcome conn session) c) (fewer_tells session conn 0 (new_welcome c.state session) c)
      go (EpochWelcome conn session kept) is = plain (leaves (EpochWelcome conn session kept) c) (fewer_tells session conn 0 (epoch_welcome c.state session kept) c)
      go (ResetOf conn session place) is = plain (leaves (ResetOf conn session place) c) (fewer_same c.state _ refl refl refl)
      go (GrantOf session ticket number) is = granted session ticket number is
      go (AnswerOf session about job number place sum) is =
          plain (leaves (AnswerOf session about job number place sum) c)
          (fewer_puts session (down.Answer (head_of c.state session) about job number place sum) c (λ k. refl))

  -- a call of the table

  abbrev Its : Sofar → Request → Type 0
  Its b = RequestGo lane_of ups b.state.windows b.state.replies

  -- one that goes through all that wait of a part of the requests
  passed_piece : (l : Locks) (b : Sofar) → IsPart l.requests b.state.locks.requests → At b → CallGo lane_of ups (Its b) (passed l (length b.state.order))
  passed_piece l b part h =
      call_passed lane_of ups (Its b) (passed l (length b.state.order)) l.requests b.state.locks.requests part h.one_each h.requests
      (passed_apart (Its b) l (length b.state.order) (part_tickets l.requests b.state.locks.requests part h.one_each)
      (part_all (Its b) l.requests b.state.locks.requests part h.requests))

  call_piece : (call : LockCall) (b : Sofar) → CallsMay t call b → ((r : Request) → Asked t r.who.session (up.Ask r.ticket r.who.job r.mode r.name) b → NewAsk lane_of ups b.state r)
      → At b → At (calls call b)
  call_piece (Asks r) b may new h =
      asks_called lane_of ups (asked b.state.locks r (length b.state.order)) b
      (call_asked lane_of ups (Its b) b.state.locks r (length b.state.order) h.one_each h.requests (new r may).its (new r may).apart) h
  call_piece (Unlocks who mode key) b may new h =
      asks_called lane_of ups (freed b.state.locks who key mode (length b.state.order)) (frees who mode key b)
      (passed_piece (record b.state.locks { holds = lowered who key mode b.state.locks.holds }) b (part_same b.state.locks.requests) h) h
  call_piece (Withdraws r session ticket) b may new h =
      asks_called lane_of ups (without_request b.state.locks session ticket (length b.state.order)) (frees r.who r.mode r.name b)
      (passed_piece (record b.state.locks { requests = filter (is_other_ticket session ticket) b.state.locks.requests }) b
      (part_left (is_other_ticket session ticket) b.state.locks.requests) h) h
  call_piece (GivesBack r) b may new h =
      asks_called lane_of ups (without_grant b.state.locks r (length b.state.order)) (frees r.who r.mode r.name b)
      (passed_piece (record (without_ticket b.state.locks r.who.session r.ticket) { holds = lowered r.who r.name r.mode b.state.locks.holds }) b
      (part_same b.state.locks.requests) h) h
  call_piece (ForgetsTicket r) b may new h = h
  call_piece (Claims who key mode number at) b may new h = h
  call_piece (Cancels r) b may new h =
      asks_called lane_of ups (without_request b.state.locks r.who.session r.ticket (length b.state.order)) b
      (passed_piece (record b.state.locks { requests = filter (is_other_ticket r.who.session r.ticket) b.state.locks.requests }) b
      (part_left (is_other_ticket r.who.session r.ticket) b.state.locks.requests) h) h
  call_piece (Releases session) b may new h =
      asks_called lane_of ups (without_session b.state.locks session (length b.state.order)) (writes (act.Release b.state.server session) b)
      (passed_piece (record {
        holds = filter (is_hold_elsewhere session) b.state.locks.holds;
        requests = filter (is_request_elsewhere session) b.state.locks.requests;
        granted = filter (is_request_elsewhere session) b.state.locks.granted;
      }) b (part_left (is_request_elsewhere session) b.state.locks.requests) h) h

  -- Each of them.
  pub asks_piece : (p : Piece) (b : Sofar) → MayMake t p b
      → ((r : Request) → Asked t r.who.session (up.Ask r.ticket r.who.job r.mode r.name) b → NewAsk lane_of ups b.state r) → At b → At (makes t.now p b)
  asks_piece p b may new h = go p may
    where
      plain : (q : Piece) → IsPlain q → MayMake t q b → At (makes t.now q b)
      plain q is m = asks_fewer lane_of ups b.state (makes t.now q b).state (fewer_piece t q b is m) h

      go : (q : Piece) → MayMake t q b → At (makes t.now q b)
      go (Accepts conn) m = plain (Accepts conn) tt m
      go (Forgets ending conn) m = plain (Forgets ending conn) tt m
      go (Breaks ending conn session app) m = plain (Breaks ending conn session app) tt m
      go (Dials app dial) m = plain (Dials app dial) tt m
      go (Waits app conn) m = plain (Waits app conn) tt m
      go (Opens app conn) m = plain (Opens app conn) tt m
      go (OpensNext app conn) m = plain (OpensNext app conn) tt m
      go (Resumes app session conn) m = plain (Resumes app session conn) tt m
      go (GoesOn session conn taken) m = plain (GoesOn session conn taken) tt m
      go (ComesAgain session conn kept) m = plain (ComesAgain session conn kept) tt m
      go (AwaitsReset session conn at) m = plain (AwaitsReset session conn at) tt m
      go (Closes session app cause) m = plain (Closes session app cause) tt m
      go (Acknowledges conn session f) m = plain (Acknowledges conn session f) tt m
      go (Takes conn session f) m = plain (Takes conn session f) tt m
      go (TakesDone conn session f) m = plain (TakesDone conn session f) tt m
      go (Enters e) m = plain (Enters e) tt m
      go (Fetches session run block) m = plain (Fetches session run block) tt m
      go (PutsNormal app session) m = plain (PutsNormal app session) tt m
      go (PutsAck session) m = plain (PutsAck session) tt m
      go (Replies at says) m = plain (Replies at says) tt m
      go (Leaves before r behind) m = leave_piece before behind r b m.its h
      go (Bares session conn) m = plain (Bares session conn) tt m
      go (CallsLocks call) m = call_piece call b m new h
      go RoundEnds m = plain RoundEnds tt m
      go (Ticks app session) m = plain (Ticks app session) tt m
