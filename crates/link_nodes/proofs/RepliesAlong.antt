-- The replies that wait, and the frames that were put, over each small change of a step that closes nothing by a tick.
use Rattle.std.proofs.Common.{◌≡◌, ◌≢◌, ◌≤◌, ◌<◌, ◌⊎◌, inl, inr, ℕ, suc, ◌+◌, Bool, true, false, List, [], ◌∷◌, ◌++◌, map, length, slice_get, Option, Some, None, is_some, refl, sym, ◌∙◌, ap, subst, arith, cond}
use Rattle.std.specs.List.{AllByRecursion, find}
use Rattle.std.proofs.lemmas.Bool.{eqb-true, false≢true}
use Rattle.plain_orders.specs.declared.act.Act.TheVariants as act
use Rattle.plain_orders.specs.declared.causes.ShutCause.TheVariants as causes
use Rattle.plain_orders.specs.declared.entry.Entry.{Entry}
use Rattle.plain_orders.specs.declared.entry.Entry.TheVariants.{Epoch, Opened, Closed, Update, Commit, Rollback}
use Rattle.plain_orders.specs.declared.layout.Layout.{Layout}
use Rattle.plain_orders.specs.Entries.{closes, entry_at, last_epoch}
use Rattle.plain_orders.specs.Sessions.{app_in, place_of_epoch}
use Rattle.plain_orders.proofs.Places.{entry_more}
use Rattle.plain_runs.specs.Plain.{Plain, Server}
use Rattle.ecp_messages.specs.declared.down.Down.{Down}
use Rattle.ecp_messages.specs.declared.down.Down.TheVariants as down
use Rattle.link_states.specs.declared.link_event.LinkEvent.TheVariants as event
use Rattle.lock_table.specs.declared.rows.Request.{Request}
use Rattle.lock_table.specs.LockWords.{Freed, asked, freed, without_grant, without_request, without_session}
use Rattle.block_holders.specs.declared.noted.Noted.{Noted}
use Rattle.block_holders.specs.HolderWords.{touched}
use Rattle.end_words.specs.Windows.{resent, sent, with_sent}
use Rattle.data_rules.specs.DataState.{DataState}
use Rattle.data_rules.specs.declared.data_in.DataIn.TheVariants as data_in
use Rattle.data_rules.specs.declared.down_frames.DownOut.{DownOut}
use Rattle.data_rules.specs.declared.rows.Caller.{Caller}
use Rattle.data_rules.specs.declared.rows.Conn.{Conn}
use Rattle.data_rules.specs.declared.rows.LiveEnd.{LiveEnd}
use Rattle.data_rules.specs.declared.rows.Reply.{Reply}
use Rattle.data_rules.specs.declared.rows.Role.{Role}
use Rattle.data_rules.specs.declared.rows.Role.TheVariants.{New, Waiting, Bound, Closing}
use Rattle.data_rules.specs.declared.rows.Says.{Says}
use Rattle.data_rules.specs.declared.rows.Says.TheVariants.{NewWelcome, EpochWelcome, ResetOf, GrantOf, AnswerOf}
use Rattle.data_rules.specs.Callers.{goes_on, old_welcome, sends_again, waiting_conn}
use Rattle.data_rules.specs.Closing.{silenced, unawaited}
use Rattle.data_rules.specs.Conns.{breaks_if, drops_conn, end_breaks, is_conn, is_normal, link_of, with_event, with_role_if, without_conn}
use Rattle.data_rules.specs.Entering.{appends, drops, drops_one, enters, spans_of, with_entry}
use Rattle.data_rules.specs.Granting.{frees, grants, grants_one, locks_become, with_locks}
use Rattle.data_rules.specs.Leaving.{leaves}
use Rattle.data_rules.specs.Opening.{breaks_unless, live_ends, opens}
use Rattle.data_rules.specs.Places.{close_place, epoch_place, place_from}
use Rattle.data_rules.specs.Puts.{Sofar, becomes, conn_of, frame_on, head_of, is_reply_elsewhere, puts, says_to, tells, tells_on, window_of, with_window, writes}
use Rattle.cluster_runs.specs.Machine.{Site}
use Rattle.cluster_runs.specs.Sent.{Lane}
use Rattle.cluster_invariant.specs.Waiting.{conns_in, conns_of}
use Rattle.cluster_invariant.proofs.AllLists.{all_follow}
use Rattle.cluster_invariant.proofs.ConnRoles.{bound_role, dropped_conns, new_stays}
use Rattle.cluster_invariant.proofs.PieceKinds.{Ending, There, Here, LockCall, Asks, Unlocks, Withdraws, GivesBack, ForgetsTicket, Claims, Cancels, Releases, Piece, Accepts, Forgets, Breaks, Dials, Waits, Opens, OpensNext, Resumes, GoesOn, ComesAgain, AwaitsReset, Closes, Acknowledges, Takes, TakesDone, Enters, Fetches, PutsNormal, PutsAck, Replies, Leaves, Bares, Locks, RoundEnds, Ticks, calls, cuts_if, ends_back, event_of, makes, next_caller, shuts, with_close, with_replies}
use Rattle.cluster_invariant.proofs.PieceMay.{AwaitsResetMay, Coming, item_of, ComesAgainMay, RepliesMay, left_by}
use Rattle.cluster_invariant.proofs.Pieces.{MayMake}
use Rattle.cluster_invariant.proofs.PiecesOfCloses.{role_given}
use Rattle.cluster_invariant.proofs.PiecesOfRounds.{back_written}
use Rattle.cluster_invariant.proofs.PutLaws.{only_puts}
use Rattle.cluster_invariant.proofs.Deeds.{IsEntered}
use Rattle.cluster_invariant.proofs.Written.{closed_place, entered_place}
use Rattle.data_pieces.proofs.CallersGo.{CallersOf, role_less, role_more}
use Rattle.data_pieces.proofs.ConnLists.{Differ, role_at}
use Rattle.data_pieces.proofs.EndsPieces.{some_role}
use Rattle.data_pieces.proofs.EntryPieces.{item_is}
use Rattle.link_kept.proofs.WindowsGo.{IsStill}
use Rattle.ecp_messages.specs.declared.up.Up.{Up}
use Rattle.plain_orders.specs.Entries.{epoch_after}
use Rattle.data_pieces.proofs.PieceFacts.{enters_facts}
use Rattle.data_puts.proofs.Spoken.{FramesOn, RepliesOn, SpokenOn, is_for_session, is_spoken}
use Rattle.data_puts.proofs.SpokenAlong.{Along, waiting_new}
use Rattle.data_puts.proofs.SpokenPieces.{SpeaksAt, speaks_enters}
use Rattle.link_kept.proofs.WindowPieces.{PutsWell, item_still}
use Rattle.link_nodes.proofs.RepliesGo.{FrameGo, FreshEpoch, Origin, RepliesGo, ReplyGo, is_first, replies_beside, replies_closing, replies_fewer, replies_gone, replies_more, replies_order, replies_put, replies_roles, replies_told}
use Rattle.link_nodes.proofs.WaitLists.{none_waits, one_leaves, waits_fewer, waits_for, waits_joined, waits_parts}

-- the place of a Close

pub closes_it : (s : ℕ) (e : Entry) → closes s e ≡ true → e ≡ Closed s
closes_it s (Epoch number) is = absurd (false≢true is)
closes_it s (Opened session app) is = absurd (false≢true is)
closes_it s (Closed session) is = ap Closed (eqb-true session s is)
closes_it s (Update session w job txn op) is = absurd (false≢true is)
closes_it s (Commit session w job txn) is = absurd (false≢true is)
closes_it s (Rollback session w job txn) is = absurd (false≢true is)

some_number : (i j : ℕ) → Some i ≡ Some j → i ≡ j
some_number i j both = cc

place_found : (s k n : ℕ) (es : List Entry) → place_from (closes s) k es ≡ Some n → (i : ℕ) × ((n ≡ k + suc i) × (slice_get es i ≡ Some (Closed s)))
place_found s k n [] is = absurd cc
place_found s k n (e ∷ es) is = go (closes s e) refl is (place_found s (k + 1) n es)
  where
    go : (b : Bool) → closes s e ≡ b → cond b (Some (k + 1)) (place_from (closes s) (k + 1) es) ≡ Some n
        → (place_from (closes s) (k + 1) es ≡ Some n → (i : ℕ) × ((n ≡ k + 1 + suc i) × (slice_get es i ≡ Some (Closed s))))
        → (i : ℕ) × ((n ≡ k + suc i) × (slice_get (e ∷ es) i ≡ Some (Closed s)))
    go true here at more = (0, (sym (some_number (k + 1) n at) ∙ omega arith, ap (λ (x : Entry). Some x) (closes_it s e here)))
    go false other at more = let found = more at in (suc found.0, (found.1.0 ∙ omega arith, found.1.1))

pub close_stands : (es : List Entry) (s n : ℕ) → close_place es s ≡ Some n → entry_at es n ≡ Some (Closed s)
close_stands es s n is =
    let found : (i : ℕ) × ((n ≡ 0 + suc i) × (slice_get es i ≡ Some (Closed s))) = place_found s 0 n es is in
    let same : n ≡ suc found.0 = omega (arith, found.1.0) in
    subst (λ (k : ℕ). entry_at es k ≡ Some (Closed s)) (sym same) found.1.1

-- an item leaves the place of the last Epoch

is_entered : (e : Entry) → ((n : ℕ) → epoch_after n e ≡ n) → IsStill e → IsEntered e
is_entered (Epoch number) same still = absurd (omega (arith, same (number + 1)))
is_entered (Opened session app) same still = absurd still
is_entered (Closed session) same still = absurd still
is_entered (Update session w job txn op) same still = tt
is_entered (Commit session w job txn) same still = tt
is_entered (Rollback session w job txn) same still = tt

pub item_place : (s : ℕ) (m : Up) (e : Entry) → item_of s m ≡ Some e → (es : List Entry) → epoch_place (es ++ e ∷ []) ≡ epoch_place es
item_place s m e item es = entered_place e (is_entered e (item_is s m e item).epoch (item_still s m e item)) 0 0 es

module _ (v : Server) (x : Site) (lane_of : ℕ → Lane) (t : Coming) where
  abbrev pub RepliesAt : Sofar → Type 0
  RepliesAt b = RepliesGo lane_of (Origin v x t) b.state.conns b.state.order b.state.replies b.outs.frames

  -- a message that is put to a session
  pub puts_replies : (s : ℕ) (m : Down) (b : Sofar) → is_first m ≡ false → Differ b.state.conns → RepliesAt b → RepliesAt (puts s m b)
  puts_replies s m b plain differ h = go (conn_of b.state s) (sent (window_of b.state s) + 1) (λ conn its. bound_role s b.state.conns conn differ its)
    where
      go : (o : Option ℕ) (n : ℕ) → ((conn : ℕ) → o ≡ Some conn → role_at conn b.state.conns ≡ Some (Bound s))
          → RepliesAt (tells_on s o n m (becomes (λ d. with_window s (with_sent (window_of d s) m) d) b))
      go None n bound = h
      go (Some conn) n bound =
          replies_put lane_of (Origin v x t) (frame_on conn n _ m) b.state.conns b.state.order b.state.replies b.outs.frames
          (inr (plain, λ q is. (let both : Some (Bound s) ≡ Some (Closing q) = sym (bound conn refl) ∙ is in cc))) h

  drops_replies : (before : ℕ) (xs : List Noted) (b : Sofar) → Differ b.state.conns → RepliesAt b → RepliesAt (drops before xs b)
  drops_replies before [] b differ h = h
  drops_replies before (n ∷ xs) b differ h =
      drops_replies before xs (drops_one before n xs b) (subst Differ (sym (ap (λ (d : DataState). d.conns) (only_puts n.session _ b).state)) differ) (puts_replies n.session _ b refl differ h)

  -- an entry that isn't an Epoch
  pub appends_replies : (e : Entry) (b : Sofar) → epoch_place (b.state.order ++ e ∷ []) ≡ epoch_place b.state.order → Differ b.state.conns → RepliesAt b → RepliesAt (appends e b)
  appends_replies e b place differ h =
      drops_replies (length b.state.order) (touched (spans_of b.state e) b.state.noted) (becomes (with_entry e (spans_of b.state e)) b) differ
      (replies_order lane_of (Origin v x t) b.state.conns b.state.order (b.state.order ++ e ∷ []) b.state.replies b.outs.frames place (λ n y is. entry_more b.state.order e y n is) h)

  -- connections that go

  replies_cut : (ending : Ending) (conn : ℕ) (b : Sofar) → RepliesAt b → RepliesAt (cuts_if ending conn b)
  replies_cut There conn b h = h
  replies_cut Here conn b h = h

  gone_replies : (conn : ℕ) (b : Sofar) → RepliesAt b → RepliesAt (becomes (without_conn conn) b)
  gone_replies conn b h = replies_gone lane_of (Origin v x t) conn b.state.conns b.state.order b.state.replies b.outs.frames h

  replies_drops : (o : Option ℕ) (b : Sofar) → RepliesAt b → RepliesAt (drops_conn o b)
  replies_drops None b h = h
  replies_drops (Some w) b h = gone_replies w b h

  replies_breaks : (app now : ℕ) (b : Sofar) → RepliesAt b → RepliesAt (end_breaks (Some app) now b)
  replies_breaks app now b h = go (is_normal (link_of b.state app))
    where
      go : (normal : Bool) → RepliesAt (becomes (with_event app now event.Ended) (breaks_if normal app now b))
      go true = h
      go false = h

  -- a new connection, or one that waits, isn't a session's

  not_session : (conn : ℕ) (cs : List Conn) → (role_at conn cs ≡ Some New) ⊎ (role_at conn cs ≡ Some Waiting) → is_for_session (role_at conn cs) ≡ false
  not_session conn cs (inl new) = ap is_for_session new
  not_session conn cs (inr waits) = ap is_for_session waits

  silent_on : (conn : ℕ) (cs : List Conn) (fs : List DownOut) → (role_at conn cs ≡ Some New) ⊎ (role_at conn cs ≡ Some Waiting) → FramesOn cs fs → AllByRecursion (λ (f : DownOut). f.conn ≢ conn) fs
  silent_on conn cs fs other on =
      all_follow (SpokenOn cs) (λ (f : DownOut). f.conn ≢ conn) (λ f spoken same. false≢true (sym (ap (λ (k : ℕ). is_spoken (role_at k cs)) same ∙ unspoken other) ∙ spoken)) fs on
    where
      unspoken : (role_at conn cs ≡ Some New) ⊎ (role_at conn cs ≡ Some Waiting) → is_spoken (role_at conn cs) ≡ false
      unspoken (inl new) = ap is_spoken new
      unspoken (inr waits) = ap is_spoken waits

  -- a session opens
  opens_replies : (app conn now : ℕ) (b : Sofar) → Differ b.state.conns → (role_at conn b.state.conns ≡ Some New) ⊎ (role_at conn b.state.conns ≡ Some Waiting)
      → is_some (find (is_conn conn) b.state.conns) ≡ true → length t.old.order ≤ length b.state.order → (lane_of (length b.state.order + 1)).began ≡ None → SpeaksAt b → RepliesAt b
      → RepliesAt (opens app conn now b)
  opens_replies app conn now b differ role there longer unlearnt speaks h =
      go (enters (Opened s app) b) (enters_facts (Opened s app) b).conns (speaks_enters (Opened s app) b differ speaks)
      (appends_replies (Opened s app) (writes (act.Enter b.state.server (Opened s app)) b) (entered_place (Opened s app) tt 0 0 b.state.order) differ h)
    where
      s : ℕ
      s = length b.state.order + 1

      go : (c : Sofar) → c.state.conns ≡ b.state.conns → SpeaksAt c → RepliesAt c
          → RepliesGo lane_of (Origin v x t) (map (with_role_if conn (Bound s)) c.state.conns) c.state.order (c.state.replies ++ record { at = s; says = NewWelcome conn s } ∷ []) c.outs.frames
      go c same spoken g =
          replies_more lane_of (Origin v x t) conn (record { at = s; says = NewWelcome conn s }) (map (with_role_if conn (Bound s)) c.state.conns) c.state.order c.state.replies c.outs.frames refl
          (none_waits conn c.state.conns c.state.replies (not_session conn c.state.conns role_now) spoken.replies) (silent_on conn c.state.conns c.outs.frames role_now spoken.frames)
          (inr (omega (arith, longer)), record { until = refl; bound = role_given conn (Bound s) c.state.conns (ap (λ (cs : List Conn). is_some (find (is_conn conn) cs)) same ∙ there); unlearnt = unlearnt })
          (replies_told lane_of (Origin v x t) conn (Bound s) c.state.conns c.state.order c.state.replies c.outs.frames (not_session conn c.state.conns role_now) (λ q is. absurd cc) g)
        where
          role_now : (role_at conn c.state.conns ≡ Some New) ⊎ (role_at conn c.state.conns ≡ Some Waiting)
          role_now = subst (λ (cs : List Conn). (role_at conn cs ≡ Some New) ⊎ (role_at conn cs ≡ Some Waiting)) (sym same) role

  -- a session is closed in the place of a new one
  shuts_replies : (s app : ℕ) (now : ℕ) (b : Sofar) → Differ b.state.conns → RepliesAt b → RepliesAt (shuts s app causes.Replaced now b)
  shuts_replies s app now b differ h =
      by (drops_conn (conn_of b.state s) (with_close s causes.Replaced b))
      (replies_drops (conn_of b.state s) (with_close s causes.Replaced b)
      (by_close (appends (Closed s) (becomes (silenced s) (writes (act.Shut b.state.server s causes.Replaced) b)))
      (appends_replies (Closed s) (becomes (silenced s) (writes (act.Shut b.state.server s causes.Replaced) b)) (closed_place s 0 0 b.state.order) differ
      (replies_fewer lane_of (Origin v x t) (is_reply_elsewhere (says_to s)) b.state.conns b.state.order b.state.replies b.outs.frames h))))
    where
      by : (c : Sofar) → RepliesAt c → RepliesAt (becomes (with_event app now (event_of causes.Replaced)) c)
      by c g = g

      by_close : (c : Sofar) → RepliesAt c → RepliesAt (becomes (unawaited s) c)
      by_close c g = g

  -- a Recover

  -- the replies that were there are on connections of sessions
  old_waits : (session conn : ℕ) (rs : List Reply) → RepliesOn t.old.conns t.old.replies → role_at conn t.old.conns ≡ Some New → rs ≡ left_by (conn_of t.old session) t.old.replies
      → waits_for conn rs ≡ false
  old_waits session conn rs on new same = ap (waits_for conn) same ∙ go (conn_of t.old session)
    where
      none : waits_for conn t.old.replies ≡ false
      none = none_waits conn t.old.conns t.old.replies (ap is_for_session new) on

      go : (o : Option ℕ) → waits_for conn (left_by o t.old.replies) ≡ false
      go None = none
      go (Some w) = waits_fewer conn _ t.old.replies none

  again_replies : (s conn : ℕ) (ms : List (ℕ × Down)) (b : Sofar) → waits_for conn b.state.replies ≡ false → RepliesAt b → RepliesAt (sends_again s conn ms b)
  again_replies s conn [] b none h = h
  again_replies s conn (m ∷ ms) b none h =
      again_replies s conn ms (tells s conn m.0 m.1 b) none
      (replies_put lane_of (Origin v x t) (frame_on conn m.0 _ m.1) b.state.conns b.state.order b.state.replies b.outs.frames (inl none) h)

  goes_on_replies : (s conn taken : ℕ) (b : Sofar) → waits_for conn b.state.replies ≡ false → RepliesAt b → RepliesAt (goes_on s conn taken b)
  goes_on_replies s conn taken b none h =
      again_replies s conn (resent (window_of b.state s) taken) (tells s conn 0 (old_welcome b.state s) b) none
      (replies_put lane_of (Origin v x t) (frame_on conn 0 _ (old_welcome b.state s)) b.state.conns b.state.order b.state.replies b.outs.frames (inl none) h)

  none_put : (conn : ℕ) (fs : List DownOut) → fs ≡ [] → AllByRecursion (λ (f : DownOut). f.conn ≢ conn) fs
  none_put conn fs none = subst (λ (gs : List DownOut). AllByRecursion (λ (f : DownOut). f.conn ≢ conn) gs) (sym none) tt

  comes_again_replies : (session conn kept : ℕ) (b : Sofar) → ComesAgainMay t session conn kept b → RepliesOn t.old.conns t.old.replies → (lane_of session).began ≡ None → RepliesAt b
      → RepliesAt (makes t.now (ComesAgain session conn kept) b)
  comes_again_replies session conn kept b may on unlearnt h =
      replies_more lane_of (Origin v x t) conn (record { at = epoch_place b.state.order; says = EpochWelcome conn session kept }) b.state.conns b.state.order b.state.replies b.outs.frames refl
      (old_waits session conn b.state.replies on may.came.firstly.was_new may.waiting) (none_put conn b.outs.frames may.unput)
      (inr fresh, record { until = refl; bound = may.bound; unlearnt = unlearnt }) h
    where
      fresh : FreshEpoch t conn session kept
      fresh = record {
        app = may.app;
        epoch = may.came.epoch;
        taken = may.came.taken;
        dial = may.came.dial;
        came = may.came.came;
        opened = sym (ap (λ (es : List Entry). app_in es session) may.came.firstly.same) ∙ may.came.its;
        later = may.came.firstly.later;
        older = subst (λ (es : List Entry). may.came.epoch < last_epoch es) may.came.firstly.same may.older;
        known = sym (ap (place_of_epoch may.came.epoch 0) may.came.firstly.same) ∙ may.known;
      }

  reset_replies : (session conn at : ℕ) (b : Sofar) → AwaitsResetMay t session conn at b → RepliesOn b.state.conns b.state.replies → RepliesAt b → RepliesAt (makes t.now (AwaitsReset session conn at) b)
  reset_replies session conn at b may on h =
      replies_more lane_of (Origin v x t) conn r cs b.state.order b.state.replies b.outs.frames refl none (none_put conn b.outs.frames may.unput) (
        inr (inl (record { app = may.app; epoch = may.came.epoch; taken = may.came.taken; dial = may.came.dial; came = may.came.came; was_new = may.came.firstly.was_new })),
        record { until = refl; closing = role_given conn (Closing session) b.state.conns there; closed = close_stands b.state.order session at may.closed },
      )
      (subst (λ (fs : List DownOut). RepliesGo lane_of (Origin v x t) cs b.state.order b.state.replies fs) (sym may.unput) stays)
    where
      there : is_some (find (is_conn conn) b.state.conns) ≡ true
      there = some_role (find (is_conn conn) b.state.conns) New may.is_new

      none : waits_for conn b.state.replies ≡ false
      none = none_waits conn b.state.conns b.state.replies (ap is_for_session may.is_new) on

      r : Reply
      r = record { at = at; says = ResetOf conn session at }

      cs : List Conn
      cs = map (with_role_if conn (Closing session)) b.state.conns

      stays : RepliesGo lane_of (Origin v x t) cs b.state.order b.state.replies []
      stays =
          replies_closing lane_of (Origin v x t) conn session b.state.conns b.state.order b.state.replies (ap is_for_session may.is_new)
          (subst (λ (fs : List DownOut). RepliesGo lane_of (Origin v x t) b.state.conns b.state.order b.state.replies fs) may.unput h)

  -- locks
  grants_replies : (rs : List Request) (b : Sofar) → RepliesAt b → RepliesAt (grants rs b)
  grants_replies [] b h = h
  grants_replies (r ∷ rs) b h =
      grants_replies rs (grants_one r b)
      (replies_beside lane_of (Origin v x t) (record { at = length b.state.order; says = GrantOf r.who.session r.ticket (length b.state.order) }) b.state.conns b.state.order b.state.replies b.outs.frames refl (inr tt, tt) h)

  locks_replies : (f : Freed) (b : Sofar) → RepliesAt b → RepliesAt (locks_become f b)
  locks_replies f b h = grants_replies f.grants (becomes (with_locks f.locks) b) h

  calls_replies : (call : LockCall) (b : Sofar) → RepliesAt b → RepliesAt (calls call b)
  calls_replies (Asks r) b h = locks_replies (asked b.state.locks r _) b h
  calls_replies (Unlocks who mode key) b h = locks_replies (freed b.state.locks who key mode _) (frees who mode key b) h
  calls_replies (Withdraws r session ticket) b h = locks_replies (without_request b.state.locks session ticket _) (frees r.who r.mode r.name b) h
  calls_replies (GivesBack r) b h = locks_replies (without_grant b.state.locks r _) (frees r.who r.mode r.name b) h
  calls_replies (ForgetsTicket r) b h = h
  calls_replies (Claims who key mode number at) b h = h
  calls_replies (Cancels r) b h = locks_replies (without_request b.state.locks r.who.session r.ticket _) b h
  calls_replies (Releases session) b h = locks_replies (without_session b.state.locks session _) (writes (act.Release b.state.server session) b) h

  -- ends that go on
  back_replies : (xs : List LiveEnd) (now : ℕ) (b : Sofar) → RepliesAt b → RepliesAt (ends_back xs now b)
  back_replies [] now b h = h
  back_replies (y ∷ xs) now b h = back_replies xs now _ (one (is_some (conn_of b.state y.session)))
    where
      one : (joined : Bool) → RepliesAt (breaks_unless joined y.app now (becomes (with_event y.app now (event.RoundOver joined)) b))
      one true = h
      one false = h

  -- a reply leaves

  -- what is left once it did
  left_replies : (before : List Reply) (r : Reply) (behind : List Reply) (cs : List Conn) (es : List Entry) (fs : List DownOut) → RepliesGo lane_of (Origin v x t) cs es (before ++ r ∷ behind) fs
      → RepliesGo lane_of (Origin v x t) cs es (before ++ behind) fs × AllByRecursion (λ n. waits_for n (before ++ behind) ≡ false) (conns_in r)
  left_replies before r behind cs es fs h = (
    record {
      each = others before h.each;
      one = (one_leaves before r behind h.one).0;
      frames = all_follow (FrameGo cs (before ++ r ∷ behind)) (FrameGo cs (before ++ behind)) (λ f g. go f g) fs h.frames;
    },
    (one_leaves before r behind h.one).1,
  )
    where
      others : (xs : List Reply) → AllByRecursion (ReplyGo lane_of (Origin v x t) cs es) (xs ++ r ∷ behind) → AllByRecursion (ReplyGo lane_of (Origin v x t) cs es) (xs ++ behind)
      others [] all = all.1
      others (y ∷ xs) all = (all.0, others xs all.1)

      go : (f : DownOut) → FrameGo cs (before ++ r ∷ behind) f → FrameGo cs (before ++ behind) f
      go f (inl none) =
          let a : (waits_for f.conn before ≡ false) × (waits_for f.conn (r ∷ behind) ≡ false) = waits_parts f.conn before (r ∷ behind) none in
          let b : (waits_for f.conn (r ∷ []) ≡ false) × (waits_for f.conn behind ≡ false) = waits_parts f.conn (r ∷ []) behind a.1 in
          inl (waits_joined f.conn before behind a.0 b.1)
      go f (inr plain) = inr plain

  leaves_replies : (says : Says) (b : Sofar) → Differ b.state.conns → AllByRecursion (λ n. waits_for n b.state.replies ≡ false) (conns_of says) → RepliesAt b → RepliesAt (leaves says b)
  leaves_replies (NewWelcome conn session) b differ none h =
      replies_put lane_of (Origin v x t) (frame_on conn 0 _ _) b.state.conns b.state.order b.state.replies b.outs.frames (inl none.0) h
  leaves_replies (EpochWelcome conn session kept) b differ none h =
      replies_put lane_of (Origin v x t) (frame_on conn 0 _ _) b.state.conns b.state.order b.state.replies b.outs.frames (inl none.0) h
  leaves_replies (ResetOf conn session place) b differ none h =
      replies_put lane_of (Origin v x t) (frame_on conn 0 0 (down.Reset session place)) b.state.conns b.state.order b.state.replies b.outs.frames (inl none.0) h
  leaves_replies (GrantOf session ticket number) b differ none h = puts_replies session _ b refl differ h
  leaves_replies (AnswerOf session about job number place sum) b differ none h = puts_replies session _ b refl differ h

  module _ (l : Layout) (p : Plain) (d k : ℕ) (W : Caller → Type 0) (still : t.input ≡ data_in.Tick → ⊥) (on : RepliesOn t.old.conns t.old.replies) where
    -- Each of them.
    pub replies_piece : (q : Piece) (b : Sofar) → MayMake t q b → PutsWell lane_of q b → Along l p d k t W b → length t.old.order ≤ length b.state.order → RepliesAt b → RepliesAt (makes t.now q b)
    replies_piece (Accepts conn) b may well a longer h =
        replies_roles lane_of (Origin v x t) b.state.conns (b.state.conns ++ c ∷ []) b.state.order b.state.replies b.outs.frames (λ m is. more m (role_at m b.state.conns) refl is)
        (λ m s is. role_less m c b.state.conns (Closing s) (λ same. absurd cc) is) h
      where
        c : Conn
        c = record { number = conn; role = New }

        more : (m : ℕ) (o : Option Role) → role_at m b.state.conns ≡ o → is_for_session o ≡ true → role_at m (b.state.conns ++ c ∷ []) ≡ role_at m b.state.conns
        more m None at is = absurd (false≢true is)
        more m (Some r) at is = role_more m c b.state.conns r at ∙ sym at
    replies_piece (Forgets ending conn) b may well a longer h = replies_cut ending conn (becomes (without_conn conn) b) (gone_replies conn b h)
    replies_piece (Breaks ending conn session app) b may well a longer h =
        replies_cut ending conn (end_breaks (Some app) t.now (becomes (without_conn conn) b)) (replies_breaks app t.now (becomes (without_conn conn) b) (gone_replies conn b h))
    replies_piece (Dials app dial) b may well a longer h = h
    replies_piece (Waits app conn) b may well a longer h =
        replies_told lane_of (Origin v x t) conn Waiting c.state.conns c.state.order c.state.replies c.outs.frames
        (ap is_for_session (ap (role_at conn) (dropped_conns (waiting_conn b.state app) b) ∙ waiting_new l p d k t W app conn b (waiting_conn b.state app) refl a.ends.callers may.is_new)) (λ q is. absurd cc)
        (replies_drops (waiting_conn b.state app) b h)
      where
        c : Sofar
        c = drops_conn (waiting_conn b.state app) b
    replies_piece (Opens app conn) b may well a longer h =
        opens_replies app conn t.now b a.ends.links.differ (inl may.is_new) (some_role (find (is_conn conn) b.state.conns) New may.is_new) longer well.unlearnt a.speaks h
    replies_piece (OpensNext app conn) b may well a longer h =
        opens_replies app conn t.now (becomes next_caller b) a.ends.links.differ (inr first.each.0.0) (some_role (find (is_conn conn) b.state.conns) Waiting first.each.0.0) longer well.unlearnt
        (record { frames = a.speaks.frames; replies = a.speaks.replies }) h
      where
        first : CallersOf b.state.conns b.state.order (record { conn = conn; app = app } ∷ may.behind)
        first = subst (λ (ws : List Caller). CallersOf b.state.conns b.state.order ws) may.next a.ends.callers
    replies_piece (Resumes app session conn) b may well a longer h =
        replies_told lane_of (Origin v x t) conn (Bound session) c.state.conns c.state.order c.state.replies c.outs.frames
        (ap is_for_session (ap (role_at conn) (dropped_conns (conn_of b.state session) b) ∙ new_stays b.state session conn a.ends.links.differ may.is_new)) (λ q is. absurd cc)
        (replies_drops (conn_of b.state session) b h)
      where
        c : Sofar
        c = drops_conn (conn_of b.state session) b
    replies_piece (GoesOn session conn taken) b may well a longer h =
        goes_on_replies session conn taken b (old_waits session conn b.state.replies on may.came.firstly.was_new may.waiting) h
    replies_piece (ComesAgain session conn kept) b may well a longer h = comes_again_replies session conn kept b may on well h
    replies_piece (AwaitsReset session conn at) b may well a longer h = reset_replies session conn at b may a.speaks.replies h
    replies_piece (Closes session app (causes.Trouble time)) b may well a longer h = absurd (still may.why.came)
    replies_piece (Closes session app causes.Replaced) b may well a longer h = shuts_replies session app t.now b a.ends.links.differ h
    replies_piece (Closes session app (causes.Round time)) b may well a longer h = absurd (still may.why.came)
    replies_piece (Acknowledges conn session up) b may well a longer h = h
    replies_piece (Takes conn session up) b may well a longer h = h
    replies_piece (TakesDone conn session up) b may well a longer h = h
    replies_piece (Enters e) b may well a longer h =
        appends_replies e (writes (act.Enter b.state.server e) b) (item_place may.session may.its.up.message e may.item b.state.order) a.ends.links.differ h
    replies_piece (Fetches session run block) b may well a longer h = puts_replies session (down.Block (head_of b.state session) block) b refl a.ends.links.differ h
    replies_piece (PutsNormal app session) b may well a longer h = puts_replies session (down.Normal (head_of b.state session)) b refl a.ends.links.differ h
    replies_piece (PutsAck session) b may well a longer h = puts_replies session (down.Ack (head_of b.state session)) b refl a.ends.links.differ h
    replies_piece (Replies at says) b may well a longer h = go says may
      where
        go : (y : Says) → RepliesMay t at y b → RepliesGo lane_of (Origin v x t) b.state.conns b.state.order (b.state.replies ++ record { at = at; says = y } ∷ []) b.outs.frames
        go (NewWelcome conn session) m = absurd m
        go (EpochWelcome conn session kept) m = absurd m
        go (ResetOf conn session place) m = absurd (still m.came)
        go (GrantOf session ticket number) m = absurd m
        go (AnswerOf session about job number place sum) m =
            replies_beside lane_of (Origin v x t) (record { at = at; says = AnswerOf session about job number place sum }) b.state.conns b.state.order b.state.replies b.outs.frames refl (inr tt, tt) h
    replies_piece (Leaves before r behind) b may well a longer h =
        leaves_replies r.says (becomes (with_replies (before ++ behind)) b) a.ends.links.differ left.1 left.0
      where
        left : RepliesGo lane_of (Origin v x t) b.state.conns b.state.order (before ++ behind) b.outs.frames × AllByRecursion (λ n. waits_for n (before ++ behind) ≡ false) (conns_in r)
        left =
            left_replies before r behind b.state.conns b.state.order b.outs.frames
            (subst (λ (rs : List Reply). RepliesGo lane_of (Origin v x t) b.state.conns b.state.order rs b.outs.frames) may.its h)
    replies_piece (Bares session conn) b may well a longer h =
        replies_put lane_of (Origin v x t) (frame_on conn 0 _ down.Bare) b.state.conns b.state.order b.state.replies b.outs.frames
        (inr (refl, λ q is. (let both : Some (Bound session) ≡ Some (Closing q) = sym (bound_role session b.state.conns conn a.ends.links.differ may.its) ∙ is in cc))) h
    replies_piece (Locks call) b may well a longer h = calls_replies call b h
    replies_piece RoundEnds b may well a longer h = back_replies (live_ends b.state.order) t.now (back_written b) h
    replies_piece (Ticks app session) b may well a longer h = h
