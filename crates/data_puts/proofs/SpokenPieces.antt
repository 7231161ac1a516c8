-- Each small change of a data server's step puts frames and keeps replies back on connections of sessions alone.
use Rattle.std.proofs.Common.{◌≡◌, ℕ, ◌+◌, Bool, true, false, List, [], ◌∷◌, ◌++◌, map, length, filter, Option, Some, None, is_some, refl, sym, ◌∙◌, ap, subst}
use Rattle.std.specs.Prelude.{nat_lt}
use Rattle.std.specs.List.{AllByRecursion, find}
use Rattle.plain_orders.specs.declared.act.Act.TheVariants as act
use Rattle.plain_orders.specs.declared.causes.ShutCause.{ShutCause}
use Rattle.plain_orders.specs.declared.causes.ShutCause.TheVariants as causes
use Rattle.plain_orders.specs.declared.entry.Entry.{Entry}
use Rattle.plain_orders.specs.declared.entry.Entry.TheVariants.{Closed, Opened}
use Rattle.link_states.specs.declared.link_event.LinkEvent.TheVariants as event
use Rattle.lock_table.specs.LockWords.{Freed, asked, freed, without_grant, without_request, without_session}
use Rattle.data_rules.specs.DataState.{DataState}
use Rattle.data_rules.specs.declared.data_in.DataIn.{DataIn}
use Rattle.data_rules.specs.declared.data_in.DataIn.TheVariants as data_in
use Rattle.data_rules.specs.declared.down_frames.DownOut.{DownOut}
use Rattle.data_rules.specs.declared.rows.Conn.{Conn}
use Rattle.data_rules.specs.declared.rows.LiveEnd.{LiveEnd}
use Rattle.data_rules.specs.declared.rows.Reply.{Reply}
use Rattle.std.proofs.lemmas.Bool.{false≢true}
use Rattle.data_rules.specs.declared.rows.Role.{Role}
use Rattle.data_rules.specs.declared.rows.Role.TheVariants.{Bound, Closing, New, Waiting}
use Rattle.data_rules.specs.declared.rows.Says.{Says}
use Rattle.data_rules.specs.declared.rows.Says.TheVariants.{NewWelcome, EpochWelcome, ResetOf, GrantOf, AnswerOf}
use Rattle.data_rules.specs.Callers.{resumed, with_caller}
use Rattle.data_rules.specs.Closing.{silenced}
use Rattle.data_rules.specs.Conns.{breaks_if, drops_conn, end_breaks, is_conn, is_normal, is_other_conn, link_of, with_event, with_role_if, without_conn}
use Rattle.data_rules.specs.Entering.{enters}
use Rattle.data_rules.specs.Granting.{frees, locks_become, with_locks}
use Rattle.data_rules.specs.Opening.{breaks_unless, opens}
use Rattle.data_rules.specs.Puts.{Sofar, becomes, begun, conn_of, is_reply_elsewhere, says_to, writes}
use Rattle.data_rules.specs.Saving.{writes_synced}
use Rattle.cluster_invariant.specs.Waiting.{conns_of}
use Rattle.cluster_invariant.proofs.AllLists.{all_filtered, all_joined}
use Rattle.cluster_invariant.proofs.ConnRoles.{dropped, dropped_conns}
use Rattle.cluster_invariant.proofs.PieceKinds.{Ending, There, Here, LockCall, Asks, Unlocks, Withdraws, GivesBack, ForgetsTicket, Claims, Cancels, Releases, Accepts, Resumes, Replies, Leaves, calls, cuts_if, ends_back, event_of, makes, parts_from, shuts, with_close, with_replies}
use Rattle.cluster_invariant.proofs.PieceMay.{Coming, RepliesMay, begins}
use Rattle.cluster_invariant.proofs.PiecesOfCloses.{close_conns, conn_there, role_given}
use Rattle.cluster_invariant.proofs.PutLaws.{appends_state, only_leaves, only_locks}
use Rattle.data_pieces.proofs.CallersGo.{role_more}
use Rattle.data_pieces.proofs.ConnLists.{Differ, role_at}
use Rattle.data_pieces.proofs.EndsPieces.{some_role}
use Rattle.data_pieces.proofs.PieceFacts.{enters_facts}
use Rattle.data_puts.proofs.Spoken.{FramesOn, RepliesOn, ReplyOn, appends_on_conn, frames_conns, gone_spoken, grants_on_conn, is_for_session, is_spoken, leaves_on_conn, replies_conns, replies_gone, role_spoken, waits_spoken}

-- the frames that were put, and the replies that wait
pub record Speaks (cs : List Conn) (fs : List DownOut) (rs : List Reply) : Type 0 where
  pub frames : FramesOn cs fs
  pub replies : RepliesOn cs rs

abbrev pub SpeaksAt : Sofar → Type 0
SpeaksAt b = Speaks b.state.conns b.outs.frames b.state.replies

-- the same by their parts
pub speaks_as : (b : Sofar) (cs : List Conn) (rs : List Reply) → b.state.conns ≡ cs → b.state.replies ≡ rs → FramesOn cs b.outs.frames → RepliesOn cs rs → SpeaksAt b
speaks_as b cs rs conns replies frames on = record {
  frames = subst (λ (xs : List Conn). FramesOn xs b.outs.frames) (sym conns) frames;
  replies = subst (λ (xs : List Conn). RepliesOn xs b.state.replies) (sym conns) (subst (RepliesOn cs) (sym replies) on);
}

-- a connection goes
pub speaks_gone : (conn : ℕ) (b : Sofar) → SpeaksAt b → SpeaksAt (becomes (without_conn conn) b)
speaks_gone conn b h = record {
  frames = frames_conns b.state.conns (filter (is_other_conn conn) b.state.conns) b.outs.frames (λ m is. gone_spoken conn m b.state.conns is) h.frames;
  replies = replies_gone conn b.state.conns b.state.replies h.replies;
}

pub speaks_cut : (ending : Ending) (conn : ℕ) (b : Sofar) → SpeaksAt b → SpeaksAt (cuts_if ending conn b)
speaks_cut There conn b h = h
speaks_cut Here conn b h = h

speaks_dropped : (o : Option ℕ) (b : Sofar) → SpeaksAt b → SpeaksAt (drops_conn o b)
speaks_dropped None b h = h
speaks_dropped (Some w) b h = speaks_gone w b h

pub speaks_breaks : (app now : ℕ) (b : Sofar) → SpeaksAt b → SpeaksAt (end_breaks (Some app) now b)
speaks_breaks app now b h = go (is_normal (link_of b.state app))
  where
    go : (normal : Bool) → SpeaksAt (becomes (with_event app now event.Ended) (breaks_if normal app now b))
    go true = h
    go false = h

-- a connection is a session's
speaks_role : (conn s : ℕ) (cs : List Conn) (fs : List DownOut) (rs : List Reply) → is_some (find (is_conn conn) cs) ≡ true → Speaks cs fs rs → Speaks (map (with_role_if conn (Bound s)) cs) fs rs
speaks_role conn s cs fs rs there h = record {
  frames = frames_conns cs (map (with_role_if conn (Bound s)) cs) fs (λ m is. role_spoken is_spoken conn m (Bound s) cs refl there is) h.frames;
  replies = replies_conns cs (map (with_role_if conn (Bound s)) cs) rs (λ m is. role_spoken is_for_session conn m (Bound s) cs refl there is) h.replies;
}

pub speaks_closing : (conn s : ℕ) (cs : List Conn) (fs : List DownOut) (rs : List Reply) → is_some (find (is_conn conn) cs) ≡ true → Speaks cs fs rs → Speaks (map (with_role_if conn (Closing s)) cs) fs rs
speaks_closing conn s cs fs rs there h = record {
  frames = frames_conns cs (map (with_role_if conn (Closing s)) cs) fs (λ m is. role_spoken is_spoken conn m (Closing s) cs refl there is) h.frames;
  replies = replies_conns cs (map (with_role_if conn (Closing s)) cs) rs (λ m is. role_spoken is_for_session conn m (Closing s) cs refl there is) h.replies;
}

-- entries

pub speaks_enters : (e : Entry) (b : Sofar) → Differ b.state.conns → SpeaksAt b → SpeaksAt (enters e b)
speaks_enters e b differ h =
    speaks_as (enters e b) b.state.conns b.state.replies (enters_facts e b).conns (ap (λ (d : DataState). d.replies) (appends_state e (writes (act.Enter b.state.server e) b)).state)
    (appends_on_conn b.state.conns differ e (writes (act.Enter b.state.server e) b) refl h.frames) h.replies

pub speaks_opens : (app conn now : ℕ) (b : Sofar) → Differ b.state.conns → is_some (find (is_conn conn) b.state.conns) ≡ true → SpeaksAt b → SpeaksAt (opens app conn now b)
speaks_opens app conn now b differ there h = go (enters (Opened (length b.state.order + 1) app) b) (enters_facts (Opened (length b.state.order + 1) app) b).conns (speaks_enters (Opened (length b.state.order + 1) app) b differ h)
  where
    go : (c : Sofar) → c.state.conns ≡ b.state.conns → SpeaksAt c
        → Speaks (map (with_role_if conn (Bound (length b.state.order + 1))) c.state.conns) c.outs.frames
        (c.state.replies ++ record { at = length b.state.order + 1; says = NewWelcome conn (length b.state.order + 1) } ∷ [])
    go c same g = by (speaks_role conn (length b.state.order + 1) c.state.conns c.outs.frames c.state.replies there_now g)
      where
        there_now : is_some (find (is_conn conn) c.state.conns) ≡ true
        there_now = ap (λ (xs : List Conn). is_some (find (is_conn conn) xs)) same ∙ there

        by : Speaks (map (with_role_if conn (Bound (length b.state.order + 1))) c.state.conns) c.outs.frames c.state.replies
            → Speaks (map (with_role_if conn (Bound (length b.state.order + 1))) c.state.conns) c.outs.frames
            (c.state.replies ++ record { at = length b.state.order + 1; says = NewWelcome conn (length b.state.order + 1) } ∷ [])
        by k = record {
          frames = k.frames;
          replies = all_joined (ReplyOn (map (with_role_if conn (Bound (length b.state.order + 1))) c.state.conns)) c.state.replies
              (record { at = length b.state.order + 1; says = NewWelcome conn (length b.state.order + 1) } ∷ []) k.replies
              ((ap is_for_session (role_given conn (Bound (length b.state.order + 1)) c.state.conns there_now), tt), tt);
        }

-- a Close
speaks_parts : (s : ℕ) (w : Sofar) (c : ShutCause) (o : Option ℕ) → ((conn : ℕ) → o ≡ Some conn → is_some (find (is_conn conn) w.state.conns) ≡ true) → SpeaksAt w → SpeaksAt (parts_from c o s w)
speaks_parts s w (causes.Trouble time) None there h = h
speaks_parts s w (causes.Trouble time) (Some conn) there h = speaks_closing conn s w.state.conns w.outs.frames w.state.replies (there conn refl) h
speaks_parts s w causes.Replaced o there h = speaks_dropped o w h
speaks_parts s w (causes.Round time) None there h = h
speaks_parts s w (causes.Round time) (Some conn) there h = speaks_closing conn s w.state.conns w.outs.frames w.state.replies (there conn refl) h

pub speaks_shuts : (s app : ℕ) (cause : ShutCause) (now : ℕ) (b : Sofar) → Differ b.state.conns → SpeaksAt b → SpeaksAt (shuts s app cause now b)
speaks_shuts s app cause now b differ h =
    by (parts_from cause (conn_of b.state s) s (with_close s cause b))
    (speaks_parts s (with_close s cause b) cause (conn_of b.state s) (λ conn is. ap (λ (xs : List Conn). is_some (find (is_conn conn) xs)) conns ∙ conn_there s b.state.conns conn is)
    (speaks_as (with_close s cause b) b.state.conns (filter (is_reply_elsewhere (says_to s)) b.state.replies) conns
    (ap (λ (d : DataState). d.replies) (appends_state (Closed s) (becomes (silenced s) (writes (act.Shut b.state.server s cause) b))).state)
    (appends_on_conn b.state.conns differ (Closed s) (becomes (silenced s) (writes (act.Shut b.state.server s cause) b)) refl h.frames)
    (all_filtered (ReplyOn b.state.conns) (is_reply_elsewhere (says_to s)) b.state.replies h.replies)))
  where
    conns : (with_close s cause b).state.conns ≡ b.state.conns
    conns = close_conns s cause b

    by : (c : Sofar) → SpeaksAt c → SpeaksAt (becomes (with_event app now (event_of cause)) c)
    by c g = record { frames = g.frames; replies = g.replies }

-- locks

speaks_locks : (f : Freed) (b : Sofar) → Differ b.state.conns → SpeaksAt b → SpeaksAt (locks_become f b)
speaks_locks f b differ h = record {
  frames = subst (λ (xs : List Conn). FramesOn xs (locks_become f b).outs.frames) (sym conns) (subst (FramesOn b.state.conns) (sym (only_locks f b).frames) h.frames);
  replies = subst (λ (xs : List Conn). RepliesOn xs (locks_become f b).state.replies) (sym conns) (grants_on_conn b.state.conns differ f.grants (becomes (with_locks f.locks) b) h.replies);
}
  where
    conns : (locks_become f b).state.conns ≡ b.state.conns
    conns = ap (λ (d : DataState). d.conns) (only_locks f b).state

pub speaks_calls : (call : LockCall) (b : Sofar) → Differ b.state.conns → SpeaksAt b → SpeaksAt (calls call b)
speaks_calls (Asks r) b differ h = speaks_locks (asked b.state.locks r _) b differ h
speaks_calls (Unlocks who mode key) b differ h = speaks_locks (freed b.state.locks who key mode _) (frees who mode key b) differ h
speaks_calls (Withdraws r session ticket) b differ h = speaks_locks (without_request b.state.locks session ticket _) (frees r.who r.mode r.name b) differ h
speaks_calls (GivesBack r) b differ h = speaks_locks (without_grant b.state.locks r _) (frees r.who r.mode r.name b) differ h
speaks_calls (ForgetsTicket r) b differ h = h
speaks_calls (Claims who key mode number at) b differ h = h
speaks_calls (Cancels r) b differ h = speaks_locks (without_request b.state.locks r.who.session r.ticket _) b differ h
speaks_calls (Releases session) b differ h = speaks_locks (without_session b.state.locks session _) (writes (act.Release b.state.server session) b) differ h

-- ends that go on
pub speaks_back : (xs : List LiveEnd) (now : ℕ) (b : Sofar) → SpeaksAt b → SpeaksAt (ends_back xs now b)
speaks_back [] now b h = h
speaks_back (x ∷ xs) now b h = speaks_back xs now _ (one (is_some (conn_of b.state x.session)))
  where
    one : (joined : Bool) → SpeaksAt (breaks_unless joined x.app now (becomes (with_event x.app now (event.RoundOver joined)) b))
    one true = h
    one false = h

-- a step begins
pub begins_frames : (old : DataState) (now : ℕ) (input : DataIn) → (begins (record { old = old; now = now; input = input })).outs.frames ≡ []
begins_frames old now (data_in.Frame conn up) = refl
begins_frames old now (data_in.Connected conn) = refl
begins_frames old now (data_in.Broken conn) = refl
begins_frames old now data_in.Tick = refl
begins_frames old now (data_in.Saved upto) = go (nat_lt old.synced upto)
  where
    go : (rises : Bool) → (writes_synced rises upto (begun old)).outs.frames ≡ []
    go true = refl
    go false = refl

module _ (t : Coming) where
  -- a connection comes before any frame
  pub speaks_accepts : (conn : ℕ) (b : Sofar) → b ≡ begins t → SpeaksAt b → SpeaksAt (makes t.now (Accepts conn) b)
  speaks_accepts conn b first h = record {
    frames = subst (λ (fs : List DownOut). FramesOn (b.state.conns ++ record { number = conn; role = New } ∷ []) fs) (sym (ap (λ (c : Sofar). c.outs.frames) first ∙ begins_frames t.old t.now t.input)) tt;
    replies = replies_conns b.state.conns (b.state.conns ++ record { number = conn; role = New } ∷ []) b.state.replies (λ m is. more m (role_at m b.state.conns) refl is) h.replies;
  }
    where
      more : (m : ℕ) (o : Option Role) → role_at m b.state.conns ≡ o → is_for_session o ≡ true → is_for_session (role_at m (b.state.conns ++ record { number = conn; role = New } ∷ [])) ≡ true
      more m None at is = absurd (false≢true is)
      more m (Some r) at is = ap is_for_session (role_more m (record { number = conn; role = New }) b.state.conns r at) ∙ is

  pub speaks_waits : (app conn : ℕ) (b : Sofar) (o : Option ℕ) → role_at conn (dropped o b.state.conns) ≡ Some New → SpeaksAt b → SpeaksAt (becomes (with_caller app conn) (drops_conn o b))
  speaks_waits app conn b o new h = go (drops_conn o b) (ap (role_at conn) (dropped_conns o b) ∙ new) (speaks_dropped o b h)
    where
      go : (c : Sofar) → role_at conn c.state.conns ≡ Some New → SpeaksAt c → SpeaksAt (becomes (with_caller app conn) c)
      go c at g = record {
        frames = frames_conns c.state.conns (map (with_role_if conn Waiting) c.state.conns) c.outs.frames (λ m is. waits_spoken is_spoken conn m c.state.conns refl at is) g.frames;
        replies = replies_conns c.state.conns (map (with_role_if conn Waiting) c.state.conns) c.state.replies (λ m is. waits_spoken is_for_session conn m c.state.conns refl at is) g.replies;
      }

  pub speaks_resumes : (app session conn : ℕ) (b : Sofar) → role_at conn (dropped (conn_of b.state session) b.state.conns) ≡ Some New → SpeaksAt b → SpeaksAt (makes t.now (Resumes app session conn) b)
  speaks_resumes app session conn b new h = go (drops_conn (conn_of b.state session) b) (ap (role_at conn) (dropped_conns (conn_of b.state session) b) ∙ new) (speaks_dropped (conn_of b.state session) b h)
    where
      go : (c : Sofar) → role_at conn c.state.conns ≡ Some New → SpeaksAt c → SpeaksAt (becomes (resumed app session conn t.now) c)
      go c at g = by (speaks_role conn session c.state.conns c.outs.frames c.state.replies (some_role (find (is_conn conn) c.state.conns) New at) g)
        where
          by : Speaks (map (with_role_if conn (Bound session)) c.state.conns) c.outs.frames c.state.replies → SpeaksAt (becomes (resumed app session conn t.now) c)
          by k = record { frames = k.frames; replies = k.replies }

  pub speaks_replies : (at : ℕ) (says : Says) (b : Sofar) → RepliesMay t at says b → SpeaksAt b → SpeaksAt (makes t.now (Replies at says) b)
  speaks_replies at says b may h = record { frames = h.frames; replies = all_joined (ReplyOn b.state.conns) b.state.replies (record { at = at; says = says } ∷ []) h.replies (go says may, tt) }
    where
      go : (x : Says) → RepliesMay t at x b → AllByRecursion (λ n. is_for_session (role_at n b.state.conns) ≡ true) (conns_of x)
      go (NewWelcome conn session) m = absurd m
      go (EpochWelcome conn session kept) m = absurd m
      go (ResetOf conn session place) m = (ap is_for_session m.closing, tt)
      go (GrantOf session ticket number) m = absurd m
      go (AnswerOf session about job number place sum) m = tt

  pub speaks_leaves : (before : List Reply) (r : Reply) (behind : List Reply) (b : Sofar) → Differ b.state.conns → b.state.replies ≡ before ++ r ∷ behind → SpeaksAt b → SpeaksAt (makes t.now (Leaves before r behind) b)
  speaks_leaves before r behind b differ its h =
      speaks_as (makes t.now (Leaves before r behind) b) b.state.conns (before ++ behind) (ap (λ (d : DataState). d.conns) (only_leaves r.says c).state) (ap (λ (d : DataState). d.replies) (only_leaves r.says c).state)
      (leaves_on_conn b.state.conns differ r.says c refl (split before (subst (RepliesOn b.state.conns) its h.replies)).0 h.frames) (split before (subst (RepliesOn b.state.conns) its h.replies)).1
    where
      c : Sofar
      c = becomes (with_replies (before ++ behind)) b

      split : (xs : List Reply) → RepliesOn b.state.conns (xs ++ r ∷ behind) → ReplyOn b.state.conns r × RepliesOn b.state.conns (xs ++ behind)
      split [] all = (all.0, all.1)
      split (x ∷ xs) all = go (split xs all.1)
        where
          go : ReplyOn b.state.conns r × RepliesOn b.state.conns (xs ++ behind) → ReplyOn b.state.conns r × RepliesOn b.state.conns (x ∷ xs ++ behind)
          go g = (g.0, (all.0, g.1))
