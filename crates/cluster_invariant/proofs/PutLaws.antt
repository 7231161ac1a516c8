-- What of a data server's state the words of a step change: putting changes the windows alone, an entry the order and the notes too.
use Rattle.std.proofs.Common.{◌≡◌, ℕ, ◌+◌, List, [], ◌∷◌, length, filter, Option, Some, None, refl, ◌∙◌, ap}
use Rattle.plain_orders.specs.declared.entry.Entry.{Entry}
use Rattle.ecp_messages.specs.declared.down.Down.{Down}
use Rattle.lock_table.specs.declared.rows.Request.{Request}
use Rattle.lock_table.specs.LockWords.{Freed, Locks, without_request}
use Rattle.block_holders.specs.declared.noted.Noted.{Noted}
use Rattle.block_holders.specs.HolderWords.{touched}
use Rattle.end_words.specs.Windows.{sent, with_sent, with_ack_put}
use Rattle.data_rules.specs.declared.rows.Reply.{Reply}
use Rattle.data_rules.specs.declared.rows.Says.{Says}
use Rattle.data_rules.specs.declared.rows.Says.TheVariants.{NewWelcome, EpochWelcome, ResetOf, GrantOf, AnswerOf}
use Rattle.data_rules.specs.DataState.{DataState, SessionWindow}
use Rattle.data_rules.specs.Puts.{Sofar, becomes, tells_on, puts, conn_of, set_window, window_in, window_of, with_window}
use Rattle.data_rules.specs.Leaving.{leaves, all_leave, flushed, may_leave, must_wait}
use Rattle.data_rules.specs.Entering.{drops, drops_one, with_entry, spans_of, appends}
use Rattle.data_rules.specs.Granting.{grants, grants_one, locks_become, with_locks}
use Rattle.data_rules.specs.Closing.{cancels, cancels_one}

-- the state with these windows
abbrev pub with_windows : List SessionWindow → DataState → DataState
with_windows ws d = record d { windows = ws }

-- the windows after a message was put to a session, which has a connection or none
abbrev pub windows_put : Option ℕ → ℕ → Down → List SessionWindow → List SessionWindow
windows_put None s m ws = set_window ws s (with_sent (window_in ws s) m)
windows_put (Some conn) s m ws =
    set_window (set_window ws s (with_sent (window_in ws s) m)) s (with_ack_put (window_in (set_window ws s (with_sent (window_in ws s) m)) s))

pub puts_state : (s : ℕ) (m : Down) (b : Sofar) → (puts s m b).state ≡ with_windows (windows_put (conn_of b.state s) s m b.state.windows) b.state
puts_state s m b = go (conn_of b.state s)
  where
    go : (o : Option ℕ) → (tells_on s o (sent (window_of b.state s) + 1) m (becomes (λ d. with_window s (with_sent (window_of d s) m) d) b)).state
        ≡ with_windows (windows_put o s m b.state.windows) b.state
    go None = refl
    go (Some conn) = refl

-- only the windows are changed, and nothing is written or cut
pub record OnlyWindows (b c : Sofar) : Type 0 where
  pub windows : List SessionWindow
  pub state : c.state ≡ with_windows windows b.state
  pub acts : c.outs.acts ≡ b.outs.acts
  pub cuts : c.outs.cuts ≡ b.outs.cuts

pub only_none : (b : Sofar) → OnlyWindows b b
only_none b = record { windows = b.state.windows; state = refl; acts = refl; cuts = refl }

pub only_then : (b c e : Sofar) → OnlyWindows b c → OnlyWindows c e → OnlyWindows b e
only_then b c e first more = record {
  windows = more.windows;
  state = more.state ∙ ap (with_windows more.windows) first.state;
  acts = more.acts ∙ first.acts;
  cuts = more.cuts ∙ first.cuts;
}

only_tells : (s : ℕ) (o : Option ℕ) (n : ℕ) (m : Down) (b : Sofar) → OnlyWindows b (tells_on s o n m b)
only_tells s None n m b = only_none b
only_tells s (Some conn) n m b = record { windows = _; state = refl; acts = refl; cuts = refl }

pub only_puts : (s : ℕ) (m : Down) (b : Sofar) → OnlyWindows b (puts s m b)
only_puts s m b = go (conn_of b.state s) (sent (window_of b.state s) + 1)
  where
    go : (o : Option ℕ) (n : ℕ) → OnlyWindows b (tells_on s o n m (becomes (λ d. with_window s (with_sent (window_of d s) m) d) b))
    go o n =
        only_then b (becomes (λ d. with_window s (with_sent (window_of d s) m) d) b) _
        (record { windows = set_window b.state.windows s (with_sent (window_in b.state.windows s) m); state = refl; acts = refl; cuts = refl })
        (only_tells s o n m (becomes (λ d. with_window s (with_sent (window_of d s) m) d) b))

pub only_drops : (before : ℕ) (xs : List Noted) (b : Sofar) → OnlyWindows b (drops before xs b)
only_drops before [] b = only_none b
only_drops before (x ∷ xs) b =
    only_then b (drops_one before x xs b) (drops before (x ∷ xs) b) (only_puts x.session _ b) (only_drops before xs (drops_one before x xs b))

pub only_leaves : (says : Says) (b : Sofar) → OnlyWindows b (leaves says b)
only_leaves (NewWelcome conn session) b = record { windows = _; state = refl; acts = refl; cuts = refl }
only_leaves (EpochWelcome conn session kept) b = record { windows = _; state = refl; acts = refl; cuts = refl }
only_leaves (ResetOf conn session at) b = record { windows = b.state.windows; state = refl; acts = refl; cuts = refl }
only_leaves (GrantOf session ticket at) b = only_puts session _ b
only_leaves (AnswerOf session about job number at sum) b = only_puts session _ b

only_all_leave : (rs : List Reply) (b : Sofar) → OnlyWindows b (all_leave rs b)
only_all_leave [] b = only_none b
only_all_leave (r ∷ rs) b = only_then b (leaves r.says b) (all_leave (r ∷ rs) b) (only_leaves r.says b) (only_all_leave rs (leaves r.says b))

-- only such replies are left as must wait
abbrev pub with_waiting : DataState → DataState
with_waiting d = record d { replies = filter (must_wait d.synced) d.replies }

-- A flush leaves those, and changes the windows.
pub only_flushed : (b : Sofar) → OnlyWindows (becomes with_waiting b) (flushed b)
only_flushed b = only_all_leave (filter (may_leave b.state.synced) b.state.replies) (becomes with_waiting b)

-- an entry more, with what it drops
abbrev pub with_appended : Entry → List SessionWindow → DataState → DataState
with_appended e ws d = with_windows ws (with_entry e (spans_of d e) d)

pub record Appended (e : Entry) (b c : Sofar) : Type 0 where
  pub windows : List SessionWindow
  pub state : c.state ≡ with_appended e windows b.state
  pub acts : c.outs.acts ≡ b.outs.acts
  pub cuts : c.outs.cuts ≡ b.outs.cuts

pub appends_state : (e : Entry) (b : Sofar) → Appended e b (appends e b)
appends_state e b =
    go (only_drops (length b.state.order) (touched (spans_of b.state e) b.state.noted) (becomes (with_entry e (spans_of b.state e)) b))
  where
    go : OnlyWindows (becomes (with_entry e (spans_of b.state e)) b) (appends e b) → Appended e b (appends e b)
    go o = record { windows = o.windows; state = o.state; acts = o.acts; cuts = o.cuts }

-- the table of locks and the replies are changed, and acts are written
pub record OnlyLocks (b c : Sofar) : Type 0 where
  pub locks : Locks
  pub replies : List Reply
  pub state : c.state ≡ record b.state { locks = locks; replies = replies }
  pub frames : c.outs.frames ≡ b.outs.frames
  pub cuts : c.outs.cuts ≡ b.outs.cuts

pub locks_then : (b c e : Sofar) → OnlyLocks b c → OnlyLocks c e → OnlyLocks b e
locks_then b c e first more = record {
  locks = more.locks;
  replies = more.replies;
  state = more.state ∙ ap (λ (d : DataState). record d { locks = more.locks; replies = more.replies }) first.state;
  frames = more.frames ∙ first.frames;
  cuts = more.cuts ∙ first.cuts;
}

pub only_grants : (rs : List Request) (b : Sofar) → OnlyLocks b (grants rs b)
only_grants [] b = record { locks = b.state.locks; replies = b.state.replies; state = refl; frames = refl; cuts = refl }
only_grants (r ∷ rs) b =
    locks_then b (grants_one r b) (grants rs (grants_one r b)) (record { locks = b.state.locks; replies = _; state = refl; frames = refl; cuts = refl })
    (only_grants rs (grants_one r b))

pub only_locks : (f : Freed) (b : Sofar) → OnlyLocks b (locks_become f b)
only_locks f b =
    locks_then b (becomes (with_locks f.locks) b) (locks_become f b)
    (record { locks = f.locks; replies = b.state.replies; state = refl; frames = refl; cuts = refl }) (only_grants f.grants (becomes (with_locks f.locks) b))

pub only_cancels : (rs : List Request) (b : Sofar) → OnlyLocks b (cancels rs b)
only_cancels [] b = record { locks = b.state.locks; replies = b.state.replies; state = refl; frames = refl; cuts = refl }
only_cancels (r ∷ rs) b =
    locks_then b (cancels_one r b) (cancels rs (cancels_one r b))
    (only_locks (without_request b.state.locks r.who.session r.ticket (length b.state.order)) b) (only_cancels rs (cancels_one r b))
