-- The rows on the order of a data server.
use Rattle.std.specs.Prelude.{◌≡◌, ℕ, Bool, true, false, ◌==◌, ◌&&◌, ◌+◌, ◌-◌, ◌≤◌, if◌then◌else◌, List, [], ◌∷◌, ◌++◌, length, take, drop, Option, Some, None, slice_get, map, is_some}
use Rattle.std.specs.List.{list_any, list_all}
use Rattle.std.specs.Option.{option_map}
use Rattle.plain_orders.specs.declared.entry.Entry.{Entry}
use Rattle.plain_orders.specs.declared.entry.Entry.TheVariants.{Epoch, Opened, Closed, Update, Commit, Rollback}
use Rattle.plain_orders.specs.declared.layout.Layout.{Layout}
use Rattle.plain_orders.specs.declared.limits.TheConstants.{START_EPOCH_LIMIT}
use Rattle.plain_orders.specs.Entries.{count, live, last_epoch, live_session}
use Rattle.plain_orders.specs.Ordered.{IsOrdered}
use Rattle.plain_orders.specs.Times.{until}
use Rattle.plain_runs.specs.Plain.{Server, put, current, issued_in, session_in}
use Rattle.plain_runs.specs.Items.{entry_of}
use Rattle.plain_orders.specs.Sessions.{live_sessions, app_in, is_close}
use Rattle.plain_runs.specs.Holds.{hold_after_crash, hold_after_back}

-- a recovery round is due where a session is live
abbrev pub due_of : List Entry → ℕ → ℕ → Option ℕ
due_of es clock round = if length (live_sessions es) == 0 then None else Some (until clock round)

-- what the journal held
pub record OpenedMay (s : Server) (entries : List Entry) : Type 0 where
  pub fresh : s.opened ≡ false
  pub ordered : IsOrdered entries
  pub low : last_epoch entries ≤ START_EPOCH_LIMIT

-- the session was met, and is told of the current order
abbrev pub is_told : Server → ℕ → Bool
is_told s n = is_some (s.session_at n) && (session_in s n).told == current s

-- an Open at the end; the layout and the clock are there for a form of Open that says more
pub record OpenMay (layout : Layout) (clock : ℕ) (s : Server) (session app : ℕ) : Type 0 where
  pub opened : s.opened ≡ true
  pub place : session ≡ length s.order + 1
  pub alone : live_session s.order app ≡ None
  pub up : s.due ≡ None

-- an item of a session at the end
pub record ItemMay (s : Server) (session w : ℕ) (e : Entry) : Type 0 where
  pub is_live : live s.order session ≡ true
  pub told : is_told s session ≡ true
  pub next : w ≡ count s.order session + 1
  pub issued : option_map (entry_of session w) (slice_get (issued_in s session) (w - 1)) ≡ Some e

-- an Open or an item enters
abbrev pub EnterMay : Layout → ℕ → Server → Entry → Type 0
EnterMay layout clock s (Epoch number) = ⊥
EnterMay layout clock s (Opened session app) = OpenMay layout clock s session app
EnterMay layout clock s (Closed session) = ⊥
EnterMay layout clock s (Update session w job txn op) = ItemMay s session w (Update session w job txn op)
EnterMay layout clock s (Commit session w job txn) = ItemMay s session w (Commit session w job txn)
EnterMay layout clock s (Rollback session w job txn) = ItemMay s session w (Rollback session w job txn)

-- more of the order is synced
pub record SyncedMay (s : Server) (n : ℕ) : Type 0 where
  pub opened : s.opened ≡ true
  pub no_less : s.synced ≤ n
  pub within : n ≤ length s.order

-- a crash keeps at least what was synced
pub record CrashMay (s : Server) (kept : ℕ) : Type 0 where
  pub opened : s.opened ≡ true
  pub no_less : s.synced ≤ kept
  pub within : kept ≤ length s.order
  pub low : last_epoch (take kept s.order) ≤ START_EPOCH_LIMIT

-- all that was issued in the session has entered
abbrev pub is_counted : Server → ℕ → Bool
is_counted s n = count s.order n == length (issued_in s n)

-- the recovery round is over
pub record BackMay (s : Server) : Type 0 where
  pub recovering : is_some s.due ≡ true
  pub told : list_all (is_told s) (live_sessions s.order) ≡ true
  pub counted : list_all (is_counted s) (live_sessions s.order) ≡ true
  pub closes : list_any is_close (drop s.synced s.order) ≡ false

-- what they change

-- the first order: what the journal held and the next Epoch
abbrev pub opened_with : ℕ → ℕ → Server → List Entry → Server
opened_with clock round s entries =
    record s {
      opened = true;
      order = entries ++ Epoch (last_epoch entries + 1) ∷ [];
      synced = length entries + 1;
      due = due_of entries clock round;
    }

-- no break of this application server's data end is known any more
abbrev pub mended_end : (ℕ → Option ℕ) → Option ℕ → ℕ → Option ℕ
mended_end ends None = ends
mended_end ends (Some app) = put ends app None

-- the server with an entry at its order's end
abbrev pub with_entry : Server → Option ℕ → Entry → Server
with_entry s app e = record s { order = s.order ++ e ∷ []; end_at = mended_end s.end_at app }

-- an Open at the end, which was entered in the current order
abbrev pub entered_open : Server → ℕ → ℕ → Server
entered_open s session app =
    record (with_entry s (Some app) (Opened session app)) {
      entered_at = put s.entered_at session (Some (record { app = app; in_order = current s; lost_since = false }));
    }

-- an item of a session at the end
abbrev pub entered_of : Server → ℕ → Entry → Server
entered_of s session e = with_entry s (app_in s.order session) e

-- what an entry that enters changes
abbrev pub entered : Server → Entry → Server
entered s (Epoch number) = s
entered s (Opened session app) = entered_open s session app
entered s (Closed session) = s
entered s (Update session w job txn op) = entered_of s session (Update session w job txn op)
entered s (Commit session w job txn) = entered_of s session (Commit session w job txn)
entered s (Rollback session w job txn) = entered_of s session (Rollback session w job txn)

-- so many entries are synced
abbrev pub saved : Server → ℕ → Server
saved s n = record s { synced = n }

-- a new order: the entries kept and the next Epoch
abbrev pub crashed : ℕ → ℕ → Server → ℕ → Server
crashed clock round s kept =
    record s {
      past = s.past ++ s.order ∷ [];
      order = take kept s.order ++ Epoch (last_epoch (take kept s.order) + 1) ∷ [];
      synced = kept;
      end_at = λ _. None;
      quits = [];
      holds = map (hold_after_crash (take kept s.order) kept) s.holds;
      due = due_of (take kept s.order) clock round;
    }

-- no round is due any more, and what was not claimed goes
abbrev pub came_back : Server → Server
came_back s = record s { due = None; quits = []; holds = map (hold_after_back s.order) s.holds }
