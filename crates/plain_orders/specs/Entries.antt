-- Lists of entries, oldest first: running numbers, live sessions, epochs.
use Rattle.std.specs.Prelude.{ℕ, zero, suc, Bool, true, false, ◌==◌, max, if◌then◌else◌, List, [], ◌∷◌, Option, Some, None, take, slice_get}
use Rattle.std.specs.List.{list_any}
use Rattle.plain_orders.specs.declared.entry.Entry.{Entry}
use Rattle.plain_orders.specs.declared.entry.Entry.TheVariants.{Epoch, Opened, Closed, Update, Commit, Rollback}

-- the entry at a position, the first being at 1
abbrev pub entry_at : List Entry → ℕ → Option Entry
entry_at es zero = None
entry_at es (suc i) = slice_get es i

-- the running number of an entry that is an item of this session, else 0
abbrev pub w_in : ℕ → Entry → ℕ
w_in s (Epoch number) = 0
w_in s (Opened session app) = 0
w_in s (Closed session) = 0
w_in s (Update session w job txn op) = if session == s then w else 0
w_in s (Commit session w job txn) = if session == s then w else 0
w_in s (Rollback session w job txn) = if session == s then w else 0

-- the greatest running number, where n was the greatest before
abbrev pub count_from : ℕ → List Entry → ℕ → ℕ
count_from n [] s = n
count_from n (e ∷ es) s = count_from (max n (w_in s e)) es s

-- the greatest running number of a session's items, or 0
abbrev pub count : List Entry → ℕ → ℕ
count es s = count_from 0 es s

-- whether a session is live after an entry, where it was live before or not
abbrev pub live_after : Bool → Entry → ℕ → Bool
live_after b (Epoch number) s = b
live_after b (Opened session app) s = if session == s then true else b
live_after b (Closed session) s = if session == s then false else b
live_after b (Update session w job txn op) s = b
live_after b (Commit session w job txn) s = b
live_after b (Rollback session w job txn) s = b

-- the same after several
abbrev pub live_from : Bool → List Entry → ℕ → Bool
live_from b [] s = b
live_from b (e ∷ es) s = live_from (live_after b e s) es s

-- a session is opened and not closed after that
abbrev pub live : List Entry → ℕ → Bool
live es s = live_from false es s

-- a session that is there, but for the one that is closed
abbrev pub unless_closed : ℕ → Option ℕ → Option ℕ
unless_closed session None = None
unless_closed session (Some s) = if s == session then None else Some s

-- the live session of an application server after an entry, where it had this or none before
abbrev pub live_session_after : Option ℕ → Entry → ℕ → Option ℕ
live_session_after o (Epoch number) a = o
live_session_after o (Opened session app) a = if app == a then Some session else o
live_session_after o (Closed session) a = unless_closed session o
live_session_after o (Update session w job txn op) a = o
live_session_after o (Commit session w job txn) a = o
live_session_after o (Rollback session w job txn) a = o

-- the same after several
abbrev pub live_session_from : Option ℕ → List Entry → ℕ → Option ℕ
live_session_from o [] a = o
live_session_from o (e ∷ es) a = live_session_from (live_session_after o e a) es a

-- the live session of an application server, if it has one
abbrev pub live_session : List Entry → ℕ → Option ℕ
live_session es a = live_session_from None es a

-- the number of an entry that is an Epoch, else the number before
abbrev pub epoch_after : ℕ → Entry → ℕ
epoch_after n (Epoch number) = number
epoch_after n (Opened session app) = n
epoch_after n (Closed session) = n
epoch_after n (Update session w job txn op) = n
epoch_after n (Commit session w job txn) = n
epoch_after n (Rollback session w job txn) = n

-- the same after several
abbrev pub epoch_from : ℕ → List Entry → ℕ
epoch_from n [] = n
epoch_from n (e ∷ es) = epoch_from (epoch_after n e) es

-- the number of the newest Epoch, or 0
abbrev pub last_epoch : List Entry → ℕ
last_epoch es = epoch_from 0 es

-- whether an entry is the Close of a session
abbrev pub closes : ℕ → Entry → Bool
closes s (Epoch number) = false
closes s (Opened session app) = false
closes s (Closed session) = session == s
closes s (Update session w job txn op) = false
closes s (Commit session w job txn) = false
closes s (Rollback session w job txn) = false

-- a Close of the session stands among the first d entries
abbrev pub closed_by : List Entry → ℕ → ℕ → Bool
closed_by es s d = list_any (closes s) (take d es)
