-- The sessions of a list of entries, and where its Epochs stand.
use Rattle.std.specs.Prelude.{ℕ, Bool, true, false, ◌==◌, ◌+◌, if◌then◌else◌, List, [], ◌∷◌, Option, Some, None, filter, nat_lt}
use Rattle.plain_orders.specs.declared.entry.Entry.{Entry}
use Rattle.plain_orders.specs.declared.entry.Entry.TheVariants.{Epoch, Opened, Closed, Update, Commit, Rollback}
use Rattle.plain_orders.specs.Entries.{live}

-- the sessions that were opened in a list, in its order
abbrev pub opened_sessions : List Entry → List ℕ
opened_sessions [] = []
opened_sessions (Epoch number ∷ es) = opened_sessions es
opened_sessions (Opened session app ∷ es) = session ∷ opened_sessions es
opened_sessions (Closed session ∷ es) = opened_sessions es
opened_sessions (Update session w job txn op ∷ es) = opened_sessions es
opened_sessions (Commit session w job txn ∷ es) = opened_sessions es
opened_sessions (Rollback session w job txn ∷ es) = opened_sessions es

-- those of them that are live
abbrev pub live_sessions : List Entry → List ℕ
live_sessions es = filter (live es) (opened_sessions es)

-- the application server of the session's Open, where it was this before
abbrev pub app_after : Option ℕ → Entry → ℕ → Option ℕ
app_after o (Epoch number) s = o
app_after o (Opened session app) s = if session == s then Some app else o
app_after o (Closed session) s = o
app_after o (Update session w job txn op) s = o
app_after o (Commit session w job txn) s = o
app_after o (Rollback session w job txn) s = o

-- the same after several
abbrev pub app_from : Option ℕ → List Entry → ℕ → Option ℕ
app_from o [] s = o
app_from o (e ∷ es) s = app_from (app_after o e s) es s

-- the application server of a session, by its Open
abbrev pub app_in : List Entry → ℕ → Option ℕ
app_in es s = app_from None es s

-- the entry is a Close
abbrev pub is_close : Entry → Bool
is_close (Epoch number) = false
is_close (Opened session app) = false
is_close (Closed session) = true
is_close (Update session w job txn op) = false
is_close (Commit session w job txn) = false
is_close (Rollback session w job txn) = false

-- how many entries stand before the first Epoch above n, those before being k
abbrev pub place_of_epoch : ℕ → ℕ → List Entry → Option ℕ
place_of_epoch n k [] = None
place_of_epoch n k (Epoch number ∷ es) = if nat_lt n number then Some k else place_of_epoch n (k + 1) es
place_of_epoch n k (Opened session app ∷ es) = place_of_epoch n (k + 1) es
place_of_epoch n k (Closed session ∷ es) = place_of_epoch n (k + 1) es
place_of_epoch n k (Update session w job txn op ∷ es) = place_of_epoch n (k + 1) es
place_of_epoch n k (Commit session w job txn ∷ es) = place_of_epoch n (k + 1) es
place_of_epoch n k (Rollback session w job txn ∷ es) = place_of_epoch n (k + 1) es
