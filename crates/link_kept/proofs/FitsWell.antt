-- What has to be known of the sessions that a small change of a data server's step puts to and takes from, beside what its node has.
use Rattle.std.proofs.Common.{◌≡◌, ℕ, ◌+◌, Bool, true, false, length, None, ◌∙◌, ap}
use Rattle.std.specs.Prelude.{⊤}
use Rattle.plain_orders.specs.declared.causes.ShutCause.{ShutCause}
use Rattle.plain_orders.specs.declared.causes.ShutCause.TheVariants.{Trouble, Replaced, Round}
use Rattle.plain_orders.specs.Entries.{live}
use Rattle.plain_orders.specs.ItemEntries.{is_item_of}
use Rattle.ecp_messages.specs.declared.up.Up.{Up}
use Rattle.ecp_messages.specs.declared.up.Up.TheVariants as up
use Rattle.lock_table.specs.LockWords.{without_request}
use Rattle.data_rules.specs.declared.data_in.DataIn.{DataIn}
use Rattle.data_rules.specs.declared.data_in.DataIn.TheVariants as data_in
use Rattle.data_rules.specs.Puts.{Sofar}
use Rattle.cluster_runs.specs.Sent.{Lane}
use Rattle.cluster_invariant.proofs.PieceKinds.{LockCall, Asks, Unlocks, Withdraws, GivesBack, ForgetsTicket, Claims, Cancels, Releases, Piece, Accepts, Forgets, Breaks, Dials, Waits, Opens, OpensNext, Resumes, GoesOn, ComesAgain, AwaitsReset, Closes, Acknowledges, Takes, TakesDone, Enters, Fetches, PutsNormal, PutsAck, Replies, Leaves, Bares, Locks, RoundEnds, Ticks}
use Rattle.cluster_invariant.proofs.PieceMay.{Coming, Asked, ClosesBy}
use Rattle.link_kept.proofs.LockWaits.{IsAlone}
use Rattle.link_kept.proofs.LockSessions.{RequestsOf}
use Rattle.link_kept.proofs.WindowsGo.{Served}
use Rattle.link_kept.proofs.WindowPieces.{SaysServed, ComesWell, TakesWell}
use Rattle.link_kept.proofs.ServesGo.{MayAsk}

-- which inputs may close a session

abbrev pub is_hello : Up → Bool
is_hello (up.Hello app dial) = true
is_hello (up.Recover app s epoch taken dial) = false
is_hello (up.Update w job txn op) = false
is_hello (up.Add w job key amount) = false
is_hello (up.Fetch key) = false
is_hello (up.Ask ticket job mode key) = false
is_hello (up.Unlock job mode key) = false
is_hello (up.Cancel ticket) = false
is_hello (up.Commit w job txn wanted) = false
is_hello (up.Rollback w job txn) = false
is_hello (up.Sync ticket) = false
is_hello up.Done = false
is_hello (up.Claim job mode number at key) = false
is_hello up.Bare = false

-- a tick or a Hello
abbrev pub may_close : DataIn → Bool
may_close (data_in.Frame conn f) = is_hello f.message
may_close (data_in.Connected conn) = false
may_close (data_in.Broken conn) = false
may_close data_in.Tick = true
may_close (data_in.Saved upto) = false

pub closes_may : (t : Coming) (s app : ℕ) (cause : ShutCause) (b : Sofar) → ClosesBy t s app cause b → may_close t.input ≡ true
closes_may t s app (Trouble time) b why = ap may_close why.came
closes_may t s app Replaced b why = ap may_close why.came.its ∙ ap is_hello why.came.says
closes_may t s app (Round time) b why = ap may_close why.came

pub asked_still : (t : Coming) (s : ℕ) (m : Up) (b : Sofar) → is_hello m ≡ false → Asked t s m b → may_close t.input ≡ false
asked_still t s m b still asks = ap may_close asks.its.on.came ∙ ap is_hello asks.says ∙ still

-- What has to be known of the sessions of a call of the table of locks.
abbrev pub CallsWell : (ℕ → Lane) → LockCall → Sofar → Type 0
CallsWell lane_of (Asks r) b = Served lane_of b.state.order r.who.session × IsAlone r.who b.state.locks.requests
CallsWell lane_of (Unlocks who mode key) b = ⊤
CallsWell lane_of (Withdraws r session ticket) b = ⊤
CallsWell lane_of (GivesBack r) b = ⊤
CallsWell lane_of (ForgetsTicket r) b = ⊤
CallsWell lane_of (Claims who key mode number at) b = MayAsk lane_of false b.state.order who.session × IsAlone who b.state.locks.requests
CallsWell lane_of (Cancels r) b =
    RequestsOf (λ s. live b.state.order s ≡ true) (without_request b.state.locks r.who.session r.ticket (length b.state.order)).grants
CallsWell lane_of (Releases session) b = ⊤

-- What has to be known of what a small change puts to and takes from sessions, beside what a node has.
abbrev pub FitsWell : (ℕ → Lane) → Piece → Sofar → Type 0
FitsWell lane_of (Accepts conn) b = ⊤
FitsWell lane_of (Forgets ending conn) b = ⊤
FitsWell lane_of (Breaks ending conn session app) b = ⊤
FitsWell lane_of (Dials app dial) b = ⊤
FitsWell lane_of (Waits app conn) b = ⊤
FitsWell lane_of (Opens app conn) b = (lane_of (length b.state.order + 1)).began ≡ None
FitsWell lane_of (OpensNext app conn) b = (lane_of (length b.state.order + 1)).began ≡ None
FitsWell lane_of (Resumes app session conn) b = ⊤
FitsWell lane_of (GoesOn session conn taken) b = ⊤
FitsWell lane_of (ComesAgain session conn kept) b = (lane_of session).began ≡ None
FitsWell lane_of (AwaitsReset session conn at) b = ⊤
FitsWell lane_of (Closes session app cause) b = ⊤
FitsWell lane_of (Acknowledges conn session f) b = ComesWell lane_of session f.ack b
FitsWell lane_of (Takes conn session f) b = TakesWell lane_of session f.ack b
FitsWell lane_of (TakesDone conn session f) b = TakesWell lane_of session f.ack b
FitsWell lane_of (Enters e) b = (s : ℕ) → (lane_of s).began ≡ None → is_item_of s e ≡ false
FitsWell lane_of (Fetches session run block) b = Served lane_of b.state.order session
FitsWell lane_of (PutsNormal app session) b = Served lane_of b.state.order session
FitsWell lane_of (PutsAck session) b = Served lane_of b.state.order session
FitsWell lane_of (Replies at says) b = SaysServed lane_of b.state.order says
FitsWell lane_of (Leaves before r behind) b = ⊤
FitsWell lane_of (Bares session conn) b = live b.state.order session ≡ true
FitsWell lane_of (Locks call) b = CallsWell lane_of call b
FitsWell lane_of RoundEnds b = ⊤
FitsWell lane_of (Ticks app session) b = ⊤
