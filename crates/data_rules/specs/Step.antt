-- What a step of a data server makes.
use Rattle.std.specs.Prelude.{◌≡◌, ◌≤◌, ℕ, false, ◌+◌, List, [], ◌∷◌, ◌++◌, length, Option, Some, None, replicate, is_some, ⊤}
use Rattle.plain_orders.specs.declared.entry.Entry.{Entry}
use Rattle.plain_orders.specs.declared.entry.Entry.TheVariants.{Epoch}
use Rattle.plain_orders.specs.declared.layout.Times.{Times}
use Rattle.plain_orders.specs.Entries.{last_epoch}
use Rattle.plain_orders.specs.Sessions.{live_sessions}
use Rattle.plain_orders.specs.Ordered.{IsOrdered}
use Rattle.plain_orders.specs.declared.limits.TheConstants.{START_EPOCH_LIMIT}
use Rattle.link_states.specs.declared.data_link.DataLink.TheVariants.{Free, Recovering}
use Rattle.plain_orders.specs.Times.{until}
use Rattle.ecp_messages.specs.declared.up.UpFrame.{UpFrame}
use Rattle.ecp_messages.specs.Ups.{IsUpFrame}
use Rattle.data_rules.specs.declared.data_in.DataIn.{DataIn}
use Rattle.data_rules.specs.declared.data_in.DataIn.TheVariants.{Frame, Connected, Broken, Tick, Saved}
use Rattle.data_rules.specs.declared.data_outs.DataOuts.{DataOuts}
use Rattle.data_rules.specs.declared.limits.TheConstants.{APP_LIMIT}
use Rattle.data_rules.specs.declared.rows.LiveEnd.{LiveEnd}
use Rattle.data_rules.specs.DataState.{DataState}
use Rattle.lock_table.specs.LockWords.{no_locks}
use Rattle.recovery_round.specs.RoundWords.{Round}
use Rattle.data_rules.specs.Puts.{Sofar, begun, becomes}
use Rattle.data_rules.specs.Conns.{role_of, with_conn, with_link, leaves_conn}
use Rattle.data_rules.specs.Opening.{live_ends}
use Rattle.data_rules.specs.Frames.{TakesFrame, settled}
use Rattle.data_rules.specs.Saving.{part_saved, closed_in, savers, saves, ticks_all}

-- the state and the outputs of a step as one
abbrev pub made : DataState → DataOuts → Sofar
made new outs = record { state = new; outs = outs }

-- a frame, and what follows each
pub record FrameStep (b : Sofar) (now conn : ℕ) (up : UpFrame) (c : Sofar) : Type 0 where
  pub taken : Sofar
  pub takes : TakesFrame (role_of b.state conn) b conn now up taken
  pub after : c ≡ settled conn now taken

-- a save
abbrev pub saved : ℕ → ℕ → Sofar → Sofar
saved upto now b = saves (closed_in (part_saved b.state upto)) (savers b.state.order (part_saved b.state upto)) upto now b

-- What an input makes of the state and the outputs so far.
abbrev pub Makes : Sofar → ℕ → DataIn → Sofar → Type 0
Makes b now (Frame conn up) c = FrameStep b now conn up c
Makes b now (Connected conn) c = c ≡ becomes (with_conn conn) b
Makes b now (Broken conn) c = c ≡ leaves_conn conn now b
Makes b now Tick c = c ≡ ticks_all now b
Makes b now (Saved upto) c = c ≡ saved upto now b

-- What a step makes: from no outputs to those of the step.
abbrev pub DataStep : DataState → ℕ → DataIn → DataOuts → DataState → Type 0
DataStep old now input outs new = Makes (begun old) now input (made new outs)

-- a save names a number from the synced number to the length
pub record SavedMay (d : DataState) (upto : ℕ) : Type 0 where
  pub no_less : d.synced ≤ upto
  pub within : upto ≤ length d.order

-- What a step needs.
abbrev pub DataMay : DataState → DataIn → Type 0
DataMay d (Frame conn up) = IsUpFrame up
DataMay d (Connected conn) = is_some (role_of d conn) ≡ false
DataMay d (Broken conn) = ⊤
DataMay d Tick = ⊤
DataMay d (Saved upto) = SavedMay d upto

-- these ends await their sessions
abbrev pub recovering : List LiveEnd → ℕ → DataState → DataState
recovering [] due d = d
recovering (x ∷ xs) due d = recovering xs due (with_link x.app (Recovering due) d)

-- a round where a session is live
abbrev pub round_of : List ℕ → ℕ → Option Round
round_of [] due = None
round_of (session ∷ sessions) due = Some (record { awaited = session ∷ sessions; due = due })

-- a data server without connections and sessions, with the next Epoch at the end of what its journal held
abbrev pub with_epoch : ℕ → Times → List Entry → DataState
with_epoch server times entries =
    record {
      server = server;
      times = times;
      order = entries ++ Epoch (last_epoch entries + 1) ∷ [];
      synced = length entries;
      links = replicate APP_LIMIT Free;
      dials = replicate APP_LIMIT 0;
      conns = [];
      callers = [];
      windows = [];
      locks = no_locks;
      noted = [];
      round = None;
      replies = [];
    }

-- a data server that starts: it enters the next Epoch, and a round begins where a session is live
abbrev pub started : ℕ → Times → List Entry → ℕ → DataState
started server times entries now =
    record (recovering (live_ends entries) (until now times.round) (with_epoch server times entries)) {
      round = round_of (live_sessions entries) (until now times.round);
    }

-- What a start needs: what the journal held is an ordered list or nothing, with no epoch above that from which a server starts.
pub record StartMay (entries : List Entry) : Type 0 where
  pub ordered : IsOrdered entries
  pub low : last_epoch entries ≤ START_EPOCH_LIMIT

-- What a start makes: it puts nothing and writes nothing.
abbrev pub DataStart : ℕ → Times → List Entry → ℕ → DataOuts → DataState → Type 0
DataStart server times entries now outs new = made new outs ≡ begun (started server times entries now)
