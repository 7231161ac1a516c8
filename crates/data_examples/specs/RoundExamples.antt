-- Examples of a start with a live session, of its round, and of ticks; and of inputs that are refused since one condition fails: it is named above each.
use Rattle.std.specs.Prelude.{List, [], ◌∷◌, Some, None, replicate, set}
use Rattle.plain_orders.specs.declared.mode.Mode.TheVariants.{Exclusive}
use Rattle.plain_orders.specs.declared.act.Act.TheVariants.{Enter, Synced, Shut, Release, Back, Broke}
use Rattle.plain_orders.specs.declared.causes.PairEnd.TheVariants.{Server}
use Rattle.plain_orders.specs.declared.causes.ShutCause.TheVariants as shuts
use Rattle.plain_orders.specs.declared.entry.Entry.{Entry}
use Rattle.plain_orders.specs.declared.entry.Entry.TheVariants.{Epoch, Opened, Closed, Update}
use Rattle.plain_orders.specs.declared.op.Op.TheVariants.{Set}
use Rattle.link_states.specs.declared.data_link.DataLink.{DataLink}
use Rattle.link_states.specs.declared.data_link.DataLink.TheVariants.{Free, Normal, Trouble, Recovering}
use Rattle.ecp_messages.specs.declared.down.Down.TheVariants.{Welcome, Reset, Normal as IsNormal}
use Rattle.ecp_messages.specs.declared.up.Up.TheVariants.{Hello, Recover, Claim, Done}
use Rattle.end_words.specs.Windows.{fresh}
use Rattle.data_rules.specs.declared.limits.TheConstants.{APP_LIMIT}
use Rattle.data_rules.specs.declared.data_in.DataIn.TheVariants.{Frame, Tick, Saved}
use Rattle.data_rules.specs.declared.rows.Role.TheVariants.{New, Waiting, Bound, Closing}
use Rattle.data_rules.specs.declared.rows.Says.TheVariants.{NewWelcome, EpochWelcome, ResetOf}
use Rattle.data_rules.specs.DataState.{DataState}
use Rattle.lock_table.specs.LockWords.{no_locks}
use Rattle.data_rules.specs.Puts.{Sofar, begun, no_outs, frame_on}
use Rattle.data_rules.specs.Messages.{TakesClaim, TakesDone}
use Rattle.data_rules.specs.Step.{DataStep, DataStart}
use Rattle.data_examples.specs.Servers.{times, up, outs, head, window_at, x_key, welcomed, fetched, set_x}
use Rattle.data_examples.specs.ItemExamples.{x_set}
use Rattle.data_examples.specs.ResumeExamples.{broken}

-- what the journal holds: a session is open, and set ^x
abbrev pub journal : List Entry
journal = Epoch 1 ∷ Opened 2 1 ∷ Update 2 1 0 0 (Set x_key (53 ∷ [])) ∷ []

-- the ends of the application servers, where the first has none and the second is in this state
abbrev pub second : DataLink → List DataLink
second link = set (replicate APP_LIMIT Free) 1 link

-- data server 0 started from it at the moment 10
abbrev pub restarted : DataState
restarted =
    record {
      server = 0;
      times = times;
      order = Epoch 1 ∷ Opened 2 1 ∷ Update 2 1 0 0 (Set x_key (53 ∷ [])) ∷ Epoch 2 ∷ [];
      synced = 3;
      links = second (Recovering 70);
      dials = replicate APP_LIMIT 0;
      conns = [];
      callers = [];
      windows = [];
      locks = no_locks;
      noted = [];
      round = Some (record { awaited = 2 ∷ []; due = 70 });
      replies = [];
    }

-- connection 3 was accepted
abbrev pub reached : DataState
reached = record restarted { conns = record { number = 3; role = New } ∷ [] }

-- the session came back on it, and its Welcome waits for the Epoch
abbrev pub returned : DataState
returned =
    record restarted {
      dials = set (replicate APP_LIMIT 0) 1 3;
      conns = record { number = 3; role = Bound 2 } ∷ [];
      windows = record { session = 2; window = fresh } ∷ [];
      replies = record { at = 4; says = EpochWelcome 3 2 3 } ∷ [];
    }

-- connection 4 was accepted then
abbrev pub reached_again : DataState
reached_again = record returned { conns = record { number = 3; role = Bound 2 } ∷ record { number = 4; role = New } ∷ [] }

-- the Epoch is saved
abbrev pub told : DataState
told = record returned { synced = 4; replies = [] }

-- job 0 claimed ^x, which it holds twice
abbrev pub claimed_x : DataState
claimed_x =
    record told {
      windows = window_at 2 0 [] 1 1 ∷ [];
      locks = record no_locks { holds = record { who = record { session = 2; job = 0 }; name = x_key; mode = Exclusive; count = 2; at = 3 } ∷ [] };
    }

-- the round is over
abbrev pub back : DataState
back =
    record claimed_x {
      links = second Normal;
      windows = window_at 2 0 (IsNormal (head 4 1 1) ∷ []) 2 0 ∷ [];
      round = None;
    }

-- connection 4 was accepted in the round
abbrev pub called : DataState
called = record claimed_x { conns = record { number = 3; role = Bound 2 } ∷ record { number = 4; role = New } ∷ [] }

-- the Hello of application server 0 came on it, and waits
abbrev pub called_on : DataState
called_on =
    record called {
      dials = set (set (replicate APP_LIMIT 0) 1 3) 0 1;
      conns = record { number = 3; role = Bound 2 } ∷ record { number = 4; role = Waiting } ∷ [];
      callers = record { conn = 4; app = 0 } ∷ [];
    }

-- the round was over with it
abbrev pub back_with : DataState
back_with =
    record called_on {
      order = Epoch 1 ∷ Opened 2 1 ∷ Update 2 1 0 0 (Set x_key (53 ∷ [])) ∷ Epoch 2 ∷ Opened 5 0 ∷ [];
      links = set (second Normal) 0 Normal;
      conns = record { number = 3; role = Bound 2 } ∷ record { number = 4; role = Bound 5 } ∷ [];
      callers = [];
      windows = window_at 2 0 (IsNormal (head 4 1 1) ∷ []) 2 0 ∷ record { session = 5; window = fresh } ∷ [];
      round = None;
      replies = record { at = 5; says = NewWelcome 4 5 } ∷ [];
    }

-- the session was not done when the round was due: it is closed, and its connection waits for its Reset
abbrev pub overdue : DataState
overdue =
    record told {
      order = Epoch 1 ∷ Opened 2 1 ∷ Update 2 1 0 0 (Set x_key (53 ∷ [])) ∷ Epoch 2 ∷ Closed 2 ∷ [];
      links = second Free;
      conns = record { number = 3; role = Closing 2 } ∷ [];
      windows = [];
      round = Some (record { awaited = []; due = 70 });
      replies = record { at = 5; says = ResetOf 3 2 5 } ∷ [];
    }

-- the session is done and its connection ended, and the round is to end
abbrev pub away : DataState
away = record told { conns = []; round = Some (record { awaited = []; due = 70 }) }

-- a start and its round
abbrev pub RoundExamples : Type 0
RoundExamples =
    DataStart 0 times journal 10 no_outs restarted
    -- a Recover
    × DataStep reached 20 (Frame 3 (up 0 0 (Recover 1 2 1 0 3))) (outs [] [] []) returned
    -- once more before its Welcome left, on a newer connection: the older one is cut, and its Welcome with it
    × DataStep reached_again 20 (Frame 4 (up 0 0 (Recover 1 2 1 0 4)))
    (outs [] (3 ∷ []) [])
    (record returned {
      dials = set (replicate APP_LIMIT 0) 1 4;
      conns = record { number = 4; role = Bound 2 } ∷ [];
      replies = record { at = 4; says = EpochWelcome 4 2 3 } ∷ [];
    })
    -- the Epoch is saved: the Welcome leaves
    × DataStep returned 20 (Saved 4) (outs (frame_on 3 0 0 (Welcome 2 2 3 (head 4 1 1) 0) ∷ []) [] (Synced 0 4 ∷ [])) told
    -- a Claim
    × DataStep told 20 (Frame 3 (up 1 0 (Claim 0 Exclusive 2 3 x_key))) (outs [] [] []) claimed_x
    -- alone: another job holds it
    × ((c : Sofar) → TakesClaim (begun claimed_x) 2 1 Exclusive 1 3 x_key c → ⊥)
    × DataStep claimed_x 20 (Frame 3 (up 2 0 (Claim 1 Exclusive 1 3 x_key))) (outs [] (3 ∷ []) []) (record claimed_x { conns = [] })
    -- awaited
    × ((c : Sofar) → TakesClaim (begun welcomed) 2 1 Exclusive 1 2 x_key c → ⊥)
    × ((c : Sofar) → TakesDone (begun welcomed) 2 c → ⊥)
    × DataStep welcomed 20 (Frame 7 (up 1 0 Done)) (outs [] (7 ∷ []) (Broke 1 0 Server 20 ∷ [])) (record welcomed { conns = []; links = second (Trouble 20) })
    -- an item that stands, sent again, and one that doesn't
    × DataStep claimed_x 20 (Frame 3 (up 2 0 (set_x 1))) (outs [] [] []) (record claimed_x { windows = window_at 2 0 [] 2 2 ∷ [] })
    × DataStep claimed_x 20 (Frame 3 (up 2 0 (set_x 2))) (outs [] [] (Enter 0 (x_set 2) ∷ []))
    (record claimed_x {
      order = Epoch 1 ∷ Opened 2 1 ∷ x_set 1 ∷ Epoch 2 ∷ x_set 2 ∷ [];
      windows = window_at 2 0 [] 2 2 ∷ [];
    })
    -- Done: the round is over
    × DataStep claimed_x 20 (Frame 3 (up 2 0 Done)) (outs (frame_on 3 1 2 (IsNormal (head 4 1 1)) ∷ []) [] (Back 0 ∷ [])) back
    -- a Hello waits for that, and its session opens then
    × DataStep called 20 (Frame 4 (up 0 0 (Hello 0 1))) (outs [] [] []) called_on
    × DataStep called_on 20 (Frame 3 (up 2 0 Done)) (outs (frame_on 3 1 2 (IsNormal (head 4 1 1)) ∷ []) [] (Back 0 ∷ Enter 0 (Opened 5 0) ∷ [])) back_with

-- ticks
abbrev pub TickExamples : Type 0
TickExamples =
    -- the round isn't due
    DataStep told 69 Tick (outs [] [] []) told
    -- it is
    × DataStep told 70 Tick (outs [] [] (Shut 0 2 (shuts.Round 70) ∷ [])) overdue
    -- a Reset leaves once the Close is saved, and the round is over
    × DataStep overdue 71 (Saved 5) (outs (frame_on 3 0 0 (Reset 2 5) ∷ []) [] (Synced 0 5 ∷ Release 0 2 ∷ Back 0 ∷ []))
    (record overdue { synced = 5; round = None; replies = [] })
    -- the round ends for a session that isn't connected
    × DataStep away 71 (Saved 4) (outs [] [] (Back 0 ∷ Broke 1 0 Server 71 ∷ []))
    (record away { links = second (Trouble 71); windows = window_at 2 0 (IsNormal (head 4 1 1) ∷ []) 0 0 ∷ []; round = None })
    -- an end that is broken for less than the time, and for the time
    × DataStep broken 62 Tick (outs [] [] []) broken
    × DataStep broken 63 Tick (outs [] [] (Shut 0 2 (shuts.Trouble 63) ∷ []))
    (record broken { order = Epoch 1 ∷ Opened 2 1 ∷ Closed 2 ∷ []; links = second Free; windows = []; noted = [] })
    -- an end that isn't
    × DataStep fetched 1000 Tick (outs [] [] []) fetched
