-- Examples of a connection that ends and of a Recover in the same epoch; and of inputs that are refused since one condition fails: it is named above each.
use Rattle.std.specs.Prelude.{[], ◌∷◌, replicate, set}
use Rattle.plain_orders.specs.declared.act.Act.TheVariants.{Synced, Broke, Release}
use Rattle.plain_orders.specs.declared.causes.PairEnd.TheVariants.{Server}
use Rattle.link_states.specs.declared.data_link.DataLink.TheVariants.{Free, Normal, Trouble}
use Rattle.ecp_messages.specs.declared.down.Down.TheVariants.{Welcome, Reset, Block}
use Rattle.ecp_messages.specs.declared.up.Up.TheVariants.{Recover, Done}
use Rattle.data_rules.specs.declared.limits.TheConstants.{APP_LIMIT}
use Rattle.data_rules.specs.declared.data_in.DataIn.TheVariants.{Frame, Connected, Broken, Saved}
use Rattle.data_rules.specs.declared.rows.Role.TheVariants.{New, Bound, Closing}
use Rattle.data_rules.specs.declared.rows.Says.TheVariants.{NewWelcome, ResetOf}
use Rattle.data_rules.specs.DataState.{DataState}
use Rattle.data_rules.specs.Puts.{Sofar, begun, frame_on}
use Rattle.data_rules.specs.Callers.{TakesRecover, TakesResume, TakesReturn, TakesGone}
use Rattle.data_rules.specs.Step.{DataStep}
use Rattle.data_examples.specs.Servers.{up, outs, head, whole_block, fetched}
use Rattle.data_examples.specs.HelloExamples.{replaced}

-- the connection of the session that fetched ^x ended at the moment 3
abbrev pub broken : DataState
broken = record fetched { conns = []; links = set (replicate APP_LIMIT Free) 1 (Trouble 3) }

-- connection 8 was accepted then
abbrev pub accepted_again : DataState
accepted_again = record broken { conns = record { number = 8; role = New } ∷ [] }

-- the session goes on on connection 8
abbrev pub resumed : DataState
resumed =
    record fetched {
      conns = record { number = 8; role = Bound 2 } ∷ [];
      dials = set (replicate APP_LIMIT 0) 1 2;
      links = set (replicate APP_LIMIT Free) 1 Normal;
    }

-- connection 8 was accepted before connection 7 ended
abbrev pub accepted_early : DataState
accepted_early = record fetched { conns = record { number = 7; role = Bound 2 } ∷ record { number = 8; role = New } ∷ [] }

-- the session was closed, a new one has connection 8, and connection 9 was accepted
abbrev pub accepted_late : DataState
accepted_late = record replaced { conns = record { number = 8; role = Bound 4 } ∷ record { number = 9; role = New } ∷ [] }

-- connection 9 waits for the Reset of the closed session
abbrev pub given_up : DataState
given_up =
    record accepted_late {
      conns = record { number = 8; role = Bound 4 } ∷ record { number = 9; role = Closing 2 } ∷ [];
      dials = set (replicate APP_LIMIT 0) 1 3;
      replies = record { at = 4; says = NewWelcome 8 4 } ∷ record { at = 3; says = ResetOf 9 2 3 } ∷ [];
    }

-- a connection ends, and the session goes on on another
abbrev pub ResumeExamples : Type 0
ResumeExamples =
    -- the connection ends
    DataStep fetched 3 (Broken 7) (outs [] [] (Broke 1 0 Server 3 ∷ [])) broken
    × DataStep broken 3 (Connected 8) (outs [] [] []) accepted_again
    -- one that isn't there
    × DataStep fetched 3 (Broken 9) (outs [] [] []) fetched
    -- a Recover of an end that took nothing: the Block is sent again
    × DataStep accepted_again 5 (Frame 8 (up 0 0 (Recover 1 2 1 0 2)))
    (outs (frame_on 8 0 1 (Welcome 2 1 2 (head 2 0 0) 1) ∷ frame_on 8 1 1 (Block (head 2 0 0) whole_block) ∷ []) [] []) resumed
    -- of one that took it
    × DataStep accepted_again 5 (Frame 8 (up 0 1 (Recover 1 2 1 1 2))) (outs (frame_on 8 0 1 (Welcome 2 1 2 (head 2 0 0) 1) ∷ []) [] []) resumed
    -- of one that took more than was sent
    × DataStep accepted_again 5 (Frame 8 (up 0 2 (Recover 1 2 1 2 2))) (outs (frame_on 8 0 1 (Welcome 2 1 2 (head 2 0 0) 1) ∷ []) [] []) resumed
    -- the older connection is cut, without an act
    × DataStep accepted_early 5 (Frame 8 (up 0 1 (Recover 1 2 1 1 2))) (outs (frame_on 8 0 1 (Welcome 2 1 2 (head 2 0 0) 1) ∷ []) (7 ∷ []) []) resumed
    -- its: the session is another application server's
    × ((c : Sofar) → TakesRecover (begun accepted_again) 8 5 0 2 1 0 2 c → ⊥)
    × DataStep accepted_again 5 (Frame 8 (up 0 0 (Recover 0 2 1 0 2))) (outs [] (8 ∷ []) []) broken
    -- its: there is no such session
    × ((c : Sofar) → TakesRecover (begun accepted_again) 8 5 1 1 1 0 2 c → ⊥)
    -- later
    × ((c : Sofar) → TakesRecover (begun accepted_again) 8 5 1 2 1 0 0 c → ⊥)
    × DataStep accepted_again 5 (Frame 8 (up 0 0 (Recover 1 2 1 0 0))) (outs [] (8 ∷ []) []) broken
    -- the epoch isn't begun
    × ((c : Sofar) → TakesRecover (begun accepted_again) 8 5 1 2 2 0 2 c → ⊥)
    × DataStep accepted_again 5 (Frame 8 (up 0 0 (Recover 1 2 2 0 2))) (outs [] (8 ∷ []) []) broken
    -- same, older
    × ((c : Sofar) → TakesResume (begun accepted_again) 8 5 1 2 0 0 2 c → ⊥)
    × ((c : Sofar) → TakesReturn (begun accepted_again) 8 5 1 2 1 2 c → ⊥)
    -- is_closed
    × ((c : Sofar) → TakesGone (begun accepted_again) 8 1 2 1 2 c → ⊥)
    -- a later Hello or Recover ends its connection
    × DataStep resumed 5 (Frame 8 (up 0 0 (Recover 1 2 1 0 2))) (outs [] (8 ∷ []) (Broke 1 0 Server 5 ∷ []))
    (record resumed { conns = []; links = set (replicate APP_LIMIT Free) 1 (Trouble 5) })

-- a Recover of a closed session
abbrev pub GoneExamples : Type 0
GoneExamples =
    DataStep accepted_late 5 (Frame 9 (up 0 0 (Recover 1 2 1 0 3))) (outs [] [] []) given_up
    -- is_live
    × ((c : Sofar) → TakesResume (begun accepted_late) 9 5 1 2 1 0 3 c → ⊥)
    × ((c : Sofar) → TakesReturn (begun accepted_late) 9 5 1 2 0 3 c → ⊥)
    -- begun
    × ((c : Sofar) → TakesGone (begun accepted_late) 9 1 2 2 3 c → ⊥)
    × DataStep accepted_late 5 (Frame 9 (up 0 0 (Recover 1 2 2 0 3))) (outs [] (9 ∷ []) []) replaced
    -- what still comes on its connection changes nothing
    × DataStep given_up 5 (Frame 9 (up 1 7 Done)) (outs [] [] []) given_up
    -- its Close is saved: the locks go, the Reset leaves, and the Welcome waits for its own place
    × DataStep given_up 5 (Saved 3) (outs (frame_on 9 0 0 (Reset 2 3) ∷ []) [] (Synced 0 3 ∷ Release 0 2 ∷ []))
    (record given_up { synced = 3; replies = record { at = 4; says = NewWelcome 8 4 } ∷ [] })
    -- all is saved: both leave, in the order in which they were made
    × DataStep given_up 5 (Saved 4) (outs (frame_on 8 0 0 (Welcome 4 1 4 (head 4 0 0) 0) ∷ frame_on 9 0 0 (Reset 2 3) ∷ []) [] (Synced 0 4 ∷ Release 0 2 ∷ []))
    (record given_up { synced = 4; replies = [] })
