-- Examples of locks that are asked for, given up and cancelled.
use Rattle.std.specs.Prelude.{ℕ, List, [], ◌∷◌}
use Rattle.plain_orders.specs.declared.mode.Mode.TheVariants.{Exclusive}
use Rattle.plain_orders.specs.declared.act.Act.TheVariants.{Synced, Grant, Free}
use Rattle.ecp_messages.specs.declared.down.Down.TheVariants.{Ack, Grant as Granted, Bare}
use Rattle.ecp_messages.specs.declared.up.Up.TheVariants.{Ask, Unlock, Cancel}
use Rattle.data_rules.specs.declared.data_in.DataIn.TheVariants.{Frame, Saved}
use Rattle.lock_table.specs.declared.rows.Hold.{Hold}
use Rattle.lock_table.specs.declared.rows.Request.{Request}
use Rattle.data_rules.specs.declared.rows.Says.TheVariants.{GrantOf}
use Rattle.data_rules.specs.DataState.{DataState}
use Rattle.data_rules.specs.Puts.{frame_on}
use Rattle.data_rules.specs.Step.{DataStep}
use Rattle.data_examples.specs.Servers.{up, outs, head, window_at, welcomed, updated}

-- the lock ^a
abbrev pub a_key : List ℕ
a_key = 97 ∷ 0 ∷ []

-- a request of a job of session 2 for it
abbrev pub asks : ℕ → ℕ → Request
asks job ticket = record { who = record { session = 2; job = job }; ticket = ticket; name = a_key; mode = Exclusive }

-- a job of session 2 holds it
abbrev pub holds : ℕ → ℕ → ℕ → Hold
holds job count at = record { who = record { session = 2; job = job }; name = a_key; mode = Exclusive; count = count; at = at }

-- job 0 asked for it and was granted it
abbrev pub held : DataState
held =
    record welcomed {
      windows = window_at 2 0 (Granted (head 2 0 0) 1 2 ∷ []) 1 0 ∷ [];
      locks = record { holds = holds 0 1 2 ∷ []; requests = []; granted = asks 0 1 ∷ [] };
    }

-- job 1 asked for it then, and waits
abbrev pub waiting : DataState
waiting =
    record held {
      windows = window_at 2 1 [] 2 1 ∷ [];
      locks = record { holds = holds 0 1 2 ∷ []; requests = asks 1 2 ∷ []; granted = asks 0 1 ∷ [] };
    }

-- job 0 gave it up, and job 1 was granted it
abbrev pub handed : DataState
handed =
    record waiting {
      windows = window_at 2 1 (Granted (head 2 0 0) 2 2 ∷ []) 3 0 ∷ [];
      locks = record { holds = holds 1 1 2 ∷ []; requests = []; granted = asks 0 1 ∷ asks 1 2 ∷ [] };
    }

-- it was granted where the list is not synced
abbrev pub gated : DataState
gated =
    record updated {
      windows = window_at 2 2 [] 3 1 ∷ [];
      locks = record { holds = holds 0 1 3 ∷ []; requests = []; granted = asks 0 1 ∷ [] };
      replies = record { at = 3; says = GrantOf 2 1 3 } ∷ [];
    }

-- so many messages were taken since a frame was put
abbrev pub since : ℕ → DataState
since n = record waiting { windows = window_at 2 1 [] 70 n ∷ [] }

-- a lock is asked for
abbrev pub AskExamples : Type 0
AskExamples =
    DataStep welcomed 0 (Frame 7 (up 1 0 (Ask 1 0 Exclusive a_key)))
    (outs (frame_on 7 1 1 (Granted (head 2 0 0) 1 2) ∷ []) [] (Grant 0 2 0 Exclusive a_key 2 ∷ [])) held
    -- it conflicts with a hold
    × DataStep held 0 (Frame 7 (up 2 1 (Ask 2 1 Exclusive a_key))) (outs [] [] []) waiting
    -- it conflicts with an earlier request, but the asker has a hold of the very name
    × DataStep waiting 0 (Frame 7 (up 3 1 (Ask 3 0 Exclusive a_key)))
    (outs (frame_on 7 2 3 (Granted (head 2 0 0) 3 2) ∷ []) [] (Grant 0 2 0 Exclusive a_key 2 ∷ []))
    (record waiting {
      windows = window_at 2 1 (Granted (head 2 0 0) 3 2 ∷ []) 3 0 ∷ [];
      locks = record { holds = holds 0 2 2 ∷ []; requests = asks 1 2 ∷ []; granted = asks 0 1 ∷ asks 0 3 ∷ [] };
    })
    -- its Grant waits for the save, and leaves before the Ack
    × DataStep updated 0 (Frame 7 (up 3 2 (Ask 1 0 Exclusive a_key))) (outs [] [] (Grant 0 2 0 Exclusive a_key 3 ∷ [])) gated
    × DataStep gated 0 (Saved 3) (outs (frame_on 7 3 3 (Granted (head 3 1 1) 1 3) ∷ frame_on 7 4 3 (Ack (head 3 1 1)) ∷ []) [] (Synced 0 3 ∷ []))
    (record gated { synced = 3; windows = window_at 2 2 (Granted (head 3 1 1) 1 3 ∷ Ack (head 3 1 1) ∷ []) 3 0 ∷ []; replies = [] })

-- a lock is given up or cancelled
abbrev pub FreeExamples : Type 0
FreeExamples =
    DataStep waiting 0 (Frame 7 (up 3 1 (Unlock 0 Exclusive a_key)))
    (outs (frame_on 7 2 3 (Granted (head 2 0 0) 2 2) ∷ []) [] (Free 0 2 0 Exclusive a_key ∷ Grant 0 2 1 Exclusive a_key 2 ∷ [])) handed
    -- it isn't held
    × DataStep waiting 0 (Frame 7 (up 3 1 (Unlock 1 Exclusive a_key))) (outs [] [] []) (record waiting { windows = window_at 2 1 [] 3 2 ∷ [] })
    -- a request that waits is cancelled
    × DataStep waiting 0 (Frame 7 (up 3 1 (Cancel 2))) (outs [] [] (Free 0 2 1 Exclusive a_key ∷ []))
    (record waiting {
      windows = window_at 2 1 [] 3 2 ∷ [];
      locks = record { holds = holds 0 1 2 ∷ []; requests = []; granted = asks 0 1 ∷ [] };
    })
    -- a Cancel comes after the Grant left
    × DataStep handed 0 (Frame 7 (up 4 1 (Cancel 2))) (outs [] [] (Free 0 2 1 Exclusive a_key ∷ []))
    (record handed {
      windows = window_at 2 1 (Granted (head 2 0 0) 2 2 ∷ []) 4 1 ∷ [];
      locks = record { holds = []; requests = []; granted = asks 0 1 ∷ [] };
    })
    -- a ticket whose hold is gone
    × DataStep handed 0 (Frame 7 (up 4 1 (Cancel 1))) (outs [] [] [])
    (record handed {
      windows = window_at 2 1 (Granted (head 2 0 0) 2 2 ∷ []) 4 1 ∷ [];
      locks = record { holds = holds 1 1 2 ∷ []; requests = []; granted = asks 1 2 ∷ [] };
    })
    -- no such ticket; the sixty-fourth message without a frame is acknowledged by itself, and none before
    × DataStep (since 62) 0 (Frame 7 (up 71 1 (Cancel 9))) (outs [] [] []) (record waiting { windows = window_at 2 1 [] 71 63 ∷ [] })
    × DataStep (since 63) 0 (Frame 7 (up 71 1 (Cancel 9))) (outs (frame_on 7 0 71 Bare ∷ []) [] []) (record waiting { windows = window_at 2 1 [] 71 0 ∷ [] })
