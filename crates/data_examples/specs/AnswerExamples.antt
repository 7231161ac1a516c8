-- Examples of increments, Commits, Rollbacks and Syncs, and of their answers; and of inputs that are refused since one condition fails: it is named above each.
use Rattle.std.specs.Prelude.{ℕ, true, false, List, [], ◌∷◌, pos}
use Rattle.plain_orders.specs.declared.act.Act.TheVariants.{Enter, Synced}
use Rattle.plain_orders.specs.declared.entry.Entry.{Entry}
use Rattle.plain_orders.specs.declared.entry.Entry.TheVariants as entries
use Rattle.plain_orders.specs.declared.op.Op.TheVariants as ops
use Rattle.ecp_messages.specs.declared.about.About.TheVariants as about
use Rattle.ecp_messages.specs.declared.down.Down.TheVariants.{Drop, Ack, Answer}
use Rattle.ecp_messages.specs.declared.up.Up.TheVariants.{Add, Commit, Rollback, Sync}
use Rattle.data_rules.specs.declared.data_in.DataIn.TheVariants.{Frame, Saved}
use Rattle.data_rules.specs.declared.rows.Says.TheVariants.{AnswerOf}
use Rattle.data_rules.specs.DataState.{DataState}
use Rattle.data_rules.specs.Puts.{Sofar, begun, frame_on}
use Rattle.data_rules.specs.Messages.{TakesOwed}
use Rattle.data_rules.specs.Step.{DataStep}
use Rattle.data_examples.specs.Servers.{up, outs, head, window_at, welcomed, updated, whole_run, x_key}

-- the list after the Open of session 2
abbrev pub then : List Entry → List Entry
then es = entries.Epoch 1 ∷ entries.Opened 2 1 ∷ es

-- ^x is set to a letter
abbrev pub letter : Entry
letter = entries.Update 2 1 0 0 (ops.Set x_key (97 ∷ []))

-- the increment with this running number raises ^x by 3
abbrev pub raise : ℕ → Entry
raise w = entries.Update 2 w 0 0 (ops.Add x_key (pos 3))

-- ^x is set in the transaction 1 of job 0
abbrev pub begin : Entry
begin = entries.Update 2 1 0 1 (ops.Set x_key (53 ∷ []))

-- the increment entered, and its answer waits
abbrev pub raised : DataState
raised =
    record welcomed {
      order = then (raise 1 ∷ []);
      windows = window_at 2 0 [] 1 1 ∷ [];
      replies = record { at = 3; says = AnswerOf 2 about.Counted 0 1 3 (pos 3) } ∷ [];
    }

-- the letter is there and synced
abbrev pub lettered : DataState
lettered = record welcomed { order = then (letter ∷ []); synced = 3 }

-- the transaction is begun, which is synced, and the session was sent the run over all keys after that
abbrev pub in_transaction : DataState
in_transaction =
    record welcomed {
      order = then (begin ∷ []);
      synced = 3;
      noted = record { session = 2; span = whole_run.span } ∷ [];
    }

-- increments
abbrev pub AddExamples : Type 0
AddExamples =
    DataStep welcomed 0 (Frame 7 (up 1 0 (Add 1 0 x_key (pos 3)))) (outs [] [] (Enter 0 (raise 1) ∷ [])) raised
    -- its save
    × DataStep raised 0 (Saved 3)
    (outs (frame_on 7 1 1 (Answer (head 3 1 1) about.Counted 0 1 3 (pos 3)) ∷ frame_on 7 2 1 (Ack (head 3 1 1)) ∷ []) [] (Synced 0 3 ∷ []))
    (record raised {
      synced = 3;
      windows = window_at 2 0 (Answer (head 3 1 1) about.Counted 0 1 3 (pos 3) ∷ Ack (head 3 1 1) ∷ []) 1 0 ∷ [];
      replies = [];
    })
    -- it is sent again after that: it doesn't enter, and is answered as it stands
    × DataStep (record raised { synced = 3; windows = []; replies = [] }) 0 (Frame 7 (up 1 0 (Add 1 0 x_key (pos 3))))
    (outs (frame_on 7 1 1 (Answer (head 3 1 1) about.Counted 0 1 3 (pos 3)) ∷ []) [] [])
    (record raised { synced = 3; windows = window_at 2 0 (Answer (head 3 1 1) about.Counted 0 1 3 (pos 3) ∷ []) 1 0 ∷ []; replies = [] })
    -- the value isn't a number
    × DataStep lettered 0 (Frame 7 (up 1 0 (Add 2 0 x_key (pos 3)))) (outs [] [] (Enter 0 (raise 2) ∷ []))
    (record lettered {
      order = then (letter ∷ raise 2 ∷ []);
      windows = window_at 2 0 [] 1 1 ∷ [];
      replies = record { at = 4; says = AnswerOf 2 about.NotWhole 0 2 4 (pos 0) } ∷ [];
    })
    -- what stands with its number is no increment: nothing is answered
    × DataStep lettered 0 (Frame 7 (up 1 0 (Add 1 0 x_key (pos 3)))) (outs [] [] []) (record lettered { windows = window_at 2 0 [] 1 1 ∷ [] })
    -- fits
    × ((c : Sofar) → TakesOwed (begun welcomed) 2 2 0 (raise 2) c → ⊥)

-- Commits and Rollbacks
abbrev pub EndExamples : Type 0
EndExamples =
    -- its answer is wanted
    DataStep in_transaction 0 (Frame 7 (up 1 0 (Commit 2 0 1 true))) (outs [] [] (Enter 0 (entries.Commit 2 2 0 1) ∷ []))
    (record in_transaction {
      order = then (begin ∷ entries.Commit 2 2 0 1 ∷ []);
      windows = window_at 2 0 [] 1 1 ∷ [];
      replies = record { at = 4; says = AnswerOf 2 about.Committed 0 2 4 (pos 0) } ∷ [];
    })
    -- it isn't
    × DataStep in_transaction 0 (Frame 7 (up 1 0 (Commit 2 0 1 false))) (outs [] [] (Enter 0 (entries.Commit 2 2 0 1) ∷ []))
    (record in_transaction { order = then (begin ∷ entries.Commit 2 2 0 1 ∷ []); windows = window_at 2 0 [] 1 1 ∷ [] })
    -- a Rollback puts ^x back, and drops the run
    × DataStep in_transaction 0 (Frame 7 (up 1 0 (Rollback 2 0 1)))
    (outs (frame_on 7 1 1 (Drop (head 4 2 1) [] (255 ∷ [])) ∷ []) [] (Enter 0 (entries.Rollback 2 2 0 1) ∷ []))
    (record in_transaction {
      order = then (begin ∷ entries.Rollback 2 2 0 1 ∷ []);
      windows = window_at 2 0 (Drop (head 4 2 1) [] (255 ∷ []) ∷ []) 1 0 ∷ [];
      noted = [];
      replies = record { at = 4; says = AnswerOf 2 about.RolledBack 0 2 4 (pos 0) } ∷ [];
    })
    -- fits: the transaction isn't open
    × ((c : Sofar) → TakesOwed (begun lettered) 2 2 0 (entries.Rollback 2 2 0 1) c → ⊥)

-- Syncs
abbrev pub SyncExamples : Type 0
SyncExamples =
    -- all is synced
    DataStep welcomed 0 (Frame 7 (up 1 0 (Sync 5))) (outs (frame_on 7 1 1 (Answer (head 2 0 0) about.Synced 0 5 2 (pos 0)) ∷ []) [] [])
    (record welcomed { windows = window_at 2 0 (Answer (head 2 0 0) about.Synced 0 5 2 (pos 0) ∷ []) 1 0 ∷ [] })
    -- it isn't
    × DataStep updated 0 (Frame 7 (up 3 2 (Sync 5))) (outs [] [] [])
    (record updated { windows = window_at 2 2 [] 3 1 ∷ []; replies = record { at = 3; says = AnswerOf 2 about.Synced 0 5 3 (pos 0) } ∷ [] })
