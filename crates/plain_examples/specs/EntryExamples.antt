-- Examples of entries of which just one condition fails after an ordered list, so that no server opens with them: the condition is named above each.
use Rattle.std.specs.Prelude.{ℕ, pos, List, ◌+◌, [], ◌∷◌, ◌≡◌}
use Rattle.plain_orders.specs.declared.entry.Entry.{Entry}
use Rattle.plain_orders.specs.declared.entry.Entry.TheVariants.{Epoch, Opened as OpenEntry, Closed, Update, Commit, Rollback}
use Rattle.plain_orders.specs.declared.op.Op.TheVariants.{Set, Kill, Add}
use Rattle.plain_orders.specs.declared.limits.TheConstants.{EPOCH_END}
use Rattle.subscript_keys.specs.declared.limits.TheConstants.{NUMBER_LIMIT}
use Rattle.plain_orders.specs.Ordered.{IsOrdered}
use Rattle.plain_runs.specs.Conditions.{JustFails, conditions_behind}
use Rattle.plain_examples.specs.Leads.{epochs, long_key, long_value}

-- the first Epoch
abbrev pub one_epoch : List Entry
one_epoch = Epoch 1 ∷ []

-- and an Open
abbrev pub one_open : List Entry
one_open = Epoch 1 ∷ OpenEntry 2 0 ∷ []

-- and an update in a transaction
abbrev pub one_update : List Entry
one_update = Epoch 1 ∷ OpenEntry 2 0 ∷ Update 2 1 0 1 (Set (120 ∷ 0 ∷ []) (53 ∷ [])) ∷ []

-- and its Commit
abbrev pub one_commit : List Entry
one_commit = Epoch 1 ∷ OpenEntry 2 0 ∷ Update 2 1 0 1 (Set (120 ∷ 0 ∷ []) (53 ∷ [])) ∷ Commit 2 2 0 1 ∷ []

-- or another Open
abbrev pub two_opens : List Entry
two_opens = Epoch 1 ∷ OpenEntry 2 0 ∷ Update 2 1 0 1 (Set (120 ∷ 0 ∷ []) (53 ∷ [])) ∷ OpenEntry 4 1 ∷ []

-- an Open and its Close
abbrev pub one_close : List Entry
one_close = Epoch 1 ∷ OpenEntry 2 0 ∷ Closed 2 ∷ []

-- the list is ordered, and of the conditions of the entry after it just the one at this place, from 0, fails
abbrev pub FailsBehind : ℕ → List Entry → Entry → Type 0
FailsBehind k before e = IsOrdered before × JustFails k (conditions_behind before e)

-- entries
abbrev pub EntryExamples : Type 0
EntryExamples =
    -- is_next of an Epoch: the first is 1
    FailsBehind 0 [] (Epoch 2)
    -- is_next of an Epoch: each is one higher
    × FailsBehind 0 one_epoch (Epoch 3)
    -- is_started of an Open
    × FailsBehind 0 [] (OpenEntry 1 0)
    -- is_position of an Open
    × FailsBehind 1 one_epoch (OpenEntry 3 0)
    -- is_free of an Open
    × FailsBehind 2 one_open (OpenEntry 3 0)
    -- is_live of a Close: there is no Open
    × FailsBehind 0 one_epoch (Closed 2)
    -- is_live of a Close: there is one already
    × FailsBehind 0 one_close (Closed 2)
    -- is_live of a Set
    × FailsBehind 0 one_epoch (Update 2 1 0 0 (Set (120 ∷ 0 ∷ []) (53 ∷ [])))
    -- is_next of a Set
    × FailsBehind 1 one_open (Update 2 2 0 0 (Set (120 ∷ 0 ∷ []) (53 ∷ [])))
    -- is_key of a Set
    × FailsBehind 2 one_open (Update 2 1 0 0 (Set [] (53 ∷ [])))
    -- key_may.within of a Set
    × FailsBehind 3 one_open (Update 2 1 0 0 (Set long_key (53 ∷ [])))
    -- within of a Set
    × FailsBehind 4 one_open (Update 2 1 0 0 (Set (120 ∷ 0 ∷ []) long_value))
    -- is_live of a Kill
    × FailsBehind 0 one_epoch (Update 2 1 0 0 (Kill (120 ∷ 0 ∷ [])))
    -- is_next of a Kill
    × FailsBehind 1 one_open (Update 2 2 0 0 (Kill (120 ∷ 0 ∷ [])))
    -- is_key of a Kill
    × FailsBehind 2 one_open (Update 2 1 0 0 (Kill []))
    -- within of a Kill
    × FailsBehind 3 one_open (Update 2 1 0 0 (Kill long_key))
    -- is_live of an Add
    × FailsBehind 0 one_epoch (Update 2 1 0 0 (Add (120 ∷ 0 ∷ []) (pos 1)))
    -- is_next of an Add
    × FailsBehind 1 one_open (Update 2 2 0 0 (Add (120 ∷ 0 ∷ []) (pos 1)))
    -- is_key of an Add
    × FailsBehind 2 one_open (Update 2 1 0 0 (Add [] (pos 1)))
    -- key_may.within of an Add
    × FailsBehind 3 one_open (Update 2 1 0 0 (Add long_key (pos 1)))
    -- is_alone of an Add
    × FailsBehind 4 one_open (Update 2 1 0 1 (Add (120 ∷ 0 ∷ []) (pos 1)))
    -- within of an Add
    × FailsBehind 5 one_open (Update 2 1 0 0 (Add (120 ∷ 0 ∷ []) (pos NUMBER_LIMIT)))
    -- is_next of a Commit
    × FailsBehind 1 one_update (Commit 2 3 0 1)
    -- is_begun of a Commit: it is another transaction
    × FailsBehind 2 one_update (Commit 2 2 0 2)
    -- is_begun of a Commit: it is another job's
    × FailsBehind 2 one_update (Commit 2 2 1 1)
    -- is_begun of a Commit: it is another session's
    × FailsBehind 2 two_opens (Commit 4 1 0 1)
    -- is_begun of a Commit: it was ended
    × FailsBehind 2 one_commit (Commit 2 3 0 1)
    -- is_next of a Rollback
    × FailsBehind 1 one_update (Rollback 2 3 0 1)
    -- is_begun of a Rollback: it is another transaction
    × FailsBehind 2 one_update (Rollback 2 2 0 2)
    -- is_begun of a Rollback: it is another job's
    × FailsBehind 2 one_update (Rollback 2 2 1 1)
    -- is_begun of a Rollback: it is another session's
    × FailsBehind 2 two_opens (Rollback 4 1 0 1)
    -- is_begun of a Rollback: it was ended
    × FailsBehind 2 one_commit (Rollback 2 3 0 1)
    -- in_range of an Epoch
    × ((n : ℕ) → n + 1 ≡ EPOCH_END → FailsBehind 1 (epochs 0 n) (Epoch (n + 1)))
