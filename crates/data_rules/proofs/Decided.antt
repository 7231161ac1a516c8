-- Whether an item may follow an order is decided by numbers and truth values, where its key is one.
use Rattle.std.proofs.Common.{◌≡◌, ◌<◌, ◌≤◌, ◌⊎◌, ℕ, ℤ, ◌+◌, Bool, true, false, List, length, refl, inl, inr, arith, unsigned_abs}
use Rattle.std.proofs.lemmas.Bool.{cases_lt}
use Rattle.subscript_keys.specs.declared.limits.TheConstants.{VALUE_LIMIT, NUMBER_LIMIT, KEY_LIMIT}
use Rattle.subscript_keys.specs.Key.{IsKey}
use Rattle.plain_orders.specs.declared.op.Op.{Op}
use Rattle.plain_orders.specs.declared.op.Op.TheVariants.{Set, Kill, Add}
use Rattle.plain_orders.specs.declared.entry.Entry.{Entry}
use Rattle.plain_orders.specs.Entries.{count, live}
use Rattle.plain_orders.specs.Fold.{fold, is_begun}
use Rattle.plain_orders.specs.Ordered.{KeyMay, SetMay, AddMay, OpMay, UpdateMay, EndFollows}

-- it holds or it doesn't
abbrev pub Decided : Type 0 → Type 0
Decided A = A ⊎ (A → ⊥)

-- a truth value is true
true_decided : (t : Bool) → Decided (t ≡ true)
true_decided true = inl refl
true_decided false = inr (λ e. absurd (cc (e)))

-- one number is at most another
low_decided : (a b : ℕ) → Decided (a ≤ b)
low_decided a b = go (cases_lt b a)
  where
    go : (b < a) ⊎ (a ≤ b) → Decided (a ≤ b)
    go (inl high) = inr (λ low. omega (arith, high, low))
    go (inr low) = inl low

-- one number is below another
less_decided : (a b : ℕ) → Decided (a < b)
less_decided a b = go (cases_lt a b)
  where
    go : (a < b) ⊎ (b ≤ a) → Decided (a < b)
    go (inl less) = inl less
    go (inr high) = inr (λ less. omega (arith, high, less))

-- two numbers are the same
same_decided : (a b : ℕ) → Decided (a ≡ b)
same_decided a b = go (cases_lt a b) (cases_lt b a)
  where
    go : (a < b) ⊎ (b ≤ a) → (b < a) ⊎ (a ≤ b) → Decided (a ≡ b)
    go (inl less) _ = inr (λ e. omega (arith, e, less))
    go (inr high) (inl more) = inr (λ e. omega (arith, e, more))
    go (inr high) (inr low) = inl (omega (arith, high, low))

-- a key within the limit
key_decided : (key : List ℕ) → IsKey key → Decided (KeyMay key)
key_decided key is_key = go (low_decided (length key) KEY_LIMIT)
  where
    go : Decided (length key ≤ KEY_LIMIT) → Decided (KeyMay key)
    go (inl low) = inl (record { is_key = is_key; within = low })
    go (inr high) = inr (λ may. high may.within)

-- a Set
set_decided : (key value : List ℕ) → Decided (KeyMay key) → Decided (length value ≤ VALUE_LIMIT) → Decided (SetMay key value)
set_decided key value (inl may) (inl low) = inl (record { key_may = may; within = low })
set_decided key value (inl may) (inr high) = inr (λ m. high m.within)
set_decided key value (inr not) _ = inr (λ m. not m.key_may)

-- an Add in no transaction
add_decided : (key : List ℕ) (amount : ℤ) → Decided (KeyMay key) → Decided (unsigned_abs amount < NUMBER_LIMIT) → Decided (AddMay 0 key amount)
add_decided key amount (inl may) (inl low) = inl (record { key_may = may; is_alone = refl; within = low })
add_decided key amount (inl may) (inr high) = inr (λ m. high m.within)
add_decided key amount (inr not) _ = inr (λ m. not m.key_may)

-- an update, by what it needs
update_by : (before : List Entry) (s w txn : ℕ) (op : Op) → Decided (live before s ≡ true) → Decided (w ≡ count before s + 1) → Decided (OpMay txn op) → Decided (UpdateMay before s w txn op)
update_by before s w txn op (inl lives) (inl next) (inl may) = inl (record { is_live = lives; is_next = next; within = may })
update_by before s w txn op (inl lives) (inl next) (inr not) = inr (λ m. not m.within)
update_by before s w txn op (inl lives) (inr other) _ = inr (λ m. other m.is_next)
update_by before s w txn op (inr over) _ _ = inr (λ m. over m.is_live)

-- an update whose operation is decided
update_decided : (before : List Entry) (s w txn : ℕ) (op : Op) → Decided (OpMay txn op) → Decided (UpdateMay before s w txn op)
update_decided before s w txn op may = update_by before s w txn op (true_decided (live before s)) (same_decided w (count before s + 1)) may

-- an update that sets
pub set_may : (before : List Entry) (s w txn : ℕ) (key value : List ℕ) → IsKey key → Decided (UpdateMay before s w txn (Set key value))
set_may before s w txn key value is_key =
    update_decided before s w txn (Set key value) (set_decided key value (key_decided key is_key) (low_decided (length value) VALUE_LIMIT))

-- one that kills
pub kill_may : (before : List Entry) (s w txn : ℕ) (key : List ℕ) → IsKey key → Decided (UpdateMay before s w txn (Kill key))
kill_may before s w txn key is_key = update_decided before s w txn (Kill key) (key_decided key is_key)

-- an increment
pub add_may : (before : List Entry) (s w : ℕ) (key : List ℕ) (amount : ℤ) → IsKey key → Decided (UpdateMay before s w 0 (Add key amount))
add_may before s w key amount is_key =
    update_decided before s w 0 (Add key amount) (add_decided key amount (key_decided key is_key) (less_decided (unsigned_abs amount) NUMBER_LIMIT))

-- a Commit or a Rollback, by what it needs
end_by : (before : List Entry) (s w job txn : ℕ) → Decided (live before s ≡ true) → Decided (w ≡ count before s + 1) → Decided (is_begun s job txn (fold before).begun ≡ true) → Decided (EndFollows before s w job txn)
end_by before s w job txn (inl lives) (inl next) (inl begun) = inl (record { is_live = lives; is_next = next; is_begun = begun })
end_by before s w job txn (inl lives) (inl next) (inr not) = inr (λ m. not m.is_begun)
end_by before s w job txn (inl lives) (inr other) _ = inr (λ m. other m.is_next)
end_by before s w job txn (inr over) _ _ = inr (λ m. over m.is_live)

-- a Commit or a Rollback
pub end_may : (before : List Entry) (s w job txn : ℕ) → Decided (EndFollows before s w job txn)
end_may before s w job txn =
    end_by before s w job txn (true_decided (live before s)) (same_decided w (count before s + 1)) (true_decided (is_begun s job txn (fold before).begun))
