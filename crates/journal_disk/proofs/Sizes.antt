-- How many bytes records take.
use Rattle.std.proofs.Common.{◌≡◌, ℕ, ◌+◌, List, length, ◌∙◌, ap, refl, arith, ◌++◌, ℤ}
use Rattle.std.proofs.lemmas.List.{length-append}
use Rattle.field_bytes.specs.Fields.{u32_bytes, u64_bytes, u16_bytes, i64_bytes, list_bytes, op_bytes}
use Rattle.plain_orders.specs.declared.op.Op.{Op}
use Rattle.plain_orders.specs.declared.op.Op.TheVariants.{Set, Kill, Add}
use Rattle.field_bytes.proofs.FieldLengths.{u16_length, u32_length, u64_length, i64_length, list_length}
use Rattle.journal_records.specs.Records.{item_bytes}

pub item_length : (session w job txn : ℕ) → length (item_bytes session w job txn) ≡ 22
unfolding item_bytes
item_length session w job txn =
    omega (arith, length-append (u64_bytes session) (u64_bytes w ++ (u16_bytes job ++ u32_bytes txn)), length-append (u64_bytes w) (u16_bytes job ++ u32_bytes txn), length-append (u16_bytes job) (u32_bytes txn), u64_length session, u64_length w, u16_length job, u32_length txn)

pub ruleset field_sizes = (item_length, u16_length, u32_length, u64_length, i64_length, list_length, length-append)

pub set_size : (op : Op) (key value : List ℕ) → op ≡ Set key value → length (op_bytes op) ≡ 5 + length key + length value
set_size op key value e =
    ap (λ (o : Op). length (op_bytes o)) e ∙ omega (arith, length-append (list_bytes key) (list_bytes value), list_length key, list_length value)

pub kill_size : (op : Op) (key : List ℕ) → op ≡ Kill key → length (op_bytes op) ≡ 3 + length key
kill_size op key e = ap (λ (o : Op). length (op_bytes o)) e ∙ omega (arith, list_length key)

pub add_size : (op : Op) (key : List ℕ) (amount : ℤ) → op ≡ Add key amount → length (op_bytes op) ≡ 11 + length key
add_size op key amount e =
    ap (λ (o : Op). length (op_bytes o)) e ∙ omega (arith, length-append (list_bytes key) (i64_bytes amount), list_length key, i64_length amount)
