-- What may follow an ordered list can be written.
use Rattle.std.proofs.Common.{ℕ, List, arith}
use Rattle.plain_orders.specs.declared.op.Op.{Op}
use Rattle.plain_orders.specs.declared.op.Op.TheVariants.{Set, Kill, Add}
use Rattle.plain_orders.specs.declared.entry.Entry.{Entry}
use Rattle.plain_orders.specs.declared.entry.Entry.TheVariants.{Epoch, Opened, Closed, Update, Commit, Rollback}
use Rattle.plain_orders.specs.Ordered.{KeyMay, OpMay, MayFollow}
use Rattle.field_bytes.specs.Fields.{IsKeyField}
use Rattle.journal_records.specs.Records.{IsRecordOp, HasRecordOp}

key-field : (key : List ℕ) → KeyMay key → IsKeyField key
key-field key p = let short = p.within in (p.is_key, omega arith)

pub op_record : (txn : ℕ) (op : Op) → OpMay txn op → IsRecordOp txn op
op_record txn (Set key value) p = let short = p.within in (key-field key p.key_may, omega arith)
op_record txn (Kill key) p = key-field key p
op_record txn (Add key amount) p = (key-field key p.key_may, p.is_alone, p.within)

pub may_record : (before : List Entry) (entry : Entry) → MayFollow before entry → HasRecordOp entry
may_record before (Epoch number) p = tt
may_record before (Opened session app) p = tt
may_record before (Closed session) p = tt
may_record before (Update session w job txn op) p = op_record txn op p.within
may_record before (Commit session w job txn) p = tt
may_record before (Rollback session w job txn) p = tt
