-- Where no part of an entry stands behind its kind, no record is ahead.
use Rattle.std.proofs.Common.{◌≡◌, ℕ, List, ◌∷◌, ◌++◌, sym, ◌∙◌, subst, append_assoc}
use Rattle.plain_orders.specs.declared.op.Op.{Op}
use Rattle.plain_orders.specs.declared.entry.Entry.{Entry}
use Rattle.plain_orders.specs.declared.entry.Entry.TheVariants.{Epoch, Opened, Closed, Update, Commit, Rollback}
use Rattle.field_bytes.specs.Fields.{u8_bytes, u16_bytes, u32_bytes, u64_bytes, op_bytes, IsU8, IsU16, IsU32, IsU64, IsOpField, NoneAhead}
use Rattle.field_bytes.proofs.PrefixFree.{u16_prefix_free, u64_prefix_free, op_prefix_free}
use Rattle.journal_records.specs.Records.{item_bytes, entry_bytes, IsItem, IsRecordOp, IsRecord, NoRecordAhead, NoItemAhead}
use Rattle.journal_records.proofs.OneRecord.{item-parts, one_item, op_field, entry_prefix_free}

pub no_epoch : (bytes : List ℕ) → NoneAhead u32_bytes IsU32 bytes → NoRecordAhead (1 ∷ bytes)
no_epoch bytes none (Epoch number) r q f =
    none number r q cc
no_epoch bytes none (Opened session app) r q f = absurd cc
no_epoch bytes none (Closed session) r q f = absurd cc
no_epoch bytes none (Update session w job txn op) r q f = absurd cc
no_epoch bytes none (Commit session w job txn) r q f = absurd cc
no_epoch bytes none (Rollback session w job txn) r q f = absurd cc

pub no_opened : (bytes : List ℕ) → NoneAhead u64_bytes IsU64 bytes → NoRecordAhead (2 ∷ bytes)
no_opened bytes none (Epoch number) r q f = absurd cc
no_opened bytes none (Opened session app) r q f =
    let tail : bytes ≡ (u64_bytes session ++ u8_bytes app) ++ r = cc in
    none session (u8_bytes app ++ r) q.0 (tail ∙ append_assoc (u64_bytes session) (u8_bytes app) r)
no_opened bytes none (Closed session) r q f = absurd cc
no_opened bytes none (Update session w job txn op) r q f = absurd cc
no_opened bytes none (Commit session w job txn) r q f = absurd cc
no_opened bytes none (Rollback session w job txn) r q f = absurd cc

pub no_app : (bytes rest : List ℕ) (n : ℕ) → IsU64 n → bytes ≡ u64_bytes n ++ rest → NoneAhead u8_bytes IsU8 rest → NoRecordAhead (2 ∷ bytes)
no_app bytes rest n p e none (Epoch number) r q f = absurd cc
no_app bytes rest n p e none (Opened session app) r q f =
    let tail : bytes ≡ (u64_bytes session ++ u8_bytes app) ++ r = cc in
    none app r q.1 (u64_prefix_free n session rest (u8_bytes app ++ r) p q.0 (sym e ∙ tail ∙ append_assoc (u64_bytes session) (u8_bytes app) r)).1
no_app bytes rest n p e none (Closed session) r q f = absurd cc
no_app bytes rest n p e none (Update session w job txn op) r q f = absurd cc
no_app bytes rest n p e none (Commit session w job txn) r q f = absurd cc
no_app bytes rest n p e none (Rollback session w job txn) r q f = absurd cc

pub no_closed : (bytes : List ℕ) → NoneAhead u64_bytes IsU64 bytes → NoRecordAhead (3 ∷ bytes)
no_closed bytes none (Epoch number) r q f = absurd cc
no_closed bytes none (Opened session app) r q f = absurd cc
no_closed bytes none (Closed session) r q f =
    none session r q cc
no_closed bytes none (Update session w job txn op) r q f = absurd cc
no_closed bytes none (Commit session w job txn) r q f = absurd cc
no_closed bytes none (Rollback session w job txn) r q f = absurd cc

pub no_op : (bytes rest : List ℕ) (s v j n : ℕ) → IsItem s v j n → bytes ≡ item_bytes s v j n ++ rest → NoneAhead op_bytes IsOpField rest → NoRecordAhead (4 ∷ bytes)
no_op bytes rest s v j n p e none (Epoch number) r q f = absurd cc
no_op bytes rest s v j n p e none (Opened session app) r q f = absurd cc
no_op bytes rest s v j n p e none (Closed session) r q f = absurd cc
no_op bytes rest s v j n p e none (Update session w job txn op) r q f =
    let tail : bytes ≡ (item_bytes session w job txn ++ op_bytes op) ++ r = cc in
    let one = one_item s session v w j job n txn rest (op_bytes op ++ r) p q.0 (sym e ∙ tail ∙ append_assoc (item_bytes session w job txn) (op_bytes op) r) in
    none op r (op_field txn op q.1) one.4
no_op bytes rest s v j n p e none (Commit session w job txn) r q f = absurd cc
no_op bytes rest s v j n p e none (Rollback session w job txn) r q f = absurd cc

-- where the operation may not stand in a record
pub other_op : (bytes rest after : List ℕ) (s v j n : ℕ) (o : Op) → IsItem s v j n → bytes ≡ item_bytes s v j n ++ rest → rest ≡ op_bytes o ++ after → IsOpField o → (IsRecordOp n o → ⊥) → NoRecordAhead (4 ∷ bytes)
other_op bytes rest after s v j n o p e d m wrong (Epoch number) r q f = absurd cc
other_op bytes rest after s v j n o p e d m wrong (Opened session app) r q f = absurd cc
other_op bytes rest after s v j n o p e d m wrong (Closed session) r q f = absurd cc
other_op bytes rest after s v j n o p e d m wrong (Update session w job txn op) r q f =
    let tail : bytes ≡ (item_bytes session w job txn ++ op_bytes op) ++ r = cc in
    let one = one_item s session v w j job n txn rest (op_bytes op ++ r) p q.0 (sym e ∙ tail ∙ append_assoc (item_bytes session w job txn) (op_bytes op) r) in
    let ops = op_prefix_free o op after r m (op_field txn op q.1) (sym d ∙ one.4) in
    wrong (subst (λ (x : ℕ). IsRecordOp x o) (sym one.3) (subst (λ (x : Op). IsRecordOp txn x) (sym ops.0) q.1))
other_op bytes rest after s v j n o p e d m wrong (Commit session w job txn) r q f = absurd cc
other_op bytes rest after s v j n o p e d m wrong (Rollback session w job txn) r q f = absurd cc

-- where the number of the item, its job or its transaction doesn't stand after what is before it
pub no_w : (bytes rest : List ℕ) (s : ℕ) → IsU64 s → bytes ≡ u64_bytes s ++ rest → NoneAhead u64_bytes IsU64 rest → NoItemAhead bytes
no_w bytes rest s p e none session w job txn r q f =
    none w (u16_bytes job ++ (u32_bytes txn ++ r)) q.1 (u64_prefix_free s session rest _ p q.0 (sym e ∙ f ∙ item-parts session w job txn r)).1

pub no_job : (bytes rest after : List ℕ) (s v : ℕ) → IsU64 s → IsU64 v → bytes ≡ u64_bytes s ++ rest → rest ≡ u64_bytes v ++ after → NoneAhead u16_bytes IsU16 after → NoItemAhead bytes
no_job bytes rest after s v p h e d none session w job txn r q f =
    let one = u64_prefix_free s session rest (u64_bytes w ++ (u16_bytes job ++ (u32_bytes txn ++ r))) p q.0 (sym e ∙ f ∙ item-parts session w job txn r) in
    none job (u32_bytes txn ++ r) q.2 (u64_prefix_free v w after (u16_bytes job ++ (u32_bytes txn ++ r)) h q.1 (sym d ∙ one.1)).1

pub no_txn : (bytes rest after last : List ℕ) (s v j : ℕ) → IsU64 s → IsU64 v → IsU16 j → bytes ≡ u64_bytes s ++ rest → rest ≡ u64_bytes v ++ after → after ≡ u16_bytes j ++ last → NoneAhead u32_bytes IsU32 last → NoItemAhead bytes
no_txn bytes rest after last s v j p h k e d g none session w job txn r q f =
    let one = u64_prefix_free s session rest (u64_bytes w ++ (u16_bytes job ++ (u32_bytes txn ++ r))) p q.0 (sym e ∙ f ∙ item-parts session w job txn r) in
    let two = u64_prefix_free v w after (u16_bytes job ++ (u32_bytes txn ++ r)) h q.1 (sym d ∙ one.1) in
    none txn r q.3 (u16_prefix_free j job last (u32_bytes txn ++ r) k q.2 (sym g ∙ two.1)).1

pub no_commit : (bytes : List ℕ) → NoItemAhead bytes → NoRecordAhead (5 ∷ bytes)
no_commit bytes none (Epoch number) r q f = absurd cc
no_commit bytes none (Opened session app) r q f = absurd cc
no_commit bytes none (Closed session) r q f = absurd cc
no_commit bytes none (Update session w job txn op) r q f = absurd cc
no_commit bytes none (Commit session w job txn) r q f =
    none session w job txn r q cc
no_commit bytes none (Rollback session w job txn) r q f = absurd cc

pub no_rollback : (bytes : List ℕ) → NoItemAhead bytes → NoRecordAhead (6 ∷ bytes)
no_rollback bytes none (Epoch number) r q f = absurd cc
no_rollback bytes none (Opened session app) r q f = absurd cc
no_rollback bytes none (Closed session) r q f = absurd cc
no_rollback bytes none (Update session w job txn op) r q f = absurd cc
no_rollback bytes none (Commit session w job txn) r q f = absurd cc
no_rollback bytes none (Rollback session w job txn) r q f =
    none session w job txn r q cc

-- what was read is the entry whose record stands there
pub read_again : (found entry : Entry) (bytes after rest : List ℕ) → IsRecord found → IsRecord entry → bytes ≡ entry_bytes found ++ after → bytes ≡ entry_bytes entry ++ rest → found ≡ entry
read_again found entry bytes after rest p q e f = (entry_prefix_free found entry after rest p q (sym e ∙ f)).0
