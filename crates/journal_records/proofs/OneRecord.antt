-- Bytes that begin with a record do so in one way.
use Rattle.std.specs.Int.{w64}
use Rattle.std.proofs.lemmas.Int.{fits_signed_from_abs}
use Rattle.std.proofs.Common.{◌≡◌, ℕ, List, ◌++◌, sym, ◌∙◌, ap, arith, append_assoc}
use Rattle.plain_orders.specs.declared.op.Op.{Op}
use Rattle.plain_orders.specs.declared.op.Op.TheVariants.{Set, Kill, Add}
use Rattle.plain_orders.specs.declared.entry.Entry.TheVariants.{Epoch, Opened, Closed, Update, Commit, Rollback}
use Rattle.field_bytes.specs.Fields.{u8_bytes, u16_bytes, u32_bytes, u64_bytes, op_bytes, IsOpField, IsPrefixFree}
use Rattle.field_bytes.proofs.PrefixFree.{u8_prefix_free, u16_prefix_free, u32_prefix_free, u64_prefix_free, op_prefix_free}
use Rattle.journal_records.specs.Records.{item_bytes, entry_bytes, IsItem, IsRecordOp, IsRecord}

pub item-parts : (session w job txn : ℕ) (rest : List ℕ) → item_bytes session w job txn ++ rest ≡ u64_bytes session ++ (u64_bytes w ++ (u16_bytes job ++ (u32_bytes txn ++ rest)))
unfolding item_bytes
item-parts session w job txn rest = simp append_assoc

-- two items whose numbers begin the same bytes are one, and so is what follows them
pub one_item : (s t w v j k n m : ℕ) (a b : List ℕ) → IsItem s w j n → IsItem t v k m → item_bytes s w j n ++ a ≡ item_bytes t v k m ++ b → (s ≡ t) × (w ≡ v) × (j ≡ k) × (n ≡ m) × (a ≡ b)
one_item s t w v j k n m a b p q e =
    let one = u64_prefix_free s t (u64_bytes w ++ (u16_bytes j ++ (u32_bytes n ++ a))) (u64_bytes v ++ (u16_bytes k ++ (u32_bytes m ++ b))) p.0 q.0 (sym (item-parts s w j n a) ∙ e ∙ item-parts t v k m b) in
    let two = u64_prefix_free w v (u16_bytes j ++ (u32_bytes n ++ a)) (u16_bytes k ++ (u32_bytes m ++ b)) p.1 q.1 one.1 in
    let three = u16_prefix_free j k (u32_bytes n ++ a) (u32_bytes m ++ b) p.2 q.2 two.1 in
    let four = u32_prefix_free n m a b p.3 q.3 three.1 in
    (one.0, two.0, three.0, four.0, four.1)

-- an operation of a record stands in fields
pub op_field : (txn : ℕ) (op : Op) → IsRecordOp txn op → IsOpField op
op_field txn (Set key value) p = p
op_field txn (Kill key) p = p
op_field txn (Add key amount) p = (p.0, fits_signed_from_abs w64 amount (omega (arith, p.2)))

pub entry_prefix_free : IsPrefixFree entry_bytes IsRecord
entry_prefix_free (Epoch number) (Epoch number') r s p q e =
    let t = u32_prefix_free number number' r s p q cc in
    (ap Epoch t.0, t.1)
entry_prefix_free (Epoch number) (Opened session' app') r s p q e = absurd cc
entry_prefix_free (Epoch number) (Closed session') r s p q e = absurd cc
entry_prefix_free (Epoch number) (Update session' w' job' txn' op') r s p q e = absurd cc
entry_prefix_free (Epoch number) (Commit session' w' job' txn') r s p q e = absurd cc
entry_prefix_free (Epoch number) (Rollback session' w' job' txn') r s p q e = absurd cc
entry_prefix_free (Opened session app) (Epoch number') r s p q e = absurd cc
entry_prefix_free (Opened session app) (Opened session' app') r s p q e =
    let tail : (u64_bytes session ++ u8_bytes app) ++ r ≡ (u64_bytes session' ++ u8_bytes app') ++ s = cc in
    let whole : u64_bytes session ++ (u8_bytes app ++ r) ≡ u64_bytes session' ++ (u8_bytes app' ++ s) = sym (append_assoc (u64_bytes session) (u8_bytes app) r) ∙ tail ∙ append_assoc (u64_bytes session') (u8_bytes app') s in
    let t = u64_prefix_free session session' (u8_bytes app ++ r) (u8_bytes app' ++ s) p.0 q.0 whole in
    let u = u8_prefix_free app app' r s p.1 q.1 t.1 in
    (cc (t.0, u.0), u.1)
entry_prefix_free (Opened session app) (Closed session') r s p q e = absurd cc
entry_prefix_free (Opened session app) (Update session' w' job' txn' op') r s p q e = absurd cc
entry_prefix_free (Opened session app) (Commit session' w' job' txn') r s p q e = absurd cc
entry_prefix_free (Opened session app) (Rollback session' w' job' txn') r s p q e = absurd cc
entry_prefix_free (Closed session) (Epoch number') r s p q e = absurd cc
entry_prefix_free (Closed session) (Opened session' app') r s p q e = absurd cc
entry_prefix_free (Closed session) (Closed session') r s p q e =
    let t = u64_prefix_free session session' r s p q cc in
    (ap Closed t.0, t.1)
entry_prefix_free (Closed session) (Update session' w' job' txn' op') r s p q e = absurd cc
entry_prefix_free (Closed session) (Commit session' w' job' txn') r s p q e = absurd cc
entry_prefix_free (Closed session) (Rollback session' w' job' txn') r s p q e = absurd cc
entry_prefix_free (Update session w job txn op) (Epoch number') r s p q e = absurd cc
entry_prefix_free (Update session w job txn op) (Opened session' app') r s p q e = absurd cc
entry_prefix_free (Update session w job txn op) (Closed session') r s p q e = absurd cc
entry_prefix_free (Update session w job txn op) (Update session' w' job' txn' op') r s p q e =
    let tail : (item_bytes session w job txn ++ op_bytes op) ++ r ≡ (item_bytes session' w' job' txn' ++ op_bytes op') ++ s = cc in
    let whole : item_bytes session w job txn ++ (op_bytes op ++ r) ≡ item_bytes session' w' job' txn' ++ (op_bytes op' ++ s) = sym (append_assoc (item_bytes session w job txn) (op_bytes op) r) ∙ tail ∙ append_assoc (item_bytes session' w' job' txn') (op_bytes op') s in
    let t = one_item session session' w w' job job' txn txn' (op_bytes op ++ r) (op_bytes op' ++ s) p.0 q.0 whole in
    let u = op_prefix_free op op' r s (op_field txn op p.1) (op_field txn' op' q.1) t.4 in
    (cc (t.0, t.1, t.2, t.3, u.0), u.1)
entry_prefix_free (Update session w job txn op) (Commit session' w' job' txn') r s p q e = absurd cc
entry_prefix_free (Update session w job txn op) (Rollback session' w' job' txn') r s p q e = absurd cc
entry_prefix_free (Commit session w job txn) (Epoch number') r s p q e = absurd cc
entry_prefix_free (Commit session w job txn) (Opened session' app') r s p q e = absurd cc
entry_prefix_free (Commit session w job txn) (Closed session') r s p q e = absurd cc
entry_prefix_free (Commit session w job txn) (Update session' w' job' txn' op') r s p q e = absurd cc
entry_prefix_free (Commit session w job txn) (Commit session' w' job' txn') r s p q e =
    let t = one_item session session' w w' job job' txn txn' r s p q cc in
    (cc (t.0, t.1, t.2, t.3), t.4)
entry_prefix_free (Commit session w job txn) (Rollback session' w' job' txn') r s p q e = absurd cc
entry_prefix_free (Rollback session w job txn) (Epoch number') r s p q e = absurd cc
entry_prefix_free (Rollback session w job txn) (Opened session' app') r s p q e = absurd cc
entry_prefix_free (Rollback session w job txn) (Closed session') r s p q e = absurd cc
entry_prefix_free (Rollback session w job txn) (Update session' w' job' txn' op') r s p q e = absurd cc
entry_prefix_free (Rollback session w job txn) (Commit session' w' job' txn') r s p q e = absurd cc
entry_prefix_free (Rollback session w job txn) (Rollback session' w' job' txn') r s p q e =
    let t = one_item session session' w w' job job' txn txn' r s p q cc in
    (cc (t.0, t.1, t.2, t.3), t.4)
