use Rattle.field_bytes.proofs.PrefixFree.{u8_prefix_free, u16_prefix_free, u32_prefix_free, u64_prefix_free, i64_prefix_free, list_prefix_free, op_prefix_free}
use Rattle.field_bytes.proofs.one_spelling.fields_are_prefix_free.Goals as goal

pub returns : goal.returns
returns c = record {
  u8 = u8_prefix_free;
  u16 = u16_prefix_free;
  u32 = u32_prefix_free;
  u64 = u64_prefix_free;
  i64 = i64_prefix_free;
  list = list_prefix_free;
  op = op_prefix_free;
}
