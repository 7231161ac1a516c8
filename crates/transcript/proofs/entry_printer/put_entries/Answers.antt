use Rattle.std.proofs.Common.{arith}
use Rattle.transcript.proofs.LineLemmas.{entries_more, can_print_at}
use Rattle.transcript.proofs.entry_printer.put_entries.Goals as goal

pub put_entry-requires : goal.put_entry-requires
put_entry-requires c = can_print_at c.args.entries.now c.loop-entry.entry-index c.entry-item.result c.requires (omega arith) c.entry-item.is

pub loop-entry-preserved : goal.loop-entry-preserved
loop-entry-preserved c =
    entries_more c.args.entries.now c.loop-entry.entry-index c.entry-item.result c.args.to.now c.loop-entry.to c.bytes.new.self c.put_entry.new.to c.bytes-in-loop-entry.new.self (omega arith) c.entry-item.is c.loop-entry.invariant c.in_ok-bytes.ensures c.in_ok-put_entry.ensures c.in_ok-bytes-2.ensures
