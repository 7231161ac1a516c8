use Rattle.std.proofs.Common.{rules}
use Rattle.outer_disk.proofs.Replays.{took_held, took_leaves, took_elapses}
use Rattle.outer_disk.specs.declared.disk_call.DiskCall.TheVariants.{Cut}
use Rattle.outer_disk.proofs.mem_disk.MemDiskDisk.cut.Goals as goal

pub returns-in-Ok-clause-ok : goal.returns-in-Ok-clause-ok
returns-in-Ok-clause-ok c = took_held c.args.self.now c.take_cut.new.self (Cut c.args.to) (search rules, search rules)

pub returns-in-Ok-clause-crash : goal.returns-in-Ok-clause-crash
returns-in-Ok-clause-crash c d left = took_leaves c.args.self.now c.take_cut.new.self (Cut c.args.to) d (search rules, search rules) left

pub returns-in-Ok-clause-time : goal.returns-in-Ok-clause-time
returns-in-Ok-clause-time c = took_elapses c.args.self.now c.take_cut.new.self (Cut c.args.to) (search rules, search rules)
