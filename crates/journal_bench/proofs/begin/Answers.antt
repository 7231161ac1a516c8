use Rattle.std.proofs.Common.{◌≡◌, length, List, subst, sym, ap, arith}
use Rattle.plain_orders.specs.declared.entry.Entry.{Entry}
use Rattle.journal_bench.specs.Written.{IsWritten}
use Rattle.journal_bench.proofs.WrittenLemmas.{may_open, ready_open}
use Rattle.journal_bench.proofs.begin.Goals as goal

pub returns : goal.returns
returns g c =
    let none : length c.in_ok-journal.entries ≡ 0 = omega (arith, c.if-as_slice-gt0.false, ap length c.as_slice.ensures) in
    let written : IsWritten c.deref.result.now 0 = subst (λ (xs : List Entry). IsWritten xs 0) (sym c.deref.ensures.value) c.in_ok-part.ensures in
    ready_open (g.D.Disk.told c.append.new.disk) (g.D.Disk.may_leave c.append.new.disk) c.append.new.self c.in_ok-journal.entries c.deref.result.now none c.in_ok-append.ensures.ready
    (c.in_ok-append.ensures.ok c.in_ok-journal.entries (may_open (g.D.Disk.told c.start.new.disk) (g.D.Disk.may_leave c.start.new.disk) c.in_ok-journal.journal.gate c.in_ok-journal.entries c.deref.result.now none c.in_ok-journal.ensures.settled written)) written
