use Rattle.journal_bench.proofs.WrittenLemmas.{ready_more}
use Rattle.journal_bench.proofs.extend.Goals as goal

pub returns : goal.returns
returns g c =
    ready_more (g.D.Disk.told c.args.disk.now) (g.D.Disk.told c.append.new.disk) (g.D.Disk.may_leave c.args.disk.now) (g.D.Disk.may_leave c.append.new.disk) c.args.journal.now c.append.new.self c.args.from c.args.size c.in_ok-part.part.items c.deref.result.now
    c.requires.ready c.deref.ensures.value c.in_ok-part.ensures c.in_ok-append.ensures.ready c.in_ok-append.ensures.ok
