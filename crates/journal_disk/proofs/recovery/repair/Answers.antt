use Rattle.std.proofs.Common.{◌+◌, arith}
use Rattle.outer_disk.specs.Disk.{Cut}
use Rattle.journal_disk.specs.Writing.{IsShort}
use Rattle.journal_disk.specs.Stands.{Stands}
use Rattle.journal_disk.proofs.Moments.{weaker, still_none}
use Rattle.journal_disk.proofs.Settling.{on_ok, short_read, long_read, short_stands, cut_stands, put_settled, cut_settled}
use Rattle.journal_disk.proofs.recovery.repair.Goals as goal

pub returns-then-size-lt2-clause-settled : goal.returns-then-size-lt2-clause-settled
returns-then-size-lt2-clause-settled g c =
    on_ok c.put_gate.result _ _
    (λ done list read. put_settled (g.D.Disk.told c.args.disk.now) (g.D.Disk.told c.put_gate.new.disk) (g.D.Disk.may_leave c.put_gate.new.disk) c.args.gate list
    (still_none (g.D.Disk.told c.args.disk.now) (g.D.Disk.told c.put_gate.new.disk) c.put_gate.ensures.telling) done (λ x e. omega (arith, c.requires.within x e)) read)
    c.put_gate.ensures.ok

pub returns-then-size-lt2-clause-read : goal.returns-then-size-lt2-clause-read
returns-then-size-lt2-clause-read g c = λ x e y f list read.
    short_stands y list (c.put_gate.ensures.read x e y f) (short_read x list c.args.gate read (omega (arith, c.requires.within x e))).0

pub returns-then-size-lt2-clause-any_moment : goal.returns-then-size-lt2-clause-any_moment
returns-then-size-lt2-clause-any_moment g c = λ x e only list read.
    let none = short_read x list c.args.gate read (omega (arith, c.requires.within x e)) in
    weaker g.D.Disk.moment g.D.Disk.left_since g.D.Disk.may_leave c.args.disk.now c.put_gate.new.disk IsShort (λ b. Stands b list) (c.put_gate.ensures.any_moment x e only)
    (λ b short. short_stands b list short none.0)

pub returns-else-size-lt2-clause-settled : goal.returns-else-size-lt2-clause-settled
returns-else-size-lt2-clause-settled g c =
    on_ok c.cut_behind.result _ _
    (λ done list read. cut_settled (g.D.Disk.told c.args.disk.now) (g.D.Disk.told c.cut_behind.new.disk) (g.D.Disk.may_leave c.cut_behind.new.disk) c.args.gate list
    (still_none (g.D.Disk.told c.args.disk.now) (g.D.Disk.told c.cut_behind.new.disk) c.cut_behind.ensures.telling) done (λ x e. omega (arith, c.requires.within x e)) read)
    c.cut_behind.ensures.ok

pub returns-else-size-lt2-clause-read : goal.returns-else-size-lt2-clause-read
returns-else-size-lt2-clause-read g c = λ x e y f list read.
    cut_stands x y list c.args.gate (long_read x list c.args.gate read (omega (arith, c.requires.within x e))) (c.cut_behind.ensures.read x e y f)

pub returns-else-size-lt2-clause-any_moment : goal.returns-else-size-lt2-clause-any_moment
returns-else-size-lt2-clause-any_moment g c = λ x e only list read.
    let has = long_read x list c.args.gate read (omega (arith, c.requires.within x e)) in
    weaker g.D.Disk.moment g.D.Disk.left_since g.D.Disk.may_leave c.args.disk.now c.cut_behind.new.disk (Cut (c.args.gate + 1) x) (λ b. Stands b list) (c.cut_behind.ensures.any_moment x e only)
    (λ b cut. cut_stands x b list c.args.gate has cut)
