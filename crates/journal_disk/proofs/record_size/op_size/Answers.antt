use Rattle.std.proofs.Common.{ap, length, arith}
use Rattle.journal_disk.proofs.Sizes.{set_size, kill_size, add_size}
use Rattle.journal_disk.proofs.record_size.op_size.Goals as goal

pub returns-in-Set-clause-size : goal.returns-in-Set-clause-size
returns-in-Set-clause-size c =
    let e = c.in-Set.is in
    omega (arith, set_size _ _ _ e, ap length c.as_slice.ensures, ap length c.as_slice-in-Set.ensures)

pub returns-in-Kill-clause-size : goal.returns-in-Kill-clause-size
returns-in-Kill-clause-size c =
    let e = c.in-Kill.is in
    omega (arith, kill_size _ _ e, ap length c.as_slice-in-Kill.ensures)

pub returns-in-Add-clause-size : goal.returns-in-Add-clause-size
returns-in-Add-clause-size c =
    let e = c.in-Add.is in
    omega (arith, add_size _ _ _ e, ap length c.as_slice-in-Add.ensures)
