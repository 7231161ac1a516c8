use Rattle.std.proofs.Common.{[], rules}
use Rattle.ecp_messages.specs.Rows.Field.{Held, U16}
use Rattle.ecp_messages.proofs.Taken.{no-others, no_key}
use Rattle.ecp_messages.proofs.UpTable.{no_up}
use Rattle.ecp_messages.proofs.up_taker.take_unlock.Goals as goal

pub returns-in_err-key-clause-none : goal.returns-in_err-key-clause-none
returns-in_err-key-clause-none c = λ e.
    let key = no_key [] c.in_ok-mode.rest.now (search rules) in
    let mode = no-others (Held c.in_ok-mode.mode) _ c.in_ok-job.rest.now c.in_ok-mode.rest.now tt (search rules) key in
    no_up 0x07 c.args.bytes.now (no-others (U16 c.in_ok-job.job) _ c.args.bytes.now c.in_ok-job.rest.now (search rules) (search rules) mode)
