use Rattle.std.proofs.Common.{[], rules, refl}
use Rattle.ecp_messages.specs.Rows.Field.{Held, Key, U16, U32}
use Rattle.ecp_messages.proofs.Taken.{ahead, ahead_none, no-others, no_key}
use Rattle.ecp_messages.proofs.UpTable.{no_up}
use Rattle.ecp_messages.proofs.up_taker.take_ask.Goals as goal

pub returns-in_err-key-clause-none : goal.returns-in_err-key-clause-none
returns-in_err-key-clause-none c = λ e.
    let key = no_key [] c.in_ok-mode.rest.now (search rules) in
    let mode = no-others (Held c.in_ok-mode.mode) _ c.in_ok-job.rest.now c.in_ok-mode.rest.now tt (search rules) key in
    let job = no-others (U16 c.in_ok-job.job) _ c.in_ok-ticket.rest.now c.in_ok-job.rest.now (search rules) (search rules) mode in
    no_up 0x06 c.args.bytes.now (no-others (U32 c.in_ok-ticket.ticket) _ c.args.bytes.now c.in_ok-ticket.rest.now (search rules) (search rules) job)

pub returns-clause-some : goal.returns-clause-some
returns-clause-some c =
    let key = ahead (Key c.in_ok-key.key) [] c.in_ok-mode.rest.now c.in_ok-key.rest.now c.in_ok-key.rest.now (search rules) (search rules) (ahead_none _) in
    let mode = ahead (Held c.in_ok-mode.mode) _ c.in_ok-job.rest.now c.in_ok-mode.rest.now _ tt (search rules) key in
    let job = ahead (U16 c.in_ok-job.job) _ c.in_ok-ticket.rest.now c.in_ok-job.rest.now _ (search rules) (search rules) mode in
    let ticket = ahead (U32 c.in_ok-ticket.ticket) _ c.args.bytes.now c.in_ok-ticket.rest.now _ (search rules) (search rules) job in
    record { kind_is = refl; fields = ticket; sum = refl }
