use Rattle.std.proofs.Common.{[], rules, refl}
use Rattle.ecp_messages.specs.Rows.Field.{Count, Held, Key, U16, U64}
use Rattle.ecp_messages.proofs.Taken.{ahead, ahead_none, no-others, no_key}
use Rattle.ecp_messages.proofs.UpTable.{no_up}
use Rattle.ecp_messages.proofs.up_taker.take_claim.Goals as goal

pub returns-in_err-key-clause-none : goal.returns-in_err-key-clause-none
returns-in_err-key-clause-none c = λ e.
    let key = no_key [] c.in_ok-at.rest.now (search rules) in
    let at = no-others (U64 c.in_ok-at.at) _ c.in_ok-count.rest.now c.in_ok-at.rest.now (search rules) (search rules) key in
    let count = no-others (Count c.in_ok-count.count) _ c.in_ok-mode.rest.now c.in_ok-count.rest.now (search rules) (search rules) at in
    let mode = no-others (Held c.in_ok-mode.mode) _ c.in_ok-job.rest.now c.in_ok-mode.rest.now tt (search rules) count in
    no_up 0x0D c.args.bytes.now (no-others (U16 c.in_ok-job.job) _ c.args.bytes.now c.in_ok-job.rest.now (search rules) (search rules) mode)

pub returns-clause-some : goal.returns-clause-some
returns-clause-some c =
    let key = ahead (Key c.in_ok-key.key) [] c.in_ok-at.rest.now c.in_ok-key.rest.now c.in_ok-key.rest.now (search rules) (search rules) (ahead_none _) in
    let at = ahead (U64 c.in_ok-at.at) _ c.in_ok-count.rest.now c.in_ok-at.rest.now _ (search rules) (search rules) key in
    let count = ahead (Count c.in_ok-count.count) _ c.in_ok-mode.rest.now c.in_ok-count.rest.now _ (search rules) (search rules) at in
    let mode = ahead (Held c.in_ok-mode.mode) _ c.in_ok-job.rest.now c.in_ok-mode.rest.now _ tt (search rules) count in
    let job = ahead (U16 c.in_ok-job.job) _ c.args.bytes.now c.in_ok-job.rest.now _ (search rules) (search rules) mode in
    record { kind_is = refl; fields = job; sum = refl }
