use Rattle.std.proofs.Common.{[], ◌∷◌, ℤ, refl, sym, subst, rules}
use Rattle.std.proofs.lemmas.Int.{to_z-of_z}
use Rattle.std.specs.Int.{w64}
use Rattle.ecp_messages.specs.Ups.{up_row}
use Rattle.ecp_messages.specs.Taking.{IsAhead}
use Rattle.ecp_messages.specs.declared.up.Up.TheVariants.{Add}
use Rattle.ecp_messages.specs.Rows.Field.{U16, U64, I64, Key}
use Rattle.ecp_messages.proofs.FieldKinds.Kind.{OfI64}
use Rattle.ecp_messages.proofs.Taken.{ahead, ahead_none, no-others, no_key, no_i64}
use Rattle.ecp_messages.proofs.UpTable.{no_up}
use Rattle.ecp_messages.proofs.up_taker.take_add.Goals as goal

pub returns-in_err-key-clause-none : goal.returns-in_err-key-clause-none
returns-in_err-key-clause-none c = λ e.
    let key = no_key (OfI64 ∷ []) c.in_ok-job.rest.now (search rules) in
    let job = no-others (U16 c.in_ok-job.job) _ c.in_ok-w.rest.now c.in_ok-job.rest.now (search rules) (search rules) key in
    no_up 0x04 c.args.bytes.now (no-others (U64 c.in_ok-w.w) _ c.args.bytes.now c.in_ok-w.rest.now (search rules) (search rules) job)

pub returns-in_err-amount-clause-none : goal.returns-in_err-amount-clause-none
returns-in_err-amount-clause-none c = λ e.
    let amount = no_i64 [] c.in_ok-key.rest.now (search rules) in
    let key = no-others (Key c.in_ok-key.key) _ c.in_ok-job.rest.now c.in_ok-key.rest.now (search rules) (search rules) amount in
    let job = no-others (U16 c.in_ok-job.job) _ c.in_ok-w.rest.now c.in_ok-job.rest.now (search rules) (search rules) key in
    no_up 0x04 c.args.bytes.now (no-others (U64 c.in_ok-w.w) _ c.args.bytes.now c.in_ok-w.rest.now (search rules) (search rules) job)

pub returns-clause-some : goal.returns-clause-some
returns-clause-some c =
    let amount = ahead (I64 c.in_ok-amount.amount) [] c.in_ok-key.rest.now c.in_ok-amount.rest.now c.in_ok-amount.rest.now (search rules) (search rules) (ahead_none _) in
    let key = ahead (Key c.in_ok-key.key) _ c.in_ok-job.rest.now c.in_ok-key.rest.now _ (search rules) (search rules) amount in
    let job = ahead (U16 c.in_ok-job.job) _ c.in_ok-w.rest.now c.in_ok-job.rest.now _ (search rules) (search rules) key in
    let w = ahead (U64 c.in_ok-w.w) _ c.args.bytes.now c.in_ok-w.rest.now _ (search rules) (search rules) job in
    let Taken : ℤ → Type 0 = λ z. IsAhead up_row 0x04 c.args.bytes.now (Add c.in_ok-w.w c.in_ok-job.job c.in_ok-key.key z) c.in_ok-amount.rest.now in
    subst Taken (sym (to_z-of_z w64 c.in_ok-amount.amount (search rules))) (record { kind_is = refl; fields = w; sum = refl })
