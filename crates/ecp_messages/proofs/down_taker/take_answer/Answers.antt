use Rattle.std.proofs.Common.{◌≡◌, [], ℤ, rules, refl, sym, ap, subst, ◌∙◌, true, false}
use Rattle.std.proofs.lemmas.Int.{to_z-of_z}
use Rattle.std.specs.Int.{w64}
use Rattle.ecp_messages.specs.declared.down.Down.TheVariants.{Answer}
use Rattle.ecp_messages.specs.Rows.{keeps_sum}
use Rattle.ecp_messages.specs.Rows.Field.{U16, U64, I64, Told, FrontOf}
use Rattle.ecp_messages.specs.Downs.{down_row}
use Rattle.ecp_messages.specs.Taking.{IsAhead}
use Rattle.ecp_messages.proofs.Taken.{ahead, ahead_none}
use Rattle.ecp_messages.proofs.Tables.{no-sum}
use Rattle.ecp_messages.proofs.DownTable.{down_kinds, down-table}
use Rattle.ecp_messages.proofs.down_taker.take_answer.Goals as goal

pub returns-then-not-may_tell-clause-none : goal.returns-then-not-may_tell-clause-none
returns-then-not-may_tell-clause-none c =
    let sum = ahead (I64 c.in_ok-sum.sum) [] c.in_ok-at.rest.now c.in_ok-sum.rest.now c.in_ok-sum.rest.now (search rules) (search rules) (ahead_none _) in
    let at = ahead (U64 c.in_ok-at.at) _ c.in_ok-number.rest.now c.in_ok-at.rest.now _ (search rules) (search rules) sum in
    let number = ahead (U64 c.in_ok-number.number) _ c.in_ok-job.rest.now c.in_ok-number.rest.now _ (search rules) (search rules) at in
    let job = ahead (U16 c.in_ok-job.job) _ c.in_ok-about.rest.now c.in_ok-job.rest.now _ (search rules) (search rules) number in
    let about = ahead (Told c.in_ok-about.about) _ c.in_ok-front.rest.now c.in_ok-about.rest.now _ tt (search rules) job in
    let front = ahead (FrontOf c.in_ok-front.front) _ c.args.bytes.now c.in_ok-front.rest.now _ (search rules) (search rules) about in
    let wrong : keeps_sum c.in_ok-about.about c.in_ok-sum.sum ≡ false = ap (keeps_sum c.in_ok-about.about) (sym (to_z-of_z w64 c.in_ok-sum.sum (search rules))) ∙ sym c.may_tell.ensures ∙ c.if-not-may_tell.true in
    no-sum down_row down_kinds down-table 0x87 c.args.bytes.now (Answer c.in_ok-front.front c.in_ok-about.about c.in_ok-job.job c.in_ok-number.number c.in_ok-at.at c.in_ok-sum.sum) c.in_ok-sum.rest.now refl front wrong

pub returns-clause-some : goal.returns-clause-some
returns-clause-some c =
    let sum = ahead (I64 c.in_ok-sum.sum) [] c.in_ok-at.rest.now c.in_ok-sum.rest.now c.in_ok-sum.rest.now (search rules) (search rules) (ahead_none _) in
    let at = ahead (U64 c.in_ok-at.at) _ c.in_ok-number.rest.now c.in_ok-at.rest.now _ (search rules) (search rules) sum in
    let number = ahead (U64 c.in_ok-number.number) _ c.in_ok-job.rest.now c.in_ok-number.rest.now _ (search rules) (search rules) at in
    let job = ahead (U16 c.in_ok-job.job) _ c.in_ok-about.rest.now c.in_ok-job.rest.now _ (search rules) (search rules) number in
    let about = ahead (Told c.in_ok-about.about) _ c.in_ok-front.rest.now c.in_ok-about.rest.now _ tt (search rules) job in
    let front = ahead (FrontOf c.in_ok-front.front) _ c.args.bytes.now c.in_ok-front.rest.now _ (search rules) (search rules) about in
    let kept : keeps_sum c.in_ok-about.about c.in_ok-sum.sum ≡ true = ap (keeps_sum c.in_ok-about.about) (sym (to_z-of_z w64 c.in_ok-sum.sum (search rules))) ∙ sym c.may_tell.ensures ∙ c.if-not-may_tell.false in
    let Taken : ℤ → Type 0 = λ z. IsAhead down_row 0x87 c.args.bytes.now (Answer c.in_ok-front.front c.in_ok-about.about c.in_ok-job.job c.in_ok-number.number c.in_ok-at.at z) c.in_ok-sum.rest.now in
    subst Taken (sym (to_z-of_z w64 c.in_ok-sum.sum (search rules))) (record { kind_is = refl; fields = front; sum = kept })
