use Rattle.std.proofs.Common.{arith}
use Rattle.global_text.proofs.NumberTokens.{ends-test}
use Rattle.global_text.proofs.number_form.ends_in_nonzero_digit.Goals as goal

pub returns-in-len1-up : goal.returns-in-len1-up
returns-in-len1-up c = ends-test c.args.text.now (omega arith)
