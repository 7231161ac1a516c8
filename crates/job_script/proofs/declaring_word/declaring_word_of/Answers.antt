use Rattle.std.proofs.Common.{arith}
use Rattle.job_script.proofs.FirstWordLemmas.{no-declaring_word}
use Rattle.job_script.proofs.declaring_word.declaring_word_of.Goals as goal

pub returns-clause-none : goal.returns-clause-none
returns-clause-none c =
    no-declaring_word c.args.word.now c.loop-declaring.declaring-index (omega arith) (omega arith) c.loop-declaring.invariant
