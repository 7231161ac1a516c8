use Rattle.std.proofs.Common.{◌≢◌, All, take}
use Rattle.job_script.specs.FirstWords.{declaring_text}
use Rattle.job_script.proofs.declaring_word.declaring_word_of.Given as goal

abbrev pub invariant-loop-declaring : goal.invariant-loop-declaring
invariant-loop-declaring l = All (λ w. l.word ≢ declaring_text w) (take l.declaring-index l.declaring-items)
