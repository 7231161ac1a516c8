use Rattle.std.proofs.Common.{◌≢◌, All, take}
use Rattle.job_script.specs.CommandWords.{command_text}
use Rattle.job_script.proofs.command_word.CommandWord.of.Given as goal

abbrev pub invariant-loop-command : goal.invariant-loop-command
invariant-loop-command l = All (λ w. l.word ≢ command_text w) (take l.command-index l.command-items)
