use Rattle.std.proofs.Common.{◌≢◌, get_or, rules, arith}
use Rattle.job_script.specs.declared.command_word.CommandWord.TheVariants.{Set}
use Rattle.job_script.specs.CommandWords.{command_text}
use Rattle.job_script.proofs.CommandLemmas.{command_words, no-command_word, one-more-command_word}
use Rattle.job_script.proofs.command_word.CommandWord.of.Goals as goal

pub loop-command-preserved : goal.loop-command-preserved
loop-command-preserved c =
    let other : c.args.word.now ≢ command_text (get_or command_words c.loop-command.command-index Set) = search rules in
    one-more-command_word c.args.word.now c.loop-command.command-index (omega arith) c.loop-command.invariant other

pub returns-clause-none : goal.returns-clause-none
returns-clause-none c =
    no-command_word c.args.word.now c.loop-command.command-index (omega arith) (omega arith) c.loop-command.invariant
