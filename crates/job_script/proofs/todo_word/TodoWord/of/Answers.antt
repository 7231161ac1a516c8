use Rattle.std.proofs.Common.{◌≢◌, get_or, rules, arith}
use Rattle.job_script.specs.declared.todo_word.TodoWord.TheVariants.{Hold}
use Rattle.job_script.specs.FirstWords.{todo_text}
use Rattle.job_script.proofs.FirstWordLemmas.{todo_words, no-todo_word, one-more-todo_word}
use Rattle.job_script.proofs.todo_word.TodoWord.of.Goals as goal

pub loop-todo-preserved : goal.loop-todo-preserved
loop-todo-preserved c =
    let other : c.args.word.now ≢ todo_text (get_or todo_words c.loop-todo.todo-index Hold) = search rules in
    one-more-todo_word c.args.word.now c.loop-todo.todo-index (omega arith) c.loop-todo.invariant other

pub returns-clause-none : goal.returns-clause-none
returns-clause-none c =
    no-todo_word c.args.word.now c.loop-todo.todo-index (omega arith) (omega arith) c.loop-todo.invariant
