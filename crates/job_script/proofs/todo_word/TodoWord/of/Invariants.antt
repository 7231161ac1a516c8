use Rattle.std.proofs.Common.{◌≢◌, All, take}
use Rattle.job_script.specs.FirstWords.{todo_text}
use Rattle.job_script.proofs.todo_word.TodoWord.of.Given as goal

abbrev pub invariant-loop-todo : goal.invariant-loop-todo
invariant-loop-todo l = All (λ w. l.word ≢ todo_text w) (take l.todo-index l.todo-items)
