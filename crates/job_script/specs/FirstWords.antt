-- The first words of lines, other than a job's.
use Rattle.std.specs.Prelude.{ℕ, List, codes}
use Rattle.job_script.specs.declared.declared_line.DeclaringWord.{DeclaringWord}
use Rattle.job_script.specs.declared.declared_line.DeclaringWord.TheVariants.{Data, App, Job, Global, Time}
use Rattle.job_script.specs.declared.todo_word.TodoWord.{TodoWord}
use Rattle.job_script.specs.declared.todo_word.TodoWord.TheVariants.{Hold, Flow, Up, Down, Save, Pump, Tick, Break, Mend, Crash, Restart, Die, Await}

-- of a line that declares something
abbrev pub declaring_text : DeclaringWord → List ℕ
declaring_text Data = codes "data"
declaring_text App = codes "app"
declaring_text Job = codes "job"
declaring_text Global = codes "global"
declaring_text Time = codes "time"

-- of a line that asks for something
abbrev pub todo_text : TodoWord → List ℕ
todo_text Hold = codes "hold"
todo_text Flow = codes "flow"
todo_text Up = codes "up"
todo_text Down = codes "down"
todo_text Save = codes "save"
todo_text Pump = codes "pump"
todo_text Tick = codes "tick"
todo_text Break = codes "break"
todo_text Mend = codes "mend"
todo_text Crash = codes "crash"
todo_text Restart = codes "restart"
todo_text Die = codes "die"
todo_text Await = codes "await"
