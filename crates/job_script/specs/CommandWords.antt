-- The first words of a job's commands.
use Rattle.std.specs.Prelude.{ℕ, List, codes}
use Rattle.job_script.specs.declared.command_word.CommandWord.{CommandWord}
use Rattle.job_script.specs.declared.command_word.CommandWord.TheVariants.{Set, Kill, Get, Shape, Next, Incr, Lock, Unlock, Start, Commit, Rollback, Sync}

-- of a job's command
abbrev pub command_text : CommandWord → List ℕ
command_text Set = codes "set"
command_text Kill = codes "kill"
command_text Get = codes "get"
command_text Shape = codes "data"
command_text Next = codes "next"
command_text Incr = codes "incr"
command_text Lock = codes "lock"
command_text Unlock = codes "unlock"
command_text Start = codes "tstart"
command_text Commit = codes "tcommit"
command_text Rollback = codes "trollback"
command_text Sync = codes "sync"
