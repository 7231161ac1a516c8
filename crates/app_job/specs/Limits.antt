-- Which commands a job may be given.
use Rattle.std.specs.Prelude.{ℕ, ◌<◌, ◌≤◌, ◌++◌, length, Option, None, Some, IfSome, unsigned_abs}
use Rattle.subscript_keys.specs.declared.sub.Sub.{Sub}
use Rattle.subscript_keys.specs.declared.limits.TheConstants.{NUMBER_LIMIT, VALUE_LIMIT}
use Rattle.subscript_keys.specs.Key.{IsSub, IsWithinLimit, sub_bytes}
use Rattle.app_job.specs.Sites.{Site, IsSite}
use Rattle.app_job.specs.declared.command.Command.{Command}
use Rattle.app_job.specs.declared.command.Command.TheVariants.{Set, Kill, Get, Shape, Next, Incr, Lock, Unlock, Start, Commit, Rollback, Sync}

-- the subscript after which a next looks, if it looks after one, has its form, and the key with it is within the limit
abbrev pub NextMay : Site → Option Sub → Type 0
NextMay parent sub = IfSome sub (λ s. IsSub s × IsWithinLimit (parent.key ++ sub_bytes s))

-- how many ticks a job may wait for a grant
abbrev pub IsWait : ℕ → Type 0
IsWait ticks = (1 ≤ ticks) × (ticks ≤ 10000)

-- keys, values and numbers are within their limits
abbrev pub CommandMay : Command → Type 0
CommandMay (Set at value) = IsSite at × (length value ≤ VALUE_LIMIT)
CommandMay (Kill at) = IsSite at
CommandMay (Get at) = IsSite at
CommandMay (Shape at) = IsSite at
CommandMay (Next parent sub) = IsSite parent × NextMay parent sub
CommandMay (Incr at amount) = IsSite at × (unsigned_abs amount < NUMBER_LIMIT)
CommandMay (Lock at mode wait) = IsSite at × IfSome wait IsWait
CommandMay (Unlock at mode now) = IsSite at
CommandMay Start = Unit {0}
CommandMay (Commit sync) = Unit {0}
CommandMay Rollback = Unit {0}
CommandMay (Sync server) = Unit {0}

-- the data server that a command names, if it names one
abbrev pub server_of : Command → Option ℕ
server_of (Set at value) = Some at.server
server_of (Kill at) = Some at.server
server_of (Get at) = Some at.server
server_of (Shape at) = Some at.server
server_of (Next parent sub) = Some parent.server
server_of (Incr at amount) = Some at.server
server_of (Lock at mode wait) = Some at.server
server_of (Unlock at mode now) = Some at.server
server_of Start = None
server_of (Commit sync) = None
server_of Rollback = None
server_of (Sync server) = Some server
