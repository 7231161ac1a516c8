-- Whether a move is allowed next can be told, where its keys, commands and frames have their forms.
-- These forms of keys, subscripts and frames are assumed here and not decided.
use Rattle.std.specs.Prelude.{◌⊎◌, IfSome, ⊤}
use Rattle.std.specs.List.{AllByRecursion}
use Rattle.subscript_keys.specs.Key.{IsKey, IsSub}
use Rattle.plain_orders.specs.declared.entry.Entry.{Entry}
use Rattle.plain_orders.specs.declared.entry.Entry.TheVariants as entries
use Rattle.plain_orders.specs.declared.op.Op.{Op}
use Rattle.plain_orders.specs.declared.op.Op.TheVariants as ops
use Rattle.ecp_messages.specs.Ups.{IsUpFrame}
use Rattle.ecp_messages.specs.Downs.{IsDownFrame}
use Rattle.app_job.specs.Sites.{IsSite}
use Rattle.app_job.specs.declared.command.Command.{Command}
use Rattle.app_job.specs.declared.command.Command.TheVariants as commands
use Rattle.app_rules.specs.declared.app_in.AppIn.{AppIn}
use Rattle.app_rules.specs.declared.app_in.AppIn.TheVariants as app_in
use Rattle.data_rules.specs.declared.data_in.DataIn.{DataIn}
use Rattle.data_rules.specs.declared.data_in.DataIn.TheVariants as data_in
use Rattle.cluster_runs.specs.declared.moves.Move.{Move}
use Rattle.cluster_runs.specs.declared.moves.Move.TheVariants.{Step, Looked, App, Server, Begin}
use Rattle.cluster_runs.specs.CoresState.{CoresState}
use Rattle.cluster_runs.specs.Moves.{Allowed}

-- it is so, or it isn't
abbrev pub IsDecided : Type 0 → Type 0
IsDecided P = P ⊎ (P → ⊥)

-- the key of an operation is a node's
abbrev pub OpHasForm : Op → Type 0
OpHasForm (ops.Set key value) = IsKey key
OpHasForm (ops.Kill key) = IsKey key
OpHasForm (ops.Add key amount) = IsKey key

-- the key of an entry that has one is a node's
abbrev pub EntryHasForm : Entry → Type 0
EntryHasForm (entries.Update session w job txn op) = OpHasForm op
EntryHasForm e = ⊤

-- the key of a command is that of its node, and a subscript is one
abbrev pub CommandHasForm : Command → Type 0
CommandHasForm (commands.Set at value) = IsSite at
CommandHasForm (commands.Kill at) = IsSite at
CommandHasForm (commands.Get at) = IsSite at
CommandHasForm (commands.Shape at) = IsSite at
CommandHasForm (commands.Next parent sub) = IsSite parent × IfSome sub IsSub
CommandHasForm (commands.Incr at amount) = IsSite at
CommandHasForm (commands.Lock at mode wait) = IsSite at
CommandHasForm (commands.Unlock at mode now) = IsSite at
CommandHasForm c = ⊤

-- a frame that an application server takes is one
abbrev pub AppInHasForm : AppIn → Type 0
AppInHasForm (app_in.Frame server down) = IsDownFrame down
AppInHasForm input = ⊤

-- a frame that a data server takes is one
abbrev pub DataInHasForm : DataIn → Type 0
DataInHasForm (data_in.Frame conn up) = IsUpFrame up
DataInHasForm input = ⊤

-- what a move carries has its form
abbrev pub HasForm : Move → Type 0
HasForm (Step job now line command) = CommandHasForm command
HasForm (Looked job line command) = CommandHasForm command
HasForm (App app now input) = AppInHasForm input
HasForm (Server server now input) = DataInHasForm input
HasForm (Begin server now es) = AllByRecursion EntryHasForm es
HasForm move = ⊤

-- Each move that has its form is allowed next or it isn't.
abbrev pub EachIsDecided : Type 0
EachIsDecided = (c : CoresState) (move : Move) → HasForm move → IsDecided (Allowed c move)
