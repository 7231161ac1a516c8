-- The text of acts.
use Rattle.std.specs.Prelude.{◌≡◌, ℕ, List, [], ◌∷◌, ◌++◌, codes, length, IfSome}
use Rattle.std.specs.List.{AllByRecursion}
use Rattle.subscript_keys.specs.Key.{IsKey, IsSub}
use Rattle.plain_orders.specs.declared.layout.Layout.{Layout}
use Rattle.plain_orders.specs.declared.causes.ShutCause.{ShutCause}
use Rattle.plain_orders.specs.declared.causes.ShutCause.TheVariants.{Trouble, Replaced, Round}
use Rattle.plain_orders.specs.declared.causes.PairEnd.{PairEnd}
use Rattle.plain_orders.specs.declared.causes.PairEnd.TheVariants.{App, Server}
use Rattle.plain_orders.specs.declared.causes.Loss.{Loss}
use Rattle.plain_orders.specs.declared.causes.Loss.TheVariants.{Reset, Expired, NoWay}
use Rattle.plain_orders.specs.declared.refused.ReasonName.{ReasonName}
use Rattle.plain_orders.specs.declared.refused.ReasonName.TheVariants.{Reset as ResetName, Expired as ExpiredName, NoWay as NoWayName}
use Rattle.plain_orders.specs.declared.refused.Refused.{Refused}
use Rattle.plain_orders.specs.declared.refused.Refused.TheVariants.{NoTransaction, TooDeep, RollbackOnly, LockTimeout, Network}
use Rattle.plain_orders.specs.declared.mode.Mode.{Mode}
use Rattle.plain_orders.specs.declared.op.Op.{Op}
use Rattle.plain_orders.specs.declared.op.Op.TheVariants.{Set, Kill, Add}
use Rattle.plain_orders.specs.declared.entry.Entry.{Entry}
use Rattle.plain_orders.specs.declared.entry.Entry.TheVariants.{Epoch, Opened as OpenEntry, Closed, Update, Commit, Rollback}
use Rattle.plain_orders.specs.declared.item.Item.{Item}
use Rattle.plain_orders.specs.declared.item.Item.TheVariants.{Op as OpItem, Commit as CommitItem, Rollback as RollbackItem}
use Rattle.plain_orders.specs.declared.question.Question.{Question}
use Rattle.plain_orders.specs.declared.question.Question.TheVariants.{Get, Shape, Next}
use Rattle.plain_orders.specs.declared.act.Act.{Act}
use Rattle.plain_orders.specs.declared.act.Act.TheVariants.{Opened, Enter, Synced, Shut, Release, Met, Told, Back, Crash, Issue, Read, Grant, Granted, GiveUp, Quit, Free, Counted, NotWhole, Range, Committed, RolledBack, Reached, Level, Done, Refused as RefusedAct, Broke, Mended, Tick, Lose, Died}
use Rattle.global_text.specs.Printed.{IsPrinted}
use Rattle.transcript.specs.Parts.{field, fields, signed_field, via_word, mode_word, link_word, IsValueText, found_text, IsKeyText, IsBehindText}

-- the line of the times, and for each job the index of its application server
abbrev pub times_line : Layout → List ℕ
times_line l =
    codes "times" ++ (fields (l.times.retry ∷ l.times.trouble ∷ l.times.recover ∷ l.times.round ∷ []) ++ (fields l.job_apps ++ 10 ∷ []))

-- a node is set to a value
abbrev pub IsSetText : List ℕ → List ℕ → List ℕ → Type 0
IsSetText key value text =
    (node : List ℕ) × (shown : List ℕ) × IsKeyText key node × IsPrinted value shown × (text ≡ codes "set " ++ (node ++ (32 ∷ shown)))

-- what an update does
abbrev pub IsOpText : Op → List ℕ → Type 0
IsOpText (Set key value) text = IsSetText key value text
IsOpText (Kill key) text = (node : List ℕ) × IsKeyText key node × (text ≡ codes "kill " ++ node)
IsOpText (Add key amount) text = (node : List ℕ) × IsKeyText key node × (text ≡ codes "add " ++ (node ++ signed_field amount))

-- an entry
abbrev pub IsEntryText : Entry → List ℕ → Type 0
IsEntryText (Epoch number) text = text ≡ codes "epoch" ++ field number
IsEntryText (OpenEntry session app) text = text ≡ codes "open" ++ fields (session ∷ app ∷ [])
IsEntryText (Closed session) text = text ≡ codes "close" ++ field session
IsEntryText (Update session w job txn op) text =
    (shown : List ℕ) × IsOpText op shown × (text ≡ codes "update" ++ (fields (session ∷ w ∷ job ∷ txn ∷ []) ++ (32 ∷ shown)))
IsEntryText (Commit session w job txn) text = text ≡ codes "commit" ++ fields (session ∷ w ∷ job ∷ txn ∷ [])
IsEntryText (Rollback session w job txn) text = text ≡ codes "rollback" ++ fields (session ∷ w ∷ job ∷ txn ∷ [])

-- what a job issues
abbrev pub IsItemText : Item → List ℕ → Type 0
IsItemText (OpItem op) text = IsOpText op text
IsItemText (CommitItem txn) text = text ≡ codes "commit" ++ field txn
IsItemText (RollbackItem txn) text = text ≡ codes "rollback" ++ field txn

-- what a read asked and was answered
abbrev pub IsQuestionText : Question → List ℕ → Type 0
IsQuestionText (Get key value) text =
    (node : List ℕ) × (shown : List ℕ) × IsKeyText key node × IsValueText value shown × (text ≡ codes "get " ++ (node ++ (32 ∷ shown)))
IsQuestionText (Shape key code) text = (node : List ℕ) × IsKeyText key node × (text ≡ codes "data " ++ (node ++ field code))
IsQuestionText (Next parent sub found) text =
    (node : List ℕ) × IsBehindText parent sub node × (text ≡ codes "next " ++ (node ++ (32 ∷ found_text found)))

-- why a data server closed a session
abbrev pub shut_text : ShutCause → List ℕ
shut_text (Trouble time) = codes "trouble" ++ field time
shut_text Replaced = codes "replaced"
shut_text (Round time) = codes "round" ++ field time

-- the end that noticed a break
abbrev pub end_word : PairEnd → List ℕ
end_word App = codes "app"
end_word Server = codes "server"

-- how a session was lost, or no connection could be made
abbrev pub loss_text : Loss → List ℕ
loss_text (Reset at) = codes "reset" ++ field at
loss_text (Expired time) = codes "expired" ++ field time
loss_text (NoWay before after) = codes "noway" ++ fields (before ∷ after ∷ [])

-- why, as a refusal names it
abbrev pub reason_name_word : ReasonName → List ℕ
reason_name_word ResetName = codes "reset"
reason_name_word ExpiredName = codes "expired"
reason_name_word NoWayName = codes "noway"

-- a refusal, a data server by its index
abbrev pub refused_text : Refused → List ℕ
refused_text NoTransaction = codes "notransaction"
refused_text TooDeep = codes "toodeep"
refused_text RollbackOnly = codes "rollbackonly"
refused_text LockTimeout = codes "locktimeout"
refused_text (Network server state reason) = codes "network" ++ (field server ++ (32 ∷ (link_word state ++ (32 ∷ reason_name_word reason))))

-- a mode and the node of a lock's name
unfoldable pub IsLockText : Mode → List ℕ → List ℕ → Type 0
IsLockText mode key text = (node : List ℕ) × IsKeyText key node × (text ≡ mode_word mode ++ (32 ∷ node))

-- the first line of an act, without its LF
abbrev pub IsActText : Act → List ℕ → Type 0
IsActText (Opened server entries) text = text ≡ codes "opened" ++ fields (server ∷ length entries ∷ [])
IsActText (Enter server entry) text = (shown : List ℕ) × IsEntryText entry shown × (text ≡ codes "enter" ++ (field server ++ (32 ∷ shown)))
IsActText (Synced server length) text = text ≡ codes "synced" ++ fields (server ∷ length ∷ [])
IsActText (Shut server session cause) text = text ≡ codes "shut" ++ (fields (server ∷ session ∷ []) ++ (32 ∷ shut_text cause))
IsActText (Release server session) text = text ≡ codes "release" ++ fields (server ∷ session ∷ [])
IsActText (Met app server session) text = text ≡ codes "met" ++ fields (app ∷ server ∷ session ∷ [])
IsActText (Told app server session epoch kept) text = text ≡ codes "told" ++ fields (app ∷ server ∷ session ∷ epoch ∷ kept ∷ [])
IsActText (Back server) text = text ≡ codes "back" ++ field server
IsActText (Crash server kept) text = text ≡ codes "crash" ++ fields (server ∷ kept ∷ [])
IsActText (Issue job line server w item) text =
    (shown : List ℕ) × IsItemText item shown × (text ≡ codes "issue" ++ (fields (job ∷ line ∷ server ∷ w ∷ []) ++ (32 ∷ shown)))
IsActText (Read job line server at via question) text =
    (shown : List ℕ) × IsQuestionText question shown × (text ≡ codes "read" ++ (fields (job ∷ line ∷ server ∷ at ∷ []) ++ (32 ∷ (via_word via ++ (32 ∷ shown)))))
IsActText (Grant server session job mode key at) text =
    (shown : List ℕ) × IsLockText mode key shown × (text ≡ codes "grant" ++ (fields (server ∷ session ∷ job ∷ []) ++ (32 ∷ (shown ++ field at))))
IsActText (Granted job line server at) text = text ≡ codes "granted" ++ fields (job ∷ line ∷ server ∷ at ∷ [])
IsActText (GiveUp job line server mode key) text =
    (shown : List ℕ) × IsLockText mode key shown × (text ≡ codes "giveup" ++ (fields (job ∷ line ∷ server ∷ []) ++ (32 ∷ shown)))
IsActText (Quit job line server mode key) text =
    (shown : List ℕ) × IsLockText mode key shown × (text ≡ codes "quit" ++ (fields (job ∷ line ∷ server ∷ []) ++ (32 ∷ shown)))
IsActText (Free server session job mode key) text =
    (shown : List ℕ) × IsLockText mode key shown × (text ≡ codes "free" ++ (fields (server ∷ session ∷ job ∷ []) ++ (32 ∷ shown)))
IsActText (Counted job line server at sum) text = text ≡ codes "counted" ++ (fields (job ∷ line ∷ server ∷ at ∷ []) ++ signed_field sum)
IsActText (NotWhole job line server at) text = text ≡ codes "notwhole" ++ fields (job ∷ line ∷ server ∷ at ∷ [])
IsActText (Range job line server at) text = text ≡ codes "range" ++ fields (job ∷ line ∷ server ∷ at ∷ [])
IsActText (Committed job line server at) text = text ≡ codes "committed" ++ fields (job ∷ line ∷ server ∷ at ∷ [])
IsActText (RolledBack job line server at) text = text ≡ codes "rolledback" ++ fields (job ∷ line ∷ server ∷ at ∷ [])
IsActText (Reached job line server at) text = text ≡ codes "reached" ++ fields (job ∷ line ∷ server ∷ at ∷ [])
IsActText (Level job line level) text = text ≡ codes "level" ++ fields (job ∷ line ∷ level ∷ [])
IsActText (Done job line) text = text ≡ codes "done" ++ fields (job ∷ line ∷ [])
IsActText (RefusedAct job line refused) text = text ≡ codes "refused" ++ (fields (job ∷ line ∷ []) ++ (32 ∷ refused_text refused))
IsActText (Broke app server end time) text = text ≡ codes "broke" ++ (fields (app ∷ server ∷ []) ++ (32 ∷ (end_word end ++ field time)))
IsActText (Mended app server) text = text ≡ codes "mended" ++ fields (app ∷ server ∷ [])
IsActText (Tick time) text = text ≡ codes "tick" ++ field time
IsActText (Lose app server loss) text = text ≡ codes "lose" ++ (fields (app ∷ server ∷ []) ++ (32 ∷ loss_text loss))
IsActText (Died app) text = text ≡ codes "died" ++ field app

-- a line for each entry
abbrev pub AreEntryLines : List Entry → List ℕ → Type 0
AreEntryLines [] text = text ≡ []
AreEntryLines (e ∷ entries) text =
    (shown : List ℕ) × (rest : List ℕ) × IsEntryText e shown × AreEntryLines entries rest × (text ≡ codes "entry " ++ (shown ++ (10 ∷ rest)))

-- the entries that stand after the first line of an act
abbrev pub entries_behind : Act → List Entry
entries_behind (Opened server entries) = entries
entries_behind act = []

-- the lines of an act, each with its LF
abbrev pub AreActLines : Act → List ℕ → Type 0
AreActLines act text = (line : List ℕ) × (rest : List ℕ) × IsActText act line × AreEntryLines (entries_behind act) rest × (text ≡ line ++ (10 ∷ rest))

-- an update can be printed where its key is a node's
abbrev pub CanPrintOp : Op → Type 0
CanPrintOp (Set key value) = IsKey key
CanPrintOp (Kill key) = IsKey key
CanPrintOp (Add key amount) = IsKey key

-- an entry, where its update can be printed
abbrev pub CanPrintEntry : Entry → Type 0
CanPrintEntry (Update session w job txn op) = CanPrintOp op
CanPrintEntry entry = Unit {0}

-- an item, where its update can be printed
abbrev pub CanPrintItem : Item → Type 0
CanPrintItem (OpItem op) = CanPrintOp op
CanPrintItem item = Unit {0}

-- a read, where its key is a node's and its subscripts are ones that a node may have, so not the empty text
abbrev pub CanPrintQuestion : Question → Type 0
CanPrintQuestion (Get key value) = IsKey key
CanPrintQuestion (Shape key code) = IsKey key
CanPrintQuestion (Next parent sub found) = IsKey parent × IfSome sub IsSub × IfSome found IsSub

-- an entry that is entered, where it can be printed; an Epoch and a Close have acts of their own
abbrev pub CanPrintEntered : Entry → Type 0
CanPrintEntered (Epoch number) = ⊥
CanPrintEntered (Closed session) = ⊥
CanPrintEntered entry = CanPrintEntry entry

-- an act, where each of its keys is a node's, each of its subscripts is one that a node may have, and what is entered is neither an
-- Epoch nor a Close
abbrev pub CanPrintAct : Act → Type 0
CanPrintAct (Opened server entries) = AllByRecursion CanPrintEntry entries
CanPrintAct (Enter server entry) = CanPrintEntered entry
CanPrintAct (Issue job line server w item) = CanPrintItem item
CanPrintAct (Read job line server at via question) = CanPrintQuestion question
CanPrintAct (Grant server session job mode key at) = IsKey key
CanPrintAct (GiveUp job line server mode key) = IsKey key
CanPrintAct (Quit job line server mode key) = IsKey key
CanPrintAct (Free server session job mode key) = IsKey key
CanPrintAct act = Unit {0}
