-- The three tables: the kinds of a row's parts by its first word, and the line by its row.
use Rattle.std.proofs.Common.{◌≡◌, ℕ, Bool, true, false, List, [], ◌∷◌, map, ℤ, refl, sym, ap, ◌∙◌, arith}
use Rattle.std.specs.Prelude.{Option, None, pos, codes, if◌then◌else◌}
use Rattle.plain_orders.specs.declared.mode.Mode.{Mode}
use Rattle.plain_orders.specs.declared.mode.Mode.TheVariants.{Exclusive, Shared}
use Rattle.subscript_keys.specs.declared.sub.Sub.{Sub}
use Rattle.app_job.specs.Sites.{Site}
use Rattle.app_job.specs.declared.command.Command.{Command}
use Rattle.app_job.specs.declared.command.Command.TheVariants.{Set, Kill, Get, Shape, Next, Incr, Lock, Unlock, Start, Commit, Rollback, Sync}
use Rattle.job_script.specs.declared.declared.Declared.{Declared}
use Rattle.job_script.specs.declared.declaration.Declaration.{Declaration}
use Rattle.job_script.specs.declared.declaration.Declaration.TheVariants.{Server as ServerDeclared, App as AppDeclared, Job as JobDeclared, Global as GlobalDeclared, Time as TimeDeclared}
use Rattle.job_script.specs.declared.name_kind.NameKind.TheVariants.{Server, App, Job}
use Rattle.job_script.specs.declared.setting.Setting.{Setting}
use Rattle.job_script.specs.declared.setting.Setting.TheVariants.{Retry}
use Rattle.job_script.specs.declared.todo.Todo.{Todo}
use Rattle.job_script.specs.declared.todo.Todo.TheVariants.{Job as JobTodo, Hold, Flow, Up, Down, Save, Pump, Tick, Break, Mend, Crash, Restart, Die, Await}
use Rattle.job_script.specs.Names.{is_same}
use Rattle.job_script.specs.Parts.{Part, NewName, NewGlobal, OfKind, ASetting, ANumber, APick, AnAmount, ANode, ANext, AValue, AFlag, AWait}
use Rattle.job_script.specs.Rows.{declaration_row, todo_row, command_row, Reads}
use Rattle.job_script.specs.Words.{first_word}
use Rattle.job_script.proofs.WordLaws.{has_colon, has_hash, no-space-ahead}
use Rattle.job_script.proofs.PartLaws.{Slot, NewNameSlot, NewGlobalSlot, OfKindSlot, SettingSlot, NumberSlot, PickSlot, AmountSlot, NodeSlot, NextSlot, ValueSlot, FlagSlot, WaitSlot, slot_of, AreFit}
use Rattle.job_script.proofs.RowLaws.{IsTable, one-row}

-- what the parts of a row say
abbrev first_part : List Part → Part
first_part [] = APick 0
first_part (p ∷ parts) = p

abbrev second_part : List Part → Part
second_part [] = APick 0
second_part (p ∷ parts) = first_part parts

abbrev third_part : List Part → Part
third_part [] = APick 0
third_part (p ∷ parts) = second_part parts

abbrev name_in : Part → List ℕ
name_in (NewName kind name) = name
name_in (NewGlobal name) = name
name_in part = []

abbrev number_in : Part → ℕ
number_in (OfKind kind index) = index
number_in (ANumber least most number) = number
number_in (APick pick) = pick
number_in part = 0

abbrev setting_in : Part → Setting
setting_in (ASetting setting) = setting
setting_in part = Retry

abbrev site_in : Part → Site
site_in (ANode site) = site
site_in (ANext parent sub) = parent
site_in part = record { server = 0; node = record { name = []; subs = [] }; key = [] }

abbrev sub_in : Part → Option Sub
sub_in (ANext parent sub) = sub
sub_in part = None

abbrev value_in : Part → List ℕ
value_in (AValue value) = value
value_in part = []

abbrev amount_in : Part → ℤ
amount_in (AnAmount amount) = amount
amount_in part = pos 0

abbrev flag_in : Part → Bool
flag_in (AFlag word is_there) = is_there
flag_in part = false

abbrev wait_in : Part → Option ℕ
wait_in (AWait wait) = wait
wait_in part = None

abbrev mode_from : Bool → Mode
mode_from true = Shared
mode_from false = Exclusive

-- declarations
abbrev declaration_kinds : List ℕ → List Slot
declaration_kinds word =
    if is_same word (codes "data") then NewNameSlot Server ∷ []
    else (if is_same word (codes "app") then NewNameSlot App ∷ []
    else (if is_same word (codes "job") then NewNameSlot Job ∷ OfKindSlot App ∷ []
    else (if is_same word (codes "global") then NewGlobalSlot ∷ OfKindSlot Server ∷ []
    else SettingSlot ∷ NumberSlot 1 100000 ∷ [])))

abbrev declaration_from : List ℕ → List Part → Declaration
declaration_from word parts =
    if is_same word (codes "data") then ServerDeclared (name_in (first_part parts))
    else (if is_same word (codes "app") then AppDeclared (name_in (first_part parts))
    else (if is_same word (codes "job") then JobDeclared (name_in (first_part parts)) (number_in (second_part parts))
    else (if is_same word (codes "global") then GlobalDeclared (name_in (first_part parts)) (number_in (second_part parts))
    else TimeDeclared (setting_in (first_part parts)) (number_in (second_part parts)))))

declaration-kinds : (x : Declaration) → declaration_kinds (declaration_row x).word ≡ map slot_of (declaration_row x).parts
declaration-kinds (ServerDeclared name) = refl
declaration-kinds (AppDeclared name) = refl
declaration-kinds (JobDeclared name app) = refl
declaration-kinds (GlobalDeclared name server) = refl
declaration-kinds (TimeDeclared setting ticks) = refl

declaration-fit : (x : Declaration) → AreFit (declaration_row x).parts
declaration-fit (ServerDeclared name) = (tt, tt)
declaration-fit (AppDeclared name) = (tt, tt)
declaration-fit (JobDeclared name app) = (tt, (tt, tt))
declaration-fit (GlobalDeclared name server) = (tt, (tt, tt))
declaration-fit (TimeDeclared setting ticks) = (tt, (omega arith, tt))

pub declaration-table : IsTable declaration_row
declaration-table = record { kinds = declaration_kinds; kinds_are = declaration-kinds; fit = declaration-fit }

declaration-kept : (x : Declaration) → declaration_from (declaration_row x).word (declaration_row x).parts ≡ x
declaration-kept (ServerDeclared name) = refl
declaration-kept (AppDeclared name) = refl
declaration-kept (JobDeclared name app) = refl
declaration-kept (GlobalDeclared name server) = refl
declaration-kept (TimeDeclared setting ticks) = refl

pub one-declaration : (d : Declared) (text : List ℕ) (x y : Declaration) → Reads declaration_row d text x → Reads declaration_row d text y → x ≡ y
one-declaration d text x y p q =
    let same = one-row declaration_row declaration-table d text x y p q in
    sym (declaration-kept x) ∙ ap (λ w. declaration_from w (declaration_row x).parts) same.0 ∙ ap (λ ps. declaration_from (declaration_row y).word ps) same.1 ∙ declaration-kept y

-- the other lines
abbrev pair_kinds : List Slot
pair_kinds = OfKindSlot App ∷ OfKindSlot Server ∷ []

abbrev todo_kinds : List ℕ → List Slot
todo_kinds word =
    if is_same word (codes "up") then pair_kinds
    else (if is_same word (codes "down") then pair_kinds
    else (if is_same word (codes "save") then OfKindSlot Server ∷ []
    else (if is_same word (codes "tick") then NumberSlot 1 10000 ∷ []
    else (if is_same word (codes "break") then pair_kinds
    else (if is_same word (codes "mend") then pair_kinds
    else (if is_same word (codes "crash") then OfKindSlot Server ∷ PickSlot ∷ []
    else (if is_same word (codes "restart") then OfKindSlot Server ∷ []
    else (if is_same word (codes "die") then OfKindSlot App ∷ []
    else (if is_same word (codes "await") then OfKindSlot Job ∷ []
    else [])))))))))

abbrev todo_from : List ℕ → List Part → Todo
todo_from word parts =
    if is_same word (codes "hold") then Hold
    else (if is_same word (codes "flow") then Flow
    else (if is_same word (codes "up") then Up (number_in (first_part parts)) (number_in (second_part parts))
    else (if is_same word (codes "down") then Down (number_in (first_part parts)) (number_in (second_part parts))
    else (if is_same word (codes "save") then Save (number_in (first_part parts))
    else (if is_same word (codes "tick") then Tick (number_in (first_part parts))
    else (if is_same word (codes "break") then Break (number_in (first_part parts)) (number_in (second_part parts))
    else (if is_same word (codes "mend") then Mend (number_in (first_part parts)) (number_in (second_part parts))
    else (if is_same word (codes "crash") then Crash (number_in (first_part parts)) (number_in (second_part parts))
    else (if is_same word (codes "restart") then Restart (number_in (first_part parts))
    else (if is_same word (codes "die") then Die (number_in (first_part parts))
    else (if is_same word (codes "await") then Await (number_in (first_part parts))
    else Pump)))))))))))

todo-kinds : (x : Todo) → todo_kinds (todo_row x).word ≡ map slot_of (todo_row x).parts
todo-kinds (JobTodo job command) = refl
todo-kinds Hold = refl
todo-kinds Flow = refl
todo-kinds (Up app server) = refl
todo-kinds (Down app server) = refl
todo-kinds (Save server) = refl
todo-kinds Pump = refl
todo-kinds (Tick count) = refl
todo-kinds (Break app server) = refl
todo-kinds (Mend app server) = refl
todo-kinds (Crash server pick) = refl
todo-kinds (Restart server) = refl
todo-kinds (Die app) = refl
todo-kinds (Await job) = refl

todo-fit : (x : Todo) → AreFit (todo_row x).parts
todo-fit (JobTodo job command) = tt
todo-fit Hold = tt
todo-fit Flow = tt
todo-fit (Up app server) = (tt, (tt, tt))
todo-fit (Down app server) = (tt, (tt, tt))
todo-fit (Save server) = (tt, tt)
todo-fit Pump = tt
todo-fit (Tick count) = (omega arith, tt)
todo-fit (Break app server) = (tt, (tt, tt))
todo-fit (Mend app server) = (tt, (tt, tt))
todo-fit (Crash server pick) = (tt, (tt, tt))
todo-fit (Restart server) = (tt, tt)
todo-fit (Die app) = (tt, tt)
todo-fit (Await job) = (tt, tt)

pub todo-table : IsTable todo_row
todo-table = record { kinds = todo_kinds; kinds_are = todo-kinds; fit = todo-fit }

todo-kept : (x : Todo) (text : List ℕ) → (todo_row x).word ≡ first_word text → todo_from (todo_row x).word (todo_row x).parts ≡ x
todo-kept (JobTodo job command) text e = absurd (no-space-ahead text [] e)
todo-kept Hold text e = refl
todo-kept Flow text e = refl
todo-kept (Up app server) text e = refl
todo-kept (Down app server) text e = refl
todo-kept (Save server) text e = refl
todo-kept Pump text e = refl
todo-kept (Tick count) text e = refl
todo-kept (Break app server) text e = refl
todo-kept (Mend app server) text e = refl
todo-kept (Crash server pick) text e = refl
todo-kept (Restart server) text e = refl
todo-kept (Die app) text e = refl
todo-kept (Await job) text e = refl

pub one-todo : (d : Declared) (text : List ℕ) (x y : Todo) → Reads todo_row d text x → Reads todo_row d text y → x ≡ y
one-todo d text x y p q =
    let same = one-row todo_row todo-table d text x y p q in
    sym (todo-kept x text p.behind.word_is) ∙ ap (λ w. todo_from w (todo_row x).parts) same.0 ∙ ap (λ ps. todo_from (todo_row y).word ps) same.1 ∙ todo-kept y text q.behind.word_is

-- commands
abbrev command_kinds : List ℕ → List Slot
command_kinds word =
    if is_same word (codes "set") then NodeSlot ∷ ValueSlot ∷ []
    else (if is_same word (codes "kill") then NodeSlot ∷ []
    else (if is_same word (codes "get") then NodeSlot ∷ []
    else (if is_same word (codes "data") then NodeSlot ∷ []
    else (if is_same word (codes "next") then NextSlot ∷ []
    else (if is_same word (codes "incr") then NodeSlot ∷ AmountSlot ∷ []
    else (if is_same word (codes "lock") then NodeSlot ∷ FlagSlot (codes "shared") ∷ WaitSlot ∷ []
    else (if is_same word (codes "unlock") then NodeSlot ∷ FlagSlot (codes "shared") ∷ FlagSlot (codes "now") ∷ []
    else (if is_same word (codes "tcommit") then FlagSlot (codes "sync") ∷ []
    else (if is_same word (codes "sync") then OfKindSlot Server ∷ []
    else [])))))))))

abbrev command_from : List ℕ → List Part → Command
command_from word parts =
    if is_same word (codes "set") then Set (site_in (first_part parts)) (value_in (second_part parts))
    else (if is_same word (codes "kill") then Kill (site_in (first_part parts))
    else (if is_same word (codes "get") then Get (site_in (first_part parts))
    else (if is_same word (codes "data") then Shape (site_in (first_part parts))
    else (if is_same word (codes "next") then Next (site_in (first_part parts)) (sub_in (first_part parts))
    else (if is_same word (codes "incr") then Incr (site_in (first_part parts)) (amount_in (second_part parts))
    else (if is_same word (codes "lock") then Lock (site_in (first_part parts)) (mode_from (flag_in (second_part parts))) (wait_in (third_part parts))
    else (if is_same word (codes "unlock") then Unlock (site_in (first_part parts)) (mode_from (flag_in (second_part parts))) (flag_in (third_part parts))
    else (if is_same word (codes "tstart") then Start
    else (if is_same word (codes "tcommit") then Commit (flag_in (first_part parts))
    else (if is_same word (codes "trollback") then Rollback
    else Sync (number_in (first_part parts))))))))))))

command-kinds : (x : Command) → command_kinds (command_row x).word ≡ map slot_of (command_row x).parts
command-kinds (Set at value) = refl
command-kinds (Kill at) = refl
command-kinds (Get at) = refl
command-kinds (Shape at) = refl
command-kinds (Next parent sub) = refl
command-kinds (Incr at amount) = refl
command-kinds (Lock at mode wait) = refl
command-kinds (Unlock at mode now) = refl
command-kinds Start = refl
command-kinds (Commit sync) = refl
command-kinds Rollback = refl
command-kinds (Sync server) = refl

command-fit : (x : Command) → AreFit (command_row x).parts
command-fit (Set at value) = (tt, (tt, tt))
command-fit (Kill at) = (tt, tt)
command-fit (Get at) = (tt, tt)
command-fit (Shape at) = (tt, tt)
command-fit (Next parent sub) = (tt, tt)
command-fit (Incr at amount) = (tt, (tt, tt))
command-fit (Lock at mode wait) = (tt, (tt, (tt, tt)))
command-fit (Unlock at mode now) = (tt, (tt, (tt, tt)))
command-fit Start = tt
command-fit (Commit sync) = (tt, tt)
command-fit Rollback = tt
command-fit (Sync server) = (tt, tt)

pub command-table : IsTable command_row
command-table = record { kinds = command_kinds; kinds_are = command-kinds; fit = command-fit }

command-kept : (x : Command) → command_from (command_row x).word (command_row x).parts ≡ x
command-kept (Set at value) = refl
command-kept (Kill at) = refl
command-kept (Get at) = refl
command-kept (Shape at) = refl
command-kept (Next parent sub) = refl
command-kept (Incr at amount) = refl
command-kept (Lock at Exclusive wait) = refl
command-kept (Lock at Shared wait) = refl
command-kept (Unlock at Exclusive now) = refl
command-kept (Unlock at Shared now) = refl
command-kept Start = refl
command-kept (Commit sync) = refl
command-kept Rollback = refl
command-kept (Sync server) = refl

pub one-command : (d : Declared) (text : List ℕ) (x y : Command) → Reads command_row d text x → Reads command_row d text y → x ≡ y
one-command d text x y p q =
    let same = one-row command_row command-table d text x y p q in
    sym (command-kept x) ∙ ap (λ w. command_from w (command_row x).parts) same.0 ∙ ap (λ ps. command_from (command_row y).word ps) same.1 ∙ command-kept y

-- what tells first words apart
abbrev pub is_declaring : List ℕ → Bool
is_declaring word =
    if is_same word (codes "data") then true
    else (if is_same word (codes "app") then true
    else (if is_same word (codes "job") then true
    else (if is_same word (codes "global") then true
    else is_same word (codes "time"))))

pub declaring-word : (x : Declaration) → is_declaring (declaration_row x).word ≡ true
declaring-word (ServerDeclared name) = refl
declaring-word (AppDeclared name) = refl
declaring-word (JobDeclared name app) = refl
declaring-word (GlobalDeclared name server) = refl
declaring-word (TimeDeclared setting ticks) = refl

-- a plain word declares nothing, and has neither a colon nor a hash
pub record IsPlainWord (word : List ℕ) : Type 0 where
  pub no_colon : has_colon word ≡ false
  pub no_hash : has_hash word ≡ false

pub declaration-plain : (x : Declaration) → IsPlainWord (declaration_row x).word
declaration-plain (ServerDeclared name) = record { no_colon = refl; no_hash = refl }
declaration-plain (AppDeclared name) = record { no_colon = refl; no_hash = refl }
declaration-plain (JobDeclared name app) = record { no_colon = refl; no_hash = refl }
declaration-plain (GlobalDeclared name server) = record { no_colon = refl; no_hash = refl }
declaration-plain (TimeDeclared setting ticks) = record { no_colon = refl; no_hash = refl }

pub todo-plain : (x : Todo) → IsPlainWord (todo_row x).word
todo-plain (JobTodo job command) = record { no_colon = refl; no_hash = refl }
todo-plain Hold = record { no_colon = refl; no_hash = refl }
todo-plain Flow = record { no_colon = refl; no_hash = refl }
todo-plain (Up app server) = record { no_colon = refl; no_hash = refl }
todo-plain (Down app server) = record { no_colon = refl; no_hash = refl }
todo-plain (Save server) = record { no_colon = refl; no_hash = refl }
todo-plain Pump = record { no_colon = refl; no_hash = refl }
todo-plain (Tick count) = record { no_colon = refl; no_hash = refl }
todo-plain (Break app server) = record { no_colon = refl; no_hash = refl }
todo-plain (Mend app server) = record { no_colon = refl; no_hash = refl }
todo-plain (Crash server pick) = record { no_colon = refl; no_hash = refl }
todo-plain (Restart server) = record { no_colon = refl; no_hash = refl }
todo-plain (Die app) = record { no_colon = refl; no_hash = refl }
todo-plain (Await job) = record { no_colon = refl; no_hash = refl }

pub todo-no-declaring : (x : Todo) → is_declaring (todo_row x).word ≡ false
todo-no-declaring (JobTodo job command) = refl
todo-no-declaring Hold = refl
todo-no-declaring Flow = refl
todo-no-declaring (Up app server) = refl
todo-no-declaring (Down app server) = refl
todo-no-declaring (Save server) = refl
todo-no-declaring Pump = refl
todo-no-declaring (Tick count) = refl
todo-no-declaring (Break app server) = refl
todo-no-declaring (Mend app server) = refl
todo-no-declaring (Crash server pick) = refl
todo-no-declaring (Restart server) = refl
todo-no-declaring (Die app) = refl
todo-no-declaring (Await job) = refl
