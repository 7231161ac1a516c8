-- What is answered from cached runs that are true is what the entries leave.
use Rattle.std.specs.Prelude.{◌≡◌, ℕ, true, false, List, [], Some, take}
use Rattle.std.specs.List.{find, AllByRecursion}
use Rattle.subscript_keys.specs.declared.run.Run.{Run}
use Rattle.plain_orders.specs.declared.entry.Entry.{Entry}
use Rattle.plain_orders.specs.declared.op.Op.{Op}
use Rattle.plain_orders.specs.declared.op.Op.TheVariants.{Set, Kill, Add}
use Rattle.plain_orders.specs.Own.{touches_own, ops_after, value_over}
use Rattle.plain_orders.specs.PairMap.{value_at}
use Rattle.end_words.specs.Runs.{TrueAt, covers, pairs_of}

-- each of the runs has just the pairs that the first n entries leave in its span
abbrev pub AreTrueAt : List Entry → ℕ → List Run → Type 0
AreTrueAt es n runs = AllByRecursion (λ run. TrueAt run es n) runs

-- an operation is a Set or a Kill
abbrev pub IsChange : Op → Type 0
IsChange (Set key value) = Unit {0}
IsChange (Kill key) = Unit {0}
IsChange (Add key amount) = ⊥

-- A get of a node that no own update touches is answered from the first run that covers it.
abbrev pub RunsAnswerGets : Type 0
RunsAnswerGets = (es : List Entry) (n : ℕ) (runs : List Run) (run : Run) (ops : List Op) (key : List ℕ)
    → AreTrueAt es n runs → find (covers key) runs ≡ Some run → touches_own ops key ≡ false
    → value_at (pairs_of run) key ≡ value_over (take n es) ops key

-- Own Sets and Kills that touch a node decide its value, whatever the entries before them leave.
abbrev pub OwnUpdatesDecide : Type 0
OwnUpdatesDecide = (es : List Entry) (ops : List Op) (key : List ℕ) → AllByRecursion IsChange ops → touches_own ops key ≡ true
    → value_at (ops_after [] ops) key ≡ value_over es ops key
