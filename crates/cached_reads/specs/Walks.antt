-- What walks from run to run tell is what the entries leave.
use Rattle.std.specs.Prelude.{◌≡◌, ℕ, true, false, List, Option, IfSome, take}
use Rattle.subscript_keys.specs.declared.run.Run.{Run}
use Rattle.subscript_keys.specs.declared.sub.Sub.{Sub}
use Rattle.subscript_keys.specs.Key.{IsKey, IsSub}
use Rattle.subscript_keys.specs.Span.{span_hi}
use Rattle.plain_orders.specs.declared.entry.Entry.{Entry}
use Rattle.plain_orders.specs.Answers.{data_code, data_on, IsNextOn, IsSubIn}
use Rattle.plain_orders.specs.Ordered.{IsOrdered}
use Rattle.app_rules.specs.Reading.{Walked, Needs, Finds, Ends, walks, holds_below, holds_from, has_value, next_start, found_key}
use Rattle.cached_reads.specs.Laws.{AreTrueAt}

-- where a walk for descendants ends, it tells what the node holds; a run that it finds has a descendant
abbrev pub TellsShape : Walked → List Run → List Entry → List ℕ → Type 0
TellsShape (Needs needed) runs es key = Unit {0}
TellsShape (Finds run) runs es key = data_code (has_value runs key) true ≡ data_on es key
TellsShape Ends runs es key = data_code (has_value runs key) false ≡ data_on es key

-- The walk for a node's descendants tells whether it has a value and descendants.
abbrev pub WalksTellShapes : Type 0
WalksTellShapes = (es : List Entry) (n : ℕ) (runs : List Run) (key : List ℕ) → IsOrdered es → AreTrueAt es n runs → IsKey key
    → TellsShape (walks (holds_below key) (span_hi key) key runs).walked runs (take n es) key

-- a subscript that stands in the key that was found is the next
abbrev pub FindsNext : Walked → List Entry → List ℕ → Option Sub → Type 0
FindsNext x es parent sub = (found : Option Sub) → IsSubIn parent (found_key x parent sub) found → IsNextOn es parent sub found

-- where a walk for the next subscript ends, it has found it
abbrev pub TellsNext : Walked → List Entry → List ℕ → Option Sub → Type 0
TellsNext (Needs needed) es parent sub = Unit {0}
TellsNext (Finds run) es parent sub = FindsNext (Finds run) es parent sub
TellsNext Ends es parent sub = FindsNext Ends es parent sub

-- The walk for the subscript after another of a parent finds it.
abbrev pub WalksTellNext : Type 0
WalksTellNext = (es : List Entry) (n : ℕ) (runs : List Run) (parent : List ℕ) (sub : Option Sub) → IsOrdered es → AreTrueAt es n runs
    → IsKey parent → IfSome sub IsSub
    → TellsNext (walks (holds_from (next_start parent sub)) (span_hi parent) (next_start parent sub) runs).walked (take n es) parent sub
