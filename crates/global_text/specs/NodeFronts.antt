-- As much of a node as a text begins with.
use Rattle.std.specs.Prelude.{ℕ, ◌≤◌, List, length, drop, IfOk, IfErr}
use Rattle.std.specs.List.{AllByRecursion}
use Rattle.subscript_keys.specs.declared.sub.Sub.{Sub}
use Rattle.subscript_keys.specs.declared.limits.TheConstants.{KEY_LIMIT}
use Rattle.subscript_keys.specs.Key.{HasForm}
use Rattle.global_text.specs.Nodes.{HasGlobal, ReadsParts, key_length}
use Rattle.global_text.specs.Faults.{StopsBehind}
use Rattle.global_text.specs.declared.node_front.NodeFront.{NodeFront}

-- the node with this name and these subscripts is read, and takes so many bytes
pub record IsReadTo (text name : List ℕ) (subs : List Sub) (taken : ℕ) : Type 0 where
  pub within : taken ≤ length text
  pub parts : ReadsParts name subs text (drop taken text)
  pub forms : AllByRecursion HasForm subs
  pub limit : key_length name subs ≤ KEY_LIMIT

-- the name stands here, and the subscripts after it are read to the node's end or to their fault
pub record IsFront (text : List ℕ) (front : NodeFront) : Type 0 where
  pub global : HasGlobal front.name text
  pub read : IfOk front.end (IsReadTo text front.name front.subs)
  pub stop : IfErr front.end (StopsBehind text front.name front.subs)
