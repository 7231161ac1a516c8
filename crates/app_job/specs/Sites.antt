-- A node at its data server.
use Rattle.std.specs.Prelude.{◌≡◌, ℕ, List}
use Rattle.subscript_keys.specs.declared.node.Node.{Node}
use Rattle.subscript_keys.specs.Key.{IsNode, IsWithinLimit, key_of}

-- the data server's index, the node, and its key
pub record Site : Type 0 where
  pub server : ℕ
  pub node : Node
  pub key : List ℕ

-- the key is that of the node, and is within the limit
pub record IsSite (site : Site) : Type 0 where
  pub node : IsNode site.node
  pub key : key_of site.node ≡ site.key
  pub within : IsWithinLimit site.key
