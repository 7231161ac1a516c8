-- The parts that the texts of answers and acts are made of.
use Rattle.std.specs.Prelude.{◌≡◌, ℕ, ℤ, List, [], ◌∷◌, ◌++◌, Option, None, Some, codes, slice_index_or}
use Rattle.std.specs.List.{flat_map}
use Rattle.std.specs.Fmt.{decimal, signed_decimal}
use Rattle.subscript_keys.specs.declared.node.Node.{Node}
use Rattle.subscript_keys.specs.declared.sub.Sub.{Sub}
use Rattle.subscript_keys.specs.declared.sub.Sub.TheVariants.{Text}
use Rattle.subscript_keys.specs.Key.{IsNode, key_of}
use Rattle.global_text.specs.Nodes.{node_text, sub_text}
use Rattle.global_text.specs.Printed.{IsPrinted}
use Rattle.plain_orders.specs.declared.via.Via.{Via}
use Rattle.plain_orders.specs.declared.via.Via.TheVariants.{Own, Cached, Fetched}
use Rattle.plain_orders.specs.declared.mode.Mode.{Mode}
use Rattle.plain_orders.specs.declared.mode.Mode.TheVariants.{Exclusive, Shared}
use Rattle.plain_orders.specs.declared.refused.LinkName.{LinkName}
use Rattle.plain_orders.specs.declared.refused.LinkName.TheVariants.{NotConnected, Normal, Trouble, Recovery}

-- a space and a number
abbrev pub field : ℕ → List ℕ
field n = 32 ∷ decimal n

-- numbers, a space before each
abbrev pub fields : List ℕ → List ℕ
fields numbers = flat_map field numbers

-- a space and a number with its sign
abbrev pub signed_field : ℤ → List ℕ
signed_field n = 32 ∷ signed_decimal n

-- a declared name by its index; an index that isn't declared has none
abbrev pub name_at : List (List ℕ) → ℕ → List ℕ
name_at names index = slice_index_or names index []

-- where an answer came from
abbrev pub via_word : Via → List ℕ
via_word Own = codes "own"
via_word Cached = codes "cached"
via_word Fetched = codes "fetched"

-- how a lock is held
abbrev pub mode_word : Mode → List ℕ
mode_word Exclusive = codes "exclusive"
mode_word Shared = codes "shared"

-- the state of a connection
abbrev pub link_word : LinkName → List ℕ
link_word NotConnected = codes "NotConnected"
link_word Normal = codes "Normal"
link_word Trouble = codes "Trouble"
link_word Recovery = codes "Recovery"

-- a value, or none
abbrev pub IsValueText : Option (List ℕ) → List ℕ → Type 0
IsValueText None text = text ≡ codes "none"
IsValueText (Some value) text = IsPrinted value text

-- a subscript; in the place of one that is missing stands the empty text
abbrev pub or_empty : Option Sub → Sub
or_empty None = Text []
or_empty (Some sub) = sub

-- a subscript that may be missing, as it is printed
abbrev pub found_text : Option Sub → List ℕ
found_text sub = sub_text (or_empty sub)

-- the text of the node with this key
abbrev pub IsKeyText : List ℕ → List ℕ → Type 0
IsKeyText key text = (node : Node) × IsNode node × (key_of node ≡ key) × (text ≡ node_text node)

-- a node with one subscript more
abbrev pub below : Node → Sub → Node
below node sub = record { name = node.name; subs = node.subs ++ sub ∷ [] }

-- the text of the node with this key and a subscript more, the empty text where it is missing
abbrev pub IsBehindText : List ℕ → Option Sub → List ℕ → Type 0
IsBehindText key sub text = (node : Node) × IsNode node × (key_of node ≡ key) × (text ≡ node_text (below node (or_empty sub)))
