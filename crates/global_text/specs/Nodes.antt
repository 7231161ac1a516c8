-- Nodes as they are written, and their one printed spelling.
use Rattle.std.specs.Prelude.{◌≡◌, ◌⊎◌, ℕ, ◌+◌, ◌≤◌, ◌==◌, ◌||◌, Bool, List, [], ◌∷◌, ◌++◌, length}
use Rattle.std.specs.Char.{is_ascii_alphanumeric}
use Rattle.subscript_keys.specs.declared.sub.Sub.{Sub}
use Rattle.subscript_keys.specs.declared.sub.Sub.TheVariants.{Num, Text}
use Rattle.subscript_keys.specs.declared.node.Node.{Node}
use Rattle.subscript_keys.specs.declared.limits.TheConstants.{KEY_LIMIT}
use Rattle.subscript_keys.specs.Decimal.{decimal_text}
use Rattle.subscript_keys.specs.Key.{sub_bytes, AreBytes, HasForm, IsName}
use Rattle.global_text.specs.Numbers.{BeginsOtherwise}
use Rattle.global_text.specs.Strings.{ReadsString}
use Rattle.global_text.specs.Printed.{quoted}

-- the string of a subscript
abbrev pub sub_string : Sub → List ℕ
sub_string (Num number) = decimal_text number
sub_string (Text text) = text

-- a text begins with a spelling of the subscript; a string that is a number is that number, however it is spelled
abbrev pub ReadsSub : Sub → List ℕ → List ℕ → Type 0
ReadsSub sub text rest = HasForm sub × ReadsString (sub_string sub) text rest

-- subscripts, a comma after each
abbrev pub ReadsSubs : List Sub → List ℕ → List ℕ → Type 0
ReadsSubs [] text rest = text ≡ rest
ReadsSubs (s ∷ subs) text rest = (after : List ℕ) × ReadsSub s text (44 ∷ after) × ReadsSubs subs after rest

-- how many bytes of a key's limit a subscript takes: the empty text, which no key has, takes none
abbrev pub sub_size : Sub → ℕ
sub_size (Num number) = length (sub_bytes (Num number))
sub_size (Text []) = 0
sub_size (Text (b ∷ bytes)) = length (sub_bytes (Text (b ∷ bytes)))

-- and subscripts together
abbrev pub subs_size : List Sub → ℕ
subs_size [] = 0
subs_size (s ∷ subs) = sub_size s + subs_size subs

-- how many bytes of its limit the key of a name and subscripts takes
abbrev pub key_length : List ℕ → List Sub → ℕ
key_length name subs = length name + 1 + subs_size subs

-- reading stands before a subscript, after a caret, a name, a parenthesis and subscripts with their commas
pub record BeforeSub (text name : List ℕ) (subs : List Sub) (rest : List ℕ) : Type 0 where
  pub named : IsName name
  pub listed : (list : List ℕ) × ReadsSubs subs list rest × (text ≡ 94 ∷ (name ++ 40 ∷ list))
  pub within : key_length name subs ≤ KEY_LIMIT

-- reading stands after a subscript
pub record BehindSub (text name : List ℕ) (subs : List Sub) (rest : List ℕ) : Type 0 where
  pub last : (front : List Sub) × (sub : Sub) × (place : List ℕ) × BeforeSub text name front place × ReadsSub sub place rest × (subs ≡ front ++ sub ∷ [])
  pub within : key_length name subs ≤ KEY_LIMIT

-- a caret and a name stand here, and no letter or digit makes it longer
pub record HasGlobal (name text : List ℕ) : Type 0 where
  pub rest : List ℕ
  pub named : IsName name
  pub stands : text ≡ 94 ∷ (name ++ rest)
  pub whole : BeginsOtherwise is_ascii_alphanumeric rest

-- a byte that makes a name longer or begins its subscripts
abbrev pub extends_name : ℕ → Bool
extends_name b = is_ascii_alphanumeric b || b == 40

-- a name alone: all letters and digits that follow belong to it, and no parenthesis follows
abbrev pub ReadsName : List ℕ → List ℕ → List ℕ → Type 0
ReadsName name text rest = IsName name × (text ≡ 94 ∷ (name ++ rest)) × BeginsOtherwise extends_name rest

-- a text begins with a spelling of the node with this name and these subscripts, and rest follows
abbrev pub ReadsParts : List ℕ → List Sub → List ℕ → List ℕ → Type 0
ReadsParts name subs text rest = ((subs ≡ []) × ReadsName name text rest) ⊎ BehindSub text name subs (41 ∷ rest)

-- a text begins with a spelling of the node, and rest follows
abbrev pub ReadsNode : Node → List ℕ → List ℕ → Type 0
ReadsNode node text rest = ReadsParts node.name node.subs text rest

-- a printed subscript
abbrev pub sub_text : Sub → List ℕ
sub_text (Num number) = decimal_text number
sub_text (Text text) = quoted text

-- printed subscripts, a comma before each but the first
abbrev pub more_subs_text : List Sub → List ℕ
more_subs_text [] = []
more_subs_text (s ∷ subs) = 44 ∷ (sub_text s ++ more_subs_text subs)

-- printed subscripts in parentheses, or nothing
abbrev pub subs_text : List Sub → List ℕ
subs_text [] = []
subs_text (s ∷ subs) = 40 ∷ (sub_text s ++ (more_subs_text subs ++ 41 ∷ []))

-- the printed node: its caret, its name, its subscripts
abbrev pub node_text : Node → List ℕ
node_text node = 94 ∷ (node.name ++ subs_text node.subs)

-- each element of a text is a byte
abbrev pub HasBytes : Sub → Type 0
HasBytes (Num number) = Unit {0}
HasBytes (Text text) = AreBytes text
