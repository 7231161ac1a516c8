-- The parts of a line after its first word, and where a text begins with one.
use Rattle.std.specs.Prelude.{◌≡◌, ◌≢◌, ◌⊎◌, ℕ, ◌<◌, ◌≤◌, ◌^◌, Bool, true, false, List, [], ◌∷◌, ◌++◌, length, Option, None, Some, ℤ, unsigned_abs, codes}
use Rattle.std.specs.Fmt.{decimal, signed_decimal}
use Rattle.subscript_keys.specs.declared.sub.Sub.{Sub}
use Rattle.subscript_keys.specs.declared.sub.Sub.TheVariants.{Num, Text}
use Rattle.subscript_keys.specs.declared.limits.TheConstants.{NUMBER_LIMIT, VALUE_LIMIT}
use Rattle.subscript_keys.specs.Key.{IsName}
use Rattle.global_text.specs.Strings.{ReadsString}
use Rattle.global_text.specs.Nodes.{ReadsParts}
use Rattle.app_job.specs.Sites.{Site, IsSite}
use Rattle.app_job.specs.Limits.{IsWait}
use Rattle.job_script.specs.declared.declared.Declared.{Declared}
use Rattle.job_script.specs.declared.name_kind.NameKind.{NameKind}
use Rattle.job_script.specs.declared.setting.Setting.{Setting}
use Rattle.job_script.specs.Names.{IsNodeName, index_of, has_name, HasRoom, server_of, GLOBALS, setting_word}
use Rattle.job_script.specs.Words.{IsAhead, IsWordEnd, first_word, spaces_off}

-- a part, with what it says
pub data Part : Type 0 where
  NewName : (kind : NameKind) (name : List ℕ) → Part
  NewGlobal : (name : List ℕ) → Part
  OfKind : (kind : NameKind) (index : ℕ) → Part
  ASetting : (setting : Setting) → Part
  ANumber : (least most number : ℕ) → Part
  APick : (pick : ℕ) → Part
  AnAmount : (amount : ℤ) → Part
  ANode : (site : Site) → Part
  ANext : (parent : Site) (sub : Option Sub) → Part
  AValue : (value : List ℕ) → Part
  AFlag : (word : List ℕ) (is_there : Bool) → Part
  AWait : (wait : Option ℕ) → Part

-- a string or a node is followed by spaces and rest, or by the line's end
pub record EndsBefore (behind rest : List ℕ) : Type 0 where
  pub end : IsWordEnd behind
  pub rest_is : spaces_off behind ≡ rest

-- a last subscript that is the empty text stands before the first
abbrev pub asked : Sub → Option Sub
asked (Text []) = None
asked (Text (b ∷ bytes)) = Some (Text (b ∷ bytes))
asked (Num number) = Some (Num number)

-- a word that is optional stands here, or not
abbrev pub TakesFlag : List ℕ → Bool → List ℕ → List ℕ → Type 0
TakesFlag word true text rest = IsAhead word text rest
TakesFlag word false text rest = (first_word text ≢ word) × (rest ≡ text)

-- `wait N` stands here, or not
abbrev pub TakesWait : Option ℕ → List ℕ → List ℕ → Type 0
TakesWait None text rest = (first_word text ≢ codes "wait") × (rest ≡ text)
TakesWait (Some ticks) text rest = (behind : List ℕ) × IsAhead (codes "wait") text behind × IsAhead (decimal ticks) behind rest × IsWait ticks

-- a text begins with this part, and rest follows it
abbrev pub TakesPart : Declared → Part → List ℕ → List ℕ → Type 0
TakesPart d (NewName kind name) text rest = IsAhead name text rest × IsNodeName name × (has_name d name ≡ false) × HasRoom d kind
TakesPart d (NewGlobal name) text rest = IsAhead (94 ∷ name) text rest × IsName name × (server_of d.globals name ≡ None) × (length d.globals < GLOBALS)
TakesPart d (OfKind kind index) text rest = (name : List ℕ) × IsAhead name text rest × IsNodeName name × (index_of d kind name ≡ Some index)
TakesPart d (ASetting setting) text rest = IsAhead (setting_word setting) text rest
TakesPart d (ANumber least most number) text rest = IsAhead (decimal number) text rest × (least ≤ number) × (number ≤ most)
TakesPart d (APick pick) text rest = ((text ≡ []) × (rest ≡ []) × (pick ≡ 0)) ⊎ (IsAhead (decimal pick) text rest × (pick < 2 ^ 64))
TakesPart d (AnAmount amount) text rest = IsAhead (signed_decimal amount) text rest × (unsigned_abs amount < NUMBER_LIMIT)
TakesPart d (ANode site) text rest =
    (behind : List ℕ) × ReadsParts site.node.name site.node.subs text behind × IsSite site
    × (server_of d.globals site.node.name ≡ Some site.server) × EndsBefore behind rest
TakesPart d (ANext parent sub) text rest =
    (last : Sub) × (behind : List ℕ) × ReadsParts parent.node.name (parent.node.subs ++ last ∷ []) text behind × (sub ≡ asked last) × IsSite parent
    × (server_of d.globals parent.node.name ≡ Some parent.server) × EndsBefore behind rest
TakesPart d (AValue value) text rest = (behind : List ℕ) × ReadsString value text behind × (length value ≤ VALUE_LIMIT) × EndsBefore behind rest
TakesPart d (AFlag word is_there) text rest = TakesFlag word is_there text rest
TakesPart d (AWait wait) text rest = TakesWait wait text rest

-- a text is these parts, one after the other, and nothing follows
abbrev pub TakesParts : Declared → List Part → List ℕ → Type 0
TakesParts d [] text = text ≡ []
TakesParts d (p ∷ parts) text = (rest : List ℕ) × TakesPart d p text rest × TakesParts d parts rest
