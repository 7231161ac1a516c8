-- Why a line is refused: the first fault from the left.
use Rattle.std.specs.Prelude.{◌≡◌, ◌≢◌, ◌⊎◌, ℕ, ◌≤◌, ◌<◌, ◌^◌, true, false, List, [], ◌∷◌, ◌++◌, length, None, ℤ, unsigned_abs, codes}
use Rattle.std.specs.Fmt.{decimal, signed_decimal}
use Rattle.subscript_keys.specs.declared.sub.Sub.{Sub}
use Rattle.subscript_keys.specs.declared.limits.TheConstants.{NUMBER_LIMIT, VALUE_LIMIT}
use Rattle.subscript_keys.specs.Key.{IsName, HasEmpty}
use Rattle.global_text.specs.declared.text_error.TextError.TheVariants.{NoCaret, BadName, BadSubscript, Unclosed, KeyTooLong, BadValue, ValueTooLong}
use Rattle.global_text.specs.Nodes.{HasGlobal, ReadsParts}
use Rattle.global_text.specs.Strings.{ReadsString}
use Rattle.global_text.specs.Faults.{HasNodeFault, HasValueFault, StopsBehind}
use Rattle.job_script.specs.declared.declared.Declared.{Declared}
use Rattle.job_script.specs.declared.line_fault.LineFault.{LineFault}
use Rattle.job_script.specs.declared.line_fault.LineFault.TheVariants.{Bad, Unknown as UnknownName, Memory}
use Rattle.job_script.specs.declared.line_kind.LineKind.TheVariants.{Twice, TooMany, Name, Node, Key, NoSub, NoValue, Value, Long, Number, Words}
use Rattle.job_script.specs.declared.name_kind.NameKind.{NameKind}
use Rattle.job_script.specs.declared.name_kind.NameKind.TheVariants.{Server, App}
use Rattle.job_script.specs.declared.setting.Setting.{Setting}
use Rattle.job_script.specs.Names.{IsNodeName, has_name, index_of, HasRoom, server_of, GLOBALS, setting_word}
use Rattle.job_script.specs.Parts.{Part, NewName, NewGlobal, OfKind, ASetting, ANumber, APick, AnAmount, ANode, ANext, AValue, AFlag, AWait, TakesPart}
use Rattle.job_script.specs.Rows.{Row}
use Rattle.job_script.specs.Words.{IsAhead, IsWordEnd, first_word}

-- out of memory
abbrev pub IsMemoryFault : LineFault → Type 0
IsMemoryFault (Bad kind) = ⊥
IsMemoryFault UnknownName = ⊥
IsMemoryFault (Memory error) = Unit {0}

-- Out of memory says nothing. A new name: its form, declared already, one too many
abbrev pub RefusesNewName : Declared → NameKind → List ℕ → LineFault → Type 0
RefusesNewName d kind text (Bad Words) = text ≡ []
RefusesNewName d kind text (Bad Name) = (text ≢ []) × (IsNodeName (first_word text) → ⊥)
RefusesNewName d kind text (Bad Twice) = IsNodeName (first_word text) × (has_name d (first_word text) ≡ true)
RefusesNewName d kind text (Bad TooMany) = IsNodeName (first_word text) × (has_name d (first_word text) ≡ false) × (HasRoom d kind → ⊥)
RefusesNewName d kind text (Memory error) = Unit {0}
RefusesNewName d kind text fault = ⊥

-- a caret and a name are the first word
abbrev pub IsGlobal : List ℕ → List ℕ → Type 0
IsGlobal name text = IsName name × (first_word text ≡ 94 ∷ name)

-- a new global: the same
abbrev pub RefusesNewGlobal : Declared → List ℕ → LineFault → Type 0
RefusesNewGlobal d text (Bad Words) = text ≡ []
RefusesNewGlobal d text (Bad Name) = (text ≢ []) × ((name : List ℕ) → IsGlobal name text → ⊥)
RefusesNewGlobal d text (Bad Twice) = (name : List ℕ) × IsGlobal name text × (server_of d.globals name ≢ None)
RefusesNewGlobal d text (Bad TooMany) = (name : List ℕ) × IsGlobal name text × (server_of d.globals name ≡ None) × (GLOBALS ≤ length d.globals)
RefusesNewGlobal d text (Memory error) = Unit {0}
RefusesNewGlobal d text fault = ⊥

-- a name that must be declared as one of this kind
abbrev pub RefusesOfKind : Declared → NameKind → List ℕ → LineFault → Type 0
RefusesOfKind d kind text (Bad Words) = text ≡ []
RefusesOfKind d kind text (Bad Name) = (text ≢ []) × (IsNodeName (first_word text) → ⊥)
RefusesOfKind d kind text UnknownName = IsNodeName (first_word text) × (index_of d kind (first_word text) ≡ None)
RefusesOfKind d kind text fault = ⊥

-- a setting
abbrev pub RefusesSetting : List ℕ → LineFault → Type 0
RefusesSetting text (Bad Words) = (setting : Setting) → first_word text ≢ setting_word setting
RefusesSetting text fault = ⊥

-- a number between these
abbrev pub RefusesNumber : ℕ → ℕ → List ℕ → LineFault → Type 0
RefusesNumber least most text (Bad Words) = text ≡ []
RefusesNumber least most text (Bad Number) = (text ≢ []) × ((n : ℕ) → least ≤ n → n ≤ most → first_word text ≢ decimal n)
RefusesNumber least most text fault = ⊥

-- a number that may be left out
abbrev pub RefusesPick : List ℕ → LineFault → Type 0
RefusesPick text (Bad Number) = (text ≢ []) × ((n : ℕ) → n < 2 ^ 64 → first_word text ≢ decimal n)
RefusesPick text fault = ⊥

-- an increment's amount
abbrev pub RefusesAmount : List ℕ → LineFault → Type 0
RefusesAmount text (Bad Words) = text ≡ []
RefusesAmount text (Bad Number) = (text ≢ []) × ((z : ℤ) → unsigned_abs z < NUMBER_LIMIT → first_word text ≢ signed_decimal z)
RefusesAmount text fault = ⊥

-- the global that stands here is declared
abbrev pub IsDeclared : Declared → List ℕ → List ℕ → Type 0
IsDeclared d name text = HasGlobal name text × (server_of d.globals name ≢ None)

-- no node begins here, or its subscripts have no form, or one of those that are read is empty and may not be, or something else than a
-- space follows it
abbrev pub HasBadNode : Declared → (List Sub → Type 0) → List ℕ → Type 0
HasBadNode d BadSubs text =
    HasNodeFault text NoCaret
    ⊎ (HasNodeFault text BadName
    ⊎ ((name : List ℕ) × (subs : List Sub) × IsDeclared d name text
    × (StopsBehind text name subs BadSubscript
    ⊎ (StopsBehind text name subs Unclosed
    ⊎ ((StopsBehind text name subs KeyTooLong × HasEmpty subs)
    ⊎ ((rest : List ℕ) × ReadsParts name subs text rest × (BadSubs subs ⊎ (IsWordEnd rest → ⊥))))))))

-- the global isn't declared
abbrev pub HasUnknownGlobal : Declared → List ℕ → Type 0
HasUnknownGlobal d text = (name : List ℕ) × HasGlobal name text × (server_of d.globals name ≡ None)

-- the key passes its limit, and no subscript before that is empty
abbrev pub HasLongKey : Declared → List ℕ → Type 0
HasLongKey d text = (name : List ℕ) × (subs : List Sub) × IsDeclared d name text × StopsBehind text name subs KeyTooLong × (HasEmpty subs → ⊥)

-- a node
abbrev pub RefusesNode : Declared → List ℕ → LineFault → Type 0
RefusesNode d text (Bad Words) = text ≡ []
RefusesNode d text (Bad Node) = (text ≢ []) × HasBadNode d HasEmpty text
RefusesNode d text UnknownName = HasUnknownGlobal d text
RefusesNode d text (Bad Key) = HasLongKey d text
RefusesNode d text (Memory error) = Unit {0}
RefusesNode d text fault = ⊥

-- a subscript before the last is empty
abbrev pub HasEmptyFront : List Sub → Type 0
HasEmptyFront subs = (front : List Sub) × (last : Sub) × (subs ≡ front ++ last ∷ []) × HasEmpty front

-- the node after which a next looks, whose last subscript may be empty
abbrev pub RefusesNext : Declared → List ℕ → LineFault → Type 0
RefusesNext d text (Bad Words) = text ≡ []
RefusesNext d text (Bad Node) = (text ≢ []) × HasBadNode d HasEmptyFront text
RefusesNext d text UnknownName = HasUnknownGlobal d text
RefusesNext d text (Bad Key) = HasLongKey d text
RefusesNext d text (Bad NoSub) = (name : List ℕ) × (rest : List ℕ) × IsDeclared d name text × ReadsParts name [] text rest × IsWordEnd rest
RefusesNext d text (Memory error) = Unit {0}
RefusesNext d text fault = ⊥

-- a value
abbrev pub RefusesValue : List ℕ → LineFault → Type 0
RefusesValue text (Bad NoValue) = text ≡ []
RefusesValue text (Bad Value) =
    (text ≢ [])
    × (HasValueFault text BadValue
    ⊎ (HasValueFault text Unclosed
    ⊎ ((value : List ℕ) × (rest : List ℕ) × ReadsString value text rest × (length value ≤ VALUE_LIMIT) × (IsWordEnd rest → ⊥))))
RefusesValue text (Bad Long) = HasValueFault text ValueTooLong
RefusesValue text (Memory error) = Unit {0}
RefusesValue text fault = ⊥

-- a wait whose number is missing or wrong
abbrev pub RefusesWait : List ℕ → LineFault → Type 0
RefusesWait text fault = (behind : List ℕ) × IsAhead (codes "wait") text behind × RefusesNumber 1 10000 behind fault

-- a text doesn't begin with a part of this kind, whatever the part says
abbrev pub RefusesPart : Declared → Part → List ℕ → LineFault → Type 0
RefusesPart d (NewName kind name) text fault = RefusesNewName d kind text fault
RefusesPart d (NewGlobal name) text fault = RefusesNewGlobal d text fault
RefusesPart d (OfKind kind index) text fault = RefusesOfKind d kind text fault
RefusesPart d (ASetting setting) text fault = RefusesSetting text fault
RefusesPart d (ANumber least most number) text fault = RefusesNumber least most text fault
RefusesPart d (APick pick) text fault = RefusesPick text fault
RefusesPart d (AnAmount amount) text fault = RefusesAmount text fault
RefusesPart d (ANode site) text fault = RefusesNode d text fault
RefusesPart d (ANext parent sub) text fault = RefusesNext d text fault
RefusesPart d (AValue value) text fault = RefusesValue text fault
RefusesPart d (AFlag word is_there) text fault = ⊥
RefusesPart d (AWait wait) text fault = RefusesWait text fault

-- something follows where nothing may
abbrev pub RefusesEnd : List ℕ → LineFault → Type 0
RefusesEnd text (Bad Words) = text ≢ []
RefusesEnd text fault = ⊥

-- the parts in front are there, and the next is refused, or something follows the last
abbrev pub RefusesParts : Declared → List Part → List ℕ → LineFault → Type 0
RefusesParts d [] text fault = (text ≢ []) × (fault ≡ Bad Words)
RefusesParts d (p ∷ parts) text fault = RefusesPart d p text fault ⊎ ((rest : List ℕ) × TakesPart d p text rest × RefusesParts d parts rest fault)

-- a name of one kind is refused, or something follows it
pub record RefusesOne (d : Declared) (kind : NameKind) (text : List ℕ) (fault : LineFault) : Type 0 where
  pub index : ℕ
  pub parts : RefusesParts d (OfKind kind index ∷ []) text fault

-- an application server or a data server is refused, or something follows them
pub record RefusesPair (d : Declared) (text : List ℕ) (fault : LineFault) : Type 0 where
  pub app : ℕ
  pub server : ℕ
  pub parts : RefusesParts d (OfKind App app ∷ OfKind Server server ∷ []) text fault

-- after this first word of a table a part is refused
pub record RefusesBehind {X : Type 0} (row_of : X → Row) (d : Declared) (word text : List ℕ) (fault : LineFault) : Type 0 where
  pub line : X
  pub word_is : (row_of line).word ≡ word
  pub parts : RefusesParts d (row_of line).parts text fault

-- the first word begins a line of a table, and a part after it is refused
pub record RefusesRow {X : Type 0} (row_of : X → Row) (d : Declared) (text : List ℕ) (fault : LineFault) : Type 0 where
  pub rest : List ℕ
  pub ahead : IsAhead (first_word text) text rest
  pub behind : RefusesBehind row_of d (first_word text) rest fault
