-- What is declared, and the forms of names.
use Rattle.std.specs.Prelude.{ℕ, ◌<◌, ◌≤◌, Bool, if◌then◌else◌, List, [], ◌∷◌, ◌++◌, length, slice_get, All, IsTrue, IsSomeAnd, Option, None, Some, nat_eq, codes}
use Rattle.std.specs.List.{list_any, position}
use Rattle.std.specs.Char.{is_ascii_alphabetic, is_ascii_alphanumeric}
use Rattle.std.specs.Cmp.Lexicographic.{pointwise}
use Rattle.job_script.specs.declared.declared.Declared.{Declared}
use Rattle.job_script.specs.declared.global.Global.{Global}
use Rattle.job_script.specs.declared.name_kind.NameKind.{NameKind}
use Rattle.job_script.specs.declared.name_kind.NameKind.TheVariants.{Server, App, Job}
use Rattle.job_script.specs.declared.setting.Setting.{Setting}
use Rattle.job_script.specs.declared.setting.Setting.TheVariants.{Retry, Trouble, Recover, Round}

-- the name of a server, an application server or a job: a letter, and letters and digits, at most 16 bytes
pub record IsNodeName (name : List ℕ) : Type 0 where
  pub letter : IsSomeAnd (slice_get name 0) (λ b. IsTrue (is_ascii_alphabetic b))
  pub letters_and_digits : All (λ b. IsTrue (is_ascii_alphanumeric b)) name
  pub short : length name ≤ 16

-- these are the same bytes
abbrev pub is_same : List ℕ → List ℕ → Bool
is_same = pointwise nat_eq

-- the declared names of a kind, by index
abbrev pub names_of : Declared → NameKind → List (List ℕ)
names_of d Server = d.servers
names_of d App = d.apps
names_of d Job = d.jobs

-- how many of a kind may be declared
abbrev pub most_of : NameKind → ℕ
most_of Server = 16
most_of App = 16
most_of Job = 256

-- the name is declared, as whatever
abbrev pub has_name : Declared → List ℕ → Bool
has_name d name = list_any (λ other. is_same other name) (d.servers ++ (d.apps ++ d.jobs))

-- the index of a name that is declared as one of this kind
abbrev pub index_of : Declared → NameKind → List ℕ → Option ℕ
index_of d kind name = position (λ other. is_same other name) (names_of d kind)

-- a further name of this kind may be declared
abbrev pub HasRoom : Declared → NameKind → Type 0
HasRoom d kind = length (names_of d kind) < most_of kind

-- the data server of a global
abbrev pub server_of : List Global → List ℕ → Option ℕ
server_of [] name = None
server_of (g ∷ globals) name = if is_same g.name name then Some g.server else server_of globals name

-- how many globals may be declared
abbrev pub GLOBALS : ℕ
GLOBALS = 256

-- the word of a setting
abbrev pub setting_word : Setting → List ℕ
setting_word Retry = codes "retry"
setting_word Trouble = codes "trouble"
setting_word Recover = codes "recover"
setting_word Round = codes "round"
