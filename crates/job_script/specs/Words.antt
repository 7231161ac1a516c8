-- The words of a line.
use Rattle.std.specs.Prelude.{◌≡◌, ◌≢◌, ℕ, List, [], ◌∷◌, ◌==◌, if◌then◌else◌, reverse}

-- a space stands between words
abbrev pub SPACE : ℕ
SPACE = 32

-- the spaces in front are dropped
abbrev pub spaces_off : List ℕ → List ℕ
spaces_off [] = []
spaces_off (b ∷ bytes) = if b == SPACE then spaces_off bytes else b ∷ bytes

-- the spaces at both ends are dropped
abbrev pub trimmed : List ℕ → List ℕ
trimmed bytes = reverse (spaces_off (reverse (spaces_off bytes)))

-- the bytes in front of the first space
abbrev pub first_word : List ℕ → List ℕ
first_word [] = []
first_word (b ∷ bytes) = if b == SPACE then [] else b ∷ first_word bytes

-- what stands after them and the spaces that follow
abbrev pub behind_word : List ℕ → List ℕ
behind_word [] = []
behind_word (b ∷ bytes) = if b == SPACE then spaces_off bytes else behind_word bytes

-- this is the first word, and rest stands after it
pub record IsAhead (word text rest : List ℕ) : Type 0 where
  pub some : text ≢ []
  pub first : first_word text ≡ word
  pub behind : behind_word text ≡ rest

-- the line or a space follows
abbrev pub IsWordEnd : List ℕ → Type 0
IsWordEnd [] = Unit {0}
IsWordEnd (b ∷ bytes) = b ≡ SPACE

-- a line that does nothing: an empty one, or a comment
abbrev pub IsSilent : List ℕ → Type 0
IsSilent [] = Unit {0}
IsSilent (b ∷ bytes) = b ≡ 35
