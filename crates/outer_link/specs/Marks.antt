-- What is known of connection numbers, also of a net that does not tell what stands on its connections.
use Rattle.std.specs.Prelude.{ℕ, ◌≡◌, Bool, true, false, ◌&&◌, ◌||◌, ◌==◌, if◌then◌else◌, length, nat_lt, slice_get}
use Rattle.std.specs.Option.{option_map_or}
use Rattle.outer_link.specs.Told.{ConnTold, Told, is_cut_at, is_parted}

pub record Marks : Type 0 where
  pub known : ℕ → Bool  -- a connect or an accept answered this number
  pub accepted : ℕ → Bool  -- an accept answered it
  pub app : ℕ → ℕ  -- its application server, where a connect answered it
  pub server : ℕ → ℕ  -- its data server
  pub cut : ℕ → Bool  -- the net was told to cut it, to part its pair or to shut its data server
  pub parted : ℕ → ℕ → Bool  -- the net was told to part this pair, and not to join it since

-- what is known stays known, and these are now the numbers told to be cut and the pairs kept apart
pub record Marked (old : Marks) (is_cut : ℕ → Bool) (is_apart : ℕ → ℕ → Bool) (now : Marks) : Type 0 where
  pub known : (n : ℕ) → old.known n ≡ true → now.known n ≡ true
  pub accepted : (n : ℕ) → old.accepted n ≡ true → now.accepted n ≡ true
  pub app : (n : ℕ) → old.known n ≡ true → now.app n ≡ old.app n
  pub server : (n : ℕ) → old.known n ≡ true → now.server n ≡ old.server n
  pub cut : (n : ℕ) → old.known n ≡ true → now.cut n ≡ is_cut n
  pub parted : (app server : ℕ) → now.parted app server ≡ is_apart app server

-- what is known stays, nothing more is cut, and the same pairs are apart
abbrev pub Keeps : Marks → Marks → Type 0
Keeps old now = Marked old old.cut old.parted now

-- the numbers that were told to be cut, and those that pass this test
abbrev pub or_cut : Marks → (ℕ → Bool) → ℕ → Bool
or_cut m test n = m.cut n || test n

-- the numbers of this data server
abbrev pub of_server : Marks → ℕ → ℕ → Bool
of_server m server n = m.server n == server

-- the numbers of this pair
abbrev pub of_pair : Marks → ℕ → ℕ → ℕ → Bool
of_pair m app server n = (m.app n == app) && (m.server n == server)

-- the pairs kept apart, where for this one it is as given
abbrev pub parted_with : Marks → ℕ → ℕ → Bool → ℕ → ℕ → Bool
parted_with m app server is_apart a s = if (a == app) && (s == server) then is_apart else m.parted a s

-- a connect answered this number, which was not known
pub record IsConnected (old now : Marks) (from to n : ℕ) : Type 0 where
  pub unknown : old.known n ≡ false
  pub known : now.known n ≡ true
  pub app : now.app n ≡ from
  pub server : now.server n ≡ to
  pub uncut : now.cut n ≡ false

-- an accept answered this number, which no accept answered before
pub record IsAccepted (old now : Marks) (at n : ℕ) : Type 0 where
  pub first : old.accepted n ≡ false
  pub accepted : now.accepted n ≡ true
  pub known : now.known n ≡ true
  pub server : now.server n ≡ at
  pub uncut : old.known n ≡ false → now.cut n ≡ false

-- a net on which no number is known and no pair is apart
pub record IsFresh (m : Marks) : Type 0 where
  pub unknown : (n : ℕ) → m.known n ≡ false
  pub unaccepted : (n : ℕ) → m.accepted n ≡ false
  pub joined : (app server : ℕ) → m.parted app server ≡ false

-- something of a connection by number, and the default where there is none
abbrev pub of_conn : {A : Type 0} → (ConnTold → A) → Told → ℕ → A → A
of_conn part t n none = option_map_or part (slice_get t.conns n) none

-- what is known of a net that tells
abbrev pub marks_of : Told → Marks
marks_of t = record {
  known = λ n. nat_lt n (length t.conns);
  accepted = λ n. of_conn (λ c. c.accepted) t n false;
  app = λ n. of_conn (λ c. c.app) t n 0;
  server = λ n. of_conn (λ c. c.server) t n 0;
  cut = is_cut_at t;
  parted = is_parted t;
}
