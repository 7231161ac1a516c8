-- What holds of the messages that a session was given in a step, beside those before it.
use Rattle.std.proofs.Common.{◌≡◌, ◌≤◌, ◌+◌, ℕ, Bool, true, false, not, List, [], ◌∷◌, ◌++◌, take, drop, refl, sym, ◌∙◌, ap, arith}
use Rattle.std.specs.List.{list_any}
use Rattle.std.proofs.lemmas.Bool.{and_parts}
use Rattle.std.proofs.lemmas.List.{append_assoc}
use Rattle.ecp_messages.specs.declared.down.Down.{Down}
use Rattle.ecp_messages.specs.declared.down.Down.TheVariants as down
use Rattle.ecp_messages.specs.declared.front.Front.{Front}
use Rattle.ecp_messages.specs.declared.up.Up.{Up}
use Rattle.cluster_runs.specs.Sent.{Lane}
use Rattle.cluster_runs.specs.WireDrops.{is_block}
use Rattle.cluster_runs.specs.Written.{count_of}
use Rattle.cluster_invariant.specs.Rounds.{is_fetch}
use Rattle.cluster_invariant.specs.Words.{is_normal_down}
use Rattle.data_puts.proofs.AwaitsGo.{take_more}
use Rattle.rounds_server.proofs.Counted.{count_found, count_joined, count_passed, none_counted, none_pushed}
use Rattle.rounds_server.proofs.Gave.{LeftByPlain, is_plain}

-- no Normal
abbrev pub NoNormal : List Down → ℕ → Type 0
NoNormal ms n = list_any is_normal_down ms ≡ false

-- no Normal where this is so
abbrev pub NoneIf : Bool → List Down → ℕ → Type 0
NoneIf b ms n = b ≡ true → list_any is_normal_down ms ≡ false

-- at most one with those before
abbrev pub OneNormal : Lane → List Down → ℕ → Type 0
OneNormal lane ms n = count_of is_normal_down (lane.down ++ ms) ≤ 1

-- as many Blocks with those before as Fetches were taken
abbrev pub BlocksAnswer : Lane → List Down → ℕ → Type 0
BlocksAnswer lane ms n = count_of is_block (lane.down ++ ms) ≡ count_of is_fetch (take n lane.up)

-- or one Block less, where a Fetch was just taken
abbrev pub BlockDue : Lane → List Down → ℕ → Type 0
BlockDue lane ms n = count_of is_block (lane.down ++ ms) + 1 ≡ count_of is_fetch (take n lane.up)

-- a message that is neither a Normal nor a Block

not_so : (b : Bool) → not b ≡ true → b ≡ false
not_so true is = sym is
not_so false is = refl

plain_parts : (m : Down) → is_plain m ≡ true → (is_normal_down m ≡ false) × (is_block m ≡ false)
plain_parts m is = go (and_parts (not (is_normal_down m)) (not (is_block m)) is)
  where
    go : (not (is_normal_down m) ≡ true) × (not (is_block m) ≡ true) → (is_normal_down m ≡ false) × (is_block m ≡ false)
    go parts = (not_so (is_normal_down m) parts.0, not_so (is_block m) parts.1)

pub none_plain : LeftByPlain NoNormal
none_plain m is ms n none = none_pushed is_normal_down ms m none (plain_parts m is).0

pub none_if_plain : (b : Bool) → LeftByPlain (NoneIf b)
none_if_plain b m is ms n none there = none_pushed is_normal_down ms m (none there) (plain_parts m is).0

-- one more behind all
behind_passed : (p : Down → Bool) (xs ms : List Down) (m : Down) → p m ≡ false → count_of p (xs ++ (ms ++ m ∷ [])) ≡ count_of p (xs ++ ms)
behind_passed p xs ms m not = ap (count_of p) (sym (append_assoc xs ms (m ∷ []))) ∙ count_passed p (xs ++ ms) m not

behind_found : (p : Down → Bool) (xs ms : List Down) (m : Down) → p m ≡ true → count_of p (xs ++ (ms ++ m ∷ [])) ≡ count_of p (xs ++ ms) + 1
behind_found p xs ms m is = ap (count_of p) (sym (append_assoc xs ms (m ∷ []))) ∙ count_found p (xs ++ ms) m is

pub one_plain : (lane : Lane) → LeftByPlain (OneNormal lane)
one_plain lane m is ms n one = omega (arith, one, behind_passed is_normal_down lane.down ms m (plain_parts m is).0)

pub blocks_plain : (lane : Lane) → LeftByPlain (BlocksAnswer lane)
blocks_plain lane m is ms n same = behind_passed is_block lane.down ms m (plain_parts m is).1 ∙ same

-- Normals

-- none makes at most one, where at most one was put before
pub none_makes_one : (lane : Lane) → count_of is_normal_down lane.down ≤ 1 → (ms : List Down) (n : ℕ) → NoNormal ms n → OneNormal lane ms n
none_makes_one lane low ms n none = omega (arith, low, count_joined is_normal_down lane.down ms, none_counted is_normal_down ms none)

-- and so does one, where none was
pub normal_makes_one : (lane : Lane) → list_any is_normal_down lane.down ≡ false → (front : Front) (ms : List Down) (n : ℕ) → NoNormal ms n
    → OneNormal lane (ms ++ down.Normal front ∷ []) n
normal_makes_one lane before front ms n none =
    omega (
      arith,
      behind_found is_normal_down lane.down ms (down.Normal front) refl,
      count_joined is_normal_down lane.down ms,
      none_counted is_normal_down lane.down before,
      none_counted is_normal_down ms none,
    )

-- Blocks

pub normal_no_block : (lane : Lane) (front : Front) (ms : List Down) (n : ℕ) → BlocksAnswer lane ms n → BlocksAnswer lane (ms ++ down.Normal front ∷ []) n
normal_no_block lane front ms n same = behind_passed is_block lane.down ms (down.Normal front) refl ∙ same

-- a Block that is due
pub block_answers : (lane : Lane) (front : Front) (bytes : List ℕ) (ms : List Down) (n : ℕ) → BlockDue lane ms n
    → BlocksAnswer lane (ms ++ down.Block front bytes ∷ []) n
block_answers lane front bytes ms n due = behind_found is_block lane.down ms (down.Block front bytes) refl ∙ due

-- a message that is taken and is no Fetch
pub taken_no_fetch : (lane : Lane) (ms : List Down) (n : ℕ) (m : Up) (rest : List Up) → drop n lane.up ≡ m ∷ rest → is_fetch m ≡ false
    → BlocksAnswer lane ms n → BlocksAnswer lane ms (n + 1)
taken_no_fetch lane ms n m rest next not same =
    same ∙ sym (ap (count_of is_fetch) (take_more n lane.up m rest next) ∙ count_passed is_fetch (take n lane.up) m not)

-- a Fetch that is taken
pub taken_fetch : (lane : Lane) (ms : List Down) (n : ℕ) (m : Up) (rest : List Up) → drop n lane.up ≡ m ∷ rest → is_fetch m ≡ true → BlocksAnswer lane ms n
    → BlockDue lane ms (n + 1)
taken_fetch lane ms n m rest next is same =
    omega (arith, same, ap (count_of is_fetch) (take_more n lane.up m rest next), count_found is_fetch (take n lane.up) m is)
