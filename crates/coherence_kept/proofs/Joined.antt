-- Messages put behind others: what was coherent stays so, where each run that isn't dropped is true until it is dropped there.
use Rattle.std.proofs.Common.{◌≡◌, ◌≤◌, ℕ, false, List, [], ◌∷◌, ◌++◌, length, refl, sym, ◌∙◌, arith}
use Rattle.std.specs.List.{list_any}
use Rattle.std.proofs.lemmas.Bool.{or_parts, or_from}
use Rattle.std.proofs.lemmas.List.{append-nil}
use Rattle.std.proofs.lemmas.List.Folds.{list_any-append}
use Rattle.plain_orders.specs.declared.entry.Entry.{Entry}
use Rattle.subscript_keys.specs.declared.run.Run.{Run}
use Rattle.ecp_messages.specs.declared.down.Down.{Down}
use Rattle.ecp_messages.specs.declared.down.Down.TheVariants.{Welcome, Reset, Block, Drop, Ack, Grant, Answer, Normal, Bare}
use Rattle.ecp_messages.specs.declared.front.Front.{Front}
use Rattle.cluster_invariant.specs.Coherence.{front_of, drops, IsHeader, RisingFrom, TrueUntilDrop, BlockHolds, BlocksHold, IsRun, IsCoherent}
use Rattle.cluster_invariant.specs.Words.{IsFront}
use Rattle.link_kept.proofs.Later.{header_later}
use Rattle.coherence_kept.proofs.Grows.{HeadersAre, headers_later, blocks_later}

until_joined : (es : List Entry) (r : Run) (xs ys : List Down) → TrueUntilDrop es r xs → (list_any (drops r.span) xs ≡ false → TrueUntilDrop es r ys)
    → TrueUntilDrop es r (xs ++ ys)
until_joined es r [] ys a b = b refl
until_joined es r (x ∷ xs) ys a b =
    λ keeps. ((a keeps).0, until_joined es r xs ys (a keeps).1 (λ rest. b (or_from (drops r.span x) (list_any (drops r.span) xs) keeps rest)))

-- what is to be known of a run that was held, as messages follow
pub record Follows (es : List Entry) (P Q : Run → Type 0) (ys : List Down) : Type 0 where
  pub until : (r : Run) → P r → TrueUntilDrop es r ys
  pub stands : (r : Run) → P r → list_any (drops r.span) ys ≡ false → Q r

block_joined : (es : List Entry) (P Q : Run → Type 0) (n : ℕ) (block : List ℕ) (xs ys : List Down) → Follows es P Q ys → BlockHolds es P n block xs
    → BlockHolds es Q n block (xs ++ ys)
block_joined es P Q n block xs ys f b = record {
  run = b.run;
  its = b.its;
  at_once = b.at_once;
  until = until_joined es b.run xs ys b.until (λ unmet. f.until b.run (b.stands unmet));
  stands =
      λ unmet.
      let parts = or_parts (list_any (drops b.run.span) xs) (list_any (drops b.run.span) ys) (sym (list_any-append (drops b.run.span) xs ys) ∙ unmet) in
      f.stands b.run (b.stands parts.0) parts.1;
}

-- Blocks hold as messages follow in which Blocks hold.
pub blocks_joined : (es : List Entry) (P Q : Run → Type 0) (xs ys : List Down) → Follows es P Q ys → BlocksHold es P xs → BlocksHold es Q ys → BlocksHold es Q (xs ++ ys)
blocks_joined es P Q [] ys f a b = b
blocks_joined es P Q (Welcome session epoch kept front taken ∷ xs) ys f a b = blocks_joined es P Q xs ys f a b
blocks_joined es P Q (Reset session at ∷ xs) ys f a b = blocks_joined es P Q xs ys f a b
blocks_joined es P Q (Block front block ∷ xs) ys f a b = (block_joined es P Q front.n block xs ys f a.0, blocks_joined es P Q xs ys f a.1 b)
blocks_joined es P Q (Drop front lo hi ∷ xs) ys f a b = blocks_joined es P Q xs ys f a b
blocks_joined es P Q (Ack front ∷ xs) ys f a b = blocks_joined es P Q xs ys f a b
blocks_joined es P Q (Grant front ticket at ∷ xs) ys f a b = blocks_joined es P Q xs ys f a b
blocks_joined es P Q (Answer front about job number at sum ∷ xs) ys f a b = blocks_joined es P Q xs ys f a b
blocks_joined es P Q (Normal front ∷ xs) ys f a b = blocks_joined es P Q xs ys f a b
blocks_joined es P Q (Bare ∷ xs) ys f a b = blocks_joined es P Q xs ys f a b

pub headers_joined : (es : List Entry) (stays s : ℕ) (xs ys : List Down) → HeadersAre es stays s xs → HeadersAre es stays s ys → HeadersAre es stays s (xs ++ ys)
headers_joined es stays s [] ys a b = b
headers_joined es stays s (x ∷ xs) ys a b = (a.0, headers_joined es stays s xs ys a.1 b)

from_less : (n k : ℕ) (ys : List Down) → n ≤ k → RisingFrom k ys → RisingFrom n ys
from_less n k [] low a = tt
from_less n k (y ∷ ys) low a = (omega (arith, low, a.0), a.1)

-- headers rise on from a length that none of those before is above
pub rising_joined : (es : List Entry) (stays s n k : ℕ) (xs ys : List Down) → n ≤ k → length es ≤ k → RisingFrom n xs → HeadersAre es stays s xs → RisingFrom k ys
    → RisingFrom n (xs ++ ys)
rising_joined es stays s n k [] ys low long a h b = from_less n k ys low b
rising_joined es stays s n k (x ∷ xs) ys low long a h b = (a.0, rising_joined es stays s (front_of x).n k xs ys (omega (arith, h.0.within, long)) long a.1 h.1 b)

-- What was put to a session and is coherent, with what is known of the runs that no later Drop meets.
pub record Held (es : List Entry) (stays s : ℕ) (P : Run → Type 0) (f : Front) (down : List Down) : Type 0 where
  pub first : IsHeader es stays s f
  pub rising : RisingFrom f.n down
  pub headers : HeadersAre es stays s down
  pub blocks : BlocksHold es P down

pub held_coherent : (es : List Entry) (stays s : ℕ) (P : Run → Type 0) (f : Front) (down : List Down) → Held es stays s P f down → IsCoherent es stays s f down
held_coherent es stays s P f down h = record {
  first = h.first;
  rising = h.rising;
  headers = h.headers;
  blocks = blocks_later es es stays s P IsRun down ([], sym (append-nil es)) h.headers (λ r is. tt) h.blocks;
}

-- More messages as an order goes on, at lengths that none before is above.
pub held_joined : (es fs : List Entry) (a b s k : ℕ) (P Q : Run → Type 0) (f : Front) (xs ys : List Down) → IsFront es fs → a ≤ length es → a ≤ b
    → Held es a s P f xs → length es ≤ k → RisingFrom k ys → HeadersAre fs b s ys → Follows fs P Q ys → BlocksHold fs Q ys → Held fs b s Q f (xs ++ ys)
held_joined es fs a b s k P Q f xs ys on within low h long rises headers follows blocks = record {
  first = header_later es fs a b s f on within low h.first;
  rising = rising_joined es a s f.n k xs ys (omega (arith, h.first.within, long)) long h.rising h.headers rises;
  headers = headers_joined fs b s xs ys (headers_later es fs a b s xs on within low h.headers) headers;
  blocks = blocks_joined fs P Q xs ys follows (blocks_later es fs a s P P xs on h.headers (λ r is. is) h.blocks) blocks;
}
