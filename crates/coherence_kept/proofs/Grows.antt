-- What was put to a session in an order stays coherent as the order goes on.
use Rattle.std.proofs.Common.{◌≤◌, ℕ, List, [], ◌∷◌, length, sym, ◌∙◌, ap, take}
use Rattle.std.specs.List.{AllByRecursion}
use Rattle.std.proofs.lemmas.List.{take-append-le}
use Rattle.plain_orders.specs.declared.entry.Entry.{Entry}
use Rattle.plain_orders.specs.Fold.{fold}
use Rattle.plain_orders.specs.PairMap as map
use Rattle.plain_runs.specs.Plain.{Server, current, order_at}
use Rattle.subscript_keys.specs.declared.run.Run.{Run}
use Rattle.end_words.specs.Runs.{TrueAt}
use Rattle.ecp_messages.specs.declared.down.Down.{Down}
use Rattle.ecp_messages.specs.declared.down.Down.TheVariants.{Welcome, Reset, Block, Drop, Ack, Grant, Answer, Normal, Bare}
use Rattle.ecp_messages.specs.declared.front.Front.{Front}
use Rattle.cluster_runs.specs.Machine.{Site}
use Rattle.cluster_invariant.specs.Coherence.{front_of, IsHeader, TrueUntilDrop, BlockHolds, BlocksHold, IsRun, IsCoherent}
use Rattle.cluster_invariant.specs.Words.{IsFront, stays_at}
use Rattle.link_kept.proofs.Later.{Later, header_later}

-- a run that was true at a length that is there is true of it still
pub true_later : (run : Run) (es fs : List Entry) (n : ℕ) → IsFront es fs → n ≤ length es → TrueAt run es n → TrueAt run fs n
true_later run es fs n front low is =
    is ∙ ap (λ (xs : List Entry). map.within (fold xs).pairs run.span) (sym (take-append-le n es front.0 low) ∙ ap (take n) (sym front.1))

-- the headers of some messages
abbrev pub HeadersAre : List Entry → ℕ → ℕ → List Down → Type 0
HeadersAre es stays s ms = AllByRecursion (λ m. IsHeader es stays s (front_of m)) ms

-- they stay headers
pub headers_later : (es fs : List Entry) (a b s : ℕ) (ms : List Down) → IsFront es fs → a ≤ length es → a ≤ b → HeadersAre es a s ms → HeadersAre fs b s ms
headers_later es fs a b s [] front within low h = tt
headers_later es fs a b s (m ∷ ms) front within low h = (header_later es fs a b s (front_of m) front within low h.0, headers_later es fs a b s ms front within low h.1)

-- a run stays true until it is dropped
pub until_later : (run : Run) (es fs : List Entry) (a s : ℕ) (ms : List Down) → IsFront es fs → HeadersAre es a s ms → TrueUntilDrop es run ms → TrueUntilDrop fs run ms
until_later run es fs a s [] front h is = tt
until_later run es fs a s (m ∷ ms) front h is =
    λ keeps. (true_later run es fs (front_of m).n front h.0.within (is keeps).0, until_later run es fs a s ms front h.1 (is keeps).1)

-- A Block holds in an order that goes on, with what follows of a run that isn't dropped.
pub block_later : (es fs : List Entry) (a s : ℕ) (P Q : Run → Type 0) (f : Front) (block : List ℕ) (ms : List Down) → IsFront es fs → f.n ≤ length es
    → HeadersAre es a s ms → ((r : Run) → P r → Q r) → BlockHolds es P f.n block ms → BlockHolds fs Q f.n block ms
block_later es fs a s P Q f block ms front low h more is = record {
  run = is.run;
  its = is.its;
  at_once = true_later is.run es fs f.n front low is.at_once;
  until = until_later is.run es fs a s ms front h is.until;
  stands = λ unmet. more is.run (is.stands unmet);
}

pub blocks_later : (es fs : List Entry) (a s : ℕ) (P Q : Run → Type 0) (ms : List Down) → IsFront es fs → HeadersAre es a s ms → ((r : Run) → P r → Q r)
    → BlocksHold es P ms → BlocksHold fs Q ms
blocks_later es fs a s P Q [] front h more is = tt
blocks_later es fs a s P Q (Welcome session epoch kept f taken ∷ ms) front h more is = blocks_later es fs a s P Q ms front h.1 more is
blocks_later es fs a s P Q (Reset session at ∷ ms) front h more is = blocks_later es fs a s P Q ms front h.1 more is
blocks_later es fs a s P Q (Block f block ∷ ms) front h more is =
    (block_later es fs a s P Q f block ms front h.0.within h.1 more is.0, blocks_later es fs a s P Q ms front h.1 more is.1)
blocks_later es fs a s P Q (Drop f lo hi ∷ ms) front h more is = blocks_later es fs a s P Q ms front h.1 more is
blocks_later es fs a s P Q (Ack f ∷ ms) front h more is = blocks_later es fs a s P Q ms front h.1 more is
blocks_later es fs a s P Q (Grant f ticket at ∷ ms) front h more is = blocks_later es fs a s P Q ms front h.1 more is
blocks_later es fs a s P Q (Answer f about job number at sum ∷ ms) front h more is = blocks_later es fs a s P Q ms front h.1 more is
blocks_later es fs a s P Q (Normal f ∷ ms) front h more is = blocks_later es fs a s P Q ms front h.1 more is
blocks_later es fs a s P Q (Bare ∷ ms) front h more is = blocks_later es fs a s P Q ms front h.1 more is

-- What was put stays coherent.
pub coherent_later : (es fs : List Entry) (a b s : ℕ) (f : Front) (ms : List Down) → IsFront es fs → a ≤ length es → a ≤ b → IsCoherent es a s f ms → IsCoherent fs b s f ms
coherent_later es fs a b s f ms front within low is = record {
  first = header_later es fs a b s f front within low is.first;
  rising = is.rising;
  headers = headers_later es fs a b s ms front within low is.headers;
  blocks = blocks_later es fs a s IsRun IsRun ms front is.headers (λ r one. tt) is.blocks;
}

-- Each order that was there goes on, and more of it stays.
pub record OrdersOn (v w : Server) : Type 0 where
  pub goes_on : (k : ℕ) → k ≤ current v → IsFront (order_at v k) (order_at w k)
  pub within : (k : ℕ) → k ≤ current v → stays_at v k ≤ length (order_at v k)
  pub stays : (k : ℕ) → k ≤ current v → stays_at v k ≤ stays_at w k

-- as it is where a plain server is later
pub later_on : (x : Site) (v w : Server) → Later x v w → OrdersOn v w
later_on x v w later = record { goes_on = later.goes_on; within = later.within; stays = later.stays }
