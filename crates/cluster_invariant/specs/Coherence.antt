-- What was put to a session in one order is coherent: its headers rise, and each Block is true until a Drop meets it.
use Rattle.std.specs.Prelude.{◌≡◌, ◌≤◌, ⊤, ℕ, Bool, true, false, List, [], ◌∷◌, take, length, IfSome}
use Rattle.std.specs.List.{list_any, AllByRecursion}
use Rattle.subscript_keys.specs.declared.span.Span.{Span}
use Rattle.subscript_keys.specs.declared.run.Run.{Run}
use Rattle.plain_orders.specs.declared.entry.Entry.{Entry}
use Rattle.plain_orders.specs.Entries.{count, live}
use Rattle.plain_runs.specs.Plain.{Server, current, order_at}
use Rattle.block_bytes.specs.Blocks.{IsBlockOf}
use Rattle.end_words.specs.Runs.{TrueAt, meets}
use Rattle.block_holders.specs.declared.noted.Noted.{Noted}
use Rattle.block_holders.specs.HolderWords.{is_noted, is_noted_for}
use Rattle.ecp_messages.specs.declared.down.Down.{Down}
use Rattle.ecp_messages.specs.declared.down.Down.TheVariants.{Welcome, Reset, Block, Drop, Ack, Grant, Answer, Normal, Bare}
use Rattle.ecp_messages.specs.declared.front.Front.{Front}
use Rattle.data_rules.specs.DataState.{DataState}
use Rattle.cluster_runs.specs.Machine.{Site}
use Rattle.cluster_invariant.specs.Words.{stays_at}

-- the header of a numbered message; of another one nothing
abbrev pub front_of : Down → Front
front_of (Welcome session epoch kept front taken) = record { n = 0; w = 0; s = 0 }
front_of (Reset session at) = record { n = 0; w = 0; s = 0 }
front_of (Block front block) = front
front_of (Drop front lo hi) = front
front_of (Ack front) = front
front_of (Grant front ticket at) = front
front_of (Answer front about job number at sum) = front
front_of (Normal front) = front
front_of Bare = record { n = 0; w = 0; s = 0 }

-- a message is a Drop that meets the span
abbrev pub drops : Span → Down → Bool
drops span (Drop front lo hi) = meets span (record { lo = lo; hi = hi })
drops span m = false

-- A header: a length that is there, the count at it, and no more than what stays.
pub record IsHeader (es : List Entry) (stays session : ℕ) (f : Front) : Type 0 where
  pub within : f.n ≤ length es
  pub counted : f.w ≡ count (take f.n es) session
  pub synced : f.s ≤ count (take stays es) session
  pub below : f.s ≤ f.w

-- headers from one on: none is at a smaller length than the one before it
abbrev pub RisingFrom : ℕ → List Down → Type 0
RisingFrom n [] = ⊤
RisingFrom n (m ∷ ms) = (n ≤ (front_of m).n) × RisingFrom (front_of m).n ms

-- a run is true at each message before the first Drop that meets it
abbrev pub TrueUntilDrop : List Entry → Run → List Down → Type 0
TrueUntilDrop es run [] = ⊤
TrueUntilDrop es run (m ∷ ms) = drops run.span m ≡ false → TrueAt run es (front_of m).n × TrueUntilDrop es run ms

-- A Block's run is true at its own length and until it is dropped, and more is known of one that isn't dropped.
pub record BlockHolds (es : List Entry) (P : Run → Type 0) (n : ℕ) (block : List ℕ) (behind : List Down) : Type 0 where
  pub run : Run
  pub its : IsBlockOf run block
  pub at_once : TrueAt run es n
  pub until : TrueUntilDrop es run behind
  pub stands : list_any (drops run.span) behind ≡ false → P run

-- each Block of some messages
abbrev pub BlocksHold : List Entry → (Run → Type 0) → List Down → Type 0
BlocksHold es P [] = ⊤
BlocksHold es P (Welcome session epoch kept front taken ∷ ms) = BlocksHold es P ms
BlocksHold es P (Reset session at ∷ ms) = BlocksHold es P ms
BlocksHold es P (Block front block ∷ ms) = BlockHolds es P front.n block ms × BlocksHold es P ms
BlocksHold es P (Drop front lo hi ∷ ms) = BlocksHold es P ms
BlocksHold es P (Ack front ∷ ms) = BlocksHold es P ms
BlocksHold es P (Grant front ticket at ∷ ms) = BlocksHold es P ms
BlocksHold es P (Answer front about job number at sum ∷ ms) = BlocksHold es P ms
BlocksHold es P (Normal front ∷ ms) = BlocksHold es P ms
BlocksHold es P (Bare ∷ ms) = BlocksHold es P ms

-- nothing more is known
abbrev pub IsRun : Run → Type 0
IsRun run = ⊤

-- What was put in one order, which stays as it was when the order is a past one.
pub record IsCoherent (es : List Entry) (stays session : ℕ) (front : Front) (down : List Down) : Type 0 where
  -- the first header is the Welcome's, or of nothing
  pub first : IsHeader es stays session front
  pub rising : RisingFrom front.n down
  pub headers : AllByRecursion (λ m. IsHeader es stays session (front_of m)) down
  pub blocks : BlocksHold es IsRun down

-- a run that a session has: its very span is noted, it is no empty one, and it is true of all entries
pub record IsHeld (es : List Entry) (noted : List Noted) (session : ℕ) (run : Run) : Type 0 where
  pub is_noted : is_noted session run.span noted ≡ true
  pub is_wide : meets run.span run.span ≡ true
  pub is_true : TrueAt run es (length es)

-- Each Block of a live session that no later Drop meets is held, and only live sessions have notes.
pub record NodeHeld (x : Site) (n : DataState) : Type 0 where
  pub held : (session : ℕ) → live n.order session ≡ true → BlocksHold n.order (IsHeld n.order n.noted session) (x.lane_at session x.past).down
  pub noted : (session : ℕ) → list_any (is_noted_for session) n.noted ≡ true → live n.order session ≡ true

-- all sessions of one data server
pub record CoherenceHolds (v : Server) (x : Site) : Type 0 where
  pub lanes : (session k : ℕ) → k ≤ current v
      → IsCoherent (order_at v k) (stays_at v k) session (x.lane_at session k).front (x.lane_at session k).down
  pub node : IfSome x.node (NodeHeld x)
