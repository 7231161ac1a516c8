-- What an application end has of what it took: its front, and its runs.
use Rattle.std.specs.Prelude.{◌≡◌, ◌≢◌, ◌≤◌, ◌⊎◌, ℕ, Bool, false, List, [], ◌∷◌, take, length, Option, Some, None, IfSome}
use Rattle.std.specs.List.{list_any, AllByRecursion}
use Rattle.subscript_keys.specs.declared.run.Run.{Run}
use Rattle.plain_orders.specs.declared.entry.Entry.{Entry}
use Rattle.plain_orders.specs.Entries.{count}
use Rattle.plain_runs.specs.Plain.{Server, order_at}
use Rattle.block_bytes.specs.Blocks.{IsBlockOf}
use Rattle.ecp_messages.specs.declared.down.Down.{Down}
use Rattle.ecp_messages.specs.declared.down.Down.TheVariants.{Welcome, Reset, Block, Drop, Ack, Grant, Answer, Normal, Bare}
use Rattle.ecp_messages.specs.declared.front.Front.{Front}
use Rattle.app_rules.specs.AppState.{Session}
use Rattle.app_rules.specs.Looks.{Shown, shown_front}
use Rattle.cluster_runs.specs.Sent.{Lane, downs_taken}
use Rattle.cluster_runs.specs.Machine.{Site, End}
use Rattle.cluster_invariant.specs.Coherence.{front_of, drops}

-- the header of the last message, where it was this before
abbrev pub last_front : Front → List Down → Front
last_front f [] = f
last_front f (m ∷ ms) = last_front (front_of m) ms

-- a run came in this Block and was met by no message behind it
pub record CameIn (run : Run) (block : List ℕ) (behind : List Down) : Type 0 where
  pub its : IsBlockOf run block
  pub unmet : list_any (drops run.span) behind ≡ false

-- a run came in one of these messages and was met by none behind that
abbrev pub Stands : Run → List Down → Type 0
Stands run [] = ⊥
Stands run (Welcome session epoch kept front taken ∷ ms) = Stands run ms
Stands run (Reset session at ∷ ms) = Stands run ms
Stands run (Block front block ∷ ms) = CameIn run block ms ⊎ Stands run ms
Stands run (Drop front lo hi ∷ ms) = Stands run ms
Stands run (Ack front ∷ ms) = Stands run ms
Stands run (Grant front ticket at ∷ ms) = Stands run ms
Stands run (Answer front about job number at sum ∷ ms) = Stands run ms
Stands run (Normal front ∷ ms) = Stands run ms
Stands run (Bare ∷ ms) = Stands run ms

-- A session's front and runs over what it took in the order that it is told of.
pub record FrontIs (es : List Entry) (lane : Lane) (number n w : ℕ) (cache : List Run) : Type 0 where
  -- it is the header of the last message, or the Welcome's
  pub at : n ≡ (last_front lane.front (downs_taken lane)).n
  pub with_count : w ≡ (last_front lane.front (downs_taken lane)).w
  pub within : n ≤ length es
  pub counted : w ≡ count (take n es) number
  -- each run came and wasn't dropped
  pub runs : AllByRecursion (λ run. Stands run (downs_taken lane)) cache

-- of an end that has a session
abbrev pub FrontOf : Server → Site → End → Session → Type 0
FrontOf v x e s = IfSome e.told (λ p. FrontIs (order_at v p.order) (x.lane_at s.number p.order) s.number s.n s.w s.cache)

-- What is published of a session: runs that came and weren't dropped, and where there are any, the session's front.
pub record ShownIs (lane : Lane) (s : Session) (y : Shown) : Type 0 where
  pub runs : AllByRecursion (λ run. Stands run (downs_taken lane)) y.runs
  pub front : y.runs ≢ [] → y.front ≡ Some (shown_front s)

-- of an end without a session no run is published
abbrev pub ShownOf : Site → End → Option Session → Type 0
ShownOf x e None = e.shown.runs ≡ []
ShownOf x e (Some s) = IfSome e.told (λ p. ShownIs (x.lane_at s.number p.order) s e.shown)

-- the ends of all living application servers with one data server
pub record FrontsHold (v : Server) (x : Site) (is_dead : ℕ → Bool) : Type 0 where
  pub apps : (app : ℕ) → is_dead app ≡ false → IfSome (x.end_at app).state.session (FrontOf v x (x.end_at app))
  pub shown : (app : ℕ) → is_dead app ≡ false → ShownOf x (x.end_at app) (x.end_at app).state.session
