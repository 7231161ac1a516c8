-- What the rules of a data server determine.
use Rattle.std.specs.Prelude.{◌≡◌, ℕ, Bool, true, false, List, [], ◌∷◌, length}
use Rattle.std.specs.declared.cmp.Ordering.TheVariants.{Less}
use Rattle.subscript_keys.specs.declared.run.Run.{Run}
use Rattle.plain_orders.specs.declared.entry.Entry.{Entry}
use Rattle.plain_orders.specs.Ordered.{IsOrdered}
use Rattle.plain_orders.specs.PairMap.{key_cmp}
use Rattle.block_bytes.specs.Blocks.{IsBlockOf}
use Rattle.end_words.specs.Runs.{TrueAt, covers}
use Rattle.ecp_messages.specs.declared.up.Up.{Up}
use Rattle.ecp_messages.specs.declared.up.Up.TheVariants.{Hello, Recover, Update, Add, Fetch, Ask, Unlock, Cancel, Commit, Rollback, Sync, Done, Claim, Bare}
use Rattle.data_rules.specs.declared.data_in.DataIn.{DataIn}
use Rattle.data_rules.specs.declared.data_in.DataIn.TheVariants.{Frame, Connected, Broken, Tick, Saved}
use Rattle.data_rules.specs.declared.data_outs.DataOuts.{DataOuts}
use Rattle.data_rules.specs.DataState.{DataState}
use Rattle.ecp_messages.specs.declared.down.Down.{Down}
use Rattle.end_words.specs.Windows.{Window}
use Rattle.end_words.specs.Laws.{WindowsAgree, SendsFirsts}
use Rattle.data_rules.specs.Puts.{Sofar, body_of}
use Rattle.data_rules.specs.Messages.{TakesFetch}
use Rattle.data_rules.specs.Frames.{TakesFirst}
use Rattle.data_rules.specs.Step.{DataStep, DataMay}

-- a Fetch, which any run that covers its key may answer
abbrev pub is_fetch : Up → Bool
is_fetch (Hello app dial) = false
is_fetch (Recover app session epoch taken dial) = false
is_fetch (Update w job txn op) = false
is_fetch (Add w job key amount) = false
is_fetch (Fetch key) = true
is_fetch (Ask ticket job mode key) = false
is_fetch (Unlock job mode key) = false
is_fetch (Cancel ticket) = false
is_fetch (Commit w job txn wanted) = false
is_fetch (Rollback w job txn) = false
is_fetch (Sync ticket) = false
is_fetch Done = false
is_fetch (Claim job mode number at key) = false
is_fetch Bare = false

-- an input that leaves a choice
abbrev pub leaves_choice : DataIn → Bool
leaves_choice (Frame conn up) = is_fetch up.message
leaves_choice (Connected conn) = false
leaves_choice (Broken conn) = false
leaves_choice Tick = false
leaves_choice (Saved upto) = false

-- The state, the moment and the input determine what a step makes, where the input leaves no choice.
abbrev pub StepIsDetermined : Type 0
StepIsDetermined =
    (d : DataState) (now : ℕ) (input : DataIn) (outs others : DataOuts) (new other : DataState) → leaves_choice input ≡ false →
    DataStep d now input outs new → DataStep d now input others other → (outs ≡ others) × (new ≡ other)

-- What a Fetch makes is determined by the run that answers it.
abbrev pub FetchIsDetermined : Type 0
FetchIsDetermined =
    (b c other : Sofar) (session : ℕ) (key : List ℕ) (t : TakesFetch b session key c) (u : TakesFetch b session key other) →
    t.run ≡ u.run → c ≡ other

-- The window of a session is the window that keeps the bodies of its messages.
abbrev pub SessionWindowsAgree : Type 0
SessionWindowsAgree = (w : Window Down) → WindowsAgree Down body_of w

-- What a session is sent again are messages that were put to it, each with its first number.
abbrev pub DownsAgainAreFirsts : Type 0
DownsAgainAreFirsts = SendsFirsts Down

-- A first frame on a connection is taken or refused, whatever it says.
abbrev pub FirstIsAnswered : Type 0
FirstIsAnswered = (m : Up) (b : Sofar) (conn now : ℕ) → (c : Sofar) × TakesFirst m b conn now c

-- a run that answers a Fetch
pub record FetchRun (order : List Entry) (key : List ℕ) : Type 0 where
  pub run : Run
  pub block : List ℕ
  pub covered : covers key run ≡ true
  pub is_true : TrueAt run order (length order)
  pub in_bytes : IsBlockOf run block

-- An ordered list has one for each key below FF.
abbrev pub FetchFindsRun : Type 0
FetchFindsRun = (order : List Entry) (key : List ℕ) → IsOrdered order → key_cmp key (0xFF ∷ []) ≡ Less → FetchRun order key

-- An input that may come has an outcome, of a Fetch where the order is an ordered list.
abbrev pub StepIsThere : Type 0
StepIsThere =
    (d : DataState) (now : ℕ) (input : DataIn) → (leaves_choice input ≡ true → IsOrdered d.order) → DataMay d input →
    (c : Sofar) × DataStep d now input c.outs c.state
