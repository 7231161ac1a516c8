-- A walk along the lines of a script: what each of them added to trail and transcript, and what stands so far.
use Rattle.std.specs.Prelude.{ℕ, Bool, true, false, ◌==◌, ◌||◌, if◌then◌else◌, List, [], ◌∷◌, ◌++◌}
use Rattle.std.specs.List.{list_any, flat_map}
use Rattle.plain_orders.specs.declared.act.Act.{Act}
use Rattle.job_script.specs.declared.script_line.ScriptLine.{ScriptLine}
use Rattle.job_script.specs.declared.todo.Todo.{Todo}
use Rattle.job_script.specs.declared.todo.Todo.TheVariants.{Job, Hold, Flow, Up, Down, Save, Pump, Tick, Break, Mend, Crash, Restart, Die, Await}
use Rattle.transcript.specs.declared.piece.Piece.{Piece}
use Rattle.transcript.specs.declared.piece.Piece.TheVariants.{Answered, Pumped, Restarted as RestartedPiece, Halted, Gone}
use Rattle.transcript.specs.declared.piece.Restarted.{Restarted}
use Rattle.transcript.specs.declared.piece.Restarted.TheVariants.{Kept, DiskFault, NotAJournal, NotKept, NetFault, Running}
use Rattle.script_fits.specs.JobLines.{Ended}
use Rattle.script_fits.specs.Pieces.{HaltedAt, halt_in}

-- what one line of a script added: acts, pieces, and the ends of commands among these acts
pub record Added : Type 0 where
  pub acts : List Act
  pub pieces : List Piece
  pub ends : List Ended

-- what stands so far, which data servers are down, and whether messages flow after each line
pub record SoFar : Type 0 where
  pub lines : List ScriptLine
  pub acts : List Act
  pub pieces : List Piece
  pub ends : List Ended
  pub down : ℕ → Bool
  pub flows : Bool

-- at the first line: the acts of the opening alone, no server is down, and messages flow
abbrev pub after_opening : List Act → SoFar
after_opening acts = record { lines = []; acts = acts; pieces = []; ends = []; down = λ _. false; flows = true }

-- a line takes this data server down
abbrev pub is_crash : ℕ → Todo → Bool
is_crash d (Job job command) = false
is_crash d Hold = false
is_crash d Flow = false
is_crash d (Up app server) = false
is_crash d (Down app server) = false
is_crash d (Save server) = false
is_crash d Pump = false
is_crash d (Tick count) = false
is_crash d (Break app server) = false
is_crash d (Mend app server) = false
is_crash d (Crash server pick) = server == d
is_crash d (Restart server) = false
is_crash d (Die app) = false
is_crash d (Await job) = false

-- a restart after which the server is up
abbrev pub is_up_after : Restarted → Bool
is_up_after (Kept entries) = true
is_up_after DiskFault = false
is_up_after (NotAJournal place) = false
is_up_after (NotKept place) = false
is_up_after NetFault = false
is_up_after Running = true

-- a piece says that this data server came up
abbrev pub is_up_piece : ℕ → Piece → Bool
is_up_piece d (Answered a) = false
is_up_piece d (Pumped line left) = false
is_up_piece d (RestartedPiece server line outcome) = if server == d then is_up_after outcome else false
is_up_piece d (Halted server line) = false
is_up_piece d (Gone job line) = false

-- which servers are down once a line did its own, before its rounds
abbrev pub down_at : (ℕ → Bool) → Todo → List Piece → ℕ → Bool
down_at down todo pieces d = if list_any (is_up_piece d) pieces then false else (down d || is_crash d todo)

-- the server halted, among these
abbrev pub is_halted : ℕ → List HaltedAt → Bool
is_halted d halts = list_any (λ (h : HaltedAt). h.server == d) halts

-- which servers are down after a line
abbrev pub down_after : (ℕ → Bool) → Todo → List Piece → ℕ → Bool
down_after down todo pieces d = is_halted d (flat_map halt_in pieces) || down_at down todo pieces d

-- whether messages flow after a line
abbrev pub flows_after : Bool → Todo → Bool
flows_after flows (Job job command) = flows
flows_after flows Hold = false
flows_after flows Flow = true
flows_after flows (Up app server) = flows
flows_after flows (Down app server) = flows
flows_after flows (Save server) = flows
flows_after flows Pump = flows
flows_after flows (Tick count) = flows
flows_after flows (Break app server) = flows
flows_after flows (Mend app server) = flows
flows_after flows (Crash server pick) = flows
flows_after flows (Restart server) = flows
flows_after flows (Die app) = flows
flows_after flows (Await job) = flows

-- a line has this data server save
abbrev pub is_save : ℕ → Todo → Bool
is_save d (Job job command) = false
is_save d Hold = false
is_save d Flow = false
is_save d (Up app server) = false
is_save d (Down app server) = false
is_save d (Save server) = server == d
is_save d Pump = true
is_save d (Tick count) = false
is_save d (Break app server) = false
is_save d (Mend app server) = false
is_save d (Crash server pick) = false
is_save d (Restart server) = false
is_save d (Die app) = false
is_save d (Await job) = false

-- a data server may save at a line: messages flow before it or after it, or the line has it save
abbrev pub may_save : Bool → Todo → ℕ → Bool
may_save flows todo d = (flows || flows_after flows todo) || is_save d todo

-- what stands after one more line
abbrev pub with_line : SoFar → ScriptLine → Added → SoFar
with_line s line added = record {
  lines = s.lines ++ line ∷ [];
  acts = s.acts ++ added.acts;
  pieces = s.pieces ++ added.pieces;
  ends = s.ends ++ added.ends;
  down = down_after s.down line.todo added.pieces;
  flows = flows_after s.flows line.todo;
}
