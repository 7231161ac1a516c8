-- The lines of a transcript by their kinds.
use Rattle.std.specs.Prelude.{ℕ, Bool, ◌==◌, ◌&&◌, if◌then◌else◌, List, [], ◌∷◌, Option, None, Some}
use Rattle.std.specs.List.{flat_map, list_any}
use Rattle.app_job.specs.declared.answer.Answer.{Answer}
use Rattle.app_job.specs.declared.answer.Answer.TheVariants.{Queued, Value, Shape, Next, Counted, Granted, Done, Committed, RolledBack, Waiting, Refused}
use Rattle.app_job.specs.declared.why.Why.{Why}
use Rattle.transcript.specs.declared.piece.AnswerLine.{AnswerLine}
use Rattle.transcript.specs.declared.piece.Piece.{Piece}
use Rattle.transcript.specs.declared.piece.Piece.TheVariants.{Answered, Pumped, Restarted, Halted, Gone}

-- what a command waits for, if this says that it waits
abbrev pub why_of : Answer → Option Why
why_of (Queued places) = None
why_of (Value value n via) = None
why_of (Shape code n via) = None
why_of (Next sub n via) = None
why_of (Counted sum n) = None
why_of (Granted n) = None
why_of Done = None
why_of (Committed places) = None
why_of (RolledBack places) = None
why_of (Waiting why) = Some why
why_of (Refused refusal) = None

-- an answer alone, unless it says that the command waits
abbrev pub unless_waiting : Option Why → AnswerLine → List AnswerLine
unless_waiting None a = a ∷ []
unless_waiting (Some why) a = []

-- the answer of a piece, if it is one
abbrev pub answer_in : Piece → List AnswerLine
answer_in (Answered a) = unless_waiting (why_of a.answer) a
answer_in (Pumped line left) = []
answer_in (Restarted server line outcome) = []
answer_in (Halted server line) = []
answer_in (Gone job line) = []

-- the answers among some pieces
abbrev pub answers_in : List Piece → List AnswerLine
answers_in pieces = flat_map answer_in pieces

-- a command that waits: its job, its line, and for what
pub record Waits : Type 0 where
  pub job : ℕ
  pub line : ℕ
  pub why : Why

-- that a command waits, where this says so
abbrev pub if_waiting : Option Why → AnswerLine → List Waits
if_waiting None a = []
if_waiting (Some why) a = record { job = a.job; line = a.line; why = why } ∷ []

-- the command that a piece says to wait, if it does
abbrev pub wait_in : Piece → List Waits
wait_in (Answered a) = if_waiting (why_of a.answer) a
wait_in (Pumped line left) = []
wait_in (Restarted server line outcome) = []
wait_in (Halted server line) = []
wait_in (Gone job line) = []

-- the waiting lines among some pieces
abbrev pub waits_in : List Piece → List Waits
waits_in pieces = flat_map wait_in pieces

-- a waiting line is of this command
abbrev pub is_of_command : ℕ → ℕ → Waits → Bool
is_of_command job line w = w.job == job && w.line == line

-- what was printed last for a command, where it was this before
abbrev pub last_why : Option Why → ℕ → ℕ → List Waits → Option Why
last_why o job line [] = o
last_why o job line (w ∷ ws) = last_why (if is_of_command job line w then Some w.why else o) job line ws

-- a command has a waiting line
abbrev pub has_wait : ℕ → ℕ → List Piece → Bool
has_wait job line pieces = list_any (is_of_command job line) (waits_in pieces)

-- a piece alone, if a pump made it
abbrev pub pump_in : Piece → List Piece
pump_in (Answered a) = []
pump_in (Pumped line left) = Pumped line left ∷ []
pump_in (Restarted server line outcome) = []
pump_in (Halted server line) = []
pump_in (Gone job line) = []

-- a piece alone, if a restart made it
abbrev pub restart_in : Piece → List Piece
restart_in (Answered a) = []
restart_in (Pumped line left) = []
restart_in (Restarted server line outcome) = Restarted server line outcome ∷ []
restart_in (Halted server line) = []
restart_in (Gone job line) = []

-- a piece alone, if it says that a job is gone
abbrev pub gone_in : Piece → List Piece
gone_in (Answered a) = []
gone_in (Pumped line left) = []
gone_in (Restarted server line outcome) = []
gone_in (Halted server line) = []
gone_in (Gone job line) = Gone job line ∷ []

-- a data server that halted: its index, and the line at which it did
pub record HaltedAt : Type 0 where
  pub server : ℕ
  pub line : ℕ

-- the halt that a piece tells, if it does
abbrev pub halt_in : Piece → List HaltedAt
halt_in (Answered a) = []
halt_in (Pumped line left) = []
halt_in (Restarted server line outcome) = []
halt_in (Halted server line) = record { server = server; line = line } ∷ []
halt_in (Gone job line) = []
