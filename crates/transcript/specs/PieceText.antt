-- The text of pieces: one line each.
use Rattle.std.specs.Prelude.{◌≡◌, ℕ, List, [], ◌∷◌, ◌++◌, Option, None, Some, codes}
use Rattle.plain_orders.specs.declared.layout.Names.{Names}
use Rattle.transcript.specs.declared.piece.Piece.{Piece}
use Rattle.transcript.specs.declared.piece.Piece.TheVariants.{Answered, Pumped, Restarted as RestartedPiece, Halted, Gone}
use Rattle.transcript.specs.declared.piece.Restarted.{Restarted}
use Rattle.transcript.specs.declared.piece.Restarted.TheVariants.{Kept, DiskFault, NotAJournal, NotKept, NetFault, Running}
use Rattle.transcript.specs.Parts.{field, name_at}
use Rattle.transcript.specs.AnswerText.{IsAnswerLine, CanPrintAnswer}

-- what a pump left, if anything
abbrev pub left_text : Option ℕ → List ℕ
left_text None = codes "quiet"
left_text (Some left) = codes "left" ++ field left

-- how a restart ended
abbrev pub restarted_text : Restarted → List ℕ
restarted_text (Kept entries) = codes "kept" ++ field entries
restarted_text DiskFault = codes "diskfault"
restarted_text (NotAJournal place) = codes "notajournal" ++ field place
restarted_text (NotKept place) = codes "notkept" ++ field place
restarted_text NetFault = codes "netfault"
restarted_text Running = codes "running"

-- a line: a name, the script's line that it belongs to, and what is said, with its LF
abbrev pub said_line : List ℕ → ℕ → List ℕ → List ℕ
said_line name line said = name ++ (field line ++ (32 ∷ (said ++ 10 ∷ [])))

-- the line of a piece; what belongs to no job and to no data server has a star in place of a name
abbrev pub IsPieceLine : Names → Piece → List ℕ → Type 0
IsPieceLine names (Answered a) text = IsAnswerLine names a.job a.line a.answer text
IsPieceLine names (Pumped line left) text = text ≡ said_line (codes "*") line (left_text left)
IsPieceLine names (RestartedPiece server line outcome) text = text ≡ said_line (name_at names.servers server) line (restarted_text outcome)
IsPieceLine names (Halted server line) text = text ≡ said_line (name_at names.servers server) line (codes "halted")
IsPieceLine names (Gone job line) text = text ≡ said_line (name_at names.jobs job) line (codes "gone")

-- a piece can be printed where its answer can
abbrev pub CanPrintPiece : Piece → Type 0
CanPrintPiece (Answered a) = CanPrintAnswer a.answer
CanPrintPiece (Pumped line left) = Unit {0}
CanPrintPiece (RestartedPiece server line outcome) = Unit {0}
CanPrintPiece (Halted server line) = Unit {0}
CanPrintPiece (Gone job line) = Unit {0}
