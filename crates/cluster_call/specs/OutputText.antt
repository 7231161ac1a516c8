-- The text of an output: the lines of its pieces, the line `trail`, and the trail.
use Rattle.std.specs.Prelude.{◌≡◌, ℕ, List, [], ◌∷◌, ◌++◌, codes}
use Rattle.plain_orders.specs.declared.act.Act.{Act}
use Rattle.plain_orders.specs.declared.layout.Names.{Names}
use Rattle.job_script.specs.declared.script.Script.{Script}
use Rattle.transcript.specs.declared.piece.Piece.{Piece}
use Rattle.transcript.specs.ActText.{AreActLines, times_line}
use Rattle.transcript.specs.PieceText.{IsPieceLine}
use Rattle.script_fits.specs.declared.output.Output.{Output}

-- the lines of pieces, one after the other
abbrev pub IsTranscript : Names → List Piece → List ℕ → Type 0
IsTranscript names [] text = text ≡ []
IsTranscript names (piece ∷ pieces) text =
    (line : List ℕ) × (rest : List ℕ) × IsPieceLine names piece line × IsTranscript names pieces rest × (text ≡ line ++ rest)

-- the lines of acts, one after the other
abbrev pub AreTrailLines : List Act → List ℕ → Type 0
AreTrailLines [] text = text ≡ []
AreTrailLines (a ∷ acts) text = (lines : List ℕ) × (rest : List ℕ) × AreActLines a lines × AreTrailLines acts rest × (text ≡ lines ++ rest)

-- its parts: the lines of the pieces, and those of the acts
pub record HasText (script : Script) (out : Output) (pieces acts text : List ℕ) : Type 0 where
  pub transcript : IsTranscript script.names out.pieces.items pieces
  pub trail : AreTrailLines out.trail acts
  pub whole : text ≡ pieces ++ (codes "trail\n" ++ (times_line script.layout ++ acts))

-- this is the printed output
abbrev pub IsOutputText : Script → Output → List ℕ → Type 0
IsOutputText script out text = (pieces : List ℕ) × (acts : List ℕ) × HasText script out pieces acts text
