-- What the printing of an output puts.
use Rattle.std.proofs.Common.{◌≡◌, ℕ, zero, suc, ◌+◌, ◌<◌, List, [], ◌∷◌, ◌++◌, length, take, get_or, refl, sym, ap, ◌∙◌, subst, append_assoc, append-nil, arith}
use Rattle.std.proofs.lemmas.List.{take_more}
use Rattle.std.specs.Prelude.{codes}
use Rattle.std.specs.List.{AllByRecursion}
use Rattle.plain_orders.specs.declared.act.Act.{Act}
use Rattle.plain_orders.specs.declared.layout.Names.{Names}
use Rattle.global_text.specs.Printed.{Appends}
use Rattle.job_script.specs.declared.script.Script.{Script}
use Rattle.transcript.specs.declared.piece.Piece.{Piece}
use Rattle.transcript.specs.ActText.{AreActLines, times_line}
use Rattle.transcript.specs.PieceText.{IsPieceLine}
use Rattle.script_fits.specs.declared.output.Output.{Output}
use Rattle.cluster_call.specs.OutputText.{AreTrailLines, IsOutputText, IsTranscript}

-- the lines of pieces and one more
IsTranscript-more : (names : Names) (pieces : List Piece) (piece : Piece) (text line : List ℕ) → IsTranscript names pieces text → IsPieceLine names piece line → IsTranscript names (pieces ++ piece ∷ []) (text ++ line)
IsTranscript-more names [] piece text line is more = (line, [], more, refl, ap (λ t. t ++ line) is ∙ sym (append-nil line))
IsTranscript-more names (p ∷ pieces) piece text line is more =
    (is.0, is.1 ++ line, is.2, IsTranscript-more names pieces piece is.1 line is.3 more, ap (λ t. t ++ line) is.4 ∙ append_assoc is.0 is.1 line)

-- what stands behind a text, and then more
behind : (before text line between after : List ℕ) → between ≡ before ++ text → after ≡ between ++ line → after ≡ before ++ (text ++ line)
behind before text line between after is more = more ∙ ap (λ t. t ++ line) is ∙ append_assoc before text line

-- the line of the piece at a place
pub pieces_more : (names : Names) (pieces : List Piece) (i : ℕ) (piece : Piece) (before between after : List ℕ) → i < length pieces → piece ≡ get_or pieces i piece
    → Appends (IsTranscript names (take i pieces)) before between → Appends (IsPieceLine names piece) between after → Appends (IsTranscript names (take (i + 1) pieces)) before after
pieces_more names pieces i piece before between after low at so more = (
  so.0 ++ more.0,
  subst (λ xs. IsTranscript names xs (so.0 ++ more.0)) (sym (take_more pieces i piece low ∙ ap (λ x. take i pieces ++ x ∷ []) (sym at))) (IsTranscript-more names (take i pieces) piece so.0 more.0 so.1 more.1),
  behind before so.0 more.0 between after so.2 more.2,
)

-- the lines of acts and one more
AreTrailLines-more : (acts : List Act) (a : Act) (text lines : List ℕ) → AreTrailLines acts text → AreActLines a lines → AreTrailLines (acts ++ a ∷ []) (text ++ lines)
AreTrailLines-more [] a text lines is more = (lines, [], more, refl, ap (λ t. t ++ lines) is ∙ sym (append-nil lines))
AreTrailLines-more (b ∷ acts) a text lines is more =
    (is.0, is.1 ++ lines, is.2, AreTrailLines-more acts a is.1 lines is.3 more, ap (λ t. t ++ lines) is.4 ∙ append_assoc is.0 is.1 lines)

-- the lines of the act at a place
pub acts_more : (acts : List Act) (i : ℕ) (a : Act) (before between after : List ℕ) → i < length acts → a ≡ get_or acts i a
    → Appends (AreTrailLines (take i acts)) before between → Appends (AreActLines a) between after → Appends (AreTrailLines (take (i + 1) acts)) before after
acts_more acts i a before between after low at so more = (
  so.0 ++ more.0,
  subst (λ xs. AreTrailLines xs (so.0 ++ more.0)) (sym (take_more acts i a low ∙ ap (λ x. take i acts ++ x ∷ []) (sym at))) (AreTrailLines-more (take i acts) a so.0 more.0 so.1 more.1),
  behind before so.0 more.0 between after so.2 more.2,
)

-- what holds of each holds at a place
pub all_at : {X : Type 0} (P : X → Type 0) (xs : List X) (i : ℕ) (x : X) → AllByRecursion P xs → i < length xs → x ≡ get_or xs i x → P x
all_at P [] i x all low at = absurd (omega arith)
all_at P (y ∷ xs) zero x all low at = subst P (sym at) all.0
all_at P (y ∷ xs) (suc i) x all low at = all_at P xs i x all.1 (omega arith) at

-- the lines of the pieces, the line `trail`, the line of the times, and the acts
pub output_puts : (script : Script) (out : Output) (pieces : List Piece) (acts : List Act) (with_pieces with_word with_times text : List ℕ)
    → pieces ≡ out.pieces.items → acts ≡ out.trail
    → Appends (IsTranscript script.names pieces) [] with_pieces → with_word ≡ with_pieces ++ codes "trail\n" → with_times ≡ with_word ++ times_line script.layout → Appends (AreTrailLines acts) with_times text
    → IsOutputText script out text
output_puts script out pieces acts with_pieces with_word with_times text given also told word times acted = (
  told.0,
  acted.0,
  record {
    transcript = subst (λ xs. IsTranscript script.names xs told.0) given told.1;
    trail = subst (λ xs. AreTrailLines xs acted.0) also acted.1;
    whole =
        acted.2 ∙ ap (λ t. t ++ acted.0) (times ∙ ap (λ t. t ++ times_line script.layout) (word ∙ ap (λ t. t ++ codes "trail\n") told.2))
        ∙ append_assoc (told.0 ++ codes "trail\n") (times_line script.layout) acted.0
        ∙ append_assoc told.0 (codes "trail\n") (times_line script.layout ++ acted.0);
  },
)
