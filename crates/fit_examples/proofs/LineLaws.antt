-- What a line adds comes to.
use Rattle.std.proofs.Common.{◌≡◌, inr, ℕ, Bool, true, false, List, [], ◌∷◌, ◌++◌, Option, refl, sym, subst}
use Rattle.std.specs.Prelude.{◌==◌, slice_get, IfSome, length}
use Rattle.std.specs.List.{flat_map}
use Rattle.std.proofs.lemmas.Bool.{eqb-true}
use Rattle.std.proofs.lemmas.Grind.{flat_map-append}
use Rattle.plain_orders.specs.declared.act.Act.{Act}
use Rattle.plain_orders.specs.declared.layout.Layout.{Layout}
use Rattle.job_script.specs.declared.script_line.ScriptLine.{ScriptLine}
use Rattle.job_script.specs.declared.todo.Todo.TheVariants.{Restart, Pump}
use Rattle.transcript.specs.declared.piece.AnswerLine.{AnswerLine}
use Rattle.transcript.specs.declared.piece.Piece.{Piece}
use Rattle.transcript.specs.declared.piece.Piece.TheVariants.{Answered, Pumped, Restarted as RestartedPiece, Halted, Gone}
use Rattle.transcript.specs.declared.piece.Restarted.{Restarted}
use Rattle.script_fits.specs.JobLines.{CommandLine, commands_of, ended_of}
use Rattle.script_fits.specs.Pieces.{has_wait, wait_in, waits_in, restart_in, gone_in, pump_in}
use Rattle.script_fits.specs.Lines.{AreRestarts, RestartMay, ArePumps, LeavesMay, IsAccounted, AreWaits, LineAdds}
use Rattle.script_fits.specs.Walk.{SoFar, Added, with_line}

-- a restart that may not end so
pub no_restart : (down : ℕ → Bool) (d line : ℕ) (outcome : Restarted) (acts : List Act)
    → AreRestarts down line (Restart d) (RestartedPiece d line outcome ∷ []) acts → ¬ RestartMay (down d) d outcome acts → ⊥
no_restart down d line outcome acts (other, e, may, crashes) wrong =
    let same : other ≡ outcome = cc e in
    wrong (subst (λ o. RestartMay (down d) d o acts) same may)

-- a pump that may not leave this
pub no_pump : (n line : ℕ) (left : Option ℕ) → ArePumps n line Pump (Pumped line left ∷ []) → ¬ LeavesMay n left → ⊥
no_pump n line left (other, e, may) wrong =
    let same : other ≡ left = cc e in
    wrong (subst (λ o. LeavesMay n o) same may)

-- answers for two lines differ
pub other_line : (a b : AnswerLine) → a ∷ [] ≡ b ∷ [] → ¬ (a.line ≡ b.line) → ⊥
other_line a b e wrong =
    let same : a ≡ b = cc e in
    wrong (subst (λ (c : AnswerLine). a.line ≡ c.line) same refl)

-- where only job 0 has commands, what is so of it is so of each job
pub accounted_all : (l : Layout) (s : SoFar) → ((j : ℕ) → (0 == j) ≡ false → commands_of j s.lines ≡ []) → IsAccounted l s 0 → (j : ℕ) → IsAccounted l s j
accounted_all l s others here j = go (0 == j) refl
  where
    go : (b : Bool) → (0 == j) ≡ b → IsAccounted l s j
    go true e = subst (λ k. IsAccounted l s k) (eqb-true 0 j e) here
    go false e =
        inr (subst (λ cs. IfSome (slice_get cs (length (ended_of j s.ends))) (λ (c : CommandLine). has_wait j c.line s.pieces ≡ true)) (sym (others j e)) tt)

restarts_wait : (ps : List Piece) → waits_in (flat_map restart_in ps) ≡ []
restarts_wait [] = refl
restarts_wait (Answered a ∷ ps) = restarts_wait ps
restarts_wait (Pumped line left ∷ ps) = restarts_wait ps
restarts_wait (RestartedPiece server line outcome ∷ ps) = restarts_wait ps
restarts_wait (Halted server line ∷ ps) = restarts_wait ps
restarts_wait (Gone job line ∷ ps) = restarts_wait ps

gone_wait : (ps : List Piece) → waits_in (flat_map gone_in ps) ≡ []
gone_wait [] = refl
gone_wait (Answered a ∷ ps) = gone_wait ps
gone_wait (Pumped line left ∷ ps) = gone_wait ps
gone_wait (RestartedPiece server line outcome ∷ ps) = gone_wait ps
gone_wait (Halted server line ∷ ps) = gone_wait ps
gone_wait (Gone job line ∷ ps) = gone_wait ps

pumps_wait : (ps : List Piece) → waits_in (flat_map pump_in ps) ≡ []
pumps_wait [] = refl
pumps_wait (Answered a ∷ ps) = pumps_wait ps
pumps_wait (Pumped line left ∷ ps) = pumps_wait ps
pumps_wait (RestartedPiece server line outcome ∷ ps) = pumps_wait ps
pumps_wait (Halted server line ∷ ps) = pumps_wait ps
pumps_wait (Gone job line ∷ ps) = pumps_wait ps

-- the waiting lines of a line are those among its pieces
pub waits_are : (l : Layout) (s : SoFar) (line : ScriptLine) (added : Added) → LineAdds l s line added → AreWaits l s (with_line s line added) 0 (waits_in added.pieces)
waits_are l s line added f =
    subst (λ ws. AreWaits l s (with_line s line added) 0 ws)
    (sym (cc (
      f.pieces,
      flat_map-append wait_in (flat_map restart_in added.pieces) (flat_map gone_in added.pieces ++ (f.middle ++ (flat_map pump_in added.pieces ++ f.waiting))),
      flat_map-append wait_in (flat_map gone_in added.pieces) (f.middle ++ (flat_map pump_in added.pieces ++ f.waiting)),
      flat_map-append wait_in f.middle (flat_map pump_in added.pieces ++ f.waiting),
      flat_map-append wait_in (flat_map pump_in added.pieces) f.waiting,
      restarts_wait added.pieces,
      gone_wait added.pieces,
      pumps_wait added.pieces,
      f.no_wait,
    )))
    f.waits
