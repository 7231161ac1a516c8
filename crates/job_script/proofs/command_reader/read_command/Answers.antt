use Rattle.std.proofs.Common.{List, ℕ, refl, sym, subst, inl, inr}
use Rattle.job_script.specs.Rows.{command_row, IsUnknown}
use Rattle.job_script.proofs.CommandLemmas.{unknown_command}
use Rattle.job_script.proofs.command_reader.read_command.Goals as goal

pub returns-in-None-clause-err : goal.returns-in-None-clause-err
returns-in-None-clause-err c =
    let P : List ℕ → Type 0 = λ w. IsUnknown command_row w in
    inr (inl (subst P (sym c.split_word.ensures.first) (unknown_command c.split_word.result.0.now c.in-None.ensures.none), refl))
