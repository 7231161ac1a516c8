use Rattle.std.proofs.Common.{◌≡◌, drop}
use Rattle.lock_index.specs.IndexWords.{without_rows}
use Rattle.lock_index.proofs.rows.remove_rows.Given as goal

abbrev pub invariant-loop-number : goal.invariant-loop-number
invariant-loop-number g l = without_rows (drop l.number-index l.numbers) l.rows.entries ≡ without_rows l.numbers l.initial.rows.entries
