use Rattle.std.proofs.Common.{ap, ◌∙◌}
use Rattle.std.specs.Map.{remove_entry}
use Rattle.std.specs.BTreeMap.{is_at}
use Rattle.std.specs.Ordering.{nat_cmp}
use Rattle.lock_index.proofs.KeyLemmas.{on_ok, on_err}
use Rattle.lock_index.proofs.RowLemmas.{inserted_last, removed_last}
use Rattle.lock_index.proofs.rows.push_row.Goals as goal

pub returns-then-is_err-clause-same_rows : goal.returns-then-is_err-clause-same_rows
returns-then-is_err-clause-same_rows g c =
    on_err c.add-added.result _
    (c.remove.ensures.entries
    ∙ ap (remove_entry (is_at (nat_cmp c.args.number))) (c.in_ok-insert.ensures.entries ∙ inserted_last c.args.number c.args.row c.args.rows.now.entries c.requires)
    ∙ removed_last c.args.number c.args.row c.args.rows.now.entries c.requires)

pub returns-else-is_err-clause-rows : goal.returns-else-is_err-clause-rows
returns-else-is_err-clause-rows g c =
    on_ok c.add-added.result _ (c.in_ok-insert.ensures.entries ∙ inserted_last c.args.number c.args.row c.args.rows.now.entries c.requires)
