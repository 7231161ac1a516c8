use Rattle.std.proofs.Common.{◌≡◌, ◌∙◌, false, sym, refl, OnOk, Ok, Err, Result}
use Rattle.std.specs.Result.{is_err}
use Rattle.plain_programs.proofs.IndexLemmas.{index-open}
use Rattle.plain_programs.proofs.order_index.OrderIndex.take_open.Goals as goal

told : {T E P : Type 0} (r : Result T E) → is_err r ≡ false → OnOk r P → P
told (Ok x) e p = p
told (Err x) e p = absurd cc

pub returns-clause-ok : goal.returns-clause-ok
returns-clause-ok c = λ es t.
    index-open es c.args.session c.args.app c.args.self.now _ c.new.result t refl
    c.in_ok-insert.ensures.updates.0
    (told c.insert-2.result (sym c.is_err.ensures.value ∙ c.if-is_err.false) c.insert-2.ensures.updates).0
    c.new.ensures.empty
