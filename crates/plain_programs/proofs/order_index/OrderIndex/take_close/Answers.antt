use Rattle.std.proofs.Common.{◌∙◌, sym, refl}
use Rattle.plain_programs.proofs.IndexLemmas.{index-close}
use Rattle.plain_programs.proofs.order_index.OrderIndex.take_close.Goals as goal

pub returns-in-Some : goal.returns-in-Some
returns-in-Some c = λ es t.
    index-close es c.args.session c.args.self.now _ c.in-Some.live t (sym c.remove.ensures.value ∙ c.in-Some.is) refl
    c.remove-in-Some.ensures.updates.0 c.remove.ensures.updates.0
