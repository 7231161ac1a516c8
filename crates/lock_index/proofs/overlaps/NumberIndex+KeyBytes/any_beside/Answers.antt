use Rattle.std.proofs.Common.{Bool, ◌||◌, sym, ◌∙◌, ap}
use Rattle.std.specs.List.{list_any}
use Rattle.lock_index.specs.IndexWords.{passes_above}
use Rattle.lock_index.proofs.NameLemmas.{beside}
use Rattle.lock_index.proofs.KeyLemmas.{ok_same}
use Rattle.lock_index.proofs.overlaps.NumberIndex+KeyBytes.any_beside.Goals as goal

pub returns-then-any_below : goal.returns-then-any_below
returns-then-any_below g c =
    sym (beside c.args.name.now (g.T.NumberTest.passes c.args.test.now) c.args.self.now
    ∙ ap (λ (b : Bool). b || list_any (passes_above c.args.name.now (g.T.NumberTest.passes c.args.test.now)) c.args.self.now) (sym c.any_below.ensures ∙ c.if-any_below.true))

pub returns : goal.returns
returns g c =
    ok_same c.any_above.result _ _
    (sym (beside c.args.name.now (g.T.NumberTest.passes c.args.test.now) c.args.self.now
    ∙ ap (λ (b : Bool). b || list_any (passes_above c.args.name.now (g.T.NumberTest.passes c.args.test.now)) c.args.self.now) (sym c.any_below.ensures ∙ c.if-any_below.false)))
    c.any_above.ensures
