use Rattle.std.proofs.Common.{◌≡◌, ℕ, List, [], ◌∷◌, ◌++◌, rules, subst}
use Rattle.plain_orders.specs.PairMap.{key_cmp}
use Rattle.lock_index.specs.IndexWords.{numbers_at, PutsAt}
use Rattle.lock_table.proofs.IndexLemmas.{name_pushed}
use Rattle.lock_table.proofs.holds.Holds.push.Goals as goal

pub invariant_of-self-2 : goal.invariant_of-self-2
invariant_of-self-2 c =
    let copied : c.in_ok-name.name ≡ c.args.hold.name = search rules in
    let puts = subst (λ (k : List ℕ). PutsAt key_cmp k (numbers_at key_cmp k c.self.inside.names ++ c.self.inside.next ∷ []) c.self.inside.names c.push_row.new.index) copied c.in_ok-push_row.ensures.index in
    rw c.in_ok-push_row.ensures.rows (name_pushed c.self.inside.next c.self.inside.names c.push_row.new.index c.self.inside.rows.entries c.args.hold c.self.invariant puts)
