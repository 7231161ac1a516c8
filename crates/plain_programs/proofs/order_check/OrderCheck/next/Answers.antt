use Rattle.std.proofs.Common.{◌≡◌, ◌++◌, ◌∷◌, [], List, true, false, refl, rules, sym, subst}
use Rattle.plain_orders.specs.declared.entry.Entry.{Entry}
use Rattle.plain_orders.specs.Ordered.{MayFollow, IsOrdered}
use Rattle.plain_orders.proofs.OrderLemmas.{next_decides, ordered-push}
use Rattle.plain_programs.specs.Indexes.{Indexes}
use Rattle.plain_programs.proofs.order_check.OrderCheck.next.Goals as goal

pub returns-then-not-branch-clause-exact : goal.returns-then-not-branch-clause-exact
returns-then-not-branch-clause-exact c =
    next_decides c.args.self.now _ c.args.entry.now c.in_ok-may_follow.field-0 false (subst IsOrdered c.self.view_is c.self.invariant.0) refl c.if-not-branch.true c.in_ok-may_follow.ensures

pub invariant_of-self-2 : goal.invariant_of-self-2
invariant_of-self-2 c =
    let ordered : IsOrdered c.args.self.now = subst IsOrdered c.self.view_is c.self.invariant.0 in
    let may : MayFollow c.args.self.now c.args.entry.now = c.in_ok-may_follow.ensures.0 c.if-not-branch.false in
    let indexes : Indexes c.args.self.now c.self.inside.index = subst (λ (es : List Entry). Indexes es c.self.inside.index) c.self.view_is c.self.invariant.1 in
    let items : c.push.new.self.items ≡ c.args.self.now ++ c.args.entry.now ∷ [] = search rules in (
      subst IsOrdered (sym items) (ordered-push _ _ ordered may),
      subst (λ (es : List Entry). Indexes es c.take.new.self) (sym items) (c.in_ok-take.ensures.ok _ (record { is_ordered = ordered; indexes = indexes; may_follow = may })),
    )

pub returns-clause-exact : goal.returns-clause-exact
returns-clause-exact c =
    next_decides c.args.self.now _ c.args.entry.now c.in_ok-may_follow.field-0 true (subst IsOrdered c.self.view_is c.self.invariant.0) refl c.if-not-branch.false c.in_ok-may_follow.ensures
