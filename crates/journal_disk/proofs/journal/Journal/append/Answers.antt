use Rattle.std.proofs.Common.{◌≡◌, ◌∙◌, ◌++◌, false, ℕ, length, sym, ap, subst, arith}
use Rattle.journal_disk.specs.Settled.{JournalState, IsSettled}
use Rattle.journal_disk.proofs.Appending.{staged_batches, resting_length, whole_none, no_sizes}
use Rattle.journal_disk.proofs.Settling.{settled_stands}
use Rattle.journal_disk.proofs.Splits.{part_ops, all_by_index, has_split, has_batches}
use Rattle.journal_disk.proofs.journal.Journal.append.Goals as goal

pub stage-requires : goal.stage-requires
stage-requires g c =
    let is_ready : c.args.self.now.needs_start ≡ false = sym (ap (λ (s : JournalState). s.needs_start) c.self.view_is) ∙ c.if-self.false in
    let ready = c.requires.ready is_ready in
    all_by_index c.args.part.now (part_ops ready.0 c.args.part.now ready.1.1)

pub returns-in_err-staged-clause-any_moment : goal.returns-in_err-staged-clause-any_moment
returns-in_err-staged-clause-any_moment g c = λ ready list may x e.
    let split = has_split c.args.part.now (part_ops list c.args.part.now may.1) in
    whole_none g.D.Disk.moment g.D.Disk.left_since g.D.Disk.may_leave g.D.Disk.told c.args.disk.now x list c.args.part.now split.0 c.args.self.now.gate e may.0 split.1
    (g.met.D.Disk.only_now c.args.disk.now)

pub returns-in_err-staged-clause-few : goal.returns-in_err-staged-clause-few
returns-in_err-staged-clause-few g c = λ ready.
    let may = c.requires.ready ready in
    let has = has_batches c.args.part.now (part_ops may.0 c.args.part.now may.1.1) in
    (has.0, has.1, omega arith)

pub returns-in-Ok-clause-calls : goal.returns-in-Ok-clause-calls
returns-in-Ok-clause-calls g c =
    let sizes = c.in_ok-staged.staged.sizes.items in
    (length sizes, staged_batches c.args.part.now _ sizes c.in_ok-staged.ensures.staged, c.in-Ok.ensures.calls)

pub returns-in-Ok-clause-few : goal.returns-in-Ok-clause-few
returns-in-Ok-clause-few g c = λ ready.
    let sizes = c.in_ok-staged.staged.sizes.items in
    (length sizes, staged_batches c.args.part.now _ sizes c.in_ok-staged.ensures.staged, c.write_batches.ensures.few)

pub returns-clause-few : goal.returns-clause-few
returns-clause-few g c = λ ready.
    let sizes = c.in_ok-staged.staged.sizes.items in
    (length sizes, staged_batches c.args.part.now _ sizes c.in_ok-staged.ensures.staged, c.write_batches.ensures.few)

pub write_batches-requires-clause-within : goal.write_batches-requires-clause-within
write_batches-requires-clause-within g c = λ x e.
    let is_ready : c.args.self.now.needs_start ≡ false = sym (ap (λ (s : JournalState). s.needs_start) c.self.view_is) ∙ c.if-self.false in
    let ready = c.requires.ready is_ready in
    let at = ready.1.0 x e in
    omega (arith, resting_length c.args.self.now.gate x ready.0 at.0, ap (λ (s : JournalState). s.gate) c.self.view_is)

pub returns-in-Ok-clause-ok : goal.returns-in-Ok-clause-ok
returns-in-Ok-clause-ok g c = λ list may.
    let gate_is = ap (λ (s : JournalState). s.gate) c.self.view_is in
    let at = subst (λ (n : ℕ). IsSettled (g.D.Disk.told c.args.disk.now) (g.D.Disk.may_leave c.args.disk.now) n list) (sym gate_is) may.0 in
    c.in-Ok.ensures.ok list c.args.part.now at may.1 c.in_ok-staged.ensures.staged

pub returns-in-Ok-clause-stands : goal.returns-in-Ok-clause-stands
returns-in-Ok-clause-stands g c = λ list may.
    let gate_is = ap (λ (s : JournalState). s.gate) c.self.view_is in
    let at = subst (λ (n : ℕ). IsSettled (g.D.Disk.told c.args.disk.now) (g.D.Disk.may_leave c.args.disk.now) n list) (sym gate_is) may.0 in
    settled_stands (g.D.Disk.told c.write_batches.new.disk) (g.D.Disk.may_leave c.write_batches.new.disk) c.in-Ok.gate (list ++ c.args.part.now)
    (c.in-Ok.ensures.ok list c.args.part.now at may.1 c.in_ok-staged.ensures.staged)

pub returns-in-Ok-clause-any_moment : goal.returns-in-Ok-clause-any_moment
returns-in-Ok-clause-any_moment g c = λ ready list may x e.
    let gate_is = ap (λ (s : JournalState). s.gate) c.self.view_is in
    let at = subst (λ (n : ℕ). IsSettled (g.D.Disk.told c.args.disk.now) (g.D.Disk.may_leave c.args.disk.now) n list) (sym gate_is) may.0 in
    c.write_batches.ensures.any_moment list c.args.part.now at may.1 c.in_ok-staged.ensures.staged x e

pub returns-in-Ok-clause-empty : goal.returns-in-Ok-clause-empty
returns-in-Ok-clause-empty g c = λ none.
    c.write_batches.ensures.none (no_sizes c.args.part.now _ _ c.in_ok-staged.ensures.staged none)

pub returns-clause-any_moment : goal.returns-clause-any_moment
returns-clause-any_moment g c = λ ready list may x e.
    let gate_is = ap (λ (s : JournalState). s.gate) c.self.view_is in
    let at = subst (λ (n : ℕ). IsSettled (g.D.Disk.told c.args.disk.now) (g.D.Disk.may_leave c.args.disk.now) n list) (sym gate_is) may.0 in
    c.write_batches.ensures.any_moment list c.args.part.now at may.1 c.in_ok-staged.ensures.staged x e

pub returns-clause-empty : goal.returns-clause-empty
returns-clause-empty g c = λ none.
    c.write_batches.ensures.none (no_sizes c.args.part.now _ _ c.in_ok-staged.ensures.staged none)
