use Rattle.std.proofs.Common.{◌≡◌, ◌∙◌, ℕ, List, subst, sym}
use Rattle.plain_orders.specs.declared.entry.Entry.{Entry}
use Rattle.outer_disk.specs.Disk.{Only}
use Rattle.journal_disk.specs.Stands.{Stands, StandsAs, AreLow, HasBadGate}
use Rattle.journal_disk.specs.Reading.{IsRead}
use Rattle.journal_disk.proofs.OneList.{bad_no_list}
use Rattle.journal_disk.proofs.Moments.{at_some, weaker, both}
use Rattle.journal_disk.proofs.Settling.{read_stands, read_as, same_as}
use Rattle.journal_disk.proofs.recovery.recover.Goals as goal

pub returns-in_err-read-clause-not_a_journal : goal.returns-in_err-read-clause-not_a_journal
returns-in_err-read-clause-not_a_journal g c = λ place e x f.
    let from = rw e at c.from_residual-in_err-read.ensures in
    let bytes = c.deref.ensures.value ∙ c.in_ok-bytes.ensures.bytes x f in
    subst (λ (bs : List ℕ). HasBadGate bs place) bytes (c.in_err-read.ensures.not_a_journal place (cc (from.1)))

-- what has a bad gate isn't read
refused : (bytes held : List ℕ) (list : List Entry) (gate place : ℕ) → bytes ≡ held → IsRead bytes list gate → AreLow list → HasBadGate held place → ⊥
refused bytes held list gate place e read low bad =
    bad_no_list held place list bad (read_stands held list gate (subst (λ (bs : List ℕ). IsRead bs list gate) e read)) low

pub returns-in_err-repair-clause-kept : goal.returns-in_err-repair-clause-kept
returns-in_err-repair-clause-kept g c = λ x e place bad.
    let bytes = c.deref.ensures.value ∙ c.in_ok-bytes.ensures.bytes x e in
    absurd (refused c.deref.result.now x c.in_ok-read.read.entries c.in_ok-read.read.gate place bytes c.in_ok-read.ensures.ok c.in_ok-read.ensures.low bad)

pub returns-clause-kept : goal.returns-clause-kept
returns-clause-kept g c = λ x e place bad.
    let bytes = c.deref.ensures.value ∙ c.in_ok-bytes.ensures.bytes x e in
    absurd (refused c.deref.result.now x c.in_ok-read.read.entries c.in_ok-read.read.gate place bytes c.in_ok-read.ensures.ok c.in_ok-read.ensures.low bad)

pub returns-in_err-repair-clause-read : goal.returns-in_err-repair-clause-read
returns-in_err-repair-clause-read g c = λ x e y f.
    let list = c.in_ok-read.read.entries in
    let gate = c.in_ok-read.read.gate in
    let bytes = c.deref.ensures.value ∙ c.in_ok-bytes.ensures.bytes x e in
    let read = subst (λ (bs : List ℕ). IsRead bs list gate) bytes c.in_ok-read.ensures.ok in
    read_as x y list (read_stands x list gate read) (c.repair.ensures.read x (c.read_all.ensures.same ∙ e) y f list read)

pub returns-in_err-repair-clause-any_moment : goal.returns-in_err-repair-clause-any_moment
returns-in_err-repair-clause-any_moment g c = λ x e.
    let list = c.in_ok-read.read.entries in
    let gate = c.in_ok-read.read.gate in
    let moment = g.D.Disk.moment in
    let since = g.D.Disk.left_since in
    let may = g.D.Disk.may_leave in
    let old = c.args.disk.now in
    let mid = c.read_all.new.disk in
    let new = c.repair.new.disk in
    let bytes = c.deref.ensures.value ∙ c.in_ok-bytes.ensures.bytes x e in
    let read = subst (λ (bs : List ℕ). IsRead bs list gate) bytes c.in_ok-read.ensures.ok in
    let only : Only x (may old) = at_some _ _ _ c.requires.synced e in
    let only_mid : Only x (may mid) = λ b left. only b (c.read_all.ensures.crash b left) in
    let first = weaker moment since may old mid (may old) (StandsAs x) c.read_all.ensures.any_moment (λ b left. same_as x b (only b left)) in
    let second = weaker moment since may mid new (λ b. Stands b list) (StandsAs x) (c.repair.ensures.any_moment x (c.read_all.ensures.same ∙ e) only_mid list read)
    (λ b stands. read_as x b list (read_stands x list gate read) stands) in
    both moment since may old mid new (StandsAs x) first second

pub returns-clause-settled : goal.returns-clause-settled
returns-clause-settled g c =
    let list = c.in_ok-read.read.entries in
    let gate = c.in_ok-read.read.gate in
    c.in_ok-repair.ensures.settled list (λ x e. subst (λ (bs : List ℕ). IsRead bs list gate) (c.deref.ensures.value ∙ c.in_ok-bytes.ensures.bytes x (sym c.read_all.ensures.same ∙ e)) c.in_ok-read.ensures.ok)

pub returns-clause-read : goal.returns-clause-read
returns-clause-read g c = λ x e y f.
    let list = c.in_ok-read.read.entries in
    let gate = c.in_ok-read.read.gate in
    let bytes = c.deref.ensures.value ∙ c.in_ok-bytes.ensures.bytes x e in
    let read = subst (λ (bs : List ℕ). IsRead bs list gate) bytes c.in_ok-read.ensures.ok in
    read_as x y list (read_stands x list gate read) (c.repair.ensures.read x (c.read_all.ensures.same ∙ e) y f list read)

pub returns-clause-any_moment : goal.returns-clause-any_moment
returns-clause-any_moment g c = λ x e.
    let list = c.in_ok-read.read.entries in
    let gate = c.in_ok-read.read.gate in
    let moment = g.D.Disk.moment in
    let since = g.D.Disk.left_since in
    let may = g.D.Disk.may_leave in
    let old = c.args.disk.now in
    let mid = c.read_all.new.disk in
    let new = c.repair.new.disk in
    let bytes = c.deref.ensures.value ∙ c.in_ok-bytes.ensures.bytes x e in
    let read = subst (λ (bs : List ℕ). IsRead bs list gate) bytes c.in_ok-read.ensures.ok in
    let only : Only x (may old) = at_some _ _ _ c.requires.synced e in
    let only_mid : Only x (may mid) = λ b left. only b (c.read_all.ensures.crash b left) in
    let first = weaker moment since may old mid (may old) (StandsAs x) c.read_all.ensures.any_moment (λ b left. same_as x b (only b left)) in
    let second = weaker moment since may mid new (λ b. Stands b list) (StandsAs x) (c.repair.ensures.any_moment x (c.read_all.ensures.same ∙ e) only_mid list read)
    (λ b stands. read_as x b list (read_stands x list gate read) stands) in
    both moment since may old mid new (StandsAs x) first second
