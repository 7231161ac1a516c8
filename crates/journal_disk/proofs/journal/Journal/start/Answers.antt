use Rattle.std.proofs.Common.{◌∙◌, inr}
use Rattle.journal_disk.specs.Stands.{StandsAs}
use Rattle.journal_disk.proofs.Moments.{once_synced, still_kept}
use Rattle.journal_disk.proofs.Settling.{settled_stands}
use Rattle.journal_disk.proofs.journal.Journal.start.Goals as goal

pub returns-in_err-read-clause-any_moment : goal.returns-in_err-read-clause-any_moment
returns-in_err-read-clause-any_moment g c = λ x e.
    inr (once_synced g.D.Disk.moment g.D.Disk.left_since g.D.Disk.may_leave c.args.disk.now c.sync.new.self c.recover.new.disk (StandsAs x)
    (g.met.D.Disk.only_now c.args.disk.now) c.sync.ensures.time c.sync.ensures.crash (c.recover.ensures.any_moment x (c.sync.ensures.same ∙ e)))

pub returns-in_err-read-clause-not_a_journal : goal.returns-in_err-read-clause-not_a_journal
returns-in_err-read-clause-not_a_journal g c = λ place e x f.
    let from = rw e at c.from_residual-in_err-read.ensures in
    c.in_err-read.ensures.not_a_journal place (cc (from.1)) x (c.sync.ensures.same ∙ f)

pub returns-in_err-read-clause-kept : goal.returns-in_err-read-clause-kept
returns-in_err-read-clause-kept g c = λ x e place bad.
    still_kept g.D.Disk.moment g.D.Disk.left_since g.D.Disk.may_leave g.D.Disk.told c.args.disk.now c.sync.new.self c.recover.new.disk
    (g.met.D.Disk.only_now c.args.disk.now) c.sync.ensures.time c.sync.ensures.crash c.sync.ensures.same (c.recover.ensures.kept x (c.sync.ensures.same ∙ e) place bad)

pub returns-clause-stands : goal.returns-clause-stands
returns-clause-stands g c =
    settled_stands (g.D.Disk.told c.recover.new.disk) (g.D.Disk.may_leave c.recover.new.disk) c.in_ok-read.read.gate c.in_ok-read.read.entries c.in_ok-read.ensures.settled

pub returns-clause-any_moment : goal.returns-clause-any_moment
returns-clause-any_moment g c = λ x e.
    inr (once_synced g.D.Disk.moment g.D.Disk.left_since g.D.Disk.may_leave c.args.disk.now c.sync.new.self c.recover.new.disk (StandsAs x)
    (g.met.D.Disk.only_now c.args.disk.now) c.sync.ensures.time c.sync.ensures.crash (c.recover.ensures.any_moment x (c.sync.ensures.same ∙ e)))

pub returns-clause-synced : goal.returns-clause-synced
returns-clause-synced g c = λ x e.
    once_synced g.D.Disk.moment g.D.Disk.left_since g.D.Disk.may_leave c.args.disk.now c.sync.new.self c.recover.new.disk (StandsAs x)
    (g.met.D.Disk.only_now c.args.disk.now) c.sync.ensures.time c.sync.ensures.crash (c.recover.ensures.any_moment x (c.sync.ensures.same ∙ e))

pub returns-clause-kept : goal.returns-clause-kept
returns-clause-kept g c = λ x e place bad.
    still_kept g.D.Disk.moment g.D.Disk.left_since g.D.Disk.may_leave g.D.Disk.told c.args.disk.now c.sync.new.self c.recover.new.disk
    (g.met.D.Disk.only_now c.args.disk.now) c.sync.ensures.time c.sync.ensures.crash c.sync.ensures.same (c.recover.ensures.kept x (c.sync.ensures.same ∙ e) place bad)
