use Rattle.std.proofs.Common.{subst, sym, ap, ◌∙◌}
use Rattle.plain_runs.specs.Recording.{Recording, state_of}
use Rattle.plain_runs.specs.Plain.{start}
use Rattle.plain_runs.specs.Step.{MayCome, after}
use Rattle.plain_runs.specs.Run.{after_all}
use Rattle.plain_runs.proofs.RunLemmas.{run_more, after_all-more}
use Rattle.plain_runs.proofs.recorder.Recorder.note.Goals as goal

pub invariant_of-self-2 : goal.invariant_of-self-2
invariant_of-self-2 c =
    rw c.in_ok-push.ensures.ok
    (run_more c.self.inside.layout start c.self.inside.trail c.args.act c.self.invariant
    (subst (λ (r : Recording). MayCome r.layout (state_of r) c.args.act) (sym c.self.view_is) c.requires))

pub returns-clause-state : goal.returns-clause-state
returns-clause-state c =
    ap (after_all c.self.inside.layout start) c.in_ok-push.ensures.ok
    ∙ after_all-more c.self.inside.layout start c.self.inside.trail c.args.act
    ∙ ap (λ (r : Recording). after r.layout (state_of r) c.args.act) c.self.view_is
