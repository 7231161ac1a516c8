use Rattle.std.proofs.Common.{◌≡◌, ◌∷◌, [], Bool, true, false, sym, subst}
use Rattle.plain_orders.specs.declared.act.Act.TheVariants.{Synced, Met}
use Rattle.plain_runs.specs.Plain.{Plain}
use Rattle.plain_runs.specs.Recording.{state_of}
use Rattle.cluster_call.specs.Running.{IsBetweenLines}
use Rattle.cluster_call.proofs.AddLemmas.{served_met, served_open, served_save, state_behind_three, three_more}
use Rattle.cluster_call.proofs.RunSteps.{connected_stands, behind_met, open_follows, open_session}
use Rattle.cluster_call.proofs.script_run.ScriptRun.connect.Goals as goal

pub returns-clause-stands : goal.returns-clause-stands
returns-clause-stands c =
    let met : state_of c.note-3.new.self ≡ behind_met c.args.self.now.recorder.layout (state_of c.args.self.now.recorder) =
    state_behind_three c.args.self.now.recorder.layout c.note.new.self.layout c.note-2.new.self.layout (state_of c.args.self.now.recorder) (state_of c.note.new.self) (state_of c.note-2.new.self) (state_of c.note-3.new.self) open_session (Synced 0 2) (Met 0 0 2)
    c.in_ok-note.ensures.layout c.in_ok-note-2.ensures.layout c.in_ok-note.ensures.state c.in_ok-note-2.ensures.state c.in_ok-note-3.ensures.state in
    let old = c.args.self.now in
    let stands : IsBetweenLines (state_of old.recorder) old.length old.issued false old.store =
    subst (λ (b : Bool). IsBetweenLines (state_of old.recorder) old.length old.issued b old.store) c.requires.unmet c.requires.stands in
    subst (λ (p : Plain). IsBetweenLines p 2 0 true c.apply.new.self) (sym met)
    (connected_stands old.recorder.layout (state_of old.recorder) old.length old.issued old.store c.apply.new.self stands c.requires.job
    (c.in_ok-apply.ensures.next ((state_of old.recorder).server_at 0).order stands.stored (open_follows (state_of old.recorder) old.length old.issued old.store stands)))

pub returns-clause-adds : goal.returns-clause-adds
returns-clause-adds c =
    let l = c.args.self.now.recorder.layout in (
      open_session ∷ Synced 0 2 ∷ Met 0 0 2 ∷ [],
      three_more c.args.self.now.recorder.acts c.note.new.self.acts c.note-2.new.self.acts c.note-3.new.self.acts open_session (Synced 0 2) (Met 0 0 2) c.in_ok-note.ensures.ok c.in_ok-note-2.ensures.ok c.in_ok-note-3.ensures.ok,
      (served_open l c.requires.job, (served_save l 2 c.requires.job, (served_met l c.requires.job, tt))),
    )
