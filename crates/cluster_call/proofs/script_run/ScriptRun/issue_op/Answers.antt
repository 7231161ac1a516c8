use Rattle.std.proofs.Common.{◌≡◌, ◌+◌, ◌∷◌, ◌++◌, [], List, Bool, true, false, sym, subst, ap, ◌∙◌, append-nil}
use Rattle.plain_orders.specs.declared.act.Act.{Act}
use Rattle.plain_runs.specs.Run.{state_after}
use Rattle.plain_orders.specs.declared.act.Act.TheVariants.{Enter, Synced, Issue}
use Rattle.plain_orders.specs.declared.item.Item.TheVariants.{Op as OpItem}
use Rattle.plain_runs.specs.Plain.{Plain}
use Rattle.plain_runs.specs.Step.{after}
use Rattle.plain_runs.specs.Recording.{state_of}
use Rattle.cluster_call.specs.Running.{IsBetweenLines}
use Rattle.cluster_call.proofs.AddLemmas.{made_issue, served_save, served_update, state_behind_three, three_more}
use Rattle.cluster_call.proofs.RunSteps.{op_stands, behind_update, update_entry, update_follows}
use Rattle.cluster_call.proofs.script_run.ScriptRun.issue_op.Goals as goal

pub returns-clause-stands : goal.returns-clause-stands
returns-clause-stands c =
    let issue = Issue 0 c.args.line 0 (c.args.self.now.issued + 1) (OpItem c.args.op) in
    let enter = Enter 0 (update_entry (c.args.self.now.issued + 1) c.args.op) in
    let issued : state_of c.note.new.self ≡ after c.args.self.now.recorder.layout (state_of c.args.self.now.recorder) issue =
    c.in_ok-note.ensures.state
    ∙ ap (λ o. after c.args.self.now.recorder.layout (state_of c.args.self.now.recorder) (Issue 0 c.args.line 0 (c.args.self.now.issued + 1) (OpItem o))) c.in_ok-copy_op.ensures in
    let saved : state_of c.note-3.new.self ≡ behind_update c.args.self.now.recorder.layout (state_of c.args.self.now.recorder) c.args.line (c.args.self.now.issued + 1) (c.args.self.now.length + 1) c.args.op =
    state_behind_three c.args.self.now.recorder.layout c.note.new.self.layout c.note-2.new.self.layout (state_of c.args.self.now.recorder) (state_of c.note.new.self) (state_of c.note-2.new.self) (state_of c.note-3.new.self)
    issue enter (Synced 0 (c.args.self.now.length + 1)) c.in_ok-note.ensures.layout c.in_ok-note-2.ensures.layout issued c.in_ok-note-2.ensures.state c.in_ok-note-3.ensures.state in
    let old = c.args.self.now in
    let stands : IsBetweenLines (state_of old.recorder) old.length old.issued true old.store =
    subst (λ (b : Bool). IsBetweenLines (state_of old.recorder) old.length old.issued b old.store) c.requires.met c.requires.stands in
    subst (λ (b : Bool). IsBetweenLines (state_of c.note-3.new.self) (c.args.self.now.length + 1) (c.args.self.now.issued + 1) b c.apply.new.self) (sym c.requires.met)
    (subst (λ (p : Plain). IsBetweenLines p (c.args.self.now.length + 1) (c.args.self.now.issued + 1) true c.apply.new.self) (sym saved)
    (op_stands old.recorder.layout (state_of old.recorder) old.length old.issued c.args.line old.store c.apply.new.self c.args.op c.requires.change stands c.requires.job
    (c.in_ok-_applied.ensures.next ((state_of old.recorder).server_at 0).order stands.stored (update_follows (state_of old.recorder) old.length old.issued old.store c.args.op c.requires.within stands))))

pub returns-clause-adds : goal.returns-clause-adds
returns-clause-adds c =
    let run = c.args.self.now in
    let l = run.recorder.layout in record {
      before = [];
      after = Enter 0 (update_entry (run.issued + 1) c.args.op) ∷ Synced 0 (run.length + 1) ∷ [];
      whole =
          three_more run.recorder.acts c.note.new.self.acts c.note-2.new.self.acts c.note-3.new.self.acts (Issue 0 c.args.line 0 (run.issued + 1) (OpItem c.args.op)) (Enter 0 (update_entry (run.issued + 1) c.args.op)) (Synced 0 (run.length + 1))
          (c.in_ok-note.ensures.ok ∙ ap (λ o. run.recorder.acts ++ Issue 0 c.args.line 0 (run.issued + 1) (OpItem o) ∷ []) c.in_ok-copy_op.ensures) c.in_ok-note-2.ensures.ok c.in_ok-note-3.ensures.ok;
      served_before = tt;
      free = subst (λ (acts : List Act). ((state_after l acts).job_at 0).rollback_only ≡ false) (sym (append-nil run.recorder.acts)) c.requires.stands.rolled;
      its = made_issue l c.args.line (run.issued + 1) c.args.op c.requires.job c.requires.within;
      served_after = (served_update l (run.issued + 1) c.args.op c.requires.job c.requires.within, (served_save l (run.length + 1) c.requires.job, tt));
    }
