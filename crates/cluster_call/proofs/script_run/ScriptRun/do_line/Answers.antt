use Rattle.std.proofs.Common.{refl, subst}
use Rattle.plain_orders.specs.declared.layout.Layout.{Layout}
use Rattle.cluster_call.specs.Running.{AddsAct}
use Rattle.cluster_call.proofs.AddLemmas.{adds_after}
use Rattle.cluster_call.proofs.script_run.ScriptRun.do_line.Goals as goal

pub returns-clause-did : goal.returns-clause-did
returns-clause-did c =
    let old = c.args.self.now.recorder in
    let mid = c.be_connected.new.self.recorder in
    let new = c.do_command.new.self.recorder in
    let did = c.in_ok-answer.ensures.did in (
      c.in_ok-answer.answer,
      record {
        act = did.act;
        makes = did.makes;
        adds =
            adds_after old.layout c.args.line old.acts mid.acts new.acts did.act c.in_ok-be_connected.ensures.adds
            (subst (λ (l : Layout). AddsAct l c.args.line mid.acts new.acts did.act) c.in_ok-be_connected.ensures.layout did.adds);
      },
      refl,
    )
