use Rattle.std.proofs.Common.{arith}
use Rattle.transcript.specs.ActText.{CanPrintAct}
use Rattle.cluster_call.proofs.PrintLemmas.{acts_more, all_at}
use Rattle.cluster_call.proofs.output_text.print_acts.Goals as goal

pub print_act-requires : goal.print_act-requires
print_act-requires c = all_at CanPrintAct c.args.acts.now c.loop-act.act-index c.act-item.result c.requires (omega arith) c.act-item.is

pub loop-act-preserved : goal.loop-act-preserved
loop-act-preserved c =
    acts_more c.args.acts.now c.loop-act.act-index c.act-item.result c.args.to.now.items c.loop-act.to.items c.print_act.new.to.items (omega arith) c.act-item.is c.loop-act.invariant c.in_ok-print_act.ensures.ok
