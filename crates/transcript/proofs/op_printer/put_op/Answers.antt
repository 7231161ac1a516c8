use Rattle.std.proofs.Common.{subst, sym, OnOk}
use Rattle.global_text.specs.Printed.{Appends}
use Rattle.transcript.specs.ActText.{IsOpText}
use Rattle.transcript.proofs.op_printer.put_op.Goals as goal

pub returns-in-Set : goal.returns-in-Set
returns-in-Set c = subst (λ op. OnOk c.put_set.result (Appends (IsOpText op) c.args.to.now c.put_set.new.to)) (sym c.in-Set.is) c.put_set.ensures
