use Rattle.std.proofs.Common.{◌≡◌, false, [], List, sym, subst, append-nil}
use Rattle.plain_orders.specs.declared.act.Act.{Act}
use Rattle.plain_orders.specs.declared.via.Via.TheVariants.{Fetched}
use Rattle.plain_runs.specs.Run.{state_after}
use Rattle.cluster_call.specs.Running.{pairs_in}
use Rattle.cluster_call.proofs.AddLemmas.{made_read}
use Rattle.cluster_call.proofs.script_run.ScriptRun.read.Goals as goal

pub returns-clause-adds : goal.returns-clause-adds
returns-clause-adds c =
    let run = c.args.self.now in
    let l = run.recorder.layout in record {
      before = [];
      after = [];
      whole = c.in_ok-note.ensures.ok;
      served_before = tt;
      free = subst (λ (acts : List Act). ((state_after l acts).job_at 0).rollback_only ≡ false) (sym (append-nil run.recorder.acts)) c.requires.stands.rolled;
      its = made_read l c.args.line run.length Fetched (pairs_in run) c.args.question c.requires.job c.requires.answer;
      served_after = tt;
    }
