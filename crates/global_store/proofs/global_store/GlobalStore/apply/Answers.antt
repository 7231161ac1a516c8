use Rattle.std.proofs.Common.{sym}
use Rattle.global_store.proofs.StoreLemmas.{store_push}
use Rattle.global_store.proofs.global_store.GlobalStore.apply.Goals as goal

pub returns-clause-next : goal.returns-clause-next
returns-clause-next c = λ es s may.
    store_push es c.args.entry.now c.args.self.now _ c.in_ok-applied.applied.sum s may (sym s.unspent) c.in_ok-applied.ensures.next c.in_ok-applied.ensures.sum (c.in_ok-take.ensures es)
