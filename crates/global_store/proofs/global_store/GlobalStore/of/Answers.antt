use Rattle.std.proofs.Common.{take, length, ◌<◌, rules}
use Rattle.plain_orders.specs.Ordered.{MayFollow}
use Rattle.global_store.proofs.StoreLemmas.{may_fits, next_may, next_store}
use Rattle.global_store.proofs.global_store.GlobalStore.of.Goals as goal

pub apply-requires : goal.apply-requires
apply-requires c =
    let es = c.args.entries.now in
    let i = c.loop-entry.entry-index in
    let low : i < length es = search rules in
    may_fits (take i es) c.entry-item.result (next_may es i c.entry-item.result low c.entry-item.is c.requires)

pub loop-entry-preserved : goal.loop-entry-preserved
loop-entry-preserved c =
    let es = c.args.entries.now in
    let i = c.loop-entry.entry-index in
    let low : i < length es = search rules in
    let may : MayFollow (take i es) c.entry-item.result = next_may es i c.entry-item.result low c.entry-item.is c.requires in
    next_store es i c.entry-item.result low c.entry-item.is c.apply.new.self (c.in_ok-apply.ensures.next (take i es) c.loop-entry.invariant may)
