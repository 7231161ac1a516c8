use Rattle.std.proofs.Common.{take}
use Rattle.global_store.specs.Stores.{IsStoreOf}
use Rattle.global_store.proofs.global_store.GlobalStore.of.Given as goal

-- the entries that are taken so far
abbrev pub invariant-loop-entry : goal.invariant-loop-entry
invariant-loop-entry l = IsStoreOf (take l.entry-index l.entries) l.store
