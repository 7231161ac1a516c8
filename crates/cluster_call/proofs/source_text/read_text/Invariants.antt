use Rattle.std.proofs.Common.{◌≤◌, vec_len}
use Rattle.std.specs.Io.KnownBytes.{Consumes}
use Rattle.cluster_call.specs.declared.limits.TheConstants.{TEXT_LIMIT}
use Rattle.cluster_call.proofs.source_text.read_text.Given as goal

abbrev pub invariant-loop-turn : goal.invariant-loop-turn
invariant-loop-turn g l = Consumes (g.S.Source.left l.initial.src) (g.S.Source.left l.src) l.text.items × (g.S.Source.faults l.initial.src ≤ g.S.Source.faults l.src) × (l._turn ≤ vec_len l.text) × (vec_len l.text ≤ TEXT_LIMIT)
