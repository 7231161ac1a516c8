-- Examples of a start, of a Hello and of the save of its Open; and of inputs that are refused since one condition fails: it is named above each.
use Rattle.std.proofs.Common.{refl, inl, inr, arith, rules}
use Rattle.data_rules.specs.Puts.{begun}
use Rattle.data_rules.specs.Callers.{calls}
use Rattle.data_rules.specs.Conns.{ends_conn}
use Rattle.data_examples.specs.Servers.{accepted, accepted_more}
use Rattle.data_examples.specs.HelloExamples.{HelloExamples}

pub hello_examples : HelloExamples
hello_examples = (
  record { ordered = tt; low = omega arith },
  refl,
  (λ may. omega (arith, may.ordered.0.is_next)),
  (λ es high may. omega (arith, high, may.low)),
  refl,
  refl,
  search rules,
  record { taken = calls 1 1 7 0 (begun accepted); takes = inl (record { later = omega arith; after = refl }); after = refl },
  record { seq_fits = omega arith; ack_fits = omega arith; numbered = omega arith; fields = tt; sum = refl },
  (λ may. omega (arith, may.numbered)),
  record { taken = ends_conn 7 0 (begun accepted); takes = record { after = refl }; after = refl },
  refl,
  record { no_less = omega arith; within = omega arith },
  refl,
  (λ may. omega (arith, may.within)),
  (λ may. omega (arith, may.no_less)),
  record { taken = calls 1 2 8 0 (begun accepted_more); takes = inl (record { later = omega arith; after = refl }); after = refl },
  (λ c takes. omega (arith, takes.later)),
  record { taken = ends_conn 8 0 (begun accepted_more); takes = inr (record { older = omega arith; ended = record { after = refl } }); after = refl },
)
