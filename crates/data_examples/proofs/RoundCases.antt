-- Examples of a start with a live session, of its round, and of ticks; and of inputs that are refused since one condition fails.
use Rattle.std.proofs.Common.{refl, inl, inr, arith}
use Rattle.data_examples.proofs.Keys.{x_may}
use Rattle.data_examples.specs.RoundExamples.{RoundExamples, TickExamples}

pub round_examples : RoundExamples
round_examples = (
  refl,
  record { taken = _; takes = inl (inr (inl (record { its = refl; later = omega arith; is_live = refl; older = omega arith; kept = 3; known = refl; after = refl }))); after = refl },
  record { taken = _; takes = inl (inr (inl (record { its = refl; later = omega arith; is_live = refl; older = omega arith; kept = 3; known = refl; after = refl }))); after = refl },
  refl,
  record { taken = _; takes = inl (record { made = record { awaited = refl; alone = refl; after = refl } }); after = refl },
  (λ c takes. absurd (cc (takes.alone))),
  record { taken = _; takes = inr (record { stray = inr refl; ended = record { after = refl } }); after = refl },
  (λ c takes. absurd (cc (takes.awaited))),
  (λ c takes. absurd (cc (takes.awaited))),
  record { taken = _; takes = inr (record { stray = refl; ended = record { after = refl } }); after = refl },
  record { taken = _; takes = inl (record { made = record { fits = λ new. absurd (cc (new)); after = refl } }); after = refl },
  record { taken = _; takes = inl (record { made = record { fits = λ _. record { is_live = refl; is_next = refl; within = record { key_may = x_may; within = omega arith } }; after = refl } }); after = refl },
  record { taken = _; takes = inl (record { made = record { awaited = refl; after = refl } }); after = refl },
  record { taken = _; takes = inl (record { later = omega arith; after = refl }); after = refl },
  record { taken = _; takes = inl (record { made = record { awaited = refl; after = refl } }); after = refl },
)

pub tick_examples : TickExamples
tick_examples = (
  refl,
  refl,
  refl,
  refl,
  refl,
  refl,
  refl,
)
