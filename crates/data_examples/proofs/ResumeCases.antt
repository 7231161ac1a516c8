-- Examples of a connection that ends and of a Recover; and of inputs that are refused since one condition fails.
use Rattle.std.proofs.Common.{refl, inl, inr, arith, rules}
use Rattle.data_examples.specs.ResumeExamples.{ResumeExamples, GoneExamples}

pub resume_examples : ResumeExamples
resume_examples = (
  refl,
  refl,
  refl,
  record { taken = _; takes = inl (inl (record { its = refl; later = omega arith; is_live = refl; same = refl; after = refl })); after = refl },
  record { taken = _; takes = inl (inl (record { its = refl; later = omega arith; is_live = refl; same = refl; after = refl })); after = refl },
  record { taken = _; takes = inl (inl (record { its = refl; later = omega arith; is_live = refl; same = refl; after = refl })); after = refl },
  record { taken = _; takes = inl (inl (record { its = refl; later = omega arith; is_live = refl; same = refl; after = refl })); after = refl },
  (λ c takes. search rules),
  record { taken = _; takes = inr (record { refused = record { why = inl (λ its. search rules) }; ended = record { after = refl } }); after = refl },
  (λ c takes. search rules),
  (λ c takes. search rules),
  record { taken = _; takes = inr (record { refused = record { why = inr (inl (omega arith)) }; ended = record { after = refl } }); after = refl },
  (λ c takes. search rules),
  record { taken = _; takes = inr (record { refused = record { why = inr (inr (omega arith)) }; ended = record { after = refl } }); after = refl },
  (λ c takes. omega (arith, takes.same)),
  (λ c takes. omega (arith, takes.older)),
  (λ c takes. absurd (cc (takes.is_closed))),
  record { taken = _; takes = record { after = refl }; after = refl },
)

pub gone_examples : GoneExamples
gone_examples = (
  record { taken = _; takes = inl (inr (inr (record { its = refl; later = omega arith; is_closed = refl; begun = omega arith; at = 3; closed = refl; after = refl }))); after = refl },
  (λ c takes. absurd (cc (takes.is_live))),
  (λ c takes. absurd (cc (takes.is_live))),
  (λ c takes. omega (arith, takes.begun)),
  record { taken = _; takes = inr (record { refused = record { why = inr (inr (omega arith)) }; ended = record { after = refl } }); after = refl },
  record { taken = _; takes = record { after = refl }; after = refl },
  refl,
  refl,
)
