-- Examples of increments, Commits, Rollbacks and Syncs, and of their answers; and of inputs that are refused since one condition fails.
use Rattle.std.proofs.Common.{refl, inl, arith}
use Rattle.data_examples.proofs.Keys.{x_may}
use Rattle.data_examples.specs.AnswerExamples.{AddExamples, EndExamples, SyncExamples}

pub add_examples : AddExamples
add_examples = (
  record { taken = _; takes = inl (record { made = record { fits = λ _. record { is_live = refl; is_next = refl; within = record { key_may = x_may; is_alone = refl; within = omega arith } }; after = refl } }); after = refl },
  refl,
  record { taken = _; takes = inl (record { made = record { fits = λ new. absurd (cc (new)); after = refl } }); after = refl },
  record { taken = _; takes = inl (record { made = record { fits = λ _. record { is_live = refl; is_next = refl; within = record { key_may = x_may; is_alone = refl; within = omega arith } }; after = refl } }); after = refl },
  record { taken = _; takes = inl (record { made = record { fits = λ new. absurd (cc (new)); after = refl } }); after = refl },
  (λ c takes. omega (arith, (takes.fits refl).is_next)),
)

pub end_examples : EndExamples
end_examples = (
  record { taken = _; takes = inl (record { made = record { fits = λ _. record { is_live = refl; is_next = refl; is_begun = refl }; after = refl } }); after = refl },
  record { taken = _; takes = inl (record { made = record { fits = λ _. record { is_live = refl; is_next = refl; is_begun = refl }; after = refl } }); after = refl },
  record { taken = _; takes = inl (record { made = record { fits = λ _. record { is_live = refl; is_next = refl; is_begun = refl }; after = refl } }); after = refl },
  (λ c takes. absurd (cc ((takes.fits refl).is_begun))),
)

pub sync_examples : SyncExamples
sync_examples = (
  record { taken = _; takes = inl (record { made = record { after = refl } }); after = refl },
  record { taken = _; takes = inl (record { made = record { after = refl } }); after = refl },
)
