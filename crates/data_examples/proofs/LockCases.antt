-- Examples of locks that are asked for, given up and cancelled.
use Rattle.std.proofs.Common.{refl, inl}
use Rattle.data_examples.specs.LockExamples.{AskExamples, FreeExamples}

pub ask_examples : AskExamples
ask_examples = (
  record { taken = _; takes = inl (record { made = record { after = refl } }); after = refl },
  record { taken = _; takes = inl (record { made = record { after = refl } }); after = refl },
  record { taken = _; takes = inl (record { made = record { after = refl } }); after = refl },
  record { taken = _; takes = inl (record { made = record { after = refl } }); after = refl },
  refl,
)

pub free_examples : FreeExamples
free_examples = (
  record { taken = _; takes = inl (record { made = record { after = refl } }); after = refl },
  record { taken = _; takes = inl (record { made = record { after = refl } }); after = refl },
  record { taken = _; takes = inl (record { made = record { after = refl } }); after = refl },
  record { taken = _; takes = inl (record { made = record { after = refl } }); after = refl },
  record { taken = _; takes = inl (record { made = record { after = refl } }); after = refl },
  record { taken = _; takes = inl (record { made = record { after = refl } }); after = refl },
  record { taken = _; takes = inl (record { made = record { after = refl } }); after = refl },
)
