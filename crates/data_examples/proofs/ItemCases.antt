-- Examples of a Fetch, of an update that drops the run, and of the save of the update; and of inputs that are refused since one condition fails.
use Rattle.std.proofs.Common.{refl, inl, inr, arith, rules}
use Rattle.block_bytes.specs.Blocks.{IsBlockOf, block_bytes, span_bytes}
use Rattle.field_bytes.specs.Fields.{list_bytes, u16_bytes}
use Rattle.data_examples.specs.Servers.{whole_run, whole_block}
use Rattle.data_examples.proofs.Keys.{x_may}
use Rattle.data_examples.specs.ItemExamples.{FetchExamples, UpdateExamples}

whole_is : IsBlockOf whole_run whole_block
unfolding block_bytes span_bytes list_bytes u16_bytes
whole_is = record { has_block = record { span = refl; rising = tt; within = tt }; written = refl; limit = omega arith }

pub fetch_examples : FetchExamples
fetch_examples = (
  record { taken = _; takes = inl (record { made = record { run = whole_run; block = whole_block; covered = refl; is_true = refl; in_bytes = whole_is; after = refl } }); after = refl },
  (λ c t lo. search rules),
  (λ c t its. search rules),
  (λ c t long. omega (arith, long, t.in_bytes.limit)),
)

pub update_examples : UpdateExamples
update_examples = (
  record { taken = _; takes = inl (record { made = record { fits = λ _. record { is_live = refl; is_next = refl; within = record { key_may = x_may; within = omega arith } }; after = refl } }); after = refl },
  record { taken = _; takes = inl (record { made = record { fits = λ _. record { is_live = refl; is_next = refl; within = record { key_may = x_may; within = omega arith } }; after = refl } }); after = refl },
  (λ c takes. omega (arith, (takes.fits refl).is_next)),
  record { taken = _; takes = inr (record { stray = (refl, λ may. omega (arith, may.is_next)); ended = record { after = refl } }); after = refl },
  record { taken = _; takes = inl (record { made = record { fits = λ new. absurd (cc (new)); after = refl } }); after = refl },
  record { taken = _; takes = refl; after = refl },
  record { taken = _; takes = refl; after = refl },
  record { taken = _; takes = record { after = refl }; after = refl },
  record { taken = _; takes = record { after = refl }; after = refl },
  record { taken = _; takes = record { after = refl }; after = refl },
  record { taken = _; takes = record { after = refl }; after = refl },
  refl,
)
