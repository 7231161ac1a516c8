use Rattle.std.proofs.Common.{◌≡◌, ◌≤◌, ◌-◌, ◌∷◌, length, slice_get, take, Some, None, sym, ap, subst, ◌∙◌, arith}
use Rattle.std.proofs.lemmas.List.{take-map}
use Rattle.block_cache.specs.Numbering.{run_of}
use Rattle.block_cache.proofs.CacheLemmas.{put_entries-next, displaced-next, below-more, below-take}
use Rattle.block_cache.proofs.SpanSets.{take-short, take-last}
use Rattle.block_cache.proofs.SpanLemmas.{put, SameSpans-put, SameSpans-kept, SameSpans-evicted}
use Rattle.block_cache.proofs.block_cache.put_block.Goals as goal

pub returns-in-Ok-None-clause-values : goal.returns-in-Ok-None-clause-values
returns-in-Ok-None-clause-values c =
    let es = c.args.runs.now.entries in
    let new : c.push.new.self.entries ≡ (c.args.number, c.args.run) ∷ take 255 es = ap (λ r. r.entries) c.in-Ok-None.ensures.entries ∙ put_entries-next c.args.runs.now c.args.number c.args.run c.requires.numbers ∙ ap (λ cap. (c.args.number, c.args.run) ∷ take (cap - 1) es) c.requires.limit in
    rw new (ap (λ rs. c.args.run ∷ rs) (sym (take-map run_of 255 es)))

pub returns-in-Ok-None-clause-numbers : goal.returns-in-Ok-None-clause-numbers
returns-in-Ok-None-clause-numbers c =
    let es = c.args.runs.now.entries in
    let new : c.push.new.self.entries ≡ (c.args.number, c.args.run) ∷ take 255 es = ap (λ r. r.entries) c.in-Ok-None.ensures.entries ∙ put_entries-next c.args.runs.now c.args.number c.args.run c.requires.numbers ∙ ap (λ cap. (c.args.number, c.args.run) ∷ take (cap - 1) es) c.requires.limit in
    rw new (omega arith, below-more c.args.number (take 255 es) (below-take 255 c.args.number es c.requires.numbers))

pub returns-in-Ok-None-clause-spans : goal.returns-in-Ok-None-clause-spans
returns-in-Ok-None-clause-spans c =
    let es = c.args.runs.now.entries in
    let os = c.args.spans.now in
    let new : c.push.new.self.entries ≡ (c.args.number, c.args.run) ∷ take 255 es = ap (λ r. r.entries) c.in-Ok-None.ensures.entries ∙ put_entries-next c.args.runs.now c.args.number c.args.run c.requires.numbers ∙ ap (λ cap. (c.args.number, c.args.run) ∷ take (cap - 1) es) c.requires.limit in
    let out = rw c.in-Ok-None.field-0-is at c.in-Ok-None.ensures.old in
    let none : slice_get es 255 ≡ None = sym (displaced-next c.args.runs.now c.args.number c.args.run c.requires.numbers c.requires.limit) ∙ sym out in
    let spans : c.put.new.self ≡ put es os c.args.number c.args.run c.requires.spans c.requires.numbers = rw c.in_ok-span_of.ensures at c.in_ok-put.ensures.ok in
    rw (new, take-short 255 es none, spans) (SameSpans-put es os c.args.number c.args.run c.requires.spans c.requires.numbers)

pub returns-in-Ok-Some-clause-values : goal.returns-in-Ok-Some-clause-values
returns-in-Ok-Some-clause-values c =
    let es = c.args.runs.now.entries in
    let new : c.push.new.self.entries ≡ (c.args.number, c.args.run) ∷ take 255 es = ap (λ r. r.entries) c.in-Ok-Some.ensures.entries ∙ put_entries-next c.args.runs.now c.args.number c.args.run c.requires.numbers ∙ ap (λ cap. (c.args.number, c.args.run) ∷ take (cap - 1) es) c.requires.limit in
    rw new (ap (λ rs. c.args.run ∷ rs) (sym (take-map run_of 255 es)))

pub returns-in-Ok-Some-clause-numbers : goal.returns-in-Ok-Some-clause-numbers
returns-in-Ok-Some-clause-numbers c =
    let es = c.args.runs.now.entries in
    let new : c.push.new.self.entries ≡ (c.args.number, c.args.run) ∷ take 255 es = ap (λ r. r.entries) c.in-Ok-Some.ensures.entries ∙ put_entries-next c.args.runs.now c.args.number c.args.run c.requires.numbers ∙ ap (λ cap. (c.args.number, c.args.run) ∷ take (cap - 1) es) c.requires.limit in
    rw new (omega arith, below-more c.args.number (take 255 es) (below-take 255 c.args.number es c.requires.numbers))

pub returns-in-Ok-Some-clause-spans : goal.returns-in-Ok-Some-clause-spans
returns-in-Ok-Some-clause-spans c =
    let es = c.args.runs.now.entries in
    let os = c.args.spans.now in
    let new : c.push.new.self.entries ≡ (c.args.number, c.args.run) ∷ take 255 es = ap (λ r. r.entries) c.in-Ok-Some.ensures.entries ∙ put_entries-next c.args.runs.now c.args.number c.args.run c.requires.numbers ∙ ap (λ cap. (c.args.number, c.args.run) ∷ take (cap - 1) es) c.requires.limit in
    let out = rw c.in-Ok-Some.field-0-is at c.in-Ok-Some.ensures.old in
    let last : slice_get es 255 ≡ Some c.in-Ok-Some.gone = sym (displaced-next c.args.runs.now c.args.number c.args.run c.requires.numbers c.requires.limit) ∙ sym out in
    let few : length es ≤ 256 = subst (λ n. length es ≤ n) c.requires.limit c.len-count.ensures.valid.1 in
    let whole = take-last 255 es c.in-Ok-Some.gone last few in
    let spans : c.put.new.self ≡ put es os c.args.number c.args.run c.requires.spans c.requires.numbers = rw c.in_ok-span_of.ensures at c.in_ok-put.ensures.ok in
    rw (new, c.drop_owner.ensures, spans) (SameSpans-evicted es os c.args.number c.args.run c.requires.spans c.requires.numbers (take 255 es) c.in-Ok-Some.gone whole c.len-count.ensures.valid.0)

pub returns-clause-spans : goal.returns-clause-spans
returns-clause-spans c =
    let es = c.args.runs.now.entries in
    let os = c.args.spans.now in
    let spans : c.put.new.self ≡ put es os c.args.number c.args.run c.requires.spans c.requires.numbers = rw c.in_ok-span_of.ensures at c.in_ok-put.ensures.ok in
    rw (c.in-Err.ensures.err, c.drop_owner-in-Err.ensures, spans) (SameSpans-kept es os c.args.number c.args.run c.requires.spans c.requires.numbers)
