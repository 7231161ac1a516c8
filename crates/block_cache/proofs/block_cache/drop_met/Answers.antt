use Rattle.std.proofs.Common.{◌≡◌, ◌<◌, nat_eq, length, refl, sym, ap, ◌∙◌}
use Rattle.std.specs.Map.{values_of, remove_entry}
use Rattle.end_words.specs.Runs.{meets}
use Rattle.block_cache.specs.CacheWords.{without_met}
use Rattle.block_cache.proofs.CacheLemmas.{below-remove_entry}
use Rattle.block_cache.proofs.SpanLemmas.{met-none, met-some, filter-removed, removed-shorter, SameSpans-removed}
use Rattle.block_cache.proofs.block_cache.drop_met.Goals as goal

pub returns-in-None-clause-values : goal.returns-in-None-clause-values
returns-in-None-clause-values c =
    let es = c.loop-spans.runs.entries in
    sym (met-none es c.loop-spans.spans c.loop-spans.invariant.spans c.args.span.now c.in-None.ensures.none) ∙ c.loop-spans.invariant.values

pub loop-spans-smaller : goal.loop-spans-smaller
loop-spans-smaller c =
    let es = c.loop-spans.runs.entries in
    let e = met-some es c.loop-spans.spans c.loop-spans.invariant.spans c.args.span.now c.in-Some.number c.in-Some.ensures.some in
    let new : c.pop.new.self.entries ≡ remove_entry (nat_eq e.0.0) es = ap (λ r. r.entries) c.pop.ensures.entries ∙ rw e.2 refl in
    let less : length c.pop.new.self.entries < length es = rw new (removed-shorter e.0 es e.1) in
    less

pub loop-spans-preserved : goal.loop-spans-preserved
loop-spans-preserved c =
    let span = c.args.span.now in
    let es = c.loop-spans.runs.entries in
    let e = met-some es c.loop-spans.spans c.loop-spans.invariant.spans span c.in-Some.number c.in-Some.ensures.some in
    let new : c.pop.new.self.entries ≡ remove_entry (nat_eq e.0.0) es = ap (λ r. r.entries) c.pop.ensures.entries ∙ rw e.2 refl in
    let plain : c.pop.new.self.entries ≡ remove_entry (nat_eq c.in-Some.number) es = ap (λ r. r.entries) c.pop.ensures.entries in
    record {
      values = ap (λ es. without_met span (values_of es)) new ∙ filter-removed (λ r. meets r.span span) e.0 es c.len.ensures.valid.0 e.1 e.3 ∙ c.loop-spans.invariant.values;
      cap = ap (λ r. r.cap) c.pop.ensures.entries ∙ c.loop-spans.invariant.cap;
      numbers = λ n below. rw new (below-remove_entry (nat_eq e.0.0) n es (c.loop-spans.invariant.numbers n below));
      spans = rw (plain, c.drop_owner.ensures) (SameSpans-removed c.in-Some.number es c.loop-spans.spans c.len.ensures.valid.0 c.loop-spans.invariant.spans);
    }
