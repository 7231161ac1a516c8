use Rattle.std.proofs.Common.{◌≡◌, nat_eq, refl, ap, ◌∙◌}
use Rattle.std.specs.List.{find}
use Rattle.lru.specs.LruCache.{promoted}
use Rattle.end_words.specs.Runs.{covers}
use Rattle.block_cache.proofs.CacheLemmas.{passes, found_number, found_no_number, find_none, values-promoted, below-promoted}
use Rattle.block_cache.proofs.SpanLemmas.{SameSpans-promoted}
use Rattle.block_cache.proofs.block_cache.use_cover.Goals as goal

pub returns-in-Some-clause-values : goal.returns-in-Some-clause-values
returns-in-Some-clause-values c =
    let es = c.args.runs.now.entries in
    let e = found_number (find (passes (covers c.args.key.now)) es) c.in-Some.number c.in-Some.ensures in
    let new : c.promote.new.self.entries ≡ promoted (nat_eq e.0.0) es = ap (λ r. r.entries) c.promote.ensures.entries ∙ rw e.2 refl in
    rw new (values-promoted (covers c.args.key.now) es e.0 c.len.ensures.valid.0 e.1)

pub returns-in-Some-clause-numbers : goal.returns-in-Some-clause-numbers
returns-in-Some-clause-numbers c = λ n below.
    let es = c.args.runs.now.entries in
    let e = found_number (find (passes (covers c.args.key.now)) es) c.in-Some.number c.in-Some.ensures in
    let new : c.promote.new.self.entries ≡ promoted (nat_eq e.0.0) es = ap (λ r. r.entries) c.promote.ensures.entries ∙ rw e.2 refl in
    rw new (below-promoted (covers c.args.key.now) es e.0 c.len.ensures.valid.0 e.1 n below)

pub returns-in-None-clause-values : goal.returns-in-None-clause-values
returns-in-None-clause-values c =
    let es = c.args.runs.now.entries in
    rw (find_none (covers c.args.key.now) es (found_no_number (find (passes (covers c.args.key.now)) es) c.in-None.ensures)) refl

pub returns-in-Some-clause-spans : goal.returns-in-Some-clause-spans
returns-in-Some-clause-spans c =
    let es = c.args.runs.now.entries in
    let e = found_number (find (passes (covers c.args.key.now)) es) c.in-Some.number c.in-Some.ensures in
    let new : c.promote.new.self.entries ≡ promoted (nat_eq e.0.0) es = ap (λ r. r.entries) c.promote.ensures.entries ∙ rw e.2 refl in
    rw new (SameSpans-promoted (covers c.args.key.now) es e.0 c.len.ensures.valid.0 e.1 c.args.spans.now c.requires)
