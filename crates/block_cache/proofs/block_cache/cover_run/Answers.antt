use Rattle.std.proofs.Common.{nat_eq, sym, ap, ◌∙◌}
use Rattle.std.specs.List.{find}
use Rattle.std.specs.Map.{lookup}
use Rattle.end_words.specs.Runs.{covers}
use Rattle.block_cache.proofs.CacheLemmas.{passes, found_number, found_no_number, find_none}
use Rattle.block_cache.proofs.SpanLemmas.{lookup-found}
use Rattle.block_cache.proofs.block_cache.cover_run.Goals as goal

pub returns-in_err-number : goal.returns-in_err-number
returns-in_err-number c =
    let es = c.args.runs.now.entries in
    rw c.from_residual.ensures (sym (find_none (covers c.args.key.now) es (found_no_number (find (passes (covers c.args.key.now)) es) c.in_err-number.ensures)))

pub returns : goal.returns
returns c =
    let es = c.args.runs.now.entries in
    let e = found_number (find (passes (covers c.args.key.now)) es) c.in_ok-number.number c.in_ok-number.ensures in
    c.peek.ensures ∙ ap (λ n. lookup (nat_eq n) es) (sym e.2) ∙ lookup-found (covers c.args.key.now) es e.0 c.len.ensures.valid.0 e.1
