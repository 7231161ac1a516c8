use Rattle.std.proofs.Common.{◌≡◌, ◌<◌, ◌≤◌, eq-eqb, ◌∙◌, true, false, length, nat_eq, rules, arith}
use Rattle.std.specs.List.{starts_with}
use Rattle.plain_programs.proofs.SpanLemmas.{apart_before, equal_before, longer_before}
use Rattle.plain_programs.proofs.touched.is_before_end.Goals as goal

pub returns-then-not-starts_with : goal.returns-then-not-starts_with
returns-then-not-starts_with c =
    let apart : starts_with nat_eq c.args.key.now c.args.node.now ≡ false = search rules in
    c.lt.ensures ∙ apart_before c.args.key.now c.args.node.now apart

pub returns-then-bytes-front : goal.returns-then-bytes-front
returns-then-bytes-front c =
    let starts : starts_with nat_eq c.as_slice-bytes.result.now c.as_slice-front.result.now ≡ true = search rules in
    rw (← c.as_slice-bytes.ensures, ← c.as_slice-front.ensures)
    (eq-eqb _ _ c.if-bytes-front.true ∙ equal_before c.as_slice-bytes.result.now c.as_slice-front.result.now starts c.if-bytes-front.true)

pub returns-else-bytes-front : goal.returns-else-bytes-front
returns-else-bytes-front c =
    let starts : starts_with nat_eq c.as_slice-bytes.result.now c.as_slice-front.result.now ≡ true = search rules in
    let within : length c.as_slice-front.result.now ≤ length c.as_slice-bytes.result.now = search rules in
    let longer : length c.as_slice-front.result.now < length c.as_slice-bytes.result.now = omega arith in
    rw (← c.as_slice-bytes.ensures, ← c.as_slice-front.ensures)
    (longer_before c.as_slice-bytes.result.now c.as_slice-front.result.now starts longer)
