use Rattle.std.proofs.Common.{◌≡◌, ◌++◌, sym, arith, take-append-drop}
use Rattle.journal_disk.proofs.Bodies.{no_body_so_long, no_version}
use Rattle.journal_disk.proofs.batch_reader.take_body.Goals as goal

pub returns-then-length-lt2-clause-none : goal.returns-then-length-lt2-clause-none
returns-then-length-lt2-clause-none c =
    no_body_so_long c.args.bytes.now c.in_ok-length.rest.now c.in_ok-length.length c.in_ok-length.ensures.range c.in_ok-length.ensures.some (λ from to more. omega arith)

pub returns-then-length-gt-BODY_LIMIT-clause-none : goal.returns-then-length-gt-BODY_LIMIT-clause-none
returns-then-length-gt-BODY_LIMIT-clause-none c =
    no_body_so_long c.args.bytes.now c.in_ok-length.rest.now c.in_ok-length.length c.in_ok-length.ensures.range c.in_ok-length.ensures.some (λ from to more. omega arith)

pub returns-then-rest-length-clause-none : goal.returns-then-rest-length-clause-none
returns-then-rest-length-clause-none c =
    no_body_so_long c.args.bytes.now c.in_ok-length.rest.now c.in_ok-length.length c.in_ok-length.ensures.range c.in_ok-length.ensures.some (λ from to more. omega arith)

pub returns-then-version-ne-VERSION-clause-none : goal.returns-then-version-ne-VERSION-clause-none
returns-then-version-ne-VERSION-clause-none c =
    let rest = c.in_ok-length.rest.now in
    let n = c.in_ok-length.length in
    let front = c.split_at.result.0.now in
    let front_is = c.split_at.ensures.front in
    let back_is = c.split_at.ensures.back in
    let parts : rest ≡ front ++ c.split_at.result.1.now = rw (front_is, back_is) (sym (take-append-drop n rest)) in
    let cases = c.in_ok-version.ensures in
    no_version c.args.bytes.now rest front c.split_at.result.1.now c.in_ok-version.records.now n c.in_ok-version.version.now c.in_ok-length.ensures.range c.in_ok-length.ensures.some parts (omega (arith, c.split_at.ensures.front_len)) cases.cases.0 (omega arith)
