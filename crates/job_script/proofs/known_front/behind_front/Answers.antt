use Rattle.std.proofs.Common.{◌≡◌, List, ℕ, drop, rules, sym, subst}
use Rattle.subscript_keys.specs.declared.sub.Sub.{Sub}
use Rattle.subscript_keys.specs.Key.{HasEmpty}
use Rattle.global_text.specs.Faults.{StopsBehind}
use Rattle.global_text.proofs.NodeEnds.{front_read, front_stop}
use Rattle.job_script.specs.Parts.{EndsBefore}
use Rattle.job_script.specs.Refusals.{HasEmptyFront}
use Rattle.job_script.proofs.NodeRefusals.{no_end}
use Rattle.job_script.proofs.known_front.behind_front.Goals as goal

pub returns-in-Err-clause-node : goal.returns-in-Err-clause-node
returns-in-Err-clause-node c =
    let P : List Sub → Type 0 = λ l. StopsBehind c.args.text.now c.args.front.now.name l c.in-Err.error in
    λ d declared. c.subs_fault.ensures.node d c.args.front.now.name c.args.text.now (c.requires.global, declared) (subst P (sym c.as_slice.ensures) (front_stop c.args.text.now c.args.front.now c.in-Err.error c.requires c.in-Err.is))

pub returns-in-Err-clause-next : goal.returns-in-Err-clause-next
returns-in-Err-clause-next c =
    let P : List Sub → Type 0 = λ l. StopsBehind c.args.text.now c.args.front.now.name l c.in-Err.error in
    λ d declared. c.subs_fault.ensures.next d c.args.front.now.name c.args.text.now (c.requires.global, declared) (subst P (sym c.as_slice.ensures) (front_stop c.args.text.now c.args.front.now c.in-Err.error c.requires c.in-Err.is))

pub returns-in-Some-clause-ok : goal.returns-in-Some-clause-ok
returns-in-Some-clause-ok c =
    let behind : c.split_at.result.1.now ≡ drop c.in-Ok.taken c.args.text.now = search rules in
    let P : List ℕ → Type 0 = λ t. EndsBefore t c.in-Some.rest.now in
    (c.in-Ok.taken, front_read c.args.text.now c.args.front.now c.in-Ok.taken c.requires c.in-Ok.is, subst P behind c.in-Some.ensures.some)

pub returns-in-None-clause-node : goal.returns-in-None-clause-node
returns-in-None-clause-node c =
    let behind : c.split_at.result.1.now ≡ drop c.in-Ok.taken c.args.text.now = search rules in
    λ d declared. no_end c.args.text.now c.args.front.now c.in-Ok.taken c.split_at.result.1.now c.requires c.in-Ok.is behind c.in-None.ensures.none d HasEmpty declared

pub returns-in-None-clause-next : goal.returns-in-None-clause-next
returns-in-None-clause-next c =
    let behind : c.split_at.result.1.now ≡ drop c.in-Ok.taken c.args.text.now = search rules in
    λ d declared. no_end c.args.text.now c.args.front.now c.in-Ok.taken c.split_at.result.1.now c.requires c.in-Ok.is behind c.in-None.ensures.none d HasEmptyFront declared
