use Rattle.std.proofs.Common.{◌≡◌, ◌∷◌, [], ◌++◌, rules, List, ℕ, subst, sym, inl}
use Rattle.std.proofs.lemmas.Result.{err_from_is_err_and}
use Rattle.subscript_keys.specs.declared.sub.Sub.{Sub}
use Rattle.global_text.specs.Nodes.{ReadsSub, BeforeSub, BehindSub, key_length}
use Rattle.global_text.specs.Faults.{StopsBehind}
use Rattle.global_text.proofs.NodeReads.{behind-sub, before-next, fault-before, fault-behind}
use Rattle.global_text.proofs.list_reader.read_list.Goals as goal

pub returns-in_err-sub-clause-err : goal.returns-in_err-sub-clause-err
returns-in_err-sub-clause-err c =
    let p = err_from_is_err_and c.from_residual.result c.from_residual.ensures.1 in
    rw (p.1, p.2) (fault-before (94 ∷ (c.args.name.now ++ 40 ∷ c.args.list.now)) c.args.name.now c.subs.rest.now c.subs.subs c.subs.key c.in_err-sub.field-0.0 c.subs.invariant.before c.subs.invariant.key c.in_err-sub.ensures.err)

pub returns-in_err-last-clause-err : goal.returns-in_err-last-clause-err
returns-in_err-last-clause-err c =
    let pushed : c.push.new.self ≡ c.subs.subs ++ c.in_ok-sub.sub ∷ [] = search rules in
    let Q : List Sub → Type 0 = λ l. StopsBehind (94 ∷ (c.args.name.now ++ 40 ∷ c.args.list.now)) c.args.name.now l c.in_err-last.field-0.0 in
    let p = err_from_is_err_and c.from_residual-in_err-last.result c.from_residual-in_err-last.ensures.1 in
    rw (p.1, p.2) (subst Q (sym pushed) (fault-behind (94 ∷ (c.args.name.now ++ 40 ∷ c.args.list.now)) c.args.name.now c.in_ok-sub.after.now (c.subs.subs ++ c.in_ok-sub.sub ∷ []) c.in_err-last.field-0.0
    (behind-sub (94 ∷ (c.args.name.now ++ 40 ∷ c.args.list.now)) c.args.name.now c.subs.rest.now c.in_ok-sub.after.now c.subs.subs c.in_ok-sub.sub c.subs.key c.in_ok-sub.longer c.subs.invariant.before c.subs.invariant.key c.in_ok-sub.ensures.ok c.in_ok-sub.ensures.key c.in_ok-sub.ensures.within)
    c.in_err-last.ensures.err))

pub returns-then-last-clause-ok : goal.returns-then-last-clause-ok
returns-then-last-clause-ok c =
    let pushed : c.push.new.self ≡ c.subs.subs ++ c.in_ok-sub.sub ∷ [] = search rules in
    let mark : c.in_ok-sub.after.now ≡ 41 ∷ c.in_ok-last.next.now = search rules in
    let P : List ℕ → Type 0 = λ t. BehindSub (94 ∷ (c.args.name.now ++ 40 ∷ c.args.list.now)) c.args.name.now c.push.new.self t in
    let Q : List Sub → Type 0 = λ l. BehindSub (94 ∷ (c.args.name.now ++ 40 ∷ c.args.list.now)) c.args.name.now l c.in_ok-sub.after.now in
    subst P mark (subst Q (sym pushed) (behind-sub (94 ∷ (c.args.name.now ++ 40 ∷ c.args.list.now)) c.args.name.now c.subs.rest.now c.in_ok-sub.after.now c.subs.subs c.in_ok-sub.sub c.subs.key c.in_ok-sub.longer c.subs.invariant.before c.subs.invariant.key c.in_ok-sub.ensures.ok c.in_ok-sub.ensures.key c.in_ok-sub.ensures.within))

pub subs-preserved : goal.subs-preserved
subs-preserved c =
    let pushed : c.push.new.self ≡ c.subs.subs ++ c.in_ok-sub.sub ∷ [] = search rules in
    let mark : c.in_ok-sub.after.now ≡ 44 ∷ c.in_ok-last.next.now = search rules in
    let read : ReadsSub c.in_ok-sub.sub c.subs.rest.now (44 ∷ c.in_ok-last.next.now) = subst (λ (t : List ℕ). ReadsSub c.in_ok-sub.sub c.subs.rest.now t) mark c.in_ok-sub.ensures.ok in
    let next = before-next (94 ∷ (c.args.name.now ++ 40 ∷ c.args.list.now)) c.args.name.now c.subs.rest.now c.in_ok-last.next.now c.subs.subs c.in_ok-sub.sub c.subs.key c.in_ok-sub.longer c.subs.invariant.before c.subs.invariant.key read c.in_ok-sub.ensures.key c.in_ok-sub.ensures.within in
    record {
      before = subst (λ (l : List Sub). BeforeSub (94 ∷ (c.args.name.now ++ 40 ∷ c.args.list.now)) c.args.name.now l c.in_ok-last.next.now) (sym pushed) next.0;
      key = subst (λ (l : List Sub). c.in_ok-sub.longer ≡ key_length c.args.name.now l) (sym pushed) next.1;
    }

pub returns-in-Err-clause-err : goal.returns-in-Err-clause-err
returns-in-Err-clause-err c =
    let same : c.push.new.self ≡ c.subs.subs = search rules in
    let P : List Sub → Type 0 = λ l. BeforeSub (94 ∷ (c.args.name.now ++ 40 ∷ c.args.list.now)) c.args.name.now l c.subs.rest.now in
    (c.subs.rest.now, inl (subst P (sym same) c.subs.invariant.before, tt))
