use Rattle.std.proofs.Common.{◌≡◌, ℕ, List, [], ◌∷◌, ◌++◌, sym, ap, ◌∙◌, arith, rules}
use Rattle.std.proofs.lemmas.List.{nil_from_length}
use Rattle.subscript_keys.specs.Key.{escaped}
use Rattle.subscript_keys.proofs.TextReads.{push-plain, push-zero, no-end, no-mark}
use Rattle.subscript_keys.proofs.sub_reader.take_text.Goals as goal

same-head : (a b : ℕ) (s t : List ℕ) → a ∷ s ≡ b ∷ t → a ≡ b
same-head a b s t e = cc

pub loop-first-preserved-then-first-ne0 : goal.loop-first-preserved-then-first-ne0
loop-first-preserved-then-first-ne0 c =
    let r : c.loop-first.rest.now ≡ c.in-Some.first.now ∷ c.in-Some.after.now = search rules in
    ap (λ t. escaped t ++ c.in-Some.after.now) c.in_ok-push.ensures.items
    ∙ push-plain c.loop-first.text.items c.in-Some.after.now c.args.bytes.now c.loop-first.rest.now c.in-Some.first.now c.if-first-ne0.true r c.loop-first.invariant

pub returns-in_default-split_first-clause-none : goal.returns-in_default-split_first-clause-none
returns-in_default-split_first-clause-none c = λ text rest k.
    let r : c.loop-first.rest.now ≡ c.in-Some.first.now ∷ c.in-Some.after.now = search rules in
    let zero : c.in-Some.first.now ≡ 0 = omega arith in
    let none : c.in-Some.after.now ≡ [] = nil_from_length c.in-Some.after.now c.in_default-split_first.ensures.cases in
    no-mark c.loop-first.text.items c.loop-first.rest.now c.in-Some.after.now c.args.bytes.now text rest c.in-Some.first.now zero r (λ x tail e. let differ : x ∷ tail ≡ [] = sym e ∙ none in cc) c.loop-first.invariant k

pub returns-then-second-clause-none : goal.returns-then-second-clause-none
returns-then-second-clause-none c = λ text rest k.
    let r : c.loop-first.rest.now ≡ c.in-Some.first.now ∷ c.in-Some.after.now = search rules in
    let s : c.in-Some.after.now ≡ c.in-Some-split_first.second.now ∷ c.in-Some-split_first.tail.now = search rules in
    let zero : c.in-Some.first.now ≡ 0 = omega arith in
    no-mark c.loop-first.text.items c.loop-first.rest.now c.in-Some.after.now c.args.bytes.now text rest c.in-Some.first.now zero r (λ x tail e. (
      λ one. c.if-second-eq1.false (same-head c.in-Some-split_first.second.now x c.in-Some-split_first.tail.now tail (sym s ∙ e) ∙ one),
      λ last. c.if-second.true (same-head c.in-Some-split_first.second.now x c.in-Some-split_first.tail.now tail (sym s ∙ e) ∙ last),
    )) c.loop-first.invariant k

pub loop-first-preserved : goal.loop-first-preserved
loop-first-preserved c =
    let r : c.loop-first.rest.now ≡ c.in-Some.first.now ∷ c.in-Some.after.now = search rules in
    let s : c.in-Some.after.now ≡ c.in-Some-split_first.second.now ∷ c.in-Some-split_first.tail.now = search rules in
    let zero : c.in-Some.first.now ≡ 0 = omega arith in
    let last : c.in-Some-split_first.second.now ≡ 0xFF = omega arith in
    ap (λ t. escaped t ++ c.in-Some-split_first.tail.now) c.in_ok-push-2.ensures.items
    ∙ push-zero c.loop-first.text.items c.in-Some.after.now c.in-Some-split_first.tail.now c.args.bytes.now c.loop-first.rest.now c.in-Some.first.now c.in-Some-split_first.second.now zero last r s c.loop-first.invariant

pub returns-clause-none : goal.returns-clause-none
returns-clause-none c = λ text rest k. no-end c.loop-first.text.items c.loop-first.rest.now c.args.bytes.now text rest c.in_default.ensures.cases c.loop-first.invariant k
