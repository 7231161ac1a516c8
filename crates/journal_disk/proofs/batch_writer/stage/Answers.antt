use Rattle.std.proofs.Common.{[], All, ◌≡◌, ◌++◌, length, sym, ◌∙◌, ap, subst, arith, take-append-drop}
use Rattle.journal_records.specs.Records.{HasRecordOp}
use Rattle.std.proofs.lemmas.Bool.Decides.{nat_tests}
use Rattle.std.proofs.lemmas.List.{nil_from_length}
use Rattle.std.proofs.lemmas.List.Elements.{All-drop}
use Rattle.journal_disk.specs.Batches.{body_length, FitsBatch}
use Rattle.journal_disk.specs.Parts.{IsFull}
use Rattle.journal_disk.proofs.Staging.{IsStaging, staging_none, staging_push, staging_all}
use Rattle.journal_disk.proofs.batch_writer.stage.Goals as goal

pub loop-rest-init : goal.loop-rest-init
loop-rest-init c = record {
  staging = subst (λ bs. IsStaging c.args.part.now c.args.part.now bs c.new-sizes.result.items) (sym c.in_ok-bytes.ensures.items)
      (subst (IsStaging c.args.part.now c.args.part.now []) (sym c.new-sizes.ensures.items) (staging_none c.args.part.now));
  ops = c.requires;
}

pub loop-rest-preserved : goal.loop-rest-preserved
loop-rest-preserved c =
    let n = c.front_batch-front.result.count in
    let rest = c.loop-rest.rest.now in
    let p = c.split_at.result.0.now in
    let front = c.split_at.ensures.front in
    let back = c.split_at.ensures.back in
    let within = c.front_batch-front.ensures.within in
    let some = c.front_batch-front.ensures.count in
    let e : rest ≡ p ++ c.split_at.result.1.now = rw (front, back) (sym (take-append-drop n rest)) in
    let long : c.front_batch-front.result.body ≡ body_length p = c.front_batch-front.ensures.body ∙ ap body_length (sym front) in
    let fits : FitsBatch p = record {
      some = omega (arith, c.split_at.ensures.front_len);
      short = omega (arith, c.front_batch-front.ensures.short);
    } in
    let full : IsFull p c.split_at.result.1.now = rw (front, back) c.front_batch-front.ensures.full in
    record {
      staging = staging_push c.args.part.now rest p _ _ _ _ _ c.front_batch-front.result.body c.loop-rest.invariant.staging e fits c.in_ok-put_batch.ensures.have_records full long c.in_ok-put_batch.ensures.ok c.in_ok-push.ensures.items;
      ops = subst (All HasRecordOp) (sym back) (All-drop HasRecordOp n rest c.loop-rest.invariant.ops);
    }

pub returns : goal.returns
returns c =
    let none : length c.loop-rest.rest.now ≡ 0 = grind (arith, nat_tests) in
    staging_all c.args.part.now c.loop-rest.rest.now _ _ c.loop-rest.invariant.staging (nil_from_length c.loop-rest.rest.now none)
