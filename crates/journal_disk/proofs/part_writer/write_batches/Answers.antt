use Rattle.std.proofs.Common.{◌≡◌, ◌+◌, ◌++◌, [], ℕ, List, length, drop, get_or, refl, sym, ap, ◌∙◌, subst, arith}
use Rattle.std.specs.List.{AllByRecursion}
use Rattle.std.proofs.lemmas.List.{drop_all}
use Rattle.plain_orders.specs.declared.entry.Entry.{Entry}
use Rattle.plain_orders.specs.Ordered.{IsOrdered}
use Rattle.journal_records.specs.Records.{IsRecord}
use Rattle.journal_disk.specs.Staged.{ArePieces, IsStaged}
use Rattle.journal_disk.proofs.Appending.{AreNext, HasWritten, are_next, next_piece, next_size, some_before, within_next, written_none, moments_next, read_next, written_next, written_all, read_some}
use Rattle.journal_disk.proofs.Moments.{still_none}
use Rattle.journal_disk.proofs.part_writer.write_batches.Goals as goal

next_of : (list part : List Entry) (bytes sizes : List ℕ) → IsOrdered (list ++ part) → (staged : IsStaged part bytes sizes) → AreNext list staged.parts
next_of list part bytes sizes ordered staged =
    are_next list staged.parts staged.split.filled (subst (AllByRecursion IsRecord) (sym staged.split.whole) staged.have_records)
    (subst (λ (es : List Entry). IsOrdered (list ++ es)) (sym staged.split.whole) ordered)

pub loop-size-init : goal.loop-size-init
loop-size-init g c =
    let value = c.as_slice-rest.ensures.value in
    let first = c.args.disk.now in
    let sizes = c.args.staged.now.sizes.items in
    record {
      room = omega (arith, c.requires.room, ap length value);
      pieces = (c.requires.staged.1.parts, subst (λ (bs : List ℕ). ArePieces c.requires.staged.1.parts bs sizes) (sym value) c.requires.staged.1.pieces);
      within = c.requires.within;
      telling = refl;
      faults = omega arith;
      calls = (omega arith, omega arith);
      out_of_memory = omega arith;
      none = λ zero. refl;
      written = λ x e list parts settled next pieces.
          written_none g.D.Disk.moment g.D.Disk.left_since g.D.Disk.may_leave g.D.Disk.told first x list parts c.args.gate c.as_slice-rest.result.now sizes e settled next
          (subst (λ (bs : List ℕ). ArePieces parts bs sizes) (sym value) pieces) (g.met.D.Disk.only_now first);
    }

pub split_at-requires : goal.split_at-requires
split_at-requires g c =
    let sizes = c.args.staged.now.sizes.items in
    let e = next_size c.deref-size-items.result.now sizes c.loop-size.size-index c.deref-size-items.ensures.value c.loop-size-test.true in
    let pieces = c.loop-size.invariant.pieces in
    (next_piece pieces.0 c.loop-size.rest.now _ _ (subst (λ (ns : List ℕ). ArePieces pieces.0 c.loop-size.rest.now ns) e pieces.1)).within

pub write_batch-requires-clause-some : goal.write_batch-requires-clause-some
write_batch-requires-clause-some g c =
    let sizes = c.args.staged.now.sizes.items in
    let e = next_size c.deref-size-items.result.now sizes c.loop-size.size-index c.deref-size-items.ensures.value c.loop-size-test.true in
    let pieces = c.loop-size.invariant.pieces in
    let next = next_piece pieces.0 c.loop-size.rest.now _ _ (subst (λ (ns : List ℕ). ArePieces pieces.0 c.loop-size.rest.now ns) e pieces.1) in
    omega (arith, c.split_at.ensures.front_len, next.some)

pub returns-in_err-write_batch-clause-any_moment : goal.returns-in_err-write_batch-clause-any_moment
returns-in_err-write_batch-clause-any_moment g c = λ list part settled ordered staged x e.
    let moment = g.D.Disk.moment in
    let since = g.D.Disk.left_since in
    let may = g.D.Disk.may_leave in
    let told = g.D.Disk.told in
    let first = c.args.disk.now in
    let mid = c.loop-size.disk in
    let new = c.write_batch.new.disk in
    let i = c.loop-size.size-index in
    let sizes = c.args.staged.now.sizes.items in
    let size = get_or c.deref-size-items.result.now i 0 in
    let rest = c.loop-size.rest.now in
    let gate = c.loop-size.gate in
    let was = c.loop-size.invariant.written x e list staged.parts settled (next_of list part _ _ ordered staged) staged.pieces in
    let here = subst (HasWritten moment since may told first mid list staged.parts gate rest) (next_size c.deref-size-items.result.now sizes i c.deref-size-items.ensures.value c.loop-size-test.true) was in
    record {
      parts = staged.parts;
      split = staged.split;
      read = read_next moment since may told first mid new list staged.parts gate rest size (drop (i + 1) sizes) c.split_at.result.0.now here c.split_at.ensures.front c.write_batch.ensures.read;
      moments = moments_next moment since may told first mid new list staged.parts gate rest size (drop (i + 1) sizes) c.split_at.result.0.now here c.split_at.ensures.front c.write_batch.ensures.any_moment;
    }

pub loop-size-preserved : goal.loop-size-preserved
loop-size-preserved g c =
    let moment = g.D.Disk.moment in
    let since = g.D.Disk.left_since in
    let may = g.D.Disk.may_leave in
    let told = g.D.Disk.told in
    let first = c.args.disk.now in
    let mid = c.loop-size.disk in
    let new = c.write_batch.new.disk in
    let i = c.loop-size.size-index in
    let sizes = c.args.staged.now.sizes.items in
    let size = get_or c.deref-size-items.result.now i 0 in
    let rest = c.loop-size.rest.now in
    let gate = c.loop-size.gate in
    let batch = c.split_at.result.0.now in
    let after = c.split_at.result.1.now in
    let back = c.split_at.ensures.back in
    let was = c.loop-size.invariant in
    let e = next_size c.deref-size-items.result.now sizes i c.deref-size-items.ensures.value c.loop-size-test.true in
    let next = next_piece was.pieces.0 rest _ _ (subst (λ (ns : List ℕ). ArePieces was.pieces.0 rest ns) e was.pieces.1) in
    record {
      room = omega (arith, was.room, c.split_at.ensures.back_len, next.within);
      pieces = (next.parts, subst (λ (bs : List ℕ). ArePieces next.parts bs (drop (i + 1) sizes)) (sym back) next.after);
      within = within_next (told mid) (told new) (may new) gate size batch (still_none (told mid) (told new) c.write_batch.ensures.telling) was.within c.in_ok-write_batch.ensures.ok c.split_at.ensures.front_len;
      telling = c.write_batch.ensures.telling ∙ was.telling;
      faults = omega (arith, was.faults, c.write_batch.ensures.faults);
      calls = let step = c.in_ok-write_batch.ensures.calls in (omega (arith, was.calls.0, step.0), omega (arith, was.calls.1, step.1));
      out_of_memory = omega (arith, was.out_of_memory, c.write_batch.ensures.memory);
      none = λ zero. absurd (omega arith);
      written = λ x f list parts settled follow pieces.
          let here = subst (HasWritten moment since may told first mid list parts gate rest) e (was.written x f list parts settled follow pieces) in
          subst (λ (bs : List ℕ). HasWritten moment since may told first new list parts (gate + size) bs (drop (i + 1) sizes)) (sym back)
          (written_next moment since may told first mid new list parts gate rest size (drop (i + 1) sizes) batch here c.split_at.ensures.front c.write_batch.ensures.any_moment c.in_ok-write_batch.ensures.ok);
    }

pub returns-clause-ok : goal.returns-clause-ok
returns-clause-ok g c = λ list part settled ordered staged.
    let told = g.D.Disk.told in
    let first = c.args.disk.now in
    let now = c.loop-size.disk in
    let sizes = c.args.staged.now.sizes.items in
    let none : drop c.loop-size.size-index sizes ≡ [] = drop_all c.loop-size.size-index sizes (omega (arith, ap length c.deref-size-items.ensures.value)) in
    λ y f.
    let x = some_before (told first) (told now) y (still_none (told first) (told now) c.loop-size.invariant.telling) f in
    let was = c.loop-size.invariant.written x.0 x.1 list staged.parts settled (next_of list part _ _ ordered staged) staged.pieces in
    written_all g.D.Disk.moment g.D.Disk.left_since g.D.Disk.may_leave told first now list part staged.parts c.loop-size.gate c.loop-size.rest.now _ was none staged.split.whole y f

pub returns-clause-any_moment : goal.returns-clause-any_moment
returns-clause-any_moment g c = λ list part settled ordered staged x e.
    let told = g.D.Disk.told in
    let first = c.args.disk.now in
    let now = c.loop-size.disk in
    let was = c.loop-size.invariant.written x e list staged.parts settled (next_of list part _ _ ordered staged) staged.pieces in
    record {
      parts = staged.parts;
      split = staged.split;
      read = read_some g.D.Disk.moment g.D.Disk.left_since g.D.Disk.may_leave told first now list staged.parts c.loop-size.gate c.loop-size.rest.now _ was;
      moments = was.moments;
    }
