use Rattle.std.specs.Vec.Iter.{into_iter_items}
use Rattle.folded_store.proofs.FitLemmas.{put_now, put_later, put_same}
use Rattle.folded_store.proofs.changing.put_pairs_back.Goals as goal

pub loop-pair-preserved-in_ok-set : goal.loop-pair-preserved-in_ok-set
loop-pair-preserved-in_ok-set g c =
    let ps = into_iter_items c.loop-pair.pair-iterator in
    let rest = into_iter_items c.next.new.self in
    let i = c.loop-pair.invariant in
    let at = put_now ps rest c.in-Some.pair (g.P.PairTable.pairs c.loop-pair.pairs) (g.P.PairTable.pairs c.set.new.self) _ c.in-Some.ensures.steps.0 i.fits i.left i.same c.in_ok-set.ensures.ok in
    record {
      can = tt;
      ends = tt;
      fits = at;
      left = put_later ps rest c.in-Some.pair (g.P.PairTable.pairs c.loop-pair.pairs) (g.P.PairTable.pairs c.set.new.self) _ c.in-Some.ensures.steps.0 i.fits i.left i.same c.in_ok-set.ensures.ok;
      same = put_same ps rest c.in-Some.pair (g.P.PairTable.pairs c.loop-pair.pairs) (g.P.PairTable.pairs c.set.new.self) _ c.in-Some.ensures.steps.0 i.fits i.left i.same c.in_ok-set.ensures.ok;
    }

pub loop-pair-preserved : goal.loop-pair-preserved
loop-pair-preserved g c =
    let ps = into_iter_items c.loop-pair.pair-iterator in
    let rest = into_iter_items c.next.new.self in
    let i = c.loop-pair.invariant in
    let at = put_now ps rest c.in-Some.pair (g.P.PairTable.pairs c.loop-pair.pairs) (g.P.PairTable.pairs c.set.new.self) _ c.in-Some.ensures.steps.0 i.fits i.left i.same c.in_ok-set.ensures.ok in
    record {
      can = tt;
      ends = tt;
      fits = at;
      left = put_later ps rest c.in-Some.pair (g.P.PairTable.pairs c.loop-pair.pairs) (g.P.PairTable.pairs c.set.new.self) _ c.in-Some.ensures.steps.0 i.fits i.left i.same c.in_ok-set.ensures.ok;
      same = put_same ps rest c.in-Some.pair (g.P.PairTable.pairs c.loop-pair.pairs) (g.P.PairTable.pairs c.set.new.self) _ c.in-Some.ensures.steps.0 i.fits i.left i.same c.in_ok-set.ensures.ok;
    }
