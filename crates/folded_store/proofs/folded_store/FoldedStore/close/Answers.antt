use Rattle.std.proofs.Common.{◌≡◌, ◌∙◌, ◌++◌, List, sym, ap, ap₂, subst, Some, None}
use Rattle.std.proofs.lemmas.List.{append-nil}
use Rattle.plain_orders.specs.PairMap.{Map}
use Rattle.plain_orders.specs.Fold.{Transaction, Folded}
use Rattle.folded_store.specs.Limits.{BegunFits}
use Rattle.folded_store.specs.Transactions.{first_undo}
use Rattle.folded_store.proofs.BegunLemmas.{close_done, found_at_first, none_goes, undone_still, told_still, open_still, fewer_left}
use Rattle.folded_store.proofs.FitLemmas.{first_fits, rest_fits}
use Rattle.folded_store.proofs.folded_store.FoldedStore.close.Goals as goal

pub undo_all-requires-clause-undo : goal.undo_all-requires-clause-undo
undo_all-requires-clause-undo g c =
    first_fits c.args.session c.loop-undo.self-inside.begun c.in-Some.undo c.loop-undo.invariant.fits.begun (sym c.in-Some.ensures.undo)

pub loop-undo-smaller : goal.loop-undo-smaller
loop-undo-smaller g c =
    let s = c.args.session in
    let ts = c.loop-undo.self-inside.begun in
    let first : first_undo s ts ≡ Some c.in-Some.undo = sym c.in-Some.ensures.undo in
    fewer_left s ts c.end_latest.new.self c.in-Some.undo (g.P.PairTable.pairs c.loop-undo.self-inside.pairs) (g.P.PairTable.pairs c.undo_all.new.pairs) c.loop-undo.spans c.undo_all.new.spans first c.in-Some.ensures.rest c.in_ok-undo_all.ensures.ok c.in_ok-undo_all.ensures.spans

pub loop-undo-preserved : goal.loop-undo-preserved
loop-undo-preserved g c =
    let s = c.args.session in
    let ts = c.loop-undo.self-inside.begun in
    let first : first_undo s ts ≡ Some c.in-Some.undo = sym c.in-Some.ensures.undo in
    record {
      fits = record {
        pairs = c.in_ok-undo_all.ensures.fits;
        begun = subst BegunFits (sym c.in-Some.ensures.rest) (rest_fits s ts c.loop-undo.invariant.fits.begun);
      };
      pairs = undone_still s ts c.end_latest.new.self c.in-Some.undo (g.P.PairTable.pairs c.loop-undo.self-inside.pairs) (g.P.PairTable.pairs c.undo_all.new.pairs) c.loop-undo.spans c.undo_all.new.spans first c.in-Some.ensures.rest c.in_ok-undo_all.ensures.ok c.in_ok-undo_all.ensures.spans ∙ c.loop-undo.invariant.pairs;
      none = λ h. absurd (found_at_first s ts c.self.inside.begun c.in-Some.undo first c.loop-undo.invariant.none h);
      told = told_still s ts c.end_latest.new.self c.in-Some.undo (g.P.PairTable.pairs c.loop-undo.self-inside.pairs) (g.P.PairTable.pairs c.undo_all.new.pairs) c.loop-undo.spans c.undo_all.new.spans first c.in-Some.ensures.rest c.in_ok-undo_all.ensures.ok c.in_ok-undo_all.ensures.spans ∙ c.loop-undo.invariant.told;
      begun = open_still s ts c.end_latest.new.self c.in-Some.undo (g.P.PairTable.pairs c.loop-undo.self-inside.pairs) (g.P.PairTable.pairs c.undo_all.new.pairs) c.loop-undo.spans c.undo_all.new.spans first c.in-Some.ensures.rest c.in_ok-undo_all.ensures.ok c.in_ok-undo_all.ensures.spans ∙ c.loop-undo.invariant.begun;
    }

pub invariant_of-self : goal.invariant_of-self
invariant_of-self g c = record {
  pairs = c.undo_all.ensures.fits;
  begun = subst BegunFits (sym c.in-Some.ensures.rest) (rest_fits c.args.session c.loop-undo.self-inside.begun c.loop-undo.invariant.fits.begun);
}

pub invariant_of-self-in_default : goal.invariant_of-self-in_default
invariant_of-self-in_default g c = record {
  pairs = c.loop-undo.invariant.fits.pairs;
  begun = subst BegunFits (sym c.end_latest.ensures.rest) (rest_fits c.args.session c.loop-undo.self-inside.begun c.loop-undo.invariant.fits.begun);
}

pub returns-clause-next : goal.returns-clause-next
returns-clause-next g c =
    let s = c.args.session in
    let ts = c.loop-undo.self-inside.begun in
    let m = (g.P.PairTable.pairs c.loop-undo.self-inside.pairs) in
    let none : first_undo s ts ≡ None = sym c.end_latest.ensures.undo ∙ c.in_default.is in
    let done = close_done s ts m none in
    rw (← c.self.view_is)
    (ap₂ (λ (q : Map) (l : List Transaction). let f : Folded = record { pairs = q; begun = l } in f)
    (sym done.0 ∙ c.loop-undo.invariant.pairs)
    (c.end_latest.ensures.rest ∙ none_goes s ts none ∙ sym done.2 ∙ c.loop-undo.invariant.begun))

pub returns-clause-spans : goal.returns-clause-spans
returns-clause-spans g c =
    let s = c.args.session in
    let ts = c.loop-undo.self-inside.begun in
    let none : first_undo s ts ≡ None = sym c.end_latest.ensures.undo ∙ c.in_default.is in
    rw (← c.self.view_is)
    (sym (append-nil c.loop-undo.spans) ∙ ap (λ xs. c.loop-undo.spans ++ xs) (sym (close_done s ts (g.P.PairTable.pairs c.loop-undo.self-inside.pairs) none).1) ∙ c.loop-undo.invariant.told)
