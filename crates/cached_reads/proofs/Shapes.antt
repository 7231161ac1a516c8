-- A walk for descendants tells what a node holds.
use Rattle.std.proofs.Common.{◌≡◌, ℕ, suc, Bool, true, false, cond, ◌||◌, List, [], ◌∷◌, length, Option, Some, None, take, filter, refl, sym, ◌∙◌, ap, nat_lt}
use Rattle.std.specs.Prelude.{is_some}
use Rattle.std.specs.List.{find, list_any, AllByRecursion}
use Rattle.std.proofs.lemmas.Bool.{false≢true, and_parts}
use Rattle.subscript_keys.specs.declared.run.Run.{Run}
use Rattle.subscript_keys.specs.Key.{IsKey}
use Rattle.subscript_keys.specs.Span.{span_hi}
use Rattle.plain_orders.specs.declared.entry.Entry.{Entry}
use Rattle.plain_orders.specs.Answers.{data_code, is_descendant}
use Rattle.plain_orders.specs.Fold.{fold}
use Rattle.plain_orders.specs.Keys.{HasKeys}
use Rattle.plain_orders.specs.Ordered.{IsOrdered}
use Rattle.plain_orders.specs.PairMap.{Map, is_in, is_under, value_at}
use Rattle.plain_orders.proofs.FrontLemmas.{ordered-take}
use Rattle.plain_orders.proofs.Locality.{in_span}
use Rattle.plain_orders.proofs.NodeKeys.{under_in}
use Rattle.plain_orders.proofs.OrderKeys.{ordered_keys}
use Rattle.end_words.specs.Runs.{covers}
use Rattle.app_rules.specs.Reading.{Walked, Needs, Finds, Ends, walk_from, walks, holds_below, has_value, value_in}
use Rattle.cached_reads.specs.Laws.{AreTrueAt}
use Rattle.cached_reads.specs.Walks.{TellsShape}
use Rattle.cached_reads.proofs.Gets.{found_has, found_passes, value_of}
use Rattle.cached_reads.proofs.Walks.{between, IsOf, NoneIn, Went, steps, from_start}

-- where one of some pairs passes, one of all does
any_of : (test f : List ℕ × List ℕ → Bool) (m : Map) → list_any test (filter f m) ≡ true → list_any test m ≡ true
any_of test f [] e = e
any_of test f (p ∷ ps) e = go (any_of test f ps) (f p) e
  where
    first : (c : Bool) → (list_any test (filter f ps) ≡ true → list_any test ps ≡ true) → (c || list_any test (filter f ps)) ≡ true
        → (c || list_any test ps) ≡ true
    first true more e = refl
    first false more e = more e

    behind : (c : Bool) → list_any test ps ≡ true → (c || list_any test ps) ≡ true
    behind true e = refl
    behind false e = e

    go : (list_any test (filter f ps) ≡ true → list_any test ps ≡ true) → (b : Bool) → list_any test (cond b (p ∷ filter f ps) (filter f ps)) ≡ true
        → (test p || list_any test ps) ≡ true
    go more true e = first (test p) more e
    go more false e = behind (test p) (more e)

module _ (key : List ℕ) (is_key : IsKey key) where
  -- a descendant is in the node's span
  below_in : (p : List ℕ × List ℕ) → IsKey p.0 → is_descendant key p ≡ true → is_in (between key (span_hi key)) p ≡ true
  below_in p k e =
      in_span (between key (span_hi key)) p (under_in key p.0 is_key k (and_parts (is_under key p.0) (nat_lt (length key) (length p.0)) e).0)

  -- where the span has no descendant, there is none
  none_below : (m : Map) → HasKeys m → NoneIn (is_descendant key) m (between key (span_hi key)) → list_any (is_descendant key) m ≡ false
  none_below [] h none = refl
  none_below (p ∷ ps) h none = go (is_descendant key p) refl (none_below ps h.1 none.1)
    where
      go : (b : Bool) → is_descendant key p ≡ b → list_any (is_descendant key) ps ≡ false → (b || list_any (is_descendant key) ps) ≡ false
      go true e rest = absurd (false≢true (sym (none.0 (below_in p h.0 e)) ∙ e))
      go false e rest = rest

  -- where a walk ends, it began at a run that has the node's value
  abbrev Begins : Map → List Run → Walked → Type 0
  Begins m runs (Needs needed) = Unit {0}
  Begins m runs (Finds run) = has_value runs key ≡ is_some (value_at m key)
  Begins m runs Ends = has_value runs key ≡ is_some (value_at m key)

  begins : (m : Map) (runs : List Run) (x : Walked) → has_value runs key ≡ is_some (value_at m key) → Begins m runs x
  begins m runs (Needs needed) e = tt
  begins m runs (Finds run) e = e
  begins m runs Ends e = e

  walk_begins : (m : Map) (holds : Run → Bool) (end : List ℕ) (turns : ℕ) (runs : List Run) → AllByRecursion (IsOf m) runs
      → Begins m runs (walk_from (suc turns) holds end key runs).walked
  walk_begins m holds end turns runs all = go (find (covers key) runs) refl
    where
      go : (o : Option Run) → find (covers key) runs ≡ o → Begins m runs (steps holds end turns key runs o).walked
      go None e = tt
      go (Some run) e =
          begins m runs (steps holds end turns key runs (Some run)).walked
          (ap (λ o. is_some (value_in o key)) e
          ∙ ap is_some (value_of m run key (found_has (IsOf m) (covers key) runs run all e) (found_passes (covers key) runs run e)))

  tells : (x : Walked) (runs : List Run) (es : List Entry) → HasKeys (fold es).pairs → Went (fold es).pairs (is_descendant key) key (span_hi key) x
      → Begins (fold es).pairs runs x → TellsShape x runs es key
  tells (Needs needed) runs es h went begun = tt
  tells (Finds run) runs es h went begun =
      ap (λ b. data_code b true) begun
      ∙ ap (data_code (is_some (value_at (fold es).pairs key)))
      (sym (any_of (is_descendant key) (is_in run.span) (fold es).pairs (ap (λ (x : Map). list_any (is_descendant key) x) (sym went.its) ∙ went.some)))
  tells Ends runs es h went begun =
      ap (λ b. data_code b false) begun ∙ ap (data_code (is_some (value_at (fold es).pairs key))) (sym (none_below (fold es).pairs h went))

-- So the walk tells what the node holds.
pub walks_tell_shapes : (es : List Entry) (n : ℕ) (runs : List Run) (key : List ℕ) → IsOrdered es → AreTrueAt es n runs → IsKey key
    → TellsShape (walks (holds_below key) (span_hi key) key runs).walked runs (take n es) key
walks_tell_shapes es n runs key ordered all is_key =
    tells key is_key (walks (holds_below key) (span_hi key) key runs).walked runs (take n es) (ordered_keys (take n es) (ordered-take es n ordered))
    (from_start m (is_descendant key) (holds_below key) (λ run. refl) key (span_hi key) (suc (length runs)) runs all)
    (walk_begins key is_key m (holds_below key) (span_hi key) (length runs) runs all)
  where
    m : Map
    m = (fold (take n es)).pairs
