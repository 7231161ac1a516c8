-- A walk from run to run, over runs that have a map's pairs of their spans: where it finds a run, no pair from the start up to a key of that
-- run passes the test, and where it ends, none up to the end does.
use Rattle.std.proofs.Common.{◌≡◌, ℕ, zero, suc, Bool, true, false, cond, not, if◌then◌else◌, ◌||◌, List, [], ◌∷◌, Option, Some, None, refl, sym, ◌∙◌, ap}
use Rattle.std.specs.List.{find, list_any, AllByRecursion}
use Rattle.std.specs.Ordering.{is_lt, is_gt}
use Rattle.std.proofs.lemmas.Bool.{false≢true, and_from, and_parts}
use Rattle.subscript_keys.specs.declared.run.Run.{Run}
use Rattle.subscript_keys.specs.declared.span.Span.{Span}
use Rattle.plain_orders.specs.PairMap.{Map, key_cmp, is_in, within}
use Rattle.end_words.specs.Runs.{contains, covers, pairs_of}
use Rattle.block_cache.specs.CacheWords.{used, without_first, in_front}
use Rattle.app_rules.specs.Reading.{Walked, Needs, Finds, Ends, Walk, walk, walk_from}
use Rattle.cached_reads.proofs.Gets.{found_has, found_passes}
use Rattle.cached_reads.proofs.Orders.{le, lt, le_trans, lt_then, not_lt, no_both}

-- a span between two keys
abbrev pub between : List ℕ → List ℕ → Span
between lo hi = record { lo = lo; hi = hi }

-- the run has the map's pairs of its span
abbrev pub IsOf : Map → Run → Type 0
IsOf m run = pairs_of run ≡ within m run.span

-- no pair of the span passes the test
abbrev pub NoneIn : (List ℕ × List ℕ → Bool) → Map → Span → Type 0
NoneIn test m span = AllByRecursion (λ p. is_in span p ≡ true → test p ≡ false) m

neither : (a b : Bool) → (a || b) ≡ false → (a ≡ false) × (b ≡ false)
neither true b is = absurd (false≢true (sym is))
neither false b is = (refl, is)

-- where none of a span's pairs passes the test
pub none_of : (test : List ℕ × List ℕ → Bool) (s : Span) (m : Map) → list_any test (within m s) ≡ false → NoneIn test m s
none_of test s [] e = tt
none_of test s (p ∷ ps) e = go (is_in s p) (none_of test s ps) e
  where
    go : (b : Bool) → (list_any test (within ps s) ≡ false → NoneIn test ps s) → list_any test (cond b (p ∷ within ps s) (within ps s)) ≡ false
        → (b ≡ true → test p ≡ false) × NoneIn test ps s
    go true more e = let parts = neither (test p) (list_any test (within ps s)) e in (λ is. parts.0, more parts.1)
    go false more e = (λ is. absurd (false≢true is), more e)

-- of two spans, the second from a key that the first ends at
module _ (test : List ℕ × List ℕ → Bool) (start key : List ℕ) (s : Span) (has : contains s key ≡ true) where
  either_in : (p : List ℕ × List ℕ) → (is_in (between start key) p ≡ true → test p ≡ false) → (is_in s p ≡ true → test p ≡ false)
      → is_in (between start s.hi) p ≡ true → test p ≡ false
  either_in p low high inside = go (is_lt (key_cmp p.0 key)) refl
    where
      parts : le start p.0 × lt p.0 s.hi
      parts = and_parts (not (is_gt (key_cmp start p.0))) (is_lt (key_cmp p.0 s.hi)) inside

      begun : le s.lo key
      begun = (and_parts (not (is_gt (key_cmp s.lo key))) (is_lt (key_cmp key s.hi)) has).0

      go : (b : Bool) → is_lt (key_cmp p.0 key) ≡ b → test p ≡ false
      go true below = low (and_from (not (is_gt (key_cmp start p.0))) (is_lt (key_cmp p.0 key)) parts.0 below)
      go false not_below =
          high (and_from (not (is_gt (key_cmp s.lo p.0))) (is_lt (key_cmp p.0 s.hi)) (le_trans s.lo key p.0 begun (not_lt p.0 key not_below)) parts.1)

  joined : (m : Map) → NoneIn test m (between start key) → NoneIn test m s → NoneIn test m (between start s.hi)
  joined [] low high = tt
  joined (p ∷ ps) low high = (either_in p low.0 high.0, joined ps low.1 high.1)

-- up to an end that isn't above
none_to : (test : List ℕ × List ℕ → Bool) (start hi end : List ℕ) (m : Map) → le end hi → NoneIn test m (between start hi) → NoneIn test m (between start end)
none_to test start hi end [] within_it none = tt
none_to test start hi end (p ∷ ps) within_it none = (first, none_to test start hi end ps within_it none.1)
  where
    first : is_in (between start end) p ≡ true → test p ≡ false
    first inside =
        let parts = and_parts (not (is_gt (key_cmp start p.0))) (is_lt (key_cmp p.0 end)) inside in
        none.0 (and_from (not (is_gt (key_cmp start p.0))) (is_lt (key_cmp p.0 hi)) parts.0 (lt_then p.0 end hi parts.1 within_it))

-- nothing is between a key and itself
none_yet : (test : List ℕ × List ℕ → Bool) (start : List ℕ) (m : Map) → NoneIn test m (between start start)
none_yet test start [] = tt
none_yet test start (p ∷ ps) = (first, none_yet test start ps)
  where
    first : is_in (between start start) p ≡ true → test p ≡ false
    first inside =
        let parts = and_parts (not (is_gt (key_cmp start p.0))) (is_lt (key_cmp p.0 start)) inside in
        absurd (no_both p.0 start parts.1 parts.0)

-- all runs are kept where they are used
fewer_all : (P : Run → Type 0) (test : Run → Bool) (runs : List Run) → AllByRecursion P runs → AllByRecursion P (without_first test runs)
fewer_all P test [] all = tt
fewer_all P test (r ∷ rs) all = go (test r) (fewer_all P test rs all.1)
  where
    go : (b : Bool) → AllByRecursion P (without_first test rs) → AllByRecursion P (if b then rs else r ∷ without_first test rs)
    go true more = all.1
    go false more = (all.0, more)

pub used_all : (P : Run → Type 0) (key : List ℕ) (runs : List Run) → AllByRecursion P runs → AllByRecursion P (used key runs)
used_all P key runs all = go (find (covers key) runs) refl
  where
    go : (o : Option Run) → find (covers key) runs ≡ o → AllByRecursion P (in_front (covers key) o runs)
    go None e = all
    go (Some r) e = (found_has P (covers key) runs r all e, fewer_all P (covers key) runs all)

-- what a walk that found a run went through
pub record FoundIn (m : Map) (test : List ℕ × List ℕ → Bool) (start : List ℕ) (run : Run) : Type 0 where
  pub at : List ℕ
  pub covered : contains run.span at ≡ true
  pub before : NoneIn test m (between start at)
  pub some : list_any test (pairs_of run) ≡ true
  pub its : IsOf m run

-- by where the walk ends
abbrev pub Went : Map → (List ℕ × List ℕ → Bool) → List ℕ → List ℕ → Walked → Type 0
Went m test start end (Needs key) = Unit {0}
Went m test start end (Finds run) = FoundIn m test start run
Went m test start end Ends = NoneIn test m (between start end)

-- a step of a walk, by the run that covers the key
abbrev pub steps : (Run → Bool) → List ℕ → ℕ → List ℕ → List Run → Option Run → Walk
steps holds end turns key runs o =
    elim o [
      | None ↦ walk (Needs key) runs
      | Some run ↦
          (if holds run then walk (Finds run) (used key runs)
          else (if is_lt (key_cmp run.span.hi end) then walk_from turns holds end run.span.hi (used key runs) else walk Ends (used key runs)))
    ]

module _ (m : Map) (test : List ℕ × List ℕ → Bool) (holds : Run → Bool) (is : (run : Run) → holds run ≡ list_any test (pairs_of run))
    (start end : List ℕ) where
  -- a walk from a key on
  abbrev Goes : ℕ → List ℕ → List Run → Type 0
  Goes turns key runs = Went m test start end (walk_from turns holds end key runs).walked

  -- the walk goes on from a run
  abbrev goes : ℕ → List ℕ → List Run → Run → Bool → Bool → Walk
  goes turns key runs run b c =
      if b then walk (Finds run) (used key runs)
      else (if c then walk_from turns holds end run.span.hi (used key runs) else walk Ends (used key runs))

  went_on : (turns : ℕ) (key : List ℕ) (runs : List Run) (run : Run)
      → ((k : List ℕ) (rs : List Run) → AllByRecursion (IsOf m) rs → NoneIn test m (between start k) → Goes turns k rs)
      → AllByRecursion (IsOf m) runs → NoneIn test m (between start key) → find (covers key) runs ≡ Some run
      → (b : Bool) → holds run ≡ b → (c : Bool) → is_lt (key_cmp run.span.hi end) ≡ c → Went m test start end (goes turns key runs run b c).walked
  went_on turns key runs run more all none found true there c e =
      record {
        at = key;
        covered = found_passes (covers key) runs run found;
        before = none;
        some = sym (is run) ∙ there;
        its = found_has (IsOf m) (covers key) runs run all found;
      }
  went_on turns key runs run more all none found false there c e = go c e
    where
      its : IsOf m run
      its = found_has (IsOf m) (covers key) runs run all found

      through : NoneIn test m (between start run.span.hi)
      through =
          joined test start key run.span (found_passes (covers key) runs run found) m none
          (none_of test run.span m (ap (λ (x : Map). list_any test x) (sym its) ∙ sym (is run) ∙ there))

      go : (c : Bool) → is_lt (key_cmp run.span.hi end) ≡ c → Went m test start end (goes turns key runs run false c).walked
      go true e = more run.span.hi (used key runs) (used_all (IsOf m) key runs all) through
      go false e = none_to test start run.span.hi end m (not_lt run.span.hi end e) through

  pub walk_went : (turns : ℕ) (key : List ℕ) (runs : List Run) → AllByRecursion (IsOf m) runs → NoneIn test m (between start key)
      → Goes turns key runs
  walk_went zero key runs all none = tt
  walk_went (suc turns) key runs all none = go (walk_went turns) (find (covers key) runs) refl
    where
      go : ((k : List ℕ) (rs : List Run) → AllByRecursion (IsOf m) rs → NoneIn test m (between start k) → Goes turns k rs)
          → (o : Option Run) → find (covers key) runs ≡ o → Went m test start end (steps holds end turns key runs o).walked
      go more None e = tt
      go more (Some run) e = went_on turns key runs run more all none e (holds run) refl (is_lt (key_cmp run.span.hi end)) refl

  -- so does one from the start
  pub from_start : (turns : ℕ) (runs : List Run) → AllByRecursion (IsOf m) runs → Went m test start end (walk_from turns holds end start runs).walked
  from_start turns runs all = walk_went turns start runs all (none_yet test start m)
