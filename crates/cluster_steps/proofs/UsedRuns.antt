-- Runs that were used are those that were there.
use Rattle.std.proofs.Common.{ℕ, zero, suc, Bool, true, false, List, [], ◌∷◌, Option, Some, None, inl, inr, refl, if◌then◌else◌}
use Rattle.std.specs.Prelude.{IfSome}
use Rattle.std.specs.List.{AllByRecursion, find}
use Rattle.std.specs.Ordering.{is_lt}
use Rattle.subscript_keys.specs.declared.run.Run.{Run}
use Rattle.plain_orders.specs.PairMap.{key_cmp}
use Rattle.end_words.specs.Runs.{covers}
use Rattle.block_cache.specs.CacheWords.{used, in_front, without_first}
use Rattle.app_rules.specs.Reading.{Walk, walk, walk_from}
use Rattle.app_rules.specs.Reading.Walked.{Needs, Finds, Ends}
use Rattle.cluster_steps.proofs.JobPieces.{IsAmong}

find_all : (P : Run → Type 0) (test : Run → Bool) (rs : List Run) → AllByRecursion P rs → IfSome (find test rs) P
find_all P test [] h = tt
find_all P test (r ∷ rs) h = go (test r) (find_all P test rs h.1)
  where
    go : (t : Bool) → IfSome (find test rs) P → IfSome (if t then Some r else find test rs) P
    go true rest = h.0
    go false rest = rest

without_all : (P : Run → Type 0) (test : Run → Bool) (rs : List Run) → AllByRecursion P rs → AllByRecursion P (without_first test rs)
without_all P test [] h = tt
without_all P test (r ∷ rs) h = go (test r) (without_all P test rs h.1)
  where
    go : (t : Bool) → AllByRecursion P (without_first test rs) → AllByRecursion P (if t then rs else r ∷ without_first test rs)
    go true rest = h.1
    go false rest = (h.0, rest)

-- what holds of each run holds of each after a use
pub used_all : (P : Run → Type 0) (key : List ℕ) (rs : List Run) → AllByRecursion P rs → AllByRecursion P (used key rs)
used_all P key rs h = go (find (covers key) rs) (find_all P (covers key) rs h)
  where
    go : (o : Option Run) → IfSome o P → AllByRecursion P (in_front (covers key) o rs)
    go None has = h
    go (Some r) has = (has, without_all P (covers key) rs h)

-- and after a walk
pub walked_all : (P : Run → Type 0) (n : ℕ) (holds : Run → Bool) (end key : List ℕ) (rs : List Run) → AllByRecursion P rs → AllByRecursion P (walk_from n holds end key rs).cache
walked_all P zero holds end key rs h = h
walked_all P (suc n) holds end key rs h = go (find (covers key) rs) (λ hi. walked_all P n holds end hi (used key rs) (used_all P key rs h))
  where
    past : (run : Run) (here on : Bool) → AllByRecursion P (walk_from n holds end run.span.hi (used key rs)).cache
        → AllByRecursion P (if here then walk (Finds run) (used key rs) else (if on then walk_from n holds end run.span.hi (used key rs) else walk Ends (used key rs))).cache
    past run true on rest = used_all P key rs h
    past run false true rest = rest
    past run false false rest = used_all P key rs h

    go : (o : Option Run) → ((hi : List ℕ) → AllByRecursion P (walk_from n holds end hi (used key rs)).cache) → AllByRecursion P (elim o as (λ _. Walk) [
      | None ↦ walk (Needs key) rs
      | Some run ↦
          (if holds run then walk (Finds run) (used key rs)
          else (if is_lt (key_cmp run.span.hi end) then walk_from n holds end run.span.hi (used key rs) else walk Ends (used key rs)))
    ]).cache
    go None rest = h
    go (Some run) rest = past run (holds run) (is_lt (key_cmp run.span.hi end)) (rest run.span.hi)

more_among : (r : Run) (xs ys : List Run) → AllByRecursion (λ x. IsAmong x xs) ys → AllByRecursion (λ x. IsAmong x (r ∷ xs)) ys
more_among r xs [] h = tt
more_among r xs (y ∷ ys) h = (inr h.0, more_among r xs ys h.1)

-- each run is among its list
pub all_among : (rs : List Run) → AllByRecursion (λ r. IsAmong r rs) rs
all_among [] = tt
all_among (r ∷ rs) = (inl refl, more_among r rs rs (all_among rs))
