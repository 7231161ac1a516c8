-- Each ordered list has, for each key below FF, a run that covers it, is true of the whole list and fits a block: up to the next key that stands
-- in the map, from the last one that doesn't come behind the key.
use Rattle.std.proofs.Common.{◌≡◌, ◌≤◌, ℕ, Bool, true, false, not, cond, ◌&&◌, List, [], ◌∷◌, ◌++◌, length, map, refl, sym, ap, subst, ◌∙◌, arith}
use Rattle.std.specs.declared.cmp.Ordering.{Ordering}
use Rattle.std.specs.declared.cmp.Ordering.TheVariants.{Less, Equal, Greater}
use Rattle.std.specs.Ordering.{is_lt, is_gt, ordering_reverse}
use Rattle.std.specs.List.{AllByRecursion}
use Rattle.std.proofs.lemmas.Cmp.{nat_list_cmp_total}
use Rattle.std.proofs.lemmas.List.{length-append, take_all}
use Rattle.std.proofs.lemmas.Map.Lookups.{exact_bytes}
use Rattle.subscript_keys.specs.declared.pair.Pair.{Pair}
use Rattle.subscript_keys.specs.declared.run.Run.{Run}
use Rattle.subscript_keys.specs.declared.span.Span.{Span}
use Rattle.subscript_keys.specs.declared.limits.TheConstants.{KEY_LIMIT, VALUE_LIMIT}
use Rattle.subscript_keys.specs.Span.{IsIn}
use Rattle.subscript_keys.proofs.Ties.{itself}
use Rattle.plain_orders.specs.declared.entry.Entry.{Entry}
use Rattle.plain_orders.specs.PairMap.{Map, key_cmp, is_in, within, IsBeforeAll, IsRising}
use Rattle.plain_orders.specs.Fold.{fold}
use Rattle.plain_orders.proofs.RisingLemmas.{fold_rises, before_behind}
use Rattle.block_bytes.specs.Blocks.{block_bytes, pair_bytes, pairs_bytes, PairsRise}
use Rattle.block_bytes.proofs.BlockLengths.{block_length, list_length, pair_length}
use Rattle.end_words.specs.Runs.{covers, pairs_of}
use Rattle.data_rules.proofs.ShortPairs.{PairFits, MapFits, ordered_fits}
use Rattle.data_rules.specs.Laws.{FetchRun, FetchFindsRun}

-- what isn't above what is below a third is below the third
under : (a b c : List ℕ) → is_gt (key_cmp a b) ≡ false → key_cmp b c ≡ Less → key_cmp a c ≡ Less
under a b c low below = go (key_cmp a b) refl low
  where
    go : (o : Ordering) → key_cmp a b ≡ o → is_gt o ≡ false → key_cmp a c ≡ Less
    go Less e l = nat_list_cmp_total.trans a b c e below
    go Equal e l = subst (λ x. key_cmp x c ≡ Less) (sym (exact_bytes a b e)) below
    go Greater e l = absurd (cc (l))

-- turned round
turned : (a b : List ℕ) → key_cmp a b ≡ Less → key_cmp b a ≡ Greater
turned a b e = nat_list_cmp_total.antisymm b a ∙ ap ordering_reverse e

-- none of the keys is below the end of a span
abbrev AllFrom : List ℕ → Map → Type 0
AllFrom hi m = AllByRecursion (λ p. is_lt (key_cmp p.0 hi) ≡ false) m

none_and : (b c : Bool) → c ≡ false → (b && c) ≡ false
none_and true c e = e
none_and false c e = refl

within_none : (m : Map) (s : Span) → AllFrom s.hi m → within m s ≡ []
within_none [] s h = refl
within_none (p ∷ m) s h = go (is_in s p) (none_and (not (is_gt (key_cmp s.lo p.0))) (is_lt (key_cmp p.0 s.hi)) h.0) (within_none m s h.1)
  where
    go : (t : Bool) → t ≡ false → within m s ≡ [] → cond t (p ∷ within m s) (within m s) ≡ []
    go true e rest = absurd (cc (e))
    go false e rest = rest

all_behind : (k : List ℕ) (m : Map) → IsRising m → IsBeforeAll k m → AllFrom k m
all_behind k [] r b = tt
all_behind k (p ∷ m) r b = (ap is_lt (turned k p.0 b), all_behind k m r.1 (before_behind k p.0 m b r.0))

-- a span that holds at most the pair where it begins
abbrev Few : List ℕ → Map → Type 0
Few lo [] = Unit {0}
Few lo (p ∷ ps) = (p.0 ≡ lo) × (length p.1 ≤ VALUE_LIMIT) × (ps ≡ [])

record Around (m : Map) (key lo hi : List ℕ) : Type 0 where
  pub from : is_gt (key_cmp lo key) ≡ false
  pub to : key_cmp key hi ≡ Less
  pub lo_short : length lo ≤ KEY_LIMIT
  pub hi_short : length hi ≤ KEY_LIMIT
  pub pairs : Map
  pub its : within m (record { lo = lo; hi = hi }) ≡ pairs
  pub few : Few lo pairs

-- no key of the map is at the key or before it
record NoneUpto (m : Map) (key hi : List ℕ) : Type 0 where
  pub to : key_cmp key hi ≡ Less
  pub hi_short : length hi ≤ KEY_LIMIT
  pub all : AllFrom hi m

-- one is, the last of which begins the span
record LastUpto (m : Map) (key lo hi : List ℕ) : Type 0 where
  pub around : Around m key lo hi
  pub behind : (q : List ℕ) → IsBeforeAll q m → key_cmp q lo ≡ Less

data Upto (m : Map) (key : List ℕ) : Type 0 where
  NoKey : (hi : List ℕ) → NoneUpto m key hi → Upto m key
  SomeKey : (lo hi : List ℕ) → LastUpto m key lo hi → Upto m key

-- the first pair is the last upto the key
first_last : (p : List ℕ × List ℕ) (m : Map) (key hi : List ℕ) → PairFits p → is_gt (key_cmp p.0 key) ≡ false → NoneUpto m key hi → LastUpto (p ∷ m) key p.0 hi
first_last p m key hi fits low n = record {
  around = record { from = low; to = n.to; lo_short = fits.0; hi_short = n.hi_short; pairs = p ∷ []; its = its; few = (refl, fits.1, refl) };
  behind = λ q b. b;
}
  where
    its : within (p ∷ m) (record { lo = p.0; hi = hi }) ≡ p ∷ []
    its = rw (itself p.0, under p.0 key hi low n.to) (ap (λ rest. p ∷ rest) (within_none m (record { lo = p.0; hi = hi }) n.all))

-- it is before the last
later_last : (p : List ℕ × List ℕ) (m : Map) (key lo hi : List ℕ) → IsBeforeAll p.0 m → LastUpto m key lo hi → LastUpto (p ∷ m) key lo hi
later_last p m key lo hi b l = record {
  around = record { from = l.around.from; to = l.around.to; lo_short = l.around.lo_short; hi_short = l.around.hi_short; pairs = l.around.pairs; its = its; few = l.around.few };
  behind = λ q first. nat_list_cmp_total.trans q p.0 lo first (l.behind p.0 b);
}
  where
    its : within (p ∷ m) (record { lo = lo; hi = hi }) ≡ l.around.pairs
    its = rw (turned p.0 lo (l.behind p.0 b)) l.around.its

upto : (m : Map) (key : List ℕ) → IsRising m → MapFits m → key_cmp key (255 ∷ []) ≡ Less → Upto m key
upto [] key r fits below = NoKey (255 ∷ []) (record { to = below; hi_short = omega arith; all = tt })
upto (p ∷ m) key r fits below = go (key_cmp key p.0) refl (upto m key r.1 fits.1 below)
  where
    on : is_gt (key_cmp p.0 key) ≡ false → Upto m key → Upto (p ∷ m) key
    on low (NoKey hi n) = SomeKey p.0 hi (first_last p m key hi fits.0 low n)
    on low (SomeKey lo hi l) = SomeKey lo hi (later_last p m key lo hi r.0 l)

    go : (o : Ordering) → key_cmp key p.0 ≡ o → Upto m key → Upto (p ∷ m) key
    go Less e rest = NoKey p.0 (record { to = e; hi_short = fits.0.0; all = (ap is_lt (itself p.0), all_behind p.0 m r.1 r.0) })
    go Equal e rest = on (ap is_gt (nat_list_cmp_total.antisymm p.0 key ∙ ap ordering_reverse e)) rest
    go Greater e rest = on (ap is_gt (nat_list_cmp_total.antisymm p.0 key ∙ ap ordering_reverse e)) rest

empty_low : (key : List ℕ) → is_gt (key_cmp [] key) ≡ false
empty_low [] = refl
empty_low (x ∷ xs) = refl

around : (m : Map) (key : List ℕ) → Upto m key → (lo hi : List ℕ) × Around m key lo hi
around m key (NoKey hi n) = (
  [],
  hi,
  record {
    from = empty_low key;
    to = n.to;
    lo_short = omega arith;
    hi_short = n.hi_short;
    pairs = [];
    its = within_none m (record { lo = []; hi = hi }) n.all;
    few = tt;
  },
)
around m key (SomeKey lo hi l) = (lo, hi, l.around)

-- the pair of a run
abbrev as_pair : List ℕ × List ℕ → Pair
as_pair p = record { key = p.0; value = p.1 }

abbrev run_of : List ℕ → List ℕ → Map → Run
run_of lo hi pairs = record { span = record { lo = lo; hi = hi }; pairs = map as_pair pairs }

pairs_back : (lo hi : List ℕ) (ps : Map) → pairs_of (run_of lo hi ps) ≡ ps
pairs_back lo hi [] = refl
pairs_back lo hi (p ∷ ps) = ap (λ rest. p ∷ rest) (pairs_back lo hi ps)

rises : (lo : List ℕ) (ps : Map) → Few lo ps → PairsRise (map as_pair ps)
rises lo [] few = tt
rises lo (p ∷ ps) few = subst (λ rest. PairsRise (as_pair p ∷ map as_pair rest)) (sym few.2) (tt, tt)

begins : (lo hi : List ℕ) → key_cmp lo hi ≡ Less → IsIn lo hi lo
begins lo hi e = record { from = λ g. absurd (cc (itself lo, g)); to = e }

inside : (lo hi : List ℕ) (ps : Map) → Few lo ps → key_cmp lo hi ≡ Less → AllByRecursion (λ p. IsIn lo hi p.key) (map as_pair ps)
inside lo hi [] few e = tt
inside lo hi (p ∷ ps) few e =
    subst (λ rest. AllByRecursion (λ p. IsIn lo hi p.key) (as_pair p ∷ map as_pair rest)) (sym few.2) (subst (λ k. IsIn lo hi k) (sym few.0) (begins lo hi e), tt)

pairs_short : (lo : List ℕ) (ps : Map) → Few lo ps → length lo ≤ KEY_LIMIT → length (pairs_bytes (map as_pair ps)) ≤ 3504
pairs_short lo [] few short = omega arith
pairs_short lo (p ∷ ps) few short = subst (λ rest. length (pairs_bytes (as_pair p ∷ map as_pair rest)) ≤ 3504) (sym few.2) one
  where
    one : length (pair_bytes (as_pair p) ++ []) ≤ 3504
    one = omega (arith, length-append (pair_bytes (as_pair p)) [], pair_length (as_pair p), list_length p.0, list_length p.1, ap length few.0, short, few.1)

run_short : (lo hi : List ℕ) (ps : Map) → Few lo ps → length lo ≤ KEY_LIMIT → length hi ≤ KEY_LIMIT → length (block_bytes (run_of lo hi ps)) ≤ 8192
run_short lo hi ps few lo_short hi_short =
    omega (arith, block_length (run_of lo hi ps), list_length lo, list_length hi, pairs_short lo ps few lo_short, lo_short, hi_short)

built : (es : List Entry) (key lo hi : List ℕ) → Around (fold es).pairs key lo hi → FetchRun es key
built es key lo hi a = record {
  run = run_of lo hi a.pairs;
  block = block_bytes (run_of lo hi a.pairs);
  covered = covered;
  is_true = pairs_back lo hi a.pairs ∙ (sym a.its ∙ ap (λ l. within (fold l).pairs (record { lo = lo; hi = hi })) (sym (take_all (length es) es (omega arith))));
  in_bytes = record {
    has_block = record { span = under lo key hi a.from a.to; rising = rises lo a.pairs a.few; within = inside lo hi a.pairs a.few (under lo key hi a.from a.to) };
    written = refl;
    limit = run_short lo hi a.pairs a.few a.lo_short a.hi_short;
  };
}
  where
    covered : covers key (run_of lo hi a.pairs) ≡ true
    covered = rw (a.from, a.to) refl

pub fetch_finds_run : FetchFindsRun
fetch_finds_run es key o below =
    let a = around (fold es).pairs key (upto (fold es).pairs key (fold_rises es) (ordered_fits es o) below) in
    built es key a.0 a.1 a.2
