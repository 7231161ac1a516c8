-- What a data server writes and enters: acts of its own, with the entries that go with them.
use Rattle.std.proofs.Common.{◌≡◌, ℕ, List, [], ◌∷◌, ◌++◌, map, length, refl, sym, ◌∙◌, ap}
use Rattle.std.proofs.lemmas.List.{append-nil, append_assoc, map-append}
use Rattle.std.specs.List.{AllByRecursion}
use Rattle.plain_orders.specs.declared.act.Act.{Act}
use Rattle.plain_orders.specs.declared.act.Act.TheVariants as act
use Rattle.plain_orders.specs.declared.causes.PairEnd.TheVariants as ends
use Rattle.plain_orders.specs.declared.causes.ShutCause.{ShutCause}
use Rattle.plain_orders.specs.declared.entry.Entry.{Entry}
use Rattle.plain_orders.specs.declared.entry.Entry.TheVariants.{Epoch, Opened, Closed, Update, Commit, Rollback}
use Rattle.plain_orders.specs.declared.mode.Mode.{Mode}
use Rattle.lock_table.specs.declared.rows.Request.{Request}
use Rattle.lock_table.specs.LockWords.{Freed}
use Rattle.data_rules.specs.DataState.{DataState}
use Rattle.cluster_invariant.specs.Words.{IsFront}
use Rattle.cluster_invariant.proofs.PutLaws.{Appended, appends_state}
use Rattle.data_rules.specs.Puts.{Sofar, becomes, writes}
use Rattle.data_rules.specs.Entering.{enters}
use Rattle.data_rules.specs.Granting.{grants_one, grants, with_locks, locks_become}

-- a deed of a data server: an act of its own
pub data Deed : Type 0 where
  Enters : Entry → Deed
  Closes : ℕ → ShutCause → Deed
  Releases : ℕ → Deed
  ComesBack : Deed
  Grants : ℕ → ℕ → Mode → List ℕ → ℕ → Deed
  Frees : ℕ → ℕ → Mode → List ℕ → Deed
  Breaks : ℕ → ℕ → Deed

-- the act that it writes
abbrev pub act_of : ℕ → Deed → Act
act_of d (Enters e) = act.Enter d e
act_of d (Closes s cause) = act.Shut d s cause
act_of d (Releases s) = act.Release d s
act_of d ComesBack = act.Back d
act_of d (Grants s j m key at) = act.Grant d s j m key at
act_of d (Frees s j m key) = act.Free d s j m key
act_of d (Breaks app now) = act.Broke app d ends.Server now

-- an Open or an item
abbrev pub IsEntered : Entry → Type 0
IsEntered (Epoch number) = ⊥
IsEntered (Opened session app) = Unit {0}
IsEntered (Closed session) = ⊥
IsEntered (Update session w job txn op) = Unit {0}
IsEntered (Commit session w job txn) = Unit {0}
IsEntered (Rollback session w job txn) = Unit {0}

-- only an Open or an item enters by itself
abbrev pub DeedIs : Deed → Type 0
DeedIs (Enters e) = IsEntered e
DeedIs (Closes s cause) = Unit {0}
DeedIs (Releases s) = Unit {0}
DeedIs ComesBack = Unit {0}
DeedIs (Grants s j m key at) = Unit {0}
DeedIs (Frees s j m key) = Unit {0}
DeedIs (Breaks app now) = Unit {0}

-- the order after a deed
abbrev pub order_with : Deed → List Entry → List Entry
order_with (Enters e) es = es ++ e ∷ []
order_with (Closes s cause) es = es ++ Closed s ∷ []
order_with (Releases s) es = es
order_with ComesBack es = es
order_with (Grants s j m key at) es = es
order_with (Frees s j m key) es = es
order_with (Breaks app now) es = es

-- the same after several
abbrev pub order_by : List Deed → List Entry → List Entry
order_by [] es = es
order_by (x ∷ xs) es = order_by xs (order_with x es)

-- an order goes on by deeds

one_grows : (x : Deed) (es : List Entry) → IsFront es (order_with x es)
one_grows (Enters e) es = (e ∷ [], refl)
one_grows (Closes s cause) es = (Closed s ∷ [], refl)
one_grows (Releases s) es = ([], sym (append-nil es))
one_grows ComesBack es = ([], sym (append-nil es))
one_grows (Grants s j m key at) es = ([], sym (append-nil es))
one_grows (Frees s j m key) es = ([], sym (append-nil es))
one_grows (Breaks app now) es = ([], sym (append-nil es))

pub deeds_grow : (xs : List Deed) (es : List Entry) → IsFront es (order_by xs es)
deeds_grow [] es = ([], sym (append-nil es))
deeds_grow (x ∷ xs) es = join (one_grows x es) (deeds_grow xs (order_with x es))
  where
    join : IsFront es (order_with x es) → IsFront (order_with x es) (order_by xs (order_with x es)) → IsFront es (order_by xs (order_with x es))
    join a b = (a.0 ++ b.0, b.1 ∙ ap (λ (fs : List Entry). fs ++ b.0) a.1 ∙ append_assoc es a.0 b.0)

-- nothing is written and the order stays
pub record Still (b c : Sofar) : Type 0 where
  pub acts : c.outs.acts ≡ b.outs.acts
  pub order : c.state.order ≡ b.state.order
  pub synced : c.state.synced ≡ b.state.synced
  pub server : c.state.server ≡ b.state.server
  pub times : c.state.times ≡ b.state.times

-- deeds are written, and the order goes on by them
pub record Does (b c : Sofar) : Type 0 where
  pub deeds : List Deed
  pub may : AllByRecursion DeedIs deeds
  pub acts : c.outs.acts ≡ b.outs.acts ++ map (act_of b.state.server) deeds
  pub order : c.state.order ≡ order_by deeds b.state.order
  pub synced : c.state.synced ≡ b.state.synced
  pub server : c.state.server ≡ b.state.server
  pub times : c.state.times ≡ b.state.times

pub still_same : (b : Sofar) → Still b b
still_same b = record { acts = refl; order = refl; synced = refl; server = refl; times = refl }

pub still_then : (b c e : Sofar) → Still b c → Still c e → Still b e
still_then b c e s t = record {
  acts = t.acts ∙ s.acts;
  order = t.order ∙ s.order;
  synced = t.synced ∙ s.synced;
  server = t.server ∙ s.server;
  times = t.times ∙ s.times;
}

order_by-append : (xs ys : List Deed) (es : List Entry) → order_by (xs ++ ys) es ≡ order_by ys (order_by xs es)
order_by-append [] ys es = refl
order_by-append (x ∷ xs) ys es = order_by-append xs ys (order_with x es)

all_join : (xs ys : List Deed) → AllByRecursion DeedIs xs → AllByRecursion DeedIs ys → AllByRecursion DeedIs (xs ++ ys)
all_join [] ys a b = b
all_join (x ∷ xs) ys a b = (a.0, all_join xs ys a.1 b)

pub does_still : (b c : Sofar) → Still b c → Does b c
does_still b c s = record {
  deeds = [];
  may = tt;
  acts = s.acts ∙ sym (append-nil b.outs.acts);
  order = s.order;
  synced = s.synced;
  server = s.server;
  times = s.times;
}

joined_acts : (xs : List Act) (d e : ℕ) (ds es : List Deed) → e ≡ d
    → (xs ++ map (act_of d) ds) ++ map (act_of e) es ≡ xs ++ map (act_of d) (ds ++ es)
joined_acts xs d e ds es same =
    append_assoc xs (map (act_of d) ds) (map (act_of e) es)
    ∙ ap (λ (k : ℕ). xs ++ (map (act_of d) ds ++ map (act_of k) es)) same
    ∙ ap (λ (ys : List Act). xs ++ ys) (sym (map-append (act_of d) ds es))

pub does_then : (b c e : Sofar) → Does b c → Does c e → Does b e
does_then b c e s t = record {
  deeds = s.deeds ++ t.deeds;
  may = all_join s.deeds t.deeds s.may t.may;
  acts = t.acts ∙ ap (λ (xs : List Act). xs ++ map (act_of c.state.server) t.deeds) s.acts ∙ joined_acts b.outs.acts b.state.server c.state.server s.deeds t.deeds s.server;
  order = t.order ∙ ap (order_by t.deeds) s.order ∙ sym (order_by-append s.deeds t.deeds b.state.order);
  synced = t.synced ∙ s.synced;
  server = t.server ∙ s.server;
  times = t.times ∙ s.times;
}

pub still_does : (b c e : Sofar) → Still b c → Does c e → Does b e
still_does b c e s t = does_then b c e (does_still b c s) t

pub does_then_still : (b c e : Sofar) → Does b c → Still c e → Does b e
does_then_still b c e s t = does_then b c e s (does_still c e t)

-- one deed, and the order with what it enters
pub does_one : (b c : Sofar) (x : Deed) → DeedIs x → c.outs.acts ≡ b.outs.acts ++ act_of b.state.server x ∷ []
    → c.state.order ≡ order_with x b.state.order → c.state.synced ≡ b.state.synced → c.state.server ≡ b.state.server → c.state.times ≡ b.state.times → Does b c
does_one b c x may acts order synced server times =
    record { deeds = x ∷ []; may = (may, tt); acts = acts; order = order; synced = synced; server = server; times = times }

-- entering

pub does_enters : (e : Entry) (b : Sofar) → IsEntered e → Does b (enters e b)
does_enters e b may = go (appends_state e (writes (act.Enter b.state.server e) b))
  where
    go : Appended e (writes (act.Enter b.state.server e) b) (enters e b) → Does b (enters e b)
    go a =
        does_one b (enters e b) (Enters e) may a.acts (ap (λ (d : DataState). d.order) a.state) (ap (λ (d : DataState). d.synced) a.state)
        (ap (λ (d : DataState). d.server) a.state) (ap (λ (d : DataState). d.times) a.state)

-- granting

does_grants : (rs : List Request) (b : Sofar) → Does b (grants rs b)
does_grants [] b = does_still b b (still_same b)
does_grants (r ∷ rs) b =
    does_then b (grants_one r b) (grants rs (grants_one r b))
    (does_one b (grants_one r b) (Grants r.who.session r.who.job r.mode r.name (length b.state.order)) tt refl refl refl refl refl)
    (does_grants rs (grants_one r b))

pub does_locks : (f : Freed) (b : Sofar) → Does b (locks_become f b)
does_locks f b =
    still_does b (becomes (with_locks f.locks) b) (locks_become f b)
    (record { acts = refl; order = refl; synced = refl; server = refl; times = refl }) (does_grants f.grants (becomes (with_locks f.locks) b))
