-- What several acts make of the holds in force: none of them is a save, and each of the sessions that are left out is released.
use Rattle.std.proofs.Common.{◌≡◌, ◌⊎◌, ◌≤◌, inl, inr, ℕ, zero, suc, Bool, true, false, List, [], ◌∷◌, drop, take, map, refl, sym, ◌∙◌, ap, subst, arith, ◌==◌, ◌&&◌, ◌||◌, not, if◌then◌else◌}
use Rattle.std.specs.List.{list_any, AllByRecursion}
use Rattle.std.proofs.lemmas.Bool.{and_parts, eq-eqb, eqb-true, false≢true}
use Rattle.plain_orders.specs.declared.act.Act.{Act}
use Rattle.plain_orders.specs.declared.act.Act.TheVariants.{Opened, Enter, Synced, Shut, Release, Met, Told, Back, Crash, Issue, Read, Grant, Granted, GiveUp, Quit, Free, Counted, NotWhole, Range, Committed, RolledBack, Reached, Level, Done, Refused, Broke, Mended, Tick, Lose, Died}
use Rattle.plain_orders.specs.declared.layout.Layout.{Layout}
use Rattle.plain_orders.specs.Entries.{closes, live}
use Rattle.plain_runs.specs.Plain.{Plain, Server, Hold}
use Rattle.plain_runs.specs.Holds.{binds, released_hold}
use Rattle.plain_runs.specs.LockRows.{releases}
use Rattle.plain_runs.specs.OrderRows.{saved}
use Rattle.plain_runs.specs.Run.{RunFrom, after_all}
use Rattle.plain_runs.specs.Step.{after}
use Rattle.plain_runs.proofs.LockRows.{each_weaker}
use Rattle.plain_runs.proofs.OrderLaws.{row_steps}
use Rattle.plain_runs.proofs.Orders.{Each, OrdersKept, facet}
use Rattle.cluster_invariant.proofs.Small.{put_same}
use Rattle.cluster_promises.specs.Forced.{AllForced, IsForced}
use Rattle.locks_kept.proofs.ForcedRows.{AllForcedBut, ForcedBut, is_save, row_forced}

-- the act releases the session at this server
abbrev pub is_release : ℕ → ℕ → Act → Bool
is_release d q (Opened e entries) = false
is_release d q (Enter e x) = false
is_release d q (Synced e n) = false
is_release d q (Shut e session cause) = false
is_release d q (Release e session) = e == d && session == q
is_release d q (Met app e session) = false
is_release d q (Told app e session epoch kept) = false
is_release d q (Back e) = false
is_release d q (Crash e kept) = false
is_release d q (Issue job line e w item) = false
is_release d q (Read job line e at via question) = false
is_release d q (Grant e session job mode key at) = false
is_release d q (Granted job line e at) = false
is_release d q (GiveUp job line e mode key) = false
is_release d q (Quit job line e mode key) = false
is_release d q (Free e session job mode key) = false
is_release d q (Counted job line e at sum) = false
is_release d q (NotWhole job line e at) = false
is_release d q (Range job line e at) = false
is_release d q (Committed job line e at) = false
is_release d q (RolledBack job line e at) = false
is_release d q (Reached job line e at) = false
is_release d q (Level job line level) = false
is_release d q (Done job line) = false
is_release d q (Refused job line refusal) = false
is_release d q (Broke app e end time) = false
is_release d q (Mended app e) = false
is_release d q (Tick time) = false
is_release d q (Lose app e loss) = false
is_release d q (Died app) = false

-- one of several does
abbrev pub to_release : ℕ → List Act → ℕ → Bool
to_release d acts q = list_any (is_release d q) acts

-- it is that act
its_release : (d q : ℕ) (a : Act) → is_release d q a ≡ true → a ≡ Release d q
its_release d q (Opened e entries) is = absurd (false≢true is)
its_release d q (Enter e x) is = absurd (false≢true is)
its_release d q (Synced e n) is = absurd (false≢true is)
its_release d q (Shut e session cause) is = absurd (false≢true is)
its_release d q (Release e session) is = go (and_parts (e == d) (session == q) is)
  where
    go : ((e == d) ≡ true) × ((session == q) ≡ true) → Release e session ≡ Release d q
    go b = ap (λ (n : ℕ). Release n session) (eqb-true e d b.0) ∙ ap (λ (n : ℕ). Release d n) (eqb-true session q b.1)
its_release d q (Met app e session) is = absurd (false≢true is)
its_release d q (Told app e session epoch kept) is = absurd (false≢true is)
its_release d q (Back e) is = absurd (false≢true is)
its_release d q (Crash e kept) is = absurd (false≢true is)
its_release d q (Issue job line e w item) is = absurd (false≢true is)
its_release d q (Read job line e at via question) is = absurd (false≢true is)
its_release d q (Grant e session job mode key at) is = absurd (false≢true is)
its_release d q (Granted job line e at) is = absurd (false≢true is)
its_release d q (GiveUp job line e mode key) is = absurd (false≢true is)
its_release d q (Quit job line e mode key) is = absurd (false≢true is)
its_release d q (Free e session job mode key) is = absurd (false≢true is)
its_release d q (Counted job line e at sum) is = absurd (false≢true is)
its_release d q (NotWhole job line e at) is = absurd (false≢true is)
its_release d q (Range job line e at) is = absurd (false≢true is)
its_release d q (Committed job line e at) is = absurd (false≢true is)
its_release d q (RolledBack job line e at) is = absurd (false≢true is)
its_release d q (Reached job line e at) is = absurd (false≢true is)
its_release d q (Level job line level) is = absurd (false≢true is)
its_release d q (Done job line) is = absurd (false≢true is)
its_release d q (Refused job line refusal) is = absurd (false≢true is)
its_release d q (Broke app e end time) is = absurd (false≢true is)
its_release d q (Mended app e) is = absurd (false≢true is)
its_release d q (Tick time) is = absurd (false≢true is)
its_release d q (Lose app e loss) is = absurd (false≢true is)
its_release d q (Died app) is = absurd (false≢true is)

-- both ways of saying it of each
abbrev pub none_left : ℕ → Bool
none_left q = false

pub all_but : (leaving : ℕ → Bool) (v : Server) → AllForced v → AllForcedBut leaving v
all_but leaving v k = go v.holds k
  where
    one : (h : Hold) → IsForced v h → ForcedBut leaving v h
    one h forced is = by (forced is)
      where
        by : (live v.order h.session ≡ true) ⊎ (list_any (closes h.session) (drop v.synced v.order) ≡ true)
            → (live v.order h.session ≡ true) ⊎ ((list_any (closes h.session) (drop v.synced v.order) ≡ true) ⊎ (leaving h.session ≡ true))
        by (inl has) = inl has
        by (inr has) = inr (inl has)

    go : (hs : List Hold) → AllByRecursion (IsForced v) hs → Each (ForcedBut leaving v) hs
    go [] k = tt
    go (h ∷ hs) k = (one h k.0, go hs k.1)

pub all_forced : (v : Server) → AllForcedBut none_left v → AllForced v
all_forced v k = go v.holds k
  where
    one : (h : Hold) → ForcedBut none_left v h → IsForced v h
    one h forced is = by (forced is)
      where
        by : (live v.order h.session ≡ true) ⊎ ((list_any (closes h.session) (drop v.synced v.order) ≡ true) ⊎ (false ≡ true))
            → (live v.order h.session ≡ true) ⊎ (list_any (closes h.session) (drop v.synced v.order) ≡ true)
        by (inl has) = inl has
        by (inr (inl has)) = inr has
        by (inr (inr has)) = absurd (false≢true has)

    go : (hs : List Hold) → Each (ForcedBut none_left v) hs → AllByRecursion (IsForced v) hs
    go [] k = tt
    go (h ∷ hs) k = (one h k.0, go hs k.1)

-- what is released

-- no hold of the session is in force
abbrev IsApart : ℕ → Hold → Type 0
IsApart q h = binds h ≡ true → (h.session == q) ≡ false

apart_all : (q : ℕ) (hs : List Hold) → Each (IsApart q) (map (released_hold q) hs)
apart_all q [] = tt
apart_all q (h ∷ hs) = (λ is. go (h.session == q) h.in_force (not h.gone) is, apart_all q hs)
  where
    go : (b f g : Bool) → ((if b then false else f) && g) ≡ true → b ≡ false
    go true f g is = absurd (false≢true is)
    go false f g is = refl

apart_by : (l : Layout) (p : Plain) (a : Act) (e q : ℕ) → is_release e q a ≡ true → Each (IsApart q) ((after l p a).server_at e).holds
apart_by l p a e q is =
    subst (λ (b : Act). Each (IsApart q) ((after l p b).server_at e).holds) (sym (its_release e q a is))
    (subst (λ (s : Server). Each (IsApart q) s.holds) (sym (put_same p.server_at e (releases (p.server_at e) q))) (apart_all q (p.server_at e).holds))

-- an act whose sessions are released need no longer be left out
narrowed : (l : Layout) (p : Plain) (a : Act) (acts : List Act) (e : ℕ)
    → AllForcedBut (to_release e (a ∷ acts)) ((after l p a).server_at e) → AllForcedBut (to_release e acts) ((after l p a).server_at e)
narrowed l p a acts e k = by_places v.holds k (λ q is. apart_by l p a e q is)
  where
    v : Server
    v = (after l p a).server_at e

    one : (h : Hold) → (binds h ≡ true → is_release e h.session a ≡ true → ⊥) → ForcedBut (to_release e (a ∷ acts)) v h → ForcedBut (to_release e acts) v h
    one h apart forced is = by (is_release e h.session a) (apart is) (forced is)
      where
        by : (b : Bool) → (b ≡ true → ⊥)
            → (live v.order h.session ≡ true) ⊎ ((list_any (closes h.session) (drop v.synced v.order) ≡ true) ⊎ ((b || to_release e acts h.session) ≡ true))
            → (live v.order h.session ≡ true) ⊎ ((list_any (closes h.session) (drop v.synced v.order) ≡ true) ⊎ (to_release e acts h.session ≡ true))
        by b never (inl has) = inl has
        by b never (inr (inl has)) = inr (inl has)
        by true never (inr (inr has)) = absurd (never refl)
        by false never (inr (inr has)) = inr (inr has)

    same_not : (q : ℕ) → (q == q) ≡ false → ⊥
    same_not q is = absurd (false≢true (sym is ∙ eq-eqb q q refl))

    by_places : (hs : List Hold) → Each (ForcedBut (to_release e (a ∷ acts)) v) hs → ((q : ℕ) → is_release e q a ≡ true → Each (IsApart q) hs)
        → Each (ForcedBut (to_release e acts) v) hs
    by_places [] k f = tt
    by_places (h ∷ hs) k f = (one h (λ is rel. same_not h.session ((f h.session rel).0 is)) k.0, by_places hs k.1 (λ q is. (f q is).1))

-- Several acts, none of which is a save.
pub acts_forced : (l : Layout) (p : Plain) (acts : List Act) (e : ℕ) → RunFrom l p acts → AllByRecursion (λ a. is_save a ≡ false) acts
    → OrdersKept (facet (p.server_at e)) → AllForcedBut (to_release e acts) (p.server_at e) → AllForced ((after_all l p acts).server_at e)
acts_forced l p [] e run other o k = all_forced (p.server_at e) k
acts_forced l p (a ∷ acts) e run other o k =
    acts_forced l (after l p a) acts e run.1 other.1 (row_steps l p a run.0 e o).0
    (narrowed l p a acts e (row_forced (to_release e (a ∷ acts)) l p a run.0 other.0 e o k))

-- a save

-- what stands in one part of a list stands in it
any_cut : {X : Type 0} (p : X → Bool) (n : ℕ) (xs : List X) → list_any p xs ≡ true → (list_any p (take n xs) ≡ true) ⊎ (list_any p (drop n xs) ≡ true)
any_cut p zero xs is = inr is
any_cut p (suc n) [] is = absurd (false≢true is)
any_cut p (suc n) (x ∷ xs) is = go (p x) is (any_cut p n xs)
  where
    go : (b : Bool) → (b || list_any p xs) ≡ true → (list_any p xs ≡ true → (list_any p (take n xs) ≡ true) ⊎ (list_any p (drop n xs) ≡ true))
        → ((b || list_any p (take n xs)) ≡ true) ⊎ (list_any p (drop n xs) ≡ true)
    go true is more = inl refl
    go false is more = more is

-- what stands behind a place stands before a later one or behind it
pub any_between : {X : Type 0} (p : X → Bool) (k n : ℕ) (xs : List X) → k ≤ n → list_any p (drop k xs) ≡ true
    → (list_any p (drop k (take n xs)) ≡ true) ⊎ (list_any p (drop n xs) ≡ true)
any_between p zero n xs low is = any_cut p n xs is
any_between p (suc k) zero xs low is = absurd (omega (arith, low))
any_between p (suc k) (suc n) [] low is = absurd (false≢true is)
any_between p (suc k) (suc n) (x ∷ xs) low is = any_between p k n xs (omega (arith, low)) is

-- what stands behind a place stands behind each earlier one
pub any_behind : {X : Type 0} (p : X → Bool) (j k : ℕ) (xs : List X) → j ≤ k → list_any p (drop k xs) ≡ true → list_any p (drop j xs) ≡ true
any_behind p zero zero xs low is = is
any_behind p zero (suc k) [] low is = is
any_behind p zero (suc k) (x ∷ xs) low is = go (p x) (any_behind p zero k xs (omega arith) is)
  where
    go : (b : Bool) → list_any p xs ≡ true → (b || list_any p xs) ≡ true
    go true is = refl
    go false is = is
any_behind p (suc j) zero xs low is = absurd (omega (arith, low))
any_behind p (suc j) (suc k) [] low is = is
any_behind p (suc j) (suc k) (x ∷ xs) low is = any_behind p j k xs (omega (arith, low)) is

-- A save leaves out the sessions whose Close it covers.
pub saved_forced : (leaving : ℕ → Bool) (s : Server) (n : ℕ) → s.synced ≤ n
    → ((q : ℕ) → list_any (closes q) (drop s.synced (take n s.order)) ≡ true → leaving q ≡ true) → AllForced s → AllForcedBut leaving (saved s n)
saved_forced leaving s n low covers k = each_weaker (ForcedBut none_left s) (ForcedBut leaving (saved s n)) one s.holds (all_but none_left s k)
  where
    one : (h : Hold) → ForcedBut none_left s h → ForcedBut leaving (saved s n) h
    one h forced is = go (forced is)
      where
        by : (list_any (closes h.session) (drop s.synced (take n s.order)) ≡ true) ⊎ (list_any (closes h.session) (drop n s.order) ≡ true)
            → (live s.order h.session ≡ true) ⊎ ((list_any (closes h.session) (drop n s.order) ≡ true) ⊎ (leaving h.session ≡ true))
        by (inl has) = inr (inr (covers h.session has))
        by (inr has) = inr (inl has)

        go : (live s.order h.session ≡ true) ⊎ ((list_any (closes h.session) (drop s.synced s.order) ≡ true) ⊎ (false ≡ true))
            → (live s.order h.session ≡ true) ⊎ ((list_any (closes h.session) (drop n s.order) ≡ true) ⊎ (leaving h.session ≡ true))
        go (inl has) = inl has
        go (inr (inl has)) = by (any_between (closes h.session) s.synced n s.order low has)
        go (inr (inr has)) = absurd (false≢true has)
