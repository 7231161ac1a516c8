-- No two holds in force of different holders conflict.
use Rattle.std.proofs.Common.{◌≡◌, ℕ, zero, suc, ◌≤◌, ◌<◌, List, [], ◌∷◌, ◌++◌, take, refl, subst, sym, ap, ◌∙◌, Bool, true, false, cond, if◌then◌else◌, arith, Some, slice_get, map, ◌&&◌, ◌||◌, ◌==◌, not, ◌⊎◌, inl, inr}
use Rattle.std.specs.List.{list_any}
use Rattle.std.proofs.lemmas.Bool.{eqb-true, and_parts, or_parts, cases_lt}
use Rattle.plain_orders.specs.declared.mode.Mode.{Mode}
use Rattle.plain_orders.specs.declared.mode.Mode.TheVariants.{Exclusive, Shared}
use Rattle.plain_orders.specs.PairMap.{is_under}
use Rattle.plain_orders.specs.Conflict.{is_conflict, modes_conflict, names_overlap}
use Rattle.plain_orders.specs.declared.entry.Entry.{Entry}
use Rattle.plain_orders.specs.declared.entry.Entry.TheVariants.{Epoch, Opened as OpenedEntry, Closed, Update, Commit, Rollback}
use Rattle.plain_orders.specs.declared.act.Act.{Act}
use Rattle.plain_orders.specs.declared.act.Act.TheVariants.{Opened, Enter, Synced, Shut, Release, Met, Told, Back, Crash, Issue, Read, Grant, Granted, GiveUp, Quit, Free, Counted, NotWhole, Range, Committed, RolledBack, Reached, Level, Done, Refused, Broke, Mended, Tick, Lose, Died}
use Rattle.plain_orders.specs.declared.refused.Refused.{Refused as Refusal}
use Rattle.plain_orders.specs.declared.refused.Refused.TheVariants.{NoTransaction, TooDeep, RollbackOnly, LockTimeout, Network}
use Rattle.plain_orders.specs.declared.causes.Loss.{Loss}
use Rattle.plain_orders.specs.declared.causes.Loss.TheVariants.{Reset as ByReset, Expired as ByExpired, NoWay as ByNoWay}
use Rattle.plain_orders.specs.declared.causes.PairEnd.{PairEnd}
use Rattle.plain_orders.specs.declared.causes.PairEnd.TheVariants.{App as AppEnd, Server as ServerEnd}
use Rattle.plain_orders.specs.declared.layout.Layout.{Layout}
use Rattle.plain_orders.specs.Entries.{live}
use Rattle.plain_runs.specs.Plain.{Plain, Server, Hold, Given, start}
use Rattle.plain_runs.specs.OrderRows.{entered}
use Rattle.plain_runs.specs.EndRows.{broke, lost}
use Rattle.plain_runs.specs.JobRows.{refused}
use Rattle.plain_runs.specs.LockRows.{change_first, change_last}
use Rattle.plain_runs.specs.Step.{MayCome, after}
use Rattle.plain_runs.specs.Run.{RunFrom, after_all}
use Rattle.plain_runs.specs.Laws.{NoConflict, server_after}
use Rattle.plain_runs.proofs.RunLemmas.{at_put}
use Rattle.plain_runs.proofs.Orders.{Each}
use Rattle.plain_runs.specs.Holds.{hold_after_crash, hold_after_back, binds, opposes, is_of, answered_hold, released_hold, given_up, freed_hold}

-- the first is in the way of the second
pub record Clash (h k : Hold) : Type 0 where
  pub first : binds h ≡ true
  pub second : binds k ≡ true
  pub other : (h.session ≡ k.session) × (h.job ≡ k.job) → ⊥
  pub conflict : is_conflict h.mode h.key k.mode k.key ≡ true

abbrev pub Apart : Hold → List Hold → Type 0
Apart h ks = Each (λ k. Clash h k → ⊥) ks

abbrev pub NoClash : List Hold → Type 0
NoClash [] = Unit {0}
NoClash (h ∷ hs) = Apart h hs × NoClash hs

-- the same lock of the same holder, which binds only if it did
record IsFaded (k h : Hold) : Type 0 where
  binding : binds k ≡ true → binds h ≡ true
  session : k.session ≡ h.session
  job : k.job ≡ h.job
  mode : k.mode ≡ h.mode
  key : k.key ≡ h.key

faded_same : (h : Hold) → IsFaded h h
faded_same h = record { binding = λ e. e; session = refl; job = refl; mode = refl; key = refl }

same_conflict : (h k h' k' : Hold) → IsFaded h' h → IsFaded k' k → is_conflict h'.mode h'.key k'.mode k'.key ≡ true → is_conflict h.mode h.key k.mode k.key ≡ true
same_conflict h k h' k' f g e =
    subst (λ (m : Mode). is_conflict h.mode h.key m k.key ≡ true) g.mode
    (subst (λ (x : List ℕ). is_conflict h.mode h.key k'.mode x ≡ true) g.key
    (subst (λ (m : Mode). is_conflict m h.key k'.mode k'.key ≡ true) f.mode
    (subst (λ (x : List ℕ). is_conflict h'.mode x k'.mode k'.key ≡ true) f.key e)))

faded_clash : (h h' k k' : Hold) → IsFaded h' h → IsFaded k' k → Clash h' k' → Clash h k
faded_clash h h' k k' f g c = record {
  first = f.binding c.first;
  second = g.binding c.second;
  other = λ same. c.other (f.session ∙ same.0 ∙ sym g.session, f.job ∙ same.1 ∙ sym g.job);
  conflict = same_conflict h k h' k' f g c.conflict;
}

-- each of the first is one of the second, faded
abbrev Fades : List Hold → List Hold → Type 0
Fades [] [] = Unit {0}
Fades [] (h ∷ hs) = ⊥
Fades (k ∷ ks) [] = ⊥
Fades (k ∷ ks) (h ∷ hs) = IsFaded k h × Fades ks hs

fades_same : (hs : List Hold) → Fades hs hs
fades_same [] = tt
fades_same (h ∷ hs) = (faded_same h, fades_same hs)

fades_map : (f : Hold → Hold) → ((h : Hold) → IsFaded (f h) h) → (hs : List Hold) → Fades (map f hs) hs
fades_map f fades [] = tt
fades_map f fades (h ∷ hs) = (fades h, fades_map f fades hs)

fades_first : (p : Hold → Bool) (f : Hold → Hold) → ((h : Hold) → IsFaded (f h) h) → (hs : List Hold) → Fades (change_first p f hs) hs
fades_first p f fades [] = tt
fades_first p f fades (h ∷ hs) = go (p h) (fades_first p f fades hs)
  where
    go : (b : Bool) → Fades (change_first p f hs) hs → Fades (cond b (f h ∷ hs) (h ∷ change_first p f hs)) (h ∷ hs)
    go true r = (fades h, fades_same hs)
    go false r = (faded_same h, r)

fades_last : (p : Hold → Bool) (f : Hold → Hold) → ((h : Hold) → IsFaded (f h) h) → (hs : List Hold) → Fades (change_last p f hs) hs
fades_last p f fades [] = tt
fades_last p f fades (h ∷ hs) = go (list_any p hs) (p h) (fades_last p f fades hs)
  where
    go : (c b : Bool) → Fades (change_last p f hs) hs → Fades (cond c (h ∷ change_last p f hs) (cond b (f h ∷ hs) (h ∷ hs))) (h ∷ hs)
    go true b r = (faded_same h, r)
    go false true r = (fades h, fades_same hs)
    go false false r = (faded_same h, fades_same hs)

apart_fades : (k h : Hold) (ks hs : List Hold) → IsFaded k h → Fades ks hs → Apart h hs → Apart k ks
apart_fades k h [] [] f r a = tt
apart_fades k h [] (y ∷ hs) f r a = tt
apart_fades k h (x ∷ ks) [] f r a = absurd r
apart_fades k h (x ∷ ks) (y ∷ hs) f r a = ((λ c. a.0 (faded_clash h k y x f r.0 c)), apart_fades k h ks hs f r.1 a.1)

no_clash_fades : (ks hs : List Hold) → Fades ks hs → NoClash hs → NoClash ks
no_clash_fades [] [] r n = tt
no_clash_fades [] (h ∷ hs) r n = tt
no_clash_fades (k ∷ ks) [] r n = absurd r
no_clash_fades (k ∷ ks) (h ∷ hs) r n = (apart_fades k h ks hs r.0 r.1 n.0, no_clash_fades ks hs r.1 n.1)

apart_push : (h : Hold) (ks : List Hold) (k : Hold) → Apart h ks → (Clash h k → ⊥) → Apart h (ks ++ k ∷ [])
apart_push h [] k a n = (n, tt)
apart_push h (x ∷ ks) k a n = (a.0, apart_push h ks k a.1 n)

-- what a grant asks keeps it apart from each hold
free_of : (h k : Hold) → (binds h && opposes k.session k.job k.mode k.key h) ≡ false → Clash h k → ⊥
free_of h k free c = go (is_of k.session k.job h) refl
  where
    holder : is_of k.session k.job h ≡ true → (h.session ≡ k.session) × (h.job ≡ k.job)
    holder e = let a = and_parts (h.session == k.session) (h.job == k.job) e in (eqb-true h.session k.session a.0, eqb-true h.job k.job a.1)

    go : (b : Bool) → is_of k.session k.job h ≡ b → ⊥
    go true e = c.other (holder e)
    go false e =
        let left : (true && (not (is_of k.session k.job h) && is_conflict h.mode h.key k.mode k.key)) ≡ false = subst (λ (b : Bool). (b && opposes k.session k.job k.mode k.key h) ≡ false) c.first free in
        let right : (not false && is_conflict h.mode h.key k.mode k.key) ≡ false = subst (λ (b : Bool). (true && (not b && is_conflict h.mode h.key k.mode k.key)) ≡ false) e left in
        absurd (cc (right, c.conflict))

no_clash_push : (hs : List Hold) (k : Hold) → NoClash hs → list_any (λ h. binds h && opposes k.session k.job k.mode k.key h) hs ≡ false → NoClash (hs ++ k ∷ [])
no_clash_push [] k n free = (tt, tt)
no_clash_push (h ∷ hs) k n free =
    let parts = or_parts (binds h && opposes k.session k.job k.mode k.key h) (list_any (λ h. binds h && opposes k.session k.job k.mode k.key h) hs) free in
    (apart_push h hs k n.0 (free_of h k parts.0), no_clash_push hs k n.1 parts.1)

-- what may change of a hold
less_in_force : (b : Bool) (x g : Bool) → ((if b then false else x) && not g) ≡ true → (x && not g) ≡ true
less_in_force true x g e = absurd (cc (e))
less_in_force false x g e = e

only_in_force : (b : Bool) (x g : Bool) → ((if b then x else false) && not g) ≡ true → (x && not g) ≡ true
only_in_force true x g e = e
only_in_force false x g e = absurd (cc (e))

less_there : (x g y : Bool) → (x && not (g || y)) ≡ true → (x && not g) ≡ true
less_there false g y e = e
less_there true true y e = e
less_there true false y e = refl

away_faded : (x : Bool) (h : Hold) → IsFaded (record h { gone = h.gone || x }) h
away_faded x h = record { binding = less_there h.in_force h.gone x; session = refl; job = refl; mode = refl; key = refl }

release_faded : (s : ℕ) (h : Hold) → IsFaded (released_hold s h) h
release_faded s h = record { binding = less_in_force (h.session == s) h.in_force h.gone; session = refl; job = refl; mode = refl; key = refl }

crash_faded : (es : List Entry) (kept : ℕ) (h : Hold) → IsFaded (hold_after_crash es kept h) h
crash_faded es kept h = record { binding = λ e. only_in_force (live es h.session) h.in_force h.gone (less_there _ h.gone _ e); session = refl; job = refl; mode = refl; key = refl }

answer_faded : (h : Hold) → IsFaded (answered_hold h) h
answer_faded h = record { binding = λ e. e; session = refl; job = refl; mode = refl; key = refl }

give_faded : (g : Given) (h : Hold) → IsFaded (given_up g h) h
give_faded g h = record { binding = λ e. e; session = refl; job = refl; mode = refl; key = refl }

abbrev pub Keeps : Server → Server → Type 0
Keeps s t = NoClash s.holds → NoClash t.holds

keep_map : (f : Hold → Hold) → ((h : Hold) → IsFaded (f h) h) → (hs : List Hold) → NoClash hs → NoClash (map f hs)
keep_map f fades hs n = no_clash_fades (map f hs) hs (fades_map f fades hs) n

keep_first : (p : Hold → Bool) (f : Hold → Hold) → ((h : Hold) → IsFaded (f h) h) → (hs : List Hold) → NoClash hs → NoClash (change_first p f hs)
keep_first p f fades hs n = no_clash_fades (change_first p f hs) hs (fades_first p f fades hs) n

keep_last : (p : Hold → Bool) (f : Hold → Hold) → ((h : Hold) → IsFaded (f h) h) → (hs : List Hold) → NoClash hs → NoClash (change_last p f hs)
keep_last p f fades hs n = no_clash_fades (change_last p f hs) hs (fades_last p f fades hs) n

keeps_same : (s : Server) → Keeps s s
keeps_same s n = n

refused_keeps : (p : Plain) (j : ℕ) (r : Refusal) (d : ℕ) → Keeps (p.server_at d) ((refused p j r).server_at d)
refused_keeps p j NoTransaction d = λ n. n
refused_keeps p j TooDeep d = λ n. n
refused_keeps p j RollbackOnly d = λ n. n
refused_keeps p j LockTimeout d = λ n. n
refused_keeps p j (Network e state reason) d = at_put Keeps p.server_at e _ keeps_same (λ n. n) d

entered_keeps : (s : Server) (x : Entry) → Keeps s (entered s x)
entered_keeps s (Epoch number) = λ n. n
entered_keeps s (OpenedEntry session app) = λ n. n
entered_keeps s (Closed session) = λ n. n
entered_keeps s (Update session w job txn op) = λ n. n
entered_keeps s (Commit session w job txn) = λ n. n
entered_keeps s (Rollback session w job txn) = λ n. n

broke_keeps : (s : Server) (app : ℕ) (end : PairEnd) (time : ℕ) → Keeps s (broke s app end time)
broke_keeps s app AppEnd time = λ n. n
broke_keeps s app ServerEnd time = λ n. n

lost_keeps : (l : Layout) (p : Plain) (app d : ℕ) (loss : Loss) (e : ℕ) → Keeps (p.server_at e) ((lost l p app d loss).server_at e)
lost_keeps l p app d (ByReset at) e = at_put Keeps p.server_at d _ keeps_same (λ n. n) e
lost_keeps l p app d (ByExpired time) e = at_put Keeps p.server_at d _ keeps_same (λ n. n) e
lost_keeps l p app d (ByNoWay from to) e = at_put Keeps p.server_at d _ keeps_same (λ n. n) e

pub row_keeps : (l : Layout) (p : Plain) (a : Act) → MayCome l p a → (e : ℕ) → Keeps (p.server_at e) ((after l p a).server_at e)
row_keeps l p (Opened d entries) may e = at_put Keeps p.server_at d _ keeps_same (λ n. n) e
row_keeps l p (Enter d x) may e = at_put Keeps p.server_at d _ keeps_same (entered_keeps (p.server_at d) x) e
row_keeps l p (Synced d n) may e = at_put Keeps p.server_at d _ keeps_same (λ n. n) e
row_keeps l p (Shut d session cause) may e = at_put Keeps p.server_at d _ keeps_same (λ n. n) e
row_keeps l p (Release d session) may e = at_put Keeps p.server_at d _ keeps_same (keep_map _ (release_faded session) (p.server_at d).holds) e
row_keeps l p (Met app d session) may e = at_put Keeps p.server_at d _ keeps_same (λ n. n) e
row_keeps l p (Told app d session epoch kept) may e = at_put Keeps p.server_at d _ keeps_same (λ n. n) e
row_keeps l p (Back d) may e = at_put Keeps p.server_at d _ keeps_same (keep_map (hold_after_back (p.server_at d).order) (λ h. away_faded _ h) (p.server_at d).holds) e
row_keeps l p (Crash d kept) may e = at_put Keeps p.server_at d _ keeps_same (keep_map _ (crash_faded (take kept (p.server_at d).order) kept) (p.server_at d).holds) e
row_keeps l p (Issue job line d w item) may e = at_put Keeps p.server_at d _ keeps_same (λ n. n) e
row_keeps l p (Read job line d at via question) may e = at_put Keeps p.server_at d _ keeps_same (λ n. n) e
row_keeps l p (Grant d session job mode key at) may e = at_put Keeps p.server_at d _ keeps_same (λ n. no_clash_push (p.server_at d).holds _ n may.free) e
row_keeps l p (Granted job line d at) may e = at_put Keeps p.server_at d _ keeps_same (keep_first _ answered_hold answer_faded (p.server_at d).holds) e
row_keeps l p (GiveUp job line d mode key) may e = at_put Keeps p.server_at d _ keeps_same (keep_last _ _ (give_faded _) (p.server_at d).holds) e
row_keeps l p (Quit job line d mode key) may e = at_put Keeps p.server_at d _ keeps_same (keep_first _ _ (give_faded _) (p.server_at d).holds) e
row_keeps l p (Free d session job mode key) may e = at_put Keeps p.server_at d _ keeps_same (keep_map (freed_hold _ session job mode key) (λ h. away_faded _ h) (p.server_at d).holds) e
row_keeps l p (Counted job line d at sum) may e = at_put Keeps p.server_at d _ keeps_same (λ n. n) e
row_keeps l p (NotWhole job line d at) may e = at_put Keeps p.server_at d _ keeps_same (λ n. n) e
row_keeps l p (Range job line d at) may e = at_put Keeps p.server_at d _ keeps_same (λ n. n) e
row_keeps l p (Committed job line d at) may e = at_put Keeps p.server_at d _ keeps_same (λ n. n) e
row_keeps l p (RolledBack job line d at) may e = at_put Keeps p.server_at d _ keeps_same (λ n. n) e
row_keeps l p (Reached job line d at) may e = at_put Keeps p.server_at d _ keeps_same (λ n. n) e
row_keeps l p (Level job line level) may e = λ n. n
row_keeps l p (Done job line) may e = λ n. n
row_keeps l p (Refused job line refusal) may e = refused_keeps p job refusal e
row_keeps l p (Broke app d end time) may e = at_put Keeps p.server_at d _ keeps_same (broke_keeps (p.server_at d) app end time) e
row_keeps l p (Mended app d) may e = at_put Keeps p.server_at d _ keeps_same (λ n. n) e
row_keeps l p (Tick time) may e = λ n. n
row_keeps l p (Lose app d loss) may e = lost_keeps l p app d loss e
row_keeps l p (Died app) may e = λ n. n

pub run_keeps : (l : Layout) (p : Plain) (acts : List Act) → RunFrom l p acts → (e : ℕ) → Keeps (p.server_at e) ((after_all l p acts).server_at e)
run_keeps l p [] run e n = n
run_keeps l p (a ∷ acts) run e n = run_keeps l (after l p a) acts run.1 e (row_keeps l p a run.0 e n)

each_at : {X : Type 0} (P : X → Type 0) (xs : List X) (i : ℕ) (x : X) → Each P xs → slice_get xs i ≡ Some x → P x
each_at P [] i x e g = absurd (cc (g))
each_at P (y ∷ xs) zero x e g = subst P (cc (g)) e.0
each_at P (y ∷ xs) (suc i) x e g = each_at P xs i x e.1 g

clash_at : (hs : List Hold) (i j : ℕ) (h k : Hold) → NoClash hs → slice_get hs i ≡ Some h → slice_get hs j ≡ Some k → i < j → Clash h k → ⊥
clash_at [] i j h k n a b low c = absurd (cc (a))
clash_at (x ∷ hs) i zero h k n a b low c = absurd (omega arith)
clash_at (x ∷ hs) zero (suc j) h k n a b low c = each_at (λ y. Clash x y → ⊥) hs j k n.0 b (subst (λ y. Clash y k) (sym (cc (a))) c)
clash_at (x ∷ hs) (suc i) (suc j) h k n a b low c = clash_at hs i j h k n.1 a b (omega arith) c

-- it doesn't matter which comes first
either : (a b : Bool) → (a || b) ≡ (b || a)
either true true = refl
either true false = refl
either false true = refl
either false false = refl

modes_turned : (m n : Mode) → modes_conflict m n ≡ modes_conflict n m
modes_turned Exclusive Exclusive = refl
modes_turned Exclusive Shared = refl
modes_turned Shared Exclusive = refl
modes_turned Shared Shared = refl

conflict_turned : (m : Mode) (a : List ℕ) (n : Mode) (b : List ℕ) → is_conflict m a n b ≡ is_conflict n b m a
conflict_turned m a n b = ap (λ (x : Bool). x && names_overlap a b) (modes_turned m n) ∙ ap (λ (x : Bool). modes_conflict n m && x) (either (is_under a b) (is_under b a))

pub no_conflict : NoConflict
no_conflict l acts d i j h k run a b apart bh bk other = go (is_conflict h.mode h.key k.mode k.key) refl (cases_lt i j)
  where
    none : NoClash (server_after l acts d).holds
    none = run_keeps l start acts run d tt

    clash : is_conflict h.mode h.key k.mode k.key ≡ true → Clash h k
    clash e = record { first = bh; second = bk; other = other; conflict = e }

    turned : is_conflict h.mode h.key k.mode k.key ≡ true → Clash k h
    turned e = record { first = bk; second = bh; other = λ same. other (sym same.0, sym same.1); conflict = conflict_turned k.mode k.key h.mode h.key ∙ e }

    go : (x : Bool) → is_conflict h.mode h.key k.mode k.key ≡ x → (i < j) ⊎ (j ≤ i) → x ≡ false
    go false e c = refl
    go true e (inl low) = absurd (clash_at (server_after l acts d).holds i j h k none a b low (clash e))
    go true e (inr high) = absurd (clash_at (server_after l acts d).holds j i k h none b a (omega (arith, apart)) (turned e))
