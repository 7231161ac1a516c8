-- What the acts of a data server's step make of what was entered: each Open is entered in the current order, and nothing counts of a session
-- that wasn't met.
use Rattle.std.proofs.Common.{◌≡◌, ◌≢◌, ◌≤◌, ◌⊎◌, inl, inr, ℕ, ◌+◌, ◌==◌, if◌then◌else◌, Bool, true, false, List, [], ◌∷◌, ◌++◌, append_assoc, append-nil, length, map, max, Option, Some, None, is_some, refl, sym, ◌∙◌, ap, subst, arith}
use Rattle.std.specs.Prelude.{◌&&◌, nat_lt}
use Rattle.std.specs.List.{AllByRecursion}
use Rattle.std.proofs.lemmas.Bool.{eq-eqb, eqb-true, false≢true, ne_eqb}
use Rattle.std.proofs.lemmas.List.{length-append}
use Rattle.plain_orders.specs.declared.act.Act.{Act}
use Rattle.plain_orders.specs.declared.act.Act.TheVariants.{Opened as OpenedAct, Enter, Synced, Shut, Release, Met, Told, Back, Crash, Issue, Read, Grant, Granted, GiveUp, Quit, Free, Counted, NotWhole, Range, Committed, RolledBack, Reached, Level, Done, Refused, Broke, Mended, Tick, Lose, Died}
use Rattle.plain_orders.specs.declared.causes.PairEnd.{PairEnd}
use Rattle.plain_orders.specs.declared.causes.PairEnd.TheVariants.{App as AppSide, Server as ServerSide}
use Rattle.plain_orders.specs.declared.entry.Entry.{Entry}
use Rattle.plain_orders.specs.declared.entry.Entry.TheVariants.{Epoch, Opened, Closed, Update, Commit, Rollback}
use Rattle.plain_orders.specs.declared.layout.Layout.{Layout}
use Rattle.plain_orders.specs.Entries.{count, entry_at, w_in}
use Rattle.plain_orders.specs.Sessions.{app_in}
use Rattle.plain_orders.proofs.EntryLemmas.{app_from-push, count-push}
use Rattle.plain_orders.proofs.Places.{entry_append, entry_last, entry_low}
use Rattle.plain_runs.specs.Plain.{Plain, Server, Session as PlainSession, Entered, current}
use Rattle.plain_runs.specs.EndRows.{broke, shut}
use Rattle.plain_runs.specs.LockRows.{frees, grants, releases}
use Rattle.plain_runs.specs.OrderRows.{EnterMay, ItemMay, came_back, entered, saved}
use Rattle.plain_runs.specs.Step.{MayCome, after}
use Rattle.plain_runs.specs.Run.{RunFrom, after_all}
use Rattle.plain_runs.proofs.RunLemmas.{at_put}
use Rattle.data_rules.specs.DataState.{DataState}
use Rattle.data_rules.specs.declared.data_in.DataIn.{DataIn}
use Rattle.data_rules.specs.declared.data_in.DataIn.TheVariants as data_in
use Rattle.data_rules.specs.Puts.{begun}
use Rattle.data_rules.specs.Saving.{writes_synced}
use Rattle.cluster_runs.specs.Steps.{is_raised, raised}
use Rattle.cluster_invariant.specs.Words.{IsFront}
use Rattle.cluster_invariant.proofs.Deeds.{Deed, Enters, Closes, Releases, ComesBack, Grants, Frees, Breaks, act_of}
use Rattle.cluster_invariant.proofs.PieceMay.{begins}

-- an Open in the current order
abbrev pub opened_in : Server → ℕ → Option Entered
opened_in v app = Some (record { app = app; in_order = current v; lost_since = false })

-- what a data server's acts make of its plain server
pub record GoesBy (v u : Server) : Type 0 where
  pub past : u.past ≡ v.past
  pub goes : IsFront v.order u.order
  -- what was entered stays
  pub low : (s : ℕ) → s ≤ length v.order → u.entered_at s ≡ v.entered_at s
  -- an Open stood before, or is entered at its place
  pub fresh : (s app : ℕ) → app_in u.order s ≡ Some app → (app_in v.order s ≡ Some app) ⊎ ((u.entered_at s ≡ opened_in v app) × (entry_at u.order s ≡ Some (Opened s app)))
  -- a session that wasn't met isn't met, and nothing more counts of it
  pub unmet : (s : ℕ) → v.session_at s ≡ None → u.session_at s ≡ None
  pub counts : (s : ℕ) → v.session_at s ≡ None → count u.order s ≡ count v.order s

pub goes_still : (v u : Server) → u.past ≡ v.past → u.order ≡ v.order → u.entered_at ≡ v.entered_at → u.session_at ≡ v.session_at → GoesBy v u
goes_still v u past order ent met = record {
  past = past;
  goes = ([], order ∙ sym (append-nil v.order));
  low = λ s under. ap (λ (f : ℕ → Option Entered). f s) ent;
  fresh = λ s app is. inl (ap (λ (es : List Entry). app_in es s) (sym order) ∙ is);
  unmet = λ s none. ap (λ (f : ℕ → Option PlainSession). f s) met ∙ none;
  counts = λ s none. ap (λ (es : List Entry). count es s) order;
}

goes_same : (v : Server) → GoesBy v v
goes_same v = goes_still v v refl refl refl refl

goes_then : (v u t : Server) → GoesBy v u → GoesBy u t → GoesBy v t
goes_then v u t a b = record {
  past = b.past ∙ a.past;
  goes = (a.goes.0 ++ b.goes.0, b.goes.1 ∙ ap (λ (es : List Entry). es ++ b.goes.0) a.goes.1 ∙ append_assoc v.order a.goes.0 b.goes.0);
  low = λ s under. b.low s (omega (arith, under, longer)) ∙ a.low s under;
  fresh = λ s app is. go s app (b.fresh s app is);
  unmet = λ s none. b.unmet s (a.unmet s none);
  counts = λ s none. b.counts s (a.unmet s none) ∙ a.counts s none;
}
  where
    longer : length v.order ≤ length u.order
    longer = subst (λ (es : List Entry). length v.order ≤ length es) (sym a.goes.1) (omega (arith, length-append v.order a.goes.0))

    now : (app : ℕ) → opened_in u app ≡ opened_in v app
    now app = ap (λ (xs : List (List Entry)). Some (record { app = app; in_order = length xs; lost_since = false })) a.past

    by : (s app : ℕ) → (app_in v.order s ≡ Some app) ⊎ ((u.entered_at s ≡ opened_in v app) × (entry_at u.order s ≡ Some (Opened s app)))
        → (app_in v.order s ≡ Some app) ⊎ ((t.entered_at s ≡ opened_in v app) × (entry_at t.order s ≡ Some (Opened s app)))
    by s app (inl was) = inl was
    by s app (inr there) = inr (
      b.low s (entry_low u.order (Opened s app) s there.1) ∙ there.0,
      subst (λ (es : List Entry). entry_at es s ≡ Some (Opened s app)) (sym b.goes.1) (entry_append u.order b.goes.0 (Opened s app) s there.1),
    )

    go : (s app : ℕ) → (app_in u.order s ≡ Some app) ⊎ ((t.entered_at s ≡ opened_in u app) × (entry_at t.order s ≡ Some (Opened s app)))
        → (app_in v.order s ≡ Some app) ⊎ ((t.entered_at s ≡ opened_in v app) × (entry_at t.order s ≡ Some (Opened s app)))
    go s app (inl was) = by s app (a.fresh s app was)
    go s app (inr new) = inr (new.0 ∙ now app, new.1)

-- an entry that opens no session
goes_push : (v u : Server) (e : Entry) → u.past ≡ v.past → u.order ≡ v.order ++ e ∷ [] → u.entered_at ≡ v.entered_at → u.session_at ≡ v.session_at
    → ((s : ℕ) → app_in (v.order ++ e ∷ []) s ≡ app_in v.order s) → ((s : ℕ) → v.session_at s ≡ None → w_in s e ≡ 0) → GoesBy v u
goes_push v u e past order ent met apps none = record {
  past = past;
  goes = (e ∷ [], order);
  low = λ s under. ap (λ (f : ℕ → Option Entered). f s) ent;
  fresh = λ s app is. inl (sym (apps s) ∙ ap (λ (es : List Entry). app_in es s) (sym order) ∙ is);
  unmet = λ s unmet. ap (λ (f : ℕ → Option PlainSession). f s) met ∙ unmet;
  counts = λ s unmet. ap (λ (es : List Entry). count es s) order ∙ count-push v.order e s ∙ nothing (count v.order s) (w_in s e) (none s unmet);
}
  where
    nothing : (n k : ℕ) → k ≡ 0 → max n k ≡ n
    nothing n k is = omega (arith, is)

first_true : (a b : Bool) → (a && b) ≡ true → a ≡ true
first_true true b is = refl
first_true false b is = is

-- an item's session was met
item_met : (v : Server) (session w : ℕ) (e : Entry) → ItemMay v session w e → (s : ℕ) → v.session_at s ≡ None → session ≢ s
item_met v session w e may s none same =
    false≢true (sym (ap (λ (o : Option PlainSession). is_some o) none) ∙ ap (λ (n : ℕ). is_some (v.session_at n)) (sym same)
    ∙ first_true (is_some (v.session_at session)) _ may.told)

elsewhere : (session s w : ℕ) → session ≢ s → (if session == s then w else 0) ≡ 0
elsewhere session s w apart = ap (λ (b : Bool). if b then w else 0) (ne_eqb session s apart)

enters_go : (l : Layout) (clock : ℕ) (v : Server) (e : Entry) → EnterMay l clock v e → GoesBy v (entered v e)
enters_go l clock v (Epoch number) may = absurd may
enters_go l clock v (Opened session app) may = record {
  past = refl;
  goes = (Opened session app ∷ [], refl);
  low = λ s under. ap (λ (b : Bool). if b then opened_in v app else v.entered_at s) (ne_eqb s session (λ same. (let place : session ≡ length v.order + 1 = may.place in absurd (omega (arith, same, place, under)))));
  fresh = λ s a is. fresh s a (session == s) refl (sym (app_from-push None v.order (Opened session app) s) ∙ is);
  unmet = λ s none. none;
  counts = λ s none. count-push v.order (Opened session app) s ∙ nothing (count v.order s);
}
  where
    nothing : (n : ℕ) → max n 0 ≡ n
    nothing n = omega arith

    some_app : (a b : ℕ) → Some a ≡ Some b → a ≡ b
    some_app a b same = cc

    new : (s a : ℕ) → session ≡ s → app ≡ a → ((entered v (Opened session app)).entered_at s ≡ opened_in v a) × (entry_at (v.order ++ Opened session app ∷ []) s ≡ Some (Opened s a))
    new s a same its = (
      ap (λ (b : Bool). if b then opened_in v app else v.entered_at s) (eq-eqb s session (sym same)) ∙ ap (opened_in v) its,
      entry_last v.order (Opened session app) s (sym same ∙ may.place) ∙ ap (λ (n : ℕ). Some (Opened n app)) same ∙ ap (λ (n : ℕ). Some (Opened s n)) its,
    )

    fresh : (s a : ℕ) (b : Bool) → (session == s) ≡ b → (if b then Some app else app_in v.order s) ≡ Some a
        → (app_in v.order s ≡ Some a) ⊎ (((entered v (Opened session app)).entered_at s ≡ opened_in v a) × (entry_at (v.order ++ Opened session app ∷ []) s ≡ Some (Opened s a)))
    fresh s a true same is = inr (new s a (eqb-true session s same) (some_app app a is))
    fresh s a false other is = inl is
enters_go l clock v (Closed session) may = absurd may
enters_go l clock v (Update session w job txn op) may =
    goes_push v (entered v (Update session w job txn op)) (Update session w job txn op) refl refl refl refl (λ s. app_from-push None v.order (Update session w job txn op) s)
    (λ s none. elsewhere session s w (item_met v session w (Update session w job txn op) may s none))
enters_go l clock v (Commit session w job txn) may =
    goes_push v (entered v (Commit session w job txn)) (Commit session w job txn) refl refl refl refl (λ s. app_from-push None v.order (Commit session w job txn) s)
    (λ s none. elsewhere session s w (item_met v session w (Commit session w job txn) may s none))
enters_go l clock v (Rollback session w job txn) may =
    goes_push v (entered v (Rollback session w job txn)) (Rollback session w job txn) refl refl refl refl (λ s. app_from-push None v.order (Rollback session w job txn) s)
    (λ s none. elsewhere session s w (item_met v session w (Rollback session w job txn) may s none))

-- acts of a data server's step
abbrev pub is_own : Act → Bool
is_own (OpenedAct e entries) = false
is_own (Enter e x) = true
is_own (Synced e n) = true
is_own (Shut e session cause) = true
is_own (Release e session) = true
is_own (Met a e session) = false
is_own (Told a e session epoch kept) = false
is_own (Back e) = true
is_own (Crash e kept) = false
is_own (Issue job line e w item) = false
is_own (Read job line e at via question) = false
is_own (Grant e session job mode key at) = true
is_own (Granted job line e at) = false
is_own (GiveUp job line e mode key) = false
is_own (Quit job line e mode key) = false
is_own (Free e session job mode key) = true
is_own (Counted job line e at sum) = false
is_own (NotWhole job line e at) = false
is_own (Range job line e at) = false
is_own (Committed job line e at) = false
is_own (RolledBack job line e at) = false
is_own (Reached job line e at) = false
is_own (Level job line level) = false
is_own (Done job line) = false
is_own (Refused job line refusal) = false
is_own (Broke a e end time) = true
is_own (Mended a e) = false
is_own (Tick time) = false
is_own (Lose a e loss) = false
is_own (Died a) = false

broke_goes : (v : Server) (a : ℕ) (end : PairEnd) (time : ℕ) → GoesBy v (broke v a end time)
broke_goes v a AppSide time = goes_still v (broke v a AppSide time) refl refl refl refl
broke_goes v a ServerSide time = goes_still v (broke v a ServerSide time) refl refl refl refl

row_goes : (l : Layout) (p : Plain) (a : Act) → is_own a ≡ true → MayCome l p a → (d : ℕ) → GoesBy (p.server_at d) ((after l p a).server_at d)
row_goes l p (OpenedAct e entries) own may d = absurd (false≢true own)
row_goes l p (Enter e x) own may d = at_put GoesBy p.server_at e (entered (p.server_at e) x) goes_same (enters_go l p.clock (p.server_at e) x may) d
row_goes l p (Synced e n) own may d = at_put GoesBy p.server_at e (saved (p.server_at e) n) goes_same (goes_still (p.server_at e) (saved (p.server_at e) n) refl refl refl refl) d
row_goes l p (Shut e session cause) own may d =
    at_put GoesBy p.server_at e (shut (p.server_at e) session) goes_same
    (goes_push (p.server_at e) (shut (p.server_at e) session) (Closed session) refl refl refl refl (λ s. app_from-push None (p.server_at e).order (Closed session) s) (λ s none. refl)) d
row_goes l p (Release e session) own may d =
    at_put GoesBy p.server_at e (releases (p.server_at e) session) goes_same (goes_still (p.server_at e) (releases (p.server_at e) session) refl refl refl refl) d
row_goes l p (Met a e session) own may d = absurd (false≢true own)
row_goes l p (Told a e session epoch kept) own may d = absurd (false≢true own)
row_goes l p (Back e) own may d = at_put GoesBy p.server_at e (came_back (p.server_at e)) goes_same (goes_still (p.server_at e) (came_back (p.server_at e)) refl refl refl refl) d
row_goes l p (Crash e kept) own may d = absurd (false≢true own)
row_goes l p (Issue job line e w item) own may d = absurd (false≢true own)
row_goes l p (Read job line e at via question) own may d = absurd (false≢true own)
row_goes l p (Grant e session job mode key at) own may d =
    at_put GoesBy p.server_at e (grants (p.server_at e) session job mode key at) goes_same
    (goes_still (p.server_at e) (grants (p.server_at e) session job mode key at) refl refl refl refl) d
row_goes l p (Granted job line e at) own may d = absurd (false≢true own)
row_goes l p (GiveUp job line e mode key) own may d = absurd (false≢true own)
row_goes l p (Quit job line e mode key) own may d = absurd (false≢true own)
row_goes l p (Free e session job mode key) own may d =
    at_put GoesBy p.server_at e (frees (p.server_at e) session job mode key) goes_same (goes_still (p.server_at e) (frees (p.server_at e) session job mode key) refl refl refl refl) d
row_goes l p (Counted job line e at sum) own may d = absurd (false≢true own)
row_goes l p (NotWhole job line e at) own may d = absurd (false≢true own)
row_goes l p (Range job line e at) own may d = absurd (false≢true own)
row_goes l p (Committed job line e at) own may d = absurd (false≢true own)
row_goes l p (RolledBack job line e at) own may d = absurd (false≢true own)
row_goes l p (Reached job line e at) own may d = absurd (false≢true own)
row_goes l p (Level job line level) own may d = absurd (false≢true own)
row_goes l p (Done job line) own may d = absurd (false≢true own)
row_goes l p (Refused job line refusal) own may d = absurd (false≢true own)
row_goes l p (Broke a e end time) own may d = at_put GoesBy p.server_at e (broke (p.server_at e) a end time) goes_same (broke_goes (p.server_at e) a end time) d
row_goes l p (Mended a e) own may d = absurd (false≢true own)
row_goes l p (Tick time) own may d = absurd (false≢true own)
row_goes l p (Lose a e loss) own may d = absurd (false≢true own)
row_goes l p (Died a) own may d = absurd (false≢true own)

abbrev pub AllOwn : List Act → Type 0
AllOwn acts = AllByRecursion (λ a. is_own a ≡ true) acts

-- Several such acts.
pub rows_go : (l : Layout) (p : Plain) (acts : List Act) → AllOwn acts → RunFrom l p acts → (d : ℕ) → GoesBy (p.server_at d) ((after_all l p acts).server_at d)
rows_go l p [] own run d = goes_same (p.server_at d)
rows_go l p (a ∷ acts) own run d =
    goes_then (p.server_at d) ((after l p a).server_at d) ((after_all l (after l p a) acts).server_at d) (row_goes l p a own.0 run.0 d) (rows_go l (after l p a) acts own.1 run.1 d)

-- the acts of a data server's step are such

deed_owns : (d : ℕ) (x : Deed) → is_own (act_of d x) ≡ true
deed_owns d (Enters e) = refl
deed_owns d (Closes s cause) = refl
deed_owns d (Releases s) = refl
deed_owns d ComesBack = refl
deed_owns d (Grants s j m key at) = refl
deed_owns d (Frees s j m key) = refl
deed_owns d (Breaks app now) = refl

pub deeds_own : (d : ℕ) (ds : List Deed) → AllOwn (map (act_of d) ds)
deeds_own d [] = tt
deeds_own d (x ∷ xs) = (deed_owns d x, deeds_own d xs)

pub both_own : (xs ys : List Act) → AllOwn xs → AllOwn ys → AllOwn (xs ++ ys)
both_own [] ys a b = b
both_own (x ∷ xs) ys a b = (a.0, both_own xs ys a.1 b)

pub begins_own : (old : DataState) (now : ℕ) (input : DataIn) → AllOwn (begins (record { old = old; now = now; input = input })).outs.acts
begins_own old now (data_in.Frame conn up) = tt
begins_own old now (data_in.Connected conn) = tt
begins_own old now (data_in.Broken conn) = tt
begins_own old now data_in.Tick = tt
begins_own old now (data_in.Saved upto) = go (nat_lt old.synced upto)
  where
    go : (rises : Bool) → AllOwn (writes_synced rises upto (begun old)).outs.acts
    go true = (refl, tt)
    go false = tt

pub raised_own : (n : ℕ) (acts : List Act) → AllOwn acts → AllOwn (raised n acts)
raised_own n [] all = tt
raised_own n (a ∷ acts) all = go (is_raised n a) (raised_own n acts all.1)
  where
    go : (b : Bool) → AllOwn (raised n acts) → AllOwn (if b then a ∷ raised n acts else raised n acts)
    go true rest = (all.0, rest)
    go false rest = rest
