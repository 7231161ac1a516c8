-- An act leaves each hold that it may not change.
use Rattle.std.proofs.Common.{◌≡◌, ℕ, zero, suc, List, [], ◌∷◌, map, take, refl, subst, sym, ap, ◌∙◌, Bool, true, false, cond, if◌then◌else◌, ◌||◌}
use Rattle.std.proofs.Common.{◌&&◌, not, ◌==◌, Some, slice_get}
use Rattle.std.specs.Prelude.{nat_lt}
use Rattle.std.specs.List.{list_any}
use Rattle.std.proofs.lemmas.Bool.{or_parts}
use Rattle.std.proofs.lemmas.Option.{same_Some}
use Rattle.plain_orders.specs.declared.act.Act.{Act}
use Rattle.plain_orders.specs.declared.act.Act.TheVariants.{Opened, Enter, Synced, Shut, Release, Met, Told, Back, Crash, Issue, Read}
use Rattle.plain_orders.specs.declared.act.Act.TheVariants.{Grant, Granted, GiveUp, Quit, Free, Counted, NotWhole, Range, Committed, RolledBack}
use Rattle.plain_orders.specs.declared.act.Act.TheVariants.{Reached, Level, Done, Refused, Broke, Mended, Tick, Lose, Died}
use Rattle.plain_orders.specs.declared.entry.Entry.{Entry}
use Rattle.plain_orders.specs.declared.layout.Layout.{Layout}
use Rattle.plain_orders.specs.Entries.{live}
use Rattle.plain_orders.proofs.Places.{get_append}
use Rattle.plain_runs.specs.Plain.{Plain, Server, Hold, app_of, pair_session}
use Rattle.plain_runs.specs.Holds.{answered_hold, freed_hold, given_up, hold_after_back, hold_after_crash, is_asked, is_kept}
use Rattle.plain_runs.specs.Holds.{is_sent, is_sent_at, released_hold}
use Rattle.plain_runs.specs.LockRows.{change_first, change_last, first_given, given_now}
use Rattle.plain_runs.specs.Step.{after}
use Rattle.plain_runs.specs.Laws.{IsHold}
use Rattle.plain_runs.proofs.RunLemmas.{at_put}
use Rattle.hold_laws.specs.HoldChanges.{OthersStay, changes_holds, may_change}
use Rattle.hold_laws.proofs.LeftHolds.{others_leave_holds}

-- lists of holds, changed one by one
get_map : (f : Hold → Hold) (hs : List Hold) (i : ℕ) (h : Hold) → f h ≡ h → slice_get hs i ≡ Some h → slice_get (map f hs) i ≡ Some h
get_map f [] i h same is = absurd (cc (is))
get_map f (x ∷ hs) zero h same is = ap (λ (y : Hold). Some (f y)) (same_Some x h is) ∙ ap Some same
get_map f (x ∷ hs) (suc i) h same is = get_map f hs i h same is

get_first : (p : Hold → Bool) (f : Hold → Hold) (hs : List Hold) (i : ℕ) (h : Hold) → p h ≡ false → slice_get hs i ≡ Some h
    → slice_get (change_first p f hs) i ≡ Some h
get_first p f [] i h off is = absurd (cc (is))
get_first p f (x ∷ hs) zero h off is =
    subst (λ (b : Bool). slice_get (cond b (f x ∷ hs) (x ∷ change_first p f hs)) 0 ≡ Some h) (sym (ap p (same_Some x h is) ∙ off)) is
get_first p f (x ∷ hs) (suc i) h off is = go (p x) (get_first p f hs i h off is)
  where
    go : (b : Bool) → slice_get (change_first p f hs) i ≡ Some h → slice_get (cond b (f x ∷ hs) (x ∷ change_first p f hs)) (suc i) ≡ Some h
    go true e = is
    go false e = e

get_last : (p : Hold → Bool) (f : Hold → Hold) (hs : List Hold) (i : ℕ) (h : Hold) → p h ≡ false → slice_get hs i ≡ Some h
    → slice_get (change_last p f hs) i ≡ Some h
get_last p f [] i h off is = absurd (cc (is))
get_last p f (x ∷ hs) zero h off is = go (list_any p hs)
  where
    go : (c : Bool) → slice_get (cond c (x ∷ change_last p f hs) (cond (p x) (f x ∷ hs) (x ∷ hs))) 0 ≡ Some h
    go true = is
    go false = subst (λ (b : Bool). slice_get (cond b (f x ∷ hs) (x ∷ hs)) 0 ≡ Some h) (sym (ap p (same_Some x h is) ∙ off)) is
get_last p f (x ∷ hs) (suc i) h off is = go (list_any p hs) (p x) (get_last p f hs i h off is)
  where
    go : (c b : Bool) → slice_get (change_last p f hs) i ≡ Some h → slice_get (cond c (x ∷ change_last p f hs) (cond b (f x ∷ hs) (x ∷ hs))) (suc i) ≡ Some h
    go true b e = e
    go false true e = is
    go false false e = is

-- a hold that stays as it is

or_false : (a b : Bool) → b ≡ false → (a || b) ≡ a
or_false true b e = refl
or_false false b e = e

same_gone : (h : Hold) (x : Bool) → x ≡ false → record h { gone = h.gone || x } ≡ h
same_gone h x off = ap (λ (b : Bool). record h { gone = b }) (or_false h.gone x off)

same_force : (h : Hold) (b : Bool) → b ≡ h.in_force → record h { in_force = b } ≡ h
same_force h b same = ap (λ (c : Bool). record h { in_force = c }) same

same_released : (session : ℕ) (h : Hold) → (h.session == session && h.in_force) ≡ false → released_hold session h ≡ h
same_released session h off = same_force h (if h.session == session then false else h.in_force) (go (h.session == session) h.in_force off)
  where
    go : (a f : Bool) → (a && f) ≡ false → (if a then false else f) ≡ f
    go true f e = sym e
    go false f e = refl

same_crashed : (es : List Entry) (kept : ℕ) (h : Hold) → ((h.in_force && not (live es h.session)) || (is_sent h && nat_lt kept h.at)) ≡ false
    → hold_after_crash es kept h ≡ h
same_crashed es kept h off =
    let x = or_parts (h.in_force && not (live es h.session)) (is_sent h && nat_lt kept h.at) off in
    ap (λ (b : Bool). record h { in_force = b; gone = h.gone || (is_sent h && nat_lt kept h.at) }) (go (live es h.session) h.in_force x.0)
    ∙ same_gone h (is_sent h && nat_lt kept h.at) x.1
  where
    go : (a f : Bool) → (f && not a) ≡ false → (if a then f else false) ≡ f
    go true f e = refl
    go false true e = absurd (cc (e))
    go false false e = refl

-- each row

abbrev Stays : Layout → Act → Server → Server → Type 0
Stays l a s t = (i : ℕ) (h : Hold) → IsHold s i h → may_change l s a h ≡ false → IsHold t i h

stays_same : (l : Layout) (a : Act) (s : Server) → Stays l a s s
stays_same l a s i h is off = is

left : (l : Layout) (p : Plain) (a : Act) (d : ℕ) → changes_holds a ≡ false → Stays l a (p.server_at d) ((after l p a).server_at d)
left l p a d off i h is _ = subst (λ (hs : List Hold). slice_get hs i ≡ Some h) (sym (others_leave_holds l p a d off).holds) is

row_stays : (l : Layout) (p : Plain) (a : Act) (d : ℕ) → Stays l a (p.server_at d) ((after l p a).server_at d)
row_stays l p (Opened d entries) e = left l p (Opened d entries) e refl
row_stays l p (Enter d entry) e = left l p (Enter d entry) e refl
row_stays l p (Synced d n) e = left l p (Synced d n) e refl
row_stays l p (Shut d session cause) e = left l p (Shut d session cause) e refl
row_stays l p (Release d session) e =
    at_put (Stays l (Release d session)) p.server_at d _ (stays_same l (Release d session))
    (λ i h is off. get_map (released_hold session) (p.server_at d).holds i h (same_released session h off) is) e
row_stays l p (Met app d session) e = left l p (Met app d session) e refl
row_stays l p (Told app d session epoch kept) e = left l p (Told app d session epoch kept) e refl
row_stays l p (Back d) e =
    at_put (Stays l (Back d)) p.server_at d _ (stays_same l (Back d))
    (λ i h is off. get_map (hold_after_back (p.server_at d).order) (p.server_at d).holds i h (same_gone h _ off) is) e
row_stays l p (Crash d kept) e =
    at_put (Stays l (Crash d kept)) p.server_at d _ (stays_same l (Crash d kept))
    (λ i h is off. get_map (hold_after_crash (take kept (p.server_at d).order) kept) (p.server_at d).holds i h
    (same_crashed (take kept (p.server_at d).order) kept h off) is) e
row_stays l p (Issue job line d w item) e = left l p (Issue job line d w item) e refl
row_stays l p (Read job line d at via question) e = left l p (Read job line d at via question) e refl
row_stays l p (Grant d session job mode key at) e =
    at_put (Stays l (Grant d session job mode key at)) p.server_at d _ (stays_same l (Grant d session job mode key at))
    (λ i h is off. get_append (p.server_at d).holds _ h i is) e
row_stays l p (Granted job line d at) e =
    at_put (Stays l (Granted job line d at)) p.server_at d _ (stays_same l (Granted job line d at))
    (λ i h is off. get_first (is_sent_at (pair_session (p.server_at d) (app_of l job)) job at) answered_hold (p.server_at d).holds i h off is) e
row_stays l p (GiveUp job line d mode key) e =
    at_put (Stays l (GiveUp job line d mode key)) p.server_at d _ (stays_same l (GiveUp job line d mode key))
    (λ i h is off. get_last (is_kept (pair_session (p.server_at d) (app_of l job)) job mode key)
    (given_up (given_now (p.server_at d) (pair_session (p.server_at d) (app_of l job)))) (p.server_at d).holds i h off is) e
row_stays l p (Quit job line d mode key) e =
    at_put (Stays l (Quit job line d mode key)) p.server_at d _ (stays_same l (Quit job line d mode key))
    (λ i h is off. get_first (is_asked (pair_session (p.server_at d) (app_of l job)) job mode key)
    (given_up (given_now (p.server_at d) (pair_session (p.server_at d) (app_of l job)))) (p.server_at d).holds i h off is) e
row_stays l p (Free d session job mode key) e =
    at_put (Stays l (Free d session job mode key)) p.server_at d _ (stays_same l (Free d session job mode key))
    (λ i h is off. get_map (freed_hold (first_given (p.server_at d) session job mode key) session job mode key) (p.server_at d).holds i h
    (same_gone h _ off) is) e
row_stays l p (Counted job line d at sum) e = left l p (Counted job line d at sum) e refl
row_stays l p (NotWhole job line d at) e = left l p (NotWhole job line d at) e refl
row_stays l p (Range job line d at) e = left l p (Range job line d at) e refl
row_stays l p (Committed job line d at) e = left l p (Committed job line d at) e refl
row_stays l p (RolledBack job line d at) e = left l p (RolledBack job line d at) e refl
row_stays l p (Reached job line d at) e = left l p (Reached job line d at) e refl
row_stays l p (Level job line level) e = left l p (Level job line level) e refl
row_stays l p (Done job line) e = left l p (Done job line) e refl
row_stays l p (Refused job line refusal) e = left l p (Refused job line refusal) e refl
row_stays l p (Broke app d end time) e = left l p (Broke app d end time) e refl
row_stays l p (Mended app d) e = left l p (Mended app d) e refl
row_stays l p (Tick time) e = left l p (Tick time) e refl
row_stays l p (Lose app d loss) e = left l p (Lose app d loss) e refl
row_stays l p (Died app) e = left l p (Died app) e refl

pub others_stay : OthersStay
others_stay l p a d i h is off = row_stays l p a d i h is off
