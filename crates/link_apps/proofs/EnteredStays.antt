-- Acts that enter nothing and lose no session leave what was entered, and acts that leave the orders leave the rest of a plain server too.
use Rattle.std.proofs.Common.{◌≡◌, ℕ, ◌+◌, ◌-◌, ◌==◌, if◌then◌else◌, Bool, true, false, not, ◌&&◌, List, [], ◌∷◌, ◌++◌, length, get_or, Some, None, Option, option_map, refl, sym, ◌∙◌, ap, subst, arith}
use Rattle.std.proofs.lemmas.Bool.{eq-eqb, false≢true, ne_eqb, true≢false}
use Rattle.std.specs.List.{AllByRecursion}
use Rattle.plain_orders.specs.declared.act.Act.{Act}
use Rattle.plain_orders.specs.declared.act.Act.TheVariants.{Opened, Enter, Synced, Shut, Release, Met, Told, Back, Crash, Issue, Read, Grant, Granted, GiveUp, Quit, Free, Counted, NotWhole, Range, Committed, RolledBack, Reached, Level, Done, Refused, Broke, Mended, Tick, Lose, Died}
use Rattle.plain_orders.specs.declared.entry.Entry.{Entry}
use Rattle.plain_orders.specs.Entries.{count, last_epoch}
use Rattle.plain_orders.specs.declared.refused.Refused.{Refused as Refusal}
use Rattle.plain_orders.specs.declared.refused.Refused.TheVariants.{NoTransaction, TooDeep, RollbackOnly, LockTimeout, Network}
use Rattle.plain_orders.specs.declared.causes.Loss.{Loss}
use Rattle.plain_orders.specs.declared.causes.Loss.TheVariants.{Reset as ByReset, Expired as ByExpired, NoWay as ByNoWay}
use Rattle.plain_orders.specs.declared.causes.PairEnd.{PairEnd}
use Rattle.plain_orders.specs.declared.causes.PairEnd.TheVariants.{App as AppSide, Server as ServerSide}
use Rattle.plain_orders.specs.declared.layout.Layout.{Layout}
use Rattle.plain_runs.specs.Plain.{Plain, Server, Session as PlainSession, Entered, current, order_at}
use Rattle.plain_runs.specs.EndRows.{broke, lost, lost_session, since_loss, without_session}
use Rattle.plain_orders.specs.declared.refused.ReasonName.{ReasonName}
use Rattle.plain_orders.specs.declared.refused.ReasonName.TheVariants as names
use Rattle.plain_runs.specs.JobRows.{refused}
use Rattle.plain_runs.specs.Step.{after}
use Rattle.plain_runs.specs.Run.{after_all}
use Rattle.plain_runs.proofs.RunLemmas.{at_put}
use Rattle.data_rules.specs.Places.{epoch_place}
use Rattle.cluster_runs.specs.Machine.{Site}
use Rattle.cluster_invariant.specs.Orders.{OrdersAgree}
use Rattle.cluster_invariant.specs.Words.{IsFront, stays_at}
use Rattle.cluster_invariant.proofs.Small.{put_other}
use Rattle.cluster_invariant.proofs.OrderBeside.{SameOrders}
use Rattle.told_kept.proofs.SameSessions.{SameMets, whose}
use Rattle.link_kept.proofs.Later.{EnteredStays, Later, front_same}
use Rattle.cluster_invariant.proofs.PastOrders.{stays_within}

-- what was entered for an application server is known still
abbrev pub KeepsFor : ℕ → Server → Server → Type 0
KeepsFor app v w = (s j : ℕ) → v.entered_at s ≡ Some (record { app = app; in_order = j; lost_since = false })
    → w.entered_at s ≡ Some (record { app = app; in_order = j; lost_since = false })

-- a session that wasn't met isn't met
abbrev pub NoneMet : Server → Server → Type 0
NoneMet v w = (n : ℕ) → v.session_at n ≡ None → w.session_at n ≡ None

keeps_same : (app : ℕ) (v : Server) → KeepsFor app v v
keeps_same app v s j is = is

-- an act that enters nothing at this data server, and by which this application server loses no session there
abbrev pub keeps_entered : ℕ → ℕ → Act → Bool
keeps_entered app d (Opened e entries) = true
keeps_entered app d (Enter e x) = false
keeps_entered app d (Synced e n) = true
keeps_entered app d (Shut e session cause) = true
keeps_entered app d (Release e session) = true
keeps_entered app d (Met a e session) = true
keeps_entered app d (Told a e session epoch kept) = true
keeps_entered app d (Back e) = true
keeps_entered app d (Crash e kept) = true
keeps_entered app d (Issue job line e w item) = true
keeps_entered app d (Read job line e at via question) = true
keeps_entered app d (Grant e session job mode key at) = true
keeps_entered app d (Granted job line e at) = true
keeps_entered app d (GiveUp job line e mode key) = true
keeps_entered app d (Quit job line e mode key) = true
keeps_entered app d (Free e session job mode key) = true
keeps_entered app d (Counted job line e at sum) = true
keeps_entered app d (NotWhole job line e at) = true
keeps_entered app d (Range job line e at) = true
keeps_entered app d (Committed job line e at) = true
keeps_entered app d (RolledBack job line e at) = true
keeps_entered app d (Reached job line e at) = true
keeps_entered app d (Level job line level) = true
keeps_entered app d (Done job line) = true
keeps_entered app d (Refused job line refusal) = true
keeps_entered app d (Broke a e end time) = true
keeps_entered app d (Mended a e) = true
keeps_entered app d (Tick time) = true
keeps_entered app d (Lose a e (ByReset at)) = not (a == app && e == d)
keeps_entered app d (Lose a e (ByExpired time)) = not (a == app && e == d)
keeps_entered app d (Lose a e (ByNoWay before later)) = true
keeps_entered app d (Died a) = true

broke_keeps : (app : ℕ) (v : Server) (a : ℕ) (end : PairEnd) (time : ℕ) → KeepsFor app v (broke v a end time)
broke_keeps app v a AppSide time s j is = is
broke_keeps app v a ServerSide time s j is = is

-- a session of another application server is lost
since_other : (app a j : ℕ) (o : Option Entered) → (app == a) ≡ false → o ≡ Some (record { app = app; in_order = j; lost_since = false })
    → since_loss a o ≡ Some (record { app = app; in_order = j; lost_since = false })
since_other app a j o other is =
    ap (since_loss a) is ∙ ap (λ (b : Bool). Some (record { app = app; in_order = j; lost_since = b })) other

session_keeps : (l : Layout) (p : Plain) (a e app d : ℕ) (reason : ReasonName) → not (a == app && e == d) ≡ true
    → KeepsFor app (p.server_at d) ((lost_session l p a e reason).server_at d)
session_keeps l p a e app d reason keeps = go (a == app) refl keeps
  where
    flipped : (a == app) ≡ false → (app == a) ≡ false
    flipped other = ne_eqb app a (λ same. false≢true (sym other ∙ eq-eqb a app (sym same)))

    go : (b : Bool) → (a == app) ≡ b → not (b && e == d) ≡ true → KeepsFor app (p.server_at d) ((lost_session l p a e reason).server_at d)
    go false other is = at_put (KeepsFor app) p.server_at e _ (keeps_same app) (λ s j known. since_other app a j ((p.server_at e).entered_at s) (flipped other) known) d
    go true same is =
        subst (λ (w : Server). KeepsFor app (p.server_at d) w)
        (sym (put_other p.server_at e (without_session l (p.server_at e) a reason) d (λ at. absurd (true≢false (sym (eq-eqb e d (sym at)) ∙ not_true (e == d) is)))))
        (keeps_same app (p.server_at d))
      where
        not_true : (b : Bool) → not b ≡ true → b ≡ false
        not_true true bad = sym bad
        not_true false bad = refl

lost_keeps : (l : Layout) (p : Plain) (a e : ℕ) (loss : Loss) (app d : ℕ) → keeps_entered app d (Lose a e loss) ≡ true
    → KeepsFor app (p.server_at d) ((lost l p a e loss).server_at d)
lost_keeps l p a e (ByReset at) app d keeps = session_keeps l p a e app d names.Reset keeps
lost_keeps l p a e (ByExpired time) app d keeps = session_keeps l p a e app d names.Expired keeps
lost_keeps l p a e (ByNoWay before later) app d keeps = at_put (KeepsFor app) p.server_at e _ (keeps_same app) (λ s j is. is) d

refused_keeps : (p : Plain) (job : ℕ) (r : Refusal) (app d : ℕ) → KeepsFor app (p.server_at d) ((refused p job r).server_at d)
refused_keeps p job NoTransaction app d = keeps_same app (p.server_at d)
refused_keeps p job TooDeep app d = keeps_same app (p.server_at d)
refused_keeps p job RollbackOnly app d = keeps_same app (p.server_at d)
refused_keeps p job LockTimeout app d = keeps_same app (p.server_at d)
refused_keeps p job (Network server state reason) app d = at_put (KeepsFor app) p.server_at server _ (keeps_same app) (λ s j is. is) d

row_keeps : (l : Layout) (p : Plain) (a : Act) (app d : ℕ) → keeps_entered app d a ≡ true → KeepsFor app (p.server_at d) ((after l p a).server_at d)
row_keeps l p (Opened e entries) app d keeps = at_put (KeepsFor app) p.server_at e _ (keeps_same app) (λ s j is. is) d
row_keeps l p (Enter e x) app d keeps = absurd (false≢true keeps)
row_keeps l p (Synced e k) app d keeps = at_put (KeepsFor app) p.server_at e _ (keeps_same app) (λ s j is. is) d
row_keeps l p (Shut e session cause) app d keeps = at_put (KeepsFor app) p.server_at e _ (keeps_same app) (λ s j is. is) d
row_keeps l p (Release e session) app d keeps = at_put (KeepsFor app) p.server_at e _ (keeps_same app) (λ s j is. is) d
row_keeps l p (Met a e session) app d keeps = at_put (KeepsFor app) p.server_at e _ (keeps_same app) (λ s j is. is) d
row_keeps l p (Told a e session epoch kept) app d keeps = at_put (KeepsFor app) p.server_at e _ (keeps_same app) (λ s j is. is) d
row_keeps l p (Back e) app d keeps = at_put (KeepsFor app) p.server_at e _ (keeps_same app) (λ s j is. is) d
row_keeps l p (Crash e kept) app d keeps = at_put (KeepsFor app) p.server_at e _ (keeps_same app) (λ s j is. is) d
row_keeps l p (Issue job line e w item) app d keeps = at_put (KeepsFor app) p.server_at e _ (keeps_same app) (λ s j is. is) d
row_keeps l p (Read job line e at via question) app d keeps = at_put (KeepsFor app) p.server_at e _ (keeps_same app) (λ s j is. is) d
row_keeps l p (Grant e session job mode key at) app d keeps = at_put (KeepsFor app) p.server_at e _ (keeps_same app) (λ s j is. is) d
row_keeps l p (Granted job line e at) app d keeps = at_put (KeepsFor app) p.server_at e _ (keeps_same app) (λ s j is. is) d
row_keeps l p (GiveUp job line e mode key) app d keeps = at_put (KeepsFor app) p.server_at e _ (keeps_same app) (λ s j is. is) d
row_keeps l p (Quit job line e mode key) app d keeps = at_put (KeepsFor app) p.server_at e _ (keeps_same app) (λ s j is. is) d
row_keeps l p (Free e session job mode key) app d keeps = at_put (KeepsFor app) p.server_at e _ (keeps_same app) (λ s j is. is) d
row_keeps l p (Counted job line e at sum) app d keeps = at_put (KeepsFor app) p.server_at e _ (keeps_same app) (λ s j is. is) d
row_keeps l p (NotWhole job line e at) app d keeps = at_put (KeepsFor app) p.server_at e _ (keeps_same app) (λ s j is. is) d
row_keeps l p (Range job line e at) app d keeps = at_put (KeepsFor app) p.server_at e _ (keeps_same app) (λ s j is. is) d
row_keeps l p (Committed job line e at) app d keeps = at_put (KeepsFor app) p.server_at e _ (keeps_same app) (λ s j is. is) d
row_keeps l p (RolledBack job line e at) app d keeps = at_put (KeepsFor app) p.server_at e _ (keeps_same app) (λ s j is. is) d
row_keeps l p (Reached job line e at) app d keeps = at_put (KeepsFor app) p.server_at e _ (keeps_same app) (λ s j is. is) d
row_keeps l p (Level job line level) app d keeps = keeps_same app (p.server_at d)
row_keeps l p (Done job line) app d keeps = keeps_same app (p.server_at d)
row_keeps l p (Refused job line refusal) app d keeps = refused_keeps p job refusal app d
row_keeps l p (Broke a e end time) app d keeps = at_put (KeepsFor app) p.server_at e _ (keeps_same app) (broke_keeps app (p.server_at e) a end time) d
row_keeps l p (Mended a e) app d keeps = at_put (KeepsFor app) p.server_at e _ (keeps_same app) (λ s j is. is) d
row_keeps l p (Tick time) app d keeps = keeps_same app (p.server_at d)
row_keeps l p (Lose a e loss) app d keeps = lost_keeps l p a e loss app d keeps
row_keeps l p (Died a) app d keeps = keeps_same app (p.server_at d)

-- several such acts keep what was entered
pub rows_keep : (l : Layout) (p : Plain) (acts : List Act) (app d : ℕ) → AllByRecursion (λ a. keeps_entered app d a ≡ true) acts
    → KeepsFor app (p.server_at d) ((after_all l p acts).server_at d)
rows_keep l p [] app d keeps = keeps_same app (p.server_at d)
rows_keep l p (a ∷ acts) app d keeps = λ s j is. rows_keep l (after l p a) acts app d keeps.1 s j (row_keeps l p a app d keeps.0 s j is)

-- Several such acts.
pub entered_stays : (l : Layout) (p : Plain) (acts : List Act) (app d : ℕ) → NoneMet (p.server_at d) ((after_all l p acts).server_at d)
    → AllByRecursion (λ a. keeps_entered app d a ≡ true) acts → EnteredStays app (p.server_at d) ((after_all l p acts).server_at d)
entered_stays l p acts app d none keeps = record { known = λ s k j low why is. rows_keep l p acts app d keeps s j is; met = λ s j known unmet. none s unmet }

-- acts that tell no session anything meet none
pub none_met : (v w : Server) → SameMets v w → NoneMet v w
none_met v w same n none = go (w.session_at n) (same n ∙ ap (option_map whose) none)
  where
    go : (o : Option PlainSession) → option_map whose o ≡ None → o ≡ None
    go None is = refl
    go (Some s) is = absurd cc

-- the orders, and what stays of each

pub order_kept : (v w : Server) → SameOrders v w → (k : ℕ) → order_at w k ≡ order_at v k
order_kept v w s k = ap (λ (xs : List (List Entry)). get_or (xs ++ w.order ∷ []) k []) s.past ∙ ap (λ (o : List Entry). get_or (v.past ++ o ∷ []) k []) s.order

pub stays_kept : (v w : Server) → SameOrders v w → (k : ℕ) → stays_at w k ≡ stays_at v k
stays_kept v w s k =
    ap (λ (xs : List (List Entry)). if k == length xs then w.synced else epoch_place (order_at w (k + 1)) - 1) s.past
    ∙ ap (λ (n : ℕ). if k == current v then n else epoch_place (order_at w (k + 1)) - 1) s.synced
    ∙ ap (λ (es : List Entry). if k == current v then v.synced else epoch_place es - 1) (order_kept v w s (k + 1))

-- A plain server whose orders are the same.
pub later_same : (x : Site) (v w : Server) → OrdersAgree v → SameOrders v w → Later x v w
later_same x v w agree s = record {
  there = omega (arith, now);
  goes_on = λ k low. subst (λ (es : List Entry). IsFront (order_at v k) es) (sym (order_kept v w s k)) (front_same (order_at v k));
  within = stays_within v agree;
  stays = λ k low. omega (arith, stays_kept v w s k);
  left = λ k low. stays_kept v w s k;
  last = λ k low. ap last_epoch (order_kept v w s k);
  place = λ k low. ap epoch_place (order_kept v w s k);
  newer = λ i j low past there stays. absurd (omega (arith, past, there, now));
  counts = λ n k low unlearnt. ap (λ (es : List Entry). count es n) (order_kept v w s k);
}
  where
    now : current w ≡ current v
    now = ap (λ (xs : List (List Entry)). length xs) s.past
