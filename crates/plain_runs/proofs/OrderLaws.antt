-- Laws of a server's orders.
use Rattle.std.proofs.Common.{◌≡◌, ℕ, zero, suc, ◌<◌, ◌+◌, List, [], ◌∷◌, length, refl, subst, sym, ap, ◌∙◌, true, false, arith, length-append, get_or}
use Rattle.std.proofs.lemmas.Bool.{eqb-true}
use Rattle.plain_orders.specs.declared.entry.Entry.{Entry}
use Rattle.plain_orders.specs.declared.entry.Entry.TheVariants.{Epoch, Opened as OpenedEntry, Closed, Update, Commit, Rollback}
use Rattle.plain_orders.specs.declared.act.Act.{Act}
use Rattle.plain_orders.specs.declared.act.Act.TheVariants.{Opened, Enter, Synced, Shut, Release, Met, Told, Back, Crash, Issue, Read, Grant, Granted, GiveUp, Quit, Free, Counted, NotWhole, Range, Committed, RolledBack, Reached, Level, Done, Refused, Broke, Mended, Tick, Lose, Died}
use Rattle.plain_orders.specs.declared.refused.Refused.{Refused as Refusal}
use Rattle.plain_orders.specs.declared.refused.Refused.TheVariants.{NoTransaction, TooDeep, RollbackOnly, LockTimeout, Network}
use Rattle.plain_orders.specs.declared.causes.Loss.{Loss}
use Rattle.plain_orders.specs.declared.causes.Loss.TheVariants.{Reset as ByReset, Expired as ByExpired, NoWay as ByNoWay}
use Rattle.plain_orders.specs.declared.causes.PairEnd.{PairEnd}
use Rattle.plain_orders.specs.declared.causes.PairEnd.TheVariants.{App as AppEnd, Server as ServerEnd}
use Rattle.plain_orders.specs.declared.causes.ShutCause.{ShutCause}
use Rattle.plain_orders.specs.declared.causes.ShutCause.TheVariants.{Trouble as ByTrouble, Replaced, Round as ByRound}
use Rattle.plain_orders.specs.declared.layout.Layout.{Layout}
use Rattle.plain_orders.specs.Entries.{count}
use Rattle.plain_runs.specs.Plain.{Plain, Server, orders, start}
use Rattle.plain_runs.specs.OrderRows.{EnterMay, entered}
use Rattle.plain_runs.specs.EndRows.{broke, lost}
use Rattle.plain_runs.specs.JobRows.{refused}
use Rattle.plain_runs.specs.Step.{MayCome, after}
use Rattle.plain_runs.specs.Run.{IsRun, RunFrom, after_all}
use Rattle.plain_runs.specs.Laws.{IsNextOrder, NeighboursAgree, SyncedStays, ItemsInOrder, server_after}
use Rattle.plain_runs.proofs.RunLemmas.{at_put, run_parts, after_all-append}
use Rattle.plain_runs.proofs.Numbers.{InOrder, nothing_in_order}
use Rattle.plain_runs.proofs.Orders.{facet, OrdersKept, OrdersGo, OrderSteps, orders_same, go_further, longer, saved_steps, opened_steps, crash_steps, each_get, Chained}
use Rattle.plain_orders.specs.Entries.{live}
use Rattle.plain_runs.specs.EndRows.{ShutMay, shut}

-- a live session stands in an order that was opened
unopened : (s : Server) (session : ℕ) → live s.order session ≡ true → OrdersKept (facet s) → s.opened ≡ false → ⊥
unopened s session is k f = absurd (cc (subst (λ (es : List Entry). live es session ≡ true) (k.fresh f).0 is))

enter_steps : (l : Layout) (clock : ℕ) (s : Server) (x : Entry) → EnterMay l clock s x → OrderSteps s (entered s x)
enter_steps l clock s (Epoch number) may = absurd may
enter_steps l clock s (Closed session) may = absurd may
enter_steps l clock s (OpenedEntry session app) may = longer s (entered s (OpenedEntry session app)) (OpenedEntry session app) refl refl refl (λ _ f. absurd (cc (f, may.opened))) refl (λ k n is. absurd (cc (is)))
enter_steps l clock s (Update session w job txn op) may = longer s (entered s (Update session w job txn op)) (Update session w job txn op) refl refl refl (unopened s session may.is_live) refl (λ k n is. may.next ∙ ap (λ m. count s.order m + 1) (eqb-true session n is))
enter_steps l clock s (Commit session w job txn) may = longer s (entered s (Commit session w job txn)) (Commit session w job txn) refl refl refl (unopened s session may.is_live) refl (λ k n is. may.next ∙ ap (λ m. count s.order m + 1) (eqb-true session n is))
enter_steps l clock s (Rollback session w job txn) may = longer s (entered s (Rollback session w job txn)) (Rollback session w job txn) refl refl refl (unopened s session may.is_live) refl (λ k n is. may.next ∙ ap (λ m. count s.order m + 1) (eqb-true session n is))

pub shut_live : (l : Layout) (p : Plain) (s : Server) (session : ℕ) (cause : ShutCause) → ShutMay l p s session cause → live s.order session ≡ true
shut_live l p s session (ByTrouble time) may = may.is_live
shut_live l p s session Replaced may = may.is_live
shut_live l p s session (ByRound time) may = may.is_live

shut_steps : (s : Server) (session : ℕ) → live s.order session ≡ true → OrderSteps s (shut s session)
shut_steps s session is = longer s (shut s session) (Closed session) refl refl refl (unopened s session is) refl (λ k n is. absurd (cc (is)))

broke_steps : (s : Server) (app : ℕ) (end : PairEnd) (time : ℕ) → OrderSteps s (broke s app end time)
broke_steps s app AppEnd time = orders_same s
broke_steps s app ServerEnd time = orders_same s

lost_steps : (l : Layout) (p : Plain) (app d : ℕ) (loss : Loss) (e : ℕ) → OrderSteps (p.server_at e) ((lost l p app d loss).server_at e)
lost_steps l p app d (ByReset at) e = at_put OrderSteps p.server_at d _ orders_same (orders_same (p.server_at d)) e
lost_steps l p app d (ByExpired time) e = at_put OrderSteps p.server_at d _ orders_same (orders_same (p.server_at d)) e
lost_steps l p app d (ByNoWay from to) e = at_put OrderSteps p.server_at d _ orders_same (orders_same (p.server_at d)) e

refused_steps : (p : Plain) (j : ℕ) (r : Refusal) (e : ℕ) → OrderSteps (p.server_at e) ((refused p j r).server_at e)
refused_steps p j NoTransaction e = orders_same (p.server_at e)
refused_steps p j TooDeep e = orders_same (p.server_at e)
refused_steps p j RollbackOnly e = orders_same (p.server_at e)
refused_steps p j LockTimeout e = orders_same (p.server_at e)
refused_steps p j (Network d state reason) e = at_put OrderSteps p.server_at d _ orders_same (orders_same (p.server_at d)) e

pub row_steps : (l : Layout) (p : Plain) (a : Act) → MayCome l p a → (e : ℕ) → OrderSteps (p.server_at e) ((after l p a).server_at e)
row_steps l p (Opened d entries) may e = at_put OrderSteps p.server_at d _ orders_same (opened_steps p.clock l.times.round (p.server_at d) entries may) e
row_steps l p (Enter d x) may e = at_put OrderSteps p.server_at d _ orders_same (enter_steps l p.clock (p.server_at d) x may) e
row_steps l p (Synced d n) may e = at_put OrderSteps p.server_at d _ orders_same (saved_steps (p.server_at d) n may) e
row_steps l p (Shut d session cause) may e = at_put OrderSteps p.server_at d _ orders_same (shut_steps (p.server_at d) session (shut_live l p (p.server_at d) session cause may)) e
row_steps l p (Release d session) may e = at_put OrderSteps p.server_at d _ orders_same (orders_same (p.server_at d)) e
row_steps l p (Met app d session) may e = at_put OrderSteps p.server_at d _ orders_same (orders_same (p.server_at d)) e
row_steps l p (Told app d session epoch kept) may e = at_put OrderSteps p.server_at d _ orders_same (orders_same (p.server_at d)) e
row_steps l p (Back d) may e = at_put OrderSteps p.server_at d _ orders_same (orders_same (p.server_at d)) e
row_steps l p (Crash d kept) may e = at_put OrderSteps p.server_at d _ orders_same (crash_steps p.clock l.times.round (p.server_at d) kept may) e
row_steps l p (Issue job line d w item) may e = at_put OrderSteps p.server_at d _ orders_same (orders_same (p.server_at d)) e
row_steps l p (Read job line d at via question) may e = at_put OrderSteps p.server_at d _ orders_same (orders_same (p.server_at d)) e
row_steps l p (Grant d session job mode key at) may e = at_put OrderSteps p.server_at d _ orders_same (orders_same (p.server_at d)) e
row_steps l p (Granted job line d at) may e = at_put OrderSteps p.server_at d _ orders_same (orders_same (p.server_at d)) e
row_steps l p (GiveUp job line d mode key) may e = at_put OrderSteps p.server_at d _ orders_same (orders_same (p.server_at d)) e
row_steps l p (Quit job line d mode key) may e = at_put OrderSteps p.server_at d _ orders_same (orders_same (p.server_at d)) e
row_steps l p (Free d session job mode key) may e = at_put OrderSteps p.server_at d _ orders_same (orders_same (p.server_at d)) e
row_steps l p (Counted job line d at sum) may e = at_put OrderSteps p.server_at d _ orders_same (orders_same (p.server_at d)) e
row_steps l p (NotWhole job line d at) may e = at_put OrderSteps p.server_at d _ orders_same (orders_same (p.server_at d)) e
row_steps l p (Range job line d at) may e = at_put OrderSteps p.server_at d _ orders_same (orders_same (p.server_at d)) e
row_steps l p (Committed job line d at) may e = at_put OrderSteps p.server_at d _ orders_same (orders_same (p.server_at d)) e
row_steps l p (RolledBack job line d at) may e = at_put OrderSteps p.server_at d _ orders_same (orders_same (p.server_at d)) e
row_steps l p (Reached job line d at) may e = at_put OrderSteps p.server_at d _ orders_same (orders_same (p.server_at d)) e
row_steps l p (Level job line level) may e = orders_same (p.server_at e)
row_steps l p (Done job line) may e = orders_same (p.server_at e)
row_steps l p (Refused job line refusal) may e = refused_steps p job refusal e
row_steps l p (Broke app d end time) may e = at_put OrderSteps p.server_at d _ orders_same (broke_steps (p.server_at d) app end time) e
row_steps l p (Mended app d) may e = at_put OrderSteps p.server_at d _ orders_same (orders_same (p.server_at d)) e
row_steps l p (Tick time) may e = orders_same (p.server_at e)
row_steps l p (Lose app d loss) may e = lost_steps l p app d loss e
row_steps l p (Died app) may e = orders_same (p.server_at e)

-- what holds of each row holds along a run
pub run_steps : (l : Layout) (p : Plain) (acts : List Act) → RunFrom l p acts → (e : ℕ) → OrderSteps (p.server_at e) ((after_all l p acts).server_at e)
run_steps l p [] run e = orders_same (p.server_at e)
run_steps l p (a ∷ acts) run e = λ k.
    let x : OrdersKept (facet ((after l p a).server_at e)) × OrdersGo (facet (p.server_at e)) (facet ((after l p a).server_at e)) = row_steps l p a run.0 e k in
    let y : OrdersKept (facet ((after_all l (after l p a) acts).server_at e)) × OrdersGo (facet ((after l p a).server_at e)) (facet ((after_all l (after l p a) acts).server_at e)) = run_steps l (after l p a) acts run.1 e x.0 in
    (y.0, go_further (facet (p.server_at e)) (facet ((after l p a).server_at e)) (facet ((after_all l (after l p a) acts).server_at e)) x.1 y.1)

pub start_kept : (d : ℕ) → OrdersKept (facet (start.server_at d))
start_kept d = record { within = omega arith; fresh = λ _. (refl, refl); numbered = (nothing_in_order, tt); chained = (tt, tt) }

pub orders_kept : (l : Layout) (acts : List Act) (d : ℕ) → IsRun l acts → OrdersKept (facet (server_after l acts d))
orders_kept l acts d run = (run_steps l start acts run d (start_kept d)).0

chained_at : (os : List (List Entry)) (k : ℕ) → Chained os → k + 1 < length os → IsNextOrder (get_or os k []) (get_or os (k + 1) [])
chained_at [] k c low = absurd (omega arith)
chained_at (o ∷ []) k c low = absurd (omega arith)
chained_at (o ∷ p ∷ os) zero c low = c.0
chained_at (o ∷ p ∷ os) (suc k) c low = let one : suc (k + 1) ≡ suc k + 1 = omega arith in subst (λ n. IsNextOrder (get_or (p ∷ os) k []) (get_or (o ∷ p ∷ os) n [])) one (chained_at (p ∷ os) k c.1 (omega arith))

pub neighbours_agree : NeighboursAgree
neighbours_agree l acts d k run low =
    chained_at (orders (server_after l acts d)) k (orders_kept l acts d run).chained (omega (arith, length-append (server_after l acts d).past ((server_after l acts d).order ∷ [])))

pub synced_stays : SyncedStays
synced_stays l before later d k run low high =
    (subst (λ (p : Plain). OrdersGo (facet (server_after l before d)) (facet (p.server_at d))) (sym (after_all-append l start before later)) goes).stays k low high
  where
    parts : RunFrom l start before × RunFrom l (after_all l start before) later
    parts = run_parts l start before later run

    goes : OrdersGo (facet (server_after l before d)) (facet ((after_all l (after_all l start before) later).server_at d))
    goes = (run_steps l (after_all l start before) later parts.1 d (orders_kept l before d parts.0)).1

pub items_in_order : ItemsInOrder
items_in_order l acts d k session run = each_get InOrder (orders (server_after l acts d)) k [] (orders_kept l acts d run).numbered nothing_in_order session
