-- Moves of application servers leave the orders, if their acts do.
use Rattle.std.proofs.Common.{◌≡◌, ℕ, Bool, true, false, List, [], ◌∷◌, ◌++◌, refl, sym, ◌∙◌, subst, if◌then◌else◌, ◌==◌}
use Rattle.std.proofs.lemmas.Bool.{false≢true}
use Rattle.std.specs.List.{AllByRecursion}
use Rattle.plain_orders.specs.declared.act.Act.{Act}
use Rattle.plain_orders.specs.declared.act.Act.TheVariants.{Opened, Enter, Synced, Shut, Release, Met, Told, Back, Crash, Issue, Read, Grant, Granted, GiveUp, Quit, Free, Counted, NotWhole, Range, Committed, RolledBack, Reached, Level, Done, Refused, Broke, Mended, Tick, Lose, Died}
use Rattle.plain_orders.specs.declared.refused.Refused.{Refused as Refusal}
use Rattle.plain_orders.specs.declared.refused.Refused.TheVariants.{NoTransaction, TooDeep, RollbackOnly, LockTimeout, Network}
use Rattle.plain_orders.specs.declared.causes.Loss.{Loss}
use Rattle.plain_orders.specs.declared.causes.Loss.TheVariants.{Reset as ByReset, Expired as ByExpired, NoWay as ByNoWay}
use Rattle.plain_orders.specs.declared.causes.PairEnd.{PairEnd}
use Rattle.plain_orders.specs.declared.causes.PairEnd.TheVariants.{App as AppSide, Server as ServerSide}
use Rattle.plain_orders.specs.declared.layout.Layout.{Layout}
use Rattle.plain_runs.specs.Plain.{Plain, Server, start}
use Rattle.plain_runs.specs.EndRows.{broke, lost}
use Rattle.plain_runs.specs.JobRows.{refused}
use Rattle.plain_runs.specs.Step.{after}
use Rattle.plain_runs.specs.Run.{after_all, state_after}
use Rattle.plain_runs.proofs.RunLemmas.{at_put, after_all-more, after_all-append}
use Rattle.cluster_runs.specs.declared.move_outs.MoveOuts.{MoveOuts}
use Rattle.cluster_runs.specs.Machine.{Machine, with_acts}
use Rattle.cluster_runs.specs.Connections.{app_leaves}
use Rattle.cluster_runs.specs.Goes.{DieGoes, LookGoes, dies}
use Rattle.app_job.specs.Sites.{Site as Target}
use Rattle.plain_orders.specs.declared.question.Question.TheVariants.{Get as GetQuestion}
use Rattle.plain_orders.specs.declared.via.Via.TheVariants.{Cached}
use Rattle.plain_orders.specs.PairMap.{value_at}
use Rattle.end_words.specs.Runs.{pairs_of}
use Rattle.cluster_invariant.specs.Orders.{OrderIs}
use Rattle.cluster_invariant.specs.Holds.{Holds}
use Rattle.cluster_invariant.proofs.OrderKept.{order_kept_by_each, order_kept_beside}
use Rattle.cluster_invariant.proofs.OrderMoves.{OrdersHold}

-- the orders of a plain server are the same
pub record SameOrders (s t : Server) : Type 0 where
  pub opened : t.opened ≡ s.opened
  pub past : t.past ≡ s.past
  pub order : t.order ≡ s.order
  pub synced : t.synced ≡ s.synced

same_orders : (s : Server) → SameOrders s s
same_orders s = record { opened = refl; past = refl; order = refl; synced = refl }

-- an act that changes no order, and nothing of what is synced
abbrev pub leaves_orders : Act → Bool
leaves_orders (Opened d entries) = false
leaves_orders (Enter d entry) = false
leaves_orders (Synced d n) = false
leaves_orders (Shut d session cause) = false
leaves_orders (Release d session) = true
leaves_orders (Met app d session) = true
leaves_orders (Told app d session epoch kept) = true
leaves_orders (Back d) = true
leaves_orders (Crash d kept) = false
leaves_orders (Issue job line d w item) = true
leaves_orders (Read job line d at via question) = true
leaves_orders (Grant d session job mode key at) = true
leaves_orders (Granted job line d at) = true
leaves_orders (GiveUp job line d mode key) = true
leaves_orders (Quit job line d mode key) = true
leaves_orders (Free d session job mode key) = true
leaves_orders (Counted job line d at sum) = true
leaves_orders (NotWhole job line d at) = true
leaves_orders (Range job line d at) = true
leaves_orders (Committed job line d at) = true
leaves_orders (RolledBack job line d at) = true
leaves_orders (Reached job line d at) = true
leaves_orders (Level job line level) = true
leaves_orders (Done job line) = true
leaves_orders (Refused job line refusal) = true
leaves_orders (Broke app d end time) = true
leaves_orders (Mended app d) = true
leaves_orders (Tick time) = true
leaves_orders (Lose app d loss) = true
leaves_orders (Died app) = true

broke_same : (s : Server) (app : ℕ) (end : PairEnd) (time : ℕ) → SameOrders s (broke s app end time)
broke_same s app AppSide time = record { opened = refl; past = refl; order = refl; synced = refl }
broke_same s app ServerSide time = record { opened = refl; past = refl; order = refl; synced = refl }

lost_same : (l : Layout) (p : Plain) (app server : ℕ) (loss : Loss) (d : ℕ) → SameOrders (p.server_at d) ((lost l p app server loss).server_at d)
lost_same l p app server (ByReset at) d = at_put SameOrders p.server_at server _ same_orders (record { opened = refl; past = refl; order = refl; synced = refl }) d
lost_same l p app server (ByExpired time) d = at_put SameOrders p.server_at server _ same_orders (record { opened = refl; past = refl; order = refl; synced = refl }) d
lost_same l p app server (ByNoWay before later) d = at_put SameOrders p.server_at server _ same_orders (record { opened = refl; past = refl; order = refl; synced = refl }) d

refused_same : (p : Plain) (job : ℕ) (r : Refusal) (d : ℕ) → SameOrders (p.server_at d) ((refused p job r).server_at d)
refused_same p job NoTransaction d = same_orders (p.server_at d)
refused_same p job TooDeep d = same_orders (p.server_at d)
refused_same p job RollbackOnly d = same_orders (p.server_at d)
refused_same p job LockTimeout d = same_orders (p.server_at d)
refused_same p job (Network server state reason) d = at_put SameOrders p.server_at server _ same_orders (record { opened = refl; past = refl; order = refl; synced = refl }) d

-- Such an act leaves all orders.
pub row_same : (l : Layout) (p : Plain) (a : Act) → leaves_orders a ≡ true → (d : ℕ) → SameOrders (p.server_at d) ((after l p a).server_at d)
row_same l p (Opened e entries) leaves d = absurd (false≢true leaves)
row_same l p (Enter e entry) leaves d = absurd (false≢true leaves)
row_same l p (Synced e n) leaves d = absurd (false≢true leaves)
row_same l p (Shut e session cause) leaves d = absurd (false≢true leaves)
row_same l p (Crash e kept) leaves d = absurd (false≢true leaves)
row_same l p (Release e session) leaves d = at_put SameOrders p.server_at e _ same_orders (record { opened = refl; past = refl; order = refl; synced = refl }) d
row_same l p (Met app e session) leaves d = at_put SameOrders p.server_at e _ same_orders (record { opened = refl; past = refl; order = refl; synced = refl }) d
row_same l p (Told app e session epoch kept) leaves d = at_put SameOrders p.server_at e _ same_orders (record { opened = refl; past = refl; order = refl; synced = refl }) d
row_same l p (Back e) leaves d = at_put SameOrders p.server_at e _ same_orders (record { opened = refl; past = refl; order = refl; synced = refl }) d
row_same l p (Issue job line e w item) leaves d = at_put SameOrders p.server_at e _ same_orders (record { opened = refl; past = refl; order = refl; synced = refl }) d
row_same l p (Read job line e at via question) leaves d = at_put SameOrders p.server_at e _ same_orders (record { opened = refl; past = refl; order = refl; synced = refl }) d
row_same l p (Grant e session job mode key at) leaves d = at_put SameOrders p.server_at e _ same_orders (record { opened = refl; past = refl; order = refl; synced = refl }) d
row_same l p (Granted job line e at) leaves d = at_put SameOrders p.server_at e _ same_orders (record { opened = refl; past = refl; order = refl; synced = refl }) d
row_same l p (GiveUp job line e mode key) leaves d = at_put SameOrders p.server_at e _ same_orders (record { opened = refl; past = refl; order = refl; synced = refl }) d
row_same l p (Quit job line e mode key) leaves d = at_put SameOrders p.server_at e _ same_orders (record { opened = refl; past = refl; order = refl; synced = refl }) d
row_same l p (Free e session job mode key) leaves d = at_put SameOrders p.server_at e _ same_orders (record { opened = refl; past = refl; order = refl; synced = refl }) d
row_same l p (Counted job line e at sum) leaves d = at_put SameOrders p.server_at e _ same_orders (record { opened = refl; past = refl; order = refl; synced = refl }) d
row_same l p (NotWhole job line e at) leaves d = at_put SameOrders p.server_at e _ same_orders (record { opened = refl; past = refl; order = refl; synced = refl }) d
row_same l p (Range job line e at) leaves d = at_put SameOrders p.server_at e _ same_orders (record { opened = refl; past = refl; order = refl; synced = refl }) d
row_same l p (Committed job line e at) leaves d = at_put SameOrders p.server_at e _ same_orders (record { opened = refl; past = refl; order = refl; synced = refl }) d
row_same l p (RolledBack job line e at) leaves d = at_put SameOrders p.server_at e _ same_orders (record { opened = refl; past = refl; order = refl; synced = refl }) d
row_same l p (Reached job line e at) leaves d = at_put SameOrders p.server_at e _ same_orders (record { opened = refl; past = refl; order = refl; synced = refl }) d
row_same l p (Level job line level) leaves d = same_orders (p.server_at d)
row_same l p (Done job line) leaves d = same_orders (p.server_at d)
row_same l p (Refused job line refusal) leaves d = refused_same p job refusal d
row_same l p (Broke app e end time) leaves d = at_put SameOrders p.server_at e _ same_orders (broke_same (p.server_at e) app end time) d
row_same l p (Mended app e) leaves d = at_put SameOrders p.server_at e _ same_orders (record { opened = refl; past = refl; order = refl; synced = refl }) d
row_same l p (Tick time) leaves d = same_orders (p.server_at d)
row_same l p (Lose app e loss) leaves d = lost_same l p app e loss d
row_same l p (Died app) leaves d = same_orders (p.server_at d)

-- Several such acts leave all orders.
pub rows_same : (l : Layout) (p : Plain) (acts : List Act) → AllByRecursion (λ a. leaves_orders a ≡ true) acts → (d : ℕ) → SameOrders (p.server_at d) ((after_all l p acts).server_at d)
rows_same l p [] leaves d = same_orders (p.server_at d)
rows_same l p (a ∷ acts) leaves d = go (row_same l p a leaves.0 d) (rows_same l (after l p a) acts leaves.1 d)
  where
    go : SameOrders (p.server_at d) ((after l p a).server_at d) → SameOrders ((after l p a).server_at d) ((after_all l (after l p a) acts).server_at d)
        → SameOrders (p.server_at d) ((after_all l (after l p a) acts).server_at d)
    go s t = record { opened = t.opened ∙ s.opened; past = t.past ∙ s.past; order = t.order ∙ s.order; synced = t.synced ∙ s.synced }

-- An application server that goes leaves all orders.
pub orders_kept_by_die : (l : Layout) (m : Machine) (app : ℕ) (outs : MoveOuts) (written : List Act) (new : Machine) → Holds l m → DieGoes m app outs written new → OrdersHold l (state_after l new.trail) new
orders_kept_by_die l m app outs written new h goes =
    subst (λ (n : Machine). OrdersHold l (state_after l n.trail) n) (sym goes.after)
    (subst (λ (w : List Act). OrdersHold l (state_after l (m.trail ++ w)) (with_acts w (dies app m))) (sym goes.acts)
    (subst (λ (q : Plain). OrdersHold l q (with_acts (Died app ∷ []) (dies app m))) (sym (after_all-more l start m.trail (Died app)))
    (λ d. order_kept_by_each l d ((state_after l m.trail).server_at d) (λ a n c. if a == app then app_leaves c else c) (m.site_at d) (h.sites d).order)))

-- Acts that leave all orders, where no site is changed, keep them: a look, and a step of which only the ends show.
pub orders_kept_by_acts : (l : Layout) (m : Machine) (acts : List Act) → Holds l m → AllByRecursion (λ a. leaves_orders a ≡ true) acts
    → (d : ℕ) → OrderIs l d ((state_after l (m.trail ++ acts)).server_at d) (m.site_at d)
orders_kept_by_acts l m acts h leaves d =
    subst (λ (q : Plain). OrderIs l d (q.server_at d) (m.site_at d)) (sym (after_all-append l start m.trail acts)) (go (rows_same l (state_after l m.trail) acts leaves d))
  where
    go : SameOrders ((state_after l m.trail).server_at d) ((after_all l (state_after l m.trail) acts).server_at d) → OrderIs l d ((after_all l (state_after l m.trail) acts).server_at d) (m.site_at d)
    go s = order_kept_beside l d ((state_after l m.trail).server_at d) ((after_all l (state_after l m.trail) acts).server_at d) (m.site_at d) s.opened s.past s.order s.synced (h.sites d).order

-- A look keeps all orders.
pub orders_kept_by_look : (l : Layout) (m : Machine) (app job line : ℕ) (at : Target) (outs : MoveOuts) (written : List Act) (new : Machine)
    → Holds l m → LookGoes m app job line at outs written new → OrdersHold l (state_after l new.trail) new
orders_kept_by_look l m app job line at outs written new h goes =
    subst (λ (n : Machine). OrdersHold l (state_after l n.trail) n) (sym goes.after)
    (subst (λ (w : List Act). (d : ℕ) → OrderIs l d ((state_after l (m.trail ++ w)).server_at d) (m.site_at d)) (sym goes.acts)
    (orders_kept_by_acts l m (Read job line at.server goes.front.n Cached (GetQuestion at.key (value_at (pairs_of goes.run) at.key)) ∷ []) h (refl, tt)))
