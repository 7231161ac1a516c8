-- The plain server after an input of an application server that tells its sessions nothing: the orders are as they were, and so is what was
-- entered for other application servers.
use Rattle.std.proofs.Common.{◌≡◌, ◌≢◌, inl, inr, ℕ, Bool, true, not, ◌&&◌, ◌==◌, List, [], ◌∷◌, length, refl, sym, ◌∙◌, ap, subst}
use Rattle.std.specs.List.{AllByRecursion}
use Rattle.std.proofs.lemmas.Bool.{false≢true, ne_eqb}
use Rattle.plain_orders.specs.declared.act.Act.{Act}
use Rattle.plain_orders.specs.declared.act.Act.TheVariants.{Opened, Enter, Synced, Shut, Release, Met, Told, Back, Crash, Issue, Read, Grant, Granted, GiveUp, Quit, Free, Counted, NotWhole, Range, Committed, RolledBack, Reached, Level, Done, Refused, Broke, Mended, Tick, Lose, Died}
use Rattle.plain_orders.specs.declared.causes.Loss.{Loss}
use Rattle.plain_orders.specs.declared.causes.Loss.TheVariants.{Reset as ByReset, Expired as ByExpired, NoWay as ByNoWay}
use Rattle.plain_orders.specs.declared.entry.Entry.{Entry}
use Rattle.plain_orders.specs.declared.layout.Layout.{Layout}
use Rattle.plain_runs.specs.Plain.{current}
use Rattle.plain_runs.specs.Run.{IsRun, after_all, state_after}
use Rattle.app_rules.specs.declared.app_in.AppIn.{AppIn}
use Rattle.app_rules.specs.AppStep.{made}
use Rattle.app_rules.specs.Works.{begun}
use Rattle.app_rules.proofs.StepLaws.{steps_at_one_end}
use Rattle.cluster_runs.specs.CoresState.{CoresState}
use Rattle.cluster_runs.specs.declared.move_outs.MoveOuts.{MoveOuts}
use Rattle.cluster_runs.specs.declared.moves.Move.TheVariants.{App}
use Rattle.cluster_runs.specs.Goes.{AppGoes}
use Rattle.cluster_runs.specs.Machine.{Machine, app_state}
use Rattle.cluster_runs.specs.Mirrors.{Mirrors}
use Rattle.cluster_runs.specs.Moves.{Allowed}
use Rattle.cluster_invariant.specs.Holds.{Holds}
use Rattle.cluster_invariant.proofs.AppActs.{Leaves, app_step_leaves}
use Rattle.cluster_invariant.proofs.OrderBeside.{SameOrders, leaves_orders, rows_same}
use Rattle.cluster_invariant.proofs.OrdersStay.{orders_agree}
use Rattle.ends_kept.proofs.PairActs.{IsOfApp}
use Rattle.ends_kept.proofs.TablesKept.{tables_by_input}
use Rattle.ends_kept.proofs.TablesMoves.{app_may, tables_begin}
use Rattle.told_kept.proofs.SameSessions.{rows_met}
use Rattle.told_kept.proofs.ToldActs.{TellNothing}
use Rattle.link_kept.proofs.Later.{EnteredStays, Later}
use Rattle.link_apps.proofs.EnteredStays.{KeepsFor, NoneMet, keeps_entered, entered_stays, rows_keep, none_met, later_same}

lost_other : (app a b d e : ℕ) (loss : Loss) → b ≡ app → a ≢ app → keeps_entered a d (Lose b e loss) ≡ true
lost_other app a b d e (ByReset at) its other = ap (λ (t : Bool). not (t && e == d)) (ne_eqb b a (λ same. other (sym same ∙ its)))
lost_other app a b d e (ByExpired time) its other = ap (λ (t : Bool). not (t && e == d)) (ne_eqb b a (λ same. other (sym same ∙ its)))
lost_other app a b d e (ByNoWay before later) its other = refl

-- an act of one application server loses no session of another
act_keeps : (app a d : ℕ) (z : Act) → a ≢ app → leaves_orders z ≡ true → IsOfApp app z → keeps_entered a d z ≡ true
act_keeps app a d (Opened e entries) other leaves own = refl
act_keeps app a d (Enter e entry) other leaves own = absurd (false≢true leaves)
act_keeps app a d (Synced e n) other leaves own = refl
act_keeps app a d (Shut e session cause) other leaves own = refl
act_keeps app a d (Release e session) other leaves own = refl
act_keeps app a d (Met b e session) other leaves own = refl
act_keeps app a d (Told b e session epoch kept) other leaves own = refl
act_keeps app a d (Back e) other leaves own = refl
act_keeps app a d (Crash e kept) other leaves own = refl
act_keeps app a d (Issue job line e w item) other leaves own = refl
act_keeps app a d (Read job line e at via question) other leaves own = refl
act_keeps app a d (Grant e session job mode key at) other leaves own = refl
act_keeps app a d (Granted job line e at) other leaves own = refl
act_keeps app a d (GiveUp job line e mode key) other leaves own = refl
act_keeps app a d (Quit job line e mode key) other leaves own = refl
act_keeps app a d (Free e session job mode key) other leaves own = refl
act_keeps app a d (Counted job line e at sum) other leaves own = refl
act_keeps app a d (NotWhole job line e at) other leaves own = refl
act_keeps app a d (Range job line e at) other leaves own = refl
act_keeps app a d (Committed job line e at) other leaves own = refl
act_keeps app a d (RolledBack job line e at) other leaves own = refl
act_keeps app a d (Reached job line e at) other leaves own = refl
act_keeps app a d (Level job line level) other leaves own = refl
act_keeps app a d (Done job line) other leaves own = refl
act_keeps app a d (Refused job line refusal) other leaves own = refl
act_keeps app a d (Broke b e end time) other leaves own = refl
act_keeps app a d (Mended b e) other leaves own = refl
act_keeps app a d (Tick time) other leaves own = refl
act_keeps app a d (Lose b e loss) other leaves (inl own) = lost_other app a b d e loss own.1.0 other
act_keeps app a d (Lose b e loss) other leaves (inr own) = absurd own
act_keeps app a d (Died b) other leaves own = refl

acts_keep : (app a d : ℕ) (acts : List Act) → a ≢ app → AllByRecursion (λ z. leaves_orders z ≡ true) acts → AllByRecursion (IsOfApp app) acts
    → AllByRecursion (λ z. keeps_entered a d z ≡ true) acts
acts_keep app a d [] other leaves own = tt
acts_keep app a d (z ∷ acts) other leaves own = (act_keeps app a d z other leaves.0 own.0, acts_keep app a d acts other leaves.1 own.1)

-- What is so of each plain server after the acts of an input.
pub record AfterInput (l : Layout) (m : Machine) (app : ℕ) (acts : List Act) : Type 0 where
  pub leaves : AllByRecursion (λ z. leaves_orders z ≡ true) acts
  pub orders : (d : ℕ) → SameOrders ((state_after l m.trail).server_at d) ((after_all l (state_after l m.trail) acts).server_at d)
  pub now : (d : ℕ) → current ((after_all l (state_after l m.trail) acts).server_at d) ≡ current ((state_after l m.trail).server_at d)
  pub later : (d : ℕ) → Later (m.site_at d) ((state_after l m.trail).server_at d) ((after_all l (state_after l m.trail) acts).server_at d)
  pub none : (d : ℕ) → TellNothing acts → NoneMet ((state_after l m.trail).server_at d) ((after_all l (state_after l m.trail) acts).server_at d)
  -- where no session is met, what was entered for the others stays
  pub others : (d : ℕ) → NoneMet ((state_after l m.trail).server_at d) ((after_all l (state_after l m.trail) acts).server_at d) → (a : ℕ) → a ≢ app
      → EnteredStays a ((state_after l m.trail).server_at d) ((after_all l (state_after l m.trail) acts).server_at d)
  -- and else those that were entered are known
  pub known : (d a : ℕ) → a ≢ app → KeepsFor a ((state_after l m.trail).server_at d) ((after_all l (state_after l m.trail) acts).server_at d)

pub after_input : (l : Layout) (c : CoresState) (m : Machine) (app now : ℕ) (input : AppIn) (outs : MoveOuts) (written : List Act) (new : Machine)
    → Holds l m → IsRun l m.trail → Mirrors c m → Allowed c (App app now input) → (goes : AppGoes m app now input outs written new) → AfterInput l m app goes.app_outs.acts
after_input l c m app now input outs written new h run shows allowed goes = record {
  leaves = orders;
  orders = same;
  now = λ d. ap (λ (xs : List (List Entry)). length xs) (same d).past;
  later = λ d.
      later_same (m.site_at d) ((state_after l m.trail).server_at d) ((after_all l (state_after l m.trail) goes.app_outs.acts).server_at d) (orders_agree l m.trail d run)
      (same d);
  none = λ d tells.
      none_met ((state_after l m.trail).server_at d) ((after_all l (state_after l m.trail) goes.app_outs.acts).server_at d)
      (rows_met l (state_after l m.trail) goes.app_outs.acts tells d);
  others = λ d none a other. entered_stays l (state_after l m.trail) goes.app_outs.acts a d none (acts_keep app a d goes.app_outs.acts other orders own);
  known = λ d a other. rows_keep l (state_after l m.trail) goes.app_outs.acts a d (acts_keep app a d goes.app_outs.acts other orders own);
}
  where
    orders : AllByRecursion (λ z. leaves_orders z ≡ true) goes.app_outs.acts
    orders = go (app_step_leaves (begun (app_state m app)) now input (made goes.state goes.app_outs) goes.steps)
      where
        go : Leaves (begun (app_state m app)) (made goes.state goes.app_outs) → AllByRecursion (λ z. leaves_orders z ≡ true) goes.app_outs.acts
        go w = subst (λ (ws : List Act). AllByRecursion (λ z. leaves_orders z ≡ true) ws) (sym w.acts) w.leaves

    same : (d : ℕ) → SameOrders ((state_after l m.trail).server_at d) ((after_all l (state_after l m.trail) goes.app_outs.acts).server_at d)
    same d = rows_same l (state_after l m.trail) goes.app_outs.acts orders d

    own : AllByRecursion (IsOfApp app) goes.app_outs.acts
    own =
        (tables_by_input input l (state_after l m.trail) app now (begun (app_state m app)) (made goes.state goes.app_outs)
        (tables_begin l c m app h shows allowed.known (sym (shows.dead app) ∙ allowed.alive))
        (app_may c m app input shows allowed.known allowed.may) (steps_at_one_end (app_state m app) goes.state now input goes.app_outs goes.steps).1 goes.steps).own
