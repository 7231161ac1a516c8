-- Before its first start no data end of a data server broke: each move keeps it.
use Rattle.std.proofs.Common.{◌≡◌, ◌≢◌, ℕ, Bool, true, false, List, [], ◌∷◌, ◌++◌, length, Option, Some, None, refl, sym, ◌∙◌, ap, subst, inl, inr, eqb, if◌then◌else◌}
use Rattle.std.specs.List.{AllByRecursion}
use Rattle.std.proofs.lemmas.Bool.{eqb-true, eq-eqb, false≢true}
use Rattle.plain_orders.specs.declared.act.Act.{Act}
use Rattle.plain_orders.specs.declared.act.Act.TheVariants.{Opened, Enter, Synced, Shut, Release, Met, Told, Back, Crash, Issue, Read, Grant, Granted, GiveUp, Quit, Free, Counted, NotWhole, Range, Committed, RolledBack, Reached, Level, Done, Refused, Broke, Mended, Tick as TickAct, Lose, Died}
use Rattle.plain_orders.specs.declared.causes.PairEnd.TheVariants.{App as AppSide, Server as ServerSide}
use Rattle.plain_orders.specs.declared.entry.Entry.{Entry}
use Rattle.plain_orders.specs.declared.layout.Layout.{Layout}
use Rattle.plain_orders.specs.declared.question.Question.TheVariants.{Get as GetQuestion}
use Rattle.plain_orders.specs.declared.via.Via.TheVariants.{Cached}
use Rattle.plain_orders.specs.PairMap.{value_at}
use Rattle.end_words.specs.Runs.{pairs_of}
use Rattle.plain_runs.specs.Plain.{Plain, Server, start}
use Rattle.plain_runs.specs.OrderRows.{opened_with, crashed}
use Rattle.plain_runs.specs.Run.{IsRun, after_all, state_after}
use Rattle.plain_runs.proofs.RunLemmas.{after_all-append}
use Rattle.app_job.specs.declared.command.Command.{Command}
use Rattle.app_job.specs.declared.command.Command.TheVariants as commands
use Rattle.app_rules.specs.declared.app_in.AppIn.{AppIn}
use Rattle.app_rules.specs.AppStep.{made}
use Rattle.app_rules.specs.Works.{begun}
use Rattle.app_rules.proofs.StepLaws.{steps_at_one_end}
use Rattle.data_rules.specs.declared.data_in.DataIn.{DataIn}
use Rattle.cluster_runs.specs.declared.move_outs.MoveOuts.{MoveOuts}
use Rattle.cluster_runs.specs.declared.moves.Move.{Move}
use Rattle.cluster_runs.specs.declared.moves.Move.TheVariants.{Step, Looked, App, Server as ServerMove, Begin, Halt, Die, Tick}
use Rattle.cluster_runs.specs.CoresState.{CoresState, app_of_job}
use Rattle.cluster_runs.specs.Goes.{AppGoes, BeginGoes, Goes, JobGoes, LookedGoes, ServerGoes}
use Rattle.cluster_runs.specs.Machine.{Machine, app_state}
use Rattle.cluster_runs.specs.Mirrors.{Mirrors}
use Rattle.cluster_runs.specs.Moves.{Allowed}
use Rattle.cluster_runs.specs.Steps.{begin_act}
use Rattle.cluster_invariant.specs.Holds.{Holds}
use Rattle.cluster_invariant.specs.Orders.{NodeOrder}
use Rattle.cluster_invariant.proofs.AppActs.{Leaves, app_step_leaves}
use Rattle.cluster_invariant.proofs.OrderBeside.{leaves_orders, rows_same}
use Rattle.cluster_invariant.proofs.OrderMoves.{server_wrote}
use Rattle.cluster_invariant.proofs.OrderRows.{StepWrote}
use Rattle.cluster_invariant.proofs.Small.{of_some, put_same, put_other}
use Rattle.cluster_steps.proofs.JobActs.{Wrote, wrote_by}
use Rattle.cluster_steps.proofs.JobPiecesOf.{job_goes}
use Rattle.ends_kept.proofs.PairActs.{IsAt, IsOfApp}
use Rattle.ends_kept.proofs.TablesKept.{tables_by_input}
use Rattle.ends_kept.proofs.TablesMoves.{app_may, tables_begin}
use Rattle.data_ends_kept.proofs.NodeEndsJobs.{all_breaks, job_breaks}
use Rattle.data_ends_kept.proofs.SameBreaks.{leaves_breaks, rows_breaks}
use Rattle.ends_kept.proofs.OrderJobs.{all_leave}

abbrev pub UnopenedAt : Server → Type 0
UnopenedAt v = v.opened ≡ false → (app : ℕ) → v.end_at app ≡ None

abbrev pub UnopenedHold : Layout → Plain → Type 0
UnopenedHold l p = (d : ℕ) → UnopenedAt (p.server_at d)

-- acts that are of no data server
pub unopened_by_acts : (l : Layout) (p : Plain) (acts : List Act) → AllByRecursion (λ a. leaves_orders a ≡ true) acts → AllByRecursion (λ a. leaves_breaks a ≡ true) acts → UnopenedHold l p → UnopenedHold l (after_all l p acts)
unopened_by_acts l p acts orders breaks h d shut app =
    ap (λ (f : ℕ → Option ℕ). f app) (rows_breaks l p acts breaks d).ends ∙ h d (sym (rows_same l p acts orders d).opened ∙ shut) app

at_breaks : (app d : ℕ) (a : Act) → IsAt app d a → leaves_breaks a ≡ true
at_breaks app d (Opened e entries) at = absurd at
at_breaks app d (Enter e entry) at = absurd at
at_breaks app d (Synced e n) at = absurd at
at_breaks app d (Shut e session cause) at = absurd at
at_breaks app d (Release e session) at = absurd at
at_breaks app d (Met a e session) at = refl
at_breaks app d (Told a e session epoch kept) at = refl
at_breaks app d (Back e) at = absurd at
at_breaks app d (Crash e kept) at = absurd at
at_breaks app d (Issue job line e w item) at = absurd at
at_breaks app d (Read job line e place via question) at = absurd at
at_breaks app d (Grant e session job mode key place) at = absurd at
at_breaks app d (Granted job line e place) at = absurd at
at_breaks app d (GiveUp job line e mode key) at = absurd at
at_breaks app d (Quit job line e mode key) at = absurd at
at_breaks app d (Free e session job mode key) at = absurd at
at_breaks app d (Counted job line e place sum) at = absurd at
at_breaks app d (NotWhole job line e place) at = absurd at
at_breaks app d (Range job line e place) at = absurd at
at_breaks app d (Committed job line e place) at = absurd at
at_breaks app d (RolledBack job line e place) at = absurd at
at_breaks app d (Reached job line e place) at = absurd at
at_breaks app d (Level job line level) at = absurd at
at_breaks app d (Done job line) at = absurd at
at_breaks app d (Refused job line refusal) at = absurd at
at_breaks app d (Broke a e AppSide time) at = refl
at_breaks app d (Broke a e ServerSide time) at = absurd at
at_breaks app d (Mended a e) at = refl
at_breaks app d (TickAct time) at = absurd at
at_breaks app d (Lose a e loss) at = refl
at_breaks app d (Died a) at = absurd at

pub own_breaks : (app : ℕ) (ws : List Act) → AllByRecursion (IsOfApp app) ws → AllByRecursion (λ a. leaves_breaks a ≡ true) ws
own_breaks app [] own = tt
own_breaks app (a ∷ ws) own = (go own.0, own_breaks app ws own.1)
  where
    go : IsOfApp app a → leaves_breaks a ≡ true
    go (inl x) = at_breaks app x.0 a x.1
    go (inr x) = job_breaks a x

unopened_of : (l : Layout) (m : Machine) → Holds l m → UnopenedHold l (state_after l m.trail)
unopened_of l m h d = (h.sites d).ends.unopened

-- a move by its acts
by_written : (l : Layout) (m new : Machine) (written : List Act) → new.trail ≡ m.trail ++ written → UnopenedHold l (after_all l (state_after l m.trail) written) → UnopenedHold l (state_after l new.trail)
by_written l m new written trail h = subst (λ (ws : List Act). UnopenedHold l (state_after l ws)) (sym trail) (subst (λ (q : Plain). UnopenedHold l q) (sym (after_all-append l start m.trail written)) h)

unopened_kept_by_looked : (l : Layout) (m : Machine) (app job line : ℕ) (command : Command) (outs : MoveOuts) (written : List Act) (new : Machine) → Holds l m → LookedGoes m app job line command outs written new → UnopenedHold l (state_after l new.trail)
unopened_kept_by_looked l m app job line (commands.Set at value) outs written new h goes = absurd goes
unopened_kept_by_looked l m app job line (commands.Kill at) outs written new h goes = absurd goes
unopened_kept_by_looked l m app job line (commands.Get at) outs written new h goes =
    by_written l m new written (ap (λ (n : Machine). n.trail) goes.after) (subst (λ (ws : List Act). UnopenedHold l (after_all l (state_after l m.trail) ws)) (sym goes.acts)
    (unopened_by_acts l (state_after l m.trail) (Read job line at.server goes.front.n Cached (GetQuestion at.key (value_at (pairs_of goes.run) at.key)) ∷ []) (refl, tt) (refl, tt) (unopened_of l m h)))
unopened_kept_by_looked l m app job line (commands.Shape at) outs written new h goes = absurd goes
unopened_kept_by_looked l m app job line (commands.Next parent sub) outs written new h goes = absurd goes
unopened_kept_by_looked l m app job line (commands.Incr at amount) outs written new h goes = absurd goes
unopened_kept_by_looked l m app job line (commands.Lock at mode wait) outs written new h goes = absurd goes
unopened_kept_by_looked l m app job line (commands.Unlock at mode at_once) outs written new h goes = absurd goes
unopened_kept_by_looked l m app job line commands.Start outs written new h goes = absurd goes
unopened_kept_by_looked l m app job line (commands.Commit sync) outs written new h goes = absurd goes
unopened_kept_by_looked l m app job line commands.Rollback outs written new h goes = absurd goes
unopened_kept_by_looked l m app job line (commands.Sync server) outs written new h goes = absurd goes

unopened_kept_by_job : (l : Layout) (m : Machine) (app job now line : ℕ) (command : Command) (outs : MoveOuts) (written : List Act) (new : Machine) → Holds l m → JobGoes m app job now line command outs written new → UnopenedHold l (state_after l new.trail)
unopened_kept_by_job l m app job now line command outs written new h goes = go (wrote_by (begun (app_state m app)) (made goes.state goes.app_outs) (job_goes (app_state m app) goes.state (m.job_at job) goes.job_state now line command goes.answer goes.app_outs goes.steps))
  where
    go : Wrote (begun (app_state m app)) (made goes.state goes.app_outs) → UnopenedHold l (state_after l new.trail)
    go w =
        by_written l m new written (ap (λ (n : Machine). n.trail) goes.after) (subst (λ (ws : List Act). UnopenedHold l (after_all l (state_after l m.trail) ws)) (sym (goes.acts ∙ w.acts))
        (unopened_by_acts l (state_after l m.trail) w.written (all_leave w.written w.of_job) (all_breaks w.written w.of_job) (unopened_of l m h)))

unopened_kept_by_app : (l : Layout) (c : CoresState) (m : Machine) (app now : ℕ) (input : AppIn) (outs : MoveOuts) (written : List Act) (new : Machine) → Holds l m → Mirrors c m → Allowed c (App app now input) → AppGoes m app now input outs written new
    → UnopenedHold l (state_after l new.trail)
unopened_kept_by_app l c m app now input outs written new h shows allowed goes =
    by_written l m new written (ap (λ (n : Machine). n.trail) goes.after) (subst (λ (ws : List Act). UnopenedHold l (after_all l (state_after l m.trail) ws)) (sym goes.acts)
    (unopened_by_acts l (state_after l m.trail) goes.app_outs.acts (subst (λ (ws : List Act). AllByRecursion (λ y. leaves_orders y ≡ true) ws) (sym leaves.acts) leaves.leaves) (own_breaks app goes.app_outs.acts own) (unopened_of l m h)))
  where
    leaves : Leaves (begun (app_state m app)) (made goes.state goes.app_outs)
    leaves = app_step_leaves (begun (app_state m app)) now input (made goes.state goes.app_outs) goes.steps

    own : AllByRecursion (IsOfApp app) goes.app_outs.acts
    own =
        (tables_by_input input l (state_after l m.trail) app now (begun (app_state m app)) (made goes.state goes.app_outs)
        (tables_begin l c m app h shows allowed.known (sym (shows.dead app) ∙ allowed.alive))
        (app_may c m app input shows allowed.known allowed.may) (steps_at_one_end (app_state m app) goes.state now input goes.app_outs goes.steps).1 goes.steps).own

-- where one data server was opened, and the others stay
at_opened : (l : Layout) (p q : Plain) (server : ℕ) → ((e : ℕ) → e ≢ server → q.server_at e ≡ p.server_at e) → (q.server_at server).opened ≡ true → UnopenedHold l p → UnopenedHold l q
at_opened l p q server others is_open h d = go (eqb d server) refl
  where
    go : (b : Bool) → eqb d server ≡ b → UnopenedAt (q.server_at d)
    go true same = λ shut. absurd (false≢true (sym shut ∙ ap (λ (k : ℕ). (q.server_at k).opened) (eqb-true d server same) ∙ is_open))
    go false other = subst UnopenedAt (sym (others d (λ same. false≢true (sym other ∙ eq-eqb d server same)))) (h d)

unopened_kept_by_server : (l : Layout) (c : CoresState) (m : Machine) (server now : ℕ) (input : DataIn) (outs : MoveOuts) (written : List Act) (new : Machine)
    → Holds l m → IsRun l m.trail → Mirrors c m → Allowed c (ServerMove server now input) → ServerGoes m server now input outs written new → UnopenedHold l (state_after l new.trail)
unopened_kept_by_server l c m server now input outs written new h run shows allowed goes = go (server_wrote l c m server now input outs written new h run shows allowed goes)
  where
    go : StepWrote server goes.node goes.state (state_after l m.trail) (after_all l (state_after l m.trail) written) → UnopenedHold l (state_after l new.trail)
    go w =
        by_written l m new written (ap (λ (n : Machine). n.trail) goes.after)
        (at_opened l (state_after l m.trail) (after_all l (state_after l m.trail) written) server w.others
        (w.opened ∙ (of_some (NodeOrder l server (m.site_at server).past ((state_after l m.trail).server_at server)) (m.site_at server).node goes.node goes.runs (h.sites server).order.node).opened)
        (unopened_of l m h))

unopened_kept_by_begin : (l : Layout) (m : Machine) (server now : ℕ) (es : List Entry) (outs : MoveOuts) (written : List Act) (new : Machine) → Holds l m → BeginGoes m server now es outs written new → UnopenedHold l (state_after l new.trail)
unopened_kept_by_begin l m server now es outs written new h goes =
    by_written l m new written (ap (λ (n : Machine). n.trail) goes.after) (subst (λ (ws : List Act). UnopenedHold l (after_all l p ws)) (sym goes.acts) (go v.opened refl))
  where
    p : Plain
    p = state_after l m.trail

    v : Server
    v = p.server_at server

    -- by what its disk has
    go : (b : Bool) → v.opened ≡ b → UnopenedHold l (after_all l p (begin_act (m.site_at server).order server es ∷ []))
    go b opened =
        subst (λ (o : Option (List Entry)). UnopenedHold l (after_all l p (begin_act o server es ∷ []))) (sym ((h.sites server).order.disk ∙ ap (λ (t : Bool). if t then Some v.order else None) opened)) (by b opened)
      where
        by : (t : Bool) → v.opened ≡ t → UnopenedHold l (after_all l p (begin_act (if t then Some v.order else None) server es ∷ []))
        by false shut =
            at_opened l p (after_all l p (Opened server es ∷ [])) server (λ e other. put_other p.server_at server _ e other)
            (ap (λ (s : Server). s.opened) (put_same p.server_at server (opened_with p.clock l.times.round v es))) (unopened_of l m h)
        by true is_open =
            at_opened l p (after_all l p (Crash server (length es) ∷ [])) server (λ e other. put_other p.server_at server _ e other)
            (ap (λ (s : Server). s.opened) (put_same p.server_at server (crashed p.clock l.times.round v (length es))) ∙ is_open) (unopened_of l m h)

-- Each move.
pub unopened_is_kept : (l : Layout) (c : CoresState) (m : Machine) (move : Move) (outs : MoveOuts) (written : List Act) (new : Machine)
    → Holds l m → IsRun l m.trail → Mirrors c m → Allowed c move → Goes m move outs written new → UnopenedHold l (state_after l new.trail)
unopened_is_kept l c m (Step job now line command) outs written new h run shows allowed goes = unopened_kept_by_job l m (app_of_job m.layout job) job now line command outs written new h goes
unopened_is_kept l c m (Looked job line command) outs written new h run shows allowed goes = unopened_kept_by_looked l m (app_of_job m.layout job) job line command outs written new h goes
unopened_is_kept l c m (App app now input) outs written new h run shows allowed goes = unopened_kept_by_app l c m app now input outs written new h shows allowed goes
unopened_is_kept l c m (ServerMove server now input) outs written new h run shows allowed goes = unopened_kept_by_server l c m server now input outs written new h run shows allowed goes
unopened_is_kept l c m (Begin server now entries) outs written new h run shows allowed goes = unopened_kept_by_begin l m server now entries outs written new h goes
unopened_is_kept l c m (Halt server) outs written new h run shows allowed goes = subst (λ (ws : List Act). UnopenedHold l (state_after l ws)) (sym (ap (λ (n : Machine). n.trail) goes.after)) (unopened_of l m h)
unopened_is_kept l c m (Die app) outs written new h run shows allowed goes =
    by_written l m new written (ap (λ (n : Machine). n.trail) goes.after) (subst (λ (ws : List Act). UnopenedHold l (after_all l (state_after l m.trail) ws)) (sym goes.acts)
    (unopened_by_acts l (state_after l m.trail) (Died app ∷ []) (refl, tt) (refl, tt) (unopened_of l m h)))
unopened_is_kept l c m (Tick now) outs written new h run shows allowed goes =
    by_written l m new written (ap (λ (n : Machine). n.trail) goes.after) (subst (λ (ws : List Act). UnopenedHold l (after_all l (state_after l m.trail) ws)) (sym goes.acts)
    (unopened_by_acts l (state_after l m.trail) (TickAct now ∷ []) (refl, tt) (refl, tt) (unopened_of l m h)))
