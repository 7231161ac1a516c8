-- The clock and who is dead, over acts of application servers and jobs, and over each move.
use Rattle.std.proofs.Common.{◌≡◌, inl, inr, ℕ, Bool, true, List, [], ◌∷◌, ◌++◌, Option, Some, None, refl, sym, ◌∙◌, ap, subst}
use Rattle.std.specs.List.{AllByRecursion}
use Rattle.plain_orders.specs.declared.act.Act.{Act}
use Rattle.plain_orders.specs.declared.act.Act.TheVariants.{Opened, Enter, Synced, Shut, Release, Met, Told, Back, Crash, Issue, Read, Grant, Granted, GiveUp, Quit, Free, Counted, NotWhole, Range, Committed, RolledBack, Reached, Level, Done, Refused, Broke, Mended, Tick as TickAct, Lose, Died}
use Rattle.plain_orders.specs.declared.causes.PairEnd.TheVariants.{App as AppSide, Server as ServerSide}
use Rattle.plain_orders.specs.declared.entry.Entry.{Entry}
use Rattle.plain_orders.specs.declared.causes.Loss.TheVariants.{Reset as ByReset, Expired as ByExpired, NoWay as ByNoWay}
use Rattle.plain_orders.specs.declared.causes.Loss.{Loss}
use Rattle.plain_orders.specs.declared.refused.Refused.{Refused as RefusedAs}
use Rattle.plain_orders.specs.declared.refused.Refused.TheVariants.{NoTransaction, TooDeep, RollbackOnly, LockTimeout, Network}
use Rattle.plain_runs.specs.EndRows.{lost}
use Rattle.plain_runs.specs.JobRows.{refused}
use Rattle.plain_orders.specs.declared.layout.Layout.{Layout}
use Rattle.plain_runs.specs.Plain.{Plain, start, put}
use Rattle.plain_runs.specs.Run.{IsRun, after_all, state_after}
use Rattle.plain_runs.specs.Step.{after}
use Rattle.plain_runs.proofs.RunLemmas.{after_all-append}
use Rattle.app_job.specs.declared.command.Command.{Command}
use Rattle.app_job.specs.declared.command.Command.TheVariants as commands
use Rattle.app_rules.specs.declared.app_in.AppIn.{AppIn}
use Rattle.app_rules.specs.AppStep.{made}
use Rattle.app_rules.specs.Works.{begun}
use Rattle.app_rules.proofs.StepLaws.{steps_at_one_end}
use Rattle.data_rules.specs.declared.data_in.DataIn.{DataIn}
use Rattle.cluster_runs.specs.declared.move_outs.MoveOuts.{MoveOuts}
use Rattle.cluster_runs.specs.declared.moves.Move.{Move}
use Rattle.cluster_runs.specs.declared.moves.Move.TheVariants.{Step, Looked, App, Server as ServerMove, Begin, Halt, Die, Tick}
use Rattle.cluster_runs.specs.CoresState.{CoresState, app_of_job}
use Rattle.cluster_runs.specs.Goes.{AppGoes, BeginGoes, Goes, JobGoes, LookedGoes, ServerGoes, dies}
use Rattle.cluster_runs.specs.Machine.{Machine, app_state, with_acts}
use Rattle.cluster_runs.specs.Mirrors.{Mirrors}
use Rattle.cluster_runs.specs.Moves.{Allowed}
use Rattle.cluster_runs.specs.Steps.{begin_act}
use Rattle.cluster_invariant.specs.Holds.{Holds}
use Rattle.cluster_invariant.proofs.OrderMoves.{server_wrote}
use Rattle.cluster_invariant.proofs.OrderRows.{StepWrote}
use Rattle.cluster_invariant.proofs.Frame.{kept_by_tick}
use Rattle.cluster_invariant.proofs.Small.{at_places, put_other, put_same}
use Rattle.cluster_steps.proofs.JobActs.{Wrote, wrote_by}
use Rattle.cluster_steps.proofs.JobPieces.{IsOfJob}
use Rattle.cluster_steps.proofs.JobPiecesOf.{job_goes}
use Rattle.ends_kept.proofs.PairActs.{IsAt, IsOfApp}
use Rattle.ends_kept.proofs.TablesKept.{tables_by_input}
use Rattle.ends_kept.proofs.TablesMoves.{app_may, tables_begin}

-- the clock and who is dead are as they were
pub record SameTime (p q : Plain) : Type 0 where
  pub clock : q.clock ≡ p.clock
  pub died : (app : ℕ) → q.died_at app ≡ p.died_at app

same_time : (p : Plain) → SameTime p p
same_time p = record { clock = refl; died = λ app. refl }

lost_time : (l : Layout) (p : Plain) (app d : ℕ) (loss : Loss) → SameTime p (lost l p app d loss)
lost_time l p app d (ByReset at) = record { clock = refl; died = λ i. refl }
lost_time l p app d (ByExpired time) = record { clock = refl; died = λ i. refl }
lost_time l p app d (ByNoWay before later) = record { clock = refl; died = λ i. refl }

refused_time : (p : Plain) (job : ℕ) (refusal : RefusedAs) → SameTime p (refused p job refusal)
refused_time p job NoTransaction = same_time p
refused_time p job TooDeep = same_time p
refused_time p job RollbackOnly = same_time p
refused_time p job LockTimeout = same_time p
refused_time p job (Network server state reason) = record { clock = refl; died = λ i. refl }

at_time : (l : Layout) (p : Plain) (app d : ℕ) (a : Act) → IsAt app d a → SameTime p (after l p a)
at_time l p app d (Opened e entries) at = absurd at
at_time l p app d (Enter e entry) at = absurd at
at_time l p app d (Synced e n) at = absurd at
at_time l p app d (Shut e session cause) at = absurd at
at_time l p app d (Release e session) at = absurd at
at_time l p app d (Met a e session) at = record { clock = refl; died = λ i. refl }
at_time l p app d (Told a e session epoch kept) at = record { clock = refl; died = λ i. refl }
at_time l p app d (Back e) at = absurd at
at_time l p app d (Crash e kept) at = absurd at
at_time l p app d (Issue job line e w item) at = absurd at
at_time l p app d (Read job line e place via question) at = absurd at
at_time l p app d (Grant e session job mode key place) at = absurd at
at_time l p app d (Granted job line e place) at = absurd at
at_time l p app d (GiveUp job line e mode key) at = absurd at
at_time l p app d (Quit job line e mode key) at = absurd at
at_time l p app d (Free e session job mode key) at = absurd at
at_time l p app d (Counted job line e place sum) at = absurd at
at_time l p app d (NotWhole job line e place) at = absurd at
at_time l p app d (Range job line e place) at = absurd at
at_time l p app d (Committed job line e place) at = absurd at
at_time l p app d (RolledBack job line e place) at = absurd at
at_time l p app d (Reached job line e place) at = absurd at
at_time l p app d (Level job line level) at = absurd at
at_time l p app d (Done job line) at = absurd at
at_time l p app d (Refused job line refusal) at = absurd at
at_time l p app d (Broke a e AppSide time) at = record { clock = refl; died = λ i. refl }
at_time l p app d (Broke a e ServerSide time) at = absurd at
at_time l p app d (Mended a e) at = record { clock = refl; died = λ i. refl }
at_time l p app d (TickAct time) at = absurd at
at_time l p app d (Lose a e loss) at = lost_time l p a e loss
at_time l p app d (Died a) at = absurd at

job_time : (l : Layout) (p : Plain) (a : Act) → IsOfJob a → SameTime p (after l p a)
job_time l p (Opened d entries) of = absurd of
job_time l p (Enter d entry) of = absurd of
job_time l p (Synced d n) of = absurd of
job_time l p (Shut d session cause) of = absurd of
job_time l p (Release d session) of = absurd of
job_time l p (Met app d session) of = absurd of
job_time l p (Told app d session epoch kept) of = absurd of
job_time l p (Back d) of = absurd of
job_time l p (Crash d kept) of = absurd of
job_time l p (Issue job line d w item) of = record { clock = refl; died = λ i. refl }
job_time l p (Read job line d at via question) of = record { clock = refl; died = λ i. refl }
job_time l p (Grant d session job mode key at) of = absurd of
job_time l p (Granted job line d at) of = record { clock = refl; died = λ i. refl }
job_time l p (GiveUp job line d mode key) of = record { clock = refl; died = λ i. refl }
job_time l p (Quit job line d mode key) of = record { clock = refl; died = λ i. refl }
job_time l p (Free d session job mode key) of = absurd of
job_time l p (Counted job line d at sum) of = record { clock = refl; died = λ i. refl }
job_time l p (NotWhole job line d at) of = record { clock = refl; died = λ i. refl }
job_time l p (Range job line d at) of = record { clock = refl; died = λ i. refl }
job_time l p (Committed job line d at) of = record { clock = refl; died = λ i. refl }
job_time l p (RolledBack job line d at) of = record { clock = refl; died = λ i. refl }
job_time l p (Reached job line d at) of = record { clock = refl; died = λ i. refl }
job_time l p (Level job line level) of = record { clock = refl; died = λ i. refl }
job_time l p (Done job line) of = record { clock = refl; died = λ i. refl }
job_time l p (Refused job line refusal) of = refused_time p job refusal
job_time l p (Broke app d end time) of = absurd of
job_time l p (Mended app d) of = absurd of
job_time l p (TickAct time) of = absurd of
job_time l p (Lose app d loss) of = absurd of
job_time l p (Died app) of = absurd of

app_time : (l : Layout) (p : Plain) (app : ℕ) (a : Act) → IsOfApp app a → SameTime p (after l p a)
app_time l p app a (inl x) = at_time l p app x.0 a x.1
app_time l p app a (inr x) = job_time l p a x

all_time : (l : Layout) (p : Plain) (acts : List Act) (P : Act → Type 0) → ((q : Plain) (a : Act) → P a → SameTime q (after l q a)) → AllByRecursion P acts → SameTime p (after_all l p acts)
all_time l p [] P each all = same_time p
all_time l p (a ∷ acts) P each all = go (each p a all.0) (all_time l (after l p a) acts P each all.1)
  where
    go : SameTime p (after l p a) → SameTime (after l p a) (after_all l (after l p a) acts) → SameTime p (after_all l p (a ∷ acts))
    go x y = record { clock = y.clock ∙ x.clock; died = λ app. y.died app ∙ x.died app }

-- What the machine has of the layout, the clock and the dead, against a plain state.
pub record TimesOf (l : Layout) (p : Plain) (m : Machine) : Type 0 where
  pub layout : m.layout ≡ l
  pub clock : p.clock ≡ m.clock
  pub died : (app : ℕ) → p.died_at app ≡ m.is_dead_at app

abbrev pub TimesHold : Layout → Machine → Type 0
TimesHold l m = TimesOf l (state_after l m.trail) m

-- a machine that goes on by acts that leave the clock and the dead, where it leaves them too
quietly : (l : Layout) (m new : Machine) (written : List Act) → Holds l m → new.trail ≡ m.trail ++ written → new.layout ≡ m.layout → new.clock ≡ m.clock → new.is_dead_at ≡ m.is_dead_at
    → SameTime (state_after l m.trail) (after_all l (state_after l m.trail) written) → TimesHold l new
quietly l m new written h trail layout clock dead time =
    subst (λ (ws : List Act). TimesOf l (state_after l ws) new) (sym trail)
    (subst (λ (q : Plain). TimesOf l q new) (sym (after_all-append l start m.trail written)) (record {
      layout = layout ∙ h.layout;
      clock = time.clock ∙ h.clock ∙ sym clock;
      died = λ app. time.died app ∙ h.died app ∙ ap (λ (f : ℕ → Bool). f app) (sym dead);
    }))

looked_time : (l : Layout) (m : Machine) (app job line : ℕ) (command : Command) (outs : MoveOuts) (written : List Act) (new : Machine) → Holds l m
    → LookedGoes m app job line command outs written new → TimesHold l new
looked_time l m app job line (commands.Set at value) outs written new h goes = absurd goes
looked_time l m app job line (commands.Kill at) outs written new h goes = absurd goes
looked_time l m app job line (commands.Get at) outs written new h goes =
    quietly l m new written h (ap (λ (n : Machine). n.trail) goes.after) (ap (λ (n : Machine). n.layout) goes.after) (ap (λ (n : Machine). n.clock) goes.after)
    (ap (λ (n : Machine). n.is_dead_at) goes.after)
    (subst (λ (ws : List Act). SameTime (state_after l m.trail) (after_all l (state_after l m.trail) ws)) (sym goes.acts) (record { clock = refl; died = λ i. refl }))
looked_time l m app job line (commands.Shape at) outs written new h goes = absurd goes
looked_time l m app job line (commands.Next parent sub) outs written new h goes = absurd goes
looked_time l m app job line (commands.Incr at amount) outs written new h goes = absurd goes
looked_time l m app job line (commands.Lock at mode wait) outs written new h goes = absurd goes
looked_time l m app job line (commands.Unlock at mode at_once) outs written new h goes = absurd goes
looked_time l m app job line commands.Start outs written new h goes = absurd goes
looked_time l m app job line (commands.Commit sync) outs written new h goes = absurd goes
looked_time l m app job line commands.Rollback outs written new h goes = absurd goes
looked_time l m app job line (commands.Sync server) outs written new h goes = absurd goes

job_move_time : (l : Layout) (m : Machine) (app job now line : ℕ) (command : Command) (outs : MoveOuts) (written : List Act) (new : Machine) → Holds l m
    → JobGoes m app job now line command outs written new → TimesHold l new
job_move_time l m app job now line command outs written new h goes =
    go (wrote_by (begun (app_state m app)) (made goes.state goes.app_outs)
    (job_goes (app_state m app) goes.state (m.job_at job) goes.job_state now line command goes.answer goes.app_outs goes.steps))
  where
    go : Wrote (begun (app_state m app)) (made goes.state goes.app_outs) → TimesHold l new
    go w =
        quietly l m new written h (ap (λ (n : Machine). n.trail) goes.after) (ap (λ (n : Machine). n.layout) goes.after) (ap (λ (n : Machine). n.clock) goes.after)
        (ap (λ (n : Machine). n.is_dead_at) goes.after)
        (subst (λ (ws : List Act). SameTime (state_after l m.trail) (after_all l (state_after l m.trail) ws)) (sym (goes.acts ∙ w.acts))
        (all_time l (state_after l m.trail) w.written IsOfJob (λ q a of. job_time l q a of) w.of_job))

app_move_time : (l : Layout) (c : CoresState) (m : Machine) (app now : ℕ) (input : AppIn) (outs : MoveOuts) (written : List Act) (new : Machine) → Holds l m → Mirrors c m
    → Allowed c (App app now input) → AppGoes m app now input outs written new → TimesHold l new
app_move_time l c m app now input outs written new h shows allowed goes =
    quietly l m new written h (ap (λ (n : Machine). n.trail) goes.after) (ap (λ (n : Machine). n.layout) goes.after) (ap (λ (n : Machine). n.clock) goes.after)
    (ap (λ (n : Machine). n.is_dead_at) goes.after)
    (subst (λ (ws : List Act). SameTime (state_after l m.trail) (after_all l (state_after l m.trail) ws)) (sym goes.acts)
    (all_time l (state_after l m.trail) goes.app_outs.acts (IsOfApp app) (λ q a of. app_time l q app a of) own))
  where
    own : AllByRecursion (IsOfApp app) goes.app_outs.acts
    own =
        (tables_by_input input l (state_after l m.trail) app now (begun (app_state m app)) (made goes.state goes.app_outs)
        (tables_begin l c m app h shows allowed.known (sym (shows.dead app) ∙ allowed.alive))
        (app_may c m app input shows allowed.known allowed.may) (steps_at_one_end (app_state m app) goes.state now input goes.app_outs goes.steps).1 goes.steps).own

server_time : (l : Layout) (c : CoresState) (m : Machine) (server now : ℕ) (input : DataIn) (outs : MoveOuts) (written : List Act) (new : Machine)
    → Holds l m → IsRun l m.trail → Mirrors c m → Allowed c (ServerMove server now input) → ServerGoes m server now input outs written new → TimesHold l new
server_time l c m server now input outs written new h run shows allowed goes = go (server_wrote l c m server now input outs written new h run shows allowed goes)
  where
    go : StepWrote server goes.node goes.state (state_after l m.trail) (after_all l (state_after l m.trail) written) → TimesHold l new
    go w =
        quietly l m new written h (ap (λ (n : Machine). n.trail) goes.after) (ap (λ (n : Machine). n.layout) goes.after) (ap (λ (n : Machine). n.clock) goes.after)
        (ap (λ (n : Machine). n.is_dead_at) goes.after) (record { clock = w.clock; died = w.died })

begin_time : (l : Layout) (m : Machine) (server now : ℕ) (es : List Entry) (outs : MoveOuts) (written : List Act) (new : Machine) → Holds l m
    → BeginGoes m server now es outs written new → TimesHold l new
begin_time l m server now es outs written new h goes =
    quietly l m new written h (ap (λ (n : Machine). n.trail) goes.after) (ap (λ (n : Machine). n.layout) goes.after) (ap (λ (n : Machine). n.clock) goes.after)
    (ap (λ (n : Machine). n.is_dead_at) goes.after)
    (subst (λ (ws : List Act). SameTime (state_after l m.trail) (after_all l (state_after l m.trail) ws)) (sym goes.acts) (by (m.site_at server).order))
  where
    by : (o : Option (List Entry)) → SameTime (state_after l m.trail) (after_all l (state_after l m.trail) (begin_act o server es ∷ []))
    by None = record { clock = refl; died = λ i. refl }
    by (Some order) = record { clock = refl; died = λ i. refl }

-- Each move keeps them.
pub times_stay : (l : Layout) (c : CoresState) (m : Machine) (move : Move) (outs : MoveOuts) (written : List Act) (new : Machine)
    → Holds l m → IsRun l m.trail → Mirrors c m → Allowed c move → Goes m move outs written new → TimesHold l new
times_stay l c m (Step job now line command) outs written new h run shows allowed goes = job_move_time l m (app_of_job m.layout job) job now line command outs written new h goes
times_stay l c m (Looked job line command) outs written new h run shows allowed goes = looked_time l m (app_of_job m.layout job) job line command outs written new h goes
times_stay l c m (App app now input) outs written new h run shows allowed goes = app_move_time l c m app now input outs written new h shows allowed goes
times_stay l c m (ServerMove server now input) outs written new h run shows allowed goes = server_time l c m server now input outs written new h run shows allowed goes
times_stay l c m (Begin server now es) outs written new h run shows allowed goes = begin_time l m server now es outs written new h goes
times_stay l c m (Halt server) outs written new h run shows allowed goes =
    subst (λ (n : Machine). TimesHold l n) (sym goes.after) (record { layout = h.layout; clock = h.clock; died = h.died })
times_stay l c m (Die app) outs written new h run shows allowed goes =
    subst (λ (n : Machine). TimesHold l n) (sym goes.after)
    (subst (λ (ws : List Act). TimesHold l (with_acts ws (dies app m))) (sym goes.acts)
    (subst (λ (q : Plain). TimesOf l q (with_acts (Died app ∷ []) (dies app m))) (sym (after_all-append l start m.trail (Died app ∷ []))) (record {
      layout = h.layout;
      clock = h.clock;
      died =
          at_places (λ (i : ℕ) (b : Bool). put (state_after l m.trail).died_at app true i ≡ b) m.is_dead_at app true (put_same (state_after l m.trail).died_at app true)
          (λ q other. put_other (state_after l m.trail).died_at app true q other ∙ h.died q);
    })))
times_stay l c m (Tick now) outs written new h run shows allowed goes = record {
  layout = (kept_by_tick l m new now outs written h goes).layout;
  clock = (kept_by_tick l m new now outs written h goes).clock;
  died = (kept_by_tick l m new now outs written h goes).died;
}
