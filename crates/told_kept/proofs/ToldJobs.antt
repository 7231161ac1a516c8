-- What application ends were told stays over each step of a job.
use Rattle.std.proofs.Common.{◌≡◌, ◌<◌, ℕ, Bool, true, false, List, [], ◌∷◌, ◌++◌, Option, None, is_some, refl, sym, ◌∙◌, ap, subst}
use Rattle.std.specs.List.{AllByRecursion}
use Rattle.std.proofs.lemmas.Bool.{false≢true}
use Rattle.plain_orders.specs.declared.act.Act.{Act}
use Rattle.plain_orders.specs.declared.act.Act.TheVariants.{Opened, Enter, Synced, Shut, Release, Met, Told, Back, Crash, Issue, Read, Grant as GrantAct, Granted, GiveUp, Quit, Free, Counted, NotWhole, Range, Committed, RolledBack, Reached, Level, Done, Refused, Broke, Mended, Tick, Lose, Died}
use Rattle.plain_orders.specs.declared.layout.Layout.{Layout}
use Rattle.plain_runs.specs.Plain.{Plain, start, put}
use Rattle.plain_runs.specs.Run.{after_all, state_after}
use Rattle.plain_runs.proofs.RunLemmas.{after_all-append}
use Rattle.ecp_messages.specs.declared.down.Down.{Down}
use Rattle.app_job.specs.declared.command.Command.{Command}
use Rattle.app_rules.specs.declared.app_outs.AppOuts.{AppOuts}
use Rattle.app_rules.specs.AppState.{AppState, AppEnd}
use Rattle.app_rules.specs.AppStep.{made}
use Rattle.app_rules.specs.Looks.{Shown}
use Rattle.app_rules.specs.Works.{end_at, begun, is_normal}
use Rattle.cluster_runs.specs.CoresState.{CoresState, app_of_job, is_dead}
use Rattle.cluster_runs.specs.declared.move_outs.MoveOuts.{MoveOuts}
use Rattle.cluster_runs.specs.declared.moves.Move.TheVariants.{Step}
use Rattle.cluster_runs.specs.Goes.{JobGoes, job_site, app_site, app_end, with_state}
use Rattle.cluster_runs.specs.Lanes.{told_by, is_told_new}
use Rattle.cluster_runs.specs.Machine.{Machine, End, app_state, end_state}
use Rattle.cluster_runs.specs.Mirrors.{Mirrors}
use Rattle.cluster_runs.specs.Moves.{Allowed}
use Rattle.cluster_invariant.specs.Ends.{AppTold}
use Rattle.cluster_invariant.specs.Holds.{Holds}
use Rattle.cluster_invariant.proofs.OrderBeside.{leaves_orders}
use Rattle.cluster_invariant.proofs.Small.{at_places}
use Rattle.cluster_steps.proofs.AppSites.{site_ends, end_has_state, app_ends}
use Rattle.cluster_steps.proofs.JobActs.{Wrote, wrote_by}
use Rattle.cluster_steps.proofs.JobEnds.{grows_by}
use Rattle.cluster_steps.proofs.JobPieces.{IsOfJob, GoesOn}
use Rattle.cluster_steps.proofs.JobPiecesOf.{job_goes}
use Rattle.cluster_steps.proofs.Outcomes.{EndKept, end_same, command_told}
use Rattle.ends_kept.proofs.OrderApps.{no_news}
use Rattle.ends_kept.proofs.OrderJobs.{all_leave}
use Rattle.ends_kept.proofs.TablesKept.{normal_has}
use Rattle.told_kept.proofs.SameSessions.{leaves_told}
use Rattle.told_kept.proofs.ToldBeside.{ToldAt, ToldHolds, told_beside}

job_tells : (a : Act) → IsOfJob a → leaves_told a ≡ true
job_tells (Opened e entries) of_job = absurd of_job
job_tells (Enter e entry) of_job = absurd of_job
job_tells (Synced e n) of_job = absurd of_job
job_tells (Shut e session cause) of_job = absurd of_job
job_tells (Release e session) of_job = absurd of_job
job_tells (Met a e session) of_job = absurd of_job
job_tells (Told a e session epoch kept) of_job = absurd of_job
job_tells (Back e) of_job = absurd of_job
job_tells (Crash e kept) of_job = absurd of_job
job_tells (Issue job line e w item) of_job = refl
job_tells (Read job line e at via question) of_job = refl
job_tells (GrantAct e session job mode key at) of_job = absurd of_job
job_tells (Granted job line e at) of_job = refl
job_tells (GiveUp job line e mode key) of_job = refl
job_tells (Quit job line e mode key) of_job = refl
job_tells (Free e session job mode key) of_job = absurd of_job
job_tells (Counted job line e at sum) of_job = refl
job_tells (NotWhole job line e at) of_job = refl
job_tells (Range job line e at) of_job = refl
job_tells (Committed job line e at) of_job = refl
job_tells (RolledBack job line e at) of_job = refl
job_tells (Reached job line e at) of_job = refl
job_tells (Level job line level) of_job = refl
job_tells (Done job line) of_job = refl
job_tells (Refused job line refusal) of_job = refl
job_tells (Broke a e end time) of_job = absurd of_job
job_tells (Mended a e) of_job = absurd of_job
job_tells (Tick time) of_job = absurd of_job
job_tells (Lose a e loss) of_job = absurd of_job
job_tells (Died a) of_job = absurd of_job

pub all_told : (ws : List Act) → AllByRecursion IsOfJob ws → AllByRecursion (λ a. leaves_told a ≡ true) ws
all_told [] of_job = tt
all_told (a ∷ ws) of_job = (job_tells a of_job.0, all_told ws of_job.1)

-- an end that is told nothing new has the place that it had
pub told_same : (b : Bool) (m : Option Down) (n : ℕ) (e : End) → b ≡ false → (told_by b m n e).told ≡ e.told
told_same true m n e is = absurd (false≢true (sym is))
told_same false m n e is = refl

-- A site after a step of an application server, where its end is told nothing new by the acts.
pub told_at_site : (l : Layout) (m : Machine) (app d : ℕ) (outs : AppOuts) (state : AppState) (shown : Shown) (message : Option Down) (e : End) → Holds l m
    → AllByRecursion (λ a. leaves_orders a ≡ true) outs.acts → AllByRecursion (λ a. leaves_told a ≡ true) outs.acts → EndKept ((m.site_at d).end_at app).state (end_at state d) → e.told ≡ ((m.site_at d).end_at app).told
    → ToldAt m.is_dead_at ((state_after l (m.trail ++ outs.acts)).server_at d)
    (app_site app d outs ((m.site_at d).end_at app).state (end_at state d) message (app_end d outs ((m.site_at d).end_at app).state (end_at state d) shown message e) (m.site_at d))
told_at_site l m app d outs state shown message e h orders tells kept same =
    subst (λ (f : ℕ → End). (a : ℕ) → m.is_dead_at a ≡ false → AppTold ((state_after l (m.trail ++ outs.acts)).server_at d) a (f a)) (sym (site_ends app d outs old.state (end_at state d) message moved (m.site_at d)))
    (subst (λ (q : Plain). (a : ℕ) → m.is_dead_at a ≡ false → AppTold (q.server_at d) a (put (m.site_at d).end_at app moved a)) (sym (after_all-append l start m.trail outs.acts))
    (at_places (λ a y. m.is_dead_at a ≡ false → AppTold ((after_all l (state_after l m.trail) outs.acts).server_at d) a y) (m.site_at d).end_at app moved
    (λ alive. told_beside l (state_after l m.trail) outs.acts app d old moved orders tells (subst (λ (s : AppEnd). EndKept old.state s) (sym (end_has_state d outs old.state (end_at state d) shown message e)) kept)
    (told_same (is_told_new old.state.session (end_at state d).session) message old.state.dial (with_state (end_at state d) shown e) (no_news old.state.session (end_at state d).session kept.session) ∙ same)
    ((h.sites d).ends.told app alive))
    (λ a other alive. told_beside l (state_after l m.trail) outs.acts a d ((m.site_at d).end_at a) ((m.site_at d).end_at a) orders tells (end_same ((m.site_at d).end_at a).state) refl ((h.sites d).ends.told a alive))))
  where
    old : End
    old = (m.site_at d).end_at app

    moved : End
    moved = app_end d outs old.state (end_at state d) shown message e

-- Each step of a job.
pub told_kept_by_job : (l : Layout) (c : CoresState) (m : Machine) (job now line : ℕ) (command : Command) (outs : MoveOuts) (written : List Act) (new : Machine)
    → Holds l m → Mirrors c m → Allowed c (Step job now line command) → JobGoes m (app_of_job m.layout job) job now line command outs written new → ToldHolds l (state_after l new.trail) new
told_kept_by_job l c m job now line command outs written new h shows allowed goes =
    subst (λ (n : Machine). ToldHolds l (state_after l n.trail) n) (sym goes.after)
    (subst (λ (ws : List Act). (d : ℕ) → ToldAt m.is_dead_at ((state_after l (m.trail ++ ws)).server_at d) (job_site app goes.app_outs goes.state d (m.site_at d))) (sym goes.acts)
    (λ d. go d (wrote_by (begun a) (made goes.state goes.app_outs) steps)))
  where
    app : ℕ
    app = app_of_job m.layout job

    a : AppState
    a = app_state m app

    placed : app < c.layout.apps
    placed = subst (λ (k : Layout). app_of_job k job < c.layout.apps) shows.layout allowed.alive.placed

    alive : m.is_dead_at app ≡ false
    alive = sym (shows.dead app) ∙ ap (λ (k : Layout). is_dead c (app_of_job k job)) (sym shows.layout) ∙ allowed.alive.alive

    steps : GoesOn (begun a) (made goes.state goes.app_outs)
    steps = job_goes a goes.state (m.job_at job) goes.job_state now line command goes.answer goes.app_outs goes.steps

    normal : (d : ℕ) → is_normal (end_at a d).link ≡ true → is_some (end_at a d).session ≡ true
    normal d =
        subst (λ (e : AppEnd). is_normal e.link ≡ true → is_some e.session ≡ true) (sym (app_ends c m app d shows placed))
        (normal_has (((state_after l m.trail).server_at d).pair_at app) (end_state m app d) ((h.sites d).ends.tables app alive))

    kept : (d : ℕ) → EndKept (end_state m app d) (end_at goes.state d)
    kept d = subst (λ (y : AppEnd). EndKept y (end_at goes.state d)) (app_ends c m app d shows placed) (command_told d (begun a) (made goes.state goes.app_outs) (grows_by (begun a) (made goes.state goes.app_outs) steps normal d))

    go : (d : ℕ) → Wrote (begun a) (made goes.state goes.app_outs) → ToldAt m.is_dead_at ((state_after l (m.trail ++ goes.app_outs.acts)).server_at d) (job_site app goes.app_outs goes.state d (m.site_at d))
    go d w =
        told_at_site l m app d goes.app_outs goes.state ((m.site_at d).end_at app).shown None ((m.site_at d).end_at app) h
        (subst (λ (ws : List Act). AllByRecursion (λ y. leaves_orders y ≡ true) ws) (sym w.acts) (all_leave w.written w.of_job))
        (subst (λ (ws : List Act). AllByRecursion (λ y. leaves_told y ≡ true) ws) (sym w.acts) (all_told w.written w.of_job)) (kept d) refl
