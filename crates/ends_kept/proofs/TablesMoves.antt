-- The tables of application ends are kept by the moves of application servers and their jobs.
use Rattle.std.proofs.Common.{◌≡◌, ◌≢◌, ◌<◌, ℕ, Bool, true, false, List, ◌++◌, length, refl, sym, ◌∙◌, ap, subst, eqb, None}
use Rattle.std.specs.Prelude.{Option}
use Rattle.std.proofs.lemmas.Bool.{eqb-true, eq-eqb, false≢true}
use Rattle.std.proofs.lemmas.List.FromFn.{length-map-range_with_len}
use Rattle.plain_orders.specs.declared.act.Act.{Act}
use Rattle.plain_orders.specs.declared.layout.Layout.{Layout}
use Rattle.plain_runs.specs.Plain.{Plain, put, start}
use Rattle.plain_runs.specs.Run.{after_all, state_after}
use Rattle.plain_runs.proofs.RunLemmas.{after_all-append}
use Rattle.app_job.specs.declared.command.Command.{Command}
use Rattle.ecp_messages.specs.declared.down.Down.{Down}
use Rattle.app_rules.specs.declared.app_in.AppIn.{AppIn}
use Rattle.app_rules.specs.declared.app_in.AppIn.TheVariants as app_in
use Rattle.app_rules.specs.declared.app_outs.AppOuts.{AppOuts}
use Rattle.app_rules.specs.AppState.{AppState, AppEnd}
use Rattle.app_rules.specs.AppStep.{AppMay, made}
use Rattle.app_rules.specs.Looks.{Shown}
use Rattle.app_rules.specs.Works.{end_at, begun}
use Rattle.app_rules.proofs.StepLaws.{steps_at_one_end}
use Rattle.app_rules.proofs.JobKept.{job_steps_keep}
use Rattle.cluster_runs.specs.CoresState.{CoresState, app_at, app_of_job, is_dead}
use Rattle.cluster_runs.specs.declared.move_outs.MoveOuts.{MoveOuts}
use Rattle.cluster_runs.specs.declared.moves.Move.TheVariants.{App, Step}
use Rattle.cluster_runs.specs.Moves.{Allowed}
use Rattle.cluster_runs.specs.Mirrors.{Mirrors}
use Rattle.cluster_runs.specs.Machine.{Machine, End, app_state, end_state}
use Rattle.cluster_runs.specs.Goes.{AppGoes, JobGoes, app_site, app_end, input_site, job_site, app_takes, message_from}
use Rattle.cluster_invariant.specs.Ends.{AppTables}
use Rattle.cluster_invariant.specs.Holds.{Holds}
use Rattle.cluster_invariant.proofs.Small.{put_same, put_other}
use Rattle.cluster_steps.proofs.AppSites.{site_ends, end_has_state, app_ends}
use Rattle.cluster_steps.proofs.JobPiecesOf.{job_goes}
use Rattle.ends_kept.proofs.PairActs.{acts_beside}
use Rattle.ends_kept.proofs.TablesKept.{TablesAre, tables_by_input, tables_by_command}

-- what may come at the ends as the lists have them, at the ends of the machine
pub app_may : (c : CoresState) (m : Machine) (app : ℕ) (input : AppIn) → Mirrors c m → app < c.layout.apps → AppMay (app_at c app) input → AppMay (app_state m app) input
app_may c m app input shows known may = go input may
  where
    count : length (app_at c app).ends ≡ length (app_state m app).ends
    count = (shows.apps app known).whole ∙ ap (λ l. l.servers) shows.layout ∙ sym (length-map-range_with_len (end_state m app) 0 m.layout.servers)

    there : (d : ℕ) → d < length (app_at c app).ends → d < length (app_state m app).ends
    there d low = subst (λ n. d < n) count low

    same : (d : ℕ) → end_at (app_at c app) d ≡ end_at (app_state m app) d
    same d = shows.ends app d ∙ sym (app_ends c m app d shows known)

    go : (x : AppIn) → AppMay (app_at c app) x → AppMay (app_state m app) x
    go (app_in.Frame d frame) h = record { known = there d h.known; is_frame = h.is_frame }
    go (app_in.Connected d) h = record { known = there d h.known; tried = ap (λ (e : AppEnd). e.line) (sym (same d)) ∙ h.tried }
    go (app_in.NoWay d before later) h = record { tried = record { known = there d h.tried.known; tried = ap (λ (e : AppEnd). e.line) (sym (same d)) ∙ h.tried.tried }; rose = h.rose }
    go (app_in.Broken d) h = there d h
    go (app_in.Join d) h = there d h
    go app_in.Tick h = tt

-- the tables as a step begins
pub tables_begin : (l : Layout) (c : CoresState) (m : Machine) (app : ℕ) → Holds l m → Mirrors c m → app < c.layout.apps → m.is_dead_at app ≡ false → TablesAre l (state_after l m.trail) app (begun (app_state m app))
tables_begin l c m app h shows known alive = record {
  its = refl;
  own = tt;
  each = λ d. subst (λ (e : AppEnd). AppTables (((state_after l m.trail).server_at d).pair_at app) e) (sym (app_ends c m app d shows known)) ((h.sites d).ends.tables app alive);
}

-- the tables of an application server and of the others after it
tables_end : (l : Layout) (m : Machine) (app d : ℕ) (state : AppState) (outs : AppOuts) (message : Option Down) (shown : Shown) (e : End) (is_dead : ℕ → Bool) → Holds l m → TablesAre l (state_after l m.trail) app (made state outs)
    → ((a : ℕ) → is_dead a ≡ m.is_dead_at a) → (a : ℕ) → is_dead a ≡ false
    → AppTables (((state_after l (m.trail ++ outs.acts)).server_at d).pair_at a)
    ((app_site app d outs ((m.site_at d).end_at app).state (end_at state d) message (app_end d outs ((m.site_at d).end_at app).state (end_at state d) shown message e) (m.site_at d)).end_at a).state
tables_end l m app d state outs message shown e is_dead h t same a alive =
    subst (λ (f : ℕ → End). AppTables (((state_after l (m.trail ++ outs.acts)).server_at d).pair_at a) (f a).state) (sym (site_ends app d outs ((m.site_at d).end_at app).state (end_at state d) message moved (m.site_at d)))
    (subst (λ (q : Plain). AppTables ((q.server_at d).pair_at a) (put (m.site_at d).end_at app moved a).state) (sym (after_all-append l start m.trail outs.acts)) (go (eqb a app) refl))
  where
    moved : End
    moved = app_end d outs ((m.site_at d).end_at app).state (end_at state d) shown message e

    p : Plain
    p = state_after l m.trail

    go : (b : Bool) → eqb a app ≡ b → AppTables (((after_all l p outs.acts).server_at d).pair_at a) (put (m.site_at d).end_at app moved a).state
    go true its =
        subst (λ n. AppTables (((after_all l p outs.acts).server_at d).pair_at n) (put (m.site_at d).end_at app moved n).state) (sym (eqb-true a app its))
        (subst (λ (x : End). AppTables (((after_all l p outs.acts).server_at d).pair_at app) x.state) (sym (put_same (m.site_at d).end_at app moved))
        (subst (λ (x : AppEnd). AppTables (((after_all l p outs.acts).server_at d).pair_at app) x) (sym (end_has_state d outs ((m.site_at d).end_at app).state (end_at state d) shown message e)) (t.each d)))
    go false other =
        subst (λ (x : End). AppTables (((after_all l p outs.acts).server_at d).pair_at a) x.state) (sym (put_other (m.site_at d).end_at app moved a differs))
        (subst (λ pair. AppTables pair ((m.site_at d).end_at a).state) (sym (acts_beside l p outs.acts app a d t.own differs)) ((h.sites d).ends.tables a (sym (same a) ∙ alive)))
      where
        differs : a ≢ app
        differs = λ is. false≢true (sym other ∙ eq-eqb a app is)

-- Each input of an application server keeps the tables.
pub tables_kept_by_app : (l : Layout) (c : CoresState) (m : Machine) (app now : ℕ) (input : AppIn) (outs : MoveOuts) (written : List Act) (new : Machine)
    → Holds l m → Mirrors c m → Allowed c (App app now input) → AppGoes m app now input outs written new
    → (d a : ℕ) → new.is_dead_at a ≡ false → AppTables (((state_after l new.trail).server_at d).pair_at a) ((new.site_at d).end_at a).state
tables_kept_by_app l c m app now input outs written new h shows allowed goes d a =
    subst (λ (n : Machine). n.is_dead_at a ≡ false → AppTables (((state_after l n.trail).server_at d).pair_at a) ((n.site_at d).end_at a).state) (sym goes.after)
    (subst (λ (ws : List Act). m.is_dead_at a ≡ false → AppTables (((state_after l (m.trail ++ ws)).server_at d).pair_at a) ((input_site app input goes.app_outs goes.state goes.shown d (m.site_at d)).end_at a).state) (sym goes.acts)
    (tables_end l m app d goes.state goes.app_outs (message_from d input) (goes.shown d) (app_takes d input ((m.site_at d).end_at app).state.dial ((m.site_at d).end_at app)) m.is_dead_at h
    (tables_by_input input l (state_after l m.trail) app now (begun (app_state m app)) (made goes.state goes.app_outs)
    (tables_begin l c m app h shows allowed.known (sym (shows.dead app) ∙ allowed.alive))
    (app_may c m app input shows allowed.known allowed.may) (steps_at_one_end (app_state m app) goes.state now input goes.app_outs goes.steps).1 goes.steps)
    (λ b. refl) a))

-- Each command of a job does.
pub tables_kept_by_job : (l : Layout) (c : CoresState) (m : Machine) (job now line : ℕ) (command : Command) (outs : MoveOuts) (written : List Act) (new : Machine)
    → Holds l m → Mirrors c m → Allowed c (Step job now line command) → JobGoes m (app_of_job m.layout job) job now line command outs written new
    → (d a : ℕ) → new.is_dead_at a ≡ false → AppTables (((state_after l new.trail).server_at d).pair_at a) ((new.site_at d).end_at a).state
tables_kept_by_job l c m job now line command outs written new h shows allowed goes d a =
    subst (λ (n : Machine). n.is_dead_at a ≡ false → AppTables (((state_after l n.trail).server_at d).pair_at a) ((n.site_at d).end_at a).state) (sym goes.after)
    (subst (λ (ws : List Act). m.is_dead_at a ≡ false → AppTables (((state_after l (m.trail ++ ws)).server_at d).pair_at a) ((job_site app goes.app_outs goes.state d (m.site_at d)).end_at a).state) (sym goes.acts)
    (tables_end l m app d goes.state goes.app_outs None ((m.site_at d).end_at app).shown ((m.site_at d).end_at app) m.is_dead_at h
    (tables_by_command l (state_after l m.trail) app (begun (app_state m app)) (made goes.state goes.app_outs) (job_steps_keep (app_state m app) goes.state (m.job_at job) goes.job_state now line command goes.answer goes.app_outs goes.steps).0.app
    (tables_begin l c m app h shows placed alive)
    (job_goes (app_state m app) goes.state (m.job_at job) goes.job_state now line command goes.answer goes.app_outs goes.steps))
    (λ b. refl) a))
  where
    app : ℕ
    app = app_of_job m.layout job

    placed : app < c.layout.apps
    placed = subst (λ (k : Layout). app_of_job k job < c.layout.apps) shows.layout allowed.alive.placed

    alive : m.is_dead_at app ≡ false
    alive = sym (shows.dead app) ∙ ap (λ (k : Layout). is_dead c (app_of_job k job)) (sym shows.layout) ∙ allowed.alive.alive
