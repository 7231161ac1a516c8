-- Fronts over each command of a job: a session's runs are among those that it had, and it has taken as much as before.
use Rattle.std.proofs.Common.{◌≡◌, ◌≤◌, ◌<◌, ℕ, Bool, true, false, List, [], ◌++◌, Option, None, is_some, refl, sym, ◌∙◌, ap, subst, arith}
use Rattle.std.specs.List.{AllByRecursion}
use Rattle.plain_orders.specs.declared.act.Act.{Act}
use Rattle.plain_orders.specs.declared.layout.Layout.{Layout}
use Rattle.cluster_invariant.specs.Words.{IsFront}
use Rattle.plain_runs.specs.Plain.{Plain, Server, current, start, order_at, put}
use Rattle.plain_runs.specs.Run.{IsRun, after_all, state_after}
use Rattle.plain_runs.proofs.RunLemmas.{after_all-append}
use Rattle.ecp_messages.specs.declared.down.Down.{Down}
use Rattle.app_job.specs.declared.command.Command.{Command}
use Rattle.app_rules.specs.AppState.{AppState, AppEnd}
use Rattle.app_rules.specs.AppStep.{made}
use Rattle.app_rules.specs.Looks.{Shown}
use Rattle.app_rules.specs.Works.{end_at, begun, is_normal}
use Rattle.cluster_runs.specs.CoresState.{CoresState, app_of_job, is_dead}
use Rattle.cluster_runs.specs.declared.move_outs.MoveOuts.{MoveOuts}
use Rattle.cluster_runs.specs.declared.moves.Move.TheVariants.{Step}
use Rattle.cluster_runs.specs.Connections.{ups_to}
use Rattle.cluster_runs.specs.Goes.{JobGoes, app_end, at_told, job_site, with_state}
use Rattle.cluster_runs.specs.Lanes.{is_told_new, told_by, with_app_step, sent_before}
use Rattle.cluster_runs.specs.Machine.{Machine, Site, End, app_state, end_state}
use Rattle.cluster_runs.specs.Mirrors.{Mirrors}
use Rattle.cluster_runs.specs.Moves.{Allowed}
use Rattle.cluster_runs.specs.Sent.{Place}
use Rattle.cluster_invariant.specs.Fronts.{FrontsHold}
use Rattle.cluster_invariant.specs.Holds.{Holds}
use Rattle.cluster_invariant.proofs.OrderBeside.{SameOrders, rows_same, leaves_orders}
use Rattle.cluster_invariant.proofs.OrdersStay.{orders_agree}
use Rattle.cluster_steps.proofs.AppSites.{app_ends, site_ends, end_has_state, end_has_shown}
use Rattle.cluster_steps.proofs.JobActs.{Wrote, wrote_by}
use Rattle.cluster_steps.proofs.JobEnds.{SessionsGrow, Grew, grows_by}
use Rattle.cluster_steps.proofs.JobPieces.{GoesOn}
use Rattle.cluster_steps.proofs.JobPiecesOf.{job_goes}
use Rattle.cluster_steps.proofs.Outcomes.{EndKept, command_told}
use Rattle.ends_kept.proofs.OrderApps.{no_news}
use Rattle.ends_kept.proofs.OrderJobs.{all_leave}
use Rattle.ends_kept.proofs.TablesKept.{normal_has}
use Rattle.fronts_kept.proofs.FrontsLater.{SameTaken}
use Rattle.link_kept.proofs.ShortMoves.{told_there}
use Rattle.fronts_kept.proofs.FrontsEnds.{FrontWith, SessionsKeep, ShownWith, front_at, front_keeps, fronts_at_end, grows_keep, kept_taken, shown_as, shown_at, shown_keeps, taken_at, told_taken}
use Rattle.coherence_kept.proofs.DeedsOn.{deeds_on}
use Rattle.fronts_kept.proofs.FrontsShort.{AllFronts}

-- the moves

pub told_same : (b : Bool) (m : Option Down) (n : ℕ) (e : End) → b ≡ false → (told_by b m n e).told ≡ e.told
told_same true m n e is = absurd (cc (is))
told_same false m n e is = refl

-- Each command of a job keeps the fronts.
pub fronts_kept_by_job : (l : Layout) (c : CoresState) (m : Machine) (job now line : ℕ) (command : Command) (outs : MoveOuts) (written : List Act) (new : Machine)
    → Holds l m → IsRun l m.trail → Mirrors c m → Allowed c (Step job now line command) → JobGoes m (app_of_job m.layout job) job now line command outs written new
    → AllFronts l new
fronts_kept_by_job l c m job now line command outs written new h run shows allowed goes =
    subst (λ (n : Machine). AllFronts l n) (sym goes.after)
    (subst (λ (ws : List Act). (d : ℕ) → FrontsHold ((state_after l (m.trail ++ ws)).server_at d) (site d) m.is_dead_at) (sym goes.acts)
    (λ d. go d (wrote_by (begun a) (made goes.state goes.app_outs) steps)))
  where
    app : ℕ
    app = app_of_job m.layout job

    a : AppState
    a = app_state m app

    site : ℕ → Site
    site d = job_site app goes.app_outs goes.state d (m.site_at d)

    placed : app < c.layout.apps
    placed = subst (λ (k : Layout). app_of_job k job < c.layout.apps) shows.layout allowed.alive.placed

    alive : m.is_dead_at app ≡ false
    alive = sym (shows.dead app) ∙ ap (λ (k : Layout). is_dead c (app_of_job k job)) (sym shows.layout) ∙ allowed.alive.alive

    steps : GoesOn (begun a) (made goes.state goes.app_outs)
    steps = job_goes a goes.state (m.job_at job) goes.job_state now line command goes.answer goes.app_outs goes.steps

    normal : (d : ℕ) → is_normal (end_at a d).link ≡ true → is_some (end_at a d).session ≡ true
    normal d =
        subst (λ (e : AppEnd). is_normal e.link ≡ true → is_some e.session ≡ true) (sym (app_ends c m app d shows placed))
        (normal_has (((state_after l m.trail).server_at d).pair_at app) (end_state m app d) ((h.sites d).ends.tables app alive))

    go : (d : ℕ) → Wrote (begun a) (made goes.state goes.app_outs) → FrontsHold ((state_after l (m.trail ++ goes.app_outs.acts)).server_at d) (site d) m.is_dead_at
    go d w =
        subst (λ (q : Plain). FrontsHold (q.server_at d) (site d) m.is_dead_at) (sym (after_all-append l start m.trail goes.app_outs.acts))
        (by (rows_same l (state_after l m.trail) goes.app_outs.acts
        (subst (λ (ws : List Act). AllByRecursion (λ y. leaves_orders y ≡ true) ws) (sym w.acts) (all_leave w.written w.of_job)) d))
      where
        v : Server
        v = (state_after l m.trail).server_at d

        u : Server
        u = (after_all l (state_after l m.trail) goes.app_outs.acts).server_at d

        x : Site
        x = m.site_at d

        e : End
        e = x.end_at app

        after : AppEnd
        after = end_at goes.state d

        moved : End
        moved = app_end d goes.app_outs e.state after e.shown None e

        grew : Grew d (begun a) (made goes.state goes.app_outs)
        grew = grows_by (begun a) (made goes.state goes.app_outs) steps normal d

        grows : SessionsGrow grew.put e.state.session after.session
        grows = subst (λ (y : AppEnd). SessionsGrow grew.put y.session after.session) (app_ends c m app d shows placed) grew.end.session

        keeps : SessionsKeep e.state.session after.session
        keeps = grows_keep grew.put e.state.session after.session grows

        kept : EndKept e.state after
        kept = subst (λ (y : AppEnd). EndKept y after) (app_ends c m app d shows placed) (command_told d (begun a) (made goes.state goes.app_outs) grew)

        none : is_told_new e.state.session after.session ≡ false
        none = no_news e.state.session after.session kept.session

        told : moved.told ≡ e.told
        told = told_same (is_told_new e.state.session after.session) None e.state.dial (with_state after e.shown e) none

        taken : (s k : ℕ) → SameTaken (x.lane_at s k) ((site d).lane_at s k)
        taken s k =
            subst (λ (p : Option Place). SameTaken (x.lane_at s k) ((at_told p (with_app_step (is_told_new e.state.session after.session) None e.state.dial (sent_before e.state.session)
            after.session (ups_to d goes.app_outs.frames)) (record x { end_at = put x.end_at app moved })).lane_at s k)) (sym told)
            (subst (λ (b : Bool). SameTaken (x.lane_at s k) ((at_told e.told (with_app_step b None e.state.dial (sent_before e.state.session)
            after.session (ups_to d goes.app_outs.frames)) (record x { end_at = put x.end_at app moved })).lane_at s k)) (sym none)
            (told_taken x (record x { end_at = put x.end_at app moved }) None e.state.dial (sent_before e.state.session) (ups_to d goes.app_outs.frames) e.told after.session refl
            (kept_taken x v app e.told e.state.session after.session keeps ((h.sites d).ends.told app alive).place ((h.sites d).link.apps app alive).window) s k))

        by : SameOrders v u → FrontsHold u (site d) m.is_dead_at
        by same =
            fronts_at_end v u x (site d) m.is_dead_at app moved on (site_ends app d goes.app_outs e.state after None moved x) (h.sites d).ends (h.sites d).fronts
            (λ i other lives. taken_at x (site d) (x.end_at i).told (x.end_at i).state.session taken)
            (subst (λ (y : AppEnd). FrontWith u (site d) moved.told y.session) (sym (end_has_state d goes.app_outs e.state after e.shown None e))
            (subst (λ (p : Option Place). FrontWith u (site d) p after.session) (sym told) own))
            (subst (λ (y : AppEnd). ShownWith (site d) moved.told moved.shown y.session) (sym (end_has_state d goes.app_outs e.state after e.shown None e))
            (subst (λ (y : Shown). ShownWith (site d) moved.told y after.session) (sym (end_has_shown d goes.app_outs e.state after e.shown None e))
            (subst (λ (p : Option Place). ShownWith (site d) p e.shown after.session) (sym told) shown)))
          where
            on : (k : ℕ) → k ≤ current v → IsFront (order_at v k) (order_at u k)
            on = (deeds_on v u [] (orders_agree l m.trail d run) tt same.past same.order (omega (arith, same.synced))).goes_on

            own : FrontWith u (site d) e.told after.session
            own =
                front_keeps u (site d) e.told e.state.session after.session keeps
                (front_at v u x (site d) e.told e.state.session on (told_there v app e ((h.sites d).ends.told app alive)) (taken_at x (site d) e.told e.state.session taken)
                ((h.sites d).fronts.apps app alive))

            shown : ShownWith (site d) e.told e.shown after.session
            shown =
                shown_keeps (site d) e.told e.shown e.state.session after.session keeps
                (shown_at x (site d) e.told e.shown e.state.session (taken_at x (site d) e.told e.state.session taken)
                (shown_as x e e.state.session ((h.sites d).fronts.shown app alive)))
