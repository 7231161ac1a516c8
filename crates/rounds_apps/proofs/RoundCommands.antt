-- Each command of a job keeps what rounds put.
use Rattle.std.proofs.Common.{◌≡◌, ◌<◌, ℕ, Bool, true, false, List, ◌++◌, Option, Some, None, is_some, sym, ◌∙◌, ap, subst}
use Rattle.std.specs.Prelude.{IfSome}
use Rattle.std.specs.List.{AllByRecursion, list_all}
use Rattle.plain_orders.specs.declared.act.Act.{Act}
use Rattle.plain_orders.specs.declared.layout.Layout.{Layout}
use Rattle.plain_runs.specs.Plain.{Plain, Server, order_at, start}
use Rattle.plain_runs.specs.Run.{IsRun, after_all, state_after}
use Rattle.plain_runs.proofs.RunLemmas.{after_all-append}
use Rattle.app_job.specs.declared.command.Command.{Command}
use Rattle.app_rules.specs.AppState.{AppState, AppEnd, Session}
use Rattle.app_rules.specs.AppStep.{made}
use Rattle.app_rules.specs.Delivering.{is_ask_unput}
use Rattle.app_rules.specs.Works.{begun, end_at, is_normal}
use Rattle.cluster_runs.specs.CoresState.{CoresState, app_of_job, is_dead}
use Rattle.cluster_runs.specs.declared.move_outs.MoveOuts.{MoveOuts}
use Rattle.cluster_runs.specs.declared.moves.Move.TheVariants.{Step}
use Rattle.cluster_runs.specs.Goes.{JobGoes, app_end, job_site, with_state}
use Rattle.cluster_runs.specs.Lanes.{is_told_new, told_by}
use Rattle.cluster_runs.specs.Machine.{Machine, Site, End, app_state, end_state}
use Rattle.cluster_runs.specs.Mirrors.{Mirrors}
use Rattle.cluster_runs.specs.Moves.{Allowed}
use Rattle.cluster_runs.specs.Sent.{Place}
use Rattle.cluster_steps.proofs.AppSites.{app_ends, end_has_state}
use Rattle.cluster_steps.proofs.JobActs.{Wrote, wrote_by}
use Rattle.cluster_steps.proofs.JobEnds.{Grew, SessionsGrow, grows_by}
use Rattle.cluster_steps.proofs.JobPieces.{GoesOn}
use Rattle.cluster_steps.proofs.JobPiecesOf.{job_goes}
use Rattle.cluster_invariant.specs.Holds.{Holds}
use Rattle.cluster_invariant.specs.Rounds.{RoundOf, RoundsHold, SessionRound}
use Rattle.cluster_invariant.proofs.OrderBeside.{SameOrders, leaves_orders, rows_same}
use Rattle.ends_kept.proofs.OrderJobs.{all_leave}
use Rattle.ends_kept.proofs.TablesKept.{normal_has}
use Rattle.rounds_kept.specs.Laws.{EachRoundHolds}
use Rattle.rounds_apps.proofs.RoundApps.{none_new}
use Rattle.rounds_apps.proofs.RoundInputs.{SessionsGo}
use Rattle.rounds_apps.proofs.RoundJobs.{AllCalm, calm_by, grow_go}
use Rattle.rounds_apps.proofs.RoundSites.{rounds_at_site}
use Rattle.cluster_invariant.specs.Ends.{ToldPlace}

-- while Normal is awaited no Ask was put
unput_of : (v : Server) (x : Site) (e : End) (o : Option Session) (app : ℕ) → IfSome o (RoundOf v x e) → IfSome o (λ s. ToldPlace v app s e.told)
    → IfSome o (λ s. s.normal_due ≡ true → list_all is_ask_unput s.asks ≡ true)
unput_of v x e None app is place = tt
unput_of v x e (Some s) app is place = go e.told is place.its
  where
    go : (p : Option Place) → IfSome p (λ z. SessionRound (order_at v z.order) (x.lane_at s.number z.order) s) → p ≡ Some (record { session = s.number; order = place.order })
        → s.normal_due ≡ true → list_all is_ask_unput s.asks ≡ true
    go None is at = absurd cc
    go (Some z) is at = is.asks

pub rounds_kept_by_job : (l : Layout) (c : CoresState) (m : Machine) (job now line : ℕ) (command : Command) (outs : MoveOuts) (written : List Act) (new : Machine)
    → Holds l m → IsRun l m.trail → Mirrors c m → Allowed c (Step job now line command) → JobGoes m (app_of_job m.layout job) job now line command outs written new
    → EachRoundHolds l new
rounds_kept_by_job l c m job now line command outs written new h run shows allowed goes =
    subst (λ (n : Machine). EachRoundHolds l n) (sym goes.after)
    (subst (λ (ws : List Act). (d : ℕ) → RoundsHold ((state_after l (m.trail ++ ws)).server_at d) (site d) m.is_dead_at) (sym goes.acts)
    (λ d. go d (wrote_by (begun a) (made goes.state goes.app_outs) steps)))
  where
    app : ℕ
    app = app_of_job m.layout job

    a : AppState
    a = app_state m app

    site : ℕ → Site
    site d = job_site app goes.app_outs goes.state d (m.site_at d)

    placed : app < c.layout.apps
    placed = subst (λ (k : Layout). app_of_job k job < c.layout.apps) shows.layout allowed.alive.placed

    alive : m.is_dead_at app ≡ false
    alive = sym (shows.dead app) ∙ ap (λ (k : Layout). is_dead c (app_of_job k job)) (sym shows.layout) ∙ allowed.alive.alive

    steps : GoesOn (begun a) (made goes.state goes.app_outs)
    steps = job_goes a goes.state (m.job_at job) goes.job_state now line command goes.answer goes.app_outs goes.steps

    normal : (d : ℕ) → is_normal (end_at a d).link ≡ true → is_some (end_at a d).session ≡ true
    normal d =
        subst (λ (e : AppEnd). is_normal e.link ≡ true → is_some e.session ≡ true) (sym (app_ends c m app d shows placed))
        (normal_has (((state_after l m.trail).server_at d).pair_at app) (end_state m app d) ((h.sites d).ends.tables app alive))

    go : (d : ℕ) → Wrote (begun a) (made goes.state goes.app_outs) → RoundsHold ((state_after l (m.trail ++ goes.app_outs.acts)).server_at d) (site d) m.is_dead_at
    go d w =
        subst (λ (q : Plain). RoundsHold (q.server_at d) (site d) m.is_dead_at) (sym (after_all-append l start m.trail goes.app_outs.acts))
        (by (rows_same l (state_after l m.trail) goes.app_outs.acts
        (subst (λ (ws : List Act). AllByRecursion (λ y. leaves_orders y ≡ true) ws) (sym w.acts) (all_leave w.written w.of_job)) d)
        (grows_by (begun a) (made goes.state goes.app_outs) steps normal d))
      where
        v : Server
        v = (state_after l m.trail).server_at d

        u : Server
        u = (after_all l (state_after l m.trail) goes.app_outs.acts).server_at d

        x : Site
        x = m.site_at d

        e : End
        e = x.end_at app

        t : AppEnd
        t = end_at goes.state d

        by : SameOrders v u → Grew d (begun a) (made goes.state goes.app_outs) → RoundsHold u (site d) m.is_dead_at
        by same grew =
            rounds_at_site v u x m.is_dead_at app d goes.app_outs t e.shown None (app_end d goes.app_outs e.state t e.shown None e) None alive same
            (h.sites d).ends (h.sites d).link (h.sites d).rounds none
            (ap (λ (b : Bool). (told_by b None e.state.dial (with_state t e.shown e)).told) none) (end_has_state d goes.app_outs e.state t e.shown None e) went (λ s p its at. tt)
          where
            same_end : end_at a d ≡ e.state
            same_end = app_ends c m app d shows placed

            went : SessionsGo e.state.session t.session None
            went =
                grow_go e.state.link e.state.line e.state.session t.session grew.put ((h.sites d).ends.tables app alive).normal_due
                (unput_of v x e e.state.session app ((h.sites d).rounds.apps app alive) ((h.sites d).ends.told app alive).place)
                (subst (λ (f : AppEnd). SessionsGrow grew.put f.session t.session) same_end grew.end.session)
                (subst (λ (f : AppEnd). AllCalm f.link f.session t.session) same_end (calm_by (begun a) (made goes.state goes.app_outs) steps d))

            none : is_told_new e.state.session t.session ≡ false
            none = none_new e.state.session t.session None went
