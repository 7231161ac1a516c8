-- Coherence over each command of a job: its end is told of no other order, and what was put to its session is as it was.
use Rattle.std.proofs.Common.{◌≡◌, ◌≤◌, ◌<◌, ◌&&◌, ◌==◌, ℕ, Bool, true, false, if◌then◌else◌, List, [], ◌++◌, length, Option, Some, None, is_some, refl, sym, ◌∙◌, ap, subst, arith}
use Rattle.std.specs.Prelude.{IfSome}
use Rattle.std.specs.List.{AllByRecursion}
use Rattle.plain_orders.specs.declared.act.Act.{Act}
use Rattle.plain_orders.specs.declared.entry.Entry.{Entry}
use Rattle.plain_orders.specs.declared.layout.Layout.{Layout}
use Rattle.plain_runs.specs.Plain.{Plain, Server, start, current, order_at, put}
use Rattle.plain_runs.specs.Run.{IsRun, after_all, state_after}
use Rattle.plain_runs.proofs.RunLemmas.{after_all-append}
use Rattle.ecp_messages.specs.declared.down.Down.{Down}
use Rattle.ecp_messages.specs.declared.front.Front.{Front}
use Rattle.ecp_messages.specs.declared.up.UpFrame.{UpFrame}
use Rattle.app_job.specs.declared.command.Command.{Command}
use Rattle.app_rules.specs.declared.app_outs.AppOuts.{AppOuts}
use Rattle.app_rules.specs.AppState.{AppState, AppEnd, Session}
use Rattle.app_rules.specs.AppStep.{made}
use Rattle.app_rules.specs.Works.{end_at, begun, is_normal}
use Rattle.data_rules.specs.DataState.{DataState}
use Rattle.cluster_runs.specs.CoresState.{CoresState, app_of_job, is_dead}
use Rattle.cluster_runs.specs.declared.move_outs.MoveOuts.{MoveOuts}
use Rattle.cluster_runs.specs.declared.moves.Move.TheVariants.{Step}
use Rattle.cluster_runs.specs.Connections.{ups_to}
use Rattle.cluster_runs.specs.Goes.{JobGoes, app_site, app_end, at_told, job_site}
use Rattle.cluster_runs.specs.Lanes.{is_told_new, with_app_step, sent_before}
use Rattle.cluster_runs.specs.Machine.{Machine, Site, End, app_state, end_state}
use Rattle.cluster_runs.specs.Mirrors.{Mirrors}
use Rattle.cluster_runs.specs.Moves.{Allowed}
use Rattle.cluster_runs.specs.Sent.{Lane, Place}
use Rattle.cluster_invariant.specs.Coherence.{IsCoherent, BlocksHold, IsHeld, NodeHeld, CoherenceHolds}
use Rattle.cluster_invariant.specs.Holds.{Holds}
use Rattle.cluster_invariant.specs.Words.{stays_at}
use Rattle.cluster_invariant.proofs.OrderBeside.{SameOrders, rows_same, leaves_orders}
use Rattle.cluster_invariant.proofs.OrdersStay.{orders_agree}
use Rattle.cluster_invariant.proofs.Small.{some_kept}
use Rattle.cluster_steps.proofs.AppSites.{SameBeside, site_beside, app_ends}
use Rattle.cluster_steps.proofs.JobActs.{Wrote, wrote_by}
use Rattle.cluster_steps.proofs.JobEnds.{grows_by}
use Rattle.cluster_steps.proofs.JobPieces.{GoesOn}
use Rattle.cluster_steps.proofs.JobPiecesOf.{job_goes}
use Rattle.cluster_steps.proofs.Outcomes.{EndKept, command_told}
use Rattle.ends_kept.proofs.OrderApps.{no_news}
use Rattle.ends_kept.proofs.OrderJobs.{all_leave}
use Rattle.ends_kept.proofs.TablesKept.{normal_has}
use Rattle.coherence_kept.proofs.ShortMoves.{PutsCoherent}
use Rattle.coherence_kept.proofs.Grows.{OrdersOn, coherent_later}
use Rattle.coherence_kept.proofs.DeedsOn.{deeds_on}

-- what was put to a session, and the front of its Welcome, are as they were
pub record SameDown (a b : Lane) : Type 0 where
  pub front : b.front ≡ a.front
  pub down : b.down ≡ a.down

-- where an application server learns of no order
pub step_down : (m : Option Down) (n sent : ℕ) (q : Option Session) (frames : List UpFrame) (a : Lane) → SameDown a (with_app_step false m n sent q frames a)
step_down m n sent None frames a = record { front = refl; down = refl }
step_down m n sent (Some t) frames a = record { front = refl; down = refl }

pub told_down : (o : Option Place) (f : Lane → Lane) → ((a : Lane) → SameDown a (f a)) → (z : Site) (s k : ℕ) → SameDown (z.lane_at s k) ((at_told o f z).lane_at s k)
told_down None f same z s k = record { front = refl; down = refl }
told_down (Some p) f same z s k = go (s == p.session && k == p.order)
  where
    go : (b : Bool) → SameDown (z.lane_at s k) (if b then f (z.lane_at s k) else z.lane_at s k)
    go true = same (z.lane_at s k)
    go false = record { front = refl; down = refl }

-- A site after a step of an application server of which its end learns of no order.
pub site_down : (app d : ℕ) (outs : AppOuts) (old new : AppEnd) (m : Option Down) (e : End) (x : Site) → is_told_new old.session new.session ≡ false
    → (s k : ℕ) → SameDown (x.lane_at s k) ((app_site app d outs old new m e x).lane_at s k)
site_down app d outs old new m e x none s k =
    told_down e.told (with_app_step (is_told_new old.session new.session) m old.dial (sent_before old.session) new.session (ups_to d outs.frames))
    (λ a.
    subst (λ (b : Bool). SameDown a (with_app_step b m old.dial (sent_before old.session) new.session (ups_to d outs.frames) a)) (sym none)
    (step_down m old.dial (sent_before old.session) new.session (ups_to d outs.frames) a))
    (record x { end_at = put x.end_at app e }) s k

-- What was put stays coherent where nothing more is put.
pub coherence_beside : (v w : Server) (x y : Site) → OrdersOn v w → current w ≡ current v → SameBeside x y → ((s k : ℕ) → SameDown (x.lane_at s k) (y.lane_at s k))
    → CoherenceHolds v x → CoherenceHolds w y
coherence_beside v w x y on now same lanes h = record {
  lanes = λ s k low. coherent s k (omega (arith, low, now));
  node =
      subst (λ (o : Option DataState). IfSome o (NodeHeld y)) (sym same.node)
      (some_kept (NodeHeld x) (NodeHeld y) (λ n is. record { held = λ s lives. held n s (is.held s lives); noted = is.noted }) x.node h.node);
}
  where
    coherent : (s k : ℕ) → k ≤ current v → IsCoherent (order_at w k) (stays_at w k) s (y.lane_at s k).front (y.lane_at s k).down
    coherent s k low =
        subst (λ (f : Front). IsCoherent (order_at w k) (stays_at w k) s f (y.lane_at s k).down) (sym (lanes s k).front)
        (subst (IsCoherent (order_at w k) (stays_at w k) s (x.lane_at s k).front) (sym (lanes s k).down)
        (coherent_later (order_at v k) (order_at w k) (stays_at v k) (stays_at w k) s (x.lane_at s k).front (x.lane_at s k).down (on.goes_on k low) (on.within k low)
        (on.stays k low) (h.lanes s k low)))

    held : (n : DataState) (s : ℕ) → BlocksHold n.order (IsHeld n.order n.noted s) (x.lane_at s x.past).down → BlocksHold n.order (IsHeld n.order n.noted s) (y.lane_at s y.past).down
    held n s is =
        subst (λ (k : ℕ). BlocksHold n.order (IsHeld n.order n.noted s) (y.lane_at s k).down) (sym same.past)
        (subst (BlocksHold n.order (IsHeld n.order n.noted s)) (sym (lanes s x.past).down) is)

-- Each command of a job keeps it.
pub puts_kept_by_job : (l : Layout) (c : CoresState) (m : Machine) (job now line : ℕ) (command : Command) (outs : MoveOuts) (written : List Act) (new : Machine)
    → Holds l m → IsRun l m.trail → Mirrors c m → Allowed c (Step job now line command) → JobGoes m (app_of_job m.layout job) job now line command outs written new
    → PutsCoherent l new
puts_kept_by_job l c m job now line command outs written new h run shows allowed goes =
    subst (λ (n : Machine). PutsCoherent l n) (sym goes.after)
    (subst (λ (ws : List Act). (d : ℕ) → CoherenceHolds ((state_after l (m.trail ++ ws)).server_at d) (site d)) (sym goes.acts)
    (λ d. go d (wrote_by (begun a) (made goes.state goes.app_outs) steps)))
  where
    app : ℕ
    app = app_of_job m.layout job

    a : AppState
    a = app_state m app

    site : ℕ → Site
    site d = job_site app goes.app_outs goes.state d (m.site_at d)

    placed : app < c.layout.apps
    placed = subst (λ (k : Layout). app_of_job k job < c.layout.apps) shows.layout allowed.alive.placed

    alive : m.is_dead_at app ≡ false
    alive = sym (shows.dead app) ∙ ap (λ (k : Layout). is_dead c (app_of_job k job)) (sym shows.layout) ∙ allowed.alive.alive

    steps : GoesOn (begun a) (made goes.state goes.app_outs)
    steps = job_goes a goes.state (m.job_at job) goes.job_state now line command goes.answer goes.app_outs goes.steps

    normal : (d : ℕ) → is_normal (end_at a d).link ≡ true → is_some (end_at a d).session ≡ true
    normal d =
        subst (λ (e : AppEnd). is_normal e.link ≡ true → is_some e.session ≡ true) (sym (app_ends c m app d shows placed))
        (normal_has (((state_after l m.trail).server_at d).pair_at app) (end_state m app d) ((h.sites d).ends.tables app alive))

    go : (d : ℕ) → Wrote (begun a) (made goes.state goes.app_outs) → CoherenceHolds ((state_after l (m.trail ++ goes.app_outs.acts)).server_at d) (site d)
    go d w =
        subst (λ (q : Plain). CoherenceHolds (q.server_at d) (site d)) (sym (after_all-append l start m.trail goes.app_outs.acts))
        (by (rows_same l (state_after l m.trail) goes.app_outs.acts
        (subst (λ (ws : List Act). AllByRecursion (λ y. leaves_orders y ≡ true) ws) (sym w.acts) (all_leave w.written w.of_job)) d))
      where
        v : Server
        v = (state_after l m.trail).server_at d

        u : Server
        u = (after_all l (state_after l m.trail) goes.app_outs.acts).server_at d

        e : End
        e = (m.site_at d).end_at app

        moved : End
        moved = app_end d goes.app_outs e.state (end_at goes.state d) e.shown None e

        kept : EndKept e.state (end_at goes.state d)
        kept =
            subst (λ (y : AppEnd). EndKept y (end_at goes.state d)) (app_ends c m app d shows placed)
            (command_told d (begun a) (made goes.state goes.app_outs) (grows_by (begun a) (made goes.state goes.app_outs) steps normal d))

        by : SameOrders v u → CoherenceHolds u (site d)
        by s =
            coherence_beside v u (m.site_at d) (site d) (deeds_on v u [] (orders_agree l m.trail d run) tt s.past s.order (omega (arith, s.synced)))
            (ap (λ (xs : List (List Entry)). length xs) s.past) (site_beside app d goes.app_outs e.state (end_at goes.state d) None moved (m.site_at d))
            (site_down app d goes.app_outs e.state (end_at goes.state d) None moved (m.site_at d) (no_news e.state.session (end_at goes.state d).session kept.session))
            (h.sites d).coherence
