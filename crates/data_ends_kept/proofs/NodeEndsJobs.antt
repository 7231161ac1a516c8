-- The data ends of running nodes stay as the invariant has them over each step of a job.
use Rattle.std.proofs.Common.{◌≡◌, ◌<◌, ℕ, Bool, true, false, List, [], ◌∷◌, ◌++◌, Option, Some, None, is_some, refl, sym, ◌∙◌, ap, subst}
use Rattle.std.specs.Prelude.{IsSomeAnd}
use Rattle.std.specs.List.{AllByRecursion}
use Rattle.std.proofs.lemmas.Bool.{false≢true}
use Rattle.plain_orders.specs.declared.act.Act.{Act}
use Rattle.plain_orders.specs.declared.act.Act.TheVariants.{Opened, Enter, Synced, Shut, Release, Met, Told, Back, Crash, Issue, Read, Grant as GrantAct, Granted, GiveUp, Quit, Free, Counted, NotWhole, Range, Committed, RolledBack, Reached, Level, Done, Refused, Broke, Mended, Tick, Lose, Died}
use Rattle.plain_orders.specs.declared.layout.Layout.{Layout}
use Rattle.plain_runs.specs.Plain.{Plain, Server, start}
use Rattle.plain_runs.specs.Run.{after_all, state_after}
use Rattle.plain_runs.proofs.RunLemmas.{after_all-append}
use Rattle.ecp_messages.specs.declared.up.Up.{Up}
use Rattle.end_words.specs.Windows.{Window}
use Rattle.app_job.specs.declared.command.Command.{Command}
use Rattle.app_rules.specs.declared.line.Line.{Line}
use Rattle.app_rules.specs.declared.line.Line.TheVariants.{Apart, Trying, Greeting, Asking, Joined}
use Rattle.app_rules.specs.AppState.{AppState, AppEnd, Session}
use Rattle.app_rules.specs.AppStep.{made}
use Rattle.app_rules.specs.Works.{end_at, begun, is_joined, is_normal, session_at}
use Rattle.cluster_runs.specs.CoresState.{CoresState, app_of_job, is_dead}
use Rattle.cluster_runs.specs.declared.move_outs.MoveOuts.{MoveOuts}
use Rattle.cluster_runs.specs.declared.moves.Move.TheVariants.{Step}
use Rattle.cluster_runs.specs.Goes.{JobGoes, job_site, app_end}
use Rattle.cluster_runs.specs.Machine.{Machine, Site, End, app_state, end_state}
use Rattle.cluster_runs.specs.Mirrors.{Mirrors}
use Rattle.cluster_runs.specs.Moves.{Allowed}
use Rattle.cluster_runs.specs.Sent.{Connection, Place}
use Rattle.cluster_invariant.specs.Ends.{HelloAlone}
use Rattle.cluster_invariant.specs.Holds.{Holds}
use Rattle.cluster_invariant.specs.Link.{DownBy, JoinedWay, WithSession}
use Rattle.cluster_invariant.proofs.Small.{of_some}
use Rattle.cluster_steps.proofs.AppSites.{app_ends, site_beside}
use Rattle.cluster_steps.proofs.FrameCases.{LineHas}
use Rattle.cluster_steps.proofs.JobActs.{Wrote, wrote_by}
use Rattle.cluster_steps.proofs.JobEnds.{Grew, grows_by, put_frames}
use Rattle.cluster_steps.proofs.JobPieces.{IsOfJob, GoesOn}
use Rattle.cluster_steps.proofs.JobPiecesOf.{job_goes}
use Rattle.cluster_steps.proofs.Outcomes.{EndKept, command_told}
use Rattle.ends_kept.proofs.OrderApps.{no_news}
use Rattle.ends_kept.proofs.PairTables.{line_has}
use Rattle.ends_kept.proofs.TablesKept.{normal_has}
use Rattle.data_ends_kept.proofs.NodeEndsMoves.{AloneStill, NodeEndsAt, NodeEndsHold, node_ends_by_acts}
use Rattle.data_ends_kept.proofs.NodeEndsSites.{end_alone, site_calls}
use Rattle.data_ends_kept.proofs.SameBreaks.{leaves_breaks}

pub job_breaks : (a : Act) → IsOfJob a → leaves_breaks a ≡ true
job_breaks (Opened e entries) of_job = absurd of_job
job_breaks (Enter e entry) of_job = absurd of_job
job_breaks (Synced e n) of_job = absurd of_job
job_breaks (Shut e session cause) of_job = absurd of_job
job_breaks (Release e session) of_job = absurd of_job
job_breaks (Met a e session) of_job = absurd of_job
job_breaks (Told a e session epoch kept) of_job = absurd of_job
job_breaks (Back e) of_job = absurd of_job
job_breaks (Crash e kept) of_job = absurd of_job
job_breaks (Issue job line e w item) of_job = refl
job_breaks (Read job line e at via question) of_job = refl
job_breaks (GrantAct e session job mode key at) of_job = absurd of_job
job_breaks (Granted job line e at) of_job = refl
job_breaks (GiveUp job line e mode key) of_job = refl
job_breaks (Quit job line e mode key) of_job = refl
job_breaks (Free e session job mode key) of_job = absurd of_job
job_breaks (Counted job line e at sum) of_job = refl
job_breaks (NotWhole job line e at) of_job = refl
job_breaks (Range job line e at) of_job = refl
job_breaks (Committed job line e at) of_job = refl
job_breaks (RolledBack job line e at) of_job = refl
job_breaks (Reached job line e at) of_job = refl
job_breaks (Level job line level) of_job = refl
job_breaks (Done job line) of_job = refl
job_breaks (Refused job line refusal) of_job = refl
job_breaks (Broke a e end time) of_job = absurd of_job
job_breaks (Mended a e) of_job = absurd of_job
job_breaks (Tick time) of_job = absurd of_job
job_breaks (Lose a e loss) of_job = absurd of_job
job_breaks (Died a) of_job = absurd of_job

pub all_breaks : (ws : List Act) → AllByRecursion IsOfJob ws → AllByRecursion (λ a. leaves_breaks a ≡ true) ws
all_breaks [] of_job = tt
all_breaks (a ∷ ws) of_job = (job_breaks a of_job.0, all_breaks ws of_job.1)

-- a connection whose Welcome was taken carries a session's messages
joined_carries : (o : Option Session) (q : Option Place) (c : Connection) (v : Server) (x : Site) (e : AppEnd) → is_some o ≡ true → WithSession o q (λ s k. JoinedWay v x e s k c) → is_some c.its ≡ true
joined_carries None q c v x e has way = absurd (false≢true has)
joined_carries (Some s) None c v x e has way = absurd way
joined_carries (Some s) (Some p) c v x e has way = ap is_some way.its

-- so no Hello is alone on it
pub not_joined : (l : Layout) (m : Machine) (app d : ℕ) (c : Connection) → Holds l m → m.is_dead_at app ≡ false → ((m.site_at d).end_at app).connection_at ((m.site_at d).end_at app).state.dial ≡ Some c → HelloAlone c
    → is_joined ((m.site_at d).end_at app).state.line ≡ false
not_joined l m app d c h alive there alone = go e.state.line refl
  where
    e : End
    e = (m.site_at d).end_at app

    v : Server
    v = (state_after l m.trail).server_at d

    down : DownBy e.state.line v (m.site_at d) app e c
    down = of_some (DownBy e.state.line v (m.site_at d) app e) (e.connection_at e.state.dial) c there ((h.sites d).link.apps app alive).down

    go : (line : Line) → e.state.line ≡ line → is_joined e.state.line ≡ false
    go Apart is = ap is_joined is
    go Trying is = ap is_joined is
    go Greeting is = ap is_joined is
    go Asking is = ap is_joined is
    go Joined is =
        absurd (false≢true (sym (ap is_some alone.its) ∙ joined_carries e.state.session e.told c v (m.site_at d) e.state
        (subst (λ (k : Line). LineHas k e.state.session) is (line_has (v.pair_at app) e.state ((h.sites d).ends.tables app alive)))
        (subst (λ (k : Line). DownBy k v (m.site_at d) app e c) is down)))

no_frames : (b : Bool) (w : Window Up) (ms : List Up) → b ≡ false → put_frames b w ms ≡ []
no_frames true w ms is = absurd (false≢true (sym is))
no_frames false w ms is = refl

-- Each step of a job.
pub node_ends_kept_by_job : (l : Layout) (c : CoresState) (m : Machine) (job now line : ℕ) (command : Command) (outs : MoveOuts) (written : List Act) (new : Machine)
    → Holds l m → Mirrors c m → Allowed c (Step job now line command) → JobGoes m (app_of_job m.layout job) job now line command outs written new → NodeEndsHold l (state_after l new.trail) new
node_ends_kept_by_job l c m job now line command outs written new h shows allowed goes =
    subst (λ (n : Machine). NodeEndsHold l (state_after l n.trail) n) (sym goes.after)
    (subst (λ (ws : List Act). (d : ℕ) → NodeEndsAt ((state_after l (m.trail ++ ws)).server_at d) (job_site app goes.app_outs goes.state d (m.site_at d))) (sym goes.acts)
    (subst (λ (q : Plain). (d : ℕ) → NodeEndsAt (q.server_at d) (job_site app goes.app_outs goes.state d (m.site_at d))) (sym (after_all-append l start m.trail goes.app_outs.acts))
    (λ d. go d (wrote_by (begun a) (made goes.state goes.app_outs) steps) (grows_by (begun a) (made goes.state goes.app_outs) steps normal d))))
  where
    app : ℕ
    app = app_of_job m.layout job

    a : AppState
    a = app_state m app

    placed : app < c.layout.apps
    placed = subst (λ (k : Layout). app_of_job k job < c.layout.apps) shows.layout allowed.alive.placed

    alive : m.is_dead_at app ≡ false
    alive = sym (shows.dead app) ∙ ap (λ (k : Layout). is_dead c (app_of_job k job)) (sym shows.layout) ∙ allowed.alive.alive

    steps : GoesOn (begun a) (made goes.state goes.app_outs)
    steps = job_goes a goes.state (m.job_at job) goes.job_state now line command goes.answer goes.app_outs goes.steps

    normal : (d : ℕ) → is_normal (end_at a d).link ≡ true → is_some (end_at a d).session ≡ true
    normal d =
        subst (λ (e : AppEnd). is_normal e.link ≡ true → is_some e.session ≡ true) (sym (app_ends c m app d shows placed))
        (normal_has (((state_after l m.trail).server_at d).pair_at app) (end_state m app d) ((h.sites d).ends.tables app alive))

    go : (d : ℕ) → Wrote (begun a) (made goes.state goes.app_outs) → Grew d (begun a) (made goes.state goes.app_outs)
        → NodeEndsAt ((after_all l (state_after l m.trail) goes.app_outs.acts).server_at d) (job_site app goes.app_outs goes.state d (m.site_at d))
    go d w grew =
        node_ends_by_acts l (state_after l m.trail) goes.app_outs.acts d (m.site_at d) (job_site app goes.app_outs goes.state d (m.site_at d))
        (subst (λ (ws : List Act). AllByRecursion (λ y. leaves_breaks y ≡ true) ws) (sym w.acts) (all_breaks w.written w.of_job))
        (site_beside app d goes.app_outs e.state (end_at goes.state d) None moved (m.site_at d)).node
        (site_calls app d goes.app_outs e.state (end_at goes.state d) None moved (m.site_at d) (h.sites d).link.lanes
        (λ is. absurd (false≢true (sym (no_news e.state.session (end_at goes.state d).session kept.session) ∙ is))) own)
        (h.sites d).ends.node
      where
        e : End
        e = (m.site_at d).end_at app

        moved : End
        moved = app_end d goes.app_outs e.state (end_at goes.state d) e.shown None e

        same : end_at a d ≡ e.state
        same = app_ends c m app d shows placed

        kept : EndKept e.state (end_at goes.state d)
        kept = subst (λ (y : AppEnd). EndKept y (end_at goes.state d)) same (command_told d (begun a) (made goes.state goes.app_outs) grew)

        dialled : (end_at goes.state d).dial ≡ e.state.dial
        dialled = grew.end.dial ∙ ap (λ (y : AppEnd). y.dial) same

        own : (dial : ℕ) (k : Connection) → e.connection_at dial ≡ Some k → HelloAlone k → IsSomeAnd (moved.connection_at dial) (AloneStill k)
        own dial k there alone =
            end_alone d goes.app_outs e.state (end_at goes.state d) e.shown None e dial k
            (λ is. grew.frames ∙ no_frames (is_joined (end_at a d).line) (session_at a d).window grew.put
            (ap (λ (y : AppEnd). is_joined y.line) same ∙ not_joined l m app d k h alive (ap e.connection_at (sym (is ∙ dialled)) ∙ there) alone))
            (subst (λ (q : Option Connection). IsSomeAnd q (AloneStill k)) (sym there) (refl, alone))
