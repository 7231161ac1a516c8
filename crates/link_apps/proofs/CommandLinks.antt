-- The part on what is on its way, for each command of a job: what it puts follows what is on its way of the session.
use Rattle.std.proofs.Common.{◌≡◌, ◌<◌, ℕ, Bool, true, false, List, ◌++◌, length, Option, Some, None, is_some, refl, sym, ◌∙◌, ap, subst}
use Rattle.std.specs.Prelude.{IfSome}
use Rattle.std.specs.List.{AllByRecursion}
use Rattle.plain_orders.specs.declared.act.Act.{Act}
use Rattle.plain_orders.specs.declared.layout.Layout.{Layout}
use Rattle.plain_runs.specs.Plain.{Plain, Server, start, put}
use Rattle.plain_runs.specs.Run.{IsRun, after_all, state_after}
use Rattle.plain_runs.proofs.RunLemmas.{after_all-append}
use Rattle.ecp_messages.specs.declared.up.Up.{Up}
use Rattle.ecp_messages.specs.declared.down.Down.{Down}
use Rattle.ecp_messages.specs.declared.up.UpFrame.{UpFrame}
use Rattle.end_words.specs.Windows.{sent}
use Rattle.plain_orders.specs.declared.entry.Entry.{Entry}
use Rattle.app_job.specs.declared.command.Command.{Command}
use Rattle.app_rules.specs.AppState.{AppState, AppEnd, Session}
use Rattle.app_rules.specs.AppStep.{made}
use Rattle.app_rules.specs.Works.{begun, end_at, session_of, is_normal, is_joined}
use Rattle.cluster_runs.specs.declared.move_outs.MoveOuts.{MoveOuts}
use Rattle.cluster_runs.specs.declared.moves.Move.TheVariants.{Step}
use Rattle.cluster_runs.specs.CoresState.{CoresState, app_of_job, is_dead}
use Rattle.cluster_runs.specs.Moves.{Allowed}
use Rattle.cluster_runs.specs.Mirrors.{Mirrors}
use Rattle.cluster_runs.specs.Sent.{Lane, Place}
use Rattle.cluster_runs.specs.Machine.{Machine, Site, End, app_state, end_state}
use Rattle.cluster_runs.specs.Connections.{ups_to, with_ups, at_number, carries_up}
use Rattle.cluster_runs.specs.Goes.{JobGoes, job_site, app_end, at_told, with_state}
use Rattle.cluster_runs.specs.Lanes.{is_told_new, given_since, told_by, sent_before, with_app_step}
use Rattle.cluster_invariant.specs.Ends.{ToldPlace}
use Rattle.cluster_invariant.specs.Holds.{Holds}
use Rattle.cluster_invariant.specs.Link.{LinkHolds, WindowIs}
use Rattle.cluster_invariant.specs.Words.{IsFront}
use Rattle.cluster_invariant.proofs.Small.{some_kept}
use Rattle.cluster_invariant.proofs.OrderBeside.{SameOrders, leaves_orders, rows_same}
use Rattle.cluster_invariant.proofs.OrdersStay.{orders_agree}
use Rattle.cluster_steps.proofs.AppSites.{app_ends, site_beside, site_ends}
use Rattle.cluster_steps.proofs.JobActs.{Wrote, wrote_by}
use Rattle.cluster_steps.proofs.JobEnds.{Grew, EndGrows, SessionsGrow, grows_by, put_frames}
use Rattle.cluster_steps.proofs.JobPieces.{GoesOn}
use Rattle.cluster_steps.proofs.JobPiecesOf.{job_goes}
use Rattle.cluster_steps.proofs.Outcomes.{EndKept, command_told}
use Rattle.ends_kept.proofs.OrderApps.{no_news}
use Rattle.ends_kept.proofs.OrderJobs.{all_leave}
use Rattle.ends_kept.proofs.TablesKept.{normal_has}
use Rattle.told_kept.proofs.SameSessions.{leaves_told, rows_met}
use Rattle.told_kept.proofs.ToldJobs.{all_told}
use Rattle.link_kept.specs.Laws.{EachLinkHolds}
use Rattle.link_kept.proofs.Later.{front_same}
use Rattle.link_apps.proofs.JobActs.{all_by_job, all_enter}
use Rattle.link_apps.proofs.EnteredStays.{keeps_entered, entered_stays, none_met, later_same}
use Rattle.link_apps.proofs.EndsApps.{LaneDown}
use Rattle.link_apps.proofs.RestSites.{place_number}
use Rattle.link_apps.proofs.RestWays.{some_any}
use Rattle.link_apps.proofs.LanesApps.{lane_down, given_put, own_lane, site_lanes}
use Rattle.link_apps.proofs.PutSteps.{Puts, own_after}
use Rattle.link_apps.proofs.OwnPuts.{link_kept_by_puts}

-- lanes of an end whose session goes on

module _ (v : Server) (x : Site) (app : ℕ) (t : AppEnd) (ms : List Up) (d : ℕ) (frames : List UpFrame)
    (place : IfSome (x.end_at app).state.session (λ s. ToldPlace v app s (x.end_at app).told))
    (window : IfSome (x.end_at app).state.session (λ s. IfSome (x.end_at app).told (λ p.
    WindowIs s.window (x.lane_at s.number p.order).up (x.lane_at s.number p.order).up_taken (x.lane_at s.number p.order).down_taken)))
    (grows : SessionsGrow ms (x.end_at app).state.session t.session) where
  abbrev e : End
  e = x.end_at app

  -- it took as much as its lane says
  took_same : (s k : ℕ) (o q : Option Session) (p : Option Place) → IfSome o (λ u. ToldPlace v app u p)
      → IfSome o (λ u. IfSome p (λ z. WindowIs u.window (x.lane_at u.number z.order).up (x.lane_at u.number z.order).up_taken (x.lane_at u.number z.order).down_taken))
      → SessionsGrow ms o q → IfSome p (λ z. (s ≡ z.session) → (k ≡ z.order) → IfSome q (λ b. b.window.taken ≡ (x.lane_at s k).down_taken))
  took_same s k o q None pl wi g = tt
  took_same s k o None (Some z) pl wi g = λ at here. tt
  took_same s k None (Some b) (Some z) pl wi g = absurd g
  took_same s k (Some u) (Some b) (Some z) pl wi g = λ at here.
      g.taken ∙ wi.taken
      ∙ ap (λ (n : ℕ). (x.lane_at n z.order).down_taken) (sym (place_number z u.number pl.order pl.its) ∙ sym at)
      ∙ ap (λ (n : ℕ). (x.lane_at s n).down_taken) (sym here)

  -- the lane of its session in the order that it is told of
  own_up : (z : Site) → z.lane_at ≡ x.lane_at → (n : ℕ) (o q : Option Session) (p : Option Place) → IfSome o (λ u. ToldPlace v app u p) → SessionsGrow ms o q
      → IfSome o (λ u. IfSome p (λ r.
      ((at_told p (with_app_step false None n (sent_before o) q frames) z).lane_at u.number r.order).up ≡ (x.lane_at u.number r.order).up ++ ms))
  own_up z same n None q p pl g = tt
  own_up z same n (Some u) None p pl g = absurd g
  own_up z same n (Some u) (Some b) None pl g = tt
  own_up z same n (Some u) (Some b) (Some r) pl g =
      subst
      (λ (i : ℕ).
      ((at_told (Some r) (with_app_step false None n (sent u.window) (Some b) frames) z).lane_at i r.order).up ≡ (x.lane_at i r.order).up ++ ms)
      (place_number r u.number pl.order pl.its)
      (ap (λ (l : Lane). l.up) (own_lane r (with_app_step false None n (sent u.window) (Some b) frames) z)
      ∙ ap (λ (l : ℕ → ℕ → Lane). (l r.session r.order).up ++ given_since (sent u.window) b.window) same
      ∙ ap (λ (xs : List Up). (x.lane_at r.session r.order).up ++ xs) (given_put u.window b.window ms g.acked g.waiting))

  -- no other lane is changed
  others_up : (s k n c : ℕ) (o q : Option Session) (p : Option Place) → IfSome o (λ u. ToldPlace v app u p) → SessionsGrow ms o q
      → IfSome o (λ u. IfSome p (λ z. (s ≡ u.number) → (k ≡ z.order) → ⊥))
      → IfSome p (λ z. (s ≡ z.session) → (k ≡ z.order) → with_app_step false None n c q frames (x.lane_at s k) ≡ x.lane_at s k)
  others_up s k n c o q None pl g none = tt
  others_up s k n c None None (Some z) pl g none = λ at here. refl
  others_up s k n c None (Some b) (Some z) pl g none = absurd g
  others_up s k n c (Some u) q (Some z) pl g none = λ at here. absurd (none (at ∙ place_number z u.number pl.order pl.its) here)

-- what a step puts in a lane stands behind what was put before
lane_front : (m : Option Down) (number n : ℕ) (q : Option Session) (frames : List UpFrame) (a : Lane) → IsFront a.up (with_app_step false m number n q frames a).up
lane_front m number n None frames a = front_same a.up
lane_front m number n (Some t) frames a = (given_since n t.window, refl)

-- Each command of a job keeps it.
pub links_kept_by_job : (l : Layout) (c : CoresState) (m : Machine) (job now line : ℕ) (command : Command) (outs : MoveOuts) (written : List Act) (new : Machine)
    → Holds l m → IsRun l m.trail → Mirrors c m → Allowed c (Step job now line command) → JobGoes m (app_of_job m.layout job) job now line command outs written new
    → EachLinkHolds l new
links_kept_by_job l c m job now line command outs written new h run shows allowed goes =
    subst (λ (n : Machine). EachLinkHolds l n) (sym goes.after)
    (subst (λ (ws : List Act). (d : ℕ) → LinkHolds ((state_after l (m.trail ++ ws)).server_at d) (site d) m.is_dead_at) (sym goes.acts)
    (λ d. subst (λ (q : Plain). LinkHolds (q.server_at d) (site d) m.is_dead_at) (sym (after_all-append l start m.trail goes.app_outs.acts)) (each d)))
  where
    app : ℕ
    app = app_of_job m.layout job

    a : AppState
    a = app_state m app

    p : Plain
    p = state_after l m.trail

    site : ℕ → Site
    site d = job_site app goes.app_outs goes.state d (m.site_at d)

    placed : app < c.layout.apps
    placed = subst (λ (k : Layout). app_of_job k job < c.layout.apps) shows.layout allowed.alive.placed

    alive : m.is_dead_at app ≡ false
    alive = sym (shows.dead app) ∙ ap (λ (k : Layout). is_dead c (app_of_job k job)) (sym shows.layout) ∙ allowed.alive.alive

    steps : GoesOn (begun a) (made goes.state goes.app_outs)
    steps = job_goes a goes.state (m.job_at job) goes.job_state now line command goes.answer goes.app_outs goes.steps

    normal : (d : ℕ) → is_normal (end_at a d).link ≡ true → is_some (end_at a d).session ≡ true
    normal d =
        subst (λ (e : AppEnd). is_normal e.link ≡ true → is_some e.session ≡ true) (sym (app_ends c m app d shows placed))
        (normal_has ((p.server_at d).pair_at app) (end_state m app d) ((h.sites d).ends.tables app alive))

    grew : (d : ℕ) → Grew d (begun a) (made goes.state goes.app_outs)
    grew d = grows_by (begun a) (made goes.state goes.app_outs) steps normal d

    wrote : Wrote (begun a) (made goes.state goes.app_outs)
    wrote = wrote_by (begun a) (made goes.state goes.app_outs) steps

    each : (d : ℕ) → LinkHolds ((after_all l p goes.app_outs.acts).server_at d) (site d) m.is_dead_at
    each d =
        link_kept_by_puts v w x (site d) m.is_dead_at app t e.shown (grew d).put alive
        (later_same x v w (orders_agree l m.trail d run) orders)
        (λ a. entered_stays l p goes.app_outs.acts a d
        (none_met v w (rows_met l p goes.app_outs.acts (subst (λ (ws : List Act). AllByRecursion (λ z. leaves_told z ≡ true) ws) (sym wrote.acts) (all_told wrote.written wrote.of_job)) d))
        (subst (λ (ws : List Act). AllByRecursion (λ z. keeps_entered a d z ≡ true) ws) (sym wrote.acts) (all_enter a d wrote.written wrote.of_job)))
        (ap (λ (xs : List (List Entry)). length xs) orders.past) (h.sites d).order.past (h.sites d).link (h.sites d).ends (h.sites d).dials puts
      where
        v : Server
        v = p.server_at d

        w : Server
        w = (after_all l p goes.app_outs.acts).server_at d

        orders : SameOrders v w
        orders = rows_same l p goes.app_outs.acts (subst (λ (ws : List Act). AllByRecursion (λ z. leaves_orders z ≡ true) ws) (sym wrote.acts) (all_leave wrote.written wrote.of_job)) d

        x : Site
        x = m.site_at d

        e : End
        e = x.end_at app

        t : AppEnd
        t = end_at goes.state d

        f : End
        f = app_end d goes.app_outs e.state t e.shown None e

        grows : EndGrows (grew d).put e.state t
        grows = subst (λ (z : AppEnd). EndGrows (grew d).put z t) (app_ends c m app d shows placed) (grew d).end

        fs : List UpFrame
        fs = put_frames (is_joined e.state.line) (session_of e.state).window (grew d).put

        frames : ups_to d goes.app_outs.frames ≡ fs
        frames = (grew d).frames ∙ ap (λ (z : AppEnd). put_frames (is_joined z.line) (session_of z).window (grew d).put) (app_ends c m app d shows placed)

        nothing : is_told_new e.state.session t.session ≡ false
        nothing =
            no_news e.state.session t.session
            (subst (λ (z : AppEnd). EndKept z t) (app_ends c m app d shows placed) (command_told d (begun a) (made goes.state goes.app_outs) (grew d))).session

        moved : f ≡ own_after (with_ups fs) t e.shown e
        moved =
            ap (λ (b : Bool). carries_up d t.dial goes.app_outs.frames goes.app_outs.cuts (told_by b None e.state.dial (with_state t e.shown e))) nothing
            ∙ ap (λ (cs : List ℕ). carries_up d t.dial goes.app_outs.frames cs (with_state t e.shown e)) (grew d).cuts
            ∙ ap (λ (us : List UpFrame). at_number t.dial (λ z. with_ups us z) (with_state t e.shown e)) frames

        told : f.told ≡ e.told
        told = ap (λ (z : End). z.told) moved

        place : IfSome e.state.session (λ s. ToldPlace v app s e.told)
        place = ((h.sites d).ends.told app alive).place

        window : IfSome e.state.session (λ s. IfSome e.told (λ r. WindowIs s.window (x.lane_at s.number r.order).up (x.lane_at s.number r.order).up_taken (x.lane_at s.number r.order).down_taken))
        window = ((h.sites d).link.apps app alive).window

        stepped : Lane → Lane
        stepped z = with_app_step false None e.state.dial (sent_before e.state.session) t.session (ups_to d goes.app_outs.frames) z

        puts : Puts x (site d) app t e.shown (grew d).put
        puts = record {
          beside = site_beside app d goes.app_outs e.state t None f x;
          ends = site_ends app d goes.app_outs e.state t None f x ∙ ap (put x.end_at app) moved;
          grows = grows;
          numbered = all_by_job (grew d).put (grew d).may;
          lanes = λ s k.
              site_lanes LaneDown (λ z. record { began = refl; up_taken = refl; down = refl; down_taken = refl }) app d goes.app_outs e.state t None f x nothing s k
              (subst (λ (o : Option Place). IfSome o (λ r. (s ≡ r.session) → (k ≡ r.order) → LaneDown (x.lane_at s k) (stepped (x.lane_at s k)))) (sym told)
              (some_kept (λ (r : Place). (s ≡ r.session) → (k ≡ r.order) → IfSome t.session (λ b. b.window.taken ≡ (x.lane_at s k).down_taken))
              (λ (r : Place). (s ≡ r.session) → (k ≡ r.order) → LaneDown (x.lane_at s k) (stepped (x.lane_at s k)))
              (λ r same at here. lane_down None e.state.dial (sent_before e.state.session) t.session (ups_to d goes.app_outs.frames) (x.lane_at s k) (same at here)) e.told
              (took_same v x app t (grew d).put d (ups_to d goes.app_outs.frames) place window grows.session s k e.state.session t.session e.told place window grows.session)));
          fronts = λ s k.
              site_lanes (λ z r. IsFront z.up r.up) (λ z. front_same z.up) app d goes.app_outs e.state t None f x nothing s k
              (some_any (λ (r : Place). (s ≡ r.session) → (k ≡ r.order) → IsFront (x.lane_at s k).up (stepped (x.lane_at s k)).up)
              (λ r at here. lane_front None e.state.dial (sent_before e.state.session) t.session (ups_to d goes.app_outs.frames) (x.lane_at s k)) f.told);
          own =
              subst
              (λ (o : Option Place).
              IfSome e.state.session (λ u. IfSome e.told (λ r.
              ((at_told o (with_app_step (is_told_new e.state.session t.session) None e.state.dial (sent_before e.state.session) t.session (ups_to d goes.app_outs.frames))
              (record x { end_at = put x.end_at app f })).lane_at u.number r.order).up ≡ (x.lane_at u.number r.order).up ++ (grew d).put))) (sym told)
              (subst
              (λ (b : Bool).
              IfSome e.state.session (λ u. IfSome e.told (λ r.
              ((at_told e.told (with_app_step b None e.state.dial (sent_before e.state.session) t.session (ups_to d goes.app_outs.frames))
              (record x { end_at = put x.end_at app f })).lane_at u.number r.order).up ≡ (x.lane_at u.number r.order).up ++ (grew d).put))) (sym nothing)
              (own_up v x app t (grew d).put d (ups_to d goes.app_outs.frames) place window grows.session (record x { end_at = put x.end_at app f }) refl e.state.dial
              e.state.session t.session e.told place grows.session));
          elsewhere = λ s k none.
              site_lanes (λ z r. r ≡ z) (λ z. refl) app d goes.app_outs e.state t None f x nothing s k
              (subst (λ (o : Option Place). IfSome o (λ r. (s ≡ r.session) → (k ≡ r.order) → stepped (x.lane_at s k) ≡ x.lane_at s k)) (sym told)
              (others_up v x app t (grew d).put d (ups_to d goes.app_outs.frames) place window grows.session s k e.state.dial (sent_before e.state.session) e.state.session
              t.session e.told place grows.session none));
        }
