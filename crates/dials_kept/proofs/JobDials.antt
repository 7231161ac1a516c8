-- The part on connections, for each command of a job: what it puts stands behind the first frame of the connection that its end has.
use Rattle.std.proofs.Common.{◌≡◌, ◌≤◌, ◌<◌, ℕ, ◌+◌, Bool, true, false, not, ◌&&◌, ◌==◌, List, [], ◌∷◌, ◌++◌, map, drop, Option, Some, None, is_some, option_map, if◌then◌else◌, refl, sym, ◌∙◌, ap, subst, arith, inl, inr, append-nil}
use Rattle.std.specs.Prelude.{IfSome, IsSomeAnd, nat_lt}
use Rattle.std.specs.List.{AllByRecursion, list_all}
use Rattle.std.proofs.lemmas.Bool.{false≢true, lt-ltb}
use Rattle.plain_orders.specs.declared.act.Act.{Act}
use Rattle.plain_orders.specs.declared.layout.Layout.{Layout}
use Rattle.plain_runs.specs.Plain.{Plain, Server, put, start}
use Rattle.plain_runs.specs.Run.{IsRun, RunFrom, after_all, state_after}
use Rattle.plain_runs.proofs.RunLemmas.{run_parts, after_all-append}
use Rattle.app_job.specs.declared.command.Command.{Command}
use Rattle.ecp_messages.specs.declared.up.Up.{Up}
use Rattle.ecp_messages.specs.declared.up.Up.TheVariants as ups
use Rattle.ecp_messages.specs.declared.up.UpFrame.{UpFrame}
use Rattle.end_words.specs.Windows.{Window, sent, numbered_from}
use Rattle.link_states.specs.declared.app_link.AppLink.{AppLink}
use Rattle.app_rules.specs.declared.line.Line.{Line}
use Rattle.app_rules.specs.declared.line.Line.TheVariants.{Apart, Trying, Greeting, Asking, Joined}
use Rattle.app_rules.specs.AppState.{AppState, AppEnd, Session}
use Rattle.app_rules.specs.AppStep.{made}
use Rattle.app_rules.specs.Works.{begun, end_at, session_at, is_normal, is_joined}
use Rattle.cluster_runs.specs.declared.move_outs.MoveOuts.{MoveOuts}
use Rattle.cluster_runs.specs.declared.moves.Move.TheVariants.{Step}
use Rattle.cluster_runs.specs.CoresState.{CoresState, app_of_job, is_dead}
use Rattle.cluster_runs.specs.Moves.{Allowed}
use Rattle.cluster_runs.specs.Mirrors.{Mirrors}
use Rattle.cluster_runs.specs.Sent.{Connection, FirstTaken, Knew, Place}
use Rattle.cluster_runs.specs.Machine.{Machine, Site, End, app_state, end_state}
use Rattle.cluster_runs.specs.Connections.{knows, knows_of, ups_to, with_ups, at_number, carries_up}
use Rattle.cluster_runs.specs.Goes.{JobGoes, job_site, app_end, with_state}
use Rattle.cluster_runs.specs.Lanes.{is_told_new, told_by}
use Rattle.cluster_invariant.specs.Dials.{DialsAre, PairDials, ConnectionIs, CarriesOf, KnowsStill, is_following}
use Rattle.cluster_invariant.specs.Ends.{ToldPlace}
use Rattle.cluster_invariant.specs.Holds.{Holds}
use Rattle.cluster_invariant.specs.Link.{DownBy, JoinedWay, WithSession, WindowIs}
use Rattle.cluster_invariant.specs.Words.{NoLess, is_wire, has_wire}
use Rattle.cluster_invariant.proofs.Small.{of_some}
use Rattle.cluster_invariant.proofs.OrderBeside.{leaves_orders}
use Rattle.cluster_steps.proofs.AppSites.{app_ends, site_ends}
use Rattle.cluster_steps.proofs.JobActs.{Wrote, wrote_by}
use Rattle.cluster_steps.proofs.JobEnds.{Grew, EndGrows, SessionsGrow, LineGrows, grows_by, put_frames, up_frame}
use Rattle.cluster_steps.proofs.JobPieces.{GoesOn, IsPutByJob}
use Rattle.cluster_steps.proofs.JobPiecesOf.{job_goes}
use Rattle.cluster_steps.proofs.Outcomes.{EndKept, command_told}
use Rattle.ends_kept.proofs.OrderApps.{no_news}
use Rattle.ends_kept.proofs.OrderJobs.{all_leave}
use Rattle.ends_kept.proofs.TablesKept.{normal_has}
use Rattle.dials_kept.proofs.ConnectionsGrow.{StaysKnown, no_less_same, GrowTo}
use Rattle.dials_kept.proofs.NodesGrow.{SameNode}
use Rattle.dials_kept.proofs.ShortDials.{EachDials, left_same}
use Rattle.dials_kept.proofs.ToldStays.{known_by_acts}
use Rattle.dials_kept.proofs.QuietEnds.{TookMore, Changes, changed, quiet_site, dials_with_end, grow_changed, pair_changed}

-- frames that a job puts

above : (n : ℕ) → nat_lt 0 (n + 1) ≡ true
above n = lt-ltb 0 (n + 1) (omega arith)

by_job_follows : (m : Up) (n taken : ℕ) → IsPutByJob m → is_following (up_frame taken (n + 1, m)) ≡ true
by_job_follows (ups.Hello app dial) n taken may = absurd may
by_job_follows (ups.Recover app session epoch said dial) n taken may = absurd may
by_job_follows (ups.Update w job txn op) n taken may = above n
by_job_follows (ups.Add w job key amount) n taken may = above n
by_job_follows (ups.Fetch key) n taken may = above n
by_job_follows (ups.Ask ticket job mode key) n taken may = above n
by_job_follows (ups.Unlock job mode key) n taken may = above n
by_job_follows (ups.Cancel ticket) n taken may = above n
by_job_follows (ups.Commit w job txn wanted) n taken may = above n
by_job_follows (ups.Rollback w job txn) n taken may = above n
by_job_follows (ups.Sync ticket) n taken may = above n
by_job_follows ups.Done n taken may = absurd may
by_job_follows (ups.Claim job mode number at key) n taken may = absurd may
by_job_follows ups.Bare n taken may = absurd may

all_follow_from : (put : List Up) (n taken : ℕ) → AllByRecursion IsPutByJob put → list_all is_following (map (up_frame taken) (numbered_from n put)) ≡ true
all_follow_from [] n taken may = refl
all_follow_from (m ∷ ms) n taken may =
    ap (λ (b : Bool). b && list_all is_following (map (up_frame taken) (numbered_from (n + 1) ms))) (by_job_follows m n taken may.0)
    ∙ all_follow_from ms (n + 1) taken may.1

frames_follow : (t : Bool) (w : Window Up) (put : List Up) → AllByRecursion IsPutByJob put → list_all is_following (put_frames t w put) ≡ true
frames_follow true w put may = all_follow_from put (sent w) w.taken may
frames_follow false w put may = refl

-- what the end knows

knows_by_job : (put : List Up) (o q : Option Session) (p : Option Place) (told later : ℕ) → SessionsGrow put o q → later ≡ told → knows_of q p later ≡ knows_of o p told
knows_by_job put None None p told later g same = ap (λ (n : ℕ). record { session = n; mark = None }) same
knows_by_job put None (Some t) p told later g same = absurd g
knows_by_job put (Some s) None p told later g same = absurd g
knows_by_job put (Some s) (Some t) None told later g same = ap (λ (n : ℕ). record { session = n; mark = None }) g.number
knows_by_job put (Some s) (Some t) (Some p) told later g same =
    ap (λ (n : ℕ). record { session = n; mark = Some (record { order = p.order; taken = t.window.taken }) }) g.number
    ∙ ap (λ (n : ℕ). record { session = s.number; mark = Some (record { order = p.order; taken = n }) }) g.taken

-- the end that it was told of took as much
took_by_job : (x : Site) (put : List Up) (o q : Option Session) (p : Option Place) → SessionsGrow put o q
    → IfSome o (λ s. IfSome p (λ z. (z.session ≡ s.number) × (s.window.taken ≡ (x.lane_at s.number z.order).down_taken))) → TookMore x q p
took_by_job x put o q None g is = tt
took_by_job x put None None (Some p) g is = tt
took_by_job x put None (Some t) (Some p) g is = absurd g
took_by_job x put (Some s) None (Some p) g is = absurd g
took_by_job x put (Some s) (Some t) (Some p) g is =
    subst (λ (n : ℕ). (x.lane_at n p.order).down_taken ≤ t.window.taken) (sym is.0) (omega (arith, g.taken, is.1))

-- the end that has a session took of it what the lane says
pub lane_taken : (v : Server) (x : Site) (app : ℕ) (o : Option Session) (p : Option Place) → IfSome o (λ s. ToldPlace v app s p)
    → IfSome o (λ s. IfSome p (λ z. WindowIs s.window (x.lane_at s.number z.order).up (x.lane_at s.number z.order).up_taken (x.lane_at s.number z.order).down_taken))
    → IfSome o (λ s. IfSome p (λ z. (z.session ≡ s.number) × (s.window.taken ≡ (x.lane_at s.number z.order).down_taken)))
lane_taken v x app None p place window = tt
lane_taken v x app (Some s) None place window = tt
lane_taken v x app (Some s) (Some z) place window = (same place.its, window.taken)
  where
    same : {k : ℕ} → ◌≡◌ {A = Option Place} (Some z) (Some (record { session = s.number; order = k })) → z.session ≡ s.number
    same is = ap (λ (o : Option Place). session_or o) is
      where
        session_or : Option Place → ℕ
        session_or None = 0
        session_or (Some q) = q.session

-- a connection whose Welcome came was taken of
pub joined_taken : (v : Server) (x : Site) (app number : ℕ) (e : End) (c : Connection) → DownBy Joined v x app e c → ConnectionIs v x app number c → c.ups_taken ≡ 0 → ⊥
joined_taken v x app number e c down is none = go e.state.session e.told down
  where
    unlinked : c.linked ≡ false
    unlinked = is.linked ∙ ap (λ (n : ℕ). nat_lt 0 n) none

    no_first : (o : Option FirstTaken) → is_some o ≡ false → (k : ℕ) → IsSomeAnd o (λ f. f.order ≡ k) → ⊥
    no_first None unmade k at = at
    no_first (Some f) unmade k at = absurd (false≢true (sym unmade))

    go : (o : Option Session) (p : Option Place) → WithSession o p (λ s k. JoinedWay v x e.state s k c) → ⊥
    go None p at = at
    go (Some s) None at = at
    go (Some s) (Some p) at =
        no_first c.first (is.taken ∙ unlinked) p.order (of_some (CarriesOf v app c.first) c.its (record { session = s.number; order = p.order }) at.its is.its).order

-- nothing is put where the connection wasn't joined, or nothing was taken of it
none_put : (v : Server) (x : Site) (app number : ℕ) (e : End) (c : Connection) (w : Window Up) (put : List Up) → (line : Line) → DownBy line v x app e c
    → ConnectionIs v x app number c → c.ups_taken ≡ 0 → put_frames (is_joined line) w put ≡ []
none_put v x app number e c w put Apart down is none = refl
none_put v x app number e c w put Trying down is none = refl
none_put v x app number e c w put Greeting down is none = refl
none_put v x app number e c w put Asking down is none = refl
none_put v x app number e c w put Joined down is none = absurd (joined_taken v x app number e c down is none)

-- what it knew is known still
still_by_job : (link : AppLink) (l k : Line) (w : Window Up) (put : List Up) (knew : Knew) (o : Option Connection) → LineGrows link l k → KnowsStill l knew o
    → KnowsStill k knew (option_map (with_ups (put_frames (is_joined l) w put)) o)
still_by_job link l k w put knew o (inr begins) is = subst (λ (z : Line). KnowsStill z knew (option_map (with_ups (put_frames (is_joined l) w put)) o)) (sym begins.trying) tt
still_by_job link l k w put knew o (inl same) is = subst (λ (z : Line). KnowsStill z knew (option_map (with_ups (put_frames (is_joined l) w put)) o)) (sym same) (go l is)
  where
    nothing : (c : Connection) → drop 1 c.ups ≡ [] → drop 1 (c.ups ++ []) ≡ []
    nothing c none = ap (drop 1) (append-nil c.ups) ∙ none

    go : (z : Line) → KnowsStill z knew o → KnowsStill z knew (option_map (with_ups (put_frames (is_joined z) w put)) o)
    go Apart at = tt
    go Trying at = tt
    go Greeting at = by o at
      where
        by : (q : Option Connection) → IsSomeAnd q (λ y. (y.knew ≡ knew) × (drop 1 y.ups ≡ [])) → IsSomeAnd (option_map (with_ups []) q) (λ y. (y.knew ≡ knew) × (drop 1 y.ups ≡ []))
        by None a = absurd a
        by (Some c) a = (a.0, nothing c a.1)
    go Asking at = by o at
      where
        by : (q : Option Connection) → IsSomeAnd q (λ y. (y.knew ≡ knew) × (drop 1 y.ups ≡ [])) → IsSomeAnd (option_map (with_ups []) q) (λ y. (y.knew ≡ knew) × (drop 1 y.ups ≡ []))
        by None a = absurd a
        by (Some c) a = (a.0, nothing c a.1)
    go Joined at = tt

-- the connection that it has is the one that it had
wire_by_job : (link : AppLink) (e f : AppEnd) → LineGrows link e.line f.line → f.dial ≡ e.dial → (dead : Bool) → is_wire dead f f.dial ≡ is_wire dead e f.dial
wire_by_job link e f grows dial true = refl
wire_by_job link e f grows dial false =
    ap (λ (t : Bool). if t then f.dial == f.dial else false) (wired grows) ∙ ap (λ (n : ℕ). if has_wire e.line then f.dial == n else false) dial
  where
    wired : LineGrows link e.line f.line → has_wire f.line ≡ has_wire e.line
    wired (inl same) = ap has_wire same
    wired (inr begins) = ap has_wire begins.trying ∙ sym (ap has_wire begins.apart)

-- Each command of a job keeps it, where the trail stays a run.
pub dials_kept_by_job : (l : Layout) (c : CoresState) (m : Machine) (job now line : ℕ) (command : Command) (outs : MoveOuts) (written : List Act) (new : Machine)
    → Holds l m → IsRun l m.trail → IsRun l new.trail → Mirrors c m → Allowed c (Step job now line command)
    → JobGoes m (app_of_job m.layout job) job now line command outs written new → EachDials l (state_after l new.trail) new
dials_kept_by_job l c m job now line command outs written new h run after_run shows allowed goes =
    subst (λ (n : Machine). EachDials l (state_after l n.trail) n) (sym goes.after)
    (subst (λ (ws : List Act). (d : ℕ) → DialsAre ((state_after l (m.trail ++ ws)).server_at d) (site d) m.is_dead_at) (sym goes.acts)
    (λ d. subst (λ (q : Plain). DialsAre (q.server_at d) (site d) m.is_dead_at) (sym (after_all-append l start m.trail goes.app_outs.acts)) (each d)))
  where
    app : ℕ
    app = app_of_job m.layout job

    a : AppState
    a = app_state m app

    p : Plain
    p = state_after l m.trail

    site : ℕ → Site
    site d = job_site app goes.app_outs goes.state d (m.site_at d)

    placed : app < c.layout.apps
    placed = subst (λ (k : Layout). app_of_job k job < c.layout.apps) shows.layout allowed.alive.placed

    alive : m.is_dead_at app ≡ false
    alive = sym (shows.dead app) ∙ ap (λ (k : Layout). is_dead c (app_of_job k job)) (sym shows.layout) ∙ allowed.alive.alive

    steps : GoesOn (begun a) (made goes.state goes.app_outs)
    steps = job_goes a goes.state (m.job_at job) goes.job_state now line command goes.answer goes.app_outs goes.steps

    normal : (d : ℕ) → is_normal (end_at a d).link ≡ true → is_some (end_at a d).session ≡ true
    normal d =
        subst (λ (e : AppEnd). is_normal e.link ≡ true → is_some e.session ≡ true) (sym (app_ends c m app d shows placed))
        (normal_has ((p.server_at d).pair_at app) (end_state m app d) ((h.sites d).ends.tables app alive))

    grew : (d : ℕ) → Grew d (begun a) (made goes.state goes.app_outs)
    grew d = grows_by (begun a) (made goes.state goes.app_outs) steps normal d

    ran : RunFrom l p goes.app_outs.acts
    ran = (run_parts l start m.trail goes.app_outs.acts joined).1
      where
        joined : IsRun l (m.trail ++ goes.app_outs.acts)
        joined = subst (λ (ws : List Act). IsRun l (m.trail ++ ws)) goes.acts (subst (λ (n : Machine). IsRun l n.trail) goes.after after_run)

    known : (d : ℕ) → StaysKnown (p.server_at d) ((after_all l p goes.app_outs.acts).server_at d)
    known d = go (wrote_by (begun a) (made goes.state goes.app_outs) steps)
      where
        go : Wrote (begun a) (made goes.state goes.app_outs) → StaysKnown (p.server_at d) ((after_all l p goes.app_outs.acts).server_at d)
        go w = known_by_acts l p goes.app_outs.acts ran (subst (λ (ws : List Act). AllByRecursion (λ y. leaves_orders y ≡ true) ws) (sym w.acts) (all_leave w.written w.of_job)) d

    each : (d : ℕ) → DialsAre ((after_all l p goes.app_outs.acts).server_at d) (site d) m.is_dead_at
    each d =
        dials_with_end v w x y m.is_dead_at app f (site_ends app d goes.app_outs e.state t None f x ∙ refl) same (known d)
        (subst (λ (z : End). (number : ℕ) → GrowTo x w y app number e (e.connection_at number) (z.connection_at number)) (sym moved)
        (λ number. grow_changed x y w app number (m.is_dead_at app) e t e.shown g same.connections changes))
        (subst (λ (z : End). NoLess (knows e) (knows z)) (sym moved) knew)
        (subst (λ (z : End). PairDials w y (m.is_dead_at app) app z) (sym moved)
        (pair_changed v w x y app (m.is_dead_at app) e t e.shown g (known d) same grows.dial knew changes still (is.pairs app))) is
      where
        v : Server
        v = p.server_at d

        w : Server
        w = (after_all l p goes.app_outs.acts).server_at d

        x : Site
        x = m.site_at d

        y : Site
        y = site d

        e : End
        e = x.end_at app

        t : AppEnd
        t = end_at goes.state d

        is : DialsAre v x m.is_dead_at
        is = (h.sites d).dials

        f : End
        f = app_end d goes.app_outs e.state t e.shown None e

        grows : EndGrows (grew d).put e.state t
        grows = subst (λ (z : AppEnd). EndGrows (grew d).put z t) (app_ends c m app d shows placed) (grew d).end

        fs : List UpFrame
        fs = put_frames (is_joined e.state.line) (session_at a d).window (grew d).put

        frames : ups_to d goes.app_outs.frames ≡ fs
        frames = (grew d).frames ∙ ap (λ (z : AppEnd). put_frames (is_joined z.line) (session_at a d).window (grew d).put) (app_ends c m app d shows placed)

        g : Connection → Connection
        g = with_ups fs

        nothing : is_told_new e.state.session t.session ≡ false
        nothing =
            no_news e.state.session t.session
            (subst (λ (z : AppEnd). EndKept z t) (app_ends c m app d shows placed) (command_told d (begun a) (made goes.state goes.app_outs) (grew d))).session

        moved : f ≡ changed g t e.shown e
        moved =
            ap (λ (b : Bool). carries_up d t.dial goes.app_outs.frames goes.app_outs.cuts (told_by b None e.state.dial (with_state t e.shown e))) nothing
            ∙ ap (λ (cs : List ℕ). carries_up d t.dial goes.app_outs.frames cs (with_state t e.shown e)) (grew d).cuts
            ∙ ap (λ (us : List UpFrame). at_number t.dial (λ z. with_ups us z) (with_state t e.shown e)) frames

        told : f.told ≡ e.told
        told = ap (λ (z : End). z.told) moved

        same : SameNode x y
        same =
            quiet_site app d goes.app_outs e.state t None f x nothing
            (subst (λ (o : Option Place). TookMore x t.session o) (sym told)
            (took_by_job x (grew d).put e.state.session t.session e.told grows.session
            (lane_taken v x app e.state.session e.told ((h.sites d).ends.told app alive).place ((h.sites d).link.apps app alive).window)))

        knew : NoLess (knows e) (knows (with_state t e.shown e))
        knew =
            subst (λ (k : Knew). NoLess (knows e) k) (sym (knows_by_job (grew d).put e.state.session t.session e.told e.state.told t.told grows.session grows.told))
            (no_less_same (knows e))

        puts : (o : Option Connection) → IfSome o (DownBy e.state.line v x app e) → IfSome o (ConnectionIs v x app e.state.dial)
            → IfSome o (λ z. z.app_left ≡ not (is_wire (m.is_dead_at app) e.state t.dial)) → IfSome o (Changes x y (m.is_dead_at app) g t e)
        puts None down made left = tt
        puts (Some z) down made left = record {
          grows = record {
            more = fs;
            ups = refl;
            follow = frames_follow (is_joined e.state.line) (session_at a d).window (grew d).put (grew d).may;
            alone = none_put v x app e.state.dial e z (session_at a d).window (grew d).put e.state.line down made;
            untaken = λ none. none;
            within_ups = λ low. low;
            counted = refl;
            heard = [];
            downs = sym (append-nil z.downs);
            within = λ low. low;
            unheard = λ none. refl;
            quiet = λ none. refl;
            unreset = refl;
            linked = refl;
            its = refl;
            knew = refl;
            first = refl;
            data_left = λ taken at. at ∙ sym (left_same x y same.connections z.first);
          };
          left = left ∙ ap not (sym (wire_by_job e.state.link e.state t grows.line grows.dial (m.is_dead_at app)));
        }

        changes : IfSome (e.connection_at t.dial) (Changes x y (m.is_dead_at app) g t e)
        changes =
            puts (e.connection_at t.dial) (subst (λ (n : ℕ). IfSome (e.connection_at n) (DownBy e.state.line v x app e)) (sym grows.dial) ((h.sites d).link.apps app alive).down)
            (subst (λ (n : ℕ). IfSome (e.connection_at n) (ConnectionIs v x app e.state.dial)) (sym grows.dial) ((is.pairs app).each e.state.dial))
            ((is.pairs app).left t.dial)

        still : KnowsStill t.line (knows (with_state t e.shown e)) (option_map g (e.connection_at t.dial))
        still =
            subst (λ (k : Knew). KnowsStill t.line k (option_map g (e.connection_at t.dial)))
            (sym (knows_by_job (grew d).put e.state.session t.session e.told e.state.told t.told grows.session grows.told))
            (still_by_job e.state.link e.state.line t.line (session_at a d).window (grew d).put (knows e) (e.connection_at t.dial) grows.line
            (subst (λ (n : ℕ). KnowsStill e.state.line (knows e) (e.connection_at n)) (sym grows.dial) (is.pairs app).still))
