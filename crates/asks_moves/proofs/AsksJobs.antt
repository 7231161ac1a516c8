-- Each step of a job's command keeps the requests for locks.
use Rattle.std.proofs.Common.{◌≡◌, ◌≢◌, ◌≤◌, ◌<◌, ◌+◌, ◌⊎◌, inl, inr, ℕ, Bool, true, false, ◌&&◌, ◌==◌, List, [], ◌++◌, length, Option, Some, None, is_some, refl, sym, ◌∙◌, ap, subst, arith}
use Rattle.std.specs.Prelude.{IfSome, IsSomeAnd, get_or, nat_lt}
use Rattle.std.specs.List.{AllByRecursion, list_any, range_with_len}
use Rattle.std.proofs.lemmas.Bool.{and_parts, eqb-true, false≢true, ltb-true, ltb-false}
use Rattle.std.proofs.lemmas.List.{append-nil, get_or_past}
use Rattle.plain_orders.specs.declared.act.Act.{Act}
use Rattle.plain_orders.specs.declared.layout.Layout.{Layout}
use Rattle.plain_orders.specs.declared.mode.Mode.{Mode}
use Rattle.plain_runs.specs.Run.{IsRun, state_after}
use Rattle.ecp_messages.specs.declared.down.Down.{Down}
use Rattle.ecp_messages.specs.declared.up.Up.{Up}
use Rattle.app_job.specs.Sites.{Site as Target}
use Rattle.app_job.specs.declared.command.Command.{Command}
use Rattle.app_job.specs.declared.command.Command.TheVariants.{Set, Kill, Get, Shape, Next, Incr, Lock, Unlock, Start, Commit, Rollback, Sync}
use Rattle.app_job.specs.declared.refusal.Refusal.{Refusal}
use Rattle.app_job.specs.declared.refusal.Refusal.TheVariants as refusals
use Rattle.app_rules.specs.declared.session_parts.Asked.{Asked}
use Rattle.app_rules.specs.declared.session_parts.Lost.{Lost}
use Rattle.app_rules.specs.AppState.{AppEnd, AppState, Session, no_end}
use Rattle.app_rules.specs.AppStep.{made}
use Rattle.app_rules.specs.JobState.{JobState, Turn, Work, used_at}
use Rattle.app_rules.specs.JobStep.{Turns, is_waiting, kept, left_at, work_of}
use Rattle.app_rules.specs.Refusing.{refusal_of}
use Rattle.app_rules.specs.Works.{begun, end_at, is_normal}
use Rattle.app_rules.proofs.JobKept.{job_steps_keep}
use Rattle.cluster_runs.specs.CoresState.{Begun, CoresState, app_of_job, is_dead}
use Rattle.cluster_runs.specs.declared.move_outs.MoveOuts.{MoveOuts}
use Rattle.cluster_runs.specs.declared.moves.Move.TheVariants.{Step}
use Rattle.cluster_runs.specs.Goes.{JobGoes, app_end, job_site, with_state}
use Rattle.cluster_runs.specs.Lanes.{is_told_new, told_by}
use Rattle.cluster_runs.specs.Machine.{Machine, End, app_state, end_state}
use Rattle.cluster_runs.specs.Mirrors.{Mirrors}
use Rattle.cluster_runs.specs.Moves.{Allowed, LineMay}
use Rattle.cluster_runs.specs.Sent.{Lane, Place, downs_taken}
use Rattle.cluster_invariant.specs.Asks.{AsksHold, AsksOf, EndAsks, LaneAsks, is_put_for}
use Rattle.cluster_invariant.specs.Commands.{IsLockOf, LostIs, WaitsFor}
use Rattle.cluster_invariant.specs.Holds.{Holds}
use Rattle.cluster_invariant.proofs.Small.{of_some}
use Rattle.cluster_steps.proofs.AppSites.{app_ends, end_has_state}
use Rattle.cluster_steps.proofs.JobEnds.{Grew, SessionsGrow, grows_by}
use Rattle.cluster_steps.proofs.JobPiecesOf.{job_goes}
use Rattle.ends_kept.proofs.TablesKept.{normal_has}
use Rattle.link_apps.proofs.LanesApps.{given_put}
use Rattle.link_kept.proofs.WindowsGo.{same_or}
use Rattle.rounds_apps.proofs.RoundLanes.{LaneGoes}
use Rattle.asks_kept.proofs.UpKinds.{any_of_all}
use Rattle.asks_change.proofs.LockPuts.{beside_lock}
use Rattle.asks_change.proofs.QuietCommands.{is_lock, turn_quiet}
use Rattle.asks_change.proofs.QuietLocks.{Quiet}
use Rattle.commands_kept.proofs.CommandsJobs.{line_lock, lock_of}
use Rattle.asks_moves.proofs.AsksSites.{SessionPuts, SessionsPut, asks_at_site, none_told}
use Rattle.asks_moves.proofs.EndPuts.{AsksAre, are_of}
use Rattle.asks_moves.proofs.LaneTakes.{lane_both}
use Rattle.asks_moves.proofs.LockRefusals.{low_failed, only_rollback}
use Rattle.asks_moves.proofs.LockStages.{Done, Stage, StageIs, done_quiet, done_stage, left_done, none_done, stage_quiet}
use Rattle.asks_moves.proofs.LockTurns.{NonePut, lock_result}
use Rattle.asks_moves.specs.Laws.{EachAsksHold}

-- a command that is a lock
lock_form : (k : Command) → is_lock k ≡ true → (at : Target) × (mode : Mode) × (wait : Option ℕ) × (k ≡ Lock at mode wait)
lock_form (Set at value) is = absurd (false≢true is)
lock_form (Kill at) is = absurd (false≢true is)
lock_form (Get at) is = absurd (false≢true is)
lock_form (Shape at) is = absurd (false≢true is)
lock_form (Next parent sub) is = absurd (false≢true is)
lock_form (Incr at amount) is = absurd (false≢true is)
lock_form (Lock at mode wait) is = (at, mode, wait, refl)
lock_form (Unlock at mode now) is = absurd (false≢true is)
lock_form Start is = absurd (false≢true is)
lock_form (Commit sync) is = absurd (false≢true is)
lock_form Rollback is = absurd (false≢true is)
lock_form (Sync server) is = absurd (false≢true is)

-- a session that grew goes on
grown_puts : (put : List Up) (o q : Option Session) → SessionsGrow put o q → SessionsPut o q None
grown_puts put None None g = tt
grown_puts put None (Some t) g = absurd g
grown_puts put (Some s) None g = absurd g
grown_puts put (Some s) (Some t) g =
    (put, record { number = g.number; epoch = g.epoch; given = given_put s.window t.window put g.acked g.waiting; taken = omega (arith, g.taken) })

module _ (l : Layout) (c : CoresState) (m : Machine) (job now line : ℕ) (command : Command) (outs : MoveOuts) (written : List Act) (new : Machine) (h : Holds l m)
    (shows : Mirrors c m) (allowed : Allowed c (Step job now line command)) (goes : JobGoes m (app_of_job m.layout job) job now line command outs written new) where
  abbrev app : ℕ
  app = app_of_job m.layout job

  abbrev a : AppState
  a = app_state m app

  abbrev w : Work
  w = work_of a (m.job_at job) now line

  abbrev tr : Turn
  tr = goes.steps.turn

  placed : app < c.layout.apps
  placed = subst (λ (k : Layout). app_of_job k job < c.layout.apps) shows.layout allowed.alive.placed

  alive : m.is_dead_at app ≡ false
  alive = sym (shows.dead app) ∙ ap (λ (k : Layout). is_dead c (app_of_job k job)) (sym shows.layout) ∙ allowed.alive.alive

  same_end : (d : ℕ) → end_at a d ≡ end_state m app d
  same_end d = app_ends c m app d shows placed

  normal : (d : ℕ) → is_normal (end_at a d).link ≡ true → is_some (end_at a d).session ≡ true
  normal d =
      subst (λ (e : AppEnd). is_normal e.link ≡ true → is_some e.session ≡ true) (sym (same_end d))
      (normal_has (((state_after l m.trail).server_at d).pair_at app) (end_state m app d) ((h.sites d).ends.tables app alive))

  grew : (d : ℕ) → Grew d (begun a) (made goes.state goes.app_outs)
  grew d =
      grows_by (begun a) (made goes.state goes.app_outs)
      (job_goes a goes.state (m.job_at job) goes.job_state now line command goes.answer goes.app_outs goes.steps) normal d

  index_by : (b : Bool) → (kept b tr.work).job.index ≡ tr.work.job.index
  index_by true = refl
  index_by false = refl

  index_is : tr.work.job.index ≡ job
  index_is =
      sym (index_by (is_waiting tr.answer)) ∙ ap (λ (j : JobState). j.index) (sym goes.steps.job)
      ∙ (job_steps_keep a goes.state (m.job_at job) goes.job_state now line command goes.answer goes.app_outs goes.steps).1.index ∙ h.commands.index job

  -- a request of the job that was put is waited for, and is of its command
  abbrev Put : ℕ → AppEnd → Session → Type 0
  Put d e q = (x : Asked) × (x.job ≡ job) × WaitsFor app d q.number e x (app_of_job m.layout x.job) (m.begun_at x.job) (m.job_at x.job)

  put_waits : (d t : ℕ) (q : Session) → (end_at a d).session ≡ Some q → list_any (is_put_for t job) q.asks ≡ true → Put d (end_at a d) q
  put_waits d t q its found =
      any_of_all (λ x. WaitsFor app d q.number (end_at a d) x (app_of_job m.layout x.job) (m.begun_at x.job) (m.job_at x.job)) (Put d (end_at a d) q) (is_put_for t job)
      (λ x here is. (x, eqb-true x.job job (and_parts (x.ticket == t) (x.job == job) (and_parts x.put (x.ticket == t && x.job == job) here).1).1, is)) q.asks found
      (of_some
      (λ s. AllByRecursion (λ x. WaitsFor app d s.number (end_at a d) x (app_of_job m.layout x.job) (m.begun_at x.job) (m.job_at x.job)) s.asks) (end_at a d).session q its
      (subst
      (λ (e : AppEnd).
      IfSome e.session (λ s. AllByRecursion (λ x. WaitsFor app d s.number e x (app_of_job m.layout x.job) (m.begun_at x.job) (m.job_at x.job)) s.asks)) (sym (same_end d))
      (h.commands.asks app d alive)))

  its_lock : (d : ℕ) (e : AppEnd) (q : Session) (y : Put d e q) → IsLockOf d y.0.mode y.0.key command
  its_lock d e q y =
      line_lock d y.0.mode y.0.key (m.begun_at job).waits (m.begun_at job).line line command
      (subst (λ (i : ℕ). IsSomeAnd (m.begun_at i).waits (IsLockOf d y.0.mode y.0.key)) y.1 y.2.waits)
      (subst (λ (b : Begun). LineMay b.waits b.line line command) (shows.begun job) allowed.line_may)

  -- so at an end that the command isn't a lock of none was put
  none_elsewhere : (d : ℕ) → ((mode : Mode) (key : List ℕ) → IsLockOf d mode key command → ⊥) → NonePut job (end_at a d)
  none_elsewhere d other = go (end_at a d).session refl
    where
      go : (o : Option Session) → (end_at a d).session ≡ o → IfSome o (λ q. (t : ℕ) → list_any (is_put_for t job) q.asks ≡ true → ⊥)
      go None its = tt
      go (Some q) its = λ t found. by (put_waits d t q its found)
        where
          by : Put d (end_at a d) q → ⊥
          by y = other y.0.mode y.0.key (its_lock d (end_at a d) q y)

  -- at one data server, in the session that its end has
  module _ (d : ℕ) (s : Session) (p : Place) (its : (end_state m app d).session ≡ Some s) (told : ((m.site_at d).end_at app).told ≡ Some p) where
    abbrev lane : Lane
    lane = (m.site_at d).lane_at s.number p.order

    its_too : (end_at a d).session ≡ Some s
    its_too = ap (λ (e : AppEnd). e.session) (same_end d) ∙ its

    abbrev St : AppEnd → Type 0
    St f = Stage lane.up (downs_taken lane) s.window.waiting job f

    abbrev Dn : AppEnd → Type 0
    Dn f = Done lane.up (downs_taken lane) s.window.waiting job f

    asks_before : AsksAre lane.up (downs_taken lane) (end_at a d).ticket s.asks
    asks_before =
        subst (λ (e : AppEnd). AsksAre lane.up (downs_taken lane) e.ticket s.asks) (sym (same_end d))
        (are_of lane (end_state m app d).ticket s.asks ((h.sites d).asks.lanes s.number p.order)
        (of_some (λ (q : Place). EndAsks ((m.site_at d).lane_at s.number q.order) (end_state m app d).ticket s.asks) ((m.site_at d).end_at app).told p told
        (of_some (AsksOf (m.site_at d) ((m.site_at d).end_at app)) (end_state m app d).session s its ((h.sites d).asks.apps app alive))))

    first : St (end_at a d)
    first =
        subst (λ (o : Option Session). IfSome o (StageIs lane.up (downs_taken lane) s.window.waiting job (end_at a d))) (sym its_too) (record {
          put = [];
          waiting = sym (append-nil s.window.waiting);
          are = subst (λ (ms : List Up). AsksAre ms (downs_taken lane) (end_at a d).ticket s.asks) (sym (append-nil lane.up)) asks_before;
        })

    there : d < length a.ends
    there = go (nat_lt d (length a.ends)) refl
      where
        nothing : ◌≡◌ {A = Option Session} None (Some s) → ⊥
        nothing same = absurd cc

        go : (b : Bool) → nat_lt d (length a.ends) ≡ b → d < length a.ends
        go true low = ltb-true d (length a.ends) low
        go false past = absurd (nothing (ap (λ (e : AppEnd). e.session) (sym (get_or_past a.ends d no_end (ltb-false d (length a.ends) past))) ∙ its_too))

    abbrev Turned : ℕ → Type 0
    Turned k = St (end_at tr.work.ends.state k) × (is_waiting tr.answer ≡ false → Dn (end_at tr.work.ends.state k))

    -- an end at which nothing of the job was put, and that is as it was but for other messages
    calm : NonePut job (end_at a d) → Quiet (begun a) tr.work.ends → Turned d
    calm none x = (
      stage_quiet lane.up (downs_taken lane) s.window.waiting job (end_at a d) (end_at tr.work.ends.state d) (x.at d) first,
      λ over.
          done_quiet lane.up (downs_taken lane) s.window.waiting job (end_at a d) (end_at tr.work.ends.state d) (x.at d)
          (none_done lane.up (downs_taken lane) s.window.waiting job (end_at a d) none first),
    )

    apart : NonePut job (end_at a d) → end_at tr.work.ends.state d ≡ end_at a d → Turned d
    apart none same =
        (subst St (sym same) first, λ over. subst Dn (sym same) (none_done lane.up (downs_taken lane) s.window.waiting job (end_at a d) none first))

    -- a lock at this data server
    own_lock : (at : Target) (mode : Mode) (wait : Option ℕ) → command ≡ Lock at mode wait → at.server ≡ d → Turned d
    own_lock at mode wait is same =
        subst Turned same
        (lock_result lane.up (downs_taken lane) s.window.waiting job at mode (refusal_of (Lock at mode wait) a (m.job_at job) w.at) wait now w tr
        (subst (λ (y : Command). Turns (refusal_of y a (m.job_at job) w.at) y now w tr) is goes.steps.turns) (h.commands.index job)
        (subst (λ (n : ℕ). n < length a.ends) (sym same) there)
        (λ r refused other. subst (λ (n : ℕ). NonePut job (end_at a n)) (sym same) (none r refused other))
        (subst (λ (n : ℕ). St (end_at a n)) (sym same) first))
      where
        none : (r : Refusal) → refusal_of (Lock at mode wait) a (m.job_at job) w.at ≡ Some r → r ≢ refusals.RollbackOnly → NonePut job (end_at a d)
        none r refused other =
            subst (λ (o : Option Session). IfSome o (λ q. (t : ℕ) → list_any (is_put_for t job) q.asks ≡ true → ⊥)) (sym its_too)
            (λ t found. by (put_waits d t s its_too found))
          where
            below : AllByRecursion (λ (y : Lost). y.session < s.number) (end_at a d).lost
            below =
                of_some (λ q. AllByRecursion (λ (y : Lost). y.session < q.number) (end_at a d).lost) (end_at a d).session s its_too
                (subst LostIs (sym (same_end d)) (h.commands.lost app d alive)).below

            by : Put d (end_at a d) s → ⊥
            by y =
                other
                (only_rollback at mode wait a (m.job_at job) w.at r s.number
                (subst (λ (n : ℕ). used_at (m.job_at job) n ≡ Some s.number) (sym same) (subst (λ (i : ℕ). used_at (m.job_at i) d ≡ Some s.number) y.1 y.2.used))
                (subst (λ (n : ℕ). AllByRecursion (λ (z : Lost). z.session < s.number) (end_at a n).lost) (sym same) below)
                (subst (λ (n : ℕ). (end_at a n).failed ≤ get_or w.at.failed n 0) (sym same)
                (low_failed a (m.job_at job) now line d there (m.job_at job).progress (subst (λ (i : ℕ). IfSome (m.job_at i).progress (λ z. (end_at a d).failed ≤ get_or z.failed d 0)) y.1 y.2.untried)))
                refused)

    other_lock : (at : Target) (mode : Mode) (wait : Option ℕ) → command ≡ Lock at mode wait → at.server ≢ d → Turned d
    other_lock at mode wait is other =
        apart (none_elsewhere d (λ m2 key lock. other (subst (IsLockOf d m2 key) is lock).0))
        ((beside_lock (refusal_of (Lock at mode wait) a (m.job_at job) w.at) at mode wait now w tr
        (subst (λ (y : Command). Turns (refusal_of y a (m.job_at job) w.at) y now w tr) is goes.steps.turns)).at d (λ same. other (sym same)))

    turned : (b : Bool) → is_lock command ≡ b → Turned d
    turned false other =
        calm (none_elsewhere d (λ mode key lock. unlocked mode key (lock_of d mode key command lock)))
        (turn_quiet (refusal_of command a (m.job_at job) w.at) command now w tr other goes.steps.turns)
      where
        unlocked : (mode : Mode) (key : List ℕ) → (at : Target) × (k : Mode) × (wait : Option ℕ) × (command ≡ Lock at k wait) × (at.server ≡ d) → ⊥
        unlocked mode key y = false≢true (sym other ∙ ap is_lock y.3)
    turned true locks = by (lock_form command locks)
      where
        by : (at : Target) × (mode : Mode) × (wait : Option ℕ) × (command ≡ Lock at mode wait) → Turned d
        by y = at_or (same_or y.0.server d)
          where
            at_or : (y.0.server ≡ d) ⊎ (y.0.server ≢ d) → Turned d
            at_or (inl same) = own_lock y.0 y.1 y.2 y.3 same
            at_or (inr other) = other_lock y.0 y.1 y.2 y.3 other

    over : (b : Bool) → (b ≡ false → Dn (end_at tr.work.ends.state d)) → St (end_at tr.work.ends.state d) → St (end_at (kept b tr.work).ends.state d)
    over true done stage = stage
    over false done stage =
        done_stage lane.up (downs_taken lane) s.window.waiting job (end_at (kept false tr.work).ends.state d)
        (subst (λ (j : ℕ). Dn (end_at (left_at j (range_with_len 0 (length tr.work.ends.state.ends)) tr.work.ends).state d)) (sym index_is)
        (left_done lane.up (downs_taken lane) s.window.waiting job d (range_with_len 0 (length tr.work.ends.state.ends)) tr.work.ends (done refl)))

    last : St (end_at goes.state d)
    last = by (turned (is_lock command) refl)
      where
        by : Turned d → St (end_at goes.state d)
        by y = subst (λ (z : AppState). St (end_at z d)) (sym goes.steps.app) (over (is_waiting tr.answer) y.1 y.0)

    keeps : (r : Session) → (end_at goes.state d).session ≡ Some r → (given : List Up) → SessionPuts s r None given → (b : Lane) → LaneGoes lane b None given
        → LaneAsks b × EndAsks b (end_at goes.state d).ticket r.asks
    keeps r now_is given g b lg =
        by (of_some (StageIs lane.up (downs_taken lane) s.window.waiting job (end_at goes.state d)) (end_at goes.state d).session r now_is last)
        (subst (λ (o : Option Session). SessionsGrow (grew d).put (Some s) o) now_is
        (subst (λ (o : Option Session). SessionsGrow (grew d).put o (end_at goes.state d).session) its_too (grew d).end.session))
      where
        by : StageIs lane.up (downs_taken lane) s.window.waiting job (end_at goes.state d) r → SessionsGrow (grew d).put (Some s) (Some r)
            → LaneAsks b × EndAsks b (end_at goes.state d).ticket r.asks
        by y z =
            lane_both lane b None given (end_at goes.state d).ticket r.asks ((h.sites d).link.lanes s.number p.order).up_taken ((h.sites d).asks.lanes s.number p.order) lg tt
            (subst (λ (ms : List Down). AsksAre (lane.up ++ given) ms (end_at goes.state d).ticket r.asks) (sym (append-nil (downs_taken lane)))
            (subst (λ (ms : List Up). AsksAre (lane.up ++ ms) (downs_taken lane) (end_at goes.state d).ticket r.asks)
            (sym (given_put s.window r.window y.put z.acked y.waiting) ∙ g.given) y.are))

  -- at one data server
  asks_after : (d : ℕ) → AsksHold (job_site app goes.app_outs goes.state d (m.site_at d)) m.is_dead_at
  asks_after d =
      asks_at_site ((state_after l m.trail).server_at d) (m.site_at d) m.is_dead_at app d goes.app_outs t None (app_end d goes.app_outs e.state t e.shown None e) None alive
      (h.sites d).ends (h.sites d).link (h.sites d).asks none
      (ap (λ (b : Bool). (told_by b None e.state.dial (with_state t e.shown e)).told) none) (end_has_state d goes.app_outs e.state t e.shown None e) went
      (λ s r p its now_is told given g b lg. keeps d s p its told r now_is given g b lg)
    where
      e : End
      e = (m.site_at d).end_at app

      t : AppEnd
      t = end_at goes.state d

      went : SessionsPut e.state.session t.session None
      went =
          grown_puts (grew d).put e.state.session t.session
          (subst (λ (f : AppEnd). SessionsGrow (grew d).put f.session t.session) (same_end d) (grew d).end.session)

      none : is_told_new e.state.session t.session ≡ false
      none = none_told e.state.session t.session None went

  asks_all : EachAsksHold new
  asks_all = subst (λ (n : Machine). EachAsksHold n) (sym goes.after) (λ d. asks_after d)

-- Each step of a job's command keeps them.
pub asks_kept_by_job : (l : Layout) (c : CoresState) (m : Machine) (job now line : ℕ) (command : Command) (outs : MoveOuts) (written : List Act) (new : Machine)
    → Holds l m → IsRun l m.trail → Mirrors c m → Allowed c (Step job now line command)
    → JobGoes m (app_of_job m.layout job) job now line command outs written new
    → EachAsksHold new
asks_kept_by_job l c m job now line command outs written new h run shows allowed goes =
    asks_all l c m job now line command outs written new h shows allowed goes
