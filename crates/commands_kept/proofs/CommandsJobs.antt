-- Which commands the requests of application ends are of, over each step of a job's command.
use Rattle.std.proofs.Common.{◌≡◌, ◌≢◌, ◌<◌, ◌≤◌, ◌⊎◌, inl, inr, ℕ, Bool, true, false, if◌then◌else◌, List, length, Option, Some, None, is_some, option_map, refl, sym, ◌∙◌, ap, subst, arith}
use Rattle.std.specs.Prelude.{IfSome, IsSomeAnd, nat_lt, unwrap_or, get_or}
use Rattle.std.specs.List.{AllByRecursion, range_with_len}
use Rattle.std.proofs.lemmas.Bool.{ltb-true, ltb-false}
use Rattle.std.proofs.lemmas.List.{get_or_past}
use Rattle.std.proofs.lemmas.List.FromFn.{length-map-range_with_len}
use Rattle.plain_orders.specs.declared.act.Act.{Act}
use Rattle.plain_orders.specs.declared.layout.Layout.{Layout}
use Rattle.plain_orders.specs.declared.mode.Mode.{Mode}
use Rattle.plain_runs.specs.Plain.{put}
use Rattle.plain_runs.specs.Run.{IsRun, state_after}
use Rattle.ecp_messages.specs.declared.up.Up.{Up}
use Rattle.app_job.specs.Sites.{Site as Target}
use Rattle.app_job.specs.declared.command.Command.{Command}
use Rattle.app_job.specs.declared.command.Command.TheVariants.{Set, Kill, Get, Shape, Next, Incr, Lock, Unlock, Start, Commit, Rollback, Sync}
use Rattle.app_rules.specs.declared.session_parts.Asked.{Asked}
use Rattle.app_rules.specs.declared.session_parts.Lost.{Lost}
use Rattle.app_rules.specs.AppState.{AppEnd, AppState, Session, no_end, no_session}
use Rattle.app_rules.specs.AppStep.{made}
use Rattle.app_rules.specs.Issuing.{number_in, uses}
use Rattle.app_rules.specs.JobState.{JobState, Progress, Turn, Work, used_at}
use Rattle.app_rules.specs.JobStep.{Turns, is_waiting, kept, work_of}
use Rattle.app_rules.specs.Refusing.{refusal_of}
use Rattle.app_rules.specs.Works.{begun, end_at, is_normal, session_of}
use Rattle.app_rules.proofs.JobKept.{job_steps_keep}
use Rattle.cluster_runs.specs.CoresState.{Begun, CoresState, app_of_job, is_dead}
use Rattle.cluster_runs.specs.declared.move_outs.MoveOuts.{MoveOuts}
use Rattle.cluster_runs.specs.declared.moves.Move.TheVariants.{Step}
use Rattle.cluster_runs.specs.Goes.{JobGoes, job_site, app_end}
use Rattle.cluster_runs.specs.Machine.{Machine, Site, End, app_state, end_state}
use Rattle.cluster_runs.specs.Mirrors.{Mirrors}
use Rattle.cluster_runs.specs.Moves.{Allowed, LineMay}
use Rattle.cluster_runs.specs.Steps.{begun_with}
use Rattle.cluster_invariant.specs.Commands.{CommandsHold, IsLockOf, LostIs, WaitsFor}
use Rattle.cluster_invariant.specs.Holds.{Holds}
use Rattle.cluster_invariant.proofs.AllLists.{all_both, all_follow}
use Rattle.cluster_invariant.proofs.Small.{at_places, put_other, put_same, some_kept}
use Rattle.cluster_steps.proofs.AppSites.{app_ends, end_has_state, site_ends}
use Rattle.cluster_steps.proofs.JobEnds.{EndGrows, Grew, SessionsGrow, grows_by}
use Rattle.cluster_steps.proofs.JobPiecesOf.{job_goes}
use Rattle.ends_kept.proofs.TablesKept.{normal_has}
use Rattle.link_kept.proofs.WindowsGo.{same_or}
use Rattle.asks_change.proofs.LockedAsks.{AllAsks, AsksKeep, Elsewhere, keep_left, left_all, turn_keeps}
use Rattle.asks_change.proofs.LockWaits.{LockWaits, lock_waits, unrefused, uses_its}

-- a request of another end's session number, and of an end of which as many attempts failed
pub waits_changed : (app d n k : ℕ) (e f : AppEnd) (x : Asked) (its : ℕ) (b : Begun) (j : JobState) → k ≡ n → f.failed ≡ e.failed
    → WaitsFor app d n e x its b j → WaitsFor app d k f x its b j
waits_changed app d n k e f x its b j same failed is = record {
  its = is.its;
  waits = is.waits;
  used = is.used ∙ ap (λ (i : ℕ). Some i) (sym same);
  untried = untried j.progress is.untried;
}
  where
    untried : (o : Option Progress) → IfSome o (λ p. e.failed ≤ get_or p.failed d 0) → IfSome o (λ p. f.failed ≤ get_or p.failed d 0)
    untried None is = tt
    untried (Some p) is = omega (arith, is, failed)

-- a command that is the lock of a request
pub lock_of : (d : ℕ) (mode : Mode) (key : List ℕ) (k : Command) → IsLockOf d mode key k
    → (at : Target) × (m : Mode) × (wait : Option ℕ) × (k ≡ Lock at m wait) × (at.server ≡ d)
lock_of d mode key (Set at value) is = absurd is
lock_of d mode key (Kill at) is = absurd is
lock_of d mode key (Get at) is = absurd is
lock_of d mode key (Shape at) is = absurd is
lock_of d mode key (Next parent sub) is = absurd is
lock_of d mode key (Incr at amount) is = absurd is
lock_of d mode key (Lock at m wait) is = (at, m, wait, refl, is.0)
lock_of d mode key (Unlock at m now) is = absurd is
lock_of d mode key Start is = absurd is
lock_of d mode key (Commit sync) is = absurd is
lock_of d mode key Rollback is = absurd is
lock_of d mode key (Sync server) is = absurd is

-- the command of a job that waits is the one that waited
pub line_lock : (d : ℕ) (mode : Mode) (key : List ℕ) (o : Option Command) (last line : ℕ) (command : Command) → IsSomeAnd o (IsLockOf d mode key)
    → LineMay o last line command
    → IsLockOf d mode key command
line_lock d mode key None last line command is may = absurd is
line_lock d mode key (Some k) last line command is may = subst (IsLockOf d mode key) (sym may.1) is

-- a session that grew was there
grown : (put : List Up) (o q : Option Session) (t : Session) → q ≡ Some t → SessionsGrow put o q → (s : Session) × (o ≡ Some s) × (t.number ≡ s.number)
grown put None None t is g = absurd (cc (is))
grown put None (Some q) t is g = absurd g
grown put (Some s) None t is g = absurd g
grown put (Some s) (Some q) t is g = (s, refl, ap number_in (heads q t is) ∙ g.number)
  where
    heads : (a b : Session) → Some a ≡ Some b → b ≡ a
    heads a b same = cc (same)

module _ (l : Layout) (c : CoresState) (m : Machine) (job now line : ℕ) (command : Command) (outs : MoveOuts) (written : List Act) (new : Machine) (h : Holds l m)
    (shows : Mirrors c m) (allowed : Allowed c (Step job now line command)) (goes : JobGoes m (app_of_job m.layout job) job now line command outs written new) where
  abbrev app : ℕ
  app = app_of_job m.layout job

  abbrev a : AppState
  a = app_state m app

  abbrev w : Work
  w = work_of a (m.job_at job) now line

  abbrev t : Turn
  t = goes.steps.turn

  placed : app < c.layout.apps
  placed = subst (λ (k : Layout). app_of_job k job < c.layout.apps) shows.layout allowed.alive.placed

  alive : m.is_dead_at app ≡ false
  alive = sym (shows.dead app) ∙ ap (λ (k : Layout). is_dead c (app_of_job k job)) (sym shows.layout) ∙ allowed.alive.alive

  same_end : (d : ℕ) → end_at a d ≡ end_state m app d
  same_end d = app_ends c m app d shows placed

  normal : (d : ℕ) → is_normal (end_at a d).link ≡ true → is_some (end_at a d).session ≡ true
  normal d =
      subst (λ (e : AppEnd). is_normal e.link ≡ true → is_some e.session ≡ true) (sym (same_end d))
      (normal_has (((state_after l m.trail).server_at d).pair_at app) (end_state m app d) ((h.sites d).ends.tables app alive))

  grew : (d : ℕ) → Grew d (begun a) (made goes.state goes.app_outs)
  grew d =
      grows_by (begun a) (made goes.state goes.app_outs)
      (job_goes a goes.state (m.job_at job) goes.job_state now line command goes.answer goes.app_outs goes.steps) normal d

  -- what is known of a request of another job, and of one of this job
  abbrev Known : ℕ → AppEnd → Asked → Type 0
  Known d e x =
      (x.job ≢ job → WaitsFor app d (session_of e).number e x (app_of_job m.layout x.job) (m.begun_at x.job) (m.job_at x.job))
      × (x.job ≡ job → IsLockOf d x.mode x.key command)

  abbrev Q : ℕ → Asked → Type 0
  Q d x = Known d (end_at a d) x

  -- before the step
  its_lock : (d n : ℕ) (e : AppEnd) (x : Asked) → WaitsFor app d n e x (app_of_job m.layout x.job) (m.begun_at x.job) (m.job_at x.job) → x.job ≡ job
      → IsLockOf d x.mode x.key command
  its_lock d n e x is same =
      line_lock d x.mode x.key (m.begun_at job).waits (m.begun_at job).line line command
      (subst (λ (i : ℕ). IsSomeAnd (m.begun_at i).waits (IsLockOf d x.mode x.key)) same is.waits)
      (subst (λ (b : Begun). LineMay b.waits b.line line command) (shows.begun job) allowed.line_may)

  known_of : (d : ℕ) (e : AppEnd) (o : Option Session) → e.session ≡ o
      → IfSome o (λ s. AllByRecursion (λ x. WaitsFor app d s.number e x (app_of_job m.layout x.job) (m.begun_at x.job) (m.job_at x.job)) s.asks)
      → IfSome o (λ s. AllByRecursion (Known d e) s.asks)
  known_of d e None its all = tt
  known_of d e (Some s) its all =
      all_follow (λ x. WaitsFor app d s.number e x (app_of_job m.layout x.job) (m.begun_at x.job) (m.job_at x.job)) (Known d e)
      (λ x is. (
        λ other.
            waits_changed app d s.number (session_of e).number e e x (app_of_job m.layout x.job) (m.begun_at x.job) (m.job_at x.job)
            (ap (λ (q : Option Session). (unwrap_or q no_session).number) its) refl is,
        its_lock d s.number e x is,
      )) s.asks all

  first : (d : ℕ) → AllAsks (Q d) (end_at a d)
  first d =
      subst (λ (e : AppEnd). AllAsks (Known d e) e) (sym (same_end d))
      (known_of d (end_state m app d) (end_state m app d).session refl (h.commands.asks app d alive))

  -- after the turn
  turned : AsksKeep Q (begun a) t.work.ends
  turned =
      turn_keeps Q (refusal_of command a (m.job_at job) w.at) command now w t
      (λ at mode wait is ticket.
      (λ other. absurd (other (h.commands.index job)), λ same. subst (IsLockOf at.server mode at.key) (sym is) (refl, refl, refl))) goes.steps.turns

  index_by : (b : Bool) → (kept b t.work).job.index ≡ t.work.job.index
  index_by true = refl
  index_by false = refl

  index_is : t.work.job.index ≡ job
  index_is =
      sym (index_by (is_waiting t.answer)) ∙ ap (λ (j : JobState). j.index) (sym goes.steps.job)
      ∙ (job_steps_keep a goes.state (m.job_at job) goes.job_state now line command goes.answer goes.app_outs goes.steps).1.index ∙ h.commands.index job

  -- after the step
  abbrev Left : Bool → ℕ → Asked → Type 0
  Left b d x = Q d x × (b ≡ false → x.job ≢ job)

  over : (b : Bool) (d : ℕ) → AllAsks (Left b d) (end_at (kept b t.work).ends.state d)
  over true d = both (end_at t.work.ends.state d).session (turned.at d (first d))
    where
      both : (o : Option Session) → IfSome o (λ s. AllByRecursion (Q d) s.asks) → IfSome o (λ s. AllByRecursion (Left true d) s.asks)
      both None all = tt
      both (Some s) all = all_follow (Q d) (Left true d) (λ x is. (is, λ over. absurd (cc (over)))) s.asks all
  over false d =
      both (end_at (kept false t.work).ends.state d).session
      ((keep_left Q t.work.job.index (range_with_len 0 (length t.work.ends.state.ends)) t.work.ends).at d (turned.at d (first d))) (left_all t.work.job.index t.work.ends d)
    where
      both : (o : Option Session) → IfSome o (λ s. AllByRecursion (Q d) s.asks) → IfSome o (λ s. AllByRecursion (Elsewhere t.work.job.index) s.asks)
          → IfSome o (λ s. AllByRecursion (Left false d) s.asks)
      both None all away = tt
      both (Some s) all away =
          all_follow (λ x. Q d x × Elsewhere t.work.job.index x) (Left false d) (λ x is. (is.0, λ over same. is.1 (same ∙ sym index_is))) s.asks
          (all_both (Q d) (Elsewhere t.work.job.index) s.asks all away)

  after : (b : Bool) (d : ℕ) → is_waiting t.answer ≡ b → AllAsks (Left b d) (end_at goes.state d)
  after b d same =
      subst (λ (s : AppState). AllAsks (Left b d) (end_at s d)) (sym goes.steps.app)
      (subst (λ (x : Bool). AllAsks (Left b d) (end_at (kept x t.work).ends.state d)) (sym same) (over b d))

  failed_by : (b : Bool) (d : ℕ) → (end_at (kept b t.work).ends.state d).failed ≡ (end_at a d).failed
  failed_by true d = turned.failed d
  failed_by false d = (keep_left Q t.work.job.index (range_with_len 0 (length t.work.ends.state.ends)) t.work.ends).failed d ∙ turned.failed d

  failed_same : (d : ℕ) → (end_at goes.state d).failed ≡ (end_at a d).failed
  failed_same d = ap (λ (s : AppState). (end_at s d).failed) goes.steps.app ∙ failed_by (is_waiting t.answer) d

  -- the session that an end has had the same number
  its_session : (d : ℕ) (s : Session) → (end_at goes.state d).session ≡ Some s → (o : Session) × ((end_at a d).session ≡ Some o) × (s.number ≡ o.number)
  its_session d s there = grown (grew d).put (end_at a d).session (end_at goes.state d).session s there (grew d).end.session

  -- the data server of an end that has a session is there
  is_there : (d : ℕ) (o : Session) → (end_at a d).session ≡ Some o → d < length (m.job_at job).used
  is_there d o its = go (nat_lt d (length a.ends)) refl
    where
      nothing : None ≡ Some o → ⊥
      nothing same = absurd (cc (same))

      whole : length (m.job_at job).used ≡ length a.ends
      whole =
          ap (λ (j : JobState). length j.used) (sym (shows.jobs job)) ∙ shows.whole.used job allowed.alive.known ∙ ap (λ (k : Layout). k.servers) shows.layout
          ∙ sym (length-map-range_with_len (end_state m app) 0 m.layout.servers)

      go : (b : Bool) → nat_lt d (length a.ends) ≡ b → d < length (m.job_at job).used
      go true low = subst (λ (n : ℕ). d < n) (sym whole) (ltb-true d (length a.ends) low)
      go false past = absurd (nothing (ap (λ (e : AppEnd). e.session) (sym (get_or_past a.ends d no_end (ltb-false d (length a.ends) past))) ∙ its))

  abbrev begun_after : ℕ → Begun
  begun_after = put m.begun_at job (begun_with line command goes.answer)

  abbrev jobs_after : ℕ → JobState
  jobs_after = put m.job_at job goes.job_state

  abbrev Waits : ℕ → Session → Asked → ℕ → Type 0
  Waits d s x i = WaitsFor app d s.number (end_at goes.state d) x (app_of_job m.layout i) (begun_after i) (jobs_after i)

  -- a request of another job
  others_wait : (d : ℕ) (s : Session) (x : Asked) → (end_at goes.state d).session ≡ Some s → x.job ≢ job
      → WaitsFor app d (session_of (end_at a d)).number (end_at a d) x (app_of_job m.layout x.job) (m.begun_at x.job) (m.job_at x.job) → Waits d s x x.job
  others_wait d s x there other is = by (its_session d s there)
    where
      by : (o : Session) × ((end_at a d).session ≡ Some o) × (s.number ≡ o.number) → Waits d s x x.job
      by o =
          subst (λ (b : Begun). WaitsFor app d s.number (end_at goes.state d) x (app_of_job m.layout x.job) b (jobs_after x.job))
          (sym (put_other m.begun_at job (begun_with line command goes.answer) x.job other))
          (subst (λ (j : JobState). WaitsFor app d s.number (end_at goes.state d) x (app_of_job m.layout x.job) (m.begun_at x.job) j)
          (sym (put_other m.job_at job goes.job_state x.job other))
          (waits_changed app d (session_of (end_at a d)).number s.number (end_at a d) (end_at goes.state d) x (app_of_job m.layout x.job) (m.begun_at x.job)
          (m.job_at x.job) (o.2 ∙ sym (ap (λ (q : Option Session). (unwrap_or q no_session).number) o.1)) (failed_same d) is))

  -- one of this job, which waits
  own_waits : (d : ℕ) (s : Session) (x : Asked) → is_waiting t.answer ≡ true → (end_at goes.state d).session ≡ Some s → IsLockOf d x.mode x.key command
      → WaitsFor app d s.number (end_at goes.state d) x app (begun_with line command goes.answer) goes.job_state
  own_waits d s x waiting there lock = by (lock_of d x.mode x.key command lock) (its_session d s there)
    where
      job_is : goes.job_state ≡ (kept true t.work).job
      job_is = goes.steps.job ∙ ap (λ (b : Bool). (kept b t.work).job) waiting

      by : (at : Target) × (mode : Mode) × (wait : Option ℕ) × (command ≡ Lock at mode wait) × (at.server ≡ d)
          → (o : Session) × ((end_at a d).session ≡ Some o) × (s.number ≡ o.number)
          → WaitsFor app d s.number (end_at goes.state d) x app (begun_with line command goes.answer) goes.job_state
      by k o = with_both (lock_waits (refusal_of (Lock k.0 k.1 k.2) a (m.job_at job) w.at) k.0 k.1 k.2 now w t turns waiting)
        where
          turns : Turns (refusal_of (Lock k.0 k.1 k.2) a (m.job_at job) w.at) (Lock k.0 k.1 k.2) now w t
          turns = subst (λ (y : Command). Turns (refusal_of y a (m.job_at job) w.at) y now w t) k.3 goes.steps.turns

          with_both : (refusal_of (Lock k.0 k.1 k.2) a (m.job_at job) w.at ≡ None) × LockWaits k.0.server w t.work
              → WaitsFor app d s.number (end_at goes.state d) x app (begun_with line command goes.answer) goes.job_state
          with_both z = record {
            its = refl;
            waits =
                subst (λ (b : Bool). IsSomeAnd (if b then Some command else None) (IsLockOf d x.mode x.key)) (sym (ap is_waiting goes.steps.answered ∙ waiting)) lock;
            used = ap (λ (j : JobState). used_at j d) (job_is) ∙ ap (λ (j : JobState). used_at j d) (z.1.job ∙ ap (λ (n : ℕ). (uses n w).job) k.4)
                ∙ uses_its d s.number w (ap (option_map number_in) o.1 ∙ ap (λ (n : ℕ). Some n) (sym o.2)) (is_there d o.0 o.1);
            untried =
                subst (λ (q : Option Progress). IfSome q (λ p. (end_at goes.state d).failed ≤ get_or p.failed d 0))
                (ap (λ (p : Progress). Some p) (sym z.1.progress) ∙ sym (ap (λ (j : JobState). j.progress) job_is)) low;
          }
            where
              low : (end_at goes.state d).failed ≤ get_or w.at.failed d 0
              low =
                  subst (λ (n : ℕ). n ≤ get_or w.at.failed d 0) (sym (failed_same d))
                  (subst (λ (n : ℕ). (end_at a n).failed ≤ get_or w.at.failed n 0) k.4 (unrefused k.0 k.1 k.2 a (m.job_at job) w.at z.0))

  each_waits : (b : Bool) (d : ℕ) (s : Session) → is_waiting t.answer ≡ b → (end_at goes.state d).session ≡ Some s → (x : Asked) → Left b d x
      → (x.job ≡ job) ⊎ (x.job ≢ job) → Waits d s x x.job
  each_waits b d s waiting there x is (inr other) = others_wait d s x there other (is.0.0 other)
  each_waits false d s waiting there x is (inl same) = absurd (is.1 refl same)
  each_waits true d s waiting there x is (inl same) =
      subst (Waits d s x) (sym same)
      (subst (λ (b : Begun). WaitsFor app d s.number (end_at goes.state d) x app b (jobs_after job)) (sym (put_same m.begun_at job (begun_with line command goes.answer)))
      (subst (λ (j : JobState). WaitsFor app d s.number (end_at goes.state d) x app (begun_with line command goes.answer) j) (sym (put_same m.job_at job goes.job_state))
      (own_waits d s x waiting there (is.0.1 same))))

  own_end : (d : ℕ) → IfSome (end_at goes.state d).session (λ s. AllByRecursion (λ x. Waits d s x x.job) s.asks)
  own_end d = go (end_at goes.state d).session refl (after (is_waiting t.answer) d refl)
    where
      go : (o : Option Session) → (end_at goes.state d).session ≡ o → IfSome o (λ s. AllByRecursion (Left (is_waiting t.answer) d) s.asks)
          → IfSome o (λ s. AllByRecursion (λ x. Waits d s x x.job) s.asks)
      go None there all = tt
      go (Some s) there all =
          all_follow (Left (is_waiting t.answer) d) (λ x. Waits d s x x.job)
          (λ x is. each_waits (is_waiting t.answer) d s refl there x is (same_or x.job job)) s.asks all

  -- ends of other application servers
  other_end : (i d : ℕ) → i ≢ app → m.is_dead_at i ≡ false
      → IfSome (end_state m i d).session
      (λ s. AllByRecursion (λ x. WaitsFor i d s.number (end_state m i d) x (app_of_job m.layout x.job) (begun_after x.job) (jobs_after x.job)) s.asks)
  other_end i d other lives =
      some_kept
      (λ (s : Session). AllByRecursion (λ x. WaitsFor i d s.number (end_state m i d) x (app_of_job m.layout x.job) (m.begun_at x.job) (m.job_at x.job)) s.asks)
      (λ (s : Session). AllByRecursion (λ x. WaitsFor i d s.number (end_state m i d) x (app_of_job m.layout x.job) (begun_after x.job) (jobs_after x.job)) s.asks)
      (λ s all.
      all_follow (λ x. WaitsFor i d s.number (end_state m i d) x (app_of_job m.layout x.job) (m.begun_at x.job) (m.job_at x.job))
      (λ x. WaitsFor i d s.number (end_state m i d) x (app_of_job m.layout x.job) (begun_after x.job) (jobs_after x.job)) (each s) s.asks all)
      (end_state m i d).session (h.commands.asks i d lives)
    where
      each : (s : Session) (x : Asked) → WaitsFor i d s.number (end_state m i d) x (app_of_job m.layout x.job) (m.begun_at x.job) (m.job_at x.job)
          → WaitsFor i d s.number (end_state m i d) x (app_of_job m.layout x.job) (begun_after x.job) (jobs_after x.job)
      each s x is =
          subst (λ (b : Begun). WaitsFor i d s.number (end_state m i d) x (app_of_job m.layout x.job) b (jobs_after x.job))
          (sym (put_other m.begun_at job (begun_with line command goes.answer) x.job away))
          (subst (λ (j : JobState). WaitsFor i d s.number (end_state m i d) x (app_of_job m.layout x.job) (m.begun_at x.job) j)
          (sym (put_other m.job_at job goes.job_state x.job away)) is)
        where
          away : x.job ≢ job
          away same = other (sym is.its ∙ ap (λ (n : ℕ). app_of_job m.layout n) same)

  -- sessions that were lost
  lost_same : (d : ℕ) → LostIs (end_at goes.state d)
  lost_same d = go (grew d).end (subst LostIs (sym (same_end d)) (h.commands.lost app d alive))
    where
      below : (put : List Up) (o q : Option Session) (lost : List Lost) → SessionsGrow put o q → IfSome o (λ s. AllByRecursion (λ y. y.session < s.number) lost)
          → IfSome q (λ s. AllByRecursion (λ y. y.session < s.number) lost)
      below put None None lost g is = tt
      below put None (Some s) lost g is = absurd g
      below put (Some s) None lost g is = absurd g
      below put (Some s) (Some t) lost g is = subst (λ (n : ℕ). AllByRecursion (λ (y : Lost). y.session < n) lost) (sym g.number) is

      go : EndGrows (grew d).put (end_at a d) (end_at goes.state d) → LostIs (end_at a d) → LostIs (end_at goes.state d)
      go g is = record {
        told =
            subst (λ (ys : List Lost). AllByRecursion (λ (y : Lost). y.session ≤ (end_at goes.state d).told) ys) (sym g.lost)
            (subst (λ (n : ℕ). AllByRecursion (λ (y : Lost). y.session ≤ n) (end_at a d).lost) (sym g.told) is.told);
        below =
            subst (λ (ys : List Lost). IfSome (end_at goes.state d).session (λ s. AllByRecursion (λ (y : Lost). y.session < s.number) ys)) (sym g.lost)
            (below (grew d).put (end_at a d).session (end_at goes.state d).session (end_at a d).lost g.session is.below);
      }

  -- each end after the step
  abbrev site : ℕ → Site
  site d = job_site app goes.app_outs goes.state d (m.site_at d)

  at_app : (P : ℕ → AppEnd → Type 0) (d : ℕ) → P app (end_at goes.state d) → ((i : ℕ) → i ≢ app → P i (end_state m i d)) → (i : ℕ)
      → P i ((site d).end_at i).state
  at_app P d here others i =
      subst (λ (f : ℕ → End). P i (f i).state) (sym (site_ends app d goes.app_outs e.state (end_at goes.state d) None moved (m.site_at d)))
      (at_places (λ (k : ℕ) (y : End). P k y.state) (m.site_at d).end_at app moved
      (subst (P app) (sym (end_has_state d goes.app_outs e.state (end_at goes.state d) e.shown None e)) here) others i)
    where
      e : End
      e = (m.site_at d).end_at app

      moved : End
      moved = app_end d goes.app_outs e.state (end_at goes.state d) e.shown None e

  holds_after : CommandsHold new
  holds_after = subst CommandsHold (sym goes.after) (record {
    index =
        at_places (λ (k : ℕ) (j : JobState). j.index ≡ k) m.job_at job goes.job_state
        ((job_steps_keep a goes.state (m.job_at job) goes.job_state now line command goes.answer goes.app_outs goes.steps).1.index ∙ h.commands.index job)
        (λ q other. h.commands.index q);
    lost = λ i d lives. at_app (λ k e. m.is_dead_at k ≡ false → LostIs e) d (λ is. lost_same d) (λ k other is. h.commands.lost k d is) i lives;
    asks =
        λ i d lives.
        at_app
        (λ k e. m.is_dead_at k ≡ false
        → IfSome e.session (λ s. AllByRecursion (λ x. WaitsFor k d s.number e x (app_of_job m.layout x.job) (begun_after x.job) (jobs_after x.job)) s.asks))
        d (λ is. own_end d) (λ k other is. other_end k d other is) i lives;
  })

-- Each step of a job's command.
pub commands_kept_by_job : (l : Layout) (c : CoresState) (m : Machine) (job now line : ℕ) (command : Command) (outs : MoveOuts) (written : List Act) (new : Machine)
    → Holds l m → IsRun l m.trail → Mirrors c m → Allowed c (Step job now line command)
    → JobGoes m (app_of_job m.layout job) job now line command outs written new
    → CommandsHold new
commands_kept_by_job l c m job now line command outs written new h run shows allowed goes =
    holds_after l c m job now line command outs written new h shows allowed goes
