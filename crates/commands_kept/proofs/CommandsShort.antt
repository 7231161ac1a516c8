-- Which commands the requests of application ends are of, over the moves that leave those ends as they are.
use Rattle.std.proofs.Common.{◌≡◌, ◌≢◌, ◌⊎◌, inl, inr, ℕ, Bool, true, false, List, Option, Some, None, is_some, refl, sym, ◌∙◌, ap, subst}
use Rattle.std.specs.Prelude.{IfSome, IsSomeAnd}
use Rattle.std.specs.List.{AllByRecursion}
use Rattle.std.proofs.lemmas.Bool.{false≢true}
use Rattle.plain_orders.specs.declared.act.Act.{Act}
use Rattle.plain_orders.specs.declared.entry.Entry.{Entry}
use Rattle.plain_orders.specs.declared.layout.Layout.{Layout}
use Rattle.plain_runs.specs.Plain.{put}
use Rattle.plain_runs.specs.Run.{IsRun}
use Rattle.app_job.specs.Sites.{Site as Target}
use Rattle.app_job.specs.declared.command.Command.{Command}
use Rattle.app_rules.specs.declared.session_parts.Asked.{Asked}
use Rattle.app_rules.specs.AppState.{AppEnd, Session}
use Rattle.app_rules.specs.JobState.{JobState, with_used}
use Rattle.data_rules.specs.declared.data_in.DataIn.{DataIn}
use Rattle.cluster_runs.specs.declared.move_outs.MoveOuts.{MoveOuts}
use Rattle.cluster_runs.specs.declared.moves.Move.TheVariants.{Begin, Server}
use Rattle.cluster_runs.specs.CoresState.{Begun, CoresState, app_of_job}
use Rattle.cluster_runs.specs.Goes.{BeginGoes, DieGoes, HaltGoes, LookGoes, ServerGoes, TickGoes, at_site, begun_site, halted_site, server_site}
use Rattle.cluster_runs.specs.Machine.{Machine, Site, end_state, with_acts}
use Rattle.cluster_runs.specs.Mirrors.{Mirrors}
use Rattle.cluster_runs.specs.Moves.{Allowed, LookedMay}
use Rattle.cluster_invariant.specs.Commands.{CommandsHold, LostIs, WaitsFor}
use Rattle.cluster_invariant.specs.Holds.{Holds}
use Rattle.cluster_invariant.proofs.AllLists.{all_follow}
use Rattle.cluster_invariant.proofs.Frame.{kept_by_tick}
use Rattle.cluster_invariant.proofs.Small.{at_places, put_other, some_kept}
use Rattle.link_kept.proofs.WindowsGo.{same_or}
use Rattle.fronts_kept.proofs.FrontsServer.{server_ends}

-- the requests of an end, by all jobs and what they have begun
abbrev AsksBy : ℕ → ℕ → Layout → (ℕ → Begun) → (ℕ → JobState) → AppEnd → Type 0
AsksBy app d l begun jobs e =
    IfSome e.session (λ s. AllByRecursion (λ a. WaitsFor app d s.number e a (app_of_job l a.job) (begun a.job) (jobs a.job)) s.asks)

-- ends as they were, and jobs
commands_same : (m new : Machine) → new.layout ≡ m.layout → new.begun_at ≡ m.begun_at → new.job_at ≡ m.job_at
    → ((app d : ℕ) → end_state new app d ≡ end_state m app d) → ((a : ℕ) → new.is_dead_at a ≡ false → m.is_dead_at a ≡ false) → CommandsHold m → CommandsHold new
commands_same m new layout begun jobs same alive h = record {
  index = λ job. ap (λ (f : ℕ → JobState). (f job).index) jobs ∙ h.index job;
  lost = λ app d lives. subst LostIs (sym (same app d)) (h.lost app d (alive app lives));
  asks =
      λ app d lives.
      subst (λ (e : AppEnd). AsksBy app d new.layout new.begun_at new.job_at e) (sym (same app d))
      (subst (λ (f : ℕ → JobState). AsksBy app d new.layout new.begun_at f (end_state m app d)) (sym jobs)
      (subst (λ (f : ℕ → Begun). AsksBy app d new.layout f m.job_at (end_state m app d)) (sym begun)
      (subst (λ (k : Layout). AsksBy app d k m.begun_at m.job_at (end_state m app d)) (sym layout) (h.asks app d (alive app lives)))));
}

-- a site whose ends are as they were
at_one : (m new : Machine) (server : ℕ) (f : Site → Site) (written : List Act) → new ≡ with_acts written (at_site server f m)
    → ((app : ℕ) → ((f (m.site_at server)).end_at app).state ≡ ((m.site_at server).end_at app).state) → CommandsHold m → CommandsHold new
at_one m new server f written after same h =
    subst CommandsHold (sym after)
    (commands_same m (with_acts written (at_site server f m)) refl refl refl
    (λ app d.
    at_places (λ (k : ℕ) (x : Site). (x.end_at app).state ≡ ((m.site_at k).end_at app).state) m.site_at server (f (m.site_at server)) (same app) (λ q other. refl) d)
    (λ a lives. lives) h)

-- Each step of a data server.
pub commands_kept_by_server : (l : Layout) (c : CoresState) (m : Machine) (server now : ℕ) (input : DataIn) (outs : MoveOuts) (written : List Act) (new : Machine)
    → Holds l m → IsRun l m.trail → Mirrors c m → Allowed c (Server server now input) → ServerGoes m server now input outs written new → CommandsHold new
commands_kept_by_server l c m server now input outs written new h run shows allowed goes =
    at_one m new server (server_site goes.node now input goes.data_outs goes.state) written goes.after
    (server_ends goes.node now input goes.data_outs goes.state (m.site_at server)).state h.commands

-- Each start of one.
pub commands_kept_by_begin : (l : Layout) (c : CoresState) (m : Machine) (server now : ℕ) (es : List Entry) (outs : MoveOuts) (written : List Act) (new : Machine)
    → Holds l m → IsRun l m.trail → Mirrors c m → Allowed c (Begin server now es) → BeginGoes m server now es outs written new → CommandsHold new
commands_kept_by_begin l c m server now es outs written new h run shows allowed goes =
    at_one m new server (begun_site m.layout server now es) written goes.after (λ app. refl) h.commands

-- A halt.
pub commands_kept_by_halt : (l : Layout) (m : Machine) (server : ℕ) (outs : MoveOuts) (written : List Act) (new : Machine) → Holds l m → HaltGoes m server outs written new → CommandsHold new
commands_kept_by_halt l m server outs written new h goes =
    subst CommandsHold (sym goes.after)
    (commands_same m (at_site server halted_site m) refl refl refl
    (λ app d.
    at_places (λ (k : ℕ) (x : Site). (x.end_at app).state ≡ ((m.site_at k).end_at app).state) m.site_at server (halted_site (m.site_at server)) refl (λ q other. refl) d)
    (λ a lives. lives) h.commands)

-- An application server that goes.
pub commands_kept_by_die : (l : Layout) (m : Machine) (app : ℕ) (outs : MoveOuts) (written : List Act) (new : Machine) → Holds l m → DieGoes m app outs written new → CommandsHold new
commands_kept_by_die l m app outs written new h goes =
    subst CommandsHold (sym goes.after) (commands_same m _ refl refl refl (λ a d. refl) alive h.commands)
  where
    alive : (a : ℕ) → put m.is_dead_at app true a ≡ false → m.is_dead_at a ≡ false
    alive a = at_places (λ (k : ℕ) (b : Bool). b ≡ false → m.is_dead_at k ≡ false) m.is_dead_at app true (λ is. absurd (false≢true (sym is))) (λ q other is. is) a

-- A tick.
pub commands_kept_by_tick : (l : Layout) (m new : Machine) (now : ℕ) (outs : MoveOuts) (written : List Act) → Holds l m → TickGoes m now outs written new → CommandsHold new
commands_kept_by_tick l m new now outs written h goes = (kept_by_tick l m new now outs written h goes).commands

-- A look: the job waits for nothing.
pub commands_kept_by_look : (l : Layout) (c : CoresState) (m : Machine) (app job line : ℕ) (at : Target) (outs : MoveOuts) (written : List Act) (new : Machine)
    → Holds l m → Mirrors c m → LookedMay c job line at → LookGoes m app job line at outs written new → CommandsHold new
commands_kept_by_look l c m app job line at outs written new h shows may goes =
    subst CommandsHold (sym goes.after) (record {
      index =
          at_places (λ (k : ℕ) (j : JobState). j.index ≡ k) m.job_at job (with_used at.server (Some goes.front.session) (m.job_at job)) (h.commands.index job)
          (λ q other. h.commands.index q);
      lost = h.commands.lost;
      asks =
          λ i d lives.
          some_kept
          (λ (s : Session). AllByRecursion (λ a. WaitsFor i d s.number (end_state m i d) a (app_of_job m.layout a.job) (m.begun_at a.job) (m.job_at a.job)) s.asks)
          (λ (s : Session). AllByRecursion (λ a. WaitsFor i d s.number (end_state m i d) a (app_of_job m.layout a.job) (begun a.job) (jobs a.job)) s.asks)
          (λ s all. all_follow (λ a. WaitsFor i d s.number (end_state m i d) a (app_of_job m.layout a.job) (m.begun_at a.job) (m.job_at a.job))
          (λ a. WaitsFor i d s.number (end_state m i d) a (app_of_job m.layout a.job) (begun a.job) (jobs a.job))
          (λ a is. waits i d s a is (same_or a.job job)) s.asks all)
          (end_state m i d).session (h.commands.asks i d lives);
    })
  where
    begun : ℕ → Begun
    begun = put m.begun_at job (record { line = line; waits = None })

    jobs : ℕ → JobState
    jobs = put m.job_at job (with_used at.server (Some goes.front.session) (m.job_at job))

    none : (o : Option Command) (P : Command → Type 0) → is_some o ≡ false → IsSomeAnd o P → ⊥
    none None P free is = is
    none (Some k) P free is = false≢true (sym free)

    waits : (i d : ℕ) (s : Session) (a : Asked) → WaitsFor i d s.number (end_state m i d) a (app_of_job m.layout a.job) (m.begun_at a.job) (m.job_at a.job)
        → (a.job ≡ job) ⊎ (a.job ≢ job) → WaitsFor i d s.number (end_state m i d) a (app_of_job m.layout a.job) (begun a.job) (jobs a.job)
    waits i d s a is (inl same) =
        absurd (none (m.begun_at a.job).waits _
        (ap (λ (k : ℕ). is_some (m.begun_at k).waits) same ∙ ap (λ (b : Begun). is_some b.waits) (sym (shows.begun job)) ∙ may.free) is.waits)
    waits i d s a is (inr other) =
        subst (λ (b : Begun). WaitsFor i d s.number (end_state m i d) a (app_of_job m.layout a.job) b (jobs a.job)) (sym (put_other m.begun_at job _ a.job other))
        (subst (λ (j : JobState). WaitsFor i d s.number (end_state m i d) a (app_of_job m.layout a.job) (m.begun_at a.job) j) (sym (put_other m.job_at job _ a.job other)) is)
