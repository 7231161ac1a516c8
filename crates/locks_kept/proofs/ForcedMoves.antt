-- Each hold in force is of a live session, or of one whose Close isn't synced, after each move.
use Rattle.std.proofs.Common.{◌≡◌, ◌≤◌, ◌<◌, ℕ, Bool, true, false, List, [], ◌∷◌, ◌++◌, drop, take, map, Option, Some, None, refl, sym, ◌∙◌, ap, subst, arith, cond}
use Rattle.std.proofs.lemmas.Bool.{false≢true, le-ltb, lt-ltb, ltb-false, ltb-true}
use Rattle.std.specs.Prelude.{nat_lt}
use Rattle.std.specs.List.{list_any, AllByRecursion}
use Rattle.plain_orders.specs.declared.act.Act.{Act}
use Rattle.plain_orders.specs.declared.act.Act.TheVariants.{Opened, Enter, Synced, Shut, Release, Met, Told, Back, Crash, Issue, Read, Grant, Granted, GiveUp, Quit, Free, Counted, NotWhole, Range, Committed, RolledBack, Reached, Level, Done, Refused, Broke, Mended, Tick, Lose, Died}
use Rattle.plain_orders.specs.declared.entry.Entry.{Entry}
use Rattle.plain_orders.specs.declared.layout.Layout.{Layout}
use Rattle.plain_orders.specs.Entries.{closes}
use Rattle.plain_runs.specs.Plain.{Plain, Server, start}
use Rattle.plain_runs.specs.OrderRows.{saved as with_saved}
use Rattle.plain_runs.specs.Run.{IsRun, RunFrom, after_all, state_after}
use Rattle.plain_runs.specs.Step.{after}
use Rattle.plain_runs.proofs.OrderLaws.{orders_kept, row_steps}
use Rattle.plain_runs.proofs.Orders.{OrdersKept, facet}
use Rattle.plain_runs.proofs.RunLemmas.{after_all-append, run_parts}
use Rattle.app_job.specs.declared.command.Command.{Command}
use Rattle.app_job.specs.declared.command.Command.TheVariants as commands
use Rattle.app_rules.specs.Works.{begun as app_begun}
use Rattle.app_rules.specs.AppStep.{made as app_made}
use Rattle.data_rules.specs.DataState.{DataState}
use Rattle.data_rules.specs.declared.data_in.DataIn.{DataIn}
use Rattle.data_rules.specs.declared.data_in.DataIn.TheVariants as data_in
use Rattle.data_rules.specs.Puts.{Sofar, becomes, begun}
use Rattle.data_rules.specs.Saving.{part_saved, writes_synced}
use Rattle.data_rules.specs.Step.{DataMay, DataStep, made}
use Rattle.cluster_runs.specs.CoresState.{CoresState, app_of_job}
use Rattle.cluster_runs.specs.declared.move_outs.MoveOuts.{MoveOuts}
use Rattle.cluster_runs.specs.declared.moves.Move.TheVariants as moves
use Rattle.cluster_runs.specs.Goes.{JobGoes, LookedGoes, ServerGoes}
use Rattle.cluster_runs.specs.Machine.{Machine, app_state}
use Rattle.cluster_runs.specs.Mirrors.{Mirrors}
use Rattle.cluster_runs.specs.Moves.{Allowed, NodeMay}
use Rattle.cluster_runs.specs.Steps.{begin_act, raised}
use Rattle.cluster_steps.proofs.JobActs.{Wrote, wrote_by}
use Rattle.cluster_steps.proofs.JobPieces.{IsOfJob}
use Rattle.cluster_steps.proofs.JobPiecesOf.{job_goes}
use Rattle.cluster_invariant.specs.Holds.{Holds}
use Rattle.cluster_invariant.specs.Orders.{NodeOrder}
use Rattle.cluster_invariant.proofs.AllLists.{all_follow}
use Rattle.cluster_invariant.proofs.AppActs.{Leaves, app_step_leaves}
use Rattle.cluster_invariant.proofs.Deeds.{Deed, Does, act_of}
use Rattle.cluster_invariant.proofs.Deeds.Deed.{Enters, Closes, Releases, ComesBack, Grants, Frees, Breaks}
use Rattle.cluster_invariant.proofs.OrderBeside.{leaves_orders}
use Rattle.cluster_invariant.proofs.OrderMoves.{step_from}
use Rattle.cluster_invariant.proofs.PieceDeeds.{does_step}
use Rattle.cluster_invariant.proofs.PiecesOfSteps.{StepFrom}
use Rattle.cluster_invariant.proofs.Small.{at_places, of_some}
use Rattle.cluster_invariant.proofs.Written.{all_raised}
use Rattle.cluster_promises.specs.Forced.{AllForced}
use Rattle.locks_kept.specs.Laws.{EachForced, MovesKeepForced}
use Rattle.locks_kept.proofs.ForcedActs.{acts_forced, all_but, any_behind, saved_forced, to_release}
use Rattle.locks_kept.proofs.ForcedRows.{AllForcedBut, is_save}
use Rattle.locks_kept.proofs.SaveActs.{save_releases}

-- which acts are no saves

leaves_no_save : (a : Act) → leaves_orders a ≡ true → is_save a ≡ false
leaves_no_save (Opened d entries) leaves = refl
leaves_no_save (Enter d x) leaves = refl
leaves_no_save (Synced d n) leaves = absurd (false≢true leaves)
leaves_no_save (Shut d session cause) leaves = refl
leaves_no_save (Release d session) leaves = refl
leaves_no_save (Met app d session) leaves = refl
leaves_no_save (Told app d session epoch kept) leaves = refl
leaves_no_save (Back d) leaves = refl
leaves_no_save (Crash d kept) leaves = refl
leaves_no_save (Issue job line d w item) leaves = refl
leaves_no_save (Read job line d at via question) leaves = refl
leaves_no_save (Grant d session job mode key at) leaves = refl
leaves_no_save (Granted job line d at) leaves = refl
leaves_no_save (GiveUp job line d mode key) leaves = refl
leaves_no_save (Quit job line d mode key) leaves = refl
leaves_no_save (Free d session job mode key) leaves = refl
leaves_no_save (Counted job line d at sum) leaves = refl
leaves_no_save (NotWhole job line d at) leaves = refl
leaves_no_save (Range job line d at) leaves = refl
leaves_no_save (Committed job line d at) leaves = refl
leaves_no_save (RolledBack job line d at) leaves = refl
leaves_no_save (Reached job line d at) leaves = refl
leaves_no_save (Level job line level) leaves = refl
leaves_no_save (Done job line) leaves = refl
leaves_no_save (Refused job line refusal) leaves = refl
leaves_no_save (Broke app d end time) leaves = refl
leaves_no_save (Mended app d) leaves = refl
leaves_no_save (Tick time) leaves = refl
leaves_no_save (Lose app d loss) leaves = refl
leaves_no_save (Died app) leaves = refl

job_no_save : (a : Act) → IsOfJob a → is_save a ≡ false
job_no_save (Opened d entries) of_job = refl
job_no_save (Enter d x) of_job = refl
job_no_save (Synced d n) of_job = absurd of_job
job_no_save (Shut d session cause) of_job = refl
job_no_save (Release d session) of_job = refl
job_no_save (Met app d session) of_job = refl
job_no_save (Told app d session epoch kept) of_job = refl
job_no_save (Back d) of_job = refl
job_no_save (Crash d kept) of_job = refl
job_no_save (Issue job line d w item) of_job = refl
job_no_save (Read job line d at via question) of_job = refl
job_no_save (Grant d session job mode key at) of_job = refl
job_no_save (Granted job line d at) of_job = refl
job_no_save (GiveUp job line d mode key) of_job = refl
job_no_save (Quit job line d mode key) of_job = refl
job_no_save (Free d session job mode key) of_job = refl
job_no_save (Counted job line d at sum) of_job = refl
job_no_save (NotWhole job line d at) of_job = refl
job_no_save (Range job line d at) of_job = refl
job_no_save (Committed job line d at) of_job = refl
job_no_save (RolledBack job line d at) of_job = refl
job_no_save (Reached job line d at) of_job = refl
job_no_save (Level job line level) of_job = refl
job_no_save (Done job line) of_job = refl
job_no_save (Refused job line refusal) of_job = refl
job_no_save (Broke app d end time) of_job = refl
job_no_save (Mended app d) of_job = refl
job_no_save (Tick time) of_job = refl
job_no_save (Lose app d loss) of_job = refl
job_no_save (Died app) of_job = refl

deed_no_save : (d : ℕ) (x : Deed) → is_save (act_of d x) ≡ false
deed_no_save d (Enters e) = refl
deed_no_save d (Closes s cause) = refl
deed_no_save d (Releases s) = refl
deed_no_save d ComesBack = refl
deed_no_save d (Grants s j m key at) = refl
deed_no_save d (Frees s j m key) = refl
deed_no_save d (Breaks app now) = refl

deeds_no_save : (d : ℕ) (xs : List Deed) → AllByRecursion (λ a. is_save a ≡ false) (map (act_of d) xs)
deeds_no_save d [] = tt
deeds_no_save d (x ∷ xs) = (deed_no_save d x, deeds_no_save d xs)

begin_no_save : (o : Option (List Entry)) (server : ℕ) (es : List Entry) → is_save (begin_act o server es) ≡ false
begin_no_save None server es = refl
begin_no_save (Some order) server es = refl

-- moves without a save

-- what a run writes behind the trail
module _ (l : Layout) (m : Machine) (written : List Act) (new : Machine) (run : IsRun l m.trail) (forced : EachForced l m)
    (more : new.trail ≡ m.trail ++ written) (goes_on : IsRun l new.trail) where
  pub run_on : RunFrom l (state_after l m.trail) written
  run_on = (run_parts l start m.trail written (subst (IsRun l) more goes_on)).1

  pub state_on : state_after l new.trail ≡ after_all l (state_after l m.trail) written
  state_on = ap (state_after l) more ∙ after_all-append l start m.trail written

  pub forced_on : AllByRecursion (λ a. is_save a ≡ false) written → EachForced l new
  forced_on none d =
      subst (λ (q : Plain). AllForced (q.server_at d)) (sym state_on)
      (acts_forced l (state_after l m.trail) written d run_on none (orders_kept l m.trail d run)
      (all_but (to_release d written) ((state_after l m.trail).server_at d) (forced d)))

-- a step of a data server

-- behind the act of a save, where the plain machine hears of it
save_forced : (l : Layout) (p : Plain) (d upto : ℕ) (acts : List Act) → ((e : ℕ) → OrdersKept (facet (p.server_at e)))
    → ((e : ℕ) → AllForced (p.server_at e)) → AllByRecursion (λ a. is_save a ≡ false) acts
    → ((q : ℕ) → list_any (closes q) (drop (p.server_at d).synced (take upto (p.server_at d).order)) ≡ true → to_release d acts q ≡ true)
    → RunFrom l p (Synced d upto ∷ acts) → (e : ℕ) → AllForced ((after_all l p (Synced d upto ∷ acts)).server_at e)
save_forced l p d upto acts orders forced none covers run e =
    acts_forced l (after l p (Synced d upto)) acts e run.1 none (row_steps l p (Synced d upto) run.0 e (orders e)).0
    (at_places (λ q s. AllForcedBut (to_release q acts) s) p.server_at d (with_saved (p.server_at d) upto)
    (saved_forced (to_release d acts) (p.server_at d) upto run.0.no_less covers (forced d))
    (λ q other. all_but (to_release q acts) (p.server_at q) (forced q)) e)

module _ (l : Layout) (c : CoresState) (m : Machine) (server now : ℕ) (input : DataIn) (outs : MoveOuts) (written : List Act) (new : Machine)
    (h : Holds l m) (forced : EachForced l m) (run : IsRun l m.trail) (shows : Mirrors c m) (allowed : Allowed c (moves.Server server now input))
    (goes : ServerGoes m server now input outs written new) (goes_run : IsRun l new.trail) where
  abbrev p : Plain
  p = state_after l m.trail

  abbrev v : Server
  v = (state_after l m.trail).server_at server

  abbrev old : DataState
  old = goes.node

  order : NodeOrder l server (m.site_at server).past v old
  order = of_some (NodeOrder l server (m.site_at server).past v) (m.site_at server).node old goes.runs (h.sites server).order.node

  from : StepFrom old
  from = step_from l m server old h run goes.runs

  may : DataMay old input
  may = subst (λ (o : Option DataState). NodeMay o input) (shows.nodes server ∙ goes.runs) allowed.may

  more : new.trail ≡ m.trail ++ written
  more = ap (λ (n : Machine). n.trail) goes.after

  acts : written ≡ raised v.synced goes.data_outs.acts
  acts = goes.acts ∙ ap (λ (k : Layout). raised ((state_after k m.trail).server_at server).synced goes.data_outs.acts) h.layout

  -- no save is written
  without : (deeds : List Deed) (d : ℕ) → goes.data_outs.acts ≡ map (act_of d) deeds → EachForced l new
  without deeds d same =
      forced_on l m written new run forced more goes_run
      (subst (AllByRecursion (λ a. is_save a ≡ false)) (sym (acts ∙ ap (raised v.synced) same ∙ all_raised v.synced d deeds)) (deeds_no_save d deeds))

  -- a save is
  with_it : (upto : ℕ) (deeds : List Deed) → v.synced < upto → old.synced ≤ v.synced
      → goes.data_outs.acts ≡ Synced old.server upto ∷ map (act_of old.server) deeds
      → ((q : ℕ) → list_any (closes q) (part_saved old upto) ≡ true → to_release server goes.data_outs.acts q ≡ true) → EachForced l new
  with_it upto deeds higher low same released e =
      subst (λ (q : Plain). AllForced (q.server_at e)) (sym (state_on l m written new run forced more goes_run ∙ ap (after_all l p) all))
      (save_forced l p server upto (map (act_of old.server) deeds) (λ d. orders_kept l m.trail d run) forced (deeds_no_save old.server deeds) covers
      (subst (RunFrom l p) all (run_on l m written new run forced more goes_run)) e)
    where
      its : old.server ≡ server
      its = order.its_server

      all : written ≡ Synced server upto ∷ map (act_of old.server) deeds
      all =
          acts ∙ ap (raised v.synced) same
          ∙ ap (λ (b : Bool). cond b (Synced old.server upto ∷ raised v.synced (map (act_of old.server) deeds))
          (raised v.synced (map (act_of old.server) deeds))) (lt-ltb v.synced upto higher)
          ∙ ap (λ (xs : List Act). Synced old.server upto ∷ xs) (all_raised v.synced old.server deeds)
          ∙ ap (λ (d : ℕ). Synced d upto ∷ map (act_of old.server) deeds) its

      covers : (q : ℕ) → list_any (closes q) (drop v.synced (take upto v.order)) ≡ true → to_release server (map (act_of old.server) deeds) q ≡ true
      covers q has =
          subst (λ (xs : List Act). to_release server xs q ≡ true) same
          (released q (any_behind (closes q) old.synced v.synced (take upto old.order) low
          (subst (λ (es : List Entry). list_any (closes q) (drop v.synced (take upto es)) ≡ true) (sym order.order) has)))

  -- by what came
  by_input : (i : DataIn) → DataMay old i → DataStep old now i goes.data_outs goes.state → EachForced l new
  by_input (data_in.Frame conn up) may steps = go (does_step old now (data_in.Frame conn up) goes.data_outs goes.state from may steps)
    where
      go : Does (begun old) (made goes.state goes.data_outs) → EachForced l new
      go does = without does.deeds old.server does.acts
  by_input (data_in.Connected conn) may steps = go (does_step old now (data_in.Connected conn) goes.data_outs goes.state from may steps)
    where
      go : Does (begun old) (made goes.state goes.data_outs) → EachForced l new
      go does = without does.deeds old.server does.acts
  by_input (data_in.Broken conn) may steps = go (does_step old now (data_in.Broken conn) goes.data_outs goes.state from may steps)
    where
      go : Does (begun old) (made goes.state goes.data_outs) → EachForced l new
      go does = without does.deeds old.server does.acts
  by_input data_in.Tick may steps = go (does_step old now data_in.Tick goes.data_outs goes.state from may steps)
    where
      go : Does (begun old) (made goes.state goes.data_outs) → EachForced l new
      go does = without does.deeds old.server does.acts
  by_input (data_in.Saved upto) may steps = go (nat_lt old.synced upto) refl (does_step old now (data_in.Saved upto) goes.data_outs goes.state from may steps)
    where
      released : (q : ℕ) → list_any (closes q) (part_saved old upto) ≡ true → to_release server goes.data_outs.acts q ≡ true
      released q closed =
          subst (λ (b : Sofar). to_release server b.outs.acts q ≡ true) (sym steps) (save_releases old now upto server q order.its_server closed)

      low : old.synced ≤ v.synced
      low = omega (arith, order.synced)

      quiet : (deeds : List Deed) → upto ≤ v.synced → goes.data_outs.acts ≡ Synced old.server upto ∷ map (act_of old.server) deeds → EachForced l new
      quiet deeds low same =
          forced_on l m written new run forced more goes_run
          (subst (AllByRecursion (λ a. is_save a ≡ false))
          (sym (acts ∙ ap (raised v.synced) same
          ∙ ap (λ (b : Bool). cond b (Synced old.server upto ∷ raised v.synced (map (act_of old.server) deeds))
          (raised v.synced (map (act_of old.server) deeds))) (le-ltb v.synced upto low)
          ∙ all_raised v.synced old.server deeds))
          (deeds_no_save old.server deeds))

      higher : (b : Bool) → nat_lt v.synced upto ≡ b → (deeds : List Deed) → goes.data_outs.acts ≡ Synced old.server upto ∷ map (act_of old.server) deeds
          → EachForced l new
      higher true is deeds same = with_it upto deeds (ltb-true v.synced upto is) low same released
      higher false is deeds same = quiet deeds (ltb-false v.synced upto is) same

      go : (rises : Bool) → nat_lt old.synced upto ≡ rises
          → Does (becomes (λ d. record d { synced = upto }) (writes_synced rises upto (begun old))) (made goes.state goes.data_outs) → EachForced l new
      go true is does = higher (nat_lt v.synced upto) refl does.deeds does.acts
      go false is does = without does.deeds old.server does.acts

  pub server_forced : EachForced l new
  server_forced = by_input input may goes.steps

-- all moves

job_forced : (l : Layout) (m : Machine) (app job now line : ℕ) (command : Command) (outs : MoveOuts) (written : List Act) (new : Machine)
    → EachForced l m → IsRun l m.trail → JobGoes m app job now line command outs written new → IsRun l new.trail → EachForced l new
job_forced l m app job now line command outs written new forced run goes goes_run =
    by (wrote_by (app_begun (app_state m app)) (app_made goes.state goes.app_outs)
    (job_goes (app_state m app) goes.state (m.job_at job) goes.job_state now line command goes.answer goes.app_outs goes.steps))
  where
    by : Wrote (app_begun (app_state m app)) (app_made goes.state goes.app_outs) → EachForced l new
    by w =
        forced_on l m written new run forced (ap (λ (n : Machine). n.trail) goes.after) goes_run
        (subst (AllByRecursion (λ a. is_save a ≡ false)) (sym (goes.acts ∙ w.acts))
        (all_follow IsOfJob (λ a. is_save a ≡ false) job_no_save w.written w.of_job))

looked_forced : (l : Layout) (m : Machine) (app job line : ℕ) (command : Command) (outs : MoveOuts) (written : List Act) (new : Machine)
    → EachForced l m → IsRun l m.trail → LookedGoes m app job line command outs written new → IsRun l new.trail → EachForced l new
looked_forced l m app job line (commands.Set at value) outs written new forced run goes goes_run = absurd goes
looked_forced l m app job line (commands.Kill at) outs written new forced run goes goes_run = absurd goes
looked_forced l m app job line (commands.Get at) outs written new forced run goes goes_run =
    forced_on l m written new run forced (ap (λ (n : Machine). n.trail) goes.after) goes_run
    (subst (AllByRecursion (λ a. is_save a ≡ false)) (sym goes.acts) (refl, tt))
looked_forced l m app job line (commands.Shape at) outs written new forced run goes goes_run = absurd goes
looked_forced l m app job line (commands.Next parent sub) outs written new forced run goes goes_run = absurd goes
looked_forced l m app job line (commands.Incr at amount) outs written new forced run goes goes_run = absurd goes
looked_forced l m app job line (commands.Lock at mode wait) outs written new forced run goes goes_run = absurd goes
looked_forced l m app job line (commands.Unlock at mode now) outs written new forced run goes goes_run = absurd goes
looked_forced l m app job line commands.Start outs written new forced run goes goes_run = absurd goes
looked_forced l m app job line (commands.Commit sync) outs written new forced run goes goes_run = absurd goes
looked_forced l m app job line commands.Rollback outs written new forced run goes goes_run = absurd goes
looked_forced l m app job line (commands.Sync server) outs written new forced run goes goes_run = absurd goes

-- Each move.
pub moves_keep_forced : MovesKeepForced
moves_keep_forced l c m (moves.Step job now line command) outs written new h forced run shows allowed goes goes_run =
    job_forced l m (app_of_job m.layout job) job now line command outs written new forced run goes goes_run
moves_keep_forced l c m (moves.Looked job line command) outs written new h forced run shows allowed goes goes_run =
    looked_forced l m (app_of_job m.layout job) job line command outs written new forced run goes goes_run
moves_keep_forced l c m (moves.App app now input) outs written new h forced run shows allowed goes goes_run =
    by (app_step_leaves (app_begun (app_state m app)) now input (app_made goes.state goes.app_outs) goes.steps)
  where
    by : Leaves (app_begun (app_state m app)) (app_made goes.state goes.app_outs) → EachForced l new
    by w =
        forced_on l m written new run forced (ap (λ (n : Machine). n.trail) goes.after) goes_run
        (subst (AllByRecursion (λ a. is_save a ≡ false)) (sym (goes.acts ∙ w.acts))
        (all_follow (λ a. leaves_orders a ≡ true) (λ a. is_save a ≡ false) leaves_no_save w.more w.leaves))
moves_keep_forced l c m (moves.Server server now input) outs written new h forced run shows allowed goes goes_run =
    server_forced l c m server now input outs written new h forced run shows allowed goes goes_run
moves_keep_forced l c m (moves.Begin server now entries) outs written new h forced run shows allowed goes goes_run =
    forced_on l m written new run forced (ap (λ (n : Machine). n.trail) goes.after) goes_run
    (subst (AllByRecursion (λ a. is_save a ≡ false)) (sym goes.acts) (begin_no_save (m.site_at server).order server entries, tt))
moves_keep_forced l c m (moves.Halt server) outs written new h forced run shows allowed goes goes_run =
    subst (EachForced l) (sym goes.after) forced
moves_keep_forced l c m (moves.Die app) outs written new h forced run shows allowed goes goes_run =
    forced_on l m written new run forced (ap (λ (n : Machine). n.trail) goes.after) goes_run
    (subst (AllByRecursion (λ a. is_save a ≡ false)) (sym goes.acts) (refl, tt))
moves_keep_forced l c m (moves.Tick now) outs written new h forced run shows allowed goes goes_run =
    forced_on l m written new run forced (ap (λ (n : Machine). n.trail) goes.after) goes_run
    (subst (AllByRecursion (λ a. is_save a ≡ false)) (sym goes.acts) (refl, tt))
