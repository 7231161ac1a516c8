-- The invariant holds in each state that some list of allowed moves leads to, where its trail is a run.
use Rattle.std.proofs.Common.{◌≡◌, ℕ, List, [], ◌∷◌, ◌++◌, refl, sym, ◌∙◌, ap, subst}
use Rattle.std.proofs.lemmas.List.{append-nil}
use Rattle.plain_orders.specs.declared.act.Act.{Act}
use Rattle.plain_orders.specs.declared.layout.Layout.{Layout}
use Rattle.plain_runs.specs.Plain.{Plain, start}
use Rattle.plain_runs.specs.Run.{IsRun, RunFrom}
use Rattle.plain_runs.specs.Step.{after}
use Rattle.app_job.specs.declared.command.Command.{Command}
use Rattle.app_job.specs.declared.command.Command.TheVariants as commands
use Rattle.cluster_runs.specs.declared.move_outs.MoveOuts.{MoveOuts}
use Rattle.cluster_runs.specs.declared.moves.Move.{Move}
use Rattle.cluster_runs.specs.declared.moves.Move.TheVariants.{Step, Looked, App, Server, Begin, Halt, Die, Tick}
use Rattle.cluster_runs.specs.CoresState.{app_of_job}
use Rattle.cluster_runs.specs.Goes.{Goes, LookedGoes}
use Rattle.cluster_runs.specs.Machine.{Machine}
use Rattle.cluster_runs.specs.Reached.{Reached, ReachedBy}
use Rattle.cluster_runs.specs.Steps.{Made}
use Rattle.cluster_invariant.specs.Holds.{Holds}
use Rattle.cluster_invariant.proofs.Begins.{begin_holds}
use Rattle.cluster_holds.proofs.EachMove.{holds_stays}

-- what comes before in a run is one
front_runs : (l : Layout) (p : Plain) (acts more : List Act) → RunFrom l p (acts ++ more) → RunFrom l p acts
front_runs l p [] more run = tt
front_runs l p (a ∷ acts) more run = (run.0, front_runs l (after l p a) acts more run.1)

looked_grows : (m : Machine) (app job line : ℕ) (command : Command) (outs : MoveOuts) (written : List Act) (new : Machine)
    → LookedGoes m app job line command outs written new → new.trail ≡ m.trail ++ written
looked_grows m app job line (commands.Set at value) outs written new goes = absurd goes
looked_grows m app job line (commands.Kill at) outs written new goes = absurd goes
looked_grows m app job line (commands.Get at) outs written new goes = ap (λ (n : Machine). n.trail) goes.after
looked_grows m app job line (commands.Shape at) outs written new goes = absurd goes
looked_grows m app job line (commands.Next parent sub) outs written new goes = absurd goes
looked_grows m app job line (commands.Incr at amount) outs written new goes = absurd goes
looked_grows m app job line (commands.Lock at mode wait) outs written new goes = absurd goes
looked_grows m app job line (commands.Unlock at mode at_once) outs written new goes = absurd goes
looked_grows m app job line commands.Start outs written new goes = absurd goes
looked_grows m app job line (commands.Commit sync) outs written new goes = absurd goes
looked_grows m app job line commands.Rollback outs written new goes = absurd goes
looked_grows m app job line (commands.Sync server) outs written new goes = absurd goes

-- A move adds its acts to the trail.
pub trail_grows : (m : Machine) (move : Move) (outs : MoveOuts) (written : List Act) (new : Machine) → Goes m move outs written new → new.trail ≡ m.trail ++ written
trail_grows m (Step job now line command) outs written new goes = ap (λ (n : Machine). n.trail) goes.after
trail_grows m (Looked job line command) outs written new goes = looked_grows m (app_of_job m.layout job) job line command outs written new goes
trail_grows m (App app now input) outs written new goes = ap (λ (n : Machine). n.trail) goes.after
trail_grows m (Server server now input) outs written new goes = ap (λ (n : Machine). n.trail) goes.after
trail_grows m (Begin server now entries) outs written new goes = ap (λ (n : Machine). n.trail) goes.after
trail_grows m (Halt server) outs written new goes =
    ap (λ (n : Machine). n.trail) goes.after ∙ sym (append-nil m.trail) ∙ ap (λ (ws : List Act). m.trail ++ ws) (sym goes.acts)
trail_grows m (Die app) outs written new goes = ap (λ (n : Machine). n.trail) goes.after
trail_grows m (Tick now) outs written new goes = ap (λ (n : Machine). n.trail) goes.after

by_moves : (l : Layout) (h : List Made) (m : Machine) → ReachedBy l h m → IsRun l m.trail → Holds l m
by_moves l [] m same run = subst (Holds l) (sym same) (begin_holds l)
by_moves l (made ∷ h) m (before, by, makes) run =
    holds_stays l makes.shows before made.move made.outs made.acts m (by_moves l h before by was) was run makes.mirrors makes.allowed makes.goes
  where
    was : IsRun l before.trail
    was = front_runs l start before.trail made.acts (subst (IsRun l) (trail_grows before made.move made.outs made.acts m makes.goes) run)

pub holds_where_reached : (l : Layout) (m : Machine) → Reached l m → IsRun l m.trail → Holds l m
holds_where_reached l m (h, by) run = by_moves l h m by run
