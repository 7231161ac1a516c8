-- What application ends were told stays over the moves that tell nothing: a tick, a look, and a node or an application server that goes.
use Rattle.std.proofs.Common.{◌≡◌, ℕ, Bool, true, false, List, refl, sym, subst}
use Rattle.std.specs.List.{AllByRecursion}
use Rattle.plain_orders.specs.declared.act.Act.{Act}
use Rattle.plain_orders.specs.declared.layout.Layout.{Layout}
use Rattle.plain_runs.specs.Plain.{Plain, Server}
use Rattle.plain_runs.specs.Run.{after_all, state_after}
use Rattle.app_job.specs.Sites.{Site as Target}
use Rattle.app_job.specs.declared.command.Command.{Command}
use Rattle.app_job.specs.declared.command.Command.TheVariants as commands
use Rattle.cluster_runs.specs.declared.move_outs.MoveOuts.{MoveOuts}
use Rattle.cluster_runs.specs.Goes.{TickGoes, LookGoes, LookedGoes, DieGoes, HaltGoes, dies, halted_site}
use Rattle.cluster_runs.specs.Machine.{Machine, Site, End}
use Rattle.cluster_invariant.specs.Ends.{AppTold}
use Rattle.cluster_invariant.specs.Holds.{Holds}
use Rattle.cluster_invariant.proofs.SiteMoves.{kept_by_look, kept_by_death, kept_by_halt}
use Rattle.cluster_invariant.proofs.Frame.{kept_by_tick}
use Rattle.cluster_invariant.proofs.OrderBeside.{leaves_orders, rows_same}
use Rattle.cluster_steps.proofs.Outcomes.{EndKept, end_same}
use Rattle.told_kept.proofs.SameSessions.{leaves_told, rows_met, mets_kept}
use Rattle.told_kept.proofs.ToldStays.{orders_later_same, told_later}

-- what living application ends of a data server were told
abbrev pub ToldAt : (ℕ → Bool) → Server → Site → Type 0
ToldAt is_dead v x = (app : ℕ) → is_dead app ≡ false → AppTold v app (x.end_at app)

-- and of all of them
abbrev pub ToldHolds : Layout → Plain → Machine → Type 0
ToldHolds l p m = (d : ℕ) → ToldAt m.is_dead_at (p.server_at d) (m.site_at d)

-- the same, as a part of the invariant
abbrev pub ToldPart : (ℕ → Bool) → ℕ → Server → Site → Type 0
ToldPart is_dead d v x = ToldAt is_dead v x

pub told_of : (l : Layout) (m : Machine) → Holds l m → ToldHolds l (state_after l m.trail) m
told_of l m h d = (h.sites d).ends.told

-- Acts that change no order and tell no session anything, where the end is told nothing new.
pub told_beside : (l : Layout) (p : Plain) (acts : List Act) (app d : ℕ) (e f : End) → AllByRecursion (λ a. leaves_orders a ≡ true) acts → AllByRecursion (λ a. leaves_told a ≡ true) acts
    → EndKept e.state f.state → f.told ≡ e.told → AppTold (p.server_at d) app e → AppTold ((after_all l p acts).server_at d) app f
told_beside l p acts app d e f orders mets kept same h =
    told_later (p.server_at d) ((after_all l p acts).server_at d) app e f (orders_later_same (p.server_at d) ((after_all l p acts).server_at d) (rows_same l p acts orders d))
    (mets_kept app (p.server_at d) ((after_all l p acts).server_at d) (rows_met l p acts mets d)) kept same h

-- A tick.
pub told_kept_by_tick : (l : Layout) (m new : Machine) (now : ℕ) (outs : MoveOuts) (written : List Act) → Holds l m → TickGoes m now outs written new → ToldHolds l (state_after l new.trail) new
told_kept_by_tick l m new now outs written h goes = told_of l new (kept_by_tick l m new now outs written h goes)

-- A look.
pub told_kept_by_look : (l : Layout) (m : Machine) (app job line : ℕ) (at : Target) (outs : MoveOuts) (written : List Act) (new : Machine)
    → Holds l m → LookGoes m app job line at outs written new → ToldHolds l (state_after l new.trail) new
told_kept_by_look l m app job line at outs written new h goes =
    kept_by_look ToldPart l m app job line at outs written new goes (told_of l m h)
    (λ knows a alive.
    told_later v (record v { known_at = knows }) a ((m.site_at at.server).end_at a) ((m.site_at at.server).end_at a)
    (orders_later_same v (record v { known_at = knows }) (record { opened = refl; past = refl; order = refl; synced = refl }))
    (mets_kept a v (record v { known_at = knows }) (λ n. refl)) (end_same ((m.site_at at.server).end_at a).state) refl ((h.sites at.server).ends.told a alive))
  where
    v : Server
    v = (state_after l m.trail).server_at at.server

pub told_kept_by_looked : (l : Layout) (m : Machine) (app job line : ℕ) (command : Command) (outs : MoveOuts) (written : List Act) (new : Machine)
    → Holds l m → LookedGoes m app job line command outs written new → ToldHolds l (state_after l new.trail) new
told_kept_by_looked l m app job line (commands.Set at value) outs written new h goes = absurd goes
told_kept_by_looked l m app job line (commands.Kill at) outs written new h goes = absurd goes
told_kept_by_looked l m app job line (commands.Get at) outs written new h goes = told_kept_by_look l m app job line at outs written new h goes
told_kept_by_looked l m app job line (commands.Shape at) outs written new h goes = absurd goes
told_kept_by_looked l m app job line (commands.Next parent sub) outs written new h goes = absurd goes
told_kept_by_looked l m app job line (commands.Incr at amount) outs written new h goes = absurd goes
told_kept_by_looked l m app job line (commands.Lock at mode wait) outs written new h goes = absurd goes
told_kept_by_looked l m app job line (commands.Unlock at mode at_once) outs written new h goes = absurd goes
told_kept_by_looked l m app job line commands.Start outs written new h goes = absurd goes
told_kept_by_looked l m app job line (commands.Commit sync) outs written new h goes = absurd goes
told_kept_by_looked l m app job line commands.Rollback outs written new h goes = absurd goes
told_kept_by_looked l m app job line (commands.Sync server) outs written new h goes = absurd goes

-- ends that are as they were but for their connections
pub same_told : (v : Server) (app : ℕ) (e f : End) → f.state ≡ e.state → f.told ≡ e.told → AppTold v app e → AppTold v app f
same_told v app e f state told h =
    told_later v v app e f (orders_later_same v v (record { opened = refl; past = refl; order = refl; synced = refl })) (mets_kept app v v (λ n. refl))
    (subst (λ s. EndKept e.state s) (sym state) (end_same e.state)) told h

-- An application server that goes.
pub told_kept_by_die : (l : Layout) (m : Machine) (app : ℕ) (outs : MoveOuts) (written : List Act) (new : Machine) → Holds l m → DieGoes m app outs written new → ToldHolds l (state_after l new.trail) new
told_kept_by_die l m app outs written new h goes =
    kept_by_death ToldPart l m app outs written new goes
    (λ alive d a lives.
    same_told ((state_after l m.trail).server_at d) a ((m.site_at d).end_at a) (((dies app m).site_at d).end_at a) refl refl ((h.sites d).ends.told a (alive a lives)))

-- A node that halts.
pub told_kept_by_halt : (l : Layout) (m : Machine) (server : ℕ) (outs : MoveOuts) (written : List Act) (new : Machine) → Holds l m → HaltGoes m server outs written new → ToldHolds l (state_after l new.trail) new
told_kept_by_halt l m server outs written new h goes =
    kept_by_halt ToldPart l m server outs written new goes (told_of l m h)
    (λ app alive. same_told ((state_after l m.trail).server_at server) app ((m.site_at server).end_at app) ((halted_site (m.site_at server)).end_at app) refl refl ((h.sites server).ends.told app alive))
