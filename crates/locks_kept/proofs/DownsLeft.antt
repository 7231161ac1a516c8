-- What is put downwards in each lane is left by each move but a step of a data server.
use Rattle.std.proofs.Common.{◌≡◌, ℕ, Bool, true, false, ◌==◌, ◌&&◌, if◌then◌else◌, List, Option, Some, None, refl, ◌∙◌, ap}
use Rattle.plain_orders.specs.declared.act.Act.{Act}
use Rattle.plain_runs.specs.Plain.{put}
use Rattle.app_job.specs.declared.command.Command.{Command}
use Rattle.app_job.specs.declared.command.Command.TheVariants as commands
use Rattle.ecp_messages.specs.declared.down.Down.{Down}
use Rattle.ecp_messages.specs.declared.up.UpFrame.{UpFrame}
use Rattle.app_rules.specs.declared.app_in.AppIn.{AppIn}
use Rattle.app_rules.specs.declared.app_outs.AppOuts.{AppOuts}
use Rattle.app_rules.specs.AppState.{AppEnd, AppState, Session}
use Rattle.app_rules.specs.Looks.{Shown}
use Rattle.app_rules.specs.Works.{end_at}
use Rattle.cluster_runs.specs.Connections.{ups_to}
use Rattle.cluster_runs.specs.CoresState.{app_of_job}
use Rattle.cluster_runs.specs.declared.move_outs.MoveOuts.{MoveOuts}
use Rattle.cluster_runs.specs.declared.moves.Move.TheVariants as moves
use Rattle.cluster_runs.specs.Goes.{LookedGoes, app_end, app_site, app_takes, at_told, input_site, job_site, message_from}
use Rattle.cluster_runs.specs.Lanes.{is_told_new, sent_before, with_app_step}
use Rattle.cluster_runs.specs.Machine.{End, Machine, Site}
use Rattle.cluster_runs.specs.Sent.{Lane, Place}
use Rattle.cluster_invariant.proofs.Small.{at_places}
use Rattle.locks_kept.specs.Laws.{OtherMovesLeaveDowns}

-- what is put downwards in the lanes of a site is as it was
abbrev SameDowns : Site → Site → Type 0
SameDowns x y = (s k : ℕ) → (y.lane_at s k).down ≡ (x.lane_at s k).down

-- an end's step leaves it in the lane that it is told of
step_down : (begins : Bool) (m : Option Down) (number n : ℕ) (o : Option Session) (frames : List UpFrame) (x : Lane)
    → (with_app_step begins m number n o frames x).down ≡ x.down
step_down begins m number n None frames x = refl
step_down true m number n (Some t) frames x = refl
step_down false m number n (Some t) frames x = refl

told_downs : (o : Option Place) (f : Lane → Lane) (x : Site) → ((y : Lane) → (f y).down ≡ y.down) → SameDowns x (at_told o f x)
told_downs None f x same s k = refl
told_downs (Some p) f x same s k = go (s == p.session && k == p.order)
  where
    go : (b : Bool) → (if b then f (x.lane_at s k) else x.lane_at s k).down ≡ (x.lane_at s k).down
    go true = same (x.lane_at s k)
    go false = refl

site_downs : (app server : ℕ) (outs : AppOuts) (old new : AppEnd) (m : Option Down) (e : End) (x : Site)
    → SameDowns x (app_site app server outs old new m e x)
site_downs app server outs old new m e x =
    told_downs e.told (with_app_step (is_told_new old.session new.session) m old.dial (sent_before old.session) new.session (ups_to server outs.frames))
    (record x { end_at = put x.end_at app e })
    (step_down (is_told_new old.session new.session) m old.dial (sent_before old.session) new.session (ups_to server outs.frames))

input_downs : (app : ℕ) (input : AppIn) (outs : AppOuts) (new : AppState) (shown : ℕ → Shown) (server : ℕ) (x : Site)
    → SameDowns x (input_site app input outs new shown server x)
input_downs app input outs new shown server x =
    site_downs app server outs (x.end_at app).state (end_at new server) (message_from server input)
    (app_end server outs (x.end_at app).state (end_at new server) (shown server) (message_from server input)
    (app_takes server input (x.end_at app).state.dial (x.end_at app)))
    x

job_downs : (app : ℕ) (outs : AppOuts) (new : AppState) (server : ℕ) (x : Site) → SameDowns x (job_site app outs new server x)
job_downs app outs new server x =
    site_downs app server outs (x.end_at app).state (end_at new server) None
    (app_end server outs (x.end_at app).state (end_at new server) (x.end_at app).shown None (x.end_at app))
    x

looked_downs : (m : Machine) (app job line : ℕ) (command : Command) (outs : MoveOuts) (written : List Act) (new : Machine)
    → LookedGoes m app job line command outs written new → (d s k : ℕ) → ((new.site_at d).lane_at s k).down ≡ ((m.site_at d).lane_at s k).down
looked_downs m app job line (commands.Set at value) outs written new goes d s n = absurd goes
looked_downs m app job line (commands.Kill at) outs written new goes d s n = absurd goes
looked_downs m app job line (commands.Get at) outs written new goes d s n = ap (λ (z : Machine). ((z.site_at d).lane_at s n).down) goes.after
looked_downs m app job line (commands.Shape at) outs written new goes d s n = absurd goes
looked_downs m app job line (commands.Next parent sub) outs written new goes d s n = absurd goes
looked_downs m app job line (commands.Incr at amount) outs written new goes d s n = absurd goes
looked_downs m app job line (commands.Lock at mode wait) outs written new goes d s n = absurd goes
looked_downs m app job line (commands.Unlock at mode now) outs written new goes d s n = absurd goes
looked_downs m app job line commands.Start outs written new goes d s n = absurd goes
looked_downs m app job line (commands.Commit sync) outs written new goes d s n = absurd goes
looked_downs m app job line commands.Rollback outs written new goes d s n = absurd goes
looked_downs m app job line (commands.Sync server) outs written new goes d s n = absurd goes

-- Each such move.
pub other_moves_leave_downs : OtherMovesLeaveDowns
other_moves_leave_downs m (moves.Step job now line command) outs written new other goes d s k =
    ap (λ (z : Machine). ((z.site_at d).lane_at s k).down) goes.after
    ∙ job_downs (app_of_job m.layout job) goes.app_outs goes.state d (m.site_at d) s k
other_moves_leave_downs m (moves.Looked job line command) outs written new other goes d s k =
    looked_downs m _ job line command outs written new goes d s k
other_moves_leave_downs m (moves.App app now input) outs written new other goes d s k =
    ap (λ (z : Machine). ((z.site_at d).lane_at s k).down) goes.after
    ∙ input_downs app input goes.app_outs goes.state goes.shown d (m.site_at d) s k
other_moves_leave_downs m (moves.Server server now input) outs written new other goes d s k = absurd other
other_moves_leave_downs m (moves.Begin server now entries) outs written new other goes d s k =
    ap (λ (z : Machine). ((z.site_at d).lane_at s k).down) goes.after
    ∙ at_places (λ e y. SameDowns (m.site_at e) y) m.site_at server _ (λ a b. refl) (λ e other a b. refl) d s k
other_moves_leave_downs m (moves.Halt server) outs written new other goes d s k =
    ap (λ (z : Machine). ((z.site_at d).lane_at s k).down) goes.after
    ∙ at_places (λ e y. SameDowns (m.site_at e) y) m.site_at server _ (λ a b. refl) (λ e other a b. refl) d s k
other_moves_leave_downs m (moves.Die app) outs written new other goes d s k = ap (λ (z : Machine). ((z.site_at d).lane_at s k).down) goes.after
other_moves_leave_downs m (moves.Tick now) outs written new other goes d s k = ap (λ (z : Machine). ((z.site_at d).lane_at s k).down) goes.after
