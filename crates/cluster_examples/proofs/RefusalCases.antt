-- Moves that are refused since one condition fails.
use Rattle.std.proofs.Common.{◌≡◌, refl, ap, ◌∙◌, arith, [], ◌∷◌, Option}
use Rattle.std.specs.Prelude.{unwrap_or}
use Rattle.ecp_messages.specs.declared.up.UpFrame.{UpFrame}
use Rattle.ecp_messages.specs.declared.down.DownFrame.{DownFrame}
use Rattle.ecp_messages.specs.declared.up.Up.TheVariants.{Done}
use Rattle.ecp_messages.specs.declared.down.Down.TheVariants.{Bare}
use Rattle.block_cache.specs.declared.front.Front.{Front}
use Rattle.app_rules.specs.Looks.{has_own_at, known_at}
use Rattle.cluster_runs.specs.Views.{view_at}
use Rattle.cluster_examples.specs.Scenes.{x_key, run_of, x_is_5, up_frame, down_frame}
use Rattle.cluster_examples.specs.JobRefusals.{StepRefusals, LookRefusals, owning}
use Rattle.cluster_examples.specs.EndRefusals.{AppRefusals, ServerRefusals, BeginRefusals}
use Rattle.cluster_examples.proofs.Frames.{x_is_site}

pub step_refusals : StepRefusals
step_refusals = (
  (λ may. omega (arith, may.now_may.clock)),
  (λ may. omega (arith, may.now_may.no_less)),
  (λ may. absurd (cc (may.line_may.1))),
  (λ may. omega (arith, may.line_may.0)),
  (λ may. omega (arith, may.line_may)),
  (λ may. omega (arith, may.alive.known)),
  (λ may. omega (arith, may.alive.placed)),
  (λ may. absurd (cc (may.alive.alive))),
  (λ may. omega (arith, may.may.within.1)),
  (λ may. omega (arith, may.may.known)),
)

pub look_refusals : LookRefusals
look_refusals = (
  record {
    alive = record { known = omega arith; placed = omega arith; alive = refl };
    line_may = omega arith;
    free = refl;
    may = record { within = x_is_site; known = omega arith };
    front = record { session = 2; epoch = 1; n = 3; w = 1 };
    run = run_of (x_is_5 ∷ []);
    look = record { unflagged = refl; unlost = refl; shown = refl; covered = refl; its = refl; undecided = refl };
  },
  (λ may. may),
  (λ may. absurd (cc (may.alive.alive))),
  (λ may. omega (arith, may.line_may)),
  (λ may. absurd (cc (may.free))),
  (λ may. omega (arith, may.may.known)),
  (λ may. absurd (cc (may.look.unflagged))),
  (λ may. absurd (cc (may.look.unlost))),
  (λ may. absurd (cc (may.look.shown))),
  (λ may. absurd (cc (may.look.covered))),
  (λ may. absurd (cc (may.look.its))),
  (λ may. absurd (cc (ap (λ (o : Option Front). has_own_at (known_at (view_at owning 0) 0) (unwrap_or o (record { session = 2; epoch = 1; n = 3; w = 1 })).w x_key) may.look.shown ∙ may.look.undecided))),
)

pub app_refusals : AppRefusals
app_refusals = (
  (λ may. omega (arith, may.known)),
  (λ may. absurd (cc (may.alive))),
  (λ may. omega (arith, may.now_may.clock)),
  (λ may. omega (arith, may.now_may.no_less)),
  (λ may. absurd (cc (may.takes))),
  (λ may. let e : 0 ≡ 1 = ap (λ (o : Option DownFrame). (unwrap_or o (down_frame 0 0 Bare)).seq) may.takes in omega (arith, e)),
  (λ may. absurd (cc (may.may.tried))),
  (λ may. omega (arith, may.may.rose)),
  (λ may. omega (arith, may.may)),
  (λ may. omega (arith, may.known)),
  (λ may. absurd (cc (may.alive))),
)

pub server_refusals : ServerRefusals
server_refusals = (
  (λ may. omega (arith, may.known)),
  (λ may. omega (arith, may.now_may.clock)),
  (λ may. omega (arith, may.now_may.no_less)),
  (λ may. may.may),
  (λ may. may.takes),
  (λ may. absurd (cc (may.takes.0))),
  (λ may. absurd (cc (may.takes.1.unlinked))),
  (λ may. absurd (cc (may.takes.1.unlinked))),
  (λ may. let e : 0 ≡ 7 = ap (λ (o : Option UpFrame). (unwrap_or o (up_frame 0 0 Done)).ack) may.takes.1.first in omega (arith, e)),
  (λ may. let e : 1 ≡ 2 = ap (λ (o : Option UpFrame). (unwrap_or o (up_frame 0 0 Done)).seq) may.takes.1 in omega (arith, e)),
  (λ may. absurd (cc (may.takes))),
  (λ may. omega (arith, may.may.no_less)),
  (λ may. omega (arith, may.may.within)),
)

pub begin_refusals : BeginRefusals
begin_refusals = (
  (λ may. omega (arith, may.known)),
  (λ may. absurd (cc (may.is_down))),
  (λ may. omega (arith, may.now_may.clock)),
  (λ may. omega (arith, may.kept.0.is_next)),
  (λ may. omega (arith, may.kept.no_less)),
  (λ may. absurd (cc (may.kept.front))),
  (λ es high may. omega (arith, high, may.low)),
  (λ may. omega (arith, may.known)),
  (λ may. absurd (cc (may.is_up))),
  (λ c now. tt),
)
