-- A lock that waits: it isn't refused, what is known of its command is as it was, and its job uses the session of its end.
use Rattle.std.proofs.Common.{◌≡◌, ◌<◌, ◌≤◌, ℕ, Bool, true, false, List, length, Option, Some, None, refl, sym, ◌∙◌, ap, subst}
use Rattle.std.specs.Prelude.{get_or, nat_lt}
use Rattle.std.proofs.lemmas.Bool.{false≢true, ltb-false}
use Rattle.std.proofs.lemmas.List.{get_or-set_same}
use Rattle.plain_orders.specs.declared.mode.Mode.{Mode}
use Rattle.app_job.specs.Sites.{Site}
use Rattle.app_job.specs.declared.command.Command.TheVariants.{Lock}
use Rattle.app_job.specs.declared.refusal.Refusal.{Refusal}
use Rattle.app_rules.specs.AppState.{AppEnd, AppState}
use Rattle.app_rules.specs.declared.session_parts.Asked.{Asked}
use Rattle.app_rules.specs.declared.session_parts.Lost.{Lost}
use Rattle.app_rules.specs.JobState.{JobState, Progress, Turn, Work, used_at}
use Rattle.app_rules.specs.JobStep.{Turns, is_waiting}
use Rattle.app_rules.specs.Issuing.{at_normal, is_up, pair_session, uses, uses_if}
use Rattle.app_rules.specs.Locking.{ask_of_job, asks, by_grant, is_due, locks_by, locks_now, waits_grant}
use Rattle.app_rules.specs.Refusing.{loss_of, network_at, network_from, noway_at, or_else, refusal_of}
use Rattle.app_rules.specs.Works.{end_at}

-- what a lock that waits leaves
pub record LockWaits (d : ℕ) (w v : Work) : Type 0 where
  pub progress : v.at ≡ w.at
  pub job : v.job ≡ (uses d w).job

due_waits : (b : Bool) (d : ℕ) (mode : Mode) (key : List ℕ) (v : Work) → is_waiting (waits_grant b d mode key v).answer ≡ true
    → (waits_grant b d mode key v).work ≡ v
due_waits true d mode key v waiting = absurd (false≢true waiting)
due_waits false d mode key v waiting = refl

grant_waits : (o : Option ℕ) (d : ℕ) (mode : Mode) (key : List ℕ) (wait : Option ℕ) (now : ℕ) (v : Work)
    → is_waiting (by_grant o d mode key wait now v).answer ≡ true
    → (by_grant o d mode key wait now v).work ≡ v
grant_waits (Some at) d mode key wait now v waiting = absurd (false≢true waiting)
grant_waits None d mode key wait now v waiting = due_waits (is_due wait v.at.first now) d mode key v waiting

locks_wait : (o : Option Asked) (d : ℕ) (mode : Mode) (key : List ℕ) (wait : Option ℕ) (now : ℕ) (v : Work)
    → is_waiting (locks_by o d mode key wait now v).answer ≡ true
    → ((locks_by o d mode key wait now v).work.at ≡ v.at) × ((locks_by o d mode key wait now v).work.job ≡ v.job)
locks_wait None d mode key wait now v waiting =
    let same : (locks_by None d mode key wait now v).work ≡ asks d mode key v = grant_waits None d mode key wait now (asks d mode key v) waiting in
    (ap (λ (x : Work). x.at) same, ap (λ (x : Work). x.job) same)
locks_wait (Some a) d mode key wait now v waiting =
    let same : (locks_by (Some a) d mode key wait now v).work ≡ v = grant_waits a.at d mode key wait now v waiting in
    (ap (λ (x : Work). x.at) same, ap (λ (x : Work). x.job) same)

used_progress : (o : Option ℕ) (d : ℕ) (w : Work) → (uses_if o d w).at ≡ w.at
used_progress None d w = refl
used_progress (Some s) d w = refl

normal_waits : (is_there : Bool) (d : ℕ) (mode : Mode) (key : List ℕ) (wait : Option ℕ) (now : ℕ) (w : Work)
    → is_waiting (at_normal is_there d (locks_now d mode key wait now) w).answer ≡ true
    → LockWaits d w (at_normal is_there d (locks_now d mode key wait now) w).work
normal_waits true d mode key wait now w waiting = go (locks_wait (ask_of_job (uses d w) d) d mode key wait now (uses d w) waiting)
  where
    x : Work
    x = (at_normal true d (locks_now d mode key wait now) w).work

    go : (x.at ≡ (uses d w).at) × (x.job ≡ (uses d w).job) → LockWaits d w x
    go same = record { progress = same.0 ∙ used_progress (pair_session w.ends.state d) d w; job = same.1 }
normal_waits false d mode key wait now w waiting = record { progress = used_progress (pair_session w.ends.state d) d w; job = refl }

pub lock_waits : (r : Option Refusal) (at : Site) (mode : Mode) (wait : Option ℕ) (now : ℕ) (w : Work) (t : Turn) → Turns r (Lock at mode wait) now w t
    → is_waiting t.answer ≡ true → (r ≡ None) × LockWaits at.server w t.work
lock_waits (Some r) at mode wait now w t h waiting = absurd (false≢true (ap (λ (y : Turn). is_waiting y.answer) (sym h) ∙ waiting))
lock_waits None at mode wait now w t h waiting = (
  refl,
  subst (λ (y : Turn). LockWaits at.server w y.work) (sym h)
      (normal_waits (is_up w at.server) at.server mode at.key wait now w (ap (λ (y : Turn). is_waiting y.answer) (sym h) ∙ waiting)),
)

-- the session that is used then
pub uses_its : (d n : ℕ) (w : Work) → pair_session w.ends.state d ≡ Some n → d < length w.job.used → used_at (uses d w).job d ≡ Some n
uses_its d n w there low =
    subst (λ (o : Option ℕ). used_at (uses_if o d w).job d ≡ Some n) (sym there) (get_or-set_same w.job.used d (Some n) None low)

-- no refusal, and so no failed attempt

else_none : (o q : Option Refusal) → or_else o q ≡ None → o ≡ None
else_none None q is = refl
else_none (Some r) q is = is

no_way_came : (b : Bool) (d : ℕ) (e : AppEnd) → noway_at b d e ≡ None → b ≡ false
no_way_came true d e is = absurd (cc (is))
no_way_came false d e is = refl

from_none : (o : Option Lost) (d : ℕ) (e : AppEnd) (p : Progress) → network_from o d e p ≡ None → e.failed ≤ get_or p.failed d 0
from_none (Some l) d e p is = absurd (cc (is))
from_none None d e p is = ltb-false (get_or p.failed d 0) e.failed (no_way_came (nat_lt (get_or p.failed d 0) e.failed) d e is)

-- Of a lock that isn't refused no attempt failed since its first step.
pub unrefused : (at : Site) (mode : Mode) (wait : Option ℕ) (a : AppState) (j : JobState) (p : Progress) → refusal_of (Lock at mode wait) a j p ≡ None
    → (end_at a at.server).failed ≤ get_or p.failed at.server 0
unrefused at mode wait a j p is =
    from_none (loss_of (end_at a at.server).lost (used_at j at.server)) at.server (end_at a at.server) p
    (else_none (network_at a j p at.server) None (else_none (or_else (network_at a j p at.server) None) _ is))
