-- A job's step keeps the application server, the number of its ends, the job, and how many data servers it counts.
use Rattle.std.proofs.Common.{ℕ, Bool, true, false, refl, ◌∙◌, Option, Some, None}
use Rattle.std.proofs.lemmas.List.{length-set}
use Rattle.plain_orders.specs.declared.item.Item.{Item}
use Rattle.ecp_messages.specs.declared.up.Up.{Up}
use Rattle.app_rules.specs.AppState.{AppState, Session}
use Rattle.app_rules.specs.Works.{sets, puts, end_at}
use Rattle.app_rules.specs.JobState.{JobState, Work, Turn, on, in_job, with_used}
use Rattle.app_rules.specs.Issuing.{tries_if_free, uses_if, uses, pair_session, waits_state, is_free, at_normal, at_up, unless_full, unless_own, issues}
use Rattle.app_rules.specs.Laws.{IsSameApp, IsSameJob}
use Rattle.app_rules.proofs.OneEnd.{one_end, one_puts, one_tries}

-- the same ends and the same job
pub record IsKept (w v : Work) : Type 0 where
  pub ends : IsSameApp w.ends.state v.ends.state
  pub job : IsSameJob w.job v.job

pub same_app : (a : AppState) → IsSameApp a a
same_app a = record { app = refl; times = refl; ends = refl }

pub same_job : (j : JobState) → IsSameJob j j
same_job j = record { index = refl; app = refl; used = refl }

pub kept_same : (w : Work) → IsKept w w
kept_same w = record { ends = same_app w.ends.state; job = same_job w.job }

pub app_then : {a b c : AppState} → IsSameApp a b → IsSameApp b c → IsSameApp a c
app_then x y = record { app = y.app ∙ x.app; times = y.times ∙ x.times; ends = y.ends ∙ x.ends }

pub job_then : {a b c : JobState} → IsSameJob a b → IsSameJob b c → IsSameJob a c
job_then x y = record { index = y.index ∙ x.index; app = y.app ∙ x.app; used = y.used ∙ x.used }

pub kept_then : {u v w : Work} → IsKept u v → IsKept v w → IsKept u w
kept_then x y = record { ends = app_then x.ends y.ends; job = job_then x.job y.job }

-- an end changed, and a message put
pub kept_end : (d : ℕ) (f : Session → Session) (w : Work) → IsKept w (on (sets d f) w)
kept_end d f w = record { ends = (one_end d _ w.ends.state).same; job = same_job w.job }

pub kept_put : (d : ℕ) (m : Up) (w : Work) → IsKept w (on (puts d m) w)
kept_put d m w = record { ends = (one_puts d m w.ends).same; job = same_job w.job }

kept_tries : (t : Bool) (d : ℕ) (w : Work) → IsKept w (on (tries_if_free t d) w)
kept_tries true d w = record { ends = (one_tries d w.ends).same; job = same_job w.job }
kept_tries false d w = kept_same w

pub kept_used : (d : ℕ) (session : Option ℕ) (w : Work) → IsKept w (in_job (with_used d session) w)
kept_used d session w = record { ends = same_app w.ends.state; job = record { index = refl; app = refl; used = length-set w.job.used d session } }

kept_uses_if : (o : Option ℕ) (d : ℕ) (w : Work) → IsKept w (uses_if o d w)
kept_uses_if None d w = kept_same w
kept_uses_if (Some s) d w = kept_used d (Some s) w

pub kept_uses : (d : ℕ) (w : Work) → IsKept w (uses d w)
kept_uses d w = kept_uses_if (pair_session w.ends.state d) d w

pub kept_state : (d : ℕ) (w : Work) → IsKept w (waits_state d w).work
kept_state d w = kept_then (kept_uses d w) (kept_tries (is_free (end_at w.ends.state d).link) d (uses d w))

pub kept_normal : (up : Bool) (d : ℕ) (f : Work → Turn) (w : Work) → ((v : Work) → IsKept v (f v).work) → IsKept w (at_normal up d f w).work
kept_normal true d f w h = kept_then (kept_uses d w) (h (uses d w))
kept_normal false d f w h = kept_state d w

pub kept_up : (up : Bool) (d : ℕ) (f : Work → Turn) (w : Work) → ((v : Work) → IsKept v (f v).work) → IsKept w (at_up up d f w).work
kept_up true d f w h = h w
kept_up false d f w h = kept_state d w

pub kept_full : (b : Bool) (f : Work → Turn) (w : Work) → ((v : Work) → IsKept v (f v).work) → IsKept w (unless_full b f w).work
kept_full true f w h = kept_same w
kept_full false f w h = h w

pub kept_own : (b : Bool) (f : Work → Turn) (w : Work) → ((v : Work) → IsKept v (f v).work) → IsKept w (unless_own b f w).work
kept_own true f w h = kept_same w
kept_own false f w h = h w

pub kept_issue : (d : ℕ) (item : Item) (message : Up) (notes : Session → Session) (w : Work) → IsKept w (issues d item message notes w)
kept_issue d item message notes w = record { ends = app_then (one_end d _ w.ends.state).same (one_puts d message _).same; job = same_job w.job }
