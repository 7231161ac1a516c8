-- A session that learnt of the current order is told of it in the plain machine.
use Rattle.std.proofs.Common.{◌≡◌, ◌≤◌, ℕ, true, [], length, Option, Some, None, is_some, refl, ◌∙◌, ap, arith}
use Rattle.std.specs.Prelude.{◌==◌, ◌&&◌, IsSomeAnd, unwrap_or}
use Rattle.std.proofs.lemmas.Bool.{eq-eqb, false≢true}
use Rattle.plain_orders.specs.declared.layout.Layout.{Layout}
use Rattle.plain_orders.specs.Sessions.{app_in}
use Rattle.plain_runs.specs.OrderRows.{is_told}
use Rattle.plain_runs.specs.Plain.{Server, Session, current, order_at}
use Rattle.plain_runs.specs.Run.{IsRun, state_after}
use Rattle.plain_runs.proofs.Bases.{ToldKept, or_else, place_in, sight, told_in}
use Rattle.plain_runs.proofs.SeenLaw.{told_kept}
use Rattle.cluster_runs.specs.Machine.{Machine, Site}
use Rattle.cluster_invariant.specs.Dials.{LearntBy}
use Rattle.cluster_invariant.specs.Holds.{Holds}
use Rattle.cluster_invariant.specs.Words.{is_begun}

module _ (l : Layout) (m : Machine) (server : ℕ) (h : Holds l m) (run : IsRun l m.trail) where
  abbrev v : Server
  v = (state_after l m.trail).server_at server

  abbrev x : Site
  x = m.site_at server

  kept : ToldKept l (sight v)
  kept = told_kept l m.trail server run

  -- the session was met, and was told of this order or of a later one
  told_by : (s app : ℕ) (o : Option Session) → v.session_at s ≡ o → IsSomeAnd o (λ t. (t.app ≡ app) × (x.past ≤ t.told)) → is_told v s ≡ true
  told_by s app None its was = absurd was
  told_by s app (Some t) its was =
      ap (λ (o : Option Session). is_some o && (unwrap_or o (record { app = 0; issued = []; told = 0 })).told == current v) its
      ∙ eq-eqb t.told (current v) (omega (arith, was.1, low, (h.sites server).order.past))
    where
      low : t.told ≤ length v.past
      low = kept.low s t.told (ap (λ (o : Option Session). or_else (told_in o) (place_in (v.entered_at s))) its)

  learnt_by : (s : ℕ) (o app : Option ℕ) → is_some o ≡ true → LearntBy v x s x.past o app → is_told v s ≡ true
  learnt_by s None app begun its = absurd (false≢true begun)
  learnt_by s (Some dial) None begun its = absurd its
  learnt_by s (Some dial) (Some app) begun its = told_by s app (v.session_at s) refl its.told

  -- It is.
  pub learnt_told : (s : ℕ) → is_begun (x.lane_at s x.past) ≡ true → is_told v s ≡ true
  learnt_told s begun = learnt_by s (x.lane_at s x.past).began (app_in (order_at v x.past) s) begun ((h.sites server).dials.learnt s x.past)
