-- A lock of which a request waits is refused only where its job has nothing to do but roll back.
use Rattle.std.proofs.Common.{◌≡◌, ◌≤◌, ◌<◌, ℕ, Bool, true, false, if◌then◌else◌, List, [], ◌∷◌, length, Option, Some, None, refl, sym, ◌∙◌, ap, arith}
use Rattle.std.specs.Prelude.{IfSome, get_or, nat_lt}
use Rattle.std.specs.List.{AllByRecursion, find}
use Rattle.std.proofs.lemmas.Bool.{ne_eqb}
use Rattle.std.proofs.lemmas.List.{get_or-map}
use Rattle.plain_orders.specs.declared.mode.Mode.{Mode}
use Rattle.app_job.specs.Sites.{Site}
use Rattle.app_job.specs.declared.command.Command.TheVariants.{Lock}
use Rattle.app_job.specs.declared.refusal.Refusal.{Refusal}
use Rattle.app_job.specs.declared.refusal.Refusal.TheVariants as refusals
use Rattle.app_rules.specs.declared.session_parts.Lost.{Lost}
use Rattle.app_rules.specs.AppState.{AppState, no_end}
use Rattle.app_rules.specs.JobState.{JobState, Progress, failed_of, progress_of, used_at}
use Rattle.app_rules.specs.Refusing.{is_loss_of, is_rollback_only, loss_of, network_at, network_from, noway_at, or_else, refusal_of, rollback_only}
use Rattle.app_rules.specs.Works.{end_at}
use Rattle.std.proofs.lemmas.Bool.{le-ltb}

-- a session above all that were lost isn't among them
none_lost : (n : ℕ) (lost : List Lost) → AllByRecursion (λ (y : Lost). y.session < n) lost → find (is_loss_of n) lost ≡ None
none_lost n [] all = refl
none_lost n (y ∷ ys) all =
    ap (λ (b : Bool). if b then Some y else find (is_loss_of n) ys) (ne_eqb y.session n (λ same. absurd (omega (arith, same, all.0)))) ∙ none_lost n ys all.1

-- no attempt failed since the command began
pub low_failed : (a : AppState) (j : JobState) (now line d : ℕ) → d < length a.ends → (o : Option Progress)
    → IfSome o (λ p. (end_at a d).failed ≤ get_or p.failed d 0)
    → (end_at a d).failed ≤ get_or (progress_of o a j now line).failed d 0
low_failed a j now line d low None is = omega (arith, get_or-map failed_of a.ends d no_end 0 low)
low_failed a j now line d low (Some p) is = is

not_below : (n k : ℕ) → n ≤ k → nat_lt k n ≡ false
not_below n k low = le-ltb k n low

network_none : (a : AppState) (j : JobState) (p : Progress) (d n : ℕ) → used_at j d ≡ Some n → AllByRecursion (λ (y : Lost). y.session < n) (end_at a d).lost
    → (end_at a d).failed ≤ get_or p.failed d 0 → network_at a j p d ≡ None
network_none a j p d n used below low =
    ap (λ (o : Option ℕ). network_from (loss_of (end_at a d).lost o) d (end_at a d) p) used
    ∙ ap (λ (o : Option Lost). network_from o d (end_at a d) p) (none_lost n (end_at a d).lost below)
    ∙ ap (λ (b : Bool). noway_at b d (end_at a d)) (not_below (end_at a d).failed (get_or p.failed d 0) low)

flag_only : (b : Bool) (r : Refusal) → rollback_only b ≡ Some r → r ≡ refusals.RollbackOnly
flag_only true r is = sym (same is)
  where
    same : Some refusals.RollbackOnly ≡ Some r → refusals.RollbackOnly ≡ r
    same e = cc (e)
flag_only false r is = absurd (cc (is))

-- So a refusal is that one.
pub only_rollback : (at : Site) (mode : Mode) (wait : Option ℕ) (a : AppState) (j : JobState) (p : Progress) (r : Refusal) (n : ℕ)
    → used_at j at.server ≡ Some n
    → AllByRecursion (λ (y : Lost). y.session < n) (end_at a at.server).lost → (end_at a at.server).failed ≤ get_or p.failed at.server 0
    → refusal_of (Lock at mode wait) a j p ≡ Some r → r ≡ refusals.RollbackOnly
only_rollback at mode wait a j p r n used below low is =
    flag_only (is_rollback_only a j) r
    (sym (ap (λ (o : Option Refusal). or_else (or_else o None) (rollback_only (is_rollback_only a j))) (network_none a j p at.server n used below low)) ∙ is)
