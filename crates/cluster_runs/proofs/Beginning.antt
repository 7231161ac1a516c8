-- The lists before any move show the machine before any move.
use Rattle.std.proofs.lemmas.Bool.{false≢true}
use Rattle.std.proofs.Common.{Option, List, ◌≡◌, ◌<◌, ◌≤◌, ◌⊎◌, ℕ, sym, ap, ◌∙◌, subst, refl, inl, inr, zero, suc, arith}
use Rattle.std.proofs.lemmas.List.{get_or-replicate, length-replicate, get_or_past}
use Rattle.std.proofs.lemmas.List.FromFn.{get_or-map-range_with_len, length-map-range_with_len}
use Rattle.std.specs.Prelude.{is_some, [], get_or, replicate, map, length, None, false}
use Rattle.std.specs.List.{range_with_len}
use Rattle.plain_orders.specs.declared.layout.Layout.{Layout}
use Rattle.app_rules.specs.AppState.{AppState, no_end}
use Rattle.app_rules.specs.Works.{end_at}
use Rattle.app_rules.specs.Looks.{nothing_shown}
use Rattle.cluster_runs.specs.CoresState.{start, plain_server, app_at, new_app, no_app, job_at, new_job}
use Rattle.cluster_runs.specs.Views.{shown_at}
use Rattle.cluster_runs.specs.Machine.{begin}
use Rattle.app_rules.specs.JobState.{JobState, no_job}
use Rattle.cluster_runs.specs.Mirrors.{IsApp, IsWhole, Mirrors}
use Rattle.cluster_runs.specs.Laws.{BeginIsReached, EachMayStart, NoneStepsFirst, NoneHaltsFirst}
use Rattle.cluster_runs.specs.Moves.{EntriesMay, NodeMay}
use Rattle.data_rules.specs.DataState.{DataState}
use Rattle.plain_orders.specs.declared.entry.Entry.{Entry}

below_or_not : (a b : ℕ) → (a < b) ⊎ (b ≤ a)
below_or_not a zero = inr (omega arith)
below_or_not zero (suc b) = inl (omega arith)
below_or_not (suc a) (suc b) = elim (below_or_not a b) [
  | inl below ↦ inl (omega arith)
  | inr past ↦ inr (omega arith)
]

-- all elements of a list are the same, and so is what stands past its end
same : {X : Type 0} (n i : ℕ) (x : X) → get_or (replicate n x) i x ≡ x
same n i x = elim (below_or_not i n) [
  | inl below ↦ get_or-replicate n i x x below
  | inr past ↦ get_or_past (replicate n x) i x (subst (λ k. k ≤ i) (sym (length-replicate n x)) past)
]

app_there : (l : Layout) (app : ℕ) → app < l.apps → app_at (start l) app ≡ new_app l app
app_there l app below = get_or-map-range_with_len (new_app l) 0 l.apps app app (no_app (start l) app) below (omega arith)

app_past : (l : Layout) (app : ℕ) → l.apps ≤ app → app_at (start l) app ≡ no_app (start l) app
app_past l app past =
    get_or_past (map (new_app l) (range_with_len 0 l.apps)) app (no_app (start l) app) (subst (λ k. k ≤ app) (sym (length-map-range_with_len (new_app l) 0 l.apps)) past)

is_app : (l : Layout) (app : ℕ) → app < l.apps → IsApp (start l) app
is_app l app below = record {
  its = ap (λ (a : AppState). a.app) (app_there l app below);
  times = ap (λ (a : AppState). a.times) (app_there l app below);
  whole = ap (λ (a : AppState). length a.ends) (app_there l app below) ∙ length-replicate l.servers no_end;
}

ends : (l : Layout) (app server : ℕ) → end_at (app_at (start l) app) server ≡ no_end
ends l app server = elim (below_or_not app l.apps) [
  | inl below ↦ ap (λ (a : AppState). end_at a server) (app_there l app below) ∙ same l.servers server no_end
  | inr past ↦ ap (λ (a : AppState). end_at a server) (app_past l app past)
]

shown : (l : Layout) (app server : ℕ) → shown_at (start l) app server ≡ nothing_shown
shown l app server = elim (below_or_not app l.apps) [
  | inl below ↦ ap (λ xs. get_or xs server nothing_shown) (get_or-replicate l.apps app (replicate l.servers nothing_shown) [] below) ∙ same l.servers server nothing_shown
  | inr past ↦ ap (λ xs. get_or xs server nothing_shown)
      (get_or_past (replicate l.apps (replicate l.servers nothing_shown)) app [] (subst (λ k. k ≤ app) (sym (length-replicate l.apps (replicate l.servers nothing_shown))) past))
]

job_there : (l : Layout) (job : ℕ) → job < length l.job_apps → job_at (start l) job ≡ new_job l job
job_there l job below = get_or-map-range_with_len (new_job l) 0 (length l.job_apps) job job (no_job job 0 0) below (omega arith)

is_whole : (l : Layout) → IsWhole (start l)
is_whole l = record {
  nodes = length-replicate l.servers None;
  orders = length-replicate l.servers None;
  server_nows = length-replicate l.servers 0;
  apps = length-map-range_with_len (new_app l) 0 l.apps;
  app_nows = length-replicate l.apps 0;
  dead = length-replicate l.apps false;
  shown = length-replicate l.apps (replicate l.servers nothing_shown);
  rows = λ app below. ap length (get_or-replicate l.apps app (replicate l.servers nothing_shown) [] below) ∙ length-replicate l.servers nothing_shown;
  jobs = length-map-range_with_len (new_job l) 0 (length l.job_apps);
  begun = length-replicate (length l.job_apps) (record { line = 0; waits = None });
  views = length-replicate (length l.job_apps) (record { rollback_only = false; servers = [] });
  used = λ job below. ap (λ (j : JobState). length j.used) (job_there l job below) ∙ length-replicate l.servers None;
}

begin_shows : (l : Layout) → Mirrors (start l) (begin l)
begin_shows l = record {
  layout = refl;
  whole = is_whole l;
  nodes = λ server. same l.servers server None;
  orders = λ server. same l.servers server None;
  server_nows = λ server. same l.servers server 0;
  accepted = λ server conn. refl;
  apps = is_app l;
  ends = ends l;
  shown = shown l;
  dials = λ app server number. refl;
  jobs = λ job. refl;
  begun = λ job. refl;
  views = λ job. refl;
  app_nows = λ app. same l.apps app 0;
  dead = λ app. same l.apps app false;
  clock = refl;
  trail = refl;
}

pub begin_is_reached : BeginIsReached
begin_is_reached l = (begin l, ([], refl), begin_shows l)

-- what may be done first

pub each_may_start : EachMayStart
each_may_start l server below = record {
  known = below;
  is_down = ap is_some (same l.servers server None);
  now_may = record { clock = refl; no_less = subst (λ k. k ≤ 0) (sym (same l.servers server 0)) (omega arith) };
  kept = subst (λ (o : Option (List Entry)). EntriesMay o (plain_server (start l) server).synced []) (sym (same l.servers server None)) tt;
  low = omega arith;
}

pub none_steps_first : NoneStepsFirst
none_steps_first l server now input may = subst (λ (o : Option DataState). NodeMay o input) (same l.servers server None) may.may

pub none_halts_first : NoneHaltsFirst
none_halts_first l server may = false≢true (sym (ap is_some (same l.servers server None)) ∙ may.is_up)
