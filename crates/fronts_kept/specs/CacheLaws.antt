-- What follows of the runs that an application server has.
use Rattle.std.specs.Prelude.{◌≡◌, ℕ, false, IfSome}
use Rattle.std.specs.List.{AllByRecursion}
use Rattle.plain_orders.specs.declared.layout.Layout.{Layout}
use Rattle.plain_runs.specs.Plain.{Server, order_at}
use Rattle.plain_runs.specs.Run.{state_after}
use Rattle.end_words.specs.Runs.{TrueAt}
use Rattle.app_rules.specs.AppState.{Session}
use Rattle.cluster_runs.specs.Machine.{Machine, End}
use Rattle.cluster_invariant.specs.Holds.{Holds}

-- each run of the session has just the pairs that its order leaves, up to the session's front, in its span
abbrev pub CacheIsTrue : Server → End → Session → Type 0
CacheIsTrue v e s = IfSome e.told (λ p. AllByRecursion (λ run. TrueAt run (order_at v p.order) s.n) s.cache)

-- Where the invariant holds, so are all runs of each living application server.
abbrev pub CachedRunsAreTrue : Type 0
CachedRunsAreTrue = (l : Layout) (m : Machine) → Holds l m → (d app : ℕ) → m.is_dead_at app ≡ false
    → IfSome ((m.site_at d).end_at app).state.session (CacheIsTrue ((state_after l m.trail).server_at d) ((m.site_at d).end_at app))

-- each run that is published of the end is true at the front that is published with it
abbrev pub PublishedIsTrue : Server → End → Type 0
PublishedIsTrue v e = IfSome e.told (λ p. IfSome e.shown.front (λ f. AllByRecursion (λ run. TrueAt run (order_at v p.order) f.n) e.shown.runs))

-- Where the invariant holds, so are all that living application servers publish.
abbrev pub PublishedRunsAreTrue : Type 0
PublishedRunsAreTrue = (l : Layout) (m : Machine) → Holds l m → (d app : ℕ) → m.is_dead_at app ≡ false
    → PublishedIsTrue ((state_after l m.trail).server_at d) ((m.site_at d).end_at app)
