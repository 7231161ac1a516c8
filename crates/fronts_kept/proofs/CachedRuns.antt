-- Each run that an application end has is true at its session's front: it came in a Block, and what came behind it met it nowhere.
use Rattle.std.proofs.Common.{◌≡◌, ◌≢◌, ◌≤◌, inl, inr, ℕ, zero, suc, Bool, true, false, ◌||◌, List, [], ◌∷◌, take, Option, Some, None, refl, sym, subst}
use Rattle.std.specs.Prelude.{IfSome}
use Rattle.std.specs.List.{list_any, AllByRecursion}
use Rattle.std.proofs.lemmas.Bool.{false≢true}
use Rattle.subscript_keys.specs.declared.run.Run.{Run}
use Rattle.plain_orders.specs.declared.entry.Entry.{Entry}
use Rattle.plain_orders.specs.declared.layout.Layout.{Layout}
use Rattle.plain_runs.specs.Plain.{Server, current, order_at}
use Rattle.plain_runs.specs.Run.{state_after}
use Rattle.block_bytes.proofs.OneRun.{one_run}
use Rattle.block_cache.specs.declared.front.Front.{Front as ShownFront}
use Rattle.end_words.specs.Runs.{TrueAt}
use Rattle.ecp_messages.specs.declared.down.Down.{Down}
use Rattle.ecp_messages.specs.declared.down.Down.TheVariants.{Welcome, Reset, Block, Drop, Ack, Grant, Answer, Normal, Bare}
use Rattle.ecp_messages.specs.declared.front.Front.{Front}
use Rattle.app_rules.specs.AppState.{Session}
use Rattle.app_rules.specs.Looks.{Shown, shown_front}
use Rattle.cluster_runs.specs.Machine.{Machine, Site, End}
use Rattle.cluster_runs.specs.Sent.{Lane, Place, downs_taken}
use Rattle.cluster_invariant.specs.Coherence.{BlockHolds, BlocksHold, CoherenceHolds, IsRun, TrueUntilDrop, drops, front_of}
use Rattle.cluster_invariant.specs.Fronts.{CameIn, FrontIs, FrontOf, ShownIs, ShownOf, Stands, last_front}
use Rattle.cluster_invariant.specs.Holds.{Holds}
use Rattle.link_kept.proofs.ShortMoves.{told_there}
use Rattle.fronts_kept.specs.CacheLaws.{CacheIsTrue, PublishedIsTrue}

-- either of two that are both false
neither : (a b : Bool) → (a || b) ≡ false → (a ≡ false) × (b ≡ false)
neither true b is = absurd (false≢true (sym is))
neither false b is = (refl, is)

module _ (es : List Entry) where
  -- the first messages of some

  until_first : (run : Run) (n : ℕ) (ms : List Down) → TrueUntilDrop es run ms → TrueUntilDrop es run (take n ms)
  until_first run zero ms is = tt
  until_first run (suc n) [] is = tt
  until_first run (suc n) (m ∷ ms) is = λ keeps. ((is keeps).0, until_first run n ms (is keeps).1)

  block_first : (k n : ℕ) (block : List ℕ) (ms : List Down) → BlockHolds es IsRun k block ms → BlockHolds es IsRun k block (take n ms)
  block_first k n block ms is = record { run = is.run; its = is.its; at_once = is.at_once; until = until_first is.run n ms is.until; stands = λ unmet. tt }

  blocks_first : (n : ℕ) (ms : List Down) → BlocksHold es IsRun ms → BlocksHold es IsRun (take n ms)
  blocks_first zero ms is = tt
  blocks_first (suc n) [] is = tt
  blocks_first (suc n) (Welcome session epoch kept front taken ∷ ms) is = blocks_first n ms is
  blocks_first (suc n) (Reset session at ∷ ms) is = blocks_first n ms is
  blocks_first (suc n) (Block front block ∷ ms) is = (block_first front.n n block ms is.0, blocks_first n ms is.1)
  blocks_first (suc n) (Drop front lo hi ∷ ms) is = blocks_first n ms is
  blocks_first (suc n) (Ack front ∷ ms) is = blocks_first n ms is
  blocks_first (suc n) (Grant front ticket at ∷ ms) is = blocks_first n ms is
  blocks_first (suc n) (Answer front about job number at sum ∷ ms) is = blocks_first n ms is
  blocks_first (suc n) (Normal front ∷ ms) is = blocks_first n ms is
  blocks_first (suc n) (Bare ∷ ms) is = blocks_first n ms is

  -- a run that no message behind a front meets is true at the last one
  until_last : (run : Run) (f : Front) (ms : List Down) → TrueAt run es f.n → TrueUntilDrop es run ms → list_any (drops run.span) ms ≡ false → TrueAt run es (last_front f ms).n
  until_last run f [] now is unmet = now
  until_last run f (m ∷ ms) now is unmet =
      let apart : (drops run.span m ≡ false) × (list_any (drops run.span) ms ≡ false) = neither (drops run.span m) (list_any (drops run.span) ms) unmet in
      until_last run (front_of m) ms (is apart.0).0 (is apart.0).1 apart.1

  -- the Block that a run came in has this run alone
  came_true : (run : Run) (front : Front) (block : List ℕ) (ms : List Down) → BlockHolds es IsRun front.n block ms → CameIn run block ms → TrueAt run es (last_front front ms).n
  came_true run front block ms is came =
      until_last run front ms (subst (λ (r : Run). TrueAt r es front.n) same is.at_once) (subst (λ (r : Run). TrueUntilDrop es r ms) same is.until) came.unmet
    where
      same : is.run ≡ run
      same = one_run is.run run block is.its came.its

  stands_true : (run : Run) (f : Front) (ms : List Down) → BlocksHold es IsRun ms → Stands run ms → TrueAt run es (last_front f ms).n
  stands_true run f [] is stands = absurd stands
  stands_true run f (Welcome session epoch kept front taken ∷ ms) is stands = stands_true run (front_of (Welcome session epoch kept front taken)) ms is stands
  stands_true run f (Reset session at ∷ ms) is stands = stands_true run (front_of (Reset session at)) ms is stands
  stands_true run f (Block front block ∷ ms) is (inl came) = came_true run front block ms is.0 came
  stands_true run f (Block front block ∷ ms) is (inr later) = stands_true run front ms is.1 later
  stands_true run f (Drop front lo hi ∷ ms) is stands = stands_true run front ms is stands
  stands_true run f (Ack front ∷ ms) is stands = stands_true run front ms is stands
  stands_true run f (Grant front ticket at ∷ ms) is stands = stands_true run front ms is stands
  stands_true run f (Answer front about job number at sum ∷ ms) is stands = stands_true run front ms is stands
  stands_true run f (Normal front ∷ ms) is stands = stands_true run front ms is stands
  stands_true run f (Bare ∷ ms) is stands = stands_true run (front_of Bare) ms is stands

  -- the runs of a session
  all_true : (f : Front) (ms : List Down) (runs : List Run) → BlocksHold es IsRun ms → AllByRecursion (λ run. Stands run ms) runs
      → AllByRecursion (λ run. TrueAt run es (last_front f ms).n) runs
  all_true f ms [] is stand = tt
  all_true f ms (run ∷ runs) is stand = (stands_true run f ms is stand.0, all_true f ms runs is stand.1)

  front_true : (lane : Lane) (number n w : ℕ) (cache : List Run) → BlocksHold es IsRun lane.down → FrontIs es lane number n w cache → AllByRecursion (λ run. TrueAt run es n) cache
  front_true lane number n w cache is front =
      subst (λ (k : ℕ). AllByRecursion (λ run. TrueAt run es k) cache) (sym front.at)
      (all_true lane.front (downs_taken lane) cache (blocks_first lane.down_taken lane.down is) front.runs)

  -- what is published of a session, at the front that is published, if any run is
  published_true : (lane : Lane) (s : Session) (y : Shown) → BlocksHold es IsRun lane.down → FrontIs es lane s.number s.n s.w s.cache → ShownIs lane s y
      → IfSome y.front (λ f. AllByRecursion (λ run. TrueAt run es f.n) y.runs)
  published_true lane s y is front shown = by y.runs y.front shown.front each
    where
      each : AllByRecursion (λ run. TrueAt run es s.n) y.runs
      each =
          subst (λ (k : ℕ). AllByRecursion (λ run. TrueAt run es k) y.runs) (sym front.at)
          (all_true lane.front (downs_taken lane) y.runs (blocks_first lane.down_taken lane.down is) shown.runs)

      by : (runs : List Run) (o : Option ShownFront) → (runs ≢ [] → o ≡ Some (shown_front s)) → AllByRecursion (λ run. TrueAt run es s.n) runs
          → IfSome o (λ f. AllByRecursion (λ run. TrueAt run es f.n) runs)
      by [] None has all = tt
      by [] (Some f) has all = tt
      by (run ∷ runs) o has all = subst (λ (p : Option ShownFront). IfSome p (λ f. AllByRecursion (λ r. TrueAt r es f.n) (run ∷ runs))) (sym (has (λ same. absurd cc))) all

-- the session of an end, in the order that it is told of
session_true : (v : Server) (x : Site) (e : End) (o : Option Session) → CoherenceHolds v x → IfSome o (λ s. IfSome e.told (λ p. p.order ≤ current v))
    → IfSome o (FrontOf v x e) → IfSome o (CacheIsTrue v e)
session_true v x e None coherent low front = tt
session_true v x e (Some s) coherent low front = go e.told low front
  where
    go : (told : Option Place) → IfSome told (λ p. p.order ≤ current v)
        → IfSome told (λ p. FrontIs (order_at v p.order) (x.lane_at s.number p.order) s.number s.n s.w s.cache)
        → IfSome told (λ p. AllByRecursion (λ run. TrueAt run (order_at v p.order) s.n) s.cache)
    go None low front = tt
    go (Some p) low front =
        front_true (order_at v p.order) (x.lane_at s.number p.order) s.number s.n s.w s.cache (coherent.lanes s.number p.order low).blocks front

-- So it is where the invariant holds.
pub cached_are_true : (l : Layout) (m : Machine) → Holds l m → (d app : ℕ) → m.is_dead_at app ≡ false
    → IfSome ((m.site_at d).end_at app).state.session (CacheIsTrue ((state_after l m.trail).server_at d) ((m.site_at d).end_at app))
cached_are_true l m h d app lives =
    session_true v (m.site_at d) e e.state.session (h.sites d).coherence (told_there v app e ((h.sites d).ends.told app lives)) ((h.sites d).fronts.apps app lives)
  where
    v : Server
    v = (state_after l m.trail).server_at d

    e : End
    e = (m.site_at d).end_at app

-- what is published of an end
published_by : (v : Server) (x : Site) (e : End) (o : Option Session) → CoherenceHolds v x → IfSome o (λ s. IfSome e.told (λ p. p.order ≤ current v))
    → IfSome o (FrontOf v x e) → ShownOf x e o → PublishedIsTrue v e
published_by v x e None coherent low front shown = nothing e.told
  where
    none : (o : Option ShownFront) (order : List Entry) → IfSome o (λ f. AllByRecursion (λ run. TrueAt run order f.n) e.shown.runs)
    none None order = tt
    none (Some f) order = subst (λ (runs : List Run). AllByRecursion (λ run. TrueAt run order f.n) runs) (sym shown) tt

    nothing : (told : Option Place) → IfSome told (λ p. IfSome e.shown.front (λ f. AllByRecursion (λ run. TrueAt run (order_at v p.order) f.n) e.shown.runs))
    nothing None = tt
    nothing (Some p) = none e.shown.front (order_at v p.order)
published_by v x e (Some s) coherent low front shown = go e.told low front shown
  where
    go : (told : Option Place) → IfSome told (λ p. p.order ≤ current v)
        → IfSome told (λ p. FrontIs (order_at v p.order) (x.lane_at s.number p.order) s.number s.n s.w s.cache)
        → IfSome told (λ p. ShownIs (x.lane_at s.number p.order) s e.shown)
        → IfSome told (λ p. IfSome e.shown.front (λ f. AllByRecursion (λ run. TrueAt run (order_at v p.order) f.n) e.shown.runs))
    go None low front shown = tt
    go (Some p) low front shown =
        published_true (order_at v p.order) (x.lane_at s.number p.order) s e.shown (coherent.lanes s.number p.order low).blocks front shown

-- So it is where the invariant holds.
pub published_are_true : (l : Layout) (m : Machine) → Holds l m → (d app : ℕ) → m.is_dead_at app ≡ false
    → PublishedIsTrue ((state_after l m.trail).server_at d) ((m.site_at d).end_at app)
published_are_true l m h d app lives =
    published_by v (m.site_at d) e e.state.session (h.sites d).coherence (told_there v app e ((h.sites d).ends.told app lives)) ((h.sites d).fronts.apps app lives)
    ((h.sites d).fronts.shown app lives)
  where
    v : Server
    v = (state_after l m.trail).server_at d

    e : End
    e = (m.site_at d).end_at app
