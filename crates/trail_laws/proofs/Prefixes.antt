-- What a job has seen falls only where a restart had cut the list.
use Rattle.std.proofs.Common.{◌≡◌, ℕ, zero, suc, ◌≤◌, ◌<◌, ◌+◌, min, List, [], ◌∷◌, ◌++◌, length, take, refl, subst, sym, ◌∙◌, Bool, true, false, eqb, ◌==◌, if◌then◌else◌, arith, length-append, ◌⊎◌, inl, inr, Option, Some, None}
use Rattle.std.specs.Prelude.{is_some, unwrap_or, nat_lt}
use Rattle.std.proofs.lemmas.Bool.{eqb-true, and_parts, ltb-true}
use Rattle.std.proofs.lemmas.Option.{same_Some}
use Rattle.plain_orders.specs.declared.act.Act.{Act}
use Rattle.plain_orders.specs.declared.act.Act.TheVariants.{Met, Told}
use Rattle.plain_orders.specs.declared.entry.Entry.{Entry}
use Rattle.plain_orders.specs.declared.entry.Entry.TheVariants.{Epoch, Opened as OpenedEntry, Closed, Update, Commit, Rollback}
use Rattle.plain_orders.specs.declared.layout.Layout.{Layout}
use Rattle.plain_orders.specs.Entries.{last_epoch}
use Rattle.plain_orders.specs.Ordered.{IsOrdered, MayFollow}
use Rattle.plain_orders.specs.Sessions.{place_of_epoch}
use Rattle.plain_orders.proofs.EntryLemmas.{last_epoch-push}
use Rattle.plain_orders.proofs.OrderLemmas.{ordered_induction}
use Rattle.plain_runs.specs.Plain.{Plain, Server, Session, Entered, start, app_of, runs_on, session_in, order_at, orders}
use Rattle.plain_runs.specs.EndRows.{MetMay, ToldMay, met_by, told_of, begun_by, begun_from}
use Rattle.plain_runs.specs.Step.{MayCome, after}
use Rattle.plain_runs.specs.Run.{IsRun, RunFrom, state_after}
use Rattle.plain_runs.specs.Laws.{SeenNeverFalls, may_fall, server_after}
use Rattle.plain_runs.proofs.RunLemmas.{after_all-more, run_parts}
use Rattle.plain_runs.proofs.Bases.{ToldKept, sight, told_in, owner_in}
use Rattle.plain_runs.proofs.SeenLaw.{told_kept}
use Rattle.plain_runs.proofs.Ordered.{each_is_ordered}
use Rattle.trail_laws.specs.PrefixLaw.{SeenFallsWhereCut, WasCut, seen_after}
use Rattle.trail_laws.proofs.Seen.{SeenKept, glimpse, runs_its}
use Rattle.trail_laws.proofs.SeenRuns.{seen_kept}

-- an ordered list has no Epoch above its last
place_pushed : (n c : ℕ) (es : List Entry) (e : Entry) → place_of_epoch n c es ≡ None → ((k : ℕ) → place_of_epoch n k (e ∷ []) ≡ None) → place_of_epoch n c (es ++ e ∷ []) ≡ None
place_pushed n c [] e h f = f c
place_pushed n c (Epoch number ∷ es) e h f = go (nat_lt n number) (λ h. place_pushed n (c + 1) es e h f) h
  where
    go : (b : Bool) → (place_of_epoch n (c + 1) es ≡ None → place_of_epoch n (c + 1) (es ++ e ∷ []) ≡ None) → (if b then Some c else place_of_epoch n (c + 1) es) ≡ None → (if b then Some c else place_of_epoch n (c + 1) (es ++ e ∷ [])) ≡ None
    go true more h = absurd (cc (h))
    go false more h = more h
place_pushed n c (OpenedEntry session app ∷ es) e h f = place_pushed n (c + 1) es e h f
place_pushed n c (Closed session ∷ es) e h f = place_pushed n (c + 1) es e h f
place_pushed n c (Update session w job txn op ∷ es) e h f = place_pushed n (c + 1) es e h f
place_pushed n c (Commit session w job txn ∷ es) e h f = place_pushed n (c + 1) es e h f
place_pushed n c (Rollback session w job txn ∷ es) e h f = place_pushed n (c + 1) es e h f

abbrev NoneAbove : List Entry → Type 0
NoneAbove es = (n : ℕ) → last_epoch es ≤ n → place_of_epoch n 0 es ≡ None

none_push : (es : List Entry) (e : Entry) → IsOrdered es → NoneAbove es → MayFollow es e → NoneAbove (es ++ e ∷ [])
none_push es (Epoch number) o none may n low = place_pushed n 0 es (Epoch number) (none n (omega (arith, top, low, may.is_next))) (λ k. go k (nat_lt n number) refl)
  where
    top : last_epoch (es ++ Epoch number ∷ []) ≡ number
    top = last_epoch-push es (Epoch number)

    go : (k : ℕ) (b : Bool) → nat_lt n number ≡ b → (if b then Some k else None) ≡ None
    go k true e = absurd (omega (arith, ltb-true n number e, top, low))
    go k false e = refl
none_push es (OpenedEntry session app) o none may n low = place_pushed n 0 es (OpenedEntry session app) (none n (omega (arith, last_epoch-push es (OpenedEntry session app), low))) (λ k. refl)
none_push es (Closed session) o none may n low = place_pushed n 0 es (Closed session) (none n (omega (arith, last_epoch-push es (Closed session), low))) (λ k. refl)
none_push es (Update session w job txn op) o none may n low = place_pushed n 0 es (Update session w job txn op) (none n (omega (arith, last_epoch-push es (Update session w job txn op), low))) (λ k. refl)
none_push es (Commit session w job txn) o none may n low = place_pushed n 0 es (Commit session w job txn) (none n (omega (arith, last_epoch-push es (Commit session w job txn), low))) (λ k. refl)
none_push es (Rollback session w job txn) o none may n low = place_pushed n 0 es (Rollback session w job txn) (none n (omega (arith, last_epoch-push es (Rollback session w job txn), low))) (λ k. refl)

pub none_above : (es : List Entry) → IsOrdered es → NoneAbove es
none_above es o = ordered_induction NoneAbove (λ n low. refl) none_push es o

-- the first Epoch above a number is in each front that reaches behind it
pub place_front : (n c m p : ℕ) (es : List Entry) → place_of_epoch n c es ≡ Some p → p < c + m → place_of_epoch n c (take m es) ≡ Some p
place_front n c m p [] h low = absurd (cc (h))
place_front n c zero p (x ∷ es) h low = absurd (omega (arith, low, place_high n c p (x ∷ es) h))
  where
    place_high : (n c p : ℕ) (es : List Entry) → place_of_epoch n c es ≡ Some p → c ≤ p
    place_high n c p [] h = absurd (cc (h))
    place_high n c p (Epoch number ∷ es) h = go (nat_lt n number) (λ h. place_high n (c + 1) p es h) h
      where
        go : (b : Bool) → (place_of_epoch n (c + 1) es ≡ Some p → c + 1 ≤ p) → (if b then Some c else place_of_epoch n (c + 1) es) ≡ Some p → c ≤ p
        go true more h = omega (arith, same_Some c p h)
        go false more h = omega (arith, more h)
    place_high n c p (OpenedEntry session app ∷ es) h = omega (arith, place_high n (c + 1) p es h)
    place_high n c p (Closed session ∷ es) h = omega (arith, place_high n (c + 1) p es h)
    place_high n c p (Update session w job txn op ∷ es) h = omega (arith, place_high n (c + 1) p es h)
    place_high n c p (Commit session w job txn ∷ es) h = omega (arith, place_high n (c + 1) p es h)
    place_high n c p (Rollback session w job txn ∷ es) h = omega (arith, place_high n (c + 1) p es h)
place_front n c (suc m) p (Epoch number ∷ es) h low = go (nat_lt n number) (λ h. place_front n (c + 1) m p es h (omega (arith, low))) h
  where
    go : (b : Bool) → (place_of_epoch n (c + 1) es ≡ Some p → place_of_epoch n (c + 1) (take m es) ≡ Some p) → (if b then Some c else place_of_epoch n (c + 1) es) ≡ Some p → (if b then Some c else place_of_epoch n (c + 1) (take m es)) ≡ Some p
    go true more h = h
    go false more h = more h
place_front n c (suc m) p (OpenedEntry session app ∷ es) h low = place_front n (c + 1) m p es h (omega (arith, low))
place_front n c (suc m) p (Closed session ∷ es) h low = place_front n (c + 1) m p es h (omega (arith, low))
place_front n c (suc m) p (Update session w job txn op ∷ es) h low = place_front n (c + 1) m p es h (omega (arith, low))
place_front n c (suc m) p (Commit session w job txn ∷ es) h low = place_front n (c + 1) m p es h (omega (arith, low))
place_front n c (suc m) p (Rollback session w job txn ∷ es) h low = place_front n (c + 1) m p es h (omega (arith, low))

pub place_whole : (n c m p : ℕ) (es : List Entry) → place_of_epoch n c (take m es) ≡ Some p → place_of_epoch n c es ≡ Some p
place_whole n c zero p es h = absurd (cc (h))
place_whole n c (suc m) p [] h = h
place_whole n c (suc m) p (Epoch number ∷ es) h = go (nat_lt n number) (λ h. place_whole n (c + 1) m p es h) h
  where
    go : (b : Bool) → (place_of_epoch n (c + 1) (take m es) ≡ Some p → place_of_epoch n (c + 1) es ≡ Some p) → (if b then Some c else place_of_epoch n (c + 1) (take m es)) ≡ Some p → (if b then Some c else place_of_epoch n (c + 1) es) ≡ Some p
    go true more h = h
    go false more h = more h
place_whole n c (suc m) p (OpenedEntry session app ∷ es) h = place_whole n (c + 1) m p es h
place_whole n c (suc m) p (Closed session ∷ es) h = place_whole n (c + 1) m p es h
place_whole n c (suc m) p (Update session w job txn op ∷ es) h = place_whole n (c + 1) m p es h
place_whole n c (suc m) p (Commit session w job txn ∷ es) h = place_whole n (c + 1) m p es h
place_whole n c (suc m) p (Rollback session w job txn ∷ es) h = place_whole n (c + 1) m p es h

pub begun_low : (epoch found i c : ℕ) (os : List (List Entry)) → found ≤ c → i + length os ≤ c + 1 → begun_from epoch found i os ≤ c
begun_low epoch found i c [] low high = low
begun_low epoch found i c (es ∷ more) low high = begun_low epoch (if last_epoch es == epoch then i else found) (i + 1) c more (go (last_epoch es == epoch)) (omega arith)
  where
    go : (b : Bool) → (if b then i else found) ≤ c
    go true = omega arith
    go false = low

runs_there : (l : Layout) (app j : ℕ) → runs_on l app j ≡ true → j < length l.job_apps
runs_there l app j e = ltb-true j (length l.job_apps) (and_parts (nat_lt j (length l.job_apps)) (app_of l j == app) e).0

-- at a `met`
met_cut : (l : Layout) (C : ℕ → Type 0) (s : Server) (app session j : ℕ) → MetMay s app session → SeenKept l C (glimpse s) → ((met_by l s app session).known_at j).seen < (s.known_at j).seen → C (s.known_at j).seen
met_cut l C s app session j may k less = go (runs_on l app j) refl less
  where
    none : (o : Option ℕ) → is_some o ≡ false → o ≡ None
    none None e = refl
    none (Some n) e = absurd (cc (e))

    open_in : (o : Option Entered) → is_some o ≡ true → (unwrap_or o (record { app = 0; in_order = 0; lost_since = false })).lost_since ≡ false → (e : Entered) × ((o ≡ Some e) × (e.lost_since ≡ false))
    open_in None some since = absurd (cc (some))
    open_in (Some e) some since = (e, (refl, since))

    late : session < (s.known_at j).seen → ((s.known_at j).seen ≤ session) ⊎ C (s.known_at j).seen → C (s.known_at j).seen
    late under (inl low) = absurd (omega (arith, under, low))
    late under (inr c) = c

    go : (b : Bool) → runs_on l app j ≡ b → (if b then record (s.known_at j) { seen = session; acted = false } else s.known_at j).seen < (s.known_at j).seen → C (s.known_at j).seen
    go false e under = absurd (omega (arith, under))
    go true e under =
        let o : (e : Entered) × ((s.entered_at session ≡ Some e) × (e.lost_since ≡ false)) = open_in (s.entered_at session) may.entered may.not_lost in
        let its : app_of l j ≡ app = runs_its l app j e in
        late under
        (k.behind j session o.0 (runs_there l app j e) (subst (λ a. (s.pair_at a).session ≡ None) (sym its) (none (s.pair_at app).session may.none)) o.1.0
        (k.mine session app o.0 may.place o.1.0 ∙ sym its) o.1.1 may.fresh)

-- at a `told`
told_cut : (l : Layout) (C : ℕ → Type 0) (s : Server) (app session epoch kept j : ℕ) → ((i : ℕ) → IsOrdered (order_at s i)) → ToldMay s app session epoch kept → ToldKept l (sight s) → SeenKept l C (glimpse s)
    → ((told_of l s app session epoch kept).known_at j).seen < (s.known_at j).seen → C (s.known_at j).seen
told_cut l C s app session epoch kept j ordered may told k less = go (runs_on l app j) refl less
  where
    n : ℕ
    n = (s.known_at j).seen

    b : ℕ
    b = (session_in s session).told

    c : ℕ
    c = begun_by s epoch

    reach : c ≤ length s.past
    reach = begun_low epoch 0 0 (length s.past) (orders s) (omega arith) (omega (arith, length-append s.past (s.order ∷ [])))

    is_told : (o : Option Session) → owner_in o ≡ Some app → told_in o ≡ Some (unwrap_or o (record { app = 0; issued = []; told = 0 })).told
    is_told None e = absurd (cc (e))
    is_told (Some m) e = refl

    late : kept < n → (take n (order_at s c) ≡ take n (order_at s b)) ⊎ C n → C n
    late under (inr x) = x
    late under (inl same) =
        let front : place_of_epoch (last_epoch (order_at s b)) 0 (take n (order_at s c)) ≡ Some kept = place_front (last_epoch (order_at s b)) 0 n kept (order_at s c) may.place (omega (arith, under)) in
        let whole : place_of_epoch (last_epoch (order_at s b)) 0 (order_at s b) ≡ Some kept =
        place_whole (last_epoch (order_at s b)) 0 n kept (order_at s b) (subst (λ (es : List Entry). place_of_epoch (last_epoch (order_at s b)) 0 es ≡ Some kept) same front)
        in
        absurd (cc (whole, none_above (order_at s b) (ordered b) (last_epoch (order_at s b)) (omega arith)))

    go : (r : Bool) → runs_on l app j ≡ r → (if r then record (s.known_at j) { seen = min (s.known_at j).seen kept } else s.known_at j).seen < n → C n
    go false e under = absurd (omega (arith, under))
    go true e under =
        let its : app_of l j ≡ app = runs_its l app j e in
        late (omega (arith, under))
        (k.fronts b c n (omega (arith, may.later)) reach
        (told.seen j session b (runs_there l app j e) (subst (λ a. (s.pair_at a).session ≡ Some session) (sym its) may.its) (is_told (s.session_at session) (told.its app session may.its))))

falls : (l : Layout) (acts : List Act) (a : Act) (d j : ℕ) → IsRun l acts → MayCome l (state_after l acts) a → may_fall a ≡ true
    → (((after l (state_after l acts) a).server_at d).known_at j).seen < seen_after l acts d j → WasCut l acts d (seen_after l acts d j)
falls l acts (Met app e session) d j run may fall less = go (eqb d e) refl less
  where
    s : Server
    s = server_after l acts d

    go : (b : Bool) → eqb d e ≡ b → ((if b then met_by l (server_after l acts e) app session else s).known_at j).seen < (s.known_at j).seen → WasCut l acts d (s.known_at j).seen
    go false q under = absurd (omega (arith, under))
    go true q under =
        let is : e ≡ d = sym (eqb-true d e q) in
        met_cut l (WasCut l acts d) s app session j (subst (λ i. MetMay (server_after l acts i) app session) is may.1) (seen_kept l acts run d) (subst (λ i. ((met_by l (server_after l acts i) app session).known_at j).seen < (s.known_at j).seen) is under)
falls l acts (Told app e session epoch kept) d j run may fall less = go (eqb d e) refl less
  where
    s : Server
    s = server_after l acts d

    go : (b : Bool) → eqb d e ≡ b → ((if b then told_of l (server_after l acts e) app session epoch kept else s).known_at j).seen < (s.known_at j).seen → WasCut l acts d (s.known_at j).seen
    go false q under = absurd (omega (arith, under))
    go true q under =
        let is : e ≡ d = sym (eqb-true d e q) in
        told_cut l (WasCut l acts d) s app session epoch kept j (λ i. each_is_ordered l acts d i run) (subst (λ i. ToldMay (server_after l acts i) app session epoch kept) is may.1) (told_kept l acts d run) (seen_kept l acts run d)
        (subst (λ i. ((told_of l (server_after l acts i) app session epoch kept).known_at j).seen < (s.known_at j).seen) is under)
falls l acts _ d j run may fall less = absurd (cc (fall))

pub seen_falls_where_cut : SeenNeverFalls → SeenFallsWhereCut
seen_falls_where_cut never l acts a d j run less = go (may_fall a) refl
  where
    p : Plain
    p = state_after l acts

    parts : IsRun l acts × RunFrom l p (a ∷ [])
    parts = run_parts l start acts (a ∷ []) run

    under : (((after l p a).server_at d).known_at j).seen < seen_after l acts d j
    under = subst (λ (q : Plain). ((q.server_at d).known_at j).seen < seen_after l acts d j) (after_all-more l start acts a) less

    go : (b : Bool) → may_fall a ≡ b → (may_fall a ≡ true) × WasCut l acts d (seen_after l acts d j)
    go true e = (e, falls l acts a d j parts.0 parts.1.0 e under)
    go false e = absurd (omega (arith, under, never l p a d j parts.1.0 e))
