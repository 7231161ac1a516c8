-- What an application end was told stays so where of the plain server stays what it was told of.
use Rattle.std.proofs.Common.{◌≡◌, ◌≢◌, ◌≤◌, ◌+◌, ◌-◌, ℕ, List, [], ◌∷◌, ◌++◌, length, get_or, Option, Some, None, sym, ◌∙◌, ap, subst, arith, if◌then◌else◌, ◌==◌}
use Rattle.std.specs.Prelude.{⊤, IfSome, IsSomeAnd}
use Rattle.plain_orders.specs.declared.entry.Entry.{Entry}
use Rattle.plain_orders.specs.Entries.{last_epoch}
use Rattle.plain_runs.specs.Plain.{Server, Session as PlainSession, current, order_at}
use Rattle.data_rules.specs.Places.{epoch_place}
use Rattle.app_rules.specs.AppState.{Session}
use Rattle.cluster_runs.specs.Sent.{Place}
use Rattle.cluster_runs.specs.Machine.{End}
use Rattle.cluster_invariant.specs.Ends.{AppTold, ToldPlace, MetBelow}
use Rattle.cluster_invariant.specs.Words.{stays_at}
use Rattle.cluster_invariant.proofs.OrderBeside.{SameOrders}
use Rattle.cluster_steps.proofs.Outcomes.{EndKept, SessionKept}

-- Each order that was there has the Epoch that it had, and no less of it stays.
pub record OrdersLater (v w : Server) : Type 0 where
  pub there : current v ≤ current w
  pub synced : v.synced ≤ w.synced
  pub last : (k : ℕ) → k ≤ current v → last_epoch (order_at w k) ≡ last_epoch (order_at v k)
  pub place : (k : ℕ) → k ≤ current v → epoch_place (order_at w k) ≡ epoch_place (order_at v k)
  pub stays : (k : ℕ) → k ≤ current v → stays_at v k ≤ stays_at w k

pub orders_later_same : (v w : Server) → SameOrders v w → OrdersLater v w
orders_later_same v w s = record {
  there = omega (arith, ap (λ (xs : List (List Entry)). length xs) s.past);
  synced = omega (arith, s.synced);
  last = λ k low. ap last_epoch (order_same k);
  place = λ k low. ap epoch_place (order_same k);
  stays = λ k low. omega (arith, stays_same k);
}
  where
    order_same : (k : ℕ) → order_at w k ≡ order_at v k
    order_same k = ap (λ (xs : List (List Entry)). get_or (xs ++ w.order ∷ []) k []) s.past ∙ ap (λ (o : List Entry). get_or (v.past ++ o ∷ []) k []) s.order

    stays_same : (k : ℕ) → stays_at w k ≡ stays_at v k
    stays_same k =
        ap (λ (xs : List (List Entry)). if k == length xs then w.synced else epoch_place (order_at w (k + 1)) - 1) s.past
        ∙ ap (λ (n : ℕ). if k == current v then n else epoch_place (order_at w (k + 1)) - 1) s.synced
        ∙ ap (λ (es : List Entry). if k == current v then v.synced else epoch_place es - 1) (order_same (k + 1))

-- A session stays with its application server, and is told of the order that it was told of where that is this one.
abbrev pub MetKept : ℕ → Option PlainSession → Option PlainSession → Type 0
MetKept app None None = ⊤
MetKept app None (Some t) = t.app ≢ app
MetKept app (Some s) None = ⊥
MetKept app (Some s) (Some t) = (t.app ≡ s.app) × (s.app ≡ app → t.told ≡ s.told)

abbrev pub MetsKept : ℕ → Server → Server → Type 0
MetsKept app v w = (n : ℕ) → MetKept app (v.session_at n) (w.session_at n)

-- none of the sessions that were met is above the greatest one told
met_below : (app told number : ℕ) (o q : Option PlainSession) → MetKept app o q → MetBelow app told number o → MetBelow app told number q
met_below app told number o None k h = tt
met_below app told number None (Some t) k h = λ is. absurd (k is)
met_below app told number (Some s) (Some t) k h = λ is. h (sym k.0 ∙ is)

met_at : (app order : ℕ) (o q : Option PlainSession) → MetKept app o q → IsSomeAnd o (λ t. (t.app ≡ app) × (t.told ≡ order)) → IsSomeAnd q (λ t. (t.app ≡ app) × (t.told ≡ order))
met_at app order None q k h = absurd h
met_at app order (Some s) None k h = absurd k
met_at app order (Some s) (Some t) k h = (k.0 ∙ h.0, k.1 h.0 ∙ h.1)

-- the order that a session is told of
pub place_later : (v w : Server) (app : ℕ) (s t : Session) (told : Option Place) → OrdersLater v w → MetsKept app v w → t.number ≡ s.number → t.epoch ≡ s.epoch
    → ToldPlace v app s told → ToldPlace w app t told
place_later v w app s t told later mets number epoch h = record {
  order = h.order;
  its = h.its ∙ ap (λ (n : ℕ). Some (record { session = n; order = h.order })) (sym number);
  there = omega (arith, h.there, later.there);
  met = subst (λ (n : ℕ). IsSomeAnd (w.session_at n) (λ t. (t.app ≡ app) × (t.told ≡ h.order))) (sym number) (met_at app h.order (v.session_at s.number) (w.session_at s.number) (mets s.number) h.met);
  epoch = epoch ∙ h.epoch ∙ sym (later.last h.order h.there);
  stays = omega (arith, later.place h.order h.there, h.stays, later.stays h.order h.there);
  within = omega (arith, number, h.within, later.stays h.order h.there);
}

-- An end that was told nothing new knows what it knew.
pub told_later : (v w : Server) (app : ℕ) (e f : End) → OrdersLater v w → MetsKept app v w → EndKept e.state f.state → f.told ≡ e.told → AppTold v app e → AppTold w app f
told_later v w app e f later mets kept same h = record {
  synced = omega (arith, kept.told, h.synced, later.synced);
  newest = newest e.state.session f.state.session kept.session h.newest;
  met = λ number. subst (λ (n : ℕ). MetBelow app n number (w.session_at number)) (sym kept.told) (met_below app e.state.told number (v.session_at number) (w.session_at number) (mets number) (h.met number));
  place = subst (λ (p : Option Place). IfSome f.state.session (λ s. ToldPlace w app s p)) (sym same) (place e.state.session f.state.session kept.session h.place);
}
  where
    newest : (o q : Option Session) → SessionKept o q → IfSome o (λ s. s.number ≡ e.state.told) → IfSome q (λ s. s.number ≡ f.state.told)
    newest o None k h = tt
    newest None (Some t) k h = absurd k
    newest (Some s) (Some t) k h = k.0 ∙ h ∙ sym kept.told

    place : (o q : Option Session) → SessionKept o q → IfSome o (λ s. ToldPlace v app s e.told) → IfSome q (λ s. ToldPlace w app s e.told)
    place o None k h = tt
    place None (Some t) k h = absurd k
    place (Some s) (Some t) k h = place_later v w app s t e.told later mets k.0 k.1 h
