-- A plain server later: each order that was there goes on, and more of it stays.
use Rattle.std.proofs.Common.{◌≡◌, ◌≤◌, ◌<◌, ◌⊎◌, ℕ, false, List, [], ◌∷◌, ◌++◌, length, take, Some, None, refl, sym, ◌∙◌, ap, subst, arith}
use Rattle.std.proofs.lemmas.List.{take-append-le, append_assoc, append-nil, length-append}
use Rattle.plain_orders.specs.declared.entry.Entry.{Entry}
use Rattle.plain_orders.specs.Entries.{count, last_epoch}
use Rattle.plain_orders.specs.Sessions.{place_of_epoch}
use Rattle.plain_orders.proofs.Places.{placed_more, counts_rise}
use Rattle.plain_runs.specs.Plain.{Server, current, order_at}
use Rattle.ecp_messages.specs.declared.front.Front.{Front}
use Rattle.data_rules.specs.Places.{epoch_place}
use Rattle.cluster_runs.specs.Machine.{Site}
use Rattle.cluster_invariant.specs.Coherence.{IsHeader}
use Rattle.cluster_invariant.specs.Words.{IsFront, stays_at}

-- lists that go on

pub front_same : {X : Type 0} (xs : List X) → IsFront xs xs
front_same xs = ([], sym (append-nil xs))

pub front_then : {X : Type 0} (xs ys zs : List X) → IsFront xs ys → IsFront ys zs → IsFront xs zs
front_then xs ys zs a b = (a.0 ++ b.0, b.1 ∙ ap (λ (l : List _). l ++ b.0) a.1 ∙ append_assoc xs a.0 b.0)

-- a count goes on where what is counted does
pub counts_front : (es fs : List Entry) (n m s : ℕ) → IsFront es fs → n ≤ length es → n ≤ m → count (take n es) s ≤ count (take m fs) s
counts_front es fs n m s front within low =
    subst (λ (xs : List Entry). count (take n es) s ≤ count (take m xs) s) (sym front.1)
    (subst (λ (xs : List Entry). count xs s ≤ count (take m (es ++ front.0)) s) (take-append-le n es front.0 within)
    (counts_rise 0 n m (es ++ front.0) s low))

-- a header stays one
pub header_later : (es fs : List Entry) (a b s : ℕ) (f : Front) → IsFront es fs → a ≤ length es → a ≤ b → IsHeader es a s f → IsHeader fs b s f
header_later es fs a b s f front within low h =
    subst (λ (xs : List Entry). IsHeader xs b s f) (sym front.1) (record {
      within = omega (arith, h.within, length-append es front.0);
      counted = h.counted ∙ ap (λ (xs : List Entry). count xs s) (sym (take-append-le f.n es front.0 h.within));
      synced = omega (arith, h.synced, counts_front es (es ++ front.0) a b s (front.0, refl) within low);
      below = h.below;
    })

place_append : (n c : ℕ) (es fs : List Entry) (k : ℕ) → place_of_epoch n c es ≡ Some k → place_of_epoch n c (es ++ fs) ≡ Some k
place_append n c es [] k is = subst (λ (xs : List Entry). place_of_epoch n c xs ≡ Some k) (sym (append-nil es)) is
place_append n c es (f ∷ fs) k is =
    subst (λ (xs : List Entry). place_of_epoch n c xs ≡ Some k) (append_assoc es (f ∷ []) fs)
    (place_append n c (es ++ f ∷ []) fs k (placed_more n c es f k is))

-- the first Epoch above a number is where it was
pub place_later : (n : ℕ) (es fs : List Entry) (k : ℕ) → IsFront es fs → place_of_epoch n 0 es ≡ Some k → place_of_epoch n 0 fs ≡ Some k
place_later n es fs k front is = subst (λ (xs : List Entry). place_of_epoch n 0 xs ≡ Some k) (sym front.1) (place_append n 0 es front.0 k is)

-- What was entered for an application server in an order that goes on is known still.
pub record EnteredStays (app : ℕ) (v w : Server) : Type 0 where
  pub known : (s k j : ℕ) → k ≤ current v → (s ≤ stays_at v k) ⊎ (s ≤ length (order_at v (current v)))
      → v.entered_at s ≡ Some (record { app = app; in_order = j; lost_since = false })
      → w.entered_at s ≡ Some (record { app = app; in_order = j; lost_since = false })
  -- and is met no sooner
  pub met : (s j : ℕ) → v.entered_at s ≡ Some (record { app = app; in_order = j; lost_since = false }) → v.session_at s ≡ None → w.session_at s ≡ None

-- where nothing more is
pub entered_same : (app : ℕ) (v w : Server) → ((s : ℕ) → w.entered_at s ≡ v.entered_at s) → ((s : ℕ) → w.session_at s ≡ v.session_at s) → EnteredStays app v w
entered_same app v w same mets = record { known = λ s k j low why is. same s ∙ is; met = λ s j known none. mets s ∙ none }

-- What a data server's moves make of the plain server: of a session whose application server didn't learn of an order nothing more counts
-- in it.
pub record Later (x : Site) (v w : Server) : Type 0 where
  pub there : current v ≤ current w
  pub goes_on : (k : ℕ) → k ≤ current v → IsFront (order_at v k) (order_at w k)
  pub within : (k : ℕ) → k ≤ current v → stays_at v k ≤ length (order_at v k)
  pub stays : (k : ℕ) → k ≤ current v → stays_at v k ≤ stays_at w k
  pub left : (k : ℕ) → k < current v → stays_at w k ≡ stays_at v k
  pub last : (k : ℕ) → k ≤ current v → last_epoch (order_at w k) ≡ last_epoch (order_at v k)
  pub place : (k : ℕ) → k ≤ current v → epoch_place (order_at w k) ≡ epoch_place (order_at v k)
  -- an order to come has a later Epoch than one whose Epoch stays
  pub newer : (i j : ℕ) → j ≤ current v → current v < i → i ≤ current w → epoch_place (order_at v j) ≤ stays_at v j
      → last_epoch (order_at v j) < last_epoch (order_at w i)
  pub counts : (s k : ℕ) → k ≤ current v → (x.lane_at s k).began ≡ None → count (order_at w k) s ≡ count (order_at v k) s
