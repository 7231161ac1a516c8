-- The orders of a plain server by their places, and a start, which leaves them and adds one.
use Rattle.std.proofs.Common.{◌≡◌, ◌≢◌, ◌≤◌, ◌<◌, ℕ, ◌+◌, ◌-◌, Bool, true, false, if◌then◌else◌, List, [], ◌∷◌, ◌++◌, length, take, refl, sym, ◌∙◌, ap, subst, arith, ◌==◌}
use Rattle.std.specs.Prelude.{get_or}
use Rattle.std.proofs.lemmas.Bool.{eqb-true, eq-eqb, ne_eqb, false≢true}
use Rattle.std.proofs.lemmas.List.{length-append, length-take-le, get_or_append_left, get_or-append-add}
use Rattle.plain_orders.specs.declared.entry.Entry.{Entry}
use Rattle.plain_orders.specs.declared.entry.Entry.TheVariants.{Epoch}
use Rattle.plain_orders.specs.Entries.{last_epoch}
use Rattle.plain_runs.specs.Plain.{Server, current, order_at}
use Rattle.plain_runs.specs.OrderRows.{crashed}
use Rattle.data_rules.specs.Places.{epoch_place}
use Rattle.cluster_invariant.specs.Orders.{OrdersAgree}
use Rattle.cluster_invariant.specs.Words.{stays_at}
use Rattle.cluster_invariant.proofs.Written.{next_place}

-- the current order is the last one
pub order_now : (v : Server) → order_at v (current v) ≡ v.order
order_now v = ap (λ (n : ℕ). get_or (v.past ++ v.order ∷ []) n []) (omega arith) ∙ get_or-append-add v.past (v.order ∷ []) 0 []

-- what stays of an order before it, and of it
pub past_stays : (v : Server) (k : ℕ) → k ≢ current v → stays_at v k ≡ epoch_place (order_at v (k + 1)) - 1
past_stays v k other = ap (λ (b : Bool). if b then v.synced else epoch_place (order_at v (k + 1)) - 1) (ne_eqb k (current v) other)

pub now_stays : (v : Server) → stays_at v (current v) ≡ v.synced
now_stays v = ap (λ (b : Bool). if b then v.synced else epoch_place (order_at v (current v + 1)) - 1) (eq-eqb (current v) (current v) refl)

-- an order is the current one or before it
pub now_or_past : (v : Server) (k : ℕ) (P : Type 0) → k ≤ current v → (k ≡ current v → P) → (k < current v → P) → P
now_or_past v k P low now past = go (k == current v) refl
  where
    below : k ≢ current v → k < current v
    below apart = omega (arith, low, apart)

    go : (b : Bool) → (k == current v) ≡ b → P
    go true same = now (eqb-true k (current v) same)
    go false other = past (below (λ same. false≢true (sym other ∙ eq-eqb k (current v) same)))

-- what of an order stays is in it
pub stays_within : (v : Server) → OrdersAgree v → (k : ℕ) → k ≤ current v → stays_at v k ≤ length (order_at v k)
stays_within v agree k low =
    now_or_past v k (stays_at v k ≤ length (order_at v k)) low
    (λ same. subst (λ (n : ℕ). stays_at v n ≤ length (order_at v n)) (sym same) (omega (arith, now_stays v, agree.within, ap (λ (es : List Entry). length es) (order_now v))))
    (λ under. (agree.kept k under).within)

-- a start behind so many entries

pub crashed_order : (v : Server) (clock round kept k : ℕ) → k ≤ current v → order_at (crashed clock round v kept) k ≡ order_at v k
crashed_order v clock round kept k low =
    get_or_append_left (v.past ++ v.order ∷ []) ((take kept v.order ++ Epoch (last_epoch (take kept v.order) + 1) ∷ []) ∷ []) [] k
    (omega (arith, low, length-append v.past (v.order ∷ [])))

pub crashed_current : (v : Server) (clock round kept : ℕ) → current (crashed clock round v kept) ≡ current v + 1
crashed_current v clock round kept = omega (arith, length-append v.past (v.order ∷ []))

pub crashed_newest : (v : Server) (clock round kept : ℕ) → order_at (crashed clock round v kept) (current v + 1) ≡ take kept v.order ++ Epoch (last_epoch (take kept v.order) + 1) ∷ []
crashed_newest v clock round kept = ap (order_at (crashed clock round v kept)) (sym (crashed_current v clock round kept)) ∙ order_now (crashed clock round v kept)

crashed_past : (v : Server) (clock round kept k : ℕ) → k ≤ current v → stays_at (crashed clock round v kept) k ≡ epoch_place (order_at (crashed clock round v kept) (k + 1)) - 1
crashed_past v clock round kept k under = past_stays (crashed clock round v kept) k (λ same. absurd (omega (arith, under, same, crashed_current v clock round kept)))

-- of an earlier order as much stays as before
pub crashed_left : (v : Server) (clock round kept k : ℕ) → k < current v → stays_at (crashed clock round v kept) k ≡ stays_at v k
crashed_left v clock round kept k under =
    crashed_past v clock round kept k (omega (arith, under))
    ∙ ap (λ (es : List Entry). epoch_place es - 1) (crashed_order v clock round kept (k + 1) (omega (arith, under)))
    ∙ sym (past_stays v k (λ same. absurd (omega (arith, same, under))))

-- and of the last one what was kept
pub crashed_kept : (v : Server) (clock round kept : ℕ) → kept ≤ length v.order → stays_at (crashed clock round v kept) (current v) ≡ kept
crashed_kept v clock round kept within =
    crashed_past v clock round kept (current v) (omega arith) ∙ ap (λ (es : List Entry). epoch_place es - 1) (crashed_newest v clock round kept)
    ∙ omega (arith, next_place (last_epoch (take kept v.order) + 1) 0 0 (take kept v.order), length-take-le kept v.order within)

-- so none of what stayed goes
pub crashed_stays : (v : Server) (clock round kept k : ℕ) → v.synced ≤ kept → kept ≤ length v.order → k ≤ current v → stays_at v k ≤ stays_at (crashed clock round v kept) k
crashed_stays v clock round kept k low within under =
    now_or_past v k (stays_at v k ≤ stays_at (crashed clock round v kept) k) under
    (λ same. subst (λ (n : ℕ). stays_at v n ≤ stays_at (crashed clock round v kept) n) (sym same) (omega (arith, now_stays v, crashed_kept v clock round kept within, low)))
    (λ past. omega (arith, crashed_left v clock round kept k past))
