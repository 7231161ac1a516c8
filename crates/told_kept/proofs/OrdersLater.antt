-- Where the orders of a plain server go on by entries that are no Epochs, or by a start, each keeps its Epoch, and no less of it stays.
use Rattle.std.proofs.Common.{◌≡◌, ◌≤◌, ◌+◌, ◌-◌, ℕ, zero, suc, Bool, true, false, List, [], ◌∷◌, ◌++◌, length, get_or, refl, sym, ◌∙◌, ap, subst, arith, if◌then◌else◌, ◌==◌}
use Rattle.std.specs.List.{AllByRecursion}
use Rattle.plain_orders.specs.declared.entry.Entry.{Entry}
use Rattle.plain_orders.specs.declared.entry.Entry.TheVariants.{Epoch, Opened, Closed, Update, Commit, Rollback}
use Rattle.plain_orders.specs.Entries.{epoch_from, last_epoch}
use Rattle.plain_runs.specs.Plain.{Server, current, order_at}
use Rattle.plain_runs.specs.OrderRows.{crashed}
use Rattle.data_rules.specs.Places.{epoch_place}
use Rattle.cluster_invariant.specs.Words.{stays_at}
use Rattle.cluster_invariant.proofs.Deeds.{Deed, Enters, Closes, Releases, ComesBack, Grants, Frees, Breaks, DeedIs, IsEntered, order_by, order_with}
use Rattle.cluster_invariant.proofs.PastOrders.{crashed_current, crashed_order, crashed_stays}
use Rattle.told_kept.proofs.ToldStays.{OrdersLater}

-- the last Epoch of an order that goes on by deeds

entered_epoch : (e : Entry) → IsEntered e → (n : ℕ) (es : List Entry) → epoch_from n (es ++ e ∷ []) ≡ epoch_from n es
entered_epoch (Epoch number) may n [] = absurd may
entered_epoch (Opened session app) may n [] = refl
entered_epoch (Closed session) may n [] = absurd may
entered_epoch (Update session w job txn op) may n [] = refl
entered_epoch (Commit session w job txn) may n [] = refl
entered_epoch (Rollback session w job txn) may n [] = refl
entered_epoch e may n (x ∷ es) = entered_epoch e may _ es

closed_epoch : (s n : ℕ) (es : List Entry) → epoch_from n (es ++ Closed s ∷ []) ≡ epoch_from n es
closed_epoch s n [] = refl
closed_epoch s n (x ∷ es) = closed_epoch s _ es

one_epoch : (x : Deed) (es : List Entry) → DeedIs x → last_epoch (order_with x es) ≡ last_epoch es
one_epoch (Enters e) es may = entered_epoch e may 0 es
one_epoch (Closes s cause) es may = closed_epoch s 0 es
one_epoch (Releases s) es may = refl
one_epoch ComesBack es may = refl
one_epoch (Grants s j m key at) es may = refl
one_epoch (Frees s j m key) es may = refl
one_epoch (Breaks app now) es may = refl

pub epoch_kept : (ds : List Deed) (es : List Entry) → AllByRecursion DeedIs ds → last_epoch (order_by ds es) ≡ last_epoch es
epoch_kept [] es may = refl
epoch_kept (x ∷ xs) es may = epoch_kept xs (order_with x es) may.1 ∙ one_epoch x es may.0

-- what the last orders have alike all have alike
all_alike : (F : List Entry → ℕ) (xs : List (List Entry)) (o p : List Entry) → F p ≡ F o → (k : ℕ) → F (get_or (xs ++ p ∷ []) k []) ≡ F (get_or (xs ++ o ∷ []) k [])
all_alike F [] o p same zero = same
all_alike F [] o p same (suc k) = refl
all_alike F (x ∷ xs) o p same zero = refl
all_alike F (x ∷ xs) o p same (suc k) = all_alike F xs o p same k

-- The last order goes on, and more of it is synced.
pub grown_later : (v w : Server) → w.past ≡ v.past → last_epoch w.order ≡ last_epoch v.order → epoch_place w.order ≡ epoch_place v.order → v.synced ≤ w.synced → OrdersLater v w
grown_later v w past epoch place more = record {
  there = omega (arith, ap (λ (xs : List (List Entry)). length xs) past);
  synced = more;
  last = λ k low. alike last_epoch epoch k;
  place = λ k low. alike epoch_place place k;
  stays = λ k low. subst (λ (xs : List (List Entry)). stays_at v k ≤ (if k == length xs then w.synced else epoch_place (order_at w (k + 1)) - 1)) (sym past) (go k (k == current v));
}
  where
    alike : (F : List Entry → ℕ) → F w.order ≡ F v.order → (k : ℕ) → F (order_at w k) ≡ F (order_at v k)
    alike F same k = ap (λ (xs : List (List Entry)). F (get_or (xs ++ w.order ∷ []) k [])) past ∙ all_alike F v.past v.order w.order same k

    go : (k : ℕ) (b : Bool) → (if b then v.synced else epoch_place (order_at v (k + 1)) - 1) ≤ (if b then w.synced else epoch_place (order_at w (k + 1)) - 1)
    go k true = more
    go k false = omega (arith, alike epoch_place place (k + 1))

-- A start: a new order behind the others, with all that was synced.

pub crashed_later : (v : Server) (clock round kept : ℕ) → v.synced ≤ kept → kept ≤ length v.order → OrdersLater v (crashed clock round v kept)
crashed_later v clock round kept low within = record {
  there = omega (arith, crashed_current v clock round kept);
  synced = low;
  last = λ k under. ap last_epoch (crashed_order v clock round kept k under);
  place = λ k under. ap epoch_place (crashed_order v clock round kept k under);
  stays = λ k under. crashed_stays v clock round kept k low within under;
}
