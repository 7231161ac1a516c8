-- The Epochs that stay are among what each later start keeps.
use Rattle.std.proofs.Common.{◌≡◌, ◌≤◌, ◌<◌, ◌+◌, ◌⊎◌, ℕ, zero, suc, List, [], ◌∷◌, ◌++◌, length, take, drop, refl, sym, ◌∙◌, ap, subst, inl, inr, arith}
use Rattle.std.proofs.lemmas.Bool.{cases_lt}
use Rattle.std.proofs.lemmas.List.{take-append-le, take-take, take-append-drop, take_all, length-append}
use Rattle.plain_orders.specs.declared.act.Act.{Act}
use Rattle.plain_orders.specs.declared.entry.Entry.{Entry}
use Rattle.plain_orders.specs.declared.entry.Entry.TheVariants.{Epoch, Opened, Closed, Update, Commit, Rollback}
use Rattle.plain_orders.specs.declared.layout.Layout.{Layout}
use Rattle.plain_orders.specs.Entries.{last_epoch, epoch_from}
use Rattle.plain_orders.specs.Ordered.{IsOrdered, MayFollow}
use Rattle.plain_orders.proofs.EntryLemmas.{last_epoch-push}
use Rattle.plain_orders.proofs.OrderLemmas.{ordered_induction, ordered-front}
use Rattle.plain_runs.specs.Plain.{Server, current, order_at}
use Rattle.plain_runs.specs.Run.{IsRun, state_after}
use Rattle.data_rules.specs.Places.{epoch_place_from}
use Rattle.cluster_invariant.specs.Words.{stays_at}
use Rattle.cluster_invariant.proofs.OrdersStay.{orders_agree, stays_synced, front_stays}
use Rattle.link_kept.proofs.BeginMoves.{EpochsStay}
use Rattle.cluster_invariant.proofs.PastOrders.{order_now}

-- no Epoch is below the last one before it
rises : (es : List Entry) (e : Entry) → MayFollow es e → last_epoch es ≤ last_epoch (es ++ e ∷ [])
rises es (Epoch number) may = omega (arith, last_epoch-push es (Epoch number), may.is_next)
rises es (Opened session app) may = omega (arith, last_epoch-push es (Opened session app))
rises es (Closed session) may = omega (arith, last_epoch-push es (Closed session))
rises es (Update session w job txn op) may = omega (arith, last_epoch-push es (Update session w job txn op))
rises es (Commit session w job txn) may = omega (arith, last_epoch-push es (Commit session w job txn))
rises es (Rollback session w job txn) may = omega (arith, last_epoch-push es (Rollback session w job txn))

-- a front's last Epoch isn't above the whole list's
pub front_low : (es : List Entry) → IsOrdered es → (n : ℕ) → last_epoch (take n es) ≤ last_epoch es
front_low es ordered = ordered_induction (λ xs. (n : ℕ) → last_epoch (take n xs) ≤ last_epoch xs) (λ n. nothing n) more es ordered
  where
    none : List Entry
    none = []

    nothing : (n : ℕ) → last_epoch (take n none) ≤ last_epoch none
    nothing zero = omega arith
    nothing (suc n) = omega arith

    more : (xs : List Entry) (e : Entry) → IsOrdered xs → ((n : ℕ) → last_epoch (take n xs) ≤ last_epoch xs) → MayFollow xs e → (n : ℕ) → last_epoch (take n (xs ++ e ∷ [])) ≤ last_epoch (xs ++ e ∷ [])
    more xs e is low may n = go (cases_lt n (length xs + 1))
      where
        go : (n < length xs + 1) ⊎ (length xs + 1 ≤ n) → last_epoch (take n (xs ++ e ∷ [])) ≤ last_epoch (xs ++ e ∷ [])
        go (inl under) = omega (arith, ap last_epoch (take-append-le n xs (e ∷ []) (omega (arith, under))), low n, rises xs e may)
        go (inr over) = omega (arith, ap last_epoch (take_all n (xs ++ e ∷ []) (omega (arith, over, length-append xs (e ∷ [])))))

pub fronts_rise : (es : List Entry) (m n : ℕ) → IsOrdered es → m ≤ n → last_epoch (take m es) ≤ last_epoch (take n es)
fronts_rise es m n ordered low =
    omega (arith, front_low (take n es) (ordered-front (take n es) (drop n es) (subst IsOrdered (sym (take-append-drop n es)) ordered)) m, ap last_epoch (take-take m n es low))

-- a front that has the last Epoch's place has the last Epoch

found_low : (found k : ℕ) (es : List Entry) → found ≤ k → found ≤ epoch_place_from found k es
found_low found k [] low = omega arith
found_low found k (Epoch number ∷ es) low = omega (arith, found_low (k + 1) (k + 1) es (omega arith), low)
found_low found k (Opened session app ∷ es) low = found_low found (k + 1) es (omega (arith, low))
found_low found k (Closed session ∷ es) low = found_low found (k + 1) es (omega (arith, low))
found_low found k (Update session w job txn op ∷ es) low = found_low found (k + 1) es (omega (arith, low))
found_low found k (Commit session w job txn ∷ es) low = found_low found (k + 1) es (omega (arith, low))
found_low found k (Rollback session w job txn ∷ es) low = found_low found (k + 1) es (omega (arith, low))

-- none behind
none_behind : (found k c : ℕ) (es : List Entry) → found ≤ k → epoch_place_from found k es ≤ k → c ≡ epoch_from c es
none_behind found k c [] low place = refl
none_behind found k c (Epoch number ∷ es) low place = absurd (omega (arith, found_low (k + 1) (k + 1) es (omega arith), place))
none_behind found k c (Opened session app ∷ es) low place = none_behind found (k + 1) c es (omega (arith, low)) (omega (arith, place))
none_behind found k c (Closed session ∷ es) low place = none_behind found (k + 1) c es (omega (arith, low)) (omega (arith, place))
none_behind found k c (Update session w job txn op ∷ es) low place = none_behind found (k + 1) c es (omega (arith, low)) (omega (arith, place))
none_behind found k c (Commit session w job txn ∷ es) low place = none_behind found (k + 1) c es (omega (arith, low)) (omega (arith, place))
none_behind found k c (Rollback session w job txn ∷ es) low place = none_behind found (k + 1) c es (omega (arith, low)) (omega (arith, place))

pub all_in : (found k c n : ℕ) (es : List Entry) → found ≤ k → epoch_place_from found k es ≤ k + n → epoch_from c (take n es) ≡ epoch_from c es
all_in found k c zero es low place = none_behind found k c es low (omega (arith, place))
all_in found k c (suc n) [] low place = refl
all_in found k c (suc n) (Epoch number ∷ es) low place = all_in (k + 1) (k + 1) number n es (omega arith) (omega (arith, place))
all_in found k c (suc n) (Opened session app ∷ es) low place = all_in found (k + 1) c n es (omega (arith, low)) (omega (arith, place))
all_in found k c (suc n) (Closed session ∷ es) low place = all_in found (k + 1) c n es (omega (arith, low)) (omega (arith, place))
all_in found k c (suc n) (Update session w job txn op ∷ es) low place = all_in found (k + 1) c n es (omega (arith, low)) (omega (arith, place))
all_in found k c (suc n) (Commit session w job txn ∷ es) low place = all_in found (k + 1) c n es (omega (arith, low)) (omega (arith, place))
all_in found k c (suc n) (Rollback session w job txn ∷ es) low place = all_in found (k + 1) c n es (omega (arith, low)) (omega (arith, place))

pub epochs_stay : (l : Layout) (acts : List Act) (d kept : ℕ) → IsRun l acts → ((state_after l acts).server_at d).synced ≤ kept → EpochsStay ((state_after l acts).server_at d) kept
epochs_stay l acts d kept run low j under stays =
    omega (
      arith,
      all_in 0 0 0 (stays_at v j) (order_at v j) (omega arith) (omega (arith, stays)),
      ap last_epoch (sym (front_stays l acts d j (current v) run under (omega arith)) ∙ ap (take (stays_at v j)) (order_now v)),
      fronts_rise v.order (stays_at v j) kept (subst IsOrdered (order_now v) ((orders_agree l acts d run).ordered (current v) (omega arith))) (omega (arith, low, stays_synced l acts d j run under)),
    )
  where
    v : Server
    v = (state_after l acts).server_at d
