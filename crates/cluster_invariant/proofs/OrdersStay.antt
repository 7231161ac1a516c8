-- In each run each order goes on from the one before it, and what stays of one order stands at its place in each later one.
use Rattle.std.proofs.Common.{◌≡◌, ◌<◌, ◌≤◌, ◌+◌, ◌-◌, ◌⊎◌, ℕ, zero, suc, Bool, true, false, List, [], ◌∷◌, ◌++◌, length, take, get_or, Some, refl, sym, ◌∙◌, ap, subst, inl, inr, arith, if◌then◌else◌, ◌==◌, append-nil}
use Rattle.std.proofs.lemmas.Bool.{cases_lt, eq-eqb, ne_eqb}
use Rattle.std.proofs.lemmas.List.{get_or_append_left, get_or-append-add, take-append-le, take-take, length-take-le, length-append}
use Rattle.plain_orders.specs.declared.act.Act.{Act}
use Rattle.plain_orders.specs.declared.act.Act.TheVariants as act
use Rattle.plain_orders.specs.declared.entry.Entry.{Entry}
use Rattle.plain_orders.specs.declared.entry.Entry.TheVariants.{Epoch, Opened, Closed, Update, Commit, Rollback}
use Rattle.plain_orders.specs.declared.layout.Layout.{Layout}
use Rattle.plain_orders.specs.Entries.{entry_at, last_epoch}
use Rattle.plain_orders.proofs.Places.{entry_append, entry_last, entry_take}
use Rattle.plain_runs.specs.Plain.{Plain, Server, current, order_at, start}
use Rattle.plain_runs.specs.OrderRows.{EnterMay, CrashMay, crashed, entered, opened_with, saved}
use Rattle.plain_runs.specs.EndRows.{shut}
use Rattle.plain_runs.specs.Run.{IsRun, RunFrom, after_all, state_after}
use Rattle.plain_runs.specs.Step.{MayCome, after}
use Rattle.plain_runs.proofs.OrderLaws.{orders_kept}
use Rattle.plain_runs.proofs.Ordered.{each_is_ordered}
use Rattle.plain_runs.proofs.RunLemmas.{at_put, run_more, after_all-more}
use Rattle.data_rules.specs.Places.{epoch_place}
use Rattle.cluster_invariant.specs.Orders.{OrdersAgree}
use Rattle.cluster_invariant.specs.Words.{stays_at}
use Rattle.cluster_invariant.proofs.OrderBeside.{SameOrders, leaves_orders, row_same}
use Rattle.cluster_invariant.proofs.Written.{next_place, entered_place, closed_place}

-- the order at a place, and what stays of it
abbrev pub order_in : List (List Entry) → List Entry → ℕ → List Entry
order_in xs o k = get_or (xs ++ o ∷ []) k []

abbrev pub stays_in : List (List Entry) → List Entry → ℕ → ℕ → ℕ
stays_in xs o n k = if k == length xs then n else epoch_place (order_in xs o (k + 1)) - 1

plus_none : (k : ℕ) → k + 0 ≡ k
plus_none k = omega arith

plus_more : (k more : ℕ) → k + suc more ≡ k + more + 1
plus_more k more = omega arith

plus_rest : (k n : ℕ) → k ≤ n → k + (n - k) ≡ n
plus_rest k n low = omega (arith, low)

shorter : (n m : ℕ) (es : List Entry) → n ≤ m → take n (take m es) ≡ take n es
shorter n m es low = take-take n m es low

-- What an order and the next one have alike, and that no less stays of the next.
pub record GoesOnAt (xs : List (List Entry)) (o : List Entry) (n k : ℕ) : Type 0 where
  pub rises : stays_in xs o n k ≤ stays_in xs o n (k + 1)
  pub within : stays_in xs o n k ≤ length (order_in xs o k)
  pub front : take (stays_in xs o n k) (order_in xs o (k + 1)) ≡ take (stays_in xs o n k) (order_in xs o k)
  pub next : entry_at (order_in xs o (k + 1)) (stays_in xs o n k + 1) ≡ Some (Epoch (last_epoch (take (stays_in xs o n k) (order_in xs o k)) + 1))
  pub low : stays_in xs o n k ≤ length (order_in xs o (k + 1))

-- all orders of a server
abbrev pub GoOn : Server → Type 0
GoOn v = (k : ℕ) → k < length v.past → GoesOnAt v.past v.order v.synced k

-- the places of a list of orders

low_order : (xs : List (List Entry)) (o : List Entry) (k : ℕ) → k < length xs → order_in xs o k ≡ get_or xs k []
low_order xs o k low = get_or_append_left xs (o ∷ []) [] k low

last_order : (xs : List (List Entry)) (o : List Entry) (k : ℕ) → k ≡ length xs → order_in xs o k ≡ o
last_order xs o k same = ap (λ n. get_or (xs ++ o ∷ []) n []) (omega (arith, same)) ∙ get_or-append-add xs (o ∷ []) 0 []

now_stays : (xs : List (List Entry)) (o : List Entry) (n k : ℕ) → k ≡ length xs → stays_in xs o n k ≡ n
now_stays xs o n k same = ap (λ (b : Bool). if b then n else epoch_place (order_in xs o (k + 1)) - 1) (eq-eqb k (length xs) same)

past_stays : (xs : List (List Entry)) (o : List Entry) (n k : ℕ) → k < length xs → stays_in xs o n k ≡ epoch_place (order_in xs o (k + 1)) - 1
past_stays xs o n k low = ap (λ (b : Bool). if b then n else epoch_place (order_in xs o (k + 1)) - 1) (ne_eqb k (length xs) (λ same. absurd (omega (arith, same, low))))

-- the current order grows

grown : (xs : List (List Entry)) (o more : List Entry) (n m : ℕ) → n ≤ m → epoch_place (o ++ more) ≡ epoch_place o → (k : ℕ) → k < length xs → GoesOnAt xs o n k → GoesOnAt xs (o ++ more) m k
grown xs o more n m rose place k low g = go (cases_lt (k + 1) (length xs))
  where
    same_here : order_in xs (o ++ more) k ≡ order_in xs o k
    same_here = low_order xs (o ++ more) k low ∙ sym (low_order xs o k low)

    by : (s : ℕ) (os longer_os ps : List Entry) → order_in xs o (k + 1) ≡ os → order_in xs (o ++ more) (k + 1) ≡ longer_os → stays_in xs o n k ≡ s → stays_in xs (o ++ more) m k ≡ s → order_in xs o k ≡ ps
        → stays_in xs o n (k + 1) ≤ stays_in xs (o ++ more) m (k + 1) → (rest : List Entry) → longer_os ≡ os ++ rest → GoesOnAt xs (o ++ more) m k
    by s os longer_os ps next next_too stay stay_too here up rest longer = record {
      rises = omega (arith, stay, stay_too, g.rises, up);
      within = subst (λ i. i ≤ length (order_in xs (o ++ more) k)) (stay ∙ sym stay_too) (subst (λ (x : List Entry). stays_in xs o n k ≤ length x) (sym same_here) g.within);
      front = subst (λ i. take i (order_in xs (o ++ more) (k + 1)) ≡ take i (order_in xs (o ++ more) k)) (stay ∙ sym stay_too)
          (ap (take (stays_in xs o n k)) (next_too ∙ longer ∙ ap (λ (x : List Entry). x ++ rest) (sym next)) ∙ take-append-le (stays_in xs o n k) (order_in xs o (k + 1)) rest g.low ∙ g.front ∙ ap (take (stays_in xs o n k)) (sym same_here));
      next = subst (λ i. entry_at (order_in xs (o ++ more) (k + 1)) (i + 1) ≡ Some (Epoch (last_epoch (take i (order_in xs (o ++ more) k)) + 1))) (stay ∙ sym stay_too)
          (subst (λ (x : List Entry). entry_at (order_in xs (o ++ more) (k + 1)) (stays_in xs o n k + 1) ≡ Some (Epoch (last_epoch (take (stays_in xs o n k) x) + 1))) (sym same_here)
          (subst (λ (x : List Entry). entry_at x (stays_in xs o n k + 1) ≡ Some (Epoch (last_epoch (take (stays_in xs o n k) (order_in xs o k)) + 1))) (sym (next_too ∙ longer ∙ ap (λ (x : List Entry). x ++ rest) (sym next)))
          (entry_append (order_in xs o (k + 1)) rest _ (stays_in xs o n k + 1) g.next)));
      low = subst (λ i. i ≤ length (order_in xs (o ++ more) (k + 1))) (stay ∙ sym stay_too)
          (subst (λ (x : List Entry). stays_in xs o n k ≤ length x) (sym (next_too ∙ longer ∙ ap (λ (x : List Entry). x ++ rest) (sym next))) (omega (arith, g.low, length-append (order_in xs o (k + 1)) rest)));
    }

    go : (k + 1 < length xs) ⊎ (length xs ≤ k + 1) → GoesOnAt xs (o ++ more) m k
    go (inl under) =
        by (stays_in xs o n k) (order_in xs o (k + 1)) (order_in xs o (k + 1)) (order_in xs o k) refl same_next refl
        (past_stays xs (o ++ more) m k low ∙ ap (λ (x : List Entry). epoch_place x - 1) same_next ∙ sym (past_stays xs o n k low)) refl (above (cases_lt (k + 1 + 1) (length xs))) [] (sym (append-nil (order_in xs o (k + 1))))
      where
        same_next : order_in xs (o ++ more) (k + 1) ≡ order_in xs o (k + 1)
        same_next = low_order xs (o ++ more) (k + 1) under ∙ sym (low_order xs o (k + 1) under)

        place_next : epoch_place (order_in xs (o ++ more) (k + 1 + 1)) ≡ epoch_place (order_in xs o (k + 1 + 1)) → stays_in xs o n (k + 1) ≤ stays_in xs (o ++ more) m (k + 1)
        place_next same = omega (arith, past_stays xs (o ++ more) m (k + 1) under, past_stays xs o n (k + 1) under, ap (λ i. i - 1) same)

        above : (k + 1 + 1 < length xs) ⊎ (length xs ≤ k + 1 + 1) → stays_in xs o n (k + 1) ≤ stays_in xs (o ++ more) m (k + 1)
        above (inl far) = place_next (ap epoch_place (low_order xs (o ++ more) (k + 1 + 1) far ∙ sym (low_order xs o (k + 1 + 1) far)))
        above (inr near) = place_next (ap epoch_place (last_order xs (o ++ more) (k + 1 + 1) (omega (arith, near, under))) ∙ place ∙ ap epoch_place (sym (last_order xs o (k + 1 + 1) (omega (arith, near, under)))))
    go (inr over) =
        by (stays_in xs o n k) o (o ++ more) (order_in xs o k) (last_order xs o (k + 1) top) (last_order xs (o ++ more) (k + 1) top) refl
        (past_stays xs (o ++ more) m k low ∙ ap (λ i. i - 1) (ap epoch_place (last_order xs (o ++ more) (k + 1) top) ∙ place ∙ ap epoch_place (sym (last_order xs o (k + 1) top))) ∙ sym (past_stays xs o n k low)) refl
        (omega (arith, now_stays xs o n (k + 1) top, now_stays xs (o ++ more) m (k + 1) top, rose)) more refl
      where
        top : k + 1 ≡ length xs
        top = omega (arith, over, low)

-- a crash

-- the order that was last is a past one now
closed_order : (xs : List (List Entry)) (o p : List Entry) (k : ℕ) → k ≤ length xs → order_in (xs ++ o ∷ []) p k ≡ order_in xs o k
closed_order xs o p k low = get_or_append_left (xs ++ o ∷ []) (p ∷ []) [] k (omega (arith, low, length-append xs (o ∷ [])))

cut : (xs : List (List Entry)) (o : List Entry) (n kept : ℕ) → n ≤ kept → kept ≤ length o → ((k : ℕ) → k < length xs → GoesOnAt xs o n k) → (k : ℕ) → k < length (xs ++ o ∷ [])
    → GoesOnAt (xs ++ o ∷ []) (take kept o ++ Epoch (last_epoch (take kept o) + 1) ∷ []) kept k
cut xs o n kept no_less within goes k low = go (cases_lt k (length xs))
  where
    p : List Entry
    p = take kept o ++ Epoch (last_epoch (take kept o) + 1) ∷ []

    long : length (xs ++ o ∷ []) ≡ length xs + 1
    long = length-append xs (o ∷ [])

    front_long : length (take kept o) ≡ kept
    front_long = length-take-le kept o within

    place : epoch_place p ≡ kept + 1
    place = omega (arith, next_place (last_epoch (take kept o) + 1) 0 0 (take kept o), front_long)

    -- of a past order as much stays as before
    stay : (j : ℕ) → j < length xs → stays_in (xs ++ o ∷ []) p kept j ≡ stays_in xs o n j
    stay j under = past_stays (xs ++ o ∷ []) p kept j (omega (arith, under, long)) ∙ ap (λ (x : List Entry). epoch_place x - 1) (closed_order xs o p (j + 1) (omega (arith, under))) ∙ sym (past_stays xs o n j under)

    -- and of the last one what was kept
    last_stays : (j : ℕ) → j ≡ length xs → stays_in (xs ++ o ∷ []) p kept j ≡ kept
    last_stays j same = omega (arith, past_stays (xs ++ o ∷ []) p kept j (omega (arith, same, long)), ap epoch_place (last_order (xs ++ o ∷ []) p (j + 1) (omega (arith, same, long))), place)

    go : (k < length xs) ⊎ (length xs ≤ k) → GoesOnAt (xs ++ o ∷ []) p kept k
    go (inl under) = record {
      rises = omega (arith, (goes k under).rises, stay k under, above (cases_lt (k + 1) (length xs)));
      within = subst (λ i. i ≤ length (order_in (xs ++ o ∷ []) p k)) (sym (stay k under)) (subst (λ (x : List Entry). stays_in xs o n k ≤ length x) (sym same_here) (goes k under).within);
      front = subst (λ i. take i (order_in (xs ++ o ∷ []) p (k + 1)) ≡ take i (order_in (xs ++ o ∷ []) p k)) (sym (stay k under))
          (ap (take (stays_in xs o n k)) same_next ∙ (goes k under).front ∙ ap (take (stays_in xs o n k)) (sym same_here));
      next = subst (λ i. entry_at (order_in (xs ++ o ∷ []) p (k + 1)) (i + 1) ≡ Some (Epoch (last_epoch (take i (order_in (xs ++ o ∷ []) p k)) + 1))) (sym (stay k under))
          (subst (λ (x : List Entry). entry_at (order_in (xs ++ o ∷ []) p (k + 1)) (stays_in xs o n k + 1) ≡ Some (Epoch (last_epoch (take (stays_in xs o n k) x) + 1))) (sym same_here)
          (subst (λ (x : List Entry). entry_at x (stays_in xs o n k + 1) ≡ Some (Epoch (last_epoch (take (stays_in xs o n k) (order_in xs o k)) + 1))) (sym same_next) (goes k under).next));
      low = subst (λ i. i ≤ length (order_in (xs ++ o ∷ []) p (k + 1))) (sym (stay k under)) (subst (λ (x : List Entry). stays_in xs o n k ≤ length x) (sym same_next) (goes k under).low);
    }
      where
        same_here : order_in (xs ++ o ∷ []) p k ≡ order_in xs o k
        same_here = closed_order xs o p k (omega (arith, under))

        same_next : order_in (xs ++ o ∷ []) p (k + 1) ≡ order_in xs o (k + 1)
        same_next = closed_order xs o p (k + 1) (omega (arith, under))

        above : (k + 1 < length xs) ⊎ (length xs ≤ k + 1) → stays_in xs o n (k + 1) ≤ stays_in (xs ++ o ∷ []) p kept (k + 1)
        above (inl far) = omega (arith, stay (k + 1) far)
        above (inr near) = omega (arith, now_stays xs o n (k + 1) (omega (arith, near, under)), last_stays (k + 1) (omega (arith, near, under)), no_less)
    go (inr over) = record {
      rises = omega (arith, last_stays k top, now_stays (xs ++ o ∷ []) p kept (k + 1) (omega (arith, top, long)));
      within = subst (λ i. i ≤ length (order_in (xs ++ o ∷ []) p k)) (sym (last_stays k top)) (subst (λ (x : List Entry). kept ≤ length x) (sym here) within);
      front = subst (λ i. take i (order_in (xs ++ o ∷ []) p (k + 1)) ≡ take i (order_in (xs ++ o ∷ []) p k)) (sym (last_stays k top))
          (ap (take kept) next ∙ take-append-le kept (take kept o) _ (omega (arith, front_long)) ∙ take-take kept kept o (omega arith) ∙ ap (take kept) (sym here));
      next = subst (λ i. entry_at (order_in (xs ++ o ∷ []) p (k + 1)) (i + 1) ≡ Some (Epoch (last_epoch (take i (order_in (xs ++ o ∷ []) p k)) + 1))) (sym (last_stays k top))
          (subst (λ (x : List Entry). entry_at (order_in (xs ++ o ∷ []) p (k + 1)) (kept + 1) ≡ Some (Epoch (last_epoch (take kept x) + 1))) (sym here)
          (subst (λ (x : List Entry). entry_at x (kept + 1) ≡ Some (Epoch (last_epoch (take kept o) + 1))) (sym next) (entry_last (take kept o) (Epoch (last_epoch (take kept o) + 1)) (kept + 1) (omega (arith, front_long)))));
      low = subst (λ i. i ≤ length (order_in (xs ++ o ∷ []) p (k + 1))) (sym (last_stays k top))
          (subst (λ (x : List Entry). kept ≤ length x) (sym next) (omega (arith, front_long, length-append (take kept o) (Epoch (last_epoch (take kept o) + 1) ∷ []))));
    }
      where
        top : k ≡ length xs
        top = omega (arith, over, low, long)

        here : order_in (xs ++ o ∷ []) p k ≡ o
        here = closed_order xs o p k (omega (arith, top)) ∙ last_order xs o k top

        next : order_in (xs ++ o ∷ []) p (k + 1) ≡ p
        next = last_order (xs ++ o ∷ []) p (k + 1) (omega (arith, top, long))

-- each act

same_on : (s t : Server) → t.past ≡ s.past → t.order ≡ s.order → t.synced ≡ s.synced → GoOn s → GoOn t
same_on s t past order synced g k low =
    subst (λ (xs : List (List Entry)). GoesOnAt xs t.order t.synced k) (sym past)
    (subst (λ (o : List Entry). GoesOnAt s.past o t.synced k) (sym order)
    (subst (λ n. GoesOnAt s.past s.order n k) (sym synced) (g k (subst (λ (xs : List (List Entry)). k < length xs) past low))))

grown_on : (s t : Server) (e : Entry) → t.past ≡ s.past → t.order ≡ s.order ++ e ∷ [] → t.synced ≡ s.synced → epoch_place (s.order ++ e ∷ []) ≡ epoch_place s.order → GoOn s → GoOn t
grown_on s t e past order synced place g k low =
    subst (λ (xs : List (List Entry)). GoesOnAt xs t.order t.synced k) (sym past)
    (subst (λ (o : List Entry). GoesOnAt s.past o t.synced k) (sym order)
    (subst (λ n. GoesOnAt s.past (s.order ++ e ∷ []) n k) (sym synced)
    (grown s.past s.order (e ∷ []) s.synced s.synced (omega arith) place k low_too (g k low_too))))
  where
    low_too : k < length s.past
    low_too = subst (λ (xs : List (List Entry)). k < length xs) past low

-- what an act makes of one server
abbrev OnGoes : Server → Server → Type 0
OnGoes s t = ((s.opened ≡ false → s.past ≡ []) × GoOn s) → GoOn t

enters_on : (l : Layout) (clock : ℕ) (s : Server) (e : Entry) → EnterMay l clock s e → OnGoes s (entered s e)
enters_on l clock s (Epoch number) may g = absurd may
enters_on l clock s (Opened session app) may g = grown_on s (entered s (Opened session app)) (Opened session app) refl refl refl (entered_place (Opened session app) tt 0 0 s.order) g.1
enters_on l clock s (Closed session) may g = absurd may
enters_on l clock s (Update session w job txn op) may g = grown_on s (entered s (Update session w job txn op)) (Update session w job txn op) refl refl refl (entered_place (Update session w job txn op) tt 0 0 s.order) g.1
enters_on l clock s (Commit session w job txn) may g = grown_on s (entered s (Commit session w job txn)) (Commit session w job txn) refl refl refl (entered_place (Commit session w job txn) tt 0 0 s.order) g.1
enters_on l clock s (Rollback session w job txn) may g = grown_on s (entered s (Rollback session w job txn)) (Rollback session w job txn) refl refl refl (entered_place (Rollback session w job txn) tt 0 0 s.order) g.1

same_goes : (s : Server) → OnGoes s s
same_goes s g = g.1

by_row : (l : Layout) (p : Plain) (a : Act) → leaves_orders a ≡ true → (d : ℕ) → OnGoes (p.server_at d) ((after l p a).server_at d)
by_row l p a leaves d g = go (row_same l p a leaves d)
  where
    go : SameOrders (p.server_at d) ((after l p a).server_at d) → GoOn ((after l p a).server_at d)
    go s = same_on (p.server_at d) ((after l p a).server_at d) s.past s.order s.synced g.1

opened_on : (s t : Server) → s.opened ≡ false → t.past ≡ s.past → OnGoes s t
opened_on s t shut past g k low = absurd (omega (arith, subst (λ (xs : List (List Entry)). k < length xs) (past ∙ g.0 shut) low))

synced_on : (s t : Server) → t.past ≡ s.past → t.order ≡ s.order → s.synced ≤ t.synced → OnGoes s t
synced_on s t past order rose g k low =
    subst (λ (xs : List (List Entry)). GoesOnAt xs t.order t.synced k) (sym past)
    (subst (λ (o : List Entry). GoesOnAt s.past o t.synced k) (append-nil s.order ∙ sym order)
    (grown s.past s.order [] s.synced t.synced rose (ap epoch_place (append-nil s.order)) k low_too (g.1 k low_too)))
  where
    low_too : k < length s.past
    low_too = subst (λ (xs : List (List Entry)). k < length xs) past low

shut_on : (s t : Server) (session : ℕ) → t.past ≡ s.past → t.order ≡ s.order ++ Closed session ∷ [] → t.synced ≡ s.synced → OnGoes s t
shut_on s t session past order synced g = grown_on s t (Closed session) past order synced (closed_place session 0 0 s.order) g.1

crash_on : (clock round : ℕ) (s : Server) (kept : ℕ) → CrashMay s kept → OnGoes s (crashed clock round s kept)
crash_on clock round s kept may g k low = cut s.past s.order s.synced kept may.no_less may.within g.1 k low

row_on : (l : Layout) (p : Plain) (a : Act) → MayCome l p a → (d : ℕ) → OnGoes (p.server_at d) ((after l p a).server_at d)
row_on l p (act.Opened e entries) may d = at_put OnGoes p.server_at e _ same_goes (opened_on (p.server_at e) (opened_with p.clock l.times.round (p.server_at e) entries) may.fresh refl) d
row_on l p (act.Enter e entry) may d = at_put OnGoes p.server_at e _ same_goes (enters_on l p.clock (p.server_at e) entry may) d
row_on l p (act.Synced e n) may d = at_put OnGoes p.server_at e _ same_goes (synced_on (p.server_at e) (saved (p.server_at e) n) refl refl may.no_less) d
row_on l p (act.Shut e session cause) may d = at_put OnGoes p.server_at e _ same_goes (shut_on (p.server_at e) (shut (p.server_at e) session) session refl refl refl) d
row_on l p (act.Crash e kept) may d = at_put OnGoes p.server_at e _ same_goes (crash_on p.clock l.times.round (p.server_at e) kept may) d
row_on l p (act.Release e session) may d = by_row l p (act.Release e session) refl d
row_on l p (act.Met app e session) may d = by_row l p (act.Met app e session) refl d
row_on l p (act.Told app e session epoch kept) may d = by_row l p (act.Told app e session epoch kept) refl d
row_on l p (act.Back e) may d = by_row l p (act.Back e) refl d
row_on l p (act.Issue job line e w item) may d = by_row l p (act.Issue job line e w item) refl d
row_on l p (act.Read job line e at via question) may d = by_row l p (act.Read job line e at via question) refl d
row_on l p (act.Grant e session job mode key at) may d = by_row l p (act.Grant e session job mode key at) refl d
row_on l p (act.Granted job line e at) may d = by_row l p (act.Granted job line e at) refl d
row_on l p (act.GiveUp job line e mode key) may d = by_row l p (act.GiveUp job line e mode key) refl d
row_on l p (act.Quit job line e mode key) may d = by_row l p (act.Quit job line e mode key) refl d
row_on l p (act.Free e session job mode key) may d = by_row l p (act.Free e session job mode key) refl d
row_on l p (act.Counted job line e at sum) may d = by_row l p (act.Counted job line e at sum) refl d
row_on l p (act.NotWhole job line e at) may d = by_row l p (act.NotWhole job line e at) refl d
row_on l p (act.Range job line e at) may d = by_row l p (act.Range job line e at) refl d
row_on l p (act.Committed job line e at) may d = by_row l p (act.Committed job line e at) refl d
row_on l p (act.RolledBack job line e at) may d = by_row l p (act.RolledBack job line e at) refl d
row_on l p (act.Reached job line e at) may d = by_row l p (act.Reached job line e at) refl d
row_on l p (act.Level job line level) may d = by_row l p (act.Level job line level) refl d
row_on l p (act.Done job line) may d = by_row l p (act.Done job line) refl d
row_on l p (act.Refused job line refusal) may d = by_row l p (act.Refused job line refusal) refl d
row_on l p (act.Broke app e end time) may d = by_row l p (act.Broke app e end time) refl d
row_on l p (act.Mended app e) may d = by_row l p (act.Mended app e) refl d
row_on l p (act.Tick time) may d = by_row l p (act.Tick time) refl d
row_on l p (act.Lose app e loss) may d = by_row l p (act.Lose app e loss) refl d
row_on l p (act.Died app) may d = by_row l p (act.Died app) refl d

run_on : (l : Layout) (before acts : List Act) → IsRun l before → RunFrom l (state_after l before) acts → ((d : ℕ) → GoOn ((state_after l before).server_at d)) → (d : ℕ) → GoOn ((after_all l (state_after l before) acts).server_at d)
run_on l before [] run more g d = g d
run_on l before (a ∷ acts) run more g d =
    subst (λ (q : Plain). GoOn ((after_all l q acts).server_at d)) (after_all-more l start before a)
    (run_on l (before ++ a ∷ []) acts (run_more l start before a run more.0) (subst (λ (q : Plain). RunFrom l q acts) (sym (after_all-more l start before a)) more.1)
    (λ e. subst (λ (q : Plain). GoOn (q.server_at e)) (sym (after_all-more l start before a)) (row_on l (state_after l before) a more.0 e (λ shut. ((orders_kept l before e run).fresh shut).1, g e))) d)

pub go_on : (l : Layout) (acts : List Act) (d : ℕ) → IsRun l acts → GoOn ((state_after l acts).server_at d)
go_on l acts d run = run_on l [] acts tt run (λ e k low. absurd (omega (arith, low))) d

-- Each order is an ordered list, and goes on from the one before it.
pub orders_agree : (l : Layout) (acts : List Act) (d : ℕ) → IsRun l acts → OrdersAgree ((state_after l acts).server_at d)
orders_agree l acts d run = record {
  ordered = λ k low. each_is_ordered l acts d k run;
  within = (orders_kept l acts d run).within;
  kept = λ k low. let g = go_on l acts d run k low in record { within = g.within; front = g.front; next = g.next };
}

-- no more stays of an order than of a later one

pub stays_rise : (v : Server) → GoOn v → (k more : ℕ) → k + more ≤ length v.past → stays_at v k ≤ stays_at v (k + more)
stays_rise v g k zero low = omega (arith, ap (stays_at v) (plus_none k))
stays_rise v g k (suc more) low = omega (arith, stays_rise v g k more (omega (arith, low)), (g (k + more) (omega (arith, low))).rises, ap (stays_at v) (plus_more k more))

pub what_stays_rises : (l : Layout) (acts : List Act) (d k j : ℕ) → IsRun l acts → k ≤ j → j ≤ current ((state_after l acts).server_at d)
    → stays_at ((state_after l acts).server_at d) k ≤ stays_at ((state_after l acts).server_at d) j
what_stays_rises l acts d k j run later low = go ((state_after l acts).server_at d) (go_on l acts d run) low
  where
    go : (v : Server) → GoOn v → j ≤ length v.past → stays_at v k ≤ stays_at v j
    go v g low = omega (arith, stays_rise v g k (j - k) (omega (arith, low, later)), ap (stays_at v) (plus_rest k j later))

-- What stays of an order is synced.
pub stays_synced : (l : Layout) (acts : List Act) (d k : ℕ) → IsRun l acts → k ≤ current ((state_after l acts).server_at d) → stays_at ((state_after l acts).server_at d) k ≤ ((state_after l acts).server_at d).synced
stays_synced l acts d k run low = go ((state_after l acts).server_at d) (go_on l acts d run) low
  where
    go : (v : Server) → GoOn v → k ≤ length v.past → stays_at v k ≤ v.synced
    go v g low = omega (arith, stays_rise v g k (length v.past - k) (omega (arith, low)), ap (stays_at v) (plus_rest k (length v.past) low), now_stays v.past v.order v.synced (length v.past) refl)

fronts_stay : (v : Server) → GoOn v → (k more : ℕ) → k + more ≤ length v.past → take (stays_at v k) (order_at v (k + more)) ≡ take (stays_at v k) (order_at v k)
fronts_stay v g k zero low = ap (λ j. take (stays_at v k) (order_at v j)) (plus_none k)
fronts_stay v g k (suc more) low =
    ap (λ j. take (stays_at v k) (order_at v j)) (plus_more k more)
    ∙ sym (shorter (stays_at v k) (stays_at v (k + more)) (order_at v (k + more + 1)) (stays_rise v g k more (omega (arith, low))))
    ∙ ap (take (stays_at v k)) (g (k + more) (omega (arith, low))).front
    ∙ shorter (stays_at v k) (stays_at v (k + more)) (order_at v (k + more)) (stays_rise v g k more (omega (arith, low)))
    ∙ fronts_stay v g k more (omega (arith, low))

-- What stays of an order stands in each later one.
pub front_stays : (l : Layout) (acts : List Act) (d k j : ℕ) → IsRun l acts → k ≤ j → j ≤ current ((state_after l acts).server_at d)
    → take (stays_at ((state_after l acts).server_at d) k) (order_at ((state_after l acts).server_at d) j) ≡ take (stays_at ((state_after l acts).server_at d) k) (order_at ((state_after l acts).server_at d) k)
front_stays l acts d k j run later low = go ((state_after l acts).server_at d) (go_on l acts d run) low
  where
    go : (v : Server) → GoOn v → j ≤ length v.past → take (stays_at v k) (order_at v j) ≡ take (stays_at v k) (order_at v k)
    go v g low = ap (λ n. take (stays_at v k) (order_at v n)) (sym (plus_rest k j later)) ∙ fronts_stay v g k (j - k) (omega (arith, low, later))

pub entry_stays : (l : Layout) (acts : List Act) (d k j n : ℕ) (e : Entry) → IsRun l acts → k ≤ j → j ≤ current ((state_after l acts).server_at d) → n ≤ stays_at ((state_after l acts).server_at d) k
    → entry_at (order_at ((state_after l acts).server_at d) k) n ≡ Some e → entry_at (order_at ((state_after l acts).server_at d) j) n ≡ Some e
entry_stays l acts d k j n e run later low stays there =
    sym (entry_take (stays_at ((state_after l acts).server_at d) k) (order_at ((state_after l acts).server_at d) j) n stays)
    ∙ ap (λ (x : List Entry). entry_at x n) (front_stays l acts d k j run later low)
    ∙ entry_take (stays_at ((state_after l acts).server_at d) k) (order_at ((state_after l acts).server_at d) k) n stays ∙ there
