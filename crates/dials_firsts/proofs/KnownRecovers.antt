-- What is known of a Recover that a data server takes first: whose session it names, and its epoch.
use Rattle.std.proofs.Common.{◌≡◌, ◌<◌, ◌≤◌, ◌+◌, ◌-◌, ℕ, zero, suc, List, [], ◌∷◌, ◌++◌, length, take, Option, Some, None, slice_get, refl, sym, ◌∙◌}
use Rattle.std.proofs.Common.{ap, subst, arith}
use Rattle.std.specs.Prelude.{IsSomeAnd}
use Rattle.std.proofs.lemmas.List.{append_assoc, take-append-le, take_all, length-append}
use Rattle.plain_orders.specs.declared.act.Act.{Act}
use Rattle.plain_orders.specs.declared.entry.Entry.{Entry}
use Rattle.plain_orders.specs.declared.entry.Entry.TheVariants.{Epoch, Opened}
use Rattle.plain_orders.specs.declared.layout.Layout.{Layout}
use Rattle.plain_orders.specs.Entries.{entry_at, last_epoch}
use Rattle.plain_orders.specs.Ordered.{IsOrdered}
use Rattle.plain_orders.specs.Sessions.{app_in}
use Rattle.plain_orders.proofs.EntryLemmas.{last_epoch-push}
use Rattle.plain_runs.specs.Plain.{Server, Session, current, order_at, start}
use Rattle.plain_runs.specs.Run.{IsRun, state_after}
use Rattle.plain_runs.proofs.Bases.{owner_in}
use Rattle.plain_runs.proofs.MetLaws.{run_met}
use Rattle.plain_runs.proofs.MetOnce.{MetKept, meetings}
use Rattle.plain_runs.proofs.OrderLaws.{start_kept}
use Rattle.plain_runs.proofs.SeenLaw.{start_told}
use Rattle.data_rules.specs.Places.{epoch_place}
use Rattle.cluster_invariant.specs.Orders.{KeptAlike}
use Rattle.cluster_invariant.specs.Words.{stays_at}
use Rattle.cluster_invariant.proofs.OrdersStay.{front_stays, go_on, orders_agree, stays_rise}
use Rattle.cluster_invariant.proofs.PastOrders.{order_now}
use Rattle.link_kept.proofs.EpochsLast.{all_in, front_low, fronts_rise}
use Rattle.dials_server.proofs.KnownServer.{opened_stays}
use Rattle.dials_server.proofs.OpenedNodes.{opened_app}

-- an entry at its place

-- a list with an entry in it
record SplitAt (es : List Entry) (i : ℕ) (e : Entry) : Type 0 where
  before : List Entry
  behind : List Entry
  all : es ≡ before ++ e ∷ behind
  many : length before ≡ i

split_at : (es : List Entry) (i : ℕ) (e : Entry) → slice_get es i ≡ Some e → SplitAt es i e
split_at [] i e is = absurd (cc (is))
split_at (x ∷ xs) zero e is = record { before = []; behind = xs; all = ap (λ (y : Entry). y ∷ xs) (same x e is); many = refl }
  where
    same : (x y : Entry) → Some x ≡ Some y → x ≡ y
    same x y at = cc (at)
split_at (x ∷ xs) (suc i) e is = more (split_at xs i e is)
  where
    more : SplitAt xs i e → SplitAt (x ∷ xs) (suc i) e
    more s = record { before = x ∷ s.before; behind = s.behind; all = ap (λ (ys : List Entry). x ∷ ys) s.all; many = omega (arith, s.many) }

-- the session of an Open is its application server's
pub opened_here : (es : List Entry) → IsOrdered es → (n app : ℕ) → entry_at es n ≡ Some (Opened n app) → app_in es n ≡ Some app
opened_here es ordered zero app is = absurd (cc (is))
opened_here es ordered (suc i) app is = go (split_at es i (Opened (suc i) app) is)
  where
    go : SplitAt es i (Opened (suc i) app) → app_in es (suc i) ≡ Some app
    go s =
        subst (λ (xs : List Entry). app_in xs (suc i) ≡ Some app) (sym all)
        (opened_stays (s.before ++ Opened (suc i) app ∷ []) s.behind (subst IsOrdered all ordered) (suc i) app (opened_app s.before (suc i) app))
      where
        all : es ≡ (s.before ++ Opened (suc i) app ∷ []) ++ s.behind
        all = s.all ∙ sym (append_assoc s.before (Opened (suc i) app ∷ []) s.behind)

-- no Epoch in the list is above its last one
pub epoch_within : (es : List Entry) → IsOrdered es → (n number : ℕ) → entry_at es n ≡ Some (Epoch number) → number ≤ last_epoch es
epoch_within es ordered zero number is = absurd (cc (is))
epoch_within es ordered (suc i) number is = go (split_at es i (Epoch number) is)
  where
    go : SplitAt es i (Epoch number) → number ≤ last_epoch es
    go s = omega (arith, front_low es ordered (length s.before + 1), ap last_epoch front, last_epoch-push s.before (Epoch number))
      where
        shorter : take (length s.before + 1) (s.before ++ Epoch number ∷ []) ≡ s.before ++ Epoch number ∷ []
        shorter = take_all (length s.before + 1) (s.before ++ Epoch number ∷ []) (omega (arith, length-append s.before (Epoch number ∷ [])))

        front : take (length s.before + 1) es ≡ s.before ++ Epoch number ∷ []
        front =
            ap (take (length s.before + 1)) (s.all ∙ sym (append_assoc s.before (Epoch number ∷ []) s.behind))
            ∙ take-append-le (length s.before + 1) (s.before ++ Epoch number ∷ []) s.behind (omega (arith, length-append s.before (Epoch number ∷ [])))
            ∙ shorter

-- sessions that were met

-- The Open of one stands in the order.
pub met_opened : (l : Layout) (acts : List Act) (d session app : ℕ) → IsRun l acts
    → IsSomeAnd (((state_after l acts).server_at d).session_at session) (λ t. t.app ≡ app)
    → app_in ((state_after l acts).server_at d).order session ≡ Some app
met_opened l acts d session app run met =
    opened_here v.order (subst IsOrdered (order_now v) ((orders_agree l acts d run).ordered (current v) (omega arith))) session app
    (kept.stands session app (owner (v.session_at session) met))
  where
    v : Server
    v = (state_after l acts).server_at d

    kept : MetKept (meetings v)
    kept =
        run_met l start acts run start_kept (λ e. record { fresh = λ _ n. refl; placed = tt; met = λ n m. absurd (cc (m)); as_issued = tt }) (start_told l)
        (λ e. record { mine = λ n a x at en. absurd (cc (en)); stands = λ n a o. absurd (cc (o)); lost = λ n a o. absurd (cc (o)) }) d

    owner : (o : Option Session) → IsSomeAnd o (λ t. t.app ≡ app) → owner_in o ≡ Some app
    owner None none = absurd none
    owner (Some t) its = ap (λ (a : ℕ). Some a) its

-- epochs

-- An Epoch that stays is below that of each later order.
newer_at : (l : Layout) (acts : List Act) (d k j : ℕ) → IsRun l acts → k ≤ j → j + 1 ≡ current ((state_after l acts).server_at d)
    → epoch_place (order_at ((state_after l acts).server_at d) k) ≤ stays_at ((state_after l acts).server_at d) k
    → last_epoch (order_at ((state_after l acts).server_at d) k) < last_epoch ((state_after l acts).server_at d).order
newer_at l acts d k j run low next stays =
    omega (
      arith,
      all_in 0 0 0 (stays_at v k) (order_at v k) (omega arith) (omega (arith, stays)),
      ap last_epoch (front_stays l acts d k j run low (omega (arith, next))),
      fronts_rise (order_at v j) (stays_at v k) (stays_at v j) ((orders_agree l acts d run).ordered j (omega (arith, next))) rose,
      epoch_within (order_at v (j + 1)) ((orders_agree l acts d run).ordered (j + 1) (omega (arith, next))) (stays_at v j + 1)
          (last_epoch (take (stays_at v j) (order_at v j)) + 1) alike.next,
      ap (λ (i : ℕ). last_epoch (order_at v i)) next,
      ap last_epoch (order_now v),
    )
  where
    v : Server
    v = (state_after l acts).server_at d

    alike : KeptAlike v j
    alike = (orders_agree l acts d run).kept j (omega (arith, next))

    rose : stays_at v k ≤ stays_at v j
    rose =
        omega (
          arith,
          stays_rise v (go_on l acts d run) k (j - k) (omega (arith, low, next)),
          ap (stays_at v) (let same : k + (j - k) ≡ j = omega (arith, low) in same),
        )

pub newer : (l : Layout) (acts : List Act) (d k : ℕ) → IsRun l acts → k < current ((state_after l acts).server_at d)
    → epoch_place (order_at ((state_after l acts).server_at d) k) ≤ stays_at ((state_after l acts).server_at d) k
    → last_epoch (order_at ((state_after l acts).server_at d) k) < last_epoch ((state_after l acts).server_at d).order
newer l acts d k run low stays =
    newer_at l acts d k (current ((state_after l acts).server_at d) - 1) run (omega (arith, low)) (omega (arith, low)) stays
