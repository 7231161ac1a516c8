-- What deeds of a data server make of the plain machine.
use Rattle.std.proofs.Common.{◌≡◌, ◌≢◌, ℕ, ◌+◌, true, List, [], ◌∷◌, ◌++◌, map, length, refl, sym, ◌∙◌, ap, subst, arith}
use Rattle.std.specs.List.{AllByRecursion}
use Rattle.plain_orders.specs.declared.act.Act.{Act}
use Rattle.plain_orders.specs.declared.entry.Entry.{Entry}
use Rattle.plain_orders.specs.declared.entry.Entry.TheVariants.{Epoch, Opened, Closed, Update, Commit, Rollback}
use Rattle.plain_orders.specs.declared.layout.Layout.{Layout}
use Rattle.plain_runs.specs.Plain.{Plain, Server, with_server}
use Rattle.plain_runs.specs.OrderRows.{entered}
use Rattle.plain_runs.specs.Step.{after}
use Rattle.plain_runs.specs.Run.{after_all}
use Rattle.data_rules.specs.Places.{epoch_place, epoch_place_from}
use Rattle.cluster_runs.specs.Steps.{is_raised, raised}
use Rattle.cluster_invariant.proofs.Small.{put_same, put_other}
use Rattle.cluster_invariant.proofs.Deeds.{Deed, Enters, Closes, Releases, ComesBack, Grants, Frees, Breaks, act_of, DeedIs, IsEntered, order_with, order_by}

-- a plain server after deeds
pub record GoesOn (ds : List Deed) (s t : Server) : Type 0 where
  pub opened : t.opened ≡ s.opened
  pub past : t.past ≡ s.past
  pub order : t.order ≡ order_by ds s.order
  pub synced : t.synced ≡ s.synced

-- the plain machine after deeds of one server
pub record Wrote (d : ℕ) (ds : List Deed) (p q : Plain) : Type 0 where
  pub here : GoesOn ds (p.server_at d) (q.server_at d)
  pub others : (e : ℕ) → e ≢ d → q.server_at e ≡ p.server_at e
  pub clock : q.clock ≡ p.clock
  pub died : (app : ℕ) → q.died_at app ≡ p.died_at app

enters_on : (s : Server) (e : Entry) → IsEntered e → GoesOn (Enters e ∷ []) s (entered s e)
enters_on s (Epoch number) may = absurd may
enters_on s (Opened session app) may = record { opened = refl; past = refl; order = refl; synced = refl }
enters_on s (Closed session) may = absurd may
enters_on s (Update session w job txn op) may = record { opened = refl; past = refl; order = refl; synced = refl }
enters_on s (Commit session w job txn) may = record { opened = refl; past = refl; order = refl; synced = refl }
enters_on s (Rollback session w job txn) may = record { opened = refl; past = refl; order = refl; synced = refl }

-- where one server is changed
at_server : (ds : List Deed) (p : Plain) (d : ℕ) (t : Server) → GoesOn ds (p.server_at d) t → GoesOn ds (p.server_at d) ((with_server p d t).server_at d)
at_server ds p d t goes = subst (λ (s : Server). GoesOn ds (p.server_at d) s) (sym (put_same p.server_at d t)) goes

one_on : (l : Layout) (p : Plain) (d : ℕ) (x : Deed) → DeedIs x → GoesOn (x ∷ []) (p.server_at d) ((after l p (act_of d x)).server_at d)
one_on l p d (Enters e) may = at_server (Enters e ∷ []) p d (entered (p.server_at d) e) (enters_on (p.server_at d) e may)
one_on l p d (Closes s cause) may = at_server (Closes s cause ∷ []) p d _ (record { opened = refl; past = refl; order = refl; synced = refl })
one_on l p d (Releases s) may = at_server (Releases s ∷ []) p d _ (record { opened = refl; past = refl; order = refl; synced = refl })
one_on l p d ComesBack may = at_server (ComesBack ∷ []) p d _ (record { opened = refl; past = refl; order = refl; synced = refl })
one_on l p d (Grants s j m key at) may = at_server (Grants s j m key at ∷ []) p d _ (record { opened = refl; past = refl; order = refl; synced = refl })
one_on l p d (Frees s j m key) may = at_server (Frees s j m key ∷ []) p d _ (record { opened = refl; past = refl; order = refl; synced = refl })
one_on l p d (Breaks app now) may = at_server (Breaks app now ∷ []) p d _ (record { opened = refl; past = refl; order = refl; synced = refl })

one_other : (l : Layout) (p : Plain) (d : ℕ) (x : Deed) (e : ℕ) → e ≢ d → (after l p (act_of d x)).server_at e ≡ p.server_at e
one_other l p d (Enters entry) e other = put_other p.server_at d _ e other
one_other l p d (Closes s cause) e other = put_other p.server_at d _ e other
one_other l p d (Releases s) e other = put_other p.server_at d _ e other
one_other l p d ComesBack e other = put_other p.server_at d _ e other
one_other l p d (Grants s j m key at) e other = put_other p.server_at d _ e other
one_other l p d (Frees s j m key) e other = put_other p.server_at d _ e other
one_other l p d (Breaks app now) e other = put_other p.server_at d _ e other

one_clock : (l : Layout) (p : Plain) (d : ℕ) (x : Deed) → (after l p (act_of d x)).clock ≡ p.clock
one_clock l p d (Enters e) = refl
one_clock l p d (Closes s cause) = refl
one_clock l p d (Releases s) = refl
one_clock l p d ComesBack = refl
one_clock l p d (Grants s j m key at) = refl
one_clock l p d (Frees s j m key) = refl
one_clock l p d (Breaks app now) = refl

one_died : (l : Layout) (p : Plain) (d : ℕ) (x : Deed) (app : ℕ) → (after l p (act_of d x)).died_at app ≡ p.died_at app
one_died l p d (Enters e) app = refl
one_died l p d (Closes s cause) app = refl
one_died l p d (Releases s) app = refl
one_died l p d ComesBack app = refl
one_died l p d (Grants s j m key at) app = refl
one_died l p d (Frees s j m key) app = refl
one_died l p d (Breaks broken now) app = refl

-- What deeds make of the plain machine.
pub wrote : (l : Layout) (p : Plain) (d : ℕ) (ds : List Deed) → AllByRecursion DeedIs ds → Wrote d ds p (after_all l p (map (act_of d) ds))
wrote l p d [] may = record {
  here = record { opened = refl; past = refl; order = refl; synced = refl };
  others = λ e other. refl;
  clock = refl;
  died = λ app. refl;
}
wrote l p d (x ∷ xs) may = go (one_on l p d x may.0) (wrote l (after l p (act_of d x)) d xs may.1)
  where
    go : GoesOn (x ∷ []) (p.server_at d) ((after l p (act_of d x)).server_at d)
        → Wrote d xs (after l p (act_of d x)) (after_all l (after l p (act_of d x)) (map (act_of d) xs))
        → Wrote d (x ∷ xs) p (after_all l (after l p (act_of d x)) (map (act_of d) xs))
    go first more = record {
      here = record {
        opened = more.here.opened ∙ first.opened;
        past = more.here.past ∙ first.past;
        order = more.here.order ∙ ap (order_by xs) first.order;
        synced = more.here.synced ∙ first.synced;
      };
      others = λ e other. more.others e other ∙ one_other l p d x e other;
      clock = more.clock ∙ one_clock l p d x;
      died = λ app. more.died app ∙ one_died l p d x app;
    }

is_kept : (n d : ℕ) (x : Deed) → is_raised n (act_of d x) ≡ true
is_kept n d (Enters e) = refl
is_kept n d (Closes s cause) = refl
is_kept n d (Releases s) = refl
is_kept n d ComesBack = refl
is_kept n d (Grants s j m key at) = refl
is_kept n d (Frees s j m key) = refl
is_kept n d (Breaks app now) = refl

-- no deed is a save
pub all_raised : (n d : ℕ) (ds : List Deed) → raised n (map (act_of d) ds) ≡ map (act_of d) ds
all_raised n d [] = refl
all_raised n d (Enters e ∷ xs) = ap (λ (ys : List Act). act_of d (Enters e) ∷ ys) (all_raised n d xs)
all_raised n d (Closes s cause ∷ xs) = ap (λ (ys : List Act). act_of d (Closes s cause) ∷ ys) (all_raised n d xs)
all_raised n d (Releases s ∷ xs) = ap (λ (ys : List Act). act_of d (Releases s) ∷ ys) (all_raised n d xs)
all_raised n d (ComesBack ∷ xs) = ap (λ (ys : List Act). act_of d ComesBack ∷ ys) (all_raised n d xs)
all_raised n d (Grants s j m key at ∷ xs) = ap (λ (ys : List Act). act_of d (Grants s j m key at) ∷ ys) (all_raised n d xs)
all_raised n d (Frees s j m key ∷ xs) = ap (λ (ys : List Act). act_of d (Frees s j m key) ∷ ys) (all_raised n d xs)
all_raised n d (Breaks app now ∷ xs) = ap (λ (ys : List Act). act_of d (Breaks app now) ∷ ys) (all_raised n d xs)

-- the place of the last Epoch

pub entered_place : (e : Entry) → IsEntered e → (found k : ℕ) (es : List Entry) → epoch_place_from found k (es ++ e ∷ []) ≡ epoch_place_from found k es
entered_place (Epoch number) may found k [] = absurd may
entered_place (Opened session app) may found k [] = refl
entered_place (Closed session) may found k [] = absurd may
entered_place (Update session w job txn op) may found k [] = refl
entered_place (Commit session w job txn) may found k [] = refl
entered_place (Rollback session w job txn) may found k [] = refl
entered_place e may found k (Epoch number ∷ es) = entered_place e may (k + 1) (k + 1) es
entered_place e may found k (Opened session app ∷ es) = entered_place e may found (k + 1) es
entered_place e may found k (Closed session ∷ es) = entered_place e may found (k + 1) es
entered_place e may found k (Update session w job txn op ∷ es) = entered_place e may found (k + 1) es
entered_place e may found k (Commit session w job txn ∷ es) = entered_place e may found (k + 1) es
entered_place e may found k (Rollback session w job txn ∷ es) = entered_place e may found (k + 1) es

pub closed_place : (s found k : ℕ) (es : List Entry) → epoch_place_from found k (es ++ Closed s ∷ []) ≡ epoch_place_from found k es
closed_place s found k [] = refl
closed_place s found k (Epoch number ∷ es) = closed_place s (k + 1) (k + 1) es
closed_place s found k (Opened session app ∷ es) = closed_place s found (k + 1) es
closed_place s found k (Closed session ∷ es) = closed_place s found (k + 1) es
closed_place s found k (Update session w job txn op ∷ es) = closed_place s found (k + 1) es
closed_place s found k (Commit session w job txn ∷ es) = closed_place s found (k + 1) es
closed_place s found k (Rollback session w job txn ∷ es) = closed_place s found (k + 1) es

one_place : (x : Deed) (es : List Entry) → DeedIs x → epoch_place (order_with x es) ≡ epoch_place es
one_place (Enters e) es may = entered_place e may 0 0 es
one_place (Closes s cause) es may = closed_place s 0 0 es
one_place (Releases s) es may = refl
one_place ComesBack es may = refl
one_place (Grants s j m key at) es may = refl
one_place (Frees s j m key) es may = refl
one_place (Breaks app now) es may = refl

-- deeds leave the place of the last Epoch
pub place_kept : (ds : List Deed) (es : List Entry) → AllByRecursion DeedIs ds → epoch_place (order_by ds es) ≡ epoch_place es
place_kept [] es may = refl
place_kept (x ∷ xs) es may = place_kept xs (order_with x es) may.1 ∙ one_place x es may.0

-- where the next Epoch comes
pub next_place : (number found k : ℕ) (es : List Entry) → epoch_place_from found k (es ++ Epoch number ∷ []) ≡ k + length es + 1
next_place number found k [] = omega arith
next_place number found k (Epoch n ∷ es) = omega (arith, next_place number (k + 1) (k + 1) es)
next_place number found k (Opened session app ∷ es) = omega (arith, next_place number found (k + 1) es)
next_place number found k (Closed session ∷ es) = omega (arith, next_place number found (k + 1) es)
next_place number found k (Update session w job txn op ∷ es) = omega (arith, next_place number found (k + 1) es)
next_place number found k (Commit session w job txn ∷ es) = omega (arith, next_place number found (k + 1) es)
next_place number found k (Rollback session w job txn ∷ es) = omega (arith, next_place number found (k + 1) es)
