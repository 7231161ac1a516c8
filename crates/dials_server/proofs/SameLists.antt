-- Entries that leave what connections need of the order.
use Rattle.std.proofs.Common.{◌≡◌, ◌≤◌, ℕ, Bool, true, ◌||◌, List, [], ◌∷◌, ◌++◌, length, None, ◌∙◌, ap, arith}
use Rattle.std.specs.List.{list_any}
use Rattle.std.proofs.lemmas.List.{length-append}
use Rattle.std.proofs.lemmas.List.Folds.{list_any-append}
use Rattle.plain_orders.specs.declared.entry.Entry.{Entry}
use Rattle.plain_orders.specs.declared.entry.Entry.TheVariants.{Epoch, Opened, Closed, Update, Commit, Rollback}
use Rattle.plain_orders.specs.Entries.{closes, live, live_session}
use Rattle.plain_orders.specs.Sessions.{app_in}
use Rattle.plain_orders.proofs.EntryLemmas.{app_from-push, live-push, live_session-push}
use Rattle.data_rules.specs.Places.{epoch_place}
use Rattle.cluster_invariant.proofs.Written.{entered_place}

-- an entry that leaves what connections need of the order
pub record SameLists (es fs : List Entry) : Type 0 where
  pub lives : (s : ℕ) → live fs s ≡ live es s
  pub apps : (s : ℕ) → app_in fs s ≡ app_in es s
  pub sessions : (app : ℕ) → live_session fs app ≡ live_session es app
  pub ended : (s : ℕ) → list_any (closes s) es ≡ true → list_any (closes s) fs ≡ true
  pub place : epoch_place fs ≡ epoch_place es
  pub longer : length es ≤ length fs

pub lists_same : (es fs : List Entry) → fs ≡ es → SameLists es fs
lists_same es fs same = record {
  lives = λ s. ap (λ (xs : List Entry). live xs s) same;
  apps = λ s. ap (λ (xs : List Entry). app_in xs s) same;
  sessions = λ app. ap (λ (xs : List Entry). live_session xs app) same;
  ended = λ s is. ap (λ (xs : List Entry). list_any (closes s) xs) same ∙ is;
  place = ap epoch_place same;
  longer = omega (arith, ap (λ (xs : List Entry). length xs) same);
}

-- an item
abbrev pub IsItem : Entry → Type 0
IsItem (Epoch number) = ⊥
IsItem (Opened session app) = ⊥
IsItem (Closed session) = ⊥
IsItem (Update session w job txn op) = Unit {0}
IsItem (Commit session w job txn) = Unit {0}
IsItem (Rollback session w job txn) = Unit {0}

still_any : (es : List Entry) (e : Entry) (s : ℕ) → list_any (closes s) es ≡ true → list_any (closes s) (es ++ e ∷ []) ≡ true
still_any es e s is = list_any-append (closes s) es (e ∷ []) ∙ ap (λ (b : Bool). b || list_any (closes s) (e ∷ [])) is

pub item_lists : (es : List Entry) (e : Entry) → IsItem e → SameLists es (es ++ e ∷ [])
item_lists es (Epoch number) item = absurd item
item_lists es (Opened session app) item = absurd item
item_lists es (Closed session) item = absurd item
item_lists es (Update session w job txn op) item = record {
  lives = λ s. live-push es (Update session w job txn op) s;
  apps = λ s. app_from-push None es (Update session w job txn op) s;
  sessions = λ app. live_session-push es (Update session w job txn op) app;
  ended = still_any es (Update session w job txn op);
  place = entered_place (Update session w job txn op) tt 0 0 es;
  longer = omega (arith, length-append es (Update session w job txn op ∷ []));
}
item_lists es (Commit session w job txn) item = record {
  lives = λ s. live-push es (Commit session w job txn) s;
  apps = λ s. app_from-push None es (Commit session w job txn) s;
  sessions = λ app. live_session-push es (Commit session w job txn) app;
  ended = still_any es (Commit session w job txn);
  place = entered_place (Commit session w job txn) tt 0 0 es;
  longer = omega (arith, length-append es (Commit session w job txn ∷ []));
}
item_lists es (Rollback session w job txn) item = record {
  lives = λ s. live-push es (Rollback session w job txn) s;
  apps = λ s. app_from-push None es (Rollback session w job txn) s;
  sessions = λ app. live_session-push es (Rollback session w job txn) app;
  ended = still_any es (Rollback session w job txn);
  place = entered_place (Rollback session w job txn) tt 0 0 es;
  longer = omega (arith, length-append es (Rollback session w job txn ∷ []));
}
