-- What an entry says of the sessions that it is not about, and of its own where it is an item.
use Rattle.std.proofs.Common.{◌≡◌, ◌∙◌, ◌+◌, ℕ, Bool, true, false, ◌&&◌, if◌then◌else◌, nat_eq, List, Option, Some, refl, sym, ap}
use Rattle.std.proofs.lemmas.Bool.{eqb-true, and_parts}
use Rattle.plain_orders.specs.declared.entry.Entry.{Entry}
use Rattle.plain_orders.specs.declared.entry.Entry.TheVariants.{Epoch, Opened, Closed, Update, Commit, Rollback}
use Rattle.plain_orders.specs.Entries.{count, w_in, live, live_after, live_session_after, epoch_after, closes}
use Rattle.plain_orders.specs.Sessions.{app_after}
use Rattle.plain_orders.specs.ItemEntries.{is_item_at}
use Rattle.plain_orders.specs.Ordered.{MayFollow}
use Rattle.session_books.proofs.PlaceLemmas.{item_w}

-- an entry is about a session
abbrev pub is_about : ℕ → Entry → Bool
is_about s (Epoch number) = false
is_about s (Opened session app) = nat_eq session s
is_about s (Closed session) = nat_eq session s
is_about s (Update session w job txn op) = nat_eq session s
is_about s (Commit session w job txn) = nat_eq session s
is_about s (Rollback session w job txn) = nat_eq session s

-- an entry says nothing of a session
pub record IsSilent (e : Entry) (s : ℕ) : Type 0 where
  pub app : (o : Option ℕ) → app_after o e s ≡ o
  pub counts : w_in s e ≡ 0
  pub closes : closes s e ≡ false
  pub lives : (b : Bool) → live_after b e s ≡ b
  pub items : (w : ℕ) → is_item_at s w e ≡ false

pub silent : (e : Entry) (s : ℕ) → is_about s e ≡ false → IsSilent e s
silent (Epoch number) s f = record { app = λ o. refl; counts = refl; closes = refl; lives = λ b. refl; items = λ w. refl }
silent (Opened session app) s f = record {
  app = λ o. ap (λ b. if b then Some app else o) f;
  counts = refl;
  closes = refl;
  lives = λ b. ap (λ x. if x then true else b) f;
  items = λ w. refl;
}
silent (Closed session) s f = record { app = λ o. refl; counts = refl; closes = f; lives = λ b. ap (λ x. if x then false else b) f; items = λ w. refl }
silent (Update session v job txn op) s f = record { app = λ o. refl; counts = ap (λ b. if b then v else 0) f; closes = refl; lives = λ b. refl; items = λ w. ap (λ b. b && nat_eq v w) f }
silent (Commit session v job txn) s f = record { app = λ o. refl; counts = ap (λ b. if b then v else 0) f; closes = refl; lives = λ b. refl; items = λ w. ap (λ b. b && nat_eq v w) f }
silent (Rollback session v job txn) s f = record { app = λ o. refl; counts = ap (λ b. if b then v else 0) f; closes = refl; lives = λ b. refl; items = λ w. ap (λ b. b && nat_eq v w) f }

-- the item of a session with a running number
pub record IsItemOf (e : Entry) (s w : ℕ) : Type 0 where
  pub app : (o : Option ℕ) (q : ℕ) → app_after o e q ≡ o
  pub counts : w_in s e ≡ w
  pub closes : (q : ℕ) → closes q e ≡ false
  pub lives : (b : Bool) (q : ℕ) → live_after b e q ≡ b
  pub others : (q : ℕ) → nat_eq w q ≡ false → is_item_at s q e ≡ false
  pub about : (q : ℕ) → nat_eq s q ≡ false → is_about q e ≡ false
  pub epoch : (n : ℕ) → epoch_after n e ≡ n
  pub apps : (o : Option ℕ) (a : ℕ) → live_session_after o e a ≡ o
  pub may : (es : List Entry) → MayFollow es e → (live es s ≡ true) × (w ≡ count es s + 1)

module _ (s w session v : ℕ) (h : (nat_eq session s && nat_eq v w) ≡ true) where
  same_session : session ≡ s
  same_session = eqb-true session s (and_parts (nat_eq session s) (nat_eq v w) h).0

  same_w : v ≡ w
  same_w = eqb-true v w (and_parts (nat_eq session s) (nat_eq v w) h).1

  others_w : (q : ℕ) → nat_eq w q ≡ false → (nat_eq session s && nat_eq v q) ≡ false
  others_w q f = ap (λ b. b && nat_eq v q) (and_parts (nat_eq session s) (nat_eq v w) h).0 ∙ ap (λ n. nat_eq n q) same_w ∙ f

  about_s : (q : ℕ) → nat_eq s q ≡ false → nat_eq session q ≡ false
  about_s q f = ap (λ n. nat_eq n q) same_session ∙ f

  may_s : (es : List Entry) → live es session ≡ true → v ≡ count es session + 1 → (live es s ≡ true) × (w ≡ count es s + 1)
  may_s es lives next = (ap (live es) (sym same_session) ∙ lives, sym same_w ∙ next ∙ ap (λ n. count es n + 1) same_session)

pub item_of : (e : Entry) (s w : ℕ) → is_item_at s w e ≡ true → IsItemOf e s w
item_of (Epoch number) s w h = absurd (cc)
item_of (Opened session app) s w h = absurd (cc)
item_of (Closed session) s w h = absurd (cc)
item_of (Update session v job txn op) s w h = record {
  app = λ o q. refl;
  counts = item_w s w (Update session v job txn op) h;
  closes = λ q. refl;
  lives = λ b q. refl;
  others = others_w s w session v h;
  about = about_s s w session v h;
  epoch = λ n. refl;
  apps = λ o a. refl;
  may = λ es m. may_s s w session v h es m.is_live m.is_next;
}
item_of (Commit session v job txn) s w h = record {
  app = λ o q. refl;
  counts = item_w s w (Commit session v job txn) h;
  closes = λ q. refl;
  lives = λ b q. refl;
  others = others_w s w session v h;
  about = about_s s w session v h;
  epoch = λ n. refl;
  apps = λ o a. refl;
  may = λ es m. may_s s w session v h es m.is_live m.is_next;
}
item_of (Rollback session v job txn) s w h = record {
  app = λ o q. refl;
  counts = item_w s w (Rollback session v job txn) h;
  closes = λ q. refl;
  lives = λ b q. refl;
  others = others_w s w session v h;
  about = about_s s w session v h;
  epoch = λ n. refl;
  apps = λ o a. refl;
  may = λ es m. may_s s w session v h es m.is_live m.is_next;
}
