-- An item that comes says what was issued, and so does its entry.
use Rattle.std.proofs.Common.{◌≡◌, ◌+◌, ◌-◌, ℕ, true, List, [], ◌∷◌, ◌++◌, drop, zero, suc, Option, Some, None, option_map, refl, sym, ap, subst, append_assoc, append-nil}
use Rattle.std.specs.Prelude.{slice_get}
use Rattle.std.specs.List.{AllByRecursion}
use Rattle.plain_orders.specs.declared.entry.Entry.{Entry}
use Rattle.plain_orders.specs.declared.entry.Entry.TheVariants as entries
use Rattle.plain_orders.specs.declared.op.Op.TheVariants as ops
use Rattle.plain_orders.specs.declared.item.Item.TheVariants as items
use Rattle.plain_orders.specs.Own.{Issued}
use Rattle.plain_orders.specs.Entries.{count, live}
use Rattle.plain_orders.specs.Ordered.{MayFollow}
use Rattle.plain_runs.specs.Items.{entry_of}
use Rattle.plain_runs.specs.OrderRows.{is_told}
use Rattle.plain_runs.specs.Plain.{Server, issued_in}
use Rattle.ecp_messages.specs.declared.up.Up.{Up}
use Rattle.ecp_messages.specs.declared.up.Up.TheVariants as up
use Rattle.cluster_runs.specs.WireItems.{Numbered, as_entry, numbered}
use Rattle.cluster_invariant.specs.Rounds.{is_item}
use Rattle.cluster_invariant.proofs.PieceMay.{item_of}
use Rattle.cluster_promises.specs.Items.{SaysIssued, numbered_as}

-- what an entry that is an item rests on, behind these entries
pub record ItemRight (v : Server) (es : List Entry) (session w : ℕ) (e : Entry) : Type 0 where
  pub is_live : live es session ≡ true
  pub told : is_told v session ≡ true
  pub next : w ≡ count es session + 1
  pub issued : option_map (entry_of session w) (slice_get (issued_in v session) (w - 1)) ≡ Some e

-- the same of any entry: an Open or a Close rests on nothing here
abbrev pub Right : Server → List Entry → Entry → Type 0
Right v es (entries.Epoch number) = Unit {0}
Right v es (entries.Opened session app) = Unit {0}
Right v es (entries.Closed session) = Unit {0}
Right v es (entries.Update session w job txn op) = ItemRight v es session w (entries.Update session w job txn op)
Right v es (entries.Commit session w job txn) = ItemRight v es session w (entries.Commit session w job txn)
Right v es (entries.Rollback session w job txn) = ItemRight v es session w (entries.Rollback session w job txn)

-- each of several in its turn
abbrev pub RightFrom : Server → List Entry → List Entry → Type 0
RightFrom v es [] = Unit {0}
RightFrom v es (e ∷ more) = Right v es e × RightFrom v (es ++ e ∷ []) more

pub right_push : (v : Server) (es more : List Entry) (e : Entry) → RightFrom v es more → Right v (es ++ more) e → RightFrom v es (more ++ e ∷ [])
right_push v es [] e all one = (subst (λ (xs : List Entry). Right v xs e) (append-nil es) one, tt)
right_push v es (x ∷ more) e all one =
    (all.0, right_push v (es ++ x ∷ []) more e all.1 (subst (λ (xs : List Entry). Right v xs e) (sym (append_assoc es (x ∷ []) more)) one))

-- the entry of what was issued
issued_entry : (s w : ℕ) (i : Numbered) (o : Option Issued) → option_map (numbered_as w) o ≡ Some i → i.w ≡ w → option_map (entry_of s w) o ≡ Some (as_entry s i)
issued_entry s w i None its same = absurd cc
issued_entry s w i (Some x) its same = ap (λ (n : Numbered). Some (as_entry s n)) (one (numbered_as w x) i its)
  where
    one : (a b : Numbered) → Some a ≡ Some b → a ≡ b
    one a b both = cc

some_same : (x y : Entry) → Some x ≡ Some y → x ≡ y
some_same x y same = cc

-- An item that may follow and was issued enters as it may.
pub right_of : (v : Server) (es : List Entry) (s : ℕ) (m : Up) (e : Entry) → item_of s m ≡ Some e → MayFollow es e → is_told v s ≡ true → SaysIssued (issued_in v s) m → Right v es e
right_of v es s (up.Hello app dial) e its follows told says = absurd cc
right_of v es s (up.Recover app q epoch taken dial) e its follows told says = absurd cc
right_of v es s (up.Update w job txn op) e its follows told says =
    subst (λ (x : Entry). Right v es x) same
    (let may : MayFollow es (entries.Update s w job txn op) = subst (MayFollow es) (sym same) follows in
    record { is_live = may.is_live; told = told; next = may.is_next; issued = issued_entry s w (numbered w job txn (items.Op op)) (slice_get (issued_in v s) (w - 1)) says.its refl })
  where
    same : entries.Update s w job txn op ≡ e
    same = some_same (entries.Update s w job txn op) e its
right_of v es s (up.Add w job key amount) e its follows told says =
    subst (λ (x : Entry). Right v es x) same
    (let may : MayFollow es (entries.Update s w job 0 (ops.Add key amount)) = subst (MayFollow es) (sym same) follows in
    record { is_live = may.is_live; told = told; next = may.is_next; issued = issued_entry s w (numbered w job 0 (items.Op (ops.Add key amount))) (slice_get (issued_in v s) (w - 1)) says.its refl })
  where
    same : entries.Update s w job 0 (ops.Add key amount) ≡ e
    same = some_same (entries.Update s w job 0 (ops.Add key amount)) e its
right_of v es s (up.Fetch key) e its follows told says = absurd cc
right_of v es s (up.Ask ticket job mode key) e its follows told says = absurd cc
right_of v es s (up.Unlock job mode key) e its follows told says = absurd cc
right_of v es s (up.Cancel ticket) e its follows told says = absurd cc
right_of v es s (up.Commit w job txn wanted) e its follows told says =
    subst (λ (x : Entry). Right v es x) same
    (let may : MayFollow es (entries.Commit s w job txn) = subst (MayFollow es) (sym same) follows in
    record { is_live = may.is_live; told = told; next = may.is_next; issued = issued_entry s w (numbered w job txn (items.Commit txn)) (slice_get (issued_in v s) (w - 1)) says.its refl })
  where
    same : entries.Commit s w job txn ≡ e
    same = some_same (entries.Commit s w job txn) e its
right_of v es s (up.Rollback w job txn) e its follows told says =
    subst (λ (x : Entry). Right v es x) same
    (let may : MayFollow es (entries.Rollback s w job txn) = subst (MayFollow es) (sym same) follows in
    record { is_live = may.is_live; told = told; next = may.is_next; issued = issued_entry s w (numbered w job txn (items.Rollback txn)) (slice_get (issued_in v s) (w - 1)) says.its refl })
  where
    same : entries.Rollback s w job txn ≡ e
    same = some_same (entries.Rollback s w job txn) e its
right_of v es s (up.Sync ticket) e its follows told says = absurd cc
right_of v es s up.Done e its follows told says = absurd cc
right_of v es s (up.Claim job mode number at key) e its follows told says = absurd cc
right_of v es s up.Bare e its follows told says = absurd cc

-- only an item has an entry
pub item_is : (s : ℕ) (m : Up) (e : Entry) → item_of s m ≡ Some e → is_item m ≡ true
item_is s (up.Hello app dial) e its = absurd cc
item_is s (up.Recover app q epoch taken dial) e its = absurd cc
item_is s (up.Update w job txn op) e its = refl
item_is s (up.Add w job key amount) e its = refl
item_is s (up.Fetch key) e its = absurd cc
item_is s (up.Ask ticket job mode key) e its = absurd cc
item_is s (up.Unlock job mode key) e its = absurd cc
item_is s (up.Cancel ticket) e its = absurd cc
item_is s (up.Commit w job txn wanted) e its = refl
item_is s (up.Rollback w job txn) e its = refl
item_is s (up.Sync ticket) e its = absurd cc
item_is s up.Done e its = absurd cc
item_is s (up.Claim job mode number at key) e its = absurd cc
item_is s up.Bare e its = absurd cc

first_same : {X : Type 0} (a b : X) (us ws : List X) → ◌≡◌ {A = List X} (a ∷ us) (b ∷ ws) → a ≡ b
first_same a b us ws same = cc

-- what holds of all that was put holds of what comes next
pub all_next : {X : Type 0} (P : X → Type 0) (n : ℕ) (xs rest : List X) (x : X) → AllByRecursion P xs → drop n xs ≡ x ∷ rest → P x
all_next P zero [] rest x all its = absurd cc
all_next P zero (y ∷ ys) rest x all its = subst P (first_same y x ys rest its) all.0
all_next P (suc n) [] rest x all its = absurd cc
all_next P (suc n) (y ∷ ys) rest x all its = all_next P n ys rest x all.1 its
