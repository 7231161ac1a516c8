-- What a data server writes in a step may come as far as it is of items, where these are right.
use Rattle.std.proofs.Common.{◌≡◌, ℕ, ◌+◌, ◌-◌, List, [], ◌∷◌, ◌++◌, map, option_map, sym, ◌∙◌, ap, subst, append_assoc, append-nil}
use Rattle.std.specs.Prelude.{slice_get}
use Rattle.plain_orders.specs.declared.act.Act.TheVariants as act
use Rattle.plain_orders.specs.declared.entry.Entry.{Entry}
use Rattle.plain_orders.specs.declared.entry.Entry.TheVariants.{Epoch, Opened, Closed, Update, Commit, Rollback}
use Rattle.plain_orders.specs.declared.layout.Layout.{Layout}
use Rattle.plain_orders.specs.Entries.{count, live}
use Rattle.plain_orders.specs.Own.{Issued}
use Rattle.plain_runs.specs.Items.{entry_of}
use Rattle.plain_runs.specs.OrderRows.{ItemMay, entered, is_told}
use Rattle.plain_runs.specs.Plain.{Plain, Server, issued_in, with_server}
use Rattle.plain_runs.specs.Step.{after}
use Rattle.cluster_invariant.proofs.Deeds.{Deed, Enters, Closes, Releases, ComesBack, Grants, Frees, Breaks, act_of, DeedIs, IsEntered, order_by, order_with}
use Rattle.cluster_invariant.proofs.Small.{put_same}
use Rattle.std.specs.List.{AllByRecursion}
use Rattle.items_server.specs.ItemActs.{EntryItem, ItemComes, ItemsCome}
use Rattle.items_server.proofs.ItemRows.{ItemRight, Right, RightFrom}

-- the sessions are as they were, and the order is this
pub record SameIn (v : Server) (es : List Entry) (w : Server) : Type 0 where
  pub order : w.order ≡ es
  pub told : (s : ℕ) → is_told w s ≡ is_told v s
  pub issued : (s : ℕ) → issued_in w s ≡ issued_in v s

item_may : (v w : Server) (es : List Entry) (s k : ℕ) (e : Entry) → SameIn v es w → ItemRight v es s k e → ItemMay w s k e
item_may v w es s k e same right = record {
  is_live = ap (λ (xs : List Entry). live xs s) same.order ∙ right.is_live;
  told = same.told s ∙ right.told;
  next = right.next ∙ ap (λ (xs : List Entry). count xs s + 1) (sym same.order);
  issued = ap (λ (is : List Issued). option_map (entry_of s k) (slice_get is (k - 1))) (same.issued s) ∙ right.issued;
}

-- an entry that is right may come
entry_comes : (l : Layout) (p : Plain) (d : ℕ) (v : Server) (es : List Entry) (e : Entry) → SameIn v es (p.server_at d) → Right v es e → EntryItem l p e (act.Enter d e)
entry_comes l p d v es (Epoch number) same right = tt
entry_comes l p d v es (Opened session app) same right = tt
entry_comes l p d v es (Closed session) same right = tt
entry_comes l p d v es (Update session w job txn op) same right = item_may v (p.server_at d) es session w (Update session w job txn op) same right
entry_comes l p d v es (Commit session w job txn) same right = item_may v (p.server_at d) es session w (Commit session w job txn) same right
entry_comes l p d v es (Rollback session w job txn) same right = item_may v (p.server_at d) es session w (Rollback session w job txn) same right

-- the entry of a deed, if it has one
abbrev pub entries_of : Deed → List Entry
entries_of (Enters e) = e ∷ []
entries_of (Closes s cause) = Closed s ∷ []
entries_of (Releases s) = []
entries_of ComesBack = []
entries_of (Grants s j m key at) = []
entries_of (Frees s j m key) = []
entries_of (Breaks app now) = []

-- and those of several
abbrev pub all_entries : List Deed → List Entry
all_entries [] = []
all_entries (x ∷ xs) = entries_of x ++ all_entries xs

-- one deed

changed : (v : Server) (es : List Entry) (p : Plain) (d : ℕ) (t : Server) → SameIn v es t → SameIn v es ((with_server p d t).server_at d)
changed v es p d t same = subst (SameIn v es) (sym (put_same p.server_at d t)) same

-- with what the order goes on by
grown : (v w : Server) (es : List Entry) (e : Entry) → IsEntered e → SameIn v es w → SameIn v (es ++ e ∷ []) (entered w e)
grown v w es (Epoch number) may same = absurd may
grown v w es (Opened session app) may same = record { order = ap (λ (xs : List Entry). xs ++ Opened session app ∷ []) same.order; told = same.told; issued = same.issued }
grown v w es (Closed session) may same = absurd may
grown v w es (Update session k job txn op) may same = record { order = ap (λ (xs : List Entry). xs ++ Update session k job txn op ∷ []) same.order; told = same.told; issued = same.issued }
grown v w es (Commit session k job txn) may same = record { order = ap (λ (xs : List Entry). xs ++ Commit session k job txn ∷ []) same.order; told = same.told; issued = same.issued }
grown v w es (Rollback session k job txn) may same = record { order = ap (λ (xs : List Entry). xs ++ Rollback session k job txn ∷ []) same.order; told = same.told; issued = same.issued }

deed_same : (l : Layout) (p : Plain) (d : ℕ) (v : Server) (es : List Entry) (x : Deed) → DeedIs x → SameIn v es (p.server_at d) → SameIn v (order_with x es) ((after l p (act_of d x)).server_at d)
deed_same l p d v es (Enters e) may same = changed v (es ++ e ∷ []) p d (entered (p.server_at d) e) (grown v (p.server_at d) es e may same)
deed_same l p d v es (Closes s cause) may same =
    changed v (es ++ Closed s ∷ []) p d _ (record { order = ap (λ (xs : List Entry). xs ++ Closed s ∷ []) same.order; told = same.told; issued = same.issued })
deed_same l p d v es (Releases s) may same = changed v es p d _ (record { order = same.order; told = same.told; issued = same.issued })
deed_same l p d v es ComesBack may same = changed v es p d _ (record { order = same.order; told = same.told; issued = same.issued })
deed_same l p d v es (Grants s j m key at) may same = changed v es p d _ (record { order = same.order; told = same.told; issued = same.issued })
deed_same l p d v es (Frees s j m key) may same = changed v es p d _ (record { order = same.order; told = same.told; issued = same.issued })
deed_same l p d v es (Breaks app now) may same = changed v es p d _ (record { order = same.order; told = same.told; issued = same.issued })

-- all of them

pub deeds_come : (l : Layout) (p : Plain) (d : ℕ) (v : Server) (es : List Entry) (xs : List Deed) → AllByRecursion DeedIs xs → SameIn v es (p.server_at d) → RightFrom v es (all_entries xs)
    → ItemsCome l p (map (act_of d) xs)
deeds_come l p d v es [] may same right = tt
deeds_come l p d v es (x ∷ xs) may same right =
    go x may.0 right (deed_same l p d v es x may.0 same) (λ q fs is rest. deeds_come l q d v fs xs may.1 is rest)
  where
    go : (y : Deed) → DeedIs y → RightFrom v es (entries_of y ++ all_entries xs) → SameIn v (order_with y es) ((after l p (act_of d y)).server_at d)
        → ((q : Plain) (fs : List Entry) → SameIn v fs (q.server_at d) → RightFrom v fs (all_entries xs) → ItemsCome l q (map (act_of d) xs))
        → ItemComes l p (act_of d y) × ItemsCome l (after l p (act_of d y)) (map (act_of d) xs)
    go (Enters e) is rest later more = (entry_comes l p d v es e same rest.0, more (after l p (act_of d (Enters e))) (es ++ e ∷ []) later rest.1)
    go (Closes s cause) is rest later more = (tt, more (after l p (act_of d (Closes s cause))) (es ++ Closed s ∷ []) later rest.1)
    go (Releases s) is rest later more = (tt, more (after l p (act_of d (Releases s))) es later rest)
    go ComesBack is rest later more = (tt, more (after l p (act_of d ComesBack)) es later rest)
    go (Grants s j m key at) is rest later more = (tt, more (after l p (act_of d (Grants s j m key at))) es later rest)
    go (Frees s j m key) is rest later more = (tt, more (after l p (act_of d (Frees s j m key))) es later rest)
    go (Breaks app now) is rest later more = (tt, more (after l p (act_of d (Breaks app now))) es later rest)

-- the order goes on by their entries
pub order_entries : (xs : List Deed) (es : List Entry) → order_by xs es ≡ es ++ all_entries xs
order_entries [] es = sym (append-nil es)
order_entries (x ∷ xs) es = go x (λ fs. order_entries xs fs)
  where
    go : (y : Deed) → ((fs : List Entry) → order_by xs fs ≡ fs ++ all_entries xs) → order_by xs (order_with y es) ≡ es ++ (entries_of y ++ all_entries xs)
    go (Enters e) more = more (es ++ e ∷ []) ∙ append_assoc es (e ∷ []) (all_entries xs)
    go (Closes s cause) more = more (es ++ Closed s ∷ []) ∙ append_assoc es (Closed s ∷ []) (all_entries xs)
    go (Releases s) more = more es
    go ComesBack more = more es
    go (Grants s j m key at) more = more es
    go (Frees s j m key) more = more es
    go (Breaks app now) more = more es
