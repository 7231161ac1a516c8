-- What an end sends first in a new epoch are messages with numbers: claims, items and Done.
use Rattle.std.proofs.Common.{◌≡◌, ℕ, Bool, true, false, ◌&&◌, if◌then◌else◌, List, [], ◌∷◌, ◌++◌, map, filter, refl, ◌∙◌, ap}
use Rattle.std.specs.Prelude.{nat_lt, ◌==◌}
use Rattle.std.specs.List.{AllByRecursion, list_all}
use Rattle.std.proofs.lemmas.Bool.{and_parts, false≢true}
use Rattle.ecp_messages.specs.declared.up.Up.{Up}
use Rattle.ecp_messages.specs.declared.up.Up.TheVariants as ups
use Rattle.app_rules.specs.declared.session_parts.Owed.{Owed}
use Rattle.app_rules.specs.declared.session_parts.Queued.{Queued}
use Rattle.app_rules.specs.AppState.{Session}
use Rattle.app_rules.specs.Welcoming.{claim_of, message_of, to_send, told_puts, with_all_owed, with_one_owed}
use Rattle.app_rules.specs.Works.{is_above, synced_up}
use Rattle.cluster_invariant.specs.Link.{is_numbered_up}
use Rattle.cluster_invariant.specs.Rounds.{is_item, owed_message}
use Rattle.cluster_invariant.proofs.AllLists.{all_filtered}
use Rattle.link_apps.proofs.FrameTook.{all_of}
use Rattle.link_apps.proofs.PutsUp.{all_numbered}

item_numbered : (m : Up) → is_item m ≡ true → is_numbered_up m ≡ true
item_numbered (ups.Hello app dial) is = absurd (false≢true is)
item_numbered (ups.Recover app session epoch said dial) is = absurd (false≢true is)
item_numbered (ups.Update w job txn op) is = refl
item_numbered (ups.Add w job key amount) is = refl
item_numbered (ups.Fetch key) is = absurd (false≢true is)
item_numbered (ups.Ask ticket job mode key) is = absurd (false≢true is)
item_numbered (ups.Unlock job mode key) is = absurd (false≢true is)
item_numbered (ups.Cancel ticket) is = absurd (false≢true is)
item_numbered (ups.Commit w job txn wanted) is = refl
item_numbered (ups.Rollback w job txn) is = refl
item_numbered (ups.Sync ticket) is = absurd (false≢true is)
item_numbered ups.Done is = absurd (false≢true is)
item_numbered (ups.Claim job mode number at key) is = absurd (false≢true is)
item_numbered ups.Bare is = absurd (false≢true is)

abbrev IsItem : Queued → Type 0
IsItem i = is_item i.message ≡ true

queued_items : (is : List Queued) → list_all is_item (map message_of is) ≡ true → AllByRecursion IsItem is
queued_items [] all = tt
queued_items (i ∷ is) all =
    let parts : (is_item i.message ≡ true) × (list_all is_item (map message_of is) ≡ true) = and_parts (is_item i.message) (list_all is_item (map message_of is)) all in
    (parts.0, queued_items is parts.1)

one_owed : (o : Owed) (is : List Queued) → is_item o.message ≡ true → AllByRecursion IsItem is → AllByRecursion IsItem (with_one_owed o is)
one_owed o [] item all = (item, tt)
one_owed o (i ∷ is) item all = go (nat_lt o.w i.w) (o.w == i.w) (one_owed o is item all.1)
  where
    go : (a b : Bool) → AllByRecursion IsItem (with_one_owed o is)
        → AllByRecursion IsItem (if a then record { w = o.w; message = o.message; job = o.job } ∷ i ∷ is else (if b then i ∷ is else i ∷ with_one_owed o is))
    go true b more = (item, all)
    go false true more = all
    go false false more = (all.0, more)

all_owed : (os : List Owed) (is : List Queued) → list_all is_item (map owed_message os) ≡ true → AllByRecursion IsItem is → AllByRecursion IsItem (with_all_owed os is)
all_owed [] is owed all = all
all_owed (o ∷ os) is owed all =
    let parts : (is_item o.message ≡ true) × (list_all is_item (map owed_message os) ≡ true) = and_parts (is_item o.message) (list_all is_item (map owed_message os)) owed in
    all_owed os (with_one_owed o is) parts.1 (one_owed o is parts.0 all)

items_numbered : (is : List Queued) → AllByRecursion IsItem is → list_all is_numbered_up (map message_of is) ≡ true
items_numbered [] all = refl
items_numbered (i ∷ is) all = ap (λ (b : Bool). b && list_all is_numbered_up (map message_of is)) (item_numbered i.message all.0) ∙ items_numbered is all.1

-- Where its queue and what is owed are items.
pub told_numbered : (w n : ℕ) (s : Session) → list_all is_item (map message_of s.queue) ≡ true → list_all is_item (map owed_message s.owed) ≡ true
    → list_all is_numbered_up (told_puts w (synced_up n s)) ≡ true
told_numbered w n s queued owed =
    all_numbered (map claim_of s.held ++ map message_of (to_send w (synced_up n s))) (ups.Done ∷ [])
    (all_numbered (map claim_of s.held) (map message_of (to_send w (synced_up n s))) (all_of claim_of (λ h. refl) s.held)
    (items_numbered (to_send w (synced_up n s))
    (all_owed s.owed (filter (is_above w) (filter (is_above n) s.queue)) owed
    (all_filtered IsItem (is_above w) (filter (is_above n) s.queue) (all_filtered IsItem (is_above n) s.queue (queued_items s.queue queued)))))) refl
