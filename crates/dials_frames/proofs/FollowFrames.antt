-- What an application server puts as it takes a frame: numbered messages, and acknowledgements by themselves.
use Rattle.std.proofs.Common.{◌≡◌, ℕ, zero, suc, ◌+◌, ◌-◌, max, Bool, true, false, if◌then◌else◌, ◌&&◌, ◌==◌, List, [], ◌∷◌, ◌++◌, map, filter, drop, refl, ◌∙◌, ap, arith}
use Rattle.std.specs.Prelude.{nat_lt}
use Rattle.std.specs.List.{list_all}
use Rattle.std.proofs.lemmas.Bool.{false≢true, and_parts, lt-ltb}
use Rattle.std.proofs.lemmas.List.Folds.{list_all-append}
use Rattle.ecp_messages.specs.declared.up.Up.{Up}
use Rattle.ecp_messages.specs.declared.up.Up.TheVariants as ups
use Rattle.ecp_messages.specs.declared.up.UpFrame.{UpFrame}
use Rattle.end_words.specs.Windows.{Window, numbered_from, resent, sent}
use Rattle.app_rules.specs.declared.session_parts.Asked.{Asked}
use Rattle.app_rules.specs.declared.session_parts.Fetching.{Fetching}
use Rattle.app_rules.specs.declared.session_parts.Held.{Held}
use Rattle.app_rules.specs.declared.session_parts.Owed.{Owed}
use Rattle.app_rules.specs.declared.session_parts.Queued.{Queued}
use Rattle.app_rules.specs.declared.session_parts.Syncing.{Syncing}
use Rattle.app_rules.specs.AppState.{Session}
use Rattle.app_rules.specs.Delivering.{ask_of, fetch_of, is_ask_unput, is_sync_unput, sync_of, to_put_again}
use Rattle.app_rules.specs.Welcoming.{claim_of, message_of, to_send, told_puts, with_all_owed, with_one_owed}
use Rattle.app_rules.specs.Works.{is_above, synced_up}
use Rattle.cluster_invariant.specs.Dials.{is_following}
use Rattle.cluster_invariant.specs.Link.{is_numbered_up}
use Rattle.cluster_invariant.specs.Rounds.{is_item, owed_message}
use Rattle.cluster_steps.proofs.EndSteps.{bare_frames}
use Rattle.cluster_steps.proofs.JobEnds.{up_frame}

above : (n : ℕ) → nat_lt 0 (n + 1) ≡ true
above n = lt-ltb 0 (n + 1) (omega arith)

numbered_follows : (m : Up) (n taken : ℕ) → is_numbered_up m ≡ true → is_following (up_frame taken (n + 1, m)) ≡ true
numbered_follows (ups.Hello app dial) n taken is = absurd (false≢true is)
numbered_follows (ups.Recover app session epoch said dial) n taken is = absurd (false≢true is)
numbered_follows (ups.Update w job txn op) n taken is = above n
numbered_follows (ups.Add w job key amount) n taken is = above n
numbered_follows (ups.Fetch key) n taken is = above n
numbered_follows (ups.Ask ticket job mode key) n taken is = above n
numbered_follows (ups.Unlock job mode key) n taken is = above n
numbered_follows (ups.Cancel ticket) n taken is = above n
numbered_follows (ups.Commit w job txn wanted) n taken is = above n
numbered_follows (ups.Rollback w job txn) n taken is = above n
numbered_follows (ups.Sync ticket) n taken is = above n
numbered_follows ups.Done n taken is = above n
numbered_follows (ups.Claim job mode number at key) n taken is = above n
numbered_follows ups.Bare n taken is = absurd (false≢true is)

-- Numbered messages may follow the first frame.
pub all_follow : (ms : List Up) (n taken : ℕ) → list_all is_numbered_up ms ≡ true → list_all is_following (map (up_frame taken) (numbered_from n ms)) ≡ true
all_follow [] n taken is = refl
all_follow (m ∷ ms) n taken is =
    ap (λ (b : Bool). b && list_all is_following (map (up_frame taken) (numbered_from (n + 1) ms)))
    (numbered_follows m n taken (and_parts (is_numbered_up m) (list_all is_numbered_up ms) is).0)
    ∙ all_follow ms (n + 1) taken (and_parts (is_numbered_up m) (list_all is_numbered_up ms) is).1

pub follow_joined : (fs gs : List UpFrame) → list_all is_following fs ≡ true → list_all is_following gs ≡ true → list_all is_following (fs ++ gs) ≡ true
follow_joined fs gs a b = list_all-append is_following fs gs ∙ ap (λ (t : Bool). t && list_all is_following gs) a ∙ b

pub bare_follows : (bare : Bool) (taken : ℕ) → list_all is_following (bare_frames bare taken) ≡ true
bare_follows true taken = refl
bare_follows false taken = refl

-- parts of a list
drop_all : {M : Type 0} (p : M → Bool) (n : ℕ) (ms : List M) → list_all p ms ≡ true → list_all p (drop n ms) ≡ true
drop_all p zero ms is = is
drop_all p (suc n) [] is = is
drop_all p (suc n) (m ∷ ms) is = drop_all p n ms (and_parts (p m) (list_all p ms) is).1

-- What goes out again from a window may follow.
pub resent_follow : (w : Window Up) (taken said : ℕ) → list_all is_numbered_up w.waiting ≡ true → list_all is_following (map (up_frame said) (resent w taken)) ≡ true
resent_follow w taken said is = go (nat_lt (sent w) taken)
  where
    go : (b : Bool) → list_all is_following (map (up_frame said) (if b then [] else numbered_from (max taken w.acked) (drop (taken - w.acked) w.waiting))) ≡ true
    go true = refl
    go false = all_follow (drop (taken - w.acked) w.waiting) (max taken w.acked) said (drop_all is_numbered_up (taken - w.acked) w.waiting is)

pub numbered_joined : (ms ns : List Up) → list_all is_numbered_up ms ≡ true → list_all is_numbered_up ns ≡ true → list_all is_numbered_up (ms ++ ns) ≡ true
numbered_joined ms ns a b = list_all-append is_numbered_up ms ns ∙ ap (λ (t : Bool). t && list_all is_numbered_up ns) a ∙ b

-- messages that have numbers by their kind
mapped_numbered : {M : Type 0} (f : M → Up) → ((x : M) → is_numbered_up (f x) ≡ true) → (xs : List M) → list_all is_numbered_up (map f xs) ≡ true
mapped_numbered f is [] = refl
mapped_numbered f is (x ∷ xs) = ap (λ (b : Bool). b && list_all is_numbered_up (map f xs)) (is x) ∙ mapped_numbered f is xs

-- What is put again after Normal.
pub again_numbered : (s : Session) → list_all is_numbered_up (to_put_again s) ≡ true
again_numbered s =
    numbered_joined (map ask_of (filter is_ask_unput s.asks) ++ map fetch_of s.again) (map sync_of (filter is_sync_unput s.syncs))
    (numbered_joined (map ask_of (filter is_ask_unput s.asks)) (map fetch_of s.again)
    (mapped_numbered ask_of (λ (a : Asked). refl) (filter is_ask_unput s.asks)) (mapped_numbered fetch_of (λ (a : Fetching). refl) s.again))
    (mapped_numbered sync_of (λ (a : Syncing). refl) (filter is_sync_unput s.syncs))

-- items

item_numbered : (m : Up) → is_item m ≡ true → is_numbered_up m ≡ true
item_numbered (ups.Hello app dial) is = absurd (false≢true is)
item_numbered (ups.Recover app session epoch said dial) is = absurd (false≢true is)
item_numbered (ups.Update w job txn op) is = refl
item_numbered (ups.Add w job key amount) is = refl
item_numbered (ups.Fetch key) is = absurd (false≢true is)
item_numbered (ups.Ask ticket job mode key) is = absurd (false≢true is)
item_numbered (ups.Unlock job mode key) is = absurd (false≢true is)
item_numbered (ups.Cancel ticket) is = absurd (false≢true is)
item_numbered (ups.Commit w job txn wanted) is = refl
item_numbered (ups.Rollback w job txn) is = refl
item_numbered (ups.Sync ticket) is = absurd (false≢true is)
item_numbered ups.Done is = absurd (false≢true is)
item_numbered (ups.Claim job mode number at key) is = absurd (false≢true is)
item_numbered ups.Bare is = absurd (false≢true is)

items_numbered : (ms : List Up) → list_all is_item ms ≡ true → list_all is_numbered_up ms ≡ true
items_numbered [] is = refl
items_numbered (m ∷ ms) is =
    ap (λ (b : Bool). b && list_all is_numbered_up ms) (item_numbered m (and_parts (is_item m) (list_all is_item ms) is).0)
    ∙ items_numbered ms (and_parts (is_item m) (list_all is_item ms) is).1

-- one more, or none
item_more : (m : Up) (ms : List Up) → is_item m ≡ true → list_all is_item ms ≡ true → list_all is_item (m ∷ ms) ≡ true
item_more m ms a b = ap (λ (t : Bool). t && list_all is_item ms) a ∙ b

filtered_items : (p : Queued → Bool) (is : List Queued) → list_all is_item (map message_of is) ≡ true → list_all is_item (map message_of (filter p is)) ≡ true
filtered_items p [] all = refl
filtered_items p (i ∷ is) all =
    go (p i) (and_parts (is_item i.message) (list_all is_item (map message_of is)) all).0
    (filtered_items p is (and_parts (is_item i.message) (list_all is_item (map message_of is)) all).1)
  where
    go : (b : Bool) → is_item i.message ≡ true → list_all is_item (map message_of (filter p is)) ≡ true
        → list_all is_item (map message_of (if b then i ∷ filter p is else filter p is)) ≡ true
    go true its more = item_more i.message (map message_of (filter p is)) its more
    go false its more = more

one_owed_items : (o : Owed) (is : List Queued) → is_item o.message ≡ true → list_all is_item (map message_of is) ≡ true
    → list_all is_item (map message_of (with_one_owed o is)) ≡ true
one_owed_items o [] its all = item_more o.message [] its refl
one_owed_items o (i ∷ is) its all =
    go (nat_lt o.w i.w) (o.w == i.w) (and_parts (is_item i.message) (list_all is_item (map message_of is)) all).0
    (one_owed_items o is its (and_parts (is_item i.message) (list_all is_item (map message_of is)) all).1)
  where
    go : (b c : Bool) → is_item i.message ≡ true → list_all is_item (map message_of (with_one_owed o is)) ≡ true
        → list_all is_item (map message_of (if b then record { w = o.w; message = o.message; job = o.job } ∷ i ∷ is
        else (if c then i ∷ is else i ∷ with_one_owed o is))) ≡ true
    go true c first more = item_more o.message (map message_of (i ∷ is)) its all
    go false true first more = all
    go false false first more = item_more i.message (map message_of (with_one_owed o is)) first more

all_owed_items : (os : List Owed) (is : List Queued) → list_all is_item (map owed_message os) ≡ true → list_all is_item (map message_of is) ≡ true
    → list_all is_item (map message_of (with_all_owed os is)) ≡ true
all_owed_items [] is its all = all
all_owed_items (o ∷ os) is its all =
    all_owed_items os (with_one_owed o is) (and_parts (is_item o.message) (list_all is_item (map owed_message os)) its).1
    (one_owed_items o is (and_parts (is_item o.message) (list_all is_item (map owed_message os)) its).0 all)

-- What is put as a session learns of a new epoch, where what it sends again are items.
pub told_numbered : (w n : ℕ) (s : Session) → list_all is_item (map message_of s.queue) ≡ true → list_all is_item (map owed_message s.owed) ≡ true
    → list_all is_numbered_up (told_puts w (synced_up n s)) ≡ true
told_numbered w n s queued owed =
    numbered_joined (map claim_of s.held ++ map message_of (to_send w (synced_up n s))) (ups.Done ∷ [])
    (numbered_joined (map claim_of s.held) (map message_of (to_send w (synced_up n s))) (mapped_numbered claim_of (λ (h : Held). refl) s.held)
    (items_numbered (map message_of (to_send w (synced_up n s)))
    (all_owed_items s.owed (filter (is_above w) (filter (is_above n) s.queue)) owed
    (filtered_items (is_above w) (filter (is_above n) s.queue) (filtered_items (is_above n) s.queue queued))))) refl
