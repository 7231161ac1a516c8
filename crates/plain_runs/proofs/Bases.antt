-- The order that a session is told of, and how far what is sent in it and what its jobs have seen reach.
use Rattle.std.proofs.Common.{◌≡◌, ℕ, zero, suc, ◌≤◌, ◌<◌, ◌+◌, List, [], ◌∷◌, ◌++◌, length, refl, subst, sym, ap, ◌∙◌, Bool, true, false, eqb, if◌then◌else◌, arith, length-append, get_or, ◌⊎◌, inl, inr, Option, Some, None}
use Rattle.std.specs.Prelude.{is_some}
use Rattle.std.proofs.lemmas.Bool.{eqb-true, eqb-false, ne_eqb}
use Rattle.plain_orders.specs.declared.entry.Entry.{Entry}
use Rattle.plain_orders.specs.declared.entry.Entry.TheVariants.{Epoch, Opened as OpenedEntry, Closed, Update, Commit, Rollback}
use Rattle.plain_orders.specs.declared.layout.Layout.{Layout}
use Rattle.plain_orders.specs.Entries.{live, live_from, live_after}
use Rattle.plain_runs.specs.Plain.{Server, Session, Entered, Hold, app_of}
use Rattle.plain_runs.specs.OrderRows.{EnterMay, entered}
use Rattle.plain_runs.proofs.Orders.{Each}
use Rattle.plain_runs.proofs.LockRows.{each_weaker}
use Rattle.plain_runs.specs.Holds.{is_sent}

abbrev pub told_in : Option Session → Option ℕ
told_in None = None
told_in (Some m) = Some m.told

abbrev pub owner_in : Option Session → Option ℕ
owner_in None = None
owner_in (Some m) = Some m.app

abbrev pub place_in : Option Entered → Option ℕ
place_in None = None
place_in (Some e) = Some e.in_order

abbrev pub or_else : Option ℕ → Option ℕ → Option ℕ
or_else None o = o
or_else (Some n) o = Some n

-- what the law sees of a server
pub record Sight : Type 0 where
  pub past : List (List Entry)
  pub order : List Entry
  pub synced : ℕ
  pub due : Option ℕ
  pub holds : List Hold
  pub told : ℕ → Option ℕ
  pub owner : ℕ → Option ℕ
  pub entered : ℕ → Option ℕ
  pub pair : ℕ → Option ℕ
  pub seen : ℕ → ℕ

abbrev pub sight : Server → Sight
sight s = record {
  past = s.past;
  order = s.order;
  synced = s.synced;
  due = s.due;
  holds = s.holds;
  told = λ n. told_in (s.session_at n);
  owner = λ n. owner_in (s.session_at n);
  entered = λ n. place_in (s.entered_at n);
  pair = λ a. (s.pair_at a).session;
  seen = λ j. (s.known_at j).seen;
}

abbrev pub len : List (List Entry) → List Entry → ℕ → ℕ
len past order k = length (get_or (past ++ order ∷ []) k [])

-- the place of the order that a session is told of, or was entered in
abbrev pub base : Sight → ℕ → Option ℕ
base v n = or_else (v.told n) (v.entered n)

-- a sent hold is within each order from that on
pub record SentKept (past : List (List Entry)) (order : List Entry) (f : ℕ → Option ℕ) (h : Hold) : Type 0 where
  pub behind : is_sent h ≡ true → h.session ≤ h.at
  pub within : is_sent h ≡ true → h.at ≤ length order
  pub reaches : is_sent h ≡ true → (b k : ℕ) → f h.session ≡ Some b → b ≤ k → k ≤ length past → h.at ≤ len past order k

pub record ToldKept (l : Layout) (v : Sight) : Type 0 where
  pub low : (n b : ℕ) → base v n ≡ Some b → b ≤ length v.past
  pub place : (n b : ℕ) → v.entered n ≡ Some b → n ≤ len v.past v.order b
  pub met : (n : ℕ) → is_some (v.told n) ≡ true → n ≤ v.synced
  pub up : v.due ≡ None → (n : ℕ) → live v.order n ≡ true → base v n ≡ Some (length v.past)
  pub sent : Each (SentKept v.past v.order (base v)) v.holds
  pub its : (a n : ℕ) → v.pair a ≡ Some n → v.owner n ≡ Some a
  pub seen : (j n b : ℕ) → j < length l.job_apps → v.pair (app_of l j) ≡ Some n → v.told n ≡ Some b → v.seen j ≤ len v.past v.order b

-- the orders stay, and sessions keep their places
pub quiet : (l : Layout) (v w : Sight) → w ≡ record v { holds = w.holds; told = w.told; owner = w.owner; entered = w.entered; pair = w.pair; seen = w.seen }
    → ((n : ℕ) → w.told n ≡ v.told n) → ((n : ℕ) → w.owner n ≡ v.owner n) → ((n : ℕ) → w.entered n ≡ v.entered n) → ((a n : ℕ) → w.pair a ≡ Some n → v.pair a ≡ Some n)
    → Each (SentKept v.past v.order (base v)) w.holds
    → ((j n b : ℕ) → v.pair (app_of l j) ≡ Some n → v.told n ≡ Some b → v.seen j ≤ len v.past v.order b → w.seen j ≤ len v.past v.order b)
    → ToldKept l v → ToldKept l w
quiet l v w same told owner ent pair holds seen k = subst (ToldKept l) (sym same) (record {
  low = λ n b e. k.low n b (sym (bases n) ∙ e);
  place = λ n b e. k.place n b (sym (ent n) ∙ e);
  met = λ n m. k.met n (subst (λ o. is_some o ≡ true) (told n) m);
  up = λ d n on. bases n ∙ k.up d n on;
  sent = each_weaker (SentKept v.past v.order (base v)) (SentKept v.past v.order (base w))
      (λ h x. record { behind = x.behind; within = x.within; reaches = λ s b i e low high. x.reaches s b i (sym (bases h.session) ∙ e) low high }) w.holds holds;
  its = λ a n e. owner n ∙ k.its a n (pair a n e);
  seen = λ j n b there p t. seen j n b (pair (app_of l j) n p) (sym (told n) ∙ t) (k.seen j n b there (pair (app_of l j) n p) (sym (told n) ∙ t));
})
  where
    bases : (n : ℕ) → base w n ≡ base v n
    bases n = ap (λ o. or_else o (w.entered n)) (told n) ∙ ap (or_else (v.told n)) (ent n)

-- the orders grow
pub grow : (l : Layout) (v w : Sight) → w ≡ record v { past = w.past; order = w.order; synced = w.synced; due = w.due; holds = w.holds }
    → ((i : ℕ) → len v.past v.order i ≤ len w.past w.order i) → length v.past ≤ length w.past → v.synced ≤ w.synced
    → (w.due ≡ None → (n : ℕ) → live w.order n ≡ true → base v n ≡ Some (length w.past))
    → Each (SentKept w.past w.order (base v)) w.holds → ToldKept l v → ToldKept l w
grow l v w same long more low up sent k = subst (ToldKept l) (sym same) (record {
  low = λ n b e. omega (arith, k.low n b e, more);
  place = λ n b e. omega (arith, k.place n b e, long b);
  met = λ n m. omega (arith, k.met n m, low);
  up = up;
  sent = sent;
  its = k.its;
  seen = λ j n b there p t. omega (arith, k.seen j n b there p t, long b);
})

-- the last order is longer
pub long_last : (os : List (List Entry)) (o p : List Entry) (i : ℕ) → length o ≤ length p → length (get_or (os ++ o ∷ []) i []) ≤ length (get_or (os ++ p ∷ []) i [])
long_last [] o p zero low = low
long_last [] o p (suc i) low = omega arith
long_last (x ∷ os) o p zero low = omega arith
long_last (x ∷ os) o p (suc i) low = long_last os o p i low

-- there is an order more
pub long_more : (os : List (List Entry)) (p : List Entry) (i : ℕ) → length (get_or os i []) ≤ length (get_or (os ++ p ∷ []) i [])
long_more [] p i = omega arith
long_more (x ∷ os) p zero = omega arith
long_more (x ∷ os) p (suc i) = long_more os p i

pub live_push : (b : Bool) (es : List Entry) (e : Entry) (n : ℕ) → live_from b (es ++ e ∷ []) n ≡ live_after (live_from b es n) e n
live_push b [] e n = refl
live_push b (x ∷ es) e n = live_push (live_after b x n) es e n

push_longer : (past : List (List Entry)) (order : List Entry) (e : Entry) (i : ℕ) → len past order i ≤ len past (order ++ e ∷ []) i
push_longer past order e i = long_last past order (order ++ e ∷ []) i (omega (arith, length-append order (e ∷ [])))

push_sent : (past : List (List Entry)) (order : List Entry) (e : Entry) (f : ℕ → Option ℕ) (h : Hold) → SentKept past order f h → SentKept past (order ++ e ∷ []) f h
push_sent past order e f h x = record {
  behind = x.behind;
  within = λ s. omega (arith, x.within s, length-append order (e ∷ []));
  reaches = λ s b i y low high. omega (arith, x.reaches s b i y low high, push_longer past order e i);
}

-- an entry at the end that opens no session
pub push_row : (l : Layout) (s t : Server) (e : Entry) → sight t ≡ record (sight s) { order = s.order ++ e ∷ [] } → ((n : ℕ) → live_after (live s.order n) e n ≡ true → live s.order n ≡ true) → ToldKept l (sight s) → ToldKept l (sight t)
push_row l s t e same old k =
    subst (ToldKept l) (sym same)
    (grow l (sight s) (record (sight s) { order = s.order ++ e ∷ [] }) refl (push_longer s.past s.order e) (omega arith) (omega arith)
    (λ d n on. k.up d n (old n (sym (live_push false s.order e n) ∙ on)))
    (each_weaker (SentKept s.past s.order (base (sight s))) (SentKept s.past (s.order ++ e ∷ []) (base (sight s))) (push_sent s.past s.order e (base (sight s))) s.holds k.sent) k)

pub get_last : (xs : List (List Entry)) (x : List Entry) → length (get_or (xs ++ x ∷ []) (length xs) []) ≡ length x
get_last [] x = refl
get_last (y ∷ xs) x = get_last xs x

-- an Open at the end
pub open_row : (l : Layout) (s : Server) (session app : ℕ) → session ≡ length s.order + 1 → s.synced ≤ length s.order → ToldKept l (sight s) → ToldKept l (sight (entered s (OpenedEntry session app)))
open_row l s session app place within k = record {
  low = λ n b e. low n b e (facts n);
  place = λ n b e. placed n b e (facts n);
  met = k.met;
  up = λ d n on. up d n on (facts n);
  sent = each_weaker (SentKept s.past s.order (base (sight s))) (SentKept s.past new (base w)) sent s.holds k.sent;
  its = k.its;
  seen = λ j n b there p t. omega (arith, k.seen j n b there p t, push_longer s.past s.order (OpenedEntry session app) b);
}
  where
    w : Sight
    w = sight (entered s (OpenedEntry session app))

    new : List Entry
    new = s.order ++ OpenedEntry session app ∷ []

    here : Option Entered
    here = Some (record { app = app; in_order = length s.past; lost_since = false })

    none : (o : Option ℕ) → (is_some o ≡ true → session ≤ s.synced) → o ≡ None
    none None f = refl
    none (Some x) f = absurd (omega (arith, f refl, place, within))

    fresh : (n : ℕ) → n ≡ session → told_in (s.session_at n) ≡ None
    fresh n e = subst (λ m. told_in (s.session_at m) ≡ None) (sym e) (none (told_in (s.session_at session)) (k.met session))

    facts : (n : ℕ) → ((n ≡ session) × (w.entered n ≡ Some (length s.past))) ⊎ ((eqb n session ≡ false) × (w.entered n ≡ place_in (s.entered_at n)))
    facts n = go (eqb n session) refl
      where
        go : (b : Bool) → eqb n session ≡ b → ((n ≡ session) × (place_in (if b then here else s.entered_at n) ≡ Some (length s.past))) ⊎ ((eqb n session ≡ false) × (place_in (if b then here else s.entered_at n) ≡ place_in (s.entered_at n)))
        go true e = inl (eqb-true n session e, refl)
        go false e = inr (e, refl)

    new_base : (n : ℕ) → (n ≡ session) × (w.entered n ≡ Some (length s.past)) → base w n ≡ Some (length s.past)
    new_base n x = ap (λ o. or_else o (w.entered n)) (fresh n x.0) ∙ x.1

    old_base : (n : ℕ) → (eqb n session ≡ false) × (w.entered n ≡ place_in (s.entered_at n)) → base w n ≡ base (sight s) n
    old_base n x = ap (or_else (told_in (s.session_at n))) x.1

    low : (n b : ℕ) → base w n ≡ Some b → ((n ≡ session) × (w.entered n ≡ Some (length s.past))) ⊎ ((eqb n session ≡ false) × (w.entered n ≡ place_in (s.entered_at n))) → b ≤ length s.past
    low n b e (inl x) = let same : length s.past ≡ b = cc (e, new_base n x) in omega (arith, same)
    low n b e (inr x) = k.low n b (sym (old_base n x) ∙ e)

    placed : (n b : ℕ) → w.entered n ≡ Some b → ((n ≡ session) × (w.entered n ≡ Some (length s.past))) ⊎ ((eqb n session ≡ false) × (w.entered n ≡ place_in (s.entered_at n))) → n ≤ len s.past new b
    placed n b e (inl x) =
        let same : length s.past ≡ b = cc (e, x.1) in
        subst (λ i. n ≤ len s.past new i) same (omega (arith, x.0, place, get_last s.past new, length-append s.order (OpenedEntry session app ∷ [])))
    placed n b e (inr x) = omega (arith, k.place n b (sym x.1 ∙ e), push_longer s.past s.order (OpenedEntry session app) b)

    up : s.due ≡ None → (n : ℕ) → live new n ≡ true → ((n ≡ session) × (w.entered n ≡ Some (length s.past))) ⊎ ((eqb n session ≡ false) × (w.entered n ≡ place_in (s.entered_at n))) → base w n ≡ Some (length s.past)
    up d n on (inl x) = new_base n x
    up d n on (inr x) =
        let other : eqb session n ≡ false = ne_eqb session n (λ e. eqb-false n session x.0 (sym e)) in
        old_base n x ∙ k.up d n (subst (λ (b : Bool). (if b then true else live s.order n) ≡ true) other (sym (live_push false s.order (OpenedEntry session app) n) ∙ on))

    sent : (h : Hold) → SentKept s.past s.order (base (sight s)) h → SentKept s.past new (base w) h
    sent h x = record {
      behind = x.behind;
      within = λ y. omega (arith, x.within y, length-append s.order (OpenedEntry session app ∷ []));
      reaches = λ y b i e lo hi. reach y b i e lo hi (facts h.session);
    }
      where
        reach : is_sent h ≡ true → (b i : ℕ) → base w h.session ≡ Some b → b ≤ i → i ≤ length s.past
            → ((h.session ≡ session) × (w.entered h.session ≡ Some (length s.past))) ⊎ ((eqb h.session session ≡ false) × (w.entered h.session ≡ place_in (s.entered_at h.session))) → h.at ≤ len s.past new i
        reach y b i e lo hi (inl z) = absurd (omega (arith, z.0, place, x.behind y, x.within y))
        reach y b i e lo hi (inr z) = omega (arith, x.reaches y b i (sym (old_base h.session z) ∙ e) lo hi, push_longer s.past s.order (OpenedEntry session app) i)

closed_live : (c b : Bool) → (if c then false else b) ≡ true → b ≡ true
closed_live true b e = absurd (cc (e))
closed_live false b e = e

pub shut_row : (l : Layout) (s t : Server) (session : ℕ) → sight t ≡ record (sight s) { order = s.order ++ Closed session ∷ [] } → ToldKept l (sight s) → ToldKept l (sight t)
shut_row l s t session same k = push_row l s t (Closed session) same (λ n e. closed_live (eqb session n) (live s.order n) e) k

pub enter_row : (l : Layout) (clock : ℕ) (s : Server) (x : Entry) → EnterMay l clock s x → s.synced ≤ length s.order → ToldKept l (sight s) → ToldKept l (sight (entered s x))
enter_row l clock s (Epoch number) may within k = absurd may
enter_row l clock s (Closed session) may within k = absurd may
enter_row l clock s (OpenedEntry session app) may within k = open_row l s session app may.place within k
enter_row l clock s (Update session w job txn op) may within k = push_row l s (entered s (Update session w job txn op)) (Update session w job txn op) refl (λ n e. e) k
enter_row l clock s (Commit session w job txn) may within k = push_row l s (entered s (Commit session w job txn)) (Commit session w job txn) refl (λ n e. e) k
enter_row l clock s (Rollback session w job txn) may within k = push_row l s (entered s (Rollback session w job txn)) (Rollback session w job txn) refl (λ n e. e) k
