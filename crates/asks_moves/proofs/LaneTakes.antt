-- The lane of a session that goes on: what was taken, and that its requests are as they have to be where those of the end are.
use Rattle.std.proofs.Common.{◌≡◌, ◌≤◌, ◌+◌, ℕ, zero, suc, Bool, true, false, ◌||◌, cond, not, List, [], ◌∷◌, ◌++◌, drop, filter, length, take, Option, Some, None, refl, sym, ◌∙◌, ap, subst, arith}
use Rattle.std.specs.List.{AllByRecursion, list_all, list_any}
use Rattle.std.specs.Prelude.{◌&&◌}
use Rattle.std.proofs.lemmas.Bool.{and_parts, false≢true}
use Rattle.std.proofs.lemmas.List.{append-nil, take-append-le}
use Rattle.plain_orders.specs.declared.entry.Entry.{Entry}
use Rattle.ecp_messages.specs.declared.down.Down.{Down}
use Rattle.ecp_messages.specs.declared.up.Up.{Up}
use Rattle.ecp_messages.specs.declared.up.Up.TheVariants as up
use Rattle.app_rules.specs.declared.session_parts.Asked.{Asked}
use Rattle.cluster_runs.specs.Written.{count_of}
use Rattle.cluster_runs.specs.Sent.{Lane, downs_taken, ups_taken}
use Rattle.cluster_invariant.specs.Asks.{AllFollow, EndAsks, GrantsAsked, LaneAsks, is_ask}
use Rattle.cluster_invariant.specs.Rounds.{ComesBack, LaneRound, awaits_normal, is_claim, is_item}
use Rattle.cluster_invariant.specs.Words.{is_begun, is_normal_down, is_opened_in}
use Rattle.rounds_apps.proofs.RoundLanes.{LaneGoes, TakesNext}
use Rattle.asks_kept.proofs.Follows.{follow_joined, none_joined}
use Rattle.asks_moves.proofs.EndPuts.{AsksAre, end_of}

-- what was taken

take_next : {X : Type 0} (n : ℕ) (xs : List X) (x : X) (rest : List X) → drop n xs ≡ x ∷ rest → take (n + 1) xs ≡ take n xs ++ x ∷ []
take_next {X} zero [] x rest is = absurd (none is)
  where
    none : ◌≡◌ {A = List X} [] (x ∷ rest) → ⊥
    none e = absurd cc
take_next {X} (suc n) [] x rest is = absurd (none is)
  where
    none : ◌≡◌ {A = List X} [] (x ∷ rest) → ⊥
    none e = absurd cc
take_next {X} zero (y ∷ ys) x rest is = ap (λ (z : X). z ∷ []) (head is)
  where
    head : y ∷ ys ≡ x ∷ rest → y ≡ x
    head e = cc
take_next {X} (suc n) (y ∷ ys) x rest is =
    ap (λ (k : ℕ). take k (y ∷ ys)) (let same : suc n + 1 ≡ suc (n + 1) = omega arith in same) ∙ ap (λ (zs : List X). y ∷ zs) (take_next n ys x rest is)

-- a message, if one was taken
abbrev pub taken_list : Option Down → List Down
taken_list None = []
taken_list (Some w) = w ∷ []

pub taken_after : (a b : Lane) (took : Option Down) (put : List Up) → LaneGoes a b took put → TakesNext took a
    → downs_taken b ≡ downs_taken a ++ taken_list took
taken_after a b None put g next =
    ap (λ (ms : List Down). take b.down_taken ms) g.down
    ∙ ap (λ (n : ℕ). take n a.down) (let same : b.down_taken ≡ a.down_taken = omega (arith, g.down_taken) in same) ∙ sym (append-nil (downs_taken a))
taken_after a b (Some w) put g next =
    ap (λ (ms : List Down). take b.down_taken ms) g.down ∙ ap (λ (n : ℕ). take n a.down) g.down_taken ∙ take_next a.down_taken a.down w next.0 next.1

-- Both halves, where the requests of the end are as they have to be.
pub lane_both : (a b : Lane) (took : Option Down) (put : List Up) (n : ℕ) (asks : List Asked) → a.up_taken ≤ length a.up → LaneAsks a → LaneGoes a b took put
    → TakesNext took a → AsksAre (a.up ++ put) (downs_taken a ++ taken_list took) n asks → LaneAsks b × EndAsks b n asks
lane_both a b took put n asks low lane g next are = (
  record {
    follow = here.follow;
    grants =
        subst (λ (ms : List Down). AllByRecursion (GrantsAsked (ups_taken b)) ms) (sym g.down)
        (subst (λ (ms : List Up). AllByRecursion (GrantsAsked ms) a.down) (sym ups) lane.grants);
  },
  end_of b n asks here,
)
  where
    ups : ups_taken b ≡ ups_taken a
    ups = ap (λ (k : ℕ). take k b.up) g.up_taken ∙ ap (take a.up_taken) g.up ∙ take-append-le a.up_taken a.up put low

    here : AsksAre b.up (downs_taken b) n asks
    here =
        subst (λ (ms : List Up). AsksAre ms (downs_taken b) n asks) (sym g.up)
        (subst (λ (ms : List Down). AsksAre (a.up ++ put) ms n asks) (sym (taken_after a b took put g next)) are)

-- what comes back in a new epoch asks for nothing

claim_no_ask : (m : Up) → is_claim m ≡ true → is_ask m ≡ false
claim_no_ask (up.Hello app dial) is = refl
claim_no_ask (up.Recover app session epoch came dial) is = refl
claim_no_ask (up.Update w job txn op) is = refl
claim_no_ask (up.Add w job key amount) is = refl
claim_no_ask (up.Fetch key) is = refl
claim_no_ask (up.Ask ticket job mode key) is = absurd (false≢true is)
claim_no_ask (up.Unlock job mode key) is = refl
claim_no_ask (up.Cancel ticket) is = refl
claim_no_ask (up.Commit w job txn wanted) is = refl
claim_no_ask (up.Rollback w job txn) is = refl
claim_no_ask (up.Sync ticket) is = refl
claim_no_ask up.Done is = refl
claim_no_ask (up.Claim job mode number at key) is = refl
claim_no_ask up.Bare is = refl

item_no_ask : (m : Up) → is_item m ≡ true → is_ask m ≡ false
item_no_ask (up.Hello app dial) is = refl
item_no_ask (up.Recover app session epoch came dial) is = refl
item_no_ask (up.Update w job txn op) is = refl
item_no_ask (up.Add w job key amount) is = refl
item_no_ask (up.Fetch key) is = refl
item_no_ask (up.Ask ticket job mode key) is = absurd (false≢true is)
item_no_ask (up.Unlock job mode key) is = refl
item_no_ask (up.Cancel ticket) is = refl
item_no_ask (up.Commit w job txn wanted) is = refl
item_no_ask (up.Rollback w job txn) is = refl
item_no_ask (up.Sync ticket) is = refl
item_no_ask up.Done is = refl
item_no_ask (up.Claim job mode number at key) is = refl
item_no_ask up.Bare is = refl

none_of : (p : Up → Bool) → ((m : Up) → p m ≡ true → is_ask m ≡ false) → (ms : List Up) → list_all p ms ≡ true → list_any is_ask ms ≡ false
none_of p each [] all = refl
none_of p each (m ∷ ms) all =
    ap (λ (b : Bool). b || list_any is_ask ms) (each m (and_parts (p m) (list_all p ms) all).0) ∙ none_of p each ms (and_parts (p m) (list_all p ms) all).1

pub back_no_ask : (ups : List Up) → ComesBack ups → list_any is_ask ups ≡ false
back_no_ask ups c =
    ap (list_any is_ask) c.all
    ∙ none_joined is_ask (c.claims ++ c.items) (up.Done ∷ [])
    (none_joined is_ask c.claims c.items (none_of is_claim claim_no_ask c.claims c.are_claims) (none_of is_item item_no_ask c.items c.are_items)) refl

-- and claims come first
claims_follow : (earlier : List Up) (taken : List Down) (ms : List Up) → list_any is_ask earlier ≡ false → list_all is_claim ms ≡ true
    → AllFollow earlier taken ms
claims_follow earlier taken [] none all = tt
claims_follow earlier taken (up.Claim job mode number at key ∷ ms) none all =
    (none, claims_follow (earlier ++ up.Claim job mode number at key ∷ []) taken ms (none_joined is_ask earlier (up.Claim job mode number at key ∷ []) none refl) all)
claims_follow earlier taken (up.Hello app dial ∷ ms) none all = absurd (false≢true all)
claims_follow earlier taken (up.Recover app session epoch came dial ∷ ms) none all = absurd (false≢true all)
claims_follow earlier taken (up.Update w job txn op ∷ ms) none all = absurd (false≢true all)
claims_follow earlier taken (up.Add w job key amount ∷ ms) none all = absurd (false≢true all)
claims_follow earlier taken (up.Fetch key ∷ ms) none all = absurd (false≢true all)
claims_follow earlier taken (up.Ask ticket job mode key ∷ ms) none all = absurd (false≢true all)
claims_follow earlier taken (up.Unlock job mode key ∷ ms) none all = absurd (false≢true all)
claims_follow earlier taken (up.Cancel ticket ∷ ms) none all = absurd (false≢true all)
claims_follow earlier taken (up.Commit w job txn wanted ∷ ms) none all = absurd (false≢true all)
claims_follow earlier taken (up.Rollback w job txn ∷ ms) none all = absurd (false≢true all)
claims_follow earlier taken (up.Sync ticket ∷ ms) none all = absurd (false≢true all)
claims_follow earlier taken (up.Done ∷ ms) none all = absurd (false≢true all)
claims_follow earlier taken (up.Bare ∷ ms) none all = absurd (false≢true all)

items_follow : (earlier : List Up) (taken : List Down) (ms : List Up) → list_all is_item ms ≡ true → AllFollow earlier taken ms
items_follow earlier taken [] all = tt
items_follow earlier taken (up.Update w job txn op ∷ ms) all = (tt, items_follow (earlier ++ up.Update w job txn op ∷ []) taken ms all)
items_follow earlier taken (up.Add w job key amount ∷ ms) all = (tt, items_follow (earlier ++ up.Add w job key amount ∷ []) taken ms all)
items_follow earlier taken (up.Commit w job txn wanted ∷ ms) all = (tt, items_follow (earlier ++ up.Commit w job txn wanted ∷ []) taken ms all)
items_follow earlier taken (up.Rollback w job txn ∷ ms) all = (tt, items_follow (earlier ++ up.Rollback w job txn ∷ []) taken ms all)
items_follow earlier taken (up.Hello app dial ∷ ms) all = absurd (false≢true all)
items_follow earlier taken (up.Recover app session epoch came dial ∷ ms) all = absurd (false≢true all)
items_follow earlier taken (up.Fetch key ∷ ms) all = absurd (false≢true all)
items_follow earlier taken (up.Ask ticket job mode key ∷ ms) all = absurd (false≢true all)
items_follow earlier taken (up.Unlock job mode key ∷ ms) all = absurd (false≢true all)
items_follow earlier taken (up.Cancel ticket ∷ ms) all = absurd (false≢true all)
items_follow earlier taken (up.Sync ticket ∷ ms) all = absurd (false≢true all)
items_follow earlier taken (up.Done ∷ ms) all = absurd (false≢true all)
items_follow earlier taken (up.Claim job mode number at key ∷ ms) all = absurd (false≢true all)
items_follow earlier taken (up.Bare ∷ ms) all = absurd (false≢true all)

pub back_follows : (ups : List Up) → ComesBack ups → AllFollow [] [] ups
back_follows ups c =
    subst (AllFollow [] []) (sym c.all)
    (follow_joined [] [] (c.claims ++ c.items) (up.Done ∷ [])
    (follow_joined [] [] c.claims c.items (claims_follow [] [] c.claims refl c.are_claims) (items_follow c.claims [] c.items c.are_items)) (tt, tt))

-- Before a Normal none was taken, and so it was awaited.

some_counted : (p : Down → Bool) (n : ℕ) (xs : List Down) (w : Down) (rest : List Down) → drop n xs ≡ w ∷ rest → p w ≡ true → 1 ≤ count_of p xs
some_counted p n [] w rest next is = absurd (nothing n next)
  where
    nothing : (k : ℕ) → ◌≡◌ {A = List Down} (drop k []) (w ∷ rest) → ⊥
    nothing zero e = absurd cc
    nothing (suc k) e = absurd cc
some_counted p zero (x ∷ xs) w rest next is = go (p x) (ap p (head next) ∙ is)
  where
    head : ◌≡◌ {A = List Down} (x ∷ xs) (w ∷ rest) → x ≡ w
    head e = cc

    go : (b : Bool) → b ≡ true → 1 ≤ length (cond b (x ∷ filter p xs) (filter p xs))
    go true found = omega arith
    go false found = absurd (false≢true found)
some_counted p (suc n) (x ∷ xs) w rest next is = go (p x) (some_counted p n xs w rest next is)
  where
    go : (b : Bool) → 1 ≤ count_of p xs → 1 ≤ length (cond b (x ∷ filter p xs) (filter p xs))
    go true more = omega (arith, more)
    go false more = more

counted : (p : Down → Bool) (n : ℕ) (xs : List Down) (w : Down) (rest : List Down) → drop n xs ≡ w ∷ rest → p w ≡ true → count_of p xs ≤ 1
    → list_any p (take n xs) ≡ false
counted p zero xs w rest next is low = refl
counted p (suc n) [] w rest next is low = refl
counted p (suc n) (x ∷ xs) w rest next is low = go (p x) low (some_counted p n xs w rest next is) (counted p n xs w rest next is)
  where
    go : (b : Bool) → length (cond b (x ∷ filter p xs) (filter p xs)) ≤ 1 → 1 ≤ count_of p xs → (count_of p xs ≤ 1 → list_any p (take n xs) ≡ false)
        → (b || list_any p (take n xs)) ≡ false
    go true few some more = absurd (omega (arith, few, some))
    go false few some more = more few

-- A Normal that is taken was awaited: so what was put before comes back in the new epoch.
pub normal_awaited : (es : List Entry) (session : ℕ) (lane : Lane) (w : Down) (rest : List Down) → LaneRound es session lane → is_begun lane ≡ true
    → drop lane.down_taken lane.down ≡ w ∷ rest → is_normal_down w ≡ true → (awaits_normal es session lane ≡ true) × ComesBack lane.up
normal_awaited es session lane w rest round begun next is = (awaited, round.awaits begun awaited)
  where
    any_here : (b : Bool) → is_opened_in es session ≡ b → is_opened_in es session ≡ false
    any_here true opened = absurd (few (some_counted is_normal_down lane.down_taken lane.down w rest next is) (round.opened opened))
      where
        none : (xs : List Down) → list_any is_normal_down xs ≡ false → count_of is_normal_down xs ≡ 0
        none [] e = refl
        none (x ∷ xs) e = go (is_normal_down x) e (none xs)
          where
            go : (b : Bool) → (b || list_any is_normal_down xs) ≡ false → (list_any is_normal_down xs ≡ false → count_of is_normal_down xs ≡ 0)
                → length (cond b (x ∷ filter is_normal_down xs) (filter is_normal_down xs)) ≡ 0
            go true e more = absurd (false≢true (sym e))
            go false e more = more e

        few : 1 ≤ count_of is_normal_down lane.down → list_any is_normal_down lane.down ≡ false → ⊥
        few some e = absurd (omega (arith, some, none lane.down e))
    any_here false opened = opened

    awaited : awaits_normal es session lane ≡ true
    awaited =
        ap (λ (b : Bool). not b && not (list_any is_normal_down (downs_taken lane))) (any_here (is_opened_in es session) refl)
        ∙ ap not (counted is_normal_down lane.down_taken lane.down w rest next is round.once)
