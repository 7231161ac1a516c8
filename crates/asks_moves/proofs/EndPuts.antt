-- The requests of an end with what its session put and took: they stay as they are to be as messages are put and taken.
use Rattle.std.proofs.Common.{◌≡◌, ◌≢◌, ◌≤◌, ◌<◌, ◌+◌, ◌⊎◌, inl, inr, ℕ, Bool, true, false, ◌&&◌, ◌||◌, ◌==◌, not, List, [], ◌∷◌, ◌++◌, is_some, refl, sym, ◌∙◌, ap, subst, arith}
use Rattle.std.specs.List.{AllByRecursion, list_any}
use Rattle.std.proofs.lemmas.Bool.{and_parts, eq-eqb, eqb-true, false≢true, ne_eqb}
use Rattle.std.proofs.lemmas.List.{append-nil, append_assoc}
use Rattle.std.proofs.lemmas.List.Folds.{list_any-append}
use Rattle.plain_orders.specs.declared.mode.Mode.{Mode}
use Rattle.plain_runs.proofs.Lists.{any_front}
use Rattle.ecp_messages.specs.declared.down.Down.{Down}
use Rattle.ecp_messages.specs.declared.up.Up.{Up}
use Rattle.ecp_messages.specs.declared.up.Up.TheVariants as up
use Rattle.app_rules.specs.declared.session_parts.Asked.{Asked}
use Rattle.cluster_runs.specs.Sent.{Lane, downs_taken}
use Rattle.cluster_invariant.specs.Asks.{AllFollow, AskedIs, EndAsks, FollowsAsks, LaneAsks, TicketsRise, asks_for, asks_ticket, cancels_ticket, grants_ticket, has_one_job, is_asked_by, is_over, is_put_for}
use Rattle.cluster_invariant.proofs.AllLists.{all_follow, all_joined}
use Rattle.asks_kept.proofs.AsksGo.{none_fewer}
use Rattle.asks_kept.proofs.Follows.{any_either, follow_joined, follow_over, over_wider}
use Rattle.asks_kept.proofs.UpKinds.{all_until, any_wider_test, before_all, until_all}
use Rattle.asks_change.proofs.LockedAsks.{new_ask}
use Rattle.asks_change.proofs.QuietLocks.{is_of_lock}

-- a request, by what was put and taken
pub record AskIn (ups : List Up) (taken : List Down) (newest : ℕ) (a : Asked) : Type 0 where
  pub below : a.ticket ≤ newest
  pub put : a.put ≡ true → list_any (asks_for a.ticket a.job) ups ≡ true
  pub granted : is_some a.at ≡ true → list_any (grants_ticket a.ticket) taken ≡ true

-- an Ask that was put: the newest ticket isn't below its own, and the end waits for it until it is over
abbrev pub WaitsIn : List Up → List Down → ℕ → List Asked → ℕ → ℕ → Type 0
WaitsIn ups taken newest asks t j = (t ≤ newest) × (is_over ups taken t ≡ false → list_any (is_put_for t j) asks ≡ true)

-- The requests of an end, by what was put and taken.
pub record AsksAre (ups : List Up) (taken : List Down) (newest : ℕ) (asks : List Asked) : Type 0 where
  pub follow : AllFollow [] taken ups
  pub one_each : has_one_job asks ≡ true
  pub rise : TicketsRise 0 asks
  pub each : AllByRecursion (AskIn ups taken newest) asks
  pub all : (t j : ℕ) → list_any (asks_for t j) ups ≡ true → WaitsIn ups taken newest asks t j

-- as the invariant says it, and back

pub are_of : (a : Lane) (n : ℕ) (asks : List Asked) → LaneAsks a → EndAsks a n asks → AsksAre a.up (downs_taken a) n asks
are_of a n asks lane h = record {
  follow = lane.follow;
  one_each = h.one_each;
  rise = h.rise;
  each = all_follow (AskedIs a n) (AskIn a.up (downs_taken a) n) (λ x is. record { below = is.below; put = is.put; granted = is.granted }) asks h.each;
  all = all_until a n asks a.up h.all;
}

pub end_of : (b : Lane) (n : ℕ) (asks : List Asked) → AsksAre b.up (downs_taken b) n asks → EndAsks b n asks
end_of b n asks h = record {
  one_each = h.one_each;
  rise = h.rise;
  each = all_follow (AskIn b.up (downs_taken b) n) (AskedIs b n) (λ x is. record { below = is.below; put = is.put; granted = is.granted }) asks h.each;
  all = until_all b n asks b.up h.all;
}

-- messages of no lock

no_ask : (t j : ℕ) (m : Up) → is_of_lock m ≡ false → asks_for t j m ≡ false
no_ask t j (up.Hello app dial) none = refl
no_ask t j (up.Recover app session epoch came dial) none = refl
no_ask t j (up.Update w job txn op) none = refl
no_ask t j (up.Add w job key amount) none = refl
no_ask t j (up.Fetch key) none = refl
no_ask t j (up.Ask ticket job mode key) none = absurd (false≢true (sym none))
no_ask t j (up.Unlock job mode key) none = refl
no_ask t j (up.Cancel ticket) none = refl
no_ask t j (up.Commit w job txn wanted) none = refl
no_ask t j (up.Rollback w job txn) none = refl
no_ask t j (up.Sync ticket) none = refl
no_ask t j up.Done none = refl
no_ask t j (up.Claim job mode number at key) none = refl
no_ask t j up.Bare none = refl

pub no_follow : (earlier : List Up) (taken : List Down) (m : Up) → is_of_lock m ≡ false → FollowsAsks earlier taken m
no_follow earlier taken (up.Hello app dial) none = tt
no_follow earlier taken (up.Recover app session epoch came dial) none = tt
no_follow earlier taken (up.Update w job txn op) none = tt
no_follow earlier taken (up.Add w job key amount) none = tt
no_follow earlier taken (up.Fetch key) none = tt
no_follow earlier taken (up.Ask ticket job mode key) none = absurd (false≢true (sym none))
no_follow earlier taken (up.Unlock job mode key) none = tt
no_follow earlier taken (up.Cancel ticket) none = absurd (false≢true (sym none))
no_follow earlier taken (up.Commit w job txn wanted) none = tt
no_follow earlier taken (up.Rollback w job txn) none = tt
no_follow earlier taken (up.Sync ticket) none = tt
no_follow earlier taken up.Done none = tt
no_follow earlier taken (up.Claim job mode number at key) none = absurd (false≢true (sym none))
no_follow earlier taken up.Bare none = tt

-- lists

pub any_behind : {X : Type 0} (p : X → Bool) (xs ys : List X) → list_any p ys ≡ true → list_any p (xs ++ ys) ≡ true
any_behind p xs ys is = list_any-append p xs ys ∙ go (list_any p xs)
  where
    go : (b : Bool) → (b || list_any p ys) ≡ true
    go true = refl
    go false = is

pub or_false : (b : Bool) → (b || false) ≡ b
or_false true = refl
or_false false = refl

-- what is over among fewer is so among more
over_ups : (ups more : List Up) (taken : List Down) (t : ℕ) → is_over ups taken t ≡ true → is_over (ups ++ more) taken t ≡ true
over_ups ups more taken t = over_wider ups (ups ++ more) taken taken t (any_front (cancels_ticket t) ups more) (λ is. is)

ask_more : (ups more : List Up) (taken : List Down) (n k : ℕ) (a : Asked) → n ≤ k → AskIn ups taken n a → AskIn (ups ++ more) taken k a
ask_more ups more taken n k a low is = record {
  below = omega (arith, is.below, low);
  put = λ put. any_front (asks_for a.ticket a.job) ups more (is.put put);
  granted = is.granted;
}

-- one message is put that is no Ask
one_put : (ups : List Up) (taken : List Down) (n k : ℕ) (asks : List Asked) (m : Up) → n ≤ k → FollowsAsks ups taken m → ((t j : ℕ) → asks_for t j m ≡ false)
    → AsksAre ups taken n asks → AsksAre (ups ++ m ∷ []) taken k asks
one_put ups taken n k asks m low follows other h = record {
  follow = follow_joined [] taken ups (m ∷ []) h.follow (follows, tt);
  one_each = h.one_each;
  rise = h.rise;
  each = all_follow (AskIn ups taken n) (AskIn (ups ++ m ∷ []) taken k) (λ a is. ask_more ups (m ∷ []) taken n k a low is) asks h.each;
  all = λ t j is. at t j (any_either (asks_for t j) ups (m ∷ []) is);
}
  where
    at : (t j : ℕ) → (list_any (asks_for t j) ups ≡ true) ⊎ (list_any (asks_for t j) (m ∷ []) ≡ true) → WaitsIn (ups ++ m ∷ []) taken k asks t j
    at t j (inl is) = by (h.all t j is)
      where
        by : WaitsIn ups taken n asks t j → WaitsIn (ups ++ m ∷ []) taken k asks t j
        by u = (omega (arith, u.0, low), λ kept. u.1 (none_fewer (is_over ups taken t) (is_over (ups ++ m ∷ []) taken t) (over_ups ups (m ∷ []) taken t) kept))
    at t j (inr is) = absurd (false≢true (sym (or_false (asks_for t j m) ∙ other t j) ∙ is))

-- Messages of no lock are put.
pub quiet_put : (ups : List Up) (taken : List Down) (n k : ℕ) (asks : List Asked) (ms : List Up) → n ≤ k → AllByRecursion (λ m. is_of_lock m ≡ false) ms
    → AsksAre ups taken n asks → AsksAre (ups ++ ms) taken k asks
quiet_put ups taken n k asks [] low none h = subst (λ (xs : List Up). AsksAre xs taken k asks) (sym (append-nil ups)) (record {
  follow = h.follow;
  one_each = h.one_each;
  rise = h.rise;
  each = all_follow (AskIn ups taken n) (AskIn ups taken k) (λ a is. record { below = omega (arith, is.below, low); put = is.put; granted = is.granted }) asks h.each;
  all = λ t j is. (omega (arith, (h.all t j is).0, low), (h.all t j is).1);
})
quiet_put ups taken n k asks (m ∷ ms) low none h =
    subst (λ (xs : List Up). AsksAre xs taken k asks) (append_assoc ups (m ∷ []) ms)
    (quiet_put (ups ++ m ∷ []) taken k k asks ms (omega arith) none.1 (one_put ups taken n k asks m low (no_follow ups taken m none.0) (λ t j. no_ask t j m none.0) h))

-- A request is given up.
pub cancel_put : (ups : List Up) (taken : List Down) (n c : ℕ) (asks : List Asked) → list_any (asks_ticket c) ups ≡ true → AsksAre ups taken n asks
    → AsksAre (ups ++ up.Cancel c ∷ []) taken n asks
cancel_put ups taken n c asks asked h = one_put ups taken n n asks (up.Cancel c) (omega arith) asked (λ t j. refl) h

-- an Ask is put

one_more : (job : ℕ) (a : Asked) (xs : List Asked) → a.job ≡ job → has_one_job xs ≡ true → list_any (is_asked_by job) xs ≡ false
    → has_one_job (xs ++ a ∷ []) ≡ true
one_more job a [] same one none = refl
one_more job a (x ∷ xs) same one none =
    ap (λ (b : Bool). not b && has_one_job (xs ++ a ∷ [])) (list_any-append (is_asked_by x.job) xs (a ∷ []))
    ∙ go (list_any (is_asked_by x.job) xs) (a.job == x.job) (and_parts (not (list_any (is_asked_by x.job) xs)) (has_one_job xs) one)
    (ne_eqb a.job x.job (λ here. false≢true (sym (parts (x.job == job) (list_any (is_asked_by job) xs) none).0 ∙ eq-eqb x.job job (sym here ∙ same))))
    (one_more job a xs same (and_parts (not (list_any (is_asked_by x.job) xs)) (has_one_job xs) one).1 (parts (x.job == job) (list_any (is_asked_by job) xs) none).1)
  where
    parts : (b c : Bool) → (b || c) ≡ false → (b ≡ false) × (c ≡ false)
    parts true c is = absurd (false≢true (sym is))
    parts false c is = (refl, is)

    go : (b c : Bool) → (not b ≡ true) × (has_one_job xs ≡ true) → c ≡ false → has_one_job (xs ++ a ∷ []) ≡ true
        → (not (b || (c || false)) && has_one_job (xs ++ a ∷ [])) ≡ true
    go true c both other more = absurd (false≢true both.0)
    go false true both other more = absurd (false≢true (sym other))
    go false false both other more = more

rise_more : (low n : ℕ) (a : Asked) (xs : List Asked) → a.ticket ≡ n + 1 → low ≤ n → AllByRecursion (λ (x : Asked). x.ticket ≤ n) xs → TicketsRise low xs
    → TicketsRise low (xs ++ a ∷ [])
rise_more low n a [] ticket below all rise = (omega (arith, ticket, below), tt)
rise_more low n a (x ∷ xs) ticket below all rise = (rise.0, rise_more x.ticket n a xs ticket all.0 all.1 rise.1)

put_job : (t j : ℕ) (a : Asked) → is_put_for t j a ≡ true → is_asked_by j a ≡ true
put_job t j a is = (and_parts (a.ticket == t) (a.job == j) (and_parts a.put (a.ticket == t && a.job == j) is).1).1

-- An Ask is put, of a job that waits for no other.
pub ask_put_new : (ups : List Up) (taken : List Down) (n job : ℕ) (mode : Mode) (key : List ℕ) (asks : List Asked) → list_any (is_asked_by job) asks ≡ false
    → AsksAre ups taken n asks → AsksAre (ups ++ up.Ask (n + 1) job mode key ∷ []) taken (n + 1) (asks ++ new_ask (n + 1) job mode key ∷ [])
ask_put_new ups taken n job mode key asks none h = record {
  follow = follow_joined [] taken ups (m ∷ []) h.follow (before_all ups taken (n + 1) job ups before, tt);
  one_each = one_more job (new_ask (n + 1) job mode key) asks refl h.one_each none;
  rise =
      rise_more 0 n (new_ask (n + 1) job mode key) asks refl (omega arith) (all_follow (AskIn ups taken n) (λ (x : Asked). x.ticket ≤ n) (λ x is. is.below) asks h.each) h.rise;
  each =
      all_joined (AskIn (ups ++ m ∷ []) taken (n + 1)) asks (new_ask (n + 1) job mode key ∷ [])
      (all_follow (AskIn ups taken n) (AskIn (ups ++ m ∷ []) taken (n + 1)) (λ a is. ask_more ups (m ∷ []) taken n (n + 1) a (omega arith) is) asks h.each) (
        record {
          below = omega arith;
          put = λ put. any_behind (asks_for (n + 1) job) ups (m ∷ []) (ap (λ (b : Bool). b || false) here);
          granted = λ none. absurd (false≢true none);
        },
        tt,
      );
  all = λ t j is. at t j (any_either (asks_for t j) ups (m ∷ []) is);
}
  where
    m : Up
    m = up.Ask (n + 1) job mode key

    more : List Asked
    more = asks ++ new_ask (n + 1) job mode key ∷ []

    here : (n + 1 == n + 1 && job == job) ≡ true
    here = ap (λ (b : Bool). b && job == job) (eq-eqb (n + 1) (n + 1) refl) ∙ eq-eqb job job refl

    before : (t j : ℕ) → list_any (asks_for t j) ups ≡ true → (t < n + 1) × (j ≡ job → is_over ups taken t ≡ true)
    before t j is = (omega (arith, (h.all t j is).0), λ same. over same (is_over ups taken t) refl)
      where
        over : j ≡ job → (b : Bool) → is_over ups taken t ≡ b → is_over ups taken t ≡ true
        over same true is_so = is_so
        over same false is_so =
            absurd (false≢true (sym none ∙ any_wider_test (is_put_for t j) (is_asked_by job)
            (λ a found. subst (λ (i : ℕ). is_asked_by i a ≡ true) same (put_job t j a found)) asks ((h.all t j is).1 is_so)))

    at : (t j : ℕ) → (list_any (asks_for t j) ups ≡ true) ⊎ (list_any (asks_for t j) (m ∷ []) ≡ true) → WaitsIn (ups ++ m ∷ []) taken (n + 1) more t j
    at t j (inl is) = by (h.all t j is)
      where
        by : WaitsIn ups taken n asks t j → WaitsIn (ups ++ m ∷ []) taken (n + 1) more t j
        by u = (
          omega (arith, u.0),
          λ kept.
              any_front (is_put_for t j) asks (new_ask (n + 1) job mode key ∷ [])
              (u.1 (none_fewer (is_over ups taken t) (is_over (ups ++ m ∷ []) taken t) (over_ups ups (m ∷ []) taken t) kept)),
        )
    at t j (inr is) = by (and_parts (n + 1 == t) (job == j) (sym (or_false (n + 1 == t && job == j)) ∙ is))
      where
        by : ((n + 1 == t) ≡ true) × ((job == j) ≡ true) → WaitsIn (ups ++ m ∷ []) taken (n + 1) more t j
        by same = (
          omega (arith, eqb-true (n + 1) t same.0),
          λ kept.
              any_behind (is_put_for t j) asks (new_ask (n + 1) job mode key ∷ [])
              (ap (λ (b : Bool). (b && job == j) || false) same.0 ∙ ap (λ (b : Bool). b || false) same.1),
        )

-- A message is taken.
pub down_taken : (ups : List Up) (taken : List Down) (n : ℕ) (asks : List Asked) (later : List Down) → AsksAre ups taken n asks
    → AsksAre ups (taken ++ later) n asks
down_taken ups taken n asks later h = record {
  follow = follow_over [] taken (taken ++ later) over ups h.follow;
  one_each = h.one_each;
  rise = h.rise;
  each =
      all_follow (AskIn ups taken n) (AskIn ups (taken ++ later) n)
      (λ a is. record { below = is.below; put = is.put; granted = λ at. any_front (grants_ticket a.ticket) taken later (is.granted at) }) asks h.each;
  all = λ t j is. ((h.all t j is).0, λ kept. (h.all t j is).1 (none_fewer (is_over ups taken t) (is_over ups (taken ++ later) t) (over ups t) kept));
}
  where
    over : (xs : List Up) (t : ℕ) → is_over xs taken t ≡ true → is_over xs (taken ++ later) t ≡ true
    over xs t = over_wider xs xs taken (taken ++ later) t (λ is. is) (any_front (grants_ticket t) taken later)
