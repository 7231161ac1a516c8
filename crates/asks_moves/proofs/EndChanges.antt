-- The requests of an end stay as they are to be as those of a job are left, as one is granted, and as those that weren't put are put again.
use Rattle.std.proofs.Common.{◌≡◌, ◌≢◌, ◌≤◌, ◌<◌, ◌⊎◌, inl, inr, ℕ, Bool, true, false, ◌&&◌, ◌||◌, ◌==◌, cond, if◌then◌else◌, not, List, [], ◌∷◌, ◌++◌, filter, map, Some, is_some, refl, sym, ◌∙◌, ap, subst, arith}
use Rattle.std.specs.List.{AllByRecursion, list_all, list_any}
use Rattle.std.proofs.lemmas.Bool.{and_parts, eq-eqb, eqb-true, false≢true}
use Rattle.std.proofs.lemmas.List.{append_assoc}
use Rattle.std.proofs.lemmas.Map.Views.{any-filter_same}
use Rattle.ecp_messages.specs.declared.down.Down.{Down}
use Rattle.ecp_messages.specs.declared.up.Up.{Up}
use Rattle.app_rules.specs.declared.session_parts.Asked.{Asked}
use Rattle.app_rules.specs.Delivering.{ask_of, ask_put, grant_if, is_ask_unput}
use Rattle.app_rules.specs.JobStep.{is_ask_elsewhere}
use Rattle.app_rules.specs.Welcoming.{ask_anew}
use Rattle.cluster_invariant.specs.Asks.{AllFollow, TicketsRise, asks_for, grants_ticket, has_one_job, is_ask, is_asked_by, is_over, is_put_for}
use Rattle.cluster_invariant.proofs.AllLists.{all_filtered, all_follow}
use Rattle.asks_kept.proofs.Follows.{any_either, follow_joined}
use Rattle.asks_kept.proofs.UpKinds.{any_ask, any_ticket, before_all}
use Rattle.asks_moves.proofs.EndPuts.{AskIn, AsksAre, WaitsIn, any_behind, or_false}

-- those of a job are left

pub or_behind : (a b : Bool) → b ≡ true → (a || b) ≡ true
or_behind true b is = refl
or_behind false b is = is

pub any_filtered : {X : Type 0} (p q : X → Bool) (xs : List X) → list_any p (filter q xs) ≡ true → list_any p xs ≡ true
any_filtered p q [] is = is
any_filtered p q (x ∷ xs) is = go (q x) (p x) is (any_filtered p q xs)
  where
    go : (b a : Bool) → list_any p (cond b (x ∷ filter q xs) (filter q xs)) ≡ true → (list_any p (filter q xs) ≡ true → list_any p xs ≡ true)
        → (p x || list_any p xs) ≡ true
    go false a found more = or_behind (p x) (list_any p xs) (more found)
    go true a found more = by (p x) found
      where
        by : (c : Bool) → (c || list_any p (filter q xs)) ≡ true → (c || list_any p xs) ≡ true
        by true here = refl
        by false here = more here

not_left : (a b : Bool) → (a ≡ true → b ≡ true) → not b ≡ true → not a ≡ true
not_left true b fewer is = absurd (false≢true (ap not (sym (fewer refl)) ∙ is))
not_left false b fewer is = refl

and_both : (a b : Bool) → a ≡ true → b ≡ true → (a && b) ≡ true
and_both a b x y = ap (λ (c : Bool). c && b) x ∙ y

one_left : (q : Asked → Bool) (xs : List Asked) → has_one_job xs ≡ true → has_one_job (filter q xs) ≡ true
one_left q [] one = refl
one_left q (x ∷ xs) one =
    go (q x) (and_parts (not (list_any (is_asked_by x.job) xs)) (has_one_job xs) one).0
    (one_left q xs (and_parts (not (list_any (is_asked_by x.job) xs)) (has_one_job xs) one).1)
  where
    go : (b : Bool) → not (list_any (is_asked_by x.job) xs) ≡ true → has_one_job (filter q xs) ≡ true
        → has_one_job (cond b (x ∷ filter q xs) (filter q xs)) ≡ true
    go true none more =
        and_both (not (list_any (is_asked_by x.job) (filter q xs))) (has_one_job (filter q xs))
        (not_left (list_any (is_asked_by x.job) (filter q xs)) (list_any (is_asked_by x.job) xs) (any_filtered (is_asked_by x.job) q xs) none) more
    go false none more = more

rise_lower : (low k : ℕ) (xs : List Asked) → low ≤ k → TicketsRise k xs → TicketsRise low xs
rise_lower low k [] below rise = tt
rise_lower low k (x ∷ xs) below rise = (omega (arith, rise.0, below), rise.1)

rise_left : (q : Asked → Bool) (low : ℕ) (xs : List Asked) → TicketsRise low xs → TicketsRise low (filter q xs)
rise_left q low [] rise = tt
rise_left q low (x ∷ xs) rise = go (q x) (rise_left q x.ticket xs rise.1)
  where
    go : (b : Bool) → TicketsRise x.ticket (filter q xs) → TicketsRise low (cond b (x ∷ filter q xs) (filter q xs))
    go true more = (rise.0, more)
    go false more = rise_lower low x.ticket (filter q xs) (omega (arith, rise.0)) more

put_job : (t j : ℕ) (a : Asked) → is_put_for t j a ≡ true → (a.job == j) ≡ true
put_job t j a is = (and_parts (a.ticket == t) (a.job == j) (and_parts a.put (a.ticket == t && a.job == j) is).1).1

-- The requests of a job are left, where each that was put is over.
pub job_left : (ups : List Up) (taken : List Down) (n job : ℕ) (asks : List Asked)
    → ((t : ℕ) → list_any (is_put_for t job) asks ≡ true → is_over ups taken t ≡ true) → AsksAre ups taken n asks
    → AsksAre ups taken n (filter (is_ask_elsewhere job) asks)
job_left ups taken n job asks over h = record {
  follow = h.follow;
  one_each = one_left (is_ask_elsewhere job) asks h.one_each;
  rise = rise_left (is_ask_elsewhere job) 0 asks h.rise;
  each = all_filtered (AskIn ups taken n) (is_ask_elsewhere job) asks h.each;
  all = λ t j is. ((h.all t j is).0, λ kept. by t j kept ((h.all t j is).1 kept) (j == job) refl);
}
  where
    by : (t j : ℕ) → is_over ups taken t ≡ false → list_any (is_put_for t j) asks ≡ true → (b : Bool) → (j == job) ≡ b
        → list_any (is_put_for t j) (filter (is_ask_elsewhere job) asks) ≡ true
    by t j kept found true same =
        absurd (false≢true (sym kept ∙ over t (subst (λ (i : ℕ). list_any (is_put_for t i) asks ≡ true) (eqb-true j job same) found)))
    by t j kept found false other =
        any-filter_same (is_put_for t j) (is_ask_elsewhere job) true (λ a here. ap not (ap (λ (i : ℕ). i == job) (eqb-true a.job j (put_job t j a here)) ∙ other)) asks ∙ found

-- a change that leaves tickets and jobs

one_mapped : (g : Asked → Asked) → ((a : Asked) → (g a).job ≡ a.job) → (xs : List Asked) → has_one_job (map g xs) ≡ has_one_job xs
one_mapped g same [] = refl
one_mapped g same (x ∷ xs) =
    ap (λ (i : ℕ). not (list_any (is_asked_by i) (map g xs)) && has_one_job (map g xs)) (same x)
    ∙ ap (λ (b : Bool). not b && has_one_job (map g xs)) (asked x.job xs) ∙ ap (λ (b : Bool). not (list_any (is_asked_by x.job) xs) && b) (one_mapped g same xs)
  where
    asked : (i : ℕ) (ys : List Asked) → list_any (is_asked_by i) (map g ys) ≡ list_any (is_asked_by i) ys
    asked i [] = refl
    asked i (y ∷ ys) = ap (λ (j : ℕ). j == i || list_any (is_asked_by i) (map g ys)) (same y) ∙ ap (λ (b : Bool). y.job == i || b) (asked i ys)

rise_mapped : (g : Asked → Asked) → ((a : Asked) → (g a).ticket ≡ a.ticket) → (low : ℕ) (xs : List Asked) → TicketsRise low xs → TicketsRise low (map g xs)
rise_mapped g same low [] rise = tt
rise_mapped g same low (x ∷ xs) rise =
    (omega (arith, rise.0, same x), subst (λ (k : ℕ). TicketsRise k (map g xs)) (sym (same x)) (rise_mapped g same x.ticket xs rise.1))

all_mapped : {X : Type 0} (P Q : X → Type 0) (g : X → X) → ((x : X) → P x → Q (g x)) → (xs : List X) → AllByRecursion P xs → AllByRecursion Q (map g xs)
all_mapped P Q g each [] all = tt
all_mapped P Q g each (x ∷ xs) all = (each x all.0, all_mapped P Q g each xs all.1)

any_mapped : {X : Type 0} (p : X → Bool) (g : X → X) → ((x : X) → p (g x) ≡ p x) → (xs : List X) → list_any p (map g xs) ≡ list_any p xs
any_mapped p g same [] = refl
any_mapped p g same (x ∷ xs) = ap (λ (b : Bool). b || list_any p (map g xs)) (same x) ∙ ap (λ (b : Bool). p x || b) (any_mapped p g same xs)

-- One is granted, by a Grant that was taken.

granted_ticket : (ticket at : ℕ) (a : Asked) → (grant_if ticket at a).ticket ≡ a.ticket
granted_ticket ticket at a = go (a.ticket == ticket)
  where
    go : (b : Bool) → (if b then record a { at = Some at } else a).ticket ≡ a.ticket
    go true = refl
    go false = refl

granted_job : (ticket at : ℕ) (a : Asked) → (grant_if ticket at a).job ≡ a.job
granted_job ticket at a = go (a.ticket == ticket)
  where
    go : (b : Bool) → (if b then record a { at = Some at } else a).job ≡ a.job
    go true = refl
    go false = refl

granted_put : (ticket at t j : ℕ) (a : Asked) → is_put_for t j (grant_if ticket at a) ≡ is_put_for t j a
granted_put ticket at t j a = go (a.ticket == ticket)
  where
    go : (b : Bool) → is_put_for t j (if b then record a { at = Some at } else a) ≡ is_put_for t j a
    go true = refl
    go false = refl

pub grant_taken : (ups : List Up) (taken : List Down) (n ticket at : ℕ) (asks : List Asked) → list_any (grants_ticket ticket) taken ≡ true
    → AsksAre ups taken n asks
    → AsksAre ups taken n (map (grant_if ticket at) asks)
grant_taken ups taken n ticket at asks came h = record {
  follow = h.follow;
  one_each = one_mapped (grant_if ticket at) (granted_job ticket at) asks ∙ h.one_each;
  rise = rise_mapped (grant_if ticket at) (granted_ticket ticket at) 0 asks h.rise;
  each = all_mapped (AskIn ups taken n) (AskIn ups taken n) (grant_if ticket at) granted asks h.each;
  all = λ t j is. ((h.all t j is).0, λ kept. any_mapped (is_put_for t j) (grant_if ticket at) (granted_put ticket at t j) asks ∙ (h.all t j is).1 kept);
}
  where
    granted : (a : Asked) → AskIn ups taken n a → AskIn ups taken n (grant_if ticket at a)
    granted a is = go (a.ticket == ticket) refl
      where
        go : (b : Bool) → (a.ticket == ticket) ≡ b → AskIn ups taken n (if b then record a { at = Some at } else a)
        go true same =
            record { below = is.below; put = is.put; granted = λ some. subst (λ (t : ℕ). list_any (grants_ticket t) taken ≡ true) (sym (eqb-true a.ticket ticket same)) came }
        go false other = is

-- those that weren't put are put

-- one that is above all those of other jobs
abbrev Above : ℕ → ℕ → Asked → Type 0
Above t j a = (t < a.ticket) × (j ≢ a.job)

above_all : (a : Asked) (low : ℕ) (xs : List Asked) → a.ticket ≤ low → TicketsRise low xs → list_any (is_asked_by a.job) xs ≡ false
    → AllByRecursion (Above a.ticket a.job) xs
above_all a low [] below rise none = tt
above_all a low (x ∷ xs) below rise none =
    let parts : ((x.job == a.job) ≡ false) × (list_any (is_asked_by a.job) xs ≡ false) = two (x.job == a.job) (list_any (is_asked_by a.job) xs) none in (
      (omega (arith, rise.0, below), λ same. false≢true (sym parts.0 ∙ eq-eqb x.job a.job (sym same))),
      above_all a x.ticket xs (omega (arith, rise.0, below)) rise.1 parts.1,
    )
  where
    two : (b c : Bool) → (b || c) ≡ false → (b ≡ false) × (c ≡ false)
    two true c is = absurd (false≢true (sym is))
    two false c is = (refl, is)

not_false : (b : Bool) → not b ≡ true → b ≡ false
not_false true is = absurd (false≢true is)
not_false false is = refl

asks_follow : (earlier : List Up) (taken : List Down) (low : ℕ) (xs : List Asked) → TicketsRise low xs → has_one_job xs ≡ true
    → ((t j : ℕ) → list_any (asks_for t j) earlier ≡ true → AllByRecursion (Above t j) xs) → AllFollow earlier taken (map ask_of xs)
asks_follow earlier taken low [] rise one above = tt
asks_follow earlier taken low (x ∷ xs) rise one above = (
  before_all earlier taken x.ticket x.job earlier (λ t j is. ((above t j is).0.0, λ same. absurd ((above t j is).0.1 same))),
  asks_follow (earlier ++ ask_of x ∷ []) taken x.ticket xs rise.1 parts.1 (λ t j is. later t j (any_either (asks_for t j) earlier (ask_of x ∷ []) is)),
)
  where
    parts : (not (list_any (is_asked_by x.job) xs) ≡ true) × (has_one_job xs ≡ true)
    parts = and_parts (not (list_any (is_asked_by x.job) xs)) (has_one_job xs) one

    later : (t j : ℕ) → (list_any (asks_for t j) earlier ≡ true) ⊎ (list_any (asks_for t j) (ask_of x ∷ []) ≡ true) → AllByRecursion (Above t j) xs
    later t j (inl is) = (above t j is).1
    later t j (inr is) =
        let same : ((x.ticket == t) ≡ true) × ((x.job == j) ≡ true) = and_parts (x.ticket == t) (x.job == j) (sym (or_false (x.ticket == t && x.job == j)) ∙ is) in
        subst (λ (n : ℕ). AllByRecursion (Above n j) xs) (eqb-true x.ticket t same.0)
        (subst (λ (n : ℕ). AllByRecursion (Above x.ticket n) xs) (eqb-true x.job j same.1)
        (above_all x x.ticket xs (omega arith) rise.1 (not_false (list_any (is_asked_by x.job) xs) parts.0)))

-- each of them is among what is put
own_here : (a : Asked) → (a.ticket == a.ticket && a.job == a.job) ≡ true
own_here a = ap (λ (b : Bool). b && a.job == a.job) (eq-eqb a.ticket a.ticket refl) ∙ eq-eqb a.job a.job refl

put_each : (ups : List Up) (taken : List Down) (n : ℕ) (xs : List Asked)
    → AllByRecursion (λ (a : Asked). (a.ticket ≤ n) × (is_some a.at ≡ true → list_any (grants_ticket a.ticket) taken ≡ true)) xs
    → (front : List Up) → AllByRecursion (AskIn (ups ++ (front ++ map ask_of xs)) taken n) (map ask_put xs)
put_each ups taken n [] all front = tt
put_each ups taken n (x ∷ xs) all front = (
  record {
    below = all.0.0;
    put = λ put.
        any_behind (asks_for x.ticket x.job) ups (front ++ ask_of x ∷ map ask_of xs)
        (any_behind (asks_for x.ticket x.job) front (ask_of x ∷ map ask_of xs) (ap (λ (b : Bool). b || list_any (asks_for x.ticket x.job) (map ask_of xs)) (own_here x)));
    granted = all.0.1;
  },
  subst (λ (ms : List Up). AllByRecursion (AskIn (ups ++ ms) taken n) (map ask_put xs)) (append_assoc front (ask_of x ∷ []) (map ask_of xs))
      (put_each ups taken n xs all.1 (front ++ ask_of x ∷ [])),
)

put_all : (n t j : ℕ) (xs : List Asked) → AllByRecursion (λ (a : Asked). a.ticket ≤ n) xs → list_any (asks_for t j) (map ask_of xs) ≡ true
    → (t ≤ n) × (list_any (is_put_for t j) (map ask_put xs) ≡ true)
put_all n t j [] all is = absurd (false≢true is)
put_all n t j (x ∷ xs) all is = go (x.ticket == t && x.job == j) refl is (put_all n t j xs all.1)
  where
    go : (b : Bool) → (x.ticket == t && x.job == j) ≡ b → (b || list_any (asks_for t j) (map ask_of xs)) ≡ true
        → (list_any (asks_for t j) (map ask_of xs) ≡ true → (t ≤ n) × (list_any (is_put_for t j) (map ask_put xs) ≡ true))
        → (t ≤ n) × ((x.ticket == t && x.job == j || list_any (is_put_for t j) (map ask_put xs)) ≡ true)
    go true here found more =
        (omega (arith, all.0, eqb-true x.ticket t (and_parts (x.ticket == t) (x.job == j) here).0), ap (λ (b : Bool). b || list_any (is_put_for t j) (map ask_put xs)) here)
    go false other found more =
        ((more found).0, or_behind (x.ticket == t && x.job == j) (list_any (is_put_for t j) (map ask_put xs)) (more found).1)

-- All requests are put, where no Ask was put before.
pub all_put : (ups : List Up) (taken : List Down) (n : ℕ) (asks : List Asked) → list_any is_ask ups ≡ false → AsksAre ups taken n asks
    → AsksAre (ups ++ map ask_of asks) taken n (map ask_put asks)
all_put ups taken n asks none h = record {
  follow = follow_joined [] taken ups (map ask_of asks) h.follow (asks_follow ups taken 0 asks h.rise h.one_each (λ t j is. absurd (no_asks t j is)));
  one_each = one_mapped ask_put (λ a. refl) asks ∙ h.one_each;
  rise = rise_mapped ask_put (λ a. refl) 0 asks h.rise;
  each =
      put_each ups taken n asks
      (all_follow (AskIn ups taken n) (λ (a : Asked). (a.ticket ≤ n) × (is_some a.at ≡ true → list_any (grants_ticket a.ticket) taken ≡ true)) (λ a is. (is.below, is.granted)) asks h.each) [];
  all = λ t j is. at t j (any_either (asks_for t j) ups (map ask_of asks) is);
}
  where
    no_asks : (t j : ℕ) → list_any (asks_for t j) ups ≡ true → ⊥
    no_asks t j is = false≢true (sym none ∙ any_ask t ups (any_ticket t j ups is))

    at : (t j : ℕ) → (list_any (asks_for t j) ups ≡ true) ⊎ (list_any (asks_for t j) (map ask_of asks) ≡ true)
        → WaitsIn (ups ++ map ask_of asks) taken n (map ask_put asks) t j
    at t j (inl is) = absurd (no_asks t j is)
    at t j (inr is) =
        let both : (t ≤ n) × (list_any (is_put_for t j) (map ask_put asks) ≡ true) =
        put_all n t j asks (all_follow (AskIn ups taken n) (λ (a : Asked). a.ticket ≤ n) (λ a here. here.below) asks h.each) is in
        (both.0, λ kept. both.1)

-- where none was put, all of them are those that weren't
pub unput_all : (asks : List Asked) → list_all is_ask_unput asks ≡ true → filter is_ask_unput asks ≡ asks
unput_all [] all = refl
unput_all (x ∷ xs) all =
    ap (λ (b : Bool). cond b (x ∷ filter is_ask_unput xs) (filter is_ask_unput xs)) (and_parts (is_ask_unput x) (list_all is_ask_unput xs) all).0
    ∙ ap (λ (ys : List Asked). x ∷ ys) (unput_all xs (and_parts (is_ask_unput x) (list_all is_ask_unput xs) all).1)

-- In a new epoch none is put, and none is granted.
pub anew_are : (ups : List Up) (n : ℕ) (asks : List Asked) → AllFollow [] [] ups → list_any is_ask ups ≡ false → has_one_job asks ≡ true → TicketsRise 0 asks
    → AllByRecursion (λ (a : Asked). a.ticket ≤ n) asks → AsksAre ups [] n (map ask_anew asks)
anew_are ups n asks follow none one rise below = record {
  follow = follow;
  one_each = one_mapped ask_anew (λ a. refl) asks ∙ one;
  rise = rise_mapped ask_anew (λ a. refl) 0 asks rise;
  each =
      all_mapped (λ (a : Asked). a.ticket ≤ n) (AskIn ups [] n) ask_anew
      (λ a is. record { below = is; put = λ put. absurd (false≢true put); granted = λ some. absurd (false≢true some) }) asks below;
  all = λ t j is. absurd (false≢true (sym none ∙ any_ask t ups (any_ticket t j ups is)));
}
