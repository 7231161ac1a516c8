-- What becomes of each hold of a server, and of the entries that stood when it was granted.
use Rattle.std.proofs.Common.{◌≡◌, ℕ, zero, suc, ◌≤◌, ◌<◌, List, [], ◌∷◌, ◌++◌, length, take, map, refl, subst, sym, ap, ◌∙◌, Bool, true, false, cond, arith, length-append, ◌⊎◌, inl, inr, Option, Some, slice_get, ◌&&◌, ◌||◌, not}
use Rattle.std.specs.Prelude.{is_some, nat_lt}
use Rattle.std.specs.List.{list_any}
use Rattle.std.proofs.lemmas.Bool.{and_parts, and_from, or_parts, or_from, not-true, ltb-false, cases_lt}
use Rattle.std.proofs.lemmas.Option.{same_Some}
use Rattle.std.proofs.lemmas.List.{take-append-le, take-take, length-take-le, get_or_append_left}
use Rattle.plain_orders.specs.declared.entry.Entry.{Entry}
use Rattle.plain_runs.specs.Plain.{Hold, Given, Session}
use Rattle.plain_runs.specs.Holds.{is_sent, answered_hold, given_up, released_hold, hold_after_crash}
use Rattle.plain_runs.specs.LockRows.{change_first, change_last}
use Rattle.plain_runs.proofs.Orders.{Each}
use Rattle.plain_runs.proofs.HoldRows.{HoldKept, sent_facts}
use Rattle.plain_runs.proofs.Lists.{both_ways}
use Rattle.plain_runs.proofs.ToldItems.{nth, last_nth}

-- answered, or sent and there
abbrev pub stands : Hold → Bool
stands h = h.answered || (not h.gone && not (is_some h.given))

-- the first n entries stand in each order from the current one on
abbrev pub Stay : ℕ → List (List Entry) → List Entry → List (List Entry) → List Entry → Type 0
Stay n past o later p = (j : ℕ) → length past ≤ j → j ≤ length later → take n (nth later p j) ≡ take n o

pub record HoldGoes (past : List (List Entry)) (o : List Entry) (later : List (List Entry)) (p : List Entry) (h k : Hold) : Type 0 where
  pub session : k.session ≡ h.session
  pub job : k.job ≡ h.job
  pub at : k.at ≡ h.at
  pub frozen : h.gone ≡ true → (k.gone ≡ true) × (k.answered ≡ h.answered) × (k.given ≡ h.given)
  pub answered : h.answered ≡ true → k.answered ≡ true
  pub given : (g : Given) → h.given ≡ Some g → k.given ≡ Some g
  pub stood : stands k ≡ true → stands h ≡ true
  pub stays : stands k ≡ true → Stay h.at past o later p

-- the orders as they were
pub stay_same : (n : ℕ) (past : List (List Entry)) (o : List Entry) → Stay n past o past o
stay_same n past o j low high = let here : j ≡ length past = omega (arith, low, high) in ap (λ i. take n (nth past o i)) here ∙ ap (take n) (last_nth past o)

-- the order longer
pub stay_longer : (n : ℕ) (past : List (List Entry)) (o more : List Entry) → n ≤ length o → Stay n past o past (o ++ more)
stay_longer n past o more within j low high = let here : j ≡ length past = omega (arith, low, high) in ap (λ i. take n (nth past (o ++ more) i)) here ∙ ap (take n) (last_nth past (o ++ more)) ∙ take-append-le n o more within

-- the order cut
pub stay_cut : (n kept : ℕ) (past : List (List Entry)) (o : List Entry) (e : Entry) → n ≤ kept → kept ≤ length o → Stay n past o (past ++ o ∷ []) (take kept o ++ e ∷ [])
stay_cut n kept past o e low within j from to = go (cases_lt j (length (past ++ o ∷ [])))
  where
    new : List Entry
    new = take kept o ++ e ∷ []

    go : (j < length (past ++ o ∷ [])) ⊎ (length (past ++ o ∷ []) ≤ j) → take n (nth (past ++ o ∷ []) new j) ≡ take n o
    go (inl under) =
        let here : j ≡ length past = omega (arith, from, under, length-append past (o ∷ [])) in
        ap (take n) (get_or_append_left (past ++ o ∷ []) (new ∷ []) [] j under) ∙ ap (λ i. take n (nth past o i)) here ∙ ap (take n) (last_nth past o)
    go (inr over) =
        let here : j ≡ length (past ++ o ∷ []) = omega (arith, over, to) in
        ap (λ i. take n (nth (past ++ o ∷ []) new i)) here ∙ ap (take n) (last_nth (past ++ o ∷ []) new)
        ∙ take-append-le n (take kept o) (e ∷ []) (omega (arith, low, length-take-le kept o within)) ∙ take-take n kept o low

pub hold_same : (past : List (List Entry)) (o : List Entry) (later : List (List Entry)) (p : List Entry) (h : Hold) → (stands h ≡ true → Stay h.at past o later p) → HoldGoes past o later p h h
hold_same past o later p h stays = record {
  session = refl;
  job = refl;
  at = refl;
  frozen = λ e. (e, refl, refl);
  answered = λ e. e;
  given = λ g e. e;
  stood = λ e. e;
  stays = stays;
}

-- a hold that stands has a number within the order
pub stands_low : (o : List Entry) (d : ℕ) (due : Option ℕ) (ses : ℕ → Option Session) (h : Hold) → d ≤ length o → HoldKept o d due ses h → stands h ≡ true → h.at ≤ length o
stands_low o d due ses h within k st = go h.answered refl
  where
    go : (b : Bool) → h.answered ≡ b → h.at ≤ length o
    go true e = omega (arith, k.low e, within)
    go false e =
        let rest : (not h.gone && not (is_some h.given)) ≡ true = subst (λ (b : Bool). (b || (not h.gone && not (is_some h.given))) ≡ true) e st in
        let parts = and_parts (not h.gone) (not (is_some h.given)) rest in
        (k.in_order (or_from h.answered (is_some h.given) e (not-true (is_some h.given) parts.1)) (not-true h.gone parts.0)).0

module _ (past : List (List Entry)) (o : List Entry) where
  abbrev pub Goes : Hold → Hold → Type 0
  Goes h k = HoldGoes past o past o h k

  not_given : (h : Hold) (g : Given) → is_some h.given ≡ false → h.given ≡ Some g → ⊥
  not_given h g n e = both_ways (is_some h.given) (ap is_some e) n

  sent_stands : (a g n : Bool) → a ≡ false → n ≡ false → g ≡ false → (a || (not g && not n)) ≡ true
  sent_stands a g n x y z = subst (λ (b : Bool). (b || (not g && not n)) ≡ true) (sym x) (subst (λ (b : Bool). (not b && not n) ≡ true) (sym z) (subst (λ (b : Bool). not b ≡ true) (sym y) refl))

  -- a sent hold is answered
  pub hold_answered : (h : Hold) → is_sent h ≡ true → Goes h (answered_hold h)
  hold_answered h e =
      let f = sent_facts h e in
      record {
        session = refl;
        job = refl;
        at = refl;
        frozen = λ g. absurd (both_ways h.gone g f.2);
        answered = λ _. refl;
        given = λ g x. x;
        stood = λ _. sent_stands h.answered h.gone (is_some h.given) f.0 f.1 f.2;
        stays = λ _. stay_same h.at past o;
      }

  given_stood : (a g n : Bool) → (a || (not g && false)) ≡ true → (a || (not g && not n)) ≡ true
  given_stood true g n e = refl
  given_stood false true n e = absurd (cc (e))
  given_stood false false n e = absurd (cc (e))

  -- a hold is given up
  pub hold_given : (g : Given) (h : Hold) → h.gone ≡ false → is_some h.given ≡ false → Goes h (given_up g h)
  hold_given g h there none = record {
    session = refl;
    job = refl;
    at = refl;
    frozen = λ e. absurd (both_ways h.gone e there);
    answered = λ e. e;
    given = λ x e. absurd (not_given h x none e);
    stood = λ e. given_stood h.answered h.gone (is_some h.given) e;
    stays = λ _. stay_same h.at past o;
  }

  pub hold_released : (session : ℕ) (h : Hold) → Goes h (released_hold session h)
  hold_released session h = record {
    session = refl;
    job = refl;
    at = refl;
    frozen = λ e. (e, refl, refl);
    answered = λ e. e;
    given = λ g e. e;
    stood = λ e. e;
    stays = λ _. stay_same h.at past o;
  }

away_stood : (a g n x : Bool) → (a || (not (g || x) && not n)) ≡ true → (a || (not g && not n)) ≡ true
away_stood true g n x e = refl
away_stood false true n x e = absurd (cc (e))
away_stood false false n true e = absurd (cc (e))
away_stood false false n false e = e

-- a hold that goes, or stays as it is, in force or not
pub hold_away : (past : List (List Entry)) (o : List Entry) (later : List (List Entry)) (p : List Entry) (h : Hold) (force x : Bool)
    → (stands (record h { in_force = force; gone = h.gone || x }) ≡ true → Stay h.at past o later p) → HoldGoes past o later p h (record h { in_force = force; gone = h.gone || x })
hold_away past o later p h force x stays = record {
  session = refl;
  job = refl;
  at = refl;
  frozen = λ e. (ap (λ (b : Bool). b || x) e, refl, refl);
  answered = λ e. e;
  given = λ g e. e;
  stood = λ e. away_stood h.answered h.gone (is_some h.given) x e;
  stays = stays;
}

pub hold_crash : (past : List (List Entry)) (o : List Entry) (d : ℕ) (due : Option ℕ) (ses : ℕ → Option Session) (kept : ℕ) (e : Entry) (h : Hold) → d ≤ kept → kept ≤ length o → HoldKept o d due ses h
    → HoldGoes past o (past ++ o ∷ []) (take kept o ++ e ∷ []) h (hold_after_crash (take kept o) kept h)
hold_crash past o d due ses kept e h low within k =
    hold_away past o (past ++ o ∷ []) (take kept o ++ e ∷ []) h _ (is_sent h && nat_lt kept h.at) (λ st. stay_cut h.at kept past o e (reach h.answered refl st) within)
  where
    lost : Bool
    lost = is_sent h && nat_lt kept h.at

    reach : (b : Bool) → h.answered ≡ b → (h.answered || (not (h.gone || lost) && not (is_some h.given))) ≡ true → h.at ≤ kept
    reach true a st = omega (arith, k.low a, low)
    reach false a st =
        let rest : (not (h.gone || lost) && not (is_some h.given)) ≡ true = subst (λ (b : Bool). (b || (not (h.gone || lost) && not (is_some h.given))) ≡ true) a st in
        let parts = and_parts (not (h.gone || lost)) (not (is_some h.given)) rest in
        let there = or_parts h.gone lost (not-true (h.gone || lost) parts.0) in
        let sent : is_sent h ≡ true =
        and_from (not h.answered) (not (is_some h.given) && not h.gone) (ap not a)
        (and_from (not (is_some h.given)) (not h.gone) parts.1 (ap not there.0))
        in
        ltb-false kept h.at (subst (λ (b : Bool). (b && nat_lt kept h.at) ≡ false) sent there.1)

-- the holds of the first, each as it became, and later ones
abbrev pub Follow : (Hold → Hold → Type 0) → List Hold → List Hold → Type 0
Follow R [] ks = Unit {0}
Follow R (h ∷ hs) [] = ⊥
Follow R (h ∷ hs) (k ∷ ks) = R h k × Follow R hs ks

pub follow_same : (P : Hold → Type 0) (R : Hold → Hold → Type 0) → ((h : Hold) → P h → R h h) → (hs : List Hold) → Each P hs → Follow R hs hs
follow_same P R f [] e = tt
follow_same P R f (h ∷ hs) e = (f h e.0, follow_same P R f hs e.1)

pub follow_any : (R : Hold → Hold → Type 0) → ((h : Hold) → R h h) → (hs : List Hold) → Follow R hs hs
follow_any R f [] = tt
follow_any R f (h ∷ hs) = (f h, follow_any R f hs)

pub follow_map : (P : Hold → Type 0) (R : Hold → Hold → Type 0) (f : Hold → Hold) → ((h : Hold) → P h → R h (f h)) → (hs : List Hold) → Each P hs → Follow R hs (map f hs)
follow_map P R f step [] e = tt
follow_map P R f step (h ∷ hs) e = (step h e.0, follow_map P R f step hs e.1)

pub follow_push : (R : Hold → Hold → Type 0) → ((h : Hold) → R h h) → (hs : List Hold) (x : Hold) → Follow R hs (hs ++ x ∷ [])
follow_push R f [] x = tt
follow_push R f (h ∷ hs) x = (f h, follow_push R f hs x)

pub follow_first : (R : Hold → Hold → Type 0) (p : Hold → Bool) (f : Hold → Hold) → ((h : Hold) → R h h) → ((h : Hold) → p h ≡ true → R h (f h)) → (hs : List Hold) → Follow R hs (change_first p f hs)
follow_first R p f same step [] = tt
follow_first R p f same step (h ∷ hs) = go (p h) refl (follow_first R p f same step hs)
  where
    go : (b : Bool) → p h ≡ b → Follow R hs (change_first p f hs) → Follow R (h ∷ hs) (cond b (f h ∷ hs) (h ∷ change_first p f hs))
    go true is r = (step h is, follow_any R same hs)
    go false is r = (same h, r)

pub follow_last : (R : Hold → Hold → Type 0) (p : Hold → Bool) (f : Hold → Hold) → ((h : Hold) → R h h) → ((h : Hold) → p h ≡ true → R h (f h)) → (hs : List Hold) → Follow R hs (change_last p f hs)
follow_last R p f same step [] = tt
follow_last R p f same step (h ∷ hs) = go (list_any p hs) (p h) refl (follow_last R p f same step hs)
  where
    go : (c b : Bool) → p h ≡ b → Follow R hs (change_last p f hs) → Follow R (h ∷ hs) (cond c (h ∷ change_last p f hs) (cond b (f h ∷ hs) (h ∷ hs)))
    go true b is r = (same h, r)
    go false true is r = (step h is, follow_any R same hs)
    go false false is r = (same h, follow_any R same hs)

pub follow_on : (R S T : Hold → Hold → Type 0) → ((h k l : Hold) → R h k → S k l → T h l) → (hs ks ls : List Hold) → Follow R hs ks → Follow S ks ls → Follow T hs ls
follow_on R S T f [] ks ls r s = tt
follow_on R S T f (h ∷ hs) [] ls r s = absurd r
follow_on R S T f (h ∷ hs) (k ∷ ks) [] r s = absurd s
follow_on R S T f (h ∷ hs) (k ∷ ks) (l ∷ ls) r s = (f h k l r.0 s.0, follow_on R S T f hs ks ls r.1 s.1)

pub follow_there : (R : Hold → Hold → Type 0) (hs ks : List Hold) (i : ℕ) (h : Hold) → Follow R hs ks → slice_get hs i ≡ Some h → (k : Hold) × ((slice_get ks i ≡ Some k) × R h k)
follow_there R [] ks i h f e = absurd (cc (e))
follow_there R (x ∷ hs) [] i h f e = absurd f
follow_there R (x ∷ hs) (k ∷ ks) zero h f e = (k, (refl, subst (λ y. R y k) (same_Some x h e) f.0))
follow_there R (x ∷ hs) (k ∷ ks) (suc i) h f e = follow_there R hs ks i h f.1 e

pub follow_at : (R : Hold → Hold → Type 0) (hs ks : List Hold) (i : ℕ) (h k : Hold) → Follow R hs ks → slice_get hs i ≡ Some h → slice_get ks i ≡ Some k → R h k
follow_at R hs ks i h k f e g = let x = follow_there R hs ks i h f e in subst (R h) (same_Some x.0 k (sym x.1.0 ∙ g)) x.1.1
