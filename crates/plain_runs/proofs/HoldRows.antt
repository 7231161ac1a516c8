-- What each row does to one hold.
use Rattle.std.proofs.Common.{◌≡◌, ℕ, ◌≤◌, List, [], ◌∷◌, ◌++◌, length, take, refl, subst, sym, ap, ◌∙◌, Bool, true, false, ◌==◌, if◌then◌else◌, arith, ◌||◌, ◌&&◌, not, Option, Some, None, length-append, ◌⊎◌, inl, inr}
use Rattle.std.specs.Prelude.{is_some, nat_lt, unwrap_or}
use Rattle.std.specs.List.{list_any}
use Rattle.std.proofs.lemmas.Bool.{eqb-true, and_parts, or_parts, or_cases, or_from, not-true, ltb-false}
use Rattle.std.proofs.lemmas.Option.{same_Some}
use Rattle.std.proofs.lemmas.List.{take-append-le, length-take-le, length-take, take-take}
use Rattle.plain_orders.specs.declared.entry.Entry.{Entry}
use Rattle.plain_orders.specs.declared.mode.Mode.{Mode}
use Rattle.plain_orders.specs.Entries.{live, count, closes, closed_by}
use Rattle.plain_orders.specs.Own.{Issued}
use Rattle.plain_runs.specs.Plain.{Session, Hold, Given}
use Rattle.plain_runs.specs.Items.{all_stand}
use Rattle.plain_runs.specs.LockRows.{given_before}
use Rattle.plain_runs.proofs.Numbers.{InOrder, has_counted}
use Rattle.plain_runs.proofs.Lists.{both_ways, any_front, any_take, any_wider, any_grown, opens, is_open, opened_closes, stand_more, stand_all, item_more}
use Rattle.plain_runs.specs.Holds.{is_sent, binds, hold_after_crash, hold_after_back, is_of, is_lock, is_sent_at, given_hold, is_same_given, answered_hold, released_hold, given_up, freed_hold, touched}

abbrev pub issued_of : Option Session → List Issued
issued_of o = (unwrap_or o (record { app = 0; issued = []; told = 0 })).issued

-- a Close of its session stands, or it was given up and all that its job had issued before stands
abbrev pub SettledIn : List Entry → List Issued → Hold → Type 0
SettledIn es issued h = (list_any (closes h.session) es ≡ true) ⊎ ((g : Given) × (h.given ≡ Some g) × (all_stand es h.session h.job 0 (take g.before issued) ≡ true))

pub record HoldKept (o : List Entry) (d : ℕ) (due : Option ℕ) (ses : ℕ → Option Session) (h : Hold) : Type 0 where
  pub met : touched h ≡ true → is_some (ses h.session) ≡ true
  pub low : h.answered ≡ true → h.at ≤ d
  pub in_order : touched h ≡ false → h.gone ≡ false → (h.at ≤ length o) × (opens (take h.at o) h.session ≡ true)
  pub before : (g : Given) → h.given ≡ Some g → g.before ≤ length (issued_of (ses h.session))
  pub closed : h.in_force ≡ false → h.gone ≡ false → closed_by o h.session d ≡ true
  pub ended : h.gone ≡ true → h.answered ≡ true → is_some h.given ≡ false → closed_by o h.session d ≡ true
  pub settled : due ≡ None → h.gone ≡ true → touched h ≡ true → SettledIn o (issued_of (ses h.session)) h

-- what was issued stays
abbrev pub IssuedGrows : Option Session → Option Session → Type 0
IssuedGrows o r = (is_some o ≡ true → is_some r ≡ true) × ((more : List Issued) × (issued_of r ≡ issued_of o ++ more))

-- the order, what is synced and what was issued grow
pub grow_hold : (o more : List Entry) (d e : ℕ) (due due' : Option ℕ) (ses ses' : ℕ → Option Session) (h : Hold) → d ≤ length o → d ≤ e → (due' ≡ None → due ≡ None) → ((n : ℕ) → IssuedGrows (ses n) (ses' n))
    → HoldKept o d due ses h → HoldKept (o ++ more) e due' ses' h
grow_hold o more d e due due' ses ses' h within low less grows k = record {
  met = λ t. (grows h.session).0 (k.met t);
  low = λ a. omega (arith, k.low a, low);
  in_order = λ t g. (omega (arith, (k.in_order t g).0, length-append o more), subst (λ (ys : List Entry). opens ys h.session ≡ true) (sym (take-append-le h.at o more (k.in_order t g).0)) (k.in_order t g).1);
  before = λ g x. omega (arith, k.before g x, ap length (grows h.session).1.1, length-append (issued_of (ses h.session)) (grows h.session).1.0);
  closed = λ f g. any_grown (closes h.session) d e o more within low (k.closed f g);
  ended = λ g a n. any_grown (closes h.session) d e o more within low (k.ended g a n);
  settled = λ n g t. settle (k.settled (less n) g t);
}
  where
    settle : SettledIn o (issued_of (ses h.session)) h → SettledIn (o ++ more) (issued_of (ses' h.session)) h
    settle (inl c) = inl (any_front (closes h.session) o more c)
    settle (inr c) =
        inr (
          c.0,
          c.1,
          stand_more o (o ++ more) h.session h.job 0 _ (λ w. item_more o more h.session w)
              (subst (λ (is : List Issued). all_stand o h.session h.job 0 is ≡ true)
              (sym (ap (take c.0.before) (grows h.session).1.1 ∙ take-append-le c.0.before (issued_of (ses h.session)) (grows h.session).1.0 (k.before c.0 c.1))) c.2),
        )

-- facts of tests
pub sent_facts : (h : Hold) → is_sent h ≡ true → (h.answered ≡ false) × (is_some h.given ≡ false) × (h.gone ≡ false)
sent_facts h e =
    let a = and_parts (not h.answered) (not (is_some h.given) && not h.gone) e in
    let b = and_parts (not (is_some h.given)) (not h.gone) a.1 in
    (not-true h.answered a.0, not-true (is_some h.given) b.0, not-true h.gone b.1)

pub of_facts : (session job : ℕ) (h : Hold) → is_of session job h ≡ true → (h.session ≡ session) × (h.job ≡ job)
of_facts session job h e =
    let a = and_parts (h.session == session) (h.job == job) e in (eqb-true h.session session a.0, eqb-true h.job job a.1)

-- a grant is answered
pub answer_hold : (o : List Entry) (d : ℕ) (due : Option ℕ) (ses : ℕ → Option Session) (session job at : ℕ) → is_some (ses session) ≡ true → at ≤ d → (h : Hold) → is_sent_at session job at h ≡ true → HoldKept o d due ses h → HoldKept o d due ses (answered_hold h)
answer_hold o d due ses session job at met low h p k =
    let a = and_parts (is_sent h) (is_of session job h && h.at == at) p in
    let b = and_parts (is_of session job h) (h.at == at) a.1 in
    let f = sent_facts h a.0 in
    record {
      met = λ _. subst (λ n. is_some (ses n) ≡ true) (sym (of_facts session job h b.0).0) met;
      low = λ _. omega (arith, eqb-true h.at at b.1, low);
      in_order = λ t. absurd (cc (t));
      before = k.before;
      closed = k.closed;
      ended = λ g. absurd (both_ways h.gone g f.2);
      settled = λ _ g. absurd (both_ways h.gone g f.2);
    }

or_never : (a : Bool) → (a || true) ≡ false → ⊥
or_never true e = absurd (cc (e))
or_never false e = absurd (cc (e))

-- a hold is given up
pub give_hold : (o : List Entry) (d : ℕ) (due : Option ℕ) (ses : ℕ → Option Session) (session : ℕ) (g : Given) → is_some (ses session) ≡ true → g.before ≡ length (issued_of (ses session)) → (h : Hold) → h.session ≡ session → h.gone ≡ false → HoldKept o d due ses h → HoldKept o d due ses (given_up g h)
give_hold o d due ses session g met is h its there k = record {
  met = λ _. subst (λ n. is_some (ses n) ≡ true) (sym its) met;
  low = k.low;
  in_order = λ t. absurd (or_never h.answered t);
  before = λ x e. omega (arith, ap (λ (y : Given). y.before) (same_Some g x e), is, ap (λ n. length (issued_of (ses n))) its);
  closed = k.closed;
  ended = λ e. absurd (both_ways h.gone e there);
  settled = λ _ e. absurd (both_ways h.gone e there);
}

-- a hold that goes, or stays as it is
abbrev goes_away : Bool → Hold → Hold
goes_away x h = record h { gone = h.gone || x }

away_hold : (o : List Entry) (d : ℕ) (due due' : Option ℕ) (ses : ℕ → Option Session) (h : Hold) (x : Bool)
    → (x ≡ true → h.answered ≡ true → is_some h.given ≡ true)
    → (due' ≡ None → (h.gone || x) ≡ true → touched h ≡ true → SettledIn o (issued_of (ses h.session)) h)
    → HoldKept o d due ses h → HoldKept o d due' ses (goes_away x h)
away_hold o d due due' ses h x given settle k = record {
  met = k.met;
  low = k.low;
  in_order = λ a b. k.in_order a (or_parts h.gone x b).0;
  before = k.before;
  closed = λ a b. k.closed a (or_parts h.gone x b).0;
  ended = λ a b c. end (or_cases h.gone x a) b c;
  settled = settle;
}
  where
    end : (h.gone ≡ true) ⊎ (x ≡ true) → h.answered ≡ true → is_some h.given ≡ false → closed_by o h.session d ≡ true
    end (inl g) a n = k.ended g a n
    end (inr e) a n = absurd (both_ways (is_some h.given) (given e a) n)

-- a hold that is freed
freed_facts : (first : Option Given) (session job : ℕ) (mode : Mode) (key : List ℕ) (h : Hold) → is_same_given (given_hold session job mode key h) first ≡ true
    → (g : Given) × (h.given ≡ Some g) × (h.session ≡ session) × (h.job ≡ job) × (g.before ≡ given_before first)
freed_facts first session job mode key h e = go (binds h && (is_of session job h && is_lock mode key h)) refl e
  where
    same_before : (g : Given) (o : Option Given) → is_same_given (Some g) o ≡ true → g.before ≡ given_before o
    same_before g None t = absurd (cc (t))
    same_before g (Some x) t = eqb-true g.before x.before (and_parts (g.turn == x.turn) (g.before == x.before) t).1

    of_given : (o : Option Given) → h.given ≡ o → is_same_given o first ≡ true → (g : Given) × (h.given ≡ Some g) × (g.before ≡ given_before first)
    of_given None is t = absurd (cc (t))
    of_given (Some g) is t = (g, is, same_before g first t)

    go : (b : Bool) → (binds h && (is_of session job h && is_lock mode key h)) ≡ b → is_same_given (if b then h.given else None) first ≡ true → (g : Given) × (h.given ≡ Some g) × (h.session ≡ session) × (h.job ≡ job) × (g.before ≡ given_before first)
    go false is t = absurd (cc (t))
    go true is t =
        let a = and_parts (binds h) (is_of session job h && is_lock mode key h) is in
        let b = and_parts (is_of session job h) (is_lock mode key h) a.1 in
        let f = of_facts session job h b.0 in
        let g = of_given h.given refl t in
        (g.0, g.1, f.0, f.1, g.2)

pub free_hold : (o : List Entry) (d : ℕ) (due : Option ℕ) (ses : ℕ → Option Session) (first : Option Given) (session job : ℕ) (mode : Mode) (key : List ℕ) (h : Hold)
    → all_stand o session job 0 (take (given_before first) (issued_of (ses session))) ≡ true
    → HoldKept o d due ses h → HoldKept o d due ses (freed_hold first session job mode key h)
free_hold o d due ses first session job mode key h all k =
    away_hold o d due due ses h (is_same_given (given_hold session job mode key h) first)
    (λ e _. ap is_some (freed_facts first session job mode key h e).1)
    (λ n g t. settle (or_cases h.gone (is_same_given (given_hold session job mode key h) first) g) n t) k
  where
    settle : (h.gone ≡ true) ⊎ (is_same_given (given_hold session job mode key h) first ≡ true) → due ≡ None → touched h ≡ true → SettledIn o (issued_of (ses h.session)) h
    settle (inl g) n t = k.settled n g t
    settle (inr e) n t =
        let f = freed_facts first session job mode key h e in
        inr (
          f.0,
          f.1,
          subst (λ m. all_stand o h.session h.job 0 (take m (issued_of (ses h.session))) ≡ true) (sym f.4)
              (subst (λ r. all_stand o r h.job 0 (take (given_before first) (issued_of (ses r))) ≡ true) (sym f.2)
              (subst (λ j. all_stand o session j 0 (take (given_before first) (issued_of (ses session))) ≡ true) (sym f.3) all)),
        )

-- the round is over
pub back_hold : (o : List Entry) (d : ℕ) (due : Option ℕ) (ses : ℕ → Option Session) (h : Hold) → InOrder o
    → ((n : ℕ) → is_some (ses n) ≡ true → opens o n ≡ true)
    → ((n : ℕ) → live o n ≡ true → count o n ≡ length (issued_of (ses n)))
    → HoldKept o d due ses h → HoldKept o d None ses (hold_after_back o h)
back_hold o d due ses h numbered opened whole k =
    away_hold o d due None ses h leaves
    (λ e a. given e a)
    (λ _ g t. settle (live o h.session) refl t (or_cases h.gone leaves g)) k
  where
    leaves : Bool
    leaves = live o h.session && (binds h && (not h.answered || is_some h.given))

    given : leaves ≡ true → h.answered ≡ true → is_some h.given ≡ true
    given e a =
        let x = and_parts (live o h.session) (binds h && (not h.answered || is_some h.given)) e in
        let y = and_parts (binds h) (not h.answered || is_some h.given) x.1 in
        subst (λ (b : Bool). (not b || is_some h.given) ≡ true) a y.1

    of_given : (r : Option Given) → h.given ≡ r → is_some r ≡ true → (g : Given) × (h.given ≡ Some g)
    of_given None is t = absurd (cc (t))
    of_given (Some g) is t = (g, is)

    full : live o h.session ≡ true → is_some h.given ≡ true → SettledIn o (issued_of (ses h.session)) h
    full l s =
        let g = of_given h.given refl s in
        inr (
          g.0,
          g.1,
          stand_all o h.session h.job 0 (take g.0.before (issued_of (ses h.session)))
              (λ w low high. has_counted o h.session w numbered low (omega (arith, high, length-take g.0.before (issued_of (ses h.session)), whole h.session l))),
        )

    old : (b c : Bool) → h.answered ≡ b → is_some h.given ≡ c → h.gone ≡ true → live o h.session ≡ true → touched h ≡ true → SettledIn o (issued_of (ses h.session)) h
    old true false a s g l t = inl (any_take (closes h.session) d o (k.ended g a s))
    old true true a s g l t = full l s
    old false true a s g l t = full l s
    old false false a s g l t = absurd (both_ways (touched h) t (or_from h.answered (is_some h.given) a s))

    new : (b : Bool) → h.answered ≡ b → leaves ≡ true → live o h.session ≡ true → touched h ≡ true → SettledIn o (issued_of (ses h.session)) h
    new true a e l t = full l (given e a)
    new false a e l t = full l (subst (λ (b : Bool). (b || is_some h.given) ≡ true) a t)

    settle : (b : Bool) → live o h.session ≡ b → touched h ≡ true → (h.gone ≡ true) ⊎ (leaves ≡ true) → SettledIn o (issued_of (ses h.session)) h
    settle false l t c = inl (opened_closes o h.session (opened h.session (k.met t)) l)
    settle true l t (inl g) = old h.answered (is_some h.given) refl refl g l t
    settle true l t (inr e) = new h.answered refl e l t

-- the locks of a session are released
pub release_hold : (o : List Entry) (d : ℕ) (due : Option ℕ) (ses : ℕ → Option Session) (session : ℕ) (h : Hold) → closed_by o session d ≡ true → HoldKept o d due ses h → HoldKept o d due ses (released_hold session h)
release_hold o d due ses session h c k = record {
  met = k.met;
  low = k.low;
  in_order = k.in_order;
  before = k.before;
  closed = λ a b. close (h.session == session) refl a b;
  ended = k.ended;
  settled = k.settled;
}
  where
    close : (b : Bool) → (h.session == session) ≡ b → (if b then false else h.in_force) ≡ false → h.gone ≡ false → closed_by o h.session d ≡ true
    close true e a g = subst (λ n. closed_by o n d ≡ true) (sym (eqb-true h.session session e)) c
    close false e a g = k.closed a g

-- a crash
pub crash_hold : (o : List Entry) (d : ℕ) (due due' : Option ℕ) (ses : ℕ → Option Session) (kept : ℕ) (e : Entry) (h : Hold) → d ≤ kept → kept ≤ length o
    → ((n : ℕ) → is_some (ses n) ≡ true → opens (take d o) n ≡ true)
    → (due' ≡ None → (n : ℕ) → live (take kept o) n ≡ false)
    → HoldKept o d due ses h → HoldKept (take kept o ++ e ∷ []) kept due' ses (hold_after_crash (take kept o) kept h)
crash_hold o d due due' ses kept e h low high opened none k = record {
  met = k.met;
  low = λ a. omega (arith, k.low a, low);
  in_order = λ t g. (omega (arith, length-append (take kept o) (e ∷ []), length-take-le kept o high, untouched_low t g), subst (λ (ys : List Entry). opens ys h.session ≡ true) (sym (cut h.at (untouched_low t g))) (k.in_order t (there g)).1);
  before = k.before;
  closed = λ f g. subst (λ (ys : List Entry). list_any (closes h.session) ys ≡ true) (sym whole) (close (live (take kept o) h.session) refl f g);
  ended = λ g a n. subst (λ (ys : List Entry). list_any (closes h.session) ys ≡ true) (sym whole) (end (or_cases h.gone lost g) a n);
  settled = λ n g t. inl (any_front (closes h.session) (take kept o) (e ∷ []) (opened_closes (take kept o) h.session (kept_open (opened h.session (k.met t))) (none n h.session)));
}
  where
    lost : Bool
    lost = is_sent h && nat_lt kept h.at

    there : (h.gone || lost) ≡ false → h.gone ≡ false
    there g = (or_parts h.gone lost g).0

    cut : (n : ℕ) → n ≤ kept → take n (take kept o ++ e ∷ []) ≡ take n o
    cut n under = take-append-le n (take kept o) (e ∷ []) (omega (arith, length-take-le kept o high)) ∙ take-take n kept o under

    whole : take kept (take kept o ++ e ∷ []) ≡ take kept o
    whole = cut kept (omega arith)

    sent_low : h.answered ≡ false → is_some h.given ≡ false → (h.gone || lost) ≡ false → h.at ≤ kept
    sent_low a n g =
        let x = or_parts h.gone lost g in
        let sent : is_sent h ≡ true = subst (λ (b : Bool). (not b && (not (is_some h.given) && not h.gone)) ≡ true) (sym a) (subst (λ (b : Bool). (not b && not h.gone) ≡ true) (sym n) (subst (λ (b : Bool). not b ≡ true) (sym x.0) refl)) in
        ltb-false kept h.at (subst (λ (b : Bool). (b && nat_lt kept h.at) ≡ false) sent x.1)

    untouched_low : touched h ≡ false → (h.gone || lost) ≡ false → h.at ≤ kept
    untouched_low t g = let x = or_parts h.answered (is_some h.given) t in sent_low x.0 x.1 g

    kept_open : opens (take d o) h.session ≡ true → opens (take kept o) h.session ≡ true
    kept_open x = any_wider (is_open h.session) d kept o low x

    open_now : (b : Bool) → touched h ≡ b → (h.gone || lost) ≡ false → opens (take kept o) h.session ≡ true
    open_now true t g = kept_open (opened h.session (k.met t))
    open_now false t g = any_wider (is_open h.session) h.at kept o (untouched_low t g) (k.in_order t (there g)).1

    close : (b : Bool) → live (take kept o) h.session ≡ b → (if b then h.in_force else false) ≡ false → (h.gone || lost) ≡ false → list_any (closes h.session) (take kept o) ≡ true
    close true l f g = any_wider (closes h.session) d kept o low (k.closed f (there g))
    close false l f g = opened_closes (take kept o) h.session (open_now (touched h) refl g) l

    end : (h.gone ≡ true) ⊎ (lost ≡ true) → h.answered ≡ true → is_some h.given ≡ false → list_any (closes h.session) (take kept o) ≡ true
    end (inl g) a n = any_wider (closes h.session) d kept o low (k.ended g a n)
    end (inr x) a n = absurd (both_ways h.answered a (sent_facts h (and_parts (is_sent h) (nat_lt kept h.at) x).0).0)
