-- A hold that is gone and was answered or given up, through each row: a Close of its session is synced, or all that its job had
-- issued before stands in the order.
use Rattle.std.proofs.Common.{◌≡◌, ℕ, ◌≤◌, List, [], ◌∷◌, ◌++◌, length, take, drop, refl, subst, sym, ap, ◌∙◌, Bool, true, false, ◌==◌}
use Rattle.std.proofs.Common.{if◌then◌else◌, arith, ◌||◌, ◌&&◌, not, Option, Some, None, ◌⊎◌, inl, inr}
use Rattle.std.specs.Prelude.{is_some, nat_lt}
use Rattle.std.specs.List.{list_any}
use Rattle.std.proofs.lemmas.Bool.{eqb-true, and_parts, or_cases}
use Rattle.std.proofs.lemmas.List.{take-append-drop, take-append-le, take-take, length-take, length-take-le}
use Rattle.std.proofs.lemmas.List.Folds.{list_any-append}
use Rattle.plain_orders.specs.declared.entry.Entry.{Entry}
use Rattle.plain_orders.specs.declared.entry.Entry.TheVariants.{Epoch, Opened, Closed, Update, Commit, Rollback}
use Rattle.plain_orders.specs.declared.mode.Mode.{Mode}
use Rattle.plain_orders.specs.Entries.{live, count, closes, closed_by}
use Rattle.plain_orders.specs.Own.{Issued}
use Rattle.plain_orders.specs.Sessions.{is_close}
use Rattle.plain_runs.specs.Plain.{Session, Hold, Given}
use Rattle.plain_runs.specs.Items.{all_stand}
use Rattle.plain_runs.specs.LockRows.{given_before}
use Rattle.plain_runs.specs.Holds.{binds, freed_hold, given_hold, hold_after_back, hold_after_crash, is_lock, is_of, is_same_given, is_sent, touched}
use Rattle.plain_runs.proofs.Numbers.{InOrder, has_counted}
use Rattle.plain_runs.proofs.Lists.{any_grown, any_wider, both_ways, item_more, opened_closes, opens, is_open, stand_all, stand_more}
use Rattle.plain_runs.proofs.HoldRows.{HoldKept, IssuedGrows, issued_of, of_facts, sent_facts}

-- it was given up, and all that its job had issued before stands
abbrev pub GivenStands : List Entry → List Issued → Hold → Type 0
GivenStands o issued h = (g : Given) × (h.given ≡ Some g) × (all_stand o h.session h.job 0 (take g.before issued) ≡ true)

-- that, or a Close of its session is among the first d entries
abbrev pub OverIn : List Entry → ℕ → List Issued → Hold → Type 0
OverIn o d issued h = (closed_by o h.session d ≡ true) ⊎ GivenStands o issued h

-- a hold that is gone and was answered was given up
abbrev pub GivenWhereGone : Hold → Type 0
GivenWhereGone h = h.gone ≡ true → h.answered ≡ true → is_some h.given ≡ true

-- one that is gone is over
abbrev pub OverWhereGone : List Entry → ℕ → Option ℕ → (ℕ → Option Session) → Hold → Type 0
OverWhereGone o d due ses h = due ≡ None → h.gone ≡ true → touched h ≡ true → OverIn o d (issued_of (ses h.session)) h

-- the order, what is synced and what was issued grow
pub over_grows : (o more : List Entry) (d e : ℕ) (due due' : Option ℕ) (ses ses' : ℕ → Option Session) (h : Hold) → d ≤ length o → d ≤ e
    → (due' ≡ None → due ≡ None) → ((n : ℕ) → IssuedGrows (ses n) (ses' n)) → HoldKept o d due ses h
    → OverWhereGone o d due ses h → OverWhereGone (o ++ more) e due' ses' h
over_grows o more d e due due' ses ses' h within low less grows k old n g t = go (old (less n) g t)
  where
    issued : List Issued
    issued = issued_of (ses h.session)

    go : OverIn o d issued h → OverIn (o ++ more) e (issued_of (ses' h.session)) h
    go (inl c) = inl (any_grown (closes h.session) d e o more within low c)
    go (inr c) =
        let same : take c.0.before (issued_of (ses' h.session)) ≡ take c.0.before issued =
        ap (take c.0.before) (grows h.session).1.1 ∙ take-append-le c.0.before issued (grows h.session).1.0 (k.before c.0 c.1)
        in
        inr (
          c.0,
          c.1,
          stand_more o (o ++ more) h.session h.job 0 (take c.0.before (issued_of (ses' h.session))) (λ w. item_more o more h.session w)
              (subst (λ (is : List Issued). all_stand o h.session h.job 0 is ≡ true) (sym same) c.2),
        )

-- what was given up first is what a hold was given up by that goes with it
same_before : (g : Given) (o : Option Given) → is_same_given (Some g) o ≡ true → g.before ≡ given_before o
same_before g None t = absurd (cc (t))
same_before g (Some x) t = eqb-true g.before x.before (and_parts (g.turn == x.turn) (g.before == x.before) t).1

freed_facts : (first : Option Given) (session job : ℕ) (mode : Mode) (key : List ℕ) (h : Hold) → is_same_given (given_hold session job mode key h) first ≡ true
    → (g : Given) × (h.given ≡ Some g) × (h.session ≡ session) × (h.job ≡ job) × (g.before ≡ given_before first)
freed_facts first session job mode key h e = go (binds h && (is_of session job h && is_lock mode key h)) refl e
  where
    of_given : (o : Option Given) → h.given ≡ o → is_same_given o first ≡ true → (g : Given) × (h.given ≡ Some g) × (g.before ≡ given_before first)
    of_given None is t = absurd (cc (t))
    of_given (Some g) is t = (g, is, same_before g first t)

    go : (b : Bool) → (binds h && (is_of session job h && is_lock mode key h)) ≡ b → is_same_given (if b then h.given else None) first ≡ true
        → (g : Given) × (h.given ≡ Some g) × (h.session ≡ session) × (h.job ≡ job) × (g.before ≡ given_before first)
    go false is t = absurd (cc (t))
    go true is t =
        let a = and_parts (binds h) (is_of session job h && is_lock mode key h) is in
        let f = of_facts session job h (and_parts (is_of session job h) (is_lock mode key h) a.1).0 in
        let g = of_given h.given refl t in
        (g.0, g.1, f.0, f.1, g.2)

-- a hold that is freed
pub given_freed : (first : Option Given) (session job : ℕ) (mode : Mode) (key : List ℕ) (h : Hold)
    → GivenWhereGone h → GivenWhereGone (freed_hold first session job mode key h)
given_freed first session job mode key h old g a = go (or_cases h.gone (is_same_given (given_hold session job mode key h) first) g)
  where
    go : (h.gone ≡ true) ⊎ (is_same_given (given_hold session job mode key h) first ≡ true) → is_some h.given ≡ true
    go (inl e) = old e a
    go (inr e) = ap is_some (freed_facts first session job mode key h e).1

pub over_freed : (o : List Entry) (d : ℕ) (due : Option ℕ) (ses : ℕ → Option Session) (first : Option Given) (session job : ℕ) (mode : Mode)
    (key : List ℕ) (h : Hold) → all_stand o session job 0 (take (given_before first) (issued_of (ses session))) ≡ true
    → OverWhereGone o d due ses h → OverWhereGone o d due ses (freed_hold first session job mode key h)
over_freed o d due ses first session job mode key h all old n g t = go (or_cases h.gone (is_same_given (given_hold session job mode key h) first) g)
  where
    go : (h.gone ≡ true) ⊎ (is_same_given (given_hold session job mode key h) first ≡ true) → OverIn o d (issued_of (ses h.session)) h
    go (inl e) = old n e t
    go (inr e) =
        let f = freed_facts first session job mode key h e in
        inr (
          f.0,
          f.1,
          subst (λ m. all_stand o h.session h.job 0 (take m (issued_of (ses h.session))) ≡ true) (sym f.4)
              (subst (λ r. all_stand o r h.job 0 (take (given_before first) (issued_of (ses r))) ≡ true) (sym f.2)
              (subst (λ j. all_stand o session j 0 (take (given_before first) (issued_of (ses session))) ≡ true) (sym f.3) all)),
        )

-- a Close of a session is a Close
close_of : (s : ℕ) (es : List Entry) → list_any is_close es ≡ false → list_any (closes s) es ≡ false
close_of s [] e = refl
close_of s (Epoch number ∷ es) e = close_of s es e
close_of s (Opened session app ∷ es) e = close_of s es e
close_of s (Closed session ∷ es) e = absurd (cc (e))
close_of s (Update session w job txn op ∷ es) e = close_of s es e
close_of s (Commit session w job txn ∷ es) e = close_of s es e
close_of s (Rollback session w job txn ∷ es) e = close_of s es e

-- where no Close stands behind the first d entries, each stands among them
pub closed_synced : (o : List Entry) (s d : ℕ) → list_any is_close (drop d o) ≡ false → list_any (closes s) o ≡ true → closed_by o s d ≡ true
closed_synced o s d none c = go (or_cases (closed_by o s d) (list_any (closes s) (drop d o)) parts)
  where
    parts : (closed_by o s d || list_any (closes s) (drop d o)) ≡ true
    parts = sym (list_any-append (closes s) (take d o) (drop d o)) ∙ subst (λ (es : List Entry). list_any (closes s) es ≡ true) (sym (take-append-drop d o)) c

    go : (closed_by o s d ≡ true) ⊎ (list_any (closes s) (drop d o) ≡ true) → closed_by o s d ≡ true
    go (inl x) = x
    go (inr x) = absurd (both_ways (list_any (closes s) (drop d o)) x (close_of s (drop d o) none))

-- the round is over
pub given_back : (o : List Entry) (h : Hold) → GivenWhereGone h → GivenWhereGone (hold_after_back o h)
given_back o h old g a = go (or_cases h.gone (live o h.session && (binds h && (not h.answered || is_some h.given))) g)
  where
    go : (h.gone ≡ true) ⊎ ((live o h.session && (binds h && (not h.answered || is_some h.given))) ≡ true) → is_some h.given ≡ true
    go (inl e) = old e a
    go (inr e) =
        let x = and_parts (live o h.session) (binds h && (not h.answered || is_some h.given)) e in
        let y = and_parts (binds h) (not h.answered || is_some h.given) x.1 in
        subst (λ (b : Bool). (not b || is_some h.given) ≡ true) a y.1

pub over_back : (o : List Entry) (d : ℕ) (due : Option ℕ) (ses : ℕ → Option Session) (h : Hold) → InOrder o → list_any is_close (drop d o) ≡ false
    → ((n : ℕ) → is_some (ses n) ≡ true → opens o n ≡ true) → ((n : ℕ) → live o n ≡ true → count o n ≡ length (issued_of (ses n)))
    → HoldKept o d due ses h → GivenWhereGone h → OverWhereGone o d None ses (hold_after_back o h)
over_back o d due ses h numbered none opened whole k old n g t = by_live (live o h.session) refl
  where
    given : is_some h.given ≡ true
    given = go (or_cases h.answered (is_some h.given) t)
      where
        go : (h.answered ≡ true) ⊎ (is_some h.given ≡ true) → is_some h.given ≡ true
        go (inl a) = given_back o h old g a
        go (inr e) = e

    by_given : (r : Option Given) → h.given ≡ r → live o h.session ≡ true → OverIn o d (issued_of (ses h.session)) h
    by_given None is l = absurd (both_ways (is_some h.given) given (ap is_some is))
    by_given (Some x) is l =
        inr (
          x,
          is,
          stand_all o h.session h.job 0 (take x.before (issued_of (ses h.session)))
              (λ w low high. has_counted o h.session w numbered low (omega (arith, high, length-take x.before (issued_of (ses h.session)), whole h.session l))),
        )

    by_live : (b : Bool) → live o h.session ≡ b → OverIn o d (issued_of (ses h.session)) h
    by_live true l = by_given h.given refl l
    by_live false l = inl (closed_synced o h.session d none (opened_closes o h.session (opened h.session (k.met t)) l))

-- a crash
pub given_crash : (es : List Entry) (kept : ℕ) (h : Hold) → GivenWhereGone h → GivenWhereGone (hold_after_crash es kept h)
given_crash es kept h old g a = go (or_cases h.gone (is_sent h && nat_lt kept h.at) g)
  where
    go : (h.gone ≡ true) ⊎ ((is_sent h && nat_lt kept h.at) ≡ true) → is_some h.given ≡ true
    go (inl e) = old e a
    go (inr e) = absurd (both_ways h.answered a (sent_facts h (and_parts (is_sent h) (nat_lt kept h.at) e).0).0)

pub over_crash : (o : List Entry) (d : ℕ) (due due' : Option ℕ) (ses : ℕ → Option Session) (kept : ℕ) (e : Entry) (h : Hold) → d ≤ kept → kept ≤ length o
    → ((n : ℕ) → is_some (ses n) ≡ true → opens (take d o) n ≡ true) → (due' ≡ None → (n : ℕ) → live (take kept o) n ≡ false)
    → HoldKept o d due ses h → OverWhereGone (take kept o ++ e ∷ []) kept due' ses (hold_after_crash (take kept o) kept h)
over_crash o d due due' ses kept e h low high opened none k n g t =
    inl (subst (λ (es : List Entry). list_any (closes h.session) es ≡ true) (sym whole) (opened_closes (take kept o) h.session there (none n h.session)))
  where
    there : opens (take kept o) h.session ≡ true
    there = any_wider (is_open h.session) d kept o low (opened h.session (k.met t))

    whole : take kept (take kept o ++ e ∷ []) ≡ take kept o
    whole = take-append-le kept (take kept o) (e ∷ []) (omega (arith, length-take-le kept o high)) ∙ take-take kept kept o (omega arith)
