-- In an ordered list a live session is the one live session of the application server that opened it.
use Rattle.std.proofs.Common.{◌≡◌, ◌∙◌, ◌+◌, ◌≤◌, ◌<◌, ◌⊎◌, inl, inr, ℕ, Bool, true, false, if◌then◌else◌, nat_eq, List, [], ◌∷◌, ◌++◌, length, Option, Some, None, refl, sym, ap, arith}
use Rattle.std.proofs.lemmas.Bool.{eqb-true, eq-eqb}
use Rattle.std.proofs.lemmas.Bool.{ne_eqb}
use Rattle.std.proofs.lemmas.List.{length-append}
use Rattle.plain_orders.specs.declared.entry.Entry.{Entry}
use Rattle.plain_orders.specs.declared.entry.Entry.TheVariants.{Epoch, Opened, Closed, Update, Commit, Rollback}
use Rattle.plain_orders.specs.Entries.{live, live_after, live_session, live_session_after, unless_closed}
use Rattle.plain_orders.specs.Sessions.{app_in, app_after}
use Rattle.plain_orders.specs.Ordered.{MayFollow, IsOrdered}
use Rattle.plain_orders.proofs.EntryLemmas.{live-push, live_session-push, app_from-push}
use Rattle.plain_orders.proofs.OrderLemmas.{ordered_induction}
use Rattle.plain_orders.proofs.PastLemmas.{apart, kept_open, Past, ordered_past}

-- after an Open an application server has this session or the one that it had
opens : (session app a s : ℕ) (o : Option ℕ) → (if nat_eq app a then Some session else o) ≡ Some s → ((app ≡ a) × (session ≡ s)) ⊎ (o ≡ Some s)
opens session app a s o x = go (nat_eq app a) refl x
  where
    go : (b : Bool) → nat_eq app a ≡ b → (if b then Some session else o) ≡ Some s → ((app ≡ a) × (session ≡ s)) ⊎ (o ≡ Some s)
    go true k y = inl (eqb-true app a k, cc)
    go false k y = inr y

-- whose sessions are live
pub record OneLive (es : List Entry) : Type 0 where
  pub is_one : (a s : ℕ) → live es s ≡ true → app_in es s ≡ Some a → live_session es a ≡ Some s
  pub lives : (a s : ℕ) → live_session es a ≡ Some s → live es s ≡ true
  pub has_app : (a s : ℕ) → live_session es a ≡ Some s → app_in es s ≡ Some a

module _ (es : List Entry) (p : Past es) (h : OneLive es) where
  opens_one : (session app : ℕ) → session ≡ length es + 1 → live_session es app ≡ None → (a s : ℕ) (b c : Bool) → nat_eq session s ≡ b → nat_eq app a ≡ c
      → (if b then true else live es s) ≡ true → (if b then Some app else app_in es s) ≡ Some a → (if c then Some session else live_session es a) ≡ Some s
  opens_one session app at free a s true true k n x y = ap Some (eqb-true session s k)
  opens_one session app at free a s true false k n x y = absurd (let same : app ≡ a = cc in let t : nat_eq app a ≡ true = eq-eqb app a same in cc)
  opens_one session app at free a s false true k n x y = absurd (let same : app ≡ a = eqb-true app a n in let was : live_session es a ≡ Some s = h.is_one a s x y in cc)
  opens_one session app at free a s false false k n x y = h.is_one a s x y

  still_lives : (session s : ℕ) → live es s ≡ true → (if nat_eq session s then true else live es s) ≡ true
  still_lives session s x = go (nat_eq session s)
    where
      go : (b : Bool) → (if b then true else live es s) ≡ true
      go true = refl
      go false = x

  closes_one : (session a s : ℕ) (b : Bool) → nat_eq session s ≡ b → (if b then false else live es s) ≡ true → app_in es s ≡ Some a → unless_closed session (live_session es a) ≡ Some s
  closes_one session a s true k x y = absurd cc
  closes_one session a s false k x y = rw (h.is_one a s x y, apart s session (λ e. absurd (let t : nat_eq session s ≡ true = eq-eqb session s (sym e) in cc))) refl

  closed_apart : (session a s : ℕ) (o : Option ℕ) → unless_closed session o ≡ Some s → nat_eq s session ≡ false
  closed_apart session a s None x = absurd cc
  closed_apart session a s (Some q) x = go (nat_eq q session) refl x
    where
      go : (b : Bool) → nat_eq q session ≡ b → (if b then None else Some q) ≡ Some s → nat_eq s session ≡ false
      go true k y = absurd cc
      go false k y = (let same : q ≡ s = cc in ap (λ (n : ℕ). nat_eq n session) (sym same) ∙ k)

  is_one_after : (e : Entry) → MayFollow es e → (a s : ℕ) → live_after (live es s) e s ≡ true → app_after (app_in es s) e s ≡ Some a → live_session_after (live_session es a) e a ≡ Some s
  is_one_after (Epoch number) may a s x y = h.is_one a s x y
  is_one_after (Opened session app) may a s x y = opens_one session app may.is_position may.is_free a s (nat_eq session s) (nat_eq app a) refl refl x y
  is_one_after (Closed session) may a s x y = closes_one session a s (nat_eq session s) refl x y
  is_one_after (Update session w job txn op) may a s x y = h.is_one a s x y
  is_one_after (Commit session w job txn) may a s x y = h.is_one a s x y
  is_one_after (Rollback session w job txn) may a s x y = h.is_one a s x y

  lives_after : (e : Entry) → MayFollow es e → (a s : ℕ) → live_session_after (live_session es a) e a ≡ Some s → live_after (live es s) e s ≡ true
  lives_after (Epoch number) may a s x = h.lives a s x
  lives_after (Opened session app) may a s x = elim (opens session app a s _ x) [
    | inl n ↦ rw (eq-eqb session s n.1) refl
    | inr n ↦ still_lives session s (h.lives a s n)
  ]
  lives_after (Closed session) may a s x =
      rw (apart session s (λ e. absurd (let t : nat_eq s session ≡ true = eq-eqb s session (sym e) in let f : nat_eq s session ≡ false = closed_apart session a s _ x in cc))) (h.lives a s (kept_open session s _ x))
  lives_after (Update session w job txn op) may a s x = h.lives a s x
  lives_after (Commit session w job txn) may a s x = h.lives a s x
  lives_after (Rollback session w job txn) may a s x = h.lives a s x

  has_app_after : (e : Entry) → MayFollow es e → (a s : ℕ) → live_session_after (live_session es a) e a ≡ Some s → app_after (app_in es s) e s ≡ Some a
  has_app_after (Epoch number) may a s x = h.has_app a s x
  has_app_after (Opened session app) may a s x = elim (opens session app a s _ x) [
    | inl n ↦ rw (eq-eqb session s n.1) (ap Some n.0)
    | inr n ↦ rw (apart session s (λ e. absurd (let q : s ≤ length es = p.is_past a s n in let k : session ≡ length es + 1 = may.is_position in omega arith))) (h.has_app a s n)
  ]
  has_app_after (Closed session) may a s x = h.has_app a s (kept_open session s _ x)
  has_app_after (Update session w job txn op) may a s x = h.has_app a s x
  has_app_after (Commit session w job txn) may a s x = h.has_app a s x
  has_app_after (Rollback session w job txn) may a s x = h.has_app a s x

  one_live-push : (e : Entry) → MayFollow es e → OneLive (es ++ e ∷ [])
  one_live-push e may = record {
    is_one = λ a s x y. live_session-push es e a ∙ is_one_after e may a s (sym (live-push es e s) ∙ x) (sym (app_from-push None es e s) ∙ y);
    lives = λ a s x. live-push es e s ∙ lives_after e may a s (sym (live_session-push es e a) ∙ x);
    has_app = λ a s x. app_from-push None es e s ∙ has_app_after e may a s (sym (live_session-push es e a) ∙ x);
  }

-- so of each ordered list
pub ordered_one_live : (es : List Entry) → IsOrdered es → OneLive es
ordered_one_live es o = ordered_induction
    OneLive
    (record { is_one = λ a s x y. absurd cc; lives = λ a s x. absurd cc; has_app = λ a s x. absurd cc })
    (λ l e ordered h may. one_live-push l (ordered_past l ordered) h e may)
    es
    o

-- a session whose Open doesn't stand in the list yet
none_pushed : (es : List Entry) (e : Entry) → IsOrdered es → ((s : ℕ) → length es < s → app_in es s ≡ None) → MayFollow es e → (s : ℕ) → length (es ++ e ∷ []) < s
    → app_in (es ++ e ∷ []) s ≡ None
none_pushed es (Epoch number) o none may s above = app_from-push None es (Epoch number) s ∙ none s (omega (arith, above, length-append es (Epoch number ∷ [])))
none_pushed es (Opened session app) o none may s above =
    app_from-push None es (Opened session app) s
    ∙ ap (λ (b : Bool). if b then Some app else app_in es s)
    (ne_eqb session s (λ same. absurd (omega (arith, above, same, may.is_position, length-append es (Opened session app ∷ [])))))
    ∙ none s (omega (arith, above, length-append es (Opened session app ∷ [])))
none_pushed es (Closed session) o none may s above = app_from-push None es (Closed session) s ∙ none s (omega (arith, above, length-append es (Closed session ∷ [])))
none_pushed es (Update session w job txn op) o none may s above =
    app_from-push None es (Update session w job txn op) s ∙ none s (omega (arith, above, length-append es (Update session w job txn op ∷ [])))
none_pushed es (Commit session w job txn) o none may s above =
    app_from-push None es (Commit session w job txn) s ∙ none s (omega (arith, above, length-append es (Commit session w job txn ∷ [])))
none_pushed es (Rollback session w job txn) o none may s above =
    app_from-push None es (Rollback session w job txn) s ∙ none s (omega (arith, above, length-append es (Rollback session w job txn ∷ [])))

pub none_opened : (es : List Entry) → IsOrdered es → (s : ℕ) → length es < s → app_in es s ≡ None
none_opened es o = ordered_induction (λ (xs : List Entry). (s : ℕ) → length xs < s → app_in xs s ≡ None) (λ s above. refl) none_pushed es o
