-- Of a session that an ordered list has not opened yet nothing stands, and a session has one application server.
use Rattle.std.proofs.Common.{◌≡◌, ◌∙◌, ◌+◌, ◌<◌, ◌≤◌, ◌⊎◌, inl, inr, ℕ, Bool, true, false, if◌then◌else◌, nat_eq, List, [], ◌∷◌, ◌++◌, Option, Some, None, refl, sym, arith, length, length-append}
use Rattle.std.proofs.lemmas.Bool.{eqb-true, false_from_ne_true}
use Rattle.plain_orders.specs.declared.entry.Entry.{Entry}
use Rattle.plain_orders.specs.declared.entry.Entry.TheVariants.{Epoch, Opened, Closed, Update, Commit, Rollback}
use Rattle.plain_orders.specs.Begun.{begun_after}
use Rattle.plain_orders.specs.Entries.{count, w_in, live, live_after, live_session, live_session_after, unless_closed}
use Rattle.plain_orders.specs.Fold.{fold, is_begun}
use Rattle.plain_orders.specs.Ordered.{MayFollow, IsOrdered}
use Rattle.plain_orders.proofs.EntryLemmas.{count-push, live-push, live_session-push}
use Rattle.plain_orders.proofs.OrderLemmas.{ordered_induction}
use Rattle.plain_orders.proofs.BegunLemmas.{begun-push}

-- two numbers that are not equal are told apart
pub apart : (m n : ℕ) → (m ≡ n → ⊥) → nat_eq m n ≡ false
apart m n ne = false_from_ne_true (nat_eq m n) (λ h. ne (eqb-true m n h))

-- a session that is live and one that is not are two
pub apart_live : (es : List Entry) (a b : ℕ) → live es a ≡ true → live es b ≡ false → nat_eq a b ≡ false
apart_live es a b x y = apart a b (λ e. absurd cc)

-- what holds of sessions whose Open is yet to come, and of those that application servers have
pub record Past (es : List Entry) : Type 0 where
  pub is_dead : (s : ℕ) → length es < s → live es s ≡ false
  pub counts_none : (s : ℕ) → length es < s → count es s ≡ 0
  pub begins_none : (s j t : ℕ) → length es < s → is_begun s j t (fold es).begun ≡ false
  pub is_past : (a s : ℕ) → live_session es a ≡ Some s → s ≤ length es
  pub has_one : (a b s : ℕ) → live_session es a ≡ Some s → live_session es b ≡ Some s → a ≡ b

-- a session that is there after a Close was there before
pub kept_open : (session s : ℕ) (o : Option ℕ) → unless_closed session o ≡ Some s → o ≡ Some s
kept_open session s None h = absurd cc
kept_open session s (Some x) h = go (nat_eq x session) h
  where
    go : (b : Bool) → (if b then None else Some x) ≡ Some s → Some x ≡ Some s
    go true e = absurd cc
    go false e = e

module _ (es : List Entry) (p : Past es) where
  -- a session yet to come is not live
  dead : (e : Entry) → MayFollow es e → (s : ℕ) → length es + 1 < s → live_after (live es s) e s ≡ false
  dead (Epoch number) may s late = p.is_dead s (omega arith)
  dead (Opened session app) may s late = rw (apart session s (λ e. (let n : session ≡ length es + 1 = may.is_position in omega arith))) (p.is_dead s (omega arith))
  dead (Closed session) may s late = let d : live es s ≡ false = p.is_dead s (omega arith) in rw (apart_live es session s may.is_live d) d
  dead (Update session w job txn op) may s late = p.is_dead s (omega arith)
  dead (Commit session w job txn) may s late = p.is_dead s (omega arith)
  dead (Rollback session w job txn) may s late = p.is_dead s (omega arith)

  apart_late : (session s : ℕ) → live es session ≡ true → length es + 1 < s → nat_eq session s ≡ false
  apart_late session s lives late = apart_live es session s lives (p.is_dead s (omega arith))

  -- and has no item
  none : (e : Entry) → MayFollow es e → (s : ℕ) → length es + 1 < s → w_in s e ≡ 0
  none (Epoch number) may s late = refl
  none (Opened session app) may s late = refl
  none (Closed session) may s late = refl
  none (Update session w job txn op) may s late = rw (apart_late session s may.is_live late) refl
  none (Commit session w job txn) may s late = rw (apart_late session s may.is_live late) refl
  none (Rollback session w job txn) may s late = rw (apart_late session s may.is_live late) refl

  -- and no transaction
  unbegun : (e : Entry) → MayFollow es e → (s j t : ℕ) → length es + 1 < s → begun_after false e s j t ≡ false
  unbegun (Epoch number) may s j t late = refl
  unbegun (Opened session app) may s j t late = refl
  unbegun (Closed session) may s j t late = rw (apart_late session s may.is_live late) refl
  unbegun (Update session w job txn op) may s j t late = rw (apart_late session s may.is_live late) refl
  unbegun (Commit session w job txn) may s j t late = rw (apart_late session s may.is_live late) refl
  unbegun (Rollback session w job txn) may s j t late = rw (apart_late session s may.is_live late) refl

  -- after an Open an application server has this session or the one that it had
  opened : (session app a s : ℕ) (o : Option ℕ) → (if nat_eq app a then Some session else o) ≡ Some s → ((app ≡ a) × (session ≡ s)) ⊎ (o ≡ Some s)
  opened session app a s o h = go (nat_eq app a) refl h
    where
      go : (b : Bool) → nat_eq app a ≡ b → (if b then Some session else o) ≡ Some s → ((app ≡ a) × (session ≡ s)) ⊎ (o ≡ Some s)
      go true e f = inl (eqb-true app a e, cc)
      go false e f = inr f

  -- an application server's session is not yet to come
  past : (e : Entry) → MayFollow es e → (a s : ℕ) → live_session_after (live_session es a) e a ≡ Some s → s ≤ length es + 1
  past (Epoch number) may a s h = let q : s ≤ length es = p.is_past a s h in omega arith
  past (Opened session app) may a s h = elim (opened session app a s _ h) [
    | inl n ↦ (let k : session ≡ length es + 1 = may.is_position in let m : session ≡ s = n.1 in omega arith)
    | inr n ↦ (let q : s ≤ length es = p.is_past a s n in omega arith)
  ]
  past (Closed session) may a s h = let q : s ≤ length es = p.is_past a s (kept_open session s _ h) in omega arith
  past (Update session w job txn op) may a s h = let q : s ≤ length es = p.is_past a s h in omega arith
  past (Commit session w job txn) may a s h = let q : s ≤ length es = p.is_past a s h in omega arith
  past (Rollback session w job txn) may a s h = let q : s ≤ length es = p.is_past a s h in omega arith

  -- and no other has it
  one : (e : Entry) → MayFollow es e → (a b s : ℕ) → live_session_after (live_session es a) e a ≡ Some s → live_session_after (live_session es b) e b ≡ Some s → a ≡ b
  one (Epoch number) may a b s g h = p.has_one a b s g h
  one (Opened session app) may a b s g h = elim (opened session app a s _ g) [
    | inl m ↦ elim (opened session app b s _ h) [
      | inl n ↦ sym m.0 ∙ n.0
      | inr n ↦ absurd (let q : s ≤ length es = p.is_past b s n in let k : session ≡ length es + 1 = may.is_position in let r : session ≡ s = m.1 in omega arith)
    ]
    | inr m ↦ elim (opened session app b s _ h) [
      | inl n ↦ absurd (let q : s ≤ length es = p.is_past a s m in let k : session ≡ length es + 1 = may.is_position in let r : session ≡ s = n.1 in omega arith)
      | inr n ↦ p.has_one a b s m n
    ]
  ]
  one (Closed session) may a b s g h = p.has_one a b s (kept_open session s _ g) (kept_open session s _ h)
  one (Update session w job txn op) may a b s g h = p.has_one a b s g h
  one (Commit session w job txn) may a b s g h = p.has_one a b s g h
  one (Rollback session w job txn) may a b s g h = p.has_one a b s g h

  past-push : (e : Entry) → MayFollow es e → Past (es ++ e ∷ [])
  past-push e may = record {
    is_dead = λ s late. live-push es e s ∙ dead e may s (late_too s late);
    counts_none = λ s late. count-push es e s ∙ rw (p.counts_none s (let k : length es + 1 < s = late_too s late in omega arith), none e may s (late_too s late)) refl;
    begins_none = λ s j t late. begun-push es e s j t ∙ rw (p.begins_none s j t (let k : length es + 1 < s = late_too s late in omega arith)) (unbegun e may s j t (late_too s late));
    is_past = λ a s h. (let n : length (es ++ e ∷ []) ≡ length es + 1 = length-append es (e ∷ []) in let k : s ≤ length es + 1 = past e may a s (sym (live_session-push es e a) ∙ h) in omega arith);
    has_one = λ a b s g h. one e may a b s (sym (live_session-push es e a) ∙ g) (sym (live_session-push es e b) ∙ h);
  }
    where
      late_too : (s : ℕ) → length (es ++ e ∷ []) < s → length es + 1 < s
      late_too s late = let n : length (es ++ e ∷ []) ≡ length es + 1 = length-append es (e ∷ []) in omega arith

nothing : Past []
nothing = record {
  is_dead = λ s late. refl;
  counts_none = λ s late. refl;
  begins_none = λ s j t late. refl;
  is_past = λ a s h. absurd cc;
  has_one = λ a b s g h. absurd cc;
}

-- so of each ordered list
pub ordered_past : (es : List Entry) → IsOrdered es → Past es
ordered_past es o = ordered_induction Past nothing (λ es e o p may. past-push es p e may) es o
