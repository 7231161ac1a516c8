-- Fronts of an ordered list: which sessions are live in them, and which are yet to come.
use Rattle.std.proofs.Common.{◌≡◌, ◌∙◌, ◌≢◌, ℕ, zero, suc, ◌+◌, ◌≤◌, ◌<◌, Bool, true, false, nat_eq, List, [], ◌∷◌, ◌++◌, length, take, Option, Some, refl, sym, ap, subst, arith, if◌then◌else◌, length-append}
use Rattle.std.proofs.lemmas.Option.{same_Some}
use Rattle.std.proofs.lemmas.Bool.{eqb-true, eqb-false}
use Rattle.std.proofs.lemmas.List.{take-append-le}
use Rattle.std.proofs.Math.Seq.{take-length}
use Rattle.plain_orders.specs.declared.entry.Entry.{Entry}
use Rattle.plain_orders.specs.declared.entry.Entry.TheVariants.{Epoch, Opened, Closed, Update, Commit, Rollback}
use Rattle.plain_orders.specs.Entries.{count, live, live_after, live_session, live_session_after}
use Rattle.plain_orders.specs.Ordered.{MayFollow, OrderedFrom, IsOrdered}
use Rattle.plain_orders.proofs.EntryLemmas.{live-push, live_session-push}
use Rattle.plain_orders.proofs.OrderLemmas.{ordered_induction}
use Rattle.plain_orders.proofs.PastLemmas.{Past, ordered_past, kept_open}

ordered_from-take : (before es : List Entry) (n : ℕ) → OrderedFrom before es → OrderedFrom before (take n es)
ordered_from-take before es zero o = tt
ordered_from-take before [] (suc n) o = tt
ordered_from-take before (e ∷ es) (suc n) o = (o.0, ordered_from-take (before ++ e ∷ []) es n o.1)

-- a front of an ordered list is ordered
pub ordered-take : (es : List Entry) (n : ℕ) → IsOrdered es → IsOrdered (take n es)
ordered-take es n o = ordered_from-take [] es n o

-- so of a session whose Open is yet to come after it nothing stands in it
pub front_past : (es : List Entry) (n : ℕ) → IsOrdered es → Past (take n es)
front_past es n o = ordered_past (take n es) (ordered-take es n o)

-- a session that is live after an entry was live before it, or is the entry's own
lived : (es : List Entry) (e : Entry) (s : ℕ) → MayFollow es e → s ≤ length es → (b : Bool) → live_after b e s ≡ true → b ≡ true
lived es (Epoch number) s may low b h = h
lived es (Opened session app) s may low b h = go (nat_eq session s) refl h
  where
    go : (c : Bool) → nat_eq session s ≡ c → (if c then true else b) ≡ true → b ≡ true
    go true e h = absurd (let q : session ≡ length es + 1 = may.is_position in let r : session ≡ s = eqb-true session s e in omega arith)
    go false e h = h
lived es (Closed session) s may low b h = go (nat_eq session s) h
  where
    go : (c : Bool) → (if c then false else b) ≡ true → b ≡ true
    go true h = absurd (cc (h))
    go false h = h
lived es (Update session w job txn op) s may low b h = h
lived es (Commit session w job txn) s may low b h = h
lived es (Rollback session w job txn) s may low b h = h

-- the same of an application server's session
served : (es : List Entry) (e : Entry) (a s : ℕ) → MayFollow es e → s ≤ length es → (o : Option ℕ) → live_session_after o e a ≡ Some s → o ≡ Some s
served es (Epoch number) a s may low o h = h
served es (Opened session app) a s may low o h = go (nat_eq app a) h
  where
    go : (c : Bool) → (if c then Some session else o) ≡ Some s → o ≡ Some s
    go true h = absurd (let q : session ≡ length es + 1 = may.is_position in let r : session ≡ s = same_Some session s h in omega arith)
    go false h = h
served es (Closed session) a s may low o h = kept_open session s o h
served es (Update session w job txn op) a s may low o h = h
served es (Commit session w job txn) a s may low o h = h
served es (Rollback session w job txn) a s may low o h = h

module _ (n : ℕ) where
  abbrev LivesInFront : List Entry → Type 0
  LivesInFront es = (s : ℕ) → s ≤ n → n ≤ length es → live es s ≡ true → live (take n es) s ≡ true

  abbrev ServesInFront : List Entry → Type 0
  ServesInFront es = (a s : ℕ) → s ≤ n → n ≤ length es → live_session es a ≡ Some s → live_session (take n es) a ≡ Some s

  -- a front with one entry more after it is the whole, or a front of what was before
  by_length : (P : List Entry → Type 0) (es : List Entry) (e : Entry) → n ≤ length (es ++ e ∷ []) → P (es ++ e ∷ []) → (n ≤ length es → P (take n es)) → P (take n (es ++ e ∷ []))
  by_length P es e low whole old = go (nat_eq n (length (es ++ e ∷ []))) refl
    where
      go : (b : Bool) → nat_eq n (length (es ++ e ∷ [])) ≡ b → P (take n (es ++ e ∷ []))
      go true same = subst P (sym (ap (λ k. take k (es ++ e ∷ [])) (eqb-true n (length (es ++ e ∷ [])) same) ∙ take-length (es ++ e ∷ []))) whole
      go false other =
          let more : length (es ++ e ∷ []) ≡ length es + 1 = length-append es (e ∷ []) in
          let differ : n ≢ length (es ++ e ∷ []) = eqb-false n (length (es ++ e ∷ [])) other in
          let less : n ≤ length es = omega (arith, low, more, differ) in
          subst P (sym (take-append-le n es (e ∷ []) less)) (old less)

  lives-push : (es : List Entry) (e : Entry) → IsOrdered es → LivesInFront es → MayFollow es e → LivesInFront (es ++ e ∷ [])
  lives-push es e o p may s low within h =
      by_length (λ l. live l s ≡ true) es e within h
      (λ less. p s low less (lived es e s may (omega (arith, low, less)) (live es s) (sym (live-push es e s) ∙ h)))

  serves-push : (es : List Entry) (e : Entry) → IsOrdered es → ServesInFront es → MayFollow es e → ServesInFront (es ++ e ∷ [])
  serves-push es e o p may a s low within h =
      by_length (λ l. live_session l a ≡ Some s) es e within h
      (λ less. p a s low less (served es e a s may (omega (arith, low, less)) (live_session es a) (sym (live_session-push es e a) ∙ h)))

-- a session that is live in an ordered list is live in each front that holds its Open
pub front_lives : (es : List Entry) (n s : ℕ) → IsOrdered es → s ≤ n → n ≤ length es → live es s ≡ true → live (take n es) s ≡ true
front_lives es n s o low within h = ordered_induction (LivesInFront n) (λ s low within h. absurd (cc (h))) (lives-push n) es o s low within h

-- and is its application server's session there
pub front_open : (es : List Entry) (n a s : ℕ) → IsOrdered es → s ≤ n → n ≤ length es → live_session es a ≡ Some s → live_session (take n es) a ≡ Some s
front_open es n a s o low within h = ordered_induction (ServesInFront n) (λ a s low within h. absurd (cc (h))) (serves-push n) es o a s low within h

-- a session whose Open is yet to come after a front has no item in it
pub front_new : (es : List Entry) (n s : ℕ) → IsOrdered es → length (take n es) < s → count (take n es) s ≡ 0
front_new es n s o late = (front_past es n o).counts_none s late
