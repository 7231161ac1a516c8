-- What the index of a session says after one entry more.
use Rattle.std.proofs.Common.{◌≡◌, ◌∙◌, ◌+◌, ℕ, max, Bool, true, false, cond, ◌&&◌, if◌then◌else◌, nat_eq, List, [], ◌∷◌, ◌++◌, Some, refl, sym, ap, arith}
use Rattle.std.specs.Ordering.{nat_cmp, is_eq}
use Rattle.std.specs.BTreeMap.{is_at}
use Rattle.std.specs.BTreeSet.{BTreeSet, contains}
use Rattle.std.specs.Cmp.{tied_then}
use Rattle.std.proofs.lemmas.Bool.{eq-eqb}
use Rattle.plain_orders.specs.declared.op.Op.{Op}
use Rattle.plain_orders.specs.declared.entry.Entry.{Entry}
use Rattle.plain_orders.specs.declared.entry.Entry.TheVariants.{Update, Commit, Rollback}
use Rattle.plain_orders.specs.Begun.{is_named, is_of_one, begun_after}
use Rattle.plain_orders.specs.Entries.{count, w_in, live_after, live_session, live_session_after}
use Rattle.plain_orders.proofs.BegunLemmas.{begun-push}
use Rattle.plain_orders.proofs.EntryLemmas.{count-push, live-push, live_session-push}
use Rattle.plain_programs.specs.declared.transaction_name.TransactionName.{TransactionName}
use Rattle.plain_programs.specs.declared.live_session.LiveSession.{LiveSession}
use Rattle.plain_programs.specs.Indexes.{name_cmp, IsIndexed}

-- the order of numbers has equal ones alone as equal
pub is_eq-nat_cmp : (m n : ℕ) → is_eq (nat_cmp m n) ≡ nat_eq m n
is_eq-nat_cmp m n = grind arith

-- two names are equal in the order where they are one transaction's
pub at-name : (s job txn j t : ℕ) → is_at (name_cmp (record { job = job; txn = txn })) (record { job = j; txn = t }) ≡ is_named s j t s job txn
at-name s job txn j t =
    sym (tied_then (nat_cmp job j) (nat_cmp txn t))
    ∙ rw (is_eq-nat_cmp job j, is_eq-nat_cmp txn t, eq-eqb s s refl) refl

-- one of which the entry says nothing is as before
pub indexed-kept : (es : List Entry) (e : Entry) (s : ℕ) (l : LiveSession) → IsIndexed es s l → live_after true e s ≡ true → live_session_after (Some s) e l.app ≡ Some s → w_in s e ≡ 0 → ((b : Bool) (j t : ℕ) → begun_after b e s j t ≡ b) → IsIndexed (es ++ e ∷ []) s l
indexed-kept es e s l h lives has none same = record {
  is_live = live-push es e s ∙ (ap (λ b. live_after b e s) h.is_live ∙ lives);
  has_app = live_session-push es e l.app ∙ (ap (λ o. live_session_after o e l.app) h.has_app ∙ has);
  counts = (let n : count (es ++ e ∷ []) s ≡ max (count es s) (w_in s e) = count-push es e s in let m : l.count ≡ count es s = h.counts in omega arith);
  begins = λ j t. h.begins j t ∙ sym (begun-push es e s j t ∙ same _ j t);
}

-- one whose item is taken
pub indexed-item : (es : List Entry) (e : Entry) (s w : ℕ) (l m : LiveSession) → IsIndexed es s l → w ≡ count es s + 1 → live_after true e s ≡ true → live_session_after (Some s) e l.app ≡ Some s → w_in s e ≡ w → m.app ≡ l.app → m.count ≡ w → ((j t : ℕ) → contains name_cmp m.begun (record { job = j; txn = t }) ≡ begun_after (contains name_cmp l.begun (record { job = j; txn = t })) e s j t) → IsIndexed (es ++ e ∷ []) s m
indexed-item es e s w l m h next lives has is app is_count begun = record {
  is_live = live-push es e s ∙ (ap (λ b. live_after b e s) h.is_live ∙ lives);
  has_app = live_session-push es e m.app ∙ (ap (λ a. live_session_after (live_session es a) e a) app ∙ (ap (λ o. live_session_after o e l.app) h.has_app ∙ has));
  counts = (let n : count (es ++ e ∷ []) s ≡ max (count es s) (w_in s e) = count-push es e s in omega arith);
  begins = λ j t. begun j t ∙ (ap (λ b. begun_after b e s j t) (h.begins j t) ∙ sym (begun-push es e s j t));
}

module _ (es : List Entry) (s w : ℕ) (name : TransactionName) (l m : LiveSession) where
  item_is : (b : Bool) → nat_eq s s ≡ b → (if b then w else 0) ≡ w
  item_is true e = refl
  item_is false e = absurd (let f : nat_eq s s ≡ true = eq-eqb s s refl in cc)

  -- a transaction is begun or goes on
  pub indexed-one : (op : Op) → is_of_one name.txn op ≡ true → IsIndexed es s l → w ≡ count es s + 1 → m.app ≡ l.app → m.count ≡ w → ((q : TransactionName) → contains name_cmp m.begun q ≡ cond (is_at (name_cmp name) q) true (contains name_cmp l.begun q)) → IsIndexed (es ++ Update s w name.job name.txn op ∷ []) s m
  indexed-one op one h next app is begun =
      indexed-item es (Update s w name.job name.txn op) s w l m h next refl refl (item_is (nat_eq s s) refl) app is
      (λ j t. begun (record { job = j; txn = t }) ∙ rw (at-name s name.job name.txn j t, one) (go (is_named s j t s name.job name.txn) _))
    where
      go : (a b : Bool) → cond a true b ≡ (if a && true then true else b)
      go true b = refl
      go false b = refl

  -- an update in no transaction
  pub indexed-alone : (op : Op) → is_of_one name.txn op ≡ false → IsIndexed es s l → w ≡ count es s + 1 → m.app ≡ l.app → m.count ≡ w → m.begun ≡ l.begun → IsIndexed (es ++ Update s w name.job name.txn op ∷ []) s m
  indexed-alone op alone h next app is same =
      indexed-item es (Update s w name.job name.txn op) s w l m h next refl refl (item_is (nat_eq s s) refl) app is
      (λ j t. ap (λ (b : BTreeSet TransactionName). contains name_cmp b (record { job = j; txn = t })) same ∙ rw alone (go (is_named s j t s name.job name.txn) _))
    where
      go : (a b : Bool) → b ≡ (if a && false then true else b)
      go true b = refl
      go false b = refl

  -- a transaction ends
  pub indexed-commit : IsIndexed es s l → w ≡ count es s + 1 → m.app ≡ l.app → m.count ≡ w → ((q : TransactionName) → contains name_cmp m.begun q ≡ cond (is_at (name_cmp name) q) false (contains name_cmp l.begun q)) → IsIndexed (es ++ Commit s w name.job name.txn ∷ []) s m
  indexed-commit h next app is begun =
      indexed-item es (Commit s w name.job name.txn) s w l m h next refl refl (item_is (nat_eq s s) refl) app is
      (λ j t. begun (record { job = j; txn = t }) ∙ rw (at-name s name.job name.txn j t) refl)

  pub indexed-rollback : IsIndexed es s l → w ≡ count es s + 1 → m.app ≡ l.app → m.count ≡ w → ((q : TransactionName) → contains name_cmp m.begun q ≡ cond (is_at (name_cmp name) q) false (contains name_cmp l.begun q)) → IsIndexed (es ++ Rollback s w name.job name.txn ∷ []) s m
  indexed-rollback h next app is begun =
      indexed-item es (Rollback s w name.job name.txn) s w l m h next refl refl (item_is (nat_eq s s) refl) app is
      (λ j t. begun (record { job = j; txn = t }) ∙ rw (at-name s name.job name.txn j t) refl)
