-- How the index of an order goes on by an entry that may follow.
use Rattle.std.proofs.Common.{◌≡◌, ◌∙◌, ◌+◌, ℕ, ◌<◌, Bool, true, false, cond, nat_eq, List, [], ◌∷◌, ◌++◌, Option, Some, None, refl, sym, ap, arith, length, subst}
use Rattle.std.specs.Ordering.{nat_cmp}
use Rattle.std.specs.BTreeMap.{BTreeMap, get, is_at}
use Rattle.std.specs.BTreeSet.{BTreeSet}
use Rattle.std.specs.List.{list_any}
use Rattle.std.proofs.lemmas.Bool.{eqb-true, eqb-false, eq-eqb}
use Rattle.plain_orders.specs.declared.op.Op.{Op}
use Rattle.plain_orders.specs.declared.entry.Entry.{Entry}
use Rattle.plain_orders.specs.declared.entry.Entry.TheVariants.{Epoch, Opened, Closed, Update, Commit, Rollback}
use Rattle.plain_orders.specs.Entries.{live_after, live_session, live_session_after, unless_closed, epoch_after}
use Rattle.plain_orders.proofs.EntryLemmas.{count-push, live-push, live_session-push, last_epoch-push}
use Rattle.plain_programs.specs.declared.live_session.LiveSession.{LiveSession}
use Rattle.plain_programs.specs.declared.order_index.OrderIndex.{OrderIndex}
use Rattle.plain_programs.specs.declared.transaction_name.TransactionName.{TransactionName}
use Rattle.plain_programs.specs.Indexes.{name_cmp, IsIndexed, IsIndexedIf, Indexes, CanTake}
use Rattle.plain_programs.proofs.SessionLemmas.{is_eq-nat_cmp, indexed-kept}
use Rattle.plain_orders.proofs.BegunLemmas.{begun-push}
use Rattle.plain_orders.proofs.PastLemmas.{Past, ordered_past, apart}

-- a session that may be missing, of which the entry says nothing
if_kept : (es : List Entry) (e : Entry) (s : ℕ) (o : Option LiveSession) → ((b : Bool) → live_after b e s ≡ b) → ((l : LiveSession) → IsIndexed es s l → IsIndexed (es ++ e ∷ []) s l) → IsIndexedIf es s o → IsIndexedIf (es ++ e ∷ []) s o
if_kept es e s None lives keeps h = live-push es e s ∙ (lives _ ∙ h)
if_kept es e s (Some l) lives keeps h = keeps l h

-- an entry of which no session hears
if_silent : (es : List Entry) (number s : ℕ) (o : Option LiveSession) → IsIndexedIf es s o → IsIndexedIf (es ++ Epoch number ∷ []) s o
if_silent es number s o h = if_kept es (Epoch number) s o (λ b. refl) (λ l k. indexed-kept es (Epoch number) s l k refl refl refl (λ b j t. refl)) h

-- after an Epoch
pub index-epoch : (es : List Entry) (number : ℕ) (i : OrderIndex) → Indexes es i → Indexes (es ++ Epoch number ∷ []) (record i { epoch = number })
index-epoch es number i h = record {
  epoch = sym (last_epoch-push es (Epoch number));
  apps = λ a. h.apps a ∙ sym (live_session-push es (Epoch number) a);
  sessions = λ s. if_silent es number s _ (h.sessions s);
}

-- an item of another session
module _ (es : List Entry) (session w j t s : ℕ) (other : nat_eq session s ≡ false) where
  if_updated : (op : Op) (o : Option LiveSession) → IsIndexedIf es s o → IsIndexedIf (es ++ Update session w j t op ∷ []) s o
  if_updated op o h = if_kept es (Update session w j t op) s o (λ b. refl) (λ l k. indexed-kept es (Update session w j t op) s l k refl refl (rw other refl) (λ b x y. rw other refl)) h

  if_committed : (o : Option LiveSession) → IsIndexedIf es s o → IsIndexedIf (es ++ Commit session w j t ∷ []) s o
  if_committed o h = if_kept es (Commit session w j t) s o (λ b. refl) (λ l k. indexed-kept es (Commit session w j t) s l k refl refl (rw other refl) (λ b x y. rw other refl)) h

  if_rolled : (o : Option LiveSession) → IsIndexedIf es s o → IsIndexedIf (es ++ Rollback session w j t ∷ []) s o
  if_rolled o h = if_kept es (Rollback session w j t) s o (λ b. refl) (λ l k. indexed-kept es (Rollback session w j t) s l k refl refl (rw other refl) (λ b x y. rw other refl)) h

-- what a map has at each key, where one was changed
got : {X : Type 0} (P : ℕ → Option X → Type 0) (k q : ℕ) (v o : Option X) → (nat_eq k q ≡ true → P q v) → (nat_eq k q ≡ false → P q o) → P q (cond (is_at (nat_cmp k) q) v o)
got P k q v o here there = rw (is_eq-nat_cmp k q) (go (nat_eq k q) refl)
  where
    go : (b : Bool) → nat_eq k q ≡ b → P q (cond b v o)
    go true e = here e
    go false e = there e

module _ (es : List Entry) (e : Entry) (session : ℕ) (i n : OrderIndex) (v : Option LiveSession) where
  -- the index after an entry that changes one session and nothing of the application servers
  pub index-item : Indexes es i → n.epoch ≡ i.epoch → n.apps ≡ i.apps → ((q : ℕ) → get nat_cmp n.sessions q ≡ cond (is_at (nat_cmp session) q) v (get nat_cmp i.sessions q)) → ((m : ℕ) → epoch_after m e ≡ m) → ((o : Option ℕ) (a : ℕ) → live_session_after o e a ≡ o) → IsIndexedIf (es ++ e ∷ []) session v → ((s : ℕ) (o : Option LiveSession) → nat_eq session s ≡ false → IsIndexedIf es s o → IsIndexedIf (es ++ e ∷ []) s o) → Indexes (es ++ e ∷ []) n
  index-item h epoch apps sessions older serves here there = record {
    epoch = epoch ∙ (h.epoch ∙ sym (last_epoch-push es e ∙ older _));
    apps = λ a. ap (λ (m : BTreeMap ℕ ℕ). get nat_cmp m a) apps ∙ (h.apps a ∙ sym (live_session-push es e a ∙ serves _ a));
    sessions = λ s. subst (IsIndexedIf (es ++ e ∷ []) s) (sym (sessions s)) (got (IsIndexedIf (es ++ e ∷ [])) session s v _ (λ at. subst (λ k. IsIndexedIf (es ++ e ∷ []) k v) (eqb-true session s at) here) (λ at. there s _ at (h.sessions s)));
  }

-- after an Update
pub index-update : (es : List Entry) (session w j t : ℕ) (op : Op) (i n : OrderIndex) (l : LiveSession) → Indexes es i → n.epoch ≡ i.epoch → n.apps ≡ i.apps → ((q : ℕ) → get nat_cmp n.sessions q ≡ cond (is_at (nat_cmp session) q) (Some l) (get nat_cmp i.sessions q)) → IsIndexed (es ++ Update session w j t op ∷ []) session l → Indexes (es ++ Update session w j t op ∷ []) n
index-update es session w j t op i n l h epoch apps sessions here =
    index-item es (Update session w j t op) session i n (Some l) h epoch apps sessions (λ m. refl) (λ o a. refl) here (λ s o other. if_updated es session w j t s other op o)

-- after a Commit
pub index-commit : (es : List Entry) (session w j t : ℕ) (i n : OrderIndex) (l : LiveSession) → Indexes es i → n.epoch ≡ i.epoch → n.apps ≡ i.apps → ((q : ℕ) → get nat_cmp n.sessions q ≡ cond (is_at (nat_cmp session) q) (Some l) (get nat_cmp i.sessions q)) → IsIndexed (es ++ Commit session w j t ∷ []) session l → Indexes (es ++ Commit session w j t ∷ []) n
index-commit es session w j t i n l h epoch apps sessions here =
    index-item es (Commit session w j t) session i n (Some l) h epoch apps sessions (λ m. refl) (λ o a. refl) here (λ s o other. if_committed es session w j t s other o)

-- after a Rollback
pub index-rollback : (es : List Entry) (session w j t : ℕ) (i n : OrderIndex) (l : LiveSession) → Indexes es i → n.epoch ≡ i.epoch → n.apps ≡ i.apps → ((q : ℕ) → get nat_cmp n.sessions q ≡ cond (is_at (nat_cmp session) q) (Some l) (get nat_cmp i.sessions q)) → IsIndexed (es ++ Rollback session w j t ∷ []) session l → Indexes (es ++ Rollback session w j t ∷ []) n
index-rollback es session w j t i n l h epoch apps sessions here =
    index-item es (Rollback session w j t) session i n (Some l) h epoch apps sessions (λ m. refl) (λ o a. refl) here (λ s o other. if_rolled es session w j t s other o)

-- after an Open
module _ (es : List Entry) (session app : ℕ) (i n : OrderIndex) (none : BTreeSet TransactionName) (t : CanTake es (Opened session app) i) where
  -- the new session, of which nothing stands yet
  indexed-entered : none.keys ≡ [] → IsIndexed (es ++ Opened session app ∷ []) session (record { app = app; count = 0; begun = none })
  indexed-entered empty =
      let p : Past es = ordered_past es t.is_ordered in
      let late : length es < session = (let k : session ≡ length es + 1 = t.may_follow.is_position in omega arith) in
      record {
        is_live = live-push es (Opened session app) session ∙ rw (eq-eqb session session refl) refl;
        has_app = live_session-push es (Opened session app) app ∙ rw (eq-eqb app app refl) refl;
        counts = sym (count-push es (Opened session app) session ∙ rw (p.counts_none session late) refl);
        begins = λ j x. ap (list_any (is_at (name_cmp (record { job = j; txn = x })))) empty ∙ sym (begun-push es (Opened session app) session j x ∙ p.begins_none session j x late);
      }

  -- each other one, which has another application server
  if_entered : (s : ℕ) (o : Option LiveSession) → nat_eq session s ≡ false → IsIndexedIf es s o → IsIndexedIf (es ++ Opened session app ∷ []) s o
  if_entered s o other h = if_kept es (Opened session app) s o (λ b. rw other refl)
      (λ l k. indexed-kept es (Opened session app) s l k (rw other refl) (rw (free l k) refl) refl (λ b j x. refl)) h
    where
      free : (l : LiveSession) → IsIndexed es s l → nat_eq app l.app ≡ false
      free l k = apart app l.app (λ e. absurd (let f : live_session es app ≡ None = t.may_follow.is_free in let g : live_session es l.app ≡ Some s = k.has_app in cc))

  pub index-open : n.epoch ≡ i.epoch → ((q : ℕ) → get nat_cmp n.apps q ≡ cond (is_at (nat_cmp app) q) (Some session) (get nat_cmp i.apps q)) → ((q : ℕ) → get nat_cmp n.sessions q ≡ cond (is_at (nat_cmp session) q) (Some (record { app = app; count = 0; begun = none })) (get nat_cmp i.sessions q)) → none.keys ≡ [] → Indexes (es ++ Opened session app ∷ []) n
  index-open epoch apps sessions empty = record {
    epoch = epoch ∙ (t.indexes.epoch ∙ sym (last_epoch-push es (Opened session app)));
    apps = λ a. apps a ∙ (rw (is_eq-nat_cmp app a, t.indexes.apps a) refl ∙ sym (live_session-push es (Opened session app) a));
    sessions = λ s. subst (IsIndexedIf (es ++ Opened session app ∷ []) s) (sym (sessions s)) (got (IsIndexedIf (es ++ Opened session app ∷ [])) session s _ _ (λ at. subst (λ k. IsIndexedIf (es ++ Opened session app ∷ []) k (Some (record { app = app; count = 0; begun = none }))) (eqb-true session s at) (indexed-entered empty)) (λ at. if_entered s _ at (t.indexes.sessions s)));
  }

-- after a Close
module _ (es : List Entry) (session : ℕ) (i n : OrderIndex) (left : LiveSession) (t : CanTake es (Closed session) i) (is : get nat_cmp i.sessions session ≡ Some left) where
  left_indexed : IsIndexed es session left
  left_indexed = subst (IsIndexedIf es session) is (t.indexes.sessions session)

  -- an application server that has another session keeps it
  stays : (o : Option ℕ) → (o ≡ Some session → ⊥) → o ≡ unless_closed session o
  stays None ne = refl
  stays (Some x) ne = rw (apart x session (λ e. ne (ap Some e))) refl

  served : (a : ℕ) → cond (nat_eq left.app a) None (live_session es a) ≡ unless_closed session (live_session es a)
  served a = go (nat_eq left.app a) refl
    where
      go : (b : Bool) → nat_eq left.app a ≡ b → cond b None (live_session es a) ≡ unless_closed session (live_session es a)
      go true e = rw (sym (ap (live_session es) (eqb-true left.app a e)) ∙ left_indexed.has_app, eq-eqb session session refl) refl
      go false e = stays (live_session es a) (λ h. eqb-false left.app a e ((ordered_past es t.is_ordered).has_one left.app a session left_indexed.has_app h))

  if_left : (s : ℕ) (o : Option LiveSession) → nat_eq session s ≡ false → IsIndexedIf es s o → IsIndexedIf (es ++ Closed session ∷ []) s o
  if_left s o other h = if_kept es (Closed session) s o (λ b. rw other refl)
      (λ l k. indexed-kept es (Closed session) s l k (rw other refl) (rw (apart s session (λ e. eqb-false session s other (sym e))) refl) refl (λ b j x. rw other refl)) h

  pub index-close : n.epoch ≡ i.epoch → ((q : ℕ) → get nat_cmp n.apps q ≡ cond (is_at (nat_cmp left.app) q) None (get nat_cmp i.apps q)) → ((q : ℕ) → get nat_cmp n.sessions q ≡ cond (is_at (nat_cmp session) q) None (get nat_cmp i.sessions q)) → Indexes (es ++ Closed session ∷ []) n
  index-close epoch apps sessions = record {
    epoch = epoch ∙ (t.indexes.epoch ∙ sym (last_epoch-push es (Closed session)));
    apps = λ a. apps a ∙ (rw (is_eq-nat_cmp left.app a, t.indexes.apps a) (served a) ∙ sym (live_session-push es (Closed session) a));
    sessions = λ s. subst (IsIndexedIf (es ++ Closed session ∷ []) s) (sym (sessions s)) (got (IsIndexedIf (es ++ Closed session ∷ [])) session s None _ (λ at. live-push es (Closed session) s ∙ rw at refl) (λ at. if_left s _ at (t.indexes.sessions s)));
  }
