-- How the books of a list go on by an entry that may follow.
use Rattle.std.proofs.Common.{◌≡◌, ◌∙◌, ◌<◌, ◌+◌, ℕ, Bool, true, false, ◌&&◌, cond, nat_eq, List, [], ◌∷◌, ◌++◌, length, length-append, slice_get, Option, Some, None, refl, sym, ap, subst, arith}
use Rattle.std.specs.List.{filter}
use Rattle.std.specs.Ordering.{nat_cmp}
use Rattle.std.specs.BTreeMap.{BTreeMap, get, is_at}
use Rattle.std.proofs.lemmas.Bool.{eqb-true, eqb-false, eq-eqb}
use Rattle.plain_orders.specs.declared.entry.Entry.{Entry}
use Rattle.plain_orders.specs.declared.entry.Entry.TheVariants.{Epoch, Opened, Closed, Update, Commit, Rollback}
use Rattle.plain_orders.specs.declared.sum.Sum.{Sum}
use Rattle.plain_orders.specs.Entries.{live, live_session, unless_closed, last_epoch}
use Rattle.plain_orders.specs.Sessions.{app_in}
use Rattle.plain_orders.specs.ItemEntries.{is_item_at}
use Rattle.plain_orders.proofs.EntryLemmas.{live_session-push, last_epoch-push}
use Rattle.plain_orders.proofs.PastLemmas.{apart, ordered_past}
use Rattle.plain_orders.proofs.LiveSessions.{ordered_one_live, none_opened}
use Rattle.session_books.specs.declared.owed.Owed.{Owed}
use Rattle.session_books.specs.declared.session_book.SessionBook.{SessionBook}
use Rattle.session_books.specs.declared.session_books.SessionBooks.{SessionBooks}
use Rattle.session_books.specs.Owing.{owed_entry}
use Rattle.session_books.specs.Books.{IsBookOf, IsNoSession, IsBookIf, IsBooksOf, CanTake, IsItem, IsFresh, HasTaken, IsClosedFrom}
use Rattle.session_books.proofs.EntryFacts.{is_about, silent, item_of}
use Rattle.session_books.proofs.BookLemmas.{at_number, if_kept, book_item, book_opened, book_closed}
use Rattle.session_books.proofs.EpochLemmas.{is_epoch, epoch_quiet, epochs_more}
use Rattle.session_books.proofs.LiveLemmas.{opened_by, live_quiet, live_opened, live_closed, is_not}

-- what a map has at each key, where one was changed
got : {X : Type 0} (P : ℕ → Option X → Type 0) (k q : ℕ) (v o : Option X) → (nat_eq k q ≡ true → P q v) → (nat_eq k q ≡ false → P q o) → P q (cond (is_at (nat_cmp k) q) v o)
got P k q v o here there = rw (at_number k q) (go (nat_eq k q) refl)
  where
    go : (b : Bool) → nat_eq k q ≡ b → P q (cond b v o)
    go true e = here e
    go false e = there e

module _ (es : List Entry) (e : Entry) (s : ℕ) (old new : SessionBooks) (v : Option SessionBook) where
  -- the books of the sessions, where one was changed
  sessions_by : IsBooksOf es old → ((q : ℕ) → get nat_cmp new.sessions q ≡ cond (is_at (nat_cmp s) q) v (get nat_cmp old.sessions q))
      → IsBookIf (es ++ e ∷ []) s v → ((q : ℕ) → nat_eq s q ≡ false → is_about q e ≡ false) → (q : ℕ) → IsBookIf (es ++ e ∷ []) q (get nat_cmp new.sessions q)
  sessions_by h changed here apart_from q =
      subst (IsBookIf (es ++ e ∷ []) q) (sym (changed q))
      (got (IsBookIf (es ++ e ∷ [])) s q v (get nat_cmp old.sessions q)
      (λ at. subst (λ k. IsBookIf (es ++ e ∷ []) k v) (eqb-true s q at) here)
      (λ at. if_kept es e q (silent e q (apart_from q at)) (get nat_cmp old.sessions q) (h.sessions q)))

longer : (es : List Entry) (e : Entry) (n m : ℕ) → n ≡ length es → m ≡ n + 1 → m ≡ length (es ++ e ∷ [])
longer es e n m a b = let l : length (es ++ e ∷ []) ≡ length es + 1 = length-append es (e ∷ []) in omega arith

-- after an Epoch
pub books_epoch : (es : List Entry) (number at : ℕ) (sum : Sum) (old new : SessionBooks) → CanTake es (Epoch number) sum old → at ≡ old.length + 1
    → new.length ≡ at → new.epoch ≡ number → new.epochs.items ≡ old.epochs.items ++ old.length ∷ [] → new.apps ≡ old.apps → new.live ≡ old.live → new.sessions ≡ old.sessions
    → IsBooksOf (es ++ Epoch number ∷ []) new
books_epoch es number at sum old new t next len epoch epochs apps lives sessions =
    let h = t.stands in
    let after : last_epoch (es ++ Epoch number ∷ []) ≡ number = last_epoch-push es (Epoch number) in
    let is : number ≡ last_epoch es + 1 = t.may_follow.is_next in
    let many : length old.epochs.items ≡ last_epoch es = h.numbers in
    let more : length (old.epochs.items ++ old.length ∷ []) ≡ length old.epochs.items + 1 = length-append old.epochs.items (old.length ∷ []) in
    record {
      counts = longer es (Epoch number) old.length new.length h.counts (len ∙ next);
      epoch = epoch ∙ sym after;
      numbers = ap (λ (l : List ℕ). length l) epochs ∙ (let all : length (old.epochs.items ++ old.length ∷ []) ≡ number = omega arith in all) ∙ sym after;
      epochs = λ n. ap (λ (l : List ℕ). slice_get l n) epochs ∙ epochs_more es old.epochs.items number old.length n h.epochs (let all : number ≡ length old.epochs.items + 1 = omega arith in all) h.counts;
      apps = λ a. ap (λ (m : BTreeMap ℕ ℕ). get nat_cmp m a) apps ∙ h.apps a ∙ sym (live_session-push es (Epoch number) a);
      live = ap (λ l. l.items) lives ∙ h.live ∙ sym (live_quiet es (Epoch number) refl (λ b s. refl));
      sessions = λ s. subst (λ (m : BTreeMap ℕ SessionBook). IsBookIf (es ++ Epoch number ∷ []) s (get nat_cmp m s)) (sym sessions) (if_kept es (Epoch number) s (silent (Epoch number) s refl) _ (h.sessions s));
    }

-- an item opens and closes none, and is no Epoch
item_quiet : (e : Entry) (s w : ℕ) → is_item_at s w e ≡ true → (opened_by e ≡ []) × (is_epoch e ≡ false)
item_quiet (Epoch number) s w h = absurd (cc)
item_quiet (Opened session app) s w h = absurd (cc)
item_quiet (Closed session) s w h = absurd (cc)
item_quiet (Update session v job txn op) s w h = (refl, refl)
item_quiet (Commit session v job txn) s w h = (refl, refl)
item_quiet (Rollback session v job txn) s w h = (refl, refl)

-- an item is that of its session and running number
pub itself_at : (s w : ℕ) → (nat_eq s s && nat_eq w w) ≡ true
itself_at s w = ap (λ b. b && nat_eq w w) (eq-eqb s s refl) ∙ eq-eqb w w refl

-- after an item
module _ (es : List Entry) (e : Entry) (s w at : ℕ) (sum : Sum) (owed : Option Owed) (old new : SessionBooks) (t : CanTake es e sum old) (is : IsItem s w e)
    (next : at ≡ old.length + 1) (owes : owed ≡ owed_entry e at sum) where
  item_there : (o : Option SessionBook) → get nat_cmp old.sessions s ≡ o → IsBookIf es s o
  item_there o f = subst (IsBookIf es s) f (t.stands.sessions s)

  -- whose session has no book is none that may follow
  pub item_missing : get nat_cmp old.sessions s ≡ None → ⊥
  item_missing f =
      let h : IsNoSession es s = item_there None f in
      let lives : live es s ≡ true = ((item_of e s w is).may es t.may_follow).0 in
      let dead : live es s ≡ false = h.lives in
      cc (lives, dead)

  pub books_item : (before after : SessionBook) → get nat_cmp old.sessions s ≡ Some before → HasTaken before w owed after
      → new.length ≡ at → new.epoch ≡ old.epoch → new.epochs ≡ old.epochs → new.apps ≡ old.apps → new.live ≡ old.live
      → ((q : ℕ) → get nat_cmp new.sessions q ≡ cond (is_at (nat_cmp s) q) (Some after) (get nat_cmp old.sessions q)) → IsBooksOf (es ++ e ∷ []) new
  books_item before after f took len epoch epochs apps lives sessions =
      let h = t.stands in
      let i = item_of e s w is in
      let quiet = item_quiet e s w is in
      let last : last_epoch (es ++ e ∷ []) ≡ last_epoch es = last_epoch-push es e ∙ i.epoch (last_epoch es) in
      let place : at ≡ length es + 1 = (let n : old.length ≡ length es = h.counts in omega arith) in
      record {
        counts = longer es e old.length new.length h.counts (len ∙ next);
        epoch = epoch ∙ h.epoch ∙ sym last;
        numbers = ap (λ v. length v.items) epochs ∙ h.numbers ∙ sym last;
        epochs = λ n. ap (λ v. slice_get v.items n) epochs ∙ h.epochs n ∙ sym (epoch_quiet n 0 es e quiet.1);
        apps = λ a. ap (λ (m : BTreeMap ℕ ℕ). get nat_cmp m a) apps ∙ h.apps a ∙ sym (live_session-push es e a ∙ i.apps (live_session es a) a);
        live = ap (λ v. v.items) lives ∙ h.live ∙ sym (live_quiet es e quiet.0 i.lives);
        sessions = sessions_by es e s old new (Some after) h sessions (book_item es e s w i is t.may_follow before after (item_there (Some before) f) at sum owed place t.sum_is owes took) i.about;
      }

-- after an Open
module _ (es : List Entry) (s app at : ℕ) (sum : Sum) (old new : SessionBooks) (t : CanTake es (Opened s app) sum old) (next : at ≡ old.length + 1) where
  -- no session that is yet to come has a book
  no_book : (o : Option SessionBook) → get nat_cmp old.sessions s ≡ o → IsNoSession es s
  no_book None f = subst (IsBookIf es s) f (t.stands.sessions s)
  no_book (Some book) f =
      let h : IsBookOf es s book = subst (IsBookIf es s) f (t.stands.sessions s) in
      let late : length es < s = (let k : s ≡ length es + 1 = t.may_follow.is_position in omega arith) in
      let none : app_in es s ≡ None = none_opened es t.is_ordered s late in
      let some : app_in es s ≡ Some book.app = h.app in
      absurd (cc (none, some))

  pub books_open : (book : SessionBook) → IsFresh app book → new.length ≡ at → new.epoch ≡ old.epoch → new.epochs ≡ old.epochs
      → ((q : ℕ) → get nat_cmp new.apps q ≡ cond (is_at (nat_cmp app) q) (Some s) (get nat_cmp old.apps q)) → new.live.items ≡ old.live.items ++ s ∷ []
      → ((q : ℕ) → get nat_cmp new.sessions q ≡ cond (is_at (nat_cmp s) q) (Some book) (get nat_cmp old.sessions q)) → IsBooksOf (es ++ Opened s app ∷ []) new
  books_open book fresh len epoch epochs apps lives sessions =
      let h = t.stands in
      let last : last_epoch (es ++ Opened s app ∷ []) ≡ last_epoch es = last_epoch-push es (Opened s app) in
      record {
        counts = longer es (Opened s app) old.length new.length h.counts (len ∙ next);
        epoch = epoch ∙ h.epoch ∙ sym last;
        numbers = ap (λ v. length v.items) epochs ∙ h.numbers ∙ sym last;
        epochs = λ n. ap (λ v. slice_get v.items n) epochs ∙ h.epochs n ∙ sym (epoch_quiet n 0 es (Opened s app) refl);
        apps = λ a. apps a ∙ (rw (at_number app a, h.apps a) refl ∙ sym (live_session-push es (Opened s app) a));
        live = lives ∙ ap (λ l. l ++ s ∷ []) h.live ∙ sym (live_opened es s app t.is_ordered t.may_follow.is_position);
        sessions = sessions_by es (Opened s app) s old new (Some book) h sessions (book_opened es s app (no_book (get nat_cmp old.sessions s) refl) book fresh) (λ q f. f);
      }

-- after a Close
module _ (es : List Entry) (s at : ℕ) (sum : Sum) (old new : SessionBooks) (t : CanTake es (Closed s) sum old) (next : at ≡ old.length + 1) where
  left_book : (o : Option SessionBook) → get nat_cmp old.sessions s ≡ o → IsBookIf es s o
  left_book o f = subst (IsBookIf es s) f (t.stands.sessions s)

  pub close_missing : get nat_cmp old.sessions s ≡ None → ⊥
  close_missing f =
      let h : IsNoSession es s = left_book None f in
      let lives : live es s ≡ true = t.may_follow.is_live in
      let dead : live es s ≡ false = h.lives in
      cc (lives, dead)

  -- an application server that has another session keeps it
  stays : (o : Option ℕ) → (o ≡ Some s → ⊥) → o ≡ unless_closed s o
  stays None ne = refl
  stays (Some x) ne = rw (apart x s (λ e. ne (ap Some e))) refl

  served : (app : ℕ) → live_session es app ≡ Some s → (a : ℕ) → cond (nat_eq app a) None (live_session es a) ≡ unless_closed s (live_session es a)
  served app has a = go (nat_eq app a) refl
    where
      go : (b : Bool) → nat_eq app a ≡ b → cond b None (live_session es a) ≡ unless_closed s (live_session es a)
      go true e = rw (sym (ap (live_session es) (eqb-true app a e)) ∙ has, eq-eqb s s refl) refl
      go false e = stays (live_session es a) (λ h. eqb-false app a e ((ordered_past es t.is_ordered).has_one app a s has h))

  pub books_close : (before after : SessionBook) → get nat_cmp old.sessions s ≡ Some before → IsClosedFrom before at after → new.length ≡ at → new.epoch ≡ old.epoch → new.epochs ≡ old.epochs
      → ((q : ℕ) → get nat_cmp new.apps q ≡ cond (is_at (nat_cmp before.app) q) None (get nat_cmp old.apps q)) → new.live.items ≡ filter (is_not s) old.live.items
      → ((q : ℕ) → get nat_cmp new.sessions q ≡ cond (is_at (nat_cmp s) q) (Some after) (get nat_cmp old.sessions q)) → IsBooksOf (es ++ Closed s ∷ []) new
  books_close before after f closed len epoch epochs apps lives sessions =
      let h = t.stands in
      let last : last_epoch (es ++ Closed s ∷ []) ≡ last_epoch es = last_epoch-push es (Closed s) in
      let place : at ≡ length es + 1 = (let n : old.length ≡ length es = h.counts in omega arith) in
      let book : IsBookOf es s before = left_book (Some before) f in
      let has : live_session es before.app ≡ Some s = (ordered_one_live es t.is_ordered).is_one before.app s t.may_follow.is_live book.app in
      record {
        counts = longer es (Closed s) old.length new.length h.counts (len ∙ next);
        epoch = epoch ∙ h.epoch ∙ sym last;
        numbers = ap (λ v. length v.items) epochs ∙ h.numbers ∙ sym last;
        epochs = λ n. ap (λ v. slice_get v.items n) epochs ∙ h.epochs n ∙ sym (epoch_quiet n 0 es (Closed s) refl);
        apps = λ a. apps a ∙ (rw (at_number before.app a, h.apps a) (served before.app has a) ∙ sym (live_session-push es (Closed s) a));
        live = lives ∙ ap (filter (is_not s)) h.live ∙ sym (live_closed es s);
        sessions = sessions_by es (Closed s) s old new (Some after) h sessions (book_closed es s at t.may_follow.is_live before after book place closed) (λ q f. f);
      }
