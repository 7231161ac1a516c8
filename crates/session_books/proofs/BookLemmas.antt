-- The book of a session after one entry more.
use Rattle.std.proofs.Common.{◌≡◌, ◌∙◌, ◌<◌, ◌+◌, ℕ, max, Bool, true, false, cond, if◌then◌else◌, nat_eq, List, [], ◌∷◌, ◌++◌, length, Option, Some, None, refl, sym, ap, ap₂, subst, arith}
use Rattle.std.specs.Prelude.{is_none, is_some}
use Rattle.std.specs.Ordering.{nat_cmp}
use Rattle.std.specs.BTreeMap.{get, is_at}
use Rattle.std.proofs.lemmas.Bool.{eqb-true, eq-eqb}
use Rattle.plain_orders.specs.declared.entry.Entry.{Entry}
use Rattle.plain_orders.specs.declared.entry.Entry.TheVariants.{Opened, Closed}
use Rattle.plain_orders.specs.declared.sum.Sum.{Sum}
use Rattle.plain_orders.specs.Entries.{count, w_in, live, live_after, closes}
use Rattle.plain_orders.specs.Sessions.{app_in, app_after}
use Rattle.plain_orders.specs.ItemEntries.{is_item_at}
use Rattle.plain_orders.specs.Fold.{fold}
use Rattle.plain_orders.specs.Ordered.{MayFollow}
use Rattle.plain_orders.specs.Answers.{entry_sum}
use Rattle.plain_orders.proofs.EntryLemmas.{count-push, live-push, app_from-push}
use Rattle.session_books.specs.declared.owed.Owed.{Owed}
use Rattle.session_books.specs.declared.session_book.SessionBook.{SessionBook}
use Rattle.session_books.specs.Places.{close_place}
use Rattle.session_books.specs.Owing.{owed_entry, owed_in}
use Rattle.session_books.specs.Books.{owed_live, IsBookOf, IsNoSession, IsBookIf, IsFresh, HasTaken, IsClosedFrom}
use Rattle.session_books.proofs.PlaceLemmas.{place_quiet, place_last}
use Rattle.session_books.proofs.OwedLemmas.{owed_quiet, owed_last, owed_none}
use Rattle.session_books.proofs.EntryFacts.{IsSilent, IsItemOf}

-- the order of numbers has equal ones alone as equal
pub at_number : (m n : ℕ) → is_at (nat_cmp m) n ≡ nat_eq m n
at_number m n = grind arith

module _ (es : List Entry) (e : Entry) (s : ℕ) where
  count_with : (n w : ℕ) → count es s ≡ n → w_in s e ≡ w → count (es ++ e ∷ []) s ≡ max n w
  count_with n w c h = count-push es e s ∙ ap₂ max c h

  live_with : (b c : Bool) → live es s ≡ b → live_after b e s ≡ c → live (es ++ e ∷ []) s ≡ c
  live_with b c h f = live-push es e s ∙ ap (λ x. live_after x e s) h ∙ f

  app_with : (o p : Option ℕ) → app_in es s ≡ o → app_after o e s ≡ p → app_in (es ++ e ∷ []) s ≡ p
  app_with o p h f = app_from-push None es e s ∙ ap (λ x. app_after x e s) h ∙ f

  -- a session of which the entry says nothing
  module _ (q : IsSilent e s) where
    owed_kept : (w : ℕ) → owed_live (es ++ e ∷ []) s w ≡ owed_live es s w
    owed_kept w = ap₂ (λ (b : Bool) (o : Option Owed). if b then o else None) (live-push es e s ∙ q.lives (live es s)) (owed_quiet es e s w (q.items w))

    book_kept : (book : SessionBook) → IsBookOf es s book → IsBookOf (es ++ e ∷ []) s book
    book_kept book h = record {
      app = app_with (Some book.app) (Some book.app) h.app (q.app (Some book.app));
      counts = (let n : count (es ++ e ∷ []) s ≡ max book.count 0 = count_with book.count 0 h.counts q.counts in omega arith);
      closed = place_quiet (closes s) 0 es e q.closes ∙ h.closed;
      lives = live_with (is_none book.closed) (is_none book.closed) h.lives (q.lives (is_none book.closed));
      owes = λ w. h.owes w ∙ sym (owed_kept w);
    }

    pub if_kept : (o : Option SessionBook) → IsBookIf es s o → IsBookIf (es ++ e ∷ []) s o
    if_kept None h = record {
      app = app_with None None h.app (q.app None);
      counts = (let n : count (es ++ e ∷ []) s ≡ max 0 0 = count_with 0 0 h.counts q.counts in omega arith);
      closed = place_quiet (closes s) 0 es e q.closes ∙ h.closed;
      lives = live_with false false h.lives (q.lives false);
      owes = λ w. owed_quiet es e s w (q.items w) ∙ h.owes w;
    }
    if_kept (Some book) h = book_kept book h

  -- a session whose item is taken
  module _ (w : ℕ) (i : IsItemOf e s w) (is : is_item_at s w e ≡ true) (may : MayFollow es e) (old new : SessionBook) (h : IsBookOf es s old) (at : ℕ) (sum : Sum) (o : Option Owed)
      (place : at ≡ length es + 1) (does : sum ≡ entry_sum (fold es).pairs e) (owed : o ≡ owed_entry e at sum) (t : HasTaken old w o new) where
    is_live_now : live (es ++ e ∷ []) s ≡ true
    is_live_now = live-push es e s ∙ i.lives (live es s) s ∙ (i.may es may).0

    low : count es s < w
    low = let n : w ≡ count es s + 1 = (i.may es may).1 in omega arith

    owed_now : owed_live (es ++ e ∷ []) s w ≡ o
    owed_now =
        ap (λ b. if b then owed_in (es ++ e ∷ []) s w else None) is_live_now
        ∙ owed_last es e s w low is ∙ sym (ap₂ (λ (a : ℕ) (x : Sum). owed_entry e a x) place does) ∙ sym owed

    owed_before : get nat_cmp old.owed w ≡ None
    owed_before = h.owes w ∙ ap (λ b. if b then owed_in es s w else None) (i.may es may).0 ∙ owed_none es e s w low

    owed_apart : (q : ℕ) → nat_eq w q ≡ false → owed_live (es ++ e ∷ []) s q ≡ get nat_cmp old.owed q
    owed_apart q f =
        ap₂ (λ (b : Bool) (x : Option Owed). if b then x else None) (live-push es e s ∙ i.lives (live es s) s) (owed_quiet es e s q (i.others q f))
        ∙ sym (h.owes q)

    owes_at : (p : Option Owed) → o ≡ p → (q : ℕ) (b : Bool) → nat_eq w q ≡ b → (if is_some p then cond b p (get nat_cmp old.owed q) else get nat_cmp old.owed q) ≡ owed_live (es ++ e ∷ []) s q
    owes_at (Some x) same q true f = sym (subst (λ n. owed_live (es ++ e ∷ []) s n ≡ Some x) (eqb-true w q f) (owed_now ∙ same))
    owes_at (Some x) same q false f = sym (owed_apart q f)
    owes_at None same q true f = subst (λ n. get nat_cmp old.owed n ≡ owed_live (es ++ e ∷ []) s n) (eqb-true w q f) (owed_before ∙ sym (owed_now ∙ same))
    owes_at None same q false f = sym (owed_apart q f)

    pub book_item : IsBookOf (es ++ e ∷ []) s new
    book_item = record {
      app = app_with (Some old.app) (Some old.app) h.app (i.app (Some old.app) s) ∙ ap Some (sym t.app);
      counts = (let n : count (es ++ e ∷ []) s ≡ max (count es s) w = count_with (count es s) w refl i.counts in let m : new.count ≡ w = t.counts in let l : count es s < w = low in omega arith);
      closed = place_quiet (closes s) 0 es e (i.closes s) ∙ h.closed ∙ sym t.closed;
      lives = live_with (is_none old.closed) (is_none old.closed) h.lives (i.lives (is_none old.closed) s) ∙ ap is_none (sym t.closed);
      owes = λ q. t.owes q ∙ ap (λ b. if is_some o then cond b o (get nat_cmp old.owed q) else get nat_cmp old.owed q) (at_number w q) ∙ owes_at o refl q (nat_eq w q) refl;
    }

-- a session that is opened now
module _ (es : List Entry) (s app : ℕ) (h : IsNoSession es s) (book : SessionBook) (f : IsFresh app book) where
  pub book_opened : IsBookOf (es ++ Opened s app ∷ []) s book
  book_opened = record {
    app = app_from-push None es (Opened s app) s ∙ ap (λ b. if b then Some app else app_in es s) (eq-eqb s s refl) ∙ ap Some (sym f.app_is);
    counts = (let n : count (es ++ Opened s app ∷ []) s ≡ max 0 0 = count_with es (Opened s app) s 0 0 h.counts refl in let m : book.count ≡ 0 = f.counts in omega arith);
    closed = place_quiet (closes s) 0 es (Opened s app) refl ∙ h.closed ∙ sym f.closed;
    lives = live-push es (Opened s app) s ∙ ap (λ b. if b then true else live es s) (eq-eqb s s refl) ∙ ap is_none (sym f.closed);
    owes = λ w. f.owes w ∙ sym (nothing w);
  }
    where
      either : (b : Bool) (o : Option Owed) → o ≡ None → (if b then o else None) ≡ None
      either true o e = e
      either false o e = refl

      nothing : (w : ℕ) → owed_live (es ++ Opened s app ∷ []) s w ≡ None
      nothing w = either (live (es ++ Opened s app ∷ []) s) (owed_in (es ++ Opened s app ∷ []) s w) (owed_quiet es (Opened s app) s w refl ∙ h.owes w)

-- a session that is closed now
module _ (es : List Entry) (s at : ℕ) (lives : live es s ≡ true) (old new : SessionBook) (h : IsBookOf es s old) (place : at ≡ length es + 1) (t : IsClosedFrom old at new) where
  not_live : live (es ++ Closed s ∷ []) s ≡ false
  not_live = live-push es (Closed s) s ∙ ap (λ b. if b then false else live es s) (eq-eqb s s refl)

  unclosed : (o : Option ℕ) → is_none o ≡ true → o ≡ None
  unclosed None e = refl
  unclosed (Some x) e = absurd (cc)

  pub book_closed : IsBookOf (es ++ Closed s ∷ []) s new
  book_closed =
      let none : close_place es s ≡ None = h.closed ∙ unclosed old.closed (sym h.lives ∙ lives) in
      let here : close_place (es ++ Closed s ∷ []) s ≡ Some (0 + length es + 1) = place_last (closes s) 0 es (Closed s) none (eq-eqb s s refl) in
      let same : 0 + length es + 1 ≡ at = omega (arith, place) in
      record {
        app = app_with es (Closed s) s (Some old.app) (Some old.app) h.app refl ∙ ap Some (sym t.app);
        counts = (let n : count (es ++ Closed s ∷ []) s ≡ max old.count 0 = count_with es (Closed s) s old.count 0 h.counts refl in let m : new.count ≡ old.count = t.counts in omega arith);
        closed = here ∙ ap Some same ∙ sym t.closed;
        lives = not_live ∙ ap is_none (sym t.closed);
        owes = λ w. t.owes w ∙ sym (ap (λ b. if b then owed_in (es ++ Closed s ∷ []) s w else None) not_live);
      }
