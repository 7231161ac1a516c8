-- Whether a transaction is open after an entry.
use Rattle.std.proofs.Common.{◌≡◌, ℕ, List, [], ◌∷◌, ◌++◌, refl, ap, ap₂, sym, ◌∙◌, Bool, true, false, cond, if◌then◌else◌, not, nat_eq, ◌&&◌, ◌||◌, Some}
use Rattle.std.specs.List.{list_any, filter}
use Rattle.std.proofs.lemmas.Bool.{eqb-true, eq-eqb, and_parts}
use Rattle.plain_orders.specs.declared.op.Op.TheVariants.{Set, Kill, Add}
use Rattle.plain_orders.specs.declared.entry.Entry.{Entry}
use Rattle.plain_orders.specs.declared.entry.Entry.TheVariants.{Epoch, Opened, Closed, Update, Commit, Rollback}
use Rattle.plain_orders.specs.Fold.{Undo, Transaction, Folded, is_it, is_begun, with_undo, undo_added, noted, is_other, ended, is_elsewhere, fold_step, fold}
use Rattle.plain_orders.specs.Begun.{is_named, begun_after}
use Rattle.plain_orders.proofs.FoldLemmas.{fold-push}

module _ {X : Type 0} (p q : X → Bool) where
  -- a filter that keeps all that pass leaves whether one passes
  any_kept : ((x : X) → p x ≡ true → q x ≡ true) → (xs : List X) → list_any p (filter q xs) ≡ list_any p xs
  any_kept keeps [] = refl
  any_kept keeps (x ∷ xs) = go (p x) (q x) refl refl (any_kept keeps xs)
    where
      go : (a b : Bool) → p x ≡ a → q x ≡ b → list_any p (filter q xs) ≡ list_any p xs → list_any p (cond (q x) (x ∷ filter q xs) (filter q xs)) ≡ (p x || list_any p xs)
      go true b e f h = rw (keeps x e, e) refl
      go false true e f h = rw (f, e) h
      go false false e f h = rw (f, e) h

  -- one that keeps none that passes leaves none
  any_dropped : ((x : X) → p x ≡ true → q x ≡ false) → (xs : List X) → list_any p (filter q xs) ≡ false
  any_dropped drops [] = refl
  any_dropped drops (x ∷ xs) = go (p x) (q x) refl refl (any_dropped drops xs)
    where
      go : (a b : Bool) → p x ≡ a → q x ≡ b → list_any p (filter q xs) ≡ false → list_any p (cond (q x) (x ∷ filter q xs) (filter q xs)) ≡ false
      go true b e f h = rw (drops x e) h
      go false true e f h = rw (f, e) h
      go false false e f h = rw f h

eq_turned : (m n : ℕ) → nat_eq m n ≡ nat_eq n m
eq_turned m n = go (nat_eq m n) (nat_eq n m) refl refl
  where
    go : (a b : Bool) → nat_eq m n ≡ a → nat_eq n m ≡ b → a ≡ b
    go true b e f = sym (sym f ∙ eq-eqb n m (sym (eqb-true m n e)))
    go false true e f = sym e ∙ eq-eqb m n (sym (eqb-true n m f))
    go false false e f = refl

module _ (s j t : ℕ) where
  -- a transaction that is it has these three
  it_is : (x : Transaction) → is_it s j t x ≡ true → (x.session ≡ s) × (x.job ≡ j) × (x.txn ≡ t)
  it_is x h =
      let a = and_parts (nat_eq x.session s && nat_eq x.job j) (nat_eq x.txn t) h in
      let b = and_parts (nat_eq x.session s) (nat_eq x.job j) a.0 in
      (eqb-true x.session s b.0, eqb-true x.job j b.1, eqb-true x.txn t a.1)

  named_is : (a b c : ℕ) → is_named s j t a b c ≡ true → (a ≡ s) × (b ≡ j) × (c ≡ t)
  named_is a b c h =
      let m = and_parts (nat_eq a s && nat_eq b j) (nat_eq c t) h in
      let n = and_parts (nat_eq a s) (nat_eq b j) m.0 in
      (eqb-true a s n.0, eqb-true b j n.1, eqb-true c t m.1)

  -- whether it is another transaction is a matter of the names alone
  it_named : (a b c : ℕ) (x : Transaction) → is_it s j t x ≡ true → is_it a b c x ≡ is_named s j t a b c
  it_named a b c x h =
      let i = it_is x h in
      ap₂ (λ u v. u && v) (ap₂ (λ u v. u && v) (ap (λ n. nat_eq n a) i.0 ∙ eq_turned s a) (ap (λ n. nat_eq n b) i.1 ∙ eq_turned j b)) (ap (λ n. nat_eq n c) i.2 ∙ eq_turned t c)

  -- after a Close
  begun-closed : (session : ℕ) (ts : List Transaction) → is_begun s j t (filter (is_elsewhere session) ts) ≡ (if nat_eq session s then false else is_begun s j t ts)
  begun-closed session ts = go (nat_eq session s) refl
    where
      go : (b : Bool) → nat_eq session s ≡ b → is_begun s j t (filter (is_elsewhere session) ts) ≡ (if nat_eq session s then false else is_begun s j t ts)
      go true e = rw e (any_dropped (is_it s j t) (is_elsewhere session) (λ x h. ap not (eq-eqb x.session session ((it_is x h).0 ∙ sym (eqb-true session s e)))) ts)
      go false e = rw e (any_kept (is_it s j t) (is_elsewhere session) (λ x h. ap not (ap (λ n. nat_eq n session) (it_is x h).0 ∙ eq_turned s session ∙ e)) ts)

  -- after a Commit or Rollback
  begun-ended : (a b c : ℕ) (ts : List Transaction) → is_begun s j t (ended a b c ts) ≡ (if is_named s j t a b c then false else is_begun s j t ts)
  begun-ended a b c ts = go (is_named s j t a b c) refl
    where
      go : (d : Bool) → is_named s j t a b c ≡ d → is_begun s j t (ended a b c ts) ≡ (if is_named s j t a b c then false else is_begun s j t ts)
      go true e = rw e (any_dropped (is_it s j t) (is_other a b c) (λ x h. ap not (it_named a b c x h ∙ e)) ts)
      go false e = rw e (any_kept (is_it s j t) (is_other a b c) (λ x h. ap not (it_named a b c x h ∙ e)) ts)

  -- an item more to be put back changes no name
  any_added : (a b c : ℕ) (u : Undo) (ts : List Transaction) → is_begun s j t (undo_added a b c u ts) ≡ is_begun s j t ts
  any_added a b c u [] = refl
  any_added a b c u (x ∷ ts) = go (is_it a b c x) (any_added a b c u ts)
    where
      go : (d : Bool) → is_begun s j t (undo_added a b c u ts) ≡ is_begun s j t ts → is_begun s j t (if d then with_undo u x ∷ ts else x ∷ undo_added a b c u ts) ≡ is_begun s j t (x ∷ ts)
      go true h = refl
      go false h = ap (λ r. is_it s j t x || r) h

  -- the name of an open transaction is that of one that is open
  begun_named : (a b c : ℕ) (ts : List Transaction) → is_named s j t a b c ≡ true → is_begun a b c ts ≡ is_begun s j t ts
  begun_named a b c ts h = let n = named_is a b c h in ap (λ r. is_begun r b c ts) n.0 ∙ (ap (λ r. is_begun s r c ts) n.1 ∙ ap (λ r. is_begun s j r ts) n.2)

  -- after an item that is noted
  begun-noted : (a b c : ℕ) (u : Undo) (ts : List Transaction) → is_begun s j t (noted a b c (Some u) ts) ≡ (if is_named s j t a b c && (not (nat_eq c 0) && true) then true else is_begun s j t ts)
  begun-noted a b c u ts = go (nat_eq c 0) (is_named s j t a b c) (is_begun a b c ts) refl refl refl
    where
      go : (z n g : Bool) → nat_eq c 0 ≡ z → is_named s j t a b c ≡ n → is_begun a b c ts ≡ g → is_begun s j t (noted a b c (Some u) ts) ≡ (if is_named s j t a b c && (not (nat_eq c 0) && true) then true else is_begun s j t ts)
      go true true g e f h = rw (e, f) refl
      go true false g e f h = rw (e, f) refl
      go false true true e f h = rw (e, h, f) (any_added a b c u ts ∙ sym (begun_named a b c ts f) ∙ h)
      go false false true e f h = rw (e, h, f) (any_added a b c u ts)
      go false true false e f h = rw (e, h, f) refl
      go false false false e f h = rw (e, h, f) refl

  not_both : (a b : Bool) (x : Bool) → x ≡ (if a && (b && false) then true else x)
  not_both true true x = refl
  not_both true false x = refl
  not_both false b x = refl

  -- after any entry
  pub begun-step : (f : Folded) (e : Entry) → is_begun s j t (fold_step f e).begun ≡ begun_after (is_begun s j t f.begun) e s j t
  begun-step f (Epoch number) = refl
  begun-step f (Opened session app) = refl
  begun-step f (Closed session) = begun-closed session f.begun
  begun-step f (Update a w b c (Set key value)) = begun-noted a b c _ f.begun
  begun-step f (Update a w b c (Kill key)) = begun-noted a b c _ f.begun
  begun-step f (Update a w b c (Add key amount)) = not_both (is_named s j t a b c) (not (nat_eq c 0)) (is_begun s j t f.begun)
  begun-step f (Commit a w b c) = begun-ended a b c f.begun
  begun-step f (Rollback a w b c) = begun-ended a b c f.begun

-- whether a transaction is open after one entry more
pub begun-push : (es : List Entry) (e : Entry) (s j t : ℕ) → is_begun s j t (fold (es ++ e ∷ [])).begun ≡ begun_after (is_begun s j t (fold es).begun) e s j t
begun-push es e s j t = ap (λ (f : Folded). is_begun s j t f.begun) (fold-push es e) ∙ begun-step s j t (fold es) e
