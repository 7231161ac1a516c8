-- The list of windows of a data server: what is found in it after one is set, or one goes.
use Rattle.std.proofs.Common.{◌≡◌, ◌≢◌, ℕ, Bool, true, false, ◌&&◌, ◌||◌, not, cond, if◌then◌else◌, List, [], ◌∷◌, map, filter, refl, sym, ◌∙◌, ap}
use Rattle.std.specs.Prelude.{◌==◌}
use Rattle.std.specs.List.{list_any}
use Rattle.std.proofs.lemmas.Bool.{eqb-true, eq-eqb, ne_eqb, true≢false, false≢true, or_parts}
use Rattle.ecp_messages.specs.declared.down.Down.{Down}
use Rattle.end_words.specs.Windows.{Window, fresh}
use Rattle.data_rules.specs.DataState.{SessionWindow}
use Rattle.data_rules.specs.Puts.{window_in, set_window, is_window_elsewhere}
use Rattle.cluster_invariant.specs.Link.{is_window_of, whose}
use Rattle.cluster_invariant.specs.Words.{all_differ, is_same}

-- setting one

pub set_here : (ws : List SessionWindow) (s : ℕ) (w : Window Down) → window_in (set_window ws s w) s ≡ w
set_here [] s w = ap (λ (b : Bool). if b then w else fresh) (eq-eqb s s refl)
set_here (x ∷ xs) s w = go (x.session == s) refl (set_here xs s w)
  where
    go : (b : Bool) → (x.session == s) ≡ b → window_in (set_window xs s w) s ≡ w → window_in (if b then record x { window = w } ∷ xs else x ∷ set_window xs s w) s ≡ w
    go true same more = ap (λ (b : Bool). if b then w else window_in xs s) same
    go false other more = ap (λ (b : Bool). if b then x.window else window_in (set_window xs s w) s) other ∙ more

pub set_elsewhere : (ws : List SessionWindow) (s q : ℕ) (w : Window Down) → q ≢ s → window_in (set_window ws s w) q ≡ window_in ws q
set_elsewhere [] s q w apart = ap (λ (b : Bool). if b then w else fresh) (ne_eqb s q (λ same. apart (sym same)))
set_elsewhere (x ∷ xs) s q w apart = go (x.session == s) refl (set_elsewhere xs s q w apart)
  where
    go : (b : Bool) → (x.session == s) ≡ b → window_in (set_window xs s w) q ≡ window_in xs q
        → window_in (if b then record x { window = w } ∷ xs else x ∷ set_window xs s w) q ≡ (if x.session == q then x.window else window_in xs q)
    go true same more = ap (λ (b : Bool). if b then w else window_in xs q) other ∙ sym (ap (λ (b : Bool). if b then x.window else window_in xs q) other)
      where
        other : (x.session == q) ≡ false
        other = ne_eqb x.session q (λ is. apart (sym is ∙ eqb-true x.session s same))
    go false other more = ap (λ (l : Window Down). if x.session == q then x.window else l) more

-- a window of another session that is there was there before
pub set_others : (ws : List SessionWindow) (s q : ℕ) (w : Window Down) → q ≢ s → list_any (is_window_of q) (set_window ws s w) ≡ list_any (is_window_of q) ws
set_others [] s q w apart = ap (λ (b : Bool). b || false) (ne_eqb s q (λ same. apart (sym same)))
set_others (x ∷ xs) s q w apart = go (x.session == s) (set_others xs s q w apart)
  where
    go : (b : Bool) → list_any (is_window_of q) (set_window xs s w) ≡ list_any (is_window_of q) xs
        → list_any (is_window_of q) (if b then record x { window = w } ∷ xs else x ∷ set_window xs s w) ≡ ((x.session == q) || list_any (is_window_of q) xs)
    go true more = refl
    go false more = ap (λ (b : Bool). (x.session == q) || b) more

-- one that is set is there
pub set_there : (ws : List SessionWindow) (s : ℕ) (w : Window Down) → list_any (is_window_of s) (set_window ws s w) ≡ true
set_there [] s w = ap (λ (b : Bool). b || false) (eq-eqb s s refl)
set_there (x ∷ xs) s w = go (x.session == s) refl (set_there xs s w)
  where
    go : (b : Bool) → (x.session == s) ≡ b → list_any (is_window_of s) (set_window xs s w) ≡ true
        → list_any (is_window_of s) (if b then record x { window = w } ∷ xs else x ∷ set_window xs s w) ≡ true
    go true same more = ap (λ (b : Bool). b || list_any (is_window_of s) xs) same
    go false other more = ap (λ (b : Bool). b || list_any (is_window_of s) (set_window xs s w)) other ∙ more

-- each number comes once

not_left : (a b : Bool) → (not a && b) ≡ true → a ≡ false
not_left true b is = absurd (false≢true is)
not_left false b is = refl

not_right : (a b : Bool) → (not a && b) ≡ true → b ≡ true
not_right true b is = absurd (false≢true is)
not_right false b is = is

both_true : (a b : Bool) → a ≡ false → b ≡ true → (not a && b) ≡ true
both_true a b none is = ap (λ (x : Bool). not x && b) none ∙ is

whose_set : (ws : List SessionWindow) (s n : ℕ) (w : Window Down) → n ≢ s → list_any (is_same n) (map whose (set_window ws s w)) ≡ list_any (is_same n) (map whose ws)
whose_set [] s n w apart = ap (λ (b : Bool). b || false) (ne_eqb n s apart)
whose_set (x ∷ xs) s n w apart = go (x.session == s) (whose_set xs s n w apart)
  where
    go : (b : Bool) → list_any (is_same n) (map whose (set_window xs s w)) ≡ list_any (is_same n) (map whose xs)
        → list_any (is_same n) (map whose (if b then record x { window = w } ∷ xs else x ∷ set_window xs s w)) ≡ ((n == x.session) || list_any (is_same n) (map whose xs))
    go true more = refl
    go false more = ap (λ (b : Bool). (n == x.session) || b) more

pub set_differ : (ws : List SessionWindow) (s : ℕ) (w : Window Down) → all_differ (map whose ws) ≡ true → all_differ (map whose (set_window ws s w)) ≡ true
set_differ [] s w differ = refl
set_differ (x ∷ xs) s w differ =
    go (x.session == s) refl (set_differ xs s w (not_right (list_any (is_same x.session) (map whose xs)) (all_differ (map whose xs)) differ))
  where
    go : (b : Bool) → (x.session == s) ≡ b → all_differ (map whose (set_window xs s w)) ≡ true
        → all_differ (map whose (if b then record x { window = w } ∷ xs else x ∷ set_window xs s w)) ≡ true
    go true same more = differ
    go false other more =
        both_true (list_any (is_same x.session) (map whose (set_window xs s w))) (all_differ (map whose (set_window xs s w)))
        (whose_set xs s x.session w (λ is. true≢false (sym (eq-eqb x.session s is) ∙ other))
        ∙ not_left (list_any (is_same x.session) (map whose xs)) (all_differ (map whose xs)) differ) more

-- one goes

pub gone_elsewhere : (ws : List SessionWindow) (s q : ℕ) → q ≢ s → window_in (filter (is_window_elsewhere s) ws) q ≡ window_in ws q
gone_elsewhere [] s q apart = refl
gone_elsewhere (x ∷ xs) s q apart = go (x.session == s) refl (gone_elsewhere xs s q apart)
  where
    go : (b : Bool) → (x.session == s) ≡ b → window_in (filter (is_window_elsewhere s) xs) q ≡ window_in xs q
        → window_in (cond (not b) (x ∷ filter (is_window_elsewhere s) xs) (filter (is_window_elsewhere s) xs)) q ≡ (if x.session == q then x.window else window_in xs q)
    go true same more =
        more ∙ sym (ap (λ (b : Bool). if b then x.window else window_in xs q) (ne_eqb x.session q (λ is. apart (sym is ∙ eqb-true x.session s same))))
    go false other more = ap (λ (l : Window Down). if x.session == q then x.window else l) more

-- whether one of another session is there
pub gone_others : (ws : List SessionWindow) (s q : ℕ) → q ≢ s → list_any (is_window_of q) (filter (is_window_elsewhere s) ws) ≡ list_any (is_window_of q) ws
gone_others [] s q apart = refl
gone_others (x ∷ xs) s q apart = go (x.session == s) refl (gone_others xs s q apart)
  where
    go : (b : Bool) → (x.session == s) ≡ b → list_any (is_window_of q) (filter (is_window_elsewhere s) xs) ≡ list_any (is_window_of q) xs
        → list_any (is_window_of q) (cond (not b) (x ∷ filter (is_window_elsewhere s) xs) (filter (is_window_elsewhere s) xs))
        ≡ ((x.session == q) || list_any (is_window_of q) xs)
    go true same more =
        more
        ∙ sym (ap (λ (b : Bool). b || list_any (is_window_of q) xs) (ne_eqb x.session q (λ is. apart (sym is ∙ eqb-true x.session s same))))
    go false other more = ap (λ (b : Bool). (x.session == q) || b) more

-- what is there after it was there before, and of another session
pub gone_there : (ws : List SessionWindow) (s q : ℕ) → list_any (is_window_of q) (filter (is_window_elsewhere s) ws) ≡ true
    → (q ≢ s) × (list_any (is_window_of q) ws ≡ true)
gone_there [] s q is = absurd (false≢true is)
gone_there (x ∷ xs) s q is = go (x.session == s) refl is (gone_there xs s q)
  where
    later : list_any (is_window_of q) xs ≡ true → ((x.session == q) || list_any (is_window_of q) xs) ≡ true
    later there = or_true (x.session == q) (list_any (is_window_of q) xs) there
      where
        or_true : (a b : Bool) → b ≡ true → (a || b) ≡ true
        or_true true b is = refl
        or_true false b is = is

    here : (x.session == s) ≡ false → (b : Bool) → (x.session == q) ≡ b → (b || list_any (is_window_of q) (filter (is_window_elsewhere s) xs)) ≡ true
        → (list_any (is_window_of q) (filter (is_window_elsewhere s) xs) ≡ true → (q ≢ s) × (list_any (is_window_of q) xs ≡ true))
        → (q ≢ s) × ((b || list_any (is_window_of q) xs) ≡ true)
    here other true same at more = ((λ is. true≢false (sym (eq-eqb x.session s (eqb-true x.session q same ∙ is)) ∙ other)), refl)
    here other false apart at more = more at

    go : (b : Bool) → (x.session == s) ≡ b → list_any (is_window_of q) (cond (not b) (x ∷ filter (is_window_elsewhere s) xs) (filter (is_window_elsewhere s) xs)) ≡ true
        → (list_any (is_window_of q) (filter (is_window_elsewhere s) xs) ≡ true → (q ≢ s) × (list_any (is_window_of q) xs ≡ true))
        → (q ≢ s) × (((x.session == q) || list_any (is_window_of q) xs) ≡ true)
    go true same at more = let both : (q ≢ s) × (list_any (is_window_of q) xs ≡ true) = more at in (both.0, later both.1)
    go false other at more = here other (x.session == q) refl at more

pub gone_differ : (ws : List SessionWindow) (s : ℕ) → all_differ (map whose ws) ≡ true → all_differ (map whose (filter (is_window_elsewhere s) ws)) ≡ true
gone_differ [] s differ = refl
gone_differ (x ∷ xs) s differ =
    go (x.session == s) (gone_differ xs s (not_right (list_any (is_same x.session) (map whose xs)) (all_differ (map whose xs)) differ))
  where
    fewer : (n : ℕ) (ys : List SessionWindow) → list_any (is_same n) (map whose ys) ≡ false → list_any (is_same n) (map whose (filter (is_window_elsewhere s) ys)) ≡ false
    fewer n [] none = refl
    fewer n (y ∷ ys) none = step (y.session == s) (or_parts (n == y.session) (list_any (is_same n) (map whose ys)) none) (fewer n ys)
      where
        step : (b : Bool) → ((n == y.session) ≡ false) × (list_any (is_same n) (map whose ys) ≡ false)
            → (list_any (is_same n) (map whose ys) ≡ false → list_any (is_same n) (map whose (filter (is_window_elsewhere s) ys)) ≡ false)
            → list_any (is_same n) (map whose (cond (not b) (y ∷ filter (is_window_elsewhere s) ys) (filter (is_window_elsewhere s) ys))) ≡ false
        step true parts more = more parts.1
        step false parts more = ap (λ (a : Bool). a || list_any (is_same n) (map whose (filter (is_window_elsewhere s) ys))) parts.0 ∙ more parts.1

    go : (b : Bool) → all_differ (map whose (filter (is_window_elsewhere s) xs)) ≡ true
        → all_differ (map whose (cond (not b) (x ∷ filter (is_window_elsewhere s) xs) (filter (is_window_elsewhere s) xs))) ≡ true
    go true more = more
    go false more =
        both_true (list_any (is_same x.session) (map whose (filter (is_window_elsewhere s) xs))) (all_differ (map whose (filter (is_window_elsewhere s) xs)))
        (fewer x.session xs (not_left (list_any (is_same x.session) (map whose xs)) (all_differ (map whose xs)) differ)) more

-- the window of a session that has none
pub none_there : (ws : List SessionWindow) (s : ℕ) → list_any (is_window_of s) ws ≡ false → window_in ws s ≡ fresh
none_there [] s none = refl
none_there (x ∷ xs) s none =
    let parts : ((x.session == s) ≡ false) × (list_any (is_window_of s) xs ≡ false) = or_parts (x.session == s) (list_any (is_window_of s) xs) none in
    ap (λ (b : Bool). if b then x.window else window_in xs s) parts.0 ∙ none_there xs s parts.1
