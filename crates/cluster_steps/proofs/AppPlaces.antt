-- The end with one data server among those of an application server, after one of them changed.
use Rattle.std.proofs.Common.{◌≡◌, ◌≤◌, ℕ, Bool, true, false, length, refl, sym, ◌∙◌, subst, eqb}
use Rattle.std.specs.Prelude.{nat_lt}
use Rattle.std.proofs.lemmas.Bool.{eqb-true, eq-eqb, false≢true, ltb-true, ltb-false}
use Rattle.std.proofs.lemmas.List.{get_or-set_same, get_or-set_other, get_or_past, length-set}
use Rattle.app_rules.specs.AppState.{AppState, AppEnd, no_end}
use Rattle.app_rules.specs.Works.{end_at, with_end}

-- the changed one, or the one that was there
pub at_end : (P : AppEnd → Type 0) (d k : ℕ) (e : AppEnd) (a : AppState) → (k ≡ d → P e) → P (end_at a k) → P (end_at (with_end d e a) k)
at_end P d k e a here there = go (eqb k d) refl
  where
    within : k ≡ d → (b : Bool) → nat_lt d (length a.ends) ≡ b → P (end_at (with_end d e a) d)
    within same true low = subst P (sym (get_or-set_same a.ends d e no_end (ltb-true d (length a.ends) low))) (here same)
    within same false past = subst P (get_or_past a.ends d no_end beyond ∙ sym (get_or_past (with_end d e a).ends d no_end longer)) (subst (λ n. P (end_at a n)) same there)
      where
        beyond : length a.ends ≤ d
        beyond = ltb-false d (length a.ends) past

        longer : length (with_end d e a).ends ≤ d
        longer = subst (λ n. n ≤ d) (sym (length-set a.ends d e)) beyond

    go : (b : Bool) → eqb k d ≡ b → P (end_at (with_end d e a) k)
    go true same = subst (λ n. P (end_at (with_end d e a) n)) (sym (eqb-true k d same)) (within (eqb-true k d same) (nat_lt d (length a.ends)) refl)
    go false other = subst P (sym (get_or-set_other a.ends d k e no_end (λ same. false≢true (sym other ∙ eq-eqb k d same)))) there
