-- How what a crash leaves goes on from call to call.
use Rattle.std.proofs.Common.{◌≡◌, inl, inr, ⊎_elim, ℕ, List, Option, Some, None, IfSome, option_map, is_some, refl, ap, ◌∙◌, subst, arith}
use Rattle.outer_disk.specs.Disk.{Elapses, LeavesOnly, LeavesNoMore, Matched}
use Rattle.journal_disk.specs.Moments.{HasSynced, IsKept}
use Rattle.outer_disk.proofs.Runs.{started, goes_on}

-- what a clause says of the value, at the value
pub at_some : (o : Option (List ℕ)) (x : List ℕ) (P : List ℕ → Type 0) → IfSome o P → o ≡ Some x → P x
at_some o x P if_some e = subst (λ (v : Option (List ℕ)). IfSome v P) e if_some

-- a step between two values, at both
pub at_both : (step : List ℕ → List ℕ → Type 0) (o p : Option (List ℕ)) (x y : List ℕ) → Matched step o p → o ≡ Some x → p ≡ Some y → step x y
at_both step o p x y m e f = subst (λ (v : Option (List ℕ)). Matched step (Some x) v) f (subst (λ (v : Option (List ℕ)). Matched step v p) e m)

-- what tells goes on telling, and what doesn't goes on so
pub matched_telling : (step : List ℕ → List ℕ → Type 0) (o p : Option (List ℕ)) → Matched step o p → is_some p ≡ is_some o
matched_telling step None None m = refl
matched_telling step (Some x) (Some y) m = refl
matched_telling step (Some x) None m = absurd m
matched_telling step None (Some y) m = absurd m

pub mapped_telling : (f : List ℕ → List ℕ) (o p : Option (List ℕ)) → p ≡ option_map f o → is_some p ≡ is_some o
mapped_telling f None p e = ap is_some e
mapped_telling f (Some x) p e = ap is_some e

pub still_none : (o p : Option (List ℕ)) → is_some p ≡ is_some o → o ≡ None → p ≡ None
still_none o None e none = refl
still_none o (Some y) e none = absurd (cc (e, none))

module _ {D : Type 0} (moment : D → ℕ) (left_since : D → ℕ → List ℕ → Type 0) (may_leave : D → List ℕ → Type 0) where
  abbrev pub OnlyNow : D → Type 0
  OnlyNow old = (c : List ℕ) → left_since old (moment old) c → may_leave old c

  abbrev pub Step : D → D → Type 0
  Step old new = Elapses (moment old) (moment new) (left_since old) (left_since new) (may_leave new)

  abbrev pub Leaves : D → D → (List ℕ → Type 0) → Type 0
  Leaves old new P = LeavesOnly moment left_since old new P

  -- before the first call
  pub at_first : (old : D) (P : List ℕ → Type 0) → OnlyNow old → ((c : List ℕ) → may_leave old c → P c) → Leaves old old P
  at_first old P only_now here = started moment left_since old P (λ c left. here c (only_now c left))

  -- after one call
  pub one : (old new : D) (P : List ℕ → Type 0) → OnlyNow old → Step old new → ((c : List ℕ) → may_leave old c → P c) → ((c : List ℕ) → may_leave new c → P c) → Leaves old new P
  one old new P only_now time before here = goes_on moment left_since old old new P (may_leave new) (at_first old P only_now before) time here

  -- after one call more
  pub more : (old mid new : D) (P : List ℕ → Type 0) → Leaves old mid P → Step mid new → ((c : List ℕ) → may_leave new c → P c) → Leaves old new P
  more old mid new P so_far time here = goes_on moment left_since old mid new P (may_leave new) so_far time here

  -- what says less
  pub weaker : (old new : D) (P Q : List ℕ → Type 0) → Leaves old new P → ((c : List ℕ) → P c → Q c) → Leaves old new Q
  weaker old new P Q was less = record {
    later = was.later;
    each = λ c left. less c (was.each c left);
    before = λ t c le left. ⊎_elim (λ past. inl past) (λ p. inr (less c p)) (was.before t c le left);
  }

  -- two runs of calls in a row
  pub both : (old mid new : D) (P : List ℕ → Type 0) → Leaves old mid P → Leaves mid new P → Leaves old new P
  both old mid new P first second = record {
    later = omega (arith, first.later, second.later);
    each = λ c left. ⊎_elim (λ past. first.each c past) (λ p. p) (second.before (moment old) c first.later left);
    before = λ t c le left. ⊎_elim (λ past. first.before t c le past) (λ p. inr p) (second.before t c (omega (arith, le, first.later)) left);
  }

  -- after a first sync
  pub once_synced : (old mid new : D) (P : List ℕ → Type 0) → OnlyNow old → Step old mid → LeavesNoMore (may_leave old) (may_leave mid) → Leaves mid new P → HasSynced moment left_since may_leave old new P
  once_synced old mid new P only_now sync no_more on = record {
    synced = moment mid;
    from = sync.later;
    to = on.later;
    before = λ c left. ⊎_elim (λ past. inl (⊎_elim (only_now c) (no_more c) (sync.nothing_else (moment old) c (omega arith) past))) (λ p. inr p) (on.before (moment old) c sync.later left);
    each = on.each;
  }

  -- after a call that changes nothing, a call that keeps all
  pub still_kept : (told : D → Option (List ℕ)) (old mid new : D) → OnlyNow old → Step old mid → LeavesNoMore (may_leave old) (may_leave mid) → told mid ≡ told old
      → IsKept moment left_since may_leave told mid new → IsKept moment left_since may_leave told old new
  still_kept told old mid new only_now step no_more same on = record {
    read = on.read ∙ same;
    moments = both old mid new (may_leave old) (one old mid (may_leave old) only_now step (λ c left. left) no_more) (weaker mid new (may_leave mid) (may_leave old) on.moments no_more);
  }
