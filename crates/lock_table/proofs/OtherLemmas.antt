-- What the counts of other holders, names and modes keep.
use Rattle.std.proofs.Common.{◌≡◌, ℕ, ◌-◌, Bool, true, false, not, cond, eqb, List, [], ◌∷◌, refl, ◌∙◌, ap, arith}
use Rattle.std.specs.List.{filter}
use Rattle.std.proofs.lemmas.List.Sums.{sum_by-cons}
use Rattle.plain_orders.specs.declared.mode.Mode.{Mode}
use Rattle.lock_table.specs.declared.rows.Hold.{Hold}
use Rattle.lock_table.specs.declared.rows.Who.{Who}
use Rattle.lock_table.specs.LockWords.{is_lane, raised, lowered, is_hold_elsewhere}
use Rattle.lock_table.specs.Counts.{is_same_lane, count_in, held_count}
use Rattle.lock_table.specs.LockLaws.{KeepsOthers}
use Rattle.lock_table.proofs.CountLemmas.{AreSame, lanes_same, same_hold, raised_count}

raised_other : (who : Who) (name : List ℕ) (mode : Mode) (more at : ℕ) (hs : List Hold) (w : Who) (n : List ℕ) (m : Mode) → is_same_lane w n m who name mode ≡ false → held_count w n m (raised who name mode more at hs) ≡ held_count w n m hs
raised_other who name mode more at hs w n m other =
    raised_count w n m who name mode more at hs ∙ rw other (omega arith)

lowered_others : (w : Who) (n : List ℕ) (m : Mode) (who : Who) (name : List ℕ) (mode : Mode) (h : Hold) (hs : List Hold) (b c : Bool) → (b ≡ true → is_lane w n m h ≡ false) → held_count w n m (lowered who name mode hs) ≡ held_count w n m hs → held_count w n m (cond b (cond c hs (record h { count = h.count - 1 } ∷ hs)) (h ∷ lowered who name mode hs)) ≡ held_count w n m (h ∷ hs)
lowered_others w n m who name mode h hs true true none rest = rw (sum_by-cons (count_in w n m) h hs, none refl) (omega arith)
lowered_others w n m who name mode h hs true false none rest =
    rw (sum_by-cons (count_in w n m) (record h { count = h.count - 1 }) hs, sum_by-cons (count_in w n m) h hs, none refl) (omega arith)
lowered_others w n m who name mode h hs false c none rest =
    rw (sum_by-cons (count_in w n m) h (lowered who name mode hs), sum_by-cons (count_in w n m) h hs) (omega (arith, rest))

lowered_other : (who : Who) (name : List ℕ) (mode : Mode) (hs : List Hold) (w : Who) (n : List ℕ) (m : Mode) → is_same_lane w n m who name mode ≡ false → held_count w n m (lowered who name mode hs) ≡ held_count w n m hs
lowered_other who name mode [] w n m other = refl
lowered_other who name mode (h ∷ hs) w n m other =
    lowered_others w n m who name mode h hs (is_lane who name mode h) (eqb h.count 1) (λ e. same_hold w n m who name mode h e ∙ other) (lowered_other who name mode hs w n m other)

other_session : (w : Who) (n : List ℕ) (m : Mode) (h : Hold) (session : ℕ) → eqb w.session session ≡ false → eqb h.who.session session ≡ true → is_lane w n m h ≡ false
other_session w n m h session other here = cases (is_lane w n m h) refl
  where
    cases : (b : Bool) → is_lane w n m h ≡ b → b ≡ false
    cases false e = refl
    cases true e =
        let p : AreSame w n m h.who h.name h.mode = lanes_same w n m h.who h.name h.mode e in
        let q : eqb w.session session ≡ eqb h.who.session session = ap (λ (x : Who). eqb x.session session) p.holder in
        cc

dropped_others : (w : Who) (n : List ℕ) (m : Mode) (session : ℕ) (h : Hold) (hs : List Hold) (b : Bool) → (b ≡ true → is_lane w n m h ≡ false) → held_count w n m (filter (is_hold_elsewhere session) hs) ≡ held_count w n m hs → held_count w n m (cond (not b) (h ∷ filter (is_hold_elsewhere session) hs) (filter (is_hold_elsewhere session) hs)) ≡ held_count w n m (h ∷ hs)
dropped_others w n m session h hs true none rest = rw (sum_by-cons (count_in w n m) h hs, none refl) (omega (arith, rest))
dropped_others w n m session h hs false none rest =
    rw (sum_by-cons (count_in w n m) h (filter (is_hold_elsewhere session) hs), sum_by-cons (count_in w n m) h hs) (omega (arith, rest))

dropped_other : (session : ℕ) (hs : List Hold) (w : Who) (n : List ℕ) (m : Mode) → eqb w.session session ≡ false → held_count w n m (filter (is_hold_elsewhere session) hs) ≡ held_count w n m hs
dropped_other session [] w n m other = refl
dropped_other session (h ∷ hs) w n m other =
    dropped_others w n m session h hs (eqb h.who.session session) (λ e. other_session w n m h session other e) (dropped_other session hs w n m other)

pub keeps_others : (hs : List Hold) → KeepsOthers hs
keeps_others hs = record {
  raise = λ who name mode more at w n m other. raised_other who name mode more at hs w n m other;
  lower = λ who name mode w n m other. lowered_other who name mode hs w n m other;
  drop_session = λ session w n m other. dropped_other session hs w n m other;
}
