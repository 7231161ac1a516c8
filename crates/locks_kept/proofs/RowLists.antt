-- Rows of a table of locks: each counts one hold at least, and no two are of one lock of one holder, after each call of the table.
use Rattle.std.proofs.Common.{◌≡◌, ◌<◌, ℕ, zero, suc, ◌+◌, ◌-◌, Bool, true, false, ◌==◌, ◌&&◌, ◌||◌, not, cond, List, [], ◌∷◌, ◌++◌, filter, refl, sym, ◌∙◌, ap, arith}
use Rattle.std.specs.List.{AllByRecursion, list_any}
use Rattle.std.proofs.lemmas.Bool.{and_parts, eq-eqb, eqb-true, false≢true, true≢false}
use Rattle.plain_orders.specs.declared.mode.Mode.{Mode}
use Rattle.plain_orders.specs.declared.mode.Mode.TheVariants.{Exclusive, Shared}
use Rattle.lock_table.specs.declared.rows.Hold.{Hold as Row}
use Rattle.lock_table.specs.declared.rows.Request.{Request}
use Rattle.lock_table.specs.declared.rows.Who.{Who}
use Rattle.lock_table.specs.LockWords.{Freed, Locks, is_lane, is_same_mode, is_same_name, is_same_who, lowered, pass, raised, waits, with_grant}
use Rattle.cluster_invariant.proofs.AllLists.{all_filtered}
use Rattle.cluster_promises.specs.Locks.{has_one_row}

-- of one hold at least
abbrev pub IsPositive : Row → Type 0
IsPositive h = 0 < h.count

-- Each row is, and no two are of one lock of one holder.
pub record Rows (hs : List Row) : Type 0 where
  pub positive : AllByRecursion IsPositive hs
  pub one_each : has_one_row hs ≡ true

-- a lock of a holder is another's the one way and the other

name_turned : (xs ys : List ℕ) → is_same_name xs ys ≡ true → is_same_name ys xs ≡ true
name_turned [] [] is = refl
name_turned [] (y ∷ ys) is = absurd (false≢true is)
name_turned (x ∷ xs) [] is = absurd (false≢true is)
name_turned (x ∷ xs) (y ∷ ys) is =
    let both : ((x == y) ≡ true) × (is_same_name xs ys ≡ true) = and_parts (x == y) (is_same_name xs ys) is in
    ap (λ (b : Bool). b && is_same_name ys xs) (eq-eqb y x (sym (eqb-true x y both.0))) ∙ name_turned xs ys both.1

mode_turned : (m n : Mode) → is_same_mode m n ≡ true → is_same_mode n m ≡ true
mode_turned Exclusive Exclusive is = refl
mode_turned Exclusive Shared is = absurd (false≢true is)
mode_turned Shared Exclusive is = absurd (false≢true is)
mode_turned Shared Shared is = refl

who_turned : (a b : Who) → is_same_who a b ≡ true → is_same_who b a ≡ true
who_turned a b is = go (and_parts (a.session == b.session) (a.job == b.job) is)
  where
    go : ((a.session == b.session) ≡ true) × ((a.job == b.job) ≡ true) → is_same_who b a ≡ true
    go both =
        ap (λ (t : Bool). t && (b.job == a.job)) (eq-eqb b.session a.session (sym (eqb-true a.session b.session both.0)))
        ∙ eq-eqb b.job a.job (sym (eqb-true a.job b.job both.1))

lane_turned : (who : Who) (name : List ℕ) (mode : Mode) (count at : ℕ) (h : Row)
    → is_lane h.who h.name h.mode (record { who = who; name = name; mode = mode; count = count; at = at }) ≡ true → is_lane who name mode h ≡ true
lane_turned who name mode count at h is =
    let both : ((is_same_who h.who who && is_same_name h.name name) ≡ true) × (is_same_mode h.mode mode ≡ true) =
    and_parts (is_same_who h.who who && is_same_name h.name name) (is_same_mode h.mode mode) is in
    let more : (is_same_who h.who who ≡ true) × (is_same_name h.name name ≡ true) = and_parts (is_same_who h.who who) (is_same_name h.name name) both.0 in
    ap (λ (t : Bool). (t && is_same_name name h.name) && is_same_mode mode h.mode) (who_turned h.who who more.0)
    ∙ ap (λ (t : Bool). t && is_same_mode mode h.mode) (name_turned h.name name more.1) ∙ mode_turned h.mode mode both.1

-- none of a list, and more

none_behind : (a b : Bool) → (a || b) ≡ false → (a ≡ false) × (b ≡ false)
none_behind true b none = absurd (true≢false none)
none_behind false b none = (refl, none)

none_both : (a b : Bool) → a ≡ false → b ≡ false → (a || b) ≡ false
none_both a b x y = ap (λ (t : Bool). t || b) x ∙ y

row_parts : (a b : Bool) → (not a && b) ≡ true → (a ≡ false) × (b ≡ true)
row_parts true b is = absurd (false≢true is)
row_parts false b is = (refl, is)

row_both : (a b : Bool) → a ≡ false → b ≡ true → (not a && b) ≡ true
row_both a b none is = ap (λ (t : Bool). not t && b) none ∙ is

-- more of one lock

none_raised : (h : Row) (who : Who) (name : List ℕ) (mode : Mode) (more at : ℕ) (hs : List Row) → is_lane who name mode h ≡ false
    → list_any (is_lane h.who h.name h.mode) hs ≡ false → list_any (is_lane h.who h.name h.mode) (raised who name mode more at hs) ≡ false
none_raised h who name mode more at [] other none =
    go (is_lane h.who h.name h.mode (record { who = who; name = name; mode = mode; count = more; at = at })) refl
  where
    go : (b : Bool) → is_lane h.who h.name h.mode (record { who = who; name = name; mode = mode; count = more; at = at }) ≡ b → (b || false) ≡ false
    go true is = absurd (true≢false (sym (lane_turned who name mode more at h is) ∙ other))
    go false is = refl
none_raised h who name mode more at (x ∷ hs) other none =
    let parts : (is_lane h.who h.name h.mode x ≡ false) × (list_any (is_lane h.who h.name h.mode) hs ≡ false) =
    none_behind (is_lane h.who h.name h.mode x) (list_any (is_lane h.who h.name h.mode) hs) none in
    go (is_lane who name mode x) parts.0 parts.1 (none_raised h who name mode more at hs other parts.1)
  where
    go : (b : Bool) → is_lane h.who h.name h.mode x ≡ false → list_any (is_lane h.who h.name h.mode) hs ≡ false
        → list_any (is_lane h.who h.name h.mode) (raised who name mode more at hs) ≡ false
        → list_any (is_lane h.who h.name h.mode) (cond b (record x { count = x.count + more } ∷ hs) (x ∷ raised who name mode more at hs)) ≡ false
    go true first rest up = none_both (is_lane h.who h.name h.mode x) (list_any (is_lane h.who h.name h.mode) hs) first rest
    go false first rest up = none_both (is_lane h.who h.name h.mode x) (list_any (is_lane h.who h.name h.mode) (raised who name mode more at hs)) first up

one_raised : (who : Who) (name : List ℕ) (mode : Mode) (more at : ℕ) (hs : List Row) → has_one_row hs ≡ true
    → has_one_row (raised who name mode more at hs) ≡ true
one_raised who name mode more at [] one = refl
one_raised who name mode more at (h ∷ hs) one =
    let parts : (list_any (is_lane h.who h.name h.mode) hs ≡ false) × (has_one_row hs ≡ true) = row_parts (list_any (is_lane h.who h.name h.mode) hs)
    (has_one_row hs) one in
    go (is_lane who name mode h) refl parts.0 (one_raised who name mode more at hs parts.1)
  where
    go : (b : Bool) → is_lane who name mode h ≡ b → list_any (is_lane h.who h.name h.mode) hs ≡ false → has_one_row (raised who name mode more at hs) ≡ true
        → has_one_row (cond b (record h { count = h.count + more } ∷ hs) (h ∷ raised who name mode more at hs)) ≡ true
    go true same none up = one
    go false other none up =
        row_both (list_any (is_lane h.who h.name h.mode) (raised who name mode more at hs)) (has_one_row (raised who name mode more at hs))
        (none_raised h who name mode more at hs other none) up

positive_raised : (who : Who) (name : List ℕ) (mode : Mode) (more at : ℕ) (hs : List Row) → 0 < more → AllByRecursion IsPositive hs
    → AllByRecursion IsPositive (raised who name mode more at hs)
positive_raised who name mode more at [] some all = (some, tt)
positive_raised who name mode more at (h ∷ hs) some all = go (is_lane who name mode h) (positive_raised who name mode more at hs some all.1)
  where
    go : (b : Bool) → AllByRecursion IsPositive (raised who name mode more at hs)
        → AllByRecursion IsPositive (cond b (record h { count = h.count + more } ∷ hs) (h ∷ raised who name mode more at hs))
    go true up = (omega (arith, some), all.1)
    go false up = (all.0, up)

pub rows_raised : (who : Who) (name : List ℕ) (mode : Mode) (more at : ℕ) (hs : List Row) → 0 < more → Rows hs → Rows (raised who name mode more at hs)
rows_raised who name mode more at hs some r =
    record { positive = positive_raised who name mode more at hs some r.positive; one_each = one_raised who name mode more at hs r.one_each }

-- one less

none_lowered : (p : Row → Bool) → ((h : Row) (n : ℕ) → p (record h { count = n }) ≡ p h) → (who : Who) (name : List ℕ) (mode : Mode) (hs : List Row)
    → list_any p hs ≡ false → list_any p (lowered who name mode hs) ≡ false
none_lowered p same who name mode [] none = refl
none_lowered p same who name mode (h ∷ hs) none =
    let parts : (p h ≡ false) × (list_any p hs ≡ false) = none_behind (p h) (list_any p hs) none in
    go (is_lane who name mode h) (h.count == 1) parts.0 parts.1 (none_lowered p same who name mode hs parts.1)
  where
    go : (b c : Bool) → p h ≡ false → list_any p hs ≡ false → list_any p (lowered who name mode hs) ≡ false
        → list_any p (cond b (cond c hs (record h { count = h.count - 1 } ∷ hs)) (h ∷ lowered who name mode hs)) ≡ false
    go true true first rest down = rest
    go true false first rest down = none_both (p (record h { count = h.count - 1 })) (list_any p hs) (same h (h.count - 1) ∙ first) rest
    go false c first rest down = none_both (p h) (list_any p (lowered who name mode hs)) first down

one_lowered : (who : Who) (name : List ℕ) (mode : Mode) (hs : List Row) → has_one_row hs ≡ true → has_one_row (lowered who name mode hs) ≡ true
one_lowered who name mode [] one = refl
one_lowered who name mode (h ∷ hs) one =
    let parts : (list_any (is_lane h.who h.name h.mode) hs ≡ false) × (has_one_row hs ≡ true) = row_parts (list_any (is_lane h.who h.name h.mode) hs)
    (has_one_row hs) one in
    go (is_lane who name mode h) (h.count == 1) parts.0 parts.1 (one_lowered who name mode hs parts.1)
  where
    go : (b c : Bool) → list_any (is_lane h.who h.name h.mode) hs ≡ false → has_one_row hs ≡ true → has_one_row (lowered who name mode hs) ≡ true
        → has_one_row (cond b (cond c hs (record h { count = h.count - 1 } ∷ hs)) (h ∷ lowered who name mode hs)) ≡ true
    go true true none rest down = rest
    go true false none rest down = one
    go false c none rest down =
        row_both (list_any (is_lane h.who h.name h.mode) (lowered who name mode hs)) (has_one_row (lowered who name mode hs))
        (none_lowered (is_lane h.who h.name h.mode) (λ x n. refl) who name mode hs none) down

less_one : (n : ℕ) → 0 < n → (n == 1) ≡ false → 0 < n - 1
less_one zero some other = absurd (omega (arith, some))
less_one (suc zero) some other = absurd (true≢false other)
less_one (suc (suc n)) some other = omega arith

positive_lowered : (who : Who) (name : List ℕ) (mode : Mode) (hs : List Row) → AllByRecursion IsPositive hs
    → AllByRecursion IsPositive (lowered who name mode hs)
positive_lowered who name mode [] all = tt
positive_lowered who name mode (h ∷ hs) all = go (is_lane who name mode h) (h.count == 1) refl (positive_lowered who name mode hs all.1)
  where
    go : (b c : Bool) → (h.count == 1) ≡ c → AllByRecursion IsPositive (lowered who name mode hs)
        → AllByRecursion IsPositive (cond b (cond c hs (record h { count = h.count - 1 } ∷ hs)) (h ∷ lowered who name mode hs))
    go true true one down = all.1
    go true false other down = (less_one h.count all.0 other, all.1)
    go false c is down = (all.0, down)

pub rows_lowered : (who : Who) (name : List ℕ) (mode : Mode) (hs : List Row) → Rows hs → Rows (lowered who name mode hs)
rows_lowered who name mode hs r = record { positive = positive_lowered who name mode hs r.positive; one_each = one_lowered who name mode hs r.one_each }

-- some of them

none_filtered : (p q : Row → Bool) (hs : List Row) → list_any p hs ≡ false → list_any p (filter q hs) ≡ false
none_filtered p q [] none = refl
none_filtered p q (h ∷ hs) none =
    let parts : (p h ≡ false) × (list_any p hs ≡ false) = none_behind (p h) (list_any p hs) none in
    go (q h) parts.0 (none_filtered p q hs parts.1)
  where
    go : (b : Bool) → p h ≡ false → list_any p (filter q hs) ≡ false → list_any p (cond b (h ∷ filter q hs) (filter q hs)) ≡ false
    go true first rest = none_both (p h) (list_any p (filter q hs)) first rest
    go false first rest = rest

one_filtered : (q : Row → Bool) (hs : List Row) → has_one_row hs ≡ true → has_one_row (filter q hs) ≡ true
one_filtered q [] one = refl
one_filtered q (h ∷ hs) one =
    let parts : (list_any (is_lane h.who h.name h.mode) hs ≡ false) × (has_one_row hs ≡ true) = row_parts (list_any (is_lane h.who h.name h.mode) hs)
    (has_one_row hs) one in
    go (q h) parts.0 (one_filtered q hs parts.1)
  where
    go : (b : Bool) → list_any (is_lane h.who h.name h.mode) hs ≡ false → has_one_row (filter q hs) ≡ true
        → has_one_row (cond b (h ∷ filter q hs) (filter q hs)) ≡ true
    go true none rest =
        row_both (list_any (is_lane h.who h.name h.mode) (filter q hs)) (has_one_row (filter q hs)) (none_filtered
        (is_lane h.who h.name h.mode) q hs none) rest
    go false none rest = rest

pub rows_filtered : (q : Row → Bool) (hs : List Row) → Rows hs → Rows (filter q hs)
rows_filtered q hs r = record { positive = all_filtered IsPositive q hs r.positive; one_each = one_filtered q hs r.one_each }

-- what is granted

pub rows_pass : (l : Locks) (left given rs : List Request) (at : ℕ) → Rows l.holds → Rows (pass l left given rs at).locks.holds
rows_pass l left given [] at r = r
rows_pass l left given (q ∷ rs) at r =
    go (waits l.holds left q) (rows_pass l (left ++ q ∷ []) given rs at r)
    (rows_pass (with_grant l q at) left (given ++ q ∷ []) rs at (rows_raised q.who q.name q.mode 1 at l.holds (omega arith) r))
  where
    go : (b : Bool) → Rows (pass l (left ++ q ∷ []) given rs at).locks.holds → Rows (pass (with_grant l q at) left (given ++ q ∷ []) rs at).locks.holds
        → Rows (cond {A = Freed} b (pass l (left ++ q ∷ []) given rs at) (pass (with_grant l q at) left (given ++ q ∷ []) rs at)).locks.holds
    go true waits now = waits
    go false waits now = now
