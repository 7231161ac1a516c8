-- Requests that were given up stand in the order of their turns, through each change of the list.
use Rattle.std.proofs.Common.{◌≡◌, ℕ, zero, suc, ◌≤◌, ◌<◌, ◌+◌, List, [], ◌∷◌, ◌++◌, subst, Bool, true, false, cond, arith, Some, slice_get}
use Rattle.std.specs.List.{filter}
use Rattle.std.proofs.lemmas.Option.{same_Some}
use Rattle.plain_runs.specs.Plain.{Quitted}
use Rattle.plain_runs.specs.LockRows.{drop_quit}
use Rattle.plain_runs.proofs.Orders.{Each}
use Rattle.plain_runs.proofs.LockRows.{each_at, each_push}

-- this one came before that one
abbrev pub Before : Quitted → Quitted → Type 0
Before q r = q.given.turn < r.given.turn

-- each came before the later ones, and before the turn that is next
abbrev pub QuitsRise : List Quitted → ℕ → Type 0
QuitsRise [] next = Unit {0}
QuitsRise (q ∷ qs) next = (q.given.turn < next) × Each (Before q) qs × QuitsRise qs next

-- a later turn is next
pub rise_up : (qs : List Quitted) (m n : ℕ) → m ≤ n → QuitsRise qs m → QuitsRise qs n
rise_up [] m n low k = tt
rise_up (q ∷ qs) m n low k = (omega (arith, k.0, low), k.1, rise_up qs m n low k.2)

each_filter : (P : Quitted → Type 0) (t : Quitted → Bool) (qs : List Quitted) → Each P qs → Each P (filter t qs)
each_filter P t [] e = tt
each_filter P t (q ∷ qs) e = go (t q) (each_filter P t qs e.1)
  where
    go : (b : Bool) → Each P (filter t qs) → Each P (cond b (q ∷ filter t qs) (filter t qs))
    go true r = (e.0, r)
    go false r = r

pub rise_filter : (t : Quitted → Bool) (qs : List Quitted) (next : ℕ) → QuitsRise qs next → QuitsRise (filter t qs) next
rise_filter t [] next k = tt
rise_filter t (q ∷ qs) next k = go (t q) (rise_filter t qs next k.2)
  where
    go : (b : Bool) → QuitsRise (filter t qs) next → QuitsRise (cond b (q ∷ filter t qs) (filter t qs)) next
    go true r = (k.0, each_filter (Before q) t qs k.1, r)
    go false r = r

each_drop : (P : Quitted → Type 0) (t : Quitted → Bool) (qs : List Quitted) → Each P qs → Each P (drop_quit t qs)
each_drop P t [] e = tt
each_drop P t (q ∷ qs) e = go (t q) (each_drop P t qs e.1)
  where
    go : (b : Bool) → Each P (drop_quit t qs) → Each P (cond b qs (q ∷ drop_quit t qs))
    go true r = e.1
    go false r = (e.0, r)

pub rise_drop : (t : Quitted → Bool) (qs : List Quitted) (next : ℕ) → QuitsRise qs next → QuitsRise (drop_quit t qs) next
rise_drop t [] next k = tt
rise_drop t (q ∷ qs) next k = go (t q) (rise_drop t qs next k.2)
  where
    go : (b : Bool) → QuitsRise (drop_quit t qs) next → QuitsRise (cond b qs (q ∷ drop_quit t qs)) next
    go true r = k.2
    go false r = (k.0, each_drop (Before q) t qs k.1, r)

-- one more, at the turn that is next
pub rise_push : (qs : List Quitted) (x : Quitted) → QuitsRise qs x.given.turn → QuitsRise (qs ++ x ∷ []) (x.given.turn + 1)
rise_push [] x k = (omega arith, tt, tt)
rise_push (q ∷ qs) x k = (omega (arith, k.0), each_push (Before q) qs x k.1 k.0, rise_push qs x k.2)

-- by their places
pub rise_at : (qs : List Quitted) (next i j : ℕ) (q r : Quitted) → QuitsRise qs next → slice_get qs i ≡ Some q → slice_get qs j ≡ Some r → i < j
    → q.given.turn < r.given.turn
rise_at [] next i j q r k at there low = absurd (cc (at))
rise_at (x ∷ qs) next i zero q r k at there low = absurd (omega (arith, low))
rise_at (x ∷ qs) next zero (suc j) q r k at there low = subst (λ (y : Quitted). Before y r) (same_Some x q at) (each_at (Before x) qs j r k.1 there)
rise_at (x ∷ qs) next (suc i) (suc j) q r k at there low = rise_at qs next i j q r k.2 at there (omega (arith, low))
