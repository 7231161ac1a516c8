-- What a pass grants and what it leaves, in their order.
use Rattle.std.proofs.Common.{◌≡◌, ℕ, ◌+◌, Bool, true, false, cond, List, [], ◌∷◌, ◌++◌, refl, sym, ◌∙◌, ap, subst, inl, inr, append_assoc, arith}
use Rattle.std.proofs.lemmas.List.Sums.{sum_by-cons}
use Rattle.plain_orders.specs.declared.mode.Mode.{Mode}
use Rattle.lock_table.specs.declared.rows.Request.{Request}
use Rattle.lock_table.specs.declared.rows.Who.{Who}
use Rattle.lock_table.specs.LockWords.{Locks, Freed, waits, raised, with_grant, pass, passed}
use Rattle.lock_table.specs.Counts.{held_count, is_lane_request, request_count}
use Rattle.lock_table.specs.LockLaws.{AreShuffled, PassesOn}
use Rattle.lock_table.proofs.CountLemmas.{raised_count}
use Rattle.lock_table.proofs.PassLemmas.{append_none}

-- what a pass makes of more requests: these wait on and those are granted
record Leaves (l : Locks) (left grants rs : List Request) (f : Freed) : Type 0 where
  waiting : List Request
  given : List Request
  left_is : f.locks.requests ≡ left ++ waiting
  grants_is : f.grants ≡ grants ++ given
  granted_is : f.locks.granted ≡ l.granted ++ given
  counts : (w : Who) (n : List ℕ) (m : Mode) → held_count w n m f.locks.holds ≡ held_count w n m l.holds + request_count w n m given
  shuffled : AreShuffled rs waiting given

leaves_none : (l : Locks) (left grants : List Request) → Leaves l left grants [] (record { locks = record l { requests = left }; grants = grants })
leaves_none l left grants = record {
  waiting = [];
  given = [];
  left_is = sym (append_none left);
  grants_is = sym (append_none grants);
  granted_is = sym (append_none l.granted);
  counts = λ w n m. omega arith;
  shuffled = (refl, refl);
}

leaves_waiting : (l : Locks) (left grants rs : List Request) (r : Request) (f : Freed) → Leaves l (left ++ r ∷ []) grants rs f → Leaves l left grants (r ∷ rs) f
leaves_waiting l left grants rs r f is = record {
  waiting = r ∷ is.waiting;
  given = is.given;
  left_is = is.left_is ∙ append_assoc left (r ∷ []) is.waiting;
  grants_is = is.grants_is;
  granted_is = is.granted_is;
  counts = is.counts;
  shuffled = inl (is.waiting, refl, is.shuffled);
}

leaves_granted : (l : Locks) (left grants rs : List Request) (r : Request) (t : ℕ) (f : Freed) → Leaves (with_grant l r t) left (grants ++ r ∷ []) rs f → Leaves l left grants (r ∷ rs) f
leaves_granted l left grants rs r t f is = record {
  waiting = is.waiting;
  given = r ∷ is.given;
  left_is = is.left_is;
  grants_is = is.grants_is ∙ append_assoc grants (r ∷ []) is.given;
  granted_is = is.granted_is ∙ append_assoc l.granted (r ∷ []) is.given;
  counts = λ w n m.
      let more = sum_by-cons (λ (x : Request). cond (is_lane_request w n m x) 1 0) r is.given in
      let up = raised_count w n m r.who r.name r.mode 1 t l.holds in
      adds (held_count w n m f.locks.holds) (held_count w n m (raised r.who r.name r.mode 1 t l.holds)) (held_count w n m l.holds) (cond (is_lane_request w n m r) 1 0) (request_count w n m is.given) (request_count w n m (r ∷ is.given)) (is.counts w n m) up more;
  shuffled = inr (is.given, refl, is.shuffled);
}
  where
    adds : (a b c d e g : ℕ) → a ≡ b + e → b ≡ c + d → g ≡ d + e → a ≡ c + g
    adds a b c d e g p q s = omega arith

leaves_either : (l : Locks) (left grants rs : List Request) (b : Bool) (f g : Freed) → Leaves l left grants rs f → Leaves l left grants rs g → Leaves l left grants rs (cond b f g)
leaves_either l left grants rs true f g p q = p
leaves_either l left grants rs false f g p q = q

pass_leaves : (l : Locks) (left grants rs : List Request) (t : ℕ) → Leaves l left grants rs (pass l left grants rs t)
pass_leaves l left grants [] t = leaves_none l left grants
pass_leaves l left grants (r ∷ rs) t =
    leaves_either l left grants (r ∷ rs) (waits l.holds left r) (pass l (left ++ r ∷ []) grants rs t) (pass (with_grant l r t) left (grants ++ r ∷ []) rs t)
    (leaves_waiting l left grants rs r (pass l (left ++ r ∷ []) grants rs t) (pass_leaves l (left ++ r ∷ []) grants rs t))
    (leaves_granted l left grants rs r t (pass (with_grant l r t) left (grants ++ r ∷ []) rs t) (pass_leaves (with_grant l r t) left (grants ++ r ∷ []) rs t))

pub passes_on : (l : Locks) (t : ℕ) → PassesOn l t
passes_on l t =
    let is = pass_leaves l [] [] l.requests t in
    record {
      requests =
          subst (λ (q : List Request). AreShuffled l.requests q (passed l t).grants) (sym is.left_is)
          (subst (λ (q : List Request). AreShuffled l.requests is.waiting q) (sym is.grants_is) is.shuffled);
      counts = λ w n m. is.counts w n m ∙ ap (λ (q : List Request). held_count w n m l.holds + request_count w n m q) (sym is.grants_is);
      granted = is.granted_is ∙ ap (λ (q : List Request). l.granted ++ q) (sym is.grants_is);
    }
