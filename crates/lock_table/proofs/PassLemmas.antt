-- A pass through the waiting requests, turn by turn.
use Rattle.std.proofs.Common.{◌≡◌, ℕ, zero, suc, ◌+◌, ◌<◌, ◌≤◌, Bool, true, false, cond, Result, Ok, Err, List, [], ◌∷◌, ◌++◌, length, get_or, take, drop, refl, sym, ◌∙◌, ap, subst, append_assoc, add-one, arith, length-append}
use Rattle.std.specs.List.{remove}
use Rattle.std.specs.Result.{OnErr}
use Rattle.std.proofs.Math.Seq.{take-suc, drop-cons, take-append_seam}
use Rattle.lock_table.specs.declared.rows.Request.{Request}
use Rattle.lock_table.specs.LockWords.{Locks, Freed, waits, with_grant, pass, passed}
use Rattle.lock_table.specs.Passing.{with_rest, IsCutShort}

-- a pass goes on through more requests
abbrev goes_on : Freed → List Request → ℕ → Freed
goes_on f rs t = pass f.locks f.locks.requests f.grants rs t

both : {A : Type 0} (b : Bool) (x y u v : A) → x ≡ u → y ≡ v → cond b x y ≡ cond b u v
both true x y u v e f = e
both false x y u v e f = f

-- a pass doesn't read what waited before it
pass_requests : (l : Locks) (q left grants rs : List Request) (t : ℕ) → pass (record l { requests = q }) left grants rs t ≡ pass l left grants rs t
pass_requests l q left grants [] t = refl
pass_requests l q left grants (r ∷ rs) t =
    both (waits l.holds left r) _ _ _ _ (pass_requests l q (left ++ r ∷ []) grants rs t) (pass_requests (with_grant l r t) q left (grants ++ r ∷ []) rs t)

chosen : (b : Bool) (f g u v : Freed) (ys : List Request) (t : ℕ) → u ≡ goes_on f ys t → v ≡ goes_on g ys t → cond b u v ≡ goes_on (cond b f g) ys t
chosen true f g u v ys t e h = e
chosen false f g u v ys t e h = h

pass_append : (l : Locks) (left grants xs ys : List Request) (t : ℕ) → pass l left grants (xs ++ ys) t ≡ goes_on (pass l left grants xs t) ys t
pass_append l left grants [] ys t = sym (pass_requests l left left grants ys t)
pass_append l left grants (x ∷ xs) ys t =
    chosen (waits l.holds left x) (pass l (left ++ x ∷ []) grants xs t) (pass (with_grant l x t) left (grants ++ x ∷ []) xs t) _ _ ys t
    (pass_append l (left ++ x ∷ []) grants xs ys t) (pass_append (with_grant l x t) left (grants ++ x ∷ []) xs ys t)

one_waits : (f : Freed) (r : Request) (t : ℕ) → waits f.locks.holds f.locks.requests r ≡ true → goes_on f (r ∷ []) t ≡ record f { locks = record f.locks { requests = f.locks.requests ++ r ∷ [] } }
one_waits f r t w = rw w refl

one_granted : (f : Freed) (r : Request) (t : ℕ) → waits f.locks.holds f.locks.requests r ≡ false → goes_on f (r ∷ []) t ≡ record { locks = record (with_grant f.locks r t) { requests = f.locks.requests }; grants = f.grants ++ r ∷ [] }
one_granted f r t w = rw w refl

rest_assoc : (f : Freed) (r : Request) (rest : List Request) → with_rest (record f { locks = record f.locks { requests = f.locks.requests ++ r ∷ [] } }) rest ≡ with_rest f (r ∷ rest)
rest_assoc f r rest = ap (λ (q : List Request). record f { locks = record f.locks { requests = q } }) (append_assoc f.locks.requests (r ∷ []) rest)

get_seam : (xs : List Request) (y : Request) (ys : List Request) (d : Request) → get_or (xs ++ y ∷ ys) (length xs) d ≡ y
get_seam [] y ys d = refl
get_seam (x ∷ xs) y ys d = get_seam xs y ys d

remove_seam : (xs : List Request) (y : Request) (ys : List Request) → remove (xs ++ y ∷ ys) (length xs) ≡ xs ++ ys
remove_seam [] y ys = refl
remove_seam (x ∷ xs) y ys = ap (λ (zs : List Request). x ∷ zs) (remove_seam xs y ys)

-- the pass came through xs, and rest is left: this is the table, these are the grants, and so many were left over
pub record IsAt (l : Locks) (t : ℕ) (xs rest : List Request) (m : Locks) (gs : List Request) (p : ℕ) : Type 0 where
  pub locks : m ≡ (with_rest (pass l [] [] xs t) rest).locks
  pub grants : gs ≡ (pass l [] [] xs t).grants
  pub place : p ≡ length (pass l [] [] xs t).locks.requests

pub at_start : (l : Locks) (t : ℕ) → IsAt l t [] l.requests l [] 0
at_start l t = record { locks = refl; grants = refl; place = refl }

-- nothing behind changes nothing
pub append_none : (xs : List Request) → xs ++ [] ≡ xs
append_none [] = refl
append_none (x ∷ xs) = ap (λ (zs : List Request). x ∷ zs) (append_none xs)

pub at_end : (l : Locks) (t : ℕ) (m : Locks) (gs : List Request) (place : ℕ) → IsAt l t l.requests [] m gs place → (m ≡ (passed l t).locks) × (gs ≡ (passed l t).grants)
at_end l t m gs place is =
    (is.locks ∙ ap (λ (q : List Request). record (passed l t).locks { requests = q }) (append_none (passed l t).locks.requests), is.grants)

-- what is asked of the request at the place is asked of the next one
next_waits : (l : Locks) (t : ℕ) (xs rest : List Request) (m : Locks) (gs : List Request) (place : ℕ) (r d : Request) (b : Bool) → IsAt l t xs (r ∷ rest) m gs place → waits m.holds (take place m.requests) (get_or m.requests place d) ≡ b → waits (pass l [] [] xs t).locks.holds (pass l [] [] xs t).locks.requests r ≡ b
next_waits l t xs rest m gs place r d b is w =
    let f : Freed = pass l [] [] xs t in
    let w1 : waits f.locks.holds (take place (f.locks.requests ++ r ∷ rest)) (get_or (f.locks.requests ++ r ∷ rest) place d) ≡ b =
    subst (λ (q : Locks). waits q.holds (take place q.requests) (get_or q.requests place d) ≡ b) is.locks w in
    let w2 : waits f.locks.holds (take (length f.locks.requests) (f.locks.requests ++ r ∷ rest)) (get_or (f.locks.requests ++ r ∷ rest) (length f.locks.requests) d) ≡ b =
    subst (λ (p : ℕ). waits f.locks.holds (take p (f.locks.requests ++ r ∷ rest)) (get_or (f.locks.requests ++ r ∷ rest) p d) ≡ b) is.place w1 in
    let w3 : waits f.locks.holds f.locks.requests (get_or (f.locks.requests ++ r ∷ rest) (length f.locks.requests) d) ≡ b =
    subst (λ (q : List Request). waits f.locks.holds q (get_or (f.locks.requests ++ r ∷ rest) (length f.locks.requests) d) ≡ b) (take-append_seam f.locks.requests (r ∷ rest)) w2 in
    subst (λ (q : Request). waits f.locks.holds f.locks.requests q ≡ b) (get_seam f.locks.requests r rest d) w3

go_waits : (l : Locks) (t : ℕ) (xs rest : List Request) (m : Locks) (gs : List Request) (place : ℕ) (r d : Request) → IsAt l t xs (r ∷ rest) m gs place → waits m.holds (take place m.requests) (get_or m.requests place d) ≡ true → IsAt l t (xs ++ r ∷ []) rest m gs (place + 1)
go_waits l t xs rest m gs place r d is w =
    let f : Freed = pass l [] [] xs t in
    let e : pass l [] [] (xs ++ r ∷ []) t ≡ record f { locks = record f.locks { requests = f.locks.requests ++ r ∷ [] } } =
    pass_append l [] [] xs (r ∷ []) t ∙ one_waits f r t (next_waits l t xs rest m gs place r d true is w) in
    record {
      locks = is.locks ∙ sym (ap (λ (g : Freed). (with_rest g rest).locks) e ∙ ap (λ (g : Freed). g.locks) (rest_assoc f r rest));
      grants = is.grants ∙ sym (ap (λ (g : Freed). g.grants) e);
      place = sym (ap (λ (g : Freed). length g.locks.requests) e ∙ length-append f.locks.requests (r ∷ []) ∙ ap (λ (n : ℕ). n + 1) (sym is.place));
    }

go_granted : (l : Locks) (t : ℕ) (xs rest : List Request) (m : Locks) (gs : List Request) (place : ℕ) (r d : Request) → IsAt l t xs (r ∷ rest) m gs place → waits m.holds (take place m.requests) (get_or m.requests place d) ≡ false → IsAt l t (xs ++ r ∷ []) rest (record (with_grant m r t) { requests = remove m.requests place }) (gs ++ r ∷ []) place
go_granted l t xs rest m gs place r d is w =
    let f : Freed = pass l [] [] xs t in
    let e : pass l [] [] (xs ++ r ∷ []) t ≡ record { locks = record (with_grant f.locks r t) { requests = f.locks.requests }; grants = f.grants ++ r ∷ [] } =
    pass_append l [] [] xs (r ∷ []) t ∙ one_granted f r t (next_waits l t xs rest m gs place r d false is w) in
    record {
      locks = ap (λ (q : Locks). record (with_grant q r t) { requests = remove q.requests place }) is.locks
          ∙ ap (λ (p : ℕ). record (with_grant f.locks r t) { requests = remove (f.locks.requests ++ r ∷ rest) p }) is.place
          ∙ ap (λ (q : List Request). record (with_grant f.locks r t) { requests = q }) (remove_seam f.locks.requests r rest)
          ∙ sym (ap (λ (g : Freed). (with_rest g rest).locks) e);
      grants = ap (λ (q : List Request). q ++ r ∷ []) is.grants ∙ sym (ap (λ (g : Freed). g.grants) e);
      place = is.place ∙ sym (ap (λ (g : Freed). length g.locks.requests) e);
    }

-- the pass after k turns
pub record AfterTurns (l : Locks) (t k : ℕ) (m : Locks) (gs : List Request) (p : ℕ) : Type 0 where
  pub reached : IsAt l t (take k l.requests) (drop k l.requests) m gs p

next_at : (l : Locks) (t k : ℕ) (m : Locks) (gs : List Request) (place : ℕ) (r : Request) → AfterTurns l t k m gs place → k < length l.requests → get_or l.requests k r ≡ r → IsAt l t (take k l.requests) (r ∷ drop (suc k) l.requests) m gs place
next_at l t k m gs place r is lt e =
    subst (λ (q : List Request). IsAt l t (take k l.requests) q m gs place) (drop-cons l.requests k r lt ∙ ap (λ (y : Request). y ∷ drop (suc k) l.requests) e) is.reached

after_next : (l : Locks) (t k : ℕ) (m : Locks) (gs : List Request) (place : ℕ) (r : Request) → k < length l.requests → get_or l.requests k r ≡ r → IsAt l t (take k l.requests ++ r ∷ []) (drop (suc k) l.requests) m gs place → AfterTurns l t (k + 1) m gs place
after_next l t k m gs place r lt e is =
    rw add-one record { reached = subst (λ (q : List Request). IsAt l t q (drop (suc k) l.requests) m gs place) (sym (take-suc l.requests k r lt ∙ ap (λ (y : Request). take k l.requests ++ y ∷ []) e)) is }

-- none has come
pub no_turns : (l : Locks) (t : ℕ) → AfterTurns l t 0 l [] 0
no_turns l t = record { reached = at_start l t }

take_all : (k : ℕ) (rs : List Request) → length rs ≤ k → take k rs ≡ rs
take_all zero [] le = refl
take_all (suc k) [] le = refl
take_all zero (r ∷ rs) le = absurd (omega arith)
take_all (suc k) (r ∷ rs) le = ap (λ (zs : List Request). r ∷ zs) (take_all k rs (omega arith))

drop_all : (k : ℕ) (rs : List Request) → length rs ≤ k → drop k rs ≡ []
drop_all zero [] le = refl
drop_all (suc k) [] le = refl
drop_all zero (r ∷ rs) le = absurd (omega arith)
drop_all (suc k) (r ∷ rs) le = drop_all k rs (omega arith)

-- all have come
pub all_turns : (l : Locks) (t k : ℕ) (m : Locks) (gs : List Request) (place : ℕ) → AfterTurns l t k m gs place → length l.requests ≤ k → (m ≡ (passed l t).locks) × (gs ≡ (passed l t).grants)
all_turns l t k m gs place is le =
    at_end l t m gs place
    (subst (λ (q : List Request). IsAt l t q [] m gs place) (take_all k l.requests le)
    (subst (λ (q : List Request). IsAt l t (take k l.requests) q m gs place) (drop_all k l.requests le) is.reached))

-- the place of the next one is there
pub turn_in : (l : Locks) (t k : ℕ) (m : Locks) (gs : List Request) (place : ℕ) → AfterTurns l t k m gs place → k < length l.requests → place < length m.requests
turn_in l t k m gs place is lt =
    let f : Freed = pass l [] [] (take k l.requests) t in
    let e : length m.requests ≡ length f.locks.requests + length (drop k l.requests) =
    ap (λ (q : Locks). length q.requests) is.reached.locks ∙ length-append f.locks.requests (drop k l.requests) in
    let some : 0 < length (drop k l.requests) = some_left k l.requests lt in
    let p : place ≡ length f.locks.requests = is.reached.place in
    omega arith
  where
    some_left : (k : ℕ) (rs : List Request) → k < length rs → 0 < length (drop k rs)
    some_left k [] lt = absurd (omega arith)
    some_left zero (r ∷ rs) lt = omega arith
    some_left (suc k) (r ∷ rs) lt = some_left k rs (omega arith)

one_of : (k : ℕ) (rs : List Request) → k < length rs → (d : Request) × (get_or rs k d ≡ d)
one_of k [] lt = absurd (omega arith)
one_of zero (r ∷ rs) lt = (r, refl)
one_of (suc k) (r ∷ rs) lt = one_of k rs (omega arith)

-- the next one waits on
pub turn_waits : (l : Locks) (t k : ℕ) (m : Locks) (gs : List Request) (place : ℕ) → AfterTurns l t k m gs place → k < length l.requests → ((d : Request) → waits m.holds (take place m.requests) (get_or m.requests place d) ≡ true) → AfterTurns l t (k + 1) m gs (place + 1)
turn_waits l t k m gs place is lt w =
    let one = one_of k l.requests lt in
    after_next l t k m gs (place + 1) one.0 lt one.1
    (go_waits l t (take k l.requests) (drop (suc k) l.requests) m gs place one.0 one.0 (next_at l t k m gs place one.0 is lt one.1) (w one.0))

-- the request at the place is the next one
same_request : (l : Locks) (t k : ℕ) (m : Locks) (gs : List Request) (place : ℕ) (r : Request) → AfterTurns l t k m gs place → k < length l.requests → r ≡ get_or m.requests place r → get_or l.requests k r ≡ r
same_request l t k m gs place r is lt e =
    let f : Freed = pass l [] [] (take k l.requests) t in
    let e1 : get_or m.requests place r ≡ get_or (f.locks.requests ++ drop k l.requests) (length f.locks.requests) r =
    ap (λ (q : Locks). get_or q.requests place r) is.reached.locks ∙ ap (λ (p : ℕ). get_or (f.locks.requests ++ drop k l.requests) p r) is.reached.place in
    let e2 : get_or (f.locks.requests ++ drop k l.requests) (length f.locks.requests) r ≡ get_or l.requests k r =
    ap (λ (q : List Request). get_or (f.locks.requests ++ q) (length f.locks.requests) r) (drop-cons l.requests k r lt) ∙ get_seam f.locks.requests (get_or l.requests k r) (drop (suc k) l.requests) r in
    sym (e ∙ e1 ∙ e2)

-- the next one is granted
pub turn_granted : (l : Locks) (t k : ℕ) (m : Locks) (gs : List Request) (place : ℕ) (r : Request) → AfterTurns l t k m gs place → k < length l.requests → ((d : Request) → waits m.holds (take place m.requests) (get_or m.requests place d) ≡ false) → r ≡ get_or m.requests place r → AfterTurns l t (k + 1) (record (with_grant m r t) { requests = remove m.requests place }) (gs ++ r ∷ []) place
turn_granted l t k m gs place r is lt w e =
    let same : get_or l.requests k r ≡ r = same_request l t k m gs place r is lt e in
    after_next l t k (record (with_grant m r t) { requests = remove m.requests place }) (gs ++ r ∷ []) place r lt same
    (go_granted l t (take k l.requests) (drop (suc k) l.requests) m gs place r r (next_at l t k m gs place r is lt same) (w r))

-- wherever it stops it was cut short
pub turns_cut : (l : Locks) (t k : ℕ) (m : Locks) (gs : List Request) (place : ℕ) → AfterTurns l t k m gs place → IsCutShort l t m
turns_cut l t k m gs place is = (k, is.reached.locks)

left_of_both : (b : Bool) (f g : Freed) (n : ℕ) → length f.locks.requests ≤ n → length g.locks.requests ≤ n → length (cond b f g).locks.requests ≤ n
left_of_both true f g n le lf = le
left_of_both false f g n le lf = lf

left_within : (l : Locks) (left grants xs : List Request) (t : ℕ) → length (pass l left grants xs t).locks.requests ≤ length left + length xs
left_within l left grants [] t = omega arith
left_within l left grants (x ∷ xs) t =
    left_of_both (waits l.holds left x) (pass l (left ++ x ∷ []) grants xs t) (pass (with_grant l x t) left (grants ++ x ∷ []) xs t) (length left + length (x ∷ xs))
    (omega (arith, left_within l (left ++ x ∷ []) grants xs t, length-append left (x ∷ [])))
    (omega (arith, left_within (with_grant l x t) left (grants ++ x ∷ []) xs t))

take_within : (k : ℕ) (rs : List Request) → length (take k rs) ≤ k
take_within zero rs = omega arith
take_within (suc k) [] = omega arith
take_within (suc k) (r ∷ rs) = omega (arith, take_within k rs)

-- no more are left over than have come
pub turn_within : (l : Locks) (t k : ℕ) (m : Locks) (gs : List Request) (place : ℕ) → AfterTurns l t k m gs place → place ≤ k
turn_within l t k m gs place is =
    let p : place ≡ length (pass l [] [] (take k l.requests) t).locks.requests = is.reached.place in
    omega (arith, p, left_within l [] [] (take k l.requests) t, take_within k l.requests)

-- what stands anyway stands after an error
pub after_error : {T E : Type 0} (r : Result T E) (P : Type 0) → P → OnErr r P
after_error (Ok x) P p = tt
after_error (Err e) P p = p
