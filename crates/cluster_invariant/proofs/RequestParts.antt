-- What a call of the table of locks leaves of the requests, in their order; and those of a session that was closed, the latest first.
use Rattle.std.proofs.Common.{◌≡◌, ◌≢◌, inl, inr, ℕ, Bool, true, false, not, ◌&&◌, ◌||◌, cond, List, [], ◌∷◌, ◌++◌, length, filter, refl, sym, ◌∙◌, ap, subst}
use Rattle.std.specs.Prelude.{◌==◌}
use Rattle.std.specs.List.{AllByRecursion, list_any}
use Rattle.std.proofs.lemmas.Bool.{eqb-true, eq-eqb, false≢true, true≢false}
use Rattle.std.proofs.lemmas.List.{append-nil, append_assoc}
use Rattle.std.proofs.lemmas.List.Elements.{filter-append}
use Rattle.lock_table.specs.declared.rows.Request.{Request}
use Rattle.lock_table.specs.LockWords.{Locks, Freed, waits, with_grant, pass, is_ticket, is_other_ticket, is_request_of, without_request}
use Rattle.data_rules.specs.Puts.{Sofar, becomes}
use Rattle.data_rules.specs.Granting.{grants, grants_one, locks_become, with_locks}
use Rattle.data_rules.specs.Closing.{cancels, cancels_one}
use Rattle.cluster_invariant.specs.Served.{has_one_ticket}
use Rattle.cluster_invariant.proofs.AllLists.{all_filtered}
use Rattle.cluster_invariant.proofs.Parts.{IsPart, part_more, part_same, part_then, part_left, part_filtered, part_joined}
use Rattle.cluster_invariant.proofs.PieceMay.{IsLast}

-- what is left

pub pass_part : (l : Locks) (left given rs : List Request) (at : ℕ) → IsPart (pass l left given rs at).locks.requests (left ++ rs)
pass_part l left given [] at = subst (IsPart left) (sym (append-nil left)) (part_same left)
pass_part l left given (r ∷ rs) at =
    go (waits l.holds left r)
    (subst (IsPart (pass l (left ++ r ∷ []) given rs at).locks.requests) (append_assoc left (r ∷ []) rs) (pass_part l (left ++ r ∷ []) given rs at))
    (part_then (pass (with_grant l r at) left (given ++ r ∷ []) rs at).locks.requests (left ++ rs) (left ++ r ∷ rs)
    (pass_part (with_grant l r at) left (given ++ r ∷ []) rs at) (part_joined left rs (r ∷ rs) (part_more r rs rs (part_same rs))))
  where
    go : (b : Bool) → IsPart (pass l (left ++ r ∷ []) given rs at).locks.requests (left ++ r ∷ rs)
        → IsPart (pass (with_grant l r at) left (given ++ r ∷ []) rs at).locks.requests (left ++ r ∷ rs)
        → IsPart (cond b (pass l (left ++ r ∷ []) given rs at) (pass (with_grant l r at) left (given ++ r ∷ []) rs at)).locks.requests (left ++ r ∷ rs)
    go true a b = a
    go false a b = b

-- grants leave the table
pub grants_locks : (rs : List Request) (b : Sofar) → (grants rs b).state.locks ≡ b.state.locks
grants_locks [] b = refl
grants_locks (r ∷ rs) b = grants_locks rs (grants_one r b)

pub become_locks : (f : Freed) (b : Sofar) → (locks_become f b).state.locks ≡ f.locks
become_locks f b = grants_locks f.grants (becomes (with_locks f.locks) b)

-- as a request goes, others may
pub cancel_part : (r : Request) (b : Sofar)
    → IsPart (cancels_one r b).state.locks.requests (filter (is_other_ticket r.who.session r.ticket) b.state.locks.requests)
cancel_part r b =
    subst (λ (l : Locks). IsPart l.requests (filter (is_other_ticket r.who.session r.ticket) b.state.locks.requests))
    (sym (become_locks (without_request b.state.locks r.who.session r.ticket (length b.state.order)) b))
    (pass_part (record b.state.locks { requests = filter (is_other_ticket r.who.session r.ticket) b.state.locks.requests }) [] []
    (filter (is_other_ticket r.who.session r.ticket) b.state.locks.requests) (length b.state.order))

pub cancels_part : (rs : List Request) (b : Sofar) → IsPart (cancels rs b).state.locks.requests b.state.locks.requests
cancels_part [] b = part_same b.state.locks.requests
cancels_part (r ∷ rs) b =
    part_then (cancels rs (cancels_one r b)).state.locks.requests (cancels_one r b).state.locks.requests b.state.locks.requests (cancels_part rs (cancels_one r b))
    (part_then (cancels_one r b).state.locks.requests (filter (is_other_ticket r.who.session r.ticket) b.state.locks.requests) b.state.locks.requests
    (cancel_part r b) (part_left (is_other_ticket r.who.session r.ticket) b.state.locks.requests))

-- tickets

pub both_parts : (a b : Bool) → (not a && b) ≡ true → (a ≡ false) × (b ≡ true)
both_parts true b is = absurd (false≢true is)
both_parts false b is = (refl, is)

pub both_of : (a b : Bool) → a ≡ false → b ≡ true → (not a && b) ≡ true
both_of a b none is = ap (λ (x : Bool). not x && b) none ∙ is

none_parts : (a b : Bool) → (a || b) ≡ false → (a ≡ false) × (b ≡ false)
none_parts true b is = absurd (true≢false is)
none_parts false b is = (refl, is)

none_of : (a b : Bool) → a ≡ false → b ≡ false → (a || b) ≡ false
none_of a b none is = ap (λ (x : Bool). x || b) none ∙ is

pub part_none : (p : Request → Bool) (xs ys : List Request) → IsPart xs ys → list_any p ys ≡ false → list_any p xs ≡ false
part_none p [] ys is none = refl
part_none p (x ∷ xs) [] is none = absurd is
part_none p (x ∷ xs) (y ∷ ys) (inl is) none =
    let parts : (p y ≡ false) × (list_any p ys ≡ false) = none_parts (p y) (list_any p ys) none in
    none_of (p x) (list_any p xs) (ap p is.0 ∙ parts.0) (part_none p xs ys is.1 parts.1)
part_none p (x ∷ xs) (y ∷ ys) (inr is) none = part_none p (x ∷ xs) ys is (none_parts (p y) (list_any p ys) none).1

-- what is left has each ticket once too
pub part_tickets : (xs ys : List Request) → IsPart xs ys → has_one_ticket ys ≡ true → has_one_ticket xs ≡ true
part_tickets [] ys is one = refl
part_tickets (x ∷ xs) [] is one = absurd is
part_tickets (x ∷ xs) (y ∷ ys) (inl is) one =
    let parts : (list_any (is_ticket y.who.session y.ticket) ys ≡ false) × (has_one_ticket ys ≡ true) =
    both_parts (list_any (is_ticket y.who.session y.ticket) ys) (has_one_ticket ys) one in
    both_of (list_any (is_ticket x.who.session x.ticket) xs) (has_one_ticket xs)
    (ap (λ (q : Request). list_any (is_ticket q.who.session q.ticket) xs) is.0 ∙ part_none (is_ticket y.who.session y.ticket) xs ys is.1 parts.0)
    (part_tickets xs ys is.1 parts.1)
part_tickets (x ∷ xs) (y ∷ ys) (inr is) one =
    part_tickets (x ∷ xs) ys is (both_parts (list_any (is_ticket y.who.session y.ticket) ys) (has_one_ticket ys) one).1

-- a ticket is another's the one way and the other
other_ticket : (q r : Request) → is_ticket q.who.session q.ticket r ≡ false → is_other_ticket r.who.session r.ticket q ≡ true
other_ticket q r none = go (q.who.session == r.who.session) refl (q.ticket == r.ticket) refl
  where
    go : (a : Bool) → (q.who.session == r.who.session) ≡ a → (b : Bool) → (q.ticket == r.ticket) ≡ b
        → not ((q.who.session == r.who.session) && (q.ticket == r.ticket)) ≡ true
    go true same true is =
        absurd (true≢false (sym
        (ap (λ (x : Bool). x && (r.ticket == q.ticket)) (eq-eqb r.who.session q.who.session (sym (eqb-true q.who.session r.who.session same)))
        ∙ eq-eqb r.ticket q.ticket (sym (eqb-true q.ticket r.ticket is))) ∙ none))
    go true same false other = ap (λ (x : Bool). not (x && (q.ticket == r.ticket))) same ∙ ap not other
    go false other b is = ap (λ (x : Bool). not (x && (q.ticket == r.ticket))) other

-- the last has another ticket than those before it
pub before_last : (xs : List Request) (r : Request) → has_one_ticket (xs ++ r ∷ []) ≡ true
    → AllByRecursion (λ q. is_other_ticket r.who.session r.ticket q ≡ true) xs
before_last [] r one = tt
before_last (x ∷ xs) r one =
    let parts : (list_any (is_ticket x.who.session x.ticket) (xs ++ r ∷ []) ≡ false) × (has_one_ticket (xs ++ r ∷ []) ≡ true) =
    both_parts (list_any (is_ticket x.who.session x.ticket) (xs ++ r ∷ [])) (has_one_ticket (xs ++ r ∷ [])) one in
    (other_ticket x r (last xs parts.0), before_last xs r parts.1)
  where
    last : (ys : List Request) → list_any (is_ticket x.who.session x.ticket) (ys ++ r ∷ []) ≡ false → is_ticket x.who.session x.ticket r ≡ false
    last [] none = (none_parts (is_ticket x.who.session x.ticket r) false none).0
    last (y ∷ ys) none =
        last ys (none_parts (is_ticket x.who.session x.ticket y) (list_any (is_ticket x.who.session x.ticket) (ys ++ r ∷ [])) none).1

-- the last of a session

is_itself : (r : Request) → is_other_ticket r.who.session r.ticket r ≡ false
is_itself r =
    ap (λ (x : Bool). not (x && (r.ticket == r.ticket))) (eq-eqb r.who.session r.who.session refl) ∙ ap not (eq-eqb r.ticket r.ticket refl)

-- what goes with a request is of its session
goes_with : (r q : Request) → is_other_ticket r.who.session r.ticket q ≡ false → is_request_of r.who.session q ≡ true
goes_with r q none = go (q.who.session == r.who.session) none
  where
    go : (a : Bool) → not (a && (q.ticket == r.ticket)) ≡ false → a ≡ true
    go true is = refl
    go false is = absurd (true≢false is)

pub none_of_session : (s : ℕ) (qs : List Request) → IsPart (filter (is_request_of s) qs) [] → AllByRecursion (λ q. q.who.session ≢ s) qs
none_of_session s [] is = tt
none_of_session s (q ∷ qs) is = go (q.who.session == s) refl is (none_of_session s qs)
  where
    go : (b : Bool) → (q.who.session == s) ≡ b → IsPart (cond b (q ∷ filter (is_request_of s) qs) (filter (is_request_of s) qs)) []
        → (IsPart (filter (is_request_of s) qs) [] → AllByRecursion (λ q. q.who.session ≢ s) qs) → AllByRecursion (λ q. q.who.session ≢ s) (q ∷ qs)
    go true same is more = absurd is
    go false other is more = ((λ same. false≢true (sym other ∙ eq-eqb q.who.session s same)), more is)

-- one that goes is the last
alone_behind : (r q : Request) (before qs : List Request) → AllByRecursion (λ x. is_other_ticket r.who.session r.ticket x ≡ true) before
    → is_other_ticket r.who.session r.ticket q ≡ false → IsPart (q ∷ qs) (before ++ r ∷ []) → IsPart qs []
alone_behind r q [] qs others goes (inl is) = is.1
alone_behind r q [] qs others goes (inr is) = absurd is
alone_behind r q (x ∷ xs) qs others goes (inl is) =
    absurd (true≢false (sym (ap (is_other_ticket r.who.session r.ticket) is.0 ∙ others.0) ∙ goes))
alone_behind r q (x ∷ xs) qs others goes (inr is) = alone_behind r q xs qs others.1 goes is

pub is_last : (r : Request) (before rs : List Request) → AllByRecursion (λ q. is_other_ticket r.who.session r.ticket q ≡ true) before
    → IsPart (filter (is_request_of r.who.session) rs) (before ++ r ∷ []) → IsLast r rs
is_last r before [] others is = record { before = []; behind = []; its = refl; others = tt; none = tt }
is_last r before (q ∷ qs) others is =
    go (is_other_ticket r.who.session r.ticket q) refl (is_last r before qs others (fewer (is_request_of r.who.session q) is))
  where
    fewer : (b : Bool) → IsPart (cond b (q ∷ filter (is_request_of r.who.session) qs) (filter (is_request_of r.who.session) qs)) (before ++ r ∷ [])
        → IsPart (filter (is_request_of r.who.session) qs) (before ++ r ∷ [])
    fewer true part =
        part_then (filter (is_request_of r.who.session) qs) (q ∷ filter (is_request_of r.who.session) qs) (before ++ r ∷ [])
        (part_more q (filter (is_request_of r.who.session) qs) (filter (is_request_of r.who.session) qs) (part_same (filter (is_request_of r.who.session) qs))) part
    fewer false part = part

    go : (b : Bool) → is_other_ticket r.who.session r.ticket q ≡ b → IsLast r qs → IsLast r (q ∷ qs)
    go true other more = pushed more
      where
        pushed : IsLast r qs → IsLast r (q ∷ qs)
        pushed l = record { before = q ∷ l.before; behind = l.behind; its = ap (λ (xs : List Request). q ∷ xs) l.its; others = (other, l.others); none = l.none }
    go false goes more = record {
      before = [];
      behind = q ∷ qs;
      its = refl;
      others = tt;
      none =
          subst (λ (b : Bool).
          AllByRecursion (λ x. x.who.session ≢ r.who.session)
          (cond b (q ∷ filter (is_other_ticket r.who.session r.ticket) qs) (filter (is_other_ticket r.who.session r.ticket) qs))) (sym goes)
          (all_filtered (λ x. x.who.session ≢ r.who.session) (is_other_ticket r.who.session r.ticket) qs
          (none_of_session r.who.session qs
          (alone_behind r q before (filter (is_request_of r.who.session) qs) others goes
          (subst (λ (b : Bool). IsPart (cond b (q ∷ filter (is_request_of r.who.session) qs) (filter (is_request_of r.who.session) qs)) (before ++ r ∷ []))
          (goes_with r q goes) is))));
    }

-- As the last goes, those before it are the last of what is left.
pub still_last : (r : Request) (before : List Request) (b : Sofar) → IsPart (filter (is_request_of r.who.session) b.state.locks.requests) (before ++ r ∷ [])
    → IsPart (filter (is_request_of r.who.session) (cancels_one r b).state.locks.requests) before
still_last r before b is =
    part_then (filter mine (cancels_one r b).state.locks.requests) (filter mine (filter other b.state.locks.requests)) before
    (part_filtered mine (cancels_one r b).state.locks.requests (filter other b.state.locks.requests) (cancel_part r b))
    (subst (λ (xs : List Request). IsPart xs before) (swapped b.state.locks.requests)
    (part_then (filter other (filter mine b.state.locks.requests)) (filter other (before ++ r ∷ [])) before
    (part_filtered other (filter mine b.state.locks.requests) (before ++ r ∷ []) is)
    (subst (λ (xs : List Request). IsPart xs before) (sym gone) (part_left other before))))
  where
    mine : Request → Bool
    mine = is_request_of r.who.session

    other : Request → Bool
    other = is_other_ticket r.who.session r.ticket

    gone : filter other (before ++ r ∷ []) ≡ filter other before
    gone =
        filter-append other before (r ∷ [])
        ∙ ap (λ (b : Bool). filter other before ++ cond b (r ∷ []) []) (is_itself r)
        ∙ append-nil (filter other before)

    swapped : (xs : List Request) → filter other (filter mine xs) ≡ filter mine (filter other xs)
    swapped [] = refl
    swapped (x ∷ xs) = go (mine x) refl (other x) refl (swapped xs)
      where
        go : (a : Bool) → mine x ≡ a → (c : Bool) → other x ≡ c → filter other (filter mine xs) ≡ filter mine (filter other xs)
            → filter other (cond a (x ∷ filter mine xs) (filter mine xs)) ≡ filter mine (cond c (x ∷ filter other xs) (filter other xs))
        go true a true c more =
            ap (λ (b : Bool). cond b (x ∷ filter other (filter mine xs)) (filter other (filter mine xs))) c
            ∙ ap (λ (ys : List Request). x ∷ ys) more
            ∙ sym (ap (λ (b : Bool). cond b (x ∷ filter mine (filter other xs)) (filter mine (filter other xs))) a)
        go true a false c more = ap (λ (b : Bool). cond b (x ∷ filter other (filter mine xs)) (filter other (filter mine xs))) c ∙ more
        go false a true c more = more ∙ sym (ap (λ (b : Bool). cond b (x ∷ filter mine (filter other xs)) (filter mine (filter other xs))) a)
        go false a false c more = more
