-- What a call of the table of locks grants, and what it leaves: no ticket is in both.
use Rattle.std.proofs.Common.{◌≡◌, ℕ, Bool, true, false, ◌&&◌, ◌||◌, cond, List, [], ◌∷◌, ◌++◌, refl, sym, ◌∙◌, ap, subst}
use Rattle.std.specs.Prelude.{◌==◌}
use Rattle.std.specs.List.{AllByRecursion, list_any}
use Rattle.std.proofs.lemmas.Bool.{eq-eqb, eqb-true, or_parts, true≢false}
use Rattle.std.proofs.lemmas.List.{append-nil, append_assoc}
use Rattle.lock_table.specs.declared.rows.Request.{Request}
use Rattle.lock_table.specs.LockWords.{Freed, Locks, is_ticket, pass, passed, waits, with_grant}
use Rattle.cluster_invariant.specs.Served.{has_one_ticket}
use Rattle.cluster_invariant.proofs.AllLists.{all_follow, all_joined}
use Rattle.cluster_invariant.proofs.Parts.{IsPart, part_joined, part_more, part_same, part_then}
use Rattle.cluster_invariant.proofs.RequestParts.{both_of, both_parts, part_none}
use Rattle.asks_kept.proofs.Follows.{none_joined}

-- none of these requests has the ticket of this one
abbrev pub IsApart : List Request → Request → Type 0
IsApart rs g = list_any (is_ticket g.who.session g.ticket) rs ≡ false

-- What is granted, in its order, and what is left: of which sessions and jobs each is, and that they are apart.
pub record GrantsApart (P : Request → Type 0) (f : Freed) (from : List Request) : Type 0 where
  -- what is left is a part of these
  pub left : IsPart f.locks.requests from
  pub each : AllByRecursion P f.grants
  pub apart : AllByRecursion (IsApart f.locks.requests) f.grants

-- a ticket is another's both ways
pub ticket_turned : (q r : Request) → is_ticket q.who.session q.ticket r ≡ is_ticket r.who.session r.ticket q
ticket_turned q r = both (turned r.who.session q.who.session) (turned r.ticket q.ticket)
  where
    turned : (m n : ℕ) → (m == n) ≡ (n == m)
    turned m n = go (m == n) refl (n == m) refl
      where
        go : (a : Bool) → (m == n) ≡ a → (b : Bool) → (n == m) ≡ b → a ≡ b
        go true same true is = refl
        go true same false other = absurd (true≢false (sym (eq-eqb n m (sym (eqb-true m n same))) ∙ other))
        go false other true same = absurd (true≢false (sym (eq-eqb m n (sym (eqb-true n m same))) ∙ other))
        go false other false is = refl

    both : {a b c d : Bool} → a ≡ b → c ≡ d → (a && c) ≡ (b && d)
    both {a} {b} {c} {d} first second = ap (λ (x : Bool). x && c) first ∙ ap (λ (x : Bool). b && x) second

-- the one between two lists has another ticket than all of them
between : (left : List Request) (r : Request) (rs : List Request) → has_one_ticket (left ++ r ∷ rs) ≡ true → IsApart (left ++ rs) r × (has_one_ticket (left ++ rs) ≡ true)
between [] r rs one = both_parts (list_any (is_ticket r.who.session r.ticket) rs) (has_one_ticket rs) one
between (q ∷ left) r rs one =
    let parts : (list_any (is_ticket q.who.session q.ticket) (left ++ r ∷ rs) ≡ false) × (has_one_ticket (left ++ r ∷ rs) ≡ true) =
    both_parts (list_any (is_ticket q.who.session q.ticket) (left ++ r ∷ rs)) (has_one_ticket (left ++ r ∷ rs)) one in
    let more : IsApart (left ++ rs) r × (has_one_ticket (left ++ rs) ≡ true) = between left r rs parts.1 in (
      ap (λ (b : Bool). b || list_any (is_ticket r.who.session r.ticket) (left ++ rs)) (ticket_turned r q ∙ at left parts.0) ∙ more.0,
      both_of (list_any (is_ticket q.who.session q.ticket) (left ++ rs)) (has_one_ticket (left ++ rs))
          (part_none (is_ticket q.who.session q.ticket) (left ++ rs) (left ++ r ∷ rs) (part_joined left rs (r ∷ rs) (part_more r rs rs (part_same rs))) parts.0) more.1,
    )
  where
    at : (xs : List Request) → list_any (is_ticket q.who.session q.ticket) (xs ++ r ∷ rs) ≡ false → is_ticket q.who.session q.ticket r ≡ false
    at [] none = (or_parts (is_ticket q.who.session q.ticket r) (list_any (is_ticket q.who.session q.ticket) rs) none).0
    at (x ∷ xs) none = at xs (or_parts (is_ticket q.who.session q.ticket x) (list_any (is_ticket q.who.session q.ticket) (xs ++ r ∷ rs)) none).1

-- those that are apart from some are apart from a part of them
fewer_apart : (xs ys gs : List Request) → IsPart xs ys → AllByRecursion (IsApart ys) gs → AllByRecursion (IsApart xs) gs
fewer_apart xs ys gs part all = all_follow (IsApart ys) (IsApart xs) (λ (g : Request) none. part_none (is_ticket g.who.session g.ticket) xs ys part none) gs all

module _ (P : Request → Type 0) where
  -- a pass grants such as it goes through, apart from what it leaves
  pub pass_apart : (l : Locks) (left given rs : List Request) (at : ℕ) → has_one_ticket (left ++ rs) ≡ true → AllByRecursion P given → AllByRecursion P rs
      → AllByRecursion (IsApart (left ++ rs)) given → GrantsApart P (pass l left given rs at) (left ++ rs)
  pass_apart l left given [] at one such rest apart = record {
    left = subst (IsPart left) (sym (append-nil left)) (part_same left);
    each = such;
    apart = subst (λ (xs : List Request). AllByRecursion (IsApart xs) given) (append-nil left) apart;
  }
  pass_apart l left given (r ∷ rs) at one such rest apart =
      go (waits l.holds left r)
      (subst (λ (xs : List Request). GrantsApart P (pass l (left ++ r ∷ []) given rs at) xs) (append_assoc left (r ∷ []) rs)
      (pass_apart l (left ++ r ∷ []) given rs at (subst (λ (xs : List Request). has_one_ticket xs ≡ true) (sym (append_assoc left (r ∷ []) rs)) one) such rest.1
      (subst (λ (xs : List Request). AllByRecursion (IsApart xs) given) (sym (append_assoc left (r ∷ []) rs)) apart)))
      (wider (pass_apart (with_grant l r at) left (given ++ r ∷ []) rs at (between left r rs one).1 (all_joined P given (r ∷ []) such (rest.0, tt)) rest.1
      (all_joined (IsApart (left ++ rs)) given (r ∷ []) (fewer_apart (left ++ rs) (left ++ r ∷ rs) given fewer apart) ((between left r rs one).0, tt))))
    where
      fewer : IsPart (left ++ rs) (left ++ r ∷ rs)
      fewer = part_joined left rs (r ∷ rs) (part_more r rs rs (part_same rs))

      wider : GrantsApart P (pass (with_grant l r at) left (given ++ r ∷ []) rs at) (left ++ rs)
          → GrantsApart P (pass (with_grant l r at) left (given ++ r ∷ []) rs at) (left ++ r ∷ rs)
      wider g = record { left = part_then _ (left ++ rs) (left ++ r ∷ rs) g.left fewer; each = g.each; apart = g.apart }

      go : (b : Bool) → GrantsApart P (pass l (left ++ r ∷ []) given rs at) (left ++ r ∷ rs)
          → GrantsApart P (pass (with_grant l r at) left (given ++ r ∷ []) rs at) (left ++ r ∷ rs)
          → GrantsApart P (cond b (pass l (left ++ r ∷ []) given rs at) (pass (with_grant l r at) left (given ++ r ∷ []) rs at)) (left ++ r ∷ rs)
      go true a b = a
      go false a b = b

  -- A pass through all that wait.
  pub passed_apart : (l : Locks) (at : ℕ) → has_one_ticket l.requests ≡ true → AllByRecursion P l.requests → GrantsApart P (passed l at) l.requests
  passed_apart l at one all = pass_apart l [] [] l.requests at one tt all tt

-- a request more has another ticket than those that wait
pub ticket_pushed : (rs : List Request) (r : Request) → IsApart rs r → has_one_ticket rs ≡ true → has_one_ticket (rs ++ r ∷ []) ≡ true
ticket_pushed [] r apart one = refl
ticket_pushed (q ∷ rs) r apart one =
    let parts : (list_any (is_ticket q.who.session q.ticket) rs ≡ false) × (has_one_ticket rs ≡ true) =
    both_parts (list_any (is_ticket q.who.session q.ticket) rs) (has_one_ticket rs) one in
    let here : (is_ticket r.who.session r.ticket q ≡ false) × (list_any (is_ticket r.who.session r.ticket) rs ≡ false) =
    or_parts (is_ticket r.who.session r.ticket q) (list_any (is_ticket r.who.session r.ticket) rs) apart in
    both_of (list_any (is_ticket q.who.session q.ticket) (rs ++ r ∷ [])) (has_one_ticket (rs ++ r ∷ []))
    (none_joined (is_ticket q.who.session q.ticket) rs (r ∷ []) parts.0 (ap (λ (b : Bool). b || false) (ticket_turned q r ∙ here.0)))
    (ticket_pushed rs r here.1 parts.1)
