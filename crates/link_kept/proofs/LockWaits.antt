-- Each call of the table of locks leaves every request waiting, if no holder has two requests.
use Rattle.std.proofs.Common.{◌≡◌, ℕ, ◌+◌, Bool, true, false, ◌&&◌, ◌||◌, not, cond, List, [], ◌∷◌, ◌++◌, filter, refl, sym, ◌∙◌, ap, subst}
use Rattle.std.specs.Prelude.{◌==◌}
use Rattle.std.specs.List.{list_any}
use Rattle.std.proofs.lemmas.Bool.{true≢false, false≢true, or_parts, eqb-true, eq-eqb, ne_eqb}
use Rattle.std.proofs.lemmas.List.{append_assoc, append-nil}
use Rattle.plain_orders.specs.declared.mode.Mode.{Mode}
use Rattle.lock_table.specs.declared.rows.Hold.{Hold}
use Rattle.lock_table.specs.declared.rows.Request.{Request}
use Rattle.lock_table.specs.declared.rows.Who.{Who}
use Rattle.lock_table.specs.LockWords.{Locks, Freed, is_same_who, is_same_name, is_lane, bars, has_name, goes_before, waits, raised, lowered, with_grant, pass, passed, asked, freed, claimed, is_other_ticket, is_request_elsewhere, is_hold_elsewhere, without_request, without_ticket, without_grant, without_session}
use Rattle.cluster_invariant.specs.Served.{AllWait, is_of_who, has_one_each}

-- holds that rise

any_raised : (p : Hold → Bool) → ((h : Hold) (n : ℕ) → p (record h { count = n }) ≡ p h) → (who : Who) (name : List ℕ) (mode : Mode) (more at : ℕ) (hs : List Hold)
    → list_any p hs ≡ true → list_any p (raised who name mode more at hs) ≡ true
any_raised p same who name mode more at [] is = absurd (false≢true is)
any_raised p same who name mode more at (h ∷ hs) is = by (is_lane who name mode h) (p h) refl is (any_raised p same who name mode more at hs)
  where
    by : (b d : Bool) → p h ≡ d → (d || list_any p hs) ≡ true → (list_any p hs ≡ true → list_any p (raised who name mode more at hs) ≡ true)
        → list_any p (cond b (record h { count = h.count + more } ∷ hs) (h ∷ raised who name mode more at hs)) ≡ true
    by true d its all up = ap (λ (x : Bool). x || list_any p hs) (same h (h.count + more) ∙ its) ∙ all
    by false true its all up = ap (λ (x : Bool). x || list_any p (raised who name mode more at hs)) its
    by false false its all up =
        ap (λ (x : Bool). x || list_any p (raised who name mode more at hs)) its ∙ up all

none_raised : (q : Request) (who : Who) (name : List ℕ) (mode : Mode) (more at : ℕ) (hs : List Hold) → is_same_who q.who who ≡ false
    → list_any (has_name q) hs ≡ false → list_any (has_name q) (raised who name mode more at hs) ≡ false
none_raised q who name mode more at [] other none = ap (λ (b : Bool). (b && is_same_name q.name name) || false) other
none_raised q who name mode more at (h ∷ hs) other none =
    let parts : (has_name q h ≡ false) × (list_any (has_name q) hs ≡ false) = or_parts (has_name q h) (list_any (has_name q) hs) none in
    go (is_lane who name mode h) parts.0 parts.1 (none_raised q who name mode more at hs other parts.1)
  where
    go : (b : Bool) → has_name q h ≡ false → list_any (has_name q) hs ≡ false → list_any (has_name q) (raised who name mode more at hs) ≡ false
        → list_any (has_name q) (cond b (record h { count = h.count + more } ∷ hs) (h ∷ raised who name mode more at hs)) ≡ false
    go true first rest up = ap (λ (b : Bool). b || list_any (has_name q) hs) first ∙ rest
    go false first rest up = ap (λ (b : Bool). b || list_any (has_name q) (raised who name mode more at hs)) first ∙ up

-- a request waits still as a hold of another holder rises
waits_raised : (q : Request) (who : Who) (name : List ℕ) (mode : Mode) (more at : ℕ) (hs : List Hold) (earlier : List Request) → is_same_who q.who who ≡ false
    → waits hs earlier q ≡ true → waits (raised who name mode more at hs) earlier q ≡ true
waits_raised q who name mode more at hs earlier other is = go (list_any (bars q) hs) refl is
  where
    second : (a b c : Bool) → (not a && b) ≡ true → (a ≡ false → c ≡ false) → (not c && b) ≡ true
    second true b c is f = absurd (false≢true is)
    second false b c is f = ap (λ (x : Bool). not x && b) (f refl) ∙ is

    or_right : (a b : Bool) → b ≡ true → (a || b) ≡ true
    or_right true b is = refl
    or_right false b is = is

    go : (b : Bool) → list_any (bars q) hs ≡ b → (b || (not (list_any (has_name q) hs) && list_any (goes_before q) earlier)) ≡ true
        → waits (raised who name mode more at hs) earlier q ≡ true
    go true barred it = ap (λ (x : Bool). x || (not (list_any (has_name q) (raised who name mode more at hs)) && list_any (goes_before q) earlier)) (any_raised (bars q) (λ h n. refl) who name mode more at hs barred)
    go false free it =
        or_right (list_any (bars q) (raised who name mode more at hs)) (not (list_any (has_name q) (raised who name mode more at hs)) && list_any (goes_before q) earlier)
        (second (list_any (has_name q) hs) (list_any (goes_before q) earlier) (list_any (has_name q) (raised who name mode more at hs)) it
        (none_raised q who name mode more at hs other))

-- lists of requests

-- no request of the holder
abbrev pub IsAlone : Who → List Request → Type 0
IsAlone who rs = list_any (is_of_who who) rs ≡ false

pub wait_raised : (who : Who) (name : List ℕ) (mode : Mode) (more at : ℕ) (hs : List Hold) (earlier rs : List Request) → IsAlone who rs → AllWait hs earlier rs
    → AllWait (raised who name mode more at hs) earlier rs
wait_raised who name mode more at hs earlier [] alone is = tt
wait_raised who name mode more at hs earlier (r ∷ rs) alone is =
    let parts : (is_same_who r.who who ≡ false) × IsAlone who rs = or_parts (is_of_who who r) (list_any (is_of_who who) rs) alone in
    (waits_raised r who name mode more at hs earlier parts.0 is.0, wait_raised who name mode more at hs (earlier ++ r ∷ []) rs parts.1 is.1)

pub wait_pushed : (hs : List Hold) (earlier rs : List Request) (r : Request) → AllWait hs earlier rs → waits hs (earlier ++ rs) r ≡ true → AllWait hs earlier (rs ++ r ∷ [])
wait_pushed hs earlier [] r is last = (subst (λ (l : List Request). waits hs l r ≡ true) (append-nil earlier) last, tt)
wait_pushed hs earlier (q ∷ rs) r is last =
    (is.0, wait_pushed hs (earlier ++ q ∷ []) rs r is.1 (subst (λ (l : List Request). waits hs l r ≡ true) (sym (append_assoc earlier (q ∷ []) rs)) last))

-- the first of two lists without the one between

and_parts : (a b : Bool) → (not a && b) ≡ true → (a ≡ false) × (b ≡ true)
and_parts true b is = absurd (false≢true is)
and_parts false b is = (refl, is)

and_both : (a b : Bool) → a ≡ false → b ≡ true → (not a && b) ≡ true
and_both a b none is = ap (λ (x : Bool). not x && b) none ∙ is

any_joined : (p : Request → Bool) (xs ys : List Request) → list_any p (xs ++ ys) ≡ false → (list_any p xs ≡ false) × (list_any p ys ≡ false)
any_joined p [] ys none = (refl, none)
any_joined p (x ∷ xs) ys none =
    let parts : (p x ≡ false) × (list_any p (xs ++ ys) ≡ false) = or_parts (p x) (list_any p (xs ++ ys)) none in
    let more : (list_any p xs ≡ false) × (list_any p ys ≡ false) = any_joined p xs ys parts.1 in
    (ap (λ (b : Bool). b || list_any p xs) parts.0 ∙ more.0, more.1)

any_both : (p : Request → Bool) (xs ys : List Request) → list_any p xs ≡ false → list_any p ys ≡ false → list_any p (xs ++ ys) ≡ false
any_both p [] ys a b = b
any_both p (x ∷ xs) ys a b =
    let parts : (p x ≡ false) × (list_any p xs ≡ false) = or_parts (p x) (list_any p xs) a in
    ap (λ (c : Bool). c || list_any p (xs ++ ys)) parts.0 ∙ any_both p xs ys parts.1 b

who_turned : (a b : Who) → is_same_who a b ≡ is_same_who b a
who_turned a b = ap (λ (x : Bool). x && (a.job == b.job)) (eqb_turned a.session b.session) ∙ ap (λ (x : Bool). (b.session == a.session) && x) (eqb_turned a.job b.job)
  where
    eqb_turned : (m n : ℕ) → (m == n) ≡ (n == m)
    eqb_turned m n = go (m == n) refl
      where
        go : (b : Bool) → (m == n) ≡ b → b ≡ (n == m)
        go true same = sym (eq-eqb n m (sym (eqb-true m n same)))
        go false other = sym (ne_eqb n m (λ is. true≢false (sym (eq-eqb m n (sym is)) ∙ other)))

-- the one between two lists is of another holder than all of them
pub alone_between : (left : List Request) (r : Request) (rs : List Request) → has_one_each (left ++ r ∷ rs) ≡ true
    → IsAlone r.who left × (has_one_each (left ++ rs) ≡ true)
alone_between [] r rs is =
    let parts : (list_any (is_of_who r.who) rs ≡ false) × (has_one_each rs ≡ true) = and_parts (list_any (is_of_who r.who) rs) (has_one_each rs) is in
    (refl, parts.1)
alone_between (q ∷ left) r rs is =
    let parts : (list_any (is_of_who q.who) (left ++ r ∷ rs) ≡ false) × (has_one_each (left ++ r ∷ rs) ≡ true) =
    and_parts (list_any (is_of_who q.who) (left ++ r ∷ rs)) (has_one_each (left ++ r ∷ rs)) is in
    let more : IsAlone r.who left × (has_one_each (left ++ rs) ≡ true) = alone_between left r rs parts.1 in
    let split : (list_any (is_of_who q.who) left ≡ false) × (list_any (is_of_who q.who) (r ∷ rs) ≡ false) = any_joined (is_of_who q.who) left (r ∷ rs) parts.0 in
    let here : (is_same_who r.who q.who ≡ false) × (list_any (is_of_who q.who) rs ≡ false) = or_parts (is_of_who q.who r) (list_any (is_of_who q.who) rs) split.1 in (
      ap (λ (b : Bool). b || list_any (is_of_who r.who) left) (who_turned q.who r.who ∙ here.0) ∙ more.0,
      and_both (list_any (is_of_who q.who) (left ++ rs)) (has_one_each (left ++ rs)) (any_both (is_of_who q.who) left rs split.0 here.1) more.1,
    )

any_filtered : (p q : Request → Bool) (rs : List Request) → list_any p rs ≡ false → list_any p (filter q rs) ≡ false
any_filtered p q [] none = refl
any_filtered p q (r ∷ rs) none =
    let parts : (p r ≡ false) × (list_any p rs ≡ false) = or_parts (p r) (list_any p rs) none in go (q r) parts.0 (any_filtered p q rs parts.1)
  where
    go : (b : Bool) → p r ≡ false → list_any p (filter q rs) ≡ false → list_any p (cond b (r ∷ filter q rs) (filter q rs)) ≡ false
    go true first rest = ap (λ (c : Bool). c || list_any p (filter q rs)) first ∙ rest
    go false first rest = rest

pub one_filtered : (q : Request → Bool) (rs : List Request) → has_one_each rs ≡ true → has_one_each (filter q rs) ≡ true
one_filtered q [] is = refl
one_filtered q (r ∷ rs) is =
    let parts : (list_any (is_of_who r.who) rs ≡ false) × (has_one_each rs ≡ true) = and_parts (list_any (is_of_who r.who) rs) (has_one_each rs) is in
    go (q r) (any_filtered (is_of_who r.who) q rs parts.0) (one_filtered q rs parts.1)
  where
    go : (b : Bool) → list_any (is_of_who r.who) (filter q rs) ≡ false → has_one_each (filter q rs) ≡ true → has_one_each (cond b (r ∷ filter q rs) (filter q rs)) ≡ true
    go true none rest = and_both (list_any (is_of_who r.who) (filter q rs)) (has_one_each (filter q rs)) none rest
    go false none rest = rest

pub one_pushed : (rs : List Request) (r : Request) → IsAlone r.who rs → has_one_each rs ≡ true → has_one_each (rs ++ r ∷ []) ≡ true
one_pushed [] r alone is = refl
one_pushed (q ∷ rs) r alone is =
    let parts : (list_any (is_of_who q.who) rs ≡ false) × (has_one_each rs ≡ true) = and_parts (list_any (is_of_who q.who) rs) (has_one_each rs) is in
    let here : (is_same_who q.who r.who ≡ false) × (list_any (is_of_who r.who) rs ≡ false) = or_parts (is_of_who r.who q) (list_any (is_of_who r.who) rs) alone in
    and_both (list_any (is_of_who q.who) (rs ++ r ∷ [])) (has_one_each (rs ++ r ∷ []))
    (any_both (is_of_who q.who) rs (r ∷ []) parts.0 (ap (λ (b : Bool). b || false) (who_turned r.who q.who ∙ here.0)))
    (one_pushed rs r here.1 parts.1)

-- tables

-- every request waits, and no holder has two
pub record TableWaits (l : Locks) : Type 0 where
  pub wait : AllWait l.holds [] l.requests
  pub one_each : has_one_each l.requests ≡ true

pub pass_waits : (l : Locks) (left grants rs : List Request) (at : ℕ) → AllWait l.holds [] left → has_one_each (left ++ rs) ≡ true
    → TableWaits (pass l left grants rs at).locks
pass_waits l left grants [] at wait one = record { wait = wait; one_each = subst (λ (q : List Request). has_one_each q ≡ true) (append-nil left) one }
pass_waits l left grants (r ∷ rs) at wait one =
    go (waits l.holds left r) refl
    (λ is.
    pass_waits l (left ++ r ∷ []) grants rs at (wait_pushed l.holds [] left r wait is)
    (subst (λ (q : List Request). has_one_each q ≡ true) (sym (append_assoc left (r ∷ []) rs)) one))
    (pass_waits (with_grant l r at) left (grants ++ r ∷ []) rs at (wait_raised r.who r.name r.mode 1 at l.holds [] left (alone_between left r rs one).0 wait)
    (alone_between left r rs one).1)
  where
    go : (b : Bool) → waits l.holds left r ≡ b → (waits l.holds left r ≡ true → TableWaits (pass l (left ++ r ∷ []) grants rs at).locks)
        → TableWaits (pass (with_grant l r at) left (grants ++ r ∷ []) rs at).locks
        → TableWaits (cond b (pass l (left ++ r ∷ []) grants rs at) (pass (with_grant l r at) left (grants ++ r ∷ []) rs at)).locks
    go true is left_over granted = left_over is
    go false is left_over granted = granted

-- A pass leaves them so, however the holds and requests were changed before it.
pub passed_waits : (l : Locks) (at : ℕ) → has_one_each l.requests ≡ true → TableWaits (passed l at).locks
passed_waits l at one = pass_waits l [] [] l.requests at tt one

pub freed_waits : (l : Locks) (who : Who) (name : List ℕ) (mode : Mode) (at : ℕ) → TableWaits l → TableWaits (freed l who name mode at).locks
freed_waits l who name mode at t = passed_waits (record l { holds = lowered who name mode l.holds }) at t.one_each

pub request_waits : (l : Locks) (session ticket at : ℕ) → TableWaits l → TableWaits (without_request l session ticket at).locks
request_waits l session ticket at t =
    passed_waits (record l { requests = filter (is_other_ticket session ticket) l.requests }) at (one_filtered (is_other_ticket session ticket) l.requests t.one_each)

pub grant_waits : (l : Locks) (r : Request) (at : ℕ) → TableWaits l → TableWaits (without_grant l r at).locks
grant_waits l r at t = passed_waits (record (without_ticket l r.who.session r.ticket) { holds = lowered r.who r.name r.mode l.holds }) at t.one_each

pub session_waits : (l : Locks) (session at : ℕ) → TableWaits l → TableWaits (without_session l session at).locks
session_waits l session at t =
    passed_waits (record {
      holds = filter (is_hold_elsewhere session) l.holds;
      requests = filter (is_request_elsewhere session) l.requests;
      granted = filter (is_request_elsewhere session) l.granted;
    }) at (one_filtered (is_request_elsewhere session) l.requests t.one_each)

-- A request of a holder that has none.
pub asked_waits : (l : Locks) (r : Request) (at : ℕ) → IsAlone r.who l.requests → TableWaits l → TableWaits (asked l r at).locks
asked_waits l r at alone t = go (waits l.holds l.requests r) refl
  where
    go : (b : Bool) → waits l.holds l.requests r ≡ b
        → TableWaits (let f : Freed = cond b (record { locks = record l { requests = l.requests ++ r ∷ [] }; grants = [] }) (record { locks = with_grant l r at; grants = r ∷ [] }) in f.locks)
    go true is = record { wait = wait_pushed l.holds [] l.requests r t.wait is; one_each = one_pushed l.requests r alone t.one_each }
    go false is = record { wait = wait_raised r.who r.name r.mode 1 at l.holds [] l.requests alone t.wait; one_each = t.one_each }

-- A claim of a holder that has no request.
pub claimed_waits : (l : Locks) (who : Who) (name : List ℕ) (mode : Mode) (count at : ℕ) → IsAlone who l.requests → TableWaits l
    → TableWaits (claimed l who name mode count at)
claimed_waits l who name mode count at alone t =
    record { wait = wait_raised who name mode count at l.holds [] l.requests alone t.wait; one_each = t.one_each }
