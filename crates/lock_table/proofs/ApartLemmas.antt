-- Each change of a table keeps the holds of different holders apart.
use Rattle.std.proofs.Common.{◌≡◌, ℕ, ◌+◌, ◌-◌, Bool, true, false, not, ◌&&◌, ◌||◌, cond, eqb, List, [], ◌∷◌, ◌++◌, refl, sym, ◌∙◌, ap, ⊎_elim}
use Rattle.std.specs.List.{filter, list_any}
use Rattle.std.proofs.Math.Bool.{or_comm}
use Rattle.std.proofs.lemmas.Bool.{or_parts, eq-eqb, ne_eqb}
use Rattle.std.proofs.lemmas.Bool.Decides.{eqb_tells}
use Rattle.plain_orders.specs.declared.mode.Mode.{Mode}
use Rattle.plain_orders.specs.declared.mode.Mode.TheVariants.{Exclusive, Shared}
use Rattle.plain_orders.specs.Conflict.{modes_conflict, names_overlap, is_conflict}
use Rattle.plain_orders.specs.PairMap.{is_under}
use Rattle.lock_table.specs.declared.rows.Hold.{Hold}
use Rattle.lock_table.specs.declared.rows.Request.{Request}
use Rattle.lock_table.specs.declared.rows.Who.{Who}
use Rattle.lock_table.specs.LockWords.{Locks, Freed, is_same_who, is_lane, bars, has_name, goes_before, waits, raised, lowered, with_grant, pass, asked, is_barred, is_hold_elsewhere, is_request_elsewhere, is_other_ticket, without_ticket}
use Rattle.lock_table.specs.LockLaws.{AreApart, KeepsApart}

eqb_sym : (a b : ℕ) → eqb a b ≡ eqb b a
eqb_sym a b = ⊎_elim (λ p. p.0 ∙ sym (eq-eqb b a (sym p.1))) (λ p. p.0 ∙ sym (ne_eqb b a (λ e. p.1 (sym e)))) (eqb_tells a b)

who_sym : (a b : Who) → is_same_who a b ≡ is_same_who b a
who_sym a b = ap (λ (x : Bool). x && eqb a.job b.job) (eqb_sym a.session b.session) ∙ ap (λ (x : Bool). eqb b.session a.session && x) (eqb_sym a.job b.job)

modes_sym : (m k : Mode) → modes_conflict m k ≡ modes_conflict k m
modes_sym Exclusive Exclusive = refl
modes_sym Exclusive Shared = refl
modes_sym Shared Exclusive = refl
modes_sym Shared Shared = refl

conflict_sym : (m : Mode) (n : List ℕ) (k : Mode) (o : List ℕ) → is_conflict m n k o ≡ is_conflict k o m n
conflict_sym m n k o =
    ap (λ (x : Bool). x && names_overlap n o) (modes_sym m k) ∙ ap (λ (x : Bool). modes_conflict k m && x) (or_comm (is_under n o) (is_under o n))

-- a hold bars a claim where the claim would bar the hold
bar_sym : (who : Who) (name : List ℕ) (mode : Mode) (count at : ℕ) (h : Hold) → is_barred h.who h.name h.mode (record { who = who; name = name; mode = mode; count = count; at = at }) ≡ is_barred who name mode h
bar_sym who name mode count at h =
    ap (λ (x : Bool). not x && is_conflict h.mode h.name mode name) (who_sym h.who who) ∙ ap (λ (x : Bool). not (is_same_who who h.who) && x) (conflict_sym h.mode h.name mode name)

none_of_both : (x y : Bool) → x ≡ false → y ≡ false → (x || y) ≡ false
none_of_both x y e f = rw e f

raised_bars : (w : Who) (n : List ℕ) (m : Mode) (who : Who) (name : List ℕ) (mode : Mode) (more at : ℕ) (hs : List Hold) → list_any (is_barred w n m) hs ≡ false → is_barred w n m (record { who = who; name = name; mode = mode; count = more; at = at }) ≡ false → list_any (is_barred w n m) (raised who name mode more at hs) ≡ false
raised_bars w n m who name mode more at [] none new = none_of_both _ false new refl
raised_bars w n m who name mode more at (h ∷ hs) none new =
    let parts = or_parts (is_barred w n m h) (list_any (is_barred w n m) hs) none in
    cases (is_lane who name mode h) parts.0 parts.1 (raised_bars w n m who name mode more at hs parts.1 new)
  where
    cases : (b : Bool) → is_barred w n m h ≡ false → list_any (is_barred w n m) hs ≡ false → list_any (is_barred w n m) (raised who name mode more at hs) ≡ false → list_any (is_barred w n m) (cond b (record h { count = h.count + more } ∷ hs) (h ∷ raised who name mode more at hs)) ≡ false
    cases true first rest up = none_of_both (is_barred w n m h) _ first rest
    cases false first rest up = none_of_both (is_barred w n m h) _ first up

pub apart_raised : (who : Who) (name : List ℕ) (mode : Mode) (more at : ℕ) (hs : List Hold) → AreApart hs → list_any (is_barred who name mode) hs ≡ false → AreApart (raised who name mode more at hs)
apart_raised who name mode more at [] apart none = (refl, tt)
apart_raised who name mode more at (h ∷ hs) apart none =
    let parts = or_parts (is_barred who name mode h) (list_any (is_barred who name mode) hs) none in
    cases (is_lane who name mode h)
    (raised_bars h.who h.name h.mode who name mode more at hs apart.0 (bar_sym who name mode more at h ∙ parts.0))
    (apart_raised who name mode more at hs apart.1 parts.1)
  where
    cases : (b : Bool) → list_any (is_barred h.who h.name h.mode) (raised who name mode more at hs) ≡ false → AreApart (raised who name mode more at hs) → AreApart (cond b (record h { count = h.count + more } ∷ hs) (h ∷ raised who name mode more at hs))
    cases true first rest = apart
    cases false first rest = (first, rest)

lowered_bars : (w : Who) (n : List ℕ) (m : Mode) (who : Who) (name : List ℕ) (mode : Mode) (hs : List Hold) → list_any (is_barred w n m) hs ≡ false → list_any (is_barred w n m) (lowered who name mode hs) ≡ false
lowered_bars w n m who name mode [] none = none
lowered_bars w n m who name mode (h ∷ hs) none =
    let parts = or_parts (is_barred w n m h) (list_any (is_barred w n m) hs) none in
    cases (is_lane who name mode h) (eqb h.count 1) parts.0 parts.1 (lowered_bars w n m who name mode hs parts.1)
  where
    cases : (b c : Bool) → is_barred w n m h ≡ false → list_any (is_barred w n m) hs ≡ false → list_any (is_barred w n m) (lowered who name mode hs) ≡ false → list_any (is_barred w n m) (cond b (cond c hs (record h { count = h.count - 1 } ∷ hs)) (h ∷ lowered who name mode hs)) ≡ false
    cases true true first rest down = rest
    cases true false first rest down = none_of_both (is_barred w n m h) _ first rest
    cases false c first rest down = none_of_both (is_barred w n m h) _ first down

pub apart_lowered : (who : Who) (name : List ℕ) (mode : Mode) (hs : List Hold) → AreApart hs → AreApart (lowered who name mode hs)
apart_lowered who name mode [] apart = tt
apart_lowered who name mode (h ∷ hs) apart =
    cases (is_lane who name mode h) (eqb h.count 1) (lowered_bars h.who h.name h.mode who name mode hs apart.0) (apart_lowered who name mode hs apart.1)
  where
    cases : (b c : Bool) → list_any (is_barred h.who h.name h.mode) (lowered who name mode hs) ≡ false → AreApart (lowered who name mode hs) → AreApart (cond b (cond c hs (record h { count = h.count - 1 } ∷ hs)) (h ∷ lowered who name mode hs))
    cases true true first rest = apart.1
    cases true false first rest = apart
    cases false c first rest = (first, rest)

filter_none : (p q : Hold → Bool) (hs : List Hold) → list_any p hs ≡ false → list_any p (filter q hs) ≡ false
filter_none p q [] none = refl
filter_none p q (h ∷ hs) none =
    let parts = or_parts (p h) (list_any p hs) none in cases (q h) parts.0 (filter_none p q hs parts.1)
  where
    cases : (b : Bool) → p h ≡ false → list_any p (filter q hs) ≡ false → list_any p (cond b (h ∷ filter q hs) (filter q hs)) ≡ false
    cases true first rest = none_of_both (p h) _ first rest
    cases false first rest = rest

pub apart_filtered : (q : Hold → Bool) (hs : List Hold) → AreApart hs → AreApart (filter q hs)
apart_filtered q [] apart = tt
apart_filtered q (h ∷ hs) apart =
    cases (q h) (filter_none (is_barred h.who h.name h.mode) q hs apart.0) (apart_filtered q hs apart.1)
  where
    cases : (b : Bool) → list_any (is_barred h.who h.name h.mode) (filter q hs) ≡ false → AreApart (filter q hs) → AreApart (cond b (h ∷ filter q hs) (filter q hs))
    cases true first rest = (first, rest)
    cases false first rest = rest

-- a request that doesn't wait is barred by no hold
apart_grant : (l : Locks) (left : List Request) (r : Request) (at : ℕ) → AreApart l.holds → waits l.holds left r ≡ false → AreApart (with_grant l r at).holds
apart_grant l left r at apart none =
    let parts = or_parts (list_any (bars r) l.holds) (not (list_any (has_name r) l.holds) && list_any (goes_before r) left) none in
    apart_raised r.who r.name r.mode 1 at l.holds apart parts.0

pub apart_pass : (l : Locks) (left grants rs : List Request) (at : ℕ) → AreApart l.holds → AreApart (pass l left grants rs at).locks.holds
apart_pass l left grants [] at apart = apart
apart_pass l left grants (r ∷ rs) at apart =
    cases (waits l.holds left r) refl (apart_pass l (left ++ r ∷ []) grants rs at apart) (λ none. apart_pass (with_grant l r at) left (grants ++ r ∷ []) rs at (apart_grant l left r at apart none))
  where
    cases : (b : Bool) → waits l.holds left r ≡ b → AreApart (pass l (left ++ r ∷ []) grants rs at).locks.holds → (waits l.holds left r ≡ false → AreApart (pass (with_grant l r at) left (grants ++ r ∷ []) rs at).locks.holds) → AreApart (cond b (pass l (left ++ r ∷ []) grants rs at) (pass (with_grant l r at) left (grants ++ r ∷ []) rs at)).locks.holds
    cases true e kept made = kept
    cases false e kept made = made e

apart_asked : (l : Locks) (r : Request) (at : ℕ) → AreApart l.holds → AreApart (asked l r at).locks.holds
apart_asked l r at apart = cases (waits l.holds l.requests r) refl
  where
    cases : (b : Bool) → waits l.holds l.requests r ≡ b → AreApart (let f : Freed = cond b (record { locks = record l { requests = l.requests ++ r ∷ [] }; grants = [] }) (record { locks = with_grant l r at; grants = r ∷ [] }) in f.locks.holds)
    cases true e = apart
    cases false e = apart_grant l l.requests r at apart e

pub keeps_apart : (l : Locks) → AreApart l.holds → KeepsApart l
keeps_apart l apart = record {
  ask = λ r at. apart_asked l r at apart;
  free = λ who name mode at. apart_pass (record l { holds = lowered who name mode l.holds }) [] [] l.requests at (apart_lowered who name mode l.holds apart);
  cancel = λ session ticket at. apart_pass (record l { requests = filter (is_other_ticket session ticket) l.requests }) [] [] (filter (is_other_ticket session ticket) l.requests) at apart;
  give_back = λ r at. apart_pass (record (without_ticket l r.who.session r.ticket) { holds = lowered r.who r.name r.mode l.holds }) [] [] l.requests at (apart_lowered r.who r.name r.mode l.holds apart);
  drop_session = λ session at.
      apart_pass (record {
        holds = filter (is_hold_elsewhere session) l.holds;
        requests = filter (is_request_elsewhere session) l.requests;
        granted = filter (is_request_elsewhere session) l.granted;
      }) [] [] (filter (is_request_elsewhere session) l.requests) at (apart_filtered (is_hold_elsewhere session) l.holds apart);
  claim = λ who name mode count at none. apart_raised who name mode count at l.holds apart none;
}
