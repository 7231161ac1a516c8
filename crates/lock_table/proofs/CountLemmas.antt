-- What each change of a table does to the counts, so that they stay below 2^32.
use Rattle.std.proofs.Common.{◌≡◌, ℕ, ◌+◌, ◌-◌, ◌^◌, ◌<◌, ◌≤◌, Bool, true, false, ◌&&◌, cond, eqb, List, [], ◌∷◌, ◌++◌, length, get_or, refl, sym, ◌∙◌, ap, subst, arith}
use Rattle.std.specs.List.{remove, filter, sum_by}
use Rattle.std.specs.Cmp.Lexicographic.{pointwise}
use Rattle.std.proofs.lemmas.Bool.{and_parts, eqb-true, eq-eqb}
use Rattle.std.proofs.lemmas.List.Sums.{sum_by-cons, sum_by_push, sum_by-remove}
use Rattle.plain_orders.specs.declared.mode.Mode.{Mode}
use Rattle.plain_orders.specs.declared.mode.Mode.TheVariants.{Exclusive, Shared}
use Rattle.lock_table.specs.declared.rows.Hold.{Hold}
use Rattle.lock_table.specs.declared.rows.Request.{Request}
use Rattle.lock_table.specs.declared.rows.Who.{Who}
use Rattle.lock_table.specs.LockWords.{is_same_who, is_same_name, is_same_mode, is_lane, raised, lowered}
use Rattle.lock_table.specs.Counts.{is_same_lane, count_in, held_count, is_lane_request, request_count, total_count, FitCounts}

-- three equal parts
pub record AreSame (w : Who) (n : List ℕ) (m : Mode) (who : Who) (name : List ℕ) (mode : Mode) : Type 0 where
  pub holder : w ≡ who
  pub named : n ≡ name
  pub in_mode : m ≡ mode

pub names_same : (n k : List ℕ) → is_same_name n k ≡ true → n ≡ k
names_same [] [] e = refl
names_same [] (y ∷ ys) e = cc
names_same (x ∷ xs) [] e = cc
names_same (x ∷ xs) (y ∷ ys) e =
    let p = and_parts (eqb x y) (pointwise eqb xs ys) e in
    ap (λ (z : ℕ). z ∷ xs) (eqb-true x y p.0) ∙ ap (λ (zs : List ℕ). y ∷ zs) (names_same xs ys p.1)

modes_same : (m k : Mode) → is_same_mode m k ≡ true → m ≡ k
modes_same Exclusive Exclusive e = refl
modes_same Exclusive Shared e = cc
modes_same Shared Exclusive e = cc
modes_same Shared Shared e = refl

whos_same : (w v : Who) → is_same_who w v ≡ true → w ≡ v
whos_same w v e =
    let p = and_parts (eqb w.session v.session) (eqb w.job v.job) e in
    ap (λ (s : ℕ). record w { session = s }) (eqb-true w.session v.session p.0) ∙ ap (λ (j : ℕ). record v { job = j }) (eqb-true w.job v.job p.1)

pub lanes_same : (w : Who) (n : List ℕ) (m : Mode) (who : Who) (name : List ℕ) (mode : Mode) → is_same_lane w n m who name mode ≡ true → AreSame w n m who name mode
lanes_same w n m who name mode e =
    let p = and_parts (is_same_who w who && is_same_name n name) (is_same_mode m mode) e in
    let q = and_parts (is_same_who w who) (is_same_name n name) p.0 in
    record { holder = whos_same w who q.0; named = names_same n name q.1; in_mode = modes_same m mode p.1 }

pub name_itself : (n : List ℕ) → is_same_name n n ≡ true
name_itself [] = refl
name_itself (x ∷ xs) = rw (eq-eqb x x refl) (name_itself xs)

mode_itself : (m : Mode) → is_same_mode m m ≡ true
mode_itself Exclusive = refl
mode_itself Shared = refl

who_itself : (w : Who) → is_same_who w w ≡ true
who_itself w = rw (eq-eqb w.session w.session refl) (eq-eqb w.job w.job refl)

pub lane_itself : (w : Who) (n : List ℕ) (m : Mode) → is_same_lane w n m w n m ≡ true
lane_itself w n m = rw (who_itself w, name_itself n) (mode_itself m)

-- a hold of one lane is in another where the lanes are the same
pub same_hold : (w : Who) (n : List ℕ) (m : Mode) (who : Who) (name : List ℕ) (mode : Mode) (h : Hold) → is_lane who name mode h ≡ true → is_lane w n m h ≡ is_same_lane w n m who name mode
same_hold w n m who name mode h e =
    let p : AreSame who name mode h.who h.name h.mode = lanes_same who name mode h.who h.name h.mode e in
    sym (ap (λ (x : Who). is_same_lane w n m x name mode) p.holder ∙ ap (λ (x : List ℕ). is_same_lane w n m h.who x mode) p.named ∙ ap (λ (x : Mode). is_same_lane w n m h.who h.name x) p.in_mode)

raised_here : (b s : Bool) (c more sum : ℕ) → b ≡ s → cond b (c + more) 0 + sum ≡ cond b c 0 + sum + cond s more 0
raised_here false false c more sum same = omega arith
raised_here true true c more sum same = omega arith
raised_here false true c more sum same = cc
raised_here true false c more sum same = cc

raised_step : (w : Who) (n : List ℕ) (m : Mode) (who : Who) (name : List ℕ) (mode : Mode) (more t : ℕ) (h : Hold) (hs : List Hold) (b : Bool) → (b ≡ true → is_lane w n m h ≡ is_same_lane w n m who name mode) → held_count w n m (raised who name mode more t hs) ≡ held_count w n m hs + cond (is_same_lane w n m who name mode) more 0 → held_count w n m (cond b (record h { count = h.count + more } ∷ hs) (h ∷ raised who name mode more t hs)) ≡ held_count w n m (h ∷ hs) + cond (is_same_lane w n m who name mode) more 0
raised_step w n m who name mode more t h hs true same rest =
    rw (sum_by-cons (count_in w n m) (record h { count = h.count + more }) hs, sum_by-cons (count_in w n m) h hs)
    (raised_here (is_lane w n m h) (is_same_lane w n m who name mode) h.count more (held_count w n m hs) (same refl))
raised_step w n m who name mode more t h hs false same rest =
    rw (sum_by-cons (count_in w n m) h (raised who name mode more t hs), sum_by-cons (count_in w n m) h hs) (omega (arith, rest))

-- a raise adds to the count of its lane alone
pub raised_count : (w : Who) (n : List ℕ) (m : Mode) (who : Who) (name : List ℕ) (mode : Mode) (more t : ℕ) (hs : List Hold) → held_count w n m (raised who name mode more t hs) ≡ held_count w n m hs + cond (is_same_lane w n m who name mode) more 0
raised_count w n m who name mode more t [] = omega arith
raised_count w n m who name mode more t (h ∷ hs) =
    raised_step w n m who name mode more t h hs (is_lane who name mode h) (λ e. same_hold w n m who name mode h e) (raised_count w n m who name mode more t hs)

lowered_here : (b : Bool) (c sum : ℕ) → cond b (c - 1) 0 + sum ≤ cond b c 0 + sum
lowered_here true c sum = omega arith
lowered_here false c sum = omega arith

lowered_step : (w : Who) (n : List ℕ) (m : Mode) (who : Who) (name : List ℕ) (mode : Mode) (h : Hold) (hs : List Hold) (b c : Bool) → held_count w n m (lowered who name mode hs) ≤ held_count w n m hs → held_count w n m (cond b (cond c hs (record h { count = h.count - 1 } ∷ hs)) (h ∷ lowered who name mode hs)) ≤ held_count w n m (h ∷ hs)
lowered_step w n m who name mode h hs true true rest = rw (sum_by-cons (count_in w n m) h hs) (omega arith)
lowered_step w n m who name mode h hs true false rest =
    rw (sum_by-cons (count_in w n m) (record h { count = h.count - 1 }) hs, sum_by-cons (count_in w n m) h hs) (lowered_here (is_lane w n m h) h.count (held_count w n m hs))
lowered_step w n m who name mode h hs false c rest =
    rw (sum_by-cons (count_in w n m) h (lowered who name mode hs), sum_by-cons (count_in w n m) h hs) (omega (arith, rest))

-- no count rises where one is lowered
pub lowered_count : (w : Who) (n : List ℕ) (m : Mode) (who : Who) (name : List ℕ) (mode : Mode) (hs : List Hold) → held_count w n m (lowered who name mode hs) ≤ held_count w n m hs
lowered_count w n m who name mode [] = omega arith
lowered_count w n m who name mode (h ∷ hs) =
    lowered_step w n m who name mode h hs (is_lane who name mode h) (eqb h.count 1) (lowered_count w n m who name mode hs)

sum_step : {X : Type 0} (f : X → ℕ) (b : Bool) (x : X) (xs ys : List X) → sum_by f ys ≤ sum_by f xs → sum_by f (cond b (x ∷ ys) ys) ≤ sum_by f (x ∷ xs)
sum_step f true x xs ys le = rw (sum_by-cons f x ys, sum_by-cons f x xs) (omega (arith, le))
sum_step f false x xs ys le = rw (sum_by-cons f x xs) (omega (arith, le))

-- a part has no greater sum
pub sum_filter : {X : Type 0} (f : X → ℕ) (p : X → Bool) (xs : List X) → sum_by f (filter p xs) ≤ sum_by f xs
sum_filter f p [] = omega arith
sum_filter f p (x ∷ xs) = sum_step f (p x) x xs (filter p xs) (sum_filter f p xs)

pub fit_lowered : (who : Who) (name : List ℕ) (mode : Mode) (hs : List Hold) (rs : List Request) → FitCounts hs rs → FitCounts (lowered who name mode hs) rs
fit_lowered who name mode hs rs fit = λ w n m. omega (arith, fit w n m, lowered_count w n m who name mode hs)

pub fit_filtered : (p : Hold → Bool) (q : Request → Bool) (hs : List Hold) (rs : List Request) → FitCounts hs rs → FitCounts (filter p hs) (filter q rs)
fit_filtered p q hs rs fit =
    λ w n m. omega (arith, fit w n m, sum_filter (count_in w n m) p hs, sum_filter (λ (r : Request). cond (is_lane_request w n m r) 1 0) q rs)

pub fit_dropped : (q : Request → Bool) (hs : List Hold) (rs : List Request) → FitCounts hs rs → FitCounts hs (filter q rs)
fit_dropped q hs rs fit = λ w n m. omega (arith, fit w n m, sum_filter (λ (r : Request). cond (is_lane_request w n m r) 1 0) q rs)

-- a lane's total is that of the same lane
total_same : (w : Who) (n : List ℕ) (m : Mode) (who : Who) (name : List ℕ) (mode : Mode) (hs : List Hold) (rs : List Request) → AreSame w n m who name mode → total_count w n m hs rs ≡ total_count who name mode hs rs
total_same w n m who name mode hs rs same =
    ap (λ (x : Who). total_count x n m hs rs) same.holder ∙ ap (λ (x : List ℕ). total_count who x m hs rs) same.named ∙ ap (λ (x : Mode). total_count who name x hs rs) same.in_mode

with_more : (w : Who) (n : List ℕ) (m : Mode) (who : Who) (name : List ℕ) (mode : Mode) (hs : List Hold) (rs : List Request) (more : ℕ) (b : Bool) → is_same_lane w n m who name mode ≡ b → total_count w n m hs rs < 2 ^ 32 → total_count who name mode hs rs + more < 2 ^ 32 → total_count w n m hs rs + cond b more 0 < 2 ^ 32
with_more w n m who name mode hs rs more false e fit room = omega arith
with_more w n m who name mode hs rs more true e fit room =
    let same = total_same w n m who name mode hs rs (lanes_same w n m who name mode e) in rw same room

pub fit_raised : (who : Who) (name : List ℕ) (mode : Mode) (more t : ℕ) (hs : List Hold) (rs : List Request) → FitCounts hs rs → total_count who name mode hs rs + more < 2 ^ 32 → FitCounts (raised who name mode more t hs) rs
fit_raised who name mode more t hs rs fit room =
    λ w n m.
    let up = raised_count w n m who name mode more t hs in
    let most = with_more w n m who name mode hs rs more (is_same_lane w n m who name mode) refl (fit w n m) room in
    below (held_count w n m (raised who name mode more t hs)) (held_count w n m hs) (request_count w n m rs) (cond (is_same_lane w n m who name mode) more 0) up most
  where
    below : (a b c d : ℕ) → a ≡ b + d → b + c + d < 2 ^ 32 → a + c < 2 ^ 32
    below a b c d le lt = omega arith

pub fit_pushed : (hs : List Hold) (rs : List Request) (r : Request) → FitCounts hs rs → total_count r.who r.name r.mode hs rs + 1 < 2 ^ 32 → FitCounts hs (rs ++ r ∷ [])
fit_pushed hs rs r fit room =
    λ w n m.
    let one = sum_by_push (λ (x : Request). cond (is_lane_request w n m x) 1 0) rs r in
    let most = with_more w n m r.who r.name r.mode hs rs 1 (is_same_lane w n m r.who r.name r.mode) refl (fit w n m) room in
    below (held_count w n m hs) (request_count w n m rs) (request_count w n m (rs ++ r ∷ [])) (cond (is_same_lane w n m r.who r.name r.mode) 1 0) one most
  where
    below : (a b c d : ℕ) → c ≡ b + d → a + b + d < 2 ^ 32 → a + c < 2 ^ 32
    below a b c d e lt = omega arith

-- a waiting request counts for its own lane
own_total : (hs : List Hold) (rs : List Request) (k : ℕ) (r : Request) → k < length rs → r ≡ get_or rs k r → request_count r.who r.name r.mode (remove rs k) + 1 ≡ request_count r.who r.name r.mode rs
own_total hs rs k r lt e =
    let gone = sum_by-remove (λ (x : Request). cond (is_lane_request r.who r.name r.mode x) 1 0) rs k r lt in
    let gone2 : request_count r.who r.name r.mode (remove rs k) + cond (is_lane_request r.who r.name r.mode r) 1 0 ≡ request_count r.who r.name r.mode rs =
    subst (λ (x : Request). request_count r.who r.name r.mode (remove rs k) + cond (is_lane_request r.who r.name r.mode x) 1 0 ≡ request_count r.who r.name r.mode rs) (sym e) gone in
    rw (lane_itself r.who r.name r.mode) at gone2

-- a waiting request has room
pub room_to_grant : (hs : List Hold) (rs : List Request) (k : ℕ) (r : Request) → FitCounts hs rs → k < length rs → r ≡ get_or rs k r → held_count r.who r.name r.mode hs + 1 < 2 ^ 32
room_to_grant hs rs k r fit lt e = omega (arith, fit r.who r.name r.mode, own_total hs rs k r lt e)

pub fit_granted : (t : ℕ) (hs : List Hold) (rs : List Request) (k : ℕ) (r : Request) → FitCounts hs rs → k < length rs → r ≡ get_or rs k r → FitCounts (raised r.who r.name r.mode 1 t hs) (remove rs k)
fit_granted t hs rs k r fit lt e =
    λ w n m.
    let up = raised_count w n m r.who r.name r.mode 1 t hs in
    let gone = sum_by-remove (λ (x : Request). cond (is_lane_request w n m x) 1 0) rs k r lt in
    let gone2 : request_count w n m (remove rs k) + cond (is_lane_request w n m r) 1 0 ≡ request_count w n m rs =
    subst (λ (x : Request). request_count w n m (remove rs k) + cond (is_lane_request w n m x) 1 0 ≡ request_count w n m rs) (sym e) gone in
    below (held_count w n m (raised r.who r.name r.mode 1 t hs)) (held_count w n m hs) (request_count w n m (remove rs k)) (request_count w n m rs) (cond (is_same_lane w n m r.who r.name r.mode) 1 0) up gone2 (fit w n m)
  where
    below : (a b c e d : ℕ) → a ≡ b + d → c + d ≡ e → b + e < 2 ^ 32 → a + c < 2 ^ 32
    below a b c e d le eq lt = omega arith
