-- What stands in the order when a lock goes from one holder to another.
use Rattle.std.proofs.Common.{◌≡◌, ℕ, zero, suc, ◌≤◌, List, [], ◌∷◌, ◌++◌, length, take, refl, subst, sym, ap, ◌∙◌, Bool, true, false, if◌then◌else◌, arith, append_assoc, ◌⊎◌, inl, inr, Option, Some, None, slice_get, ◌&&◌, ◌||◌, not}
use Rattle.std.specs.Prelude.{is_some, IsSomeAnd}
use Rattle.std.specs.List.{list_any}
use Rattle.std.proofs.lemmas.Bool.{and_cases, or_parts, not-false, eq-eqb}
use Rattle.std.proofs.lemmas.Option.{same_Some}
use Rattle.std.proofs.lemmas.List.{take_all, take-append-le}
use Rattle.plain_orders.specs.declared.act.Act.{Act}
use Rattle.plain_orders.specs.declared.act.Act.TheVariants.{Grant}
use Rattle.plain_orders.specs.declared.mode.Mode.{Mode}
use Rattle.plain_orders.specs.declared.layout.Layout.{Layout}
use Rattle.plain_orders.specs.Entries.{closes}
use Rattle.plain_runs.specs.Plain.{Plain, Server, Session, Hold, Given, issued_in, start}
use Rattle.plain_runs.specs.Holds.{binds, opposes, touched, new_hold}
use Rattle.plain_runs.specs.Items.{all_stand}
use Rattle.plain_runs.specs.LockRows.{GrantMay, grants, first_quit, is_quit}
use Rattle.plain_runs.specs.Run.{IsRun}
use Rattle.plain_runs.specs.Laws.{IsHold, server_after}
use Rattle.plain_runs.proofs.RunLemmas.{after_all-more, run_parts}
use Rattle.plain_runs.proofs.HoldRows.{SettledIn, issued_of}
use Rattle.plain_runs.proofs.LockRows.{HoldOf, each_at, locks}
use Rattle.plain_runs.proofs.LockLaws.{locks_kept}
use Rattle.plain_runs.proofs.Lists.{both_ways, any_take}
use Rattle.plain_runs.proofs.Bases.{ToldKept, sight, told_in, place_in, or_else}
use Rattle.plain_runs.proofs.SeenLaw.{told_kept}
use Rattle.trail_laws.specs.LockLaw.{GrantIsTold, GrantStays, Handover, IsHandedOverIn}
use Rattle.trail_laws.proofs.Durable.{may_after}
use Rattle.trail_laws.proofs.HoldGoes.{HoldGoes, Stay, stands, follow_at, follow_there}
use Rattle.trail_laws.proofs.ServerGoes.{ServerGoes, grip, goes}

-- none of a list passes a test
none_at : (p : Hold → Bool) (hs : List Hold) (i : ℕ) (h : Hold) → list_any p hs ≡ false → slice_get hs i ≡ Some h → p h ≡ false
none_at p [] i h e at = absurd (cc (at))
none_at p (x ∷ hs) zero h e at = subst (λ y. p y ≡ false) (same_Some x h at) (or_parts (p x) (list_any p hs) e).0
none_at p (x ∷ hs) (suc i) h e at = none_at p hs i h (or_parts (p x) (list_any p hs) e).1 at

last_hold : (hs : List Hold) (x : Hold) → slice_get (hs ++ x ∷ []) (length hs) ≡ Some x
last_hold [] x = refl
last_hold (y ∷ hs) x = last_hold hs x

some_and : (o : Option Given) (P : Given → Type 0) (g : Given) → o ≡ Some g → P g → IsSomeAnd o P
some_and o P g e p = subst (λ r. IsSomeAnd r P) (sym e) p

and_true : (b c : Bool) → c ≡ true → (b && c) ≡ false → b ≡ false
and_true true c t e = absurd (cc (t, e))
and_true false c t e = refl

-- the hold was free
free_there : (s : Server) (session job : ℕ) (mode : Mode) (key : List ℕ) (at i : ℕ) (h : Hold) → GrantMay s session job mode key at → slice_get s.holds i ≡ Some h → opposes session job mode key h ≡ true → binds h ≡ false
free_there s session job mode key at i h may is opp = and_true (binds h) (opposes session job mode key h) opp (none_at (λ x. binds x && opposes session job mode key x) s.holds i h may.free is)

-- and it is handed over as a later server has it
handed : (s t : Server) (i : ℕ) (h k : Hold) → HoldOf (locks s) h → ServerGoes (grip s) (grip t) → s.due ≡ None → slice_get s.holds i ≡ Some h → slice_get t.holds i ≡ Some k → binds h ≡ false → touched k ≡ true → IsHandedOverIn s.order t k
handed s t i h k held all up is now off touch = go (and_cases h.in_force (not h.gone) off) h.gone refl
  where
    on : HoldGoes s.past s.order t.past t.order h k
    on = follow_at (HoldGoes s.past s.order t.past t.order) s.holds t.holds i h k all.holds is now

    closed : list_any (closes h.session) s.order ≡ true → IsHandedOverIn s.order t k
    closed c = inl (subst (λ n. list_any (closes n) s.order ≡ true) (sym on.session) c)

    settled : k.given ≡ h.given → SettledIn s.order (issued_of (s.session_at h.session)) h → IsHandedOverIn s.order t k
    settled same (inl c) = closed c
    settled same (inr c) =
        let grew : issued_of (t.session_at h.session) ≡ issued_of (s.session_at h.session) ++ (all.issued h.session).1.0 = (all.issued h.session).1.1 in
        let front : take c.0.before (issued_of (t.session_at h.session)) ≡ take c.0.before (issued_of (s.session_at h.session)) =
        ap (take c.0.before) grew ∙ take-append-le c.0.before (issued_of (s.session_at h.session)) (all.issued h.session).1.0 (held.before c.0 c.1)
        in
        let there : all_stand s.order h.session h.job 0 (take c.0.before (issued_of (t.session_at h.session))) ≡ true = ap (all_stand s.order h.session h.job 0) front ∙ c.2 in
        inr (some_and k.given (λ (g : Given). all_stand s.order k.session k.job 0 (take g.before (issued_in t k.session)) ≡ true) c.0 (same ∙ c.1)
        (subst (λ n. all_stand s.order n k.job 0 (take c.0.before (issued_of (t.session_at n))) ≡ true) (sym on.session)
        (subst (λ j. all_stand s.order h.session j 0 (take c.0.before (issued_of (t.session_at h.session))) ≡ true) (sym on.job) there)))

    go : (h.in_force ≡ false) ⊎ (not h.gone ≡ false) → (b : Bool) → h.gone ≡ b → IsHandedOverIn s.order t k
    go c true e =
        let x = on.frozen e in
        let old : touched h ≡ true = subst (λ (b : Bool). (b || is_some h.given) ≡ true) x.1 (subst (λ (r : Option Given). (k.answered || is_some r) ≡ true) x.2 touch) in
        settled x.2 (held.settled up e old)
    go (inl f) false e = closed (any_take (closes h.session) s.synced s.order (held.closed f e))
    go (inr g) false e = absurd (both_ways h.gone (not-false h.gone g) e)

pub handover : Handover
handover l before later d session job mode key at i h k run is opp now touch =
    let may : GrantMay (server_after l before d) session job mode key at = may_after l before later (Grant d session job mode key at) run in
    let off : binds h ≡ false = free_there (server_after l before d) session job mode key at i h may is opp in
    record {
      free = off;
      here = may.here;
      handed = handed (server_after l before d) (server_after l (before ++ Grant d session job mode key at ∷ later) d) i h k
          (each_at (HoldOf (locks (server_after l before d))) (server_after l before d).holds i h (locks_kept l before d (run_parts l start before (Grant d session job mode key at ∷ later) run).0).holds is)
          (goes l before (Grant d session job mode key at ∷ later) d run) may.up is now off touch;
    }

-- the server right after a grant
granted_is : (l : Layout) (before : List Act) (d session job : ℕ) (mode : Mode) (key : List ℕ) (at : ℕ) → server_after l (before ++ Grant d session job mode key at ∷ []) d ≡ grants (server_after l before d) session job mode key at
granted_is l before d session job mode key at =
    ap (λ (p : Plain). p.server_at d) (after_all-more l start before (Grant d session job mode key at))
    ∙ ap (λ (b : Bool). if b then grants (server_after l before d) session job mode key at else server_after l before d) (eq-eqb d d refl)

-- what a grant that is answered keeps
pub record Keeps (s0 t : Server) (at : ℕ) (n : Hold) : Type 0 where
  pub stood : stands n ≡ true → Stay at s0.past s0.order t.past t.order

-- the hold that a grant made is there from then on
pub record Made (s0 t : Server) (at : ℕ) : Type 0 where
  pub hold : Hold
  pub is : slice_get t.holds (length s0.holds) ≡ Some hold
  pub keeps : Keeps s0 t at hold

pub made : (l : Layout) (before later : List Act) (d session job : ℕ) (mode : Mode) (key : List ℕ) (at : ℕ) → IsRun l (before ++ Grant d session job mode key at ∷ later)
    → Made (server_after l before d) (server_after l (before ++ Grant d session job mode key at ∷ later) d) at
made l before later d session job mode key at run = record { hold = on.0; is = on.1.0; keeps = record { stood = λ st. on.1.1.stays st } }
  where
    a : Act
    a = Grant d session job mode key at

    s0 : Server
    s0 = server_after l before d

    t : Server
    t = server_after l (before ++ a ∷ later) d

    new : Hold
    new = new_hold session job mode key at (first_quit (is_quit session job mode key) s0.quits)

    whole : (before ++ a ∷ []) ++ later ≡ before ++ a ∷ later
    whole = append_assoc before (a ∷ []) later

    first : ServerGoes (grip (grants s0 session job mode key at)) (grip t)
    first =
        subst (λ (s : Server). ServerGoes (grip s) (grip t)) (granted_is l before d session job mode key at)
        (subst (λ (as_ : List Act). ServerGoes (grip (server_after l (before ++ a ∷ []) d)) (grip (server_after l as_ d))) whole (goes l (before ++ a ∷ []) later d (subst (IsRun l) (sym whole) run)))

    on : (k : Hold) × ((slice_get t.holds (length s0.holds) ≡ Some k) × HoldGoes s0.past s0.order t.past t.order new k)
    on = follow_there (HoldGoes s0.past s0.order t.past t.order) (s0.holds ++ new ∷ []) t.holds (length s0.holds) new first.holds (last_hold s0.holds new)

keeps : (l : Layout) (before later : List Act) (d session job : ℕ) (mode : Mode) (key : List ℕ) (at : ℕ) (n : Hold) → IsRun l (before ++ Grant d session job mode key at ∷ later)
    → IsHold (server_after l (before ++ Grant d session job mode key at ∷ later) d) (length (server_after l before d).holds) n → Keeps (server_after l before d) (server_after l (before ++ Grant d session job mode key at ∷ later) d) at n
keeps l before later d session job mode key at n run is =
    let m = made l before later d session job mode key at run in
    subst (Keeps (server_after l before d) (server_after l (before ++ Grant d session job mode key at ∷ later) d) at) (same_Some m.hold n (sym m.is ∙ is)) m.keeps

pub grant_front : (l : Layout) (before later : List Act) (d session job : ℕ) (mode : Mode) (key : List ℕ) (at : ℕ) → IsRun l (before ++ Grant d session job mode key at ∷ later) → take at (server_after l before d).order ≡ (server_after l before d).order
grant_front l before later d session job mode key at run =
    let may : GrantMay (server_after l before d) session job mode key at = may_after l before later (Grant d session job mode key at) run in
    take_all at (server_after l before d).order (omega (arith, may.here))

pub answered_stands : (n : Hold) → n.answered ≡ true → stands n ≡ true
answered_stands n e = ap (λ (b : Bool). b || (not n.gone && not (is_some n.given))) e

pub grant_stays : GrantStays
grant_stays l before later d session job mode key at j n run is ans from to =
    (keeps l before later d session job mode key at n run is).stood (answered_stands n ans) j from to ∙ grant_front l before later d session job mode key at run

pub grant_is_told : GrantIsTold
grant_is_told l before later d session job mode key at n m run is ans met = grant_stays l before later d session job mode key at m.told n run is ans (omega (arith, on.1.1, same)) (there.low session m.told now)
  where
    a : Act
    a = Grant d session job mode key at

    s0 : Server
    s0 = server_after l before d

    t : Server
    t = server_after l (before ++ a ∷ later) d

    may : GrantMay s0 session job mode key at
    may = may_after l before later a run

    first : or_else (told_in (s0.session_at session)) (place_in (s0.entered_at session)) ≡ Some (length s0.past)
    first = (told_kept l before d (run_parts l start before (a ∷ later) run).0).up may.up session may.is_live

    there : ToldKept l (sight t)
    there = told_kept l (before ++ a ∷ later) d run

    now : or_else (told_in (t.session_at session)) (place_in (t.entered_at session)) ≡ Some m.told
    now = ap (λ (o : Option Session). or_else (told_in o) (place_in (t.entered_at session))) met

    on : (c : ℕ) × ((or_else (told_in (t.session_at session)) (place_in (t.entered_at session)) ≡ Some c) × (length s0.past ≤ c))
    on = (goes l before (a ∷ later) d run).based session (length s0.past) first

    same : on.0 ≡ m.told
    same = cc (now, on.1.0)
