-- Where a pair has no session.
use Rattle.std.proofs.Common.{◌≡◌, ℕ, zero, suc, ◌+◌, ◌<◌, List, [], ◌∷◌, refl, subst, ap, ◌∙◌, Bool, true, false, arith, ◌||◌, ◌&&◌, ◌==◌, not, Option, Some, None, slice_get}
use Rattle.std.specs.Prelude.{is_some, unwrap_or}
use Rattle.std.specs.List.{list_any}
use Rattle.std.proofs.lemmas.Bool.{and_parts}
use Rattle.plain_orders.specs.declared.entry.Entry.{Entry}
use Rattle.plain_orders.specs.declared.entry.Entry.TheVariants.{Closed}
use Rattle.plain_orders.specs.declared.item.Item.{Item}
use Rattle.plain_orders.specs.declared.mode.Mode.{Mode}
use Rattle.plain_orders.specs.Entries.{entry_at}
use Rattle.plain_orders.specs.Own.{Issued}
use Rattle.plain_runs.specs.Plain.{Server, Session, Hold, pair_session, issued_in}
use Rattle.plain_runs.specs.Items.{is_update_of}
use Rattle.plain_runs.specs.JobRows.{has_session, is_answered_item}
use Rattle.plain_runs.specs.Laws.{server_after}
use Rattle.plain_runs.specs.Together.{NoneWithoutSession}
use Rattle.plain_runs.proofs.Orders.{Each}
use Rattle.plain_runs.proofs.Lists.{any_take, opens}
use Rattle.plain_runs.proofs.HoldRows.{issued_of, of_facts, sent_facts}
use Rattle.plain_runs.proofs.LockRows.{LocksKept, HoldOf, locks}
use Rattle.plain_runs.proofs.LockLaws.{locks_kept}
use Rattle.plain_runs.proofs.Issued.{PlacedFrom, PlacedAt, issued_kept, opens_high}
use Rattle.plain_runs.specs.Holds.{is_sent, is_of, is_lock, is_kept, is_sent_at, touched}

-- no hold passes a test that no hold passes
pub none_any : (P : Hold → Type 0) (q : Hold → Bool) → ((h : Hold) → P h → q h ≡ true → ⊥) → (hs : List Hold) → Each P hs → list_any q hs ≡ false
none_any P q f [] e = refl
none_any P q f (h ∷ hs) e = go (q h) refl (none_any P q f hs e.1)
  where
    go : (b : Bool) → q h ≡ b → list_any q hs ≡ false → (b || list_any q hs) ≡ false
    go true is rest = absurd (f h e.0 is)
    go false is rest = rest

-- the session of a pair that has none is 0
zero_session : (s : Server) (app : ℕ) → has_session s app ≡ false → pair_session s app ≡ 0
zero_session s app none = go (s.pair_at app).session none
  where
    go : (o : Option ℕ) → is_some o ≡ false → unwrap_or o 0 ≡ 0
    go None e = refl
    go (Some n) e = absurd (cc (e))

close_high : (k : ℕ) (es : List Entry) (i n : ℕ) → PlacedFrom k es → slice_get es i ≡ Some (Closed n) → 0 < n
close_high k [] i n p e = absurd (cc (e))
close_high k (x ∷ es) (suc i) n p e = close_high (k + 1) es i n p.1 e
close_high k (x ∷ es) zero n p e = let same : x ≡ Closed n = cc (e) in subst (PlacedAt k) same p.0

close_at : (es : List Entry) (at n : ℕ) → PlacedFrom 0 es → entry_at es at ≡ Some (Closed n) → 0 < n
close_at es zero n p e = absurd (cc (e))
close_at es (suc i) n p e = close_high 0 es i n p e

no_item : (job line : ℕ) (kind : Item → Bool) (is : List Issued) (i : ℕ) → is ≡ [] → is_answered_item job line kind (slice_get is i) ≡ false
no_item job line kind is i e = ap (λ (xs : List Issued). is_answered_item job line kind (slice_get xs i)) e

pub kept_facts : (session job : ℕ) (mode : Mode) (key : List ℕ) (h : Hold) → is_kept session job mode key h ≡ true → (h.answered ≡ true) × (h.session ≡ session) × (h.job ≡ job)
kept_facts session job mode key h e =
    let a = and_parts (h.answered && not (is_some h.given)) (not h.gone && (is_of session job h && is_lock mode key h)) e in
    let b = and_parts h.answered (not (is_some h.given)) a.0 in
    let c = and_parts (not h.gone) (is_of session job h && is_lock mode key h) a.1 in
    let d = and_parts (is_of session job h) (is_lock mode key h) c.1 in
    let f = of_facts session job h d.0 in
    (b.0, f.0, f.1)

pub none_without_session : NoneWithoutSession
none_without_session l acts d app run none = record {
  done = λ job. record { kept = λ mode key. none_any (HoldOf (locks s)) _ (λ h k is. kept_none job mode key h k is) s.holds held.holds; item = λ line at kind. no_item job line kind (issued_in s (pair_session s app)) _ nothing; used = λ txn. ap (λ (xs : List Issued). list_any (is_update_of job txn) xs) nothing };
  sent = λ job at. none_any (HoldOf (locks s)) _ (λ h k is. sent_none job at h k is) s.holds held.holds;
  close = λ at e. absurd (omega (arith, zeroed, close_at s.order at (pair_session s app) placed e));
}
  where
    s : Server
    s = server_after l acts d

    held : LocksKept (locks s)
    held = locks_kept l acts d run

    placed : PlacedFrom 0 s.order
    placed = (issued_kept l acts d run).placed

    zeroed : pair_session s app ≡ 0
    zeroed = zero_session s app none

    not_opened : (n : ℕ) → n ≡ 0 → opens s.order n ≡ true → ⊥
    not_opened n z o = omega (arith, z, opens_high 0 s.order n placed o)

    not_met : (n : ℕ) → n ≡ 0 → is_some (s.session_at n) ≡ true → ⊥
    not_met n z m = not_opened n z (any_take _ s.synced s.order (held.opened n m))

    nothing : issued_in s (pair_session s app) ≡ []
    nothing = go (s.session_at (pair_session s app)) (not_met (pair_session s app) zeroed)
      where
        go : (o : Option Session) → (is_some o ≡ true → ⊥) → issued_of o ≡ []
        go None f = refl
        go (Some m) f = absurd (f refl)

    kept_none : (job : ℕ) (mode : Mode) (key : List ℕ) (h : Hold) → HoldOf (locks s) h → is_kept (pair_session s app) job mode key h ≡ true → ⊥
    kept_none job mode key h k is =
        let f = kept_facts (pair_session s app) job mode key h is in
        not_met h.session (f.1 ∙ zeroed) (k.met (ap (λ (b : Bool). b || is_some h.given) f.0))

    sent_none : (job at : ℕ) (h : Hold) → HoldOf (locks s) h → is_sent_at (pair_session s app) job at h ≡ true → ⊥
    sent_none job at h k is =
        let a = and_parts (is_sent h) (is_of (pair_session s app) job h && h.at == at) is in
        let b = and_parts (is_of (pair_session s app) job h) (h.at == at) a.1 in
        let f = sent_facts h a.0 in
        let untouched : touched h ≡ false = ap (λ (b : Bool). b || is_some h.given) f.0 ∙ f.1 in
        not_opened h.session ((of_facts (pair_session s app) job h b.0).0 ∙ zeroed) (any_take _ h.at s.order (k.in_order untouched f.2).1)
