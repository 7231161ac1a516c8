-- What is said of each hold and of each request that was given up, but for what needs an induction of its own.
use Rattle.std.proofs.Common.{◌≡◌, ℕ, suc, ◌≤◌, ◌+◌, List, [], ◌∷◌, length, take, refl, sym, ap, ◌∙◌, Bool, true, false, arith, ◌||◌, Option, Some}
use Rattle.std.proofs.Common.{None, slice_get}
use Rattle.std.specs.Prelude.{is_some, IfSome}
use Rattle.std.specs.List.{AllByRecursion}
use Rattle.std.proofs.lemmas.Bool.{eqb-true, or_from}
use Rattle.std.proofs.lemmas.List.{length-take-le}
use Rattle.plain_orders.specs.declared.act.Act.{Act}
use Rattle.plain_orders.specs.declared.entry.Entry.{Entry}
use Rattle.plain_orders.specs.declared.entry.Entry.TheVariants.{Epoch, Opened, Closed, Update, Commit, Rollback}
use Rattle.plain_orders.specs.declared.layout.Layout.{Layout}
use Rattle.plain_orders.specs.Entries.{entry_at}
use Rattle.plain_orders.proofs.Places.{entry_low, entry_taken}
use Rattle.plain_runs.specs.Plain.{Server, Hold, Given, Quitted, issued_in}
use Rattle.plain_runs.specs.Run.{IsRun}
use Rattle.plain_runs.specs.Laws.{IsHold, server_after}
use Rattle.plain_runs.proofs.Lists.{is_open, opens}
use Rattle.plain_runs.proofs.HoldRows.{sent_facts}
use Rattle.plain_runs.proofs.LockRows.{HoldOf, QuitKept, each_at, locks}
use Rattle.plain_runs.proofs.LockLaws.{locks_kept}
use Rattle.plain_runs.proofs.Issued.{PlacedAt, PlacedFrom, issued_kept, placed-take}
use Rattle.hold_laws.specs.HoldLaws.{EachHold, EachQuit, TouchedIsMet, AnsweredIsSynced, SentIsBehindOpen, GivenIsIssued, ReleasedIsClosed}
use Rattle.hold_laws.specs.HoldLaws.{QuitIsMet, QuitIsIssued}

-- what holds at each place holds of each
pub each_by_place : {X : Type 0} (P : X → Type 0) (xs : List X) → ((i : ℕ) (x : X) → slice_get xs i ≡ Some x → P x) → AllByRecursion P xs
each_by_place P [] f = tt
each_by_place P (x ∷ xs) f = (f 0 x refl, each_by_place P xs (λ i y is. f (suc i) y is))

-- what each hold keeps
pub hold_kept : (l : Layout) (acts : List Act) (d : ℕ) → IsRun l acts → (i : ℕ) (h : Hold) → IsHold (server_after l acts d) i h
    → HoldOf (locks (server_after l acts d)) h
hold_kept l acts d run i h is = each_at (HoldOf (locks (server_after l acts d))) (server_after l acts d).holds i h (locks_kept l acts d run).holds is

-- what each request that was given up keeps
quit_kept : (l : Layout) (acts : List Act) (d : ℕ) → IsRun l acts → (i : ℕ) (q : Quitted) → slice_get (server_after l acts d).quits i ≡ Some q
    → QuitKept (server_after l acts d).session_at q
quit_kept l acts d run i q is = each_at (QuitKept (server_after l acts d).session_at) (server_after l acts d).quits i q (locks_kept l acts d run).quits is

pub touched_is_met : EachHold TouchedIsMet
touched_is_met l acts d run i h is = (hold_kept l acts d run i h is).met

pub answered_is_synced : EachHold AnsweredIsSynced
answered_is_synced l acts d run i h is = (hold_kept l acts d run i h is).low

pub given_is_issued : EachHold GivenIsIssued
given_is_issued l acts d run i h is = go h.given refl
  where
    go : (o : Option Given) → h.given ≡ o → IfSome o (λ (g : Given). g.before ≤ length (issued_in (server_after l acts d) h.session))
    go None e = tt
    go (Some g) e = (hold_kept l acts d run i h is).before g e

pub released_is_closed : EachHold ReleasedIsClosed
released_is_closed l acts d run i h is = (hold_kept l acts d run i h is).closed

pub quit_is_met : EachQuit QuitIsMet
quit_is_met l acts d run i q is = (quit_kept l acts d run i q is).met

pub quit_is_issued : EachQuit QuitIsIssued
quit_is_issued l acts d run i q is = (quit_kept l acts d run i q is).before

-- the entry opens the session, and so stands in its place
open_entry : (k : ℕ) (e : Entry) (s : ℕ) → PlacedAt k e → is_open s e ≡ true → (app : ℕ) × (e ≡ Opened s app) × (s ≡ k + 1)
open_entry k (Epoch number) s p o = absurd (cc (o))
open_entry k (Opened session app) s p o = (app, ap (λ n. Opened n app) (eqb-true session s o), sym (eqb-true session s o) ∙ p)
open_entry k (Closed session) s p o = absurd (cc (o))
open_entry k (Update session w job txn op) s p o = absurd (cc (o))
open_entry k (Commit session w job txn) s p o = absurd (cc (o))
open_entry k (Rollback session w job txn) s p o = absurd (cc (o))

-- an opened session's Open stands in its place
open_from : (k : ℕ) (es : List Entry) (s : ℕ) → PlacedFrom k es → opens es s ≡ true
    → (i : ℕ) × (app : ℕ) × (slice_get es i ≡ Some (Opened s app)) × (s ≡ k + i + 1)
open_from k [] s p o = absurd (cc (o))
open_from k (x ∷ es) s p o = go (is_open s x) refl (λ h. open_from (k + 1) es s p.1 h) o
  where
    At : ℕ → List Entry → Type 0
    At n xs = (i : ℕ) × (app : ℕ) × (slice_get xs i ≡ Some (Opened s app)) × (s ≡ n + i + 1)

    go : (b : Bool) → is_open s x ≡ b → (opens es s ≡ true → At (k + 1) es) → (b || opens es s) ≡ true → At k (x ∷ es)
    go true e rest h = let f = open_entry k x s p.0 e in (0, f.0, ap Some f.1, omega (arith, f.2))
    go false e rest h = let f = rest h in (suc f.0, f.1, f.2, omega (arith, f.3))

open_stands : (es : List Entry) (s : ℕ) → PlacedFrom 0 es → opens es s ≡ true → (app : ℕ) × (entry_at es s ≡ Some (Opened s app))
open_stands es s p o =
    let f = open_from 0 es s p o in
    let place : s ≡ suc f.0 = omega (arith, f.3) in
    (f.1, ap (entry_at es) place ∙ f.2)

pub sent_is_behind_open : EachHold SentIsBehindOpen
sent_is_behind_open l acts d run i h is sent = record {
  app = found.0;
  opened = entry_taken h.at s.order (Opened h.session found.0) h.session found.1;
  behind = omega (arith, entry_low (take h.at s.order) (Opened h.session found.0) h.session found.1, length-take-le h.at s.order placed.0);
  within = placed.0;
}
  where
    s : Server
    s = server_after l acts d

    facts : (h.answered ≡ false) × (is_some h.given ≡ false) × (h.gone ≡ false)
    facts = sent_facts h sent

    placed : (h.at ≤ length s.order) × (opens (take h.at s.order) h.session ≡ true)
    placed = (hold_kept l acts d run i h is).in_order (or_from h.answered (is_some h.given) facts.0 facts.1) facts.2

    found : (app : ℕ) × (entry_at (take h.at s.order) h.session ≡ Some (Opened h.session app))
    found = open_stands (take h.at s.order) h.session (placed-take 0 h.at s.order (issued_kept l acts d run).placed) placed.1
