-- While no round is due, what no longer binds is handed over.
use Rattle.std.proofs.Common.{◌≡◌, ℕ, List, [], ◌∷◌, ◌++◌, length, refl, subst, sym, Bool, true, false, arith, Option, Some, ◌⊎◌, inl, inr, not}
use Rattle.std.specs.Prelude.{IsSomeAnd}
use Rattle.std.specs.List.{list_any}
use Rattle.std.proofs.lemmas.Bool.{not-false, and_cases}
use Rattle.std.proofs.lemmas.List.{take_all, append-nil}
use Rattle.plain_orders.specs.declared.entry.Entry.{Entry}
use Rattle.plain_orders.specs.declared.entry.Entry.TheVariants.{Closed}
use Rattle.plain_orders.specs.declared.act.Act.{Act}
use Rattle.plain_orders.specs.declared.act.Act.TheVariants.{Opened, Enter, Synced, Shut, Release, Met, Told, Back, Crash, Issue, Read, Grant, Granted, GiveUp, Quit, Free, Counted, NotWhole, Range, Committed, RolledBack, Reached, Level, Done, Refused, Broke, Mended, Tick, Lose, Died}
use Rattle.plain_orders.specs.declared.refused.Refused.{Refused as Refusal}
use Rattle.plain_orders.specs.declared.refused.Refused.TheVariants.{NoTransaction, TooDeep, RollbackOnly, LockTimeout, Network}
use Rattle.plain_orders.specs.declared.causes.Loss.{Loss}
use Rattle.plain_orders.specs.declared.causes.Loss.TheVariants.{Reset as ByReset, Expired as ByExpired, NoWay as ByNoWay}
use Rattle.plain_orders.specs.declared.causes.PairEnd.{PairEnd}
use Rattle.plain_orders.specs.declared.causes.PairEnd.TheVariants.{App as AppEnd, Server as ServerEnd}
use Rattle.plain_orders.specs.declared.layout.Layout.{Layout}
use Rattle.plain_orders.specs.Entries.{closes, closed_by}
use Rattle.plain_runs.specs.Plain.{Plain, Server, Given, start, app_of, pair_session}
use Rattle.plain_runs.specs.EndRows.{broke, lost, shut, told_of}
use Rattle.plain_runs.specs.JobRows.{refused, issues}
use Rattle.plain_runs.specs.Step.{MayCome, after}
use Rattle.plain_runs.specs.Run.{IsRun, RunFrom, after_all}
use Rattle.plain_runs.specs.EndRows.{begun_by}
use Rattle.plain_runs.specs.JobRows.{txn_of}
use Rattle.plain_runs.specs.Laws.{Settled, IsHandedOver, server_after}
use Rattle.plain_runs.proofs.RunLemmas.{at_put}
use Rattle.plain_runs.proofs.Orders.{facet, OrdersKept}
use Rattle.plain_runs.proofs.OrderLaws.{row_steps, start_kept}
use Rattle.plain_runs.proofs.Pairs.{PairsKept, row_pairs, pair_met}
use Rattle.plain_runs.proofs.Lists.{both_ways, any_take}
use Rattle.plain_runs.proofs.HoldRows.{HoldKept, SettledIn, issued_of}
use Rattle.plain_runs.proofs.LockRows.{LocksKept, LockSteps, HoldOf, locks, each_at, steps_same, entry_steps, enter_steps, saved_steps, session_steps, met_steps, granted_steps, give_steps, quit_steps, release_steps, free_steps, grant_steps, back_steps, crash_steps, opened_steps}

broke_steps : (s : Server) (app : ℕ) (end : PairEnd) (time : ℕ) → LockSteps s (broke s app end time)
broke_steps s app AppEnd time = steps_same s
broke_steps s app ServerEnd time = steps_same s

lost_steps : (l : Layout) (p : Plain) (app d : ℕ) (loss : Loss) (e : ℕ) → LockSteps (p.server_at e) ((lost l p app d loss).server_at e)
lost_steps l p app d (ByReset at) e = at_put LockSteps p.server_at d _ steps_same (steps_same (p.server_at d)) e
lost_steps l p app d (ByExpired time) e = at_put LockSteps p.server_at d _ steps_same (steps_same (p.server_at d)) e
lost_steps l p app d (ByNoWay from to) e = at_put LockSteps p.server_at d _ steps_same (steps_same (p.server_at d)) e

refused_steps : (p : Plain) (j : ℕ) (r : Refusal) (e : ℕ) → LockSteps (p.server_at e) ((refused p j r).server_at e)
refused_steps p j NoTransaction e = steps_same (p.server_at e)
refused_steps p j TooDeep e = steps_same (p.server_at e)
refused_steps p j RollbackOnly e = steps_same (p.server_at e)
refused_steps p j LockTimeout e = steps_same (p.server_at e)
refused_steps p j (Network d state reason) e = at_put LockSteps p.server_at d _ steps_same (steps_same (p.server_at d)) e

pub row_locks : (l : Layout) (p : Plain) (a : Act) → MayCome l p a → ((d : ℕ) → PairsKept (p.server_at d).session_at (p.server_at d).pair_at) → (e : ℕ) → LockSteps (p.server_at e) ((after l p a).server_at e)
row_locks l p (Opened d entries) may pairs e = at_put LockSteps p.server_at d _ steps_same (opened_steps p.clock l.times.round (p.server_at d) entries may) e
row_locks l p (Enter d x) may pairs e = at_put LockSteps p.server_at d _ steps_same (enter_steps l p.clock (p.server_at d) x may) e
row_locks l p (Synced d n) may pairs e = at_put LockSteps p.server_at d _ steps_same (saved_steps (p.server_at d) n may) e
row_locks l p (Shut d session cause) may pairs e = at_put LockSteps p.server_at d _ steps_same (entry_steps (p.server_at d) (shut (p.server_at d) session) (Closed session) refl) e
row_locks l p (Release d session) may pairs e = at_put LockSteps p.server_at d _ steps_same (release_steps (p.server_at d) session may) e
row_locks l p (Met app d session) may pairs e = at_put LockSteps p.server_at d _ steps_same (met_steps l (p.server_at d) app session may.1) e
row_locks l p (Told app d session epoch kept) may pairs e = at_put LockSteps p.server_at d _ steps_same (session_steps (p.server_at d) (told_of l (p.server_at d) app session epoch kept) session (λ m. record m { told = begun_by (p.server_at d) epoch }) refl (λ m. ([], sym (append-nil m.issued)))) e
row_locks l p (Back d) may pairs e = at_put LockSteps p.server_at d _ steps_same (back_steps (p.server_at d) may) e
row_locks l p (Crash d kept) may pairs e = at_put LockSteps p.server_at d _ steps_same (crash_steps p.clock l.times.round (p.server_at d) kept may) e
row_locks l p (Issue job line d w item) may pairs e = at_put LockSteps p.server_at d _ steps_same (session_steps (p.server_at d) (issues (p.server_at d) (app_of l job) (record { item = item; txn = txn_of (p.job_at job) item; job = job; line = line })) (pair_session (p.server_at d) (app_of l job)) (λ m. record m { issued = m.issued ++ (record { item = item; txn = txn_of (p.job_at job) item; job = job; line = line }) ∷ [] }) refl (λ m. ((record { item = item; txn = txn_of (p.job_at job) item; job = job; line = line }) ∷ [], refl))) e
row_locks l p (Read job line d at via question) may pairs e = at_put LockSteps p.server_at d _ steps_same (steps_same (p.server_at d)) e
row_locks l p (Grant d session job mode key at) may pairs e = at_put LockSteps p.server_at d _ steps_same (grant_steps (p.server_at d) session job mode key at may) e
row_locks l p (Granted job line d at) may pairs e = at_put LockSteps p.server_at d _ steps_same (granted_steps (p.server_at d) (app_of l job) job at (pair_met (p.server_at d) (app_of l job) (pairs d) may.1.session) may.1.synced) e
row_locks l p (GiveUp job line d mode key) may pairs e = at_put LockSteps p.server_at d _ steps_same (give_steps (p.server_at d) (app_of l job) job mode key (pair_met (p.server_at d) (app_of l job) (pairs d) may.1.session)) e
row_locks l p (Quit job line d mode key) may pairs e = at_put LockSteps p.server_at d _ steps_same (quit_steps (p.server_at d) (app_of l job) job mode key (pair_met (p.server_at d) (app_of l job) (pairs d) may.1.session)) e
row_locks l p (Free d session job mode key) may pairs e = at_put LockSteps p.server_at d _ steps_same (free_steps (p.server_at d) session job mode key may) e
row_locks l p (Counted job line d at sum) may pairs e = at_put LockSteps p.server_at d _ steps_same (steps_same (p.server_at d)) e
row_locks l p (NotWhole job line d at) may pairs e = at_put LockSteps p.server_at d _ steps_same (steps_same (p.server_at d)) e
row_locks l p (Range job line d at) may pairs e = at_put LockSteps p.server_at d _ steps_same (steps_same (p.server_at d)) e
row_locks l p (Committed job line d at) may pairs e = at_put LockSteps p.server_at d _ steps_same (steps_same (p.server_at d)) e
row_locks l p (RolledBack job line d at) may pairs e = at_put LockSteps p.server_at d _ steps_same (steps_same (p.server_at d)) e
row_locks l p (Reached job line d at) may pairs e = at_put LockSteps p.server_at d _ steps_same (steps_same (p.server_at d)) e
row_locks l p (Level job line level) may pairs e = steps_same (p.server_at e)
row_locks l p (Done job line) may pairs e = steps_same (p.server_at e)
row_locks l p (Refused job line refusal) may pairs e = refused_steps p job refusal e
row_locks l p (Broke app d end time) may pairs e = at_put LockSteps p.server_at d _ steps_same (broke_steps (p.server_at d) app end time) e
row_locks l p (Mended app d) may pairs e = at_put LockSteps p.server_at d _ steps_same (steps_same (p.server_at d)) e
row_locks l p (Tick time) may pairs e = steps_same (p.server_at e)
row_locks l p (Lose app d loss) may pairs e = lost_steps l p app d loss e
row_locks l p (Died app) may pairs e = steps_same (p.server_at e)

pub run_locks : (l : Layout) (p : Plain) (acts : List Act) → RunFrom l p acts → ((d : ℕ) → PairsKept (p.server_at d).session_at (p.server_at d).pair_at) → ((d : ℕ) → OrdersKept (facet (p.server_at d))) → ((d : ℕ) → LocksKept (locks (p.server_at d)))
    → (e : ℕ) → LocksKept (locks ((after_all l p acts).server_at e))
run_locks l p [] run pairs os k e = k e
run_locks l p (a ∷ acts) run pairs os k e =
    run_locks l (after l p a) acts run.1 (λ d. row_pairs l p a run.0 d (pairs d)) (λ d. (row_steps l p a run.0 d (os d)).0) (λ d. row_locks l p a run.0 pairs d (os d) (k d)) e

pub start_locks : (d : ℕ) → LocksKept (locks (start.server_at d))
start_locks d = record { fresh = λ _. refl; opened = λ n m. absurd (cc (m)); quits = tt; holds = tt }

pub locks_kept : (l : Layout) (acts : List Act) (d : ℕ) → IsRun l acts → LocksKept (locks (server_after l acts d))
locks_kept l acts d run = run_locks l start acts run (λ d. record { met = λ a n e. absurd (cc (e)) }) start_kept start_locks d

some_and : (o : Option Given) (P : Given → Type 0) (g : Given) → o ≡ Some g → P g → IsSomeAnd o P
some_and o P g e p = subst (λ r. IsSomeAnd r P) (sym e) p

pub settled : Settled
settled l acts d i h run is up touch off = go (and_cases h.in_force (not h.gone) off) h.gone refl
  where
    s : Server
    s = server_after l acts d

    held : HoldKept s.order s.synced s.due s.session_at h
    held = each_at (HoldOf (locks s)) s.holds i h (locks_kept l acts d run).holds is

    whole : list_any (closes h.session) s.order ≡ true → closed_by s.order h.session (length s.order) ≡ true
    whole c = subst (λ (es : List Entry). list_any (closes h.session) es ≡ true) (sym (take_all (length s.order) s.order (omega arith))) c

    given : SettledIn s.order (issued_of (s.session_at h.session)) h → IsHandedOver s h
    given (inl c) = inl (whole c)
    given (inr g) = inr (some_and h.given _ g.0 g.1 g.2)

    go : (h.in_force ≡ false) ⊎ (not h.gone ≡ false) → (b : Bool) → h.gone ≡ b → IsHandedOver s h
    go c true e = given (held.settled up e touch)
    go (inl f) false e = inl (whole (any_take (closes h.session) s.synced s.order (held.closed f e)))
    go (inr g) false e = absurd (both_ways h.gone (not-false h.gone g) e)
