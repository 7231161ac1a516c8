-- Along a run: holds that are gone are over, and no two turns are the same.
use Rattle.std.proofs.Common.{◌≡◌, ℕ, ◌+◌, ◌≤◌, List, [], ◌∷◌, ◌++◌, refl, subst, sym, arith, Option, Some, inl, inr}
use Rattle.std.specs.Prelude.{IsSomeAnd}
use Rattle.std.proofs.lemmas.List.{append-nil}
use Rattle.plain_orders.specs.declared.act.Act.{Act}
use Rattle.plain_orders.specs.declared.act.Act.TheVariants.{Opened, Enter, Synced, Shut, Release, Met, Told, Back, Crash, Issue, Read}
use Rattle.plain_orders.specs.declared.act.Act.TheVariants.{Grant, Granted, GiveUp, Quit, Free, Counted, NotWhole, Range, Committed, RolledBack}
use Rattle.plain_orders.specs.declared.act.Act.TheVariants.{Reached, Level, Done, Refused, Broke, Mended, Tick, Lose, Died}
use Rattle.plain_orders.specs.declared.refused.Refused.{Refused as Refusal}
use Rattle.plain_orders.specs.declared.refused.Refused.TheVariants.{NoTransaction, TooDeep, RollbackOnly, LockTimeout, Network}
use Rattle.plain_orders.specs.declared.causes.Loss.{Loss}
use Rattle.plain_orders.specs.declared.causes.Loss.TheVariants.{Reset as ByReset, Expired as ByExpired, NoWay as ByNoWay}
use Rattle.plain_orders.specs.declared.causes.PairEnd.{PairEnd}
use Rattle.plain_orders.specs.declared.causes.PairEnd.TheVariants.{App as AppEnd, Server as ServerEnd}
use Rattle.plain_orders.specs.declared.entry.Entry.TheVariants.{Closed}
use Rattle.plain_orders.specs.declared.layout.Layout.{Layout}
use Rattle.plain_runs.specs.Plain.{Plain, Server, Given, app_of, pair_session, start}
use Rattle.plain_runs.specs.EndRows.{begun_by, broke, lost, met_by, shut, told_of}
use Rattle.plain_runs.specs.JobRows.{issues, refused, txn_of}
use Rattle.plain_runs.specs.Step.{MayCome, after}
use Rattle.plain_runs.specs.Run.{IsRun, RunFrom, after_all}
use Rattle.plain_runs.specs.Laws.{server_after}
use Rattle.plain_runs.proofs.RunLemmas.{at_put}
use Rattle.plain_runs.proofs.Orders.{OrdersKept, facet}
use Rattle.plain_runs.proofs.OrderLaws.{row_steps, start_kept}
use Rattle.plain_runs.proofs.Pairs.{PairsKept, row_pairs}
use Rattle.plain_runs.proofs.HoldRows.{issued_of}
use Rattle.plain_runs.proofs.LockRows.{LocksKept, each_at, locks}
use Rattle.plain_runs.proofs.LockLaws.{row_locks, start_locks}
use Rattle.hold_laws.specs.HoldLaws.{EachHold, EachServer, GoneIsGiven, GoneIsOver, IsOver, QuitsInOrder, TurnsAreBelow}
use Rattle.hold_laws.specs.HoldLaws.{TurnsDiffer, TurnsTell, hold_turns, quit_turns}
use Rattle.hold_laws.proofs.QuitsRise.{rise_at}
use Rattle.hold_laws.proofs.OverRows.{OverIn}
use Rattle.hold_laws.proofs.Turns.{below_none, distinct_once, hold_once, holds_once, in_holds, in_quits, quit_once, quits_once, times-append}
use Rattle.hold_laws.proofs.HoldSteps.{MarkSteps, MarksKept, OverOf, back_marks, crash_marks, enter_marks, entry_marks, free_marks, give_marks, grant_marks}
use Rattle.hold_laws.proofs.HoldSteps.{granted_marks, issued_grows, marks_same, met_grows, opened_marks, quit_marks, release_marks, saved_marks, session_marks}

broke_marks : (s : Server) (app : ℕ) (end : PairEnd) (time : ℕ) → MarkSteps s (broke s app end time)
broke_marks s app AppEnd time = marks_same s
broke_marks s app ServerEnd time = marks_same s

lost_marks : (l : Layout) (p : Plain) (app d : ℕ) (loss : Loss) (e : ℕ) → MarkSteps (p.server_at e) ((lost l p app d loss).server_at e)
lost_marks l p app d (ByReset at) e = at_put MarkSteps p.server_at d _ marks_same (marks_same (p.server_at d)) e
lost_marks l p app d (ByExpired time) e = at_put MarkSteps p.server_at d _ marks_same (marks_same (p.server_at d)) e
lost_marks l p app d (ByNoWay from to) e = at_put MarkSteps p.server_at d _ marks_same (marks_same (p.server_at d)) e

refused_marks : (p : Plain) (j : ℕ) (r : Refusal) (e : ℕ) → MarkSteps (p.server_at e) ((refused p j r).server_at e)
refused_marks p j NoTransaction e = marks_same (p.server_at e)
refused_marks p j TooDeep e = marks_same (p.server_at e)
refused_marks p j RollbackOnly e = marks_same (p.server_at e)
refused_marks p j LockTimeout e = marks_same (p.server_at e)
refused_marks p j (Network d state reason) e = at_put MarkSteps p.server_at d _ marks_same (marks_same (p.server_at d)) e

row_marks : (l : Layout) (p : Plain) (a : Act) → MayCome l p a → (e : ℕ) → MarkSteps (p.server_at e) ((after l p a).server_at e)
row_marks l p (Opened d entries) may e = at_put MarkSteps p.server_at d _ marks_same (opened_marks p.clock l.times.round (p.server_at d) entries may) e
row_marks l p (Enter d x) may e = at_put MarkSteps p.server_at d _ marks_same (enter_marks l p.clock (p.server_at d) x may) e
row_marks l p (Synced d n) may e = at_put MarkSteps p.server_at d _ marks_same (saved_marks (p.server_at d) n may) e
row_marks l p (Shut d session cause) may e =
    at_put MarkSteps p.server_at d _ marks_same (entry_marks (p.server_at d) (shut (p.server_at d) session) (Closed session) refl refl) e
row_marks l p (Release d session) may e = at_put MarkSteps p.server_at d _ marks_same (release_marks (p.server_at d) session) e
row_marks l p (Met app d session) may e =
    at_put MarkSteps p.server_at d _ marks_same
    (session_marks (p.server_at d) (met_by l (p.server_at d) app session) refl refl (met_grows l (p.server_at d) app session may.1)) e
row_marks l p (Told app d session epoch kept) may e =
    at_put MarkSteps p.server_at d _ marks_same
    (session_marks (p.server_at d) (told_of l (p.server_at d) app session epoch kept) refl refl
    (issued_grows (p.server_at d) session (λ m. record m { told = begun_by (p.server_at d) epoch }) (λ m. ([], sym (append-nil m.issued))))) e
row_marks l p (Back d) may e = at_put MarkSteps p.server_at d _ marks_same (back_marks (p.server_at d) may) e
row_marks l p (Crash d kept) may e = at_put MarkSteps p.server_at d _ marks_same (crash_marks p.clock l.times.round (p.server_at d) kept may) e
row_marks l p (Issue job line d w item) may e =
    at_put MarkSteps p.server_at d _ marks_same
    (session_marks (p.server_at d)
    (issues (p.server_at d) (app_of l job) (record { item = item; txn = txn_of (p.job_at job) item; job = job; line = line })) refl refl
    (issued_grows (p.server_at d) (pair_session (p.server_at d) (app_of l job))
    (λ m. record m { issued = m.issued ++ (record { item = item; txn = txn_of (p.job_at job) item; job = job; line = line }) ∷ [] })
    (λ m. ((record { item = item; txn = txn_of (p.job_at job) item; job = job; line = line }) ∷ [], refl)))) e
row_marks l p (Read job line d at via question) may e = at_put MarkSteps p.server_at d _ marks_same (marks_same (p.server_at d)) e
row_marks l p (Grant d session job mode key at) may e = at_put MarkSteps p.server_at d _ marks_same (grant_marks (p.server_at d) session job mode key at) e
row_marks l p (Granted job line d at) may e = at_put MarkSteps p.server_at d _ marks_same (granted_marks (p.server_at d) (app_of l job) job at) e
row_marks l p (GiveUp job line d mode key) may e = at_put MarkSteps p.server_at d _ marks_same (give_marks (p.server_at d) (app_of l job) job mode key) e
row_marks l p (Quit job line d mode key) may e = at_put MarkSteps p.server_at d _ marks_same (quit_marks (p.server_at d) (app_of l job) job mode key) e
row_marks l p (Free d session job mode key) may e = at_put MarkSteps p.server_at d _ marks_same (free_marks (p.server_at d) session job mode key may) e
row_marks l p (Counted job line d at sum) may e = at_put MarkSteps p.server_at d _ marks_same (marks_same (p.server_at d)) e
row_marks l p (NotWhole job line d at) may e = at_put MarkSteps p.server_at d _ marks_same (marks_same (p.server_at d)) e
row_marks l p (Range job line d at) may e = at_put MarkSteps p.server_at d _ marks_same (marks_same (p.server_at d)) e
row_marks l p (Committed job line d at) may e = at_put MarkSteps p.server_at d _ marks_same (marks_same (p.server_at d)) e
row_marks l p (RolledBack job line d at) may e = at_put MarkSteps p.server_at d _ marks_same (marks_same (p.server_at d)) e
row_marks l p (Reached job line d at) may e = at_put MarkSteps p.server_at d _ marks_same (marks_same (p.server_at d)) e
row_marks l p (Level job line level) may e = marks_same (p.server_at e)
row_marks l p (Done job line) may e = marks_same (p.server_at e)
row_marks l p (Refused job line refusal) may e = refused_marks p job refusal e
row_marks l p (Broke app d end time) may e = at_put MarkSteps p.server_at d _ marks_same (broke_marks (p.server_at d) app end time) e
row_marks l p (Mended app d) may e = at_put MarkSteps p.server_at d _ marks_same (marks_same (p.server_at d)) e
row_marks l p (Tick time) may e = marks_same (p.server_at e)
row_marks l p (Lose app d loss) may e = lost_marks l p app d loss e
row_marks l p (Died app) may e = marks_same (p.server_at e)

run_marks : (l : Layout) (p : Plain) (acts : List Act) → RunFrom l p acts → ((d : ℕ) → PairsKept (p.server_at d).session_at (p.server_at d).pair_at)
    → ((d : ℕ) → OrdersKept (facet (p.server_at d))) → ((d : ℕ) → LocksKept (locks (p.server_at d)))
    → ((d : ℕ) → MarksKept (locks (p.server_at d)) (p.server_at d).turns)
    → (e : ℕ) → MarksKept (locks ((after_all l p acts).server_at e)) ((after_all l p acts).server_at e).turns
run_marks l p [] run pairs os ls ms e = ms e
run_marks l p (a ∷ acts) run pairs os ls ms e =
    run_marks l (after l p a) acts run.1 (λ d. row_pairs l p a run.0 d (pairs d)) (λ d. (row_steps l p a run.0 d (os d)).0)
    (λ d. row_locks l p a run.0 pairs d (os d) (ls d)) (λ d. row_marks l p a run.0 d (os d) (ls d) (ms d)) e

pub marks_kept : (l : Layout) (acts : List Act) (d : ℕ) → IsRun l acts → MarksKept (locks (server_after l acts d)) (server_after l acts d).turns
marks_kept l acts d run =
    run_marks l start acts run (λ e. record { met = λ a n h. absurd (cc (h)) }) start_kept start_locks
    (λ e. record { over = tt; turns = record { once = λ n. omega arith; below = λ n low. omega arith }; rise = tt }) d

pub gone_is_given : EachHold GoneIsGiven
gone_is_given l acts d run i h is =
    (each_at (OverOf (locks (server_after l acts d))) (server_after l acts d).holds i h (marks_kept l acts d run).over is).0

pub gone_is_over : EachHold GoneIsOver
gone_is_over l acts d run i h is due gone touch = go ((each_at (OverOf (locks s)) s.holds i h (marks_kept l acts d run).over is).1 due gone touch)
  where
    s : Server
    s = server_after l acts d

    some_and : (o : Option Given) (P : Given → Type 0) (g : Given) → o ≡ Some g → P g → IsSomeAnd o P
    some_and o P g e p = subst (λ r. IsSomeAnd r P) (sym e) p

    go : OverIn s.order s.synced (issued_of (s.session_at h.session)) h → IsOver s h
    go (inl c) = inl c
    go (inr c) = inr (some_and h.given _ c.0 c.1 c.2)

pub turns_are_below : EachServer TurnsAreBelow
turns_are_below l acts d run =
    below_none s.turns (hold_turns s.holds ++ quit_turns s.quits)
    (λ n low. omega (arith, times-append n (hold_turns s.holds) (quit_turns s.quits), (marks_kept l acts d run).turns.below n low))
  where
    s : Server
    s = server_after l acts d

pub turns_differ : EachServer TurnsDiffer
turns_differ l acts d run =
    distinct_once (hold_turns s.holds ++ quit_turns s.quits)
    (λ n. omega (arith, times-append n (hold_turns s.holds) (quit_turns s.quits), (marks_kept l acts d run).turns.once n))
  where
    s : Server
    s = server_after l acts d

pub quits_in_order : EachServer QuitsInOrder
quits_in_order l acts d run i j q r at there low =
    rise_at (server_after l acts d).quits (server_after l acts d).turns i j q r (marks_kept l acts d run).rise at there low

pub turns_tell : EachServer TurnsTell
turns_tell l acts d run = record {
  holds = λ i j h k g o at there is other e.
      holds_once o.turn s.holds i j h k g o (omega (arith, once o.turn)) at there is other e refl;
  quits = λ i j q r at there e. quits_once r.given.turn s.quits i j q r (omega (arith, once r.given.turn)) at there e refl;
  apart = λ i j h g q at is there e.
      omega (arith, once g.turn, hold_once g.turn s.holds i h g at is refl, quit_once g.turn s.quits j q there (sym e));
}
  where
    s : Server
    s = server_after l acts d

    once : (n : ℕ) → in_holds n s.holds + in_quits n s.quits ≤ 1
    once = (marks_kept l acts d run).turns.once
