-- A session is not met again.
use Rattle.std.proofs.Common.{◌≡◌, ℕ, List, [], ◌∷◌, ◌++◌, refl, sym, ap, ◌∙◌, true, false, ◌⊎◌, inl, inr, Option, Some, None}
use Rattle.std.specs.Prelude.{is_some, unwrap_or}
use Rattle.plain_orders.specs.declared.act.Act.{Act}
use Rattle.plain_orders.specs.declared.act.Act.TheVariants.{Opened, Enter, Synced, Shut, Release, Met, Told, Back, Crash, Issue, Read, Grant, Granted, GiveUp, Quit, Free, Counted, NotWhole, Range, Committed, RolledBack, Reached, Level, Done, Refused, Broke, Mended, Tick, Lose, Died}
use Rattle.plain_orders.specs.declared.refused.Refused.{Refused as Refusal}
use Rattle.plain_orders.specs.declared.refused.Refused.TheVariants.{NoTransaction, TooDeep, RollbackOnly, LockTimeout, Network}
use Rattle.plain_orders.specs.declared.refused.ReasonName.TheVariants.{Reset, Expired}
use Rattle.plain_orders.specs.declared.causes.Loss.{Loss}
use Rattle.plain_orders.specs.declared.causes.Loss.TheVariants.{Reset as ByReset, Expired as ByExpired, NoWay as ByNoWay}
use Rattle.plain_orders.specs.declared.causes.PairEnd.{PairEnd}
use Rattle.plain_orders.specs.declared.causes.PairEnd.TheVariants.{App as AppEnd, Server as ServerEnd}
use Rattle.plain_orders.specs.declared.layout.Layout.{Layout}
use Rattle.plain_runs.specs.Plain.{Entered, Plain, Server, Session, app_of, pair_session, start}
use Rattle.plain_runs.specs.EndRows.{begun_by, broke, entered_in, lost, told_of}
use Rattle.plain_runs.specs.JobRows.{has_session, issues, refused, txn_of}
use Rattle.plain_runs.specs.Step.{MayCome, after}
use Rattle.plain_runs.specs.Run.{RunFrom, after_all}
use Rattle.plain_runs.specs.Laws.{server_after}
use Rattle.plain_runs.specs.Together.{MetOnce}
use Rattle.plain_runs.proofs.RunLemmas.{at_put}
use Rattle.plain_runs.proofs.Orders.{OrdersKept, facet}
use Rattle.plain_runs.proofs.OrderLaws.{row_steps, start_kept}
use Rattle.plain_runs.proofs.Issued.{IssuedKept, view, row_steps as issued_rows}
use Rattle.plain_runs.proofs.Bases.{ToldKept, owner_in, sight, told_in}
use Rattle.plain_runs.proofs.SeenLaw.{start_told, told_rows}
use Rattle.plain_runs.proofs.MetOnce.{MetKept, MetLow, MetSteps, crash_met, enter_met, lose_met, lost_of, meet_met, meetings, opened_met, owner_met, pair_met_steps, shut_met}

met_same : (s : Server) → MetSteps s s
met_same s k = k

broke_met : (s : Server) (app : ℕ) (end : PairEnd) (time : ℕ) → MetSteps s (broke s app end time)
broke_met s app AppEnd time = pair_met_steps s app _ refl
broke_met s app ServerEnd time = met_same s

lost_met : (l : Layout) (p : Plain) (app d : ℕ) (loss : Loss) → IssuedKept (view (p.server_at d)) → (e : ℕ) → MetSteps (p.server_at e) ((lost l p app d loss).server_at e)
lost_met l p app d (ByReset at) is e = at_put MetSteps p.server_at d _ met_same (lose_met l (p.server_at d) app Reset is) e
lost_met l p app d (ByExpired time) is e = at_put MetSteps p.server_at d _ met_same (lose_met l (p.server_at d) app Expired is) e
lost_met l p app d (ByNoWay from to) is e = at_put MetSteps p.server_at d _ met_same (met_same (p.server_at d)) e

refused_met : (p : Plain) (j : ℕ) (r : Refusal) (e : ℕ) → MetSteps (p.server_at e) ((refused p j r).server_at e)
refused_met p j NoTransaction e = met_same (p.server_at e)
refused_met p j TooDeep e = met_same (p.server_at e)
refused_met p j RollbackOnly e = met_same (p.server_at e)
refused_met p j LockTimeout e = met_same (p.server_at e)
refused_met p j (Network d state reason) e = at_put MetSteps p.server_at d _ met_same (met_same (p.server_at d)) e

row_met : (l : Layout) (p : Plain) (a : Act) → MayCome l p a → ((d : ℕ) → OrdersKept (facet (p.server_at d))) → ((d : ℕ) → IssuedKept (view (p.server_at d))) → ((d : ℕ) → MetLow (p.server_at d)) → (e : ℕ) → MetSteps (p.server_at e) ((after l p a).server_at e)
row_met l p (Opened d entries) may os is low e = at_put MetSteps p.server_at d _ met_same (opened_met p.clock l.times.round (p.server_at d) entries may (os d) (is d)) e
row_met l p (Enter d x) may os is low e = at_put MetSteps p.server_at d _ met_same (enter_met l p.clock (p.server_at d) x may (os d).within (low d)) e
row_met l p (Synced d n) may os is low e = at_put MetSteps p.server_at d _ met_same (met_same (p.server_at d)) e
row_met l p (Shut d session cause) may os is low e = at_put MetSteps p.server_at d _ met_same (shut_met (p.server_at d) session) e
row_met l p (Release d session) may os is low e = at_put MetSteps p.server_at d _ met_same (met_same (p.server_at d)) e
row_met l p (Met app d session) may os is low e = at_put MetSteps p.server_at d _ met_same (meet_met l (p.server_at d) app session may.1) e
row_met l p (Told app d session epoch kept) may os is low e = at_put MetSteps p.server_at d _ met_same (owner_met (p.server_at d) (told_of l (p.server_at d) app session epoch kept) session (λ m. record m { told = begun_by (p.server_at d) epoch }) refl (λ m. refl)) e
row_met l p (Back d) may os is low e = at_put MetSteps p.server_at d _ met_same (met_same (p.server_at d)) e
row_met l p (Crash d kept) may os is low e = at_put MetSteps p.server_at d _ met_same (crash_met p.clock l.times.round (p.server_at d) kept may (low d)) e
row_met l p (Issue job line d w item) may os is low e = at_put MetSteps p.server_at d _ met_same (owner_met (p.server_at d) (issues (p.server_at d) (app_of l job) (record { item = item; txn = txn_of (p.job_at job) item; job = job; line = line })) (pair_session (p.server_at d) (app_of l job)) (λ m. record m { issued = m.issued ++ (record { item = item; txn = txn_of (p.job_at job) item; job = job; line = line }) ∷ [] }) refl (λ m. refl)) e
row_met l p (Read job line d at via question) may os is low e = at_put MetSteps p.server_at d _ met_same (met_same (p.server_at d)) e
row_met l p (Grant d session job mode key at) may os is low e = at_put MetSteps p.server_at d _ met_same (met_same (p.server_at d)) e
row_met l p (Granted job line d at) may os is low e = at_put MetSteps p.server_at d _ met_same (met_same (p.server_at d)) e
row_met l p (GiveUp job line d mode key) may os is low e = at_put MetSteps p.server_at d _ met_same (met_same (p.server_at d)) e
row_met l p (Quit job line d mode key) may os is low e = at_put MetSteps p.server_at d _ met_same (met_same (p.server_at d)) e
row_met l p (Free d session job mode key) may os is low e = at_put MetSteps p.server_at d _ met_same (met_same (p.server_at d)) e
row_met l p (Counted job line d at sum) may os is low e = at_put MetSteps p.server_at d _ met_same (met_same (p.server_at d)) e
row_met l p (NotWhole job line d at) may os is low e = at_put MetSteps p.server_at d _ met_same (met_same (p.server_at d)) e
row_met l p (Range job line d at) may os is low e = at_put MetSteps p.server_at d _ met_same (met_same (p.server_at d)) e
row_met l p (Committed job line d at) may os is low e = at_put MetSteps p.server_at d _ met_same (met_same (p.server_at d)) e
row_met l p (RolledBack job line d at) may os is low e = at_put MetSteps p.server_at d _ met_same (met_same (p.server_at d)) e
row_met l p (Reached job line d at) may os is low e = at_put MetSteps p.server_at d _ met_same (met_same (p.server_at d)) e
row_met l p (Level job line level) may os is low e = met_same (p.server_at e)
row_met l p (Done job line) may os is low e = met_same (p.server_at e)
row_met l p (Refused job line refusal) may os is low e = refused_met p job refusal e
row_met l p (Broke app d end time) may os is low e = at_put MetSteps p.server_at d _ met_same (broke_met (p.server_at d) app end time) e
row_met l p (Mended app d) may os is low e = at_put MetSteps p.server_at d _ met_same (pair_met_steps (p.server_at d) app _ refl) e
row_met l p (Tick time) may os is low e = met_same (p.server_at e)
row_met l p (Lose app d loss) may os is low e = lost_met l p app d loss (is d) e
row_met l p (Died app) may os is low e = met_same (p.server_at e)

met_low : (l : Layout) (s : Server) → ToldKept l (sight s) → MetLow s
met_low l s k n a o = k.met n (there (s.session_at n) o)
  where
    there : (o : Option Session) → owner_in o ≡ Some a → is_some (told_in o) ≡ true
    there None e = absurd (cc (e))
    there (Some m) e = refl

pub run_met : (l : Layout) (p : Plain) (acts : List Act) → RunFrom l p acts → ((d : ℕ) → OrdersKept (facet (p.server_at d))) → ((d : ℕ) → IssuedKept (view (p.server_at d))) → ((d : ℕ) → ToldKept l (sight (p.server_at d)))
    → ((d : ℕ) → MetKept (meetings (p.server_at d))) → (e : ℕ) → MetKept (meetings ((after_all l p acts).server_at e))
run_met l p [] run os is ts k e = k e
run_met l p (a ∷ acts) run os is ts k e =
    run_met l (after l p a) acts run.1 (λ d. (row_steps l p a run.0 d (os d)).0) (λ d. issued_rows l p a run.0 d (is d)) (λ d. told_rows l p a run.0 os is d (ts d))
    (λ d. row_met l p a run.0 os is (λ b. met_low l (p.server_at b) (ts b)) d (k d)) e

pub met_once : MetOnce
met_once l acts d app session run met opens = go (s.session_at session) refl met
  where
    s : Server
    s = server_after l acts d

    kept : MetKept (meetings s)
    kept =
        run_met l start acts run start_kept (λ e. record { fresh = λ _ n. refl; placed = tt; met = λ n m. absurd (cc (m)); as_issued = tt }) (start_told l)
        (λ e. record { mine = λ n a x at en. absurd (cc (en)); stands = λ n a o. absurd (cc (o)); lost = λ n a o. absurd (cc (o)) }) d

    behind : (o : Option Entered) → lost_of o ≡ true → (unwrap_or o (record { app = 0; in_order = 0; lost_since = false })).lost_since ≡ true
    behind None h = h
    behind (Some e) h = h

    cases : (a : ℕ) → a ≡ app → ((s.pair_at a).session ≡ Some session) ⊎ (lost_of (s.entered_at session) ≡ true) → (has_session s app ≡ true) ⊎ ((entered_in s session).lost_since ≡ true)
    cases a same (inl p) = inl (ap (λ b. is_some (s.pair_at b).session) (sym same) ∙ ap is_some p)
    cases a same (inr h) = inr (behind (s.entered_at session) h)

    go : (o : Option Session) → s.session_at session ≡ o → is_some o ≡ true → (has_session s app ≡ true) ⊎ ((entered_in s session).lost_since ≡ true)
    go None e h = absurd (cc (h))
    go (Some m) e h =
        let same : m.app ≡ app = cc (opens, kept.stands session m.app (ap owner_in e)) in
        cases m.app same (kept.lost session m.app (ap owner_in e))
