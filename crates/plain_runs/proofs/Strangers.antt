-- A job that isn't there is told of nothing.
use Rattle.std.proofs.Common.{◌≡◌, ℕ, ◌<◌, ◌≤◌, List, [], ◌∷◌, length, refl, subst, sym, ap, ◌∙◌, Bool, true, false, ◌==◌, ◌&&◌, ◌||◌, if◌then◌else◌, arith}
use Rattle.std.specs.Prelude.{nat_lt}
use Rattle.std.specs.List.{list_any}
use Rattle.std.proofs.lemmas.Bool.{ne_eqb, ltb-true}
use Rattle.plain_orders.specs.declared.act.Act.{Act}
use Rattle.plain_orders.specs.declared.act.Act.TheVariants.{Opened, Enter, Synced, Shut, Release, Met, Told, Back, Crash, Issue, Read, Grant, Granted, GiveUp, Quit, Free, Counted, NotWhole, Range, Committed, RolledBack, Reached, Level, Done, Refused, Broke, Mended, Tick, Lose, Died}
use Rattle.plain_orders.specs.declared.refused.Refused.{Refused as Refusal}
use Rattle.plain_orders.specs.declared.refused.Refused.TheVariants.{NoTransaction, TooDeep, RollbackOnly, LockTimeout, Network}
use Rattle.plain_orders.specs.declared.causes.Loss.{Loss}
use Rattle.plain_orders.specs.declared.causes.Loss.TheVariants.{Reset as ByReset, Expired as ByExpired, NoWay as ByNoWay}
use Rattle.plain_orders.specs.declared.causes.PairEnd.{PairEnd}
use Rattle.plain_orders.specs.declared.causes.PairEnd.TheVariants.{App as AppEnd, Server as ServerEnd}
use Rattle.plain_orders.specs.declared.entry.Entry.{Entry}
use Rattle.plain_orders.specs.declared.entry.Entry.TheVariants.{Epoch, Opened as OpenedEntry, Closed, Update, Commit, Rollback}
use Rattle.plain_orders.specs.declared.layout.Layout.{Layout}
use Rattle.plain_runs.specs.Plain.{Plain, Server, Known, Job, put, start, app_of, issued_in, pair_session, runs_on}
use Rattle.plain_runs.specs.OrderRows.{entered}
use Rattle.plain_runs.specs.EndRows.{broke, lost, has_open_update, job_after_loss}
use Rattle.plain_runs.specs.JobRows.{RefusedMay, refused, is_reason}
use Rattle.plain_runs.specs.Step.{MayCome, after}
use Rattle.plain_runs.specs.Run.{RunFrom, after_all, state_after}
use Rattle.plain_runs.specs.Together.{StrangersAreToldNothing}
use Rattle.plain_runs.proofs.RunLemmas.{at_put}

-- a job without a transaction, whose requests were never given up
record Idle (x : Job) : Type 0 where
  level : x.level ≡ 0
  free : x.rollback_only ≡ false
  quits : x.quit_lines ≡ []

abbrev Same : ℕ → Server → Server → Type 0
Same j s t = t.known_at j ≡ s.known_at j

same : (j : ℕ) (s : Server) → Same j s s
same j s = refl

-- a change at a job of the layout leaves a job that isn't there
other : {X : Type 0} (l : Layout) (f : ℕ → X) (job : ℕ) (x : X) (j : ℕ) → length l.job_apps ≤ j → job < length l.job_apps → put f job x j ≡ f j
other l f job x j far low = ap (λ (b : Bool). if b then x else f j) (ne_eqb j job (λ e. omega (arith, e, far, low)))

no_runs : (l : Layout) (app j : ℕ) → length l.job_apps ≤ j → runs_on l app j ≡ false
no_runs l app j far = go (nat_lt j (length l.job_apps)) refl
  where
    go : (b : Bool) → nat_lt j (length l.job_apps) ≡ b → (b && app_of l j == app) ≡ false
    go true e = absurd (omega (arith, far, ltb-true j (length l.job_apps) e))
    go false e = refl

apart : {X : Type 0} (l : Layout) (app j : ℕ) → length l.job_apps ≤ j → (x y : X) → (if runs_on l app j then x else y) ≡ y
apart l app j far x y = ap (λ (b : Bool). if b then x else y) (no_runs l app j far)

entered_known : (s : Server) (x : Entry) (j : ℕ) → Same j s (entered s x)
entered_known s (Epoch number) j = refl
entered_known s (OpenedEntry session app) j = refl
entered_known s (Closed session) j = refl
entered_known s (Update session w job txn op) j = refl
entered_known s (Commit session w job txn) j = refl
entered_known s (Rollback session w job txn) j = refl

broke_known : (s : Server) (app : ℕ) (end : PairEnd) (time : ℕ) (j : ℕ) → Same j s (broke s app end time)
broke_known s app AppEnd time j = refl
broke_known s app ServerEnd time j = refl

lost_known : (l : Layout) (p : Plain) (app d : ℕ) (loss : Loss) (j : ℕ) → length l.job_apps ≤ j → (e : ℕ) → Same j (p.server_at e) ((lost l p app d loss).server_at e)
lost_known l p app d (ByReset at) j far e = at_put (Same j) p.server_at d _ (same j) (apart l app j far _ _) e
lost_known l p app d (ByExpired time) j far e = at_put (Same j) p.server_at d _ (same j) (apart l app j far _ _) e
lost_known l p app d (ByNoWay from to) j far e = at_put (Same j) p.server_at d _ (same j) (apart l app j far _ _) e

refused_known : (l : Layout) (p : Plain) (job : ℕ) (r : Refusal) (j : ℕ) → length l.job_apps ≤ j → job < length l.job_apps → (e : ℕ) → Same j (p.server_at e) ((refused p job r).server_at e)
refused_known l p job NoTransaction j far low e = refl
refused_known l p job TooDeep j far low e = refl
refused_known l p job RollbackOnly j far low e = refl
refused_known l p job LockTimeout j far low e = refl
refused_known l p job (Network d state reason) j far low e = at_put (Same j) p.server_at d _ (same j) (other l (p.server_at d).known_at job _ j far low) e

row_known : (l : Layout) (p : Plain) (a : Act) (j : ℕ) → length l.job_apps ≤ j → MayCome l p a → (e : ℕ) → Same j (p.server_at e) ((after l p a).server_at e)
row_known l p (Opened d entries) j far may e = at_put (Same j) p.server_at d _ (same j) (refl) e
row_known l p (Synced d n) j far may e = at_put (Same j) p.server_at d _ (same j) (refl) e
row_known l p (Shut d session cause) j far may e = at_put (Same j) p.server_at d _ (same j) (refl) e
row_known l p (Release d session) j far may e = at_put (Same j) p.server_at d _ (same j) (refl) e
row_known l p (Back d) j far may e = at_put (Same j) p.server_at d _ (same j) (refl) e
row_known l p (Crash d kept) j far may e = at_put (Same j) p.server_at d _ (same j) (refl) e
row_known l p (Grant d session job mode key at) j far may e = at_put (Same j) p.server_at d _ (same j) (refl) e
row_known l p (Free d session job mode key) j far may e = at_put (Same j) p.server_at d _ (same j) (refl) e
row_known l p (Mended app d) j far may e = at_put (Same j) p.server_at d _ (same j) (refl) e
row_known l p (Enter d x) j far may e = at_put (Same j) p.server_at d _ (same j) (entered_known (p.server_at d) x j) e
row_known l p (Met app d session) j far may e = at_put (Same j) p.server_at d _ (same j) (apart l app j far _ _) e
row_known l p (Told app d session epoch kept) j far may e = at_put (Same j) p.server_at d _ (same j) (apart l app j far _ _) e
row_known l p (Issue job line d w item) j far may e = at_put (Same j) p.server_at d _ (same j) (other l (p.server_at d).known_at job _ j far may.0.known) e
row_known l p (Read job line d at via question) j far may e = at_put (Same j) p.server_at d _ (same j) (other l (p.server_at d).known_at job _ j far may.0.known) e
row_known l p (Granted job line d at) j far may e = at_put (Same j) p.server_at d _ (same j) (other l (p.server_at d).known_at job _ j far may.0.known) e
row_known l p (GiveUp job line d mode key) j far may e = at_put (Same j) p.server_at d _ (same j) (other l (p.server_at d).known_at job _ j far may.0.known) e
row_known l p (Quit job line d mode key) j far may e = at_put (Same j) p.server_at d _ (same j) (other l (p.server_at d).known_at job _ j far may.0.known) e
row_known l p (Counted job line d at sum) j far may e = at_put (Same j) p.server_at d _ (same j) (other l (p.server_at d).known_at job _ j far may.0.known) e
row_known l p (NotWhole job line d at) j far may e = at_put (Same j) p.server_at d _ (same j) (other l (p.server_at d).known_at job _ j far may.0.known) e
row_known l p (Range job line d at) j far may e = at_put (Same j) p.server_at d _ (same j) (other l (p.server_at d).known_at job _ j far may.0.known) e
row_known l p (Committed job line d at) j far may e = at_put (Same j) p.server_at d _ (same j) (other l (p.server_at d).known_at job _ j far may.0.known) e
row_known l p (RolledBack job line d at) j far may e = at_put (Same j) p.server_at d _ (same j) (other l (p.server_at d).known_at job _ j far may.0.known) e
row_known l p (Reached job line d at) j far may e = at_put (Same j) p.server_at d _ (same j) (other l (p.server_at d).known_at job _ j far may.0.known) e
row_known l p (Level job line level) j far may e = refl
row_known l p (Done job line) j far may e = refl
row_known l p (Refused job line refusal) j far may e = refused_known l p job refusal j far may.0.known e
row_known l p (Broke app d end time) j far may e = at_put (Same j) p.server_at d _ (same j) (broke_known (p.server_at d) app end time j) e
row_known l p (Tick time) j far may e = refl
row_known l p (Lose app d loss) j far may e = lost_known l p app d loss j far e
row_known l p (Died app) j far may e = refl

idle_after : (l : Layout) (s : Server) (app j : ℕ) (x : Job) → length l.job_apps ≤ j → Idle x → Idle (job_after_loss l s app j x)
idle_after l s app j x far k = record {
  level = k.level;
  free = ap (λ (b : Bool). x.rollback_only || (b && has_open_update x j (issued_in s (pair_session s app)))) (no_runs l app j far) ∙ ap (λ (b : Bool). b || false) k.free;
  quits = k.quits;
}

lost_job : (l : Layout) (p : Plain) (app d : ℕ) (loss : Loss) (j : ℕ) → length l.job_apps ≤ j → Idle (p.job_at j) → Idle ((lost l p app d loss).job_at j)
lost_job l p app d (ByReset at) j far k = idle_after l (p.server_at d) app j (p.job_at j) far k
lost_job l p app d (ByExpired time) j far k = idle_after l (p.server_at d) app j (p.job_at j) far k
lost_job l p app d (ByNoWay from to) j far k = k

refused_job : (p : Plain) (job : ℕ) (r : Refusal) (j : ℕ) → Idle (p.job_at j) → Idle ((refused p job r).job_at j)
refused_job p job NoTransaction j k = k
refused_job p job TooDeep j k = k
refused_job p job RollbackOnly j k = k
refused_job p job LockTimeout j k = k
refused_job p job (Network d state reason) j k = k

row_job : (l : Layout) (p : Plain) (a : Act) (j : ℕ) → length l.job_apps ≤ j → MayCome l p a → Idle (p.job_at j) → Idle ((after l p a).job_at j)
row_job l p (Opened d entries) j far may k = k
row_job l p (Enter d x) j far may k = k
row_job l p (Synced d n) j far may k = k
row_job l p (Shut d session cause) j far may k = k
row_job l p (Release d session) j far may k = k
row_job l p (Met app d session) j far may k = k
row_job l p (Told app d session epoch kept) j far may k = k
row_job l p (Back d) j far may k = k
row_job l p (Crash d kept) j far may k = k
row_job l p (Issue job line d w item) j far may k = k
row_job l p (Read job line d at via question) j far may k = k
row_job l p (Grant d session job mode key at) j far may k = k
row_job l p (Granted job line d at) j far may k = k
row_job l p (GiveUp job line d mode key) j far may k = k
row_job l p (Quit job line d mode key) j far may k = subst Idle (sym (other l p.job_at job _ j far may.0.known)) k
row_job l p (Free d session job mode key) j far may k = k
row_job l p (Counted job line d at sum) j far may k = k
row_job l p (NotWhole job line d at) j far may k = k
row_job l p (Range job line d at) j far may k = k
row_job l p (Committed job line d at) j far may k = k
row_job l p (RolledBack job line d at) j far may k = k
row_job l p (Reached job line d at) j far may k = k
row_job l p (Level job line level) j far may k = subst Idle (sym (other l p.job_at job _ j far may.0.known)) k
row_job l p (Done job line) j far may k = k
row_job l p (Refused job line refusal) j far may k = refused_job p job refusal j k
row_job l p (Broke app d end time) j far may k = k
row_job l p (Mended app d) j far may k = k
row_job l p (Tick time) j far may k = k
row_job l p (Lose app d loss) j far may k = lost_job l p app d loss j far k
row_job l p (Died app) j far may k = k

run_job : (l : Layout) (p : Plain) (acts : List Act) (j : ℕ) → length l.job_apps ≤ j → RunFrom l p acts → Idle (p.job_at j) → Idle ((after_all l p acts).job_at j)
run_job l p [] j far run k = k
run_job l p (a ∷ acts) j far run k = run_job l (after l p a) acts j far run.1 (row_job l p a j far run.0 k)

run_known : (l : Layout) (p : Plain) (acts : List Act) (j : ℕ) → length l.job_apps ≤ j → RunFrom l p acts → (e : ℕ) → Same j (p.server_at e) ((after_all l p acts).server_at e)
run_known l p [] j far run e = refl
run_known l p (a ∷ acts) j far run e = run_known l (after l p a) acts j far run.1 e ∙ row_known l p a j far run.0 e

pub strangers_are_told_nothing : StrangersAreToldNothing
strangers_are_told_nothing l acts job line refusal run far may = go refusal may
  where
    p : Plain
    p = state_after l acts

    idle : Idle (p.job_at job)
    idle = run_job l start acts job far run (record { level = refl; free = refl; quits = refl })

    go : (r : Refusal) → RefusedMay p job line r → r ≡ NoTransaction
    go NoTransaction may = refl
    go TooDeep may = absurd (omega (arith, may, idle.level))
    go RollbackOnly may = absurd (cc (may, idle.free))
    go LockTimeout may = absurd (cc (subst (λ (ls : List ℕ). list_any (λ i. i == line) ls ≡ true) idle.quits may))
    go (Network d state reason) may = absurd (cc (subst (λ (x : Known). list_any (is_reason reason) x.news ≡ true) (run_known l start acts job far run d) may.news))
