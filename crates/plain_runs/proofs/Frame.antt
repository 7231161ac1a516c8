-- Laws of one step: the servers that it leaves, and what jobs have seen.
use Rattle.std.proofs.Common.{◌≡◌, ◌≢◌, ℕ, ◌≤◌, refl, ap, subst, sym, Bool, true, false, arith, eqb, if◌then◌else◌, Some}
use Rattle.std.proofs.lemmas.Bool.{eqb-true, ne_eqb}
use Rattle.plain_orders.specs.declared.act.Act.{Act}
use Rattle.plain_orders.specs.declared.act.Act.TheVariants.{Opened, Enter, Synced, Shut, Release, Met, Told, Back, Crash, Issue, Read, Grant, Granted, GiveUp, Quit, Free, Counted, NotWhole, Range, Committed, RolledBack, Reached, Level, Done, Refused, Broke, Mended, Tick, Lose, Died}
use Rattle.plain_orders.specs.declared.refused.Refused.{Refused as Refusal}
use Rattle.plain_orders.specs.declared.refused.Refused.TheVariants.{NoTransaction, TooDeep, RollbackOnly, LockTimeout, Network}
use Rattle.plain_orders.specs.declared.refused.ReasonName.TheVariants.{Reset, Expired}
use Rattle.plain_orders.specs.declared.causes.Loss.{Loss}
use Rattle.plain_orders.specs.declared.causes.Loss.TheVariants.{Reset as ByReset, Expired as ByExpired, NoWay as ByNoWay}
use Rattle.plain_orders.specs.declared.causes.PairEnd.{PairEnd}
use Rattle.plain_orders.specs.declared.causes.PairEnd.TheVariants.{App as AppEnd, Server as ServerEnd}
use Rattle.plain_orders.specs.declared.entry.Entry.{Entry}
use Rattle.plain_orders.specs.declared.entry.Entry.TheVariants.{Epoch, Opened as OpenedEntry, Closed, Update, Commit, Rollback}
use Rattle.plain_orders.specs.declared.layout.Layout.{Layout}
use Rattle.plain_runs.specs.Plain.{Plain, Server, Known, put, runs_on, start}
use Rattle.plain_runs.specs.OrderRows.{entered}
use Rattle.plain_runs.specs.EndRows.{broke, lost, knows_loss, knows_noway}
use Rattle.plain_runs.specs.JobRows.{refused}
use Rattle.plain_runs.specs.Step.{MayCome, after}
use Rattle.plain_runs.specs.Laws.{Extended, Framed, SeenNeverFalls, act_server, may_fall}
use Rattle.plain_runs.proofs.RunLemmas.{run_more, after_all-more, at_put}

pub extended : Extended
extended l acts a run may = (run_more l start acts a run may, after_all-more l start acts a)

-- another place than the changed one
put_other : {X : Type 0} (f : ℕ → X) (k : ℕ) (x : X) (d : ℕ) → Some k ≢ Some d → put f k x d ≡ f d
put_other f k x d other = ap (λ (b : Bool). if b then x else f d) (ne_eqb d k (λ e. other (ap Some (sym e))))

framed_refusal : (p : Plain) (j : ℕ) (r : Refusal) (l line : ℕ) (d : ℕ) → act_server (Refused j line r) ≢ Some d → (refused p j r).server_at d ≡ p.server_at d
framed_refusal p j NoTransaction l line d other = refl
framed_refusal p j TooDeep l line d other = refl
framed_refusal p j RollbackOnly l line d other = refl
framed_refusal p j LockTimeout l line d other = refl
framed_refusal p j (Network server state reason) l line d other = put_other p.server_at server _ d other

framed_loss : (l : Layout) (p : Plain) (app server : ℕ) (loss : Loss) (d : ℕ) → Some server ≢ Some d → (lost l p app server loss).server_at d ≡ p.server_at d
framed_loss l p app server (ByReset at) d other = put_other p.server_at server _ d other
framed_loss l p app server (ByExpired time) d other = put_other p.server_at server _ d other
framed_loss l p app server (ByNoWay from to) d other = put_other p.server_at server _ d other

pub framed : Framed
framed l p (Opened d entries) e other = put_other p.server_at d _ e other
framed l p (Enter d entry) e other = put_other p.server_at d _ e other
framed l p (Synced d n) e other = put_other p.server_at d _ e other
framed l p (Shut d session cause) e other = put_other p.server_at d _ e other
framed l p (Release d session) e other = put_other p.server_at d _ e other
framed l p (Met app d session) e other = put_other p.server_at d _ e other
framed l p (Told app d session epoch kept) e other = put_other p.server_at d _ e other
framed l p (Back d) e other = put_other p.server_at d _ e other
framed l p (Crash d kept) e other = put_other p.server_at d _ e other
framed l p (Issue job line d w item) e other = put_other p.server_at d _ e other
framed l p (Read job line d at via question) e other = put_other p.server_at d _ e other
framed l p (Grant d session job mode key at) e other = put_other p.server_at d _ e other
framed l p (Granted job line d at) e other = put_other p.server_at d _ e other
framed l p (GiveUp job line d mode key) e other = put_other p.server_at d _ e other
framed l p (Quit job line d mode key) e other = put_other p.server_at d _ e other
framed l p (Free d session job mode key) e other = put_other p.server_at d _ e other
framed l p (Counted job line d at sum) e other = put_other p.server_at d _ e other
framed l p (NotWhole job line d at) e other = put_other p.server_at d _ e other
framed l p (Range job line d at) e other = put_other p.server_at d _ e other
framed l p (Committed job line d at) e other = put_other p.server_at d _ e other
framed l p (RolledBack job line d at) e other = put_other p.server_at d _ e other
framed l p (Reached job line d at) e other = put_other p.server_at d _ e other
framed l p (Level job line level) e other = refl
framed l p (Done job line) e other = refl
framed l p (Refused job line refusal) e other = framed_refusal p job refusal 0 line e other
framed l p (Broke app d end time) e other = put_other p.server_at d _ e other
framed l p (Mended app d) e other = put_other p.server_at d _ e other
framed l p (Tick time) e other = refl
framed l p (Lose app d loss) e other = framed_loss l p app d loss e other
framed l p (Died app) e other = refl

-- each job has seen at least as much
record Rises (s t : Server) : Type 0 where
  low : (j : ℕ) → (s.known_at j).seen ≤ (t.known_at j).seen

rises_same : (s : Server) → Rises s s
rises_same s = record { low = λ j. omega arith }

known_rises : (f : ℕ → Known) (j : ℕ) (k : Known) → (f j).seen ≤ k.seen → (i : ℕ) → (f i).seen ≤ (put f j k i).seen
known_rises f j k low i = go (eqb i j) refl
  where
    go : (b : Bool) → eqb i j ≡ b → (f i).seen ≤ (if b then k else f i).seen
    go true e = subst (λ n. (f n).seen ≤ k.seen) (sym (eqb-true i j e)) low
    go false e = omega arith

rises_jobs : (l : Layout) (s : Server) (app : ℕ) (f : Known → Known) → ((k : Known) → k.seen ≤ (f k).seen) → (j : ℕ) → (s.known_at j).seen ≤ (if runs_on l app j then f (s.known_at j) else s.known_at j).seen
rises_jobs l s app f low j = go (runs_on l app j)
  where
    go : (b : Bool) → (s.known_at j).seen ≤ (if b then f (s.known_at j) else s.known_at j).seen
    go true = low (s.known_at j)
    go false = omega arith

rises_entry : (s : Server) (e : Entry) → Rises s (entered s e)
rises_entry s (Epoch number) = record { low = λ j. omega arith }
rises_entry s (OpenedEntry session app) = record { low = λ j. omega arith }
rises_entry s (Closed session) = record { low = λ j. omega arith }
rises_entry s (Update session w job txn op) = record { low = λ j. omega arith }
rises_entry s (Commit session w job txn) = record { low = λ j. omega arith }
rises_entry s (Rollback session w job txn) = record { low = λ j. omega arith }

rises_end : (s : Server) (app : ℕ) (end : PairEnd) (time : ℕ) → Rises s (broke s app end time)
rises_end s app AppEnd time = record { low = λ j. omega arith }
rises_end s app ServerEnd time = record { low = λ j. omega arith }

rises_loss : (l : Layout) (p : Plain) (app server : ℕ) (loss : Loss) (d : ℕ) → Rises (p.server_at d) ((lost l p app server loss).server_at d)
rises_loss l p app server (ByReset at) d = at_put Rises p.server_at server _ rises_same (record { low = rises_jobs l (p.server_at server) app (knows_loss Reset) (λ k. omega arith) }) d
rises_loss l p app server (ByExpired time) d = at_put Rises p.server_at server _ rises_same (record { low = rises_jobs l (p.server_at server) app (knows_loss Expired) (λ k. omega arith) }) d
rises_loss l p app server (ByNoWay from to) d = at_put Rises p.server_at server _ rises_same (record { low = rises_jobs l (p.server_at server) app knows_noway (λ k. omega arith) }) d

rises_refusal : (p : Plain) (j : ℕ) (r : Refusal) (d : ℕ) → Rises (p.server_at d) ((refused p j r).server_at d)
rises_refusal p j NoTransaction d = rises_same _
rises_refusal p j TooDeep d = rises_same _
rises_refusal p j RollbackOnly d = rises_same _
rises_refusal p j LockTimeout d = rises_same _
rises_refusal p j (Network server state reason) d = at_put Rises p.server_at server _ rises_same (record { low = known_rises (p.server_at server).known_at j _ (omega arith) }) d

rises_known : (p : Plain) (d j : ℕ) (t : Server) (k : Known) → t.known_at ≡ put (p.server_at d).known_at j k → ((p.server_at d).known_at j).seen ≤ k.seen → (e : ℕ) → Rises (p.server_at e) (put p.server_at d t e)
rises_known p d j t k same low e = at_put Rises p.server_at d t rises_same (record { low = λ i. subst (λ (f : ℕ → Known). ((p.server_at d).known_at i).seen ≤ (f i).seen) (sym same) (known_rises (p.server_at d).known_at j k low i) }) e

step_rises : (l : Layout) (p : Plain) (a : Act) (e : ℕ) → MayCome l p a → may_fall a ≡ false → Rises (p.server_at e) ((after l p a).server_at e)
step_rises l p (Opened d entries) e may same = at_put Rises p.server_at d _ rises_same (record { low = λ j. omega arith }) e
step_rises l p (Enter d entry) e may same = at_put Rises p.server_at d _ rises_same (rises_entry _ entry) e
step_rises l p (Synced d n) e may same = at_put Rises p.server_at d _ rises_same (record { low = λ j. omega arith }) e
step_rises l p (Shut d session cause) e may same = at_put Rises p.server_at d _ rises_same (record { low = λ j. omega arith }) e
step_rises l p (Release d session) e may same = at_put Rises p.server_at d _ rises_same (record { low = λ j. omega arith }) e
step_rises l p (Met app d session) e may same = absurd (cc (same))
step_rises l p (Told app d session epoch kept) e may same = absurd (cc (same))
step_rises l p (Back d) e may same = at_put Rises p.server_at d _ rises_same (record { low = λ j. omega arith }) e
step_rises l p (Crash d kept) e may same = at_put Rises p.server_at d _ rises_same (record { low = λ j. omega arith }) e
step_rises l p (Issue job line d w item) e may same = rises_known p d job _ _ refl (omega arith) e
step_rises l p (Read job line d at via question) e may same = rises_known p d job _ _ refl may.1.no_less e
step_rises l p (Grant d session job mode key at) e may same = at_put Rises p.server_at d _ rises_same (record { low = λ j. omega arith }) e
step_rises l p (Granted job line d at) e may same = rises_known p d job _ _ refl (omega arith) e
step_rises l p (GiveUp job line d mode key) e may same = rises_known p d job _ _ refl (omega arith) e
step_rises l p (Quit job line d mode key) e may same = rises_known p d job _ _ refl (omega arith) e
step_rises l p (Free d session job mode key) e may same = at_put Rises p.server_at d _ rises_same (record { low = λ j. omega arith }) e
step_rises l p (Counted job line d at sum) e may same = rises_known p d job _ _ refl (omega arith) e
step_rises l p (NotWhole job line d at) e may same = rises_known p d job _ _ refl (omega arith) e
step_rises l p (Range job line d at) e may same = rises_known p d job _ _ refl (omega arith) e
step_rises l p (Committed job line d at) e may same = rises_known p d job _ _ refl (omega arith) e
step_rises l p (RolledBack job line d at) e may same = rises_known p d job _ _ refl (omega arith) e
step_rises l p (Reached job line d at) e may same = rises_known p d job _ _ refl (omega arith) e
step_rises l p (Level job line level) e may same = rises_same _
step_rises l p (Done job line) e may same = rises_same _
step_rises l p (Refused job line refusal) e may same = rises_refusal p job refusal e
step_rises l p (Broke app d end time) e may same = at_put Rises p.server_at d _ rises_same (rises_end _ app end time) e
step_rises l p (Mended app d) e may same = at_put Rises p.server_at d _ rises_same (record { low = λ j. omega arith }) e
step_rises l p (Tick time) e may same = rises_same _
step_rises l p (Lose app d loss) e may same = rises_loss l p app d loss e
step_rises l p (Died app) e may same = rises_same _

pub seen_never_falls : SeenNeverFalls
seen_never_falls l p a d j may same = (step_rises l p a d may same).low j
