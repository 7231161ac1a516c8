-- An order that isn't later than the told one has no Epoch above that one's.
use Rattle.std.proofs.Common.{◌≡◌, ℕ, zero, suc, ◌≤◌, List, [], ◌∷◌, length, refl, ap, arith, Option, Some, None}
use Rattle.std.specs.Prelude.{unwrap_or}
use Rattle.plain_orders.specs.declared.act.Act.{Act}
use Rattle.plain_orders.specs.declared.act.Act.TheVariants.{Opened, Enter, Synced, Shut, Release, Met, Told, Back, Crash, Issue, Read, Grant, Granted, GiveUp, Quit, Free, Counted, NotWhole, Range, Committed, RolledBack, Reached, Level, Done, Refused, Broke, Mended, Tick, Lose, Died}
use Rattle.plain_orders.specs.declared.refused.Refused.{Refused as Refusal}
use Rattle.plain_orders.specs.declared.refused.Refused.TheVariants.{NoTransaction, TooDeep, RollbackOnly, LockTimeout, Network}
use Rattle.plain_orders.specs.declared.causes.Loss.{Loss}
use Rattle.plain_orders.specs.declared.causes.Loss.TheVariants.{Reset as ByReset, Expired as ByExpired, NoWay as ByNoWay}
use Rattle.plain_orders.specs.declared.causes.PairEnd.{PairEnd}
use Rattle.plain_orders.specs.declared.causes.PairEnd.TheVariants.{App as AppEnd, Server as ServerEnd}
use Rattle.plain_orders.specs.declared.layout.Layout.{Layout}
use Rattle.plain_orders.specs.Entries.{last_epoch}
use Rattle.plain_runs.specs.Plain.{Plain, Server, Session, order_at, session_in, start}
use Rattle.plain_runs.specs.EndRows.{begun_by, broke, lost}
use Rattle.plain_runs.specs.JobRows.{refused}
use Rattle.plain_runs.specs.Step.{MayCome, after}
use Rattle.plain_runs.specs.Run.{RunFrom, after_all}
use Rattle.plain_runs.specs.Laws.{server_after}
use Rattle.plain_runs.specs.Together.{NoLaterEpoch}
use Rattle.plain_runs.proofs.RunLemmas.{at_put}
use Rattle.plain_runs.proofs.Orders.{facet, OrdersKept}
use Rattle.plain_runs.proofs.OrderLaws.{row_steps, start_kept}
use Rattle.plain_runs.proofs.Bases.{ToldKept, or_else, owner_in, place_in, sight, told_in}
use Rattle.plain_runs.proofs.SeenLaw.{told_kept}
use Rattle.plain_runs.proofs.ToldItems.{nth}
use Rattle.plain_runs.proofs.Epochs.{Rise, EpochsKept, EpochSteps, crash_epochs, enter_epochs, opened_epochs, place_none, saved_epochs, shut_epochs}

epochs_same : (s : Server) → EpochSteps s s
epochs_same s k = k

broke_epochs : (s : Server) (app : ℕ) (end : PairEnd) (time : ℕ) → EpochSteps s (broke s app end time)
broke_epochs s app AppEnd time = epochs_same s
broke_epochs s app ServerEnd time = epochs_same s

lost_epochs : (l : Layout) (p : Plain) (app d : ℕ) (loss : Loss) (e : ℕ) → EpochSteps (p.server_at e) ((lost l p app d loss).server_at e)
lost_epochs l p app d (ByReset at) e = at_put EpochSteps p.server_at d _ epochs_same (epochs_same (p.server_at d)) e
lost_epochs l p app d (ByExpired time) e = at_put EpochSteps p.server_at d _ epochs_same (epochs_same (p.server_at d)) e
lost_epochs l p app d (ByNoWay from to) e = at_put EpochSteps p.server_at d _ epochs_same (epochs_same (p.server_at d)) e

refused_epochs : (p : Plain) (j : ℕ) (r : Refusal) (e : ℕ) → EpochSteps (p.server_at e) ((refused p j r).server_at e)
refused_epochs p j NoTransaction e = epochs_same (p.server_at e)
refused_epochs p j TooDeep e = epochs_same (p.server_at e)
refused_epochs p j RollbackOnly e = epochs_same (p.server_at e)
refused_epochs p j LockTimeout e = epochs_same (p.server_at e)
refused_epochs p j (Network d state reason) e = at_put EpochSteps p.server_at d _ epochs_same (epochs_same (p.server_at d)) e

row_epochs : (l : Layout) (p : Plain) (a : Act) → MayCome l p a → ((d : ℕ) → OrdersKept (facet (p.server_at d))) → (e : ℕ) → EpochSteps (p.server_at e) ((after l p a).server_at e)
row_epochs l p (Opened d entries) may os e = at_put EpochSteps p.server_at d _ epochs_same (opened_epochs p.clock l.times.round (p.server_at d) entries may (os d)) e
row_epochs l p (Enter d x) may os e = at_put EpochSteps p.server_at d _ epochs_same (enter_epochs l p.clock (p.server_at d) x may (os d).within) e
row_epochs l p (Synced d n) may os e = at_put EpochSteps p.server_at d _ epochs_same (saved_epochs (p.server_at d) n may) e
row_epochs l p (Shut d session cause) may os e = at_put EpochSteps p.server_at d _ epochs_same (shut_epochs (p.server_at d) session (os d).within) e
row_epochs l p (Release d session) may os e = at_put EpochSteps p.server_at d _ epochs_same (epochs_same (p.server_at d)) e
row_epochs l p (Met app d session) may os e = at_put EpochSteps p.server_at d _ epochs_same (epochs_same (p.server_at d)) e
row_epochs l p (Told app d session epoch kept) may os e = at_put EpochSteps p.server_at d _ epochs_same (epochs_same (p.server_at d)) e
row_epochs l p (Back d) may os e = at_put EpochSteps p.server_at d _ epochs_same (epochs_same (p.server_at d)) e
row_epochs l p (Crash d kept) may os e = at_put EpochSteps p.server_at d _ epochs_same (crash_epochs p.clock l.times.round (p.server_at d) kept may) e
row_epochs l p (Issue job line d w item) may os e = at_put EpochSteps p.server_at d _ epochs_same (epochs_same (p.server_at d)) e
row_epochs l p (Read job line d at via question) may os e = at_put EpochSteps p.server_at d _ epochs_same (epochs_same (p.server_at d)) e
row_epochs l p (Grant d session job mode key at) may os e = at_put EpochSteps p.server_at d _ epochs_same (epochs_same (p.server_at d)) e
row_epochs l p (Granted job line d at) may os e = at_put EpochSteps p.server_at d _ epochs_same (epochs_same (p.server_at d)) e
row_epochs l p (GiveUp job line d mode key) may os e = at_put EpochSteps p.server_at d _ epochs_same (epochs_same (p.server_at d)) e
row_epochs l p (Quit job line d mode key) may os e = at_put EpochSteps p.server_at d _ epochs_same (epochs_same (p.server_at d)) e
row_epochs l p (Free d session job mode key) may os e = at_put EpochSteps p.server_at d _ epochs_same (epochs_same (p.server_at d)) e
row_epochs l p (Counted job line d at sum) may os e = at_put EpochSteps p.server_at d _ epochs_same (epochs_same (p.server_at d)) e
row_epochs l p (NotWhole job line d at) may os e = at_put EpochSteps p.server_at d _ epochs_same (epochs_same (p.server_at d)) e
row_epochs l p (Range job line d at) may os e = at_put EpochSteps p.server_at d _ epochs_same (epochs_same (p.server_at d)) e
row_epochs l p (Committed job line d at) may os e = at_put EpochSteps p.server_at d _ epochs_same (epochs_same (p.server_at d)) e
row_epochs l p (RolledBack job line d at) may os e = at_put EpochSteps p.server_at d _ epochs_same (epochs_same (p.server_at d)) e
row_epochs l p (Reached job line d at) may os e = at_put EpochSteps p.server_at d _ epochs_same (epochs_same (p.server_at d)) e
row_epochs l p (Level job line level) may os e = epochs_same (p.server_at e)
row_epochs l p (Done job line) may os e = epochs_same (p.server_at e)
row_epochs l p (Refused job line refusal) may os e = refused_epochs p job refusal e
row_epochs l p (Broke app d end time) may os e = at_put EpochSteps p.server_at d _ epochs_same (broke_epochs (p.server_at d) app end time) e
row_epochs l p (Mended app d) may os e = at_put EpochSteps p.server_at d _ epochs_same (epochs_same (p.server_at d)) e
row_epochs l p (Tick time) may os e = epochs_same (p.server_at e)
row_epochs l p (Lose app d loss) may os e = lost_epochs l p app d loss e
row_epochs l p (Died app) may os e = epochs_same (p.server_at e)

run_epochs : (l : Layout) (p : Plain) (acts : List Act) → RunFrom l p acts → ((d : ℕ) → OrdersKept (facet (p.server_at d))) → ((d : ℕ) → EpochsKept (facet (p.server_at d))) → (e : ℕ) → EpochsKept (facet ((after_all l p acts).server_at e))
run_epochs l p [] run os k e = k e
run_epochs l p (a ∷ acts) run os k e = run_epochs l (after l p a) acts run.1 (λ d. (row_steps l p a run.0 d (os d)).0) (λ d. row_epochs l p a run.0 os d (k d)) e

start_epochs : (d : ℕ) → EpochsKept (facet (start.server_at d))
start_epochs d = record { rise = λ k low. first k (omega arith); chain = λ j k up low. none j k (omega arith) (omega arith); near = omega arith }
  where
    first : (k : ℕ) → k ≡ 0 → Rise 0 (nth [] [] k)
    first zero e = tt
    first (suc k) e = tt

    none : (j k : ℕ) → j ≡ 0 → k ≡ 0 → last_epoch (nth [] [] j) ≤ last_epoch (nth [] [] k)
    none zero zero e f = omega arith
    none (suc j) k e f = absurd (omega (arith, e))
    none zero (suc k) e f = absurd (omega (arith, f))

pub no_later_epoch : NoLaterEpoch
no_later_epoch l acts d app session epoch run its before =
    place_none 0 (last_epoch (order_at s (session_in s session).told)) 0 (order_at s (begun_by s epoch)) (kept.rise (begun_by s epoch) (omega (arith, before, low))) (kept.chain (begun_by s epoch) (session_in s session).told before low)
  where
    s : Server
    s = server_after l acts d

    kept : EpochsKept (facet s)
    kept = run_epochs l start acts run start_kept start_epochs d

    told : ToldKept l (sight s)
    told = told_kept l acts d run

    is : (o : Option Session) → owner_in o ≡ Some app → told_in o ≡ Some (unwrap_or o (record { app = 0; issued = []; told = 0 })).told
    is None e = absurd (cc (e))
    is (Some m) e = refl

    low : (session_in s session).told ≤ length s.past
    low = told.low session (session_in s session).told (ap (λ o. or_else o (place_in (s.entered_at session))) (is (s.session_at session) (told.its app session its)))
