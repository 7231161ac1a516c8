-- Each data server's order is the plain machine's after each step and each start of it.
use Rattle.std.proofs.Common.{◌≡◌, ◌≢◌, ◌≤◌, ◌<◌, ℕ, Bool, true, false, max, List, ◌∷◌, map, refl, sym, ◌∙◌, ap, subst, arith, cond}
use Rattle.std.proofs.lemmas.Bool.{ltb-true, ltb-false}
use Rattle.std.specs.Prelude.{nat_lt}
use Rattle.std.specs.List.{AllByRecursion}
use Rattle.plain_orders.specs.declared.act.Act.{Act}
use Rattle.plain_orders.specs.declared.act.Act.TheVariants as act
use Rattle.plain_orders.specs.declared.layout.Layout.{Layout}
use Rattle.plain_runs.specs.Plain.{Plain, Server}
use Rattle.plain_runs.specs.OrderRows.{saved}
use Rattle.plain_runs.specs.Step.{after}
use Rattle.plain_runs.specs.Run.{after_all}
use Rattle.data_rules.specs.declared.data_in.DataIn.{DataIn}
use Rattle.data_rules.specs.declared.data_in.DataIn.TheVariants as data_in
use Rattle.data_rules.specs.declared.data_outs.DataOuts.{DataOuts}
use Rattle.data_rules.specs.DataState.{DataState}
use Rattle.data_rules.specs.Puts.{Sofar, begun, becomes}
use Rattle.data_rules.specs.Step.{made, DataStep, DataMay}
use Rattle.data_rules.specs.Saving.{writes_synced}
use Rattle.cluster_runs.specs.Steps.{raised}
use Rattle.cluster_invariant.proofs.Small.{put_same, put_other}
use Rattle.cluster_invariant.proofs.Deeds.{Deed, Does, act_of, DeedIs, order_by}
use Rattle.cluster_invariant.proofs.PieceDeeds.{does_step}
use Rattle.cluster_invariant.proofs.PiecesOfSteps.{StepFrom}
use Rattle.cluster_invariant.proofs.Written.{Wrote, wrote, all_raised}

-- What a step of a data server makes of the plain machine: the order goes on by its deeds, behind the act of its save.
pub record StepWrote (d : ℕ) (old new : DataState) (p q : Plain) : Type 0 where
  pub deeds : List Deed
  pub may : AllByRecursion DeedIs deeds
  pub opened : (q.server_at d).opened ≡ (p.server_at d).opened
  pub past : (q.server_at d).past ≡ (p.server_at d).past
  pub order : (q.server_at d).order ≡ order_by deeds (p.server_at d).order
  pub its : new.order ≡ order_by deeds old.order
  pub synced : (q.server_at d).synced ≡ max new.synced (p.server_at d).synced
  pub no_less : old.synced ≤ new.synced
  pub server : new.server ≡ old.server
  pub times : new.times ≡ old.times
  pub others : (e : ℕ) → e ≢ d → q.server_at e ≡ p.server_at e
  pub clock : q.clock ≡ p.clock
  pub died : (app : ℕ) → q.died_at app ≡ p.died_at app

-- a step that is no save
deeds_wrote : (l : Layout) (p : Plain) (old : DataState) (outs : DataOuts) (new : DataState)
    → old.synced ≤ (p.server_at old.server).synced → Does (begun old) (made new outs)
    → StepWrote old.server old new p (after_all l p (raised (p.server_at old.server).synced outs.acts))
deeds_wrote l p old outs new low does =
    subst (λ (acts : List Act). StepWrote old.server old new p (after_all l p acts)) (sym (ap (raised (p.server_at old.server).synced) does.acts ∙ all_raised (p.server_at old.server).synced old.server does.deeds))
    (go (wrote l p old.server does.deeds does.may))
  where
    go : Wrote old.server does.deeds p (after_all l p (map (act_of old.server) does.deeds))
        → StepWrote old.server old new p (after_all l p (map (act_of old.server) does.deeds))
    go w = record {
      deeds = does.deeds;
      may = does.may;
      opened = w.here.opened;
      past = w.here.past;
      order = w.here.order;
      its = does.order;
      synced = w.here.synced ∙ omega (arith, does.synced, low);
      no_less = omega (arith, does.synced);
      server = does.server;
      times = does.times;
      others = w.others;
      clock = w.clock;
      died = w.died;
    }

-- behind the act of a save, or without one
abbrev with_save : Bool → ℕ → DataState → Sofar
with_save rises upto old = becomes (λ d. record d { synced = upto }) (writes_synced rises upto (begun old))

-- with the save in the plain machine
plain_save : (l : Layout) (p : Plain) (old : DataState) (upto : ℕ) (deeds : List Deed) (new : DataState)
    → old.synced < upto → (p.server_at old.server).synced < upto → AllByRecursion DeedIs deeds
    → new.order ≡ order_by deeds old.order → new.synced ≡ upto → new.server ≡ old.server → new.times ≡ old.times
    → StepWrote old.server old new p (after_all l (after l p (act.Synced old.server upto)) (map (act_of old.server) deeds))
plain_save l p old upto deeds new up higher may its reached same_server same_times =
    go (put_same p.server_at old.server (saved (p.server_at old.server) upto)) (wrote l (after l p (act.Synced old.server upto)) old.server deeds may)
  where
    go : (after l p (act.Synced old.server upto)).server_at old.server ≡ saved (p.server_at old.server) upto
        → Wrote old.server deeds (after l p (act.Synced old.server upto)) (after_all l (after l p (act.Synced old.server upto)) (map (act_of old.server) deeds))
        → StepWrote old.server old new p (after_all l (after l p (act.Synced old.server upto)) (map (act_of old.server) deeds))
    go here w = record {
      deeds = deeds;
      may = may;
      opened = w.here.opened ∙ ap (λ (s : Server). s.opened) here;
      past = w.here.past ∙ ap (λ (s : Server). s.past) here;
      order = w.here.order ∙ ap (λ (s : Server). order_by deeds s.order) here;
      its = its;
      synced = w.here.synced ∙ ap (λ (s : Server). s.synced) here ∙ omega (arith, reached, higher);
      no_less = omega (arith, reached, up);
      server = same_server;
      times = same_times;
      others = λ e other. w.others e other ∙ put_other p.server_at old.server (saved (p.server_at old.server) upto) e other;
      clock = w.clock;
      died = w.died;
    }

-- the plain machine has that number already, or a greater one
quiet_save : (l : Layout) (p : Plain) (old : DataState) (upto : ℕ) (deeds : List Deed) (new : DataState)
    → old.synced ≤ upto → upto ≤ (p.server_at old.server).synced → AllByRecursion DeedIs deeds
    → new.order ≡ order_by deeds old.order → new.synced ≡ upto → new.server ≡ old.server → new.times ≡ old.times
    → StepWrote old.server old new p (after_all l p (map (act_of old.server) deeds))
quiet_save l p old upto deeds new up low may its reached same_server same_times = go (wrote l p old.server deeds may)
  where
    go : Wrote old.server deeds p (after_all l p (map (act_of old.server) deeds)) → StepWrote old.server old new p (after_all l p (map (act_of old.server) deeds))
    go w = record {
      deeds = deeds;
      may = may;
      opened = w.here.opened;
      past = w.here.past;
      order = w.here.order;
      its = its;
      synced = w.here.synced ∙ omega (arith, reached, low);
      no_less = omega (arith, reached, up);
      server = same_server;
      times = same_times;
      others = w.others;
      clock = w.clock;
      died = w.died;
    }

-- a save whose act is written
raised_save : (l : Layout) (p : Plain) (old : DataState) (upto : ℕ) (deeds : List Deed) (new : DataState)
    → old.synced < upto → AllByRecursion DeedIs deeds
    → new.order ≡ order_by deeds old.order → new.synced ≡ upto → new.server ≡ old.server → new.times ≡ old.times
    → StepWrote old.server old new p (after_all l p (raised (p.server_at old.server).synced (act.Synced old.server upto ∷ map (act_of old.server) deeds)))
raised_save l p old upto deeds new up may its reached same_server same_times = go (nat_lt (p.server_at old.server).synced upto) refl
  where
    go : (b : Bool) → nat_lt (p.server_at old.server).synced upto ≡ b
        → StepWrote old.server old new p
        (after_all l p (cond b (act.Synced old.server upto ∷ raised (p.server_at old.server).synced (map (act_of old.server) deeds))
        (raised (p.server_at old.server).synced (map (act_of old.server) deeds))))
    go true higher =
        subst (λ (acts : List Act). StepWrote old.server old new p (after_all l (after l p (act.Synced old.server upto)) acts))
        (sym (all_raised (p.server_at old.server).synced old.server deeds))
        (plain_save l p old upto deeds new up (ltb-true (p.server_at old.server).synced upto higher) may its reached same_server same_times)
    go false low =
        subst (λ (acts : List Act). StepWrote old.server old new p (after_all l p acts)) (sym (all_raised (p.server_at old.server).synced old.server deeds))
        (quiet_save l p old upto deeds new (omega (arith, up)) (ltb-false (p.server_at old.server).synced upto low) may its reached same_server same_times)

save_wrote : (l : Layout) (p : Plain) (old : DataState) (upto : ℕ) (outs : DataOuts) (new : DataState) (rises : Bool) → nat_lt old.synced upto ≡ rises
    → old.synced ≤ upto → old.synced ≤ (p.server_at old.server).synced → Does (with_save rises upto old) (made new outs)
    → StepWrote old.server old new p (after_all l p (raised (p.server_at old.server).synced outs.acts))
save_wrote l p old upto outs new true higher up low does =
    subst (λ (acts : List Act). StepWrote old.server old new p (after_all l p (raised (p.server_at old.server).synced acts))) (sym does.acts)
    (raised_save l p old upto does.deeds new (ltb-true old.synced upto higher) does.may does.order does.synced does.server does.times)
save_wrote l p old upto outs new false same up low does =
    subst (λ (acts : List Act). StepWrote old.server old new p (after_all l p (raised (p.server_at old.server).synced acts))) (sym does.acts)
    (subst (λ (acts : List Act). StepWrote old.server old new p (after_all l p acts)) (sym (all_raised (p.server_at old.server).synced old.server does.deeds))
    (quiet_save l p old upto does.deeds new up (omega (arith, ltb-false old.synced upto same, low)) does.may does.order does.synced does.server does.times))

-- Each step of a data server.
pub step_wrote : (l : Layout) (p : Plain) (old : DataState) (now : ℕ) (input : DataIn) (outs : DataOuts) (new : DataState)
    → StepFrom old → DataMay old input → old.synced ≤ (p.server_at old.server).synced → DataStep old now input outs new
    → StepWrote old.server old new p (after_all l p (raised (p.server_at old.server).synced outs.acts))
step_wrote l p old now (data_in.Frame conn up) outs new from may low steps = deeds_wrote l p old outs new low (does_step old now (data_in.Frame conn up) outs new from may steps)
step_wrote l p old now (data_in.Connected conn) outs new from may low steps = deeds_wrote l p old outs new low (does_step old now (data_in.Connected conn) outs new from may steps)
step_wrote l p old now (data_in.Broken conn) outs new from may low steps = deeds_wrote l p old outs new low (does_step old now (data_in.Broken conn) outs new from may steps)
step_wrote l p old now data_in.Tick outs new from may low steps = deeds_wrote l p old outs new low (does_step old now data_in.Tick outs new from may steps)
step_wrote l p old now (data_in.Saved upto) outs new from may low steps =
    save_wrote l p old upto outs new (nat_lt old.synced upto) refl may.no_less low (does_step old now (data_in.Saved upto) outs new from may steps)
