-- What no job has that isn't there, or that is barred.
use Rattle.std.proofs.Common.{◌≡◌, ◌≢◌, ℕ, zero, suc, ◌<◌, length, ◌&&◌, ◌||◌, ◌==◌, if◌then◌else◌, slice_get, List, [], ◌∷◌, refl, subst, sym, ap, ◌∙◌, Bool, true, false, arith, Option, Some, None}
use Rattle.std.specs.Prelude.{is_some, min, unwrap_or}
use Rattle.std.proofs.lemmas.Bool.{ne_eqb}
use Rattle.std.specs.List.{list_any}
use Rattle.plain_runs.specs.Items.{is_update_of, is_change}
use Rattle.std.specs.Option.{option_map}
use Rattle.plain_orders.specs.declared.act.Act.{Act}
use Rattle.plain_orders.specs.declared.act.Act.TheVariants.{Opened, Enter, Synced, Shut, Release, Met, Told, Back, Crash, Issue, Read, Grant, Granted, GiveUp, Quit, Free, Counted, NotWhole, Range, Committed, RolledBack, Reached, Level, Done, Refused, Broke, Mended, Tick, Lose, Died}
use Rattle.plain_orders.specs.declared.refused.Refused.{Refused as Refusal}
use Rattle.plain_orders.specs.declared.refused.Refused.TheVariants.{NoTransaction, TooDeep, RollbackOnly, LockTimeout, Network}
use Rattle.plain_orders.specs.declared.refused.ReasonName.TheVariants.{Reset, Expired}
use Rattle.plain_orders.specs.declared.causes.Loss.{Loss}
use Rattle.plain_orders.specs.declared.causes.Loss.TheVariants.{Reset as ByReset, Expired as ByExpired, NoWay as ByNoWay}
use Rattle.plain_orders.specs.declared.causes.PairEnd.{PairEnd}
use Rattle.plain_orders.specs.declared.causes.PairEnd.TheVariants.{App as AppEnd, Server as ServerEnd}
use Rattle.plain_orders.specs.declared.entry.Entry.{Entry}
use Rattle.plain_orders.specs.declared.entry.Entry.TheVariants.{Epoch, Opened as OpenedEntry, Closed, Update, Commit, Rollback}
use Rattle.plain_orders.specs.declared.layout.Layout.{Layout}
use Rattle.plain_orders.specs.declared.mode.Mode.{Mode}
use Rattle.plain_orders.specs.declared.item.Item.{Item}
use Rattle.plain_orders.specs.Own.{Issued}
use Rattle.plain_runs.specs.Plain.{issued_in, Plain, Server, Session, Hold, Known, start, app_of, runs_on, pair_session, with_jobs_of}
use Rattle.plain_runs.specs.OrderRows.{entered, crashed, came_back}
use Rattle.plain_runs.specs.EndRows.{broke, lost, told_of, begun_by, knows_noway}
use Rattle.plain_runs.specs.JobRows.{is_answered_item, refused, told_loss, txn_of, acts, sees, sees_up}
use Rattle.plain_runs.specs.LockRows.{grants, gives_up, quits, releases, frees}
use Rattle.plain_runs.specs.Step.{MayCome, after}
use Rattle.plain_runs.specs.Run.{IsRun, RunFrom, after_all}
use Rattle.plain_runs.specs.Laws.{server_after}
use Rattle.plain_runs.specs.Together.{BarredDidNothing, NothingDone, StrangersDidNothing}
use Rattle.plain_runs.proofs.NoSession.{kept_facts, none_any, none_without_session}
use Rattle.plain_runs.proofs.RunLemmas.{at_put}
use Rattle.plain_runs.proofs.Orders.{Each, facet, OrdersKept}
use Rattle.plain_runs.proofs.OrderLaws.{row_steps, start_kept}
use Rattle.plain_runs.proofs.Pairs.{PairsKept, row_pairs}
use Rattle.plain_runs.proofs.HoldRows.{issued_of}
use Rattle.plain_runs.proofs.LockRows.{LocksKept, HoldOf, locks, each_weaker, each_map, each_push, each_first, each_last}
use Rattle.plain_runs.proofs.LockLaws.{row_locks, start_locks}
use Rattle.plain_runs.proofs.Deeds.{DeedsKept, DeedSteps, OfAnother, OfLayout, deeds, act_steps, granted_steps, issue_steps, met_steps, lose_steps, know_steps, pair_steps, hold_steps, same_holders}
use Rattle.plain_runs.specs.Holds.{is_kept}

deeds_same : (l : Layout) (s : Server) → DeedSteps l s s
deeds_same l s k = k

entered_deeds : (l : Layout) (s : Server) (x : Entry) → DeedSteps l s (entered s x)
entered_deeds l s (Epoch number) k = k
entered_deeds l s (OpenedEntry session app) k = k
entered_deeds l s (Closed session) k = k
entered_deeds l s (Update session w job txn op) k = k
entered_deeds l s (Commit session w job txn) k = k
entered_deeds l s (Rollback session w job txn) k = k

crash_deeds : (l : Layout) (clock round : ℕ) (s : Server) (kept : ℕ) → DeedSteps l s (crashed clock round s kept)
crash_deeds l clock round s kept = hold_steps l s (crashed clock round s kept).holds (λ Q f e. each_map (λ (h : Hold). Q h.answered h.session h.job) (λ (h : Hold). Q h.answered h.session h.job) _ (λ h x. x) s.holds e)

back_deeds : (l : Layout) (s : Server) → DeedSteps l s (came_back s)
back_deeds l s = hold_steps l s (came_back s).holds (λ Q f e. each_map (λ (h : Hold). Q h.answered h.session h.job) (λ (h : Hold). Q h.answered h.session h.job) _ (λ h x. x) s.holds e)

release_deeds : (l : Layout) (s : Server) (session : ℕ) → DeedSteps l s (releases s session)
release_deeds l s session = hold_steps l s (releases s session).holds (λ Q f e. each_map (λ (h : Hold). Q h.answered h.session h.job) (λ (h : Hold). Q h.answered h.session h.job) _ (λ h x. x) s.holds e)

free_deeds : (l : Layout) (s : Server) (session job : ℕ) (mode : Mode) (key : List ℕ) → DeedSteps l s (frees s session job mode key)
free_deeds l s session job mode key = hold_steps l s (frees s session job mode key).holds (λ Q f e. each_map (λ (h : Hold). Q h.answered h.session h.job) (λ (h : Hold). Q h.answered h.session h.job) _ (λ h x. x) s.holds e)

grant_deeds : (l : Layout) (s : Server) (session job : ℕ) (mode : Mode) (key : List ℕ) (at : ℕ) → DeedSteps l s (grants s session job mode key at)
grant_deeds l s session job mode key at = hold_steps l s (grants s session job mode key at).holds (λ Q f e. each_push (λ (h : Hold). Q h.answered h.session h.job) s.holds _ e (f session job))

give_deeds : (l : Layout) (s : Server) (job : ℕ) (mode : Mode) (key : List ℕ) → is_some (s.known_at job).bar ≡ false → DeedSteps l s (gives_up s (app_of l job) job mode key)
give_deeds l s job mode key free = act_steps l s (gives_up s (app_of l job) job mode key) job (acts (s.known_at job)) (gives_up s (app_of l job) job mode key).holds refl
    (λ Q f e. each_last (λ (h : Hold). Q h.answered h.session h.job) _ _ (λ h is x. x) s.holds e) refl free

quit_deeds : (l : Layout) (s : Server) (job : ℕ) (mode : Mode) (key : List ℕ) → is_some (s.known_at job).bar ≡ false → DeedSteps l s (quits s (app_of l job) job mode key)
quit_deeds l s job mode key free = act_steps l s (quits s (app_of l job) job mode key) job (acts (s.known_at job)) (quits s (app_of l job) job mode key).holds refl
    (λ Q f e. each_first (λ (h : Hold). Q h.answered h.session h.job) _ _ (λ h is x. x) s.holds e) refl free

sees_deeds : (l : Layout) (s : Server) (job n : ℕ) → is_some (s.known_at job).bar ≡ false → DeedSteps l s (sees s job n)
sees_deeds l s job n free = act_steps l s (sees s job n) job (record (acts (s.known_at job)) { seen = n }) s.holds refl (same_holders s.holds) refl free

up_deeds : (l : Layout) (s : Server) (job n : ℕ) → is_some (s.known_at job).bar ≡ false → DeedSteps l s (sees_up s job n)
up_deeds l s job n free = act_steps l s (sees_up s job n) job _ s.holds refl (same_holders s.holds) refl free

told_deeds : (l : Layout) (s : Server) (app session epoch kept : ℕ) → DeedSteps l s (told_of l s app session epoch kept)
told_deeds l s app session epoch kept =
    know_steps l s t t.session_at t.known_at refl
    (λ n. at_put (λ o r. issued_of r ≡ issued_of o) s.session_at session _ (λ o. refl) (here (s.session_at session)) n) (λ j. acted j (runs_on l app j)) (λ j. bar j (runs_on l app j))
  where
    t : Server
    t = told_of l s app session epoch kept

    here : (o : Option Session) → issued_of (option_map (λ (m : Session). record m { told = begun_by s epoch }) o) ≡ issued_of o
    here None = refl
    here (Some m) = refl

    acted : (j : ℕ) (b : Bool) → (if b then record (s.known_at j) { seen = min (s.known_at j).seen kept } else s.known_at j).acted ≡ (s.known_at j).acted
    acted j true = refl
    acted j false = refl

    bar : (j : ℕ) (b : Bool) → is_some (if b then record (s.known_at j) { seen = min (s.known_at j).seen kept } else s.known_at j).bar ≡ true → is_some (s.known_at j).bar ≡ true
    bar j true e = e
    bar j false e = e

broke_deeds : (l : Layout) (s : Server) (app : ℕ) (end : PairEnd) (time : ℕ) → DeedSteps l s (broke s app end time)
broke_deeds l s app AppEnd time = pair_steps l s app _ (λ n e. e)
broke_deeds l s app ServerEnd time = deeds_same l s

no_way_deeds : (l : Layout) (s t : Server) (app : ℕ) → deeds t ≡ record (deeds s) { acted = λ j. (if runs_on l app j then knows_noway (s.known_at j) else s.known_at j).acted; bar = λ j. is_some (if runs_on l app j then knows_noway (s.known_at j) else s.known_at j).bar } → DeedSteps l s t
no_way_deeds l s t app same =
    know_steps l s t s.session_at (λ j. if runs_on l app j then knows_noway (s.known_at j) else s.known_at j) same (λ n. refl) (λ j. acted j (runs_on l app j)) (λ j. bar j (runs_on l app j))
  where
    acted : (j : ℕ) (b : Bool) → (if b then knows_noway (s.known_at j) else s.known_at j).acted ≡ (s.known_at j).acted
    acted j true = refl
    acted j false = refl

    bar : (j : ℕ) (b : Bool) → is_some (if b then knows_noway (s.known_at j) else s.known_at j).bar ≡ true → is_some (s.known_at j).bar ≡ true
    bar j true e = e
    bar j false e = e

lost_deeds : (l : Layout) (p : Plain) (app d : ℕ) (loss : Loss) (e : ℕ) → DeedSteps l (p.server_at e) ((lost l p app d loss).server_at e)
lost_deeds l p app d (ByReset at) e = at_put (DeedSteps l) p.server_at d _ (deeds_same l) (lose_steps l (p.server_at d) app Reset) e
lost_deeds l p app d (ByExpired time) e = at_put (DeedSteps l) p.server_at d _ (deeds_same l) (lose_steps l (p.server_at d) app Expired) e
lost_deeds l p app d (ByNoWay from to) e = at_put (DeedSteps l) p.server_at d _ (deeds_same l) (no_way_deeds l (p.server_at d) (with_jobs_of l (p.server_at d) app knows_noway) app refl) e

loss_told : (l : Layout) (s : Server) (job : ℕ) → DeedSteps l s (told_loss s job)
loss_told l s job =
    know_steps l s (told_loss s job) s.session_at (told_loss s job).known_at refl (λ n. refl)
    (λ j. at_put (λ (y z : Known). z.acted ≡ y.acted) s.known_at job _ (λ y. refl) refl j)
    (λ j. at_put (λ (y z : Known). is_some z.bar ≡ true → is_some y.bar ≡ true) s.known_at job _ (λ y e. e) (λ e. absurd (cc (e))) j)

refused_deeds : (l : Layout) (p : Plain) (j : ℕ) (r : Refusal) (d : ℕ) → DeedSteps l (p.server_at d) ((refused p j r).server_at d)
refused_deeds l p j NoTransaction d = deeds_same l (p.server_at d)
refused_deeds l p j TooDeep d = deeds_same l (p.server_at d)
refused_deeds l p j RollbackOnly d = deeds_same l (p.server_at d)
refused_deeds l p j LockTimeout d = deeds_same l (p.server_at d)
refused_deeds l p j (Network e state reason) d = at_put (DeedSteps l) p.server_at e _ (deeds_same l) (loss_told l (p.server_at e) j) d

row_deeds : (l : Layout) (p : Plain) (a : Act) → MayCome l p a → ((d : ℕ) → Each (HoldOf (locks (p.server_at d))) (p.server_at d).holds) → (e : ℕ) → DeedSteps l (p.server_at e) ((after l p a).server_at e)
row_deeds l p (Opened d entries) may held e = at_put (DeedSteps l) p.server_at d _ (deeds_same l) (deeds_same l (p.server_at d)) e
row_deeds l p (Enter d x) may held e = at_put (DeedSteps l) p.server_at d _ (deeds_same l) (entered_deeds l (p.server_at d) x) e
row_deeds l p (Synced d n) may held e = at_put (DeedSteps l) p.server_at d _ (deeds_same l) (deeds_same l (p.server_at d)) e
row_deeds l p (Shut d session cause) may held e = at_put (DeedSteps l) p.server_at d _ (deeds_same l) (deeds_same l (p.server_at d)) e
row_deeds l p (Release d session) may held e = at_put (DeedSteps l) p.server_at d _ (deeds_same l) (release_deeds l (p.server_at d) session) e
row_deeds l p (Met app d session) may held e = at_put (DeedSteps l) p.server_at d _ (deeds_same l) (met_steps l (p.server_at d) app session may.1 (held d)) e
row_deeds l p (Told app d session epoch kept) may held e = at_put (DeedSteps l) p.server_at d _ (deeds_same l) (told_deeds l (p.server_at d) app session epoch kept) e
row_deeds l p (Back d) may held e = at_put (DeedSteps l) p.server_at d _ (deeds_same l) (back_deeds l (p.server_at d)) e
row_deeds l p (Crash d kept) may held e = at_put (DeedSteps l) p.server_at d _ (deeds_same l) (crash_deeds l p.clock l.times.round (p.server_at d) kept) e
row_deeds l p (Issue job line d w item) may held e = at_put (DeedSteps l) p.server_at d _ (deeds_same l) (issue_steps l (p.server_at d) (record { item = item; txn = txn_of (p.job_at job) item; job = job; line = line }) may.0.known may.0.free) e
row_deeds l p (Read job line d at via question) may held e = at_put (DeedSteps l) p.server_at d _ (deeds_same l) (sees_deeds l (p.server_at d) job at may.0.free) e
row_deeds l p (Grant d session job mode key at) may held e = at_put (DeedSteps l) p.server_at d _ (deeds_same l) (grant_deeds l (p.server_at d) session job mode key at) e
row_deeds l p (Granted job line d at) may held e = at_put (DeedSteps l) p.server_at d _ (deeds_same l) (granted_steps l (p.server_at d) job at may.0.known may.0.free) e
row_deeds l p (GiveUp job line d mode key) may held e = at_put (DeedSteps l) p.server_at d _ (deeds_same l) (give_deeds l (p.server_at d) job mode key may.0.free) e
row_deeds l p (Quit job line d mode key) may held e = at_put (DeedSteps l) p.server_at d _ (deeds_same l) (quit_deeds l (p.server_at d) job mode key may.0.free) e
row_deeds l p (Free d session job mode key) may held e = at_put (DeedSteps l) p.server_at d _ (deeds_same l) (free_deeds l (p.server_at d) session job mode key) e
row_deeds l p (Counted job line d at sum) may held e = at_put (DeedSteps l) p.server_at d _ (deeds_same l) (up_deeds l (p.server_at d) job at may.0.free) e
row_deeds l p (NotWhole job line d at) may held e = at_put (DeedSteps l) p.server_at d _ (deeds_same l) (up_deeds l (p.server_at d) job at may.0.free) e
row_deeds l p (Range job line d at) may held e = at_put (DeedSteps l) p.server_at d _ (deeds_same l) (up_deeds l (p.server_at d) job at may.0.free) e
row_deeds l p (Committed job line d at) may held e = at_put (DeedSteps l) p.server_at d _ (deeds_same l) (up_deeds l (p.server_at d) job at may.0.free) e
row_deeds l p (RolledBack job line d at) may held e = at_put (DeedSteps l) p.server_at d _ (deeds_same l) (up_deeds l (p.server_at d) job at may.0.free) e
row_deeds l p (Reached job line d at) may held e = at_put (DeedSteps l) p.server_at d _ (deeds_same l) (up_deeds l (p.server_at d) job at may.0.free) e
row_deeds l p (Level job line level) may held e = deeds_same l (p.server_at e)
row_deeds l p (Done job line) may held e = deeds_same l (p.server_at e)
row_deeds l p (Refused job line refusal) may held e = refused_deeds l p job refusal e
row_deeds l p (Broke app d end time) may held e = at_put (DeedSteps l) p.server_at d _ (deeds_same l) (broke_deeds l (p.server_at d) app end time) e
row_deeds l p (Mended app d) may held e = at_put (DeedSteps l) p.server_at d _ (deeds_same l) (pair_steps l (p.server_at d) app _ (λ n e. e)) e
row_deeds l p (Tick time) may held e = deeds_same l (p.server_at e)
row_deeds l p (Lose app d loss) may held e = lost_deeds l p app d loss e
row_deeds l p (Died app) may held e = deeds_same l (p.server_at e)

run_deeds : (l : Layout) (p : Plain) (acts : List Act) → RunFrom l p acts → ((d : ℕ) → PairsKept (p.server_at d).session_at (p.server_at d).pair_at) → ((d : ℕ) → OrdersKept (facet (p.server_at d))) → ((d : ℕ) → LocksKept (locks (p.server_at d)))
    → ((d : ℕ) → DeedsKept l (deeds (p.server_at d))) → (e : ℕ) → DeedsKept l (deeds ((after_all l p acts).server_at e))
run_deeds l p [] run pairs os ls k e = k e
run_deeds l p (a ∷ acts) run pairs os ls k e =
    run_deeds l (after l p a) acts run.1 (λ d. row_pairs l p a run.0 d (pairs d)) (λ d. (row_steps l p a run.0 d (os d)).0) (λ d. row_locks l p a run.0 pairs d (os d) (ls d)) (λ d. row_deeds l p a run.0 (λ b. (ls b).holds) d (k d)) e

deeds_kept : (l : Layout) (acts : List Act) (d : ℕ) → IsRun l acts → DeedsKept l (deeds (server_after l acts d))
deeds_kept l acts d run =
    run_deeds l start acts run (λ e. record { met = λ a n h. absurd (cc (h)) }) start_kept start_locks
    (λ e. record { holds = tt; items = λ n. tt; bar = λ j b. absurd (cc (b)); held = λ j n there a p. tt; issued = λ j n there a p. tt }) d

no_items : (job line : ℕ) (kind : Item → Bool) (is : List Issued) (i : ℕ) → Each (λ (x : Issued). x.job ≢ job) is → is_answered_item job line kind (slice_get is i) ≡ false
no_items job line kind [] i e = refl
no_items job line kind (x ∷ is) (suc i) e = no_items job line kind is i e.1
no_items job line kind (x ∷ is) zero e = ap (λ (b : Bool). b && x.line == line && kind x.item) (ne_eqb x.job job e.0)

no_updates : (job txn : ℕ) (is : List Issued) → Each (λ (x : Issued). x.job ≢ job) is → list_any (is_update_of job txn) is ≡ false
no_updates job txn [] e = refl
no_updates job txn (x ∷ is) e = ap (λ (b : Bool). (b && x.txn == txn && is_change x.item) || list_any (is_update_of job txn) is) (ne_eqb x.job job e.0) ∙ no_updates job txn is e.1

pub strangers_did_nothing : StrangersDidNothing
strangers_did_nothing l acts d job run stranger = record {
  kept = λ mode key. none_any (OfLayout l) _ (λ h k is. kept mode key h k is) s.holds held.holds;
  item = λ line at kind. no_items job line kind (issued_in s (pair_session s (app_of l job))) _ others;
  used = λ txn. no_updates job txn (issued_in s (pair_session s (app_of l job))) others;
}
  where
    s : Server
    s = server_after l acts d

    held : DeedsKept l (deeds s)
    held = deeds_kept l acts d run

    others : Each (λ (x : Issued). x.job ≢ job) (issued_in s (pair_session s (app_of l job)))
    others = each_weaker (λ (x : Issued). x.job < length l.job_apps) (λ (x : Issued). x.job ≢ job) (λ x low same. omega (arith, low, same, stranger)) _ (held.items (pair_session s (app_of l job)))

    kept : (mode : Mode) (key : List ℕ) (h : Hold) → OfLayout l h → is_kept (pair_session s (app_of l job)) job mode key h ≡ true → ⊥
    kept mode key h k is =
        let f = kept_facts (pair_session s (app_of l job)) job mode key h is in
        omega (arith, k f.0, f.2, stranger)

pub barred_did_nothing : BarredDidNothing
barred_did_nothing l acts d job run there barred = go (s.pair_at (app_of l job)).session refl
  where
    s : Server
    s = server_after l acts d

    held : DeedsKept l (deeds s)
    held = deeds_kept l acts d run

    kept : (n : ℕ) → pair_session s (app_of l job) ≡ n → (mode : Mode) (key : List ℕ) (h : Hold) → OfAnother n job h → is_kept (pair_session s (app_of l job)) job mode key h ≡ true → ⊥
    kept n its mode key h k is =
        let f = kept_facts (pair_session s (app_of l job)) job mode key h is in
        k f.0 (f.1 ∙ its) f.2

    go : (o : Option ℕ) → (s.pair_at (app_of l job)).session ≡ o → NothingDone s (app_of l job) job
    go None e = (none_without_session l acts d (app_of l job) run (ap is_some e)).done job
    go (Some n) e =
        let its : pair_session s (app_of l job) ≡ n = ap (λ (o : Option ℕ). unwrap_or o 0) e in
        record {
          kept = λ mode key. none_any (OfAnother n job) _ (λ h k is. kept n its mode key h k is) s.holds (held.held job n there (held.bar job barred) e);
          item = λ line at kind. no_items job line kind (issued_in s (pair_session s (app_of l job))) _
              (subst (λ i. Each (λ (x : Issued). x.job ≢ job) (issued_of (s.session_at i))) (sym its) (held.issued job n there (held.bar job barred) e));
          used = λ txn. no_updates job txn (issued_in s (pair_session s (app_of l job)))
              (subst (λ i. Each (λ (x : Issued). x.job ≢ job) (issued_of (s.session_at i))) (sym its) (held.issued job n there (held.bar job barred) e));
        }
