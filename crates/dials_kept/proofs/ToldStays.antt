-- What a session was told stays told in each run of the plain machine, and acts that leave the orders leave what connections need of them.
use Rattle.std.proofs.Common.{◌≡◌, ◌≤◌, ℕ, ◌+◌, ◌-◌, Bool, true, false, List, [], ◌∷◌, ◌++◌, length, Option, Some, None, is_some, option_map, if◌then◌else◌, refl, sym, ◌∙◌, ap, subst, arith, ◌==◌}
use Rattle.std.specs.Prelude.{IsSomeAnd, slice_index_or, unwrap_or}
use Rattle.std.specs.List.{AllByRecursion}
use Rattle.std.proofs.lemmas.Bool.{eqb-true, false≢true}
use Rattle.plain_orders.specs.declared.act.Act.{Act}
use Rattle.plain_orders.specs.declared.act.Act.TheVariants.{Opened, Enter, Synced, Shut, Release, Met, Told, Back, Crash, Issue, Read, Grant, Granted, GiveUp, Quit, Free, Counted, NotWhole, Range, Committed, RolledBack, Reached, Level, Done, Refused, Broke, Mended, Tick, Lose, Died}
use Rattle.plain_orders.specs.declared.refused.Refused.{Refused as Refusal}
use Rattle.plain_orders.specs.declared.refused.Refused.TheVariants.{NoTransaction, TooDeep, RollbackOnly, LockTimeout, Network}
use Rattle.plain_orders.specs.declared.causes.Loss.{Loss}
use Rattle.plain_orders.specs.declared.causes.Loss.TheVariants.{Reset as ByReset, Expired as ByExpired, NoWay as ByNoWay}
use Rattle.plain_orders.specs.declared.causes.PairEnd.{PairEnd}
use Rattle.plain_orders.specs.declared.causes.PairEnd.TheVariants.{App as AppSide, Server as ServerSide}
use Rattle.plain_orders.specs.declared.entry.Entry.{Entry}
use Rattle.plain_orders.specs.declared.entry.Entry.TheVariants.{Epoch, Opened as OpenedEntry, Closed as ClosedEntry, Update, Commit as CommitEntry, Rollback as RollbackEntry}
use Rattle.plain_orders.specs.declared.layout.Layout.{Layout}
use Rattle.plain_orders.specs.Entries.{last_epoch}
use Rattle.plain_orders.specs.Sessions.{app_in}
use Rattle.data_rules.specs.Places.{epoch_place}
use Rattle.plain_runs.specs.Plain.{Plain, Server, Session, put, order_at, session_in}
use Rattle.plain_runs.specs.OrderRows.{entered}
use Rattle.plain_runs.specs.EndRows.{broke, lost, ToldMay, begun_by}
use Rattle.plain_runs.specs.JobRows.{refused}
use Rattle.plain_runs.specs.Step.{after, MayCome}
use Rattle.plain_runs.specs.Run.{RunFrom, after_all}
use Rattle.plain_runs.proofs.RunLemmas.{at_put}
use Rattle.cluster_invariant.specs.Words.{stays_at}
use Rattle.cluster_invariant.proofs.OrderBeside.{SameOrders, rows_same, leaves_orders}
use Rattle.dials_kept.proofs.ConnectionsGrow.{StaysKnown}

-- each session that was told of an order was told of it
abbrev pub Tells : (ℕ → Option Session) → (ℕ → Option Session) → Type 0
Tells f g = (app s k : ℕ) → IsSomeAnd (f s) (λ t. (t.app ≡ app) × (k ≤ t.told)) → IsSomeAnd (g s) (λ t. (t.app ≡ app) × (k ≤ t.told))

abbrev TellsOf : Server → Server → Type 0
TellsOf v w = Tells v.session_at w.session_at

tells_same : (v : Server) → TellsOf v v
tells_same v app s k is = is

tells_put : (f : ℕ → Option Session) (n : ℕ) (o : Option Session)
    → ((app k : ℕ) → IsSomeAnd (f n) (λ t. (t.app ≡ app) × (k ≤ t.told)) → IsSomeAnd o (λ t. (t.app ≡ app) × (k ≤ t.told))) → Tells f (put f n o)
tells_put f n o here app s k is = go (s == n) refl
  where
    go : (b : Bool) → (s == n) ≡ b → IsSomeAnd (if b then o else f s) (λ t. (t.app ≡ app) × (k ≤ t.told))
    go true same = here app k (subst (λ (i : ℕ). IsSomeAnd (f i) (λ t. (t.app ≡ app) × (k ≤ t.told))) (eqb-true s n same) is)
    go false other = is

-- a session that is changed and was told no less
told_more : (o : Option Session) (g : Session → Session) → ((t : Session) → o ≡ Some t → ((g t).app ≡ t.app) × (t.told ≤ (g t).told)) → (app k : ℕ)
    → IsSomeAnd o (λ t. (t.app ≡ app) × (k ≤ t.told)) → IsSomeAnd (option_map g o) (λ t. (t.app ≡ app) × (k ≤ t.told))
told_more None g more app k is = absurd is
told_more (Some t) g more app k is = ((more t refl).0 ∙ is.0, omega (arith, is.1, (more t refl).1))

tells_met : (v : Server) (session : ℕ) (t : Session) → is_some (v.session_at session) ≡ false → Tells v.session_at (put v.session_at session (Some t))
tells_met v session t fresh = tells_put v.session_at session (Some t) (λ app k is. absurd (none (v.session_at session) fresh app k is))
  where
    none : (o : Option Session) → is_some o ≡ false → (app k : ℕ) → IsSomeAnd o (λ u. (u.app ≡ app) × (k ≤ u.told)) → ⊥
    none None fresh app k is = is
    none (Some u) fresh app k is = absurd (false≢true (sym fresh))

tells_told : (v : Server) (app session epoch kept : ℕ) → ToldMay v app session epoch kept
    → Tells v.session_at (put v.session_at session (option_map (λ (m : Session). record m { told = begun_by v epoch }) (v.session_at session)))
tells_told v app session epoch kept may =
    tells_put v.session_at session _
    (told_more (v.session_at session) (λ (m : Session). record m { told = begun_by v epoch })
    (λ t there.
    let was : (session_in v session).told ≡ t.told
    = ap (λ (o : Option Session). (unwrap_or o (record { app = 0; issued = []; told = 0 })).told) there in
    (refl, omega (arith, may.later, was))))

broke_tells : (v : Server) (app : ℕ) (end : PairEnd) (time : ℕ) → TellsOf v (broke v app end time)
broke_tells v app AppSide time = tells_same v
broke_tells v app ServerSide time = tells_same v

lost_tells : (l : Layout) (p : Plain) (app server : ℕ) (loss : Loss) (d : ℕ) → TellsOf (p.server_at d) ((lost l p app server loss).server_at d)
lost_tells l p app server (ByReset at) d = at_put TellsOf p.server_at server _ tells_same (tells_same (p.server_at server)) d
lost_tells l p app server (ByExpired time) d = at_put TellsOf p.server_at server _ tells_same (tells_same (p.server_at server)) d
lost_tells l p app server (ByNoWay before later) d = at_put TellsOf p.server_at server _ tells_same (tells_same (p.server_at server)) d

refused_tells : (p : Plain) (job : ℕ) (r : Refusal) (d : ℕ) → TellsOf (p.server_at d) ((refused p job r).server_at d)
refused_tells p job NoTransaction d = tells_same (p.server_at d)
refused_tells p job TooDeep d = tells_same (p.server_at d)
refused_tells p job RollbackOnly d = tells_same (p.server_at d)
refused_tells p job LockTimeout d = tells_same (p.server_at d)
refused_tells p job (Network server state reason) d = at_put TellsOf p.server_at server _ tells_same (tells_same (p.server_at server)) d

entered_tells : (v : Server) (e : Entry) → TellsOf v (entered v e)
entered_tells v (Epoch number) = tells_same v
entered_tells v (OpenedEntry session app) = tells_same v
entered_tells v (ClosedEntry session) = tells_same v
entered_tells v (Update session w job txn op) = tells_same v
entered_tells v (CommitEntry session w job txn) = tells_same v
entered_tells v (RollbackEntry session w job txn) = tells_same v

-- Each act that may come leaves what was told.
pub row_tells : (l : Layout) (p : Plain) (a : Act) → MayCome l p a → (d : ℕ) → TellsOf (p.server_at d) ((after l p a).server_at d)
row_tells l p (Opened e entries) may d = at_put TellsOf p.server_at e _ tells_same (tells_same (p.server_at e)) d
row_tells l p (Enter e entry) may d = at_put TellsOf p.server_at e _ tells_same (entered_tells (p.server_at e) entry) d
row_tells l p (Synced e n) may d = at_put TellsOf p.server_at e _ tells_same (tells_same (p.server_at e)) d
row_tells l p (Shut e session cause) may d = at_put TellsOf p.server_at e _ tells_same (tells_same (p.server_at e)) d
row_tells l p (Release e session) may d = at_put TellsOf p.server_at e _ tells_same (tells_same (p.server_at e)) d
row_tells l p (Met app e session) may d = at_put TellsOf p.server_at e _ tells_same (tells_met (p.server_at e) session _ may.1.fresh) d
row_tells l p (Told app e session epoch kept) may d =
    at_put TellsOf p.server_at e _ tells_same (tells_told (p.server_at e) app session epoch kept may.1) d
row_tells l p (Back e) may d = at_put TellsOf p.server_at e _ tells_same (tells_same (p.server_at e)) d
row_tells l p (Crash e kept) may d = at_put TellsOf p.server_at e _ tells_same (tells_same (p.server_at e)) d
row_tells l p (Issue job line e w item) may d =
    at_put TellsOf p.server_at e _ tells_same
    (tells_put (p.server_at e).session_at _ _ (told_more _ _ (λ t there. (refl, omega arith)))) d
row_tells l p (Read job line e at via question) may d = at_put TellsOf p.server_at e _ tells_same (tells_same (p.server_at e)) d
row_tells l p (Grant e session job mode key at) may d = at_put TellsOf p.server_at e _ tells_same (tells_same (p.server_at e)) d
row_tells l p (Granted job line e at) may d = at_put TellsOf p.server_at e _ tells_same (tells_same (p.server_at e)) d
row_tells l p (GiveUp job line e mode key) may d = at_put TellsOf p.server_at e _ tells_same (tells_same (p.server_at e)) d
row_tells l p (Quit job line e mode key) may d = at_put TellsOf p.server_at e _ tells_same (tells_same (p.server_at e)) d
row_tells l p (Free e session job mode key) may d = at_put TellsOf p.server_at e _ tells_same (tells_same (p.server_at e)) d
row_tells l p (Counted job line e at sum) may d = at_put TellsOf p.server_at e _ tells_same (tells_same (p.server_at e)) d
row_tells l p (NotWhole job line e at) may d = at_put TellsOf p.server_at e _ tells_same (tells_same (p.server_at e)) d
row_tells l p (Range job line e at) may d = at_put TellsOf p.server_at e _ tells_same (tells_same (p.server_at e)) d
row_tells l p (Committed job line e at) may d = at_put TellsOf p.server_at e _ tells_same (tells_same (p.server_at e)) d
row_tells l p (RolledBack job line e at) may d = at_put TellsOf p.server_at e _ tells_same (tells_same (p.server_at e)) d
row_tells l p (Reached job line e at) may d = at_put TellsOf p.server_at e _ tells_same (tells_same (p.server_at e)) d
row_tells l p (Level job line level) may d = tells_same (p.server_at d)
row_tells l p (Done job line) may d = tells_same (p.server_at d)
row_tells l p (Refused job line refusal) may d = refused_tells p job refusal d
row_tells l p (Broke app e end time) may d = at_put TellsOf p.server_at e _ tells_same (broke_tells (p.server_at e) app end time) d
row_tells l p (Mended app e) may d = at_put TellsOf p.server_at e _ tells_same (tells_same (p.server_at e)) d
row_tells l p (Tick time) may d = tells_same (p.server_at d)
row_tells l p (Lose app e loss) may d = lost_tells l p app e loss d
row_tells l p (Died app) may d = tells_same (p.server_at d)

-- Several acts.
pub rows_tell : (l : Layout) (p : Plain) (acts : List Act) → RunFrom l p acts → (d : ℕ) → TellsOf (p.server_at d) ((after_all l p acts).server_at d)
rows_tell l p [] run d = tells_same (p.server_at d)
rows_tell l p (a ∷ acts) run d = λ app s k is. rows_tell l (after l p a) acts run.1 d app s k (row_tells l p a run.0 d app s k is)

-- the same orders
known_by_orders : (v w : Server) → SameOrders v w → TellsOf v w → StaysKnown v w
known_by_orders v w s tells = record {
  there = omega (arith, ap (λ (os : List (List Entry)). length os) s.past);
  last = λ k low. ap last_epoch (at k);
  stays = λ k low is. omega (arith, is, ap epoch_place (at k), stays k);
  told = tells;
  opened = λ n k app low is. ap (λ (es : List Entry). app_in es n) (at k) ∙ is;
}
  where
    at : (k : ℕ) → order_at w k ≡ order_at v k
    at k =
        ap (λ (es : List Entry). slice_index_or (w.past ++ es ∷ []) k []) s.order
        ∙ ap (λ (os : List (List Entry)). slice_index_or (os ++ v.order ∷ []) k []) s.past

    stays : (k : ℕ) → stays_at w k ≡ stays_at v k
    stays k =
        ap (λ (os : List (List Entry)). if k == length os then w.synced else epoch_place (order_at w (k + 1)) - 1) s.past
        ∙ ap (λ (n : ℕ). if k == length v.past then n else epoch_place (order_at w (k + 1)) - 1) s.synced
        ∙ ap (λ (es : List Entry). if k == length v.past then v.synced else epoch_place es - 1) (at (k + 1))

-- What acts that leave the orders leave.
pub known_by_acts : (l : Layout) (p : Plain) (acts : List Act) → RunFrom l p acts → AllByRecursion (λ a. leaves_orders a ≡ true) acts → (d : ℕ)
    → StaysKnown (p.server_at d) ((after_all l p acts).server_at d)
known_by_acts l p acts run leave d =
    known_by_orders (p.server_at d) ((after_all l p acts).server_at d) (rows_same l p acts leave d) (rows_tell l p acts run d)
