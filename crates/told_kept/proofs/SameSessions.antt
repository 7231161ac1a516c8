-- Acts that tell no session anything leave who met which session, and the order that each session is told of.
use Rattle.std.proofs.Common.{◌≡◌, ℕ, Bool, true, false, List, [], ◌∷◌, ◌++◌, Option, Some, None, option_map, refl, sym, ◌∙◌, ap}
use Rattle.std.proofs.lemmas.Bool.{false≢true}
use Rattle.std.specs.List.{AllByRecursion}
use Rattle.plain_orders.specs.declared.act.Act.{Act}
use Rattle.plain_orders.specs.declared.act.Act.TheVariants.{Opened, Enter, Synced, Shut, Release, Met, Told, Back, Crash, Issue, Read, Grant, Granted, GiveUp, Quit, Free, Counted, NotWhole, Range, Committed, RolledBack, Reached, Level, Done, Refused, Broke, Mended, Tick, Lose, Died}
use Rattle.plain_orders.specs.declared.entry.Entry.{Entry}
use Rattle.plain_orders.specs.declared.entry.Entry.TheVariants as entry
use Rattle.plain_orders.specs.declared.refused.Refused.{Refused as Refusal}
use Rattle.plain_orders.specs.declared.refused.Refused.TheVariants.{NoTransaction, TooDeep, RollbackOnly, LockTimeout, Network}
use Rattle.plain_orders.specs.declared.causes.Loss.{Loss}
use Rattle.plain_orders.specs.declared.causes.Loss.TheVariants.{Reset as ByReset, Expired as ByExpired, NoWay as ByNoWay}
use Rattle.plain_orders.specs.declared.causes.PairEnd.{PairEnd}
use Rattle.plain_orders.specs.declared.causes.PairEnd.TheVariants.{App as AppSide, Server as ServerSide}
use Rattle.plain_orders.specs.declared.layout.Layout.{Layout}
use Rattle.plain_orders.specs.Own.{Issued}
use Rattle.plain_runs.specs.Plain.{Plain, Server, Session as PlainSession, pair_session}
use Rattle.plain_runs.specs.EndRows.{broke, lost}
use Rattle.plain_runs.specs.JobRows.{issues, refused}
use Rattle.plain_runs.specs.OrderRows.{entered}
use Rattle.plain_runs.specs.Step.{after}
use Rattle.plain_runs.specs.Run.{after_all}
use Rattle.plain_runs.proofs.RunLemmas.{at_put}
use Rattle.told_kept.proofs.ToldStays.{MetKept, MetsKept}

-- whose a session is, and the order that it is told of
abbrev pub whose : PlainSession → ℕ × ℕ
whose s = (s.app, s.told)

abbrev pub SameMet : Option PlainSession → Option PlainSession → Type 0
SameMet o q = option_map whose q ≡ option_map whose o

abbrev pub SameMets : Server → Server → Type 0
SameMets v w = (n : ℕ) → SameMet (v.session_at n) (w.session_at n)

same_mets : (v : Server) → SameMets v v
same_mets v n = refl

-- an act that tells no session anything
abbrev pub leaves_told : Act → Bool
leaves_told (Opened d entries) = true
leaves_told (Enter d x) = true
leaves_told (Synced d n) = true
leaves_told (Shut d session cause) = true
leaves_told (Release d session) = true
leaves_told (Met app d session) = false
leaves_told (Told app d session epoch kept) = false
leaves_told (Back d) = true
leaves_told (Crash d kept) = true
leaves_told (Issue job line d w item) = true
leaves_told (Read job line d at via question) = true
leaves_told (Grant d session job mode key at) = true
leaves_told (Granted job line d at) = true
leaves_told (GiveUp job line d mode key) = true
leaves_told (Quit job line d mode key) = true
leaves_told (Free d session job mode key) = true
leaves_told (Counted job line d at sum) = true
leaves_told (NotWhole job line d at) = true
leaves_told (Range job line d at) = true
leaves_told (Committed job line d at) = true
leaves_told (RolledBack job line d at) = true
leaves_told (Reached job line d at) = true
leaves_told (Level job line level) = true
leaves_told (Done job line) = true
leaves_told (Refused job line refusal) = true
leaves_told (Broke app d end time) = true
leaves_told (Mended app d) = true
leaves_told (Tick time) = true
leaves_told (Lose app d loss) = true
leaves_told (Died app) = true

issued_same : (o : Option PlainSession) (i : Issued) → SameMet o (option_map (λ (m : PlainSession). record m { issued = m.issued ++ i ∷ [] }) o)
issued_same None i = refl
issued_same (Some s) i = refl

issues_same : (v : Server) (app : ℕ) (i : Issued) → SameMets v (issues v app i)
issues_same v app i n = at_put SameMet v.session_at (pair_session v app) _ (λ o. refl) (issued_same (v.session_at (pair_session v app)) i) n

entered_same : (v : Server) (e : Entry) → SameMets v (entered v e)
entered_same v (entry.Epoch number) n = refl
entered_same v (entry.Opened session app) n = refl
entered_same v (entry.Closed session) n = refl
entered_same v (entry.Update session w job txn op) n = refl
entered_same v (entry.Commit session w job txn) n = refl
entered_same v (entry.Rollback session w job txn) n = refl

broke_same : (v : Server) (app : ℕ) (end : PairEnd) (time : ℕ) → SameMets v (broke v app end time)
broke_same v app AppSide time n = refl
broke_same v app ServerSide time n = refl

lost_same : (l : Layout) (p : Plain) (app server : ℕ) (loss : Loss) (d : ℕ) → SameMets (p.server_at d) ((lost l p app server loss).server_at d)
lost_same l p app server (ByReset at) d = at_put SameMets p.server_at server _ same_mets (λ n. refl) d
lost_same l p app server (ByExpired time) d = at_put SameMets p.server_at server _ same_mets (λ n. refl) d
lost_same l p app server (ByNoWay before later) d = at_put SameMets p.server_at server _ same_mets (λ n. refl) d

refused_same : (p : Plain) (job : ℕ) (r : Refusal) (d : ℕ) → SameMets (p.server_at d) ((refused p job r).server_at d)
refused_same p job NoTransaction d = same_mets (p.server_at d)
refused_same p job TooDeep d = same_mets (p.server_at d)
refused_same p job RollbackOnly d = same_mets (p.server_at d)
refused_same p job LockTimeout d = same_mets (p.server_at d)
refused_same p job (Network server state reason) d = at_put SameMets p.server_at server _ same_mets (λ n. refl) d

row_met : (l : Layout) (p : Plain) (a : Act) → leaves_told a ≡ true → (d : ℕ) → SameMets (p.server_at d) ((after l p a).server_at d)
row_met l p (Opened e entries) leaves d = at_put SameMets p.server_at e _ same_mets (λ n. refl) d
row_met l p (Enter e x) leaves d = at_put SameMets p.server_at e _ same_mets (entered_same (p.server_at e) x) d
row_met l p (Synced e n) leaves d = at_put SameMets p.server_at e _ same_mets (λ n. refl) d
row_met l p (Shut e session cause) leaves d = at_put SameMets p.server_at e _ same_mets (λ n. refl) d
row_met l p (Release e session) leaves d = at_put SameMets p.server_at e _ same_mets (λ n. refl) d
row_met l p (Met app e session) leaves d = absurd (false≢true leaves)
row_met l p (Told app e session epoch kept) leaves d = absurd (false≢true leaves)
row_met l p (Back e) leaves d = at_put SameMets p.server_at e _ same_mets (λ n. refl) d
row_met l p (Crash e kept) leaves d = at_put SameMets p.server_at e _ same_mets (λ n. refl) d
row_met l p (Issue job line e w item) leaves d = at_put SameMets p.server_at e _ same_mets (λ n. issues_same (p.server_at e) _ _ n) d
row_met l p (Read job line e at via question) leaves d = at_put SameMets p.server_at e _ same_mets (λ n. refl) d
row_met l p (Grant e session job mode key at) leaves d = at_put SameMets p.server_at e _ same_mets (λ n. refl) d
row_met l p (Granted job line e at) leaves d = at_put SameMets p.server_at e _ same_mets (λ n. refl) d
row_met l p (GiveUp job line e mode key) leaves d = at_put SameMets p.server_at e _ same_mets (λ n. refl) d
row_met l p (Quit job line e mode key) leaves d = at_put SameMets p.server_at e _ same_mets (λ n. refl) d
row_met l p (Free e session job mode key) leaves d = at_put SameMets p.server_at e _ same_mets (λ n. refl) d
row_met l p (Counted job line e at sum) leaves d = at_put SameMets p.server_at e _ same_mets (λ n. refl) d
row_met l p (NotWhole job line e at) leaves d = at_put SameMets p.server_at e _ same_mets (λ n. refl) d
row_met l p (Range job line e at) leaves d = at_put SameMets p.server_at e _ same_mets (λ n. refl) d
row_met l p (Committed job line e at) leaves d = at_put SameMets p.server_at e _ same_mets (λ n. refl) d
row_met l p (RolledBack job line e at) leaves d = at_put SameMets p.server_at e _ same_mets (λ n. refl) d
row_met l p (Reached job line e at) leaves d = at_put SameMets p.server_at e _ same_mets (λ n. refl) d
row_met l p (Level job line level) leaves d = same_mets (p.server_at d)
row_met l p (Done job line) leaves d = same_mets (p.server_at d)
row_met l p (Refused job line refusal) leaves d = refused_same p job refusal d
row_met l p (Broke app e end time) leaves d = at_put SameMets p.server_at e _ same_mets (broke_same (p.server_at e) app end time) d
row_met l p (Mended app e) leaves d = at_put SameMets p.server_at e _ same_mets (λ n. refl) d
row_met l p (Tick time) leaves d = same_mets (p.server_at d)
row_met l p (Lose app e loss) leaves d = lost_same l p app e loss d
row_met l p (Died app) leaves d = same_mets (p.server_at d)

-- Several such acts.
pub rows_met : (l : Layout) (p : Plain) (acts : List Act) → AllByRecursion (λ a. leaves_told a ≡ true) acts → (d : ℕ) → SameMets (p.server_at d) ((after_all l p acts).server_at d)
rows_met l p [] leaves d = same_mets (p.server_at d)
rows_met l p (a ∷ acts) leaves d = λ n. rows_met l (after l p a) acts leaves.1 d n ∙ row_met l p a leaves.0 d n

-- what is said of a session, or nothing
abbrev app_said : Option (ℕ × ℕ) → ℕ
app_said None = 0
app_said (Some x) = x.0

abbrev told_said : Option (ℕ × ℕ) → ℕ
told_said None = 0
told_said (Some x) = x.1

abbrev is_said : Option (ℕ × ℕ) → Bool
is_said None = false
is_said (Some x) = true

-- then each application server's sessions stay
met_kept : (app : ℕ) (o q : Option PlainSession) → SameMet o q → MetKept app o q
met_kept app None None k = tt
met_kept app None (Some t) k = absurd (false≢true (sym (ap is_said k)))
met_kept app (Some s) None k = absurd (false≢true (ap is_said k))
met_kept app (Some s) (Some t) k = (ap app_said k, λ is. ap told_said k)

pub mets_kept : (app : ℕ) (v w : Server) → SameMets v w → MetsKept app v w
mets_kept app v w same n = met_kept app (v.session_at n) (w.session_at n) (same n)
