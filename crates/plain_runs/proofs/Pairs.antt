-- The session of each pair was met.
use Rattle.std.proofs.Common.{◌≡◌, ℕ, [], ◌∷◌, ◌++◌, refl, subst, sym, ap, Bool, true, false, eqb, if◌then◌else◌, Option, Some, None}
use Rattle.std.specs.Prelude.{is_some, unwrap_or}
use Rattle.std.specs.Option.{option_map}
use Rattle.std.proofs.lemmas.Bool.{eq-eqb}
use Rattle.std.proofs.lemmas.Option.{same_Some}
use Rattle.plain_orders.specs.declared.entry.Entry.{Entry}
use Rattle.plain_orders.specs.declared.entry.Entry.TheVariants.{Epoch, Opened as OpenedEntry, Closed, Update, Commit, Rollback}
use Rattle.plain_orders.specs.declared.act.Act.{Act}
use Rattle.plain_orders.specs.declared.act.Act.TheVariants.{Opened, Enter, Synced, Shut, Release, Met, Told, Back, Crash, Issue, Read, Grant, Granted, GiveUp, Quit, Free, Counted, NotWhole, Range, Committed, RolledBack, Reached, Level, Done, Refused, Broke, Mended, Tick, Lose, Died}
use Rattle.plain_orders.specs.declared.refused.Refused.{Refused as Refusal}
use Rattle.plain_orders.specs.declared.refused.Refused.TheVariants.{NoTransaction, TooDeep, RollbackOnly, LockTimeout, Network}
use Rattle.plain_orders.specs.declared.causes.Loss.{Loss}
use Rattle.plain_orders.specs.declared.causes.Loss.TheVariants.{Reset as ByReset, Expired as ByExpired, NoWay as ByNoWay}
use Rattle.plain_orders.specs.declared.causes.PairEnd.{PairEnd}
use Rattle.plain_orders.specs.declared.causes.PairEnd.TheVariants.{App as AppEnd, Server as ServerEnd}
use Rattle.plain_orders.specs.declared.layout.Layout.{Layout}
use Rattle.plain_runs.specs.Plain.{Plain, Server, Session, Pair, put, app_of, with_session, pair_session}
use Rattle.plain_runs.specs.OrderRows.{entered}
use Rattle.plain_runs.specs.EndRows.{broke, lost, met_by, told_of, begun_by, new_session}
use Rattle.plain_runs.specs.JobRows.{refused, has_session, issues, txn_of}
use Rattle.plain_runs.specs.Step.{MayCome, after}
use Rattle.plain_runs.proofs.RunLemmas.{at_put}

pub record PairsKept (ses : ℕ → Option Session) (pairs : ℕ → Pair) : Type 0 where
  pub met : (a n : ℕ) → (pairs a).session ≡ Some n → is_some (ses n) ≡ true

abbrev pub PairSteps : Server → Server → Type 0
PairSteps s t = PairsKept s.session_at s.pair_at → PairsKept t.session_at t.pair_at

pub pairs_same : (s : Server) → PairSteps s s
pairs_same s k = k

-- the session of a pair that has one was met
pub pair_met : (s : Server) (app : ℕ) → PairsKept s.session_at s.pair_at → has_session s app ≡ true → is_some (s.session_at (pair_session s app)) ≡ true
pair_met s app k has = go (s.pair_at app).session refl has
  where
    go : (o : Option ℕ) → (s.pair_at app).session ≡ o → is_some o ≡ true → is_some (s.session_at (unwrap_or o 0)) ≡ true
    go None e h = absurd (cc (h))
    go (Some n) e h = k.met app n e

stays : (f : ℕ → Option Session) (n : ℕ) (o : Option Session) → (is_some (f n) ≡ true → is_some o ≡ true) → (m : ℕ) → is_some (f m) ≡ true → is_some (put f n o m) ≡ true
stays f n o here m e = at_put (λ o r. is_some o ≡ true → is_some r ≡ true) f n o (λ o x. x) here m e

mapped : (f : Session → Session) (o : Option Session) → is_some o ≡ true → is_some (option_map f o) ≡ true
mapped f None e = e
mapped f (Some m) e = refl

session_steps : (s t : Server) (n : ℕ) (f : Session → Session) → t.session_at ≡ (with_session s n f).session_at → t.pair_at ≡ s.pair_at → PairSteps s t
session_steps s t n f ses pairs k =
    subst (PairsKept t.session_at) (sym pairs) (subst (λ (g : ℕ → Option Session). PairsKept g s.pair_at) (sym ses)
    (record { met = λ a m e. stays s.session_at n _ (mapped f (s.session_at n)) m (k.met a m e) }))

-- a pair changed, its session as it was or none
pair_steps : (s : Server) (a : ℕ) (x : Pair) → ((n : ℕ) → x.session ≡ Some n → is_some (s.session_at n) ≡ true) → PairsKept s.session_at s.pair_at → PairsKept s.session_at (put s.pair_at a x)
pair_steps s a x here k = record { met = λ b n e. at_put (λ (y z : Pair). ((m : ℕ) → y.session ≡ Some m → is_some (s.session_at m) ≡ true) → (m : ℕ) → z.session ≡ Some m → is_some (s.session_at m) ≡ true) s.pair_at a x (λ y f. f) (λ f. here) b (k.met b) n e }

met_steps : (l : Layout) (s : Server) (app session : ℕ) → PairSteps s (met_by l s app session)
met_steps l s app session k = record { met = λ b n e. go b (eqb b app) refl n e }
  where
    new : is_some ((met_by l s app session).session_at session) ≡ true
    new = ap (λ (b : Bool). is_some (if b then Some (new_session s app session) else s.session_at session)) (eq-eqb session session refl)

    go : (b : ℕ) (c : Bool) → eqb b app ≡ c → (n : ℕ) → ((met_by l s app session).pair_at b).session ≡ Some n → is_some ((met_by l s app session).session_at n) ≡ true
    go b true q n e =
        let same : session ≡ n = same_Some session n (subst (λ (c : Bool). (if c then record { session = Some session; broke = None } else s.pair_at b).session ≡ Some n) q e) in
        subst (λ m. is_some ((met_by l s app session).session_at m) ≡ true) same new
    go b false q n e = stays s.session_at session _ (λ _. refl) n (k.met b n (subst (λ (c : Bool). (if c then record { session = Some session; broke = None } else s.pair_at b).session ≡ Some n) q e))

entered_pairs : (s : Server) (x : Entry) → PairSteps s (entered s x)
entered_pairs s (Epoch number) k = k
entered_pairs s (OpenedEntry session app) k = k
entered_pairs s (Closed session) k = k
entered_pairs s (Update session w job txn op) k = k
entered_pairs s (Commit session w job txn) k = k
entered_pairs s (Rollback session w job txn) k = k

broke_pairs : (s : Server) (app : ℕ) (end : PairEnd) (time : ℕ) → PairSteps s (broke s app end time)
broke_pairs s app AppEnd time k = pair_steps s app _ (k.met app) k
broke_pairs s app ServerEnd time k = k

no_session : (s : Server) (app : ℕ) → PairsKept s.session_at s.pair_at → PairsKept s.session_at (put s.pair_at app (record { session = None; broke = None }))
no_session s app k = pair_steps s app _ (λ n e. absurd (cc (e))) k

lost_pairs : (l : Layout) (p : Plain) (app d : ℕ) (loss : Loss) (e : ℕ) → PairSteps (p.server_at e) ((lost l p app d loss).server_at e)
lost_pairs l p app d (ByReset at) e = at_put PairSteps p.server_at d _ pairs_same (no_session (p.server_at d) app) e
lost_pairs l p app d (ByExpired time) e = at_put PairSteps p.server_at d _ pairs_same (no_session (p.server_at d) app) e
lost_pairs l p app d (ByNoWay from to) e = at_put PairSteps p.server_at d _ pairs_same (λ k. k) e

refused_pairs : (p : Plain) (j : ℕ) (r : Refusal) (d : ℕ) → PairSteps (p.server_at d) ((refused p j r).server_at d)
refused_pairs p j NoTransaction d = λ k. k
refused_pairs p j TooDeep d = λ k. k
refused_pairs p j RollbackOnly d = λ k. k
refused_pairs p j LockTimeout d = λ k. k
refused_pairs p j (Network e state reason) d = at_put PairSteps p.server_at e _ pairs_same (λ k. k) d

pub row_pairs : (l : Layout) (p : Plain) (a : Act) → MayCome l p a → (e : ℕ) → PairSteps (p.server_at e) ((after l p a).server_at e)
row_pairs l p (Opened d entries) may e = at_put PairSteps p.server_at d _ pairs_same (λ k. k) e
row_pairs l p (Enter d x) may e = at_put PairSteps p.server_at d _ pairs_same (entered_pairs (p.server_at d) x) e
row_pairs l p (Synced d n) may e = at_put PairSteps p.server_at d _ pairs_same (λ k. k) e
row_pairs l p (Shut d session cause) may e = at_put PairSteps p.server_at d _ pairs_same (λ k. k) e
row_pairs l p (Release d session) may e = at_put PairSteps p.server_at d _ pairs_same (λ k. k) e
row_pairs l p (Met app d session) may e = at_put PairSteps p.server_at d _ pairs_same (met_steps l (p.server_at d) app session) e
row_pairs l p (Told app d session epoch kept) may e = at_put PairSteps p.server_at d _ pairs_same (session_steps (p.server_at d) (told_of l (p.server_at d) app session epoch kept) session (λ m. record m { told = begun_by (p.server_at d) epoch }) refl refl) e
row_pairs l p (Back d) may e = at_put PairSteps p.server_at d _ pairs_same (λ k. k) e
row_pairs l p (Crash d kept) may e = at_put PairSteps p.server_at d _ pairs_same (λ k. k) e
row_pairs l p (Issue job line d w item) may e = at_put PairSteps p.server_at d _ pairs_same (session_steps (p.server_at d) (issues (p.server_at d) (app_of l job) (record { item = item; txn = txn_of (p.job_at job) item; job = job; line = line })) (pair_session (p.server_at d) (app_of l job)) (λ m. record m { issued = m.issued ++ (record { item = item; txn = txn_of (p.job_at job) item; job = job; line = line }) ∷ [] }) refl refl) e
row_pairs l p (Read job line d at via question) may e = at_put PairSteps p.server_at d _ pairs_same (λ k. k) e
row_pairs l p (Grant d session job mode key at) may e = at_put PairSteps p.server_at d _ pairs_same (λ k. k) e
row_pairs l p (Granted job line d at) may e = at_put PairSteps p.server_at d _ pairs_same (λ k. k) e
row_pairs l p (GiveUp job line d mode key) may e = at_put PairSteps p.server_at d _ pairs_same (λ k. k) e
row_pairs l p (Quit job line d mode key) may e = at_put PairSteps p.server_at d _ pairs_same (λ k. k) e
row_pairs l p (Free d session job mode key) may e = at_put PairSteps p.server_at d _ pairs_same (λ k. k) e
row_pairs l p (Counted job line d at sum) may e = at_put PairSteps p.server_at d _ pairs_same (λ k. k) e
row_pairs l p (NotWhole job line d at) may e = at_put PairSteps p.server_at d _ pairs_same (λ k. k) e
row_pairs l p (Range job line d at) may e = at_put PairSteps p.server_at d _ pairs_same (λ k. k) e
row_pairs l p (Committed job line d at) may e = at_put PairSteps p.server_at d _ pairs_same (λ k. k) e
row_pairs l p (RolledBack job line d at) may e = at_put PairSteps p.server_at d _ pairs_same (λ k. k) e
row_pairs l p (Reached job line d at) may e = at_put PairSteps p.server_at d _ pairs_same (λ k. k) e
row_pairs l p (Level job line level) may e = λ k. k
row_pairs l p (Done job line) may e = λ k. k
row_pairs l p (Refused job line refusal) may e = refused_pairs p job refusal e
row_pairs l p (Broke app d end time) may e = at_put PairSteps p.server_at d _ pairs_same (broke_pairs (p.server_at d) app end time) e
row_pairs l p (Mended app d) may e = at_put PairSteps p.server_at d _ pairs_same (λ k. pair_steps (p.server_at d) app _ (k.met app) k) e
row_pairs l p (Tick time) may e = λ k. k
row_pairs l p (Lose app d loss) may e = lost_pairs l p app d loss e
row_pairs l p (Died app) may e = λ k. k
