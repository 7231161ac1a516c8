-- What acts make of the plain pairs.
use Rattle.std.proofs.Common.{◌≡◌, ◌≢◌, ◌⊎◌, inl, inr, ℕ, List, [], ◌∷◌, Some, None, refl, sym, ◌∙◌, ap, subst}
use Rattle.std.specs.List.{AllByRecursion}
use Rattle.plain_orders.specs.declared.act.Act.{Act}
use Rattle.plain_orders.specs.declared.act.Act.TheVariants.{Opened, Enter, Synced, Shut, Release, Met, Told, Back, Crash, Issue, Read, Grant, Granted, GiveUp, Quit, Free, Counted, NotWhole, Range, Committed, RolledBack, Reached, Level, Done, Refused, Broke, Mended, Tick, Lose, Died}
use Rattle.plain_orders.specs.declared.causes.Loss.{Loss}
use Rattle.plain_orders.specs.declared.causes.Loss.TheVariants.{Reset as ByReset, Expired as ByExpired, NoWay as ByNoWay}
use Rattle.plain_orders.specs.declared.causes.PairEnd.TheVariants.{App as AppSide, Server as ServerSide}
use Rattle.plain_orders.specs.declared.layout.Layout.{Layout}
use Rattle.plain_orders.specs.declared.refused.Refused.{Refused as Refusal}
use Rattle.plain_orders.specs.declared.refused.Refused.TheVariants.{NoTransaction, TooDeep, RollbackOnly, LockTimeout, Network}
use Rattle.plain_runs.specs.Plain.{Plain, Server, Pair, put}
use Rattle.plain_runs.specs.JobRows.{refused}
use Rattle.plain_runs.specs.Step.{after}
use Rattle.plain_runs.specs.Run.{after_all}
use Rattle.plain_runs.proofs.RunLemmas.{at_put}
use Rattle.cluster_invariant.proofs.Small.{put_same, put_other}
use Rattle.cluster_steps.proofs.JobPieces.{IsOfJob}

-- an act of a job leaves the pairs

abbrev SamePairs : ℕ → Server → Server → Type 0
SamePairs app s t = t.pair_at app ≡ s.pair_at app

refused_pairs : (p : Plain) (r : Refusal) (job app d : ℕ) → SamePairs app (p.server_at d) ((refused p job r).server_at d)
refused_pairs p NoTransaction job app d = refl
refused_pairs p TooDeep job app d = refl
refused_pairs p RollbackOnly job app d = refl
refused_pairs p LockTimeout job app d = refl
refused_pairs p (Network server state reason) job app d = at_put (SamePairs app) p.server_at server _ (λ s. refl) refl d

pub job_pairs : (l : Layout) (p : Plain) (a : Act) (app d : ℕ) → IsOfJob a → ((after l p a).server_at d).pair_at app ≡ (p.server_at d).pair_at app
job_pairs l p (Opened e entries) app d of_job = absurd of_job
job_pairs l p (Enter e entry) app d of_job = absurd of_job
job_pairs l p (Synced e n) app d of_job = absurd of_job
job_pairs l p (Shut e session cause) app d of_job = absurd of_job
job_pairs l p (Release e session) app d of_job = absurd of_job
job_pairs l p (Met a e session) app d of_job = absurd of_job
job_pairs l p (Told a e session epoch kept) app d of_job = absurd of_job
job_pairs l p (Back e) app d of_job = absurd of_job
job_pairs l p (Crash e kept) app d of_job = absurd of_job
job_pairs l p (Issue job line e w item) app d of_job = at_put (SamePairs app) p.server_at e _ (λ s. refl) refl d
job_pairs l p (Read job line e at via question) app d of_job = at_put (SamePairs app) p.server_at e _ (λ s. refl) refl d
job_pairs l p (Grant e session job mode key at) app d of_job = absurd of_job
job_pairs l p (Granted job line e at) app d of_job = at_put (SamePairs app) p.server_at e _ (λ s. refl) refl d
job_pairs l p (GiveUp job line e mode key) app d of_job = at_put (SamePairs app) p.server_at e _ (λ s. refl) refl d
job_pairs l p (Quit job line e mode key) app d of_job = at_put (SamePairs app) p.server_at e _ (λ s. refl) refl d
job_pairs l p (Free e session job mode key) app d of_job = absurd of_job
job_pairs l p (Counted job line e at sum) app d of_job = at_put (SamePairs app) p.server_at e _ (λ s. refl) refl d
job_pairs l p (NotWhole job line e at) app d of_job = at_put (SamePairs app) p.server_at e _ (λ s. refl) refl d
job_pairs l p (Range job line e at) app d of_job = at_put (SamePairs app) p.server_at e _ (λ s. refl) refl d
job_pairs l p (Committed job line e at) app d of_job = at_put (SamePairs app) p.server_at e _ (λ s. refl) refl d
job_pairs l p (RolledBack job line e at) app d of_job = at_put (SamePairs app) p.server_at e _ (λ s. refl) refl d
job_pairs l p (Reached job line e at) app d of_job = at_put (SamePairs app) p.server_at e _ (λ s. refl) refl d
job_pairs l p (Level job line level) app d of_job = refl
job_pairs l p (Done job line) app d of_job = refl
job_pairs l p (Refused job line refusal) app d of_job = refused_pairs p refusal job app d
job_pairs l p (Broke a e end time) app d of_job = absurd of_job
job_pairs l p (Mended a e) app d of_job = absurd of_job
job_pairs l p (Tick time) app d of_job = absurd of_job
job_pairs l p (Lose a e loss) app d of_job = absurd of_job
job_pairs l p (Died a) app d of_job = absurd of_job

-- an act at an application server's end with one data server

-- it is one
abbrev pub IsAt : ℕ → ℕ → Act → Type 0
IsAt app d (Opened e entries) = ⊥
IsAt app d (Enter e entry) = ⊥
IsAt app d (Synced e n) = ⊥
IsAt app d (Shut e session cause) = ⊥
IsAt app d (Release e session) = ⊥
IsAt app d (Met a e session) = (a ≡ app) × (e ≡ d)
IsAt app d (Told a e session epoch kept) = (a ≡ app) × (e ≡ d)
IsAt app d (Back e) = ⊥
IsAt app d (Crash e kept) = ⊥
IsAt app d (Issue job line e w item) = ⊥
IsAt app d (Read job line e at via question) = ⊥
IsAt app d (Grant e session job mode key at) = ⊥
IsAt app d (Granted job line e at) = ⊥
IsAt app d (GiveUp job line e mode key) = ⊥
IsAt app d (Quit job line e mode key) = ⊥
IsAt app d (Free e session job mode key) = ⊥
IsAt app d (Counted job line e at sum) = ⊥
IsAt app d (NotWhole job line e at) = ⊥
IsAt app d (Range job line e at) = ⊥
IsAt app d (Committed job line e at) = ⊥
IsAt app d (RolledBack job line e at) = ⊥
IsAt app d (Reached job line e at) = ⊥
IsAt app d (Level job line level) = ⊥
IsAt app d (Done job line) = ⊥
IsAt app d (Refused job line refusal) = ⊥
IsAt app d (Broke a e AppSide time) = (a ≡ app) × (e ≡ d)
IsAt app d (Broke a e ServerSide time) = ⊥
IsAt app d (Mended a e) = (a ≡ app) × (e ≡ d)
IsAt app d (Tick time) = ⊥
IsAt app d (Lose a e loss) = (a ≡ app) × (e ≡ d)
IsAt app d (Died a) = ⊥

-- what a loss makes of the pair
abbrev pub pair_lost : Loss → Pair → Pair
pair_lost (ByReset at) pair = record { session = None; broke = None }
pair_lost (ByExpired time) pair = record { session = None; broke = None }
pair_lost (ByNoWay before later) pair = pair

-- what such an act makes of it
abbrev pub pair_with : Act → Pair → Pair
pair_with (Opened e entries) pair = pair
pair_with (Enter e entry) pair = pair
pair_with (Synced e n) pair = pair
pair_with (Shut e session cause) pair = pair
pair_with (Release e session) pair = pair
pair_with (Met a e session) pair = record { session = Some session; broke = None }
pair_with (Told a e session epoch kept) pair = pair
pair_with (Back e) pair = pair
pair_with (Crash e kept) pair = pair
pair_with (Issue job line e w item) pair = pair
pair_with (Read job line e at via question) pair = pair
pair_with (Grant e session job mode key at) pair = pair
pair_with (Granted job line e at) pair = pair
pair_with (GiveUp job line e mode key) pair = pair
pair_with (Quit job line e mode key) pair = pair
pair_with (Free e session job mode key) pair = pair
pair_with (Counted job line e at sum) pair = pair
pair_with (NotWhole job line e at) pair = pair
pair_with (Range job line e at) pair = pair
pair_with (Committed job line e at) pair = pair
pair_with (RolledBack job line e at) pair = pair
pair_with (Reached job line e at) pair = pair
pair_with (Level job line level) pair = pair
pair_with (Done job line) pair = pair
pair_with (Refused job line refusal) pair = pair
pair_with (Broke a e end time) pair = record pair { broke = Some time }
pair_with (Mended a e) pair = record pair { broke = None }
pair_with (Tick time) pair = pair
pair_with (Lose a e loss) pair = pair_lost loss pair
pair_with (Died a) pair = pair

abbrev pub pair_by : List Act → Pair → Pair
pair_by [] pair = pair
pair_by (a ∷ acts) pair = pair_by acts (pair_with a pair)

-- a data server changed, and its pair with one application server
here_pair : (p : Plain) (d app : ℕ) (s : Server) (pair : Pair) → s.pair_at app ≡ pair → (put p.server_at d s d).pair_at app ≡ pair
here_pair p d app s pair its = ap (λ (x : Server). x.pair_at app) (put_same p.server_at d s) ∙ its

lost_pair : (l : Layout) (p : Plain) (app d : ℕ) (loss : Loss) → ((after l p (Lose app d loss)).server_at d).pair_at app ≡ pair_lost loss ((p.server_at d).pair_at app)
lost_pair l p app d (ByReset at) = here_pair p d app _ _ (put_same (p.server_at d).pair_at app _)
lost_pair l p app d (ByExpired time) = here_pair p d app _ _ (put_same (p.server_at d).pair_at app _)
lost_pair l p app d (ByNoWay before later) = here_pair p d app _ _ refl

-- its act here
act_pair : (l : Layout) (p : Plain) (a : Act) (app d : ℕ) → IsAt app d a → ((after l p a).server_at d).pair_at app ≡ pair_with a ((p.server_at d).pair_at app)
act_pair l p (Opened e entries) app d at = absurd at
act_pair l p (Enter e entry) app d at = absurd at
act_pair l p (Synced e n) app d at = absurd at
act_pair l p (Shut e session cause) app d at = absurd at
act_pair l p (Release e session) app d at = absurd at
act_pair l p (Met a e session) app d at =
    subst (λ k. ((after l p (Met k e session)).server_at d).pair_at app ≡ record { session = Some session; broke = None }) (sym at.0)
    (subst (λ k. ((after l p (Met app k session)).server_at d).pair_at app ≡ record { session = Some session; broke = None }) (sym at.1) (here_pair p d app _ _ (put_same (p.server_at d).pair_at app _)))
act_pair l p (Told a e session epoch kept) app d at =
    subst (λ k. ((after l p (Told k e session epoch kept)).server_at d).pair_at app ≡ (p.server_at d).pair_at app) (sym at.0)
    (subst (λ k. ((after l p (Told app k session epoch kept)).server_at d).pair_at app ≡ (p.server_at d).pair_at app) (sym at.1) (here_pair p d app _ _ refl))
act_pair l p (Back e) app d at = absurd at
act_pair l p (Crash e kept) app d at = absurd at
act_pair l p (Issue job line e w item) app d at = absurd at
act_pair l p (Read job line e n via question) app d at = absurd at
act_pair l p (Grant e session job mode key n) app d at = absurd at
act_pair l p (Granted job line e n) app d at = absurd at
act_pair l p (GiveUp job line e mode key) app d at = absurd at
act_pair l p (Quit job line e mode key) app d at = absurd at
act_pair l p (Free e session job mode key) app d at = absurd at
act_pair l p (Counted job line e n sum) app d at = absurd at
act_pair l p (NotWhole job line e n) app d at = absurd at
act_pair l p (Range job line e n) app d at = absurd at
act_pair l p (Committed job line e n) app d at = absurd at
act_pair l p (RolledBack job line e n) app d at = absurd at
act_pair l p (Reached job line e n) app d at = absurd at
act_pair l p (Level job line level) app d at = absurd at
act_pair l p (Done job line) app d at = absurd at
act_pair l p (Refused job line refusal) app d at = absurd at
act_pair l p (Broke a e AppSide time) app d at =
    subst (λ k. ((after l p (Broke k e AppSide time)).server_at d).pair_at app ≡ record ((p.server_at d).pair_at app) { broke = Some time }) (sym at.0)
    (subst (λ k. ((after l p (Broke app k AppSide time)).server_at d).pair_at app ≡ record ((p.server_at d).pair_at app) { broke = Some time }) (sym at.1) (here_pair p d app _ _ (put_same (p.server_at d).pair_at app _)))
act_pair l p (Broke a e ServerSide time) app d at = absurd at
act_pair l p (Mended a e) app d at =
    subst (λ k. ((after l p (Mended k e)).server_at d).pair_at app ≡ record ((p.server_at d).pair_at app) { broke = None }) (sym at.0)
    (subst (λ k. ((after l p (Mended app k)).server_at d).pair_at app ≡ record ((p.server_at d).pair_at app) { broke = None }) (sym at.1) (here_pair p d app _ _ (put_same (p.server_at d).pair_at app _)))
act_pair l p (Tick time) app d at = absurd at
act_pair l p (Lose a e loss) app d at =
    subst (λ k. ((after l p (Lose k e loss)).server_at d).pair_at app ≡ pair_lost loss ((p.server_at d).pair_at app)) (sym at.0)
    (subst (λ k. ((after l p (Lose app k loss)).server_at d).pair_at app ≡ pair_lost loss ((p.server_at d).pair_at app)) (sym at.1) (lost_pair l p app d loss))
act_pair l p (Died a) app d at = absurd at

-- Acts here.
pub acts_pair : (l : Layout) (p : Plain) (ws : List Act) (app d : ℕ) → AllByRecursion (IsAt app d) ws → ((after_all l p ws).server_at d).pair_at app ≡ pair_by ws ((p.server_at d).pair_at app)
acts_pair l p [] app d at = refl
acts_pair l p (a ∷ ws) app d at = acts_pair l (after l p a) ws app d at.1 ∙ ap (pair_by ws) (act_pair l p a app d at.0)

-- They leave the other data servers, and other application servers' pairs.
act_elsewhere : (l : Layout) (p : Plain) (a : Act) (app d k : ℕ) → IsAt app d a → k ≢ d → (after l p a).server_at k ≡ p.server_at k
act_elsewhere l p (Opened e entries) app d k at other = absurd at
act_elsewhere l p (Enter e entry) app d k at other = absurd at
act_elsewhere l p (Synced e n) app d k at other = absurd at
act_elsewhere l p (Shut e session cause) app d k at other = absurd at
act_elsewhere l p (Release e session) app d k at other = absurd at
act_elsewhere l p (Met a e session) app d k at other = put_other p.server_at e _ k (λ same. other (same ∙ at.1))
act_elsewhere l p (Told a e session epoch kept) app d k at other = put_other p.server_at e _ k (λ same. other (same ∙ at.1))
act_elsewhere l p (Back e) app d k at other = absurd at
act_elsewhere l p (Crash e kept) app d k at other = absurd at
act_elsewhere l p (Issue job line e w item) app d k at other = absurd at
act_elsewhere l p (Read job line e n via question) app d k at other = absurd at
act_elsewhere l p (Grant e session job mode key n) app d k at other = absurd at
act_elsewhere l p (Granted job line e n) app d k at other = absurd at
act_elsewhere l p (GiveUp job line e mode key) app d k at other = absurd at
act_elsewhere l p (Quit job line e mode key) app d k at other = absurd at
act_elsewhere l p (Free e session job mode key) app d k at other = absurd at
act_elsewhere l p (Counted job line e n sum) app d k at other = absurd at
act_elsewhere l p (NotWhole job line e n) app d k at other = absurd at
act_elsewhere l p (Range job line e n) app d k at other = absurd at
act_elsewhere l p (Committed job line e n) app d k at other = absurd at
act_elsewhere l p (RolledBack job line e n) app d k at other = absurd at
act_elsewhere l p (Reached job line e n) app d k at other = absurd at
act_elsewhere l p (Level job line level) app d k at other = absurd at
act_elsewhere l p (Done job line) app d k at other = absurd at
act_elsewhere l p (Refused job line refusal) app d k at other = absurd at
act_elsewhere l p (Broke a e AppSide time) app d k at other = put_other p.server_at e _ k (λ same. other (same ∙ at.1))
act_elsewhere l p (Broke a e ServerSide time) app d k at other = absurd at
act_elsewhere l p (Mended a e) app d k at other = put_other p.server_at e _ k (λ same. other (same ∙ at.1))
act_elsewhere l p (Tick time) app d k at other = absurd at
act_elsewhere l p (Lose a e (ByReset n)) app d k at other = put_other p.server_at e _ k (λ same. other (same ∙ at.1))
act_elsewhere l p (Lose a e (ByExpired time)) app d k at other = put_other p.server_at e _ k (λ same. other (same ∙ at.1))
act_elsewhere l p (Lose a e (ByNoWay before later)) app d k at other = put_other p.server_at e _ k (λ same. other (same ∙ at.1))
act_elsewhere l p (Died a) app d k at other = absurd at

pub acts_elsewhere : (l : Layout) (p : Plain) (ws : List Act) (app d k : ℕ) → AllByRecursion (IsAt app d) ws → k ≢ d → (after_all l p ws).server_at k ≡ p.server_at k
acts_elsewhere l p [] app d k at other = refl
acts_elsewhere l p (a ∷ ws) app d k at other = acts_elsewhere l (after l p a) ws app d k at.1 other ∙ act_elsewhere l p a app d k at.0 other

lost_beside : (l : Layout) (p : Plain) (app e other d : ℕ) (loss : Loss) → other ≢ app → SamePairs other (p.server_at d) ((after l p (Lose app e loss)).server_at d)
lost_beside l p app e other d (ByReset at) differs = at_put (SamePairs other) p.server_at e _ (λ s. refl) (put_other (p.server_at e).pair_at app _ other differs) d
lost_beside l p app e other d (ByExpired time) differs = at_put (SamePairs other) p.server_at e _ (λ s. refl) (put_other (p.server_at e).pair_at app _ other differs) d
lost_beside l p app e other d (ByNoWay before later) differs = at_put (SamePairs other) p.server_at e _ (λ s. refl) refl d

act_beside : (l : Layout) (p : Plain) (a : Act) (app e other d : ℕ) → IsAt app e a → other ≢ app → SamePairs other (p.server_at d) ((after l p a).server_at d)
act_beside l p (Opened k entries) app e other d at differs = absurd at
act_beside l p (Enter k entry) app e other d at differs = absurd at
act_beside l p (Synced k n) app e other d at differs = absurd at
act_beside l p (Shut k session cause) app e other d at differs = absurd at
act_beside l p (Release k session) app e other d at differs = absurd at
act_beside l p (Met a k session) app e other d at differs = at_put (SamePairs other) p.server_at k _ (λ s. refl) (put_other (p.server_at k).pair_at a _ other (λ same. differs (same ∙ at.0))) d
act_beside l p (Told a k session epoch kept) app e other d at differs = at_put (SamePairs other) p.server_at k _ (λ s. refl) refl d
act_beside l p (Back k) app e other d at differs = absurd at
act_beside l p (Crash k kept) app e other d at differs = absurd at
act_beside l p (Issue job line k w item) app e other d at differs = absurd at
act_beside l p (Read job line k n via question) app e other d at differs = absurd at
act_beside l p (Grant k session job mode key n) app e other d at differs = absurd at
act_beside l p (Granted job line k n) app e other d at differs = absurd at
act_beside l p (GiveUp job line k mode key) app e other d at differs = absurd at
act_beside l p (Quit job line k mode key) app e other d at differs = absurd at
act_beside l p (Free k session job mode key) app e other d at differs = absurd at
act_beside l p (Counted job line k n sum) app e other d at differs = absurd at
act_beside l p (NotWhole job line k n) app e other d at differs = absurd at
act_beside l p (Range job line k n) app e other d at differs = absurd at
act_beside l p (Committed job line k n) app e other d at differs = absurd at
act_beside l p (RolledBack job line k n) app e other d at differs = absurd at
act_beside l p (Reached job line k n) app e other d at differs = absurd at
act_beside l p (Level job line level) app e other d at differs = absurd at
act_beside l p (Done job line) app e other d at differs = absurd at
act_beside l p (Refused job line refusal) app e other d at differs = absurd at
act_beside l p (Broke a k AppSide time) app e other d at differs = at_put (SamePairs other) p.server_at k _ (λ s. refl) (put_other (p.server_at k).pair_at a _ other (λ same. differs (same ∙ at.0))) d
act_beside l p (Broke a k ServerSide time) app e other d at differs = absurd at
act_beside l p (Mended a k) app e other d at differs = at_put (SamePairs other) p.server_at k _ (λ s. refl) (put_other (p.server_at k).pair_at a _ other (λ same. differs (same ∙ at.0))) d
act_beside l p (Tick time) app e other d at differs = absurd at
act_beside l p (Lose a k loss) app e other d at differs = lost_beside l p a k other d loss (λ same. differs (same ∙ at.0))
act_beside l p (Died a) app e other d at differs = absurd at

-- an act of an application server's ends or jobs
abbrev pub IsOfApp : ℕ → Act → Type 0
IsOfApp app a = ((d : ℕ) × IsAt app d a) ⊎ IsOfJob a

pub acts_beside : (l : Layout) (p : Plain) (ws : List Act) (app other d : ℕ) → AllByRecursion (IsOfApp app) ws → other ≢ app → ((after_all l p ws).server_at d).pair_at other ≡ (p.server_at d).pair_at other
acts_beside l p [] app other d of differs = refl
acts_beside l p (a ∷ ws) app other d of differs = acts_beside l (after l p a) ws app other d of.1 differs ∙ go of.0
  where
    go : IsOfApp app a → ((after l p a).server_at d).pair_at other ≡ (p.server_at d).pair_at other
    go (inl x) = act_beside l p a app x.0 other d x.1 differs
    go (inr x) = job_pairs l p a other d x
