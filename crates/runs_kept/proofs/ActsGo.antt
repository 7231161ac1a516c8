-- The acts of a data server's step but its saves: what they leave, and what locks rest on.
use Rattle.std.proofs.Common.{◌≡◌, ℕ, Bool, true, false, List, [], ◌∷◌, ◌++◌, cond, refl, ◌∙◌, ap}
use Rattle.std.specs.List.{AllByRecursion}
use Rattle.std.proofs.lemmas.Bool.{false≢true}
use Rattle.plain_orders.specs.declared.act.Act.{Act}
use Rattle.plain_orders.specs.declared.act.Act.TheVariants.{Opened, Enter, Synced, Shut, Release, Met, Told, Back, Crash, Issue, Read, Grant, Granted, GiveUp, Quit, Free, Counted, NotWhole, Range, Committed, RolledBack, Reached, Level, Done, Refused, Broke, Mended, Tick, Lose, Died}
use Rattle.plain_orders.specs.declared.causes.PairEnd.{PairEnd}
use Rattle.plain_orders.specs.declared.causes.PairEnd.TheVariants.{App as AppSide, Server as ServerSide}
use Rattle.plain_orders.specs.declared.entry.Entry.{Entry}
use Rattle.plain_orders.specs.declared.entry.Entry.TheVariants as entry
use Rattle.plain_orders.specs.declared.layout.Layout.{Layout}
use Rattle.plain_runs.specs.EndRows.{broke}
use Rattle.plain_runs.specs.OrderRows.{entered}
use Rattle.plain_runs.specs.Plain.{Plain, Server}
use Rattle.plain_runs.specs.Run.{after_all}
use Rattle.plain_runs.specs.Step.{after}
use Rattle.plain_runs.proofs.RunLemmas.{at_put}
use Rattle.cluster_runs.specs.Steps.{is_raised, raised}

-- an act of a step that is no save
abbrev pub is_data : Act → Bool
is_data (Enter d e) = true
is_data (Shut d session cause) = true
is_data (Release d session) = true
is_data (Back d) = true
is_data (Grant d session job mode key at) = true
is_data (Free d session job mode key) = true
is_data (Broke app d end time) = true
is_data a = false

-- the moment, which servers had a first order, and how much is synced
pub record Kept (p q : Plain) : Type 0 where
  pub clock : q.clock ≡ p.clock
  pub opened : (d : ℕ) → (p.server_at d).opened ≡ true → (q.server_at d).opened ≡ true
  pub synced : (d : ℕ) → (q.server_at d).synced ≡ (p.server_at d).synced

record Still (v w : Server) : Type 0 where
  opened : w.opened ≡ v.opened
  synced : w.synced ≡ v.synced

still : (v : Server) → Still v v
still v = record { opened = refl; synced = refl }

keeps : (p q : Plain) → q.clock ≡ p.clock → ((d : ℕ) → Still (p.server_at d) (q.server_at d)) → Kept p q
keeps p q clock all = record { clock = clock; opened = λ d is. (all d).opened ∙ is; synced = λ d. (all d).synced }

enters_still : (v : Server) (e : Entry) → Still v (entered v e)
enters_still v (entry.Epoch number) = record { opened = refl; synced = refl }
enters_still v (entry.Opened session app) = record { opened = refl; synced = refl }
enters_still v (entry.Closed session) = record { opened = refl; synced = refl }
enters_still v (entry.Update session w job txn op) = record { opened = refl; synced = refl }
enters_still v (entry.Commit session w job txn) = record { opened = refl; synced = refl }
enters_still v (entry.Rollback session w job txn) = record { opened = refl; synced = refl }

broke_still : (v : Server) (app : ℕ) (end : PairEnd) (time : ℕ) → Still v (broke v app end time)
broke_still v app AppSide time = record { opened = refl; synced = refl }
broke_still v app ServerSide time = record { opened = refl; synced = refl }

pub data_keeps : (l : Layout) (p : Plain) (a : Act) → is_data a ≡ true → Kept p (after l p a)
data_keeps l p (Opened d entries) its = absurd (false≢true its)
data_keeps l p (Enter d e) its = keeps p (after l p (Enter d e)) refl (at_put Still p.server_at d _ still (enters_still (p.server_at d) e))
data_keeps l p (Synced d n) its = absurd (false≢true its)
data_keeps l p (Shut d session cause) its = keeps p (after l p (Shut d session cause)) refl (at_put Still p.server_at d _ still (record { opened = refl; synced = refl }))
data_keeps l p (Release d session) its = keeps p (after l p (Release d session)) refl (at_put Still p.server_at d _ still (record { opened = refl; synced = refl }))
data_keeps l p (Met app d session) its = absurd (false≢true its)
data_keeps l p (Told app d session epoch kept) its = absurd (false≢true its)
data_keeps l p (Back d) its = keeps p (after l p (Back d)) refl (at_put Still p.server_at d _ still (record { opened = refl; synced = refl }))
data_keeps l p (Crash d kept) its = absurd (false≢true its)
data_keeps l p (Issue job line d w item) its = absurd (false≢true its)
data_keeps l p (Read job line d at via question) its = absurd (false≢true its)
data_keeps l p (Grant d session job mode key at) its = keeps p (after l p (Grant d session job mode key at)) refl (at_put Still p.server_at d _ still (record { opened = refl; synced = refl }))
data_keeps l p (Granted job line d at) its = absurd (false≢true its)
data_keeps l p (GiveUp job line d mode key) its = absurd (false≢true its)
data_keeps l p (Quit job line d mode key) its = absurd (false≢true its)
data_keeps l p (Free d session job mode key) its = keeps p (after l p (Free d session job mode key)) refl (at_put Still p.server_at d _ still (record { opened = refl; synced = refl }))
data_keeps l p (Counted job line d at sum) its = absurd (false≢true its)
data_keeps l p (NotWhole job line d at) its = absurd (false≢true its)
data_keeps l p (Range job line d at) its = absurd (false≢true its)
data_keeps l p (Committed job line d at) its = absurd (false≢true its)
data_keeps l p (RolledBack job line d at) its = absurd (false≢true its)
data_keeps l p (Reached job line d at) its = absurd (false≢true its)
data_keeps l p (Level job line level) its = absurd (false≢true its)
data_keeps l p (Done job line) its = absurd (false≢true its)
data_keeps l p (Refused job line refusal) its = absurd (false≢true its)
data_keeps l p (Broke app d end time) its = keeps p (after l p (Broke app d end time)) refl (at_put Still p.server_at d _ still (broke_still (p.server_at d) app end time))
data_keeps l p (Mended app d) its = absurd (false≢true its)
data_keeps l p (Tick time) its = absurd (false≢true its)
data_keeps l p (Lose app d loss) its = absurd (false≢true its)
data_keeps l p (Died app) its = absurd (false≢true its)

pub data_raised : (k : ℕ) (a : Act) → is_data a ≡ true → is_raised k a ≡ true
data_raised k (Opened d entries) its = absurd (false≢true its)
data_raised k (Enter d e) its = refl
data_raised k (Synced d n) its = absurd (false≢true its)
data_raised k (Shut d session cause) its = refl
data_raised k (Release d session) its = refl
data_raised k (Met app d session) its = absurd (false≢true its)
data_raised k (Told app d session epoch kept) its = absurd (false≢true its)
data_raised k (Back d) its = refl
data_raised k (Crash d kept) its = absurd (false≢true its)
data_raised k (Issue job line d w item) its = absurd (false≢true its)
data_raised k (Read job line d at via question) its = absurd (false≢true its)
data_raised k (Grant d session job mode key at) its = refl
data_raised k (Granted job line d at) its = absurd (false≢true its)
data_raised k (GiveUp job line d mode key) its = absurd (false≢true its)
data_raised k (Quit job line d mode key) its = absurd (false≢true its)
data_raised k (Free d session job mode key) its = refl
data_raised k (Counted job line d at sum) its = absurd (false≢true its)
data_raised k (NotWhole job line d at) its = absurd (false≢true its)
data_raised k (Range job line d at) its = absurd (false≢true its)
data_raised k (Committed job line d at) its = absurd (false≢true its)
data_raised k (RolledBack job line d at) its = absurd (false≢true its)
data_raised k (Reached job line d at) its = absurd (false≢true its)
data_raised k (Level job line level) its = absurd (false≢true its)
data_raised k (Done job line) its = absurd (false≢true its)
data_raised k (Refused job line refusal) its = absurd (false≢true its)
data_raised k (Broke app d end time) its = refl
data_raised k (Mended app d) its = absurd (false≢true its)
data_raised k (Tick time) its = absurd (false≢true its)
data_raised k (Lose app d loss) its = absurd (false≢true its)
data_raised k (Died app) its = absurd (false≢true its)

-- what they make together
pub all_keep : (l : Layout) (p : Plain) (acts : List Act) → AllByRecursion (λ a. is_data a ≡ true) acts → Kept p (after_all l p acts)
all_keep l p [] all = record { clock = refl; opened = λ d is. is; synced = λ d. refl }
all_keep l p (a ∷ acts) all = go (data_keeps l p a all.0) (all_keep l (after l p a) acts all.1)
  where
    go : Kept p (after l p a) → Kept (after l p a) (after_all l (after l p a) acts) → Kept p (after_all l p (a ∷ acts))
    go f m = record { clock = m.clock ∙ f.clock; opened = λ d is. m.opened d (f.opened d is); synced = λ d. m.synced d ∙ f.synced d }

pub raised_data : (k : ℕ) (acts : List Act) → AllByRecursion (λ a. is_data a ≡ true) acts → raised k acts ≡ acts
raised_data k [] all = refl
raised_data k (a ∷ acts) all = ap (λ (b : Bool). cond b (a ∷ raised k acts) (raised k acts)) (data_raised k a all.0) ∙ ap (λ (xs : List Act). a ∷ xs) (raised_data k acts all.1)

pub raised_joined : (k : ℕ) (xs ys : List Act) → raised k (xs ++ ys) ≡ raised k xs ++ raised k ys
raised_joined k [] ys = refl
raised_joined k (x ∷ xs) ys = go (is_raised k x) (raised_joined k xs ys)
  where
    go : (b : Bool) → raised k (xs ++ ys) ≡ raised k xs ++ raised k ys → cond b (x ∷ raised k (xs ++ ys)) (raised k (xs ++ ys)) ≡ cond b (x ∷ raised k xs) (raised k xs) ++ raised k ys
    go true more = ap (λ (zs : List Act). x ∷ zs) more
    go false more = more
