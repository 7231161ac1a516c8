-- Acts that aren't of a data server leave when its ends broke, when its round is due, and whether it was opened.
use Rattle.std.proofs.Common.{◌≡◌, ℕ, Bool, true, false, List, [], ◌∷◌, refl, ◌∙◌}
use Rattle.std.proofs.lemmas.Bool.{false≢true}
use Rattle.std.specs.List.{AllByRecursion}
use Rattle.plain_orders.specs.declared.act.Act.{Act}
use Rattle.plain_orders.specs.declared.act.Act.TheVariants.{Opened, Enter, Synced, Shut, Release, Met, Told, Back, Crash, Issue, Read, Grant, Granted, GiveUp, Quit, Free, Counted, NotWhole, Range, Committed, RolledBack, Reached, Level, Done, Refused, Broke, Mended, Tick, Lose, Died}
use Rattle.plain_orders.specs.declared.refused.Refused.{Refused as Refusal}
use Rattle.plain_orders.specs.declared.refused.Refused.TheVariants.{NoTransaction, TooDeep, RollbackOnly, LockTimeout, Network}
use Rattle.plain_orders.specs.declared.causes.Loss.{Loss}
use Rattle.plain_orders.specs.declared.causes.Loss.TheVariants.{Reset as ByReset, Expired as ByExpired, NoWay as ByNoWay}
use Rattle.plain_orders.specs.declared.causes.PairEnd.TheVariants.{App as AppSide, Server as ServerSide}
use Rattle.plain_orders.specs.declared.layout.Layout.{Layout}
use Rattle.plain_runs.specs.Plain.{Plain, Server}
use Rattle.plain_runs.specs.EndRows.{lost}
use Rattle.plain_runs.specs.JobRows.{refused}
use Rattle.plain_runs.specs.Step.{after}
use Rattle.plain_runs.specs.Run.{after_all}
use Rattle.plain_runs.proofs.RunLemmas.{at_put}
use Rattle.data_ends_kept.proofs.NodeEndsBeside.{SameBroke}

broke_none : (v : Server) → SameBroke v v
broke_none v = record { ends = refl; due = refl }

-- an act that is no data server's
abbrev pub leaves_breaks : Act → Bool
leaves_breaks (Opened d entries) = false
leaves_breaks (Enter d x) = false
leaves_breaks (Synced d n) = false
leaves_breaks (Shut d session cause) = false
leaves_breaks (Release d session) = false
leaves_breaks (Met app d session) = true
leaves_breaks (Told app d session epoch kept) = true
leaves_breaks (Back d) = false
leaves_breaks (Crash d kept) = false
leaves_breaks (Issue job line d w item) = true
leaves_breaks (Read job line d at via question) = true
leaves_breaks (Grant d session job mode key at) = false
leaves_breaks (Granted job line d at) = true
leaves_breaks (GiveUp job line d mode key) = true
leaves_breaks (Quit job line d mode key) = true
leaves_breaks (Free d session job mode key) = false
leaves_breaks (Counted job line d at sum) = true
leaves_breaks (NotWhole job line d at) = true
leaves_breaks (Range job line d at) = true
leaves_breaks (Committed job line d at) = true
leaves_breaks (RolledBack job line d at) = true
leaves_breaks (Reached job line d at) = true
leaves_breaks (Level job line level) = true
leaves_breaks (Done job line) = true
leaves_breaks (Refused job line refusal) = true
leaves_breaks (Broke app d AppSide time) = true
leaves_breaks (Broke app d ServerSide time) = false
leaves_breaks (Mended app d) = true
leaves_breaks (Tick time) = true
leaves_breaks (Lose app d loss) = true
leaves_breaks (Died app) = true

lost_same : (l : Layout) (p : Plain) (app server : ℕ) (loss : Loss) (d : ℕ) → SameBroke (p.server_at d) ((lost l p app server loss).server_at d)
lost_same l p app server (ByReset at) d = at_put SameBroke p.server_at server _ broke_none (record { ends = refl; due = refl }) d
lost_same l p app server (ByExpired time) d = at_put SameBroke p.server_at server _ broke_none (record { ends = refl; due = refl }) d
lost_same l p app server (ByNoWay before later) d = at_put SameBroke p.server_at server _ broke_none (record { ends = refl; due = refl }) d

refused_same : (p : Plain) (job : ℕ) (r : Refusal) (d : ℕ) → SameBroke (p.server_at d) ((refused p job r).server_at d)
refused_same p job NoTransaction d = broke_none (p.server_at d)
refused_same p job TooDeep d = broke_none (p.server_at d)
refused_same p job RollbackOnly d = broke_none (p.server_at d)
refused_same p job LockTimeout d = broke_none (p.server_at d)
refused_same p job (Network server state reason) d = at_put SameBroke p.server_at server _ broke_none (record { ends = refl; due = refl }) d

row_breaks : (l : Layout) (p : Plain) (a : Act) → leaves_breaks a ≡ true → (d : ℕ) → SameBroke (p.server_at d) ((after l p a).server_at d)
row_breaks l p (Opened e entries) leaves d = absurd (false≢true leaves)
row_breaks l p (Enter e x) leaves d = absurd (false≢true leaves)
row_breaks l p (Synced e n) leaves d = absurd (false≢true leaves)
row_breaks l p (Shut e session cause) leaves d = absurd (false≢true leaves)
row_breaks l p (Release e session) leaves d = absurd (false≢true leaves)
row_breaks l p (Met app e session) leaves d = at_put SameBroke p.server_at e _ broke_none (record { ends = refl; due = refl }) d
row_breaks l p (Told app e session epoch kept) leaves d = at_put SameBroke p.server_at e _ broke_none (record { ends = refl; due = refl }) d
row_breaks l p (Back e) leaves d = absurd (false≢true leaves)
row_breaks l p (Crash e kept) leaves d = absurd (false≢true leaves)
row_breaks l p (Issue job line e w item) leaves d = at_put SameBroke p.server_at e _ broke_none (record { ends = refl; due = refl }) d
row_breaks l p (Read job line e at via question) leaves d = at_put SameBroke p.server_at e _ broke_none (record { ends = refl; due = refl }) d
row_breaks l p (Grant e session job mode key at) leaves d = absurd (false≢true leaves)
row_breaks l p (Granted job line e at) leaves d = at_put SameBroke p.server_at e _ broke_none (record { ends = refl; due = refl }) d
row_breaks l p (GiveUp job line e mode key) leaves d = at_put SameBroke p.server_at e _ broke_none (record { ends = refl; due = refl }) d
row_breaks l p (Quit job line e mode key) leaves d = at_put SameBroke p.server_at e _ broke_none (record { ends = refl; due = refl }) d
row_breaks l p (Free e session job mode key) leaves d = absurd (false≢true leaves)
row_breaks l p (Counted job line e at sum) leaves d = at_put SameBroke p.server_at e _ broke_none (record { ends = refl; due = refl }) d
row_breaks l p (NotWhole job line e at) leaves d = at_put SameBroke p.server_at e _ broke_none (record { ends = refl; due = refl }) d
row_breaks l p (Range job line e at) leaves d = at_put SameBroke p.server_at e _ broke_none (record { ends = refl; due = refl }) d
row_breaks l p (Committed job line e at) leaves d = at_put SameBroke p.server_at e _ broke_none (record { ends = refl; due = refl }) d
row_breaks l p (RolledBack job line e at) leaves d = at_put SameBroke p.server_at e _ broke_none (record { ends = refl; due = refl }) d
row_breaks l p (Reached job line e at) leaves d = at_put SameBroke p.server_at e _ broke_none (record { ends = refl; due = refl }) d
row_breaks l p (Level job line level) leaves d = broke_none (p.server_at d)
row_breaks l p (Done job line) leaves d = broke_none (p.server_at d)
row_breaks l p (Refused job line refusal) leaves d = refused_same p job refusal d
row_breaks l p (Broke app e AppSide time) leaves d = at_put SameBroke p.server_at e _ broke_none (record { ends = refl; due = refl }) d
row_breaks l p (Broke app e ServerSide time) leaves d = absurd (false≢true leaves)
row_breaks l p (Mended app e) leaves d = at_put SameBroke p.server_at e _ broke_none (record { ends = refl; due = refl }) d
row_breaks l p (Tick time) leaves d = broke_none (p.server_at d)
row_breaks l p (Lose app e loss) leaves d = lost_same l p app e loss d
row_breaks l p (Died app) leaves d = broke_none (p.server_at d)

-- Several such acts.
pub rows_breaks : (l : Layout) (p : Plain) (acts : List Act) → AllByRecursion (λ a. leaves_breaks a ≡ true) acts → (d : ℕ) → SameBroke (p.server_at d) ((after_all l p acts).server_at d)
rows_breaks l p [] leaves d = broke_none (p.server_at d)
rows_breaks l p (a ∷ acts) leaves d = go (row_breaks l p a leaves.0 d) (rows_breaks l (after l p a) acts leaves.1 d)
  where
    go : SameBroke (p.server_at d) ((after l p a).server_at d) → SameBroke ((after l p a).server_at d) ((after_all l (after l p a) acts).server_at d) → SameBroke (p.server_at d) ((after_all l (after l p a) acts).server_at d)
    go s t = record { ends = t.ends ∙ s.ends; due = t.due ∙ s.due }
