-- The acts that leave a server's holds and the requests that were given up.
use Rattle.std.proofs.Common.{ℕ, refl}
use Rattle.plain_orders.specs.declared.act.Act.TheVariants.{Opened, Enter, Synced, Shut, Release, Met, Told, Back, Crash, Issue, Read}
use Rattle.plain_orders.specs.declared.act.Act.TheVariants.{Grant, Granted, GiveUp, Quit, Free, Counted, NotWhole, Range, Committed, RolledBack}
use Rattle.plain_orders.specs.declared.act.Act.TheVariants.{Reached, Level, Done, Refused, Broke, Mended, Tick, Lose, Died}
use Rattle.plain_orders.specs.declared.refused.Refused.{Refused as Refusal}
use Rattle.plain_orders.specs.declared.refused.Refused.TheVariants.{NoTransaction, TooDeep, RollbackOnly, LockTimeout, Network}
use Rattle.plain_orders.specs.declared.causes.Loss.{Loss}
use Rattle.plain_orders.specs.declared.causes.Loss.TheVariants.{Reset as ByReset, Expired as ByExpired, NoWay as ByNoWay}
use Rattle.plain_orders.specs.declared.causes.PairEnd.{PairEnd}
use Rattle.plain_orders.specs.declared.causes.PairEnd.TheVariants.{App as AppEnd, Server as ServerEnd}
use Rattle.plain_orders.specs.declared.entry.Entry.{Entry}
use Rattle.plain_orders.specs.declared.entry.Entry.TheVariants.{Epoch, Opened as OpenedEntry, Closed, Update, Commit, Rollback}
use Rattle.plain_orders.specs.declared.layout.Layout.{Layout}
use Rattle.plain_runs.specs.Plain.{Plain, Server}
use Rattle.plain_runs.specs.OrderRows.{entered}
use Rattle.plain_runs.specs.EndRows.{broke, lost}
use Rattle.plain_runs.specs.JobRows.{refused}
use Rattle.plain_runs.proofs.RunLemmas.{at_put}
use Rattle.hold_laws.specs.HoldChanges.{OthersLeaveHolds, SameHolds}

same_holds : (s : Server) → SameHolds s s
same_holds s = record { holds = refl; quits = refl; turns = refl }

leaves_entry : (s : Server) (x : Entry) → SameHolds s (entered s x)
leaves_entry s (Epoch number) = same_holds s
leaves_entry s (OpenedEntry session app) = record { holds = refl; quits = refl; turns = refl }
leaves_entry s (Closed session) = same_holds s
leaves_entry s (Update session w job txn op) = record { holds = refl; quits = refl; turns = refl }
leaves_entry s (Commit session w job txn) = record { holds = refl; quits = refl; turns = refl }
leaves_entry s (Rollback session w job txn) = record { holds = refl; quits = refl; turns = refl }

leaves_broke : (s : Server) (app : ℕ) (end : PairEnd) (time : ℕ) → SameHolds s (broke s app end time)
leaves_broke s app AppEnd time = record { holds = refl; quits = refl; turns = refl }
leaves_broke s app ServerEnd time = record { holds = refl; quits = refl; turns = refl }

leaves_lost : (l : Layout) (p : Plain) (app d : ℕ) (loss : Loss) (e : ℕ) → SameHolds (p.server_at e) ((lost l p app d loss).server_at e)
leaves_lost l p app d (ByReset at) e = at_put SameHolds p.server_at d _ same_holds (record { holds = refl; quits = refl; turns = refl }) e
leaves_lost l p app d (ByExpired time) e = at_put SameHolds p.server_at d _ same_holds (record { holds = refl; quits = refl; turns = refl }) e
leaves_lost l p app d (ByNoWay from to) e = at_put SameHolds p.server_at d _ same_holds (record { holds = refl; quits = refl; turns = refl }) e

leaves_refused : (p : Plain) (j : ℕ) (r : Refusal) (e : ℕ) → SameHolds (p.server_at e) ((refused p j r).server_at e)
leaves_refused p j NoTransaction e = same_holds (p.server_at e)
leaves_refused p j TooDeep e = same_holds (p.server_at e)
leaves_refused p j RollbackOnly e = same_holds (p.server_at e)
leaves_refused p j LockTimeout e = same_holds (p.server_at e)
leaves_refused p j (Network d state reason) e = at_put SameHolds p.server_at d _ same_holds (record { holds = refl; quits = refl; turns = refl }) e

pub others_leave_holds : OthersLeaveHolds
others_leave_holds l p (Opened d entries) e off = at_put SameHolds p.server_at d _ same_holds (record { holds = refl; quits = refl; turns = refl }) e
others_leave_holds l p (Enter d x) e off = at_put SameHolds p.server_at d _ same_holds (leaves_entry (p.server_at d) x) e
others_leave_holds l p (Synced d n) e off = at_put SameHolds p.server_at d _ same_holds (record { holds = refl; quits = refl; turns = refl }) e
others_leave_holds l p (Shut d session cause) e off = at_put SameHolds p.server_at d _ same_holds (record { holds = refl; quits = refl; turns = refl }) e
others_leave_holds l p (Release d session) e off = absurd (cc (off))
others_leave_holds l p (Met app d session) e off = at_put SameHolds p.server_at d _ same_holds (record { holds = refl; quits = refl; turns = refl }) e
others_leave_holds l p (Told app d session epoch kept) e off =
    at_put SameHolds p.server_at d _ same_holds (record { holds = refl; quits = refl; turns = refl }) e
others_leave_holds l p (Back d) e off = absurd (cc (off))
others_leave_holds l p (Crash d kept) e off = absurd (cc (off))
others_leave_holds l p (Issue job line d w item) e off = at_put SameHolds p.server_at d _ same_holds (record { holds = refl; quits = refl; turns = refl }) e
others_leave_holds l p (Read job line d at via question) e off =
    at_put SameHolds p.server_at d _ same_holds (record { holds = refl; quits = refl; turns = refl }) e
others_leave_holds l p (Grant d session job mode key at) e off = absurd (cc (off))
others_leave_holds l p (Granted job line d at) e off = absurd (cc (off))
others_leave_holds l p (GiveUp job line d mode key) e off = absurd (cc (off))
others_leave_holds l p (Quit job line d mode key) e off = absurd (cc (off))
others_leave_holds l p (Free d session job mode key) e off = absurd (cc (off))
others_leave_holds l p (Counted job line d at sum) e off = at_put SameHolds p.server_at d _ same_holds (record { holds = refl; quits = refl; turns = refl }) e
others_leave_holds l p (NotWhole job line d at) e off = at_put SameHolds p.server_at d _ same_holds (record { holds = refl; quits = refl; turns = refl }) e
others_leave_holds l p (Range job line d at) e off = at_put SameHolds p.server_at d _ same_holds (record { holds = refl; quits = refl; turns = refl }) e
others_leave_holds l p (Committed job line d at) e off = at_put SameHolds p.server_at d _ same_holds (record { holds = refl; quits = refl; turns = refl }) e
others_leave_holds l p (RolledBack job line d at) e off = at_put SameHolds p.server_at d _ same_holds (record { holds = refl; quits = refl; turns = refl }) e
others_leave_holds l p (Reached job line d at) e off = at_put SameHolds p.server_at d _ same_holds (record { holds = refl; quits = refl; turns = refl }) e
others_leave_holds l p (Level job line level) e off = same_holds (p.server_at e)
others_leave_holds l p (Done job line) e off = same_holds (p.server_at e)
others_leave_holds l p (Refused job line refusal) e off = leaves_refused p job refusal e
others_leave_holds l p (Broke app d end time) e off = at_put SameHolds p.server_at d _ same_holds (leaves_broke (p.server_at d) app end time) e
others_leave_holds l p (Mended app d) e off = at_put SameHolds p.server_at d _ same_holds (record { holds = refl; quits = refl; turns = refl }) e
others_leave_holds l p (Tick time) e off = same_holds (p.server_at e)
others_leave_holds l p (Lose app d loss) e off = leaves_lost l p app d loss e
others_leave_holds l p (Died app) e off = same_holds (p.server_at e)
