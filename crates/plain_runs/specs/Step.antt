-- Which act may come, and what it changes.
use Rattle.std.specs.Prelude.{◌≡◌, ℕ, true, false}
use Rattle.plain_orders.specs.declared.act.Act.{Act}
use Rattle.plain_orders.specs.declared.act.Act.TheVariants.{Opened, Enter, Synced, Shut, Release, Met, Told, Back, Crash, Issue, Read, Grant, Granted, GiveUp, Quit, Free, Counted, NotWhole, Range, Committed, RolledBack, Reached, Level, Done, Refused, Broke, Mended, Tick, Lose, Died}
use Rattle.plain_orders.specs.declared.layout.Layout.{Layout}
use Rattle.plain_orders.specs.declared.sum.Sum.TheVariants.{Whole, NotWhole as SumNotWhole, Range as SumRange}
use Rattle.plain_runs.specs.Plain.{Plain, with_server, with_job, app_of, put}
use Rattle.plain_runs.specs.Items.{is_commit, is_rollback}
use Rattle.plain_runs.specs.OrderRows.{OpenedMay, EnterMay, SyncedMay, CrashMay, BackMay, opened_with, entered, saved, crashed, came_back}
use Rattle.plain_runs.specs.EndRows.{ShutMay, MetMay, ToldMay, BrokeMay, MendedMay, LoseRow, shut, met_by, told_of, broke, mended, lost}
use Rattle.plain_runs.specs.JobRows.{JobMay, JobAtMay, IssueMay, ReadMay, AnswerMay, SumMay, ReachedMay, LevelMay, RefusedMay, txn_of, issues, sees, sees_up, levelled, refused}
use Rattle.plain_runs.specs.LockRows.{GrantMay, GrantedMay, ReleaseMay, GiveUpMay, QuitMay, FreeMay, grants, granted, releases, gives_up, quits, quits_at, frees}

-- the application server didn't die
abbrev pub Lives : Plain → ℕ → Type 0
Lives p app = p.died_at app ≡ false

-- Which act may come.
abbrev pub MayCome : Layout → Plain → Act → Type 0
MayCome l p (Opened d entries) = OpenedMay (p.server_at d) entries
MayCome l p (Enter d entry) = EnterMay l p.clock (p.server_at d) entry
MayCome l p (Synced d n) = SyncedMay (p.server_at d) n
MayCome l p (Shut d session cause) = ShutMay l p (p.server_at d) session cause
MayCome l p (Release d session) = ReleaseMay (p.server_at d) session
MayCome l p (Met app d session) = Lives p app × MetMay (p.server_at d) app session
MayCome l p (Told app d session epoch kept) = Lives p app × ToldMay (p.server_at d) app session epoch kept
MayCome l p (Back d) = BackMay (p.server_at d)
MayCome l p (Crash d kept) = CrashMay (p.server_at d) kept
MayCome l p (Issue job line d w item) = JobAtMay l p job d × IssueMay (p.server_at d) (app_of l job) job w item
MayCome l p (Read job line d at via question) = JobAtMay l p job d × ReadMay (p.server_at d) (app_of l job) job at via question
MayCome l p (Grant d session job mode key at) = GrantMay (p.server_at d) session job mode key at
MayCome l p (Granted job line d at) = JobAtMay l p job d × GrantedMay (p.server_at d) (app_of l job) job at
MayCome l p (GiveUp job line d mode key) = JobAtMay l p job d × GiveUpMay (p.server_at d) (app_of l job) job mode key
MayCome l p (Quit job line d mode key) = JobAtMay l p job d × QuitMay (p.server_at d) (app_of l job) key
MayCome l p (Free d session job mode key) = FreeMay (p.server_at d) session job mode key
MayCome l p (Counted job line d at sum) = JobAtMay l p job d × SumMay (p.server_at d) (app_of l job) job line at (Whole sum)
MayCome l p (NotWhole job line d at) = JobAtMay l p job d × SumMay (p.server_at d) (app_of l job) job line at SumNotWhole
MayCome l p (Range job line d at) = JobAtMay l p job d × SumMay (p.server_at d) (app_of l job) job line at SumRange
MayCome l p (Committed job line d at) = JobAtMay l p job d × AnswerMay (p.server_at d) (app_of l job) job line at is_commit
MayCome l p (RolledBack job line d at) = JobAtMay l p job d × AnswerMay (p.server_at d) (app_of l job) job line at is_rollback
MayCome l p (Reached job line d at) = JobAtMay l p job d × ReachedMay (p.server_at d) (app_of l job) job at
MayCome l p (Level job line level) = JobMay l p job × LevelMay p (app_of l job) job line level
MayCome l p (Done job line) = JobMay l p job
MayCome l p (Refused job line refusal) = JobMay l p job × RefusedMay p job line refusal
MayCome l p (Broke app d end time) = BrokeMay p (p.server_at d) app end time
MayCome l p (Mended app d) = MendedMay p (p.server_at d) app
MayCome l p (Tick time) = Unit {0}
MayCome l p (Lose app d loss) = Lives p app × LoseRow l p (p.server_at d) app loss
MayCome l p (Died app) = Unit {0}

-- What an act changes.
abbrev pub after : Layout → Plain → Act → Plain
after l p (Opened d entries) = with_server p d (opened_with p.clock l.times.round (p.server_at d) entries)
after l p (Enter d entry) = with_server p d (entered (p.server_at d) entry)
after l p (Synced d n) = with_server p d (saved (p.server_at d) n)
after l p (Shut d session cause) = with_server p d (shut (p.server_at d) session)
after l p (Release d session) = with_server p d (releases (p.server_at d) session)
after l p (Met app d session) = with_server p d (met_by l (p.server_at d) app session)
after l p (Told app d session epoch kept) = with_server p d (told_of l (p.server_at d) app session epoch kept)
after l p (Back d) = with_server p d (came_back (p.server_at d))
after l p (Crash d kept) = with_server p d (crashed p.clock l.times.round (p.server_at d) kept)
after l p (Issue job line d w item) = with_server p d (issues (p.server_at d) (app_of l job) (record { item = item; txn = txn_of (p.job_at job) item; job = job; line = line }))
after l p (Read job line d at via question) = with_server p d (sees (p.server_at d) job at)
after l p (Grant d session job mode key at) = with_server p d (grants (p.server_at d) session job mode key at)
after l p (Granted job line d at) = with_server p d (granted (p.server_at d) (app_of l job) job at)
after l p (GiveUp job line d mode key) = with_server p d (gives_up (p.server_at d) (app_of l job) job mode key)
after l p (Quit job line d mode key) = with_job (with_server p d (quits (p.server_at d) (app_of l job) job mode key)) job (quits_at (p.job_at job) line)
after l p (Free d session job mode key) = with_server p d (frees (p.server_at d) session job mode key)
after l p (Counted job line d at sum) = with_server p d (sees_up (p.server_at d) job at)
after l p (NotWhole job line d at) = with_server p d (sees_up (p.server_at d) job at)
after l p (Range job line d at) = with_server p d (sees_up (p.server_at d) job at)
after l p (Committed job line d at) = with_server p d (sees_up (p.server_at d) job at)
after l p (RolledBack job line d at) = with_server p d (sees_up (p.server_at d) job at)
after l p (Reached job line d at) = with_server p d (sees_up (p.server_at d) job at)
after l p (Level job line level) = with_job p job (levelled (p.job_at job) level)
after l p (Done job line) = p
after l p (Refused job line refusal) = refused p job refusal
after l p (Broke app d end time) = with_server p d (broke (p.server_at d) app end time)
after l p (Mended app d) = with_server p d (mended (p.server_at d) app)
after l p (Tick time) = record p { clock = time }
after l p (Lose app d loss) = lost l p app d loss
after l p (Died app) = record p { died_at = put p.died_at app true }
