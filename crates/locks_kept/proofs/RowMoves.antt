-- What the rows of a table of locks are, after each move.
use Rattle.std.proofs.Common.{◌≡◌, ◌<◌, ℕ, zero, suc, Bool, true, false, cond, List, [], ◌∷◌, ◌++◌, drop, filter, length, Option, Some, None, refl, sym, ◌∙◌, ap, subst, arith}
use Rattle.std.specs.Prelude.{IfSome}
use Rattle.std.specs.List.{AllByRecursion}
use Rattle.plain_orders.specs.declared.act.Act.{Act}
use Rattle.plain_orders.specs.declared.act.Act.TheVariants as act
use Rattle.plain_orders.specs.declared.entry.Entry.{Entry}
use Rattle.plain_orders.specs.declared.layout.Layout.{Layout}
use Rattle.plain_orders.specs.declared.layout.Times.{Times}
use Rattle.plain_orders.specs.declared.mode.Mode.{Mode}
use Rattle.plain_runs.specs.Run.{IsRun}
use Rattle.app_job.specs.declared.command.Command.{Command}
use Rattle.app_job.specs.declared.command.Command.TheVariants as commands
use Rattle.ecp_messages.specs.declared.up.Up.{Up}
use Rattle.ecp_messages.specs.declared.up.Up.TheVariants as up
use Rattle.lock_table.specs.declared.rows.Request.{Request}
use Rattle.lock_table.specs.declared.rows.Who.{Who}
use Rattle.lock_table.specs.LockWords.{Freed, Locks, asked, freed, is_hold_elsewhere, is_other_ticket, is_request_elsewhere, lowered, waits, with_grant, without_grant, without_request, without_session, without_ticket}
use Rattle.data_rules.specs.DataState.{DataState}
use Rattle.data_rules.specs.declared.data_in.DataIn.{DataIn}
use Rattle.data_rules.specs.declared.data_in.DataIn.TheVariants as data_in
use Rattle.data_rules.specs.declared.rows.LiveEnd.{LiveEnd}
use Rattle.data_rules.specs.Granting.{frees, locks_become}
use Rattle.data_rules.specs.Opening.{live_ends}
use Rattle.data_rules.specs.Puts.{Sofar, begun, writes}
use Rattle.data_rules.specs.Step.{made, recovering, started, with_epoch}
use Rattle.cluster_runs.specs.CoresState.{CoresState}
use Rattle.cluster_runs.specs.declared.move_outs.MoveOuts.{MoveOuts}
use Rattle.cluster_runs.specs.declared.moves.Move.TheVariants as moves
use Rattle.cluster_runs.specs.Goes.{LookedGoes, ServerGoes, at_told, server_site}
use Rattle.cluster_runs.specs.Machine.{Machine, Site}
use Rattle.cluster_runs.specs.Mirrors.{Mirrors}
use Rattle.cluster_runs.specs.Moves.{Allowed}
use Rattle.cluster_runs.specs.Sent.{Lane, Place}
use Rattle.cluster_invariant.specs.Asks.{NodeAsks}
use Rattle.cluster_invariant.specs.Holds.{Holds, SiteHolds}
use Rattle.cluster_invariant.proofs.OrderKept.{step_site}
use Rattle.cluster_invariant.proofs.PieceKinds.{LockCall, Asks, Unlocks, Withdraws, GivesBack, ForgetsTicket, Claims, Cancels, Releases}
use Rattle.cluster_invariant.proofs.PieceMay.{Asked, CallsMay, Coming, begins}
use Rattle.cluster_invariant.proofs.Pieces.{kept_by_pieces}
use Rattle.cluster_invariant.proofs.PiecesOfSteps.{step_pieces, synced_state}
use Rattle.cluster_invariant.proofs.RequestParts.{become_locks}
use Rattle.cluster_invariant.proofs.Small.{at_places, of_some}
use Rattle.cluster_promises.specs.Locks.{LockMay, has_one_row}
use Rattle.data_ends_kept.proofs.NodeEndsServer as served
use Rattle.asks_kept.proofs.AsksFit.{asked_next}
use Rattle.asks_kept.proofs.TableAlong.{TableGo, table_piece}
use Rattle.locks_kept.specs.Laws.{EachRows, EachUpMay, MovesKeepRows, RowsAre}
use Rattle.locks_kept.proofs.RowLists.{Rows, rows_filtered, rows_lowered, rows_pass, rows_raised}

-- calls of the table

-- of a table
abbrev TableRows : Locks → Type 0
TableRows l = Rows l.holds

become : (f : Freed) (c : Sofar) → Rows f.locks.holds → TableRows (locks_become f c).state.locks
become f c is = subst TableRows (sym (become_locks f c)) is

asked_rows : (l : Locks) (r : Request) (at : ℕ) → Rows l.holds → Rows (asked l r at).locks.holds
asked_rows l r at is = go (waits l.holds l.requests r) (rows_raised r.who r.name r.mode 1 at l.holds (omega arith) is)
  where
    go : (b : Bool) → Rows (with_grant l r at).holds
        → Rows (cond {A = Freed} b (record { locks = record l { requests = l.requests ++ r ∷ [] }; grants = [] })
        (record { locks = with_grant l r at; grants = r ∷ [] })).locks.holds
    go true now = is
    go false now = now

call_rows : (t : Coming) (b : Sofar) → ((w : Who) (key : List ℕ) (mode : Mode) (number at : ℕ) → Asked t w.session
    (up.Claim w.job mode number at key) b → 0 < number)
    → (call : LockCall) → CallsMay t call b → TableGo TableRows call b
call_rows t b claims (Asks r) m h = become (asked b.state.locks r (length b.state.order)) b (asked_rows b.state.locks r (length b.state.order) h)
call_rows t b claims (Unlocks who mode key) m h =
    become (freed b.state.locks who key mode (length b.state.order)) (frees who mode key b)
    (rows_pass (record b.state.locks { holds = lowered who key mode b.state.locks.holds }) [] [] b.state.locks.requests (length b.state.order)
    (rows_lowered who key mode b.state.locks.holds h))
call_rows t b claims (Withdraws r session ticket) m h =
    become (without_request b.state.locks session ticket (length b.state.order)) (frees r.who r.mode r.name b)
    (rows_pass (record b.state.locks { requests = filter (is_other_ticket session ticket) b.state.locks.requests }) [] []
    (filter (is_other_ticket session ticket) b.state.locks.requests) (length b.state.order) h)
call_rows t b claims (GivesBack r) m h =
    become (without_grant b.state.locks r (length b.state.order)) (frees r.who r.mode r.name b)
    (rows_pass (record (without_ticket b.state.locks r.who.session r.ticket) { holds = lowered r.who r.name r.mode b.state.locks.holds }) [] []
    b.state.locks.requests (length b.state.order) (rows_lowered r.who r.name r.mode b.state.locks.holds h))
call_rows t b claims (ForgetsTicket r) m h = h
call_rows t b claims (Claims who key mode number at) m h = rows_raised who key mode number at b.state.locks.holds (claims who key mode number at m.asked) h
call_rows t b claims (Cancels r) m h =
    become (without_request b.state.locks r.who.session r.ticket (length b.state.order)) b
    (rows_pass (record b.state.locks { requests = filter (is_other_ticket r.who.session r.ticket) b.state.locks.requests }) [] []
    (filter (is_other_ticket r.who.session r.ticket) b.state.locks.requests) (length b.state.order) h)
call_rows t b claims (Releases session) m h =
    become (without_session b.state.locks session (length b.state.order)) (writes (act.Release b.state.server session) b)
    (rows_pass (record {
      holds = filter (is_hold_elsewhere session) b.state.locks.holds;
      requests = filter (is_request_elsewhere session) b.state.locks.requests;
      granted = filter (is_request_elsewhere session) b.state.locks.granted;
    }) [] [] (filter (is_request_elsewhere session) b.state.locks.requests) (length b.state.order)
    (rows_filtered (is_hold_elsewhere session) b.state.locks.holds h))

-- a step of a data server

all_dropped : {X : Type 0} (P : X → Type 0) (n : ℕ) (xs : List X) → AllByRecursion P xs → AllByRecursion P (drop n xs)
all_dropped P zero xs all = all
all_dropped P (suc n) [] all = tt
all_dropped P (suc n) (x ∷ xs) all = all_dropped P n xs all.1

begins_locks : (old : DataState) (now : ℕ) (input : DataIn) → (begins (record { old = old; now = now; input = input })).state.locks ≡ old.locks
begins_locks old now (data_in.Frame conn up) = refl
begins_locks old now (data_in.Connected conn) = refl
begins_locks old now (data_in.Broken conn) = refl
begins_locks old now data_in.Tick = refl
begins_locks old now (data_in.Saved upto) = ap (λ (n : DataState). n.locks) (synced_state upto (begun old))

module _ (l : Layout) (c : CoresState) (m : Machine) (server now : ℕ) (input : DataIn) (outs : MoveOuts) (written : List Act) (new : Machine)
    (h : Holds l m) (run : IsRun l m.trail) (shows : Mirrors c m) (allowed : Allowed c (moves.Server server now input))
    (goes : ServerGoes m server now input outs written new) (ups : EachUpMay m) where
  abbrev t : Coming
  t = record { old = goes.node; now = now; input = input }

  abbrev x : Site
  x = m.site_at server

  its : SiteHolds l server m.is_dead_at (served.v l c m server now input outs written new h run shows allowed goes) (m.site_at server)
  its = h.sites server

  node : NodeAsks (λ s. x.lane_at s x.past) goes.node
  node = of_some (NodeAsks (λ s. x.lane_at s x.past)) x.node goes.node goes.runs its.asks.node

  -- a claim that came is of one hold at least
  claimed : (b : Sofar) (w : Who) (key : List ℕ) (mode : Mode) (number at : ℕ) → Asked t w.session (up.Claim w.job mode number at key) b → 0 < number
  claimed b w key mode number at came =
      go (asked_next x m.is_dead_at t (served.at_frame l c m server now input outs written new h run shows allowed goes) its.asks.lanes node
      w.session (up.Claim w.job mode number at key) b came)
    where
      lane : Lane
      lane = x.lane_at w.session x.past

      go : (rest : List Up) × (drop lane.up_taken lane.up ≡ up.Claim w.job mode number at key ∷ rest) → 0 < number
      go next = (subst (AllByRecursion LockMay) next.1 (all_dropped LockMay lane.up_taken lane.up (ups server w.session x.past))).0

  pub step_rows : RowsAre goes.node → RowsAre goes.state
  step_rows r = by
      (kept_by_pieces t (λ (b : Sofar). TableRows b.state.locks)
      (λ p b may is. table_piece TableRows t p b may (λ call called. call_rows t b (claimed b) call called) is)
      (begins t) (made goes.state goes.data_outs)
      (step_pieces goes.node now input goes.data_outs goes.state (served.from l c m server now input outs written new h run shows allowed goes)
      (served.may l c m server now input outs written new h run shows allowed goes) goes.steps)
      (subst TableRows (sym (begins_locks goes.node now input)) (record { positive = r.positive; one_each = r.one_each })))
    where
      by : Rows goes.state.locks.holds → RowsAre goes.state
      by is = record { positive = is.positive; one_each = is.one_each }

-- other moves

-- the ends' steps leave the nodes
pub told_node : (o : Option Place) (f : Lane → Lane) (x : Site) → (at_told o f x).node ≡ x.node
told_node None f x = refl
told_node (Some p) f x = refl

recovering_locks : (xs : List LiveEnd) (due : ℕ) (n : DataState) → (recovering xs due n).locks ≡ n.locks
recovering_locks [] due n = refl
recovering_locks (x ∷ xs) due n = recovering_locks xs due _

started_rows : (server : ℕ) (times : Times) (entries : List Entry) (now : ℕ) → RowsAre (started server times entries now)
started_rows server times entries now =
    go (started server times entries now) (recovering_locks (live_ends entries) _ (with_epoch server times entries))
  where
    go : (n : DataState) → n.locks ≡ (with_epoch server times entries).locks → RowsAre n
    go n same = record {
      positive = subst (λ (k : Locks). AllByRecursion (λ r. 0 < r.count) k.holds) (sym same) tt;
      one_each = ap (λ (k : Locks). has_one_row k.holds) same;
    }

-- where each node is as it was
pub same_nodes : (P : DataState → Type 0) (m new : Machine) → ((d : ℕ) → (new.site_at d).node ≡ (m.site_at d).node)
    → ((d : ℕ) → IfSome (m.site_at d).node P) → (d : ℕ) → IfSome (new.site_at d).node P
same_nodes P m new same all d = subst (λ (o : Option DataState). IfSome o P) (sym (same d)) (all d)

pub looked_nodes : (m : Machine) (app job line : ℕ) (command : Command) (outs : MoveOuts) (written : List Act) (new : Machine)
    → LookedGoes m app job line command outs written new → (d : ℕ) → (new.site_at d).node ≡ (m.site_at d).node
looked_nodes m app job line (commands.Set at value) outs written new goes d = absurd goes
looked_nodes m app job line (commands.Kill at) outs written new goes d = absurd goes
looked_nodes m app job line (commands.Get at) outs written new goes d = ap (λ (n : Machine). (n.site_at d).node) goes.after
looked_nodes m app job line (commands.Shape at) outs written new goes d = absurd goes
looked_nodes m app job line (commands.Next parent sub) outs written new goes d = absurd goes
looked_nodes m app job line (commands.Incr at amount) outs written new goes d = absurd goes
looked_nodes m app job line (commands.Lock at mode wait) outs written new goes d = absurd goes
looked_nodes m app job line (commands.Unlock at mode now) outs written new goes d = absurd goes
looked_nodes m app job line commands.Start outs written new goes d = absurd goes
looked_nodes m app job line (commands.Commit sync) outs written new goes d = absurd goes
looked_nodes m app job line commands.Rollback outs written new goes d = absurd goes
looked_nodes m app job line (commands.Sync server) outs written new goes d = absurd goes

-- Each move.
pub moves_keep_rows : MovesKeepRows
moves_keep_rows l c m (moves.Step job now line command) outs written new h ups rows run shows allowed goes =
    same_nodes RowsAre m new (λ d. ap (λ (n : Machine). (n.site_at d).node) goes.after ∙ told_node _ _ _) rows
moves_keep_rows l c m (moves.Looked job line command) outs written new h ups rows run shows allowed goes =
    same_nodes RowsAre m new (looked_nodes m _ job line command outs written new goes) rows
moves_keep_rows l c m (moves.App app now input) outs written new h ups rows run shows allowed goes =
    same_nodes RowsAre m new (λ d. ap (λ (n : Machine). (n.site_at d).node) goes.after ∙ told_node _ _ _) rows
moves_keep_rows l c m (moves.Server server now input) outs written new h ups rows run shows allowed goes =
    subst EachRows (sym goes.after)
    (at_places (λ d x. IfSome x.node RowsAre) m.site_at server (server_site goes.node now input goes.data_outs goes.state (m.site_at server))
    (subst (λ (o : Option DataState). IfSome o RowsAre) (sym (step_site goes.node now input goes.data_outs goes.state (m.site_at server)).node)
    (step_rows l c m server now input outs written new h run shows allowed goes ups
    (of_some RowsAre (m.site_at server).node goes.node goes.runs (rows server))))
    (λ d other. rows d))
moves_keep_rows l c m (moves.Begin server now entries) outs written new h ups rows run shows allowed goes =
    subst EachRows (sym goes.after)
    (at_places (λ d x. IfSome x.node RowsAre) m.site_at server _ (started_rows server m.layout.times entries now) (λ d other. rows d))
moves_keep_rows l c m (moves.Halt server) outs written new h ups rows run shows allowed goes =
    subst EachRows (sym goes.after)
    (at_places (λ d x. IfSome x.node RowsAre) m.site_at server _ tt (λ d other. rows d))
moves_keep_rows l c m (moves.Die app) outs written new h ups rows run shows allowed goes =
    same_nodes RowsAre m new (λ d. ap (λ (n : Machine). (n.site_at d).node) goes.after) rows
moves_keep_rows l c m (moves.Tick now) outs written new h ups rows run shows allowed goes =
    same_nodes RowsAre m new (λ d. ap (λ (n : Machine). (n.site_at d).node) goes.after) rows
