-- Each move is allowed next or it isn't.
use Rattle.std.specs.Prelude.{◌≡◌, ℕ, Bool, true, false, ◌+◌, List, [], ◌∷◌, ◌++◌, length, take, Option, Some, None, is_some, get_or, IfSome, unsigned_abs, refl}
use Rattle.std.proofs.Common.{ap, subst, sym, ◌∙◌}
use Rattle.std.specs.List.{AllByRecursion, find, list_any}
use Rattle.std.specs.Coded.{codes}
use Rattle.subscript_keys.specs.Key.{IsKey, IsSub, sub_bytes}
use Rattle.subscript_keys.specs.declared.limits.TheConstants.{KEY_LIMIT, VALUE_LIMIT, NUMBER_LIMIT}
use Rattle.plain_orders.specs.declared.limits.TheConstants.{EPOCH_END, START_EPOCH_LIMIT}
use Rattle.subscript_keys.specs.declared.sub.Sub.{Sub}
use Rattle.subscript_keys.specs.declared.run.Run.{Run}
use Rattle.plain_orders.specs.Ordered.{MayFollow, OrderedFrom, OpMay, KeyMay, EndFollows}
use Rattle.plain_orders.specs.Entries.{last_epoch, live, count, live_session}
use Rattle.plain_orders.specs.Fold.{fold, is_begun}
use Rattle.plain_orders.specs.declared.entry.Entry.{Entry}
use Rattle.plain_orders.specs.declared.entry.Entry.TheVariants as entries
use Rattle.plain_orders.specs.declared.op.Op.{Op}
use Rattle.plain_orders.specs.declared.op.Op.TheVariants as ops
use Rattle.ecp_messages.specs.declared.up.UpFrame.{UpFrame}
use Rattle.ecp_messages.specs.declared.down.DownFrame.{DownFrame}
use Rattle.app_job.specs.Sites.{Site}
use Rattle.app_job.specs.Limits.{CommandMay, NextMay, server_of}
use Rattle.app_job.specs.declared.command.Command.{Command}
use Rattle.app_job.specs.declared.command.Command.TheVariants as commands
use Rattle.app_rules.specs.declared.app_in.AppIn.{AppIn}
use Rattle.app_rules.specs.declared.app_in.AppIn.TheVariants as app_in
use Rattle.app_rules.specs.declared.line.Line.{Line}
use Rattle.app_rules.specs.AppStep.{AppMay, TriedMay}
use Rattle.app_rules.specs.AppState.{AppState}
use Rattle.app_rules.specs.Looks.{LookMay, Shown, View, known_at, has_own_at}
use Rattle.app_rules.specs.Ending.{is_session}
use Rattle.app_rules.specs.Works.{end_at}
use Rattle.app_rules.specs.declared.line.Line.TheVariants.{Trying}
use Rattle.end_words.specs.Runs.{covers}
use Rattle.block_cache.specs.declared.front.Front.{Front}
use Rattle.data_rules.specs.declared.data_in.DataIn.{DataIn}
use Rattle.data_rules.specs.declared.data_in.DataIn.TheVariants as data_in
use Rattle.data_rules.specs.DataState.{DataState}
use Rattle.data_rules.specs.Step.{DataMay}
use Rattle.data_rules.specs.Conns.{role_of}
use Rattle.cluster_runs.specs.declared.moves.Move.TheVariants.{Step, Looked, App, Server, Begin, Halt, Die, Tick}
use Rattle.cluster_runs.specs.CoresState.{CoresState, Accepted, Linked, node_at, order_at, app_at, begun_at, is_dead, accepted_at, is_accepted, app_of_job, plain_server, dial_at}
use Rattle.cluster_runs.specs.Moves.{NowMay, LineMay, AliveMay, CommandIs, StepMay, LookedMay, LookMayBe, AppTakes, AppMoveMay, FirstMay, LinkedMay, TakenMay, ServerTakes, NodeMay, ServerMoveMay, EntriesMay, BeginMay, HaltMay, DieMay, next_down, next_up, named_dial, dial_of, is_unlinked}
use Rattle.cluster_runs.specs.Views.{view_at, shown_at}
use Rattle.cluster_runs.specs.Wires.{last_dial}
use Rattle.cluster_runs.specs.Decided.{IsDecided, OpHasForm, EntryHasForm, CommandHasForm, AppInHasForm, DataInHasForm, EachIsDecided}
use Rattle.cluster_runs.proofs.Telling.{meant, both, never, always, denied, numbers, at_most, below, same, if_some, not_one}

bools : (a b : Bool) → IsDecided (a ≡ b)
bools a b = same (hlevel codes) a b

entry_lists : (xs ys : List Entry) → IsDecided (xs ≡ ys)
entry_lists xs ys = same (hlevel codes) xs ys

ups : (a b : Option UpFrame) → IsDecided (a ≡ b)
ups a b = same (hlevel codes) a b

downs : (a b : Option DownFrame) → IsDecided (a ≡ b)
downs a b = same (hlevel codes) a b

command_is : (a b : Command) → IsDecided (a ≡ b)
command_is a b = same (hlevel codes) a b

lines : (a b : Line) → IsDecided (a ≡ b)
lines a b = same (hlevel codes) a b

sessions : (a b : Option ℕ) → IsDecided (a ≡ b)
sessions a b = same (hlevel codes) a b

three : {P Q R : Type 0} → IsDecided P → IsDecided Q → IsDecided R → IsDecided (P × Q × R)
three p q r = meant (λ (a, t). (a, t.0, t.1)) (λ (a, b, c). (a, (b, c))) (both p (both q r))

four : {P Q R S : Type 0} → IsDecided P → IsDecided Q → IsDecided R → IsDecided S → IsDecided (P × Q × R × S)
four p q r s = meant (λ (a, t). (a, t.0, t.1, t.2)) (λ (a, b, c, d). (a, (b, c, d))) (both p (three q r s))

five : {P Q R S T : Type 0} → IsDecided P → IsDecided Q → IsDecided R → IsDecided S → IsDecided T → IsDecided (P × Q × R × S × T)
five p q r s t = meant (λ (a, u). (a, u.0, u.1, u.2, u.3)) (λ (a, b, c, d, e). (a, (b, c, d, e))) (both p (four q r s t))

-- entries

key_may : (key : List ℕ) → IsKey key → IsDecided (KeyMay key)
key_may key k = meant (λ w. record { is_key = k; within = w }) (λ m. m.within) (at_most (length key) KEY_LIMIT)

op_may : (txn : ℕ) (op : Op) → OpHasForm op → IsDecided (OpMay txn op)
op_may txn (ops.Set key value) k =
    meant (λ (key_fits, value_fits). record { key_may = key_fits; within = value_fits }) (λ m. (m.key_may, m.within))
    (both (key_may key k) (at_most (length value) VALUE_LIMIT))
op_may txn (ops.Kill key) k = key_may key k
op_may txn (ops.Add key amount) k =
    meant (λ (key_fits, alone, small). record { key_may = key_fits; is_alone = alone; within = small }) (λ m. (m.key_may, m.is_alone, m.within))
    (three (key_may key k) (numbers txn 0) (below (unsigned_abs amount) NUMBER_LIMIT))

ends : (es : List Entry) (session w job txn : ℕ) → IsDecided (EndFollows es session w job txn)
ends es session w job txn =
    meant (λ (lives, next, begun). record { is_live = lives; is_next = next; is_begun = begun }) (λ m. (m.is_live, m.is_next, m.is_begun))
    (three (bools (live es session) true) (numbers w (count es session + 1)) (bools (is_begun session job txn (fold es).begun) true))

may_follow : (es : List Entry) (e : Entry) → EntryHasForm e → IsDecided (MayFollow es e)
may_follow es (entries.Epoch number) h =
    meant (λ (next, low). record { is_next = next; in_range = low }) (λ m. (m.is_next, m.in_range))
    (both (numbers number (last_epoch es + 1)) (below number EPOCH_END))
may_follow es (entries.Opened session app) h =
    meant (λ (started, place, free). record { is_started = started; is_position = place; is_free = free }) (λ m. (m.is_started, m.is_position, m.is_free))
    (three (denied (numbers (last_epoch es) 0)) (numbers session (length es + 1)) (sessions (live_session es app) None))
may_follow es (entries.Closed session) h = meant (λ lives. record { is_live = lives }) (λ m. m.is_live) (bools (live es session) true)
may_follow es (entries.Update session w job txn op) h =
    meant (λ (lives, next, fits). record { is_live = lives; is_next = next; within = fits }) (λ m. (m.is_live, m.is_next, m.within))
    (three (bools (live es session) true) (numbers w (count es session + 1)) (op_may txn op h))
may_follow es (entries.Commit session w job txn) h = ends es session w job txn
may_follow es (entries.Rollback session w job txn) h = ends es session w job txn

ordered_from : (before es : List Entry) → AllByRecursion EntryHasForm es → IsDecided (OrderedFrom before es)
ordered_from before [] h = always tt
ordered_from before (e ∷ es) h = both (may_follow before e h.0) (ordered_from (before ++ e ∷ []) es h.1)

-- commands

next_may : (parent : Site) (sub : Option Sub) → IfSome sub IsSub → IsDecided (NextMay parent sub)
next_may parent None h = always tt
next_may parent (Some s) h = both (always h) (at_most (length (parent.key ++ sub_bytes s)) KEY_LIMIT)

command_may : (command : Command) → CommandHasForm command → IsDecided (CommandMay command)
command_may (commands.Set at value) h = both (always h) (at_most (length value) VALUE_LIMIT)
command_may (commands.Kill at) h = always h
command_may (commands.Get at) h = always h
command_may (commands.Shape at) h = always h
command_may (commands.Next parent sub) h = both (always h.0) (next_may parent sub h.1)
command_may (commands.Incr at amount) h = both (always h) (below (unsigned_abs amount) NUMBER_LIMIT)
command_may (commands.Lock at mode wait) h = both (always h) (if_some wait (λ n. both (at_most 1 n) (at_most n 10000)))
command_may (commands.Unlock at mode now) h = always h
command_may commands.Start h = always tt
command_may (commands.Commit sync) h = always tt
command_may commands.Rollback h = always tt
command_may (commands.Sync server) h = always tt

command_is_may : (a : AppState) (command : Command) → CommandHasForm command → IsDecided (CommandIs a command)
command_is_may a command h =
    meant (λ (fits, there). record { within = fits; known = there }) (λ m. (m.within, m.known))
    (both (command_may command h) (if_some (server_of command) (λ d. below d (length a.ends))))

now_may : (c : CoresState) (before now : ℕ) → IsDecided (NowMay c before now)
now_may c before now = meant (λ (same_clock, later). record { clock = same_clock; no_less = later }) (λ m. (m.clock, m.no_less)) (both (numbers now c.clock) (at_most before now))

line_may : (waiting : Option Command) (last line : ℕ) (command : Command) → IsDecided (LineMay waiting last line command)
line_may None last line command = at_most last line
line_may (Some x) last line command = both (numbers line last) (command_is command x)

alive_may : (c : CoresState) (job : ℕ) → IsDecided (AliveMay c job)
alive_may c job =
    meant (λ (there, its, lives). record { known = there; placed = its; alive = lives }) (λ m. (m.known, m.placed, m.alive))
    (three (below job (length c.layout.job_apps)) (below (app_of_job c.layout job) c.layout.apps) (bools (is_dead c (app_of_job c.layout job)) false))

step_may : (c : CoresState) (job now line : ℕ) (command : Command) → CommandHasForm command → IsDecided (StepMay c job now line command)
step_may c job now line command h =
    meant (λ (lives, moment, its_line, fits). record { alive = lives; now_may = moment; line_may = its_line; may = fits }) (λ m. (m.alive, m.now_may, m.line_may, m.may))
    (four (alive_may c job) (now_may c (get_or c.app_nows (app_of_job c.layout job) 0) now)
    (line_may (begun_at c job).waits (begun_at c job).line line command) (command_is_may (app_at c (app_of_job c.layout job)) command h))

-- looks

abbrev tag : {A : Type 0} → Option A → ℕ
tag None = 0
tag (Some x) = 1

abbrev pub Looks : View → Shown → ℕ → List ℕ → Type 0
Looks v x d key = (front : Front) × (run : Run) × LookMay v x d key front run

abbrev or_else : {A : Type 0} → A → Option A → A
or_else x None = x
or_else x (Some y) = y

same_some : {A : Type 0} (x y : A) → Some x ≡ Some y → x ≡ y
same_some x y e = ap (or_else x) e

looks_at : (v : View) (x : Shown) (d : ℕ) (key : List ℕ) (front : Option Front) (run : Option Run) → x.front ≡ front → find (covers key) x.runs ≡ run → IsDecided (Looks v x d key)
looks_at v x d key None run e f = never (λ (front, its, m). not_one (ap tag (sym e ∙ m.shown)))
looks_at v x d key (Some front) None e f = never (λ (its, run, m). not_one (ap tag (sym f ∙ m.covered)))
looks_at v x d key (Some front) (Some run) e f =
    meant
    (λ (unflagged, unlost, its, undecided). (front, run, record { unflagged = unflagged; unlost = unlost; shown = e; covered = f; its = its; undecided = undecided }))
    (λ (other, found, m). (
      m.unflagged,
      m.unlost,
      subst (λ o. is_session (known_at v d).session o.session ≡ true) (same_some other front (sym m.shown ∙ e)) m.its,
      subst (λ o. has_own_at (known_at v d) o.w key ≡ false) (same_some other front (sym m.shown ∙ e)) m.undecided,
    ))
    (four (bools v.rollback_only false) (bools (known_at v d).has_loss false) (bools (is_session (known_at v d).session front.session) true)
    (bools (has_own_at (known_at v d) front.w key) false))

looks : (v : View) (x : Shown) (d : ℕ) (key : List ℕ) → IsDecided (Looks v x d key)
looks v x d key = looks_at v x d key x.front (find (covers key) x.runs) refl refl

looked_may : (c : CoresState) (job line : ℕ) (at : Site) → CommandHasForm (commands.Get at) → IsDecided (LookedMay c job line at)
looked_may c job line at h =
    meant (λ (lives, its_line, waits, fits, (front, run, m)). record { alive = lives; line_may = its_line; free = waits; may = fits; front = front; run = run; look = m })
    (λ m. (m.alive, m.line_may, m.free, m.may, (m.front, m.run, m.look)))
    (five (alive_may c job) (line_may (begun_at c job).waits (begun_at c job).line line (commands.Get at)) (bools (is_some (begun_at c job).waits) false)
    (command_is_may (app_at c (app_of_job c.layout job)) (commands.Get at) h) (looks (view_at c job) (shown_at c (app_of_job c.layout job) at.server) at.server at.key))

look_may_be : (c : CoresState) (job line : ℕ) (command : Command) → CommandHasForm command → IsDecided (LookMayBe c job line command)
look_may_be c job line (commands.Set at value) h = never (λ m. m)
look_may_be c job line (commands.Kill at) h = never (λ m. m)
look_may_be c job line (commands.Get at) h = looked_may c job line at h
look_may_be c job line (commands.Shape at) h = never (λ m. m)
look_may_be c job line (commands.Next parent sub) h = never (λ m. m)
look_may_be c job line (commands.Incr at amount) h = never (λ m. m)
look_may_be c job line (commands.Lock at mode wait) h = never (λ m. m)
look_may_be c job line (commands.Unlock at mode now) h = never (λ m. m)
look_may_be c job line commands.Start h = never (λ m. m)
look_may_be c job line (commands.Commit sync) h = never (λ m. m)
look_may_be c job line commands.Rollback h = never (λ m. m)
look_may_be c job line (commands.Sync server) h = never (λ m. m)

-- an application server's ends

app_takes : (c : CoresState) (app : ℕ) (input : AppIn) → IsDecided (AppTakes c app input)
app_takes c app (app_in.Frame server down) = downs (next_down (dial_at c app server (last_dial c app server))) (Some down)
app_takes c app (app_in.Connected server) = always tt
app_takes c app (app_in.NoWay server fails_before fails_after) = always tt
app_takes c app (app_in.Broken server) = always tt
app_takes c app (app_in.Join server) = always tt
app_takes c app app_in.Tick = always tt

tried_may : (a : AppState) (d : ℕ) → IsDecided (TriedMay a d)
tried_may a d = meant (λ (there, tries). record { known = there; tried = tries }) (λ m. (m.known, m.tried)) (both (below d (length a.ends)) (lines (end_at a d).line Trying))

app_may : (a : AppState) (input : AppIn) → AppInHasForm input → IsDecided (AppMay a input)
app_may a (app_in.Frame d down) h = meant (λ there. record { known = there; is_frame = h }) (λ m. m.known) (below d (length a.ends))
app_may a (app_in.Connected d) h = tried_may a d
app_may a (app_in.NoWay d fails_before fails_after) h =
    meant (λ (tries, more). record { tried = tries; rose = more }) (λ m. (m.tried, m.rose)) (both (tried_may a d) (below fails_before fails_after))
app_may a (app_in.Broken d) h = below d (length a.ends)
app_may a (app_in.Join d) h = below d (length a.ends)
app_may a app_in.Tick h = always tt

app_move_may : (c : CoresState) (app now : ℕ) (input : AppIn) → AppInHasForm input → IsDecided (AppMoveMay c app now input)
app_move_may c app now input h =
    meant (λ (there, lives, moment, next, fits). record { known = there; alive = lives; now_may = moment; takes = next; may = fits })
    (λ m. (m.known, m.alive, m.now_may, m.takes, m.may))
    (five (below app c.layout.apps) (bools (is_dead c app) false) (now_may c (get_or c.app_nows app 0) now) (app_takes c app input) (app_may (app_at c app) input h))

-- a data server

first_may : (c : CoresState) (server : ℕ) (up : UpFrame) → IsDecided (FirstMay c server up)
first_may c server up =
    meant (λ (free, next). record { unlinked = free; first = next }) (λ m. (m.unlinked, m.first))
    (both (bools (is_unlinked (dial_of c server (named_dial up.message))) true) (ups (next_up (dial_of c server (named_dial up.message))) (Some up)))

linked_may : (l : Option Linked) (c : CoresState) (server : ℕ) (up : UpFrame) → IsDecided (LinkedMay l c server up)
linked_may None c server up = first_may c server up
linked_may (Some x) c server up = ups (next_up (dial_at c x.app server x.dial)) (Some up)

taken_may : (x : Option Accepted) (c : CoresState) (server : ℕ) (up : UpFrame) → IsDecided (TakenMay x c server up)
taken_may None c server up = never (λ m. m)
taken_may (Some x) c server up = both (bools x.left false) (linked_may x.dial c server up)

server_takes : (c : CoresState) (server : ℕ) (input : DataIn) → IsDecided (ServerTakes c server input)
server_takes c server (data_in.Frame conn up) = taken_may (accepted_at c server conn) c server up
server_takes c server (data_in.Connected conn) = bools (list_any (is_accepted server conn) c.accepted) false
server_takes c server (data_in.Broken conn) = always tt
server_takes c server data_in.Tick = always tt
server_takes c server (data_in.Saved upto) = always tt

data_may : (d : DataState) (input : DataIn) → DataInHasForm input → IsDecided (DataMay d input)
data_may d (data_in.Frame conn up) h = always h
data_may d (data_in.Connected conn) h = bools (is_some (role_of d conn)) false
data_may d (data_in.Broken conn) h = always tt
data_may d data_in.Tick h = always tt
data_may d (data_in.Saved upto) h =
    meant (λ (later, there). record { no_less = later; within = there }) (λ m. (m.no_less, m.within)) (both (at_most d.synced upto) (at_most upto (length d.order)))

node_may : (o : Option DataState) (input : DataIn) → DataInHasForm input → IsDecided (NodeMay o input)
node_may None input h = never (λ m. m)
node_may (Some d) input h = data_may d input h

server_move_may : (c : CoresState) (server now : ℕ) (input : DataIn) → DataInHasForm input → IsDecided (ServerMoveMay c server now input)
server_move_may c server now input h =
    meant (λ (there, moment, next, fits). record { known = there; now_may = moment; takes = next; may = fits }) (λ m. (m.known, m.now_may, m.takes, m.may))
    (four (below server c.layout.servers) (now_may c (get_or c.server_nows server 0) now) (server_takes c server input) (node_may (node_at c server) input h))

entries_may : (o : Option (List Entry)) (synced : ℕ) (es : List Entry) → AllByRecursion EntryHasForm es → IsDecided (EntriesMay o synced es)
entries_may None synced es h = ordered_from [] es h
entries_may (Some order) synced es h =
    meant (λ (kept, all_synced). record { front = kept; no_less = all_synced }) (λ m. (m.front, m.no_less))
    (both (entry_lists es (take (length es) order)) (at_most synced (length es)))

begin_may : (c : CoresState) (server now : ℕ) (es : List Entry) → AllByRecursion EntryHasForm es → IsDecided (BeginMay c server now es)
begin_may c server now es h =
    meant (λ (there, down, moment, its, lower). record { known = there; is_down = down; now_may = moment; kept = its; low = lower })
    (λ m. (m.known, m.is_down, m.now_may, m.kept, m.low))
    (five (below server c.layout.servers) (bools (is_some (node_at c server)) false) (now_may c (get_or c.server_nows server 0) now)
    (entries_may (order_at c server) (plain_server c server).synced es h) (at_most (last_epoch es) START_EPOCH_LIMIT))

halt_may : (c : CoresState) (server : ℕ) → IsDecided (HaltMay c server)
halt_may c server = meant (λ (there, runs). record { known = there; is_up = runs }) (λ m. (m.known, m.is_up)) (both (below server c.layout.servers) (bools (is_some (node_at c server)) true))

die_may : (c : CoresState) (app : ℕ) → IsDecided (DieMay c app)
die_may c app = meant (λ (there, lives). record { known = there; alive = lives }) (λ m. (m.known, m.alive)) (both (below app c.layout.apps) (bools (is_dead c app) false))

pub each_is_decided : EachIsDecided
each_is_decided c (Step job now line command) h = step_may c job now line command h
each_is_decided c (Looked job line command) h = look_may_be c job line command h
each_is_decided c (App app now input) h = app_move_may c app now input h
each_is_decided c (Server server now input) h = server_move_may c server now input h
each_is_decided c (Begin server now es) h = begin_may c server now es h
each_is_decided c (Halt server) h = halt_may c server
each_is_decided c (Die app) h = die_may c app
each_is_decided c (Tick now) h = always tt
