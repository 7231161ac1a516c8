-- Each step of a command that is no lock leaves the requests for locks as they are, until the command is over.
use Rattle.std.proofs.Common.{◌≡◌, ◌==◌, ℕ, Bool, true, false, List, [], ◌∷◌, refl, ap, Option, Some, None, if◌then◌else◌, ℤ, map}
use Rattle.std.specs.List.{find, list_all}
use Rattle.subscript_keys.specs.declared.run.Run.{Run}
use Rattle.subscript_keys.specs.declared.sub.Sub.{Sub}
use Rattle.subscript_keys.specs.Span.{span_hi}
use Rattle.plain_orders.specs.declared.mode.Mode.{Mode}
use Rattle.plain_orders.specs.declared.op.Op.{Op}
use Rattle.plain_orders.specs.declared.op.Op.TheVariants as ops
use Rattle.plain_orders.specs.declared.item.Item.TheVariants as items
use Rattle.plain_orders.specs.Own.{touches_own}
use Rattle.ecp_messages.specs.declared.about.About.{About}
use Rattle.ecp_messages.specs.declared.about.About.TheVariants.{Counted, NotWhole, Range, Committed, RolledBack, Synced}
use Rattle.ecp_messages.specs.declared.up.Up.{Up}
use Rattle.ecp_messages.specs.declared.up.Up.TheVariants as up
use Rattle.app_job.specs.Sites.{Site}
use Rattle.app_job.specs.declared.command.Command.{Command}
use Rattle.app_job.specs.declared.command.Command.TheVariants.{Set, Kill, Get, Shape, Next, Incr, Lock, Unlock, Start, Commit, Rollback, Sync}
use Rattle.app_job.specs.declared.refusal.Refusal.{Refusal}
use Rattle.app_job.specs.declared.refusal.Refusal.TheVariants as refusals
use Rattle.end_words.specs.Runs.{covers}
use Rattle.app_rules.specs.AppState.{Session}
use Rattle.app_rules.specs.declared.session_parts.Ended.{Ended}
use Rattle.app_rules.specs.declared.session_parts.HeldBack.{HeldBack}
use Rattle.app_rules.specs.declared.session_parts.Syncing.{Syncing}
use Rattle.app_rules.specs.declared.session_parts.Told.{Told}
use Rattle.app_rules.specs.declared.session_parts.Updated.{Updated}
use Rattle.app_rules.specs.JobState.{Work, Turn, in_progress}
use Rattle.app_rules.specs.Refusing.{server_in, quits_command, refused}
use Rattle.app_rules.specs.Issuing.{changes, is_up, is_full, has_own, own_ops, queues, adds, adds_by, says_sum, says_told, told_at, next_w, txn_now, uses, with_late, with_owed}
use Rattle.app_rules.specs.Reading.{Walk, Walked, with_cache, with_fetch, walks, cache_of, caches, holds_below, has_value, fetches_unless, is_fetching, gets_own, gets_from, shapes_walked, shapes_now, NextsWalked, next_walk}
use Rattle.app_rules.specs.Reading.Walked.{Needs, Finds, Ends}
use Rattle.app_rules.specs.Locking.{gives_up_if, holds_back_if, holds_it, unlocks_held, without_held}
use Rattle.app_rules.specs.Ending.{HowEnded, end_item, end_message, end_notes, puts_end, puts_ends, unlocks_back, ends_txn, living, living_backs, awaits_put, after_put, ends_when, are_up, has_room, ends_by, awaits_ends, hears_ends, answers_ends, writes_ends, is_up_end, is_told_end, commit_at, is_inner, syncs, by_sync, by_synced, sync_of_job, begins_ends, with_sync}
use Rattle.app_rules.specs.JobStep.{NextsFree, NextsUp, Does, Turns}
use Rattle.asks_change.proofs.QuietLocks.{Quiet, is_of_lock, quiet_full, quiet_is, quiet_issue, quiet_normal, quiet_own, quiet_puts, quiet_same, quiet_sets, quiet_state, quiet_then, quiet_ticket, quiet_up, quiet_uses, quiet_writes, still}

-- a lock
abbrev pub is_lock : Command → Bool
is_lock (Set at value) = false
is_lock (Kill at) = false
is_lock (Get at) = false
is_lock (Shape at) = false
is_lock (Next parent sub) = false
is_lock (Incr at amount) = false
is_lock (Lock at mode wait) = true
is_lock (Unlock at mode now) = false
is_lock Start = false
is_lock (Commit sync) = false
is_lock Rollback = false
is_lock (Sync server) = false

by_turn : (w : Work) (t u : Turn) → t ≡ u → Quiet w.ends u.work.ends → Quiet w.ends t.work.ends
by_turn w t u same x = quiet_is w.ends u.work.ends t.work.ends (ap (λ (y : Turn). y.work.ends) same) x

-- Sets, Kills and increments

queue_quiet : (d : ℕ) (op : Op) (w : Work) → Quiet w.ends (queues d op w).work.ends
queue_quiet d op w =
    quiet_issue d (items.Op op) (up.Update (next_w w d) w.job.index (txn_now w.job) op) (with_late (next_w w d) w.job.index op) w refl (λ s. (refl, refl))

add_quiet : (d : ℕ) (key : List ℕ) (amount : ℤ) (w : Work) → Quiet w.ends (adds d key amount w).ends
add_quiet d key amount w =
    quiet_issue d (items.Op (ops.Add key amount)) (up.Add (next_w w d) w.job.index key amount)
    (with_owed (next_w w d) (up.Add (next_w w d) w.job.index key amount) w.job.index) w refl (λ s. (refl, refl))

sum_quiet : (m : About) (d at : ℕ) (sum : ℤ) (w : Work) → Quiet w.ends (says_sum m d at sum w).work.ends
sum_quiet Counted d at sum w = quiet_writes _ w.ends
sum_quiet NotWhole d at sum w = quiet_writes _ w.ends
sum_quiet Range d at sum w = quiet_writes _ w.ends
sum_quiet Committed d at sum w = quiet_same w.ends
sum_quiet RolledBack d at sum w = quiet_same w.ends
sum_quiet Synced d at sum w = quiet_same w.ends

told_quiet : (o : Option Told) (d : ℕ) (w : Work) → Quiet w.ends (says_told o d w).work.ends
told_quiet None d w = quiet_same w.ends
told_quiet (Some t) d w = sum_quiet t.about d t.at t.sum w

adds_quiet : (o : Option ℕ) (d : ℕ) (key : List ℕ) (amount : ℤ) (w : Work) → Quiet w.ends (adds_by o d key amount w).work.ends
adds_quiet None d key amount w = quiet_full (is_full w d) _ w (quiet_own (has_own w d) _ w (add_quiet d key amount w))
adds_quiet (Some n) d key amount w = told_quiet (told_at w d n) d w

change_quiet : (d : ℕ) (op : Op) (w : Work) → Quiet w.ends (changes d op w).work.ends
change_quiet d op w = quiet_normal (is_up w d) d _ w (λ v. quiet_full (is_full v d) (queues d op) v (queue_quiet d op v))

-- reads

fetch_quiet : (b : Bool) (d : ℕ) (key : List ℕ) (w : Work) → Quiet w.ends (fetches_unless b d key w).ends
fetch_quiet true d key w = quiet_same w.ends
fetch_quiet false d key w =
    quiet_then (quiet_sets d (with_fetch w.job.index key) w.ends (λ s. still s (with_fetch w.job.index key s) refl refl)) (quiet_puts d (up.Fetch key) _ refl)

cache_quiet : (d : ℕ) (runs : List Run) (w : Work) → Quiet w.ends (caches d runs w).ends
cache_quiet d runs w = quiet_sets d (with_cache runs) w.ends (λ s. still s (with_cache runs s) refl refl)

from_quiet : (o : Option Run) (d : ℕ) (key : List ℕ) (w : Work) → Quiet w.ends (gets_from o d key w).work.ends
from_quiet None d key w = fetch_quiet (is_fetching w d key) d key w
from_quiet (Some run) d key w = quiet_then (cache_quiet d _ w) (quiet_writes _ _)

get_quiet : (b : Bool) (d : ℕ) (key : List ℕ) (w : Work) → Quiet w.ends (gets_own b d key w).work.ends
get_quiet true d key w = quiet_writes _ w.ends
get_quiet false d key w = from_quiet (find (covers key) (cache_of w d)) d key w

walked_quiet : (k : Walked) (d : ℕ) (key : List ℕ) (value : Bool) (w : Work) → Quiet w.ends (shapes_walked k d key value w).work.ends
walked_quiet (Needs needed) d key value w = fetch_quiet (is_fetching w d needed) d needed w
walked_quiet (Finds run) d key value w = quiet_writes _ w.ends
walked_quiet Ends d key value w = quiet_writes _ w.ends

shape_quiet : (d : ℕ) (key : List ℕ) (w : Work) → Quiet w.ends (shapes_now d key w).work.ends
shape_quiet d key w =
    quiet_then (cache_quiet d _ w) (walked_quiet (walks (holds_below key) (span_hi key) key (cache_of w d)).walked d key (has_value (cache_of w d) key) _)

next_quiet : (k : Walked) (x : Walk) (d : ℕ) (parent : List ℕ) (sub : Option Sub) (w : Work) (t : Turn) → NextsWalked k x d parent sub w t
    → Quiet w.ends t.work.ends
next_quiet (Needs needed) x d parent sub w t h =
    by_turn w t _ h (quiet_then (cache_quiet d _ w) (fetch_quiet (is_fetching (caches d x.cache w) d needed) d needed (caches d x.cache w)))
next_quiet (Finds run) x d parent sub w t h = by_turn w t _ h.after (quiet_then (cache_quiet d _ w) (quiet_writes _ _))
next_quiet Ends x d parent sub w t h = by_turn w t _ h.after (quiet_then (cache_quiet d _ w) (quiet_writes _ _))

free_quiet : (b : Bool) (parent : Site) (sub : Option Sub) (w : Work) (t : Turn) → NextsFree b parent sub w t → Quiet w.ends t.work.ends
free_quiet true parent sub w t h = by_turn w t _ h (quiet_same w.ends)
free_quiet false parent sub w t h =
    next_quiet (next_walk parent.server parent.key sub w).walked (next_walk parent.server parent.key sub w) parent.server parent.key sub w t h

nexts_quiet : (b : Bool) (parent : Site) (sub : Option Sub) (w : Work) (t : Turn) → NextsUp b parent sub w t → Quiet w.ends t.work.ends
nexts_quiet true parent sub w t h = quiet_then (quiet_uses parent.server w) (free_quiet (has_own w parent.server) parent sub (uses parent.server w) t h)
nexts_quiet false parent sub w t h = by_turn w t _ h (quiet_state parent.server w)

-- unlocks

gives_quiet : (b : Bool) (d : ℕ) (mode : Mode) (key : List ℕ) (w : Work) → Quiet w.ends (gives_up_if b d mode key w).ends
gives_quiet true d mode key w =
    quiet_then (quiet_sets d (without_held w.job.index mode key) w.ends (λ s. still s (without_held w.job.index mode key s) refl refl))
    (quiet_then (quiet_writes _ _) (quiet_puts d (up.Unlock w.job.index mode key) _ refl))
gives_quiet false d mode key w = quiet_same w.ends

back_quiet : (b : Bool) (d : ℕ) (mode : Mode) (key : List ℕ) (w : Work) → Quiet w.ends (holds_back_if b d mode key w).ends
back_quiet true d mode key w = quiet_same w.ends
back_quiet false d mode key w = quiet_same w.ends

held_quiet : (b : Bool) (d : ℕ) (mode : Mode) (key : List ℕ) (w : Work) → Quiet w.ends (unlocks_held b d mode key w).ends
held_quiet true d mode key w = gives_quiet (holds_it w d mode key) d mode key w
held_quiet false d mode key w = back_quiet (holds_it w d mode key) d mode key w

-- transactions

message_quiet : (commits : Bool) (n job txn : ℕ) (wanted : Bool) → is_of_lock (if commits then up.Commit n job txn wanted else up.Rollback n job txn) ≡ false
message_quiet true n job txn wanted = refl
message_quiet false n job txn wanted = refl

notes_quiet : (wanted : Bool) (n : ℕ) (m : Up) (job : ℕ) (s : Session)
    → ((end_notes wanted n m job s).asks ≡ s.asks) × ((end_notes wanted n m job s).window ≡ s.window)
notes_quiet true n m job s = (refl, refl)
notes_quiet false n m job s = (refl, refl)

ends_quiet : (how : HowEnded) (ds : List ℕ) (w : Work) → Quiet w.ends (puts_ends how ds w).ends
ends_quiet how [] w = quiet_same w.ends
ends_quiet how (d ∷ ds) w =
    quiet_then
    (quiet_issue d (end_item how w.job.txn) (end_message how (next_w w d) w.job.index w.job.txn)
    (end_notes how.wanted (next_w w d) (end_message how (next_w w d) w.job.index w.job.txn) w.job.index) w
    (message_quiet how.commits (next_w w d) w.job.index w.job.txn how.wanted)
    (notes_quiet how.wanted (next_w w d) (end_message how (next_w w d) w.job.index w.job.txn) w.job.index))
    (ends_quiet how ds (puts_end how d w))

backs_quiet : (hs : List HeldBack) (w : Work) → Quiet w.ends (unlocks_back hs w).ends
backs_quiet [] w = quiet_same w.ends
backs_quiet (h ∷ hs) w =
    quiet_then (gives_quiet (holds_it w h.server h.mode h.key) h.server h.mode h.key w)
    (backs_quiet hs (gives_up_if (holds_it w h.server h.mode h.key) h.server h.mode h.key w))

txn_quiet : (how : HowEnded) (alive : List Updated) (backs : List HeldBack) (w : Work) → Quiet w.ends (ends_txn how alive backs w).ends
txn_quiet how alive backs w =
    quiet_then (ends_quiet how (map server_in alive) (in_progress (begins_ends w.job.updates) w))
    (quiet_then (backs_quiet backs (puts_ends how (map server_in alive) (in_progress (begins_ends w.job.updates) w))) (quiet_writes _ _))

put_quiet : (b : Bool) (w : Work) → Quiet w.ends (awaits_put b w).work.ends
put_quiet true w = quiet_same w.ends
put_quiet false w = quiet_same w.ends

after_quiet : (us : List Updated) (how : HowEnded) (w : Work) → Quiet w.ends (after_put us how w).work.ends
after_quiet [] how w = quiet_writes _ w.ends
after_quiet (u ∷ us) how w = put_quiet how.wanted w

when_quiet : (are room : Bool) (how : HowEnded) (w : Work) → Quiet w.ends (ends_when are room how w).work.ends
when_quiet false room how w = quiet_same w.ends
when_quiet true false how w = quiet_same w.ends
when_quiet true true how w =
    quiet_then (txn_quiet how (living w) (living_backs w) w) (after_quiet (living w) how (ends_txn how (living w) (living_backs w) w))

writes_quiet : (how : HowEnded) (es : List Ended) (w : Work) → Quiet w.ends (writes_ends how es w).ends
writes_quiet how [] w = quiet_same w.ends
writes_quiet how (e ∷ es) w = quiet_then (quiet_writes _ w.ends) (writes_quiet how es _)

answer_quiet : (b : Bool) (how : HowEnded) (es : List Ended) (w : Work) → Quiet w.ends (answers_ends b how es w).work.ends
answer_quiet true how es w = writes_quiet how es w
answer_quiet false how es w = quiet_same w.ends

hear_quiet : (b : Bool) (how : HowEnded) (es : List Ended) (w : Work) → Quiet w.ends (hears_ends b how es w).work.ends
hear_quiet true how es w = answer_quiet (list_all (is_told_end w) es) how es w
hear_quiet false how es w = quiet_same w.ends

await_quiet : (b : Bool) (how : HowEnded) (es : List Ended) (w : Work) → Quiet w.ends (awaits_ends b how es w).work.ends
await_quiet true how es w = hear_quiet (list_all (is_up_end w) es) how es w
await_quiet false how es w = quiet_same w.ends

end_quiet : (o : Option (List Ended)) (how : HowEnded) (w : Work) → Quiet w.ends (ends_by o how w).work.ends
end_quiet None how w = when_quiet (are_up w) (list_all (has_room w) (living w)) how w
end_quiet (Some []) how w = quiet_writes _ w.ends
end_quiet (Some (e ∷ es)) how w = await_quiet how.wanted how (e ∷ es) w

commit_quiet : (b sync : Bool) (w : Work) → Quiet w.ends (commit_at b sync w).work.ends
commit_quiet true sync w = quiet_then (quiet_writes _ w.ends) (quiet_writes _ _)
commit_quiet false sync w = end_quiet w.at.ends _ w

-- syncs

syncs_quiet : (d : ℕ) (w : Work) → Quiet w.ends (syncs d w).ends
syncs_quiet d w =
    quiet_then (quiet_ticket d w.ends)
    (quiet_then (quiet_sets d (with_sync _ w.job.index) _ (λ s. still s (with_sync _ w.job.index s) refl refl)) (quiet_puts d (up.Sync _) _ refl))

synced_quiet : (o : Option ℕ) (d : ℕ) (w : Work) → Quiet w.ends (by_synced o d w).work.ends
synced_quiet None d w = quiet_same w.ends
synced_quiet (Some at) d w = quiet_then (quiet_writes _ w.ends) (quiet_writes _ _)

sync_quiet : (o : Option Syncing) (d : ℕ) (w : Work) → Quiet w.ends (by_sync o d w).work.ends
sync_quiet None d w = quiet_own (has_own w d) _ w (syncs_quiet d w)
sync_quiet (Some a) d w = synced_quiet a.at d w

-- refusals

quits_quiet : (command : Command) (w : Work) → is_lock command ≡ false → Quiet w.ends (quits_command command w).ends
quits_quiet (Set at value) w other = quiet_same w.ends
quits_quiet (Kill at) w other = quiet_same w.ends
quits_quiet (Get at) w other = quiet_same w.ends
quits_quiet (Shape at) w other = quiet_same w.ends
quits_quiet (Next parent sub) w other = quiet_same w.ends
quits_quiet (Incr at amount) w other = quiet_same w.ends
quits_quiet (Lock at mode wait) w other = absurd (cc (other))
quits_quiet (Unlock at mode now) w other = quiet_same w.ends
quits_quiet Start w other = quiet_same w.ends
quits_quiet (Commit sync) w other = quiet_same w.ends
quits_quiet Rollback w other = quiet_same w.ends
quits_quiet (Sync server) w other = quiet_same w.ends

refused_quiet : (r : Refusal) (command : Command) (w : Work) → is_lock command ≡ false → Quiet w.ends (refused r command w).ends
refused_quiet (refusals.Network d state reason) command w other = quiet_writes _ w.ends
refused_quiet refusals.RollbackOnly command w other = quiet_then (quits_quiet command w other) (quiet_writes _ _)
refused_quiet (refusals.NotWhole at) command w other = quiet_same w.ends
refused_quiet (refusals.Range at) command w other = quiet_same w.ends
refused_quiet refusals.NoTransaction command w other = quiet_writes _ w.ends
refused_quiet refusals.TooDeep command w other = quiet_writes _ w.ends
refused_quiet refusals.LockTimeout command w other = quiet_writes _ w.ends

-- commands

does_quiet : (command : Command) (now : ℕ) (w : Work) (t : Turn) → is_lock command ≡ false → Does command now w t → Quiet w.ends t.work.ends
does_quiet (Set at value) now w t other h = by_turn w t _ h (change_quiet at.server (ops.Set at.key value) w)
does_quiet (Kill at) now w t other h = by_turn w t _ h (change_quiet at.server (ops.Kill at.key) w)
does_quiet (Get at) now w t other h =
    by_turn w t _ h
    (quiet_normal (is_up w at.server) at.server _ w (λ v. get_quiet (touches_own (own_ops v at.server) at.key) at.server at.key v))
does_quiet (Shape at) now w t other h =
    by_turn w t _ h
    (quiet_normal (is_up w at.server) at.server _ w (λ v. quiet_own (has_own v at.server) (shapes_now at.server at.key) v (shape_quiet at.server at.key v)))
does_quiet (Next parent sub) now w t other h = nexts_quiet (is_up w parent.server) parent sub w t h
does_quiet (Incr at amount) now w t other h =
    by_turn w t _ h (quiet_normal (is_up w at.server) at.server _ w (λ v. adds_quiet v.at.added at.server at.key amount v))
does_quiet (Lock at mode wait) now w t other h = absurd (cc (other))
does_quiet (Unlock at mode at_once) now w t other h =
    by_turn w t _ h
    (quiet_up (is_up w at.server) at.server _ w
    (λ v. quiet_then (held_quiet (if at_once then true else v.job.level == 0) at.server mode at.key v) (quiet_writes _ _)))
does_quiet Start now w t other h = by_turn w t _ h (quiet_then (quiet_writes _ w.ends) (quiet_writes _ _))
does_quiet (Commit sync) now w t other h = by_turn w t _ h (commit_quiet (is_inner w) sync w)
does_quiet Rollback now w t other h = by_turn w t _ h (end_quiet w.at.ends _ w)
does_quiet (Sync server) now w t other h =
    by_turn w t _ h (quiet_normal (is_up w server) server _ w (λ v. sync_quiet (sync_of_job v server) server v))

-- Each turn of one.
pub turn_quiet : (r : Option Refusal) (command : Command) (now : ℕ) (w : Work) (t : Turn) → is_lock command ≡ false → Turns r command now w t
    → Quiet w.ends t.work.ends
turn_quiet (Some r) command now w t other h = by_turn w t _ h (refused_quiet r command w other)
turn_quiet None command now w t other h = does_quiet command now w t other h
