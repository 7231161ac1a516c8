-- What each command keeps: the application server, the number of its ends, the job, and how many data servers it counts.
use Rattle.std.proofs.Common.{◌≡◌, ◌==◌, ℕ, Bool, true, false, List, [], ◌∷◌, refl, sym, subst, ap, Option, Some, None, if◌then◌else◌, length, ℤ, map}
use Rattle.std.specs.List.{find, list_all, range_with_len}
use Rattle.subscript_keys.specs.declared.run.Run.{Run}
use Rattle.subscript_keys.specs.declared.sub.Sub.{Sub}
use Rattle.plain_orders.specs.declared.act.Act.{Act}
use Rattle.plain_orders.specs.declared.mode.Mode.{Mode}
use Rattle.plain_orders.specs.declared.op.Op.{Op}
use Rattle.plain_orders.specs.declared.op.Op.TheVariants as ops
use Rattle.plain_orders.specs.declared.refused.Refused.{Refused}
use Rattle.plain_orders.specs.declared.item.Item.TheVariants as items
use Rattle.subscript_keys.specs.Span.{span_hi}
use Rattle.ecp_messages.specs.declared.up.Up.TheVariants.{Add, Update, Fetch as FetchUp}
use Rattle.plain_orders.specs.Own.{touches_own}
use Rattle.ecp_messages.specs.declared.about.About.{About}
use Rattle.ecp_messages.specs.declared.about.About.TheVariants.{Counted, NotWhole, Range, Committed, RolledBack, Synced}
use Rattle.app_job.specs.Sites.{Site}
use Rattle.app_job.specs.declared.command.Command.{Command}
use Rattle.app_job.specs.declared.command.Command.TheVariants.{Set, Kill, Get, Shape, Next, Incr, Lock, Unlock, Start, Commit, Rollback, Sync}
use Rattle.app_job.specs.declared.refusal.Refusal.{Refusal}
use Rattle.app_job.specs.declared.refusal.Refusal.TheVariants as refusals
use Rattle.end_words.specs.Runs.{covers}
use Rattle.app_rules.specs.declared.session_parts.Asked.{Asked}
use Rattle.app_rules.specs.declared.session_parts.Ended.{Ended}
use Rattle.app_rules.specs.declared.session_parts.HeldBack.{HeldBack}
use Rattle.app_rules.specs.declared.session_parts.Syncing.{Syncing}
use Rattle.app_rules.specs.declared.session_parts.Told.{Told}
use Rattle.app_rules.specs.declared.session_parts.Updated.{Updated}
use Rattle.app_rules.specs.Works.{Sofar, writes, becomes, session_at}
use Rattle.app_rules.specs.JobState.{Progress, Work, Turn, on, in_job, in_progress, with_used}
use Rattle.app_rules.specs.Refusing.{server_in, is_ask_put_of, quits, quits_if, quits_command, refused, refusal_of, says_no}
use Rattle.app_rules.specs.Issuing.{changes, is_up, is_full, has_own, own_ops, queues, has_updated, adds, adds_by, says_sum, says_told, told_at, unless_full, unless_own, next_w, txn_now, with_late, with_owed, with_added, uses}
use Rattle.app_rules.specs.Reading.{Walk, Walked, with_fetch, with_fetched, walks, cache_of, holds_below, has_value, fetches_unless, is_fetching, gets_own, gets_from, shapes_walked, shapes_now, caches, NextsWalked, next_walk}
use Rattle.app_rules.specs.Reading.Walked.{Needs, Finds, Ends}
use Rattle.app_rules.specs.Locking.{with_ticket, asks, by_grant, waits_grant, is_due, locks_by, locks_now, ask_of_job, gives_up, gives_up_if, holds_it, holds_back_if, unlocks_held}
use Rattle.app_rules.specs.Ending.{HowEnded, end_item, end_message, end_notes, with_put_end, ends_so_far, puts_end, puts_ends, unlocks_back, ends_txn, living, living_backs, levels, awaits_put, after_put, ends_when, are_up, has_room, ends_by, awaits_ends, hears_ends, answers_ends, writes_ends, is_up_end, is_told_end, commit_at, is_inner, syncs, by_sync, by_synced, sync_of_job, without_txn, begins_ends, with_txn}
use Rattle.app_rules.specs.JobStep.{NextsFree, NextsUp, Does, Turns, ended, kept, left_at, is_waiting, work_of}
use Rattle.app_rules.specs.Laws.{IsSameApp, IsSameJob, JobStepsKeep}
use Rattle.app_rules.proofs.OneEnd.{one_end}
use Rattle.app_rules.proofs.Kept.{IsKept, same_app, same_job, kept_same, app_then, kept_then, kept_end, kept_put, kept_used, kept_uses, kept_state, kept_normal, kept_up, kept_full, kept_own, kept_issue}

write_kept : (a : Act) (w : Work) → IsKept w (on (writes a) w)
write_kept a w = record { ends = same_app w.ends.state; job = same_job w.job }

progress_kept : (f : Progress → Progress) (w : Work) → IsKept w (in_progress f w)
progress_kept f w = record { ends = same_app w.ends.state; job = same_job w.job }

is_kept : (w v x : Work) → v ≡ x → IsKept w x → IsKept w v
is_kept w v x e h = subst (λ y. IsKept w y) (sym e) h

-- Sets, Kills and increments
updated_kept : (b : Bool) (d session : ℕ) (w : Work) → IsKept w (in_job (has_updated b d session) w)
updated_kept true d session w = record { ends = same_app w.ends.state; job = same_job w.job }
updated_kept false d session w = record { ends = same_app w.ends.state; job = record { index = refl; app = refl; used = refl } }

queue_kept : (d : ℕ) (op : Op) (w : Work) → IsKept w (queues d op w).work
queue_kept d op w =
    kept_then
    (kept_issue d (items.Op op) (Update (next_w w d) w.job.index (txn_now w.job) op) (with_late (next_w w d) w.job.index op) w)
    (updated_kept (w.job.level == 0) d (session_at w.ends.state d).number _)

add_kept : (d : ℕ) (key : List ℕ) (amount : ℤ) (w : Work) → IsKept w (adds d key amount w)
add_kept d key amount w =
    kept_then
    (kept_issue d (items.Op (ops.Add key amount)) (Add (next_w w d) w.job.index key amount) (with_owed (next_w w d) (Add (next_w w d) w.job.index key amount) w.job.index) w)
    (progress_kept (with_added (next_w w d)) _)

sum_kept : (m : About) (d at : ℕ) (sum : ℤ) (w : Work) → IsKept w (says_sum m d at sum w).work
sum_kept Counted d at sum w = write_kept _ w
sum_kept NotWhole d at sum w = write_kept _ w
sum_kept Range d at sum w = write_kept _ w
sum_kept Committed d at sum w = kept_same w
sum_kept RolledBack d at sum w = kept_same w
sum_kept Synced d at sum w = kept_same w

told_kept : (o : Option Told) (d : ℕ) (w : Work) → IsKept w (says_told o d w).work
told_kept None d w = kept_same w
told_kept (Some t) d w = sum_kept t.about d t.at t.sum w

adds_kept : (o : Option ℕ) (d : ℕ) (key : List ℕ) (amount : ℤ) (w : Work) → IsKept w (adds_by o d key amount w).work
adds_kept None d key amount w =
    kept_full (is_full w d) _ w (λ v. kept_own (has_own v d) _ v (λ u. add_kept d key amount u))
adds_kept (Some n) d key amount w = told_kept (told_at w d n) d w

-- reads
fetch_kept : (b : Bool) (d : ℕ) (key : List ℕ) (w : Work) → IsKept w (fetches_unless b d key w)
fetch_kept true d key w = kept_same w
fetch_kept false d key w = kept_then (kept_end d (with_fetch w.job.index key) w) (kept_then (kept_put d (FetchUp key) _) (progress_kept with_fetched _))

from_kept : (o : Option Run) (d : ℕ) (key : List ℕ) (w : Work) → IsKept w (gets_from o d key w).work
from_kept None d key w = fetch_kept (is_fetching w d key) d key w
from_kept (Some run) d key w = kept_then (kept_end d _ w) (write_kept _ _)

get_kept : (b : Bool) (d : ℕ) (key : List ℕ) (w : Work) → IsKept w (gets_own b d key w).work
get_kept true d key w = write_kept _ w
get_kept false d key w = from_kept (find (covers key) (cache_of w d)) d key w

walked_kept : (k : Walked) (d : ℕ) (key : List ℕ) (value : Bool) (w : Work) → IsKept w (shapes_walked k d key value w).work
walked_kept (Needs needed) d key value w = fetch_kept (is_fetching w d needed) d needed w
walked_kept (Finds run) d key value w = write_kept _ w
walked_kept Ends d key value w = write_kept _ w

shape_kept : (d : ℕ) (key : List ℕ) (w : Work) → IsKept w (shapes_now d key w).work
shape_kept d key w =
    kept_then (kept_end d _ w) (walked_kept (walks (holds_below key) (span_hi key) key (cache_of w d)).walked d key (has_value (cache_of w d) key) _)

next_kept : (k : Walked) (x : Walk) (d : ℕ) (parent : List ℕ) (sub : Option Sub) (w : Work) (t : Turn) → NextsWalked k x d parent sub w t → IsKept w t.work
next_kept (Needs needed) x d parent sub w t h =
    is_kept w t.work _ (ap (λ y. y.work) h) (kept_then (kept_end d _ w) (fetch_kept (is_fetching (caches d x.cache w) d needed) d needed (caches d x.cache w)))
next_kept (Finds run) x d parent sub w t h = is_kept w t.work _ (ap (λ y. y.work) h.after) (kept_then (kept_end d _ w) (write_kept _ _))
next_kept Ends x d parent sub w t h = is_kept w t.work _ (ap (λ y. y.work) h.after) (kept_then (kept_end d _ w) (write_kept _ _))

free_kept : (b : Bool) (parent : Site) (sub : Option Sub) (w : Work) (t : Turn) → NextsFree b parent sub w t → IsKept w t.work
free_kept true parent sub w t h = is_kept w t.work w (ap (λ y. y.work) h) (kept_same w)
free_kept false parent sub w t h =
    next_kept (next_walk parent.server parent.key sub w).walked (next_walk parent.server parent.key sub w) parent.server parent.key sub w t h

up_kept : (b : Bool) (parent : Site) (sub : Option Sub) (w : Work) (t : Turn) → NextsUp b parent sub w t → IsKept w t.work
up_kept true parent sub w t h = kept_then (kept_uses parent.server w) (free_kept (has_own w parent.server) parent sub (uses parent.server w) t h)
up_kept false parent sub w t h = is_kept w t.work _ (ap (λ y. y.work) h) (kept_state parent.server w)

-- locks
becomes_kept : (d : ℕ) (w : Work) → IsKept w (on (becomes d with_ticket) w)
becomes_kept d w = record { ends = (one_end d _ w.ends.state).same; job = same_job w.job }

ask_kept : (d : ℕ) (mode : Mode) (key : List ℕ) (w : Work) → IsKept w (asks d mode key w)
ask_kept d mode key w = kept_then (becomes_kept d w) (kept_then (kept_end d _ _) (kept_put d _ _))

quits_kept : (o : Option Asked) (d : ℕ) (mode : Mode) (key : List ℕ) (w : Work) → IsKept w (quits_if o d mode key w)
quits_kept None d mode key w = kept_same w
quits_kept (Some a) d mode key w = kept_then (write_kept _ w) (kept_put d _ _)

quit_kept : (d : ℕ) (mode : Mode) (key : List ℕ) (w : Work) → IsKept w (quits d mode key w)
quit_kept d mode key w = quits_kept (find (is_ask_put_of w.job.index) (session_at w.ends.state d).asks) d mode key w

due_kept : (b : Bool) (d : ℕ) (mode : Mode) (key : List ℕ) (w : Work) → IsKept w (waits_grant b d mode key w).work
due_kept true d mode key w = kept_then (quit_kept d mode key w) (write_kept _ _)
due_kept false d mode key w = kept_same w

grant_kept : (o : Option ℕ) (d : ℕ) (mode : Mode) (key : List ℕ) (wait : Option ℕ) (now : ℕ) (w : Work) → IsKept w (by_grant o d mode key wait now w).work
grant_kept (Some at) d mode key wait now w = kept_then (kept_end d _ w) (write_kept _ _)
grant_kept None d mode key wait now w = due_kept (is_due wait w.at.first now) d mode key w

lock_kept : (o : Option Asked) (d : ℕ) (mode : Mode) (key : List ℕ) (wait : Option ℕ) (now : ℕ) (w : Work) → IsKept w (locks_by o d mode key wait now w).work
lock_kept None d mode key wait now w = kept_then (ask_kept d mode key w) (grant_kept None d mode key wait now (asks d mode key w))
lock_kept (Some a) d mode key wait now w = grant_kept a.at d mode key wait now w

give_kept : (d : ℕ) (mode : Mode) (key : List ℕ) (w : Work) → IsKept w (gives_up d mode key w)
give_kept d mode key w = kept_then (kept_end d _ w) (kept_then (write_kept _ _) (kept_put d _ _))

gives_kept : (b : Bool) (d : ℕ) (mode : Mode) (key : List ℕ) (w : Work) → IsKept w (gives_up_if b d mode key w)
gives_kept true d mode key w = give_kept d mode key w
gives_kept false d mode key w = kept_same w

back_kept : (b : Bool) (d : ℕ) (mode : Mode) (key : List ℕ) (w : Work) → IsKept w (holds_back_if b d mode key w)
back_kept true d mode key w = record { ends = same_app w.ends.state; job = record { index = refl; app = refl; used = refl } }
back_kept false d mode key w = kept_same w

held_kept : (b : Bool) (d : ℕ) (mode : Mode) (key : List ℕ) (w : Work) → IsKept w (unlocks_held b d mode key w)
held_kept true d mode key w = gives_kept (holds_it w d mode key) d mode key w
held_kept false d mode key w = back_kept (holds_it w d mode key) d mode key w

-- transactions
level_kept : (level : ℕ) (w : Work) → IsKept w (levels level w)
level_kept level w = record { ends = same_app w.ends.state; job = record { index = refl; app = refl; used = refl } }

ends_kept : (how : HowEnded) (ds : List ℕ) (w : Work) → IsKept w (puts_ends how ds w)
ends_kept how [] w = kept_same w
ends_kept how (d ∷ ds) w =
    kept_then
    (kept_then
    (kept_issue d (end_item how w.job.txn) (end_message how (next_w w d) w.job.index w.job.txn)
    (end_notes how.wanted (next_w w d) (end_message how (next_w w d) w.job.index w.job.txn) w.job.index) w)
    (progress_kept (with_put_end (ends_so_far w.at) d (next_w w d)) _))
    (ends_kept how ds (puts_end how d w))

backs_kept : (hs : List HeldBack) (w : Work) → IsKept w (unlocks_back hs w)
backs_kept [] w = kept_same w
backs_kept (h ∷ hs) w =
    kept_then (gives_kept (holds_it w h.server h.mode h.key) h.server h.mode h.key w)
    (backs_kept hs (gives_up_if (holds_it w h.server h.mode h.key) h.server h.mode h.key w))

without_kept : (w : Work) → IsKept w (in_job without_txn w)
without_kept w = record { ends = same_app w.ends.state; job = record { index = refl; app = refl; used = refl } }

txn_kept : (how : HowEnded) (alive : List Updated) (backs : List HeldBack) (w : Work) → IsKept w (ends_txn how alive backs w)
txn_kept how alive backs w =
    kept_then (progress_kept (begins_ends w.job.updates) w)
    (kept_then (ends_kept how (map server_in alive) _) (kept_then (backs_kept backs _) (kept_then (without_kept _) (level_kept 0 _))))

put_kept : (b : Bool) (w : Work) → IsKept w (awaits_put b w).work
put_kept true w = kept_same w
put_kept false w = kept_same w

after_kept : (us : List Updated) (how : HowEnded) (w : Work) → IsKept w (after_put us how w).work
after_kept [] how w = write_kept _ w
after_kept (u ∷ us) how w = put_kept how.wanted w

when_kept : (up room : Bool) (how : HowEnded) (w : Work) → IsKept w (ends_when up room how w).work
when_kept false room how w = kept_same w
when_kept true false how w = kept_same w
when_kept true true how w = kept_then (txn_kept how (living w) (living_backs w) w) (after_kept (living w) how _)

writes_kept : (how : HowEnded) (es : List Ended) (w : Work) → IsKept w (writes_ends how es w)
writes_kept how [] w = kept_same w
writes_kept how (e ∷ es) w = kept_then (write_kept _ w) (writes_kept how es _)

answer_kept : (b : Bool) (how : HowEnded) (es : List Ended) (w : Work) → IsKept w (answers_ends b how es w).work
answer_kept true how es w = writes_kept how es w
answer_kept false how es w = kept_same w

hear_kept : (b : Bool) (how : HowEnded) (es : List Ended) (w : Work) → IsKept w (hears_ends b how es w).work
hear_kept true how es w = answer_kept (list_all (is_told_end w) es) how es w
hear_kept false how es w = kept_same w

await_kept : (b : Bool) (how : HowEnded) (es : List Ended) (w : Work) → IsKept w (awaits_ends b how es w).work
await_kept true how es w = hear_kept (list_all (is_up_end w) es) how es w
await_kept false how es w = kept_same w

end_kept : (o : Option (List Ended)) (how : HowEnded) (w : Work) → IsKept w (ends_by o how w).work
end_kept None how w = when_kept (are_up w) (list_all (has_room w) (living w)) how w
end_kept (Some []) how w = write_kept _ w
end_kept (Some (e ∷ es)) how w = await_kept how.wanted how (e ∷ es) w

commit_kept : (b sync : Bool) (w : Work) → IsKept w (commit_at b sync w).work
commit_kept true sync w = kept_then (level_kept _ w) (write_kept _ _)
commit_kept false sync w = end_kept w.at.ends _ w

syncs_kept : (d : ℕ) (w : Work) → IsKept w (syncs d w)
syncs_kept d w = kept_then (becomes_kept d w) (kept_then (kept_end d _ _) (kept_put d _ _))

synced_kept : (o : Option ℕ) (d : ℕ) (w : Work) → IsKept w (by_synced o d w).work
synced_kept None d w = kept_same w
synced_kept (Some at) d w = kept_then (write_kept _ w) (write_kept _ _)

sync_kept : (o : Option Syncing) (d : ℕ) (w : Work) → IsKept w (by_sync o d w).work
sync_kept None d w = kept_own (has_own w d) _ w (λ v. syncs_kept d v)
sync_kept (Some a) d w = synced_kept a.at d w

start_kept : (w : Work) → IsKept w (in_job with_txn w)
start_kept w = record { ends = same_app w.ends.state; job = record { index = refl; app = refl; used = refl } }

refusal_kept : (d : ℕ) (word : Refused) (w : Work) → IsKept w (in_job (with_used d None) (says_no word w))
refusal_kept d word w = kept_then (write_kept _ w) (kept_used d None _)

quits_command_kept : (command : Command) (w : Work) → IsKept w (quits_command command w)
quits_command_kept (Set at value) w = kept_same w
quits_command_kept (Kill at) w = kept_same w
quits_command_kept (Get at) w = kept_same w
quits_command_kept (Shape at) w = kept_same w
quits_command_kept (Next parent sub) w = kept_same w
quits_command_kept (Incr at amount) w = kept_same w
quits_command_kept (Lock at mode wait) w = quit_kept at.server mode at.key w
quits_command_kept (Unlock at mode now) w = kept_same w
quits_command_kept Start w = kept_same w
quits_command_kept (Commit sync) w = kept_same w
quits_command_kept Rollback w = kept_same w
quits_command_kept (Sync server) w = kept_same w

refused_kept : (r : Refusal) (command : Command) (w : Work) → IsKept w (refused r command w)
refused_kept (refusals.Network d state reason) command w = refusal_kept d _ w
refused_kept refusals.RollbackOnly command w = kept_then (quits_command_kept command w) (write_kept _ _)
refused_kept (refusals.NotWhole at) command w = kept_same w
refused_kept (refusals.Range at) command w = kept_same w
refused_kept refusals.NoTransaction command w = write_kept _ w
refused_kept refusals.TooDeep command w = write_kept _ w
refused_kept refusals.LockTimeout command w = write_kept _ w

change_kept : (d : ℕ) (op : Op) (w : Work) → IsKept w (changes d op w).work
change_kept d op w = kept_normal (is_up w d) d (λ v. unless_full (is_full v d) (queues d op) v) w (λ v. kept_full (is_full v d) (queues d op) v (queue_kept d op))

does_kept : (command : Command) (now : ℕ) (w : Work) (t : Turn) → Does command now w t → IsKept w t.work
does_kept (Set at value) now w t h = is_kept w t.work _ (ap (λ y. y.work) h) (change_kept at.server (ops.Set at.key value) w)
does_kept (Kill at) now w t h = is_kept w t.work _ (ap (λ y. y.work) h) (change_kept at.server (ops.Kill at.key) w)
does_kept (Get at) now w t h =
    is_kept w t.work _ (ap (λ y. y.work) h)
    (kept_normal (is_up w at.server) at.server (λ v. gets_own (touches_own (own_ops v at.server) at.key) at.server at.key v) w
    (λ v. get_kept (touches_own (own_ops v at.server) at.key) at.server at.key v))
does_kept (Shape at) now w t h =
    is_kept w t.work _ (ap (λ y. y.work) h)
    (kept_normal (is_up w at.server) at.server (λ v. unless_own (has_own v at.server) (shapes_now at.server at.key) v) w
    (λ v. kept_own (has_own v at.server) (shapes_now at.server at.key) v (shape_kept at.server at.key)))
does_kept (Next parent sub) now w t h = up_kept (is_up w parent.server) parent sub w t h
does_kept (Incr at amount) now w t h =
    is_kept w t.work _ (ap (λ y. y.work) h)
    (kept_normal (is_up w at.server) at.server (λ v. adds_by v.at.added at.server at.key amount v) w (λ v. adds_kept v.at.added at.server at.key amount v))
does_kept (Lock at mode wait) now w t h =
    is_kept w t.work _ (ap (λ y. y.work) h)
    (kept_normal (is_up w at.server) at.server (locks_now at.server mode at.key wait now) w (λ v. lock_kept (ask_of_job v at.server) at.server mode at.key wait now v))
does_kept (Unlock at mode at_once) now w t h =
    is_kept w t.work _ (ap (λ y. y.work) h)
    (kept_up (is_up w at.server) at.server _ w (λ v. kept_then (held_kept (if at_once then true else v.job.level == 0) at.server mode at.key v) (write_kept _ _)))
does_kept Start now w t h = is_kept w t.work _ (ap (λ y. y.work) h) (kept_then (start_kept w) (kept_then (level_kept _ _) (write_kept _ _)))
does_kept (Commit sync) now w t h = is_kept w t.work _ (ap (λ y. y.work) h) (commit_kept (is_inner w) sync w)
does_kept Rollback now w t h = is_kept w t.work _ (ap (λ y. y.work) h) (end_kept w.at.ends _ w)
does_kept (Sync server) now w t h =
    is_kept w t.work _ (ap (λ y. y.work) h)
    (kept_normal (is_up w server) server (λ v. by_sync (sync_of_job v server) server v) w (λ v. sync_kept (sync_of_job v server) server v))

turns_kept : (r : Option Refusal) (command : Command) (now : ℕ) (w : Work) (t : Turn) → Turns r command now w t → IsKept w t.work
turns_kept (Some r) command now w t h = is_kept w t.work _ (ap (λ y. y.work) h) (refused_kept r command w)
turns_kept None command now w t h = does_kept command now w t h

left_same : (job : ℕ) (ds : List ℕ) (b : Sofar) → IsSameApp b.state (left_at job ds b).state
left_same job [] b = same_app b.state
left_same job (d ∷ ds) b = app_then (one_end d _ b.state).same (left_same job ds _)

over_kept : (b : Bool) (w : Work) → IsKept w (kept b w)
over_kept true w = record { ends = same_app w.ends.state; job = record { index = refl; app = refl; used = refl } }
over_kept false w = record { ends = left_same w.job.index (range_with_len 0 (length w.ends.state.ends)) w.ends; job = record { index = refl; app = refl; used = refl } }

pub job_steps_keep : JobStepsKeep
job_steps_keep a new j job now line command answer outs h =
    let k : IsKept (work_of a j now line) (ended h.turn) = kept_then (turns_kept (refusal_of command a j (work_of a j now line).at) command now (work_of a j now line) h.turn h.turns) (over_kept (is_waiting h.turn.answer) h.turn.work) in (
      subst (λ s. IsSameApp a s) (sym h.app) k.ends,
      subst (λ x. IsSameJob j x) (sym h.job) (record { index = k.job.index; app = k.job.app; used = k.job.used }),
    )
