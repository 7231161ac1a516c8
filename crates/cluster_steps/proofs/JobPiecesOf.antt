-- Each command's step, as the pieces that it makes.
use Rattle.std.proofs.Common.{◌≡◌, ◌==◌, ℕ, Bool, true, false, List, [], ◌∷◌, refl, sym, subst, ap, Option, Some, None, is_some, if◌then◌else◌, length, ℤ, map, inl, inr, ◌∙◌, ◌+◌, suc, ◌-◌, IfSome, unwrap_or}
use Rattle.std.specs.Prelude.{IsSomeAnd, ◌&&◌, ◌||◌}
use Rattle.std.proofs.lemmas.Bool.{false≢true, and_parts, eq-eqb}
use Rattle.std.specs.List.{AllByRecursion, find, list_any, list_all, range_with_len}
use Rattle.subscript_keys.specs.declared.run.Run.{Run}
use Rattle.subscript_keys.specs.declared.sub.Sub.{Sub}
use Rattle.subscript_keys.specs.Span.{span_hi}
use Rattle.plain_orders.specs.declared.act.Act.{Act}
use Rattle.plain_orders.specs.declared.act.Act.TheVariants as act
use Rattle.plain_orders.specs.declared.mode.Mode.{Mode}
use Rattle.plain_orders.specs.declared.op.Op.{Op}
use Rattle.plain_orders.specs.declared.op.Op.TheVariants as ops
use Rattle.plain_orders.specs.declared.item.Item.TheVariants as items
use Rattle.plain_orders.specs.Own.{touches_own}
use Rattle.ecp_messages.specs.declared.about.About.{About}
use Rattle.ecp_messages.specs.declared.about.About.TheVariants.{Counted, NotWhole, Range, Committed, RolledBack, Synced}
use Rattle.ecp_messages.specs.declared.up.Up.{Up}
use Rattle.ecp_messages.specs.declared.up.Up.TheVariants as ups
use Rattle.app_job.specs.Sites.{Site}
use Rattle.app_job.specs.declared.command.Command.{Command}
use Rattle.app_job.specs.declared.command.Command.TheVariants.{Set, Kill, Get, Shape, Next, Incr, Lock, Unlock, Start, Commit, Rollback, Sync}
use Rattle.app_job.specs.declared.refusal.Refusal.{Refusal}
use Rattle.app_job.specs.declared.refusal.Refusal.TheVariants as refusals
use Rattle.end_words.specs.Runs.{covers}
use Rattle.block_cache.specs.CacheWords.{used}
use Rattle.app_job.specs.declared.answer.Answer.{Answer}
use Rattle.app_rules.specs.declared.app_outs.AppOuts.{AppOuts}
use Rattle.app_rules.specs.AppState.{AppEnd, Session, AppState, no_session}
use Rattle.app_rules.specs.declared.session_parts.Asked.{Asked}
use Rattle.app_rules.specs.declared.session_parts.Ended.{Ended}
use Rattle.app_rules.specs.declared.session_parts.HeldBack.{HeldBack}
use Rattle.app_rules.specs.declared.session_parts.Syncing.{Syncing}
use Rattle.app_rules.specs.declared.session_parts.Told.{Told}
use Rattle.app_rules.specs.declared.session_parts.Updated.{Updated}
use Rattle.app_rules.specs.AppStep.{made}
use Rattle.app_rules.specs.Works.{Sofar, writes, becomes, sets, puts, end_at, session_of, session_at, is_normal, begun}
use Rattle.app_rules.specs.JobState.{Work, Turn, in_job, in_progress, JobState}
use Rattle.app_rules.specs.Refusing.{server_in, is_ask_put_of, quits, quits_if, quits_command, refused, refusal_of}
use Rattle.app_rules.specs.Issuing.{changes, is_up, is_full, has_own, own_ops, queues, adds, adds_by, says_sum, says_told, told_at, unless_full, unless_own, next_w, txn_now, with_item, uses, uses_if, pair_session, tries_if_free, is_free, waits_state, at_normal, at_up}
use Rattle.app_rules.specs.Reading.{Walked, with_fetch, walks, cache_of, holds_below, has_value, fetches_unless, is_fetching, gets_own, gets_from, shapes_walked, shapes_now, caches, NextsWalked, next_walk, waits_fetch, holds_from, next_start, with_cache}
use Rattle.app_rules.specs.Reading.Walked.{Needs, Finds, Ends}
use Rattle.app_rules.specs.Locking.{with_ticket, asks, by_grant, waits_grant, is_due, locks_by, locks_now, ask_of_job, gives_up_if, holds_it, holds_back_if, unlocks_held, with_ask, with_held, without_held, is_lane}
use Rattle.app_rules.specs.Ending.{HowEnded, end_item, end_message, end_notes, puts_end, puts_ends, unlocks_back, ends_txn, living, living_backs, levels, awaits_put, after_put, ends_when, are_up, has_room, ends_by, awaits_ends, hears_ends, answers_ends, writes_ends, is_up_at, is_up_back, is_up_end, is_told_end, commit_at, is_inner, syncs, by_sync, by_synced, sync_of_job, begins_ends, with_txn, with_sync}
use Rattle.app_rules.specs.JobStep.{NextsFree, NextsUp, Does, Turns, JobStep, ended, kept, left_at, left_by, is_waiting, work_of}
use Rattle.cluster_steps.proofs.JobPieces.{Note, NoteMay, NoteOn, GoesOn, IsAmong, IsItem, IsNoCancel, IsPutByJob, IsOfJob, PutOn, is_put_with, put_on, noted_by, goes_same, goes_by, goes_then, stays_up, session_stays}
use Rattle.cluster_steps.proofs.UsedRuns.{used_all, walked_all, all_among}
use Rattle.cluster_steps.proofs.JobPieces.Note.{Queues, QueuesLate, QueuesOwed, Fetches, Asks, Syncs, Holds, Lowers, Uses, Leaves}
use Rattle.cluster_steps.proofs.JobPieces.JobPiece.{Writes, Tries, Notes, Tickets, Puts}

-- a session with which nothing more is known
any_note : (P : Session → Type 0) → ((s : Session) → P s) → (o : Option Session) → IfSome o P
any_note P each None = tt
any_note P each (Some s) = each s

write_goes : (a : Act) (b : Sofar) → IsOfJob a → GoesOn b (writes a b)
write_goes a b may = goes_by (Writes a) b may

note_goes : (d : ℕ) (n : Note) (b : Sofar) → ((s : Session) → NoteMay n s) → NoteOn n (end_at b.state d).link → GoesOn b (sets d (noted_by n) b)
note_goes d n b may on = goes_by (Notes d n) b (any_note (NoteMay n) may (end_at b.state d).session, on)

put_goes : (d : ℕ) (m : Up) (b : Sofar) → IsPutByJob m → IsNoCancel m → is_normal (end_at b.state d).link ≡ true → GoesOn b (puts d m b)
put_goes d m b may keeps up = goes_by (Puts d m) b (may, inl up, put_on m (end_at b.state d) keeps up)

-- waiting for a connection

tries_goes : (free : Bool) (d : ℕ) (b : Sofar) → is_free (end_at b.state d).link ≡ free → GoesOn b (tries_if_free free d b)
tries_goes true d b free = goes_by (Tries d) b free
tries_goes false d b free = goes_same b

uses_ends : (o : Option ℕ) (d : ℕ) (w : Work) → (uses_if o d w).ends ≡ w.ends
uses_ends None d w = refl
uses_ends (Some s) d w = refl

-- the same ends
same_goes : (b c : Sofar) → c ≡ b → GoesOn b c
same_goes b c same = subst (λ (x : Sofar). GoesOn b x) (sym same) (goes_same b)

state_goes : (d : ℕ) (w : Work) → GoesOn w.ends (waits_state d w).work.ends
state_goes d w =
    goes_then (same_goes w.ends (uses d w).ends (uses_ends (pair_session w.ends.state d) d w))
    (tries_goes (is_free (end_at w.ends.state d).link) d (uses d w).ends
    (ap (λ (s : Sofar). is_free (end_at s.state d).link) (uses_ends (pair_session w.ends.state d) d w)))

normal_goes : (is_there : Bool) (d : ℕ) (f : Work → Turn) (w : Work) → is_up w d ≡ is_there → ((v : Work) → is_up v d ≡ true → GoesOn v.ends (f v).work.ends) → GoesOn w.ends (at_normal is_there d f w).work.ends
normal_goes true d f w up each =
    goes_then (same_goes w.ends (uses d w).ends (uses_ends (pair_session w.ends.state d) d w))
    (each (uses d w) (ap (λ (s : Sofar). is_normal (end_at s.state d).link) (uses_ends (pair_session w.ends.state d) d w) ∙ up))
normal_goes false d f w up each = state_goes d w

up_goes : (is_there : Bool) (d : ℕ) (f : Work → Turn) (w : Work) → is_up w d ≡ is_there → ((v : Work) → is_up v d ≡ true → GoesOn v.ends (f v).work.ends) → GoesOn w.ends (at_up is_there d f w).work.ends
up_goes true d f w up each = each w up
up_goes false d f w up each = state_goes d w

full_goes : (b : Bool) (f : Work → Turn) (w : Work) → GoesOn w.ends (f w).work.ends → GoesOn w.ends (unless_full b f w).work.ends
full_goes true f w goes = goes_same w.ends
full_goes false f w goes = goes

own_goes : (b : Bool) (f : Work → Turn) (w : Work) → GoesOn w.ends (f w).work.ends → GoesOn w.ends (unless_own b f w).work.ends
own_goes true f w goes = goes_same w.ends
own_goes false f w goes = goes

-- items

issue_goes : (d : ℕ) (a : Act) (m : Up) (n : Note) (b : Sofar) → IsOfJob a → ((s : Session) → NoteMay n s) → NoteOn n (end_at b.state d).link → IsPutByJob m → IsNoCancel m
    → is_normal (end_at b.state d).link ≡ true → GoesOn b (puts d m (sets d (noted_by n) (writes a b)))
issue_goes d a m n b of_job noted on put keeps up = go (goes_then (write_goes a b of_job) (note_goes d n (writes a b) noted on))
  where
    go : GoesOn b (sets d (noted_by n) (writes a b)) → GoesOn b (puts d m (sets d (noted_by n) (writes a b)))
    go g = goes_then g (put_goes d m (sets d (noted_by n) (writes a b)) put keeps (stays_up g d up))

queue_goes : (d : ℕ) (op : Op) (w : Work) → is_up w d ≡ true → GoesOn w.ends (queues d op w).work.ends
queue_goes d op w up =
    issue_goes d (act.Issue w.job.index w.at.line d (next_w w d) (items.Op op)) (ups.Update (next_w w d) w.job.index (txn_now w.job) op)
    (QueuesLate (next_w w d) (ups.Update (next_w w d) w.job.index (txn_now w.job) op) w.job.index op) w.ends tt (λ s. tt) tt tt tt up

add_goes : (d : ℕ) (key : List ℕ) (amount : ℤ) (w : Work) → is_up w d ≡ true → GoesOn w.ends (adds d key amount w).ends
add_goes d key amount w up =
    issue_goes d (act.Issue w.job.index w.at.line d (next_w w d) (items.Op (ops.Add key amount))) (ups.Add (next_w w d) w.job.index key amount)
    (QueuesOwed (next_w w d) (ups.Add (next_w w d) w.job.index key amount) w.job.index) w.ends tt (λ s. tt) tt tt tt up

sum_goes : (m : About) (d at : ℕ) (sum : ℤ) (w : Work) → GoesOn w.ends (says_sum m d at sum w).work.ends
sum_goes Counted d at sum w = write_goes _ w.ends tt
sum_goes NotWhole d at sum w = write_goes _ w.ends tt
sum_goes Range d at sum w = write_goes _ w.ends tt
sum_goes Committed d at sum w = goes_same w.ends
sum_goes RolledBack d at sum w = goes_same w.ends
sum_goes Synced d at sum w = goes_same w.ends

told_goes : (o : Option Told) (d : ℕ) (w : Work) → GoesOn w.ends (says_told o d w).work.ends
told_goes None d w = goes_same w.ends
told_goes (Some t) d w = sum_goes t.about d t.at t.sum w

adds_goes : (o : Option ℕ) (d : ℕ) (key : List ℕ) (amount : ℤ) (w : Work) → is_up w d ≡ true → GoesOn w.ends (adds_by o d key amount w).work.ends
adds_goes None d key amount w up = full_goes (is_full w d) _ w (own_goes (has_own w d) _ w (add_goes d key amount w up))
adds_goes (Some n) d key amount w up = told_goes (told_at w d n) d w

-- reads

fetch_goes : (b : Bool) (d : ℕ) (key : List ℕ) (w : Work) → is_up w d ≡ true → GoesOn w.ends (fetches_unless b d key w).ends
fetch_goes true d key w up = goes_same w.ends
fetch_goes false d key w up = go (note_goes d (Fetches w.job.index key) w.ends (λ s. tt) tt)
  where
    go : GoesOn w.ends (sets d (with_fetch w.job.index key) w.ends) → GoesOn w.ends (fetches_unless false d key w).ends
    go g = goes_then g (put_goes d (ups.Fetch key) (sets d (with_fetch w.job.index key) w.ends) tt tt (stays_up g d up))

waits_goes : (d : ℕ) (key : List ℕ) (w : Work) → is_up w d ≡ true → GoesOn w.ends (waits_fetch d key w).work.ends
waits_goes d key w up = fetch_goes (is_fetching w d key) d key w up

-- the runs of a session, as they were used
cache_goes : (d : ℕ) (f : List Run → List Run) (b : Sofar) → ((rs : List Run) → AllByRecursion (λ r. IsAmong r rs) (f rs)) → GoesOn b (sets d (with_cache (f (session_at b.state d).cache)) b)
cache_goes d f b among = goes_by (Notes d (Uses (f (session_at b.state d).cache))) b (go (end_at b.state d).session, tt)
  where
    go : (o : Option Session) → IfSome o (NoteMay (Uses (f (unwrap_or o no_session).cache)))
    go None = tt
    go (Some s) = among s.cache

from_goes : (o : Option Run) (d : ℕ) (key : List ℕ) (w : Work) → is_up w d ≡ true → GoesOn w.ends (gets_from o d key w).work.ends
from_goes None d key w up = waits_goes d key w up
from_goes (Some run) d key w up =
    goes_then (cache_goes d (used key) w.ends (λ rs. used_all (λ r. IsAmong r rs) key rs (all_among rs))) (write_goes _ (caches d (used key (cache_of w d)) w).ends tt)

get_goes : (b : Bool) (d : ℕ) (key : List ℕ) (w : Work) → is_up w d ≡ true → GoesOn w.ends (gets_own b d key w).work.ends
get_goes true d key w up = write_goes _ w.ends tt
get_goes false d key w up = from_goes (find (covers key) (cache_of w d)) d key w up

walk_goes : (d : ℕ) (holds : Run → Bool) (end key : List ℕ) (w : Work) → GoesOn w.ends (caches d (walks holds end key (cache_of w d)).cache w).ends
walk_goes d holds end key w =
    cache_goes d (λ rs. (walks holds end key rs).cache) w.ends (λ rs. walked_all (λ r. IsAmong r rs) (suc (length rs)) holds end key rs (all_among rs))

walked_goes : (k : Walked) (d : ℕ) (key : List ℕ) (value : Bool) (w : Work) → is_up w d ≡ true → GoesOn w.ends (shapes_walked k d key value w).work.ends
walked_goes (Needs needed) d key value w up = waits_goes d needed w up
walked_goes (Finds run) d key value w up = write_goes _ w.ends tt
walked_goes Ends d key value w up = write_goes _ w.ends tt

shape_goes : (d : ℕ) (key : List ℕ) (w : Work) → is_up w d ≡ true → GoesOn w.ends (shapes_now d key w).work.ends
shape_goes d key w up = go (walk_goes d (holds_below key) (span_hi key) key w)
  where
    v : Work
    v = caches d (walks (holds_below key) (span_hi key) key (cache_of w d)).cache w

    go : GoesOn w.ends v.ends → GoesOn w.ends (shapes_now d key w).work.ends
    go g = goes_then g (walked_goes (walks (holds_below key) (span_hi key) key (cache_of w d)).walked d key (has_value (cache_of w d) key) v (stays_up g d up))

by_work : (t : Turn) (u : Turn) (b : Sofar) → t ≡ u → GoesOn b u.work.ends → GoesOn b t.work.ends
by_work t u b same g = subst (λ (x : Turn). GoesOn b x.work.ends) (sym same) g

next_goes : (k : Walked) (d : ℕ) (parent : List ℕ) (sub : Option Sub) (w : Work) (t : Turn) → is_up w d ≡ true → NextsWalked k (next_walk d parent sub w) d parent sub w t → GoesOn w.ends t.work.ends
next_goes k d parent sub w t up h = go (walk_goes d (holds_from (next_start parent sub)) (span_hi parent) (next_start parent sub) w) k h
  where
    v : Work
    v = caches d (next_walk d parent sub w).cache w

    go : GoesOn w.ends v.ends → (x : Walked) → NextsWalked x (next_walk d parent sub w) d parent sub w t → GoesOn w.ends t.work.ends
    go g (Needs needed) h = by_work t _ w.ends h (goes_then g (waits_goes d needed v (stays_up g d up)))
    go g (Finds run) h = by_work t _ w.ends h.after (goes_then g (write_goes _ v.ends tt))
    go g Ends h = by_work t _ w.ends h.after (goes_then g (write_goes _ v.ends tt))

free_goes : (b : Bool) (parent : Site) (sub : Option Sub) (w : Work) (t : Turn) → is_up w parent.server ≡ true → NextsFree b parent sub w t → GoesOn w.ends t.work.ends
free_goes true parent sub w t up h = by_work t _ w.ends h (goes_same w.ends)
free_goes false parent sub w t up h = next_goes (next_walk parent.server parent.key sub w).walked parent.server parent.key sub w t up h

nexts_goes : (b : Bool) (parent : Site) (sub : Option Sub) (w : Work) (t : Turn) → is_up w parent.server ≡ b → NextsUp b parent sub w t → GoesOn w.ends t.work.ends
nexts_goes true parent sub w t up h =
    goes_then (same_goes w.ends (uses parent.server w).ends used_ends)
    (free_goes (has_own w parent.server) parent sub (uses parent.server w) t (ap (λ (s : Sofar). is_normal (end_at s.state parent.server).link) used_ends ∙ up) h)
  where
    used_ends : (uses parent.server w).ends ≡ w.ends
    used_ends = uses_ends (pair_session w.ends.state parent.server) parent.server w
nexts_goes false parent sub w t up h = by_work t _ w.ends h (state_goes parent.server w)

-- locks

ask_goes : (d : ℕ) (mode : Mode) (key : List ℕ) (w : Work) → is_up w d ≡ true → GoesOn w.ends (asks d mode key w).ends
ask_goes d mode key w up =
    go (goes_then (goes_by (Tickets d) w.ends tt) (note_goes d (Asks ((end_at w.ends.state d).ticket + 1) w.job.index mode key) (becomes d with_ticket w.ends) (λ s. tt) (stays_up (goes_by (Tickets d) w.ends tt) d up)))
  where
    v : Sofar
    v = sets d (with_ask ((end_at w.ends.state d).ticket + 1) w.job.index mode key) (becomes d with_ticket w.ends)

    go : GoesOn w.ends v → GoesOn w.ends (asks d mode key w).ends
    go g = goes_then g (put_goes d (ups.Ask ((end_at w.ends.state d).ticket + 1) w.job.index mode key) v tt tt (stays_up g d up))

-- a session in which something was found is there
found_there : {X : Type 0} (of : Session → List X) (test : X → Bool) (e : AppEnd) → of no_session ≡ [] → is_some (find test (of (session_of e))) ≡ true → is_some e.session ≡ true
found_there of test e empty found = go e.session found
  where
    go : (o : Option Session) → is_some (find test (of (unwrap_or o no_session))) ≡ true → is_some o ≡ true
    go None has = absurd (false≢true (ap (λ xs. is_some (find test xs)) (sym empty) ∙ has))
    go (Some s) has = refl

quits_goes : (o : Option Asked) (d : ℕ) (mode : Mode) (key : List ℕ) (w : Work) → (is_some o ≡ true → is_some (end_at w.ends.state d).session ≡ true)
    → IfSome o (λ a. PutOn (ups.Cancel a.ticket) (end_at w.ends.state d)) → GoesOn w.ends (quits_if o d mode key w).ends
quits_goes None d mode key w there put = goes_same w.ends
quits_goes (Some a) d mode key w there put =
    goes_then (write_goes (act.Quit w.job.index w.at.line d mode key) w.ends tt)
    (goes_by (Puts d (ups.Cancel a.ticket)) (writes (act.Quit w.job.index w.at.line d mode key) w.ends) (tt, inr (there refl), put))

-- the Ask that is given up was put
find_put : (job : ℕ) (xs : List Asked) → IfSome (find (is_ask_put_of job) xs) (λ a. list_any (is_put_with a.ticket) xs ≡ true)
find_put job [] = tt
find_put job (x ∷ xs) = go (is_ask_put_of job x) refl (find_put job xs)
  where
    here : is_ask_put_of job x ≡ true → list_any (is_put_with x.ticket) (x ∷ xs) ≡ true
    here is =
        ap (λ (b : Bool). b && x.ticket == x.ticket || list_any (is_put_with x.ticket) xs) (and_parts (x.job == job) x.put is).1
        ∙ ap (λ (b : Bool). b || list_any (is_put_with x.ticket) xs) (eq-eqb x.ticket x.ticket refl)

    more : (o : Option Asked) → IfSome o (λ a. list_any (is_put_with a.ticket) xs ≡ true) → IfSome o (λ a. list_any (is_put_with a.ticket) (x ∷ xs) ≡ true)
    more None is = tt
    more (Some a) is = or_right (is_put_with a.ticket x) (list_any (is_put_with a.ticket) xs) is
      where
        or_right : (a b : Bool) → b ≡ true → (a || b) ≡ true
        or_right true b is = refl
        or_right false b is = is

    go : (b : Bool) → is_ask_put_of job x ≡ b → IfSome (find (is_ask_put_of job) xs) (λ a. list_any (is_put_with a.ticket) xs ≡ true)
        → IfSome (if b then Some x else find (is_ask_put_of job) xs) (λ a. list_any (is_put_with a.ticket) (x ∷ xs) ≡ true)
    go true is rest = here is
    go false is rest = more (find (is_ask_put_of job) xs) rest

quits_put : (job : ℕ) (e : AppEnd) → IfSome (find (is_ask_put_of job) (session_of e).asks) (λ a. PutOn (ups.Cancel a.ticket) e)
quits_put job e = go e.session
  where
    go : (o : Option Session) → IfSome (find (is_ask_put_of job) (unwrap_or o no_session).asks) (λ a. IsSomeAnd o (λ s. list_any (is_put_with a.ticket) s.asks ≡ true))
    go None = tt
    go (Some s) = find_put job s.asks

quit_goes : (d : ℕ) (mode : Mode) (key : List ℕ) (w : Work) → GoesOn w.ends (quits d mode key w).ends
quit_goes d mode key w =
    quits_goes (find (is_ask_put_of w.job.index) (session_at w.ends.state d).asks) d mode key w
    (found_there (λ s. s.asks) (is_ask_put_of w.job.index) (end_at w.ends.state d) refl) (quits_put w.job.index (end_at w.ends.state d))

due_goes : (b : Bool) (d : ℕ) (mode : Mode) (key : List ℕ) (w : Work) → GoesOn w.ends (waits_grant b d mode key w).work.ends
due_goes true d mode key w = goes_then (quit_goes d mode key w) (write_goes _ (quits d mode key w).ends tt)
due_goes false d mode key w = goes_same w.ends

grant_goes : (o : Option ℕ) (d : ℕ) (mode : Mode) (key : List ℕ) (wait : Option ℕ) (now : ℕ) (w : Work) → GoesOn w.ends (by_grant o d mode key wait now w).work.ends
grant_goes (Some at) d mode key wait now w =
    goes_then (note_goes d (Holds w.job.index mode key at) w.ends (λ s. tt) tt) (write_goes _ (sets d (with_held w.job.index mode key at) w.ends) tt)
grant_goes None d mode key wait now w = due_goes (is_due wait w.at.first now) d mode key w

lock_goes : (o : Option Asked) (d : ℕ) (mode : Mode) (key : List ℕ) (wait : Option ℕ) (now : ℕ) (w : Work) → is_up w d ≡ true → GoesOn w.ends (locks_by o d mode key wait now w).work.ends
lock_goes None d mode key wait now w up = goes_then (ask_goes d mode key w up) (grant_goes None d mode key wait now (asks d mode key w))
lock_goes (Some a) d mode key wait now w up = grant_goes a.at d mode key wait now w

any_there : {X : Type 0} (of : Session → List X) (test : X → Bool) (e : AppEnd) → of no_session ≡ [] → list_any test (of (session_of e)) ≡ true → is_some e.session ≡ true
any_there of test e empty found = go e.session found
  where
    go : (o : Option Session) → list_any test (of (unwrap_or o no_session)) ≡ true → is_some o ≡ true
    go None has = absurd (false≢true (ap (λ xs. list_any test xs) (sym empty) ∙ has))
    go (Some s) has = refl

-- what is given up was held, so there is a session
gives_goes : (b : Bool) (d : ℕ) (mode : Mode) (key : List ℕ) (w : Work) → is_up w d ≡ true → holds_it w d mode key ≡ b → GoesOn w.ends (gives_up_if b d mode key w).ends
gives_goes true d mode key w up held =
    goes_then (goes_then (note_goes d (Lowers w.job.index mode key) w.ends (λ s. tt) tt) (write_goes (act.GiveUp w.job.index w.at.line d mode key) (sets d (without_held w.job.index mode key) w.ends) tt))
    (goes_by (Puts d (ups.Unlock w.job.index mode key)) (writes (act.GiveUp w.job.index w.at.line d mode key) (sets d (without_held w.job.index mode key) w.ends)) (tt, inr there, stays_up (note_goes d (Lowers w.job.index mode key) w.ends (λ s. tt) tt) d up))
  where
    there : is_some (end_at (sets d (without_held w.job.index mode key) w.ends).state d).session ≡ true
    there =
        session_stays d (without_held w.job.index mode key) w.ends
        (any_there (λ s. s.held) (is_lane w.job.index mode key) (end_at w.ends.state d) refl held)
gives_goes false d mode key w up held = goes_same w.ends

back_goes : (b : Bool) (d : ℕ) (mode : Mode) (key : List ℕ) (w : Work) → GoesOn w.ends (holds_back_if b d mode key w).ends
back_goes true d mode key w = goes_same w.ends
back_goes false d mode key w = goes_same w.ends

held_goes : (b : Bool) (d : ℕ) (mode : Mode) (key : List ℕ) (w : Work) → is_up w d ≡ true → GoesOn w.ends (unlocks_held b d mode key w).ends
held_goes true d mode key w up = gives_goes (holds_it w d mode key) d mode key w up refl
held_goes false d mode key w up = back_goes (holds_it w d mode key) d mode key w

-- transactions

put_by_end : (commits : Bool) (n job txn : ℕ) (wanted : Bool) → IsPutByJob (if commits then ups.Commit n job txn wanted else ups.Rollback n job txn)
put_by_end true n job txn wanted = tt
put_by_end false n job txn wanted = tt

no_cancel_by_end : (commits : Bool) (n job txn : ℕ) (wanted : Bool) → IsNoCancel (if commits then ups.Commit n job txn wanted else ups.Rollback n job txn)
no_cancel_by_end true n job txn wanted = tt
no_cancel_by_end false n job txn wanted = tt

item_by_end : (commits : Bool) (n job txn : ℕ) (wanted : Bool) → IsItem (if commits then ups.Commit n job txn wanted else ups.Rollback n job txn)
item_by_end true n job txn wanted = tt
item_by_end false n job txn wanted = tt

-- the data server of an unlock that was held back
abbrev server_back : HeldBack → ℕ
server_back h = h.server

-- the note of an end, by whether its answer is wanted
end_goes : (wanted : Bool) (d n job : ℕ) (a : Act) (m : Up) (b : Sofar) → IsOfJob a → IsItem m → IsPutByJob m → IsNoCancel m → is_normal (end_at b.state d).link ≡ true
    → GoesOn b (puts d m (sets d (λ s. end_notes wanted n m job (with_item n m job s)) (writes a b)))
end_goes true d n job a m b of_job item put keeps up = issue_goes d a m (QueuesOwed n m job) b of_job (λ s. tt) item put keeps up
end_goes false d n job a m b of_job item put keeps up = issue_goes d a m (Queues n m job) b of_job (λ s. tt) item put keeps up

-- all these connections are Normal
abbrev AreUp : List ℕ → Sofar → Type 0
AreUp ds b = AllByRecursion (λ d. is_normal (end_at b.state d).link ≡ true) ds

stay_up : {b c : Sofar} → GoesOn b c → (ds : List ℕ) → AreUp ds b → AreUp ds c
stay_up g [] up = tt
stay_up g (d ∷ ds) up = (stays_up g d up.0, stay_up g ds up.1)

one_end_goes : (how : HowEnded) (d : ℕ) (w : Work) → is_up w d ≡ true → GoesOn w.ends (puts_end how d w).ends
one_end_goes how d w up =
    end_goes how.wanted d (next_w w d) w.job.index (act.Issue w.job.index w.at.line d (next_w w d) (end_item how w.job.txn)) (end_message how (next_w w d) w.job.index w.job.txn) w.ends tt
    (item_by_end how.commits (next_w w d) w.job.index w.job.txn how.wanted) (put_by_end how.commits (next_w w d) w.job.index w.job.txn how.wanted)
    (no_cancel_by_end how.commits (next_w w d) w.job.index w.job.txn how.wanted) up

ends_go : (how : HowEnded) (ds : List ℕ) (w : Work) → AreUp ds w.ends → GoesOn w.ends (puts_ends how ds w).ends
ends_go how [] w up = goes_same w.ends
ends_go how (d ∷ ds) w up = go (one_end_goes how d w up.0) (ends_go how ds (puts_end how d w))
  where
    go : GoesOn w.ends (puts_end how d w).ends → (AreUp ds (puts_end how d w).ends → GoesOn (puts_end how d w).ends (puts_ends how (d ∷ ds) w).ends) → GoesOn w.ends (puts_ends how (d ∷ ds) w).ends
    go g rest = goes_then g (rest (stay_up g ds up.1))

backs_go : (hs : List HeldBack) (w : Work) → AreUp (map server_back hs) w.ends → GoesOn w.ends (unlocks_back hs w).ends
backs_go [] w up = goes_same w.ends
backs_go (h ∷ hs) w up =
    go (gives_goes (holds_it w h.server h.mode h.key) h.server h.mode h.key w up.0 refl)
    (backs_go hs (gives_up_if (holds_it w h.server h.mode h.key) h.server h.mode h.key w))
  where
    go : GoesOn w.ends (gives_up_if (holds_it w h.server h.mode h.key) h.server h.mode h.key w).ends
        → (AreUp (map server_back hs) (gives_up_if (holds_it w h.server h.mode h.key) h.server h.mode h.key w).ends
        → GoesOn (gives_up_if (holds_it w h.server h.mode h.key) h.server h.mode h.key w).ends (unlocks_back (h ∷ hs) w).ends)
        → GoesOn w.ends (unlocks_back (h ∷ hs) w).ends
    go g rest = goes_then g (rest (stay_up g (map server_back hs) up.1))

are_up_all : (us : List Updated) (w : Work) → list_all (is_up_at w) us ≡ true → AreUp (map server_in us) w.ends
are_up_all [] w up = tt
are_up_all (u ∷ us) w up = ((and_parts (is_up_at w u) (list_all (is_up_at w) us) up).0, are_up_all us w (and_parts (is_up_at w u) (list_all (is_up_at w) us) up).1)

are_up_back : (hs : List HeldBack) (w : Work) → list_all (is_up_back w) hs ≡ true → AreUp (map server_back hs) w.ends
are_up_back [] w up = tt
are_up_back (h ∷ hs) w up = ((and_parts (is_up_back w h) (list_all (is_up_back w) hs) up).0, are_up_back hs w (and_parts (is_up_back w h) (list_all (is_up_back w) hs) up).1)

txn_goes : (how : HowEnded) (alive : List Updated) (backs : List HeldBack) (w : Work) → AreUp (map server_in alive) w.ends → AreUp (map server_back backs) w.ends
    → GoesOn w.ends (ends_txn how alive backs w).ends
txn_goes how alive backs w up back =
    goes_then (both (ends_go how (map server_in alive) (in_progress (begins_ends w.job.updates) w) up))
    (write_goes _ (unlocks_back backs (puts_ends how (map server_in alive) (in_progress (begins_ends w.job.updates) w))).ends tt)
  where
    v : Work
    v = puts_ends how (map server_in alive) (in_progress (begins_ends w.job.updates) w)

    both : GoesOn w.ends v.ends → GoesOn w.ends (unlocks_back backs v).ends
    both g = goes_then g (backs_go backs v (stay_up g (map server_back backs) back))

awaits_goes : (b : Bool) (w : Work) → GoesOn w.ends (awaits_put b w).work.ends
awaits_goes true w = goes_same w.ends
awaits_goes false w = goes_same w.ends

after_goes : (us : List Updated) (how : HowEnded) (w : Work) → GoesOn w.ends (after_put us how w).work.ends
after_goes [] how w = write_goes _ w.ends tt
after_goes (u ∷ us) how w = awaits_goes how.wanted w

when_goes : (are room : Bool) (how : HowEnded) (w : Work) → are_up w ≡ are → GoesOn w.ends (ends_when are room how w).work.ends
when_goes false room how w up = goes_same w.ends
when_goes true false how w up = goes_same w.ends
when_goes true true how w up =
    goes_then (txn_goes how (living w) (living_backs w) w (are_up_all (living w) w (and_parts (list_all (is_up_at w) (living w)) (list_all (is_up_back w) (living_backs w)) up).0)
    (are_up_back (living_backs w) w (and_parts (list_all (is_up_at w) (living w)) (list_all (is_up_back w) (living_backs w)) up).1))
    (after_goes (living w) how (ends_txn how (living w) (living_backs w) w))

end_act_is : (commits : Bool) (job line d at : ℕ) → IsOfJob (if commits then act.Committed job line d at else act.RolledBack job line d at)
end_act_is true job line d at = tt
end_act_is false job line d at = tt

writes_go : (how : HowEnded) (es : List Ended) (w : Work) → GoesOn w.ends (writes_ends how es w).ends
writes_go how [] w = goes_same w.ends
writes_go how (e ∷ es) w = goes_then (write_goes _ w.ends (end_act_is how.commits w.job.index w.at.line e.server _)) (writes_go how es _)

answers_go : (b : Bool) (how : HowEnded) (es : List Ended) (w : Work) → GoesOn w.ends (answers_ends b how es w).work.ends
answers_go true how es w = writes_go how es w
answers_go false how es w = goes_same w.ends

hears_go : (b : Bool) (how : HowEnded) (es : List Ended) (w : Work) → GoesOn w.ends (hears_ends b how es w).work.ends
hears_go true how es w = answers_go (list_all (is_told_end w) es) how es w
hears_go false how es w = goes_same w.ends

awaits_go : (b : Bool) (how : HowEnded) (es : List Ended) (w : Work) → GoesOn w.ends (awaits_ends b how es w).work.ends
awaits_go true how es w = hears_go (list_all (is_up_end w) es) how es w
awaits_go false how es w = goes_same w.ends

by_ends_goes : (o : Option (List Ended)) (how : HowEnded) (w : Work) → GoesOn w.ends (ends_by o how w).work.ends
by_ends_goes None how w = when_goes (are_up w) (list_all (has_room w) (living w)) how w refl
by_ends_goes (Some []) how w = write_goes _ w.ends tt
by_ends_goes (Some (e ∷ es)) how w = awaits_go how.wanted how (e ∷ es) w

commit_goes : (b sync : Bool) (w : Work) → GoesOn w.ends (commit_at b sync w).work.ends
commit_goes true sync w = goes_then (write_goes _ w.ends tt) (write_goes _ (levels (w.job.level - 1) w).ends tt)
commit_goes false sync w = by_ends_goes w.at.ends _ w

syncs_go : (d : ℕ) (w : Work) → is_up w d ≡ true → GoesOn w.ends (syncs d w).ends
syncs_go d w up =
    go (goes_then (goes_by (Tickets d) w.ends tt) (note_goes d (Syncs ((end_at w.ends.state d).ticket + 1) w.job.index) (becomes d with_ticket w.ends) (λ s. tt) tt))
  where
    v : Sofar
    v = sets d (with_sync ((end_at w.ends.state d).ticket + 1) w.job.index) (becomes d with_ticket w.ends)

    go : GoesOn w.ends v → GoesOn w.ends (syncs d w).ends
    go g = goes_then g (put_goes d (ups.Sync ((end_at w.ends.state d).ticket + 1)) v tt tt (stays_up g d up))

synced_goes : (o : Option ℕ) (d : ℕ) (w : Work) → GoesOn w.ends (by_synced o d w).work.ends
synced_goes None d w = goes_same w.ends
synced_goes (Some at) d w = goes_then (write_goes _ w.ends tt) (write_goes _ (writes (act.Reached w.job.index w.at.line d at) w.ends) tt)

sync_goes : (o : Option Syncing) (d : ℕ) (w : Work) → is_up w d ≡ true → GoesOn w.ends (by_sync o d w).work.ends
sync_goes None d w up = own_goes (has_own w d) _ w (syncs_go d w up)
sync_goes (Some a) d w up = synced_goes a.at d w

-- refusals

quits_command_goes : (command : Command) (w : Work) → GoesOn w.ends (quits_command command w).ends
quits_command_goes (Set at value) w = goes_same w.ends
quits_command_goes (Kill at) w = goes_same w.ends
quits_command_goes (Get at) w = goes_same w.ends
quits_command_goes (Shape at) w = goes_same w.ends
quits_command_goes (Next parent sub) w = goes_same w.ends
quits_command_goes (Incr at amount) w = goes_same w.ends
quits_command_goes (Lock at mode wait) w = quit_goes at.server mode at.key w
quits_command_goes (Unlock at mode now) w = goes_same w.ends
quits_command_goes Start w = goes_same w.ends
quits_command_goes (Commit sync) w = goes_same w.ends
quits_command_goes Rollback w = goes_same w.ends
quits_command_goes (Sync server) w = goes_same w.ends

refused_goes : (r : Refusal) (command : Command) (w : Work) → GoesOn w.ends (refused r command w).ends
refused_goes (refusals.Network d state reason) command w = write_goes _ w.ends tt
refused_goes refusals.RollbackOnly command w = goes_then (quits_command_goes command w) (write_goes _ (quits_command command w).ends tt)
refused_goes (refusals.NotWhole at) command w = goes_same w.ends
refused_goes (refusals.Range at) command w = goes_same w.ends
refused_goes refusals.NoTransaction command w = write_goes _ w.ends tt
refused_goes refusals.TooDeep command w = write_goes _ w.ends tt
refused_goes refusals.LockTimeout command w = write_goes _ w.ends tt

-- commands

change_goes : (d : ℕ) (op : Op) (w : Work) → GoesOn w.ends (changes d op w).work.ends
change_goes d op w = normal_goes (is_up w d) d (λ v. unless_full (is_full v d) (queues d op) v) w refl (λ v up. full_goes (is_full v d) (queues d op) v (queue_goes d op v up))

does_go : (command : Command) (now : ℕ) (w : Work) (t : Turn) → Does command now w t → GoesOn w.ends t.work.ends
does_go (Set at value) now w t h = by_work t _ w.ends h (change_goes at.server (ops.Set at.key value) w)
does_go (Kill at) now w t h = by_work t _ w.ends h (change_goes at.server (ops.Kill at.key) w)
does_go (Get at) now w t h =
    by_work t _ w.ends h
    (normal_goes (is_up w at.server) at.server (λ v. gets_own (touches_own (own_ops v at.server) at.key) at.server at.key v) w refl
    (λ v up. get_goes (touches_own (own_ops v at.server) at.key) at.server at.key v up))
does_go (Shape at) now w t h =
    by_work t _ w.ends h
    (normal_goes (is_up w at.server) at.server (λ v. unless_own (has_own v at.server) (shapes_now at.server at.key) v) w refl
    (λ v up. own_goes (has_own v at.server) (shapes_now at.server at.key) v (shape_goes at.server at.key v up)))
does_go (Next parent sub) now w t h = nexts_goes (is_up w parent.server) parent sub w t refl h
does_go (Incr at amount) now w t h =
    by_work t _ w.ends h
    (normal_goes (is_up w at.server) at.server (λ v. adds_by v.at.added at.server at.key amount v) w refl (λ v up. adds_goes v.at.added at.server at.key amount v up))
does_go (Lock at mode wait) now w t h =
    by_work t _ w.ends h
    (normal_goes (is_up w at.server) at.server (locks_now at.server mode at.key wait now) w refl (λ v up. lock_goes (ask_of_job v at.server) at.server mode at.key wait now v up))
does_go (Unlock at mode at_once) now w t h =
    by_work t _ w.ends h
    (up_goes (is_up w at.server) at.server _ w refl
    (λ v up. goes_then (held_goes (if at_once then true else v.job.level == 0) at.server mode at.key v up) (write_goes _ (unlocks_held (if at_once then true else v.job.level == 0) at.server mode at.key v).ends tt)))
does_go Start now w t h = by_work t _ w.ends h (goes_then (write_goes _ w.ends tt) (write_goes _ (levels (w.job.level + 1) (in_job with_txn w)).ends tt))
does_go (Commit sync) now w t h = by_work t _ w.ends h (commit_goes (is_inner w) sync w)
does_go Rollback now w t h = by_work t _ w.ends h (by_ends_goes w.at.ends _ w)
does_go (Sync server) now w t h =
    by_work t _ w.ends h
    (normal_goes (is_up w server) server (λ v. by_sync (sync_of_job v server) server v) w refl (λ v up. sync_goes (sync_of_job v server) server v up))

turns_go : (r : Option Refusal) (command : Command) (now : ℕ) (w : Work) (t : Turn) → Turns r command now w t → GoesOn w.ends t.work.ends
turns_go (Some r) command now w t h = by_work t _ w.ends h (refused_goes r command w)
turns_go None command now w t h = does_go command now w t h

left_goes : (job : ℕ) (ds : List ℕ) (b : Sofar) → GoesOn b (left_at job ds b)
left_goes job [] b = goes_same b
left_goes job (d ∷ ds) b = goes_then (note_goes d (Leaves job) b (λ s. tt) tt) (left_goes job ds (sets d (left_by job) b))

over_goes : (b : Bool) (w : Work) → GoesOn w.ends (kept b w).ends
over_goes true w = goes_same w.ends
over_goes false w = left_goes w.job.index (range_with_len 0 (length w.ends.state.ends)) w.ends

-- Each step of a job.
pub job_goes : (a new : AppState) (j job : JobState) (now line : ℕ) (command : Command) (answer : Answer) (outs : AppOuts)
    → JobStep a j now line command answer outs new job → GoesOn (begun a) (made new outs)
job_goes a new j job now line command answer outs h =
    subst (λ (o : AppOuts). GoesOn (begun a) (made new o)) (sym h.puts)
    (subst (λ (s : AppState). GoesOn (begun a) (made s (ended h.turn).ends.outs)) (sym h.app)
    (goes_then (turns_go (refusal_of command a j (work_of a j now line).at) command now (work_of a j now line) h.turn h.turns) (over_goes (is_waiting h.turn.answer) h.turn.work)))
