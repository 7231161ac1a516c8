-- A command that isn't refused waits with the first of its reasons that holds.
use Rattle.std.proofs.Common.{◌≡◌, ℕ, Bool, true, false, not, ◌&&◌, List, [], ◌∷◌, refl, sym, subst, Option, Some, None, is_some, if◌then◌else◌, map, ℤ}
use Rattle.std.specs.List.{find, list_all}
use Rattle.subscript_keys.specs.declared.run.Run.{Run}
use Rattle.subscript_keys.specs.declared.sub.Sub.{Sub}
use Rattle.subscript_keys.specs.Span.{span_hi}
use Rattle.plain_orders.specs.declared.mode.Mode.{Mode}
use Rattle.plain_orders.specs.declared.op.Op.{Op}
use Rattle.plain_orders.specs.declared.op.Op.TheVariants as ops
use Rattle.plain_orders.specs.Own.{touches_own}
use Rattle.ecp_messages.specs.declared.about.About.{About}
use Rattle.ecp_messages.specs.declared.about.About.TheVariants.{Counted, NotWhole, Range, Committed, RolledBack, Synced}
use Rattle.app_job.specs.Sites.{Site}
use Rattle.app_job.specs.declared.command.Command.{Command}
use Rattle.app_job.specs.declared.command.Command.TheVariants.{Set, Kill, Get, Shape, Next, Incr, Lock, Unlock, Start, Commit, Rollback, Sync}
use Rattle.app_job.specs.declared.refusal.Refusal.{Refusal}
use Rattle.app_job.specs.declared.answer.Answer.TheVariants as answers
use Rattle.app_job.specs.declared.why.Why.{Why}
use Rattle.app_job.specs.declared.why.Why.TheVariants as why
use Rattle.end_words.specs.Runs.{covers}
use Rattle.app_rules.specs.declared.session_parts.Asked.{Asked}
use Rattle.app_rules.specs.declared.session_parts.Ended.{Ended}
use Rattle.app_rules.specs.declared.session_parts.Syncing.{Syncing}
use Rattle.app_rules.specs.declared.session_parts.Told.{Told}
use Rattle.app_rules.specs.declared.session_parts.Updated.{Updated}
use Rattle.app_rules.specs.JobState.{Work, Turn}
use Rattle.app_rules.specs.Refusing.{refusal_of}
use Rattle.app_rules.specs.Issuing.{at_normal, at_up, is_up, is_full, has_own, own_ops, pair_session, queues, changes, unless_full, unless_own, uses_if, waits, adds, adds_by, increments, says_sum, says_told, told_at}
use Rattle.app_rules.specs.Reading.{Walk, Walked, walks, holds_below, cache_of, has_value, get_turn, gets_own, gets_from, shape_turn, shapes_now, shapes_walked, caches, next_walk, NextsWalked}
use Rattle.app_rules.specs.Reading.Walked.{Needs, Finds, Ends}
use Rattle.app_rules.specs.Locking.{asks, by_grant, waits_grant, is_due, ask_of_job, locks_by, locks_now, lock_turn}
use Rattle.app_rules.specs.Ending.{HowEnded, living, living_backs, has_room, are_up, ends_txn, ends_when, ends_by, by_ends, after_put, awaits_put, awaits_ends, hears_ends, answers_ends, is_up_end, is_told_end, is_inner, commit_at, sync_of_job, by_sync, by_synced, sync_turn, syncs, place_of}
use Rattle.app_rules.specs.JobStep.{NextsFree, NextsUp, Does, Turns, is_waiting, work_of}
use Rattle.app_rules.specs.Waiting.{WaitReason, WaitsFor, WaitsForTheFirst, first_why, off, full, own, unread, needs_node, needs_key, shape_needs, next_needs, is_granted, ungranted, unanswered, is_sum, is_sum_told, incr_why, any_off, any_full, is_awaited, put_why, end_why, sync_why, why_of}

state_waits : (up : Bool) (d : ℕ) (f : Work → Turn) (w : Work) (rest : List WaitReason) → ((o : Option ℕ) → WaitsFor (first_why rest) (f (uses_if o d w)).answer)
    → WaitsFor (first_why (record { holds = not up; why = why.State } ∷ rest)) (at_normal up d f w).answer
state_waits true d f w rest h = h (pair_session w.ends.state d)
state_waits false d f w rest h = refl

full_waits : (b : Bool) (f : Work → Turn) (v : Work) (rest : List WaitReason) → WaitsFor (first_why rest) (f v).answer
    → WaitsFor (first_why (record { holds = b; why = why.Queue } ∷ rest)) (unless_full b f v).answer
full_waits true f v rest h = refl
full_waits false f v rest h = h

own_waits : (b : Bool) (f : Work → Turn) (v : Work) (rest : List WaitReason) → WaitsFor (first_why rest) (f v).answer
    → WaitsFor (first_why (record { holds = b; why = why.Own } ∷ rest)) (unless_own b f v).answer
own_waits true f v rest h = refl
own_waits false f v rest h = h

change_waits : (d : ℕ) (op : Op) (w : Work) → WaitsFor (first_why (off w d ∷ full w d ∷ [])) (changes d op w).answer
change_waits d op w = state_waits (is_up w d) d (λ v. unless_full (is_full v d) (queues d op) v) w (full w d ∷ []) by
  where
    by : (o : Option ℕ) → WaitsFor (first_why (full w d ∷ [])) (unless_full (is_full (uses_if o d w) d) (queues d op) (uses_if o d w)).answer
    by None = full_waits (is_full w d) (queues d op) w [] refl
    by (Some s) = full_waits (is_full w d) (queues d op) (uses_if (Some s) d w) [] refl

gets_from_waits : (o : Option Run) (d : ℕ) (key : List ℕ) (v : Work) → WaitsFor (first_why (unread (not (is_some o)) ∷ [])) (gets_from o d key v).answer
gets_from_waits None d key v = refl
gets_from_waits (Some run) d key v = refl

gets_waits : (t : Bool) (d : ℕ) (key : List ℕ) (v : Work) → WaitsFor (first_why (unread (not t && not (is_some (find (covers key) (cache_of v d)))) ∷ [])) (gets_own t d key v).answer
gets_waits true d key v = refl
gets_waits false d key v = gets_from_waits (find (covers key) (cache_of v d)) d key v

get_waits : (at : Site) (w : Work) → WaitsFor (first_why (off w at.server ∷ unread (needs_node w at.server at.key) ∷ [])) (get_turn at w).answer
get_waits at w =
    state_waits (is_up w at.server) at.server (λ v. gets_own (touches_own (own_ops v at.server) at.key) at.server at.key v) w
    (unread (needs_node w at.server at.key) ∷ []) by
  where
    by : (o : Option ℕ) → WaitsFor (first_why (unread (needs_node w at.server at.key) ∷ []))
        (gets_own (touches_own (own_ops (uses_if o at.server w) at.server) at.key) at.server at.key (uses_if o at.server w)).answer
    by None = gets_waits (touches_own (own_ops w at.server) at.key) at.server at.key w
    by (Some s) = gets_waits (touches_own (own_ops w at.server) at.key) at.server at.key (uses_if (Some s) at.server w)

walked_waits : (k : Walked) (d : ℕ) (key : List ℕ) (value : Bool) (v : Work) → WaitsFor (first_why (unread (needs_key k) ∷ [])) (shapes_walked k d key value v).answer
walked_waits (Needs needed) d key value v = refl
walked_waits (Finds run) d key value v = refl
walked_waits Ends d key value v = refl

shape_waits_at : (at : Site) (v : Work) → WaitsFor (first_why (own v at.server ∷ unread (shape_needs v at.server at.key) ∷ [])) (unless_own (has_own v at.server) (shapes_now at.server at.key) v).answer
shape_waits_at at v =
    own_waits (has_own v at.server) (shapes_now at.server at.key) v (unread (shape_needs v at.server at.key) ∷ [])
    (walked_waits (walks (holds_below at.key) (span_hi at.key) at.key (cache_of v at.server)).walked at.server at.key (has_value (cache_of v at.server) at.key)
    (caches at.server (walks (holds_below at.key) (span_hi at.key) at.key (cache_of v at.server)).cache v))

shape_waits : (at : Site) (w : Work) → WaitsFor (first_why (off w at.server ∷ own w at.server ∷ unread (shape_needs w at.server at.key) ∷ [])) (shape_turn at w).answer
shape_waits at w =
    state_waits (is_up w at.server) at.server (λ v. unless_own (has_own v at.server) (shapes_now at.server at.key) v) w
    (own w at.server ∷ unread (shape_needs w at.server at.key) ∷ []) by
  where
    by : (o : Option ℕ) → WaitsFor (first_why (own w at.server ∷ unread (shape_needs w at.server at.key) ∷ []))
        (unless_own (has_own (uses_if o at.server w) at.server) (shapes_now at.server at.key) (uses_if o at.server w)).answer
    by None = shape_waits_at at w
    by (Some s) = shape_waits_at at (uses_if (Some s) at.server w)

it_waits : (o : Option Why) (t u : Turn) → t ≡ u → WaitsFor o u.answer → WaitsFor o t.answer
it_waits o t u e h = subst (λ x. WaitsFor o x.answer) (sym e) h

nexts_waits : (k : Walked) (x : Walk) (d : ℕ) (parent : List ℕ) (sub : Option Sub) (v : Work) (t : Turn) → NextsWalked k x d parent sub v t → WaitsFor (first_why (unread (needs_key k) ∷ [])) t.answer
nexts_waits (Needs needed) x d parent sub v t h = it_waits (Some why.Fetch) t _ h refl
nexts_waits (Finds run) x d parent sub v t h = it_waits None t _ h.after refl
nexts_waits Ends x d parent sub v t h = it_waits None t _ h.after refl

free_waits : (b : Bool) (parent : Site) (sub : Option Sub) (v : Work) (t : Turn) → NextsFree b parent sub v t
    → WaitsFor (first_why (record { holds = b; why = why.Own } ∷ unread (next_needs v parent.server parent.key sub) ∷ [])) t.answer
free_waits true parent sub v t h = it_waits (Some why.Own) t _ h refl
free_waits false parent sub v t h =
    nexts_waits (next_walk parent.server parent.key sub v).walked (next_walk parent.server parent.key sub v) parent.server parent.key sub v t h

next_waits : (up : Bool) (parent : Site) (sub : Option Sub) (w : Work) (t : Turn) → NextsUp up parent sub w t
    → WaitsFor (first_why (record { holds = not up; why = why.State } ∷ own w parent.server ∷ unread (next_needs w parent.server parent.key sub) ∷ [])) t.answer
next_waits true parent sub w t h = by (pair_session w.ends.state parent.server) h
  where
    by : (o : Option ℕ) → NextsFree (has_own w parent.server) parent sub (uses_if o parent.server w) t
        → WaitsFor (first_why (own w parent.server ∷ unread (next_needs w parent.server parent.key sub) ∷ [])) t.answer
    by None x = free_waits (has_own w parent.server) parent sub w t x
    by (Some s) x = free_waits (has_own w parent.server) parent sub (uses_if (Some s) parent.server w) t x
next_waits false parent sub w t h = it_waits (Some why.State) t _ h refl

sum_waits : (m : About) (d at : ℕ) (sum : ℤ) (v : Work) → WaitsFor (first_why (unanswered (is_sum m) ∷ [])) (says_sum m d at sum v).answer
sum_waits Counted d at sum v = refl
sum_waits NotWhole d at sum v = refl
sum_waits Range d at sum v = refl
sum_waits Committed d at sum v = refl
sum_waits RolledBack d at sum v = refl
sum_waits Synced d at sum v = refl

told_waits : (o : Option Told) (d : ℕ) (v : Work) → WaitsFor (first_why (unanswered (is_sum_told o) ∷ [])) (says_told o d v).answer
told_waits None d v = refl
told_waits (Some t) d v = sum_waits t.about d t.at t.sum v

adds_waits : (d : ℕ) (key : List ℕ) (amount : ℤ) (v : Work) → WaitsFor (first_why (full v d ∷ own v d ∷ unanswered false ∷ [])) (adds_by None d key amount v).answer
adds_waits d key amount v =
    full_waits (is_full v d) (λ u. unless_own (has_own u d) (λ x. waits why.Reply (adds d key amount x)) u) v (own v d ∷ unanswered false ∷ [])
    (own_waits (has_own v d) (λ x. waits why.Reply (adds d key amount x)) v (unanswered false ∷ []) refl)

added_waits : (added : Option ℕ) (d : ℕ) (key : List ℕ) (amount : ℤ) (w : Work) → w.at.added ≡ added → WaitsFor (incr_why added w d) (increments d key amount w).answer
added_waits None d key amount w e =
    state_waits (is_up w d) d (λ v. adds_by v.at.added d key amount v) w (full w d ∷ own w d ∷ unanswered false ∷ []) by
  where
    by : (o : Option ℕ) → WaitsFor (first_why (full w d ∷ own w d ∷ unanswered false ∷ [])) (adds_by (uses_if o d w).at.added d key amount (uses_if o d w)).answer
    by None = subst (λ x. WaitsFor (first_why (full w d ∷ own w d ∷ unanswered false ∷ [])) (adds_by x d key amount w).answer) (sym e) (adds_waits d key amount w)
    by (Some s) =
        subst (λ x. WaitsFor (first_why (full w d ∷ own w d ∷ unanswered false ∷ [])) (adds_by x d key amount (uses_if (Some s) d w)).answer) (sym e)
        (adds_waits d key amount (uses_if (Some s) d w))
added_waits (Some n) d key amount w e =
    state_waits (is_up w d) d (λ v. adds_by v.at.added d key amount v) w (unanswered (is_sum_told (told_at w d n)) ∷ []) by
  where
    by : (o : Option ℕ) → WaitsFor (first_why (unanswered (is_sum_told (told_at w d n)) ∷ [])) (adds_by (uses_if o d w).at.added d key amount (uses_if o d w)).answer
    by None = subst (λ x. WaitsFor (first_why (unanswered (is_sum_told (told_at w d n)) ∷ [])) (adds_by x d key amount w).answer) (sym e) (told_waits (told_at w d n) d w)
    by (Some s) =
        subst (λ x. WaitsFor (first_why (unanswered (is_sum_told (told_at w d n)) ∷ [])) (adds_by x d key amount (uses_if (Some s) d w)).answer) (sym e)
        (told_waits (told_at w d n) d (uses_if (Some s) d w))

grant_waits : (o : Option ℕ) (due : Bool) (d : ℕ) (mode : Mode) (key : List ℕ) (wait : Option ℕ) (now : ℕ) (v : Work) → is_due wait v.at.first now ≡ due
    → WaitsFor (first_why (record { holds = not (is_some o) && not due; why = why.Grant } ∷ [])) (by_grant o d mode key wait now v).answer
grant_waits (Some at) due d mode key wait now v e = refl
grant_waits None true d mode key wait now v e = subst (λ b. WaitsFor None (waits_grant b d mode key v).answer) (sym e) refl
grant_waits None false d mode key wait now v e = subst (λ b. WaitsFor (Some why.Grant) (waits_grant b d mode key v).answer) (sym e) refl

ask_waits : (o : Option Asked) (d : ℕ) (mode : Mode) (key : List ℕ) (wait : Option ℕ) (now : ℕ) (v : Work)
    → WaitsFor (first_why (record { holds = not (is_granted o) && not (is_due wait v.at.first now); why = why.Grant } ∷ [])) (locks_by o d mode key wait now v).answer
ask_waits None d mode key wait now v = grant_waits None (is_due wait v.at.first now) d mode key wait now (asks d mode key v) refl
ask_waits (Some a) d mode key wait now v = grant_waits a.at (is_due wait v.at.first now) d mode key wait now v refl

lock_waits : (at : Site) (mode : Mode) (wait : Option ℕ) (now : ℕ) (w : Work) → WaitsFor (first_why (off w at.server ∷ ungranted w at.server wait now ∷ [])) (lock_turn at mode wait now w).answer
lock_waits at mode wait now w =
    state_waits (is_up w at.server) at.server (locks_now at.server mode at.key wait now) w (ungranted w at.server wait now ∷ []) by
  where
    by : (o : Option ℕ) → WaitsFor (first_why (ungranted w at.server wait now ∷ [])) (locks_now at.server mode at.key wait now (uses_if o at.server w)).answer
    by None = ask_waits (ask_of_job w at.server) at.server mode at.key wait now w
    by (Some s) = ask_waits (ask_of_job w at.server) at.server mode at.key wait now (uses_if (Some s) at.server w)

up_waits : (up : Bool) (d : ℕ) (f : Work → Turn) (w : Work) → WaitsFor None (f w).answer → WaitsFor (first_why (record { holds = not up; why = why.State } ∷ [])) (at_up up d f w).answer
up_waits true d f w h = h
up_waits false d f w h = refl

hears_waits : (up told : Bool) (es : List Ended) (how : HowEnded) (w : Work) → list_all (is_told_end w) es ≡ told
    → WaitsFor (first_why (any_off up ∷ unanswered told ∷ [])) (hears_ends up how es w).answer
hears_waits false told es how w e = refl
hears_waits true true es how w e = subst (λ b. WaitsFor None (answers_ends b how es w).answer) (sym e) (end_is_over how es)
  where
    end_is_over : (how : HowEnded) (es : List Ended) → WaitsFor None (answers_ends true how es w).answer
    end_is_over h xs = over h.commits
      where
        over : (b : Bool) → is_waiting (if b then answers.Committed (map (place_of w) xs) else answers.RolledBack (map (place_of w) xs)) ≡ false
        over true = refl
        over false = refl
hears_waits true false es how w e = subst (λ b. WaitsFor (Some why.Reply) (answers_ends b how es w).answer) (sym e) refl

put_waits : (es : List Ended) (wanted : Bool) (how : HowEnded) (w : Work) → how.wanted ≡ wanted → WaitsFor (put_why es wanted w) (by_ends es how w).answer
put_waits [] wanted how w e = refl
put_waits (x ∷ es) true how w e =
    subst (λ b. WaitsFor (put_why (x ∷ es) true w) (awaits_ends b how (x ∷ es) w).answer) (sym e)
    (hears_waits (list_all (is_up_end w) (x ∷ es)) (list_all (is_told_end w) (x ∷ es)) (x ∷ es) how w refl)
put_waits (x ∷ es) false how w e = subst (λ b. WaitsFor None (awaits_ends b how (x ∷ es) w).answer) (sym e) refl

after_put_waits : (us : List Updated) (wanted : Bool) (how : HowEnded) (v : Work) → how.wanted ≡ wanted
    → WaitsFor (first_why (unanswered (not (is_awaited wanted us)) ∷ [])) (after_put us how v).answer
after_put_waits [] wanted how v e = refl
after_put_waits (u ∷ us) true how v e = subst (λ b. WaitsFor (Some why.Reply) (awaits_put b v).answer) (sym e) refl
after_put_waits (u ∷ us) false how v e = subst (λ b. WaitsFor None (awaits_put b v).answer) (sym e) refl

when_waits : (up room : Bool) (how : HowEnded) (w : Work)
    → WaitsFor (first_why (any_off up ∷ any_full room ∷ unanswered (not (is_awaited how.wanted (living w))) ∷ [])) (ends_when up room how w).answer
when_waits false room how w = refl
when_waits true false how w = refl
when_waits true true how w = after_put_waits (living w) how.wanted how (ends_txn how (living w) (living_backs w) w) refl

end_waits : (o : Option (List Ended)) (how : HowEnded) (w : Work) → WaitsFor (end_why o how w) (ends_by o how w).answer
end_waits None how w = when_waits (are_up w) (list_all (has_room w) (living w)) how w
end_waits (Some es) how w = put_waits es how.wanted how w refl

commit_waits : (inner : Bool) (sync : Bool) (w : Work)
    → WaitsFor (if inner then None else end_why w.at.ends (record { commits = true; wanted = sync }) w) (commit_at inner sync w).answer
commit_waits true sync w = refl
commit_waits false sync w = end_waits w.at.ends (record { commits = true; wanted = sync }) w

synced_waits : (o : Option ℕ) (d : ℕ) (v : Work) → WaitsFor (first_why (unanswered (is_some o) ∷ [])) (by_synced o d v).answer
synced_waits None d v = refl
synced_waits (Some at) d v = refl

by_sync_waits : (o : Option Syncing) (d : ℕ) (w : Work) → sync_of_job w d ≡ o → WaitsFor (sync_why o w d) (sync_turn d w).answer
by_sync_waits None d w e = state_waits (is_up w d) d (λ v. by_sync (sync_of_job v d) d v) w (own w d ∷ unanswered false ∷ []) by
  where
    at : (v : Work) → WaitsFor (first_why (own v d ∷ unanswered false ∷ [])) (by_sync None d v).answer
    at v = own_waits (has_own v d) (λ x. waits why.Reply (syncs d x)) v (unanswered false ∷ []) refl

    by : (o : Option ℕ) → WaitsFor (first_why (own w d ∷ unanswered false ∷ [])) (by_sync (sync_of_job (uses_if o d w) d) d (uses_if o d w)).answer
    by None = subst (λ x. WaitsFor (first_why (own w d ∷ unanswered false ∷ [])) (by_sync x d w).answer) (sym e) (at w)
    by (Some s) = subst (λ x. WaitsFor (first_why (own w d ∷ unanswered false ∷ [])) (by_sync x d (uses_if (Some s) d w)).answer) (sym e) (at (uses_if (Some s) d w))
by_sync_waits (Some a) d w e = state_waits (is_up w d) d (λ v. by_sync (sync_of_job v d) d v) w (unanswered (is_some a.at) ∷ []) by
  where
    by : (o : Option ℕ) → WaitsFor (first_why (unanswered (is_some a.at) ∷ [])) (by_sync (sync_of_job (uses_if o d w) d) d (uses_if o d w)).answer
    by None = subst (λ x. WaitsFor (first_why (unanswered (is_some a.at) ∷ [])) (by_sync x d w).answer) (sym e) (synced_waits a.at d w)
    by (Some s) =
        subst (λ x. WaitsFor (first_why (unanswered (is_some a.at) ∷ [])) (by_sync x d (uses_if (Some s) d w)).answer) (sym e) (synced_waits a.at d (uses_if (Some s) d w))

does_waits : (command : Command) (now : ℕ) (w : Work) (t : Turn) → Does command now w t → WaitsFor (why_of command now w) t.answer
does_waits (Set at value) now w t h = it_waits (why_of (Set at value) now w) t _ h (change_waits at.server (ops.Set at.key value) w)
does_waits (Kill at) now w t h = it_waits (why_of (Kill at) now w) t _ h (change_waits at.server (ops.Kill at.key) w)
does_waits (Get at) now w t h = it_waits (why_of (Get at) now w) t _ h (get_waits at w)
does_waits (Shape at) now w t h = it_waits (why_of (Shape at) now w) t _ h (shape_waits at w)
does_waits (Next parent sub) now w t h = next_waits (is_up w parent.server) parent sub w t h
does_waits (Incr at amount) now w t h = it_waits (why_of (Incr at amount) now w) t _ h (added_waits w.at.added at.server at.key amount w refl)
does_waits (Lock at mode wait) now w t h = it_waits (why_of (Lock at mode wait) now w) t _ h (lock_waits at mode wait now w)
does_waits (Unlock at mode at_once) now w t h = it_waits (why_of (Unlock at mode at_once) now w) t _ h (up_waits (is_up w at.server) at.server _ w refl)
does_waits Start now w t h = it_waits None t _ h refl
does_waits (Commit sync) now w t h = it_waits (why_of (Commit sync) now w) t _ h (commit_waits (is_inner w) sync w)
does_waits Rollback now w t h = it_waits (why_of Rollback now w) t _ h (end_waits w.at.ends (record { commits = false; wanted = true }) w)
does_waits (Sync server) now w t h = it_waits (why_of (Sync server) now w) t _ h (by_sync_waits (sync_of_job w server) server w refl)

turns_waits : (r : Option Refusal) (command : Command) (now : ℕ) (w : Work) (t : Turn) → Turns r command now w t → r ≡ None → WaitsFor (why_of command now w) t.answer
turns_waits (Some r) command now w t h e = absurd (cc (e))
turns_waits None command now w t h e = does_waits command now w t h

pub waits_for_the_first : WaitsForTheFirst
waits_for_the_first a new j job now line command answer outs h e =
    subst (λ x. WaitsFor (why_of command now (work_of a j now line)) x) (sym h.answered)
    (turns_waits (refusal_of command a j (work_of a j now line).at) command now (work_of a j now line) h.turn h.turns e)
