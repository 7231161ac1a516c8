-- Each command has an outcome: a next that finds a key finds the subscript in it, where the cached runs have nodes' keys.
use Rattle.std.proofs.Common.{◌≡◌, ◌<◌, ℕ, zero, suc, Bool, true, false, List, [], ◌∷◌, ◌++◌, refl, sym, ap, subst, ◌∙◌, length, drop, Option, Some, None, append_assoc, arith, ltb, ◌&&◌, if◌then◌else◌}
use Rattle.std.specs.List.{AllByRecursion, find}
use Rattle.std.proofs.lemmas.Bool.{and_parts, ltb-true}
use Rattle.std.proofs.lemmas.List.{append-nil}
use Rattle.subscript_keys.specs.declared.node.Node.{Node}
use Rattle.subscript_keys.specs.declared.run.Run.{Run}
use Rattle.subscript_keys.specs.declared.sub.Sub.{Sub}
use Rattle.std.specs.Ordering.{is_lt}
use Rattle.subscript_keys.specs.Span.{span_hi}
use Rattle.subscript_keys.specs.Key.{sub_bytes, subs_bytes, key_of, IsKey, IsNode, IsSub}
use Rattle.plain_orders.specs.Answers.{IsSubIn, is_behind, next_key}
use Rattle.plain_orders.specs.Keys.{HasKeys}
use Rattle.plain_orders.specs.PairMap.{Map, key_cmp, is_below, is_under}
use Rattle.plain_orders.proofs.NodeKeys.{Behind, behind, under_rest, under_front}
use Rattle.end_words.specs.Runs.{covers, pairs_of}
use Rattle.block_cache.specs.CacheWords.{used, in_front, without_first}
use Rattle.app_job.specs.Sites.{Site}
use Rattle.app_job.specs.Limits.{CommandMay}
use Rattle.app_job.specs.declared.command.Command.{Command}
use Rattle.app_job.specs.declared.command.Command.TheVariants.{Set, Kill, Get, Shape, Next, Incr, Lock, Unlock, Start, Commit, Rollback, Sync}
use Rattle.app_job.specs.declared.refusal.Refusal.{Refusal}
use Rattle.app_rules.specs.JobState.{Work, Turn}
use Rattle.app_rules.specs.Refusing.{refusal_of}
use Rattle.app_rules.specs.Issuing.{is_up, uses, uses_if, has_own, pair_session}
use Rattle.app_rules.specs.Reading.{Walk, Walked, walk, walk_from, NextsWalked, next_walk, holds_from, next_start, found_key, cache_of}
use Rattle.app_rules.specs.Reading.Walked.{Needs, Finds, Ends}
use Rattle.app_rules.specs.JobStep.{NextsFree, NextsUp, Does, Turns, ended, work_of}
use Rattle.app_rules.specs.Laws.{HaveNodeKeys, KeysAreNodes, JobStepIsThere}

-- what stands right after a parent's key in a longer node's key is a subscript
sub_behind : (a b : Node) (u : List ℕ) → Behind a b u → key_of b ≡ key_of a ++ u → length (key_of a) < length (key_of b)
    → (s : Sub) × IsSub s × (is_under (key_of a ++ sub_bytes s) (key_of b) ≡ true)
sub_behind a b u w e longer = go w.more w.are (e ∙ ap (λ x. key_of a ++ x) w.bytes)
  where
    go : (ms : List Sub) → AllByRecursion IsSub ms → key_of b ≡ key_of a ++ subs_bytes ms → (s : Sub) × IsSub s × (is_under (key_of a ++ sub_bytes s) (key_of b) ≡ true)
    go [] are same = absurd (omega (arith, longer, ap length (same ∙ append-nil (key_of a))))
    go (s ∷ ms) are more =
        (s, are.0, subst (λ k. is_under (key_of a ++ sub_bytes s) k ≡ true) (sym (more ∙ sym (append_assoc (key_of a) (sub_bytes s) (subs_bytes ms)))) (under_front (key_of a ++ sub_bytes s) (subs_bytes ms)))

-- the same of keys
node_sub : (a b : Node) → IsNode a → IsNode b → is_below (key_of a) (key_of b) ≡ true → (s : Sub) × IsSub s × (is_under (key_of a ++ sub_bytes s) (key_of b) ≡ true)
node_sub a b p q h =
    let parts : (is_under (key_of a) (key_of b) ≡ true) × (ltb (length (key_of a)) (length (key_of b)) ≡ true) = and_parts (is_under (key_of a) (key_of b)) (ltb (length (key_of a)) (length (key_of b))) h in
    let e : key_of b ≡ key_of a ++ drop (length (key_of a)) (key_of b) = under_rest (key_of a) (key_of b) parts.0 in
    sub_behind a b _ (behind a b _ p q e) e (ltb-true _ _ parts.1)

sub_there : (parent key : List ℕ) → IsKey parent → IsKey key → is_below parent key ≡ true → (s : Sub) × IsSub s × (is_under (parent ++ sub_bytes s) key ≡ true)
sub_there parent key p q =
    subst (λ k. is_below parent k ≡ true → (s : Sub) × IsSub s × (is_under (parent ++ sub_bytes s) k ≡ true)) q.2
    (subst (λ n. is_below n (key_of q.0) ≡ true → (s : Sub) × IsSub s × (is_under (n ++ sub_bytes s) (key_of q.0) ≡ true)) p.2 (node_sub p.0 q.0 p.1 q.1))

-- the key that is found next in a map of nodes' keys has a subscript right after the parent's
next_there : (m : Map) (parent : List ℕ) (sub : Option Sub) → IsKey parent → HasKeys m → (found : Option Sub) × IsSubIn parent (next_key m parent sub) found
next_there [] parent sub p h = (None, tt)
next_there (x ∷ m) parent sub p h = go (is_below parent x.0 && is_behind parent sub x.0) refl (next_there m parent sub p h.1)
  where
    go : (t : Bool) → (is_below parent x.0 && is_behind parent sub x.0) ≡ t → (found : Option Sub) × IsSubIn parent (next_key m parent sub) found
        → (found : Option Sub) × IsSubIn parent (if t then Some x.0 else next_key m parent sub) found
    go true e rest = let s = sub_there parent x.0 p h.0 (and_parts (is_below parent x.0) (is_behind parent sub x.0) e).0 in (Some s.0, (s.1, s.2))
    go false e rest = rest

-- a run, if there is one, has nodes' keys
abbrev IfHas : Option Run → Type 0
IfHas None = Unit {0}
IfHas (Some run) = HasKeys (pairs_of run)

find_has : (test : Run → Bool) (rs : List Run) → HaveNodeKeys rs → IfHas (find test rs)
find_has test [] h = tt
find_has test (r ∷ rs) h = go (test r) (find_has test rs h.1)
  where
    go : (t : Bool) → IfHas (find test rs) → IfHas (if t then Some r else find test rs)
    go true rest = h.0
    go false rest = rest

without_have : (test : Run → Bool) (rs : List Run) → HaveNodeKeys rs → HaveNodeKeys (without_first test rs)
without_have test [] h = tt
without_have test (r ∷ rs) h = go (test r) (without_have test rs h.1)
  where
    go : (t : Bool) → HaveNodeKeys (without_first test rs) → HaveNodeKeys (if t then rs else r ∷ without_first test rs)
    go true rest = h.1
    go false rest = (h.0, rest)

used_have : (key : List ℕ) (rs : List Run) → HaveNodeKeys rs → HaveNodeKeys (used key rs)
used_have key rs h = go (find (covers key) rs) (find_has (covers key) rs h)
  where
    go : (o : Option Run) → IfHas o → HaveNodeKeys (in_front (covers key) o rs)
    go None has = h
    go (Some r) has = (has, without_have (covers key) rs h)

-- and so has the run in which a walk ends
abbrev WalkedHas : Walked → Type 0
WalkedHas (Needs key) = Unit {0}
WalkedHas (Finds run) = HasKeys (pairs_of run)
WalkedHas Ends = Unit {0}

walk_has : (n : ℕ) (holds : Run → Bool) (end key : List ℕ) (rs : List Run) → HaveNodeKeys rs → WalkedHas (walk_from n holds end key rs).walked
walk_has zero holds end key rs h = tt
walk_has (suc n) holds end key rs h = go (find (covers key) rs) (find_has (covers key) rs h) (λ hi. walk_has n holds end hi (used key rs) (used_have key rs h))
  where
    past : (run : Run) (here on : Bool) → HasKeys (pairs_of run) → WalkedHas (walk_from n holds end run.span.hi (used key rs)).walked
        → WalkedHas (if here then walk (Finds run) (used key rs) else (if on then walk_from n holds end run.span.hi (used key rs) else walk Ends (used key rs))).walked
    past run true on has rest = has
    past run false true has rest = rest
    past run false false has rest = tt

    go : (o : Option Run) → IfHas o → ((hi : List ℕ) → WalkedHas (walk_from n holds end hi (used key rs)).walked) → WalkedHas (elim o as (λ _. Walk) [
      | None ↦ walk (Needs key) rs
      | Some run ↦
          (if holds run then walk (Finds run) (used key rs)
          else (if is_lt (key_cmp run.span.hi end) then walk_from n holds end run.span.hi (used key rs) else walk Ends (used key rs)))
    ]).walked
    go None has rest = tt
    go (Some run) has rest = past run (holds run) (is_lt (key_cmp run.span.hi end)) has (rest run.span.hi)

found_there : (k : Walked) (parent : List ℕ) (sub : Option Sub) → IsKey parent → WalkedHas k → (found : Option Sub) × IsSubIn parent (found_key k parent sub) found
found_there (Needs key) parent sub p h = (None, tt)
found_there (Finds run) parent sub p h = next_there (pairs_of run) parent sub p h
found_there Ends parent sub p h = (None, tt)

walked_there : (k : Walked) (x : Walk) (d : ℕ) (parent : List ℕ) (sub : Option Sub) (w : Work) → (found : Option Sub) × IsSubIn parent (found_key x.walked parent sub) found
    → (t : Turn) × NextsWalked k x d parent sub w t
walked_there (Needs needed) x d parent sub w f = (_, refl)
walked_there (Finds run) x d parent sub w f = (_, record { found = f.0; its = f.1; after = refl })
walked_there Ends x d parent sub w f = (_, record { found = f.0; its = f.1; after = refl })

free_there : (own : Bool) (parent : Site) (sub : Option Sub) (w : Work) → IsKey parent.key → HaveNodeKeys (cache_of w parent.server) → (t : Turn) × NextsFree own parent sub w t
free_there true parent sub w p h = (_, refl)
free_there false parent sub w p h =
    walked_there (next_walk parent.server parent.key sub w).walked (next_walk parent.server parent.key sub w) parent.server parent.key sub w
    (found_there (next_walk parent.server parent.key sub w).walked parent.key sub p
    (walk_has (suc (length (cache_of w parent.server))) (holds_from (next_start parent.key sub)) (span_hi parent.key) (next_start parent.key sub) (cache_of w parent.server) h))

-- a use changes no cache
uses_cache : (o : Option ℕ) (d : ℕ) (w : Work) → HaveNodeKeys (cache_of w d) → HaveNodeKeys (cache_of (uses_if o d w) d)
uses_cache None d w h = h
uses_cache (Some session) d w h = h

up_there : (up : Bool) (parent : Site) (sub : Option Sub) (w : Work) → IsKey parent.key → HaveNodeKeys (cache_of w parent.server) → (t : Turn) × NextsUp up parent sub w t
up_there true parent sub w p h =
    free_there (has_own w parent.server) parent sub (uses parent.server w) p (uses_cache (pair_session w.ends.state parent.server) parent.server w h)
up_there false parent sub w p h = (_, refl)

does_there : (command : Command) (now : ℕ) (w : Work) → CommandMay command → KeysAreNodes w.ends.state command → (t : Turn) × Does command now w t
does_there (Set at value) now w may keys = (_, refl)
does_there (Kill at) now w may keys = (_, refl)
does_there (Get at) now w may keys = (_, refl)
does_there (Shape at) now w may keys = (_, refl)
does_there (Next parent sub) now w may keys = up_there (is_up w parent.server) parent sub w (parent.node, may.0.node, may.0.key) keys
does_there (Incr at amount) now w may keys = (_, refl)
does_there (Lock at mode wait) now w may keys = (_, refl)
does_there (Unlock at mode at_once) now w may keys = (_, refl)
does_there Start now w may keys = (_, refl)
does_there (Commit sync) now w may keys = (_, refl)
does_there Rollback now w may keys = (_, refl)
does_there (Sync server) now w may keys = (_, refl)

turns_there : (r : Option Refusal) (command : Command) (now : ℕ) (w : Work) → CommandMay command → KeysAreNodes w.ends.state command → (t : Turn) × Turns r command now w t
turns_there (Some r) command now w may keys = (_, refl)
turns_there None command now w may keys = does_there command now w may keys

pub job_step_is_there : JobStepIsThere
job_step_is_there a j now line command may keys =
    let t : (t : Turn) × Turns (refusal_of command a j (work_of a j now line).at) command now (work_of a j now line) t =
    turns_there (refusal_of command a j (work_of a j now line).at) command now (work_of a j now line) may.within keys in
    record {
      answer = t.0.answer;
      outs = (ended t.0).ends.outs;
      app = (ended t.0).ends.state;
      job = (ended t.0).job;
      its = record { turn = t.0; turns = t.1; answered = refl; app = refl; puts = refl; job = refl };
    }
