-- Each read that a get, a shape or a next writes may come.
use Rattle.std.proofs.Common.{◌≡◌, inl, inr, ℕ, Bool, true, false, List, [], ◌∷◌, ◌++◌}
use Rattle.std.proofs.Common.{Option, Some, None, take, refl, sym, ◌∙◌, ap, subst, nat_eq, if◌then◌else◌}
use Rattle.std.specs.Prelude.{IfSome}
use Rattle.std.specs.List.{find, AllByRecursion}
use Rattle.subscript_keys.specs.declared.run.Run.{Run}
use Rattle.subscript_keys.specs.declared.sub.Sub.{Sub}
use Rattle.subscript_keys.specs.Key.{IsKey, IsSub, IsWithinLimit}
use Rattle.subscript_keys.specs.Span.{span_hi}
use Rattle.plain_orders.specs.declared.act.Act.TheVariants.{Read}
use Rattle.plain_orders.specs.declared.entry.Entry.{Entry}
use Rattle.plain_orders.specs.declared.item.Item as its
use Rattle.plain_orders.specs.declared.item.Item.TheVariants as items
use Rattle.plain_orders.specs.declared.op.Op.{Op}
use Rattle.plain_orders.specs.declared.op.Op.TheVariants.{Set, Kill, Add}
use Rattle.plain_orders.specs.declared.question.Question.{Question}
use Rattle.plain_orders.specs.declared.question.Question.TheVariants as questions
use Rattle.plain_orders.specs.declared.via.Via.{Via}
use Rattle.plain_orders.specs.declared.via.Via.TheVariants.{Own as OwnVia}
use Rattle.plain_orders.specs.Answers.{data_code, IsNextOn, IsSubIn}
use Rattle.plain_orders.specs.Ordered.{KeyMay}
use Rattle.plain_orders.specs.Own.{Issued, item_before, ops_after, ops_of, touches_own}
use Rattle.plain_orders.specs.PairMap.{value_at}
use Rattle.plain_orders.proofs.NodeKeys.{child_key}
use Rattle.plain_runs.specs.JobRows.{AnswerIs, ReadMay, asked_key, own_behind}
use Rattle.plain_runs.specs.Plain.{Server, told_order}
use Rattle.end_words.specs.Runs.{covers, pairs_of}
use Rattle.app_job.specs.Limits.{NextMay}
use Rattle.app_job.specs.Sites.{Site, IsSite}
use Rattle.app_rules.specs.Issuing.{at_normal, has_own, is_up, own_ops, pair_session, unless_own, uses_if}
use Rattle.app_rules.specs.JobState.{Work, Turn}
use Rattle.app_rules.specs.JobStep.{NextsFree, NextsUp}
use Rattle.app_rules.specs.Reading.{NextsWalked, Walk, Walked, Needs, Finds, Ends, cache_of, caches, found_key, front_n, get_turn}
use Rattle.app_rules.specs.Reading.{gets_from, gets_own, has_value, holds_below, next_walk, shape_turn, shapes_now, shapes_walked, via_of, walks}
use Rattle.block_cache.specs.CacheWords.{used}
use Rattle.cached_reads.specs.Laws.{IsChange}
use Rattle.cached_reads.specs.Reads.{ReadsStand, ReadWritten, WritesRead}
use Rattle.cached_reads.specs.Walks.{TellsNext, TellsShape}
use Rattle.cached_reads.proofs.Firsts.{walks_tell_next}
use Rattle.cached_reads.proofs.Gets.{own_decide, runs_answer}
use Rattle.cached_reads.proofs.Shapes.{walks_tell_shapes}
use Rattle.cached_reads.proofs.Turns.{cached_front, no_own, not_own, state_acts, used_stands, used_writes, wait_acts}

-- the own updates of the plain machine are Sets and Kills
item_changes : (i : its.Item) (ops : List Op) → AllByRecursion IsChange ops → AllByRecursion IsChange (item_before i ops)
item_changes (items.Op (Set key value)) ops all = (tt, all)
item_changes (items.Op (Kill key)) ops all = (tt, all)
item_changes (items.Op (Add key amount)) ops all = all
item_changes (items.Commit txn) ops all = all
item_changes (items.Rollback txn) ops all = all

all_changes : (job : ℕ) (is : List Issued) → AllByRecursion IsChange (ops_of job is)
all_changes job [] = tt
all_changes job (i ∷ is) = go (nat_eq i.job job) (all_changes job is)
  where
    go : (b : Bool) → AllByRecursion IsChange (ops_of job is) → AllByRecursion IsChange (if b then item_before i.item (ops_of job is) else ops_of job is)
    go true all = item_changes i.item (ops_of job is) all
    go false all = all

-- a site's key is that of its node, within the limit
site_key : (at : Site) → IsSite at → KeyMay at.key
site_key at is = record { is_key = (at.node, is.node, is.key); within = is.within }

module _ (v : Server) (app d : ℕ) (w : Work) (s : ReadsStand v app d w) where
  abbrev order : List Entry
  order = told_order v app

  abbrev behind : List Op
  behind = own_behind v app w.job.index (front_n w d)

  -- a read that is answered so may come
  may : (via : Via) (question : Question) → AnswerIs v app w.job.index (front_n w d) via question → ReadMay v app w.job.index (front_n w d) via question
  may via question answer = record { there = s.there; no_less = s.seen; within = s.within; answer = answer }

  -- and is written at the front where runs were used
  from_runs : (runs : List Run) (via : Via) (question : Question) → AnswerIs v app w.job.index (front_n w d) via question
      → ReadWritten v app d w (w.ends.outs.acts ++ Read w.job.index w.at.line d (front_n (caches d runs w) d) via question ∷ [])
  from_runs runs via question answer =
      record {
        via = via;
        question = question;
        written = ap (λ n. w.ends.outs.acts ++ Read w.job.index w.at.line d n via question ∷ []) (cached_front d runs w);
        may = may via question answer;
      }

  -- a get from the first run that covers the key
  got_from : (key : List ℕ) → KeyMay key → touches_own behind key ≡ false → (o : Option Run) → find (covers key) (cache_of w d) ≡ o
      → WritesRead v app d w (gets_from o d key w)
  got_from key node other None e = inl (wait_acts d key w)
  got_from key node other (Some run) e =
      inr (from_runs (used key (cache_of w d)) (via_of w.at) (questions.Get key (value_at (pairs_of run) key)) (record {
        result = runs_answer order (front_n w d) (cache_of w d) run behind key s.runs e other;
        by = not_own w.at ∙ sym other;
        node = node;
      }))

  got : (key : List ℕ) → KeyMay key → (b : Bool) → touches_own (own_ops w d) key ≡ b → WritesRead v app d w (gets_own b d key w)
  got key node true here =
      let touched : touches_own behind key ≡ true = ap (λ ops. touches_own ops key) (sym s.own) ∙ here in
      inr (record {
        via = OwnVia;
        question = questions.Get key (value_at (ops_after [] (own_ops w d)) key);
        written = refl;
        may = may OwnVia (questions.Get key (value_at (ops_after [] (own_ops w d)) key)) (record {
          result = ap (λ ops. value_at (ops_after [] ops) key) s.own ∙ own_decide (take (front_n w d) order) behind key (all_changes w.job.index _) touched;
          by = sym touched;
          node = node;
        });
      })
  got key node false other =
      got_from key node (ap (λ ops. touches_own ops key) (sym s.own) ∙ other) (find (covers key) (cache_of w d)) refl

  -- where no own updates are on their way
  entered : has_own w d ≡ false → behind ≡ []
  entered none = sym s.own ∙ no_own w d none

  -- a shape, by where its walk ends
  shaped : (key : List ℕ) → KeyMay key → behind ≡ [] → (runs : List Run) (x : Walked) → TellsShape x (cache_of w d) (take (front_n w d) order) key
      → WritesRead v app d w (shapes_walked x d key (has_value (cache_of w d) key) (caches d runs w))
  shaped key node none runs (Needs needed) tells = inl (wait_acts d needed (caches d runs w))
  shaped key node none runs (Finds run) tells =
      inr (from_runs runs (via_of w.at) (questions.Shape key (data_code (has_value (cache_of w d) key) true))
      (record { result = tells; by = not_own w.at; entered = none; node = node }))
  shaped key node none runs Ends tells =
      inr (from_runs runs (via_of w.at) (questions.Shape key (data_code (has_value (cache_of w d) key) false))
      (record { result = tells; by = not_own w.at; entered = none; node = node }))

  shape_by : (key : List ℕ) → KeyMay key → (b : Bool) → has_own w d ≡ b → WritesRead v app d w (unless_own b (shapes_now d key) w)
  shape_by key node true own = inl refl
  shape_by key node false none =
      shaped key node (entered none) (walks (holds_below key) (span_hi key) key (cache_of w d)).cache
      (walks (holds_below key) (span_hi key) key (cache_of w d)).walked
      (walks_tell_shapes order (front_n w d) (cache_of w d) key s.ordered s.runs node.is_key)

  -- a next, by where its walk ends
  module _ (parent : Site) (sub : Option Sub) (node : IsKey (asked_key parent.key sub)) (within : IsWithinLimit (asked_key parent.key sub))
      (none : behind ≡ []) where
    found : (runs : List Run) (sub_found : Option Sub) → IsNextOn (take (front_n w d) order) parent.key sub sub_found
        → ReadWritten v app d w
        (w.ends.outs.acts ++ Read w.job.index w.at.line d (front_n (caches d runs w) d) (via_of w.at) (questions.Next parent.key sub sub_found) ∷ [])
    found runs sub_found is =
        from_runs runs (via_of w.at) (questions.Next parent.key sub sub_found)
        (record { result = is; by = not_own w.at; entered = none; node = node; within = within })

    nexted : (x : Walk) (k : Walked) (t : Turn) → TellsNext k (take (front_n w d) order) parent.key sub
        → (k ≡ x.walked) → NextsWalked k x d parent.key sub w t → WritesRead v app d w t
    nexted x (Needs needed) t tells same h = inl (ap (λ (u : Turn). u.work.ends.outs.acts) h ∙ wait_acts d needed (caches d x.cache w))
    nexted x (Finds run) t tells same h =
        inr (subst (λ (u : Turn). ReadWritten v app d w u.work.ends.outs.acts) (sym h.after)
        (found x.cache h.found (tells h.found (subst (λ (k : Walked). IsSubIn parent.key (found_key k parent.key sub) h.found) (sym same) h.its))))
    nexted x Ends t tells same h =
        inr (subst (λ (u : Turn). ReadWritten v app d w u.work.ends.outs.acts) (sym h.after)
        (found x.cache h.found (tells h.found (subst (λ (k : Walked). IsSubIn parent.key (found_key k parent.key sub) h.found) (sym same) h.its))))

  next_by : (parent : Site) (sub : Option Sub) (t : Turn) → IsSite parent → NextMay parent sub → d ≡ parent.server → (b : Bool) → has_own w d ≡ b
      → NextsFree b parent sub w t → WritesRead v app d w t
  next_by parent sub t is form here true own h = inl (ap (λ (u : Turn). u.work.ends.outs.acts) h)
  next_by parent sub t is form here false none h =
      nexted parent sub (asked sub form) (asked_within sub form) (entered none) (next_walk d parent.key sub w) (next_walk d parent.key sub w).walked t
      (walks_tell_next order (front_n w d) (cache_of w d) parent.key sub s.ordered s.runs (site_key parent is).is_key (sub_form sub form)) refl
      (subst (λ (e : ℕ). NextsWalked (next_walk e parent.key sub w).walked (next_walk e parent.key sub w) e parent.key sub w t) (sym here) h)
    where
      asked : (sub : Option Sub) → NextMay parent sub → IsKey (asked_key parent.key sub)
      asked None form = (site_key parent is).is_key
      asked (Some x) form = child_key parent.key x (site_key parent is).is_key form.0

      asked_within : (sub : Option Sub) → NextMay parent sub → IsWithinLimit (asked_key parent.key sub)
      asked_within None form = is.within
      asked_within (Some x) form = form.1

      sub_form : (sub : Option Sub) → NextMay parent sub → IfSome sub IsSub
      sub_form None form = tt
      sub_form (Some x) form = form.0

-- So the read of a get may come.
pub gets_may : (v : Server) (app : ℕ) (at : Site) (w : Work) → IsSite at → (is_up w at.server ≡ true → ReadsStand v app at.server w)
    → WritesRead v app at.server w (get_turn at w)
gets_may v app at w is stands = go (is_up w at.server) refl
  where
    used : ReadsStand v app at.server w → (o : Option ℕ)
        → WritesRead v app at.server w (gets_own (touches_own (own_ops (uses_if o at.server w) at.server) at.key) at.server at.key (uses_if o at.server w))
    used s o =
        used_writes v app at.server w o
        (gets_own (touches_own (own_ops (uses_if o at.server w) at.server) at.key) at.server at.key (uses_if o at.server w))
        (got v app at.server (uses_if o at.server w) (used_stands v app at.server w o s) at.key (site_key at is)
        (touches_own (own_ops (uses_if o at.server w) at.server) at.key) refl)

    go : (b : Bool) → is_up w at.server ≡ b
        → WritesRead v app at.server w (at_normal b at.server (λ u. gets_own (touches_own (own_ops u at.server) at.key) at.server at.key u) w)
    go true up = used (stands up) (pair_session w.ends.state at.server)
    go false down = inl (state_acts at.server w)

-- so may that of a shape
pub shapes_may : (v : Server) (app : ℕ) (at : Site) (w : Work) → IsSite at → (is_up w at.server ≡ true → ReadsStand v app at.server w)
    → WritesRead v app at.server w (shape_turn at w)
shapes_may v app at w is stands = go (is_up w at.server) refl
  where
    used : ReadsStand v app at.server w → (o : Option ℕ)
        → WritesRead v app at.server w (unless_own (has_own (uses_if o at.server w) at.server) (shapes_now at.server at.key) (uses_if o at.server w))
    used s o =
        used_writes v app at.server w o
        (unless_own (has_own (uses_if o at.server w) at.server) (shapes_now at.server at.key) (uses_if o at.server w))
        (shape_by v app at.server (uses_if o at.server w) (used_stands v app at.server w o s) at.key (site_key at is)
        (has_own (uses_if o at.server w) at.server) refl)

    go : (b : Bool) → is_up w at.server ≡ b
        → WritesRead v app at.server w (at_normal b at.server (λ u. unless_own (has_own u at.server) (shapes_now at.server at.key) u) w)
    go true up = used (stands up) (pair_session w.ends.state at.server)
    go false down = inl (state_acts at.server w)

-- and that of a next
pub nexts_may : (v : Server) (app : ℕ) (parent : Site) (sub : Option Sub) (w : Work) (t : Turn) → IsSite parent → NextMay parent sub
    → (is_up w parent.server ≡ true → ReadsStand v app parent.server w) → NextsUp (is_up w parent.server) parent sub w t
    → WritesRead v app parent.server w t
nexts_may v app parent sub w t is form stands h = go (is_up w parent.server) refl h
  where
    used : ReadsStand v app parent.server w → (o : Option ℕ) → NextsFree (has_own w parent.server) parent sub (uses_if o parent.server w) t
        → WritesRead v app parent.server w t
    used s None free = next_by v app parent.server w s parent sub t is form refl (has_own w parent.server) refl free
    used s (Some n) free =
        used_writes v app parent.server w (Some n) t
        (next_by v app parent.server (uses_if (Some n) parent.server w) (used_stands v app parent.server w (Some n) s) parent sub t is form refl
        (has_own w parent.server) refl free)

    go : (b : Bool) → is_up w parent.server ≡ b → NextsUp b parent sub w t → WritesRead v app parent.server w t
    go true up free = used (stands up) (pair_session w.ends.state parent.server) free
    go false down same = inl (ap (λ (u : Turn). u.work.ends.outs.acts) same ∙ state_acts parent.server w)
