-- Steps of the plain machine that a script's lines make.
use Rattle.std.proofs.Common.{◌≡◌, ℕ, ◌+◌, true, false, List, [], ◌∷◌, ◌++◌, length, Option, None, Some, refl, sym, ap, ◌∙◌, arith, length-append}
use Rattle.std.specs.Option.{IfSome}
use Rattle.std.proofs.lemmas.Bool.{false≢true}
use Rattle.plain_orders.specs.declared.act.Act.{Act}
use Rattle.plain_orders.specs.declared.act.Act.TheVariants.{Opened, Enter, Synced, Met, Issue, Read}
use Rattle.plain_orders.specs.declared.entry.Entry.{Entry}
use Rattle.plain_orders.specs.declared.entry.Entry.TheVariants.{Epoch, Opened as OpenedEntry, Update}
use Rattle.plain_orders.specs.declared.item.Item.TheVariants.{Op as OpItem}
use Rattle.plain_orders.specs.declared.op.Op.{Op}
use Rattle.plain_orders.specs.declared.op.Op.TheVariants.{Set, Kill, Add}
use Rattle.plain_orders.specs.declared.question.Question.{Question}
use Rattle.plain_orders.specs.declared.via.Via.TheVariants.{Fetched}
use Rattle.plain_orders.specs.declared.layout.Layout.{Layout}
use Rattle.plain_orders.specs.Ordered.{OpMay, MayFollow}
use Rattle.plain_orders.specs.PairMap.{Map}
use Rattle.plain_orders.proofs.NodeKeys.{child_key}
use Rattle.plain_runs.specs.Items.{is_change_op}
use Rattle.plain_runs.specs.JobRows.{asked_key}
use Rattle.plain_orders.specs.declared.question.Question.TheVariants.{Next as NextQuestion}
use Rattle.plain_orders.specs.Answers.{next_key, IsSubIn}
use Rattle.subscript_keys.specs.declared.sub.Sub.{Sub}
use Rattle.subscript_keys.specs.Key.{IsKey, IsSub, IsWithinLimit}
use Rattle.app_job.specs.Sites.{Site, IsSite}
use Rattle.app_job.specs.Limits.{NextMay}
use Rattle.plain_orders.proofs.EntryLemmas.{count-push, live-push}
use Rattle.plain_orders.specs.Own.{Issued}
use Rattle.plain_runs.specs.Plain.{Plain, Session, start}
use Rattle.plain_runs.specs.Step.{after}
use Rattle.global_store.specs.declared.global_store.GlobalStore.{GlobalStore}
use Rattle.global_store.specs.Stores.{IsStoreOf}
use Rattle.cluster_call.specs.Running.{IsBetweenLines, HasJob, IsAnswered, SESSION}

-- the first entry, which a data server writes as it opens on a fresh journal
abbrev pub first_epoch : Entry
first_epoch = Epoch 1

pub epoch_follows : MayFollow [] first_epoch
epoch_follows = record { is_next = refl; in_range = omega arith }

pub opened_stands : (l : Layout) (store : GlobalStore) → IsStoreOf (first_epoch ∷ []) store → IsBetweenLines (after l start (Opened 0 [])) 1 0 false store
opened_stands l store stored = record {
  opened = refl;
  past = refl;
  size = refl;
  synced = refl;
  not_due = refl;
  stored = stored;
  unbroken = refl;
  seen = omega arith;
  free = refl;
  level = refl;
  rolled = refl;
  alive = refl;
  pair = record { order = refl; session = refl; fresh = λ n. refl; none = refl };
}

-- the acts of a connection
abbrev pub open_session : Act
open_session = Enter 0 (OpenedEntry SESSION 0)

abbrev pub behind_open : Layout → Plain → Plain
behind_open l p = after l p open_session

abbrev pub behind_save : Layout → Plain → Plain
behind_save l p = after l (behind_open l p) (Synced 0 2)

abbrev pub behind_met : Layout → Plain → Plain
behind_met l p = after l (behind_save l p) (Met 0 0 SESSION)

-- the session's Open may follow
pub open_follows : (p : Plain) (entries issued : ℕ) (store : GlobalStore) → IsBetweenLines p entries issued false store → MayFollow (p.server_at 0).order (OpenedEntry SESSION 0)
open_follows p entries issued store h = rw h.pair.order (record { is_started = λ e. omega (arith, e); is_position = refl; is_free = refl })

-- behind a connection
pub connected_stands : (l : Layout) (p : Plain) (entries issued : ℕ) (old new : GlobalStore) → IsBetweenLines p entries issued false old → HasJob l
    → IsStoreOf ((p.server_at 0).order ++ OpenedEntry SESSION 0 ∷ []) new → IsBetweenLines (behind_met l p) 2 0 true new
connected_stands l p entries issued old new h job stored = record {
  opened = h.opened;
  past = h.past;
  size = rw h.pair.order refl;
  synced = refl;
  not_due = h.not_due;
  stored = stored;
  unbroken = refl;
  seen = rw job.job (omega arith);
  free = rw job.job h.free;
  level = h.level;
  rolled = h.rolled;
  alive = h.alive;
  pair = (
    record { app = 0; issued = []; told = 0 },
    record {
      session = refl;
      known = ap (λ n. Some (record { app = 0; issued = []; told = n })) (ap length h.past);
      told = refl;
      all_issued = refl;
      is_live = rw h.pair.order refl;
      count = rw h.pair.order refl;
    },
  );
}

-- the entry that an update becomes
abbrev pub update_entry : ℕ → Op → Entry
update_entry w op = Update SESSION w 0 0 op

abbrev pub behind_issue : Layout → Plain → ℕ → ℕ → Op → Plain
behind_issue l p line w op = after l p (Issue 0 line 0 w (OpItem op))

abbrev pub behind_enter : Layout → Plain → ℕ → ℕ → Op → Plain
behind_enter l p line w op = after l (behind_issue l p line w op) (Enter 0 (update_entry w op))

abbrev pub behind_update : Layout → Plain → ℕ → ℕ → ℕ → Op → Plain
behind_update l p line w entries op = after l (behind_enter l p line w op) (Synced 0 entries)

-- nothing is known of a session that no server has
abbrev no_session : Session
no_session = record { app = 0; issued = []; told = 0 }

-- the update as it was issued
abbrev issued_op : ℕ → Op → Issued
issued_op line op = record { item = OpItem op; txn = 0; job = 0; line = line }

-- the session with one item more
abbrev with_op : Session → ℕ → Op → Session
with_op its line op = record its { issued = its.issued ++ issued_op line op ∷ [] }

known_after : (l : Layout) (p : Plain) (entries issued line w : ℕ) (store : GlobalStore) (op : Op) → is_change_op op ≡ true → (h : IsBetweenLines p entries issued true store) → HasJob l
    → ((behind_issue l p line w op).server_at 0).session_at SESSION ≡ Some (with_op h.pair.0 line op)
known_after l p entries issued line w store (Set key value) e h job = rw job.job (rw h.pair.1.session (rw h.pair.1.known (rw h.level refl)))
known_after l p entries issued line w store (Kill key) e h job = rw job.job (rw h.pair.1.session (rw h.pair.1.known (rw h.level refl)))
known_after l p entries issued line w store (Add key amount) e h job = absurd (false≢true e)

-- the update may follow
pub update_follows : (p : Plain) (entries issued : ℕ) (store : GlobalStore) (op : Op) → OpMay 0 op → IsBetweenLines p entries issued true store → MayFollow (p.server_at 0).order (update_entry (issued + 1) op)
update_follows p entries issued store op may h = record { is_live = h.pair.1.is_live; is_next = ap (λ n. n + 1) (sym h.pair.1.count); within = may }

pub op_stands : (l : Layout) (p : Plain) (entries issued line : ℕ) (old new : GlobalStore) (op : Op) → is_change_op op ≡ true → IsBetweenLines p entries issued true old → HasJob l
    → IsStoreOf ((p.server_at 0).order ++ update_entry (issued + 1) op ∷ []) new → IsBetweenLines (behind_update l p line (issued + 1) (entries + 1) op) (entries + 1) (issued + 1) true new
op_stands l p entries issued line old new op e h job stored = record {
  opened = h.opened;
  past = h.past;
  size = omega (arith, h.size, length-append (p.server_at 0).order (update_entry (issued + 1) op ∷ []));
  synced = refl;
  not_due = h.not_due;
  stored = stored;
  unbroken = h.unbroken;
  seen = omega (arith, h.seen);
  free = h.free;
  level = h.level;
  rolled = h.rolled;
  alive = h.alive;
  pair = (
    with_op h.pair.0 line op,
    record {
      session = h.pair.1.session;
      known = known_after l p entries issued line (issued + 1) old op e h job;
      told = h.pair.1.told;
      all_issued = omega (arith, h.pair.1.all_issued, length-append h.pair.0.issued (issued_op line op ∷ []));
      is_live = live-push (p.server_at 0).order (update_entry (issued + 1) op) SESSION ∙ h.pair.1.is_live;
      count = count-push (p.server_at 0).order (update_entry (issued + 1) op) SESSION ∙ omega (arith, h.pair.1.count);
    },
  );
}

pub read_stands : (l : Layout) (p : Plain) (entries issued line : ℕ) (store : GlobalStore) (question : Question) → IsBetweenLines p entries issued true store
    → IsBetweenLines (after l p (Read 0 line 0 entries Fetched question)) entries issued true store
read_stands l p entries issued line store question h = record {
  opened = h.opened;
  past = h.past;
  size = h.size;
  synced = h.synced;
  not_due = h.not_due;
  stored = h.stored;
  unbroken = h.unbroken;
  seen = omega arith;
  free = h.free;
  level = h.level;
  rolled = h.rolled;
  alive = h.alive;
  pair = (
    h.pair.0,
    record {
      session = h.pair.1.session;
      known = h.pair.1.known;
      told = h.pair.1.told;
      all_issued = h.pair.1.all_issued;
      is_live = h.pair.1.is_live;
      count = h.pair.1.count;
    },
  );
}

-- the node behind which a next looks
asked_node : (site : Site) (sub : Option Sub) → IsSite site → NextMay site sub → IsKey (asked_key site.key sub)
asked_node site None is may = (site.node, is.node, is.key)
asked_node site (Some sub) is may = child_key site.key sub (site.node, is.node, is.key) may.0

asked_within : (site : Site) (sub : Option Sub) → IsSite site → NextMay site sub → IsWithinLimit (asked_key site.key sub)
asked_within site None is may = is.within
asked_within site (Some sub) is may = may.1

asked_sub : (site : Site) (sub : Option Sub) → NextMay site sub → IfSome sub IsSub
asked_sub site None may = tt
asked_sub site (Some sub) may = may.0

found_sub : (parent : List ℕ) (key : Option (List ℕ)) (found : Option Sub) → IsSubIn parent key found → IfSome found IsSub
found_sub parent None None is = tt
found_sub parent None (Some sub) is = absurd is
found_sub parent (Some key) None is = absurd is
found_sub parent (Some key) (Some sub) is = is.0

-- what a next finds is an answer
pub next_answered : (m : Map) (site : Site) (sub found : Option Sub) → IsSite site → NextMay site sub → IsSubIn site.key (next_key m site.key sub) found → IsAnswered m (NextQuestion site.key sub found)
next_answered m site sub found is may in_it = (in_it, asked_node site sub is may, asked_within site sub is may, (site.node, is.node, is.key), asked_sub site sub may, found_sub site.key (next_key m site.key sub) found in_it)
