-- What the message of a session that learnt of the order makes of a data server's connections: they go on by it.
use Rattle.std.proofs.Common.{◌≡◌, ℕ, Bool, true, false, if◌then◌else◌, List, [], ◌∷◌, ◌++◌, length, Option, Some, None, refl, sym, subst}
use Rattle.std.specs.List.{AllByRecursion}
use Rattle.plain_orders.specs.declared.entry.Entry.{Entry}
use Rattle.plain_orders.specs.declared.entry.Entry.TheVariants as entries
use Rattle.plain_orders.specs.declared.mode.Mode.{Mode}
use Rattle.plain_orders.specs.declared.op.Op.{Op}
use Rattle.plain_orders.specs.declared.op.Op.TheVariants as ops
use Rattle.plain_orders.specs.declared.sum.Sum.{Sum}
use Rattle.plain_orders.specs.declared.sum.Sum.TheVariants as sums
use Rattle.plain_orders.specs.Answers.{sum_at}
use Rattle.plain_orders.specs.Entries.{entry_at}
use Rattle.ecp_messages.specs.declared.up.Up.{Up}
use Rattle.ecp_messages.specs.declared.up.Up.TheVariants.{Hello, Recover, Update, Add, Fetch, Ask, Unlock, Cancel, Commit, Rollback, Sync, Done, Claim, Bare}
use Rattle.ecp_messages.specs.declared.down.Down.TheVariants.{Block}
use Rattle.lock_table.specs.declared.rows.Request.{Request}
use Rattle.lock_table.specs.declared.rows.Who.{Who}
use Rattle.lock_table.specs.LockWords.{Freed, Locks, asked, claimed, granted_with, holds_it, is_other_ticket, waiting_with, waits, without_ticket, passed, with_grant}
use Rattle.subscript_keys.specs.declared.span.Span.{Span}
use Rattle.block_holders.specs.declared.noted.Noted.{Noted}
use Rattle.block_holders.specs.HolderWords.{is_noted, with_noted}
use Rattle.data_rules.specs.DataState.{DataState}
use Rattle.data_rules.specs.Closing.{unawaited}
use Rattle.data_rules.specs.Granting.{frees, locks_become}
use Rattle.data_rules.specs.Messages.{Takes, TakesAsk, TakesCommit, TakesFetch, TakesItem, TakesOwed, cancels_granted, cancels_ticket, enters_if, gives_back, is_new, takes_item, unlocks, who}
use Rattle.data_rules.specs.Owing.{owes_entry, owes_entry_if, owes_item, owes_op, owes_place, owes_sum}
use Rattle.data_rules.specs.Places.{item_place}
use Rattle.data_rules.specs.Puts.{Sofar, becomes, head_of, puts}
use Rattle.cluster_runs.specs.Machine.{Site}
use Rattle.cluster_invariant.specs.Served.{HasLearnt}
use Rattle.cluster_invariant.proofs.AllLists.{all_filtered}
use Rattle.dials_server.proofs.TellsNodes.{all_one_more}
use Rattle.dials_server.proofs.GoNodes.{GoInv, RoundFits, go_by, go_item, go_locks, go_puts, go_reply, go_table}
use Rattle.dials_server.proofs.SameLists.{IsItem, lists_same}
use Rattle.dials_server.proofs.SaveNodes.{FreedAll, pass_all}

-- a request that comes, by whether it waits
abbrev asked_by : Locks → Request → ℕ → Bool → Freed
asked_by l r at t = if t then record { locks = record l { requests = l.requests ++ r ∷ [] }; grants = [] } else record { locks = with_grant l r at; grants = r ∷ [] }

module _ (x : Site) (n : DataState) (gone : List ℕ) where
  abbrev Go : Sofar → Type 0
  Go b = GoInv x n gone b

  abbrev Learnt : List Request → Type 0
  Learnt rs = AllByRecursion (λ (r : Request). HasLearnt x r.who.session) rs

  -- items

  item_if : (t : Bool) (e : Entry) (b : Sofar) → IsItem e → Go b → Go (enters_if t e b)
  item_if true e b item inv = go_item x n gone e b item inv
  item_if false e b item inv = inv

  go_takes : (s w : ℕ) (e : Entry) (b : Sofar) → IsItem e → Go b → Go (takes_item s w e b)
  go_takes s w e b item inv = item_if (is_new b.state s w) e b item inv

  go_sum : (o : Sum) (s job w at : ℕ) (b : Sofar) → HasLearnt x s → Go b → Go (owes_sum o s job w at b)
  go_sum sums.Nothing s job w at b learnt inv = inv
  go_sum (sums.Whole v) s job w at b learnt inv = go_reply x n gone at _ b learnt inv
  go_sum sums.NotWhole s job w at b learnt inv = go_reply x n gone at _ b learnt inv
  go_sum sums.Range s job w at b learnt inv = go_reply x n gone at _ b learnt inv

  go_op : (o : Op) (s job w at : ℕ) (b : Sofar) → HasLearnt x s → Go b → Go (owes_op o s job w at b)
  go_op (ops.Set key value) s job w at b learnt inv = inv
  go_op (ops.Kill key) s job w at b learnt inv = inv
  go_op (ops.Add key amount) s job w at b learnt inv = go_sum (sum_at b.state.order at) s job w at b learnt inv

  go_entry : (e : Entry) (s job w at : ℕ) (b : Sofar) → HasLearnt x s → Go b → Go (owes_entry e s job w at b)
  go_entry (entries.Epoch number) s job w at b learnt inv = inv
  go_entry (entries.Opened t app) s job w at b learnt inv = inv
  go_entry (entries.Closed t) s job w at b learnt inv = inv
  go_entry (entries.Update t v j txn op) s job w at b learnt inv = go_op op s job w at b learnt inv
  go_entry (entries.Commit t v j txn) s job w at b learnt inv = go_reply x n gone at _ b learnt inv
  go_entry (entries.Rollback t v j txn) s job w at b learnt inv = go_reply x n gone at _ b learnt inv

  go_entry_if : (o : Option Entry) (s job w at : ℕ) (b : Sofar) → HasLearnt x s → Go b → Go (owes_entry_if o s job w at b)
  go_entry_if None s job w at b learnt inv = inv
  go_entry_if (Some e) s job w at b learnt inv = go_entry e s job w at b learnt inv

  go_place : (o : Option ℕ) (s job w : ℕ) (b : Sofar) → HasLearnt x s → Go b → Go (owes_place o s job w b)
  go_place None s job w b learnt inv = inv
  go_place (Some at) s job w b learnt inv = go_entry_if (entry_at b.state.order at) s job w at b learnt inv

  go_owes : (s job w : ℕ) (b : Sofar) → HasLearnt x s → Go b → Go (owes_item s job w b)
  go_owes s job w b learnt inv = go_place (item_place b.state.order s w) s job w b learnt inv

  takes_one : (s w : ℕ) (e : Entry) (b c : Sofar) → IsItem e → TakesItem b s w e c → Go b → Go c
  takes_one s w e b c item t inv = subst (λ (d : Sofar). GoInv x n gone d) (sym t.after) (go_takes s w e b item inv)

  takes_owed : (s w job : ℕ) (e : Entry) (b c : Sofar) → IsItem e → HasLearnt x s → TakesOwed b s w job e c → Go b → Go c
  takes_owed s w job e b c item learnt t inv =
      subst (λ (d : Sofar). GoInv x n gone d) (sym t.after) (go_owes s job w (takes_item s w e b) learnt (go_takes s w e b item inv))

  takes_commit : (wanted : Bool) (s w job : ℕ) (e : Entry) (b c : Sofar) → IsItem e → HasLearnt x s → TakesCommit wanted b s w job e c → Go b → Go c
  takes_commit true s w job e b c item learnt t inv = takes_owed s w job e b c item learnt t inv
  takes_commit false s w job e b c item learnt t inv = takes_one s w e b c item t inv

  -- a block

  noted_more : (s : ℕ) (span : Span) (xs : List Noted) → HasLearnt x s → AllByRecursion (λ (y : Noted). HasLearnt x y.session) xs
      → AllByRecursion (λ (y : Noted). HasLearnt x y.session) (with_noted s span xs)
  noted_more s span xs learnt all = go (is_noted s span xs)
    where
      go : (t : Bool) → AllByRecursion (λ (y : Noted). HasLearnt x y.session) (if t then xs else xs ++ record { session = s; span = span } ∷ [])
      go true = all
      go false = all_one_more (λ (y : Noted). HasLearnt x y.session) xs (record { session = s; span = span }) all learnt

  go_noted : (s : ℕ) (span : Span) (b : Sofar) → HasLearnt x s → Go b → Go (becomes (λ d. record d { noted = with_noted s span d.noted }) b)
  go_noted s span b learnt inv =
      go_by x n gone b (becomes (λ d. record d { noted = with_noted s span d.noted }) b) (record b.state { noted = with_noted s span b.state.noted }) refl inv.frames refl
      (record {
        conns = refl;
        lists = lists_same b.state.order b.state.order refl;
        dials = refl;
        callers = refl;
        noted = noted_more s span b.state.noted learnt inv.noted;
        requests = inv.requests;
        replies = inv.replies;
        round = inv.round;
      }) inv

  takes_fetch : (s : ℕ) (key : List ℕ) (b c : Sofar) → HasLearnt x s → TakesFetch b s key c → Go b → Go c
  takes_fetch s key b c learnt t inv =
      subst (λ (d : Sofar). GoInv x n gone d) (sym t.after)
      (go_noted s t.run.span (puts s (Block (head_of b.state s) t.block) b) learnt (go_puts x n gone s (Block (head_of b.state s) t.block) b tt learnt inv))

  -- locks

  takes_ask : (s ticket job : ℕ) (mode : Mode) (key : List ℕ) (b c : Sofar) → HasLearnt x s → TakesAsk b s ticket job mode key c → Go b → Go c
  takes_ask s ticket job mode key b c learnt t inv =
      subst (λ (d : Sofar). GoInv x n gone d) (sym t.after)
      (go_locks x n gone (asked b.state.locks r (length b.state.order)) b b (left (waits b.state.locks.holds b.state.locks.requests r))
      (given (waits b.state.locks.holds b.state.locks.requests r)) refl refl refl inv)
    where
      r : Request
      r = record { who = who s job; ticket = ticket; name = key; mode = mode }

      left : (t : Bool) → Learnt (asked_by b.state.locks r (length b.state.order) t).locks.requests
      left true = all_one_more (λ (q : Request). HasLearnt x q.who.session) b.state.locks.requests r inv.requests learnt
      left false = inv.requests

      given : (t : Bool) → Learnt (asked_by b.state.locks r (length b.state.order) t).grants
      given true = tt
      given false = (learnt, tt)

  -- what a call lets through
  go_passed : (l : Locks) (b c : Sofar) → Learnt l.requests → c.state ≡ b.state → c.outs.frames ≡ b.outs.frames → c.outs.cuts ≡ b.outs.cuts → Go b
      → Go (locks_become (passed l (length b.state.order)) c)
  go_passed l b c requests state frames cuts inv = go (pass_all (HasLearnt x) l [] [] l.requests (length b.state.order) tt tt requests)
    where
      go : FreedAll (HasLearnt x) (passed l (length b.state.order))
          → Go (locks_become (passed l (length b.state.order)) c)
      go all = go_locks x n gone (passed l (length b.state.order)) b c all.left all.given state frames cuts inv

  go_unlocks : (t : Bool) (w : Who) (mode : Mode) (key : List ℕ) (b : Sofar) → Go b → Go (unlocks t w mode key b)
  go_unlocks false w mode key b inv = inv
  go_unlocks true w mode key b inv = go_passed _ b (frees w mode key b) inv.requests refl refl refl inv

  go_back : (t : Bool) (r : Request) (b : Sofar) → Go b → Go (gives_back t r b)
  go_back true r b inv = go_passed _ b (frees r.who r.mode r.name b) inv.requests refl refl refl inv
  go_back false r b inv = go_table x n gone (without_ticket b.state.locks r.who.session r.ticket) b b inv.requests refl refl refl inv

  go_granted : (o : Option Request) (b : Sofar) → Go b → Go (cancels_granted o b)
  go_granted None b inv = inv
  go_granted (Some r) b inv = go_back (holds_it r.who r.name r.mode b.state.locks.holds) r b inv

  go_cancels : (o : Option Request) (s ticket : ℕ) (b : Sofar) → Go b → Go (cancels_ticket o s ticket b)
  go_cancels None s ticket b inv = go_granted (granted_with b.state.locks s ticket) b inv
  go_cancels (Some r) s ticket b inv =
      go_passed _ b (frees r.who r.mode r.name b)
      (all_filtered (λ (q : Request). HasLearnt x q.who.session) (is_other_ticket s ticket) b.state.locks.requests inv.requests) refl refl refl inv

  -- a session is done

  go_done : (s : ℕ) (b : Sofar) → RoundFits x b.state.order (unawaited s b.state).round → Go b → Go (becomes (unawaited s) b)
  go_done s b round inv =
      go_by x n gone b (becomes (unawaited s) b) (unawaited s b.state) refl inv.frames refl (record {
        conns = refl;
        lists = lists_same b.state.order b.state.order refl;
        dials = refl;
        callers = refl;
        noted = inv.noted;
        requests = inv.requests;
        replies = inv.replies;
        round = round;
      }) inv

  -- What a fresh message makes goes on.
  pub go_message : (m : Up) (s : ℕ) (b c : Sofar) → HasLearnt x s → RoundFits x b.state.order (unawaited s b.state).round → Takes m s b c → Go b → Go c
  go_message (Hello app dial) s b c learnt round t inv = absurd t
  go_message (Recover app q epoch taken dial) s b c learnt round t inv = absurd t
  go_message (Update w job txn op) s b c learnt round t inv = takes_one s w (entries.Update s w job txn op) b c tt t inv
  go_message (Add w job key amount) s b c learnt round t inv = takes_owed s w job (entries.Update s w job 0 (ops.Add key amount)) b c tt learnt t inv
  go_message (Fetch key) s b c learnt round t inv = takes_fetch s key b c learnt t inv
  go_message (Ask ticket job mode key) s b c learnt round t inv = takes_ask s ticket job mode key b c learnt t inv
  go_message (Unlock job mode key) s b c learnt round t inv =
      subst (λ (d : Sofar). GoInv x n gone d) (sym t.after) (go_unlocks (holds_it (who s job) key mode b.state.locks.holds) (who s job) mode key b inv)
  go_message (Cancel ticket) s b c learnt round t inv =
      subst (λ (d : Sofar). GoInv x n gone d) (sym t.after) (go_cancels (waiting_with b.state.locks s ticket) s ticket b inv)
  go_message (Commit w job txn wanted) s b c learnt round t inv = takes_commit wanted s w job (entries.Commit s w job txn) b c tt learnt t inv
  go_message (Rollback w job txn) s b c learnt round t inv = takes_owed s w job (entries.Rollback s w job txn) b c tt learnt t inv
  go_message (Sync ticket) s b c learnt round t inv =
      subst (λ (d : Sofar). GoInv x n gone d) (sym t.after) (go_reply x n gone (length b.state.order) _ b learnt inv)
  go_message Done s b c learnt round t inv = subst (λ (d : Sofar). GoInv x n gone d) (sym t.after) (go_done s b round inv)
  go_message (Claim job mode number at key) s b c learnt round t inv =
      subst (λ (d : Sofar). GoInv x n gone d) (sym t.after) (go_table x n gone (claimed b.state.locks (who s job) key mode number at) b b inv.requests refl refl refl inv)
  go_message Bare s b c learnt round t inv = absurd t
