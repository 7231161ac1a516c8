-- A frame with an item: it enters where it is new, and what follows each frame enters none.
use Rattle.std.proofs.Common.{◌≡◌, ℕ, Bool, true, false, List, Option, Some, None, refl, sym, ◌∙◌, ap, subst}
use Rattle.std.proofs.lemmas.Bool.{false≢true}
use Rattle.plain_orders.specs.declared.entry.Entry.{Entry}
use Rattle.plain_orders.specs.declared.entry.Entry.TheVariants as entries
use Rattle.plain_orders.specs.declared.op.Op.{Op}
use Rattle.plain_orders.specs.declared.op.Op.TheVariants as ops
use Rattle.plain_orders.specs.declared.sum.Sum.{Sum}
use Rattle.plain_orders.specs.declared.sum.Sum.TheVariants as sums
use Rattle.plain_orders.specs.Answers.{sum_at}
use Rattle.plain_orders.specs.Entries.{entry_at}
use Rattle.plain_orders.specs.Ordered.{MayFollow}
use Rattle.plain_runs.specs.Plain.{Server}
use Rattle.ecp_messages.specs.declared.up.Up.{Up}
use Rattle.ecp_messages.specs.declared.up.Up.TheVariants as up
use Rattle.ecp_messages.specs.declared.up.UpFrame.{UpFrame}
use Rattle.end_words.specs.Windows.{owes_bare}
use Rattle.data_rules.specs.DataState.{DataState}
use Rattle.data_rules.specs.declared.data_in.DataIn.TheVariants as data_in
use Rattle.data_rules.specs.declared.rows.Kind.TheVariants.{Numbered}
use Rattle.data_rules.specs.declared.rows.Role.{Role}
use Rattle.data_rules.specs.declared.rows.Role.TheVariants.{Bound, Closing, New, Waiting}
use Rattle.data_rules.specs.Conns.{ends_conn, role_of}
use Rattle.data_rules.specs.Entering.{enters}
use Rattle.data_rules.specs.Frames.{Ends, TakesFirst, acknowledged, bares_role, kind_of, settled, took}
use Rattle.data_rules.specs.Leaving.{bare_on, bare_to, flushed}
use Rattle.data_rules.specs.Messages.{Takes, TakesCommit, TakesItem, TakesOwed, enters_if, is_new, takes_item}
use Rattle.data_rules.specs.Opening.{rounds}
use Rattle.data_rules.specs.Owing.{owes_entry, owes_entry_if, owes_item, owes_op, owes_place, owes_sum}
use Rattle.data_rules.specs.Places.{item_place}
use Rattle.data_rules.specs.Puts.{Sofar, begun, conn_of, window_of, writes}
use Rattle.plain_orders.specs.declared.act.Act.TheVariants as act
use Rattle.data_rules.specs.Step.{FrameStep}
use Rattle.cluster_invariant.specs.Rounds.{is_item}
use Rattle.cluster_invariant.proofs.PieceMay.{Coming, EntersMay, TakesMay, item_of}
use Rattle.cluster_invariant.proofs.Pieces.{and_then}
use Rattle.cluster_invariant.proofs.PiecesOfReplies.{flush_pieces}
use Rattle.cluster_invariant.proofs.PiecesOfRounds.{rounds_pieces}
use Rattle.cluster_invariant.proofs.PutLaws.{appends_state}
use Rattle.cluster_invariant.proofs.RoundBefore.{round_same}
use Rattle.items_server.proofs.FrameWays.{ends_same, taken_by}
use Rattle.items_server.proofs.Grew.{Grew, grew_none, grew_pieces, grew_push, grew_same}
use Rattle.items_server.proofs.ItemRows.{Right}

-- what follows each frame

tick_of : DataState → ℕ → Coming
tick_of old now = record { old = old; now = now; input = data_in.Tick }

tick_none : (old : DataState) (now : ℕ) (e : Entry) (b : Sofar) → EntersMay (record { old = old; now = now; input = data_in.Tick }) e b → ⊥
tick_none old now e b may = no may.its.conn may.its.up may.its.on.came
  where
    no : (conn : ℕ) (f : UpFrame) → data_in.Tick ≡ data_in.Frame conn f → ⊥
    no conn f is = cc

bared_order : (r : Option Role) (b : Sofar) → (bares_role r b).state.order ≡ b.state.order
bared_order r b = go r
  where
    by : (s conn : ℕ) (owed : Bool) → (bare_to owed s conn b).state.order ≡ b.state.order
    by s conn true = refl
    by s conn false = refl

    on : (s : ℕ) (o : Option ℕ) → (bare_on o s b).state.order ≡ b.state.order
    on s None = refl
    on s (Some conn) = by s conn (owes_bare (window_of b.state s))

    go : (q : Option Role) → (bares_role q b).state.order ≡ b.state.order
    go None = refl
    go (Some New) = refl
    go (Some Waiting) = refl
    go (Some (Bound s)) = on s (conn_of b.state s)
    go (Some (Closing s)) = refl

pub grew_settled : (v : Server) (es : List Entry) (conn now : ℕ) (b : Sofar) → Grew v es b → Grew v es (settled conn now b)
grew_settled v es conn now b g =
    grew_same v es (flushed (rounds now b)) (settled conn now b) (bared_order (role_of (flushed (rounds now b)).state conn) (flushed (rounds now b)))
    (grew_pieces v es t (tick_none b.state now) b (flushed (rounds now b))
    (and_then t b (rounds now b) (flushed (rounds now b)) (rounds_pieces t b (round_same t b.state refl refl)) (flush_pieces t (rounds now b))) g)
  where
    t : Coming
    t = record { old = b.state; now = now; input = data_in.Tick }

-- answers leave the order

owed_sum : (x : Sum) (s job w at : ℕ) (b : Sofar) → (owes_sum x s job w at b).state.order ≡ b.state.order
owed_sum sums.Nothing s job w at b = refl
owed_sum (sums.Whole v) s job w at b = refl
owed_sum sums.NotWhole s job w at b = refl
owed_sum sums.Range s job w at b = refl

owed_op : (o : Op) (s job w at : ℕ) (b : Sofar) → (owes_op o s job w at b).state.order ≡ b.state.order
owed_op (ops.Set key value) s job w at b = refl
owed_op (ops.Kill key) s job w at b = refl
owed_op (ops.Add key amount) s job w at b = owed_sum (sum_at b.state.order at) s job w at b

owed_entry : (e : Entry) (s job w at : ℕ) (b : Sofar) → (owes_entry e s job w at b).state.order ≡ b.state.order
owed_entry (entries.Epoch number) s job w at b = refl
owed_entry (entries.Opened q app) s job w at b = refl
owed_entry (entries.Closed q) s job w at b = refl
owed_entry (entries.Update q k j txn op) s job w at b = owed_op op s job w at b
owed_entry (entries.Commit q k j txn) s job w at b = refl
owed_entry (entries.Rollback q k j txn) s job w at b = refl

owed_order : (s job w : ℕ) (b : Sofar) → (owes_item s job w b).state.order ≡ b.state.order
owed_order s job w b = go (item_place b.state.order s w)
  where
    by : (at : ℕ) (o : Option Entry) → (owes_entry_if o s job w at b).state.order ≡ b.state.order
    by at None = refl
    by at (Some e) = owed_entry e s job w at b

    go : (o : Option ℕ) → (owes_place o s job w b).state.order ≡ b.state.order
    go None = refl
    go (Some at) = by at (entry_at b.state.order at)

-- a fresh item

module _ (v : Server) (es : List Entry) (s w : ℕ) (e : Entry) (b : Sofar) (g : Grew v es b) (right : MayFollow b.state.order e → Right v b.state.order e) where
  grew_item : (is_new b.state s w ≡ true → MayFollow b.state.order e) → Grew v es (takes_item s w e b)
  grew_item fits = go (is_new b.state s w) refl
    where
      go : (new : Bool) → is_new b.state s w ≡ new → Grew v es (enters_if new e b)
      go false old = g
      go true new =
          grew_push v es b (enters e b) e (ap (λ (d : DataState). d.order) (appends_state e (writes (act.Enter b.state.server e) b)).state) (right (fits new)) g

  grew_owed : (job : ℕ) (c : Sofar) → TakesOwed b s w job e c → Grew v es c
  grew_owed job c takes = grew_same v es (takes_item s w e b) c (ap (λ (x : Sofar). x.state.order) takes.after ∙ owed_order s job w (takes_item s w e b)) (grew_item takes.fits)

  grew_one : (c : Sofar) → TakesItem b s w e c → Grew v es c
  grew_one c takes = grew_same v es (takes_item s w e b) c (ap (λ (x : Sofar). x.state.order) takes.after) (grew_item takes.fits)

  grew_commit : (wanted : Bool) (job : ℕ) (c : Sofar) → TakesCommit wanted b s w job e c → Grew v es c
  grew_commit true job c takes = grew_owed job c takes
  grew_commit false job c takes = grew_one c takes

fresh_item : (v : Server) (es : List Entry) (s : ℕ) (b c : Sofar) (m : Up) → is_item m ≡ true → Grew v es b
    → ((e : Entry) → item_of s m ≡ Some e → MayFollow b.state.order e → Right v b.state.order e) → Takes m s b c → Grew v es c
fresh_item v es s b c (up.Hello app dial) is g right takes = absurd takes
fresh_item v es s b c (up.Recover app q epoch taken dial) is g right takes = absurd takes
fresh_item v es s b c (up.Update w job txn op) is g right takes = grew_one v es s w (entries.Update s w job txn op) b g (right (entries.Update s w job txn op) refl) c takes
fresh_item v es s b c (up.Add w job key amount) is g right takes =
    grew_owed v es s w (entries.Update s w job 0 (ops.Add key amount)) b g (right (entries.Update s w job 0 (ops.Add key amount)) refl) job c takes
fresh_item v es s b c (up.Fetch key) is g right takes = absurd (false≢true is)
fresh_item v es s b c (up.Ask ticket job mode key) is g right takes = absurd (false≢true is)
fresh_item v es s b c (up.Unlock job mode key) is g right takes = absurd (false≢true is)
fresh_item v es s b c (up.Cancel ticket) is g right takes = absurd (false≢true is)
fresh_item v es s b c (up.Commit w job txn wanted) is g right takes =
    grew_commit v es s w (entries.Commit s w job txn) b g (right (entries.Commit s w job txn) refl) wanted job c takes
fresh_item v es s b c (up.Rollback w job txn) is g right takes =
    grew_owed v es s w (entries.Rollback s w job txn) b g (right (entries.Rollback s w job txn) refl) job c takes
fresh_item v es s b c (up.Sync ticket) is g right takes = absurd (false≢true is)
fresh_item v es s b c up.Done is g right takes = absurd (false≢true is)
fresh_item v es s b c (up.Claim job mode number at key) is g right takes = absurd (false≢true is)
fresh_item v es s b c up.Bare is g right takes = absurd (false≢true is)

-- an item is a numbered message, and no connection begins with one

pub item_kind : (m : Up) → is_item m ≡ true → kind_of m ≡ Numbered
item_kind (up.Hello app dial) is = absurd (false≢true is)
item_kind (up.Recover app q epoch taken dial) is = absurd (false≢true is)
item_kind (up.Update w job txn op) is = refl
item_kind (up.Add w job key amount) is = refl
item_kind (up.Fetch key) is = refl
item_kind (up.Ask ticket job mode key) is = refl
item_kind (up.Unlock job mode key) is = refl
item_kind (up.Cancel ticket) is = refl
item_kind (up.Commit w job txn wanted) is = refl
item_kind (up.Rollback w job txn) is = refl
item_kind (up.Sync ticket) is = refl
item_kind up.Done is = refl
item_kind (up.Claim job mode number at key) is = refl
item_kind up.Bare is = absurd (false≢true is)

pub first_ends : (m : Up) → is_item m ≡ true → (b : Sofar) (conn now : ℕ) (c : Sofar) → TakesFirst m b conn now c → Ends b conn now c
first_ends (up.Hello app dial) is b conn now c takes = absurd (false≢true is)
first_ends (up.Recover app q epoch taken dial) is b conn now c takes = absurd (false≢true is)
first_ends (up.Update w job txn op) is b conn now c takes = takes
first_ends (up.Add w job key amount) is b conn now c takes = takes
first_ends (up.Fetch key) is b conn now c takes = takes
first_ends (up.Ask ticket job mode key) is b conn now c takes = takes
first_ends (up.Unlock job mode key) is b conn now c takes = takes
first_ends (up.Cancel ticket) is b conn now c takes = takes
first_ends (up.Commit w job txn wanted) is b conn now c takes = takes
first_ends (up.Rollback w job txn) is b conn now c takes = takes
first_ends (up.Sync ticket) is b conn now c takes = takes
first_ends up.Done is b conn now c takes = takes
first_ends (up.Claim job mode number at key) is b conn now c takes = takes
first_ends up.Bare is b conn now c takes = takes

-- The step of a frame with an item.
pub grew_frame : (v : Server) (old : DataState) (now conn : ℕ) (f : UpFrame) → is_item f.message ≡ true
    → ((s : ℕ) (e : Entry) → TakesMay (record { old = old; now = now; input = data_in.Frame conn f }) conn s f (begun old) → item_of s f.message ≡ Some e → MayFollow old.order e → Right v old.order e)
    → (c : Sofar) → FrameStep (begun old) now conn f c → Grew v old.order c
grew_frame v old now conn f is right c step =
    subst (Grew v old.order) (sym step.after)
    (grew_settled v old.order conn now step.taken
    (taken_by old now conn f step.taken (Grew v old.order) (item_kind f.message is) (first_ends f.message is (begun old) conn now step.taken)
    ended (grew_none v old.order (begun old) refl) (λ s may. grew_none v old.order (acknowledged s f.ack (begun old)) refl)
    (λ s may takes. fresh_item v old.order s (took s f.ack (begun old)) step.taken f.message is (grew_none v old.order (took s f.ack (begun old)) refl) (λ e its follows. right s e may its follows) takes)
    step.takes))
  where
    ended : Ends (begun old) conn now step.taken → Grew v old.order step.taken
    ended ends = subst (Grew v old.order) (sym ends.after) (grew_none v old.order (ends_conn conn now (begun old)) (ends_same conn now (begun old)).order)
