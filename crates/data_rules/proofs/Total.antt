-- Each input that may come has an outcome, a Fetch where the order is an ordered list.
use Rattle.std.proofs.Common.{◌≡◌, ◌⊎◌, ℕ, Bool, true, false, List, Option, Some, None, Result, Ok, Err, refl, inl, inr}
use Rattle.plain_orders.specs.declared.entry.Entry.{Entry}
use Rattle.plain_orders.specs.declared.entry.Entry.TheVariants as entries
use Rattle.plain_orders.specs.declared.op.Op.TheVariants as ops
use Rattle.plain_orders.specs.Ordered.{MayFollow, IsOrdered}
use Rattle.ecp_messages.specs.declared.up.Up.{Up}
use Rattle.ecp_messages.specs.declared.up.Up.TheVariants.{Hello, Recover, Update, Add, Fetch, Ask, Unlock, Cancel, Commit, Rollback, Sync, Done, Claim, Bare}
use Rattle.ecp_messages.specs.declared.up.UpFrame.{UpFrame}
use Rattle.ecp_messages.specs.Ups.{IsUpFrame, up_row}
use Rattle.ecp_messages.specs.Rows.{IsField, IsChange}
use Rattle.plain_orders.specs.declared.op.Op.{Op}
use Rattle.plain_orders.specs.declared.mode.Mode.{Mode}
use Rattle.std.specs.List.{AllByRecursion}
use Rattle.link_window.specs.declared.window.Taken.{Taken}
use Rattle.link_window.specs.declared.window.Taken.TheVariants.{Fresh, Repeat}
use Rattle.link_window.specs.declared.window.WindowError.{WindowError}
use Rattle.data_rules.specs.declared.data_in.DataIn.TheVariants.{Frame, Connected, Broken, Tick, Saved}
use Rattle.data_rules.specs.declared.rows.Role.{Role}
use Rattle.data_rules.specs.declared.rows.Role.TheVariants.{New, Waiting, Bound, Closing}
use Rattle.data_rules.specs.declared.rows.Kind.{Kind}
use Rattle.data_rules.specs.declared.rows.Kind.TheVariants.{Opening, Numbered, Unnumbered}
use Rattle.data_rules.specs.DataState.{DataState}
use Rattle.data_rules.specs.Puts.{Sofar, begun}
use Rattle.data_rules.specs.Conns.{role_of}
use Rattle.data_rules.specs.Messages.{FitsIn, CannotFollow, TakesItem, TakesOwed, TakesCommit, Takes, IsStray, is_new, is_awaited, is_refused, who}
use Rattle.data_rules.specs.Frames.{settled, took, kind_of, TakesNumbered, TakesBare, TakesBound, TakesClosing, TakesFrame}
use Rattle.data_rules.specs.Laws.{is_fetch, FetchRun, StepIsThere}
use Rattle.data_rules.proofs.FetchRuns.{fetch_finds_run}
use Rattle.data_rules.proofs.Answered.{either, first_is_answered}
use Rattle.data_rules.proofs.Decided.{Decided, set_may, kill_may, add_may, end_may}

-- an item enters, stands already, or is stray
item_fits : (d : DataState) (s w : ℕ) (e : Entry) → Decided (MayFollow d.order e) → FitsIn d s w e ⊎ CannotFollow d s w e
item_fits d s w e may = go (either (is_new d s w)) may
  where
    go : (is_new d s w ≡ true) ⊎ (is_new d s w ≡ false) → Decided (MayFollow d.order e) → FitsIn d s w e ⊎ CannotFollow d s w e
    go (inl new) (inl may) = inl (λ _. may)
    go (inl new) (inr not) = inr (new, not)
    go (inr stands) _ = inl (λ new. absurd (cc (new, stands)))

-- a fresh message is taken, or is stray
abbrev Judged : Up → ℕ → ℕ → Sofar → Type 0
Judged m s ack b = ((c : Sofar) × Takes m s (took s ack b) c) ⊎ IsStray m s b.state

-- an item that isn't answered
as_item : (b : Sofar) (s w ack : ℕ) (e : Entry) → FitsIn b.state s w e ⊎ CannotFollow b.state s w e →
    ((c : Sofar) × TakesItem (took s ack b) s w e c) ⊎ CannotFollow b.state s w e
as_item b s w ack e (inl fits) = inl (_, record { fits = fits; after = refl })
as_item b s w ack e (inr stray) = inr stray

-- one that is
as_owed : (b : Sofar) (s w job ack : ℕ) (e : Entry) → FitsIn b.state s w e ⊎ CannotFollow b.state s w e →
    ((c : Sofar) × TakesOwed (took s ack b) s w job e c) ⊎ CannotFollow b.state s w e
as_owed b s w job ack e (inl fits) = inl (_, record { fits = fits; after = refl })
as_owed b s w job ack e (inr stray) = inr stray

-- a Commit
as_commit : (wanted : Bool) (b : Sofar) (s w job ack : ℕ) (e : Entry) → FitsIn b.state s w e ⊎ CannotFollow b.state s w e →
    ((c : Sofar) × TakesCommit wanted (took s ack b) s w job e c) ⊎ CannotFollow b.state s w e
as_commit true b s w job ack e fits = as_owed b s w job ack e fits
as_commit false b s w job ack e fits = as_item b s w ack e fits

-- a Done
as_done : (b : Sofar) (s ack : ℕ) → (is_awaited b.state s ≡ true) ⊎ (is_awaited b.state s ≡ false) → Judged Done s ack b
as_done b s ack (inl awaited) = inl (_, record { awaited = awaited; after = refl })
as_done b s ack (inr stray) = inr stray

-- a Claim
as_claim : (b : Sofar) (s ack job number at : ℕ) (mode : Mode) (key : List ℕ) → (is_awaited b.state s ≡ true) ⊎ (is_awaited b.state s ≡ false) →
    (is_refused b.state (who s job) key mode ≡ true) ⊎ (is_refused b.state (who s job) key mode ≡ false) → Judged (Claim job mode number at key) s ack b
as_claim b s ack job number at mode key (inl awaited) (inr alone) = inl (_, record { awaited = awaited; alone = alone; after = refl })
as_claim b s ack job number at mode key (inl awaited) (inl refused) = inr (inr refused)
as_claim b s ack job number at mode key (inr stray) _ = inr (inl stray)

-- an Update
as_update : (b : Sofar) (s ack w job txn : ℕ) (op : Op) → IsChange op → Judged (Update w job txn op) s ack b
as_update b s ack w job txn (ops.Set key value) is = as_item b s w ack _ (item_fits b.state s w (entries.Update s w job txn (ops.Set key value)) (set_may b.state.order s w txn key value is.0.0))
as_update b s ack w job txn (ops.Kill key) is = as_item b s w ack _ (item_fits b.state s w (entries.Update s w job txn (ops.Kill key)) (kill_may b.state.order s w txn key is.0))
as_update b s ack w job txn (ops.Add key amount) is = absurd is

-- a Fetch
as_fetch : (b : Sofar) (s ack : ℕ) (key : List ℕ) → FetchRun b.state.order key → Judged (Fetch key) s ack b
as_fetch b s ack key r = inl (_, record { run = r.run; block = r.block; covered = r.covered; is_true = r.is_true; in_bytes = r.in_bytes; after = refl })

-- a numbered message
judged : (m : Up) (s ack : ℕ) (b : Sofar) → AllByRecursion IsField (up_row m).fields → (is_fetch m ≡ true → IsOrdered b.state.order) → kind_of m ≡ Numbered → Judged m s ack b
judged (Hello app dial) s ack b fields ordered is = absurd (cc (is))
judged (Recover app session epoch taken dial) s ack b fields ordered is = absurd (cc (is))
judged (Update w job txn op) s ack b fields ordered is = as_update b s ack w job txn op fields.1.1.1.0
judged (Add w job key amount) s ack b fields ordered is = as_owed b s w job ack _ (item_fits b.state s w (entries.Update s w job 0 (ops.Add key amount)) (add_may b.state.order s w key amount fields.1.1.0.0))
judged (Fetch key) s ack b fields ordered is = as_fetch b s ack key (fetch_finds_run b.state.order key (ordered refl) fields.0.below)
judged (Ask ticket job mode key) s ack b fields ordered is = inl (_, record { after = refl })
judged (Unlock job mode key) s ack b fields ordered is = inl (_, record { after = refl })
judged (Cancel ticket) s ack b fields ordered is = inl (_, record { after = refl })
judged (Commit w job txn wanted) s ack b fields ordered is = as_commit wanted b s w job ack _ (item_fits b.state s w (entries.Commit s w job txn) (end_may b.state.order s w job txn))
judged (Rollback w job txn) s ack b fields ordered is = as_owed b s w job ack _ (item_fits b.state s w (entries.Rollback s w job txn) (end_may b.state.order s w job txn))
judged (Sync ticket) s ack b fields ordered is = inl (_, record { after = refl })
judged Done s ack b fields ordered is = as_done b s ack (either (is_awaited b.state s))
judged (Claim job mode number at key) s ack b fields ordered is =
    as_claim b s ack job number at mode key (either (is_awaited b.state s)) (either (is_refused b.state (who s job) key mode))
judged Bare s ack b fields ordered is = absurd (cc (is))

-- by what the window says
numbered_there : (r : Result Taken WindowError) (b : Sofar) (conn now s : ℕ) (f : UpFrame) → Judged f.message s f.ack b → (c : Sofar) × TakesNumbered r b conn now s f c
numbered_there (Ok Fresh) b conn now s f (inl t) = (t.0, inl (record { made = t.1 }))
numbered_there (Ok Fresh) b conn now s f (inr stray) = (_, inr (record { stray = stray; ended = record { after = refl } }))
numbered_there (Ok Repeat) b conn now s f j = (_, refl)
numbered_there (Err why) b conn now s f j = (_, record { after = refl })

-- an acknowledgement by itself
bare_there : (r : Result Taken WindowError) (b : Sofar) (conn now s ack : ℕ) → (c : Sofar) × TakesBare r b conn now s ack c
bare_there (Ok answer) b conn now s ack = (_, refl)
bare_there (Err why) b conn now s ack = (_, record { after = refl })

-- on the connection of a live session
bound_there : (k : Kind) (b : Sofar) (conn now s : ℕ) (f : UpFrame) → (k ≡ Numbered → Judged f.message s f.ack b) → (c : Sofar) × TakesBound k b conn now s f c
bound_there Opening b conn now s f j = (_, record { after = refl })
bound_there Numbered b conn now s f j = numbered_there _ b conn now s f (j refl)
bound_there Unnumbered b conn now s f j = bare_there _ b conn now s f.ack

-- on that of a closed one
closing_there : (k : Kind) (b : Sofar) (conn now : ℕ) → (c : Sofar) × TakesClosing k b conn now c
closing_there Opening b conn now = (_, record { after = refl })
closing_there Numbered b conn now = (_, record { after = refl })
closing_there Unnumbered b conn now = (_, record { after = refl })

-- a frame, by what its connection is for
frame_there : (r : Option Role) (b : Sofar) (conn now : ℕ) (f : UpFrame) → IsUpFrame f → (is_fetch f.message ≡ true → IsOrdered b.state.order) → (c : Sofar) × TakesFrame r b conn now f c
frame_there None b conn now f is ordered = (_, record { after = refl })
frame_there (Some New) b conn now f is ordered = first_is_answered f.message b conn now
frame_there (Some Waiting) b conn now f is ordered = (_, record { after = refl })
frame_there (Some (Bound session)) b conn now f is ordered =
    bound_there (kind_of f.message) b conn now session f (judged f.message session f.ack b is.fields ordered)
frame_there (Some (Closing session)) b conn now f is ordered = closing_there (kind_of f.message) b conn now

pub step_is_there : StepIsThere
step_is_there d now (Frame conn up) ordered may =
    let t : (c : Sofar) × TakesFrame (role_of d conn) (begun d) conn now up c = frame_there (role_of d conn) (begun d) conn now up may ordered in
    (settled conn now t.0, record { taken = t.0; takes = t.1; after = refl })
step_is_there d now (Connected conn) ordered may = (_, refl)
step_is_there d now (Broken conn) ordered may = (_, refl)
step_is_there d now Tick ordered may = (_, refl)
step_is_there d now (Saved upto) ordered may = (_, refl)
