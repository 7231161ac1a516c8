-- Grants and holds that end, which a call of the table of locks writes: they rest on nothing here.
use Rattle.std.proofs.Common.{◌≡◌, ℕ, true, List, [], ◌∷◌, ◌++◌, append-nil, append_assoc, refl, sym, ◌∙◌, ap}
use Rattle.std.specs.Prelude.{map}
use Rattle.std.specs.List.{AllByRecursion}
use Rattle.std.proofs.lemmas.List.{map-append}
use Rattle.plain_orders.specs.declared.act.Act.{Act}
use Rattle.plain_orders.specs.declared.act.Act.TheVariants as act
use Rattle.plain_orders.specs.declared.layout.Layout.{Layout}
use Rattle.plain_orders.specs.declared.mode.Mode.{Mode}
use Rattle.plain_runs.specs.Plain.{Plain}
use Rattle.plain_runs.specs.Step.{after}
use Rattle.lock_table.specs.declared.rows.Request.{Request}
use Rattle.lock_table.specs.LockWords.{Freed, asked, freed, without_grant, without_request}
use Rattle.ecp_messages.specs.declared.down.Down.{Down}
use Rattle.data_rules.specs.Callers.{goes_on, old_welcome, sends_again}
use Rattle.data_rules.specs.Granting.{frees, grants, grants_one, locks_become, with_locks}
use Rattle.data_rules.specs.Puts.{Sofar, becomes, tells, window_of}
use Rattle.end_words.specs.Windows.{resent}
use Rattle.cluster_invariant.proofs.PieceKinds.{LockCall, Asks, Unlocks, Withdraws, GivesBack, ForgetsTicket, Claims, Cancels, Releases, calls}
use Rattle.runs_kept.proofs.ActsGo.{is_data}
use Rattle.runs_kept.proofs.NowFrom.{NowFrom}

-- a grant, or a hold that ends
pub data Row : Type 0 where
  Granted : ℕ → ℕ → ℕ → Mode → List ℕ → ℕ → Row
  Ended : ℕ → ℕ → ℕ → Mode → List ℕ → Row

-- its act
abbrev pub act_of : Row → Act
act_of (Granted d session job mode key at) = act.Grant d session job mode key at
act_of (Ended d session job mode key) = act.Free d session job mode key

row_data : (r : Row) → is_data (act_of r) ≡ true
row_data (Granted d session job mode key at) = refl
row_data (Ended d session job mode key) = refl

pub rows_data : (rs : List Row) → AllByRecursion (λ a. is_data a ≡ true) (map act_of rs)
rows_data [] = tt
rows_data (r ∷ rs) = (row_data r, rows_data rs)

pub rows_now : (l : Layout) (p : Plain) (rs : List Row) → NowFrom l p (map act_of rs)
rows_now l p [] = tt
rows_now l p (Granted d session job mode key at ∷ rs) = (tt, rows_now l (after l p (act.Grant d session job mode key at)) rs)
rows_now l p (Ended d session job mode key ∷ rs) = (tt, rows_now l (after l p (act.Free d session job mode key)) rs)

-- such acts alone are written
pub record WritesRows (b c : Sofar) : Type 0 where
  pub rows : List Row
  pub acts : c.outs.acts ≡ b.outs.acts ++ map act_of rows

pub none_written : (b c : Sofar) → c.outs.acts ≡ b.outs.acts → WritesRows b c
none_written b c same = record { rows = []; acts = same ∙ sym (append-nil b.outs.acts) }

rows_then : (b c e : Sofar) → WritesRows b c → WritesRows c e → WritesRows b e
rows_then b c e f m = record {
  rows = f.rows ++ m.rows;
  acts =
      m.acts ∙ ap (λ (xs : List Act). xs ++ map act_of m.rows) f.acts ∙ append_assoc b.outs.acts (map act_of f.rows) (map act_of m.rows)
      ∙ ap (λ (xs : List Act). b.outs.acts ++ xs) (sym (map-append act_of f.rows m.rows));
}

grants_rows : (rs : List Request) (b : Sofar) → WritesRows b (grants rs b)
grants_rows [] b = none_written b b refl
grants_rows (r ∷ rs) b =
    rows_then b (grants_one r b) (grants rs (grants_one r b))
    (record { rows = Granted b.state.server r.who.session r.who.job r.mode r.name _ ∷ []; acts = refl }) (grants_rows rs (grants_one r b))

-- the table is this one, and these are granted
pub locks_rows : (f : Freed) (b : Sofar) → WritesRows b (locks_become f b)
locks_rows f b = rows_then b (becomes (with_locks f.locks) b) (locks_become f b) (none_written b (becomes (with_locks f.locks) b) refl) (grants_rows f.grants (becomes (with_locks f.locks) b))

-- a call that releases no session
abbrev pub IsNoRelease : LockCall → Type 0
IsNoRelease (Asks r) = Unit {0}
IsNoRelease (Unlocks who mode key) = Unit {0}
IsNoRelease (Withdraws r session ticket) = Unit {0}
IsNoRelease (GivesBack r) = Unit {0}
IsNoRelease (ForgetsTicket r) = Unit {0}
IsNoRelease (Claims who key mode number at) = Unit {0}
IsNoRelease (Cancels r) = Unit {0}
IsNoRelease (Releases session) = ⊥

pub calls_rows : (call : LockCall) (b : Sofar) → IsNoRelease call → WritesRows b (calls call b)
calls_rows (Asks r) b keeps = locks_rows (asked b.state.locks r _) b
calls_rows (Unlocks who mode key) b keeps =
    rows_then b (frees who mode key b) (calls (Unlocks who mode key) b) (record { rows = Ended b.state.server who.session who.job mode key ∷ []; acts = refl })
    (locks_rows (freed b.state.locks who key mode _) (frees who mode key b))
calls_rows (Withdraws r session ticket) b keeps =
    rows_then b (frees r.who r.mode r.name b) (calls (Withdraws r session ticket) b)
    (record { rows = Ended b.state.server r.who.session r.who.job r.mode r.name ∷ []; acts = refl })
    (locks_rows (without_request b.state.locks session ticket _) (frees r.who r.mode r.name b))
calls_rows (GivesBack r) b keeps =
    rows_then b (frees r.who r.mode r.name b) (calls (GivesBack r) b) (record { rows = Ended b.state.server r.who.session r.who.job r.mode r.name ∷ []; acts = refl })
    (locks_rows (without_grant b.state.locks r _) (frees r.who r.mode r.name b))
calls_rows (ForgetsTicket r) b keeps = none_written b (calls (ForgetsTicket r) b) refl
calls_rows (Claims who key mode number at) b keeps = none_written b (calls (Claims who key mode number at) b) refl
calls_rows (Cancels r) b keeps = locks_rows (without_request b.state.locks r.who.session r.ticket _) b
calls_rows (Releases session) b keeps = absurd keeps

-- a session that goes on writes nothing

again_acts : (s conn : ℕ) (ms : List (ℕ × Down)) (b : Sofar) → (sends_again s conn ms b).outs.acts ≡ b.outs.acts
again_acts s conn [] b = refl
again_acts s conn (m ∷ ms) b = again_acts s conn ms (tells s conn m.0 m.1 b)

pub goes_on_acts : (s conn taken : ℕ) (b : Sofar) → (goes_on s conn taken b).outs.acts ≡ b.outs.acts
goes_on_acts s conn taken b = again_acts s conn (resent (window_of b.state s) taken) (tells s conn 0 (old_welcome b.state s) b)
