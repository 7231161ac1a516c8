-- A data server's step that takes the next message of a session: an Ask is counted in the end, and no request with a ticket that is given up is left.
use Rattle.std.proofs.Common.{◌≡◌, ◌≤◌, ◌⊎◌, inl, inr, ℕ, ◌+◌, Bool, true, false, not, cond, List, [], ◌∷◌, filter, length, Option, Some, None, refl, sym, ◌∙◌, ap, subst, arith}
use Rattle.std.specs.Prelude.{Ok, Result}
use Rattle.std.specs.List.{AllByRecursion, find}
use Rattle.std.proofs.lemmas.Bool.{false≢true}
use Rattle.std.proofs.lemmas.List.{length-append}
use Rattle.plain_orders.specs.declared.entry.Entry.{Entry}
use Rattle.plain_orders.specs.declared.mode.Mode.{Mode}
use Rattle.plain_orders.specs.Entries.{live}
use Rattle.link_window.specs.declared.window.Taken.{Taken}
use Rattle.link_window.specs.declared.window.Taken.TheVariants.{Fresh}
use Rattle.link_window.specs.declared.window.WindowError.{WindowError}
use Rattle.lock_table.specs.declared.rows.Request.{Request}
use Rattle.lock_table.specs.LockWords.{Freed, Locks, granted_with, holds_it, is_other_ticket, is_ticket, lowered, waiting_with, without_grant, without_request, without_ticket}
use Rattle.ecp_messages.specs.declared.up.Up.{Up}
use Rattle.ecp_messages.specs.declared.up.Up.TheVariants as up
use Rattle.ecp_messages.specs.declared.up.UpFrame.{UpFrame}
use Rattle.end_words.specs.Windows.{Window, with_taken}
use Rattle.data_rules.specs.DataState.{DataState, SessionWindow}
use Rattle.data_rules.specs.declared.data_in.DataIn.TheVariants as data_in
use Rattle.data_rules.specs.declared.rows.Kind.{Kind}
use Rattle.data_rules.specs.declared.rows.Role.{Role}
use Rattle.data_rules.specs.Frames.{TakesBound, TakesFrame, TakesFresh, TakesNumbered, EndsStray, kind_of, took}
use Rattle.data_rules.specs.Granting.{frees, locks_become}
use Rattle.data_rules.specs.Messages.{IsStray, Takes, cancels_granted, cancels_ticket, gives_back}
use Rattle.data_rules.specs.Puts.{Sofar, begun, window_in}
use Rattle.data_rules.specs.Step.{FrameStep}
use Rattle.cluster_invariant.specs.Words.{IsFront}
use Rattle.cluster_invariant.proofs.AllLists.{all_passed}
use Rattle.cluster_invariant.proofs.Parts.{part_all}
use Rattle.cluster_invariant.proofs.PieceKinds.{LockCall, Asks, Unlocks, Withdraws, GivesBack, ForgetsTicket, Claims, Cancels, Releases, Piece, calls, makes}
use Rattle.cluster_invariant.proofs.PieceMay.{CallsMay, ComesAgainMay, Coming, TakesMay}
use Rattle.cluster_invariant.proofs.Pieces.{MayMake, kept_by_pieces}
use Rattle.cluster_invariant.proofs.PiecesOfSteps.{StepFrom, behind_pieces}
use Rattle.cluster_invariant.proofs.RequestParts.{become_locks, pass_part}
use Rattle.link_kept.proofs.FitsWell.{is_hello}
use Rattle.link_kept.proofs.OrderGrows.{order_grows}
use Rattle.link_kept.proofs.WindowLists.{set_here}
use Rattle.link_kept.proofs.WindowPieces.{SameWindows, same_calls}
use Rattle.asks_kept.proofs.CountsPieces.{Counts, counts_piece, taken_in}
use Rattle.asks_kept.proofs.TableAlong.{call_left, table_piece}

module _ (old : DataState) (now conn : ℕ) (f : UpFrame) (c : Sofar) (from : StepFrom old) (steps : FrameStep (begun old) now conn f c) (s : ℕ)
    (may : TakesMay (record { old = old; now = now; input = data_in.Frame conn f }) conn s f (begun old)) where
  abbrev t : Coming
  t = record { old = old; now = now; input = data_in.Frame conn f }

  abbrev first : Sofar
  first = took s f.ack (begun old)

  -- a frame is one
  one_frame : (k : ℕ) (g : UpFrame) → data_in.Frame conn f ≡ data_in.Frame k g → f ≡ g
  one_frame k g same = cc

  -- what it makes that isn't stray
  fresh_takes : (IsStray f.message s old → ⊥) → Takes f.message s first steps.taken
  fresh_takes kept = go numbered
    where
      bound : TakesBound (kind_of f.message) (begun old) conn now s f steps.taken
      bound = subst (λ (r : Option Role). TakesFrame r (begun old) conn now f steps.taken) may.on.bound steps.takes

      numbered : TakesNumbered (Ok Fresh) (begun old) conn now s f steps.taken
      numbered =
          subst (λ (r : Result Taken WindowError). TakesNumbered r (begun old) conn now s f steps.taken) may.fresh
          (subst (λ (k : Kind). TakesBound k (begun old) conn now s f steps.taken) may.kind bound)

      go : TakesFresh (begun old) s f.ack f.message steps.taken ⊎ EndsStray (begun old) conn now s f.message steps.taken → Takes f.message s first steps.taken
      go (inl takes) = takes.made
      go (inr stray) = absurd (kept stray.stray)

  -- an Ask

  module _ (ticket job : ℕ) (mode : Mode) (key : List ℕ) (says : f.message ≡ up.Ask ticket job mode key) where
    record Counted (b : Sofar) : Type 0 where
      lives : live b.state.order s ≡ true
      within : s ≤ length b.state.order
      taken : taken_in b s ≡ taken_in (begun old) s + 1

    counted_piece : (p : Piece) (b : Sofar) → MayMake t p b → Counted b → Counted (makes t.now p b)
    counted_piece p b m h = go (counts_piece t s p b m)
      where
        longer : IsFront b.state.order (makes t.now p b).state.order → s ≤ length (makes t.now p b).state.order
        longer front = omega (arith, h.within, ap (λ (es : List Entry). length es) front.1, length-append b.state.order front.0)

        again : (k kept : ℕ) → ComesAgainMay t s k kept b → ⊥
        again k kept a =
            (let same : f ≡ a.came.came.up = one_frame k a.came.came.up a.came.came.its in
            let is : f.message ≡ up.Recover a.app s a.came.epoch a.came.taken a.came.dial = ap (λ (g : UpFrame). g.message) same ∙ a.came.came.says in
            let no : up.Ask ticket job mode key ≡ up.Recover a.app s a.came.epoch a.came.taken a.came.dial = sym says ∙ is in
            absurd cc)

        begins : (s ≡ length b.state.order + 1) ⊎ ((k : ℕ) × (kept : ℕ) × ComesAgainMay t s k kept b) → Counted (makes t.now p b)
        begins (inl is) = absurd (let low : s ≤ length b.state.order = h.within in omega (arith, is, low))
        begins (inr a) = absurd (again a.0 a.1 a.2)

        go : Counts t b (makes t.now p b) s → Counted (makes t.now p b)
        go (inl stays) = record { lives = stays.lives ∙ h.lives; within = longer (order_grows t.now p b); taken = stays.taken ∙ h.taken }
        go (inr (inl b_new)) = begins b_new.why
        go (inr (inr (inl ends))) = absurd (false≢true (sym (ap is_hello says) ∙ ends.closes))
        go (inr (inr (inr more))) = absurd (let one : taken_in b s ≡ taken_in (begun old) s = ap (λ (e : Sofar). taken_in e s) more.may.first in omega (arith, one, h.taken))

    -- It is counted in the end, and the session is live.
    pub ask_counts : live old.order s ≡ true → s ≤ length old.order → (live c.state.order s ≡ true) × (taken_in c s ≡ taken_in (begun old) s + 1)
    ask_counts lives within =
        let h : Counted c = kept_by_pieces t Counted counted_piece steps.taken c (behind_pieces old now conn f c from steps) (subst Counted (sym takes.after) asked_now) in
        (h.lives, h.taken)
      where
        takes : Takes (up.Ask ticket job mode key) s first steps.taken
        takes = subst (λ (m : Up). Takes m s first steps.taken) says (fresh_takes (λ stray. subst (λ (m : Up). IsStray m s old) says stray))

        r : Request
        r = record { who = record { session = s; job = job }; ticket = ticket; name = key; mode = mode }

        asked_now : Counted (calls (Asks r) first)
        asked_now = go (same_calls (Asks r) first)
          where
            go : SameWindows first (calls (Asks r) first) → Counted (calls (Asks r) first)
            go same = record {
              lives = ap (λ (es : List Entry). live es s) same.order ∙ lives;
              within = subst (λ (es : List Entry). s ≤ length es) (sym same.order) within;
              taken = ap (λ (ws : List SessionWindow). (window_in ws s).taken) same.windows
                  ∙ ap (λ (w : Window _). w.taken) (set_here old.windows s (with_taken (window_in old.windows s) f.ack));
            }

  -- a Cancel

  module _ (ticket : ℕ) (says : f.message ≡ up.Cancel ticket) where
    -- it has another ticket, or is another session's
    abbrev Other : Request → Type 0
    Other q = is_other_ticket s ticket q ≡ true

    abbrev AllOther : Locks → Type 0
    AllOther l = AllByRecursion Other l.requests

    other_call : (b : Sofar) (call : LockCall) → CallsMay t call b → AllOther b.state.locks → AllOther (calls call b).state.locks
    other_call b (Asks r) m all =
        absurd (let same : f ≡ m.its.up = one_frame m.its.conn m.its.up m.its.on.came in
        let no : up.Cancel ticket ≡ up.Ask r.ticket r.who.job r.mode r.name = sym says ∙ ap (λ (g : UpFrame). g.message) same ∙ m.says in cc)
    other_call b (Unlocks who mode key) m all = part_all Other _ b.state.locks.requests (call_left (Unlocks who mode key) b tt) all
    other_call b (Withdraws r session k) m all = part_all Other _ b.state.locks.requests (call_left (Withdraws r session k) b tt) all
    other_call b (GivesBack r) m all = part_all Other _ b.state.locks.requests (call_left (GivesBack r) b tt) all
    other_call b (ForgetsTicket r) m all = part_all Other _ b.state.locks.requests (call_left (ForgetsTicket r) b tt) all
    other_call b (Claims who key mode number at) m all = part_all Other _ b.state.locks.requests (call_left (Claims who key mode number at) b tt) all
    other_call b (Cancels r) m all = part_all Other _ b.state.locks.requests (call_left (Cancels r) b tt) all
    other_call b (Releases session) m all = part_all Other _ b.state.locks.requests (call_left (Releases session) b tt) all

    -- none waits with it
    none_waits : (rs : List Request) → find (is_ticket s ticket) rs ≡ None → AllByRecursion Other rs
    none_waits [] none = tt
    none_waits (q ∷ rs) none = go (is_ticket s ticket q) refl none (none_waits rs)
      where
        go : (b : Bool) → is_ticket s ticket q ≡ b → cond b (Some q) (find (is_ticket s ticket) rs) ≡ None → (find (is_ticket s ticket) rs ≡ None → AllByRecursion Other rs)
            → AllByRecursion Other (q ∷ rs)
        go true is found more = absurd cc
        go false is found more = (ap not is, more found)

    become : (g : Freed) (b : Sofar) → AllOther g.locks → AllOther (locks_become g b).state.locks
    become g b is = subst AllOther (sym (become_locks g b)) is

    given_back : (held : Bool) (r : Request) → AllOther old.locks → AllOther (gives_back held r first).state.locks
    given_back true r all =
        become (without_grant old.locks r (length old.order)) (frees r.who r.mode r.name first)
        (part_all Other _ old.locks.requests
        (pass_part (record (without_ticket old.locks r.who.session r.ticket) { holds = lowered r.who r.name r.mode old.locks.holds }) [] [] old.locks.requests (length old.order)) all)
    given_back false r all = all

    granted : (o : Option Request) → AllOther old.locks → AllOther (cancels_granted o first).state.locks
    granted None all = all
    granted (Some r) all = given_back (holds_it r.who r.name r.mode old.locks.holds) r all

    cancelled : (o : Option Request) → waiting_with old.locks s ticket ≡ o → AllOther (cancels_ticket o s ticket first).state.locks
    cancelled None none = granted (granted_with old.locks s ticket) (none_waits old.locks.requests none)
    cancelled (Some r) some =
        become (without_request old.locks s ticket (length old.order)) (frees r.who r.mode r.name first)
        (part_all Other _ (filter (is_other_ticket s ticket) old.locks.requests)
        (pass_part (record old.locks { requests = filter (is_other_ticket s ticket) old.locks.requests }) [] [] (filter (is_other_ticket s ticket) old.locks.requests) (length old.order))
        (all_passed (is_other_ticket s ticket) old.locks.requests))

    -- No request with the ticket is left in the end.
    pub cancel_gone : AllByRecursion (λ (q : Request). is_other_ticket s ticket q ≡ true) c.state.locks.requests
    cancel_gone =
        kept_by_pieces t (λ b. AllOther b.state.locks) (λ p b m all. table_piece AllOther t p b m (other_call b) all) steps.taken c
        (behind_pieces old now conn f c from steps)
        (subst (λ (b : Sofar). AllOther b.state.locks) (sym takes.after) (cancelled (waiting_with old.locks s ticket) refl))
      where
        takes : Takes (up.Cancel ticket) s first steps.taken
        takes = subst (λ (m : Up). Takes m s first steps.taken) says (fresh_takes (λ stray. subst (λ (m : Up). IsStray m s old) says stray))
