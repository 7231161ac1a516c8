-- The table of locks over each small change of a data server's step: what is left of its requests, and that each waits and no holder has two.
use Rattle.std.proofs.Common.{ℕ, List, [], ◌∷◌, ◌++◌, filter, length, sym, ap, subst}
use Rattle.std.specs.Prelude.{⊤}
use Rattle.plain_orders.specs.declared.act.Act.TheVariants as act
use Rattle.plain_orders.specs.declared.mode.Mode.{Mode}
use Rattle.lock_table.specs.declared.rows.Request.{Request}
use Rattle.lock_table.specs.declared.rows.Who.{Who}
use Rattle.lock_table.specs.LockWords.{Freed, Locks, asked, freed, is_hold_elsewhere, is_other_ticket, is_request_elsewhere, lowered, passed, without_grant, without_request, without_session, without_ticket}
use Rattle.ecp_messages.specs.declared.up.Up.TheVariants as up
use Rattle.data_rules.specs.DataState.{DataState}
use Rattle.data_rules.specs.Granting.{frees, locks_become}
use Rattle.data_rules.specs.Puts.{Sofar, becomes, writes}
use Rattle.cluster_invariant.proofs.Parts.{IsPart, part_left, part_same, part_then}
use Rattle.cluster_invariant.proofs.PieceKinds.{LockCall, Asks, Unlocks, Withdraws, GivesBack, ForgetsTicket, Claims, Cancels, Releases, Piece, Accepts, Forgets, Breaks, Dials, Waits, Opens, OpensNext, Resumes, GoesOn, ComesAgain, AwaitsReset, Closes, Acknowledges, Takes, TakesDone, Enters, Fetches, PutsNormal, PutsAck, Replies, Leaves, Bares, Locks as CallsLocks, RoundEnds, Ticks, calls, makes, with_replies}
use Rattle.cluster_invariant.proofs.PieceMay.{Asked, CallsMay, Coming}
use Rattle.cluster_invariant.proofs.Pieces.{MayMake}
use Rattle.cluster_invariant.proofs.PutLaws.{only_leaves}
use Rattle.cluster_invariant.proofs.RequestParts.{become_locks, cancels_part, pass_part}
use Rattle.link_kept.proofs.LockWaits.{IsAlone, TableWaits, asked_waits, claimed_waits, freed_waits, grant_waits, request_waits, session_waits}
use Rattle.asks_kept.proofs.AsksPieces.{IsPlain, fewer_piece}

-- what a table has after a call of it, and after others
abbrev pub TableGo : (Locks → Type 0) → LockCall → Sofar → Type 0
TableGo P call b = P b.state.locks → P (calls call b).state.locks

-- a change that isn't a call leaves it
pub table_piece : (P : Locks → Type 0) (t : Coming) (p : Piece) (b : Sofar) → MayMake t p b → ((call : LockCall) → CallsMay t call b → TableGo P call b)
    → P b.state.locks → P (makes t.now p b).state.locks
table_piece P t p b may called is = go p may
  where
    plain : (q : Piece) → IsPlain q → MayMake t q b → P (makes t.now q b).state.locks
    plain q at m = subst P (sym (fewer_piece t q b at m).locks) is

    go : (q : Piece) → MayMake t q b → P (makes t.now q b).state.locks
    go (Accepts conn) m = plain (Accepts conn) tt m
    go (Forgets ending conn) m = plain (Forgets ending conn) tt m
    go (Breaks ending conn session app) m = plain (Breaks ending conn session app) tt m
    go (Dials app dial) m = plain (Dials app dial) tt m
    go (Waits app conn) m = plain (Waits app conn) tt m
    go (Opens app conn) m = plain (Opens app conn) tt m
    go (OpensNext app conn) m = plain (OpensNext app conn) tt m
    go (Resumes app session conn) m = plain (Resumes app session conn) tt m
    go (GoesOn session conn taken) m = plain (GoesOn session conn taken) tt m
    go (ComesAgain session conn kept) m = plain (ComesAgain session conn kept) tt m
    go (AwaitsReset session conn at) m = plain (AwaitsReset session conn at) tt m
    go (Closes session app cause) m = plain (Closes session app cause) tt m
    go (Acknowledges conn session f) m = plain (Acknowledges conn session f) tt m
    go (Takes conn session f) m = plain (Takes conn session f) tt m
    go (TakesDone conn session f) m = plain (TakesDone conn session f) tt m
    go (Enters e) m = plain (Enters e) tt m
    go (Fetches session run block) m = plain (Fetches session run block) tt m
    go (PutsNormal app session) m = plain (PutsNormal app session) tt m
    go (PutsAck session) m = plain (PutsAck session) tt m
    go (Replies at says) m = plain (Replies at says) tt m
    go (Leaves before r behind) m =
        subst P (sym (ap (λ (d : DataState). d.locks) (only_leaves r.says (becomes (with_replies (before ++ behind)) b)).state)) is
    go (Bares session conn) m = plain (Bares session conn) tt m
    go (CallsLocks call) m = called call m is
    go RoundEnds m = plain RoundEnds tt m
    go (Ticks app session) m = plain (Ticks app session) tt m

-- Each request waits still, and no holder has two, where one that asks or claims has none.
pub waits_piece : (t : Coming) (p : Piece) (b : Sofar) → MayMake t p b
    → ((r : Request) → Asked t r.who.session (up.Ask r.ticket r.who.job r.mode r.name) b → IsAlone r.who b.state.locks.requests)
    → ((w : Who) (mode : Mode) (number at : ℕ) (key : List ℕ) → Asked t w.session (up.Claim w.job mode number at key) b → IsAlone w b.state.locks.requests)
    → TableWaits b.state.locks → TableWaits (makes t.now p b).state.locks
waits_piece t p b may asks claims waits = table_piece TableWaits t p b may (λ call m h. go call m h) waits
  where
    become : (f : Freed) (c : Sofar) → TableWaits f.locks → TableWaits (locks_become f c).state.locks
    become f c is = subst TableWaits (sym (become_locks f c)) is

    go : (call : LockCall) → CallsMay t call b → TableGo TableWaits call b
    go (Asks r) m h = become (asked b.state.locks r (length b.state.order)) b (asked_waits b.state.locks r (length b.state.order) (asks r m) h)
    go (Unlocks who mode key) m h =
        become (freed b.state.locks who key mode (length b.state.order)) (frees who mode key b) (freed_waits b.state.locks who key mode (length b.state.order) h)
    go (Withdraws r session ticket) m h =
        become (without_request b.state.locks session ticket (length b.state.order)) (frees r.who r.mode r.name b)
        (request_waits b.state.locks session ticket (length b.state.order) h)
    go (GivesBack r) m h =
        become (without_grant b.state.locks r (length b.state.order)) (frees r.who r.mode r.name b) (grant_waits b.state.locks r (length b.state.order) h)
    go (ForgetsTicket r) m h = record { wait = h.wait; one_each = h.one_each }
    go (Claims who key mode number at) m h = claimed_waits b.state.locks who key mode number at (claims who mode number at key m.asked) h
    go (Cancels r) m h =
        become (without_request b.state.locks r.who.session r.ticket (length b.state.order)) b
        (request_waits b.state.locks r.who.session r.ticket (length b.state.order) h)
    go (Releases session) m h =
        become (without_session b.state.locks session (length b.state.order)) (writes (act.Release b.state.server session) b)
        (session_waits b.state.locks session (length b.state.order) h)

-- a call leaves a part of the requests, where none comes
abbrev pub IsNoAsk : LockCall → Type 0
IsNoAsk (Asks r) = ⊥
IsNoAsk call = ⊤

passed_left : (l : Locks) (at : ℕ) → IsPart (passed l at).locks.requests l.requests
passed_left l at = pass_part l [] [] l.requests at

become_left : (rs : List Request) (f : Freed) (c : Sofar) → IsPart f.locks.requests rs → IsPart (locks_become f c).state.locks.requests rs
become_left rs f c is = subst (λ (l : Locks). IsPart l.requests rs) (sym (become_locks f c)) is

pub call_left : (call : LockCall) (b : Sofar) → IsNoAsk call → IsPart (calls call b).state.locks.requests b.state.locks.requests
call_left (Asks r) b none = absurd none
call_left (Unlocks who mode key) b none =
    become_left b.state.locks.requests (freed b.state.locks who key mode (length b.state.order)) (frees who mode key b)
    (passed_left (record b.state.locks { holds = lowered who key mode b.state.locks.holds }) (length b.state.order))
call_left (Withdraws r session ticket) b none =
    become_left b.state.locks.requests (without_request b.state.locks session ticket (length b.state.order)) (frees r.who r.mode r.name b)
    (part_then _ (filter (is_other_ticket session ticket) b.state.locks.requests) b.state.locks.requests
    (passed_left (record b.state.locks { requests = filter (is_other_ticket session ticket) b.state.locks.requests }) (length b.state.order))
    (part_left (is_other_ticket session ticket) b.state.locks.requests))
call_left (GivesBack r) b none =
    become_left b.state.locks.requests (without_grant b.state.locks r (length b.state.order)) (frees r.who r.mode r.name b)
    (passed_left (record (without_ticket b.state.locks r.who.session r.ticket) { holds = lowered r.who r.name r.mode b.state.locks.holds }) (length b.state.order))
call_left (ForgetsTicket r) b none = part_same b.state.locks.requests
call_left (Claims who key mode number at) b none = part_same b.state.locks.requests
call_left (Cancels r) b none = cancels_part (r ∷ []) b
call_left (Releases session) b none =
    become_left b.state.locks.requests (without_session b.state.locks session (length b.state.order)) (writes (act.Release b.state.server session) b)
    (part_then _ (filter (is_request_elsewhere session) b.state.locks.requests) b.state.locks.requests
    (passed_left (record {
      holds = filter (is_hold_elsewhere session) b.state.locks.holds;
      requests = filter (is_request_elsewhere session) b.state.locks.requests;
      granted = filter (is_request_elsewhere session) b.state.locks.granted;
    }) (length b.state.order)) (part_left (is_request_elsewhere session) b.state.locks.requests))
