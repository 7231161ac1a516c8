-- What a data server puts to and takes from sessions fits, by what is known of its connections, and by what is left to other parts.
use Rattle.std.proofs.Common.{◌≡◌, ◌≤◌, ◌<◌, ℕ, zero, suc, ◌+◌, Bool, true, false, List, [], ◌∷◌, length, drop, take, Option, Some, None, is_some, refl, sym, ◌∙◌, ap, arith}
use Rattle.std.specs.Prelude.{◌==◌}
use Rattle.std.specs.List.{list_any}
use Rattle.std.proofs.lemmas.Bool.{eqb-true, false≢true, true≢false}
use Rattle.plain_orders.specs.declared.entry.Entry.{Entry}
use Rattle.plain_orders.specs.declared.entry.Entry.TheVariants.{Update as UpdateEntry, Commit as CommitEntry, Rollback as RollbackEntry}
use Rattle.plain_orders.specs.declared.op.Op.TheVariants as ops
use Rattle.plain_orders.specs.declared.mode.Mode.{Mode}
use Rattle.plain_orders.specs.Entries.{live}
use Rattle.plain_orders.specs.ItemEntries.{is_item_of}
use Rattle.plain_runs.proofs.Lists.{any_take}
use Rattle.lock_table.specs.declared.rows.Request.{Request}
use Rattle.lock_table.specs.declared.rows.Who.{Who}
use Rattle.lock_table.specs.LockWords.{without_request}
use Rattle.ecp_messages.specs.declared.up.Up.{Up}
use Rattle.ecp_messages.specs.declared.up.Up.TheVariants as up
use Rattle.ecp_messages.specs.declared.up.UpFrame.{UpFrame}
use Rattle.data_rules.specs.declared.data_in.DataIn.TheVariants as data_in
use Rattle.data_rules.specs.declared.rows.Kind.TheVariants.{Numbered}
use Rattle.data_rules.specs.declared.rows.Role.TheVariants.{Bound}
use Rattle.data_rules.specs.declared.rows.Says.{Says}
use Rattle.data_rules.specs.declared.rows.Says.TheVariants.{NewWelcome, EpochWelcome, ResetOf, GrantOf, AnswerOf}
use Rattle.data_rules.specs.Conns.{role_of}
use Rattle.data_rules.specs.Puts.{Sofar, conn_of}
use Rattle.data_rules.specs.Frames.{kind_of}
use Rattle.data_rules.specs.Saving.{has_item_of}
use Rattle.cluster_runs.specs.Sent.{Lane}
use Rattle.cluster_runs.specs.Machine.{Site}
use Rattle.cluster_invariant.specs.Words.{is_begun}
use Rattle.cluster_invariant.proofs.PieceKinds.{LockCall, Asks, Unlocks, Withdraws, GivesBack, ForgetsTicket, Claims, Cancels, Releases, Piece, Accepts, Forgets, Breaks, Dials, Waits, Opens, OpensNext, Resumes, GoesOn, ComesAgain, AwaitsReset, Closes, Acknowledges, Takes, TakesDone, Enters, Fetches, PutsNormal, PutsAck, Replies, Leaves, Bares, Locks, RoundEnds, Ticks}
use Rattle.cluster_invariant.proofs.PieceMay.{Coming, Message, Asked, AnswersBy, RepliesMay, ComesAgainMay, PutsNormalMay, CallsMay, CancelsMay, ClaimsMay, item_of}
use Rattle.cluster_invariant.proofs.Pieces.{MayMake}
use Rattle.link_kept.proofs.LockWaits.{IsAlone}
use Rattle.link_kept.proofs.LockSessions.{RequestsOf}
use Rattle.link_kept.proofs.WindowsGo.{Served}
use Rattle.link_kept.proofs.WindowPieces.{SaysServed}
use Rattle.link_kept.proofs.FitsWell.{CallsWell, FitsWell}
use Rattle.link_kept.proofs.FramesFit.{FrameAt, acknowledges_well, takes_well}

-- what came on a session's connection

-- What is known of the connections where a small change is made: each is of a live session, and one on which a numbered message came is of a
-- session that learnt of the order.
pub record ConnsKnow (lane_of : ℕ → Lane) (t : Coming) (b : Sofar) : Type 0 where
  pub lives : (conn s : ℕ) → role_of b.state conn ≡ Some (Bound s) → live b.state.order s ≡ true
  pub has : (conn s : ℕ) → conn_of b.state s ≡ Some conn → live b.state.order s ≡ true
  pub learnt : (conn s : ℕ) (f : UpFrame) → t.input ≡ data_in.Frame conn f → kind_of f.message ≡ Numbered → role_of b.state conn ≡ Some (Bound s)
      → is_begun (lane_of s) ≡ true

-- What is left to other parts: that a session that comes again didn't learn of the order; that each learnt of it where a round is over; that a job asks once; that a claim is of a job that doesn't ask; and that requests of a session that was closed go the latest first.
pub record LeftToOthers (lane_of : ℕ → Lane) (t : Coming) (E : Sofar → Type 0) : Type 0 where
  pub again : (session conn kept : ℕ) (b : Sofar) → E b → ComesAgainMay t session conn kept b → (lane_of session).began ≡ None
  pub normal : (app session : ℕ) (b : Sofar) → E b → PutsNormalMay t app session b → Served lane_of b.state.order session
  pub asks : (r : Request) (b : Sofar) → E b → Asked t r.who.session (up.Ask r.ticket r.who.job r.mode r.name) b → IsAlone r.who b.state.locks.requests
  pub claims : (who : Who) (key : List ℕ) (mode : Mode) (number at : ℕ) (b : Sofar) → E b → ClaimsMay t who key mode number at b → IsAlone who b.state.locks.requests
  pub cancels : (r : Request) (b : Sofar) → E b → CancelsMay t r b
      → RequestsOf (λ s. live b.state.order s ≡ true) (without_request b.state.locks r.who.session r.ticket (length b.state.order)).grants

-- an answer is to a numbered message
answers_numbered : (m : Up) (session at : ℕ) (says : Says) (b : Sofar) → AnswersBy m session at says b → kind_of m ≡ Numbered
answers_numbered (up.Hello app dial) session at says b why = absurd why
answers_numbered (up.Recover app s epoch taken dial) session at says b why = absurd why
answers_numbered (up.Update w job txn op) session at says b why = refl
answers_numbered (up.Add w job key amount) session at says b why = refl
answers_numbered (up.Fetch key) session at says b why = refl
answers_numbered (up.Ask ticket job mode key) session at says b why = refl
answers_numbered (up.Unlock job mode key) session at says b why = refl
answers_numbered (up.Cancel ticket) session at says b why = refl
answers_numbered (up.Commit w job txn wanted) session at says b why = refl
answers_numbered (up.Rollback w job txn) session at says b why = refl
answers_numbered (up.Sync ticket) session at says b why = refl
answers_numbered up.Done session at says b why = refl
answers_numbered (up.Claim job mode number place key) session at says b why = refl
answers_numbered up.Bare session at says b why = absurd why

some_entry : (x y : Entry) → Some x ≡ Some y → x ≡ y
some_entry x y same = cc

-- an item is of the session that sent it, in a numbered message
item_numbered : (s : ℕ) (m : Up) (e : Entry) → item_of s m ≡ Some e → (kind_of m ≡ Numbered) × ((q : ℕ) → is_item_of q e ≡ (s == q))
item_numbered s (up.Hello app dial) e its = absurd cc
item_numbered s (up.Recover app q epoch taken dial) e its = absurd cc
item_numbered s (up.Update w job txn op) e its = (refl, λ q. ap (is_item_of q) (sym (some_entry (UpdateEntry s w job txn op) e its)))
item_numbered s (up.Add w job key amount) e its = (refl, λ q. ap (is_item_of q) (sym (some_entry (UpdateEntry s w job 0 (ops.Add key amount)) e its)))
item_numbered s (up.Fetch key) e its = absurd cc
item_numbered s (up.Ask ticket job mode key) e its = absurd cc
item_numbered s (up.Unlock job mode key) e its = absurd cc
item_numbered s (up.Cancel ticket) e its = absurd cc
item_numbered s (up.Commit w job txn wanted) e its = (refl, λ q. ap (is_item_of q) (sym (some_entry (CommitEntry s w job txn) e its)))
item_numbered s (up.Rollback w job txn) e its = (refl, λ q. ap (is_item_of q) (sym (some_entry (RollbackEntry s w job txn) e its)))
item_numbered s (up.Sync ticket) e its = absurd cc
item_numbered s up.Done e its = absurd cc
item_numbered s (up.Claim job mode number at key) e its = absurd cc
item_numbered s up.Bare e its = absurd cc

-- what stands in a part that a save covers wasn't synced
part_unsynced : (p : Entry → Bool) (n m : ℕ) (es : List Entry) → list_any p (drop n (take m es)) ≡ true → list_any p (drop n es) ≡ true
part_unsynced p zero m es is = any_take p m es is
part_unsynced p (suc n) zero es is = absurd (false≢true is)
part_unsynced p (suc n) (suc m) [] is = absurd (false≢true is)
part_unsynced p (suc n) (suc m) (x ∷ es) is = part_unsynced p n m es is

module _ (x : Site) (dead : ℕ → Bool) (t : Coming) (at_frame : FrameAt x dead t.old t.input) (E : Sofar → Type 0)
    (know : (b : Sofar) → E b → ConnsKnow (λ s. x.lane_at s x.past) t b) (longer : (b : Sofar) → E b → length t.old.order ≤ length b.state.order)
    (to_open : (s : ℕ) → length t.old.order < s → (x.lane_at s x.past).began ≡ None)
    (left : LeftToOthers (λ s. x.lane_at s x.past) t E)
    (items : (s : ℕ) → (x.lane_at s x.past).began ≡ None → has_item_of (drop t.old.synced t.old.order) s ≡ false) where
  -- a session on whose connection a numbered message came
  came_served : (session : ℕ) (b : Sofar) → E b → (m : Message t session b) → kind_of m.up.message ≡ Numbered
      → Served (λ s. x.lane_at s x.past) b.state.order session
  came_served session b e m kind = ((know b e).lives m.conn session m.on.bound, (know b e).learnt m.conn session m.up m.on.came kind m.on.bound)

  asked_served : (session : ℕ) (m : Up) (b : Sofar) → kind_of m ≡ Numbered → E b → Asked t session m b → Served (λ s. x.lane_at s x.past) b.state.order session
  asked_served session m b kind e a = came_served session b e a.its (ap kind_of a.says ∙ kind)

  saved_learnt : (session : ℕ) (o : Option ℕ) → (x.lane_at session x.past).began ≡ o → has_item_of (drop t.old.synced t.old.order) session ≡ true
      → is_begun (x.lane_at session x.past) ≡ true
  saved_learnt session None none is = absurd (true≢false (sym is ∙ items session none))
  saved_learnt session (Some dial) some is = ap is_some some

  reply_served : (at : ℕ) (says : Says) (b : Sofar) → E b → RepliesMay t at says b → SaysServed (λ s. x.lane_at s x.past) b.state.order says
  reply_served at (NewWelcome conn session) b e may = absurd may
  reply_served at (EpochWelcome conn session kept) b e may = absurd may
  reply_served at (ResetOf conn session place) b e may = tt
  reply_served at (GrantOf session ticket number) b e may = absurd may
  reply_served at (AnswerOf session about job number place sum) b e may =
      came_served session b e may.its (answers_numbered may.its.up.message session at (AnswerOf session about job number place sum) b may.why)

  call_fits : (call : LockCall) (b : Sofar) → E b → CallsMay t call b → CallsWell (λ s. x.lane_at s x.past) call b
  call_fits (Asks r) b e may = (asked_served r.who.session (up.Ask r.ticket r.who.job r.mode r.name) b refl e may, left.asks r b e may)
  call_fits (Unlocks who mode key) b e may = tt
  call_fits (Withdraws r session ticket) b e may = tt
  call_fits (GivesBack r) b e may = tt
  call_fits (ForgetsTicket r) b e may = tt
  call_fits (Claims who key mode number at) b e may =
      let is : Served (λ s. x.lane_at s x.past) b.state.order who.session = asked_served who.session (up.Claim who.job mode number at key) b refl e may.asked in
      (((λ still. is.0), is.1), left.claims who key mode number at b e may)
  call_fits (Cancels r) b e may = left.cancels r b e may
  call_fits (Releases session) b e may = tt

  -- So all fits.
  pub fits_well : (p : Piece) (b : Sofar) → MayMake t p b → E b → FitsWell (λ s. x.lane_at s x.past) p b
  fits_well (Accepts conn) b may e = tt
  fits_well (Forgets ending conn) b may e = tt
  fits_well (Breaks ending conn session app) b may e = tt
  fits_well (Dials app dial) b may e = tt
  fits_well (Waits app conn) b may e = tt
  fits_well (Opens app conn) b may e = let low : length t.old.order ≤ length b.state.order = longer b e in to_open (length b.state.order + 1) (omega (arith, low))
  fits_well (OpensNext app conn) b may e = let low : length t.old.order ≤ length b.state.order = longer b e in to_open (length b.state.order + 1) (omega (arith, low))
  fits_well (Resumes app session conn) b may e = tt
  fits_well (GoesOn session conn taken) b may e = tt
  fits_well (ComesAgain session conn kept) b may e = left.again session conn kept b e may
  fits_well (AwaitsReset session conn at) b may e = tt
  fits_well (Closes session app cause) b may e = tt
  fits_well (Acknowledges conn session f) b may e = acknowledges_well x dead t at_frame conn session f b may
  fits_well (Takes conn session f) b may e = takes_well x dead t at_frame conn session f b may
  fits_well (TakesDone conn session f) b may e = takes_well x dead t at_frame conn session f b may.takes
  fits_well (Enters entry) b may e =
      λ s unlearnt. go s unlearnt (may.session == s) refl
    where
      item : (kind_of may.its.up.message ≡ Numbered) × ((q : ℕ) → is_item_of q entry ≡ (may.session == q))
      item = item_numbered may.session may.its.up.message entry may.item

      learnt : is_begun (x.lane_at may.session x.past) ≡ true
      learnt = (came_served may.session b e may.its item.0).1

      go : (s : ℕ) → (x.lane_at s x.past).began ≡ None → (c : Bool) → (may.session == s) ≡ c → is_item_of s entry ≡ false
      go s unlearnt true same =
          absurd (false≢true (sym (ap is_some unlearnt) ∙ ap (λ (n : ℕ). is_begun (x.lane_at n x.past)) (sym (eqb-true may.session s same)) ∙ learnt))
      go s unlearnt false other = item.1 s ∙ other
  fits_well (Fetches session run block) b may e = came_served session b e may.its (ap kind_of may.says)
  fits_well (PutsNormal app session) b may e = left.normal app session b e may
  fits_well (PutsAck session) b may e = (
    may.is_live,
    saved_learnt session (x.lane_at session x.past).began refl (part_unsynced (is_item_of session) t.old.synced may.upto t.old.order may.saved),
  )
  fits_well (Replies at says) b may e = reply_served at says b e may
  fits_well (Leaves before r behind) b may e = tt
  fits_well (Bares session conn) b may e = (know b e).has conn session may.its
  fits_well (Locks call) b may e = call_fits call b e may
  fits_well RoundEnds b may e = tt
  fits_well (Ticks app session) b may e = tt
