-- What a step of a data server begins with, and what its lanes make of what a round awaits.
use Rattle.std.proofs.Common.{◌≡◌, ℕ, Bool, true, not, List, filter, take, Option, Some, None, sym, ◌∙◌, ap, subst, if◌then◌else◌}
use Rattle.std.specs.Prelude.{IfSome}
use Rattle.std.specs.List.{AllByRecursion, list_any}
use Rattle.plain_orders.specs.Entries.{live}
use Rattle.plain_orders.specs.Sessions.{live_sessions, opened_sessions}
use Rattle.plain_runs.specs.Plain.{Server}
use Rattle.ecp_messages.specs.declared.up.Up.TheVariants as up
use Rattle.ecp_messages.specs.declared.up.UpFrame.{UpFrame}
use Rattle.recovery_round.specs.RoundWords.{Round}
use Rattle.data_rules.specs.DataState.{DataState}
use Rattle.data_rules.specs.declared.data_in.DataIn.{DataIn}
use Rattle.data_rules.specs.declared.data_in.DataIn.TheVariants as data_in
use Rattle.data_rules.specs.declared.data_outs.DataOuts.{DataOuts}
use Rattle.data_rules.specs.declared.down_frames.DownOut.{DownOut}
use Rattle.data_rules.specs.declared.rows.Caller.{Caller}
use Rattle.data_rules.specs.declared.rows.Reply.{Reply}
use Rattle.data_rules.specs.declared.rows.Says.{Says}
use Rattle.data_rules.specs.declared.rows.Says.TheVariants.{NewWelcome, EpochWelcome, ResetOf, GrantOf, AnswerOf}
use Rattle.data_rules.specs.Puts.{begun, window_in}
use Rattle.cluster_runs.specs.Machine.{Site}
use Rattle.cluster_runs.specs.Sent.{Lane, ups_taken}
use Rattle.cluster_invariant.specs.Ends.{is_done, is_undone}
use Rattle.cluster_invariant.specs.Waiting.{ReplyWaits, WaitsFor, conns_of}
use Rattle.cluster_invariant.proofs.PieceMay.{begins}
use Rattle.cluster_invariant.proofs.PiecesOfSteps.{synced_state}
use Rattle.link_kept.proofs.WindowsServer.{LanesGrow}
use Rattle.data_puts.proofs.AwaitsGo.{Awaits, same_passed, undone_in}
use Rattle.data_puts.proofs.AwaitsPieces.{AwaitsOn}
use Rattle.data_pieces.proofs.ConnLists.{role_at}
use Rattle.data_puts.proofs.Spoken.{ReplyOn, SpokenOn, is_for_session}
use Rattle.data_puts.proofs.SpokenPieces.{SpeaksAt, begins_frames}

-- a Hello came just now
pub record Greets (old : DataState) (input : DataIn) (c : Caller) : Type 0 where
  pub dial : ℕ
  pub frame : UpFrame
  pub its : input ≡ data_in.Frame c.conn frame
  pub says : frame.message ≡ up.Hello c.app dial

-- what waits as a step begins

pub waits_spoken : (v : Server) (x : Site) (n : DataState) (r : Reply) → ReplyWaits v x n r → ReplyOn n.conns r
waits_spoken v x n r h = go r.says h.says
  where
    go : (s : Says) → WaitsFor v x n r.at s → AllByRecursion (λ m. is_for_session (role_at m n.conns) ≡ true) (conns_of s)
    go (NewWelcome conn session) w = (ap is_for_session w.bound, tt)
    go (EpochWelcome conn session kept) w = (ap is_for_session w.bound, tt)
    go (ResetOf conn session place) w = (ap is_for_session w.closing, tt)
    go (GrantOf session ticket number) w = tt
    go (AnswerOf session about job number place sum) w = tt

pub speaks_begin : (old : DataState) (now : ℕ) (input : DataIn) → AllByRecursion (ReplyOn old.conns) old.replies → SpeaksAt (begins (record { old = old; now = now; input = input }))
speaks_begin old now input on = record {
  frames = subst (λ (fs : List DownOut). AllByRecursion (SpokenOn (begins (record { old = old; now = now; input = input })).state.conns) fs) (sym (begins_frames old now input)) tt;
  replies = go input;
}
  where
    go : (i : DataIn) → AllByRecursion (ReplyOn (begins (record { old = old; now = now; input = i })).state.conns) (begins (record { old = old; now = now; input = i })).state.replies
    go (data_in.Frame conn f) = on
    go (data_in.Connected conn) = on
    go (data_in.Broken conn) = on
    go data_in.Tick = on
    go (data_in.Saved upto) = subst (λ (n : DataState). AllByRecursion (ReplyOn n.conns) n.replies) (sym (synced_state upto (begun old))) on

pub awaits_begin : (lane_of : ℕ → Lane) (old : DataState) (now : ℕ) (input : DataIn) → Awaits lane_of old.round old.windows old.order → AwaitsOn lane_of (begins (record { old = old; now = now; input = input }))
awaits_begin lane_of old now (data_in.Frame conn f) h = h
awaits_begin lane_of old now (data_in.Connected conn) h = h
awaits_begin lane_of old now (data_in.Broken conn) h = h
awaits_begin lane_of old now data_in.Tick h = h
awaits_begin lane_of old now (data_in.Saved upto) h = subst (λ (n : DataState). Awaits lane_of n.round n.windows n.order) (sym (synced_state upto (begun old))) h

-- the sessions that were awaited, by what their windows count
pub awaited_begin : (lane_of : ℕ → Lane) (old : DataState) → ((s : ℕ) → live old.order s ≡ true → (window_in old.windows s).taken ≡ (lane_of s).up_taken)
    → IfSome old.round (λ r. r.awaited ≡ filter (is_undone lane_of) (live_sessions old.order)) → Awaits lane_of old.round old.windows old.order
awaited_begin lane_of old counts h = go old.round h
  where
    go : (o : Option Round) → IfSome o (λ r. r.awaited ≡ filter (is_undone lane_of) (live_sessions old.order)) → Awaits lane_of o old.windows old.order
    go None is = tt
    go (Some r) is =
        is ∙ sym (same_passed (is_undone lane_of) (undone_in lane_of old.windows) (live old.order) (λ s lives. ap (λ (n : ℕ). not (list_any is_done (take n (lane_of s).up))) (counts s lives)) (opened_sessions old.order))

-- and after a step by their lanes
pub awaited_end : (old new : DataState) (outs : DataOuts) (x y : Site) → LanesGrow old new outs x y → Awaits (λ s. x.lane_at s x.past) new.round new.windows new.order
    → IfSome new.round (λ r. r.awaited ≡ filter (is_undone (λ s. y.lane_at s y.past)) (live_sessions new.order))
awaited_end old new outs x y lanes h = go new.round h
  where
    undone : (s : ℕ) → live new.order s ≡ true → is_undone (λ q. y.lane_at q y.past) s ≡ undone_in (λ q. x.lane_at q x.past) new.windows s
    undone s lives =
        ap (λ (k : ℕ). is_undone (λ q. y.lane_at q k) s) lanes.past
        ∙ ap (λ (z : Lane). not (list_any is_done (ups_taken z))) (lanes.here s)
        ∙ ap (λ (b : Bool). not (list_any is_done (take (if b then (window_in new.windows s).taken else (x.lane_at s x.past).up_taken) (x.lane_at s x.past).up))) lives

    go : (o : Option Round) → Awaits (λ s. x.lane_at s x.past) o new.windows new.order → IfSome o (λ r. r.awaited ≡ filter (is_undone (λ s. y.lane_at s y.past)) (live_sessions new.order))
    go None is = tt
    go (Some r) is =
        is ∙ sym (same_passed (undone_in (λ q. x.lane_at q x.past) new.windows) (is_undone (λ q. y.lane_at q y.past)) (live new.order) undone (opened_sessions new.order))
