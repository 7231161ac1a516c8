-- After each step of a data server no round is on that is over, and Hellos wait only in a round.
use Rattle.std.proofs.Common.{◌≡◌, inl, inr, ℕ, Bool, true, false, List, [], ◌∷◌, filter, Option, Some, None, option_map, refl, sym, ◌∙◌, ap, subst}
use Rattle.std.specs.Prelude.{Ok, Err, Result}
use Rattle.std.proofs.lemmas.Bool.{false≢true}
use Rattle.link_window.specs.declared.window.Taken.{Taken}
use Rattle.link_window.specs.declared.window.Taken.TheVariants.{Fresh, Repeat}
use Rattle.link_window.specs.declared.window.WindowError.{WindowError}
use Rattle.link_states.specs.declared.link_event.LinkEvent.TheVariants as event
use Rattle.plain_orders.specs.Sessions.{app_in}
use Rattle.ecp_messages.specs.declared.up.Up.{Up}
use Rattle.ecp_messages.specs.declared.up.Up.TheVariants as up
use Rattle.ecp_messages.specs.declared.up.UpFrame.{UpFrame}
use Rattle.end_words.specs.Windows.{answers}
use Rattle.recovery_round.specs.RoundWords.{Round, without}
use Rattle.data_rules.specs.DataState.{DataState}
use Rattle.data_rules.specs.declared.data_in.DataIn.{DataIn}
use Rattle.data_rules.specs.declared.data_in.DataIn.TheVariants as data_in
use Rattle.data_rules.specs.declared.data_outs.DataOuts.{DataOuts}
use Rattle.data_rules.specs.declared.rows.Caller.{Caller}
use Rattle.data_rules.specs.declared.rows.Kind.{Kind}
use Rattle.data_rules.specs.declared.rows.Role.{Role}
use Rattle.data_rules.specs.declared.rows.Role.TheVariants.{Bound, Closing, New, Waiting}
use Rattle.data_rules.specs.Conns.{breaks_if, end_breaks, is_normal, is_other_caller, link_of, loses_conn, role_of, with_event, without_conn}
use Rattle.data_rules.specs.Frames.{Ends, TakesBound, TakesClosing, TakesFirst, TakesFrame, TakesNumbered, kind_of, took}
use Rattle.data_rules.specs.Leaving.{flushed}
use Rattle.data_rules.specs.Messages.{Takes}
use Rattle.data_rules.specs.Opening.{is_round_over}
use Rattle.data_rules.specs.Puts.{Sofar, becomes, begun, body_of, window_of}
use Rattle.data_rules.specs.Saving.{acks, acks_one, closed_in, part_saved, releases, releases_all, savers}
use Rattle.data_rules.specs.Step.{DataStep}
use Rattle.cluster_invariant.specs.Ends.{is_done}
use Rattle.cluster_invariant.proofs.PieceKinds.{Releases}
use Rattle.cluster_invariant.proofs.PieceMay.{synced_to}
use Rattle.cluster_invariant.proofs.PiecesOfSteps.{synced_state}
use Rattle.cluster_invariant.proofs.PutLaws.{only_flushed, only_puts, with_waiting}
use Rattle.cluster_invariant.proofs.StepEnds.{rounds_calls, rounds_over, settled_calls, settled_over}
use Rattle.data_pieces.proofs.LinksGo.{SameCore, core_then, same_core}
use Rattle.data_pieces.proofs.QuietPieces.{quiet_calls, quiet_windows}
use Rattle.data_pieces.proofs.RoundOn.{RoundOn, ends_round}

-- Hellos wait only in a round
abbrev pub CallsIn : DataState → Type 0
CallsIn n = n.round ≡ None → n.callers ≡ []

-- what a save leaves before its round

releases_core : (ss : List ℕ) (b : Sofar) → SameCore b.state (releases_all ss b).state
releases_core [] b = same_core b.state
releases_core (s ∷ ss) b = core_then b.state (releases s b).state (releases_all ss (releases s b)).state (quiet_calls (Releases s) b).core (releases_core ss (releases s b))

acks_core : (ss : List ℕ) (b : Sofar) → SameCore b.state (acks ss b).state
acks_core [] b = same_core b.state
acks_core (s ∷ ss) b = core_then b.state (acks_one s b).state (acks ss (acks_one s b)).state (quiet_windows b (acks_one s b) (only_puts s _ b)).core (acks_core ss (acks_one s b))

flushed_core : (b : Sofar) → SameCore b.state (flushed b).state
flushed_core b =
    core_then b.state (with_waiting b.state) (flushed b).state (record { server = refl; order = refl; synced = refl; links = refl; conns = refl; callers = refl; round = refl })
    (quiet_windows (becomes with_waiting b) (flushed b) (only_flushed b)).core

-- a save, but for its round
abbrev before_round : DataState → ℕ → Sofar
before_round old upto = acks (savers old.order (part_saved old upto)) (flushed (releases_all (closed_in (part_saved old upto)) (synced_to upto (begun old))))

saved_core : (old : DataState) (upto : ℕ) → SameCore (synced_to upto (begun old)).state (before_round old upto).state
saved_core old upto =
    core_then (synced_to upto (begun old)).state (flushed (releases_all (closed_in (part_saved old upto)) (synced_to upto (begun old)))).state (before_round old upto).state
    (core_then (synced_to upto (begun old)).state (releases_all (closed_in (part_saved old upto)) (synced_to upto (begun old))).state
    (flushed (releases_all (closed_in (part_saved old upto)) (synced_to upto (begun old)))).state
    (releases_core (closed_in (part_saved old upto)) (synced_to upto (begun old))) (flushed_core (releases_all (closed_in (part_saved old upto)) (synced_to upto (begun old)))))
    (acks_core (savers old.order (part_saved old upto)) (flushed (releases_all (closed_in (part_saved old upto)) (synced_to upto (begun old)))))

saved_calls : (old : DataState) (upto : ℕ) → CallsIn old → CallsIn (before_round old upto).state
saved_calls old upto h none =
    (saved_core old upto).callers ∙ ap (λ (d : DataState). d.callers) (synced_state upto (begun old))
    ∙ h (sym (ap (λ (d : DataState). d.round) (synced_state upto (begun old))) ∙ sym (saved_core old upto).round ∙ none)

-- a Done

ends_calls : (conn now : ℕ) (b c : Sofar) → Ends b conn now c → CallsIn b.state → CallsIn c.state
ends_calls conn now b c ends h = subst (λ (x : Sofar). CallsIn x.state) (sym ends.after) (go (role_of b.state conn))
  where
    gone : CallsIn (without_conn conn b.state)
    gone none = ap (λ (ws : List Caller). filter (is_other_caller conn) ws) (h none)

    broken : (app : ℕ) (normal : Bool) → CallsIn (becomes (with_event app now event.Ended) (breaks_if normal app now (becomes (without_conn conn) b))).state
    broken app true = gone
    broken app false = gone

    lost : (o : Option ℕ) → CallsIn (end_breaks o now (becomes (without_conn conn) b)).state
    lost None = gone
    lost (Some app) = broken app (is_normal (link_of b.state app))

    go : (r : Option Role) → CallsIn (loses_conn r now (becomes (without_conn conn) b)).state
    go None = gone
    go (Some New) = gone
    go (Some Waiting) = gone
    go (Some (Bound s)) = lost (app_in b.state.order s)
    go (Some (Closing s)) = gone

done_calls : (old : DataState) (now conn : ℕ) (f : UpFrame) → f.message ≡ up.Done → (c : Sofar) → TakesFrame (role_of old conn) (begun old) conn now f c → CallsIn old → CallsIn c.state
done_calls old now conn f says c takes h = go (role_of old conn) takes
  where
    unawaited_none : (s : ℕ) (o : Option Round) → option_map (λ r. without r s) o ≡ None → o ≡ None
    unawaited_none s None is = refl
    unawaited_none s (Some r) is = absurd cc

    numbered : (s : ℕ) (r : Result Taken WindowError) → TakesNumbered r (begun old) conn now s f c → CallsIn c.state
    numbered s (Ok Fresh) (inl fresh) =
        subst (λ (x : Sofar). CallsIn x.state) (sym (subst (λ (m : Up). Takes m s (took s f.ack (begun old)) c) says fresh.made).after) (λ none. h (unawaited_none s old.round none))
    numbered s (Ok Fresh) (inr stray) = ends_calls conn now (begun old) c stray.ended h
    numbered s (Ok Repeat) is = subst (λ (x : Sofar). CallsIn x.state) (sym is) h
    numbered s (Err why) ends = ends_calls conn now (begun old) c ends h

    go : (r : Option Role) → TakesFrame r (begun old) conn now f c → CallsIn c.state
    go None passes = subst (λ (x : Sofar). CallsIn x.state) (sym passes.after) h
    go (Some New) first = ends_calls conn now (begun old) c (subst (λ (m : Up). TakesFirst m (begun old) conn now c) says first) h
    go (Some Waiting) ends = ends_calls conn now (begun old) c ends h
    go (Some (Bound s)) bound = numbered s (answers body_of (window_of old s) f.seq f.ack) (subst (λ (k : Kind). TakesBound k (begun old) conn now s f c) (ap kind_of says) bound)
    go (Some (Closing s)) closing = subst (λ (x : Sofar). CallsIn x.state) (sym (subst (λ (k : Kind). TakesClosing k (begun old) conn now c) (ap kind_of says) closing).after) h

done_is : (m : Up) → is_done m ≡ true → m ≡ up.Done
done_is (up.Hello app dial) is = absurd (false≢true is)
done_is (up.Recover app session epoch taken dial) is = absurd (false≢true is)
done_is (up.Update w job txn op) is = absurd (false≢true is)
done_is (up.Add w job key amount) is = absurd (false≢true is)
done_is (up.Fetch key) is = absurd (false≢true is)
done_is (up.Ask ticket job mode key) is = absurd (false≢true is)
done_is (up.Unlock job mode key) is = absurd (false≢true is)
done_is (up.Cancel ticket) is = absurd (false≢true is)
done_is (up.Commit w job txn wanted) is = absurd (false≢true is)
done_is (up.Rollback w job txn) is = absurd (false≢true is)
done_is (up.Sync ticket) is = absurd (false≢true is)
done_is up.Done is = refl
done_is (up.Claim job mode number at key) is = absurd (false≢true is)
done_is up.Bare is = absurd (false≢true is)

-- No round is on that is over.
pub over_after : (old : DataState) (now : ℕ) (input : DataIn) (outs : DataOuts) (new : DataState) → DataStep old now input outs new → (ends_round input ≡ false → RoundOn new) → is_round_over new new.round ≡ false
over_after old now (data_in.Frame conn f) outs new steps on =
    ap (λ (x : Sofar). is_round_over x.state x.state.round) steps.after ∙ settled_over conn now steps.taken
over_after old now (data_in.Connected conn) outs new steps on = (on refl).over
over_after old now (data_in.Broken conn) outs new steps on = (on refl).over
over_after old now data_in.Tick outs new steps on = (on refl).over
over_after old now (data_in.Saved upto) outs new steps on = ap (λ (x : Sofar). is_round_over x.state x.state.round) steps ∙ rounds_over now (before_round old upto)

-- Hellos wait only in a round.
pub calls_after : (old : DataState) (now : ℕ) (input : DataIn) (outs : DataOuts) (new : DataState) → DataStep old now input outs new → CallsIn old → (ends_round input ≡ false → RoundOn new) → CallsIn new
calls_after old now (data_in.Frame conn f) outs new steps h on = go (is_done f.message) refl
  where
    go : (b : Bool) → is_done f.message ≡ b → CallsIn new
    go true is =
        subst (λ (x : Sofar). CallsIn x.state) (sym steps.after)
        (settled_calls conn now steps.taken (done_calls old now conn f (done_is f.message is) steps.taken steps.takes h))
    go false is = (on is).calls
calls_after old now (data_in.Connected conn) outs new steps h on = (on refl).calls
calls_after old now (data_in.Broken conn) outs new steps h on = (on refl).calls
calls_after old now data_in.Tick outs new steps h on = (on refl).calls
calls_after old now (data_in.Saved upto) outs new steps h on = subst (λ (x : Sofar). CallsIn x.state) (sym steps) (rounds_calls now (before_round old upto) (saved_calls old upto h))
