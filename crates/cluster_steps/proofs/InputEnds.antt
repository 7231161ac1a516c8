-- What the other inputs make of an application server's ends: a connection that is there, an attempt that failed, a connection that ended, a
-- pair that was joined again, and a tick.
use Rattle.std.proofs.Common.{◌≡◌, ◌<◌, ◌+◌, ℕ, Bool, true, false, List, [], ◌∷◌, length, refl, sym, ap, subst, ltb-true, ◌∙◌}
use Rattle.std.specs.Prelude.{nat_le, nat_lt}
use Rattle.plain_orders.specs.declared.act.Act.{Act}
use Rattle.plain_orders.specs.declared.act.Act.TheVariants as act
use Rattle.plain_orders.specs.declared.causes.Loss.TheVariants as losses
use Rattle.plain_orders.specs.declared.layout.Times.{Times}
use Rattle.plain_orders.specs.declared.refused.LinkName.TheVariants as names
use Rattle.plain_orders.specs.Times.{until}
use Rattle.link_states.specs.declared.app_link.AppLink.{AppLink}
use Rattle.link_states.specs.declared.app_link.AppLink.TheVariants.{NotConnected, Normal as NormalLink, Trouble, Recovery}
use Rattle.link_states.specs.declared.link_event.LinkEvent.TheVariants.{Connected as ConnectedEvent, ConnectFailed}
use Rattle.link_states.specs.Tables.{app_next}
use Rattle.ecp_messages.specs.declared.up.Up.TheVariants.{Hello, Recover}
use Rattle.ecp_messages.specs.declared.up.UpFrame.{UpFrame}
use Rattle.app_job.specs.declared.reason.Reason.TheVariants as reasons
use Rattle.end_words.specs.Windows.{with_ack_put}
use Rattle.app_rules.specs.declared.line.Line.TheVariants.{Apart, Trying, Greeting, Asking}
use Rattle.app_rules.specs.AppState.{AppEnd, AppState, no_end}
use Rattle.app_rules.specs.Works.{Sofar, frame_to, becomes, tries, tries_if, end_at, session_of, session_at, with_line, with_session, with_window, is_apart}
use Rattle.app_rules.specs.Losing.{broken, without_session, tries_when, ticks_trouble, ticks_from, joins_from, recovers, greets, connected_from, connected, with_dial, with_failure, failed_from, failed}
use Rattle.cluster_steps.proofs.EndSteps.{Here, here_same, then_becomes, then_writes, then_connects, then_frames, then_tells, then_happens}
use Rattle.cluster_steps.proofs.FrameEnds.{ended_from, ended_acts, then_broken}
use Rattle.std.proofs.lemmas.List.{get_or_past}
use Rattle.std.proofs.lemmas.Bool.{ltb-true, ltb-false}

-- a connection is there

-- the end that greets on its new connection
abbrev pub greeting_end : AppEnd → AppEnd
greeting_end e = record e { dial = e.dial + 1; line = Greeting }

-- the end that recovers on it
abbrev pub asking_end : Times → ℕ → AppEnd → AppEnd
asking_end times now e = with_session (with_window with_ack_put) (record e { dial = e.dial + 1; link = app_next times now e.link ConnectedEvent; line = Asking })

-- its first frame
abbrev pub hello_frame : ℕ → AppEnd → UpFrame
hello_frame app e = record { seq = 0; ack = 0; message = Hello app (e.dial + 1) }

abbrev pub recover_frame : ℕ → AppEnd → UpFrame
recover_frame app e = record {
  seq = 0;
  ack = (session_of e).window.taken;
  message = Recover app (session_of e).number (session_of e).epoch (session_of e).window.taken (e.dial + 1);
}

-- What a new connection makes, by the link of the end.
abbrev pub ConnectedCame : AppLink → ℕ → ℕ → AppEnd → Sofar → Sofar → Type 0
ConnectedCame NotConnected d now e b c = Here d (greeting_end e) (hello_frame b.state.app e ∷ []) [] [] b c
ConnectedCame NormalLink d now e b c = Here d (greeting_end e) (hello_frame b.state.app e ∷ []) [] [] b c
ConnectedCame (Trouble broke try_at) d now e b c = Here d (asking_end b.state.times now e) (recover_frame b.state.app e ∷ []) [] (act.Mended b.state.app d ∷ []) b c
ConnectedCame Recovery d now e b c = Here d (greeting_end e) (hello_frame b.state.app e ∷ []) [] [] b c

greets_here : (d : ℕ) (b : Sofar) → d < length b.state.ends → Here d (greeting_end (end_at b.state d)) (hello_frame b.state.app (end_at b.state d) ∷ []) [] [] b (greets d (becomes d with_dial b))
greets_here d b there =
    subst (λ (x : AppEnd). Here d (greeting_end (end_at b.state d)) (record { seq = 0; ack = 0; message = Hello b.state.app x.dial } ∷ []) [] [] b (greets d (becomes d with_dial b))) dialled.end
    (then_frames d (frame_to d 0 0 (Hello b.state.app (end_at (becomes d with_dial b).state d).dial)) (greeting_end (end_at b.state d)) [] [] [] b _ refl
    (then_becomes d (with_line Greeting) (with_dial (end_at b.state d)) [] [] [] b _ dialled))
  where
    dialled : Here d (with_dial (end_at b.state d)) [] [] [] b (becomes d with_dial b)
    dialled = then_becomes d with_dial (end_at b.state d) [] [] [] b b (here_same d b there)

recovers_here : (d now : ℕ) (b : Sofar) → d < length b.state.ends
    → Here d (asking_end b.state.times now (end_at b.state d)) (recover_frame b.state.app (end_at b.state d) ∷ []) [] (act.Mended b.state.app d ∷ []) b (recovers d now (becomes d with_dial b))
recovers_here d now b there =
    subst (λ (x : AppEnd). Here d (asking_end b.state.times now (end_at b.state d))
    (record { seq = 0; ack = (session_of (end_at b.state d)).window.taken; message = Recover b.state.app (session_of x).number (session_of x).epoch (session_of x).window.taken x.dial } ∷ []) [] (act.Mended b.state.app d ∷ []) b (recovers d now (becomes d with_dial b))) dialled.end
    (then_tells d 0 (Recover b.state.app (session_at (becomes d with_dial b).state d).number (session_at (becomes d with_dial b).state d).epoch (session_at (becomes d with_dial b).state d).window.taken (end_at (becomes d with_dial b).state d).dial)
    (record (end_at b.state d) { dial = (end_at b.state d).dial + 1; link = app_next b.state.times now (end_at b.state d).link ConnectedEvent; line = Asking }) [] [] (act.Mended b.state.app d ∷ []) b _
    (then_becomes d (with_line Asking) _ [] [] (act.Mended b.state.app d ∷ []) b _
    (then_happens d now ConnectedEvent (with_dial (end_at b.state d)) [] [] (act.Mended b.state.app d ∷ []) b _
    (then_writes d (act.Mended b.state.app d) (with_dial (end_at b.state d)) [] [] [] b _ dialled))))
  where
    dialled : Here d (with_dial (end_at b.state d)) [] [] [] b (becomes d with_dial b)
    dialled = then_becomes d with_dial (end_at b.state d) [] [] [] b b (here_same d b there)

pub connected_came : (d now : ℕ) (b : Sofar) → d < length b.state.ends → ConnectedCame (end_at b.state d).link d now (end_at b.state d) b (connected d now b)
connected_came d now b there = go (end_at b.state d).link
  where
    go : (l : AppLink) → ConnectedCame l d now (end_at b.state d) b (connected_from l d now (becomes d with_dial b))
    go NotConnected = greets_here d b there
    go NormalLink = greets_here d b there
    go (Trouble broke try_at) = recovers_here d now b there
    go Recovery = greets_here d b there

-- an attempt failed

-- the end whose attempt failed, by its link
abbrev pub failed_end : AppLink → Times → ℕ → ℕ → ℕ → AppEnd → AppEnd
failed_end NotConnected times before later now e = with_failure before later (with_line Apart e)
failed_end NormalLink times before later now e = with_line Apart e
failed_end (Trouble broke try_at) times before later now e = record e { line = Apart; link = app_next times now e.link ConnectFailed }
failed_end Recovery times before later now e = with_line Apart e

abbrev pub failed_acts : AppLink → ℕ → ℕ → ℕ → ℕ → List Act
failed_acts NotConnected app d before later = act.Lose app d (losses.NoWay before later) ∷ []
failed_acts NormalLink app d before later = []
failed_acts (Trouble broke try_at) app d before later = []
failed_acts Recovery app d before later = []

pub failed_came : (d before later now : ℕ) (b : Sofar) → d < length b.state.ends
    → Here d (failed_end (end_at b.state d).link b.state.times before later now (end_at b.state d)) [] [] (failed_acts (end_at b.state d).link b.state.app d before later) b (failed d before later now b)
failed_came d before later now b there = go (end_at b.state d).link
  where
    apart : Here d (with_line Apart (end_at b.state d)) [] [] [] b (becomes d (with_line Apart) b)
    apart = then_becomes d (with_line Apart) (end_at b.state d) [] [] [] b b (here_same d b there)

    go : (l : AppLink) → Here d (failed_end l b.state.times before later now (end_at b.state d)) [] [] (failed_acts l b.state.app d before later) b (failed_from l d before later now (becomes d (with_line Apart) b))
    go NotConnected =
        then_becomes d (with_failure before later) (with_line Apart (end_at b.state d)) [] [] (act.Lose b.state.app d (losses.NoWay before later) ∷ []) b _
        (then_writes d (act.Lose b.state.app d (losses.NoWay before later)) (with_line Apart (end_at b.state d)) [] [] [] b _ apart)
    go NormalLink = apart
    go (Trouble broke try_at) = then_happens d now ConnectFailed (with_line Apart (end_at b.state d)) [] [] [] b _ apart
    go Recovery = apart

-- The connection ended.
pub broken_came : (d now : ℕ) (b : Sofar) → d < length b.state.ends
    → Here d (ended_from (end_at b.state d).line b.state.times now (end_at b.state d)) [] [] (ended_acts (end_at b.state d).line b.state.app d now) b (broken d now b)
broken_came d now b there = then_broken d now [] (end_at b.state d) b b (here_same d b there)

-- a connection is tried

-- where there is none, and none is tried
abbrev pub tried_if : Bool → AppEnd → AppEnd
tried_if true e = with_line Trying e
tried_if false e = e

abbrev pub tried : AppEnd → AppEnd
tried e = tried_if (is_apart e.line) e

then_tries : (d : ℕ) (e : AppEnd) (cs : List ℕ) (ws : List Act) (b c : Sofar) → Here d e [] cs ws b c → Here d (tried e) [] cs ws b (tries d c)
then_tries d e cs ws b c h = go (is_apart (end_at c.state d).line) (is_apart e.line) (ap (λ (x : AppEnd). is_apart x.line) h.end)
  where
    go : (t u : Bool) → t ≡ u → Here d (tried_if u e) [] cs ws b (tries_if t d c)
    go t u same = subst (λ (x : Bool). Here d (tried_if x e) [] cs ws b (tries_if t d c)) same (by t)
      where
        by : (x : Bool) → Here d (tried_if x e) [] cs ws b (tries_if x d c)
        by true = then_connects d (with_line Trying e) [] cs ws b _ (then_becomes d (with_line Trying) e [] cs ws b c h)
        by false = h

-- a line that joined the pair again
abbrev pub rejoined : AppLink → AppEnd → AppEnd
rejoined NotConnected e = e
rejoined NormalLink e = e
rejoined (Trouble broke try_at) e = tried e
rejoined Recovery e = e

pub joined_came : (d : ℕ) (b : Sofar) → d < length b.state.ends → Here d (rejoined (end_at b.state d).link (end_at b.state d)) [] [] [] b (joins_from (end_at b.state d).link d b)
joined_came d b there = go (end_at b.state d).link
  where
    go : (l : AppLink) → Here d (rejoined l (end_at b.state d)) [] [] [] b (joins_from l d b)
    go NotConnected = here_same d b there
    go NormalLink = here_same d b there
    go (Trouble broke try_at) = then_tries d (end_at b.state d) [] [] b b (here_same d b there)
    go Recovery = here_same d b there

-- a tick

-- an end in trouble, by whether its time is over, and whether it may try again
abbrev pub troubled : Bool → Bool → ℕ → ℕ → AppEnd → AppEnd
troubled true may broke now e = without_session names.Trouble (reasons.Expired broke now) e
troubled false true broke now e = tried e
troubled false false broke now e = e

-- an end after a tick, by its link
abbrev pub ticked_from : AppLink → Times → ℕ → AppEnd → AppEnd
ticked_from NotConnected times now e = e
ticked_from NormalLink times now e = e
ticked_from (Trouble broke try_at) times now e = troubled (nat_le (until broke times.recover) now) (nat_le try_at now) broke now e
ticked_from Recovery times now e = e

abbrev pub lost_if : Bool → ℕ → ℕ → ℕ → List Act
lost_if true app d now = act.Lose app d (losses.Expired now) ∷ []
lost_if false app d now = []

-- and what it writes
abbrev pub ticked_acts : AppLink → Times → ℕ → ℕ → ℕ → List Act
ticked_acts NotConnected times app d now = []
ticked_acts NormalLink times app d now = []
ticked_acts (Trouble broke try_at) times app d now = lost_if (nat_le (until broke times.recover) now) app d now
ticked_acts Recovery times app d now = []

pub ticked_here : (d now : ℕ) (b : Sofar) → d < length b.state.ends
    → Here d (ticked_from (end_at b.state d).link b.state.times now (end_at b.state d)) [] [] (ticked_acts (end_at b.state d).link b.state.times b.state.app d now) b (ticks_from (end_at b.state d).link d now b)
ticked_here d now b there = go (end_at b.state d).link
  where
    trouble : (over may : Bool) (broke try_at : ℕ) → nat_le try_at now ≡ may → Here d (troubled over may broke now (end_at b.state d)) [] [] (lost_if over b.state.app d now) b (ticks_trouble over d broke try_at now b)
    trouble true may broke try_at same =
        then_becomes d (without_session names.Trouble (reasons.Expired broke now)) (end_at b.state d) [] [] (act.Lose b.state.app d (losses.Expired now) ∷ []) b _
        (then_writes d (act.Lose b.state.app d (losses.Expired now)) (end_at b.state d) [] [] [] b b (here_same d b there))
    trouble false may broke try_at same = subst (λ (x : Bool). Here d (troubled false may broke now (end_at b.state d)) [] [] [] b (tries_when x d b)) (sym same) (by may)
      where
        by : (x : Bool) → Here d (troubled false x broke now (end_at b.state d)) [] [] [] b (tries_when x d b)
        by true = then_tries d (end_at b.state d) [] [] b b (here_same d b there)
        by false = here_same d b there

    go : (l : AppLink) → Here d (ticked_from l b.state.times now (end_at b.state d)) [] [] (ticked_acts l b.state.times b.state.app d now) b (ticks_from l d now b)
    go NotConnected = here_same d b there
    go NormalLink = here_same d b there
    go (Trouble broke try_at) = trouble (nat_le (until broke b.state.times.recover) now) (nat_le try_at now) broke try_at refl
    go Recovery = here_same d b there

-- an end in trouble is one of those that are there
pub trouble_here : (a : AppState) (d broke try_at : ℕ) → (end_at a d).link ≡ Trouble broke try_at → d < length a.ends
trouble_here a d broke try_at same = go (nat_lt d (length a.ends)) refl
  where
    apart : NotConnected ≡ Trouble broke try_at → ⊥
    apart e = absurd (cc (e))

    go : (t : Bool) → nat_lt d (length a.ends) ≡ t → d < length a.ends
    go true low = ltb-true d (length a.ends) low
    go false past = absurd (apart (ap (λ (e : AppEnd). e.link) (sym (get_or_past a.ends d no_end (ltb-false d (length a.ends) past))) ∙ same))
