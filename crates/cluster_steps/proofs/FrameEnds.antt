-- What a frame makes of the end that it comes to, case by case.
use Rattle.std.proofs.Common.{◌≡◌, ◌⊎◌, ◌<◌, ℕ, Bool, true, false, List, [], ◌∷◌, ◌++◌, map, length, Some, ap, subst}
use Rattle.std.specs.Prelude.{Result, Ok}
use Rattle.subscript_keys.specs.declared.run.Run.{Run}
use Rattle.plain_orders.specs.declared.act.Act.{Act}
use Rattle.plain_orders.specs.declared.act.Act.TheVariants as act
use Rattle.plain_orders.specs.declared.causes.Loss.TheVariants as losses
use Rattle.plain_orders.specs.declared.causes.PairEnd.TheVariants as ends
use Rattle.plain_orders.specs.declared.layout.Times.{Times}
use Rattle.plain_orders.specs.declared.refused.LinkName.TheVariants as names
use Rattle.link_states.specs.declared.app_link.AppLink.{AppLink}
use Rattle.link_states.specs.declared.app_link.AppLink.TheVariants.{Recovery}
use Rattle.link_states.specs.declared.link_event.LinkEvent.TheVariants.{Ended as EndedEvent, Welcomed as WelcomedEvent, Settled as SettledEvent}
use Rattle.link_states.specs.Tables.{app_next}
use Rattle.link_window.specs.declared.window.Taken.{Taken}
use Rattle.link_window.specs.declared.window.Taken.TheVariants.{Fresh, Repeat}
use Rattle.link_window.specs.declared.window.WindowError.{WindowError}
use Rattle.ecp_messages.specs.declared.down.Down.{Down}
use Rattle.ecp_messages.specs.declared.down.Down.TheVariants.{Welcome, Reset, Block, Drop, Ack, Grant, Answer, Normal, Bare}
use Rattle.ecp_messages.specs.declared.down.DownFrame.{DownFrame}
use Rattle.ecp_messages.specs.declared.front.Front.{Front}
use Rattle.ecp_messages.specs.declared.up.Up.{Up}
use Rattle.block_bytes.specs.Blocks.{IsBlockOf}
use Rattle.app_job.specs.declared.reason.Reason.TheVariants as reasons
use Rattle.end_words.specs.Windows.{answers, with_ack, fresh, resent}
use Rattle.app_rules.specs.declared.line.Line.{Line}
use Rattle.app_rules.specs.declared.line.Line.TheVariants.{Apart, Trying, Greeting, Asking, Joined}
use Rattle.app_rules.specs.AppState.{AppEnd, Session}
use Rattle.app_rules.specs.Works.{Sofar, writes, cuts, becomes, happens, end_at, session_of, with_window, with_line, synced_up, body_of}
use Rattle.app_rules.specs.Losing.{broken, broken_from, ends_it, without_session}
use Rattle.app_rules.specs.Welcoming.{greatest, new_session, told_puts, in_epoch}
use Rattle.app_rules.specs.Delivering.{with_run, with_drop, with_grant, with_answer, with_all_put, to_put_again}
use Rattle.app_rules.specs.Downs.{took, falls}
use Rattle.cluster_steps.proofs.JobEnds.{up_frame, put_frames}
use Rattle.cluster_steps.proofs.EndSteps.{Here, Settles, session_put, bare_frames, here_same, then_becomes, then_writes, then_cuts, then_happens}

-- the end of a connection

-- the end whose connection ended, by how far it was
abbrev pub ended_from : Line → Times → ℕ → AppEnd → AppEnd
ended_from Apart times now e = e
ended_from Trying times now e = e
ended_from Greeting times now e = record e { line = Apart }
ended_from Asking times now e = record e { link = app_next times now e.link EndedEvent; line = Apart }
ended_from Joined times now e = record e { link = app_next times now e.link EndedEvent; line = Apart }

-- and the act of a session's break
abbrev pub ended_acts : Line → ℕ → ℕ → ℕ → List Act
ended_acts Apart app d now = []
ended_acts Trying app d now = []
ended_acts Greeting app d now = []
ended_acts Asking app d now = act.Broke app d ends.App now ∷ []
ended_acts Joined app d now = act.Broke app d ends.App now ∷ []

-- the connection ended, and it was cut here or not
pub then_broken : (d now : ℕ) (cs : List ℕ) (e : AppEnd) (b c : Sofar) → Here d e [] cs [] b c → Here d (ended_from e.line b.state.times now e) [] cs (ended_acts e.line b.state.app d now) b (broken d now c)
then_broken d now cs e b c h = go (end_at c.state d).line e.line (ap (λ (x : AppEnd). x.line) h.end)
  where
    breaking : Here d (record e { link = app_next b.state.times now e.link EndedEvent; line = Apart }) [] cs (act.Broke b.state.app d ends.App now ∷ []) b (happens d now EndedEvent (writes (act.Broke c.state.app d ends.App now) (becomes d (with_line Apart) c)))
    breaking =
        subst (λ n. Here d (record e { link = app_next b.state.times now e.link EndedEvent; line = Apart }) [] cs (act.Broke n d ends.App now ∷ []) b (happens d now EndedEvent (writes (act.Broke c.state.app d ends.App now) (becomes d (with_line Apart) c)))) h.app
        (then_happens d now EndedEvent (with_line Apart e) [] cs (act.Broke c.state.app d ends.App now ∷ []) b _
        (then_writes d (act.Broke c.state.app d ends.App now) (with_line Apart e) [] cs [] b _ (then_becomes d (with_line Apart) e [] cs [] b c h)))

    go : (l k : Line) → l ≡ k → Here d (ended_from k b.state.times now e) [] cs (ended_acts k b.state.app d now) b (broken_from l d now c)
    go l k same = subst (λ (x : Line). Here d (ended_from x b.state.times now e) [] cs (ended_acts x b.state.app d now) b (broken_from l d now c)) same (by l)
      where
        by : (x : Line) → Here d (ended_from x b.state.times now e) [] cs (ended_acts x b.state.app d now) b (broken_from x d now c)
        by Apart = h
        by Trying = h
        by Greeting = then_becomes d (with_line Apart) e [] cs [] b c h
        by Asking = breaking
        by Joined = breaking

-- This end ended the connection.
abbrev pub EndsIt : ℕ → ℕ → AppEnd → Sofar → Sofar → Type 0
EndsIt d now e b c = Here d (ended_from e.line b.state.times now e) [] (d ∷ []) (ended_acts e.line b.state.app d now) b c

pub ended_here : (d now : ℕ) (b : Sofar) → d < length b.state.ends → EndsIt d now (end_at b.state d) b (ends_it d now b)
ended_here d now b there = then_broken d now (d ∷ []) (end_at b.state d) b (cuts d b) (then_cuts d (end_at b.state d) [] [] [] b b (here_same d b there))

-- frames of a session

-- An acknowledgement came, by itself or with a message that was taken before.
pub record Acked (d seq ack : ℕ) (e : AppEnd) (b c : Sofar) : Type 0 where
  pub session : Session
  pub its : e.session ≡ Some session
  pub is_joined : e.line ≡ Joined
  pub answered : Result Taken WindowError
  pub known : answers body_of session.window seq ack ≡ answered
  -- it has no number, or came before
  pub repeats : (seq ≡ 0) ⊎ (answered ≡ Ok Repeat)
  pub settles : Settles d (with_window (λ w. with_ack w ack) session) e [] [] [] b c

-- what a fresh message makes of the session that took it, of the link, and what is put then
abbrev pub Delivered : Down → Session → AppLink → Times → ℕ → Session → AppLink → List Up → Type 0
Delivered (Welcome session epoch kept front taken) s link times now t l ms = ⊥
Delivered (Reset session at) s link times now t l ms = ⊥
Delivered (Block front block) s link times now t l ms = (run : Run) × IsBlockOf run block × (t ≡ with_run run s) × (l ≡ link) × (ms ≡ [])
Delivered (Drop front lo hi) s link times now t l ms = (t ≡ with_drop (record { lo = lo; hi = hi }) s) × (l ≡ link) × (ms ≡ [])
Delivered (Ack front) s link times now t l ms = (t ≡ s) × (l ≡ link) × (ms ≡ [])
Delivered (Grant front ticket at) s link times now t l ms = (t ≡ with_grant ticket at s) × (l ≡ link) × (ms ≡ [])
Delivered (Answer front about job number at sum) s link times now t l ms = (t ≡ with_answer about number at sum s) × (l ≡ link) × (ms ≡ [])
Delivered (Normal front) s link times now t l ms = (t ≡ with_all_put s) × (l ≡ app_next times now link SettledEvent) × (ms ≡ to_put_again s)
Delivered Bare s link times now t l ms = ⊥

-- A fresh message was taken.
pub record TookFresh (d now seq ack : ℕ) (m : Down) (f : Front) (e : AppEnd) (b c : Sofar) : Type 0 where
  pub session : Session
  pub its : e.session ≡ Some session
  pub is_joined : e.line ≡ Joined
  pub fresh : answers body_of session.window seq ack ≡ Ok Fresh
  pub ahead : falls session f ≡ false
  pub after : Session
  pub link : AppLink
  pub put : List Up
  pub delivered : Delivered m (took seq ack f session) e.link b.state.times now after link put
  pub since : ℕ
  pub bare : Bool
  pub here : Here d (record e { link = link; session = Some (session_put since put after) }) (put_frames true after.window put ++ bare_frames bare after.window.taken) [] [] b c

-- A numbered message came.
abbrev pub NumberedCame : ℕ → ℕ → ℕ → ℕ → Down → Front → AppEnd → Sofar → Sofar → Type 0
NumberedCame d now seq ack m f e b c = TookFresh d now seq ack m f e b c ⊎ Acked d seq ack e b c ⊎ EndsIt d now e b c

-- Welcomes

-- The Welcome of a new session.
pub record MetNew (d now session epoch : ℕ) (front : Front) (e : AppEnd) (b c : Sofar) : Type 0 where
  pub greeting : e.line ≡ Greeting
  pub above : e.told < session
  pub below : front.n < greatest
  pub since : ℕ
  pub here : Here d (record e { link = app_next b.state.times now e.link WelcomedEvent; line = Joined; told = session; session = Some (session_put since [] (new_session session epoch front)) }) [] [] (act.Met b.state.app d session ∷ []) b c

-- the link of a session that goes on, unless Normal is awaited
abbrev pub settled_link : Bool → Times → ℕ → AppLink → AppLink
settled_link true times now link = link
settled_link false times now link = app_next times now link SettledEvent

-- The Welcome in the epoch that was told.
pub record WentOn (d now number epoch : ℕ) (front : Front) (taken : ℕ) (e : AppEnd) (b c : Sofar) : Type 0 where
  pub session : Session
  pub its : e.session ≡ Some session
  pub asking : e.line ≡ Asking
  pub same_number : session.number ≡ number
  pub same_epoch : session.epoch ≡ epoch
  pub below : front.n < greatest
  pub since : ℕ
  pub bare : Bool
  pub here : Here d (record e { link = settled_link session.normal_due b.state.times now e.link; line = Joined; session = Some (session_put since [] (synced_up front.s session)) })
      (map (up_frame session.window.taken) (resent session.window taken) ++ bare_frames bare session.window.taken) [] [] b c

-- The Welcome of a new epoch.
pub record Learnt (d number epoch kept : ℕ) (front : Front) (e : AppEnd) (b c : Sofar) : Type 0 where
  pub session : Session
  pub its : e.session ≡ Some session
  pub asking : e.line ≡ Asking
  pub same_number : session.number ≡ number
  pub later : session.epoch < epoch
  pub below : front.n < greatest
  pub since : ℕ
  pub here : Here d (record e { line = Joined; session = Some (session_put since (told_puts front.w (synced_up front.s session)) (in_epoch epoch front session)) })
      (put_frames true fresh (told_puts front.w (synced_up front.s session))) [] (act.Told b.state.app d number epoch kept ∷ []) b c

-- The session was closed.
pub record ResetCame (d session at : ℕ) (e : AppEnd) (b c : Sofar) : Type 0 where
  pub recovering : e.link ≡ Recovery
  pub its : (session_of e).number ≡ session
  pub here : Here d (without_session names.Recovery (reasons.Reset at) e) [] (d ∷ []) (act.Lose b.state.app d (losses.Reset at) ∷ []) b c

-- What came of a frame.
abbrev pub FrameCame : Down → ℕ → ℕ → DownFrame → AppEnd → Sofar → Sofar → Type 0
FrameCame (Welcome session epoch kept front taken) d now frame e b c =
    MetNew d now session epoch front e b c ⊎ WentOn d now session epoch front taken e b c ⊎ Learnt d session epoch kept front e b c ⊎ EndsIt d now e b c
FrameCame (Reset session at) d now frame e b c = ResetCame d session at e b c ⊎ EndsIt d now e b c
FrameCame (Block front block) d now frame e b c = NumberedCame d now frame.seq frame.ack (Block front block) front e b c
FrameCame (Drop front lo hi) d now frame e b c = NumberedCame d now frame.seq frame.ack (Drop front lo hi) front e b c
FrameCame (Ack front) d now frame e b c = NumberedCame d now frame.seq frame.ack (Ack front) front e b c
FrameCame (Grant front ticket at) d now frame e b c = NumberedCame d now frame.seq frame.ack (Grant front ticket at) front e b c
FrameCame (Answer front about job number at sum) d now frame e b c = NumberedCame d now frame.seq frame.ack (Answer front about job number at sum) front e b c
FrameCame (Normal front) d now frame e b c = NumberedCame d now frame.seq frame.ack (Normal front) front e b c
FrameCame Bare d now frame e b c = Acked d 0 frame.ack e b c ⊎ Here d e [] [] [] b c ⊎ EndsIt d now e b c
