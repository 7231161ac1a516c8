-- The acts of an input tell no session anything, unless a Welcome tells something new.
use Rattle.std.proofs.Common.{◌≡◌, ◌⊎◌, ℕ, Bool, true, false, List, [], ◌∷◌, ◌++◌, length, refl, sym, subst, inl, inr}
use Rattle.std.specs.List.{AllByRecursion, range_with_len}
use Rattle.std.specs.Prelude.{nat_le}
use Rattle.plain_orders.specs.declared.act.Act.{Act}
use Rattle.plain_orders.specs.declared.layout.Times.{Times}
use Rattle.plain_orders.specs.Times.{until}
use Rattle.link_states.specs.declared.app_link.AppLink.{AppLink}
use Rattle.link_states.specs.declared.app_link.AppLink.TheVariants.{NotConnected, Normal as NormalLink, Trouble, Recovery}
use Rattle.ecp_messages.specs.declared.down.Down.{Down}
use Rattle.ecp_messages.specs.declared.down.Down.TheVariants.{Welcome, Reset, Block, Drop, Ack, Grant, Answer, Normal, Bare}
use Rattle.ecp_messages.specs.declared.down.DownFrame.{DownFrame}
use Rattle.ecp_messages.specs.declared.front.Front.{Front}
use Rattle.ecp_messages.specs.declared.up.UpFrame.{UpFrame}
use Rattle.app_rules.specs.declared.app_in.AppIn.{AppIn}
use Rattle.app_rules.specs.declared.app_in.AppIn.TheVariants as app_in
use Rattle.app_rules.specs.declared.line.Line.{Line}
use Rattle.app_rules.specs.declared.line.Line.TheVariants.{Apart, Trying, Greeting, Asking, Joined}
use Rattle.app_rules.specs.AppState.{AppEnd}
use Rattle.app_rules.specs.AppStep.{AppMay, Makes}
use Rattle.app_rules.specs.Losing.{ticks, ticks_from}
use Rattle.app_rules.specs.Works.{Sofar, end_at}
use Rattle.cluster_steps.proofs.EndSteps.{Here}
use Rattle.cluster_steps.proofs.FrameCases.{LineHas, frame_came}
use Rattle.cluster_steps.proofs.FrameEnds.{FrameCame, NumberedCame, ended_acts}
use Rattle.cluster_steps.proofs.InputEnds.{ConnectedCame, connected_came, failed_acts, failed_came, broken_came, joined_came, ticked_acts, ticked_here, lost_if, trouble_here}
use Rattle.cluster_steps.proofs.InputsBring.{WelcomeTold}
use Rattle.told_kept.proofs.SameSessions.{leaves_told}

abbrev pub TellNothing : List Act → Type 0
TellNothing acts = AllByRecursion (λ a. leaves_told a ≡ true) acts

-- a step whose acts tell no session anything
abbrev pub Quietly : Sofar → Sofar → Type 0
Quietly b c = TellNothing b.outs.acts → TellNothing c.outs.acts

both_tell : (xs ys : List Act) → TellNothing xs → TellNothing ys → TellNothing (xs ++ ys)
both_tell [] ys a b = b
both_tell (x ∷ xs) ys a b = (a.0, both_tell xs ys a.1 b)

quiet_here : (d : ℕ) (f : AppEnd) (us : List UpFrame) (cs : List ℕ) (ws : List Act) (b c : Sofar) → Here d f us cs ws b c → TellNothing ws → Quietly b c
quiet_here d f us cs ws b c h all = λ before. subst TellNothing (sym h.acts) (both_tell b.outs.acts ws before all)

ended_quiet : (line : Line) (app d now : ℕ) → TellNothing (ended_acts line app d now)
ended_quiet Apart app d now = tt
ended_quiet Trying app d now = tt
ended_quiet Greeting app d now = tt
ended_quiet Asking app d now = (refl, tt)
ended_quiet Joined app d now = (refl, tt)

failed_quiet : (link : AppLink) (app d before later : ℕ) → TellNothing (failed_acts link app d before later)
failed_quiet NotConnected app d before later = (refl, tt)
failed_quiet NormalLink app d before later = tt
failed_quiet (Trouble broke try_at) app d before later = tt
failed_quiet Recovery app d before later = tt

lost_quiet : (over : Bool) (app d now : ℕ) → TellNothing (lost_if over app d now)
lost_quiet true app d now = (refl, tt)
lost_quiet false app d now = tt

ticked_quiet : (link : AppLink) (times : Times) (app d now : ℕ) → TellNothing (ticked_acts link times app d now)
ticked_quiet NotConnected times app d now = tt
ticked_quiet NormalLink times app d now = tt
ticked_quiet (Trouble broke try_at) times app d now = lost_quiet (nat_le (until broke times.recover) now) app d now
ticked_quiet Recovery times app d now = tt

-- frames

numbered_quiet : (d now seq ack : ℕ) (m : Down) (f : Front) (b c : Sofar) → NumberedCame d now seq ack m f (end_at b.state d) b c → Quietly b c
numbered_quiet d now seq ack m f b c (inl x) = quiet_here d _ _ [] [] b c x.here tt
numbered_quiet d now seq ack m f b c (inr (inl x)) = quiet_here d _ _ [] [] b c x.settles.here tt
numbered_quiet d now seq ack m f b c (inr (inr x)) = quiet_here d _ [] _ _ b c x (ended_quiet (end_at b.state d).line b.state.app d now)

frame_quiet : (m : Down) (d now : ℕ) (frame : DownFrame) (b c : Sofar) → FrameCame m d now frame (end_at b.state d) b c → Quietly b c ⊎ WelcomeTold m d now (end_at b.state d) b c
frame_quiet (Welcome session epoch kept front taken) d now frame b c (inl x) = inr (inl x)
frame_quiet (Welcome session epoch kept front taken) d now frame b c (inr (inl x)) = inl (quiet_here d _ _ [] [] b c x.here tt)
frame_quiet (Welcome session epoch kept front taken) d now frame b c (inr (inr (inl x))) = inr (inr x)
frame_quiet (Welcome session epoch kept front taken) d now frame b c (inr (inr (inr x))) = inl (quiet_here d _ [] _ _ b c x (ended_quiet (end_at b.state d).line b.state.app d now))
frame_quiet (Reset session at) d now frame b c (inl x) = inl (quiet_here d _ [] _ _ b c x.here (refl, tt))
frame_quiet (Reset session at) d now frame b c (inr x) = inl (quiet_here d _ [] _ _ b c x (ended_quiet (end_at b.state d).line b.state.app d now))
frame_quiet (Block front block) d now frame b c x = inl (numbered_quiet d now frame.seq frame.ack (Block front block) front b c x)
frame_quiet (Drop front lo hi) d now frame b c x = inl (numbered_quiet d now frame.seq frame.ack (Drop front lo hi) front b c x)
frame_quiet (Ack front) d now frame b c x = inl (numbered_quiet d now frame.seq frame.ack (Ack front) front b c x)
frame_quiet (Grant front ticket at) d now frame b c x = inl (numbered_quiet d now frame.seq frame.ack (Grant front ticket at) front b c x)
frame_quiet (Answer front about job number at sum) d now frame b c x = inl (numbered_quiet d now frame.seq frame.ack (Answer front about job number at sum) front b c x)
frame_quiet (Normal front) d now frame b c x = inl (numbered_quiet d now frame.seq frame.ack (Normal front) front b c x)
frame_quiet Bare d now frame b c (inl x) = inl (quiet_here d _ _ [] [] b c x.settles.here tt)
frame_quiet Bare d now frame b c (inr (inl x)) = inl (quiet_here d _ [] [] [] b c x tt)
frame_quiet Bare d now frame b c (inr (inr x)) = inl (quiet_here d _ [] _ _ b c x (ended_quiet (end_at b.state d).line b.state.app d now))

-- connections and ticks

connected_quiet : (link : AppLink) (d now : ℕ) (b c : Sofar) → ConnectedCame link d now (end_at b.state d) b c → Quietly b c
connected_quiet NotConnected d now b c x = quiet_here d _ _ [] [] b c x tt
connected_quiet NormalLink d now b c x = quiet_here d _ _ [] [] b c x tt
connected_quiet (Trouble broke try_at) d now b c x = quiet_here d _ _ [] _ b c x (refl, tt)
connected_quiet Recovery d now b c x = quiet_here d _ _ [] [] b c x tt

tick_quiet : (link : AppLink) (d now : ℕ) (b : Sofar) → (end_at b.state d).link ≡ link → Quietly b (ticks_from link d now b)
tick_quiet NotConnected d now b same = λ before. before
tick_quiet NormalLink d now b same = λ before. before
tick_quiet (Trouble broke try_at) d now b same =
    subst (λ (k : AppLink). Quietly b (ticks_from k d now b)) same
    (quiet_here d _ [] [] _ b (ticks_from (end_at b.state d).link d now b) (ticked_here d now b (trouble_here b.state d broke try_at same)) (ticked_quiet (end_at b.state d).link b.state.times b.state.app d now))
tick_quiet Recovery d now b same = λ before. before

ticks_quiet : (ds : List ℕ) (now : ℕ) (b : Sofar) → Quietly b (ticks ds now b)
ticks_quiet [] now b = λ before. before
ticks_quiet (d ∷ ds) now b = λ before. ticks_quiet ds now (ticks_from (end_at b.state d).link d now b) (tick_quiet (end_at b.state d).link d now b refl before)

-- What an input's acts tell.
abbrev pub InputActs : AppIn → ℕ → Sofar → Sofar → Type 0
InputActs (app_in.Frame d frame) now b c = Quietly b c ⊎ WelcomeTold frame.message d now (end_at b.state d) b c
InputActs (app_in.Connected d) now b c = Quietly b c
InputActs (app_in.NoWay d before later) now b c = Quietly b c
InputActs (app_in.Broken d) now b c = Quietly b c
InputActs (app_in.Join d) now b c = Quietly b c
InputActs app_in.Tick now b c = Quietly b c

pub input_acts : (input : AppIn) (now : ℕ) (b c : Sofar) → AppMay b.state input → ((d : ℕ) → LineHas (end_at b.state d).line (end_at b.state d).session) → Makes b now input c → InputActs input now b c
input_acts (app_in.Frame d frame) now b c may has h = frame_quiet frame.message d now frame b c (frame_came b now d frame c may.known (has d) h)
input_acts (app_in.Connected d) now b c may has h =
    connected_quiet (end_at b.state d).link d now b c (subst (λ (x : Sofar). ConnectedCame (end_at b.state d).link d now (end_at b.state d) b x) (sym h) (connected_came d now b may.known))
input_acts (app_in.NoWay d before later) now b c may has h =
    subst (λ (x : Sofar). Quietly b x) (sym h)
    (quiet_here d _ [] [] _ b _ (failed_came d before later now b may.tried.known) (failed_quiet (end_at b.state d).link b.state.app d before later))
input_acts (app_in.Broken d) now b c may has h =
    subst (λ (x : Sofar). Quietly b x) (sym h) (quiet_here d _ [] [] _ b _ (broken_came d now b may) (ended_quiet (end_at b.state d).line b.state.app d now))
input_acts (app_in.Join d) now b c may has h = subst (λ (x : Sofar). Quietly b x) (sym h) (quiet_here d _ [] [] [] b _ (joined_came d b may) tt)
input_acts app_in.Tick now b c may has h = subst (λ (x : Sofar). Quietly b x) (sym h) (ticks_quiet (range_with_len 0 (length b.state.ends)) now b)
