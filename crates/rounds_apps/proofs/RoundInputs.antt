-- What an input that tells an end nothing new makes of its session: it took a message or none.
use Rattle.std.proofs.Common.{◌≡◌, ◌≢◌, ◌⊎◌, inl, inr, ℕ, Bool, true, false, if◌then◌else◌, List, [], append-nil, length, Option, Some, None, option_map, refl, sym, ◌∙◌, ap, subst}
use Rattle.std.specs.Prelude.{⊤, IfSome, eqb}
use Rattle.std.proofs.lemmas.Bool.{eq-eqb, eqb-true, false≢true}
use Rattle.link_states.specs.declared.app_link.AppLink.{AppLink}
use Rattle.link_states.specs.declared.app_link.AppLink.TheVariants.{NotConnected, Normal as NormalLink, Trouble, Recovery}
use Rattle.ecp_messages.specs.declared.down.Down.{Down}
use Rattle.ecp_messages.specs.declared.down.Down.TheVariants.{Welcome, Reset, Block, Drop, Ack, Grant, Answer, Normal, Bare}
use Rattle.ecp_messages.specs.declared.down.DownFrame.{DownFrame}
use Rattle.ecp_messages.specs.declared.front.Front.{Front}
use Rattle.ecp_messages.specs.declared.up.Up.{Up}
use Rattle.end_words.specs.Windows.{with_ack_put}
use Rattle.app_rules.specs.declared.app_in.AppIn.{AppIn}
use Rattle.app_rules.specs.declared.app_in.AppIn.TheVariants as app_in
use Rattle.app_rules.specs.declared.line.Line.{Line}
use Rattle.app_rules.specs.declared.line.Line.TheVariants.{Joined}
use Rattle.app_rules.specs.AppState.{AppState, AppEnd, Session}
use Rattle.app_rules.specs.AppStep.{AppMay, Makes}
use Rattle.app_rules.specs.Works.{Sofar, end_at, with_window}
use Rattle.app_rules.specs.Laws.{KeepsOthers, named_by}
use Rattle.cluster_steps.proofs.FrameCases.{LineHas, frame_came}
use Rattle.cluster_steps.proofs.FrameEnds.{Acked, EndsIt, FrameCame, NumberedCame, TookFresh}
use Rattle.cluster_steps.proofs.InputEnds.{ConnectedCame, broken_came, connected_came, failed_came, joined_came}
use Rattle.cluster_steps.proofs.InputsBring.{WelcomeTold}
use Rattle.ends_kept.proofs.NextDown.{HasNumber}
use Rattle.link_apps.proofs.LanesApps.{given_put}
use Rattle.link_apps.proofs.Rests.{all_ticked, ended_rests, failed_rests, rejoined_rests}
use Rattle.std.specs.List.{range_with_len}
use Rattle.rounds_apps.proofs.RoundLanes.{SessionGoes}
use Rattle.rounds_apps.proofs.RoundSessions.{acked_goes, same_goes, took_goes, went_goes, window_goes}

-- the session of an end goes on, or is lost
abbrev pub SessionsGo : Option Session → Option Session → Option Down → Type 0
SessionsGo o None took = ⊤
SessionsGo None (Some t) took = ⊥
SessionsGo (Some s) (Some t) took = (put : List Up) × SessionGoes s t took put

-- What a frame or another input makes of it: what was taken is the frame's message, on a connection whose Welcome came.
pub record FrameGoes (message : Option Down) (line : Line) (o q : Option Session) : Type 0 where
  pub took : Option Down
  pub goes : SessionsGo o q took
  pub its : IfSome took (λ w. (message ≡ Some w) × HasNumber w × (line ≡ Joined))

-- nothing was taken

nothing_taken : (message : Option Down) (line : Line) (o q : Option Session) → SessionsGo o q None → FrameGoes message line o q
nothing_taken message line o q goes = record { took = None; goes = goes; its = tt }

pub session_same : (o : Option Session) → SessionsGo o o None
session_same None = tt
session_same (Some s) = ([], same_goes s)

rests_go : (o q : Option Session) → (q ≡ o) ⊎ (q ≡ None) → SessionsGo o q None
rests_go o q (inl same) = subst (λ (z : Option Session). SessionsGo o z None) (sym same) (session_same o)
rests_go o q (inr lost) = subst (λ (z : Option Session). SessionsGo o z None) (sym lost) tt

-- one end of several
at_one : (d k : ℕ) (a b : AppState) (P : ℕ → Option Session → Option Session → Type 0) → KeepsOthers a b d → ((o : Option Session) → k ≢ d → P k o o)
    → P d (end_at a d).session (end_at b d).session → P k (end_at a k).session (end_at b k).session
at_one d k a b P others still here = go (eqb k d) refl
  where
    go : (t : Bool) → eqb k d ≡ t → P k (end_at a k).session (end_at b k).session
    go true same = subst (λ (n : ℕ). P n (end_at a n).session (end_at b n).session) (sym (eqb-true k d same)) here
    go false other =
        let apart : k ≢ d = λ same. absurd (false≢true (sym other ∙ eq-eqb k d same)) in
        subst (λ (x : AppEnd). P k (end_at a k).session x.session) (sym (others k apart)) (still (end_at a k).session apart)

-- frames

module _ (d now : ℕ) (frame : DownFrame) (b c : Sofar) where
  abbrev e : AppEnd
  e = end_at b.state d

  abbrev t : AppEnd
  t = end_at c.state d

  abbrev Goes : Down → Type 0
  Goes w = FrameGoes (Some w) e.line e.session t.session

  -- it ends the connection
  ends_go : (w : Down) → EndsIt d now e b c → Goes w
  ends_go w x =
      nothing_taken (Some w) e.line e.session t.session
      (rests_go e.session t.session
      (subst (λ (f : AppEnd). (f.session ≡ e.session) ⊎ (f.session ≡ None)) (sym x.end) (ended_rests e.line b.state.times now e refl).session))

  acked_go : (w : Down) (seq ack : ℕ) → Acked d seq ack e b c → Goes w
  acked_go w seq ack x =
      nothing_taken (Some w) e.line e.session t.session
      (subst (λ (o : Option Session). SessionsGo o t.session None) (sym x.its)
      (subst (λ (f : AppEnd). SessionsGo (Some x.session) f.session None) (sym x.settles.here.end) ([], acked_goes x.session ack x.settles.since)))

  fresh_go : (w : Down) (f : Front) → HasNumber w → TookFresh d now frame.seq frame.ack w f e b c → Goes w
  fresh_go w f has x = record {
    took = Some w;
    goes =
        subst (λ (o : Option Session). SessionsGo o t.session (Some w)) (sym x.its)
        (subst (λ (g : AppEnd). SessionsGo (Some x.session) g.session (Some w)) (sym x.here.end)
        (x.put, took_goes frame.ack x.since frame.seq f x.session w e.link b.state.times now x.after x.link x.put x.delivered));
    its = (refl, has, x.is_joined);
  }

  numbered_go : (w : Down) (f : Front) → HasNumber w → NumberedCame d now frame.seq frame.ack w f e b c → Goes w
  numbered_go w f has (inl x) = fresh_go w f has x
  numbered_go w f has (inr (inl x)) = acked_go w frame.seq frame.ack x
  numbered_go w f has (inr (inr x)) = ends_go w x

  -- what comes of a frame tells something new, or makes this of the session
  frame_goes : (w : Down) → FrameCame w d now frame e b c → Goes w ⊎ WelcomeTold w d now e b c
  frame_goes (Welcome session epoch kept front taken) (inl x) = inr (inl x)
  frame_goes (Welcome session epoch kept front taken) (inr (inl x)) =
      inl (nothing_taken (Some (Welcome session epoch kept front taken)) e.line e.session t.session
      (subst (λ (o : Option Session). SessionsGo o t.session None) (sym x.its)
      (subst (λ (f : AppEnd). SessionsGo (Some x.session) f.session None) (sym x.here.end) ([], went_goes x.session x.since front.s))))
  frame_goes (Welcome session epoch kept front taken) (inr (inr (inl x))) = inr (inr x)
  frame_goes (Welcome session epoch kept front taken) (inr (inr (inr x))) = inl (ends_go (Welcome session epoch kept front taken) x)
  frame_goes (Reset session at) (inl x) =
      inl (nothing_taken (Some (Reset session at)) e.line e.session t.session (subst (λ (f : AppEnd). SessionsGo e.session f.session None) (sym x.here.end) tt))
  frame_goes (Reset session at) (inr x) = inl (ends_go (Reset session at) x)
  frame_goes (Block front block) x = inl (numbered_go (Block front block) front tt x)
  frame_goes (Drop front lo hi) x = inl (numbered_go (Drop front lo hi) front tt x)
  frame_goes (Ack front) x = inl (numbered_go (Ack front) front tt x)
  frame_goes (Grant front ticket at) x = inl (numbered_go (Grant front ticket at) front tt x)
  frame_goes (Answer front about job number at sum) x = inl (numbered_go (Answer front about job number at sum) front tt x)
  frame_goes (Normal front) x = inl (numbered_go (Normal front) front tt x)
  frame_goes Bare (inl x) = inl (acked_go Bare 0 frame.ack x)
  frame_goes Bare (inr (inl x)) =
      inl (nothing_taken (Some Bare) e.line e.session t.session (subst (λ (f : AppEnd). SessionsGo e.session f.session None) (sym x.end) (session_same e.session)))
  frame_goes Bare (inr (inr x)) = inl (ends_go Bare x)

-- the other inputs

connected_go : (link : AppLink) (d now : ℕ) (b c : Sofar) → ConnectedCame link d now (end_at b.state d) b c → SessionsGo (end_at b.state d).session (end_at c.state d).session None
connected_go NotConnected d now b c x =
    subst (λ (f : AppEnd). SessionsGo (end_at b.state d).session f.session None) (sym x.end) (session_same (end_at b.state d).session)
connected_go NormalLink d now b c x =
    subst (λ (f : AppEnd). SessionsGo (end_at b.state d).session f.session None) (sym x.end) (session_same (end_at b.state d).session)
connected_go (Trouble broke try_at) d now b c x =
    subst (λ (f : AppEnd). SessionsGo (end_at b.state d).session f.session None) (sym x.end) (put (end_at b.state d).session)
  where
    put : (o : Option Session) → SessionsGo o (option_map (with_window with_ack_put) o) None
    put None = tt
    put (Some s) =
        ([], window_goes s (with_ack_put s.window) (given_put s.window (with_ack_put s.window) [] refl (sym (append-nil s.window.waiting))) refl)
connected_go Recovery d now b c x =
    subst (λ (f : AppEnd). SessionsGo (end_at b.state d).session f.session None) (sym x.end) (session_same (end_at b.state d).session)

-- the message of a frame that comes to this end
abbrev pub comes_to : AppIn → ℕ → Option Down
comes_to (app_in.Frame k frame) d = if eqb d k then Some frame.message else None
comes_to (app_in.Connected k) d = None
comes_to (app_in.NoWay k before later) d = None
comes_to (app_in.Broken k) d = None
comes_to (app_in.Join k) d = None
comes_to app_in.Tick d = None

-- an input tells the end something new
abbrev pub TellsNew : AppIn → ℕ → ℕ → Sofar → Sofar → Type 0
TellsNew (app_in.Frame k frame) d now b c = (d ≡ k) × WelcomeTold frame.message k now (end_at b.state k) b c
TellsNew (app_in.Connected k) d now b c = ⊥
TellsNew (app_in.NoWay k before later) d now b c = ⊥
TellsNew (app_in.Broken k) d now b c = ⊥
TellsNew (app_in.Join k) d now b c = ⊥
TellsNew app_in.Tick d now b c = ⊥

-- What each input makes of the session of the end with a data server, unless it tells it something new.
pub input_goes : (input : AppIn) (d now : ℕ) (b c : Sofar) → AppMay b.state input → IfSome (named_by input) (KeepsOthers b.state c.state)
    → ((k : ℕ) → LineHas (end_at b.state k).line (end_at b.state k).session) → Makes b now input c
    → FrameGoes (comes_to input d) (end_at b.state d).line (end_at b.state d).session (end_at c.state d).session ⊎ TellsNew input d now b c
input_goes (app_in.Frame k frame) d now b c may others has makes = go (eqb d k) refl
  where
    here : d ≡ k → FrameGoes (Some frame.message) (end_at b.state k).line (end_at b.state k).session (end_at c.state k).session ⊎ WelcomeTold frame.message k now (end_at b.state k) b c
        → FrameGoes (Some frame.message) (end_at b.state d).line (end_at b.state d).session (end_at c.state d).session ⊎ TellsNew (app_in.Frame k frame) d now b c
    here same (inl x) =
        inl (subst (λ (n : ℕ). FrameGoes (Some frame.message) (end_at b.state n).line (end_at b.state n).session (end_at c.state n).session) (sym same) x)
    here same (inr x) = inr (same, x)

    go : (t : Bool) → eqb d k ≡ t
        → FrameGoes (if t then Some frame.message else None) (end_at b.state d).line (end_at b.state d).session (end_at c.state d).session
        ⊎ TellsNew (app_in.Frame k frame) d now b c
    go true same = here (eqb-true d k same) (frame_goes k now frame b c frame.message (frame_came b now k frame c may.known (has k) makes))
    go false other =
        inl (nothing_taken None (end_at b.state d).line (end_at b.state d).session (end_at c.state d).session
        (subst (λ (x : AppEnd). SessionsGo (end_at b.state d).session x.session None) (sym (others d (λ same. false≢true (sym other ∙ eq-eqb d k same))))
        (session_same (end_at b.state d).session)))
input_goes (app_in.Connected k) d now b c may others has makes =
    inl (nothing_taken None (end_at b.state d).line (end_at b.state d).session (end_at c.state d).session
    (at_one k d b.state c.state (λ n o q. SessionsGo o q None) others (λ o apart. session_same o)
    (connected_go (end_at b.state k).link k now b c
    (subst (λ (x : Sofar). ConnectedCame (end_at b.state k).link k now (end_at b.state k) b x) (sym makes) (connected_came k now b may.known)))))
input_goes (app_in.NoWay k before later) d now b c may others has makes =
    inl (nothing_taken None (end_at b.state d).line (end_at b.state d).session (end_at c.state d).session
    (at_one k d b.state c.state (λ n o q. SessionsGo o q None) others (λ o apart. session_same o)
    (subst (λ (f : AppEnd). SessionsGo (end_at b.state k).session f.session None) (sym (ap (λ (x : Sofar). end_at x.state k) makes ∙ (failed_came k before later now b may.tried.known).end))
    (rests_go (end_at b.state k).session _ (failed_rests (end_at b.state k).link b.state.times before later now (end_at b.state k)).session))))
input_goes (app_in.Broken k) d now b c may others has makes =
    inl (nothing_taken None (end_at b.state d).line (end_at b.state d).session (end_at c.state d).session
    (at_one k d b.state c.state (λ n o q. SessionsGo o q None) others (λ o apart. session_same o)
    (subst (λ (f : AppEnd). SessionsGo (end_at b.state k).session f.session None) (sym (ap (λ (x : Sofar). end_at x.state k) makes ∙ (broken_came k now b may).end))
    (rests_go (end_at b.state k).session _ (ended_rests (end_at b.state k).line b.state.times now (end_at b.state k) refl).session))))
input_goes (app_in.Join k) d now b c may others has makes =
    inl (nothing_taken None (end_at b.state d).line (end_at b.state d).session (end_at c.state d).session
    (at_one k d b.state c.state (λ n o q. SessionsGo o q None) others (λ o apart. session_same o)
    (subst (λ (f : AppEnd). SessionsGo (end_at b.state k).session f.session None) (sym (ap (λ (x : Sofar). end_at x.state k) makes ∙ (joined_came k b may).end))
    (rests_go (end_at b.state k).session _ (rejoined_rests (end_at b.state k).link (end_at b.state k)).session))))
input_goes app_in.Tick d now b c may others has makes =
    inl (nothing_taken None (end_at b.state d).line (end_at b.state d).session (end_at c.state d).session
    (subst (λ (x : Sofar). SessionsGo (end_at b.state d).session (end_at x.state d).session None) (sym makes)
    (rests_go (end_at b.state d).session _ (all_ticked (range_with_len 0 (length b.state.ends)) d now b).session)))
