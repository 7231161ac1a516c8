-- What each frame by which an end learns of no order comes to, by what is on its way before it.
use Rattle.std.proofs.Common.{◌≡◌, ◌≢◌, ◌≤◌, ◌⊎◌, inl, inr, ℕ, Bool, false, List, [], ◌∷◌, Option, Some, None, refl, sym, ◌∙◌, ap, subst, arith}
use Rattle.std.specs.Prelude.{nat_lt, Ok}
use Rattle.std.proofs.lemmas.Bool.{eqb-true, false≢true, ltb-true}
use Rattle.plain_orders.specs.declared.act.Act.TheVariants as act
use Rattle.plain_orders.specs.declared.causes.Loss.TheVariants as losses
use Rattle.plain_orders.specs.declared.refused.LinkName.TheVariants as names
use Rattle.plain_runs.specs.Plain.{Server}
use Rattle.link_window.specs.declared.window.Taken.TheVariants.{Repeat}
use Rattle.ecp_messages.specs.declared.down.Down.{Down}
use Rattle.ecp_messages.specs.declared.down.Down.TheVariants.{Welcome, Reset, Block, Drop, Ack, Grant, Answer, Normal, Bare}
use Rattle.ecp_messages.specs.declared.down.DownFrame.{DownFrame}
use Rattle.ecp_messages.specs.declared.front.Front.{Front}
use Rattle.app_job.specs.declared.reason.Reason.TheVariants as reasons
use Rattle.app_rules.specs.declared.line.Line.{Line}
use Rattle.app_rules.specs.declared.line.Line.TheVariants.{Apart, Trying, Greeting, Asking, Joined}
use Rattle.app_rules.specs.AppState.{AppEnd, Session}
use Rattle.app_rules.specs.Losing.{without_session}
use Rattle.app_rules.specs.Works.{Sofar, body_of, is_joined}
use Rattle.cluster_runs.specs.Machine.{Site, End}
use Rattle.cluster_runs.specs.Sent.{Place, Connection}
use Rattle.cluster_invariant.specs.Ends.{EndsAre}
use Rattle.cluster_invariant.specs.Link.{AskedFirst, AskedWay, DownBy, GreetedFirst, GreetedWay, LinkHolds, WithSession, fits_down}
use Rattle.cluster_invariant.specs.Words.{downs_left, has_wire, is_reset_down}
use Rattle.cluster_invariant.proofs.Small.{of_some}
use Rattle.cluster_steps.proofs.EndSteps.{Here}
use Rattle.cluster_steps.proofs.FrameCases.{BareCame}
use Rattle.cluster_steps.proofs.FrameEnds.{EndsIt, FrameCame, NumberedCame, TookFresh, WentOn}
use Rattle.cluster_steps.proofs.InputsBring.{WelcomeTold}
use Rattle.link_kept.proofs.Answers.{repeat_below}
use Rattle.link_apps.proofs.FrameTook.{Took, took_ack, took_fresh}
use Rattle.link_apps.proofs.JoinedFirst.{JoinedFirst, joined_first}
use Rattle.link_apps.proofs.TookDown.{next_number}

-- the session was closed
pub record Lost (d : ℕ) (e : AppEnd) (b c : Sofar) : Type 0 where
  pub at : ℕ
  pub here : Here d (without_session names.Recovery (reasons.Reset at) e) [] (d ∷ []) (act.Lose b.state.app d (losses.Reset at) ∷ []) b c

-- the Welcome of the epoch that was told
pub record Went (d now : ℕ) (frame : DownFrame) (e : AppEnd) (b c : Sofar) : Type 0 where
  pub session : ℕ
  pub epoch : ℕ
  pub kept : ℕ
  pub front : Front
  pub taken : ℕ
  pub message : frame.message ≡ Welcome session epoch kept front taken
  pub went : WentOn d now session epoch front taken e b c

-- The end ends the connection, or loses its session, or takes the frame, or has no connection any more, or goes on with its session.
abbrev pub Comes : ℕ → ℕ → DownFrame → AppEnd → Sofar → Sofar → Type 0
Comes d now frame e b c = EndsIt d now e b c ⊎ Lost d e b c ⊎ Took d frame e b c ⊎ ((has_wire e.line ≡ false) × Here d e [] [] [] b c) ⊎ Went d now frame e b c

module _ (v : Server) (x : Site) (dead : ℕ → Bool) (app d now : ℕ) (frame : DownFrame) (alive : dead app ≡ false) (link : LinkHolds v x dead) (are : EndsAre v x dead)
    (on : Connection) (its : (x.end_at app).connection_at (x.end_at app).state.dial ≡ Some on) (rest : List DownFrame) (left : downs_left on ≡ frame ∷ rest)
    (b c : Sofar) where
  abbrev e : End
  e = x.end_at app

  first_of : (s : Session) → e.state.line ≡ Joined → e.state.session ≡ Some s → is_reset_down frame.message ≡ false → JoinedFirst v x app s on frame rest
  first_of s line has not_reset = joined_first v x dead app alive link are s on frame rest line has its left not_reset

  -- a message with a number is never one that was taken before
  none_again : (s : Session) → JoinedFirst v x app s on frame rest → frame.seq ≢ 0 → frame.seq ≤ s.window.taken → ⊥
  none_again s p some low =
      absurd (omega (arith, low, p.place.window.taken, next_number frame p.first.its (x.lane_at s.number p.place.k) some p.first.next))

  numbered : (m : Down) (f : Front) → frame.message ≡ m → ((n : ℕ) → fits_down m n ≡ nat_lt 0 n) → is_reset_down m ≡ false
      → NumberedCame d now frame.seq frame.ack m f e.state b c → Comes d now frame e.state b c
  numbered m f is fits reset (inl t) =
      inr (inr (inl (took_fresh d now frame f e.state b c (subst (λ (y : Down). TookFresh d now frame.seq frame.ack y f e.state b c) (sym is) t))))
  numbered m f is fits reset (inr (inr t)) = inl t
  numbered m f is fits reset (inr (inl t)) = absurd (go t.repeats)
    where
      place : JoinedFirst v x app t.session on frame rest
      place = first_of t.session t.is_joined t.its (ap is_reset_down is ∙ reset)

      some : frame.seq ≢ 0
      some none =
          absurd (omega (arith, none, ltb-true 0 frame.seq (sym (fits frame.seq) ∙ ap (λ (y : Down). fits_down y frame.seq) (sym is) ∙ place.first.kind)))

      go : (frame.seq ≡ 0) ⊎ (t.answered ≡ Ok Repeat) → ⊥
      go (inl none) = some none
      go (inr again) = none_again t.session place some (repeat_below body_of t.session.window frame.seq frame.ack (t.known ∙ again))

  -- an acknowledgement by itself has no number
  bare_none : (s : Session) → frame.message ≡ Bare → JoinedFirst v x app s on frame rest → frame.seq ≡ 0
  bare_none s is p = eqb-true frame.seq 0 (ap (λ (y : Down). fits_down y frame.seq) (sym is) ∙ p.first.kind)

  -- and comes to no end that didn't take the Welcome of its connection
  unwired : frame.message ≡ Bare → (line : Line) → e.state.line ≡ line → is_joined line ≡ false → has_wire line ≡ false
  unwired is Apart at none = refl
  unwired is Trying at none = refl
  unwired is Joined at none = absurd (false≢true (sym none))
  unwired is Greeting at none = absurd (go way)
    where
      way : GreetedWay v x app e.state.told on (frame ∷ rest)
      way =
          subst (GreetedWay v x app e.state.told on) left
          (subst (λ (line : Line). DownBy line v x app e on) at (of_some (DownBy e.state.line v x app e) (e.connection_at e.state.dial) on its (link.apps app alive).down))

      go : GreetedWay v x app e.state.told on (frame ∷ rest) → ⊥
      go w = subst (GreetedFirst v x app e.state.told on) is w.1
  unwired is Asking at none = absurd (go e.state.session e.told way)
    where
      way : WithSession e.state.session e.told (λ s k. AskedWay v x s k on (downs_left on))
      way = subst (λ (line : Line). DownBy line v x app e on) at (of_some (DownBy e.state.line v x app e) (e.connection_at e.state.dial) on its (link.apps app alive).down)

      by : (s : Session) (k : ℕ) → AskedWay v x s k on (frame ∷ rest) → ⊥
      by s k w = subst (AskedFirst v x s k on rest) is w.1

      go : (o : Option Session) (p : Option Place) → WithSession o p (λ s k. AskedWay v x s k on (downs_left on)) → ⊥
      go None p w = w
      go (Some s) None w = w
      go (Some s) (Some p) w = by s p.order (subst (AskedWay v x s p.order on) left w)

  bare : frame.message ≡ Bare → BareCame d now frame.ack e.state b c → Comes d now frame e.state b c
  bare is (inl t) =
      inr (inr (inl (took_ack d 0 frame e.state b c t (bare_none t.session is (first_of t.session t.is_joined t.its (ap is_reset_down is))) (ap is_reset_down is))))
  bare is (inr (inl t)) = inr (inr (inr (inl (unwired is e.state.line refl t.0, t.1))))
  bare is (inr (inr t)) = inl t

  -- Each frame that tells no session of an order comes to one of these.
  pub frame_comes : (m : Down) → frame.message ≡ m → (WelcomeTold m d now e.state b c → ⊥) → (frame.message ≡ Bare → BareCame d now frame.ack e.state b c) → FrameCame m d now frame e.state b c
      → Comes d now frame e.state b c
  frame_comes (Welcome session epoch kept front taken) is none by (inl t) = absurd (none (inl t))
  frame_comes (Welcome session epoch kept front taken) is none by (inr (inl t)) =
      inr (inr (inr (inr (record { session = session; epoch = epoch; kept = kept; front = front; taken = taken; message = is; went = t }))))
  frame_comes (Welcome session epoch kept front taken) is none by (inr (inr (inl t))) = absurd (none (inr t))
  frame_comes (Welcome session epoch kept front taken) is none by (inr (inr (inr t))) = inl t
  frame_comes (Reset session at) is none by (inl t) = inr (inl (record { at = at; here = t.here }))
  frame_comes (Reset session at) is none by (inr t) = inl t
  frame_comes (Block front block) is none by came = numbered (Block front block) front is (λ n. refl) refl came
  frame_comes (Drop front lo hi) is none by came = numbered (Drop front lo hi) front is (λ n. refl) refl came
  frame_comes (Ack front) is none by came = numbered (Ack front) front is (λ n. refl) refl came
  frame_comes (Grant front ticket at) is none by came = numbered (Grant front ticket at) front is (λ n. refl) refl came
  frame_comes (Answer front about job number at sum) is none by came = numbered (Answer front about job number at sum) front is (λ n. refl) refl came
  frame_comes (Normal front) is none by came = numbered (Normal front) front is (λ n. refl) refl came
  frame_comes Bare is none by came = bare is (by is)
