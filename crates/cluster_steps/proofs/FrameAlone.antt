-- What an application server puts as it takes a frame goes to the frame's data server alone.
use Rattle.std.proofs.Common.{◌≡◌, ◌≢◌, inl, inr, ℕ, Bool, true, false, List, [], ◌∷◌, refl, ◌∙◌, ap}
use Rattle.std.specs.Prelude.{Result, Ok, Err}
use Rattle.plain_orders.specs.declared.act.Act.TheVariants as act
use Rattle.link_states.specs.declared.link_event.LinkEvent.TheVariants.{Settled}
use Rattle.link_window.specs.declared.window.Taken.{Taken}
use Rattle.link_window.specs.declared.window.Taken.TheVariants.{Fresh, Repeat}
use Rattle.link_window.specs.declared.window.WindowError.{WindowError}
use Rattle.ecp_messages.specs.declared.up.Up.{Up}
use Rattle.ecp_messages.specs.declared.down.Down.{Down}
use Rattle.ecp_messages.specs.declared.down.Down.TheVariants.{Welcome, Reset, Block, Drop, Ack, Grant, Answer, Normal, Bare}
use Rattle.ecp_messages.specs.declared.down.DownFrame.{DownFrame}
use Rattle.ecp_messages.specs.declared.front.Front.{Front}
use Rattle.end_words.specs.Windows.{answers, owes_bare, resent}
use Rattle.app_rules.specs.declared.app_in.AppIn.TheVariants as app_in
use Rattle.app_rules.specs.declared.line.Line.{Line}
use Rattle.app_rules.specs.declared.line.Line.TheVariants.{Apart, Trying, Greeting, Asking, Joined}
use Rattle.app_rules.specs.AppStep.{Makes}
use Rattle.app_rules.specs.Works.{Sofar, becomes, writes, cuts, puts, puts_all, tells, tells_if, sets, happens, end_at, session_at, is_joined, body_of, with_line, synced_up}
use Rattle.app_rules.specs.Losing.{broken_from, ends_it}
use Rattle.app_rules.specs.Welcoming.{sends_again, settles_unless, told_puts, in_epoch, TakesWelcome}
use Rattle.app_rules.specs.Downs.{Delivers, took, TakesNumbered, TakesHeaded, TakesAck, TakesBare, joined, TakesFrame, bares_if, bares_joined, settled}
use Rattle.app_rules.specs.Delivering.{to_put_again, with_all_put}
use Rattle.cluster_runs.specs.Connections.{ups_to}
use Rattle.cluster_steps.proofs.JobEnds.{up_elsewhere}

-- the session goes on, and nothing was sent again yet
abbrev going : ℕ → Front → Sofar → Sofar
going d front b = sets d (synced_up front.s) (becomes d (with_line Joined) b)

module _ (k d : ℕ) (other : d ≢ k) where
  -- nothing more goes to the other data server
  abbrev Silent : Sofar → Sofar → Type 0
  Silent b c = ups_to k c.outs.frames ≡ ups_to k b.outs.frames

  silent_after : (b c e : Sofar) → c ≡ e → Silent b e → Silent b c
  silent_after b c e after is = ap (λ (x : Sofar). ups_to k x.outs.frames) after ∙ is

  tells_silent : (n : ℕ) (m : Up) (b : Sofar) → Silent b (tells d n m b)
  tells_silent n m b = up_elsewhere k b.outs.frames _ other

  tells_if_silent : (is_there : Bool) (n : ℕ) (m : Up) (b : Sofar) → Silent b (tells_if is_there d n m b)
  tells_if_silent true n m b = tells_silent n m b
  tells_if_silent false n m b = refl

  puts_silent : (m : Up) (b : Sofar) → Silent b (puts d m b)
  puts_silent m b = tells_if_silent (is_joined (end_at b.state d).line) _ m _

  puts_all_silent : (ms : List Up) (b : Sofar) → Silent b (puts_all d ms b)
  puts_all_silent [] b = refl
  puts_all_silent (m ∷ ms) b = puts_all_silent ms (puts d m b) ∙ puts_silent m b

  sends_silent : (ms : List (ℕ × Up)) (b : Sofar) → Silent b (sends_again d ms b)
  sends_silent [] b = refl
  sends_silent (m ∷ ms) b = sends_silent ms (tells d m.0 m.1 b) ∙ tells_silent m.0 m.1 b

  broken_silent : (x : Line) (now : ℕ) (b : Sofar) → Silent b (broken_from x d now b)
  broken_silent Apart now b = refl
  broken_silent Trying now b = refl
  broken_silent Greeting now b = refl
  broken_silent Asking now b = refl
  broken_silent Joined now b = refl

  ends_silent : (now : ℕ) (b : Sofar) → Silent b (ends_it d now b)
  ends_silent now b = broken_silent (end_at (cuts d b).state d).line now (cuts d b)

  settles_silent : (due : Bool) (now : ℕ) (b : Sofar) → Silent b (settles_unless due d now b)
  settles_silent true now b = refl
  settles_silent false now b = refl

  welcome_silent : (b : Sofar) (now session epoch kept : ℕ) (front : Front) (taken : ℕ) (c : Sofar) → TakesWelcome b d now session epoch kept front taken c → Silent b c
  welcome_silent b now session epoch kept front taken c (inl t) = ap (λ (x : Sofar). ups_to k x.outs.frames) t.after
  welcome_silent b now session epoch kept front taken c (inr (inl t)) =
      ap (λ (x : Sofar). ups_to k x.outs.frames) t.after
      ∙ settles_silent (session_at b.state d).normal_due now (sends_again d (resent (session_at b.state d).window taken) (going d front b))
      ∙ sends_silent (resent (session_at b.state d).window taken) (going d front b)
  welcome_silent b now session epoch kept front taken c (inr (inr (inl t))) =
      ap (λ (x : Sofar). ups_to k x.outs.frames) t.after
      ∙ puts_all_silent (told_puts front.w (synced_up front.s (session_at b.state d))) (sets d (in_epoch epoch front) (becomes d (with_line Joined) (writes (act.Told b.state.app d session epoch kept) b)))
  welcome_silent b now session epoch kept front taken c (inr (inr (inr t))) = silent_after b c (ends_it d now b) t.after (ends_silent now b)

  delivers_silent : (m : Down) (now : ℕ) (b c : Sofar) → Delivers m d now b c → Silent b c
  delivers_silent (Welcome session epoch kept front taken) now b c t = absurd t
  delivers_silent (Reset session at) now b c t = absurd t
  delivers_silent (Block front block) now b c t = ap (λ (x : Sofar). ups_to k x.outs.frames) t.after
  delivers_silent (Drop front lo hi) now b c t = ap (λ (x : Sofar). ups_to k x.outs.frames) t
  delivers_silent (Ack front) now b c t = ap (λ (x : Sofar). ups_to k x.outs.frames) t
  delivers_silent (Grant front ticket at) now b c t = ap (λ (x : Sofar). ups_to k x.outs.frames) t
  delivers_silent (Answer front about job number at sum) now b c t = ap (λ (x : Sofar). ups_to k x.outs.frames) t
  delivers_silent (Normal front) now b c t =
      ap (λ (x : Sofar). ups_to k x.outs.frames) t ∙ puts_all_silent (to_put_again (session_at b.state d)) (happens d now Settled (sets d with_all_put b))
  delivers_silent Bare now b c t = absurd t

  numbered_silent : (r : Result Taken WindowError) (b : Sofar) (now : ℕ) (frame : DownFrame) (f : Front) (c : Sofar) → TakesNumbered r b d now frame f c → Silent b c
  numbered_silent (Ok Fresh) b now frame f c (inl t) = delivers_silent frame.message now (sets d (took frame.seq frame.ack f) b) c t.made
  numbered_silent (Ok Fresh) b now frame f c (inr t) = silent_after b c (ends_it d now b) t.after (ends_silent now b)
  numbered_silent (Ok Repeat) b now frame f c t = ap (λ (x : Sofar). ups_to k x.outs.frames) t
  numbered_silent (Err why) b now frame f c t = silent_after b c (ends_it d now b) t (ends_silent now b)

  headed_silent : (is_there : Bool) (b : Sofar) (now : ℕ) (frame : DownFrame) (f : Front) (c : Sofar) → TakesHeaded is_there b d now frame f c → Silent b c
  headed_silent true b now frame f c t = numbered_silent (answers body_of (session_at b.state d).window frame.seq frame.ack) b now frame f c t
  headed_silent false b now frame f c t = silent_after b c (ends_it d now b) t (ends_silent now b)

  ack_silent : (r : Result Taken WindowError) (b : Sofar) (now ack : ℕ) (c : Sofar) → TakesAck r b d now ack c → Silent b c
  ack_silent (Ok answer) b now ack c t = ap (λ (x : Sofar). ups_to k x.outs.frames) t
  ack_silent (Err why) b now ack c t = silent_after b c (ends_it d now b) t (ends_silent now b)

  bare_silent : (is_there : Bool) (b : Sofar) (now ack : ℕ) (c : Sofar) → TakesBare is_there b d now ack c → Silent b c
  bare_silent true b now ack c t = ack_silent (answers body_of (session_at b.state d).window 0 ack) b now ack c t
  bare_silent false b now ack c t = ap (λ (x : Sofar). ups_to k x.outs.frames) t

  frame_silent : (m : Down) (b : Sofar) (now : ℕ) (frame : DownFrame) (c : Sofar) → TakesFrame m b d now frame c → Silent b c
  frame_silent (Welcome session epoch kept front taken) b now frame c t = welcome_silent b now session epoch kept front taken c t
  frame_silent (Reset session at) b now frame c (inl t) = ap (λ (x : Sofar). ups_to k x.outs.frames) t.after
  frame_silent (Reset session at) b now frame c (inr t) = silent_after b c (ends_it d now b) t.after (ends_silent now b)
  frame_silent (Block front block) b now frame c t = headed_silent (joined b d) b now frame front c t
  frame_silent (Drop front lo hi) b now frame c t = headed_silent (joined b d) b now frame front c t
  frame_silent (Ack front) b now frame c t = headed_silent (joined b d) b now frame front c t
  frame_silent (Grant front ticket at) b now frame c t = headed_silent (joined b d) b now frame front c t
  frame_silent (Answer front about job number at sum) b now frame c t = headed_silent (joined b d) b now frame front c t
  frame_silent (Normal front) b now frame c t = headed_silent (joined b d) b now frame front c t
  frame_silent Bare b now frame c t = bare_silent (joined b d) b now frame.ack c t

  bares_silent : (owed : Bool) (b : Sofar) → Silent b (bares_if owed d b)
  bares_silent true b = up_elsewhere k b.outs.frames _ other
  bares_silent false b = refl

  bares_joined_silent : (is_there : Bool) (b : Sofar) → Silent b (bares_joined is_there d b)
  bares_joined_silent true b = bares_silent (owes_bare (session_at b.state d).window) b
  bares_joined_silent false b = refl

  pub taken_silent : (b : Sofar) (now : ℕ) (frame : DownFrame) (c : Sofar) → Makes b now (app_in.Frame d frame) c → Silent b c
  taken_silent b now frame c t =
      silent_after b c (settled d t.taken) t.after (bares_joined_silent (joined t.taken d) t.taken ∙ frame_silent frame.message b now frame t.taken t.takes)
