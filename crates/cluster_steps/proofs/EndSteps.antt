-- What a step makes of one end of an application server, and what it puts, cuts and writes there: word by word.
use Rattle.std.proofs.Common.{◌≡◌, ◌+◌, ◌<◌, ◌≤◌, ℕ, Bool, true, false, List, [], ◌∷◌, ◌++◌, length, map, Option, Some, option_map, refl, sym, ◌∙◌, ap, subst, arith}
use Rattle.std.proofs.lemmas.List.{append-nil, append_assoc, length-append, length-set, get_or-set_same}
use Rattle.plain_orders.specs.declared.act.Act.{Act}
use Rattle.plain_orders.specs.declared.layout.Times.{Times}
use Rattle.link_states.specs.declared.link_event.LinkEvent.{LinkEvent}
use Rattle.link_states.specs.Tables.{app_next}
use Rattle.ecp_messages.specs.declared.up.Up.{Up}
use Rattle.ecp_messages.specs.declared.up.Up.TheVariants.{Bare as BareUp}
use Rattle.ecp_messages.specs.declared.up.UpFrame.{UpFrame}
use Rattle.end_words.specs.Windows.{sent, with_sent, with_ack_put, numbered_from, owes_bare}
use Rattle.app_rules.specs.declared.up_frames.UpOut.{UpOut}
use Rattle.app_rules.specs.AppState.{AppEnd, Session, no_end}
use Rattle.app_rules.specs.Works.{Sofar, writes, connects, cuts, frames, becomes, sets, tells, tells_if, puts, puts_all, happens, frame_to, end_at, session_of, session_at, with_session, with_window, with_event, is_joined}
use Rattle.app_rules.specs.Welcoming.{sends_again}
use Rattle.app_rules.specs.Downs.{settled, joined, bares_joined, bares_if}
use Rattle.cluster_runs.specs.Connections.{ups_to}
use Rattle.cluster_steps.proofs.JobEnds.{up_frame, put_frames, up_here}

-- The end with a data server is this one, these frames were put on it, these connections cut and these acts written.
pub record Here (d : ℕ) (e : AppEnd) (us : List UpFrame) (cs : List ℕ) (ws : List Act) (b c : Sofar) : Type 0 where
  pub app : c.state.app ≡ b.state.app
  pub times : c.state.times ≡ b.state.times
  pub there : d < length c.state.ends
  pub end : end_at c.state d ≡ e
  pub frames : ups_to d c.outs.frames ≡ ups_to d b.outs.frames ++ us
  pub cuts : c.outs.cuts ≡ b.outs.cuts ++ cs
  pub acts : c.outs.acts ≡ b.outs.acts ++ ws

pub here_same : (d : ℕ) (b : Sofar) → d < length b.state.ends → Here d (end_at b.state d) [] [] [] b b
here_same d b there = record {
  app = refl;
  times = refl;
  there = there;
  end = refl;
  frames = sym (append-nil (ups_to d b.outs.frames));
  cuts = sym (append-nil b.outs.cuts);
  acts = sym (append-nil b.outs.acts);
}

-- the end is changed
pub then_becomes : (d : ℕ) (f : AppEnd → AppEnd) (e : AppEnd) (us : List UpFrame) (cs : List ℕ) (ws : List Act) (b c : Sofar) → Here d e us cs ws b c → Here d (f e) us cs ws b (becomes d f c)
then_becomes d f e us cs ws b c h = record {
  app = h.app;
  times = h.times;
  there = subst (λ n. d < n) (sym (length-set c.state.ends d (f (end_at c.state d)))) h.there;
  end = get_or-set_same c.state.ends d (f (end_at c.state d)) no_end h.there ∙ ap f h.end;
  frames = h.frames;
  cuts = h.cuts;
  acts = h.acts;
}

-- an act is written
pub then_writes : (d : ℕ) (a : Act) (e : AppEnd) (us : List UpFrame) (cs : List ℕ) (ws : List Act) (b c : Sofar) → Here d e us cs ws b c → Here d e us cs (ws ++ a ∷ []) b (writes a c)
then_writes d a e us cs ws b c h = record {
  app = h.app;
  times = h.times;
  there = h.there;
  end = h.end;
  frames = h.frames;
  cuts = h.cuts;
  acts = ap (λ (xs : List Act). xs ++ a ∷ []) h.acts ∙ append_assoc b.outs.acts ws (a ∷ []);
}

-- the connection is cut
pub then_cuts : (d : ℕ) (e : AppEnd) (us : List UpFrame) (cs : List ℕ) (ws : List Act) (b c : Sofar) → Here d e us cs ws b c → Here d e us (cs ++ d ∷ []) ws b (cuts d c)
then_cuts d e us cs ws b c h = record {
  app = h.app;
  times = h.times;
  there = h.there;
  end = h.end;
  frames = h.frames;
  cuts = ap (λ (xs : List ℕ). xs ++ d ∷ []) h.cuts ∙ append_assoc b.outs.cuts cs (d ∷ []);
  acts = h.acts;
}

-- one is tried
pub then_connects : (d : ℕ) (e : AppEnd) (us : List UpFrame) (cs : List ℕ) (ws : List Act) (b c : Sofar) → Here d e us cs ws b c → Here d e us cs ws b (connects d c)
then_connects d e us cs ws b c h = record { app = h.app; times = h.times; there = h.there; end = h.end; frames = h.frames; cuts = h.cuts; acts = h.acts }

-- a frame is put
pub then_frames : (d : ℕ) (f : UpOut) (e : AppEnd) (us : List UpFrame) (cs : List ℕ) (ws : List Act) (b c : Sofar) → f.server ≡ d → Here d e us cs ws b c → Here d e (us ++ f.up ∷ []) cs ws b (frames f c)
then_frames d f e us cs ws b c same h = record {
  app = h.app;
  times = h.times;
  there = h.there;
  end = h.end;
  frames = up_here d c.outs.frames f same ∙ ap (λ (xs : List UpFrame). xs ++ f.up ∷ []) h.frames ∙ append_assoc (ups_to d b.outs.frames) us (f.up ∷ []);
  cuts = h.cuts;
  acts = h.acts;
}

-- a frame is put with the count of what was taken
abbrev pub told_frame : ℕ → Up → AppEnd → UpFrame
told_frame seq m e = record { seq = seq; ack = (session_of e).window.taken; message = m }

pub then_tells : (d seq : ℕ) (m : Up) (e : AppEnd) (us : List UpFrame) (cs : List ℕ) (ws : List Act) (b c : Sofar) → Here d e us cs ws b c
    → Here d (with_session (with_window with_ack_put) e) (us ++ told_frame seq m e ∷ []) cs ws b (tells d seq m c)
then_tells d seq m e us cs ws b c h =
    subst (λ n. Here d (with_session (with_window with_ack_put) e) (us ++ record { seq = seq; ack = n; message = m } ∷ []) cs ws b (tells d seq m c)) (ap (λ (x : AppEnd). (session_of x).window.taken) h.end)
    (then_frames d (frame_to d seq (session_at c.state d).window.taken m) (with_session (with_window with_ack_put) e) us cs ws b (sets d (with_window with_ack_put) c) refl
    (then_becomes d (with_session (with_window with_ack_put)) e us cs ws b c h))

-- an event at the link
pub then_happens : (d now : ℕ) (event : LinkEvent) (e : AppEnd) (us : List UpFrame) (cs : List ℕ) (ws : List Act) (b c : Sofar) → Here d e us cs ws b c
    → Here d (record e { link = app_next b.state.times now e.link event }) us cs ws b (happens d now event c)
then_happens d now event e us cs ws b c h =
    subst (λ (t : Times). Here d (record e { link = app_next t now e.link event }) us cs ws b (happens d now event c)) h.times
    (then_becomes d (with_event c.state now event) e us cs ws b c h)

-- the session of an end, with messages put and so many taken since a frame was
abbrev pub session_put : ℕ → List Up → Session → Session
session_put since ms s = record s { window = record s.window { waiting = s.window.waiting ++ ms; since = since } }

abbrev pub end_put : ℕ → List Up → Session → AppEnd → AppEnd
end_put since ms s e = record e { session = Some (session_put since ms s) }

-- Messages were put on a session whose connection's Welcome was taken.
pub record PutHere (d : ℕ) (ms : List Up) (s : Session) (e : AppEnd) (us vs : List UpFrame) (cs : List ℕ) (ws : List Act) (b c : Sofar) : Type 0 where
  pub since : ℕ
  pub low : since ≤ s.window.since
  pub here : Here d (end_put since ms s e) (us ++ vs) cs ws b c

put_nothing : (s : Session) → session_put s.window.since [] s ≡ s
put_nothing s = ap (λ (ms : List Up). record s { window = record s.window { waiting = ms } }) (append-nil s.window.waiting)

put_more : (since : ℕ) (m : Up) (ms : List Up) (s : Session) → session_put since ms (session_put 0 (m ∷ []) s) ≡ session_put since (m ∷ ms) s
put_more since m ms s = ap (λ (xs : List Up). record s { window = record s.window { waiting = xs; since = since } }) (append_assoc s.window.waiting (m ∷ []) ms)

-- nothing is put
pub then_nothing : (d : ℕ) (s : Session) (e : AppEnd) (us : List UpFrame) (cs : List ℕ) (ws : List Act) (b c : Sofar) → e.session ≡ Some s → Here d e us cs ws b c → PutHere d [] s e us [] cs ws b c
then_nothing d s e us cs ws b c there h = record {
  since = s.window.since;
  low = omega arith;
  here =
      subst (λ (x : List UpFrame). Here d (end_put s.window.since [] s e) x cs ws b c) (sym (append-nil us))
      (subst (λ (x : Session). Here d (record e { session = Some x }) us cs ws b c) (sym (put_nothing s))
      (subst (λ (o : Option Session). Here d (record e { session = o }) us cs ws b c) there h));
}

-- one message is put
then_put : (d : ℕ) (m : Up) (s : Session) (e : AppEnd) (us : List UpFrame) (cs : List ℕ) (ws : List Act) (b c : Sofar) → is_joined e.line ≡ true → e.session ≡ Some s → Here d e us cs ws b c
    → Here d (end_put 0 (m ∷ []) s e) (us ++ up_frame s.window.taken (sent s.window + 1, m) ∷ []) cs ws b (puts d m c)
then_put d m s e us cs ws b c join there h = go (is_joined (end_at c.state d).line) (ap (λ (x : AppEnd). is_joined x.line) h.end ∙ join)
  where
    sending : Here d (with_session (with_window (λ w. with_sent w m)) e) us cs ws b (sets d (with_window (λ w. with_sent w m)) c)
    sending = then_becomes d (with_session (with_window (λ w. with_sent w m))) e us cs ws b c h

    told : (n : ℕ) → n ≡ sent s.window + 1 → Here d (end_put 0 (m ∷ []) s e) (us ++ up_frame s.window.taken (sent s.window + 1, m) ∷ []) cs ws b (tells d n m (sets d (with_window (λ w. with_sent w m)) c))
    told n same =
        subst (λ k. Here d (end_put 0 (m ∷ []) s e) (us ++ up_frame s.window.taken (k, m) ∷ []) cs ws b (tells d n m (sets d (with_window (λ w. with_sent w m)) c))) same
        (subst (λ (o : Option Session). Here d (record e { session = option_map (with_window with_ack_put) (option_map (with_window (λ w. with_sent w m)) o) })
        (us ++ record { seq = n; ack = (session_of (with_session (with_window (λ w. with_sent w m)) (record e { session = o }))).window.taken; message = m } ∷ []) cs ws b (tells d n m (sets d (with_window (λ w. with_sent w m)) c))) there
        (then_tells d n m (with_session (with_window (λ w. with_sent w m)) e) us cs ws b (sets d (with_window (λ w. with_sent w m)) c) sending))

    go : (t : Bool) → t ≡ true → Here d (end_put 0 (m ∷ []) s e) (us ++ up_frame s.window.taken (sent s.window + 1, m) ∷ []) cs ws b (tells_if t d (sent (session_at c.state d).window + 1) m (sets d (with_window (λ w. with_sent w m)) c))
    go true is_true =
        told (sent (session_at c.state d).window + 1)
        (ap (λ (x : AppEnd). sent (session_of x).window + 1) h.end ∙ ap (λ (o : Option Session). sent (session_of (record e { session = o })).window + 1) there)
    go false is_true = absurd (cc (is_true))

-- several are put
pub then_put_all : (d : ℕ) (ms : List Up) (s : Session) (e : AppEnd) (us : List UpFrame) (cs : List ℕ) (ws : List Act) (b c : Sofar) → is_joined e.line ≡ true → e.session ≡ Some s → Here d e us cs ws b c
    → PutHere d ms s e us (put_frames true s.window ms) cs ws b (puts_all d ms c)
then_put_all d [] s e us cs ws b c join there h = then_nothing d s e us cs ws b c there h
then_put_all d (m ∷ ms) s e us cs ws b c join there h =
    go (then_put_all d ms (session_put 0 (m ∷ []) s) (end_put 0 (m ∷ []) s e) (us ++ up_frame s.window.taken (sent s.window + 1, m) ∷ []) cs ws b (puts d m c) join refl (then_put d m s e us cs ws b c join there h))
  where
    counts : sent (session_put 0 (m ∷ []) s).window ≡ sent s.window + 1
    counts = omega (arith, length-append s.window.waiting (m ∷ []))

    go : PutHere d ms (session_put 0 (m ∷ []) s) (end_put 0 (m ∷ []) s e) (us ++ up_frame s.window.taken (sent s.window + 1, m) ∷ []) (put_frames true (session_put 0 (m ∷ []) s).window ms) cs ws b (puts_all d ms (puts d m c))
        → PutHere d (m ∷ ms) s e us (put_frames true s.window (m ∷ ms)) cs ws b (puts_all d (m ∷ ms) c)
    go p = record {
      since = p.since;
      low = omega (arith, p.low);
      here =
          subst (λ (x : Session). Here d (record e { session = Some x }) (us ++ put_frames true s.window (m ∷ ms)) cs ws b (puts_all d (m ∷ ms) c)) (put_more p.since m ms s)
          (subst (λ (x : List UpFrame). Here d (end_put p.since ms (session_put 0 (m ∷ []) s) e) x cs ws b (puts_all d (m ∷ ms) c))
          (ap (λ k. (us ++ up_frame s.window.taken (sent s.window + 1, m) ∷ []) ++ map (up_frame s.window.taken) (numbered_from k ms)) counts ∙ append_assoc us (up_frame s.window.taken (sent s.window + 1, m) ∷ []) _)
          p.here);
    }

-- messages that were put before go out again
pub then_again : (d : ℕ) (ms : List (ℕ × Up)) (s : Session) (e : AppEnd) (us : List UpFrame) (cs : List ℕ) (ws : List Act) (b c : Sofar) → e.session ≡ Some s → Here d e us cs ws b c
    → PutHere d [] s e us (map (up_frame s.window.taken) ms) cs ws b (sends_again d ms c)
then_again d [] s e us cs ws b c there h = then_nothing d s e us cs ws b c there h
then_again d (m ∷ ms) s e us cs ws b c there h =
    go (then_again d ms (with_window with_ack_put s) (record e { session = Some (with_window with_ack_put s) }) (us ++ up_frame s.window.taken m ∷ []) cs ws b (tells d m.0 m.1 c) refl telling)
  where
    telling : Here d (record e { session = Some (with_window with_ack_put s) }) (us ++ up_frame s.window.taken m ∷ []) cs ws b (tells d m.0 m.1 c)
    telling =
        subst (λ (o : Option Session). Here d (record e { session = option_map (with_window with_ack_put) o }) (us ++ record { seq = m.0; ack = (session_of (record e { session = o })).window.taken; message = m.1 } ∷ []) cs ws b (tells d m.0 m.1 c)) there
        (then_tells d m.0 m.1 e us cs ws b c h)

    go : PutHere d [] (with_window with_ack_put s) (record e { session = Some (with_window with_ack_put s) }) (us ++ up_frame s.window.taken m ∷ []) (map (up_frame s.window.taken) ms) cs ws b (sends_again d ms (tells d m.0 m.1 c))
        → PutHere d [] s e us (map (up_frame s.window.taken) (m ∷ ms)) cs ws b (sends_again d (m ∷ ms) c)
    go p = record {
      since = p.since;
      low = omega (arith, p.low);
      here =
          subst (λ (x : List UpFrame). Here d (end_put p.since [] s e) x cs ws b (sends_again d (m ∷ ms) c)) (append_assoc us (up_frame s.window.taken m ∷ []) (map (up_frame s.window.taken) ms))
          p.here;
    }

-- an acknowledgement by itself, where one goes out
abbrev pub bare_frames : Bool → ℕ → List UpFrame
bare_frames true taken = record { seq = 0; ack = taken; message = BareUp } ∷ []
bare_frames false taken = []

-- What follows each frame, where the connection's Welcome was taken.
pub record Settles (d : ℕ) (s : Session) (e : AppEnd) (us : List UpFrame) (cs : List ℕ) (ws : List Act) (b c : Sofar) : Type 0 where
  pub since : ℕ
  pub low : since ≤ s.window.since
  pub bare : Bool
  -- one goes out where it is owed
  pub owed : bare ≡ owes_bare s.window
  pub here : Here d (end_put since [] s e) (us ++ bare_frames bare s.window.taken) cs ws b c

pub then_settled : (d : ℕ) (s : Session) (e : AppEnd) (us : List UpFrame) (cs : List ℕ) (ws : List Act) (b c : Sofar) → is_joined e.line ≡ true → e.session ≡ Some s → Here d e us cs ws b c → Settles d s e us cs ws b (settled d c)
then_settled d s e us cs ws b c join there h = go (joined c d) (ap (λ (x : AppEnd). is_joined x.line) h.end ∙ join)
  where
    telling : Here d (end_put 0 [] s e) (us ++ bare_frames true s.window.taken) cs ws b (tells d 0 BareUp c)
    telling =
        subst (λ (ms : List Up). Here d (record e { session = Some (record s { window = record s.window { waiting = ms; since = 0 } }) }) (us ++ bare_frames true s.window.taken) cs ws b (tells d 0 BareUp c)) (sym (append-nil s.window.waiting))
        (subst (λ (o : Option Session). Here d (record e { session = option_map (with_window with_ack_put) o }) (us ++ record { seq = 0; ack = (session_of (record e { session = o })).window.taken; message = BareUp } ∷ []) cs ws b (tells d 0 BareUp c)) there
        (then_tells d 0 BareUp e us cs ws b c h))

    quiet : PutHere d [] s e us [] cs ws b c
    quiet = then_nothing d s e us cs ws b c there h

    same : owes_bare (session_at c.state d).window ≡ owes_bare s.window
    same = ap (λ (x : AppEnd). owes_bare (session_of x).window) h.end ∙ ap (λ (o : Option Session). owes_bare (session_of (record e { session = o })).window) there

    by : (o : Bool) → o ≡ owes_bare s.window → Settles d s e us cs ws b (bares_if o d c)
    by true owed = record { since = 0; low = omega arith; bare = true; owed = owed; here = telling }
    by false owed = record { since = quiet.since; low = quiet.low; bare = false; owed = owed; here = quiet.here }

    go : (t : Bool) → t ≡ true → Settles d s e us cs ws b (bares_joined t d c)
    go true is_true = by (owes_bare (session_at c.state d).window) same
    go false is_true = absurd (cc (is_true))

-- and where it wasn't
pub then_unsettled : (d : ℕ) (e : AppEnd) (us : List UpFrame) (cs : List ℕ) (ws : List Act) (b c : Sofar) → is_joined e.line ≡ false → Here d e us cs ws b c → Here d e us cs ws b (settled d c)
then_unsettled d e us cs ws b c join h = go (joined c d) (ap (λ (x : AppEnd). is_joined x.line) h.end ∙ join)
  where
    go : (t : Bool) → t ≡ false → Here d e us cs ws b (bares_joined t d c)
    go true is_false = absurd (cc (is_false))
    go false is_false = h
