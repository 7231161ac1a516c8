-- Each frame comes to one of its cases.
use Rattle.std.proofs.Common.{◌≡◌, ◌⊎◌, ◌<◌, ℕ, Bool, true, false, List, [], ◌∷◌, ◌++◌, map, length, Option, Some, None, refl, sym, ◌∙◌, ap, subst, inl, inr, arith}
use Rattle.std.specs.Prelude.{Result, Ok, Err, is_some, nat_le}
use Rattle.std.proofs.lemmas.Bool.{false≢true}
use Rattle.std.proofs.lemmas.List.{append-nil}
use Rattle.plain_orders.specs.declared.act.Act.{Act}
use Rattle.plain_orders.specs.declared.act.Act.TheVariants as act
use Rattle.plain_orders.specs.declared.causes.Loss.TheVariants as losses
use Rattle.plain_orders.specs.declared.layout.Times.{Times}
use Rattle.plain_orders.specs.declared.refused.LinkName.TheVariants as names
use Rattle.link_states.specs.declared.app_link.AppLink.{AppLink}
use Rattle.link_states.specs.declared.app_link.AppLink.TheVariants.{Recovery}
use Rattle.link_states.specs.declared.link_event.LinkEvent.TheVariants.{Welcomed as WelcomedEvent, Settled as SettledEvent}
use Rattle.link_states.specs.Tables.{app_next}
use Rattle.link_window.specs.declared.window.Taken.{Taken}
use Rattle.link_window.specs.declared.window.Taken.TheVariants.{Fresh, Repeat}
use Rattle.link_window.specs.declared.window.WindowError.{WindowError}
use Rattle.ecp_messages.specs.declared.down.Down.{Down}
use Rattle.ecp_messages.specs.declared.down.Down.TheVariants.{Welcome, Reset, Block, Drop, Ack, Grant, Answer, Normal, Bare}
use Rattle.ecp_messages.specs.declared.down.DownFrame.{DownFrame}
use Rattle.ecp_messages.specs.declared.front.Front.{Front}
use Rattle.ecp_messages.specs.declared.up.Up.{Up}
use Rattle.ecp_messages.specs.declared.up.UpFrame.{UpFrame}
use Rattle.app_job.specs.declared.reason.Reason.TheVariants as reasons
use Rattle.end_words.specs.Windows.{answers, with_ack, fresh, resent, owes_bare}
use Rattle.app_rules.specs.declared.line.Line.{Line}
use Rattle.app_rules.specs.declared.line.Line.TheVariants.{Apart, Trying, Greeting, Asking, Joined}
use Rattle.app_rules.specs.AppState.{AppEnd, Session}
use Rattle.app_rules.specs.Works.{Sofar, writes, cuts, sets, becomes, puts_all, happens, end_at, session_at, session_of, with_window, with_line, with_session, synced_up, is_joined, body_of}
use Rattle.app_rules.specs.Losing.{ends_it, loses, without_session, line_after_loss}
use Rattle.app_rules.specs.Welcoming.{TakesWelcome, IsAsked, greatest, met, new_session, told_puts, in_epoch, sends_again, settles_unless}
use Rattle.app_rules.specs.Delivering.{with_run, with_drop, with_grant, with_answer, with_all_put, to_put_again, goes_normal}
use Rattle.app_rules.specs.Downs.{Delivers, took, falls, acknowledged, TakesNumbered, TakesHeaded, TakesAck, TakesBare, TakesFrame, settled, joined}
use Rattle.app_rules.specs.AppStep.{FrameStep}
use Rattle.cluster_steps.proofs.JobEnds.{up_frame, put_frames}
use Rattle.cluster_steps.proofs.EndSteps.{Here, PutHere, Settles, session_put, end_put, bare_frames, here_same, then_becomes, then_writes, then_cuts, then_happens, then_put_all, then_again, then_settled, then_unsettled}
use Rattle.cluster_steps.proofs.FrameEnds.{ended_from, ended_acts, EndsIt, ended_here, Acked, Delivered, TookFresh, NumberedCame, MetNew, settled_link, WentOn, Learnt, ResetCame, FrameCame}

-- An end that asked or joined has a session.
abbrev pub LineHas : Line → Option Session → Type 0
LineHas Apart o = Unit {0}
LineHas Trying o = Unit {0}
LineHas Greeting o = Unit {0}
LineHas Asking o = is_some o ≡ true
LineHas Joined o = is_some o ≡ true

joined_line : (l : Line) → is_joined l ≡ true → l ≡ Joined
joined_line Apart h = absurd (false≢true h)
joined_line Trying h = absurd (false≢true h)
joined_line Greeting h = absurd (false≢true h)
joined_line Asking h = absurd (false≢true h)
joined_line Joined h = refl

-- the session of one that has it
the_session : (o : Option Session) → is_some o ≡ true → (s : Session) × (o ≡ Some s)
the_session None there = absurd (false≢true there)
the_session (Some s) there = (s, refl)

joined_session : (e : AppEnd) → LineHas e.line e.session → e.line ≡ Joined → (s : Session) × (e.session ≡ Some s)
joined_session e has line = the_session e.session (subst (λ (l : Line). LineHas l e.session) line has)

asking_session : (e : AppEnd) → LineHas e.line e.session → e.line ≡ Asking → (s : Session) × (e.session ≡ Some s)
asking_session e has line = the_session e.session (subst (λ (l : Line). LineHas l e.session) line has)

-- what is known of a session by way of the end
of_session : (e : AppEnd) (s : Session) → e.session ≡ Some s → session_of e ≡ s
of_session e s there = ap (λ (o : Option Session). session_of (record e { session = o })) there

-- an end whose connection was ended isn't joined
ended_line : (l : Line) (times : Times) (now : ℕ) (e : AppEnd) → e.line ≡ l → is_joined (ended_from l times now e).line ≡ false
ended_line Apart times now e line = ap is_joined line
ended_line Trying times now e line = ap is_joined line
ended_line Greeting times now e line = refl
ended_line Asking times now e line = refl
ended_line Joined times now e line = refl

ends_settled : (d now : ℕ) (e : AppEnd) (b t : Sofar) → EndsIt d now e b t → EndsIt d now e b (settled d t)
ends_settled d now e b t h = then_unsettled d (ended_from e.line b.state.times now e) [] (d ∷ []) (ended_acts e.line b.state.app d now) b t (ended_line e.line b.state.times now e refl) h

ends_by : (d now : ℕ) (b t : Sofar) → d < length b.state.ends → t ≡ ends_it d now b → EndsIt d now (end_at b.state d) b (settled d t)
ends_by d now b t there after = ends_settled d now (end_at b.state d) b t (subst (λ (x : Sofar). EndsIt d now (end_at b.state d) b x) (sym after) (ended_here d now b there))

-- messages put, and then what was taken since the last frame
put_twice : (j k : ℕ) (ms : List Up) (s : Session) → session_put k [] (session_put j ms s) ≡ session_put k ms s
put_twice j k ms s = ap (λ (xs : List Up). record s { window = record s.window { waiting = xs; since = k } }) (append-nil (s.window.waiting ++ ms))

-- the session of an end is changed
session_changed : (f : Session → Session) (e : AppEnd) (s : Session) → e.session ≡ Some s → with_session f e ≡ record e { session = Some (f s) }
session_changed f e s there = ap (λ (o : Option Session). with_session f (record e { session = o })) there

then_sets : (d : ℕ) (f : Session → Session) (s : Session) (e : AppEnd) (us : List UpFrame) (cs : List ℕ) (ws : List Act) (b c : Sofar) → e.session ≡ Some s → Here d e us cs ws b c
    → Here d (record e { session = Some (f s) }) us cs ws b (sets d f c)
then_sets d f s e us cs ws b c there h =
    subst (λ (x : AppEnd). Here d x us cs ws b (sets d f c)) (session_changed f e s there) (then_becomes d (with_session f) e us cs ws b c h)

-- acknowledgements

acked_by : (d seq ack : ℕ) (b t : Sofar) (s : Session) → d < length b.state.ends → (end_at b.state d).session ≡ Some s → (end_at b.state d).line ≡ Joined → (seq ≡ 0) ⊎ (answers body_of s.window seq ack ≡ Ok Repeat)
    → t ≡ acknowledged d ack b → Acked d seq ack (end_at b.state d) b (settled d t)
acked_by d seq ack b t s there its line repeats after = record {
  session = s;
  its = its;
  is_joined = line;
  answered = answers body_of s.window seq ack;
  known = refl;
  repeats = repeats;
  settles = go (then_settled d (with_window (λ w. with_ack w ack) s) (record (end_at b.state d) { session = Some (with_window (λ w. with_ack w ack) s) }) [] [] [] b t (ap is_joined line) refl
      (subst (λ (x : Sofar). Here d (record (end_at b.state d) { session = Some (with_window (λ w. with_ack w ack) s) }) [] [] [] b x) (sym after)
      (then_sets d (with_window (λ w. with_ack w ack)) s (end_at b.state d) [] [] [] b b its (here_same d b there))));
}
  where
    go : Settles d (with_window (λ w. with_ack w ack) s) (record (end_at b.state d) { session = Some (with_window (λ w. with_ack w ack) s) }) [] [] [] b (settled d t)
        → Settles d (with_window (λ w. with_ack w ack) s) (end_at b.state d) [] [] [] b (settled d t)
    go x = record { since = x.since; low = x.low; bare = x.bare; owed = x.owed; here = x.here }

-- fresh messages

-- what was delivered, before what follows each frame
record DeliveredHere (d now seq ack : ℕ) (m : Down) (f : Front) (s : Session) (e : AppEnd) (b c : Sofar) : Type 0 where
  after : Session
  link : AppLink
  put : List Up
  delivered : Delivered m (took seq ack f s) e.link b.state.times now after link put
  since : ℕ
  here : Here d (record e { link = link; session = Some (session_put since put after) }) (put_frames true after.window put) [] [] b c

-- nothing is put
quiet : (d now seq ack : ℕ) (m : Down) (f : Front) (s : Session) (e : AppEnd) (b c : Sofar) (after : Session) → Delivered m (took seq ack f s) e.link b.state.times now after e.link [] → Here d (record e { session = Some after }) [] [] [] b c
    → DeliveredHere d now seq ack m f s e b c
quiet d now seq ack m f s e b c after delivered h = record {
  after = after;
  link = e.link;
  put = [];
  delivered = delivered;
  since = after.window.since;
  here = subst (λ (xs : List Up). Here d (record e { session = Some (record after { window = record after.window { waiting = xs } }) }) [] [] [] b c) (sym (append-nil after.window.waiting)) h;
}

taken_here : (d seq ack : ℕ) (f : Front) (s : Session) (b : Sofar) → d < length b.state.ends → (end_at b.state d).session ≡ Some s
    → Here d (record (end_at b.state d) { session = Some (took seq ack f s) }) [] [] [] b (sets d (took seq ack f) b)
taken_here d seq ack f s b there its = then_sets d (took seq ack f) s (end_at b.state d) [] [] [] b b its (here_same d b there)

set_here : (d seq ack : ℕ) (f : Front) (s : Session) (b : Sofar) (g : Session → Session) (t : Sofar) → d < length b.state.ends → (end_at b.state d).session ≡ Some s → t ≡ sets d g (sets d (took seq ack f) b)
    → Here d (record (end_at b.state d) { session = Some (g (took seq ack f s)) }) [] [] [] b t
set_here d seq ack f s b g t there its after =
    subst (λ (x : Sofar). Here d (record (end_at b.state d) { session = Some (g (took seq ack f s)) }) [] [] [] b x) (sym after)
    (then_sets d g (took seq ack f s) (record (end_at b.state d) { session = Some (took seq ack f s) }) [] [] [] b (sets d (took seq ack f) b) refl (taken_here d seq ack f s b there its))

normal_here : (d now seq ack : ℕ) (front f : Front) (s : Session) (b t : Sofar) → d < length b.state.ends → (end_at b.state d).session ≡ Some s → (end_at b.state d).line ≡ Joined → t ≡ goes_normal d now (sets d (took seq ack f) b)
    → DeliveredHere d now seq ack (Normal front) f s (end_at b.state d) b t
normal_here d now seq ack front f s b t there its line after = go (then_put_all d (to_put_again (took seq ack f s)) (with_all_put (took seq ack f s)) settled_end [] [] [] b (happens d now SettledEvent (sets d with_all_put taken)) (ap is_joined line) refl
    (then_happens d now SettledEvent (record (end_at b.state d) { session = Some (with_all_put (took seq ack f s)) }) [] [] [] b (sets d with_all_put taken)
    (then_sets d with_all_put (took seq ack f s) (record (end_at b.state d) { session = Some (took seq ack f s) }) [] [] [] b taken refl (taken_here d seq ack f s b there its))))
  where
    taken : Sofar
    taken = sets d (took seq ack f) b

    settled_end : AppEnd
    settled_end = record (end_at b.state d) { link = app_next b.state.times now (end_at b.state d).link SettledEvent; session = Some (with_all_put (took seq ack f s)) }

    same_session : session_at taken.state d ≡ took seq ack f s
    same_session = ap (λ (x : AppEnd). session_of x) (taken_here d seq ack f s b there its).end

    go : PutHere d (to_put_again (took seq ack f s)) (with_all_put (took seq ack f s)) settled_end [] (put_frames true (with_all_put (took seq ack f s)).window (to_put_again (took seq ack f s))) [] [] b
        (puts_all d (to_put_again (took seq ack f s)) (happens d now SettledEvent (sets d with_all_put taken))) → DeliveredHere d now seq ack (Normal front) f s (end_at b.state d) b t
    go p = record {
      after = with_all_put (took seq ack f s);
      link = app_next b.state.times now (end_at b.state d).link SettledEvent;
      put = to_put_again (took seq ack f s);
      delivered = (refl, refl, refl);
      since = p.since;
      here =
          subst (λ (x : Sofar). Here d (end_put p.since (to_put_again (took seq ack f s)) (with_all_put (took seq ack f s)) settled_end) (put_frames true (with_all_put (took seq ack f s)).window (to_put_again (took seq ack f s))) [] [] b x)
          (ap (λ (x : Session). puts_all d (to_put_again x) (happens d now SettledEvent (sets d with_all_put taken))) (sym same_session) ∙ sym after) p.here;
    }

delivers_here : (m : Down) (d now seq ack : ℕ) (f : Front) (s : Session) (b t : Sofar) → d < length b.state.ends → (end_at b.state d).session ≡ Some s → (end_at b.state d).line ≡ Joined
    → Delivers m d now (sets d (took seq ack f) b) t → DeliveredHere d now seq ack m f s (end_at b.state d) b t
delivers_here (Welcome session epoch kept front taken) d now seq ack f s b t there its line h = absurd h
delivers_here (Reset session at) d now seq ack f s b t there its line h = absurd h
delivers_here (Block front block) d now seq ack f s b t there its line h =
    quiet d now seq ack (Block front block) f s (end_at b.state d) b t (with_run h.run (took seq ack f s)) (h.run, h.its, refl, refl, refl) (set_here d seq ack f s b (with_run h.run) t there its h.after)
delivers_here (Drop front lo hi) d now seq ack f s b t there its line h =
    quiet d now seq ack (Drop front lo hi) f s (end_at b.state d) b t (with_drop (record { lo = lo; hi = hi }) (took seq ack f s)) (refl, refl, refl) (set_here d seq ack f s b (with_drop (record { lo = lo; hi = hi })) t there its h)
delivers_here (Ack front) d now seq ack f s b t there its line h =
    quiet d now seq ack (Ack front) f s (end_at b.state d) b t (took seq ack f s) (refl, refl, refl)
    (subst (λ (x : Sofar). Here d (record (end_at b.state d) { session = Some (took seq ack f s) }) [] [] [] b x) (sym h) (taken_here d seq ack f s b there its))
delivers_here (Grant front ticket at) d now seq ack f s b t there its line h =
    quiet d now seq ack (Grant front ticket at) f s (end_at b.state d) b t (with_grant ticket at (took seq ack f s)) (refl, refl, refl) (set_here d seq ack f s b (with_grant ticket at) t there its h)
delivers_here (Answer front about job number at sum) d now seq ack f s b t there its line h =
    quiet d now seq ack (Answer front about job number at sum) f s (end_at b.state d) b t (with_answer about number at sum (took seq ack f s)) (refl, refl, refl)
    (set_here d seq ack f s b (with_answer about number at sum) t there its h)
delivers_here (Normal front) d now seq ack f s b t there its line h = normal_here d now seq ack front f s b t there its line h
delivers_here Bare d now seq ack f s b t there its line h = absurd h

fresh_here : (d now seq ack : ℕ) (m : Down) (f : Front) (s : Session) (b t : Sofar) → d < length b.state.ends → (end_at b.state d).session ≡ Some s → (end_at b.state d).line ≡ Joined
    → answers body_of s.window seq ack ≡ Ok Fresh → falls s f ≡ false → Delivers m d now (sets d (took seq ack f) b) t → TookFresh d now seq ack m f (end_at b.state d) b (settled d t)
fresh_here d now seq ack m f s b t there its line answered ahead h = go (delivers_here m d now seq ack f s b t there its line h)
  where
    go : DeliveredHere d now seq ack m f s (end_at b.state d) b t → TookFresh d now seq ack m f (end_at b.state d) b (settled d t)
    go x = by (then_settled d (session_put x.since x.put x.after) (record (end_at b.state d) { link = x.link; session = Some (session_put x.since x.put x.after) }) (put_frames true x.after.window x.put) [] [] b t (ap is_joined line) refl x.here)
      where
        by : Settles d (session_put x.since x.put x.after) (record (end_at b.state d) { link = x.link; session = Some (session_put x.since x.put x.after) }) (put_frames true x.after.window x.put) [] [] b (settled d t)
            → TookFresh d now seq ack m f (end_at b.state d) b (settled d t)
        by y = record {
          session = s;
          its = its;
          is_joined = line;
          fresh = answered;
          ahead = ahead;
          after = x.after;
          link = x.link;
          put = x.put;
          delivered = x.delivered;
          since = y.since;
          bare = y.bare;
          here =
              subst (λ (z : Session). Here d (record (end_at b.state d) { link = x.link; session = Some z }) (put_frames true x.after.window x.put ++ bare_frames y.bare x.after.window.taken) [] [] b (settled d t))
              (put_twice x.since y.since x.put x.after) y.here;
        }

numbered_came : (r : Result Taken WindowError) (d now : ℕ) (frame : DownFrame) (f : Front) (s : Session) (b t : Sofar) → d < length b.state.ends → (end_at b.state d).session ≡ Some s → (end_at b.state d).line ≡ Joined
    → answers body_of (session_at b.state d).window frame.seq frame.ack ≡ r → TakesNumbered r b d now frame f t → NumberedCame d now frame.seq frame.ack frame.message f (end_at b.state d) b (settled d t)
numbered_came (Ok Fresh) d now frame f s b t there its line answered (inl x) =
    inl (fresh_here d now frame.seq frame.ack frame.message f s b t there its line
    (ap (λ (y : Session). answers body_of y.window frame.seq frame.ack) (sym (of_session (end_at b.state d) s its)) ∙ answered)
    (ap (λ (y : Session). falls y f) (sym (of_session (end_at b.state d) s its)) ∙ x.ahead) x.made)
numbered_came (Ok Fresh) d now frame f s b t there its line answered (inr x) = inr (inr (ends_by d now b t there x.after))
numbered_came (Ok Repeat) d now frame f s b t there its line answered x =
    inr (inl (acked_by d frame.seq frame.ack b t s there its line
    (inr (ap (λ (y : Session). answers body_of y.window frame.seq frame.ack) (sym (of_session (end_at b.state d) s its)) ∙ answered)) x))
numbered_came (Err why) d now frame f s b t there its line answered x = inr (inr (ends_by d now b t there x))

headed_came : (is_there : Bool) (d now : ℕ) (frame : DownFrame) (f : Front) (b t : Sofar) → d < length b.state.ends → LineHas (end_at b.state d).line (end_at b.state d).session → joined b d ≡ is_there
    → TakesHeaded is_there b d now frame f t → NumberedCame d now frame.seq frame.ack frame.message f (end_at b.state d) b (settled d t)
headed_came true d now frame f b t there has join h = go (joined_session (end_at b.state d) has line)
  where
    line : (end_at b.state d).line ≡ Joined
    line = joined_line (end_at b.state d).line join

    go : (s : Session) × ((end_at b.state d).session ≡ Some s) → NumberedCame d now frame.seq frame.ack frame.message f (end_at b.state d) b (settled d t)
    go s = numbered_came (answers body_of (session_at b.state d).window frame.seq frame.ack) d now frame f s.0 b t there s.1 line refl h
headed_came false d now frame f b t there has join h = inr (inr (ends_by d now b t there h))

-- an acknowledgement by itself comes to an end that joined, or changes nothing
abbrev pub BareCame : ℕ → ℕ → ℕ → AppEnd → Sofar → Sofar → Type 0
BareCame d now ack e b c = Acked d 0 ack e b c ⊎ ((is_joined e.line ≡ false) × Here d e [] [] [] b c) ⊎ EndsIt d now e b c

ack_came : (r : Result Taken WindowError) (d now ack : ℕ) (s : Session) (b t : Sofar) → d < length b.state.ends → (end_at b.state d).session ≡ Some s → (end_at b.state d).line ≡ Joined → TakesAck r b d now ack t
    → BareCame d now ack (end_at b.state d) b (settled d t)
ack_came (Ok answer) d now ack s b t there its line h = inl (acked_by d 0 ack b t s there its line (inl refl) h)
ack_came (Err why) d now ack s b t there its line h = inr (inr (ends_by d now b t there h))

bare_came : (is_there : Bool) (d now ack : ℕ) (b t : Sofar) → d < length b.state.ends → LineHas (end_at b.state d).line (end_at b.state d).session → joined b d ≡ is_there → TakesBare is_there b d now ack t
    → BareCame d now ack (end_at b.state d) b (settled d t)
bare_came true d now ack b t there has join h = go (joined_session (end_at b.state d) has line)
  where
    line : (end_at b.state d).line ≡ Joined
    line = joined_line (end_at b.state d).line join

    go : (s : Session) × ((end_at b.state d).session ≡ Some s) → BareCame d now ack (end_at b.state d) b (settled d t)
    go s = ack_came (answers body_of (session_at b.state d).window 0 ack) d now ack s.0 b t there s.1 line h
bare_came false d now ack b t there has join h =
    inr (inl (join, then_unsettled d (end_at b.state d) [] [] [] b t join (subst (λ (x : Sofar). Here d (end_at b.state d) [] [] [] b x) (sym h) (here_same d b there))))

-- Welcomes

met_came : (d now session epoch : ℕ) (front : Front) (b t : Sofar) → d < length b.state.ends → (end_at b.state d).line ≡ Greeting → (end_at b.state d).told < session → front.n < greatest
    → t ≡ happens d now WelcomedEvent (becomes d (met session epoch front) (writes (act.Met b.state.app d session) b)) → MetNew d now session epoch front (end_at b.state d) b (settled d t)
met_came d now session epoch front b t there greeting above below after = record { greeting = greeting; above = above; below = below; since = settling.since; here = go settling.bare settling.owed settling.here }
  where
    meeting : AppEnd
    meeting = record (end_at b.state d) { link = app_next b.state.times now (end_at b.state d).link WelcomedEvent; line = Joined; told = session; session = Some (new_session session epoch front) }

    settling : Settles d (new_session session epoch front) meeting [] [] (act.Met b.state.app d session ∷ []) b (settled d t)
    settling =
        then_settled d (new_session session epoch front) meeting [] [] (act.Met b.state.app d session ∷ []) b t refl refl
        (subst (λ (x : Sofar). Here d meeting [] [] (act.Met b.state.app d session ∷ []) b x) (sym after)
        (then_happens d now WelcomedEvent (met session epoch front (end_at b.state d)) [] [] (act.Met b.state.app d session ∷ []) b _
        (then_becomes d (met session epoch front) (end_at b.state d) [] [] (act.Met b.state.app d session ∷ []) b _
        (then_writes d (act.Met b.state.app d session) (end_at b.state d) [] [] [] b b (here_same d b there)))))

    go : (bare : Bool) → bare ≡ owes_bare (new_session session epoch front).window → Here d (end_put settling.since [] (new_session session epoch front) meeting) (bare_frames bare 0) [] (act.Met b.state.app d session ∷ []) b (settled d t)
        → Here d (end_put settling.since [] (new_session session epoch front) meeting) [] [] (act.Met b.state.app d session ∷ []) b (settled d t)
    go true owed h = absurd (cc (owed))
    go false owed h = h

went_on : (d now number epoch : ℕ) (front : Front) (taken : ℕ) (s : Session) (b t : Sofar) → d < length b.state.ends → (end_at b.state d).session ≡ Some s → IsAsked b d number front → (session_at b.state d).epoch ≡ epoch
    → t ≡ settles_unless (session_at b.state d).normal_due d now (sends_again d (resent (session_at b.state d).window taken) (sets d (synced_up front.s) (becomes d (with_line Joined) b)))
    → WentOn d now number epoch front taken (end_at b.state d) b (settled d t)
went_on d now number epoch front taken s b t there its asked same after = go (then_again d (resent s.window taken) (synced_up front.s s) joining [] [] [] b joined_b refl
    (then_sets d (synced_up front.s) s (with_line Joined (end_at b.state d)) [] [] [] b (becomes d (with_line Joined) b) its (then_becomes d (with_line Joined) (end_at b.state d) [] [] [] b b (here_same d b there))))
  where
    joined_b : Sofar
    joined_b = sets d (synced_up front.s) (becomes d (with_line Joined) b)

    joining : AppEnd
    joining = record (end_at b.state d) { line = Joined; session = Some (synced_up front.s s) }

    same_session : session_at b.state d ≡ s
    same_session = of_session (end_at b.state d) s its

    going : Sofar
    going = sends_again d (resent s.window taken) joined_b

    made : t ≡ settles_unless s.normal_due d now going
    made = after ∙ ap (λ (x : Session). settles_unless x.normal_due d now (sends_again d (resent x.window taken) joined_b)) same_session

    go : PutHere d [] (synced_up front.s s) joining [] (map (up_frame s.window.taken) (resent s.window taken)) [] [] b going → WentOn d now number epoch front taken (end_at b.state d) b (settled d t)
    go p = by (then_settled d (session_put p.since [] (synced_up front.s s)) linked (map (up_frame s.window.taken) (resent s.window taken)) [] [] b t refl refl (subst (λ (x : Sofar). Here d linked (map (up_frame s.window.taken) (resent s.window taken)) [] [] b x) (sym made) (link s.normal_due)))
      where
        linked : AppEnd
        linked = record (end_at b.state d) { link = settled_link s.normal_due b.state.times now (end_at b.state d).link; line = Joined; session = Some (session_put p.since [] (synced_up front.s s)) }

        link : (due : Bool) → Here d (record (end_at b.state d) { link = settled_link due b.state.times now (end_at b.state d).link; line = Joined; session = Some (session_put p.since [] (synced_up front.s s)) })
            (map (up_frame s.window.taken) (resent s.window taken)) [] [] b (settles_unless due d now going)
        link true = p.here
        link false = then_happens d now SettledEvent (end_put p.since [] (synced_up front.s s) joining) (map (up_frame s.window.taken) (resent s.window taken)) [] [] b going p.here

        by : Settles d (session_put p.since [] (synced_up front.s s)) linked (map (up_frame s.window.taken) (resent s.window taken)) [] [] b (settled d t) → WentOn d now number epoch front taken (end_at b.state d) b (settled d t)
        by y = record {
          session = s;
          its = its;
          asking = asked.asking;
          same_number = ap (λ (x : Session). x.number) (sym same_session) ∙ asked.its;
          same_epoch = ap (λ (x : Session). x.epoch) (sym same_session) ∙ same;
          below = asked.below;
          since = y.since;
          bare = y.bare;
          here =
              subst (λ (z : Session). Here d (record linked { session = Some z }) (map (up_frame s.window.taken) (resent s.window taken) ++ bare_frames y.bare s.window.taken) [] [] b (settled d t))
              (put_twice p.since y.since [] (synced_up front.s s)) y.here;
        }

learnt_here : (d number epoch kept : ℕ) (front : Front) (s : Session) (b t : Sofar) → d < length b.state.ends → (end_at b.state d).session ≡ Some s → IsAsked b d number front → (session_at b.state d).epoch < epoch
    → t ≡ puts_all d (told_puts front.w (synced_up front.s (session_at b.state d))) (sets d (in_epoch epoch front) (becomes d (with_line Joined) (writes (act.Told b.state.app d number epoch kept) b)))
    → Learnt d number epoch kept front (end_at b.state d) b (settled d t)
learnt_here d number epoch kept front s b t there its asked later after = go (then_put_all d puts (in_epoch epoch front s) joining [] [] (act.Told b.state.app d number epoch kept ∷ []) b learning refl refl
    (then_sets d (in_epoch epoch front) s (with_line Joined (end_at b.state d)) [] [] (act.Told b.state.app d number epoch kept ∷ []) b _ its
    (then_becomes d (with_line Joined) (end_at b.state d) [] [] (act.Told b.state.app d number epoch kept ∷ []) b _
    (then_writes d (act.Told b.state.app d number epoch kept) (end_at b.state d) [] [] [] b b (here_same d b there)))))
  where
    puts : List Up
    puts = told_puts front.w (synced_up front.s s)

    learning : Sofar
    learning = sets d (in_epoch epoch front) (becomes d (with_line Joined) (writes (act.Told b.state.app d number epoch kept) b))

    joining : AppEnd
    joining = record (end_at b.state d) { line = Joined; session = Some (in_epoch epoch front s) }

    same_session : session_at b.state d ≡ s
    same_session = of_session (end_at b.state d) s its

    made : t ≡ puts_all d puts learning
    made = after ∙ ap (λ (x : Session). puts_all d (told_puts front.w (synced_up front.s x)) learning) same_session

    go : PutHere d puts (in_epoch epoch front s) joining [] (put_frames true fresh puts) [] (act.Told b.state.app d number epoch kept ∷ []) b (puts_all d puts learning) → Learnt d number epoch kept front (end_at b.state d) b (settled d t)
    go p = by (then_settled d (session_put p.since puts (in_epoch epoch front s)) (end_put p.since puts (in_epoch epoch front s) joining) (put_frames true fresh puts) [] (act.Told b.state.app d number epoch kept ∷ []) b t refl refl
        (subst (λ (x : Sofar). Here d (end_put p.since puts (in_epoch epoch front s) joining) (put_frames true fresh puts) [] (act.Told b.state.app d number epoch kept ∷ []) b x) (sym made) p.here))
      where
        none : p.since ≡ 0
        none = omega (arith, p.low)

        by : Settles d (session_put p.since puts (in_epoch epoch front s)) (end_put p.since puts (in_epoch epoch front s) joining) (put_frames true fresh puts) [] (act.Told b.state.app d number epoch kept ∷ []) b (settled d t)
            → Learnt d number epoch kept front (end_at b.state d) b (settled d t)
        by y = record {
          session = s;
          its = its;
          asking = asked.asking;
          same_number = ap (λ (x : Session). x.number) (sym same_session) ∙ asked.its;
          later = subst (λ (x : Session). x.epoch < epoch) same_session later;
          below = asked.below;
          since = y.since;
          here =
              subst (λ (z : Session). Here d (record joining { session = Some z }) (put_frames true fresh puts) [] (act.Told b.state.app d number epoch kept ∷ []) b (settled d t)) (put_twice p.since y.since puts (in_epoch epoch front s))
              (subst (λ (xs : List UpFrame). Here d (end_put y.since [] (session_put p.since puts (in_epoch epoch front s)) joining) xs [] (act.Told b.state.app d number epoch kept ∷ []) b (settled d t)) no_bare y.here);
        }
          where
            no_bare : put_frames true fresh puts ++ bare_frames y.bare 0 ≡ put_frames true fresh puts
            no_bare =
                ap (λ (x : Bool). put_frames true fresh puts ++ bare_frames x 0) (y.owed ∙ ap (λ n. nat_le 64 n) none)
                ∙ append-nil (put_frames true fresh puts)

welcome_came : (d now session epoch kept : ℕ) (front : Front) (taken : ℕ) (b t : Sofar) → d < length b.state.ends → LineHas (end_at b.state d).line (end_at b.state d).session → TakesWelcome b d now session epoch kept front taken t
    → MetNew d now session epoch front (end_at b.state d) b (settled d t) ⊎ WentOn d now session epoch front taken (end_at b.state d) b (settled d t)
    ⊎ Learnt d session epoch kept front (end_at b.state d) b (settled d t) ⊎ EndsIt d now (end_at b.state d) b (settled d t)
welcome_came d now session epoch kept front taken b t there has (inl x) = inl (met_came d now session epoch front b t there x.greeting x.above x.below x.after)
welcome_came d now session epoch kept front taken b t there has (inr (inl x)) = inr (inl (go (asking_session (end_at b.state d) has x.asked.asking)))
  where
    go : (s : Session) × ((end_at b.state d).session ≡ Some s) → WentOn d now session epoch front taken (end_at b.state d) b (settled d t)
    go s = went_on d now session epoch front taken s.0 b t there s.1 x.asked x.same x.after
welcome_came d now session epoch kept front taken b t there has (inr (inr (inl x))) = inr (inr (inl (go (asking_session (end_at b.state d) has x.asked.asking))))
  where
    go : (s : Session) × ((end_at b.state d).session ≡ Some s) → Learnt d session epoch kept front (end_at b.state d) b (settled d t)
    go s = learnt_here d session epoch kept front s.0 b t there s.1 x.asked x.later x.after
welcome_came d now session epoch kept front taken b t there has (inr (inr (inr x))) = inr (inr (inr (ends_by d now b t there x.after)))

-- a lost session's line isn't joined
lost_line : (l : Line) → is_joined (line_after_loss l) ≡ false
lost_line Apart = refl
lost_line Trying = refl
lost_line Greeting = refl
lost_line Asking = refl
lost_line Joined = refl

reset_came : (d session at : ℕ) (b t : Sofar) → d < length b.state.ends → (end_at b.state d).link ≡ Recovery → (session_at b.state d).number ≡ session
    → t ≡ cuts d (loses d names.Recovery (reasons.Reset at) (writes (act.Lose b.state.app d (losses.Reset at)) b)) → ResetCame d session at (end_at b.state d) b (settled d t)
reset_came d session at b t there recovering its after = record {
  recovering = recovering;
  its = its;
  here =
      then_unsettled d (without_session names.Recovery (reasons.Reset at) (end_at b.state d)) [] (d ∷ []) (act.Lose b.state.app d (losses.Reset at) ∷ []) b t (lost_line (end_at b.state d).line)
      (subst (λ (x : Sofar). Here d (without_session names.Recovery (reasons.Reset at) (end_at b.state d)) [] (d ∷ []) (act.Lose b.state.app d (losses.Reset at) ∷ []) b x) (sym after)
      (then_cuts d (without_session names.Recovery (reasons.Reset at) (end_at b.state d)) [] [] (act.Lose b.state.app d (losses.Reset at) ∷ []) b _
      (then_becomes d (without_session names.Recovery (reasons.Reset at)) (end_at b.state d) [] [] (act.Lose b.state.app d (losses.Reset at) ∷ []) b _
      (then_writes d (act.Lose b.state.app d (losses.Reset at)) (end_at b.state d) [] [] [] b b (here_same d b there)))));
}

frame_of : (m : Down) (d now : ℕ) (frame : DownFrame) (b t : Sofar) → d < length b.state.ends → LineHas (end_at b.state d).line (end_at b.state d).session → frame.message ≡ m → TakesFrame m b d now frame t
    → FrameCame m d now frame (end_at b.state d) b (settled d t)
frame_of (Welcome session epoch kept front taken) d now frame b t there has same h = welcome_came d now session epoch kept front taken b t there has h
frame_of (Reset session at) d now frame b t there has same (inl x) = inl (reset_came d session at b t there x.recovering x.its x.after)
frame_of (Reset session at) d now frame b t there has same (inr x) = inr (ends_by d now b t there x.after)
frame_of (Block front block) d now frame b t there has same h =
    subst (λ (m : Down). NumberedCame d now frame.seq frame.ack m front (end_at b.state d) b (settled d t)) same (headed_came (joined b d) d now frame front b t there has refl h)
frame_of (Drop front lo hi) d now frame b t there has same h =
    subst (λ (m : Down). NumberedCame d now frame.seq frame.ack m front (end_at b.state d) b (settled d t)) same (headed_came (joined b d) d now frame front b t there has refl h)
frame_of (Ack front) d now frame b t there has same h =
    subst (λ (m : Down). NumberedCame d now frame.seq frame.ack m front (end_at b.state d) b (settled d t)) same (headed_came (joined b d) d now frame front b t there has refl h)
frame_of (Grant front ticket at) d now frame b t there has same h =
    subst (λ (m : Down). NumberedCame d now frame.seq frame.ack m front (end_at b.state d) b (settled d t)) same (headed_came (joined b d) d now frame front b t there has refl h)
frame_of (Answer front about job number at sum) d now frame b t there has same h =
    subst (λ (m : Down). NumberedCame d now frame.seq frame.ack m front (end_at b.state d) b (settled d t)) same (headed_came (joined b d) d now frame front b t there has refl h)
frame_of (Normal front) d now frame b t there has same h =
    subst (λ (m : Down). NumberedCame d now frame.seq frame.ack m front (end_at b.state d) b (settled d t)) same (headed_came (joined b d) d now frame front b t there has refl h)
frame_of Bare d now frame b t there has same h = go (bare_came (joined b d) d now frame.ack b t there has refl h)
  where
    go : BareCame d now frame.ack (end_at b.state d) b (settled d t) → FrameCame Bare d now frame (end_at b.state d) b (settled d t)
    go (inl x) = inl x
    go (inr (inl x)) = inr (inl x.1)
    go (inr (inr x)) = inr (inr x)

-- An acknowledgement by itself.
pub bare_frame_came : (b : Sofar) (now d : ℕ) (frame : DownFrame) (c : Sofar) → d < length b.state.ends → LineHas (end_at b.state d).line (end_at b.state d).session → FrameStep b now d frame c
    → frame.message ≡ Bare → BareCame d now frame.ack (end_at b.state d) b c
bare_frame_came b now d frame c there has h is =
    subst (λ (x : Sofar). BareCame d now frame.ack (end_at b.state d) b x) (sym h.after)
    (bare_came (joined b d) d now frame.ack b h.taken there has refl (subst (λ (m : Down). TakesFrame m b d now frame h.taken) is h.takes))

-- Each frame that an application server's end takes comes to one of its cases.
pub frame_came : (b : Sofar) (now d : ℕ) (frame : DownFrame) (c : Sofar) → d < length b.state.ends → LineHas (end_at b.state d).line (end_at b.state d).session → FrameStep b now d frame c
    → FrameCame frame.message d now frame (end_at b.state d) b c
frame_came b now d frame c there has h =
    subst (λ (x : Sofar). FrameCame frame.message d now frame (end_at b.state d) b x) (sym h.after) (frame_of frame.message d now frame b h.taken there has refl h.takes)
