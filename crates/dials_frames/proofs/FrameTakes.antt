-- What a frame makes of its application end where it tells nothing new: the end with what it puts, and whether it cuts its connection.
use Rattle.std.proofs.Common.{◌≡◌, ◌≢◌, ◌⊎◌, ◌≤◌, ℕ, Bool, true, false, ◌||◌, List, [], ◌∷◌, ◌++◌, map, Option, Some, None, refl, sym, ◌∙◌, ap, subst, arith, inl, inr, ℤ}
use Rattle.std.specs.Prelude.{⊤, IfSome}
use Rattle.std.specs.List.{list_all, list_any}
use Rattle.std.proofs.lemmas.Bool.{eq-eqb, ne_eqb, false≢true}
use Rattle.plain_orders.specs.declared.layout.Times.{Times}
use Rattle.link_states.specs.declared.app_link.AppLink.{AppLink}
use Rattle.ecp_messages.specs.declared.about.About.{About}
use Rattle.ecp_messages.specs.declared.about.About.TheVariants.{Counted, NotWhole, Range, Committed, RolledBack, Synced}
use Rattle.ecp_messages.specs.declared.down.Down.{Down}
use Rattle.ecp_messages.specs.declared.down.Down.TheVariants.{Welcome, Reset, Block, Drop, Ack, Grant, Answer, Normal, Bare}
use Rattle.ecp_messages.specs.declared.down.DownFrame.{DownFrame}
use Rattle.ecp_messages.specs.declared.front.Front.{Front}
use Rattle.ecp_messages.specs.declared.up.Up.{Up}
use Rattle.ecp_messages.specs.declared.up.UpFrame.{UpFrame}
use Rattle.end_words.specs.Windows.{numbered_from, resent, sent}
use Rattle.app_rules.specs.declared.line.Line.{Line}
use Rattle.app_rules.specs.declared.line.Line.TheVariants.{Apart, Trying, Greeting, Asking, Joined}
use Rattle.app_rules.specs.AppState.{AppEnd, Session}
use Rattle.app_rules.specs.Delivering.{with_answer}
use Rattle.app_rules.specs.Downs.{took}
use Rattle.app_rules.specs.Losing.{line_after_loss}
use Rattle.app_rules.specs.Works.{Sofar, end_at}
use Rattle.cluster_runs.specs.Connections.{is_index, ups_to}
use Rattle.cluster_invariant.specs.Dials.{is_following}
use Rattle.cluster_invariant.specs.Link.{is_numbered_up}
use Rattle.cluster_invariant.specs.Words.{has_wire}
use Rattle.cluster_steps.proofs.EndSteps.{Here, bare_frames}
use Rattle.cluster_steps.proofs.FrameEnds.{Acked, Delivered, EndsIt, FrameCame, NumberedCame, ResetCame, TookFresh, WentOn, ended_from}
use Rattle.cluster_steps.proofs.JobEnds.{up_frame}
use Rattle.cluster_steps.proofs.InputsBring.{WelcomeTold}
use Rattle.dials_frames.proofs.FollowFrames.{again_numbered, all_follow, bare_follows, follow_joined, resent_follow}

-- a session goes on and took no less, or is lost
abbrev pub SessionTook : Option Session → Option Session → Type 0
SessionTook o None = ⊤
SessionTook None (Some t) = ⊥
SessionTook (Some s) (Some t) = (t.number ≡ s.number) × (t.epoch ≡ s.epoch) × (s.window.taken ≤ t.window.taken)

-- how far the end is then: as it was, with nothing put, or joined, or without a connection
abbrev pub LineTook : AppEnd → AppEnd → List UpFrame → Type 0
LineTook e t us = ((t.line ≡ e.line) × (t.session ≡ e.session) × (us ≡ [])) ⊎ (t.line ≡ Joined) ⊎ (has_wire t.line ≡ false)

-- An end that took a frame.
pub record TakesOne (d : ℕ) (e t : AppEnd) (us : List UpFrame) (cs : List ℕ) : Type 0 where
  pub dial : t.dial ≡ e.dial
  pub told : t.told ≡ e.told
  pub session : SessionTook e.session t.session
  pub follow : list_all is_following us ≡ true
  pub line : LineTook e t us
  -- it has the connection that it had, unless it cuts it
  pub cut : Bool
  pub its : list_any (is_index d) cs ≡ cut
  pub wire : cut ≡ false → has_wire t.line ≡ has_wire e.line
  pub off : cut ≡ true → has_wire t.line ≡ false
  pub others : (k : ℕ) → k ≢ d → list_any (is_index k) cs ≡ false

-- and what was put and cut in the step
pub record TakesHere (d : ℕ) (e : AppEnd) (b c : Sofar) : Type 0 where
  pub ups : List UpFrame
  pub cuts : List ℕ
  pub frames : ups_to d c.outs.frames ≡ ups_to d b.outs.frames ++ ups
  pub cut : c.outs.cuts ≡ b.outs.cuts ++ cuts
  pub takes : TakesOne d e (end_at c.state d) ups cuts

by_here : (d : ℕ) (e t : AppEnd) (us : List UpFrame) (cs : List ℕ) (ws : List _) (b c : Sofar) → Here d t us cs ws b c → TakesOne d e t us cs → TakesHere d e b c
by_here d e t us cs ws b c h takes =
    record { ups = us; cuts = cs; frames = h.frames; cut = h.cuts; takes = subst (λ (x : AppEnd). TakesOne d e x us cs) (sym h.end) takes }

session_took : (o : Option Session) → SessionTook o o
session_took None = tt
session_took (Some s) = (refl, refl, omega arith)

-- the connection is cut

itself : (d : ℕ) → list_any (is_index d) (d ∷ []) ≡ true
itself d = ap (λ (b : Bool). b || false) (eq-eqb d d refl)

not_others : (d k : ℕ) → k ≢ d → list_any (is_index k) (d ∷ []) ≡ false
not_others d k other = ap (λ (b : Bool). b || false) (ne_eqb d k (λ same. other (sym same)))

ended_off : (line : Line) (times : Times) (now : ℕ) (e : AppEnd) → e.line ≡ line → has_wire (ended_from line times now e).line ≡ false
ended_off Apart times now e is = ap has_wire is
ended_off Trying times now e is = ap has_wire is
ended_off Greeting times now e is = refl
ended_off Asking times now e is = refl
ended_off Joined times now e is = refl

-- what an ended connection leaves
record EndedKeeps (e t : AppEnd) : Type 0 where
  dial : t.dial ≡ e.dial
  told : t.told ≡ e.told
  session : t.session ≡ e.session

ended_keeps : (line : Line) (times : Times) (now : ℕ) (e : AppEnd) → EndedKeeps e (ended_from line times now e)
ended_keeps Apart times now e = record { dial = refl; told = refl; session = refl }
ended_keeps Trying times now e = record { dial = refl; told = refl; session = refl }
ended_keeps Greeting times now e = record { dial = refl; told = refl; session = refl }
ended_keeps Asking times now e = record { dial = refl; told = refl; session = refl }
ended_keeps Joined times now e = record { dial = refl; told = refl; session = refl }

-- a session that is as it was
same_took : (o q : Option Session) → q ≡ o → SessionTook o q
same_took o q same = subst (λ (z : Option Session). SessionTook o z) (sym same) (session_took o)

cut_takes : (d : ℕ) (e t : AppEnd) → t.dial ≡ e.dial → t.told ≡ e.told → SessionTook e.session t.session → has_wire t.line ≡ false → TakesOne d e t [] (d ∷ [])
cut_takes d e t dial told session off = record {
  dial = dial;
  told = told;
  session = session;
  follow = refl;
  line = inr (inr off);
  cut = true;
  its = itself d;
  wire = λ uncut. absurd (false≢true (sym uncut));
  off = λ cut. off;
  others = λ k other. not_others d k other;
}

ends_takes : (d now : ℕ) (e : AppEnd) (b c : Sofar) → EndsIt d now e b c → TakesHere d e b c
ends_takes d now e b c h =
    by_here d e (ended_from e.line b.state.times now e) [] (d ∷ []) _ b c h
    (cut_takes d e (ended_from e.line b.state.times now e) keeps.dial keeps.told
    (same_took e.session (ended_from e.line b.state.times now e).session keeps.session) (ended_off e.line b.state.times now e refl))
  where
    keeps : EndedKeeps e (ended_from e.line b.state.times now e)
    keeps = ended_keeps e.line b.state.times now e

lost_off : (k : Line) → has_wire (line_after_loss k) ≡ false
lost_off Apart = refl
lost_off Trying = refl
lost_off Greeting = refl
lost_off Asking = refl
lost_off Joined = refl

reset_takes : (d session at : ℕ) (e : AppEnd) (b c : Sofar) → ResetCame d session at e b c → TakesHere d e b c
reset_takes d session at e b c h = by_here d e _ [] (d ∷ []) _ b c h.here (cut_takes d e _ refl refl tt (lost_off e.line))

-- the connection goes on

-- a joined end with a session that took no less
on_takes : (d : ℕ) (e t : AppEnd) (us : List UpFrame) (s q : Session) → t.dial ≡ e.dial → t.told ≡ e.told → e.session ≡ Some s → t.session ≡ Some q → q.number ≡ s.number
    → q.epoch ≡ s.epoch → s.window.taken ≤ q.window.taken → list_all is_following us ≡ true → t.line ≡ Joined → has_wire e.line ≡ true → TakesOne d e t us []
on_takes d e t us s q dial told had has number epoch taken follow line wire = record {
  dial = dial;
  told = told;
  session =
      subst (λ (o : Option Session). SessionTook o t.session) (sym had)
      (subst (λ (o : Option Session). SessionTook (Some s) o) (sym has) (number, epoch, taken));
  follow = follow;
  line = inr (inl line);
  cut = false;
  its = refl;
  wire = λ uncut. ap has_wire line ∙ sym wire;
  off = λ cut. absurd (false≢true cut);
  others = λ k other. refl;
}

acked_takes : (d seq ack : ℕ) (e : AppEnd) (b c : Sofar) → Acked d seq ack e b c → TakesHere d e b c
acked_takes d seq ack e b c h =
    by_here d e _ (bare_frames h.settles.bare h.session.window.taken) [] _ b c h.settles.here
    (on_takes d e _ (bare_frames h.settles.bare h.session.window.taken) h.session _ refl refl h.its refl refl refl (omega arith)
    (bare_follows h.settles.bare h.session.window.taken) h.is_joined (ap has_wire h.is_joined))

-- an answer leaves what was taken
record SameTaken (s t : Session) : Type 0 where
  number : t.number ≡ s.number
  epoch : t.epoch ≡ s.epoch
  taken : t.window.taken ≡ s.window.taken

answer_takes : (about : About) (number at : ℕ) (sum : ℤ) (s : Session) → SameTaken s (with_answer about number at sum s)
answer_takes Counted number at sum s = record { number = refl; epoch = refl; taken = refl }
answer_takes NotWhole number at sum s = record { number = refl; epoch = refl; taken = refl }
answer_takes Range number at sum s = record { number = refl; epoch = refl; taken = refl }
answer_takes Committed number at sum s = record { number = refl; epoch = refl; taken = refl }
answer_takes RolledBack number at sum s = record { number = refl; epoch = refl; taken = refl }
answer_takes Synced number at sum s = record { number = refl; epoch = refl; taken = refl }

-- what a fresh message makes of the session, and what is put then
record Delivers (s t : Session) (put : List Up) : Type 0 where
  same : SameTaken s t
  numbered : list_all is_numbered_up put ≡ true

from_same : (s t q : Session) (put : List Up) → t ≡ q → SameTaken s q → list_all is_numbered_up put ≡ true → Delivers s t put
from_same s t q put same is numbered = record { same = subst (λ (x : Session). SameTaken s x) (sym same) is; numbered = numbered }

none_numbered : (put : List Up) → put ≡ [] → list_all is_numbered_up put ≡ true
none_numbered put none = ap (list_all is_numbered_up) none

delivered_takes : (m : Down) (s : Session) (link : AppLink) (times : Times) (now : ℕ) (t : Session) (l : AppLink) (put : List Up)
    → Delivered m s link times now t l put → Delivers s t put
delivered_takes (Welcome session epoch kept front taken) s link times now t l put h = absurd h
delivered_takes (Reset session at) s link times now t l put h = absurd h
delivered_takes (Block front block) s link times now t l put h =
    from_same s t _ put h.2 (record { number = refl; epoch = refl; taken = refl }) (none_numbered put h.4)
delivered_takes (Drop front lo hi) s link times now t l put h =
    from_same s t _ put h.0 (record { number = refl; epoch = refl; taken = refl }) (none_numbered put h.2)
delivered_takes (Ack front) s link times now t l put h =
    from_same s t s put h.0 (record { number = refl; epoch = refl; taken = refl }) (none_numbered put h.2)
delivered_takes (Grant front ticket at) s link times now t l put h =
    from_same s t _ put h.0 (record { number = refl; epoch = refl; taken = refl }) (none_numbered put h.2)
delivered_takes (Answer front about job number at sum) s link times now t l put h =
    from_same s t _ put h.0 (answer_takes about number at sum s) (none_numbered put h.2)
delivered_takes (Normal front) s link times now t l put h =
    from_same s t _ put h.0 (record { number = refl; epoch = refl; taken = refl }) (ap (list_all is_numbered_up) h.2 ∙ again_numbered s)
delivered_takes Bare s link times now t l put h = absurd h

fresh_takes : (d now seq ack : ℕ) (m : Down) (f : Front) (e : AppEnd) (b c : Sofar) → TookFresh d now seq ack m f e b c → TakesHere d e b c
fresh_takes d now seq ack m f e b c h =
    by_here d e _ _ [] _ b c h.here
    (on_takes d e _ _ h.session _ refl refl h.its refl is.same.number is.same.epoch (omega (arith, is.same.taken))
    (follow_joined (map (up_frame h.after.window.taken) (numbered_from (sent h.after.window) h.put)) (bare_frames h.bare h.after.window.taken)
    (all_follow h.put (sent h.after.window) h.after.window.taken is.numbered)
    (bare_follows h.bare h.after.window.taken)) h.is_joined (ap has_wire h.is_joined))
  where
    is : Delivers (took seq ack f h.session) h.after h.put
    is = delivered_takes m (took seq ack f h.session) e.link b.state.times now h.after h.link h.put h.delivered

numbered_takes : (d now seq ack : ℕ) (m : Down) (f : Front) (e : AppEnd) (b c : Sofar) → NumberedCame d now seq ack m f e b c → TakesHere d e b c
numbered_takes d now seq ack m f e b c (inl h) = fresh_takes d now seq ack m f e b c h
numbered_takes d now seq ack m f e b c (inr (inl h)) = acked_takes d seq ack e b c h
numbered_takes d now seq ack m f e b c (inr (inr h)) = ends_takes d now e b c h

-- the Welcome in the epoch that was told
went_takes : (d now number epoch : ℕ) (front : Front) (taken : ℕ) (e : AppEnd) (b c : Sofar) → IfSome e.session (λ s. list_all is_numbered_up s.window.waiting ≡ true)
    → WentOn d now number epoch front taken e b c → TakesHere d e b c
went_takes d now number epoch front taken e b c numbered h =
    by_here d e _ _ [] _ b c h.here
    (on_takes d e _ _ h.session _ refl refl h.its refl refl refl (omega arith)
    (follow_joined (map (up_frame h.session.window.taken) (resent h.session.window taken)) (bare_frames h.bare h.session.window.taken)
    (resent_follow h.session.window taken h.session.window.taken its)
    (bare_follows h.bare h.session.window.taken)) refl (ap has_wire h.asking))
  where
    its : list_all is_numbered_up h.session.window.waiting ≡ true
    its = subst (λ (o : Option Session). IfSome o (λ s. list_all is_numbered_up s.window.waiting ≡ true)) h.its numbered

-- nothing comes of it
same_takes : (d : ℕ) (e : AppEnd) (b c : Sofar) → Here d e [] [] [] b c → TakesHere d e b c
same_takes d e b c h = by_here d e e [] [] [] b c h (record {
  dial = refl;
  told = refl;
  session = session_took e.session;
  follow = refl;
  line = inl (refl, refl, refl);
  cut = false;
  its = refl;
  wire = λ uncut. refl;
  off = λ cut. absurd (false≢true cut);
  others = λ k other. refl;
})

-- Each frame: its end goes on, or it is told something new.
pub frame_takes : (m : Down) (d now : ℕ) (frame : DownFrame) (b c : Sofar) → IfSome (end_at b.state d).session (λ s. list_all is_numbered_up s.window.waiting ≡ true)
    → FrameCame m d now frame (end_at b.state d) b c → TakesHere d (end_at b.state d) b c ⊎ WelcomeTold m d now (end_at b.state d) b c
frame_takes (Welcome session epoch kept front taken) d now frame b c numbered (inl h) = inr (inl h)
frame_takes (Welcome session epoch kept front taken) d now frame b c numbered (inr (inl h)) =
    inl (went_takes d now session epoch front taken (end_at b.state d) b c numbered h)
frame_takes (Welcome session epoch kept front taken) d now frame b c numbered (inr (inr (inl h))) = inr (inr h)
frame_takes (Welcome session epoch kept front taken) d now frame b c numbered (inr (inr (inr h))) = inl (ends_takes d now (end_at b.state d) b c h)
frame_takes (Reset session at) d now frame b c numbered (inl h) = inl (reset_takes d session at (end_at b.state d) b c h)
frame_takes (Reset session at) d now frame b c numbered (inr h) = inl (ends_takes d now (end_at b.state d) b c h)
frame_takes (Block front block) d now frame b c numbered h = inl (numbered_takes d now frame.seq frame.ack (Block front block) front (end_at b.state d) b c h)
frame_takes (Drop front lo hi) d now frame b c numbered h = inl (numbered_takes d now frame.seq frame.ack (Drop front lo hi) front (end_at b.state d) b c h)
frame_takes (Ack front) d now frame b c numbered h = inl (numbered_takes d now frame.seq frame.ack (Ack front) front (end_at b.state d) b c h)
frame_takes (Grant front ticket at) d now frame b c numbered h = inl (numbered_takes d now frame.seq frame.ack (Grant front ticket at) front (end_at b.state d) b c h)
frame_takes (Answer front about job number at sum) d now frame b c numbered h =
    inl (numbered_takes d now frame.seq frame.ack (Answer front about job number at sum) front (end_at b.state d) b c h)
frame_takes (Normal front) d now frame b c numbered h = inl (numbered_takes d now frame.seq frame.ack (Normal front) front (end_at b.state d) b c h)
frame_takes Bare d now frame b c numbered (inl h) = inl (acked_takes d 0 frame.ack (end_at b.state d) b c h)
frame_takes Bare d now frame b c numbered (inr (inl h)) = inl (same_takes d (end_at b.state d) b c h)
frame_takes Bare d now frame b c numbered (inr (inr h)) = inl (ends_takes d now (end_at b.state d) b c h)
