-- What an input brings an application server's ends: nothing, a fresh message, or a Welcome that tells something new.
use Rattle.std.proofs.Common.{◌≡◌, ◌⊎◌, ◌<◌, ℕ, Bool, true, false, List, [], ◌∷◌, length, Option, Some, None, option_map, refl, sym, ◌∙◌, ap, subst, inl, inr, eqb}
use Rattle.std.specs.List.{range_with_len}
use Rattle.std.specs.Prelude.{IfSome, nat_le}
use Rattle.std.proofs.lemmas.Bool.{eqb-true, eq-eqb, false≢true}
use Rattle.plain_orders.specs.declared.layout.Times.{Times}
use Rattle.plain_orders.specs.Times.{until}
use Rattle.link_states.specs.declared.app_link.AppLink.{AppLink}
use Rattle.link_states.specs.declared.app_link.AppLink.TheVariants.{NotConnected, Normal as NormalLink, Trouble, Recovery}
use Rattle.ecp_messages.specs.declared.down.Down.{Down}
use Rattle.ecp_messages.specs.declared.down.Down.TheVariants.{Welcome, Reset, Block, Drop, Ack, Grant, Answer, Normal, Bare}
use Rattle.ecp_messages.specs.declared.down.DownFrame.{DownFrame}
use Rattle.ecp_messages.specs.declared.front.Front.{Front}
use Rattle.end_words.specs.Windows.{with_ack_put}
use Rattle.app_rules.specs.declared.app_in.AppIn.{AppIn}
use Rattle.app_rules.specs.declared.app_in.AppIn.TheVariants as app_in
use Rattle.app_rules.specs.declared.line.Line.{Line}
use Rattle.app_rules.specs.declared.line.Line.TheVariants.{Apart, Trying, Greeting, Asking, Joined}
use Rattle.app_rules.specs.AppState.{AppEnd, Session}
use Rattle.app_rules.specs.AppStep.{AppMay, Makes}
use Rattle.app_rules.specs.Laws.{KeepsOthers, named_by}
use Rattle.app_rules.specs.Losing.{ticks, ticks_from}
use Rattle.app_rules.specs.Works.{Sofar, end_at, with_window, is_apart}
use Rattle.app_rules.proofs.OneEnd.{one_ticks_from}
use Rattle.cluster_steps.proofs.FrameCases.{LineHas, frame_came}
use Rattle.cluster_steps.proofs.FrameEnds.{FrameCame, NumberedCame, TookFresh, MetNew, Learnt, ended_from}
use Rattle.cluster_steps.proofs.InputEnds.{ConnectedCame, connected_came, failed_end, failed_came, broken_came, rejoined, joined_came, ticked_from, ticked_here, tried_if, troubled, trouble_here}

-- A session that took nothing: its number, epoch, front, runs, and how many messages it took are as they were.
pub record IsStill (s t : Session) : Type 0 where
  pub number : t.number ≡ s.number
  pub epoch : t.epoch ≡ s.epoch
  pub n : t.n ≡ s.n
  pub w : t.w ≡ s.w
  pub cache : t.cache ≡ s.cache
  pub taken : t.window.taken ≡ s.window.taken

-- a session is still, or is lost
abbrev pub SessionStill : Option Session → Option Session → Type 0
SessionStill o None = Unit {0}
SessionStill None (Some t) = ⊥
SessionStill (Some s) (Some t) = IsStill s t

-- a session is still, and isn't lost
abbrev pub SessionStays : Option Session → Option Session → Type 0
SessionStays None None = Unit {0}
SessionStays None (Some t) = ⊥
SessionStays (Some s) None = ⊥
SessionStays (Some s) (Some t) = IsStill s t

-- An end took no message, and has the session that it had.
pub record EndStays (e f : AppEnd) : Type 0 where
  pub told : f.told ≡ e.told
  pub session : SessionStays e.session f.session

-- An end took no message.
pub record EndStill (e f : AppEnd) : Type 0 where
  pub told : f.told ≡ e.told
  pub session : SessionStill e.session f.session

still_same : (s : Session) → IsStill s s
still_same s = record { number = refl; epoch = refl; n = refl; w = refl; cache = refl; taken = refl }

session_same : (o : Option Session) → SessionStays o o
session_same None = tt
session_same (Some s) = still_same s

end_same : (e : AppEnd) → EndStays e e
end_same e = record { told = refl; session = session_same e.session }

stays_still : (o q : Option Session) → SessionStays o q → SessionStill o q
stays_still None None x = tt
stays_still None (Some t) x = absurd x
stays_still (Some s) None x = tt
stays_still (Some s) (Some t) x = x

pub end_still : (e f : AppEnd) → EndStays e f → EndStill e f
end_still e f x = record { told = x.told; session = stays_still e.session f.session x.session }

-- the same session after a change that leaves it still
mapped : (f : Session → Session) → ((s : Session) → IsStill s (f s)) → (o : Option Session) → SessionStays o (option_map f o)
mapped f keeps None = tt
mapped f keeps (Some s) = keeps s

ended_kept : (line : Line) (times : Times) (now : ℕ) (e : AppEnd) → EndStays e (ended_from line times now e)
ended_kept Apart times now e = end_same e
ended_kept Trying times now e = end_same e
ended_kept Greeting times now e = record { told = refl; session = session_same e.session }
ended_kept Asking times now e = record { told = refl; session = session_same e.session }
ended_kept Joined times now e = record { told = refl; session = session_same e.session }

-- A Welcome that tells something new.
abbrev pub WelcomeTold : Down → ℕ → ℕ → AppEnd → Sofar → Sofar → Type 0
WelcomeTold (Welcome session epoch kept front taken) d now e b c = MetNew d now session epoch front e b c ⊎ Learnt d session epoch kept front e b c
WelcomeTold m d now e b c = ⊥

-- A fresh message.
abbrev pub FreshTaken : Down → ℕ → ℕ → DownFrame → AppEnd → Sofar → Sofar → Type 0
FreshTaken (Welcome session epoch kept front taken) d now frame e b c = ⊥
FreshTaken (Reset session at) d now frame e b c = ⊥
FreshTaken (Block front block) d now frame e b c = TookFresh d now frame.seq frame.ack (Block front block) front e b c
FreshTaken (Drop front lo hi) d now frame e b c = TookFresh d now frame.seq frame.ack (Drop front lo hi) front e b c
FreshTaken (Ack front) d now frame e b c = TookFresh d now frame.seq frame.ack (Ack front) front e b c
FreshTaken (Grant front ticket at) d now frame e b c = TookFresh d now frame.seq frame.ack (Grant front ticket at) front e b c
FreshTaken (Answer front about job number at sum) d now frame e b c =
    TookFresh d now frame.seq frame.ack (Answer front about job number at sum) front e b c
FreshTaken (Normal front) d now frame e b c = TookFresh d now frame.seq frame.ack (Normal front) front e b c
FreshTaken Bare d now frame e b c = ⊥

at_here : (d : ℕ) (f : AppEnd) (b c : Sofar) → end_at c.state d ≡ f → EndStays (end_at b.state d) f → EndStays (end_at b.state d) (end_at c.state d)
at_here d f b c same kept = subst (λ (x : AppEnd). EndStays (end_at b.state d) x) (sym same) kept

still_here : (d : ℕ) (f : AppEnd) (b c : Sofar) → end_at c.state d ≡ f → EndStill (end_at b.state d) f → EndStill (end_at b.state d) (end_at c.state d)
still_here d f b c same kept = subst (λ (x : AppEnd). EndStill (end_at b.state d) x) (sym same) kept

-- an end that has a session still has it
still_one : (e f : AppEnd) (s t : Session) → e.session ≡ Some s → f.told ≡ e.told → f.session ≡ Some t → IsStill s t → EndStill e f
still_one e f s t there told is still = record {
  told = told;
  session = subst (λ (o : Option Session). SessionStill o f.session) (sym there) (subst (λ (o : Option Session). SessionStill (Some s) o) (sym is) still);
}

ended_still : (d now : ℕ) (b : Sofar) → EndStill (end_at b.state d) (ended_from (end_at b.state d).line b.state.times now (end_at b.state d))
ended_still d now b = end_still (end_at b.state d) _ (ended_kept (end_at b.state d).line b.state.times now (end_at b.state d))

numbered_brings : (d now seq ack : ℕ) (m : Down) (f : Front) (b c : Sofar) → NumberedCame d now seq ack m f (end_at b.state d) b c
    → EndStill (end_at b.state d) (end_at c.state d) ⊎ TookFresh d now seq ack m f (end_at b.state d) b c
numbered_brings d now seq ack m f b c (inl x) = inr x
numbered_brings d now seq ack m f b c (inr (inl x)) =
    inl (still_here d _ b c x.settles.here.end
    (still_one (end_at b.state d) _ x.session _ x.its refl refl (record { number = refl; epoch = refl; n = refl; w = refl; cache = refl; taken = refl })))
numbered_brings d now seq ack m f b c (inr (inr x)) = inl (still_here d _ b c x.end (ended_still d now b))

-- a message without a Welcome brings nothing or is fresh
brings_fresh : {A B C : Type 0} → A ⊎ B → A ⊎ B ⊎ C
brings_fresh (inl x) = inl x
brings_fresh (inr x) = inr (inl x)

-- What a frame brings: nothing, a fresh message, or a Welcome that tells something new.
abbrev pub Brings : Down → ℕ → ℕ → DownFrame → Sofar → Sofar → Type 0
Brings m d now frame b c =
    EndStill (end_at b.state d) (end_at c.state d) ⊎ FreshTaken m d now frame (end_at b.state d) b c ⊎ WelcomeTold m d now (end_at b.state d) b c

frame_brings : (m : Down) (d now : ℕ) (frame : DownFrame) (b c : Sofar) → FrameCame m d now frame (end_at b.state d) b c → Brings m d now frame b c
frame_brings (Welcome session epoch kept front taken) d now frame b c (inl x) = inr (inr (inl x))
frame_brings (Welcome session epoch kept front taken) d now frame b c (inr (inl x)) =
    inl (still_here d _ b c x.here.end
    (still_one (end_at b.state d) _ x.session _ x.its refl refl (record { number = refl; epoch = refl; n = refl; w = refl; cache = refl; taken = refl })))
frame_brings (Welcome session epoch kept front taken) d now frame b c (inr (inr (inl x))) = inr (inr (inr x))
frame_brings (Welcome session epoch kept front taken) d now frame b c (inr (inr (inr x))) =
    inl (still_here d _ b c x.end (ended_still d now b))
frame_brings (Reset session at) d now frame b c (inl x) = inl (still_here d _ b c x.here.end (record { told = refl; session = tt }))
frame_brings (Reset session at) d now frame b c (inr x) = inl (still_here d _ b c x.end (ended_still d now b))
frame_brings (Block front block) d now frame b c x = brings_fresh (numbered_brings d now frame.seq frame.ack (Block front block) front b c x)
frame_brings (Drop front lo hi) d now frame b c x = brings_fresh (numbered_brings d now frame.seq frame.ack (Drop front lo hi) front b c x)
frame_brings (Ack front) d now frame b c x = brings_fresh (numbered_brings d now frame.seq frame.ack (Ack front) front b c x)
frame_brings (Grant front ticket at) d now frame b c x = brings_fresh (numbered_brings d now frame.seq frame.ack (Grant front ticket at) front b c x)
frame_brings (Answer front about job number at sum) d now frame b c x =
    brings_fresh (numbered_brings d now frame.seq frame.ack (Answer front about job number at sum) front b c x)
frame_brings (Normal front) d now frame b c x = brings_fresh (numbered_brings d now frame.seq frame.ack (Normal front) front b c x)
frame_brings Bare d now frame b c (inl x) =
    inl (still_here d _ b c x.settles.here.end
    (still_one (end_at b.state d) _ x.session _ x.its refl refl (record { number = refl; epoch = refl; n = refl; w = refl; cache = refl; taken = refl })))
frame_brings Bare d now frame b c (inr (inl x)) = inl (still_here d _ b c x.end (end_still (end_at b.state d) (end_at b.state d) (end_same (end_at b.state d))))
frame_brings Bare d now frame b c (inr (inr x)) = inl (still_here d _ b c x.end (ended_still d now b))

connected_stays : (link : AppLink) (d now : ℕ) (b c : Sofar) → ConnectedCame link d now (end_at b.state d) b c → EndStays (end_at b.state d) (end_at c.state d)
connected_stays NotConnected d now b c x = at_here d _ b c x.end (record { told = refl; session = session_same (end_at b.state d).session })
connected_stays NormalLink d now b c x = at_here d _ b c x.end (record { told = refl; session = session_same (end_at b.state d).session })
connected_stays (Trouble broke try_at) d now b c x = at_here d _ b c x.end (record { told = refl; session = mapped (with_window with_ack_put) (λ s. record { number = refl; epoch = refl; n = refl; w = refl; cache = refl; taken = refl }) (end_at b.state d).session })
connected_stays Recovery d now b c x = at_here d _ b c x.end (record { told = refl; session = session_same (end_at b.state d).session })

failed_kept : (link : AppLink) (times : Times) (before later now : ℕ) (e : AppEnd) → EndStays e (failed_end link times before later now e)
failed_kept NotConnected times before later now e = record { told = refl; session = session_same e.session }
failed_kept NormalLink times before later now e = record { told = refl; session = session_same e.session }
failed_kept (Trouble broke try_at) times before later now e = record { told = refl; session = session_same e.session }
failed_kept Recovery times before later now e = record { told = refl; session = session_same e.session }

tried_kept : (apart : Bool) (e : AppEnd) → EndStays e (tried_if apart e)
tried_kept true e = record { told = refl; session = session_same e.session }
tried_kept false e = end_same e

rejoined_kept : (link : AppLink) (e : AppEnd) → EndStays e (rejoined link e)
rejoined_kept NotConnected e = end_same e
rejoined_kept NormalLink e = end_same e
rejoined_kept (Trouble broke try_at) e = tried_kept (is_apart e.line) e
rejoined_kept Recovery e = end_same e

troubled_kept : (over may : Bool) (broke now : ℕ) (e : AppEnd) → EndStill e (troubled over may broke now e)
troubled_kept true may broke now e = record { told = refl; session = tt }
troubled_kept false true broke now e = end_still e _ (tried_kept (is_apart e.line) e)
troubled_kept false false broke now e = end_still e e (end_same e)

ticked_kept : (link : AppLink) (times : Times) (now : ℕ) (e : AppEnd) → EndStill e (ticked_from link times now e)
ticked_kept NotConnected times now e = end_still e e (end_same e)
ticked_kept NormalLink times now e = end_still e e (end_same e)
ticked_kept (Trouble broke try_at) times now e = troubled_kept (nat_le (until broke times.recover) now) (nat_le try_at now) broke now e
ticked_kept Recovery times now e = end_still e e (end_same e)

session_then : (o q r : Option Session) → SessionStill o q → SessionStill q r → SessionStill o r
session_then o q None x y = tt
session_then o None (Some u) x y = absurd y
session_then None (Some t) (Some u) x y = absurd x
session_then (Some s) (Some t) (Some u) x y = record {
  number = y.number ∙ x.number;
  epoch = y.epoch ∙ x.epoch;
  n = y.n ∙ x.n;
  w = y.w ∙ x.w;
  cache = y.cache ∙ x.cache;
  taken = y.taken ∙ x.taken;
}

kept_then : (e f g : AppEnd) → EndStill e f → EndStill f g → EndStill e g
kept_then e f g x y = record { told = y.told ∙ x.told; session = session_then e.session f.session g.session x.session y.session }

-- one end of several
one_stays : (d k : ℕ) (b c : Sofar) → KeepsOthers b.state c.state d → EndStays (end_at b.state d) (end_at c.state d) → EndStays (end_at b.state k) (end_at c.state k)
one_stays d k b c others here = go (eqb k d) refl
  where
    go : (t : Bool) → eqb k d ≡ t → EndStays (end_at b.state k) (end_at c.state k)
    go true same = subst (λ n. EndStays (end_at b.state n) (end_at c.state n)) (sym (eqb-true k d same)) here
    go false other = subst (λ (x : AppEnd). EndStays (end_at b.state k) x) (sym (others k (λ same. false≢true (sym other ∙ eq-eqb k d same)))) (end_same (end_at b.state k))

one_still : (d k : ℕ) (b c : Sofar) → KeepsOthers b.state c.state d → EndStill (end_at b.state d) (end_at c.state d) → EndStill (end_at b.state k) (end_at c.state k)
one_still d k b c others here = go (eqb k d) refl
  where
    go : (t : Bool) → eqb k d ≡ t → EndStill (end_at b.state k) (end_at c.state k)
    go true same = subst (λ n. EndStill (end_at b.state n) (end_at c.state n)) (sym (eqb-true k d same)) here
    go false other =
        end_still (end_at b.state k) (end_at c.state k)
        (subst (λ (x : AppEnd). EndStays (end_at b.state k) x) (sym (others k (λ same. false≢true (sym other ∙ eq-eqb k d same)))) (end_same (end_at b.state k)))

-- What an input brings the end with a data server.
abbrev pub InputBrings : AppIn → ℕ → ℕ → Sofar → Sofar → Type 0
InputBrings (app_in.Frame d frame) k now b c = EndStays (end_at b.state k) (end_at c.state k) ⊎ ((k ≡ d) × Brings frame.message d now frame b c)
InputBrings (app_in.Connected d) k now b c = EndStays (end_at b.state k) (end_at c.state k)
InputBrings (app_in.NoWay d before later) k now b c = EndStays (end_at b.state k) (end_at c.state k)
InputBrings (app_in.Broken d) k now b c = EndStays (end_at b.state k) (end_at c.state k)
InputBrings (app_in.Join d) k now b c = EndStays (end_at b.state k) (end_at c.state k)
InputBrings app_in.Tick k now b c = EndStill (end_at b.state k) (end_at c.state k)

-- an end that is there, or one that is not, after a part of a tick
one_ticked : (link : AppLink) (d k now : ℕ) (b : Sofar) → (end_at b.state d).link ≡ link → ((broke try_at : ℕ) → link ≡ Trouble broke try_at → d < length b.state.ends) → EndStill (end_at b.state k) (end_at (ticks_from link d now b).state k)
one_ticked NotConnected d k now b same there = end_still (end_at b.state k) (end_at b.state k) (end_same (end_at b.state k))
one_ticked NormalLink d k now b same there = end_still (end_at b.state k) (end_at b.state k) (end_same (end_at b.state k))
one_ticked (Trouble broke try_at) d k now b same there =
    one_still d k b (ticks_from (Trouble broke try_at) d now b) (one_ticks_from (Trouble broke try_at) d now b).others
    (go (ticked_here d now b (there broke try_at refl)).end)
  where
    go : end_at (ticks_from (end_at b.state d).link d now b).state d ≡ ticked_from (end_at b.state d).link b.state.times now (end_at b.state d) → EndStill (end_at b.state d) (end_at (ticks_from (Trouble broke try_at) d now b).state d)
    go is =
        still_here d _ b (ticks_from (Trouble broke try_at) d now b) (subst (λ (l : AppLink). end_at (ticks_from l d now b).state d ≡ ticked_from l b.state.times now (end_at b.state d)) same is)
        (ticked_kept (Trouble broke try_at) b.state.times now (end_at b.state d))
one_ticked Recovery d k now b same there = end_still (end_at b.state k) (end_at b.state k) (end_same (end_at b.state k))

all_ticked : (ds : List ℕ) (k now : ℕ) (b : Sofar) → EndStill (end_at b.state k) (end_at (ticks ds now b).state k)
all_ticked [] k now b = end_still (end_at b.state k) (end_at b.state k) (end_same (end_at b.state k))
all_ticked (d ∷ ds) k now b =
    kept_then (end_at b.state k) (end_at (ticks_from (end_at b.state d).link d now b).state k) _
    (one_ticked (end_at b.state d).link d k now b refl (λ broke try_at is. trouble_here b.state d broke try_at is)) (all_ticked ds k now (ticks_from (end_at b.state d).link d now b))

-- Each input.
pub input_brings : (input : AppIn) (k now : ℕ) (b c : Sofar) → AppMay b.state input → IfSome (named_by input) (KeepsOthers b.state c.state)
    → ((d : ℕ) → LineHas (end_at b.state d).line (end_at b.state d).session) → Makes b now input c → InputBrings input k now b c
input_brings (app_in.Frame d frame) k now b c may others has h = go (eqb k d) refl (frame_brings frame.message d now frame b c (frame_came b now d frame c may.known (has d) h))
  where
    go : (t : Bool) → eqb k d ≡ t → Brings frame.message d now frame b c → InputBrings (app_in.Frame d frame) k now b c
    go true same x = inr (eqb-true k d same, x)
    go false other x =
        inl (subst (λ (y : AppEnd). EndStays (end_at b.state k) y) (sym (others k (λ same. false≢true (sym other ∙ eq-eqb k d same)))) (end_same (end_at b.state k)))
input_brings (app_in.Connected d) k now b c may others has h =
    one_stays d k b c others (connected_stays (end_at b.state d).link d now b c (subst (λ (x : Sofar). ConnectedCame (end_at b.state d).link d now (end_at b.state d) b x) (sym h) (connected_came d now b may.known)))
input_brings (app_in.NoWay d before later) k now b c may others has h =
    one_stays d k b c others
    (at_here d _ b c (ap (λ (x : Sofar). end_at x.state d) h ∙ (failed_came d before later now b may.tried.known).end) (failed_kept (end_at b.state d).link b.state.times before later now (end_at b.state d)))
input_brings (app_in.Broken d) k now b c may others has h =
    one_stays d k b c others (at_here d _ b c (ap (λ (x : Sofar). end_at x.state d) h ∙ (broken_came d now b may).end) (ended_kept (end_at b.state d).line b.state.times now (end_at b.state d)))
input_brings (app_in.Join d) k now b c may others has h =
    one_stays d k b c others (at_here d _ b c (ap (λ (x : Sofar). end_at x.state d) h ∙ (joined_came d b may).end) (rejoined_kept (end_at b.state d).link (end_at b.state d)))
input_brings app_in.Tick k now b c may others has h =
    subst (λ (x : Sofar). EndStill (end_at b.state k) (end_at x.state k)) (sym h) (all_ticked (range_with_len 0 (length b.state.ends)) k now b)
