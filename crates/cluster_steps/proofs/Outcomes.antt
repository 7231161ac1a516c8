-- What an input tells an application server's ends: nothing new, a new session, or a new epoch of the one that it has.
use Rattle.std.proofs.Common.{◌≡◌, ◌⊎◌, ℕ, List, Option, Some, None, refl, sym, ◌∙◌, ap, subst, inl, inr, ℤ}
use Rattle.std.specs.Prelude.{IfSome}
use Rattle.plain_orders.specs.declared.layout.Times.{Times}
use Rattle.link_states.specs.declared.app_link.AppLink.{AppLink}
use Rattle.ecp_messages.specs.declared.about.About.{About}
use Rattle.ecp_messages.specs.declared.about.About.TheVariants.{Counted, NotWhole, Range, Committed, RolledBack, Synced}
use Rattle.ecp_messages.specs.declared.down.Down.{Down}
use Rattle.ecp_messages.specs.declared.down.Down.TheVariants.{Welcome, Reset, Block, Drop, Ack, Grant, Answer, Normal, Bare}
use Rattle.ecp_messages.specs.declared.down.DownFrame.{DownFrame}
use Rattle.ecp_messages.specs.declared.front.Front.{Front}
use Rattle.ecp_messages.specs.declared.up.Up.{Up}
use Rattle.app_rules.specs.declared.app_in.AppIn.{AppIn}
use Rattle.app_rules.specs.declared.app_in.AppIn.TheVariants as app_in
use Rattle.app_rules.specs.AppState.{AppEnd, Session}
use Rattle.app_rules.specs.AppStep.{AppMay, Makes}
use Rattle.app_rules.specs.Delivering.{with_answer}
use Rattle.app_rules.specs.Downs.{took}
use Rattle.app_rules.specs.Laws.{KeepsOthers, named_by}
use Rattle.app_rules.specs.Works.{Sofar, end_at}
use Rattle.cluster_steps.proofs.EndSteps.{session_put}
use Rattle.cluster_steps.proofs.FrameCases.{LineHas}
use Rattle.cluster_steps.proofs.FrameEnds.{Delivered, TookFresh}
use Rattle.cluster_steps.proofs.InputsBring.{Brings, EndStays, EndStill, FreshTaken, InputBrings, SessionStill, WelcomeTold, end_still, input_brings}
use Rattle.cluster_steps.proofs.JobEnds.{Grew, SessionsGrow}

-- a session goes on, or is lost
abbrev pub SessionKept : Option Session → Option Session → Type 0
SessionKept o None = Unit {0}
SessionKept None (Some t) = ⊥
SessionKept (Some s) (Some t) = (t.number ≡ s.number) × (t.epoch ≡ s.epoch)

-- An end is told nothing new.
pub record EndKept (e f : AppEnd) : Type 0 where
  pub told : f.told ≡ e.told
  pub session : SessionKept e.session f.session

session_same : (o : Option Session) → SessionKept o o
session_same None = tt
session_same (Some s) = (refl, refl)

pub end_same : (e : AppEnd) → EndKept e e
end_same e = record { told = refl; session = session_same e.session }

still_kept : (o q : Option Session) → SessionStill o q → SessionKept o q
still_kept o None x = tt
still_kept None (Some t) x = absurd x
still_kept (Some s) (Some t) x = (x.number, x.epoch)

-- one that took no message
pub end_kept : (e f : AppEnd) → EndStill e f → EndKept e f
end_kept e f x = record { told = x.told; session = still_kept e.session f.session x.session }

answer_keeps : (about : About) (number at : ℕ) (sum : ℤ) (s : Session) → ((with_answer about number at sum s).number ≡ s.number) × ((with_answer about number at sum s).epoch ≡ s.epoch)
answer_keeps Counted number at sum s = (refl, refl)
answer_keeps NotWhole number at sum s = (refl, refl)
answer_keeps Range number at sum s = (refl, refl)
answer_keeps Committed number at sum s = (refl, refl)
answer_keeps RolledBack number at sum s = (refl, refl)
answer_keeps Synced number at sum s = (refl, refl)

-- a fresh message leaves the session's number and epoch
delivered_keeps : (m : Down) (s : Session) (link : AppLink) (times : Times) (now : ℕ) (t : Session) (l : AppLink) (put : List Up) → Delivered m s link times now t l put → (t.number ≡ s.number) × (t.epoch ≡ s.epoch)
delivered_keeps (Welcome session epoch kept front taken) s link times now t l put h = absurd h
delivered_keeps (Reset session at) s link times now t l put h = absurd h
delivered_keeps (Block front block) s link times now t l put h = (ap (λ (x : Session). x.number) h.2, ap (λ (x : Session). x.epoch) h.2)
delivered_keeps (Drop front lo hi) s link times now t l put h = (ap (λ (x : Session). x.number) h.0, ap (λ (x : Session). x.epoch) h.0)
delivered_keeps (Ack front) s link times now t l put h = (ap (λ (x : Session). x.number) h.0, ap (λ (x : Session). x.epoch) h.0)
delivered_keeps (Grant front ticket at) s link times now t l put h = (ap (λ (x : Session). x.number) h.0, ap (λ (x : Session). x.epoch) h.0)
delivered_keeps (Answer front about job number at sum) s link times now t l put h =
    (ap (λ (x : Session). x.number) h.0 ∙ (answer_keeps about number at sum s).0, ap (λ (x : Session). x.epoch) h.0 ∙ (answer_keeps about number at sum s).1)
delivered_keeps (Normal front) s link times now t l put h = (ap (λ (x : Session). x.number) h.0, ap (λ (x : Session). x.epoch) h.0)
delivered_keeps Bare s link times now t l put h = absurd h

-- a fresh message leaves its number and epoch
fresh_kept : (d now seq ack : ℕ) (m : Down) (f : Front) (b c : Sofar) → TookFresh d now seq ack m f (end_at b.state d) b c → EndKept (end_at b.state d) (end_at c.state d)
fresh_kept d now seq ack m f b c x = subst (λ (y : AppEnd). EndKept (end_at b.state d) y) (sym x.here.end) (record {
  told = refl;
  session = subst (λ (o : Option Session). SessionKept o (Some (session_put x.since x.put x.after))) (sym x.its) (
    (delivered_keeps m (took seq ack f x.session) (end_at b.state d).link b.state.times now x.after x.link x.put x.delivered).0,
    (delivered_keeps m (took seq ack f x.session) (end_at b.state d).link b.state.times now x.after x.link x.put x.delivered).1,
  );
})

taken_kept : (m : Down) (d now : ℕ) (frame : DownFrame) (b c : Sofar) → FreshTaken m d now frame (end_at b.state d) b c → EndKept (end_at b.state d) (end_at c.state d)
taken_kept (Welcome session epoch kept front taken) d now frame b c x = absurd x
taken_kept (Reset session at) d now frame b c x = absurd x
taken_kept (Block front block) d now frame b c x = fresh_kept d now frame.seq frame.ack (Block front block) front b c x
taken_kept (Drop front lo hi) d now frame b c x = fresh_kept d now frame.seq frame.ack (Drop front lo hi) front b c x
taken_kept (Ack front) d now frame b c x = fresh_kept d now frame.seq frame.ack (Ack front) front b c x
taken_kept (Grant front ticket at) d now frame b c x = fresh_kept d now frame.seq frame.ack (Grant front ticket at) front b c x
taken_kept (Answer front about job number at sum) d now frame b c x =
    fresh_kept d now frame.seq frame.ack (Answer front about job number at sum) front b c x
taken_kept (Normal front) d now frame b c x = fresh_kept d now frame.seq frame.ack (Normal front) front b c x
taken_kept Bare d now frame b c x = absurd x

-- What an input tells the end with a data server.
abbrev pub InputTold : AppIn → ℕ → ℕ → Sofar → Sofar → Type 0
InputTold (app_in.Frame d frame) k now b c = EndKept (end_at b.state k) (end_at c.state k) ⊎ ((k ≡ d) × WelcomeTold frame.message d now (end_at b.state d) b c)
InputTold (app_in.Connected d) k now b c = EndKept (end_at b.state k) (end_at c.state k)
InputTold (app_in.NoWay d before later) k now b c = EndKept (end_at b.state k) (end_at c.state k)
InputTold (app_in.Broken d) k now b c = EndKept (end_at b.state k) (end_at c.state k)
InputTold (app_in.Join d) k now b c = EndKept (end_at b.state k) (end_at c.state k)
InputTold app_in.Tick k now b c = EndKept (end_at b.state k) (end_at c.state k)

brings_tell : (frame : DownFrame) (d k now : ℕ) (b c : Sofar) → k ≡ d → Brings frame.message d now frame b c → InputTold (app_in.Frame d frame) k now b c
brings_tell frame d k now b c same (inl x) =
    inl (subst (λ (n : ℕ). EndKept (end_at b.state n) (end_at c.state n)) (sym same) (end_kept (end_at b.state d) (end_at c.state d) x))
brings_tell frame d k now b c same (inr (inl x)) =
    inl (subst (λ (n : ℕ). EndKept (end_at b.state n) (end_at c.state n)) (sym same) (taken_kept frame.message d now frame b c x))
brings_tell frame d k now b c same (inr (inr x)) = inr (same, x)

stays_kept : (e f : AppEnd) → EndStays e f → EndKept e f
stays_kept e f x = end_kept e f (end_still e f x)

tells : (input : AppIn) (k now : ℕ) (b c : Sofar) → InputBrings input k now b c → InputTold input k now b c
tells (app_in.Frame d frame) k now b c (inl x) = inl (stays_kept (end_at b.state k) (end_at c.state k) x)
tells (app_in.Frame d frame) k now b c (inr x) = brings_tell frame d k now b c x.0 x.1
tells (app_in.Connected d) k now b c x = stays_kept (end_at b.state k) (end_at c.state k) x
tells (app_in.NoWay d before later) k now b c x = stays_kept (end_at b.state k) (end_at c.state k) x
tells (app_in.Broken d) k now b c x = stays_kept (end_at b.state k) (end_at c.state k) x
tells (app_in.Join d) k now b c x = stays_kept (end_at b.state k) (end_at c.state k) x
tells app_in.Tick k now b c x = end_kept (end_at b.state k) (end_at c.state k) x

-- Each input.
pub input_told : (input : AppIn) (k now : ℕ) (b c : Sofar) → AppMay b.state input → IfSome (named_by input) (KeepsOthers b.state c.state)
    → ((d : ℕ) → LineHas (end_at b.state d).line (end_at b.state d).session) → Makes b now input c → InputTold input k now b c
input_told input k now b c may others has h = tells input k now b c (input_brings input k now b c may others has h)

-- A command tells nothing new.
sessions_told : (put : List Up) (o q : Option Session) → SessionsGrow put o q → SessionKept o q
sessions_told put None None g = tt
sessions_told put None (Some t) g = absurd g
sessions_told put (Some s) None g = absurd g
sessions_told put (Some s) (Some t) g = (g.number, g.epoch)

pub command_told : (k : ℕ) (b c : Sofar) → Grew k b c → EndKept (end_at b.state k) (end_at c.state k)
command_told k b c g = record { told = g.end.told; session = sessions_told g.put (end_at b.state k).session (end_at c.state k).session g.end.session }
