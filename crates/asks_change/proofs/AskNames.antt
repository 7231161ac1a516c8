-- The jobs, modes and names of an end's requests stay over fresh messages and over the Welcome of a new epoch.
use Rattle.std.proofs.Common.{◌≡◌, ◌==◌, ℕ, Bool, true, false, if◌then◌else◌, List, [], ◌∷◌, map, Option, Some, None, refl, sym, ◌∙◌, ap, subst, ℤ}
use Rattle.link_states.specs.declared.app_link.AppLink.{AppLink}
use Rattle.plain_orders.specs.declared.layout.Times.{Times}
use Rattle.ecp_messages.specs.declared.about.About.{About}
use Rattle.ecp_messages.specs.declared.about.About.TheVariants.{Counted, NotWhole, Range, Committed, RolledBack, Synced}
use Rattle.ecp_messages.specs.declared.down.Down.{Down}
use Rattle.ecp_messages.specs.declared.down.Down.TheVariants.{Welcome, Reset, Block, Drop, Ack, Grant, Answer, Normal, Bare}
use Rattle.ecp_messages.specs.declared.down.DownFrame.{DownFrame}
use Rattle.ecp_messages.specs.declared.front.Front.{Front}
use Rattle.ecp_messages.specs.declared.up.Up.{Up}
use Rattle.app_rules.specs.declared.session_parts.Asked.{Asked}
use Rattle.app_rules.specs.AppState.{AppEnd, Session}
use Rattle.app_rules.specs.Delivering.{ask_put, grant_if, with_answer}
use Rattle.app_rules.specs.Downs.{took}
use Rattle.app_rules.specs.Welcoming.{ask_anew}
use Rattle.app_rules.specs.Works.{Sofar, end_at}
use Rattle.cluster_steps.proofs.EndSteps.{session_put}
use Rattle.cluster_steps.proofs.FrameEnds.{Delivered, Learnt, TookFresh}
use Rattle.cluster_steps.proofs.InputsBring.{FreshTaken}
use Rattle.asks_change.proofs.InputAsks.{EndStays, SessionsStay}
use Rattle.asks_change.proofs.LockedAsks.{new_ask}

-- a request without its ticket, and without what was put and granted
abbrev pub ask_name : Asked → Asked
ask_name a = new_ask 0 a.job a.mode a.key

-- Sessions with one number and requests of the same names.
abbrev pub SessionsNamed : Option Session → Option Session → Type 0
SessionsNamed None None = Unit {0}
SessionsNamed None (Some t) = ⊥
SessionsNamed (Some s) None = ⊥
SessionsNamed (Some s) (Some t) = (t.number ≡ s.number) × (map ask_name t.asks ≡ map ask_name s.asks)

-- Ends with such.
pub record EndNamed (e f : AppEnd) : Type 0 where
  pub told : f.told ≡ e.told
  pub lost : f.lost ≡ e.lost
  pub failed : f.failed ≡ e.failed
  pub session : SessionsNamed e.session f.session

stays_named : (o q : Option Session) → SessionsStay o q → SessionsNamed o q
stays_named None None x = tt
stays_named None (Some t) x = absurd x
stays_named (Some s) None x = absurd x
stays_named (Some s) (Some t) x = (x.number, ap (map ask_name) x.asks)

pub end_named : (e f : AppEnd) → EndStays e f → EndNamed e f
end_named e f x = record { told = x.told; lost = x.lost; failed = x.failed; session = stays_named e.session f.session x.session }

named_map : (g : Asked → Asked) → ((x : Asked) → ask_name (g x) ≡ ask_name x) → (xs : List Asked) → map ask_name (map g xs) ≡ map ask_name xs
named_map g same [] = refl
named_map g same (x ∷ xs) = ap (λ (z : Asked). z ∷ map ask_name (map g xs)) (same x) ∙ ap (λ (zs : List Asked). ask_name x ∷ zs) (named_map g same xs)

granted_name : (ticket at : ℕ) (x : Asked) → ask_name (grant_if ticket at x) ≡ ask_name x
granted_name ticket at x = go (x.ticket == ticket)
  where
    go : (b : Bool) → ask_name (if b then record x { at = Some at } else x) ≡ ask_name x
    go true = refl
    go false = refl

answer_asks : (about : About) (number at : ℕ) (sum : ℤ) (s : Session)
    → ((with_answer about number at sum s).number ≡ s.number) × ((with_answer about number at sum s).asks ≡ s.asks)
answer_asks Counted number at sum s = (refl, refl)
answer_asks NotWhole number at sum s = (refl, refl)
answer_asks Range number at sum s = (refl, refl)
answer_asks Committed number at sum s = (refl, refl)
answer_asks RolledBack number at sum s = (refl, refl)
answer_asks Synced number at sum s = (refl, refl)

by_session : (t u s : Session) → t ≡ u → (u.number ≡ s.number) × (map ask_name u.asks ≡ map ask_name s.asks)
    → (t.number ≡ s.number) × (map ask_name t.asks ≡ map ask_name s.asks)
by_session t u s same x = subst (λ (y : Session). (y.number ≡ s.number) × (map ask_name y.asks ≡ map ask_name s.asks)) (sym same) x

delivered_named : (m : Down) (s : Session) (link : AppLink) (times : Times) (now : ℕ) (t : Session) (l : AppLink) (put : List Up)
    → Delivered m s link times now t l put
    → (t.number ≡ s.number) × (map ask_name t.asks ≡ map ask_name s.asks)
delivered_named (Welcome session epoch kept front taken) s link times now t l put h = absurd h
delivered_named (Reset session at) s link times now t l put h = absurd h
delivered_named (Block front block) s link times now t l put h = by_session t _ s h.2 (refl, refl)
delivered_named (Drop front lo hi) s link times now t l put h = by_session t _ s h.0 (refl, refl)
delivered_named (Ack front) s link times now t l put h = by_session t _ s h.0 (refl, refl)
delivered_named (Grant front ticket at) s link times now t l put h = by_session t _ s h.0 (refl, named_map (grant_if ticket at) (granted_name ticket at) s.asks)
delivered_named (Answer front about job number at sum) s link times now t l put h =
    by_session t _ s h.0 ((answer_asks about number at sum s).0, ap (map ask_name) (answer_asks about number at sum s).1)
delivered_named (Normal front) s link times now t l put h = by_session t _ s h.0 (refl, named_map ask_put (λ x. refl) s.asks)
delivered_named Bare s link times now t l put h = absurd h

-- an end that has a session whose requests have the same names
one_named : (e f : AppEnd) (s t : Session) → e.session ≡ Some s → f.told ≡ e.told → f.lost ≡ e.lost → f.failed ≡ e.failed → f.session ≡ Some t
    → (t.number ≡ s.number) × (map ask_name t.asks ≡ map ask_name s.asks) → EndNamed e f
one_named e f s t there told lost failed is named = record {
  told = told;
  lost = lost;
  failed = failed;
  session = subst (λ (o : Option Session). SessionsNamed o f.session) (sym there) (subst (λ (o : Option Session). SessionsNamed (Some s) o) (sym is) named);
}

named_here : (e f g : AppEnd) → g ≡ f → EndNamed e f → EndNamed e g
named_here e f g same x = subst (λ (y : AppEnd). EndNamed e y) (sym same) x

fresh_named : (d now seq ack : ℕ) (m : Down) (f : Front) (b c : Sofar) → TookFresh d now seq ack m f (end_at b.state d) b c
    → EndNamed (end_at b.state d) (end_at c.state d)
fresh_named d now seq ack m f b c x =
    named_here (end_at b.state d) _ (end_at c.state d) x.here.end
    (one_named (end_at b.state d) _ x.session (session_put x.since x.put x.after) x.its refl refl refl refl
    (delivered_named m (took seq ack f x.session) (end_at b.state d).link b.state.times now x.after x.link x.put x.delivered))

-- A fresh message.
pub taken_named : (m : Down) (d now : ℕ) (frame : DownFrame) (b c : Sofar) → FreshTaken m d now frame (end_at b.state d) b c
    → EndNamed (end_at b.state d) (end_at c.state d)
taken_named (Welcome session epoch kept front taken) d now frame b c x = absurd x
taken_named (Reset session at) d now frame b c x = absurd x
taken_named (Block front block) d now frame b c x = fresh_named d now frame.seq frame.ack (Block front block) front b c x
taken_named (Drop front lo hi) d now frame b c x = fresh_named d now frame.seq frame.ack (Drop front lo hi) front b c x
taken_named (Ack front) d now frame b c x = fresh_named d now frame.seq frame.ack (Ack front) front b c x
taken_named (Grant front ticket at) d now frame b c x = fresh_named d now frame.seq frame.ack (Grant front ticket at) front b c x
taken_named (Answer front about job number at sum) d now frame b c x =
    fresh_named d now frame.seq frame.ack (Answer front about job number at sum) front b c x
taken_named (Normal front) d now frame b c x = fresh_named d now frame.seq frame.ack (Normal front) front b c x
taken_named Bare d now frame b c x = absurd x

-- The Welcome of a new epoch.
pub learnt_named : (d number epoch kept : ℕ) (front : Front) (b c : Sofar) → Learnt d number epoch kept front (end_at b.state d) b c
    → EndNamed (end_at b.state d) (end_at c.state d)
learnt_named d number epoch kept front b c x =
    named_here (end_at b.state d) _ (end_at c.state d) x.here.end
    (one_named (end_at b.state d) _ x.session _ x.its refl refl refl refl (refl, named_map ask_anew (λ y. refl) x.session.asks))
