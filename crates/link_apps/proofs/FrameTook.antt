-- What a joined end makes of a message more, or of an acknowledgement: its session, its link, and what it puts.
use Rattle.std.proofs.Common.{◌≡◌, ◌≢◌, ◌≤◌, ◌⊎◌, inl, inr, ℕ, ℤ, ◌+◌, ◌-◌, max, Bool, true, false, ◌&&◌, List, [], ◌∷◌, ◌++◌, length, drop, map, filter, Some, refl, ◌∙◌, ap, arith}
use Rattle.std.specs.List.{AllByRecursion, list_all}
use Rattle.std.proofs.lemmas.List.{append-nil}
use Rattle.plain_orders.specs.declared.layout.Times.{Times}
use Rattle.link_states.specs.declared.app_link.AppLink.{AppLink}
use Rattle.ecp_messages.specs.declared.about.About.{About}
use Rattle.ecp_messages.specs.declared.about.About.TheVariants.{Counted, NotWhole, Range, Committed, RolledBack, Synced}
use Rattle.ecp_messages.specs.declared.up.Up.{Up}
use Rattle.ecp_messages.specs.declared.up.UpFrame.{UpFrame}
use Rattle.ecp_messages.specs.declared.down.Down.{Down}
use Rattle.ecp_messages.specs.declared.down.Down.TheVariants.{Welcome, Reset, Block, Drop, Ack, Grant, Answer, Normal, Bare}
use Rattle.ecp_messages.specs.declared.down.DownFrame.{DownFrame}
use Rattle.ecp_messages.specs.declared.front.Front.{Front}
use Rattle.end_words.specs.Windows.{Window, numbered_from, sent, with_ack}
use Rattle.app_rules.specs.declared.line.Line.TheVariants.{Joined}
use Rattle.app_rules.specs.AppState.{AppEnd, Session}
use Rattle.app_rules.specs.Delivering.{ask_of, fetch_of, is_ask_unput, is_sync_unput, sync_of, to_put_again, with_answer}
use Rattle.app_rules.specs.Downs.{took}
use Rattle.app_rules.specs.Works.{Sofar, body_of, with_window}
use Rattle.cluster_invariant.specs.Link.{is_numbered_up}
use Rattle.cluster_invariant.specs.Words.{is_normal_down, is_reset_down, numbered_ups}
use Rattle.cluster_invariant.proofs.AllLists.{all_joined}
use Rattle.cluster_steps.proofs.EndSteps.{Here, bare_frames, session_put}
use Rattle.cluster_steps.proofs.FrameEnds.{Acked, Delivered, TookFresh}
use Rattle.cluster_steps.proofs.JobEnds.{put_frames}
use Rattle.link_kept.proofs.Answers.{fresh_above}
use Rattle.link_apps.proofs.PutsUp.{acks_frames, all_numbered, numbered_frames, numbered_ups_joined}

-- what a message makes of the session that took it
record DeliveredIs (m : Down) (s t : Session) (old new : AppLink) (ms : List Up) : Type 0 where
  number : t.number ≡ s.number
  epoch : t.epoch ≡ s.epoch
  window : t.window ≡ s.window
  link : (is_normal_down m ≡ true) ⊎ (new ≡ old)
  numbered : list_all is_numbered_up ms ≡ true
  not_reset : is_reset_down m ≡ false

-- messages that are put again have numbers

pub all_of : {A : Type 0} (g : A → Up) → ((a : A) → is_numbered_up (g a) ≡ true) → (xs : List A) → list_all is_numbered_up (map g xs) ≡ true
all_of g is [] = refl
all_of g is (x ∷ xs) = ap (λ (b : Bool). b && list_all is_numbered_up (map g xs)) (is x) ∙ all_of g is xs

again_numbered : (s : Session) → list_all is_numbered_up (to_put_again s) ≡ true
again_numbered s =
    all_numbered (map ask_of (filter is_ask_unput s.asks) ++ map fetch_of s.again) (map sync_of (filter is_sync_unput s.syncs))
    (all_numbered (map ask_of (filter is_ask_unput s.asks)) (map fetch_of s.again) (all_of ask_of (λ a. refl) (filter is_ask_unput s.asks))
    (all_of fetch_of (λ a. refl) s.again))
    (all_of sync_of (λ a. refl) (filter is_sync_unput s.syncs))

quietly : (m : Down) (s t : Session) (old new : AppLink) (ms : List Up) → is_reset_down m ≡ false → t.number ≡ s.number → t.epoch ≡ s.epoch → t.window ≡ s.window → new ≡ old → ms ≡ []
    → DeliveredIs m s t old new ms
quietly m s t old new ms not_reset number epoch window link none = record {
  number = number;
  epoch = epoch;
  window = window;
  link = inr link;
  numbered = ap (list_all is_numbered_up) none;
  not_reset = not_reset;
}

answered : (about : About) (number at : ℕ) (sum : ℤ) (s : Session)
    → ((with_answer about number at sum s).number ≡ s.number) × ((with_answer about number at sum s).epoch ≡ s.epoch) × ((with_answer about number at sum s).window ≡ s.window)
answered Counted number at sum s = (refl, refl, refl)
answered NotWhole number at sum s = (refl, refl, refl)
answered Range number at sum s = (refl, refl, refl)
answered Committed number at sum s = (refl, refl, refl)
answered RolledBack number at sum s = (refl, refl, refl)
answered Synced number at sum s = (refl, refl, refl)

delivered_is : (m : Down) (s : Session) (old : AppLink) (times : Times) (now : ℕ) (t : Session) (new : AppLink) (ms : List Up) → Delivered m s old times now t new ms
    → DeliveredIs m s t old new ms
delivered_is (Welcome session epoch kept front taken) s old times now t new ms d = absurd d
delivered_is (Reset session at) s old times now t new ms d = absurd d
delivered_is (Block front block) s old times now t new ms (run, its, is, link, none) =
    quietly (Block front block) s t old new ms refl (ap (λ (z : Session). z.number) is) (ap (λ (z : Session). z.epoch) is) (ap (λ (z : Session). z.window) is) link none
delivered_is (Drop front lo hi) s old times now t new ms (is, link, none) =
    quietly (Drop front lo hi) s t old new ms refl (ap (λ (z : Session). z.number) is) (ap (λ (z : Session). z.epoch) is) (ap (λ (z : Session). z.window) is) link none
delivered_is (Ack front) s old times now t new ms (is, link, none) =
    quietly (Ack front) s t old new ms refl (ap (λ (z : Session). z.number) is) (ap (λ (z : Session). z.epoch) is) (ap (λ (z : Session). z.window) is) link none
delivered_is (Grant front ticket at) s old times now t new ms (is, link, none) =
    quietly (Grant front ticket at) s t old new ms refl (ap (λ (z : Session). z.number) is) (ap (λ (z : Session). z.epoch) is) (ap (λ (z : Session). z.window) is) link none
delivered_is (Answer front about job number at sum) s old times now t new ms (is, link, none) =
    go (answered about number at sum s)
  where
    go : ((with_answer about number at sum s).number ≡ s.number) × ((with_answer about number at sum s).epoch ≡ s.epoch) × ((with_answer about number at sum s).window ≡ s.window)
        → DeliveredIs (Answer front about job number at sum) s t old new ms
    go (a, b, c) =
        quietly (Answer front about job number at sum) s t old new ms refl (ap (λ (z : Session). z.number) is ∙ a) (ap (λ (z : Session). z.epoch) is ∙ b)
        (ap (λ (z : Session). z.window) is ∙ c) link none
delivered_is (Normal front) s old times now t new ms (is, link, again) = record {
  number = ap (λ (z : Session). z.number) is;
  epoch = ap (λ (z : Session). z.epoch) is;
  window = ap (λ (z : Session). z.window) is;
  link = inl refl;
  numbered = ap (list_all is_numbered_up) again ∙ again_numbered s;
  not_reset = refl;
}
delivered_is Bare s old times now t new ms d = absurd d

-- What a frame makes of the session and the link, and what is put then.
pub record SessionTakes (frame : DownFrame) (was session : Session) (old new : AppLink) (ms : List Up) (us : List UpFrame) : Type 0 where
  pub number : session.number ≡ was.number
  pub epoch : session.epoch ≡ was.epoch
  pub link : (is_normal_down frame.message ≡ true) ⊎ (new ≡ old)
  pub acked : session.window.acked ≡ max was.window.acked frame.ack
  pub waiting : session.window.waiting ≡ drop (frame.ack - was.window.acked) was.window.waiting ++ ms
  pub taken : ((frame.seq ≢ 0) × (session.window.taken ≡ was.window.taken + 1)) ⊎ ((frame.seq ≡ 0) × (session.window.taken ≡ was.window.taken))
  pub numbered : list_all is_numbered_up ms ≡ true
  pub frames : numbered_ups us ≡ numbered_from (session.window.acked + length (drop (frame.ack - was.window.acked) was.window.waiting)) ms
  pub acks : AllByRecursion (λ (g : UpFrame). g.ack ≤ session.window.taken) us

-- An end took a frame that neither ends its connection nor tells it of an order.
pub record Took (d : ℕ) (frame : DownFrame) (e : AppEnd) (b c : Sofar) : Type 0 where
  pub was : Session
  pub has : e.session ≡ Some was
  pub line : e.line ≡ Joined
  pub not_reset : is_reset_down frame.message ≡ false
  pub session : Session
  pub link : AppLink
  pub ms : List Up
  pub us : List UpFrame
  pub takes : SessionTakes frame was session e.link link ms us
  pub here : Here d (record e { link = link; session = Some session }) us [] [] b c

-- an acknowledgement by itself has no number
pub none_bare : (bare : Bool) (taken : ℕ) → numbered_ups (bare_frames bare taken) ≡ []
none_bare true taken = refl
none_bare false taken = refl

pub acks_bare : (bare : Bool) (taken low : ℕ) → taken ≤ low → AllByRecursion (λ (g : UpFrame). g.ack ≤ low) (bare_frames bare taken)
acks_bare true taken low is = (is, tt)
acks_bare false taken low is = tt

pub took_fresh : (d now : ℕ) (frame : DownFrame) (f : Front) (e : AppEnd) (b c : Sofar) → TookFresh d now frame.seq frame.ack frame.message f e b c → Took d frame e b c
took_fresh d now frame f e b c t = record {
  was = t.session;
  has = t.its;
  line = t.is_joined;
  not_reset = is.not_reset;
  session = session_put t.since t.put t.after;
  link = t.link;
  ms = t.put;
  us = put_frames true t.after.window t.put ++ bare_frames t.bare t.after.window.taken;
  takes = record {
    number = is.number;
    epoch = is.epoch;
    link = is.link;
    acked = ap (λ (w : Window Up). w.acked) is.window;
    waiting = ap (λ (w : Window Up). w.waiting ++ t.put) is.window;
    taken = inl (some, ap (λ (w : Window Up). w.taken) is.window);
    numbered = is.numbered;
    frames =
        numbered_ups_joined (put_frames true t.after.window t.put) (bare_frames t.bare t.after.window.taken)
        ∙ ap (λ (xs : List (ℕ × Up)). numbered_ups (put_frames true t.after.window t.put) ++ xs) (none_bare t.bare t.after.window.taken)
        ∙ append-nil (numbered_ups (put_frames true t.after.window t.put))
        ∙ numbered_frames t.after.window.taken (sent t.after.window) t.put
        ∙ ap (λ (w : Window Up). numbered_from (t.after.window.acked + length w.waiting) t.put) is.window;
    acks =
        all_joined (λ (g : UpFrame). g.ack ≤ t.after.window.taken) (put_frames true t.after.window t.put) (bare_frames t.bare t.after.window.taken)
        (acks_frames t.after.window.taken t.after.window.taken (numbered_from (sent t.after.window) t.put) (omega arith))
        (acks_bare t.bare t.after.window.taken t.after.window.taken (omega arith));
  };
  here = t.here;
}
  where
    is : DeliveredIs frame.message (took frame.seq frame.ack f t.session) t.after e.link t.link t.put
    is = delivered_is frame.message (took frame.seq frame.ack f t.session) e.link b.state.times now t.after t.link t.put t.delivered

    some : frame.seq ≢ 0
    some none = absurd (omega (arith, none, fresh_above body_of t.session.window frame.seq frame.ack t.fresh))

pub took_ack : (d seq : ℕ) (frame : DownFrame) (e : AppEnd) (b c : Sofar) → Acked d seq frame.ack e b c → frame.seq ≡ 0 → is_reset_down frame.message ≡ false → Took d frame e b c
took_ack d seq frame e b c t none not_reset = record {
  was = t.session;
  has = t.its;
  line = t.is_joined;
  not_reset = not_reset;
  session = session_put t.settles.since [] (with_window (λ w. with_ack w frame.ack) t.session);
  link = e.link;
  ms = [];
  us = bare_frames t.settles.bare t.session.window.taken;
  takes = record {
    number = refl;
    epoch = refl;
    link = inr refl;
    acked = refl;
    waiting = refl;
    taken = inr (none, refl);
    numbered = refl;
    frames = none_bare t.settles.bare t.session.window.taken;
    acks = acks_bare t.settles.bare t.session.window.taken t.session.window.taken (omega arith);
  };
  here = t.settles.here;
}
