-- Each numbered message that comes is the next one that was put.
use Rattle.std.proofs.Common.{◌≡◌, ◌≢◌, ℕ, Bool, true, if◌then◌else◌, List, [], ◌∷◌, ◌++◌, drop, Option, Some, refl, sym, ◌∙◌, ap, subst}
use Rattle.std.proofs.lemmas.Bool.{false≢true, ne_eqb}
use Rattle.plain_orders.specs.declared.layout.Layout.{Layout}
use Rattle.plain_runs.specs.Plain.{Server}
use Rattle.plain_runs.specs.Run.{state_after}
use Rattle.ecp_messages.specs.declared.down.Down.{Down}
use Rattle.ecp_messages.specs.declared.down.Down.TheVariants.{Welcome, Reset, Block, Drop, Ack, Grant, Answer, Normal, Bare}
use Rattle.ecp_messages.specs.declared.down.DownFrame.{DownFrame}
use Rattle.ecp_messages.specs.declared.up.Up.{Up}
use Rattle.ecp_messages.specs.declared.up.UpFrame.{UpFrame}
use Rattle.end_words.specs.Windows.{numbered_from}
use Rattle.app_rules.specs.declared.app_in.AppIn.TheVariants as app_in
use Rattle.app_rules.specs.AppState.{Session}
use Rattle.data_rules.specs.declared.data_in.DataIn.TheVariants as data_in
use Rattle.data_rules.specs.declared.rows.Role.TheVariants.{Bound}
use Rattle.data_rules.specs.Conns.{role_of}
use Rattle.data_rules.specs.DataState.{DataState}
use Rattle.cluster_runs.specs.declared.moves.Move.TheVariants.{App, Server as ServerMove}
use Rattle.cluster_runs.specs.CoresState.{CoresState, Linked}
use Rattle.cluster_runs.specs.Connections.{link_of}
use Rattle.cluster_runs.specs.Machine.{Machine, Site, End}
use Rattle.cluster_runs.specs.Mirrors.{Mirrors}
use Rattle.cluster_runs.specs.Moves.{Allowed}
use Rattle.cluster_runs.specs.Sent.{Lane, Place}
use Rattle.cluster_invariant.specs.Dials.{BoundIs, NodeDials, RoleIs}
use Rattle.cluster_invariant.specs.Holds.{Holds}
use Rattle.cluster_invariant.specs.Link.{NodeLink, UpWay, UpWayBy, UpWayOn, WithSession, is_joined_on, is_numbered_down}
use Rattle.cluster_invariant.specs.Words.{IsFront, numbered_behind, numbered_ups}
use Rattle.cluster_invariant.proofs.Small.{of_some}
use Rattle.ends_kept.proofs.NextDown.{HasNumber, NextDown}
use Rattle.link_kept.proofs.FramesFit.{NextIs, frame_next}
use Rattle.frames_taken.specs.Laws.{IsNextOf}
use Rattle.frames_taken.proofs.AtEnd.{At, at_of}

-- downwards

has_number : (w : Down) → is_numbered_down w ≡ true → HasNumber w
has_number (Welcome session epoch kept front taken) is = absurd (false≢true is)
has_number (Reset session at) is = absurd (false≢true is)
has_number (Block front block) is = tt
has_number (Drop front lo hi) is = tt
has_number (Ack front) is = tt
has_number (Grant front ticket at) is = tt
has_number (Answer front about job number at sum) is = tt
has_number (Normal front) is = tt
has_number Bare is = absurd (false≢true is)

pub downs_come : (l : Layout) (c : CoresState) (m : Machine) (app now d : ℕ) (frame : DownFrame)
    → Holds l m → Mirrors c m → Allowed c (App app now (app_in.Frame d frame)) → is_numbered_down frame.message ≡ true
    → WithSession ((m.site_at d).end_at app).state.session ((m.site_at d).end_at app).told (λ s k.
    IsNextOf ((m.site_at d).lane_at s.number k).down ((m.site_at d).lane_at s.number k).down_taken frame.seq frame.message)
downs_come l c m app now d frame h shows allowed numbered = go (at_of l c m app now d frame h shows allowed (has_number frame.message numbered))
  where
    e : End
    e = (m.site_at d).end_at app

    next : {lane : Lane} → NextDown lane frame → IsNextOf lane.down lane.down_taken frame.seq frame.message
    next n = record { behind = n.rest; its = n.its; number = n.seq }

    go : At l c m app now d frame h shows allowed → WithSession e.state.session e.told (λ s k.
        IsNextOf ((m.site_at d).lane_at s.number k).down ((m.site_at d).lane_at s.number k).down_taken frame.seq frame.message)
    go a =
        subst (λ (o : Option Session). WithSession o e.told (λ s k. IsNextOf ((m.site_at d).lane_at s.number k).down ((m.site_at d).lane_at s.number k).down_taken frame.seq frame.message))
        (sym a.its)
        (subst (λ (p : Option Place). WithSession (Some a.session) p (λ s k.
        IsNextOf ((m.site_at d).lane_at s.number k).down ((m.site_at d).lane_at s.number k).down_taken frame.seq frame.message)) (sym a.told) (next a.next))

-- upwards

first_of_lane : (n k : ℕ) (m : Up) (xs : List (ℕ × Up)) (ups : List Up) → IsFront ((k, m) ∷ xs) (numbered_from n (drop n ups)) → IsNextOf ups n k m
first_of_lane n k m xs ups front = go (drop n ups) refl front
  where
    go : (ys : List Up) → drop n ups ≡ ys → IsFront ((k, m) ∷ xs) (numbered_from n ys) → IsNextOf ups n k m
    go [] none at = absurd (empty at.1)
      where
        empty : ◌≡◌ {A = List (ℕ × Up)} [] ((k, m) ∷ xs ++ at.0) → ⊥
        empty is = absurd cc
    go (y ∷ ys) some at = record {
      behind = ys;
      its = some ∙ ap (λ (zs : List (ℕ × Up)). (first zs).1 ∷ ys) at.1;
      number = sym (ap (λ (zs : List (ℕ × Up)). (first zs).0) at.1);
    }
      where
        first : List (ℕ × Up) → ℕ × Up
        first [] = (k, m)
        first (z ∷ zs) = z

up_next : (lane : Lane) (f : UpFrame) (rest : List UpFrame) (whole : Bool) → f.seq ≢ 0 → UpWay lane (f ∷ rest) whole → IsNextOf lane.up lane.up_taken f.seq f.message
up_next lane f rest whole some way =
    first_of_lane lane.up_taken f.seq f.message (numbered_ups rest) lane.up
    (subst (λ (b : Bool). IsFront (if b then numbered_ups rest else (f.seq, f.message) ∷ numbered_ups rest) (numbered_behind lane.up_taken lane.up)) (ne_eqb f.seq 0 some) way.next)

pub ups_come : (l : Layout) (c : CoresState) (m : Machine) (server now conn session : ℕ) (frame : UpFrame) (n : DataState)
    → Holds l m → Mirrors c m → Allowed c (ServerMove server now (data_in.Frame conn frame)) → (m.site_at server).node ≡ Some n
    → role_of n conn ≡ Some (Bound session) → frame.seq ≢ 0
    → IsNextOf ((m.site_at server).lane_at session (m.site_at server).past).up ((m.site_at server).lane_at session (m.site_at server).past).up_taken frame.seq frame.message
ups_come l c m server now conn session frame n h shows allowed runs role some = go (of_some (RoleIs x n conn) (role_of n conn) (Bound session) role (dials.roles conn))
  where
    x : Site
    x = m.site_at server

    v : Server
    v = (state_after l m.trail).server_at server

    dials : NodeDials x n
    dials = of_some (NodeDials x) x.node n runs (h.sites server).dials.node

    link : NodeLink v x m.is_dead_at n
    link = of_some (NodeLink v x m.is_dead_at) x.node n runs (h.sites server).link.node

    by : (k : Linked) → link_of x conn ≡ Some k → NextIs x k frame → IsNextOf (x.lane_at session x.past).up (x.lane_at session x.past).up_taken frame.seq frame.message
    by k linked next =
        up_next (x.lane_at session x.past) frame next.rest (is_joined_on (m.is_dead_at k.app) (x.end_at k.app).state k.dial session) some
        (subst (λ (fs : List UpFrame). UpWay (x.lane_at session x.past) fs (is_joined_on (m.is_dead_at k.app) (x.end_at k.app).state k.dial session)) next.left
        (of_some (UpWayOn (x.lane_at session x.past) (m.is_dead_at k.app) (x.end_at k.app).state k.dial session) ((x.end_at k.app).connection_at k.dial) next.on next.there
        (of_some (UpWayBy x m.is_dead_at session) (link_of x conn) k linked (link.ups session conn role))))

    go : BoundIs x n conn session → IsNextOf (x.lane_at session x.past).up (x.lane_at session x.past).up_taken frame.seq frame.message
    go b =
        by (record { app = b.app; dial = b.linked.dial }) b.linked.link
        (frame_next c m server now conn frame (record { app = b.app; dial = b.linked.dial }) shows allowed b.linked.link)
