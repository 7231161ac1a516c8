-- The first frame that a data server takes on a connection is the first one of the connection that it names.
use Rattle.std.proofs.Common.{◌≡◌, ℕ, zero, suc, Bool, true, false, not, if◌then◌else◌, List, [], ◌∷◌, drop, Option, Some, None, is_some, option_map, refl, sym, ◌∙◌, ap, subst, arith}
use Rattle.std.specs.Prelude.{IfSome, nat_lt}
use Rattle.std.proofs.lemmas.Bool.{false≢true, lt-ltb}
use Rattle.plain_runs.specs.Plain.{Server}
use Rattle.ecp_messages.specs.declared.up.UpFrame.{UpFrame}
use Rattle.data_rules.specs.declared.data_in.DataIn.TheVariants as data_in
use Rattle.cluster_runs.specs.declared.moves.Move.TheVariants.{Server as ServerMove}
use Rattle.cluster_runs.specs.CoresState.{Accepted, CoresState, Dial, Linked}
use Rattle.cluster_runs.specs.Machine.{DataConnection, Machine, Site}
use Rattle.cluster_runs.specs.Mirrors.{Mirrors, accepted_of}
use Rattle.cluster_runs.specs.Moves.{Allowed, FirstMay, LinkedMay, TakenMay, dial_of as named_of, is_unlinked, named_dial, next_up}
use Rattle.cluster_runs.specs.Sent.{Connection, FirstTaken, Place}
use Rattle.cluster_runs.specs.Connections.{dial_of, link_in, link_of}
use Rattle.cluster_invariant.specs.Dials.{CarriesOf, ConnectionIs, first_frame, is_here}
use Rattle.dials_server.proofs.FrameDials.{on_dial}
use Rattle.dials_server.proofs.TakenFrames.{NextFrame}

-- the connection whose first frame it is
pub record FirstOn (x : Site) (conn : ℕ) (f : UpFrame) : Type 0 where
  pub link : Linked
  pub named : named_dial f.message ≡ Some link
  pub next : NextFrame x link f
  pub new : next.on.linked ≡ false
  pub here : is_here (x.connection_at conn) ≡ true

unlinked_on : (a d k : ℕ) (o : Option Connection) (c : Connection) → o ≡ Some c → is_unlinked (option_map (dial_of a d k) o) ≡ true → c.linked ≡ false
unlinked_on a d k None c there is = absurd (false≢true is)
unlinked_on a d k (Some e) c there is = ap (λ (i : Connection). i.linked) (sym (same e c there)) ∙ by e.linked is
  where
    same : (i j : Connection) → ◌≡◌ {A = Option Connection} (Some i) (Some j) → i ≡ j
    same i j both = cc (both)

    by : (b : Bool) → (if b then false else true) ≡ true → b ≡ false
    by true is = absurd (false≢true is)
    by false is = refl

pub first_on : (c : CoresState) (m : Machine) (server now conn : ℕ) (f : UpFrame) → Mirrors c m → Allowed c (ServerMove server now (data_in.Frame conn f))
    → link_of (m.site_at server) conn ≡ None → FirstOn (m.site_at server) conn f
first_on c m server now conn f shows allowed unlinked =
    taken ((m.site_at server).connection_at conn) refl unlinked (subst (λ (o : Option Accepted). TakenMay o c server f) (shows.accepted server conn) allowed.takes)
  where
    x : Site
    x = m.site_at server

    by : (o : Option Linked) → named_dial f.message ≡ o → is_here (x.connection_at conn) ≡ true → is_unlinked (named_of c server o) ≡ true → next_up (named_of c server o) ≡ Some f
        → FirstOn x conn f
    by None none here new next = absurd (false≢true new)
    by (Some l) names here new next = go (on_dial x server l f ((x.end_at l.app).connection_at l.dial) refl (ap (λ (o : Option Dial). next_up o) (sym (shows.dials l.app server l.dial)) ∙ next))
      where
        go : NextFrame x l f → FirstOn x conn f
        go on = record {
          link = l;
          named = names;
          next = on;
          new =
              unlinked_on l.app server l.dial ((x.end_at l.app).connection_at l.dial) on.on on.there
              (ap (λ (o : Option Dial). is_unlinked o) (sym (shows.dials l.app server l.dial)) ∙ new);
          here = here;
        }

    taken : (o : Option DataConnection) → x.connection_at conn ≡ o → link_in o ≡ None → TakenMay (option_map (accepted_of server conn) o) c server f → FirstOn x conn f
    taken None it none may = absurd may
    taken (Some d) it none may = first (subst (λ (o : Option Linked). LinkedMay o c server f) none may.1)
      where
        first : FirstMay c server f → FirstOn x conn f
        first at = by (named_dial f.message) refl (ap is_here it ∙ ap not may.0) at.unlinked at.first

-- It says what was known as that connection was made, and none follows it yet.
pub record FirstSays (v : Server) (x : Site) (l : Linked) (f : UpFrame) (on : Connection) (behind : List UpFrame) : Type 0 where
  pub frame : f ≡ first_frame v l.app l.dial on.knew
  pub alone : behind ≡ []
  pub untaken : on.first ≡ None
  pub its : on.its ≡ None

pub first_says : (v : Server) (x : Site) (l : Linked) (f : UpFrame) (next : NextFrame x l f) → next.on.linked ≡ false → ConnectionIs v x l.app l.dial next.on
    → FirstSays v x l f next.on next.behind
first_says v x l f next new is = record {
  frame = sym (parts.0);
  alone = sym (parts.1) ∙ is.alone none;
  untaken = first_none next.on.first (is.taken ∙ new);
  its = its_none;
}
  where
    zero_of : (k : ℕ) → nat_lt 0 k ≡ false → k ≡ 0
    zero_of zero is = refl
    zero_of (suc k) is = absurd (false≢true (sym is ∙ lt-ltb 0 (suc k) (omega arith)))

    none : next.on.ups_taken ≡ 0
    none = zero_of next.on.ups_taken (sym is.linked ∙ new)

    parts_of : (g : UpFrame) (gs : List UpFrame) → ◌≡◌ {A = List UpFrame} (g ∷ gs) (f ∷ next.behind) → (g ≡ f) × (gs ≡ next.behind)
    parts_of g gs same = (cc (same), cc (same))

    parts : (first_frame v l.app l.dial next.on.knew ≡ f) × (drop 1 next.on.ups ≡ next.behind)
    parts =
        parts_of (first_frame v l.app l.dial next.on.knew) (drop 1 next.on.ups)
        (sym is.first ∙ sym (ap (λ (k : ℕ). drop k next.on.ups) none) ∙ next.left)

    first_none : (o : Option FirstTaken) → is_some o ≡ false → o ≡ None
    first_none None off = refl
    first_none (Some t) off = absurd (false≢true (sym off))

    its_none : next.on.its ≡ None
    its_none = go next.on.its (subst (λ (o : Option FirstTaken). IfSome next.on.its (CarriesOf v l.app o)) (first_none next.on.first (is.taken ∙ new)) is.its)
      where
        go : (o : Option Place) → IfSome o (CarriesOf v l.app None) → o ≡ None
        go None at = refl
        go (Some p) at = absurd at.order
