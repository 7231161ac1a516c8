-- What is on its way at one data server over a step of one application server: all but what concerns its own end.
use Rattle.std.proofs.Common.{◌≡◌, ◌≢◌, ◌≤◌, inr, ℕ, Bool, true, false, ◌&&◌, ◌==◌, Option, Some, None, is_some, refl, sym, ◌∙◌, ap, subst}
use Rattle.std.specs.Prelude.{IfSome, IsSomeAnd}
use Rattle.std.proofs.lemmas.Bool.{and_parts, eqb-true, eq-eqb, false≢true}
use Rattle.plain_runs.specs.Plain.{Server, Session as PlainSession, current, put}
use Rattle.app_rules.specs.declared.line.Line.{Line}
use Rattle.app_rules.specs.declared.line.Line.TheVariants.{Apart, Trying, Greeting, Asking, Joined}
use Rattle.app_rules.specs.AppState.{AppEnd, Session}
use Rattle.app_rules.specs.Works.{is_joined}
use Rattle.data_rules.specs.DataState.{DataState}
use Rattle.data_rules.specs.declared.rows.Role.TheVariants.{Bound}
use Rattle.data_rules.specs.Conns.{role_of}
use Rattle.cluster_runs.specs.CoresState.{Linked}
use Rattle.cluster_runs.specs.Sent.{Lane, Place, Connection}
use Rattle.cluster_runs.specs.Machine.{Site, End}
use Rattle.cluster_runs.specs.Connections.{link_of}
use Rattle.cluster_invariant.specs.Dials.{BoundIs, BoundTo, CarriesNoOther, ConnectionIs, DialsAre, IsLinkedBy, NodeDials, RoleIs}
use Rattle.cluster_invariant.specs.Ends.{EndsAre, ToldPlace}
use Rattle.cluster_invariant.specs.Link.{AppWay, GreetsBy, GreetsOn, LaneCounts, LinkHolds, NodeLink, Unmet, UpWay, UpWayBy, UpWayOn, is_joined_on}
use Rattle.cluster_invariant.specs.Words.{is_number, is_wire, ups_left}
use Rattle.cluster_invariant.proofs.Small.{at_places, of_some, put_other, put_same, some_kept}
use Rattle.cluster_steps.proofs.AppSites.{SameBeside}
use Rattle.link_kept.proofs.Later.{EnteredStays, Later}
use Rattle.link_kept.proofs.AppLater.{unmet_later}
use Rattle.link_kept.proofs.ShortMoves.{firsts_there, told_there}
use Rattle.link_apps.proofs.NodeApps.{LanePut, DownsStay, NoNew, node_kept_by_app}
use Rattle.link_apps.proofs.EndsApps.{other_way}
use Rattle.link_apps.proofs.PutsUp.{way_put}
use Rattle.link_apps.proofs.Relane.{with_lanes_at, way_relaned}

-- it isn't the lane of the session that an end has, in the order that it is told of
abbrev pub IsElsewhere : End → ℕ → ℕ → Type 0
IsElsewhere e s k = IfSome e.state.session (λ u. IfSome e.told (λ p. (s ≡ u.number) → (k ≡ p.order) → ⊥))

-- A step of an application server that tells its end nothing new changes its end alone, with the lane of its session.
pub record EndStep (x y : Site) (app : ℕ) (f : End) : Type 0 where
  pub beside : SameBeside x y
  pub ends : y.end_at ≡ put x.end_at app f
  pub lanes : (s k : ℕ) → LanePut (x.lane_at s k) (y.lane_at s k)
  pub elsewhere : (s k : ℕ) → IsElsewhere (x.end_at app) s k → y.lane_at s k ≡ x.lane_at s k
  pub stay : (number : ℕ) → DownsStay ((x.end_at app).connection_at number) (f.connection_at number)

-- What is owed of its own end: each connection that was there, and what is on its way to it.
pub record OwnKept (v w : Server) (x y : Site) (dead : ℕ → Bool) (app : ℕ) (f : End) : Type 0 where
  pub counts : (s k : ℕ) → LaneCounts (y.lane_at s k)
  pub ups : (s number : ℕ) (c : Connection) → (x.end_at app).connection_at number ≡ Some c → CarriesNoOther s x.past c
      → UpWayOn (x.lane_at s x.past) (dead app) (x.end_at app).state number s c → IfSome (f.connection_at number) (UpWayOn (y.lane_at s x.past) (dead app) f.state number s)
  pub greets : (s number : ℕ) (c : Connection) → (x.end_at app).connection_at number ≡ Some c → GreetsOn v x s app (x.end_at app) number (x.end_at app).state.line
      → GreetsOn w y s app f number f.state.line
  pub way : AppWay w y app f

-- two ends that have the same session are one
pub one_app : (o : Option PlainSession) (a b j k : ℕ) → IsSomeAnd o (λ t. (t.app ≡ a) × (t.told ≡ j)) → IsSomeAnd o (λ t. (t.app ≡ b) × (t.told ≡ k)) → a ≡ b
one_app None a b j k x y = absurd x
one_app (Some t) a b j k x y = sym x.0 ∙ y.0

-- a connection of a node's live session carries no other session
pub carries_own : (x : Site) (n : DataState) → NodeDials x n → (s conn : ℕ) (l : Linked) → role_of n conn ≡ Some (Bound s) → link_of x conn ≡ Some l
    → IfSome ((x.end_at l.app).connection_at l.dial) (CarriesNoOther s x.past)
carries_own x n d s conn l role its = go (of_some (RoleIs x n conn) (role_of n conn) (Bound s) role (d.roles conn))
  where
    by : (o : Option Connection) → IsSomeAnd o (BoundTo x n.order s) → IfSome o (CarriesNoOther s x.past)
    by None at = tt
    by (Some c) at = at.carries

    same_link : (a b : Linked) → ◌≡◌ {A = Option Linked} (Some a) (Some b) → a ≡ b
    same_link a b is = cc

    go : BoundIs x n conn s → IfSome ((x.end_at l.app).connection_at l.dial) (CarriesNoOther s x.past)
    go b =
        subst (λ (k : Linked). IfSome ((x.end_at k.app).connection_at k.dial) (CarriesNoOther s x.past))
        (same_link (record { app = b.app; dial = b.linked.dial }) l (sym b.linked.link ∙ its)) (by ((x.end_at b.app).connection_at b.linked.dial) b.linked.its)

-- it is there
pub linked_there : (v : Server) (x : Site) (dead : ℕ → Bool) → DialsAre v x dead → (conn : ℕ) (l : Linked) → link_of x conn ≡ Some l → (c : Connection) × ((x.end_at l.app).connection_at l.dial ≡ Some c)
linked_there v x dead dials conn l its = go ((x.end_at l.app).connection_at l.dial) refl (of_some (IsLinkedBy x conn) (link_of x conn) l its (dials.links conn))
  where
    go : (o : Option Connection) → (x.end_at l.app).connection_at l.dial ≡ o → IsSomeAnd o (λ c. IsSomeAnd c.first (λ z. z.conn ≡ conn))
        → (c : Connection) × ((x.end_at l.app).connection_at l.dial ≡ Some c)
    go None none is = absurd is
    go (Some c) some is = (c, some)

module _ (v w : Server) (x y : Site) (dead : ℕ → Bool) (app : ℕ) (f : End) (alive : dead app ≡ false) (later : Later x v w)
    (still : (a : ℕ) → a ≢ app → EnteredStays a v w) (now : current w ≡ current v) (past : x.past ≡ current v) (link : LinkHolds v x dead)
    (are : EndsAre v x dead) (dials : DialsAre v x dead) (step : EndStep x y app f) where
  abbrev e : End
  e = x.end_at app

  -- another end's session isn't this one's
  other_lane : (a : ℕ) → a ≢ app → dead a ≡ false → (q : Session) → (x.end_at a).state.session ≡ Some q → (k : ℕ) → y.lane_at q.number k ≡ x.lane_at q.number k
  other_lane a other lives q its k = step.elsewhere q.number k (go e.state.session e.told (are.told app alive).place)
    where
      theirs : ToldPlace v a q (x.end_at a).told
      theirs = of_some (λ (z : Session). ToldPlace v a z (x.end_at a).told) (x.end_at a).state.session q its (are.told a lives).place

      go : (o : Option Session) (p : Option Place) → IfSome o (λ s. ToldPlace v app s p) → IfSome o (λ u. IfSome p (λ z. (q.number ≡ u.number) → (k ≡ z.order) → ⊥))
      go None p place = tt
      go (Some u) None place = tt
      go (Some u) (Some z) place = λ same at.
          other (one_app (v.session_at q.number) a app theirs.order place.order theirs.met
          (subst (λ (n : ℕ). IsSomeAnd (v.session_at n) (λ s. (s.app ≡ app) × (s.told ≡ place.order))) (sym same) place.met))

  -- a lane that no end learnt of is as it was
  unlearnt_lane : (s k : ℕ) → (x.lane_at s k).began ≡ None → y.lane_at s k ≡ x.lane_at s k
  unlearnt_lane s k none = step.elsewhere s k (go e.state.session e.told (link.apps app alive).begun)
    where
      go : (o : Option Session) (p : Option Place) → IfSome o (λ u. IfSome p (λ z. is_some (x.lane_at u.number z.order).began ≡ true))
          → IfSome o (λ u. IfSome p (λ z. (s ≡ u.number) → (k ≡ z.order) → ⊥))
      go None p begun = tt
      go (Some u) None begun = tt
      go (Some u) (Some z) begun = λ same at.
          absurd (false≢true (sym (ap is_some none) ∙ ap (λ (n : ℕ). is_some (x.lane_at n k).began) same ∙ ap (λ (n : ℕ). is_some (x.lane_at u.number n).began) at ∙ begun))

  -- upwards

  here_end : y.end_at app ≡ f
  here_end = ap (λ (g : ℕ → End). g app) step.ends ∙ put_same x.end_at app f

  there_end : (a : ℕ) → a ≢ app → y.end_at a ≡ x.end_at a
  there_end a other = ap (λ (g : ℕ → End). g a) step.ends ∙ put_other x.end_at app f a other

  -- another end
  other_ups : (s : ℕ) (l : Linked) → l.app ≢ app → UpWayBy x dead s l → UpWayBy y dead s l
  other_ups s l other is =
      subst (λ (z : End). IfSome (z.connection_at l.dial) (UpWayOn (y.lane_at s y.past) (dead l.app) z.state l.dial s)) (sym (there_end l.app other))
      (subst (λ (k : ℕ). IfSome ((x.end_at l.app).connection_at l.dial) (UpWayOn (y.lane_at s k) (dead l.app) (x.end_at l.app).state l.dial s)) (sym step.beside.past)
      (some_kept (UpWayOn (x.lane_at s x.past) (dead l.app) (x.end_at l.app).state l.dial s) (UpWayOn (y.lane_at s x.past) (dead l.app) (x.end_at l.app).state l.dial s)
      (λ c at. by c (is_joined_on (dead l.app) (x.end_at l.app).state l.dial s) refl at) ((x.end_at l.app).connection_at l.dial) is))
    where
      a : AppEnd
      a = (x.end_at l.app).state

      by : (c : Connection) (b : Bool) → is_joined_on (dead l.app) a l.dial s ≡ b → UpWay (x.lane_at s x.past) (ups_left c) (is_joined_on (dead l.app) a l.dial s)
          → UpWay (y.lane_at s x.past) (ups_left c) (is_joined_on (dead l.app) a l.dial s)
      by c false unjoined at =
          subst (λ (b : Bool). UpWay (y.lane_at s x.past) (ups_left c) b) (sym unjoined)
          (way_put (x.lane_at s x.past) (y.lane_at s x.past) (ups_left c) (is_joined_on (dead l.app) a l.dial s) (link.lanes s x.past) (step.lanes s x.past) at)
      by c true joined at =
          subst (λ (z : Lane). UpWay z (ups_left c) (is_joined_on (dead l.app) a l.dial s)) (sym (go (dead l.app) refl a.session refl parts.1)) at
        where
          parts : (is_wire (dead l.app) a l.dial && is_joined a.line ≡ true) × (is_number s a.session ≡ true)
          parts = and_parts (is_wire (dead l.app) a l.dial && is_joined a.line) (is_number s a.session) joined

          wired : is_wire (dead l.app) a l.dial ≡ true
          wired = (and_parts (is_wire (dead l.app) a l.dial) (is_joined a.line) parts.0).0

          go : (b : Bool) → dead l.app ≡ b → (o : Option Session) → a.session ≡ o → is_number s o ≡ true → y.lane_at s x.past ≡ x.lane_at s x.past
          go true gone o its number = absurd (false≢true (sym (ap (λ (z : Bool). is_wire z a l.dial) gone) ∙ wired))
          go false lives None its number = absurd (false≢true number)
          go false lives (Some q) its number =
              subst (λ (n : ℕ). y.lane_at n x.past ≡ x.lane_at n x.past) (eqb-true q.number s number) (other_lane l.app other lives q its x.past)

  ups_kept : OwnKept v w x y dead app f → (n : DataState) → NodeDials x n → (s conn : ℕ) (l : Linked) → role_of n conn ≡ Some (Bound s) → link_of x conn ≡ Some l
      → UpWayBy x dead s l → UpWayBy y dead s l
  ups_kept own n d s conn l role its is = go (l.app == app) refl
    where
      here : (c : Connection) → e.connection_at l.dial ≡ Some c → UpWayBy x dead s (record { app = app; dial = l.dial })
          → IfSome (e.connection_at l.dial) (CarriesNoOther s x.past) → UpWayBy y dead s (record { app = app; dial = l.dial })
      here c there way carries =
          subst (λ (z : End). IfSome (z.connection_at l.dial) (UpWayOn (y.lane_at s y.past) (dead app) z.state l.dial s)) (sym here_end)
          (subst (λ (k : ℕ). IfSome (f.connection_at l.dial) (UpWayOn (y.lane_at s k) (dead app) f.state l.dial s)) (sym step.beside.past)
          (own.ups s l.dial c there (of_some (CarriesNoOther s x.past) (e.connection_at l.dial) c there carries)
          (of_some (UpWayOn (x.lane_at s x.past) (dead app) e.state l.dial s) (e.connection_at l.dial) c there way)))

      go : (b : Bool) → (l.app == app) ≡ b → UpWayBy y dead s l
      go true same =
          let there : (c : Connection) × ((x.end_at l.app).connection_at l.dial ≡ Some c) = linked_there v x dead dials conn l its in
          subst (λ (a : ℕ). UpWayBy y dead s (record { app = a; dial = l.dial })) (sym (eqb-true l.app app same))
          (here there.0 (subst (λ (a : ℕ). (x.end_at a).connection_at l.dial ≡ Some there.0) (eqb-true l.app app same) there.1)
          (subst (λ (a : ℕ). UpWayBy x dead s (record { app = a; dial = l.dial })) (eqb-true l.app app same) is)
          (subst (λ (a : ℕ). IfSome ((x.end_at a).connection_at l.dial) (CarriesNoOther s x.past)) (eqb-true l.app app same) (carries_own x n d s conn l role its)))
      go false other = other_ups s l (λ same. false≢true (sym other ∙ eq-eqb l.app app same)) is

  -- ends that greet

  unmet_kept : (a told s : ℕ) → EnteredStays a v w → Unmet v x a told s x.past → Unmet w y a told s y.past
  unmet_kept a told s entered u =
      subst (λ (k : ℕ). Unmet w y a told s k) (sym step.beside.past)
      (unmet_later v w x y later (λ q k. (step.lanes q k).began) a told s x.past entered (inr past) u)

  greets_same : (s a number : ℕ) → EnteredStays a v w → (z : End) (line : Line) → GreetsOn v x s a z number line → GreetsOn w y s a z number line
  greets_same s a number entered z Apart is = tt
  greets_same s a number entered z Trying is = tt
  greets_same s a number entered z Greeting is = λ at. unmet_kept a z.state.told s entered (is at)
  greets_same s a number entered z Asking is = tt
  greets_same s a number entered z Joined is = tt

  greets_kept : OwnKept v w x y dead app f → (s conn : ℕ) (l : Linked) → link_of x conn ≡ Some l → GreetsBy v x dead s l → GreetsBy w y dead s l
  greets_kept own s conn l its is lives = go (l.app == app) refl
    where
      go : (b : Bool) → (l.app == app) ≡ b → GreetsOn w y s l.app (y.end_at l.app) l.dial (y.end_at l.app).state.line
      go true same =
          let there : (c : Connection) × ((x.end_at l.app).connection_at l.dial ≡ Some c) = linked_there v x dead dials conn l its in
          subst (λ (a : ℕ). GreetsOn w y s a (y.end_at a) l.dial (y.end_at a).state.line) (sym (eqb-true l.app app same))
          (subst (λ (z : End). GreetsOn w y s app z l.dial z.state.line) (sym here_end)
          (own.greets s l.dial there.0 (subst (λ (a : ℕ). (x.end_at a).connection_at l.dial ≡ Some there.0) (eqb-true l.app app same) there.1)
          (subst (λ (a : ℕ). GreetsOn v x s a (x.end_at a) l.dial (x.end_at a).state.line) (eqb-true l.app app same) (is lives))))
      go false other =
          let apart : l.app ≢ app = λ same. absurd (false≢true (sym other ∙ eq-eqb l.app app same)) in
          subst (λ (z : End). GreetsOn w y s l.app z l.dial z.state.line) (sym (there_end l.app apart))
          (greets_same s l.app l.dial (still l.app apart) (x.end_at l.app) (x.end_at l.app).state.line (is lives))

  -- ends

  pub firsts : (a number : ℕ) → IfSome ((x.end_at a).connection_at number) (λ c. IfSome c.first (λ z. z.order ≤ current v))
  firsts a number =
      some_kept (ConnectionIs v x a number) (λ (c : Connection). IfSome c.first (λ z. z.order ≤ current v)) (λ c is. firsts_there v x a number c is)
      ((x.end_at a).connection_at number) ((dials.pairs a).each number)

  others_kept : (a : ℕ) → a ≢ app → dead a ≡ false → AppWay w y a (x.end_at a)
  others_kept a other lives =
      way_relaned w y x.lane_at a (λ told s k u. unlearnt_lane s k u.unlearnt) (x.end_at a) (mine (x.end_at a).state.session refl)
      (other_way v w x (with_lanes_at x.lane_at y) later
      (record { node = step.beside.node; order = step.beside.order; past = step.beside.past; connections = step.beside.connections; hellos = step.beside.hellos })
      (λ s k. record { began = refl; up_taken = refl; down = refl; down_taken = refl }) link.lanes a (x.end_at a) (still a other)
      (told_there v a (x.end_at a) (are.told a lives)) (firsts a (x.end_at a).state.dial) (ups (x.end_at a).state.session (x.end_at a).told) (link.apps a lives))
    where
      mine : (o : Option Session) → (x.end_at a).state.session ≡ o → IfSome o (λ s. (k : ℕ) → y.lane_at s.number k ≡ x.lane_at s.number k)
      mine None none = tt
      mine (Some q) its = λ k. other_lane a other lives q its k

      ups : (o : Option Session) (p : Option Place) → IfSome o (λ s. IfSome p (λ z. (x.lane_at s.number z.order).up ≡ (x.lane_at s.number z.order).up))
      ups None p = tt
      ups (Some s) None = tt
      ups (Some s) (Some z) = refl

  -- The part on what is on its way at this data server.
  pub link_kept_by_end : OwnKept v w x y dead app f → LinkHolds w y dead
  link_kept_by_end own = record {
    lanes = own.counts;
    node = subst (λ (o : Option DataState). IfSome o (NodeLink w y dead)) (sym step.beside.node) (each x.node dials.node link.node);
    apps = λ a lives.
        subst (λ (g : ℕ → End). AppWay w y a (g a)) (sym step.ends)
        (at_places (λ (b : ℕ) (z : End). dead b ≡ false → AppWay w y b z) x.end_at app f (λ is. own.way) (λ b other is. others_kept b other is) a lives);
  }
    where
      same : (o : Option Connection) → DownsStay o o
      same None = tt
      same (Some c) = record { downs = refl; its = refl; knew = refl }

      stay : (a number : ℕ) → DownsStay ((x.end_at a).connection_at number) ((y.end_at a).connection_at number)
      stay a number =
          subst (λ (g : ℕ → End). DownsStay ((x.end_at a).connection_at number) ((g a).connection_at number)) (sym step.ends)
          (at_places (λ (b : ℕ) (z : End). DownsStay ((x.end_at b).connection_at number) (z.connection_at number)) x.end_at app f (step.stay number)
          (λ b other. same ((x.end_at b).connection_at number)) a)

      old : (conn : ℕ) → IfSome (link_of x conn) (λ l. NoNew ((x.end_at l.app).connection_at l.dial) ((y.end_at l.app).connection_at l.dial))
      old conn = go (link_of x conn) (dials.links conn)
        where
          there : (o q : Option Connection) → IsSomeAnd o (λ c. IsSomeAnd c.first (λ z. z.conn ≡ conn)) → NoNew o q
          there None q is = absurd is
          there (Some c) q is = tt

          go : (o : Option Linked) → IfSome o (IsLinkedBy x conn) → IfSome o (λ l. NoNew ((x.end_at l.app).connection_at l.dial) ((y.end_at l.app).connection_at l.dial))
          go None is = tt
          go (Some l) is = there ((x.end_at l.app).connection_at l.dial) ((y.end_at l.app).connection_at l.dial) is

      each : (o : Option DataState) → IfSome o (NodeDials x) → IfSome o (NodeLink v x dead) → IfSome o (NodeLink w y dead)
      each None d is = tt
      each (Some n) d is =
          node_kept_by_app v w x y dead n later now step.beside step.lanes stay old (λ s conn l role its way. ups_kept own n d s conn l role its way)
          (λ s conn l role its greets. greets_kept own s conn l its greets) is
