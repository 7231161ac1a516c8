-- An application server's end that is told nothing new: its connection goes on, and its site with it.
use Rattle.std.proofs.Common.{◌≡◌, ◌≢◌, ◌≤◌, ℕ, Bool, true, false, not, ◌&&◌, List, Option, Some, None, is_some, option_map, if◌then◌else◌, refl, sym, ◌∙◌, ap, subst, arith, ◌==◌}
use Rattle.std.specs.Prelude.{⊤, IfSome}
use Rattle.std.proofs.lemmas.Bool.{eqb-true, eq-eqb, ne_eqb, false≢true, and_parts}
use Rattle.plain_runs.specs.Plain.{Server, put}
use Rattle.ecp_messages.specs.declared.down.Down.{Down}
use Rattle.ecp_messages.specs.declared.up.UpFrame.{UpFrame}
use Rattle.app_rules.specs.declared.app_outs.AppOuts.{AppOuts}
use Rattle.app_rules.specs.AppState.{AppEnd, Session}
use Rattle.app_rules.specs.Looks.{Shown}
use Rattle.cluster_runs.specs.Sent.{Connection, Lane, Place, Welcomed}
use Rattle.cluster_runs.specs.Machine.{Site, End}
use Rattle.cluster_runs.specs.Connections.{knows, at_number, ups_to}
use Rattle.cluster_runs.specs.Lanes.{with_app_step, is_told_new, sent_before}
use Rattle.cluster_runs.specs.Goes.{app_site, at_told, with_state}
use Rattle.cluster_invariant.specs.Dials.{DialsAre, PairDials, KnowsStill, is_made}
use Rattle.cluster_invariant.specs.Words.{NoLess, is_wire, has_wire}
use Rattle.cluster_invariant.proofs.Small.{at_places}
use Rattle.cluster_steps.proofs.AppSites.{SameBeside, site_beside}
use Rattle.dials_kept.proofs.ConnectionsGrow.{StaysKnown, SiteGrows, Grows, GrowTo, no_less_same, pair_later}
use Rattle.dials_kept.proofs.NodesGrow.{EndsGrow, SameNode, site_grows, dials_later}
use Rattle.dials_kept.proofs.ShortDials.{grow_same, pair_same, some_mapped}

-- lanes

-- a lane goes on: it began where it did, and no less was taken
abbrev LaneGoes : Lane → Lane → Type 0
LaneGoes a b = (b.began ≡ a.began) × (a.down_taken ≤ b.down_taken)

lane_goes : (o : Option Session) (m : Option Down) (number n : ℕ) (frames : List UpFrame) (z : Lane) → IfSome o (λ t. z.down_taken ≤ t.window.taken)
    → LaneGoes z (with_app_step false m number n o frames z)
lane_goes None m number n frames z low = (refl, omega arith)
lane_goes (Some t) m number n frames z low = (refl, low)

-- the end took no less in the order that it is told of
abbrev pub TookMore : Site → Option Session → Option Place → Type 0
TookMore x o None = ⊤
TookMore x o (Some p) = IfSome o (λ t. (x.lane_at p.session p.order).down_taken ≤ t.window.taken)

lanes_go : (x z : Site) → z.lane_at ≡ x.lane_at → (p : Option Place) (o : Option Session) (m : Option Down) (number n : ℕ) (frames : List UpFrame) → TookMore x o p → (s k : ℕ)
    → LaneGoes (x.lane_at s k) ((at_told p (with_app_step false m number n o frames) z).lane_at s k)
lanes_go x z same None o m number n frames more s k =
    subst (λ (f : ℕ → ℕ → Lane). LaneGoes (x.lane_at s k) (f s k)) (sym same) (refl, omega arith)
lanes_go x z same (Some p) o m number n frames more s k =
    subst (λ (f : ℕ → ℕ → Lane). LaneGoes (x.lane_at s k) (if s == p.session && k == p.order then with_app_step false m number n o frames (f s k) else f s k))
    (sym same) (go (s == p.session && k == p.order) refl)
  where
    go : (b : Bool) → (s == p.session && k == p.order) ≡ b → LaneGoes (x.lane_at s k) (if b then with_app_step false m number n o frames (x.lane_at s k) else x.lane_at s k)
    go true is =
        let parts : ((s == p.session) ≡ true) × ((k == p.order) ≡ true) = and_parts (s == p.session) (k == p.order) is in
        lane_goes o m number n frames (x.lane_at s k)
        (subst (λ (i : ℕ). IfSome o (λ t. (x.lane_at i k).down_taken ≤ t.window.taken)) (sym (eqb-true s p.session parts.0))
        (subst (λ (j : ℕ). IfSome o (λ t. (x.lane_at p.session j).down_taken ≤ t.window.taken)) (sym (eqb-true k p.order parts.1)) more))
    go false is = (refl, omega arith)

-- A site after a step of an application server that told its end nothing has its node and its lanes as they began.
pub quiet_site : (app d : ℕ) (outs : AppOuts) (old new : AppEnd) (m : Option Down) (f : End) (x : Site) → is_told_new old.session new.session ≡ false
    → TookMore x new.session f.told → SameNode x (app_site app d outs old new m f x)
quiet_site app d outs old new m f x nothing more = record {
  node = beside.node;
  past = beside.past;
  connections = beside.connections;
  began = λ s k. (lanes s k).0;
  taken = λ s k. (lanes s k).1;
}
  where
    beside : SameBeside x (app_site app d outs old new m f x)
    beside = site_beside app d outs old new m f x

    lanes : (s k : ℕ) → LaneGoes (x.lane_at s k) ((app_site app d outs old new m f x).lane_at s k)
    lanes s k =
        subst
        (λ (t : Bool).
        LaneGoes (x.lane_at s k)
        ((at_told f.told (with_app_step t m old.dial (sent_before old.session) new.session (ups_to d outs.frames)) (record x { end_at = put x.end_at app f })).lane_at s k))
        (sym nothing)
        (lanes_go x (record x { end_at = put x.end_at app f }) refl f.told new.session m old.dial (sent_before old.session) (ups_to d outs.frames) more s k)

-- one end

-- A site of which one end is changed.
pub dials_with_end : (v w : Server) (x y : Site) (dead : ℕ → Bool) (app : ℕ) (f : End) → y.end_at ≡ put x.end_at app f → SameNode x y → StaysKnown v w
    → ((number : ℕ) → GrowTo x w y app number (x.end_at app) ((x.end_at app).connection_at number) (f.connection_at number))
    → NoLess (knows (x.end_at app)) (knows f) → PairDials w y (dead app) app f → DialsAre v x dead → DialsAre w y dead
dials_with_end v w x y dead app f its same later grow more pair is = dials_later v w x y dead dead later same ends knew pairs is
  where
    ends : EndsGrow x w y
    ends a number =
        subst (λ (g : ℕ → End). GrowTo x w y a number (x.end_at a) ((x.end_at a).connection_at number) ((g a).connection_at number)) (sym its)
        (at_places (λ (b : ℕ) (z : End). GrowTo x w y b number (x.end_at b) ((x.end_at b).connection_at number) (z.connection_at number)) x.end_at app f (grow number)
        (λ b other. grow_same x y w b number (x.end_at b) same.connections ((x.end_at b).connection_at number)) a)

    knew : (a : ℕ) → NoLess (knows (x.end_at a)) (knows (y.end_at a))
    knew a =
        subst (λ (g : ℕ → End). NoLess (knows (x.end_at a)) (knows (g a))) (sym its)
        (at_places (λ (b : ℕ) (z : End). NoLess (knows (x.end_at b)) (knows z)) x.end_at app f more (λ b other. no_less_same (knows (x.end_at b))) a)

    pairs : (a : ℕ) → PairDials w y (dead a) a (y.end_at a)
    pairs a =
        subst (λ (g : ℕ → End). PairDials w y (dead a) a (g a)) (sym its)
        (at_places (λ (b : ℕ) (z : End). PairDials w y (dead b) b z) x.end_at app f pair
        (λ b other. pair_same v w x y later same (dead b) b (x.end_at b) (is.pairs b)) a)

-- a connection that the end hasn't is not the one that it has
pub no_wire : (dead : Bool) (e : AppEnd) (number : ℕ) → number ≢ e.dial → is_wire dead e number ≡ false
no_wire true e number other = refl
no_wire false e number other = go (has_wire e.line)
  where
    go : (b : Bool) → (if b then number == e.dial else false) ≡ false
    go true = ne_eqb number e.dial other
    go false = refl

-- an end of which the last connection is changed
abbrev pub changed : (Connection → Connection) → AppEnd → Shown → End → End
changed g new shown e = at_number new.dial g (with_state new shown e)

-- What a change of the last connection needs.
pub record Changes (x y : Site) (dead : Bool) (g : Connection → Connection) (new : AppEnd) (e : End) (c : Connection) : Type 0 where
  pub grows : Grows x y c (g c)
  pub left : (g c).app_left ≡ not (is_wire dead new new.dial)

pub grow_changed : (x y : Site) (w : Server) (app number : ℕ) (dead : Bool) (e : End) (new : AppEnd) (shown : Shown) (g : Connection → Connection)
    → y.connection_at ≡ x.connection_at → IfSome (e.connection_at new.dial) (Changes x y dead g new e)
    → GrowTo x w y app number e (e.connection_at number) ((changed g new shown e).connection_at number)
grow_changed x y w app number dead e new shown g same each = go (number == new.dial) refl
  where
    by : (o : Option Connection) → IfSome o (Changes x y dead g new e) → GrowTo x w y app number e o (option_map g o)
    by None is = tt
    by (Some c) is = is.grows

    go : (b : Bool) → (number == new.dial) ≡ b → GrowTo x w y app number e (e.connection_at number) (if b then option_map g (e.connection_at number) else e.connection_at number)
    go true is =
        by (e.connection_at number)
        (subst (λ (n : ℕ). IfSome (e.connection_at n) (Changes x y dead g new e)) (sym (eqb-true number new.dial is)) each)
    go false is = grow_same x y w app number e same (e.connection_at number)

-- and that is told of this
abbrev pub told_of : Option Place → List Welcomed → End → End
told_of p ws e = record e { told = p; welcomes = ws }

-- A pair of which the last connection is changed, and that is told of this.
pub pair_told : (v w : Server) (x y : Site) (app : ℕ) (dead : Bool) (e : End) (new : AppEnd) (shown : Shown) (g : Connection → Connection) (p : Option Place)
    (ws : List Welcomed) → StaysKnown v w → SiteGrows x y → y.connection_at ≡ x.connection_at → new.dial ≡ e.state.dial
    → NoLess (knows e) (knows (told_of p ws (with_state new shown e))) → IfSome (e.connection_at new.dial) (Changes x y dead g new e)
    → KnowsStill new.line (knows (told_of p ws (with_state new shown e))) (option_map g (e.connection_at new.dial)) → PairDials v x dead app e
    → PairDials w y dead app (told_of p ws (changed g new shown e))
pair_told v w x y app dead e new shown g p ws later grows same dial more each still is =
    pair_later v w x y later grows dead dead app e f more (λ number. grow_changed x y w app number dead e new shown g same each)
    (λ number. made (number == new.dial) number ∙ is.made number ∙ ap (λ (n : ℕ). is_made n number) (sym dial)) (λ number. left number (number == new.dial) refl)
    (subst (λ (b : Bool). KnowsStill new.line (knows f) (if b then option_map g (e.connection_at new.dial) else e.connection_at new.dial))
    (sym (eq-eqb new.dial new.dial refl)) still) is
  where
    f : End
    f = told_of p ws (changed g new shown e)

    made : (b : Bool) (number : ℕ) → is_some (if b then option_map g (e.connection_at number) else e.connection_at number) ≡ is_some (e.connection_at number)
    made true number = some_mapped g (e.connection_at number)
    made false number = refl

    wire_other : (number : ℕ) → (number == new.dial) ≡ false → is_wire dead e.state number ≡ is_wire dead new number
    wire_other number other = no_wire dead e.state number (λ same. apart (same ∙ sym dial)) ∙ sym (no_wire dead new number apart)
      where
        apart : number ≢ new.dial
        apart same = false≢true (sym other ∙ eq-eqb number new.dial same)

    by : (o : Option Connection) → IfSome o (Changes x y dead g new e) → IfSome (option_map g o) (λ c. c.app_left ≡ not (is_wire dead new new.dial))
    by None at = tt
    by (Some c) at = at.left

    left : (number : ℕ) (b : Bool) → (number == new.dial) ≡ b
        → IfSome (if b then option_map g (e.connection_at number) else e.connection_at number) (λ c. c.app_left ≡ not (is_wire dead new number))
    left number true at =
        subst (λ (n : ℕ). IfSome (option_map g (e.connection_at n)) (λ c. c.app_left ≡ not (is_wire dead new n))) (sym (eqb-true number new.dial at))
        (by (e.connection_at new.dial) each)
    left number false at =
        subst (λ (t : Bool). IfSome (e.connection_at number) (λ c. c.app_left ≡ not t)) (wire_other number at) (is.left number)

-- A pair of which the last connection is changed.
pub pair_changed : (v w : Server) (x y : Site) (app : ℕ) (dead : Bool) (e : End) (new : AppEnd) (shown : Shown) (g : Connection → Connection) → StaysKnown v w → SameNode x y
    → new.dial ≡ e.state.dial → NoLess (knows e) (knows (with_state new shown e)) → IfSome (e.connection_at new.dial) (Changes x y dead g new e)
    → KnowsStill new.line (knows (with_state new shown e)) (option_map g (e.connection_at new.dial)) → PairDials v x dead app e
    → PairDials w y dead app (changed g new shown e)
pair_changed v w x y app dead e new shown g later same dial more each still is =
    pair_told v w x y app dead e new shown g e.told e.welcomes later (site_grows x y same) same.connections dial more each still is
