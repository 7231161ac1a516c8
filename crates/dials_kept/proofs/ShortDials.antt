-- The part on connections, for the moves that put and take nothing: a tick, a look, and an application server or a node that goes.
use Rattle.std.proofs.Common.{◌≡◌, ℕ, Bool, true, false, not, List, [], drop, Option, Some, None, is_some, option_map, if◌then◌else◌, refl, sym, ◌∙◌, ap, arith, ◌==◌}
use Rattle.std.specs.Prelude.{IfSome}
use Rattle.std.proofs.lemmas.Bool.{false≢true}
use Rattle.std.proofs.lemmas.List.{append-nil}
use Rattle.plain_orders.specs.declared.act.Act.{Act}
use Rattle.plain_orders.specs.declared.layout.Layout.{Layout}
use Rattle.plain_runs.specs.Plain.{Plain, Server, Known}
use Rattle.plain_runs.specs.Run.{state_after}
use Rattle.app_job.specs.Sites.{Site as Target}
use Rattle.app_rules.specs.declared.line.Line.{Line}
use Rattle.app_rules.specs.declared.line.Line.TheVariants.{Apart, Trying, Greeting, Asking, Joined}
use Rattle.cluster_runs.specs.declared.move_outs.MoveOuts.{MoveOuts}
use Rattle.cluster_runs.specs.Sent.{Connection, FirstTaken, Knew}
use Rattle.cluster_runs.specs.Machine.{Machine, Site, End, DataConnection}
use Rattle.cluster_runs.specs.Connections.{app_leaves, leaves_linked, left, link_in, link_of, knows}
use Rattle.cluster_runs.specs.Goes.{TickGoes, LookGoes, DieGoes, HaltGoes, dies, halted_site}
use Rattle.cluster_invariant.specs.Dials.{DialsAre, PairDials, KnowsStill, is_left_at, is_here}
use Rattle.cluster_invariant.specs.Words.{is_wire}
use Rattle.cluster_invariant.specs.Holds.{Holds}
use Rattle.cluster_invariant.proofs.SiteMoves.{kept_by_look, kept_by_death, kept_by_halt}
use Rattle.cluster_invariant.proofs.Frame.{kept_by_tick}
use Rattle.dials_kept.proofs.ConnectionsGrow.{StaysKnown, known_same, SiteGrows, Grows, GrowTo, no_less_same, pair_later}
use Rattle.dials_kept.proofs.NodesGrow.{EndsGrow, SameNode, site_grows, dials_later, learnt_later, links_later}

-- the connections at each data server
abbrev pub EachDials : Layout → Plain → Machine → Type 0
EachDials l p m = (d : ℕ) → DialsAre (p.server_at d) (m.site_at d) m.is_dead_at

-- the same, as a part of the invariant
abbrev pub DialsPart : (ℕ → Bool) → ℕ → Server → Site → Type 0
DialsPart dead d v x = DialsAre v x dead

-- connections that are as they were but for who left

-- the data end left those that it left
pub left_same : (x y : Site) → y.connection_at ≡ x.connection_at → (o : Option FirstTaken) → is_left_at y o ≡ is_left_at x o
left_same x y same None = refl
left_same x y same (Some f) = ap (λ (g : ℕ → Option DataConnection). not (is_here (g f.conn))) same

pub grows_same : (x y : Site) → y.connection_at ≡ x.connection_at → (c : Connection) → Grows x y c c
grows_same x y same c = record {
  more = [];
  ups = sym (append-nil c.ups);
  follow = refl;
  alone = λ none. refl;
  untaken = λ none. none;
  within_ups = λ low. low;
  counted = refl;
  heard = [];
  downs = sym (append-nil c.downs);
  within = λ low. low;
  unheard = λ none. refl;
  quiet = λ none. refl;
  unreset = refl;
  linked = refl;
  its = refl;
  knew = refl;
  first = refl;
  data_left = λ taken is. is ∙ sym (left_same x y same c.first);
}

pub grows_mapped : (x y : Site) (w : Server) (app number : ℕ) (e : End) (g : Connection → Connection) → ((c : Connection) → Grows x y c (g c))
    → (o : Option Connection) → GrowTo x w y app number e o (option_map g o)
grows_mapped x y w app number e g each None = tt
grows_mapped x y w app number e g each (Some c) = each c

pub grow_same : (x y : Site) (w : Server) (app number : ℕ) (e : End) → y.connection_at ≡ x.connection_at → (o : Option Connection) → GrowTo x w y app number e o o
grow_same x y w app number e same None = tt
grow_same x y w app number e same (Some c) = grows_same x y same c

pub some_mapped : (g : Connection → Connection) (o : Option Connection) → is_some (option_map g o) ≡ is_some o
some_mapped g None = refl
some_mapped g (Some c) = refl

-- what the end knows is what it knew as it made it, where nothing is put
pub still_mapped : (g : Connection → Connection) → ((c : Connection) → (g c).knew ≡ c.knew) → ((c : Connection) → (g c).ups ≡ c.ups) → (line : Line) (k : Knew)
    → (o : Option Connection) → KnowsStill line k o → KnowsStill line k (option_map g o)
still_mapped g knew ups Apart k o is = tt
still_mapped g knew ups Trying k o is = tt
still_mapped g knew ups Greeting k None is = absurd is
still_mapped g knew ups Greeting k (Some c) is = (knew c ∙ is.0, ap (drop 1) (ups c) ∙ is.1)
still_mapped g knew ups Asking k None is = absurd is
still_mapped g knew ups Asking k (Some c) is = (knew c ∙ is.0, ap (drop 1) (ups c) ∙ is.1)
still_mapped g knew ups Joined k o is = tt

-- A pair that stays beside a move.
pub pair_same : (v w : Server) (x y : Site) → StaysKnown v w → SameNode x y → (dead : Bool) (app : ℕ) (e : End) → PairDials v x dead app e → PairDials w y dead app e
pair_same v w x y later same dead app e is =
    pair_later v w x y later (site_grows x y same) dead dead app e e (no_less_same (knows e))
    (λ number. grow_same x y w app number e same.connections (e.connection_at number)) is.made is.left is.still is

same_node : (x : Site) → SameNode x x
same_node x = record { node = refl; past = refl; connections = refl; began = λ s k. refl; taken = λ s k. omega arith }

-- A site stays where its plain server knows what it knew.
pub dials_beside : (v w : Server) (x : Site) (dead : ℕ → Bool) → StaysKnown v w → DialsAre v x dead → DialsAre w x dead
dials_beside v w x dead later is =
    dials_later v w x x dead dead later (same_node x) (λ app number. grow_same x x w app number (x.end_at app) refl ((x.end_at app).connection_at number))
    (λ app. no_less_same (knows (x.end_at app))) (λ app. pair_same v w x x later (same_node x) (dead app) app (x.end_at app) (is.pairs app)) is

-- A tick keeps it.
pub dials_kept_by_tick : (l : Layout) (m new : Machine) (now : ℕ) (outs : MoveOuts) (written : List Act) → Holds l m → TickGoes m now outs written new
    → EachDials l (state_after l new.trail) new
dials_kept_by_tick l m new now outs written h goes d = ((kept_by_tick l m new now outs written h goes).sites d).dials

-- A look keeps it.
pub dials_kept_by_look : (l : Layout) (m : Machine) (app job line : ℕ) (at : Target) (outs : MoveOuts) (written : List Act) (new : Machine)
    → Holds l m → LookGoes m app job line at outs written new → EachDials l (state_after l new.trail) new
dials_kept_by_look l m app job line at outs written new h goes =
    kept_by_look DialsPart l m app job line at outs written new goes (λ d. (h.sites d).dials)
    (λ knows. dials_beside v (record v { known_at = knows }) (m.site_at at.server) m.is_dead_at (known knows) (h.sites at.server).dials)
  where
    v : Server
    v = (state_after l m.trail).server_at at.server

    known : (knows : ℕ → Known) → StaysKnown v (record v { known_at = knows })
    known knows = record { there = omega arith; last = λ k low. refl; stays = λ k low is. is; told = λ a s k is. is; opened = λ s k a low is. is }

-- An application server that goes keeps it.
pub dials_kept_by_die : (l : Layout) (m : Machine) (app : ℕ) (outs : MoveOuts) (written : List Act) (new : Machine)
    → Holds l m → DieGoes m app outs written new → EachDials l (state_after l new.trail) new
dials_kept_by_die l m app outs written new h goes = kept_by_death DialsPart l m app outs written new goes (λ alive. each)
  where
    leaves : Bool → Connection → Connection
    leaves b c = if b then app_leaves c else c

    leaves_ups : (b : Bool) (c : Connection) → (leaves b c).ups ≡ c.ups
    leaves_ups true c = refl
    leaves_ups false c = refl

    leaves_knew : (b : Bool) (c : Connection) → (leaves b c).knew ≡ c.knew
    leaves_knew true c = refl
    leaves_knew false c = refl

    grows : (x y : Site) → y.connection_at ≡ x.connection_at → (b : Bool) (c : Connection) → Grows x y c (leaves b c)
    grows x y same true c = record {
      more = [];
      ups = sym (append-nil c.ups);
      follow = refl;
      alone = λ none. refl;
      untaken = λ none. none;
      within_ups = λ low. low;
      counted = refl;
      heard = [];
      downs = sym (append-nil c.downs);
      within = λ low. low;
      unheard = λ none. refl;
      quiet = λ none. refl;
      unreset = refl;
      linked = refl;
      its = refl;
      knew = refl;
      first = refl;
      data_left = λ taken is. is ∙ sym (left_same x y same c.first);
    }
    grows x y same false c = grows_same x y same c

    leaves_all_of : (b is_dead : Bool) (e : End) (number : ℕ) (o : Option Connection) → IfSome o (λ c. c.app_left ≡ not (is_wire is_dead e.state number))
        → IfSome (option_map (leaves b) o) (λ c. c.app_left ≡ not (is_wire (if b then true else is_dead) e.state number))
    leaves_all_of b is_dead e number None is = tt
    leaves_all_of true is_dead e number (Some c) is = refl
    leaves_all_of false is_dead e number (Some c) is = is

    v : ℕ → Server
    v d = (state_after l m.trail).server_at d

    x : ℕ → Site
    x d = m.site_at d

    y : ℕ → Site
    y d = (dies app m).site_at d

    same : (d : ℕ) → SameNode (x d) (y d)
    same d = record { node = refl; past = refl; connections = refl; began = λ s k. refl; taken = λ s k. omega arith }

    ends : (d : ℕ) → EndsGrow (x d) (v d) (y d)
    ends d a number =
        grows_mapped (x d) (y d) (v d) a number ((x d).end_at a) (leaves (a == app)) (grows (x d) (y d) refl (a == app)) (((x d).end_at a).connection_at number)

    pair : (d a : ℕ) → PairDials (v d) (y d) ((dies app m).is_dead_at a) a ((y d).end_at a)
    pair d a =
        pair_later (v d) (v d) (x d) (y d) (known_same (v d)) (site_grows (x d) (y d) (same d)) (m.is_dead_at a) ((dies app m).is_dead_at a) a ((x d).end_at a)
        ((y d).end_at a) (no_less_same (knows ((x d).end_at a))) (ends d a)
        (λ number. some_mapped (leaves (a == app)) (((x d).end_at a).connection_at number) ∙ its.made number)
        (λ number. leaves_all_of (a == app) (m.is_dead_at a) ((x d).end_at a) number (((x d).end_at a).connection_at number) (its.left number))
        (still_mapped (leaves (a == app)) (leaves_knew (a == app)) (leaves_ups (a == app)) ((x d).end_at a).state.line (knows ((x d).end_at a))
        (((x d).end_at a).connection_at ((x d).end_at a).state.dial) its.still) its
      where
        its : PairDials (v d) (x d) (m.is_dead_at a) a ((x d).end_at a)
        its = (h.sites d).dials.pairs a

    each : EachDials l (state_after l m.trail) (dies app m)
    each d =
        dials_later (v d) (v d) (x d) (y d) m.is_dead_at (dies app m).is_dead_at (known_same (v d)) (same d) (ends d) (λ a. no_less_same (knows ((x d).end_at a))) (pair d)
        (h.sites d).dials

-- A halt keeps it.
pub dials_kept_by_halt : (l : Layout) (m : Machine) (server : ℕ) (outs : MoveOuts) (written : List Act) (new : Machine)
    → Holds l m → HaltGoes m server outs written new → EachDials l (state_after l new.trail) new
dials_kept_by_halt l m server outs written new h goes = kept_by_halt DialsPart l m server outs written new goes (λ d. (h.sites d).dials) here
  where
    x : Site
    x = m.site_at server

    y : Site
    y = halted_site x

    v : Server
    v = (state_after l m.trail).server_at server

    its : DialsAre v x m.is_dead_at
    its = (h.sites server).dials

    all_left : (o : Option DataConnection) → is_here (option_map left o) ≡ false
    all_left None = refl
    all_left (Some c) = refl

    linked_same : (o : Option DataConnection) → link_in (option_map left o) ≡ link_in o
    linked_same None = refl
    linked_same (Some c) = refl

    links : (conn : ℕ) → link_of y conn ≡ link_of x conn
    links conn = linked_same (x.connection_at conn)

    left_now : (c : Connection) (o : Option FirstTaken) (b : Bool) → is_some o ≡ b → c.data_left ≡ is_left_at x o → (if b then true else c.data_left) ≡ is_left_at y o
    left_now c None true taken is = absurd (false≢true taken)
    left_now c None false taken is = is
    left_now c (Some f) true taken is = sym (ap not (all_left (x.connection_at f.conn)))
    left_now c (Some f) false taken is = absurd (false≢true (sym taken))

    grows : (c : Connection) → Grows x y c (leaves_linked c)
    grows c = record {
      more = [];
      ups = sym (append-nil c.ups);
      follow = refl;
      alone = λ none. refl;
      untaken = λ none. none;
      within_ups = λ low. low;
      counted = refl;
      heard = [];
      downs = sym (append-nil c.downs);
      within = λ low. low;
      unheard = λ none. refl;
      quiet = λ none. refl;
      unreset = refl;
      linked = refl;
      its = refl;
      knew = refl;
      first = refl;
      data_left = λ taken is. left_now c c.first c.linked taken is;
    }

    site : SiteGrows x y
    site = record { links = λ conn l is. links conn ∙ is; begun = λ s k is. is; taken = λ s k. omega arith }

    ends : EndsGrow x v y
    ends a number = grows_mapped x y v a number (x.end_at a) leaves_linked grows ((x.end_at a).connection_at number)

    still_there : (is_dead : Bool) (e : End) (number : ℕ) (o : Option Connection) → IfSome o (λ c. c.app_left ≡ not (is_wire is_dead e.state number))
        → IfSome (option_map leaves_linked o) (λ c. c.app_left ≡ not (is_wire is_dead e.state number))
    still_there is_dead e number None is = tt
    still_there is_dead e number (Some c) is = is

    pair : (a : ℕ) → PairDials v y (m.is_dead_at a) a (y.end_at a)
    pair a =
        pair_later v v x y (known_same v) site (m.is_dead_at a) (m.is_dead_at a) a (x.end_at a) (y.end_at a) (no_less_same (knows (x.end_at a))) (ends a)
        (λ number. some_mapped leaves_linked ((x.end_at a).connection_at number) ∙ (its.pairs a).made number)
        (λ number. still_there (m.is_dead_at a) (x.end_at a) number ((x.end_at a).connection_at number) ((its.pairs a).left number))
        (still_mapped leaves_linked (λ c. refl) (λ c. refl) (x.end_at a).state.line (knows (x.end_at a)) ((x.end_at a).connection_at (x.end_at a).state.dial)
        (its.pairs a).still) (its.pairs a)

    here : DialsAre v y m.is_dead_at
    here = record {
      pairs = pair;
      learnt = λ s k. learnt_later v v x y (known_same v) ends (λ a. no_less_same (knows (x.end_at a))) s k (x.lane_at s k).began (its.learnt s k);
      links = links_later x y v ends links its.links;
      here = λ conn. all_left (x.connection_at conn);
      node = tt;
    }
