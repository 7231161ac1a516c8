-- The part on what is on its way, for the moves that put and take nothing: a tick, a look, and a node or an application server that goes.
use Rattle.std.proofs.Common.{◌≡◌, ◌≤◌, ℕ, Bool, true, false, List, Option, Some, None, option_map, if◌then◌else◌, refl, sym, ap, subst, arith, ◌==◌}
use Rattle.std.specs.Prelude.{IfSome, IsSomeAnd}
use Rattle.std.proofs.lemmas.Bool.{false≢true}
use Rattle.plain_orders.specs.declared.act.Act.{Act}
use Rattle.plain_orders.specs.declared.layout.Layout.{Layout}
use Rattle.plain_runs.specs.Plain.{Plain, Server, Known, put, current, order_at}
use Rattle.app_rules.specs.declared.line.Line.{Line}
use Rattle.app_rules.specs.declared.line.Line.TheVariants.{Apart, Trying, Greeting, Asking, Joined}
use Rattle.app_rules.specs.AppState.{Session}
use Rattle.plain_runs.specs.Run.{state_after}
use Rattle.app_job.specs.Sites.{Site as Target}
use Rattle.data_rules.specs.DataState.{DataState}
use Rattle.cluster_runs.specs.declared.move_outs.MoveOuts.{MoveOuts}
use Rattle.cluster_runs.specs.Sent.{Connection, FirstTaken, Lane, Place}
use Rattle.cluster_runs.specs.Machine.{Machine, Site, End}
use Rattle.cluster_runs.specs.Connections.{app_leaves, leaves_linked}
use Rattle.cluster_runs.specs.Goes.{TickGoes, LookGoes, DieGoes, HaltGoes, dies, halted_site}
use Rattle.cluster_invariant.specs.Orders.{OrdersAgree}
use Rattle.cluster_invariant.specs.Ends.{EndsAre, AppTold, ToldPlace}
use Rattle.cluster_invariant.specs.Dials.{DialsAre, ConnectionIs, FirstIs}
use Rattle.cluster_invariant.specs.Link.{LinkHolds, NodeLink, AppWay, DownBy, DownWhole}
use Rattle.cluster_invariant.specs.Holds.{Holds, SiteHolds}
use Rattle.cluster_invariant.proofs.Small.{some_kept}
use Rattle.cluster_invariant.proofs.Frame.{kept_by_tick}
use Rattle.cluster_invariant.proofs.PastOrders.{stays_within}
use Rattle.cluster_invariant.proofs.SiteMoves.{kept_by_death, kept_by_halt, kept_by_look}
use Rattle.link_kept.proofs.Later.{EnteredStays, Later, entered_same, front_same}
use Rattle.link_kept.proofs.AppLater.{WholeStays, CountStays, LaneLater, same_lane, lane_goes_on, down_later, app_later}
use Rattle.link_kept.proofs.NodeBeside.{Quiet, Quietly, quiet_untold, some_quiet, with_ends, node_beside}

-- what is on its way at each data server
abbrev pub LinksHold : Layout → Plain → Machine → Type 0
LinksHold l p m = (d : ℕ) → LinkHolds (p.server_at d) (m.site_at d) m.is_dead_at

-- the same, as a part of the invariant
abbrev pub LinksPart : (ℕ → Bool) → ℕ → Server → Site → Type 0
LinksPart dead d v x = LinkHolds v x dead

-- A tick keeps it.
pub link_kept_by_tick : (l : Layout) (m new : Machine) (now : ℕ) (outs : MoveOuts) (written : List Act) → Holds l m → TickGoes m now outs written new
    → LinksHold l (state_after l new.trail) new
link_kept_by_tick l m new now outs written h goes d = ((kept_by_tick l m new now outs written h goes).sites d).link

-- What jobs know, and what isn't of orders, changes nothing of them.
pub later_known : (x : Site) (v : Server) (known : ℕ → Known) → OrdersAgree v → Later x v (record v { known_at = known })
later_known x v known agree = record {
  there = omega arith;
  goes_on = λ k low. front_same (order_at v k);
  within = stays_within v agree;
  stays = λ k low. omega arith;
  left = λ k low. refl;
  last = λ k low. refl;
  place = λ k low. refl;
  newer = λ i j low past there stays. absurd (omega (arith, past, there));
  counts = λ s k low unlearnt. refl;
}

-- ends whose connections are quiet

pub some_both : {X : Type 0} (P Q : X → Type 0) (o : Option X) → IfSome o P → IfSome o Q → IfSome o (λ c. P c × Q c)
some_both P Q None a b = tt
some_both P Q (Some c) a b = (a, b)

pub firsts_there : (v : Server) (x : Site) (app number : ℕ) (c : Connection) → ConnectionIs v x app number c → IfSome c.first (λ f. f.order ≤ current v)
firsts_there v x app number c is = some_kept (FirstIs v x app number) (λ (f : FirstTaken). f.order ≤ current v) (λ (f : FirstTaken) its. its.there) c.first is.where_taken

-- an end with a session is told of an order that was there
pub told_there : (v : Server) (app : ℕ) (e : End) → AppTold v app e → IfSome e.state.session (λ s. IfSome e.told (λ p. p.order ≤ current v))
told_there v app e told =
    some_kept (λ (s : Session). ToldPlace v app s e.told) (λ (s : Session). IfSome e.told (λ p. p.order ≤ current v))
    (λ (s : Session) is. subst (λ (o : Option Place). IfSome o (λ p. p.order ≤ current v)) (sym is.its) is.there) e.state.session told.place

-- The half of an application end that a move leaves as it is, but for what is known of who left its connection.
pub app_quiet : (v w : Server) (x y : Site) (dead : ℕ → Bool) → Later x v w → ((a : ℕ) → EnteredStays a v w) → ((s k : ℕ) → LaneLater (x.lane_at s k) (y.lane_at s k)) → LinkHolds v x dead
    → EndsAre v x dead → DialsAre v x dead → (app : ℕ) → dead app ≡ false → (f : End) → f.state ≡ (x.end_at app).state → f.told ≡ (x.end_at app).told
    → Quietly ((x.end_at app).connection_at (x.end_at app).state.dial) (f.connection_at (x.end_at app).state.dial)
    → ((c d : Connection) → Quiet c d → ConnectionIs v x app (x.end_at app).state.dial c → WholeStays x y c d)
    → CountStays x y (x.end_at app).state.line (x.end_at app).state.session (x.end_at app).told → AppWay w y app f
app_quiet v w x y dead later still lanes link ends dials app alive f state told quiet whole same =
    app_later w v x y lanes app (x.end_at app) f state told
    (some_quiet (λ (c : Connection). DownBy e.state.line v x app e c × ConnectionIs v x app e.state.dial c) (DownBy e.state.line w y app e) down
    (e.connection_at e.state.dial) (f.connection_at e.state.dial) quiet
    (some_both (DownBy e.state.line v x app e) (ConnectionIs v x app e.state.dial) (e.connection_at e.state.dial) (link.apps app alive).down
    ((dials.pairs app).each e.state.dial)))
    (link.apps app alive)
  where
    e : End
    e = x.end_at app

    down : (c d : Connection) → Quiet c d → DownBy e.state.line v x app e c × ConnectionIs v x app e.state.dial c → DownBy e.state.line w y app e d
    down c d q is =
        down_later v w x y later (λ s k. lane_goes_on (x.lane_at s k) (y.lane_at s k) (lanes s k)) link.lanes c d (quiet_untold c d q) (whole c d q is.1) e.state.line app e (still app) (told_there v app e (ends.told app alive))
        (firsts_there v x app e.state.dial c is.1) same is.0

-- where lanes stay as they are, counts do
pub count_same : (x y : Site) → ((s k : ℕ) → y.lane_at s k ≡ x.lane_at s k) → (line : Line) (o : Option Session) (p : Option Place) → CountStays x y line o p
count_same x y lanes Apart o p = tt
count_same x y lanes Trying o p = tt
count_same x y lanes Greeting o p = tt
count_same x y lanes Asking None p = tt
count_same x y lanes Asking (Some s) None = tt
count_same x y lanes Asking (Some s) (Some q) = ap (λ (z : Lane). z.up_taken) (lanes s.number q.order)
count_same x y lanes Joined o p = tt

whole_beside : (x : Site) (ends : ℕ → End) (c d : Connection) → Quiet c d → WholeStays x (with_ends ends x) c d
whole_beside x ends c d q s k left its is at here =
    some_kept (λ (n : DataState). IsSomeAnd c.first (λ f. DownWhole n s f.conn (x.lane_at s k) left)) (λ (n : DataState). IsSomeAnd d.first (λ f. DownWhole n s f.conn (x.lane_at s k) left))
    (λ n got. subst (λ (o : Option FirstTaken). IsSomeAnd o (λ f. DownWhole n s f.conn (x.lane_at s k) left)) (sym q.first) got) x.node (is (q.data_left at) here)

-- A site of which ends alone are changed, and of those the marks of who left.
pub link_beside : (v w : Server) (x : Site) (ends : ℕ → End) (dead gone : ℕ → Bool) → Later x v w → ((a : ℕ) → EnteredStays a v w) → current w ≡ current v → x.past ≡ current v
    → LinkHolds v x dead → EndsAre v x dead → DialsAre v x dead
    → ((app number : ℕ) → Quietly ((x.end_at app).connection_at number) ((ends app).connection_at number))
    → ((app : ℕ) → (ends app).state ≡ (x.end_at app).state) → ((app : ℕ) → (ends app).told ≡ (x.end_at app).told)
    → ((app : ℕ) → gone app ≡ false → dead app ≡ false) → LinkHolds w (with_ends ends x) gone
link_beside v w x ends dead gone later still same past link ends_are dials quiet states told more = record {
  lanes = λ s k. link.lanes s k;
  node =
      some_kept (NodeLink v x dead) (NodeLink w (with_ends ends x) gone)
      (λ n is. node_beside v w x ends dead gone n later still same quiet states more past is) x.node link.node;
  apps =
      λ app alive.
      app_quiet v w x (with_ends ends x) dead later still (λ s k. same_lane (x.lane_at s k)) link ends_are dials app (more app alive) (ends app) (states app) (told app)
      (quiet app (x.end_at app).state.dial) (λ c d q its. whole_beside x ends c d q)
      (count_same x (with_ends ends x) (λ s k. refl) (x.end_at app).state.line (x.end_at app).state.session (x.end_at app).told);
}

quiet_same : (c : Connection) → Quiet c c
quiet_same c = record { ups = refl; ups_taken = refl; downs = refl; downs_taken = refl; its = refl; knew = refl; first = refl; data_left = λ is. is }

pub quietly_same : (o : Option Connection) → Quietly o o
quietly_same None = tt
quietly_same (Some c) = quiet_same c

quietly_mapped : (g : Connection → Connection) → ((c : Connection) → Quiet c (g c)) → (o : Option Connection) → Quietly o (option_map g o)
quietly_mapped g q None = tt
quietly_mapped g q (Some c) = q c

-- looks

-- A look keeps it.
pub link_kept_by_look : (l : Layout) (m : Machine) (app job line : ℕ) (at : Target) (outs : MoveOuts) (written : List Act) (new : Machine)
    → Holds l m → ((d : ℕ) → OrdersAgree ((state_after l m.trail).server_at d)) → LookGoes m app job line at outs written new → LinksHold l (state_after l new.trail) new
link_kept_by_look l m app job line at outs written new h agree goes =
    kept_by_look LinksPart l m app job line at outs written new goes (λ d. (h.sites d).link)
    (λ knows.
    link_beside v (record v { known_at = knows }) x x.end_at m.is_dead_at m.is_dead_at (later_known x v knows (agree at.server))
    (λ a. entered_same a v (record v { known_at = knows }) (λ s. refl) (λ s. refl)) refl its.order.past its.link its.ends
    its.dials (λ a n. quietly_same ((x.end_at a).connection_at n)) (λ a. refl) (λ a. refl) (λ a alive. alive))
  where
    v : Server
    v = (state_after l m.trail).server_at at.server

    x : Site
    x = m.site_at at.server

    its : SiteHolds l at.server m.is_dead_at v x
    its = h.sites at.server

-- An application server that goes keeps it.
pub link_kept_by_die : (l : Layout) (m : Machine) (app : ℕ) (outs : MoveOuts) (written : List Act) (new : Machine)
    → Holds l m → ((d : ℕ) → OrdersAgree ((state_after l m.trail).server_at d)) → DieGoes m app outs written new → LinksHold l (state_after l new.trail) new
link_kept_by_die l m app outs written new h agree goes = kept_by_death LinksPart l m app outs written new goes each
  where
    leaves : ℕ → Connection → Connection
    leaves a c = if a == app then app_leaves c else c

    quiet : (a : ℕ) (c : Connection) → Quiet c (leaves a c)
    quiet a c = go (a == app)
      where
        go : (b : Bool) → Quiet c (if b then app_leaves c else c)
        go true = record { ups = refl; ups_taken = refl; downs = refl; downs_taken = refl; its = refl; knew = refl; first = refl; data_left = λ is. is }
        go false = quiet_same c

    ends : ℕ → ℕ → End
    ends d a = record ((m.site_at d).end_at a) { connection_at = λ n. option_map (leaves a) (((m.site_at d).end_at a).connection_at n) }

    each : ((a : ℕ) → put m.is_dead_at app true a ≡ false → m.is_dead_at a ≡ false) → (d : ℕ)
        → LinkHolds ((state_after l m.trail).server_at d) ((dies app m).site_at d) (put m.is_dead_at app true)
    each alive d =
        link_beside ((state_after l m.trail).server_at d) ((state_after l m.trail).server_at d) (m.site_at d) (ends d) m.is_dead_at (put m.is_dead_at app true)
        (later_known (m.site_at d) ((state_after l m.trail).server_at d) ((state_after l m.trail).server_at d).known_at (agree d))
        (λ a. entered_same a ((state_after l m.trail).server_at d) ((state_after l m.trail).server_at d) (λ s. refl) (λ s. refl)) refl (h.sites d).order.past
        (h.sites d).link (h.sites d).ends (h.sites d).dials
        (λ a n. quietly_mapped (leaves a) (quiet a) (((m.site_at d).end_at a).connection_at n)) (λ a. refl) (λ a. refl) alive

-- A halt keeps it.
pub link_kept_by_halt : (l : Layout) (m : Machine) (server : ℕ) (outs : MoveOuts) (written : List Act) (new : Machine)
    → Holds l m → ((d : ℕ) → OrdersAgree ((state_after l m.trail).server_at d)) → HaltGoes m server outs written new → LinksHold l (state_after l new.trail) new
link_kept_by_halt l m server outs written new h agree goes = kept_by_halt LinksPart l m server outs written new goes (λ d. (h.sites d).link) here
  where
    x : Site
    x = m.site_at server

    v : Server
    v = (state_after l m.trail).server_at server

    quiet : (c : Connection) → Quiet c (leaves_linked c)
    quiet c = record { ups = refl; ups_taken = refl; downs = refl; downs_taken = refl; its = refl; knew = refl; first = refl; data_left = go c.linked }
      where
        go : (b : Bool) → (if b then true else c.data_left) ≡ false → c.data_left ≡ false
        go true is = absurd (false≢true (sym is))
        go false is = is

    here : LinkHolds v (halted_site x) m.is_dead_at
    here = record {
      lanes = λ s k. (h.sites server).link.lanes s k;
      node = tt;
      apps =
          λ app alive.
          app_quiet v v x (halted_site x) m.is_dead_at (later_known x v v.known_at (agree server)) (λ a. entered_same a v v (λ s. refl) (λ s. refl)) (λ s k. same_lane (x.lane_at s k)) (h.sites server).link
          (h.sites server).ends (h.sites server).dials app alive ((halted_site x).end_at app) refl refl
          (quietly_mapped leaves_linked quiet ((x.end_at app).connection_at (x.end_at app).state.dial)) (λ c d q made s k left its is at there. tt)
          (count_same x (halted_site x) (λ s k. refl) (x.end_at app).state.line (x.end_at app).state.session (x.end_at app).told);
    }
