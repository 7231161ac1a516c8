-- What is on its way at one data server as an end that has taken the Welcome of its connection, or takes it now, takes a frame.
use Rattle.std.proofs.Common.{◌≡◌, ◌≢◌, ◌≤◌, ℕ, Bool, true, false, ◌&&◌, ◌==◌, if◌then◌else◌, List, [], ◌++◌, length, Option, Some, None, is_some, refl, sym, ◌∙◌, ap, subst, arith}
use Rattle.std.specs.Prelude.{IfSome}
use Rattle.std.proofs.lemmas.Bool.{eqb-true, eq-eqb, ne_eqb, false≢true}
use Rattle.std.proofs.lemmas.List.{append-nil, drop-append-le}
use Rattle.plain_runs.specs.Plain.{Server, current, order_at, put}
use Rattle.ecp_messages.specs.declared.up.UpFrame.{UpFrame}
use Rattle.ecp_messages.specs.declared.down.DownFrame.{DownFrame}
use Rattle.app_rules.specs.declared.line.Line.{Line}
use Rattle.app_rules.specs.declared.line.Line.TheVariants.{Joined}
use Rattle.app_rules.specs.AppState.{Session}
use Rattle.app_rules.specs.Works.{is_joined}
use Rattle.cluster_runs.specs.Sent.{Lane, Place, Connection}
use Rattle.cluster_runs.specs.Machine.{Site, End}
use Rattle.cluster_runs.specs.Connections.{down_taken, with_ups}
use Rattle.cluster_invariant.specs.Dials.{CarriesNoOther, ConnectionIs, DialsAre}
use Rattle.cluster_invariant.specs.Ends.{EndsAre}
use Rattle.cluster_invariant.specs.Link.{AppWay, DownBy, DownWay, GreetsOn, JoinedWay, LaneCounts, LinkHolds, UpWay, UpWayOn, WholeIf, WindowIs, WithSession, is_in_recovery, is_joined_on}
use Rattle.cluster_invariant.specs.Words.{downs_left, is_number, is_wire, stays_at, ups_left, has_wire}
use Rattle.cluster_invariant.proofs.Small.{of_some}
use Rattle.cluster_steps.proofs.AppSites.{SameBeside}
use Rattle.link_kept.proofs.Later.{EnteredStays, Later, front_same}
use Rattle.link_kept.proofs.AppLater.{way_later}
use Rattle.link_apps.proofs.NodeApps.{LanePut, DownsStay}
use Rattle.link_apps.proofs.EndStep.{EndStep, IsElsewhere, OwnKept, link_kept_by_end}
use Rattle.link_apps.proofs.PutsUp.{way_put}

-- The end after it, its session, and the lane of that in the order that the end is told of: what is on its way there both ways.
pub record JoinedNow (v : Server) (x y : Site) (dead : ℕ → Bool) (app : ℕ) (f : End) (c : Connection) (rest : List DownFrame) (us : List UpFrame) : Type 0 where
  pub beside : SameBeside x y
  pub ends : y.end_at ≡ put x.end_at app f
  pub its : (x.end_at app).connection_at (x.end_at app).state.dial ≡ Some c
  pub left : downs_left (down_taken c) ≡ rest
  pub conn : f.connection_at (x.end_at app).state.dial ≡ Some (with_ups us (down_taken c))
  pub others : (number : ℕ) → number ≢ (x.end_at app).state.dial → f.connection_at number ≡ (x.end_at app).connection_at number
  pub line_now : f.state.line ≡ Joined
  pub dial : f.state.dial ≡ (x.end_at app).state.dial
  pub told : f.told ≡ (x.end_at app).told
  pub was : Session
  pub session : Session
  pub has : (x.end_at app).state.session ≡ Some was
  pub now : f.state.session ≡ Some session
  pub number : session.number ≡ was.number
  pub k : ℕ
  pub there : k ≤ current v
  pub told_of : (x.end_at app).told ≡ Some (record { session = was.number; order = k })
  pub carried : c.its ≡ Some (record { session = was.number; order = k })
  pub begun : is_some (y.lane_at was.number k).began ≡ true
  -- its lane, and no other
  pub lane_put : LanePut (x.lane_at was.number k) (y.lane_at was.number k)
  pub counts : LaneCounts (y.lane_at was.number k)
  pub elsewhere : (s k : ℕ) → IsElsewhere (x.end_at app) s k → y.lane_at s k ≡ x.lane_at s k
  pub window : WindowIs session.window (y.lane_at was.number k).up (y.lane_at was.number k).up_taken (y.lane_at was.number k).down_taken
  -- what is on its way
  pub up : UpWay (x.lane_at was.number k) (ups_left c) (is_joined_on (dead app) (x.end_at app).state (x.end_at app).state.dial was.number)
      → UpWay (y.lane_at was.number k) (ups_left c ++ us) true
  pub down : DownWay (order_at v k) (stays_at v k) was.number (y.lane_at was.number k) (is_in_recovery f.state.link) rest
  pub whole : WholeIf y was.number k (y.lane_at was.number k) c rest

module _ (v w : Server) (x y : Site) (dead : ℕ → Bool) (app : ℕ) (f : End) (alive : dead app ≡ false) (later : Later x v w) (link : LinkHolds v x dead)
    (dials : DialsAre v x dead) (c : Connection) (rest : List DownFrame) (us : List UpFrame) (t : JoinedNow v x y dead app f c rest us) where
  abbrev e : End
  e = x.end_at app

  abbrev s : Session
  s = t.was

  abbrev u : Session
  u = t.session

  abbrev k : ℕ
  k = t.k

  abbrev lane : Lane
  lane = x.lane_at s.number k

  abbrev lane_now : Lane
  lane_now = y.lane_at s.number k

  -- any lane
  by_lane : (P : Lane → Lane → Type 0) → ((a : Lane) → P a a) → P lane lane_now → (q j : ℕ) → P (x.lane_at q j) (y.lane_at q j)
  by_lane P same here q j = go (q == s.number) refl (j == k) refl
    where
      apart : ((q ≡ s.number) → (j ≡ k) → ⊥) → P (x.lane_at q j) (y.lane_at q j)
      apart other =
          subst (λ (l : Lane). P (x.lane_at q j) l)
          (sym (t.elsewhere q j
          (subst (λ (z : Option Session). IfSome z (λ r. IfSome e.told (λ p. (q ≡ r.number) → (j ≡ p.order) → ⊥))) (sym t.has)
          (subst (λ (z : Option Place). IfSome z (λ p. (q ≡ s.number) → (j ≡ p.order) → ⊥)) (sym t.told_of) other))))
          (same (x.lane_at q j))

      go : (a : Bool) → (q == s.number) ≡ a → (b : Bool) → (j == k) ≡ b → P (x.lane_at q j) (y.lane_at q j)
      go true at true is =
          subst (λ (n : ℕ). P (x.lane_at n j) (y.lane_at n j)) (sym (eqb-true q s.number at))
          (subst (λ (n : ℕ). P (x.lane_at s.number n) (y.lane_at s.number n)) (sym (eqb-true j k is)) here)
      go false other b is = apart (λ at here. absurd (false≢true (sym other ∙ eq-eqb q s.number at)))
      go a at false other = apart (λ at here. absurd (false≢true (sym other ∙ eq-eqb j k here)))

  lanes : (q j : ℕ) → LanePut (x.lane_at q j) (y.lane_at q j)
  lanes = by_lane LanePut (λ a. record { began = refl; up = ([], sym (append-nil a.up)); up_taken = refl; down = refl; down_taken = omega arith }) t.lane_put

  counts : (q j : ℕ) → LaneCounts (y.lane_at q j)
  counts q j = by_lane (λ a b. LaneCounts a → LaneCounts b) (λ a is. is) (λ is. t.counts) q j (link.lanes q j)

  -- upwards

  joined_now : (number q : ℕ) → number ≡ e.state.dial → q ≡ s.number → is_joined_on (dead app) f.state number q ≡ true
  joined_now number q at is =
      ap (λ (b : Bool). is_wire b f.state number && is_joined f.state.line && is_number q f.state.session) alive
      ∙ ap (λ (line : Line). (if has_wire line then number == f.state.dial else false) && is_joined line && is_number q f.state.session) t.line_now
      ∙ ap (λ (b : Bool). b && true && is_number q f.state.session) (eq-eqb number f.state.dial (at ∙ sym t.dial))
      ∙ ap (λ (z : Option Session). is_number q z) t.now
      ∙ eq-eqb u.number q (t.number ∙ sym is)

  -- on its own connection
  way_now : (q j : ℕ) → ◌≡◌ {A = Place} (record { session = s.number; order = k }) (record { session = q; order = j }) → c.ups_taken ≤ length c.ups
      → UpWayOn (x.lane_at q j) (dead app) e.state e.state.dial q c → UpWayOn (y.lane_at q j) (dead app) f.state e.state.dial q (with_ups us (down_taken c))
  way_now q j same low_ups way =
      subst (λ (z : Place). UpWayOn (x.lane_at z.session z.order) (dead app) e.state e.state.dial z.session c
      → UpWayOn (y.lane_at z.session z.order) (dead app) f.state e.state.dial z.session (with_ups us (down_taken c))) same
      (λ at.
      subst (λ (b : Bool). UpWay lane_now (ups_left (with_ups us (down_taken c))) b) (sym (joined_now e.state.dial s.number refl refl))
      (subst (λ (xs : List UpFrame). UpWay lane_now xs true) (sym (drop-append-le c.ups_taken c.ups us low_ups)) (t.up at))) way

  unwired : (number : ℕ) → number ≢ e.state.dial → (q : ℕ) → is_joined_on (dead app) f.state number q ≡ false
  unwired number other q = ap (λ (b : Bool). b && is_joined f.state.line && is_number q f.state.session) (go (dead app))
    where
      by : (b : Bool) → (if b then number == f.state.dial else false) ≡ false
      by true = ne_eqb number f.state.dial (λ same. other (same ∙ t.dial))
      by false = refl

      go : (b : Bool) → is_wire b f.state number ≡ false
      go true = refl
      go false = by (has_wire f.state.line)

  ups : (q number : ℕ) (z : Connection) → e.connection_at number ≡ Some z → CarriesNoOther q x.past z → UpWayOn (x.lane_at q x.past) (dead app) e.state number q z
      → IfSome (f.connection_at number) (UpWayOn (y.lane_at q x.past) (dead app) f.state number q)
  ups q number z its carries way = go (number == e.state.dial) refl
    where
      same_conn : (a b : Connection) → ◌≡◌ {A = Option Connection} (Some a) (Some b) → a ≡ b
      same_conn a b is = cc

      here : number ≡ e.state.dial → IfSome (f.connection_at number) (UpWayOn (y.lane_at q x.past) (dead app) f.state number q)
      here at =
          subst (λ (n : ℕ). IfSome (f.connection_at n) (UpWayOn (y.lane_at q x.past) (dead app) f.state n q)) (sym at)
          (subst (λ (o : Option Connection). IfSome o (UpWayOn (y.lane_at q x.past) (dead app) f.state e.state.dial q)) (sym t.conn)
          (way_now q x.past
          (of_some (λ (p : Place). p ≡ record { session = q; order = x.past }) c.its (record { session = s.number; order = k }) t.carried
          (subst (CarriesNoOther q x.past) is_c carries))
          (of_some (ConnectionIs v x app e.state.dial) (e.connection_at e.state.dial) c t.its ((dials.pairs app).each e.state.dial)).ups_taken
          (subst (λ (n : ℕ). UpWayOn (x.lane_at q x.past) (dead app) e.state n q c) at (subst (UpWayOn (x.lane_at q x.past) (dead app) e.state number q) is_c way))))
        where
          is_c : z ≡ c
          is_c = same_conn z c (sym its ∙ ap e.connection_at at ∙ t.its)

      go : (b : Bool) → (number == e.state.dial) ≡ b → IfSome (f.connection_at number) (UpWayOn (y.lane_at q x.past) (dead app) f.state number q)
      go true at = here (eqb-true number e.state.dial at)
      go false other =
          let apart : number ≢ e.state.dial = λ same. absurd (false≢true (sym other ∙ eq-eqb number e.state.dial same)) in
          subst (λ (o : Option Connection). IfSome o (UpWayOn (y.lane_at q x.past) (dead app) f.state number q)) (sym (t.others number apart ∙ its))
          (subst (λ (b : Bool). UpWay (y.lane_at q x.past) (ups_left z) b) (sym (unwired number apart q))
          (way_put (x.lane_at q x.past) (y.lane_at q x.past) (ups_left z) (is_joined_on (dead app) e.state number q) (link.lanes q x.past) (lanes q x.past) way))

  -- its own way

  down_way : JoinedWay w y f.state u k (with_ups us (down_taken c))
  down_way = record {
    its = t.carried ∙ ap (λ (n : ℕ). Some (record { session = n; order = k })) (sym t.number);
    way =
        subst (λ (fs : List DownFrame). DownWay (order_at w k) (stays_at w k) u.number (y.lane_at u.number k) (is_in_recovery f.state.link) fs) (sym t.left)
        (subst (λ (n : ℕ). DownWay (order_at w k) (stays_at w k) n (y.lane_at n k) (is_in_recovery f.state.link) rest) (sym t.number)
        (way_later (order_at v k) (order_at w k) (stays_at v k) (stays_at w k) s.number lane_now lane_now (is_in_recovery f.state.link) rest (later.goes_on k t.there)
        (later.stays k t.there) t.counts.down_taken
        (record { began = refl; up_taken = omega arith; down = front_same lane_now.down; down_taken = refl }) t.down));
    whole =
        subst (λ (fs : List DownFrame). WholeIf y u.number k (y.lane_at u.number k) (with_ups us (down_taken c)) fs) (sym t.left)
        (subst (λ (n : ℕ). WholeIf y n k (y.lane_at n k) (with_ups us (down_taken c)) rest) (sym t.number) t.whole);
  }

  own_way : AppWay w y app f
  own_way = record {
    window =
        subst (λ (o : Option Session). IfSome o (λ q. IfSome f.told (λ p. WindowIs q.window (y.lane_at q.number p.order).up (y.lane_at q.number p.order).up_taken (y.lane_at q.number p.order).down_taken)))
        (sym t.now)
        (subst (λ (o : Option Place). IfSome o (λ p. WindowIs u.window (y.lane_at u.number p.order).up (y.lane_at u.number p.order).up_taken (y.lane_at u.number p.order).down_taken))
        (sym (t.told ∙ t.told_of)) (subst (λ (n : ℕ). WindowIs u.window (y.lane_at n k).up (y.lane_at n k).up_taken (y.lane_at n k).down_taken) (sym t.number) t.window));
    begun =
        subst (λ (o : Option Session). IfSome o (λ q. IfSome f.told (λ p. is_some (y.lane_at q.number p.order).began ≡ true))) (sym t.now)
        (subst (λ (o : Option Place). IfSome o (λ p. is_some (y.lane_at u.number p.order).began ≡ true)) (sym (t.told ∙ t.told_of))
        (subst (λ (n : ℕ). is_some (y.lane_at n k).began ≡ true) (sym t.number) t.begun));
    down =
        subst (λ (n : ℕ). IfSome (f.connection_at n) (DownBy f.state.line w y app f)) (sym t.dial)
        (subst (λ (o : Option Connection). IfSome o (DownBy f.state.line w y app f)) (sym t.conn)
        (subst (λ (line : Line). DownBy line w y app f (with_ups us (down_taken c))) (sym t.line_now)
        (subst (λ (o : Option Session). WithSession o f.told (λ q j. JoinedWay w y f.state q j (with_ups us (down_taken c)))) (sym t.now)
        (subst (λ (o : Option Place). WithSession (Some u) o (λ q j. JoinedWay w y f.state q j (with_ups us (down_taken c)))) (sym (t.told ∙ t.told_of)) down_way))));
  }

  pub own_joined : OwnKept v w x y dead app f
  own_joined = record {
    counts = counts;
    ups = ups;
    greets = λ q number z its is. subst (λ (line : Line). GreetsOn w y q app f number line) (sym t.line_now) tt;
    way = own_way;
  }

  pub step_joined : EndStep x y app f
  step_joined = record {
    beside = t.beside;
    ends = t.ends;
    lanes = lanes;
    elsewhere = t.elsewhere;
    stay = λ number. go number (number == e.state.dial) refl;
  }
    where
      same : (o : Option Connection) → DownsStay o o
      same None = tt
      same (Some z) = record { downs = refl; its = refl; knew = refl }

      go : (number : ℕ) (b : Bool) → (number == e.state.dial) ≡ b → DownsStay (e.connection_at number) (f.connection_at number)
      go number true at =
          subst (λ (n : ℕ). DownsStay (e.connection_at n) (f.connection_at n)) (sym (eqb-true number e.state.dial at))
          (subst (λ (o : Option Connection). DownsStay o (f.connection_at e.state.dial)) (sym t.its)
          (subst (DownsStay (Some c)) (sym t.conn) (record { downs = refl; its = refl; knew = refl })))
      go number false other =
          subst (DownsStay (e.connection_at number))
          (sym (t.others number (λ same. absurd (false≢true (sym other ∙ eq-eqb number e.state.dial same))))) (same (e.connection_at number))

-- The part on what is on its way at this data server.
pub link_kept_by_joined : (v w : Server) (x y : Site) (dead : ℕ → Bool) (app : ℕ) (f : End) → dead app ≡ false → Later x v w
    → ((a : ℕ) → a ≢ app → EnteredStays a v w) → current w ≡ current v → x.past ≡ current v → LinkHolds v x dead → EndsAre v x dead → DialsAre v x dead
    → (c : Connection) (rest : List DownFrame) (us : List UpFrame) → JoinedNow v x y dead app f c rest us → LinkHolds w y dead
link_kept_by_joined v w x y dead app f alive later others now past link are dials c rest us t =
    link_kept_by_end v w x y dead app f alive later others now past link are dials (step_joined v w x y dead app f alive later link dials c rest us t)
    (own_joined v w x y dead app f alive later link dials c rest us t)
