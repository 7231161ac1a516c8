-- What is on its way at one data server as an end learns of an order there, but for its own way down.
use Rattle.std.proofs.Common.{◌+◌, ◌-◌, ◌≡◌, ◌≢◌, ◌<◌, ◌≤◌, ◌⊎◌, inl, inr, ℕ, Bool, true, false, ◌&&◌, ◌==◌, if◌then◌else◌, List, length, Option, Some, None, is_some, refl, sym, ◌∙◌, ap, subst, arith}
use Rattle.std.specs.Prelude.{IfSome, IsSomeAnd}
use Rattle.std.proofs.lemmas.Bool.{and_parts, eqb-true, eq-eqb, ne_eqb, false≢true}
use Rattle.std.proofs.lemmas.List.{drop-append-le}
use Rattle.plain_orders.specs.declared.layout.Layout.{Layout}
use Rattle.plain_runs.specs.Plain.{Server, Session as PlainSession, current, order_at}
use Rattle.ecp_messages.specs.declared.up.UpFrame.{UpFrame}
use Rattle.app_rules.specs.declared.line.Line.{Line}
use Rattle.app_rules.specs.declared.line.Line.TheVariants.{Apart, Trying, Greeting, Asking, Joined}
use Rattle.app_rules.specs.AppState.{AppEnd, Session}
use Rattle.app_rules.specs.Works.{is_joined}
use Rattle.data_rules.specs.DataState.{DataState}
use Rattle.data_rules.specs.declared.rows.Role.TheVariants.{Bound}
use Rattle.data_rules.specs.Conns.{role_of}
use Rattle.data_rules.specs.Places.{epoch_place}
use Rattle.cluster_runs.specs.CoresState.{Linked}
use Rattle.cluster_runs.specs.Connections.{down_taken, link_of, with_ups}
use Rattle.cluster_runs.specs.Machine.{Site, End}
use Rattle.cluster_runs.specs.Sent.{Lane, Place, Connection}
use Rattle.cluster_invariant.specs.Dials.{CarriesNoOther, ConnectionIs, DialsAre, NodeDials, IsLinkedBy}
use Rattle.cluster_invariant.specs.Ends.{EndsAre, ToldPlace}
use Rattle.cluster_invariant.specs.Link.{AppWay, GreetsBy, GreetsOn, LaneCounts, LinkHolds, NodeLink, Unmet, UpWay, UpWayBy, UpWayOn, is_joined_on}
use Rattle.cluster_invariant.specs.Orders.{NodeOrder, OrderIs}
use Rattle.cluster_invariant.specs.Words.{has_wire, is_number, is_wire, stays_at, ups_left}
use Rattle.cluster_invariant.proofs.PastOrders.{order_now}
use Rattle.cluster_invariant.proofs.Small.{at_places, of_some, put_other, put_same, some_kept}
use Rattle.link_kept.proofs.Later.{EnteredStays, Later}
use Rattle.link_kept.proofs.AppLater.{unmet_later}
use Rattle.link_kept.proofs.ShortMoves.{told_there}
use Rattle.link_apps.proofs.EndStep.{carries_own, linked_there}
use Rattle.link_apps.proofs.EndsApps.{other_way}
use Rattle.link_apps.proofs.NodeApps.{DownsStay, NoNew}
use Rattle.link_apps.proofs.Relane.{way_relaned, with_lanes_at}
use Rattle.link_kept.proofs.ShortMoves.{firsts_there}
use Rattle.cluster_invariant.specs.Windows.{ItsHas, PlaceHas, WindowsAre}
use Rattle.link_news.proofs.NewsNode.{Hears, LaneHears, node_heard}
use Rattle.link_news.proofs.LearntSite.{LearntSite, synced_past, way_begun, way_lost, way_puts}

module _ (l : Layout) (d : ℕ) (v w : Server) (x y : Site) (dead : ℕ → Bool) (app : ℕ) (f : End) (c : Connection) (us : List UpFrame) (alive : dead app ≡ false)
    (later : Later x v w) (still : (a : ℕ) → a ≢ app → EnteredStays a v w) (now : current w ≡ current v) (order : OrderIs l d v x) (link : LinkHolds v x dead)
    (are : EndsAre v x dead) (dials : DialsAre v x dead) (told : WindowsAre x) (t : LearntSite v x y app f c us)
    (met : is_some (w.session_at t.session.number) ≡ true) where
  abbrev e : End
  e = x.end_at app

  abbrev s : ℕ
  s = t.session.number

  abbrev k : ℕ
  k = t.k

  -- a lane is the one that begins, or as it was
  lane_or : (q j : ℕ) → (y.lane_at q j ≡ x.lane_at q j) ⊎ ((q ≡ s) × (j ≡ k))
  lane_or q j = go (q == s) refl (j == k) refl
    where
      go : (a : Bool) → (q == s) ≡ a → (b : Bool) → (j == k) ≡ b → (y.lane_at q j ≡ x.lane_at q j) ⊎ ((q ≡ s) × (j ≡ k))
      go true at true is = inr (eqb-true q s at, eqb-true j k is)
      go false other b is = inl (t.elsewhere q j (λ at here. absurd (false≢true (sym other ∙ eq-eqb q s at))))
      go a at false other = inl (t.elsewhere q j (λ at here. absurd (false≢true (sym other ∙ eq-eqb j k here))))

  -- what is so of both is so of any
  by_lane : (P : Lane → Lane → Type 0) → ((a : Lane) → P a a) → P (x.lane_at s k) (y.lane_at s k) → (q j : ℕ) → P (x.lane_at q j) (y.lane_at q j)
  by_lane P same here q j = go (lane_or q j)
    where
      go : (y.lane_at q j ≡ x.lane_at q j) ⊎ ((q ≡ s) × (j ≡ k)) → P (x.lane_at q j) (y.lane_at q j)
      go (inl is) = subst (λ (a : Lane). P (x.lane_at q j) a) (sym is) (same (x.lane_at q j))
      go (inr is) =
          subst (λ (n : ℕ). P (x.lane_at n j) (y.lane_at n j)) (sym is.0)
          (subst (λ (n : ℕ). P (x.lane_at s n) (y.lane_at s n)) (sym is.1) here)

  -- another end's session isn't this one's
  other_lane : (a : ℕ) → a ≢ app → dead a ≡ false → (q : Session) → (x.end_at a).state.session ≡ Some q → (j : ℕ) → y.lane_at q.number j ≡ x.lane_at q.number j
  other_lane a other lives q its j = t.elsewhere q.number j (λ same at. other
      (go (v.session_at q.number) theirs.met (subst (λ (n : ℕ). IfSome (v.session_at n) (λ z. z.app ≡ app)) (sym same) t.mine)))
    where
      theirs : ToldPlace v a q (x.end_at a).told
      theirs = of_some (λ (z : Session). ToldPlace v a z (x.end_at a).told) (x.end_at a).state.session q its (are.told a lives).place

      go : (o : Option PlainSession) → IsSomeAnd o (λ z. (z.app ≡ a) × (z.told ≡ theirs.order)) → IfSome o (λ z. z.app ≡ app) → a ≡ app
      go None there its_app = absurd there
      go (Some z) there its_app = sym there.0 ∙ its_app

  -- nor is one that wasn't met
  unmet_lane : (a told q j : ℕ) → Unmet w (with_lanes_at x.lane_at y) a told q j → y.lane_at q j ≡ x.lane_at q j
  unmet_lane a told q j u = t.elsewhere q j (λ same at. absurd (false≢true (sym (ap is_some u.unmet) ∙ ap (λ (n : ℕ). is_some (w.session_at n)) same ∙ met)))

  -- ends

  others_kept : (a : ℕ) → a ≢ app → dead a ≡ false → AppWay w y a (x.end_at a)
  others_kept a other lives =
      way_relaned w y x.lane_at a (unmet_lane a) (x.end_at a) (mine (x.end_at a).state.session refl)
      (other_way v w x (with_lanes_at x.lane_at y) later
      (record { node = t.beside.node; order = t.beside.order; past = t.beside.past; connections = t.beside.connections; hellos = t.beside.hellos })
      (λ q j. record { began = refl; up_taken = refl; down = refl; down_taken = refl }) link.lanes a (x.end_at a) (still a other)
      (told_there v a (x.end_at a) (are.told a lives)) (firsts a (x.end_at a).state.dial) (ups (x.end_at a).state.session (x.end_at a).told)
      (link.apps a lives))
    where
      mine : (o : Option Session) → (x.end_at a).state.session ≡ o → IfSome o (λ q. (j : ℕ) → y.lane_at q.number j ≡ x.lane_at q.number j)
      mine None none = tt
      mine (Some q) its = λ j. other_lane a other lives q its j

      ups : (o : Option Session) (p : Option Place) → IfSome o (λ q. IfSome p (λ z. (x.lane_at q.number z.order).up ≡ (x.lane_at q.number z.order).up))
      ups None p = tt
      ups (Some q) None = tt
      ups (Some q) (Some z) = refl

      firsts : (a number : ℕ) → IfSome ((x.end_at a).connection_at number) (λ z. IfSome z.first (λ r. r.order ≤ current v))
      firsts a number =
          some_kept (ConnectionIs v x a number) (λ (z : Connection). IfSome z.first (λ r. r.order ≤ current v)) (λ z is. firsts_there v x a number z is)
          ((x.end_at a).connection_at number) ((dials.pairs a).each number)

  here_end : y.end_at app ≡ f
  here_end = ap (λ (g : ℕ → End). g app) t.ends ∙ put_same x.end_at app f

  there_end : (a : ℕ) → a ≢ app → y.end_at a ≡ x.end_at a
  there_end a other = ap (λ (g : ℕ → End). g a) t.ends ∙ put_other x.end_at app f a other

  -- upwards

  unjoined : (q j : ℕ) (left : List UpFrame) (whole : Bool) → UpWay (x.lane_at q j) left whole → UpWay (y.lane_at q j) left false
  unjoined q j left whole =
      by_lane (λ a b. UpWay a left whole → UpWay b left false) (λ a. way_lost a left whole)
      (way_begun t.session.window.waiting (x.lane_at s k) (y.lane_at s k) left whole t.unlearnt t.begins) q j

  -- another end
  other_ups : (q : ℕ) (z : Linked) → z.app ≢ app → UpWayBy x dead q z → UpWayBy y dead q z
  other_ups q z other is =
      subst (λ (g : End). IfSome (g.connection_at z.dial) (UpWayOn (y.lane_at q y.past) (dead z.app) g.state z.dial q)) (sym (there_end z.app other))
      (subst (λ (n : ℕ). IfSome ((x.end_at z.app).connection_at z.dial) (UpWayOn (y.lane_at q n) (dead z.app) (x.end_at z.app).state z.dial q))
      (sym t.beside.past)
      (some_kept (UpWayOn (x.lane_at q x.past) (dead z.app) (x.end_at z.app).state z.dial q)
      (UpWayOn (y.lane_at q x.past) (dead z.app) (x.end_at z.app).state z.dial q)
      (λ r at. by r (is_joined_on (dead z.app) (x.end_at z.app).state z.dial q) refl at) ((x.end_at z.app).connection_at z.dial) is))
    where
      a : AppEnd
      a = (x.end_at z.app).state

      by : (r : Connection) (b : Bool) → is_joined_on (dead z.app) a z.dial q ≡ b → UpWay (x.lane_at q x.past) (ups_left r)
          (is_joined_on (dead z.app) a z.dial q)
          → UpWay (y.lane_at q x.past) (ups_left r) (is_joined_on (dead z.app) a z.dial q)
      by r false apart at =
          subst (λ (b : Bool). UpWay (y.lane_at q x.past) (ups_left r) b) (sym apart) (unjoined q x.past (ups_left r) (is_joined_on (dead z.app) a z.dial q) at)
      by r true joined at =
          subst (λ (lane : Lane). UpWay lane (ups_left r) (is_joined_on (dead z.app) a z.dial q)) (sym (go (dead z.app) refl a.session refl parts.1)) at
        where
          parts : (is_wire (dead z.app) a z.dial && is_joined a.line ≡ true) × (is_number q a.session ≡ true)
          parts = and_parts (is_wire (dead z.app) a z.dial && is_joined a.line) (is_number q a.session) joined

          wired : is_wire (dead z.app) a z.dial ≡ true
          wired = (and_parts (is_wire (dead z.app) a z.dial) (is_joined a.line) parts.0).0

          go : (b : Bool) → dead z.app ≡ b → (o : Option Session) → a.session ≡ o → is_number q o ≡ true → y.lane_at q x.past ≡ x.lane_at q x.past
          go true gone o its number = absurd (false≢true (sym (ap (λ (b : Bool). is_wire b a z.dial) gone) ∙ wired))
          go false lives None its number = absurd (false≢true number)
          go false lives (Some r) its number =
              subst (λ (n : ℕ). y.lane_at n x.past ≡ x.lane_at n x.past) (eqb-true r.number q number) (other_lane z.app other lives r its x.past)

  -- its own end
  joined_now : (number : ℕ) → number ≡ e.state.dial → is_joined_on (dead app) f.state number s ≡ true
  joined_now number at =
      ap (λ (b : Bool). is_wire b f.state number && is_joined f.state.line && is_number s f.state.session) alive
      ∙ ap (λ (line : Line). (if has_wire line then number == f.state.dial else false) && is_joined line && is_number s f.state.session) t.line_now
      ∙ ap (λ (b : Bool). b && true && is_number s f.state.session) (eq-eqb number f.state.dial (at ∙ sym t.dial))
      ∙ ap (λ (z : Option Session). is_number s z) t.now
      ∙ eq-eqb s s refl

  unwired : (number : ℕ) → number ≢ e.state.dial → (q : ℕ) → is_joined_on (dead app) f.state number q ≡ false
  unwired number other q = ap (λ (b : Bool). b && is_joined f.state.line && is_number q f.state.session) (go (dead app))
    where
      by : (b : Bool) → (if b then number == f.state.dial else false) ≡ false
      by true = ne_eqb number f.state.dial (λ same. other (same ∙ t.dial))
      by false = refl

      go : (b : Bool) → is_wire b f.state number ≡ false
      go true = refl
      go false = by (has_wire f.state.line)

  -- on its own connection
  way_now : (q j : ℕ) → ◌≡◌ {A = Place} (record { session = s; order = k }) (record { session = q; order = j }) → c.ups_taken ≤ length c.ups
      → UpWayOn (x.lane_at q j) (dead app) e.state e.state.dial q c → UpWayOn (y.lane_at q j) (dead app) f.state e.state.dial q (with_ups us (down_taken c))
  way_now q j same low_ups way =
      subst (λ (z : Place). UpWayOn (x.lane_at z.session z.order) (dead app) e.state e.state.dial z.session c
      → UpWayOn (y.lane_at z.session z.order) (dead app) f.state e.state.dial z.session (with_ups us (down_taken c))) same
      (λ at.
      subst (λ (b : Bool). UpWay (y.lane_at s k) (ups_left (with_ups us (down_taken c))) b) (sym (joined_now e.state.dial refl))
      (subst (λ (xs : List UpFrame). UpWay (y.lane_at s k) xs true) (sym (drop-append-le c.ups_taken c.ups us low_ups))
      (way_puts t.session.window.waiting (x.lane_at s k) (y.lane_at s k) (ups_left c) us (is_joined_on (dead app) e.state e.state.dial s) t.unlearnt
      (link.lanes s k) t.begins
      t.frames t.acks at))) way

  own_ups : (q number : ℕ) (z : Connection) → e.connection_at number ≡ Some z → CarriesNoOther q x.past z → UpWayOn (x.lane_at q x.past)
      (dead app) e.state number q z
      → IfSome (f.connection_at number) (UpWayOn (y.lane_at q x.past) (dead app) f.state number q)
  own_ups q number z its carries way = go (number == e.state.dial) refl
    where
      same_conn : (a b : Connection) → ◌≡◌ {A = Option Connection} (Some a) (Some b) → a ≡ b
      same_conn a b is = cc

      here : number ≡ e.state.dial → IfSome (f.connection_at number) (UpWayOn (y.lane_at q x.past) (dead app) f.state number q)
      here at =
          subst (λ (n : ℕ). IfSome (f.connection_at n) (UpWayOn (y.lane_at q x.past) (dead app) f.state n q)) (sym at)
          (subst (λ (o : Option Connection). IfSome o (UpWayOn (y.lane_at q x.past) (dead app) f.state e.state.dial q)) (sym t.conn)
          (way_now q x.past
          (of_some (λ (p : Place). p ≡ record { session = q; order = x.past }) c.its (record { session = s; order = k }) t.carried
          (subst (CarriesNoOther q x.past) is_c carries))
          (of_some (ConnectionIs v x app e.state.dial) (e.connection_at e.state.dial) c t.its ((dials.pairs app).each e.state.dial)).ups_taken
          (subst (λ (n : ℕ). UpWayOn (x.lane_at q x.past) (dead app) e.state n q c) at
          (subst (UpWayOn (x.lane_at q x.past) (dead app) e.state number q) is_c way))))
        where
          is_c : z ≡ c
          is_c = same_conn z c (sym its ∙ ap e.connection_at at ∙ t.its)

      go : (b : Bool) → (number == e.state.dial) ≡ b → IfSome (f.connection_at number) (UpWayOn (y.lane_at q x.past) (dead app) f.state number q)
      go true at = here (eqb-true number e.state.dial at)
      go false other =
          let apart : number ≢ e.state.dial = λ same. absurd (false≢true (sym other ∙ eq-eqb number e.state.dial same)) in
          subst (λ (o : Option Connection). IfSome o (UpWayOn (y.lane_at q x.past) (dead app) f.state number q)) (sym (t.others number apart ∙ its))
          (subst (λ (b : Bool). UpWay (y.lane_at q x.past) (ups_left z) b) (sym (unwired number apart q))
          (unjoined q x.past (ups_left z) (is_joined_on (dead app) e.state number q) way))

  ups_kept : (n : DataState) → NodeDials x n → (q conn : ℕ) (z : Linked) → role_of n conn ≡ Some (Bound q) → link_of x conn ≡ Some z → UpWayBy x dead q z
      → UpWayBy y dead q z
  ups_kept n nd q conn z role its is = go (z.app == app) refl
    where
      here : (r : Connection) → e.connection_at z.dial ≡ Some r → UpWayBy x dead q (record { app = app; dial = z.dial })
          → IfSome (e.connection_at z.dial) (CarriesNoOther q x.past) → UpWayBy y dead q (record { app = app; dial = z.dial })
      here r there way carries =
          subst (λ (g : End). IfSome (g.connection_at z.dial) (UpWayOn (y.lane_at q y.past) (dead app) g.state z.dial q)) (sym here_end)
          (subst (λ (n : ℕ). IfSome (f.connection_at z.dial) (UpWayOn (y.lane_at q n) (dead app) f.state z.dial q)) (sym t.beside.past)
          (own_ups q z.dial r there (of_some (CarriesNoOther q x.past) (e.connection_at z.dial) r there carries)
          (of_some (UpWayOn (x.lane_at q x.past) (dead app) e.state z.dial q) (e.connection_at z.dial) r there way)))

      go : (b : Bool) → (z.app == app) ≡ b → UpWayBy y dead q z
      go true same =
          let there : (r : Connection) × ((x.end_at z.app).connection_at z.dial ≡ Some r) = linked_there v x dead dials conn z its in
          subst (λ (a : ℕ). UpWayBy y dead q (record { app = a; dial = z.dial })) (sym (eqb-true z.app app same))
          (here there.0 (subst (λ (a : ℕ). (x.end_at a).connection_at z.dial ≡ Some there.0) (eqb-true z.app app same) there.1)
          (subst (λ (a : ℕ). UpWayBy x dead q (record { app = a; dial = z.dial })) (eqb-true z.app app same) is)
          (subst (λ (a : ℕ). IfSome ((x.end_at a).connection_at z.dial) (CarriesNoOther q x.past)) (eqb-true z.app app same)
          (carries_own x n nd q conn z role its)))
      go false other = other_ups q z (λ same. false≢true (sym other ∙ eq-eqb z.app app same)) is

  -- ends that greet

  unmet_kept : (a known q : ℕ) → a ≢ app → Unmet v x a known q x.past → Unmet w y a known q y.past
  unmet_kept a known q other u =
      subst (λ (j : ℕ). Unmet w y a known q j) (sym t.beside.past)
      (go (unmet_later v w x (with_lanes_at x.lane_at y) later (λ p j. refl) a known q x.past (still a other) (inr order.past) u))
    where
      go : Unmet w (with_lanes_at x.lane_at y) a known q x.past → Unmet w y a known q x.past
      go r = record {
        there = r.there;
        above = r.above;
        unmet = r.unmet;
        entered = r.entered;
        opened = r.opened;
        behind = r.behind;
        unused = r.unused;
        unlearnt = ap (λ (lane : Lane). lane.began) (unmet_lane a known q x.past r) ∙ r.unlearnt;
      }

  greets_same : (q a number : ℕ) → a ≢ app → (z : End) (line : Line) → GreetsOn v x q a z number line → GreetsOn w y q a z number line
  greets_same q a number other z Apart is = tt
  greets_same q a number other z Trying is = tt
  greets_same q a number other z Greeting is = λ at. unmet_kept a z.state.told q other (is at)
  greets_same q a number other z Asking is = tt
  greets_same q a number other z Joined is = tt

  greets_kept : (q : ℕ) (z : Linked) → GreetsBy v x dead q z → GreetsBy w y dead q z
  greets_kept q z is lives = go (z.app == app) refl
    where
      go : (b : Bool) → (z.app == app) ≡ b → GreetsOn w y q z.app (y.end_at z.app) z.dial (y.end_at z.app).state.line
      go true same =
          subst (λ (a : ℕ). GreetsOn w y q a (y.end_at a) z.dial (y.end_at a).state.line) (sym (eqb-true z.app app same))
          (subst (λ (g : End). GreetsOn w y q app g z.dial g.state.line) (sym here_end)
          (subst (λ (line : Line). GreetsOn w y q app f z.dial line) (sym t.line_now) tt))
      go false other =
          let apart : z.app ≢ app = λ same. absurd (false≢true (sym other ∙ eq-eqb z.app app same)) in
          subst (λ (g : End). GreetsOn w y q z.app g z.dial g.state.line) (sym (there_end z.app apart))
          (greets_same q z.app z.dial apart (x.end_at z.app) (x.end_at z.app).state.line (is lives))

  -- the node

  hears : (n : DataState) → NodeOrder l d x.past v n → IfSome (e.connection_at e.state.dial) (ItsHas x n) → x.past ≡ k → Hears n s
  hears n its windows here = record {
    window =
        of_some (PlaceHas x n) c.its (record { session = s; order = k }) t.carried (of_some (ItsHas x n) (e.connection_at e.state.dial) c t.its windows)
        (sym here);
    synced = up;
    epoch = go t.place;
  }
    where
      last : k ≡ current v
      last = sym here ∙ order.past

      orders : order_at v k ≡ v.order
      orders = ap (order_at v) last ∙ order_now v

      place : epoch_place v.order ≡ epoch_place (order_at v k)
      place = ap epoch_place (sym orders)

      why : (m : ℕ) → (epoch_place (order_at v k) < m) ⊎ (0 < k) → (epoch_place (order_at v k) < m) ⊎ (0 < x.past)
      why m (inl is) = inl is
      why m (inr is) = inr (omega (arith, is, here))

      up : s ≤ n.synced
      up = synced_past x.past n.synced s (epoch_place (order_at v k)) v.synced v.order its.synced place (t.synced last) (why s t.place)

      same : epoch_place n.order ≡ epoch_place (order_at v k)
      same = ap epoch_place its.order ∙ place

      stays : epoch_place (order_at v k) ≤ v.synced
      stays =
          let all : stays_at v k ≡ v.synced = ap (λ (b : Bool). if b then v.synced else epoch_place (order_at v (k + 1)) - 1) (eq-eqb k (current v) last) in
          omega (arith, t.stays, all)

      go : (epoch_place (order_at v k) < s) ⊎ (0 < k) → epoch_place n.order ≤ n.synced
      go (inl is) = omega (arith, is, up, same)
      go (inr is) =
          omega (
            arith,
            same,
            synced_past x.past n.synced (epoch_place (order_at v k)) (epoch_place (order_at v k)) v.synced v.order its.synced place stays
                (inr (omega (arith, is, here))),
          )

  lane_hears : (n : DataState) → (x.past ≡ k → Hears n s) → (q : ℕ) → LaneHears n q (x.lane_at q x.past) (y.lane_at q x.past)
  lane_hears n heard q = go (lane_or q x.past)
    where
      go : (y.lane_at q x.past ≡ x.lane_at q x.past) ⊎ ((q ≡ s) × (x.past ≡ k)) → LaneHears n q (x.lane_at q x.past) (y.lane_at q x.past)
      go (inl is) =
          subst (LaneHears n q (x.lane_at q x.past)) (sym is)
          (record { up_taken = refl; down = refl; down_taken = refl; learnt = λ begun. begun; kept = inl refl })
      go (inr is) =
          subst (λ (p : ℕ). LaneHears n p (x.lane_at p x.past) (y.lane_at p x.past)) (sym is.0)
          (subst (λ (j : ℕ). LaneHears n s (x.lane_at s j) (y.lane_at s j)) (sym is.1) (record {
            up_taken = t.begins.up_taken;
            down = t.begins.down;
            down_taken = t.begins.down_taken;
            learnt = λ begun. t.begins.began;
            kept = inr (heard is.1);
          }))

  same_downs : (o : Option Connection) → DownsStay o o
  same_downs None = tt
  same_downs (Some z) = record { downs = refl; its = refl; knew = refl }

  own_stay : (number : ℕ) (b : Bool) → (number == e.state.dial) ≡ b → DownsStay (e.connection_at number) (f.connection_at number)
  own_stay number true at =
      subst (λ (n : ℕ). DownsStay (e.connection_at n) (f.connection_at n)) (sym (eqb-true number e.state.dial at))
      (subst (λ (o : Option Connection). DownsStay o (f.connection_at e.state.dial)) (sym t.its)
      (subst (DownsStay (Some c)) (sym t.conn) (record { downs = refl; its = refl; knew = refl })))
  own_stay number false other =
      subst (DownsStay (e.connection_at number))
      (sym (t.others number (λ same. absurd (false≢true (sym other ∙ eq-eqb number e.state.dial same))))) (same_downs (e.connection_at number))

  stay : (a number : ℕ) → DownsStay ((x.end_at a).connection_at number) ((y.end_at a).connection_at number)
  stay a number =
      subst (λ (g : ℕ → End). DownsStay ((x.end_at a).connection_at number) ((g a).connection_at number)) (sym t.ends)
      (at_places (λ (b : ℕ) (z : End). DownsStay ((x.end_at b).connection_at number) (z.connection_at number)) x.end_at app f
      (own_stay number (number == e.state.dial) refl)
      (λ b other. same_downs ((x.end_at b).connection_at number)) a)

  old : (conn : ℕ) → IfSome (link_of x conn) (λ z. NoNew ((x.end_at z.app).connection_at z.dial) ((y.end_at z.app).connection_at z.dial))
  old conn = go (link_of x conn) (dials.links conn)
    where
      there : (o q : Option Connection) → IsSomeAnd o (λ z. IsSomeAnd z.first (λ r. r.conn ≡ conn)) → NoNew o q
      there None q is = absurd is
      there (Some z) q is = tt

      go : (o : Option Linked) → IfSome o (IsLinkedBy x conn) → IfSome o
          (λ z. NoNew ((x.end_at z.app).connection_at z.dial) ((y.end_at z.app).connection_at z.dial))
      go None is = tt
      go (Some z) is = there ((x.end_at z.app).connection_at z.dial) ((y.end_at z.app).connection_at z.dial) is

  -- What is on its way at this data server, where its own end's way down is known and its lanes count.
  pub link_learnt : ((q j : ℕ) → LaneCounts (y.lane_at q j)) → AppWay w y app f → LinkHolds w y dead
  link_learnt counts way = record {
    lanes = counts;
    node = subst (λ (o : Option DataState). IfSome o (NodeLink w y dead)) (sym t.beside.node) (each x.node order.node dials.node link.node told);
    apps = λ a lives.
        subst (λ (g : ℕ → End). AppWay w y a (g a)) (sym t.ends)
        (at_places (λ (b : ℕ) (z : End). dead b ≡ false → AppWay w y b z) x.end_at app f (λ is. way) (λ b other is. others_kept b other is) a lives);
  }
    where
      each : (o : Option DataState) → IfSome o (NodeOrder l d x.past v) → IfSome o (NodeDials x) → IfSome o (NodeLink v x dead)
          → IfSome o (λ n. (a number : ℕ) → IfSome ((x.end_at a).connection_at number) (ItsHas x n)) → IfSome o (NodeLink w y dead)
      each None ord nd is windows = tt
      each (Some n) ord nd is windows =
          node_heard v w x y dead n later now t.beside (lane_hears n (hears n ord (windows app e.state.dial))) stay old
          (λ q conn z role its way. ups_kept n nd q conn z role its way) (λ q conn z role its greets. greets_kept q z greets) is
