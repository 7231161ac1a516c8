-- What is on its way at one data server as a joined end takes a frame of its session: a message more, or an acknowledgement.
use Rattle.std.proofs.Common.{◌≡◌, ◌≢◌, ◌≤◌, ◌⊎◌, inl, inr, ℕ, ◌+◌, ◌-◌, max, Bool, true, false, ◌&&◌, ◌==◌, if◌then◌else◌, List, [], ◌∷◌, ◌++◌, length, drop, Option, Some, None, is_some, refl, sym, ◌∙◌, ap, subst, arith}
use Rattle.std.specs.Prelude.{IfSome, IsSomeAnd}
use Rattle.std.specs.List.{AllByRecursion, list_all}
use Rattle.std.proofs.lemmas.Bool.{eq-eqb, ne_eqb, false≢true}
use Rattle.std.proofs.lemmas.List.{drop-append-le, drop-drop, length-drop}
use Rattle.plain_runs.specs.Plain.{Server, order_at, put}
use Rattle.ecp_messages.specs.declared.up.Up.{Up}
use Rattle.ecp_messages.specs.declared.up.UpFrame.{UpFrame}
use Rattle.ecp_messages.specs.declared.down.Down.{Down}
use Rattle.ecp_messages.specs.declared.down.DownFrame.{DownFrame}
use Rattle.end_words.specs.Windows.{numbered_from}
use Rattle.app_rules.specs.declared.line.Line.{Line}
use Rattle.app_rules.specs.declared.line.Line.TheVariants.{Joined}
use Rattle.app_rules.specs.AppState.{Session}
use Rattle.app_rules.specs.Works.{is_joined}
use Rattle.data_rules.specs.DataState.{DataState}
use Rattle.cluster_runs.specs.Sent.{Lane, Place, Connection, FirstTaken}
use Rattle.cluster_runs.specs.Machine.{Site, End}
use Rattle.cluster_runs.specs.Connections.{down_taken, with_ups}
use Rattle.cluster_invariant.specs.Ends.{EndsAre}
use Rattle.cluster_invariant.specs.Link.{DownWhole, LinkHolds, UpWay, WholeIf, WindowIs, is_in_recovery, is_joined_on, is_numbered_up}
use Rattle.cluster_invariant.specs.Words.{downs_left, is_normal_down, is_number, is_reset_down, is_wire, numbered_behind, numbered_downs, numbered_ups, stays_at, ups_left, has_wire}
use Rattle.cluster_invariant.proofs.Small.{of_some, some_kept}
use Rattle.cluster_steps.proofs.AppSites.{SameBeside}
use Rattle.link_apps.proofs.NodeApps.{LanePut}
use Rattle.link_apps.proofs.EndStep.{IsElsewhere}
use Rattle.link_apps.proofs.PutsUp.{way_sent, counts_put}
use Rattle.link_apps.proofs.JoinedNow.{JoinedNow}
use Rattle.link_apps.proofs.JoinedFirst.{JoinedFirst, joined_first}
use Rattle.link_apps.proofs.TookDown.{Counts, TakenOf, way_took, whole_took}

-- the lane of the session: more was put, and so much is taken
pub record LaneTook (ms : List Up) (taken : ℕ) (a b : Lane) : Type 0 where
  pub began : b.began ≡ a.began
  pub up : b.up ≡ a.up ++ ms
  pub up_taken : b.up_taken ≡ a.up_taken
  pub down : b.down ≡ a.down
  pub down_taken : b.down_taken ≡ taken

-- A joined end takes the first frame on its connection, and puts these messages in these frames.
pub record Takes (x y : Site) (app : ℕ) (f : End) (c : Connection) (frame : DownFrame) (rest : List DownFrame) (ms : List Up) (us : List UpFrame) : Type 0 where
  pub beside : SameBeside x y
  pub ends : y.end_at ≡ put x.end_at app f
  pub its : (x.end_at app).connection_at (x.end_at app).state.dial ≡ Some c
  pub left : downs_left c ≡ frame ∷ rest
  pub conn : f.connection_at (x.end_at app).state.dial ≡ Some (with_ups us (down_taken c))
  pub others : (number : ℕ) → number ≢ (x.end_at app).state.dial → f.connection_at number ≡ (x.end_at app).connection_at number
  pub line : (x.end_at app).state.line ≡ Joined
  pub line_now : f.state.line ≡ Joined
  pub dial : f.state.dial ≡ (x.end_at app).state.dial
  pub told : f.told ≡ (x.end_at app).told
  pub was : Session
  pub session : Session
  pub has : (x.end_at app).state.session ≡ Some was
  pub now : f.state.session ≡ Some session
  pub number : session.number ≡ was.number
  pub not_reset : is_reset_down frame.message ≡ false
  pub link : (is_normal_down frame.message ≡ true) ⊎ (f.state.link ≡ (x.end_at app).state.link)
  pub acked : session.window.acked ≡ max was.window.acked frame.ack
  pub waiting : session.window.waiting ≡ drop (frame.ack - was.window.acked) was.window.waiting ++ ms
  pub taken : ((frame.seq ≢ 0) × (session.window.taken ≡ was.window.taken + 1)) ⊎ ((frame.seq ≡ 0) × (session.window.taken ≡ was.window.taken))
  pub numbered : list_all is_numbered_up ms ≡ true
  pub frames : numbered_ups us ≡ numbered_from (session.window.acked + length (drop (frame.ack - was.window.acked) was.window.waiting)) ms
  pub acks : AllByRecursion (λ (g : UpFrame). g.ack ≤ session.window.taken) us
  -- its lane, and no other
  pub own : IfSome (x.end_at app).told (λ p. LaneTook ms session.window.taken (x.lane_at was.number p.order) (y.lane_at was.number p.order))
  pub elsewhere : (s k : ℕ) → IsElsewhere (x.end_at app) s k → y.lane_at s k ≡ x.lane_at s k

-- a message on its way was put
room_down : (n : ℕ) (ms : List Down) (z : ℕ × Down) (zs : List (ℕ × Down)) → numbered_behind n ms ≡ z ∷ zs → n + 1 ≤ length ms
room_down n ms z zs is = go (drop n ms) refl is
  where
    go : (ys : List Down) → drop n ms ≡ ys → numbered_from n ys ≡ z ∷ zs → n + 1 ≤ length ms
    go [] none same = absurd (nothing same)
      where
        nothing : ◌≡◌ {A = List (ℕ × Down)} [] (z ∷ zs) → ⊥
        nothing e = absurd cc
    go (y ∷ ys) its same = omega (arith, length-drop n ms, ap (λ (l : List Down). length l) its)

module _ (v : Server) (x y : Site) (dead : ℕ → Bool) (app : ℕ) (f : End) (alive : dead app ≡ false) (link : LinkHolds v x dead)
    (are : EndsAre v x dead) (c : Connection) (frame : DownFrame) (rest : List DownFrame) (ms : List Up) (us : List UpFrame)
    (t : Takes x y app f c frame rest ms us) where
  abbrev e : End
  e = x.end_at app

  abbrev s : Session
  s = t.was

  abbrev u : Session
  u = t.session

  place : JoinedFirst v x app s c frame rest
  place = joined_first v x dead app alive link are s c frame rest t.line t.has t.its t.left t.not_reset

  took : LaneTook ms u.window.taken (x.lane_at s.number place.place.k) (y.lane_at s.number place.place.k)
  took =
      of_some (λ (z : Place). LaneTook ms u.window.taken (x.lane_at s.number z.order) (y.lane_at s.number z.order)) e.told
      (record { session = s.number; order = place.place.k }) place.place.told t.own

  abbrev k : ℕ
  k = place.place.k

  abbrev lane : Lane
  lane = x.lane_at s.number k

  abbrev lane_now : Lane
  lane_now = y.lane_at s.number k

  counts_off : Counts frame lane lane_now
  counts_off = go t.taken
    where
      go : ((frame.seq ≢ 0) × (u.window.taken ≡ s.window.taken + 1)) ⊎ ((frame.seq ≡ 0) × (u.window.taken ≡ s.window.taken)) → Counts frame lane lane_now
      go (inl is) = inl (is.0, took.down_taken ∙ is.1 ∙ ap (λ (n : ℕ). n + 1) place.place.window.taken)
      go (inr is) = inr (is.0, took.down_taken ∙ is.1 ∙ place.place.window.taken)

  taken_of : TakenOf frame lane lane_now
  taken_of = record { counts = counts_off; down = took.down; up_taken = took.up_taken }

  no_less : lane.down_taken ≤ lane_now.down_taken
  no_less = go counts_off
    where
      go : Counts frame lane lane_now → lane.down_taken ≤ lane_now.down_taken
      go (inl is) = omega (arith, is.1)
      go (inr is) = omega (arith, is.1)

  within : lane_now.down_taken ≤ length lane_now.down
  within = go counts_off
    where
      go : Counts frame lane lane_now → lane_now.down_taken ≤ length lane_now.down
      go (inl is) =
          omega (
            arith,
            is.1,
            ap (λ (l : List Down). length l) took.down,
            room_down lane.down_taken lane.down (frame.seq, frame.message) (numbered_downs place.first.its ++ place.first.next.0)
                (place.first.next.1 ∙ ap (λ (xs : List (ℕ × Down)). xs ++ place.first.next.0) (numbered_first is.0)),
          )
        where
          numbered_first : frame.seq ≢ 0 → numbered_downs (frame ∷ place.first.its) ≡ (frame.seq, frame.message) ∷ numbered_downs place.first.its
          numbered_first some =
              ap (λ (b : Bool). if b then numbered_downs place.first.its else (frame.seq, frame.message) ∷ numbered_downs place.first.its) (ne_eqb frame.seq 0 some)
      go (inr is) = omega (arith, is.1, ap (λ (l : List Down). length l) took.down, (link.lanes s.number k).down_taken)

  lane_put : LanePut lane lane_now
  lane_put = record { began = took.began; up = (ms, took.up); up_taken = took.up_taken; down = took.down; down_taken = no_less }

  begun : lane.began ≡ None → ⊥
  begun none = false≢true (sym (ap is_some none) ∙ place.place.begun)

  -- upwards

  low : max s.window.acked frame.ack ≤ lane.up_taken
  low = omega (arith, place.place.window.acked, place.first.ack)

  in_up : lane.up_taken ≤ length lane.up
  in_up = (link.lanes s.number k).up_taken

  sent_so_far : u.window.acked + length (drop (frame.ack - s.window.acked) s.window.waiting) ≡ length lane.up
  sent_so_far =
      omega (
        arith,
        t.acked,
        length-drop (frame.ack - s.window.acked) s.window.waiting,
        ap (λ (l : List Up). length l) place.place.window.waiting,
        length-drop s.window.acked lane.up,
        place.place.window.acked,
        place.first.ack,
        in_up,
      )

  joined_was : is_joined_on (dead app) e.state e.state.dial s.number ≡ true
  joined_was =
      ap (λ (b : Bool). is_wire b e.state e.state.dial && is_joined e.state.line && is_number s.number e.state.session) alive
      ∙ ap (λ (line : Line). (if has_wire line then e.state.dial == e.state.dial else false) && is_joined line && is_number s.number e.state.session) t.line
      ∙ ap (λ (b : Bool). b && true && is_number s.number e.state.session) (eq-eqb e.state.dial e.state.dial refl)
      ∙ ap (λ (z : Option Session). is_number s.number z) t.has
      ∙ eq-eqb s.number s.number refl

  window_now : WindowIs u.window lane_now.up lane_now.up_taken lane_now.down_taken
  window_now = record {
    waiting =
        t.waiting
        ∙ ap (λ (l : List Up). drop (frame.ack - s.window.acked) l ++ ms) place.place.window.waiting
        ∙ ap (λ (l : List Up). l ++ ms) (drop-drop (frame.ack - s.window.acked) s.window.acked lane.up)
        ∙ ap (λ (n : ℕ). drop n lane.up ++ ms) so_many
        ∙ sym (drop-append-le (max s.window.acked frame.ack) lane.up ms (omega (arith, low, in_up)))
        ∙ ap (drop (max s.window.acked frame.ack)) (sym took.up)
        ∙ ap (λ (n : ℕ). drop n lane_now.up) (sym t.acked);
    acked = omega (arith, t.acked, low, took.up_taken);
    taken = sym took.down_taken;
  }
    where
      so_many : s.window.acked + (frame.ack - s.window.acked) ≡ max s.window.acked frame.ack
      so_many = omega arith

  recovery : (is_normal_down frame.message ≡ true) ⊎ (is_in_recovery f.state.link ≡ is_in_recovery e.state.link)
  recovery = go t.link
    where
      go : (is_normal_down frame.message ≡ true) ⊎ (f.state.link ≡ e.state.link) → (is_normal_down frame.message ≡ true) ⊎ (is_in_recovery f.state.link ≡ is_in_recovery e.state.link)
      go (inl is) = inl is
      go (inr is) = inr (ap is_in_recovery is)

  whole_now : WholeIf y s.number k lane_now (with_ups us (down_taken c)) rest
  whole_now at here =
      subst (λ (o : Option DataState). IfSome o (λ n. IsSomeAnd c.first (λ z. DownWhole n s.number z.conn lane_now rest))) (sym t.beside.node)
      (some_kept (λ (n : DataState). IsSomeAnd c.first (λ z. DownWhole n s.number z.conn lane (frame ∷ rest)))
      (λ (n : DataState). IsSomeAnd c.first (λ z. DownWhole n s.number z.conn lane_now rest)) (λ n got. each n c.first got) x.node
      (place.whole at (here ∙ t.beside.past)))
    where
      each : (n : DataState) (o : Option FirstTaken) → IsSomeAnd o (λ z. DownWhole n s.number z.conn lane (frame ∷ rest)) → IsSomeAnd o (λ z. DownWhole n s.number z.conn lane_now rest)
      each n None got = got
      each n (Some z) got = whole_took n s.number z.conn frame rest lane lane_now taken_of got

  pub joined_now_by_takes : JoinedNow v x y dead app f c rest us
  joined_now_by_takes = record {
    beside = t.beside;
    ends = t.ends;
    its = t.its;
    left = sym (drop-drop 1 c.downs_taken c.downs) ∙ ap (drop 1) t.left;
    conn = t.conn;
    others = t.others;
    line_now = t.line_now;
    dial = t.dial;
    told = t.told;
    was = s;
    session = u;
    has = t.has;
    now = t.now;
    number = t.number;
    k = k;
    there = place.place.there;
    told_of = place.place.told;
    carried = place.its;
    begun = ap is_some took.began ∙ place.place.begun;
    lane_put = lane_put;
    counts = counts_put lane lane_now ms lane_put took.up begun t.numbered within (link.lanes s.number k);
    elsewhere = t.elsewhere;
    window = window_now;
    up = λ at.
        way_sent lane lane_now (ups_left c) us ms (link.lanes s.number k) lane_put took.up begun (t.frames ∙ ap (λ (n : ℕ). numbered_from n ms) sent_so_far)
        (subst (λ (n : ℕ). AllByRecursion (λ (g : UpFrame). g.ack ≤ n) us) (sym took.down_taken) t.acks)
        (subst (λ (b : Bool). UpWay lane (ups_left c) b) joined_was at);
    down = way_took (order_at v k) (stays_at v k) s.number lane lane_now (is_in_recovery e.state.link) (is_in_recovery f.state.link) frame rest taken_of recovery place.first;
    whole = whole_now;
  }
