-- What is on its way at one data server as an application server's end puts and takes nothing.
use Rattle.std.proofs.Common.{◌≡◌, ◌≢◌, ◌≤◌, ◌⊎◌, inl, inr, ℕ, Bool, true, false, ◌&&◌, ◌==◌, if◌then◌else◌, List, [], length, drop, Option, Some, None, is_some, refl, sym, ◌∙◌, ap, subst, arith}
use Rattle.std.specs.Prelude.{IfSome}
use Rattle.std.specs.List.{AllByRecursion, list_all}
use Rattle.std.proofs.lemmas.Bool.{false≢true}
use Rattle.std.proofs.lemmas.List.{append-nil}
use Rattle.plain_runs.specs.Plain.{Server, current, put}
use Rattle.ecp_messages.specs.declared.up.Up.{Up}
use Rattle.ecp_messages.specs.declared.up.UpFrame.{UpFrame}
use Rattle.ecp_messages.specs.declared.down.Down.{Down}
use Rattle.ecp_messages.specs.declared.down.DownFrame.{DownFrame}
use Rattle.app_rules.specs.declared.line.Line.{Line}
use Rattle.app_rules.specs.declared.line.Line.TheVariants.{Apart, Trying, Greeting, Asking, Joined}
use Rattle.app_rules.specs.AppState.{AppEnd, Session}
use Rattle.app_rules.specs.Works.{is_joined}
use Rattle.cluster_runs.specs.Sent.{Lane, Place, Connection}
use Rattle.cluster_runs.specs.Machine.{Site, End}
use Rattle.cluster_invariant.specs.Dials.{ConnectionIs, DialsAre}
use Rattle.cluster_invariant.specs.Ends.{EndsAre}
use Rattle.cluster_invariant.specs.Link.{DownBy, GreetsOn, LaneCounts, LinkHolds, Unmet, UpWay, UpWayOn, WindowIs, is_joined_on, is_numbered_up, is_numbered_down}
use Rattle.cluster_invariant.specs.Words.{IsFront, has_wire, is_number, numbered_ups, numbered_behind, ups_left}
use Rattle.cluster_invariant.proofs.Small.{of_some, some_kept}
use Rattle.cluster_steps.proofs.AppSites.{SameBeside}
use Rattle.link_kept.proofs.Later.{EnteredStays, Later}
use Rattle.link_kept.proofs.AppLater.{unmet_later}
use Rattle.link_kept.proofs.ShortMoves.{firsts_there, told_there}
use Rattle.link_apps.proofs.NodeApps.{LanePut, DownsStay}
use Rattle.link_apps.proofs.EndStep.{EndStep, IsElsewhere, OwnKept, link_kept_by_end}
use Rattle.link_apps.proofs.EndsApps.{LaneDown, LeftSame, SessionsLike, down_same, down_like}
use Rattle.link_apps.proofs.PutsUp.{way_put}
use Rattle.link_apps.proofs.Rests.{EndRests}

-- a lane as it was, but for the acknowledgements that went out by themselves
pub record LaneRests (a b : Lane) : Type 0 where
  pub up : b.up ≡ a.up
  pub down : LaneDown a b

-- a connection as it was, but for whether the application end left it; what the end took counts only as long as it has a connection
pub record ConnRests (wired : Bool) (c d : Connection) : Type 0 where
  pub ups : d.ups ≡ c.ups
  pub ups_taken : d.ups_taken ≡ c.ups_taken
  pub downs : d.downs ≡ c.downs
  pub downs_taken : wired ≡ true → d.downs_taken ≡ c.downs_taken
  pub its : d.its ≡ c.its
  pub knew : d.knew ≡ c.knew
  pub first : d.first ≡ c.first
  pub data_left : d.data_left ≡ c.data_left

rests_left : (c d : Connection) → ConnRests true c d → LeftSame c d
rests_left c d r = record {
  its = r.its;
  left = ap (λ (n : ℕ). drop n d.downs) (r.downs_taken refl) ∙ ap (λ (fs : List DownFrame). drop c.downs_taken fs) r.downs;
  first = r.first;
  data_left = r.data_left;
}

rests_ups : (wired : Bool) (c d : Connection) → ConnRests wired c d → ups_left d ≡ ups_left c
rests_ups wired c d r = ap (λ (n : ℕ). drop n d.ups) r.ups_taken ∙ ap (λ (fs : List UpFrame). drop c.ups_taken fs) r.ups

-- A step of an application server in which its end at one data server puts and takes nothing.
pub record Rests (x y : Site) (app : ℕ) (f : End) : Type 0 where
  pub beside : SameBeside x y
  pub ends : y.end_at ≡ put x.end_at app f
  pub told : f.told ≡ (x.end_at app).told
  pub rests : EndRests (x.end_at app).state f.state
  pub lanes : (s k : ℕ) → LaneRests (x.lane_at s k) (y.lane_at s k)
  pub elsewhere : (s k : ℕ) → IsElsewhere (x.end_at app) s k → y.lane_at s k ≡ x.lane_at s k
  pub conns : (number : ℕ) (c : Connection) → (x.end_at app).connection_at number ≡ Some c → IfSome (f.connection_at number) (ConnRests (has_wire f.state.line) c)
  pub none : (number : ℕ) → (x.end_at app).connection_at number ≡ None → f.connection_at number ≡ None

pub put_of : (a b : Lane) → LaneRests a b → LanePut a b
put_of a b r = record {
  began = r.down.began;
  up = ([], r.up ∙ sym (append-nil a.up));
  up_taken = r.down.up_taken;
  down = r.down.down;
  down_taken = omega (arith, r.down.down_taken);
}

pub counts_rest : (a b : Lane) → LaneRests a b → LaneCounts a → LaneCounts b
counts_rest a b r c = record {
  up_taken = omega (arith, c.up_taken, r.down.up_taken, ap (λ (ms : List Up). length ms) r.up);
  down_taken = omega (arith, c.down_taken, r.down.down_taken, ap (λ (ms : List Down). length ms) r.down.down);
  no_up = λ none. r.up ∙ c.no_up (sym r.down.began ∙ none);
  no_down = λ none. r.down.down ∙ c.no_down (sym r.down.began ∙ none);
  ups = ap (list_all is_numbered_up) r.up ∙ c.ups;
  downs = ap (list_all is_numbered_down) r.down.down ∙ c.downs;
}

-- what goes upwards in a lane that rests
way_rest : (a b : Lane) (left : List UpFrame) (whole : Bool) → LaneRests a b → UpWay a left whole → UpWay b left whole
way_rest a b left whole r w = record {
  none = λ none. w.none (sym r.down.began ∙ none);
  next = subst (IsFront (numbered_ups left)) (sym same) w.next;
  whole = λ is. w.whole is ∙ sym same;
  acks = subst (λ (n : ℕ). AllByRecursion (λ (f : UpFrame). f.ack ≤ n) left) (sym r.down.down_taken) w.acks;
}
  where
    same : numbered_behind b.up_taken b.up ≡ numbered_behind a.up_taken a.up
    same = ap (λ (n : ℕ). numbered_behind n b.up) r.down.up_taken ∙ ap (numbered_behind a.up_taken) r.up

-- an end without a connection

unwired_joined : (dead : Bool) (t : AppEnd) (number s : ℕ) → has_wire t.line ≡ false → is_joined_on dead t number s ≡ false
unwired_joined true t number s none = refl
unwired_joined false t number s none = ap (λ (b : Bool). (if b then number == t.dial else false) && is_joined t.line && is_number s t.session) none

unwired_greets : (w : Server) (y : Site) (s app number : ℕ) (f : End) (line : Line) → has_wire line ≡ false → GreetsOn w y s app f number line
unwired_greets w y s app number f Apart none = tt
unwired_greets w y s app number f Trying none = tt
unwired_greets w y s app number f Greeting none = absurd (false≢true (sym none))
unwired_greets w y s app number f Asking none = tt
unwired_greets w y s app number f Joined none = tt

unwired_down : (line : Line) (w : Server) (y : Site) (app : ℕ) (f : End) (c : Connection) → has_wire line ≡ false → DownBy line w y app f c
unwired_down Apart w y app f c none = tt
unwired_down Trying w y app f c none = tt
unwired_down Greeting w y app f c none = absurd (false≢true (sym none))
unwired_down Asking w y app f c none = absurd (false≢true (sym none))
unwired_down Joined w y app f c none = absurd (false≢true (sym none))

pub some_any : {X : Type 0} (P : X → Type 0) → ((z : X) → P z) → (o : Option X) → IfSome o P
some_any P any None = tt
some_any P any (Some z) = any z

like_same : (o : Option Session) → SessionsLike o o
like_same None = tt
like_same (Some s) = record { number = refl; epoch = refl; normal_due = refl }

module _ (v w : Server) (x y : Site) (dead : ℕ → Bool) (app : ℕ) (f : End) (alive : dead app ≡ false) (later : Later x v w)
    (still : has_wire f.state.line ≡ true → EnteredStays app v w) (past : x.past ≡ current v) (link : LinkHolds v x dead) (are : EndsAre v x dead)
    (dials : DialsAre v x dead) (step : Rests x y app f) where
  abbrev e : End
  e = x.end_at app

  -- upwards
  rest_ups : (s number : ℕ) (c d : Connection) → ConnRests (has_wire f.state.line) c d → UpWayOn (x.lane_at s x.past) (dead app) e.state number s c
      → UpWayOn (y.lane_at s x.past) (dead app) f.state number s d
  rest_ups s number c d r way =
      subst (λ (xs : List UpFrame). UpWay (y.lane_at s x.past) xs (is_joined_on (dead app) f.state number s)) (sym (rests_ups (has_wire f.state.line) c d r)) (go step.rests.still)
    where
      go : (f.state ≡ e.state) ⊎ (has_wire f.state.line ≡ false) → UpWay (y.lane_at s x.past) (ups_left c) (is_joined_on (dead app) f.state number s)
      go (inl same) =
          subst (λ (t : AppEnd). UpWay (y.lane_at s x.past) (ups_left c) (is_joined_on (dead app) t number s)) (sym same)
          (way_rest (x.lane_at s x.past) (y.lane_at s x.past) (ups_left c) (is_joined_on (dead app) e.state number s) (step.lanes s x.past) way)
      go (inr none) =
          subst (λ (b : Bool). UpWay (y.lane_at s x.past) (ups_left c) b) (sym (unwired_joined (dead app) f.state number s none))
          (way_put (x.lane_at s x.past) (y.lane_at s x.past) (ups_left c) (is_joined_on (dead app) e.state number s) (link.lanes s x.past)
          (put_of (x.lane_at s x.past) (y.lane_at s x.past) (step.lanes s x.past)) way)

  -- greeting
  greets_line : (s number : ℕ) (line : Line) → EnteredStays app v w → GreetsOn v x s app e number line → GreetsOn w y s app e number line
  greets_line s number Apart entered is = tt
  greets_line s number Trying entered is = tt
  greets_line s number Greeting entered is = λ at.
      subst (λ (k : ℕ). Unmet w y app e.state.told s k) (sym step.beside.past)
      (unmet_later v w x y later (λ q k. (step.lanes q k).down.began) app e.state.told s x.past entered (inr past) (is at))
  greets_line s number Asking entered is = tt
  greets_line s number Joined entered is = tt

  greets_state : (s number : ℕ) (line : Line) (g : End) → g.state ≡ e.state → GreetsOn w y s app e number line → GreetsOn w y s app g number line
  greets_state s number Apart g same is = tt
  greets_state s number Trying g same is = tt
  greets_state s number Greeting g same is = subst (λ (t : AppEnd). (number ≡ t.dial) → Unmet w y app t.told s y.past) (sym same) is
  greets_state s number Asking g same is = tt
  greets_state s number Joined g same is = tt

  wire_or : (b : Bool) → has_wire f.state.line ≡ b → (has_wire f.state.line ≡ true) ⊎ (has_wire f.state.line ≡ false)
  wire_or true is = inl is
  wire_or false is = inr is

  rest_greets : (s number : ℕ) → GreetsOn v x s app e number e.state.line → GreetsOn w y s app f number f.state.line
  rest_greets s number is = go (wire_or (has_wire f.state.line) refl) step.rests.still
    where
      go : (has_wire f.state.line ≡ true) ⊎ (has_wire f.state.line ≡ false) → (f.state ≡ e.state) ⊎ (has_wire f.state.line ≡ false) → GreetsOn w y s app f number f.state.line
      go (inr none) at = unwired_greets w y s app number f f.state.line none
      go (inl wired) (inr none) = unwired_greets w y s app number f f.state.line none
      go (inl wired) (inl same) =
          subst (λ (t : AppEnd). GreetsOn w y s app f number t.line) (sym same)
          (greets_state s number e.state.line f same (greets_line s number e.state.line (still wired) is))

  -- its own way

  window_rest : (o q : Option Session) → (q ≡ o) ⊎ (q ≡ None)
      → IfSome o (λ s. IfSome e.told (λ p. WindowIs s.window (x.lane_at s.number p.order).up (x.lane_at s.number p.order).up_taken (x.lane_at s.number p.order).down_taken))
      → IfSome q (λ s. IfSome e.told (λ p. WindowIs s.window (y.lane_at s.number p.order).up (y.lane_at s.number p.order).up_taken (y.lane_at s.number p.order).down_taken))
  window_rest o q (inr lost) is =
      subst
      (λ (z : Option Session).
      IfSome z (λ s. IfSome e.told (λ p. WindowIs s.window (y.lane_at s.number p.order).up (y.lane_at s.number p.order).up_taken (y.lane_at s.number p.order).down_taken)))
      (sym lost) tt
  window_rest o q (inl same) is =
      subst
      (λ (z : Option Session).
      IfSome z (λ s. IfSome e.told (λ p. WindowIs s.window (y.lane_at s.number p.order).up (y.lane_at s.number p.order).up_taken (y.lane_at s.number p.order).down_taken)))
      (sym same)
      (some_kept
      (λ (s : Session). IfSome e.told (λ p. WindowIs s.window (x.lane_at s.number p.order).up (x.lane_at s.number p.order).up_taken (x.lane_at s.number p.order).down_taken))
      (λ (s : Session). IfSome e.told (λ p. WindowIs s.window (y.lane_at s.number p.order).up (y.lane_at s.number p.order).up_taken (y.lane_at s.number p.order).down_taken))
      (λ s at.
      some_kept (λ (p : Place). WindowIs s.window (x.lane_at s.number p.order).up (x.lane_at s.number p.order).up_taken (x.lane_at s.number p.order).down_taken)
      (λ (p : Place). WindowIs s.window (y.lane_at s.number p.order).up (y.lane_at s.number p.order).up_taken (y.lane_at s.number p.order).down_taken)
      (λ p its. lane s p its) e.told at) o is)
    where
      lane : (s : Session) (p : Place)
          → WindowIs s.window (x.lane_at s.number p.order).up (x.lane_at s.number p.order).up_taken (x.lane_at s.number p.order).down_taken
          → WindowIs s.window (y.lane_at s.number p.order).up (y.lane_at s.number p.order).up_taken (y.lane_at s.number p.order).down_taken
      lane s p its = record {
        waiting = its.waiting ∙ ap (drop s.window.acked) (sym (step.lanes s.number p.order).up);
        acked = omega (arith, its.acked, (step.lanes s.number p.order).down.up_taken);
        taken = its.taken ∙ sym (step.lanes s.number p.order).down.down_taken;
      }

  begun_rest : (o q : Option Session) → (q ≡ o) ⊎ (q ≡ None) → IfSome o (λ s. IfSome e.told (λ p. is_some (x.lane_at s.number p.order).began ≡ true))
      → IfSome q (λ s. IfSome e.told (λ p. is_some (y.lane_at s.number p.order).began ≡ true))
  begun_rest o q (inr lost) is =
      subst (λ (z : Option Session). IfSome z (λ s. IfSome e.told (λ p. is_some (y.lane_at s.number p.order).began ≡ true))) (sym lost) tt
  begun_rest o q (inl same) is =
      subst (λ (z : Option Session). IfSome z (λ s. IfSome e.told (λ p. is_some (y.lane_at s.number p.order).began ≡ true))) (sym same)
      (some_kept (λ (s : Session). IfSome e.told (λ p. is_some (x.lane_at s.number p.order).began ≡ true))
      (λ (s : Session). IfSome e.told (λ p. is_some (y.lane_at s.number p.order).began ≡ true))
      (λ s at.
      some_kept (λ (p : Place). is_some (x.lane_at s.number p.order).began ≡ true) (λ (p : Place). is_some (y.lane_at s.number p.order).began ≡ true)
      (λ p its. ap is_some (step.lanes s.number p.order).down.began ∙ its) e.told at) o is)

  firsts : (number : ℕ) (c : Connection) → e.connection_at number ≡ Some c → IfSome c.first (λ z. z.order ≤ current v)
  firsts number c its = firsts_there v x app number c (of_some (ConnectionIs v x app number) (e.connection_at number) c its ((dials.pairs app).each number))

  rest_down : IfSome (f.connection_at f.state.dial) (DownBy f.state.line w y app f)
  rest_down = go (wire_or (has_wire f.state.line) refl) step.rests.still
    where
      there : f.state ≡ e.state → has_wire f.state.line ≡ true → (c : Connection) → e.connection_at e.state.dial ≡ Some c → DownBy e.state.line v x app e c
          → IfSome (f.connection_at f.state.dial) (DownBy f.state.line w y app f)
      there same wired c its is =
          subst (λ (t : AppEnd). IfSome (f.connection_at t.dial) (DownBy t.line w y app f)) (sym same)
          (some_kept (ConnRests (has_wire f.state.line) c) (DownBy e.state.line w y app f)
          (λ d r.
          down_like e.state.line w y app e f (subst (λ (t : AppEnd). SessionsLike e.state.session t.session) (sym same) (like_same e.state.session))
          (ap (λ (t : AppEnd). t.link) same) (ap (λ (t : AppEnd). t.told) same) step.told d
          (down_same v w x y later step.beside (λ s k. (step.lanes s k).down) link.lanes e.state.line app e c d (rests_left c d (subst (λ (b : Bool). ConnRests b c d) wired r)) (still wired)
          (told_there v app e (are.told app alive)) (firsts e.state.dial c its) is)) (f.connection_at e.state.dial) (step.conns e.state.dial c its))

      none_there : e.connection_at e.state.dial ≡ None → IfSome (f.connection_at e.state.dial) (DownBy e.state.line w y app f)
      none_there none = subst (λ (o : Option Connection). IfSome o (DownBy e.state.line w y app f)) (sym (step.none e.state.dial none)) tt

      go : (has_wire f.state.line ≡ true) ⊎ (has_wire f.state.line ≡ false) → (f.state ≡ e.state) ⊎ (has_wire f.state.line ≡ false)
          → IfSome (f.connection_at f.state.dial) (DownBy f.state.line w y app f)
      go (inr none) at = some_any (DownBy f.state.line w y app f) (λ c. unwired_down f.state.line w y app f c none) (f.connection_at f.state.dial)
      go (inl wired) (inr none) = some_any (DownBy f.state.line w y app f) (λ c. unwired_down f.state.line w y app f c none) (f.connection_at f.state.dial)
      go (inl wired) (inl same) = by (e.connection_at e.state.dial) refl (link.apps app alive).down
        where
          by : (o : Option Connection) → e.connection_at e.state.dial ≡ o → IfSome o (DownBy e.state.line v x app e)
              → IfSome (f.connection_at f.state.dial) (DownBy f.state.line w y app f)
          by None none is = subst (λ (t : AppEnd). IfSome (f.connection_at t.dial) (DownBy t.line w y app f)) (sym same) (none_there none)
          by (Some c) its is = there same wired c its is

  -- So its end has what is owed of it.
  pub own_rests : OwnKept v w x y dead app f
  own_rests = record {
    counts = λ s k. counts_rest (x.lane_at s k) (y.lane_at s k) (step.lanes s k) (link.lanes s k);
    ups = λ s number c its carry way.
        some_kept (ConnRests (has_wire f.state.line) c) (UpWayOn (y.lane_at s x.past) (dead app) f.state number s) (λ d r. rest_ups s number c d r way) (f.connection_at number) (step.conns number c its);
    greets = λ s number c its is. rest_greets s number is;
    way = record {
      window =
          subst
          (λ (o : Option Place).
          IfSome f.state.session (λ s. IfSome o (λ p. WindowIs s.window (y.lane_at s.number p.order).up (y.lane_at s.number p.order).up_taken (y.lane_at s.number p.order).down_taken)))
          (sym step.told) (window_rest e.state.session f.state.session step.rests.session (link.apps app alive).window);
      begun =
          subst (λ (o : Option Place). IfSome f.state.session (λ s. IfSome o (λ p. is_some (y.lane_at s.number p.order).began ≡ true))) (sym step.told)
          (begun_rest e.state.session f.state.session step.rests.session (link.apps app alive).begun);
      down = rest_down;
    };
  }

  pub rests_step : EndStep x y app f
  rests_step = record {
    beside = step.beside;
    ends = step.ends;
    lanes = λ s k. put_of (x.lane_at s k) (y.lane_at s k) (step.lanes s k);
    elsewhere = step.elsewhere;
    stay = λ number. stays (e.connection_at number) (f.connection_at number) (step.conns number);
  }
    where
      stays : (o q : Option Connection) → ((c : Connection) → o ≡ Some c → IfSome q (ConnRests (has_wire f.state.line) c)) → DownsStay o q
      stays None q rests = tt
      stays (Some c) None rests = tt
      stays (Some c) (Some d) rests = let r : ConnRests (has_wire f.state.line) c d = rests c refl in record { downs = r.downs; its = r.its; knew = r.knew }

-- The part on what is on its way at this data server, as an end puts and takes nothing.
pub link_kept_by_rest : (v w : Server) (x y : Site) (dead : ℕ → Bool) (app : ℕ) (f : End) → dead app ≡ false → Later x v w
    → ((a : ℕ) → a ≢ app → EnteredStays a v w) → (has_wire f.state.line ≡ true → EnteredStays app v w) → current w ≡ current v → x.past ≡ current v
    → LinkHolds v x dead → EndsAre v x dead → DialsAre v x dead → Rests x y app f → LinkHolds w y dead
link_kept_by_rest v w x y dead app f alive later others still now past link are dials step =
    link_kept_by_end v w x y dead app f alive later others now past link are dials (rests_step v w x y dead app f alive later still past link are dials step)
    (own_rests v w x y dead app f alive later still past link are dials step)
