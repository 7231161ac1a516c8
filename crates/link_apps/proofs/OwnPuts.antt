-- What is on its way at one data server as an application server's end puts more to its session, and takes nothing.
use Rattle.std.proofs.Common.{◌≡◌, ◌≢◌, ◌≤◌, inl, inr, ℕ, Bool, true, false, ◌&&◌, ◌==◌, if◌then◌else◌, List, ◌++◌, length, drop, map, Option, Some, None, is_some, option_map, refl, sym, ◌∙◌, ap, subst, arith}
use Rattle.std.specs.Prelude.{IfSome, unwrap_or}
use Rattle.std.specs.List.{AllByRecursion}
use Rattle.std.proofs.lemmas.Bool.{eqb-true, eq-eqb, ne_eqb, false≢true}
use Rattle.std.proofs.lemmas.List.{append-nil, drop-append-le, length-drop}
use Rattle.plain_runs.specs.Plain.{Server, current}
use Rattle.ecp_messages.specs.declared.up.Up.{Up}
use Rattle.ecp_messages.specs.declared.up.UpFrame.{UpFrame}
use Rattle.end_words.specs.Windows.{sent, numbered_from}
use Rattle.app_rules.specs.declared.line.Line.{Line}
use Rattle.app_rules.specs.declared.line.Line.TheVariants.{Apart, Trying, Greeting, Asking, Joined}
use Rattle.app_rules.specs.AppState.{AppEnd, Session, no_session}
use Rattle.app_rules.specs.Looks.{Shown}
use Rattle.app_rules.specs.Works.{is_joined, session_of}
use Rattle.cluster_runs.specs.Sent.{Place, Connection}
use Rattle.cluster_runs.specs.Machine.{Site, End}
use Rattle.cluster_runs.specs.Connections.{with_ups}
use Rattle.cluster_invariant.specs.Dials.{CarriesNoOther, ConnectionIs, DialsAre}
use Rattle.cluster_invariant.specs.Ends.{EndsAre}
use Rattle.cluster_invariant.specs.Link.{AppWay, DownBy, GreetsOn, JoinedWay, LinkHolds, Unmet, UpWay, UpWayOn, WindowIs, WithSession, is_joined_on}
use Rattle.cluster_invariant.specs.Words.{has_wire, is_number, is_wire, numbered_ups, ups_left}
use Rattle.cluster_invariant.proofs.Small.{of_some, some_kept}
use Rattle.cluster_steps.proofs.JobEnds.{LineGrows, SessionsGrow, joined_stays, put_frames, up_frame}
use Rattle.link_kept.proofs.Later.{EnteredStays, Later}
use Rattle.link_kept.proofs.AppLater.{unmet_later}
use Rattle.link_kept.proofs.ShortMoves.{firsts_there, told_there}
use Rattle.link_apps.proofs.NodeApps.{LanePut, DownsStay}
use Rattle.link_apps.proofs.EndStep.{EndStep, OwnKept, link_kept_by_end}
use Rattle.link_apps.proofs.EndsApps.{SessionsLike, down_same, down_like}
use Rattle.link_apps.proofs.PutSteps.{Own, Puts, counts_kept, lanes_put, own_after, own_of}
use Rattle.link_apps.proofs.PutsUp.{numbered_frames, acks_frames, way_put, way_sent}

sessions_like : (ms : List Up) (o q : Option Session) → SessionsGrow ms o q → SessionsLike o q
sessions_like ms None None g = tt
sessions_like ms None (Some t) g = absurd g
sessions_like ms (Some s) None g = absurd g
sessions_like ms (Some s) (Some t) g = record { number = g.number; epoch = g.epoch; normal_due = g.normal_due }

place_parts : (p : Place) (s k : ℕ) → ◌≡◌ {A = Option Place} (Some p) (Some (record { session = s; order = k })) → (p.session ≡ s) × (p.order ≡ k)
place_parts p s k same = (let is : p ≡ record { session = s; order = k } = cc in (ap (λ (z : Place). z.session) is, ap (λ (z : Place). z.order) is))

joined_at : (line : Line) → is_joined line ≡ true → line ≡ Joined
joined_at Apart is = absurd (false≢true is)
joined_at Trying is = absurd (false≢true is)
joined_at Greeting is = absurd (false≢true is)
joined_at Asking is = absurd (false≢true is)
joined_at Joined is = refl

module _ (v w : Server) (x y : Site) (dead : ℕ → Bool) (app : ℕ) (t : AppEnd) (shown : Shown) (ms : List Up) (alive : dead app ≡ false)
    (later : Later x v w) (still : EnteredStays app v w) (past : x.past ≡ current v) (link : LinkHolds v x dead) (are : EndsAre v x dead) (dials : DialsAre v x dead)
    (puts : Puts x y app t shown ms) where
  abbrev e : End
  e = x.end_at app

  abbrev fs : List UpFrame
  fs = put_frames (is_joined e.state.line) (session_of e.state).window ms

  abbrev f : End
  f = own_after (with_ups fs) t shown e

  abbrev Own_ : Session → ℕ → Type 0
  Own_ u k = Own x y app ms u k

  lanes : (s k : ℕ) → LanePut (x.lane_at s k) (y.lane_at s k)
  lanes s k = lanes_put v x y dead app t shown ms alive link are puts s k

  own_at : (s : Session) → e.state.session ≡ Some s → (k : ℕ) × Own_ s k
  own_at s its = own_of v x y dead app t shown ms alive link are puts s its

  -- its own

  same_number : (o q : Option Session) → SessionsGrow ms o q → (s : ℕ) → is_number s q ≡ is_number s o
  same_number None None g s = refl
  same_number None (Some b) g s = absurd g
  same_number (Some a) None g s = absurd g
  same_number (Some a) (Some b) g s = ap (λ (n : ℕ). n == s) g.number

  same_wire : (line : Line) → LineGrows e.state.link line t.line → has_wire t.line ≡ has_wire line
  same_wire line (inl same) = ap has_wire same
  same_wire line (inr begins) = ap has_wire begins.trying ∙ sym (ap has_wire begins.apart)

  -- whether the connection is joined is as it was
  same_joined : (number s : ℕ) → is_joined_on (dead app) t number s ≡ is_joined_on (dead app) e.state number s
  same_joined number s =
      ap (λ (b : Bool). b && is_joined t.line && is_number s t.session) (wired (dead app))
      ∙ ap (λ (b : Bool). is_wire (dead app) e.state number && b && is_number s t.session) (joined_stays e.state.link e.state.line t.line puts.grows.line)
      ∙ ap (λ (b : Bool). is_wire (dead app) e.state number && is_joined e.state.line && b) (same_number e.state.session t.session puts.grows.session s)
    where
      wired : (b : Bool) → is_wire b t number ≡ is_wire b e.state number
      wired true = refl
      wired false =
          ap (λ (z : Bool). if z then number == t.dial else false) (same_wire e.state.line puts.grows.line)
          ∙ ap (λ (n : ℕ). if has_wire e.state.line then number == n else false) puts.grows.dial

  -- on the connection that it has the frames follow what is on its way of the session
  joined_ups : (s number : ℕ) (c : Connection) → CarriesNoOther s x.past c → c.ups_taken ≤ length c.ups → number ≡ e.state.dial → is_joined e.state.line ≡ true
      → e.connection_at number ≡ Some c → UpWayOn (x.lane_at s x.past) (dead app) e.state number s c → UpWayOn (y.lane_at s x.past) (dead app) t number s (with_ups fs c)
  joined_ups s number c carries within at joined its way = go e.state.session e.told refl refl down
    where
      down : WithSession e.state.session e.told (λ u k. JoinedWay v x e.state u k c)
      down =
          subst (λ (line : Line). DownBy line v x app e c) (joined_at e.state.line joined)
          (of_some (DownBy e.state.line v x app e) (e.connection_at e.state.dial) c (ap e.connection_at (sym at) ∙ its) (link.apps app alive).down)

      done : (u : Session) (k : ℕ) → Own_ u k → u.number ≡ s → k ≡ x.past → UpWayOn (y.lane_at s x.past) (dead app) t number s (with_ups fs c)
      done u k o its_number its_order =
          subst (λ (b : Bool). UpWay (y.lane_at s x.past) (ups_left (with_ups fs c)) b) (sym (same_joined number s ∙ whole))
          (subst (λ (xs : List UpFrame). UpWay (y.lane_at s x.past) xs true) (sym (drop-append-le c.ups_taken c.ups fs within))
          (way_sent (x.lane_at s x.past) (y.lane_at s x.past) (ups_left c) fs ms (link.lanes s x.past) (lanes s x.past) (own_now.0)
          (λ none. absurd (false≢true (sym (ap is_some none) ∙ own_now.1.0)))
          (ap numbered_ups frames ∙ numbered_frames u.window.taken (sent u.window) ms ∙ ap (λ (n : ℕ). numbered_from n ms) own_now.1.1.0)
          (subst (λ (xs : List UpFrame). AllByRecursion (λ (g : UpFrame). g.ack ≤ (y.lane_at s x.past).down_taken) xs) (sym frames)
          (acks_frames u.window.taken (y.lane_at s x.past).down_taken (numbered_from (sent u.window) ms) own_now.1.1.1))
          (subst (λ (b : Bool). UpWay (x.lane_at s x.past) (ups_left c) b) whole way)))
        where
          frames : fs ≡ map (up_frame u.window.taken) (numbered_from (sent u.window) ms)
          frames =
              ap (λ (b : Bool). put_frames b (session_of e.state).window ms) joined
              ∙ ap (λ (z : Option Session). put_frames true (unwrap_or z no_session).window ms) o.its

          whole : is_joined_on (dead app) e.state number s ≡ true
          whole =
              ap (λ (b : Bool). is_wire b e.state number && is_joined e.state.line && is_number s e.state.session) alive
              ∙ ap (λ (line : Line). (if has_wire line then number == e.state.dial else false) && is_joined line && is_number s e.state.session)
              (joined_at e.state.line joined)
              ∙ ap (λ (b : Bool). b && true && is_number s e.state.session) (eq-eqb number e.state.dial at)
              ∙ ap (λ (z : Option Session). is_number s z) o.its
              ∙ eq-eqb u.number s its_number

          count : sent u.window ≡ length (x.lane_at u.number k).up
          count =
              omega (
                arith,
                ap (λ (xs : List Up). length xs) o.window.waiting,
                length-drop u.window.acked (x.lane_at u.number k).up,
                o.window.acked,
                (link.lanes u.number k).up_taken,
              )

          own_now : ((y.lane_at s x.past).up ≡ (x.lane_at s x.past).up ++ ms)
              × ((is_some (x.lane_at s x.past).began ≡ true) × ((sent u.window ≡ length (x.lane_at s x.past).up) × (u.window.taken ≤ (y.lane_at s x.past).down_taken)))
          own_now =
              subst
              (λ (n : ℕ).
              ((y.lane_at n x.past).up ≡ (x.lane_at n x.past).up ++ ms)
              × ((is_some (x.lane_at n x.past).began ≡ true) × ((sent u.window ≡ length (x.lane_at n x.past).up) × (u.window.taken ≤ (y.lane_at n x.past).down_taken))))
              its_number
              (subst
              (λ (j : ℕ).
              ((y.lane_at u.number j).up ≡ (x.lane_at u.number j).up ++ ms)
              × ((is_some (x.lane_at u.number j).began ≡ true) × ((sent u.window ≡ length (x.lane_at u.number j).up) × (u.window.taken ≤ (y.lane_at u.number j).down_taken))))
              its_order (o.more, (o.begun, (count, omega (arith, o.window.taken, (puts.lanes u.number k).down_taken)))))

      go : (o : Option Session) (p : Option Place) → e.state.session ≡ o → e.told ≡ p → WithSession o p (λ u k. JoinedWay v x e.state u k c)
          → UpWayOn (y.lane_at s x.past) (dead app) t number s (with_ups fs c)
      go None p none told is = absurd is
      go (Some u) None some told is = absurd is
      go (Some u) (Some p) some told j =
          let o : (k : ℕ) × Own_ u k = own_at u some in
          done u o.0 o.1 (ap (λ (q : Place). q.session) same) (sym (place_parts p u.number o.0 (sym told ∙ o.1.told)).1 ∙ ap (λ (q : Place). q.order) same)
        where
          same : ◌≡◌ {A = Place} (record { session = u.number; order = p.order }) (record { session = s; order = x.past })
          same = of_some (λ (q : Place). q ≡ record { session = s; order = x.past }) c.its (record { session = u.number; order = p.order }) j.its carries

  -- one that isn't joined carries no more
  apart_ups : (s number : ℕ) (c : Connection) → is_joined_on (dead app) e.state number s ≡ false → UpWayOn (x.lane_at s x.past) (dead app) e.state number s c
      → UpWayOn (y.lane_at s x.past) (dead app) t number s c
  apart_ups s number c unjoined way =
      subst (λ (b : Bool). UpWay (y.lane_at s x.past) (ups_left c) b) (sym (same_joined number s ∙ unjoined))
      (way_put (x.lane_at s x.past) (y.lane_at s x.past) (ups_left c) (is_joined_on (dead app) e.state number s) (link.lanes s x.past) (lanes s x.past) way)

  not_and : (a b c : Bool) → a ≡ false → (a && b && c) ≡ false
  not_and a b c none = ap (λ (z : Bool). z && b && c) none

  and_not : (a b c : Bool) → b ≡ false → (a && b && c) ≡ false
  and_not true b c none = ap (λ (z : Bool). z && c) none
  and_not false b c none = refl

  own_ups : (s number : ℕ) (c : Connection) → e.connection_at number ≡ Some c → CarriesNoOther s x.past c → UpWayOn (x.lane_at s x.past) (dead app) e.state number s c
      → IfSome (f.connection_at number) (UpWayOn (y.lane_at s x.past) (dead app) t number s)
  own_ups s number c its carry way =
      subst (λ (o : Option Connection). IfSome (if number == t.dial then option_map (with_ups fs) o else o) (UpWayOn (y.lane_at s x.past) (dead app) t number s)) (sym its)
      (go (number == t.dial) refl)
    where
      there : c.ups_taken ≤ length c.ups → number ≡ t.dial → (b : Bool) → is_joined e.state.line ≡ b → UpWayOn (y.lane_at s x.past) (dead app) t number s (with_ups fs c)
      there low at true joined = joined_ups s number c carry low (at ∙ puts.grows.dial) joined its way
      there low at false unjoined =
          subst (λ (xs : List UpFrame). UpWay (y.lane_at s x.past) xs (is_joined_on (dead app) t number s))
          (sym (ap (λ (us : List UpFrame). drop c.ups_taken (c.ups ++ us)) (ap (λ (b : Bool). put_frames b (session_of e.state).window ms) unjoined)
          ∙ ap (drop c.ups_taken) (append-nil c.ups)))
          (apart_ups s number c (and_not (is_wire (dead app) e.state number) (is_joined e.state.line) (is_number s e.state.session) unjoined) way)

      unwired : number ≢ t.dial → (b : Bool) → is_wire b e.state number ≡ false
      unwired other true = refl
      unwired other false = by (has_wire e.state.line)
        where
          by : (b : Bool) → (if b then number == e.state.dial else false) ≡ false
          by true = ne_eqb number e.state.dial (λ same. other (same ∙ sym puts.grows.dial))
          by false = refl

      within : c.ups_taken ≤ length c.ups
      within = (of_some (ConnectionIs v x app number) (e.connection_at number) c its ((dials.pairs app).each number)).ups_taken

      go : (b : Bool) → (number == t.dial) ≡ b → IfSome (if b then Some (with_ups fs c) else Some c) (UpWayOn (y.lane_at s x.past) (dead app) t number s)
      go true at = there within (eqb-true number t.dial at) (is_joined e.state.line) refl
      go false at =
          apart_ups s number c
          (not_and (is_wire (dead app) e.state number) (is_joined e.state.line) (is_number s e.state.session)
          (unwired (λ same. false≢true (sym at ∙ eq-eqb number t.dial same)) (dead app))) way

  -- ends that greet

  unmet_kept : (told s : ℕ) → Unmet v x app told s x.past → Unmet w y app told s y.past
  unmet_kept told s u =
      subst (λ (k : ℕ). Unmet w y app told s k) (sym puts.beside.past)
      (unmet_later v w x y later (λ q k. (puts.lanes q k).began) app told s x.past still (inr past) u)

  greets_own : (s number : ℕ) (line : Line) → GreetsOn v x s app e number line → GreetsOn w y s app f number line
  greets_own s number Apart is = tt
  greets_own s number Trying is = tt
  greets_own s number Greeting is = λ at. subst (λ (n : ℕ). Unmet w y app n s y.past) (sym puts.grows.told) (unmet_kept e.state.told s (is (at ∙ puts.grows.dial)))
  greets_own s number Asking is = tt
  greets_own s number Joined is = tt

  -- ends

  firsts : (number : ℕ) → IfSome (e.connection_at number) (λ c. IfSome c.first (λ z. z.order ≤ current v))
  firsts number =
      some_kept (ConnectionIs v x app number) (λ (c : Connection). IfSome c.first (λ z. z.order ≤ current v)) (λ c is. firsts_there v x app number c is)
      (e.connection_at number) ((dials.pairs app).each number)

  own_window : (o q : Option Session) → e.state.session ≡ o → SessionsGrow ms o q
      → IfSome q (λ s. IfSome e.told (λ p. WindowIs s.window (y.lane_at s.number p.order).up (y.lane_at s.number p.order).up_taken (y.lane_at s.number p.order).down_taken))
      × IfSome q (λ s. IfSome e.told (λ p. is_some (y.lane_at s.number p.order).began ≡ true))
  own_window o None its g = (tt, tt)
  own_window None (Some b) its g = absurd g
  own_window (Some u) (Some b) its g = go (own_at u its)
    where
      go : (k : ℕ) × Own_ u k
          → IfSome e.told (λ p. WindowIs b.window (y.lane_at b.number p.order).up (y.lane_at b.number p.order).up_taken (y.lane_at b.number p.order).down_taken)
          × IfSome e.told (λ p. is_some (y.lane_at b.number p.order).began ≡ true)
      go o =
          subst
          (λ (z : Option Place).
          IfSome z (λ p. WindowIs b.window (y.lane_at b.number p.order).up (y.lane_at b.number p.order).up_taken (y.lane_at b.number p.order).down_taken)
          × IfSome z (λ p. is_some (y.lane_at b.number p.order).began ≡ true)) (sym o.1.told)
          (subst
          (λ (n : ℕ).
          WindowIs b.window (y.lane_at n o.0).up (y.lane_at n o.0).up_taken (y.lane_at n o.0).down_taken × (is_some (y.lane_at n o.0).began ≡ true)) (sym g.number)
          (window, ap is_some (puts.lanes u.number o.0).began ∙ o.1.begun))
        where
          low : u.window.acked ≤ length (x.lane_at u.number o.0).up
          low = omega (arith, o.1.window.acked, (link.lanes u.number o.0).up_taken)

          window : WindowIs b.window (y.lane_at u.number o.0).up (y.lane_at u.number o.0).up_taken (y.lane_at u.number o.0).down_taken
          window = record {
            waiting =
                g.waiting ∙ ap (λ (xs : List Up). xs ++ ms) o.1.window.waiting ∙ sym (drop-append-le u.window.acked (x.lane_at u.number o.0).up ms low)
                ∙ ap (drop u.window.acked) (sym o.1.more) ∙ ap (λ (n : ℕ). drop n (y.lane_at u.number o.0).up) (sym g.acked);
            acked = omega (arith, g.acked, o.1.window.acked, (puts.lanes u.number o.0).up_taken);
            taken = g.taken ∙ o.1.window.taken ∙ sym (puts.lanes u.number o.0).down_taken;
          }

  own_down : IfSome (f.connection_at t.dial) (DownBy t.line w y app f)
  own_down =
      subst (λ (b : Bool). IfSome (if b then option_map (with_ups fs) (e.connection_at t.dial) else e.connection_at t.dial) (DownBy t.line w y app f))
      (sym (eq-eqb t.dial t.dial refl))
      (subst (λ (n : ℕ). IfSome (option_map (with_ups fs) (e.connection_at n)) (DownBy t.line w y app f)) (sym puts.grows.dial)
      (go (e.connection_at e.state.dial) (firsts e.state.dial) (link.apps app alive).down))
    where
      line_grown : (c : Connection) → LineGrows e.state.link e.state.line t.line → DownBy e.state.line w y app f c → DownBy t.line w y app f c
      line_grown c (inl same) is = subst (λ (line : Line). DownBy line w y app f c) (sym same) is
      line_grown c (inr begins) is = subst (λ (line : Line). DownBy line w y app f c) (sym begins.trying) tt

      go : (o : Option Connection) → IfSome o (λ c. IfSome c.first (λ z. z.order ≤ current v)) → IfSome o (DownBy e.state.line v x app e)
          → IfSome (option_map (with_ups fs) o) (DownBy t.line w y app f)
      go None low is = tt
      go (Some c) low is =
          line_grown (with_ups fs c) puts.grows.line
          (down_like e.state.line w y app e f (sessions_like ms e.state.session t.session puts.grows.session) puts.grows.link puts.grows.told refl (with_ups fs c)
          (down_same v w x y later puts.beside puts.lanes link.lanes e.state.line app e c (with_ups fs c) (record { its = refl; left = refl; first = refl; data_left = refl })
          still (told_there v app e (are.told app alive)) low is))

  own_kept : AppWay w y app f
  own_kept =
      let both : IfSome t.session (λ s. IfSome e.told (λ p. WindowIs s.window (y.lane_at s.number p.order).up (y.lane_at s.number p.order).up_taken (y.lane_at s.number p.order).down_taken))
      × IfSome t.session (λ s. IfSome e.told (λ p. is_some (y.lane_at s.number p.order).began ≡ true)) = own_window e.state.session t.session refl puts.grows.session in
      record { window = both.0; begun = both.1; down = own_down }

  -- So its end has what is owed of it.
  pub own_puts : OwnKept v w x y dead app f
  own_puts = record {
    counts = λ s k. counts_kept v x y dead app t shown ms alive link are puts s k;
    ups = λ s number c its carry way. own_ups s number c its carry way;
    greets = λ s number c its is. line_greets s number puts.grows.line is;
    way = own_kept;
  }
    where
      line_greets : (s number : ℕ) → LineGrows e.state.link e.state.line t.line → GreetsOn v x s app e number e.state.line → GreetsOn w y s app f number t.line
      line_greets s number (inl same) at = subst (λ (line : Line). GreetsOn w y s app f number line) (sym same) (greets_own s number e.state.line at)
      line_greets s number (inr begins) at = subst (λ (line : Line). GreetsOn w y s app f number line) (sym begins.trying) tt

  pub puts_step : EndStep x y app f
  puts_step = record {
    beside = puts.beside;
    ends = puts.ends;
    lanes = lanes;
    elsewhere = puts.elsewhere;
    stay = λ number. here (number == t.dial) (e.connection_at number);
  }
    where
      here : (b : Bool) (o : Option Connection) → DownsStay o (if b then option_map (with_ups fs) o else o)
      here b None = tt
      here true (Some c) = record { downs = refl; its = refl; knew = refl }
      here false (Some c) = record { downs = refl; its = refl; knew = refl }

-- The part on what is on its way at this data server, as an end puts more and takes nothing.
pub link_kept_by_puts : (v w : Server) (x y : Site) (dead : ℕ → Bool) (app : ℕ) (t : AppEnd) (shown : Shown) (ms : List Up) → dead app ≡ false → Later x v w
    → ((a : ℕ) → EnteredStays a v w) → current w ≡ current v → x.past ≡ current v → LinkHolds v x dead → EndsAre v x dead → DialsAre v x dead
    → Puts x y app t shown ms → LinkHolds w y dead
link_kept_by_puts v w x y dead app t shown ms alive later still now past link are dials puts =
    link_kept_by_end v w x y dead app
    (own_after (with_ups (put_frames (is_joined (x.end_at app).state.line) (session_of (x.end_at app).state).window ms)) t shown (x.end_at app)) alive later
    (λ a other. still a) now past link are dials (puts_step v w x y dead app t shown ms alive later (still app) past link are dials puts)
    (own_puts v w x y dead app t shown ms alive later (still app) past link are dials puts)
