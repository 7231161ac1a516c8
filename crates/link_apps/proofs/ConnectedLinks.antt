-- The part on what is on its way, for a connection that is there: nothing is on its way but its first frame.
use Rattle.std.proofs.Common.{◌≡◌, ◌⊎◌, inl, inr, ℕ, zero, suc, ◌+◌, Bool, true, false, ◌==◌, ◌&&◌, if◌then◌else◌, List, [], ◌++◌, drop, Option, Some, None, is_some, option_map, refl, sym, ◌∙◌, ap, subst, arith}
use Rattle.std.specs.Prelude.{⊤, IfSome, not, nat_lt}
use Rattle.std.proofs.lemmas.Bool.{eq-eqb, false≢true, ne_eqb, ltb-true}
use Rattle.std.proofs.lemmas.List.{append-nil}
use Rattle.plain_runs.specs.Plain.{Server, put}
use Rattle.link_states.specs.declared.app_link.AppLink.{AppLink}
use Rattle.link_states.specs.declared.app_link.AppLink.TheVariants.{NotConnected, Normal as NormalLink, Trouble, Recovery}
use Rattle.ecp_messages.specs.declared.up.Up.{Up}
use Rattle.ecp_messages.specs.declared.up.UpFrame.{UpFrame}
use Rattle.ecp_messages.specs.declared.down.Down.{Down}
use Rattle.end_words.specs.Windows.{sent, with_ack_put}
use Rattle.app_rules.specs.declared.line.Line.{Line}
use Rattle.app_rules.specs.declared.line.Line.TheVariants.{Apart, Trying, Greeting, Asking, Joined}
use Rattle.app_rules.specs.AppState.{AppEnd, Session}
use Rattle.app_rules.specs.Works.{Sofar, end_at, is_joined, with_window}
use Rattle.app_rules.specs.Looks.{Shown}
use Rattle.cluster_runs.specs.Connections.{fresh_connection, knows, with_connection, with_ups}
use Rattle.cluster_runs.specs.Lanes.{is_told_new, sent_before, with_app_step}
use Rattle.cluster_runs.specs.Machine.{Site, End}
use Rattle.cluster_runs.specs.Sent.{Lane, Place, Connection}
use Rattle.cluster_invariant.specs.Dials.{DialsAre, is_made}
use Rattle.cluster_invariant.specs.Ends.{EndsAre, ToldPlace}
use Rattle.cluster_invariant.specs.Link.{AskedWay, DownBy, GreetsOn, LinkHolds, UpWay, UpWayOn, WindowIs, WithSession, is_joined_on}
use Rattle.cluster_invariant.specs.Words.{is_number, is_wire, ups_left}
use Rattle.cluster_steps.proofs.AppSites.{SameBeside}
use Rattle.cluster_steps.proofs.InputEnds.{ConnectedCame}
use Rattle.link_apps.proofs.EndStep.{EndStep, IsElsewhere, OwnKept}
use Rattle.link_apps.proofs.LanesApps.{given_put}
use Rattle.link_apps.proofs.NodeApps.{DownsStay}
use Rattle.link_apps.proofs.PutSteps.{own_after}
use Rattle.link_apps.proofs.PutsUp.{way_put}
use Rattle.link_apps.proofs.RestWays.{LaneRests, counts_rest, put_of}
use Rattle.link_apps.proofs.RestSites.{place_number, lane_same}
use Rattle.link_apps.proofs.RestLinks.{has}

-- a session whose window is as it was
pub record SessionRests (s u : Session) : Type 0 where
  pub number : u.number ≡ s.number
  pub epoch : u.epoch ≡ s.epoch
  pub acked : u.window.acked ≡ s.window.acked
  pub waiting : u.window.waiting ≡ s.window.waiting
  pub taken : u.window.taken ≡ s.window.taken

abbrev pub SessionsRest : Option Session → Option Session → Type 0
SessionsRest None None = ⊤
SessionsRest None (Some u) = ⊥
SessionsRest (Some s) None = ⊥
SessionsRest (Some s) (Some u) = SessionRests s u

rest_same : (o : Option Session) → SessionsRest o o
rest_same None = tt
rest_same (Some s) = record { number = refl; epoch = refl; acked = refl; waiting = refl; taken = refl }

rest_mapped : (o : Option Session) → SessionsRest o (option_map (with_window with_ack_put) o)
rest_mapped None = tt
rest_mapped (Some s) = record { number = refl; epoch = refl; acked = refl; waiting = refl; taken = refl }

-- An end that has a new connection: it greets or asks on it.
pub record Dialled (e t : AppEnd) : Type 0 where
  pub dial : t.dial ≡ e.dial + 1
  pub told : t.told ≡ e.told
  pub line : (t.line ≡ Greeting) ⊎ ((t.line ≡ Asking) × (is_some e.session ≡ true))
  pub session : SessionsRest e.session t.session

pub no_news : (o q : Option Session) → SessionsRest o q → is_told_new o q ≡ false
no_news None None r = refl
no_news None (Some u) r = absurd r
no_news (Some s) None r = absurd r
no_news (Some s) (Some u) r = ap not (eq-eqb s.epoch u.epoch (sym r.epoch))

-- lanes

pub lane_rests : (m : Option Down) (number : ℕ) (s u : Session) (frames : List UpFrame) (a : Lane) → SessionRests s u → s.window.taken ≡ a.down_taken
    → LaneRests a (with_app_step false m number (sent s.window) (Some u) frames a)
lane_rests m number s u frames a r taken = record {
  up = ap (λ (xs : List Up). a.up ++ xs) (given_put s.window u.window [] r.acked (r.waiting ∙ sym (append-nil s.window.waiting))) ∙ append-nil a.up;
  down = record { began = refl; up_taken = refl; down = refl; down_taken = r.taken ∙ taken };
}

module _ (v : Server) (x : Site) (app : ℕ) (m : Option Down) (number : ℕ) (frames : List UpFrame) where
  pub dial_lane : (s k : ℕ) (o q : Option Session) (p : Option Place) → SessionsRest o q → IfSome o (λ u. ToldPlace v app u p)
      → IfSome o (λ u. IfSome p (λ z. WindowIs u.window (x.lane_at u.number z.order).up (x.lane_at u.number z.order).up_taken (x.lane_at u.number z.order).down_taken))
      → IfSome p (λ z. (s ≡ z.session) → (k ≡ z.order) → LaneRests (x.lane_at s k) (with_app_step false m number (sent_before o) q frames (x.lane_at s k)))
  dial_lane s k o q None rel pl wi = tt
  dial_lane s k None None (Some z) rel pl wi = λ at here. lane_same (x.lane_at s k)
  dial_lane s k None (Some u) (Some z) rel pl wi = absurd rel
  dial_lane s k (Some u) None (Some z) rel pl wi = absurd rel
  dial_lane s k (Some u) (Some r) (Some z) rel pl wi = λ at here.
      lane_rests m number u r frames (x.lane_at s k) rel
      (wi.taken
      ∙ ap (λ (n : ℕ). (x.lane_at n z.order).down_taken) (sym (place_number z u.number pl.order pl.its) ∙ sym at)
      ∙ ap (λ (n : ℕ). (x.lane_at s n).down_taken) (sym here))

  pub dial_elsewhere : (s k : ℕ) (o q : Option Session) (p : Option Place) → SessionsRest o q → IfSome o (λ u. ToldPlace v app u p)
      → IfSome o (λ u. IfSome p (λ z. (s ≡ u.number) → (k ≡ z.order) → ⊥))
      → IfSome p (λ z. (s ≡ z.session) → (k ≡ z.order) → with_app_step false m number (sent_before o) q frames (x.lane_at s k) ≡ x.lane_at s k)
  dial_elsewhere s k o q None rel pl none = tt
  dial_elsewhere s k None None (Some z) rel pl none = λ at here. refl
  dial_elsewhere s k None (Some u) (Some z) rel pl none = absurd rel
  dial_elsewhere s k (Some u) q (Some z) rel pl none = λ at here. absurd (none (at ∙ place_number z u.number pl.order pl.its) here)

-- the next number is one that no connection had
unmade : (n k : ℕ) → k ≡ n + 1 → is_made n k ≡ false
unmade n zero is = refl
unmade n (suc k) is = by (nat_lt k n) refl
  where
    by : (b : Bool) → nat_lt k n ≡ b → nat_lt k n ≡ false
    by true low = absurd (omega (arith, ltb-true k n low, is))
    by false low = low

-- A site whose end has a new connection, on which nothing is but what the end put first.
module _ (v w : Server) (x y : Site) (dead : ℕ → Bool) (app : ℕ) (t : AppEnd) (shown : Shown) (us : List UpFrame) (link : LinkHolds v x dead) (are : EndsAre v x dead)
    (dials : DialsAre v x dead) (alive : dead app ≡ false) (dialled : Dialled (x.end_at app).state t) (beside : SameBeside x y)
    (ends : y.end_at ≡ put x.end_at app (own_after (with_ups us) t shown (with_connection ((x.end_at app).state.dial + 1) (x.end_at app))))
    (lanes : (s k : ℕ) → LaneRests (x.lane_at s k) (y.lane_at s k)) (elsewhere : (s k : ℕ) → IsElsewhere (x.end_at app) s k → y.lane_at s k ≡ x.lane_at s k) where
  abbrev e : End
  e = x.end_at app

  abbrev f : End
  f = own_after (with_ups us) t shown (with_connection (e.state.dial + 1) e)

  none_next : (number : ℕ) → number ≡ e.state.dial + 1 → (c : Connection) → e.connection_at number ≡ Some c → ⊥
  none_next number at c its =
      false≢true (sym ((dials.pairs app).made number ∙ unmade e.state.dial number at) ∙ ap is_some its)

  -- each connection that was there is as it was
  conn_there : (number : ℕ) (c : Connection) → e.connection_at number ≡ Some c → f.connection_at number ≡ Some c
  conn_there number c its =
      ap (λ (b : Bool). if b then option_map (with_ups us) (if number == e.state.dial + 1 then Some (fresh_connection (knows e)) else e.connection_at number)
      else if number == e.state.dial + 1 then Some (fresh_connection (knows e)) else e.connection_at number)
      (ne_eqb number t.dial (λ same. absurd (none_next number (same ∙ dialled.dial) c its)))
      ∙ ap (λ (b : Bool). if b then Some (fresh_connection (knows e)) else e.connection_at number) (ne_eqb number (e.state.dial + 1) (λ same. absurd (none_next number same c its)))
      ∙ its

  -- the new one
  conn_new : f.connection_at t.dial ≡ Some (with_ups us (fresh_connection (knows e)))
  conn_new =
      ap (λ (b : Bool). if b then option_map (with_ups us) (if t.dial == e.state.dial + 1 then Some (fresh_connection (knows e)) else e.connection_at t.dial)
      else if t.dial == e.state.dial + 1 then Some (fresh_connection (knows e)) else e.connection_at t.dial) (eq-eqb t.dial t.dial refl)
      ∙ ap (λ (b : Bool). option_map (with_ups us) (if b then Some (fresh_connection (knows e)) else e.connection_at t.dial)) (eq-eqb t.dial (e.state.dial + 1) dialled.dial)

  not_and : (a b c : Bool) → b ≡ false → (a && b && c) ≡ false
  not_and true b c none = ap (λ (z : Bool). z && c) none
  not_and false b c none = refl

  unjoined : (number s : ℕ) → is_joined_on (dead app) t number s ≡ false
  unjoined number s = not_and (is_wire (dead app) t number) (is_joined t.line) (is_number s t.session) (go dialled.line)
    where
      go : (t.line ≡ Greeting) ⊎ ((t.line ≡ Asking) × (is_some e.state.session ≡ true)) → is_joined t.line ≡ false
      go (inl is) = ap is_joined is
      go (inr is) = ap is_joined is.0

  greets_none : (s number : ℕ) (c : Connection) → e.connection_at number ≡ Some c → (line : Line) → GreetsOn w y s app f number line
  greets_none s number c its Apart = tt
  greets_none s number c its Trying = tt
  greets_none s number c its Greeting = λ at. absurd (none_next number (at ∙ dialled.dial) c its)
  greets_none s number c its Asking = tt
  greets_none s number c its Joined = tt

  place : IfSome e.state.session (λ s. ToldPlace v app s e.told)
  place = (are.told app alive).place

  windows : (o q : Option Session) (p : Option Place) → SessionsRest o q
      → IfSome o (λ s. IfSome p (λ z. WindowIs s.window (x.lane_at s.number z.order).up (x.lane_at s.number z.order).up_taken (x.lane_at s.number z.order).down_taken))
      → IfSome q (λ s. IfSome p (λ z. WindowIs s.window (y.lane_at s.number z.order).up (y.lane_at s.number z.order).up_taken (y.lane_at s.number z.order).down_taken))
  windows None None p rel is = tt
  windows None (Some u) p rel is = absurd rel
  windows (Some s) None p rel is = tt
  windows (Some s) (Some u) None rel is = tt
  windows (Some s) (Some u) (Some z) rel is =
      subst (λ (n : ℕ). WindowIs u.window (y.lane_at n z.order).up (y.lane_at n z.order).up_taken (y.lane_at n z.order).down_taken) (sym rel.number) (record {
        waiting = rel.waiting ∙ is.waiting ∙ ap (drop s.window.acked) (sym (lanes s.number z.order).up) ∙ ap (λ (n : ℕ). drop n (y.lane_at s.number z.order).up) (sym rel.acked);
        acked = omega (arith, rel.acked, is.acked, (lanes s.number z.order).down.up_taken);
        taken = rel.taken ∙ is.taken ∙ sym (lanes s.number z.order).down.down_taken;
      })

  begun_there : (o q : Option Session) (p : Option Place) → SessionsRest o q → IfSome o (λ s. IfSome p (λ z. is_some (x.lane_at s.number z.order).began ≡ true))
      → IfSome q (λ s. IfSome p (λ z. is_some (y.lane_at s.number z.order).began ≡ true))
  begun_there None None p rel is = tt
  begun_there None (Some u) p rel is = absurd rel
  begun_there (Some s) None p rel is = tt
  begun_there (Some s) (Some u) None rel is = tt
  begun_there (Some s) (Some u) (Some z) rel is =
      subst (λ (n : ℕ). is_some (y.lane_at n z.order).began ≡ true) (sym rel.number) (ap is_some (lanes s.number z.order).down.began ∙ is)

  -- nothing is on its way downwards
  down_new : DownBy t.line w y app f (with_ups us (fresh_connection (knows e)))
  down_new = go dialled.line
    where
      asked : (o q : Option Session) (p : Option Place) → is_some o ≡ true → SessionsRest o q → IfSome o (λ s. ToldPlace v app s p)
          → WithSession q p (λ s k. AskedWay w y s k (with_ups us (fresh_connection (knows e))) [])
      asked None q p some rel pl = absurd (false≢true some)
      asked (Some s) None p some rel pl = absurd rel
      asked (Some s) (Some u) None some rel pl = absurd (no_place pl.its)
        where
          no_place : {k : ℕ} → ◌≡◌ {A = Option Place} None (Some (record { session = s.number; order = k })) → ⊥
          no_place is = absurd cc
      asked (Some s) (Some u) (Some z) some rel pl = refl

      go : (t.line ≡ Greeting) ⊎ ((t.line ≡ Asking) × (is_some e.state.session ≡ true)) → DownBy t.line w y app f (with_ups us (fresh_connection (knows e)))
      go (inl is) = subst (λ (line : Line). DownBy line w y app f (with_ups us (fresh_connection (knows e)))) (sym is) refl
      go (inr is) =
          subst (λ (line : Line). DownBy line w y app f (with_ups us (fresh_connection (knows e)))) (sym is.0)
          (asked e.state.session t.session e.told is.1 dialled.session place)

  pub own_dialled : OwnKept v w x y dead app f
  own_dialled = record {
    counts = λ s k. counts_rest (x.lane_at s k) (y.lane_at s k) (lanes s k) (link.lanes s k);
    ups = λ s number c its carry way.
        subst (λ (o : Option Connection). IfSome o (UpWayOn (y.lane_at s x.past) (dead app) t number s)) (sym (conn_there number c its))
        (subst (λ (b : Bool). UpWay (y.lane_at s x.past) (ups_left c) b) (sym (unjoined number s))
        (way_put (x.lane_at s x.past) (y.lane_at s x.past) (ups_left c) (is_joined_on (dead app) e.state number s) (link.lanes s x.past)
        (put_of (x.lane_at s x.past) (y.lane_at s x.past) (lanes s x.past)) way));
    greets = λ s number c its is. greets_none s number c its t.line;
    way = record {
      window = windows e.state.session t.session e.told dialled.session (link.apps app alive).window;
      begun = begun_there e.state.session t.session e.told dialled.session (link.apps app alive).begun;
      down = subst (λ (o : Option Connection). IfSome o (DownBy t.line w y app f)) (sym conn_new) down_new;
    };
  }

  pub step_dialled : EndStep x y app f
  step_dialled = record {
    beside = beside;
    ends = ends;
    lanes = λ s k. put_of (x.lane_at s k) (y.lane_at s k) (lanes s k);
    elsewhere = elsewhere;
    stay = λ number. by number (e.connection_at number) refl;
  }
    where
      by : (number : ℕ) (o : Option Connection) → e.connection_at number ≡ o → DownsStay o (f.connection_at number)
      by number None none = tt
      by number (Some c) its = subst (DownsStay (Some c)) (sym (conn_there number c its)) (record { downs = refl; its = refl; knew = refl })

-- what a new connection makes of the end
pub dialled_by : (link : AppLink) (d now : ℕ) (e : AppEnd) (b c : Sofar) → (is_some e.session ≡ false → link ≡ NotConnected) → ConnectedCame link d now e b c
    → Dialled e (end_at c.state d)
dialled_by NotConnected d now e b c has came =
    subst (Dialled e) (sym came.end) (record { dial = refl; told = refl; line = inl refl; session = rest_same e.session })
dialled_by NormalLink d now e b c has came =
    subst (Dialled e) (sym came.end) (record { dial = refl; told = refl; line = inl refl; session = rest_same e.session })
dialled_by (Trouble broke try_at) d now e b c has came =
    subst (Dialled e) (sym came.end)
    (record { dial = refl; told = refl; line = inr (refl, there (is_some e.session) refl); session = rest_mapped e.session })
  where
    apart : Trouble broke try_at ≡ NotConnected → ⊥
    apart is = absurd cc

    there : (o : Bool) → is_some e.session ≡ o → is_some e.session ≡ true
    there true is = is
    there false is = absurd (apart (has is))
dialled_by Recovery d now e b c has came =
    subst (Dialled e) (sym came.end) (record { dial = refl; told = refl; line = inl refl; session = rest_same e.session })
