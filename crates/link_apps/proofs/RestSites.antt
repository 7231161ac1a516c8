-- A site after an application server's end put and took nothing.
use Rattle.std.proofs.Common.{◌≡◌, ◌⊎◌, inl, inr, ℕ, ◌+◌, Bool, true, false, ◌==◌, if◌then◌else◌, List, [], ◌++◌, Option, Some, None, option_map, refl, sym, ◌∙◌, ap, subst}
use Rattle.std.specs.Prelude.{⊤, IfSome, not}
use Rattle.std.specs.List.{list_any}
use Rattle.std.proofs.lemmas.Bool.{eq-eqb, false≢true}
use Rattle.std.proofs.lemmas.List.{append-nil}
use Rattle.plain_runs.specs.Plain.{Server, put}
use Rattle.ecp_messages.specs.declared.up.Up.{Up}
use Rattle.ecp_messages.specs.declared.up.UpFrame.{UpFrame}
use Rattle.ecp_messages.specs.declared.down.Down.{Down}
use Rattle.end_words.specs.Windows.{sent}
use Rattle.app_rules.specs.declared.app_in.AppIn.{AppIn}
use Rattle.app_rules.specs.declared.app_in.AppIn.TheVariants as app_in
use Rattle.app_rules.specs.declared.app_outs.AppOuts.{AppOuts}
use Rattle.app_rules.specs.AppState.{AppState, AppEnd, Session}
use Rattle.app_rules.specs.Works.{end_at}
use Rattle.app_rules.specs.Looks.{Shown}
use Rattle.cluster_runs.specs.Connections.{app_leaves, at_number, carries_up, down_taken, is_index, leaves_if, ups_to, with_connection, with_ups}
use Rattle.cluster_runs.specs.Goes.{app_end, app_takes, input_site, message_from, with_state}
use Rattle.cluster_runs.specs.Lanes.{is_told_new, sent_before, told_by, with_app_step}
use Rattle.cluster_runs.specs.Machine.{Site, End}
use Rattle.cluster_runs.specs.Sent.{Lane, Place, Connection}
use Rattle.cluster_invariant.specs.Ends.{ToldPlace}
use Rattle.cluster_invariant.specs.Link.{WindowIs}
use Rattle.cluster_invariant.specs.Words.{has_wire}
use Rattle.cluster_steps.proofs.AppSites.{site_beside, site_ends}
use Rattle.link_apps.proofs.LanesApps.{given_put, site_lanes}
use Rattle.link_apps.proofs.PutSteps.{own_after}
use Rattle.link_apps.proofs.Rests.{EndRests}
use Rattle.link_apps.proofs.RestWays.{ConnRests, LaneRests, Rests}

-- lanes

pub lane_same : (a : Lane) → LaneRests a a
lane_same a = record { up = refl; down = record { began = refl; up_taken = refl; down = refl; down_taken = refl } }

-- a session that was given nothing
lane_rests : (m : Option Down) (number : ℕ) (u : Session) (frames : List UpFrame) (a : Lane) → u.window.taken ≡ a.down_taken
    → LaneRests a (with_app_step false m number (sent u.window) (Some u) frames a)
lane_rests m number u frames a taken = record {
  up = ap (λ (xs : List Up). a.up ++ xs) (given_put u.window u.window [] refl (sym (append-nil u.window.waiting))) ∙ append-nil a.up;
  down = record { began = refl; up_taken = refl; down = refl; down_taken = taken };
}

pub place_number : (p : Place) (s k : ℕ) → ◌≡◌ {A = Option Place} (Some p) (Some (record { session = s; order = k })) → p.session ≡ s
place_number p s k same = (let is : p ≡ record { session = s; order = k } = cc in ap (λ (z : Place). z.session) is)

pub none_new : (o q : Option Session) → (q ≡ o) ⊎ (q ≡ None) → is_told_new o q ≡ false
none_new o q (inl same) = subst (λ (z : Option Session). is_told_new o z ≡ false) (sym same) (go o)
  where
    go : (z : Option Session) → is_told_new z z ≡ false
    go None = refl
    go (Some s) = ap not (eq-eqb s.epoch s.epoch refl)
none_new o q (inr lost) = subst (λ (z : Option Session). is_told_new o z ≡ false) (sym lost) (go o)
  where
    go : (z : Option Session) → is_told_new z None ≡ false
    go None = refl
    go (Some s) = refl

module _ (v : Server) (x : Site) (app : ℕ) (m : Option Down) (number : ℕ) (frames : List UpFrame) where
  -- the lane of the session in the order that it is told of
  rest_lane : (s k : ℕ) (o q : Option Session) (p : Option Place) → (q ≡ o) ⊎ (q ≡ None) → IfSome o (λ u. ToldPlace v app u p)
      → IfSome o (λ u. IfSome p (λ z. WindowIs u.window (x.lane_at u.number z.order).up (x.lane_at u.number z.order).up_taken (x.lane_at u.number z.order).down_taken))
      → IfSome p (λ z. (s ≡ z.session) → (k ≡ z.order) → LaneRests (x.lane_at s k) (with_app_step false m number (sent_before o) q frames (x.lane_at s k)))
  rest_lane s k o q None rel pl wi = tt
  rest_lane s k o q (Some z) (inr lost) pl wi = λ at here.
      subst (λ (r : Option Session). LaneRests (x.lane_at s k) (with_app_step false m number (sent_before o) r frames (x.lane_at s k))) (sym lost) (lane_same (x.lane_at s k))
  rest_lane s k None q (Some z) (inl same) pl wi = λ at here.
      subst (λ (r : Option Session). LaneRests (x.lane_at s k) (with_app_step false m number 0 r frames (x.lane_at s k))) (sym same) (lane_same (x.lane_at s k))
  rest_lane s k (Some u) q (Some z) (inl same) pl wi = λ at here.
      subst (λ (r : Option Session). LaneRests (x.lane_at s k) (with_app_step false m number (sent u.window) r frames (x.lane_at s k))) (sym same)
      (lane_rests m number u frames (x.lane_at s k)
      (wi.taken
      ∙ ap (λ (n : ℕ). (x.lane_at n z.order).down_taken) (sym (place_number z u.number pl.order pl.its) ∙ sym at)
      ∙ ap (λ (n : ℕ). (x.lane_at s n).down_taken) (sym here)))

  rest_elsewhere : (s k : ℕ) (o q : Option Session) (p : Option Place) → (q ≡ o) ⊎ (q ≡ None) → IfSome o (λ u. ToldPlace v app u p)
      → IfSome o (λ u. IfSome p (λ z. (s ≡ u.number) → (k ≡ z.order) → ⊥))
      → IfSome p (λ z. (s ≡ z.session) → (k ≡ z.order) → with_app_step false m number (sent_before o) q frames (x.lane_at s k) ≡ x.lane_at s k)
  rest_elsewhere s k o q None rel pl none = tt
  rest_elsewhere s k o q (Some z) (inr lost) pl none = λ at here. ap (λ (r : Option Session). with_app_step false m number (sent_before o) r frames (x.lane_at s k)) lost
  rest_elsewhere s k None q (Some z) (inl same) pl none = λ at here. ap (λ (r : Option Session). with_app_step false m number 0 r frames (x.lane_at s k)) same
  rest_elsewhere s k (Some u) q (Some z) rel pl none = λ at here. absurd (none (at ∙ place_number z u.number pl.order pl.its) here)

-- connections

conn_same : (wired : Bool) (c : Connection) → ConnRests wired c c
conn_same wired c = record { ups = refl; ups_taken = refl; downs = refl; downs_taken = λ is. refl; its = refl; knew = refl; first = refl; data_left = refl }

-- its connections were as they were before the step's outputs
pub record TakesNone (wired : Bool) (e f : End) : Type 0 where
  pub some : (number : ℕ) (c : Connection) → e.connection_at number ≡ Some c → IfSome (f.connection_at number) (ConnRests wired c)
  pub none : (number : ℕ) → e.connection_at number ≡ None → f.connection_at number ≡ None
  pub told : f.told ≡ e.told

pub takes_same : (wired : Bool) (e : End) → TakesNone wired e e
takes_same wired e = record {
  some = λ number c its. subst (λ (o : Option Connection). IfSome o (ConnRests wired c)) (sym its) (conn_same wired c);
  none = λ number is. is;
  told = refl;
}

-- one connection is changed so that it rests
pub takes_at : (wired : Bool) (n : ℕ) (g : Connection → Connection) (e : End) → ((c : Connection) → ConnRests wired c (g c)) → TakesNone wired e (at_number n g e)
takes_at wired n g e rests = record {
  some = λ number c its.
      subst (λ (o : Option Connection). IfSome (if number == n then option_map g o else o) (ConnRests wired c)) (sym its) (go (number == n) c);
  none = λ number is. ap (λ (o : Option Connection). if number == n then option_map g o else o) is ∙ by (number == n);
  told = refl;
}
  where
    go : (b : Bool) (c : Connection) → IfSome (if b then Some (g c) else Some c) (ConnRests wired c)
    go true c = rests c
    go false c = conn_same wired c

    by : (b : Bool) → ◌≡◌ {A = Option Connection} (if b then None else None) None
    by true = refl
    by false = refl

leaves_rests : (wired : Bool) (c : Connection) → ConnRests wired c (app_leaves c)
leaves_rests wired c = record { ups = refl; ups_taken = refl; downs = refl; downs_taken = λ is. refl; its = refl; knew = refl; first = refl; data_left = refl }

-- a frame is taken, and there is no connection then
pub taken_rests : (c : Connection) → ConnRests false c (down_taken c)
taken_rests c = record {
  ups = refl;
  ups_taken = refl;
  downs = refl;
  downs_taken = λ is. absurd (false≢true is);
  its = refl;
  knew = refl;
  first = refl;
  data_left = refl;
}

-- an input that takes no frame and makes no connection at this data server
abbrev pub TakesNothing : AppIn → ℕ → Type 0
TakesNothing (app_in.Frame k frame) d = (k == d) ≡ false
TakesNothing (app_in.Connected k) d = (k == d) ≡ false
TakesNothing (app_in.NoWay k before later) d = ⊤
TakesNothing (app_in.Broken k) d = ⊤
TakesNothing (app_in.Join k) d = ⊤
TakesNothing app_in.Tick d = ⊤

pub takes_none : (wired : Bool) (d : ℕ) (input : AppIn) (n : ℕ) (e : End) → TakesNothing input d → TakesNone wired e (app_takes d input n e)
takes_none wired d (app_in.Frame k frame) n e is = subst (λ (b : Bool). TakesNone wired e (if b then at_number n down_taken e else e)) (sym is) (takes_same wired e)
takes_none wired d (app_in.Connected k) n e is = subst (λ (b : Bool). TakesNone wired e (if b then with_connection (n + 1) e else e)) (sym is) (takes_same wired e)
takes_none wired d (app_in.NoWay k before later) n e is = takes_same wired e
takes_none wired d (app_in.Broken k) n e is = go (k == d)
  where
    go : (b : Bool) → TakesNone wired e (if b then at_number n app_leaves e else e)
    go true = takes_at wired n app_leaves e (leaves_rests wired)
    go false = takes_same wired e
takes_none wired d (app_in.Join k) n e is = takes_same wired e
takes_none wired d app_in.Tick n e is = takes_same wired e

-- the connection after the step: nothing is put on it, and it is left or not
abbrev pub nothing_put : Bool → Connection → Connection
nothing_put cut c = leaves_if cut (with_ups [] c)

put_rests : (wired cut : Bool) (c d : Connection) → ConnRests wired c d → ConnRests wired c (nothing_put cut d)
put_rests wired true c d r = record {
  ups = append-nil d.ups ∙ r.ups;
  ups_taken = r.ups_taken;
  downs = r.downs;
  downs_taken = r.downs_taken;
  its = r.its;
  knew = r.knew;
  first = r.first;
  data_left = r.data_left;
}
put_rests wired false c d r = record {
  ups = append-nil d.ups ∙ r.ups;
  ups_taken = r.ups_taken;
  downs = r.downs;
  downs_taken = r.downs_taken;
  its = r.its;
  knew = r.knew;
  first = r.first;
  data_left = r.data_left;
}

-- A site at which an input made its end put and take nothing.
pub rests_at : (v : Server) (x : Site) (app d : ℕ) (input : AppIn) (outs : AppOuts) (state : AppState) (shown : ℕ → Shown) (cut : Bool)
    → IfSome (x.end_at app).state.session (λ s. ToldPlace v app s (x.end_at app).told)
    → IfSome (x.end_at app).state.session (λ s. IfSome (x.end_at app).told (λ p.
    WindowIs s.window (x.lane_at s.number p.order).up (x.lane_at s.number p.order).up_taken (x.lane_at s.number p.order).down_taken))
    → TakesNone (has_wire (end_at state d).line) (x.end_at app) (app_takes d input (x.end_at app).state.dial (x.end_at app)) → ups_to d outs.frames ≡ []
    → list_any (is_index d) outs.cuts ≡ cut → EndRests (x.end_at app).state (end_at state d)
    → Rests x (input_site app input outs state shown d x) app
    (own_after (nothing_put cut) (end_at state d) (shown d) (app_takes d input (x.end_at app).state.dial (x.end_at app)))
rests_at v x app d input outs state shown cut place window taken frames cuts rests = record {
  beside = site_beside app d outs e.state t (message_from d input) f x;
  ends = site_ends app d outs e.state t (message_from d input) f x ∙ ap (put x.end_at app) moved;
  told = taken.told;
  rests = rests;
  lanes = λ s k.
      site_lanes LaneRests lane_same app d outs e.state t (message_from d input) f x nothing s k
      (subst (λ (o : Option Place). IfSome o (λ r. (s ≡ r.session) → (k ≡ r.order) → LaneRests (x.lane_at s k) (stepped (x.lane_at s k)))) (sym told)
      (rest_lane v x app (message_from d input) e.state.dial (ups_to d outs.frames) s k e.state.session t.session e.told rests.session place window));
  elsewhere = λ s k none.
      site_lanes (λ z r. r ≡ z) (λ z. refl) app d outs e.state t (message_from d input) f x nothing s k
      (subst (λ (o : Option Place). IfSome o (λ r. (s ≡ r.session) → (k ≡ r.order) → stepped (x.lane_at s k) ≡ x.lane_at s k)) (sym told)
      (rest_elsewhere v x app (message_from d input) e.state.dial (ups_to d outs.frames) s k e.state.session t.session e.told rests.session place none));
  conns = λ number c its. go (number == t.dial) (taking.connection_at number) c (taken.some number c its);
  none = λ number is. ap (λ (o : Option Connection). if number == t.dial then option_map (nothing_put cut) o else o) (taken.none number is) ∙ by (number == t.dial);
}
  where
    e : End
    e = x.end_at app

    t : AppEnd
    t = end_at state d

    taking : End
    taking = app_takes d input e.state.dial e

    f : End
    f = app_end d outs e.state t (shown d) (message_from d input) taking

    nothing : is_told_new e.state.session t.session ≡ false
    nothing = none_new e.state.session t.session rests.session

    stepped : Lane → Lane
    stepped z = with_app_step false (message_from d input) e.state.dial (sent_before e.state.session) t.session (ups_to d outs.frames) z

    moved : f ≡ own_after (nothing_put cut) t (shown d) taking
    moved =
        ap (λ (b : Bool). carries_up d t.dial outs.frames outs.cuts (told_by b (message_from d input) e.state.dial (with_state t (shown d) taking))) nothing
        ∙ ap (λ (b : Bool). at_number t.dial (λ c. leaves_if b (with_ups (ups_to d outs.frames) c)) (with_state t (shown d) taking)) cuts
        ∙ ap (λ (us : List UpFrame). at_number t.dial (λ z. leaves_if cut (with_ups us z)) (with_state t (shown d) taking)) frames

    told : f.told ≡ e.told
    told = ap (λ (z : End). z.told) moved ∙ taken.told

    go : (b : Bool) (o : Option Connection) (c : Connection) → IfSome o (ConnRests (has_wire t.line) c)
        → IfSome (if b then option_map (nothing_put cut) o else o) (ConnRests (has_wire t.line) c)
    go true None c is = tt
    go false None c is = tt
    go true (Some q) c is = put_rests (has_wire t.line) cut c q is
    go false (Some q) c is = is

    by : (b : Bool) → ◌≡◌ {A = Option Connection} (if b then None else None) None
    by true = refl
    by false = refl
