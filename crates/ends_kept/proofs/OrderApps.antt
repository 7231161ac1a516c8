-- The order of each data server stays the plain one as application servers and their jobs step.
use Rattle.std.proofs.Common.{◌≡◌, ◌≢◌, ◌<◌, ◌≤◌, ◌+◌, ◌&&◌, ◌==◌, ℕ, Bool, true, false, not, List, ◌++◌, Option, Some, None, is_some, option_map, refl, sym, ◌∙◌, ap, subst, inl, inr, arith, eqb, if◌then◌else◌}
use Rattle.std.specs.Prelude.{IfSome, IsSomeAnd}
use Rattle.std.specs.List.{AllByRecursion}
use Rattle.std.proofs.lemmas.Bool.{eq-eqb, ne_eqb, false≢true}
use Rattle.plain_orders.specs.declared.act.Act.{Act}
use Rattle.plain_orders.specs.declared.layout.Layout.{Layout}
use Rattle.plain_orders.specs.declared.entry.Entry.{Entry}
use Rattle.plain_runs.specs.Plain.{Plain, Server, Session as PlainSession, current, start, put}
use Rattle.plain_runs.specs.Run.{IsRun, after_all, state_after}
use Rattle.plain_runs.proofs.Issued.{issued_kept}
use Rattle.plain_runs.proofs.RunLemmas.{after_all-append}
use Rattle.ecp_messages.specs.declared.down.Down.{Down}
use Rattle.ecp_messages.specs.declared.down.Down.TheVariants.{Welcome, Reset, Block, Drop, Ack, Grant, Answer, Normal, Bare}
use Rattle.ecp_messages.specs.declared.down.DownFrame.{DownFrame}
use Rattle.app_rules.specs.declared.app_in.AppIn.{AppIn}
use Rattle.app_rules.specs.declared.app_in.AppIn.TheVariants as app_in
use Rattle.app_rules.specs.declared.app_outs.AppOuts.{AppOuts}
use Rattle.app_rules.specs.AppState.{AppState, AppEnd, Session}
use Rattle.app_rules.specs.AppStep.{made}
use Rattle.app_rules.specs.Looks.{Shown}
use Rattle.app_rules.specs.Works.{end_at, begun}
use Rattle.app_rules.proofs.StepLaws.{steps_at_one_end}
use Rattle.cluster_runs.specs.CoresState.{CoresState}
use Rattle.cluster_runs.specs.declared.move_outs.MoveOuts.{MoveOuts}
use Rattle.cluster_runs.specs.declared.moves.Move.TheVariants.{App}
use Rattle.cluster_runs.specs.Lanes.{its_of, told_by, is_told_new, with_app_step, sent_before}
use Rattle.cluster_runs.specs.Connections.{ups_to, down_taken, at_number, with_connection, app_leaves}
use Rattle.cluster_runs.specs.Goes.{AppGoes, app_end, app_takes, input_site, at_told, with_state, message_from, past_with}
use Rattle.cluster_runs.specs.Machine.{Machine, Site, End, app_state, end_state, DataConnection}
use Rattle.cluster_runs.specs.Mirrors.{Mirrors}
use Rattle.cluster_runs.specs.Moves.{Allowed, AppTakes}
use Rattle.cluster_runs.specs.Sent.{Connection, Lane, Place}
use Rattle.cluster_invariant.specs.Ends.{ToldPlace}
use Rattle.cluster_invariant.specs.Holds.{Holds}
use Rattle.cluster_invariant.specs.Orders.{OrderIs, NodeOrder}
use Rattle.cluster_invariant.proofs.AppActs.{Leaves, app_step_leaves}
use Rattle.cluster_invariant.proofs.OrderBeside.{SameOrders, rows_same, leaves_orders}
use Rattle.cluster_invariant.proofs.OrderKept.{order_kept_beside}
use Rattle.cluster_invariant.proofs.OrderMoves.{OrdersHold}
use Rattle.cluster_steps.proofs.AppSites.{SameBeside, site_beside, app_ends}
use Rattle.cluster_steps.proofs.InputsBring.{WelcomeTold}
use Rattle.cluster_steps.proofs.Outcomes.{EndKept, SessionKept, InputTold, input_told}
use Rattle.ends_kept.proofs.MetTold.{new_on, epoch_on, EpochOn}
use Rattle.ends_kept.proofs.PairTables.{line_has}
use Rattle.ends_kept.proofs.TablesMoves.{app_may}
use Rattle.ends_kept.proofs.TakenDown.{Taken, taken_down}
use Rattle.app_rules.specs.declared.app_in.AppIn.TheVariants.{Frame}
use Rattle.cluster_invariant.specs.Link.{NewWelcomeOn}
use Rattle.ecp_messages.specs.declared.up.UpFrame.{UpFrame}
use Rattle.data_rules.specs.DataState.{DataState}
use Rattle.cluster_steps.proofs.FrameCases.{LineHas}
use Rattle.cluster_invariant.proofs.Small.{of_some}

-- the order that an end is told of was there, of a data server that was opened
abbrev pub PlaceThere : Server → Option Session → Option Place → Type 0
PlaceThere v None o = Unit {0}
PlaceThere v (Some t) o = IfSome o (λ p. (p.order ≤ current v) × (v.opened ≡ true))

-- a data server that was never opened has no session
opened_by : (l : Layout) (acts : List Act) (d n : ℕ) → IsRun l acts → is_some (((state_after l acts).server_at d).entered_at n) ≡ true → ((state_after l acts).server_at d).opened ≡ true
opened_by l acts d n run there = go ((state_after l acts).server_at d).opened refl
  where
    go : (b : Bool) → ((state_after l acts).server_at d).opened ≡ b → ((state_after l acts).server_at d).opened ≡ true
    go true is = is
    go false is = absurd (false≢true (sym ((issued_kept l acts d run).fresh is n) ∙ there))

some_and : (P : PlainSession → Type 0) (o : Option PlainSession) → IsSomeAnd o P → is_some o ≡ true
some_and P None h = absurd h
some_and P (Some s) h = refl

-- as a move begins
pub place_there : (l : Layout) (m : Machine) (app d : ℕ) (o : Option Session) (q : Option Place) → IsRun l m.trail → IfSome o (λ s. ToldPlace ((state_after l m.trail).server_at d) app s q) → PlaceThere ((state_after l m.trail).server_at d) o q
place_there l m app d None q run h = tt
place_there l m app d (Some s) None run h = tt
place_there l m app d (Some s) (Some p) run h = (
  omega (arith, h.there, order_of p h.order h.its),
  opened_by l m.trail d s.number run ((issued_kept l m.trail d run).met s.number (some_and _ (((state_after l m.trail).server_at d).session_at s.number) h.met)),
)
  where
    order_of : (y : Place) (k : ℕ) → Some y ≡ Some (record { session = s.number; order = k }) → k ≡ y.order
    order_of y k same = cc (same)

-- what an end is told of after a step

pub no_news : (o q : Option Session) → SessionKept o q → is_told_new o q ≡ false
no_news None None k = refl
no_news None (Some t) k = absurd k
no_news (Some s) None k = refl
no_news (Some s) (Some t) k = ap not (eq-eqb s.epoch t.epoch (sym k.1))

pub takes_told : (d : ℕ) (input : AppIn) (n : ℕ) (e : End) → (app_takes d input n e).told ≡ e.told
takes_told d (app_in.Frame k frame) n e = go (k == d)
  where
    go : (b : Bool) → (if b then at_number n down_taken e else e).told ≡ e.told
    go true = refl
    go false = refl
takes_told d (app_in.Connected k) n e = go (k == d)
  where
    go : (b : Bool) → (if b then with_connection (n + 1) e else e).told ≡ e.told
    go true = refl
    go false = refl
takes_told d (app_in.NoWay k before later) n e = refl
takes_told d (app_in.Broken k) n e = go (k == d)
  where
    go : (b : Bool) → (if b then at_number n app_leaves e else e).told ≡ e.told
    go true = refl
    go false = refl
takes_told d (app_in.Join k) n e = refl
takes_told d app_in.Tick n e = refl

-- an end that was told something new has the place that its connection says
pub told_new : (b : Bool) (m : Option Down) (n : ℕ) (e : End) → b ≡ true → (told_by b m n e).told ≡ its_of (e.connection_at n)
told_new true m n e is = refl
told_new false m n e is = absurd (false≢true is)

-- a frame that was taken changes not whose messages the connection carries
pub takes_its : (d : ℕ) (frame : DownFrame) (e : End) (y : Connection) → e.connection_at e.state.dial ≡ Some y → its_of ((app_takes d (app_in.Frame d frame) e.state.dial e).connection_at e.state.dial) ≡ y.its
takes_its d frame e y is = ap (λ (b : Bool). its_of ((if b then at_number e.state.dial down_taken e else e).connection_at e.state.dial)) (eq-eqb d d refl) ∙ go (eqb e.state.dial e.state.dial) (eq-eqb e.state.dial e.state.dial refl)
  where
    go : (b : Bool) → b ≡ true → its_of (if b then option_map down_taken (e.connection_at e.state.dial) else e.connection_at e.state.dial) ≡ y.its
    go true same = ap (λ (o : Option Connection). its_of (option_map down_taken o)) is
    go false same = absurd (cc (same))

-- nothing new
kept_there : (v : Server) (o q : Option Session) (p : Option Place) → SessionKept o q → PlaceThere v o p → PlaceThere v q p
kept_there v o None p k h = tt
kept_there v None (Some t) p k h = absurd k
kept_there v (Some s) (Some t) p k h = h

-- a Welcome that told something
told_there : (v : Server) (o : Option Session) (k : ℕ) (n : ℕ) → k ≤ current v → v.opened ≡ true → PlaceThere v o (Some (record { session = n; order = k }))
told_there v None k n low is_open = tt
told_there v (Some t) k n low is_open = (low, is_open)

-- the end's place after a step
pub place_after : (v : Server) (o q : Option Session) (before : Option Place) (m : Option Down) (n : ℕ) (e : End) → e.told ≡ before → PlaceThere v o before → (b : Bool) → is_told_new o q ≡ b
    → (b ≡ true → PlaceThere v q (its_of (e.connection_at n))) → PlaceThere v q (told_by b m n e).told
place_after v o q before m n e same old true is new = new refl
place_after v o q before m n e same old false is new = subst (λ (p : Option Place). PlaceThere v q p) (sym same) (by o q is old)
  where
    by : (o q : Option Session) → is_told_new o q ≡ false → PlaceThere v o before → PlaceThere v q before
    by o None is h = tt
    by None (Some t) is h = absurd (false≢true (sym is))
    by (Some s) (Some t) is h = h

-- an input tells an end of an order that was there
input_place : (input : AppIn) (l : Layout) (c : CoresState) (m : Machine) (app d now : ℕ) (state : AppState) (outs : AppOuts) (shown : Shown) → Holds l m → IsRun l m.trail → Mirrors c m → app < c.layout.apps → m.is_dead_at app ≡ false
    → AppTakes c app input → InputTold input d now (begun (app_state m app)) (made state outs)
    → PlaceThere ((state_after l m.trail).server_at d) (end_at state d).session
    (app_end d outs ((m.site_at d).end_at app).state (end_at state d) shown (message_from d input) (app_takes d input ((m.site_at d).end_at app).state.dial ((m.site_at d).end_at app))).told
input_place input l c m app d now state outs shown h run shows known alive takes told =
    place_after v e.state.session (end_at state d).session e.told (message_from d input) e.state.dial (with_state (end_at state d) shown (app_takes d input e.state.dial e)) (takes_told d input e.state.dial e)
    (place_there l m app d e.state.session e.told run ((h.sites d).ends.told app alive).place) (is_told_new e.state.session (end_at state d).session) refl (λ is. news input takes told is)
  where
    v : Server
    v = (state_after l m.trail).server_at d

    e : End
    e = (m.site_at d).end_at app

    same : end_at (app_state m app) d ≡ e.state
    same = app_ends c m app d shows known

    -- nothing new was told
    none : (i : AppIn) → EndKept (end_at (app_state m app) d) (end_at state d) → is_told_new e.state.session (end_at state d).session ≡ true → PlaceThere v (end_at state d).session (its_of ((app_takes d i e.state.dial e).connection_at e.state.dial))
    none i k is = absurd (false≢true (sym (no_news e.state.session (end_at state d).session (subst (λ (x : AppEnd). SessionKept x.session (end_at state d).session) same k.session)) ∙ is))

    -- a Welcome did
    welcome : (w : Down) (frame : DownFrame) → frame.message ≡ w → AppTakes c app (app_in.Frame d frame) → WelcomeTold w d now (end_at (app_state m app) d) (begun (app_state m app)) (made state outs)
        → PlaceThere v (end_at state d).session (its_of ((app_takes d (app_in.Frame d frame) e.state.dial e).connection_at e.state.dial))
    welcome (Welcome session epoch kept front taken) frame message takes (inl x) =
        subst (λ (p : Option Place). PlaceThere v (end_at state d).session p) (sym (takes_its d frame e t.connection t.its ∙ w.its)) (told_there v (end_at state d).session w.order session w.unmet.there (opened_by l m.trail d session run (ap is_some w.unmet.entered)))
      where
        t : Taken e frame
        t = taken_down c m app d frame shows takes

        w : NewWelcomeOn v (m.site_at d) app e.state.told t.connection session epoch kept front taken
        w = new_on l m app d frame session epoch kept front taken h alive t message (ap (λ (y : AppEnd). y.line) (sym same) ∙ x.greeting)
    welcome (Welcome session epoch kept front taken) frame message takes (inr x) =
        subst (λ (p : Option Place). PlaceThere v (end_at state d).session p) (sym (takes_its d frame e t.connection t.its ∙ w.welcome.its))
        (told_there v (end_at state d).session w.welcome.order x.session.number w.welcome.says.there (open_of (place_there l m app d (Some x.session) e.told run (subst (λ (o : Option Session). IfSome o (λ s. ToldPlace v app s e.told)) there ((h.sites d).ends.told app alive).place)) ((of_some (λ y. ToldPlace v app y e.told) e.state.session x.session there ((h.sites d).ends.told app alive).place).its)))
      where
        t : Taken e frame
        t = taken_down c m app d frame shows takes

        there : e.state.session ≡ Some x.session
        there = ap (λ (y : AppEnd). y.session) (sym same) ∙ x.its

        w : EpochOn v (m.site_at d) x.session t.connection session epoch kept front taken t.behind
        w = epoch_on l m app d frame x.session session epoch kept front taken h alive t message (ap (λ (y : AppEnd). y.line) (sym same) ∙ x.asking) there x.later

        open_of : {k : ℕ} {o : Option Place} → PlaceThere v (Some x.session) o → o ≡ Some (record { session = x.session.number; order = k }) → v.opened ≡ true
        open_of {k} {o} p is = (subst (λ (y : Option Place). PlaceThere v (Some x.session) y) is p).1
    welcome (Reset session at) frame message takes x = absurd x
    welcome (Block front block) frame message takes x = absurd x
    welcome (Drop front lo hi) frame message takes x = absurd x
    welcome (Ack front) frame message takes x = absurd x
    welcome (Grant front ticket at) frame message takes x = absurd x
    welcome (Answer front about job number at sum) frame message takes x = absurd x
    welcome (Normal front) frame message takes x = absurd x
    welcome Bare frame message takes x = absurd x

    news : (i : AppIn) → AppTakes c app i → InputTold i d now (begun (app_state m app)) (made state outs) → is_told_new e.state.session (end_at state d).session ≡ true
        → PlaceThere v (end_at state d).session (its_of ((app_takes d i e.state.dial e).connection_at e.state.dial))
    news (app_in.Frame k frame) takes (inl x) is = none (app_in.Frame k frame) x is
    news (app_in.Frame k frame) takes (inr x) is = at_server k x.0 takes x.1
      where
        at_server : (k : ℕ) → d ≡ k → AppTakes c app (app_in.Frame k frame) → WelcomeTold frame.message k now (end_at (app_state m app) k) (begun (app_state m app)) (made state outs)
            → PlaceThere v (end_at state d).session (its_of ((app_takes d (app_in.Frame k frame) e.state.dial e).connection_at e.state.dial))
        at_server k is takes x =
            subst (λ n. AppTakes c app (app_in.Frame n frame) → WelcomeTold frame.message n now (end_at (app_state m app) n) (begun (app_state m app)) (made state outs) → PlaceThere v (end_at state d).session (its_of ((app_takes d (app_in.Frame n frame) e.state.dial e).connection_at e.state.dial))) is
            (welcome frame.message frame refl) takes x
    news (app_in.Connected k) takes x is = none (app_in.Connected k) x is
    news (app_in.NoWay k before later) takes x is = none (app_in.NoWay k before later) x is
    news (app_in.Broken k) takes x is = none (app_in.Broken k) x is
    news (app_in.Join k) takes x is = none (app_in.Join k) x is
    news app_in.Tick takes x is = none (app_in.Tick) x is

-- a site after it

pub lane_same : (l : Layout) (d : ℕ) (v : Server) (x z : Site) (q : Option Session) (o : Option Place) (b : Bool) (m : Option Down) (n sent : ℕ) (frames : List UpFrame) → OrderIs l d v x → z.lane_at ≡ x.lane_at → PlaceThere v q o
    → (session k : ℕ) → past_with x.order x.past ≤ k → (at_told o (with_app_step b m n sent q frames) z).lane_at session k ≡ x.lane_at session k
lane_same l d v x z q None b m n sent frames h same there session k beyond = ap (λ (f : ℕ → ℕ → Lane). f session k) same
lane_same l d v x z None (Some p) b m n sent frames h same there session k beyond = either (session == p.session && k == p.order) ∙ ap (λ (f : ℕ → ℕ → Lane). f session k) same
  where
    either : (t : Bool) → (if t then z.lane_at session k else z.lane_at session k) ≡ z.lane_at session k
    either true = refl
    either false = refl
lane_same l d v x z (Some t) (Some p) b m n sent frames h same there session k beyond =
    ap (λ (y : Bool). if y then with_app_step b m n sent (Some t) frames (z.lane_at session k) else z.lane_at session k) (ap (λ (y : Bool). (session == p.session) && y) (ne_eqb k p.order differs) ∙ and_false (session == p.session))
    ∙ ap (λ (f : ℕ → ℕ → Lane). f session k) same
  where
    and_false : (y : Bool) → (y && false) ≡ false
    and_false true = refl
    and_false false = refl

    long : past_with x.order x.past ≡ x.past + 1
    long = ap (λ (o : Option (List Entry)). past_with o x.past) (h.disk ∙ ap (λ (y : Bool). if y then Some v.order else None) there.1)

    differs : k ≢ p.order
    differs = λ is. absurd (omega (arith, is, there.0, long, beyond, h.past))

pub order_at_site : (l : Layout) (d : ℕ) (v : Server) (x y : Site) → OrderIs l d v x → SameBeside x y → ((session k : ℕ) → past_with x.order x.past ≤ k → y.lane_at session k ≡ x.lane_at session k) → OrderIs l d v y
order_at_site l d v x y h same lanes = record {
  past = same.past ∙ h.past;
  disk = same.order ∙ h.disk;
  node = subst (λ n. IfSome y.node (NodeOrder l d n v)) (sym same.past) (subst (λ (o : Option DataState). IfSome o (NodeOrder l d x.past v)) (sym same.node) h.node);
  no_conns = λ shut conn. ap (λ (f : ℕ → Option DataConnection). f conn) same.connections ∙ h.no_conns shut conn;
  to_come = λ session k beyond. lanes session k (within k beyond) ∙ h.to_come session k (within k beyond);
}
  where
    within : (k : ℕ) → past_with y.order y.past ≤ k → past_with x.order x.past ≤ k
    within k beyond = subst (λ (o : Option (List Entry)). past_with o x.past ≤ k) same.order (subst (λ n. past_with y.order n ≤ k) same.past beyond)

-- Each input of an application server keeps all orders.
pub orders_kept_by_app : (l : Layout) (c : CoresState) (m : Machine) (app now : ℕ) (input : AppIn) (outs : MoveOuts) (written : List Act) (new : Machine)
    → Holds l m → IsRun l m.trail → Mirrors c m → Allowed c (App app now input) → AppGoes m app now input outs written new → OrdersHold l (state_after l new.trail) new
orders_kept_by_app l c m app now input outs written new h run shows allowed goes =
    subst (λ (n : Machine). OrdersHold l (state_after l n.trail) n) (sym goes.after)
    (subst (λ (ws : List Act). (d : ℕ) → OrderIs l d ((state_after l (m.trail ++ ws)).server_at d) (site d)) (sym goes.acts) (λ d. go d (app_step_leaves (begun a) now input (made goes.state goes.app_outs) goes.steps)))
  where
    a : AppState
    a = app_state m app

    site : ℕ → Site
    site d = input_site app input goes.app_outs goes.state goes.shown d (m.site_at d)

    alive : m.is_dead_at app ≡ false
    alive = sym (shows.dead app) ∙ allowed.alive

    has : (d : ℕ) → LineHas (end_at a d).line (end_at a d).session
    has d = subst (λ (e : AppEnd). LineHas e.line e.session) (sym (app_ends c m app d shows allowed.known)) (line_has (((state_after l m.trail).server_at d).pair_at app) (end_state m app d) ((h.sites d).ends.tables app alive))

    before : (d : ℕ) → OrderIs l d ((state_after l m.trail).server_at d) (site d)
    before d =
        order_at_site l d ((state_after l m.trail).server_at d) (m.site_at d) (site d) (h.sites d).order
        (site_beside app d goes.app_outs ((m.site_at d).end_at app).state (end_at goes.state d) (message_from d input) moved (m.site_at d))
        (lane_same l d ((state_after l m.trail).server_at d) (m.site_at d) (record (m.site_at d) { end_at = put (m.site_at d).end_at app moved }) (end_at goes.state d).session moved.told
        (is_told_new ((m.site_at d).end_at app).state.session (end_at goes.state d).session) (message_from d input) ((m.site_at d).end_at app).state.dial (sent_before ((m.site_at d).end_at app).state.session) (ups_to d goes.app_outs.frames) (h.sites d).order refl
        (input_place input l c m app d now goes.state goes.app_outs (goes.shown d) h run shows allowed.known alive allowed.takes
        (input_told input d now (begun a) (made goes.state goes.app_outs) (app_may c m app input shows allowed.known allowed.may) (steps_at_one_end a goes.state now input goes.app_outs goes.steps).1 has goes.steps)))
      where
        moved : End
        moved = app_end d goes.app_outs ((m.site_at d).end_at app).state (end_at goes.state d) (goes.shown d) (message_from d input) (app_takes d input ((m.site_at d).end_at app).state.dial ((m.site_at d).end_at app))

    go : (d : ℕ) → Leaves (begun a) (made goes.state goes.app_outs) → OrderIs l d ((state_after l (m.trail ++ goes.app_outs.acts)).server_at d) (site d)
    go d w =
        subst (λ (q : Plain). OrderIs l d (q.server_at d) (site d)) (sym (after_all-append l start m.trail goes.app_outs.acts))
        (by (rows_same l (state_after l m.trail) goes.app_outs.acts (subst (λ (ws : List Act). AllByRecursion (λ y. leaves_orders y ≡ true) ws) (sym w.acts) w.leaves) d))
      where
        by : SameOrders ((state_after l m.trail).server_at d) ((after_all l (state_after l m.trail) goes.app_outs.acts).server_at d) → OrderIs l d ((after_all l (state_after l m.trail) goes.app_outs.acts).server_at d) (site d)
        by s = order_kept_beside l d ((state_after l m.trail).server_at d) ((after_all l (state_after l m.trail) goes.app_outs.acts).server_at d) (site d) s.opened s.past s.order s.synced (before d)
