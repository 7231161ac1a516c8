-- Coherence over each input of an application server: what was put is as it was, and an order that it learns of begins with the Welcome's header.
use Rattle.std.proofs.Common.{◌≡◌, ◌≤◌, ◌<◌, inl, inr, ◌&&◌, ◌==◌, ℕ, Bool, true, false, if◌then◌else◌, List, [], ◌++◌, length, Option, Some, None, refl, sym, ◌∙◌, ap, subst, arith}
use Rattle.std.specs.Prelude.{IfSome}
use Rattle.std.specs.List.{AllByRecursion}
use Rattle.std.proofs.lemmas.Bool.{and_parts, eqb-true, eq-eqb, false≢true}
use Rattle.std.proofs.Math.Seq.{take-length}
use Rattle.plain_orders.specs.declared.act.Act.{Act}
use Rattle.plain_orders.specs.declared.entry.Entry.{Entry}
use Rattle.plain_orders.specs.declared.layout.Layout.{Layout}
use Rattle.plain_orders.specs.Entries.{count}
use Rattle.plain_orders.proofs.Places.{counts_rise}
use Rattle.plain_runs.specs.Plain.{Plain, Server, start, order_at, put}
use Rattle.plain_runs.specs.Run.{IsRun, after_all, state_after}
use Rattle.plain_runs.proofs.RunLemmas.{after_all-append}
use Rattle.ecp_messages.specs.declared.down.Down.{Down}
use Rattle.ecp_messages.specs.declared.down.Down.TheVariants.{Welcome, Reset, Block, Drop, Ack, Grant, Answer, Normal, Bare}
use Rattle.ecp_messages.specs.declared.down.DownFrame.{DownFrame}
use Rattle.ecp_messages.specs.declared.front.Front.{Front}
use Rattle.ecp_messages.specs.declared.up.UpFrame.{UpFrame}
use Rattle.app_rules.specs.declared.app_in.AppIn.{AppIn}
use Rattle.app_rules.specs.declared.app_in.AppIn.TheVariants as app_in
use Rattle.app_rules.specs.declared.app_outs.AppOuts.{AppOuts}
use Rattle.app_rules.specs.AppState.{AppState, AppEnd, Session}
use Rattle.app_rules.specs.AppStep.{made}
use Rattle.app_rules.specs.Works.{end_at, begun}
use Rattle.app_rules.proofs.StepLaws.{steps_at_one_end}
use Rattle.data_rules.specs.DataState.{DataState}
use Rattle.cluster_runs.specs.CoresState.{CoresState}
use Rattle.cluster_runs.specs.declared.move_outs.MoveOuts.{MoveOuts}
use Rattle.cluster_runs.specs.declared.moves.Move.TheVariants.{App}
use Rattle.cluster_runs.specs.Connections.{ups_to}
use Rattle.cluster_runs.specs.Goes.{AppGoes, app_end, app_takes, at_told, input_site, message_from, with_state}
use Rattle.cluster_runs.specs.Lanes.{front_by, its_of, is_told_new, told_by, with_app_step, sent_before}
use Rattle.cluster_runs.specs.Machine.{Machine, Site, End, app_state, end_state}
use Rattle.cluster_runs.specs.Mirrors.{Mirrors}
use Rattle.cluster_runs.specs.Moves.{Allowed, AppTakes}
use Rattle.cluster_runs.specs.Sent.{Lane, Place}
use Rattle.cluster_invariant.specs.Coherence.{IsHeader, IsCoherent, IsRun as IsAnyRun, RisingFrom, BlocksHold, IsHeld, NodeHeld, CoherenceHolds}
use Rattle.cluster_invariant.specs.Holds.{Holds}
use Rattle.cluster_invariant.specs.Link.{LaneCounts, NewWelcomeOn}
use Rattle.cluster_invariant.specs.Words.{stays_at}
use Rattle.cluster_invariant.proofs.AppActs.{Leaves, app_step_leaves}
use Rattle.cluster_invariant.proofs.OrderBeside.{SameOrders, rows_same, leaves_orders}
use Rattle.cluster_invariant.proofs.OrdersStay.{orders_agree}
use Rattle.cluster_invariant.proofs.Small.{some_kept}
use Rattle.cluster_steps.proofs.AppSites.{SameBeside, site_beside, app_ends}
use Rattle.cluster_steps.proofs.FrameCases.{LineHas}
use Rattle.cluster_steps.proofs.InputsBring.{WelcomeTold}
use Rattle.cluster_steps.proofs.Outcomes.{EndKept, SessionKept, InputTold, input_told}
use Rattle.ends_kept.proofs.MetTold.{new_on, epoch_on, EpochOn}
use Rattle.ends_kept.proofs.OrderApps.{no_news, takes_its}
use Rattle.ends_kept.proofs.PairTables.{line_has}
use Rattle.ends_kept.proofs.TablesMoves.{app_may}
use Rattle.ends_kept.proofs.TakenDown.{Taken, taken_down}
use Rattle.coherence_kept.proofs.ShortMoves.{PutsCoherent}
use Rattle.coherence_kept.proofs.CoherenceJobs.{SameDown, told_down, step_down, coherence_beside}
use Rattle.coherence_kept.proofs.CoherenceLater.{LaneCoherent}
use Rattle.coherence_kept.proofs.Grows.{HeadersAre}
use Rattle.coherence_kept.proofs.DeedsOn.{deeds_on}

-- the order that an application server learns of

-- a session in an order that it didn't learn of yet, with a header
record NewHeader (v : Server) (x : Site) (o : Option Place) (front : Front) : Type 0 where
  session : ℕ
  order : ℕ
  its : o ≡ Some (record { session = session; order = order })
  header : IsHeader (order_at v order) (stays_at v order) session front
  unlearnt : (x.lane_at session order).began ≡ None

-- the header of a new session, of which nothing counts
pub open_header : (es : List Entry) (stays session : ℕ) (front : Front) → front.n ≤ length es → count es session ≡ 0 → front.w ≡ 0 → front.s ≡ 0
    → IsHeader es stays session front
open_header es stays session front within unused counted synced = record {
  within = within;
  counted =
      omega (arith, counted, unused, counts_rise 0 front.n (length es) es session within, ap (λ (xs : List Entry). count xs session) (take-length es));
  synced = omega (arith, synced);
  below = omega (arith, synced);
}

-- of the connection that the end has after an input
abbrev HeaderAfter : Server → Site → ℕ → End → AppIn → Type 0
HeaderAfter v x d e i = NewHeader v x (its_of ((app_takes d i e.state.dial e).connection_at e.state.dial)) (front_by (message_from d i))

-- what an input tells an end
input_header : (input : AppIn) (l : Layout) (c : CoresState) (m : Machine) (app d now : ℕ) (state : AppState) (outs : AppOuts) → Holds l m → Mirrors c m → app < c.layout.apps
    → m.is_dead_at app ≡ false → AppTakes c app input → InputTold input d now (begun (app_state m app)) (made state outs)
    → is_told_new ((m.site_at d).end_at app).state.session (end_at state d).session ≡ true
    → NewHeader ((state_after l m.trail).server_at d) (m.site_at d)
    (its_of ((app_takes d input ((m.site_at d).end_at app).state.dial ((m.site_at d).end_at app)).connection_at ((m.site_at d).end_at app).state.dial)) (front_by (message_from d input))
input_header input l c m app d now state outs h shows known alive takes told is = news input takes told
  where
    v : Server
    v = (state_after l m.trail).server_at d

    x : Site
    x = m.site_at d

    e : End
    e = x.end_at app

    same : end_at (app_state m app) d ≡ e.state
    same = app_ends c m app d shows known

    none : (i : AppIn) → EndKept (end_at (app_state m app) d) (end_at state d) → HeaderAfter v x d e i
    none i k = absurd (false≢true (sym (no_news e.state.session (end_at state d).session (subst (λ (y : AppEnd). SessionKept y.session (end_at state d).session) same k.session)) ∙ is))

    said : (frame : DownFrame) → message_from d (app_in.Frame d frame) ≡ Some frame.message
    said frame = ap (λ (b : Bool). if b then Some frame.message else None) (eq-eqb d d refl)

    -- with the connection's session and the Welcome's header
    with_its : (frame : DownFrame) (w : Down) → frame.message ≡ w → (t : Taken e frame) → NewHeader v x t.connection.its (front_by (Some w)) → HeaderAfter v x d e (app_in.Frame d frame)
    with_its frame w message t n =
        subst (λ (p : Option Place). NewHeader v x p (front_by (message_from d (app_in.Frame d frame)))) (sym (takes_its d frame e t.connection t.its))
        (subst (λ (o : Option Down). NewHeader v x t.connection.its (front_by o)) (sym (said frame ∙ ap (λ (k : Down). Some k) message)) n)

    welcome : (w : Down) (frame : DownFrame) → frame.message ≡ w → AppTakes c app (app_in.Frame d frame) → WelcomeTold w d now (end_at (app_state m app) d) (begun (app_state m app)) (made state outs)
        → HeaderAfter v x d e (app_in.Frame d frame)
    welcome (Welcome session epoch kept front taken) frame message takes (inl y) =
        with_its frame (Welcome session epoch kept front taken) message t (record {
          session = session;
          order = w.order;
          its = w.its;
          header =
              open_header (order_at v w.order) (stays_at v w.order) session front w.within w.unmet.unused w.none_counted w.none_synced;
          unlearnt = w.unmet.unlearnt;
        })
      where
        t : Taken e frame
        t = taken_down c m app d frame shows takes

        w : NewWelcomeOn v x app e.state.told t.connection session epoch kept front taken
        w = new_on l m app d frame session epoch kept front taken h alive t message (ap (λ (z : AppEnd). z.line) (sym same) ∙ y.greeting)
    welcome (Welcome session epoch kept front taken) frame message takes (inr y) =
        with_its frame (Welcome session epoch kept front taken) message t (record {
          session = session;
          order = w.welcome.order;
          its = w.welcome.its ∙ ap (λ (n : ℕ). Some (record { session = n; order = w.welcome.order })) (sym w.welcome.number);
          header = w.welcome.says.header;
          unlearnt = w.welcome.unlearnt;
        })
      where
        t : Taken e frame
        t = taken_down c m app d frame shows takes

        there : e.state.session ≡ Some y.session
        there = ap (λ (z : AppEnd). z.session) (sym same) ∙ y.its

        w : EpochOn v x y.session t.connection session epoch kept front taken t.behind
        w = epoch_on l m app d frame y.session session epoch kept front taken h alive t message (ap (λ (z : AppEnd). z.line) (sym same) ∙ y.asking) there y.later
    welcome (Reset session at) frame message takes y = absurd y
    welcome (Block front block) frame message takes y = absurd y
    welcome (Drop front lo hi) frame message takes y = absurd y
    welcome (Ack front) frame message takes y = absurd y
    welcome (Grant front ticket at) frame message takes y = absurd y
    welcome (Answer front about job number at sum) frame message takes y = absurd y
    welcome (Normal front) frame message takes y = absurd y
    welcome Bare frame message takes y = absurd y

    at_server : (frame : DownFrame) (k : ℕ) → d ≡ k → AppTakes c app (app_in.Frame k frame)
        → WelcomeTold frame.message k now (end_at (app_state m app) k) (begun (app_state m app)) (made state outs) → HeaderAfter v x d e (app_in.Frame k frame)
    at_server frame k here takes y =
        subst (λ (n : ℕ). AppTakes c app (app_in.Frame n frame) → WelcomeTold frame.message n now (end_at (app_state m app) n) (begun (app_state m app)) (made state outs)
        → HeaderAfter v x d e (app_in.Frame n frame)) here (welcome frame.message frame refl) takes y

    news : (i : AppIn) → AppTakes c app i → InputTold i d now (begun (app_state m app)) (made state outs) → HeaderAfter v x d e i
    news (app_in.Frame k frame) takes (inl y) = none (app_in.Frame k frame) y
    news (app_in.Frame k frame) takes (inr y) = at_server frame k y.0 takes y.1
    news (app_in.Connected k) takes y = none (app_in.Connected k) y
    news (app_in.NoWay k before later) takes y = none (app_in.NoWay k before later) y
    news (app_in.Broken k) takes y = none (app_in.Broken k) y
    news (app_in.Join k) takes y = none (app_in.Join k) y
    news app_in.Tick takes y = none app_in.Tick y

-- lanes after it

-- what was put is as it was
step_puts : (b : Bool) (m : Option Down) (n sent : ℕ) (q : Option Session) (frames : List UpFrame) (a : Lane) → (with_app_step b m n sent q frames a).down ≡ a.down
step_puts b m n sent None frames a = refl
step_puts true m n sent (Some t) frames a = refl
step_puts false m n sent (Some t) frames a = refl

told_puts : (o : Option Place) (f : Lane → Lane) → ((a : Lane) → (f a).down ≡ a.down) → (z : Site) (s k : ℕ) → ((at_told o f z).lane_at s k).down ≡ (z.lane_at s k).down
told_puts None f same z s k = refl
told_puts (Some p) f same z s k = go (s == p.session && k == p.order)
  where
    go : (b : Bool) → (if b then f (z.lane_at s k) else z.lane_at s k).down ≡ (z.lane_at s k).down
    go true = same (z.lane_at s k)
    go false = refl

module _ (v : Server) (x : Site) (counts : (s k : ℕ) → LaneCounts (x.lane_at s k)) (m : Option Down) (n sent : ℕ) (q : Option Session) (frames : List UpFrame) (z : Site)
    (same : z.lane_at ≡ x.lane_at) where
  -- an order that an end learns of begins with its header
  new_coherent : (o : Option Place) → NewHeader v x o (front_by m) → (s k : ℕ) → LaneCoherent (order_at v k) (stays_at v k) s (x.lane_at s k)
      → LaneCoherent (order_at v k) (stays_at v k) s ((at_told o (with_app_step true m n sent q frames) z).lane_at s k)
  new_coherent o new s k h =
      subst (λ (p : Option Place). LaneCoherent (order_at v k) (stays_at v k) s ((at_told p (with_app_step true m n sent q frames) z).lane_at s k)) (sym new.its)
      (subst (λ (f : ℕ → ℕ → Lane). LaneCoherent (order_at v k) (stays_at v k) s (if s == new.session && k == new.order then with_app_step true m n sent q frames (f s k) else f s k))
      (sym same) (go (s == new.session && k == new.order) refl))
    where
      begins : (r : Option Session) → s ≡ new.session → k ≡ new.order → LaneCoherent (order_at v k) (stays_at v k) s (with_app_step true m n sent r frames (x.lane_at s k))
      begins None its here = h
      begins (Some t) its here = record {
        first =
            subst (λ (i : ℕ). IsHeader (order_at v k) (stays_at v k) i (front_by m)) (sym its)
            (subst (λ (i : ℕ). IsHeader (order_at v i) (stays_at v i) new.session (front_by m)) (sym here) new.header);
        rising = subst (λ (ms : List Down). RisingFrom (front_by m).n ms) (sym empty) tt;
        headers = subst (λ (ms : List Down). HeadersAre (order_at v k) (stays_at v k) s ms) (sym empty) tt;
        blocks = subst (λ (ms : List Down). BlocksHold (order_at v k) IsAnyRun ms) (sym empty) tt;
      }
        where
          empty : (x.lane_at s k).down ≡ []
          empty =
              (counts s k).no_down
              (ap (λ (i : ℕ). (x.lane_at i k).began) its ∙ ap (λ (i : ℕ). (x.lane_at new.session i).began) here ∙ new.unlearnt)

      go : (b : Bool) → (s == new.session && k == new.order) ≡ b
          → LaneCoherent (order_at v k) (stays_at v k) s (if b then with_app_step true m n sent q frames (x.lane_at s k) else x.lane_at s k)
      go true at =
          let parts = and_parts (s == new.session) (k == new.order) at in
          begins q (eqb-true s new.session parts.0) (eqb-true k new.order parts.1)
      go false at = h

  -- What was put stays coherent, whether it learns of an order or of none.
  lane_coherent : (o : Option Place) (b : Bool) → (b ≡ true → NewHeader v x o (front_by m)) → (s k : ℕ) → LaneCoherent (order_at v k) (stays_at v k) s (x.lane_at s k)
      → LaneCoherent (order_at v k) (stays_at v k) s ((at_told o (with_app_step b m n sent q frames) z).lane_at s k)
  lane_coherent o true new s k h = new_coherent o (new refl) s k h
  lane_coherent o false new s k h = go (told_down o (with_app_step false m n sent q frames) (step_down m n sent q frames) z s k)
    where
      go : SameDown (z.lane_at s k) ((at_told o (with_app_step false m n sent q frames) z).lane_at s k)
          → LaneCoherent (order_at v k) (stays_at v k) s ((at_told o (with_app_step false m n sent q frames) z).lane_at s k)
      go d =
          subst (λ (f : Front). IsCoherent (order_at v k) (stays_at v k) s f ((at_told o (with_app_step false m n sent q frames) z).lane_at s k).down)
          (sym (d.front ∙ ap (λ (f : ℕ → ℕ → Lane). (f s k).front) same))
          (subst (λ (ms : List Down). IsCoherent (order_at v k) (stays_at v k) s (x.lane_at s k).front ms) (sym (d.down ∙ ap (λ (f : ℕ → ℕ → Lane). (f s k).down) same)) h)

-- the moves

pub told_where : (b : Bool) (m : Option Down) (n : ℕ) (e : End) → b ≡ true → (told_by b m n e).told ≡ its_of (e.connection_at n)
told_where true m n e is = refl
told_where false m n e is = absurd (false≢true is)

-- Each input of an application server keeps what was put coherent.
pub puts_kept_by_app : (l : Layout) (c : CoresState) (m : Machine) (app now : ℕ) (input : AppIn) (outs : MoveOuts) (written : List Act) (new : Machine)
    → Holds l m → IsRun l m.trail → Mirrors c m → Allowed c (App app now input) → AppGoes m app now input outs written new → PutsCoherent l new
puts_kept_by_app l c m app now input outs written new h run shows allowed goes =
    subst (λ (n : Machine). PutsCoherent l n) (sym goes.after)
    (subst (λ (ws : List Act). (d : ℕ) → CoherenceHolds ((state_after l (m.trail ++ ws)).server_at d) (site d)) (sym goes.acts)
    (λ d. go d (app_step_leaves (begun a) now input (made goes.state goes.app_outs) goes.steps)))
  where
    a : AppState
    a = app_state m app

    site : ℕ → Site
    site d = input_site app input goes.app_outs goes.state goes.shown d (m.site_at d)

    alive : m.is_dead_at app ≡ false
    alive = sym (shows.dead app) ∙ allowed.alive

    has : (d : ℕ) → LineHas (end_at a d).line (end_at a d).session
    has d =
        subst (λ (e : AppEnd). LineHas e.line e.session) (sym (app_ends c m app d shows allowed.known))
        (line_has (((state_after l m.trail).server_at d).pair_at app) (end_state m app d) ((h.sites d).ends.tables app alive))

    -- what the input tells the end
    told : (d : ℕ) → InputTold input d now (begun a) (made goes.state goes.app_outs)
    told d =
        input_told input d now (begun a) (made goes.state goes.app_outs) (app_may c m app input shows allowed.known allowed.may)
        (steps_at_one_end a goes.state now input goes.app_outs goes.steps).1 has goes.steps

    before : (d : ℕ) → CoherenceHolds ((state_after l m.trail).server_at d) (site d)
    before d = record {
      lanes =
          λ s k low.
          lane_coherent v x (h.sites d).link.lanes (message_from d input) e.state.dial (sent_before e.state.session) (end_at goes.state d).session (ups_to d goes.app_outs.frames)
          (record x { end_at = put x.end_at app moved }) refl moved.told is_new
          (λ is.
          subst (λ (p : Option Place). NewHeader v x p (front_by (message_from d input)))
          (sym (told_where is_new (message_from d input) e.state.dial (with_state (end_at goes.state d) (goes.shown d) (app_takes d input e.state.dial e)) is))
          (input_header input l c m app d now goes.state goes.app_outs h shows allowed.known alive allowed.takes (told d) is))
          s k ((h.sites d).coherence.lanes s k low);
      node = node (site_beside app d goes.app_outs e.state (end_at goes.state d) (message_from d input) moved x);
    }
      where
        v : Server
        v = (state_after l m.trail).server_at d

        x : Site
        x = m.site_at d

        e : End
        e = x.end_at app

        is_new : Bool
        is_new = is_told_new e.state.session (end_at goes.state d).session

        moved : End
        moved = app_end d goes.app_outs e.state (end_at goes.state d) (goes.shown d) (message_from d input) (app_takes d input e.state.dial e)

        puts : (s k : ℕ) → ((site d).lane_at s k).down ≡ (x.lane_at s k).down
        puts s k =
            told_puts moved.told (with_app_step is_new (message_from d input) e.state.dial (sent_before e.state.session) (end_at goes.state d).session (ups_to d goes.app_outs.frames))
            (step_puts is_new (message_from d input) e.state.dial (sent_before e.state.session) (end_at goes.state d).session (ups_to d goes.app_outs.frames))
            (record x { end_at = put x.end_at app moved }) s k

        held : (n : DataState) (s k : ℕ) → k ≡ x.past → BlocksHold n.order (IsHeld n.order n.noted s) (x.lane_at s x.past).down
            → BlocksHold n.order (IsHeld n.order n.noted s) ((site d).lane_at s k).down
        held n s k here is =
            subst (λ (i : ℕ). BlocksHold n.order (IsHeld n.order n.noted s) ((site d).lane_at s i).down) (sym here)
            (subst (BlocksHold n.order (IsHeld n.order n.noted s)) (sym (puts s x.past)) is)

        node : SameBeside x (site d) → IfSome (site d).node (NodeHeld (site d))
        node same =
            subst (λ (o : Option DataState). IfSome o (NodeHeld (site d))) (sym same.node)
            (some_kept (NodeHeld x) (NodeHeld (site d)) (λ n is. record { held = λ s lives. held n s (site d).past same.past (is.held s lives); noted = is.noted }) x.node
            (h.sites d).coherence.node)

    go : (d : ℕ) → Leaves (begun a) (made goes.state goes.app_outs) → CoherenceHolds ((state_after l (m.trail ++ goes.app_outs.acts)).server_at d) (site d)
    go d w =
        subst (λ (q : Plain). CoherenceHolds (q.server_at d) (site d)) (sym (after_all-append l start m.trail goes.app_outs.acts))
        (by (rows_same l (state_after l m.trail) goes.app_outs.acts (subst (λ (ws : List Act). AllByRecursion (λ y. leaves_orders y ≡ true) ws) (sym w.acts) w.leaves) d))
      where
        v : Server
        v = (state_after l m.trail).server_at d

        u : Server
        u = (after_all l (state_after l m.trail) goes.app_outs.acts).server_at d

        by : SameOrders v u → CoherenceHolds u (site d)
        by s =
            coherence_beside v u (site d) (site d) (deeds_on v u [] (orders_agree l m.trail d run) tt s.past s.order (omega (arith, s.synced)))
            (ap (λ (xs : List (List Entry)). length xs) s.past) (record { node = refl; order = refl; past = refl; connections = refl; hellos = refl })
            (λ i k. record { front = refl; down = refl }) (before d)
