-- A lane that begins as an application server takes an input is of an order that it didn't learn of.
use Rattle.std.proofs.Common.{◌≡◌, ◌<◌, ℕ, false, List, Option, Some, None, refl, sym, ◌∙◌, ap, subst, inl, inr}
use Rattle.std.specs.Prelude.{IfSome}
use Rattle.std.proofs.lemmas.Bool.{false≢true}
use Rattle.plain_orders.specs.declared.act.Act.{Act}
use Rattle.plain_orders.specs.declared.layout.Layout.{Layout}
use Rattle.plain_runs.specs.Run.{state_after}
use Rattle.ecp_messages.specs.declared.down.Down.{Down}
use Rattle.ecp_messages.specs.declared.down.Down.TheVariants.{Welcome, Reset, Block, Drop, Ack, Grant, Answer, Normal, Bare}
use Rattle.ecp_messages.specs.declared.down.DownFrame.{DownFrame}
use Rattle.app_rules.specs.declared.app_in.AppIn.{AppIn}
use Rattle.app_rules.specs.declared.app_in.AppIn.TheVariants as app_in
use Rattle.app_rules.specs.declared.app_outs.AppOuts.{AppOuts}
use Rattle.app_rules.specs.AppState.{AppState, AppEnd}
use Rattle.app_rules.specs.AppStep.{made}
use Rattle.app_rules.specs.Looks.{Shown}
use Rattle.app_rules.specs.Works.{end_at, begun}
use Rattle.app_rules.proofs.StepLaws.{steps_at_one_end}
use Rattle.cluster_runs.specs.CoresState.{CoresState}
use Rattle.cluster_runs.specs.declared.move_outs.MoveOuts.{MoveOuts}
use Rattle.cluster_runs.specs.declared.moves.Move.TheVariants.{App}
use Rattle.cluster_runs.specs.Lanes.{is_told_new}
use Rattle.cluster_runs.specs.Goes.{AppGoes, app_end, app_takes, message_from, with_state}
use Rattle.cluster_runs.specs.Machine.{Machine, End, app_state, end_state}
use Rattle.cluster_runs.specs.Mirrors.{Mirrors}
use Rattle.cluster_runs.specs.Moves.{Allowed, AppTakes}
use Rattle.cluster_runs.specs.Sent.{Place}
use Rattle.cluster_invariant.specs.Holds.{Holds}
use Rattle.cluster_invariant.specs.Link.{NewWelcomeOn}
use Rattle.cluster_steps.proofs.AppSites.{app_ends}
use Rattle.cluster_steps.proofs.FrameCases.{LineHas}
use Rattle.cluster_steps.proofs.InputsBring.{WelcomeTold}
use Rattle.cluster_steps.proofs.Outcomes.{EndKept, InputTold, input_told}
use Rattle.ends_kept.proofs.MetTold.{new_on, epoch_on, EpochOn}
use Rattle.ends_kept.proofs.OrderApps.{no_news, takes_its}
use Rattle.ends_kept.proofs.PairTables.{line_has}
use Rattle.ends_kept.proofs.TablesMoves.{app_may}
use Rattle.ends_kept.proofs.TakenDown.{Taken, taken_down}
use Rattle.data_ends_kept.proofs.NodeEndsSites.{BeginsFresh}
use Rattle.ends_kept.proofs.OrderApps.{told_new}

module _ (l : Layout) (c : CoresState) (m : Machine) (app now : ℕ) (h : Holds l m) (shows : Mirrors c m) (known : app < c.layout.apps) (alive : m.is_dead_at app ≡ false)
  where
    -- the lane that an end is told of after a step
    abbrev FreshAt : AppIn → ℕ → AppState → AppOuts → Shown → Type 0
    FreshAt i d state outs shown =
        BeginsFresh (is_told_new ((m.site_at d).end_at app).state.session (end_at state d).session)
        (app_end d outs ((m.site_at d).end_at app).state (end_at state d) shown (message_from d i) (app_takes d i ((m.site_at d).end_at app).state.dial ((m.site_at d).end_at app))).told (m.site_at d)

    none_fresh : (i : AppIn) (d : ℕ) (state : AppState) (outs : AppOuts) (shown : Shown) → EndKept (end_at (app_state m app) d) (end_at state d) → FreshAt i d state outs shown
    none_fresh i d state outs shown kept is =
        absurd (false≢true (sym (no_news e.state.session (end_at state d).session (subst (λ (y : AppEnd). EndKept y (end_at state d)) (app_ends c m app d shows known) kept).session) ∙ is))
      where
        e : End
        e = (m.site_at d).end_at app

    -- what the connection says where something new was told
    said_fresh : (d : ℕ) (frame : DownFrame) (state : AppState) (outs : AppOuts) (shown : Shown) (t : Taken ((m.site_at d).end_at app) frame) (p : Place) → t.connection.its ≡ Some p → ((m.site_at d).lane_at p.session p.order).began ≡ None
        → FreshAt (app_in.Frame d frame) d state outs shown
    said_fresh d frame state outs shown t p its unlearnt is =
        subst (λ (o : Option Place). IfSome o (λ q. ((m.site_at d).lane_at q.session q.order).began ≡ None))
        (sym (told_new (is_told_new e.state.session (end_at state d).session) (message_from d (app_in.Frame d frame)) e.state.dial (with_state (end_at state d) shown (app_takes d (app_in.Frame d frame) e.state.dial e)) is
        ∙ takes_its d frame e t.connection t.its ∙ its)) unlearnt
      where
        e : End
        e = (m.site_at d).end_at app

    welcome_fresh : (w : Down) (d : ℕ) (frame : DownFrame) (state : AppState) (outs : AppOuts) (shown : Shown) → frame.message ≡ w → AppTakes c app (app_in.Frame d frame)
        → WelcomeTold w d now (end_at (app_state m app) d) (begun (app_state m app)) (made state outs) → FreshAt (app_in.Frame d frame) d state outs shown
    welcome_fresh (Welcome session epoch kept front taken) d frame state outs shown message takes (inl x) = said_fresh d frame state outs shown t (record { session = session; order = on.order }) on.its on.unmet.unlearnt
      where
        t : Taken ((m.site_at d).end_at app) frame
        t = taken_down c m app d frame shows takes

        on : NewWelcomeOn ((state_after l m.trail).server_at d) (m.site_at d) app ((m.site_at d).end_at app).state.told t.connection session epoch kept front taken
        on = new_on l m app d frame session epoch kept front taken h alive t message (ap (λ (y : AppEnd). y.line) (sym (app_ends c m app d shows known)) ∙ x.greeting)
    welcome_fresh (Welcome session epoch kept front taken) d frame state outs shown message takes (inr x) =
        said_fresh d frame state outs shown t (record { session = x.session.number; order = on.welcome.order }) on.welcome.its
        (subst (λ (n : ℕ). ((m.site_at d).lane_at n on.welcome.order).began ≡ None) on.welcome.number on.welcome.unlearnt)
      where
        t : Taken ((m.site_at d).end_at app) frame
        t = taken_down c m app d frame shows takes

        same : end_at (app_state m app) d ≡ ((m.site_at d).end_at app).state
        same = app_ends c m app d shows known

        on : EpochOn ((state_after l m.trail).server_at d) (m.site_at d) x.session t.connection session epoch kept front taken t.behind
        on = epoch_on l m app d frame x.session session epoch kept front taken h alive t message (ap (λ (y : AppEnd). y.line) (sym same) ∙ x.asking) (ap (λ (y : AppEnd). y.session) (sym same) ∙ x.its) x.later
    welcome_fresh (Reset session at) d frame state outs shown message takes x = absurd x
    welcome_fresh (Block front block) d frame state outs shown message takes x = absurd x
    welcome_fresh (Drop front lo hi) d frame state outs shown message takes x = absurd x
    welcome_fresh (Ack front) d frame state outs shown message takes x = absurd x
    welcome_fresh (Grant front ticket at) d frame state outs shown message takes x = absurd x
    welcome_fresh (Answer front about job number at sum) d frame state outs shown message takes x = absurd x
    welcome_fresh (Normal front) d frame state outs shown message takes x = absurd x
    welcome_fresh Bare d frame state outs shown message takes x = absurd x

    pub input_fresh : (i : AppIn) (d : ℕ) (state : AppState) (outs : AppOuts) (shown : Shown) → AppTakes c app i → InputTold i d now (begun (app_state m app)) (made state outs) → FreshAt i d state outs shown
    input_fresh (app_in.Frame k frame) d state outs shown takes (inl kept) = none_fresh (app_in.Frame k frame) d state outs shown kept
    input_fresh (app_in.Frame k frame) d state outs shown takes (inr x) =
        subst (λ n. AppTakes c app (app_in.Frame n frame) → WelcomeTold frame.message n now (end_at (app_state m app) n) (begun (app_state m app)) (made state outs) → FreshAt (app_in.Frame n frame) d state outs shown) x.0
        (λ t y. welcome_fresh frame.message d frame state outs shown refl t y) takes x.1
    input_fresh (app_in.Connected k) d state outs shown takes kept = none_fresh (app_in.Connected k) d state outs shown kept
    input_fresh (app_in.NoWay k before after) d state outs shown takes kept = none_fresh (app_in.NoWay k before after) d state outs shown kept
    input_fresh (app_in.Broken k) d state outs shown takes kept = none_fresh (app_in.Broken k) d state outs shown kept
    input_fresh (app_in.Join k) d state outs shown takes kept = none_fresh (app_in.Join k) d state outs shown kept
    input_fresh app_in.Tick d state outs shown takes kept = none_fresh app_in.Tick d state outs shown kept

-- Each end of an application server that takes an input.
pub begins_fresh : (l : Layout) (c : CoresState) (m : Machine) (app now : ℕ) (input : AppIn) (outs : MoveOuts) (written : List Act) (new : Machine)
    → Holds l m → Mirrors c m → Allowed c (App app now input) → (goes : AppGoes m app now input outs written new) → (d : ℕ)
    → BeginsFresh (is_told_new ((m.site_at d).end_at app).state.session (end_at goes.state d).session)
    (app_end d goes.app_outs ((m.site_at d).end_at app).state (end_at goes.state d) (goes.shown d) (message_from d input) (app_takes d input ((m.site_at d).end_at app).state.dial ((m.site_at d).end_at app))).told (m.site_at d)
begins_fresh l c m app now input outs written new h shows allowed goes d =
    input_fresh l c m app now h shows allowed.known alive input d goes.state goes.app_outs (goes.shown d) allowed.takes
    (input_told input d now (begun (app_state m app)) (made goes.state goes.app_outs) (app_may c m app input shows allowed.known allowed.may)
    (steps_at_one_end (app_state m app) goes.state now input goes.app_outs goes.steps).1 has goes.steps)
  where
    alive : m.is_dead_at app ≡ false
    alive = sym (shows.dead app) ∙ allowed.alive

    has : (k : ℕ) → LineHas (end_at (app_state m app) k).line (end_at (app_state m app) k).session
    has k = subst (λ (e : AppEnd). LineHas e.line e.session) (sym (app_ends c m app k shows allowed.known)) (line_has (((state_after l m.trail).server_at k).pair_at app) (end_state m app k) ((h.sites k).ends.tables app alive))
