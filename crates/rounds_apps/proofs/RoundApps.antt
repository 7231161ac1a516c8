-- Each input of an application server keeps what rounds put.
use Rattle.std.proofs.Common.{◌≡◌, ◌≤◌, ◌<◌, ◌-◌, ◌+◌, ◌⊎◌, inl, inr, ℕ, Bool, true, false, if◌then◌else◌, List, ◌∷◌, ◌++◌, Option, Some, None, is_some, option_map, refl, sym, ◌∙◌, ap, subst, arith}
use Rattle.std.specs.Prelude.{IfSome, IsSomeAnd, not, eqb, nat_lt}
use Rattle.std.specs.Prelude.{map}
use Rattle.std.specs.List.{AllByRecursion, list_all}
use Rattle.std.proofs.Common.{[]}
use Rattle.std.proofs.lemmas.Bool.{eq-eqb, eqb-true, false≢true, ne_eqb, lt-ltb, false_from_ne_true, ltb-true}
use Rattle.plain_orders.specs.declared.act.Act.{Act}
use Rattle.plain_orders.specs.declared.layout.Layout.{Layout}
use Rattle.plain_runs.specs.Plain.{Plain, Server, Session as PlainSession, current, order_at, start}
use Rattle.plain_runs.specs.Run.{IsRun, state_after, after_all}
use Rattle.plain_runs.proofs.RunLemmas.{after_all-append}
use Rattle.ecp_messages.specs.declared.down.Down.{Down}
use Rattle.ecp_messages.specs.declared.down.Down.TheVariants.{Welcome, Reset, Block, Drop, Ack, Grant, Answer, Normal, Bare}
use Rattle.ecp_messages.specs.declared.down.DownFrame.{DownFrame}
use Rattle.app_rules.specs.declared.app_in.AppIn.{AppIn}
use Rattle.app_rules.specs.declared.app_in.AppIn.TheVariants as app_in
use Rattle.app_rules.specs.declared.line.Line.TheVariants.{Joined}
use Rattle.app_rules.specs.AppState.{AppState, AppEnd, Session}
use Rattle.app_rules.specs.AppStep.{made}
use Rattle.app_rules.specs.Welcoming.{in_epoch, message_of, new_session, told_puts}
use Rattle.app_rules.specs.Works.{begun, end_at, synced_up}
use Rattle.app_rules.proofs.StepLaws.{steps_at_one_end}
use Rattle.data_rules.specs.Places.{epoch_place}
use Rattle.cluster_runs.specs.declared.move_outs.MoveOuts.{MoveOuts}
use Rattle.cluster_runs.specs.declared.moves.Move.TheVariants.{App}
use Rattle.cluster_runs.specs.CoresState.{CoresState}
use Rattle.cluster_runs.specs.Goes.{AppGoes, app_end, app_takes, input_site, message_from, with_state}
use Rattle.cluster_runs.specs.Lanes.{is_told_new, told_by}
use Rattle.cluster_runs.specs.Machine.{Machine, Site, End, app_state, end_state}
use Rattle.cluster_runs.specs.Mirrors.{Mirrors}
use Rattle.cluster_runs.specs.Moves.{Allowed, AppTakes}
use Rattle.cluster_runs.specs.Sent.{Place}
use Rattle.cluster_steps.proofs.AppSites.{app_ends, end_has_state}
use Rattle.cluster_steps.proofs.EndSteps.{session_put}
use Rattle.cluster_steps.proofs.FrameCases.{LineHas}
use Rattle.cluster_steps.proofs.InputsBring.{WelcomeTold}
use Rattle.cluster_invariant.specs.Ends.{ToldPlace, number_of}
use Rattle.cluster_invariant.specs.Holds.{Holds}
use Rattle.cluster_invariant.specs.Link.{NewWelcomeOn}
use Rattle.cluster_invariant.specs.Rounds.{RoundOf, RoundsHold, SessionRound, is_item, owed_message}
use Rattle.cluster_invariant.specs.Words.{is_opened_in, stays_at}
use Rattle.cluster_invariant.proofs.AppActs.{Leaves, app_step_leaves}
use Rattle.cluster_invariant.proofs.OrderBeside.{SameOrders, leaves_orders, rows_same}
use Rattle.cluster_invariant.proofs.OrdersStay.{what_stays_rises}
use Rattle.cluster_invariant.proofs.Small.{of_some}
use Rattle.ends_kept.proofs.MetTold.{EpochOn, epoch_on, new_on, no_session_of, told_in}
use Rattle.ends_kept.proofs.NextDown.{HasNumber, NextDown, joined_next}
use Rattle.ends_kept.proofs.OrderApps.{takes_its, takes_told, told_new}
use Rattle.ends_kept.proofs.PairTables.{line_has}
use Rattle.ends_kept.proofs.TablesMoves.{app_may}
use Rattle.ends_kept.proofs.TakenDown.{Taken, taken_down}
use Rattle.rounds_kept.specs.Laws.{EachRoundHolds}
use Rattle.rounds_apps.proofs.RoundInputs.{FrameGoes, SessionsGo, TellsNew, comes_to, input_goes}
use Rattle.rounds_apps.proofs.RoundLanes.{TakesNext}
use Rattle.rounds_apps.proofs.RoundNews.{epoch_begins, new_begins, rounds_at_news}
use Rattle.rounds_apps.proofs.RoundSites.{rounds_at_site}
use Rattle.rounds_apps.proofs.RoundsEnds.{one_end}

told_same : (b : Bool) (m : Option Down) (n : ℕ) (e : End) → b ≡ false → (told_by b m n e).told ≡ e.told
told_same true m n e is = absurd (false≢true (sym is))
told_same false m n e is = refl

-- a session that goes on tells nothing new
pub none_new : (o q : Option Session) (took : Option Down) → SessionsGo o q took → is_told_new o q ≡ false
none_new None None took goes = refl
none_new (Some s) None took goes = refl
none_new None (Some t) took goes = absurd goes
none_new (Some s) (Some t) took goes = ap not (eq-eqb s.epoch t.epoch (sym goes.1.epoch))

none_mapped : (o : Option Session) → is_some (option_map number_of o) ≡ false → o ≡ None
none_mapped None is = refl
none_mapped (Some s) is = absurd (false≢true (sym is))

-- an Open that stays in an order was there before each later one
before_later : (l : Layout) (m : Machine) (d k j n : ℕ) → IsRun l m.trail → k < j → j ≤ current ((state_after l m.trail).server_at d)
    → n ≤ stays_at ((state_after l m.trail).server_at d) k → is_opened_in (order_at ((state_after l m.trail).server_at d) j) n ≡ false
before_later l m d k j n run past there stays =
    false_from_ne_true (nat_lt (epoch_place (order_at v j)) n)
    (λ above.
    absurd (omega (arith, ltb-true (epoch_place (order_at v j)) n above, stays, what_stays_rises l m.trail d k (j - 1) run (omega (arith, past)) (omega (arith, there, past)), before)))
  where
    v : Server
    v = (state_after l m.trail).server_at d

    same : (j - 1) + 1 ≡ j
    same = omega (arith, past)

    -- what stays of an order that isn't the last is what the next kept
    before : stays_at v (j - 1) ≡ epoch_place (order_at v j) - 1
    before =
        ap (λ (b : Bool). if b then v.synced else epoch_place (order_at v ((j - 1) + 1)) - 1) (ne_eqb (j - 1) (current v) (λ is. absurd (omega (arith, is, past, there))))
        ∙ ap (λ (i : ℕ). epoch_place (order_at v i) - 1) same

module _ (l : Layout) (c : CoresState) (m : Machine) (app now : ℕ) (input : AppIn) (outs : MoveOuts) (written : List Act) (new : Machine)
    (h : Holds l m) (run : IsRun l m.trail) (shows : Mirrors c m) (allowed : Allowed c (App app now input)) (goes : AppGoes m app now input outs written new) where
  abbrev a : AppState
  a = app_state m app

  alive : m.is_dead_at app ≡ false
  alive = sym (shows.dead app) ∙ allowed.alive

  -- at one data server
  module _ (d : ℕ) (u : Server) (same : SameOrders ((state_after l m.trail).server_at d) u) where
    abbrev v : Server
    v = (state_after l m.trail).server_at d

    abbrev x : Site
    x = m.site_at d

    abbrev e : End
    e = x.end_at app

    abbrev t : AppEnd
    t = end_at goes.state d

    abbrev taking : AppIn → End
    taking i = app_takes d i e.state.dial e

    abbrev moved : AppIn → End
    moved i = app_end d goes.app_outs e.state t (goes.shown d) (message_from d i) (taking i)

    abbrev RoundsAfter : AppIn → Type 0
    RoundsAfter i = RoundsHold u (input_site app i goes.app_outs goes.state goes.shown d x) m.is_dead_at

    same_end : end_at a d ≡ e.state
    same_end = app_ends c m app d shows allowed.known

    moved_state : (i : AppIn) → (moved i).state ≡ t
    moved_state i = end_has_state d goes.app_outs e.state t (goes.shown d) (message_from d i) (taking i)

    -- a message that is taken is the next one of the lane
    next_taken : (i : AppIn) → AppTakes c app i → (took : Option Down) → IfSome took (λ w. (comes_to i d ≡ Some w) × HasNumber w × (e.state.line ≡ Joined))
        → (s : Session) (p : Place) → e.state.session ≡ Some s → e.told ≡ Some p → TakesNext took (x.lane_at s.number p.order)
    next_taken i takes None its s p there at = tt
    next_taken (app_in.Frame k frame) takes (Some w) its s p there at = go (eqb d k) refl its.0
      where
        at_server : (n : ℕ) → d ≡ n → AppTakes c app (app_in.Frame n frame) → AppTakes c app (app_in.Frame d frame)
        at_server n here = subst (λ (j : ℕ). AppTakes c app (app_in.Frame j frame) → AppTakes c app (app_in.Frame d frame)) here (λ is. is)

        by : d ≡ k → frame.message ≡ w → NextDown (x.lane_at s.number p.order) frame → TakesNext (Some w) (x.lane_at s.number p.order)
        by here says n = (n.rest, n.its ∙ ap (λ (y : Down). y ∷ n.rest) says)

        go : (b : Bool) → eqb d k ≡ b → (if b then Some frame.message else None) ≡ Some w → TakesNext (Some w) (x.lane_at s.number p.order)
        go true here says =
            let same_message : frame.message ≡ w = cc in
            by (eqb-true d k here) same_message
            (joined_next v x app e frame s p (taken_down c m app d frame shows (at_server k (eqb-true d k here) takes)) ((h.sites d).link.apps app alive) its.2 there at
            (subst HasNumber (sym same_message) its.1))
        go false here says = absurd cc
    next_taken (app_in.Connected k) takes (Some w) its s p there at = absurd cc
    next_taken (app_in.NoWay k before later) takes (Some w) its s p there at = absurd cc
    next_taken (app_in.Broken k) takes (Some w) its s p there at = absurd cc
    next_taken (app_in.Join k) takes (Some w) its s p there at = absurd cc
    next_taken app_in.Tick takes (Some w) its s p there at = absurd cc

    -- it tells nothing new
    still : (i : AppIn) → AppTakes c app i → FrameGoes (comes_to i d) (end_at a d).line (end_at a d).session t.session → RoundsAfter i
    still i takes g =
        rounds_at_site v u x m.is_dead_at app d goes.app_outs t (goes.shown d) (message_from d i) (moved i) g.took alive same (h.sites d).ends (h.sites d).link (h.sites d).rounds
        none
        (ap (λ (b : Bool). (told_by b (message_from d i) e.state.dial (with_state t (goes.shown d) (taking i))).told) none ∙ takes_told d i e.state.dial e)
        (moved_state i) went
        (next_taken i takes g.took
        (subst (λ (f : AppEnd). IfSome g.took (λ w. (comes_to i d ≡ Some w) × HasNumber w × (f.line ≡ Joined))) same_end g.its))
      where
        went : SessionsGo e.state.session t.session g.took
        went = subst (λ (f : AppEnd). SessionsGo f.session t.session g.took) same_end g.goes

        none : is_told_new e.state.session t.session ≡ false
        none = none_new e.state.session t.session g.took went

    -- it does: of a new session, or of a new epoch
    news : (w : Down) (frame : DownFrame) → frame.message ≡ w → AppTakes c app (app_in.Frame d frame)
        → WelcomeTold w d now (end_at a d) (begun a) (made goes.state goes.app_outs) → RoundsAfter (app_in.Frame d frame)
    news (Welcome session epoch kept front taken) frame message takes (inl z) =
        rounds_at_news v u x m.is_dead_at app d goes.app_outs t (message_from d i) (moved i) same (h.sites d).link.lanes (h.sites d).rounds
        (record { session = session; order = on.order }) r
        (told_new (is_told_new e.state.session t.session) (message_from d i) e.state.dial (with_state t (goes.shown d) (taking i)) is_new
        ∙ takes_its d frame e t_on.connection t_on.its ∙ on.its)
        (moved_state i) has refl is_new on.unmet.unlearnt
        (λ b other lives q its one.
        unmet_apart (v.session_at q.number) _ (ap v.session_at one ∙ on.unmet.unmet)
        (of_some (λ (y : Session). ToldPlace v b y (x.end_at b).told) (x.end_at b).state.session q its ((h.sites d).ends.told b lives).place).met)
        (new_begins (order_at v on.order) z.since session epoch front (lt-ltb (epoch_place (order_at v on.order)) session on.unmet.behind))
      where
        i : AppIn
        i = app_in.Frame d frame

        t_on : Taken e frame
        t_on = taken_down c m app d frame shows takes

        on : NewWelcomeOn v x app e.state.told t_on.connection session epoch kept front taken
        on = new_on l m app d frame session epoch kept front taken h alive t_on message (ap (λ (g : AppEnd). g.line) (sym same_end) ∙ z.greeting)

        r : Session
        r = session_put z.since [] (new_session session epoch front)

        has : t.session ≡ Some r
        has = ap (λ (g : AppEnd). g.session) z.here.end

        none : e.state.session ≡ None
        none =
            none_mapped e.state.session
            (ap is_some (sym ((h.sites d).ends.tables app alive).session)
            ∙ no_session_of (v.pair_at app) e.state ((h.sites d).ends.tables app alive) (ap (λ (g : AppEnd). g.line) (sym same_end) ∙ z.greeting))

        is_new : is_told_new e.state.session t.session ≡ true
        is_new = ap (λ (o : Option Session). is_told_new o t.session) none ∙ ap (is_told_new None) has

        unmet_apart : (o : Option PlainSession) (P : PlainSession → Type 0) → o ≡ None → IsSomeAnd o P → ⊥
        unmet_apart None P is met = met
        unmet_apart (Some s) P is met = absurd cc
    news (Welcome session epoch kept front taken) frame message takes (inr z) =
        rounds_at_news v u x m.is_dead_at app d goes.app_outs t (message_from d i) (moved i) same (h.sites d).link.lanes (h.sites d).rounds
        (record { session = z.session.number; order = on.welcome.order }) r
        (told_new (is_told_new e.state.session t.session) (message_from d i) e.state.dial (with_state t (goes.shown d) (taking i)) is_new
        ∙ takes_its d frame e t_on.connection t_on.its ∙ on.welcome.its)
        (moved_state i) has refl is_new (ap (λ (n : ℕ). (x.lane_at n on.welcome.order).began) (sym on.welcome.number) ∙ on.welcome.unlearnt)
        (λ b other lives q its one.
        other (one_end v b app q z.session (x.end_at b).told e.told
        (of_some (λ (y : Session). ToldPlace v b y (x.end_at b).told) (x.end_at b).state.session q its ((h.sites d).ends.told b lives).place) place one))
        (epoch_begins (order_at v on.welcome.order) z.since epoch front z.session (opened place) round.0 round.1)
      where
        i : AppIn
        i = app_in.Frame d frame

        t_on : Taken e frame
        t_on = taken_down c m app d frame shows takes

        had : e.state.session ≡ Some z.session
        had = ap (λ (g : AppEnd). g.session) (sym same_end) ∙ z.its

        on : EpochOn v x z.session t_on.connection session epoch kept front taken t_on.behind
        on = epoch_on l m app d frame z.session session epoch kept front taken h alive t_on message (ap (λ (g : AppEnd). g.line) (sym same_end) ∙ z.asking) had z.later

        r : Session
        r = session_put z.since (told_puts front.w (synced_up front.s z.session)) (in_epoch epoch front z.session)

        has : t.session ≡ Some r
        has = ap (λ (g : AppEnd). g.session) z.here.end

        is_new : is_told_new e.state.session t.session ≡ true
        is_new =
            ap (λ (o : Option Session). is_told_new o t.session) had ∙ ap (is_told_new (Some z.session)) has
            ∙ ap not (ne_eqb z.session.epoch epoch (λ is. absurd (omega (arith, is, z.later))))

        place : ToldPlace v app z.session e.told
        place = of_some (λ (y : Session). ToldPlace v app y e.told) e.state.session z.session had ((h.sites d).ends.told app alive).place

        -- the session was there before the order that it learns of
        opened : ToldPlace v app z.session e.told → is_opened_in (order_at v on.welcome.order) z.session.number ≡ false
        opened at =
            before_later l m d at.order on.welcome.order z.session.number run (omega (arith, told_in v app z.session at.order at.met, on.told, on.welcome.says.later)) on.welcome.says.there
            at.within

        round : (list_all is_item (map message_of z.session.queue) ≡ true) × (list_all is_item (map owed_message z.session.owed) ≡ true)
        round = go e.told place (of_some (RoundOf v x e) e.state.session z.session had ((h.sites d).rounds.apps app alive))
          where
            go : (o : Option Place) → ToldPlace v app z.session o → IfSome o (λ p. SessionRound (order_at v p.order) (x.lane_at z.session.number p.order) z.session)
                → (list_all is_item (map message_of z.session.queue) ≡ true) × (list_all is_item (map owed_message z.session.owed) ≡ true)
            go None at is = absurd (no_place at.its)
              where
                no_place : {p : Place} → ◌≡◌ {A = Option Place} None (Some p) → ⊥
                no_place is = absurd cc
            go (Some p) at is = (is.queued, is.owed)
    news (Reset session at) frame message takes z = absurd z
    news (Block front block) frame message takes z = absurd z
    news (Drop front lo hi) frame message takes z = absurd z
    news (Ack front) frame message takes z = absurd z
    news (Grant front ticket at) frame message takes z = absurd z
    news (Answer front about job number at sum) frame message takes z = absurd z
    news (Normal front) frame message takes z = absurd z
    news Bare frame message takes z = absurd z

    new_at : (i : AppIn) → AppTakes c app i → TellsNew i d now (begun a) (made goes.state goes.app_outs) → RoundsAfter i
    new_at (app_in.Frame k frame) takes z =
        subst (λ (n : ℕ). AppTakes c app (app_in.Frame n frame) → WelcomeTold frame.message n now (end_at a n) (begun a) (made goes.state goes.app_outs)
        → RoundsAfter (app_in.Frame n frame)) z.0 (news frame.message frame refl) takes z.1
    new_at (app_in.Connected k) takes z = absurd z
    new_at (app_in.NoWay k before later) takes z = absurd z
    new_at (app_in.Broken k) takes z = absurd z
    new_at (app_in.Join k) takes z = absurd z
    new_at app_in.Tick takes z = absurd z

    either : FrameGoes (comes_to input d) (end_at a d).line (end_at a d).session t.session ⊎ TellsNew input d now (begun a) (made goes.state goes.app_outs) → RoundsAfter input
    either (inl g) = still input allowed.takes g
    either (inr z) = new_at input allowed.takes z

    rounds_after : RoundsAfter input
    rounds_after =
        either (input_goes input d now (begun a) (made goes.state goes.app_outs) (app_may c m app input shows allowed.known allowed.may)
        (steps_at_one_end a goes.state now input goes.app_outs goes.steps).1 has goes.steps)
      where
        has : (k : ℕ) → LineHas (end_at a k).line (end_at a k).session
        has k =
            subst (λ (f : AppEnd). LineHas f.line f.session) (sym (app_ends c m app k shows allowed.known))
            (line_has (((state_after l m.trail).server_at k).pair_at app) (end_state m app k) ((h.sites k).ends.tables app alive))

  -- Each input keeps them.
  pub rounds_kept_by_app : EachRoundHolds l new
  rounds_kept_by_app =
      subst (λ (n : Machine). EachRoundHolds l n) (sym goes.after)
      (subst (λ (ws : List Act). (d : ℕ) → RoundsHold ((state_after l (m.trail ++ ws)).server_at d) (site d) m.is_dead_at) (sym goes.acts)
      (λ d.
      subst (λ (q : Plain). RoundsHold (q.server_at d) (site d) m.is_dead_at) (sym (after_all-append l start m.trail goes.app_outs.acts))
      (rounds_after d ((after_all l (state_after l m.trail) goes.app_outs.acts).server_at d)
      (rows_same l (state_after l m.trail) goes.app_outs.acts (orders_left (app_step_leaves (begun a) now input (made goes.state goes.app_outs) goes.steps)) d))))
    where
      site : ℕ → Site
      site d = input_site app input goes.app_outs goes.state goes.shown d (m.site_at d)

      orders_left : Leaves (begun a) (made goes.state goes.app_outs) → AllByRecursion (λ y. leaves_orders y ≡ true) goes.app_outs.acts
      orders_left w = subst (λ (ws : List Act). AllByRecursion (λ y. leaves_orders y ≡ true) ws) (sym w.acts) w.leaves
