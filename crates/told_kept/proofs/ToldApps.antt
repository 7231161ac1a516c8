-- What application ends were told stays as the invariant has it over each input of an application server.
use Rattle.std.proofs.Common.{◌≡◌, ◌≢◌, ◌≤◌, ◌<◌, ℕ, Bool, true, false, not, List, [], ◌++◌, Option, Some, None, is_some, option_map, refl, sym, ◌∙◌, ap, subst, inl, inr, arith, eqb}
use Rattle.std.specs.Prelude.{IsSomeAnd}
use Rattle.std.specs.List.{AllByRecursion}
use Rattle.std.proofs.lemmas.Bool.{eqb-true, eq-eqb, ne_eqb, false≢true}
use Rattle.plain_orders.specs.declared.act.Act.{Act}
use Rattle.plain_orders.specs.declared.layout.Layout.{Layout}
use Rattle.plain_runs.specs.Plain.{Plain, Server, Session as PlainSession, start, put}
use Rattle.plain_runs.specs.EndRows.{begun_by, met_by, told_of}
use Rattle.plain_runs.specs.Run.{IsRun, after_all, state_after}
use Rattle.plain_runs.proofs.RunLemmas.{after_all-append}
use Rattle.ecp_messages.specs.declared.down.Down.{Down}
use Rattle.ecp_messages.specs.declared.down.Down.TheVariants.{Welcome, Reset, Block, Drop, Ack, Grant, Answer, Normal, Bare}
use Rattle.ecp_messages.specs.declared.down.DownFrame.{DownFrame}
use Rattle.app_rules.specs.declared.app_in.AppIn.{AppIn}
use Rattle.app_rules.specs.declared.app_in.AppIn.TheVariants as app_in
use Rattle.app_rules.specs.declared.app_outs.AppOuts.{AppOuts}
use Rattle.app_rules.specs.declared.line.Line.TheVariants.{Greeting}
use Rattle.app_rules.specs.AppState.{AppState, AppEnd, Session}
use Rattle.app_rules.specs.AppStep.{AppMay, made}
use Rattle.app_rules.specs.Looks.{Shown}
use Rattle.app_rules.specs.Welcoming.{in_epoch, new_session, told_puts}
use Rattle.app_rules.specs.Works.{end_at, begun, synced_up}
use Rattle.app_rules.proofs.StepLaws.{steps_at_one_end}
use Rattle.cluster_runs.specs.CoresState.{CoresState}
use Rattle.cluster_runs.specs.declared.move_outs.MoveOuts.{MoveOuts}
use Rattle.cluster_runs.specs.declared.moves.Move.TheVariants.{App}
use Rattle.cluster_runs.specs.Lanes.{is_told_new}
use Rattle.cluster_runs.specs.Goes.{AppGoes, app_site, app_end, app_takes, input_site, with_state, message_from}
use Rattle.cluster_runs.specs.Machine.{Machine, End, app_state, end_state}
use Rattle.cluster_runs.specs.Mirrors.{Mirrors}
use Rattle.cluster_runs.specs.Moves.{Allowed, AppTakes}
use Rattle.cluster_invariant.specs.Ends.{AppTold, ToldPlace}
use Rattle.cluster_invariant.specs.Holds.{Holds}
use Rattle.cluster_invariant.specs.Link.{NewWelcomeOn}
use Rattle.cluster_invariant.specs.Words.{stays_at}
use Rattle.cluster_invariant.proofs.AppActs.{Leaves, app_step_leaves}
use Rattle.cluster_invariant.proofs.OrderBeside.{leaves_orders, rows_same}
use Rattle.cluster_invariant.proofs.OrdersStay.{stays_synced, what_stays_rises}
use Rattle.cluster_invariant.proofs.Small.{at_places, of_some, put_same, put_other}
use Rattle.cluster_steps.proofs.AppSites.{site_ends, end_has_state, app_ends}
use Rattle.cluster_steps.proofs.EndSteps.{session_put}
use Rattle.cluster_steps.proofs.FrameCases.{LineHas}
use Rattle.cluster_steps.proofs.InputsBring.{WelcomeTold}
use Rattle.cluster_steps.proofs.Outcomes.{EndKept, InputTold, input_told, end_same}
use Rattle.ends_kept.proofs.EpochBegun.{begun_is}
use Rattle.ends_kept.proofs.MetTold.{new_on, epoch_on, EpochOn, no_session_of, told_in}
use Rattle.ends_kept.proofs.OrderApps.{told_new, no_news, takes_told, takes_its}
use Rattle.ends_kept.proofs.PairTables.{line_has}
use Rattle.ends_kept.proofs.TablesMoves.{app_may}
use Rattle.ends_kept.proofs.TakenDown.{Taken, taken_down}
use Rattle.told_kept.proofs.SameSessions.{mets_kept, rows_met}
use Rattle.told_kept.proofs.ToldActs.{TellNothing, InputActs, input_acts}
use Rattle.told_kept.proofs.ToldBeside.{ToldAt, ToldHolds}
use Rattle.told_kept.proofs.ToldJobs.{told_same}
use Rattle.told_kept.proofs.ToldMet.{OrderTold, EndHas, met_beside, met_now, learnt_beside, learnt_now, met_same}
use Rattle.told_kept.proofs.ToldStays.{OrdersLater, MetsKept, orders_later_same, told_later}

-- A site after a step of an application server: its own end, and the others', whose sessions stay.
pub told_site : (l : Layout) (m : Machine) (app d : ℕ) (outs : AppOuts) (state : AppState) (shown : Shown) (message : Option Down) (e : End) → Holds l m
    → OrdersLater ((state_after l m.trail).server_at d) ((after_all l (state_after l m.trail) outs.acts).server_at d)
    → AppTold ((after_all l (state_after l m.trail) outs.acts).server_at d) app (app_end d outs ((m.site_at d).end_at app).state (end_at state d) shown message e)
    → ((a : ℕ) → a ≢ app → MetsKept a ((state_after l m.trail).server_at d) ((after_all l (state_after l m.trail) outs.acts).server_at d))
    → ToldAt m.is_dead_at ((state_after l (m.trail ++ outs.acts)).server_at d)
    (app_site app d outs ((m.site_at d).end_at app).state (end_at state d) message (app_end d outs ((m.site_at d).end_at app).state (end_at state d) shown message e) (m.site_at d))
told_site l m app d outs state shown message e h later own beside =
    subst (λ (f : ℕ → End). (a : ℕ) → m.is_dead_at a ≡ false → AppTold ((state_after l (m.trail ++ outs.acts)).server_at d) a (f a)) (sym (site_ends app d outs old.state (end_at state d) message moved (m.site_at d)))
    (subst (λ (q : Plain). (a : ℕ) → m.is_dead_at a ≡ false → AppTold (q.server_at d) a (put (m.site_at d).end_at app moved a)) (sym (after_all-append l start m.trail outs.acts))
    (at_places (λ a y. m.is_dead_at a ≡ false → AppTold ((after_all l (state_after l m.trail) outs.acts).server_at d) a y) (m.site_at d).end_at app moved
    (λ alive. own)
    (λ a other alive. told_later ((state_after l m.trail).server_at d) ((after_all l (state_after l m.trail) outs.acts).server_at d) a ((m.site_at d).end_at a) ((m.site_at d).end_at a) later (beside a other)
    (end_same ((m.site_at d).end_at a).state) refl ((h.sites d).ends.told a alive))))
  where
    old : End
    old = (m.site_at d).end_at app

    moved : End
    moved = app_end d outs old.state (end_at state d) shown message e

-- an end after a step that told it nothing new
own_kept : (l : Layout) (m : Machine) (app d : ℕ) (outs : AppOuts) (state : AppState) (shown : Shown) (message : Option Down) (e : End) (w : Server)
    → OrdersLater ((state_after l m.trail).server_at d) w → MetsKept app ((state_after l m.trail).server_at d) w → EndKept ((m.site_at d).end_at app).state (end_at state d) → e.told ≡ ((m.site_at d).end_at app).told
    → AppTold ((state_after l m.trail).server_at d) app ((m.site_at d).end_at app) → AppTold w app (app_end d outs ((m.site_at d).end_at app).state (end_at state d) shown message e)
own_kept l m app d outs state shown message e w later mets kept same h =
    told_later ((state_after l m.trail).server_at d) w app old (app_end d outs old.state (end_at state d) shown message e) later mets
    (subst (λ (s : AppEnd). EndKept old.state s) (sym (end_has_state d outs old.state (end_at state d) shown message e)) kept)
    (told_same (is_told_new old.state.session (end_at state d).session) message old.state.dial (with_state (end_at state d) shown e) (no_news old.state.session (end_at state d).session kept.session) ∙ same) h
  where
    old : End
    old = (m.site_at d).end_at app

news_of_first : (o : Option Session) (t : Session) → is_some o ≡ false → is_told_new o (Some t) ≡ true
news_of_first None t none = refl
news_of_first (Some s) t none = absurd (false≢true (sym none))

news_of_epoch : (s t : Session) → s.epoch ≢ t.epoch → is_told_new (Some s) (Some t) ≡ true
news_of_epoch s t differs = ap not (ne_eqb s.epoch t.epoch differs)

is_some_mapped : (f : Session → ℕ) (o : Option Session) → is_some (option_map f o) ≡ is_some o
is_some_mapped f None = refl
is_some_mapped f (Some s) = refl

module _ (l : Layout) (c : CoresState) (m : Machine) (app now : ℕ) (h : Holds l m) (run : IsRun l m.trail) (shows : Mirrors c m) (known : app < c.layout.apps) (alive : m.is_dead_at app ≡ false)
  where
    -- a site at which a Welcome told something new
    welcome_site : (w : Down) (d : ℕ) (frame : DownFrame) (state : AppState) (outs : AppOuts) (shown : Shown) → frame.message ≡ w → AppTakes c app (app_in.Frame d frame)
        → OrdersLater ((state_after l m.trail).server_at d) ((after_all l (state_after l m.trail) outs.acts).server_at d)
        → WelcomeTold w d now (end_at (app_state m app) d) (begun (app_state m app)) (made state outs)
        → ToldAt m.is_dead_at ((state_after l (m.trail ++ outs.acts)).server_at d)
        (app_site app d outs ((m.site_at d).end_at app).state (end_at state d) (message_from d (app_in.Frame d frame))
        (app_end d outs ((m.site_at d).end_at app).state (end_at state d) shown (message_from d (app_in.Frame d frame)) (app_takes d (app_in.Frame d frame) ((m.site_at d).end_at app).state.dial ((m.site_at d).end_at app))) (m.site_at d))
    welcome_site (Welcome session epoch kept front taken) d frame state outs shown message takes later (inl x) =
        told_site l m app d outs state shown (message_from d (app_in.Frame d frame)) taking h later
        (subst (λ (w : Server). AppTold w app moved) (sym after) (met_now l v app session on.order epoch e.state.told moved t has told (omega (arith, on.synced, stays_synced l m.trail d on.order run on.unmet.there)) on.synced on.unmet.above
        ((h.sites d).ends.told app alive).met on.unmet.entered))
        (λ a other. subst (λ (w : Server). MetsKept a v w) (sym after) (met_beside l v app session a on.unmet.unmet other))
      where
        v : Server
        v = (state_after l m.trail).server_at d

        e : End
        e = (m.site_at d).end_at app

        same : end_at (app_state m app) d ≡ e.state
        same = app_ends c m app d shows known

        greeting : e.state.line ≡ Greeting
        greeting = ap (λ (y : AppEnd). y.line) (sym same) ∙ x.greeting

        taking : End
        taking = app_takes d (app_in.Frame d frame) e.state.dial e

        moved : End
        moved = app_end d outs e.state (end_at state d) shown (message_from d (app_in.Frame d frame)) taking

        taken_on : Taken e frame
        taken_on = taken_down c m app d frame shows takes

        on : NewWelcomeOn v (m.site_at d) app e.state.told taken_on.connection session epoch kept front taken
        on = new_on l m app d frame session epoch kept front taken h alive taken_on message greeting

        t : Session
        t = session_put x.since [] (new_session session epoch front)

        state_is : moved.state ≡ end_at state d
        state_is = end_has_state d outs e.state (end_at state d) shown (message_from d (app_in.Frame d frame)) taking

        session_is : (end_at state d).session ≡ Some t
        session_is = ap (λ (y : AppEnd). y.session) x.here.end

        none : is_some e.state.session ≡ false
        none = sym (ap is_some ((h.sites d).ends.tables app alive).session ∙ is_some_mapped _ e.state.session) ∙ no_session_of (v.pair_at app) e.state ((h.sites d).ends.tables app alive) greeting

        place : moved.told ≡ Some (record { session = session; order = on.order })
        place =
            told_new (is_told_new e.state.session (end_at state d).session) (message_from d (app_in.Frame d frame)) e.state.dial (with_state (end_at state d) shown taking)
            (ap (λ (o : Option Session). is_told_new e.state.session o) session_is ∙ news_of_first e.state.session t none)
            ∙ takes_its d frame e taken_on.connection taken_on.its ∙ on.its

        has : EndHas moved t session session on.order epoch
        has = record { told = ap (λ (y : AppEnd). y.told) (state_is ∙ x.here.end); session = ap (λ (y : AppEnd). y.session) state_is ∙ session_is; number = refl; epoch = refl; place = place }

        told : OrderTold v on.order epoch
        told = record { there = on.unmet.there; its_epoch = on.its_epoch; stays = on.stays }

        after : (after_all l (state_after l m.trail) outs.acts).server_at d ≡ met_by l v app session
        after = ap (λ (ws : List Act). (after_all l (state_after l m.trail) ws).server_at d) x.here.acts ∙ put_same (state_after l m.trail).server_at d (met_by l v app session)
    welcome_site (Welcome session epoch kept front taken) d frame state outs shown message takes later (inr x) =
        told_site l m app d outs state shown (message_from d (app_in.Frame d frame)) taking h later
        (subst (λ (w : Server). AppTold w app moved) (sym after) (learnt_now l v app session epoch kept on.welcome.order e moved x.session t has told opened begun_at had (sym on.welcome.number) whose ((h.sites d).ends.told app alive)))
        (λ a other. subst (λ (w : Server). MetsKept a v w) (sym after) (learnt_beside l v app session epoch kept a whose other))
      where
        v : Server
        v = (state_after l m.trail).server_at d

        e : End
        e = (m.site_at d).end_at app

        same : end_at (app_state m app) d ≡ e.state
        same = app_ends c m app d shows known

        had : e.state.session ≡ Some x.session
        had = ap (λ (y : AppEnd). y.session) (sym same) ∙ x.its

        taking : End
        taking = app_takes d (app_in.Frame d frame) e.state.dial e

        moved : End
        moved = app_end d outs e.state (end_at state d) shown (message_from d (app_in.Frame d frame)) taking

        taken_on : Taken e frame
        taken_on = taken_down c m app d frame shows takes

        on : EpochOn v (m.site_at d) x.session taken_on.connection session epoch kept front taken taken_on.behind
        on = epoch_on l m app d frame x.session session epoch kept front taken h alive taken_on message (ap (λ (y : AppEnd). y.line) (sym same) ∙ x.asking) had x.later

        t : Session
        t = session_put x.since (told_puts front.w (synced_up front.s x.session)) (in_epoch epoch front x.session)

        state_is : moved.state ≡ end_at state d
        state_is = end_has_state d outs e.state (end_at state d) shown (message_from d (app_in.Frame d frame)) taking

        session_is : (end_at state d).session ≡ Some t
        session_is = ap (λ (y : AppEnd). y.session) x.here.end

        place : moved.told ≡ Some (record { session = session; order = on.welcome.order })
        place =
            told_new (is_told_new e.state.session (end_at state d).session) (message_from d (app_in.Frame d frame)) e.state.dial (with_state (end_at state d) shown taking)
            (ap (λ (o : Option Session). is_told_new o (end_at state d).session) had ∙ ap (λ (o : Option Session). is_told_new (Some x.session) o) session_is
            ∙ news_of_epoch x.session t (λ (is : x.session.epoch ≡ epoch). absurd (omega (arith, is, x.later))))
            ∙ takes_its d frame e taken_on.connection taken_on.its ∙ on.welcome.its ∙ ap (λ (n : ℕ). Some (record { session = n; order = on.welcome.order })) (sym on.welcome.number)

        has : EndHas moved t e.state.told session on.welcome.order epoch
        has = record {
          told = ap (λ (y : AppEnd). y.told) (state_is ∙ x.here.end) ∙ ap (λ (y : AppEnd). y.told) same;
          session = ap (λ (y : AppEnd). y.session) state_is ∙ session_is;
          number = sym on.welcome.number;
          epoch = refl;
          place = place;
        }

        told : OrderTold v on.welcome.order epoch
        told = record { there = on.welcome.says.there; its_epoch = on.welcome.says.its_epoch; stays = on.welcome.says.stays }

        -- its Open stays in the order that it was told of before, and so in this one
        opened : session ≤ stays_at v on.welcome.order
        opened = at_told (of_some (λ y. ToldPlace v app y e.told) e.state.session x.session had ((h.sites d).ends.told app alive).place)
          where
            at_told : ToldPlace v app x.session e.told → session ≤ stays_at v on.welcome.order
            at_told p =
                omega (
                  arith,
                  on.welcome.number,
                  p.within,
                  what_stays_rises l m.trail d p.order on.welcome.order run (omega (arith, told_in v app x.session p.order p.met, on.told, on.welcome.says.later)) on.welcome.says.there,
                )

        begun_at : begun_by v epoch ≡ on.welcome.order
        begun_at = begun_is v epoch on.welcome.order on.welcome.says.there on.welcome.says.its_epoch on.welcome.says.only

        whose : IsSomeAnd (v.session_at session) (λ y. y.app ≡ app)
        whose = subst (λ n. IsSomeAnd (v.session_at n) (λ y. y.app ≡ app)) (sym on.welcome.number) (first _ (v.session_at x.session.number) (of_some (λ y. ToldPlace v app y e.told) e.state.session x.session had ((h.sites d).ends.told app alive).place).met)
          where
            first : (k : ℕ) (o : Option PlainSession) → IsSomeAnd o (λ y. (y.app ≡ app) × (y.told ≡ k)) → IsSomeAnd o (λ y. y.app ≡ app)
            first k None g = g
            first k (Some s) g = g.0

        after : (after_all l (state_after l m.trail) outs.acts).server_at d ≡ told_of l v app session epoch kept
        after = ap (λ (ws : List Act). (after_all l (state_after l m.trail) ws).server_at d) x.here.acts ∙ put_same (state_after l m.trail).server_at d (told_of l v app session epoch kept)
    welcome_site (Reset session at) d frame state outs shown message takes later x = absurd x
    welcome_site (Block front block) d frame state outs shown message takes later x = absurd x
    welcome_site (Drop front lo hi) d frame state outs shown message takes later x = absurd x
    welcome_site (Ack front) d frame state outs shown message takes later x = absurd x
    welcome_site (Grant front ticket at) d frame state outs shown message takes later x = absurd x
    welcome_site (Answer front about job number at sum) d frame state outs shown message takes later x = absurd x
    welcome_site (Normal front) d frame state outs shown message takes later x = absurd x
    welcome_site Bare d frame state outs shown message takes later x = absurd x

    -- a site of another data server
    welcome_elsewhere : (w : Down) (k d : ℕ) (state : AppState) (outs : AppOuts) → d ≢ k → WelcomeTold w k now (end_at (app_state m app) k) (begun (app_state m app)) (made state outs)
        → (after_all l (state_after l m.trail) outs.acts).server_at d ≡ (state_after l m.trail).server_at d
    welcome_elsewhere (Welcome session epoch kept front taken) k d state outs differs (inl x) =
        ap (λ (ws : List Act). (after_all l (state_after l m.trail) ws).server_at d) x.here.acts ∙ put_other (state_after l m.trail).server_at k _ d differs
    welcome_elsewhere (Welcome session epoch kept front taken) k d state outs differs (inr x) =
        ap (λ (ws : List Act). (after_all l (state_after l m.trail) ws).server_at d) x.here.acts ∙ put_other (state_after l m.trail).server_at k _ d differs
    welcome_elsewhere (Reset session at) k d state outs differs x = absurd x
    welcome_elsewhere (Block front block) k d state outs differs x = absurd x
    welcome_elsewhere (Drop front lo hi) k d state outs differs x = absurd x
    welcome_elsewhere (Ack front) k d state outs differs x = absurd x
    welcome_elsewhere (Grant front ticket at) k d state outs differs x = absurd x
    welcome_elsewhere (Answer front about job number at sum) k d state outs differs x = absurd x
    welcome_elsewhere (Normal front) k d state outs differs x = absurd x
    welcome_elsewhere Bare k d state outs differs x = absurd x

    -- the site of a data server after a step of the application server that took this
    abbrev SiteTold : AppIn → ℕ → AppState → AppOuts → Shown → Type 0
    SiteTold i d state outs shown =
        ToldAt m.is_dead_at ((state_after l (m.trail ++ outs.acts)).server_at d)
        (app_site app d outs ((m.site_at d).end_at app).state (end_at state d) (message_from d i)
        (app_end d outs ((m.site_at d).end_at app).state (end_at state d) shown (message_from d i) (app_takes d i ((m.site_at d).end_at app).state.dial ((m.site_at d).end_at app))) (m.site_at d))

    -- nothing new was told there
    still : (i : AppIn) (d : ℕ) (state : AppState) (outs : AppOuts) (shown : Shown) → OrdersLater ((state_after l m.trail).server_at d) ((after_all l (state_after l m.trail) outs.acts).server_at d)
        → ((a : ℕ) → MetsKept a ((state_after l m.trail).server_at d) ((after_all l (state_after l m.trail) outs.acts).server_at d)) → EndKept (end_at (app_state m app) d) (end_at state d) → SiteTold i d state outs shown
    still i d state outs shown later mets kept =
        told_site l m app d outs state shown (message_from d i) (app_takes d i e.state.dial e) h later
        (own_kept l m app d outs state shown (message_from d i) (app_takes d i e.state.dial e) ((after_all l (state_after l m.trail) outs.acts).server_at d) later (mets app)
        (subst (λ (y : AppEnd). EndKept y (end_at state d)) (app_ends c m app d shows known) kept) (takes_told d i e.state.dial e) ((h.sites d).ends.told app alive))
        (λ a other. mets a)
      where
        e : End
        e = (m.site_at d).end_at app

    by_acts : (d : ℕ) (outs : AppOuts) → TellNothing outs.acts → (a : ℕ) → MetsKept a ((state_after l m.trail).server_at d) ((after_all l (state_after l m.trail) outs.acts).server_at d)
    by_acts d outs quiet a = mets_kept a ((state_after l m.trail).server_at d) ((after_all l (state_after l m.trail) outs.acts).server_at d) (rows_met l (state_after l m.trail) outs.acts quiet d)

    -- a Welcome told something new at this data server
    welcome_at : (d k : ℕ) (frame : DownFrame) (state : AppState) (outs : AppOuts) (shown : Shown) → d ≡ k → AppTakes c app (app_in.Frame k frame)
        → OrdersLater ((state_after l m.trail).server_at d) ((after_all l (state_after l m.trail) outs.acts).server_at d)
        → WelcomeTold frame.message k now (end_at (app_state m app) k) (begun (app_state m app)) (made state outs) → SiteTold (app_in.Frame k frame) d state outs shown
    welcome_at d k frame state outs shown is takes later x =
        subst (λ n. AppTakes c app (app_in.Frame n frame) → WelcomeTold frame.message n now (end_at (app_state m app) n) (begun (app_state m app)) (made state outs) → SiteTold (app_in.Frame n frame) d state outs shown) is
        (λ t y. welcome_site frame.message d frame state outs shown refl t later y) takes x

    site_told : (i : AppIn) (d : ℕ) (state : AppState) (outs : AppOuts) (shown : Shown) → AppTakes c app i → OrdersLater ((state_after l m.trail).server_at d) ((after_all l (state_after l m.trail) outs.acts).server_at d)
        → InputActs i now (begun (app_state m app)) (made state outs) → InputTold i d now (begun (app_state m app)) (made state outs) → SiteTold i d state outs shown
    site_told (app_in.Frame k frame) d state outs shown takes later (inl quiet) (inl kept) = still (app_in.Frame k frame) d state outs shown later (by_acts d outs (quiet tt)) kept
    site_told (app_in.Frame k frame) d state outs shown takes later (inl quiet) (inr x) = welcome_at d k frame state outs shown x.0 takes later x.1
    site_told (app_in.Frame k frame) d state outs shown takes later (inr x) (inr y) = welcome_at d k frame state outs shown y.0 takes later x
    site_told (app_in.Frame k frame) d state outs shown takes later (inr x) (inl kept) = go (eqb d k) refl
      where
        go : (b : Bool) → eqb d k ≡ b → SiteTold (app_in.Frame k frame) d state outs shown
        go true same = welcome_at d k frame state outs shown (eqb-true d k same) takes later x
        go false other = still (app_in.Frame k frame) d state outs shown later (λ a. subst (λ (w : Server). MetsKept a ((state_after l m.trail).server_at d) w) (sym stays) (λ n. met_same a (((state_after l m.trail).server_at d).session_at n))) kept
          where
            stays : (after_all l (state_after l m.trail) outs.acts).server_at d ≡ (state_after l m.trail).server_at d
            stays = welcome_elsewhere frame.message k d state outs (λ is. false≢true (sym other ∙ eq-eqb d k is)) x
    site_told (app_in.Connected k) d state outs shown takes later quiet kept = still (app_in.Connected k) d state outs shown later (by_acts d outs (quiet tt)) kept
    site_told (app_in.NoWay k before after) d state outs shown takes later quiet kept = still (app_in.NoWay k before after) d state outs shown later (by_acts d outs (quiet tt)) kept
    site_told (app_in.Broken k) d state outs shown takes later quiet kept = still (app_in.Broken k) d state outs shown later (by_acts d outs (quiet tt)) kept
    site_told (app_in.Join k) d state outs shown takes later quiet kept = still (app_in.Join k) d state outs shown later (by_acts d outs (quiet tt)) kept
    site_told app_in.Tick d state outs shown takes later quiet kept = still app_in.Tick d state outs shown later (by_acts d outs (quiet tt)) kept

-- Each input of an application server.
pub told_kept_by_app : (l : Layout) (c : CoresState) (m : Machine) (app now : ℕ) (input : AppIn) (outs : MoveOuts) (written : List Act) (new : Machine)
    → Holds l m → IsRun l m.trail → Mirrors c m → Allowed c (App app now input) → AppGoes m app now input outs written new → ToldHolds l (state_after l new.trail) new
told_kept_by_app l c m app now input outs written new h run shows allowed goes =
    subst (λ (n : Machine). ToldHolds l (state_after l n.trail) n) (sym goes.after)
    (subst (λ (ws : List Act). (d : ℕ) → ToldAt m.is_dead_at ((state_after l (m.trail ++ ws)).server_at d) (input_site app input goes.app_outs goes.state goes.shown d (m.site_at d))) (sym goes.acts) each)
  where
    a : AppState
    a = app_state m app

    alive : m.is_dead_at app ≡ false
    alive = sym (shows.dead app) ∙ allowed.alive

    has : (d : ℕ) → LineHas (end_at a d).line (end_at a d).session
    has d = subst (λ (e : AppEnd). LineHas e.line e.session) (sym (app_ends c m app d shows allowed.known)) (line_has (((state_after l m.trail).server_at d).pair_at app) (end_state m app d) ((h.sites d).ends.tables app alive))

    may : AppMay a input
    may = app_may c m app input shows allowed.known allowed.may

    leaves : Leaves (begun a) (made goes.state goes.app_outs)
    leaves = app_step_leaves (begun a) now input (made goes.state goes.app_outs) goes.steps

    later : (d : ℕ) → OrdersLater ((state_after l m.trail).server_at d) ((after_all l (state_after l m.trail) goes.app_outs.acts).server_at d)
    later d =
        orders_later_same ((state_after l m.trail).server_at d) ((after_all l (state_after l m.trail) goes.app_outs.acts).server_at d)
        (rows_same l (state_after l m.trail) goes.app_outs.acts (subst (λ (ws : List Act). AllByRecursion (λ y. leaves_orders y ≡ true) ws) (sym leaves.acts) leaves.leaves) d)

    each : (d : ℕ) → ToldAt m.is_dead_at ((state_after l (m.trail ++ goes.app_outs.acts)).server_at d) (input_site app input goes.app_outs goes.state goes.shown d (m.site_at d))
    each d =
        site_told l c m app now h run shows allowed.known alive input d goes.state goes.app_outs (goes.shown d) allowed.takes (later d) (input_acts input now (begun a) (made goes.state goes.app_outs) may has goes.steps)
        (input_told input d now (begun a) (made goes.state goes.app_outs) may (steps_at_one_end a goes.state now input goes.app_outs goes.steps).1 has goes.steps)
