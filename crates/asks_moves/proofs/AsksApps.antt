-- Each input of an application server keeps the requests for locks.
use Rattle.std.proofs.Common.{◌≡◌, ◌≤◌, ◌+◌, ◌-◌, ℕ, true, false, not, List, [], ◌∷◌, ◌++◌, drop, Option, Some, None, is_some, inl, inr, refl, sym, ◌∙◌, ap, subst, arith}
use Rattle.std.specs.Prelude.{IfSome}
use Rattle.std.specs.List.{list_all, list_any}
use Rattle.std.proofs.lemmas.Bool.{ne_eqb}
use Rattle.std.proofs.lemmas.List.{append-nil}
use Rattle.plain_orders.specs.declared.act.Act.{Act}
use Rattle.plain_orders.specs.declared.layout.Layout.{Layout}
use Rattle.plain_runs.specs.Plain.{Server, current, order_at}
use Rattle.plain_runs.specs.Run.{IsRun, state_after}
use Rattle.ecp_messages.specs.declared.down.Down.{Down}
use Rattle.ecp_messages.specs.declared.down.Down.TheVariants.{Welcome, Reset, Block, Drop, Ack, Grant, Answer, Normal, Bare}
use Rattle.ecp_messages.specs.declared.down.DownFrame.{DownFrame}
use Rattle.ecp_messages.specs.declared.front.Front.{Front}
use Rattle.ecp_messages.specs.declared.up.Up.{Up}
use Rattle.app_rules.specs.declared.app_in.AppIn.{AppIn}
use Rattle.app_rules.specs.declared.app_in.AppIn.TheVariants as app_in
use Rattle.app_rules.specs.declared.line.Line.TheVariants.{Joined}
use Rattle.app_rules.specs.declared.session_parts.Asked.{Asked}
use Rattle.app_rules.specs.AppState.{AppState, AppEnd, Session}
use Rattle.app_rules.specs.AppStep.{made}
use Rattle.app_rules.specs.Delivering.{is_ask_unput}
use Rattle.app_rules.specs.Downs.{took}
use Rattle.app_rules.specs.Welcoming.{in_epoch, new_session, told_puts}
use Rattle.app_rules.specs.Works.{begun, end_at, synced_up}
use Rattle.app_rules.proofs.StepLaws.{steps_at_one_end}
use Rattle.cluster_runs.specs.declared.move_outs.MoveOuts.{MoveOuts}
use Rattle.cluster_runs.specs.declared.moves.Move.TheVariants.{App}
use Rattle.cluster_runs.specs.CoresState.{CoresState}
use Rattle.cluster_runs.specs.Goes.{AppGoes, app_end, app_takes, input_site, message_from, with_state}
use Rattle.cluster_runs.specs.Lanes.{given_since, is_told_new}
use Rattle.cluster_runs.specs.Machine.{Machine, Site, End, app_state, end_state}
use Rattle.cluster_runs.specs.Mirrors.{Mirrors}
use Rattle.cluster_runs.specs.Moves.{Allowed, AppTakes}
use Rattle.cluster_runs.specs.Sent.{Lane, Place, downs_taken}
use Rattle.cluster_steps.proofs.AppSites.{app_ends, end_has_state}
use Rattle.cluster_steps.proofs.EndSteps.{session_put}
use Rattle.cluster_steps.proofs.FrameCases.{LineHas}
use Rattle.cluster_steps.proofs.FrameEnds.{TookFresh}
use Rattle.cluster_steps.proofs.InputsBring.{FreshTaken, WelcomeTold}
use Rattle.cluster_invariant.specs.Asks.{AskedIs, AsksHold, AsksOf, EndAsks, LaneAsks, is_ask}
use Rattle.cluster_invariant.specs.Ends.{ToldPlace, has_session}
use Rattle.cluster_invariant.specs.Holds.{Holds}
use Rattle.cluster_invariant.specs.Link.{NewWelcomeOn}
use Rattle.cluster_invariant.specs.Rounds.{ComesBack, RoundOf, SessionRound, awaits_normal}
use Rattle.cluster_invariant.specs.Words.{is_begun, is_normal_down, is_opened_in}
use Rattle.cluster_invariant.proofs.AllLists.{all_follow}
use Rattle.cluster_invariant.proofs.Small.{of_some}
use Rattle.ends_kept.proofs.MetTold.{EpochOn, epoch_on, new_on, no_session_of, told_in}
use Rattle.ends_kept.proofs.NextDown.{HasNumber, NextDown, joined_next}
use Rattle.ends_kept.proofs.OrderApps.{takes_its, takes_told, told_new}
use Rattle.ends_kept.proofs.PairTables.{line_has}
use Rattle.ends_kept.proofs.TablesMoves.{app_may}
use Rattle.ends_kept.proofs.TakenDown.{Taken, taken_down}
use Rattle.fronts_kept.proofs.FrontsJobs.{told_same}
use Rattle.rounds_apps.proofs.RoundLanes.{LaneGoes, SessionGoes}
use Rattle.rounds_apps.proofs.RoundNews.{epoch_begins}
use Rattle.rounds_apps.proofs.RoundSessions.{took_goes}
use Rattle.rounds_apps.proofs.RoundsEnds.{one_end}
use Rattle.asks_change.proofs.InputAsks.{AsksStay, EndStays, FrameAsks, InputAsks, SessionsStay, StaysOrFails, StaysOrLoses, input_asks}
use Rattle.asks_moves.proofs.AsksNews.{LaneBegins, asks_at_news}
use Rattle.asks_moves.proofs.AsksSites.{SessionPuts, SessionsPut, asks_at_site, none_told}
use Rattle.asks_moves.proofs.EndPuts.{AsksAre, are_of}
use Rattle.asks_moves.proofs.LaneTakes.{back_follows, back_no_ask, lane_both, normal_awaited}
use Rattle.asks_moves.specs.Laws.{EachAsksHold}
use Rattle.asks_moves.proofs.FreshAsks.{fresh_are}
use Rattle.asks_moves.proofs.AsksBegin.{before_later, begins_with, none_mapped, none_some, none_there, some_same, stays_put, unmet_apart}

module _ (l : Layout) (c : CoresState) (m : Machine) (app now : ℕ) (input : AppIn) (outs : MoveOuts) (written : List Act) (new : Machine)
    (h : Holds l m) (run : IsRun l m.trail) (shows : Mirrors c m) (allowed : Allowed c (App app now input)) (goes : AppGoes m app now input outs written new) where
  abbrev a : AppState
  a = app_state m app

  alive : m.is_dead_at app ≡ false
  alive = sym (shows.dead app) ∙ allowed.alive

  -- at one data server
  module _ (d : ℕ) where
    abbrev v : Server
    v = (state_after l m.trail).server_at d

    abbrev x : Site
    x = m.site_at d

    abbrev e : End
    e = x.end_at app

    abbrev t : AppEnd
    t = end_at goes.state d

    abbrev taking : AppIn → End
    taking i = app_takes d i e.state.dial e

    abbrev moved : AppIn → End
    moved i = app_end d goes.app_outs e.state t (goes.shown d) (message_from d i) (taking i)

    abbrev AsksAfter : AppIn → Type 0
    AsksAfter i = AsksHold (input_site app i goes.app_outs goes.state goes.shown d x) m.is_dead_at

    same_end : end_at a d ≡ e.state
    same_end = app_ends c m app d shows allowed.known

    moved_state : (i : AppIn) → (moved i).state ≡ t
    moved_state i = end_has_state d goes.app_outs e.state t (goes.shown d) (message_from d i) (taking i)

    place_of : (s : Session) → e.state.session ≡ Some s → ToldPlace v app s e.told
    place_of s its = of_some (λ (q : Session). ToldPlace v app q e.told) e.state.session s its ((h.sites d).ends.told app alive).place

    -- the requests as they were
    end_asks : (s : Session) (p : Place) → e.state.session ≡ Some s → e.told ≡ Some p → EndAsks (x.lane_at s.number p.order) e.state.ticket s.asks
    end_asks s p its at =
        of_some (λ (q : Place). EndAsks (x.lane_at s.number q.order) e.state.ticket s.asks) e.told p at
        (of_some (AsksOf x e) e.state.session s its ((h.sites d).asks.apps app alive))

    round_of : (s : Session) (p : Place) → e.state.session ≡ Some s → e.told ≡ Some p → SessionRound (order_at v p.order) (x.lane_at s.number p.order) s
    round_of s p its at =
        of_some (λ (q : Place). SessionRound (order_at v q.order) (x.lane_at s.number q.order) s) e.told p at
        (of_some (RoundOf v x e) e.state.session s its ((h.sites d).rounds.apps app alive))

    asks_before : (s : Session) (p : Place) → e.state.session ≡ Some s → e.told ≡ Some p
        → AsksAre (x.lane_at s.number p.order).up (downs_taken (x.lane_at s.number p.order)) e.state.ticket s.asks
    asks_before s p its at = are_of (x.lane_at s.number p.order) e.state.ticket s.asks ((h.sites d).asks.lanes s.number p.order) (end_asks s p its at)

    abbrev Keeps : Option Down → Type 0
    Keeps took =
        (s r : Session) (p : Place) → e.state.session ≡ Some s → t.session ≡ Some r → e.told ≡ Some p → (given : List Up) → SessionPuts s r took given → (b : Lane)
        → LaneGoes (x.lane_at s.number p.order) b took given → LaneAsks b × EndAsks b t.ticket r.asks

    going : (i : AppIn) (took : Option Down) → SessionsPut e.state.session t.session took → Keeps took → AsksAfter i
    going i took went keeps =
        asks_at_site v x m.is_dead_at app d goes.app_outs t (message_from d i) (moved i) took alive (h.sites d).ends (h.sites d).link (h.sites d).asks none
        (told_same (is_told_new e.state.session t.session) (message_from d i) e.state.dial (with_state t (goes.shown d) (taking i)) none ∙ takes_told d i e.state.dial e)
        (moved_state i) went keeps
      where
        none : is_told_new e.state.session t.session ≡ false
        none = none_told e.state.session t.session took went

    -- nothing is put, and nothing taken
    stays : (i : AppIn) → EndStays e.state t → AsksAfter i
    stays i z = going i None (stays_put e.state.session t.session z.session) keeps
      where
        keeps : Keeps None
        keeps s r p its held at given g b lg =
            by (subst (λ (o : Option Session). SessionsStay (Some s) o) held (subst (λ (o : Option Session). SessionsStay o t.session) its z.session))
          where
            lane : Lane
            lane = x.lane_at s.number p.order

            by : AsksStay s r → LaneAsks b × EndAsks b t.ticket r.asks
            by y =
                lane_both lane b None given t.ticket r.asks ((h.sites d).link.lanes s.number p.order).up_taken ((h.sites d).asks.lanes s.number p.order) lg tt
                (subst (λ (ms : List Down). AsksAre (lane.up ++ given) ms t.ticket r.asks) (sym (append-nil (downs_taken lane)))
                (subst (λ (ms : List Up). AsksAre ms (downs_taken lane) t.ticket r.asks) (sym (ap (λ (ms : List Up). lane.up ++ ms) (sym g.given ∙ y.given) ∙ append-nil lane.up))
                (subst (λ (n : ℕ). AsksAre lane.up (downs_taken lane) n r.asks) (sym z.ticket)
                (subst (λ (xs : List Asked). AsksAre lane.up (downs_taken lane) e.state.ticket xs) (sym y.asks) (asks_before s p its at)))))

    -- the session is lost
    loses : (i : AppIn) → t.session ≡ None → AsksAfter i
    loses i none =
        going i None (subst (λ (o : Option Session). SessionsPut e.state.session o None) (sym none) tt)
        (λ s r p its held at given g b lg. absurd (none_some r (sym none ∙ held)))

    -- a fresh message is taken
    fresh : (w : Down) (f : Front) (frame : DownFrame) → frame.message ≡ w → HasNumber w → AppTakes c app (app_in.Frame d frame)
        → TookFresh d now frame.seq frame.ack w f (end_at a d) (begun a) (made goes.state goes.app_outs) → AsksAfter (app_in.Frame d frame)
    fresh w f frame message has takes z = going (app_in.Frame d frame) (Some w) went keeps
      where
        had : e.state.session ≡ Some z.session
        had = ap (λ (g : AppEnd). g.session) (sym same_end) ∙ z.its

        r : Session
        r = session_put z.since z.put z.after

        has_now : t.session ≡ Some r
        has_now = ap (λ (g : AppEnd). g.session) z.here.end

        went_goes : SessionGoes z.session r (Some w) z.put
        went_goes = took_goes frame.ack z.since frame.seq f z.session w (end_at a d).link a.times now z.after z.link z.put z.delivered

        went : SessionsPut e.state.session t.session (Some w)
        went =
            subst (λ (o : Option Session). SessionsPut o t.session (Some w)) (sym had)
            (subst (λ (o : Option Session). SessionsPut (Some z.session) o (Some w)) (sym has_now)
            (z.put, record { number = went_goes.number; epoch = went_goes.epoch; given = went_goes.given; taken = went_goes.taken }))

        line : e.state.line ≡ Joined
        line = ap (λ (g : AppEnd). g.line) (sym same_end) ∙ z.is_joined

        own : (p : Place) → e.told ≡ Some p → (given : List Up) → SessionPuts z.session r (Some w) given → (b : Lane)
            → LaneGoes (x.lane_at z.session.number p.order) b (Some w) given → LaneAsks b × EndAsks b t.ticket r.asks
        own p at given g b lg =
            with_next (joined_next v x app e frame z.session p (taken_down c m app d frame shows takes) ((h.sites d).link.apps app alive) line had at (subst HasNumber (sym message) has))
          where
            lane : Lane
            lane = x.lane_at z.session.number p.order

            order_is : (k : ℕ) → ◌≡◌ {A = Option Place} (Some p) (Some (record { session = z.session.number; order = k })) → p.order ≡ k
            order_is k is = (let eq : p ≡ record { session = z.session.number; order = k } = cc in ap (λ (q : Place). q.order) eq)

            low : ToldPlace v app z.session e.told → p.order ≤ current v
            low place = omega (arith, order_is place.order (sym at ∙ place.its), place.there)

            learnt : is_begun lane ≡ true
            learnt =
                of_some (λ (q : Place). is_some (x.lane_at z.session.number q.order).began ≡ true) e.told p at
                (of_some (λ (s : Session). IfSome e.told (λ q. is_some (x.lane_at s.number q.order).began ≡ true)) e.state.session z.session had ((h.sites d).link.apps app alive).begun)

            with_next : NextDown lane frame → LaneAsks b × EndAsks b t.ticket r.asks
            with_next n =
                lane_both lane b (Some w) given t.ticket r.asks ((h.sites d).link.lanes z.session.number p.order).up_taken ((h.sites d).asks.lanes z.session.number p.order) lg
                (n.rest, next_is)
                (subst (λ (ms : List Up). AsksAre (lane.up ++ ms) (downs_taken lane ++ w ∷ []) t.ticket z.after.asks) (sym went_goes.given ∙ g.given)
                (subst (λ (k : ℕ). AsksAre (lane.up ++ z.put) (downs_taken lane ++ w ∷ []) k z.after.asks) (ap (λ (g : AppEnd). g.ticket) (sym same_end) ∙ sym (ap (λ (g : AppEnd). g.ticket) z.here.end))
                (fresh_are w (took frame.seq frame.ack f z.session) (end_at a d).link a.times now z.after z.link z.put lane.up (downs_taken lane) e.state.ticket z.delivered normal
                (asks_before z.session p had at))))
              where
                next_is : drop lane.down_taken lane.down ≡ w ∷ n.rest
                next_is = n.its ∙ ap (λ (y : Down). y ∷ n.rest) message

                normal : is_normal_down w ≡ true → (list_any is_ask lane.up ≡ false) × (list_all is_ask_unput z.session.asks ≡ true)
                normal is =
                    both (normal_awaited (order_at v p.order) z.session.number lane w n.rest ((h.sites d).rounds.lanes z.session.number p.order (low (place_of z.session had))) learnt next_is is)
                  where
                    both : (awaits_normal (order_at v p.order) z.session.number lane ≡ true) × ComesBack lane.up
                        → (list_any is_ask lane.up ≡ false) × (list_all is_ask_unput z.session.asks ≡ true)
                    both y = (back_no_ask lane.up y.1, (round_of z.session p had at).asks ((round_of z.session p had at).due ∙ y.0))

        keeps : Keeps (Some w)
        keeps s q p its held at given g b lg =
            subst (λ (k : Session). LaneAsks b × EndAsks b t.ticket k.asks) (sym now_is)
            (own p at given (subst (λ (k : Session). SessionPuts z.session k (Some w) given) now_is (subst (λ (k : Session). SessionPuts k q (Some w) given) was g)) b
            (subst (λ (k : Session). LaneGoes (x.lane_at k.number p.order) b (Some w) given) was lg))
          where
            was : s ≡ z.session
            was = some_same s z.session (sym its ∙ had)

            now_is : q ≡ r
            now_is = some_same q r (sym held ∙ has_now)

    -- a Welcome that tells something new
    news : (w : Down) (frame : DownFrame) → frame.message ≡ w → AppTakes c app (app_in.Frame d frame)
        → WelcomeTold w d now (end_at a d) (begun a) (made goes.state goes.app_outs) → AsksAfter (app_in.Frame d frame)
    news (Welcome session epoch kept front taken) frame message takes (inl z) =
        asks_at_news x m.is_dead_at app d goes.app_outs t (message_from d i) (moved i) (h.sites d).link.lanes (h.sites d).asks
        (record { session = session; order = on.order }) r
        (told_new (is_told_new e.state.session t.session) (message_from d i) e.state.dial (with_state t (goes.shown d) (taking i)) is_new
        ∙ takes_its d frame e t_on.connection t_on.its ∙ on.its)
        (moved_state i) has refl is_new on.unmet.unlearnt
        (λ b other lives q its one.
        unmet_apart (v.session_at q.number) _ (ap v.session_at one ∙ on.unmet.unmet)
        (of_some (λ (y : Session). ToldPlace v b y (x.end_at b).told) (x.end_at b).state.session q its ((h.sites d).ends.told b lives).place).met)
        (λ b begins. begins_with [] t.ticket [] b tt refl refl tt tt begins)
      where
        i : AppIn
        i = app_in.Frame d frame

        t_on : Taken e frame
        t_on = taken_down c m app d frame shows takes

        on : NewWelcomeOn v x app e.state.told t_on.connection session epoch kept front taken
        on = new_on l m app d frame session epoch kept front taken h alive t_on message (ap (λ (g : AppEnd). g.line) (sym same_end) ∙ z.greeting)

        r : Session
        r = session_put z.since [] (new_session session epoch front)

        has : t.session ≡ Some r
        has = ap (λ (g : AppEnd). g.session) z.here.end

        none : e.state.session ≡ None
        none =
            none_mapped e.state.session
            (ap is_some (sym ((h.sites d).ends.tables app alive).session)
            ∙ no_session_of (v.pair_at app) e.state ((h.sites d).ends.tables app alive) (ap (λ (g : AppEnd). g.line) (sym same_end) ∙ z.greeting))

        is_new : is_told_new e.state.session t.session ≡ true
        is_new = ap (λ (o : Option Session). is_told_new o t.session) none ∙ ap (is_told_new None) has
    news (Welcome session epoch kept front taken) frame message takes (inr z) =
        asks_at_news x m.is_dead_at app d goes.app_outs t (message_from d i) (moved i) (h.sites d).link.lanes (h.sites d).asks
        (record { session = z.session.number; order = on.welcome.order }) r
        (told_new (is_told_new e.state.session t.session) (message_from d i) e.state.dial (with_state t (goes.shown d) (taking i)) is_new
        ∙ takes_its d frame e t_on.connection t_on.its ∙ on.welcome.its)
        (moved_state i) has refl is_new (ap (λ (n : ℕ). (x.lane_at n on.welcome.order).began) (sym on.welcome.number) ∙ on.welcome.unlearnt)
        (λ b other lives q its one.
        other (one_end v b app q z.session (x.end_at b).told e.told
        (of_some (λ (y : Session). ToldPlace v b y (x.end_at b).told) (x.end_at b).state.session q its ((h.sites d).ends.told b lives).place) place one))
        (λ b begins. anew b begins e.told refl place)
      where
        i : AppIn
        i = app_in.Frame d frame

        t_on : Taken e frame
        t_on = taken_down c m app d frame shows takes

        had : e.state.session ≡ Some z.session
        had = ap (λ (g : AppEnd). g.session) (sym same_end) ∙ z.its

        on : EpochOn v x z.session t_on.connection session epoch kept front taken t_on.behind
        on = epoch_on l m app d frame z.session session epoch kept front taken h alive t_on message (ap (λ (g : AppEnd). g.line) (sym same_end) ∙ z.asking) had z.later

        r : Session
        r = session_put z.since (told_puts front.w (synced_up front.s z.session)) (in_epoch epoch front z.session)

        has : t.session ≡ Some r
        has = ap (λ (g : AppEnd). g.session) z.here.end

        is_new : is_told_new e.state.session t.session ≡ true
        is_new =
            ap (λ (o : Option Session). is_told_new o t.session) had ∙ ap (is_told_new (Some z.session)) has
            ∙ ap not (ne_eqb z.session.epoch epoch (λ is. absurd (omega (arith, is, z.later))))

        place : ToldPlace v app z.session e.told
        place = place_of z.session had

        -- the session was there before the order that it learns of
        opened : ToldPlace v app z.session e.told → is_opened_in (order_at v on.welcome.order) z.session.number ≡ false
        opened at =
            before_later l m d at.order on.welcome.order z.session.number run (omega (arith, told_in v app z.session at.order at.met, on.told, on.welcome.says.later)) on.welcome.says.there
            at.within

        anew : (b : Lane) → LaneBegins (given_since 0 r.window) b → (o : Option Place) → e.told ≡ o → ToldPlace v app z.session o
            → LaneAsks b × EndAsks b t.ticket r.asks
        anew b begins None at there = absurd (none_some _ there.its)
        anew b begins (Some p) at there = with_asks (end_asks z.session p had at) (round_of z.session p had at)
          where
            same_ticket : t.ticket ≡ e.state.ticket
            same_ticket = ap (λ (g : AppEnd). g.ticket) z.here.end ∙ ap (λ (g : AppEnd). g.ticket) same_end

            with_asks : EndAsks (x.lane_at z.session.number p.order) e.state.ticket z.session.asks
                → SessionRound (order_at v p.order) (x.lane_at z.session.number p.order) z.session → LaneAsks b × EndAsks b t.ticket r.asks
            with_asks asks is =
                begins_with (given_since 0 r.window) t.ticket z.session.asks b (back_follows (given_since 0 r.window) back) (back_no_ask (given_since 0 r.window) back)
                asks.one_each asks.rise
                (all_follow (AskedIs (x.lane_at z.session.number p.order) e.state.ticket) (λ (y : Asked). y.ticket ≤ t.ticket) (λ y here. omega (arith, here.below, same_ticket))
                z.session.asks asks.each) begins
              where
                back : ComesBack (given_since 0 r.window)
                back = (epoch_begins (order_at v on.welcome.order) z.since epoch front z.session (opened place) is.queued is.owed).comes refl
    news (Reset session at) frame message takes z = absurd z
    news (Block front block) frame message takes z = absurd z
    news (Drop front lo hi) frame message takes z = absurd z
    news (Ack front) frame message takes z = absurd z
    news (Grant front ticket at) frame message takes z = absurd z
    news (Answer front about job number at sum) frame message takes z = absurd z
    news (Normal front) frame message takes z = absurd z
    news Bare frame message takes z = absurd z

    either : (i : AppIn) → StaysOrLoses (end_at a d) t → AsksAfter i
    either i (inl z) = stays i (subst (λ (f : AppEnd). EndStays f t) same_end z)
    either i (inr z) = loses i z.none

    fails : (i : AppIn) → StaysOrFails (end_at a d) t → AsksAfter i
    fails i (inl z) = either i (inl z)
    fails i (inr z) =
        loses i (z.session ∙ ap (λ (f : AppEnd). f.session) same_end
        ∙ none_there e.state.session (sym ((h.sites d).ends.tables app alive).connected ∙ ap has_session (ap (λ (f : AppEnd). f.link) (sym same_end) ∙ z.apart)))

    fresh_taken : (w : Down) (frame : DownFrame) → frame.message ≡ w → AppTakes c app (app_in.Frame d frame)
        → FreshTaken w d now frame (end_at a d) (begun a) (made goes.state goes.app_outs) → AsksAfter (app_in.Frame d frame)
    fresh_taken (Welcome session epoch kept front taken) frame message takes z = absurd z
    fresh_taken (Reset session at) frame message takes z = absurd z
    fresh_taken (Block front block) frame message takes z = fresh (Block front block) front frame message tt takes z
    fresh_taken (Drop front lo hi) frame message takes z = fresh (Drop front lo hi) front frame message tt takes z
    fresh_taken (Ack front) frame message takes z = fresh (Ack front) front frame message tt takes z
    fresh_taken (Grant front ticket at) frame message takes z = fresh (Grant front ticket at) front frame message tt takes z
    fresh_taken (Answer front about job number at sum) frame message takes z = fresh (Answer front about job number at sum) front frame message tt takes z
    fresh_taken (Normal front) frame message takes z = fresh (Normal front) front frame message tt takes z
    fresh_taken Bare frame message takes z = absurd z

    frame_after : (frame : DownFrame) → AppTakes c app (app_in.Frame d frame) → FrameAsks frame.message d now frame (begun a) (made goes.state goes.app_outs)
        → AsksAfter (app_in.Frame d frame)
    frame_after frame takes (inl z) = either (app_in.Frame d frame) z
    frame_after frame takes (inr (inl z)) = fresh_taken frame.message frame refl takes z
    frame_after frame takes (inr (inr z)) = news frame.message frame refl takes z

    by_input : (i : AppIn) → AppTakes c app i → InputAsks i d now (begun a) (made goes.state goes.app_outs) → AsksAfter i
    by_input (app_in.Frame k frame) takes (inl z) = either (app_in.Frame k frame) (inl z)
    by_input (app_in.Frame k frame) takes (inr z) =
        subst (λ (n : ℕ). AppTakes c app (app_in.Frame n frame) → FrameAsks frame.message n now frame (begun a) (made goes.state goes.app_outs) → AsksAfter (app_in.Frame n frame)) z.0
        (frame_after frame) takes z.1
    by_input (app_in.Connected k) takes z = either (app_in.Connected k) (inl z)
    by_input (app_in.NoWay k fails_before fails_after) takes z = fails (app_in.NoWay k fails_before fails_after) z
    by_input (app_in.Broken k) takes z = either (app_in.Broken k) (inl z)
    by_input (app_in.Join k) takes z = either (app_in.Join k) (inl z)
    by_input app_in.Tick takes z = either app_in.Tick z

    asks_after : AsksAfter input
    asks_after =
        by_input input allowed.takes
        (input_asks input d now (begun a) (made goes.state goes.app_outs) (app_may c m app input shows allowed.known allowed.may)
        (steps_at_one_end a goes.state now input goes.app_outs goes.steps).1 has goes.steps)
      where
        has : (k : ℕ) → LineHas (end_at a k).line (end_at a k).session
        has k =
            subst (λ (f : AppEnd). LineHas f.line f.session) (sym (app_ends c m app k shows allowed.known))
            (line_has (((state_after l m.trail).server_at k).pair_at app) (end_state m app k) ((h.sites k).ends.tables app alive))

  -- Each input keeps them.
  pub asks_kept_by_app : EachAsksHold new
  asks_kept_by_app = subst (λ (n : Machine). EachAsksHold n) (sym goes.after) (λ d. asks_after d)
