-- The part on connections, for each frame that an application server takes, and so for each of its inputs.
use Rattle.std.proofs.Common.{◌≡◌, ◌≢◌, ◌⊎◌, ℕ, Bool, true, false, ◌==◌, List, ◌++◌, Option, Some, None, if◌then◌else◌, refl, sym, ◌∙◌, ap, subst, inl, inr}
use Rattle.std.specs.Prelude.{IfSome}
use Rattle.std.specs.List.{list_all, list_any}
use Rattle.std.proofs.lemmas.Bool.{eqb-true, eq-eqb, false≢true}
use Rattle.plain_orders.specs.declared.act.Act.{Act}
use Rattle.plain_orders.specs.declared.layout.Layout.{Layout}
use Rattle.plain_runs.specs.Plain.{Plain, Server, order_at, start}
use Rattle.plain_runs.specs.Run.{IsRun, after_all, state_after}
use Rattle.plain_runs.proofs.RunLemmas.{after_all-append}
use Rattle.ecp_messages.specs.declared.down.Down.{Down}
use Rattle.ecp_messages.specs.declared.down.DownFrame.{DownFrame}
use Rattle.app_rules.specs.declared.app_in.AppIn.{AppIn}
use Rattle.app_rules.specs.declared.app_in.AppIn.TheVariants as app_in
use Rattle.app_rules.specs.AppState.{AppState, AppEnd}
use Rattle.app_rules.specs.AppStep.{AppMay, made}
use Rattle.app_rules.specs.Works.{begun, end_at}
use Rattle.app_rules.proofs.StepLaws.{steps_at_one_end}
use Rattle.cluster_runs.specs.declared.move_outs.MoveOuts.{MoveOuts}
use Rattle.cluster_runs.specs.declared.moves.Move.TheVariants.{App}
use Rattle.cluster_runs.specs.CoresState.{CoresState}
use Rattle.cluster_runs.specs.Moves.{Allowed}
use Rattle.cluster_runs.specs.Mirrors.{Mirrors}
use Rattle.cluster_runs.specs.Machine.{Machine, Site, End, app_state, end_state}
use Rattle.cluster_runs.specs.Connections.{at_number, down_taken, is_index}
use Rattle.cluster_runs.specs.Goes.{AppGoes, app_end, app_site, input_site}
use Rattle.cluster_invariant.specs.Dials.{DialsAre}
use Rattle.cluster_invariant.specs.Ends.{AppTold}
use Rattle.cluster_invariant.specs.Holds.{Holds}
use Rattle.cluster_invariant.specs.Link.{is_numbered_up}
use Rattle.cluster_invariant.specs.Orders.{NodeOrder}
use Rattle.cluster_invariant.proofs.Small.{put_same, some_kept}
use Rattle.cluster_steps.proofs.AppSites.{app_ends, site_ends}
use Rattle.cluster_steps.proofs.FrameAlone.{taken_silent}
use Rattle.cluster_steps.proofs.FrameCases.{LineHas, frame_came}
use Rattle.cluster_steps.proofs.InputsBring.{WelcomeTold}
use Rattle.ends_kept.proofs.PairTables.{line_has}
use Rattle.ends_kept.proofs.TablesMoves.{app_may}
use Rattle.ends_kept.proofs.TakenDown.{Taken, taken_down}
use Rattle.told_kept.proofs.ToldApps.{told_kept_by_app}
use Rattle.told_kept.proofs.ToldBeside.{ToldHolds}
use Rattle.dials_kept.proofs.AppInputs.{dials_by_app}
use Rattle.cluster_invariant.proofs.PastOrders.{order_now}
use Rattle.dials_kept.proofs.BrokenDials.{dials_kept_by_broken}
use Rattle.dials_kept.proofs.ConnectedDials.{dials_kept_by_connected}
use Rattle.dials_kept.proofs.ConnectionsGrow.{StaysKnown}
use Rattle.dials_kept.proofs.InputDials.{dials_kept_by_app_tick, dials_kept_by_join, dials_kept_by_no_way}
use Rattle.dials_kept.proofs.QuietMoves.{QuietEnd, dials_quiet_at, quiet_same}
use Rattle.dials_kept.proofs.ShortDials.{EachDials}
use Rattle.dials_frames.proofs.BeganDials.{dials_told_at}
use Rattle.dials_frames.proofs.FrameTakes.{TakesHere, TakesOne, frame_takes}
use Rattle.dials_frames.proofs.TakenDials.{dials_taken_at}
use Rattle.dials_frames.proofs.FrameNews.{Told, kept_numbered, told_new}

-- Each frame keeps it.
pub dials_kept_by_frame : (l : Layout) (c : CoresState) (m : Machine) (app now d : ℕ) (frame : DownFrame) (outs : MoveOuts) (written : List Act) (new : Machine)
    → Holds l m → IsRun l m.trail → Mirrors c m → Allowed c (App app now (app_in.Frame d frame)) → AppGoes m app now (app_in.Frame d frame) outs written new
    → EachDials l (state_after l new.trail) new
dials_kept_by_frame l c m app now d frame outs written new h run shows allowed goes =
    dials_by_app l c m app now (app_in.Frame d frame) outs written new h run shows allowed goes (λ k later. each k later (d == k) refl)
  where
    input : AppIn
    input = app_in.Frame d frame

    a : AppState
    a = app_state m app

    v : ℕ → Server
    v k = (state_after l m.trail).server_at k

    w : ℕ → Server
    w k = (after_all l (state_after l m.trail) goes.app_outs.acts).server_at k

    e : ℕ → End
    e k = (m.site_at k).end_at app

    site : ℕ → Site
    site k = input_site app input goes.app_outs goes.state goes.shown k (m.site_at k)

    alive : m.is_dead_at app ≡ false
    alive = sym (shows.dead app) ∙ allowed.alive

    may : AppMay a input
    may = app_may c m app input shows allowed.known allowed.may

    here : end_at a d ≡ end_state m app d
    here = app_ends c m app d shows allowed.known

    taken : Taken (e d) frame
    taken = taken_down c m app d frame shows allowed.takes

    has : LineHas (end_at a d).line (end_at a d).session
    has = subst (λ (t : AppEnd). LineHas t.line t.session) (sym here) (line_has ((v d).pair_at app) (end_state m app d) ((h.sites d).ends.tables app alive))

    numbered : IfSome (end_state m app d).session (λ s. list_all is_numbered_up s.window.waiting ≡ true)
    numbered =
        kept_numbered (v d) (m.site_at d) app (end_state m app d).session (e d).told (h.sites d).link.lanes ((h.sites d).ends.told app alive).place
        ((h.sites d).link.apps app alive).window

    came : TakesHere d (end_state m app d) (begun a) (made goes.state goes.app_outs)
        ⊎ WelcomeTold frame.message d now (end_state m app d) (begun a) (made goes.state goes.app_outs)
    came =
        subst (λ (t : AppEnd). TakesHere d t (begun a) (made goes.state goes.app_outs) ⊎ WelcomeTold frame.message d now t (begun a) (made goes.state goes.app_outs)) here
        (frame_takes frame.message d now frame (begun a) (made goes.state goes.app_outs)
        (subst (λ (t : AppEnd). IfSome t.session (λ s. list_all is_numbered_up s.window.waiting ≡ true)) (sym here) numbered)
        (frame_came (begun a) now d frame (made goes.state goes.app_outs) may.known has goes.steps))

    -- what the end was told holds of the plain server
    told_holds : ToldHolds l (state_after l new.trail) new
    told_holds = told_kept_by_app l c m app now input outs written new h run shows allowed goes

    told_after : AppTold (w d) app ((site d).end_at app)
    told_after =
        subst (λ (q : Plain). AppTold (q.server_at d) app ((site d).end_at app)) (after_all-append l start m.trail goes.app_outs.acts)
        (subst (λ (ws : List Act). AppTold ((state_after l (m.trail ++ ws)).server_at d) app ((site d).end_at app)) goes.acts
        (subst (λ (n : Machine). (n.is_dead_at app ≡ false) → AppTold ((state_after l n.trail).server_at d) app ((n.site_at d).end_at app)) goes.after
        (told_holds d app) alive))

    Part : ℕ → Option Down → End → Type 0
    Part k message z =
        DialsAre (w k)
        (app_site app k goes.app_outs (end_state m app k) (end_at goes.state k) message
        (app_end k goes.app_outs (end_state m app k) (end_at goes.state k) (goes.shown k) message z) (m.site_at k)) m.is_dead_at

    order : IfSome (m.site_at d).node (λ n. (k : ℕ) → k ≡ (m.site_at d).past → n.order ≡ order_at (v d) k)
    order =
        some_kept (NodeOrder l d (m.site_at d).past (v d)) (λ n. (k : ℕ) → k ≡ (m.site_at d).past → n.order ≡ order_at (v d) k)
        (λ n is k now. is.order ∙ sym (ap (order_at (v d)) (now ∙ (h.sites d).order.past) ∙ order_now (v d))) (m.site_at d).node (h.sites d).order.node

    there : StaysKnown (v d) (w d) → Part d (Some frame.message) (at_number (e d).state.dial down_taken (e d))
    there later = go came
      where
        x : Site
        x = m.site_at d

        go : TakesHere d (end_state m app d) (begun a) (made goes.state goes.app_outs)
            ⊎ WelcomeTold frame.message d now (end_state m app d) (begun a) (made goes.state goes.app_outs)
            → Part d (Some frame.message) (at_number (e d).state.dial down_taken (e d))
        go (inl takes) =
            dials_taken_at (v d) (w d) x m.is_dead_at app d goes.app_outs (end_at goes.state d) (goes.shown d) frame alive (h.sites d).ends (h.sites d).link taken
            takes.ups takes.frames (subst (λ (cs : List ℕ). TakesOne d (end_state m app d) (end_at goes.state d) takes.ups cs) (sym takes.cut) takes.takes) later
            (h.sites d).dials
        go (inr news) = by (told_new l c m app now d frame h shows allowed.known alive taken frame.message (made goes.state goes.app_outs) refl news)
          where
            by : Told l c m app now d frame h shows allowed.known alive taken (made goes.state goes.app_outs)
                → Part d (Some frame.message) (at_number (e d).state.dial down_taken (e d))
            by told =
                dials_told_at (v d) (w d) x m.is_dead_at app d goes.app_outs (end_at goes.state d) (goes.shown d) frame taken told.ups told.frames told.cuts told.tells later
                (h.sites d).dials own (some_kept _ _ (λ n is. is told.tells.order) x.node order)
              where
                ended : End
                ended = app_end d goes.app_outs (e d).state (end_at goes.state d) (goes.shown d) (Some frame.message) (at_number (e d).state.dial down_taken (e d))

                -- the input is the data server's own
                Own : Bool → Type 0
                Own b =
                    AppTold (w d) app
                    ((app_site app d goes.app_outs (e d).state (end_at goes.state d) (if b then Some frame.message else None)
                    (app_end d goes.app_outs (e d).state (end_at goes.state d) (goes.shown d) (if b then Some frame.message else None)
                    (if b then at_number (e d).state.dial down_taken (e d) else e d)) x).end_at app)

                at_itself : AppTold (w d) app ((site d).end_at app) → Own true
                at_itself told_so = subst (λ (b : Bool). Own b) (eq-eqb d d refl) told_so

                own : AppTold (w d) app ended
                own =
                    subst (λ (z : End). AppTold (w d) app z)
                    (ap (λ (g : ℕ → End). g app) (site_ends app d goes.app_outs (e d).state (end_at goes.state d) (Some frame.message) ended x)
                    ∙ put_same x.end_at app ended) (at_itself told_after)

    others : (k : ℕ) → k ≢ d → StaysKnown (v k) (w k) → Part k None (e k)
    others k other later =
        dials_quiet_at (v k) (w k) (m.site_at k) m.is_dead_at app k goes.app_outs (end_at goes.state k) (goes.shown k) None alive (h.sites k).ends (h.sites k).link
        (taken_silent k d (λ same. other (sym same)) (begun a) now frame (made goes.state goes.app_outs) goes.steps) (uncut came)
        (subst (λ (t : AppEnd). QuietEnd t (end_at goes.state k)) (app_ends c m app k shows allowed.known)
        (subst (λ (t : AppEnd). QuietEnd (end_at a k) t) (sym ((steps_at_one_end a goes.state now input goes.app_outs goes.steps).1 k other)) (quiet_same (end_at a k))))
        later (h.sites k).dials
      where
        uncut : TakesHere d (end_state m app d) (begun a) (made goes.state goes.app_outs)
            ⊎ WelcomeTold frame.message d now (end_state m app d) (begun a) (made goes.state goes.app_outs) → list_any (is_index k) goes.app_outs.cuts ≡ false
        uncut (inl takes) = ap (list_any (is_index k)) takes.cut ∙ takes.takes.others k other
        uncut (inr news) =
            ap (list_any (is_index k))
            (told_new l c m app now d frame h shows allowed.known alive taken frame.message (made goes.state goes.app_outs) refl news).cuts

    each : (k : ℕ) → StaysKnown (v k) (w k) → (b : Bool) → (d == k) ≡ b
        → Part k (if b then Some frame.message else None) (if b then at_number (e k).state.dial down_taken (e k) else e k)
    each k later true is =
        subst (λ (n : ℕ). StaysKnown (v n) (w n) → Part n (Some frame.message) (at_number (e n).state.dial down_taken (e n))) (eqb-true d k is) there later
    each k later false is = others k (λ same. false≢true (sym is ∙ eq-eqb d k (sym same))) later

-- Each input of an application server keeps it.
pub dials_kept_by_inputs : (l : Layout) (c : CoresState) (m : Machine) (app now : ℕ) (input : AppIn) (outs : MoveOuts) (written : List Act) (new : Machine)
    → Holds l m → IsRun l m.trail → Mirrors c m → Allowed c (App app now input) → AppGoes m app now input outs written new → EachDials l (state_after l new.trail) new
dials_kept_by_inputs l c m app now (app_in.Frame d frame) outs written new h run shows allowed goes =
    dials_kept_by_frame l c m app now d frame outs written new h run shows allowed goes
dials_kept_by_inputs l c m app now (app_in.Connected d) outs written new h run shows allowed goes =
    dials_kept_by_connected l c m app now d outs written new h run shows allowed goes
dials_kept_by_inputs l c m app now (app_in.NoWay d before later) outs written new h run shows allowed goes =
    dials_kept_by_no_way l c m app now d before later outs written new h run shows allowed goes
dials_kept_by_inputs l c m app now (app_in.Broken d) outs written new h run shows allowed goes =
    dials_kept_by_broken l c m app now d outs written new h run shows allowed goes
dials_kept_by_inputs l c m app now (app_in.Join d) outs written new h run shows allowed goes =
    dials_kept_by_join l c m app now d outs written new h run shows allowed goes
dials_kept_by_inputs l c m app now app_in.Tick outs written new h run shows allowed goes =
    dials_kept_by_app_tick l c m app now outs written new h run shows allowed goes
