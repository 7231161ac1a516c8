-- The part on what is on its way, for a connection that an application server has made.
use Rattle.std.proofs.Common.{◌≡◌, ◌≢◌, ℕ, ◌+◌, Bool, true, false, if◌then◌else◌, List, [], ◌∷◌, ◌++◌, Option, None, is_some, refl, sym, ◌∙◌, ap, subst, eqb}
use Rattle.std.specs.Prelude.{IfSome}
use Rattle.std.specs.List.{list_any}
use Rattle.std.proofs.lemmas.Bool.{eqb-true, eq-eqb, false≢true, ne_eqb}
use Rattle.plain_orders.specs.declared.act.Act.{Act}
use Rattle.plain_orders.specs.declared.act.Act.TheVariants as act
use Rattle.plain_orders.specs.declared.layout.Layout.{Layout}
use Rattle.plain_runs.specs.Plain.{Plain, Server, start, put}
use Rattle.plain_runs.specs.Run.{IsRun, after_all, state_after}
use Rattle.plain_runs.proofs.RunLemmas.{after_all-append}
use Rattle.link_states.specs.declared.app_link.AppLink.{AppLink}
use Rattle.link_states.specs.declared.app_link.AppLink.TheVariants.{NotConnected, Normal as NormalLink, Trouble, Recovery}
use Rattle.ecp_messages.specs.declared.up.UpFrame.{UpFrame}
use Rattle.app_rules.specs.declared.app_in.AppIn.TheVariants as app_in
use Rattle.app_rules.specs.AppState.{AppState, AppEnd}
use Rattle.app_rules.specs.AppStep.{AppMay, made}
use Rattle.app_rules.specs.Losing.{connected_from, with_dial}
use Rattle.app_rules.specs.Works.{Sofar, becomes, begun, end_at}
use Rattle.app_rules.proofs.StepLaws.{steps_at_one_end}
use Rattle.cluster_runs.specs.CoresState.{CoresState}
use Rattle.cluster_runs.specs.declared.move_outs.MoveOuts.{MoveOuts}
use Rattle.cluster_runs.specs.declared.moves.Move.TheVariants.{App}
use Rattle.cluster_runs.specs.Connections.{at_number, carries_up, is_index, leaves_if, ups_to, with_connection, with_ups}
use Rattle.cluster_runs.specs.Goes.{AppGoes, app_end, app_takes, input_site, with_state}
use Rattle.cluster_runs.specs.Lanes.{is_told_new, sent_before, told_by, with_app_step}
use Rattle.cluster_runs.specs.Machine.{Machine, Site, End, app_state}
use Rattle.cluster_runs.specs.Mirrors.{Mirrors}
use Rattle.cluster_runs.specs.Moves.{Allowed}
use Rattle.cluster_runs.specs.Sent.{Lane, Place}
use Rattle.cluster_invariant.specs.Ends.{ToldPlace, has_session}
use Rattle.cluster_invariant.specs.Holds.{Holds}
use Rattle.cluster_invariant.specs.Link.{LinkHolds}
use Rattle.cluster_steps.proofs.AppSites.{SameBeside, app_ends, site_beside, site_ends}
use Rattle.cluster_steps.proofs.InputEnds.{ConnectedCame, connected_came}
use Rattle.cluster_steps.proofs.JobEnds.{up_elsewhere}
use Rattle.told_kept.proofs.ToldActs.{TellNothing, input_acts}
use Rattle.link_kept.specs.Laws.{EachLinkHolds}
use Rattle.link_apps.proofs.EndStep.{IsElsewhere, link_kept_by_end}
use Rattle.link_apps.proofs.InputPlain.{AfterInput, after_input}
use Rattle.link_apps.proofs.LanesApps.{site_lanes}
use Rattle.link_apps.proofs.PutSteps.{own_after}
use Rattle.link_apps.proofs.Rests.{EndRests, rests_same, Keeps}
use Rattle.link_apps.proofs.RestWays.{LaneRests}
use Rattle.link_apps.proofs.RestSites.{lane_same}
use Rattle.link_apps.proofs.RestLinks.{rest_at, may, has}
use Rattle.link_apps.proofs.ConnectedLinks.{Dialled, no_news, dial_lane, dial_elsewhere, own_dialled, step_dialled, dialled_by}

-- its first frame goes to its data server alone, nothing is cut, and no session is lost

frames_elsewhere : (link : AppLink) (d k now : ℕ) (b : Sofar) → d ≢ k → ups_to k (connected_from link d now b).outs.frames ≡ ups_to k b.outs.frames
frames_elsewhere NotConnected d k now b other = up_elsewhere k b.outs.frames _ other
frames_elsewhere NormalLink d k now b other = up_elsewhere k b.outs.frames _ other
frames_elsewhere (Trouble broke try_at) d k now b other = up_elsewhere k b.outs.frames _ other
frames_elsewhere Recovery d k now b other = up_elsewhere k b.outs.frames _ other

none_cut : (link : AppLink) (d now : ℕ) (e : AppEnd) (b c : Sofar) → b.outs.cuts ≡ [] → ConnectedCame link d now e b c → c.outs.cuts ≡ []
none_cut NotConnected d now e b c none came = came.cuts ∙ ap (λ (xs : List ℕ). xs ++ []) none
none_cut NormalLink d now e b c none came = came.cuts ∙ ap (λ (xs : List ℕ). xs ++ []) none
none_cut (Trouble broke try_at) d now e b c none came = came.cuts ∙ ap (λ (xs : List ℕ). xs ++ []) none
none_cut Recovery d now e b c none came = came.cuts ∙ ap (λ (xs : List ℕ). xs ++ []) none

none_lost : (link : AppLink) (d now app k : ℕ) (e : AppEnd) (b c : Sofar) → b.outs.acts ≡ [] → ConnectedCame link d now e b c → Keeps app k c.outs.acts
none_lost NotConnected d now app k e b c none came = subst (Keeps app k) (sym (came.acts ∙ ap (λ (xs : List Act). xs ++ []) none)) tt
none_lost NormalLink d now app k e b c none came = subst (Keeps app k) (sym (came.acts ∙ ap (λ (xs : List Act). xs ++ []) none)) tt
none_lost (Trouble broke try_at) d now app k e b c none came = subst (Keeps app k) (sym (came.acts ∙ ap (λ (xs : List Act). xs ++ act.Mended b.state.app d ∷ []) none)) (refl, tt)
none_lost Recovery d now app k e b c none came = subst (Keeps app k) (sym (came.acts ∙ ap (λ (xs : List Act). xs ++ []) none)) tt

-- an end without a session isn't connected
without_one : (link : AppLink) → has_session link ≡ false → link ≡ NotConnected
without_one NotConnected is = refl
without_one NormalLink is = absurd (false≢true (sym is))
without_one (Trouble broke try_at) is = absurd (false≢true (sym is))
without_one Recovery is = absurd (false≢true (sym is))

module _ (l : Layout) (c : CoresState) (m : Machine) (app now d : ℕ) (outs : MoveOuts) (written : List Act) (new : Machine)
    (h : Holds l m) (run : IsRun l m.trail) (shows : Mirrors c m) (allowed : Allowed c (App app now (app_in.Connected d)))
    (goes : AppGoes m app now (app_in.Connected d) outs written new) where
  abbrev a : AppState
  a = app_state m app

  alive : m.is_dead_at app ≡ false
  alive = sym (shows.dead app) ∙ allowed.alive

  its : AppMay a (app_in.Connected d)
  its = may l c m app now (app_in.Connected d) outs written new h run shows allowed goes

  tells : TellNothing goes.app_outs.acts
  tells =
      input_acts (app_in.Connected d) now (begun a) (made goes.state goes.app_outs) its (has l c m app now (app_in.Connected d) outs written new h run shows allowed goes)
      goes.steps tt

  came : ConnectedCame (end_at a d).link d now (end_at a d) (begun a) (made goes.state goes.app_outs)
  came = subst (λ (z : Sofar). ConnectedCame (end_at a d).link d now (end_at a d) (begun a) z) (sym goes.steps) (connected_came d now (begun a) its.known)

  cuts : goes.app_outs.cuts ≡ []
  cuts = none_cut (end_at a d).link d now (end_at a d) (begun a) (made goes.state goes.app_outs) refl came

  after : AfterInput l m app goes.app_outs.acts
  after = after_input l c m app now (app_in.Connected d) outs written new h run shows allowed goes

  -- at the other data servers the ends rest
  elsewhere : (k : ℕ) → k ≢ d
      → LinkHolds ((after_all l (state_after l m.trail) goes.app_outs.acts).server_at k) (input_site app (app_in.Connected d) goes.app_outs goes.state goes.shown k (m.site_at k)) m.is_dead_at
  elsewhere k other =
      rest_at l c m app now (app_in.Connected d) outs written new h run shows allowed goes k false (after.none k tells) (ne_eqb d k (λ same. other (sym same)))
      (ap (λ (z : Sofar). ups_to k z.outs.frames) goes.steps ∙ frames_elsewhere (end_at a d).link d k now (becomes d with_dial (begun a)) (λ same. other (sym same)))
      (ap (list_any (is_index k)) cuts)
      (subst (λ (t : AppEnd). EndRests (end_at a k) t)
      (sym ((steps_at_one_end a goes.state now (app_in.Connected d) goes.app_outs goes.steps).1 k other)) (rests_same (end_at a k)))
      (λ wired. none_lost (end_at a d).link d now app k (end_at a d) (begun a) (made goes.state goes.app_outs) refl came)

  -- at its data server the end has the connection
  here : LinkHolds ((after_all l (state_after l m.trail) goes.app_outs.acts).server_at d) (input_site app (app_in.Connected d) goes.app_outs goes.state goes.shown d (m.site_at d)) m.is_dead_at
  here =
      link_kept_by_end v w x y m.is_dead_at app f alive (after.later d) (λ b other. after.others d (after.none d tells) b other) (after.now d) (h.sites d).order.past (h.sites d).link
      (h.sites d).ends (h.sites d).dials
      (step_dialled v w x y m.is_dead_at app t (goes.shown d) us (h.sites d).link (h.sites d).ends (h.sites d).dials alive dialled beside ends lanes others)
      (own_dialled v w x y m.is_dead_at app t (goes.shown d) us (h.sites d).link (h.sites d).ends (h.sites d).dials alive dialled beside ends lanes others)
    where
      v : Server
      v = (state_after l m.trail).server_at d

      w : Server
      w = (after_all l (state_after l m.trail) goes.app_outs.acts).server_at d

      x : Site
      x = m.site_at d

      y : Site
      y = input_site app (app_in.Connected d) goes.app_outs goes.state goes.shown d x

      e : End
      e = x.end_at app

      t : AppEnd
      t = end_at goes.state d

      us : List UpFrame
      us = ups_to d goes.app_outs.frames

      f : End
      f = own_after (with_ups us) t (goes.shown d) (with_connection (e.state.dial + 1) e)

      g : End
      g = app_end d goes.app_outs e.state t (goes.shown d) None (app_takes d (app_in.Connected d) e.state.dial e)

      dialled : Dialled e.state t
      dialled =
          subst (λ (z : AppEnd). Dialled z t) (app_ends c m app d shows allowed.known)
          (dialled_by (end_at a d).link d now (end_at a d) (begun a) (made goes.state goes.app_outs) unmet came)
        where
          unmet : is_some (end_at a d).session ≡ false → (end_at a d).link ≡ NotConnected
          unmet none =
              subst (λ (z : AppEnd). is_some z.session ≡ false → z.link ≡ NotConnected) (sym (app_ends c m app d shows allowed.known))
              (λ is. without_one e.state.link (((h.sites d).ends.tables app alive).connected ∙ is)) none

      nothing : is_told_new e.state.session t.session ≡ false
      nothing = no_news e.state.session t.session dialled.session

      moved : g ≡ f
      moved =
          ap (λ (b : Bool). app_end d goes.app_outs e.state t (goes.shown d) None (if b then with_connection (e.state.dial + 1) e else e)) (eq-eqb d d refl)
          ∙ ap (λ (b : Bool). carries_up d t.dial goes.app_outs.frames goes.app_outs.cuts (told_by b None e.state.dial (with_state t (goes.shown d) (with_connection (e.state.dial + 1) e)))) nothing
          ∙ ap (λ (b : Bool). at_number t.dial (λ z. leaves_if b (with_ups us z)) (with_state t (goes.shown d) (with_connection (e.state.dial + 1) e))) (ap (list_any (is_index d)) cuts)

      told : g.told ≡ e.told
      told = ap (λ (z : End). z.told) moved

      place : IfSome e.state.session (λ s. ToldPlace v app s e.told)
      place = ((h.sites d).ends.told app alive).place

      beside : SameBeside x y
      beside = site_beside app d goes.app_outs e.state t None g x

      ends : y.end_at ≡ put x.end_at app f
      ends = site_ends app d goes.app_outs e.state t None g x ∙ ap (put x.end_at app) moved

      stepped : Lane → Lane
      stepped z = with_app_step false None e.state.dial (sent_before e.state.session) t.session us z

      lanes : (s k : ℕ) → LaneRests (x.lane_at s k) (y.lane_at s k)
      lanes s k =
          site_lanes LaneRests lane_same app d goes.app_outs e.state t None g x nothing s k
          (subst (λ (o : Option Place). IfSome o (λ r. (s ≡ r.session) → (k ≡ r.order) → LaneRests (x.lane_at s k) (stepped (x.lane_at s k)))) (sym told)
          (dial_lane v x app None e.state.dial us s k e.state.session t.session e.told dialled.session place ((h.sites d).link.apps app alive).window))

      others : (s k : ℕ) → IsElsewhere e s k → y.lane_at s k ≡ x.lane_at s k
      others s k none =
          site_lanes (λ z r. r ≡ z) (λ z. refl) app d goes.app_outs e.state t None g x nothing s k
          (subst (λ (o : Option Place). IfSome o (λ r. (s ≡ r.session) → (k ≡ r.order) → stepped (x.lane_at s k) ≡ x.lane_at s k)) (sym told)
          (dial_elsewhere v x app None e.state.dial us s k e.state.session t.session e.told dialled.session place none))

-- A connection that is there keeps it.
pub links_kept_by_connected : (l : Layout) (c : CoresState) (m : Machine) (app now d : ℕ) (outs : MoveOuts) (written : List Act) (new : Machine)
    → Holds l m → IsRun l m.trail → Mirrors c m → Allowed c (App app now (app_in.Connected d)) → AppGoes m app now (app_in.Connected d) outs written new → EachLinkHolds l new
links_kept_by_connected l c m app now d outs written new h run shows allowed goes =
    subst (λ (n : Machine). EachLinkHolds l n) (sym goes.after)
    (subst (λ (ws : List Act). (k : ℕ) → LinkHolds ((state_after l (m.trail ++ ws)).server_at k) (site k) m.is_dead_at) (sym goes.acts)
    (λ k. subst (λ (q : Plain). LinkHolds (q.server_at k) (site k) m.is_dead_at) (sym (after_all-append l start m.trail goes.app_outs.acts)) (go k (eqb k d) refl)))
  where
    site : ℕ → Site
    site k = input_site app (app_in.Connected d) goes.app_outs goes.state goes.shown k (m.site_at k)

    go : (k : ℕ) (b : Bool) → eqb k d ≡ b → LinkHolds ((after_all l (state_after l m.trail) goes.app_outs.acts).server_at k) (site k) m.is_dead_at
    go k true same =
        subst (λ (n : ℕ). LinkHolds ((after_all l (state_after l m.trail) goes.app_outs.acts).server_at n) (site n) m.is_dead_at) (sym (eqb-true k d same))
        (here l c m app now d outs written new h run shows allowed goes)
    go k false other = elsewhere l c m app now d outs written new h run shows allowed goes k (λ same. false≢true (sym other ∙ eq-eqb k d same))
