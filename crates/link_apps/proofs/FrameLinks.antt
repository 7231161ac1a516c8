-- The part on what is on its way, for each frame by which the end at its data server learns of no order.
use Rattle.std.proofs.Common.{◌≡◌, ◌≢◌, ◌<◌, ◌⊎◌, inl, inr, ℕ, Bool, true, false, ◌==◌, if◌then◌else◌, not, ◌&&◌, ◌||◌, List, [], ◌∷◌, ◌++◌, map, Option, Some, None, is_some, refl, sym, ◌∙◌, ap, subst, eqb, arith}
use Rattle.std.specs.List.{list_any}
use Rattle.std.proofs.lemmas.Bool.{eqb-true, eq-eqb, false≢true, ne_eqb}
use Rattle.plain_orders.specs.declared.act.Act.{Act}
use Rattle.plain_orders.specs.declared.layout.Layout.{Layout}
use Rattle.plain_orders.specs.declared.layout.Times.{Times}
use Rattle.plain_orders.specs.declared.refused.LinkName.{LinkName}
use Rattle.plain_orders.specs.declared.refused.LinkName.TheVariants as names
use Rattle.plain_runs.specs.Plain.{Plain, start}
use Rattle.plain_runs.specs.Run.{IsRun, after_all, state_after}
use Rattle.plain_runs.proofs.RunLemmas.{after_all-append}
use Rattle.ecp_messages.specs.declared.down.Down.{Down}
use Rattle.ecp_messages.specs.declared.down.Down.TheVariants.{Welcome, Reset, Block, Drop, Ack, Grant, Answer, Normal, Bare}
use Rattle.ecp_messages.specs.declared.down.DownFrame.{DownFrame}
use Rattle.app_job.specs.declared.reason.Reason.{Reason}
use Rattle.app_job.specs.declared.reason.Reason.TheVariants as reasons
use Rattle.app_rules.specs.declared.app_in.AppIn.TheVariants as app_in
use Rattle.app_rules.specs.declared.line.Line.{Line}
use Rattle.app_rules.specs.declared.line.Line.TheVariants.{Apart, Trying, Greeting, Asking, Joined}
use Rattle.app_rules.specs.AppState.{AppState, AppEnd, Session}
use Rattle.app_rules.specs.AppStep.{AppMay, made}
use Rattle.app_rules.specs.Losing.{without_session}
use Rattle.app_rules.specs.Works.{Sofar, begun, end_at}
use Rattle.app_rules.proofs.StepLaws.{steps_at_one_end}
use Rattle.cluster_runs.specs.CoresState.{CoresState}
use Rattle.cluster_runs.specs.declared.move_outs.MoveOuts.{MoveOuts}
use Rattle.cluster_runs.specs.declared.moves.Move.TheVariants.{App}
use Rattle.cluster_runs.specs.Connections.{at_number, down_taken, is_index, ups_to}
use Rattle.cluster_runs.specs.Goes.{AppGoes, app_takes, input_site}
use Rattle.cluster_runs.specs.Machine.{Machine, Site, End, app_state}
use Rattle.cluster_runs.specs.Mirrors.{Mirrors}
use Rattle.cluster_runs.specs.Moves.{Allowed}
use Rattle.cluster_invariant.specs.Holds.{Holds}
use Rattle.cluster_invariant.specs.Link.{LinkHolds}
use Rattle.cluster_invariant.specs.Words.{has_wire}
use Rattle.cluster_steps.proofs.AppSites.{app_ends}
use Rattle.cluster_steps.proofs.FrameAlone.{taken_silent}
use Rattle.cluster_steps.proofs.FrameCases.{BareCame, bare_frame_came, frame_came}
use Rattle.cluster_steps.proofs.FrameEnds.{FrameCame, ended_from}
use Rattle.cluster_steps.proofs.InputsBring.{WelcomeTold}
use Rattle.ends_kept.proofs.TakenDown.{Taken, taken_down}
use Rattle.told_kept.proofs.ToldActs.{TellNothing, input_acts}
use Rattle.link_kept.specs.Laws.{EachLinkHolds}
use Rattle.link_apps.proofs.FrameKinds.{Comes, frame_comes}
use Rattle.link_apps.proofs.InputPlain.{AfterInput, after_input}
use Rattle.link_apps.proofs.JoinedNow.{link_kept_by_joined}
use Rattle.link_apps.proofs.Rests.{EndRests, Keeps, ended_rests, lost_wire, rests_same}
use Rattle.link_apps.proofs.RestSites.{TakesNone, taken_rests, takes_at as rests_as_taken}
use Rattle.link_apps.proofs.RestLinks.{ended_keeps, has, may, rest_at, rest_by}
use Rattle.link_apps.proofs.TookSites.{end_took, site_took}
use Rattle.link_apps.proofs.WentOn.{end_went, site_went}
use Rattle.cluster_runs.specs.Lanes.{is_told_new}
use Rattle.cluster_invariant.specs.Ends.{has_session, stands}
use Rattle.link_states.specs.declared.app_link.AppLink.{AppLink}
use Rattle.link_states.specs.declared.app_link.AppLink.TheVariants.{NotConnected, Normal as NormalLink, Trouble, Recovery}
use Rattle.end_words.specs.Windows.{resent}
use Rattle.cluster_steps.proofs.JobEnds.{up_frame}
use Rattle.cluster_steps.proofs.EndSteps.{bare_frames, session_put}
use Rattle.app_rules.specs.Welcoming.{in_epoch, told_puts}
use Rattle.app_rules.specs.Works.{synced_up}

-- what is told is new

greets_alone : (link : AppLink) → stands link Greeting ≡ true → has_session link ≡ false
greets_alone NotConnected is = refl
greets_alone NormalLink is = absurd (false≢true is)
greets_alone (Trouble broke try_at) is = absurd (false≢true is)
greets_alone Recovery is = absurd (false≢true is)

met_news : (o : Option Session) (t : Session) → is_some o ≡ false → is_told_new o (Some t) ≡ true
met_news None t none = refl
met_news (Some s) t none = absurd (false≢true (sym none))

learnt_news : (o q : Option Session) (s t : Session) → o ≡ Some s → q ≡ Some t → s.epoch < t.epoch → is_told_new o q ≡ true
learnt_news o q s t was is later =
    ap (λ (z : Option Session). is_told_new z q) was ∙ ap (is_told_new (Some s)) is ∙ ap not (ne_eqb s.epoch t.epoch (λ same. absurd (omega (arith, same, later))))

welcome_news : (m : Down) (d now : ℕ) (e t : AppEnd) (b c : Sofar) → end_at c.state d ≡ t → stands e.link e.line ≡ true → has_session e.link ≡ is_some e.session
    → WelcomeTold m d now e b c → is_told_new e.session t.session ≡ true
welcome_news (Welcome session epoch kept front taken) d now e t b c is stand connected (inl x) =
    ap (is_told_new e.session) (sym (ap (λ (z : AppEnd). z.session) is) ∙ ap (λ (z : AppEnd). z.session) x.here.end)
    ∙ met_news e.session _ (sym connected ∙ greets_alone e.link (ap (stands e.link) (sym x.greeting) ∙ stand))
welcome_news (Welcome session epoch kept front taken) d now e t b c is stand connected (inr x) =
    learnt_news e.session t.session x.session (session_put x.since (told_puts front.w (synced_up front.s x.session)) (in_epoch epoch front x.session)) x.its
    (sym (ap (λ (z : AppEnd). z.session) is) ∙ ap (λ (z : AppEnd). z.session) x.here.end) x.later
welcome_news (Reset session at) d now e t b c is stand connected told = absurd told
welcome_news (Block front block) d now e t b c is stand connected told = absurd told
welcome_news (Drop front lo hi) d now e t b c is stand connected told = absurd told
welcome_news (Ack front) d now e t b c is stand connected told = absurd told
welcome_news (Grant front ticket at) d now e t b c is stand connected told = absurd told
welcome_news (Answer front about job number at sum) d now e t b c is stand connected told = absurd told
welcome_news (Normal front) d now e t b c is stand connected told = absurd told
welcome_news Bare d now e t b c is stand connected told = absurd told

-- an end whose connection was ended has none
ended_wireless : (line : Line) (times : Times) (now : ℕ) (e : AppEnd) → e.line ≡ line → has_wire (ended_from line times now e).line ≡ false
ended_wireless Apart times now e is = ap has_wire is
ended_wireless Trying times now e is = ap has_wire is
ended_wireless Greeting times now e is = refl
ended_wireless Asking times now e is = refl
ended_wireless Joined times now e is = refl

lost_rests : (state : LinkName) (reason : Reason) (e : AppEnd) → EndRests e (without_session state reason e)
lost_rests state reason e = record { dial = refl; told = refl; session = inr refl; still = inr (lost_wire e.line) }

-- What the step puts in its other outputs, for the other data servers.
record Apart_ (app d : ℕ) (cuts : List ℕ) (acts : List Act) : Type 0 where
  none_cut : (k : ℕ) → d ≢ k → list_any (is_index k) cuts ≡ false
  keeps : (k : ℕ) → d ≢ k → Keeps app k acts

module _ (l : Layout) (c : CoresState) (m : Machine) (app now d : ℕ) (frame : DownFrame) (outs : MoveOuts) (written : List Act) (new : Machine)
    (h : Holds l m) (run : IsRun l m.trail) (shows : Mirrors c m) (allowed : Allowed c (App app now (app_in.Frame d frame)))
    (goes : AppGoes m app now (app_in.Frame d frame) outs written new)
    (no_news : is_told_new ((m.site_at d).end_at app).state.session (end_at goes.state d).session ≡ false) where
  abbrev a : AppState
  a = app_state m app

  abbrev e : End
  e = (m.site_at d).end_at app

  abbrev z : Sofar
  z = made goes.state goes.app_outs

  alive : m.is_dead_at app ≡ false
  alive = sym (shows.dead app) ∙ allowed.alive

  its : AppMay a (app_in.Frame d frame)
  its = may l c m app now (app_in.Frame d frame) outs written new h run shows allowed goes

  same : end_at a d ≡ e.state
  same = app_ends c m app d shows allowed.known

  none_told : WelcomeTold frame.message d now e.state (begun a) z → ⊥
  none_told told =
      false≢true (sym no_news
      ∙ welcome_news frame.message d now e.state (end_at goes.state d) (begun a) z refl ((h.sites d).ends.tables app alive).stands ((h.sites d).ends.tables app alive).connected told)

  tells : TellNothing goes.app_outs.acts
  tells =
      go (input_acts (app_in.Frame d frame) now (begun a) z its (has l c m app now (app_in.Frame d frame) outs written new h run shows allowed goes) goes.steps)
    where
      go : (TellNothing [] → TellNothing goes.app_outs.acts) ⊎ WelcomeTold frame.message d now (end_at a d) (begun a) z → TellNothing goes.app_outs.acts
      go (inl quiet) = quiet tt
      go (inr told) = absurd (none_told (subst (λ (t : AppEnd). WelcomeTold frame.message d now t (begun a) z) same told))

  taken : Taken e frame
  taken = taken_down c m app d frame shows allowed.takes

  comes : Comes d now frame e.state (begun a) z
  comes =
      frame_comes ((state_after l m.trail).server_at d) (m.site_at d) m.is_dead_at app d now frame alive (h.sites d).link (h.sites d).ends taken.connection taken.its taken.behind
      taken.left (begun a) z frame.message refl none_told
      (λ is.
      subst (λ (t : AppEnd). BareCame d now frame.ack t (begun a) z) same
      (bare_frame_came (begun a) now d frame z its.known (has l c m app now (app_in.Frame d frame) outs written new h run shows allowed goes d) goes.steps is))
      (subst (λ (t : AppEnd). FrameCame frame.message d now frame t (begun a) z) same
      (frame_came (begun a) now d frame z its.known (has l c m app now (app_in.Frame d frame) outs written new h run shows allowed goes d) goes.steps))

  after : AfterInput l m app goes.app_outs.acts
  after = after_input l c m app now (app_in.Frame d frame) outs written new h run shows allowed goes

  -- at the other data servers

  cut_alone : (k : ℕ) → d ≢ k → list_any (is_index k) (d ∷ []) ≡ false
  cut_alone k other = ap (λ (b : Bool). b || false) (ne_eqb d k other)

  apart : Apart_ app d goes.app_outs.cuts goes.app_outs.acts
  apart = go comes
    where
      go : Comes d now frame e.state (begun a) z → Apart_ app d goes.app_outs.cuts goes.app_outs.acts
      go (inl x) = record {
        none_cut = λ k other. ap (list_any (is_index k)) x.cuts ∙ cut_alone k other;
        keeps = λ k other. subst (Keeps app k) (sym x.acts) (ended_keeps e.state.line app a.app k d now);
      }
      go (inr (inl x)) = record {
        none_cut = λ k other. ap (list_any (is_index k)) x.here.cuts ∙ cut_alone k other;
        keeps = λ k other. subst (Keeps app k) (sym x.here.acts) (by k other (a.app == app), tt);
      }
        where
          by : (k : ℕ) → d ≢ k → (b : Bool) → not (b && d == k) ≡ true
          by k other true = ap not (ne_eqb d k other)
          by k other false = refl
      go (inr (inr (inl x))) = record { none_cut = λ k other. ap (list_any (is_index k)) x.here.cuts; keeps = λ k other. subst (Keeps app k) (sym x.here.acts) tt }
      go (inr (inr (inr (inl x)))) = record { none_cut = λ k other. ap (list_any (is_index k)) x.1.cuts; keeps = λ k other. subst (Keeps app k) (sym x.1.acts) tt }
      go (inr (inr (inr (inr x)))) = record { none_cut = λ k other. ap (list_any (is_index k)) x.went.here.cuts; keeps = λ k other. subst (Keeps app k) (sym x.went.here.acts) tt }

  elsewhere : (k : ℕ) → k ≢ d
      → LinkHolds ((after_all l (state_after l m.trail) goes.app_outs.acts).server_at k) (input_site app (app_in.Frame d frame) goes.app_outs goes.state goes.shown k (m.site_at k)) m.is_dead_at
  elsewhere k other =
      rest_at l c m app now (app_in.Frame d frame) outs written new h run shows allowed goes k false (after.none k tells) (ne_eqb d k apart_from)
      (taken_silent k d apart_from (begun a) now frame z goes.steps)
      (apart.none_cut k apart_from)
      (subst (λ (t : AppEnd). EndRests (end_at a k) t)
      (sym ((steps_at_one_end a goes.state now (app_in.Frame d frame) goes.app_outs goes.steps).1 k other)) (rests_same (end_at a k)))
      (λ wired. apart.keeps k apart_from)
    where
      apart_from : d ≢ k
      apart_from same = other (sym same)

  -- at its own

  abbrev Here_ : Type 0
  Here_ = LinkHolds ((after_all l (state_after l m.trail) goes.app_outs.acts).server_at d) (input_site app (app_in.Frame d frame) goes.app_outs goes.state goes.shown d (m.site_at d)) m.is_dead_at

  -- an end without a connection
  unwired : (cut : Bool) → has_wire (end_at goes.state d).line ≡ false → ups_to d goes.app_outs.frames ≡ [] → list_any (is_index d) goes.app_outs.cuts ≡ cut
      → EndRests (end_at a d) (end_at goes.state d) → Here_
  unwired cut none frames cuts rests =
      rest_by l c m app now (app_in.Frame d frame) outs written new h run shows allowed goes d cut (after.none d tells)
      (subst (λ (b : Bool). TakesNone b e (app_takes d (app_in.Frame d frame) e.state.dial e)) (sym none)
      (subst (λ (b : Bool). TakesNone false e (if b then at_number e.state.dial down_taken e else e)) (sym (eq-eqb d d refl))
      (rests_as_taken false e.state.dial down_taken e taken_rests)))
      frames cuts rests (λ wired. absurd (false≢true (sym none ∙ wired)))

  cut_here : list_any (is_index d) (d ∷ []) ≡ true
  cut_here = ap (λ (b : Bool). b || false) (eq-eqb d d refl)

  here : Here_
  here = go comes
    where
      go : Comes d now frame e.state (begun a) z → Here_
      go (inl x) =
          unwired true (ap (λ (t : AppEnd). has_wire t.line) x.end ∙ ended_wireless e.state.line a.times now e.state refl) x.frames (ap (list_any (is_index d)) x.cuts ∙ cut_here)
          (subst (λ (t : AppEnd). EndRests t (end_at goes.state d)) (sym same)
          (subst (EndRests e.state) (sym x.end) (ended_rests e.state.line a.times now e.state refl)))
      go (inr (inl x)) =
          unwired true (ap (λ (t : AppEnd). has_wire t.line) x.here.end ∙ lost_wire e.state.line) x.here.frames (ap (list_any (is_index d)) x.here.cuts ∙ cut_here)
          (subst (λ (t : AppEnd). EndRests t (end_at goes.state d)) (sym same)
          (subst (EndRests e.state) (sym x.here.end) (lost_rests names.Recovery (reasons.Reset x.at) e.state)))
      go (inr (inr (inl x))) =
          link_kept_by_joined ((state_after l m.trail).server_at d) ((after_all l (state_after l m.trail) goes.app_outs.acts).server_at d) (m.site_at d)
          (input_site app (app_in.Frame d frame) goes.app_outs goes.state goes.shown d (m.site_at d)) m.is_dead_at app
          (end_took ((state_after l m.trail).server_at d) (m.site_at d) m.is_dead_at app d frame a goes.app_outs goes.state goes.shown alive (h.sites d).link (h.sites d).ends
          taken.connection taken.its taken.behind taken.left x) alive (after.later d) (λ b other. after.others d (after.none d tells) b other) (after.now d) (h.sites d).order.past (h.sites d).link
          (h.sites d).ends (h.sites d).dials taken.connection taken.behind x.us
          (site_took ((state_after l m.trail).server_at d) (m.site_at d) m.is_dead_at app d frame a goes.app_outs goes.state goes.shown alive (h.sites d).link (h.sites d).ends
          taken.connection taken.its taken.behind taken.left x)
      go (inr (inr (inr (inr x)))) =
          link_kept_by_joined ((state_after l m.trail).server_at d) ((after_all l (state_after l m.trail) goes.app_outs.acts).server_at d) (m.site_at d)
          (input_site app (app_in.Frame d frame) goes.app_outs goes.state goes.shown d (m.site_at d)) m.is_dead_at app
          (end_went ((state_after l m.trail).server_at d) (m.site_at d) m.is_dead_at app d now frame a goes.app_outs goes.state goes.shown alive (h.sites d).link (h.sites d).ends
          (h.sites d).dials taken.connection taken.its taken.behind taken.left x.session x.epoch x.kept x.front x.taken x.message x.went) alive (after.later d)
          (λ b other. after.others d (after.none d tells) b other) (after.now d) (h.sites d).order.past (h.sites d).link (h.sites d).ends (h.sites d).dials taken.connection taken.behind
          (map (up_frame x.went.session.window.taken) (resent x.went.session.window x.taken) ++ bare_frames x.went.bare x.went.session.window.taken)
          (site_went ((state_after l m.trail).server_at d) (m.site_at d) m.is_dead_at app d now frame a goes.app_outs goes.state goes.shown alive (h.sites d).link (h.sites d).ends
          (h.sites d).dials taken.connection taken.its taken.behind taken.left x.session x.epoch x.kept x.front x.taken x.message x.went)
      go (inr (inr (inr (inl x)))) =
          unwired false (ap (λ (t : AppEnd). has_wire t.line) x.1.end ∙ x.0) x.1.frames (ap (list_any (is_index d)) x.1.cuts)
          (subst (λ (t : AppEnd). EndRests t (end_at goes.state d)) (sym same) (subst (EndRests e.state) (sym x.1.end) (rests_same e.state)))

-- Each frame by which the end learns of no order keeps it.
pub links_kept_by_frames : (l : Layout) (c : CoresState) (m : Machine) (app now d : ℕ) (frame : DownFrame) (outs : MoveOuts) (written : List Act) (new : Machine)
    → Holds l m → IsRun l m.trail → Mirrors c m → Allowed c (App app now (app_in.Frame d frame)) → (goes : AppGoes m app now (app_in.Frame d frame) outs written new)
    → is_told_new ((m.site_at d).end_at app).state.session (end_at goes.state d).session ≡ false → EachLinkHolds l new
links_kept_by_frames l c m app now d frame outs written new h run shows allowed goes no_news =
    subst (λ (n : Machine). EachLinkHolds l n) (sym goes.after)
    (subst (λ (ws : List Act). (k : ℕ) → LinkHolds ((state_after l (m.trail ++ ws)).server_at k) (site k) m.is_dead_at) (sym goes.acts)
    (λ k. subst (λ (q : Plain). LinkHolds (q.server_at k) (site k) m.is_dead_at) (sym (after_all-append l start m.trail goes.app_outs.acts)) (go k (eqb k d) refl)))
  where
    site : ℕ → Site
    site k = input_site app (app_in.Frame d frame) goes.app_outs goes.state goes.shown k (m.site_at k)

    go : (k : ℕ) (b : Bool) → eqb k d ≡ b → LinkHolds ((after_all l (state_after l m.trail) goes.app_outs.acts).server_at k) (site k) m.is_dead_at
    go k true same =
        subst (λ (n : ℕ). LinkHolds ((after_all l (state_after l m.trail) goes.app_outs.acts).server_at n) (site n) m.is_dead_at) (sym (eqb-true k d same))
        (here l c m app now d frame outs written new h run shows allowed goes no_news)
    go k false other = elsewhere l c m app now d frame outs written new h run shows allowed goes no_news k (λ same. false≢true (sym other ∙ eq-eqb k d same))
