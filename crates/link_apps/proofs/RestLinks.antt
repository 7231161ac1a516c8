-- The part on what is on its way, for inputs of an application server that put and take nothing: an attempt that failed, a line that joined
-- again, a tick, and a connection that ended.
use Rattle.std.proofs.Common.{◌≡◌, ◌⊎◌, inl, inr, ℕ, Bool, true, false, List, [], ◌++◌, length, refl, sym, ◌∙◌, ap, subst}
use Rattle.std.specs.List.{list_any, range_with_len}
use Rattle.std.proofs.lemmas.Bool.{false≢true}
use Rattle.plain_orders.specs.declared.act.Act.{Act}
use Rattle.plain_orders.specs.declared.layout.Layout.{Layout}
use Rattle.plain_runs.specs.Plain.{Plain, start}
use Rattle.plain_runs.specs.Run.{IsRun, after_all, state_after}
use Rattle.plain_runs.proofs.RunLemmas.{after_all-append}
use Rattle.link_states.specs.declared.app_link.AppLink.{AppLink}
use Rattle.link_states.specs.declared.app_link.AppLink.TheVariants.{NotConnected, Normal as NormalLink, Trouble, Recovery}
use Rattle.app_rules.specs.declared.app_in.AppIn.{AppIn}
use Rattle.app_rules.specs.declared.app_in.AppIn.TheVariants as app_in
use Rattle.app_rules.specs.declared.line.Line.{Line}
use Rattle.app_rules.specs.declared.line.Line.TheVariants.{Apart, Trying, Greeting, Asking, Joined}
use Rattle.app_rules.specs.AppState.{AppState, AppEnd}
use Rattle.app_rules.specs.AppStep.{AppMay, made}
use Rattle.app_rules.specs.Works.{Sofar, begun, end_at}
use Rattle.app_rules.proofs.StepLaws.{steps_at_one_end}
use Rattle.cluster_runs.specs.CoresState.{CoresState}
use Rattle.cluster_runs.specs.declared.move_outs.MoveOuts.{MoveOuts}
use Rattle.cluster_runs.specs.declared.moves.Move.TheVariants.{App}
use Rattle.cluster_runs.specs.Connections.{is_index, ups_to}
use Rattle.cluster_runs.specs.Goes.{AppGoes, app_takes, input_site}
use Rattle.cluster_runs.specs.Machine.{Machine, app_state, end_state}
use Rattle.cluster_runs.specs.Mirrors.{Mirrors}
use Rattle.cluster_runs.specs.Moves.{Allowed}
use Rattle.cluster_invariant.specs.Ends.{stands}
use Rattle.cluster_invariant.specs.Holds.{Holds}
use Rattle.cluster_invariant.specs.Link.{LinkHolds}
use Rattle.cluster_invariant.specs.Words.{has_wire}
use Rattle.cluster_steps.proofs.AppSites.{app_ends}
use Rattle.cluster_steps.proofs.FrameCases.{LineHas}
use Rattle.cluster_steps.proofs.FrameEnds.{ended_acts}
use Rattle.cluster_steps.proofs.InputEnds.{failed_acts, failed_came, broken_came, joined_came}
use Rattle.cluster_steps.proofs.InputOuts.{failed_none, broken_none, joins_none, ticks_none}
use Rattle.ends_kept.proofs.PairTables.{line_has}
use Rattle.ends_kept.proofs.TablesMoves.{app_may}
use Rattle.told_kept.proofs.ToldActs.{TellNothing, input_acts}
use Rattle.link_kept.specs.Laws.{EachLinkHolds}
use Rattle.link_apps.proofs.EnteredStays.{NoneMet, entered_stays}
use Rattle.link_apps.proofs.InputPlain.{AfterInput, after_input}
use Rattle.link_apps.proofs.PutSteps.{own_after}
use Rattle.link_apps.proofs.Rests.{EndRests, Keeps, IsUntroubled, failed_rests, ended_rests, rejoined_rests, one_rests, all_ticked, ticks_keep}
use Rattle.link_apps.proofs.RestSites.{TakesNone, TakesNothing, nothing_put, rests_at, takes_none}
use Rattle.link_apps.proofs.RestWays.{link_kept_by_rest}

-- an end in trouble has no connection
stands_wireless : (line : Line) (broke try_at : ℕ) → stands (Trouble broke try_at) line ≡ true → has_wire line ≡ false
stands_wireless Apart broke try_at is = refl
stands_wireless Trying broke try_at is = refl
stands_wireless Greeting broke try_at is = absurd (false≢true is)
stands_wireless Asking broke try_at is = absurd (false≢true is)
stands_wireless Joined broke try_at is = absurd (false≢true is)

module _ (l : Layout) (c : CoresState) (m : Machine) (app now : ℕ) (input : AppIn) (outs : MoveOuts) (written : List Act) (new : Machine)
    (h : Holds l m) (run : IsRun l m.trail) (shows : Mirrors c m) (allowed : Allowed c (App app now input)) (goes : AppGoes m app now input outs written new) where
  abbrev a : AppState
  a = app_state m app

  alive : m.is_dead_at app ≡ false
  alive = sym (shows.dead app) ∙ allowed.alive

  pub may : AppMay a input
  may = app_may c m app input shows allowed.known allowed.may

  -- one data server at which the end rests, where its connections were as they were
  pub rest_by : (d : ℕ) (cut : Bool)
      → NoneMet ((state_after l m.trail).server_at d) ((after_all l (state_after l m.trail) goes.app_outs.acts).server_at d)
      → TakesNone (has_wire (end_at goes.state d).line) ((m.site_at d).end_at app) (app_takes d input ((m.site_at d).end_at app).state.dial ((m.site_at d).end_at app))
      → ups_to d goes.app_outs.frames ≡ [] → list_any (is_index d) goes.app_outs.cuts ≡ cut → EndRests (end_at a d) (end_at goes.state d)
      → (has_wire (end_at goes.state d).line ≡ true → Keeps app d goes.app_outs.acts)
      → LinkHolds ((after_all l (state_after l m.trail) goes.app_outs.acts).server_at d) (input_site app input goes.app_outs goes.state goes.shown d (m.site_at d)) m.is_dead_at
  rest_by d cut none takes frames cuts rests keeps =
      link_kept_by_rest ((state_after l m.trail).server_at d) ((after_all l (state_after l m.trail) goes.app_outs.acts).server_at d) (m.site_at d)
      (input_site app input goes.app_outs goes.state goes.shown d (m.site_at d)) m.is_dead_at app
      (own_after (nothing_put cut) (end_at goes.state d) (goes.shown d) (app_takes d input ((m.site_at d).end_at app).state.dial ((m.site_at d).end_at app))) alive
      (after.later d) (λ b other. after.others d none b other) (λ wired. entered_stays l (state_after l m.trail) goes.app_outs.acts app d none (keeps wired)) (after.now d)
      (h.sites d).order.past (h.sites d).link (h.sites d).ends (h.sites d).dials
      (rests_at ((state_after l m.trail).server_at d) (m.site_at d) app d input goes.app_outs goes.state goes.shown cut ((h.sites d).ends.told app alive).place
      ((h.sites d).link.apps app alive).window takes frames cuts
      (subst (λ (e : AppEnd). EndRests e (end_at goes.state d)) (app_ends c m app d shows allowed.known) rests))
    where
      after : AfterInput l m app goes.app_outs.acts
      after = after_input l c m app now input outs written new h run shows allowed goes

  -- and where the input takes nothing there
  pub rest_at : (d : ℕ) (cut : Bool)
      → NoneMet ((state_after l m.trail).server_at d) ((after_all l (state_after l m.trail) goes.app_outs.acts).server_at d)
      → TakesNothing input d → ups_to d goes.app_outs.frames ≡ [] → list_any (is_index d) goes.app_outs.cuts ≡ cut → EndRests (end_at a d) (end_at goes.state d)
      → (has_wire (end_at goes.state d).line ≡ true → Keeps app d goes.app_outs.acts)
      → LinkHolds ((after_all l (state_after l m.trail) goes.app_outs.acts).server_at d) (input_site app input goes.app_outs goes.state goes.shown d (m.site_at d)) m.is_dead_at
  rest_at d cut none takes =
      rest_by d cut none (takes_none (has_wire (end_at goes.state d).line) d input ((m.site_at d).end_at app).state.dial ((m.site_at d).end_at app) takes)

  -- all of them
  pub rest_all : TellNothing goes.app_outs.acts → ((d : ℕ) → TakesNothing input d) → goes.app_outs.frames ≡ [] → goes.app_outs.cuts ≡ []
      → ((d : ℕ) → EndRests (end_at a d) (end_at goes.state d)) → ((d : ℕ) → has_wire (end_at goes.state d).line ≡ true → Keeps app d goes.app_outs.acts)
      → EachLinkHolds l new
  rest_all tells takes frames cuts rests keeps =
      subst (λ (n : Machine). EachLinkHolds l n) (sym goes.after)
      (subst (λ (ws : List Act). (d : ℕ) → LinkHolds ((state_after l (m.trail ++ ws)).server_at d) (input_site app input goes.app_outs goes.state goes.shown d (m.site_at d)) m.is_dead_at)
      (sym goes.acts)
      (λ d.
      subst (λ (q : Plain). LinkHolds (q.server_at d) (input_site app input goes.app_outs goes.state goes.shown d (m.site_at d)) m.is_dead_at)
      (sym (after_all-append l start m.trail goes.app_outs.acts))
      (rest_at d false ((after_input l c m app now input outs written new h run shows allowed goes).none d tells) (takes d) (ap (ups_to d) frames) (ap (list_any (is_index d)) cuts) (rests d) (keeps d))))

  pub has : (d : ℕ) → LineHas (end_at a d).line (end_at a d).session
  has d =
      subst (λ (e : AppEnd). LineHas e.line e.session) (sym (app_ends c m app d shows allowed.known))
      (line_has (((state_after l m.trail).server_at d).pair_at app) (end_state m app d) ((h.sites d).ends.tables app alive))

  -- an end that has a connection is in no trouble
  pub calm : (d : ℕ) → has_wire (end_at a d).line ≡ true → IsUntroubled (end_at a d)
  calm d wired broke try_at is =
      absurd (false≢true (sym (stands_wireless (end_at a d).line broke try_at (subst (λ (z : AppLink). stands z (end_at a d).line ≡ true) is its)) ∙ wired))
    where
      its : stands (end_at a d).link (end_at a d).line ≡ true
      its = subst (λ (e : AppEnd). stands e.link e.line ≡ true) (sym (app_ends c m app d shows allowed.known)) ((h.sites d).ends.tables app alive).stands

failed_keeps : (link : AppLink) (app b d k before later : ℕ) → Keeps app d (failed_acts link b k before later)
failed_keeps NotConnected app b d k before later = (refl, tt)
failed_keeps NormalLink app b d k before later = tt
failed_keeps (Trouble broke try_at) app b d k before later = tt
failed_keeps Recovery app b d k before later = tt

pub ended_keeps : (line : Line) (app b d k now : ℕ) → Keeps app d (ended_acts line b k now)
ended_keeps Apart app b d k now = tt
ended_keeps Trying app b d k now = tt
ended_keeps Greeting app b d k now = tt
ended_keeps Asking app b d k now = (refl, tt)
ended_keeps Joined app b d k now = (refl, tt)

-- An attempt that failed keeps it.
pub links_kept_by_no_way : (l : Layout) (c : CoresState) (m : Machine) (app now k before later : ℕ) (outs : MoveOuts) (written : List Act) (new : Machine)
    → Holds l m → IsRun l m.trail → Mirrors c m → Allowed c (App app now (app_in.NoWay k before later)) → AppGoes m app now (app_in.NoWay k before later) outs written new
    → EachLinkHolds l new
links_kept_by_no_way l c m app now k before later outs written new h run shows allowed goes =
    rest_all l c m app now (app_in.NoWay k before later) outs written new h run shows allowed goes
    (input_acts (app_in.NoWay k before later) now b (made goes.state goes.app_outs) its (has l c m app now (app_in.NoWay k before later) outs written new h run shows allowed goes) goes.steps tt)
    (λ d. tt) (ap (λ (z : Sofar). z.outs.frames) goes.steps ∙ (failed_none k before later now b).frames) (ap (λ (z : Sofar). z.outs.cuts) goes.steps ∙ (failed_none k before later now b).cuts)
    (λ d.
    one_rests (app_state m app) goes.state k d (steps_at_one_end (app_state m app) goes.state now (app_in.NoWay k before later) goes.app_outs goes.steps).1
    (subst (λ (t : AppEnd). EndRests (end_at (app_state m app) k) t) (sym (ap (λ (z : Sofar). end_at z.state k) goes.steps ∙ (failed_came k before later now b its.tried.known).end))
    (failed_rests (end_at (app_state m app) k).link (app_state m app).times before later now (end_at (app_state m app) k))))
    (λ d wired.
    subst (Keeps app d) (sym (ap (λ (z : Sofar). z.outs.acts) goes.steps ∙ (failed_came k before later now b its.tried.known).acts))
    (failed_keeps (end_at (app_state m app) k).link app (app_state m app).app d k before later))
  where
    b : Sofar
    b = begun (app_state m app)

    its : AppMay (app_state m app) (app_in.NoWay k before later)
    its = may l c m app now (app_in.NoWay k before later) outs written new h run shows allowed goes

-- A line that joined again keeps it.
pub links_kept_by_join : (l : Layout) (c : CoresState) (m : Machine) (app now k : ℕ) (outs : MoveOuts) (written : List Act) (new : Machine)
    → Holds l m → IsRun l m.trail → Mirrors c m → Allowed c (App app now (app_in.Join k)) → AppGoes m app now (app_in.Join k) outs written new → EachLinkHolds l new
links_kept_by_join l c m app now k outs written new h run shows allowed goes =
    rest_all l c m app now (app_in.Join k) outs written new h run shows allowed goes
    (input_acts (app_in.Join k) now b (made goes.state goes.app_outs) its (has l c m app now (app_in.Join k) outs written new h run shows allowed goes) goes.steps tt)
    (λ d. tt) (ap (λ (z : Sofar). z.outs.frames) goes.steps ∙ (joins_none (end_at b.state k).link k b).frames)
    (ap (λ (z : Sofar). z.outs.cuts) goes.steps ∙ (joins_none (end_at b.state k).link k b).cuts)
    (λ d.
    one_rests (app_state m app) goes.state k d (steps_at_one_end (app_state m app) goes.state now (app_in.Join k) goes.app_outs goes.steps).1
    (subst (λ (t : AppEnd). EndRests (end_at (app_state m app) k) t) (sym (ap (λ (z : Sofar). end_at z.state k) goes.steps ∙ (joined_came k b its).end))
    (rejoined_rests (end_at (app_state m app) k).link (end_at (app_state m app) k))))
    (λ d wired. subst (Keeps app d) (sym (ap (λ (z : Sofar). z.outs.acts) goes.steps ∙ (joined_came k b its).acts)) tt)
  where
    b : Sofar
    b = begun (app_state m app)

    its : AppMay (app_state m app) (app_in.Join k)
    its = may l c m app now (app_in.Join k) outs written new h run shows allowed goes

-- A connection that ended keeps it.
pub links_kept_by_broken : (l : Layout) (c : CoresState) (m : Machine) (app now k : ℕ) (outs : MoveOuts) (written : List Act) (new : Machine)
    → Holds l m → IsRun l m.trail → Mirrors c m → Allowed c (App app now (app_in.Broken k)) → AppGoes m app now (app_in.Broken k) outs written new → EachLinkHolds l new
links_kept_by_broken l c m app now k outs written new h run shows allowed goes =
    rest_all l c m app now (app_in.Broken k) outs written new h run shows allowed goes
    (input_acts (app_in.Broken k) now b (made goes.state goes.app_outs) its (has l c m app now (app_in.Broken k) outs written new h run shows allowed goes) goes.steps tt)
    (λ d. tt) (ap (λ (z : Sofar). z.outs.frames) goes.steps ∙ (broken_none k now b).frames) (ap (λ (z : Sofar). z.outs.cuts) goes.steps ∙ (broken_none k now b).cuts)
    (λ d.
    one_rests (app_state m app) goes.state k d (steps_at_one_end (app_state m app) goes.state now (app_in.Broken k) goes.app_outs goes.steps).1
    (subst (λ (t : AppEnd). EndRests (end_at (app_state m app) k) t) (sym (ap (λ (z : Sofar). end_at z.state k) goes.steps ∙ (broken_came k now b its).end))
    (ended_rests (end_at (app_state m app) k).line (app_state m app).times now (end_at (app_state m app) k) refl)))
    (λ d wired.
    subst (Keeps app d) (sym (ap (λ (z : Sofar). z.outs.acts) goes.steps ∙ (broken_came k now b its).acts))
    (ended_keeps (end_at (app_state m app) k).line app (app_state m app).app d k now))
  where
    b : Sofar
    b = begun (app_state m app)

    its : AppMay (app_state m app) (app_in.Broken k)
    its = may l c m app now (app_in.Broken k) outs written new h run shows allowed goes

-- A tick keeps it.
pub links_kept_by_app_tick : (l : Layout) (c : CoresState) (m : Machine) (app now : ℕ) (outs : MoveOuts) (written : List Act) (new : Machine)
    → Holds l m → IsRun l m.trail → Mirrors c m → Allowed c (App app now app_in.Tick) → AppGoes m app now app_in.Tick outs written new → EachLinkHolds l new
links_kept_by_app_tick l c m app now outs written new h run shows allowed goes =
    rest_all l c m app now app_in.Tick outs written new h run shows allowed goes
    (input_acts app_in.Tick now b (made goes.state goes.app_outs) (may l c m app now app_in.Tick outs written new h run shows allowed goes)
    (has l c m app now app_in.Tick outs written new h run shows allowed goes) goes.steps tt)
    (λ d. tt) (ap (λ (z : Sofar). z.outs.frames) goes.steps ∙ (ticks_none ds now b).frames) (ap (λ (z : Sofar). z.outs.cuts) goes.steps ∙ (ticks_none ds now b).cuts) rests
    (λ d wired. subst (Keeps app d) (sym (ap (λ (z : Sofar). z.outs.acts) goes.steps)) (ticks_keep ds app d now b (untroubled d wired (rests d).still) tt))
  where
    b : Sofar
    b = begun (app_state m app)

    ds : List ℕ
    ds = range_with_len 0 (length (app_state m app).ends)

    rests : (d : ℕ) → EndRests (end_at (app_state m app) d) (end_at goes.state d)
    rests d = subst (λ (z : Sofar). EndRests (end_at (app_state m app) d) (end_at z.state d)) (sym goes.steps) (all_ticked ds d now b)

    untroubled : (d : ℕ) → has_wire (end_at goes.state d).line ≡ true → (end_at goes.state d ≡ end_at (app_state m app) d) ⊎ (has_wire (end_at goes.state d).line ≡ false)
        → IsUntroubled (end_at (app_state m app) d)
    untroubled d wired (inl same) =
        calm l c m app now app_in.Tick outs written new h run shows allowed goes d (sym (ap (λ (e : AppEnd). has_wire e.line) same) ∙ wired)
    untroubled d wired (inr none) = absurd (false≢true (sym none ∙ wired))
