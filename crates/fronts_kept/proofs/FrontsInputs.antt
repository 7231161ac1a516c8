-- Each input of an application server keeps the fronts of all ends.
use Rattle.std.proofs.Common.{◌≡◌, ◌≤◌, ◌<◌, ◌⊎◌, inl, inr, ◌==◌, not, ℕ, Bool, true, false, List, [], ◌++◌, Option, Some, None, is_some, option_map, if◌then◌else◌, refl, sym, ◌∙◌, ap, subst, arith}
use Rattle.std.specs.Prelude.{IfSome}
use Rattle.std.proofs.lemmas.Bool.{eq-eqb, ne_eqb, false≢true}
use Rattle.plain_orders.specs.declared.layout.Layout.{Layout}
use Rattle.plain_runs.specs.Plain.{Server, Session as PlainSession, current, order_at, Plain, start, put}
use Rattle.plain_runs.specs.Run.{IsRun, state_after, after_all}
use Rattle.ecp_messages.specs.declared.down.Down.{Down}
use Rattle.ecp_messages.specs.declared.down.Down.TheVariants.{Welcome, Reset, Block, Drop, Ack, Grant, Answer, Normal, Bare}
use Rattle.ecp_messages.specs.declared.down.DownFrame.{DownFrame}
use Rattle.ecp_messages.specs.declared.front.Front.{Front}
use Rattle.ecp_messages.specs.declared.up.UpFrame.{UpFrame}
use Rattle.app_rules.specs.declared.app_in.AppIn.{AppIn}
use Rattle.app_rules.specs.declared.app_in.AppIn.TheVariants as app_in
use Rattle.app_rules.specs.declared.app_outs.AppOuts.{AppOuts}
use Rattle.app_rules.specs.declared.line.Line.TheVariants.{Greeting}
use Rattle.app_rules.specs.AppState.{AppState, AppEnd, Session}
use Rattle.app_rules.specs.AppStep.{made}
use Rattle.app_rules.specs.Welcoming.{in_epoch, new_session, told_puts}
use Rattle.app_rules.specs.Looks.{Shown, ShowsEnd, ShowsSession}
use Rattle.app_rules.specs.Works.{end_at, begun, synced_up}
use Rattle.cluster_runs.specs.CoresState.{CoresState}
use Rattle.cluster_runs.specs.Connections.{ups_to}
use Rattle.cluster_runs.specs.Goes.{ShowsIf, ShowsInput, app_takes, message_from, with_state, AppGoes, app_end, input_site}
use Rattle.cluster_runs.specs.Lanes.{front_by, front_said, is_told_new, told_by}
use Rattle.cluster_runs.specs.Machine.{Machine, Site, End, app_state, end_state}
use Rattle.cluster_runs.specs.Mirrors.{Mirrors}
use Rattle.cluster_runs.specs.Moves.{AppTakes, Allowed}
use Rattle.cluster_runs.specs.Sent.{Connection, Place}
use Rattle.cluster_runs.specs.Steps.{greatest, ticked_shown}
use Rattle.cluster_invariant.specs.Coherence.{IsHeader, front_of}
use Rattle.cluster_invariant.specs.Ends.{ToldPlace, number_of}
use Rattle.cluster_invariant.specs.Holds.{Holds}
use Rattle.cluster_invariant.specs.Link.{EpochWelcomeOn, NewWelcomeOn}
use Rattle.cluster_invariant.specs.Words.{IsFront, stays_at}
use Rattle.cluster_steps.proofs.AppSites.{app_ends, end_has_shown, end_has_state, site_ends}
use Rattle.cluster_steps.proofs.EndSteps.{session_put}
use Rattle.cluster_steps.proofs.FrameEnds.{TookFresh}
use Rattle.cluster_steps.proofs.InputsBring.{Brings, EndStays, EndStill, FreshTaken, InputBrings, SessionStays, SessionStill, WelcomeTold, input_brings}
use Rattle.ends_kept.proofs.MetTold.{EpochOn, epoch_on, new_on, no_session_of}
use Rattle.ends_kept.proofs.NextDown.{HasNumber}
use Rattle.ends_kept.proofs.OrderApps.{takes_its, takes_told}
use Rattle.ends_kept.proofs.TakenDown.{Taken, taken_down}
use Rattle.coherence_kept.proofs.CoherenceApps.{open_header, told_where}
use Rattle.fronts_kept.proofs.FrontsApps.{TakesOne, fresh_takes}
use Rattle.fronts_kept.proofs.FrontsEnds.{ShownWith, shown_as, FrontWith, fronts_at_end}
use Rattle.fronts_kept.proofs.FrontsJobs.{told_same}
use Rattle.fronts_kept.proofs.FrontsOwn.{OwnIs, own_fresh, own_lost, own_new, own_stays, lost_shown, shown_if, some_if, stays_shown}
use Rattle.plain_orders.specs.declared.act.Act.{Act}
use Rattle.std.specs.List.{AllByRecursion}
use Rattle.plain_runs.proofs.RunLemmas.{after_all-append}
use Rattle.app_rules.proofs.StepLaws.{steps_at_one_end}
use Rattle.cluster_runs.specs.declared.move_outs.MoveOuts.{MoveOuts}
use Rattle.cluster_runs.specs.declared.moves.Move.TheVariants.{App}
use Rattle.cluster_invariant.specs.Fronts.{FrontsHold}
use Rattle.cluster_invariant.proofs.AppActs.{Leaves, app_step_leaves}
use Rattle.cluster_invariant.proofs.OrderBeside.{SameOrders, rows_same, leaves_orders}
use Rattle.cluster_invariant.proofs.OrdersStay.{orders_agree}
use Rattle.cluster_steps.proofs.FrameCases.{LineHas}
use Rattle.ends_kept.proofs.PairTables.{line_has}
use Rattle.ends_kept.proofs.TablesMoves.{app_may}
use Rattle.coherence_kept.proofs.DeedsOn.{deeds_on}
use Rattle.fronts_kept.proofs.FrontsShort.{AllFronts}

-- by what the input brings

-- nothing new is told where the epoch is the same or the session is lost
stays_old : (o q : Option Session) → SessionStays o q → is_told_new o q ≡ false
stays_old None None stays = refl
stays_old None (Some t) stays = absurd stays
stays_old (Some s) None stays = absurd stays
stays_old (Some s) (Some t) stays = ap not (eq-eqb s.epoch t.epoch (sym stays.epoch))

lost_old : (o : Option Session) → is_told_new o None ≡ false
lost_old None = refl
lost_old (Some s) = refl

-- a session that is still stays or is lost
still_or_lost : (o q : Option Session) → SessionStill o q → SessionStays o q ⊎ (q ≡ None)
still_or_lost o None still = inr refl
still_or_lost None (Some t) still = absurd still
still_or_lost (Some s) (Some t) still = inl still

module _ (l : Layout) (c : CoresState) (m : Machine) (app now d : ℕ) (h : Holds l m) (run : IsRun l m.trail) (shows : Mirrors c m) (known : app < c.layout.apps)
    (alive : m.is_dead_at app ≡ false) (u : Server) (state : AppState) (outs : AppOuts) (z : Site) (y : Shown)
    (on : (k : ℕ) → k ≤ current ((state_after l m.trail).server_at d) → IsFront (order_at ((state_after l m.trail).server_at d) k) (order_at u k))
    (same_lanes : z.lane_at ≡ (m.site_at d).lane_at) where
  abbrev old : End
  old = (m.site_at d).end_at app

  abbrev frames : List UpFrame
  frames = ups_to d outs.frames

  abbrev after : AppEnd
  after = end_at state d

  -- what the end is told of then
  abbrev told_after : AppIn → Option Place
  told_after input =
      (told_by (is_told_new old.state.session after.session) (message_from d input) old.state.dial (with_state after y (app_takes d input old.state.dial old))).told

  abbrev Own : AppIn → Type 0
  Own input = OwnIs l c m app now d h run shows known alive u state frames z y (message_from d input) (is_told_new old.state.session after.session) (told_after input) after.session

  -- nothing new
  old_told : (input : AppIn) → is_told_new old.state.session after.session ≡ false → told_after input ≡ old.told
  old_told input none =
      told_same (is_told_new old.state.session after.session) (message_from d input) old.state.dial (with_state after y (app_takes d input old.state.dial old)) none
      ∙ takes_told d input old.state.dial old

  as_old : (input : AppIn) → is_told_new old.state.session after.session ≡ false
      → OwnIs l c m app now d h run shows known alive u state frames z y (message_from d input) false old.told after.session → Own input
  as_old input none own =
      subst (λ (b : Bool). OwnIs l c m app now d h run shows known alive u state frames z y (message_from d input) b (told_after input) after.session) (sym none)
      (subst (λ (p : Option Place). OwnIs l c m app now d h run shows known alive u state frames z y (message_from d input) false p after.session) (sym (old_told input none)) own)

  stays_own : (input : AppIn) → SessionStays old.state.session after.session → y ≡ old.shown → Own input
  stays_own input stays same =
      as_old input (stays_old old.state.session after.session stays)
      (own_stays l c m app now d h run shows known alive u state frames z y on same_lanes (message_from d input) after.session stays same)

  lost_own : (input : AppIn) → after.session ≡ None → y.runs ≡ [] → Own input
  lost_own input none runs =
      as_old input (ap (is_told_new old.state.session) none ∙ lost_old old.state.session)
      (subst (λ (q : Option Session). OwnIs l c m app now d h run shows known alive u state frames z y (message_from d input) false old.told q) (sym none)
      (own_lost l c m app now d h run shows known alive u state frames z y on same_lanes (message_from d input) runs))

  -- what isn't published of no session
  none_shown : old.state.session ≡ None → old.shown.runs ≡ []
  none_shown none = subst (λ (o : Option Session). ShownWith (m.site_at d) old.told old.shown o) none (shown_as (m.site_at d) old old.state.session ((h.sites d).fronts.shown app alive))

  -- a frame that came from this data server

  abbrev Shows : DownFrame → Type 0
  Shows frame = ShowsEnd old.state.session after.session frame.message greatest old.shown y

  abbrev before : AppEnd
  before = end_at (app_state m app) d

  same_end : before ≡ old.state
  same_end = app_ends c m app d shows known

  abbrev came : DownFrame → AppIn
  came frame = app_in.Frame d frame

  still_own : (frame : DownFrame) → EndStill before after → Shows frame → Own (came frame)
  still_own frame still says = go (still_or_lost old.state.session after.session (subst (λ (f : AppEnd). SessionStill f.session after.session) same_end still.session))
    where
      go : SessionStays old.state.session after.session ⊎ (after.session ≡ None) → Own (came frame)
      go (inl stays) = stays_own (came frame) stays (stays_shown old.state.session after.session frame.message old.shown y stays says)
      go (inr lost) =
          lost_own (came frame) lost
          (lost_shown old.state.session frame.message old.shown y none_shown (subst (λ (q : Option Session). ShowsEnd old.state.session q frame.message greatest old.shown y) lost says))

  -- a fresh one
  fresh_own : (w : Down) (f : Front) (frame : DownFrame) → frame.message ≡ w → HasNumber w → f ≡ front_of w → Taken old frame
      → TookFresh d now frame.seq frame.ack w f before (begun (app_state m app)) (made state outs) → Shows frame → Own (came frame)
  fresh_own w f frame message has its taken x says =
      as_old (came frame)
      (ap (λ (o : Option Session). is_told_new o after.session) there ∙ ap (is_told_new (Some x.session)) is ∙ ap not (eq-eqb x.session.epoch t.epoch (sym one.epoch)))
      (subst (λ (q : Option Session). OwnIs l c m app now d h run shows known alive u state frames z y (message_from d (came frame)) false old.told q) (sym is)
      (own_fresh l c m app now d h run shows known alive u state frames z y on same_lanes (message_from d (came frame)) frame w x.session t message has taken
      (ap (λ (g : AppEnd). g.line) (sym same_end) ∙ x.is_joined) there one
      (subst (λ (o : Option Session). ShowsEnd o (Some t) w greatest old.shown y) there
      (subst (λ (q : Option Session). ShowsEnd old.state.session q w greatest old.shown y) is
      (subst (λ (k : Down). ShowsEnd old.state.session after.session k greatest old.shown y) message says)))))
    where
      t : Session
      t = session_put x.since x.put x.after

      one : TakesOne w x.session t
      one = fresh_takes w d now frame.seq frame.ack f before (begun (app_state m app)) (made state outs) its x

      there : old.state.session ≡ Some x.session
      there = ap (λ (g : AppEnd). g.session) (sym same_end) ∙ x.its

      is : after.session ≡ Some t
      is = ap (λ (g : AppEnd). g.session) x.here.end

  taken_own : (w : Down) (frame : DownFrame) → frame.message ≡ w → Taken old frame → FreshTaken w d now frame before (begun (app_state m app)) (made state outs) → Shows frame → Own (came frame)
  taken_own (Welcome session epoch kept front taken) frame message t x says = absurd x
  taken_own (Reset session at) frame message t x says = absurd x
  taken_own (Block front block) frame message t x says = fresh_own (Block front block) front frame message tt refl t x says
  taken_own (Drop front lo hi) frame message t x says = fresh_own (Drop front lo hi) front frame message tt refl t x says
  taken_own (Ack front) frame message t x says = fresh_own (Ack front) front frame message tt refl t x says
  taken_own (Grant front ticket at) frame message t x says = fresh_own (Grant front ticket at) front frame message tt refl t x says
  taken_own (Answer front about job number at sum) frame message t x says = fresh_own (Answer front about job number at sum) front frame message tt refl t x says
  taken_own (Normal front) frame message t x says = fresh_own (Normal front) front frame message tt refl t x says
  taken_own Bare frame message t x says = absurd x

  -- a Welcome that tells something new
  new_own : (frame : DownFrame) (front : Front) (p : Place) (t : Session) (k : Connection) → old.connection_at old.state.dial ≡ Some k → k.its ≡ Some p → front_said frame.message ≡ front
      → is_told_new old.state.session after.session ≡ true → after.session ≡ Some t → p.order ≤ current ((state_after l m.trail).server_at d) → t.number ≡ p.session
      → ((m.site_at d).lane_at p.session p.order).began ≡ None
      → IsHeader (order_at ((state_after l m.trail).server_at d) p.order) (stays_at ((state_after l m.trail).server_at d) p.order) p.session front → t.n ≡ front.n → t.w ≡ front.w
      → t.cache ≡ [] → y.runs ≡ [] → IfSome (((state_after l m.trail).server_at d).session_at p.session) (λ t. t.app ≡ app) → Own (came frame)
  new_own frame front p t k there its said new is low number unlearnt header tn tw cache runs who =
      subst (λ (b : Bool). OwnIs l c m app now d h run shows known alive u state frames z y (message_from d (came frame)) b (told_after (came frame)) after.session) (sym new)
      (subst (λ (o : Option Place). OwnIs l c m app now d h run shows known alive u state frames z y (message_from d (came frame)) true o after.session) (sym told)
      (subst (λ (q : Option Session). OwnIs l c m app now d h run shows known alive u state frames z y (message_from d (came frame)) true (Some p) q) (sym is)
      (own_new l c m app now d h run shows known alive u state frames z y on same_lanes (message_from d (came frame)) front p t
      (ap (λ (b : Bool). front_by (if b then Some frame.message else None)) (eq-eqb d d refl) ∙ said) low number unlearnt header tn tw cache runs who)))
    where
      told : told_after (came frame) ≡ Some p
      told =
          told_where (is_told_new old.state.session after.session) (message_from d (came frame)) old.state.dial (with_state after y (app_takes d (came frame) old.state.dial old)) new
          ∙ takes_its d frame old k there ∙ its

  none_mapped : (o : Option Session) → is_some (option_map number_of o) ≡ false → o ≡ None
  none_mapped None is = refl
  none_mapped (Some s) is = absurd (false≢true (sym is))

  welcome_own : (w : Down) (frame : DownFrame) → frame.message ≡ w → Taken old frame → WelcomeTold w d now before (begun (app_state m app)) (made state outs) → Shows frame → Own (came frame)
  welcome_own (Welcome session epoch kept front taken) frame message t (inl x) says =
      new_own frame front (record { session = session; order = w.order }) (session_put x.since [] (new_session session epoch front)) t.connection t.its w.its (ap front_said message)
      (ap (λ (o : Option Session). is_told_new o after.session) none ∙ ap (is_told_new None) is) is w.unmet.there refl w.unmet.unlearnt
      (open_header (order_at v w.order) (stays_at v w.order) session front w.within w.unmet.unused w.none_counted w.none_synced) refl refl refl runs
      (subst (λ (o : Option PlainSession). IfSome o (λ t. t.app ≡ app)) (sym w.unmet.unmet) tt)
    where
      v : Server
      v = (state_after l m.trail).server_at d

      line : old.state.line ≡ Greeting
      line = ap (λ (g : AppEnd). g.line) (sym same_end) ∙ x.greeting

      w : NewWelcomeOn ((state_after l m.trail).server_at d) (m.site_at d) app old.state.told t.connection session epoch kept front taken
      w = new_on l m app d frame session epoch kept front taken h alive t message line

      none : old.state.session ≡ None
      none =
          none_mapped old.state.session
          (ap is_some (sym ((h.sites d).ends.tables app alive).session)
          ∙ no_session_of (((state_after l m.trail).server_at d).pair_at app) old.state ((h.sites d).ends.tables app alive) line)

      is : after.session ≡ Some (session_put x.since [] (new_session session epoch front))
      is = ap (λ (g : AppEnd). g.session) x.here.end

      runs : y.runs ≡ []
      runs =
          ap (λ (s : Shown). s.runs) (subst (λ (o : Option Session). ShowsEnd o after.session frame.message greatest old.shown y) none says)
          ∙ none_shown none
  welcome_own (Welcome session epoch kept front taken) frame message t (inr x) says =
      new_own frame front (record { session = x.session.number; order = w.order }) (session_put x.since _ (in_epoch epoch front x.session)) t.connection t.its w.its (ap front_said message)
      new is w.says.there refl (ap (λ (k : ℕ). ((m.site_at d).lane_at k w.order).began) (sym w.number) ∙ w.unlearnt)
      (subst (λ (k : ℕ). IsHeader (order_at ((state_after l m.trail).server_at d) w.order) (stays_at ((state_after l m.trail).server_at d) w.order) k front) w.number w.says.header) refl refl refl runs
      (some_if (((state_after l m.trail).server_at d).session_at x.session.number) _ (λ t. t.app ≡ app) (λ t is. is.0) place.met)
    where
      there : old.state.session ≡ Some x.session
      there = ap (λ (g : AppEnd). g.session) (sym same_end) ∙ x.its

      place : ToldPlace ((state_after l m.trail).server_at d) app x.session old.told
      place = subst (λ (o : Option Session). IfSome o (λ s. ToldPlace ((state_after l m.trail).server_at d) app s old.told)) there ((h.sites d).ends.told app alive).place

      on_it : EpochOn ((state_after l m.trail).server_at d) (m.site_at d) x.session t.connection session epoch kept front taken t.behind
      on_it = epoch_on l m app d frame x.session session epoch kept front taken h alive t message (ap (λ (g : AppEnd). g.line) (sym same_end) ∙ x.asking) there x.later

      w : EpochWelcomeOn ((state_after l m.trail).server_at d) (m.site_at d) x.session on_it.before t.connection session epoch kept front taken t.behind
      w = on_it.welcome

      is : after.session ≡ Some (session_put x.since (told_puts front.w (synced_up front.s x.session)) (in_epoch epoch front x.session))
      is = ap (λ (g : AppEnd). g.session) x.here.end

      differ : (x.session.epoch == epoch) ≡ false
      differ = ne_eqb x.session.epoch epoch (λ same. absurd (omega (arith, same, x.later)))

      new : is_told_new old.state.session after.session ≡ true
      new = ap (λ (o : Option Session). is_told_new o after.session) there ∙ ap (is_told_new (Some x.session)) is ∙ ap not differ

      runs : y.runs ≡ []
      runs =
          ap (λ (s : Shown). s.runs)
          (subst (λ (k : Bool). ShowsSession k x.session (session_put x.since (told_puts front.w (synced_up front.s x.session)) (in_epoch epoch front x.session)) frame.message old.shown y) differ
          (subst (λ (q : Option Session). ShowsEnd (Some x.session) q frame.message greatest old.shown y) is
          (subst (λ (o : Option Session). ShowsEnd o after.session frame.message greatest old.shown y) there says)))
  welcome_own (Reset session at) frame message t x says = absurd x
  welcome_own (Block front block) frame message t x says = absurd x
  welcome_own (Drop front lo hi) frame message t x says = absurd x
  welcome_own (Ack front) frame message t x says = absurd x
  welcome_own (Grant front ticket at) frame message t x says = absurd x
  welcome_own (Answer front about job number at sum) frame message t x says = absurd x
  welcome_own (Normal front) frame message t x says = absurd x
  welcome_own Bare frame message t x says = absurd x

  frame_own : (frame : DownFrame) → AppTakes c app (came frame) → Brings frame.message d now frame (begun (app_state m app)) (made state outs) → Shows frame → Own (came frame)
  frame_own frame takes (inl still) says = still_own frame still says
  frame_own frame takes (inr (inl x)) says = taken_own frame.message frame refl (taken_down c m app d frame shows takes) x says
  frame_own frame takes (inr (inr x)) says = welcome_own frame.message frame refl (taken_down c m app d frame shows takes) x says

  -- each input

  abbrev Says : AppIn → Type 0
  Says input = ShowsInput d input old.state after old.shown y

  stays_here : EndStays before after → SessionStays old.state.session after.session
  stays_here stays = subst (λ (f : AppEnd). SessionStays f.session after.session) same_end stays.session

  at_server : (frame : DownFrame) (k : ℕ) → d ≡ k → AppTakes c app (app_in.Frame k frame) → Brings frame.message k now frame (begun (app_state m app)) (made state outs)
      → Says (app_in.Frame k frame) → Own (app_in.Frame k frame)
  at_server frame k here =
      subst (λ (n : ℕ). AppTakes c app (app_in.Frame n frame) → Brings frame.message n now frame (begun (app_state m app)) (made state outs)
      → Says (app_in.Frame n frame) → Own (app_in.Frame n frame)) here
      (λ takes brings says. frame_own frame takes brings (subst (λ (b : Bool). ShowsIf b frame.message old.state after old.shown y) (eq-eqb d d refl) says))

  input_own : (input : AppIn) → AppTakes c app input → InputBrings input d now (begun (app_state m app)) (made state outs) → Says input → Own input
  input_own (app_in.Frame k frame) takes (inl stays) says =
      stays_own (app_in.Frame k frame) (stays_here stays) (shown_if (k == d) frame.message old.state after old.shown y (stays_here stays) says)
  input_own (app_in.Frame k frame) takes (inr x) says = at_server frame k x.0 takes x.1 says
  input_own (app_in.Connected k) takes stays says = stays_own (app_in.Connected k) (stays_here stays) says
  input_own (app_in.NoWay k fails later) takes stays says = stays_own (app_in.NoWay k fails later) (stays_here stays) says
  input_own (app_in.Broken k) takes stays says = stays_own (app_in.Broken k) (stays_here stays) says
  input_own (app_in.Join k) takes stays says = stays_own (app_in.Join k) (stays_here stays) says
  input_own app_in.Tick takes still says = go (still_or_lost old.state.session after.session (subst (λ (f : AppEnd). SessionStill f.session after.session) same_end still.session))
    where
      same_shown : (o q : Option Session) → SessionStays o q → ticked_shown o q old.shown ≡ old.shown
      same_shown None q stays = refl
      same_shown (Some s) None stays = absurd stays
      same_shown (Some s) (Some t) stays = refl

      lost : (o : Option Session) → (o ≡ None → old.shown.runs ≡ []) → (ticked_shown o None old.shown).runs ≡ []
      lost None none = none refl
      lost (Some s) none = refl

      go : SessionStays old.state.session after.session ⊎ (after.session ≡ None) → Own app_in.Tick
      go (inl stays) = stays_own app_in.Tick stays (says ∙ same_shown old.state.session after.session stays)
      go (inr gone) =
          lost_own app_in.Tick gone
          (ap (λ (s : Shown). s.runs) says ∙ ap (λ (q : Option Session). (ticked_shown old.state.session q old.shown).runs) gone ∙ lost old.state.session none_shown)

-- Each input of an application server keeps the fronts.
pub fronts_kept_by_app : (l : Layout) (c : CoresState) (m : Machine) (app now : ℕ) (input : AppIn) (outs : MoveOuts) (written : List Act) (new : Machine)
    → Holds l m → IsRun l m.trail → Mirrors c m → Allowed c (App app now input) → AppGoes m app now input outs written new → AllFronts l new
fronts_kept_by_app l c m app now input outs written new h run shows allowed goes =
    subst (λ (n : Machine). AllFronts l n) (sym goes.after)
    (subst (λ (ws : List Act). (d : ℕ) → FrontsHold ((state_after l (m.trail ++ ws)).server_at d) (site d) m.is_dead_at) (sym goes.acts)
    (λ d. go d (app_step_leaves (begun a) now input (made goes.state goes.app_outs) goes.steps)))
  where
    a : AppState
    a = app_state m app

    site : ℕ → Site
    site d = input_site app input goes.app_outs goes.state goes.shown d (m.site_at d)

    alive : m.is_dead_at app ≡ false
    alive = sym (shows.dead app) ∙ allowed.alive

    has : (d : ℕ) → LineHas (end_at a d).line (end_at a d).session
    has d =
        subst (λ (e : AppEnd). LineHas e.line e.session) (sym (app_ends c m app d shows allowed.known))
        (line_has (((state_after l m.trail).server_at d).pair_at app) (end_state m app d) ((h.sites d).ends.tables app alive))

    -- what the input brings the end
    brings : (d : ℕ) → InputBrings input d now (begun a) (made goes.state goes.app_outs)
    brings d =
        input_brings input d now (begun a) (made goes.state goes.app_outs) (app_may c m app input shows allowed.known allowed.may)
        (steps_at_one_end a goes.state now input goes.app_outs goes.steps).1 has goes.steps

    go : (d : ℕ) → Leaves (begun a) (made goes.state goes.app_outs) → FrontsHold ((state_after l (m.trail ++ goes.app_outs.acts)).server_at d) (site d) m.is_dead_at
    go d w =
        subst (λ (q : Plain). FrontsHold (q.server_at d) (site d) m.is_dead_at) (sym (after_all-append l start m.trail goes.app_outs.acts))
        (by (rows_same l (state_after l m.trail) goes.app_outs.acts (subst (λ (ws : List Act). AllByRecursion (λ y. leaves_orders y ≡ true) ws) (sym w.acts) w.leaves) d))
      where
        v : Server
        v = (state_after l m.trail).server_at d

        u : Server
        u = (after_all l (state_after l m.trail) goes.app_outs.acts).server_at d

        x : Site
        x = m.site_at d

        e : End
        e = x.end_at app

        moved : End
        moved = app_end d goes.app_outs e.state (end_at goes.state d) (goes.shown d) (message_from d input) (app_takes d input e.state.dial e)

        by : SameOrders v u → FrontsHold u (site d) m.is_dead_at
        by same = with_own (input_own l c m app now d h run shows allowed.known alive u goes.state goes.app_outs (record x { end_at = put x.end_at app moved }) (goes.shown d) on refl input
            allowed.takes (brings d) (goes.shows d))
          where
            on : (k : ℕ) → k ≤ current v → IsFront (order_at v k) (order_at u k)
            on = (deeds_on v u [] (orders_agree l m.trail d run) tt same.past same.order (omega (arith, same.synced))).goes_on

            with_own : Own l c m app now d h run shows allowed.known alive u goes.state goes.app_outs (record x { end_at = put x.end_at app moved }) (goes.shown d) on refl input
                → FrontsHold u (site d) m.is_dead_at
            with_own own =
                fronts_at_end v u x (site d) m.is_dead_at app moved on (site_ends app d goes.app_outs e.state (end_at goes.state d) (message_from d input) moved x)
                (h.sites d).ends (h.sites d).fronts own.others
                (subst (λ (f : AppEnd). FrontWith u (site d) moved.told f.session)
                (sym (end_has_state d goes.app_outs e.state (end_at goes.state d) (goes.shown d) (message_from d input) (app_takes d input e.state.dial e))) own.front)
                (subst (λ (f : AppEnd). ShownWith (site d) moved.told moved.shown f.session)
                (sym (end_has_state d goes.app_outs e.state (end_at goes.state d) (goes.shown d) (message_from d input) (app_takes d input e.state.dial e)))
                (subst (λ (s : Shown). ShownWith (site d) moved.told s (end_at goes.state d).session)
                (sym (end_has_shown d goes.app_outs e.state (end_at goes.state d) (goes.shown d) (message_from d input) (app_takes d input e.state.dial e))) own.shown))
