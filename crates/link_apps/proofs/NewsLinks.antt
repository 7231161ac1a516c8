-- What is on its way to an end that learns of an order, after the frame that tells it.
use Rattle.std.proofs.Common.{◌≤◌, None, ◌≡◌, ◌⊎◌, inl, inr, ℕ, Bool, true, false, List, [], ◌∷◌, ◌++◌, Some, refl, sym, ◌∙◌, ap, subst, arith, ◌-◌, ◌+◌, Option, if◌then◌else◌}
use Rattle.std.proofs.lemmas.Bool.{false≢true, eq-eqb}
use Rattle.plain_orders.specs.declared.act.Act.{Act}
use Rattle.plain_orders.specs.declared.entry.Entry.{Entry}
use Rattle.plain_orders.specs.declared.layout.Layout.{Layout}
use Rattle.plain_runs.specs.Plain.{Plain, Server, order_at, start, Session as PlainSession, current}
use Rattle.plain_runs.specs.Run.{IsRun, after_all, state_after}
use Rattle.plain_runs.proofs.RunLemmas.{after_all-append}
use Rattle.ecp_messages.specs.declared.down.Down.{Down}
use Rattle.ecp_messages.specs.declared.down.Down.TheVariants.{Welcome, Reset, Block, Drop, Ack, Grant, Answer, Normal, Bare}
use Rattle.ecp_messages.specs.declared.down.DownFrame.{DownFrame}
use Rattle.ecp_messages.specs.declared.front.Front.{Front}
use Rattle.app_rules.specs.declared.app_in.AppIn.TheVariants as app_in
use Rattle.app_rules.specs.declared.app_outs.AppOuts.{AppOuts}
use Rattle.app_rules.specs.declared.line.Line.{Line}
use Rattle.app_rules.specs.AppState.{AppState, AppEnd, Session}
use Rattle.app_rules.specs.AppStep.{AppMay, made}
use Rattle.app_rules.specs.Welcoming.{in_epoch, new_session, told_puts}
use Rattle.app_rules.specs.Works.{Sofar, begun, end_at, synced_up}
use Rattle.app_rules.proofs.StepLaws.{steps_at_one_end}
use Rattle.cluster_runs.specs.CoresState.{CoresState}
use Rattle.cluster_runs.specs.declared.move_outs.MoveOuts.{MoveOuts}
use Rattle.cluster_runs.specs.declared.moves.Move.TheVariants.{App}
use Rattle.cluster_runs.specs.Goes.{AppGoes, input_site}
use Rattle.cluster_runs.specs.Lanes.{is_told_new}
use Rattle.cluster_runs.specs.Machine.{Machine, Site, End, app_state}
use Rattle.cluster_runs.specs.Mirrors.{Mirrors}
use Rattle.cluster_runs.specs.Moves.{Allowed}
use Rattle.cluster_runs.specs.Sent.{Lane, Place, Connection}
use Rattle.cluster_invariant.specs.Ends.{EndsAre, stands, ToldPlace}
use Rattle.cluster_invariant.specs.Holds.{Holds}
use Rattle.cluster_invariant.specs.Link.{AppWay, LaneCounts, AskedFirst, AskedWay, DownBy, DownWay, GreetedFirst, GreetedWay, LinkHolds, NewWelcomeOn, EpochWelcomeOn, WholeIf, WithSession, is_in_recovery}
use Rattle.cluster_invariant.specs.Rounds.{RoundOf, SessionRound}
use Rattle.std.specs.Prelude.{IfSome, IsSomeAnd}
use Rattle.link_apps.proofs.SentFirst.{told_numbered}
use Rattle.cluster_invariant.specs.Words.{downs_left, numbered_behind, stays_at, numbered_ups}
use Rattle.cluster_invariant.proofs.Small.{of_some}
use Rattle.cluster_steps.proofs.AppSites.{app_ends}
use Rattle.cluster_steps.proofs.EndSteps.{session_put}
use Rattle.cluster_steps.proofs.FrameEnds.{Learnt, MetNew}
use Rattle.cluster_steps.proofs.Outcomes.{EndKept, input_told}
use Rattle.cluster_steps.proofs.InputsBring.{WelcomeTold}
use Rattle.ends_kept.proofs.OrderApps.{no_news}
use Rattle.ends_kept.proofs.TakenDown.{Taken, taken_down}
use Rattle.link_apps.proofs.InputPlain.{after_input}
use Rattle.link_apps.proofs.Learns.{Learns, counts_learnt, way_learnt}
use Rattle.link_apps.proofs.OwnPlace.{OwnPlace, at_place, own_place}
use Rattle.link_apps.proofs.RestLinks.{has, may}
use Rattle.link_apps.proofs.WentOn.{asks_recovering}
use Rattle.std.specs.List.{AllByRecursion}
use Rattle.ecp_messages.specs.declared.up.UpFrame.{UpFrame}
use Rattle.data_rules.specs.Places.{epoch_place}
use Rattle.end_words.specs.Windows.{fresh, numbered_from}
use Rattle.cluster_runs.specs.Connections.{ups_to}
use Rattle.cluster_steps.proofs.JobEnds.{put_frames}
use Rattle.link_apps.proofs.PutsUp.{acks_frames, numbered_frames}

-- nothing is on its way
no_way : (es : List Entry) (stays s : ℕ) (a : Lane) (may : Bool) → DownWay es stays s a may []
no_way es stays s a now = record {
  its = [];
  ends = [];
  all = refl;
  kinds = refl;
  next = (numbered_behind a.down_taken a.down, refl);
  acks = tt;
  reset = tt;
  no_normal = λ some. absurd (some refl);
}

module _ (v : Server) (x : Site) (dead : ℕ → Bool) (app d now : ℕ) (frame : DownFrame) (outs : AppOuts) (state : AppState) (b : Sofar) (none : b.outs.cuts ≡ []) (no_frames : ups_to d b.outs.frames ≡ [])
    (alive : dead app ≡ false) (link : LinkHolds v x dead) (are : EndsAre v x dead) (c : Connection)
    (its : (x.end_at app).connection_at (x.end_at app).state.dial ≡ Some c) (rest : List DownFrame) (left : downs_left c ≡ frame ∷ rest)
    (session epoch kept : ℕ) (front : Front) (taken : ℕ) (message : frame.message ≡ Welcome session epoch kept front taken) where
  abbrev e : End
  e = x.end_at app

  down : (line : Line) → e.state.line ≡ line → DownBy line v x app e c
  down line is = subst (λ (line : Line). DownBy line v x app e c) is (of_some (DownBy e.state.line v x app e) (e.connection_at e.state.dial) c its (link.apps app alive).down)

  -- the Welcome of a new session
  pub learns_met : MetNew d now session epoch front e.state b (made state outs) → Learns v x app d outs state c rest
  learns_met m = go (subst (GreetedWay v x app e.state.told c) left (subst (λ (line : Line). DownBy line v x app e c) m.greeting (down e.state.line refl)))
    where
      puts_none : ups_to d outs.frames ≡ []
      puts_none = m.here.frames ∙ ap (λ (fs : List UpFrame). fs ++ []) no_frames

      by : NewWelcomeOn v x app e.state.told c session epoch kept front taken → rest ≡ [] → Learns v x app d outs state c rest
      by w alone = record {
        session = session_put m.since [] (new_session session epoch front);
        now = ap (λ (z : AppEnd). z.session) m.here.end;
        line = ap (λ (z : AppEnd). z.line) m.here.end;
        dial = ap (λ (z : AppEnd). z.dial) m.here.end;
        cuts = m.here.cuts ∙ ap (λ (xs : List ℕ). xs ++ []) none;
        order = w.order;
        carried = w.its;
        unlearnt = w.unmet.unlearnt;
        acked = refl;
        taken = refl;
        numbered = refl;
        way =
            subst (λ (fs : List DownFrame). DownWay (order_at v w.order) (stays_at v w.order) session (x.lane_at session w.order) (is_in_recovery (end_at state d).link) fs) (sym alone)
            (no_way (order_at v w.order) (stays_at v w.order) session (x.lane_at session w.order) (is_in_recovery (end_at state d).link));
        whole = subst (WholeIf x session w.order (x.lane_at session w.order) c) (sym alone) w.whole;
        frames = ap numbered_ups puts_none;
        acks = subst (AllByRecursion (λ (g : UpFrame). g.ack ≤ 0)) (sym puts_none) tt;
        mine = subst (λ (o : Option PlainSession). IfSome o (λ q. q.app ≡ app)) (sym w.unmet.unmet) tt;
        entered = λ unmet. w.unmet.entered;
        there = w.unmet.there;
        synced = λ here.
            let all : stays_at v w.order ≡ v.synced = ap (λ (q : Bool). if q then v.synced else epoch_place (order_at v (w.order + 1)) - 1) (eq-eqb w.order (current v) here) in
            omega (arith, w.synced, all);
        stays = w.stays;
        place = inl w.unmet.behind;
      }

      go : GreetedWay v x app e.state.told c (frame ∷ rest) → Learns v x app d outs state c rest
      go way = by (subst (GreetedFirst v x app e.state.told c) message way.1) way.2

  -- the Welcome of a new epoch
  pub learns_epoch : IfSome e.state.session (RoundOf v x e) → Learnt d session epoch kept front e.state b (made state outs) → Learns v x app d outs state c rest
  learns_epoch rounds m = go (subst (AskedFirst v x s place.k c rest) message asked.1)
    where
      s : Session
      s = m.session

      place : OwnPlace v x app s
      place = own_place v x dead app alive link are s m.its

      round : SessionRound (order_at v place.k) (x.lane_at s.number place.k) s
      round =
          of_some (λ (p : Place). SessionRound (order_at v p.order) (x.lane_at s.number p.order) s) e.told (record { session = s.number; order = place.k }) place.told
          (of_some (RoundOf v x e) e.state.session s m.its rounds)

      asked : AskedWay v x s place.k c (frame ∷ rest)
      asked =
          at_place (λ q j. AskedWay v x q j c (frame ∷ rest)) v x app s m.its place
          (subst (λ (fs : List DownFrame). WithSession e.state.session e.told (λ q j. AskedWay v x q j c fs)) left
          (subst (λ (line : Line). DownBy line v x app e c) m.asking (down e.state.line refl)))

      recovers : is_in_recovery (end_at state d).link ≡ true
      recovers =
          ap (λ (z : AppEnd). is_in_recovery z.link) m.here.end
          ∙ ap is_in_recovery (asks_recovering e.state.link (ap (stands e.state.link) (sym m.asking) ∙ (are.tables app alive).stands))

      puts_all : ups_to d outs.frames ≡ put_frames true fresh (told_puts front.w (synced_up front.s s))
      puts_all = m.here.frames ∙ ap (λ (fs : List UpFrame). fs ++ put_frames true fresh (told_puts front.w (synced_up front.s s))) no_frames

      newest : s.number ≡ e.state.told
      newest = of_some (λ (q : Session). q.number ≡ e.state.told) e.state.session s m.its (are.told app alive).newest

      known : IsSomeAnd (v.session_at s.number) (λ q. q.app ≡ app)
      known = go (of_some (λ (q : Session). ToldPlace v app q e.told) e.state.session s m.its (are.told app alive).place)
        where
          one : (j : ℕ) (o : Option PlainSession) → IsSomeAnd o (λ q. (q.app ≡ app) × (q.told ≡ j)) → IsSomeAnd o (λ q. q.app ≡ app)
          one j None is = is
          one j (Some q) is = is.0

          go : ToldPlace v app s e.told → IsSomeAnd (v.session_at s.number) (λ q. q.app ≡ app)
          go p = one p.order (v.session_at s.number) p.met

      its_app : (o : Option PlainSession) → IsSomeAnd o (λ q. q.app ≡ app) → IfSome o (λ q. q.app ≡ app)
      its_app None is = absurd is
      its_app (Some q) is = is

      by : EpochWelcomeOn v x s place.k c session epoch kept front taken rest → Learns v x app d outs state c rest
      by w = record {
        session = session_put m.since (told_puts front.w (synced_up front.s s)) (in_epoch epoch front s);
        now = ap (λ (z : AppEnd). z.session) m.here.end;
        line = ap (λ (z : AppEnd). z.line) m.here.end;
        dial = ap (λ (z : AppEnd). z.dial) m.here.end;
        cuts = m.here.cuts ∙ ap (λ (xs : List ℕ). xs ++ []) none;
        order = w.order;
        carried = w.its;
        unlearnt = ap (λ (n : ℕ). (x.lane_at n w.order).began) (sym w.number) ∙ w.unlearnt;
        acked = refl;
        taken = refl;
        numbered = told_numbered front.w front.s s round.queued round.owed;
        way =
            subst (λ (q : Bool). DownWay (order_at v w.order) (stays_at v w.order) s.number (x.lane_at s.number w.order) q rest) (sym recovers)
            (subst (λ (n : ℕ). DownWay (order_at v w.order) (stays_at v w.order) n (x.lane_at n w.order) true rest) w.number w.way);
        whole = subst (λ (n : ℕ). WholeIf x n w.order (x.lane_at n w.order) c rest) w.number w.whole;
        frames = ap numbered_ups puts_all ∙ numbered_frames 0 0 (told_puts front.w (synced_up front.s s));
        acks =
            subst (AllByRecursion (λ (g : UpFrame). g.ack ≤ 0)) (sym puts_all)
            (acks_frames 0 0 (numbered_from 0 (told_puts front.w (synced_up front.s s))) (omega arith));
        mine = its_app (v.session_at s.number) known;
        entered = λ unmet. absurd (subst (λ (o : Option PlainSession). IsSomeAnd o (λ q. q.app ≡ app)) unmet known);
        there = w.says.there;
        synced = λ here. omega (arith, (are.told app alive).synced, newest);
        stays = w.says.stays;
        place = inr (omega (arith, w.says.later));
      }

      go : AskedFirst v x s place.k c rest (Welcome session epoch kept front taken) → Learns v x app d outs state c rest
      go (inl w) = absurd (omega (arith, w.epoch_told, m.later))
      go (inr w) = by w

-- a frame by which an end learns of an order is the Welcome of a new session or of a new epoch
pub told_news : (l : Layout) (c : CoresState) (m : Machine) (app now d : ℕ) (frame : DownFrame) (outs : MoveOuts) (written : List Act) (new : Machine)
    → Holds l m → IsRun l m.trail → Mirrors c m → Allowed c (App app now (app_in.Frame d frame)) → (goes : AppGoes m app now (app_in.Frame d frame) outs written new)
    → is_told_new ((m.site_at d).end_at app).state.session (end_at goes.state d).session ≡ true
    → WelcomeTold frame.message d now ((m.site_at d).end_at app).state (begun (app_state m app)) (made goes.state goes.app_outs)
told_news l c m app now d frame outs written new h run shows allowed goes news =
    go
    (input_told (app_in.Frame d frame) d now (begun a) z its (steps_at_one_end a goes.state now (app_in.Frame d frame) goes.app_outs goes.steps).1
    (has l c m app now (app_in.Frame d frame) outs written new h run shows allowed goes) goes.steps)
  where
    a : AppState
    a = app_state m app

    z : Sofar
    z = made goes.state goes.app_outs

    its : AppMay a (app_in.Frame d frame)
    its = may l c m app now (app_in.Frame d frame) outs written new h run shows allowed goes

    same : end_at a d ≡ ((m.site_at d).end_at app).state
    same = app_ends c m app d shows allowed.known

    go : EndKept (end_at a d) (end_at goes.state d) ⊎ ((d ≡ d) × WelcomeTold frame.message d now (end_at a d) (begun a) z)
        → WelcomeTold frame.message d now ((m.site_at d).end_at app).state (begun a) z
    go (inl kept) =
        absurd
        (false≢true (sym (no_news (end_at a d).session (end_at goes.state d).session kept.session)
        ∙ ap (λ (t : AppEnd). is_told_new t.session (end_at goes.state d).session) same
        ∙ news))
    go (inr is) = subst (λ (t : AppEnd). WelcomeTold frame.message d now t (begun a) z) same is.1

module _ (l : Layout) (c : CoresState) (m : Machine) (app now d : ℕ) (frame : DownFrame) (outs : MoveOuts) (written : List Act) (new : Machine)
    (h : Holds l m) (run : IsRun l m.trail) (shows : Mirrors c m) (allowed : Allowed c (App app now (app_in.Frame d frame)))
    (goes : AppGoes m app now (app_in.Frame d frame) outs written new)
    (news : is_told_new ((m.site_at d).end_at app).state.session (end_at goes.state d).session ≡ true) where
  abbrev a : AppState
  a = app_state m app

  abbrev x : Site
  x = m.site_at d

  abbrev y : Site
  y = input_site app (app_in.Frame d frame) goes.app_outs goes.state goes.shown d x

  abbrev v : Server
  v = (state_after l m.trail).server_at d

  abbrev z : Sofar
  z = made goes.state goes.app_outs

  alive : m.is_dead_at app ≡ false
  alive = sym (shows.dead app) ∙ allowed.alive

  abbrev pub taken : Taken (x.end_at app) frame
  taken = taken_down c m app d frame shows allowed.takes

  told : WelcomeTold frame.message d now (x.end_at app).state (begun a) z
  told = told_news l c m app now d frame outs written new h run shows allowed goes news

  by : (n : Down) → frame.message ≡ n → WelcomeTold n d now (x.end_at app).state (begun a) z → Learns v x app d goes.app_outs goes.state taken.connection taken.behind
  by (Welcome session epoch kept front count) is (inl w) =
      learns_met v x m.is_dead_at app d now frame goes.app_outs goes.state (begun a) refl refl alive (h.sites d).link (h.sites d).ends taken.connection taken.its taken.behind taken.left
      session epoch kept front count is w
  by (Welcome session epoch kept front count) is (inr w) =
      learns_epoch v x m.is_dead_at app d now frame goes.app_outs goes.state (begun a) refl refl alive (h.sites d).link (h.sites d).ends taken.connection taken.its taken.behind taken.left
      session epoch kept front count is ((h.sites d).rounds.apps app alive) w
  by (Reset session at) is w = absurd w
  by (Block front block) is w = absurd w
  by (Drop front lo hi) is w = absurd w
  by (Ack front) is w = absurd w
  by (Grant front ticket at) is w = absurd w
  by (Answer front about job number at sum) is w = absurd w
  by (Normal front) is w = absurd w
  by Bare is w = absurd w

  pub learns : Learns v x app d goes.app_outs goes.state taken.connection taken.behind
  learns = by frame.message refl told

  -- An end that learns of an order by a frame has just what is on its way to it.
  pub way_kept_by_news : AppWay ((state_after l new.trail).server_at d) (new.site_at d) app ((new.site_at d).end_at app)
  way_kept_by_news =
      subst (λ (n : Machine). AppWay ((state_after l n.trail).server_at d) (n.site_at d) app ((n.site_at d).end_at app)) (sym goes.after)
      (subst (λ (ws : List Act). AppWay ((state_after l (m.trail ++ ws)).server_at d) y app (y.end_at app)) (sym goes.acts)
      (subst (λ (q : Plain). AppWay (q.server_at d) y app (y.end_at app)) (sym (after_all-append l start m.trail goes.app_outs.acts))
      (way_learnt v ((after_all l (state_after l m.trail) goes.app_outs.acts).server_at d) x m.is_dead_at app d frame goes.app_outs goes.state goes.shown
      ((after_input l c m app now (app_in.Frame d frame) outs written new h run shows allowed goes).orders d) (h.sites d).link taken.connection taken.its taken.behind taken.left news
      learns)))

  -- And the lanes there count what was put and taken.
  pub lanes_kept_by_news : (s k : ℕ) → LaneCounts ((new.site_at d).lane_at s k)
  lanes_kept_by_news s k =
      subst (λ (n : Machine). LaneCounts ((n.site_at d).lane_at s k)) (sym goes.after)
      (counts_learnt v ((after_all l (state_after l m.trail) goes.app_outs.acts).server_at d) x m.is_dead_at app d frame goes.app_outs goes.state goes.shown
      ((after_input l c m app now (app_in.Frame d frame) outs written new h run shows allowed goes).orders d) (h.sites d).link taken.connection taken.its taken.behind taken.left news
      learns s k)
