-- What a Welcome that tells something new makes of its application end.
use Rattle.std.proofs.Common.{◌≡◌, ◌<◌, ℕ, zero, suc, true, false, not, List, [], ◌∷◌, drop, Option, Some, None, is_some, option_map, refl, sym, ◌∙◌, ap, subst, arith, inl, inr}
use Rattle.std.specs.Prelude.{IfSome, IsSomeAnd, unwrap_or}
use Rattle.std.specs.List.{list_all}
use Rattle.std.proofs.lemmas.Bool.{and_parts, false≢true, ne_eqb}
use Rattle.plain_orders.specs.declared.layout.Layout.{Layout}
use Rattle.plain_runs.specs.Plain.{Server, Session as PlainSession, order_at, session_in}
use Rattle.plain_runs.specs.Run.{state_after}
use Rattle.ecp_messages.specs.declared.down.Down.{Down}
use Rattle.ecp_messages.specs.declared.down.Down.TheVariants.{Welcome, Reset, Block, Drop, Ack, Grant, Answer, Normal, Bare}
use Rattle.ecp_messages.specs.declared.down.DownFrame.{DownFrame}
use Rattle.ecp_messages.specs.declared.front.Front.{Front}
use Rattle.ecp_messages.specs.declared.up.Up.{Up}
use Rattle.ecp_messages.specs.declared.up.UpFrame.{UpFrame}
use Rattle.end_words.specs.Windows.{fresh}
use Rattle.app_rules.specs.AppState.{AppEnd, Session}
use Rattle.app_rules.specs.Welcoming.{in_epoch, new_session, told_puts}
use Rattle.app_rules.specs.Works.{Sofar, begun, end_at, synced_up}
use Rattle.cluster_runs.specs.CoresState.{CoresState}
use Rattle.cluster_runs.specs.Mirrors.{Mirrors}
use Rattle.cluster_runs.specs.Sent.{Place}
use Rattle.cluster_runs.specs.Machine.{Machine, Site, End, app_state}
use Rattle.cluster_runs.specs.Connections.{knows_of, ups_to}
use Rattle.cluster_runs.specs.Lanes.{is_told_new}
use Rattle.cluster_invariant.specs.Dials.{as_it_learns}
use Rattle.cluster_invariant.specs.Ends.{ToldPlace}
use Rattle.cluster_invariant.specs.Holds.{Holds}
use Rattle.cluster_invariant.specs.Link.{LaneCounts, NewWelcomeOn, WindowIs, is_numbered_up}
use Rattle.cluster_invariant.specs.Rounds.{RoundOf, SessionRound}
use Rattle.cluster_invariant.specs.Words.{NoLess, has_wire}
use Rattle.cluster_invariant.proofs.Small.{of_some}
use Rattle.cluster_steps.proofs.AppSites.{app_ends}
use Rattle.cluster_steps.proofs.EndSteps.{session_put}
use Rattle.cluster_steps.proofs.FrameEnds.{Learnt, MetNew}
use Rattle.cluster_steps.proofs.JobEnds.{put_frames}
use Rattle.cluster_steps.proofs.InputsBring.{WelcomeTold}
use Rattle.ends_kept.proofs.MetTold.{EpochOn, epoch_on, new_on, no_session_of}
use Rattle.ends_kept.proofs.TakenDown.{Taken}
use Rattle.dials_frames.proofs.BeganDials.{TellsNew}
use Rattle.dials_frames.proofs.FollowFrames.{all_follow, told_numbered}

-- what a window keeps has numbers

behind_numbered : (n : ℕ) (ms : List Up) → list_all is_numbered_up ms ≡ true → list_all is_numbered_up (drop n ms) ≡ true
behind_numbered zero ms is = is
behind_numbered (suc n) [] is = is
behind_numbered (suc n) (m ∷ ms) is = behind_numbered n ms (and_parts (is_numbered_up m) (list_all is_numbered_up ms) is).1

pub kept_numbered : (v : Server) (x : Site) (app : ℕ) (o : Option Session) (p : Option Place) → ((s k : ℕ) → LaneCounts (x.lane_at s k)) → IfSome o (λ s. ToldPlace v app s p)
    → IfSome o (λ s. IfSome p (λ z. WindowIs s.window (x.lane_at s.number z.order).up (x.lane_at s.number z.order).up_taken (x.lane_at s.number z.order).down_taken))
    → IfSome o (λ s. list_all is_numbered_up s.window.waiting ≡ true)
kept_numbered v x app None p lanes place window = tt
kept_numbered v x app (Some s) None lanes place window = absurd (none place.its)
  where
    none : {z : Place} → ◌≡◌ {A = Option Place} None (Some z) → ⊥
    none is = cc (is)
kept_numbered v x app (Some s) (Some z) lanes place window =
    ap (list_all is_numbered_up) window.waiting ∙ behind_numbered s.window.acked (x.lane_at s.number z.order).up (lanes s.number z.order).ups

-- the order that a session is told of
told_in : (v : Server) (app n k : ℕ) → IsSomeAnd (v.session_at n) (λ t. (t.app ≡ app) × (t.told ≡ k)) → (session_in v n).told ≡ k
told_in v app n k met = go (v.session_at n) met
  where
    go : (o : Option PlainSession) → IsSomeAnd o (λ t. (t.app ≡ app) × (t.told ≡ k)) → (unwrap_or o (record { app = 0; issued = []; told = 0 })).told ≡ k
    go None h = absurd h
    go (Some t) h = h.1

module _ (l : Layout) (c : CoresState) (m : Machine) (app now d : ℕ) (frame : DownFrame) (h : Holds l m) (shows : Mirrors c m) (known : app < c.layout.apps)
    (alive : m.is_dead_at app ≡ false) (taken : Taken ((m.site_at d).end_at app) frame)
  where
    abbrev v : Server
    v = (state_after l m.trail).server_at d

    abbrev e : End
    e = (m.site_at d).end_at app

    same : end_at (app_state m app) d ≡ e.state
    same = app_ends c m app d shows known

    -- the Welcome of a new session
    met_tells : (session epoch kept : ℕ) (front : Front) (taken_said : ℕ) (b : Sofar) → frame.message ≡ Welcome session epoch kept front taken_said
        → MetNew d now session epoch front e.state (begun (app_state m app)) b → TellsNew v (m.site_at d) app (end_at b.state d) [] taken.connection
    met_tells session epoch kept front taken_said b message x = record {
      session = session;
      order = on.order;
      has = session_put x.since [] (new_session session epoch front);
      its = ap (λ (t : AppEnd). t.session) x.here.end;
      number = refl;
      fresh = refl;
      news = ap (is_told_new e.state.session) (ap (λ (t : AppEnd). t.session) x.here.end) ∙ news e.state.session none;
      dial = ap (λ (t : AppEnd). t.dial) x.here.end;
      line = ap (λ (t : AppEnd). t.line) x.here.end;
      wire = ap has_wire x.greeting;
      follow = refl;
      carries = on.its;
      there = on.unmet.there;
      rises = rises e.state.session none;
    }
      where
        on : NewWelcomeOn v (m.site_at d) app e.state.told taken.connection session epoch kept front taken_said
        on = new_on l m app d frame session epoch kept front taken_said h alive taken message x.greeting

        mapped : (f : Session → ℕ) (o : Option Session) → is_some (option_map f o) ≡ is_some o
        mapped f None = refl
        mapped f (Some s) = refl

        none : is_some e.state.session ≡ false
        none =
            sym (ap is_some ((h.sites d).ends.tables app alive).session ∙ mapped _ e.state.session)
            ∙ no_session_of (v.pair_at app) e.state ((h.sites d).ends.tables app alive) x.greeting

        news : (o : Option Session) → is_some o ≡ false → is_told_new o (Some (session_put x.since [] (new_session session epoch front))) ≡ true
        news None is = refl
        news (Some s) is = absurd (false≢true (sym is))

        rises : (o : Option Session) → is_some o ≡ false → NoLess (knows_of o e.told e.state.told) (as_it_learns session on.order)
        rises None is = inl on.unmet.above
        rises (Some s) is = absurd (false≢true (sym is))

    -- the Welcome of a new epoch
    learnt_tells : (session epoch kept : ℕ) (front : Front) (taken_said : ℕ) (b : Sofar) → frame.message ≡ Welcome session epoch kept front taken_said
        → (x : Learnt d session epoch kept front e.state (begun (app_state m app)) b)
        → TellsNew v (m.site_at d) app (end_at b.state d) (put_frames true fresh (told_puts front.w (synced_up front.s x.session))) taken.connection
    learnt_tells session epoch kept front taken_said b message x = record {
      session = session;
      order = on.welcome.order;
      has = session_put x.since (told_puts front.w (synced_up front.s x.session)) (in_epoch epoch front x.session);
      its = its;
      number = x.same_number;
      fresh = refl;
      news =
          ap (λ (o : Option Session). is_told_new o (end_at b.state d).session) x.its ∙ ap (is_told_new (Some x.session)) its
          ∙ ap not (ne_eqb x.session.epoch epoch (λ is. absurd (omega (arith, is, x.later))));
      dial = ap (λ (t : AppEnd). t.dial) x.here.end;
      line = ap (λ (t : AppEnd). t.line) x.here.end;
      wire = ap has_wire x.asking;
      follow = all_follow (told_puts front.w (synced_up front.s x.session)) 0 0 numbered;
      carries = on.welcome.its ∙ ap (λ (n : ℕ). Some (record { session = n; order = on.welcome.order })) (sym on.welcome.number);
      there = on.welcome.says.there;
      rises = subst (λ (o : Option Session). NoLess (knows_of o e.told e.state.told) (as_it_learns session on.welcome.order)) (sym x.its)
          (subst (λ (p : Option Place). NoLess (knows_of (Some x.session) p e.state.told) (as_it_learns session on.welcome.order)) (sym place.its)
          (inr (x.same_number, inl (omega (arith, before, on.welcome.says.later)))));
    }
      where
        on : EpochOn v (m.site_at d) x.session taken.connection session epoch kept front taken_said taken.behind
        on = epoch_on l m app d frame x.session session epoch kept front taken_said h alive taken message x.asking x.its x.later

        its : (end_at b.state d).session ≡ Some (session_put x.since (told_puts front.w (synced_up front.s x.session)) (in_epoch epoch front x.session))
        its = ap (λ (t : AppEnd). t.session) x.here.end

        place : ToldPlace v app x.session e.told
        place = of_some (λ y. ToldPlace v app y e.told) e.state.session x.session x.its ((h.sites d).ends.told app alive).place

        before : place.order ≡ on.before
        before = sym (told_in v app x.session.number place.order place.met) ∙ on.told

        round : SessionRound (order_at v place.order) ((m.site_at d).lane_at x.session.number place.order) x.session
        round =
            of_some (λ (p : Place). SessionRound (order_at v p.order) ((m.site_at d).lane_at x.session.number p.order) x.session) e.told _ place.its
            (of_some (RoundOf v (m.site_at d) e) e.state.session x.session x.its ((h.sites d).rounds.apps app alive))

        numbered : list_all is_numbered_up (told_puts front.w (synced_up front.s x.session)) ≡ true
        numbered = told_numbered front.w front.s x.session round.queued round.owed

    -- what was told, by what was put
    pub record Told (b : Sofar) : Type 0 where
      pub ups : List UpFrame
      pub frames : ups_to d b.outs.frames ≡ ups
      pub cuts : b.outs.cuts ≡ []
      pub tells : TellsNew v (m.site_at d) app (end_at b.state d) ups taken.connection

    pub told_new : (w : Down) (b : Sofar) → frame.message ≡ w → WelcomeTold w d now e.state (begun (app_state m app)) b → Told b
    told_new (Welcome session epoch kept front said) b message (inl x) =
        record { ups = []; frames = x.here.frames; cuts = x.here.cuts; tells = met_tells session epoch kept front said b message x }
    told_new (Welcome session epoch kept front said) b message (inr x) =
        record { ups = _; frames = x.here.frames; cuts = x.here.cuts; tells = learnt_tells session epoch kept front said b message x }
    told_new (Reset session at) b message x = absurd x
    told_new (Block front block) b message x = absurd x
    told_new (Drop front lo hi) b message x = absurd x
    told_new (Ack front) b message x = absurd x
    told_new (Grant front ticket at) b message x = absurd x
    told_new (Answer front about job number at sum) b message x = absurd x
    told_new (Normal front) b message x = absurd x
    told_new Bare b message x = absurd x
