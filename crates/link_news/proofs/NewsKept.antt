-- The part on what is on its way, for each input of an application server.
use Rattle.std.proofs.Common.{◌≡◌, ◌≢◌, ℕ, Bool, true, false, List, ◌++◌, Option, Some, None, is_some, refl, sym, ◌∙◌, ap, subst, eqb}
use Rattle.std.specs.Prelude.{IfSome, IsSomeAnd}
use Rattle.std.proofs.lemmas.Bool.{eqb-true, eq-eqb, false≢true}
use Rattle.plain_orders.specs.declared.act.Act.{Act}
use Rattle.plain_orders.specs.declared.layout.Layout.{Layout}
use Rattle.plain_runs.specs.Plain.{Entered, Plain, Server, Session as PlainSession, start}
use Rattle.plain_runs.specs.Run.{IsRun, after_all, state_after}
use Rattle.plain_runs.proofs.RunLemmas.{after_all-append}
use Rattle.ecp_messages.specs.declared.down.DownFrame.{DownFrame}
use Rattle.app_rules.specs.declared.app_in.AppIn.{AppIn}
use Rattle.app_rules.specs.declared.app_in.AppIn.TheVariants as app_in
use Rattle.app_rules.specs.AppState.{Session}
use Rattle.app_rules.specs.AppStep.{made}
use Rattle.app_rules.specs.Works.{begun, end_at}
use Rattle.cluster_runs.specs.CoresState.{CoresState}
use Rattle.cluster_runs.specs.declared.move_outs.MoveOuts.{MoveOuts}
use Rattle.cluster_runs.specs.declared.moves.Move.TheVariants.{App}
use Rattle.cluster_runs.specs.Connections.{ups_to}
use Rattle.cluster_runs.specs.Goes.{AppGoes, input_site}
use Rattle.cluster_runs.specs.Lanes.{is_told_new}
use Rattle.cluster_runs.specs.Machine.{Machine, Site, End, app_state}
use Rattle.cluster_runs.specs.Mirrors.{Mirrors}
use Rattle.cluster_runs.specs.Moves.{Allowed}
use Rattle.cluster_invariant.specs.Ends.{ToldPlace}
use Rattle.cluster_invariant.specs.Holds.{Holds}
use Rattle.cluster_invariant.specs.Link.{LinkHolds}
use Rattle.cluster_invariant.proofs.Small.{some_kept}
use Rattle.ends_kept.proofs.TakenDown.{Taken, taken_down}
use Rattle.link_kept.specs.Laws.{EachLinkHolds}
use Rattle.link_kept.proofs.Later.{EnteredStays}
use Rattle.link_apps.proofs.FrameLinks.{links_kept_by_frames}
use Rattle.link_apps.proofs.InputLinks.{links_kept_by_others}
use Rattle.link_apps.proofs.InputPlain.{AfterInput, after_input}
use Rattle.link_apps.proofs.Learns.{Learns, f as learnt_end, all_ends, beside, begins, conn, counts_learnt, elsewhere_is, own_way, others_are}
use Rattle.link_apps.proofs.NewsBeside.{links_kept_beside_news}
use Rattle.link_apps.proofs.NewsLinks.{learns, told_news}
use Rattle.link_news.proofs.NewsPlain.{ToldActs, welcome_acts}
use Rattle.link_news.proofs.LearntSite.{LearntSite}
use Rattle.link_news.proofs.NewsSite.{link_learnt}

-- what was entered for two application servers is for one
same_app : (a b j k : ℕ) → ◌≡◌ {A = Option Entered} (Some (record { app = a; in_order = j; lost_since = false }))
    (Some (record { app = b; in_order = k; lost_since = false })) → a ≡ b
same_app a b j k is = ap whose is
  where
    whose : Option Entered → ℕ
    whose None = 0
    whose (Some e) = e.app

module _ (l : Layout) (c : CoresState) (m : Machine) (app now d : ℕ) (frame : DownFrame) (outs : MoveOuts) (written : List Act) (new : Machine)
    (h : Holds l m) (run : IsRun l m.trail) (shows : Mirrors c m) (allowed : Allowed c (App app now (app_in.Frame d frame)))
    (goes : AppGoes m app now (app_in.Frame d frame) outs written new)
    (news : is_told_new ((m.site_at d).end_at app).state.session (end_at goes.state d).session ≡ true) where
  abbrev p : Plain
  p = state_after l m.trail

  abbrev x : Site
  x = m.site_at d

  abbrev y : Site
  y = input_site app (app_in.Frame d frame) goes.app_outs goes.state goes.shown d x

  abbrev v : Server
  v = p.server_at d

  abbrev w : Server
  w = (after_all l p goes.app_outs.acts).server_at d

  alive : m.is_dead_at app ≡ false
  alive = sym (shows.dead app) ∙ allowed.alive

  abbrev taken : Taken (x.end_at app) frame
  taken = taken_down c m app d frame shows allowed.takes

  after : AfterInput l m app goes.app_outs.acts
  after = after_input l c m app now (app_in.Frame d frame) outs written new h run shows allowed goes

  learnt : Learns v x app d goes.app_outs goes.state taken.connection taken.behind
  learnt = learns l c m app now d frame outs written new h run shows allowed goes news

  abbrev f : End
  f =
      learnt_end v w x m.is_dead_at app d frame goes.app_outs goes.state goes.shown (after.orders d)
      (h.sites d).link taken.connection taken.its taken.behind taken.left news learnt

  site : LearntSite v x y app f taken.connection (ups_to d goes.app_outs.frames)
  site = record {
    beside =
        beside v w x m.is_dead_at app d frame goes.app_outs goes.state goes.shown (after.orders d)
        (h.sites d).link taken.connection taken.its taken.behind taken.left news learnt;
    ends =
        all_ends v w x m.is_dead_at app d frame goes.app_outs goes.state goes.shown (after.orders d)
        (h.sites d).link taken.connection taken.its taken.behind taken.left news learnt;
    its = taken.its;
    conn =
        ap f.connection_at (sym learnt.dial)
        ∙ conn v w x m.is_dead_at app d frame goes.app_outs goes.state goes.shown (after.orders d)
        (h.sites d).link taken.connection taken.its taken.behind taken.left news learnt;
    others =
        others_are v w x m.is_dead_at app d frame goes.app_outs goes.state goes.shown (after.orders d)
        (h.sites d).link taken.connection taken.its taken.behind taken.left news learnt;
    line_now = learnt.line;
    dial = learnt.dial;
    session = learnt.session;
    k = learnt.order;
    now = learnt.now;
    carried = learnt.carried;
    unlearnt = learnt.unlearnt;
    begins =
        begins v w x m.is_dead_at app d frame goes.app_outs goes.state goes.shown (after.orders d)
        (h.sites d).link taken.connection taken.its taken.behind taken.left news learnt;
    elsewhere =
        elsewhere_is v w x m.is_dead_at app d frame goes.app_outs goes.state goes.shown (after.orders d)
        (h.sites d).link taken.connection taken.its taken.behind taken.left news learnt;
    frames = learnt.frames;
    acks = learnt.acks;
    mine = learnt.mine;
    synced = learnt.synced;
    stays = learnt.stays;
    place = learnt.place;
  }

  -- the session is met

  known : IfSome (x.end_at app).state.session (λ s. is_some (v.session_at s.number) ≡ true)
  known =
      some_kept (λ (s : Session). ToldPlace v app s (x.end_at app).told) (λ (s : Session). is_some (v.session_at s.number) ≡ true)
      (λ s told. go told.order (v.session_at s.number) told.met) (x.end_at app).state.session ((h.sites d).ends.told app alive).place
    where
      go : (j : ℕ) (o : Option PlainSession) → IsSomeAnd o (λ t. (t.app ≡ app) × (t.told ≡ j)) → is_some o ≡ true
      go j None is = absurd is
      go j (Some t) is = refl

  acts : ToldActs l p d learnt.session.number goes.app_outs.acts
  acts =
      welcome_acts l p frame.message app d now (x.end_at app).state (begun (app_state m app)) (made goes.state goes.app_outs) refl known
      (told_news l c m app now d frame outs written new h run shows allowed goes news) learnt.session learnt.now

  still : (a : ℕ) → a ≢ app → EnteredStays a v w
  still a other = record {
    known = λ s k j low why is. after.known d a other s j is;
    met = λ s j entered none. met s j entered none (eqb s learnt.session.number) refl;
  }
    where
      met : (s j : ℕ) → v.entered_at s ≡ Some (record { app = a; in_order = j; lost_since = false }) → v.session_at s ≡ None → (b : Bool)
          → eqb s learnt.session.number ≡ b
          → w.session_at s ≡ None
      met s j entered none true at =
          let same : s ≡ learnt.session.number = eqb-true s learnt.session.number at in
          absurd (other (same_app a app j learnt.order
          (sym entered ∙ ap v.entered_at same ∙ learnt.entered (ap v.session_at (sym same) ∙ none))))
      met s j entered none false apart = acts.others s (λ same. absurd (false≢true (sym apart ∙ eq-eqb s learnt.session.number same))) ∙ none

  -- Where an end learns of an order.
  pub link_kept_by_news : LinkHolds w y m.is_dead_at
  unfolding site learnt
  link_kept_by_news =
      link_learnt l d v w x y m.is_dead_at app f taken.connection (ups_to d goes.app_outs.frames) alive (after.later d) still (after.now d) (h.sites d).order
      (h.sites d).link
      (h.sites d).ends (h.sites d).dials (h.sites d).windows site acts.met
      (counts_learnt v w x m.is_dead_at app d frame goes.app_outs goes.state goes.shown (after.orders d)
      (h.sites d).link taken.connection taken.its taken.behind taken.left news learnt)
      (own_way v w x m.is_dead_at app d frame goes.app_outs goes.state goes.shown (after.orders d)
      (h.sites d).link taken.connection taken.its taken.behind taken.left news learnt)

-- all data servers
news_kept : (l : Layout) (c : CoresState) (m : Machine) (app now d : ℕ) (frame : DownFrame) (outs : MoveOuts) (written : List Act) (new : Machine)
    → Holds l m → IsRun l m.trail → Mirrors c m → Allowed c (App app now (app_in.Frame d frame))
    → (goes : AppGoes m app now (app_in.Frame d frame) outs written new)
    → is_told_new ((m.site_at d).end_at app).state.session (end_at goes.state d).session ≡ true → EachLinkHolds l new
news_kept l c m app now d frame outs written new h run shows allowed goes news k = go (eqb k d) refl
  where
    site : Site
    site = input_site app (app_in.Frame d frame) goes.app_outs goes.state goes.shown d (m.site_at d)

    here : LinkHolds ((state_after l new.trail).server_at d) (new.site_at d) new.is_dead_at
    here =
        subst (λ (n : Machine). LinkHolds ((state_after l n.trail).server_at d) (n.site_at d) n.is_dead_at) (sym goes.after)
        (subst (λ (ws : List Act). LinkHolds ((state_after l (m.trail ++ ws)).server_at d) site m.is_dead_at) (sym goes.acts)
        (subst (λ (q : Plain). LinkHolds (q.server_at d) site m.is_dead_at) (sym (after_all-append l start m.trail goes.app_outs.acts))
        (link_kept_by_news l c m app now d frame outs written new h run shows allowed goes news)))

    go : (b : Bool) → eqb k d ≡ b → LinkHolds ((state_after l new.trail).server_at k) (new.site_at k) new.is_dead_at
    go true same = subst (λ (n : ℕ). LinkHolds ((state_after l new.trail).server_at n) (new.site_at n) new.is_dead_at) (sym (eqb-true k d same)) here
    go false other =
        links_kept_beside_news l c m app now d frame outs written new h run shows allowed goes news k (λ same. false≢true (sym other ∙ eq-eqb k d same))

-- Each input keeps it.
pub links_kept_by_inputs : (l : Layout) (c : CoresState) (m : Machine) (app now : ℕ) (input : AppIn) (outs : MoveOuts) (written : List Act) (new : Machine)
    → Holds l m → IsRun l m.trail → Mirrors c m → Allowed c (App app now input)
    → AppGoes m app now input outs written new → EachLinkHolds l new
links_kept_by_inputs l c m app now (app_in.Frame d frame) outs written new h run shows allowed goes =
    go (is_told_new ((m.site_at d).end_at app).state.session (end_at goes.state d).session) refl
  where
    go : (b : Bool) → is_told_new ((m.site_at d).end_at app).state.session (end_at goes.state d).session ≡ b → EachLinkHolds l new
    go true news = news_kept l c m app now d frame outs written new h run shows allowed goes news
    go false none = links_kept_by_frames l c m app now d frame outs written new h run shows allowed goes none
links_kept_by_inputs l c m app now (app_in.Connected d) outs written new h run shows allowed goes =
    links_kept_by_others l c m app now (app_in.Connected d) outs written new h run shows allowed goes tt
links_kept_by_inputs l c m app now (app_in.NoWay d before later) outs written new h run shows allowed goes =
    links_kept_by_others l c m app now (app_in.NoWay d before later) outs written new h run shows allowed goes tt
links_kept_by_inputs l c m app now (app_in.Broken d) outs written new h run shows allowed goes =
    links_kept_by_others l c m app now (app_in.Broken d) outs written new h run shows allowed goes tt
links_kept_by_inputs l c m app now (app_in.Join d) outs written new h run shows allowed goes =
    links_kept_by_others l c m app now (app_in.Join d) outs written new h run shows allowed goes tt
links_kept_by_inputs l c m app now app_in.Tick outs written new h run shows allowed goes =
    links_kept_by_others l c m app now app_in.Tick outs written new h run shows allowed goes tt
