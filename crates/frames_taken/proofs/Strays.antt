-- No frame that comes to an application server is stray.
use Rattle.std.proofs.Common.{◌≡◌, ◌≤◌, ◌<◌, ◌⊎◌, inl, inr, ℕ, zero, suc, Bool, true, false, List, [], ◌∷◌, drop, length, Option, None, refl, sym, ◌∙◌, ap, subst, arith, Result, Err, Ok, le-leb}
use Rattle.std.specs.Prelude.{◌||◌, nat_lt, nat_le, take, unwrap_or}
use Rattle.std.proofs.lemmas.List.{get_or-set_same}
use Rattle.plain_orders.specs.declared.act.Act.TheVariants.{Lose}
use Rattle.plain_orders.specs.declared.refused.LinkName.TheVariants as names
use Rattle.plain_orders.specs.declared.causes.Loss.TheVariants as losses
use Rattle.app_job.specs.declared.reason.Reason.TheVariants as reasons
use Rattle.std.specs.List.{AllByRecursion}
use Rattle.std.proofs.lemmas.Bool.{false≢true, ltb-true, or_cases, leb-true}
use Rattle.plain_orders.specs.declared.act.Act.{Act}
use Rattle.plain_orders.specs.declared.entry.Entry.{Entry}
use Rattle.plain_orders.specs.declared.layout.Layout.{Layout}
use Rattle.plain_runs.specs.Plain.{Server, order_at}
use Rattle.plain_runs.specs.Run.{IsRun, state_after}
use Rattle.subscript_keys.specs.declared.run.Run.{Run}
use Rattle.block_bytes.specs.Blocks.{IsBlockOf}
use Rattle.link_window.specs.declared.window.Taken.{Taken}
use Rattle.link_window.specs.declared.window.Taken.TheVariants.{Fresh, Repeat}
use Rattle.link_window.specs.declared.window.WindowError.{WindowError}
use Rattle.ecp_messages.specs.declared.down.Down.{Down}
use Rattle.ecp_messages.specs.declared.down.Down.TheVariants.{Welcome, Reset, Block, Drop, Ack, Grant, Answer, Normal, Bare}
use Rattle.ecp_messages.specs.declared.down.DownFrame.{DownFrame}
use Rattle.ecp_messages.specs.declared.front.Front.{Front}
use Rattle.end_words.specs.Windows.{answers, resent}
use Rattle.app_rules.specs.declared.app_in.AppIn.TheVariants as app_in
use Rattle.app_rules.specs.declared.line.Line.{Line}
use Rattle.app_rules.specs.declared.line.Line.TheVariants.{Apart, Trying, Greeting, Asking, Joined}
use Rattle.app_rules.specs.AppState.{AppEnd, Session, no_end, no_session}
use Rattle.app_rules.specs.Downs.{bares_joined, HasNoRun, TakesAck, TakesBare, TakesFrame, TakesHeaded, TakesNumbered, falls, joined, settled}
use Rattle.app_rules.specs.Losing.{line_after_loss, loses, without_session}
use Rattle.app_rules.specs.Welcoming.{IsNoWelcome, TakesWelcome, greatest, told_puts}
use Rattle.app_rules.specs.Works.{Sofar, begun, body_of, cuts, end_at, writes, is_joined, session_at, session_of, synced_up}
use Rattle.cluster_runs.specs.declared.move_outs.MoveOuts.{MoveOuts}
use Rattle.cluster_runs.specs.declared.moves.Move.TheVariants.{App}
use Rattle.cluster_runs.specs.CoresState.{CoresState}
use Rattle.plain_orders.proofs.Places.{counts_rise}
use Rattle.ends_kept.proofs.TablesMoves.{app_may}
use Rattle.cluster_runs.specs.Goes.{AppGoes}
use Rattle.cluster_runs.specs.Machine.{Machine, Site, End, app_state}
use Rattle.cluster_runs.specs.Mirrors.{Mirrors}
use Rattle.cluster_runs.specs.Moves.{Allowed}
use Rattle.cluster_runs.specs.Sent.{Lane}
use Rattle.cluster_invariant.specs.Coherence.{BlockHolds, BlocksHold, IsHeader, IsRun as IsAnyRun, RisingFrom, front_of}
use Rattle.cluster_invariant.specs.Fronts.{last_front}
use Rattle.cluster_invariant.specs.Holds.{Holds}
use Rattle.cluster_invariant.specs.Link.{AskedFirst, GreetedFirst, fits_down}
use Rattle.cluster_invariant.specs.Words.{has_wire, is_reset_down, stays_at}
use Rattle.ends_kept.proofs.NextDown.{HasNumber}
use Rattle.ends_kept.proofs.TakenDown.{Taken as TakenOn}
use Rattle.frames_taken.specs.Laws.{IsTaken, length_said}
use Rattle.frames_taken.proofs.Awaited.{Asks, Resets, asks, greets, joined as joined_has, resets}
use Rattle.frames_taken.proofs.AtEnd as at_end
use Rattle.frames_taken.proofs.Cuts.{again_cuts, all_cuts, delivers_cuts, settled_cuts, unless_cuts}

-- headers

-- the next message's header isn't at a smaller length than the last one's
rising_next : (f : Front) (n : ℕ) (ms : List Down) (m : Down) (rest : List Down) → RisingFrom f.n ms → drop n ms ≡ m ∷ rest → (last_front f (take n ms)).n ≤ (front_of m).n
rising_next f zero [] m rest rises is = absurd cc
rising_next f zero (x ∷ ms) m rest rises is = subst (λ (y : Down). f.n ≤ (front_of y).n) (head is) rises.0
  where
    head : x ∷ ms ≡ m ∷ rest → x ≡ m
    head is = cc
rising_next f (suc n) [] m rest rises is = absurd cc
rising_next f (suc n) (x ∷ ms) m rest rises is = rising_next (front_of x) n ms m rest rises.1 is

-- what holds of all holds of the next
all_next : {X : Type 0} (P : X → Type 0) (n : ℕ) (xs : List X) (x : X) (rest : List X) → AllByRecursion P xs → drop n xs ≡ x ∷ rest → P x
all_next P zero [] x rest all is = absurd cc
all_next P zero (y ∷ ys) x rest all is = subst P (head is) all.0
  where
    head : y ∷ ys ≡ x ∷ rest → y ≡ x
    head is = cc
all_next P (suc n) [] x rest all is = absurd cc
all_next P (suc n) (y ∷ ys) x rest all is = all_next P n ys x rest all.1 is

-- a Block that was put has a run
block_next : (es : List Entry) (n : ℕ) (ms : List Down) (front : Front) (block : List ℕ) (rest : List Down) → BlocksHold es IsAnyRun ms → drop n ms ≡ Block front block ∷ rest
    → (run : Run) × IsBlockOf run block
block_next es zero [] front block rest hold is = absurd cc
block_next es zero (m ∷ ms) front block rest hold is = go (subst (λ (y : Down). BlocksHold es IsAnyRun (y ∷ ms)) (head is) hold)
  where
    head : m ∷ ms ≡ Block front block ∷ rest → m ≡ Block front block
    head is = cc

    go : BlockHolds es IsAnyRun front.n block ms × BlocksHold es IsAnyRun ms → (run : Run) × IsBlockOf run block
    go h = (h.0.run, h.0.its)
block_next es (suc n) [] front block rest hold is = absurd cc
block_next es (suc n) (m ∷ ms) front block rest hold is = block_next es n ms front block rest (behind m hold) is
  where
    behind : (m : Down) → BlocksHold es IsAnyRun (m ∷ ms) → BlocksHold es IsAnyRun ms
    behind (Welcome session epoch kept f taken) h = h
    behind (Reset session at) h = h
    behind (Block f bytes) h = h.1
    behind (Drop f lo hi) h = h
    behind (Ack f) h = h
    behind (Grant f ticket at) h = h
    behind (Answer f about job number at sum) h = h
    behind (Normal f) h = h
    behind Bare h = h

module _ (l : Layout) (c : CoresState) (m : Machine) (app now d : ℕ) (frame : DownFrame) (outs : MoveOuts) (written : List Act) (new : Machine)
    (h : Holds l m) (run : IsRun l m.trail) (shows : Mirrors c m) (allowed : Allowed c (App app now (app_in.Frame d frame)))
    (goes : AppGoes m app now (app_in.Frame d frame) outs written new) (below : length_said frame.message < greatest) where
  abbrev b : Sofar
  b = begun (app_state m app)

  abbrev v : Server
  v = (state_after l m.trail).server_at d

  abbrev x : Site
  x = m.site_at d

  abbrev e : End
  e = x.end_at app

  abbrev At : Type 0
  At = at_end.At l c m app now d frame h shows allowed

  abbrev IsHas : Type 0
  IsHas = at_end.IsHas l c m app now d frame h shows allowed

  abbrev alive : m.is_dead_at app ≡ false
  alive = at_end.alive l c m app now d frame h shows allowed

  abbrev same_end : end_at b.state d ≡ e.state
  same_end = at_end.same_end l c m app now d frame h shows allowed

  abbrev on : TakenOn e frame
  on = at_end.on l c m app now d frame h shows allowed

  abbrev wired : has_wire e.state.line ≡ true
  wired = at_end.wired l c m app now d frame h shows allowed

  abbrev at_of : HasNumber frame.message → At
  at_of = at_end.at_of l c m app now d frame h shows allowed

  -- it doesn't fall behind the front
  ahead : (f : Front) → HasNumber frame.message → f ≡ front_of frame.message → f.n < greatest → falls (session_at b.state d) f ≡ true → ⊥
  ahead f has its low is = go (at_of has)
    where
      go : At → ⊥
      go a =
          three (or_cases (nat_lt f.n s.n || nat_lt f.w s.w) (nat_le greatest f.n) (subst (λ (q : Session). falls q f ≡ true) (ap session_of same_end ∙ ap (λ (o : Option Session). unwrap_or o no_session) a.its) is))
        where
          s : Session
          s = a.session

          lane : Lane
          lane = x.lane_at s.number a.place.order

          header : IsHeader (order_at v a.place.order) (stays_at v a.place.order) s.number f
          header = subst (IsHeader (order_at v a.place.order) (stays_at v a.place.order) s.number) (sym its) (all_next (λ (w : Down). IsHeader (order_at v a.place.order) (stays_at v a.place.order) s.number (front_of w)) lane.down_taken lane.down frame.message a.next.rest a.coherent.headers a.next.its)

          rises : s.n ≤ f.n
          rises = omega (arith, a.front.at, ap (λ (g : Front). g.n) its, rising_next lane.front lane.down_taken lane.down frame.message a.next.rest a.coherent.rising a.next.its)

          counts : s.w ≤ f.w
          counts = omega (arith, a.front.counted, header.counted, counts_rise 0 s.n f.n (order_at v a.place.order) s.number rises)

          two : (nat_lt f.n s.n ≡ true) ⊎ (nat_lt f.w s.w ≡ true) → ⊥
          two (inl n) = absurd (omega (arith, rises, ltb-true f.n s.n n))
          two (inr w) = absurd (omega (arith, counts, ltb-true f.w s.w w))

          three : ((nat_lt f.n s.n || nat_lt f.w s.w) ≡ true) ⊎ (nat_le greatest f.n ≡ true) → ⊥
          three (inl behind) = two (or_cases (nat_lt f.n s.n) (nat_lt f.w s.w) behind)
          three (inr n) = absurd (omega (arith, low, leb-true greatest f.n n))

  -- a Block has a run
  has_run : (w : Down) → frame.message ≡ w → HasNoRun w → ⊥
  has_run (Welcome session epoch kept front taken) same none = none
  has_run (Reset session at) same none = none
  has_run (Block front block) same none = go (at_of (subst HasNumber (sym same) tt))
    where
      go : At → ⊥
      go a =
          let r : (run : Run) × IsBlockOf run block =
          block_next (order_at v a.place.order) (x.lane_at a.session.number a.place.order).down_taken (x.lane_at a.session.number a.place.order).down front block a.next.rest a.coherent.blocks
          (a.next.its ∙ ap (λ (y : Down). y ∷ a.next.rest) same) in
          none.none r.0 r.1
  has_run (Drop front lo hi) same none = none
  has_run (Ack front) same none = none
  has_run (Grant front ticket at) same none = none
  has_run (Answer front about job number at sum) same none = none
  has_run (Normal front) same none = none
  has_run Bare same none = none

  -- what is taken cuts nothing

  abbrev Uncut : Sofar → Type 0
  Uncut z = z.outs.cuts ≡ []

  numbered_uncut : (f : Front) → HasNumber frame.message → f ≡ front_of frame.message → f.n < greatest → (r : Result Taken WindowError)
      → answers body_of (session_at b.state d).window frame.seq frame.ack ≡ r → (z : Sofar) → TakesNumbered r b d now frame f z → Uncut z
  numbered_uncut f has its low (Ok Fresh) says z (inl t) = delivers_cuts frame.message d now _ z t.made
  numbered_uncut f has its low (Ok Fresh) says z (inr t) = absurd (by t.why)
    where
      by : (falls (session_at b.state d) f ≡ true) ⊎ HasNoRun frame.message → ⊥
      by (inl behind) = ahead f has its low behind
      by (inr none) = has_run frame.message refl none
  numbered_uncut f has its low (Ok Repeat) says z t = ap (λ (y : Sofar). y.outs.cuts) t
  numbered_uncut f has its low (Err why) says z t = absurd (at_end.numbered_fits l c m app now d frame h shows allowed has why says)

  headed_uncut : (f : Front) → HasNumber frame.message → f ≡ front_of frame.message → f.n < greatest → (z : Sofar) → TakesHeaded (joined b d) b d now frame f z → Uncut z
  headed_uncut f has its low z t = go (joined b d) (ap (λ (y : AppEnd). is_joined y.line) same_end ∙ ap is_joined (at_end.line_is l c m app now d frame h shows allowed (inl has))) t
    where
      go : (j : Bool) → j ≡ true → TakesHeaded j b d now frame f z → Uncut z
      go true is t = numbered_uncut f has its low (answers body_of (session_at b.state d).window frame.seq frame.ack) refl z t
      go false is t = absurd (false≢true is)

  bare_uncut : frame.message ≡ Bare → (z : Sofar) → TakesBare (joined b d) b d now frame.ack z → Uncut z
  bare_uncut same z t = go (joined b d) t
    where
      by : (r : Result Taken WindowError) → answers body_of (session_at b.state d).window 0 frame.ack ≡ r → TakesAck r b d now frame.ack z → Uncut z
      by (Ok answer) says t = ap (λ (y : Sofar). y.outs.cuts) t
      by (Err why) says t = absurd (at_end.bare_fits_it l c m app now d frame h shows allowed same why says)

      go : (j : Bool) → TakesBare j b d now frame.ack z → Uncut z
      go true t = by (answers body_of (session_at b.state d).window 0 frame.ack) refl t
      go false t = ap (λ (y : Sofar). y.outs.cuts) t

  -- a Welcome is one that may come
  welcome_comes : (session epoch kept : ℕ) (front : Front) (taken : ℕ) → frame.message ≡ Welcome session epoch kept front taken → IsNoWelcome b d session epoch front → ⊥
  welcome_comes session epoch kept front taken says stray = go e.state.line refl wired
    where
      low : front.n < greatest
      low = subst (λ (y : Down). length_said y < greatest) says below

      here : (line : Line) → e.state.line ≡ line → (end_at b.state d).line ≡ line
      here line is = ap (λ (y : AppEnd). y.line) same_end ∙ is

      greeted : e.state.line ≡ Greeting → GreetedFirst v x app e.state.told on.connection (Welcome session epoch kept front taken) → ⊥
      greeted is w = stray.no_new (here Greeting is) (subst (λ (y : AppEnd). y.told < session) (sym same_end) w.unmet.above) low

      asked : e.state.line ≡ Asking → Asks v x m.is_dead_at app frame alive (h.sites d).link (h.sites d).ends on.connection on.its on.behind on.left wired → ⊥
      asked is a = by (subst (AskedFirst v x a.session a.order on.connection on.behind) says a.first)
        where
          its : session_at b.state d ≡ a.session
          its = ap session_of same_end ∙ ap (λ (o : Option Session). unwrap_or o no_session) a.its

          no : a.session.number ≡ session → a.session.epoch ≤ epoch → ⊥
          no same at =
              stray.no_old (record { asking = here Asking is; its = ap (λ (q : Session). q.number) its ∙ same; below = low })
              (ap (λ (q : Session). nat_le q.epoch epoch) its ∙ le-leb a.session.epoch epoch at)

          by : AskedFirst v x a.session a.order on.connection on.behind (Welcome session epoch kept front taken) → ⊥
          by (inl w) = no (sym w.number) (omega (arith, w.epoch_told))
          by (inr w) = no (sym w.number) (omega (arith, w.told_before))

      joins : e.state.line ≡ Joined → ⊥
      joins is = by (joined_has v x m.is_dead_at app frame alive (h.sites d).link (h.sites d).ends on.connection on.its on.behind on.left wired is (ap is_reset_down says))
        where
          by : IsHas → ⊥
          by k = absurd (false≢true (sym (ap (λ (y : Down). fits_down y frame.seq) says) ∙ k.first.first.kind))

      go : (line : Line) → e.state.line ≡ line → has_wire line ≡ true → ⊥
      go Apart is w = absurd (false≢true w)
      go Trying is w = absurd (false≢true w)
      go Greeting is w =
          greeted is (subst (GreetedFirst v x app e.state.told on.connection) says
          (greets v x m.is_dead_at app frame alive (h.sites d).link (h.sites d).ends on.connection on.its on.behind on.left wired is))
      go Asking is w = asked is (asks v x m.is_dead_at app frame alive (h.sites d).link (h.sites d).ends on.connection on.its on.behind on.left wired is)
      go Joined is w = joins is

  welcome_uncut : (session epoch kept : ℕ) (front : Front) (taken : ℕ) → frame.message ≡ Welcome session epoch kept front taken → (z : Sofar)
      → TakesWelcome b d now session epoch kept front taken z → Uncut z
  welcome_uncut session epoch kept front taken says z (inl t) = ap (λ (y : Sofar). y.outs.cuts) t.after
  welcome_uncut session epoch kept front taken says z (inr (inl t)) =
      ap (λ (y : Sofar). y.outs.cuts) t.after ∙ unless_cuts (session_at b.state d).normal_due d now _ ∙ again_cuts d (resent (session_at b.state d).window taken) _
  welcome_uncut session epoch kept front taken says z (inr (inr (inl t))) =
      ap (λ (y : Sofar). y.outs.cuts) t.after ∙ all_cuts d (told_puts front.w (synced_up front.s (session_at b.state d))) _
  welcome_uncut session epoch kept front taken says z (inr (inr (inr t))) = absurd (welcome_comes session epoch kept front taken says t.stray)

  frame_uncut : (w : Down) → frame.message ≡ w → is_reset_down w ≡ false → length_said w < greatest → (z : Sofar) → TakesFrame w b d now frame z → Uncut z
  frame_uncut (Welcome session epoch kept front taken) same keeps low z t = welcome_uncut session epoch kept front taken same z t
  frame_uncut (Reset session at) same keeps low z t = absurd (false≢true (sym keeps))
  frame_uncut (Block front block) same keeps low z t = headed_uncut front (subst HasNumber (sym same) tt) (sym (ap front_of same)) low z t
  frame_uncut (Drop front lo hi) same keeps low z t = headed_uncut front (subst HasNumber (sym same) tt) (sym (ap front_of same)) low z t
  frame_uncut (Ack front) same keeps low z t = headed_uncut front (subst HasNumber (sym same) tt) (sym (ap front_of same)) low z t
  frame_uncut (Grant front ticket at) same keeps low z t = headed_uncut front (subst HasNumber (sym same) tt) (sym (ap front_of same)) low z t
  frame_uncut (Answer front about job number at sum) same keeps low z t = headed_uncut front (subst HasNumber (sym same) tt) (sym (ap front_of same)) low z t
  frame_uncut (Normal front) same keeps low z t = headed_uncut front (subst HasNumber (sym same) tt) (sym (ap front_of same)) low z t
  frame_uncut Bare same keeps low z t = bare_uncut same z t

  -- a Reset loses the session

  there : d < length b.state.ends
  there = (app_may c m app (app_in.Frame d frame) shows allowed.known allowed.may).known

  none_joined : (line : Line) → is_joined (line_after_loss line) ≡ false
  none_joined Apart = refl
  none_joined Trying = refl
  none_joined Greeting = refl
  none_joined Asking = refl
  none_joined Joined = refl

  lost_end : (at : ℕ) (z : Sofar) → z ≡ cuts d (loses d names.Recovery (reasons.Reset at) (writes (Lose b.state.app d (losses.Reset at)) b))
      → end_at z.state d ≡ without_session names.Recovery (reasons.Reset at) (end_at b.state d)
  lost_end at z is = ap (λ (y : Sofar). end_at y.state d) is ∙ get_or-set_same b.state.ends d (without_session names.Recovery (reasons.Reset at) (end_at b.state d)) no_end there

  settled_lost : (at : ℕ) (z : Sofar) → end_at z.state d ≡ without_session names.Recovery (reasons.Reset at) (end_at b.state d) → (end_at (settled d z).state d).session ≡ None
  settled_lost at z is =
      ap (λ (j : Bool). (end_at (bares_joined j d z).state d).session) (ap (λ (y : AppEnd). is_joined y.line) is ∙ none_joined (end_at b.state d).line)
      ∙ ap (λ (y : AppEnd). y.session) is

  reset_lost : (session at : ℕ) → frame.message ≡ Reset session at → (z : Sofar) → TakesFrame (Reset session at) b d now frame z → (end_at (settled d z).state d).session ≡ None
  reset_lost session at says z (inl t) = settled_lost at z (lost_end at z t.after)
  reset_lost session at says z (inr t) =
      absurd (by (resets v x m.is_dead_at app frame alive (h.sites d).link (h.sites d).ends on.connection on.its on.behind on.left wired session at says))
    where
      by : Resets v x m.is_dead_at app frame alive (h.sites d).link (h.sites d).ends on.connection on.its on.behind on.left wired session → ⊥
      by r =
          t.stray (ap (λ (y : AppEnd). y.link) same_end ∙ r.recovering)
          (ap (λ (y : AppEnd). (session_of y).number) same_end ∙ ap (λ (o : Option Session). (unwrap_or o no_session).number) r.has ∙ r.same)

  frame_lost : (w : Down) → frame.message ≡ w → is_reset_down w ≡ true → (z : Sofar) → TakesFrame w b d now frame z → (end_at (settled d z).state d).session ≡ None
  frame_lost (Welcome session epoch kept front taken) same is z t = absurd (false≢true is)
  frame_lost (Reset session at) same is z t = reset_lost session at same z t
  frame_lost (Block front block) same is z t = absurd (false≢true is)
  frame_lost (Drop front lo hi) same is z t = absurd (false≢true is)
  frame_lost (Ack front) same is z t = absurd (false≢true is)
  frame_lost (Grant front ticket at) same is z t = absurd (false≢true is)
  frame_lost (Answer front about job number at sum) same is z t = absurd (false≢true is)
  frame_lost (Normal front) same is z t = absurd (false≢true is)
  frame_lost Bare same is z t = absurd (false≢true is)

  -- Each frame is taken.
  pub taken_is : IsTaken m app now d frame outs written new goes
  taken_is = record {
    kept = λ keeps.
        ap (λ (y : Sofar). y.outs.cuts) goes.steps.after ∙ settled_cuts d goes.steps.taken
        ∙ frame_uncut frame.message refl keeps below goes.steps.taken goes.steps.takes;
    lost = λ resets.
        ap (λ (y : Sofar). (end_at y.state d).session) goes.steps.after ∙ frame_lost frame.message refl resets goes.steps.taken goes.steps.takes;
  }
