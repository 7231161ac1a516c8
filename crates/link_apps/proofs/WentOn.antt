-- What is on its way as the Welcome of the epoch that was told comes: the session goes on, and sends again what wasn't taken.
use Rattle.std.proofs.Common.{◌≡◌, ◌≤◌, inl, inr, ℕ, zero, suc, ◌+◌, ◌-◌, max, Bool, true, false, ◌==◌, if◌then◌else◌, List, [], ◌∷◌, ◌++◌, length, drop, map, Option, Some, None, is_some, refl, sym, ◌∙◌, ap, subst, arith}
use Rattle.std.specs.Prelude.{IfSome, IsSomeAnd, nat_lt}
use Rattle.std.specs.List.{AllByRecursion}
use Rattle.std.proofs.lemmas.Bool.{false≢true, ltb-true}
use Rattle.std.proofs.lemmas.List.{append-nil, drop-drop, length-drop}
use Rattle.std.proofs.Math.Seq.{drop-nil}
use Rattle.plain_orders.specs.declared.layout.Times.{Times}
use Rattle.plain_runs.specs.Plain.{Server, order_at}
use Rattle.link_states.specs.declared.app_link.AppLink.{AppLink}
use Rattle.link_states.specs.declared.app_link.AppLink.TheVariants.{NotConnected, Normal as NormalLink, Trouble, Recovery}
use Rattle.ecp_messages.specs.declared.up.Up.{Up}
use Rattle.ecp_messages.specs.declared.up.UpFrame.{UpFrame}
use Rattle.ecp_messages.specs.declared.down.Down.TheVariants.{Welcome}
use Rattle.ecp_messages.specs.declared.down.DownFrame.{DownFrame}
use Rattle.ecp_messages.specs.declared.front.Front.{Front}
use Rattle.end_words.specs.Windows.{numbered_from, resent}
use Rattle.app_rules.specs.declared.app_in.AppIn.{AppIn}
use Rattle.app_rules.specs.declared.app_in.AppIn.TheVariants as app_in
use Rattle.app_rules.specs.declared.app_outs.AppOuts.{AppOuts}
use Rattle.app_rules.specs.declared.line.Line.{Line}
use Rattle.app_rules.specs.declared.line.Line.TheVariants.{Asking}
use Rattle.app_rules.specs.AppState.{AppState, AppEnd, Session}
use Rattle.app_rules.specs.AppStep.{made}
use Rattle.app_rules.specs.Looks.{Shown}
use Rattle.app_rules.specs.Works.{begun, end_at, synced_up}
use Rattle.data_rules.specs.DataState.{DataState}
use Rattle.cluster_runs.specs.Connections.{at_number, down_taken, knows, ups_to, with_ups}
use Rattle.cluster_runs.specs.Goes.{input_site, message_from}
use Rattle.cluster_runs.specs.Machine.{Site, End}
use Rattle.cluster_runs.specs.Sent.{Lane, Connection, FirstTaken}
use Rattle.cluster_invariant.specs.Dials.{ConnectionIs, DialsAre, KnowsStill, first_frame}
use Rattle.cluster_invariant.specs.Ends.{EndsAre, stands}
use Rattle.cluster_invariant.specs.Link.{AskedFirst, AskedWay, DownBy, DownWay, DownWhole, LinkHolds, SameWelcome, UpWay, WholeIf, WindowIs, WithSession, is_in_recovery, is_joined_on}
use Rattle.cluster_invariant.specs.Words.{downs_left, numbered_behind, numbered_ups, stays_at, ups_left}
use Rattle.cluster_invariant.proofs.AllLists.{all_joined}
use Rattle.cluster_invariant.proofs.Small.{of_some, some_kept}
use Rattle.cluster_steps.proofs.AppSites.{SameBeside}
use Rattle.cluster_steps.proofs.EndSteps.{bare_frames, session_put}
use Rattle.cluster_steps.proofs.FrameEnds.{WentOn, settled_link}
use Rattle.cluster_steps.proofs.JobEnds.{up_frame}
use Rattle.link_apps.proofs.ConnectedLinks.{lane_rests}
use Rattle.link_apps.proofs.FrameTook.{acks_bare, none_bare}
use Rattle.link_apps.proofs.JoinedNow.{JoinedNow}
use Rattle.link_apps.proofs.OwnPlace.{OwnPlace, at_place, own_place}
use Rattle.link_apps.proofs.PutSteps.{own_after}
use Rattle.link_apps.proofs.PutsUp.{acks_frames, numbered_frames, numbered_ups_joined}
use Rattle.link_apps.proofs.RestWays.{LaneRests, counts_rest, put_of}
use Rattle.link_apps.proofs.TookDown.{way_taken, whole_taken}
use Rattle.link_apps.proofs.TakenSites.{EndTakes, beside_is, conn_is, elsewhere_is, ends_are, lane_is, others_are}

-- nothing but the first frame was put on a connection on which no Welcome came
no_numbered : (n : ℕ) (f : UpFrame) (ups : List UpFrame) → f.seq ≡ 0 → ups ≡ f ∷ [] → numbered_ups (drop n ups) ≡ []
no_numbered n f ups none is = ap (λ (xs : List UpFrame). numbered_ups (drop n xs)) is ∙ go n
  where
    go : (n : ℕ) → numbered_ups (drop n (f ∷ [])) ≡ []
    go zero = ap (λ (k : ℕ). if k == 0 then [] else (k, f.message) ∷ []) none
    go (suc k) = ap numbered_ups (drop-nil k)

-- what is sent again to an end that took so many, of a window whose messages were put
sent_again : (acked taken came : ℕ) (waiting put : List Up) → waiting ≡ drop acked put → acked ≤ taken → taken ≤ length put
    → numbered_ups (map (up_frame came) (if nat_lt (acked + length waiting) taken then [] else numbered_from (max taken acked) (drop (taken - acked) waiting))) ≡ numbered_behind taken put
sent_again acked taken came waiting put is low within = go (nat_lt (acked + length waiting) taken) refl
  where
    go : (b : Bool) → nat_lt (acked + length waiting) taken ≡ b
        → numbered_ups (map (up_frame came) (if b then [] else numbered_from (max taken acked) (drop (taken - acked) waiting))) ≡ numbered_behind taken put
    go true past =
        absurd (omega (arith, ltb-true (acked + length waiting) taken past, ap (λ (xs : List Up). length xs) is, length-drop acked put, low, within))
    go false at =
        numbered_frames came (max taken acked) (drop (taken - acked) waiting)
        ∙ ap (λ (k : ℕ). numbered_from k (drop (taken - acked) waiting)) (omega (arith, low))
        ∙ ap (λ (xs : List Up). numbered_from taken (drop (taken - acked) xs)) is
        ∙ ap (numbered_from taken) (drop-drop (taken - acked) acked put)
        ∙ ap (λ (k : ℕ). numbered_from taken (drop k put)) (omega (arith, low))

-- an end that asks is in recovery
pub asks_recovering : (link : AppLink) → stands link Asking ≡ true → link ≡ Recovery
asks_recovering NotConnected is = absurd (false≢true is)
asks_recovering NormalLink is = absurd (false≢true is)
asks_recovering (Trouble broke try_at) is = absurd (false≢true is)
asks_recovering Recovery is = refl

-- and stays so where Normal is awaited
settled_recovers : (due : Bool) (times : Times) (now : ℕ) (link : AppLink) → link ≡ Recovery → is_in_recovery (settled_link due times now link) ≡ due
settled_recovers due times now link is = ap (λ (z : AppLink). is_in_recovery (settled_link due times now z)) is ∙ go due
  where
    go : (due : Bool) → is_in_recovery (settled_link due times now Recovery) ≡ due
    go true = refl
    go false = refl

module _ (v : Server) (x : Site) (dead : ℕ → Bool) (app d now : ℕ) (frame : DownFrame) (a : AppState) (outs : AppOuts) (state : AppState) (shown : ℕ → Shown)
    (alive : dead app ≡ false) (link : LinkHolds v x dead) (are : EndsAre v x dead) (dials : DialsAre v x dead) (c : Connection)
    (its : (x.end_at app).connection_at (x.end_at app).state.dial ≡ Some c) (rest : List DownFrame) (left : downs_left c ≡ frame ∷ rest)
    (session epoch kept : ℕ) (front : Front) (taken : ℕ) (message : frame.message ≡ Welcome session epoch kept front taken)
    (went : WentOn d now session epoch front taken (x.end_at app).state (begun a) (made state outs)) where
  abbrev e : End
  e = x.end_at app

  abbrev t : AppEnd
  t = end_at state d

  abbrev input : AppIn
  input = app_in.Frame d frame

  abbrev y : Site
  y = input_site app input outs state shown d x

  abbrev s : Session
  s = went.session

  place : OwnPlace v x app s
  place = own_place v x dead app alive link are s went.its

  abbrev k : ℕ
  k = place.k

  asked : AskedWay v x s k c (frame ∷ rest)
  asked =
      at_place (λ q j. AskedWay v x q j c (frame ∷ rest)) v x app s went.its place
      (subst (λ (fs : List DownFrame). WithSession e.state.session e.told (λ q j. AskedWay v x q j c fs)) left
      (subst (λ (line : Line). DownBy line v x app e c) went.asking (of_some (DownBy e.state.line v x app e) (e.connection_at e.state.dial) c its (link.apps app alive).down)))

  -- the Welcome says what is so of the session in the order that it was told of
  same : SameWelcome v x s k c session epoch front taken rest
  same = go (subst (AskedFirst v x s k c rest) message asked.1)
    where
      go : AskedFirst v x s k c rest (Welcome session epoch kept front taken) → SameWelcome v x s k c session epoch front taken rest
      go (inl w) = w
      go (inr w) = absurd (omega (arith, w.told_before, went.same_epoch))

  abbrev us : List UpFrame
  us = map (up_frame s.window.taken) (resent s.window taken) ++ bare_frames went.bare s.window.taken

  abbrev u : Session
  u = session_put went.since [] (synced_up front.s s)

  abbrev pub end_went : End
  end_went = own_after (with_ups us) t (shown d) (at_number e.state.dial down_taken e)

  abbrev pub went_takes : EndTakes d e.state outs state
  went_takes = record {
    us = us;
    was = s;
    session = u;
    has = went.its;
    now = ap (λ (z : AppEnd). z.session) went.here.end;
    dial = ap (λ (z : AppEnd). z.dial) went.here.end;
    epoch = refl;
    frames = went.here.frames;
    cuts = went.here.cuts;
  }

  abbrev lane : Lane
  lane = x.lane_at s.number k

  abbrev lane_now : Lane
  lane_now = y.lane_at s.number k

  rests : LaneRests lane lane_now
  rests =
      subst (LaneRests lane) (sym (lane_is x app d frame outs state shown c its went_takes k place.told))
      (lane_rests (message_from d input) e.state.dial s u (ups_to d outs.frames) lane
      (record { number = refl; epoch = refl; acked = refl; waiting = append-nil s.window.waiting; taken = refl }) place.window.taken)

  same_lane : x.lane_at session k ≡ lane
  same_lane = ap (λ (n : ℕ). x.lane_at n k) same.number

  counted : taken ≡ lane.up_taken
  counted = same.counted ∙ ap (λ (l : Lane). l.up_taken) same_lane

  -- upwards

  on : ConnectionIs v x app e.state.dial c
  on = of_some (ConnectionIs v x app e.state.dial) (e.connection_at e.state.dial) c its ((dials.pairs app).each e.state.dial)

  none_more : drop 1 c.ups ≡ []
  none_more = go (subst (λ (line : Line). KnowsStill line (knows e) (e.connection_at e.state.dial)) went.asking (dials.pairs app).still)
    where
      go : IsSomeAnd (e.connection_at e.state.dial) (λ z. (z.knew ≡ knows e) × (drop 1 z.ups ≡ [])) → drop 1 c.ups ≡ []
      go is = (subst (λ (o : Option Connection). IsSomeAnd o (λ z. (z.knew ≡ knows e) × (drop 1 z.ups ≡ []))) its is).1

  ups_none : numbered_ups (ups_left c) ≡ []
  ups_none = no_numbered c.ups_taken (first_frame v app e.state.dial c.knew) c.ups refl (on.first ∙ ap (λ (xs : List UpFrame). first_frame v app e.state.dial c.knew ∷ xs) none_more)

  again : numbered_ups us ≡ numbered_behind lane.up_taken lane.up
  again =
      numbered_ups_joined (map (up_frame s.window.taken) (resent s.window taken)) (bare_frames went.bare s.window.taken)
      ∙ ap (λ (xs : List (ℕ × Up)). numbered_ups (map (up_frame s.window.taken) (resent s.window taken)) ++ xs) (none_bare went.bare s.window.taken)
      ∙ append-nil (numbered_ups (map (up_frame s.window.taken) (resent s.window taken)))
      ∙ sent_again s.window.acked taken s.window.taken s.window.waiting lane.up place.window.waiting (omega (arith, place.window.acked, counted))
      (omega (arith, counted, (link.lanes s.number k).up_taken))
      ∙ ap (λ (n : ℕ). numbered_behind n lane.up) counted

  all_again : numbered_ups (ups_left c ++ us) ≡ numbered_behind lane_now.up_taken lane_now.up
  all_again =
      numbered_ups_joined (ups_left c) us
      ∙ ap (λ (xs : List (ℕ × Up)). xs ++ numbered_ups us) ups_none
      ∙ again
      ∙ sym (ap (λ (n : ℕ). numbered_behind n lane_now.up) rests.down.up_taken ∙ ap (numbered_behind lane.up_taken) rests.up)

  begun_now : is_some lane_now.began ≡ true
  begun_now = ap is_some rests.down.began ∙ place.begun

  up_way : (b : Bool) → UpWay lane (ups_left c) b → UpWay lane_now (ups_left c ++ us) true
  up_way b way = record {
    none = λ none. absurd (false≢true (sym (ap is_some none) ∙ begun_now));
    next = ([], sym all_again ∙ sym (append-nil (numbered_ups (ups_left c ++ us))));
    whole = λ is. all_again;
    acks =
        subst (λ (n : ℕ). AllByRecursion (λ (g : UpFrame). g.ack ≤ n) (ups_left c ++ us)) (sym rests.down.down_taken)
        (all_joined (λ (g : UpFrame). g.ack ≤ lane.down_taken) (ups_left c) us way.acks
        (all_joined (λ (g : UpFrame). g.ack ≤ lane.down_taken) (map (up_frame s.window.taken) (resent s.window taken)) (bare_frames went.bare s.window.taken)
        (acks_frames s.window.taken lane.down_taken (resent s.window taken) (omega (arith, place.window.taken)))
        (acks_bare went.bare s.window.taken lane.down_taken (omega (arith, place.window.taken)))));
  }

  -- its own way

  window_now : WindowIs u.window lane_now.up lane_now.up_taken lane_now.down_taken
  window_now = record {
    waiting = append-nil s.window.waiting ∙ place.window.waiting ∙ ap (drop s.window.acked) (sym rests.up);
    acked = omega (arith, place.window.acked, rests.down.up_taken);
    taken = place.window.taken ∙ sym rests.down.down_taken;
  }

  recovers : is_in_recovery t.link ≡ s.normal_due
  recovers =
      ap (λ (z : AppEnd). is_in_recovery z.link) went.here.end
      ∙ settled_recovers s.normal_due a.times now e.state.link
      (asks_recovering e.state.link (ap (stands e.state.link) (sym went.asking) ∙ (are.tables app alive).stands))

  beside : SameBeside x y
  beside = beside_is x app d frame outs state shown c its went_takes k place.told

  whole_now : WholeIf y s.number k lane_now c rest
  whole_now at here =
      subst (λ (o : Option DataState). IfSome o (λ n. IsSomeAnd c.first (λ z. DownWhole n s.number z.conn lane_now rest))) (sym beside.node)
      (some_kept (λ (n : DataState). IsSomeAnd c.first (λ z. DownWhole n s.number z.conn lane rest))
      (λ (n : DataState). IsSomeAnd c.first (λ z. DownWhole n s.number z.conn lane_now rest)) (λ n got. each n c.first got) x.node
      (subst (λ (n : ℕ). WholeIf x n k (x.lane_at n k) c rest) same.number same.whole at (here ∙ beside.past)))
    where
      each : (n : DataState) (o : Option FirstTaken) → IsSomeAnd o (λ z. DownWhole n s.number z.conn lane rest) → IsSomeAnd o (λ z. DownWhole n s.number z.conn lane_now rest)
      each n None got = got
      each n (Some z) got = whole_taken n s.number z.conn lane lane_now rest rests.down.down rests.down.down_taken got

  -- So the session goes on.
  pub site_went : JoinedNow v x y dead app end_went c rest us
  site_went = record {
    beside = beside;
    ends = ends_are x app d frame outs state shown c its went_takes k place.told;
    its = its;
    left = sym (drop-drop 1 c.downs_taken c.downs) ∙ ap (drop 1) left;
    conn = conn_is x app d frame outs state shown c its went_takes k place.told;
    others = others_are x app d frame outs state shown c its went_takes k place.told;
    line_now = ap (λ (z : AppEnd). z.line) went.here.end;
    dial = went_takes.dial;
    told = refl;
    was = s;
    session = u;
    has = went.its;
    now = went_takes.now;
    number = refl;
    k = k;
    there = place.there;
    told_of = place.told;
    carried = same.its;
    begun = begun_now;
    lane_put = put_of lane lane_now rests;
    counts = counts_rest lane lane_now rests (link.lanes s.number k);
    elsewhere = elsewhere_is x app d frame outs state shown c its went_takes k place.told;
    window = window_now;
    up = up_way (is_joined_on (dead app) e.state e.state.dial s.number);
    down =
        subst (λ (b : Bool). DownWay (order_at v k) (stays_at v k) s.number lane_now b rest) (sym recovers)
        (way_taken (order_at v k) (stays_at v k) s.number lane lane_now s.normal_due rest rests.down.up_taken rests.down.down rests.down.down_taken
        (subst (λ (n : ℕ). DownWay (order_at v k) (stays_at v k) n (x.lane_at n k) s.normal_due rest) same.number same.way));
    whole = whole_now;
  }
