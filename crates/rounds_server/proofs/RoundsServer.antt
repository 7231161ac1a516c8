-- Each step of a data server keeps what rounds put.
use Rattle.std.proofs.Common.{◌≡◌, ◌≢◌, ◌≤◌, ◌<◌, ◌⊎◌, inl, inr, ℕ, Bool, true, false, if◌then◌else◌, List, length, Option, Some, None, is_some, refl, sym, ◌∙◌, ap, subst, arith}
use Rattle.std.specs.Prelude.{IfSome, nat_lt}
use Rattle.std.specs.List.{list_any}
use Rattle.std.proofs.lemmas.Bool.{false≢true}
use Rattle.plain_orders.specs.declared.act.Act.{Act}
use Rattle.plain_orders.specs.declared.entry.Entry.{Entry}
use Rattle.plain_orders.specs.declared.layout.Layout.{Layout}
use Rattle.plain_orders.specs.Entries.{last_epoch, live, live_session}
use Rattle.plain_orders.proofs.LiveSessions.{ordered_one_live}
use Rattle.plain_runs.specs.Plain.{Server, current, order_at}
use Rattle.plain_runs.specs.Run.{IsRun, after_all, state_after}
use Rattle.ecp_messages.specs.declared.down.Down.{Down}
use Rattle.recovery_round.specs.RoundWords.{Round}
use Rattle.end_words.specs.Windows.{fresh}
use Rattle.app_rules.specs.AppState.{Session, AppEnd}
use Rattle.data_rules.specs.DataState.{DataState}
use Rattle.data_rules.specs.Places.{epoch_place}
use Rattle.data_rules.specs.declared.data_in.DataIn.{DataIn}
use Rattle.data_rules.specs.declared.data_in.DataIn.TheVariants as data_in
use Rattle.data_rules.specs.Puts.{begun, window_of}
use Rattle.data_rules.specs.Step.{DataMay, made}
use Rattle.cluster_runs.specs.declared.move_outs.MoveOuts.{MoveOuts}
use Rattle.cluster_runs.specs.CoresState.{CoresState}
use Rattle.cluster_runs.specs.declared.moves.Move.TheVariants.{Server as ServerMove}
use Rattle.cluster_runs.specs.Goes.{ServerGoes, server_site}
use Rattle.cluster_runs.specs.Lanes.{with_data_step}
use Rattle.cluster_runs.specs.Machine.{Machine, Site}
use Rattle.cluster_runs.specs.Mirrors.{Mirrors}
use Rattle.cluster_runs.specs.Moves.{Allowed}
use Rattle.cluster_runs.specs.Sent.{Lane, Place, downs_taken}
use Rattle.cluster_invariant.specs.Holds.{Holds, SiteHolds}
use Rattle.cluster_invariant.specs.Link.{LaneCounts, NodeLink, is_window_of, WindowIs}
use Rattle.cluster_invariant.specs.Orders.{NodeOrder}
use Rattle.cluster_invariant.specs.Rounds.{LaneRound, RoundGoes, RoundOf, RoundsHold, SessionRound}
use Rattle.cluster_invariant.specs.Words.{is_normal_down, is_opened_in}
use Rattle.cluster_invariant.proofs.OrderKept.{step_site}
use Rattle.cluster_invariant.proofs.OrderMoves.{server_wrote}
use Rattle.cluster_invariant.proofs.OrderRows.{StepWrote}
use Rattle.cluster_invariant.proofs.PastOrders.{order_now}
use Rattle.cluster_invariant.proofs.PieceMay.{Coming, RoundWas, begins}
use Rattle.cluster_invariant.proofs.PiecesOfSteps.{StepFrom, step_pieces, synced_state}
use Rattle.cluster_invariant.proofs.RoundBefore.{round_before, round_same}
use Rattle.cluster_invariant.proofs.SiteMoves.{kept_at_one}
use Rattle.cluster_invariant.proofs.Written.{place_kept}
use Rattle.data_ends_kept.proofs.NodeEndsServer as ends
use Rattle.told_kept.proofs.OrdersLater.{epoch_kept, grown_later}
use Rattle.told_kept.proofs.ToldServer.{server_same}
use Rattle.told_kept.proofs.ToldStays.{OrdersLater}
use Rattle.link_kept.proofs.FitsWell.{may_close}
use Rattle.link_kept.proofs.ServesServer.{ServesAfter}
use Rattle.link_kept.proofs.ShortMoves.{told_there}
use Rattle.link_kept.proofs.WindowLists.{none_there}
use Rattle.link_kept.proofs.WindowsGo.{same_or}
use Rattle.link_kept.proofs.WindowsServer.{LanesGrow, server_lanes}
use Rattle.rounds_kept.proofs.RoundMoves.{AllRounds}
use Rattle.rounds_server.proofs.RoundSteps as steps
use Rattle.rounds_server.proofs.Gave.{GaveTo}
use Rattle.rounds_server.proofs.GivenTests.{BlocksAnswer, NoNormal, NoneIf, OneNormal}
use Rattle.rounds_server.proofs.LanesGiven.{Given, alike_awaits, gave_holds, gone_given, lane_alike, lane_given, step_downs, taken_downs}
use Rattle.rounds_server.proofs.LiveApps.{live_app}
use Rattle.rounds_server.proofs.StepGiven.{NormalsGiven}
use Rattle.rounds_server.proofs.Counted.{none_joined}
use Rattle.plain_orders.specs.Ordered.{IsOrdered}

module _ (l : Layout) (c : CoresState) (m : Machine) (server now : ℕ) (input : DataIn) (outs : MoveOuts) (written : List Act) (new : Machine) (h : Holds l m)
    (run : IsRun l m.trail) (shows : Mirrors c m) (allowed : Allowed c (ServerMove server now input))
    (goes : ServerGoes m server now input outs written new) where
  abbrev x : Site
  x = m.site_at server

  abbrev v : Server
  v = (state_after l m.trail).server_at server

  -- the plain server after the step
  abbrev w : Server
  w = (after_all l (state_after l m.trail) written).server_at server

  abbrev old : DataState
  old = goes.node

  abbrev next : DataState
  next = goes.state

  abbrev y : Site
  y = server_site old now input goes.data_outs next x

  abbrev t : Coming
  t = record { old = goes.node; now = now; input = input }

  abbrev lane_of : ℕ → Lane
  lane_of s = x.lane_at s x.past

  its : SiteHolds l server m.is_dead_at v x
  its = h.sites server

  counts : (s : ℕ) → LaneCounts (lane_of s)
  counts s = its.link.lanes s x.past

  node : NodeLink v x m.is_dead_at old
  node = ends.link l c m server now input outs written new h run shows allowed goes

  order : NodeOrder l server x.past v old
  order = ends.order l c m server now input outs written new h run shows allowed goes

  from : StepFrom old
  from = ends.from l c m server now input outs written new h run shows allowed goes

  may : DataMay old input
  may = ends.may l c m server now input outs written new h run shows allowed goes

  served : ServesAfter old next x y (may_close input)
  served = steps.served l c m server now input outs written new h run shows allowed goes

  goes_on : is_some old.round ≡ true → RoundGoes x old
  goes_on = steps.goes_on l c m server now input outs written new h run shows allowed goes

  wrote : StepWrote server old next (state_after l m.trail) (after_all l (state_after l m.trail) written)
  wrote = server_wrote l c m server now input outs written new h run shows allowed goes

  -- orders tell alike which sessions were opened in them

  later : OrdersLater v w
  later =
      grown_later v w wrote.past (ap last_epoch wrote.order ∙ epoch_kept wrote.deeds v.order wrote.may)
      (ap epoch_place wrote.order ∙ place_kept wrote.deeds v.order wrote.may)
      (omega (arith, wrote.synced))

  same_now : current w ≡ current v
  same_now = ap (λ (xs : List (List Entry)). length xs) wrote.past

  alike : (s k : ℕ) → k ≤ current v → is_opened_in (order_at w k) s ≡ is_opened_in (order_at v k) s
  alike s k low = ap (λ (n : ℕ). nat_lt n s) (later.place k low)

  here : order_at v x.past ≡ old.order
  here = ap (order_at v) its.order.past ∙ order_now v ∙ sym order.order

  place_same : epoch_place next.order ≡ epoch_place old.order
  place_same = ap epoch_place wrote.its ∙ place_kept wrote.deeds old.order wrote.may

  -- lanes

  grow : LanesGrow old next goes.data_outs x y
  grow = server_lanes old now input goes.data_outs next x

  abbrev lane_after : ℕ → Lane
  lane_after s = with_data_step old next goes.data_outs.frames s (lane_of s)

  lane_here : (s : ℕ) → y.lane_at s y.past ≡ lane_after s
  lane_here s = ap (y.lane_at s) grow.past ∙ grow.here s

  past_there : x.past ≤ current v
  past_there = omega (arith, its.order.past)

  was : (s : ℕ) → LaneRound old.order s (lane_of s)
  was s = subst (λ (es : List Entry). LaneRound es s (lane_of s)) here (its.rounds.lanes s x.past past_there)

  no_window : (d : DataState) (s : ℕ) → (list_any (is_window_of s) d.windows ≡ true → live d.order s ≡ true) → live d.order s ≡ false → window_of d s ≡ fresh
  no_window d s lives dead = go (list_any (is_window_of s) d.windows) refl
    where
      go : (b : Bool) → list_any (is_window_of s) d.windows ≡ b → window_of d s ≡ fresh
      go true there = absurd (false≢true (sym dead ∙ lives there))
      go false there = none_there d.windows s there

  -- what is known of what a session was given
  given_now : (s : ℕ) → Given old.order s (lane_of s) (is_some next.round) (step_downs old next s)
      (if live next.order s then (window_of next s).taken else (lane_of s).up_taken)
  given_now s = go (live next.order s) refl
    where
      window : live next.order s ≡ true → WindowIs (window_of next s) (lane_after s).down (lane_after s).down_taken (lane_after s).up_taken
      window lives = subst (λ (z : Lane). WindowIs (window_of next s) z.down z.down_taken z.up_taken) (lane_here s) (served.windows.windows.each s lives)

      holds : live next.order s ≡ true → (T : List Down → ℕ → Type 0) → GaveTo (lane_of s) s T next → T (step_downs old next s) (window_of next s).taken
      holds lives T g = gave_holds (lane_of s) (step_downs old next s) (window_of next s) (lane_of s).down_taken (lane_after s).up_taken T (window lives)
          (g lives)

      normals : NormalsGiven (lane_of s) s next
      normals = steps.normals_given l c m server now input outs written new h run shows allowed goes s (was s).once

      go : (b : Bool) → live next.order s ≡ b → Given old.order s (lane_of s) (is_some next.round) (step_downs old next s)
          (if b then (window_of next s).taken else (lane_of s).up_taken)
      go true lives = record {
        once = holds lives (OneNormal (lane_of s)) normals.once;
        opened = holds lives (NoneIf (is_opened_in old.order s)) (steps.opened_given l c m server now input outs written new h run shows allowed goes s);
        untold = λ on. holds lives NoNormal (normals.in_round on);
        blocks = holds lives (BlocksAnswer (lane_of s)) (steps.blocks_given l c m server now input outs written new h run shows allowed goes s (was s).blocks);
      }
      go false gone =
          gone_given old.order old next s (lane_of s) (is_some next.round) gone (no_window old s (node.windows.lives s))
          (no_window next s (served.windows.windows.lives s) gone) (was s)

  lanes_now : (s k : ℕ) → k ≤ current w → LaneRound (order_at w k) s (y.lane_at s k)
  lanes_now s k there = go (same_or k x.past)
    where
      low : k ≤ current v
      low = omega (arith, there, same_now)

      go : (k ≡ x.past) ⊎ (k ≢ x.past) → LaneRound (order_at w k) s (y.lane_at s k)
      go (inl same) =
          subst (λ (n : ℕ). LaneRound (order_at w n) s (y.lane_at s n)) (sym same)
          (subst (λ (z : Lane). LaneRound (order_at w x.past) s z) (sym (grow.here s))
          (lane_given old.order (order_at w x.past) old next goes.data_outs.frames s (lane_of s) (is_some next.round)
          (alike s x.past past_there ∙ ap (λ (es : List Entry). is_opened_in es s) here) (counts s) (given_now s) (was s)))
      go (inr other) =
          subst (λ (z : Lane). LaneRound (order_at w k) s z) (sym (grow.others s k other))
          (lane_alike (order_at v k) (order_at w k) s (x.lane_at s k) (alike s k low) (its.rounds.lanes s k low))

  -- what the application ends took is as it was
  same_taken : (s k : ℕ) → downs_taken (y.lane_at s k) ≡ downs_taken (x.lane_at s k)
  same_taken s k = go (same_or k x.past)
    where
      go : (k ≡ x.past) ⊎ (k ≢ x.past) → downs_taken (y.lane_at s k) ≡ downs_taken (x.lane_at s k)
      go (inl same) =
          subst (λ (n : ℕ). downs_taken (y.lane_at s n) ≡ downs_taken (x.lane_at s n)) (sym same)
          (ap (λ (z : Lane). downs_taken z) (grow.here s) ∙ taken_downs old next goes.data_outs.frames s (lane_of s) (counts s))
      go (inr other) = ap (λ (z : Lane). downs_taken z) (grow.others s k other)

  -- so their sessions await what they did

  sessions_now : (o : Option Session) (told : Option Place) → IfSome o (λ s. IfSome told (λ p. p.order ≤ current v))
      → IfSome o (λ s. IfSome told (λ p. SessionRound (order_at v p.order) (x.lane_at s.number p.order) s))
      → IfSome o (λ s. IfSome told (λ p. SessionRound (order_at w p.order) (y.lane_at s.number p.order) s))
  sessions_now None told low is = tt
  sessions_now (Some s) None low is = tt
  sessions_now (Some s) (Some p) low is = record {
    due =
        is.due
        ∙ sym (alike_awaits (order_at v p.order) (order_at w p.order) s.number (x.lane_at s.number p.order) (y.lane_at s.number p.order)
        (alike s.number p.order low)
        (same_taken s.number p.order));
    asks = is.asks;
    queued = is.queued;
    owed = is.owed;
  }

  apps_now : (app : ℕ) → m.is_dead_at app ≡ false → IfSome (y.end_at app).state.session (RoundOf w y (y.end_at app))
  apps_now app alive = go (server_same old now input goes.data_outs next x app)
    where
      go : ((y.end_at app).state ≡ (x.end_at app).state) × ((y.end_at app).told ≡ (x.end_at app).told)
          → IfSome (y.end_at app).state.session (RoundOf w y (y.end_at app))
      go same =
          subst (λ (e : AppEnd). IfSome e.session (λ s. IfSome (y.end_at app).told (λ p. SessionRound (order_at w p.order) (y.lane_at s.number p.order) s)))
          (sym same.0)
          (subst (λ (o : Option Place). IfSome (x.end_at app).state.session
          (λ s. IfSome o (λ p. SessionRound (order_at w p.order) (y.lane_at s.number p.order) s))) (sym same.1)
          (sessions_now (x.end_at app).state.session (x.end_at app).told (told_there v app (x.end_at app) (its.ends.told app alive))
          (its.rounds.apps app alive)))

  -- a round that is on

  round_was : RoundWas t next
  round_was = round_before t (begins t) (made next goes.data_outs) (step_pieces old now input goes.data_outs next from may goes.steps) (begun_was input)
    where
      begun_was : (i : DataIn) → RoundWas (record { old = old; now = now; input = i }) (begins (record { old = old; now = now; input = i })).state
      begun_was (data_in.Frame conn f) = round_same (record { old = old; now = now; input = data_in.Frame conn f }) old refl refl
      begun_was (data_in.Connected conn) = round_same (record { old = old; now = now; input = data_in.Connected conn }) old refl refl
      begun_was (data_in.Broken conn) = round_same (record { old = old; now = now; input = data_in.Broken conn }) old refl refl
      begun_was data_in.Tick = round_same (record { old = old; now = now; input = data_in.Tick }) old refl refl
      begun_was (data_in.Saved upto) =
          subst (RoundWas (record { old = old; now = now; input = data_in.Saved upto })) (sym (synced_state upto (begun old)))
          (round_same (record { old = old; now = now; input = data_in.Saved upto }) (record old { synced = upto }) refl refl)

  before_now : is_some next.round ≡ true → (s : ℕ) → live next.order s ≡ true → s < epoch_place next.order
  before_now on s lives = go (live_app next.order (ordered_one_live next.order ordered) s lives)
    where
      ordered : IsOrdered next.order
      ordered = (steps.known_end l c m server now input outs written new h run shows allowed goes).along.ends.links.ordered

      go : (app : ℕ) × (live_session next.order app ≡ Some s) → s < epoch_place next.order
      go its_app =
          omega (
            arith,
            place_same,
            (goes_on (round_was.in_round on)).before s
                (steps.was_live l c m server now input outs written new h run shows allowed goes its_app.0 s (round_was.has on its_app.0 s its_app.1)),
          )

  node_now : (o : Option Round) → next.round ≡ o → IfSome o (λ r. RoundGoes y next)
  node_now None is = tt
  node_now (Some r) is = record {
    untold =
        λ s.
        ap (λ (z : Lane). list_any is_normal_down z.down) (lane_here s)
        ∙ none_joined is_normal_down (lane_of s).down (step_downs old next s) ((goes_on (round_was.in_round on)).untold s) ((given_now s).untold on);
    before = before_now on;
  }
    where
      on : is_some next.round ≡ true
      on = ap (λ (o : Option Round). is_some o) is

  rounds_now : RoundsHold w y m.is_dead_at
  rounds_now = record {
    lanes = lanes_now;
    node =
        subst (λ (o : Option DataState). IfSome o (λ n. IfSome n.round (λ r. RoundGoes y n))) (sym (step_site old now input goes.data_outs next x).node)
        (node_now next.round refl);
    apps = apps_now;
  }

  -- What rounds put stays as the invariant has it.
  pub rounds_kept_by_server : AllRounds l (state_after l new.trail) new
  rounds_kept_by_server =
      kept_at_one (λ dead d u z. RoundsHold u z dead) l m new server (server_site old now input goes.data_outs next) written
      (λ d. (h.sites d).rounds) goes.after wrote.others rounds_now
