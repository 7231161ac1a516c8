-- The orders of a data server and what of them stays, over a step of it, and the Welcome of a new epoch that leaves in it.
use Rattle.std.proofs.Common.{Bool, List, None, Some, [], ap, arith, false, if◌then◌else◌, length, refl, subst, sym, true, ℕ, ◌+◌, ◌<◌, ◌∙◌, ◌∷◌, ◌≡◌, ◌≤◌}
use Rattle.std.specs.Prelude.{nat_lt}
use Rattle.app_rules.specs.AppState.{Session}
use Rattle.cluster_invariant.proofs.Deeds.{order_by}
use Rattle.cluster_invariant.proofs.OrderRows.{StepWrote}
use Rattle.cluster_invariant.proofs.PastOrders.{now_stays, order_now}
use Rattle.cluster_invariant.specs.Coherence.{IsHeader}
use Rattle.cluster_invariant.specs.Holds.{Holds}
use Rattle.cluster_invariant.specs.Link.{EpochWelcomeOn, SaysEpoch, WholeIf}
use Rattle.cluster_invariant.specs.Waiting.{WaitsEpoch}
use Rattle.cluster_invariant.specs.Words.{numbered_behind, stays_at}
use Rattle.cluster_runs.specs.CoresState.{CoresState}
use Rattle.cluster_runs.specs.Goes.{ServerGoes, server_site}
use Rattle.cluster_runs.specs.Machine.{Machine, Site}
use Rattle.cluster_runs.specs.Mirrors.{Mirrors}
use Rattle.cluster_runs.specs.Moves.{Allowed}
use Rattle.cluster_runs.specs.Sent.{Connection}
use Rattle.cluster_runs.specs.declared.move_outs.MoveOuts.{MoveOuts}
use Rattle.data_rules.specs.Places.{epoch_place}
use Rattle.data_rules.specs.declared.data_in.DataIn.{DataIn}
use Rattle.dials_firsts.proofs.KnownRecovers.{newer}
use Rattle.ecp_messages.specs.declared.front.Front.{Front}
use Rattle.link_downs.proofs.ServerLater.{wrote}
use Rattle.link_kept.proofs.AppLater.{LaneLater}
use Rattle.link_kept.proofs.Later.{Later, front_same, header_later, place_later}
use Rattle.plain_orders.specs.Entries.{count, last_epoch}
use Rattle.plain_orders.specs.Sessions.{place_of_epoch}
use Rattle.plain_orders.specs.declared.act.Act.{Act}
use Rattle.plain_orders.specs.declared.entry.Entry.{Entry}
use Rattle.plain_orders.specs.declared.entry.Entry.TheVariants.{Closed, Commit, Epoch, Opened, Rollback, Update}
use Rattle.plain_orders.specs.declared.layout.Layout.{Layout}
use Rattle.plain_runs.specs.Plain.{Server, current, order_at}
use Rattle.plain_runs.specs.Run.{IsRun, after_all, state_after}
use Rattle.cluster_runs.specs.declared.moves.Move.TheVariants.{Server as ServerMove}
use Rattle.data_ends_kept.proofs.NodeEndsServer as ends
use Rattle.link_downs.proofs.StepWays as step

-- the first Epoch above a number stands in the list
place_under : (n c k : ℕ) (es : List Entry) → place_of_epoch n c es ≡ Some k → k + 1 ≤ c + length es
place_under n c k [] is = absurd cc
place_under n c k (Epoch number ∷ es) is = go (nat_lt n number) is (place_under n (c + 1) k es)
  where
    same : (i j : ℕ) → Some i ≡ Some j → i ≡ j
    same i j both = cc

    go : (b : Bool) → (if b then Some c else place_of_epoch n (c + 1) es) ≡ Some k → (place_of_epoch n (c + 1) es ≡ Some k → k + 1 ≤ c + 1 + length es)
        → k + 1 ≤ c + length (Epoch number ∷ es)
    go true at more = omega (arith, same c k at)
    go false at more = omega (arith, more at)
place_under n c k (Opened session app ∷ es) is = omega (arith, place_under n (c + 1) k es is)
place_under n c k (Closed session ∷ es) is = omega (arith, place_under n (c + 1) k es is)
place_under n c k (Update session u job txn op ∷ es) is = omega (arith, place_under n (c + 1) k es is)
place_under n c k (Commit session u job txn ∷ es) is = omega (arith, place_under n (c + 1) k es is)
place_under n c k (Rollback session u job txn ∷ es) is = omega (arith, place_under n (c + 1) k es is)

module _ (l : Layout) (c0 : CoresState) (m : Machine) (server now : ℕ) (input : DataIn) (outs : MoveOuts) (written : List Act) (new : Machine)
    (h : Holds l m) (run : IsRun l m.trail) (after_run : IsRun l new.trail) (shows : Mirrors c0 m) (allowed : Allowed c0 (ServerMove server now input))
    (goes : ServerGoes m server now input outs written new) where
  abbrev pub x : Site
  x = m.site_at server

  abbrev pub v : Server
  v = (state_after l m.trail).server_at server

  abbrev pub w : Server
  w = (after_all l (state_after l m.trail) written).server_at server

  abbrev pub y : Site
  y = server_site goes.node now input goes.data_outs goes.state (m.site_at server)

  pub later : Later x v w
  later = step.later l c0 m server now input outs written new h run after_run shows allowed goes

  pub lanes : (s k : ℕ) → LaneLater (x.lane_at s k) (y.lane_at s k)
  lanes = step.lanes_later l c0 m server now input outs written new h run after_run shows allowed goes

  pub past_now : x.past ≡ current v
  past_now = step.past_now l c0 m server now input outs written new h run after_run shows allowed goes

  wr : StepWrote server goes.node goes.state (state_after l m.trail) (after_all l (state_after l m.trail) written)
  wr = wrote l c0 m server now input outs written new h run shows allowed goes

  pub order_v : order_at v x.past ≡ goes.node.order
  order_v = ap (order_at v) past_now ∙ order_now v ∙ sym (ends.order l c0 m server now input outs written new h run shows allowed goes).order

  pub past_w : x.past ≡ current w
  past_w = past_now ∙ sym (ap (λ (xs : List (List Entry)). length xs) wr.past)

  pub order_w : order_at w x.past ≡ goes.state.order
  order_w =
      ap (order_at w) past_w ∙ order_now w ∙ wr.order
      ∙ ap (order_by wr.deeds) (sym (ends.order l c0 m server now input outs written new h run shows allowed goes).order) ∙ sym wr.its

  pub stays_w : goes.state.synced ≤ stays_at w x.past
  stays_w = omega (arith, wr.synced, ap (stays_at w) past_w, now_stays w)

  pub no_less : goes.node.synced ≤ goes.state.synced
  no_less = wr.no_less

  module _ (s k kept taken : ℕ) (front : Front) (sn : Session) (d : Connection) (number : s ≡ sn.number) (epoch_is : sn.epoch ≡ last_epoch (order_at v k))
      (stays_k : epoch_place (order_at v k) ≤ stays_at v k)
      (waits : WaitsEpoch v goes.node s kept (record { order = k; taken = taken }))
      (unlearnt : ((m.site_at server).lane_at s (m.site_at server).past).began ≡ None) (longer : length goes.node.order ≤ front.n)
      (header : IsHeader goes.state.order goes.state.synced s front) (counted : front.w ≡ count goes.node.order s)
      (synced : epoch_place goes.node.order ≤ goes.state.synced)
      (within : goes.state.synced ≤ length goes.state.order) (its : d.its ≡ Some (record { session = s; order = (m.site_at server).past }))
      (whole : WholeIf y s (m.site_at server).past (y.lane_at s (m.site_at server).past) d []) where
    low : x.past ≤ current v
    low = omega (arith, past_now)

    newer_epoch : last_epoch (order_at v k) < last_epoch goes.node.order
    newer_epoch =
        subst (λ (es : List Entry). last_epoch (order_at v k) < last_epoch es)
        (sym (ends.order l c0 m server now input outs written new h run shows allowed goes).order) (newer l m.trail server k run waits.later stays_k)

    place_w : epoch_place (order_at w x.past) ≡ epoch_place goes.node.order
    place_w = later.place x.past low ∙ ap epoch_place order_v

    says : SaysEpoch w s k x.past (last_epoch goes.node.order) kept front
    says = record {
      later = omega (arith, waits.later, past_now);
      there = omega (arith, past_w);
      its_epoch = sym (later.last x.past low ∙ ap last_epoch order_v);
      stays = omega (arith, place_w, synced, stays_w);
      only = λ i above there. absurd (omega (arith, above, there, past_w));
      place =
          ap (λ (i : ℕ). place_of_epoch i 0 (order_at w x.past)) (later.last k (omega (arith, waits.later)))
          ∙ place_later (last_epoch (order_at v k)) (order_at v x.past) (order_at w x.past) kept (later.goes_on x.past low)
          (ap (place_of_epoch (last_epoch (order_at v k)) 0) order_v ∙ waits.place);
      kept_more = subst (λ (i : ℕ). i ≤ kept) (sym (later.left k waits.later)) waits.kept_more;
      kept_less = omega (arith, place_under (last_epoch (order_at v k)) 0 kept goes.node.order waits.place, longer);
      header =
          subst (λ (es : List Entry). IsHeader es (stays_at w x.past) s front) (sym order_w)
          (header_later goes.state.order goes.state.order goes.state.synced (stays_at w x.past) s front (front_same goes.state.order) within stays_w header);
      counted = counted ∙ sym (later.counts s x.past low unlearnt ∙ ap (λ (es : List Entry). count es s) order_v);
    }

    -- the Welcome of a new epoch
    pub welcome_of_epoch : EpochWelcomeOn w y sn k d s (last_epoch goes.node.order) kept front 0 []
    welcome_of_epoch = record {
      order = x.past;
      its = its ∙ ap (λ (i : ℕ). Some (record { session = i; order = x.past })) number;
      number = number;
      told_before = omega (arith, epoch_is, newer_epoch);
      says = says;
      none_taken = refl;
      unlearnt = (lanes s x.past).began ∙ unlearnt;
      way = record {
        its = [];
        ends = [];
        all = refl;
        kinds = refl;
        next = (numbered_behind (y.lane_at s x.past).down_taken (y.lane_at s x.past).down, refl);
        acks = tt;
        reset = tt;
        no_normal = λ some. absurd (some refl);
      };
      whole = whole;
    }
