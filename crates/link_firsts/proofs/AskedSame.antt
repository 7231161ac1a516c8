-- An end that asked whose session goes on in the same epoch: its Welcome is put, and behind it all that waits in the session's window.
use Rattle.std.proofs.Common.{Bool, List, Some, [], ap, arith, drop, false, inl, inr, length, map, refl, subst, suc, sym, true, zero, ℕ, ◌++◌, ◌∙◌, ◌∷◌, ◌≡◌}
use Rattle.std.proofs.Common.{◌≤◌, ◌⊎◌}
use Rattle.std.proofs.lemmas.Bool.{and_parts, ltb-false, ltb-true}
use Rattle.std.proofs.lemmas.List.{append-nil}
use Rattle.std.specs.List.{list_all, list_any}
use Rattle.std.specs.Prelude.{IfSome, nat_lt}
use Rattle.app_rules.specs.AppState.{Session}
use Rattle.app_rules.specs.declared.line.Line.TheVariants.{Asking}
use Rattle.cluster_invariant.proofs.AllLists.{all_follow}
use Rattle.cluster_invariant.proofs.PieceMay.{Coming}
use Rattle.cluster_invariant.proofs.Small.{of_some}
use Rattle.cluster_invariant.specs.Holds.{Holds}
use Rattle.cluster_invariant.specs.Link.{AppWay, AskedWay, LaneCounts, NodeLink, SameWelcome, WindowIs, is_normal_frame, is_numbered_down}
use Rattle.cluster_invariant.specs.Rounds.{RoundOf, SessionRound}
use Rattle.cluster_invariant.specs.Words.{IsFront, downs_left, numbered_behind, numbered_downs, stays_at}
use Rattle.cluster_runs.specs.Connections.{with_downs}
use Rattle.cluster_runs.specs.CoresState.{CoresState}
use Rattle.cluster_runs.specs.Goes.{ServerGoes, server_site}
use Rattle.cluster_runs.specs.Machine.{Machine, Site}
use Rattle.cluster_runs.specs.Mirrors.{Mirrors}
use Rattle.cluster_runs.specs.Moves.{Allowed}
use Rattle.cluster_runs.specs.Sent.{Connection, FirstTaken, Lane, Place}
use Rattle.cluster_runs.specs.declared.move_outs.MoveOuts.{MoveOuts}
use Rattle.data_rules.specs.Puts.{head_of, window_of}
use Rattle.data_rules.specs.declared.data_in.DataIn.{DataIn}
use Rattle.dials_firsts.proofs.KnownRecovers.{newer}
use Rattle.ecp_messages.specs.declared.down.Down.{Down}
use Rattle.ecp_messages.specs.declared.down.DownFrame.{DownFrame}
use Rattle.end_words.specs.Windows.{numbered_from, resent}
use Rattle.link_downs.proofs.NumberedPuts.{PutNext, list_any_joined, put_bare}
use Rattle.link_downs.proofs.WaysMore.{its_of_session}
use Rattle.link_firsts.proofs.AgainFrames.{again_calm, again_is, again_next, calm_behind, given_none}
use Rattle.link_firsts.proofs.RecoverPuts.{SamePut, again_frame}
use Rattle.link_firsts.proofs.SilentWays.{has_welcome}
use Rattle.link_firsts.proofs.WholeAfter.{whole_after}
use Rattle.link_kept.proofs.AppLater.{LaneLater}
use Rattle.link_kept.proofs.FitsWell.{may_close}
use Rattle.link_kept.proofs.Later.{counts_front}
use Rattle.link_kept.proofs.ServesServer.{ServesAfter}
use Rattle.plain_orders.specs.Entries.{last_epoch, live}
use Rattle.plain_orders.specs.declared.act.Act.{Act}
use Rattle.plain_orders.specs.declared.entry.Entry.{Entry}
use Rattle.plain_orders.specs.declared.layout.Layout.{Layout}
use Rattle.plain_runs.specs.Plain.{Server, current, order_at}
use Rattle.plain_runs.specs.Run.{IsRun, after_all, state_after}
use Rattle.cluster_runs.specs.declared.moves.Move.TheVariants.{Server as ServerMove}
use Rattle.ecp_messages.specs.declared.down.Down.TheVariants as down
use Rattle.data_ends_kept.proofs.NodeEndsServer as ends
use Rattle.link_nodes.proofs.ServedSteps as served
use Rattle.link_downs.proofs.StepWays as step
use Rattle.link_firsts.proofs.FirstConns as conns
use Rattle.link_firsts.proofs.StepOrders as base
use Rattle.link_firsts.proofs.AskedBound as asked

module _ (l : Layout) (c0 : CoresState) (m : Machine) (server now : ℕ) (input : DataIn) (outs : MoveOuts) (written : List Act) (new : Machine)
    (h : Holds l m) (run : IsRun l m.trail) (after_run : IsRun l new.trail) (shows : Mirrors c0 m) (allowed : Allowed c0 (ServerMove server now input))
    (goes : ServerGoes m server now input outs written new) where
  abbrev x : Site
  x = m.site_at server

  abbrev v : Server
  v = (state_after l m.trail).server_at server

  abbrev w : Server
  w = (after_all l (state_after l m.trail) written).server_at server

  abbrev y : Site
  y = server_site goes.node now input goes.data_outs goes.state (m.site_at server)

  abbrev t : Coming
  t = record { old = goes.node; now = now; input = input }

  node : NodeLink v x m.is_dead_at goes.node
  node = ends.link l c0 m server now input outs written new h run shows allowed goes

  lanes : (s i : ℕ) → LaneLater (x.lane_at s i) (y.lane_at s i)
  lanes = base.lanes l c0 m server now input outs written new h run after_run shows allowed goes

  served_so : ServesAfter goes.node goes.state x y (may_close input)
  served_so = step.served_so l c0 m server now input outs written new h run after_run shows allowed goes

  module _ (a : ℕ) (alive : m.is_dead_at a ≡ false) (line : (x.end_at a).state.line ≡ Asking) (sn : Session) (has : (x.end_at a).state.session ≡ Some sn)
      (k : ℕ)
      (told : (x.end_at a).told ≡ Some (record { session = sn.number; order = k })) (c : Connection)
      (it : (x.end_at a).connection_at (x.end_at a).state.dial ≡ Some c)
      (way : AskedWay v x sn k c (downs_left c)) (other : has_welcome (downs_left c) ≡ false) where
    abbrev n : ℕ
    n = (x.end_at a).state.dial

    abbrev d : Connection
    d = conns.d l c0 m server now input outs written new h run after_run shows allowed goes a n c it

    abbrev put_now : List DownFrame
    put_now = conns.put_now l c0 m server now input outs written new h run after_run shows allowed goes a n c it

    module _ (g : FirstTaken) (at_first : d.first ≡ Some g)
        (p : SamePut goes.node goes.state g.conn sn.number (last_epoch (order_at v k)) sn.window.taken goes.data_outs) (none : downs_left c ≡ []) where
      abbrev s : ℕ
      s = sn.number

      abbrev lane : Lane
      lane = x.lane_at sn.number x.past

      abbrev lane_now : Lane
      lane_now = y.lane_at sn.number x.past

      past_now : x.past ≡ current v
      past_now = base.past_now l c0 m server now input outs written new h run after_run shows allowed goes

      order_v : order_at v x.past ≡ goes.node.order
      order_v = base.order_v l c0 m server now input outs written new h run after_run shows allowed goes

      -- that is the order that runs
      past_is : k ≡ x.past
      past_is = go (nat_lt k (current v)) refl
        where
          node_order : goes.node.order ≡ v.order
          node_order = (ends.order l c0 m server now input outs written new h run shows allowed goes).order

          go : (b : Bool) → nat_lt k (current v) ≡ b → k ≡ x.past
          go true less =
              absurd (omega (
                arith,
                newer l m.trail server k run (ltb-true k (current v) less)
                    (asked.stays_k l c0 m server now input outs written new h run after_run shows allowed goes a alive line sn has k told c it way other),
                p.same,
                ap last_epoch node_order,
              ))
          go false more =
              omega (
                arith,
                ltb-false k (current v) more,
                asked.k_there l c0 m server now input outs written new h run after_run shows allowed goes a alive
                    line sn has k told c it way other,
                past_now,
              )

      counts : LaneCounts lane
      counts = step.counts l c0 m server now input outs written new h run after_run shows allowed goes s x.past

      -- so many were taken by its end
      taken_is : sn.window.taken ≡ lane.down_taken
      taken_is = subst (λ (i : ℕ). sn.window.taken ≡ (x.lane_at s i).down_taken) past_is window.taken
        where
          way_is : AppWay v x a (x.end_at a)
          way_is = (h.sites server).link.apps a alive

          window : WindowIs sn.window (x.lane_at s k).up (x.lane_at s k).up_taken (x.lane_at s k).down_taken
          window =
              of_some (λ (q : Place). WindowIs sn.window (x.lane_at s q.order).up (x.lane_at s q.order).up_taken (x.lane_at s q.order).down_taken)
              (x.end_at a).told (record { session = sn.number; order = k }) told
              (of_some (λ (z : Session). IfSome (x.end_at a).told
              (λ q. WindowIs z.window (x.lane_at z.number q.order).up (x.lane_at z.number q.order).up_taken (x.lane_at z.number q.order).down_taken))
              (x.end_at a).state.session sn has way_is.window)

      was : WindowIs (window_of goes.node s) lane.down lane.down_taken lane.up_taken
      was = node.windows.each s p.lives

      is_now : WindowIs (window_of goes.state s) lane_now.down lane_now.down_taken lane_now.up_taken
      is_now =
          subst (λ (i : ℕ). WindowIs (window_of goes.state s) (y.lane_at s i).down (y.lane_at s i).down_taken (y.lane_at s i).up_taken)
          (conns.past_after l c0 m server now input outs written new h run after_run shows allowed goes)
          (served_so.windows.windows.each s (ap (λ (es : List Entry). live es s) p.order ∙ p.lives))

      down_same : lane_now.down ≡ lane.down
      down_same =
          given_none (window_of goes.node s) (window_of goes.state s) lane.down lane_now.down lane.down_taken lane.up_taken lane_now.down_taken
          lane_now.up_taken p.kept.acked p.kept.waiting was is_now counts.down_taken (lanes s x.past).down

      up_same : (window_of goes.node s).taken ≡ lane_now.up_taken
      up_same = sym p.kept.taken ∙ is_now.taken

      abbrev ack : ℕ
      ack = (window_of goes.node sn.number).taken

      abbrev behind : List DownFrame
      behind = map (again_frame (window_of goes.node sn.number).taken) (resent (window_of goes.node sn.number) sn.window.taken) ++ p.bares

      again_so : map (again_frame ack) (resent (window_of goes.node s) sn.window.taken) ≡ map (again_frame ack)
          (numbered_from lane.down_taken (drop lane.down_taken lane.down))
      again_so =
          ap (λ (i : ℕ). map (again_frame ack) (resent (window_of goes.node s) i)) taken_is
          ∙ ap (map (again_frame ack)) (again_is (window_of goes.node s) lane.down lane.down_taken lane.up_taken was counts.down_taken)

      numbered_left : list_all is_numbered_down (drop lane.down_taken lane.down) ≡ true
      numbered_left = all_dropped lane.down_taken lane.down counts.downs
        where
          all_dropped : (i : ℕ) (ms : List Down) → list_all is_numbered_down ms ≡ true → list_all is_numbered_down (drop i ms) ≡ true
          all_dropped zero ms all = all
          all_dropped (suc i) [] all = refl
          all_dropped (suc i) (m ∷ ms) all = all_dropped i ms (and_parts (is_numbered_down m) (list_all is_numbered_down ms) all).1

      again : PutNext lane.down_taken ack (map (again_frame ack) (resent (window_of goes.node s) sn.window.taken)) (drop lane.down_taken lane.down)
      again =
          subst (λ (fs : List DownFrame). PutNext lane.down_taken ack fs (drop lane.down_taken lane.down)) (sym again_so)
          (again_next lane.down_taken ack (drop lane.down_taken lane.down) numbered_left)

      put_next : PutNext lane.down_taken ack behind (drop lane.down_taken lane.down)
      put_next = go p.are_bare
        where
          go : (p.bares ≡ []) ⊎ (p.bares ≡ record { seq = 0; ack = ack; message = down.Bare } ∷ [])
              → PutNext lane.down_taken ack behind (drop lane.down_taken lane.down)
          go (inl is) =
              subst (λ (fs : List DownFrame). PutNext lane.down_taken ack (map (again_frame ack) (resent (window_of goes.node s) sn.window.taken) ++ fs)
              (drop lane.down_taken lane.down)) (sym is)
              (subst (λ (fs : List DownFrame). PutNext lane.down_taken ack fs (drop lane.down_taken lane.down))
              (sym (append-nil (map (again_frame ack) (resent (window_of goes.node s) sn.window.taken)))) again)
          go (inr is) =
              subst (λ (fs : List DownFrame). PutNext lane.down_taken ack (map (again_frame ack) (resent (window_of goes.node s) sn.window.taken) ++ fs)
              (drop lane.down_taken lane.down)) (sym is)
              (put_bare lane.down_taken ack ack (map (again_frame ack) (resent (window_of goes.node s) sn.window.taken)) (drop lane.down_taken lane.down)
              (omega arith) again)

      whole : numbered_downs behind ≡ numbered_behind lane_now.down_taken lane_now.down
      whole =
          put_next.numbers ∙ ap (λ (i : ℕ). numbered_behind i lane.down) (sym (lanes s x.past).down_taken)
          ∙ ap (numbered_behind lane_now.down_taken) (sym down_same)

      calm : sn.normal_due ≡ false → list_any is_normal_frame behind ≡ false
      calm due =
          list_any_joined is_normal_frame (map (again_frame ack) (resent (window_of goes.node s) sn.window.taken)) p.bares again_none (bare_none p.are_bare)
        where
          round : RoundOf v x (x.end_at a) sn
          round = of_some (RoundOf v x (x.end_at a)) (x.end_at a).state.session sn has ((h.sites server).rounds.apps a alive)

          session_round : SessionRound (order_at v x.past) lane sn
          session_round =
              subst (λ (i : ℕ). SessionRound (order_at v i) (x.lane_at s i) sn) past_is
              (of_some (λ (q : Place). SessionRound (order_at v q.order) (x.lane_at sn.number q.order) sn) (x.end_at a).told
              (record { session = sn.number; order = k }) told round)

          again_none : list_any is_normal_frame (map (again_frame ack) (resent (window_of goes.node s) sn.window.taken)) ≡ false
          again_none =
              ap (list_any is_normal_frame) again_so ∙ again_calm lane.down_taken ack (drop lane.down_taken lane.down)
              ∙ calm_behind (order_at v x.past) s lane ((h.sites server).rounds.lanes s x.past (omega (arith, past_now))) (sym session_round.due ∙ due)

          bare_none : (p.bares ≡ []) ⊎ (p.bares ≡ record { seq = 0; ack = ack; message = down.Bare } ∷ []) → list_any is_normal_frame p.bares ≡ false
          bare_none (inl is) = ap (list_any is_normal_frame) is
          bare_none (inr is) = ap (list_any is_normal_frame) is

      first : DownFrame
      first = record { seq = 0; ack = ack; message = down.Welcome s (last_epoch goes.node.order) (length goes.node.order) (head_of goes.node s) ack }

      put_so : put_now ≡ record
          { seq = 0; ack = ack; message = down.Welcome s (last_epoch goes.node.order) (length goes.node.order) (head_of goes.node s) ack } ∷ behind
      put_so =
          asked.put_is l c0 m server now input outs written new h run after_run shows allowed goes a alive line sn has k told c it way other g at_first ∙ p.put

      its : d.its ≡ Some (record { session = sn.number; order = x.past })
      its =
          conns.d_its l c0 m server now input outs written new h run after_run shows allowed goes a n c it
          ∙ ap (λ (fs : List DownFrame). (with_downs x.past fs c).its) put_so
          ∙ its_of_session x.past behind
          (record c {
            downs = c.downs
                ++ record { seq = 0; ack = ack; message = down.Welcome s (last_epoch goes.node.order) (length goes.node.order) (head_of goes.node s) ack } ∷ [];
            its = Some (record { session = sn.number; order = x.past });
          }) put_next.kinds

      low : x.past ≤ current v
      low = omega (arith, past_now)

      front : IsFront goes.node.order (order_at w x.past)
      front =
          subst (λ (es : List Entry). IsFront es (order_at w x.past)) order_v
          ((base.later l c0 m server now input outs written new h run after_run shows allowed goes).goes_on x.past low)

      welcome : SameWelcome w y sn x.past d sn.number (last_epoch goes.node.order) (head_of goes.node sn.number) ack behind
      welcome = record {
        its = its;
        number = refl;
        epoch_told =
            sym p.same ∙ sym
            (asked.epoch_is l c0 m server now input outs written new h run after_run shows allowed goes a alive line sn has k told c it way other);
        counted = up_same;
        synced =
            counts_front goes.node.order (order_at w x.past) goes.node.synced (stays_at w x.past) s front
            (served.within l c0 m server now input outs written new h run shows allowed goes)
            (omega (
              arith,
              base.no_less l c0 m server now input outs written new h run after_run shows allowed goes,
              base.stays_w l c0 m server now input outs
                  written new h run after_run shows allowed goes,
            ));
        way = record {
          its = behind;
          ends = [];
          all = sym (append-nil behind);
          kinds = put_next.kinds;
          next = ([], sym whole ∙ sym (append-nil (numbered_downs behind)));
          acks =
              all_follow (λ (f : DownFrame). f.ack ≤ ack) (λ (f : DownFrame). f.ack ≤ lane_now.up_taken) (λ f less. omega (arith, less, up_same)) behind
              put_next.acks;
          reset = tt;
          no_normal = λ some. absurd (some refl);
        };
        whole =
            whole_after w y m.is_dead_at goes.state (conns.runs_after l c0 m server now input outs written new h run after_run shows allowed goes)
            (conns.after_dials l c0 m server now input outs written new h run after_run shows allowed goes)
            (conns.after_ends l c0 m server now input outs written new h run after_run shows allowed goes)
            (conns.ordered_after l c0 m server now input outs written new h run after_run shows allowed goes) a n d
            (conns.after l c0 m server now input outs written new h run after_run shows allowed goes a n c it).there sn.number x.past behind its whole;
        awaited = calm;
      }

      pub same_way : AskedWay w y sn k d (downs_left d)
      same_way =
          subst (λ (fs : List DownFrame). AskedWay w y sn k d fs)
          (sym (conns.d_left l c0 m server now input outs written new h run after_run shows allowed goes a n c it
          ∙ ap (λ (fs : List DownFrame). fs ++ put_now) none ∙ put_so)) (
            refl,
            inl (subst (λ (i : ℕ). SameWelcome w y sn i d sn.number (last_epoch goes.node.order) (head_of goes.node sn.number) ack behind) (sym past_is)
                welcome),
          )
