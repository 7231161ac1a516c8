-- An end that asked whose Recover is taken in the step: nothing is put on its connection, or its Reset alone, or the Welcome of a new epoch, or
-- the Welcome of the same epoch.
use Rattle.std.proofs.Common.{Bool, List, None, Option, Some, [], ap, arith, false, inl, inr, is_some, length, refl, subst, sym, take, true, ℕ, ◌++◌, ◌<◌}
use Rattle.std.proofs.Common.{◌∙◌, ◌≡◌, ◌≢◌, ◌≤◌, ◌⊎◌}
use Rattle.std.proofs.lemmas.Bool.{ltb-false, ltb-true}
use Rattle.std.specs.Prelude.{IsSomeAnd, nat_lt}
use Rattle.app_rules.specs.AppState.{Session}
use Rattle.app_rules.specs.declared.line.Line.TheVariants.{Asking}
use Rattle.cluster_invariant.proofs.AllLists.{all_follow}
use Rattle.cluster_invariant.proofs.OrdersStay.{front_stays, orders_agree}
use Rattle.cluster_invariant.proofs.PastOrders.{order_now}
use Rattle.cluster_invariant.proofs.PieceMay.{Came, Coming}
use Rattle.cluster_invariant.proofs.Small.{of_some}
use Rattle.cluster_invariant.specs.Coherence.{IsHeader}
use Rattle.cluster_invariant.specs.Dials.{FirstIs, LinkedTo, NodeDials, RoleIs, first_message}
use Rattle.cluster_invariant.specs.Holds.{Holds}
use Rattle.cluster_invariant.specs.Link.{AskedWay, EpochWelcomeOn, NodeLink}
use Rattle.cluster_invariant.specs.Waiting.{ReplyWaits, WaitsEpoch}
use Rattle.cluster_invariant.specs.Words.{downs_left, stays_at}
use Rattle.cluster_runs.specs.Connections.{with_downs}
use Rattle.cluster_runs.specs.CoresState.{CoresState, Linked}
use Rattle.cluster_runs.specs.Goes.{ServerGoes, server_site, server_takes}
use Rattle.cluster_runs.specs.Machine.{Machine, Site}
use Rattle.cluster_runs.specs.Mirrors.{Mirrors}
use Rattle.cluster_runs.specs.Moves.{Allowed}
use Rattle.cluster_runs.specs.Sent.{Connection, FirstTaken, Knew}
use Rattle.cluster_runs.specs.declared.move_outs.MoveOuts.{MoveOuts}
use Rattle.data_puts.proofs.RecoverLearnt.{recover_unlearnt}
use Rattle.data_rules.specs.Conns.{role_of}
use Rattle.data_rules.specs.Puts.{head_of}
use Rattle.data_rules.specs.Step.{DataStep}
use Rattle.data_rules.specs.declared.data_in.DataIn.{DataIn}
use Rattle.data_rules.specs.declared.rows.Reply.{Reply}
use Rattle.data_rules.specs.declared.rows.Role.TheVariants.{Bound, New}
use Rattle.dials_server.proofs.FittingNodes.{same_link}
use Rattle.ecp_messages.specs.declared.down.DownFrame.{DownFrame}
use Rattle.link_firsts.proofs.RecoverPuts.{EpochPut, RecoverPut, ResetPut, SamePut}
use Rattle.link_firsts.proofs.RecoverSteps.{recover_put}
use Rattle.link_firsts.proofs.SilentWays.{has_welcome, none_dropped}
use Rattle.link_firsts.proofs.UntoldConn.{head_is}
use Rattle.link_kept.proofs.EpochsLast.{front_low}
use Rattle.link_nodes.proofs.NodeReplies.{heard_from}
use Rattle.link_nodes.proofs.RecoverComes.{RecoverAlone}
use Rattle.link_nodes.proofs.RepliesAlong.{close_stands}
use Rattle.link_nodes.proofs.SiteAfter.{SiteAfter}
use Rattle.link_nodes.proofs.StepReplies.{recover_on}
use Rattle.plain_orders.proofs.FrontLemmas.{ordered-take}
use Rattle.plain_orders.specs.Entries.{last_epoch}
use Rattle.plain_orders.specs.Ordered.{IsOrdered}
use Rattle.plain_orders.specs.Sessions.{place_of_epoch}
use Rattle.plain_orders.specs.declared.act.Act.{Act}
use Rattle.plain_orders.specs.declared.entry.Entry.{Entry}
use Rattle.plain_orders.specs.declared.layout.Layout.{Layout}
use Rattle.plain_runs.specs.Plain.{Server, current, order_at}
use Rattle.plain_runs.specs.Run.{IsRun, after_all, state_after}
use Rattle.trail_laws.proofs.Prefixes.{none_above, place_front}
use Rattle.cluster_runs.specs.declared.moves.Move.TheVariants.{Server as ServerMove}
use Rattle.ecp_messages.specs.declared.down.Down.TheVariants as down
use Rattle.ecp_messages.specs.declared.up.Up.TheVariants as up
use Rattle.data_rules.specs.declared.data_in.DataIn.TheVariants as data_in
use Rattle.data_ends_kept.proofs.NodeEndsServer as ends
use Rattle.link_nodes.proofs.ServedSteps as served
use Rattle.link_nodes.proofs.SiteAfter.{Heard as HeardLater}
use Rattle.link_firsts.proofs.FirstConns as conns
use Rattle.link_firsts.proofs.StepOrders as base
use Rattle.link_firsts.proofs.AskedBound as asked
use Rattle.link_firsts.proofs.AskedClosing as closing

clash : (o : Option ℕ) (k : ℕ) → o ≡ Some k → o ≡ None → ⊥
clash o k some none = absurd cc

-- the first Epoch above one that an order had last isn't among the entries of it that stay
behind_kept : (l : Layout) (acts : List Act) (d : ℕ) → IsRun l acts → (k kept : ℕ) → k < current ((state_after l acts).server_at d)
    → place_of_epoch (last_epoch (order_at ((state_after l acts).server_at d) k)) 0 ((state_after l acts).server_at d).order ≡ Some kept → stays_at
    ((state_after l acts).server_at d) k ≤ kept
behind_kept l acts d run k kept under found = go (nat_lt kept (stays_at v k)) refl
  where
    v : Server
    v = (state_after l acts).server_at d

    es : List Entry
    es = order_at v k

    ordered : IsOrdered es
    ordered = (orders_agree l acts d run).ordered k (omega (arith, under))

    same : take (stays_at v k) v.order ≡ take (stays_at v k) es
    same = ap (take (stays_at v k)) (sym (order_now v)) ∙ front_stays l acts d k (current v) run (omega (arith, under)) (omega arith)

    none : place_of_epoch (last_epoch es) 0 (take (stays_at v k) es) ≡ None
    none = none_above (take (stays_at v k) es) (ordered-take es (stays_at v k) ordered) (last_epoch es) (front_low es ordered (stays_at v k))

    go : (b : Bool) → nat_lt kept (stays_at v k) ≡ b → stays_at v k ≤ kept
    go false is = ltb-false kept (stays_at v k) is
    go true is =
        absurd (clash (place_of_epoch (last_epoch es) 0 (take (stays_at v k) es)) kept
        (ap (place_of_epoch (last_epoch es) 0) (sym same)
        ∙ place_front (last_epoch es) 0 (stays_at v k) kept v.order found (omega (arith, ltb-true kept (stays_at v k) is))) none)

module _ (l : Layout) (c0 : CoresState) (m : Machine) (server now : ℕ) (input : DataIn) (outs : MoveOuts) (written : List Act) (new : Machine)
    (h : Holds l m) (run : IsRun l m.trail) (after_run : IsRun l new.trail) (shows : Mirrors c0 m) (allowed : Allowed c0 (ServerMove server now input))
    (goes : ServerGoes m server now input outs written new) where
  abbrev x : Site
  x = m.site_at server

  abbrev v : Server
  v = (state_after l m.trail).server_at server

  abbrev w : Server
  w = (after_all l (state_after l m.trail) written).server_at server

  abbrev y : Site
  y = server_site goes.node now input goes.data_outs goes.state (m.site_at server)

  abbrev t : Coming
  t = record { old = goes.node; now = now; input = input }

  node : NodeLink v x m.is_dead_at goes.node
  node = ends.link l c0 m server now input outs written new h run shows allowed goes

  dials : NodeDials x goes.node
  dials = ends.dials l c0 m server now input outs written new h run shows allowed goes

  module _ (a : ℕ) (alive : m.is_dead_at a ≡ false) (line : (x.end_at a).state.line ≡ Asking) (sn : Session) (has : (x.end_at a).state.session ≡ Some sn)
      (k : ℕ)
      (told : (x.end_at a).told ≡ Some (record { session = sn.number; order = k })) (c : Connection)
      (it : (x.end_at a).connection_at (x.end_at a).state.dial ≡ Some c)
      (way : AskedWay v x sn k c (downs_left c)) (other : has_welcome (downs_left c) ≡ false) where
    abbrev n : ℕ
    n = (x.end_at a).state.dial

    abbrev d : Connection
    d = conns.d l c0 m server now input outs written new h run after_run shows allowed goes a n c it

    abbrev put_now : List DownFrame
    put_now = conns.put_now l c0 m server now input outs written new h run after_run shows allowed goes a n c it

    module _ (g : FirstTaken) (at_first : d.first ≡ Some g) (role : role_of goes.node g.conn ≡ Some New) where
      abbrev q : ℕ
      q = g.conn

      abbrev e : ℕ
      e = last_epoch (order_at v k)

      abbrev FirstNow : Type 0
      FirstNow = conns.FirstNow l c0 m server now input outs written new h run after_run shows allowed goes a n c it g at_first

      first_now : FirstNow
      first_now =
          go (asked.whence l c0 m server now input outs written new h run after_run shows allowed goes a alive line sn has k told c it way other g at_first)
        where
          none_some : ◌≡◌ {A = Option Linked} None (Some (record { app = a; dial = n })) → ⊥
          none_some both = cc

          go : (c.first ≡ Some g) ⊎ FirstNow → FirstNow
          go (inl was) =
              absurd (none_some (sym (of_some (RoleIs x goes.node q) (role_of goes.node q) New role (dials.roles q))
              ∙ (of_some (FirstIs v x a n) c.first g was
              (conns.is l c0 m server now input outs written new h run after_run shows allowed goes a n c it).where_taken).linked))
          go (inr f) = f

      says : first_now.f.message ≡ up.Recover a sn.number e sn.window.taken n
      says =
          first_now.says
          ∙ ap (λ (z : Knew). first_message v a n z.session z.mark)
          (asked.knew l c0 m server now input outs written new h run after_run shows allowed goes a alive line sn has k told c it way other)

      -- nothing was put on it
      none_left : downs_left c ≡ []
      none_left =
          none_dropped c.downs_taken c.downs ((conns.is l c0 m server now input outs written new h run after_run shows allowed goes a n c it).silent untaken)
        where
          unlinked : nat_lt 0 c.ups_taken ≡ false
          unlinked =
              sym (conns.is l c0 m server now input outs written new h run after_run shows allowed goes a n c it).linked
              ∙ sym (conns.is l c0 m server now input outs written new h run after_run shows allowed goes a n c it).taken
              ∙ ap (λ (o : Option FirstTaken). is_some o) first_now.none

          untaken : c.ups_taken ≡ 0
          untaken = omega (arith, ltb-false 0 c.ups_taken unlinked)

      put_it : RecoverPut goes.node goes.state q a sn.number e sn.window.taken n goes.data_outs
      put_it =
          recover_put goes.node goes.state goes.data_outs now q first_now.f a sn.number e sn.window.taken n role dials.differ
          (λ conn r bound same. (let both : Some (Bound r) ≡ Some New = sym bound ∙ ap (role_of goes.node) same ∙ role in absurd cc))
          (ends.node l c0 m server now input outs written new h run shows allowed goes).round.is_on
          (all_follow (ReplyWaits v x goes.node) (λ (r : Reply). goes.node.synced < r.at) (λ r is. is.unsynced) goes.node.replies node.replies) says
          (subst (λ (i : DataIn). DataStep goes.node now i goes.data_outs goes.state) first_now.its goes.steps)

      -- its first frame was taken in the order that runs
      first_is : d.first ≡ Some (record { order = x.past; conn = q })
      first_is =
          by (heard_from x.past put_now ((z.end_at a).connection_at n) ((y.end_at a).connection_at n) d (site.each a n)
          (conns.after l c0 m server now input outs written new h run after_run shows allowed goes a n c it).there)
        where
          z : Site
          z = server_takes input x

          site : SiteAfter x z y goes.data_outs.frames
          site = conns.site l c0 m server now input outs written new h run after_run shows allowed goes a n c it g at_first

          came : Came (record { old = goes.node; now = now; input = input }) q (up.Recover a sn.number e sn.window.taken n)
          came = record { up = first_now.f; its = first_now.its; says = says }

          recover : LinkedTo z q a (RecoverAlone v x a sn.number e)
          recover = recover_on l c0 m server now input outs written new h run shows allowed goes q a sn.number e sn.window.taken n came

          dial_is : recover.dial ≡ n
          dial_is =
              (same_link a a recover.dial n
              (sym recover.link ∙ sym (site.links q)
              ∙ conns.linked_now l c0 m server now input outs written new h run after_run shows allowed goes a n c it g at_first)).1

          by : (zc : Connection) × (((z.end_at a).connection_at n ≡ Some zc) × HeardLater x.past put_now zc d)
              → d.first ≡ Some (record { order = x.past; conn = q })
          by zc =
              zc.1.1.first
              ∙ subst (λ (o : Option Connection). IsSomeAnd o (λ (u : Connection). u.first ≡ Some (record { order = z.past; conn = q }))) zc.1.0
              (subst (λ (i : ℕ). IsSomeAnd ((z.end_at a).connection_at i) (λ (u : Connection). u.first ≡ Some (record { order = z.past; conn = q }))) dial_is
              recover.first)
              ∙ ap (λ (i : ℕ). Some (record { order = i; conn = q }))
              (conns.takes_past l c0 m server now input outs written new h run after_run shows allowed goes)

      reset_put : ResetPut goes.node q sn.number goes.data_outs → AskedWay w y sn k d (downs_left d)
      reset_put p =
          closing.reset_way l c0 m server now input outs written new h run after_run shows allowed goes a alive line sn has k told c it way other q sn.number
          p.place first_is refl (omega (arith, p.low, base.no_less l c0 m server now input outs written new h run after_run shows allowed goes))
          (close_stands goes.node.order sn.number p.place p.closed) none_left
          (asked.put_is l c0 m server now input outs written new h run after_run shows allowed goes a alive line sn has k told c it way other g at_first
          ∙ p.put)

      epoch_put : EpochPut goes.node goes.state q a sn.number e n goes.data_outs → AskedWay w y sn k d (downs_left d)
      epoch_put p =
          subst (λ (fs : List DownFrame). AskedWay w y sn k d fs)
          (sym (conns.d_left l c0 m server now input outs written new h run after_run shows allowed goes a n c it
          ∙ ap (λ (fs : List DownFrame). fs ++ put_now) none_left
          ∙ asked.put_is l c0 m server now input outs written new h run after_run shows allowed goes a alive line sn has k told c it way other g at_first
          ∙ p.put))
          (refl, inr welcome)
        where
          order_v : order_at v x.past ≡ goes.node.order
          order_v = base.order_v l c0 m server now input outs written new h run after_run shows allowed goes

          past_now : x.past ≡ current v
          past_now = base.past_now l c0 m server now input outs written new h run after_run shows allowed goes

          node_order : goes.node.order ≡ v.order
          node_order = (ends.order l c0 m server now input outs written new h run shows allowed goes).order

          apart : k ≢ current v
          apart same =
              absurd (omega (arith, p.older, ap (λ (i : ℕ). last_epoch (order_at v i)) (same ∙ sym past_now), ap last_epoch order_v))

          under : k < current v
          under =
              omega (
                arith,
                asked.k_there l c0 m server now input outs written new h run after_run shows allowed goes a alive line sn has k told c it way
                    other,
                apart,
              )

          waits : WaitsEpoch v goes.node sn.number p.kept (record { order = k; taken = sn.window.taken })
          waits =
              record {
                later = under;
                place = p.known;
                kept_more = behind_kept l m.trail server run k p.kept under
                    (ap (place_of_epoch e 0) (sym node_order) ∙ p.known);
              }

          unlearnt : (x.lane_at sn.number x.past).began ≡ None
          unlearnt =
              recover_unlearnt v x m.is_dead_at goes.node (h.sites server).dials dials node_order (h.sites server).order.past a sn.number e sn.window.taken n
              first_now.f first_now.came says
              (ends.low_app l c0 m server now input outs written new h run shows allowed goes first_now.f a sn.number e sn.window.taken n
              (ends.frame_may l c0 m server now input outs written new h run shows allowed goes q first_now.f first_now.its) says)
              (λ b is. one b a (sym is ∙ p.its)) p.older p.later
            where
              one : (i j : ℕ) → Some i ≡ Some j → i ≡ j
              one i j both = cc

          within_old : goes.node.synced ≤ length goes.node.order
          within_old = served.within l c0 m server now input outs written new h run shows allowed goes

          within : goes.state.synced ≤ length goes.state.order
          within = omega (arith, p.same_synced, within_old, ap (λ (es : List Entry). length es) p.order)

          header : IsHeader goes.state.order goes.state.synced sn.number (head_of goes.node sn.number)
          header =
              subst (λ (es : List Entry). IsHeader es goes.state.synced sn.number (head_of goes.node sn.number)) (sym p.order)
              (subst (λ (i : ℕ). IsHeader goes.node.order i sn.number (head_of goes.node sn.number)) (sym p.same_synced)
              (head_is goes.node sn.number within_old))

          its : d.its ≡ Some (record { session = sn.number; order = x.past })
          its =
              conns.d_its l c0 m server now input outs written new h run after_run shows allowed goes a n c it
              ∙ ap (λ (fs : List DownFrame). (with_downs x.past fs c).its)
              (asked.put_is l c0 m server now input outs written new h run after_run shows allowed goes a alive line sn has k told c it way other g at_first
              ∙ p.put)

          welcome : EpochWelcomeOn w y sn k d sn.number (last_epoch goes.node.order) p.kept (head_of goes.node sn.number) 0 []
          welcome =
              base.welcome_of_epoch l c0 m server now input outs written new h run after_run shows allowed goes sn.number k p.kept sn.window.taken
              (head_of goes.node sn.number) sn d refl
              (asked.epoch_is l c0 m server now input outs written new h run after_run shows allowed goes a alive line sn has k told c it way other)
              (asked.stays_k l c0 m server now input outs written new h run after_run shows allowed goes a alive line sn has k told c it way other) waits
              unlearnt (omega arith) header refl
              (omega (arith, p.synced, p.same_synced)) within its
              (conns.whole_new l c0 m server now input outs written new h run after_run shows allowed goes a n c it sn.number x.past its
              ((base.lanes l c0 m server now input outs written new h run after_run shows allowed goes sn.number x.past).began ∙ unlearnt))

      pub recovers : (SamePut goes.node goes.state q sn.number e sn.window.taken goes.data_outs → downs_left c ≡ [] → AskedWay w y sn k d (downs_left d))
          → AskedWay w y sn k d (downs_left d)
      recovers same = go put_it
        where
          go : RecoverPut goes.node goes.state q a sn.number e sn.window.taken n goes.data_outs → AskedWay w y sn k d (downs_left d)
          go (inl none) =
              asked.silent_on l c0 m server now input outs written new h run after_run shows allowed goes a alive line sn has k told c it way other g at_first
              none
          go (inr (inl p)) = reset_put p
          go (inr (inr (inl p))) = epoch_put p
          go (inr (inr (inr p))) = same p none_left
