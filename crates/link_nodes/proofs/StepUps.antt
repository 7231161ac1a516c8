-- What is on its way upwards on the connections of live sessions after each step of a data server, from the invariant.
use Rattle.std.proofs.Common.{◌≡◌, ◌⊎◌, inl, inr, ◌+◌, ◌==◌, if◌then◌else◌, ℕ, Bool, true, false, List, [], ◌∷◌, length, drop, Option, Some, None, is_some, refl, sym, ◌∙◌, ap, subst, arith}
use Rattle.std.specs.Prelude.{IfSome, IsSomeAnd, nat_lt}
use Rattle.std.proofs.lemmas.Bool.{eqb-true, false≢true}
use Rattle.plain_orders.specs.declared.act.Act.{Act}
use Rattle.plain_orders.specs.declared.layout.Layout.{Layout}
use Rattle.plain_orders.specs.Entries.{live}
use Rattle.plain_runs.specs.Plain.{Server}
use Rattle.plain_runs.specs.Run.{IsRun, after_all, state_after}
use Rattle.ecp_messages.specs.declared.up.Up.{Up}
use Rattle.ecp_messages.specs.declared.up.UpFrame.{UpFrame}
use Rattle.app_rules.specs.AppState.{AppEnd}
use Rattle.data_rules.specs.DataState.{DataState}
use Rattle.data_rules.specs.declared.data_in.DataIn.{DataIn}
use Rattle.data_rules.specs.declared.data_in.DataIn.TheVariants as data_in
use Rattle.data_rules.specs.declared.rows.Kind.TheVariants.{Unnumbered}
use Rattle.data_rules.specs.declared.rows.Role.{Role}
use Rattle.data_rules.specs.declared.rows.Role.TheVariants.{Bound}
use Rattle.data_rules.specs.Conns.{role_of}
use Rattle.data_rules.specs.Frames.{kind_of}
use Rattle.data_rules.specs.Puts.{Sofar, becomes, begun, window_of}
use Rattle.data_rules.specs.Saving.{writes_synced}
use Rattle.data_rules.specs.Step.{DataMay, DataStep, made}
use Rattle.cluster_runs.specs.declared.move_outs.MoveOuts.{MoveOuts}
use Rattle.cluster_runs.specs.declared.moves.Move.TheVariants.{Server as ServerMove}
use Rattle.cluster_runs.specs.CoresState.{CoresState, Linked}
use Rattle.cluster_runs.specs.Connections.{is_link, link_of}
use Rattle.cluster_runs.specs.Goes.{ServerGoes, server_site, server_takes}
use Rattle.cluster_runs.specs.Machine.{Machine, Site}
use Rattle.cluster_runs.specs.Mirrors.{Mirrors}
use Rattle.cluster_runs.specs.Moves.{Allowed}
use Rattle.cluster_runs.specs.Sent.{Connection, FirstTaken, Lane}
use Rattle.cluster_invariant.specs.Dials.{BoundIs, DialsAre, IsLinkedBy, LinkedTo, NodeDials, RoleIs}
use Rattle.cluster_invariant.specs.Ends.{HelloAlone}
use Rattle.cluster_invariant.specs.Holds.{Holds, SiteHolds}
use Rattle.cluster_invariant.specs.Link.{LaneCounts, NodeLink, UpWay, UpWayBy, UpWayOn, is_joined_on}
use Rattle.cluster_invariant.specs.Words.{IsFront, numbered_behind, numbered_ups, ups_left}
use Rattle.cluster_invariant.proofs.OrderKept.{step_site}
use Rattle.cluster_invariant.proofs.PieceMay.{Coming, TakesMay, begins}
use Rattle.cluster_invariant.proofs.Small.{of_some}
use Rattle.data_ends_kept.proofs.HellosTaken.{its_link, link_is}
use Rattle.data_ends_kept.proofs.NodeEndsServer as ends
use Rattle.dials_server.proofs.FittingNodes.{same_link}
use Rattle.dials_server.proofs.QuietServer.{of_some_and}
use Rattle.link_kept.proofs.AppLater.{LaneLater}
use Rattle.link_kept.proofs.FitsWell.{may_close}
use Rattle.link_kept.proofs.FramesFit.{NextIs, begins_old}
use Rattle.link_kept.proofs.ServesServer.{ServesAfter, live_within}
use Rattle.link_nodes.proofs.BoundsGo.{Whence}
use Rattle.link_nodes.proofs.FrameTaken.{frame_counts}
use Rattle.link_nodes.proofs.GoneGo.{IsGone}
use Rattle.link_nodes.proofs.NodeReplies.{heard_from, took_from}
use Rattle.link_nodes.proofs.NodeUps.{UpsTook, frame_took, never_bare, next_of, not_joined, quiet_took, ups_left_took, way_empty, way_next, way_same}
use Rattle.link_nodes.proofs.RecoverComes.{RecoverAlone}
use Rattle.link_nodes.proofs.ServedNow.{left}
use Rattle.link_nodes.proofs.ServedSteps as served
use Rattle.link_nodes.proofs.SiteAfter.{Heard, SiteAfter, Took, left_one, link_takes, put_on, same_to, site_after, took_at}
use Rattle.link_nodes.proofs.StepReplies.{hello_on, recover_on}
use Rattle.link_nodes.proofs.TakenGo.{TakenIs, taken_piece, taken_same}

-- how many are taken once a frame is
abbrev with_one : ℕ → ℕ → ℕ
with_one seq n = if seq == 0 then n else n + 1

-- what its number says
number_says : (f : UpFrame) (rest : List UpFrame) (lane : Lane) (joined : Bool) → LaneCounts lane → UpWay lane (f ∷ rest) joined
    → ((f.seq ≡ 0) × (with_one f.seq lane.up_taken ≡ lane.up_taken)) ⊎ ((kind_of f.message ≡ Unnumbered → ⊥) × ((f.seq ≡ lane.up_taken + 1) × (with_one f.seq lane.up_taken ≡ lane.up_taken + 1)))
number_says f rest lane joined counts way = go (f.seq == 0) refl way.next
  where
    go : (z : Bool) → (f.seq == 0) ≡ z → IsFront (if z then numbered_ups rest else (f.seq, f.message) ∷ numbered_ups rest) (numbered_behind lane.up_taken lane.up)
        → ((f.seq ≡ 0) × ((if z then lane.up_taken else lane.up_taken + 1) ≡ lane.up_taken))
        ⊎ ((kind_of f.message ≡ Unnumbered → ⊥) × ((f.seq ≡ lane.up_taken + 1) × ((if z then lane.up_taken else lane.up_taken + 1) ≡ lane.up_taken + 1)))
    go true is front = inl (eqb-true f.seq 0 is, refl)
    go false is front = inr (
      never_bare lane.up_taken f.seq f.message lane.up (next_of lane.up_taken f.seq f.message (numbered_ups rest) lane.up front) counts.ups,
      ((next_of lane.up_taken f.seq f.message (numbered_ups rest) lane.up front).number, refl),
    )

module _ (l : Layout) (c : CoresState) (m : Machine) (server now : ℕ) (input : DataIn) (outs : MoveOuts) (written : List Act) (new : Machine)
    (h : Holds l m) (run : IsRun l m.trail) (shows : Mirrors c m) (allowed : Allowed c (ServerMove server now input)) (goes : ServerGoes m server now input outs written new) where
  abbrev x : Site
  x = m.site_at server

  abbrev v : Server
  v = (state_after l m.trail).server_at server

  abbrev w : Server
  w = (after_all l (state_after l m.trail) written).server_at server

  abbrev old : DataState
  old = goes.node

  abbrev next : DataState
  next = goes.state

  abbrev z : Site
  z = server_takes input (m.site_at server)

  abbrev y : Site
  y = server_site goes.node now input goes.data_outs goes.state (m.site_at server)

  abbrev t : Coming
  t = record { old = goes.node; now = now; input = input }

  abbrev lane_of : ℕ → Lane
  lane_of s = (m.site_at server).lane_at s (m.site_at server).past

  its : SiteHolds l server m.is_dead_at v x
  its = h.sites server

  node : NodeLink v x m.is_dead_at old
  node = ends.link l c m server now input outs written new h run shows allowed goes

  abbrev KnownAt : Sofar → Type 0
  KnownAt b = served.Known l c m server now input outs written new h run shows allowed goes b

  counts : (s : ℕ) → LaneCounts (lane_of s)
  counts s = its.link.lanes s x.past

  after : SiteAfter x z y goes.data_outs.frames
  after = site_after goes.node now input goes.data_outs goes.state (m.site_at server)

  went : ServesAfter old next x y (may_close input) × (KnownAt (made next goes.data_outs) × Unit {0})
  went = served.served_by_step l c m server now input outs written new h run shows allowed goes (left l c m server now input outs written new h run shows allowed goes) (λ b. Unit {0}) (λ q b made_so well k g. tt) tt

  bound_old : (conn s : ℕ) → role_of old conn ≡ Some (Bound s) → BoundIs x old conn s
  bound_old conn s was = of_some (RoleIs x old conn) (role_of old conn) (Bound s) was ((ends.dials l c m server now input outs written new h run shows allowed goes).roles conn)

  -- of the session of a connection that no frame came on nothing is taken
  quiet_taken : (conn s : ℕ) → role_of old conn ≡ Some (Bound s) → ((f : UpFrame) → input ≡ data_in.Frame conn f → ⊥) → live next.order s ≡ true → (window_of next s).taken ≡ (lane_of s).up_taken
  quiet_taken conn s was quiet lives =
      (served.served_by_step l c m server now input outs written new h run shows allowed goes (left l c m server now input outs written new h run shows allowed goes)
      (TakenIs s (lane_of s).up_taken)
      (λ q b made_so well k g. taken_piece s (lane_of s).up_taken t q b made_so (λ n f takes. none_taken b n f takes)
      (λ n kept again. none_again (served.again_unlearnt l c m server now input outs written new h run shows allowed goes s n kept b k again)) g) (begin input)).1.1.counted lives
    where
      old_lives : live old.order s ≡ true
      old_lives = (bound_old conn s was).lives

      at_old : TakenIs s (lane_of s).up_taken (begun old)
      at_old = record {
        there = live_within old.order (ends.from l c m server now input outs written new h run shows allowed goes).ordered s old_lives;
        counted = λ is. (node.windows.each s old_lives).taken;
      }

      none_taken : (b : Sofar) (n : ℕ) (f : UpFrame) → TakesMay t n s f b → ⊥
      none_taken b n f takes = quiet f (takes.on.came ∙ ap (λ (i : ℕ). data_in.Frame i f) same)
        where
          role : role_of old n ≡ Some (Bound s)
          role = sym (ap (λ (d : DataState). role_of d n) (ap (λ (e : Sofar). e.state) takes.first ∙ begins_old t n f takes.on.came)) ∙ takes.on.bound

          one : (i j : ℕ) → Some i ≡ Some j → i ≡ j
          one i j both = cc

          same : n ≡ conn
          same = one n conn (sym (bound_old n s role).its ∙ (bound_old conn s was).its)

      none_again : (lane_of s).began ≡ None → (lane_of s).up_taken ≡ 0
      none_again unlearnt = omega (arith, (counts s).up_taken, ap (λ (ms : List Up). length ms) ((counts s).no_up unlearnt))

      begin : (i : DataIn) → TakenIs s (lane_of s).up_taken (begins (record { old = old; now = now; input = i }))
      begin (data_in.Frame n f) = at_old
      begin (data_in.Connected n) = at_old
      begin (data_in.Broken n) = at_old
      begin data_in.Tick = at_old
      begin (data_in.Saved upto) = go (nat_lt old.synced upto)
        where
          go : (rises : Bool) → TakenIs s (lane_of s).up_taken (becomes (λ d. record d { synced = upto }) (writes_synced rises upto (begun old)))
          go true = taken_same s (lane_of s).up_taken (begun old) _ refl refl at_old
          go false = taken_same s (lane_of s).up_taken (begun old) _ refl refl at_old

  -- of one that a frame came on it is, unless the connection went
  frame_taken : (conn s : ℕ) (f : UpFrame) (rest : List UpFrame) (joined : Bool) → role_of old conn ≡ Some (Bound s) → input ≡ data_in.Frame conn f → UpWay (lane_of s) (f ∷ rest) joined
      → role_of next conn ≡ Some (Bound s) → live next.order s ≡ true → (window_of next s).taken ≡ with_one f.seq (lane_of s).up_taken
  frame_taken conn s f rest joined was came way role lives =
      go (frame_counts old now conn s (lane_of s).up_taken (with_one f.seq (lane_of s).up_taken) f was old_lives
      (live_within old.order (ends.from l c m server now input outs written new h run shows allowed goes).ordered s old_lives) (node.windows.each s old_lives).taken
      (number_says f rest (lane_of s) joined (counts s) way) (made next goes.data_outs) (subst (λ (i : DataIn). DataStep old now i goes.data_outs next) came goes.steps))
    where
      old_lives : live old.order s ≡ true
      old_lives = (bound_old conn s was).lives

      go : IsGone conn (made next goes.data_outs) ⊎ TakenIs s (with_one f.seq (lane_of s).up_taken) (made next goes.data_outs) → (window_of next s).taken ≡ with_one f.seq (lane_of s).up_taken
      go (inl gone) = absurd (let both : ◌≡◌ {A = Option Role} None (Some (Bound s)) = sym gone ∙ role in cc)
      go (inr is) = is.counted lives

  module _ (dials_new : DialsAre w y m.is_dead_at) where
    node_new : NodeDials y next
    node_new = of_some (NodeDials y) y.node next (step_site goes.node now input goes.data_outs goes.state (m.site_at server)).node dials_new.node

    -- no other data connection is linked to it
    one_linked : (conn n a i : ℕ) → link_of y conn ≡ Some (record { app = a; dial = i }) → link_of z n ≡ Some (record { app = a; dial = i }) → n ≡ conn
    one_linked conn n a i link also = go ((y.end_at a).connection_at i) (linked conn link) (linked n (after.links n ∙ also))
      where
        linked : (k : ℕ) → link_of y k ≡ Some (record { app = a; dial = i }) → IsSomeAnd ((y.end_at a).connection_at i) (λ c. IsSomeAnd c.first (λ f. f.conn ≡ k))
        linked k is = of_some (IsLinkedBy y k) (link_of y k) (record { app = a; dial = i }) is (dials_new.links k)

        by : (o : Option FirstTaken) → IsSomeAnd o (λ f. f.conn ≡ conn) → IsSomeAnd o (λ f. f.conn ≡ n) → n ≡ conn
        by None p q = absurd p
        by (Some f) p q = sym q ∙ p

        go : (o : Option Connection) → IsSomeAnd o (λ c. IsSomeAnd c.first (λ f. f.conn ≡ conn)) → IsSomeAnd o (λ c. IsSomeAnd c.first (λ f. f.conn ≡ n)) → n ≡ conn
        go None p q = absurd p
        go (Some d) p q = by d.first p q

    module _ (conn s : ℕ) (role : role_of next conn ≡ Some (Bound s)) (b : BoundIs y next conn s) (d e o : Connection) (heard : Heard x.past (put_on z b.app b.linked.dial goes.data_outs.frames) e d)
        (at_z : (z.end_at b.app).connection_at b.linked.dial ≡ Some e) (at_x : (x.end_at b.app).connection_at b.linked.dial ≡ Some o) (took : Took o e) where
      abbrev joined : Bool
      joined = is_joined_on (m.is_dead_at b.app) (x.end_at b.app).state b.linked.dial s

      lane_later : LaneLater (lane_of s) (y.lane_at s y.past)
      lane_later = subst (λ (k : ℕ). LaneLater (lane_of s) (y.lane_at s k)) (sym after.past) (went.0.goes_on s x.past)

      lane_taken : (y.lane_at s y.past).up_taken ≡ (window_of next s).taken
      lane_taken = sym (went.0.windows.windows.each s b.lives).taken

      left_same : ups_left d ≡ ups_left e
      left_same = ap (λ (n : ℕ). drop n d.ups) heard.ups_taken ∙ ap (drop e.ups_taken) heard.ups

      -- a first frame alone came on it
      alone : drop 1 e.ups ≡ [] → e.ups_taken ≡ 1 → e.its ≡ None → UpWay (y.lane_at s y.past) (ups_left d) joined
      alone one taken none =
          subst (λ (fs : List UpFrame). UpWay (y.lane_at s y.past) fs joined) (sym (left_same ∙ ap (λ (n : ℕ). drop n e.ups) taken ∙ one))
          (way_empty (y.lane_at s y.past) joined (not_joined v x (m.is_dead_at b.app) b.app b.linked.dial s o at_x (λ alive. (its.link.apps b.app alive).down) (sym took.its ∙ none)))

      link_z : link_of z conn ≡ Some (record { app = b.app; dial = b.linked.dial })
      link_z = sym (after.links conn) ∙ b.linked.link

      module _ (was : role_of old conn ≡ Some (Bound s)) where
        bo : BoundIs x old conn s
        bo = bound_old conn s was

        not_new : input ≡ data_in.Connected conn → ⊥
        not_new same = false≢true (sym (subst (DataMay old) same (ends.may l c m server now input outs written new h run shows allowed goes)) ∙ ap (λ (q : Option Role). is_some q) was)

        link_old : link_of x conn ≡ Some (record { app = b.app; dial = b.linked.dial })
        link_old =
            bo.linked.link ∙ sym (link_takes input x conn (record { app = bo.app; dial = bo.linked.dial }) not_new bo.linked.link) ∙ link_z

        way : UpWay (lane_of s) (ups_left o) joined
        way =
            of_some (UpWayOn (lane_of s) (m.is_dead_at b.app) (x.end_at b.app).state b.linked.dial s) ((x.end_at b.app).connection_at b.linked.dial) o at_x
            (of_some (UpWayBy x m.is_dead_at s) (link_of x conn) (record { app = b.app; dial = b.linked.dial }) link_old (node.ups s conn was))

        -- no frame came on it
        still : UpsTook 0 o e → ((f : UpFrame) → input ≡ data_in.Frame conn f → ⊥) → UpWay (y.lane_at s y.past) (ups_left d) joined
        still same quiet =
            subst (λ (fs : List UpFrame). UpWay (y.lane_at s y.past) fs joined) (sym (left_same ∙ ups_left_took 0 o e same))
            (way_same (lane_of s) (y.lane_at s y.past) (ups_left o) joined lane_later (lane_taken ∙ quiet_taken conn s was quiet b.lives) way)

        -- one did
        came : (f : UpFrame) → input ≡ data_in.Frame conn f → UpsTook 1 o e → UpWay (y.lane_at s y.past) (ups_left d) joined
        came f is one = go (served.at_frame l c m server now input outs written new h run shows allowed goes).next
          where
            go : ((n : ℕ) (g : UpFrame) (k : Linked) → input ≡ data_in.Frame n g → link_of x n ≡ Some k → NextIs x k g) → UpWay (y.lane_at s y.past) (ups_left d) joined
            go nexts =
                subst (λ (fs : List UpFrame). UpWay (y.lane_at s y.past) fs joined) (sym (left_same ∙ ups_left_took 1 o e one ∙ ap (drop 1) first))
                (way_next (lane_of s) (y.lane_at s y.past) f n.rest joined lane_later
                (lane_taken ∙ frame_taken conn s f n.rest joined was is (subst (λ (fs : List UpFrame). UpWay (lane_of s) fs joined) first way) role b.lives)
                (subst (λ (fs : List UpFrame). UpWay (lane_of s) fs joined) first way))
              where
                n : NextIs x (record { app = b.app; dial = b.linked.dial }) f
                n = nexts conn f (record { app = b.app; dial = b.linked.dial }) is link_old

                same_conn : (i j : Connection) → Some i ≡ Some j → i ≡ j
                same_conn i j same = cc

                first : ups_left o ≡ f ∷ n.rest
                first = ap (λ (q : Connection). ups_left q) (same_conn o n.on (sym at_x ∙ n.there)) ∙ n.left

        by_input : (i : DataIn) → input ≡ i → UpWay (y.lane_at s y.past) (ups_left d) joined
        by_input (data_in.Frame n f) is = go (is_link b.app b.linked.dial (link_of z n)) refl
          where
            at_i : ((server_takes (data_in.Frame n f) x).end_at b.app).connection_at b.linked.dial ≡ Some e
            at_i = subst (λ (i : DataIn). ((server_takes i x).end_at b.app).connection_at b.linked.dial ≡ Some e) is at_z

            linked_i : (here : Bool) → is_link b.app b.linked.dial (link_of z n) ≡ here → is_link b.app b.linked.dial (link_of (server_takes (data_in.Frame n f) x) n) ≡ here
            linked_i here same = subst (λ (i : DataIn). is_link b.app b.linked.dial (link_of (server_takes i x) n) ≡ here) is same

            go : (here : Bool) → is_link b.app b.linked.dial (link_of z n) ≡ here → UpWay (y.lane_at s y.past) (ups_left d) joined
            go true same =
                came f (is ∙ ap (λ (k : ℕ). data_in.Frame k f) (one_linked conn n b.app b.linked.dial b.linked.link (link_is b.app b.linked.dial (link_of z n) same)))
                (frame_took x n f b.app b.linked.dial o e at_x at_i true (linked_i true same))
            go false same = still (frame_took x n f b.app b.linked.dial o e at_x at_i false (linked_i false same)) (λ g it. other g it)
              where
                number : (p q : ℕ) (g : UpFrame) → data_in.Frame p f ≡ data_in.Frame q g → p ≡ q
                number p q g both = cc

                other : (g : UpFrame) → input ≡ data_in.Frame conn g → ⊥
                other g it =
                    absurd (false≢true (sym same ∙ ap (is_link b.app b.linked.dial) (ap (link_of z) (number n conn g (sym is ∙ it)) ∙ link_z) ∙ its_link b.app b.linked.dial))
        by_input (data_in.Connected n) is =
            still (quiet_took ((x.end_at b.app).connection_at b.linked.dial) ((x.end_at b.app).connection_at b.linked.dial) o e (same_to ((x.end_at b.app).connection_at b.linked.dial)) at_x
            (subst (λ (i : DataIn). ((server_takes i x).end_at b.app).connection_at b.linked.dial ≡ Some e) is at_z)) (λ f it. (let both : data_in.Connected n ≡ data_in.Frame conn f = sym is ∙ it in cc))
        by_input (data_in.Broken n) is =
            still (quiet_took ((x.end_at b.app).connection_at b.linked.dial) (((server_takes (data_in.Broken n) x).end_at b.app).connection_at b.linked.dial) o e (left_one x n b.app b.linked.dial) at_x
            (subst (λ (i : DataIn). ((server_takes i x).end_at b.app).connection_at b.linked.dial ≡ Some e) is at_z)) (λ f it. (let both : data_in.Broken n ≡ data_in.Frame conn f = sym is ∙ it in cc))
        by_input data_in.Tick is =
            still (quiet_took ((x.end_at b.app).connection_at b.linked.dial) ((x.end_at b.app).connection_at b.linked.dial) o e (same_to ((x.end_at b.app).connection_at b.linked.dial)) at_x
            (subst (λ (i : DataIn). ((server_takes i x).end_at b.app).connection_at b.linked.dial ≡ Some e) is at_z)) (λ f it. (let both : data_in.Tick ≡ data_in.Frame conn f = sym is ∙ it in cc))
        by_input (data_in.Saved upto) is =
            still (quiet_took ((x.end_at b.app).connection_at b.linked.dial) ((x.end_at b.app).connection_at b.linked.dial) o e (same_to ((x.end_at b.app).connection_at b.linked.dial)) at_x
            (subst (λ (i : DataIn). ((server_takes i x).end_at b.app).connection_at b.linked.dial ≡ Some e) is at_z)) (λ f it. (let both : data_in.Saved upto ≡ data_in.Frame conn f = sym is ∙ it in cc))

      -- by where the connection is from
      ups_from : Whence t (served.W l c m server now input outs written new h run shows allowed goes) next.order conn s → UpWay (y.lane_at s y.past) (ups_left d) joined
      ups_from (inl was) = by_input was input refl
      ups_from (inr (inl n)) = go (hello_on l c m server now input outs written new h run shows allowed goes conn n.app n.called)
        where
          go : LinkedTo z conn n.app HelloAlone → UpWay (y.lane_at s y.past) (ups_left d) joined
          go k = by (of_some_and HelloAlone ((z.end_at n.app).connection_at k.dial) e (ap (λ (i : ℕ). (z.end_at i).connection_at k.dial) (sym same.0) ∙ ap (z.end_at b.app).connection_at (sym same.1) ∙ at_z) k.its)
            where
              same : (b.app ≡ n.app) × (b.linked.dial ≡ k.dial)
              same = same_link b.app n.app b.linked.dial k.dial (sym link_z ∙ k.link)

              by : HelloAlone e → UpWay (y.lane_at s y.past) (ups_left d) joined
              by a = alone a.one a.taken a.its
      ups_from (inr (inr r)) = go (recover_on l c m server now input outs written new h run shows allowed goes conn r.app s r.epoch r.taken r.dial r.came)
        where
          go : LinkedTo z conn r.app (RecoverAlone v x r.app s r.epoch) → UpWay (y.lane_at s y.past) (ups_left d) joined
          go k =
              by (of_some_and (RecoverAlone v x r.app s r.epoch) ((z.end_at r.app).connection_at k.dial) e
              (ap (λ (i : ℕ). (z.end_at i).connection_at k.dial) (sym same.0) ∙ ap (z.end_at b.app).connection_at (sym same.1) ∙ at_z) k.its)
            where
              same : (b.app ≡ r.app) × (b.linked.dial ≡ k.dial)
              same = same_link b.app r.app b.linked.dial k.dial (sym link_z ∙ k.link)

              by : RecoverAlone v x r.app s r.epoch e → UpWay (y.lane_at s y.past) (ups_left d) joined
              by a = alone a.one a.taken a.its

    -- Each connection of a live session.
    pub ups_now : (session conn : ℕ) → role_of next conn ≡ Some (Bound session) → IfSome (link_of y conn) (UpWayBy y m.is_dead_at session)
    ups_now s conn role = subst (λ (q : Option Linked). IfSome q (UpWayBy y m.is_dead_at s)) (sym b.linked.link) (go ((y.end_at b.app).connection_at b.linked.dial) refl)
      where
        b : BoundIs y next conn s
        b = of_some (RoleIs y next conn) (role_of next conn) (Bound s) role (node_new.roles conn)

        on : (d : Connection) → (y.end_at b.app).connection_at b.linked.dial ≡ Some d → UpWay (y.lane_at s y.past) (ups_left d) (is_joined_on (m.is_dead_at b.app) (x.end_at b.app).state b.linked.dial s)
        on d there = by (heard_from x.past (put_on z b.app b.linked.dial goes.data_outs.frames) ((z.end_at b.app).connection_at b.linked.dial) ((y.end_at b.app).connection_at b.linked.dial) d (after.each b.app b.linked.dial) there)
          where
            by : (e : Connection) × (((z.end_at b.app).connection_at b.linked.dial ≡ Some e) × Heard x.past (put_on z b.app b.linked.dial goes.data_outs.frames) e d)
                → UpWay (y.lane_at s y.past) (ups_left d) (is_joined_on (m.is_dead_at b.app) (x.end_at b.app).state b.linked.dial s)
            by h = and (took_from ((x.end_at b.app).connection_at b.linked.dial) ((z.end_at b.app).connection_at b.linked.dial) h.0 (took_at input x b.app b.linked.dial) h.1.0)
              where
                and : (o : Connection) × (((x.end_at b.app).connection_at b.linked.dial ≡ Some o) × Took o h.0)
                    → UpWay (y.lane_at s y.past) (ups_left d) (is_joined_on (m.is_dead_at b.app) (x.end_at b.app).state b.linked.dial s)
                and k = ups_from conn s role b d h.0 k.0 h.1.1 h.1.0 k.1.0 k.1.1 (went.1.0.bounds.whence conn s role)

        go : (q : Option Connection) → (y.end_at b.app).connection_at b.linked.dial ≡ q → IfSome q (UpWayOn (y.lane_at s y.past) (m.is_dead_at b.app) (y.end_at b.app).state b.linked.dial s)
        go None is = tt
        go (Some d) is = subst (λ (st : AppEnd). UpWay (y.lane_at s y.past) (ups_left d) (is_joined_on (m.is_dead_at b.app) st b.linked.dial s)) (sym (after.states b.app)) (on d is)
