-- The connection that an application end has, over a step of its data server: what is put on it, by the data connection that it is linked to
-- then, and what is known of both.
use Rattle.std.proofs.Common.{Bool, List, None, Option, Some, [], ap, arith, false, inl, inr, is_some, length, refl, subst, sym, true, ℕ, ◌++◌, ◌==◌, ◌∙◌}
use Rattle.std.proofs.Common.{◌∷◌, ◌≡◌, ◌≢◌, ◌≤◌, ◌⊎◌}
use Rattle.std.proofs.lemmas.Bool.{eq-eqb, ltb-false, ne_eqb}
use Rattle.std.proofs.lemmas.List.{append-nil}
use Rattle.std.specs.Prelude.{IfSome, IsSomeAnd, nat_lt}
use Rattle.cluster_invariant.proofs.OrderKept.{step_site}
use Rattle.cluster_invariant.proofs.OrdersStay.{stays_synced}
use Rattle.cluster_invariant.proofs.PastOrders.{order_now}
use Rattle.cluster_invariant.proofs.Small.{of_some, put_same}
use Rattle.cluster_invariant.specs.Dials.{ConnectionIs, DialsAre, FirstIs, IsLinkedBy, first_message}
use Rattle.cluster_invariant.specs.Ends.{NodeEnds}
use Rattle.cluster_invariant.specs.Holds.{Holds}
use Rattle.cluster_invariant.specs.Link.{WholeIf}
use Rattle.cluster_invariant.specs.Words.{downs_left, stays_at}
use Rattle.cluster_runs.specs.Connections.{is_link, link_of, with_downs}
use Rattle.cluster_runs.specs.CoresState.{CoresState}
use Rattle.cluster_runs.specs.Goes.{ServerGoes, at_site, server_site, server_takes}
use Rattle.cluster_runs.specs.Machine.{Machine, Site, with_acts}
use Rattle.cluster_runs.specs.Mirrors.{Mirrors}
use Rattle.cluster_runs.specs.Moves.{Allowed}
use Rattle.cluster_runs.specs.Sent.{Connection, FirstTaken, Mark}
use Rattle.cluster_runs.specs.declared.move_outs.MoveOuts.{MoveOuts}
use Rattle.data_ends_kept.proofs.HellosTaken.{link_after}
use Rattle.data_ends_kept.proofs.NodeEndsMoves.{NodeEndsAt}
use Rattle.data_puts.proofs.RecoverLearnt.{FirstCame, first_put}
use Rattle.data_rules.specs.Frames.{kind_of}
use Rattle.data_rules.specs.Puts.{Sofar}
use Rattle.data_rules.specs.Step.{DataStep}
use Rattle.data_rules.specs.declared.data_in.DataIn.{DataIn}
use Rattle.data_rules.specs.declared.rows.Kind.TheVariants.{Opening}
use Rattle.dials_server.proofs.LinkWords.{is_link_itself, is_link_true}
use Rattle.ecp_messages.specs.declared.down.DownFrame.{DownFrame}
use Rattle.ecp_messages.specs.declared.up.UpFrame.{UpFrame}
use Rattle.link_downs.proofs.LinkedConns.{frames_same}
use Rattle.link_downs.proofs.OnConn.{put_on}
use Rattle.link_downs.proofs.SiteConns.{After, Heard, frames_for, site_conn}
use Rattle.link_downs.proofs.WaysMore.{left_more}
use Rattle.link_firsts.proofs.WholeAfter.{whole_unlearnt}
use Rattle.link_kept.proofs.Later.{EnteredStays}
use Rattle.link_kept.proofs.WindowsGo.{same_or}
use Rattle.link_nodes.proofs.EnteredGo.{GoesBy}
use Rattle.link_nodes.proofs.SiteAfter.{SiteAfter, site_after}
use Rattle.link_nodes.proofs.StepGreets.{acts_go}
use Rattle.plain_orders.specs.Ordered.{IsOrdered}
use Rattle.plain_orders.specs.declared.act.Act.{Act}
use Rattle.plain_orders.specs.declared.entry.Entry.{Entry}
use Rattle.plain_orders.specs.declared.layout.Layout.{Layout}
use Rattle.plain_runs.proofs.OrderLaws.{orders_kept}
use Rattle.plain_runs.proofs.RunLemmas.{after_all-append}
use Rattle.plain_runs.specs.Plain.{Plain, Server, current, order_at, put, start}
use Rattle.plain_runs.specs.Run.{IsRun, after_all, state_after}
use Rattle.cluster_runs.specs.declared.moves.Move.TheVariants.{Server as ServerMove}
use Rattle.data_rules.specs.declared.data_in.DataIn.TheVariants as data_in
use Rattle.data_ends_kept.proofs.NodeEndsServer as ends
use Rattle.link_nodes.proofs.ServedSteps as served
use Rattle.link_downs.proofs.StepWays as step

module _ (l : Layout) (c0 : CoresState) (m : Machine) (server now : ℕ) (input : DataIn) (outs : MoveOuts) (written : List Act) (new : Machine)
    (h : Holds l m) (run : IsRun l m.trail) (after_run : IsRun l new.trail) (shows : Mirrors c0 m) (allowed : Allowed c0 (ServerMove server now input))
    (goes : ServerGoes m server now input outs written new) where
  abbrev pub x : Site
  x = m.site_at server

  abbrev pub v : Server
  v = (state_after l m.trail).server_at server

  abbrev pub w : Server
  w = (after_all l (state_after l m.trail) written).server_at server

  abbrev pub y : Site
  y = server_site goes.node now input goes.data_outs goes.state (m.site_at server)

  pub all_dials : DialsAre ((state_after l m.trail).server_at server) (m.site_at server) m.is_dead_at
  all_dials = (h.sites server).dials

  pub after_dials : DialsAre w y m.is_dead_at
  after_dials = step.dials_after l c0 m server now input outs written new h run after_run shows allowed goes

  pub runs_after : y.node ≡ Some goes.state
  runs_after = (step_site goes.node now input goes.data_outs goes.state (m.site_at server)).node

  pub past_after : y.past ≡ (m.site_at server).past
  past_after = (step_site goes.node now input goes.data_outs goes.state (m.site_at server)).past

  pub after_ends : NodeEnds w y goes.state
  after_ends = of_some (NodeEnds w y) y.node goes.state runs_after at_site_now
    where
      at_new : new ≡ with_acts written (at_site server (server_site goes.node now input goes.data_outs goes.state) m)
          → NodeEndsAt ((state_after l new.trail).server_at server) (new.site_at server)
          → NodeEndsAt ((state_after l (m.trail ++ written)).server_at server) (put m.site_at server y server)
      at_new same is = subst (λ (n : Machine). NodeEndsAt ((state_after l n.trail).server_at server) (n.site_at server)) same is

      at_site_now : NodeEndsAt w y
      at_site_now =
          subst (λ (p : Plain). NodeEndsAt (p.server_at server) y) (after_all-append l start m.trail written)
          (subst (λ (z : Site). NodeEndsAt ((state_after l (m.trail ++ written)).server_at server) z) (put_same m.site_at server y)
          (at_new goes.after (ends.node_ends_kept_by_server l c0 m server now input outs written new h run shows allowed goes server)))

  pub ordered_after : IsOrdered goes.state.order
  ordered_after = (ends.along l c0 m server now input outs written new h run shows allowed goes).ends.links.ordered

  pub takes_past : (server_takes input (m.site_at server)).past ≡ (m.site_at server).past
  takes_past = go input
    where
      go : (i : DataIn) → (server_takes i (m.site_at server)).past ≡ (m.site_at server).past
      go (data_in.Frame conn f) = refl
      go (data_in.Connected conn) = refl
      go (data_in.Broken conn) = refl
      go data_in.Tick = refl
      go (data_in.Saved upto) = refl

  -- nothing is put as a connection comes
  pub connected_silent : (q : ℕ) → input ≡ data_in.Connected q → goes.data_outs.frames ≡ []
  connected_silent q same = ap (λ (b : Sofar). b.outs.frames) (subst (λ (i : DataIn). DataStep goes.node now i goes.data_outs goes.state) same goes.steps)

  -- which input comes
  pub is_connected : (q : ℕ) → (input ≡ data_in.Connected q) ⊎ (input ≡ data_in.Connected q → ⊥)
  is_connected q = go input refl
    where
      go : (i : DataIn) → input ≡ i → (input ≡ data_in.Connected q) ⊎ (input ≡ data_in.Connected q → ⊥)
      go (data_in.Frame conn f) is = inr (λ same. (let both : data_in.Frame conn f ≡ data_in.Connected q = sym is ∙ same in absurd cc))
      go (data_in.Connected conn) is = by (same_or conn q)
        where
          by : (conn ≡ q) ⊎ (conn ≢ q) → (input ≡ data_in.Connected q) ⊎ (input ≡ data_in.Connected q → ⊥)
          by (inl same) = inl (is ∙ ap data_in.Connected same)
          by (inr apart) = inr (λ at. (let both : data_in.Connected conn ≡ data_in.Connected q = sym is ∙ at in absurd (apart cc)))
      go (data_in.Broken conn) is = inr (λ same. (let both : data_in.Broken conn ≡ data_in.Connected q = sym is ∙ same in absurd cc))
      go data_in.Tick is = inr (λ same. (let both : data_in.Tick ≡ data_in.Connected q = sym is ∙ same in absurd cc))
      go (data_in.Saved upto) is = inr (λ same. (let both : data_in.Saved upto ≡ data_in.Connected q = sym is ∙ same in absurd cc))

  pub is_tick : (input ≡ data_in.Tick) ⊎ (input ≡ data_in.Tick → ⊥)
  is_tick = go input refl
    where
      go : (i : DataIn) → input ≡ i → (input ≡ data_in.Tick) ⊎ (input ≡ data_in.Tick → ⊥)
      go (data_in.Frame conn f) is = inr (λ same. (let both : data_in.Frame conn f ≡ data_in.Tick = sym is ∙ same in absurd cc))
      go (data_in.Connected conn) is = inr (λ same. (let both : data_in.Connected conn ≡ data_in.Tick = sym is ∙ same in absurd cc))
      go (data_in.Broken conn) is = inr (λ same. (let both : data_in.Broken conn ≡ data_in.Tick = sym is ∙ same in absurd cc))
      go data_in.Tick is = inl is
      go (data_in.Saved upto) is = inr (λ same. (let both : data_in.Saved upto ≡ data_in.Tick = sym is ∙ same in absurd cc))

  -- what was entered for an application server is known still
  pub entered_still : (app : ℕ) → EnteredStays app ((state_after l m.trail).server_at server) w
  entered_still app = record {
    known = λ s k j low why is. go.low s (in_order s k low why) ∙ is;
    met = λ s j known none. go.unmet s none;
  }
    where
      go : GoesBy v w
      go = acts_go l c0 m server now input outs written new h run after_run shows allowed goes

      within : v.synced ≤ length v.order
      within = (orders_kept l m.trail server run).within

      in_order : (s k : ℕ) → k ≤ current v → (s ≤ stays_at v k) ⊎ (s ≤ length (order_at v (current v))) → s ≤ length v.order
      in_order s k low (inl stays) = omega (arith, stays, stays_synced l m.trail server k run low, within)
      in_order s k low (inr now_in) = omega (arith, now_in, ap (λ (es : List Entry). length es) (order_now v))

  module _ (a n : ℕ) (c : Connection) (it : ((m.site_at server).end_at a).connection_at n ≡ Some c) where
    pub after : After (Heard (server_takes input (m.site_at server)).past (frames_for (server_takes input (m.site_at server)) a n goes.data_outs.frames)) c
        ((y.end_at a).connection_at n)
    after = site_conn goes.node now input goes.data_outs goes.state (m.site_at server) a n c it

    abbrev pub d : Connection
    d = after.it

    abbrev pub put_now : List DownFrame
    put_now = frames_for (server_takes input (m.site_at server)) a n goes.data_outs.frames

    pub is : ConnectionIs ((state_after l m.trail).server_at server) (m.site_at server) a n c
    is = of_some (ConnectionIs v x a n) ((x.end_at a).connection_at n) c it ((all_dials.pairs a).each n)

    pub d_is : ConnectionIs w y a n after.it
    d_is = of_some (ConnectionIs w y a n) ((y.end_at a).connection_at n) d after.there ((after_dials.pairs a).each n)

    pub d_left : downs_left after.it ≡ downs_left c ++ put_now
    d_left = left_more c d put_now is.downs_taken after.is.downs after.is.downs_taken

    -- whose messages follow is by what is put
    pub d_its : after.it.its ≡ (with_downs (m.site_at server).past put_now c).its
    d_its = after.is.its ∙ ap (λ (k : ℕ). (with_downs k put_now c).its) takes_past

    pub silent_its : put_now ≡ [] → after.it.its ≡ c.its
    silent_its none = d_its ∙ ap (λ (fs : List DownFrame). (with_downs x.past fs c).its) none

    pub silent_left : put_now ≡ [] → downs_left after.it ≡ downs_left c
    silent_left none = d_left ∙ ap (λ (fs : List DownFrame). downs_left c ++ fs) none ∙ append-nil (downs_left c)

    -- without a first frame nothing was put
    pub none_first : after.it.first ≡ None → put_now ≡ []
    none_first none = behind c.downs put_now (sym after.is.downs ∙ d_is.silent untaken)
      where
        behind : (xs ys : List DownFrame) → xs ++ ys ≡ [] → ys ≡ []
        behind [] ys at = at
        behind (f ∷ xs) ys at = absurd cc

        unlinked : nat_lt 0 d.ups_taken ≡ false
        unlinked = sym d_is.linked ∙ sym d_is.taken ∙ ap (λ (o : Option FirstTaken). is_some o) none

        untaken : d.ups_taken ≡ 0
        untaken = omega (arith, ltb-false 0 d.ups_taken unlinked)

    module _ (g : FirstTaken) (at_first : after.it.first ≡ Some g) where
      pub linked_now : link_of y g.conn ≡ Some (record { app = a; dial = n })
      linked_now = (of_some (FirstIs w y a n) d.first g at_first d_is.where_taken).linked

      pub site : SiteAfter (m.site_at server) (server_takes input (m.site_at server)) y goes.data_outs.frames
      site = site_after goes.node now input goes.data_outs goes.state (m.site_at server)

      -- what is put on it is put on that data connection
      pub put_is : put_now ≡ put_on g.conn goes.data_outs.frames
      put_is = frames_same (server_takes input x) a n g.conn each goes.data_outs.frames
        where
          some_linked : (i : ℕ) → link_of (server_takes input x) i ≡ Some (record { app = a; dial = n }) → i ≡ g.conn
          some_linked i linked = by (of_some (IsLinkedBy y i) (link_of y i) (record { app = a; dial = n }) (site.links i ∙ linked) (after_dials.links i))
            where
              by : IsSomeAnd ((y.end_at a).connection_at n) (λ z. IsSomeAnd z.first (λ f. f.conn ≡ i)) → i ≡ g.conn
              by at =
                  sym (subst (λ (o : Option FirstTaken). IsSomeAnd o (λ f. f.conn ≡ i)) at_first
                  (subst (λ (o : Option Connection). IsSomeAnd o (λ z. IsSomeAnd z.first (λ f. f.conn ≡ i))) after.there at))

          its_link : link_of (server_takes input x) g.conn ≡ Some (record { app = a; dial = n })
          its_link = sym (site.links g.conn) ∙ linked_now

          each : (i : ℕ) → is_link a n (link_of (server_takes input x) i) ≡ (i == g.conn)
          each i = go (same_or i g.conn)
            where
              apart : i ≢ g.conn → (b : Bool) → is_link a n (link_of (server_takes input x) i) ≡ b → b ≡ false
              apart differs true at = absurd (differs (some_linked i (is_link_true a n (link_of (server_takes input x) i) at)))
              apart differs false at = refl

              go : (i ≡ g.conn) ⊎ (i ≢ g.conn) → is_link a n (link_of (server_takes input x) i) ≡ (i == g.conn)
              go (inl same) =
                  ap (λ (j : ℕ). is_link a n (link_of (server_takes input x) j)) same ∙ ap (is_link a n) its_link ∙ is_link_itself a n
                  ∙ sym (eq-eqb i g.conn same)
              go (inr differs) = apart differs (is_link a n (link_of (server_takes input x) i)) refl ∙ sym (ne_eqb i g.conn differs)

      -- it was linked before, or its first frame comes now
      pub record FirstNow : Type 0 where
        pub none : c.first ≡ None
        pub f : UpFrame
        pub came : FirstCame (m.site_at server) (record { app = a; dial = n }) f
        pub its : input ≡ data_in.Frame g.conn f
        -- it says what was known as it was made
        pub says : f.message ≡ first_message ((state_after l m.trail).server_at server) a n c.knew.session c.knew.mark
        pub unlinked : link_of (m.site_at server) g.conn ≡ None

      pub whence : (c.first ≡ Some g) ⊎ FirstNow
      whence = go c.first refl
        where
          go : (o : Option FirstTaken) → c.first ≡ o → (c.first ≡ Some g) ⊎ FirstNow
          go (Some f) was = inl (sym (after.is.first (ap (λ (o : Option FirstTaken). is_some o) was)) ∙ at_first)
          go None was =
              by (link_after v x m.is_dead_at all_dials input (ends.first l c0 m server now input outs written new h run shows allowed goes) g.conn
              (record { app = a; dial = n })
              (sym (site.links g.conn) ∙ linked_now))
            where
              none_some : (o : Option FirstTaken) → o ≡ None → IsSomeAnd o (λ f. f.conn ≡ g.conn) → ⊥
              none_some None is_none at = at
              none_some (Some f) is_none at = absurd cc

              by : (link_of x g.conn ≡ Some (record { app = a; dial = n }))
                  ⊎ ((f : UpFrame) × (FirstCame x (record { app = a; dial = n }) f × (input ≡ data_in.Frame g.conn f)))
                  → (c.first ≡ Some g) ⊎ FirstNow
              by (inl linked) =
                  absurd (none_some c.first was
                  (subst (λ (o : Option Connection). IsSomeAnd o (λ z. IsSomeAnd z.first (λ f. f.conn ≡ g.conn))) it
                  (of_some (IsLinkedBy x g.conn) (link_of x g.conn) (record { app = a; dial = n }) linked (all_dials.links g.conn))))
              by (inr f) =
                  inr (record {
                    none = was;
                    f = f.0;
                    came = f.1.0;
                    its = f.1.1;
                    says = says;
                    unlinked =
                        ends.unlinked l c0 m server now input outs written new h run shows allowed goes g.conn f.0 f.1.1
                        (ap kind_of says ∙ opening c.knew.mark);
                  })
                where
                  same_on : f.1.0.on ≡ c
                  same_on = one f.1.0.on c (sym f.1.0.there ∙ it)
                    where
                      one : (i j : Connection) → Some i ≡ Some j → i ≡ j
                      one i j same = cc

                  says : f.0.message ≡ first_message v a n c.knew.session c.knew.mark
                  says =
                      ap (λ (u : UpFrame). u.message) (first_put v x (record { app = a; dial = n }) f.0 f.1.0 (subst (ConnectionIs v x a n) (sym same_on) is)).1
                      ∙ ap (λ (z : Connection). first_message v a n z.knew.session z.knew.mark) same_on

                  opening : (o : Option Mark) → kind_of (first_message v a n c.knew.session o) ≡ Opening
                  opening None = refl
                  opening (Some mk) = refl

    -- what was put on it already is all on its way where whose it is isn't known to its end
    pub whole_new : (s k : ℕ) → after.it.its ≡ Some (record { session = s; order = k }) → (y.lane_at s k).began ≡ None
        → WholeIf y s k (y.lane_at s k) after.it []
    whole_new s k its unlearnt =
        whole_unlearnt w y m.is_dead_at goes.state runs_after after_dials after_ends ordered_after a n d after.there s k its
        ((step.served_so l c0 m server now input outs written new h run after_run shows allowed goes).windows.lanes s k) unlearnt

    pub first_stays : IfSome c.first (λ f. f.order ≤ current ((state_after l m.trail).server_at server))
    first_stays = go c.first is.where_taken
      where
        go : (o : Option FirstTaken) → IfSome o (FirstIs v x a n) → IfSome o (λ f. f.order ≤ current v)
        go None at = tt
        go (Some f) at = at.there
