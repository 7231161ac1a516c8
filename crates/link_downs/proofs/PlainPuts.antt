-- What a step of a data server that is no tick puts on its connections, by what each was for.
use Rattle.std.proofs.Common.{◌≡◌, ◌≢◌, ◌⊎◌, inl, inr, ℕ, true, false, List, [], length, Option, Some, None, is_some, refl, sym, ◌∙◌, ap, subst, ◌==◌}
use Rattle.std.proofs.lemmas.Bool.{eqb-true, false≢true, true≢false}
use Rattle.plain_orders.specs.declared.act.Act.{Act}
use Rattle.plain_orders.specs.declared.layout.Layout.{Layout}
use Rattle.plain_runs.specs.Plain.{Server}
use Rattle.plain_runs.specs.Run.{IsRun, after_all, state_after}
use Rattle.data_rules.specs.declared.data_in.DataIn.{DataIn}
use Rattle.data_rules.specs.declared.data_in.DataIn.TheVariants as data_in
use Rattle.data_rules.specs.declared.rows.Reply.{Reply}
use Rattle.data_rules.specs.declared.rows.Role.{Role}
use Rattle.data_rules.specs.declared.rows.Role.TheVariants.{New, Waiting, Bound, Closing}
use Rattle.data_rules.specs.declared.rows.Says.{Says}
use Rattle.data_rules.specs.declared.rows.Says.TheVariants.{NewWelcome, EpochWelcome, ResetOf, GrantOf, AnswerOf}
use Rattle.data_rules.specs.Conns.{role_of}
use Rattle.data_rules.specs.Puts.{Sofar, says_on, window_of}
use Rattle.data_rules.specs.Step.{DataMay, DataStep, made}
use Rattle.cluster_runs.specs.declared.move_outs.MoveOuts.{MoveOuts}
use Rattle.cluster_runs.specs.declared.moves.Move.TheVariants.{Server as ServerMove}
use Rattle.cluster_runs.specs.CoresState.{CoresState}
use Rattle.cluster_runs.specs.Goes.{ServerGoes, server_site}
use Rattle.cluster_runs.specs.Machine.{Machine, Site}
use Rattle.cluster_runs.specs.Mirrors.{Mirrors}
use Rattle.cluster_runs.specs.Moves.{Allowed}
use Rattle.cluster_invariant.specs.Dials.{DialsAre, NodeDials}
use Rattle.cluster_invariant.specs.Holds.{Holds}
use Rattle.cluster_invariant.specs.Link.{NodeLink, WindowIs}
use Rattle.cluster_invariant.specs.Waiting.{ReplyWaits, WaitsFor}
use Rattle.cluster_invariant.proofs.ConnRoles.{bound_role}
use Rattle.cluster_invariant.proofs.OrderKept.{StepSite, step_site}
use Rattle.cluster_invariant.proofs.Small.{of_some}
use Rattle.data_ends_kept.proofs.NodeEndsServer as ends
use Rattle.link_downs.proofs.BoundPieces.{Stands}
use Rattle.link_downs.proofs.BoundPuts.{Keeps}
use Rattle.link_downs.proofs.NumberedPuts.{PutNext}
use Rattle.link_downs.proofs.OffConn.{LeftReset, Off, OffPut, SaysReset, is_off, listed}
use Rattle.link_downs.proofs.OnConn.{put_on, waiting_on}
use Rattle.link_downs.proofs.ReplyLists.{none_may}
use Rattle.link_downs.proofs.StepPuts.{BoundAfter, PutsGo, StepPuts}
use Rattle.link_downs.proofs.StepWays as step

-- nothing is put on a connection for which no Reset waits
off_silent : (q : ℕ) (b : Sofar) → OffPut q None b → put_on q b.outs.frames ≡ []
off_silent q b (inl is) = is.0
off_silent q b (inr left) = absurd (no_one left.0.waited)
  where
    no_one : {X : Type 0} {z : X} → None ≡ Some z → ⊥
    no_one same = cc

-- one that is none of a session's is gone
off_none : (o : Option Role) → is_off false o ≡ true → o ≡ None
off_none None is = refl
off_none (Some New) is = absurd (false≢true is)
off_none (Some Waiting) is = absurd (false≢true is)
off_none (Some (Bound z)) is = absurd (false≢true is)
off_none (Some (Closing z)) is = absurd (false≢true is)

module _ (l : Layout) (c0 : CoresState) (m : Machine) (server now : ℕ) (input : DataIn) (outs : MoveOuts) (written : List Act) (new : Machine)
    (h : Holds l m) (run : IsRun l m.trail) (after_run : IsRun l new.trail) (shows : Mirrors c0 m) (allowed : Allowed c0 (ServerMove server now input))
    (goes : ServerGoes m server now input outs written new) where
  abbrev x : Site
  x = m.site_at server

  abbrev v : Server
  v = (state_after l m.trail).server_at server

  abbrev w : Server
  w = (after_all l (state_after l m.trail) written).server_at server

  abbrev y : Site
  y = server_site goes.node now input goes.data_outs goes.state (m.site_at server)

  node : NodeLink v x m.is_dead_at goes.node
  node = ends.link l c0 m server now input outs written new h run shows allowed goes

  -- nothing is put as a connection comes
  pub connected_silent : (q : ℕ) → input ≡ data_in.Connected q → goes.data_outs.frames ≡ []
  connected_silent q same = ap (λ (b : Sofar). b.outs.frames) (subst (λ (i : DataIn). DataStep goes.node now i goes.data_outs goes.state) same goes.steps)

  -- no reply waits on a connection that isn't there
  pub no_replies : (q : ℕ) → role_of goes.node q ≡ None → waiting_on q goes.node.replies ≡ []
  no_replies q none = none_may (ReplyWaits v x goes.node) q goes.node.replies (λ r is on. bad r.at r.says is.says on) node.replies
    where
      at_conn : (i : ℕ) (r : Role) → role_of goes.node i ≡ Some r → (i == q) ≡ true → ⊥
      at_conn i r role on = (let both : Some r ≡ None = sym role ∙ ap (role_of goes.node) (eqb-true i q on) ∙ none in absurd cc)

      bad : (at : ℕ) (z : Says) → WaitsFor v x goes.node at z → says_on q z ≡ true → ⊥
      bad at (NewWelcome conn session) is on = at_conn conn (Bound session) is.bound on
      bad at (EpochWelcome conn session kept) is on = at_conn conn (Bound session) is.bound on
      bad at (ResetOf conn session place) is on = at_conn conn (Closing session) is.closing on
      bad at (GrantOf session ticket number) is on = false≢true on
      bad at (AnswerOf session about job number place sum) is on = false≢true on

  -- one that is there doesn't come
  known_stays : (q : ℕ) (r : Role) → role_of goes.node q ≡ Some r → input ≡ data_in.Connected q → ⊥
  known_stays q r role same =
      false≢true
      (sym (subst (DataMay goes.node) same (ends.may l c0 m server now input outs written new h run shows allowed goes)) ∙ ap (λ (o : Option Role). is_some o) role)

  module _ (q s : ℕ) (role : role_of goes.node q ≡ Some (Bound s)) (quiet : waiting_on q goes.node.replies ≡ []) where
    -- what stands on it was put
    pub keeps : Keeps (x.lane_at s x.past) q s (is_some goes.node.round) (made goes.state goes.data_outs)
        → PutsGo (x.lane_at s x.past) (y.lane_at s x.past) q s (is_some goes.node.round) goes.state (put_on q goes.data_outs.frames)
    keeps kp = record {
      given = kp.given;
      down = step.given_so l c0 m server now input outs written new h run after_run shows allowed goes q s role quiet kp;
      its = subst (λ (i : ℕ). PutNext (length (x.lane_at s x.past).down) i (put_on q goes.data_outs.frames) kp.given)
          (window.taken ∙ ap (λ (i : ℕ). (y.lane_at s i).up_taken) site.past) kp.put;
      normal = kp.normal;
      bound = λ alive. bound_role s goes.state.conns q node_dials.differ kp.its;
      closed = λ dead. absurd (true≢false (sym kp.lives ∙ dead));
    }
      where
        site : StepSite x goes.state y
        site = step_site goes.node now input goes.data_outs goes.state x

        window : WindowIs (window_of goes.state s) (y.lane_at s y.past).down (y.lane_at s y.past).down_taken (y.lane_at s y.past).up_taken
        window = (step.served_so l c0 m server now input outs written new h run after_run shows allowed goes).windows.windows.each s kp.lives

        after_dials : DialsAre w y m.is_dead_at
        after_dials = step.dials_after l c0 m server now input outs written new h run after_run shows allowed goes

        node_dials : NodeDials y goes.state
        node_dials = of_some (NodeDials y) y.node goes.state site.node after_dials.node

  module _ (no_tick : input ≡ data_in.Tick → ⊥) where
    none_puts : (q : ℕ) → role_of goes.node q ≡ None → put_on q goes.data_outs.frames ≡ []
    none_puts q none = go input refl
      where
        no_one : (r : Reply) → None ≡ Some r → SaysReset q r
        no_one r same = absurd cc

        other : (input ≡ data_in.Connected q → ⊥) → put_on q goes.data_outs.frames ≡ []
        other fresh = by (step.off_after l c0 m server now input outs written new h run after_run shows allowed goes q false None no_one (ap (is_off false) none) (no_replies q none) no_tick fresh)
          where
            by : Off q false None (made goes.state goes.data_outs) → put_on q goes.data_outs.frames ≡ []
            by off = off_silent q (made goes.state goes.data_outs) off.put

        go : (i : DataIn) → input ≡ i → put_on q goes.data_outs.frames ≡ []
        go (data_in.Frame conn f) is = other (λ same. (let both : data_in.Frame conn f ≡ data_in.Connected q = sym is ∙ same in absurd cc))
        go (data_in.Connected conn) is = ap (put_on q) (connected_silent conn is)
        go (data_in.Broken conn) is = other (λ same. (let both : data_in.Broken conn ≡ data_in.Connected q = sym is ∙ same in absurd cc))
        go data_in.Tick is = absurd (no_tick is)
        go (data_in.Saved upto) is = other (λ same. (let both : data_in.Saved upto ≡ data_in.Connected q = sym is ∙ same in absurd cc))

    module _ (q s : ℕ) (role : role_of goes.node q ≡ Some (Bound s)) (quiet : waiting_on q goes.node.replies ≡ []) where
      bound_puts : BoundAfter (x.lane_at s x.past) (y.lane_at s x.past) q s (is_some goes.node.round) goes.state (put_on q goes.data_outs.frames)
      bound_puts = go (step.stands_after l c0 m server now input outs written new h run after_run shows allowed goes q s role quiet no_tick)
        where
          leaves : Off q false None (made goes.state goes.data_outs) → (put_on q goes.data_outs.frames ≡ []) × (role_of goes.state q ≡ None)
          leaves off = (off_silent q (made goes.state goes.data_outs) off.put, off_none (role_of goes.state q) off.off)

          go : Stands (x.lane_at s x.past) q s (is_some goes.node.round) (made goes.state goes.data_outs)
              → BoundAfter (x.lane_at s x.past) (y.lane_at s x.past) q s (is_some goes.node.round) goes.state (put_on q goes.data_outs.frames)
          go (inl kp) = inl (keeps q s role quiet kp)
          go (inr off) = inr (leaves off)

    closing_puts : (q s : ℕ) (ws : Option Reply) → role_of goes.node q ≡ Some (Closing s) → waiting_on q goes.node.replies ≡ listed ws
        → ((z : Reply) → ws ≡ Some z → SaysReset q z)
        → (put_on q goes.data_outs.frames ≡ []) ⊎ LeftReset q ws goes.state.synced (put_on q goes.data_outs.frames)
    closing_puts q s ws role waits resets =
        go (step.off_after l c0 m server now input outs written new h run after_run shows allowed goes q true ws resets (ap (is_off true) role) waits no_tick (known_stays q (Closing s) role))
      where
        by : OffPut q ws (made goes.state goes.data_outs)
            → (put_on q goes.data_outs.frames ≡ []) ⊎ LeftReset q ws goes.state.synced (put_on q goes.data_outs.frames)
        by (inl is) = inl is.0
        by (inr left) = inr left.0

        go : Off q true ws (made goes.state goes.data_outs)
            → (put_on q goes.data_outs.frames ≡ []) ⊎ LeftReset q ws goes.state.synced (put_on q goes.data_outs.frames)
        go off = by off.put

    pub plain_puts : StepPuts x y (is_some goes.node.round) goes.node goes.state goes.data_outs.frames
    plain_puts = record { none = none_puts; bound = bound_puts; closing = closing_puts }
