-- What is on its way of a session after a step of its data server, on a connection that carries its messages: no Welcome waits on that, and it
-- was taken in the order whose messages it carries.
use Rattle.std.proofs.Common.{◌≡◌, ℕ, Bool, true, false, List, [], ◌++◌, Option, Some, None, is_some, refl, sym, ◌∙◌, ap, ◌==◌}
use Rattle.std.specs.Prelude.{IfSome, IsSomeAnd}
use Rattle.std.proofs.lemmas.Bool.{eqb-true, false≢true}
use Rattle.plain_orders.specs.declared.act.Act.{Act}
use Rattle.plain_orders.specs.declared.layout.Layout.{Layout}
use Rattle.plain_runs.specs.Plain.{Server, order_at}
use Rattle.plain_runs.specs.Run.{IsRun, after_all, state_after}
use Rattle.ecp_messages.specs.declared.down.DownFrame.{DownFrame}
use Rattle.data_rules.specs.declared.data_in.DataIn.{DataIn}
use Rattle.data_rules.specs.declared.rows.Role.TheVariants.{Bound, Closing}
use Rattle.data_rules.specs.declared.rows.Says.{Says}
use Rattle.data_rules.specs.declared.rows.Says.TheVariants.{NewWelcome, EpochWelcome, ResetOf, GrantOf, AnswerOf}
use Rattle.data_rules.specs.Conns.{role_of}
use Rattle.data_rules.specs.Puts.{says_on}
use Rattle.cluster_runs.specs.declared.move_outs.MoveOuts.{MoveOuts}
use Rattle.cluster_runs.specs.declared.moves.Move.TheVariants.{Server as ServerMove}
use Rattle.cluster_runs.specs.CoresState.{CoresState, Linked}
use Rattle.cluster_runs.specs.Connections.{link_of}
use Rattle.cluster_runs.specs.Goes.{ServerGoes, server_site}
use Rattle.cluster_runs.specs.Machine.{Machine, Site}
use Rattle.cluster_runs.specs.Mirrors.{Mirrors}
use Rattle.cluster_runs.specs.Moves.{Allowed}
use Rattle.cluster_runs.specs.Sent.{Connection, FirstTaken, Place}
use Rattle.cluster_invariant.specs.Dials.{CarriesOf, ConnectionIs, DialsAre, FirstIs}
use Rattle.cluster_invariant.specs.Holds.{Holds}
use Rattle.cluster_invariant.specs.Link.{DownWay, NodeLink, WholeIf}
use Rattle.cluster_invariant.specs.Waiting.{IsUnended, OnLinked, ReplyWaits, WaitsEpochOn, WaitsFor, WaitsNewOn}
use Rattle.cluster_invariant.specs.Words.{downs_left, stays_at}
use Rattle.cluster_invariant.proofs.Small.{of_some}
use Rattle.data_ends_kept.proofs.NodeEndsServer as ends
use Rattle.link_downs.proofs.CarriedWays as carry
use Rattle.link_downs.proofs.CarriedWays.{TellsNormal, WayAfter}
use Rattle.link_downs.proofs.ClosingWays as closing
use Rattle.link_downs.proofs.OnConn.{waiting_on}
use Rattle.link_downs.proofs.ReplyLists.{none_may}
use Rattle.link_downs.proofs.StepPuts.{StepPuts}

module _ (l : Layout) (c0 : CoresState) (m : Machine) (server now : ℕ) (input : DataIn) (outs : MoveOuts) (written : List Act) (new : Machine)
    (h : Holds l m) (run : IsRun l m.trail) (after_run : IsRun l new.trail) (shows : Mirrors c0 m) (allowed : Allowed c0 (ServerMove server now input))
    (goes : ServerGoes m server now input outs written new)
    (puts : StepPuts (m.site_at server) (server_site goes.node now input goes.data_outs goes.state (m.site_at server)) (is_some goes.node.round) goes.node goes.state goes.data_outs.frames) where
  abbrev x : Site
  x = m.site_at server

  abbrev v : Server
  v = (state_after l m.trail).server_at server

  abbrev w : Server
  w = (after_all l (state_after l m.trail) written).server_at server

  abbrev y : Site
  y = server_site goes.node now input goes.data_outs goes.state (m.site_at server)

  node : NodeLink v x m.is_dead_at goes.node
  node = ends.link l c0 m server now input outs written new h run shows allowed goes

  all_dials : DialsAre v x m.is_dead_at
  all_dials = (h.sites server).dials

  none_its : (o : Option Place) (p : Place) → o ≡ Some p → o ≡ None → ⊥
  none_its o p some none = cc

  -- the connection after the step, and what is on its way on it
  abbrev pub CarriedTo : ℕ → ℕ → Connection → ℕ → ℕ → Bool → List DownFrame → Type 0
  CarriedTo a n c s k may behind = (d : Connection) × (((y.end_at a).connection_at n ≡ Some d) × WayAfter w y s k may (TellsNormal x goes.node s k) behind c d)

  module _ (a n : ℕ) (c : Connection) (it : (x.end_at a).connection_at n ≡ Some c) (s k : ℕ) (its : c.its ≡ Some (record { session = s; order = k })) where
    is : ConnectionIs v x a n c
    is = of_some (ConnectionIs v x a n) ((x.end_at a).connection_at n) c it ((all_dials.pairs a).each n)

    pub carries : CarriesOf v a c.first (record { session = s; order = k })
    carries = of_some (CarriesOf v a c.first) c.its (record { session = s; order = k }) its is.its

    -- no Welcome waits on it
    quiet : (f : FirstTaken) → c.first ≡ Some f → role_of goes.node f.conn ≡ Some (Bound s) → waiting_on f.conn goes.node.replies ≡ []
    quiet f at_first role = none_may (ReplyWaits v x goes.node) f.conn goes.node.replies (λ r so on. bad r.at r.says so.says on) node.replies
      where
        linked : link_of x f.conn ≡ Some (record { app = a; dial = n })
        linked = (of_some (FirstIs v x a n) c.first f at_first is.where_taken).linked

        on_it : (P : Connection → Type 0) (conn : ℕ) → (conn == f.conn) ≡ true → OnLinked x conn P → P c
        on_it P conn same at =
            of_some P ((x.end_at a).connection_at n) c it
            (of_some (λ (j : Linked). IfSome ((x.end_at j.app).connection_at j.dial) P) (link_of x conn) (record { app = a; dial = n })
            (ap (link_of x) (eqb-true conn f.conn same) ∙ linked) at)

        bad : (at : ℕ) (z : Says) → WaitsFor v x goes.node at z → says_on f.conn z ≡ true → ⊥
        bad at (NewWelcome conn session) waits on =
            none_its c.its (record { session = s; order = k }) its (on_it WaitsNewOn conn on waits.untold).untold.its
        bad at (EpochWelcome conn session kept) waits on =
            none_its c.its (record { session = s; order = k }) its (on_it (WaitsEpochOn v goes.node session kept) conn on waits.says).untold.its
        bad at (ResetOf conn session place) waits on =
            (let both : Some (Closing session) ≡ Some (Bound s) = sym waits.closing ∙ ap (role_of goes.node) (eqb-true conn f.conn on) ∙ role in absurd cc)
        bad at (GrantOf session ticket number) waits on = false≢true on
        bad at (AnswerOf session about job number place sum) waits on = false≢true on

    pub carried_now : (may : Bool) (pre behind : List DownFrame) → downs_left c ≡ pre ++ behind
        → DownWay (order_at v k) (stays_at v k) s (x.lane_at s k) may behind
        → WholeIf x s k (x.lane_at s k) c behind → (k ≡ x.past → IsUnended goes.node.order s (x.lane_at s x.past) → may ≡ true) → CarriedTo a n c s k may behind
    carried_now may pre behind all way whole unended = go c.first refl carries.order
      where
        go : (o : Option FirstTaken) → c.first ≡ o → IsSomeAnd o (λ f. f.order ≡ k) → CarriedTo a n c s k may behind
        go None none ordered = absurd ordered
        go (Some f) at_first ordered = (
          (carry.after l c0 m server now input outs written new h run after_run shows allowed goes puts a n c it f at_first).it,
          (
            (carry.after l c0 m server now input outs written new h run after_run shows allowed goes puts a n c it f at_first).there,
            closing.carried l c0 m server now input outs written new h run after_run shows allowed goes puts a n c it f at_first s k its may pre behind all way whole ordered (quiet f at_first)
                unended,
          ),
        )
