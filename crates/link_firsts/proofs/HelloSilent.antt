-- A step puts nothing on the connection of an application end on which a Hello came and waits, or comes now.
use Rattle.std.proofs.Common.{List, None, Some, [], inl, inr, subst, sym, true, ℕ, ◌++◌, ◌∙◌, ◌∷◌, ◌≡◌, ◌≢◌}
use Rattle.std.specs.List.{AllByRecursion}
use Rattle.std.specs.Prelude.{IfSome}
use Rattle.cluster_invariant.proofs.PieceMay.{Coming, RecoverCame}
use Rattle.cluster_invariant.proofs.Small.{of_some}
use Rattle.cluster_invariant.specs.Holds.{Holds}
use Rattle.cluster_invariant.specs.Waiting.{ReplyWaits, WaitsNewOn}
use Rattle.cluster_runs.specs.Connections.{link_of}
use Rattle.cluster_runs.specs.CoresState.{CoresState, Linked}
use Rattle.cluster_runs.specs.Goes.{ServerGoes, server_site}
use Rattle.cluster_runs.specs.Machine.{Machine, Site}
use Rattle.cluster_runs.specs.Mirrors.{Mirrors}
use Rattle.cluster_runs.specs.Moves.{Allowed}
use Rattle.cluster_runs.specs.Sent.{Connection, FirstTaken}
use Rattle.cluster_runs.specs.declared.move_outs.MoveOuts.{MoveOuts}
use Rattle.data_rules.specs.Conns.{role_of}
use Rattle.data_rules.specs.Puts.{Sofar}
use Rattle.data_rules.specs.Step.{made}
use Rattle.data_rules.specs.declared.data_in.DataIn.{DataIn}
use Rattle.data_rules.specs.declared.rows.Reply.{Reply}
use Rattle.data_rules.specs.declared.rows.Says.TheVariants.{NewWelcome}
use Rattle.ecp_messages.specs.declared.down.DownFrame.{DownFrame}
use Rattle.link_downs.proofs.OffConn.{OffPut}
use Rattle.link_downs.proofs.OnConn.{put_on, waits_on}
use Rattle.link_downs.proofs.ReplyLists.{known_waits}
use Rattle.link_firsts.proofs.HelloConn.{HelloOn, OpenedOn, is_calling, none_put}
use Rattle.link_nodes.proofs.StepReplies.{replies_now}
use Rattle.plain_orders.specs.declared.act.Act.{Act}
use Rattle.plain_orders.specs.declared.layout.Layout.{Layout}
use Rattle.plain_runs.specs.Plain.{Server}
use Rattle.plain_runs.specs.Run.{IsRun, after_all, state_after}
use Rattle.cluster_runs.specs.declared.moves.Move.TheVariants.{Server as ServerMove}
use Rattle.data_rules.specs.declared.data_in.DataIn.TheVariants as data_in
use Rattle.data_ends_kept.proofs.NodeEndsServer as ends
use Rattle.link_firsts.proofs.FirstConns as conns
use Rattle.link_firsts.proofs.StepFirsts as firsts

module _ (l : Layout) (c0 : CoresState) (m : Machine) (server now : ℕ) (input : DataIn) (outs : MoveOuts) (written : List Act) (new : Machine)
    (h : Holds l m) (run : IsRun l m.trail) (after_run : IsRun l new.trail) (shows : Mirrors c0 m) (allowed : Allowed c0 (ServerMove server now input))
    (goes : ServerGoes m server now input outs written new) where
  abbrev w : Server
  w = (after_all l (state_after l m.trail) written).server_at server

  abbrev y : Site
  y = server_site goes.node now input goes.data_outs goes.state (m.site_at server)

  abbrev t : Coming
  t = record { old = goes.node; now = now; input = input }

  module _ (a n : ℕ) (c : Connection) (it : ((m.site_at server).end_at a).connection_at n ≡ Some c) (g : FirstTaken)
      (at_first : (conns.d l c0 m server now input outs written new h run after_run shows allowed goes a n c it).first ≡ Some g)
      (calls : is_calling (role_of goes.node g.conn) ≡ true) (no_tick : input ≡ data_in.Tick → ⊥)
      (recovers : (conn app session : ℕ) (b : Sofar) → RecoverCame t conn app session b → conn ≢ g.conn) where
    abbrev q : ℕ
    q = g.conn

    abbrev d : Connection
    d = conns.d l c0 m server now input outs written new h run after_run shows allowed goes a n c it

    abbrev put_now : List DownFrame
    put_now = conns.put_now l c0 m server now input outs written new h run after_run shows allowed goes a n c it

    silent_on : put_on q goes.data_outs.frames ≡ [] → put_now ≡ []
    silent_on none = conns.put_is l c0 m server now input outs written new h run after_run shows allowed goes a n c it g at_first ∙ none

    pub hello_silent : put_now ≡ []
    hello_silent = go (firsts.hello_after l c0 m server now input outs written new h run after_run shows allowed goes q calls no_tick recovers)
      where
        opened : OpenedOn t q (made goes.state goes.data_outs) → put_now ≡ []
        opened o =
            behind c.downs put_now
            (sym (conns.after l c0 m server now input outs written new h run after_run shows allowed goes a n c it).is.downs ∙ untold.untold.silent)
          where
            behind : (xs ys : List DownFrame) → xs ++ ys ≡ [] → ys ≡ []
            behind [] ys at = at
            behind (f ∷ xs) ys at = absurd cc

            r : Reply
            r = record { at = o.s; says = NewWelcome q o.s }

            waits : ReplyWaits w y goes.state r
            waits =
                (subst (λ (zs : List Reply). AllByRecursion (λ (u : Reply). ReplyWaits w y goes.state u × (waits_on q u ≡ true)) zs) o.waits
                (known_waits (ReplyWaits w y goes.state) q goes.state.replies
                (replies_now l c0 m server now input outs written new h run shows allowed goes
                (conns.after_dials l c0 m server now input outs written new h run after_run shows allowed goes)).each)).0.0

            untold : WaitsNewOn d
            untold =
                of_some WaitsNewOn ((y.end_at a).connection_at n) d
                (conns.after l c0 m server now input outs written new h run after_run shows allowed goes a n c it).there
                (of_some (λ (j : Linked). IfSome ((y.end_at j.app).connection_at j.dial) WaitsNewOn) (link_of y q) (record { app = a; dial = n })
                (conns.linked_now l c0 m server now input outs written new h run after_run shows allowed goes a n c it g at_first) waits.says.untold)

        go : HelloOn t q (made goes.state goes.data_outs) → put_now ≡ []
        go (inl u) =
            silent_on (none_put q goes.state.conns goes.data_outs.frames u.role
            (ends.along l c0 m server now input outs written new h run shows allowed goes).speaks.frames)
        go (inr (inl o)) = opened o
        go (inr (inr off)) = by off.put
          where
            no_one : {X : Type 0} {z : X} → None ≡ Some z → ⊥
            no_one same = cc

            by : OffPut q None (made goes.state goes.data_outs) → put_now ≡ []
            by (inl is) = silent_on is.0
            by (inr left) = absurd (no_one left.0.waited)
