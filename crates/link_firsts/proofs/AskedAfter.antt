-- What is on its way to an application end that asked after each step of its data server, where no Welcome stood first: nothing, its Reset
-- alone, or a Welcome.
use Rattle.std.proofs.Common.{List, None, Option, Some, ap, false, inl, inr, refl, ℕ, ◌≡◌, ◌⊎◌}
use Rattle.app_rules.specs.AppState.{Session}
use Rattle.app_rules.specs.declared.line.Line.TheVariants.{Asking}
use Rattle.cluster_invariant.proofs.PieceMay.{Coming}
use Rattle.cluster_invariant.specs.Holds.{Holds}
use Rattle.cluster_invariant.specs.Link.{AskedWay}
use Rattle.cluster_invariant.specs.Words.{downs_left}
use Rattle.cluster_runs.specs.CoresState.{CoresState}
use Rattle.cluster_runs.specs.Goes.{ServerGoes, server_site}
use Rattle.cluster_runs.specs.Machine.{Machine, Site}
use Rattle.cluster_runs.specs.Mirrors.{Mirrors}
use Rattle.cluster_runs.specs.Moves.{Allowed}
use Rattle.cluster_runs.specs.Sent.{Connection, FirstTaken}
use Rattle.cluster_runs.specs.declared.move_outs.MoveOuts.{MoveOuts}
use Rattle.data_rules.specs.Conns.{role_of}
use Rattle.data_rules.specs.declared.data_in.DataIn.{DataIn}
use Rattle.data_rules.specs.declared.rows.Role.{Role}
use Rattle.data_rules.specs.declared.rows.Role.TheVariants.{Bound, Closing, New, Waiting}
use Rattle.ecp_messages.specs.declared.down.DownFrame.{DownFrame}
use Rattle.link_downs.proofs.OnConn.{put_on}
use Rattle.link_firsts.proofs.SilentWays.{has_welcome}
use Rattle.plain_orders.specs.declared.act.Act.{Act}
use Rattle.plain_orders.specs.declared.layout.Layout.{Layout}
use Rattle.plain_runs.specs.Plain.{Server}
use Rattle.plain_runs.specs.Run.{IsRun, after_all, state_after}
use Rattle.cluster_runs.specs.declared.moves.Move.TheVariants.{Server as ServerMove}
use Rattle.data_rules.specs.declared.data_in.DataIn.TheVariants as data_in
use Rattle.link_firsts.proofs.FirstConns as conns
use Rattle.link_firsts.proofs.StepFirsts as firsts
use Rattle.link_firsts.proofs.AskedBound as asked
use Rattle.link_firsts.proofs.AskedClosing as closing
use Rattle.link_firsts.proofs.AskedRecovers as recovers
use Rattle.link_firsts.proofs.AskedSame as same

module _ (l : Layout) (c0 : CoresState) (m : Machine) (server now : ℕ) (input : DataIn) (outs : MoveOuts) (written : List Act) (new : Machine)
    (h : Holds l m) (run : IsRun l m.trail) (after_run : IsRun l new.trail) (shows : Mirrors c0 m) (allowed : Allowed c0 (ServerMove server now input))
    (goes : ServerGoes m server now input outs written new) where
  abbrev x : Site
  x = m.site_at server

  abbrev v : Server
  v = (state_after l m.trail).server_at server

  abbrev w : Server
  w = (after_all l (state_after l m.trail) written).server_at server

  abbrev y : Site
  y = server_site goes.node now input goes.data_outs goes.state (m.site_at server)

  abbrev t : Coming
  t = record { old = goes.node; now = now; input = input }

  module _ (a : ℕ) (alive : m.is_dead_at a ≡ false) (line : (x.end_at a).state.line ≡ Asking) (sn : Session) (has : (x.end_at a).state.session ≡ Some sn)
      (k : ℕ)
      (told : (x.end_at a).told ≡ Some (record { session = sn.number; order = k })) (c : Connection)
      (it : (x.end_at a).connection_at (x.end_at a).state.dial ≡ Some c)
      (way : AskedWay v x sn k c (downs_left c)) (other : has_welcome (downs_left c) ≡ false) where
    abbrev n : ℕ
    n = (x.end_at a).state.dial

    abbrev d : Connection
    d = conns.d l c0 m server now input outs written new h run after_run shows allowed goes a n c it

    abbrev put_now : List DownFrame
    put_now = conns.put_now l c0 m server now input outs written new h run after_run shows allowed goes a n c it

    module _ (g : FirstTaken) (at_first : d.first ≡ Some g) where
      abbrev q : ℕ
      q = g.conn

      by_role : (input ≡ data_in.Tick → ⊥) → (input ≡ data_in.Connected q → ⊥) → AskedWay w y sn k d (downs_left d)
      by_role no_tick fresh = go (role_of goes.node q) refl
        where
          go : (o : Option Role) → role_of goes.node q ≡ o → AskedWay w y sn k d (downs_left d)
          go None role =
              asked.silent_on l c0 m server now input outs written new h run after_run shows allowed goes a alive line sn has k told c it way other g at_first
              (firsts.gone_silent l c0 m server now input outs written new h run after_run shows allowed goes q role no_tick fresh)
          go (Some New) role =
              recovers.recovers l c0 m server now input outs written new h run after_run shows allowed goes a alive line sn has k told c it way other g
              at_first role
              (λ p none. same.same_way l c0 m server now input outs written new h run after_run shows allowed goes a alive line sn has k told c it way other g
              at_first p none)
          go (Some Waiting) role =
              asked.waiting l c0 m server now input outs written new h run after_run shows allowed goes a alive line sn has k told c it way other g at_first
              role no_tick
          go (Some (Bound s)) role =
              asked.bound l c0 m server now input outs written new h run after_run shows allowed goes a alive line sn has k told c it way other g at_first s
              role no_tick
          go (Some (Closing r)) role =
              closing.closing l c0 m server now input outs written new h run after_run shows allowed goes a alive line sn has k told c it way other g at_first
              r role no_tick

      by_input : AskedWay w y sn k d (downs_left d)
      by_input =
          go (conns.is_tick l c0 m server now input outs written new h run after_run shows allowed goes)
          (conns.is_connected l c0 m server now input outs written new h run after_run shows allowed goes q)
        where
          go : (input ≡ data_in.Tick) ⊎ (input ≡ data_in.Tick → ⊥) → (input ≡ data_in.Connected q) ⊎ (input ≡ data_in.Connected q → ⊥)
              → AskedWay w y sn k d (downs_left d)
          go (inl tick) which =
              asked.silent_on l c0 m server now input outs written new h run after_run shows allowed goes a alive line sn has k told c it way other g at_first
              (firsts.ticked_silent l c0 m server now input outs written new h run after_run shows allowed goes q tick
              (asked.unlearnt l c0 m server now input outs written new h run after_run shows allowed goes a alive line sn has k told c it way other g at_first))
          go (inr no_tick) (inl here) =
              asked.silent_on l c0 m server now input outs written new h run after_run shows allowed goes a alive line sn has k told c it way other g at_first
              (ap (put_on q) (conns.connected_silent l c0 m server now input outs written new h run after_run shows allowed goes q here))
          go (inr no_tick) (inr fresh) = by_role no_tick fresh

    -- Each step keeps it.
    pub asked_after : AskedWay w y sn k d (downs_left d)
    asked_after = go d.first refl
      where
        go : (o : Option FirstTaken) → d.first ≡ o → AskedWay w y sn k d (downs_left d)
        go None none =
            asked.silent l c0 m server now input outs written new h run after_run shows allowed goes a alive line sn has k told c it way other
            (conns.none_first l c0 m server now input outs written new h run after_run shows allowed goes a n c it none)
        go (Some g) at_first = by_input g at_first
