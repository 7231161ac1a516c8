-- What is on its way at each data server after a step of one, where what is left to the first frames is.
use Rattle.std.proofs.Common.{◌≡◌, ℕ, Bool, false, List}
use Rattle.plain_orders.specs.declared.act.Act.{Act}
use Rattle.plain_orders.specs.declared.layout.Layout.{Layout}
use Rattle.plain_runs.specs.Plain.{Server}
use Rattle.plain_runs.specs.Run.{IsRun, after_all, state_after}
use Rattle.data_rules.specs.declared.data_in.DataIn.{DataIn}
use Rattle.cluster_runs.specs.declared.move_outs.MoveOuts.{MoveOuts}
use Rattle.cluster_runs.specs.declared.moves.Move.TheVariants.{Server as ServerMove}
use Rattle.cluster_runs.specs.CoresState.{CoresState}
use Rattle.cluster_runs.specs.Goes.{ServerGoes, server_site}
use Rattle.cluster_runs.specs.Machine.{Machine, Site}
use Rattle.cluster_runs.specs.Mirrors.{Mirrors}
use Rattle.cluster_runs.specs.Moves.{Allowed}
use Rattle.cluster_invariant.specs.Holds.{Holds}
use Rattle.cluster_invariant.specs.Link.{AppWay, LinkHolds}
use Rattle.cluster_invariant.proofs.OrderMoves.{server_wrote}
use Rattle.cluster_invariant.proofs.SiteMoves.{kept_at_one}
use Rattle.link_nodes.proofs.NodesNow.{nodes_are_kept}
use Rattle.link_nodes.specs.Laws.{NodeStands}
use Rattle.link_downs.proofs.EndsNow.{LeftToFirsts, end_now}

-- the halves of the living application ends
abbrev AppsStand : (ℕ → Bool) → ℕ → Server → Site → Type 0
AppsStand dead d v x = (app : ℕ) → dead app ≡ false → AppWay v x app (x.end_at app)

module _ (l : Layout) (c : CoresState) (m : Machine) (server now : ℕ) (input : DataIn) (outs : MoveOuts) (written : List Act) (new : Machine)
    (h : Holds l m) (run : IsRun l m.trail) (after_run : IsRun l new.trail) (shows : Mirrors c m) (allowed : Allowed c (ServerMove server now input))
    (goes : ServerGoes m server now input outs written new) where
  abbrev x : Site
  x = m.site_at server

  abbrev v : Server
  v = (state_after l m.trail).server_at server

  abbrev w : Server
  w = (after_all l (state_after l m.trail) written).server_at server

  abbrev y : Site
  y = server_site goes.node now input goes.data_outs goes.state (m.site_at server)

  pub links_now : ((a : ℕ) → m.is_dead_at a ≡ false → LeftToFirsts v w x y a (x.end_at a)) → (d : ℕ)
      → LinkHolds ((state_after l new.trail).server_at d) (new.site_at d) new.is_dead_at
  links_now left d = record { lanes = nodes.lanes; node = nodes.node; apps = apps d }
    where
      nodes : NodeStands ((state_after l new.trail).server_at d) (new.site_at d) new.is_dead_at
      nodes = nodes_are_kept l c m server now input outs written new h run after_run shows allowed goes d

      apps : (i : ℕ) → AppsStand new.is_dead_at i ((state_after l new.trail).server_at i) (new.site_at i)
      apps =
          kept_at_one AppsStand l m new server (server_site goes.node now input goes.data_outs goes.state) written (λ i. (h.sites i).link.apps) goes.after
          (server_wrote l c m server now input outs written new h run shows allowed goes).others
          (λ a alive. end_now l c m server now input outs written new h run after_run shows allowed goes a alive (left a alive))
