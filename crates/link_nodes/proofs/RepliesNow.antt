-- Each step of a data server keeps the replies that wait.
use Rattle.std.proofs.Common.{ℕ, List, ◌++◌, Option, Some, None, sym, subst}
use Rattle.std.specs.Prelude.{IfSome}
use Rattle.plain_orders.specs.declared.act.Act.{Act}
use Rattle.plain_orders.specs.declared.layout.Layout.{Layout}
use Rattle.plain_runs.specs.Plain.{Plain, Server}
use Rattle.plain_runs.specs.Run.{IsRun, after_all, state_after}
use Rattle.plain_runs.specs.Plain.{start}
use Rattle.plain_runs.proofs.RunLemmas.{after_all-append}
use Rattle.data_rules.specs.DataState.{DataState}
use Rattle.data_rules.specs.declared.data_in.DataIn.{DataIn}
use Rattle.cluster_runs.specs.declared.move_outs.MoveOuts.{MoveOuts}
use Rattle.cluster_runs.specs.declared.moves.Move.TheVariants.{Server as ServerMove}
use Rattle.cluster_runs.specs.CoresState.{CoresState}
use Rattle.cluster_runs.specs.Goes.{ServerGoes, server_site}
use Rattle.cluster_runs.specs.Machine.{Machine, Site}
use Rattle.cluster_runs.specs.Mirrors.{Mirrors}
use Rattle.cluster_runs.specs.Moves.{Allowed}
use Rattle.cluster_invariant.specs.Dials.{DialsAre}
use Rattle.cluster_invariant.specs.Holds.{Holds}
use Rattle.cluster_invariant.specs.Link.{NodeLink}
use Rattle.cluster_invariant.proofs.OrderKept.{step_site}
use Rattle.cluster_invariant.proofs.OrderMoves.{server_wrote}
use Rattle.cluster_invariant.proofs.SiteMoves.{kept_at_one}
use Rattle.cluster_invariant.proofs.Small.{put_same}
use Rattle.dials_firsts.proofs.DialsMoves.{dials_stay}
use Rattle.link_nodes.proofs.StepReplies.{replies_now}
use Rattle.link_nodes.specs.Laws.{RepliesWait}

module _ (l : Layout) (c : CoresState) (m : Machine) (server now : ℕ) (input : DataIn) (outs : MoveOuts) (written : List Act) (new : Machine)
    (h : Holds l m) (run : IsRun l m.trail) (after_run : IsRun l new.trail) (shows : Mirrors c m) (allowed : Allowed c (ServerMove server now input))
    (goes : ServerGoes m server now input outs written new) where
  abbrev y : Site
  y = server_site goes.node now input goes.data_outs goes.state (m.site_at server)

  -- the connections after the step
  pub dials_after : DialsAre ((after_all l (state_after l m.trail) written).server_at server) y m.is_dead_at
  dials_after =
      subst (λ (p : Plain). DialsAre (p.server_at server) y m.is_dead_at) (after_all-append l start m.trail written)
      (subst (λ (x : Site). DialsAre ((state_after l (m.trail ++ written)).server_at server) x m.is_dead_at)
      (put_same m.site_at server (server_site goes.node now input goes.data_outs goes.state (m.site_at server)))
      (subst (λ (n : Machine). DialsAre ((state_after l n.trail).server_at server) (n.site_at server) n.is_dead_at) goes.after
      (dials_stay l c m (ServerMove server now input) outs written new h run after_run shows allowed goes server)))

  pub replies_are_kept : (d : ℕ) → IfSome (new.site_at d).node (RepliesWait ((state_after l new.trail).server_at d) (new.site_at d))
  replies_are_kept =
      kept_at_one (λ dead d v x. IfSome x.node (RepliesWait v x)) l m new server (server_site goes.node now input goes.data_outs goes.state) written
      (λ d. was ((state_after l m.trail).server_at d) (m.site_at d) (m.site_at d).node (h.sites d).link.node) goes.after
      (server_wrote l c m server now input outs written new h run shows allowed goes).others
      (subst (λ (o : Option DataState). IfSome o (RepliesWait ((after_all l (state_after l m.trail) written).server_at server) y))
      (sym (step_site goes.node now input goes.data_outs goes.state (m.site_at server)).node)
      (replies_now l c m server now input outs written new h run shows allowed goes dials_after))
    where
      was : (v : Server) (x : Site) (o : Option DataState) → IfSome o (NodeLink v x m.is_dead_at) → IfSome o (RepliesWait v x)
      was v x None is = tt
      was v x (Some n) is = record { each = is.replies; one_each = is.one_each }
