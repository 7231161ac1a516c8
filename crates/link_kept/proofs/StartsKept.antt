-- Each start of a data server keeps what is on its way.
use Rattle.std.proofs.Common.{ℕ, List, length}
use Rattle.plain_orders.specs.declared.act.Act.{Act}
use Rattle.plain_orders.specs.declared.entry.Entry.{Entry}
use Rattle.plain_orders.specs.declared.layout.Layout.{Layout}
use Rattle.plain_runs.specs.Plain.{Server}
use Rattle.plain_runs.specs.Run.{IsRun, state_after}
use Rattle.cluster_runs.specs.CoresState.{CoresState}
use Rattle.cluster_runs.specs.declared.move_outs.MoveOuts.{MoveOuts}
use Rattle.cluster_runs.specs.declared.moves.Move.TheVariants.{Begin}
use Rattle.cluster_runs.specs.Goes.{BeginGoes}
use Rattle.cluster_runs.specs.Machine.{Machine, Site}
use Rattle.cluster_runs.specs.Mirrors.{Mirrors}
use Rattle.cluster_runs.specs.Moves.{Allowed}
use Rattle.cluster_invariant.specs.Holds.{Holds, SiteHolds}
use Rattle.cluster_invariant.proofs.SiteMoves.{kept_by_start}
use Rattle.link_kept.proofs.BeginMoves.{link_kept_by_first, link_kept_by_later}
use Rattle.link_kept.proofs.EpochsLast.{epochs_stay}
use Rattle.link_kept.proofs.ShortMoves.{LinksHold, LinksPart}

pub link_kept_by_start : (l : Layout) (c : CoresState) (m : Machine) (server now : ℕ) (es : List Entry) (outs : MoveOuts) (written : List Act) (new : Machine)
    → Holds l m → IsRun l m.trail → Mirrors c m → Allowed c (Begin server now es) → BeginGoes m server now es outs written new → LinksHold l (state_after l new.trail) new
link_kept_by_start l c m server now es outs written new h run shows allowed goes =
    kept_by_start LinksPart l c m server now es outs written new h run shows allowed goes (λ d. (h.sites d).link)
    (λ starts. link_kept_by_first l server now es v _ x m.is_dead_at its.order its.link its.dials starts.shut)
    (λ starts. link_kept_by_later l server now (state_after l m.trail).clock es v x m.is_dead_at its starts (epochs_stay l m.trail server (length es) run starts.low))
  where
    x : Site
    x = m.site_at server

    v : Server
    v = (state_after l m.trail).server_at server

    its : SiteHolds l server m.is_dead_at v x
    its = h.sites server
