-- Coherence, for the moves that put and take nothing: a tick, a look, and a node or an application server that goes.
use Rattle.std.proofs.Common.{ℕ, Bool, List, refl}
use Rattle.plain_orders.specs.declared.act.Act.{Act}
use Rattle.plain_orders.specs.declared.layout.Layout.{Layout}
use Rattle.plain_runs.specs.Plain.{Server}
use Rattle.plain_runs.specs.Run.{state_after}
use Rattle.app_job.specs.Sites.{Site as Target}
use Rattle.cluster_runs.specs.declared.move_outs.MoveOuts.{MoveOuts}
use Rattle.cluster_runs.specs.Machine.{Machine, Site}
use Rattle.cluster_runs.specs.Goes.{TickGoes, LookGoes, DieGoes, HaltGoes, dies}
use Rattle.cluster_invariant.specs.Coherence.{CoherenceHolds, NodeHeld}
use Rattle.cluster_invariant.specs.Holds.{Holds}
use Rattle.cluster_invariant.proofs.Small.{some_kept}
use Rattle.cluster_invariant.proofs.SiteMoves.{kept_by_look, kept_by_death, kept_by_halt}
use Rattle.cluster_invariant.proofs.Frame.{kept_by_tick}
use Rattle.coherence_kept.proofs.CoherenceLater.{held_same}

-- what is coherent at each data server
abbrev pub PutsCoherent : Layout → Machine → Type 0
PutsCoherent l m = (d : ℕ) → CoherenceHolds ((state_after l m.trail).server_at d) (m.site_at d)

-- it as a part of the invariant
abbrev pub CoherencePart : (ℕ → Bool) → ℕ → Server → Site → Type 0
CoherencePart dead d v x = CoherenceHolds v x

-- A tick keeps it.
pub coherence_kept_by_tick : (l : Layout) (m new : Machine) (now : ℕ) (outs : MoveOuts) (written : List Act) → Holds l m → TickGoes m now outs written new → PutsCoherent l new
coherence_kept_by_tick l m new now outs written h goes d = ((kept_by_tick l m new now outs written h goes).sites d).coherence

-- A look keeps it: what jobs know is not of it.
pub coherence_kept_by_look : (l : Layout) (m : Machine) (app job line : ℕ) (at : Target) (outs : MoveOuts) (written : List Act) (new : Machine)
    → Holds l m → LookGoes m app job line at outs written new → PutsCoherent l new
coherence_kept_by_look l m app job line at outs written new h goes =
    kept_by_look CoherencePart l m app job line at outs written new goes (λ d. (h.sites d).coherence)
    (λ knows. record { lanes = (h.sites at.server).coherence.lanes; node = (h.sites at.server).coherence.node })

-- An application server that goes keeps it.
pub coherence_kept_by_die : (l : Layout) (m : Machine) (app : ℕ) (outs : MoveOuts) (written : List Act) (new : Machine)
    → Holds l m → DieGoes m app outs written new → PutsCoherent l new
coherence_kept_by_die l m app outs written new h goes =
    kept_by_death CoherencePart l m app outs written new goes
    (λ alive d. record {
      lanes = (h.sites d).coherence.lanes;
      node =
          some_kept (NodeHeld (m.site_at d)) (NodeHeld ((dies app m).site_at d)) (λ n is. held_same (m.site_at d) ((dies app m).site_at d) n (λ s. refl) is)
          (m.site_at d).node (h.sites d).coherence.node;
    })

-- A halt keeps it.
pub coherence_kept_by_halt : (l : Layout) (m : Machine) (server : ℕ) (outs : MoveOuts) (written : List Act) (new : Machine)
    → Holds l m → HaltGoes m server outs written new → PutsCoherent l new
coherence_kept_by_halt l m server outs written new h goes =
    kept_by_halt CoherencePart l m server outs written new goes (λ d. (h.sites d).coherence) (record { lanes = (h.sites server).coherence.lanes; node = tt })
