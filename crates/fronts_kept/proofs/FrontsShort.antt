-- Fronts, for the moves that put and take nothing: a tick, a look, a node or an application server that goes, and starts.
use Rattle.std.proofs.Common.{◌≡◌, ◌≤◌, arith, sym, ℕ, Bool, true, false, List, refl, subst, length}
use Rattle.cluster_runs.specs.Sent.{Lane}
use Rattle.plain_orders.specs.declared.act.Act.{Act}
use Rattle.plain_orders.specs.declared.layout.Layout.{Layout}
use Rattle.plain_runs.specs.Plain.{Plain, Server, put, order_at}
use Rattle.plain_runs.specs.Run.{state_after}
use Rattle.app_job.specs.Sites.{Site as Target}
use Rattle.cluster_runs.specs.declared.move_outs.MoveOuts.{MoveOuts}
use Rattle.cluster_runs.specs.Machine.{Machine, Site}
use Rattle.cluster_runs.specs.Goes.{TickGoes, LookGoes, DieGoes, HaltGoes, dies, halted_site}
use Rattle.cluster_invariant.specs.Fronts.{FrontsHold}
use Rattle.cluster_invariant.specs.Holds.{SiteHolds, Holds}
use Rattle.cluster_invariant.proofs.SiteMoves.{kept_by_look, kept_by_death, kept_by_halt}
use Rattle.cluster_invariant.proofs.Frame.{kept_by_tick}
use Rattle.link_kept.proofs.Later.{front_same}
use Rattle.fronts_kept.proofs.FrontsLater.{SameTaken, SameEnds, same_taken, fronts_later}
use Rattle.plain_orders.specs.declared.entry.Entry.{Entry}
use Rattle.plain_runs.specs.OrderRows.{crashed, opened_with}
use Rattle.plain_runs.specs.Plain.{current}
use Rattle.plain_runs.specs.Run.{IsRun}
use Rattle.cluster_runs.specs.CoresState.{CoresState}
use Rattle.cluster_runs.specs.declared.moves.Move.TheVariants.{Begin}
use Rattle.cluster_runs.specs.Goes.{BeginGoes, begun_site}
use Rattle.cluster_runs.specs.Mirrors.{Mirrors}
use Rattle.cluster_runs.specs.Moves.{Allowed}
use Rattle.cluster_invariant.specs.Words.{IsFront}
use Rattle.cluster_invariant.proofs.SiteMoves.{kept_by_start}
use Rattle.coherence_kept.proofs.BeginMoves.{crashed_on, opened_on}

-- the fronts of the application ends at each data server
abbrev pub AllFronts : Layout → Machine → Type 0
AllFronts l m = (d : ℕ) → FrontsHold ((state_after l m.trail).server_at d) (m.site_at d) m.is_dead_at

-- they as a part of the invariant
abbrev pub FrontsPart : (ℕ → Bool) → ℕ → Server → Site → Type 0
FrontsPart dead d v x = FrontsHold v x dead

-- ends that a move leaves as they are
ends_left : (l : Layout) (d : ℕ) (dead gone : ℕ → Bool) (v w : Server) (x y : Site) → SiteHolds l d dead v x → ((k : ℕ) → k ≤ current v → IsFront (order_at v k) (order_at w k))
    → ((s k : ℕ) → y.lane_at s k ≡ x.lane_at s k) → SameEnds x y → ((a : ℕ) → gone a ≡ false → dead a ≡ false) → FrontsHold w y gone
ends_left l d dead gone v w x y its on lanes same more =
    fronts_later v w x y on (λ s k. subst (λ (z : Lane). SameTaken (x.lane_at s k) z) (sym (lanes s k)) (same_taken (x.lane_at s k))) dead gone same more its.ends its.fronts

-- A tick keeps them.
pub fronts_kept_by_tick : (l : Layout) (m new : Machine) (now : ℕ) (outs : MoveOuts) (written : List Act) → Holds l m → TickGoes m now outs written new → AllFronts l new
fronts_kept_by_tick l m new now outs written h goes d = ((kept_by_tick l m new now outs written h goes).sites d).fronts

-- A look keeps them: what jobs know is not of them.
pub fronts_kept_by_look : (l : Layout) (m : Machine) (app job line : ℕ) (at : Target) (outs : MoveOuts) (written : List Act) (new : Machine)
    → Holds l m → LookGoes m app job line at outs written new → AllFronts l new
fronts_kept_by_look l m app job line at outs written new h goes =
    kept_by_look FrontsPart l m app job line at outs written new goes (λ d. (h.sites d).fronts)
    (λ knows. record { apps = (h.sites at.server).fronts.apps; shown = (h.sites at.server).fronts.shown })

-- An application server that goes keeps them.
pub fronts_kept_by_die : (l : Layout) (m : Machine) (app : ℕ) (outs : MoveOuts) (written : List Act) (new : Machine)
    → Holds l m → DieGoes m app outs written new → AllFronts l new
fronts_kept_by_die l m app outs written new h goes =
    kept_by_death FrontsPart l m app outs written new goes
    (λ alive d.
    ends_left l d m.is_dead_at (put m.is_dead_at app true) ((state_after l m.trail).server_at d) ((state_after l m.trail).server_at d) (m.site_at d) ((dies app m).site_at d)
    (h.sites d) (λ k low. front_same (order_at ((state_after l m.trail).server_at d) k)) (λ s k. refl) (record { state = λ a. refl; told = λ a. refl; shown = λ a. refl }) alive)

-- A halt keeps them.
pub fronts_kept_by_halt : (l : Layout) (m : Machine) (server : ℕ) (outs : MoveOuts) (written : List Act) (new : Machine)
    → Holds l m → HaltGoes m server outs written new → AllFronts l new
fronts_kept_by_halt l m server outs written new h goes =
    kept_by_halt FrontsPart l m server outs written new goes (λ d. (h.sites d).fronts)
    (ends_left l server m.is_dead_at m.is_dead_at ((state_after l m.trail).server_at server) ((state_after l m.trail).server_at server) (m.site_at server)
    (halted_site (m.site_at server)) (h.sites server) (λ k low. front_same (order_at ((state_after l m.trail).server_at server) k)) (λ s k. refl)
    (record { state = λ a. refl; told = λ a. refl; shown = λ a. refl }) (λ a is. is))

-- Each start of a data server keeps them.
pub fronts_kept_by_begin : (l : Layout) (c : CoresState) (m : Machine) (server now : ℕ) (es : List Entry) (outs : MoveOuts) (written : List Act) (new : Machine)
    → Holds l m → IsRun l m.trail → Mirrors c m → Allowed c (Begin server now es) → BeginGoes m server now es outs written new → AllFronts l new
fronts_kept_by_begin l c m server now es outs written new h run shows allowed goes =
    kept_by_start FrontsPart l c m server now es outs written new h run shows allowed goes (λ d. (h.sites d).fronts)
    (λ starts.
    begun (opened_with p.clock l.times.round v es)
    (opened_on v p.clock l.times.round es starts.none starts.first (omega (arith, starts.synced))).goes_on)
    (λ starts.
    begun (crashed p.clock l.times.round v (length es)) (crashed_on v p.clock l.times.round (length es) starts.agree starts.low starts.within).goes_on)
  where
    p : Plain
    p = state_after l m.trail

    v : Server
    v = p.server_at server

    begun : (w : Server) → ((k : ℕ) → k ≤ current v → IsFront (order_at v k) (order_at w k)) → FrontsHold w (begun_site l server now es (m.site_at server)) m.is_dead_at
    begun w on =
        ends_left l server m.is_dead_at m.is_dead_at v w (m.site_at server) (begun_site l server now es (m.site_at server)) (h.sites server) on (λ s k. refl)
        (record { state = λ a. refl; told = λ a. refl; shown = λ a. refl }) (λ a is. is)
