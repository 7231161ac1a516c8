-- The tables of application ends, over each step of a data server and so over each move.
use Rattle.std.proofs.Common.{◌≡◌, inl, inr, ℕ, List, [], ◌∷◌, Option, refl, sym, ◌∙◌, subst}
use Rattle.std.specs.List.{AllByRecursion}
use Rattle.plain_orders.specs.declared.act.Act.{Act}
use Rattle.plain_orders.specs.declared.entry.Entry.{Entry}
use Rattle.plain_orders.specs.declared.entry.Entry.TheVariants.{Epoch, Opened, Closed, Update, Commit, Rollback}
use Rattle.plain_orders.specs.declared.layout.Layout.{Layout}
use Rattle.plain_runs.specs.OrderRows.{entered}
use Rattle.plain_runs.specs.Plain.{Plain, Server, start}
use Rattle.plain_runs.specs.Run.{IsRun, after_all, state_after}
use Rattle.plain_runs.specs.Step.{after}
use Rattle.plain_runs.proofs.RunLemmas.{after_all-append, at_put}
use Rattle.data_rules.specs.DataState.{DataState}
use Rattle.data_rules.specs.Step.{DataMay}
use Rattle.cluster_runs.specs.declared.move_outs.MoveOuts.{MoveOuts}
use Rattle.cluster_runs.specs.declared.moves.Move.TheVariants.{Server as ServerMove}
use Rattle.cluster_runs.specs.CoresState.{CoresState}
use Rattle.cluster_runs.specs.Goes.{ServerGoes, at_site, server_site}
use Rattle.cluster_runs.specs.Machine.{Machine, Site}
use Rattle.data_rules.specs.declared.data_in.DataIn.{DataIn}
use Rattle.cluster_runs.specs.Mirrors.{Mirrors}
use Rattle.cluster_runs.specs.Moves.{Allowed, NodeMay}
use Rattle.cluster_invariant.specs.Holds.{Holds}
use Rattle.cluster_invariant.proofs.Deeds.{Deed, Enters, Closes, Releases, ComesBack, Grants, Frees, Breaks, act_of}
use Rattle.cluster_invariant.proofs.OrderMoves.{step_from}
use Rattle.ends_kept.proofs.ServerActs.{IsOwn, step_acts}
use Rattle.told_kept.proofs.TablesShort.{TablesHold, SamePairs, before, states_at, tables_same}
use Rattle.told_kept.proofs.ToldServer.{server_same}

-- an act of a data server leaves the pairs

abbrev PairsStay : Server → Server → Type 0
PairsStay s t = t.pair_at ≡ s.pair_at

entered_pairs : (s : Server) (e : Entry) → PairsStay s (entered s e)
entered_pairs s (Epoch number) = refl
entered_pairs s (Opened session app) = refl
entered_pairs s (Closed session) = refl
entered_pairs s (Update session w job txn op) = refl
entered_pairs s (Commit session w job txn) = refl
entered_pairs s (Rollback session w job txn) = refl

deed_pairs : (l : Layout) (p : Plain) (d : ℕ) (x : Deed) → SamePairs p (after l p (act_of d x))
deed_pairs l p d (Enters e) k = at_put PairsStay p.server_at d _ (λ s. refl) (entered_pairs (p.server_at d) e) k
deed_pairs l p d (Closes s cause) k = at_put PairsStay p.server_at d _ (λ s. refl) refl k
deed_pairs l p d (Releases s) k = at_put PairsStay p.server_at d _ (λ s. refl) refl k
deed_pairs l p d ComesBack k = at_put PairsStay p.server_at d _ (λ s. refl) refl k
deed_pairs l p d (Grants s j m key at) k = at_put PairsStay p.server_at d _ (λ s. refl) refl k
deed_pairs l p d (Frees s j m key) k = at_put PairsStay p.server_at d _ (λ s. refl) refl k
deed_pairs l p d (Breaks app now) k = at_put PairsStay p.server_at d _ (λ s. refl) refl k

own_pairs : (l : Layout) (p : Plain) (d : ℕ) (a : Act) → IsOwn d a → SamePairs p (after l p a)
own_pairs l p d a (inl x) = subst (λ (b : Act). SamePairs p (after l p b)) (sym x.1) (λ k. at_put PairsStay p.server_at d _ (λ s. refl) refl k)
own_pairs l p d a (inr x) = subst (λ (b : Act). SamePairs p (after l p b)) (sym x.1) (deed_pairs l p d x.0)

all_pairs : (l : Layout) (p : Plain) (d : ℕ) (acts : List Act) → AllByRecursion (IsOwn d) acts → SamePairs p (after_all l p acts)
all_pairs l p d [] own k = refl
all_pairs l p d (a ∷ acts) own k = all_pairs l (after l p a) d acts own.1 k ∙ own_pairs l p d a own.0 k

-- Each step of a data server keeps them.
pub tables_kept_by_server : (l : Layout) (c : CoresState) (m : Machine) (server now : ℕ) (input : DataIn) (outs : MoveOuts) (written : List Act) (new : Machine)
    → Holds l m → IsRun l m.trail → Mirrors c m → Allowed c (ServerMove server now input) → ServerGoes m server now input outs written new
    → TablesHold l (state_after l new.trail) new
tables_kept_by_server l c m server now input outs written new h run shows allowed goes =
    subst (λ (n : Machine). TablesHold l (state_after l n.trail) n) (sym goes.after)
    (subst (λ (q : Plain). TablesHold l q (at_site server f m)) (sym (after_all-append l start m.trail written))
    (tables_same l (state_after l m.trail) (after_all l (state_after l m.trail) written) m (at_site server f m)
    (all_pairs l (state_after l m.trail) goes.node.server written
    (subst (AllByRecursion (IsOwn goes.node.server)) (sym goes.acts)
    (step_acts goes.node now input goes.data_outs goes.state _ (step_from l m server goes.node h run goes.runs) may goes.steps)))
    (states_at m server (f (m.site_at server)) (λ a. (server_same goes.node now input goes.data_outs goes.state (m.site_at server) a).0)) (λ a lives. lives) (before l m h)))
  where
    f : Site → Site
    f = server_site goes.node now input goes.data_outs goes.state

    may : DataMay goes.node input
    may = subst (λ (o : Option DataState). NodeMay o input) (shows.nodes server ∙ goes.runs) allowed.may
