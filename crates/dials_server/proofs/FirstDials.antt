-- The whole part on connections as a first frame is taken, where the node has what it should have then.
use Rattle.std.proofs.Common.{◌≡◌, ℕ, Bool, is_some, refl, ◌∙◌, arith}
use Rattle.plain_runs.specs.Plain.{Server}
use Rattle.data_rules.specs.DataState.{DataState}
use Rattle.data_rules.specs.Conns.{role_of}
use Rattle.cluster_runs.specs.Machine.{Site}
use Rattle.cluster_runs.specs.Connections.{knows}
use Rattle.cluster_runs.specs.Goes.{with_node}
use Rattle.cluster_invariant.specs.Dials.{DialsAre, NodeDials, is_here}
use Rattle.dials_kept.proofs.ConnectionsGrow.{SiteGrows, known_same, no_less_same, pair_later}
use Rattle.dials_kept.proofs.NodesGrow.{EndsGrow, learnt_later, links_later, node_later, told_same}
use Rattle.dials_kept.proofs.ShortDials.{grow_same}
use Rattle.dials_server.proofs.FirstSites.{PartsAre}

pub first_dials : (v : Server) (x z : Site) (dead : ℕ → Bool) (now : ℕ) (k : DataState) → PartsAre v x z dead → NodeDials z k
    → ((i : ℕ) → is_here (x.connection_at i) ≡ is_some (role_of k i)) → DialsAre v (with_node now k z) dead
first_dials v x z dead now k is node here = record {
  pairs =
      λ a.
      pair_later v v z u (known_same v) site (dead a) (dead a) a (z.end_at a) (z.end_at a) (no_less_same (knows (z.end_at a))) (ends a) (is.pairs a).made (is.pairs a).left
      (is.pairs a).still (is.pairs a);
  learnt = λ s i. learnt_later v v z u (known_same v) ends (λ a. no_less_same (knows (z.end_at a))) s i (z.lane_at s i).began (is.learnt s i);
  links = links_later z u v ends (λ i. refl) is.links;
  here = λ i. is.here i ∙ here i;
  node = node_later v z u k ends (λ i. refl) refl (told_same z u k (λ s. refl)) node;
}
  where
    u : Site
    u = with_node now k z

    site : SiteGrows z u
    site = record { links = λ conn l at. at; begun = λ s i at. at; taken = λ s i. omega arith }

    ends : EndsGrow z v u
    ends a number = grow_same z u v a number (z.end_at a) refl ((z.end_at a).connection_at number)
