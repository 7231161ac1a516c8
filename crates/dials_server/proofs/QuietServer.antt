-- The part on connections, for a step of a data server that puts and takes no frame.
use Rattle.std.proofs.Common.{◌≡◌, ◌≤◌, ℕ, Bool, true, false, not, if◌then◌else◌, Option, Some, None, is_some, option_map, refl, sym, ◌∙◌, ap, subst}
use Rattle.std.specs.Prelude.{IfSome, IsSomeAnd}
use Rattle.plain_orders.specs.Sessions.{app_in}
use Rattle.plain_runs.specs.Plain.{Server, order_at}
use Rattle.app_rules.specs.AppState.{AppEnd}
use Rattle.data_rules.specs.DataState.{DataState}
use Rattle.data_rules.specs.Conns.{role_of}
use Rattle.cluster_runs.specs.Machine.{Site}
use Rattle.cluster_runs.specs.Sent.{Connection, Knew, Lane, Place}
use Rattle.cluster_runs.specs.Connections.{knows, knows_of, link_of}
use Rattle.cluster_invariant.specs.Dials.{DialsAre, KnowsStill, LearntBy, NodeDials, PairDials, has_conn, is_here, is_made}
use Rattle.cluster_invariant.specs.Words.{NoLess, is_wire}
use Rattle.cluster_invariant.proofs.Small.{of_some}
use Rattle.dials_kept.proofs.ConnectionsGrow.{Grows, GrowTo, SiteGrows, StaysKnown, no_less_same, pair_later}
use Rattle.dials_kept.proofs.NodesGrow.{EndsGrow, learnt_later, links_later, node_later, told_same}
use Rattle.dials_kept.proofs.ShortDials.{some_mapped, still_mapped}

-- What a step makes of each connection: only the data end may leave it.
pub record Quietly (x y : Site) (g : ℕ → ℕ → Connection → Connection) : Type 0 where
  pub past : y.past ≡ x.past
  pub began : (s k : ℕ) → (y.lane_at s k).began ≡ (x.lane_at s k).began
  pub taken : (s k : ℕ) → (x.lane_at s k).down_taken ≤ (y.lane_at s k).down_taken
  pub states : (a : ℕ) → (y.end_at a).state ≡ (x.end_at a).state
  pub tolds : (a : ℕ) → (y.end_at a).told ≡ (x.end_at a).told
  pub each : (a n : ℕ) → (y.end_at a).connection_at n ≡ option_map (g a n) ((x.end_at a).connection_at n)
  pub ups : (a n : ℕ) (c : Connection) → (g a n c).ups ≡ c.ups
  pub knew : (a n : ℕ) (c : Connection) → (g a n c).knew ≡ c.knew
  pub app_left : (a n : ℕ) (c : Connection) → (g a n c).app_left ≡ c.app_left
  pub grows : (a n : ℕ) (c : Connection) → (x.end_at a).connection_at n ≡ Some c → Grows x y c (g a n c)
  pub links : (conn : ℕ) → link_of y conn ≡ link_of x conn

-- The whole part, where the node has what it should have after the change of its own state.
pub dials_quietly : (v w : Server) (x y : Site) (dead : ℕ → Bool) (g : ℕ → ℕ → Connection → Connection) (o n : DataState) → StaysKnown v w → Quietly x y g
    → x.node ≡ Some o → y.node ≡ Some n → ((conn : ℕ) → is_here (y.connection_at conn) ≡ is_some (role_of n conn)) → (NodeDials y o → NodeDials y n)
    → DialsAre v x dead → DialsAre w y dead
dials_quietly v w x y dead g o n later q was runs here node is = record {
  pairs = pair;
  learnt =
      λ s k.
      subst (λ (b : Option ℕ). LearntBy w y s k b (app_in (order_at w k) s)) (sym (q.began s k))
      (learnt_later v w x y later ends (λ a. more a) s k (x.lane_at s k).began (is.learnt s k));
  links = links_later x y w ends q.links is.links;
  here = λ conn. here conn ∙ sym (ap (λ (z : Option DataState). has_conn z conn) runs);
  node =
      subst (λ (z : Option DataState). IfSome z (NodeDials y)) (sym runs)
      (node (node_later w x y o ends q.links q.past (told_same x y o (λ s. ap (λ (b : Option ℕ). is_some b) (q.began s x.past))) had));
}
  where
    had : NodeDials x o
    had = of_some (NodeDials x) x.node o was is.node

    site : SiteGrows x y
    site = record {
      links = λ conn l at. q.links conn ∙ at;
      begun = λ s k at. ap (λ (b : Option ℕ). is_some b) (q.began s k) ∙ at;
      taken = q.taken;
    }

    ends : EndsGrow x w y
    ends a m =
        subst (λ (z : Option Connection). GrowTo x w y a m (x.end_at a) ((x.end_at a).connection_at m) z) (sym (q.each a m))
        (go ((x.end_at a).connection_at m) refl)
      where
        go : (z : Option Connection) → (x.end_at a).connection_at m ≡ z → GrowTo x w y a m (x.end_at a) z (option_map (g a m) z)
        go None it = tt
        go (Some c) it = q.grows a m c it

    knows_same : (a : ℕ) → knows (y.end_at a) ≡ knows (x.end_at a)
    knows_same a =
        ap (λ (e : AppEnd). knows_of e.session (y.end_at a).told e.told) (q.states a)
        ∙ ap (λ (p : Option Place). knows_of (x.end_at a).state.session p (x.end_at a).state.told) (q.tolds a)

    more : (a : ℕ) → NoLess (knows (x.end_at a)) (knows (y.end_at a))
    more a = subst (λ (k : Knew). NoLess (knows (x.end_at a)) k) (sym (knows_same a)) (no_less_same (knows (x.end_at a)))

    left_so : (a m : ℕ) (z : Option Connection) → IfSome z (λ c. c.app_left ≡ not (is_wire (dead a) (x.end_at a).state m))
        → IfSome (option_map (g a m) z) (λ c. c.app_left ≡ not (is_wire (dead a) (x.end_at a).state m))
    left_so a m None at = tt
    left_so a m (Some c) at = q.app_left a m c ∙ at

    pair : (a : ℕ) → PairDials w y (dead a) a (y.end_at a)
    pair a =
        pair_later v w x y later site (dead a) (dead a) a (x.end_at a) (y.end_at a) (more a) (ends a)
        (λ m.
        ap (λ (z : Option Connection). is_some z) (q.each a m) ∙ some_mapped (g a m) ((x.end_at a).connection_at m) ∙ (is.pairs a).made m
        ∙ sym (ap (λ (e : AppEnd). is_made e.dial m) (q.states a)))
        (λ m.
        subst (λ (e : AppEnd). IfSome ((y.end_at a).connection_at m) (λ c. c.app_left ≡ not (is_wire (dead a) e m))) (sym (q.states a))
        (subst (λ (z : Option Connection). IfSome z (λ c. c.app_left ≡ not (is_wire (dead a) (x.end_at a).state m))) (sym (q.each a m))
        (left_so a m ((x.end_at a).connection_at m) ((is.pairs a).left m))))
        (subst (λ (e : AppEnd). KnowsStill e.line (knows (y.end_at a)) ((y.end_at a).connection_at e.dial)) (sym (q.states a))
        (subst (λ (k : Knew). KnowsStill (x.end_at a).state.line k ((y.end_at a).connection_at (x.end_at a).state.dial)) (sym (knows_same a))
        (subst (λ (z : Option Connection). KnowsStill (x.end_at a).state.line (knows (x.end_at a)) z) (sym (q.each a (x.end_at a).state.dial))
        (still_mapped (g a (x.end_at a).state.dial) (q.knew a (x.end_at a).state.dial) (q.ups a (x.end_at a).state.dial) (x.end_at a).state.line (knows (x.end_at a))
        ((x.end_at a).connection_at (x.end_at a).state.dial) (is.pairs a).still)))) (is.pairs a)

-- what is known of one that is there
pub of_some_and : (P : Connection → Type 0) (o : Option Connection) (c : Connection) → o ≡ Some c → IsSomeAnd o P → P c
of_some_and P o c there holds = subst (λ (z : Option Connection). IsSomeAnd z P) there holds

-- what a step makes of lanes leaves where they began, and what was taken of them downwards
pub lane_step : (b : Bool) (x z : Lane) → z.began ≡ x.began → z.down_taken ≡ x.down_taken
    → ((if b then z else x).began ≡ x.began) × ((if b then z else x).down_taken ≡ x.down_taken)
lane_step true x z began taken = (began, taken)
lane_step false x z began taken = (refl, refl)
