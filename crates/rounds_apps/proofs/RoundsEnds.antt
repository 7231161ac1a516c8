-- What rounds put at one data server, as a step of an application server changes its end and the lanes of its session.
use Rattle.std.proofs.Common.{◌≡◌, ◌≢◌, ◌≤◌, ℕ, Bool, false, List, [], ◌∷◌, ◌++◌, get_or, length, Option, Some, None, refl, sym, ◌∙◌, ap, subst, arith}
use Rattle.std.specs.Prelude.{IfSome, IsSomeAnd}
use Rattle.std.specs.List.{list_any}
use Rattle.plain_orders.specs.declared.entry.Entry.{Entry}
use Rattle.plain_runs.specs.Plain.{Server, Session as PlainSession, current, order_at, put}
use Rattle.recovery_round.specs.RoundWords.{Round}
use Rattle.data_rules.specs.DataState.{DataState}
use Rattle.app_rules.specs.AppState.{Session}
use Rattle.cluster_runs.specs.Machine.{Site, End}
use Rattle.cluster_runs.specs.Sent.{Lane, Place}
use Rattle.cluster_steps.proofs.AppSites.{SameBeside}
use Rattle.cluster_invariant.specs.Ends.{ToldPlace}
use Rattle.cluster_invariant.specs.Rounds.{LaneRound, RoundGoes, RoundOf, RoundsHold, SessionRound}
use Rattle.cluster_invariant.specs.Words.{is_normal_down}
use Rattle.cluster_invariant.proofs.OrderBeside.{SameOrders}
use Rattle.cluster_invariant.proofs.Small.{at_places, some_kept}

-- A step at this data server: its own end, with what the rounds say of it, and the lanes.
pub record EndRounds (v u : Server) (x y : Site) (dead : ℕ → Bool) (app : ℕ) (f : End) : Type 0 where
  pub same : SameOrders v u
  pub beside : SameBeside x y
  pub ends : y.end_at ≡ put x.end_at app f
  pub downs : (s k : ℕ) → (y.lane_at s k).down ≡ (x.lane_at s k).down
  pub lanes : (s k : ℕ) → k ≤ current v → LaneRound (order_at v k) s (y.lane_at s k)
  pub others : (a : ℕ) → a ≢ app → dead a ≡ false → (q : Session) → (x.end_at a).state.session ≡ Some q → (k : ℕ) → y.lane_at q.number k ≡ x.lane_at q.number k
  pub own : dead app ≡ false → IfSome f.state.session (RoundOf v y f)

-- two ends that have the same session are one
pub one_end : (v : Server) (a b : ℕ) (s t : Session) (p q : Option Place) → ToldPlace v a s p → ToldPlace v b t q → s.number ≡ t.number → a ≡ b
one_end v a b s t p q x y same =
    go (v.session_at s.number) x.met (subst (λ (n : ℕ). IsSomeAnd (v.session_at n) (λ z. (z.app ≡ b) × (z.told ≡ y.order))) (sym same) y.met)
  where
    go : (o : Option PlainSession) → IsSomeAnd o (λ z. (z.app ≡ a) × (z.told ≡ x.order)) → IsSomeAnd o (λ z. (z.app ≡ b) × (z.told ≡ y.order)) → a ≡ b
    go None i j = absurd i
    go (Some z) i j = sym i.0 ∙ j.0

module _ (v u : Server) (x y : Site) (dead : ℕ → Bool) (app : ℕ) (f : End) (h : RoundsHold v x dead) (step : EndRounds v u x y dead app f) where
  same_now : current u ≡ current v
  same_now = ap (λ (xs : List (List Entry)). length xs) step.same.past

  same_order : (k : ℕ) → order_at u k ≡ order_at v k
  same_order k =
      ap (λ (xs : List (List Entry)). get_or (xs ++ u.order ∷ []) k []) step.same.past
      ∙ ap (λ (es : List Entry). get_or (v.past ++ es ∷ []) k []) step.same.order

  -- a session of an end whose lanes are as they were
  round_same : (e : End) (o : Option Session) → IfSome o (λ q. (k : ℕ) → y.lane_at q.number k ≡ x.lane_at q.number k) → IfSome o (RoundOf v x e) → IfSome o (RoundOf v y e)
  round_same e None lanes is = tt
  round_same e (Some q) lanes is = go e.told is
    where
      go : (p : Option Place) → IfSome p (λ z. SessionRound (order_at v z.order) (x.lane_at q.number z.order) q)
          → IfSome p (λ z. SessionRound (order_at v z.order) (y.lane_at q.number z.order) q)
      go None is = tt
      go (Some z) is = subst (λ (a : Lane). SessionRound (order_at v z.order) a q) (sym (lanes z.order)) is

  -- the orders are as they were
  round_now : (e : End) (o : Option Session) → IfSome o (RoundOf v y e) → IfSome o (RoundOf u y e)
  round_now e None is = tt
  round_now e (Some q) is = go e.told is
    where
      go : (p : Option Place) → IfSome p (λ z. SessionRound (order_at v z.order) (y.lane_at q.number z.order) q)
          → IfSome p (λ z. SessionRound (order_at u z.order) (y.lane_at q.number z.order) q)
      go None is = tt
      go (Some z) is = subst (λ (es : List Entry). SessionRound es (y.lane_at q.number z.order) q) (sym (same_order z.order)) is

  lanes_now : (s k : ℕ) → k ≤ current u → LaneRound (order_at u k) s (y.lane_at s k)
  lanes_now s k low = subst (λ (es : List Entry). LaneRound es s (y.lane_at s k)) (sym (same_order k)) (step.lanes s k (omega (arith, same_now, low)))

  goes_now : (n : DataState) → RoundGoes x n → RoundGoes y n
  goes_now n is = record {
    untold = λ s.
        subst (λ (k : ℕ). list_any is_normal_down (y.lane_at s k).down ≡ false) (sym step.beside.past)
        (ap (list_any is_normal_down) (step.downs s x.past) ∙ is.untold s);
    before = is.before;
  }

  -- What rounds put is as it has to be.
  pub rounds_at_end : RoundsHold u y dead
  rounds_at_end = record {
    lanes = lanes_now;
    node =
        subst (λ (o : Option DataState). IfSome o (λ n. IfSome n.round (λ r. RoundGoes y n))) (sym step.beside.node)
        (some_kept (λ (n : DataState). IfSome n.round (λ r. RoundGoes x n)) (λ (n : DataState). IfSome n.round (λ r. RoundGoes y n))
        (λ n. some_kept (λ (r : Round). RoundGoes x n) (λ (r : Round). RoundGoes y n) (λ r. goes_now n) n.round) x.node h.node);
    apps =
        subst (λ (g : ℕ → End). (a : ℕ) → dead a ≡ false → IfSome (g a).state.session (RoundOf u y (g a))) (sym step.ends)
        (at_places (λ a e. dead a ≡ false → IfSome e.state.session (RoundOf u y e)) x.end_at app f (λ alive. round_now f f.state.session (step.own alive))
        (λ a other alive. round_now (x.end_at a) (x.end_at a).state.session (round_same (x.end_at a) (x.end_at a).state.session (lanes_of a other alive) (h.apps a alive))));
  }
    where
      lanes_of : (a : ℕ) → a ≢ app → dead a ≡ false → IfSome (x.end_at a).state.session (λ q. (k : ℕ) → y.lane_at q.number k ≡ x.lane_at q.number k)
      lanes_of a other alive = go (x.end_at a).state.session refl
        where
          go : (o : Option Session) → (x.end_at a).state.session ≡ o → IfSome o (λ q. (k : ℕ) → y.lane_at q.number k ≡ x.lane_at q.number k)
          go None is = tt
          go (Some q) is = step.others a other alive q is
