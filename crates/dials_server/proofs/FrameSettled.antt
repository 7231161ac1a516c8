-- The part on connections, as what follows each frame is done.
use Rattle.std.proofs.Common.{◌≡◌, ◌≤◌, ◌<◌, ℕ, Bool, List, [], length, Option, Some, None, is_some, option_map, refl, sym, ◌∙◌, ap, subst}
use Rattle.std.proofs.lemmas.Bool.{false≢true}
use Rattle.plain_orders.specs.Ordered.{IsOrdered}
use Rattle.plain_runs.specs.Plain.{Server, order_at}
use Rattle.data_rules.specs.declared.data_outs.DataOuts.{DataOuts}
use Rattle.data_rules.specs.declared.down_frames.DownOut.{DownOut}
use Rattle.data_rules.specs.declared.rows.Role.{Role}
use Rattle.data_rules.specs.declared.rows.Role.TheVariants.{New, Waiting, Bound, Closing}
use Rattle.data_rules.specs.DataState.{DataState}
use Rattle.data_rules.specs.Conns.{role_of}
use Rattle.data_rules.specs.Frames.{settled}
use Rattle.data_rules.specs.Leaving.{flushed}
use Rattle.data_rules.specs.Opening.{rounds}
use Rattle.data_rules.specs.Puts.{Sofar}
use Rattle.data_rules.specs.Step.{made}
use Rattle.cluster_runs.specs.Machine.{DataConnection, Site}
use Rattle.cluster_runs.specs.Connections.{with_downs}
use Rattle.cluster_invariant.specs.Dials.{DialsAre, has_conn, is_here}
use Rattle.cluster_invariant.specs.Served.{HasLearnt}
use Rattle.dials_kept.proofs.ConnectionsGrow.{StaysKnown}
use Rattle.dials_server.proofs.FittingDials.{dials_after}
use Rattle.dials_server.proofs.FittingFrames.{frames_on}
use Rattle.dials_server.proofs.GoNodes.{GoInv}
use Rattle.dials_server.proofs.GoRounds.{flush_go, rounds_go, settled_go}
use Rattle.dials_server.proofs.OpenedNodes.{IsFresh}
use Rattle.dials_server.proofs.RoundNodes.{OpenInv}
use Rattle.dials_server.proofs.SaveDials.{fresh_at}

-- a site after these frames were put
pub record PutsFrames (z y : Site) (st : DataState) (fs : List DownOut) : Type 0 where
  pub past : y.past ≡ z.past
  pub began : (s k : ℕ) → (y.lane_at s k).began ≡ (z.lane_at s k).began
  pub taken : (s k : ℕ) → (z.lane_at s k).down_taken ≤ (y.lane_at s k).down_taken
  pub connections : y.connection_at ≡ z.connection_at
  pub each : (a k : ℕ) → (y.end_at a).connection_at k ≡ option_map (with_downs z.past (frames_on z a k fs)) ((z.end_at a).connection_at k)
  pub states : (a : ℕ) → (y.end_at a).state ≡ (z.end_at a).state
  pub tolds : (a : ℕ) → (y.end_at a).told ≡ (z.end_at a).told
  pub node : y.node ≡ Some st

module _ (v w : Server) (z : Site) (dead : ℕ → Bool) (k : DataState) (gone : List ℕ) (conn now : ℕ) (b : Sofar) (later : StaysKnown v w) (order_v : order_at v z.past ≡ k.order)
    (ordered : IsOrdered k.order) (learnt : (s : ℕ) → role_of k conn ≡ Some (Bound s) → HasLearnt z s) (apart : role_of k conn ≡ Some Waiting → ⊥) (is : DialsAre v z dead)
    (runs : z.node ≡ Some k) (inv : GoInv z k gone b)
  where
    fresh : (s : ℕ) → length k.order < s → IsFresh z s
    fresh = fresh_at v z dead k.order order_v ordered is

    rounds_inv : OpenInv z k gone [] (flushed (rounds now b))
    rounds_inv = flush_go z k gone fresh (rounds now b) (rounds_go z k gone fresh now b inv)

    -- it is for what it was for before
    bound_before : (s : ℕ) → role_of (flushed (rounds now b)).state conn ≡ Some (Bound s) → HasLearnt z s
    bound_before s role = go (role_of k conn) refl
      where
        same : (r : Role) → role_of k conn ≡ Some r → (r ≡ Waiting → ⊥) → Some r ≡ Some (Bound s)
        same r was other = sym (rounds_inv.stays conn r other was) ∙ role

        go : (o : Option Role) → role_of k conn ≡ o → HasLearnt z s
        go None was = absurd (false≢true (sym (ap (λ (o : Option Role). is_some o) was) ∙ sym (rounds_inv.there conn) ∙ ap (λ (o : Option Role). is_some o) role))
        go (Some New) was = (let both : ◌≡◌ {A = Option Role} (Some New) (Some (Bound s)) = same New was (λ is. absurd cc) in absurd cc)
        go (Some Waiting) was = absurd (apart was)
        go (Some (Bound t)) was = learnt s (was ∙ same (Bound t) was (λ is. absurd cc))
        go (Some (Closing t)) was = (let both : ◌≡◌ {A = Option Role} (Some (Closing t)) (Some (Bound s)) = same (Closing t) was (λ is. absurd cc) in absurd cc)

    pub made_inv : (st : DataState) (outs : DataOuts) → made st outs ≡ settled conn now b → OpenInv z k gone [] (made st outs)
    made_inv st outs steps = subst (λ (d : Sofar). OpenInv z k gone [] d) (sym steps) (settled_go z k gone fresh conn now b bound_before inv)

    -- The whole part then.
    pub settled_dials : (st : DataState) (outs : DataOuts) → made st outs ≡ settled conn now b → (y : Site) → PutsFrames z y st outs.frames → st.order ≡ order_at w z.past
        → DialsAre w y dead
    settled_dials st outs steps y put order = go (made_inv st outs steps)
      where
        go : OpenInv z k gone [] (made st outs) → DialsAre w y dead
        go inv =
            dials_after v w z y dead st outs.frames later
            (record { past = put.past; began = put.began; connections = put.connections; each = put.each; fits = inv.frames }) put.taken put.states put.tolds is inv.nodes order
            put.node
            (λ i.
            ap (λ (g : ℕ → Option DataConnection). is_here (g i)) put.connections ∙ is.here i ∙ ap (λ (o : Option DataState). has_conn o i) runs
            ∙ sym (inv.there i))
