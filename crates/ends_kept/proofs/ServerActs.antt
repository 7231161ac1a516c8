-- The acts of a data server's step are its own: the act of a save, and deeds.
use Rattle.std.proofs.Common.{◌≡◌, ◌⊎◌, inl, inr, ℕ, Bool, true, false, List, [], ◌∷◌, map, refl, sym, subst}
use Rattle.std.specs.Prelude.{nat_lt}
use Rattle.std.specs.List.{AllByRecursion}
use Rattle.plain_orders.specs.declared.act.Act.{Act}
use Rattle.plain_orders.specs.declared.act.Act.TheVariants.{Synced}
use Rattle.data_rules.specs.declared.data_in.DataIn.{DataIn}
use Rattle.data_rules.specs.declared.data_in.DataIn.TheVariants as data_in
use Rattle.data_rules.specs.declared.data_outs.DataOuts.{DataOuts}
use Rattle.data_rules.specs.DataState.{DataState}
use Rattle.data_rules.specs.Puts.{begun}
use Rattle.data_rules.specs.Saving.{writes_synced}
use Rattle.data_rules.specs.Step.{DataMay, DataStep, made}
use Rattle.cluster_runs.specs.Steps.{is_raised, raised}
use Rattle.cluster_invariant.proofs.AllLists.{all_filtered, all_joined}
use Rattle.cluster_invariant.proofs.Deeds.{Deed, Does, act_of}
use Rattle.cluster_invariant.proofs.PieceDeeds.{does_step}
use Rattle.cluster_invariant.proofs.PieceMay.{begins}
use Rattle.cluster_invariant.proofs.PiecesOfSteps.{StepFrom}

-- an act of this data server alone
abbrev pub IsOwn : ℕ → Act → Type 0
IsOwn d a = ((n : ℕ) × (a ≡ Synced d n)) ⊎ ((x : Deed) × (a ≡ act_of d x))

deeds_own : (d : ℕ) (ds : List Deed) → AllByRecursion (IsOwn d) (map (act_of d) ds)
deeds_own d [] = tt
deeds_own d (x ∷ xs) = (inr (x, refl), deeds_own d xs)

begins_own : (old : DataState) (now : ℕ) (input : DataIn) → AllByRecursion (IsOwn old.server) (begins (record { old = old; now = now; input = input })).outs.acts
begins_own old now (data_in.Frame conn up) = tt
begins_own old now (data_in.Connected conn) = tt
begins_own old now (data_in.Broken conn) = tt
begins_own old now data_in.Tick = tt
begins_own old now (data_in.Saved upto) = go (nat_lt old.synced upto)
  where
    go : (rises : Bool) → AllByRecursion (IsOwn old.server) (writes_synced rises upto (begun old)).outs.acts
    go true = (inl (upto, refl), tt)
    go false = tt

begins_server : (old : DataState) (now : ℕ) (input : DataIn) → (begins (record { old = old; now = now; input = input })).state.server ≡ old.server
begins_server old now (data_in.Frame conn up) = refl
begins_server old now (data_in.Connected conn) = refl
begins_server old now (data_in.Broken conn) = refl
begins_server old now data_in.Tick = refl
begins_server old now (data_in.Saved upto) = go (nat_lt old.synced upto)
  where
    go : (rises : Bool) → (writes_synced rises upto (begun old)).state.server ≡ old.server
    go true = refl
    go false = refl

-- Those that a step writes, without the saves that raise nothing.
pub step_acts : (old : DataState) (now : ℕ) (input : DataIn) (outs : DataOuts) (new : DataState) (n : ℕ)
    → StepFrom old → DataMay old input → DataStep old now input outs new → AllByRecursion (IsOwn old.server) (raised n outs.acts)
step_acts old now input outs new n from may steps = go (does_step old now input outs new from may steps)
  where
    go : Does (begins (record { old = old; now = now; input = input })) (made new outs) → AllByRecursion (IsOwn old.server) (raised n outs.acts)
    go does =
        all_filtered (IsOwn old.server) (is_raised n) outs.acts
        (subst (AllByRecursion (IsOwn old.server)) (sym does.acts)
        (all_joined (IsOwn old.server) (begins (record { old = old; now = now; input = input })).outs.acts _ (begins_own old now input)
        (subst (λ (d : ℕ). AllByRecursion (IsOwn old.server) (map (act_of d) does.deeds)) (sym (begins_server old now input)) (deeds_own old.server does.deeds))))
