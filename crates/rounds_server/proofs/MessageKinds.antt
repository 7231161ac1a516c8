-- A message is a Done, a Fetch, or neither.
use Rattle.std.proofs.Common.{◌≡◌, ◌⊎◌, inl, inr, ℕ, false, List, refl}
use Rattle.ecp_messages.specs.declared.up.Up.{Up}
use Rattle.ecp_messages.specs.declared.up.Up.TheVariants as up
use Rattle.cluster_invariant.specs.Ends.{is_done}
use Rattle.cluster_invariant.specs.Rounds.{is_fetch}

-- neither
pub record Neither (m : Up) : Type 0 where
  pub done : is_done m ≡ false
  pub fetch : is_fetch m ≡ false

abbrev pub KindIs : Up → Type 0
KindIs m = (m ≡ up.Done) ⊎ (((key : List ℕ) × (m ≡ up.Fetch key)) ⊎ Neither m)

pub kind_is : (m : Up) → KindIs m
kind_is (up.Hello app dial) = inr (inr (record { done = refl; fetch = refl }))
kind_is (up.Recover app session epoch taken dial) = inr (inr (record { done = refl; fetch = refl }))
kind_is (up.Update w job txn op) = inr (inr (record { done = refl; fetch = refl }))
kind_is (up.Add w job key amount) = inr (inr (record { done = refl; fetch = refl }))
kind_is (up.Fetch key) = inr (inl (key, refl))
kind_is (up.Ask ticket job mode key) = inr (inr (record { done = refl; fetch = refl }))
kind_is (up.Unlock job mode key) = inr (inr (record { done = refl; fetch = refl }))
kind_is (up.Cancel ticket) = inr (inr (record { done = refl; fetch = refl }))
kind_is (up.Commit w job txn wanted) = inr (inr (record { done = refl; fetch = refl }))
kind_is (up.Rollback w job txn) = inr (inr (record { done = refl; fetch = refl }))
kind_is (up.Sync ticket) = inr (inr (record { done = refl; fetch = refl }))
kind_is up.Done = inl refl
kind_is (up.Claim job mode number at key) = inr (inr (record { done = refl; fetch = refl }))
kind_is up.Bare = inr (inr (record { done = refl; fetch = refl }))
