-- What the writes of a batch leave.
use Rattle.std.proofs.Common.{◌≡◌, inl, inr, ℕ, ◌+◌, List, ◌∷◌, ◌++◌, length, take, drop, get_or, Option, Some, sym, ◌∙◌, ap, arith, take-append-drop}
use Rattle.std.specs.Prelude.{option_map}
use Rattle.std.proofs.lemmas.List.{append-nil, length-append, take_all, drop_all, take-append-le, drop_at, drop_more}
use Rattle.outer_disk.specs.Disk.{written, Torn}
use Rattle.journal_disk.specs.Writing.{HasGateOrBatch}

module _ (gate : ℕ) (old batch : List ℕ) (long : length old ≡ gate + 1) where
  -- a write behind the end
  pub written_behind : written old (gate + 1) batch ≡ old ++ batch
  written_behind =
      ap (λ (bs : List ℕ). bs ++ (batch ++ drop (gate + 1 + length batch) old)) (take_all (gate + 1) old (omega (arith, long)))
      ∙ ap (λ (bs : List ℕ). old ++ (batch ++ bs)) (drop_all (gate + 1 + length batch) old (omega (arith, long)))
      ∙ ap (λ (bs : List ℕ). old ++ bs) (append-nil batch)

  pub told_behind : (o p : Option (List ℕ)) → p ≡ option_map (λ bytes. written bytes (gate + 1) batch) o → o ≡ Some old → p ≡ Some (old ++ batch)
  told_behind o p e f = e ∙ ap (λ (v : Option (List ℕ)). option_map (λ bytes. written bytes (gate + 1) batch) v) f ∙ ap (λ (bs : List ℕ). Some bs) written_behind

  -- before it the gate is in front
  pub not_yet : (c : List ℕ) → c ≡ old → HasGateOrBatch gate old batch c
  not_yet c e = inl (ap (λ (bs : List ℕ). take (gate + 1) bs) e ∙ take_all (gate + 1) old (omega (arith, long)))

  -- it keeps the gate in front in each of its outcomes
  pub torn_behind : (n : ℕ) (c : List ℕ) → Torn (gate + 1) n old c → HasGateOrBatch gate old batch c
  torn_behind n c torn = inl (torn.before ∙ take_all (gate + 1) old (omega (arith, long)))

  -- a write of the gate leaves the batch whole
  pub torn_gate : (c : List ℕ) → Torn gate 1 (old ++ batch) c → HasGateOrBatch gate old batch c
  torn_gate c torn =
      let size : length (old ++ batch) ≡ gate + 1 + length batch = omega (arith, length-append old batch, long) in
      let front : take gate c ≡ take gate old = torn.before ∙ take-append-le gate old batch (omega (arith, long)) in
      let back : drop (gate + 1) c ≡ batch = torn.after ∙ drop_at old batch (gate + 1) long in
      let g = get_or c gate 0 in
      let rest : drop gate c ≡ g ∷ batch = drop_more c gate 0 (omega (arith, torn.no_shorter, size)) ∙ ap (λ (bs : List ℕ). g ∷ bs) back in
      inr (g, sym (take-append-drop gate c) ∙ ap (λ (bs : List ℕ). bs ++ drop gate c) front ∙ ap (λ (bs : List ℕ). take gate old ++ bs) rest)
