-- A window that keeps its messages is the window that keeps their bodies.
use Rattle.std.proofs.Common.{zero, suc, ◌≡◌, ℕ, ◌+◌, ◌≤◌, List, [], ◌∷◌, map, drop, length, refl, ap, arith, rules}
use Rattle.std.proofs.lemmas.List.{map-append, drop-map, length-map}
use Rattle.end_words.specs.Windows.{Window, numbered_from}
use Rattle.end_words.specs.Laws.{WindowsAgree, message_of}

-- the messages of numbered ones
unnumbered : {M : Type 0} (n : ℕ) (ms : List M) → map message_of (numbered_from n ms) ≡ ms
unnumbered n [] = refl
unnumbered n (m ∷ ms) = ap (λ rest. m ∷ rest) (unnumbered (n + 1) ms)

-- nothing is left where all is dropped
none_left : {M : Type 0} (n : ℕ) (ms : List M) → length ms ≤ n → drop n ms ≡ []
none_left zero [] low = refl
none_left (suc n) [] low = refl
none_left zero (m ∷ ms) low = absurd (omega (arith, low))
none_left (suc n) (m ∷ ms) low = none_left n ms (omega (arith, low))

pub windows_agree : (M : Type 0) (body : M → List ℕ) (w : Window M) → WindowsAgree M body w
windows_agree M body w = record {
  begins = refl;
  counts = search (length-map, rules);
  sends = λ m. search (map-append, rules);
  takes = λ seq ack fresh. grind (arith, drop-map, rules);
  repeats = λ seq ack again. grind (arith, drop-map, rules);
  sends_again = λ taken. grind (arith, drop-map, unnumbered, none_left, rules);
}
