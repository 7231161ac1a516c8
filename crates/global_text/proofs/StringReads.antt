-- Strings that are read from the left.
use Rattle.std.proofs.Common.{◌≡◌, ◌≢◌, ℕ, ◌-◌, List, [], ◌∷◌, ◌++◌, length, drop, refl, sym, ap, subst, ◌∙◌, inl, inr, arith, append_assoc, length-append}
use Rattle.std.specs.Prelude.{◌==◌}
use Rattle.std.proofs.lemmas.Bool.{cases_eq, eqb-true}
use Rattle.std.proofs.lemmas.List.{append-nil}
use Rattle.std.proofs.Math.Seq.{drop-append_seam}
use Rattle.global_text.specs.Numbers.{Every, BeginsOtherwise, IsNumber, is_number_byte}
use Rattle.global_text.specs.Strings.{IsItem, AreItems, NoItem, BeginsQuoted, ReadsBare, ReadsString, IsBad}
use Rattle.global_text.specs.declared.room.Room.{Room}
use Rattle.global_text.specs.Rooms.{HasRoom}
use Rattle.global_text.proofs.Items.{Takes}
use Rattle.global_text.proofs.NumberTokens.{one-span, number-bytes}

items-push : (s items item : List ℕ) (b : ℕ) → AreItems s items → IsItem b item → AreItems (s ++ b ∷ []) (items ++ item)
items-push [] items item b e is = (item, [], is, refl, ap (λ x. x ++ item) e ∙ sym (append-nil item))
items-push (c ∷ s) items item b (first, more, p, q, e) is = (first, more ++ item, p, items-push s more item b q is, ap (λ x. x ++ item) e ∙ append_assoc first more item)

-- one item more
pub begins-push : (s text rest after : List ℕ) (b : ℕ) → BeginsQuoted s text rest → Takes b rest after → BeginsQuoted (s ++ b ∷ []) text after
begins-push s text rest after b (items, p, e) (item, is, k) = (items ++ item, items-push s items item b p is, e ∙ ap (λ x. 34 ∷ (items ++ x)) k ∙ ap (λ x. 34 ∷ x) (sym (append_assoc items item after)))

-- a quote where no item stands isn't doubled
pub quote-ends : (after : List ℕ) → NoItem (34 ∷ after) → BeginsOtherwise (λ b. b == 34) after
quote-ends [] none = tt
quote-ends (c ∷ after) none = λ t. none 34 (34 ∷ 34 ∷ []) after (inl (refl, refl)) (ap (λ x. 34 ∷ x ∷ after) (eqb-true c 34 t))

-- another byte where no item stands is a backslash
pub bad-item : (c : ℕ) (after : List ℕ) → NoItem (c ∷ after) → c ≢ 10 → c ≢ 34 → c ≡ 92
bad-item c after none n m = elim (cases_eq c 92) [
  | inl e ↦ e
  | inr k ↦ absurd (none c (c ∷ []) after (inr (inr (inr ((n, m, k), refl)))) refl)
]

pub read-quoted : (s text rest after : List ℕ) (c : ℕ) → BeginsQuoted s (34 ∷ text) rest → NoItem rest → rest ≡ c ∷ after → c ≡ 34 → ReadsString s (34 ∷ text) after
read-quoted s text rest after c read none e k =
    let whole : rest ≡ 34 ∷ after = cc in
    inr (subst (λ (r : List ℕ). BeginsQuoted s (34 ∷ text) r) whole read, quote-ends after (subst NoItem whole none))

pub read-bad : (room : Room) (s text rest after : List ℕ) (c : ℕ) → BeginsQuoted s (34 ∷ text) rest → NoItem rest → HasRoom room s → rest ≡ c ∷ after → c ≢ 10 → c ≢ 34 → IsBad room (34 ∷ text)
read-bad room s text rest after c read none within e n m =
    let last : c ≡ 92 = bad-item c after (subst NoItem e none) n m in
    let whole : rest ≡ 92 ∷ after = cc in
    inr (s, after, subst (λ (r : List ℕ). BeginsQuoted s (34 ∷ text) r) whole read, subst NoItem whole none, within)

-- the bytes that may belong to a number are one
pub one-bare : (s text rest token after : List ℕ) → ReadsBare s text rest → text ≡ token ++ after → Every is_number_byte token → BeginsOtherwise is_number_byte after → (s ≡ token) × (rest ≡ after)
one-bare s text rest token after (is, e, n) k p m = one-span is_number_byte s token rest after (number-bytes s is) p n m (sym e ∙ k)

pub no-string : (room : Room) (text token after : List ℕ) → BeginsOtherwise (λ b. b == 34) text → text ≡ token ++ after → Every is_number_byte token → BeginsOtherwise is_number_byte after → (IsNumber token → ⊥) → IsBad room text
no-string room text token after quote e p n none = inl record {
  no_quote = quote;
  no_number = λ s rest is. none (subst IsNumber (one-bare s text rest token after is e p n).0 is.0);
}

pub drop-behind : (spelled rest text : List ℕ) → text ≡ spelled ++ rest → drop (length text - length rest) text ≡ rest
drop-behind spelled rest text e =
    let count : length text - length rest ≡ length spelled = omega (arith, ap length e, length-append spelled rest) in
    ap (λ n. drop n text) count ∙ ap (λ t. drop (length spelled) t) e ∙ drop-append_seam spelled rest

-- what follows a string, by its place
pub rest-dropped : (s text rest : List ℕ) → ReadsString s text rest → drop (length text - length rest) text ≡ rest
rest-dropped s text rest (inl (is, e, n)) = drop-behind s rest text e
rest-dropped s text rest (inr ((items, is, e), n)) = drop-behind (34 ∷ (items ++ 34 ∷ [])) rest text (e ∙ ap (λ x. 34 ∷ x) (sym (append_assoc items (34 ∷ []) rest)))

pub read-at : (s t text rest : List ℕ) → s ≡ t → ReadsString t text rest → ReadsString s text (drop (length text - length rest) text)
read-at s t text rest e is =
    let P : List ℕ → Type 0 = λ r. ReadsString s text r in
    let Q : List ℕ → Type 0 = λ u. ReadsString u text rest in
    subst P (sym (rest-dropped t text rest is)) (subst Q (sym e) is)

-- what was read stands in front as a spelling of its own
pub spelling : (s text rest : List ℕ) → ReadsString s text rest → (spelled : List ℕ) × (text ≡ spelled ++ rest) × ReadsString s spelled []
spelling s text rest (inl (is, e, n)) = (s, e, inl (is, sym (append-nil s), tt))
spelling s text rest (inr ((items, is, e), n)) =
    (34 ∷ (items ++ 34 ∷ []), e ∙ ap (λ x. 34 ∷ x) (sym (append_assoc items (34 ∷ []) rest)), inr ((items, is, refl), tt))
