-- A text begins with one string at most, and a string that is read is refused by no fault.
use Rattle.std.proofs.Common.{◌≡◌, ℕ, ◌≤◌, true, List, [], ◌∷◌, ◌++◌, length, refl, sym, ap, subst, ◌∙◌, inl, inr, arith, append_assoc}
use Rattle.std.specs.Prelude.{◌==◌}
use Rattle.std.proofs.lemmas.Bool.{false≢true}
use Rattle.std.proofs.lemmas.List.{append-nil}
use Rattle.global_text.specs.Numbers.{BeginsOtherwise, is_number_byte}
use Rattle.global_text.specs.Strings.{AreItems, NoItem, BeginsQuoted, ReadsBare, ReadsString, IsLineEnd, IsUnclosed, IsBad, IsTooLong}
use Rattle.global_text.specs.declared.room.Room.{Room}
use Rattle.global_text.specs.declared.room.Room.TheVariants.{Value}
use Rattle.global_text.specs.Rooms.{HasRoom}
use Rattle.global_text.proofs.RoomLaws.{room-front}
use Rattle.global_text.specs.declared.text_error.TextError.{TextError}
use Rattle.global_text.specs.declared.text_error.TextError.TheVariants.{NoCaret, BadName, BadSubscript, Unclosed, KeyTooLong, BadValue, ValueTooLong, Memory}
use Rattle.global_text.specs.Faults.{HasValueFault, IsMemory}
use Rattle.global_text.proofs.ItemLaws.{apart, one-item, no-item-at-quote, no-item-at-end}
use Rattle.global_text.proofs.NumberTokens.{number-bytes, number-some}
use Rattle.global_text.proofs.StringReads.{one-bare}

-- items that begin a text, and those up to where none stands
items-front : (s t a b r q : List ℕ) → AreItems s a → AreItems t b → a ++ r ≡ b ++ q → NoItem q → (u : List ℕ) × (c : List ℕ) × AreItems u c × (t ≡ s ++ u) × (r ≡ c ++ q)
items-front [] t a b r q e p k none = (t, b, p, refl, ap (λ x. x ++ r) (sym e) ∙ k)
items-front (x ∷ s) [] a b r q (i, more, is, p, e) f k none =
    absurd (none x i (more ++ r) is (ap (λ y. y ++ q) (sym f) ∙ sym k ∙ ap (λ y. y ++ r) e ∙ append_assoc i more r))
items-front (x ∷ s) (y ∷ t) a b r q (i, more, is, p, e) (j, others, it, o, f) k none =
    let whole : i ++ (more ++ r) ≡ j ++ (others ++ q) = sym (append_assoc i more r) ∙ ap (λ z. z ++ r) (sym e) ∙ k ∙ ap (λ z. z ++ q) f ∙ append_assoc j others q in
    let first = one-item x y i j (more ++ r) (others ++ q) is it whole in
    let rest = items-front s t more others r q p o first.1 none in
    (rest.0, rest.1, rest.2, ap (λ z. y ∷ z) rest.3 ∙ ap (λ z. z ∷ (s ++ rest.0)) (sym first.0), rest.4)

-- quoted strings that begin a text in the same way
pub quoted-front : (s t text r q : List ℕ) → BeginsQuoted s text r → BeginsQuoted t text q → NoItem q → (u : List ℕ) × (c : List ℕ) × AreItems u c × (t ≡ s ++ u) × (r ≡ c ++ q)
quoted-front s t text r q (a, p, e) (b, o, f) none =
    let whole : a ++ r ≡ b ++ q = cc in
    items-front s t a b r q p o whole none

pub one-stop : (s t text r q : List ℕ) → BeginsQuoted s text r → NoItem r → BeginsQuoted t text q → NoItem q → (s ≡ t) × (r ≡ q)
one-stop s t text r q p n o m = nothing-more (quoted-front s t text r q p o m)
  where
    nothing-more : ((u : List ℕ) × (c : List ℕ) × AreItems u c × (t ≡ s ++ u) × (r ≡ c ++ q)) → (s ≡ t) × (r ≡ q)
    nothing-more ([], c, is, e, f) = (sym (append-nil s) ∙ sym e, f ∙ ap (λ x. x ++ q) is)
    nothing-more (x ∷ u, c, (i, more, is, rest, g), e, f) = absurd (n x i (more ++ q) is (f ∙ ap (λ y. y ++ q) g ∙ append_assoc i more q))

-- where the string that goes on to where no item stands has room, one that it begins with has
pub front-room : (room : Room) (s t text r q : List ℕ) → BeginsQuoted s text r → BeginsQuoted t text q → NoItem q → HasRoom room t → HasRoom room s
front-room room s t text r q p o m h =
    let more = quoted-front s t text r q p o m in
    room-front room s more.0 (subst (HasRoom room) more.3 h)

-- a number doesn't begin with a quote
pub bare-no-quote : (s t text r q : List ℕ) → ReadsBare s text r → BeginsQuoted t text q → ⊥
bare-no-quote [] t text r q (is, e, n) p = absurd (omega (arith, number-some [] is))
bare-no-quote (c ∷ s) t text r q (is, e, n) (b, o, f) =
    let first : c ≡ 34 = cc in
    let passes : is_number_byte c ≡ true = (number-bytes (c ∷ s) is).0 in
    false≢true (subst (λ (x : ℕ). is_number_byte x ≡ true) first passes)

-- the string that a text begins with is one
pub one-string : (s t text r q : List ℕ) → ReadsString s text r → ReadsString t text q → (s ≡ t) × (r ≡ q)
one-string s t text r q (inl p) (inl (is, e, n)) = one-bare s text r t q p e (number-bytes t is) n
one-string s t text r q (inl p) (inr o) = absurd (bare-no-quote s t text r (34 ∷ q) p o.0)
one-string s t text r q (inr p) (inl o) = absurd (bare-no-quote t s text q (34 ∷ r) o p.0)
one-string s t text r q (inr p) (inr o) =
    let same = one-stop s t text (34 ∷ r) (34 ∷ q) p.0 (no-item-at-quote r p.1) o.0 (no-item-at-quote q o.1) in
    let rest : r ≡ q = let whole : 34 ∷ r ≡ 34 ∷ q = same.1 in cc in
    (same.0, rest)

quote-is-no-end : (rest q : List ℕ) → IsLineEnd q → 34 ∷ rest ≡ q → ⊥
quote-is-no-end rest [] end e = cc
quote-is-no-end rest (c ∷ q) end e = let h : 34 ≡ c = cc in absurd (omega arith)

-- a string that is read isn't unclosed
pub read-is-closed : (room : Room) (s text r : List ℕ) → ReadsString s text r → IsUnclosed room text → ⊥
read-is-closed room s text r (inl p) (t, q, o, end, within) = bare-no-quote s t text r q p o
read-is-closed room s text r (inr p) (t, q, o, end, within) =
    quote-is-no-end r q end (one-stop s t text (34 ∷ r) q p.0 (no-item-at-quote r p.1) o (no-item-at-end q end)).1

-- nor is it bad
pub read-is-good : (room : Room) (s text r : List ℕ) → ReadsString s text r → IsBad room text → ⊥
read-is-good room s text r (inl p) (inl none) = none.no_number s r p
read-is-good room s text r (inl p) (inr (t, q, o, m, within)) = bare-no-quote s t text r (92 ∷ q) p o
read-is-good room s text r (inr ((a, p, e), n)) (inl none) = no-quote text (a ++ 34 ∷ r) none.no_quote e
  where
    no-quote : (text rest : List ℕ) → BeginsOtherwise (λ b. b == 34) text → text ≡ 34 ∷ rest → ⊥
    no-quote [] rest n e = cc
    no-quote (c ∷ text) rest n e = let h : c ≡ 34 = cc in n (ap (λ x. x == 34) h)
read-is-good room s text r (inr p) (inr (t, q, o, m, within)) =
    let same : 34 ∷ r ≡ 92 ∷ q = (one-stop s t text (34 ∷ r) (92 ∷ q) p.0 (no-item-at-quote r p.1) o m).1 in
    apart 34 92 (34 ∷ r) r q refl same (λ h. omega arith)

-- nor too long, if it has room
pub read-is-short : (room : Room) (s text r : List ℕ) → ReadsString s text r → HasRoom room s → IsTooLong room text → ⊥
read-is-short room s text r (inl p) within (t, q, inl (is, e, n), long) =
    long (subst (HasRoom room) (one-bare s text r t q p e (number-bytes t is) n).0 within)
read-is-short room s text r (inl p) within (t, q, inr o, long) = bare-no-quote s t text r q p o
read-is-short room s text r (inr p) within (t, q, inl o, long) = bare-no-quote t s text q (34 ∷ r) o p.0
read-is-short room s text r (inr p) within (t, q, inr o, long) =
    long (front-room room t s text q (34 ∷ r) o p.0 (no-item-at-quote r p.1) within)

-- a value that is read has no fault
pub value-no-fault : (s text rest : List ℕ) (error : TextError) → ReadsString s text rest → length s ≤ 3000 → HasValueFault text error → IsMemory error
value-no-fault s text rest Unclosed is within fault = read-is-closed Value s text rest is fault
value-no-fault s text rest BadValue is within fault = read-is-good Value s text rest is fault
value-no-fault s text rest ValueTooLong is within fault = read-is-short Value s text rest is within fault
value-no-fault s text rest (Memory error) is within fault = tt
value-no-fault s text rest NoCaret is within fault = fault
value-no-fault s text rest BadName is within fault = fault
value-no-fault s text rest BadSubscript is within fault = fault
value-no-fault s text rest KeyTooLong is within fault = fault
