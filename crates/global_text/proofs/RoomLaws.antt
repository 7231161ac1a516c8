-- How many bytes of a string have room.
use Rattle.std.proofs.Common.{◌≡◌, ℕ, ◌+◌, ◌≤◌, Bool, true, false, List, [], ◌∷◌, ◌++◌, length, refl, ap, subst, inl, inr, arith, length-append}
use Rattle.std.specs.Prelude.{if◌then◌else◌}
use Rattle.std.proofs.lemmas.Bool.{cases_eq, eq-eqb, ne_eqb}
use Rattle.std.proofs.lemmas.List.{length-map}
use Rattle.subscript_keys.specs.declared.sub.Sub.{Sub}
use Rattle.subscript_keys.specs.declared.sub.Sub.TheVariants.{Num, Text}
use Rattle.subscript_keys.specs.Decimal.{AreCanonical, IsNumberText, decimal_text, number_text, digit_text}
use Rattle.subscript_keys.specs.Key.{escaped, HasForm}
use Rattle.subscript_keys.proofs.NumberTexts.{text_is_canonical}
use Rattle.global_text.specs.declared.room.Room.{Room}
use Rattle.global_text.specs.declared.room.Room.TheVariants.{Value, Sub as SubRoom}
use Rattle.global_text.specs.Numbers.{Every, BeginsOtherwise, is_number_byte}
use Rattle.global_text.specs.Rooms.{HasRoom, room_limit}
use Rattle.global_text.specs.Nodes.{sub_string, sub_size}
use Rattle.global_text.proofs.NumberTokens.{number-bytes}
use Rattle.global_text.proofs.NumberSpellings.{number-of-any}
use Rattle.global_text.proofs.KeyLengths.{text-length}

canonical-short : (negative : Bool) (whole fraction : List ℕ) → AreCanonical whole fraction → length (number_text negative whole fraction) ≤ 20
canonical-short true whole [] p = omega (arith, p.limit, length-append (45 ∷ digit_text whole) [], length-map whole (λ d. d + 48))
canonical-short true whole (d ∷ fraction) p = omega (arith, p.limit, length-append (45 ∷ digit_text whole) (46 ∷ digit_text (d ∷ fraction)), length-map whole (λ d. d + 48), length-map (d ∷ fraction) (λ d. d + 48))
canonical-short false whole [] p = omega (arith, p.limit, length-append (digit_text whole) [], length-map whole (λ d. d + 48))
canonical-short false whole (d ∷ fraction) p = omega (arith, p.limit, length-append (digit_text whole) (46 ∷ digit_text (d ∷ fraction)), length-map whole (λ d. d + 48), length-map (d ∷ fraction) (λ d. d + 48))

number-short : (text : List ℕ) → IsNumberText text → length text ≤ 20
number-short text (inl e) = omega (arith, ap length e)
number-short text (inr (negative, whole, fraction, p, e)) = omega (arith, ap length e, canonical-short negative whole fraction p)

pub escaped-longer : (text : List ℕ) → length text ≤ length (escaped text)
escaped-longer [] = omega arith
escaped-longer (c ∷ text) = elim (cases_eq c 0) [
  | inl e ↦ omega (arith, escaped-longer text, ap (λ b. length (if b then 0 ∷ 0xFF ∷ escaped text else c ∷ escaped text)) (eq-eqb c 0 e))
  | inr n ↦ omega (arith, escaped-longer text, ap (λ b. length (if b then 0 ∷ 0xFF ∷ escaped text else c ∷ escaped text)) (ne_eqb c 0 n))
]

escaped-front : (text more : List ℕ) → length (escaped text) ≤ length (escaped (text ++ more))
escaped-front [] more = omega arith
escaped-front (c ∷ text) more = elim (cases_eq c 0) [
  | inl e ↦ omega (
    arith,
    escaped-front text more,
    ap (λ b. length (if b then 0 ∷ 0xFF ∷ escaped text else c ∷ escaped text)) (eq-eqb c 0 e),
    ap (λ b. length (if b then 0 ∷ 0xFF ∷ escaped (text ++ more) else c ∷ escaped (text ++ more))) (eq-eqb c 0 e),
  )
  | inr n ↦ omega (
    arith,
    escaped-front text more,
    ap (λ b. length (if b then 0 ∷ 0xFF ∷ escaped text else c ∷ escaped text)) (ne_eqb c 0 n),
    ap (λ b. length (if b then 0 ∷ 0xFF ∷ escaped (text ++ more) else c ∷ escaped (text ++ more))) (ne_eqb c 0 n),
  )
]

every-front : (p : ℕ → Bool) (text more : List ℕ) → Every p (text ++ more) → Every p text
every-front p [] more all = tt
every-front p (c ∷ text) more all = (all.0, every-front p text more all.1)

-- where a string has room, what it begins with has
pub room-front : (room : Room) (text more : List ℕ) → HasRoom room (text ++ more) → HasRoom room text
room-front Value text more h = omega (arith, h, length-append text more)
room-front (SubRoom key) text more (inl (all, short)) = inl (every-front is_number_byte text more all, omega (arith, short, length-append text more))
room-front (SubRoom key) text more (inr h) = inr (omega (arith, h, escaped-front text more, text-length text, text-length (text ++ more)))

-- a string that has room is within the room's limit
pub room_short : (room : Room) (text : List ℕ) → HasRoom room text → length text ≤ room_limit room
room_short Value text h = h
room_short (SubRoom key) text (inl (all, short)) = omega (arith, short)
room_short (SubRoom key) text (inr h) = omega (arith, h, escaped-longer text, text-length text)

-- a subscript for which a key has room has a string for which it has
pub sub-room : (key : ℕ) (s : Sub) → HasForm s → key + sub_size s ≤ 500 → HasRoom (SubRoom key) (sub_string s)
sub-room key (Num d) p h =
    let canonical = text_is_canonical d p in
    inl (number-bytes (decimal_text d) (number-of-any (decimal_text d) canonical), omega (arith, number-short (decimal_text d) canonical))
sub-room key (Text []) p h = inl (tt, omega arith)
sub-room key (Text (b ∷ text)) p h = inr h

-- where all of a text are bytes of a number, nothing follows those that come first
pub no-other : (text token rest : List ℕ) → text ≡ token ++ rest → BeginsOtherwise is_number_byte rest → Every is_number_byte text → rest ≡ []
no-other text token [] e other all = refl
no-other text token (c ∷ rest) e other all = absurd (other (every-behind token (c ∷ rest) (subst (λ (t : List ℕ). Every is_number_byte t) e all)).0)
  where
    every-behind : (token rest : List ℕ) → Every is_number_byte (token ++ rest) → Every is_number_byte rest
    every-behind [] rest all = all
    every-behind (b ∷ token) rest all = every-behind token rest all.1
