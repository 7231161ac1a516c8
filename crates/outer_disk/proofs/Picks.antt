-- The image of a pick, byte by byte.
use Rattle.std.proofs.Common.{◌≡◌, ⊎_elim, ℕ, suc, ◌+◌, ◌<◌, Bool, true, false, List, [], ◌∷◌, ◌++◌, get_or, length, refl, sym, ap, ◌∙◌, subst, arith, add-one, length-append}
use Rattle.std.specs.Prelude.{if◌then◌else◌, slice_index}
use Rattle.std.proofs.lemmas.Bool.{cases_lt}
use Rattle.std.proofs.lemmas.List.{get_or_append_left, get_or_push}
use Rattle.outer_disk.specs.Crash.{next_number, number, byte_by, marked_below, image_byte}

-- the image so far, and the number of the last marked place
pub record IsPicking (pick : ℕ) (marked : ℕ → Bool) (bytes synced image : List ℕ) (last place : ℕ) : Type 0 where
  pub long : length image ≡ place
  pub last_is : last ≡ number pick (marked_below marked place)
  pub each : (p : ℕ) → p < place → slice_index image p ≡ image_byte pick marked bytes synced p

-- the number after a place
number_step : (pick : ℕ) (marked : ℕ → Bool) (place last : ℕ) → last ≡ number pick (marked_below marked place)
    → (if marked place then next_number last else last) ≡ number pick (marked_below marked (suc place))
number_step pick marked place last e = go (marked place)
  where
    go : (b : Bool) → (if b then next_number last else last) ≡ number pick (if b then suc (marked_below marked place) else marked_below marked place)
    go true = ap next_number e
    go false = e

-- the byte there
byte_step : (pick : ℕ) (marked : ℕ → Bool) (bytes synced : List ℕ) (place last : ℕ) → last ≡ number pick (marked_below marked place)
    → (if marked place then byte_by (next_number last) (slice_index bytes place) (slice_index synced place) else slice_index bytes place) ≡ image_byte pick marked bytes synced place
byte_step pick marked bytes synced place last e = go (marked place)
  where
    go : (b : Bool) → (if b then byte_by (next_number last) (slice_index bytes place) (slice_index synced place) else slice_index bytes place)
        ≡ (if b then byte_by (number pick (suc (marked_below marked place))) (slice_index bytes place) (slice_index synced place) else slice_index bytes place)
    go true = ap (λ n. byte_by (next_number n) (slice_index bytes place) (slice_index synced place)) e
    go false = refl

-- one place more
pub picking_step : (pick : ℕ) (marked : ℕ → Bool) (bytes synced image more : List ℕ) (last place next byte : ℕ) → IsPicking pick marked bytes synced image last place
    → next ≡ (if marked place then next_number last else last)
    → byte ≡ (if marked place then byte_by (next_number last) (slice_index bytes place) (slice_index synced place) else slice_index bytes place)
    → more ≡ image ++ byte ∷ [] → IsPicking pick marked bytes synced more next (place + 1)
picking_step pick marked bytes synced image more last place next byte was e f g = record {
  long = ap length g ∙ omega (arith, length-append image (byte ∷ []), was.long);
  last_is = e ∙ number_step pick marked place last was.last_is ∙ ap (λ n. number pick (marked_below marked n)) (sym (add-one place));
  each = λ p lt. ⊎_elim
      (λ front. ap (λ xs. get_or xs p 0) g ∙ get_or_append_left image (byte ∷ []) 0 p (omega (arith, was.long)) ∙ was.each p front)
      (λ back. let here : place ≡ p = omega arith in
      subst (λ q. get_or more q 0 ≡ image_byte pick marked bytes synced q) here
      (ap (λ xs. get_or xs place 0) g ∙ get_or_push image byte 0 place was.long ∙ f ∙ byte_step pick marked bytes synced place last was.last_is))
      (cases_lt p place);
}
