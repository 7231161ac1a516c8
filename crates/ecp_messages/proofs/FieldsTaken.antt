-- A field that was read and is not within its range.
use Rattle.std.proofs.Common.{◌≡◌, ℕ, List, [], ◌∷◌, ◌++◌, refl, sym, ◌∙◌, arith, append_assoc, append-nil}
use Rattle.field_bytes.specs.Fields.{u32_bytes, u64_bytes, list_bytes, IsU32, IsShortList, NoneAhead}
use Rattle.field_bytes.proofs.PrefixFree.{u32_prefix_free, list_prefix_free}
use Rattle.ecp_messages.specs.declared.front.Front.{Front}
use Rattle.ecp_messages.specs.Rows.{front_bytes, IsCount, IsFront, IsSought}
use Rattle.ecp_messages.specs.Rows.Field.{U64}
use Rattle.ecp_messages.proofs.FieldKinds.Kind.{OfU64}
use Rattle.ecp_messages.proofs.Taken.{NoFields}

-- a count of 0 is none
pub no-count : (n : ℕ) (bytes more : List ℕ) → n ≡ 0 → bytes ≡ u32_bytes n ++ more → NoneAhead u32_bytes IsCount bytes
no-count n bytes more z e x rest p k =
    let small : IsU32 n = omega arith in
    let t = u32_prefix_free n x more rest small p.0 (sym e ∙ k) in
    absurd (omega (arith, t.0, p.1))

-- where three numbers are missing, n, w and s are
pub no-front : (bytes : List ℕ) → NoFields (OfU64 ∷ OfU64 ∷ OfU64 ∷ []) bytes → NoneAhead front_bytes IsFront bytes
unfolding front_bytes
no-front bytes none x rest p e =
    none.none (U64 x.n ∷ U64 x.w ∷ U64 x.s ∷ []) rest refl (p.n_fits, (p.w_fits, (p.s_fits, tt))) (e ∙ simp (append_assoc, append-nil))

pub front-stands : (x : Front) (bytes more after rest : List ℕ) → bytes ≡ u64_bytes x.n ++ more → more ≡ u64_bytes x.w ++ after → after ≡ u64_bytes x.s ++ rest → bytes ≡ front_bytes x ++ rest
unfolding front_bytes
front-stands x bytes more after rest e f g = rw (e, f, g) (sym (simp append_assoc))

-- a list that no Fetch names
pub no-sought : (key bytes more : List ℕ) → IsShortList key → bytes ≡ list_bytes key ++ more → (IsSought key → ⊥) → NoneAhead list_bytes IsSought bytes
no-sought key bytes more short e other x rest p k =
    let t = list_prefix_free key x more rest short p.short (sym e ∙ k) in
    other (rw t.0 p)
