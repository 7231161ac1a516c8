-- Bytes that begin with a field do so in one way.
use Rattle.std.proofs.Common.{subst, append_assoc, ◌≡◌, ◌≢◌, ℕ, ◌^◌, ◌<◌, List, ◌++◌, length, take, drop, refl, sym, ap, ◌∙◌, arith, ℤ, to_z, of_z, Fits}
use Rattle.std.specs.Int.{w16, w32, w64, from_be_bytes}
use Rattle.std.proofs.lemmas.List.{take_at, drop_at, length-append}
use Rattle.std.proofs.lemmas.Nat.{from_be_bytes-to_be_bytes_2, from_be_bytes-to_be_bytes_4, from_be_bytes-to_be_bytes_8}
use Rattle.std.proofs.lemmas.Int.{to_z-of_z}
use Rattle.std.proofs.Math.Facts.{Fits-of_z}
use Rattle.plain_orders.specs.declared.op.Op.TheVariants.{Set, Kill, Add}
use Rattle.subscript_keys.specs.Key.{IsKey}
use Rattle.field_bytes.specs.Fields.{IsKeyField, op_bytes, IsOpField, u8_bytes, u16_bytes, u32_bytes, u64_bytes, i64_bytes, list_bytes, IsU8, IsU16, IsU32, IsU64, IsI64, IsShortList, NoneAhead, IsPrefixFree}

-- two lists of one length that begin the same bytes are one, and so is what follows them
pub one-front : (a b r s : List ℕ) → length a ≡ length b → a ++ r ≡ b ++ s → (a ≡ b) × (r ≡ s)
one-front a b r s n e = (
  sym (take_at a r (length a) refl) ∙ ap (take (length a)) e ∙ take_at b s (length a) (sym n),
  sym (drop_at a r (length a) refl) ∙ ap (drop (length a)) e ∙ drop_at b s (length a) (sym n),
)

-- values of one length whose bytes tell them apart are prefix-free
pub fixed : {A : Type 0} (bytes_of : A → List ℕ) (May : A → Type 0) (k : ℕ) → ((x : A) → length (bytes_of x) ≡ k) → ((x y : A) → May x → May y → bytes_of x ≡ bytes_of y → x ≡ y) → IsPrefixFree bytes_of May
fixed bytes_of May k len apart x y r s p q e =
    let t = one-front (bytes_of x) (bytes_of y) r s (len x ∙ sym (len y)) e in
    (apart x y p q t.0, t.1)

pub u8_prefix_free : IsPrefixFree u8_bytes IsU8
u8_prefix_free x y r s p q e = (cc, cc)

pub u16_prefix_free : IsPrefixFree u16_bytes IsU16
unfolding u16_bytes
u16_prefix_free = fixed u16_bytes IsU16 2 (λ x. len x) (λ x y p q e. apart x y p q e)
  where
    len : (x : ℕ) → length (u16_bytes x) ≡ 2
    len x = refl

    apart : (x y : ℕ) → IsU16 x → IsU16 y → u16_bytes x ≡ u16_bytes y → x ≡ y
    apart x y p q e = sym (from_be_bytes-to_be_bytes_2 x p) ∙ ap (from_be_bytes w16) e ∙ from_be_bytes-to_be_bytes_2 y q

pub u32_prefix_free : IsPrefixFree u32_bytes IsU32
unfolding u32_bytes
u32_prefix_free = fixed u32_bytes IsU32 4 (λ x. len x) (λ x y p q e. apart x y p q e)
  where
    len : (x : ℕ) → length (u32_bytes x) ≡ 4
    len x = refl

    apart : (x y : ℕ) → IsU32 x → IsU32 y → u32_bytes x ≡ u32_bytes y → x ≡ y
    apart x y p q e = sym (from_be_bytes-to_be_bytes_4 x p) ∙ ap (from_be_bytes w32) e ∙ from_be_bytes-to_be_bytes_4 y q

pub u64_prefix_free : IsPrefixFree u64_bytes IsU64
unfolding u64_bytes
u64_prefix_free = fixed u64_bytes IsU64 8 (λ x. len x) (λ x y p q e. apart x y p q e)
  where
    len : (x : ℕ) → length (u64_bytes x) ≡ 8
    len x = refl

    apart : (x y : ℕ) → IsU64 x → IsU64 y → u64_bytes x ≡ u64_bytes y → x ≡ y
    apart x y p q e = sym (from_be_bytes-to_be_bytes_8 x p) ∙ ap (from_be_bytes w64) e ∙ from_be_bytes-to_be_bytes_8 y q

pub i64_prefix_free : IsPrefixFree i64_bytes IsI64
unfolding i64_bytes
i64_prefix_free = fixed i64_bytes IsI64 8 (λ x. len x) (λ x y p q e. apart x y p q e)
  where
    len : (x : ℤ) → length (i64_bytes x) ≡ 8
    len x = refl

    below : (x : ℤ) → IsI64 x → of_z w64 x < 2 ^ 64
    below x p = let fits : Fits w64 (of_z w64 x) = Fits-of_z p in omega (arith, fits)

    apart : (x y : ℤ) → IsI64 x → IsI64 y → i64_bytes x ≡ i64_bytes y → x ≡ y
    apart x y p q e =
        let bits : of_z w64 x ≡ of_z w64 y = sym (from_be_bytes-to_be_bytes_8 (of_z w64 x) (below x p)) ∙ ap (from_be_bytes w64) e ∙ from_be_bytes-to_be_bytes_8 (of_z w64 y) (below y q) in
        sym (to_z-of_z w64 x p) ∙ ap (to_z w64) bits ∙ to_z-of_z w64 y q

pub list_prefix_free : IsPrefixFree list_bytes IsShortList
unfolding list_bytes
list_prefix_free x y r s p q e =
    let whole : u16_bytes (length x) ++ (x ++ r) ≡ u16_bytes (length y) ++ (y ++ s) = sym (append_assoc (u16_bytes (length x)) x r) ∙ e ∙ append_assoc (u16_bytes (length y)) y s in
    let count = u16_prefix_free (length x) (length y) (x ++ r) (y ++ s) p q whole in
    one-front x y r s count.0 count.1

-- where fewer bytes are left than their count says, none of them stand there
pub no_list : (bytes rest : List ℕ) (n : ℕ) → n < 2 ^ 16 → bytes ≡ u16_bytes n ++ rest → length rest < n → NoneAhead list_bytes IsShortList bytes
unfolding list_bytes
no_list bytes rest n short stands few x s p e =
    let whole : u16_bytes n ++ rest ≡ u16_bytes (length x) ++ (x ++ s) = sym stands ∙ e ∙ append_assoc (u16_bytes (length x)) x s in
    let count = u16_prefix_free n (length x) rest (x ++ s) short p whole in
    absurd (omega (arith, count.0, ap length count.1, length-append x s))

pub key_prefix_free : IsPrefixFree list_bytes IsKeyField
key_prefix_free x y r s p q e = list_prefix_free x y r s p.1 q.1 e

pub op_prefix_free : IsPrefixFree op_bytes IsOpField
op_prefix_free (Set k v) (Set l w) r s p q e =
    let tail : (list_bytes k ++ list_bytes v) ++ r ≡ (list_bytes l ++ list_bytes w) ++ s = cc in
    let whole : list_bytes k ++ (list_bytes v ++ r) ≡ list_bytes l ++ (list_bytes w ++ s) = sym (append_assoc (list_bytes k) (list_bytes v) r) ∙ tail ∙ append_assoc (list_bytes l) (list_bytes w) s in
    let keys = list_prefix_free k l (list_bytes v ++ r) (list_bytes w ++ s) p.0.1 q.0.1 whole in
    let values = list_prefix_free v w r s p.1 q.1 keys.1 in
    (cc (keys.0, values.0), values.1)
op_prefix_free (Set k v) (Kill l) r s p q e = absurd cc
op_prefix_free (Set k v) (Add l a) r s p q e = absurd cc
op_prefix_free (Kill k) (Set l w) r s p q e = absurd cc
op_prefix_free (Kill k) (Kill l) r s p q e =
    let whole : list_bytes k ++ r ≡ list_bytes l ++ s = cc in
    let keys = list_prefix_free k l r s p.1 q.1 whole in
    (cc (keys.0), keys.1)
op_prefix_free (Kill k) (Add l a) r s p q e = absurd cc
op_prefix_free (Add k a) (Set l w) r s p q e = absurd cc
op_prefix_free (Add k a) (Kill l) r s p q e = absurd cc
op_prefix_free (Add k a) (Add l b) r s p q e =
    let tail : (list_bytes k ++ i64_bytes a) ++ r ≡ (list_bytes l ++ i64_bytes b) ++ s = cc in
    let whole : list_bytes k ++ (i64_bytes a ++ r) ≡ list_bytes l ++ (i64_bytes b ++ s) = sym (append_assoc (list_bytes k) (i64_bytes a) r) ∙ tail ∙ append_assoc (list_bytes l) (i64_bytes b) s in
    let keys = list_prefix_free k l (i64_bytes a ++ r) (i64_bytes b ++ s) p.0.1 q.0.1 whole in
    let amounts = i64_prefix_free a b r s p.1 q.1 keys.1 in
    (cc (keys.0, amounts.0), amounts.1)

-- two fields one after the other are prefix-free too
pub both_prefix_free : {A B : Type 0} (a : A → List ℕ) (b : B → List ℕ) (May : A → Type 0) (Can : B → Type 0) → IsPrefixFree a May → IsPrefixFree b Can → (x x' : A) (y y' : B) (r s : List ℕ) → May x → May x' → Can y → Can y' → (a x ++ b y) ++ r ≡ (a x' ++ b y') ++ s → (x ≡ x') × (y ≡ y') × (r ≡ s)
both_prefix_free a b May Can first second x x' y y' r s p p' q q' e =
    let whole : a x ++ (b y ++ r) ≡ a x' ++ (b y' ++ s) = sym (append_assoc (a x) (b y) r) ∙ e ∙ append_assoc (a x') (b y') s in
    let t = first x x' (b y ++ r) (b y' ++ s) p p' whole in
    let u = second y y' r s q q' t.1 in
    (t.0, u.0, u.1)

-- where the second of two fields isn't ahead after the first, the two aren't
pub no_second : {A B : Type 0} (a : A → List ℕ) (b : B → List ℕ) (May : A → Type 0) (Can : B → Type 0) → IsPrefixFree a May → (bytes rest : List ℕ) (x : A) → May x → bytes ≡ a x ++ rest → NoneAhead b Can rest → (y : A) (z : B) (r : List ℕ) → May y → Can z → bytes ≢ a y ++ (b z ++ r)
no_second a b May Can free bytes rest x p e none y z r q k f = none z r k (free x y rest (b z ++ r) p q (sym e ∙ f)).1

-- where the bytes of a list are no key, no key is ahead
pub no_key : (bytes part rest : List ℕ) → bytes ≡ list_bytes part ++ rest → IsShortList part → (IsKey part → ⊥) → NoneAhead list_bytes IsKeyField bytes
no_key bytes part rest stands short none x s p e =
    let one = list_prefix_free x part s rest p.1 short (sym e ∙ stands) in
    none (subst IsKey one.0 p.0)
