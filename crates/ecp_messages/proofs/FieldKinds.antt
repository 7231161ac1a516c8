-- Two fields of one kind at the front of the same bytes are one.
use Rattle.std.proofs.Common.{◌≡◌, ℕ, List, [], ◌∷◌, ◌++◌, map, refl, sym, ap, ◌∙◌, arith, Bool, true, false, append_assoc}
use Rattle.std.specs.List.{AllByRecursion}
use Rattle.field_bytes.specs.Fields.{u8_bytes, u64_bytes, op_bytes}
use Rattle.field_bytes.proofs.PrefixFree.{op_prefix_free, u8_prefix_free, u16_prefix_free, u32_prefix_free, u64_prefix_free, i64_prefix_free, list_prefix_free}
use Rattle.plain_orders.specs.declared.op.Op.{Op}
use Rattle.plain_orders.specs.declared.op.Op.TheVariants.{Set, Kill, Add}
use Rattle.plain_orders.specs.declared.mode.Mode.{Mode}
use Rattle.plain_orders.specs.declared.mode.Mode.TheVariants.{Exclusive, Shared}
use Rattle.ecp_messages.specs.declared.front.Front.{Front}
use Rattle.ecp_messages.specs.declared.about.About.{About}
use Rattle.ecp_messages.specs.declared.about.About.TheVariants.{Counted, NotWhole, Range, Committed, RolledBack, Synced}
use Rattle.ecp_messages.specs.Rows.{Field, field_bytes, fields_bytes, IsField, IsChange, IsFront, front_bytes, mode_number, wanted_number, about_number, mode_bytes, wanted_bytes, about_bytes}
use Rattle.ecp_messages.specs.Rows.Field.{Version, U8, U16, U32, U64, I64, Count, Held, Wanted, Told, FrontOf, Part, Key, Sought, Change}

-- the kinds of fields
pub data Kind : Type 0 where
  OfVersion : Kind
  OfU8 : Kind
  OfU16 : Kind
  OfU32 : Kind
  OfU64 : Kind
  OfI64 : Kind
  OfCount : Kind
  OfHeld : Kind
  OfWanted : Kind
  OfTold : Kind
  OfFront : Kind
  OfPart : Kind
  OfKey : Kind
  OfSought : Kind
  OfChange : Kind

abbrev pub kind_of : Field → Kind
kind_of Version = OfVersion
kind_of (U8 n) = OfU8
kind_of (U16 n) = OfU16
kind_of (U32 n) = OfU32
kind_of (U64 n) = OfU64
kind_of (I64 z) = OfI64
kind_of (Count n) = OfCount
kind_of (Held mode) = OfHeld
kind_of (Wanted wanted) = OfWanted
kind_of (Told about) = OfTold
kind_of (FrontOf front) = OfFront
kind_of (Part bytes) = OfPart
kind_of (Key key) = OfKey
kind_of (Sought key) = OfSought
kind_of (Change op) = OfChange

byte-mode : (x y : Mode) → mode_number x ≡ mode_number y → x ≡ y
byte-mode Exclusive Exclusive e = refl
byte-mode Shared Shared e = refl
byte-mode _ _ e = absurd (omega arith)

byte-wanted : (x y : Bool) → wanted_number x ≡ wanted_number y → x ≡ y
byte-wanted true true e = refl
byte-wanted false false e = refl
byte-wanted _ _ e = absurd (omega arith)

byte-about : (x y : About) → about_number x ≡ about_number y → x ≡ y
byte-about Counted Counted e = refl
byte-about NotWhole NotWhole e = refl
byte-about Range Range e = refl
byte-about Committed Committed e = refl
byte-about RolledBack RolledBack e = refl
byte-about Synced Synced e = refl
byte-about _ _ e = absurd (omega arith)

byte-ahead : (x y : ℕ) (r s : List ℕ) → u8_bytes x ++ r ≡ u8_bytes y ++ s → (x ≡ y) × (r ≡ s)
byte-ahead x y r s e = (cc, cc)

mode-ahead : (x y : Mode) (r s : List ℕ) → mode_bytes x ++ r ≡ mode_bytes y ++ s → (x ≡ y) × (r ≡ s)
unfolding mode_bytes
mode-ahead x y r s e = let t = byte-ahead (mode_number x) (mode_number y) r s e in (byte-mode x y t.0, t.1)

wanted-ahead : (x y : Bool) (r s : List ℕ) → wanted_bytes x ++ r ≡ wanted_bytes y ++ s → (x ≡ y) × (r ≡ s)
unfolding wanted_bytes
wanted-ahead x y r s e = let t = byte-ahead (wanted_number x) (wanted_number y) r s e in (byte-wanted x y t.0, t.1)

about-ahead : (x y : About) (r s : List ℕ) → about_bytes x ++ r ≡ about_bytes y ++ s → (x ≡ y) × (r ≡ s)
unfolding about_bytes
about-ahead x y r s e = let t = byte-ahead (about_number x) (about_number y) r s e in (byte-about x y t.0, t.1)

change-free : (x y : Op) (r s : List ℕ) → IsChange x → IsChange y → op_bytes x ++ r ≡ op_bytes y ++ s → (x ≡ y) × (r ≡ s)
change-free (Set k v) (Set l w) r s p q e = op_prefix_free (Set k v) (Set l w) r s p q e
change-free (Set k v) (Kill l) r s p q e = op_prefix_free (Set k v) (Kill l) r s p q e
change-free (Kill k) (Set l w) r s p q e = op_prefix_free (Kill k) (Set l w) r s p q e
change-free (Kill k) (Kill l) r s p q e = op_prefix_free (Kill k) (Kill l) r s p q e
change-free (Add k a) y r s p q e = elim p [ ]
change-free x (Add l b) r s p q e = elim q [ ]

one-front : (x y : Front) → x.n ≡ y.n → x.w ≡ y.w → x.s ≡ y.s → x ≡ y
one-front x y e f g = let same : ◌≡◌ {A = Front} (record { n = x.n; w = x.w; s = x.s }) (record { n = y.n; w = y.w; s = y.s }) = cc in same

front-ahead : (x y : Front) (r s : List ℕ) → IsFront x → IsFront y → front_bytes x ++ r ≡ front_bytes y ++ s → (x ≡ y) × (r ≡ s)
unfolding front_bytes
front-ahead x y r s p q e =
    let whole : u64_bytes x.n ++ (u64_bytes x.w ++ (u64_bytes x.s ++ r)) ≡ u64_bytes y.n ++ (u64_bytes y.w ++ (u64_bytes y.s ++ s)) = sym (simp append_assoc) ∙ e ∙ simp append_assoc in
    let t = u64_prefix_free x.n y.n (u64_bytes x.w ++ (u64_bytes x.s ++ r)) (u64_bytes y.w ++ (u64_bytes y.s ++ s)) p.n_fits q.n_fits whole in
    let u = u64_prefix_free x.w y.w (u64_bytes x.s ++ r) (u64_bytes y.s ++ s) p.w_fits q.w_fits t.1 in
    let v = u64_prefix_free x.s y.s r s p.s_fits q.s_fits u.1 in
    (one-front x y t.0 u.0 v.0, v.1)

-- two fields of one kind
pub field-free : (f g : Field) (r s : List ℕ) → kind_of f ≡ kind_of g → IsField f → IsField g → field_bytes f ++ r ≡ field_bytes g ++ s → (f ≡ g) × (r ≡ s)
field-free Version Version r s k p q e = (refl, cc)
field-free (U8 x) (U8 y) r s k p q e = let t = u8_prefix_free x y r s p q e in (ap U8 t.0, t.1)
field-free (U16 x) (U16 y) r s k p q e = let t = u16_prefix_free x y r s p q e in (ap U16 t.0, t.1)
field-free (U32 x) (U32 y) r s k p q e = let t = u32_prefix_free x y r s p q e in (ap U32 t.0, t.1)
field-free (U64 x) (U64 y) r s k p q e = let t = u64_prefix_free x y r s p q e in (ap U64 t.0, t.1)
field-free (I64 x) (I64 y) r s k p q e = let t = i64_prefix_free x y r s p q e in (ap I64 t.0, t.1)
field-free (Count x) (Count y) r s k p q e = let t = u32_prefix_free x y r s p.0 q.0 e in (ap Count t.0, t.1)
field-free (Held x) (Held y) r s k p q e = let t = mode-ahead x y r s e in (ap Held t.0, t.1)
field-free (Wanted x) (Wanted y) r s k p q e = let t = wanted-ahead x y r s e in (ap Wanted t.0, t.1)
field-free (Told x) (Told y) r s k p q e = let t = about-ahead x y r s e in (ap Told t.0, t.1)
field-free (FrontOf x) (FrontOf y) r s k p q e = let t = front-ahead x y r s p q e in (ap FrontOf t.0, t.1)
field-free (Part x) (Part y) r s k p q e = let t = list_prefix_free x y r s p q e in (ap Part t.0, t.1)
field-free (Key x) (Key y) r s k p q e = let t = list_prefix_free x y r s p.1 q.1 e in (ap Key t.0, t.1)
field-free (Sought x) (Sought y) r s k p q e = let t = list_prefix_free x y r s p.short q.short e in (ap Sought t.0, t.1)
field-free (Change x) (Change y) r s k p q e = let t = change-free x y r s p q e in (ap Change t.0, t.1)
field-free _ _ r s k p q e = absurd (cc)

-- and rows of fields of the same kinds
pub fields-free : (fs gs : List Field) (r s : List ℕ) → map kind_of fs ≡ map kind_of gs → AllByRecursion IsField fs → AllByRecursion IsField gs → fields_bytes fs ++ r ≡ fields_bytes gs ++ s → (fs ≡ gs) × (r ≡ s)
fields-free [] [] r s k p q e = (refl, e)
fields-free (f ∷ fs) (g ∷ gs) r s k p q e =
    let whole : field_bytes f ++ (fields_bytes fs ++ r) ≡ field_bytes g ++ (fields_bytes gs ++ s) = sym (append_assoc (field_bytes f) (fields_bytes fs) r) ∙ e ∙ append_assoc (field_bytes g) (fields_bytes gs) s in
    let first : kind_of f ≡ kind_of g = cc in
    let more : map kind_of fs ≡ map kind_of gs = cc in
    let t = field-free f g (fields_bytes fs ++ r) (fields_bytes gs ++ s) first p.0 q.0 whole in
    let u = fields-free fs gs r s more p.1 q.1 t.1 in
    (cc, u.1)
fields-free _ _ r s k p q e = absurd (cc)
