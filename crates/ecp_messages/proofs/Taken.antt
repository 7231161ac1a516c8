-- Fields that were taken from the front, one after another, and none where one is missing.
use Rattle.std.proofs.Common.{◌≡◌, ℕ, List, [], ◌∷◌, ◌++◌, map, refl, sym, ap, ◌∙◌, append_assoc, ℤ, Bool}
use Rattle.field_bytes.specs.Fields.{u8_bytes, u16_bytes, u32_bytes, u64_bytes, i64_bytes, list_bytes, op_bytes, IsU8, IsU16, IsU32, IsU64, IsI64, IsShortList, IsKeyField, NoneAhead}
use Rattle.plain_orders.specs.declared.op.Op.{Op}
use Rattle.plain_orders.specs.declared.mode.Mode.{Mode}
use Rattle.ecp_messages.specs.declared.front.Front.{Front}
use Rattle.ecp_messages.specs.declared.about.About.{About}
use Rattle.ecp_messages.specs.Rows.Field.{Version, U8, U16, U32, U64, I64, Count, Held, Wanted, Told, FrontOf, Part, Key, Sought, Change}
use Rattle.ecp_messages.proofs.FieldKinds.Kind.{OfVersion, OfU8, OfU16, OfU32, OfU64, OfI64, OfCount, OfHeld, OfWanted, OfTold, OfFront, OfPart, OfKey, OfSought, OfChange}
use Rattle.std.specs.List.{AllByRecursion}
use Rattle.ecp_messages.specs.Rows.{Field, field_bytes, fields_bytes, front_bytes, mode_bytes, wanted_bytes, about_bytes, IsField, IsCount, IsFront, IsSought, IsChange}
use Rattle.ecp_messages.specs.Taking.{AreAhead}
use Rattle.ecp_messages.proofs.FieldKinds.{Kind, kind_of, field-free}

-- no fields of these kinds begin the bytes
pub record NoFields (kinds : List Kind) (bytes : List ℕ) : Type 0 where
  pub none : (fs : List Field) (rest : List ℕ) → map kind_of fs ≡ kinds → AllByRecursion IsField fs → bytes ≡ fields_bytes fs ++ rest → ⊥

-- fields one after another
pub ahead : (f : Field) (fs : List Field) (bytes more rest : List ℕ) → IsField f → bytes ≡ field_bytes f ++ more → AreAhead fs more rest → AreAhead (f ∷ fs) bytes rest
ahead f fs bytes more rest p e a = record {
  within = (p, a.within);
  stand = e ∙ ap (λ x. field_bytes f ++ x) a.stand ∙ sym (append_assoc (field_bytes f) (fields_bytes fs) rest);
}

pub ahead_none : (bytes : List ℕ) → AreAhead [] bytes bytes
ahead_none bytes = record { within = tt; stand = refl }

-- the first is missing
pub no-first : (k : Kind) (ks : List Kind) (bytes : List ℕ) → ((f : Field) (rest : List ℕ) → kind_of f ≡ k → IsField f → bytes ≡ field_bytes f ++ rest → ⊥) → NoFields (k ∷ ks) bytes
no-first k ks bytes h = record { none = go }
  where
    go : (fs : List Field) (rest : List ℕ) → map kind_of fs ≡ k ∷ ks → AllByRecursion IsField fs → bytes ≡ fields_bytes fs ++ rest → ⊥
    go [] rest m p e = cc
    go (f ∷ fs) rest m p e = h f (fields_bytes fs ++ rest) (cc) p.0 (e ∙ append_assoc (field_bytes f) (fields_bytes fs) rest)

-- the first stands, and of the others one is missing
pub no-others : (f : Field) (ks : List Kind) (bytes more : List ℕ) → IsField f → bytes ≡ field_bytes f ++ more → NoFields ks more → NoFields (kind_of f ∷ ks) bytes
no-others f ks bytes more p e none = record { none = go }
  where
    go : (fs : List Field) (rest : List ℕ) → map kind_of fs ≡ kind_of f ∷ ks → AllByRecursion IsField fs → bytes ≡ fields_bytes fs ++ rest → ⊥
    go [] rest m q d = cc
    go (g ∷ gs) rest m q d =
        let same : kind_of f ≡ kind_of g = cc in
        let t = field-free f g more (fields_bytes gs ++ rest) same p q.0 (sym e ∙ d ∙ append_assoc (field_bytes g) (fields_bytes gs) rest) in
        none.none gs rest (cc) q.1 t.1

pub no_version : (ks : List Kind) (bytes : List ℕ) → ((rest : List ℕ) → bytes ≡ u8_bytes 1 ++ rest → ⊥) → NoFields (OfVersion ∷ ks) bytes
no_version ks bytes none = no-first OfVersion ks bytes (λ f rest k p e. at f rest k p e)
  where
    at : (f : Field) (rest : List ℕ) → kind_of f ≡ OfVersion → IsField f → bytes ≡ field_bytes f ++ rest → ⊥
    at Version rest k p e = none rest e
    at _ rest k p e = cc

pub past_version : (ks : List Kind) (more : List ℕ) → NoFields ks more → NoFields (OfVersion ∷ ks) (u8_bytes 1 ++ more)
past_version ks more none = no-others Version ks (u8_bytes 1 ++ more) more tt refl none

pub no_u8 : (ks : List Kind) (bytes : List ℕ) → NoneAhead u8_bytes IsU8 bytes → NoFields (OfU8 ∷ ks) bytes
no_u8 ks bytes none = no-first OfU8 ks bytes (λ f rest k p e. at f rest k p e)
  where
    at : (f : Field) (rest : List ℕ) → kind_of f ≡ OfU8 → IsField f → bytes ≡ field_bytes f ++ rest → ⊥
    at (U8 x) rest k p e = none x rest p e
    at _ rest k p e = cc

pub past_u8 : (x : ℕ) (ks : List Kind) (more : List ℕ) → IsU8 x → NoFields ks more → NoFields (OfU8 ∷ ks) (u8_bytes x ++ more)
past_u8 x ks more p none = no-others (U8 x) ks (u8_bytes x ++ more) more p refl none

pub no_u16 : (ks : List Kind) (bytes : List ℕ) → NoneAhead u16_bytes IsU16 bytes → NoFields (OfU16 ∷ ks) bytes
no_u16 ks bytes none = no-first OfU16 ks bytes (λ f rest k p e. at f rest k p e)
  where
    at : (f : Field) (rest : List ℕ) → kind_of f ≡ OfU16 → IsField f → bytes ≡ field_bytes f ++ rest → ⊥
    at (U16 x) rest k p e = none x rest p e
    at _ rest k p e = cc

pub past_u16 : (x : ℕ) (ks : List Kind) (more : List ℕ) → IsU16 x → NoFields ks more → NoFields (OfU16 ∷ ks) (u16_bytes x ++ more)
past_u16 x ks more p none = no-others (U16 x) ks (u16_bytes x ++ more) more p refl none

pub no_u32 : (ks : List Kind) (bytes : List ℕ) → NoneAhead u32_bytes IsU32 bytes → NoFields (OfU32 ∷ ks) bytes
no_u32 ks bytes none = no-first OfU32 ks bytes (λ f rest k p e. at f rest k p e)
  where
    at : (f : Field) (rest : List ℕ) → kind_of f ≡ OfU32 → IsField f → bytes ≡ field_bytes f ++ rest → ⊥
    at (U32 x) rest k p e = none x rest p e
    at _ rest k p e = cc

pub past_u32 : (x : ℕ) (ks : List Kind) (more : List ℕ) → IsU32 x → NoFields ks more → NoFields (OfU32 ∷ ks) (u32_bytes x ++ more)
past_u32 x ks more p none = no-others (U32 x) ks (u32_bytes x ++ more) more p refl none

pub no_u64 : (ks : List Kind) (bytes : List ℕ) → NoneAhead u64_bytes IsU64 bytes → NoFields (OfU64 ∷ ks) bytes
no_u64 ks bytes none = no-first OfU64 ks bytes (λ f rest k p e. at f rest k p e)
  where
    at : (f : Field) (rest : List ℕ) → kind_of f ≡ OfU64 → IsField f → bytes ≡ field_bytes f ++ rest → ⊥
    at (U64 x) rest k p e = none x rest p e
    at _ rest k p e = cc

pub past_u64 : (x : ℕ) (ks : List Kind) (more : List ℕ) → IsU64 x → NoFields ks more → NoFields (OfU64 ∷ ks) (u64_bytes x ++ more)
past_u64 x ks more p none = no-others (U64 x) ks (u64_bytes x ++ more) more p refl none

pub no_i64 : (ks : List Kind) (bytes : List ℕ) → NoneAhead i64_bytes IsI64 bytes → NoFields (OfI64 ∷ ks) bytes
no_i64 ks bytes none = no-first OfI64 ks bytes (λ f rest k p e. at f rest k p e)
  where
    at : (f : Field) (rest : List ℕ) → kind_of f ≡ OfI64 → IsField f → bytes ≡ field_bytes f ++ rest → ⊥
    at (I64 x) rest k p e = none x rest p e
    at _ rest k p e = cc

pub past_i64 : (x : ℤ) (ks : List Kind) (more : List ℕ) → IsI64 x → NoFields ks more → NoFields (OfI64 ∷ ks) (i64_bytes x ++ more)
past_i64 x ks more p none = no-others (I64 x) ks (i64_bytes x ++ more) more p refl none

pub no_count : (ks : List Kind) (bytes : List ℕ) → NoneAhead u32_bytes IsCount bytes → NoFields (OfCount ∷ ks) bytes
no_count ks bytes none = no-first OfCount ks bytes (λ f rest k p e. at f rest k p e)
  where
    at : (f : Field) (rest : List ℕ) → kind_of f ≡ OfCount → IsField f → bytes ≡ field_bytes f ++ rest → ⊥
    at (Count x) rest k p e = none x rest p e
    at _ rest k p e = cc

pub past_count : (x : ℕ) (ks : List Kind) (more : List ℕ) → IsCount x → NoFields ks more → NoFields (OfCount ∷ ks) (u32_bytes x ++ more)
past_count x ks more p none = no-others (Count x) ks (u32_bytes x ++ more) more p refl none

pub no_held : (ks : List Kind) (bytes : List ℕ) → ((x : Mode) (rest : List ℕ) → bytes ≡ mode_bytes x ++ rest → ⊥) → NoFields (OfHeld ∷ ks) bytes
no_held ks bytes none = no-first OfHeld ks bytes (λ f rest k p e. at f rest k p e)
  where
    at : (f : Field) (rest : List ℕ) → kind_of f ≡ OfHeld → IsField f → bytes ≡ field_bytes f ++ rest → ⊥
    at (Held x) rest k p e = none x rest e
    at _ rest k p e = cc

pub past_held : (x : Mode) (ks : List Kind) (more : List ℕ) → NoFields ks more → NoFields (OfHeld ∷ ks) (mode_bytes x ++ more)
past_held x ks more none = no-others (Held x) ks (mode_bytes x ++ more) more tt refl none

pub no_wanted : (ks : List Kind) (bytes : List ℕ) → ((x : Bool) (rest : List ℕ) → bytes ≡ wanted_bytes x ++ rest → ⊥) → NoFields (OfWanted ∷ ks) bytes
no_wanted ks bytes none = no-first OfWanted ks bytes (λ f rest k p e. at f rest k p e)
  where
    at : (f : Field) (rest : List ℕ) → kind_of f ≡ OfWanted → IsField f → bytes ≡ field_bytes f ++ rest → ⊥
    at (Wanted x) rest k p e = none x rest e
    at _ rest k p e = cc

pub past_wanted : (x : Bool) (ks : List Kind) (more : List ℕ) → NoFields ks more → NoFields (OfWanted ∷ ks) (wanted_bytes x ++ more)
past_wanted x ks more none = no-others (Wanted x) ks (wanted_bytes x ++ more) more tt refl none

pub no_told : (ks : List Kind) (bytes : List ℕ) → ((x : About) (rest : List ℕ) → bytes ≡ about_bytes x ++ rest → ⊥) → NoFields (OfTold ∷ ks) bytes
no_told ks bytes none = no-first OfTold ks bytes (λ f rest k p e. at f rest k p e)
  where
    at : (f : Field) (rest : List ℕ) → kind_of f ≡ OfTold → IsField f → bytes ≡ field_bytes f ++ rest → ⊥
    at (Told x) rest k p e = none x rest e
    at _ rest k p e = cc

pub past_told : (x : About) (ks : List Kind) (more : List ℕ) → NoFields ks more → NoFields (OfTold ∷ ks) (about_bytes x ++ more)
past_told x ks more none = no-others (Told x) ks (about_bytes x ++ more) more tt refl none

pub no_front : (ks : List Kind) (bytes : List ℕ) → NoneAhead front_bytes IsFront bytes → NoFields (OfFront ∷ ks) bytes
no_front ks bytes none = no-first OfFront ks bytes (λ f rest k p e. at f rest k p e)
  where
    at : (f : Field) (rest : List ℕ) → kind_of f ≡ OfFront → IsField f → bytes ≡ field_bytes f ++ rest → ⊥
    at (FrontOf x) rest k p e = none x rest p e
    at _ rest k p e = cc

pub past_front : (x : Front) (ks : List Kind) (more : List ℕ) → IsFront x → NoFields ks more → NoFields (OfFront ∷ ks) (front_bytes x ++ more)
past_front x ks more p none = no-others (FrontOf x) ks (front_bytes x ++ more) more p refl none

pub no_part : (ks : List Kind) (bytes : List ℕ) → NoneAhead list_bytes IsShortList bytes → NoFields (OfPart ∷ ks) bytes
no_part ks bytes none = no-first OfPart ks bytes (λ f rest k p e. at f rest k p e)
  where
    at : (f : Field) (rest : List ℕ) → kind_of f ≡ OfPart → IsField f → bytes ≡ field_bytes f ++ rest → ⊥
    at (Part x) rest k p e = none x rest p e
    at _ rest k p e = cc

pub past_part : (x : List ℕ) (ks : List Kind) (more : List ℕ) → IsShortList x → NoFields ks more → NoFields (OfPart ∷ ks) (list_bytes x ++ more)
past_part x ks more p none = no-others (Part x) ks (list_bytes x ++ more) more p refl none

pub no_key : (ks : List Kind) (bytes : List ℕ) → NoneAhead list_bytes IsKeyField bytes → NoFields (OfKey ∷ ks) bytes
no_key ks bytes none = no-first OfKey ks bytes (λ f rest k p e. at f rest k p e)
  where
    at : (f : Field) (rest : List ℕ) → kind_of f ≡ OfKey → IsField f → bytes ≡ field_bytes f ++ rest → ⊥
    at (Key x) rest k p e = none x rest p e
    at _ rest k p e = cc

pub past_key : (x : List ℕ) (ks : List Kind) (more : List ℕ) → IsKeyField x → NoFields ks more → NoFields (OfKey ∷ ks) (list_bytes x ++ more)
past_key x ks more p none = no-others (Key x) ks (list_bytes x ++ more) more p refl none

pub no_sought : (ks : List Kind) (bytes : List ℕ) → NoneAhead list_bytes IsSought bytes → NoFields (OfSought ∷ ks) bytes
no_sought ks bytes none = no-first OfSought ks bytes (λ f rest k p e. at f rest k p e)
  where
    at : (f : Field) (rest : List ℕ) → kind_of f ≡ OfSought → IsField f → bytes ≡ field_bytes f ++ rest → ⊥
    at (Sought x) rest k p e = none x rest p e
    at _ rest k p e = cc

pub past_sought : (x : List ℕ) (ks : List Kind) (more : List ℕ) → IsSought x → NoFields ks more → NoFields (OfSought ∷ ks) (list_bytes x ++ more)
past_sought x ks more p none = no-others (Sought x) ks (list_bytes x ++ more) more p refl none

pub no_change : (ks : List Kind) (bytes : List ℕ) → NoneAhead op_bytes IsChange bytes → NoFields (OfChange ∷ ks) bytes
no_change ks bytes none = no-first OfChange ks bytes (λ f rest k p e. at f rest k p e)
  where
    at : (f : Field) (rest : List ℕ) → kind_of f ≡ OfChange → IsField f → bytes ≡ field_bytes f ++ rest → ⊥
    at (Change x) rest k p e = none x rest p e
    at _ rest k p e = cc

pub past_change : (x : Op) (ks : List Kind) (more : List ℕ) → IsChange x → NoFields ks more → NoFields (OfChange ∷ ks) (op_bytes x ++ more)
past_change x ks more p none = no-others (Change x) ks (op_bytes x ++ more) more p refl none

-- what shows that fields are missing
pub ruleset missing = (no_version, past_version, no_u8, past_u8, no_u16, past_u16, no_u32, past_u32, no_u64, past_u64, no_i64, past_i64, no_count, past_count, no_held, past_held, no_wanted, past_wanted, no_told, past_told, no_front, past_front, no_part, past_part, no_key, past_key, no_sought, past_sought, no_change, past_change)
