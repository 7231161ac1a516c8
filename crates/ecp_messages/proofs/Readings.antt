-- The answers of reading exclude each other, so each is given exactly where it is right.
use Rattle.std.proofs.Common.{◌≡◌, ◌≢◌, List, [], ℕ, append-nil, refl, sym, ap, subst, ◌∙◌}
use Rattle.std.specs.Prelude.{◌↔◌, Result, Ok, Err, alloc_error}
use Rattle.field_bytes.specs.Fields.{NoneAhead, IsPrefixFree}
use Rattle.ecp_messages.specs.declared.message_error.MessageError.{MessageError}
use Rattle.ecp_messages.specs.declared.message_error.MessageError.TheVariants.{BadKind, BadField, LeftOver, Memory}
use Rattle.ecp_messages.specs.Readings.{HasMore, HasBadField, DecodesTo}

-- what frames of one direction give: one spelling, and no unknown kind
pub record AreRead {A : Type 0} (bytes_of : A → List ℕ) (May : A → Type 0) (Unknown : Type 0) (body : List ℕ) : Type 0 where
  pub free : IsPrefixFree bytes_of May
  pub apart : Unknown → NoneAhead bytes_of May body

-- where a frame is the whole body
pub reads-again : {A : Type 0} (bytes_of : A → List ℕ) (May : A → Type 0) (Unknown : Type 0) (body : List ℕ) (r : Result A MessageError) → AreRead bytes_of May Unknown body → DecodesTo bytes_of May Unknown body r → (x : A) → May x → bytes_of x ≡ body → r ≢ Err (Memory alloc_error) → r ≡ Ok x
reads-again bytes_of May Unknown body (Ok y) a h x p e n = ap Ok (a.free y x [] [] h.0 p (append-nil (bytes_of y) ∙ h.1 ∙ sym e ∙ sym (append-nil (bytes_of x)))).0
reads-again bytes_of May Unknown body (Err LeftOver) a h x p e n =
    absurd (h.more (a.free h.frame x h.rest [] h.formed p (sym h.whole ∙ sym e ∙ sym (append-nil (bytes_of x)))).1)
reads-again bytes_of May Unknown body (Err BadKind) a h x p e n = absurd (a.apart h x [] p (sym e ∙ sym (append-nil (bytes_of x))))
reads-again bytes_of May Unknown body (Err BadField) a h x p e n = absurd (h.none x [] p (sym e ∙ sym (append-nil (bytes_of x))))
reads-again bytes_of May Unknown body (Err (Memory error)) a h x p e n = absurd (n refl)

-- where bytes follow a frame
pub reads-left_over : {A : Type 0} (bytes_of : A → List ℕ) (May : A → Type 0) (Unknown : Type 0) (body : List ℕ) (r : Result A MessageError) → AreRead bytes_of May Unknown body → DecodesTo bytes_of May Unknown body r → r ≢ Err (Memory alloc_error) → (r ≡ Err LeftOver) ↔ HasMore bytes_of May body
reads-left_over bytes_of May Unknown body (Ok y) a h n =
    (λ e. absurd (cc), λ m. absurd (m.more (a.free m.frame y m.rest [] m.formed h.0 (sym m.whole ∙ sym h.1 ∙ sym (append-nil (bytes_of y)))).1))
reads-left_over bytes_of May Unknown body (Err LeftOver) a h n = (λ e. h, λ m. refl)
reads-left_over bytes_of May Unknown body (Err BadKind) a h n = (λ e. absurd (cc), λ m. absurd (a.apart h m.frame m.rest m.formed m.whole))
reads-left_over bytes_of May Unknown body (Err BadField) a h n = (λ e. absurd (cc), λ m. absurd (h.none m.frame m.rest m.formed m.whole))
reads-left_over bytes_of May Unknown body (Err (Memory error)) a h n = absurd (n refl)

-- where the kind is unknown
pub reads-bad_kind : {A : Type 0} (bytes_of : A → List ℕ) (May : A → Type 0) (Unknown : Type 0) (body : List ℕ) (r : Result A MessageError) → AreRead bytes_of May Unknown body → DecodesTo bytes_of May Unknown body r → r ≢ Err (Memory alloc_error) → (r ≡ Err BadKind) ↔ Unknown
reads-bad_kind bytes_of May Unknown body (Ok y) a h n = (λ e. absurd (cc), λ u. absurd (a.apart u y [] h.0 (sym h.1 ∙ sym (append-nil (bytes_of y)))))
reads-bad_kind bytes_of May Unknown body (Err LeftOver) a h n = (λ e. absurd (cc), λ u. absurd (a.apart u h.frame h.rest h.formed h.whole))
reads-bad_kind bytes_of May Unknown body (Err BadKind) a h n = (λ e. h, λ u. refl)
reads-bad_kind bytes_of May Unknown body (Err BadField) a h n = (λ e. absurd (cc), λ u. absurd (h.known u))
reads-bad_kind bytes_of May Unknown body (Err (Memory error)) a h n = absurd (n refl)

-- where no frame begins the body, and the kind isn't unknown
pub reads-bad_field : {A : Type 0} (bytes_of : A → List ℕ) (May : A → Type 0) (Unknown : Type 0) (body : List ℕ) (r : Result A MessageError) → AreRead bytes_of May Unknown body → DecodesTo bytes_of May Unknown body r → r ≢ Err (Memory alloc_error) → (r ≡ Err BadField) ↔ HasBadField bytes_of May Unknown body
reads-bad_field bytes_of May Unknown body (Ok y) a h n = (λ e. absurd (cc), λ b. absurd (b.none y [] h.0 (sym h.1 ∙ sym (append-nil (bytes_of y)))))
reads-bad_field bytes_of May Unknown body (Err LeftOver) a h n = (λ e. absurd (cc), λ b. absurd (b.none h.frame h.rest h.formed h.whole))
reads-bad_field bytes_of May Unknown body (Err BadKind) a h n = (λ e. absurd (cc), λ b. absurd (b.known h))
reads-bad_field bytes_of May Unknown body (Err BadField) a h n = (λ e. h, λ b. refl)
reads-bad_field bytes_of May Unknown body (Err (Memory error)) a h n = absurd (n refl)

-- an error that was handed on
reads-error : {A : Type 0} (bytes_of : A → List ℕ) (May : A → Type 0) (Unknown : Type 0) (body : List ℕ) (error : MessageError) → (error ≡ BadKind → Unknown) → (error ≡ BadField → HasBadField bytes_of May Unknown body) → error ≢ LeftOver → DecodesTo bytes_of May Unknown body (Err error)
reads-error bytes_of May Unknown body LeftOver kind field left = absurd (left refl)
reads-error bytes_of May Unknown body BadKind kind field left = kind refl
reads-error bytes_of May Unknown body BadField kind field left = field refl
reads-error bytes_of May Unknown body (Memory error) kind field left = tt

-- so it is of an answer that is this error
pub reads-handed : {A : Type 0} (bytes_of : A → List ℕ) (May : A → Type 0) (Unknown : Type 0) (body : List ℕ) (r : Result A MessageError) (error : MessageError) → r ≡ Err error → (error ≡ BadKind → Unknown) → (error ≡ BadField → HasBadField bytes_of May Unknown body) → error ≢ LeftOver → DecodesTo bytes_of May Unknown body r
reads-handed bytes_of May Unknown body r error is kind field left =
    subst (DecodesTo bytes_of May Unknown body) (sym is) (reads-error bytes_of May Unknown body error kind field left)
