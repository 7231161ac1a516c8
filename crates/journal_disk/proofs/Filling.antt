-- How entries fill batches.
use Rattle.std.proofs.Common.{◌≡◌, ℕ, ◌+◌, ◌<◌, List, [], ◌∷◌, ◌++◌, length, take, drop, get_or, sym, ◌∙◌, ap, subst, arith, append_assoc}
use Rattle.std.proofs.lemmas.List.{append-nil, length-append, drop_more}
use Rattle.std.proofs.lemmas.Grind.{flat_map-append, take_at_read}
use Rattle.std.specs.List.{AllByRecursion}
use Rattle.plain_orders.specs.declared.entry.Entry.{Entry}
use Rattle.journal_records.specs.Records.{entry_bytes, IsRecord}
use Rattle.journal_disk.specs.Batches.{records, body_length, FitsBatch}
use Rattle.journal_disk.specs.Parts.{joined, IsFull, AreFilled}

-- one entry more
pub records_push : (es : List Entry) (e : Entry) → records (es ++ e ∷ []) ≡ records es ++ entry_bytes e
records_push es e = flat_map-append entry_bytes es (e ∷ []) ∙ ap (λ bs. records es ++ bs) (append-nil (entry_bytes e))

pub body_push : (es : List Entry) (e : Entry) → body_length (es ++ e ∷ []) ≡ body_length es + length (entry_bytes e)
body_push es e = omega (arith, ap length (records_push es e), length-append (records es) (entry_bytes e))

pub body_next : (part : List Entry) (i : ℕ) (e : Entry) → i < length part → body_length (take (i + 1) part) ≡ body_length (take i part) + length (entry_bytes (get_or part i e))
body_next part i e lt = ap body_length (take_at_read part i e lt).1 ∙ body_push (take i part) (get_or part i e)

pub full_here : (part : List Entry) (i : ℕ) (e : Entry) → i < length part → 16777216 < body_length (take i part) + length (entry_bytes (get_or part i e)) → IsFull (take i part) (drop i part)
full_here part i e lt more =
    subst (λ (es : List Entry). IsFull (take i part) es) (sym (drop_more part i e lt)) (omega (arith, body_push (take i part) (get_or part i e)))

pub ruleset filling = (body_next, full_here)

pub All_push : {X : Type 0} (P : X → Type 0) (xs : List X) (x : X) → AllByRecursion P xs → P x → AllByRecursion P (xs ++ x ∷ [])
All_push P [] x all p = (p, tt)
All_push P (y ∷ ys) x all p = (all.0, All_push P ys x all.1 p)

pub All_append : {X : Type 0} (P : X → Type 0) (xs ys : List X) → AllByRecursion P xs → AllByRecursion P ys → AllByRecursion P (xs ++ ys)
All_append P [] ys all more = more
All_append P (x ∷ xs) ys all more = (all.0, All_append P xs ys all.1 more)

pub records_next : (es : List Entry) (i : ℕ) (e : Entry) → i < length es → records (take (i + 1) es) ≡ records (take i es) ++ entry_bytes (get_or es i e)
records_next es i e lt = ap records (take_at_read es i e lt).1 ∙ records_push (take i es) (get_or es i e)

pub have_records_next : (es : List Entry) (i : ℕ) (e : Entry) → i < length es → AllByRecursion IsRecord (take i es) → IsRecord (get_or es i e) → AllByRecursion IsRecord (take (i + 1) es)
have_records_next es i e lt all is = subst (AllByRecursion IsRecord) (sym (take_at_read es i e lt).1) (All_push IsRecord (take i es) (get_or es i e) all is)

pub ruleset recorded = (records_next, have_records_next)

-- batches that are filled where these entries follow
abbrev pub AreFilledTo : List (List Entry) → List Entry → Type 0
AreFilledTo [] rest = Unit {0}
AreFilledTo (p ∷ parts) rest = FitsBatch p × IsFull p (joined parts ++ rest) × AreFilledTo parts rest

pub filled_push : (parts : List (List Entry)) (p rest : List Entry) → AreFilledTo parts (p ++ rest) → FitsBatch p → IsFull p rest → AreFilledTo (parts ++ p ∷ []) rest
filled_push [] p rest filled fits full = (fits, full, tt)
filled_push (q ∷ parts) p rest filled fits full = (
  filled.0,
  subst (IsFull q) (sym (ap (λ es. es ++ rest) (flat_map-append (λ (x : List Entry). x) parts (p ∷ []))
      ∙ append_assoc (joined parts) (joined (p ∷ [])) rest ∙ ap (λ (es : List Entry). joined parts ++ (es ++ rest)) (append-nil p))) filled.1,
  filled_push parts p rest filled.2 fits full,
)

pub filled_all : (parts : List (List Entry)) → AreFilledTo parts [] → AreFilled parts
filled_all [] filled = tt
filled_all (p ∷ parts) filled = (filled.0, subst (IsFull p) (append-nil (joined parts)) filled.1, filled_all parts filled.2)
