-- Ordered lists, cut and extended.
use Rattle.std.proofs.Common.{◌≡◌, ◌∙◌, Bool, true, ◌↔◌, List, [], ◌∷◌, ◌++◌, sym, subst, append_assoc}
use Rattle.std.proofs.lemmas.List.{append-nil}
use Rattle.plain_orders.specs.declared.entry.Entry.{Entry}
use Rattle.plain_orders.specs.Ordered.{MayFollow, OrderedFrom, IsOrdered}

ordered_from-push : (before es : List Entry) (e : Entry) → OrderedFrom before es → MayFollow (before ++ es) e → OrderedFrom before (es ++ e ∷ [])
ordered_from-push before [] e o may = (subst (λ (xs : List Entry). MayFollow xs e) (append-nil before) may, tt)
ordered_from-push before (x ∷ es) e o may =
    (o.0, ordered_from-push (before ++ x ∷ []) es e o.1 (subst (λ (xs : List Entry). MayFollow xs e) (sym (append_assoc before (x ∷ []) es)) may))

-- an ordered list goes on by an entry that may follow
pub ordered-push : (es : List Entry) (e : Entry) → IsOrdered es → MayFollow es e → IsOrdered (es ++ e ∷ [])
ordered-push es e o may = ordered_from-push [] es e o may

ordered_from-last : (before es : List Entry) (e : Entry) → OrderedFrom before (es ++ e ∷ []) → MayFollow (before ++ es) e
ordered_from-last before [] e o = subst (λ (xs : List Entry). MayFollow xs e) (sym (append-nil before)) o.0
ordered_from-last before (x ∷ es) e o =
    subst (λ (xs : List Entry). MayFollow xs e) (append_assoc before (x ∷ []) es) (ordered_from-last (before ++ x ∷ []) es e o.1)

-- the last entry of an ordered list may follow those before it
pub ordered-last : (es : List Entry) (e : Entry) → IsOrdered (es ++ e ∷ []) → MayFollow es e
ordered-last es e o = ordered_from-last [] es e o

ordered_from-front : (before es fs : List Entry) → OrderedFrom before (es ++ fs) → OrderedFrom before es
ordered_from-front before [] fs o = tt
ordered_from-front before (x ∷ es) fs o = (o.0, ordered_from-front (before ++ x ∷ []) es fs o.1)

-- the front of an ordered list is ordered
pub ordered-front : (es fs : List Entry) → IsOrdered (es ++ fs) → IsOrdered es
ordered-front es fs o = ordered_from-front [] es fs o

ordered_by : (P : List Entry → Type 0) → ((es : List Entry) (e : Entry) → IsOrdered es → P es → MayFollow es e → P (es ++ e ∷ [])) → (before es : List Entry) → IsOrdered before → P before → OrderedFrom before es → P (before ++ es)
ordered_by P step before [] o p h = subst P (sym (append-nil before)) p
ordered_by P step before (x ∷ es) o p h =
    subst P (append_assoc before (x ∷ []) es) (ordered_by P step (before ++ x ∷ []) es (ordered-push before x o h.0) (step before x o p h.0) h.1)

-- what holds of the empty list, and goes on from an ordered list to one with an entry more, holds of each ordered list
pub ordered_induction : (P : List Entry → Type 0) → P [] → ((es : List Entry) (e : Entry) → IsOrdered es → P es → MayFollow es e → P (es ++ e ∷ [])) → (es : List Entry) → IsOrdered es → P es
ordered_induction P none step es o = ordered_by P step [] es tt none o

-- a test of whether an entry may follow an ordered list tells whether the list goes on ordered by it
pub next_decides : (xs es : List Entry) (e : Entry) (b d : Bool) → IsOrdered xs → xs ≡ es → b ≡ d → ((b ≡ true) ↔ MayFollow xs e) → (d ≡ true) ↔ IsOrdered (es ++ e ∷ [])
next_decides xs es e b d o same is test = (
  λ t. subst (λ (l : List Entry). IsOrdered (l ++ e ∷ [])) same (ordered-push xs e o (test.0 (is ∙ t))),
  λ m. sym is ∙ test.1 (ordered-last xs e (subst (λ (l : List Entry). IsOrdered (l ++ e ∷ [])) (sym same) m)),
)
