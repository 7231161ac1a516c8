-- Lines one after the other.
use Rattle.std.proofs.Common.{◌≡◌, ℕ, zero, suc, ◌+◌, ◌<◌, List, [], ◌∷◌, ◌++◌, length, take, get_or, refl, sym, ap, ◌∙◌, subst, append_assoc, arith}
use Rattle.std.proofs.lemmas.List.{take_more}
use Rattle.std.specs.Prelude.{codes}
use Rattle.std.specs.List.{AllByRecursion}
use Rattle.plain_orders.specs.declared.entry.Entry.{Entry}
use Rattle.global_text.specs.Printed.{Appends}
use Rattle.transcript.specs.ActText.{IsEntryText, AreEntryLines, CanPrintEntry}

-- the line of an entry
abbrev entry-line : List ℕ → List ℕ
entry-line shown = codes "entry " ++ (shown ++ 10 ∷ [])

-- the lines of entries and one more
lines-more : (entries : List Entry) (e : Entry) (text shown : List ℕ) → AreEntryLines entries text → IsEntryText e shown → AreEntryLines (entries ++ e ∷ []) (text ++ entry-line shown)
lines-more [] e text shown is more = (shown, [], more, refl, ap (λ t. t ++ entry-line shown) is)
lines-more (d ∷ entries) e text shown is more =
    (is.0, is.1 ++ entry-line shown, is.2, lines-more entries e is.1 shown is.3 more, ap (λ t. t ++ entry-line shown) is.4 ∙ simp append_assoc)

-- the line of the entry at a place
pub entries_more : (entries : List Entry) (i : ℕ) (e : Entry) (before between word shown after : List ℕ) → i < length entries → e ≡ get_or entries i e
    → Appends (AreEntryLines (take i entries)) before between → word ≡ between ++ codes "entry " → Appends (IsEntryText e) word shown → after ≡ shown ++ 10 ∷ [] → Appends (AreEntryLines (take (i + 1) entries)) before after
entries_more entries i e before between word shown after low at so begun more ends = (
  so.0 ++ entry-line more.0,
  subst (λ xs. AreEntryLines xs (so.0 ++ entry-line more.0)) (sym (take_more entries i e low ∙ ap (λ x. take i entries ++ x ∷ []) (sym at))) (lines-more (take i entries) e so.0 more.0 so.1 more.1),
  ends ∙ ap (λ t. t ++ 10 ∷ []) (more.2 ∙ ap (λ t. t ++ more.0) (begun ∙ ap (λ t. t ++ codes "entry ") so.2)) ∙ simp append_assoc,
)

-- each of the entries can be printed
pub can_print_at : (entries : List Entry) (i : ℕ) (e : Entry) → AllByRecursion CanPrintEntry entries → i < length entries → e ≡ get_or entries i e → CanPrintEntry e
can_print_at [] i e all low at = absurd (omega arith)
can_print_at (d ∷ entries) zero e all low at = subst CanPrintEntry (sym at) all.0
can_print_at (d ∷ entries) (suc i) e all low at = can_print_at entries i e all.1 (omega arith) at
