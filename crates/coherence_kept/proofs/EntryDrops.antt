-- An entry that enters with the Drops that it causes: what was put to a session stays coherent, and what isn't dropped is held.
use Rattle.std.proofs.Common.{◌≡◌, ◌≤◌, ℕ, Bool, true, false, not, cond, ◌||◌, List, [], ◌∷◌, ◌++◌, length, take, filter, refl, sym, ◌∙◌, ap, subst, arith, le_refl}
use Rattle.std.specs.List.{list_any}
use Rattle.std.specs.Cmp.Lexicographic.{same_text}
use Rattle.std.proofs.lemmas.Bool.{and_parts, or_parts, or_left, or_right, false≢true}
use Rattle.std.proofs.lemmas.List.{length-append}
use Rattle.std.proofs.Math.Seq.{take-length, take-append_seam}
use Rattle.subscript_keys.specs.declared.span.Span.{Span}
use Rattle.subscript_keys.specs.declared.run.Run.{Run}
use Rattle.subscript_keys.proofs.SpansMeet.{meet-tests}
use Rattle.plain_orders.specs.declared.entry.Entry.{Entry}
use Rattle.plain_orders.specs.Entries.{count}
use Rattle.plain_orders.specs.Fold.{fold}
use Rattle.plain_orders.specs.Ordered.{IsOrdered, MayFollow}
use Rattle.plain_orders.specs.PairMap as map
use Rattle.plain_orders.specs.Spans.{entry_spans}
use Rattle.plain_orders.proofs.Locality.{ApartAll, entry_within}
use Rattle.plain_orders.proofs.Places.{counts_rise}
use Rattle.end_words.specs.Runs.{TrueAt, meets, same_span}
use Rattle.ecp_messages.specs.declared.down.Down.{Down}
use Rattle.ecp_messages.specs.declared.front.Front.{Front}
use Rattle.cluster_runs.specs.WireDrops.{drops_of, head, is_met, is_unmet}
use Rattle.cluster_invariant.specs.Coherence.{drops, IsHeader, RisingFrom, TrueUntilDrop, BlocksHold}
use Rattle.coherence_kept.proofs.Grows.{HeadersAre, true_later}
use Rattle.coherence_kept.proofs.Joined.{Follows, Held, held_joined}

-- spans

-- it is this very span
abbrev pub is_span : Span → Span → Bool
is_span p x = same_span x p

-- a run that one session has, whose very span is among these
pub record HeldBy (es : List Entry) (spans : List Span) (run : Run) : Type 0 where
  pub noted : list_any (is_span run.span) spans ≡ true
  pub is_wide : meets run.span run.span ≡ true
  pub is_true : TrueAt run es (length es)

-- the same span meets what the other one meets
same_met : (p x : Span) → same_span x p ≡ true → (t : Span → Bool) → t x ≡ t p
same_met p x same t =
    let parts = and_parts _ _ same in
    let lo : x.lo ≡ p.lo = same_text x.lo p.lo (sym parts.0) in
    let hi : x.hi ≡ p.hi = same_text x.hi p.hi (sym parts.1) in
    ap (λ (l : List ℕ). t (record { lo = l; hi = x.hi })) lo ∙ ap (λ (h : List ℕ). t (record { lo = p.lo; hi = h })) hi

-- a span that the first doesn't meet isn't the one that is there
behind : (p x : Span) (xs : List Span) → meets p p ≡ true → meets p x ≡ false → list_any (is_span p) (x ∷ xs) ≡ true → list_any (is_span p) xs ≡ true
behind p x xs self off is = go (same_span x p) refl is
  where
    go : (b : Bool) → same_span x p ≡ b → (b || list_any (is_span p) xs) ≡ true → list_any (is_span p) xs ≡ true
    go true same rest = absurd (false≢true (sym off ∙ same_met p x same (meets p) ∙ self))
    go false other rest = rest

-- what passes a test that the span passes has it still
noted_in : (p : Span) (t : Span → Bool) (xs : List Span) → t p ≡ true → list_any (is_span p) xs ≡ true → list_any (is_span p) (filter t xs) ≡ true
noted_in p t [] passes is = absurd (false≢true is)
noted_in p t (x ∷ xs) passes is = go (same_span x p) refl is (noted_in p t xs passes)
  where
    go : (b : Bool) → same_span x p ≡ b → (b || list_any (is_span p) xs) ≡ true → (list_any (is_span p) xs ≡ true → list_any (is_span p) (filter t xs) ≡ true)
        → list_any (is_span p) (cond (t x) (x ∷ filter t xs) (filter t xs)) ≡ true
    go true same rest more =
        subst (λ (c : Bool). list_any (is_span p) (cond c (x ∷ filter t xs) (filter t xs)) ≡ true) (sym (same_met p x same t ∙ passes))
        (or_left (same_span x p) (list_any (is_span p) (filter t xs)) same)
    go false other rest more = by (t x)
      where
        by : (c : Bool) → list_any (is_span p) (cond c (x ∷ filter t xs) (filter t xs)) ≡ true
        by true = or_right (same_span x p) (list_any (is_span p) (filter t xs)) (more rest)
        by false = more rest

-- spans that it doesn't meet are apart from it
unmet_apart : (p : Span) (ts : List Span) → list_any (meets p) ts ≡ false → ApartAll p ts
unmet_apart p [] off = tt
unmet_apart p (t ∷ ts) off =
    let parts = or_parts (meets p t) (list_any (meets p) ts) off in
    (λ met. false≢true (sym parts.0 ∙ (meet-tests p.lo p.hi t.lo t.hi).1 met), unmet_apart p ts parts.1)

module _ (es : List Entry) (e : Entry) (synced stays s : ℕ) (low : synced ≤ stays) (within : stays ≤ length es) where
  -- the order with the entry
  abbrev pub fs : List Entry
  fs = es ++ e ∷ []

  longer : length es ≤ length fs
  longer = omega (arith, length-append es (e ∷ []))

  seam : take (length es) fs ≡ es
  seam = take-append_seam es (e ∷ [])

  -- the headers at the two lengths

  head_before : IsHeader fs stays s (head es fs synced s)
  head_before = record {
    within = longer;
    counted = ap (λ (xs : List Entry). count xs s) (sym seam);
    synced = counts_rise 0 synced stays fs s low;
    below = omega (arith, counts_rise 0 synced (length es) fs s (omega (arith, low, within)), ap (λ (xs : List Entry). count xs s) seam);
  }

  head_now : IsHeader fs stays s (head fs fs synced s)
  head_now = record {
    within = le_refl (length fs);
    counted = ap (λ (xs : List Entry). count xs s) (sym (take-length fs));
    synced = counts_rise 0 synced stays fs s low;
    below = omega (arith, counts_rise 0 synced (length fs) fs s (omega (arith, low, within, longer)), ap (λ (xs : List Entry). count xs s) (take-length fs));
  }

  -- the Drops

  abbrev dropped : List Span → List Down
  dropped xs = drops_of es fs synced s xs

  drops_headers : (xs : List Span) → HeadersAre fs stays s (dropped xs)
  drops_headers [] = tt
  drops_headers (x ∷ []) = (head_now, tt)
  drops_headers (x ∷ y ∷ ys) = (head_before, drops_headers (y ∷ ys))

  drops_rise : (xs : List Span) → RisingFrom (length es) (dropped xs)
  drops_rise [] = tt
  drops_rise (x ∷ []) = (longer, tt)
  drops_rise (x ∷ y ∷ ys) = (le_refl (length es), drops_rise (y ∷ ys))

  drops_blocks : (Q : Run → Type 0) (xs : List Span) → BlocksHold fs Q (dropped xs)
  drops_blocks Q [] = tt
  drops_blocks Q (x ∷ xs) = drops_blocks Q xs

  -- a run that is true before and with the entry
  until_missed : (r : Run) → TrueAt r fs (length es) → TrueAt r fs (length fs) → (xs : List Span) → TrueUntilDrop fs r (dropped xs)
  until_missed r before now [] = tt
  until_missed r before now (x ∷ []) = λ keeps. (now, tt)
  until_missed r before now (x ∷ y ∷ ys) = λ keeps. (before, until_missed r before now (y ∷ ys))

  -- one that is true before it, and whose span is dropped at the latest by the last
  until_met : (r : Run) → TrueAt r fs (length es) → meets r.span r.span ≡ true → (xs : List Span) → list_any (is_span r.span) xs ≡ true → TrueUntilDrop fs r (dropped xs)
  until_met r before self [] is = absurd (false≢true is)
  until_met r before self (x ∷ []) is = λ keeps. absurd (false≢true (behind r.span x [] self keeps is))
  until_met r before self (x ∷ y ∷ ys) is = λ keeps. (before, until_met r before self (y ∷ ys) (behind r.span x (y ∷ ys) self keeps is))

  some_drops : (p : Span) → meets p p ≡ true → (xs : List Span) → list_any (is_span p) xs ≡ true → list_any (drops p) (dropped xs) ≡ true
  some_drops p self [] is = absurd (false≢true is)
  some_drops p self (x ∷ xs) is = go (meets p x) refl (some_drops p self xs)
    where
      go : (b : Bool) → meets p x ≡ b → (list_any (is_span p) xs ≡ true → list_any (drops p) (dropped xs) ≡ true) → (meets p x || list_any (drops p) (dropped xs)) ≡ true
      go true met more = or_left (meets p x) (list_any (drops p) (dropped xs)) met
      go false off more = or_right (meets p x) (list_any (drops p) (dropped xs)) (more (behind p x xs self off is))

  module _ (ordered : IsOrdered es) (may : MayFollow es e) (spans : List Span) where
    abbrev touching : List Span
    touching = entry_spans (fold es) e

    -- what the entry drops, and what stays noted
    abbrev pub quick : List Span
    quick = filter (is_met touching) spans

    abbrev pub kept : List Span
    kept = filter (is_unmet touching) spans

    true_before : (r : Run) → HeldBy es spans r → TrueAt r fs (length es)
    true_before r h = true_later r es fs (length es) (e ∷ [], refl) (le_refl (length es)) h.is_true

    true_now : (r : Run) → HeldBy es spans r → is_met touching r.span ≡ false → TrueAt r fs (length fs)
    true_now r h off =
        h.is_true ∙ ap (λ (xs : List Entry). map.within (fold xs).pairs r.span) (take-length es)
        ∙ sym (entry_within r.span es e ordered may (unmet_apart r.span touching off))
        ∙ ap (λ (xs : List Entry). map.within (fold xs).pairs r.span) (sym (take-length fs))

    drops_follow : Follows fs (HeldBy es spans) (HeldBy fs kept) (dropped quick)
    drops_follow = record { until = λ r h. until r h (is_met touching r.span) refl; stands = λ r h off. stands r h off (is_met touching r.span) refl }
      where
        until : (r : Run) → HeldBy es spans r → (b : Bool) → is_met touching r.span ≡ b → TrueUntilDrop fs r (dropped quick)
        until r h true met = until_met r (true_before r h) h.is_wide quick (noted_in r.span (is_met touching) spans met h.noted)
        until r h false off = until_missed r (true_before r h) (true_now r h off) quick

        stands : (r : Run) → HeldBy es spans r → list_any (drops r.span) (dropped quick) ≡ false → (b : Bool) → is_met touching r.span ≡ b → HeldBy fs kept r
        stands r h none true met =
            absurd (false≢true (sym none ∙ some_drops r.span h.is_wide quick (noted_in r.span (is_met touching) spans met h.noted)))
        stands r h none false off = record {
          noted = noted_in r.span (is_unmet touching) spans (ap not off) h.noted;
          is_wide = h.is_wide;
          is_true = true_now r h off;
        }

    -- An entry with its Drops keeps what was put coherent, and what is held.
    pub entry_held : (f : Front) (down : List Down) → Held es stays s (HeldBy es spans) f down
        → Held fs stays s (HeldBy fs kept) f (down ++ drops_of es fs synced s quick)
    entry_held f down h =
        held_joined es fs stays stays s (length es) (HeldBy es spans) (HeldBy fs kept) f down (dropped quick) (e ∷ [], refl) within (le_refl stays) h
        (le_refl (length es)) (drops_rise quick) (drops_headers quick) drops_follow (drops_blocks (HeldBy fs kept) quick)
