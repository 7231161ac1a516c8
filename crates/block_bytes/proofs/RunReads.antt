-- What was read part by part is the run, or no run has these bytes.
use Rattle.std.proofs.Common.{◌≡◌, ◌≢◌, ℕ, ◌≤◌, List, ◌∷◌, ◌++◌, length, sym, subst, ◌∙◌, ap, arith}
use Rattle.std.specs.List.{AllByRecursion}
use Rattle.subscript_keys.specs.declared.pair.Pair.{Pair}
use Rattle.subscript_keys.specs.declared.span.Span.{Span}
use Rattle.subscript_keys.specs.declared.run.Run.{Run}
use Rattle.field_bytes.specs.Fields.{u8_bytes, u16_bytes, IsU8, IsU16, NoneAhead}
use Rattle.field_bytes.proofs.PrefixFree.{u16_prefix_free}
use Rattle.block_bytes.specs.Blocks.{pairs_bytes, span_bytes, block_bytes, HasShortLists, HasShortEnds, IsShortRun, IsBlockRun, IsBlockOf}
use Rattle.block_bytes.proofs.BlockLengths.{short_run}
use Rattle.block_bytes.proofs.OneRun.{block-whole, span_prefix_free, same_runs}

pub no_byte : (bytes : List ℕ) → NoneAhead u8_bytes IsU8 bytes → (run : Run) → IsShortRun run → block_bytes run ≢ bytes
no_byte bytes none run p e = none 1 _ (omega arith) (sym e ∙ block-whole run)

-- what stands behind the first byte
behind-form : (form : ℕ) (bytes rest : List ℕ) (run : Run) → bytes ≡ u8_bytes form ++ rest → block_bytes run ≡ bytes → (form ≡ 1) × (rest ≡ span_bytes run.span ++ (u16_bytes (length run.pairs) ++ pairs_bytes run.pairs))
behind-form form bytes rest run s e =
    let whole : form ∷ rest ≡ 1 ∷ (span_bytes run.span ++ (u16_bytes (length run.pairs) ++ pairs_bytes run.pairs)) = sym s ∙ sym e ∙ block-whole run in
    (cc, cc)

pub other_form : (form : ℕ) (bytes rest : List ℕ) → bytes ≡ u8_bytes form ++ rest → form ≢ 1 → (run : Run) → IsShortRun run → block_bytes run ≢ bytes
other_form form bytes rest s other run p e = other (behind-form form bytes rest run s e).0

pub no_span : (form : ℕ) (bytes rest : List ℕ) → bytes ≡ u8_bytes form ++ rest → NoneAhead span_bytes HasShortEnds rest → (run : Run) → IsShortRun run → block_bytes run ≢ bytes
no_span form bytes rest s none run p e = none run.span _ p.ends (behind-form form bytes rest run s e).1

-- what stands behind the span
behind-span : (form : ℕ) (bytes rest after : List ℕ) (span : Span) (run : Run) → bytes ≡ u8_bytes form ++ rest → rest ≡ span_bytes span ++ after → HasShortEnds span → IsShortRun run → block_bytes run ≡ bytes → after ≡ u16_bytes (length run.pairs) ++ pairs_bytes run.pairs
behind-span form bytes rest after span run s t q p e =
    (span_prefix_free span run.span after _ q p.ends (sym t ∙ (behind-form form bytes rest run s e).1)).1

pub no_count : (form : ℕ) (bytes rest after : List ℕ) (span : Span) → bytes ≡ u8_bytes form ++ rest → rest ≡ span_bytes span ++ after → HasShortEnds span → NoneAhead u16_bytes IsU16 after → (run : Run) → IsShortRun run → block_bytes run ≢ bytes
no_count form bytes rest after span s t q none run p e =
    none (length run.pairs) (pairs_bytes run.pairs) p.few (behind-span form bytes rest after span run s t q p e)

pub no_pairs : (form count : ℕ) (bytes rest after last : List ℕ) (span : Span) → bytes ≡ u8_bytes form ++ rest → rest ≡ span_bytes span ++ after → HasShortEnds span → after ≡ u16_bytes count ++ last → IsU16 count → ((pairs : List Pair) → AllByRecursion HasShortLists pairs → length pairs ≡ count → last ≢ pairs_bytes pairs) → (run : Run) → IsShortRun run → block_bytes run ≢ bytes
no_pairs form count bytes rest after last span s t q u r none run p e =
    let counts = u16_prefix_free count (length run.pairs) last (pairs_bytes run.pairs) r p.few (sym u ∙ behind-span form bytes rest after span run s t q p e) in
    none run.pairs p.pairs (sym counts.0) counts.1

pub run_stands : (form count : ℕ) (bytes rest after last : List ℕ) (run : Run) → form ≡ 1 → bytes ≡ u8_bytes form ++ rest → rest ≡ span_bytes run.span ++ after → after ≡ u16_bytes count ++ last → length run.pairs ≡ count → last ≡ pairs_bytes run.pairs → block_bytes run ≡ bytes
run_stands form count bytes rest after last run f s t u n w =
    block-whole run ∙ sym (s ∙ ap (λ x. u8_bytes x ++ rest) f ∙ ap (λ x. 1 ∷ x) (t ∙ ap (λ x. span_bytes run.span ++ x) (u ∙ ap (λ x. u16_bytes x ++ last) (sym n) ∙ ap (λ x. u16_bytes (length run.pairs) ++ x) w)))

short-of : (run : Run) (bytes : List ℕ) → IsBlockOf run bytes → IsShortRun run
short-of run bytes p = short_run run (subst (λ (x : List ℕ). length x ≤ 8192) (sym p.written) p.limit)

-- the run that was read is the one whose block this is
pub read_again : (found run : Run) (bytes : List ℕ) → IsShortRun found → block_bytes found ≡ bytes → IsBlockOf run bytes → found ≡ run
read_again found run bytes p e q = same_runs found run p (short-of run bytes q) (e ∙ sym q.written)

-- where it is no run of a block, the bytes are no block
pub not_in_order : (found run : Run) (bytes : List ℕ) → IsShortRun found → block_bytes found ≡ bytes → (IsBlockRun found → ⊥) → IsBlockOf run bytes → ⊥
not_in_order found run bytes p e wrong q = wrong (subst IsBlockRun (sym (read_again found run bytes p e q)) q.has_block)

pub no_run : (run : Run) (bytes : List ℕ) → ((r : Run) → IsShortRun r → block_bytes r ≢ bytes) → IsBlockOf run bytes → ⊥
no_run run bytes none q = none run (short-of run bytes q) q.written
