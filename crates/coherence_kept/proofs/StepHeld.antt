-- What a step puts to one session: a numbered message, a Block, and the Drops up to its Close.
use Rattle.std.proofs.Common.{◌≡◌, ◌≤◌, ℕ, Bool, true, false, if◌then◌else◌, List, [], ◌∷◌, ◌++◌, length, refl, sym, ap, subst, arith, le_refl}
use Rattle.std.specs.Prelude.{⊤}
use Rattle.std.specs.List.{list_any}
use Rattle.std.proofs.lemmas.List.{append-nil, append_assoc, length-append}
use Rattle.std.proofs.Math.Seq.{take-length}
use Rattle.subscript_keys.specs.declared.span.Span.{Span}
use Rattle.subscript_keys.specs.declared.run.Run.{Run}
use Rattle.subscript_keys.proofs.SpansMeet.{meet-tests}
use Rattle.block_bytes.specs.Blocks.{IsBlockOf}
use Rattle.plain_orders.specs.declared.entry.Entry.{Entry}
use Rattle.plain_orders.specs.Entries.{count, closes}
use Rattle.plain_orders.specs.Ordered.{IsOrdered, MayFollow}
use Rattle.plain_orders.proofs.Locality.{is_in_span}
use Rattle.plain_orders.proofs.OrderLemmas.{ordered-push}
use Rattle.plain_orders.proofs.Places.{counts_rise}
use Rattle.end_words.specs.Runs.{TrueAt, covers, meets}
use Rattle.ecp_messages.specs.declared.down.Down.{Down}
use Rattle.ecp_messages.specs.declared.down.Down.TheVariants.{Block}
use Rattle.ecp_messages.specs.declared.front.Front.{Front}
use Rattle.cluster_runs.specs.Lanes.{drops_until}
use Rattle.cluster_runs.specs.WireDrops.{Notes, head, with_entry}
use Rattle.cluster_invariant.specs.Coherence.{front_of, IsHeader, BlocksHold, IsCoherent}
use Rattle.link_kept.proofs.Later.{front_same}
use Rattle.coherence_kept.proofs.Grows.{coherent_later}
use Rattle.coherence_kept.proofs.Joined.{Held, held_coherent, held_joined}
use Rattle.coherence_kept.proofs.EntryDrops.{HeldBy, is_span, entry_held}

-- a header at the whole length

pub now_header : (es : List Entry) (synced stays s : ℕ) → synced ≤ stays → stays ≤ length es → IsHeader es stays s (head es es synced s)
now_header es synced stays s low within = record {
  within = le_refl (length es);
  counted = ap (λ (xs : List Entry). count xs s) (sym (take-length es));
  synced = counts_rise 0 synced stays es s low;
  below = omega (arith, counts_rise 0 synced (length es) es s (omega (arith, low, within)), ap (λ (xs : List Entry). count xs s) (take-length es));
}

module _ (es : List Entry) (synced stays s : ℕ) (low : synced ≤ stays) (within : stays ≤ length es) (spans : List Span) (f : Front) (down : List Down)
    (h : Held es stays s (HeldBy es spans) f down) where
  -- A numbered message at the whole length keeps what was put coherent and what is held.
  pub message_held : (m : Down) → front_of m ≡ head es es synced s → BlocksHold es (HeldBy es spans) (m ∷ []) → Held es stays s (HeldBy es spans) f (down ++ m ∷ [])
  message_held m its blocks =
      held_joined es es stays stays s (length es) (HeldBy es spans) (HeldBy es spans) f down (m ∷ []) (front_same es) within (le_refl stays) h (le_refl (length es))
      (omega (arith, at), tt) (subst (IsHeader es stays s) (sym its) (now_header es synced stays s low within), tt)
      (record { until = λ r held keeps. (subst (TrueAt r es) (sym at) held.is_true, tt); stands = λ r held off. held }) blocks
    where
      at : (front_of m).n ≡ length es
      at = ap (λ (x : Front). x.n) its

  -- More notes keep what is held.
  pub more_noted : (more : List Span) → ((p : Span) → list_any (is_span p) spans ≡ true → list_any (is_span p) more ≡ true) → Held es stays s (HeldBy es more) f down
  more_noted more on =
      subst (Held es stays s (HeldBy es more) f) (append-nil down)
      (held_joined es es stays stays s (length es) (HeldBy es spans) (HeldBy es more) f down [] (front_same es) within (le_refl stays) h (le_refl (length es)) tt tt
      (record { until = λ r held. tt; stands = λ r held off. record { noted = on r.span held.noted; is_wide = held.is_wide; is_true = held.is_true } }) tt)

-- a run that covers a key has a span that isn't empty
pub covers_wide : (key : List ℕ) (r : Run) → covers key r ≡ true → meets r.span r.span ≡ true
covers_wide key r is =
    (meet-tests r.span.lo r.span.hi r.span.lo r.span.hi).1 (key, is_in_span r.span (key, []) is, is_in_span r.span (key, []) is)

-- A Fetch that is answered, with its run noted.
pub fetch_held : (es : List Entry) (synced stays s : ℕ) → synced ≤ stays → stays ≤ length es → (spans more : List Span) (f : Front) (down : List Down)
    → Held es stays s (HeldBy es spans) f down → ((p : Span) → list_any (is_span p) spans ≡ true → list_any (is_span p) more ≡ true)
    → (key : List ℕ) (r : Run) (block : List ℕ) → list_any (is_span r.span) more ≡ true → covers key r ≡ true → TrueAt r es (length es) → IsBlockOf r block
    → Held es stays s (HeldBy es more) f (down ++ Block (head es es synced s) block ∷ [])
fetch_held es synced stays s low within spans more f down h on key r block noted covered is_true in_bytes =
    message_held es synced stays s low within more f down (more_noted es synced stays s low within spans f down h more on) (Block (head es es synced s) block) refl (
      record {
        run = r;
        its = in_bytes;
        at_once = is_true;
        until = tt;
        stands = λ off. record { noted = noted; is_wide = covers_wide key r covered; is_true = is_true };
      },
      tt,
    )

-- up to the Close

-- each entry may follow those before it
abbrev pub MayAll : List Entry → List Entry → Type 0
MayAll us [] = ⊤
MayAll us (e ∷ es) = MayFollow us e × MayAll (us ++ e ∷ []) es

-- what a data server has for a session as a step begins
abbrev pub notes_at : List Entry → ℕ → List Span → Notes
notes_at us synced spans = record { order = us; synced = synced; noted = spans; due = []; saved = false; closed = false }

-- What a step puts to a session that it closes is coherent.
pub closed_coherent : (s synced stays : ℕ) (f : Front) → synced ≤ stays → (us : List Entry) (spans : List Span) (down : List Down) (es : List Entry) → stays ≤ length us
    → IsOrdered us → MayAll us es → Held us stays s (HeldBy us spans) f down
    → IsCoherent (us ++ es) stays s f (down ++ drops_until s (notes_at us synced spans) es)
closed_coherent s synced stays f low us spans down [] within ordered may h =
    subst (λ (xs : List Entry). IsCoherent xs stays s f (down ++ [])) (sym (append-nil us))
    (subst (IsCoherent us stays s f) (sym (append-nil down)) (held_coherent us stays s (HeldBy us spans) f down h))
closed_coherent s synced stays f low us spans down (e ∷ es) within ordered may h =
    go (closes s e)
    (closed_coherent s synced stays f low (us ++ e ∷ []) left (down ++ due) es (omega (arith, within, length-append us (e ∷ []))) (ordered-push us e ordered may.0) may.1
    (entry_held us e synced stays s low within ordered may.0 spans f down h))
  where
    due : List Down
    due = (with_entry (notes_at us synced spans) s e).due

    left : List Span
    left = (with_entry (notes_at us synced spans) s e).noted

    rest : List Down
    rest = drops_until s (notes_at (us ++ e ∷ []) synced left) es

    go : (b : Bool) → IsCoherent ((us ++ e ∷ []) ++ es) stays s f ((down ++ due) ++ rest) → IsCoherent (us ++ e ∷ es) stays s f (down ++ (if b then [] else due ++ rest))
    go true next =
        subst (IsCoherent (us ++ e ∷ es) stays s f) (sym (append-nil down))
        (coherent_later us (us ++ e ∷ es) stays stays s f down (e ∷ es, refl) within (le_refl stays) (held_coherent us stays s (HeldBy us spans) f down h))
    go false next =
        subst (λ (xs : List Entry). IsCoherent xs stays s f (down ++ (due ++ rest))) (append_assoc us (e ∷ []) es)
        (subst (IsCoherent ((us ++ e ∷ []) ++ es) stays s f) (append_assoc down due rest) next)
