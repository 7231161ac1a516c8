-- What a session's window was sent: by a message that is put, and by the Drops of an entry.
use Rattle.std.proofs.Common.{◌≡◌, ◌≢◌, ◌==◌, ◌||◌, ◌&&◌, nat_eq, ℕ, Bool, true, false, not, if◌then◌else◌, List, [], ◌∷◌, ◌++◌, length, map, filter, take, Option, Some, None, refl, sym, ◌∙◌, ap, subst, cond}
use Rattle.std.specs.List.{list_any}
use Rattle.std.specs.Cmp.Lexicographic.{pointwise}
use Rattle.std.proofs.lemmas.Bool.{eqb-true, eq-eqb, ne_eqb, false≢true, or_left, or_right}
use Rattle.std.proofs.lemmas.List.{append_assoc, append-nil}
use Rattle.std.proofs.lemmas.List.Folds.{list_any-append}
use Rattle.std.proofs.Math.Seq.{take-append_seam}
use Rattle.plain_orders.specs.declared.entry.Entry.{Entry}
use Rattle.plain_orders.specs.Entries.{count}
use Rattle.subscript_keys.specs.declared.span.Span.{Span}
use Rattle.ecp_messages.specs.declared.down.Down.{Down}
use Rattle.ecp_messages.specs.declared.down.Down.TheVariants.{Drop}
use Rattle.ecp_messages.specs.declared.front.Front.{Front}
use Rattle.end_words.specs.Runs.{same_span}
use Rattle.end_words.specs.Windows.{Window, with_ack_put, with_sent}
use Rattle.block_holders.specs.declared.noted.Noted.{Noted}
use Rattle.block_holders.specs.HolderWords.{is_noted_for, is_touched, is_untouched, forgotten, touched, untouched, with_noted, is_noted}
use Rattle.data_rules.specs.DataState.{DataState, SessionWindow}
use Rattle.data_rules.specs.Entering.{drop_head, drops, drops_one}
use Rattle.data_rules.specs.Puts.{Sofar, conn_of, puts, set_window, window_in, window_of}
use Rattle.cluster_runs.specs.Lanes.{is_noted_of, span_of}
use Rattle.cluster_runs.specs.WireDrops.{drops_of, head, is_last, is_met, is_unmet}
use Rattle.cluster_invariant.proofs.PutLaws.{only_puts, puts_state, windows_put}
use Rattle.link_kept.proofs.WindowLists.{set_elsewhere, set_here}
use Rattle.coherence_kept.proofs.EntryDrops.{is_span}
use Rattle.coherence_kept.proofs.ServerHeld.{noted_for, spans_for}

-- A window keeps these messages behind what it kept.
pub record Sent (w u : Window Down) (ms : List Down) : Type 0 where
  pub acked : u.acked ≡ w.acked
  pub waiting : u.waiting ≡ w.waiting ++ ms

pub sent_none : (w u : Window Down) → u ≡ w → Sent w u []
sent_none w u same = record { acked = ap (λ (x : Window Down). x.acked) same; waiting = ap (λ (x : Window Down). x.waiting) same ∙ sym (append-nil w.waiting) }

pub sent_then : (w u x : Window Down) (ms ns : List Down) → Sent w u ms → Sent u x ns → Sent w x (ms ++ ns)
sent_then w u x ms ns first more = record {
  acked = more.acked ∙ first.acked;
  waiting = more.waiting ∙ ap (λ (l : List Down). l ++ ns) first.waiting ∙ append_assoc w.waiting ms ns;
}

-- a message that is put

put_here : (o : Option ℕ) (s : ℕ) (m : Down) (ws : List SessionWindow) → Sent (window_in ws s) (window_in (windows_put o s m ws) s) (m ∷ [])
put_here None s m ws =
    subst (λ (u : Window Down). Sent (window_in ws s) u (m ∷ [])) (sym (set_here ws s (with_sent (window_in ws s) m))) (record { acked = refl; waiting = refl })
put_here (Some conn) s m ws =
    subst (λ (u : Window Down). Sent (window_in ws s) u (m ∷ []))
    (sym (set_here (set_window ws s (with_sent (window_in ws s) m)) s (with_ack_put (window_in (set_window ws s (with_sent (window_in ws s) m)) s))
    ∙ ap (λ (u : Window Down). with_ack_put u) (set_here ws s (with_sent (window_in ws s) m)))) (record { acked = refl; waiting = refl })

put_there : (o : Option ℕ) (q s : ℕ) (m : Down) (ws : List SessionWindow) → s ≢ q → window_in (windows_put o q m ws) s ≡ window_in ws s
put_there None q s m ws apart = set_elsewhere ws q s (with_sent (window_in ws q) m) apart
put_there (Some conn) q s m ws apart =
    set_elsewhere (set_window ws q (with_sent (window_in ws q) m)) q s _ apart ∙ set_elsewhere ws q s (with_sent (window_in ws q) m) apart

-- To the session itself.
pub puts_here : (s : ℕ) (m : Down) (b : Sofar) → Sent (window_of b.state s) (window_of (puts s m b).state s) (m ∷ [])
puts_here s m b =
    subst (λ (d : DataState). Sent (window_of b.state s) (window_of d s) (m ∷ [])) (sym (puts_state s m b)) (put_here (conn_of b.state s) s m b.state.windows)

-- To another one.
pub puts_there : (q s : ℕ) (m : Down) (b : Sofar) → s ≢ q → window_of (puts q m b).state s ≡ window_of b.state s
puts_there q s m b apart = ap (λ (d : DataState). window_of d s) (puts_state q m b) ∙ put_there (conn_of b.state q) q s m b.state.windows apart

-- notes by their spans

-- a test of spans alone may come before or after the one of the session
spans_filtered : (s : ℕ) (t : Noted → Bool) (u : Span → Bool) (xs : List Noted) → ((x : Noted) → t x ≡ u x.span) → spans_for s (filter t xs) ≡ filter u (spans_for s xs)
spans_filtered s t u [] same = refl
spans_filtered s t u (x ∷ xs) same = go (t x) refl (spans_filtered s t u xs same)
  where
    go : (b : Bool) → t x ≡ b → spans_for s (filter t xs) ≡ filter u (spans_for s xs)
        → spans_for s (cond b (x ∷ filter t xs) (filter t xs)) ≡ filter u (map span_of (cond (x.session == s) (x ∷ filter (is_noted_of s) xs) (filter (is_noted_of s) xs)))
    go true passes more = by (x.session == s)
      where
        by : (c : Bool) → map span_of (cond c (x ∷ filter (is_noted_of s) (filter t xs)) (filter (is_noted_of s) (filter t xs)))
            ≡ filter u (map span_of (cond c (x ∷ filter (is_noted_of s) xs) (filter (is_noted_of s) xs)))
        by true =
            ap (λ (l : List Span). x.span ∷ l) more
            ∙ ap (λ (k : Bool). cond k (x.span ∷ filter u (spans_for s xs)) (filter u (spans_for s xs))) (sym passes ∙ same x)
        by false = more
    go false fails more = by (x.session == s)
      where
        by : (c : Bool) → spans_for s (filter t xs) ≡ filter u (map span_of (cond c (x ∷ filter (is_noted_of s) xs) (filter (is_noted_of s) xs)))
        by true = more ∙ ap (λ (k : Bool). cond k (x.span ∷ filter u (spans_for s xs)) (filter u (spans_for s xs))) (sym fails ∙ same x)
        by false = more

pub spans_touched : (s : ℕ) (ts : List Span) (xs : List Noted) → spans_for s (touched ts xs) ≡ filter (is_met ts) (spans_for s xs)
spans_touched s ts xs = spans_filtered s (is_touched ts) (is_met ts) xs (λ x. refl)

pub spans_untouched : (s : ℕ) (ts : List Span) (xs : List Noted) → spans_for s (untouched ts xs) ≡ filter (is_unmet ts) (spans_for s xs)
spans_untouched s ts xs = spans_filtered s (is_untouched ts) (is_unmet ts) xs (λ x. refl)

-- another session's notes stay as one's are forgotten
pub spans_forgotten : (q s : ℕ) (xs : List Noted) → s ≢ q → spans_for s (forgotten q xs) ≡ spans_for s xs
spans_forgotten q s [] apart = refl
spans_forgotten q s (x ∷ xs) apart = go (x.session == q) refl (spans_forgotten q s xs apart)
  where
    go : (b : Bool) → (x.session == q) ≡ b → spans_for s (forgotten q xs) ≡ spans_for s xs
        → spans_for s (cond (not b) (x ∷ forgotten q xs) (forgotten q xs)) ≡ map span_of (cond (x.session == s) (x ∷ filter (is_noted_of s) xs) (filter (is_noted_of s) xs))
    go true its more =
        more ∙ ap (λ (c : Bool). map span_of (cond c (x ∷ filter (is_noted_of s) xs) (filter (is_noted_of s) xs)))
        (sym (ne_eqb x.session s (λ same. apart (sym same ∙ eqb-true x.session q its))))
    go false other more = by (x.session == s)
      where
        by : (c : Bool) → map span_of (cond c (x ∷ filter (is_noted_of s) (forgotten q xs)) (filter (is_noted_of s) (forgotten q xs)))
            ≡ map span_of (cond c (x ∷ filter (is_noted_of s) xs) (filter (is_noted_of s) xs))
        by true = ap (λ (l : List Span). x.span ∷ l) more
        by false = more

text_itself : (xs : List ℕ) → pointwise nat_eq xs xs ≡ true
text_itself [] = refl
text_itself (x ∷ xs) = ap (λ (b : Bool). b && pointwise nat_eq xs xs) (eq-eqb x x refl) ∙ text_itself xs

span_itself : (p : Span) → same_span p p ≡ true
span_itself p = ap (λ (b : Bool). b && pointwise nat_eq p.hi p.hi) (text_itself p.lo) ∙ text_itself p.hi

-- a span more is noted
spans_append : (s : ℕ) (xs ys : List Noted) → spans_for s (xs ++ ys) ≡ spans_for s xs ++ spans_for s ys
spans_append s [] ys = refl
spans_append s (x ∷ xs) ys = go (x.session == s) (spans_append s xs ys)
  where
    go : (b : Bool) → spans_for s (xs ++ ys) ≡ spans_for s xs ++ spans_for s ys
        → map span_of (cond b (x ∷ filter (is_noted_of s) (xs ++ ys)) (filter (is_noted_of s) (xs ++ ys)))
        ≡ map span_of (cond b (x ∷ filter (is_noted_of s) xs) (filter (is_noted_of s) xs)) ++ spans_for s ys
    go true more = ap (λ (l : List Span). x.span ∷ l) more
    go false more = more

-- for another session
pub spans_beside : (q s : ℕ) (p : Span) (xs : List Noted) → s ≢ q → spans_for s (with_noted q p xs) ≡ spans_for s xs
spans_beside q s p xs apart = go (is_noted q p xs)
  where
    one : spans_for s (record { session = q; span = p } ∷ []) ≡ []
    one = ap (λ (b : Bool). map span_of (cond b (record { session = q; span = p } ∷ []) [])) (ne_eqb q s (λ same. apart (sym same)))

    go : (b : Bool) → spans_for s (if b then xs else xs ++ record { session = q; span = p } ∷ []) ≡ spans_for s xs
    go true = refl
    go false = spans_append s xs (record { session = q; span = p } ∷ []) ∙ ap (λ (l : List Span). spans_for s xs ++ l) one ∙ append-nil (spans_for s xs)

-- for the session itself: its spans, and this one
pub spans_with : (s : ℕ) (p : Span) (xs : List Noted)
    → ((r : Span) → list_any (is_span r) (spans_for s xs) ≡ true → list_any (is_span r) (spans_for s (with_noted s p xs)) ≡ true)
    × (list_any (is_span p) (spans_for s (with_noted s p xs)) ≡ true)
spans_with s p xs = go (is_noted s p xs) refl
  where
    one : spans_for s (record { session = s; span = p } ∷ []) ≡ p ∷ []
    one = ap (λ (b : Bool). map span_of (cond b (record { session = s; span = p } ∷ []) [])) (eq-eqb s s refl)

    more : spans_for s (xs ++ record { session = s; span = p } ∷ []) ≡ spans_for s xs ++ p ∷ []
    more = spans_append s xs (record { session = s; span = p } ∷ []) ∙ ap (λ (l : List Span). spans_for s xs ++ l) one

    in_front : (t : Span → Bool) (ys : List Span) → list_any t ys ≡ true → list_any t (ys ++ p ∷ []) ≡ true
    in_front t ys is = list_any-append t ys (p ∷ []) ∙ or_left (list_any t ys) (list_any t (p ∷ [])) is

    behind : (ys : List Span) → list_any (is_span p) (ys ++ p ∷ []) ≡ true
    behind ys = list_any-append (is_span p) ys (p ∷ []) ∙ or_right (list_any (is_span p) ys) (list_any (is_span p) (p ∷ [])) (or_left (same_span p p) false (span_itself p))

    go : (b : Bool) → is_noted s p xs ≡ b
        → ((r : Span) → list_any (is_span r) (spans_for s xs) ≡ true → list_any (is_span r) (spans_for s (if b then xs else xs ++ record { session = s; span = p } ∷ [])) ≡ true)
        × (list_any (is_span p) (spans_for s (if b then xs else xs ++ record { session = s; span = p } ∷ [])) ≡ true)
    go true noted = ((λ r is. is), sym (noted_for s p xs) ∙ noted)
    go false other = (
      λ r is. subst (λ (l : List Span). list_any (is_span r) l ≡ true) (sym more) (in_front (is_span r) (spans_for s xs) is),
      subst (λ (l : List Span). list_any (is_span p) l ≡ true) (sym more) (behind (spans_for s xs)),
    )

-- the Drops of an entry

not_twice : (b : Bool) → not (not b) ≡ b
not_twice true = refl
not_twice false = refl

-- none of these notes is the session's where it has no spans there
last_for : (s : ℕ) (xs : List Noted) → list_any (is_noted_for s) xs ≡ not (is_last (spans_for s xs))
last_for s [] = refl
last_for s (x ∷ xs) = go (x.session == s) (last_for s xs)
  where
    go : (b : Bool) → list_any (is_noted_for s) xs ≡ not (is_last (spans_for s xs))
        → (b || list_any (is_noted_for s) xs) ≡ not (is_last (map span_of (cond b (x ∷ filter (is_noted_of s) xs) (filter (is_noted_of s) xs))))
    go true more = refl
    go false more = more

-- the head of a Drop: at the length before the entry, and of the last at the length with it
drop_headed : (d : DataState) (es : List Entry) (e : Entry) (s : ℕ) (more : Bool) → d.order ≡ es ++ e ∷ []
    → drop_head more d (length es) s ≡ head (if not more then es ++ e ∷ [] else es) (es ++ e ∷ []) d.synced s
drop_headed d es e s true order =
    ap (λ (fs : List Entry). at (count (take (length es) fs) s) fs) order ∙ ap (λ (fs : List Entry). at (count fs s) (es ++ e ∷ [])) (take-append_seam es (e ∷ []))
  where
    at : ℕ → List Entry → Front
    at w fs = record { n = length es; w = w; s = count (take d.synced fs) s }
drop_headed d es e s false order = ap (λ (fs : List Entry). record { n = length fs; w = count fs s; s = count (take d.synced fs) s }) order

-- one of them, and those behind it
one_sent : (es : List Entry) (e : Entry) (s : ℕ) (x : Noted) (xs : List Noted) (b : Sofar) → b.state.order ≡ es ++ e ∷ []
    → ((drops_one (length es) x xs b).state.order ≡ es ++ e ∷ []
    → Sent (window_of (drops_one (length es) x xs b).state s) (window_of (drops (length es) xs (drops_one (length es) x xs b)).state s)
    (drops_of es (es ++ e ∷ []) (drops_one (length es) x xs b).state.synced s (spans_for s xs)))
    → Sent (window_of b.state s) (window_of (drops (length es) (x ∷ xs) b).state s) (drops_of es (es ++ e ∷ []) b.state.synced s (spans_for s (x ∷ xs)))
one_sent es e s x xs b order next_sent = go (x.session == s) refl more
  where
    m : Down
    m = Drop (drop_head (list_any (is_noted_for x.session) xs) b.state (length es) x.session) x.span.lo x.span.hi

    next : Sofar
    next = drops_one (length es) x xs b

    same_order : next.state.order ≡ es ++ e ∷ []
    same_order = ap (λ (d : DataState). d.order) (only_puts x.session m b).state ∙ order

    same_synced : next.state.synced ≡ b.state.synced
    same_synced = ap (λ (d : DataState). d.synced) (only_puts x.session m b).state

    more : Sent (window_of next.state s) (window_of (drops (length es) xs next).state s) (drops_of es (es ++ e ∷ []) b.state.synced s (spans_for s xs))
    more =
        subst (λ (n : ℕ). Sent (window_of next.state s) (window_of (drops (length es) xs next).state s) (drops_of es (es ++ e ∷ []) n s (spans_for s xs))) same_synced
        (next_sent same_order)

    go : (c : Bool) → (x.session == s) ≡ c
        → Sent (window_of next.state s) (window_of (drops (length es) xs next).state s) (drops_of es (es ++ e ∷ []) b.state.synced s (spans_for s xs))
        → Sent (window_of b.state s) (window_of (drops (length es) xs next).state s)
        (drops_of es (es ++ e ∷ []) b.state.synced s (map span_of (cond c (x ∷ filter (is_noted_of s) xs) (filter (is_noted_of s) xs))))
    go true its rest =
        sent_then (window_of b.state s) (window_of next.state s) (window_of (drops (length es) xs next).state s) (one ∷ [])
        (drops_of es (es ++ e ∷ []) b.state.synced s (spans_for s xs)) first rest
      where
        one : Down
        one = Drop (head (if is_last (spans_for s xs) then es ++ e ∷ [] else es) (es ++ e ∷ []) b.state.synced s) x.span.lo x.span.hi

        message : m ≡ one
        message =
            ap (λ (k : ℕ). Drop (drop_head (list_any (is_noted_for k) xs) b.state (length es) k) x.span.lo x.span.hi) (eqb-true x.session s its)
            ∙ ap (λ (f : Front). Drop f x.span.lo x.span.hi)
            (drop_headed b.state es e s (list_any (is_noted_for s) xs) order
            ∙ ap (λ (k : Bool). head (if not k then es ++ e ∷ [] else es) (es ++ e ∷ []) b.state.synced s) (last_for s xs)
            ∙ ap (λ (k : Bool). head (if k then es ++ e ∷ [] else es) (es ++ e ∷ []) b.state.synced s) (not_twice (is_last (spans_for s xs))))

        first : Sent (window_of b.state s) (window_of next.state s) (one ∷ [])
        first =
            subst (λ (k : Down). Sent (window_of b.state s) (window_of (puts x.session k b).state s) (one ∷ [])) (sym message)
            (subst (λ (k : ℕ). Sent (window_of b.state s) (window_of (puts k one b).state s) (one ∷ [])) (sym (eqb-true x.session s its)) (puts_here s one b))
    go false other rest =
        subst (λ (w : Window Down). Sent w (window_of (drops (length es) xs next).state s) (drops_of es (es ++ e ∷ []) b.state.synced s (spans_for s xs)))
        (puts_there x.session s m b (λ same. false≢true (sym other ∙ eq-eqb x.session s (sym same)))) rest

-- The Drops of an entry, as they come to a session.
pub drops_sent : (es : List Entry) (e : Entry) (s : ℕ) (xs : List Noted) (b : Sofar) → b.state.order ≡ es ++ e ∷ []
    → Sent (window_of b.state s) (window_of (drops (length es) xs b).state s) (drops_of es (es ++ e ∷ []) b.state.synced s (spans_for s xs))
drops_sent es e s [] b order = sent_none (window_of b.state s) (window_of b.state s) refl
drops_sent es e s (x ∷ xs) b order = one_sent es e s x xs b order (λ same. drops_sent es e s xs (drops_one (length es) x xs b) same)
