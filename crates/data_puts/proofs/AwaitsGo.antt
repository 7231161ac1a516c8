-- The sessions that a round awaits are those of which no Done was taken, by what their windows count, in the midst of a step.
use Rattle.std.proofs.Common.{◌≡◌, ◌≢◌, ◌⊎◌, inl, inr, ◌+◌, ◌&&◌, ◌||◌, ◌==◌, ℕ, zero, suc, Bool, true, false, not, cond, List, [], ◌∷◌, ◌++◌, take, drop, filter, Option, Some, None, option_map, refl, sym, ◌∙◌, ap, subst, arith}
use Rattle.std.specs.Prelude.{IfSome}
use Rattle.std.specs.List.{list_any}
use Rattle.std.proofs.lemmas.Bool.{eq-eqb, ne_eqb, false≢true}
use Rattle.plain_orders.specs.declared.entry.Entry.{Entry}
use Rattle.plain_orders.specs.declared.entry.Entry.TheVariants.{Closed}
use Rattle.plain_orders.specs.Entries.{live}
use Rattle.plain_orders.specs.Sessions.{live_sessions, opened_sessions}
use Rattle.ecp_messages.specs.declared.up.Up.{Up}
use Rattle.ecp_messages.specs.declared.up.Up.TheVariants.{Done}
use Rattle.end_words.specs.Windows.{Window}
use Rattle.ecp_messages.specs.declared.down.Down.{Down}
use Rattle.recovery_round.specs.RoundWords.{Round, is_another, without}
use Rattle.data_rules.specs.DataState.{SessionWindow}
use Rattle.data_rules.specs.Puts.{set_window, window_in}
use Rattle.cluster_runs.specs.Sent.{Lane}
use Rattle.cluster_invariant.specs.Ends.{is_done}
use Rattle.link_kept.proofs.WindowLists.{set_elsewhere, set_here}
use Rattle.link_kept.proofs.WindowsGo.{same_or}
use Rattle.data_pieces.proofs.AwaitedSessions.{both_filter, closed_sessions, is_quiet, quiet_sessions, same_filter}

-- no Done is among the first messages
abbrev pub undone_at : List Up → ℕ → Bool
undone_at ups n = not (list_any is_done (take n ups))

-- none is among those of a session that its window counts
abbrev pub undone_in : (ℕ → Lane) → List SessionWindow → ℕ → Bool
undone_in lane_of ws s = undone_at (lane_of s).up (window_in ws s).taken

-- what a round awaits
abbrev pub Awaits : (ℕ → Lane) → Option Round → List SessionWindow → List Entry → Type 0
Awaits lane_of o ws es = IfSome o (λ r. r.awaited ≡ filter (undone_in lane_of ws) (live_sessions es))

-- tests that agree on what another lets pass
pub same_passed : (f g p : ℕ → Bool) → ((n : ℕ) → p n ≡ true → g n ≡ f n) → (ns : List ℕ) → filter g (filter p ns) ≡ filter f (filter p ns)
same_passed f g p same [] = refl
same_passed f g p same (n ∷ ns) = go (p n) refl (same_passed f g p same ns)
  where
    go : (b : Bool) → p n ≡ b → filter g (filter p ns) ≡ filter f (filter p ns) → filter g (cond b (n ∷ filter p ns) (filter p ns)) ≡ filter f (cond b (n ∷ filter p ns) (filter p ns))
    go true is more =
        ap (λ (t : Bool). cond t (n ∷ filter g (filter p ns)) (filter g (filter p ns))) (same n is)
        ∙ ap (λ (xs : List ℕ). cond (f n) (n ∷ xs) xs) more
    go false is more = more

-- the windows of live sessions count as they did
pub awaits_live : (lane_of : ℕ → Lane) (o : Option Round) (ws vs : List SessionWindow) (es : List Entry) → ((s : ℕ) → live es s ≡ true → undone_in lane_of vs s ≡ undone_in lane_of ws s)
    → Awaits lane_of o ws es → Awaits lane_of o vs es
awaits_live lane_of None ws vs es same h = tt
awaits_live lane_of (Some r) ws vs es same h = h ∙ sym (same_passed (undone_in lane_of ws) (undone_in lane_of vs) (live es) same (opened_sessions es))

pub awaits_taken : (lane_of : ℕ → Lane) (o : Option Round) (ws vs : List SessionWindow) (es : List Entry) → ((s : ℕ) → (window_in vs s).taken ≡ (window_in ws s).taken)
    → Awaits lane_of o ws es → Awaits lane_of o vs es
awaits_taken lane_of o ws vs es same h = awaits_live lane_of o ws vs es (λ s is. ap (undone_at (lane_of s).up) (same s)) h

-- an entry that opens and closes nothing
pub awaits_quiet : (lane_of : ℕ → Lane) (o : Option Round) (ws : List SessionWindow) (es : List Entry) (e : Entry) → is_quiet e ≡ true → Awaits lane_of o ws es → Awaits lane_of o ws (es ++ e ∷ [])
awaits_quiet lane_of None ws es e quiet h = tt
awaits_quiet lane_of (Some r) ws es e quiet h = h ∙ sym (ap (filter (undone_in lane_of ws)) (quiet_sessions es e quiet))

-- a Close
pub awaits_close : (lane_of : ℕ → Lane) (o : Option Round) (ws vs : List SessionWindow) (es : List Entry) (s : ℕ) → ((q : ℕ) → q ≢ s → (window_in vs q).taken ≡ (window_in ws q).taken)
    → Awaits lane_of o ws es → Awaits lane_of (option_map (λ r. without r s) o) vs (es ++ Closed s ∷ [])
awaits_close lane_of None ws vs es s same h = tt
awaits_close lane_of (Some r) ws vs es s same h =
    ap (filter (is_another s)) h
    ∙ both_filter (is_another s) (undone_in lane_of ws) (live_sessions es)
    ∙ same_filter (λ n. undone_in lane_of vs n && is_another s n) (λ n. is_another s n && undone_in lane_of ws n) alike (live_sessions es)
    ∙ sym (both_filter (undone_in lane_of vs) (is_another s) (live_sessions es))
    ∙ sym (ap (filter (undone_in lane_of vs)) (closed_sessions es s))
  where
    and_true : (b : Bool) → b ≡ (b && true)
    and_true true = refl
    and_true false = refl

    and_false : (b : Bool) → false ≡ (b && false)
    and_false true = refl
    and_false false = refl

    alike : (n : ℕ) → (is_another s n && undone_in lane_of ws n) ≡ (undone_in lane_of vs n && is_another s n)
    alike n = go (n == s) refl
      where
        go : (b : Bool) → (n == s) ≡ b → (not b && undone_in lane_of ws n) ≡ (undone_in lane_of vs n && not b)
        go true is = and_false (undone_in lane_of vs n)
        go false is = sym (ap (undone_at (lane_of n).up) (same n (λ at. false≢true (sym is ∙ eq-eqb n s at)))) ∙ and_true (undone_in lane_of vs n)

-- a message more

pub take_more : (n : ℕ) (ups : List Up) (m : Up) (rest : List Up) → drop n ups ≡ m ∷ rest → take (n + 1) ups ≡ take n ups ++ m ∷ []
take_more zero ups m rest is = ap (take 1) is
take_more (suc n) [] m rest is = absurd (cc (is))
take_more (suc n) (u ∷ ups) m rest is = ap (λ (k : ℕ). take k (u ∷ ups)) (next n) ∙ ap (λ (xs : List Up). u ∷ xs) (take_more n ups m rest is)
  where
    next : (k : ℕ) → suc k + 1 ≡ suc (k + 1)
    next k = omega arith

any_last : (xs : List Up) (m : Up) → list_any is_done (xs ++ m ∷ []) ≡ (list_any is_done xs || is_done m)
any_last [] m = go (is_done m)
  where
    go : (b : Bool) → (b || false) ≡ (false || b)
    go true = refl
    go false = refl
any_last (x ∷ xs) m = go (is_done x) (any_last xs m)
  where
    go : (b : Bool) → list_any is_done (xs ++ m ∷ []) ≡ (list_any is_done xs || is_done m) → (b || list_any is_done (xs ++ m ∷ [])) ≡ ((b || list_any is_done xs) || is_done m)
    go true more = refl
    go false more = more

pub undone_more : (n : ℕ) (ups : List Up) (m : Up) (rest : List Up) → drop n ups ≡ m ∷ rest → undone_at ups (n + 1) ≡ not (list_any is_done (take n ups) || is_done m)
undone_more n ups m rest is = ap (λ (xs : List Up). not (list_any is_done xs)) (take_more n ups m rest is) ∙ ap not (any_last (take n ups) m)

-- of one session a message more is counted
pub awaits_more : (lane_of : ℕ → Lane) (o : Option Round) (ws : List SessionWindow) (es : List Entry) (s : ℕ) (w : Window Down) (m : Up) (rest : List Up) → w.taken ≡ (window_in ws s).taken + 1
    → drop (window_in ws s).taken (lane_of s).up ≡ m ∷ rest → is_done m ≡ false → Awaits lane_of o ws es → Awaits lane_of o (set_window ws s w) es
awaits_more lane_of o ws es s w m rest counted next other h = awaits_live lane_of o ws (set_window ws s w) es (λ q is. go q (same_or q s)) h
  where
    or_no : (b : Bool) → not (b || false) ≡ not b
    or_no true = refl
    or_no false = refl

    go : (q : ℕ) → (q ≡ s) ⊎ (q ≢ s) → undone_in lane_of (set_window ws s w) q ≡ undone_in lane_of ws q
    go q (inl same) =
        subst (λ (n : ℕ). undone_in lane_of (set_window ws s w) n ≡ undone_in lane_of ws n) (sym same)
        (ap (undone_at (lane_of s).up) (ap (λ (v : Window Down). v.taken) (set_here ws s w) ∙ counted)
        ∙ undone_more (window_in ws s).taken (lane_of s).up m rest next
        ∙ ap (λ (b : Bool). not (list_any is_done (take (window_in ws s).taken (lane_of s).up) || b)) other
        ∙ or_no (list_any is_done (take (window_in ws s).taken (lane_of s).up)))
    go q (inr differs) = ap (λ (v : Window Down). undone_at (lane_of q).up v.taken) (set_elsewhere ws s q w differs)

-- a Done is
pub awaits_done : (lane_of : ℕ → Lane) (o : Option Round) (ws : List SessionWindow) (es : List Entry) (s : ℕ) (w : Window Down) (rest : List Up) → w.taken ≡ (window_in ws s).taken + 1
    → drop (window_in ws s).taken (lane_of s).up ≡ Done ∷ rest → Awaits lane_of o ws es → Awaits lane_of (option_map (λ r. without r s) o) (set_window ws s w) es
awaits_done lane_of None ws es s w rest counted next h = tt
awaits_done lane_of (Some r) ws es s w rest counted next h =
    ap (filter (is_another s)) h
    ∙ both_filter (is_another s) (undone_in lane_of ws) (live_sessions es)
    ∙ same_filter (undone_in lane_of (set_window ws s w)) (λ n. is_another s n && undone_in lane_of ws n) (λ n. alike n (same_or n s)) (live_sessions es)
  where
    or_yes : (b : Bool) → not (b || true) ≡ false
    or_yes true = refl
    or_yes false = refl

    alike : (n : ℕ) → (n ≡ s) ⊎ (n ≢ s) → (is_another s n && undone_in lane_of ws n) ≡ undone_in lane_of (set_window ws s w) n
    alike n (inl same) =
        subst (λ (q : ℕ). (is_another s q && undone_in lane_of ws q) ≡ undone_in lane_of (set_window ws s w) q) (sym same)
        (ap (λ (b : Bool). not b && undone_in lane_of ws s) (eq-eqb s s refl)
        ∙ sym (ap (undone_at (lane_of s).up) (ap (λ (v : Window Down). v.taken) (set_here ws s w) ∙ counted)
        ∙ undone_more (window_in ws s).taken (lane_of s).up Done rest next
        ∙ or_yes (list_any is_done (take (window_in ws s).taken (lane_of s).up))))
    alike n (inr differs) =
        ap (λ (b : Bool). not b && undone_in lane_of ws n) (ne_eqb n s differs)
        ∙ sym (ap (λ (v : Window Down). undone_at (lane_of n).up v.taken) (set_elsewhere ws s n w differs))
