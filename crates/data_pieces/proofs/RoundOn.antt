-- A round that isn't over, in the midst of a step that ends none.
use Rattle.std.proofs.Common.{◌≡◌, ◌≤◌, ◌||◌, ◌&&◌, ℕ, zero, suc, Bool, true, false, not, List, [], ◌∷◌, ◌++◌, length, drop, Option, Some, None, is_some, option_map, refl, sym, ◌∙◌, ap, subst, arith}
use Rattle.std.specs.List.{list_any}
use Rattle.std.proofs.lemmas.Bool.{false≢true}
use Rattle.std.proofs.lemmas.List.{length-append}
use Rattle.plain_orders.specs.declared.causes.ShutCause.{ShutCause}
use Rattle.plain_orders.specs.declared.causes.ShutCause.TheVariants as causes
use Rattle.plain_orders.specs.declared.entry.Entry.{Entry}
use Rattle.plain_orders.specs.declared.entry.Entry.TheVariants.{Closed, Commit, Epoch, Opened, Rollback, Update}
use Rattle.plain_orders.specs.Sessions.{is_close}
use Rattle.recovery_round.specs.RoundWords.{Round, is_over, without}
use Rattle.data_rules.specs.DataState.{DataState}
use Rattle.data_rules.specs.declared.data_in.DataIn.{DataIn}
use Rattle.data_rules.specs.declared.data_in.DataIn.TheVariants as data_in
use Rattle.data_rules.specs.Opening.{is_round_over}
use Rattle.cluster_invariant.specs.Ends.{is_done}
use Rattle.data_pieces.proofs.AwaitedSessions.{is_quiet}
use Rattle.data_pieces.proofs.ClosePieces.{closed_callers}

-- an input that may end a round
abbrev pub ends_round : DataIn → Bool
ends_round (data_in.Frame conn f) = is_done f.message
ends_round (data_in.Connected conn) = false
ends_round (data_in.Broken conn) = false
ends_round data_in.Tick = false
ends_round (data_in.Saved upto) = true

-- the round isn't over, and Hellos wait only in it
pub record RoundOn (n : DataState) : Type 0 where
  pub over : is_round_over n n.round ≡ false
  pub calls : n.round ≡ None → n.callers ≡ []
  pub within : n.synced ≤ length n.order

-- the same by what it rests on
abbrev over_in : ℕ → List Entry → Option Round → Bool
over_in n es None = false
over_in n es (Some r) = is_over r && not (list_any is_close (drop n es))

over_is : (d : DataState) (o : Option Round) → is_round_over d o ≡ over_in d.synced d.order o
over_is d None = refl
over_is d (Some r) = refl

over_same : (n k : DataState) → k.synced ≡ n.synced → k.order ≡ n.order → k.round ≡ n.round → is_round_over k k.round ≡ is_round_over n n.round
over_same n k synced order round =
    over_is k k.round
    ∙ ap (λ (m : ℕ). over_in m k.order k.round) synced
    ∙ ap (λ (es : List Entry). over_in n.synced es k.round) order
    ∙ ap (over_in n.synced n.order) round
    ∙ sym (over_is n n.round)

-- where neither the order nor the round changes
pub on_beside : (n k : DataState) → k.synced ≡ n.synced → k.order ≡ n.order → k.round ≡ n.round → (n.callers ≡ [] → k.callers ≡ []) → RoundOn n → RoundOn k
on_beside n k synced order round callers h = record {
  over = over_same n k synced order round ∙ h.over;
  calls = λ none. callers (h.calls (sym round ∙ none));
  within = subst (λ (m : ℕ). m ≤ length k.order) (sym synced) (subst (λ (es : List Entry). n.synced ≤ length es) (sym order) h.within);
}

-- in a round more Hellos may wait
pub on_in_round : (n k : DataState) → k.synced ≡ n.synced → k.order ≡ n.order → k.round ≡ n.round → is_some n.round ≡ true → RoundOn n → RoundOn k
on_in_round n k synced order round some h = record {
  over = over_same n k synced order round ∙ h.over;
  calls = λ none. absurd (false≢true (sym (ap is_some (sym round ∙ none)) ∙ some));
  within = subst (λ (m : ℕ). m ≤ length k.order) (sym synced) (subst (λ (es : List Entry). n.synced ≤ length es) (sym order) h.within);
}

-- without a round
pub on_none : (n : DataState) → n.round ≡ None → n.callers ≡ [] → n.synced ≤ length n.order → RoundOn n
on_none n none calls within = record { over = ap (is_round_over n) none; calls = λ is. calls; within = within }

or_none : (b : Bool) → (b || false) ≡ (false || b)
or_none true = refl
or_none false = refl

any_push : (es : List Entry) (e : Entry) → list_any is_close (es ++ e ∷ []) ≡ (list_any is_close es || is_close e)
any_push [] e = or_none (is_close e)
any_push (x ∷ es) e = go (is_close x) (any_push es e)
  where
    go : (b : Bool) → list_any is_close (es ++ e ∷ []) ≡ (list_any is_close es || is_close e) → (b || list_any is_close (es ++ e ∷ [])) ≡ ((b || list_any is_close es) || is_close e)
    go true more = refl
    go false more = more

-- the Closes behind a place, with an entry more
close_more : (n : ℕ) (es : List Entry) (e : Entry) → n ≤ length es → list_any is_close (drop n (es ++ e ∷ [])) ≡ (list_any is_close (drop n es) || is_close e)
close_more zero es e low = any_push es e
close_more (suc n) [] e low = absurd (omega (arith, low))
close_more (suc n) (x ∷ es) e low = close_more n es e (omega (arith, low))

or_true : (b : Bool) → (b || true) ≡ true
or_true true = refl
or_true false = refl

or_false : (b : Bool) → (b || false) ≡ b
or_false true = refl
or_false false = refl

and_false : (b : Bool) → (b && false) ≡ false
and_false true = refl
and_false false = refl

quiet_close : (e : Entry) → is_quiet e ≡ true → is_close e ≡ false
quiet_close (Epoch number) is = refl
quiet_close (Opened session app) is = refl
quiet_close (Closed session) is = absurd (false≢true is)
quiet_close (Update session w job txn op) is = refl
quiet_close (Commit session w job txn) is = refl
quiet_close (Rollback session w job txn) is = refl

longer : (n : ℕ) (es : List Entry) (e : Entry) → n ≤ length es → n ≤ length (es ++ e ∷ [])
longer n es e low = omega (arith, low, length-append es (e ∷ []))

-- an item more
pub on_enters : (n k : DataState) (e : Entry) → is_quiet e ≡ true → k.synced ≡ n.synced → k.order ≡ n.order ++ e ∷ [] → k.round ≡ n.round → k.callers ≡ n.callers → RoundOn n → RoundOn k
on_enters n k e quiet synced order round callers h = record {
  over = over_is k k.round ∙ ap (λ (m : ℕ). over_in m k.order k.round) synced ∙ ap (λ (es : List Entry). over_in n.synced es k.round) order ∙ ap (over_in n.synced (n.order ++ e ∷ [])) round ∙ go n.round ∙ sym (over_is n n.round) ∙ h.over;
  calls = λ none. callers ∙ h.calls (sym round ∙ none);
  within = subst (λ (m : ℕ). m ≤ length k.order) (sym synced) (subst (λ (es : List Entry). n.synced ≤ length es) (sym order) (longer n.synced n.order e h.within));
}
  where
    same : list_any is_close (drop n.synced (n.order ++ e ∷ [])) ≡ list_any is_close (drop n.synced n.order)
    same = close_more n.synced n.order e h.within ∙ ap (λ (b : Bool). list_any is_close (drop n.synced n.order) || b) (quiet_close e quiet) ∙ or_false (list_any is_close (drop n.synced n.order))

    go : (o : Option Round) → over_in n.synced (n.order ++ e ∷ []) o ≡ over_in n.synced n.order o
    go None = refl
    go (Some r) = ap (λ (b : Bool). is_over r && not b) same

-- a Close more
pub on_closes : (n k : DataState) (s : ℕ) (cause : ShutCause) (o : Option ℕ) → k.synced ≡ n.synced → k.order ≡ n.order ++ Closed s ∷ [] → k.round ≡ option_map (λ r. without r s) n.round
    → k.callers ≡ closed_callers cause o n.callers → RoundOn n → RoundOn k
on_closes n k s cause o synced order round callers h = record {
  over = over_is k k.round ∙ ap (λ (m : ℕ). over_in m k.order k.round) synced ∙ ap (λ (es : List Entry). over_in n.synced es k.round) order ∙ go k.round;
  calls = λ none. callers ∙ ap (closed_callers cause o) (h.calls (was n.round (sym round ∙ none))) ∙ nobody cause o;
  within = subst (λ (m : ℕ). m ≤ length k.order) (sym synced) (subst (λ (es : List Entry). n.synced ≤ length es) (sym order) (longer n.synced n.order (Closed s) h.within));
}
  where
    some : list_any is_close (drop n.synced (n.order ++ Closed s ∷ [])) ≡ true
    some = close_more n.synced n.order (Closed s) h.within ∙ or_true (list_any is_close (drop n.synced n.order))

    go : (q : Option Round) → over_in n.synced (n.order ++ Closed s ∷ []) q ≡ false
    go None = refl
    go (Some r) = ap (λ (b : Bool). is_over r && not b) some ∙ and_false (is_over r)

    was : (q : Option Round) → option_map (λ r. without r s) q ≡ None → q ≡ None
    was None none = refl
    was (Some r) none = absurd cc

    nobody : (c : ShutCause) (q : Option ℕ) → closed_callers c q [] ≡ []
    nobody (causes.Trouble time) q = refl
    nobody causes.Replaced None = refl
    nobody causes.Replaced (Some conn) = refl
    nobody (causes.Round time) q = refl
