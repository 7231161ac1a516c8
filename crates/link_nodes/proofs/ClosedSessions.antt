-- A session that was closed isn't live, and nothing more is put to it.
use Rattle.std.proofs.Common.{◌≡◌, ◌≤◌, ◌⊎◌, inl, inr, ℕ, ◌||◌, ◌&&◌, not, Bool, true, false, List, [], ◌∷◌, ◌++◌, length, drop, filter, append-nil, refl, sym, ◌∙◌, ap, subst, arith, if◌then◌else◌}
use Rattle.std.specs.Prelude.{◌==◌}
use Rattle.std.specs.List.{list_any}
use Rattle.std.proofs.lemmas.Bool.{eq-eqb, false≢true, ne_eqb, or_parts}
use Rattle.std.proofs.lemmas.List.{length-append}
use Rattle.plain_orders.specs.declared.entry.Entry.{Entry}
use Rattle.plain_orders.specs.declared.entry.Entry.TheVariants.{Epoch, Opened, Closed, Update, Commit, Rollback}
use Rattle.plain_orders.specs.Entries.{closes, live}
use Rattle.plain_orders.specs.Ordered.{IsOrdered, MayFollow}
use Rattle.plain_orders.proofs.EntryLemmas.{live-push}
use Rattle.plain_orders.proofs.OrderLemmas.{ordered_induction}
use Rattle.ecp_messages.specs.declared.down.Down.{Down}
use Rattle.end_words.specs.Windows.{Window, fresh, sent}
use Rattle.data_rules.specs.DataState.{DataState}
use Rattle.data_rules.specs.declared.data_outs.DataOuts.{DataOuts}
use Rattle.data_rules.specs.Puts.{window_of}
use Rattle.cluster_runs.specs.Lanes.{downs_given, drops_until, given_since, is_closed_by, notes_of}
use Rattle.cluster_runs.specs.WireDrops.{Notes, drops_of, is_met, with_entry}
use Rattle.plain_orders.specs.Fold.{fold}
use Rattle.plain_orders.specs.Spans.{entry_spans}
use Rattle.subscript_keys.specs.declared.span.Span.{Span}
use Rattle.cluster_runs.specs.Machine.{Site}
use Rattle.cluster_runs.specs.Sent.{Lane}
use Rattle.cluster_invariant.specs.Link.{NodeWindows, is_window_of}
use Rattle.cluster_invariant.specs.Words.{IsFront, is_normal_down}
use Rattle.link_kept.proofs.ServesServer.{live_within}
use Rattle.link_kept.proofs.WindowLists.{none_there}
use Rattle.link_nodes.proofs.RepliesAlong.{closes_it}
use Rattle.link_kept.proofs.WindowsGo.{still_live}
use Rattle.link_kept.proofs.WindowsServer.{LanesGrow}

-- what stands in a list with one more stood there, or is that
any_pushed : (p : Entry → Bool) (es : List Entry) (e : Entry) → list_any p (es ++ e ∷ []) ≡ true → (list_any p es ≡ true) ⊎ (p e ≡ true)
any_pushed p [] e is = go (p e) refl is
  where
    go : (b : Bool) → p e ≡ b → (b || false) ≡ true → (false ≡ true) ⊎ (p e ≡ true)
    go true its at = inr its
    go false its at = absurd (false≢true at)
any_pushed p (x ∷ es) e is = go (p x) is (any_pushed p es e)
  where
    go : (b : Bool) → (b || list_any p (es ++ e ∷ [])) ≡ true → (list_any p (es ++ e ∷ []) ≡ true → (list_any p es ≡ true) ⊎ (p e ≡ true)) → ((b || list_any p es) ≡ true) ⊎ (p e ≡ true)
    go true at more = inl refl
    go false at more = more at

-- so is what stands in front of a list in it
pub any_front : (p : Entry → Bool) (es fs : List Entry) → list_any p es ≡ true → list_any p (es ++ fs) ≡ true
any_front p [] fs is = absurd (false≢true is)
any_front p (x ∷ es) fs is = go (p x) is (any_front p es fs)
  where
    go : (b : Bool) → (b || list_any p es) ≡ true → (list_any p es ≡ true → list_any p (es ++ fs) ≡ true) → (b || list_any p (es ++ fs)) ≡ true
    go true at more = refl
    go false at more = more at

-- one that isn't live stays so, if it isn't to come
dead_after : (es : List Entry) (e : Entry) (s : ℕ) → MayFollow es e → live es s ≡ false → s ≤ length es → live (es ++ e ∷ []) s ≡ false
dead_after es (Epoch number) s may dead low = still_live es (Epoch number) s tt ∙ dead
dead_after es (Opened session app) s may dead low =
    live-push es (Opened session app) s
    ∙ ap (λ (b : Bool). if b then true else live es s) (ne_eqb session s (λ same. absurd (omega (arith, same, low, may.is_position)))) ∙ dead
dead_after es (Closed session) s may dead low = live-push es (Closed session) s ∙ go (session == s)
  where
    go : (b : Bool) → (if b then false else live es s) ≡ false
    go true = refl
    go false = dead
dead_after es (Update session w job txn op) s may dead low = still_live es (Update session w job txn op) s tt ∙ dead
dead_after es (Commit session w job txn) s may dead low = still_live es (Commit session w job txn) s tt ∙ dead
dead_after es (Rollback session w job txn) s may dead low = still_live es (Rollback session w job txn) s tt ∙ dead

-- what was closed was opened, and isn't live
abbrev IsGone : List Entry → ℕ → Type 0
IsGone es s = (live es s ≡ false) × (s ≤ length es)

closed_gone : (es : List Entry) → IsOrdered es → (s : ℕ) → list_any (closes s) es ≡ true → IsGone es s
closed_gone es ordered = ordered_induction (λ (xs : List Entry). (s : ℕ) → list_any (closes s) xs ≡ true → IsGone xs s) (λ s is. absurd (false≢true is)) more es ordered
  where
    more : (xs : List Entry) (e : Entry) → IsOrdered xs → ((s : ℕ) → list_any (closes s) xs ≡ true → IsGone xs s) → MayFollow xs e → (s : ℕ) → list_any (closes s) (xs ++ e ∷ []) ≡ true → IsGone (xs ++ e ∷ []) s
    more xs e o gone may s is = by (any_pushed (closes s) xs e is)
      where
        longer : length xs ≤ length (xs ++ e ∷ [])
        longer = omega (arith, length-append xs (e ∷ []))

        close : MayFollow xs (Closed s) → IsGone (xs ++ Closed s ∷ []) s
        close it = (
          live-push xs (Closed s) s ∙ ap (λ (b : Bool). if b then false else live xs s) (eq-eqb s s refl),
          omega (arith, live_within xs o s it.is_live, length-append xs (Closed s ∷ [])),
        )

        by : (list_any (closes s) xs ≡ true) ⊎ (closes s e ≡ true) → IsGone (xs ++ e ∷ []) s
        by (inl before) = (dead_after xs e s may (gone s before).0 (gone s before).1, omega (arith, (gone s before).1, longer))
        by (inr here) = subst (λ (y : Entry). IsGone (xs ++ y ∷ []) s) (sym (closes_it s e here)) (close (subst (MayFollow xs) (closes_it s e here) may))

pub closed_dead : (es : List Entry) → IsOrdered es → (s : ℕ) → list_any (closes s) es ≡ true → live es s ≡ false
closed_dead es ordered s is = (closed_gone es ordered s is).0

-- nothing is put to one that wasn't live and isn't

no_window : (x : Site) (n : DataState) (s : ℕ) → NodeWindows x n → live n.order s ≡ false → window_of n s ≡ fresh
no_window x n s windows dead = go (list_any (is_window_of s) n.windows) refl
  where
    go : (b : Bool) → list_any (is_window_of s) n.windows ≡ b → window_of n s ≡ fresh
    go true there = absurd (false≢true (sym dead ∙ windows.lives s there))
    go false there = none_there n.windows s there

pub same_down : (x y : Site) (old new : DataState) (outs : DataOuts) → LanesGrow old new outs x y → NodeWindows x old → NodeWindows y new → IsOrdered old.order → IsOrdered new.order → IsFront old.order new.order
    → (s : ℕ) → list_any (closes s) old.order ≡ true → (y.lane_at s y.past).down ≡ (x.lane_at s x.past).down
same_down x y old new outs lanes before after ordered ordered_new front s closed =
    ap (λ (z : Lane). z.down) (ap (y.lane_at s) lanes.past ∙ lanes.here s)
    ∙ ap (λ (ms : List Down). (x.lane_at s x.past).down ++ ms) nothing ∙ append-nil (x.lane_at s x.past).down
  where
    dead : live old.order s ≡ false
    dead = closed_dead old.order ordered s closed

    dead_now : live new.order s ≡ false
    dead_now =
        closed_dead new.order ordered_new s
        (subst (λ (es : List Entry). list_any (closes s) es ≡ true) (sym front.1) (any_front (closes s) old.order front.0 closed))

    nothing : downs_given (is_closed_by old new s) old new s ≡ []
    nothing =
        ap (λ (b : Bool). downs_given (b && not (live new.order s)) old new s) dead
        ∙ ap (λ (u : Window Down). given_since (sent u) (window_of new s)) (no_window x old s before dead)
        ∙ ap (λ (u : Window Down). given_since (sent (fresh {M = Down})) u) (no_window y new s after dead_now)

-- what is put to a session that a step closes are Drops

none_joined : (p : Down → Bool) (xs ys : List Down) → list_any p xs ≡ false → list_any p ys ≡ false → list_any p (xs ++ ys) ≡ false
none_joined p [] ys a b = b
none_joined p (x ∷ xs) ys a b =
    let split : (p x ≡ false) × (list_any p xs ≡ false) = or_parts (p x) (list_any p xs) a in
    ap (λ (c : Bool). c || list_any p (xs ++ ys)) split.0 ∙ none_joined p xs ys split.1 b

drops_plain : (before with_it : List Entry) (synced s : ℕ) (xs : List Span) → list_any is_normal_down (drops_of before with_it synced s xs) ≡ false
drops_plain before with_it synced s [] = refl
drops_plain before with_it synced s (x ∷ xs) = drops_plain before with_it synced s xs

until_plain : (s : ℕ) (t : Notes) (es : List Entry) → list_any is_normal_down (drops_until s t es) ≡ false
until_plain s t [] = refl
until_plain s t (e ∷ es) = go (closes s e) (until_plain s (record (with_entry t s e) { due = [] }) es)
  where
    go : (b : Bool) → list_any is_normal_down (drops_until s (record (with_entry t s e) { due = [] }) es) ≡ false
        → list_any is_normal_down (if b then [] else (with_entry t s e).due ++ drops_until s (record (with_entry t s e) { due = [] }) es) ≡ false
    go true more = refl
    go false more =
        none_joined is_normal_down (with_entry t s e).due (drops_until s (record (with_entry t s e) { due = [] }) es)
        (drops_plain t.order (t.order ++ e ∷ []) t.synced s (filter (is_met (entry_spans (fold t.order) e)) t.noted)) more

-- so no Normal was put to it, if none was before
pub tick_untold : (old new : DataState) (outs : DataOuts) (x y : Site) (s : ℕ) → LanesGrow old new outs x y → live old.order s ≡ true → live new.order s ≡ false
    → list_any is_normal_down (x.lane_at s x.past).down ≡ false → list_any is_normal_down (y.lane_at s y.past).down ≡ false
tick_untold old new outs x y s lanes lives dead none =
    ap (λ (z : Lane). list_any is_normal_down z.down) (ap (y.lane_at s) lanes.past ∙ lanes.here s)
    ∙ none_joined is_normal_down (x.lane_at s x.past).down (downs_given (is_closed_by old new s) old new s) none
    (ap (λ (b : Bool). list_any is_normal_down (downs_given b old new s)) (ap (λ (b : Bool). b && not (live new.order s)) lives ∙ ap not dead)
    ∙ until_plain s (notes_of old s) (drop (length old.order) new.order))
