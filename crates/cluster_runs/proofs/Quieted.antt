-- Where nothing is undelivered or unsaved, no cause is left that deliveries and saves end.
use Rattle.std.proofs.Common.{zero, suc, ◌≡◌, ◌<◌, ℕ, ◌+◌, Bool, true, false, cond, ◌&&◌, ◌||◌, not, if◌then◌else◌, List, [], ◌∷◌, length, get_or, nat_lt, nat_le, Option, Some, None, refl, sym, ap, ◌∙◌, arith}
use Rattle.std.specs.List.{find, list_any, list_all, range_with_len}
use Rattle.std.proofs.lemmas.Bool.{and_parts, ltb-true, ltb-false, leb-true}
use Rattle.ecp_messages.specs.declared.up.UpFrame.{UpFrame}
use Rattle.ecp_messages.specs.declared.down.DownFrame.{DownFrame}
use Rattle.data_rules.specs.DataState.{DataState}
use Rattle.data_rules.specs.Places.{item_place}
use Rattle.data_rules.specs.declared.rows.Reply.{Reply}
use Rattle.app_rules.specs.Works.{session_of}
use Rattle.cluster_runs.specs.CoresState.{CoresState, Dial, node_at, is_dead, is_dial, dial_at}
use Rattle.cluster_runs.specs.Awaited.{Awaited, awaited_at}
use Rattle.cluster_runs.specs.Awaited.Awaited.{HelloAnswer, RecoverAnswer, FetchAnswer, AskAnswer, SyncAnswer, ItemAnswer, ItemSynced, ItemReached}
use Rattle.cluster_runs.specs.Accounted.{is_among, ups_on, is_undelivered, is_unnoticed, is_unsynced_at, is_gated_by, is_reply_for, is_above_synced, is_entry_above, is_gated, may_stay, has_cause, is_end_accounted, is_app_accounted, has_frames, is_dial_unnoticed, is_unsaved}
use Rattle.cluster_runs.specs.Reached.{IsLivingEnd, the_end, QuietLeaves}

or_parts : (a b : Bool) → (a || b) ≡ false → (a ≡ false) × (b ≡ false)
or_parts true b e = absurd (cc (e))
or_parts false b e = (refl, e)

or_none : (a b : Bool) → a ≡ false → b ≡ false → (a || b) ≡ false
or_none true b e f = absurd (cc (e))
or_none false b e f = f

and_none : (a b : Bool) → a ≡ false → (a && b) ≡ false
and_none true b e = absurd (cc (e))
and_none false b e = refl

not_true : (a : Bool) → not a ≡ true → a ≡ false
not_true true e = absurd (cc (e))
not_true false e = refl

last_of : (a b c d : Bool) → a ≡ false → b ≡ false → c ≡ false → (a || b || c || d) ≡ true → d ≡ true
last_of true b c d e f g h = absurd (cc (e))
last_of false true c d e f g h = absurd (cc (f))
last_of false false true d e f g h = absurd (cc (g))
last_of false false false d e f g h = h

-- a test fails on what was found, if something was
abbrev FoundFails : {X : Type 0} → (X → Bool) → Option X → Type 0
FoundFails test None = Unit {0}
FoundFails test (Some x) = test x ≡ false

found_fails : {X : Type 0} (f test : X → Bool) (xs : List X) → list_any test xs ≡ false → FoundFails test (find f xs)
found_fails f test [] none = tt
found_fails {X} f test (x ∷ xs) none =
    let parts = or_parts (test x) (list_any test xs) none in
    go (f x) parts.0 (found_fails f test xs parts.1)
  where
    go : (t : Bool) → test x ≡ false → FoundFails test (find f xs) → FoundFails test (cond t (Some x) (find f xs))
    go true here rest = here
    go false here rest = rest

at_fails : (test : Option DataState → Bool) (xs : List (Option DataState)) (i : ℕ) → test None ≡ false → list_any test xs ≡ false → test (get_or xs i None) ≡ false
at_fails test [] i no_node none = no_node
at_fails test (x ∷ xs) zero no_node none = (or_parts (test x) (list_any test xs) none).0
at_fails test (x ∷ xs) (suc i) no_node none = at_fails test xs i no_node (or_parts (test x) (list_any test xs) none).1

all_at : (test : ℕ → Bool) (n a k : ℕ) → list_all test (range_with_len a n) ≡ true → k < n → test (a + k) ≡ true
all_at test zero a k all low = absurd (omega (arith, low))
all_at test (suc n) a zero all low =
    let same : a + 0 ≡ a = omega arith in
    ap test same ∙ (and_parts (test a) (list_all test (range_with_len (a + 1) n)) all).0
all_at test (suc n) a (suc k) all low =
    let same : a + suc k ≡ a + 1 + k = omega arith in
    ap test same ∙ all_at test n (a + 1) k (and_parts (test a) (list_all test (range_with_len (a + 1) n)) all).1 (omega (arith, low))

all_first : (test : ℕ → Bool) (n k : ℕ) → list_all test (range_with_len 0 n) ≡ true → k < n → test k ≡ true
all_first test n k all low =
    let same : 0 + k ≡ k = omega arith in
    sym (ap test same) ∙ all_at test n 0 k all low

all_more : {X : Type 0} (test other : X → Bool) (xs : List X) → ((x : X) → test x ≡ true → other x ≡ true) → list_all test xs ≡ true → list_all other xs ≡ true
all_more test other [] more all = refl
all_more test other (x ∷ xs) more all =
    let parts = and_parts (test x) (list_all test xs) all in
    both (other x) (list_all other xs) (more x parts.0) (all_more test other xs more parts.1)
  where
    both : (a b : Bool) → a ≡ true → b ≡ true → (a && b) ≡ true
    both true b e f = f
    both false b e f = absurd (cc (e))

nothing_left : {X : Type 0} (xs : List X) → nat_lt 0 (length xs) ≡ false → xs ≡ []
nothing_left [] e = refl
nothing_left (x ∷ xs) e = absurd (omega (arith, ltb-false 0 (length (x ∷ xs)) e))

not_below : (n : ℕ) → nat_lt n 0 ≡ false
not_below n = go (nat_lt n 0) refl
  where
    go : (t : Bool) → nat_lt n 0 ≡ t → t ≡ false
    go true e = absurd (omega (arith, ltb-true n 0 e))
    go false e = refl

-- among no frames there is none
among_none : (x : Awaited) → is_among [] [] x ≡ false
among_none HelloAnswer = refl
among_none RecoverAnswer = refl
among_none (FetchAnswer place key) = or_none (nat_lt place 0) false (not_below place) refl
among_none (AskAnswer ticket) = refl
among_none (SyncAnswer ticket) = refl
among_none (ItemAnswer w) = refl
among_none (ItemSynced w) = refl
among_none (ItemReached w) = refl

undelivered_none : (c : CoresState) (o : Option Dial) (x : Awaited) → FoundFails (has_frames c) o → is_undelivered c o x ≡ false
undelivered_none c None x e = refl
undelivered_none c (Some l) x e =
    let parts = or_parts (nat_lt 0 (length (ups_on c l))) (nat_lt 0 (length l.down)) e in
    ap (λ (ups : List UpFrame). is_among ups l.down x) (nothing_left (ups_on c l) parts.0)
    ∙ (ap (λ (downs : List DownFrame). is_among [] downs x) (nothing_left l.down parts.1) ∙ among_none x)

unnoticed_none : (o : Option Dial) → FoundFails is_dial_unnoticed o → is_unnoticed o ≡ false
unnoticed_none None e = refl
unnoticed_none (Some l) e = e

module _ (d : DataState) (saved : is_unsaved (Some d) ≡ false) where
  synced_all : (at : ℕ) → is_unsynced_at d at ≡ false
  synced_all at = go (nat_lt d.synced at) refl (nat_le at (length d.order)) refl
    where
      go : (a : Bool) → nat_lt d.synced at ≡ a → (b : Bool) → nat_le at (length d.order) ≡ b → (a && b) ≡ false
      go true e true f = absurd (omega (arith, ltb-true d.synced at e, leb-true at (length d.order) f, ltb-false d.synced (length d.order) saved))
      go true e false f = refl
      go false e b f = refl

  replies_none : (app s : ℕ) (x : Awaited) (rs : List Reply) → list_any (is_gated_by d app s x) rs ≡ false
  replies_none app s x [] = refl
  replies_none app s x (r ∷ rs) =
      or_none (is_gated_by d app s x r) (list_any (is_gated_by d app s x) rs) (and_none (is_unsynced_at d r.at) (is_reply_for d app s x r.says) (synced_all r.at)) (replies_none app s x rs)

  above_none : (o : Option ℕ) → is_above_synced d o ≡ false
  above_none None = refl
  above_none (Some at) = synced_all at

  entry_none : (s : ℕ) (x : Awaited) → is_entry_above d s x ≡ false
  entry_none s HelloAnswer = refl
  entry_none s RecoverAnswer = refl
  entry_none s (FetchAnswer place key) = refl
  entry_none s (AskAnswer ticket) = refl
  entry_none s (SyncAnswer ticket) = refl
  entry_none s (ItemAnswer w) = above_none (item_place d.order s w)
  entry_none s (ItemSynced w) = above_none (item_place d.order s w)
  entry_none s (ItemReached w) = above_none (item_place d.order s w)

gated_none : (o : Option DataState) (app s : ℕ) (x : Awaited) → is_unsaved o ≡ false → is_gated o app s x ≡ false
gated_none None app s x saved = refl
gated_none (Some d) app s x saved = or_none (list_any (is_gated_by d app s x) d.replies) (is_entry_above d s x) (replies_none d saved app s x d.replies) (entry_none d saved s x)

-- an end that lives is accounted for
end_accounted : (c : CoresState) (app server : ℕ) → is_app_accounted c app ≡ true → IsLivingEnd c app server → is_end_accounted c app server ≡ true
end_accounted c app server whole living = all_first (is_end_accounted c app) c.layout.servers server (go (is_dead c app) living.alive whole) living.placed
  where
    go : (t : Bool) → t ≡ false → (if t then true else list_all (is_end_accounted c app) (range_with_len 0 c.layout.servers)) ≡ true
        → list_all (is_end_accounted c app) (range_with_len 0 c.layout.servers) ≡ true
    go true e h = absurd (cc (e))
    go false e h = h

pub quiet_leaves : QuietLeaves
quiet_leaves c app server accounted quiet living =
    let saves = and_parts (not (list_any (has_frames c) c.dials) && not (list_any is_dial_unnoticed c.dials)) (not (list_any is_unsaved c.nodes)) quiet in
    let wires = and_parts (not (list_any (has_frames c) c.dials)) (not (list_any is_dial_unnoticed c.dials)) saves.0 in
    let frames : FoundFails (has_frames c) (dial_at c app server (the_end c app server).dial) =
    found_fails (is_dial app server (the_end c app server).dial) (has_frames c) c.dials (not_true _ wires.0) in
    let ends : FoundFails is_dial_unnoticed (dial_at c app server (the_end c app server).dial) =
    found_fails (is_dial app server (the_end c app server).dial) is_dial_unnoticed c.dials (not_true _ wires.1) in
    let saved : is_unsaved (node_at c server) ≡ false = at_fails is_unsaved c.nodes server refl (not_true _ saves.1) in
    all_more (has_cause c app server (the_end c app server)) (may_stay c server (the_end c app server)) (awaited_at (the_end c app server))
    (λ x h. last_of (is_undelivered c (dial_at c app server (the_end c app server).dial) x) (is_unnoticed (dial_at c app server (the_end c app server).dial))
    (is_gated (node_at c server) app (session_of (the_end c app server)).number x) (may_stay c server (the_end c app server) x)
    (undelivered_none c (dial_at c app server (the_end c app server).dial) x frames) (unnoticed_none (dial_at c app server (the_end c app server).dial) ends)
    (gated_none (node_at c server) app (session_of (the_end c app server)).number x saved) h)
    (end_accounted c app server (all_first (is_app_accounted c) c.layout.apps app accounted living.known) living)
