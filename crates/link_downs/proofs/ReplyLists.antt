-- The replies that wait on one connection, and what is known of them; and frames of a session among which there is no Normal or no Reset.
use Rattle.std.proofs.Common.{◌≡◌, ◌≢◌, ◌⊎◌, inl, inr, ℕ, Bool, true, false, cond, if◌then◌else◌, List, [], ◌∷◌, ◌++◌, drop, zero, suc, ◌+◌, filter, Option, Some, None, refl, sym, ◌∙◌, ap, subst, ◌==◌}
use Rattle.std.specs.Prelude.{◌&&◌, ◌||◌, not, nat_lt}
use Rattle.std.specs.List.{AllByRecursion, flat_map, list_all, list_any}
use Rattle.std.proofs.lemmas.Bool.{and_parts, eq-eqb, eqb-true, false≢true, ne_eqb, or_parts, true≢false}
use Rattle.plain_orders.specs.declared.entry.Entry.{Entry}
use Rattle.ecp_messages.specs.declared.down.Down.{Down}
use Rattle.ecp_messages.specs.declared.down.Down.TheVariants as down
use Rattle.ecp_messages.specs.declared.down.DownFrame.{DownFrame}
use Rattle.end_words.specs.Windows.{numbered_from}
use Rattle.data_rules.specs.declared.rows.Reply.{Reply}
use Rattle.data_rules.specs.declared.rows.Says.{Says}
use Rattle.data_rules.specs.declared.rows.Says.TheVariants.{NewWelcome, EpochWelcome, ResetOf, GrantOf, AnswerOf}
use Rattle.data_rules.specs.Puts.{says_on}
use Rattle.cluster_invariant.specs.Link.{EndsWith, ResetIs, fits_down, is_normal_frame, is_of_session}
use Rattle.cluster_invariant.specs.Waiting.{conns_in, conns_of}
use Rattle.cluster_invariant.specs.Words.{IsFront, all_differ, is_normal_down, is_reset_down, is_reset_frame, is_same, numbered_behind, numbered_downs}
use Rattle.link_downs.proofs.OffConn.{listed}
use Rattle.link_downs.proofs.OnConn.{waiting_on, waits_on}

-- replies

none_among : (q : ℕ) (rs : List Reply) → list_any (is_same q) (flat_map conns_in rs) ≡ false → waiting_on q rs ≡ []
none_among q [] none = refl
none_among q (r ∷ rs) none = go r.says none (none_among q rs)
  where
    other : (conn : ℕ) → (q == conn || list_any (is_same q) (flat_map conns_in rs)) ≡ false → ((conn == q) ≡ false) × (list_any (is_same q) (flat_map conns_in rs) ≡ false)
    other conn is = by (q == conn) refl is
      where
        by : (b : Bool) → (q == conn) ≡ b → (b || list_any (is_same q) (flat_map conns_in rs)) ≡ false → ((conn == q) ≡ false) × (list_any (is_same q) (flat_map conns_in rs) ≡ false)
        by true same at = absurd (true≢false at)
        by false apart at = (ne_eqb conn q (λ same. false≢true (sym apart ∙ eq-eqb q conn (sym same))), at)

    go : (w : Says) → list_any (is_same q) (conns_of w ++ flat_map conns_in rs) ≡ false → (list_any (is_same q) (flat_map conns_in rs) ≡ false → waiting_on q rs ≡ [])
        → cond (says_on q w) (r ∷ waiting_on q rs) (waiting_on q rs) ≡ []
    go (NewWelcome conn session) is more = ap (λ (b : Bool). cond b (r ∷ waiting_on q rs) (waiting_on q rs)) (other conn is).0 ∙ more (other conn is).1
    go (EpochWelcome conn session kept) is more = ap (λ (b : Bool). cond b (r ∷ waiting_on q rs) (waiting_on q rs)) (other conn is).0 ∙ more (other conn is).1
    go (ResetOf conn session place) is more = ap (λ (b : Bool). cond b (r ∷ waiting_on q rs) (waiting_on q rs)) (other conn is).0 ∙ more (other conn is).1
    go (GrantOf session ticket number) is more = more is
    go (AnswerOf session about job number place sum) is more = more is

-- at most one waits on it
pub one_waits : (q : ℕ) (rs : List Reply) → all_differ (flat_map conns_in rs) ≡ true → (ws : Option Reply) × (waiting_on q rs ≡ listed ws)
one_waits q [] differ = (None, refl)
one_waits q (r ∷ rs) differ = go r.says differ (one_waits q rs)
  where
    parts : (x y : Bool) → (not x && y) ≡ true → (x ≡ false) × (y ≡ true)
    parts true y is = absurd (false≢true is)
    parts false y is = (refl, is)

    on : (conn : ℕ) → all_differ (conn ∷ flat_map conns_in rs) ≡ true → (all_differ (flat_map conns_in rs) ≡ true → (ws : Option Reply) × (waiting_on q rs ≡ listed ws))
        → (ws : Option Reply) × (cond (conn == q) (r ∷ waiting_on q rs) (waiting_on q rs) ≡ listed ws)
    on conn is more = by (conn == q) refl
      where
        two : (list_any (is_same conn) (flat_map conns_in rs) ≡ false) × (all_differ (flat_map conns_in rs) ≡ true)
        two = parts (list_any (is_same conn) (flat_map conns_in rs)) (all_differ (flat_map conns_in rs)) is

        by : (b : Bool) → (conn == q) ≡ b → (ws : Option Reply) × (cond b (r ∷ waiting_on q rs) (waiting_on q rs) ≡ listed ws)
        by true same =
            (Some r, ap (λ (l : List Reply). r ∷ l) (none_among q rs (subst (λ (k : ℕ). list_any (is_same k) (flat_map conns_in rs) ≡ false) (eqb-true conn q same) two.0)))
        by false apart = more two.1

    go : (w : Says) → all_differ (conns_of w ++ flat_map conns_in rs) ≡ true → (all_differ (flat_map conns_in rs) ≡ true → (ws : Option Reply) × (waiting_on q rs ≡ listed ws))
        → (ws : Option Reply) × (cond (says_on q w) (r ∷ waiting_on q rs) (waiting_on q rs) ≡ listed ws)
    go (NewWelcome conn session) is more = on conn is more
    go (EpochWelcome conn session kept) is more = on conn is more
    go (ResetOf conn session place) is more = on conn is more
    go (GrantOf session ticket number) is more = more is
    go (AnswerOf session about job number place sum) is more = more is

-- what is known of each is known of those
pub known_waits : (P : Reply → Type 0) (q : ℕ) (rs : List Reply) → AllByRecursion P rs → AllByRecursion (λ r. P r × (waits_on q r ≡ true)) (waiting_on q rs)
known_waits P q [] all = tt
known_waits P q (r ∷ rs) all = go (waits_on q r) refl (known_waits P q rs all.1)
  where
    go : (b : Bool) → waits_on q r ≡ b → AllByRecursion (λ z. P z × (waits_on q z ≡ true)) (waiting_on q rs)
        → AllByRecursion (λ z. P z × (waits_on q z ≡ true)) (cond b (r ∷ waiting_on q rs) (waiting_on q rs))
    go true on more = ((all.0, on), more)
    go false out more = more

-- none waits where none may
pub none_may : (P : Reply → Type 0) (q : ℕ) (rs : List Reply) → ((r : Reply) → P r → waits_on q r ≡ true → ⊥) → AllByRecursion P rs → waiting_on q rs ≡ []
none_may P q rs bad all = go (waiting_on q rs) (known_waits P q rs all)
  where
    go : (ws : List Reply) → AllByRecursion (λ z. P z × (waits_on q z ≡ true)) ws → ws ≡ []
    go [] is = refl
    go (r ∷ more) is = absurd (bad r is.0.0 is.0.1)

-- no Normal

seq_some : (f : DownFrame) → is_normal_frame f ≡ true → is_of_session f ≡ true → (f.seq == 0) ≡ false
seq_some f normal of_session = go f.message (f.seq == 0) refl normal of_session
  where
    zero_no : (n : ℕ) → (n == 0) ≡ true → nat_lt 0 n ≡ true → ⊥
    zero_no n is less = false≢true (sym (ap (nat_lt 0) (eqb-true n 0 is)) ∙ less)

    go : (m : Down) (b : Bool) → (f.seq == 0) ≡ b → is_normal_down m ≡ true → fits_down m f.seq ≡ true → b ≡ false
    go (down.Welcome session epoch kept front taken) b is n fits = absurd (false≢true n)
    go (down.Reset session at) b is n fits = absurd (false≢true n)
    go (down.Block front block) b is n fits = absurd (false≢true n)
    go (down.Drop front lo hi) b is n fits = absurd (false≢true n)
    go (down.Ack front) b is n fits = absurd (false≢true n)
    go (down.Grant front ticket at) b is n fits = absurd (false≢true n)
    go (down.Answer front about job number at sum) b is n fits = absurd (false≢true n)
    go (down.Normal front) true is n fits = absurd (zero_no f.seq is fits)
    go (down.Normal front) false is n fits = refl
    go down.Bare b is n fits = absurd (false≢true n)

any_numbers : (fs : List DownFrame) → list_all is_of_session fs ≡ true → list_any is_normal_frame fs ≡ true → list_any (λ (p : ℕ × Down). is_normal_down p.1) (numbered_downs fs) ≡ true
any_numbers [] all is = absurd (false≢true is)
any_numbers (f ∷ fs) all is = go (is_normal_frame f) refl is (any_numbers fs (and_parts (is_of_session f) (list_all is_of_session fs) all).1)
  where
    or_more : (x y : Bool) → y ≡ true → (x || y) ≡ true
    or_more true y at = refl
    or_more false y at = at

    go : (b : Bool) → is_normal_frame f ≡ b → (b || list_any is_normal_frame fs) ≡ true → (list_any is_normal_frame fs ≡ true → list_any (λ (p : ℕ × Down). is_normal_down p.1) (numbered_downs fs) ≡ true)
        → list_any (λ (p : ℕ × Down). is_normal_down p.1) (numbered_downs (f ∷ fs)) ≡ true
    go true normal at more =
        ap (λ (b : Bool). list_any (λ (p : ℕ × Down). is_normal_down p.1) (if b then numbered_downs fs else (f.seq, f.message) ∷ numbered_downs fs))
        (seq_some f normal (and_parts (is_of_session f) (list_all is_of_session fs) all).0)
        ∙ ap (λ (b : Bool). b || list_any (λ (p : ℕ × Down). is_normal_down p.1) (numbered_downs fs)) normal
    go false other at more = by (f.seq == 0)
      where
        by : (b : Bool) → list_any (λ (p : ℕ × Down). is_normal_down p.1) (if b then numbered_downs fs else (f.seq, f.message) ∷ numbered_downs fs) ≡ true
        by true = more at
        by false = or_more (is_normal_down f.message) (list_any (λ (p : ℕ × Down). is_normal_down p.1) (numbered_downs fs)) (more at)

-- where none was put none is on its way
pub no_normal : (fs : List DownFrame) (n : ℕ) (put : List Down) → list_all is_of_session fs ≡ true → IsFront (numbered_downs fs) (numbered_behind n put) → list_any is_normal_down put ≡ false
    → list_any is_normal_frame fs ≡ false
no_normal fs n put all front none = go (list_any is_normal_frame fs) refl
  where
    numbers : (k : ℕ) (ms : List Down) → list_any (λ (p : ℕ × Down). is_normal_down p.1) (numbered_from k ms) ≡ list_any is_normal_down ms
    numbers k [] = refl
    numbers k (m ∷ ms) = ap (λ (b : Bool). is_normal_down m || b) (numbers (k + 1) ms)

    dropped : (k : ℕ) (ms : List Down) → list_any is_normal_down ms ≡ false → list_any is_normal_down (drop k ms) ≡ false
    dropped zero ms is = is
    dropped (suc k) [] is = refl
    dropped (suc k) (m ∷ ms) is = dropped k ms (or_parts (is_normal_down m) (list_any is_normal_down ms) is).1

    first : (xs ys : List (ℕ × Down)) → list_any (λ (p : ℕ × Down). is_normal_down p.1) xs ≡ true → list_any (λ (p : ℕ × Down). is_normal_down p.1) (xs ++ ys) ≡ true
    first [] ys is = absurd (false≢true is)
    first (x ∷ xs) ys is = by (is_normal_down x.1) is (first xs ys)
      where
        by : (b : Bool) → (b || list_any (λ (p : ℕ × Down). is_normal_down p.1) xs) ≡ true
            → (list_any (λ (p : ℕ × Down). is_normal_down p.1) xs ≡ true → list_any (λ (p : ℕ × Down). is_normal_down p.1) (xs ++ ys) ≡ true)
            → (b || list_any (λ (p : ℕ × Down). is_normal_down p.1) (xs ++ ys)) ≡ true
        by true at more = refl
        by false at more = more at

    go : (b : Bool) → list_any is_normal_frame fs ≡ b → b ≡ false
    go false is = refl
    go true is =
        sym (first (numbered_downs fs) front.0 (any_numbers fs all is)) ∙ ap (list_any (λ (p : ℕ × Down). is_normal_down p.1)) (sym front.1)
        ∙ numbers n (drop n put) ∙ dropped n put none

-- no Reset

pub no_reset_dropped : (n : ℕ) (fs : List DownFrame) → list_any is_reset_frame fs ≡ false → list_any is_reset_frame (drop n fs) ≡ false
no_reset_dropped zero fs is = is
no_reset_dropped (suc n) [] is = refl
no_reset_dropped (suc n) (f ∷ fs) is = no_reset_dropped n fs (or_parts (is_reset_frame f) (list_any is_reset_frame fs) is).1

pub no_reset_behind : (pre fs : List DownFrame) → list_any is_reset_frame (pre ++ fs) ≡ false → list_any is_reset_frame fs ≡ false
no_reset_behind [] fs is = is
no_reset_behind (f ∷ pre) fs is = no_reset_behind pre fs (or_parts (is_reset_frame f) (list_any is_reset_frame (pre ++ fs)) is).1

-- then nothing ends them
pub ends_none : (may : Bool) (es : List Entry) (stays s : ℕ) (its ends : List DownFrame) → list_any is_reset_frame (its ++ ends) ≡ false → EndsWith may es stays s ends → ends ≡ []
ends_none may es stays s its [] none is = refl
ends_none may es stays s its (f ∷ []) none is = absurd (true≢false (sym (reset_said f.message is.1) ∙ (or_parts (is_reset_frame f) false (no_reset_behind its (f ∷ []) none)).0))
  where
    reset_said : (m : Down) → ResetIs es stays s m → is_reset_down m ≡ true
    reset_said (down.Welcome session epoch kept front taken) at = absurd at
    reset_said (down.Reset session place) at = refl
    reset_said (down.Block front block) at = absurd at
    reset_said (down.Drop front lo hi) at = absurd at
    reset_said (down.Ack front) at = absurd at
    reset_said (down.Grant front ticket place) at = absurd at
    reset_said (down.Answer front about job number place sum) at = absurd at
    reset_said (down.Normal front) at = absurd at
    reset_said down.Bare at = absurd at
ends_none may es stays s its (f ∷ g ∷ fs) none is = absurd is
