-- The connections that replies wait for, as replies come and go.
use Rattle.std.proofs.Common.{◌≡◌, ◌≢◌, ℕ, ◌||◌, ◌&&◌, not, Bool, true, false, cond, List, [], ◌∷◌, ◌++◌, filter, append-nil, refl, sym, ◌∙◌, ap}
use Rattle.std.specs.Prelude.{◌==◌}
use Rattle.std.specs.List.{AllByRecursion, flat_map, list_any}
use Rattle.std.proofs.lemmas.Grind.{flat_map-append}
use Rattle.std.proofs.lemmas.Bool.{eq-eqb, ne_eqb, or_parts, true≢false}
use Rattle.data_rules.specs.declared.rows.Conn.{Conn}
use Rattle.data_rules.specs.declared.rows.Reply.{Reply}
use Rattle.data_rules.specs.declared.rows.Says.{Says}
use Rattle.data_rules.specs.declared.rows.Says.TheVariants.{NewWelcome, EpochWelcome, ResetOf, GrantOf, AnswerOf}
use Rattle.data_rules.specs.Puts.{is_reply_elsewhere, says_on}
use Rattle.cluster_invariant.specs.Waiting.{conns_in, conns_of}
use Rattle.cluster_invariant.specs.Words.{all_differ, is_same}
use Rattle.data_pieces.proofs.CallersGo.{differ_push, parts}
use Rattle.data_pieces.proofs.ConnLists.{role_at}
use Rattle.data_puts.proofs.Spoken.{RepliesOn, is_for_session}

-- some message is for this connection
abbrev pub is_for : ℕ → Says → Bool
is_for conn says = list_any (is_same conn) (conns_of says)

-- a reply waits for this connection
abbrev pub waits_for : ℕ → List Reply → Bool
waits_for conn rs = list_any (is_same conn) (flat_map conns_in rs)

-- at most one for each connection
abbrev pub one_each : List Reply → Bool
one_each rs = all_differ (flat_map conns_in rs)

any_joined : (p : ℕ → Bool) (xs ys : List ℕ) → list_any p (xs ++ ys) ≡ (list_any p xs || list_any p ys)
any_joined p [] ys = refl
any_joined p (x ∷ xs) ys = go (p x) (any_joined p xs ys)
  where
    go : (b : Bool) → list_any p (xs ++ ys) ≡ (list_any p xs || list_any p ys) → (b || list_any p (xs ++ ys)) ≡ ((b || list_any p xs) || list_any p ys)
    go true more = refl
    go false more = more

pub waits_cons : (conn : ℕ) (r : Reply) (rs : List Reply) → waits_for conn (r ∷ rs) ≡ (is_for conn r.says || waits_for conn rs)
waits_cons conn r rs = any_joined (is_same conn) (conns_in r) (flat_map conns_in rs)

both_false : (a b : Bool) → a ≡ false → b ≡ false → (a || b) ≡ false
both_false true b is also = is
both_false false b is also = also

pub waits_joined : (conn : ℕ) (xs ys : List Reply) → waits_for conn xs ≡ false → waits_for conn ys ≡ false → waits_for conn (xs ++ ys) ≡ false
waits_joined conn [] ys none also = also
waits_joined conn (r ∷ xs) ys none also =
    waits_cons conn r (xs ++ ys)
    ∙ both_false (is_for conn r.says) (waits_for conn (xs ++ ys)) split.0 (waits_joined conn xs ys split.1 also)
  where
    split : (is_for conn r.says ≡ false) × (waits_for conn xs ≡ false)
    split = or_parts (is_for conn r.says) (waits_for conn xs) (sym (waits_cons conn r xs) ∙ none)

pub waits_parts : (conn : ℕ) (xs ys : List Reply) → waits_for conn (xs ++ ys) ≡ false → (waits_for conn xs ≡ false) × (waits_for conn ys ≡ false)
waits_parts conn [] ys none = (refl, none)
waits_parts conn (r ∷ xs) ys none =
    let split : (is_for conn r.says ≡ false) × (waits_for conn (xs ++ ys) ≡ false) =
    or_parts (is_for conn r.says) (waits_for conn (xs ++ ys)) (sym (waits_cons conn r (xs ++ ys)) ∙ none) in
    let more : (waits_for conn xs ≡ false) × (waits_for conn ys ≡ false) = waits_parts conn xs ys split.1 in
    (waits_cons conn r xs ∙ both_false (is_for conn r.says) (waits_for conn xs) split.0 more.0, more.1)

-- where some go

pub waits_fewer : (conn : ℕ) (p : Reply → Bool) (rs : List Reply) → waits_for conn rs ≡ false → waits_for conn (filter p rs) ≡ false
waits_fewer conn p [] none = none
waits_fewer conn p (r ∷ rs) none = go (p r) (waits_fewer conn p rs)
  where
    split : (is_for conn r.says ≡ false) × (waits_for conn rs ≡ false)
    split = or_parts (is_for conn r.says) (waits_for conn rs) (sym (waits_cons conn r rs) ∙ none)

    go : (b : Bool) → (waits_for conn rs ≡ false → waits_for conn (filter p rs) ≡ false) → waits_for conn (cond b (r ∷ filter p rs) (filter p rs)) ≡ false
    go true more = waits_cons conn r (filter p rs) ∙ both_false (is_for conn r.says) (waits_for conn (filter p rs)) split.0 (more split.1)
    go false more = more split.1

-- a message for a connection is one on it
on_for : (conn : ℕ) (s : Says) → not (says_on conn s) ≡ true → is_for conn s ≡ false
on_for conn (NewWelcome w session) is = ap (λ (b : Bool). b || false) (other conn w is)
  where
    other : (n k : ℕ) → not (k == n) ≡ true → (n == k) ≡ false
    other n k apart = ne_eqb n k (λ same. true≢false (sym apart ∙ ap not (eq-eqb k n (sym same))))
on_for conn (EpochWelcome w session kept) is = ap (λ (b : Bool). b || false) (ne_eqb conn w (λ same. true≢false (sym is ∙ ap not (eq-eqb w conn (sym same)))))
on_for conn (ResetOf w session place) is = ap (λ (b : Bool). b || false) (ne_eqb conn w (λ same. true≢false (sym is ∙ ap not (eq-eqb w conn (sym same)))))
on_for conn (GrantOf session ticket number) is = refl
on_for conn (AnswerOf session about job number place sum) is = refl

-- none waits for one that went
pub waits_gone : (conn : ℕ) (rs : List Reply) → waits_for conn (filter (is_reply_elsewhere (says_on conn)) rs) ≡ false
waits_gone conn [] = refl
waits_gone conn (r ∷ rs) = go (is_reply_elsewhere (says_on conn) r) refl (waits_gone conn rs)
  where
    go : (b : Bool) → is_reply_elsewhere (says_on conn) r ≡ b → waits_for conn (filter (is_reply_elsewhere (says_on conn)) rs) ≡ false
        → waits_for conn (cond b (r ∷ filter (is_reply_elsewhere (says_on conn)) rs) (filter (is_reply_elsewhere (says_on conn)) rs)) ≡ false
    go true stays more =
        waits_cons conn r (filter (is_reply_elsewhere (says_on conn)) rs)
        ∙ both_false (is_for conn r.says) (waits_for conn (filter (is_reply_elsewhere (says_on conn)) rs)) (on_for conn r.says stays) more
    go false goes more = more

-- none waits for a connection that is no session's
pub none_waits : (conn : ℕ) (cs : List Conn) (rs : List Reply) → is_for_session (role_at conn cs) ≡ false → RepliesOn cs rs → waits_for conn rs ≡ false
none_waits conn cs [] other on = refl
none_waits conn cs (r ∷ rs) other on =
    waits_cons conn r rs ∙ both_false (is_for conn r.says) (waits_for conn rs) (apart (conns_in r) on.0) (none_waits conn cs rs other on.1)
  where
    apart : (ns : List ℕ) → AllByRecursion (λ n. is_for_session (role_at n cs) ≡ true) ns → list_any (is_same conn) ns ≡ false
    apart [] all = refl
    apart (n ∷ ns) all =
        both_false (conn == n) (list_any (is_same conn) ns)
        (ne_eqb conn n (λ same. true≢false (sym all.0 ∙ ap (λ (k : ℕ). is_for_session (role_at k cs)) (sym same) ∙ other))) (apart ns all.1)

-- at most one for each

joined_differ : (xs ys : List ℕ) → all_differ xs ≡ true → all_differ ys ≡ true → AllByRecursion (λ n. list_any (is_same n) ys ≡ false) xs → all_differ (xs ++ ys) ≡ true
joined_differ [] ys a b apart = b
joined_differ (x ∷ xs) ys a b apart =
    ap (λ (c : Bool). not c && all_differ (xs ++ ys)) (any_joined (is_same x) xs ys ∙ both_false (list_any (is_same x) xs) (list_any (is_same x) ys) split.0 apart.0)
    ∙ joined_differ xs ys split.1 b apart.1
  where
    split : (list_any (is_same x) xs ≡ false) × (all_differ xs ≡ true)
    split = parts x xs a

differ_parts : (xs ys : List ℕ) → all_differ (xs ++ ys) ≡ true → (all_differ xs ≡ true) × ((all_differ ys ≡ true) × AllByRecursion (λ n. list_any (is_same n) ys ≡ false) xs)
differ_parts [] ys is = (refl, (is, tt))
differ_parts (x ∷ xs) ys is =
    let split : (list_any (is_same x) (xs ++ ys) ≡ false) × (all_differ (xs ++ ys) ≡ true) = parts x (xs ++ ys) is in
    let more : (all_differ xs ≡ true) × ((all_differ ys ≡ true) × AllByRecursion (λ n. list_any (is_same n) ys ≡ false) xs) = differ_parts xs ys split.1 in
    let none : (list_any (is_same x) xs ≡ false) × (list_any (is_same x) ys ≡ false) =
    or_parts (list_any (is_same x) xs) (list_any (is_same x) ys) (sym (any_joined (is_same x) xs ys) ∙ split.0) in
    (ap (λ (c : Bool). not c && all_differ xs) none.0 ∙ more.0, (more.1.0, (none.1, more.1.1)))

-- none of the connections of one reply is another's
apart_fewer : (ns : List ℕ) (p : Reply → Bool) (rs : List Reply) → AllByRecursion (λ n. waits_for n rs ≡ false) ns → AllByRecursion (λ n. waits_for n (filter p rs) ≡ false) ns
apart_fewer [] p rs all = tt
apart_fewer (n ∷ ns) p rs all = (waits_fewer n p rs all.0, apart_fewer ns p rs all.1)

pub one_fewer : (p : Reply → Bool) (rs : List Reply) → one_each rs ≡ true → one_each (filter p rs) ≡ true
one_fewer p [] one = one
one_fewer p (r ∷ rs) one = go (p r) (differ_parts (conns_in r) (flat_map conns_in rs) one) (one_fewer p rs)
  where
    go : (b : Bool) → (all_differ (conns_in r) ≡ true) × ((one_each rs ≡ true) × AllByRecursion (λ n. waits_for n rs ≡ false) (conns_in r))
        → (one_each rs ≡ true → one_each (filter p rs) ≡ true) → one_each (cond b (r ∷ filter p rs) (filter p rs)) ≡ true
    go true split more = joined_differ (conns_in r) (flat_map conns_in (filter p rs)) split.0 (more split.1.0) (apart_fewer (conns_in r) p rs split.1.1)
    go false split more = more split.1.0

-- one more, for a connection that none waits for
pub one_more : (conn : ℕ) (rs : List Reply) (r : Reply) → conns_in r ≡ conn ∷ [] → waits_for conn rs ≡ false → one_each rs ≡ true → one_each (rs ++ r ∷ []) ≡ true
one_more conn rs r its none one = ap all_differ (pushed rs) ∙ differ_push conn (flat_map conns_in rs) one none
  where
    pushed : (xs : List Reply) → flat_map conns_in (xs ++ r ∷ []) ≡ flat_map conns_in xs ++ conn ∷ []
    pushed xs = flat_map-append conns_in xs (r ∷ []) ∙ ap (λ (ns : List ℕ). flat_map conns_in xs ++ ns) (append-nil (conns_in r) ∙ its)

-- one more for none
pub one_beside : (rs : List Reply) (r : Reply) → conns_in r ≡ [] → one_each rs ≡ true → one_each (rs ++ r ∷ []) ≡ true
one_beside rs r its one = ap all_differ (flat_map-append conns_in rs (r ∷ []) ∙ ap (λ (ns : List ℕ). flat_map conns_in rs ++ ns) (append-nil (conns_in r) ∙ its) ∙ append-nil (flat_map conns_in rs)) ∙ one

pub waits_more : (m conn : ℕ) (rs : List Reply) (r : Reply) → conns_in r ≡ conn ∷ [] → m ≢ conn → waits_for m rs ≡ false → waits_for m (rs ++ r ∷ []) ≡ false
waits_more m conn rs r its apart none =
    waits_joined m rs (r ∷ []) none (ap (λ (ns : List ℕ). list_any (is_same m) ns) (append-nil (conns_in r) ∙ its) ∙ ap (λ (b : Bool). b || false) (ne_eqb m conn apart))

pub waits_beside : (m : ℕ) (rs : List Reply) (r : Reply) → conns_in r ≡ [] → waits_for m rs ≡ false → waits_for m (rs ++ r ∷ []) ≡ false
waits_beside m rs r its none = waits_joined m rs (r ∷ []) none (ap (λ (ns : List ℕ). list_any (is_same m) ns) (append-nil (conns_in r) ∙ its))

-- as one leaves, no other waits for its connections
pub one_leaves : (before : List Reply) (r : Reply) (behind : List Reply) → one_each (before ++ r ∷ behind) ≡ true
    → (one_each (before ++ behind) ≡ true) × AllByRecursion (λ n. waits_for n (before ++ behind) ≡ false) (conns_in r)
one_leaves [] r behind one = let split = differ_parts (conns_in r) (flat_map conns_in behind) one in (split.1.0, split.1.1)
one_leaves (q ∷ before) r behind one = all (one_leaves before r behind)
  where
    split : (all_differ (conns_in q) ≡ true) × ((one_each (before ++ r ∷ behind) ≡ true) × AllByRecursion (λ n. waits_for n (before ++ r ∷ behind) ≡ false) (conns_in q))
    split = differ_parts (conns_in q) (flat_map conns_in (before ++ r ∷ behind)) one

    without : (n : ℕ) → waits_for n (before ++ r ∷ behind) ≡ false → (is_for n r.says ≡ false) × (waits_for n (before ++ behind) ≡ false)
    without n none =
        let a : (waits_for n before ≡ false) × (waits_for n (r ∷ behind) ≡ false) = waits_parts n before (r ∷ behind) none in
        let b : (is_for n r.says ≡ false) × (waits_for n behind ≡ false) = or_parts (is_for n r.says) (waits_for n behind) (sym (waits_cons n r behind) ∙ a.1) in
        (b.0, waits_joined n before behind a.0 b.1)

    left : (ns : List ℕ) → AllByRecursion (λ n. waits_for n (before ++ r ∷ behind) ≡ false) ns → AllByRecursion (λ n. waits_for n (before ++ behind) ≡ false) ns
    left [] all = tt
    left (n ∷ ns) all = ((without n all.0).1, left ns all.1)

    -- no connection of the one in front is one of this
    away : AllByRecursion (λ n. is_for n r.says ≡ false) (conns_in q)
    away = go (conns_in q) split.1.1
      where
        go : (ns : List ℕ) → AllByRecursion (λ n. waits_for n (before ++ r ∷ behind) ≡ false) ns → AllByRecursion (λ n. is_for n r.says ≡ false) ns
        go [] all = tt
        go (n ∷ ns) all = ((without n all.0).0, go ns all.1)

    turned : (ns ms : List ℕ) → AllByRecursion (λ n. list_any (is_same n) ms ≡ false) ns → AllByRecursion (λ m. list_any (is_same m) ns ≡ false) ms
    turned ns [] all = tt
    turned ns (m ∷ ms) all = (first ns all, turned ns ms (rest ns all))
      where
        first : (ks : List ℕ) → AllByRecursion (λ n. list_any (is_same n) (m ∷ ms) ≡ false) ks → list_any (is_same m) ks ≡ false
        first [] a = refl
        first (k ∷ ks) a =
            both_false (m == k) (list_any (is_same m) ks)
            (ne_eqb m k (λ same. true≢false (sym (eq-eqb k m (sym same)) ∙ (or_parts (k == m) (list_any (is_same k) ms) a.0).0))) (first ks a.1)

        rest : (ks : List ℕ) → AllByRecursion (λ n. list_any (is_same n) (m ∷ ms) ≡ false) ks → AllByRecursion (λ n. list_any (is_same n) ms ≡ false) ks
        rest [] a = tt
        rest (k ∷ ks) a = ((or_parts (k == m) (list_any (is_same k) ms) a.0).1, rest ks a.1)

    apart : (ms : List ℕ) → AllByRecursion (λ n. waits_for n (before ++ behind) ≡ false) ms → AllByRecursion (λ n. list_any (is_same n) ms ≡ false) (conns_in q)
        → AllByRecursion (λ n. waits_for n (q ∷ (before ++ behind)) ≡ false) ms
    apart ms none all = go ms none (turned (conns_in q) ms all)
      where
        go : (ks : List ℕ) → AllByRecursion (λ n. waits_for n (before ++ behind) ≡ false) ks → AllByRecursion (λ m. list_any (is_same m) (conns_in q) ≡ false) ks
            → AllByRecursion (λ n. waits_for n (q ∷ (before ++ behind)) ≡ false) ks
        go [] a b = tt
        go (k ∷ ks) a b = (waits_cons k q (before ++ behind) ∙ both_false (is_for k q.says) (waits_for k (before ++ behind)) b.0 a.0, go ks a.1 b.1)

    all : (one_each (before ++ r ∷ behind) ≡ true → (one_each (before ++ behind) ≡ true) × AllByRecursion (λ n. waits_for n (before ++ behind) ≡ false) (conns_in r))
        → (one_each (q ∷ (before ++ behind)) ≡ true) × AllByRecursion (λ n. waits_for n (q ∷ (before ++ behind)) ≡ false) (conns_in r)
    all more = (
      joined_differ (conns_in q) (flat_map conns_in (before ++ behind)) split.0 (more split.1.0).0 (left (conns_in q) split.1.1),
      apart (conns_in r) (more split.1.0).1 away,
    )
