-- The Hellos that wait, in the midst of a step: each on a connection that is for it, at most one of an application server without a session.
use Rattle.std.proofs.Common.{◌≡◌, ◌≢◌, ℕ, Bool, true, false, ◌||◌, ◌&&◌, ◌==◌, not, cond, if◌then◌else◌, List, [], ◌∷◌, ◌++◌, map, filter, Option, Some, None, is_some, refl, sym, ◌∙◌, ap, eqb}
use Rattle.std.specs.List.{AllByRecursion, find, list_any}
use Rattle.std.specs.Option.{option_map}
use Rattle.std.proofs.lemmas.Bool.{eqb-true, eq-eqb, ne_eqb, true≢false, false≢true}
use Rattle.plain_orders.specs.declared.entry.Entry.{Entry}
use Rattle.plain_orders.specs.Entries.{live_session}
use Rattle.data_rules.specs.declared.rows.Caller.{Caller}
use Rattle.data_rules.specs.declared.rows.Conn.{Conn}
use Rattle.data_rules.specs.declared.rows.Role.{Role}
use Rattle.data_rules.specs.declared.rows.Role.TheVariants.{New, Waiting}
use Rattle.data_rules.specs.Conns.{is_conn, is_other_caller, is_other_conn, role_in, with_role_if}
use Rattle.data_rules.specs.Callers.{caller_conn}
use Rattle.cluster_invariant.specs.Ends.{app_of_caller, is_caller_on}
use Rattle.cluster_invariant.specs.Words.{all_differ, is_same}
use Rattle.cluster_invariant.proofs.AllLists.{all_both, all_filtered, all_follow, all_passed}
use Rattle.cluster_invariant.proofs.ConnRoles.{other_stays}
use Rattle.cluster_invariant.proofs.PiecesOfCloses.{role_given}
use Rattle.data_pieces.proofs.ConnLists.{role_at}
use Rattle.data_pieces.proofs.ConnPieces.{role_before, role_gone}

-- numbers that differ

pub none_filter : {X : Type 0} (f : X → ℕ) (p : X → Bool) (n : ℕ) (xs : List X) → list_any (is_same n) (map f xs) ≡ false → list_any (is_same n) (map f (filter p xs)) ≡ false
none_filter f p n [] none = refl
none_filter f p n (x ∷ xs) none = go (p x) (n == f x) refl none (none_filter f p n xs)
  where
    go : (b d : Bool) → (n == f x) ≡ d → (d || list_any (is_same n) (map f xs)) ≡ false → (list_any (is_same n) (map f xs) ≡ false → list_any (is_same n) (map f (filter p xs)) ≡ false)
        → list_any (is_same n) (map f (cond b (x ∷ filter p xs) (filter p xs))) ≡ false
    go b true is fails more = absurd (true≢false fails)
    go true false is fails more = ap (λ (t : Bool). t || list_any (is_same n) (map f (filter p xs))) is ∙ more fails
    go false false is fails more = more fails

pub parts : (n : ℕ) (ns : List ℕ) → all_differ (n ∷ ns) ≡ true → (list_any (is_same n) ns ≡ false) × (all_differ ns ≡ true)
parts n ns = go (list_any (is_same n) ns) (all_differ ns)
  where
    go : (x y : Bool) → (not x && y) ≡ true → (x ≡ false) × (y ≡ true)
    go true y is = absurd (false≢true is)
    go false y is = (refl, is)

differ_filter : {X : Type 0} (f : X → ℕ) (p : X → Bool) (xs : List X) → all_differ (map f xs) ≡ true → all_differ (map f (filter p xs)) ≡ true
differ_filter f p [] differ = refl
differ_filter f p (x ∷ xs) differ = go (p x) (differ_filter f p xs (parts (f x) (map f xs) differ).1)
  where
    go : (b : Bool) → all_differ (map f (filter p xs)) ≡ true → all_differ (map f (cond b (x ∷ filter p xs) (filter p xs))) ≡ true
    go true more = ap (λ (t : Bool). not t && all_differ (map f (filter p xs))) (none_filter f p (f x) xs (parts (f x) (map f xs) differ).0) ∙ more
    go false more = more

none_push : (m n : ℕ) (ns : List ℕ) → m ≢ n → list_any (is_same m) ns ≡ false → list_any (is_same m) (ns ++ n ∷ []) ≡ false
none_push m n [] differs none = ap (λ (b : Bool). b || false) (ne_eqb m n differs)
none_push m n (k ∷ ns) differs none = go (m == k) none (none_push m n ns differs)
  where
    go : (b : Bool) → (b || list_any (is_same m) ns) ≡ false → (list_any (is_same m) ns ≡ false → list_any (is_same m) (ns ++ n ∷ []) ≡ false) → (b || list_any (is_same m) (ns ++ n ∷ [])) ≡ false
    go true fails more = absurd (true≢false fails)
    go false fails more = more fails

pub differ_push : (n : ℕ) (ns : List ℕ) → all_differ ns ≡ true → list_any (is_same n) ns ≡ false → all_differ (ns ++ n ∷ []) ≡ true
differ_push n [] differ none = refl
differ_push n (m ∷ ns) differ none = go (n == m) refl none (differ_push n ns (parts m ns differ).1)
  where
    go : (b : Bool) → (n == m) ≡ b → (b || list_any (is_same n) ns) ≡ false → (list_any (is_same n) ns ≡ false → all_differ (ns ++ n ∷ []) ≡ true) → all_differ (m ∷ ns ++ n ∷ []) ≡ true
    go true is fails more = absurd (true≢false fails)
    go false is fails more =
        ap (λ (t : Bool). not t && all_differ (ns ++ n ∷ [])) (none_push m n ns (λ same. false≢true (sym is ∙ eq-eqb n m (sym same))) (parts m ns differ).0) ∙ more fails

pub none_has : {X : Type 0} (f : X → ℕ) (n : ℕ) (xs : List X) → AllByRecursion (λ x. f x ≢ n) xs → list_any (is_same n) (map f xs) ≡ false
none_has f n [] all = refl
none_has f n (x ∷ xs) all = ap (λ (b : Bool). b || list_any (is_same n) (map f xs)) (ne_eqb n (f x) (λ same. all.0 (sym same))) ∙ none_has f n xs all.1

pub differs_all : {X : Type 0} (f : X → ℕ) (n : ℕ) (xs : List X) → list_any (is_same n) (map f xs) ≡ false → AllByRecursion (λ x. f x ≢ n) xs
differs_all f n [] none = tt
differs_all f n (x ∷ xs) none = go (n == f x) refl none (differs_all f n xs)
  where
    go : (b : Bool) → (n == f x) ≡ b → (b || list_any (is_same n) (map f xs)) ≡ false → (list_any (is_same n) (map f xs) ≡ false → AllByRecursion (λ y. f y ≢ n) xs) → AllByRecursion (λ y. f y ≢ n) (x ∷ xs)
    go true is fails more = absurd (true≢false fails)
    go false is fails more = (λ same. false≢true (sym is ∙ eq-eqb n (f x) (sym same)), more fails)

-- roles

-- what a connection is for where one is told what it is for
pub role_other : (conn m : ℕ) (r : Role) (cs : List Conn) → m ≢ conn → role_at m (map (with_role_if conn r) cs) ≡ role_at m cs
role_other conn m r [] differs = refl
role_other conn m r (c ∷ cs) differs = go (c.number == conn) refl (role_other conn m r cs differs)
  where
    skip : (x : Conn) (o : Option Conn) → x.number ≢ m → option_map role_in (cond (x.number == m) (Some x) o) ≡ option_map role_in o
    skip x o apart = ap (λ (b : Bool). option_map role_in (cond b (Some x) o)) (ne_eqb x.number m apart)

    same_else : (b : Bool) (x : Conn) (o q : Option Conn) → option_map role_in o ≡ option_map role_in q → option_map role_in (cond b (Some x) o) ≡ option_map role_in (cond b (Some x) q)
    same_else true x o q is = refl
    same_else false x o q is = is

    go : (b : Bool) → (c.number == conn) ≡ b → role_at m (map (with_role_if conn r) cs) ≡ role_at m cs
        → option_map role_in (cond ((if b then record c { role = r } else c).number == m) (Some (if b then record c { role = r } else c)) (find (is_conn m) (map (with_role_if conn r) cs)))
        ≡ option_map role_in (cond (c.number == m) (Some c) (find (is_conn m) cs))
    go true is more =
        skip (record c { role = r }) (find (is_conn m) (map (with_role_if conn r) cs)) apart ∙ more ∙ sym (skip c (find (is_conn m) cs) apart)
      where
        apart : c.number ≢ m
        apart same = differs (sym same ∙ eqb-true c.number conn is)
    go false is more = same_else (c.number == m) c (find (is_conn m) (map (with_role_if conn r) cs)) (find (is_conn m) cs) more

-- one that comes
pub role_more : (m : ℕ) (c : Conn) (cs : List Conn) (r : Role) → role_at m cs ≡ Some r → role_at m (cs ++ c ∷ []) ≡ Some r
role_more m c [] r is = absurd cc
role_more m c (x ∷ cs) r is = go (x.number == m) is (role_more m c cs r)
  where
    go : (b : Bool) → option_map role_in (cond b (Some x) (find (is_conn m) cs)) ≡ Some r → (role_at m cs ≡ Some r → role_at m (cs ++ c ∷ []) ≡ Some r)
        → option_map role_in (cond b (Some x) (find (is_conn m) (cs ++ c ∷ []))) ≡ Some r
    go true is more = is
    go false is more = more is

pub role_less : (m : ℕ) (c : Conn) (cs : List Conn) (r : Role) → (c.role ≡ r → ⊥) → role_at m (cs ++ c ∷ []) ≡ Some r → role_at m cs ≡ Some r
role_less m c [] r apart is = absurd (go (c.number == m) is)
  where
    go : (b : Bool) → option_map role_in (cond b (Some c) None) ≡ Some r → ⊥
    go true at = apart cc
    go false at = absurd cc
role_less m c (x ∷ cs) r apart is = go (x.number == m) is (role_less m c cs r apart)
  where
    go : (b : Bool) → option_map role_in (cond b (Some x) (find (is_conn m) (cs ++ c ∷ []))) ≡ Some r → (role_at m (cs ++ c ∷ []) ≡ Some r → role_at m cs ≡ Some r)
        → option_map role_in (cond b (Some x) (find (is_conn m) cs)) ≡ Some r
    go true is more = is
    go false is more = more is

-- the Hellos

-- one that waits
abbrev pub WaitsOn : List Conn → List Entry → Caller → Type 0
WaitsOn cs es c = (role_at c.conn cs ≡ Some Waiting) × (live_session es c.app ≡ None)

-- all of them
pub record CallersOf (cs : List Conn) (es : List Entry) (ws : List Caller) : Type 0 where
  pub each : AllByRecursion (WaitsOn cs es) ws
  pub one_each : all_differ (map app_of_caller ws) ≡ true
  pub apart : all_differ (map caller_conn ws) ≡ true
  pub all : (conn : ℕ) → role_at conn cs ≡ Some Waiting → list_any (is_caller_on conn) ws ≡ true

-- a list that grows by no Open
pub callers_order : (cs : List Conn) (es fs : List Entry) (ws : List Caller) → ((app : ℕ) → live_session es app ≡ None → live_session fs app ≡ None) → CallersOf cs es ws → CallersOf cs fs ws
callers_order cs es fs ws still h = record { each = all_follow (WaitsOn cs es) (WaitsOn cs fs) (λ c w. (w.0, still c.app w.1)) ws h.each; one_each = h.one_each; apart = h.apart; all = h.all }

not_same : (b : Bool) → not b ≡ true → b ≡ false
not_same true is = sym is
not_same false is = refl

any_filter : (m conn : ℕ) (ws : List Caller) → m ≢ conn → list_any (is_caller_on m) ws ≡ true → list_any (is_caller_on m) (filter (is_other_caller conn) ws) ≡ true
any_filter m conn [] differs is = is
any_filter m conn (c ∷ ws) differs is = go (c.conn == m) (c.conn == conn) refl refl is (any_filter m conn ws differs)
  where
    go : (b d : Bool) → (c.conn == m) ≡ b → (c.conn == conn) ≡ d → (b || list_any (is_caller_on m) ws) ≡ true → (list_any (is_caller_on m) ws ≡ true → list_any (is_caller_on m) (filter (is_other_caller conn) ws) ≡ true)
        → list_any (is_caller_on m) (cond (not d) (c ∷ filter (is_other_caller conn) ws) (filter (is_other_caller conn) ws)) ≡ true
    go true true at on some more = absurd (differs (sym (eqb-true c.conn m at) ∙ eqb-true c.conn conn on))
    go true false at on some more = ap (λ (t : Bool). t || list_any (is_caller_on m) (filter (is_other_caller conn) ws)) at
    go false true at on some more = more some
    go false false at on some more = ap (λ (t : Bool). t || list_any (is_caller_on m) (filter (is_other_caller conn) ws)) at ∙ more some

-- a connection goes, with its Hello
pub callers_gone : (conn : ℕ) (cs : List Conn) (es : List Entry) (ws : List Caller) → CallersOf cs es ws → CallersOf (filter (is_other_conn conn) cs) es (filter (is_other_caller conn) ws)
callers_gone conn cs es ws h = record {
  each = all_follow (λ c. WaitsOn cs es c × (is_other_caller conn c ≡ true)) (WaitsOn (filter (is_other_conn conn) cs) es)
      (λ c w. (ap (option_map role_in) (other_stays cs conn c.conn (λ same. true≢false (sym (eq-eqb c.conn conn same) ∙ not_same (c.conn == conn) w.1))) ∙ w.0.0, w.0.1)) (filter (is_other_caller conn) ws)
      (all_both (WaitsOn cs es) (λ c. is_other_caller conn c ≡ true) (filter (is_other_caller conn) ws) (all_filtered (WaitsOn cs es) (is_other_caller conn) ws h.each) (all_passed (is_other_caller conn) ws));
  one_each = differ_filter app_of_caller (is_other_caller conn) ws h.one_each;
  apart = differ_filter caller_conn (is_other_caller conn) ws h.apart;
  all = λ m is. any_filter m conn ws (λ same. gone (ap (λ (k : ℕ). role_at k (filter (is_other_conn conn) cs)) (sym same) ∙ is)) (h.all m (role_before conn m Waiting cs is));
}
  where
    gone : role_at conn (filter (is_other_conn conn) cs) ≡ Some Waiting → ⊥
    gone is = (let none : role_at conn (filter (is_other_conn conn) cs) ≡ None = role_gone conn cs in cc)

-- one that was no Hello's is told what it is for, which isn't that either
pub callers_role : (conn : ℕ) (r : Role) (cs : List Conn) (es : List Entry) (ws : List Caller) → (role_at conn cs ≡ Some Waiting → ⊥) → (r ≡ Waiting → ⊥) → is_some (find (is_conn conn) cs) ≡ true
    → CallersOf cs es ws → CallersOf (map (with_role_if conn r) cs) es ws
callers_role conn r cs es ws before later there h = record {
  each = all_follow (WaitsOn cs es) (WaitsOn (map (with_role_if conn r) cs) es) (λ c w. (role_other conn c.conn r cs (λ same. before (ap (λ (k : ℕ). role_at k cs) (sym same) ∙ w.0)) ∙ w.0, w.1)) ws h.each;
  one_each = h.one_each;
  apart = h.apart;
  all = λ m is. go m (eqb m conn) refl is;
}
  where
    go : (m : ℕ) (b : Bool) → eqb m conn ≡ b → role_at m (map (with_role_if conn r) cs) ≡ Some Waiting → list_any (is_caller_on m) ws ≡ true
    go m true same is =
        absurd (later (let at : role_at conn (map (with_role_if conn r) cs) ≡ Some Waiting = ap (λ (k : ℕ). role_at k (map (with_role_if conn r) cs)) (sym (eqb-true m conn same)) ∙ is in
        let given : role_at conn (map (with_role_if conn r) cs) ≡ Some r = role_given conn r cs there in cc))
    go m false other is = h.all m (sym (role_other conn m r cs (λ same. false≢true (sym other ∙ eq-eqb m conn same))) ∙ is)

-- a connection comes
pub callers_conn : (conn : ℕ) (cs : List Conn) (es : List Entry) (ws : List Caller) → CallersOf cs es ws → CallersOf (cs ++ record { number = conn; role = New } ∷ []) es ws
callers_conn conn cs es ws h = record {
  each = all_follow (WaitsOn cs es) (WaitsOn (cs ++ c ∷ []) es) (λ x w. (role_more x.conn c cs Waiting w.0, w.1)) ws h.each;
  one_each = h.one_each;
  apart = h.apart;
  all = λ m is. h.all m (role_less m c cs Waiting (λ same. absurd cc) is);
}
  where
    c : Conn
    c = record { number = conn; role = New }
