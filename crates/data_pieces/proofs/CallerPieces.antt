-- The Hellos that wait, as one comes in place of an older one and as sessions open for them.
use Rattle.std.proofs.Common.{◌≡◌, ◌≢◌, ℕ, Bool, true, false, ◌||◌, ◌==◌, not, cond, List, [], ◌∷◌, ◌++◌, map, filter, Option, Some, None, is_some, refl, sym, ◌∙◌, ap, subst, eqb}
use Rattle.std.specs.List.{AllByRecursion, find, list_any}
use Rattle.std.specs.Option.{option_map}
use Rattle.std.proofs.lemmas.Bool.{eqb-true, eq-eqb, ne_eqb, false≢true}
use Rattle.std.proofs.lemmas.List.{map-append}
use Rattle.plain_orders.specs.declared.entry.Entry.{Entry}
use Rattle.plain_orders.specs.Entries.{live_session}
use Rattle.data_rules.specs.declared.rows.Caller.{Caller}
use Rattle.data_rules.specs.declared.rows.Conn.{Conn}
use Rattle.data_rules.specs.declared.rows.Role.TheVariants.{Bound, New, Waiting}
use Rattle.data_rules.specs.Conns.{is_conn, is_other_caller, role_in, with_role_if}
use Rattle.data_rules.specs.Callers.{caller_conn, is_caller}
use Rattle.cluster_invariant.specs.Ends.{app_of_caller, is_caller_on}
use Rattle.cluster_invariant.specs.Words.{all_differ, is_same}
use Rattle.cluster_invariant.proofs.AllLists.{all_both, all_follow, all_joined}
use Rattle.cluster_invariant.proofs.ConnRoles.{dropped, other_stays}
use Rattle.cluster_invariant.proofs.PiecesOfCloses.{role_given}
use Rattle.data_pieces.proofs.CallersGo.{CallersOf, WaitsOn, callers_gone, differ_push, differs_all, none_filter, none_has, parts, role_other}
use Rattle.data_pieces.proofs.ConnLists.{role_at}

-- the Hellos without that on this connection, if there is one
abbrev pub dropped_callers : Option ℕ → List Caller → List Caller
dropped_callers None ws = ws
dropped_callers (Some w) ws = filter (is_other_caller w) ws

pub callers_dropped : (o : Option ℕ) (cs : List Conn) (es : List Entry) (ws : List Caller) → CallersOf cs es ws → CallersOf (dropped o cs) es (dropped_callers o ws)
callers_dropped None cs es ws h = h
callers_dropped (Some w) cs es ws h = callers_gone w cs es ws h

-- the connection on which the application server's Hello waits
abbrev pub waits_at : ℕ → List Caller → Option ℕ
waits_at app ws = option_map caller_conn (find (is_caller app) ws)

-- it is for that
pub waiting_role : (app w : ℕ) (cs : List Conn) (es : List Entry) (ws : List Caller) → AllByRecursion (WaitsOn cs es) ws → waits_at app ws ≡ Some w → role_at w cs ≡ Some Waiting
waiting_role app w cs es [] each is = absurd cc
waiting_role app w cs es (c ∷ ws) each is = go (c.app == app) is (waiting_role app w cs es ws each.1)
  where
    here : Some c.conn ≡ Some w → role_at w cs ≡ Some Waiting
    here same = subst (λ (k : ℕ). role_at k cs ≡ Some Waiting) (let its : c.conn ≡ w = cc in its) each.0.0

    go : (b : Bool) → option_map caller_conn (cond b (Some c) (find (is_caller app) ws)) ≡ Some w → (waits_at app ws ≡ Some w → role_at w cs ≡ Some Waiting) → role_at w cs ≡ Some Waiting
    go true at more = here at
    go false at more = more at

-- Without that Hello the application server has none.
none_left : (app : ℕ) (ws : List Caller) → all_differ (map app_of_caller ws) ≡ true → list_any (is_same app) (map app_of_caller (dropped_callers (waits_at app ws) ws)) ≡ false
none_left app ws differ = go (waits_at app ws) refl
  where
    none : (vs : List Caller) → waits_at app vs ≡ None → list_any (is_same app) (map app_of_caller vs) ≡ false
    none [] is = refl
    none (c ∷ vs) is = by (c.app == app) refl is (none vs)
      where
        by : (b : Bool) → (c.app == app) ≡ b → option_map caller_conn (cond b (Some c) (find (is_caller app) vs)) ≡ None → (waits_at app vs ≡ None → list_any (is_same app) (map app_of_caller vs) ≡ false)
            → list_any (is_same app) (map app_of_caller (c ∷ vs)) ≡ false
        by true same at more = absurd cc
        by false other at more = ap (λ (t : Bool). t || list_any (is_same app) (map app_of_caller vs)) (ne_eqb app c.app (λ same. false≢true (sym other ∙ eq-eqb c.app app (sym same)))) ∙ more at

    some : (w : ℕ) (vs : List Caller) → all_differ (map app_of_caller vs) ≡ true → waits_at app vs ≡ Some w → list_any (is_same app) (map app_of_caller (filter (is_other_caller w) vs)) ≡ false
    some w [] apart is = refl
    some w (c ∷ vs) apart is = by (c.app == app) refl is (some w vs (parts c.app (map app_of_caller vs) apart).1)
      where
        found : Some c.conn ≡ Some w → (not (c.conn == w)) ≡ false
        found same = ap not (eq-eqb c.conn w cc)

        keep : (b : Bool) → c.app ≢ app → list_any (is_same app) (map app_of_caller (filter (is_other_caller w) vs)) ≡ false
            → list_any (is_same app) (map app_of_caller (cond b (c ∷ filter (is_other_caller w) vs) (filter (is_other_caller w) vs))) ≡ false
        keep true differs more = ap (λ (t : Bool). t || list_any (is_same app) (map app_of_caller (filter (is_other_caller w) vs))) (ne_eqb app c.app (λ same. differs (sym same))) ∙ more
        keep false differs more = more

        by : (b : Bool) → (c.app == app) ≡ b → option_map caller_conn (cond b (Some c) (find (is_caller app) vs)) ≡ Some w
            → (waits_at app vs ≡ Some w → list_any (is_same app) (map app_of_caller (filter (is_other_caller w) vs)) ≡ false)
            → list_any (is_same app) (map app_of_caller (filter (is_other_caller w) (c ∷ vs))) ≡ false
        by true same at more =
            ap (λ (t : Bool). list_any (is_same app) (map app_of_caller (cond t (c ∷ filter (is_other_caller w) vs) (filter (is_other_caller w) vs)))) (found at)
            ∙ none_filter app_of_caller (is_other_caller w) app vs
            (subst (λ (k : ℕ). list_any (is_same k) (map app_of_caller vs) ≡ false) (eqb-true c.app app same) (parts c.app (map app_of_caller vs) apart).0)
        by false other at more = keep (not (c.conn == w)) (λ same. false≢true (sym other ∙ eq-eqb c.app app same)) (more at)

    go : (o : Option ℕ) → waits_at app ws ≡ o → list_any (is_same app) (map app_of_caller (dropped_callers o ws)) ≡ false
    go None is = none ws is
    go (Some w) is = some w ws differ is

-- a Hello more
pub callers_push : (app conn : ℕ) (cs : List Conn) (es : List Entry) (ws : List Caller) → role_at conn cs ≡ Some New → live_session es app ≡ None → list_any (is_same app) (map app_of_caller ws) ≡ false
    → CallersOf cs es ws → CallersOf (map (with_role_if conn Waiting) cs) es (ws ++ record { conn = conn; app = app } ∷ [])
callers_push app conn cs es ws new free none h = record {
  each = all_joined (WaitsOn (map (with_role_if conn Waiting) cs) es) ws (c ∷ [])
      (all_follow (WaitsOn cs es) (WaitsOn (map (with_role_if conn Waiting) cs) es) (λ x w. (role_other conn x.conn Waiting cs (apart x w.0) ∙ w.0, w.1)) ws h.each)
      ((role_given conn Waiting cs there, free), tt);
  one_each = ap all_differ (map-append app_of_caller ws (c ∷ [])) ∙ differ_push app (map app_of_caller ws) h.one_each none;
  apart = ap all_differ (map-append caller_conn ws (c ∷ [])) ∙ differ_push conn (map caller_conn ws) h.apart (none_has caller_conn conn ws (all_follow (WaitsOn cs es) (λ x. x.conn ≢ conn) (λ x w. apart x w.0) ws h.each));
  all = λ m is. go m (eqb m conn) refl is;
}
  where
    c : Caller
    c = record { conn = conn; app = app }

    apart : (x : Caller) → role_at x.conn cs ≡ Some Waiting → x.conn ≢ conn
    apart x waits same = (let both : Some New ≡ Some Waiting = sym new ∙ ap (λ (k : ℕ). role_at k cs) (sym same) ∙ waits in cc)

    some_role : (o : Option Conn) → option_map role_in o ≡ Some New → is_some o ≡ true
    some_role None is = absurd cc
    some_role (Some x) is = refl

    there : is_some (find (is_conn conn) cs) ≡ true
    there = some_role (find (is_conn conn) cs) new

    last : (m : ℕ) (vs : List Caller) → conn ≡ m → list_any (is_caller_on m) (vs ++ c ∷ []) ≡ true
    last m [] same = ap (λ (b : Bool). b || false) (eq-eqb conn m same)
    last m (x ∷ vs) same = by (x.conn == m) (last m vs same)
      where
        by : (b : Bool) → list_any (is_caller_on m) (vs ++ c ∷ []) ≡ true → (b || list_any (is_caller_on m) (vs ++ c ∷ [])) ≡ true
        by true more = refl
        by false more = more

    longer : (m : ℕ) (vs : List Caller) → list_any (is_caller_on m) vs ≡ true → list_any (is_caller_on m) (vs ++ c ∷ []) ≡ true
    longer m [] is = absurd (false≢true is)
    longer m (x ∷ vs) is = by (x.conn == m) is (longer m vs)
      where
        by : (b : Bool) → (b || list_any (is_caller_on m) vs) ≡ true → (list_any (is_caller_on m) vs ≡ true → list_any (is_caller_on m) (vs ++ c ∷ []) ≡ true) → (b || list_any (is_caller_on m) (vs ++ c ∷ [])) ≡ true
        by true at more = refl
        by false at more = more at

    go : (m : ℕ) (b : Bool) → eqb m conn ≡ b → role_at m (map (with_role_if conn Waiting) cs) ≡ Some Waiting → list_any (is_caller_on m) (ws ++ c ∷ []) ≡ true
    go m true same is = last m ws (sym (eqb-true m conn same))
    go m false other is = longer m ws (h.all m (sym (role_other conn m Waiting cs (λ same. false≢true (sym other ∙ eq-eqb m conn same))) ∙ is))

-- A Hello waits in place of an older one.
pub callers_wait : (app conn : ℕ) (cs : List Conn) (es : List Entry) (ws : List Caller) → role_at conn cs ≡ Some New → live_session es app ≡ None → CallersOf cs es ws
    → CallersOf (map (with_role_if conn Waiting) (dropped (waits_at app ws) cs)) es (dropped_callers (waits_at app ws) ws ++ record { conn = conn; app = app } ∷ [])
callers_wait app conn cs es ws new free h =
    callers_push app conn (dropped (waits_at app ws) cs) es (dropped_callers (waits_at app ws) ws) (still (waits_at app ws) refl) free (none_left app ws h.one_each) (callers_dropped (waits_at app ws) cs es ws h)
  where
    still : (o : Option ℕ) → waits_at app ws ≡ o → role_at conn (dropped o cs) ≡ Some New
    still None is = new
    still (Some w) is =
        ap (option_map role_in) (other_stays cs w conn (λ same. (let waits : role_at w cs ≡ Some Waiting = waiting_role app w cs es ws h.each is in
        let both : Some New ≡ Some Waiting = sym new ∙ ap (λ (k : ℕ). role_at k cs) same ∙ waits in cc))) ∙ new

-- The first Hello is let in, and its session opens.
pub callers_next : (app conn s : ℕ) (cs : List Conn) (es fs : List Entry) (ws : List Caller) → ((a : ℕ) → a ≢ app → live_session es a ≡ None → live_session fs a ≡ None)
    → CallersOf cs es (record { conn = conn; app = app } ∷ ws) → CallersOf (map (with_role_if conn (Bound s)) cs) fs ws
callers_next app conn s cs es fs ws still h = record {
  each = all_follow (λ c. WaitsOn cs es c × ((c.conn ≢ conn) × (c.app ≢ app))) (WaitsOn (map (with_role_if conn (Bound s)) cs) fs)
      (λ c w. (role_other conn c.conn (Bound s) cs w.1.0 ∙ w.0.0, still c.app w.1.1 w.0.1)) ws
      (all_both (WaitsOn cs es) (λ c. (c.conn ≢ conn) × (c.app ≢ app)) ws h.each.1
      (all_both (λ c. c.conn ≢ conn) (λ c. c.app ≢ app) ws (differs_all caller_conn conn ws (parts conn (map caller_conn ws) h.apart).0) (differs_all app_of_caller app ws (parts app (map app_of_caller ws) h.one_each).0)));
  one_each = (parts app (map app_of_caller ws) h.one_each).1;
  apart = (parts conn (map caller_conn ws) h.apart).1;
  all = λ m is. go m (eqb m conn) refl is;
}
  where
    some_role : (o : Option Conn) → option_map role_in o ≡ Some Waiting → is_some o ≡ true
    some_role None is = absurd cc
    some_role (Some x) is = refl

    go : (m : ℕ) (b : Bool) → eqb m conn ≡ b → role_at m (map (with_role_if conn (Bound s)) cs) ≡ Some Waiting → list_any (is_caller_on m) ws ≡ true
    go m true same is =
        absurd (let at : role_at conn (map (with_role_if conn (Bound s)) cs) ≡ Some Waiting = ap (λ (k : ℕ). role_at k (map (with_role_if conn (Bound s)) cs)) (sym (eqb-true m conn same)) ∙ is in
        let given : role_at conn (map (with_role_if conn (Bound s)) cs) ≡ Some (Bound s) = role_given conn (Bound s) cs (some_role (find (is_conn conn) cs) h.each.0.0) in cc)
    go m false other is = by (h.all m (sym (role_other conn m (Bound s) cs (λ same. false≢true (sym other ∙ eq-eqb m conn same))) ∙ is))
      where
        by : (conn == m || list_any (is_caller_on m) ws) ≡ true → list_any (is_caller_on m) ws ≡ true
        by some = sym (ap (λ (b : Bool). b || list_any (is_caller_on m) ws) (ne_eqb conn m (λ same. false≢true (sym other ∙ eq-eqb m conn (sym same))))) ∙ some
