-- A connection that is for something else, among those of a data server, where others go or it changes again.
use Rattle.std.proofs.Common.{◌≡◌, ◌≢◌, ℕ, Bool, true, false, not, cond, ◌==◌, if◌then◌else◌, List, [], ◌∷◌, map, filter, Option, Some, None, is_some}
use Rattle.std.proofs.Common.{option_map, refl, sym, ◌∙◌, ap}
use Rattle.std.specs.List.{find}
use Rattle.std.proofs.lemmas.Bool.{eq-eqb, eqb-true, false≢true}
use Rattle.data_rules.specs.declared.rows.Conn.{Conn}
use Rattle.data_rules.specs.declared.rows.Role.{Role}
use Rattle.data_rules.specs.declared.rows.Role.TheVariants.{New, Waiting, Bound}
use Rattle.data_rules.specs.Conns.{is_conn, is_other_conn, role_in, with_role_if}
use Rattle.data_rules.specs.Puts.{is_bound_to, number_of}
use Rattle.cluster_invariant.specs.Words.{all_differ}
use Rattle.cluster_invariant.proofs.ConnRoles.{bound_role}
use Rattle.dials_server.proofs.ClosedNodes.{other_bound, still_unbound}

-- one that is for something is there
pub found_for : (r : Role) (o : Option Conn) → option_map role_in o ≡ Some r → is_some o ≡ true
found_for r None none = absurd (cc (none))
found_for r (Some c) some = refl

-- the later change counts
pub role_twice : (conn : ℕ) (r q : Role) (cs : List Conn) → map (with_role_if conn r) (map (with_role_if conn q) cs) ≡ map (with_role_if conn r) cs
role_twice conn r q [] = refl
role_twice conn r q (c ∷ cs) =
    ap (λ (d : Conn). d ∷ map (with_role_if conn r) (map (with_role_if conn q) cs)) (go (c.number == conn) refl)
    ∙ ap (λ (ds : List Conn). with_role_if conn r c ∷ ds) (role_twice conn r q cs)
  where
    go : (b : Bool) → (c.number == conn) ≡ b → with_role_if conn r (if b then record c { role = q } else c) ≡ with_role_if conn r c
    go true same =
        ap (λ (t : Bool). if t then record c { role = r } else record c { role = q }) same
        ∙ sym (ap (λ (t : Bool). if t then record c { role = r } else c) same)
    go false other = refl

-- it doesn't matter whether another goes before
pub role_filtered : (conn old : ℕ) (r : Role) (cs : List Conn)
    → filter (is_other_conn old) (map (with_role_if conn r) cs) ≡ map (with_role_if conn r) (filter (is_other_conn old) cs)
role_filtered conn old r [] = refl
role_filtered conn old r (c ∷ cs) =
    ap (λ (b : Bool). cond b (with_role_if conn r c ∷ filter (is_other_conn old) (map (with_role_if conn r) cs))
    (filter (is_other_conn old) (map (with_role_if conn r) cs))) (number (c.number == conn))
    ∙ go (is_other_conn old c) (role_filtered conn old r cs)
  where
    number : (b : Bool) → is_other_conn old (if b then record c { role = r } else c) ≡ is_other_conn old c
    number true = refl
    number false = refl

    go : (b : Bool) → filter (is_other_conn old) (map (with_role_if conn r) cs) ≡ map (with_role_if conn r) (filter (is_other_conn old) cs)
        → cond b (with_role_if conn r c ∷ filter (is_other_conn old) (map (with_role_if conn r) cs)) (filter (is_other_conn old) (map (with_role_if conn r) cs))
        ≡ map (with_role_if conn r) (cond b (c ∷ filter (is_other_conn old) cs) (filter (is_other_conn old) cs))
    go true more = ap (λ (ds : List Conn). with_role_if conn r c ∷ ds) more
    go false more = more

-- and what it was for goes with it
pub role_dropped : (conn : ℕ) (r : Role) (cs : List Conn) → filter (is_other_conn conn) (map (with_role_if conn r) cs) ≡ filter (is_other_conn conn) cs
role_dropped conn r [] = refl
role_dropped conn r (c ∷ cs) = go (c.number == conn) refl (role_dropped conn r cs)
  where
    go : (b : Bool) → (c.number == conn) ≡ b → filter (is_other_conn conn) (map (with_role_if conn r) cs) ≡ filter (is_other_conn conn) cs
        → cond (is_other_conn conn (if b then record c { role = r } else c))
        ((if b then record c { role = r } else c) ∷ filter (is_other_conn conn) (map (with_role_if conn r) cs))
        (filter (is_other_conn conn) (map (with_role_if conn r) cs))
        ≡ cond (not b) (c ∷ filter (is_other_conn conn) cs) (filter (is_other_conn conn) cs)
    go true same more =
        ap (λ (t : Bool). cond (not t) (record c { role = r } ∷ filter (is_other_conn conn) (map (with_role_if conn r) cs))
        (filter (is_other_conn conn) (map (with_role_if conn r) cs))) same
        ∙ more
    go false other more =
        ap (λ (t : Bool). cond (not t) (c ∷ filter (is_other_conn conn) (map (with_role_if conn r) cs))
        (filter (is_other_conn conn) (map (with_role_if conn r) cs))) other
        ∙ ap (λ (ds : List Conn). c ∷ ds) more

-- the connections of sessions are where they were
abbrev pub SameBounds : ℕ → List Conn → Type 0
SameBounds conn cs =
    (s : ℕ) → option_map number_of (find (is_bound_to s) (map (with_role_if conn Waiting) cs)) ≡ option_map number_of (find (is_bound_to s) cs)

-- A new connection that waits is no session's.
pub waits_unbound : (conn : ℕ) (cs : List Conn) → all_differ (map number_of cs) ≡ true → option_map role_in (find (is_conn conn) cs) ≡ Some New
    → SameBounds conn cs
waits_unbound conn cs differ new s = go (option_map number_of (find (is_bound_to s) cs)) refl
  where
    go : (o : Option ℕ) → option_map number_of (find (is_bound_to s) cs) ≡ o
        → option_map number_of (find (is_bound_to s) (map (with_role_if conn Waiting) cs)) ≡ o
    go None its = still_unbound conn Waiting s cs refl its
    go (Some k) its = other_bound conn Waiting s k cs refl apart its
      where
        apart : k ≢ conn
        apart same =
            (let both : ◌≡◌ {A = Option Role} (Some New) (Some (Bound s))
            = sym new ∙ ap (λ (i : ℕ). option_map role_in (find (is_conn i) cs)) (sym same) ∙ bound_role s cs k differ its in absurd cc)

-- a connection that is a session's now, where the session had none
pub bound_given : (s conn : ℕ) (cs : List Conn) → is_some (find (is_conn conn) cs) ≡ true → option_map number_of (find (is_bound_to s) cs) ≡ None
    → option_map number_of (find (is_bound_to s) (map (with_role_if conn (Bound s)) cs)) ≡ Some conn
bound_given s conn [] there none = absurd (false≢true there)
bound_given s conn (c ∷ cs) there none = go (c.number == conn) refl (is_bound_to s c) refl there none (bound_given s conn cs)
  where
    go : (b : Bool) → (c.number == conn) ≡ b → (t : Bool) → is_bound_to s c ≡ t → is_some (cond b (Some c) (find (is_conn conn) cs)) ≡ true
        → option_map number_of (cond t (Some c) (find (is_bound_to s) cs)) ≡ None
        → (is_some (find (is_conn conn) cs) ≡ true → option_map number_of (find (is_bound_to s) cs) ≡ None
        → option_map number_of (find (is_bound_to s) (map (with_role_if conn (Bound s)) cs)) ≡ Some conn)
        → option_map number_of (cond (is_bound_to s (if b then record c { role = Bound s } else c)) (Some (if b then record c { role = Bound s } else c))
        (find (is_bound_to s) (map (with_role_if conn (Bound s)) cs))) ≡ Some conn
    go b same true bound there none more = absurd (cc (none))
    go true same false bound there none more =
        ap (λ (t : Bool). option_map number_of (cond t (Some (record c { role = Bound s })) (find (is_bound_to s) (map (with_role_if conn (Bound s)) cs))))
        (eq-eqb s s refl)
        ∙ ap (λ (i : ℕ). Some i) (eqb-true c.number conn same)
    go false other false bound there none more =
        ap (λ (t : Bool). option_map number_of (cond t (Some c) (find (is_bound_to s) (map (with_role_if conn (Bound s)) cs)))) bound ∙ more there none
