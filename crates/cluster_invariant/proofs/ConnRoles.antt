-- What the connections of a data server are for: where their numbers differ, the connection of a session is no new one.
use Rattle.std.proofs.Common.{◌≡◌, ◌≢◌, ℕ, Bool, true, false, ◌||◌, ◌&&◌, not, cond, List, [], ◌∷◌, map, filter, Option, Some, None, refl, sym, ◌∙◌, ap}
use Rattle.std.specs.Prelude.{◌==◌}
use Rattle.std.specs.List.{find, list_any}
use Rattle.std.specs.Option.{option_map}
use Rattle.std.proofs.lemmas.Bool.{eqb-true, eq-eqb, ne_eqb, true≢false, false≢true}
use Rattle.data_rules.specs.declared.rows.Conn.{Conn}
use Rattle.data_rules.specs.declared.rows.Role.{Role}
use Rattle.data_rules.specs.declared.rows.Role.TheVariants.{New, Waiting, Bound, Closing}
use Rattle.data_rules.specs.DataState.{DataState}
use Rattle.data_rules.specs.Puts.{Sofar, conn_of, number_of, is_bound_to, is_role_of}
use Rattle.data_rules.specs.Conns.{is_conn, is_other_conn, role_in, role_of, drops_conn}
use Rattle.cluster_invariant.specs.Words.{all_differ, is_same}

-- the role of a live session
role_bound : (s : ℕ) (r : Role) → is_role_of s r ≡ true → r ≡ Bound s
role_bound s New is = absurd (false≢true is)
role_bound s Waiting is = absurd (false≢true is)
role_bound s (Bound session) is = ap Bound (eqb-true session s is)
role_bound s (Closing session) is = absurd (false≢true is)

-- the number of what is found is among the numbers
found_among : (p : Conn → Bool) (cs : List Conn) (n : ℕ) → option_map number_of (find p cs) ≡ Some n → list_any (is_same n) (map number_of cs) ≡ true
found_among p [] n its = absurd cc
found_among p (c ∷ cs) n its = go (p c) its (found_among p cs n)
  where
    later : (b : Bool) → list_any (is_same n) (map number_of cs) ≡ true → (b || list_any (is_same n) (map number_of cs)) ≡ true
    later true more = refl
    later false more = more

    go : (here : Bool) → option_map number_of (cond here (Some c) (find p cs)) ≡ Some n
        → (option_map number_of (find p cs) ≡ Some n → list_any (is_same n) (map number_of cs) ≡ true)
        → (n == c.number || list_any (is_same n) (map number_of cs)) ≡ true
    go true is more = ap (λ (b : Bool). b || list_any (is_same n) (map number_of cs)) (eq-eqb n c.number cc)
    go false is more = later (n == c.number) (more is)

differ_parts : (x y : Bool) → (not x && y) ≡ true → (x ≡ false) × (y ≡ true)
differ_parts true y is = absurd (false≢true is)
differ_parts false y is = (refl, is)

-- The connection of a session is the session's.
pub bound_role : (s : ℕ) (cs : List Conn) (n : ℕ) → all_differ (map number_of cs) ≡ true → option_map number_of (find (is_bound_to s) cs) ≡ Some n
    → option_map role_in (find (is_conn n) cs) ≡ Some (Bound s)
bound_role s [] n differ its = absurd cc
bound_role s (c ∷ cs) n differ its = go (is_bound_to s c) refl its (bound_role s cs n)
  where
    parts : (list_any (is_same c.number) (map number_of cs) ≡ false) × (all_differ (map number_of cs) ≡ true)
    parts = differ_parts (list_any (is_same c.number) (map number_of cs)) (all_differ (map number_of cs)) differ

    other : list_any (is_same n) (map number_of cs) ≡ true → c.number ≢ n
    other among same = true≢false (sym among ∙ ap (λ (k : ℕ). list_any (is_same k) (map number_of cs)) (sym same) ∙ parts.0)

    here : c.number ≡ n → c.role ≡ Bound s → option_map role_in (cond (c.number == n) (Some c) (find (is_conn n) cs)) ≡ Some (Bound s)
    here same its_role = ap (λ (b : Bool). option_map role_in (cond b (Some c) (find (is_conn n) cs))) (eq-eqb c.number n same) ∙ ap Some its_role

    there : c.number ≢ n → option_map role_in (find (is_conn n) cs) ≡ Some (Bound s)
        → option_map role_in (cond (c.number == n) (Some c) (find (is_conn n) cs)) ≡ Some (Bound s)
    there apart more = ap (λ (b : Bool). option_map role_in (cond b (Some c) (find (is_conn n) cs))) (ne_eqb c.number n apart) ∙ more

    go : (bound : Bool) → is_bound_to s c ≡ bound → option_map number_of (cond bound (Some c) (find (is_bound_to s) cs)) ≡ Some n
        → (all_differ (map number_of cs) ≡ true → option_map number_of (find (is_bound_to s) cs) ≡ Some n
        → option_map role_in (find (is_conn n) cs) ≡ Some (Bound s))
        → option_map role_in (cond (c.number == n) (Some c) (find (is_conn n) cs)) ≡ Some (Bound s)
    go true is found more = here (cc) (role_bound s c.role is)
    go false is found more = there (other (found_among (is_bound_to s) cs n found)) (more parts.1 found)

-- a connection is as it was where another goes
pub other_stays : (cs : List Conn) (gone n : ℕ) → n ≢ gone → find (is_conn n) (filter (is_other_conn gone) cs) ≡ find (is_conn n) cs
other_stays [] gone n apart = refl
other_stays (c ∷ cs) gone n apart = go (c.number == gone) refl (other_stays cs gone n apart)
  where
    go : (goes : Bool) → (c.number == gone) ≡ goes → find (is_conn n) (filter (is_other_conn gone) cs) ≡ find (is_conn n) cs
        → find (is_conn n) (cond (not goes) (c ∷ filter (is_other_conn gone) cs) (filter (is_other_conn gone) cs))
        ≡ cond (c.number == n) (Some c) (find (is_conn n) cs)
    go true same more =
        more
        ∙ sym (ap (λ (b : Bool). cond b (Some c) (find (is_conn n) cs)) (ne_eqb c.number n (λ is. apart (sym is ∙ eqb-true c.number gone same))))
    go false other more = ap (λ (o : Option Conn). cond (c.number == n) (Some c) o) more

-- a new connection isn't the one of a session
pub new_apart : (d : DataState) (s conn old : ℕ) → all_differ (map number_of d.conns) ≡ true → role_of d conn ≡ Some New → conn_of d s ≡ Some old → conn ≢ old
new_apart d s conn old differ new its same =
    let both : Some New ≡ Some (Bound s) = sym new ∙ ap (role_of d) same ∙ bound_role s d.conns old differ its in absurd cc

-- the connections without this one, if there is one
abbrev pub dropped : Option ℕ → List Conn → List Conn
dropped None cs = cs
dropped (Some old) cs = filter (is_other_conn old) cs

pub dropped_conns : (o : Option ℕ) (b : Sofar) → (drops_conn o b).state.conns ≡ dropped o b.state.conns
dropped_conns None b = refl
dropped_conns (Some old) b = refl

pub dropped_order : (o : Option ℕ) (b : Sofar) → (drops_conn o b).state.order ≡ b.state.order
dropped_order None b = refl
dropped_order (Some old) b = refl

pub dropped_round : (o : Option ℕ) (b : Sofar) → (drops_conn o b).state.round ≡ b.state.round
dropped_round None b = refl
dropped_round (Some old) b = refl

-- A new connection stays where the one of a session goes.
pub new_stays : (d : DataState) (s conn : ℕ) → all_differ (map number_of d.conns) ≡ true → role_of d conn ≡ Some New
    → option_map role_in (find (is_conn conn) (dropped (conn_of d s) d.conns)) ≡ Some New
new_stays d s conn differ new = go (conn_of d s) refl
  where
    go : (o : Option ℕ) → conn_of d s ≡ o → option_map role_in (find (is_conn conn) (dropped o d.conns)) ≡ Some New
    go None its = new
    go (Some old) its = ap (option_map role_in) (other_stays d.conns old conn (new_apart d s conn old differ new its)) ∙ new
