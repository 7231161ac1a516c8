-- The connections of a data server as one goes, comes, or changes what it is for: which are others' and stay.
use Rattle.std.proofs.Common.{◌≡◌, ◌≢◌, ℕ, Bool, true, false, ◌||◌, ◌&&◌, ◌==◌, not, cond, if◌then◌else◌, List, [], ◌∷◌, ◌++◌, map, filter, Option, Some, None, is_some, refl, sym, ◌∙◌, ap, subst}
use Rattle.std.specs.List.{AllByRecursion, find, list_any}
use Rattle.std.specs.Option.{option_map}
use Rattle.std.proofs.lemmas.Bool.{eqb-true, eq-eqb, ne_eqb, true≢false, false≢true}
use Rattle.data_rules.specs.declared.rows.Conn.{Conn}
use Rattle.data_rules.specs.declared.rows.Role.{Role}
use Rattle.data_rules.specs.declared.rows.Role.TheVariants.{New, Waiting, Bound, Closing}
use Rattle.data_rules.specs.Puts.{number_of, is_bound_to, is_role_of}
use Rattle.data_rules.specs.Conns.{is_conn, is_other_conn, role_in, with_role_if}
use Rattle.cluster_invariant.specs.Words.{all_differ, is_same}

-- the words, of a list of connections

-- what the connection of this number is for
abbrev pub role_at : ℕ → List Conn → Option Role
role_at n cs = option_map role_in (find (is_conn n) cs)

-- the connection of this session
abbrev pub conn_for : ℕ → List Conn → Option ℕ
conn_for s cs = option_map number_of (find (is_bound_to s) cs)

abbrev pub Differ : List Conn → Type 0
Differ cs = all_differ (map number_of cs) ≡ true

-- no connection of this number is the session's
abbrev pub NoneFor : ℕ → ℕ → List Conn → Type 0
NoneFor n s cs = AllByRecursion (λ c. c.number ≡ n → is_bound_to s c ≡ false) cs

role_bound : (s : ℕ) (r : Role) → is_role_of s r ≡ true → r ≡ Bound s
role_bound s New is = absurd (false≢true is)
role_bound s Waiting is = absurd (false≢true is)
role_bound s (Bound session) is = ap Bound (eqb-true session s is)
role_bound s (Closing session) is = absurd (false≢true is)

unbound : (s : ℕ) (r : Role) → (r ≡ Bound s → ⊥) → is_role_of s r ≡ false
unbound s r apart = go (is_role_of s r) refl
  where
    go : (b : Bool) → is_role_of s r ≡ b → is_role_of s r ≡ false
    go true is = absurd (apart (role_bound s r is))
    go false is = is

differ_parts : (x y : Bool) → (not x && y) ≡ true → (x ≡ false) × (y ≡ true)
differ_parts true y is = absurd (false≢true is)
differ_parts false y is = (refl, is)

parts : (c : Conn) (cs : List Conn) → Differ (c ∷ cs) → (list_any (is_same c.number) (map number_of cs) ≡ false) × Differ cs
parts c cs differ = differ_parts (list_any (is_same c.number) (map number_of cs)) (all_differ (map number_of cs)) differ

none_numbered : (n s : ℕ) (cs : List Conn) → list_any (is_same n) (map number_of cs) ≡ false → NoneFor n s cs
none_numbered n s [] none = tt
none_numbered n s (c ∷ cs) none = go (n == c.number) refl none (none_numbered n s cs)
  where
    go : (b : Bool) → (n == c.number) ≡ b → (b || list_any (is_same n) (map number_of cs)) ≡ false → (list_any (is_same n) (map number_of cs) ≡ false → NoneFor n s cs)
        → NoneFor n s (c ∷ cs)
    go true same is more = absurd (true≢false is)
    go false other is more = (λ same. absurd (false≢true (sym other ∙ eq-eqb n c.number (sym same))), more is)

-- a connection that isn't the session's
pub none_for : (n s : ℕ) (cs : List Conn) → Differ cs → (role_at n cs ≡ Some (Bound s) → ⊥) → NoneFor n s cs
none_for n s [] differ apart = tt
none_for n s (c ∷ cs) differ apart = go (c.number == n) refl apart (none_for n s cs (parts c cs differ).1)
  where
    its : Role → Some c.role ≡ Some (Bound s) → c.role ≡ Bound s
    its r same = cc

    go : (b : Bool) → (c.number == n) ≡ b → (option_map role_in (cond b (Some c) (find (is_conn n) cs)) ≡ Some (Bound s) → ⊥)
        → ((role_at n cs ≡ Some (Bound s) → ⊥) → NoneFor n s cs) → NoneFor n s (c ∷ cs)
    go true same fails more = (
      λ is. unbound s c.role (λ bound. fails (ap Some bound)),
      none_numbered n s cs (subst (λ (k : ℕ). list_any (is_same k) (map number_of cs) ≡ false) (eqb-true c.number n same) (parts c cs differ).0),
    )
    go false other fails more = (λ is. absurd (false≢true (sym other ∙ eq-eqb c.number n is)), more fails)

-- a connection that goes
pub for_gone : (n s : ℕ) (cs : List Conn) → NoneFor n s cs → find (is_bound_to s) (filter (is_other_conn n) cs) ≡ find (is_bound_to s) cs
for_gone n s [] none = refl
for_gone n s (c ∷ cs) none = go (c.number == n) refl (for_gone n s cs none.1)
  where
    go : (b : Bool) → (c.number == n) ≡ b → find (is_bound_to s) (filter (is_other_conn n) cs) ≡ find (is_bound_to s) cs
        → find (is_bound_to s) (cond (not b) (c ∷ filter (is_other_conn n) cs) (filter (is_other_conn n) cs)) ≡ cond (is_bound_to s c) (Some c) (find (is_bound_to s) cs)
    go true same more = more ∙ sym (ap (λ (b : Bool). cond b (Some c) (find (is_bound_to s) cs)) (none.0 (eqb-true c.number n same)))
    go false other more = ap (λ (o : Option Conn). cond (is_bound_to s c) (Some c) o) more

-- one that changes what it is for
pub for_role : (n s : ℕ) (r : Role) (cs : List Conn) → NoneFor n s cs → is_role_of s r ≡ false → conn_for s (map (with_role_if n r) cs) ≡ conn_for s cs
for_role n s r [] none apart = refl
for_role n s r (c ∷ cs) none apart = go (c.number == n) refl (for_role n s r cs none.1 apart)
  where
    skip : (b : Bool) (x : Conn) (o : Option Conn) → b ≡ false → cond b (Some x) o ≡ o
    skip true x o is = absurd (true≢false is)
    skip false x o is = refl

    same_else : (x : Conn) (o p : Option Conn) (b : Bool) → option_map number_of o ≡ option_map number_of p → option_map number_of (cond b (Some x) o) ≡ option_map number_of (cond b (Some x) p)
    same_else x o p true is = refl
    same_else x o p false is = is

    go : (b : Bool) → (c.number == n) ≡ b → conn_for s (map (with_role_if n r) cs) ≡ conn_for s cs
        → option_map number_of (cond (is_bound_to s (if b then record c { role = r } else c)) (Some (if b then record c { role = r } else c)) (find (is_bound_to s) (map (with_role_if n r) cs)))
        ≡ option_map number_of (cond (is_bound_to s c) (Some c) (find (is_bound_to s) cs))
    go true same more =
        ap (option_map number_of) (skip (is_role_of s r) (record c { role = r }) (find (is_bound_to s) (map (with_role_if n r) cs)) apart)
        ∙ more
        ∙ sym (ap (option_map number_of) (skip (is_bound_to s c) c (find (is_bound_to s) cs) (none.0 (eqb-true c.number n same))))
    go false other more = same_else c (find (is_bound_to s) (map (with_role_if n r) cs)) (find (is_bound_to s) cs) (is_bound_to s c) more

-- one more that is no session's
pub for_more : (s : ℕ) (c : Conn) (cs : List Conn) → is_bound_to s c ≡ false → find (is_bound_to s) (cs ++ c ∷ []) ≡ find (is_bound_to s) cs
for_more s c [] apart = ap (λ (b : Bool). cond b (Some c) None) apart
for_more s c (x ∷ cs) apart = ap (λ (o : Option Conn). cond (is_bound_to s x) (Some x) o) (for_more s c cs apart)

-- the session has a connection that is for it
pub for_bound : (n s : ℕ) (cs : List Conn) → role_at n cs ≡ Some (Bound s) → is_some (conn_for s cs) ≡ true
for_bound n s [] its = absurd cc
for_bound n s (c ∷ cs) its = go (c.number == n) (is_bound_to s c) refl its (for_bound n s cs)
  where
    here : Some c.role ≡ Some (Bound s) → is_bound_to s c ≡ true
    here same = (let bound : c.role ≡ Bound s = cc in ap (is_role_of s) bound ∙ eq-eqb s s refl)

    go : (b d : Bool) → is_bound_to s c ≡ d → option_map role_in (cond b (Some c) (find (is_conn n) cs)) ≡ Some (Bound s)
        → (role_at n cs ≡ Some (Bound s) → is_some (conn_for s cs) ≡ true) → is_some (option_map number_of (cond d (Some c) (find (is_bound_to s) cs))) ≡ true
    go b true is same more = refl
    go true false is same more = absurd (true≢false (sym (here same) ∙ is))
    go false false is same more = more same

-- a connection that is found is among the numbers
numbered : (n : ℕ) (r : Role) (cs : List Conn) → role_at n cs ≡ Some r → list_any (is_same n) (map number_of cs) ≡ true
numbered n r [] its = absurd cc
numbered n r (c ∷ cs) its = go (c.number == n) refl its (numbered n r cs)
  where
    later : (b : Bool) → list_any (is_same n) (map number_of cs) ≡ true → (b || list_any (is_same n) (map number_of cs)) ≡ true
    later true more = refl
    later false more = more

    go : (b : Bool) → (c.number == n) ≡ b → option_map role_in (cond b (Some c) (find (is_conn n) cs)) ≡ Some r → (role_at n cs ≡ Some r → list_any (is_same n) (map number_of cs) ≡ true)
        → (n == c.number || list_any (is_same n) (map number_of cs)) ≡ true
    go true same is more = ap (λ (b : Bool). b || list_any (is_same n) (map number_of cs)) (eq-eqb n c.number (sym (eqb-true c.number n same)))
    go false other is more = later (n == c.number) (more is)

-- Where the session has only this connection, it has none once that goes.
pub for_none : (n s : ℕ) (cs : List Conn) → Differ cs → ((m : ℕ) → role_at m cs ≡ Some (Bound s) → m ≡ n) → find (is_bound_to s) (filter (is_other_conn n) cs) ≡ None
for_none n s [] differ only = refl
for_none n s (c ∷ cs) differ only = go (c.number == n) refl (for_none n s cs (parts c cs differ).1 rest)
  where
    here : is_bound_to s c ≡ true → c.number ≡ n
    here is = only c.number (ap (λ (b : Bool). option_map role_in (cond b (Some c) (find (is_conn c.number) cs))) (eq-eqb c.number c.number refl) ∙ ap Some (role_bound s c.role is))

    rest : (m : ℕ) → role_at m cs ≡ Some (Bound s) → m ≡ n
    rest m its = by (c.number == m) refl
      where
        by : (b : Bool) → (c.number == m) ≡ b → m ≡ n
        by true same =
            absurd (true≢false (sym (numbered m (Bound s) cs its) ∙ ap (λ (k : ℕ). list_any (is_same k) (map number_of cs)) (sym (eqb-true c.number m same)) ∙ (parts c cs differ).0))
        by false other = only m (ap (λ (b : Bool). option_map role_in (cond b (Some c) (find (is_conn m) cs))) other ∙ its)

    go : (b : Bool) → (c.number == n) ≡ b → find (is_bound_to s) (filter (is_other_conn n) cs) ≡ None
        → find (is_bound_to s) (cond (not b) (c ∷ filter (is_other_conn n) cs) (filter (is_other_conn n) cs)) ≡ None
    go true same more = more
    go false other more = by (is_bound_to s c) refl
      where
        by : (d : Bool) → is_bound_to s c ≡ d → cond d (Some c) (find (is_bound_to s) (filter (is_other_conn n) cs)) ≡ None
        by true is = absurd (false≢true (sym other ∙ eq-eqb c.number n (here is)))
        by false is = more

-- the numbers

pub role_numbers : (n : ℕ) (r : Role) (cs : List Conn) → map number_of (map (with_role_if n r) cs) ≡ map number_of cs
role_numbers n r [] = refl
role_numbers n r (c ∷ cs) = go (c.number == n) (role_numbers n r cs)
  where
    go : (b : Bool) → map number_of (map (with_role_if n r) cs) ≡ map number_of cs
        → (if b then record c { role = r } else c).number ∷ map number_of (map (with_role_if n r) cs) ≡ c.number ∷ map number_of cs
    go true more = ap (λ (ns : List ℕ). c.number ∷ ns) more
    go false more = ap (λ (ns : List ℕ). c.number ∷ ns) more

fewer : (n m : ℕ) (cs : List Conn) → list_any (is_same m) (map number_of cs) ≡ false → list_any (is_same m) (map number_of (filter (is_other_conn n) cs)) ≡ false
fewer n m [] none = refl
fewer n m (c ∷ cs) none = go (c.number == n) (m == c.number) refl none (fewer n m cs)
  where
    go : (b d : Bool) → (m == c.number) ≡ d → (d || list_any (is_same m) (map number_of cs)) ≡ false
        → (list_any (is_same m) (map number_of cs) ≡ false → list_any (is_same m) (map number_of (filter (is_other_conn n) cs)) ≡ false)
        → list_any (is_same m) (map number_of (cond (not b) (c ∷ filter (is_other_conn n) cs) (filter (is_other_conn n) cs))) ≡ false
    go b true is fails more = absurd (true≢false fails)
    go true false is fails more = more fails
    go false false is fails more = ap (λ (t : Bool). t || list_any (is_same m) (map number_of (filter (is_other_conn n) cs))) is ∙ more fails

pub differ_gone : (n : ℕ) (cs : List Conn) → Differ cs → Differ (filter (is_other_conn n) cs)
differ_gone n [] differ = refl
differ_gone n (c ∷ cs) differ = go (c.number == n) (differ_gone n cs (parts c cs differ).1)
  where
    go : (b : Bool) → Differ (filter (is_other_conn n) cs) → Differ (cond (not b) (c ∷ filter (is_other_conn n) cs) (filter (is_other_conn n) cs))
    go true more = more
    go false more = ap (λ (t : Bool). not t && all_differ (map number_of (filter (is_other_conn n) cs))) (fewer n c.number cs (parts c cs differ).0) ∙ more

pub differ_role : (n : ℕ) (r : Role) (cs : List Conn) → Differ cs → Differ (map (with_role_if n r) cs)
differ_role n r cs differ = ap all_differ (role_numbers n r cs) ∙ differ

more_numbers : (m : ℕ) (c : Conn) (cs : List Conn) → m ≢ c.number → list_any (is_same m) (map number_of cs) ≡ false → list_any (is_same m) (map number_of (cs ++ c ∷ [])) ≡ false
more_numbers m c [] apart none = ap (λ (b : Bool). b || false) (ne_eqb m c.number apart)
more_numbers m c (x ∷ cs) apart none = go (m == x.number) none (more_numbers m c cs apart)
  where
    go : (b : Bool) → (b || list_any (is_same m) (map number_of cs)) ≡ false
        → (list_any (is_same m) (map number_of cs) ≡ false → list_any (is_same m) (map number_of (cs ++ c ∷ [])) ≡ false) → (b || list_any (is_same m) (map number_of (cs ++ c ∷ []))) ≡ false
    go true fails more = absurd (true≢false fails)
    go false fails more = more fails

pub differ_more : (c : Conn) (cs : List Conn) → Differ cs → is_some (role_at c.number cs) ≡ false → Differ (cs ++ c ∷ [])
differ_more c [] differ unknown = refl
differ_more c (x ∷ cs) differ unknown = go (x.number == c.number) refl unknown (differ_more c cs (parts x cs differ).1)
  where
    go : (b : Bool) → (x.number == c.number) ≡ b → is_some (option_map role_in (cond b (Some x) (find (is_conn c.number) cs))) ≡ false
        → (is_some (role_at c.number cs) ≡ false → Differ (cs ++ c ∷ [])) → Differ (x ∷ cs ++ c ∷ [])
    go true same is more = absurd (true≢false is)
    go false other is more =
        ap (λ (t : Bool). not t && all_differ (map number_of (cs ++ c ∷ [])))
        (more_numbers x.number c cs (λ same. false≢true (sym other ∙ eq-eqb x.number c.number same)) (parts x cs differ).0)
        ∙ more is
