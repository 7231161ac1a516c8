-- The connections of a running node, as one comes or goes.
use Rattle.std.proofs.Common.{◌≡◌, ◌≢◌, ◌⊎◌, ℕ, Bool, true, false, not, cond, ◌&&◌, ◌||◌, ◌==◌, if◌then◌else◌, List, [], ◌∷◌, ◌++◌, length, map, filter, Option, Some, None, is_some, option_map, refl, sym, ◌∙◌, ap, subst, inl, inr}
use Rattle.std.specs.Prelude.{IfSome, get_or}
use Rattle.std.specs.List.{find, list_any}
use Rattle.std.proofs.lemmas.Bool.{eq-eqb, eqb-true, false≢true, ne_eqb}
use Rattle.std.proofs.lemmas.List.{map-append}
use Rattle.plain_orders.specs.declared.entry.Entry.{Entry}
use Rattle.data_rules.specs.DataState.{DataState}
use Rattle.data_rules.specs.declared.rows.Conn.{Conn}
use Rattle.data_rules.specs.declared.rows.Role.{Role}
use Rattle.data_rules.specs.declared.rows.Role.TheVariants.{New, Waiting, Bound, Closing}
use Rattle.data_rules.specs.Conns.{is_conn, is_other_conn, role_in, role_of, with_conn}
use Rattle.data_rules.specs.Puts.{conn_of, is_bound_to, number_of}
use Rattle.cluster_runs.specs.Machine.{Site}
use Rattle.cluster_runs.specs.Connections.{link_of}
use Rattle.cluster_invariant.specs.Dials.{BoundTo, GreatestDial, LinkedTo, NodeDials, RoleIs}
use Rattle.cluster_invariant.specs.Words.{all_differ, is_same}
use Rattle.cluster_invariant.proofs.ConnRoles.{other_stays}
use Rattle.cluster_invariant.proofs.Small.{of_some}
use Rattle.plain_orders.specs.Entries.{closes, live}
use Rattle.plain_orders.specs.Sessions.{app_in}

-- What a node may have of its connections after a change: its order and dials are as they were, and each connection is for what it was
-- for, or new.
pub record ConnsGo (y : Site) (n m : DataState) : Type 0 where
  pub order : m.order ≡ n.order
  pub dials : m.dials ≡ n.dials
  pub differ : all_differ (map number_of m.conns) ≡ true
  pub roles : (conn : ℕ) → IfSome (role_of m conn) (λ r. (role_of n conn ≡ Some r) ⊎ ((r ≡ New) × (link_of y conn ≡ None)))
  pub bound : (conn s : ℕ) → role_of m conn ≡ Some (Bound s) → conn_of n s ≡ Some conn → conn_of m s ≡ Some conn

-- So it has what it should have.
pub node_goes : (y : Site) (n m : DataState) → ConnsGo y n m → NodeDials y n → NodeDials y m
node_goes y n m go is = record {
  places = ap (λ (ds : List ℕ). length ds) go.dials ∙ is.places;
  dials = λ app low. subst (λ (ds : List ℕ). GreatestDial y.past (y.end_at app) (get_or ds app 0)) (sym go.dials) (is.dials app low);
  differ = go.differ;
  roles = λ conn. each conn (role_of m conn) refl (go.roles conn);
}
  where
    same : (conn : ℕ) (r : Role) → role_of m conn ≡ Some r → RoleIs y n conn r → RoleIs y m conn r
    same conn New its at = at
    same conn Waiting its at = at
    same conn (Bound s) its at = record {
      lives = ap (λ (es : List Entry). live es s) go.order ∙ at.lives;
      its = go.bound conn s its at.its;
      app = at.app;
      opened = ap (λ (es : List Entry). app_in es s) go.order ∙ at.opened;
      linked = subst (λ (es : List Entry). LinkedTo y conn at.app (BoundTo y es s)) (sym go.order) at.linked;
      newest = at.newest;
    }
    same conn (Closing s) its at = record {
      ended = ap (λ (es : List Entry). list_any (closes s) es) go.order ∙ at.ended;
      app = at.app;
      opened = ap (λ (es : List Entry). app_in es s) go.order ∙ at.opened;
      linked = at.linked;
    }

    each : (conn : ℕ) (o : Option Role) → role_of m conn ≡ o → IfSome o (λ r. (role_of n conn ≡ Some r) ⊎ ((r ≡ New) × (link_of y conn ≡ None))) → IfSome o (RoleIs y m conn)
    each conn None its at = tt
    each conn (Some r) its (inl was) = same conn r its (of_some (RoleIs y n conn) (role_of n conn) r was (is.roles conn))
    each conn (Some r) its (inr new) = subst (λ (q : Role). RoleIs y m conn q) (sym new.0) new.1

-- A node that has the same of them.
pub node_same : (y : Site) (n m : DataState) → m.order ≡ n.order → m.conns ≡ n.conns → m.dials ≡ n.dials → NodeDials y n → NodeDials y m
node_same y n m order conns dials is = node_goes y n m (record {
  order = order;
  dials = dials;
  differ = ap (λ (cs : List Conn). all_differ (map number_of cs)) conns ∙ is.differ;
  roles = λ conn. subst (λ (cs : List Conn). IfSome (option_map role_in (find (is_conn conn) cs)) (λ r. (role_of n conn ≡ Some r) ⊎ ((r ≡ New) × (link_of y conn ≡ None))))
      (sym conns) (own conn (role_of n conn) refl);
  bound = λ conn s its was. ap (λ (cs : List Conn). option_map number_of (find (is_bound_to s) cs)) conns ∙ was;
}) is
  where
    own : (conn : ℕ) (o : Option Role) → role_of n conn ≡ o → IfSome o (λ r. (role_of n conn ≡ Some r) ⊎ ((r ≡ New) × (link_of y conn ≡ None)))
    own conn None its = tt
    own conn (Some r) its = inl its

-- one more

-- what is found, or else the last
abbrev or_last : Bool → Conn → Option Conn → Option Conn
or_last b c None = cond b (Some c) None
or_last b c (Some d) = Some d

found_more : (p : Conn → Bool) (cs : List Conn) (c : Conn) → find p (cs ++ c ∷ []) ≡ or_last (p c) c (find p cs)
found_more p [] c = refl
found_more p (d ∷ cs) c = go (p d) (found_more p cs c)
  where
    go : (b : Bool) → find p (cs ++ c ∷ []) ≡ or_last (p c) c (find p cs) → cond b (Some d) (find p (cs ++ c ∷ [])) ≡ or_last (p c) c (cond b (Some d) (find p cs))
    go true more = refl
    go false more = more

any_more : (k n : ℕ) (ns : List ℕ) → list_any (is_same k) (ns ++ n ∷ []) ≡ (list_any (is_same k) ns || (k == n))
any_more k n [] = or_false (k == n)
  where
    or_false : (b : Bool) → (b || false) ≡ b
    or_false true = refl
    or_false false = refl
any_more k n (m ∷ ns) = go (k == m) (any_more k n ns)
  where
    go : (b : Bool) → list_any (is_same k) (ns ++ n ∷ []) ≡ (list_any (is_same k) ns || (k == n))
        → (b || list_any (is_same k) (ns ++ n ∷ [])) ≡ ((b || list_any (is_same k) ns) || (k == n))
    go true more = refl
    go false more = more

or_parts : (a b : Bool) → (a || b) ≡ false → (a ≡ false) × (b ≡ false)
or_parts true b is = absurd (false≢true (sym is))
or_parts false b is = (refl, is)

not_parts : (a b : Bool) → (not a && b) ≡ true → (a ≡ false) × (b ≡ true)
not_parts true b is = absurd (false≢true is)
not_parts false b is = (refl, is)

differ_more : (ns : List ℕ) (n : ℕ) → all_differ ns ≡ true → list_any (is_same n) ns ≡ false → all_differ (ns ++ n ∷ []) ≡ true
differ_more [] n differ none = refl
differ_more (k ∷ ns) n differ none =
    go (not_parts (list_any (is_same k) ns) (all_differ ns) differ) (or_parts (n == k) (list_any (is_same n) ns) none)
    (λ rest others. differ_more ns n rest others)
  where
    go : (list_any (is_same k) ns ≡ false) × (all_differ ns ≡ true) → ((n == k) ≡ false) × (list_any (is_same n) ns ≡ false)
        → (all_differ ns ≡ true → list_any (is_same n) ns ≡ false → all_differ (ns ++ n ∷ []) ≡ true) → all_differ (k ∷ ns ++ n ∷ []) ≡ true
    go parts others more =
        ap (λ (b : Bool). not b && all_differ (ns ++ n ∷ [])) (any_more k n ns ∙ ap (λ (b : Bool). b || (k == n)) parts.0 ∙ apart) ∙ more parts.1 others.1
      where
        apart : (k == n) ≡ false
        apart = ne_eqb k n (λ same. false≢true (sym others.0 ∙ eq-eqb n k (sym same)))

-- a number that no connection has
no_number : (cs : List Conn) (n : ℕ) → is_some (option_map role_in (find (is_conn n) cs)) ≡ false → list_any (is_same n) (map number_of cs) ≡ false
no_number [] n none = refl
no_number (c ∷ cs) n none = go (c.number == n) refl none (no_number cs n)
  where
    go : (b : Bool) → (c.number == n) ≡ b → is_some (option_map role_in (cond b (Some c) (find (is_conn n) cs))) ≡ false
        → (is_some (option_map role_in (find (is_conn n) cs)) ≡ false → list_any (is_same n) (map number_of cs) ≡ false)
        → ((n == c.number) || list_any (is_same n) (map number_of cs)) ≡ false
    go true same none_there more = absurd (false≢true (sym none_there))
    go false other none_there more =
        ap (λ (b : Bool). b || list_any (is_same n) (map number_of cs)) (ne_eqb n c.number (λ same. false≢true (sym other ∙ eq-eqb c.number n (sym same)))) ∙ more none_there

-- A connection that comes.
pub conn_comes : (y : Site) (n : DataState) (conn : ℕ) → all_differ (map number_of n.conns) ≡ true → is_some (role_of n conn) ≡ false → link_of y conn ≡ None
    → ConnsGo y n (with_conn conn n)
conn_comes y n conn differ none unlinked = record {
  order = refl;
  dials = refl;
  differ = ap all_differ (map-append number_of n.conns (c ∷ [])) ∙ differ_more (map number_of n.conns) conn differ (no_number n.conns conn none);
  roles = λ k. subst (λ (o : Option Conn). IfSome (option_map role_in o) (λ r. (role_of n k ≡ Some r) ⊎ ((r ≡ New) × (link_of y k ≡ None))))
      (sym (found_more (is_conn k) n.conns c)) (role k (find (is_conn k) n.conns) refl (conn == k) refl);
  bound = λ k s its was. ap (option_map number_of) (found_more (is_bound_to s) n.conns c) ∙ bound s k (find (is_bound_to s) n.conns) was;
}
  where
    c : Conn
    c = record { number = conn; role = New }

    role : (k : ℕ) (o : Option Conn) → find (is_conn k) n.conns ≡ o → (b : Bool) → (conn == k) ≡ b
        → IfSome (option_map role_in (or_last b c o)) (λ r. (role_of n k ≡ Some r) ⊎ ((r ≡ New) × (link_of y k ≡ None)))
    role k (Some d) its b same = inl (ap (option_map role_in) its)
    role k None its true same = inr (refl, ap (link_of y) (sym (eqb-true conn k same)) ∙ unlinked)
    role k None its false same = tt

    bound : (s k : ℕ) (o : Option Conn) → option_map number_of o ≡ Some k → option_map number_of (or_last false c o) ≡ Some k
    bound s k None was = was
    bound s k (Some d) was = was

-- one less

any_fewer : (p : Conn → Bool) (n : ℕ) (cs : List Conn) → list_any (is_same n) (map number_of cs) ≡ false → list_any (is_same n) (map number_of (filter p cs)) ≡ false
any_fewer p n [] none = refl
any_fewer p n (c ∷ cs) none =
    go (p c) (or_parts (n == c.number) (list_any (is_same n) (map number_of cs)) none).0
    (any_fewer p n cs (or_parts (n == c.number) (list_any (is_same n) (map number_of cs)) none).1)
  where
    go : (b : Bool) → (n == c.number) ≡ false → list_any (is_same n) (map number_of (filter p cs)) ≡ false
        → list_any (is_same n) (map number_of (cond b (c ∷ filter p cs) (filter p cs))) ≡ false
    go true first more = ap (λ (b : Bool). b || list_any (is_same n) (map number_of (filter p cs))) first ∙ more
    go false first more = more

pub differ_fewer : (p : Conn → Bool) (cs : List Conn) → all_differ (map number_of cs) ≡ true → all_differ (map number_of (filter p cs)) ≡ true
differ_fewer p [] differ = refl
differ_fewer p (c ∷ cs) differ =
    go (p c) (not_parts (list_any (is_same c.number) (map number_of cs)) (all_differ (map number_of cs)) differ).0
    (differ_fewer p cs (not_parts (list_any (is_same c.number) (map number_of cs)) (all_differ (map number_of cs)) differ).1)
  where
    go : (b : Bool) → list_any (is_same c.number) (map number_of cs) ≡ false → all_differ (map number_of (filter p cs)) ≡ true
        → all_differ (map number_of (cond b (c ∷ filter p cs) (filter p cs))) ≡ true
    go true first more = ap (λ (t : Bool). not t && all_differ (map number_of (filter p cs))) (any_fewer p c.number cs first) ∙ more
    go false first more = more

-- the one that goes isn't there any more
pub none_left : (cs : List Conn) (gone : ℕ) → find (is_conn gone) (filter (is_other_conn gone) cs) ≡ None
none_left [] gone = refl
none_left (c ∷ cs) gone = go (c.number == gone) refl (none_left cs gone)
  where
    go : (b : Bool) → (c.number == gone) ≡ b → find (is_conn gone) (filter (is_other_conn gone) cs) ≡ None
        → find (is_conn gone) (cond (not b) (c ∷ filter (is_other_conn gone) cs) (filter (is_other_conn gone) cs)) ≡ None
    go true same more = more
    go false other more = ap (λ (b : Bool). cond b (Some c) (find (is_conn gone) (filter (is_other_conn gone) cs))) other ∙ more

-- a session's connection stays where another goes
pub bound_stays : (s : ℕ) (cs : List Conn) (gone k : ℕ) → k ≢ gone → option_map number_of (find (is_bound_to s) cs) ≡ Some k
    → option_map number_of (find (is_bound_to s) (filter (is_other_conn gone) cs)) ≡ Some k
bound_stays s [] gone k apart was = was
bound_stays s (c ∷ cs) gone k apart was = go (c.number == gone) refl (is_bound_to s c) refl was (bound_stays s cs gone k apart)
  where
    go : (g : Bool) → (c.number == gone) ≡ g → (b : Bool) → is_bound_to s c ≡ b → option_map number_of (cond b (Some c) (find (is_bound_to s) cs)) ≡ Some k
        → (option_map number_of (find (is_bound_to s) cs) ≡ Some k → option_map number_of (find (is_bound_to s) (filter (is_other_conn gone) cs)) ≡ Some k)
        → option_map number_of (find (is_bound_to s) (cond (not g) (c ∷ filter (is_other_conn gone) cs) (filter (is_other_conn gone) cs))) ≡ Some k
    go true same true its found more = absurd (apart (sym (number found) ∙ eqb-true c.number gone same))
      where
        number : ◌≡◌ {A = Option ℕ} (Some c.number) (Some k) → c.number ≡ k
        number is = cc (is)
    go true same false its found more = more found
    go false other true its found more = ap (λ (b : Bool). option_map number_of (cond b (Some c) (find (is_bound_to s) (filter (is_other_conn gone) cs)))) its ∙ found
    go false other false its found more = ap (λ (b : Bool). option_map number_of (cond b (Some c) (find (is_bound_to s) (filter (is_other_conn gone) cs)))) its ∙ more found

-- A connection that goes.
pub conn_goes : (y : Site) (n m : DataState) (gone : ℕ) → all_differ (map number_of n.conns) ≡ true → m.order ≡ n.order → m.dials ≡ n.dials
    → m.conns ≡ filter (is_other_conn gone) n.conns → ConnsGo y n m
conn_goes y n m gone differ order dials conns = record {
  order = order;
  dials = dials;
  differ = ap (λ (cs : List Conn). all_differ (map number_of cs)) conns ∙ differ_fewer (is_other_conn gone) n.conns differ;
  roles = λ k. subst (λ (cs : List Conn). IfSome (option_map role_in (find (is_conn k) cs)) (λ r. (role_of n k ≡ Some r) ⊎ ((r ≡ New) × (link_of y k ≡ None))))
      (sym conns) (role k (k == gone) refl);
  bound = λ k s its was. ap (λ (cs : List Conn). option_map number_of (find (is_bound_to s) cs)) conns ∙ bound_stays s n.conns gone k (there k s its) was;
}
  where
    there : (k s : ℕ) → role_of m k ≡ Some (Bound s) → k ≢ gone
    there k s its same =
        (let both : ◌≡◌ {A = Option Role} None (Some (Bound s))
        = sym (ap (λ (cs : List Conn). option_map role_in (find (is_conn k) cs)) conns
        ∙ ap (λ (i : ℕ). option_map role_in (find (is_conn i) (filter (is_other_conn gone) n.conns))) same
        ∙ ap (option_map role_in) (none_left n.conns gone)) ∙ its in absurd cc)

    role : (k : ℕ) (b : Bool) → (k == gone) ≡ b
        → IfSome (option_map role_in (find (is_conn k) (filter (is_other_conn gone) n.conns))) (λ r. (role_of n k ≡ Some r) ⊎ ((r ≡ New) × (link_of y k ≡ None)))
    role k true same =
        subst (λ (o : Option Conn). IfSome (option_map role_in o) (λ r. (role_of n k ≡ Some r) ⊎ ((r ≡ New) × (link_of y k ≡ None))))
        (sym (ap (λ (i : ℕ). find (is_conn i) (filter (is_other_conn gone) n.conns)) (eqb-true k gone same) ∙ none_left n.conns gone)) tt
    role k false other =
        subst (λ (o : Option Conn). IfSome (option_map role_in o) (λ r. (role_of n k ≡ Some r) ⊎ ((r ≡ New) × (link_of y k ≡ None))))
        (sym (other_stays n.conns gone k (λ same. false≢true (sym other ∙ eq-eqb k gone same)))) (own k (find (is_conn k) n.conns) refl)
      where
        own : (i : ℕ) (o : Option Conn) → find (is_conn i) n.conns ≡ o → IfSome (option_map role_in o) (λ r. (role_of n i ≡ Some r) ⊎ ((r ≡ New) × (link_of y i ≡ None)))
        own i None its = tt
        own i (Some d) its = inl (ap (option_map role_in) its)

-- which connections are there, where one comes or goes

pub there_more : (n : DataState) (conn k : ℕ) → is_some (role_of (with_conn conn n) k) ≡ (is_some (role_of n k) || (conn == k))
there_more n conn k =
    ap (λ (o : Option Conn). is_some (option_map role_in o)) (found_more (is_conn k) n.conns (record { number = conn; role = New })) ∙ go (conn == k) (find (is_conn k) n.conns)
  where
    go : (b : Bool) (o : Option Conn) → is_some (option_map role_in (or_last b (record { number = conn; role = New }) o)) ≡ (is_some (option_map role_in o) || b)
    go true None = refl
    go false None = refl
    go true (Some d) = refl
    go false (Some d) = refl

pub there_fewer : (cs : List Conn) (gone k : ℕ) → is_some (option_map role_in (find (is_conn k) (filter (is_other_conn gone) cs)))
    ≡ (if k == gone then false else is_some (option_map role_in (find (is_conn k) cs)))
there_fewer cs gone k = go (k == gone) refl
  where
    go : (b : Bool) → (k == gone) ≡ b → is_some (option_map role_in (find (is_conn k) (filter (is_other_conn gone) cs)))
        ≡ (if b then false else is_some (option_map role_in (find (is_conn k) cs)))
    go true same =
        ap (λ (i : ℕ). is_some (option_map role_in (find (is_conn i) (filter (is_other_conn gone) cs)))) (eqb-true k gone same)
        ∙ ap (λ (o : Option Conn). is_some (option_map role_in o)) (none_left cs gone)
    go false other = ap (λ (o : Option Conn). is_some (option_map role_in o)) (other_stays cs gone k (λ same. false≢true (sym other ∙ eq-eqb k gone same)))
