-- What a running node has of its connections, as a session of it is closed whose connection, if it has one, awaits its Reset.
use Rattle.std.proofs.Common.{◌≡◌, ◌≢◌, ◌<◌, ℕ, Bool, true, false, cond, ◌||◌, ◌==◌, if◌then◌else◌, List, [], ◌∷◌, ◌++◌, length, map, Option, Some, None, is_some, option_map, refl, sym, ◌∙◌, ap, subst, arith}
use Rattle.std.specs.Prelude.{IfSome, IsSomeAnd, get_or}
use Rattle.std.specs.List.{find, list_any}
use Rattle.std.proofs.lemmas.Bool.{eq-eqb, eqb-true, false≢true, ne_eqb}
use Rattle.std.proofs.lemmas.List.Folds.{list_any-append}
use Rattle.plain_orders.specs.declared.entry.Entry.{Entry}
use Rattle.plain_orders.specs.declared.entry.Entry.TheVariants.{Closed}
use Rattle.plain_orders.specs.Entries.{closes, live}
use Rattle.plain_orders.specs.Sessions.{app_in}
use Rattle.plain_orders.proofs.EntryLemmas.{app_from-push, live-push}
use Rattle.data_rules.specs.DataState.{DataState}
use Rattle.data_rules.specs.declared.rows.Conn.{Conn}
use Rattle.data_rules.specs.declared.rows.Role.{Role}
use Rattle.data_rules.specs.declared.rows.Role.TheVariants.{New, Waiting, Bound, Closing}
use Rattle.data_rules.specs.Conns.{is_conn, role_in, role_of, with_role_if}
use Rattle.data_rules.specs.Places.{epoch_place}
use Rattle.data_rules.specs.Puts.{conn_of, is_bound_to, is_role_of, number_of}
use Rattle.cluster_runs.specs.Machine.{Site}
use Rattle.cluster_runs.specs.Sent.{Connection, Knew, Mark}
use Rattle.cluster_invariant.specs.Dials.{BoundIs, BoundTo, CameFor, ClosedOn, ClosingIs, GreatestDial, LinkedTo, NodeDials, RoleIs}
use Rattle.cluster_invariant.specs.Words.{all_differ}
use Rattle.cluster_invariant.proofs.ConnRoles.{bound_role}
use Rattle.cluster_invariant.proofs.PiecesOfCloses.{conn_there, role_given}
use Rattle.cluster_invariant.proofs.Small.{of_some}
use Rattle.cluster_invariant.proofs.Written.{closed_place}

-- one connection's role is changed

module _ (conn : ℕ) (r : Role) where
  number_kept : (c : Conn) → (with_role_if conn r c).number ≡ c.number
  number_kept c = go (c.number == conn)
    where
      go : (b : Bool) → (if b then record c { role = r } else c).number ≡ c.number
      go true = refl
      go false = refl

  pub numbers_kept : (cs : List Conn) → map number_of (map (with_role_if conn r) cs) ≡ map number_of cs
  numbers_kept [] = refl
  numbers_kept (c ∷ cs) = ap (λ (n : ℕ). n ∷ map number_of (map (with_role_if conn r) cs)) (number_kept c) ∙ ap (λ (ns : List ℕ). c.number ∷ ns) (numbers_kept cs)

  -- another stays
  pub other_role : (k : ℕ) (cs : List Conn) → k ≢ conn → option_map role_in (find (is_conn k) (map (with_role_if conn r) cs)) ≡ option_map role_in (find (is_conn k) cs)
  other_role k [] apart = refl
  other_role k (c ∷ cs) apart = go (c.number == conn) refl (other_role k cs apart)
    where
      go : (b : Bool) → (c.number == conn) ≡ b → option_map role_in (find (is_conn k) (map (with_role_if conn r) cs)) ≡ option_map role_in (find (is_conn k) cs)
          → option_map role_in (cond ((if b then record c { role = r } else c).number == k) (Some (if b then record c { role = r } else c)) (find (is_conn k) (map (with_role_if conn r) cs)))
          ≡ option_map role_in (cond (c.number == k) (Some c) (find (is_conn k) cs))
      go true same more =
          ap (λ (b : Bool). option_map role_in (cond b (Some (record c { role = r })) (find (is_conn k) (map (with_role_if conn r) cs)))) unlike ∙ more
          ∙ sym (ap (λ (b : Bool). option_map role_in (cond b (Some c) (find (is_conn k) cs))) unlike)
        where
          unlike : (c.number == k) ≡ false
          unlike = ne_eqb c.number k (λ is. apart (sym is ∙ eqb-true c.number conn same))
      go false other more = by (c.number == k)
        where
          by : (b : Bool) → option_map role_in (cond b (Some c) (find (is_conn k) (map (with_role_if conn r) cs))) ≡ option_map role_in (cond b (Some c) (find (is_conn k) cs))
          by true = refl
          by false = more

  -- those that are there stay
  pub there_still : (k : ℕ) (cs : List Conn) → is_some (option_map role_in (find (is_conn k) (map (with_role_if conn r) cs))) ≡ is_some (option_map role_in (find (is_conn k) cs))
  there_still k [] = refl
  there_still k (c ∷ cs) =
      ap (λ (n : ℕ). is_some (option_map role_in (cond (n == k) (Some (with_role_if conn r c)) (find (is_conn k) (map (with_role_if conn r) cs))))) (number_kept c)
      ∙ go (c.number == k) (there_still k cs)
    where
      go : (b : Bool) → is_some (option_map role_in (find (is_conn k) (map (with_role_if conn r) cs))) ≡ is_some (option_map role_in (find (is_conn k) cs))
          → is_some (option_map role_in (cond b (Some (with_role_if conn r c)) (find (is_conn k) (map (with_role_if conn r) cs)))) ≡ is_some (option_map role_in (cond b (Some c) (find (is_conn k) cs)))
      go true more = refl
      go false more = more

  -- the connection of another session stays
  pub other_bound : (s k : ℕ) (cs : List Conn) → is_role_of s r ≡ false → k ≢ conn → option_map number_of (find (is_bound_to s) cs) ≡ Some k
      → option_map number_of (find (is_bound_to s) (map (with_role_if conn r) cs)) ≡ Some k
  other_bound s k [] unlike apart was = was
  other_bound s k (c ∷ cs) unlike apart was = go (c.number == conn) refl (is_bound_to s c) refl was (other_bound s k cs unlike apart)
    where
      number : ◌≡◌ {A = Option ℕ} (Some c.number) (Some k) → c.number ≡ k
      number is = cc (is)

      go : (b : Bool) → (c.number == conn) ≡ b → (t : Bool) → is_bound_to s c ≡ t → option_map number_of (cond t (Some c) (find (is_bound_to s) cs)) ≡ Some k
          → (option_map number_of (find (is_bound_to s) cs) ≡ Some k → option_map number_of (find (is_bound_to s) (map (with_role_if conn r) cs)) ≡ Some k)
          → option_map number_of (cond (is_bound_to s (if b then record c { role = r } else c)) (Some (if b then record c { role = r } else c)) (find (is_bound_to s) (map (with_role_if conn r) cs)))
          ≡ Some k
      go true same true bound found more = absurd (apart (sym (number found) ∙ eqb-true c.number conn same))
      go true same false bound found more =
          ap (λ (b : Bool). option_map number_of (cond b (Some (record c { role = r })) (find (is_bound_to s) (map (with_role_if conn r) cs)))) unlike ∙ more found
      go false other true bound found more =
          ap (λ (b : Bool). option_map number_of (cond b (Some c) (find (is_bound_to s) (map (with_role_if conn r) cs)))) bound ∙ found
      go false other false bound found more =
          ap (λ (b : Bool). option_map number_of (cond b (Some c) (find (is_bound_to s) (map (with_role_if conn r) cs)))) bound ∙ more found

  -- and a session without one gets none
  pub still_unbound : (s : ℕ) (cs : List Conn) → is_role_of s r ≡ false → option_map number_of (find (is_bound_to s) cs) ≡ None
      → option_map number_of (find (is_bound_to s) (map (with_role_if conn r) cs)) ≡ None
  still_unbound s [] unlike none = none
  still_unbound s (c ∷ cs) unlike none = go (c.number == conn) (is_bound_to s c) refl none (still_unbound s cs unlike)
    where
      go : (b t : Bool) → is_bound_to s c ≡ t → option_map number_of (cond t (Some c) (find (is_bound_to s) cs)) ≡ None
          → (option_map number_of (find (is_bound_to s) cs) ≡ None → option_map number_of (find (is_bound_to s) (map (with_role_if conn r) cs)) ≡ None)
          → option_map number_of (cond (is_bound_to s (if b then record c { role = r } else c)) (Some (if b then record c { role = r } else c)) (find (is_bound_to s) (map (with_role_if conn r) cs)))
          ≡ None
      go b true bound found more = absurd (cc (found))
      go true false bound found more =
          ap (λ (b : Bool). option_map number_of (cond b (Some (record c { role = r })) (find (is_bound_to s) (map (with_role_if conn r) cs)))) unlike ∙ more found
      go false false bound found more =
          ap (λ (b : Bool). option_map number_of (cond b (Some c) (find (is_bound_to s) (map (with_role_if conn r) cs)))) bound ∙ more found

-- an order with a Close more

pub closed_live : (es : List Entry) (s k : ℕ) → k ≢ s → live (es ++ Closed s ∷ []) k ≡ live es k
closed_live es s k apart = live-push es (Closed s) k ∙ ap (λ (b : Bool). if b then false else live es k) (ne_eqb s k (λ same. apart (sym same)))

closed_app : (es : List Entry) (s k : ℕ) → app_in (es ++ Closed s ∷ []) k ≡ app_in es k
closed_app es s k = app_from-push None es (Closed s) k

still_closed : (es : List Entry) (s k : ℕ) → list_any (closes k) es ≡ true → list_any (closes k) (es ++ Closed s ∷ []) ≡ true
still_closed es s k is = list_any-append (closes k) es (Closed s ∷ []) ∙ ap (λ (b : Bool). b || list_any (closes k) (Closed s ∷ [])) is

now_closed : (es : List Entry) (s : ℕ) → list_any (closes s) (es ++ Closed s ∷ []) ≡ true
now_closed es s = list_any-append (closes s) es (Closed s ∷ []) ∙ ap (λ (b : Bool). list_any (closes s) es || (b || false)) (eq-eqb s s refl) ∙ or_true (list_any (closes s) es)
  where
    or_true : (b : Bool) → (b || true) ≡ true
    or_true true = refl
    or_true false = refl

came_closed : (es : List Entry) (s k : ℕ) (knew : Knew) (o : Option Mark) → CameFor es k knew o → CameFor (es ++ Closed s ∷ []) k knew o
came_closed es s k knew None is = subst (λ (n : ℕ). n < k) (sym (closed_place s 0 0 es)) is
came_closed es s k knew (Some m) is = is

-- the connections then
abbrev pub conns_closed : Option ℕ → ℕ → List Conn → List Conn
conns_closed None s cs = cs
conns_closed (Some conn) s cs = map (with_role_if conn (Closing s)) cs

-- A session is closed: its Close stands, and its connection awaits the Reset. It has one only where it was there before the order.
pub record ClosesOne (n m : DataState) (s : ℕ) : Type 0 where
  pub order : m.order ≡ n.order ++ Closed s ∷ []
  pub dials : m.dials ≡ n.dials
  pub conns : m.conns ≡ conns_closed (conn_of n s) s n.conns
  pub before : is_some (conn_of n s) ≡ true → s < epoch_place n.order

-- one that a Recover came on
closed_on : (z : Site) (es : List Entry) (s : ℕ) (c : Connection) → s < epoch_place es → BoundTo z es s c → ClosedOn z s c
closed_on z es s c before is = record { carries = is.carries; came = go c.knew.mark is.came }
  where
    go : (o : Option Mark) → CameFor es s c.knew o → IsSomeAnd o (λ m. c.knew.session ≡ s)
    go None came = absurd (omega (arith, came, before))
    go (Some m) came = came

-- what is known of a connection with its link
pub linked_as : (z : Site) (conn app : ℕ) (P Q : Connection → Type 0) → ((c : Connection) → P c → Q c) → LinkedTo z conn app P → LinkedTo z conn app Q
linked_as z conn app P Q f is = record { dial = is.dial; link = is.link; first = is.first; its = go ((z.end_at app).connection_at is.dial) is.its }
  where
    go : (o : Option Connection) → IsSomeAnd o P → IsSomeAnd o Q
    go None at = at
    go (Some c) at = f c at

pub node_closes : (z : Site) (n m : DataState) (s : ℕ) → ClosesOne n m s → NodeDials z n → NodeDials z m
node_closes z n m s one is = record {
  places = ap (λ (ds : List ℕ). length ds) one.dials ∙ is.places;
  dials = λ app low. subst (λ (ds : List ℕ). GreatestDial z.past (z.end_at app) (get_or ds app 0)) (sym one.dials) (is.dials app low);
  differ = ap (λ (cs : List Conn). all_differ (map number_of cs)) one.conns ∙ differ (conn_of n s) ∙ is.differ;
  roles = λ k. subst (λ (cs : List Conn). IfSome (option_map role_in (find (is_conn k) cs)) (RoleIs z m k)) (sym one.conns) (roles k (conn_of n s) refl);
}
  where
    differ : (o : Option ℕ) → all_differ (map number_of (conns_closed o s n.conns)) ≡ all_differ (map number_of n.conns)
    differ None = refl
    differ (Some conn) = ap all_differ (numbers_kept conn (Closing s) n.conns)

    -- the connection of a live session that goes on
    bound_on : (k q : ℕ) → q ≢ s → conn_of m q ≡ Some k → BoundIs z n k q → BoundIs z m k q
    bound_on k q apart its at = record {
      lives = ap (λ (es : List Entry). live es q) one.order ∙ closed_live n.order s q apart ∙ at.lives;
      its = its;
      app = at.app;
      opened = ap (λ (es : List Entry). app_in es q) one.order ∙ closed_app n.order s q ∙ at.opened;
      linked =
          subst (λ (es : List Entry). LinkedTo z k at.app (BoundTo z es q)) (sym one.order)
          (linked_as z k at.app (BoundTo z n.order q) (BoundTo z (n.order ++ Closed s ∷ []) q)
          (λ c on. record {
            carries = on.carries;
            came = came_closed n.order s q c.knew c.knew.mark on.came;
            told = on.told;
            silent = on.silent;
            unreset = on.unreset;
          }) at.linked);
      newest = at.newest;
    }

    closing_on : (k q : ℕ) → ClosingIs z n k q → ClosingIs z m k q
    closing_on k q at = record {
      ended = ap (λ (es : List Entry). list_any (closes q) es) one.order ∙ still_closed n.order s q at.ended;
      app = at.app;
      opened = ap (λ (es : List Entry). app_in es q) one.order ∙ closed_app n.order s q ∙ at.opened;
      linked = at.linked;
    }

    goes_on : (k : ℕ) (r : Role) → ((q : ℕ) → r ≡ Bound q → (q ≢ s) × (conn_of m q ≡ Some k)) → RoleIs z n k r → RoleIs z m k r
    goes_on k New bound at = at
    goes_on k Waiting bound at = at
    goes_on k (Bound q) bound at = bound_on k q (bound q refl).0 (bound q refl).1 at
    goes_on k (Closing q) bound at = closing_on k q at

    -- the session's own connection
    own : (conn : ℕ) → conn_of n s ≡ Some conn → BoundIs z n conn s → ClosingIs z m conn s
    own conn its at = record {
      ended = ap (λ (es : List Entry). list_any (closes s) es) one.order ∙ now_closed n.order s;
      app = at.app;
      opened = ap (λ (es : List Entry). app_in es s) one.order ∙ closed_app n.order s s ∙ at.opened;
      linked = linked_as z conn at.app (BoundTo z n.order s) (ClosedOn z s) (λ c on. closed_on z n.order s c before_it on) at.linked;
    }
      where
        before_it : s < epoch_place n.order
        before_it = one.before (ap (λ (o : Option ℕ). is_some o) its)

    its_of_bound : (k q : ℕ) → role_of n k ≡ Some (Bound q) → conn_of n q ≡ Some k
    its_of_bound k q role = (of_some (RoleIs z n k) (role_of n k) (Bound q) role (is.roles k)).its

    each : (k : ℕ) (o : Option Role) → role_of n k ≡ o → ((q : ℕ) → role_of n k ≡ Some (Bound q) → (q ≢ s) × (conn_of m q ≡ Some k)) → IfSome o (RoleIs z n k) → IfSome o (RoleIs z m k)
    each k None its bound at = tt
    each k (Some r) its bound at = goes_on k r (λ q same. bound q (its ∙ ap (λ (x : Role). Some x) same)) at

    roles : (k : ℕ) (o : Option ℕ) → conn_of n s ≡ o → IfSome (option_map role_in (find (is_conn k) (conns_closed o s n.conns))) (RoleIs z m k)
    roles k None none = each k (role_of n k) refl bound (is.roles k)
      where
        bound : (q : ℕ) → role_of n k ≡ Some (Bound q) → (q ≢ s) × (conn_of m q ≡ Some k)
        bound q role = (
          λ same. (let both : ◌≡◌ {A = Option ℕ} None (Some k) = sym none ∙ ap (conn_of n) (sym same) ∙ its_of_bound k q role in absurd cc),
          ap (λ (cs : List Conn). option_map number_of (find (is_bound_to q) cs)) (one.conns ∙ ap (λ (o : Option ℕ). conns_closed o s n.conns) none) ∙ its_of_bound k q role,
        )
    roles k (Some conn) its = go (k == conn) refl
      where
        go : (b : Bool) → (k == conn) ≡ b → IfSome (option_map role_in (find (is_conn k) (map (with_role_if conn (Closing s)) n.conns))) (RoleIs z m k)
        go true same =
            subst (λ (i : ℕ). IfSome (option_map role_in (find (is_conn i) (map (with_role_if conn (Closing s)) n.conns))) (RoleIs z m i)) (sym (eqb-true k conn same))
            (subst (λ (o : Option Role). IfSome o (RoleIs z m conn)) (sym (role_given conn (Closing s) n.conns (conn_there s n.conns conn its)))
            (own conn its (of_some (RoleIs z n conn) (role_of n conn) (Bound s) (bound_role s n.conns conn is.differ its) (is.roles conn))))
        go false other =
            subst (λ (o : Option Role). IfSome o (RoleIs z m k)) (sym (other_role conn (Closing s) k n.conns apart)) (each k (role_of n k) refl bound (is.roles k))
          where
            apart : k ≢ conn
            apart same = false≢true (sym other ∙ eq-eqb k conn same)

            bound : (q : ℕ) → role_of n k ≡ Some (Bound q) → (q ≢ s) × (conn_of m q ≡ Some k)
            bound q role = (
              λ same. (let both : ◌≡◌ {A = Option ℕ} (Some conn) (Some k) = sym its ∙ ap (conn_of n) (sym same) ∙ its_of_bound k q role in absurd (apart cc)),
              ap (λ (cs : List Conn). option_map number_of (find (is_bound_to q) cs)) (one.conns ∙ ap (λ (o : Option ℕ). conns_closed o s n.conns) its)
                  ∙ other_bound conn (Closing s) q k n.conns refl apart (its_of_bound k q role),
            )
