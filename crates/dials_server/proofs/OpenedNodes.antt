-- What a running node has of its connections, as a session opens on one that waited.
use Rattle.std.proofs.Common.{◌≡◌, ◌≢◌, ◌≤◌, ◌<◌, ℕ, ◌+◌, Bool, true, false, cond, ◌||◌, ◌==◌, if◌then◌else◌, List, [], ◌∷◌, ◌++◌, length, map, Option, Some, None, is_some, option_map, refl, sym, ◌∙◌, ap, subst, arith}
use Rattle.std.specs.Prelude.{IfSome, get_or}
use Rattle.std.specs.List.{find, list_any}
use Rattle.std.proofs.lemmas.Bool.{eq-eqb, eqb-true, false≢true, ne_eqb}
use Rattle.std.proofs.lemmas.List.{length-append}
use Rattle.std.proofs.lemmas.List.Folds.{list_any-append}
use Rattle.plain_orders.specs.declared.entry.Entry.{Entry}
use Rattle.plain_orders.specs.declared.entry.Entry.TheVariants.{Epoch, Opened, Closed, Update, Commit, Rollback}
use Rattle.plain_orders.specs.Entries.{closes, live}
use Rattle.plain_orders.specs.Sessions.{app_in}
use Rattle.plain_orders.proofs.EntryLemmas.{app_from-push, live-push}
use Rattle.data_rules.specs.DataState.{DataState}
use Rattle.data_rules.specs.declared.rows.Conn.{Conn}
use Rattle.data_rules.specs.declared.rows.Role.{Role}
use Rattle.data_rules.specs.declared.rows.Role.TheVariants.{New, Waiting, Bound, Closing}
use Rattle.data_rules.specs.Conns.{is_conn, role_in, role_of, with_role_if}
use Rattle.data_rules.specs.Places.{epoch_place_from}
use Rattle.data_rules.specs.Puts.{conn_of, is_bound_to, number_of}
use Rattle.cluster_runs.specs.CoresState.{Linked}
use Rattle.cluster_runs.specs.Machine.{Site}
use Rattle.cluster_runs.specs.Sent.{Connection, Knew, Mark, Place}
use Rattle.cluster_invariant.specs.Dials.{BoundIs, BoundTo, CameFor, ClosingIs, GreatestDial, IsNewest, LinkedTo, NodeDials, RoleIs}
use Rattle.cluster_invariant.specs.Ends.{HelloAlone}
use Rattle.cluster_invariant.specs.Words.{all_differ, is_reset_frame}
use Rattle.cluster_invariant.proofs.ConnRoles.{bound_role}
use Rattle.cluster_invariant.proofs.PiecesOfCloses.{role_given}
use Rattle.cluster_invariant.proofs.Small.{of_some}
use Rattle.cluster_invariant.proofs.Written.{entered_place}
use Rattle.dials_server.proofs.ClosedNodes.{linked_as, numbers_kept, other_bound, other_role}

-- an order with an Open more

pub opened_live : (es : List Entry) (s app : ℕ) → live (es ++ Opened s app ∷ []) s ≡ true
opened_live es s app = live-push es (Opened s app) s ∙ ap (λ (b : Bool). if b then true else live es s) (eq-eqb s s refl)

pub others_live : (es : List Entry) (s app q : ℕ) → q ≢ s → live (es ++ Opened s app ∷ []) q ≡ live es q
others_live es s app q apart = live-push es (Opened s app) q ∙ ap (λ (b : Bool). if b then true else live es q) (ne_eqb s q (λ same. apart (sym same)))

pub opened_app : (es : List Entry) (s app : ℕ) → app_in (es ++ Opened s app ∷ []) s ≡ Some app
opened_app es s app = app_from-push None es (Opened s app) s ∙ ap (λ (b : Bool). if b then Some app else app_in es s) (eq-eqb s s refl)

pub others_app : (es : List Entry) (s app q : ℕ) → q ≢ s → app_in (es ++ Opened s app ∷ []) q ≡ app_in es q
others_app es s app q apart = app_from-push None es (Opened s app) q ∙ ap (λ (b : Bool). if b then Some app else app_in es q) (ne_eqb s q (λ same. apart (sym same)))

still_ended : (es : List Entry) (s app q : ℕ) → list_any (closes q) es ≡ true → list_any (closes q) (es ++ Opened s app ∷ []) ≡ true
still_ended es s app q is = list_any-append (closes q) es (Opened s app ∷ []) ∙ ap (λ (b : Bool). b || list_any (closes q) (Opened s app ∷ [])) is

-- the last Epoch stands in the list
place_within : (found k : ℕ) (es : List Entry) → found ≤ k → epoch_place_from found k es ≤ k + length es
place_within found k [] low = omega (arith, low)
place_within found k (Epoch number ∷ es) low = omega (arith, place_within (k + 1) (k + 1) es (omega arith))
place_within found k (Opened session app ∷ es) low = omega (arith, place_within found (k + 1) es (omega (arith, low)))
place_within found k (Closed session ∷ es) low = omega (arith, place_within found (k + 1) es (omega (arith, low)))
place_within found k (Update session w job txn op ∷ es) low = omega (arith, place_within found (k + 1) es (omega (arith, low)))
place_within found k (Commit session w job txn ∷ es) low = omega (arith, place_within found (k + 1) es (omega (arith, low)))
place_within found k (Rollback session w job txn ∷ es) low = omega (arith, place_within found (k + 1) es (omega (arith, low)))

-- no session of a number above the length stands in the list
pub record Within (es : List Entry) : Type 0 where
  pub dead : (q : ℕ) → length es < q → live es q ≡ false
  pub unopened : (q : ℕ) → length es < q → app_in es q ≡ None

pub within_more : (es : List Entry) (app : ℕ) → Within es → Within (es ++ Opened (length es + 1) app ∷ [])
within_more es app is = record {
  dead = λ q above. others_live es (length es + 1) app q (apart q above) ∙ is.dead q (low q above);
  unopened = λ q above. others_app es (length es + 1) app q (apart q above) ∙ is.unopened q (low q above);
}
  where
    low : (q : ℕ) → length (es ++ Opened (length es + 1) app ∷ []) < q → length es < q
    low q above = omega (arith, above, length-append es (Opened (length es + 1) app ∷ []))

    apart : (q : ℕ) → length (es ++ Opened (length es + 1) app ∷ []) < q → q ≢ length es + 1
    apart q above same = absurd (omega (arith, above, same, length-append es (Opened (length es + 1) app ∷ [])))

-- What a Hello that waited makes of a node.
pub record OpensOne (n m : DataState) (app conn : ℕ) : Type 0 where
  pub order : m.order ≡ n.order ++ Opened (length n.order + 1) app ∷ []
  pub dials : m.dials ≡ n.dials
  pub conns : m.conns ≡ map (with_role_if conn (Bound (length n.order + 1))) n.conns

-- Of a session with so high a number nothing was said, and it learnt of no order.
pub record IsFresh (x : Site) (s : ℕ) : Type 0 where
  pub unlearnt : (x.lane_at s x.past).began ≡ None
  pub unsaid : (a k : ℕ) (c : Connection) → (x.end_at a).connection_at k ≡ Some c → c.its ≡ Some (record { session = s; order = x.past }) → ⊥

module _ (x : Site) (n m : DataState) (app conn : ℕ) (one : OpensOne n m app conn) (within : Within n.order) (waits : role_of n conn ≡ Some Waiting)
    (linked : LinkedTo x conn app HelloAlone) (is_fresh : IsFresh x (length n.order + 1)) (is : NodeDials x n)
  where
    there : (cs : List Conn) → option_map role_in (find (is_conn conn) cs) ≡ Some Waiting → is_some (find (is_conn conn) cs) ≡ true
    there cs role = go (find (is_conn conn) cs) role
      where
        go : (o : Option Conn) → option_map role_in o ≡ Some Waiting → is_some o ≡ true
        go None its = absurd (cc (its))
        go (Some c) its = refl

    -- a live session is another
    other_live : (q : ℕ) → live n.order q ≡ true → q ≢ length n.order + 1
    other_live q lives same =
        false≢true (sym (within.dead (length n.order + 1) (omega arith)) ∙ ap (live n.order) (sym same) ∙ lives)

    other_opened : (q a : ℕ) → app_in n.order q ≡ Some a → q ≢ length n.order + 1
    other_opened q a opened same =
        (let both : ◌≡◌ {A = Option ℕ} None (Some a) = sym (within.unopened (length n.order + 1) (omega arith)) ∙ ap (app_in n.order) (sym same) ∙ opened in absurd cc)

    came_on : (q : ℕ) (knew : Knew) (o : Option Mark) → CameFor n.order q knew o → CameFor (n.order ++ Opened (length n.order + 1) app ∷ []) q knew o
    came_on q knew None is_so = subst (λ (i : ℕ). i < q) (sym (entered_place (Opened (length n.order + 1) app) tt 0 0 n.order)) is_so
    came_on q knew (Some mark) is_so = is_so

    bound_on : (k q : ℕ) → k ≢ conn → BoundIs x n k q → BoundIs x m k q
    bound_on k q apart at = record {
      lives = ap (λ (es : List Entry). live es q) one.order ∙ others_live n.order (length n.order + 1) app q (other_live q at.lives) ∙ at.lives;
      its =
          ap (λ (cs : List Conn). option_map number_of (find (is_bound_to q) cs)) one.conns
          ∙ other_bound conn (Bound (length n.order + 1)) q k n.conns (ne_eqb (length n.order + 1) q (λ same. other_live q at.lives (sym same))) apart at.its;
      app = at.app;
      opened = ap (λ (es : List Entry). app_in es q) one.order ∙ others_app n.order (length n.order + 1) app q (other_live q at.lives) ∙ at.opened;
      linked =
          subst (λ (es : List Entry). LinkedTo x k at.app (BoundTo x es q)) (sym one.order)
          (linked_as x k at.app (BoundTo x n.order q) (BoundTo x (n.order ++ Opened (length n.order + 1) app ∷ []) q)
          (λ c on. record {
            carries = on.carries;
            came = came_on q c.knew c.knew.mark on.came;
            told = on.told;
            silent = on.silent;
            unreset = on.unreset;
          }) at.linked);
      newest = at.newest;
    }

    closing_on : (k q : ℕ) → ClosingIs x n k q → ClosingIs x m k q
    closing_on k q at = record {
      ended = ap (λ (es : List Entry). list_any (closes q) es) one.order ∙ still_ended n.order (length n.order + 1) app q at.ended;
      app = at.app;
      opened = ap (λ (es : List Entry). app_in es q) one.order ∙ others_app n.order (length n.order + 1) app q (other_opened q at.app at.opened) ∙ at.opened;
      linked = at.linked;
    }

    role_on : (k : ℕ) (r : Role) → k ≢ conn → RoleIs x n k r → RoleIs x m k r
    role_on k New apart at = at
    role_on k Waiting apart at = at
    role_on k (Bound q) apart at = bound_on k q apart at
    role_on k (Closing q) apart at = closing_on k q at

    -- the session's own connection
    hello_bound : (c : Connection) → HelloAlone c → BoundTo x (n.order ++ Opened (length n.order + 1) app ∷ []) (length n.order + 1) c
    hello_bound c on = record {
      carries = subst (λ (o : Option Place). IfSome o (λ p. p ≡ record { session = length n.order + 1; order = x.past })) (sym on.its) tt;
      came =
          subst (λ (o : Option Mark). CameFor (n.order ++ Opened (length n.order + 1) app ∷ []) (length n.order + 1) c.knew o) (sym on.hello)
          (subst (λ (i : ℕ). i < length n.order + 1) (sym (entered_place (Opened (length n.order + 1) app) tt 0 0 n.order))
          (omega (arith, place_within 0 0 n.order (omega arith))));
      told = λ begun. absurd (false≢true (ap (λ (o : Option ℕ). is_some o) (sym is_fresh.unlearnt) ∙ begun));
      silent = λ none. on.silent;
      unreset = ap (λ gs. list_any is_reset_frame gs) on.silent;
    }

    bound_number : (cs : List Conn) → option_map role_in (find (is_conn conn) cs) ≡ Some Waiting → option_map number_of (find (is_bound_to (length n.order + 1)) cs) ≡ None
        → option_map number_of (find (is_bound_to (length n.order + 1)) (map (with_role_if conn (Bound (length n.order + 1))) cs)) ≡ Some conn
    bound_number [] waiting none = absurd (cc (waiting))
    bound_number (c ∷ cs) waiting none = go (c.number == conn) refl (is_bound_to (length n.order + 1) c) refl waiting none (bound_number cs)
      where
        go : (b : Bool) → (c.number == conn) ≡ b → (t : Bool) → is_bound_to (length n.order + 1) c ≡ t → option_map role_in (cond b (Some c) (find (is_conn conn) cs)) ≡ Some Waiting
            → option_map number_of (cond t (Some c) (find (is_bound_to (length n.order + 1)) cs)) ≡ None
            → (option_map role_in (find (is_conn conn) cs) ≡ Some Waiting → option_map number_of (find (is_bound_to (length n.order + 1)) cs) ≡ None
            → option_map number_of (find (is_bound_to (length n.order + 1)) (map (with_role_if conn (Bound (length n.order + 1))) cs)) ≡ Some conn)
            → option_map number_of (cond (is_bound_to (length n.order + 1) (if b then record c { role = Bound (length n.order + 1) } else c))
            (Some (if b then record c { role = Bound (length n.order + 1) } else c)) (find (is_bound_to (length n.order + 1)) (map (with_role_if conn (Bound (length n.order + 1))) cs)))
            ≡ Some conn
        go b same true bound waiting none more = absurd (cc (none))
        go true same false bound waiting none more =
            ap (λ (t : Bool). option_map number_of (cond t (Some (record c { role = Bound (length n.order + 1) })) (find (is_bound_to (length n.order + 1)) (map (with_role_if conn (Bound (length n.order + 1))) cs))))
            (eq-eqb (length n.order + 1) (length n.order + 1) refl)
            ∙ ap (λ (i : ℕ). Some i) (eqb-true c.number conn same)
        go false other false bound waiting none more =
            ap (λ (t : Bool). option_map number_of (cond t (Some c) (find (is_bound_to (length n.order + 1)) (map (with_role_if conn (Bound (length n.order + 1))) cs)))) bound
            ∙ more waiting none

    -- no connection is the new session's yet
    none_yet : conn_of n (length n.order + 1) ≡ None
    none_yet = go (conn_of n (length n.order + 1)) refl
      where
        go : (o : Option ℕ) → conn_of n (length n.order + 1) ≡ o → o ≡ None
        go None its = refl
        go (Some k) its =
            absurd
            (other_live (length n.order + 1)
            (of_some (RoleIs x n k) (role_of n k) (Bound (length n.order + 1)) (bound_role (length n.order + 1) n.conns k is.differ its) (is.roles k)).lives refl)

    own : BoundIs x m conn (length n.order + 1)
    own = record {
      lives = ap (λ (es : List Entry). live es (length n.order + 1)) one.order ∙ opened_live n.order (length n.order + 1) app;
      its = ap (λ (cs : List Conn). option_map number_of (find (is_bound_to (length n.order + 1)) cs)) one.conns ∙ bound_number n.conns waits none_yet;
      app = app;
      opened = ap (λ (es : List Entry). app_in es (length n.order + 1)) one.order ∙ opened_app n.order (length n.order + 1) app;
      linked =
          subst (λ (es : List Entry). LinkedTo x conn app (BoundTo x es (length n.order + 1))) (sym one.order)
          (linked_as x conn app HelloAlone (BoundTo x (n.order ++ Opened (length n.order + 1) app ∷ []) (length n.order + 1)) hello_bound linked);
      newest =
          subst (λ (o : Option Linked). IfSome o (λ l. IsNewest (x.end_at app) (length n.order + 1) x.past l.dial)) (sym linked.link)
          (λ number. unsaid number ((x.end_at app).connection_at number) refl);
    }
      where
        unsaid : (number : ℕ) (o : Option Connection) → (x.end_at app).connection_at number ≡ o
            → IfSome o (λ c. c.its ≡ Some (record { session = length n.order + 1; order = x.past }) → number ≤ linked.dial)
        unsaid number None it = tt
        unsaid number (Some c) it = λ its. absurd (is_fresh.unsaid app number c it its)

    pub node_opens : NodeDials x m
    node_opens = record {
      places = ap (λ (ds : List ℕ). length ds) one.dials ∙ is.places;
      dials = λ a low. subst (λ (ds : List ℕ). GreatestDial x.past (x.end_at a) (get_or ds a 0)) (sym one.dials) (is.dials a low);
      differ = ap (λ (cs : List Conn). all_differ (map number_of cs)) one.conns ∙ ap all_differ (numbers_kept conn (Bound (length n.order + 1)) n.conns) ∙ is.differ;
      roles = λ k. subst (λ (cs : List Conn). IfSome (option_map role_in (find (is_conn k) cs)) (RoleIs x m k)) (sym one.conns) (each k (k == conn) refl);
    }
      where
        each : (k : ℕ) (b : Bool) → (k == conn) ≡ b → IfSome (option_map role_in (find (is_conn k) (map (with_role_if conn (Bound (length n.order + 1))) n.conns))) (RoleIs x m k)
        each k true same =
            subst (λ (i : ℕ). IfSome (option_map role_in (find (is_conn i) (map (with_role_if conn (Bound (length n.order + 1))) n.conns))) (RoleIs x m i)) (sym (eqb-true k conn same))
            (subst (λ (o : Option Role). IfSome o (RoleIs x m conn)) (sym (role_given conn (Bound (length n.order + 1)) n.conns (there n.conns waits))) own)
        each k false other =
            subst (λ (o : Option Role). IfSome o (RoleIs x m k)) (sym (other_role conn (Bound (length n.order + 1)) k n.conns apart)) (go (role_of n k) (is.roles k))
          where
            apart : k ≢ conn
            apart same = false≢true (sym other ∙ eq-eqb k conn same)

            go : (o : Option Role) → IfSome o (RoleIs x n k) → IfSome o (RoleIs x m k)
            go None at = tt
            go (Some r) at = role_on k r apart at
