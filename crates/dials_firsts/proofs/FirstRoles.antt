-- What a data server's connections are for as it takes the first frame of one of them, whatever dial it counts then.
use Rattle.std.proofs.Common.{◌≡◌, ◌≢◌, ◌≤◌, ℕ, Bool, true, false, ◌==◌, List, map, length, Option, Some, None, is_some, option_map, refl, sym, ◌∙◌, ap, subst}
use Rattle.std.specs.Prelude.{IfSome, get_or}
use Rattle.std.specs.List.{find, list_any}
use Rattle.std.proofs.lemmas.Bool.{eq-eqb, eqb-true, false≢true}
use Rattle.plain_orders.specs.declared.entry.Entry.{Entry}
use Rattle.plain_orders.specs.Entries.{closes, live}
use Rattle.plain_orders.specs.Sessions.{app_in}
use Rattle.data_rules.specs.declared.rows.Conn.{Conn}
use Rattle.data_rules.specs.declared.rows.Role.{Role}
use Rattle.data_rules.specs.declared.rows.Role.TheVariants.{New, Waiting, Bound, Closing}
use Rattle.data_rules.specs.DataState.{DataState}
use Rattle.data_rules.specs.Callers.{dial_of}
use Rattle.data_rules.specs.Conns.{is_conn, role_in, role_of, with_role_if}
use Rattle.data_rules.specs.Puts.{is_bound_to, is_role_of, number_of}
use Rattle.cluster_runs.specs.CoresState.{Linked}
use Rattle.cluster_runs.specs.Machine.{Site}
use Rattle.cluster_runs.specs.Sent.{Connection}
use Rattle.cluster_invariant.specs.Dials.{BoundTo, GreatestDial, LinkedTo, NodeDials, RoleIs}
use Rattle.cluster_invariant.specs.Words.{all_differ}
use Rattle.cluster_invariant.proofs.PiecesOfCloses.{role_given}
use Rattle.cluster_invariant.proofs.Small.{of_some}
use Rattle.dials_server.proofs.ClosedNodes.{numbers_kept, other_bound, other_role}
use Rattle.dials_server.proofs.FirstNodes.{greatest_stays, role_other}
use Rattle.dials_server.proofs.TakenFrames.{site_taken}

-- one connection is for something else

module _ (conn : ℕ) (r : Role) (n k : DataState) (order : k.order ≡ n.order) (conns : k.conns ≡ map (with_role_if conn r) n.conns)
    (there : is_some (role_of n conn) ≡ true)
    (unlike : (i s : ℕ) → role_of n i ≡ Some (Bound s) → is_role_of s r ≡ false)
  where
    moved : (z : Site) (i : ℕ) (q : Role) → i ≢ conn → role_of n i ≡ Some q → RoleIs z n i q → RoleIs z k i q
    moved z i New apart was at = at
    moved z i Waiting apart was at = at
    moved z i (Bound s) apart was at = record {
      lives = ap (λ (es : List Entry). live es s) order ∙ at.lives;
      its = ap (λ (cs : List Conn). option_map number_of (find (is_bound_to s) cs)) conns ∙ other_bound conn r s i n.conns (unlike i s was) apart at.its;
      app = at.app;
      opened = ap (λ (es : List Entry). app_in es s) order ∙ at.opened;
      linked = subst (λ (es : List Entry). LinkedTo z i at.app (BoundTo z es s)) (sym order) at.linked;
      newest = at.newest;
    }
    moved z i (Closing s) apart was at = record {
      ended = ap (λ (es : List Entry). list_any (closes s) es) order ∙ at.ended;
      app = at.app;
      opened = ap (λ (es : List Entry). app_in es s) order ∙ at.opened;
      linked = at.linked;
    }

    found : (cs : List Conn) → is_some (option_map role_in (find (is_conn conn) cs)) ≡ true → is_some (find (is_conn conn) cs) ≡ true
    found cs is = go (find (is_conn conn) cs) is
      where
        go : (o : Option Conn) → is_some (option_map role_in o) ≡ true → is_some o ≡ true
        go None none = none
        go (Some d) some = refl

    -- All of them, where the others are for what they were for.
    pub roles_given : (z : Site) → ((i : ℕ) (q : Role) → i ≢ conn → role_of n i ≡ Some q → RoleIs z n i q) → RoleIs z k conn r → (i : ℕ)
        → IfSome (role_of k i) (RoleIs z k i)
    roles_given z others now i = subst (λ (cs : List Conn). IfSome (option_map role_in (find (is_conn i) cs)) (RoleIs z k i)) (sym conns)
        (each (i == conn) refl)
      where
        each : (b : Bool) → (i == conn) ≡ b → IfSome (option_map role_in (find (is_conn i) (map (with_role_if conn r) n.conns))) (RoleIs z k i)
        each true same =
            subst (λ (j : ℕ). IfSome (option_map role_in (find (is_conn j) (map (with_role_if conn r) n.conns))) (RoleIs z k j)) (sym (eqb-true i conn same))
            (subst (λ (o : Option Role). IfSome o (RoleIs z k conn)) (sym (role_given conn r n.conns (found n.conns there))) now)
        each false other =
            subst (λ (o : Option Role). IfSome o (RoleIs z k i)) (sym (other_role conn r i n.conns apart)) (by (role_of n i) refl)
          where
            apart : i ≢ conn
            apart same = false≢true (sym other ∙ eq-eqb i conn same)

            by : (o : Option Role) → role_of n i ≡ o → IfSome o (RoleIs z k i)
            by None was = tt
            by (Some q) was = moved z i q apart was (others i q apart was)

    -- The node of a site that stays has what it should have then.
    pub node_role : (z : Site) → k.dials ≡ n.dials → RoleIs z k conn r → NodeDials z n → NodeDials z k
    node_role z dials now is = record {
      places = ap (λ (ds : List ℕ). length ds) dials ∙ is.places;
      dials = λ a low. subst (λ (ds : List ℕ). GreatestDial z.past (z.end_at a) (get_or ds a 0)) (sym dials) (is.dials a low);
      differ = ap (λ (cs : List Conn). all_differ (map number_of cs)) conns ∙ ap all_differ (numbers_kept conn r n.conns) ∙ is.differ;
      roles = roles_given z (λ i q apart was. of_some (RoleIs z n i) (role_of n i) q was (is.roles i)) now;
    }

-- A first frame that is older than others leaves the greatest dials.
pub node_older : (x : Site) (conn : ℕ) (l : Linked) (on : Connection) (there : (x.end_at l.app).connection_at l.dial ≡ Some on) (none : on.first ≡ None)
    (n k : DataState) (r : Role)
    → k.order ≡ n.order → k.conns ≡ map (with_role_if conn r) n.conns → k.dials ≡ n.dials → l.dial ≤ dial_of n l.app → role_of n conn ≡ Some New
    → ((i s : ℕ) → role_of n i ≡ Some (Bound s) → is_role_of s r ≡ false) → RoleIs (site_taken x conn l (Some l)) k conn r → NodeDials x n
    → NodeDials (site_taken x conn l (Some l)) k
node_older x conn l on there none n k r order conns dials low role unlike now is = record {
  places = ap (λ (ds : List ℕ). length ds) dials ∙ is.places;
  dials =
      λ a within. subst (λ (ds : List ℕ). GreatestDial z.past (z.end_at a) (get_or ds a 0)) (sym dials)
      (greatest_stays x conn l on there none a (dial_of n a) (λ same. subst (λ (i : ℕ). l.dial ≤ dial_of n i) same low) (is.dials a within));
  differ = ap (λ (cs : List Conn). all_differ (map number_of cs)) conns ∙ ap all_differ (numbers_kept conn r n.conns) ∙ is.differ;
  roles =
      roles_given conn r n k order conns (ap (λ (o : Option Role). is_some o) role) unlike z
      (λ i q apart was. role_other x conn l on there none n i q apart (of_some (RoleIs x n i) (role_of n i) q was (is.roles i))) now;
}
  where
    z : Site
    z = site_taken x conn l (Some l)
