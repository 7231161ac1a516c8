-- What a data server's node has of the connections, as it takes the first frame of one of them.
use Rattle.std.proofs.Common.{◌≡◌, ◌⊎◌, ◌≢◌, ◌≤◌, ℕ, Bool, true, false, ◌&&◌, ◌==◌, if◌then◌else◌, Option, Some, None, is_some, option_map, refl, sym, ◌∙◌, ap, subst, arith, inl, inr, ◌<◌, List, map, length}
use Rattle.std.specs.Prelude.{IfSome, IsSomeAnd, get_or, set}
use Rattle.std.proofs.lemmas.Bool.{eq-eqb, eqb-true, false≢true, ne_eqb}
use Rattle.data_rules.specs.declared.rows.Role.{Role}
use Rattle.data_rules.specs.declared.rows.Role.TheVariants.{New, Waiting, Bound, Closing}
use Rattle.data_rules.specs.DataState.{DataState}
use Rattle.cluster_runs.specs.CoresState.{Linked}
use Rattle.cluster_runs.specs.Machine.{Site}
use Rattle.cluster_runs.specs.Sent.{Connection, FirstTaken}
use Rattle.cluster_runs.specs.Connections.{first_else, is_link, link_in, link_of, linked_if, up_taken}
use Rattle.cluster_invariant.specs.Dials.{BoundTo, ClosedOn, GreatestDial, IsNewest, LinkedTo, RoleIs, is_connection_in, is_taken_in, NodeDials}
use Rattle.std.specs.List.{find, list_any}
use Rattle.std.proofs.lemmas.List.{length-set, get_or-set_other, get_or-set_same}
use Rattle.plain_orders.specs.declared.entry.Entry.{Entry}
use Rattle.plain_orders.specs.Entries.{closes, live}
use Rattle.plain_orders.specs.Sessions.{app_in}
use Rattle.data_rules.specs.declared.limits.TheConstants.{APP_LIMIT}
use Rattle.data_rules.specs.declared.rows.Conn.{Conn}
use Rattle.data_rules.specs.Callers.{dial_of}
use Rattle.data_rules.specs.Conns.{is_conn, role_in, role_of, with_role_if}
use Rattle.data_rules.specs.Puts.{is_bound_to, is_role_of, number_of}
use Rattle.cluster_invariant.specs.Words.{all_differ}
use Rattle.cluster_invariant.proofs.PiecesOfCloses.{role_given}
use Rattle.dials_server.proofs.ClosedNodes.{numbers_kept, other_bound, other_role}
use Rattle.dials_server.proofs.LinkWords.{is_link_true}
use Rattle.dials_server.proofs.TakenFrames.{site_taken}

module _ (x : Site) (conn : ℕ) (l : Linked) (on : Connection) (there : (x.end_at l.app).connection_at l.dial ≡ Some on) (none : on.first ≡ None) where
  abbrev z : Site
  z = site_taken x conn l (Some l)

  -- other data connections are linked as they were
  link_same : (i : ℕ) → i ≢ conn → link_of z i ≡ link_of x i
  link_same i apart = ap (λ (b : Bool). link_in (if b then option_map (linked_if (Some l)) (x.connection_at i) else x.connection_at i)) (ne_eqb i conn apart)

  link_is : (a d : ℕ) → is_link a d (Some l) ≡ true → l ≡ record { app = a; dial = d }
  link_is a d is = same l (record { app = a; dial = d }) (is_link_true a d (Some l) is)
    where
      same : (i j : Linked) → ◌≡◌ {A = Option Linked} (Some i) (Some j) → i ≡ j
      same i j both = cc (both)

  -- one of which a first frame was taken is another one
  elsewhere : (a d k i : ℕ) → IsSomeAnd ((x.end_at a).connection_at d) (λ c. c.first ≡ Some (record { order = k; conn = i })) → is_link a d (Some l) ≡ true → ⊥
  elsewhere a d k i first is =
      (let both : ◌≡◌ {A = Option FirstTaken} None (Some (record { order = k; conn = i }))
      = sym none
      ∙ subst (λ (o : Option Connection). IsSomeAnd o (λ c. c.first ≡ Some (record { order = k; conn = i }))) there
      (subst (λ (j : Linked). IsSomeAnd ((x.end_at j.app).connection_at j.dial) (λ c. c.first ≡ Some (record { order = k; conn = i }))) (sym (link_is a d is)) first) in absurd cc)

  kept : (P Q : Connection → Type 0) → ((c : Connection) → P c → Q c) → (b : Bool) (o : Option Connection) → (b ≡ true → ⊥) → IsSomeAnd o P
      → IsSomeAnd (option_map (λ c. if b then up_taken x.past conn c else c) o) Q
  kept P Q goes true o other at = absurd (other refl)
  kept P Q goes false None other at = at
  kept P Q goes false (Some c) other at = goes c at

  linked_to : (P Q : Connection → Type 0) → ((c : Connection) → P c → Q c) → (i a : ℕ) → i ≢ conn → LinkedTo x i a P → LinkedTo z i a Q
  linked_to P Q goes i a apart at = record {
    dial = at.dial;
    link = link_same i apart ∙ at.link;
    first =
        kept (λ c. c.first ≡ Some (record { order = x.past; conn = i })) (λ c. c.first ≡ Some (record { order = x.past; conn = i })) (λ c was. was)
        (is_link a at.dial (Some l)) ((x.end_at a).connection_at at.dial) (elsewhere a at.dial x.past i at.first) at.first;
    its = kept P Q goes (is_link a at.dial (Some l)) ((x.end_at a).connection_at at.dial) (elsewhere a at.dial x.past i at.first) at.its;
  }

  newest : (a s k dial : ℕ) → IsNewest (x.end_at a) s k dial → IsNewest (z.end_at a) s k dial
  newest a s k dial at number = go (is_link a number (Some l)) ((x.end_at a).connection_at number) (at number)
    where
      go : (b : Bool) (o : Option Connection) → IfSome o (λ c. c.its ≡ Some (record { session = s; order = k }) → number ≤ dial)
          → IfSome (option_map (λ c. if b then up_taken x.past conn c else c) o) (λ c. c.its ≡ Some (record { session = s; order = k }) → number ≤ dial)
      go b None at = tt
      go true (Some c) at = at
      go false (Some c) at = at

  -- What other data connections are for stays.
  pub role_other : (n : DataState) (i : ℕ) (r : Role) → i ≢ conn → RoleIs x n i r → RoleIs z n i r
  role_other n i New apart at = link_same i apart ∙ at
  role_other n i Waiting apart at = ap (λ (o : Option Linked). is_some o) (link_same i apart) ∙ at
  role_other n i (Bound s) apart at = record {
    lives = at.lives;
    its = at.its;
    app = at.app;
    opened = at.opened;
    linked =
        linked_to (BoundTo x n.order s) (BoundTo z n.order s)
        (λ c was. record { carries = was.carries; came = was.came; told = was.told; silent = was.silent; unreset = was.unreset }) i at.app apart at.linked;
    newest =
        subst (λ (o : Option Linked). IfSome o (λ j. IsNewest (z.end_at at.app) s x.past j.dial)) (sym (link_same i apart))
        (by (link_of x i) at.newest);
  }
    where
      by : (o : Option Linked) → IfSome o (λ j. IsNewest (x.end_at at.app) s x.past j.dial) → IfSome o (λ j. IsNewest (z.end_at at.app) s x.past j.dial)
      by None at = tt
      by (Some j) now = newest at.app s x.past j.dial now
  role_other n i (Closing s) apart at = record {
    ended = at.ended;
    app = at.app;
    opened = at.opened;
    linked = linked_to (ClosedOn x s) (ClosedOn z s) (λ c was. record { carries = was.carries; came = was.came }) i at.app apart at.linked;
  }

  -- the greatest connection of an application server

  taken_up : (b : Bool) (o : Option Connection) → is_connection_in x.past o ≡ true → is_connection_in x.past (option_map (λ c. if b then up_taken x.past conn c else c) o) ≡ true
  taken_up b None is = absurd (false≢true is)
  taken_up false (Some c) is = is
  taken_up true (Some c) is = go c.first is
    where
      go : (t : Option FirstTaken) → is_taken_in x.past t ≡ true → is_taken_in x.past (Some (first_else t (record { order = x.past; conn = conn }))) ≡ true
      go None is = absurd (false≢true is)
      go (Some t) is = is

  taken_before : (a k : ℕ) (b : Bool) → is_link a k (Some l) ≡ b → (o : Option Connection)
      → is_connection_in x.past (option_map (λ c. if b then up_taken x.past conn c else c) o) ≡ true → (is_connection_in x.past o ≡ true) ⊎ (is_link a k (Some l) ≡ true)
  taken_before a k true on o is = inr on
  taken_before a k false off None is = absurd (false≢true is)
  taken_before a k false off (Some c) is = inl is

  -- it stays, where the one that it takes is no later
  pub greatest_stays : (a dial : ℕ) → (l.app ≡ a → l.dial ≤ dial) → GreatestDial x.past (x.end_at a) dial → GreatestDial x.past (z.end_at a) dial
  greatest_stays a dial low at = record {
    taken = λ some. taken_up (is_link a dial (Some l)) ((x.end_at a).connection_at dial) (at.taken some);
    greatest =
        λ number is.
        by number (taken_before a number (is_link a number (Some l)) refl ((x.end_at a).connection_at number) is);
  }
    where
      by : (number : ℕ) → (is_connection_in x.past ((x.end_at a).connection_at number) ≡ true) ⊎ (is_link a number (Some l) ≡ true) → number ≤ dial
      by number (inl was) = at.greatest number was
      by number (inr now) = omega (arith, ap (λ (j : Linked). j.dial) (link_is a number now), low (ap (λ (j : Linked). j.app) (link_is a number now)))

  -- and else is the one that it takes
  pub greatest_now : (dial : ℕ) → dial ≤ l.dial → GreatestDial x.past (x.end_at l.app) dial → GreatestDial x.past (z.end_at l.app) l.dial
  greatest_now dial low at = record {
    taken =
        λ some.
        subst (λ (o : Option Connection). is_connection_in x.past (option_map (λ c. if is_link l.app l.dial (Some l) then up_taken x.past conn c else c) o) ≡ true) (sym there)
        (ap (λ (b : Bool). is_taken_in x.past (if b then up_taken x.past conn on else on).first) itself
        ∙ ap (λ (t : Option FirstTaken). is_taken_in x.past (Some (first_else t (record { order = x.past; conn = conn })))) none ∙ eq-eqb x.past x.past refl);
    greatest =
        λ number is.
        by number (taken_before l.app number (is_link l.app number (Some l)) refl ((x.end_at l.app).connection_at number) is);
  }
    where
      itself : is_link l.app l.dial (Some l) ≡ true
      itself = ap (λ (b : Bool). b && (l.dial == l.dial)) (eq-eqb l.app l.app refl) ∙ eq-eqb l.dial l.dial refl

      by : (number : ℕ) → (is_connection_in x.past ((x.end_at l.app).connection_at number) ≡ true) ⊎ (is_link l.app number (Some l) ≡ true) → number ≤ l.dial
      by number (inl was) = omega (arith, at.greatest number was, low)
      by number (inr now) = omega (arith, ap (λ (j : Linked). j.dial) (link_is l.app number now))

  -- The node, as the connection is for something then and its dial counts.
  pub node_first : (n k : DataState) (r : Role) → k.order ≡ n.order → k.conns ≡ map (with_role_if conn r) n.conns → k.dials ≡ set n.dials l.app l.dial
      → dial_of n l.app ≤ l.dial → role_of n conn ≡ Some New → ((i s : ℕ) → role_of n i ≡ Some (Bound s) → is_role_of s r ≡ false) → RoleIs z k conn r → NodeDials x n
      → NodeDials z k
  node_first n k r order conns dials later role unlike now is = record {
    places = ap (λ (ds : List ℕ). length ds) dials ∙ length-set n.dials l.app l.dial ∙ is.places;
    dials = λ a low. subst (λ (ds : List ℕ). GreatestDial x.past (z.end_at a) (get_or ds a 0)) (sym dials) (dial a low (a == l.app) refl);
    differ = ap (λ (cs : List Conn). all_differ (map number_of cs)) conns ∙ ap all_differ (numbers_kept conn r n.conns) ∙ is.differ;
    roles = λ i. subst (λ (cs : List Conn). IfSome (option_map role_in (find (is_conn i) cs)) (RoleIs z k i)) (sym conns) (each i (i == conn) refl);
  }
    where
      dial : (a : ℕ) → a < APP_LIMIT → (b : Bool) → (a == l.app) ≡ b → GreatestDial x.past (z.end_at a) (get_or (set n.dials l.app l.dial) a 0)
      dial a low true same =
          subst (λ (i : ℕ). GreatestDial x.past (z.end_at i) (get_or (set n.dials l.app l.dial) i 0)) (sym its)
          (subst (λ (d : ℕ). GreatestDial x.past (z.end_at l.app) d)
          (sym (get_or-set_same n.dials l.app l.dial 0 (omega (arith, low, is.places, its))))
          (greatest_now (dial_of n l.app) later (is.dials l.app (omega (arith, low, its)))))
        where
          its : a ≡ l.app
          its = eqb-true a l.app same
      dial a low false other =
          subst (λ (d : ℕ). GreatestDial x.past (z.end_at a) d) (sym (get_or-set_other n.dials l.app a l.dial 0 apart))
          (greatest_stays a (dial_of n a) (λ same. absurd (apart (sym same))) (is.dials a low))
        where
          apart : a ≡ l.app → ⊥
          apart same = false≢true (sym other ∙ eq-eqb a l.app same)

      moved : (i : ℕ) (q : Role) → i ≢ conn → role_of n i ≡ Some q → RoleIs z n i q → RoleIs z k i q
      moved i New apart was at = at
      moved i Waiting apart was at = at
      moved i (Bound s) apart was at = record {
        lives = ap (λ (es : List Entry). live es s) order ∙ at.lives;
        its = ap (λ (cs : List Conn). option_map number_of (find (is_bound_to s) cs)) conns ∙ other_bound conn r s i n.conns (unlike i s was) apart at.its;
        app = at.app;
        opened = ap (λ (es : List Entry). app_in es s) order ∙ at.opened;
        linked = subst (λ (es : List Entry). LinkedTo z i at.app (BoundTo z es s)) (sym order) at.linked;
        newest = at.newest;
      }
      moved i (Closing s) apart was at = record {
        ended = ap (λ (es : List Entry). list_any (closes s) es) order ∙ at.ended;
        app = at.app;
        opened = ap (λ (es : List Entry). app_in es s) order ∙ at.opened;
        linked = at.linked;
      }

      there_is : (o : Option Conn) → option_map role_in o ≡ Some New → is_some o ≡ true
      there_is None its = absurd (cc (its))
      there_is (Some d) its = refl

      each : (i : ℕ) (b : Bool) → (i == conn) ≡ b → IfSome (option_map role_in (find (is_conn i) (map (with_role_if conn r) n.conns))) (RoleIs z k i)
      each i true same =
          subst (λ (j : ℕ). IfSome (option_map role_in (find (is_conn j) (map (with_role_if conn r) n.conns))) (RoleIs z k j)) (sym (eqb-true i conn same))
          (subst (λ (o : Option Role). IfSome o (RoleIs z k conn)) (sym (role_given conn r n.conns (there_is (find (is_conn conn) n.conns) role))) now)
      each i false other =
          subst (λ (o : Option Role). IfSome o (RoleIs z k i)) (sym (other_role conn r i n.conns apart)) (by (role_of n i) refl (is.roles i))
        where
          apart : i ≢ conn
          apart same = false≢true (sym other ∙ eq-eqb i conn same)

          by : (o : Option Role) → role_of n i ≡ o → IfSome o (RoleIs x n i) → IfSome o (RoleIs z k i)
          by None was at = tt
          by (Some q) was at = moved i q apart was (role_other n i q apart at)
