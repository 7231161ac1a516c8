-- What was put of a session in an order is all on its way, on a connection that carries its messages, by what is known of connections.
use Rattle.std.proofs.Common.{Bool, List, None, Option, Some, [], ap, drop, false, is_some, not, refl, subst, suc, sym, true, zero, ℕ, ◌==◌, ◌||◌, ◌∙◌, ◌∷◌}
use Rattle.std.proofs.Common.{◌≡◌, ◌≢◌}
use Rattle.std.proofs.lemmas.Bool.{eqb-true, false≢true, true≢false}
use Rattle.std.specs.List.{AllByRecursion, list_any}
use Rattle.std.specs.Prelude.{IfSome, IsSomeAnd}
use Rattle.cluster_invariant.proofs.Small.{of_some}
use Rattle.cluster_invariant.specs.Dials.{BoundIs, BoundTo, CarriesOf, ClosedOn, ClosingIs, ConnectionIs, DialsAre, FirstIs, NodeDials, RoleIs, has_conn}
use Rattle.cluster_invariant.specs.Dials.{is_left_at}
use Rattle.cluster_invariant.specs.Ends.{CallerIs, HelloAlone, NodeEnds, is_caller_on}
use Rattle.cluster_invariant.specs.Link.{DownWhole, LaneCounts, WholeIf}
use Rattle.cluster_invariant.specs.Words.{numbered_behind, numbered_downs}
use Rattle.cluster_runs.specs.Connections.{link_of}
use Rattle.cluster_runs.specs.Machine.{Site}
use Rattle.cluster_runs.specs.Sent.{Connection, FirstTaken, Lane, Place}
use Rattle.data_rules.specs.Conns.{role_of}
use Rattle.data_rules.specs.DataState.{DataState}
use Rattle.data_rules.specs.declared.rows.Caller.{Caller}
use Rattle.data_rules.specs.declared.rows.Role.{Role}
use Rattle.data_rules.specs.declared.rows.Role.TheVariants.{Bound, Closing, New, Waiting}
use Rattle.ecp_messages.specs.declared.down.Down.{Down}
use Rattle.ecp_messages.specs.declared.down.DownFrame.{DownFrame}
use Rattle.end_words.specs.Windows.{numbered_from}
use Rattle.link_downs.proofs.LinkedConns.{linked_at}
use Rattle.link_nodes.proofs.ClosedSessions.{closed_dead}
use Rattle.plain_orders.specs.Entries.{closes, live}
use Rattle.plain_orders.specs.Ordered.{IsOrdered}
use Rattle.plain_runs.specs.Plain.{Server}

module _ (w : Server) (y : Site) (dead : ℕ → Bool) (n : DataState) (runs : y.node ≡ Some n) (dials : DialsAre w y dead) (ends : NodeEnds w y n)
    (ordered : IsOrdered n.order)
    (a number : ℕ) (d : Connection) (it : (y.end_at a).connection_at number ≡ Some d) where
  d_is : ConnectionIs w y a number d
  d_is = of_some (ConnectionIs w y a number) ((y.end_at a).connection_at number) d it ((dials.pairs a).each number)

  nodes : NodeDials y n
  nodes = of_some (NodeDials y) y.node n runs dials.node

  none_some : {X : Type 0} {z : X} → None ≡ Some z → ⊥
  none_some same = cc

  module _ (f : FirstTaken) (first : d.first ≡ Some f) where
    pub linked_after : link_of y f.conn ≡ Some (record { app = a; dial = number })
    linked_after = (of_some (FirstIs w y a number) d.first f first d_is.where_taken).linked

    -- it was left just where the node doesn't have it
    pub left_after : d.data_left ≡ not (is_some (role_of n f.conn))
    left_after =
        d_is.data_left ∙ ap (is_left_at y) first ∙ ap not (dials.here f.conn ∙ ap (λ (o : Option DataState). has_conn o f.conn) runs)

    -- a connection of a session that is linked to it
    pub bound_after : (r : ℕ) → role_of n f.conn ≡ Some (Bound r) → BoundIs y n f.conn r
    bound_after r role = of_some (RoleIs y n f.conn) (role_of n f.conn) (Bound r) role (nodes.roles f.conn)

    pub bound_to_after : (r : ℕ) → role_of n f.conn ≡ Some (Bound r) → BoundTo y n.order r d
    bound_to_after r role =
        (linked_at y f.conn (bound_after r role).app a number (BoundTo y n.order r) d (bound_after r role).linked linked_after it).1

    pub closing_after : (r : ℕ) → role_of n f.conn ≡ Some (Closing r) → ClosingIs y n f.conn r
    closing_after r role = of_some (RoleIs y n f.conn) (role_of n f.conn) (Closing r) role (nodes.roles f.conn)

    pub closed_on_after : (r : ℕ) → role_of n f.conn ≡ Some (Closing r) → ClosedOn y r d
    closed_on_after r role =
        (linked_at y f.conn (closing_after r role).app a number (ClosedOn y r) d (closing_after r role).linked linked_after it).1

    -- it isn't new, and where a Hello waits on it nothing was put on it
    pub not_new : role_of n f.conn ≡ Some New → ⊥
    not_new role = none_some (sym (of_some (RoleIs y n f.conn) (role_of n f.conn) New role (nodes.roles f.conn)) ∙ linked_after)

    pub waiting_alone : role_of n f.conn ≡ Some Waiting → HelloAlone d
    waiting_alone role = go n.callers (ends.callers.all f.conn role) ends.callers.each
      where
        alone : (z : Caller) → CallerIs n y z → z.conn ≡ f.conn → HelloAlone d
        alone z is same = (linked_at y z.conn z.app a number HelloAlone d is.linked (ap (link_of y) same ∙ linked_after) it).1

        go : (zs : List Caller) → list_any (is_caller_on f.conn) zs ≡ true → AllByRecursion (CallerIs n y) zs → HelloAlone d
        go [] some each = absurd (false≢true some)
        go (z ∷ zs) some each = by (z.conn == f.conn) refl some (λ more. go zs more each.1)
          where
            by : (b : Bool) → (z.conn == f.conn) ≡ b → (b || list_any (is_caller_on f.conn) zs) ≡ true
                → (list_any (is_caller_on f.conn) zs ≡ true → HelloAlone d) → HelloAlone d
            by true same here more = alone z each.0 (eqb-true z.conn f.conn same)
            by false other rest more = more rest

  module _ (s k : ℕ) (left : List DownFrame) (its : d.its ≡ Some (record { session = s; order = k }))
      (whole : numbered_downs left ≡ numbered_behind (y.lane_at s k).down_taken (y.lane_at s k).down) where
    its_none : (o : Option Place) → o ≡ Some (record { session = s; order = k }) → o ≡ None → ⊥
    its_none o some none = cc

    carries : CarriesOf w a d.first (record { session = s; order = k })
    carries = of_some (CarriesOf w a d.first) d.its (record { session = s; order = k }) its d_is.its

    same_session : (r : ℕ) → IfSome d.its (λ p. p ≡ record { session = r; order = y.past }) → r ≡ s
    same_session r at =
        sym (ap (λ (p : Place). p.session)
        (of_some (λ (p : Place). p ≡ record { session = r; order = y.past }) d.its (record { session = s; order = k }) its at))

    at_first : (f : FirstTaken) → d.first ≡ Some f → d.data_left ≡ false → DownWhole n s f.conn (y.lane_at s k) left
    at_first f first here = go (role_of n f.conn) refl
      where
        gone : role_of n f.conn ≡ None → ⊥
        gone none = false≢true (sym here ∙ left_after f first ∙ ap (λ (o : Option Role). not (is_some o)) none)

        bound : (r : ℕ) → role_of n f.conn ≡ Some (Bound r) → r ≡ s → DownWhole n s f.conn (y.lane_at s k) left
        bound r role same = record {
          bound = λ lives. role ∙ ap (λ (i : ℕ). Some (Bound i)) same;
          whole = whole;
          closed = λ ended. absurd (true≢false (sym (subst (λ (i : ℕ). live n.order i ≡ true) same (bound_after f first r role).lives) ∙ ended));
        }

        closing : (r : ℕ) → role_of n f.conn ≡ Some (Closing r) → r ≡ s → DownWhole n s f.conn (y.lane_at s k) left
        closing r role same = record {
          bound =
              λ lives. absurd
              (true≢false
              (sym lives ∙ closed_dead n.order ordered s (subst (λ (i : ℕ). list_any (closes i) n.order ≡ true) same (closing_after f first r role).ended)));
          whole = whole;
          closed = λ ended. role ∙ ap (λ (i : ℕ). Some (Closing i)) same;
        }

        go : (o : Option Role) → role_of n f.conn ≡ o → DownWhole n s f.conn (y.lane_at s k) left
        go None role = absurd (gone role)
        go (Some New) role = absurd (not_new f first role)
        go (Some Waiting) role = absurd (its_none d.its its (waiting_alone f first role).its)
        go (Some (Bound r)) role = bound r role (same_session r (bound_to_after f first r role).carries)
        go (Some (Closing r)) role = closing r role (same_session r (closed_on_after f first r role).carries)

    pub whole_after : WholeIf y s k (y.lane_at s k) d left
    whole_after here past =
        subst (λ (o : Option DataState). IfSome o (λ (z : DataState). IsSomeAnd d.first (λ (f : FirstTaken). DownWhole z s f.conn (y.lane_at s k) left)))
        (sym runs)
        (go d.first refl carries.order)
      where
        go : (o : Option FirstTaken) → d.first ≡ o → IsSomeAnd o (λ (f : FirstTaken). f.order ≡ k)
            → IsSomeAnd o (λ (f : FirstTaken). DownWhole n s f.conn (y.lane_at s k) left)
        go None first order = absurd order
        go (Some f) first order = at_first f first here

  -- of a session that didn't learn of the order nothing was put
  pub whole_unlearnt : (s k : ℕ) → d.its ≡ Some (record { session = s; order = k }) → LaneCounts (y.lane_at s k) → (y.lane_at s k).began ≡ None
      → WholeIf y s k (y.lane_at s k) d []
  whole_unlearnt s k its counts unlearnt = whole_after s k [] its (sym (none (y.lane_at s k) (counts.no_down unlearnt)))
    where
      dropped : (i : ℕ) (ms : List Down) → ms ≡ [] → drop i ms ≡ []
      dropped zero ms is = is
      dropped (suc i) [] is = refl
      dropped (suc i) (m ∷ ms) is = absurd cc

      none : (z : Lane) → z.down ≡ [] → numbered_behind z.down_taken z.down ≡ []
      none z is = ap (numbered_from z.down_taken) (dropped z.down_taken z.down is)
