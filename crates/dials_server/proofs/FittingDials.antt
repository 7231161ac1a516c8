-- The part on connections, where fitting frames are put and the node has what it should have of the connections before them.
use Rattle.std.proofs.Common.{◌≡◌, ◌⊎◌, ◌≤◌, ℕ, Bool, false, not, List, [], ◌∷◌, ◌++◌, drop, length, Option, Some, None, is_some, option_map, refl, sym, ◌∙◌, ap, subst, arith, inl, inr}
use Rattle.std.specs.Prelude.{IfSome, IsSomeAnd, nat_lt}
use Rattle.std.specs.List.{list_all}
use Rattle.std.proofs.lemmas.Bool.{false≢true}
use Rattle.std.proofs.lemmas.List.{length-append}
use Rattle.plain_orders.specs.Sessions.{app_in}
use Rattle.plain_runs.specs.Plain.{Server, current, order_at}
use Rattle.ecp_messages.specs.declared.up.Up.{Up}
use Rattle.ecp_messages.specs.declared.up.UpFrame.{UpFrame}
use Rattle.ecp_messages.specs.declared.down.DownFrame.{DownFrame}
use Rattle.app_rules.specs.AppState.{AppEnd}
use Rattle.data_rules.specs.declared.down_frames.DownOut.{DownOut}
use Rattle.data_rules.specs.declared.rows.Role.TheVariants.{Bound}
use Rattle.data_rules.specs.DataState.{DataState}
use Rattle.data_rules.specs.Conns.{role_of}
use Rattle.cluster_runs.specs.CoresState.{Linked}
use Rattle.cluster_runs.specs.Sent.{Connection, FirstTaken, Knew, Mark, Place}
use Rattle.cluster_runs.specs.Machine.{Site, DataConnection}
use Rattle.cluster_runs.specs.Connections.{knows, knows_of, link_in, link_of, with_downs}
use Rattle.cluster_invariant.specs.Dials.{BoundIs, BoundTo, CarriesOf, ConnectionIs, DialsAre, FirstIs, IsLinkedBy, KnewIs, KnowsStill, LearntBy, LearntOn, NodeDials, PairDials, RoleIs, as_it_learns, first_frame, has_conn, is_following, is_here, is_left_at, is_made, taken_in}
use Rattle.cluster_invariant.specs.Words.{NoLess, is_wire}
use Rattle.cluster_invariant.proofs.Small.{of_some, some_kept}
use Rattle.dials_kept.proofs.ConnectionsGrow.{SiteGrows, StaysKnown, carries_later, first_later, knew_later, message_later}
use Rattle.dials_kept.proofs.ShortDials.{left_same, some_mapped, still_mapped}
use Rattle.dials_server.proofs.FittingFrames.{WelcomedOn, frames_on, its_on, linked_on}
use Rattle.dials_server.proofs.FittingNodes.{OnRole, PutsAll, bound_on, node_after, same_link}
use Rattle.dials_server.proofs.PlainFrames.{Hears, heard}

module _ (v w : Server) (x y : Site) (dead : ℕ → Bool) (n : DataState) (fs : List DownOut) (later : StaysKnown v w) (put : PutsAll x y n fs)
    (taken : (s k : ℕ) → (x.lane_at s k).down_taken ≤ (y.lane_at s k).down_taken) (states : (a : ℕ) → (y.end_at a).state ≡ (x.end_at a).state)
    (tolds : (a : ℕ) → (y.end_at a).told ≡ (x.end_at a).told) (is : DialsAre v x dead) (nodes : NodeDials x n) (order : n.order ≡ order_at w x.past)
  where
    abbrev after : ℕ → ℕ → Connection → Connection
    after a k c = with_downs x.past (frames_on x a k fs) c

    hears : (a k : ℕ) (c : Connection) → Hears c (after a k c) (frames_on x a k fs)
    hears a k c = heard x.past (frames_on x a k fs) c

    site : SiteGrows x y
    site = record {
      links = λ conn l at. ap (λ (f : ℕ → Option DataConnection). link_in (f conn)) put.connections ∙ at;
      begun = λ s k at. ap (λ (o : Option ℕ). is_some o) (put.began s k) ∙ at;
      taken = taken;
    }

    -- a Welcome on it says what the connection carries
    carries_welcome : (a k : ℕ) (c : Connection) (q : Option Place) → (x.end_at a).connection_at k ≡ Some c → WelcomedOn x n a k q → IfSome q (CarriesOf w a c.first)
    carries_welcome a k c q it at = subst (λ (o : Option Place). IfSome o (CarriesOf w a c.first)) (sym at.says) (record { order = first; opened = opened })
      where
        on : OnRole x at.conn a k
        on = bound_on x n at.conn at.session a k nodes at.role at.link

        bound : BoundIs x n at.conn at.session
        bound = of_some (RoleIs x n at.conn) (role_of n at.conn) (Bound at.session) at.role (nodes.roles at.conn)

        some_same : (d e : Connection) → ◌≡◌ {A = Option Connection} (Some d) (Some e) → d ≡ e
        some_same d e same = cc (same)

        first : IsSomeAnd c.first (λ f. f.order ≡ x.past)
        first =
            subst (λ (o : Option FirstTaken). IsSomeAnd o (λ f. f.order ≡ x.past))
            (sym (ap (λ (d : Connection). d.first) (some_same c on.on (sym it ∙ on.there)) ∙ on.first)) refl

        opened : app_in (order_at w x.past) at.session ≡ Some a
        opened =
            ap (λ (es : List _). app_in es at.session) (sym order) ∙ bound.opened
            ∙ ap (λ (i : ℕ). Some i) (same_link bound.app a bound.linked.dial k (sym bound.linked.link ∙ at.link)).0

    connection_after : (a k : ℕ) (c : Connection) → (x.end_at a).connection_at k ≡ Some c → ConnectionIs v x a k c → ConnectionIs w y a k (after a k c)
    connection_after a k c it at = record {
      first =
          h.ups ∙ at.first ∙ ap (λ (f : UpFrame). f ∷ drop 1 c.ups) frame
          ∙ ap (λ (us : List UpFrame). first_frame w a k (after a k c).knew ∷ drop 1 us) (sym h.ups);
      behind = ap (λ (us : List UpFrame). list_all is_following (drop 1 us)) h.ups ∙ at.behind;
      ups_taken = omega (arith, h.ups_taken, at.ups_taken, ap (λ (us : List UpFrame). length us) h.ups);
      downs_taken = omega (arith, h.downs_taken, at.downs_taken, ap (λ (gs : List DownFrame). length gs) h.downs, length-append c.downs (frames_on x a k fs));
      alone = λ none. ap (λ (us : List UpFrame). drop 1 us) h.ups ∙ at.alone (sym h.ups_taken ∙ none);
      silent = λ none. h.downs ∙ ap (λ (gs : List DownFrame). gs ++ frames_on x a k fs) (at.silent (sym h.ups_taken ∙ none)) ∙ nothing (sym h.ups_taken ∙ none) (linked_on x n a k fs);
      linked = h.linked ∙ at.linked ∙ ap (λ (i : ℕ). nat_lt 0 i) (sym h.ups_taken);
      taken = ap (λ (o : Option FirstTaken). is_some o) h.first ∙ at.taken ∙ sym h.linked;
      where_taken =
          subst (λ (o : Option FirstTaken). IfSome o (FirstIs w y a k)) (sym h.first)
          (some_kept (FirstIs v x a k) (FirstIs w y a k) (first_later v w x y later site a k) c.first at.where_taken);
      data_left = h.data_left ∙ at.data_left ∙ sym (left_same x y put.connections c.first) ∙ ap (is_left_at y) (sym h.first);
      its =
          subst (λ (o : Option FirstTaken). IfSome (after a k c).its (CarriesOf w a o)) (sym h.first) (carries (its_on x n a k fs c put.fits));
      known =
          subst (λ (j : Knew). IfSome j.mark (KnewIs w y a j.session)) (sym h.knew)
          (some_kept (KnewIs v x a c.knew.session) (KnewIs w y a c.knew.session) (knew_later v w x y later site a c.knew.session) c.knew.mark at.known);
    }
      where
        h : Hears c (after a k c) (frames_on x a k fs)
        h = hears a k c

        frame : first_frame v a k c.knew ≡ first_frame w a k (after a k c).knew
        frame =
            sym (ap (first_frame w a k) h.knew
            ∙ ap (λ (m : Up). record { seq = 0; ack = taken_in c.knew.mark; message = m })
            (message_later v w later a k c.knew.session c.knew.mark
            (some_kept (KnewIs v x a c.knew.session) (λ (m : Mark). m.order ≤ current v) (λ (m : Mark) j. j.there) c.knew.mark at.known)))

        -- nothing is put on one of which nothing was taken
        nothing : c.ups_taken ≡ 0 → (frames_on x a k fs ≡ []) ⊎ ((conn : ℕ) × (link_of x conn ≡ Some (record { app = a; dial = k }))) → frames_on x a k fs ≡ []
        nothing none (inl empty) = empty
        nothing none (inr on) = absurd (untaken c.first (at.taken ∙ at.linked ∙ ap (λ (i : ℕ). nat_lt 0 i) none) first)
          where
            first : IsSomeAnd c.first (λ f. f.conn ≡ on.0)
            first =
                subst (λ (o : Option Connection). IsSomeAnd o (λ d. IsSomeAnd d.first (λ f. f.conn ≡ on.0))) it
                (of_some (IsLinkedBy x on.0) (link_of x on.0) (record { app = a; dial = k }) on.1 (is.links on.0))

            untaken : (o : Option FirstTaken) → is_some o ≡ false → IsSomeAnd o (λ f. f.conn ≡ on.0) → ⊥
            untaken None unmade at_first = at_first
            untaken (Some f) unmade at_first = absurd (false≢true (sym unmade))

        carries : ((after a k c).its ≡ c.its) ⊎ WelcomedOn x n a k (after a k c).its → IfSome (after a k c).its (CarriesOf w a c.first)
        carries (inl same) =
            subst (λ (o : Option Place). IfSome o (CarriesOf w a c.first)) (sym same)
            (some_kept (CarriesOf v a c.first) (CarriesOf w a c.first) (carries_later v w x later a k c.first at.where_taken) c.its at.its)
        carries (inr welcome) = carries_welcome a k c (after a k c).its it welcome

    knows_same : (a : ℕ) → knows (y.end_at a) ≡ knows (x.end_at a)
    knows_same a =
        ap (λ (e : AppEnd). knows_of e.session (y.end_at a).told e.told) (states a)
        ∙ ap (λ (p : Option Place). knows_of (x.end_at a).state.session p (x.end_at a).state.told) (tolds a)

    -- what holds of each connection by what was known of it
    if_after : (a k : ℕ) (P Q : Connection → Type 0) → ((c : Connection) → (x.end_at a).connection_at k ≡ Some c → P c → Q (after a k c))
        → IfSome ((x.end_at a).connection_at k) P → IfSome ((y.end_at a).connection_at k) Q
    if_after a k P Q f at = subst (λ (o : Option Connection). IfSome o Q) (sym (put.each a k)) (go ((x.end_at a).connection_at k) refl at)
      where
        go : (o : Option Connection) → (x.end_at a).connection_at k ≡ o → IfSome o P → IfSome (option_map (after a k) o) Q
        go None it before = tt
        go (Some c) it before = f c it before

    pair_after : (a : ℕ) → PairDials w y (dead a) a (y.end_at a)
    pair_after a = record {
      made =
          λ k. ap (λ (o : Option Connection). is_some o) (put.each a k) ∙ some_mapped (after a k) ((x.end_at a).connection_at k) ∙ pair.made k
          ∙ sym (ap (λ (e : AppEnd). is_made e.dial k) (states a));
      left =
          λ k. subst (λ (e : AppEnd). IfSome ((y.end_at a).connection_at k) (λ c. c.app_left ≡ not (is_wire (dead a) e k))) (sym (states a))
          (if_after a k (λ c. c.app_left ≡ not (is_wire (dead a) (x.end_at a).state k)) (λ c. c.app_left ≡ not (is_wire (dead a) (x.end_at a).state k))
          (λ c it at. (hears a k c).app_left ∙ at) (pair.left k));
      each = λ k. if_after a k (ConnectionIs v x a k) (ConnectionIs w y a k) (connection_after a k) (pair.each k);
      rising =
          λ before k low.
          if_after a before (λ b. IfSome ((x.end_at a).connection_at k) (λ c. NoLess b.knew c.knew)) (λ b. IfSome ((y.end_at a).connection_at k) (λ c. NoLess b.knew c.knew))
          (λ b there at.
          if_after a k (λ c. NoLess b.knew c.knew) (λ c. NoLess (after a before b).knew c.knew)
          (λ c it less.
          subst (λ (j : Knew). NoLess j (after a k c).knew) (sym (hears a before b).knew) (subst (λ (j : Knew). NoLess b.knew j) (sym (hears a k c).knew) less)) at)
          (pair.rising before k low);
      now =
          λ k.
          if_after a k (λ c. NoLess c.knew (knows (x.end_at a))) (λ c. NoLess c.knew (knows (y.end_at a)))
          (λ c it at.
          subst (λ (j : Knew). NoLess j (knows (y.end_at a))) (sym (hears a k c).knew) (subst (λ (j : Knew). NoLess c.knew j) (sym (knows_same a)) at)) (pair.now k);
      still =
          subst (λ (e : AppEnd). KnowsStill e.line (knows (y.end_at a)) ((y.end_at a).connection_at e.dial)) (sym (states a))
          (subst (λ (j : Knew). KnowsStill (x.end_at a).state.line j ((y.end_at a).connection_at (x.end_at a).state.dial)) (sym (knows_same a))
          (subst (λ (o : Option Connection). KnowsStill (x.end_at a).state.line (knows (x.end_at a)) o) (sym (put.each a (x.end_at a).state.dial))
          (still_mapped (after a (x.end_at a).state.dial) (λ c. (hears a (x.end_at a).state.dial c).knew) (λ c. (hears a (x.end_at a).state.dial c).ups)
          (x.end_at a).state.line (knows (x.end_at a)) ((x.end_at a).connection_at (x.end_at a).state.dial) pair.still)));
    }
      where
        pair : PairDials v x (dead a) a (x.end_at a)
        pair = is.pairs a

    -- what a connection carries it carries on
    carries_on : (a k : ℕ) (c : Connection) (p : Place) → (x.end_at a).connection_at k ≡ Some c → c.its ≡ Some p
        → ((after a k c).its ≡ c.its) ⊎ WelcomedOn x n a k (after a k c).its → (after a k c).its ≡ Some p
    carries_on a k c p it its (inl same) = same ∙ its
    carries_on a k c p it its (inr welcome) = welcome.says ∙ ap (λ (q : Place). Some q) (sym (of_some (λ q. q ≡ record { session = welcome.session; order = x.past }) c.its p its carries))
      where
        bound : BoundIs x n welcome.conn welcome.session
        bound = of_some (RoleIs x n welcome.conn) (role_of n welcome.conn) (Bound welcome.session) welcome.role (nodes.roles welcome.conn)

        same : (bound.app ≡ a) × (bound.linked.dial ≡ k)
        same = same_link bound.app a bound.linked.dial k (sym bound.linked.link ∙ welcome.link)

        carries : IfSome c.its (λ q. q ≡ record { session = welcome.session; order = x.past })
        carries =
            (subst (λ (o : Option Connection). IsSomeAnd o (BoundTo x n.order welcome.session)) (ap (λ (j : ℕ). (x.end_at bound.app).connection_at j) same.1 ∙ ap (λ (i : ℕ). (x.end_at i).connection_at k) same.0 ∙ it) bound.linked.its).carries

    learnt_on : (a s k dial : ℕ) → LearntOn v (x.end_at a) a s k dial → LearntOn w (y.end_at a) a s k dial
    learnt_on a s k dial at = record {
      carries = subst (λ (o : Option Connection). IsSomeAnd o (λ c. c.its ≡ Some (record { session = s; order = k }))) (sym (put.each a dial)) (go ((x.end_at a).connection_at dial) refl at.carries);
      there = omega (arith, at.there, later.there);
      told = later.told a s k at.told;
      later =
          λ number above.
          if_after a number (λ c. NoLess (as_it_learns s k) c.knew) (λ c. NoLess (as_it_learns s k) c.knew)
          (λ c it less. subst (λ (j : Knew). NoLess (as_it_learns s k) j) (sym (hears a number c).knew) less) (at.later number above);
      now = subst (λ (j : Knew). NoLess (as_it_learns s k) j) (sym (knows_same a)) at.now;
    }
      where
        go : (o : Option Connection) → (x.end_at a).connection_at dial ≡ o → IsSomeAnd o (λ c. c.its ≡ Some (record { session = s; order = k }))
            → IsSomeAnd (option_map (after a dial) o) (λ c. c.its ≡ Some (record { session = s; order = k }))
        go None it before = before
        go (Some c) it before = carries_on a dial c (record { session = s; order = k }) it before (its_on x n a dial fs c put.fits)

    learnt_after : (s k : ℕ) (began : Option ℕ) → LearntBy v x s k began (app_in (order_at v k) s) → LearntBy w y s k began (app_in (order_at w k) s)
    learnt_after s k None at = tt
    learnt_after s k (Some dial) at = go (app_in (order_at v k) s) refl at
      where
        go : (o : Option ℕ) → app_in (order_at v k) s ≡ o → LearntBy v x s k (Some dial) o → LearntBy w y s k (Some dial) (app_in (order_at w k) s)
        go None its before = absurd before
        go (Some a) its before =
            subst (λ (o : Option ℕ). LearntBy w y s k (Some dial) o) (sym (later.opened s k a before.there its)) (learnt_on a s k dial before)

    -- The whole part.
    pub dials_after : y.node ≡ Some n → ((conn : ℕ) → is_here (y.connection_at conn) ≡ is_some (role_of n conn)) → DialsAre w y dead
    dials_after runs here = record {
      pairs = pair_after;
      learnt =
          λ s k.
          subst (λ (o : Option ℕ). LearntBy w y s k o (app_in (order_at w k) s)) (sym (put.began s k)) (learnt_after s k (x.lane_at s k).began (is.learnt s k));
      links =
          λ conn.
          subst (λ (o : Option Linked). IfSome o (IsLinkedBy y conn)) (sym (ap (λ (f : ℕ → Option DataConnection). link_in (f conn)) put.connections))
          (some_kept (IsLinkedBy x conn) (IsLinkedBy y conn) (λ l at. linked_by conn l at) (link_of x conn) (is.links conn));
      here = λ conn. here conn ∙ sym (ap (λ (o : Option DataState). has_conn o conn) runs);
      node = subst (λ (o : Option DataState). IfSome o (NodeDials y)) (sym runs) (node_after x y n fs put nodes);
    }
      where
        linked_by : (conn : ℕ) (l : Linked) → IsLinkedBy x conn l → IsLinkedBy y conn l
        linked_by conn l at =
            subst (λ (o : Option Connection). IsSomeAnd o (λ c. IsSomeAnd c.first (λ f. f.conn ≡ conn))) (sym (put.each l.app l.dial)) (go ((x.end_at l.app).connection_at l.dial) at)
          where
            go : (o : Option Connection) → IsSomeAnd o (λ c. IsSomeAnd c.first (λ f. f.conn ≡ conn))
                → IsSomeAnd (option_map (after l.app l.dial) o) (λ c. IsSomeAnd c.first (λ f. f.conn ≡ conn))
            go None before = before
            go (Some c) before = subst (λ (o : Option FirstTaken). IsSomeAnd o (λ f. f.conn ≡ conn)) (sym (hears l.app l.dial c).first) before
