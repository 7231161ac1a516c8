-- The part on connections but for the node, as a data server takes the first frame of a connection.
use Rattle.std.proofs.Common.{◌≡◌, ◌≤◌, ℕ, ◌+◌, Bool, true, false, not, ◌&&◌, ◌==◌, if◌then◌else◌, List, ◌∷◌, length, Option, Some, None, is_some, option_map, refl, sym, ◌∙◌, ap, subst, arith}
use Rattle.std.specs.Prelude.{IfSome, IsSomeAnd}
use Rattle.std.proofs.lemmas.Bool.{eq-eqb, eqb-true, false≢true, lt-ltb}
use Rattle.std.proofs.lemmas.List.{length-drop}
use Rattle.plain_orders.specs.Sessions.{app_in}
use Rattle.plain_runs.specs.Plain.{Server, current, order_at}
use Rattle.ecp_messages.specs.declared.up.UpFrame.{UpFrame}
use Rattle.cluster_runs.specs.CoresState.{Linked}
use Rattle.cluster_runs.specs.Machine.{DataConnection, Site}
use Rattle.cluster_runs.specs.Sent.{Connection, FirstTaken, Knew, Mark, Place}
use Rattle.cluster_runs.specs.Connections.{knows, first_else, is_link, link_else, link_in, link_of, linked_if, up_taken}
use Rattle.cluster_invariant.specs.Dials.{CarriesOf, ConnectionIs, DialsAre, FirstIs, IsLinkedBy, KnewIs, LearntBy, LearntOn, PairDials, as_it_learns, is_here, is_left_at}
use Rattle.cluster_invariant.specs.Words.{NoLess, is_wire, ups_left}
use Rattle.cluster_invariant.proofs.Small.{of_some, some_kept}
use Rattle.dials_kept.proofs.ShortDials.{some_mapped, still_mapped}
use Rattle.dials_server.proofs.LinkWords.{is_link_true}
use Rattle.dials_server.proofs.TakenFrames.{NextFrame, site_taken}

-- the part but for the node
pub record PartsAre (v : Server) (x z : Site) (dead : ℕ → Bool) : Type 0 where
  pub pairs : (a : ℕ) → PairDials v z (dead a) a (z.end_at a)
  pub learnt : (s k : ℕ) → LearntBy v z s k (z.lane_at s k).began (app_in (order_at v k) s)
  pub links : (k : ℕ) → IfSome (link_of z k) (IsLinkedBy z k)
  pub here : (k : ℕ) → is_here (z.connection_at k) ≡ is_here (x.connection_at k)

module _ (v : Server) (x : Site) (dead : ℕ → Bool) (conn : ℕ) (l : Linked) (f : UpFrame) (unlinked : link_of x conn ≡ None) (here : is_here (x.connection_at conn) ≡ true)
    (past : x.past ≤ current v) (next : NextFrame x l f) (new : next.on.linked ≡ false) (is : DialsAre v x dead)
  where
    abbrev z : Site
    z = site_taken x conn l (Some l)

    abbrev up : ℕ → ℕ → Connection → Connection
    up a k c = if is_link a k (Some l) then up_taken x.past conn c else c

    -- the data connections

    here_same : (k : ℕ) → is_here (z.connection_at k) ≡ is_here (x.connection_at k)
    here_same k = go (k == conn)
      where
        by : (o : Option DataConnection) → is_here (option_map (linked_if (Some l)) o) ≡ is_here o
        by None = refl
        by (Some d) = refl

        go : (b : Bool) → is_here (if b then option_map (linked_if (Some l)) (x.connection_at k) else x.connection_at k) ≡ is_here (x.connection_at k)
        go true = by (x.connection_at k)
        go false = refl

    pub link_now : link_of z conn ≡ Some l
    link_now =
        ap (λ (b : Bool). link_in (if b then option_map (linked_if (Some l)) (x.connection_at conn) else x.connection_at conn)) (eq-eqb conn conn refl)
        ∙ by (x.connection_at conn) here unlinked
      where
        by : (o : Option DataConnection) → is_here o ≡ true → link_in o ≡ None → link_in (option_map (linked_if (Some l)) o) ≡ Some l
        by None gone none = absurd (false≢true gone)
        by (Some d) there none = ap (λ (k : Option Linked). link_else k (Some l)) none

    link_other : (k : ℕ) (j : Linked) → link_of x k ≡ Some j → link_of z k ≡ Some j
    link_other k j was = go (k == conn) refl ∙ was
      where
        go : (b : Bool) → (k == conn) ≡ b → link_in (if b then option_map (linked_if (Some l)) (x.connection_at k) else x.connection_at k) ≡ link_of x k
        go true same = (let both : ◌≡◌ {A = Option Linked} None (Some j) = sym unlinked ∙ ap (λ (i : ℕ). link_of x i) (sym (eqb-true k conn same)) ∙ was in absurd cc)
        go false other = refl

    -- one connection

    on_same : (a k : ℕ) (c : Connection) → (x.end_at a).connection_at k ≡ Some c → is_link a k (Some l) ≡ true → c ≡ next.on
    on_same a k c it on = some_same c next.on (sym it ∙ ap (λ (j : Linked). (x.end_at j.app).connection_at j.dial) (sym link) ∙ next.there)
      where
        link : l ≡ record { app = a; dial = k }
        link = linked_same l (record { app = a; dial = k }) (is_link_true a k (Some l) on)
          where
            linked_same : (i j : Linked) → ◌≡◌ {A = Option Linked} (Some i) (Some j) → i ≡ j
            linked_same i j same = cc (same)

        some_same : (d e : Connection) → ◌≡◌ {A = Option Connection} (Some d) (Some e) → d ≡ e
        some_same d e same = cc (same)

    knew_moved : (a s : ℕ) (m : Mark) → KnewIs v x a s m → KnewIs v z a s m
    knew_moved a s m at = record { there = at.there; told = at.told; begun = at.begun; taken = at.taken; stays = at.stays }

    connection_other : (a k : ℕ) (c : Connection) → ConnectionIs v x a k c → ConnectionIs v z a k c
    connection_other a k c at = record {
      first = at.first;
      behind = at.behind;
      ups_taken = at.ups_taken;
      downs_taken = at.downs_taken;
      alone = at.alone;
      silent = at.silent;
      linked = at.linked;
      taken = at.taken;
      where_taken =
          some_kept (FirstIs v x a k) (FirstIs v z a k) (λ t was. record { there = was.there; linked = link_other t.conn (record { app = a; dial = k }) was.linked }) c.first at.where_taken;
      data_left = at.data_left ∙ left c.first;
      its = at.its;
      known = some_kept (KnewIs v x a c.knew.session) (KnewIs v z a c.knew.session) (knew_moved a c.knew.session) c.knew.mark at.known;
    }
      where
        left : (o : Option FirstTaken) → is_left_at x o ≡ is_left_at z o
        left None = refl
        left (Some t) = ap not (sym (here_same t.conn))

    connection_new : (a k : ℕ) (c : Connection) → (x.end_at a).connection_at k ≡ Some c → is_link a k (Some l) ≡ true → ConnectionIs v x a k c
        → ConnectionIs v z a k (up_taken x.past conn c)
    connection_new a k c it on at = record {
      first = at.first;
      behind = at.behind;
      ups_taken = omega (arith, ap (λ (us : List UpFrame). length us) left, length-drop c.ups_taken c.ups);
      downs_taken = at.downs_taken;
      alone = λ none. absurd (omega (arith, none));
      silent = λ none. absurd (omega (arith, none));
      linked = sym (lt-ltb 0 (c.ups_taken + 1) (omega arith));
      taken = ap (λ (o : Option FirstTaken). is_some o) first_now;
      where_taken =
          subst (λ (o : Option FirstTaken). IfSome o (FirstIs v z a k)) (sym first_now)
          (record { there = past; linked = link_now ∙ is_link_true a k (Some l) on });
      data_left =
          at.data_left ∙ ap (is_left_at x) none ∙ sym (ap (is_left_at z) first_now ∙ ap not (here_same conn ∙ here));
      its = its c.its (subst (λ (o : Option FirstTaken). IfSome c.its (CarriesOf v a o)) none at.its);
      known = some_kept (KnewIs v x a c.knew.session) (KnewIs v z a c.knew.session) (knew_moved a c.knew.session) c.knew.mark at.known;
    }
      where
        same : c ≡ next.on
        same = on_same a k c it on

        left : ups_left c ≡ f ∷ next.behind
        left = ap ups_left same ∙ next.left

        none : c.first ≡ None
        none = go c.first (at.taken ∙ ap (λ (e : Connection). e.linked) same ∙ new)
          where
            go : (o : Option FirstTaken) → is_some o ≡ false → o ≡ None
            go None off = refl
            go (Some t) off = absurd (false≢true (sym off))

        first_now : Some (first_else c.first (record { order = x.past; conn = conn })) ≡ Some (record { order = x.past; conn = conn })
        first_now = ap (λ (o : Option FirstTaken). Some (first_else o (record { order = x.past; conn = conn }))) none

        its : (o : Option Place) → IfSome o (CarriesOf v a None) → IfSome o (CarriesOf v a (Some (first_else c.first (record { order = x.past; conn = conn }))))
        its None at = tt
        its (Some p) at = absurd at.order

    -- the connections of a pair

    up_keeps : (b : Bool) (c : Connection) → ((if b then up_taken x.past conn c else c).ups ≡ c.ups) × ((if b then up_taken x.past conn c else c).knew ≡ c.knew)
        × ((if b then up_taken x.past conn c else c).app_left ≡ c.app_left) × ((if b then up_taken x.past conn c else c).its ≡ c.its)
    up_keeps true c = (refl, refl, refl, refl)
    up_keeps false c = (refl, refl, refl, refl)

    mapped_if : (g : Connection → Connection) (P Q : Connection → Type 0) → ((c : Connection) → P c → Q (g c)) → (o : Option Connection) → IfSome o P → IfSome (option_map g o) Q
    mapped_if g P Q kept None at = tt
    mapped_if g P Q kept (Some c) at = kept c at

    mapped_and : (g : Connection → Connection) (P Q : Connection → Type 0) → ((c : Connection) → P c → Q (g c)) → (o : Option Connection) → IsSomeAnd o P
        → IsSomeAnd (option_map g o) Q
    mapped_and g P Q kept None at = at
    mapped_and g P Q kept (Some c) at = kept c at

    each_up : (a k : ℕ) (o : Option Connection) → (x.end_at a).connection_at k ≡ o → IfSome o (ConnectionIs v x a k) → IfSome (option_map (up a k) o) (ConnectionIs v z a k)
    each_up a k None it at = tt
    each_up a k (Some c) it at = go (is_link a k (Some l)) refl
      where
        go : (b : Bool) → is_link a k (Some l) ≡ b → ConnectionIs v z a k (if b then up_taken x.past conn c else c)
        go true on = connection_new a k c it on at
        go false off = connection_other a k c at

    rising_up : (a b k : ℕ) (o q : Option Connection) → IfSome o (λ c. IfSome q (λ d. NoLess c.knew d.knew))
        → IfSome (option_map (up a b) o) (λ c. IfSome (option_map (up a k) q) (λ d. NoLess c.knew d.knew))
    rising_up a b k None q at = tt
    rising_up a b k (Some c) None at = tt
    rising_up a b k (Some c) (Some d) at =
        subst (λ (i : Knew). NoLess i (up a k d).knew) (sym (up_keeps (is_link a b (Some l)) c).1)
        (subst (λ (i : Knew). NoLess c.knew i) (sym (up_keeps (is_link a k (Some l)) d).1) at)

    pair_up : (a : ℕ) → PairDials v z (dead a) a (z.end_at a)
    pair_up a = record {
      made = λ k. some_mapped (up a k) ((x.end_at a).connection_at k) ∙ (is.pairs a).made k;
      left =
          λ k.
          mapped_if (up a k) (λ c. c.app_left ≡ not (is_wire (dead a) (x.end_at a).state k)) (λ c. c.app_left ≡ not (is_wire (dead a) (x.end_at a).state k))
          (λ c at. (up_keeps (is_link a k (Some l)) c).2 ∙ at) ((x.end_at a).connection_at k) ((is.pairs a).left k);
      each = λ k. each_up a k ((x.end_at a).connection_at k) refl ((is.pairs a).each k);
      rising = λ b k low. rising_up a b k ((x.end_at a).connection_at b) ((x.end_at a).connection_at k) ((is.pairs a).rising b k low);
      now =
          λ k.
          mapped_if (up a k) (λ c. NoLess c.knew (knows (x.end_at a))) (λ c. NoLess c.knew (knows (x.end_at a)))
          (λ c at. subst (λ (i : Knew). NoLess i (knows (x.end_at a))) (sym (up_keeps (is_link a k (Some l)) c).1) at)
          ((x.end_at a).connection_at k) ((is.pairs a).now k);
      still =
          still_mapped (up a (x.end_at a).state.dial) (λ c. (up_keeps (is_link a (x.end_at a).state.dial (Some l)) c).1)
          (λ c. (up_keeps (is_link a (x.end_at a).state.dial (Some l)) c).0) (x.end_at a).state.line (knows (x.end_at a))
          ((x.end_at a).connection_at (x.end_at a).state.dial) (is.pairs a).still;
    }

    -- the sessions that learnt of an order

    learnt_on : (a s k dial : ℕ) → LearntOn v (x.end_at a) a s k dial → LearntOn v (z.end_at a) a s k dial
    learnt_on a s k dial at = record {
      carries =
          mapped_and (up a dial) (λ c. c.its ≡ Some (record { session = s; order = k })) (λ c. c.its ≡ Some (record { session = s; order = k }))
          (λ c its. (up_keeps (is_link a dial (Some l)) c).3 ∙ its) ((x.end_at a).connection_at dial) at.carries;
      there = at.there;
      told = at.told;
      later =
          λ i low.
          mapped_if (up a i) (λ c. NoLess (as_it_learns s k) c.knew) (λ c. NoLess (as_it_learns s k) c.knew)
          (λ c no_less. subst (λ (j : Knew). NoLess (as_it_learns s k) j) (sym (up_keeps (is_link a i (Some l)) c).1) no_less) ((x.end_at a).connection_at i) (at.later i low);
      now = at.now;
    }

    learnt_by : (s k : ℕ) (o q : Option ℕ) → LearntBy v x s k o q → LearntBy v z s k o q
    learnt_by s k None q at = tt
    learnt_by s k (Some dial) None at = at
    learnt_by s k (Some dial) (Some a) at = learnt_on a s k dial at

    -- what data connections are linked to

    linked_other : (k : ℕ) (j : Linked) → IsLinkedBy x k j → IsLinkedBy z k j
    linked_other k j at = go (is_link j.app j.dial (Some l)) refl ((x.end_at j.app).connection_at j.dial) refl at
      where
        go : (b : Bool) → is_link j.app j.dial (Some l) ≡ b → (o : Option Connection) → (x.end_at j.app).connection_at j.dial ≡ o
            → IsSomeAnd o (λ c. IsSomeAnd c.first (λ t. t.conn ≡ k))
            → IsSomeAnd (option_map (λ c. if b then up_taken x.past conn c else c) o) (λ c. IsSomeAnd c.first (λ t. t.conn ≡ k))
        go b on None it first = first
        go false off (Some c) it first = first
        go true on (Some c) it first = kept c.first first
          where
            kept : (o : Option FirstTaken) → IsSomeAnd o (λ t. t.conn ≡ k) → IsSomeAnd (Some (first_else o (record { order = x.past; conn = conn }))) (λ t. t.conn ≡ k)
            kept None none = absurd none
            kept (Some t) some = some

    linked_now : IsLinkedBy z conn l
    linked_now =
        subst (λ (o : Option Connection). IsSomeAnd (option_map (up l.app l.dial) o) (λ c. IsSomeAnd c.first (λ t. t.conn ≡ conn))) (sym next.there)
        (subst (λ (b : Bool). IsSomeAnd (if b then up_taken x.past conn next.on else next.on).first (λ t. t.conn ≡ conn)) (sym link_it) (its next.on.first first_none))
      where
        link_it : is_link l.app l.dial (Some l) ≡ true
        link_it = ap (λ (b : Bool). b && (l.dial == l.dial)) (eq-eqb l.app l.app refl) ∙ eq-eqb l.dial l.dial refl

        first_none : next.on.first ≡ None
        first_none =
            go next.on.first
            ((of_some (ConnectionIs v x l.app l.dial) ((x.end_at l.app).connection_at l.dial) next.on next.there ((is.pairs l.app).each l.dial)).taken ∙ new)
          where
            go : (o : Option FirstTaken) → is_some o ≡ false → o ≡ None
            go None off = refl
            go (Some t) off = absurd (false≢true (sym off))

        its : (o : Option FirstTaken) → o ≡ None → IsSomeAnd (Some (first_else o (record { order = x.past; conn = conn }))) (λ t. t.conn ≡ conn)
        its None none = refl
        its (Some t) none = absurd cc

    links_up : (k : ℕ) → IfSome (link_of z k) (IsLinkedBy z k)
    links_up k = go (k == conn) refl
      where
        go : (b : Bool) → (k == conn) ≡ b → IfSome (link_in (if b then option_map (linked_if (Some l)) (x.connection_at k) else x.connection_at k)) (IsLinkedBy z k)
        go false other = some_kept (IsLinkedBy x k) (IsLinkedBy z k) (λ j at. linked_other k j at) (link_of x k) (is.links k)
        go true same =
            subst (λ (i : ℕ). IfSome (link_in (option_map (linked_if (Some l)) (x.connection_at i))) (IsLinkedBy z i)) (sym (eqb-true k conn same))
            (subst (λ (o : Option Linked). IfSome o (IsLinkedBy z conn))
            (sym (ap (λ (b : Bool). link_in (if b then option_map (linked_if (Some l)) (x.connection_at conn) else x.connection_at conn)) (sym (eq-eqb conn conn refl)) ∙ link_now)) linked_now)

    -- The part but for the node, as the first frame is taken.
    pub first_parts : PartsAre v x z dead
    first_parts = record {
      pairs = pair_up;
      learnt = λ s k. learnt_by s k (x.lane_at s k).began (app_in (order_at v k) s) (is.learnt s k);
      links = links_up;
      here = here_same;
    }
