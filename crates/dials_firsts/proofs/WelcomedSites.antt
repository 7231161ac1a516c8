-- The part on connections, as the Welcome of a session that goes on is put on a connection that waits.
use Rattle.std.proofs.Common.{◌≡◌, ◌≢◌, ◌≤◌, ℕ, Bool, true, false, not, if◌then◌else◌, [], ◌∷◌, ◌++◌, Option, Some, None, option_map, refl, sym, ◌∙◌}
use Rattle.std.proofs.Common.{ap, subst, arith}
use Rattle.std.specs.Prelude.{IfSome, IsSomeAnd}
use Rattle.std.proofs.lemmas.List.{length-append}
use Rattle.plain_orders.specs.Sessions.{app_in}
use Rattle.plain_runs.specs.Plain.{Server, order_at}
use Rattle.ecp_messages.specs.declared.down.DownFrame.{DownFrame}
use Rattle.data_rules.specs.declared.rows.Role.{Role}
use Rattle.data_rules.specs.declared.rows.Role.TheVariants.{New, Waiting, Bound, Closing}
use Rattle.data_rules.specs.DataState.{DataState}
use Rattle.data_rules.specs.Callers.{dial_of}
use Rattle.data_rules.specs.Conns.{role_of}
use Rattle.data_rules.specs.Puts.{conn_of}
use Rattle.cluster_runs.specs.CoresState.{Linked}
use Rattle.cluster_runs.specs.Machine.{Site}
use Rattle.cluster_runs.specs.Sent.{Connection, FirstTaken, Knew, Mark, Place}
use Rattle.cluster_runs.specs.Connections.{at_link, is_link, knows, link_of}
use Rattle.cluster_invariant.specs.Dials.{BoundTo, ClosedOn, ConnectionIs, DialsAre, FirstIs, IsLinkedBy, IsNewest, KnewIs, LearntBy, LearntOn}
use Rattle.cluster_invariant.specs.Dials.{LinkedTo, NodeDials, PairDials, RoleIs, as_it_learns, is_connection_in}
use Rattle.cluster_invariant.specs.Words.{NoLess, is_wire}
use Rattle.cluster_invariant.proofs.Small.{of_some, some_kept}
use Rattle.dials_kept.proofs.ShortDials.{left_same, some_mapped, still_mapped}
use Rattle.dials_server.proofs.LinkWords.{is_link_true}

-- with the Welcome
abbrev pub welcomed_on : ℕ → ℕ → DownFrame → Connection → Connection
welcomed_on s past w c = record c { downs = c.downs ++ w ∷ []; its = Some (record { session = s; order = past }) }

abbrev pub site_welcomed : Site → Linked → ℕ → DownFrame → Site
site_welcomed x l s w = at_link (Some l) (welcomed_on s x.past w) x

module _ (v : Server) (x : Site) (dead : ℕ → Bool) (m : DataState) (conn : ℕ) (l : Linked) (on : Connection) (w : DownFrame) (s : ℕ) (is : DialsAre v x dead)
    (runs : x.node ≡ Some m)
    (there : (x.end_at l.app).connection_at l.dial ≡ Some on) (first : on.first ≡ Some (record { order = x.past; conn = conn })) (none : on.its ≡ None)
    (one : on.ups_taken ≡ 1)
    (opened : app_in (order_at v x.past) s ≡ Some l.app) (waits : role_of m conn ≡ Some Waiting) (unbound : conn_of m s ≡ None)
  where
    abbrev y : Site
    y = site_welcomed x l s w

    abbrev up : ℕ → ℕ → Connection → Connection
    up a k c = if is_link a k (Some l) then welcomed_on s x.past w c else c

    link_is : (a k : ℕ) → is_link a k (Some l) ≡ true → l ≡ record { app = a; dial = k }
    link_is a k at = same l (record { app = a; dial = k }) (is_link_true a k (Some l) at)
      where
        same : (i j : Linked) → ◌≡◌ {A = Option Linked} (Some i) (Some j) → i ≡ j
        same i j both = cc (both)

    on_same : (a k : ℕ) (c : Connection) → (x.end_at a).connection_at k ≡ Some c → is_link a k (Some l) ≡ true → c ≡ on
    on_same a k c it at = some_same c on (sym it ∙ ap (λ (j : Linked). (x.end_at j.app).connection_at j.dial) (sym (link_is a k at)) ∙ there)
      where
        some_same : (d e : Connection) → ◌≡◌ {A = Option Connection} (Some d) (Some e) → d ≡ e
        some_same d e same = cc (same)

    -- one connection

    knew_moved : (a q : ℕ) (mark : Mark) → KnewIs v x a q mark → KnewIs v y a q mark
    knew_moved a q mark at = record { there = at.there; told = at.told; begun = at.begun; taken = at.taken; stays = at.stays }

    first_moved : (a k : ℕ) (t : FirstTaken) → FirstIs v x a k t → FirstIs v y a k t
    first_moved a k t at = record { there = at.there; linked = at.linked }

    connection_other : (a k : ℕ) (c : Connection) → ConnectionIs v x a k c → ConnectionIs v y a k c
    connection_other a k c at = record {
      first = at.first;
      behind = at.behind;
      ups_taken = at.ups_taken;
      downs_taken = at.downs_taken;
      alone = at.alone;
      silent = at.silent;
      linked = at.linked;
      taken = at.taken;
      where_taken = some_kept (FirstIs v x a k) (FirstIs v y a k) (first_moved a k) c.first at.where_taken;
      data_left = at.data_left ∙ sym (left_same x y refl c.first);
      its = at.its;
      known = some_kept (KnewIs v x a c.knew.session) (KnewIs v y a c.knew.session) (knew_moved a c.knew.session) c.knew.mark at.known;
    }

    connection_new : (a k : ℕ) (c : Connection) → (x.end_at a).connection_at k ≡ Some c → is_link a k (Some l) ≡ true → ConnectionIs v x a k c
        → ConnectionIs v y a k (welcomed_on s x.past w c)
    connection_new a k c it linked at = record {
      first = at.first;
      behind = at.behind;
      ups_taken = at.ups_taken;
      downs_taken = omega (arith, at.downs_taken, length-append c.downs (w ∷ []));
      alone = at.alone;
      silent = λ untaken. absurd (omega (arith, untaken, ap (λ (d : Connection). d.ups_taken) same, one));
      linked = at.linked;
      taken = at.taken;
      where_taken = some_kept (FirstIs v x a k) (FirstIs v y a k) (first_moved a k) c.first at.where_taken;
      data_left = at.data_left ∙ sym (left_same x y refl c.first);
      its = record {
        order = subst (λ (o : Option FirstTaken). IsSomeAnd o (λ t. t.order ≡ x.past)) (sym (ap (λ (d : Connection). d.first) same ∙ first)) refl;
        opened = opened ∙ ap (λ (j : Linked). Some j.app) (link_is a k linked);
      };
      known = some_kept (KnewIs v x a c.knew.session) (KnewIs v y a c.knew.session) (knew_moved a c.knew.session) c.knew.mark at.known;
    }
      where
        same : c ≡ on
        same = on_same a k c it linked

    -- the connections of a pair

    up_keeps : (b : Bool) (c : Connection) → ((if b then welcomed_on s x.past w c else c).ups ≡ c.ups) ×
        ((if b then welcomed_on s x.past w c else c).knew ≡ c.knew)
        × ((if b then welcomed_on s x.past w c else c).app_left ≡ c.app_left) × ((if b then welcomed_on s x.past w c else c).first ≡ c.first)
    up_keeps true c = (refl, refl, refl, refl)
    up_keeps false c = (refl, refl, refl, refl)

    mapped_if : (g : Connection → Connection) (P Q : Connection → Type 0) → ((c : Connection) → P c → Q (g c)) → (o : Option Connection) → IfSome o P
        → IfSome (option_map g o) Q
    mapped_if g P Q kept None at = tt
    mapped_if g P Q kept (Some c) at = kept c at

    mapped_and : (g : Connection → Connection) (P Q : Connection → Type 0) → ((c : Connection) → P c → Q (g c)) → (o : Option Connection) → IsSomeAnd o P
        → IsSomeAnd (option_map g o) Q
    mapped_and g P Q kept None at = at
    mapped_and g P Q kept (Some c) at = kept c at

    each_up : (a k : ℕ) (o : Option Connection) → (x.end_at a).connection_at k ≡ o → IfSome o (ConnectionIs v x a k)
        → IfSome (option_map (up a k) o) (ConnectionIs v y a k)
    each_up a k None it at = tt
    each_up a k (Some c) it at = go (is_link a k (Some l)) refl
      where
        go : (b : Bool) → is_link a k (Some l) ≡ b → ConnectionIs v y a k (if b then welcomed_on s x.past w c else c)
        go true linked = connection_new a k c it linked at
        go false off = connection_other a k c at

    rising_up : (a b k : ℕ) (o q : Option Connection) → IfSome o (λ c. IfSome q (λ d. NoLess c.knew d.knew))
        → IfSome (option_map (up a b) o) (λ c. IfSome (option_map (up a k) q) (λ d. NoLess c.knew d.knew))
    rising_up a b k None q at = tt
    rising_up a b k (Some c) None at = tt
    rising_up a b k (Some c) (Some d) at =
        subst (λ (i : Knew). NoLess i (up a k d).knew) (sym (up_keeps (is_link a b (Some l)) c).1)
        (subst (λ (i : Knew). NoLess c.knew i) (sym (up_keeps (is_link a k (Some l)) d).1) at)

    pair_up : (a : ℕ) → PairDials v y (dead a) a (y.end_at a)
    pair_up a = record {
      made = λ k. some_mapped (up a k) ((x.end_at a).connection_at k) ∙ (is.pairs a).made k;
      left =
          λ k.
          mapped_if (up a k) (λ c. c.app_left ≡ not (is_wire (dead a) (x.end_at a).state k)) (λ c. c.app_left ≡ not (is_wire (dead a) (x.end_at a).state k))
          (λ c at. (up_keeps (is_link a k (Some l)) c).2 ∙ at) ((x.end_at a).connection_at k) ((is.pairs a).left k);
      each = λ k. each_up a k ((x.end_at a).connection_at k) refl ((is.pairs a).each k);
      rising = λ b k low. rising_up a b k ((x.end_at a).connection_at b) ((x.end_at a).connection_at k) ((is.pairs a).rising b k low);
      now =
          λ k.
          mapped_if (up a k) (λ c. NoLess c.knew (knows (x.end_at a))) (λ c. NoLess c.knew (knows (x.end_at a)))
          (λ c at. subst (λ (i : Knew). NoLess i (knows (x.end_at a))) (sym (up_keeps (is_link a k (Some l)) c).1) at)
          ((x.end_at a).connection_at k) ((is.pairs a).now k);
      still =
          still_mapped (up a (x.end_at a).state.dial) (λ c. (up_keeps (is_link a (x.end_at a).state.dial (Some l)) c).1)
          (λ c. (up_keeps (is_link a (x.end_at a).state.dial (Some l)) c).0) (x.end_at a).state.line (knows (x.end_at a))
          ((x.end_at a).connection_at (x.end_at a).state.dial) (is.pairs a).still;
    }

    -- the sessions that learnt of an order

    -- this one carried nothing
    carries_up : (a k : ℕ) (p : Place) (o : Option Connection) → (x.end_at a).connection_at k ≡ o → IsSomeAnd o (λ c. c.its ≡ Some p)
        → IsSomeAnd (option_map (up a k) o) (λ c. c.its ≡ Some p)
    carries_up a k p None it at = at
    carries_up a k p (Some c) it at = go (is_link a k (Some l)) refl
      where
        go : (b : Bool) → is_link a k (Some l) ≡ b → (if b then welcomed_on s x.past w c else c).its ≡ Some p
        go true linked =
            (let both : ◌≡◌ {A = Option Place} None (Some p) = sym none ∙ ap (λ (d : Connection). d.its) (sym (on_same a k c it linked)) ∙ at in absurd cc)
        go false off = at

    learnt_on : (a q k dial : ℕ) → LearntOn v (x.end_at a) a q k dial → LearntOn v (y.end_at a) a q k dial
    learnt_on a q k dial at = record {
      carries = carries_up a dial (record { session = q; order = k }) ((x.end_at a).connection_at dial) refl at.carries;
      there = at.there;
      told = at.told;
      later =
          λ i low.
          mapped_if (up a i) (λ c. NoLess (as_it_learns q k) c.knew) (λ c. NoLess (as_it_learns q k) c.knew)
          (λ c no_less. subst (λ (j : Knew). NoLess (as_it_learns q k) j) (sym (up_keeps (is_link a i (Some l)) c).1) no_less) ((x.end_at a).connection_at i)
          (at.later i low);
      now = at.now;
    }

    learnt_by : (q k : ℕ) (o p : Option ℕ) → LearntBy v x q k o p → LearntBy v y q k o p
    learnt_by q k None p at = tt
    learnt_by q k (Some dial) None at = at
    learnt_by q k (Some dial) (Some a) at = learnt_on a q k dial at

    -- the node

    links_up : (k : ℕ) → IfSome (link_of y k) (IsLinkedBy y k)
    links_up k = some_kept (IsLinkedBy x k) (IsLinkedBy y k) (λ j at. linked_by j at) (link_of x k) (is.links k)
      where
        linked_by : (j : Linked) → IsLinkedBy x k j → IsLinkedBy y k j
        linked_by j at =
            mapped_and (up j.app j.dial) (λ c. IsSomeAnd c.first (λ t. t.conn ≡ k)) (λ c. IsSomeAnd c.first (λ t. t.conn ≡ k))
            (λ c was. subst (λ (o : Option FirstTaken). IsSomeAnd o (λ t. t.conn ≡ k)) (sym (up_keeps (is_link j.app j.dial (Some l)) c).3) was)
            ((x.end_at j.app).connection_at j.dial) at

    -- the connection that another data connection is linked to is another one
    elsewhere : (a d i : ℕ) → i ≢ conn → IsSomeAnd ((x.end_at a).connection_at d) (λ c. c.first ≡ Some (record { order = x.past; conn = i }))
        → is_link a d (Some l) ≡ true → ⊥
    elsewhere a d i apart at linked =
        apart
        (conn_same
        (sym (subst (λ (o : Option Connection). IsSomeAnd o (λ c. c.first ≡ Some (record { order = x.past; conn = i }))) there
        (subst (λ (j : Linked). IsSomeAnd ((x.end_at j.app).connection_at j.dial) (λ c. c.first ≡ Some (record { order = x.past; conn = i })))
        (sym (link_is a d linked)) at)) ∙ first))
      where
        conn_or : Option FirstTaken → ℕ
        conn_or None = 0
        conn_or (Some t) = t.conn

        conn_same : ◌≡◌ {A = Option FirstTaken} (Some (record { order = x.past; conn = i })) (Some (record { order = x.past; conn = conn })) → i ≡ conn
        conn_same same = ap conn_or same

    kept : (P Q : Connection → Type 0) → ((c : Connection) → P c → Q c) → (b : Bool) (o : Option Connection) → (b ≡ true → ⊥) → IsSomeAnd o P
        → IsSomeAnd (option_map (λ c. if b then welcomed_on s x.past w c else c) o) Q
    kept P Q goes true o other at = absurd (other refl)
    kept P Q goes false None other at = at
    kept P Q goes false (Some c) other at = goes c at

    linked_to : (P Q : Connection → Type 0) → ((c : Connection) → P c → Q c) → (i a : ℕ) → i ≢ conn → LinkedTo x i a P → LinkedTo y i a Q
    linked_to P Q goes i a apart at = record {
      dial = at.dial;
      link = at.link;
      first =
          kept (λ c. c.first ≡ Some (record { order = x.past; conn = i })) (λ c. c.first ≡ Some (record { order = x.past; conn = i })) (λ c was. was)
          (is_link a at.dial (Some l)) ((x.end_at a).connection_at at.dial) (elsewhere a at.dial i apart at.first) at.first;
      its = kept P Q goes (is_link a at.dial (Some l)) ((x.end_at a).connection_at at.dial) (elsewhere a at.dial i apart at.first) at.its;
    }

    newest : (a q dial : ℕ) → s ≢ q → IsNewest (x.end_at a) q x.past dial → IsNewest (y.end_at a) q x.past dial
    newest a q dial apart at number = go (is_link a number (Some l)) ((x.end_at a).connection_at number) (at number)
      where
        session_or : Option Place → ℕ
        session_or None = 0
        session_or (Some p) = p.session

        go : (b : Bool) (o : Option Connection) → IfSome o (λ c. c.its ≡ Some (record { session = q; order = x.past }) → number ≤ dial)
            → IfSome (option_map (λ c. if b then welcomed_on s x.past w c else c) o)
            (λ c. c.its ≡ Some (record { session = q; order = x.past }) → number ≤ dial)
        go b None before = tt
        go true (Some c) before = λ its. absurd (apart (ap session_or its))
        go false (Some c) before = before

    role_up : (i : ℕ) (r : Role) → role_of m i ≡ Some r → RoleIs x m i r → RoleIs y m i r
    role_up i New role at = at
    role_up i Waiting role at = at
    role_up i (Bound q) role at = record {
      lives = at.lives;
      its = at.its;
      app = at.app;
      opened = at.opened;
      linked =
          linked_to (BoundTo x m.order q) (BoundTo y m.order q)
          (λ c was. record { carries = was.carries; came = was.came; told = was.told; silent = was.silent; unreset = was.unreset }) i at.app apart at.linked;
      newest = some_kept (λ (j : Linked). IsNewest (x.end_at at.app) q x.past j.dial) (λ (j : Linked). IsNewest (y.end_at at.app) q x.past j.dial)
          (λ j now. newest at.app q j.dial other now) (link_of x i) at.newest;
    }
      where
        apart : i ≢ conn
        apart same = (let both : ◌≡◌ {A = Option Role} (Some Waiting) (Some (Bound q)) = sym waits ∙ ap (role_of m) (sym same) ∙ role in absurd cc)

        other : s ≢ q
        other same = (let both : ◌≡◌ {A = Option ℕ} None (Some i) = sym unbound ∙ ap (conn_of m) same ∙ at.its in absurd cc)
    role_up i (Closing q) role at = record {
      ended = at.ended;
      app = at.app;
      opened = at.opened;
      linked = linked_to (ClosedOn x q) (ClosedOn y q) (λ c was. record { carries = was.carries; came = was.came }) i at.app apart at.linked;
    }
      where
        apart : i ≢ conn
        apart same = (let both : ◌≡◌ {A = Option Role} (Some Waiting) (Some (Closing q)) = sym waits ∙ ap (role_of m) (sym same) ∙ role in absurd cc)

    taken_same : (a k : ℕ) → is_connection_in x.past ((y.end_at a).connection_at k) ≡ is_connection_in x.past ((x.end_at a).connection_at k)
    taken_same a k = go (is_link a k (Some l)) ((x.end_at a).connection_at k)
      where
        go : (b : Bool) (o : Option Connection) → is_connection_in x.past
            (option_map (λ c. if b then welcomed_on s x.past w c else c) o) ≡ is_connection_in x.past o
        go b None = refl
        go true (Some c) = refl
        go false (Some c) = refl

    node_up : NodeDials x m → NodeDials y m
    node_up at = record {
      places = at.places;
      dials = λ a low. record {
        taken = λ some. taken_same a (dial_of m a) ∙ (at.dials a low).taken some;
        greatest = λ number so. (at.dials a low).greatest number (sym (taken_same a number) ∙ so);
      };
      differ = at.differ;
      roles = λ i. each i (role_of m i) refl (at.roles i);
    }
      where
        each : (i : ℕ) (o : Option Role) → role_of m i ≡ o → IfSome o (RoleIs x m i) → IfSome o (RoleIs y m i)
        each i None role so = tt
        each i (Some r) role so = role_up i r role so

    -- The part stays as the Welcome is put.
    pub dials_welcomed : DialsAre v y dead
    dials_welcomed = record {
      pairs = pair_up;
      learnt = λ q k. learnt_by q k (x.lane_at q k).began (app_in (order_at v k) q) (is.learnt q k);
      links = links_up;
      here = is.here;
      node = subst (λ (o : Option DataState). IfSome o (NodeDials y)) (sym runs) (node_up (of_some (NodeDials x) x.node m runs is.node));
    }
