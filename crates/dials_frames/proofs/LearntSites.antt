-- A site at which a session learnt of an order: what it was told on a connection, and what a running node has of that connection.
use Rattle.std.proofs.Common.{◌≡◌, ◌≤◌, ◌<◌, ℕ, ◌+◌, Bool, true, false, ◌&&◌, ◌==◌, List, Option, Some, None, is_some, if◌then◌else◌, refl, sym, ◌∙◌, ap, subst, arith}
use Rattle.std.specs.Prelude.{IfSome, IsSomeAnd}
use Rattle.std.proofs.lemmas.Bool.{and_parts, eqb-true}
use Rattle.plain_orders.specs.declared.entry.Entry.{Entry}
use Rattle.plain_orders.specs.Sessions.{app_in}
use Rattle.plain_runs.specs.Plain.{Server, put, current, order_at}
use Rattle.data_rules.specs.DataState.{DataState}
use Rattle.cluster_runs.specs.CoresState.{Linked}
use Rattle.cluster_runs.specs.Sent.{Connection}
use Rattle.cluster_runs.specs.Machine.{Site, End, DataConnection}
use Rattle.cluster_runs.specs.Connections.{knows, link_in, link_of}
use Rattle.cluster_invariant.specs.Dials.{BoundTo, DialsAre, IsNewest, LearntBy, LearntOn, NodeDials, PairDials, has_conn, is_here}
use Rattle.cluster_invariant.specs.Words.{NoLess, is_begun}
use Rattle.cluster_invariant.proofs.Small.{at_places, of_some, put_same}
use Rattle.dials_kept.proofs.ConnectionsGrow.{GrowTo, SiteGrows, StaysKnown, no_less_same, pair_later}
use Rattle.dials_kept.proofs.MadeConnections.{made_above}
use Rattle.dials_kept.proofs.NodesGrow.{CarriesBegun, EndsGrow, ToldOn, learnt_later, links_later, node_later}
use Rattle.dials_kept.proofs.ShortDials.{grow_same}

-- Its node and its data connections are as they were, and one lane began, on the connection with this number.
pub record LearntAt (x y : Site) (session k dial : ℕ) : Type 0 where
  pub node : y.node ≡ x.node
  pub past : y.past ≡ x.past
  pub connections : y.connection_at ≡ x.connection_at
  pub began : (s j : ℕ) → (y.lane_at s j).began ≡ (if s == session && j == k then Some dial else (x.lane_at s j).began)
  pub taken : (s j : ℕ) → (x.lane_at s j).down_taken ≤ (y.lane_at s j).down_taken

links_as : (x y : Site) → y.connection_at ≡ x.connection_at → (conn : ℕ) → link_of y conn ≡ link_of x conn
links_as x y same conn = ap (λ (f : ℕ → Option DataConnection). link_in (f conn)) same

pub learnt_grows : (x y : Site) (session k dial : ℕ) → LearntAt x y session k dial → SiteGrows x y
learnt_grows x y session k dial at = record {
  links = λ conn l is. links_as x y at.connections conn ∙ is;
  begun = λ s j is. ap (λ (o : Option ℕ). is_some o) (at.began s j) ∙ still (s == session && j == k) (x.lane_at s j).began is;
  taken = at.taken;
}
  where
    still : (b : Bool) (o : Option ℕ) → is_some o ≡ true → is_some (if b then Some dial else o) ≡ true
    still true o is = refl
    still false o is = is

-- The connection on which it learnt: the last that its application server made, which carries the session's messages in that order.
pub record LearntFrom (v : Server) (x : Site) (app session k : ℕ) : Type 0 where
  pub on : Connection
  pub its : (x.end_at app).connection_at (x.end_at app).state.dial ≡ Some on
  pub carries : on.its ≡ Some (record { session = session; order = k })
  pub opened : app_in (order_at v k) session ≡ Some app

-- a live session that learnt of the order has its messages on its connection
told_learnt : (v : Server) (x y : Site) (app session k : ℕ) (dead : Bool) (n : DataState) → LearntAt x y session k (x.end_at app).state.dial
    → LearntFrom v x app session k → PairDials v x dead app (x.end_at app) → (k ≡ x.past → n.order ≡ order_at v k) → ToldOn x y n
told_learnt v x y app session k dead n at from pair order conn s bound = go (s == session && x.past == k) refl
  where
    e : End
    e = x.end_at app

    before : (o : Option Connection) → is_begun (y.lane_at s x.past) ≡ is_begun (x.lane_at s x.past) → IsSomeAnd o (BoundTo x n.order s) → IsSomeAnd o (CarriesBegun x y s)
    before None same is = absurd is
    before (Some c) same is = λ now. is.told (sym same ∙ now)

    there : (o : Option Connection) → IsSomeAnd o (BoundTo x n.order s) → is_some o ≡ true
    there None is = absurd is
    there (Some c) is = refl

    -- it is bound to that connection
    here : s ≡ session → x.past ≡ k → bound.app ≡ app → IsSomeAnd ((x.end_at bound.app).connection_at bound.linked.dial) (CarriesBegun x y s)
    here same_session same_order same_app =
        subst (λ (a : ℕ). IsSomeAnd ((x.end_at a).connection_at bound.linked.dial) (CarriesBegun x y s)) (sym same_app)
        (subst (λ (n : ℕ). IsSomeAnd (e.connection_at n) (CarriesBegun x y s)) (sym number)
        (subst (λ (o : Option Connection). IsSomeAnd o (CarriesBegun x y s)) (sym from.its) (λ now. carried)))
      where
        carried : from.on.its ≡ Some (record { session = s; order = x.past })
        carried =
            from.carries ∙ ap (λ (i : ℕ). Some (record { session = i; order = k })) (sym same_session)
            ∙ ap (λ (j : ℕ). Some (record { session = s; order = j })) (sym same_order)

        newest : IsNewest (x.end_at bound.app) s x.past bound.linked.dial
        newest = of_some (λ (l : Linked). IsNewest (x.end_at bound.app) s x.past l.dial) (link_of x conn) _ bound.linked.link bound.newest

        low : e.state.dial ≤ bound.linked.dial
        low =
            of_some (λ (c : Connection). c.its ≡ Some (record { session = s; order = x.past }) → e.state.dial ≤ bound.linked.dial) (e.connection_at e.state.dial) from.on
            from.its (subst (λ (a : ℕ). IsNewest (x.end_at a) s x.past bound.linked.dial) same_app newest e.state.dial) carried

        high : bound.linked.dial < e.state.dial + 1
        high =
            made_above e pair.made bound.linked.dial
            (subst (λ (a : ℕ). is_some ((x.end_at a).connection_at bound.linked.dial) ≡ true) same_app
            (there ((x.end_at bound.app).connection_at bound.linked.dial) bound.linked.its))

        number : bound.linked.dial ≡ e.state.dial
        number = omega (arith, low, high)

    go : (b : Bool) → (s == session && x.past == k) ≡ b → IsSomeAnd ((x.end_at bound.app).connection_at bound.linked.dial) (CarriesBegun x y s)
    go false other =
        before ((x.end_at bound.app).connection_at bound.linked.dial)
        (ap (λ (o : Option ℕ). is_some o) (at.began s x.past ∙ ap (λ (b : Bool). if b then Some e.state.dial else (x.lane_at s x.past).began) other)) bound.linked.its
    go true same = here same_session same_order (the_app (sym bound.opened ∙ ap (λ (es : List Entry). app_in es s) (order (sym same_order)) ∙ ap (app_in (order_at v k)) same_session ∙ from.opened))
      where
        same_session : s ≡ session
        same_session = eqb-true s session (and_parts (s == session) (x.past == k) same).0

        same_order : x.past ≡ k
        same_order = eqb-true x.past k (and_parts (s == session) (x.past == k) same).1

        the_app : ◌≡◌ {A = Option ℕ} (Some bound.app) (Some app) → bound.app ≡ app
        the_app is = cc (is)

-- The whole part, where the end that learnt has these connections.
pub dials_with_learnt : (v w : Server) (x y : Site) (dead : ℕ → Bool) (app : ℕ) (f : End) (session k : ℕ) → y.end_at ≡ put x.end_at app f
    → LearntAt x y session k (x.end_at app).state.dial → LearntFrom v x app session k → k ≤ current v → StaysKnown v w
    → ((number : ℕ) → GrowTo x w y app number (x.end_at app) ((x.end_at app).connection_at number) (f.connection_at number))
    → NoLess (knows (x.end_at app)) (knows f) → PairDials w y (dead app) app f → LearntOn w f app session k (x.end_at app).state.dial
    → IfSome x.node (λ n. k ≡ x.past → n.order ≡ order_at v k) → DialsAre v x dead → DialsAre w y dead
dials_with_learnt v w x y dead app f session k its at from there later grow more pair learnt order is = record {
  pairs =
      λ a.
      subst (λ (g : ℕ → End). PairDials w y (dead a) a (g a)) (sym its)
      (at_places (λ (b : ℕ) (z : End). PairDials w y (dead b) b z) x.end_at app f pair (λ b other. beside b) a);
  learnt = λ s j. subst (λ (o : Option ℕ). LearntBy w y s j o (app_in (order_at w j) s)) (sym (at.began s j)) (each s j (s == session && j == k) refl);
  links = links_later x y w ends (links_as x y at.connections) is.links;
  here =
      λ conn.
      ap (λ (g : ℕ → Option DataConnection). is_here (g conn)) at.connections ∙ is.here conn ∙ ap (λ (o : Option DataState). has_conn o conn) (sym at.node);
  node = subst (λ (o : Option DataState). IfSome o (NodeDials y)) (sym at.node) (nodes x.node order is.node);
}
  where
    e : End
    e = x.end_at app

    ends : EndsGrow x w y
    ends a number =
        subst (λ (g : ℕ → End). GrowTo x w y a number (x.end_at a) ((x.end_at a).connection_at number) ((g a).connection_at number)) (sym its)
        (at_places (λ (b : ℕ) (z : End). GrowTo x w y b number (x.end_at b) ((x.end_at b).connection_at number) (z.connection_at number)) x.end_at app f (grow number)
        (λ b other. grow_same x y w b number (x.end_at b) at.connections ((x.end_at b).connection_at number)) a)

    knew : (a : ℕ) → NoLess (knows (x.end_at a)) (knows (y.end_at a))
    knew a =
        subst (λ (g : ℕ → End). NoLess (knows (x.end_at a)) (knows (g a))) (sym its)
        (at_places (λ (b : ℕ) (z : End). NoLess (knows (x.end_at b)) (knows z)) x.end_at app f more (λ b other. no_less_same (knows (x.end_at b))) a)

    beside : (a : ℕ) → PairDials w y (dead a) a (x.end_at a)
    beside a =
        pair_later v w x y later (learnt_grows x y session k e.state.dial at) (dead a) (dead a) a (x.end_at a) (x.end_at a) (no_less_same (knows (x.end_at a)))
        (λ number. grow_same x y w a number (x.end_at a) at.connections ((x.end_at a).connection_at number)) (is.pairs a).made (is.pairs a).left
        (is.pairs a).still (is.pairs a)

    own : LearntBy w y session k (Some e.state.dial) (app_in (order_at w k) session)
    own =
        subst (λ (o : Option ℕ). LearntBy w y session k (Some e.state.dial) o) (sym (later.opened session k app there from.opened))
        (subst (λ (z : End). LearntOn w z app session k e.state.dial) (sym (ap (λ (g : ℕ → End). g app) its ∙ put_same x.end_at app f)) learnt)

    each : (s j : ℕ) (b : Bool) → (s == session && j == k) ≡ b
        → LearntBy w y s j (if b then Some e.state.dial else (x.lane_at s j).began) (app_in (order_at w j) s)
    each s j true same =
        subst (λ (i : ℕ). LearntBy w y i j (Some e.state.dial) (app_in (order_at w j) i)) (sym (eqb-true s session (and_parts (s == session) (j == k) same).0))
        (subst (λ (i : ℕ). LearntBy w y session i (Some e.state.dial) (app_in (order_at w i) session)) (sym (eqb-true j k (and_parts (s == session) (j == k) same).1)) own)
    each s j false other = learnt_later v w x y later ends knew s j (x.lane_at s j).began (is.learnt s j)

    nodes : (o : Option DataState) → IfSome o (λ n. k ≡ x.past → n.order ≡ order_at v k) → IfSome o (NodeDials x) → IfSome o (NodeDials y)
    nodes None order at_node = tt
    nodes (Some n) order at_node =
        node_later w x y n ends (links_as x y at.connections) at.past (told_learnt v x y app session k (dead app) n at from (is.pairs app) order) at_node
