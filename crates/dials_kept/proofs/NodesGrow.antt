-- What a running node has of its pairs' connections stays, where they go on; and so does the whole part.
use Rattle.std.proofs.Common.{◌≡◌, ◌≤◌, ℕ, Bool, true, ◌||◌, List, ◌++◌, Option, Some, None, is_some, refl, sym, ◌∙◌, ap, subst, arith}
use Rattle.std.proofs.lemmas.List.Folds.{list_any-append}
use Rattle.std.specs.Prelude.{IfSome, IsSomeAnd}
use Rattle.std.specs.List.{list_any}
use Rattle.plain_orders.specs.declared.entry.Entry.{Entry}
use Rattle.plain_orders.specs.Sessions.{app_in}
use Rattle.plain_runs.specs.Plain.{Server, order_at}
use Rattle.ecp_messages.specs.declared.down.DownFrame.{DownFrame}
use Rattle.data_rules.specs.DataState.{DataState}
use Rattle.data_rules.specs.declared.rows.Role.{Role}
use Rattle.data_rules.specs.declared.rows.Role.TheVariants.{New, Waiting, Bound, Closing}
use Rattle.data_rules.specs.Callers.{dial_of}
use Rattle.data_rules.specs.Conns.{role_of}
use Rattle.cluster_runs.specs.CoresState.{Linked}
use Rattle.cluster_runs.specs.Sent.{Connection, Knew, Place, FirstTaken}
use Rattle.cluster_runs.specs.Machine.{Site, End, DataConnection}
use Rattle.cluster_runs.specs.Connections.{link_of, link_in, knows}
use Rattle.cluster_invariant.specs.Dials.{DialsAre, LearntOn, LearntBy, GreatestDial, LinkedTo, BoundIs, BoundTo, ClosedOn, RoleIs, NodeDials, IsNewest, IsLinkedBy, CarriesNoOther, CameFor, is_here, has_conn, is_connection_in, is_taken_in, as_it_learns, PairDials}
use Rattle.cluster_invariant.specs.Words.{NoLess, is_begun, is_reset_frame}
use Rattle.cluster_invariant.proofs.Small.{some_kept}
use Rattle.dials_kept.proofs.ConnectionsGrow.{StaysKnown, SiteGrows, Grows, MadeNow, GrowTo, no_less_then}

-- options of connections

-- what was there is there, with what follows of it
pub some_grows : (x y : Site) (w : Server) (app number : ℕ) (e : End) (P Q : Connection → Type 0) → ((c d : Connection) → Grows x y c d → P c → Q d)
    → (o q : Option Connection) → GrowTo x w y app number e o q → IsSomeAnd o P → IsSomeAnd q Q
some_grows x y w app number e P Q f None q g is = absurd is
some_grows x y w app number e P Q f (Some c) None g is = absurd g
some_grows x y w app number e P Q f (Some c) (Some d) g is = f c d g is

-- what holds of each that is there holds of each after
pub if_grows : (x y : Site) (w : Server) (app number : ℕ) (e : End) (P Q : Connection → Type 0) → ((c d : Connection) → Grows x y c d → P c → Q d)
    → ((d : Connection) → MadeNow w y app number e d → Q d) → (o q : Option Connection) → GrowTo x w y app number e o q → IfSome o P → IfSome q Q
if_grows x y w app number e P Q f made None None g is = tt
if_grows x y w app number e P Q f made None (Some d) g is = made d g
if_grows x y w app number e P Q f made (Some c) None g is = absurd g
if_grows x y w app number e P Q f made (Some c) (Some d) g is = f c d g is

-- the order in which a first frame was taken
taken_same : (x y : Site) (w : Server) (app number k : ℕ) (e : End) (o q : Option Connection) → GrowTo x w y app number e o q
    → is_connection_in k q ≡ is_connection_in k o
taken_same x y w app number k e None None g = refl
taken_same x y w app number k e None (Some d) g = ap (is_taken_in k) g.first
taken_same x y w app number k e (Some c) None g = absurd g
taken_same x y w app number k e (Some c) (Some d) g = ap (is_taken_in k) g.first

-- all ends' connections go on
abbrev pub EndsGrow : Site → Server → Site → Type 0
EndsGrow x w y = (app number : ℕ) → GrowTo x w y app number (x.end_at app) ((x.end_at app).connection_at number) ((y.end_at app).connection_at number)

-- links

linked_by_later : (x y : Site) (w : Server) → EndsGrow x w y → (conn : ℕ) (l : Linked) → IsLinkedBy x conn l → IsLinkedBy y conn l
linked_by_later x y w ends conn l is =
    some_grows x y w l.app l.dial (x.end_at l.app) (λ (c : Connection). IsSomeAnd c.first (λ f. f.conn ≡ conn))
    (λ (d : Connection). IsSomeAnd d.first (λ f. f.conn ≡ conn))
    (λ c d g at. subst (λ (o : Option FirstTaken). IsSomeAnd o (λ f. f.conn ≡ conn)) (sym g.first) at) ((x.end_at l.app).connection_at l.dial)
    ((y.end_at l.app).connection_at l.dial) (ends l.app l.dial) is

-- what a session learnt

learnt_on_later : (v w : Server) (x y : Site) → StaysKnown v w → EndsGrow x w y → (app : ℕ) → NoLess (knows (x.end_at app)) (knows (y.end_at app))
    → (s k dial : ℕ) → LearntOn v (x.end_at app) app s k dial → LearntOn w (y.end_at app) app s k dial
learnt_on_later v w x y later ends app more s k dial is = record {
  carries =
      some_grows x y w app dial (x.end_at app) (λ (c : Connection). c.its ≡ Some (record { session = s; order = k }))
      (λ (d : Connection). d.its ≡ Some (record { session = s; order = k })) (λ c d g at. g.its ∙ at) ((x.end_at app).connection_at dial)
      ((y.end_at app).connection_at dial) (ends app dial) is.carries;
  there = omega (arith, is.there, later.there);
  told = later.told app s k is.told;
  later =
      λ number above.
      if_grows x y w app number (x.end_at app) (λ (c : Connection). NoLess (as_it_learns s k) c.knew) (λ (d : Connection). NoLess (as_it_learns s k) d.knew)
      (λ c d g at. subst (λ (z : Knew). NoLess (as_it_learns s k) z) (sym g.knew) at)
      (λ d made. subst (λ (z : Knew). NoLess (as_it_learns s k) z) (sym made.knew) is.now) ((x.end_at app).connection_at number)
      ((y.end_at app).connection_at number) (ends app number) (is.later number above);
  now = no_less_then (as_it_learns s k) (knows (x.end_at app)) (knows (y.end_at app)) is.now more;
}

-- What a session learnt stays, while its lane began where it did.
pub learnt_later : (v w : Server) (x y : Site) → StaysKnown v w → EndsGrow x w y → ((app : ℕ) → NoLess (knows (x.end_at app)) (knows (y.end_at app)))
    → (s k : ℕ) (began : Option ℕ) → LearntBy v x s k began (app_in (order_at v k) s) → LearntBy w y s k began (app_in (order_at w k) s)
learnt_later v w x y later ends more s k None is = tt
learnt_later v w x y later ends more s k (Some dial) is = go (app_in (order_at v k) s) refl is
  where
    go : (o : Option ℕ) → app_in (order_at v k) s ≡ o → LearntBy v x s k (Some dial) o → LearntBy w y s k (Some dial) (app_in (order_at w k) s)
    go None its learnt = absurd learnt
    go (Some app) its learnt =
        subst (λ (o : Option ℕ). LearntBy w y s k (Some dial) o) (sym (later.opened s k app learnt.there its))
        (learnt_on_later v w x y later ends app (more app) s k dial learnt)

-- a node

linked_to_later : (x y : Site) (w : Server) → EndsGrow x w y → y.past ≡ x.past → ((conn : ℕ) → link_of y conn ≡ link_of x conn) → (conn app : ℕ) (P Q : Connection → Type 0)
    → ((c d : Connection) → Grows x y c d → P c → Q d) → LinkedTo x conn app P → LinkedTo y conn app Q
linked_to_later x y w ends past links conn app P Q f is = record {
  dial = is.dial;
  link = links conn ∙ is.link;
  first =
      some_grows x y w app is.dial (x.end_at app) (λ (c : Connection). c.first ≡ Some (record { order = x.past; conn = conn }))
      (λ (d : Connection). d.first ≡ Some (record { order = y.past; conn = conn }))
      (λ c d g at. subst (λ (k : ℕ). d.first ≡ Some (record { order = k; conn = conn })) (sym past) (g.first ∙ at)) ((x.end_at app).connection_at is.dial)
      ((y.end_at app).connection_at is.dial) (ends app is.dial) is.first;
  its =
      some_grows x y w app is.dial (x.end_at app) P Q f ((x.end_at app).connection_at is.dial) ((y.end_at app).connection_at is.dial) (ends app is.dial) is.its;
}

-- a session whose lane began has its messages on the connection
abbrev pub CarriesBegun : Site → Site → ℕ → Connection → Type 0
CarriesBegun x y s c = is_begun (y.lane_at s x.past) ≡ true → c.its ≡ Some (record { session = s; order = x.past })

bound_later : (x y : Site) (es : List Entry) (s : ℕ) → y.past ≡ x.past → (c d : Connection) → Grows x y c d → CarriesBegun x y s c × BoundTo x es s c
    → BoundTo y es s d
bound_later x y es s past c d g both = record {
  carries =
      subst (λ (k : ℕ). CarriesNoOther s k d) (sym past)
      (subst (λ (o : Option Place). IfSome o (λ p. p ≡ record { session = s; order = x.past })) (sym g.its) both.1.carries);
  came = subst (λ (k : Knew). CameFor es s k k.mark) (sym g.knew) both.1.came;
  told =
      λ at.
      g.its
      ∙ subst (λ (k : ℕ). is_begun (y.lane_at s k) ≡ true → c.its ≡ Some (record { session = s; order = k })) (sym past)
      both.0 at;
  silent =
      λ none.
      g.downs ∙ ap (λ (fs : List DownFrame). fs ++ g.heard) (both.1.silent (sym g.its ∙ none)) ∙ g.quiet (sym g.its ∙ none);
  unreset =
      ap (λ (fs : List DownFrame). list_any is_reset_frame fs) g.downs ∙ list_any-append is_reset_frame c.downs g.heard
      ∙ ap (λ (b : Bool). b || list_any is_reset_frame g.heard) both.1.unreset ∙ g.unreset;
}

closed_later : (x y : Site) (s : ℕ) → y.past ≡ x.past → (c d : Connection) → Grows x y c d → ClosedOn x s c → ClosedOn y s d
closed_later x y s past c d g is = record {
  carries =
      subst (λ (k : ℕ). CarriesNoOther s k d) (sym past)
      (subst (λ (o : Option Place). IfSome o (λ p. p ≡ record { session = s; order = x.past })) (sym g.its) is.carries);
  came = subst (λ (k : Knew). IsSomeAnd k.mark (λ m. k.session ≡ s)) (sym g.knew) is.came;
}

newest_later : (x y : Site) (w : Server) → EndsGrow x w y → y.past ≡ x.past → (s app dial : ℕ) → IsNewest (x.end_at app) s x.past dial
    → IsNewest (y.end_at app) s y.past dial
newest_later x y w ends past s app dial is =
    subst (λ (k : ℕ). IsNewest (y.end_at app) s k dial) (sym past)
    (λ number.
    if_grows x y w app number (x.end_at app) (λ (c : Connection). c.its ≡ Some (record { session = s; order = x.past }) → number ≤ dial)
    (λ (d : Connection). d.its ≡ Some (record { session = s; order = x.past }) → number ≤ dial) (λ c d g low at. low (sym g.its ∙ at))
    (λ d made at. absurd (let both : ◌≡◌ {A = Option Place} None (Some (record { session = s; order = x.past })) = sym made.its ∙ at in cc))
    ((x.end_at app).connection_at number) ((y.end_at app).connection_at number) (ends app number) (is number))

greatest_later : (x y : Site) (w : Server) → EndsGrow x w y → (app k dial : ℕ) → GreatestDial k (x.end_at app) dial → GreatestDial k (y.end_at app) dial
greatest_later x y w ends app k dial is = record { taken = λ some. same dial ∙ is.taken some; greatest = λ number at. is.greatest number (sym (same number) ∙ at) }
  where
    same : (number : ℕ) → is_connection_in k ((y.end_at app).connection_at number) ≡ is_connection_in k ((x.end_at app).connection_at number)
    same number =
        taken_same x y w app number k (x.end_at app) ((x.end_at app).connection_at number) ((y.end_at app).connection_at number) (ends app number)

-- two facts of one connection
both_some : (o : Option Connection) (P Q : Connection → Type 0) → IsSomeAnd o P → IsSomeAnd o Q → IsSomeAnd o (λ c. P c × Q c)
both_some None P Q p q = absurd p
both_some (Some c) P Q p q = (p, q)

linked_both : (x : Site) (conn app : ℕ) (P Q : Connection → Type 0) (at : LinkedTo x conn app Q) → IsSomeAnd ((x.end_at app).connection_at at.dial) P
    → LinkedTo x conn app (λ c. P c × Q c)
linked_both x conn app P Q at is = record { dial = at.dial; link = at.link; first = at.first; its = both_some ((x.end_at app).connection_at at.dial) P Q is at.its }

-- the connection of a live session whose lane began
abbrev pub ToldOn : Site → Site → DataState → Type 0
ToldOn x y n = (conn s : ℕ) (at : BoundIs x n conn s) → IsSomeAnd ((x.end_at at.app).connection_at at.linked.dial) (CarriesBegun x y s)

-- What a node has stays, where its data connections and the order are as they were.
pub node_later : (w : Server) (x y : Site) (n : DataState) → EndsGrow x w y → ((conn : ℕ) → link_of y conn ≡ link_of x conn) → y.past ≡ x.past → ToldOn x y n
    → NodeDials x n → NodeDials y n
node_later w x y n ends links past told is = record {
  places = is.places;
  dials = λ app low. subst (λ (k : ℕ). GreatestDial k (y.end_at app) (dial_of n app)) (sym past) (greatest_later x y w ends app x.past (dial_of n app) (is.dials app low));
  differ = is.differ;
  roles = λ conn. some_kept (RoleIs x n conn) (RoleIs y n conn) (role conn) (role_of n conn) (is.roles conn);
}
  where
    role : (conn : ℕ) (r : Role) → RoleIs x n conn r → RoleIs y n conn r
    role conn New at = links conn ∙ at
    role conn Waiting at = ap (λ (o : Option Linked). is_some o) (links conn) ∙ at
    role conn (Bound s) at = record {
      lives = at.lives;
      its = at.its;
      app = at.app;
      opened = at.opened;
      linked =
          linked_to_later x y w ends past links conn at.app (λ c. CarriesBegun x y s c × BoundTo x n.order s c) (BoundTo y n.order s)
          (bound_later x y n.order s past) (linked_both x conn at.app (CarriesBegun x y s) (BoundTo x n.order s) at.linked (told conn s at));
      newest =
          subst (λ (o : Option Linked). IfSome o (λ l. IsNewest (y.end_at at.app) s y.past l.dial)) (sym (links conn))
          (some_kept (λ (l : Linked). IsNewest (x.end_at at.app) s x.past l.dial) (λ (l : Linked). IsNewest (y.end_at at.app) s y.past l.dial)
          (λ l new. newest_later x y w ends past s at.app l.dial new) (link_of x conn) at.newest);
    }
    role conn (Closing s) at = record {
      ended = at.ended;
      app = at.app;
      opened = at.opened;
      linked = linked_to_later x y w ends past links conn at.app (ClosedOn x s) (ClosedOn y s) (closed_later x y s past) at.linked;
    }

-- lanes that began where they did
pub told_same : (x y : Site) (n : DataState) → ((s : ℕ) → is_begun (y.lane_at s x.past) ≡ is_begun (x.lane_at s x.past)) → ToldOn x y n
told_same x y n begun conn s at = go ((x.end_at at.app).connection_at at.linked.dial) at.linked.its
  where
    go : (o : Option Connection) → IsSomeAnd o (BoundTo x n.order s) → IsSomeAnd o (CarriesBegun x y s)
    go None is = absurd is
    go (Some c) is = λ now. is.told (sym (begun s) ∙ now)

-- Links stay linked by what they were.
pub links_later : (x y : Site) (w : Server) → EndsGrow x w y → ((conn : ℕ) → link_of y conn ≡ link_of x conn) → ((conn : ℕ) → IfSome (link_of x conn) (IsLinkedBy x conn))
    → (conn : ℕ) → IfSome (link_of y conn) (IsLinkedBy y conn)
links_later x y w ends links is conn =
    subst (λ (o : Option Linked). IfSome o (IsLinkedBy y conn)) (sym (links conn))
    (some_kept (IsLinkedBy x conn) (IsLinkedBy y conn) (linked_by_later x y w ends conn) (link_of x conn) (is conn))

-- a site whose data connections and node are as they were
pub record SameNode (x y : Site) : Type 0 where
  pub node : y.node ≡ x.node
  pub past : y.past ≡ x.past
  pub connections : y.connection_at ≡ x.connection_at
  pub began : (s k : ℕ) → (y.lane_at s k).began ≡ (x.lane_at s k).began
  pub taken : (s k : ℕ) → (x.lane_at s k).down_taken ≤ (y.lane_at s k).down_taken

-- so its links are as they were
pub links_same : (x y : Site) → SameNode x y → (conn : ℕ) → link_of y conn ≡ link_of x conn
links_same x y same conn = ap (λ (f : ℕ → Option DataConnection). link_in (f conn)) same.connections

pub site_grows : (x y : Site) → SameNode x y → SiteGrows x y
site_grows x y same = record {
  links = λ conn l is. links_same x y same conn ∙ is;
  begun = λ s k is. ap (λ (o : Option ℕ). is_some o) (same.began s k) ∙ is;
  taken = same.taken;
}

-- The whole part stays, where the data end is as it was and each pair's connections are as they should be.
pub dials_later : (v w : Server) (x y : Site) (dead gone : ℕ → Bool) → StaysKnown v w → SameNode x y → EndsGrow x w y
    → ((app : ℕ) → NoLess (knows (x.end_at app)) (knows (y.end_at app))) → ((app : ℕ) → PairDials w y (gone app) app (y.end_at app)) → DialsAre v x dead
    → DialsAre w y gone
dials_later v w x y dead gone later same ends more pairs is = record {
  pairs = pairs;
  learnt =
      λ s k.
      subst (λ (o : Option ℕ). LearntBy w y s k o (app_in (order_at w k) s)) (sym (same.began s k))
      (learnt_later v w x y later ends more s k (x.lane_at s k).began (is.learnt s k));
  links = links_later x y w ends (links_same x y same) is.links;
  here =
      λ conn.
      ap (λ (f : ℕ → Option DataConnection). is_here (f conn)) same.connections ∙ is.here conn ∙ ap (λ (o : Option DataState). has_conn o conn) (sym same.node);
  node =
      subst (λ (o : Option DataState). IfSome o (NodeDials y)) (sym same.node)
      (some_kept (NodeDials x) (NodeDials y)
      (λ n at. node_later w x y n ends (links_same x y same) same.past
      (told_same x y n (λ s. ap (λ (o : Option ℕ). is_some o) (same.began s x.past))) at) x.node is.node);
}
