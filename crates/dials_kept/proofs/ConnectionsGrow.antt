-- Connections that go on: what is said of them and of a node that has them stays, where a move lengthens them or leaves them as they were.
use Rattle.std.proofs.Common.{◌≡◌, ◌≤◌, ◌<◌, ℕ, Bool, true, false, not, List, [], ◌∷◌, ◌++◌, ◌&&◌, length, drop, Option, Some, None, is_some, refl, sym, ◌∙◌, ap, subst, arith, inl, inr, length-append, nat_lt}
use Rattle.std.specs.Prelude.{⊤, IfSome, IsSomeAnd}
use Rattle.std.proofs.lemmas.List.Folds.{list_all-append}
use Rattle.std.specs.List.{list_all, list_any}
use Rattle.plain_orders.specs.Entries.{last_epoch}
use Rattle.plain_orders.specs.Sessions.{app_in}
use Rattle.plain_runs.specs.Plain.{Server, current, order_at}
use Rattle.ecp_messages.specs.declared.up.Up.{Up}
use Rattle.ecp_messages.specs.declared.up.Up.TheVariants.{Recover}
use Rattle.ecp_messages.specs.declared.up.UpFrame.{UpFrame}
use Rattle.ecp_messages.specs.declared.down.DownFrame.{DownFrame}
use Rattle.data_rules.specs.Places.{epoch_place}
use Rattle.cluster_runs.specs.CoresState.{Linked}
use Rattle.cluster_runs.specs.Sent.{Connection, Knew, Mark, Place, FirstTaken}
use Rattle.cluster_runs.specs.Machine.{Site, End}
use Rattle.cluster_runs.specs.Connections.{link_of, knows}
use Rattle.cluster_invariant.specs.Dials.{ConnectionIs, PairDials, KnewIs, FirstIs, CarriesOf, WasTold, KnowsStill, first_message, first_frame, is_left_at, is_following, is_made, taken_in}
use Rattle.cluster_invariant.specs.Words.{NoLess, MarkNoLess, stays_at, is_begun, is_reset_frame, is_wire}
use Rattle.cluster_invariant.proofs.Small.{some_kept}

-- what is known, compared

mark_same : (o : Option Mark) → MarkNoLess o o
mark_same None = tt
mark_same (Some m) = inr (refl, omega arith)

pub no_less_same : (a : Knew) → NoLess a a
no_less_same a = inr (refl, mark_same a.mark)

mark_then : (a b c : Option Mark) → MarkNoLess a b → MarkNoLess b c → MarkNoLess a c
mark_then None None None x y = tt
mark_then None None (Some c) x y = y
mark_then None (Some b) c x y = absurd x
mark_then (Some a) None None x y = tt
mark_then (Some a) None (Some c) x y = absurd y
mark_then (Some a) (Some b) None x y = tt
mark_then (Some a) (Some b) (Some c) (inl x) (inl y) = inl (omega (arith, x, y))
mark_then (Some a) (Some b) (Some c) (inl x) (inr y) = inl (omega (arith, x, y.0))
mark_then (Some a) (Some b) (Some c) (inr x) (inl y) = inl (omega (arith, x.0, y))
mark_then (Some a) (Some b) (Some c) (inr x) (inr y) = inr (x.0 ∙ y.0, omega (arith, x.1, y.1))

pub no_less_then : (a b c : Knew) → NoLess a b → NoLess b c → NoLess a c
no_less_then a b c (inl x) (inl y) = inl (omega (arith, x, y))
no_less_then a b c (inl x) (inr y) = inl (omega (arith, x, y.0))
no_less_then a b c (inr x) (inl y) = inl (omega (arith, x.0, y))
no_less_then a b c (inr x) (inr y) = inr (x.0 ∙ y.0, mark_then a.mark b.mark c.mark x.1 y.1)

-- What connections need of a plain server: the orders that were there have their last Epochs and their sessions, and what was told is told.
pub record StaysKnown (v w : Server) : Type 0 where
  pub there : current v ≤ current w
  pub last : (k : ℕ) → k ≤ current v → last_epoch (order_at w k) ≡ last_epoch (order_at v k)
  pub stays : (k : ℕ) → k ≤ current v → epoch_place (order_at v k) ≤ stays_at v k → epoch_place (order_at w k) ≤ stays_at w k
  pub told : (app s k : ℕ) → WasTold v app s k → WasTold w app s k
  pub opened : (s k app : ℕ) → k ≤ current v → app_in (order_at v k) s ≡ Some app → app_in (order_at w k) s ≡ Some app

pub known_same : (v : Server) → StaysKnown v v
known_same v = record { there = omega arith; last = λ k low. refl; stays = λ k low is. is; told = λ app s k is. is; opened = λ s k app low is. is }

-- What they need of a site: links stay, and lanes that began, with what was taken of them.
pub record SiteGrows (x y : Site) : Type 0 where
  pub links : (conn : ℕ) (l : Linked) → link_of x conn ≡ Some l → link_of y conn ≡ Some l
  pub begun : (s k : ℕ) → is_begun (x.lane_at s k) ≡ true → is_begun (y.lane_at s k) ≡ true
  pub taken : (s k : ℕ) → (x.lane_at s k).down_taken ≤ (y.lane_at s k).down_taken

-- A connection goes on: frames more behind the first, frames more that the application end took, and frames more downwards.
pub record Grows (x y : Site) (c d : Connection) : Type 0 where
  pub more : List UpFrame
  pub ups : d.ups ≡ c.ups ++ more
  pub follow : list_all is_following more ≡ true
  pub alone : c.ups_taken ≡ 0 → more ≡ []
  -- the data end may have taken more of one of which it took something
  pub untaken : d.ups_taken ≡ 0 → c.ups_taken ≡ 0
  pub within_ups : c.ups_taken ≤ length c.ups → d.ups_taken ≤ length c.ups
  pub counted : nat_lt 0 d.ups_taken ≡ nat_lt 0 c.ups_taken
  -- frames downwards, no Reset, on one whose Welcome was put
  pub heard : List DownFrame
  pub downs : d.downs ≡ c.downs ++ heard
  pub within : c.downs_taken ≤ length c.downs → d.downs_taken ≤ length d.downs
  pub unheard : c.ups_taken ≡ 0 → heard ≡ []
  pub quiet : c.its ≡ None → heard ≡ []
  pub unreset : list_any is_reset_frame heard ≡ false
  pub linked : d.linked ≡ c.linked
  pub its : d.its ≡ c.its
  pub knew : d.knew ≡ c.knew
  pub first : d.first ≡ c.first
  pub data_left : is_some c.first ≡ c.linked → c.data_left ≡ is_left_at x c.first → d.data_left ≡ is_left_at y c.first

-- a connection that is new: by what the end knew, and later than all others
pub record MadeNow (w : Server) (y : Site) (app number : ℕ) (e : End) (d : Connection) : Type 0 where
  pub is : ConnectionIs w y app number d
  pub knew : d.knew ≡ knows e
  pub its : d.its ≡ None
  pub first : d.first ≡ None
  pub above : (before : ℕ) → is_some (e.connection_at before) ≡ true → before < number

-- each connection goes on, and new ones may come
abbrev pub GrowTo : Site → Server → Site → ℕ → ℕ → End → Option Connection → Option Connection → Type 0
GrowTo x w y app number e None None = ⊤
GrowTo x w y app number e None (Some d) = MadeNow w y app number e d
GrowTo x w y app number e (Some c) None = ⊥
GrowTo x w y app number e (Some c) (Some d) = Grows x y c d

-- one connection

follow_joined : (fs gs : List UpFrame) → list_all is_following fs ≡ true → list_all is_following gs ≡ true → list_all is_following (fs ++ gs) ≡ true
follow_joined fs gs a b = list_all-append is_following fs gs ∙ ap (λ (t : Bool). t && list_all is_following gs) a ∙ b

pub message_later : (v w : Server) → StaysKnown v w → (app dial s : ℕ) (o : Option Mark) → IfSome o (λ m. m.order ≤ current v)
    → first_message w app dial s o ≡ first_message v app dial s o
message_later v w later app dial s None low = refl
message_later v w later app dial s (Some m) low = ap (λ (e : ℕ). Recover app s e m.taken dial) (later.last m.order low)

pub knew_later : (v w : Server) (x y : Site) → StaysKnown v w → SiteGrows x y → (app s : ℕ) (m : Mark) → KnewIs v x app s m → KnewIs w y app s m
knew_later v w x y later grows app s m is = record {
  there = omega (arith, is.there, later.there);
  told = later.told app s m.order is.told;
  begun = grows.begun s m.order is.begun;
  taken = omega (arith, is.taken, grows.taken s m.order);
  stays = later.stays m.order is.there is.stays;
}

pub first_later : (v w : Server) (x y : Site) → StaysKnown v w → SiteGrows x y → (app number : ℕ) (f : FirstTaken) → FirstIs v x app number f → FirstIs w y app number f
first_later v w x y later grows app number f is = record { there = omega (arith, is.there, later.there); linked = grows.links f.conn _ is.linked }

pub carries_later : (v w : Server) (x : Site) → StaysKnown v w → (app number : ℕ) (first : Option FirstTaken) → IfSome first (FirstIs v x app number) → (p : Place)
    → CarriesOf v app first p → CarriesOf w app first p
carries_later v w x later app number first where_taken p is = record {
  order = is.order;
  opened = later.opened p.session p.order app (go first where_taken is.order) is.opened;
}
  where
    go : (o : Option FirstTaken) → IfSome o (FirstIs v x app number) → IsSomeAnd o (λ f. f.order ≡ p.order) → p.order ≤ current v
    go None taken is = absurd is
    go (Some f) taken is = subst (λ (n : ℕ). n ≤ current v) is taken.there

-- What is said of a connection stays.
pub connection_later : (v w : Server) (x y : Site) → StaysKnown v w → SiteGrows x y → (app number : ℕ) (c d : Connection) → Grows x y c d
    → ConnectionIs v x app number c → ConnectionIs w y app number d
connection_later v w x y later grows app number c d g is = record {
  first =
      whole ∙ ap (λ (f : UpFrame). f ∷ (drop 1 c.ups ++ g.more)) frame
      ∙ ap (λ (fs : List UpFrame). first_frame w app number d.knew ∷ fs) (sym (ap (drop 1) whole));
  behind = ap (λ (fs : List UpFrame). list_all is_following (drop 1 fs)) whole ∙ follow_joined (drop 1 c.ups) g.more is.behind g.follow;
  ups_taken = omega (arith, g.within_ups is.ups_taken, ap (λ (fs : List UpFrame). length fs) g.ups, length-append c.ups g.more);
  downs_taken = g.within is.downs_taken;
  alone =
      λ none.
      ap (λ (fs : List UpFrame). drop 1 fs) whole ∙ ap (λ (fs : List UpFrame). fs ++ g.more) (is.alone (g.untaken none))
      ∙ g.alone (g.untaken none);
  silent =
      λ none.
      g.downs ∙ ap (λ (fs : List DownFrame). fs ++ g.heard) (is.silent (g.untaken none)) ∙ g.unheard (g.untaken none);
  linked = g.linked ∙ is.linked ∙ sym g.counted;
  taken = ap (λ (o : Option FirstTaken). is_some o) g.first ∙ is.taken ∙ sym g.linked;
  where_taken =
      subst (λ (o : Option FirstTaken). IfSome o (FirstIs w y app number)) (sym g.first)
      (some_kept (FirstIs v x app number) (FirstIs w y app number) (first_later v w x y later grows app number) c.first is.where_taken);
  data_left = g.data_left is.taken is.data_left ∙ ap (is_left_at y) (sym g.first);
  its =
      subst (λ (o : Option FirstTaken). IfSome d.its (CarriesOf w app o)) (sym g.first)
      (subst (λ (o : Option Place). IfSome o (CarriesOf w app c.first)) (sym g.its)
      (some_kept (CarriesOf v app c.first) (CarriesOf w app c.first) (carries_later v w x later app number c.first is.where_taken) c.its is.its));
  known =
      subst (λ (k : Knew). IfSome k.mark (KnewIs w y app k.session)) (sym g.knew)
      (some_kept (KnewIs v x app c.knew.session) (KnewIs w y app c.knew.session) (knew_later v w x y later grows app c.knew.session) c.knew.mark is.known);
}
  where
    whole : d.ups ≡ first_frame v app number c.knew ∷ (drop 1 c.ups ++ g.more)
    whole = g.ups ∙ ap (λ (fs : List UpFrame). fs ++ g.more) is.first

    frame : first_frame v app number c.knew ≡ first_frame w app number d.knew
    frame =
        sym (ap (first_frame w app number) g.knew
        ∙ ap (λ (m : Up). record { seq = 0; ack = taken_in c.knew.mark; message = m })
        (message_later v w later app number c.knew.session c.knew.mark
        (some_kept (KnewIs v x app c.knew.session) (λ (m : Mark). m.order ≤ current v) (λ (m : Mark) k. k.there) c.knew.mark is.known)))

-- the connections of a pair

each_later : (v w : Server) (x y : Site) → StaysKnown v w → SiteGrows x y → (app number : ℕ) (e : End) (o q : Option Connection)
    → GrowTo x w y app number e o q → IfSome o (ConnectionIs v x app number) → IfSome q (ConnectionIs w y app number)
each_later v w x y later grows app number e None None g is = tt
each_later v w x y later grows app number e None (Some d) g is = g.is
each_later v w x y later grows app number e (Some c) None g is = absurd g
each_later v w x y later grows app number e (Some c) (Some d) g is = connection_later v w x y later grows app number c d g is

now_later : (x y : Site) (w : Server) (app number : ℕ) (e f : End) → NoLess (knows e) (knows f) → (o q : Option Connection) → GrowTo x w y app number e o q
    → IfSome o (λ c. NoLess c.knew (knows e)) → IfSome q (λ c. NoLess c.knew (knows f))
now_later x y w app number e f more None None g is = tt
now_later x y w app number e f more None (Some d) g is = subst (λ (k : Knew). NoLess k (knows f)) (sym g.knew) more
now_later x y w app number e f more (Some c) None g is = absurd g
now_later x y w app number e f more (Some c) (Some d) g is =
    subst (λ (k : Knew). NoLess k (knows f)) (sym g.knew) (no_less_then c.knew (knows e) (knows f) is more)

rising_later : (x y : Site) (w : Server) (app before number : ℕ) (e : End) → before ≤ number → (a b : Option Connection) (o q : Option Connection)
    → e.connection_at before ≡ a → e.connection_at number ≡ o → GrowTo x w y app before e a b → GrowTo x w y app number e o q
    → IfSome a (λ c. IfSome o (λ d. NoLess c.knew d.knew)) → IfSome a (λ c. NoLess c.knew (knows e)) → IfSome b (λ c. IfSome q (λ d. NoLess c.knew d.knew))
rising_later x y w app before number e low None None o q at there g h is now = tt
rising_later x y w app before number e low (Some a) None o q at there g h is now = absurd g
rising_later x y w app before number e low None (Some b) None None at there g h is now = tt
rising_later x y w app before number e low None (Some b) None (Some d) at there g h is now =
    subst (λ (k : Knew). NoLess k d.knew) (sym g.knew) (subst (λ (k : Knew). NoLess (knows e) k) (sym h.knew) (no_less_same (knows e)))
rising_later x y w app before number e low None (Some b) (Some c) None at there g h is now = absurd h
rising_later x y w app before number e low None (Some b) (Some c) (Some d) at there g h is now =
    absurd (omega (arith, low, g.above number (ap (λ (z : Option Connection). is_some z) there)))
rising_later x y w app before number e low (Some a) (Some b) None None at there g h is now = tt
rising_later x y w app before number e low (Some a) (Some b) None (Some d) at there g h is now =
    subst (λ (k : Knew). NoLess k d.knew) (sym g.knew) (subst (λ (k : Knew). NoLess a.knew k) (sym h.knew) now)
rising_later x y w app before number e low (Some a) (Some b) (Some c) None at there g h is now = absurd h
rising_later x y w app before number e low (Some a) (Some b) (Some c) (Some d) at there g h is now =
    subst (λ (k : Knew). NoLess k d.knew) (sym g.knew) (subst (λ (k : Knew). NoLess a.knew k) (sym h.knew) is)

-- What is said of a pair's connections stays, where the end's own state has those that were made and the one that it has.
pub pair_later : (v w : Server) (x y : Site) → StaysKnown v w → SiteGrows x y → (dead gone : Bool) (app : ℕ) (e f : End) → NoLess (knows e) (knows f)
    → ((number : ℕ) → GrowTo x w y app number e (e.connection_at number) (f.connection_at number))
    → ((number : ℕ) → is_some (f.connection_at number) ≡ is_made f.state.dial number)
    → ((number : ℕ) → IfSome (f.connection_at number) (λ c. c.app_left ≡ not (is_wire gone f.state number)))
    → KnowsStill f.state.line (knows f) (f.connection_at f.state.dial) → PairDials v x dead app e → PairDials w y gone app f
pair_later v w x y later grows dead gone app e f more each made left still is = record {
  made = made;
  left = left;
  each = λ number. each_later v w x y later grows app number e (e.connection_at number) (f.connection_at number) (each number) (is.each number);
  rising =
      λ before number low.
      rising_later x y w app before number e low (e.connection_at before) (f.connection_at before) (e.connection_at number) (f.connection_at number) refl refl
      (each before) (each number) (is.rising before number low) (is.now before);
  now = λ number. now_later x y w app number e f more (e.connection_at number) (f.connection_at number) (each number) (is.now number);
  still = still;
}
