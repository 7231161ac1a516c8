-- The sessions whose messages connections carry, and their windows: what moves do to connections.
use Rattle.std.proofs.Common.{◌≡◌, ℕ, Bool, true, false, if◌then◌else◌, List, [], ◌∷◌, ◌++◌, map, filter, Option, Some, None, option_map, refl, sym, subst}
use Rattle.std.specs.Prelude.{◌==◌, IfSome}
use Rattle.std.specs.List.{AllByRecursion}
use Rattle.ecp_messages.specs.declared.down.Down.{Down}
use Rattle.ecp_messages.specs.declared.down.Down.TheVariants.{Welcome, Reset, Block, Drop, Ack, Grant, Answer, Normal, Bare}
use Rattle.ecp_messages.specs.declared.down.DownFrame.{DownFrame}
use Rattle.data_rules.specs.declared.down_frames.DownOut.{DownOut}
use Rattle.data_rules.specs.declared.data_in.DataIn.{DataIn}
use Rattle.data_rules.specs.declared.data_in.DataIn.TheVariants as data_in
use Rattle.data_rules.specs.DataState.{DataState}
use Rattle.cluster_runs.specs.CoresState.{Linked}
use Rattle.cluster_runs.specs.Connections.{at_conn, at_link, at_number, data_leaves, down_of, hears_downs, is_link, is_out_on, leaves_conn, leaves_conns, link_of, linked_if, up_taken, welcomed, with_downs}
use Rattle.cluster_runs.specs.Goes.{server_takes}
use Rattle.cluster_runs.specs.Machine.{End, Site}
use Rattle.cluster_runs.specs.Moves.{named_dial}
use Rattle.cluster_runs.specs.Sent.{Connection, Place}
use Rattle.cluster_invariant.proofs.AllLists.{all_filtered}
use Rattle.windows_kept.proofs.WelcomesGo.{FrameHas, HasWindow, WelcomeHas}

-- in the order with this place, the session has a window while it is live
abbrev pub PlaceIn : ℕ → DataState → Place → Type 0
PlaceIn past n p = p.order ≡ past → HasWindow n p.session

-- of the session whose messages a connection carries
abbrev pub CarriedIn : ℕ → DataState → Connection → Type 0
CarriedIn past n c = IfSome c.its (PlaceIn past n)

-- of all connections of an end
abbrev pub EndIn : ℕ → DataState → End → Type 0
EndIn past n e = (number : ℕ) → IfSome (e.connection_at number) (CarriedIn past n)

-- of all ends
abbrev pub EndsIn : ℕ → DataState → (ℕ → End) → Type 0
EndsIn past n ends = (app : ℕ) → EndIn past n (ends app)

module _ (past : ℕ) (n : DataState) where
  -- a change by which a connection carries the messages that it carried
  same_its : (f : Connection → Connection) → ((c : Connection) → (f c).its ≡ c.its) → (o : Option Connection) (b : Bool) → IfSome o (CarriedIn past n)
      → IfSome (option_map (λ c. if b then f c else c) o) (CarriedIn past n)
  same_its f same None b has = tt
  same_its f same (Some c) true has = subst (λ (p : Option Place). IfSome p (PlaceIn past n)) (sym (same c)) has
  same_its f same (Some c) false has = has

  pub links_have : (l : Option Linked) (f : Connection → Connection) (x : Site) → ((c : Connection) → (f c).its ≡ c.its) → EndsIn past n x.end_at
      → EndsIn past n (at_link l f x).end_at
  links_have l f x same has a k = same_its f same ((x.end_at a).connection_at k) (is_link a k l) (has a k)

  leave_has : (conn : ℕ) (x : Site) → EndsIn past n x.end_at → EndsIn past n (leaves_conn conn x).end_at
  leave_has conn x has = links_have (link_of x conn) data_leaves x (λ c. refl) has

  pub leaves_have : (conns : List ℕ) (x : Site) → EndsIn past n x.end_at → EndsIn past n (leaves_conns conns x).end_at
  leaves_have [] x has = has
  leaves_have (conn ∷ conns) x has = leaves_have conns (leaves_conn conn x) (leave_has conn x has)

  pub takes_have : (input : DataIn) (x : Site) → EndsIn past n x.end_at → EndsIn past n (server_takes input x).end_at
  takes_have (data_in.Frame conn frame) x has =
      links_have (link_of (at_conn conn (linked_if (named_dial frame.message)) x) conn) (up_taken x.past conn) (at_conn conn (linked_if (named_dial frame.message)) x)
      (λ c. refl) has
  takes_have (data_in.Connected conn) x has = has
  takes_have (data_in.Broken conn) x has = leave_has conn x has
  takes_have data_in.Tick x has = has
  takes_have (data_in.Saved upto) x has = has

  -- frames that are put

  welcomed_has : (its : Option Place) (m : Down) → WelcomeHas n m → IfSome its (PlaceIn past n) → IfSome (welcomed past its m) (PlaceIn past n)
  welcomed_has its (Welcome session epoch kept front taken) has was = λ same. has
  welcomed_has its (Reset session at) has was = was
  welcomed_has its (Block front block) has was = was
  welcomed_has its (Drop front lo hi) has was = was
  welcomed_has its (Ack front) has was = was
  welcomed_has its (Grant front ticket at) has was = was
  welcomed_has its (Answer front about job number at sum) has was = was
  welcomed_has its (Normal front) has was = was
  welcomed_has its Bare has was = was

  downs_have : (fs : List DownFrame) (c : Connection) → AllByRecursion (λ (f : DownFrame). WelcomeHas n f.message) fs → CarriedIn past n c → CarriedIn past n (with_downs past fs c)
  downs_have [] c all was = was
  downs_have (f ∷ fs) c all was =
      downs_have fs (record c { downs = c.downs ++ f ∷ []; its = welcomed past c.its f.message }) all.1 (welcomed_has c.its f.message all.0 was)

  mapped : (fs : List DownOut) → AllByRecursion (FrameHas n) fs → AllByRecursion (λ (f : DownFrame). WelcomeHas n f.message) (map down_of fs)
  mapped [] all = tt
  mapped (f ∷ fs) all = (all.0, mapped fs all.1)

  pub hears_have : (fs : List DownOut) (x : Site) → x.past ≡ past → AllByRecursion (FrameHas n) fs → EndsIn past n x.end_at → EndsIn past n (hears_downs fs x).end_at
  hears_have fs x same all has a k =
      subst (λ (p : ℕ). IfSome (option_map (with_downs p (map down_of (filter (is_out_on x a k) fs))) ((x.end_at a).connection_at k)) (CarriedIn past n)) (sym same)
      (go ((x.end_at a).connection_at k) (has a k))
    where
      go : (o : Option Connection) → IfSome o (CarriedIn past n) → IfSome (option_map (with_downs past (map down_of (filter (is_out_on x a k) fs))) o) (CarriedIn past n)
      go None was = tt
      go (Some c) was = downs_have (map down_of (filter (is_out_on x a k) fs)) c (mapped (filter (is_out_on x a k) fs) (all_filtered (FrameHas n) (is_out_on x a k) fs all)) was

  -- an end's connection of one number, changed
  pub number_has : (number : ℕ) (f : Connection → Connection) (e : End) → ((c : Connection) → (f c).its ≡ c.its) → EndIn past n e → EndIn past n (at_number number f e)
  number_has number f e same has k = go (k == number)
    where
      go : (b : Bool) → IfSome (if b then option_map f (e.connection_at k) else e.connection_at k) (CarriedIn past n)
      go true = same_its f same (e.connection_at k) true (has k)
      go false = has k
