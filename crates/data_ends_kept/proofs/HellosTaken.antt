-- What an input of a data server, and the frames that it puts then, leave of the connections that Hellos wait on.
use Rattle.std.proofs.Common.{◌≡◌, ◌≢◌, ◌⊎◌, inl, inr, ◌==◌, ◌&&◌, ℕ, Bool, true, false, List, [], ◌∷◌, map, filter, Option, Some, None, is_some, option_map, refl, sym, ◌∙◌, ap, subst, if◌then◌else◌, cond}
use Rattle.std.specs.Prelude.{IsSomeAnd}
use Rattle.std.specs.List.{AllByRecursion}
use Rattle.std.proofs.lemmas.Bool.{eq-eqb, eqb-true, ne_eqb, false≢true, true≢false}
use Rattle.plain_runs.specs.Plain.{Server}
use Rattle.ecp_messages.specs.declared.up.UpFrame.{UpFrame}
use Rattle.data_rules.specs.declared.data_in.DataIn.{DataIn}
use Rattle.data_rules.specs.declared.data_in.DataIn.TheVariants as data_in
use Rattle.data_rules.specs.declared.down_frames.DownOut.{DownOut}
use Rattle.cluster_runs.specs.CoresState.{Linked}
use Rattle.cluster_runs.specs.Connections.{at_conn, down_of, hears_downs, is_link, is_out_on, link_else, link_in, link_of, linked_if, up_taken, with_downs}
use Rattle.cluster_runs.specs.Goes.{server_takes}
use Rattle.cluster_runs.specs.Machine.{DataConnection, Site}
use Rattle.cluster_runs.specs.Moves.{named_dial}
use Rattle.cluster_runs.specs.Sent.{Connection, FirstTaken}
use Rattle.cluster_invariant.specs.Dials.{ConnectionIs, DialsAre, IsLinkedBy, LinkedTo}
use Rattle.cluster_invariant.specs.Ends.{HelloAlone}
use Rattle.cluster_invariant.proofs.Small.{of_some}
use Rattle.data_ends_kept.proofs.HellosAfter.{linked_leaves_one, linked_stays}
use Rattle.data_ends_kept.proofs.NodeEndsMoves.{AloneStill}
use Rattle.data_puts.proofs.RecoverLearnt.{FirstCame}

-- a link to this connection
pub link_is : (app n : ℕ) (o : Option Linked) → is_link app n o ≡ true → o ≡ Some (record { app = app; dial = n })
link_is app n None is = absurd (false≢true is)
link_is app n (Some l) is = go (l.app == app) (l.dial == n) refl refl is
  where
    go : (a b : Bool) → (l.app == app) ≡ a → (l.dial == n) ≡ b → (a && b) ≡ true → Some l ≡ Some (record { app = app; dial = n })
    go true true at to both = ap (λ (k : ℕ). Some (record { app = k; dial = l.dial })) (eqb-true l.app app at) ∙ ap (λ (k : ℕ). Some (record { app = app; dial = k })) (eqb-true l.dial n to)
    go true false at to both = absurd (false≢true both)
    go false b at to both = absurd (false≢true both)

pub not_link : (app n : ℕ) (o : Option Linked) → (o ≡ Some (record { app = app; dial = n }) → ⊥) → is_link app n o ≡ false
not_link app n o apart = go (is_link app n o) refl
  where
    go : (b : Bool) → is_link app n o ≡ b → is_link app n o ≡ false
    go true is = absurd (apart (link_is app n o is))
    go false is = is

pub its_link : (app n : ℕ) → is_link app n (Some (record { app = app; dial = n })) ≡ true
its_link app n = ap (λ (b : Bool). b && n == n) (eq-eqb app app refl) ∙ eq-eqb n n refl

-- frames that are put elsewhere leave a connection
none_out : (z : Site) (app n : ℕ) (fs : List DownOut) → AllByRecursion (λ f. is_out_on z app n f ≡ false) fs → map down_of (filter (is_out_on z app n) fs) ≡ []
none_out z app n [] all = refl
none_out z app n (f ∷ fs) all = ap (λ (b : Bool). map down_of (cond b (f ∷ filter (is_out_on z app n) fs) (filter (is_out_on z app n) fs))) all.0 ∙ none_out z app n fs all.1

pub linked_hears : (z : Site) (conn app : ℕ) (fs : List DownOut) (h : LinkedTo z conn app HelloAlone) → AllByRecursion (λ f. is_out_on z app h.dial f ≡ false) fs → LinkedTo (hears_downs fs z) conn app HelloAlone
linked_hears z conn app fs h none =
    linked_stays z (hears_downs fs z) conn app h refl refl
    (λ c there first alone. subst (λ (o : Option Connection). IsSomeAnd (option_map (with_downs z.past (map down_of (filter (is_out_on z app h.dial) fs))) o) (AloneStill c)) (sym there)
    (subst (λ (ds : List _). AloneStill c (with_downs z.past ds c)) (sym (none_out z app h.dial fs none)) (refl, alone)))

module _ (v : Server) (x : Site) (dead : ℕ → Bool) (dials : DialsAre v x dead) where
  -- what the first frame of a connection is taken as
  abbrev pub FirstFrames : DataIn → Type 0
  FirstFrames input = (conn : ℕ) (f : UpFrame) (l : Linked) → input ≡ data_in.Frame conn f → link_of x conn ≡ None → named_dial f.message ≡ Some l → FirstCame x l f

  -- a link after an input was there, or its first frame came just now
  pub link_after : (input : DataIn) → FirstFrames input → (m : ℕ) (l : Linked) → link_of (server_takes input x) m ≡ Some l → (link_of x m ≡ Some l) ⊎ ((f : UpFrame) × (FirstCame x l f × (input ≡ data_in.Frame m f)))
  link_after (data_in.Frame conn f) first m l is = go (m == conn) refl is
    where
      go : (b : Bool) → (m == conn) ≡ b → link_in (if b then option_map (linked_if (named_dial f.message)) (x.connection_at m) else x.connection_at m) ≡ Some l
          → (link_of x m ≡ Some l) ⊎ ((g : UpFrame) × (FirstCame x l g × (data_in.Frame conn f ≡ data_in.Frame m g)))
      go false other at = inl at
      go true same at = by (x.connection_at m) refl at
        where
          by : (o : Option DataConnection) → x.connection_at m ≡ o → link_in (option_map (linked_if (named_dial f.message)) o) ≡ Some l
              → (link_of x m ≡ Some l) ⊎ ((g : UpFrame) × (FirstCame x l g × (data_in.Frame conn f ≡ data_in.Frame m g)))
          by None there none = absurd cc
          by (Some c) there linked = or c.link refl linked
            where
              or : (q : Option Linked) → c.link ≡ q → link_else q (named_dial f.message) ≡ Some l → (link_of x m ≡ Some l) ⊎ ((g : UpFrame) × (FirstCame x l g × (data_in.Frame conn f ≡ data_in.Frame m g)))
              or None was named =
                  inr (f, (first conn f l refl (ap link_in (ap x.connection_at (sym (eqb-true m conn same)) ∙ there) ∙ was) named, ap (λ (n : ℕ). data_in.Frame n f) (sym (eqb-true m conn same))))
              or (Some y) was its = inl (ap link_in there ∙ was ∙ its)
  link_after (data_in.Connected conn) first m l is = go (m == conn) is
    where
      go : (b : Bool) → link_in (if b then Some (record { link = None; left = false }) else x.connection_at m) ≡ Some l → (link_of x m ≡ Some l) ⊎ ((g : UpFrame) × (FirstCame x l g × (data_in.Connected conn ≡ data_in.Frame m g)))
      go true at = absurd cc
      go false at = inl at
  link_after (data_in.Broken conn) first m l is = go (m == conn) is
    where
      left_in : (o : Option DataConnection) → link_in (option_map (λ (c : DataConnection). record c { left = true }) o) ≡ link_in o
      left_in None = refl
      left_in (Some c) = refl

      go : (b : Bool) → link_in (if b then option_map (λ (c : DataConnection). record c { left = true }) (x.connection_at m) else x.connection_at m) ≡ Some l
          → (link_of x m ≡ Some l) ⊎ ((g : UpFrame) × (FirstCame x l g × (data_in.Broken conn ≡ data_in.Frame m g)))
      go true at = inl (sym (left_in (x.connection_at m)) ∙ at)
      go false at = inl at
  link_after data_in.Tick first m l is = inl is
  link_after (data_in.Saved upto) first m l is = inl is

  -- a first frame came on a connection of which nothing was taken
  pub untaken : (l : Linked) (f : UpFrame) (came : FirstCame x l f) → ConnectionIs v x l.app l.dial came.on
  untaken l f came = of_some (ConnectionIs v x l.app l.dial) ((x.end_at l.app).connection_at l.dial) came.on came.there ((dials.pairs l.app).each l.dial)

  pub not_first : (l : Linked) (f : UpFrame) (came : FirstCame x l f) → came.on.first ≡ None
  not_first l f came = none came.on.first ((untaken l f came).taken ∙ came.unlinked)
    where
      none : (o : Option FirstTaken) → is_some o ≡ false → o ≡ None
      none None is = refl
      none (Some g) is = absurd (true≢false is)

  -- no other data connection is linked to that of a waiting Hello
  pub old_only : (input : DataIn) → FirstFrames input → (conn app : ℕ) (h : LinkedTo x conn app HelloAlone) (m : ℕ) → link_of (server_takes input x) m ≡ Some (record { app = app; dial = h.dial }) → m ≡ conn
  old_only input first conn app h m is = go (link_after input first m (record { app = app; dial = h.dial }) is)
    where
      same_conn : (o : Option Connection) → IsSomeAnd o (λ c. IsSomeAnd c.first (λ g. g.conn ≡ m)) → IsSomeAnd o (λ c. c.first ≡ Some (record { order = x.past; conn = conn })) → m ≡ conn
      same_conn None a b = absurd a
      same_conn (Some c) a b = (let both : IsSomeAnd (Some (record { order = x.past; conn = conn })) (λ (g : FirstTaken). g.conn ≡ m) = subst (λ (o : Option FirstTaken). IsSomeAnd o (λ g. g.conn ≡ m)) b a in sym both)

      no_first : (o : Option Connection) (c : Connection) → o ≡ Some c → c.first ≡ None → IsSomeAnd o (λ k. k.first ≡ Some (record { order = x.past; conn = conn })) → ⊥
      no_first None c at none is = absurd is
      no_first (Some k) c at none is = (let same : k ≡ c = cc in let both : ◌≡◌ {A = Option FirstTaken} None (Some (record { order = x.past; conn = conn })) = sym none ∙ ap (λ (y : Connection). y.first) (sym same) ∙ is in cc)

      go : (link_of x m ≡ Some (record { app = app; dial = h.dial })) ⊎ ((f : UpFrame) × (FirstCame x (record { app = app; dial = h.dial }) f × (input ≡ data_in.Frame m f))) → m ≡ conn
      go (inl linked) = same_conn ((x.end_at app).connection_at h.dial) (of_some (IsLinkedBy x m) (link_of x m) (record { app = app; dial = h.dial }) linked (dials.links m)) h.first
      go (inr y) = absurd (no_first ((x.end_at app).connection_at h.dial) y.1.0.on y.1.0.there (not_first (record { app = app; dial = h.dial }) y.0 y.1.0) h.first)

  -- an input that isn't of this connection leaves it
  pub old_takes : (input : DataIn) → FirstFrames input → (conn app : ℕ) (h : LinkedTo x conn app HelloAlone) → ((f : UpFrame) → input ≡ data_in.Frame conn f → ⊥) → (input ≡ data_in.Connected conn → ⊥)
      → LinkedTo (server_takes input x) conn app HelloAlone
  old_takes (data_in.Frame m f) first conn app h apart new =
      linked_stays x (server_takes (data_in.Frame m f) x) conn app h
      (ap (λ (b : Bool). link_in (if b then option_map (linked_if (named_dial f.message)) (x.connection_at conn) else x.connection_at conn)) (ne_eqb conn m differs)) refl
      (λ c there taken alone. subst (λ (o : Option Connection). IsSomeAnd (option_map (λ (k : Connection). if is_link app h.dial (link_of (at_conn m (linked_if (named_dial f.message)) x) m) then up_taken x.past m k else k) o) (AloneStill c)) (sym there)
      (subst (λ (b : Bool). AloneStill c (if b then up_taken x.past m c else c))
      (sym (not_link app h.dial (link_of (at_conn m (linked_if (named_dial f.message)) x) m) (λ is. differs (sym (old_only (data_in.Frame m f) first conn app h m is))))) (refl, alone)))
    where
      differs : conn ≢ m
      differs same = apart f (ap (λ (n : ℕ). data_in.Frame n f) (sym same))
  old_takes (data_in.Connected m) first conn app h apart new =
      linked_stays x (server_takes (data_in.Connected m) x) conn app h
      (ap (λ (b : Bool). link_in (if b then Some (record { link = None; left = false }) else x.connection_at conn)) (ne_eqb conn m (λ same. new (ap data_in.Connected (sym same))))) refl
      (λ c there taken alone. subst (λ (o : Option Connection). IsSomeAnd o (AloneStill c)) (sym there) (refl, alone))
  old_takes (data_in.Broken m) first conn app h apart new = linked_leaves_one m conn app x h
  old_takes data_in.Tick first conn app h apart new = h
  old_takes (data_in.Saved upto) first conn app h apart new = h
