-- What a running node has of its connections stays as fitting frames are put.
use Rattle.std.proofs.Common.{◌≡◌, ◌⊎◌, ◌≤◌, ℕ, Bool, true, false, ◌||◌, List, [], ◌++◌, Option, Some, None, is_some, option_map, refl, sym, ◌∙◌, ap, subst, arith, inl, inr}
use Rattle.std.specs.Prelude.{IfSome, IsSomeAnd}
use Rattle.std.specs.List.{AllByRecursion, list_any}
use Rattle.std.proofs.lemmas.List.{append-nil}
use Rattle.std.proofs.lemmas.List.Folds.{list_any-append}
use Rattle.plain_orders.specs.declared.entry.Entry.{Entry}
use Rattle.ecp_messages.specs.declared.down.DownFrame.{DownFrame}
use Rattle.data_rules.specs.declared.down_frames.DownOut.{DownOut}
use Rattle.data_rules.specs.declared.rows.Role.{Role}
use Rattle.data_rules.specs.declared.rows.Role.TheVariants.{New, Waiting, Bound, Closing}
use Rattle.data_rules.specs.DataState.{DataState}
use Rattle.data_rules.specs.Callers.{dial_of}
use Rattle.data_rules.specs.Conns.{role_of}
use Rattle.data_rules.specs.Puts.{conn_of}
use Rattle.cluster_runs.specs.CoresState.{Linked}
use Rattle.cluster_runs.specs.Sent.{Connection, FirstTaken, Knew, Place}
use Rattle.cluster_runs.specs.Machine.{Site, DataConnection}
use Rattle.cluster_runs.specs.Connections.{link_in, link_of, with_downs}
use Rattle.cluster_invariant.specs.Dials.{BoundIs, BoundTo, CameFor, ClosedOn, ClosingIs, GreatestDial, IsNewest, LinkedTo, NodeDials, RoleIs, is_connection_in, is_taken_in}
use Rattle.cluster_invariant.specs.Words.{is_begun, is_reset_frame}
use Rattle.cluster_invariant.proofs.Small.{of_some}
use Rattle.dials_server.proofs.FittingFrames.{FrameFits, ResetOn, WelcomedOn, frames_on, its_on, quiet_on, resets_on}
use Rattle.dials_server.proofs.PlainFrames.{Hears, heard}

-- A site at which these frames were put.
pub record PutsAll (x y : Site) (n : DataState) (fs : List DownOut) : Type 0 where
  pub past : y.past ≡ x.past
  pub began : (s k : ℕ) → (y.lane_at s k).began ≡ (x.lane_at s k).began
  pub connections : y.connection_at ≡ x.connection_at
  pub each : (a k : ℕ) → (y.end_at a).connection_at k ≡ option_map (with_downs x.past (frames_on x a k fs)) ((x.end_at a).connection_at k)
  pub fits : AllByRecursion (FrameFits x n) fs

-- the two parts of a data connection's linked connection, as one
pub record OnRole (x : Site) (conn a k : ℕ) : Type 0 where
  pub on : Connection
  pub there : (x.end_at a).connection_at k ≡ Some on
  pub first : on.first ≡ Some (record { order = x.past; conn = conn })

some_parts : (o : Option Connection) (P : Connection → Type 0) → IsSomeAnd o P → (c : Connection) × ((o ≡ Some c) × P c)
some_parts None P is = absurd is
some_parts (Some c) P is = (c, (refl, is))

pub same_link : (a b k j : ℕ) → ◌≡◌ {A = Option Linked} (Some (record { app = a; dial = k })) (Some (record { app = b; dial = j })) → (a ≡ b) × (k ≡ j)
same_link a b k j is = (ap app_or is, ap dial_or is)
  where
    app_or : Option Linked → ℕ
    app_or None = 0
    app_or (Some l) = l.app

    dial_or : Option Linked → ℕ
    dial_or None = 0
    dial_or (Some l) = l.dial

on_linked : (x : Site) (conn app a k : ℕ) (P : Connection → Type 0) → LinkedTo x conn app P → link_of x conn ≡ Some (record { app = a; dial = k }) → OnRole x conn a k
on_linked x conn app a k P is link = by (same_link app a is.dial k (sym is.link ∙ link)) (some_parts ((x.end_at app).connection_at is.dial) _ is.first)
  where
    by : (app ≡ a) × (is.dial ≡ k) → (c : Connection) × (((x.end_at app).connection_at is.dial ≡ Some c) × (c.first ≡ Some (record { order = x.past; conn = conn }))) → OnRole x conn a k
    by same got = record {
      on = got.0;
      there = ap (λ (i : ℕ). (x.end_at i).connection_at k) (sym same.0) ∙ ap (λ (i : ℕ). (x.end_at app).connection_at i) (sym same.1) ∙ got.1.0;
      first = got.1.1;
    }

-- the data connection of a live session, or of one that was closed, has its own connection
pub bound_on : (x : Site) (n : DataState) (conn s a k : ℕ) → NodeDials x n → role_of n conn ≡ Some (Bound s) → link_of x conn ≡ Some (record { app = a; dial = k }) → OnRole x conn a k
bound_on x n conn s a k is role link = go (of_some (RoleIs x n conn) (role_of n conn) (Bound s) role (is.roles conn))
  where
    go : BoundIs x n conn s → OnRole x conn a k
    go at = on_linked x conn at.app a k (BoundTo x n.order s) at.linked link

pub closing_on : (x : Site) (n : DataState) (conn s a k : ℕ) → NodeDials x n → role_of n conn ≡ Some (Closing s) → link_of x conn ≡ Some (record { app = a; dial = k }) → OnRole x conn a k
closing_on x n conn s a k is role link = go (of_some (RoleIs x n conn) (role_of n conn) (Closing s) role (is.roles conn))
  where
    go : ClosingIs x n conn s → OnRole x conn a k
    go at = on_linked x conn at.app a k (ClosedOn x s) at.linked link

-- no other has it
pub one_conn : (x : Site) (c d a k : ℕ) → OnRole x c a k → OnRole x d a k → c ≡ d
one_conn x c d a k p q = conn_same (sym p.first ∙ ap (λ (z : Connection). z.first) same ∙ q.first)
  where
    some_same : (y z : Connection) → ◌≡◌ {A = Option Connection} (Some y) (Some z) → y ≡ z
    some_same y z is = cc (is)

    same : p.on ≡ q.on
    same = some_same p.on q.on (sym p.there ∙ q.there)

    conn_or : Option FirstTaken → ℕ
    conn_or None = 0
    conn_or (Some f) = f.conn

    conn_same : ◌≡◌ {A = Option FirstTaken} (Some (record { order = x.past; conn = c })) (Some (record { order = x.past; conn = d })) → c ≡ d
    conn_same is = ap conn_or is

module _ (x y : Site) (n : DataState) (fs : List DownOut) (put : PutsAll x y n fs) (is : NodeDials x n) where
  abbrev after : ℕ → ℕ → Connection → Connection
  after a k c = with_downs x.past (frames_on x a k fs) c

  hears : (a k : ℕ) (c : Connection) → Hears c (after a k c) (frames_on x a k fs)
  hears a k c = heard x.past (frames_on x a k fs) c

  links : (conn : ℕ) → link_of y conn ≡ link_of x conn
  links conn = ap (λ (f : ℕ → Option DataConnection). link_in (f conn)) put.connections

  some_after : (a k : ℕ) (P Q : Connection → Type 0) → ((c : Connection) → (x.end_at a).connection_at k ≡ Some c → P c → Q (after a k c))
      → IsSomeAnd ((x.end_at a).connection_at k) P → IsSomeAnd ((y.end_at a).connection_at k) Q
  some_after a k P Q f at = subst (λ (o : Option Connection). IsSomeAnd o Q) (sym (put.each a k)) (go ((x.end_at a).connection_at k) refl at)
    where
      go : (o : Option Connection) → (x.end_at a).connection_at k ≡ o → IsSomeAnd o P → IsSomeAnd (option_map (after a k) o) Q
      go None it at = at
      go (Some c) it at = f c it at

  -- a Welcome on the connection of a live session is its own
  own_welcome : (conn s a k : ℕ) (q : Option Place) → role_of n conn ≡ Some (Bound s) → link_of x conn ≡ Some (record { app = a; dial = k }) → WelcomedOn x n a k q
      → q ≡ Some (record { session = s; order = x.past })
  own_welcome conn s a k q role link w = w.says ∙ ap (λ (i : ℕ). Some (record { session = i; order = x.past })) session
    where
      same : w.conn ≡ conn
      same = one_conn x w.conn conn a k (bound_on x n w.conn w.session a k is w.role w.link) (bound_on x n conn s a k is role link)

      session_or : Option Role → ℕ
      session_or None = 0
      session_or (Some New) = 0
      session_or (Some Waiting) = 0
      session_or (Some (Bound i)) = i
      session_or (Some (Closing i)) = i

      session : w.session ≡ s
      session = ap session_or (sym w.role ∙ ap (role_of n) same ∙ role)

  -- and no Reset is on it
  no_reset : (conn s a k : ℕ) → role_of n conn ≡ Some (Bound s) → link_of x conn ≡ Some (record { app = a; dial = k }) → ResetOn x n a k → ⊥
  no_reset conn s a k role link r =
      (let both : ◌≡◌ {A = Option Role} (Some (Closing r.session)) (Some (Bound s))
      = sym r.role ∙ ap (role_of n) (one_conn x r.conn conn a k (closing_on x n r.conn r.session a k is r.role r.link) (bound_on x n conn s a k is role link)) ∙ role in absurd cc)

  -- nor a Welcome on one that awaits a Reset
  no_welcome : (conn s a k : ℕ) (q : Option Place) → role_of n conn ≡ Some (Closing s) → link_of x conn ≡ Some (record { app = a; dial = k }) → WelcomedOn x n a k q → ⊥
  no_welcome conn s a k q role link w =
      (let both : ◌≡◌ {A = Option Role} (Some (Bound w.session)) (Some (Closing s))
      = sym w.role ∙ ap (role_of n) (one_conn x w.conn conn a k (bound_on x n w.conn w.session a k is w.role w.link) (closing_on x n conn s a k is role link)) ∙ role in absurd cc)

  carries_place : (s : ℕ) (o : Option Place) → IfSome o (λ p. p ≡ record { session = s; order = x.past }) → IfSome o (λ p. p ≡ record { session = s; order = y.past })
  carries_place s None at = at
  carries_place s (Some p) at = at ∙ ap (λ (k : ℕ). record { session = s; order = k }) (sym put.past)

  bound_after : (conn s a k : ℕ) (es : List Entry) (c : Connection) → role_of n conn ≡ Some (Bound s) → link_of x conn ≡ Some (record { app = a; dial = k })
      → (x.end_at a).connection_at k ≡ Some c → BoundTo x es s c → BoundTo y es s (after a k c)
  bound_after conn s a k es c role link it at = record {
    carries = carries_place s (after a k c).its (carries (its_on x n a k fs c put.fits));
    came = subst (λ (w : Knew). CameFor es s w w.mark) (sym (hears a k c).knew) at.came;
    told = λ begun. told (sym (ap (λ (o : Option ℕ). is_some o) (put.began s y.past) ∙ ap (λ (j : ℕ). is_begun (x.lane_at s j)) put.past) ∙ begun) (its_on x n a k fs c put.fits)
        ∙ ap (λ (j : ℕ). Some (record { session = s; order = j })) (sym put.past);
    silent = λ none. silent none (its_on x n a k fs c put.fits) (quiet_on x n a k fs c it put.fits none);
    unreset = unreset (resets_on x n a k fs put.fits);
  }
    where
      carries : ((after a k c).its ≡ c.its) ⊎ WelcomedOn x n a k (after a k c).its → IfSome (after a k c).its (λ p. p ≡ record { session = s; order = x.past })
      carries (inl same) = subst (λ (o : Option Place). IfSome o (λ p. p ≡ record { session = s; order = x.past })) (sym same) at.carries
      carries (inr w) =
          subst (λ (o : Option Place). IfSome o (λ p. p ≡ record { session = s; order = x.past })) (sym (own_welcome conn s a k (after a k c).its role link w)) refl

      told : is_begun (x.lane_at s x.past) ≡ true → ((after a k c).its ≡ c.its) ⊎ WelcomedOn x n a k (after a k c).its → (after a k c).its ≡ Some (record { session = s; order = x.past })
      told begun (inl same) = same ∙ at.told begun
      told begun (inr w) = own_welcome conn s a k (after a k c).its role link w

      silent : (after a k c).its ≡ None → ((after a k c).its ≡ c.its) ⊎ WelcomedOn x n a k (after a k c).its → (frames_on x a k fs ≡ []) ⊎ ResetOn x n a k → (after a k c).downs ≡ []
      silent none (inl same) (inl nothing) =
          (hears a k c).downs ∙ ap (λ (gs : List DownFrame). c.downs ++ gs) nothing ∙ append-nil c.downs ∙ at.silent (sym same ∙ none)
      silent none (inr w) quiet = (let both : ◌≡◌ {A = Option Place} None (Some _) = sym none ∙ w.says in absurd cc)
      silent none (inl same) (inr r) = absurd (no_reset conn s a k role link r)

      unreset : (list_any is_reset_frame (frames_on x a k fs) ≡ false) ⊎ ResetOn x n a k → list_any is_reset_frame (after a k c).downs ≡ false
      unreset (inl none) =
          ap (λ (gs : List DownFrame). list_any is_reset_frame gs) (hears a k c).downs ∙ list_any-append is_reset_frame c.downs (frames_on x a k fs)
          ∙ ap (λ (b : Bool). b || list_any is_reset_frame (frames_on x a k fs)) at.unreset ∙ none
      unreset (inr r) = absurd (no_reset conn s a k role link r)

  closed_after : (conn s a k : ℕ) (c : Connection) → role_of n conn ≡ Some (Closing s) → link_of x conn ≡ Some (record { app = a; dial = k })
      → ClosedOn x s c → ClosedOn y s (after a k c)
  closed_after conn s a k c role link at = record {
    carries = carries_place s (after a k c).its (carries (its_on x n a k fs c put.fits));
    came = subst (λ (w : Knew). IsSomeAnd w.mark (λ m. w.session ≡ s)) (sym (hears a k c).knew) at.came;
  }
    where
      carries : ((after a k c).its ≡ c.its) ⊎ WelcomedOn x n a k (after a k c).its → IfSome (after a k c).its (λ p. p ≡ record { session = s; order = x.past })
      carries (inl same) = subst (λ (o : Option Place). IfSome o (λ p. p ≡ record { session = s; order = x.past })) (sym same) at.carries
      carries (inr w) = absurd (no_welcome conn s a k (after a k c).its role link w)

  linked_after : (conn app : ℕ) (P Q : Connection → Type 0) (at : LinkedTo x conn app P)
      → ((c : Connection) → (x.end_at app).connection_at at.dial ≡ Some c → P c → Q (after app at.dial c)) → LinkedTo y conn app Q
  linked_after conn app P Q at f = record {
    dial = at.dial;
    link = links conn ∙ at.link;
    first =
        some_after app at.dial (λ c. c.first ≡ Some (record { order = x.past; conn = conn })) (λ c. c.first ≡ Some (record { order = y.past; conn = conn }))
        (λ c it first. (hears app at.dial c).first ∙ first ∙ ap (λ (j : ℕ). Some (record { order = j; conn = conn })) (sym put.past)) at.first;
    its = some_after app at.dial P Q f at.its;
  }

  -- the connections that carry a session's messages are none later than its own
  newest_after : (conn s app dial : ℕ) → role_of n conn ≡ Some (Bound s) → conn_of n s ≡ Some conn → link_of x conn ≡ Some (record { app = app; dial = dial })
      → IsNewest (x.end_at app) s x.past dial → IsNewest (y.end_at app) s y.past dial
  newest_after conn s app dial role its link newest number =
      subst (λ (o : Option Connection). IfSome o (λ c. c.its ≡ Some (record { session = s; order = y.past }) → number ≤ dial)) (sym (put.each app number))
      (go ((x.end_at app).connection_at number) (newest number))
    where
      session_or : Option Place → ℕ
      session_or None = 0
      session_or (Some p) = p.session

      number_or : Option ℕ → ℕ
      number_or None = 0
      number_or (Some i) = i

      welcomed_low : (q : Option Place) → WelcomedOn x n app number q → q ≡ Some (record { session = s; order = y.past }) → number ≤ dial
      welcomed_low q w at = omega (arith, (same_link app app number dial (sym w.link ∙ ap (link_of x) same ∙ link)).1)
        where
          session : w.session ≡ s
          session = ap session_or (sym w.says ∙ at)

          same : w.conn ≡ conn
          same =
              ap number_or
              (sym (of_some (RoleIs x n w.conn) (role_of n w.conn) (Bound w.session) w.role (is.roles w.conn)).its ∙ ap (conn_of n) session ∙ its)

      low : (c : Connection) → (c.its ≡ Some (record { session = s; order = x.past }) → number ≤ dial)
          → ((after app number c).its ≡ c.its) ⊎ WelcomedOn x n app number (after app number c).its
          → (after app number c).its ≡ Some (record { session = s; order = y.past }) → number ≤ dial
      low c before (inl same) at = before (sym same ∙ at ∙ ap (λ (j : ℕ). Some (record { session = s; order = j })) put.past)
      low c before (inr w) at = welcomed_low (after app number c).its w at

      go : (o : Option Connection) → IfSome o (λ c. c.its ≡ Some (record { session = s; order = x.past }) → number ≤ dial)
          → IfSome (option_map (after app number) o) (λ c. c.its ≡ Some (record { session = s; order = y.past }) → number ≤ dial)
      go None before = tt
      go (Some c) before = low c before (its_on x n app number fs c put.fits)

  taken_after : (a k j : ℕ) → is_connection_in j ((y.end_at a).connection_at k) ≡ is_connection_in j ((x.end_at a).connection_at k)
  taken_after a k j = ap (is_connection_in j) (put.each a k) ∙ go ((x.end_at a).connection_at k)
    where
      go : (o : Option Connection) → is_connection_in j (option_map (after a k) o) ≡ is_connection_in j o
      go None = refl
      go (Some c) = ap (is_taken_in j) (hears a k c).first

  role_after : (conn : ℕ) (r : Role) → role_of n conn ≡ Some r → RoleIs x n conn r → RoleIs y n conn r
  role_after conn New role at = links conn ∙ at
  role_after conn Waiting role at = ap (λ (o : Option Linked). is_some o) (links conn) ∙ at
  role_after conn (Bound s) role at = record {
    lives = at.lives;
    its = at.its;
    app = at.app;
    opened = at.opened;
    linked =
        linked_after conn at.app (BoundTo x n.order s) (BoundTo y n.order s) at.linked
        (λ c it on. bound_after conn s at.app at.linked.dial n.order c role at.linked.link it on);
    newest =
        subst (λ (o : Option Linked). IfSome o (λ l. IsNewest (y.end_at at.app) s y.past l.dial)) (sym (links conn ∙ at.linked.link))
        (newest_after conn s at.app at.linked.dial role at.its at.linked.link
        (of_some (λ (l : Linked). IsNewest (x.end_at at.app) s x.past l.dial) (link_of x conn) _ at.linked.link at.newest));
  }
  role_after conn (Closing s) role at = record {
    ended = at.ended;
    app = at.app;
    opened = at.opened;
    linked =
        linked_after conn at.app (ClosedOn x s) (ClosedOn y s) at.linked
        (λ c it on. closed_after conn s at.app at.linked.dial c role at.linked.link on);
  }

  -- So the node has what it had.
  pub node_after : NodeDials y n
  node_after = record {
    places = is.places;
    dials = λ app low. subst (λ (j : ℕ). GreatestDial j (y.end_at app) (dial_of n app)) (sym put.past) (record {
      taken = λ some. taken_after app (dial_of n app) x.past ∙ (is.dials app low).taken some;
      greatest = λ number at. (is.dials app low).greatest number (sym (taken_after app number x.past) ∙ at);
    });
    differ = is.differ;
    roles = λ conn. go conn (role_of n conn) refl (is.roles conn);
  }
    where
      go : (conn : ℕ) (o : Option Role) → role_of n conn ≡ o → IfSome o (RoleIs x n conn) → IfSome o (RoleIs y n conn)
      go conn None role at = tt
      go conn (Some r) role at = role_after conn r role at
