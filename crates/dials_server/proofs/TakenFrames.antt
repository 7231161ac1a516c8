-- The part on connections, as a data server takes the next frame on a linked connection.
use Rattle.std.proofs.Common.{◌≡◌, ℕ, ◌+◌, Bool, true, false, not, ◌==◌, if◌then◌else◌, List, [], ◌∷◌, length, Option, Some, None, is_some, option_map, refl, sym, ◌∙◌, ap, arith}
use Rattle.std.specs.Prelude.{IsSomeAnd}
use Rattle.std.proofs.lemmas.Bool.{eqb-true, false≢true, lt-ltb}
use Rattle.std.proofs.lemmas.List.{append-nil, length-drop}
use Rattle.plain_runs.specs.Plain.{Server}
use Rattle.ecp_messages.specs.declared.up.UpFrame.{UpFrame}
use Rattle.data_rules.specs.DataState.{DataState}
use Rattle.cluster_runs.specs.CoresState.{Linked}
use Rattle.cluster_runs.specs.Machine.{Site, DataConnection}
use Rattle.cluster_runs.specs.Sent.{Connection, FirstTaken}
use Rattle.cluster_runs.specs.Connections.{at_conn, at_link, first_else, is_link, link_else, link_in, link_of, linked_if, up_taken}
use Rattle.cluster_invariant.specs.Dials.{ConnectionIs, DialsAre, IsLinkedBy, has_conn, is_here, is_left_at}
use Rattle.cluster_invariant.specs.Words.{ups_left}
use Rattle.cluster_invariant.proofs.Small.{of_some}
use Rattle.dials_kept.proofs.ConnectionsGrow.{Grows, known_same}
use Rattle.dials_server.proofs.LinkWords.{is_link_true}
use Rattle.dials_server.proofs.QuietServer.{Quietly, dials_quietly, of_some_and}

-- the next frame on the connection that this data connection is linked to
pub record NextFrame (x : Site) (l : Linked) (f : UpFrame) : Type 0 where
  pub on : Connection
  pub there : (x.end_at l.app).connection_at l.dial ≡ Some on
  pub behind : List UpFrame
  pub left : ups_left on ≡ f ∷ behind

-- the site as the frame is taken
abbrev pub site_taken : Site → ℕ → Linked → Option Linked → Site
site_taken x conn l named = at_link (Some l) (up_taken x.past conn) (at_conn conn (linked_if named) x)

module _ (v : Server) (x : Site) (dead : ℕ → Bool) (conn : ℕ) (l : Linked) (named : Option Linked) (f : UpFrame) (n : DataState) (linked : link_of x conn ≡ Some l)
    (next : NextFrame x l f) (runs : x.node ≡ Some n) (is : DialsAre v x dead)
  where
    abbrev y : Site
    y = site_taken x conn l named

    -- the data connections are as they were
    conn_same : (o : Option DataConnection) → is_some (link_in o) ≡ true → option_map (linked_if named) o ≡ o
    conn_same None there = absurd (false≢true there)
    conn_same (Some c) there = ap (λ (k : Option Linked). Some (record c { link = k })) (go c.link there)
      where
        go : (k : Option Linked) → is_some k ≡ true → link_else k named ≡ k
        go None none = absurd (false≢true none)
        go (Some j) some = refl

    pub connections : (k : ℕ) → y.connection_at k ≡ x.connection_at k
    connections k = go (k == conn) refl
      where
        go : (b : Bool) → (k == conn) ≡ b → (if b then option_map (linked_if named) (x.connection_at k) else x.connection_at k) ≡ x.connection_at k
        go true same =
            conn_same (x.connection_at k) (ap (λ (o : Option Linked). is_some o) (ap (λ (i : ℕ). link_of x i) (eqb-true k conn same) ∙ linked))
        go false other = refl

    taken_at : (a k : ℕ) (c : Connection) → (x.end_at a).connection_at k ≡ Some c → is_link a k (Some l) ≡ true → c ≡ next.on
    taken_at a k c it on = some_same c next.on (sym it ∙ ap (λ (j : Linked). (x.end_at j.app).connection_at j.dial) (sym link) ∙ next.there)
      where
        link : l ≡ record { app = a; dial = k }
        link = linked_same l (record { app = a; dial = k }) (is_link_true a k (Some l) on)
          where
            linked_same : (i j : Linked) → ◌≡◌ {A = Option Linked} (Some i) (Some j) → i ≡ j
            linked_same i j same = cc (same)

        some_same : (d e : Connection) → ◌≡◌ {A = Option Connection} (Some d) (Some e) → d ≡ e
        some_same d e same = cc (same)

    left_same : (o : Option FirstTaken) → is_left_at y o ≡ is_left_at x o
    left_same None = refl
    left_same (Some t) = ap (λ (o : Option DataConnection). not (is_here o)) (connections t.conn)

    -- the connection on which it is taken
    up_grows : (a k : ℕ) (c : Connection) → (x.end_at a).connection_at k ≡ Some c → is_link a k (Some l) ≡ true → ConnectionIs v x a k c → Grows x y c (up_taken x.past conn c)
    up_grows a k c it on at = record {
      more = [];
      ups = sym (append-nil c.ups);
      follow = refl;
      alone = λ none. refl;
      untaken = λ none. absurd (omega (arith, none));
      within_ups = λ low. omega (arith, low, ap (λ (us : List UpFrame). length us) left, length-drop c.ups_taken c.ups);
      counted = lt-ltb 0 (c.ups_taken + 1) (omega arith) ∙ sym (sym at.linked ∙ is_linked);
      heard = [];
      downs = sym (append-nil c.downs);
      within = λ low. low;
      unheard = λ none. refl;
      quiet = λ none. refl;
      unreset = refl;
      linked = sym is_linked;
      its = refl;
      knew = refl;
      first = first c.first taken;
      data_left = λ t was. was ∙ sym (left_same c.first);
    }
      where
        left : ups_left c ≡ f ∷ next.behind
        left = ap ups_left (taken_at a k c it on) ∙ next.left

        -- a first frame was taken of it
        taken : is_some c.first ≡ true
        taken = go c.first first_there
          where
            first_there : IsSomeAnd c.first (λ t. t.conn ≡ conn)
            first_there =
                of_some_and (λ z. IsSomeAnd z.first (λ t. t.conn ≡ conn)) ((x.end_at a).connection_at k) c it
                (of_some (IsLinkedBy x conn) (link_of x conn) (record { app = a; dial = k }) (linked ∙ is_link_true a k (Some l) on) (is.links conn))

            go : (o : Option FirstTaken) → IsSomeAnd o (λ t. t.conn ≡ conn) → is_some o ≡ true
            go None none = absurd none
            go (Some t) some = refl

        is_linked : c.linked ≡ true
        is_linked = sym at.taken ∙ taken

        first : (o : Option FirstTaken) → is_some o ≡ true → Some (first_else o (record { order = x.past; conn = conn })) ≡ o
        first None none = absurd (false≢true none)
        first (Some t) some = refl

    up_keeps : (b : Bool) (c : Connection) → ((if b then up_taken x.past conn c else c).ups ≡ c.ups) × ((if b then up_taken x.past conn c else c).knew ≡ c.knew)
        × ((if b then up_taken x.past conn c else c).app_left ≡ c.app_left)
    up_keeps true c = (refl, refl, refl)
    up_keeps false c = (refl, refl, refl)

    quiet : Quietly x y (λ a k c. if is_link a k (Some l) then up_taken x.past conn c else c)
    quiet = record {
      past = refl;
      began = λ s k. refl;
      taken = λ s k. omega arith;
      states = λ a. refl;
      tolds = λ a. refl;
      each = λ a k. refl;
      ups = λ a k c. (up_keeps (is_link a k (Some l)) c).0;
      knew = λ a k c. (up_keeps (is_link a k (Some l)) c).1;
      app_left = λ a k c. (up_keeps (is_link a k (Some l)) c).2;
      grows = λ a k c it. grow a k c it (is_link a k (Some l)) refl (of_some (ConnectionIs v x a k) ((x.end_at a).connection_at k) c it ((is.pairs a).each k));
      links = λ k. ap link_in (connections k);
    }
      where
        grow : (a k : ℕ) (c : Connection) → (x.end_at a).connection_at k ≡ Some c → (b : Bool) → is_link a k (Some l) ≡ b → ConnectionIs v x a k c
            → Grows x y c (if b then up_taken x.past conn c else c)
        grow a k c it true on at = up_grows a k c it on at
        grow a k c it false off at = record {
          more = [];
          ups = sym (append-nil c.ups);
          follow = refl;
          alone = λ none. refl;
          untaken = λ none. none;
          within_ups = λ low. low;
          counted = refl;
          heard = [];
          downs = sym (append-nil c.downs);
          within = λ low. low;
          unheard = λ none. refl;
          quiet = λ none. refl;
          unreset = refl;
          linked = refl;
          its = refl;
          knew = refl;
          first = refl;
          data_left = λ t was. was ∙ sym (left_same c.first);
        }

    -- The part stays as it is taken.
    pub dials_taken : DialsAre v y dead
    dials_taken =
        dials_quietly v v x y dead (λ a k c. if is_link a k (Some l) then up_taken x.past conn c else c) n n (known_same v) quiet runs runs
        (λ k. ap is_here (connections k) ∙ is.here k ∙ ap (λ (o : Option DataState). has_conn o k) runs) (λ at. at) is
