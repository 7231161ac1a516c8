-- The part on connections at the data server whose Welcome tells an application end a new session or a new epoch.
use Rattle.std.proofs.Common.{◌≡◌, ◌≤◌, ◌<◌, ℕ, Bool, true, false, not, ◌&&◌, ◌==◌, List, [], ◌++◌, Option, Some, None, is_some, option_map, if◌then◌else◌, refl, sym, ◌∙◌, ap, subst, arith}
use Rattle.std.specs.Prelude.{IfSome, IsSomeAnd}
use Rattle.std.specs.List.{list_all, list_any}
use Rattle.std.proofs.lemmas.Bool.{eq-eqb, false≢true}
use Rattle.plain_runs.specs.Plain.{Server, Session as PlainSession, current, order_at, put}
use Rattle.ecp_messages.specs.declared.down.Down.{Down}
use Rattle.ecp_messages.specs.declared.down.DownFrame.{DownFrame}
use Rattle.ecp_messages.specs.declared.up.UpFrame.{UpFrame}
use Rattle.app_rules.specs.declared.app_outs.AppOuts.{AppOuts}
use Rattle.app_rules.specs.declared.line.Line.{Line}
use Rattle.app_rules.specs.declared.line.Line.TheVariants.{Joined}
use Rattle.app_rules.specs.AppState.{AppEnd, Session}
use Rattle.app_rules.specs.Looks.{Shown}
use Rattle.cluster_runs.specs.Sent.{Connection, Knew, Lane, Place, Welcomed}
use Rattle.cluster_runs.specs.Machine.{Site, End}
use Rattle.cluster_runs.specs.Connections.{knows, knows_of, at_number, carries_up, down_taken, is_index, leaves_if, ups_to, with_ups}
use Rattle.cluster_runs.specs.Goes.{app_end, app_site, at_told, with_state}
use Rattle.cluster_runs.specs.Lanes.{is_told_new, its_of, said_by, sent_before, told_by, with_app_step}
use Rattle.cluster_invariant.specs.Dials.{CarriesOf, ConnectionIs, DialsAre, KnowsStill, LearntOn, PairDials, as_it_learns, is_following}
use Rattle.cluster_invariant.specs.Ends.{AppTold, ToldPlace}
use Rattle.cluster_invariant.specs.Words.{NoLess, has_wire, is_wire}
use Rattle.cluster_invariant.proofs.Small.{of_some}
use Rattle.cluster_steps.proofs.AppSites.{SameBeside, end_has_state, site_beside, site_ends}
use Rattle.ends_kept.proofs.TakenDown.{Taken}
use Rattle.dials_kept.proofs.ConnectionsGrow.{GrowTo, StaysKnown, no_less_same}
use Rattle.dials_kept.proofs.MadeConnections.{made_above}
use Rattle.dials_kept.proofs.QuietEnds.{Changes, changed, grow_changed, pair_told, told_of}
use Rattle.dials_kept.proofs.AppInputs.{changed_twice, passes_grows}
use Rattle.dials_frames.proofs.LearntSites.{LearntAt, LearntFrom, dials_with_learnt, learnt_grows}
use Rattle.dials_frames.proofs.TakenDials.{left_so, passes_down, taken_of}

-- An end that was told something new: a session in an order, of which nothing was taken yet, on this connection.
pub record TellsNew (v : Server) (x : Site) (app : ℕ) (t : AppEnd) (us : List UpFrame) (z : Connection) : Type 0 where
  pub session : ℕ
  pub order : ℕ
  pub has : Session
  pub its : t.session ≡ Some has
  pub number : has.number ≡ session
  pub fresh : has.window.taken ≡ 0
  pub news : is_told_new (x.end_at app).state.session t.session ≡ true
  pub dial : t.dial ≡ (x.end_at app).state.dial
  pub line : t.line ≡ Joined
  pub wire : has_wire (x.end_at app).state.line ≡ true
  pub follow : list_all is_following us ≡ true
  pub carries : z.its ≡ Some (record { session = session; order = order })
  pub there : order ≤ current v
  -- it knows more than it knew
  pub rises : NoLess (knows (x.end_at app)) (as_it_learns session order)

-- what a connection carries, where the end's frame came
came_its : (e : End) (frame : DownFrame) (t : Taken e frame) → its_of ((at_number e.state.dial down_taken e).connection_at e.state.dial) ≡ t.connection.its
came_its e frame t =
    ap (λ (b : Bool). its_of (if b then option_map down_taken (e.connection_at e.state.dial) else e.connection_at e.state.dial)) (eq-eqb e.state.dial e.state.dial refl)
    ∙ ap (λ (o : Option Connection). its_of (option_map down_taken o)) t.its

-- the lane of the place that is told
lane_began : (x : Site) (ends : ℕ → End) (p : Place) (m : Option Down) (number n : ℕ) (o : Session) (us : List UpFrame) (s j : ℕ)
    → ((at_told (Some p) (with_app_step true m number n (Some o) us) (record x { end_at = ends })).lane_at s j).began
    ≡ (if s == p.session && j == p.order then Some number else (x.lane_at s j).began)
lane_began x ends p m number n o us s j = go (s == p.session && j == p.order)
  where
    go : (b : Bool) → (if b then with_app_step true m number n (Some o) us (x.lane_at s j) else x.lane_at s j).began ≡ (if b then Some number else (x.lane_at s j).began)
    go true = refl
    go false = refl

lane_took : (x : Site) (ends : ℕ → End) (p : Place) (m : Option Down) (number n : ℕ) (o : Session) (us : List UpFrame) (s j : ℕ)
    → ((at_told (Some p) (with_app_step true m number n (Some o) us) (record x { end_at = ends })).lane_at s j).down_taken ≡ (x.lane_at s j).down_taken
lane_took x ends p m number n o us s j = go (s == p.session && j == p.order)
  where
    go : (b : Bool) → (if b then with_app_step true m number n (Some o) us (x.lane_at s j) else x.lane_at s j).down_taken ≡ (x.lane_at s j).down_taken
    go true = refl
    go false = refl

-- The data server's part.
module _ (v w : Server) (x : Site) (dead : ℕ → Bool) (app d : ℕ) (outs : AppOuts) (t : AppEnd) (shown : Shown) (frame : DownFrame) (taken : Taken (x.end_at app) frame)
    (us : List UpFrame) (frames : ups_to d outs.frames ≡ us) (cuts : outs.cuts ≡ []) (tells : TellsNew v x app t us taken.connection) (later : StaysKnown v w)
    (is : DialsAre v x dead)
  where
    abbrev e : End
    e = x.end_at app

    abbrev came : End
    came = at_number (x.end_at app).state.dial down_taken (x.end_at app)

    abbrev place : Option Place
    place = its_of ((at_number (x.end_at app).state.dial down_taken (x.end_at app)).connection_at (x.end_at app).state.dial)

    abbrev heard : List Welcomed
    heard = (x.end_at app).welcomes ++ said_by (Some frame.message)

    abbrev grown : Connection → Connection
    grown z = leaves_if false (with_ups us (down_taken z))

    abbrev f : End
    f = app_end d outs (x.end_at app).state t shown (Some frame.message) came

    abbrev y : Site
    y = app_site app d outs (x.end_at app).state t (Some frame.message) f x

    place_is : place ≡ Some (record { session = tells.session; order = tells.order })
    place_is = came_its e frame taken ∙ tells.carries

    moved : f ≡ told_of place heard (changed grown t shown e)
    moved =
        ap (λ (b : Bool). carries_up d t.dial outs.frames outs.cuts (told_by b (Some frame.message) e.state.dial (with_state t shown came))) tells.news
        ∙ ap (λ (fs : List UpFrame). at_number t.dial (λ z. leaves_if (list_any (is_index d) outs.cuts) (with_ups fs z)) (told_of place heard (with_state t shown came)))
        frames
        ∙ ap (λ (cs : List ℕ). at_number t.dial (λ z. leaves_if (list_any (is_index d) cs) (with_ups us z)) (told_of place heard (with_state t shown came))) cuts
        ∙ ap (λ (n : ℕ). told_of place heard (at_number t.dial (with_ups us) (with_state t shown (at_number n down_taken e)))) (sym tells.dial)
        ∙ ap (λ (z : End). told_of place heard z) (changed_twice down_taken (with_ups us) t shown e)

    told_is : f.told ≡ Some (record { session = tells.session; order = tells.order })
    told_is = ap (λ (z : End). z.told) moved ∙ place_is

    knows_is : knows f ≡ as_it_learns tells.session tells.order
    knows_is =
        ap knows moved ∙ ap (λ (o : Option Session). knows_of o place t.told) tells.its ∙ ap (λ (p : Option Place). knows_of (Some tells.has) p t.told) place_is
        ∙ ap (λ (n : ℕ). record { session = n; mark = Some (record { order = tells.order; taken = tells.has.window.taken }) }) tells.number
        ∙ ap (λ (n : ℕ). record { session = tells.session; mark = Some (record { order = tells.order; taken = n }) }) tells.fresh

    beside : SameBeside x y
    beside = site_beside app d outs e.state t (Some frame.message) f x

    lanes : (P : (ℕ → ℕ → Lane) → Type 0)
        → P ((at_told (Some (record { session = tells.session; order = tells.order })) (with_app_step true (Some frame.message) e.state.dial (sent_before e.state.session)
        (Some tells.has) (ups_to d outs.frames)) (record x { end_at = put x.end_at app f })).lane_at) → P y.lane_at
    lanes P is_so =
        subst (λ (o : Option Place). P ((at_told o (with_app_step (is_told_new e.state.session t.session) (Some frame.message) e.state.dial (sent_before e.state.session)
        t.session (ups_to d outs.frames)) (record x { end_at = put x.end_at app f })).lane_at)) (sym told_is)
        (subst (λ (b : Bool). P ((at_told (Some (record { session = tells.session; order = tells.order })) (with_app_step b (Some frame.message) e.state.dial
        (sent_before e.state.session) t.session (ups_to d outs.frames)) (record x { end_at = put x.end_at app f })).lane_at)) (sym tells.news)
        (subst (λ (o : Option Session). P ((at_told (Some (record { session = tells.session; order = tells.order })) (with_app_step true (Some frame.message) e.state.dial
        (sent_before e.state.session) o (ups_to d outs.frames)) (record x { end_at = put x.end_at app f })).lane_at)) (sym tells.its) is_so))

    at : LearntAt x y tells.session tells.order e.state.dial
    at = record {
      node = beside.node;
      past = beside.past;
      connections = beside.connections;
      began =
          lanes
          (λ g. (s j : ℕ) → (g s j).began ≡ (if s == tells.session && j == tells.order then Some e.state.dial else (x.lane_at s j).began))
          (lane_began x (put x.end_at app f) (record { session = tells.session; order = tells.order }) (Some frame.message) e.state.dial (sent_before e.state.session)
          tells.has (ups_to d outs.frames));
      taken =
          lanes (λ g. (s j : ℕ) → (x.lane_at s j).down_taken ≤ (g s j).down_taken)
          (λ s j.
          omega (
            arith,
            lane_took x (put x.end_at app f) (record { session = tells.session; order = tells.order }) (Some frame.message) e.state.dial
                (sent_before e.state.session) tells.has (ups_to d outs.frames) s j,
          ));
    }

    connection : ConnectionIs v x app e.state.dial taken.connection
    connection = of_some (ConnectionIs v x app e.state.dial) (e.connection_at e.state.dial) taken.connection taken.its ((is.pairs app).each e.state.dial)

    its_there : e.connection_at t.dial ≡ Some taken.connection
    its_there = ap e.connection_at tells.dial ∙ taken.its

    changes : IfSome (e.connection_at t.dial) (Changes x y (dead app) grown t e)
    changes = subst (λ (o : Option Connection). IfSome o (Changes x y (dead app) grown t e)) (sym its_there) (record {
      grows = passes_grows x y beside.connections false us taken.connection (down_taken taken.connection) (passes_down e frame taken) tells.follow
          (λ none. absurd (taken_of v x app e.state.dial e frame taken connection none));
      left =
          left_so false (dead app) us (down_taken taken.connection) e.state t tells.dial (λ uncut. ap has_wire tells.line ∙ sym tells.wire)
          (λ cut. absurd (false≢true cut)) (of_some (λ z. z.app_left ≡ not (is_wire (dead app) e.state t.dial)) (e.connection_at t.dial) taken.connection its_there ((is.pairs app).left t.dial));
    })

    more : NoLess (knows e) (knows f)
    more = subst (λ (k : Knew). NoLess (knows e) k) (sym knows_is) tells.rises

    pair : PairDials w y (dead app) app f
    pair =
        subst (λ (z : End). PairDials w y (dead app) app z) (sym moved)
        (pair_told v w x y app (dead app) e t shown grown place heard later (learnt_grows x y tells.session tells.order e.state.dial at) beside.connections tells.dial
        (subst (λ (z : End). NoLess (knows e) (knows z)) moved more) changes
        (subst (λ (k : Line). KnowsStill k (knows (told_of place heard (with_state t shown e))) (option_map grown (e.connection_at t.dial))) (sym tells.line) tt) (is.pairs app))

    grow : (number : ℕ) → GrowTo x w y app number e (e.connection_at number) (f.connection_at number)
    grow number =
        subst (λ (z : End). GrowTo x w y app number e (e.connection_at number) (z.connection_at number)) (sym moved)
        (grow_changed x y w app number (dead app) e t shown grown beside.connections changes)

    carried : IsSomeAnd (f.connection_at e.state.dial) (λ c. c.its ≡ Some (record { session = tells.session; order = tells.order }))
    carried =
        subst (λ (z : End). IsSomeAnd (z.connection_at e.state.dial) (λ c. c.its ≡ Some (record { session = tells.session; order = tells.order }))) (sym moved)
        (subst
        (λ (b : Bool).
        IsSomeAnd (if b then option_map grown (e.connection_at e.state.dial) else e.connection_at e.state.dial)
        (λ c. c.its ≡ Some (record { session = tells.session; order = tells.order }))) (sym (eq-eqb e.state.dial t.dial (sym tells.dial)))
        (subst (λ (o : Option Connection). IsSomeAnd (option_map grown o) (λ c. c.its ≡ Some (record { session = tells.session; order = tells.order }))) (sym taken.its)
        tells.carries))

    -- the plain session was told of the order
    was_told : AppTold w app f → IsSomeAnd (w.session_at tells.session) (λ u. (u.app ≡ app) × (tells.order ≤ u.told))
    was_told told = go (of_some (λ s. ToldPlace w app s f.told) f.state.session tells.has (ap (λ (z : AppEnd). z.session) state ∙ tells.its) told.place)
      where
        state : f.state ≡ t
        state = end_has_state d outs e.state t shown (Some frame.message) came

        go : ToldPlace w app tells.has f.told → IsSomeAnd (w.session_at tells.session) (λ u. (u.app ≡ app) × (tells.order ≤ u.told))
        go at_place = subst (λ (n : ℕ). IsSomeAnd (w.session_at n) (λ u. (u.app ≡ app) × (tells.order ≤ u.told))) tells.number (by (w.session_at tells.has.number) at_place.met)
          where
            order_or : Option Place → ℕ
            order_or None = 0
            order_or (Some q) = q.order

            same : tells.order ≡ at_place.order
            same = ap order_or (sym told_is ∙ at_place.its)

            by : (o : Option PlainSession) → IsSomeAnd o (λ u. (u.app ≡ app) × (u.told ≡ at_place.order)) → IsSomeAnd o (λ u. (u.app ≡ app) × (tells.order ≤ u.told))
            by None met = absurd met
            by (Some u) met = (met.0, omega (arith, met.1, same))

    learnt : AppTold w app f → LearntOn w f app tells.session tells.order e.state.dial
    learnt told = record {
      carries = carried;
      there = omega (arith, tells.there, later.there);
      told = was_told told;
      later = λ number above. none number above (f.connection_at number) refl;
      now = subst (λ (k : Knew). NoLess (as_it_learns tells.session tells.order) k) (sym knows_is) (no_less_same (as_it_learns tells.session tells.order));
    }
      where
        dial : f.state.dial ≡ e.state.dial
        dial = ap (λ (z : AppEnd). z.dial) (end_has_state d outs e.state t shown (Some frame.message) came) ∙ tells.dial

        none : (number : ℕ) → e.state.dial < number → (o : Option Connection) → f.connection_at number ≡ o → IfSome o (λ c. NoLess (as_it_learns tells.session tells.order) c.knew)
        none number above None it = tt
        none number above (Some c) it =
            absurd (omega (arith, above, dial, made_above f pair.made number (ap (λ (o : Option Connection). is_some o) it)))

    from : LearntFrom v x app tells.session tells.order
    from = record {
      on = taken.connection;
      its = taken.its;
      carries = tells.carries;
      opened = (of_some (CarriesOf v app taken.connection.first) taken.connection.its (record { session = tells.session; order = tells.order }) tells.carries connection.its).opened;
    }

    pub dials_told_at : AppTold w app f → IfSome x.node (λ n. tells.order ≡ x.past → n.order ≡ order_at v tells.order) → DialsAre w y dead
    dials_told_at told order =
        dials_with_learnt v w x y dead app f tells.session tells.order (site_ends app d outs e.state t (Some frame.message) f x) at from tells.there later grow more pair
        (learnt told) order is
