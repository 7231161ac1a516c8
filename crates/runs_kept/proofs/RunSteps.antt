-- The trail stays a run over a step of a data server.
use Rattle.std.proofs.Common.{◌≡◌, ◌≢◌, ◌≤◌, ℕ, Bool, true, false, cond, List, [], ◌∷◌, ◌++◌, append-nil, append_assoc, length, Option, Some, refl, sym, ◌∙◌, ap, subst, arith}
use Rattle.std.specs.Prelude.{nat_lt}
use Rattle.std.proofs.lemmas.Bool.{ltb-false, ltb-true}
use Rattle.plain_orders.specs.declared.act.Act.{Act}
use Rattle.plain_orders.specs.declared.act.Act.TheVariants as act
use Rattle.plain_orders.specs.declared.entry.Entry.{Entry}
use Rattle.plain_orders.specs.declared.layout.Layout.{Layout}
use Rattle.plain_orders.specs.Entries.{last_epoch, live}
use Rattle.plain_runs.specs.Plain.{Plain, Server, start}
use Rattle.plain_runs.specs.OrderRows.{saved as with_saved}
use Rattle.plain_runs.specs.Step.{after}
use Rattle.plain_runs.specs.Run.{IsRun, after_all, state_after}
use Rattle.plain_runs.proofs.OrderLaws.{orders_kept}
use Rattle.plain_runs.proofs.Ordered.{ordered_kept}
use Rattle.plain_runs.proofs.RunLemmas.{at_put, run_joined}
use Rattle.data_rules.specs.DataState.{DataState}
use Rattle.data_rules.specs.declared.data_in.DataIn.{DataIn}
use Rattle.data_rules.specs.declared.data_in.DataIn.TheVariants as data_in
use Rattle.data_rules.specs.declared.rows.Caller.{Caller}
use Rattle.data_rules.specs.declared.rows.Role.TheVariants.{Bound}
use Rattle.data_rules.specs.Conns.{role_of}
use Rattle.data_rules.specs.Puts.{Sofar, becomes, begun}
use Rattle.data_rules.specs.Saving.{writes_synced}
use Rattle.data_rules.specs.Step.{DataMay, made}
use Rattle.cluster_runs.specs.CoresState.{CoresState}
use Rattle.cluster_runs.specs.declared.move_outs.MoveOuts.{MoveOuts}
use Rattle.cluster_runs.specs.declared.moves.Move.TheVariants.{Server as ServerMove}
use Rattle.cluster_runs.specs.Goes.{ServerGoes}
use Rattle.cluster_runs.specs.Machine.{Machine, Site}
use Rattle.cluster_runs.specs.Mirrors.{Mirrors}
use Rattle.cluster_runs.specs.Moves.{Allowed, NodeMay}
use Rattle.cluster_runs.specs.Steps.{raised}
use Rattle.cluster_invariant.specs.Dials.{BoundIs, NodeDials, RoleIs}
use Rattle.cluster_invariant.specs.Ends.{CallerIs, NodeEnds}
use Rattle.cluster_invariant.specs.Holds.{Holds, SiteHolds}
use Rattle.cluster_invariant.specs.Orders.{NodeOrder}
use Rattle.cluster_invariant.proofs.AllLists.{all_follow}
use Rattle.cluster_invariant.proofs.OrderMoves.{step_from}
use Rattle.cluster_invariant.specs.Words.{IsFront}
use Rattle.cluster_invariant.proofs.Deeds.{Does, deeds_grow, order_by}
use Rattle.cluster_invariant.proofs.PieceDeeds.{does_piece}
use Rattle.cluster_invariant.proofs.PieceKinds.{Piece, makes}
use Rattle.cluster_invariant.proofs.PieceMay.{Coming, begins}
use Rattle.cluster_invariant.proofs.Pieces.{MayMake, kept_by_pieces}
use Rattle.cluster_invariant.proofs.PiecesOfSteps.{StepFrom, step_pieces, synced_state}
use Rattle.cluster_invariant.proofs.Small.{of_some, put_same}
use Rattle.data_pieces.proofs.ConnLists.{conn_for}
use Rattle.data_pieces.proofs.EndsAlong.{ends_piece}
use Rattle.data_pieces.proofs.EndsBegin.{NodeHas, ends_begin}
use Rattle.data_pieces.proofs.EndsGo.{EndsGo}
use Rattle.data_pieces.proofs.EndsPieces.{ConnsHold}
use Rattle.data_pieces.proofs.Places.{places_all}
use Rattle.data_pieces.proofs.PlainView.{view}
use Rattle.runs_kept.specs.Later.{AllLater}
use Rattle.runs_kept.proofs.NowFrom.{NowFrom, both_run}
use Rattle.runs_kept.proofs.RunGo.{NowGo}
use Rattle.runs_kept.proofs.RunPieces.{run_piece}

begins_times : (old : DataState) (now : ℕ) (input : DataIn) → (begins (record { old = old; now = now; input = input })).state.times ≡ old.times
begins_times old now (data_in.Frame conn up) = refl
begins_times old now (data_in.Connected conn) = refl
begins_times old now (data_in.Broken conn) = refl
begins_times old now data_in.Tick = refl
begins_times old now (data_in.Saved upto) = ap (λ (n : DataState). n.times) (synced_state upto (begun old))

-- and with its order
begins_front : (old : DataState) (now : ℕ) (input : DataIn) → IsFront old.order (begins (record { old = old; now = now; input = input })).state.order
begins_front old now (data_in.Frame conn up) = ([], sym (append-nil old.order))
begins_front old now (data_in.Connected conn) = ([], sym (append-nil old.order))
begins_front old now (data_in.Broken conn) = ([], sym (append-nil old.order))
begins_front old now data_in.Tick = ([], sym (append-nil old.order))
begins_front old now (data_in.Saved upto) = ([], ap (λ (n : DataState). n.order) (synced_state upto (begun old)) ∙ sym (append-nil old.order))

-- one front of another
front_then : (xs ys zs : List Entry) → IsFront xs ys → IsFront ys zs → IsFront xs zs
front_then xs ys zs f m = (f.0 ++ m.0, m.1 ∙ ap (λ (es : List Entry). es ++ m.0) f.1 ∙ append_assoc xs f.0 m.0)

-- the acts that begin a step
record Began (l : Layout) (p : Plain) (d now upto : ℕ) (acts : List Act) : Type 0 where
  run : NowFrom l p acts
  clock : now ≡ (after_all l p acts).clock
  opened : ((after_all l p acts).server_at d).opened ≡ true
  saved : upto ≤ ((after_all l p acts).server_at d).synced

-- a save that comes raises what is synced
now_begins : (l : Layout) (p : Plain) (d : ℕ) (old : DataState) (now : ℕ) (input : DataIn) → NodeHas d (p.server_at d) old → now ≡ p.clock → (p.server_at d).opened ≡ true → old.synced ≤ (p.server_at d).synced → DataMay old input
    → NowGo l p d (p.server_at d).synced now (begins (record { old = old; now = now; input = input })).state.synced (begins (record { old = old; now = now; input = input }))
now_begins l p d old now (data_in.Frame conn up) has clock opened low may = record { run = tt; clock = clock; opened = opened; no_less = low }
now_begins l p d old now (data_in.Connected conn) has clock opened low may = record { run = tt; clock = clock; opened = opened; no_less = low }
now_begins l p d old now (data_in.Broken conn) has clock opened low may = record { run = tt; clock = clock; opened = opened; no_less = low }
now_begins l p d old now data_in.Tick has clock opened low may = record { run = tt; clock = clock; opened = opened; no_less = low }
now_begins l p d old now (data_in.Saved upto) has clock opened low may = go (nat_lt old.synced upto) refl
  where
    by : (b : Bool) → nat_lt (p.server_at d).synced upto ≡ b → Began l p d now upto (cond b (act.Synced old.server upto ∷ []) [])
    by false is = record { run = tt; clock = clock; opened = opened; saved = ltb-false (p.server_at d).synced upto is }
    by true is = record {
      run = (
        record {
          opened = ap (λ (q : ℕ). (p.server_at q).opened) has.server ∙ opened;
          no_less = subst (λ (q : ℕ). (p.server_at q).synced ≤ upto) (sym has.server) (omega (arith, ltb-true (p.server_at d).synced upto is));
          within = subst (λ (q : ℕ). upto ≤ length (p.server_at q).order) (sym has.server) (subst (λ (es : List Entry). upto ≤ length es) (sym has.order) may.within);
        },
        tt,
      );
      clock = clock;
      opened = at_put (λ (v : Server) (w : Server). v.opened ≡ true → w.opened ≡ true) p.server_at old.server _ (λ v its. its) (λ its. its) d opened;
      saved = subst (λ (q : ℕ). upto ≤ ((after l p (act.Synced q upto)).server_at d).synced) (sym has.server)
          (subst (λ (v : Server). upto ≤ v.synced) (sym (put_same p.server_at d (with_saved (p.server_at d) upto))) (omega arith));
    }

    from : Began l p d now upto (raised (p.server_at d).synced (act.Synced old.server upto ∷ [])) → NowGo l p d (p.server_at d).synced now upto (becomes (λ n. record n { synced = upto }) (writes_synced true upto (begun old)))
    from h = record { run = h.run; clock = h.clock; opened = h.opened; no_less = h.saved }

    go : (rises : Bool) → nat_lt old.synced upto ≡ rises → NowGo l p d (p.server_at d).synced now upto (becomes (λ n. record n { synced = upto }) (writes_synced rises upto (begun old)))
    go false is = record { run = tt; clock = clock; opened = opened; no_less = omega (arith, low, ltb-false old.synced upto is) }
    go true is = from (by (nat_lt (p.server_at d).synced upto) refl)

module _ (l : Layout) (c : CoresState) (m : Machine) (server now : ℕ) (input : DataIn) (outs : MoveOuts) (written : List Act) (new : Machine)
    (h : Holds l m) (run : IsRun l m.trail) (shows : Mirrors c m) (allowed : Allowed c (ServerMove server now input)) (goes : ServerGoes m server now input outs written new) where
  abbrev p : Plain
  p = state_after l m.trail

  abbrev v : Server
  v = (state_after l m.trail).server_at server

  abbrev x : Site
  x = m.site_at server

  abbrev old : DataState
  old = goes.node

  abbrev t : Coming
  t = record { old = goes.node; now = now; input = input }

  abbrev W : Caller → Type 0
  W w = Unit {0}

  its : SiteHolds l server m.is_dead_at ((state_after l m.trail).server_at server) (m.site_at server)
  its = h.sites server

  node : NodeEnds v x old
  node = of_some (NodeEnds v x) x.node old goes.runs its.ends.node

  order : NodeOrder l server x.past v old
  order = of_some (NodeOrder l server x.past v) x.node old goes.runs its.order.node

  dials : NodeDials x old
  dials = of_some (NodeDials x) x.node old goes.runs its.dials.node

  from : StepFrom old
  from = step_from l m server old h run goes.runs

  may : DataMay old input
  may = subst (λ (o : Option DataState). NodeMay o input) (shows.nodes server ∙ goes.runs) allowed.may

  has : NodeHas server v old
  has = record {
    server = order.its_server;
    ordered = from.ordered;
    started = subst (λ (es : List Entry). last_epoch es ≢ 0) (sym order.order) ((ordered_kept l m.trail server run).begun order.opened);
    order = sym order.order;
    differ = dials.differ;
    within = subst (λ (es : List Entry). old.synced ≤ length es) (sym order.order) (omega (arith, order.synced, (orders_kept l m.trail server run).within));
  }

  hold : ConnsHold old
  hold = record { bound = λ conn s role. by conn s role (of_some (RoleIs x old conn) (role_of old conn) (Bound s) role (dials.roles conn)) }
    where
      by : (conn s : ℕ) → role_of old conn ≡ Some (Bound s) → BoundIs x old conn s → (live old.order s ≡ true) × (conn_for s old.conns ≡ Some conn)
      by conn s role b = (b.lives, b.its)

  clock : now ≡ (state_after l m.trail).clock
  clock = allowed.now_may.clock ∙ shows.clock ∙ sym h.clock

  abbrev Goes : Sofar → Type 0
  Goes b = EndsGo t W server (view l p server v.synced b.outs.acts) b.state × ((b.state.times ≡ l.times) × ((b.state.synced ≡ (begins t).state.synced) × (IsFront old.order b.state.order × NowGo l p server v.synced now (begins t).state.synced b)))

  begin : Goes (begins t)
  begin = (
    ends_begin l p server v.synced W x old now input has node (all_follow (CallerIs old x) W (λ w is. tt) old.callers node.callers.each),
    (begins_times old now input ∙ order.its_times, (refl, (begins_front old now input, now_begins l p server old now input has clock order.opened (omega (arith, order.synced)) may))),
  )

  -- the order goes on
  goes_front : (q : Piece) (b : Sofar) → MayMake t q b → IsFront old.order b.state.order → IsFront old.order (makes now q b).state.order
  goes_front q b known f = by (does_piece t q b known)
    where
      by : Does b (makes now q b) → IsFront old.order (makes now q b).state.order
      by does =
          subst (IsFront old.order) (sym does.order) (front_then old.order b.state.order (order_by does.deeds b.state.order) f (deeds_grow does.deeds b.state.order))

  -- a save that comes covers entries that are there
  covers : (upto : ℕ) → input ≡ data_in.Saved upto → (upto ≤ length old.order) × ((begins t).state.synced ≡ upto)
  covers upto came =
      subst (λ (i : DataIn). DataMay old i → (upto ≤ length old.order) × ((begins (record { old = old; now = now; input = i })).state.synced ≡ upto)) (sym came)
      (λ saved. (saved.within, ap (λ (n : DataState). n.synced) (synced_state upto (begun old)))) may

  -- what orders and ends let come
  run_now : NowFrom l p (raised v.synced goes.data_outs.acts)
  run_now =
      (kept_by_pieces t Goes
      (λ q b known g. (
        ends_piece l p server v.synced t W hold places_all (λ app conn e is. tt) q b known g.0,
        (
          (does_piece t q b known).times ∙ g.1.0,
          (
            (does_piece t q b known).synced ∙ g.1.1.0,
            (goes_front q b known g.1.1.1.0, run_piece l p server v.synced (begins t).state.synced t W hold covers q b known g.0 g.1.0 g.1.1.0 g.1.1.1.0 g.1.1.1.1),
          ),
        ),
      ))
      (begins t) (made goes.state goes.data_outs) (step_pieces old now input goes.data_outs goes.state from may goes.steps) begin).1.1.1.1.run

  -- With what it rests on beside them the trail stays a run.
  pub run_kept_by_server : AllLater l (state_after l m.trail) written → IsRun l new.trail
  run_kept_by_server later =
      subst (λ (n : Machine). IsRun l n.trail) (sym goes.after)
      (run_joined l start m.trail written run (both_run l p written (subst (NowFrom l p) (sym same_acts) run_now) later))
    where
      same_acts : written ≡ raised v.synced goes.data_outs.acts
      same_acts = goes.acts ∙ ap (λ (q : Layout). raised ((state_after q m.trail).server_at server).synced goes.data_outs.acts) h.layout
