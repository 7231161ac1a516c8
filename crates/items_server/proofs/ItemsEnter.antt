-- Each item that enters as a data server steps may come in its turn.
use Rattle.std.proofs.Common.{◌≡◌, ℕ, Bool, true, false, cond, List, ◌∷◌, ◌++◌, drop, map, Option, Some, None, is_some, refl, sym, ◌∙◌, ap, subst}
use Rattle.std.specs.Prelude.{nat_lt}
use Rattle.std.proofs.lemmas.Bool.{false≢true}
use Rattle.std.proofs.lemmas.List.{append_cancel_left}
use Rattle.plain_orders.specs.declared.act.Act.{Act}
use Rattle.plain_orders.specs.declared.act.Act.TheVariants as act
use Rattle.plain_orders.specs.declared.entry.Entry.{Entry}
use Rattle.plain_orders.specs.declared.layout.Layout.{Layout}
use Rattle.plain_orders.specs.Ordered.{MayFollow}
use Rattle.plain_runs.specs.OrderRows.{saved}
use Rattle.plain_runs.specs.Plain.{Plain, Server, issued_in}
use Rattle.plain_runs.specs.Run.{IsRun, state_after}
use Rattle.plain_runs.specs.Step.{after}
use Rattle.ecp_messages.specs.declared.up.Up.{Up}
use Rattle.ecp_messages.specs.declared.up.UpFrame.{UpFrame}
use Rattle.data_rules.specs.DataState.{DataState}
use Rattle.data_rules.specs.declared.data_in.DataIn.{DataIn}
use Rattle.data_rules.specs.declared.data_in.DataIn.TheVariants as data_in
use Rattle.data_rules.specs.declared.data_outs.DataOuts.{DataOuts}
use Rattle.data_rules.specs.Puts.{Sofar, begun, becomes, window_of}
use Rattle.data_rules.specs.Saving.{writes_synced}
use Rattle.data_rules.specs.Step.{DataMay, DataStep, made}
use Rattle.cluster_runs.specs.CoresState.{CoresState}
use Rattle.cluster_runs.specs.declared.move_outs.MoveOuts.{MoveOuts}
use Rattle.cluster_runs.specs.declared.moves.Move.TheVariants.{Server as ServerMove}
use Rattle.cluster_runs.specs.Goes.{ServerGoes}
use Rattle.cluster_runs.specs.Machine.{Machine, Site}
use Rattle.cluster_runs.specs.Mirrors.{Mirrors}
use Rattle.cluster_runs.specs.Moves.{Allowed, NodeMay}
use Rattle.cluster_runs.specs.Steps.{raised}
use Rattle.cluster_invariant.specs.Dials.{NodeDials}
use Rattle.cluster_invariant.specs.Holds.{Holds}
use Rattle.cluster_invariant.specs.Link.{NodeLink}
use Rattle.cluster_invariant.specs.Orders.{NodeOrder}
use Rattle.cluster_invariant.specs.Rounds.{is_item}
use Rattle.cluster_invariant.specs.Words.{is_begun}
use Rattle.cluster_invariant.proofs.Deeds.{Does, act_of}
use Rattle.cluster_invariant.proofs.OrderMoves.{step_from}
use Rattle.cluster_invariant.proofs.PieceDeeds.{does_step}
use Rattle.cluster_invariant.proofs.PieceMay.{Coming, EntersMay, TakesMay, begins, item_of}
use Rattle.cluster_invariant.proofs.PiecesOfSteps.{StepFrom, step_pieces, synced_state}
use Rattle.cluster_invariant.proofs.Small.{of_some, put_same}
use Rattle.cluster_invariant.proofs.Written.{all_raised}
use Rattle.cluster_promises.specs.Items.{ItemsHold, SaysIssued}
use Rattle.link_kept.proofs.FramesFit.{FrameAt, OnWay, frame_next, on_way, taken_next}
use Rattle.items_server.specs.ItemActs.{ItemsCome}
use Rattle.items_server.proofs.DeedItems.{SameIn, all_entries, deeds_come, order_entries}
use Rattle.items_server.proofs.FrameItems.{grew_frame}
use Rattle.items_server.proofs.Grew.{Grew, grew_none, grew_pieces}
use Rattle.items_server.proofs.ItemRows.{Right, RightFrom, all_next, item_is, right_of}
use Rattle.items_server.proofs.LearntTold.{learnt_told}

-- a step begins with the order as it was
begins_order : (old : DataState) (now : ℕ) (input : DataIn) → (begins (record { old = old; now = now; input = input })).state.order ≡ old.order
begins_order old now (data_in.Frame conn f) = refl
begins_order old now (data_in.Connected conn) = refl
begins_order old now (data_in.Broken conn) = refl
begins_order old now data_in.Tick = refl
begins_order old now (data_in.Saved upto) = ap (λ (n : DataState). n.order) (synced_state upto (begun old))

begins_server : (old : DataState) (now : ℕ) (input : DataIn) → (begins (record { old = old; now = now; input = input })).state.server ≡ old.server
begins_server old now (data_in.Frame conn f) = refl
begins_server old now (data_in.Connected conn) = refl
begins_server old now (data_in.Broken conn) = refl
begins_server old now data_in.Tick = refl
begins_server old now (data_in.Saved upto) = ap (λ (n : DataState). n.server) (synced_state upto (begun old))

-- an input that is no frame brings no item
no_frame : (old : DataState) (now : ℕ) (input : DataIn) → ((conn : ℕ) (f : UpFrame) → input ≡ data_in.Frame conn f → is_item f.message ≡ true → ⊥)
    → (e : Entry) (b : Sofar) → EntersMay (record { old = old; now = now; input = input }) e b → ⊥
no_frame old now input none e b may = none may.its.conn may.its.up may.its.on.came (item_is may.session may.its.up.message e may.item)

frame_is : (conn n : ℕ) (f g : UpFrame) → data_in.Frame conn f ≡ data_in.Frame n g → f ≡ g
frame_is conn n f g is = cc

-- the order grows by what is right
grew_step : (v : Server) (old : DataState) (now : ℕ) (input : DataIn) (outs : DataOuts) (new : DataState) → StepFrom old → DataMay old input → DataStep old now input outs new
    → ((conn : ℕ) (f : UpFrame) → input ≡ data_in.Frame conn f → (s : ℕ) (e : Entry) → TakesMay (record { old = old; now = now; input = data_in.Frame conn f }) conn s f (begun old)
    → item_of s f.message ≡ Some e → MayFollow old.order e → Right v old.order e)
    → Grew v old.order (made new outs)
grew_step v old now input outs new from may steps right = go input refl may steps
  where
    others : (i : DataIn) → ((conn : ℕ) (f : UpFrame) → i ≡ data_in.Frame conn f → is_item f.message ≡ true → ⊥) → DataMay old i → DataStep old now i outs new → Grew v old.order (made new outs)
    others i none can made_so =
        grew_pieces v old.order (record { old = old; now = now; input = i }) (no_frame old now i none) (begins (record { old = old; now = now; input = i })) (made new outs)
        (step_pieces old now i outs new from can made_so) (grew_none v old.order (begins (record { old = old; now = now; input = i })) (begins_order old now i))

    go : (i : DataIn) → input ≡ i → DataMay old i → DataStep old now i outs new → Grew v old.order (made new outs)
    go (data_in.Frame conn f) its can made_so = by (is_item f.message) refl
      where
        by : (item : Bool) → is_item f.message ≡ item → Grew v old.order (made new outs)
        by true is = grew_frame v old now conn f is (λ s e takes says follows. right conn f its s e takes says follows) (made new outs) made_so
        by false is =
            others (data_in.Frame conn f)
            (λ n g same item. false≢true (sym is ∙ ap (λ (h : UpFrame). is_item h.message) (frame_is conn n f g same) ∙ item)) can made_so
    go (data_in.Connected conn) its can made_so = others (data_in.Connected conn) (λ n g same item. absurd cc) can made_so
    go (data_in.Broken conn) its can made_so = others (data_in.Broken conn) (λ n g same item. absurd cc) can made_so
    go data_in.Tick its can made_so = others data_in.Tick (λ n g same item. absurd cc) can made_so
    go (data_in.Saved upto) its can made_so = others (data_in.Saved upto) (λ n g same item. absurd cc) can made_so

module _ (l : Layout) (c : CoresState) (m : Machine) (server now : ℕ) (input : DataIn) (outs : MoveOuts) (written : List Act) (new : Machine)
    (h : Holds l m) (items : ItemsHold ((state_after l m.trail).server_at server) (m.site_at server) m.is_dead_at) (run : IsRun l m.trail)
    (shows : Mirrors c m) (allowed : Allowed c (ServerMove server now input)) (goes : ServerGoes m server now input outs written new) where
  abbrev p : Plain
  p = state_after l m.trail

  abbrev v : Server
  v = (state_after l m.trail).server_at server

  abbrev x : Site
  x = m.site_at server

  abbrev old : DataState
  old = goes.node

  dials : NodeDials x old
  dials = of_some (NodeDials x) x.node old goes.runs (h.sites server).dials.node

  link : NodeLink v x m.is_dead_at old
  link = of_some (NodeLink v x m.is_dead_at) x.node old goes.runs (h.sites server).link.node

  order : NodeOrder l server x.past v old
  order = of_some (NodeOrder l server x.past v) x.node old goes.runs (h.sites server).order.node

  from : StepFrom old
  from = step_from l m server old h run goes.runs

  may : DataMay old input
  may = subst (λ (o : Option DataState). NodeMay o input) (shows.nodes server ∙ goes.runs) allowed.may

  at_frame : FrameAt x m.is_dead_at old input
  at_frame = record {
    dials = dials;
    windows = link.windows;
    ups = link.ups;
    next = λ conn f k came linked. frame_next c m server now conn f k shows (subst (λ (i : DataIn). Allowed c (ServerMove server now i)) came allowed) linked;
  }

  -- an item that is taken was issued, in a session that is told of the order
  right : (conn : ℕ) (f : UpFrame) → input ≡ data_in.Frame conn f → (s : ℕ) (e : Entry) → TakesMay (record { old = old; now = now; input = data_in.Frame conn f }) conn s f (begun old)
      → item_of s f.message ≡ Some e → MayFollow old.order e → Right v old.order e
  right conn f came s e takes its follows = right_of v old.order s f.message e its follows (learnt_told l m server h run s begun_so) issued
    where
      t : Coming
      t = record { old = goes.node; now = now; input = data_in.Frame conn f }

      at : FrameAt (m.site_at server) m.is_dead_at goes.node (data_in.Frame conn f)
      at = subst (FrameAt (m.site_at server) m.is_dead_at goes.node) came at_frame

      next : (rest : List Up) × (drop (window_of old s).taken (x.lane_at s x.past).up ≡ f.message ∷ rest)
      next = taken_next (m.site_at server) m.is_dead_at (record { old = goes.node; now = now; input = data_in.Frame conn f }) at conn s f (begun goes.node) takes

      issued : SaysIssued (issued_in v s) f.message
      issued = all_next (SaysIssued (issued_in v s)) (window_of old s).taken (x.lane_at s x.past).up next.0 f.message (items.lanes s x.past).each next.1

      learnt : (o : Option ℕ) → (x.lane_at s x.past).began ≡ o → (o ≡ None → ⊥) → is_begun (x.lane_at s x.past) ≡ true
      learnt None none not = absurd (not refl)
      learnt (Some dial) some not = ap (λ (q : Option ℕ). is_some q) some

      begun_so : is_begun (x.lane_at s x.past) ≡ true
      begun_so =
          learnt (x.lane_at s x.past).began refl
          (not_left (on_way (m.site_at server) m.is_dead_at (record { old = goes.node; now = now; input = data_in.Frame conn f }) at conn s f refl takes.on.bound))
        where
          not_left : OnWay (m.site_at server) m.is_dead_at (record { old = goes.node; now = now; input = data_in.Frame conn f }) at s f → (x.lane_at s x.past).began ≡ None → ⊥
          not_left o none = absurd (cc (o.way.none none))

  grew : Grew v old.order (made goes.state goes.data_outs)
  grew = grew_step v old now input goes.data_outs goes.state from may goes.steps right

  does : Does (begins (record { old = goes.node; now = now; input = input })) (made goes.state goes.data_outs)
  does = does_step old now input goes.data_outs goes.state from may goes.steps

  -- what its deeds enter is right
  entered : RightFrom v old.order (all_entries does.deeds)
  entered = subst (RightFrom v old.order) (append_cancel_left old.order grew.more (all_entries does.deeds) (sym grew.order ∙ by_deeds)) grew.right
    where
      by_deeds : goes.state.order ≡ old.order ++ all_entries does.deeds
      by_deeds = does.order ∙ order_entries does.deeds (begins (record { old = goes.node; now = now; input = input })).state.order
          ∙ ap (λ (es : List Entry). es ++ all_entries does.deeds) (begins_order old now input)

  same : SameIn v old.order v
  same = record { order = sym order.order; told = λ s. refl; issued = λ s. refl }

  -- behind a save
  deeds_may : (q : Plain) → SameIn v old.order (q.server_at server) → ItemsCome l q (map (act_of old.server) does.deeds)
  deeds_may q is =
      subst (λ (d : ℕ). ItemsCome l q (map (act_of d) does.deeds)) (sym order.its_server)
      (deeds_come l q server v old.order does.deeds does.may is entered)

  acts_may : (i : DataIn) → ItemsCome l p (raised v.synced ((begins (record { old = goes.node; now = now; input = i })).outs.acts ++ map (act_of old.server) does.deeds))
  acts_may i = go i
    where
      none : ItemsCome l p (raised v.synced (map (act_of old.server) does.deeds))
      none = subst (ItemsCome l p) (sym (all_raised v.synced old.server does.deeds)) (deeds_may p same)

      after_save : (upto : ℕ) → ItemsCome l (after l p (act.Synced old.server upto)) (raised v.synced (map (act_of old.server) does.deeds))
      after_save upto =
          subst (ItemsCome l (after l p (act.Synced old.server upto))) (sym (all_raised v.synced old.server does.deeds))
          (deeds_may (after l p (act.Synced old.server upto))
          (subst (λ (d : ℕ). SameIn v old.order ((after l p (act.Synced d upto)).server_at server)) (sym order.its_server)
          (subst (SameIn v old.order) (sym (put_same p.server_at server (saved v upto))) (record { order = sym order.order; told = λ s. refl; issued = λ s. refl }))))

      saves : (upto : ℕ) (rises : Bool) → ItemsCome l p (cond rises (act.Synced old.server upto ∷ raised v.synced (map (act_of old.server) does.deeds)) (raised v.synced (map (act_of old.server) does.deeds)))
      saves upto true = (tt, after_save upto)
      saves upto false = none

      go : (j : DataIn) → ItemsCome l p (raised v.synced ((begins (record { old = goes.node; now = now; input = j })).outs.acts ++ map (act_of old.server) does.deeds))
      go (data_in.Frame conn f) = none
      go (data_in.Connected conn) = none
      go (data_in.Broken conn) = none
      go data_in.Tick = none
      go (data_in.Saved upto) = by (nat_lt old.synced upto)
        where
          by : (rises : Bool) → ItemsCome l p (raised v.synced ((becomes (λ d. record d { synced = upto }) (writes_synced rises upto (begun old))).outs.acts ++ map (act_of old.server) does.deeds))
          by true = saves upto (nat_lt v.synced upto)
          by false = none

  -- Each of them may come.
  pub items_enter : ItemsCome l (state_after l m.trail) written
  items_enter = subst (ItemsCome l p) (sym acts) (acts_may input)
    where
      acts : written ≡ raised v.synced ((begins (record { old = goes.node; now = now; input = input })).outs.acts ++ map (act_of old.server) does.deeds)
      acts =
          goes.acts ∙ ap (λ (q : Layout). raised ((state_after q m.trail).server_at server).synced goes.data_outs.acts) h.layout
          ∙ ap (raised v.synced) (does.acts ∙ ap (λ (d : ℕ). (begins (record { old = goes.node; now = now; input = input })).outs.acts ++ map (act_of d) does.deeds) (begins_server old now input))
