-- Each step of a data server, as pieces.
use Rattle.std.proofs.Common.{◌≡◌, inl, inr, ℕ, Bool, true, false, ◌||◌, List, [], ◌∷◌, map, length, Option, Some, None, refl, sym, ◌∙◌, ap, subst}
use Rattle.std.specs.Prelude.{Result, Ok, Err, nat_lt, ◌==◌}
use Rattle.std.specs.List.{AllByRecursion, list_any}
use Rattle.std.proofs.lemmas.Bool.{eq-eqb}
use Rattle.plain_orders.specs.declared.entry.Entry.{Entry}
use Rattle.plain_orders.specs.declared.entry.Entry.TheVariants.{Epoch, Opened, Closed, Update, Commit, Rollback}
use Rattle.plain_orders.specs.Entries.{closes, live}
use Rattle.plain_orders.specs.Ordered.{IsOrdered}
use Rattle.plain_orders.specs.Sessions.{app_in, live_sessions, opened_sessions}
use Rattle.plain_orders.specs.declared.act.Act.TheVariants as act
use Rattle.link_window.specs.declared.window.Taken.{Taken}
use Rattle.link_window.specs.declared.window.Taken.TheVariants.{Fresh, Repeat}
use Rattle.link_window.specs.declared.window.WindowError.{WindowError}
use Rattle.lock_table.specs.LockWords.{without_session}
use Rattle.ecp_messages.specs.declared.up.Up.{Up}
use Rattle.ecp_messages.specs.declared.up.Up.TheVariants as up
use Rattle.ecp_messages.specs.declared.up.UpFrame.{UpFrame}
use Rattle.end_words.specs.Windows.{answers}
use Rattle.data_rules.specs.DataState.{DataState}
use Rattle.data_rules.specs.declared.data_in.DataIn.{DataIn}
use Rattle.data_rules.specs.declared.data_in.DataIn.TheVariants as data_in
use Rattle.data_rules.specs.declared.data_outs.DataOuts.{DataOuts}
use Rattle.data_rules.specs.declared.rows.Role.{Role}
use Rattle.data_rules.specs.declared.rows.Role.TheVariants.{New, Waiting, Bound, Closing}
use Rattle.data_rules.specs.declared.rows.Kind.{Kind}
use Rattle.data_rules.specs.declared.rows.Kind.TheVariants.{Opening, Numbered, Unnumbered}
use Rattle.data_rules.specs.Puts.{Sofar, becomes, writes, begun, number_of, window_of, body_of}
use Rattle.data_rules.specs.Leaving.{flushed}
use Rattle.data_rules.specs.Conns.{role_of, without_conn, end_breaks, loses_conn, leaves_conn, ends_conn}
use Rattle.data_rules.specs.Opening.{rounds}
use Rattle.data_rules.specs.Frames.{Ends, Passes, TakesFirst, kind_of, acknowledged, TakesNumbered, TakesBare, TakesBound, TakesClosing, TakesFrame, settled}
use Rattle.data_rules.specs.Saving.{releases, releases_all, acks_one, acks, closed_in, savers, part_saved, has_item_of, writes_synced}
use Rattle.data_rules.specs.Step.{FrameStep, DataMay, DataStep, made, saved}
use Rattle.cluster_invariant.specs.Words.{all_differ}
use Rattle.cluster_invariant.proofs.AllLists.{all_follow, all_both, all_passed, all_filtered}
use Rattle.cluster_invariant.proofs.PutLaws.{only_locks, only_puts, only_flushed}
use Rattle.cluster_invariant.proofs.Parts.{part_same}
use Rattle.cluster_invariant.proofs.RoundBefore.{round_same, round_before}
use Rattle.cluster_invariant.proofs.PiecesOfReplies.{flush_pieces, bares_role_pieces}
use Rattle.cluster_invariant.proofs.PiecesOfRounds.{rounds_pieces}
use Rattle.cluster_invariant.proofs.PiecesOfMessages.{fresh_pieces}
use Rattle.cluster_invariant.proofs.PiecesOfFirsts.{hello_pieces, recover_pieces}
use Rattle.cluster_invariant.proofs.PiecesOfTicks.{tick_pieces}
use Rattle.cluster_invariant.proofs.PieceKinds.{Ending, There, Here, Accepts, Forgets, Breaks, Acknowledges, PutsAck, Locks, Releases, cuts_if}
use Rattle.cluster_invariant.proofs.PieceMay.{Coming, EndsBy, OnBound, RoundWas, begins, synced_to}
use Rattle.cluster_invariant.proofs.Pieces.{Pieced, no_piece, one_piece, one_then, and_then, by_after}

-- a connection goes
gone_pieces : (t : Coming) (ending : Ending) (conn : ℕ) (b : Sofar) → b ≡ begins t → EndsBy t ending conn
    → Pieced t b (cuts_if ending conn (leaves_conn conn t.now b))
gone_pieces t ending conn b first ends = go (role_of b.state conn) refl
  where
    bound : (s : ℕ) → role_of b.state conn ≡ Some (Bound s) → (o : Option ℕ) → app_in b.state.order s ≡ o
        → Pieced t b (cuts_if ending conn (end_breaks o t.now (becomes (without_conn conn) b)))
    bound s role None its =
        one_piece t (Forgets ending conn) b
        (record {
          first = first;
          ends = ends;
          unbound = λ q same.
              (let both : Some (Bound s) ≡ Some (Bound q) = sym role ∙ same in let is : s ≡ q = cc in subst (λ n. app_in b.state.order n ≡ None) is its);
        })
    bound s role (Some app) its = one_piece t (Breaks ending conn s app) b (record { first = first; ends = ends; bound = role; opened = its })

    other : (r : Option Role) → role_of b.state conn ≡ r → ((q : ℕ) → r ≡ Some (Bound q) → ⊥) → Pieced t b (cuts_if ending conn (becomes (without_conn conn) b))
    other r role apart = one_piece t (Forgets ending conn) b (record { first = first; ends = ends; unbound = λ q same. absurd (apart q (sym role ∙ same)) })

    go : (r : Option Role) → role_of b.state conn ≡ r → Pieced t b (cuts_if ending conn (loses_conn r t.now (becomes (without_conn conn) b)))
    go None role = other None role (λ q same. absurd cc)
    go (Some New) role = other (Some New) role (λ q same. absurd cc)
    go (Some Waiting) role = other (Some Waiting) role (λ q same. absurd cc)
    go (Some (Bound s)) role = bound s role (app_in b.state.order s) refl
    go (Some (Closing s)) role = other (Some (Closing s)) role (λ q same. absurd cc)

-- what a frame comes to, on a data server whose connections have different numbers
record FrameAt (t : Coming) (conn : ℕ) (f : UpFrame) (b : Sofar) : Type 0 where
  first : b ≡ begins t
  state : b.state ≡ t.old
  came : t.input ≡ data_in.Frame conn f
  differ : all_differ (map number_of b.state.conns) ≡ true

module _ (t : Coming) (conn : ℕ) (f : UpFrame) (b : Sofar) (at : FrameAt t conn f b) (c : Sofar) where
  end_pieces : Ends b conn t.now c → Pieced t b c
  end_pieces ends = by_after t b c (ends_conn conn t.now b) ends.after (gone_pieces t Here conn b at.first (f, at.came))

  pass_pieces : Passes b c → Pieced t b c
  pass_pieces passes = by_after t b c b passes.after (no_piece t b)

  first_pieces : role_of b.state conn ≡ Some New → (m : Up) → f.message ≡ m → TakesFirst m b conn t.now c → Pieced t b c
  first_pieces new (up.Hello app dial) says (inl takes) =
      hello_pieces t conn app dial b
      (record { first = at.first; state = at.state; came = record { up = f; its = at.came; says = says }; is_new = new; differ = at.differ }) c takes
  first_pieces new (up.Hello app dial) says (inr ends) = end_pieces ends.ended
  first_pieces new (up.Recover app s epoch taken dial) says (inl takes) =
      recover_pieces t conn app s epoch taken dial b
      (record { first = at.first; state = at.state; came = record { up = f; its = at.came; says = says }; is_new = new; differ = at.differ }) c takes
  first_pieces new (up.Recover app s epoch taken dial) says (inr ends) = end_pieces ends.ended
  first_pieces new (up.Update w job txn op) says ends = end_pieces ends
  first_pieces new (up.Add w job key amount) says ends = end_pieces ends
  first_pieces new (up.Fetch key) says ends = end_pieces ends
  first_pieces new (up.Ask ticket job mode key) says ends = end_pieces ends
  first_pieces new (up.Unlock job mode key) says ends = end_pieces ends
  first_pieces new (up.Cancel ticket) says ends = end_pieces ends
  first_pieces new (up.Commit w job txn wanted) says ends = end_pieces ends
  first_pieces new (up.Rollback w job txn) says ends = end_pieces ends
  first_pieces new (up.Sync ticket) says ends = end_pieces ends
  first_pieces new up.Done says ends = end_pieces ends
  first_pieces new (up.Claim job mode number at key) says ends = end_pieces ends
  first_pieces new up.Bare says ends = end_pieces ends

  module _ (s : ℕ) (on : OnBound t conn s f b) where
    numbered_pieces : kind_of f.message ≡ Numbered → (r : Result Taken WindowError) → answers body_of (window_of b.state s) f.seq f.ack ≡ r
        → TakesNumbered r b conn t.now s f c → Pieced t b c
    numbered_pieces kind (Ok Fresh) says (inl takes) =
        fresh_pieces t conn s f b (record { first = at.first; on = on; kind = kind; fresh = says }) c takes.made
    numbered_pieces kind (Ok Fresh) says (inr stray) = end_pieces stray.ended
    numbered_pieces kind (Ok Repeat) says takes =
        by_after t b c (acknowledged s f.ack b) takes (one_piece t (Acknowledges conn s f) b (record { first = at.first; on = on; why = inl (kind, says) }))
    numbered_pieces kind (Err why) says ends = end_pieces ends

    unnumbered_pieces : kind_of f.message ≡ Unnumbered → (r : Result Taken WindowError) → answers body_of (window_of b.state s) 0 f.ack ≡ r
        → TakesBare r b conn t.now s f.ack c → Pieced t b c
    unnumbered_pieces kind (Ok answer) says takes =
        by_after t b c (acknowledged s f.ack b) takes
        (one_piece t (Acknowledges conn s f) b (record { first = at.first; on = on; why = inr (kind, (answer, says)) }))
    unnumbered_pieces kind (Err why) says ends = end_pieces ends

    bound_pieces : (k : Kind) → kind_of f.message ≡ k → TakesBound k b conn t.now s f c → Pieced t b c
    bound_pieces Opening kind takes = end_pieces takes
    bound_pieces Numbered kind takes = numbered_pieces kind (answers body_of (window_of b.state s) f.seq f.ack) refl takes
    bound_pieces Unnumbered kind takes = unnumbered_pieces kind (answers body_of (window_of b.state s) 0 f.ack) refl takes

  closing_pieces : (k : Kind) → TakesClosing k b conn t.now c → Pieced t b c
  closing_pieces Opening takes = end_pieces takes
  closing_pieces Numbered takes = pass_pieces takes
  closing_pieces Unnumbered takes = pass_pieces takes

  role_pieces : (r : Option Role) → role_of b.state conn ≡ r → TakesFrame r b conn t.now f c → Pieced t b c
  role_pieces None role takes = pass_pieces takes
  role_pieces (Some New) role takes = first_pieces role f.message refl takes
  role_pieces (Some Waiting) role takes = end_pieces takes
  role_pieces (Some (Bound s)) role takes = bound_pieces s (record { came = at.came; bound = role }) (kind_of f.message) refl takes
  role_pieces (Some (Closing s)) role takes = closing_pieces (kind_of f.message) takes

-- what follows each frame
settled_pieces : (t : Coming) (conn : ℕ) (f : UpFrame) → t.input ≡ data_in.Frame conn f → (b : Sofar) → RoundWas t b.state
    → Pieced t b (settled conn t.now b)
settled_pieces t conn f came b before =
    and_then t b (rounds t.now b) _ (rounds_pieces t b before)
    (and_then t (rounds t.now b) (flushed (rounds t.now b)) _ (flush_pieces t (rounds t.now b))
    (bares_role_pieces t conn f came (role_of (flushed (rounds t.now b)).state conn) (flushed (rounds t.now b)) refl))

frame_pieces : (t : Coming) (conn : ℕ) (f : UpFrame) (b : Sofar) → FrameAt t conn f b → (c : Sofar) → FrameStep b t.now conn f c → Pieced t b c
frame_pieces t conn f b at c steps =
    by_after t b c (settled conn t.now steps.taken) steps.after
    (go (role_pieces t conn f b at steps.taken (role_of b.state conn) refl steps.takes))
  where
    go : Pieced t b steps.taken → Pieced t b (settled conn t.now steps.taken)
    go taken =
        and_then t b steps.taken _ taken
        (settled_pieces t conn f at.came steps.taken (round_before t b steps.taken taken (subst (RoundWas t) (sym at.state) (round_same t t.old refl refl))))

-- saves

closed_there : (es : List Entry) → AllByRecursion (λ s. list_any (closes s) es ≡ true) (closed_in es)
closed_there [] = tt
closed_there (Epoch number ∷ es) = closed_there es
closed_there (Opened session app ∷ es) = closed_there es
closed_there (Closed session ∷ es) = (
  ap (λ (b : Bool). b || list_any (closes session) es) (eq-eqb session session refl),
  all_follow (λ s. list_any (closes s) es ≡ true) (λ s. list_any (closes s) (Closed session ∷ es) ≡ true)
      (λ s is. more (session == s) (list_any (closes s) es) is)
      (closed_in es) (closed_there es),
)
  where
    more : (x y : Bool) → y ≡ true → (x || y) ≡ true
    more true y is = refl
    more false y is = is
closed_there (Update session w job txn op ∷ es) = closed_there es
closed_there (Commit session w job txn ∷ es) = closed_there es
closed_there (Rollback session w job txn ∷ es) = closed_there es

module _ (t : Coming) (upto : ℕ) (came : t.input ≡ data_in.Saved upto) where
  releases_pieces : (ss : List ℕ) (b : Sofar) → AllByRecursion (λ s. list_any (closes s) (part_saved t.old upto) ≡ true) ss → Pieced t b (releases_all ss b)
  releases_pieces [] b closed = no_piece t b
  releases_pieces (s ∷ ss) b closed =
      one_then t (Locks (Releases s)) b _ (record { upto = upto; came = came; closed = closed.0 }) (releases_pieces ss (releases s b) closed.1)

  acks_pieces : (ss : List ℕ) (b : Sofar) → AllByRecursion (λ s. (live b.state.order s ≡ true) × (has_item_of (part_saved t.old upto) s ≡ true)) ss
      → Pieced t b (acks ss b)
  acks_pieces [] b saved = no_piece t b
  acks_pieces (s ∷ ss) b saved =
      one_then t (PutsAck s) b _ (record { upto = upto; came = came; is_live = saved.0.0; saved = saved.0.1 })
      (acks_pieces ss (acks_one s b)
      (subst (λ (es : List Entry). AllByRecursion (λ q. (live es q ≡ true) × (has_item_of (part_saved t.old upto) q ≡ true)) ss)
      (sym (ap (λ (d : DataState). d.order) (only_puts s _ b).state)) saved.1))

releases_order : (ss : List ℕ) (b : Sofar) → (releases_all ss b).state.order ≡ b.state.order
releases_order [] b = refl
releases_order (s ∷ ss) b =
    releases_order ss (releases s b)
    ∙ ap (λ (d : DataState). d.order) (only_locks (without_session b.state.locks s (length b.state.order)) (writes (act.Release b.state.server s) b)).state

-- the sessions of which a save covers an item are live
savers_live : (es part : List Entry) → AllByRecursion (λ s. (live es s ≡ true) × (has_item_of part s ≡ true)) (savers es part)
savers_live es part =
    all_both (λ s. live es s ≡ true) (λ s. has_item_of part s ≡ true) (savers es part)
    (all_filtered (λ s. live es s ≡ true) (has_item_of part) (live_sessions es) (all_passed (live es) (opened_sessions es)))
    (all_passed (has_item_of part) (live_sessions es))

-- only the number of a save counts in the state
pub synced_state : (upto : ℕ) (b : Sofar) → (synced_to upto b).state ≡ record b.state { synced = upto }
synced_state upto b = ap (λ (d : DataState). record d { synced = upto }) (go (nat_lt b.state.synced upto))
  where
    go : (rises : Bool) → (writes_synced rises upto b).state ≡ b.state
    go true = refl
    go false = refl

saved_pieces : (old : DataState) (now upto : ℕ)
    → Pieced (record { old = old; now = now; input = data_in.Saved upto }) (synced_to upto (begun old)) (saved upto now (begun old))
saved_pieces old now upto =
    go (and_then t b (releases_all closed b) _ (releases_pieces t upto refl closed b (closed_there (part_saved old upto)))
    (and_then t (releases_all closed b) (flushed (releases_all closed b)) _ (flush_pieces t (releases_all closed b))
    (acks_pieces t upto refl acked (flushed (releases_all closed b))
    (subst (λ (es : List Entry). AllByRecursion (λ s. (live es s ≡ true) × (has_item_of (part_saved old upto) s ≡ true)) acked)
    (sym (ap (λ (d : DataState). d.order) (only_flushed (releases_all closed b)).state ∙ releases_order closed b
    ∙ ap (λ (d : DataState). d.order) (synced_state upto (begun old))))
    (savers_live old.order (part_saved old upto))))))
  where
    t : Coming
    t = record { old = old; now = now; input = data_in.Saved upto }

    b : Sofar
    b = synced_to upto (begun old)

    closed : List ℕ
    closed = closed_in (part_saved old upto)

    acked : List ℕ
    acked = savers old.order (part_saved old upto)

    go : Pieced t b (acks acked (flushed (releases_all closed b))) → Pieced t b (rounds now (acks acked (flushed (releases_all closed b))))
    go first =
        and_then t b (acks acked (flushed (releases_all closed b))) _ first
        (rounds_pieces t (acks acked (flushed (releases_all closed b)))
        (round_before t b (acks acked (flushed (releases_all closed b))) first
        (subst (RoundWas t) (sym (synced_state upto (begun old))) (round_same t (record old { synced = upto }) refl refl))))

-- all inputs

-- what a step begins with: the connections have different numbers, and the order is an ordered list
pub record StepFrom (d : DataState) : Type 0 where
  pub differ : all_differ (map number_of d.conns) ≡ true
  pub ordered : IsOrdered d.order

-- What follows a frame, once it is taken.
pub behind_pieces : (old : DataState) (now conn : ℕ) (f : UpFrame) (c : Sofar) → StepFrom old → (steps : FrameStep (begun old) now conn f c)
    → Pieced (record { old = old; now = now; input = data_in.Frame conn f }) steps.taken c
behind_pieces old now conn f c from steps =
    by_after t steps.taken c (settled conn now steps.taken) steps.after
    (settled_pieces t conn f refl steps.taken
    (round_before t (begun old) steps.taken (role_pieces t conn f (begun old) at steps.taken (role_of old conn) refl steps.takes) (round_same t old refl refl)))
  where
    t : Coming
    t = record { old = old; now = now; input = data_in.Frame conn f }

    at : FrameAt t conn f (begun old)
    at = record { first = refl; state = refl; came = refl; differ = from.differ }

-- What each step makes is made by pieces.
pub step_pieces : (old : DataState) (now : ℕ) (input : DataIn) (outs : DataOuts) (new : DataState)
    → StepFrom old → DataMay old input → DataStep old now input outs new
    → Pieced (record { old = old; now = now; input = input }) (begins (record { old = old; now = now; input = input })) (made new outs)
step_pieces old now (data_in.Frame conn f) outs new from may steps =
    frame_pieces (record { old = old; now = now; input = data_in.Frame conn f }) conn f (begun old)
    (record { first = refl; state = refl; came = refl; differ = from.differ }) (made new outs) steps
step_pieces old now (data_in.Connected conn) outs new from may steps =
    by_after (record { old = old; now = now; input = data_in.Connected conn }) (begun old) (made new outs) _ steps
    (one_piece (record { old = old; now = now; input = data_in.Connected conn }) (Accepts conn) (begun old)
    (record { first = refl; came = refl; unknown = may }))
step_pieces old now (data_in.Broken conn) outs new from may steps =
    by_after (record { old = old; now = now; input = data_in.Broken conn }) (begun old) (made new outs) _ steps
    (gone_pieces (record { old = old; now = now; input = data_in.Broken conn }) There conn (begun old) refl refl)
step_pieces old now data_in.Tick outs new from may steps =
    by_after (record { old = old; now = now; input = data_in.Tick }) (begun old) (made new outs) _ steps
    (tick_pieces (record { old = old; now = now; input = data_in.Tick }) refl (begun old) from.ordered (part_same old.locks.requests) (λ askers. askers))
step_pieces old now (data_in.Saved upto) outs new from may steps =
    by_after (record { old = old; now = now; input = data_in.Saved upto }) (synced_to upto (begun old)) (made new outs) _ steps (saved_pieces old now upto)
