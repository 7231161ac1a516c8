-- Requests for locks after each step of a data server: at its node, and in the lanes of its sessions.
use Rattle.std.proofs.Common.{◌≡◌, ◌≤◌, ◌<◌, ◌⊎◌, inl, inr, ℕ, ◌+◌, ◌-◌, Bool, true, false, not, ◌&&◌, ◌||◌, if◌then◌else◌, List, [], ◌∷◌, ◌++◌, drop, filter, length, take, refl, sym, ◌∙◌, ap, subst, arith}
use Rattle.std.specs.Prelude.{◌==◌}
use Rattle.std.specs.List.{AllByRecursion, list_any}
use Rattle.std.proofs.lemmas.Bool.{and_parts, eq-eqb, eqb-true, false≢true, true≢false}
use Rattle.std.proofs.lemmas.List.{take-append-le}
use Rattle.std.proofs.lemmas.List.Folds.{list_any-append}
use Rattle.subscript_keys.specs.declared.span.Span.{Span}
use Rattle.plain_orders.specs.declared.entry.Entry.{Entry}
use Rattle.plain_orders.specs.Entries.{closes, live}
use Rattle.plain_orders.specs.Fold.{fold}
use Rattle.plain_orders.specs.Spans.{entry_spans}
use Rattle.plain_runs.proofs.Lists.{any_wider}
use Rattle.lock_table.specs.declared.rows.Request.{Request}
use Rattle.lock_table.specs.LockWords.{is_other_ticket, is_ticket}
use Rattle.ecp_messages.specs.declared.down.Down.{Down}
use Rattle.ecp_messages.specs.declared.up.Up.{Up}
use Rattle.ecp_messages.specs.declared.up.Up.TheVariants as up
use Rattle.ecp_messages.specs.declared.up.UpFrame.{UpFrame}
use Rattle.end_words.specs.Windows.{Window, fresh, sent}
use Rattle.data_rules.specs.DataState.{DataState}
use Rattle.data_rules.specs.declared.data_in.DataIn.{DataIn}
use Rattle.data_rules.specs.declared.data_in.DataIn.TheVariants as data_in
use Rattle.data_rules.specs.declared.data_outs.DataOuts.{DataOuts}
use Rattle.data_rules.specs.declared.rows.Role.TheVariants.{Bound}
use Rattle.data_rules.specs.Conns.{role_of}
use Rattle.data_rules.specs.Puts.{Sofar, begun, window_in, window_of}
use Rattle.data_rules.specs.Step.{DataMay, DataStep, made}
use Rattle.cluster_runs.specs.Lanes.{downs_given, drops_until, is_closed_by, notes_of}
use Rattle.cluster_runs.specs.Sent.{Lane, downs_taken, ups_taken}
use Rattle.cluster_runs.specs.Machine.{Site}
use Rattle.cluster_runs.specs.WireDrops.{Notes, drops_of, is_met, with_entry}
use Rattle.cluster_invariant.specs.Asks.{AllFollow, LaneAsks, NodeAsks, RequestIs, asks_for, asks_it, asks_ticket, cancels_ticket, grants_ticket}
use Rattle.cluster_invariant.specs.Dials.{RoleIs}
use Rattle.cluster_invariant.specs.Link.{LaneCounts, NodeWindows, is_window_of}
use Rattle.cluster_invariant.proofs.AllLists.{all_follow}
use Rattle.cluster_invariant.proofs.PieceMay.{Asked, Coming, TakesMay, begins}
use Rattle.cluster_invariant.proofs.Pieces.{kept_by_pieces}
use Rattle.cluster_invariant.proofs.PiecesOfSteps.{StepFrom, step_pieces, synced_state}
use Rattle.cluster_invariant.proofs.Small.{of_some}
use Rattle.data_puts.proofs.AwaitsGo.{take_more}
use Rattle.data_puts.proofs.EndsAfter.{InputKnown}
use Rattle.link_kept.proofs.FramesFit.{FrameAt, begins_old}
use Rattle.link_kept.proofs.ServesServer.{live_within}
use Rattle.link_kept.proofs.WindowLists.{none_there}
use Rattle.asks_kept.proofs.AsksFit.{asked_next, next_follows}
use Rattle.asks_kept.proofs.AsksGo.{AsksIn, RequestGo, asks_fewer, none_fewer}
use Rattle.asks_kept.proofs.AsksPieces.{NewAsk, asks_piece}
use Rattle.asks_kept.proofs.CountsGo.{TookOne, after_upper, after_wider, lane_after}
use Rattle.asks_kept.proofs.FewerGrants.{FewerGrants, any_dropped, fewer_same, fewer_taken, fewer_then, granted_in, replied_in}
use Rattle.asks_kept.proofs.Follows.{any_either, none_found, none_joined}
use Rattle.asks_kept.proofs.FreshEnds.{ask_counts, cancel_gone}
use Rattle.asks_kept.proofs.GrantKinds.{all_granted, all_replied, asks_itself, cancel_asked, gives_up, grants_asked, replies_asked}
use Rattle.asks_kept.proofs.Tickets.{IsApart}
use Rattle.asks_kept.proofs.UpKinds.{all_before, any_for, any_job, any_ticket}

-- what was put to a session that the step closed grants nothing
drops_grant : (k : ℕ) (before with_it : List Entry) (synced s : ℕ) (xs : List Span) → list_any (grants_ticket k) (drops_of before with_it synced s xs) ≡ false
drops_grant k before with_it synced s [] = refl
drops_grant k before with_it synced s (x ∷ xs) = drops_grant k before with_it synced s xs

until_grant : (k s : ℕ) (t : Notes) (es : List Entry) → list_any (grants_ticket k) (drops_until s t es) ≡ false
until_grant k s t [] = refl
until_grant k s t (e ∷ es) = go (closes s e) (until_grant k s (record (with_entry t s e) { due = [] }) es)
  where
    go : (b : Bool) → list_any (grants_ticket k) (drops_until s (record (with_entry t s e) { due = [] }) es) ≡ false
        → list_any (grants_ticket k) (if b then [] else (with_entry t s e).due ++ drops_until s (record (with_entry t s e) { due = [] }) es) ≡ false
    go true more = refl
    go false more =
        none_joined (grants_ticket k) (with_entry t s e).due (drops_until s (record (with_entry t s e) { due = [] }) es)
        (drops_grant k t.order (t.order ++ e ∷ []) t.synced s (filter (is_met (entry_spans (fold t.order) e)) t.noted)) more

-- a Grant that a step put to a session is in its window
given_granted : (old new : DataState) (s k : ℕ) → list_any (grants_ticket k) (downs_given (is_closed_by old new s) old new s) ≡ true → granted_in new.windows s k ≡ true
given_granted old new s k is = go (is_closed_by old new s) is
  where
    go : (b : Bool) → list_any (grants_ticket k) (downs_given b old new s) ≡ true → granted_in new.windows s k ≡ true
    go true found = absurd (true≢false (sym found ∙ until_grant k s (notes_of old s) (drop (length old.order) new.order)))
    go false found = any_dropped (grants_ticket k) (sent (window_of old s) - (window_of new s).acked) (window_of new s).waiting found

module _ (x : Site) (dead : ℕ → Bool) (t : Coming) (at_frame : FrameAt x dead t.old t.input) (windows : NodeWindows x t.old)
    (counts : (s k : ℕ) → LaneCounts (x.lane_at s k)) (to_open : (s : ℕ) → length t.old.order < s → (x.lane_at s x.past).up ≡ [])
    (known : InputKnown (λ s. x.lane_at s x.past) t.old t.now t.input) (new : DataState) (outs : DataOuts) (from : StepFrom t.old) (may : DataMay t.old t.input)
    (steps : DataStep t.old t.now t.input outs new) (lanes : (s k : ℕ) → LaneAsks (x.lane_at s k)) (node : NodeAsks (λ s. x.lane_at s x.past) t.old) where
  abbrev lane_of : ℕ → Lane
  lane_of s = x.lane_at s x.past

  abbrev after : ℕ → Lane
  after s = lane_after x dead t at_frame windows counts to_open known new outs.frames outs from may steps s

  -- what is taken of each session in the end
  abbrev ups : ℕ → List Up
  ups s = ups_taken (after s)

  wider : (s : ℕ) (p : Up → Bool) → list_any p (ups_taken (x.lane_at s x.past)) ≡ true → list_any p (ups s) ≡ true
  wider s p is = after_wider x dead t at_frame windows counts to_open known new outs.frames outs from may steps s p is

  -- as the step begins

  -- a Grant in a window was put
  window_lane : (s k : ℕ) → granted_in t.old.windows s k ≡ true → list_any (grants_ticket k) (x.lane_at s x.past).down ≡ true
  window_lane s k is = go (live t.old.order s) refl
    where
      none : (b : Bool) → list_any (is_window_of s) t.old.windows ≡ b → live t.old.order s ≡ false → window_in t.old.windows s ≡ fresh
      none true there gone = absurd (true≢false (sym (windows.lives s there) ∙ gone))
      none false there gone = none_there t.old.windows s there

      go : (b : Bool) → live t.old.order s ≡ b → list_any (grants_ticket k) (x.lane_at s x.past).down ≡ true
      go true lives =
          any_dropped (grants_ticket k) (window_of t.old s).acked (x.lane_at s x.past).down (sym (ap (list_any (grants_ticket k)) (windows.each s lives).waiting) ∙ is)
      go false gone =
          absurd (false≢true (sym (ap (λ (w : Window Down). list_any (grants_ticket k) w.waiting) (none (list_any (is_window_of s) t.old.windows) refl gone)) ∙ is))

  lane_asked : (s k : ℕ) → list_any (grants_ticket k) (x.lane_at s x.past).down ≡ true → list_any (asks_ticket k) (ups_taken (x.lane_at s x.past)) ≡ true
  lane_asked s k is = grants_asked (ups_taken (x.lane_at s x.past)) (x.lane_at s x.past).down (lanes s x.past).grants k is

  reply_asked : (s k : ℕ) → replied_in t.old.replies s k ≡ true → list_any (asks_ticket k) (ups_taken (x.lane_at s x.past)) ≡ true
  reply_asked s k is = replies_asked (λ s. x.lane_at s x.past) t.old.replies node.replies s k is

  old_asks : AsksIn lane_of ups t.old
  old_asks = record {
    one_each = node.one_each;
    requests =
        all_follow (λ (r : Request). RequestIs (lane_of r.who.session) t.old r) (RequestGo lane_of ups t.old.windows t.old.replies)
        (λ r is. record {
          asked = wider r.who.session (asks_it r) is.asked;
          wanted = is.wanted;
          before = is.ungranted;
          waiting =
              none_fewer (granted_in t.old.windows r.who.session r.ticket) (list_any (grants_ticket r.ticket) (x.lane_at r.who.session x.past).down)
              (window_lane r.who.session r.ticket) is.ungranted;
          unanswered = is.unanswered;
        }) t.old.locks.requests node.requests;
    windows = λ s k is. wider s (asks_ticket k) (lane_asked s k (window_lane s k is));
    replies = λ s k is. wider s (asks_ticket k) (reply_asked s k is);
  }

  fewer_begins : FewerGrants t.old (begins t).state
  fewer_begins = go t.input
    where
      go : (i : DataIn) → FewerGrants t.old (begins (record { old = t.old; now = t.now; input = i })).state
      go (data_in.Frame conn f) = fewer_same t.old t.old refl refl refl
      go (data_in.Connected conn) = fewer_same t.old t.old refl refl refl
      go (data_in.Broken conn) = fewer_same t.old t.old refl refl refl
      go data_in.Tick = fewer_same t.old t.old refl refl refl
      go (data_in.Saved upto) =
          fewer_same t.old _ (ap (λ (d : DataState). d.locks) (synced_state upto (begun t.old))) (ap (λ (d : DataState). d.windows) (synced_state upto (begun t.old)))
          (ap (λ (d : DataState). d.replies) (synced_state upto (begun t.old)))

  -- an Ask that comes

  -- it is counted in the end
  counted : (s conn ticket job : ℕ) (mode : _) (key : List ℕ) (f : UpFrame) → TakesMay t conn s f (begins t) → f.message ≡ up.Ask ticket job mode key
      → (after s).up_taken ≡ (x.lane_at s x.past).up_taken + 1
  counted s conn ticket job mode key f takes says = go t.input takes.on.came refl
    where
      lives : live t.old.order s ≡ true
      lives =
          (of_some (RoleIs x t.old conn) (role_of t.old conn) (Bound s)
          (sym (ap (λ (d : DataState). role_of d conn) (begins_old t conn f takes.on.came)) ∙ takes.on.bound) (at_frame.dials.roles conn)).lives

      finish : (live new.order s ≡ true) × ((window_of new s).taken ≡ (window_of t.old s).taken + 1) → (after s).up_taken ≡ (x.lane_at s x.past).up_taken + 1
      finish both =
          ap (λ (b : Bool). if b then (window_of new s).taken else (x.lane_at s x.past).up_taken) both.0 ∙ both.1 ∙ ap (λ (n : ℕ). n + 1) (windows.each s lives).taken

      go : (i : DataIn) → i ≡ data_in.Frame conn f → t.input ≡ i → (after s).up_taken ≡ (x.lane_at s x.past).up_taken + 1
      go i came its =
          finish (ask_counts t.old t.now conn f (made new outs) from (subst (λ (j : DataIn). DataStep t.old t.now j outs new) (its ∙ came) steps) s
          (subst (λ (j : DataIn). TakesMay (record { old = t.old; now = t.now; input = j }) conn s f (begins (record { old = t.old; now = t.now; input = j }))) (its ∙ came) takes)
          ticket job mode key says lives (live_within t.old.order from.ordered s lives))

  module _ (r : Request) (b : Sofar) (asked : Asked t r.who.session (up.Ask r.ticket r.who.job r.mode r.name) b) where
    abbrev lane : Lane
    lane = x.lane_at r.who.session x.past

    next : (rest : List Up) × (drop lane.up_taken lane.up ≡ up.Ask r.ticket r.who.job r.mode r.name ∷ rest)
    next = asked_next x dead t at_frame lanes node r.who.session (up.Ask r.ticket r.who.job r.mode r.name) b asked

    -- those that were taken have lesser tickets
    less : (k : ℕ) → list_any (asks_ticket k) (ups_taken lane) ≡ true → k < r.ticket
    less k is =
        let at : (j : ℕ) × (list_any (asks_for k j) (ups_taken lane) ≡ true) = any_job k (ups_taken lane) is in
        (all_before (ups_taken lane) (downs_taken lane) r.ticket r.who.job (ups_taken lane)
        (next_follows lane (up.Ask r.ticket r.who.job r.mode r.name) next.0 (lanes r.who.session x.past) next.1) k at.0 at.1).0

    -- so none of them is it
    none_asked : (c : Bool) → (c ≡ true → list_any (asks_ticket r.ticket) (ups_taken lane) ≡ true) → c ≡ false
    none_asked true its = absurd (let low : r.ticket < r.ticket = less r.ticket (its refl) in omega (arith, low))
    none_asked false its = refl

    more : ups r.who.session ≡ ups_taken lane ++ up.Ask r.ticket r.who.job r.mode r.name ∷ []
    more =
        ap (λ (n : ℕ). take n lane.up)
        (counted r.who.session asked.its.conn r.ticket r.who.job r.mode r.name asked.its.up asked.first asked.says)
        ∙ take_more lane.up_taken lane.up (up.Ask r.ticket r.who.job r.mode r.name) next.0 next.1

    or_last : (a c : Bool) → c ≡ true → (a || (c || false)) ≡ true
    or_last true c is = refl
    or_last false c is = ap (λ (z : Bool). z || false) is

    -- nothing was granted since
    fewer_asked : FewerGrants t.old b.state
    fewer_asked =
        subst (λ (c : Sofar). FewerGrants t.old c.state) (sym asked.just)
        (fewer_then t.old (begins t).state _ fewer_begins (fewer_taken (begins t).state r.who.session asked.its.up.ack))

    new_ask : NewAsk lane_of ups b.state r
    new_ask = record {
      its = record {
        asked =
            ap (list_any (asks_it r)) more ∙ list_any-append (asks_it r) (ups_taken lane) (up.Ask r.ticket r.who.job r.mode r.name ∷ [])
            ∙ or_last (list_any (asks_it r) (ups_taken lane)) (asks_it r (up.Ask r.ticket r.who.job r.mode r.name)) (asks_itself r);
        wanted =
            none_asked (list_any (cancels_ticket r.ticket) (ups_taken lane))
            (λ is. cancel_asked [] (downs_taken lane) lane.up_taken lane.up (lanes r.who.session x.past).follow r.ticket is);
        before = none_asked (list_any (grants_ticket r.ticket) lane.down) (lane_asked r.who.session r.ticket);
        waiting =
            none_asked (granted_in b.state.windows r.who.session r.ticket)
            (λ is. lane_asked r.who.session r.ticket (window_lane r.who.session r.ticket (fewer_asked.windows r.who.session r.ticket is)));
        unanswered =
            none_asked (replied_in b.state.replies r.who.session r.ticket) (λ is. reply_asked r.who.session r.ticket (fewer_asked.replies r.who.session r.ticket is));
      };
      apart =
          subst (λ (l : _). IsApart l.requests r) (sym fewer_asked.locks)
          (none_found (λ (q : Request). RequestIs (lane_of q.who.session) t.old q) (is_ticket r.who.session r.ticket) other t.old.locks.requests node.requests);
    }
      where
        other : (q : Request) → is_ticket r.who.session r.ticket q ≡ true → RequestIs (lane_of q.who.session) t.old q → ⊥
        other q same is =
            let parts : ((q.who.session == r.who.session) ≡ true) × ((q.ticket == r.ticket) ≡ true) = and_parts (q.who.session == r.who.session) (q.ticket == r.ticket) same in
            let at : RequestIs lane t.old q = subst (λ (s : ℕ). RequestIs (lane_of s) t.old q) (eqb-true q.who.session r.who.session parts.0) is in
            let low : q.ticket < r.ticket = less q.ticket (any_ticket q.ticket q.who.job (ups_taken lane) (any_for q (ups_taken lane) at.asked)) in
            absurd (omega (arith, low, eqb-true q.ticket r.ticket parts.1))

  -- in the end

  went : AsksIn lane_of ups new
  went =
      kept_by_pieces t (λ b. AsksIn lane_of ups b.state) (λ p b m h. asks_piece lane_of ups t p b m (λ r a. new_ask r b a) h) (begins t) (made new outs)
      (step_pieces t.old t.now t.input outs new from may steps) (asks_fewer lane_of ups t.old (begins t).state fewer_begins old_asks)

  -- the message that was taken gives up none of those that wait
  abbrev TookHere : ℕ → Type 0
  TookHere s = TookOne x dead t at_frame windows counts to_open known s (after s).up_taken

  gone : (s k : ℕ) (o : TookHere s) → o.f.message ≡ up.Cancel k → AllByRecursion (λ (q : Request). is_other_ticket s k q ≡ true) new.locks.requests
  gone s k o says = go t.input o.may.on.came refl
    where
      go : (i : DataIn) → i ≡ data_in.Frame o.conn o.f → t.input ≡ i → AllByRecursion (λ (q : Request). is_other_ticket s k q ≡ true) new.locks.requests
      go i came its =
          cancel_gone t.old t.now o.conn o.f (made new outs) from (subst (λ (j : DataIn). DataStep t.old t.now j outs new) (its ∙ came) steps) s
          (subst (λ (j : DataIn). TakesMay (record { old = t.old; now = t.now; input = j }) o.conn s o.f (begins (record { old = t.old; now = t.now; input = j }))) (its ∙ came) o.may)
          k says

  none_less : (p : Up → Bool) (n k : ℕ) (us : List Up) → n ≤ k → list_any p (take k us) ≡ false → list_any p (take n us) ≡ false
  none_less p n k us low none = none_fewer (list_any p (take n us)) (list_any p (take k us)) (any_wider p n k us low) none

  -- it isn't among these, so it is none that waits
  wanted_of : (r : Request) → RequestGo lane_of ups new.windows new.replies r
      → ((o : TookHere r.who.session) → o.f.message ≡ up.Cancel r.ticket → is_other_ticket r.who.session r.ticket r ≡ true)
      → list_any (cancels_ticket r.ticket) (ups r.who.session) ≡ false
  wanted_of r go other = by (after_upper x dead t at_frame windows counts to_open known new outs.frames outs from may steps r.who.session)
    where
      lane : Lane
      lane = x.lane_at r.who.session x.past

      itself : is_other_ticket r.who.session r.ticket r ≡ false
      itself =
          ap (λ (z : Bool). not (z && (r.ticket == r.ticket))) (eq-eqb r.who.session r.who.session refl) ∙ ap not (eq-eqb r.ticket r.ticket refl)

      last : (o : TookHere r.who.session) (c : Bool) → cancels_ticket r.ticket o.f.message ≡ c → cancels_ticket r.ticket o.f.message ≡ false
      last o true is = absurd (true≢false (sym (other o (gives_up r.ticket o.f.message is)) ∙ itself))
      last o false is = is

      by : ((after r.who.session).up_taken ≤ lane.up_taken) ⊎ TookHere r.who.session → list_any (cancels_ticket r.ticket) (ups r.who.session) ≡ false
      by (inl low) = none_less (cancels_ticket r.ticket) (after r.who.session).up_taken lane.up_taken lane.up low go.wanted
      by (inr o) =
          ap (list_any (cancels_ticket r.ticket)) (ap (λ (n : ℕ). take n lane.up) o.more ∙ take_more lane.up_taken lane.up o.f.message o.rest o.next)
          ∙ none_joined (cancels_ticket r.ticket) (ups_taken lane) (o.f.message ∷ []) go.wanted
          (ap (λ (z : Bool). z || false) (last o (cancels_ticket r.ticket o.f.message) refl))

  requests_after : (rs : List Request) → AllByRecursion (RequestGo lane_of ups new.windows new.replies) rs
      → ((s k : ℕ) (o : TookHere s) → o.f.message ≡ up.Cancel k → AllByRecursion (λ (q : Request). is_other_ticket s k q ≡ true) rs)
      → AllByRecursion (λ (r : Request). RequestIs (after r.who.session) new r) rs
  requests_after [] all others = tt
  requests_after (r ∷ rs) all others = (
    record {
      asked = all.0.asked;
      wanted = wanted_of r all.0 (λ o says. (others r.who.session r.ticket o says).0);
      ungranted =
          none_joined (grants_ticket r.ticket) (x.lane_at r.who.session x.past).down (downs_given (is_closed_by t.old new r.who.session) t.old new r.who.session) all.0.before
          (none_fewer (list_any (grants_ticket r.ticket) (downs_given (is_closed_by t.old new r.who.session) t.old new r.who.session))
          (granted_in new.windows r.who.session r.ticket) (given_granted t.old new r.who.session r.ticket) all.0.waiting);
      unanswered = all.0.unanswered;
    },
    requests_after rs all.1 (λ s k o says. (others s k o says).1),
  )

  -- At the node.
  pub node_after : NodeAsks (λ s. after s) new
  node_after = record {
    one_each = went.one_each;
    requests = requests_after new.locks.requests went.requests gone;
    replies = all_replied (λ s. after s) new.replies went.replies;
  }

  -- as much was taken of what was put downwards
  pub same_downs : (s : ℕ) → downs_taken (after s) ≡ downs_taken (x.lane_at s x.past)
  same_downs s = take-append-le (x.lane_at s x.past).down_taken (x.lane_at s x.past).down _ (counts s x.past).down_taken

  -- In the lanes.
  pub lanes_after : (s : ℕ) → LaneAsks (after s)
  lanes_after s = record {
    follow = subst (λ (ds : List Down). AllFollow [] ds (x.lane_at s x.past).up) (sym (same_downs s)) (lanes s x.past).follow;
    grants = all_granted (ups s) (after s).down (λ k is. granted k (any_either (grants_ticket k) (x.lane_at s x.past).down (downs_given (is_closed_by t.old new s) t.old new s) is));
  }
    where
      granted : (k : ℕ) → (list_any (grants_ticket k) (x.lane_at s x.past).down ≡ true)
          ⊎ (list_any (grants_ticket k) (downs_given (is_closed_by t.old new s) t.old new s) ≡ true) → list_any (asks_ticket k) (ups s) ≡ true
      granted k (inl was) = wider s (asks_ticket k) (lane_asked s k was)
      granted k (inr now) = went.windows s k (given_granted t.old new s k now)
