-- What goes along of a node's ends is kept by each small change of a step.
use Rattle.std.proofs.Common.{◌≡◌, ◌<◌, ℕ, ◌+◌, true, false, List, [], ◌∷◌, ◌++◌, map, length, drop, Option, Some, None, is_some, refl, sym, ◌∙◌, ap, subst}
use Rattle.std.specs.List.{AllByRecursion, find, list_any}
use Rattle.cluster_invariant.proofs.AllLists.{all_joined}
use Rattle.std.proofs.lemmas.Bool.{false≢true, true≢false}
use Rattle.plain_orders.specs.declared.act.Act.{Act}
use Rattle.plain_orders.specs.declared.causes.ShutCause.{ShutCause}
use Rattle.plain_orders.specs.declared.causes.ShutCause.TheVariants as causes
use Rattle.plain_orders.specs.declared.entry.Entry.TheVariants.{Opened}
use Rattle.plain_orders.specs.declared.layout.Layout.{Layout}
use Rattle.plain_orders.specs.declared.layout.Times.{Times}
use Rattle.plain_orders.specs.Entries.{live_session}
use Rattle.plain_orders.proofs.LiveSessions.{ordered_one_live}
use Rattle.plain_runs.specs.Plain.{Plain}
use Rattle.link_states.specs.declared.data_link.DataLink.{DataLink}
use Rattle.link_states.specs.declared.data_link.DataLink.TheVariants.{Free, Normal, Trouble, Recovering}
use Rattle.link_states.specs.declared.link_event.LinkEvent.TheVariants as event
use Rattle.link_states.specs.Tables.{data_next}
use Rattle.ecp_messages.specs.declared.down.Down.TheVariants as down
use Rattle.ecp_messages.specs.declared.up.UpFrame.{UpFrame}
use Rattle.recovery_round.specs.RoundWords.{Round}
use Rattle.data_rules.specs.DataState.{DataState}
use Rattle.data_rules.specs.declared.limits.TheConstants.{APP_LIMIT}
use Rattle.data_rules.specs.declared.rows.Caller.{Caller}
use Rattle.data_rules.specs.declared.rows.Conn.{Conn}
use Rattle.data_rules.specs.declared.rows.Role.TheVariants.{Bound, Closing, New, Waiting}
use Rattle.data_rules.specs.Callers.{resumed, waiting_conn, with_caller}
use Rattle.data_rules.specs.Conns.{drops_conn, end_breaks, is_conn, link_of, with_conn, with_event, with_role, with_role_if, without_conn}
use Rattle.data_rules.specs.Opening.{all_apps, is_round_over, live_ends}
use Rattle.data_rules.specs.Puts.{Sofar, becomes, conn_of, head_of, puts}
use Rattle.cluster_invariant.specs.Ends.{is_done}
use Rattle.cluster_invariant.specs.Words.{is_same}
use Rattle.cluster_invariant.proofs.ConnRoles.{dropped, dropped_conns, dropped_order, dropped_round, new_stays}
use Rattle.cluster_invariant.proofs.PieceKinds.{Piece, Accepts, Forgets, Breaks, Dials, Waits, Opens, OpensNext, Resumes, GoesOn, ComesAgain, AwaitsReset, Closes, Acknowledges, Takes, TakesDone, Enters, Fetches, PutsNormal, PutsAck, Replies, Leaves, Bares, Locks, RoundEnds, Ticks, calls, event_of, makes, next_caller, round_over, with_replies}
use Rattle.cluster_invariant.proofs.PieceMay.{ClosesBy, Coming, HelloMay, OpensNextMay, ResumesMay, TakesDoneMay}
use Rattle.cluster_invariant.proofs.Pieces.{MayMake}
use Rattle.cluster_invariant.proofs.PiecesOfRounds.{back_written, ends_aside}
use Rattle.cluster_invariant.proofs.PutLaws.{only_leaves, only_puts}
use Rattle.data_pieces.proofs.CallersGo.{CallersOf, callers_conn, callers_role}
use Rattle.data_pieces.proofs.CallerPieces.{callers_dropped, callers_next, callers_wait, dropped_callers, waiting_role}
use Rattle.data_pieces.proofs.ConnLists.{for_bound, role_at}
use Rattle.data_pieces.proofs.ConnPieces.{links_accepts, links_closing, links_conns, links_resumes, links_waits}
use Rattle.data_pieces.proofs.EndsGo.{grown_same, whence_dropped, EndsGo, callers_as, callers_none, dropped_none, dropped_waiting, links_unawaited, open_still}
use Rattle.data_pieces.proofs.EndsPieces.{ConnsHold, back_callers, breaks_go, closes_go, enters_go, forgets_go, going_cut, going_quiet, had_conn, opens_go, some_role}
use Rattle.data_pieces.proofs.EntryPieces.{item_is}
use Rattle.data_pieces.proofs.LinksGo.{LinksGo}
use Rattle.data_pieces.proofs.PlainView.{view}
use Rattle.data_pieces.proofs.QuietPieces.{Quiet, quiet_calls, quiet_goes_on, quiet_more, quiet_state, quiet_windows}
use Rattle.data_pieces.proofs.RoundOn.{ends_round, on_beside, on_in_round}
use Rattle.data_pieces.proofs.RoundPieces.{links_round, links_ticks}

-- what a connection that is dropped leaves

dropped_acts : (o : Option ℕ) (b : Sofar) → (drops_conn o b).outs.acts ≡ b.outs.acts
dropped_acts None b = refl
dropped_acts (Some w) b = refl

dropped_synced : (o : Option ℕ) (b : Sofar) → (drops_conn o b).state.synced ≡ b.state.synced
dropped_synced None b = refl
dropped_synced (Some w) b = refl

-- a session that is replaced leaves its end free
replaced_free : (times : Times) (now : ℕ) (x : DataLink) → data_next times now x event.Replaced ≡ Free
replaced_free times now Free = refl
replaced_free times now Normal = refl
replaced_free times now (Trouble broke) = refl
replaced_free times now (Recovering due) = refl

no_round : (o : Option Round) → is_some o ≡ false → o ≡ None
no_round None is = refl
no_round (Some r) is = absurd (true≢false is)

some_round : (n : DataState) (o : Option Round) → is_round_over n o ≡ true → is_some o ≡ true
some_round n None over = absurd (false≢true over)
some_round n (Some r) over = refl

module _ (l : Layout) (p : Plain) (d k : ℕ) (t : Coming) (W : Caller → Type 0) (hold : ConnsHold t.old) (all : (app : ℕ) → app < APP_LIMIT → list_any (is_same app) all_apps ≡ true)
    (greets : (app conn : ℕ) (b : Sofar) → HelloMay t app conn true b → W (record { conn = conn; app = app })) where
  abbrev Goes : Sofar → Type 0
  Goes b = EndsGo t W d (view l p d k b.outs.acts) b.state

  -- what leaves all of it
  quiet_go : (b c : Sofar) → Quiet b c → Goes b → Goes c
  quiet_go b c q h = going_quiet l p d k t W hold b c q h

  waits_go : (app conn : ℕ) (b : Sofar) (o : Option ℕ) → waiting_conn b.state app ≡ o → HelloMay t app conn true b → Goes b → Goes (becomes (with_caller app conn) (drops_conn o b))
  waits_go app conn b o its may h = record {
    links = subst (λ (xs : List Act). LinksGo d (view l p d k xs) (with_caller app conn (drops_conn o b).state)) (sym (dropped_acts o b))
        (links_waits d (view l p d k b.outs.acts) app conn b o (λ w is. waiting_role app w b.state.conns b.state.order b.state.callers h.callers.each (its ∙ is)) may.is_new h.links);
    callers =
        callers_as (with_caller app conn (drops_conn o b).state) (map (with_role_if conn Waiting) (dropped o b.state.conns)) b.state.order
        (dropped_callers o b.state.callers ++ record { conn = conn; app = app } ∷ []) (ap (λ (cs : List Conn). map (with_role_if conn Waiting) cs) (dropped_conns o b)) (dropped_order o b)
        (ap (λ (ws : List Caller). ws ++ record { conn = conn; app = app } ∷ []) (dropped_waiting o b))
        (subst (λ (q : Option ℕ). CallersOf (map (with_role_if conn Waiting) (dropped q b.state.conns)) b.state.order (dropped_callers q b.state.callers ++ record { conn = conn; app = app } ∷ [])) its
        (callers_wait app conn b.state.conns b.state.order b.state.callers may.is_new may.free h.callers));
    on = λ still. on_in_round b.state (with_caller app conn (drops_conn o b).state) (dropped_synced o b) (dropped_order o b) (dropped_round o b) may.round (h.on still);
    grown = grown_same t.old.order b.state.order (with_caller app conn (drops_conn o b).state).order (dropped_order o b) h.grown;
    whence =
        subst (AllByRecursion W) (sym (ap (λ (ws : List Caller). ws ++ record { conn = conn; app = app } ∷ []) (dropped_waiting o b)))
        (all_joined W (dropped_callers o b.state.callers) (record { conn = conn; app = app } ∷ []) (whence_dropped W o b.state.callers h.whence) (greets app conn b may, tt));
  }

  hello_go : (app conn : ℕ) (b : Sofar) → HelloMay t app conn false b → Goes b → Goes (makes t.now (Opens app conn) b)
  hello_go app conn b may h =
      opens_go l p d k t W hold app conn New b may.free none may.is_new (λ s same. absurd cc) h.links
      (callers_none (map (with_role_if conn (Bound s)) b.state.conns) b.state.order (b.state.order ++ Opened s app ∷ []) b.state.callers nobody
      (callers_role conn (Bound s) b.state.conns b.state.order b.state.callers (λ waits. (let both : Some New ≡ Some Waiting = sym may.is_new ∙ waits in cc)) (λ same. absurd cc)
      (some_role (find (is_conn conn) b.state.conns) New may.is_new) h.callers))
      (λ still. nobody) (λ still. (h.on still).within) h.grown h.whence
    where
      s : ℕ
      s = length b.state.order + 1

      none : b.state.round ≡ None
      none = no_round b.state.round may.round

      still : ends_round t.input ≡ false
      still = ap ends_round may.came.its ∙ ap is_done may.came.says

      nobody : b.state.callers ≡ []
      nobody = (h.on still).calls none

  next_go : (app conn : ℕ) (b : Sofar) → OpensNextMay app conn b → Goes b → Goes (makes t.now (OpensNext app conn) b)
  next_go app conn b may h =
      opens_go l p d k t W hold app conn Waiting (becomes next_caller b) first.each.0.1 may.over first.each.0.0 (λ s same. absurd cc)
      (links_conns d (view l p d k b.outs.acts) b.state (next_caller b.state) (record { server = refl; order = refl; links = refl; round = refl; differ = h.links.differ; stays = λ a s is. refl }) h.links)
      (subst (λ (ws : List Caller). CallersOf (map (with_role_if conn (Bound s)) b.state.conns) (b.state.order ++ Opened s app ∷ []) ws) (sym (ap (λ (ws : List Caller). drop 1 ws) may.next))
      (callers_next app conn s b.state.conns b.state.order (b.state.order ++ Opened s app ∷ []) may.behind (λ a differs none. open_still b.state.order s app a differs none) first))
      (λ still. ap (λ (ws : List Caller). drop 1 ws) ((h.on still).calls may.over)) (λ still. (h.on still).within) h.grown (subst (AllByRecursion W) (sym (ap (λ (ws : List Caller). drop 1 ws) may.next)) (rest_of may.behind (subst (AllByRecursion W) may.next h.whence)))
    where
      s : ℕ
      s = length b.state.order + 1

      rest_of : (ws : List Caller) → AllByRecursion W (record { conn = conn; app = app } ∷ ws) → AllByRecursion W ws
      rest_of ws both = both.1

      first : CallersOf b.state.conns b.state.order (record { conn = conn; app = app } ∷ may.behind)
      first = subst (λ (ws : List Caller). CallersOf b.state.conns b.state.order ws) may.next h.callers

  resumes_go : (app session conn : ℕ) (b : Sofar) → ResumesMay t app session conn b → Goes b → Goes (makes t.now (Resumes app session conn) b)
  resumes_go app session conn b may h = record {
    links = subst (λ (xs : List Act). LinksGo d (view l p d k xs) (resumed app session conn t.now (drops_conn (conn_of b.state session) b).state)) (sym (dropped_acts (conn_of b.state session) b))
        (links_resumes d (view l p d k b.outs.acts) app session conn t.now b may.is_new has h.links);
    callers =
        callers_as (resumed app session conn t.now (drops_conn (conn_of b.state session) b).state) (map (with_role_if conn (Bound session)) (dropped (conn_of b.state session) b.state.conns)) b.state.order
        (dropped_callers (conn_of b.state session) b.state.callers) (ap (λ (cs : List Conn). map (with_role_if conn (Bound session)) cs) (dropped_conns (conn_of b.state session) b))
        (dropped_order (conn_of b.state session) b) (dropped_waiting (conn_of b.state session) b)
        (callers_role conn (Bound session) (dropped (conn_of b.state session) b.state.conns) b.state.order (dropped_callers (conn_of b.state session) b.state.callers)
        (λ waits. (let both : Some New ≡ Some Waiting = sym new ∙ waits in cc)) (λ same. absurd cc) (some_role (find (is_conn conn) (dropped (conn_of b.state session) b.state.conns)) New new)
        (callers_dropped (conn_of b.state session) b.state.conns b.state.order b.state.callers h.callers));
    on = λ still.
        on_beside b.state (resumed app session conn t.now (drops_conn (conn_of b.state session) b).state) (dropped_synced (conn_of b.state session) b) (dropped_order (conn_of b.state session) b)
        (dropped_round (conn_of b.state session) b) (λ none. dropped_waiting (conn_of b.state session) b ∙ dropped_none (conn_of b.state session) b.state.callers none) (h.on still);
    grown = grown_same t.old.order b.state.order (resumed app session conn t.now (drops_conn (conn_of b.state session) b).state).order (dropped_order (conn_of b.state session) b) h.grown;
    whence = subst (AllByRecursion W) (sym (dropped_waiting (conn_of b.state session) b)) (whence_dropped W (conn_of b.state session) b.state.callers h.whence);
  }
    where
      has : live_session b.state.order app ≡ Some session
      has = (ordered_one_live b.state.order h.links.ordered).is_one app session may.is_live may.came.its

      new : role_at conn (dropped (conn_of b.state session) b.state.conns) ≡ Some New
      new = new_stays b.state session conn h.links.differ may.is_new

  closing_go : (session conn : ℕ) (b : Sofar) → role_at conn b.state.conns ≡ Some New → Goes b → Goes (becomes (with_role conn (Closing session)) b)
  closing_go session conn b new h = record {
    links = links_closing d (view l p d k b.outs.acts) b.state conn session new h.links;
    callers =
        callers_role conn (Closing session) b.state.conns b.state.order b.state.callers (λ waits. (let both : Some New ≡ Some Waiting = sym new ∙ waits in cc)) (λ same. absurd cc)
        (some_role (find (is_conn conn) b.state.conns) New new) h.callers;
    on = λ still. on_beside b.state (with_role conn (Closing session) b.state) refl refl refl (λ none. none) (h.on still);
    grown = h.grown;
    whence = h.whence;
  }

  free_by : (session app : ℕ) (cause : ShutCause) (b : Sofar) → ClosesBy t session app cause b → data_next b.state.times t.now (link_of b.state app) (event_of cause) ≡ Free
  free_by session app (causes.Trouble time) b why = why.free
  free_by session app causes.Replaced b why = replaced_free b.state.times t.now (link_of b.state app)
  free_by session app (causes.Round time) b why = why.free

  done_go : (conn session : ℕ) (up : UpFrame) (b : Sofar) → TakesDoneMay t conn session up b → Goes b → Goes (makes t.now (TakesDone conn session up) b)
  done_go conn session up b may h = record {
    links = links_unawaited d (view l p d k b.outs.acts) b.state (makes t.now (TakesDone conn session up) b).state session refl refl refl refl refl h.links;
    callers = h.callers;
    on = λ still. absurd (true≢false (sym (ap ends_round may.takes.on.came ∙ ap is_done may.done) ∙ still));
    grown = h.grown;
    whence = h.whence;
  }

  round_go : (b : Sofar) → is_round_over b.state b.state.round ≡ true → Goes b → Goes (round_over t.now b)
  round_go b over h = record {
    links = links_round l p d k t.now all_apps b (some_round b.state b.state.round over) all h.links;
    callers =
        callers_as (round_over t.now b).state b.state.conns b.state.order b.state.callers ((ends_aside (live_ends b.state.order) t.now).conns (back_written b)) ((ends_aside (live_ends b.state.order) t.now).order (back_written b))
        (back_callers (live_ends b.state.order) t.now (back_written b)) h.callers;
    on = λ still. absurd (true≢false (sym over ∙ (h.on still).over));
    grown = grown_same t.old.order b.state.order (round_over t.now b).state.order ((ends_aside (live_ends b.state.order) t.now).order (back_written b)) h.grown;
    whence = subst (AllByRecursion W) (sym (back_callers (live_ends b.state.order) t.now (back_written b))) h.whence;
  }

  -- Each of them.
  pub ends_piece : (q : Piece) (b : Sofar) → MayMake t q b → Goes b → Goes (makes t.now q b)
  ends_piece (Accepts conn) b may h = record {
    links = links_accepts d (view l p d k b.outs.acts) b.state conn may.unknown h.links;
    callers = callers_conn conn b.state.conns b.state.order b.state.callers h.callers;
    on = λ still. on_beside b.state (with_conn conn b.state) refl refl refl (λ none. none) (h.on still);
    grown = h.grown;
    whence = h.whence;
  }
  ends_piece (Forgets ending conn) b may h = going_cut l p d k t W hold ending conn (becomes (without_conn conn) b) (forgets_go l p d k t W hold conn b may.unbound h)
  ends_piece (Breaks ending conn session app) b may h =
      going_cut l p d k t W hold ending conn (end_breaks (Some app) t.now (becomes (without_conn conn) b))
      (breaks_go l p d k t W hold conn session app b (had_conn l p d k t W hold conn session app b may.first may.bound may.opened h) h)
  ends_piece (Dials app dial) b may h = quiet_go b (makes t.now (Dials app dial) b) (quiet_state b (makes t.now (Dials app dial) b) (record { server = refl; order = refl; synced = refl; links = refl; conns = refl; callers = refl; round = refl }) refl) h
  ends_piece (Waits app conn) b may h = waits_go app conn b (waiting_conn b.state app) refl may h
  ends_piece (Opens app conn) b may h = hello_go app conn b may h
  ends_piece (OpensNext app conn) b may h = next_go app conn b may h
  ends_piece (Resumes app session conn) b may h = resumes_go app session conn b may h
  ends_piece (GoesOn session conn taken) b may h = quiet_go b (makes t.now (GoesOn session conn taken) b) (quiet_goes_on session conn taken b) h
  ends_piece (ComesAgain session conn kept) b may h =
      quiet_go b (makes t.now (ComesAgain session conn kept) b) (quiet_state b (makes t.now (ComesAgain session conn kept) b) (record { server = refl; order = refl; synced = refl; links = refl; conns = refl; callers = refl; round = refl }) refl) h
  ends_piece (AwaitsReset session conn at) b may h =
      quiet_go (becomes (with_role conn (Closing session)) b) (makes t.now (AwaitsReset session conn at) b)
      (quiet_state (becomes (with_role conn (Closing session)) b) (makes t.now (AwaitsReset session conn at) b) (record { server = refl; order = refl; synced = refl; links = refl; conns = refl; callers = refl; round = refl }) refl) (closing_go session conn b may.is_new h)
  ends_piece (Closes session app cause) b may h = closes_go l p d k t W hold session app cause b may.has (free_by session app cause b may.why) h
  ends_piece (Acknowledges conn session up) b may h = quiet_go b (makes t.now (Acknowledges conn session up) b) (quiet_state b (makes t.now (Acknowledges conn session up) b) (record { server = refl; order = refl; synced = refl; links = refl; conns = refl; callers = refl; round = refl }) refl) h
  ends_piece (Takes conn session up) b may h = quiet_go b (makes t.now (Takes conn session up) b) (quiet_state b (makes t.now (Takes conn session up) b) (record { server = refl; order = refl; synced = refl; links = refl; conns = refl; callers = refl; round = refl }) refl) h
  ends_piece (TakesDone conn session up) b may h = done_go conn session up b may h
  ends_piece (Enters e) b may h =
      enters_go l p d k t W hold e may.session b (item_is may.session may.its.up.message e may.item) may.follows (for_bound may.its.conn may.session b.state.conns may.its.on.bound) h
  ends_piece (Fetches session run block) b may h =
      quiet_go b (makes t.now (Fetches session run block) b)
      (quiet_more b (puts session (down.Block (head_of b.state session) block) b) (makes t.now (Fetches session run block) b)
      (quiet_windows b (puts session (down.Block (head_of b.state session) block) b) (only_puts session (down.Block (head_of b.state session) block) b))
      (quiet_state (puts session (down.Block (head_of b.state session) block) b) (makes t.now (Fetches session run block) b) (record { server = refl; order = refl; synced = refl; links = refl; conns = refl; callers = refl; round = refl }) refl)) h
  ends_piece (PutsNormal app session) b may h = quiet_go b (makes t.now (PutsNormal app session) b) (quiet_windows b (makes t.now (PutsNormal app session) b) (only_puts session _ b)) h
  ends_piece (PutsAck session) b may h = quiet_go b (makes t.now (PutsAck session) b) (quiet_windows b (makes t.now (PutsAck session) b) (only_puts session _ b)) h
  ends_piece (Replies at says) b may h = quiet_go b (makes t.now (Replies at says) b) (quiet_state b (makes t.now (Replies at says) b) (record { server = refl; order = refl; synced = refl; links = refl; conns = refl; callers = refl; round = refl }) refl) h
  ends_piece (Leaves before r behind) b may h =
      quiet_go b (makes t.now (Leaves before r behind) b)
      (quiet_more b (becomes (with_replies (before ++ behind)) b) (makes t.now (Leaves before r behind) b) (quiet_state b (becomes (with_replies (before ++ behind)) b) (record { server = refl; order = refl; synced = refl; links = refl; conns = refl; callers = refl; round = refl }) refl)
      (quiet_windows (becomes (with_replies (before ++ behind)) b) (makes t.now (Leaves before r behind) b) (only_leaves r.says (becomes (with_replies (before ++ behind)) b)))) h
  ends_piece (Bares session conn) b may h = quiet_go b (makes t.now (Bares session conn) b) (quiet_state b (makes t.now (Bares session conn) b) (record { server = refl; order = refl; synced = refl; links = refl; conns = refl; callers = refl; round = refl }) refl) h
  ends_piece (Locks call) b may h = quiet_go b (calls call b) (quiet_calls call b) h
  ends_piece RoundEnds b may h = round_go b may h
  ends_piece (Ticks app session) b may h = record {
    links = links_ticks d (view l p d k b.outs.acts) b.state app t.now may.same h.links;
    callers = h.callers;
    on = λ still. on_beside b.state (with_event app t.now event.Ticked b.state) refl refl refl (λ none. none) (h.on still);
    grown = h.grown;
    whence = h.whence;
  }
