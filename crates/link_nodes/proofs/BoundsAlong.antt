-- The connections of sessions over each small change of a step.
use Rattle.std.proofs.Common.{◌≡◌, ◌≢◌, ◌≤◌, ◌⊎◌, inl, inr, ℕ, ◌+◌, Bool, true, false, List, [], ◌∷◌, ◌++◌, map, length, filter, Option, Some, None, refl, sym, ◌∙◌, ap, subst, arith}
use Rattle.std.proofs.lemmas.List.{length-append}
use Rattle.std.specs.List.{AllByRecursion}
use Rattle.plain_orders.specs.declared.causes.ShutCause.{ShutCause}
use Rattle.plain_orders.specs.declared.causes.ShutCause.TheVariants as causes
use Rattle.plain_orders.specs.declared.entry.Entry.{Entry}
use Rattle.plain_orders.specs.declared.entry.Entry.TheVariants.{Closed, Opened}
use Rattle.plain_orders.specs.declared.layout.Layout.{Layout}
use Rattle.plain_orders.specs.Entries.{last_epoch, live_session}
use Rattle.plain_orders.specs.Sessions.{app_in}
use Rattle.plain_orders.specs.Ordered.{IsOrdered}
use Rattle.plain_orders.proofs.LiveSessions.{ordered_one_live}
use Rattle.plain_runs.specs.Plain.{Plain}
use Rattle.link_states.specs.declared.link_event.LinkEvent.TheVariants as event
use Rattle.ecp_messages.specs.declared.down.Down.TheVariants as down
use Rattle.data_rules.specs.DataState.{DataState}
use Rattle.data_rules.specs.declared.rows.Caller.{Caller}
use Rattle.data_rules.specs.declared.rows.Conn.{Conn}
use Rattle.data_rules.specs.declared.rows.Role.TheVariants.{New, Waiting, Bound, Closing}
use Rattle.data_rules.specs.Callers.{waiting_conn}
use Rattle.data_rules.specs.Entering.{enters}
use Rattle.data_rules.specs.Conns.{breaks_if, drops_conn, end_breaks, is_normal, is_other_conn, link_of, with_event, with_role_if, without_conn}
use Rattle.data_rules.specs.Opening.{live_ends, opens}
use Rattle.data_rules.specs.Puts.{Sofar, becomes, conn_of, head_of}
use Rattle.cluster_invariant.proofs.ConnRoles.{bound_role, dropped, dropped_conns, dropped_order}
use Rattle.cluster_invariant.proofs.PieceKinds.{Ending, There, Here, Piece, Accepts, Forgets, Breaks, Dials, Waits, Opens, OpensNext, Resumes, GoesOn, ComesAgain, AwaitsReset, Closes, Acknowledges, Takes, TakesDone, Enters, Fetches, PutsNormal, PutsAck, Replies, Leaves, Bares, Locks, RoundEnds, Ticks, cuts_if, makes, next_caller, shuts, with_replies}
use Rattle.cluster_invariant.proofs.PieceMay.{Coming, HelloMay, ResumesMay}
use Rattle.cluster_invariant.proofs.Pieces.{MayMake}
use Rattle.cluster_invariant.proofs.PiecesOfRounds.{back_written, ends_aside}
use Rattle.cluster_invariant.proofs.PutLaws.{only_leaves, only_puts}
use Rattle.data_pieces.proofs.CallersGo.{CallersOf, role_less}
use Rattle.data_pieces.proofs.ClosePieces.{closed_conns}
use Rattle.data_pieces.proofs.ConnLists.{Differ, role_at}
use Rattle.data_pieces.proofs.ConnPieces.{role_before, role_dropped, role_gone}
use Rattle.data_pieces.proofs.EndsGo.{grown_none, grown_push}
use Rattle.data_pieces.proofs.EntryPieces.{item_is}
use Rattle.data_pieces.proofs.LinksGo.{SameCore}
use Rattle.data_pieces.proofs.PieceFacts.{enters_facts, opens_facts, shuts_facts}
use Rattle.data_pieces.proofs.QuietPieces.{quiet_calls, quiet_goes_on}
use Rattle.data_puts.proofs.SpokenAlong.{Along}
use Rattle.dials_server.proofs.OpenedNodes.{opened_app, opened_live}
use Rattle.link_kept.proofs.ServesServer.{live_within}
use Rattle.link_kept.proofs.WindowsGo.{open_live, still_live}
use Rattle.link_kept.proofs.WindowPieces.{item_still}
use Rattle.link_nodes.proofs.BoundsGo.{BoundsGo, Whence, bounds_close, bounds_its, bounds_fewer, bounds_given, bounds_order, bounds_other, role_set}

longer_push : (es : List Entry) (e : Entry) → length es ≤ length (es ++ e ∷ [])
longer_push es e = omega (arith, length-append es (e ∷ []))

module _ (l : Layout) (p : Plain) (d k : ℕ) (t : Coming) (W : Caller → Type 0) where
  abbrev pub BoundsAt : Sofar → Type 0
  BoundsAt b = BoundsGo t W b.state.conns b.state.order

  -- nothing of it changes
  pub bounds_same : (b c : Sofar) → c.state.conns ≡ b.state.conns → c.state.order ≡ b.state.order → BoundsAt b → BoundsAt c
  bounds_same b c conns order h =
      subst (λ (cs : List Conn). BoundsGo t W cs c.state.order) (sym conns) (subst (λ (es : List Entry). BoundsGo t W b.state.conns es) (sym order) h)

  bounds_core : (b c : Sofar) → SameCore b.state c.state → BoundsAt b → BoundsAt c
  bounds_core b c same h = bounds_same b c same.conns same.order h

  bounds_cut : (ending : Ending) (conn : ℕ) (b : Sofar) → BoundsAt b → BoundsAt (cuts_if ending conn b)
  bounds_cut There conn b h = h
  bounds_cut Here conn b h = h

  bounds_gone : (conn : ℕ) (b : Sofar) → BoundsAt b → BoundsAt (becomes (without_conn conn) b)
  bounds_gone conn b h =
      bounds_fewer t W b.state.conns (filter (is_other_conn conn) b.state.conns) b.state.order (λ m s is. role_before conn m (Bound s) b.state.conns is) h

  bounds_breaks : (app now : ℕ) (b : Sofar) → BoundsAt b → BoundsAt (end_breaks (Some app) now b)
  bounds_breaks app now b h = go (is_normal (link_of b.state app))
    where
      go : (normal : Bool) → BoundsAt (becomes (with_event app now event.Ended) (breaks_if normal app now b))
      go true = h
      go false = h

  bounds_drops : (o : Option ℕ) (b : Sofar) → BoundsAt b → BoundsAt (drops_conn o b)
  bounds_drops None b h = h
  bounds_drops (Some w) b h = bounds_gone w b h

  -- a live session takes a new connection in place of the one that it had
  bounds_resumes : (app session conn : ℕ) (b : Sofar) → ResumesMay t app session conn b → Differ b.state.conns → BoundsAt b → BoundsAt (makes t.now (Resumes app session conn) b)
  bounds_resumes app session conn b may differ h = go (conn_of b.state session) refl
    where
      whence : Whence t W b.state.order conn session
      whence = inr (inr (record {
        app = app;
        epoch = may.came.epoch;
        taken = may.came.taken;
        dial = may.came.dial;
        came = may.came.came;
        opened = may.came.its;
        was_there = sym (ap (λ (es : List Entry). app_in es session) may.came.firstly.same) ∙ may.came.its;
        was_new = may.came.firstly.was_new;
        later = may.came.firstly.later;
      }))

      free : (o : Option ℕ) → conn_of b.state session ≡ o → (m : ℕ) → role_at m (dropped o b.state.conns) ≡ Some (Bound session) → ⊥
      free o its m is = by o its is (bounds_its t W b.state.conns b.state.order m session differ h (role_dropped o m (Bound session) b.state.conns is))
        where
          by : (q : Option ℕ) → conn_of b.state session ≡ q → role_at m (dropped q b.state.conns) ≡ Some (Bound session) → conn_of b.state session ≡ Some m → ⊥
          by None none role has = absurd cc
          by (Some w) some role has =
              absurd (let same : m ≡ w = one m w (sym has ∙ some) in
              let gone : role_at m (dropped (Some w) b.state.conns) ≡ None = ap (λ (n : ℕ). role_at n (dropped (Some w) b.state.conns)) same ∙ role_gone w b.state.conns in cc)
            where
              one : (i j : ℕ) → Some i ≡ Some j → i ≡ j
              one i j both = cc

      go : (o : Option ℕ) → conn_of b.state session ≡ o → BoundsGo t W (map (with_role_if conn (Bound session)) (drops_conn o b).state.conns) (drops_conn o b).state.order
      go o its =
          subst (λ (cs : List Conn). BoundsGo t W (map (with_role_if conn (Bound session)) cs) (drops_conn o b).state.order) (sym (dropped_conns o b))
          (subst (λ (es : List Entry). BoundsGo t W (map (with_role_if conn (Bound session)) (dropped o b.state.conns)) es) (sym (dropped_order o b))
          (bounds_given t W conn session (dropped o b.state.conns) b.state.order (free o its) may.is_live whence
          (bounds_fewer t W b.state.conns (dropped o b.state.conns) b.state.order (λ m s is. role_dropped o m (Bound s) b.state.conns is) h)))

  -- a session opens, on a connection that was for none
  bounds_opens : (app conn now : ℕ) (b : Sofar) → live_session b.state.order app ≡ None → IsOrdered b.state.order → last_epoch b.state.order ≢ 0 → W (record { conn = conn; app = app }) → BoundsAt b
      → BoundsAt (opens app conn now b)
  bounds_opens app conn now b free ordered started called h =
      subst (λ (cs : List Conn). BoundsGo t W cs (opens app conn now b).state.order) (sym (opens_facts app conn now b).conns)
      (subst (λ (es : List Entry). BoundsGo t W (map (with_role_if conn (Bound s)) b.state.conns) es) (sym (opens_facts app conn now b).order)
      (bounds_given t W conn s b.state.conns (b.state.order ++ Opened s app ∷ []) none (opened_live b.state.order s app)
      (inr (inl (record { app = app; called = called; opened = opened_app b.state.order s app; above = omega (arith, h.longer) })))
      (bounds_order t W b.state.conns b.state.order (b.state.order ++ Opened s app ∷ []) (λ m q is lives. open_live b.state.order s app q lives)
      (grown_push b.state.order b.state.order (b.state.order ++ Opened s app ∷ []) (Opened s app) refl ordered
      (record { is_started = started; is_position = refl; is_free = free }) (λ n. refl) (grown_none b.state.order)).apps
      (longer_push b.state.order (Opened s app)) h)))
    where
      s : ℕ
      s = length b.state.order + 1

      none : (m : ℕ) → role_at m b.state.conns ≡ Some (Bound s) → ⊥
      none m is = absurd (omega (arith, live_within b.state.order ordered s (h.lives m s is)))

  -- a session is closed, and its connection goes or is for no session
  bounds_shuts : (s app : ℕ) (cause : ShutCause) (now : ℕ) (b : Sofar) → live_session b.state.order app ≡ Some s → (a : Along l p d k t W b) → BoundsAt b → BoundsAt (shuts s app cause now b)
  bounds_shuts s app cause now b has a h =
      subst (λ (cs : List Conn). BoundsGo t W cs (shuts s app cause now b).state.order) (sym (shuts_facts s app cause now b).conns)
      (subst (λ (es : List Entry). BoundsGo t W (closed_conns cause (conn_of b.state s) s b.state.conns) es) (sym (shuts_facts s app cause now b).order)
      (bounds_close t W s b.state.conns (closed_conns cause (conn_of b.state s) s b.state.conns) b.state.order (before cause (conn_of b.state s)) (gone cause (conn_of b.state s) refl)
      (grown_push b.state.order b.state.order (b.state.order ++ Closed s ∷ []) (Closed s) refl a.ends.links.ordered
      (record { is_live = (ordered_one_live b.state.order a.ends.links.ordered).lives app s has }) (λ n. refl) (grown_none b.state.order)).apps
      (longer_push b.state.order (Closed s)) h))
    where
      cs : List Conn
      cs = b.state.conns

      set_before : (conn m q : ℕ) → role_at m (map (with_role_if conn (Closing s)) cs) ≡ Some (Bound q) → (m ≢ conn) × (role_at m cs ≡ Some (Bound q))
      set_before conn m q is = go (role_set conn m (Closing s) (Bound q) cs is)
        where
          go : ((m ≡ conn) × (Bound q ≡ Closing s)) ⊎ ((m ≢ conn) × (role_at m cs ≡ Some (Bound q))) → (m ≢ conn) × (role_at m cs ≡ Some (Bound q))
          go (inl here) = absurd (let no : Bound q ≡ Closing s = here.1 in cc)
          go (inr there) = there

      before : (c : ShutCause) (o : Option ℕ) (m q : ℕ) → role_at m (closed_conns c o s cs) ≡ Some (Bound q) → role_at m cs ≡ Some (Bound q)
      before (causes.Trouble time) None m q is = is
      before (causes.Trouble time) (Some conn) m q is = (set_before conn m q is).1
      before causes.Replaced o m q is = role_dropped o m (Bound q) cs is
      before (causes.Round time) None m q is = is
      before (causes.Round time) (Some conn) m q is = (set_before conn m q is).1

      -- the session had this one alone
      its : (conn : ℕ) → conn_of b.state s ≡ Some conn → (m : ℕ) → role_at m cs ≡ Some (Bound s) → m ≡ conn
      its conn is m role = h.only conn m s (bound_role s cs conn a.ends.links.differ is) role

      some : (m : ℕ) → conn_of b.state s ≡ None → role_at m cs ≡ Some (Bound s) → ⊥
      some m is role = absurd (let found : conn_of b.state s ≡ Some m = bounds_its t W cs b.state.order m s a.ends.links.differ h role in cc)

      gone : (c : ShutCause) (o : Option ℕ) → conn_of b.state s ≡ o → (m : ℕ) → role_at m (closed_conns c o s cs) ≡ Some (Bound s) → ⊥
      gone (causes.Trouble time) None its_conn m is = some m its_conn is
      gone (causes.Trouble time) (Some conn) its_conn m is = (set_before conn m s is).0 (its conn its_conn m (set_before conn m s is).1)
      gone causes.Replaced None its_conn m is = some m its_conn is
      gone causes.Replaced (Some conn) its_conn m is =
          absurd (let same : m ≡ conn = its conn its_conn m (role_before conn m (Bound s) cs is) in
          let none : role_at m (filter (is_other_conn conn) cs) ≡ None = ap (λ (n : ℕ). role_at n (filter (is_other_conn conn) cs)) same ∙ role_gone conn cs in cc)
      gone (causes.Round time) None its_conn m is = some m its_conn is
      gone (causes.Round time) (Some conn) its_conn m is = (set_before conn m s is).0 (its conn its_conn m (set_before conn m s is).1)

  -- Each of them.
  pub bounds_piece : ((app conn : ℕ) (in_round : Bool) (b : Sofar) → HelloMay t app conn in_round b → W (record { conn = conn; app = app }))
      → (q : Piece) (b : Sofar) → MayMake t q b → Along l p d k t W b → BoundsAt b → BoundsAt (makes t.now q b)
  bounds_piece greets (Accepts conn) b may a h =
      bounds_fewer t W b.state.conns (b.state.conns ++ record { number = conn; role = New } ∷ []) b.state.order
      (λ m s is. role_less m (record { number = conn; role = New }) b.state.conns (Bound s) (λ same. absurd cc) is) h
  bounds_piece greets (Forgets ending conn) b may a h = bounds_cut ending conn (becomes (without_conn conn) b) (bounds_gone conn b h)
  bounds_piece greets (Breaks ending conn session app) b may a h =
      bounds_cut ending conn (end_breaks (Some app) t.now (becomes (without_conn conn) b)) (bounds_breaks app t.now (becomes (without_conn conn) b) (bounds_gone conn b h))
  bounds_piece greets (Dials app dial) b may a h = h
  bounds_piece greets (Waits app conn) b may a h =
      bounds_other t W conn Waiting (drops_conn (waiting_conn b.state app) b).state.conns (drops_conn (waiting_conn b.state app) b).state.order (λ s same. absurd cc)
      (bounds_drops (waiting_conn b.state app) b h)
  bounds_piece greets (Opens app conn) b may a h = bounds_opens app conn t.now b may.free a.ends.links.ordered a.ends.links.started (greets app conn false b may) h
  bounds_piece greets (OpensNext app conn) b may a h =
      bounds_opens app conn t.now (becomes next_caller b) first.each.0.1 a.ends.links.ordered a.ends.links.started
      (whence_of (subst (AllByRecursion W) may.next a.ends.whence)) h
    where
      first : CallersOf b.state.conns b.state.order (record { conn = conn; app = app } ∷ may.behind)
      first = subst (λ (ws : List Caller). CallersOf b.state.conns b.state.order ws) may.next a.ends.callers

      whence_of : AllByRecursion W (record { conn = conn; app = app } ∷ may.behind) → W (record { conn = conn; app = app })
      whence_of all = all.0
  bounds_piece greets (Resumes app session conn) b may a h = bounds_resumes app session conn b may a.ends.links.differ h
  bounds_piece greets (GoesOn session conn taken) b may a h = bounds_core b (makes t.now (GoesOn session conn taken) b) (quiet_goes_on session conn taken b).core h
  bounds_piece greets (ComesAgain session conn kept) b may a h = h
  bounds_piece greets (AwaitsReset session conn at) b may a h =
      bounds_other t W conn (Closing session) b.state.conns b.state.order (λ s same. absurd cc) h
  bounds_piece greets (Closes session app cause) b may a h = bounds_shuts session app cause t.now b may.has a h
  bounds_piece greets (Acknowledges conn session up) b may a h = h
  bounds_piece greets (Takes conn session up) b may a h = h
  bounds_piece greets (TakesDone conn session up) b may a h = h
  bounds_piece greets (Enters e) b may a h =
      subst (λ (cs : List Conn). BoundsGo t W cs (enters e b).state.order) (sym (enters_facts e b).conns)
      (subst (λ (es : List Entry). BoundsGo t W b.state.conns es) (sym (enters_facts e b).order)
      (bounds_order t W b.state.conns b.state.order (b.state.order ++ e ∷ [])
      (λ m s is lives. still_live b.state.order e s (item_still may.session may.its.up.message e may.item) ∙ lives)
      (grown_push b.state.order b.state.order (b.state.order ++ e ∷ []) e refl a.ends.links.ordered may.follows (item_is may.session may.its.up.message e may.item).epoch (grown_none b.state.order)).apps
      (longer_push b.state.order e) h))
  bounds_piece greets (Fetches session run block) b may a h =
      bounds_same b (makes t.now (Fetches session run block) b) (ap (λ (n : DataState). n.conns) (only_puts session (down.Block (head_of b.state session) block) b).state)
      (ap (λ (n : DataState). n.order) (only_puts session (down.Block (head_of b.state session) block) b).state) h
  bounds_piece greets (PutsNormal app session) b may a h =
      bounds_same b (makes t.now (PutsNormal app session) b) (ap (λ (n : DataState). n.conns) (only_puts session _ b).state) (ap (λ (n : DataState). n.order) (only_puts session _ b).state) h
  bounds_piece greets (PutsAck session) b may a h =
      bounds_same b (makes t.now (PutsAck session) b) (ap (λ (n : DataState). n.conns) (only_puts session _ b).state) (ap (λ (n : DataState). n.order) (only_puts session _ b).state) h
  bounds_piece greets (Replies at says) b may a h = h
  bounds_piece greets (Leaves before r behind) b may a h =
      bounds_same b (makes t.now (Leaves before r behind) b) (ap (λ (n : DataState). n.conns) (only_leaves r.says (becomes (with_replies (before ++ behind)) b)).state)
      (ap (λ (n : DataState). n.order) (only_leaves r.says (becomes (with_replies (before ++ behind)) b)).state) h
  bounds_piece greets (Bares session conn) b may a h = h
  bounds_piece greets (Locks call) b may a h = bounds_core b (makes t.now (Locks call) b) (quiet_calls call b).core h
  bounds_piece greets RoundEnds b may a h =
      bounds_same b (makes t.now RoundEnds b) ((ends_aside (live_ends b.state.order) t.now).conns (back_written b)) ((ends_aside (live_ends b.state.order) t.now).order (back_written b)) h
  bounds_piece greets (Ticks app session) b may a h = h
