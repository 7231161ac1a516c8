-- A connection that went from a data server stays away over each small change of a step that accepts none.
use Rattle.std.proofs.Common.{◌≡◌, ℕ, Bool, true, false, List, [], ◌∷◌, ◌++◌, map, filter, cond, option_map, Option, Some, None, refl, sym, ◌∙◌, ap, ◌==◌, if◌then◌else◌}
use Rattle.std.specs.List.{find}
use Rattle.plain_orders.specs.declared.causes.ShutCause.{ShutCause}
use Rattle.plain_orders.specs.declared.causes.ShutCause.TheVariants as causes
use Rattle.ecp_messages.specs.declared.down.Down.TheVariants as down
use Rattle.data_rules.specs.DataState.{DataState}
use Rattle.data_rules.specs.declared.data_in.DataIn.TheVariants as data_in
use Rattle.data_rules.specs.declared.rows.Conn.{Conn}
use Rattle.data_rules.specs.declared.rows.Role.{Role}
use Rattle.data_rules.specs.declared.rows.Role.TheVariants.{Waiting, Bound, Closing}
use Rattle.data_rules.specs.Callers.{waiting_conn}
use Rattle.link_states.specs.declared.link_event.LinkEvent.TheVariants as event
use Rattle.data_rules.specs.Conns.{breaks_if, drops_conn, end_breaks, is_conn, is_normal, is_other_conn, link_of, role_in, with_event, with_role_if, without_conn}
use Rattle.data_rules.specs.Opening.{live_ends, opens}
use Rattle.data_rules.specs.Puts.{Sofar, becomes, conn_of, head_of}
use Rattle.cluster_invariant.proofs.ConnRoles.{dropped, dropped_conns}
use Rattle.cluster_invariant.proofs.PieceKinds.{Ending, There, Here, Piece, Accepts, Forgets, Breaks, Dials, Waits, Opens, OpensNext, Resumes, GoesOn, ComesAgain, AwaitsReset, Closes, Acknowledges, Takes, TakesDone, Enters, Fetches, PutsNormal, PutsAck, Replies, Leaves, Bares, Locks, RoundEnds, Ticks, cuts_if, makes, next_caller, with_replies}
use Rattle.cluster_invariant.proofs.PieceMay.{Coming}
use Rattle.cluster_invariant.proofs.Pieces.{MayMake}
use Rattle.cluster_invariant.proofs.PiecesOfRounds.{back_written, ends_aside}
use Rattle.cluster_invariant.proofs.PutLaws.{only_leaves, only_puts}
use Rattle.data_pieces.proofs.ClosePieces.{closed_conns}
use Rattle.data_pieces.proofs.ConnLists.{role_at}
use Rattle.data_pieces.proofs.ConnPieces.{role_before, role_dropped}
use Rattle.data_pieces.proofs.PieceFacts.{enters_facts, opens_facts, shuts_facts}
use Rattle.data_pieces.proofs.QuietPieces.{quiet_calls, quiet_goes_on}

-- lists

none_set : (conn m : ℕ) (r : Role) (cs : List Conn) → role_at m cs ≡ None → role_at m (map (with_role_if conn r) cs) ≡ None
none_set conn m r [] is = refl
none_set conn m r (c ∷ cs) is = go (c.number == m) refl is (none_set conn m r cs)
  where
    same : (b : Bool) → (if b then record c { role = r } else c).number ≡ c.number
    same true = refl
    same false = refl

    go : (b : Bool) → (c.number == m) ≡ b → option_map role_in (cond b (Some c) (find (is_conn m) cs)) ≡ None
        → (role_at m cs ≡ None → role_at m (map (with_role_if conn r) cs) ≡ None)
        → option_map role_in (cond ((with_role_if conn r c).number == m) (Some (with_role_if conn r c)) (find (is_conn m) (map (with_role_if conn r) cs))) ≡ None
    go true is none more = absurd cc
    go false is none more =
        ap (λ (b : Bool). option_map role_in (cond b (Some (with_role_if conn r c)) (find (is_conn m) (map (with_role_if conn r) cs))))
        (ap (λ (k : ℕ). k == m) (same (c.number == conn)) ∙ is) ∙ more none

none_by : (o p : Option Role) → ((r : Role) → o ≡ Some r → p ≡ Some r) → p ≡ None → o ≡ None
none_by None p back none = refl
none_by (Some r) p back none = absurd (let both : ◌≡◌ {A = Option Role} (Some r) None = sym (back r refl) ∙ none in cc)

none_gone : (w m : ℕ) (cs : List Conn) → role_at m cs ≡ None → role_at m (filter (is_other_conn w) cs) ≡ None
none_gone w m cs none = none_by (role_at m (filter (is_other_conn w) cs)) (role_at m cs) (λ r is. role_before w m r cs is) none

none_dropped : (o : Option ℕ) (m : ℕ) (cs : List Conn) → role_at m cs ≡ None → role_at m (dropped o cs) ≡ None
none_dropped o m cs none = none_by (role_at m (dropped o cs)) (role_at m cs) (λ r is. role_dropped o m r cs is) none

none_closed : (cause : ShutCause) (o : Option ℕ) (s m : ℕ) (cs : List Conn) → role_at m cs ≡ None → role_at m (closed_conns cause o s cs) ≡ None
none_closed (causes.Trouble time) None s m cs none = none
none_closed (causes.Trouble time) (Some conn) s m cs none = none_set conn m (Closing s) cs none
none_closed causes.Replaced o s m cs none = none_dropped o m cs none
none_closed (causes.Round time) None s m cs none = none
none_closed (causes.Round time) (Some conn) s m cs none = none_set conn m (Closing s) cs none

module _ (q : ℕ) where
  -- it has no such connection
  abbrev pub IsGone : Sofar → Type 0
  IsGone b = role_at q b.state.conns ≡ None

  pub gone_same : (b c : Sofar) → c.state.conns ≡ b.state.conns → IsGone b → IsGone c
  gone_same b c same h = ap (λ (cs : List Conn). role_at q cs) same ∙ h

  pub gone_breaks : (app now : ℕ) (b : Sofar) → IsGone b → IsGone (end_breaks (Some app) now b)
  gone_breaks app now b h = go (is_normal (link_of b.state app))
    where
      go : (normal : Bool) → role_at q (becomes (with_event app now event.Ended) (breaks_if normal app now b)).state.conns ≡ None
      go true = h
      go false = h

  gone_cut : (ending : Ending) (conn : ℕ) (b : Sofar) → IsGone b → IsGone (cuts_if ending conn b)
  gone_cut There conn b h = h
  gone_cut Here conn b h = h

  gone_drops : (o : Option ℕ) (b : Sofar) → IsGone b → IsGone (drops_conn o b)
  gone_drops o b h = ap (λ (cs : List Conn). role_at q cs) (dropped_conns o b) ∙ none_dropped o q b.state.conns h

  gone_opens : (app conn now : ℕ) (b : Sofar) → IsGone b → IsGone (opens app conn now b)
  gone_opens app conn now b h = ap (λ (cs : List Conn). role_at q cs) (opens_facts app conn now b).conns ∙ none_set conn q _ b.state.conns h

  -- Each of them.
  pub gone_piece : (t : Coming) → ((n : ℕ) → t.input ≡ data_in.Connected n → ⊥) → (x : Piece) (b : Sofar) → MayMake t x b → IsGone b → IsGone (makes t.now x b)
  gone_piece t none (Accepts conn) b may h = absurd (none conn may.came)
  gone_piece t none (Forgets ending conn) b may h = gone_cut ending conn (becomes (without_conn conn) b) (none_gone conn q b.state.conns h)
  gone_piece t none (Breaks ending conn session app) b may h =
      gone_cut ending conn (end_breaks (Some app) t.now (becomes (without_conn conn) b)) (gone_breaks app t.now (becomes (without_conn conn) b) (none_gone conn q b.state.conns h))
  gone_piece t none (Dials app dial) b may h = h
  gone_piece t none (Waits app conn) b may h = none_set conn q Waiting (drops_conn (waiting_conn b.state app) b).state.conns (gone_drops (waiting_conn b.state app) b h)
  gone_piece t none (Opens app conn) b may h = gone_opens app conn t.now b h
  gone_piece t none (OpensNext app conn) b may h = gone_opens app conn t.now (becomes next_caller b) h
  gone_piece t none (Resumes app session conn) b may h =
      none_set conn q (Bound session) (drops_conn (conn_of b.state session) b).state.conns (gone_drops (conn_of b.state session) b h)
  gone_piece t none (GoesOn session conn taken) b may h = gone_same b (makes t.now (GoesOn session conn taken) b) (quiet_goes_on session conn taken b).core.conns h
  gone_piece t none (ComesAgain session conn kept) b may h = h
  gone_piece t none (AwaitsReset session conn at) b may h = none_set conn q (Closing session) b.state.conns h
  gone_piece t none (Closes session app cause) b may h =
      ap (λ (cs : List Conn). role_at q cs) (shuts_facts session app cause t.now b).conns ∙ none_closed cause (conn_of b.state session) session q b.state.conns h
  gone_piece t none (Acknowledges conn session up) b may h = h
  gone_piece t none (Takes conn session up) b may h = h
  gone_piece t none (TakesDone conn session up) b may h = h
  gone_piece t none (Enters e) b may h = gone_same b (makes t.now (Enters e) b) (enters_facts e b).conns h
  gone_piece t none (Fetches session run block) b may h =
      gone_same b (makes t.now (Fetches session run block) b) (ap (λ (n : DataState). n.conns) (only_puts session (down.Block (head_of b.state session) block) b).state) h
  gone_piece t none (PutsNormal app session) b may h = gone_same b (makes t.now (PutsNormal app session) b) (ap (λ (n : DataState). n.conns) (only_puts session _ b).state) h
  gone_piece t none (PutsAck session) b may h = gone_same b (makes t.now (PutsAck session) b) (ap (λ (n : DataState). n.conns) (only_puts session _ b).state) h
  gone_piece t none (Replies at says) b may h = h
  gone_piece t none (Leaves before r behind) b may h =
      gone_same b (makes t.now (Leaves before r behind) b) (ap (λ (n : DataState). n.conns) (only_leaves r.says (becomes (with_replies (before ++ behind)) b)).state) h
  gone_piece t none (Bares session conn) b may h = h
  gone_piece t none (Locks call) b may h = gone_same b (makes t.now (Locks call) b) (quiet_calls call b).core.conns h
  gone_piece t none RoundEnds b may h = gone_same b (makes t.now RoundEnds b) ((ends_aside (live_ends b.state.order) t.now).conns (back_written b)) h
  gone_piece t none (Ticks app session) b may h = h
