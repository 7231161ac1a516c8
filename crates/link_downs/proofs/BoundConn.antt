-- The connection of a live session over each small change of a data server's step: it keeps what the session is given, or it goes before
-- anything is put on it.
use Rattle.std.proofs.Common.{◌≡◌, ◌≢◌, ◌≤◌, ◌⊎◌, inl, inr, ◌+◌, max, ℕ, Bool, true, false, cond, List, [], ◌∷◌, ◌++◌, length, filter, map, Option, Some, None, is_some, option_map, refl, sym, ◌∙◌, ap, subst, arith}
use Rattle.std.specs.Prelude.{not}
use Rattle.std.specs.List.{AllByRecursion, find}
use Rattle.std.proofs.lemmas.Bool.{eqb-true, eq-eqb, false≢true, ne_eqb, true≢false}
use Rattle.std.proofs.lemmas.List.Elements.{filter-append}
use Rattle.plain_orders.specs.declared.act.Act.TheVariants as act
use Rattle.plain_orders.specs.declared.causes.ShutCause.{ShutCause}
use Rattle.plain_orders.specs.declared.causes.ShutCause.TheVariants.{Trouble, Replaced, Round}
use Rattle.plain_orders.specs.declared.entry.Entry.{Entry}
use Rattle.plain_orders.specs.declared.entry.Entry.TheVariants.{Opened as OpenEntry, Closed}
use Rattle.plain_orders.specs.declared.layout.Layout.{Layout}
use Rattle.plain_orders.specs.Entries.{live}
use Rattle.plain_runs.specs.Plain.{Plain}
use Rattle.ecp_messages.specs.declared.down.Down.{Down}
use Rattle.ecp_messages.specs.declared.down.Down.TheVariants as down
use Rattle.end_words.specs.Windows.{Window, fresh, resent, with_ack, with_ack_put, with_taken}
use Rattle.block_holders.specs.declared.noted.Noted.{Noted}
use Rattle.block_holders.specs.HolderWords.{forgotten, is_noted_elsewhere, is_touched, touched}
use Rattle.data_rules.specs.declared.data_in.DataIn.TheVariants as data_in
use Rattle.data_rules.specs.declared.rows.Caller.{Caller}
use Rattle.data_rules.specs.declared.rows.Conn.{Conn}
use Rattle.data_rules.specs.declared.rows.Reply.{Reply}
use Rattle.data_rules.specs.declared.rows.Role.{Role}
use Rattle.data_rules.specs.declared.rows.Role.TheVariants.{New, Waiting, Bound, Closing}
use Rattle.data_rules.specs.declared.rows.Says.{Says}
use Rattle.data_rules.specs.declared.rows.Says.TheVariants.{NewWelcome, EpochWelcome, ResetOf, GrantOf, AnswerOf}
use Rattle.data_rules.specs.DataState.{DataState, SessionWindow}
use Rattle.data_rules.specs.Callers.{goes_on, old_welcome, sends_again, waiting_conn}
use Rattle.data_rules.specs.Closing.{silenced}
use Rattle.data_rules.specs.Conns.{drops_conn, end_breaks, is_conn, is_other_conn, role_of, with_role, with_role_if, without_conn}
use Rattle.data_rules.specs.Entering.{appends, enters, spans_of}
use Rattle.data_rules.specs.Leaving.{epoch_welcome, leaves, new_welcome}
use Rattle.data_rules.specs.Opening.{live_ends, opens}
use Rattle.data_rules.specs.Puts.{Sofar, becomes, conn_of, head_of, is_reply_elsewhere, is_role_of, says_on, number_of, says_to, set_window, tells, window_in, window_of, writes}
use Rattle.cluster_runs.specs.Sent.{Lane}
use Rattle.cluster_invariant.proofs.AllLists.{all_filtered, all_passed}
use Rattle.cluster_invariant.proofs.ConnRoles.{bound_role, dropped, dropped_conns}
use Rattle.cluster_invariant.proofs.PieceDeeds.{does_piece}
use Rattle.cluster_invariant.proofs.PieceKinds.{Ending, There, Here, LockCall, Piece, calls, closing_on, cuts_if, makes, next_caller, parts_from, round_over, with_close, with_replies}
use Rattle.cluster_invariant.proofs.PieceMay.{Coming, begins}
use Rattle.cluster_invariant.proofs.PiecesOfCloses.{close_conns, close_order, role_given}
use Rattle.cluster_invariant.proofs.PiecesOfRounds.{back_written, ends_aside}
use Rattle.data_pieces.proofs.CallersGo.{role_less, role_other}
use Rattle.data_pieces.proofs.ConnLists.{Differ, conn_for, for_gone, for_more, for_role, none_for, role_at}
use Rattle.data_pieces.proofs.ConnPieces.{for_dropped, role_before, role_dropped, role_gone}
use Rattle.data_pieces.proofs.QuietPieces.{quiet_calls, quiet_goes_on}
use Rattle.link_kept.proofs.WindowLists.{gone_elsewhere}
use Rattle.link_kept.proofs.WindowPieces.{SameWindows, same_calls, same_round}
use Rattle.link_kept.proofs.WindowsGo.{other_live, same_or}
use Rattle.link_downs.proofs.BoundPuts.{Keeping, Keeps, Steady, keeping_put, keeping_same, keeps_puts, keeps_steady}
use Rattle.link_downs.proofs.OnConn.{Beside, beside_calls, beside_goes_on, beside_round, beside_same, beside_tells, put_on, put_there, waiting_on, waits_left, waits_other, waits_there}

-- the connections

-- where one changes what it is for, no more are the session's than were
pub role_after : (n m s : ℕ) (r : Role) (cs : List Conn) → (r ≡ Bound s → ⊥) → is_some (find (is_conn n) cs) ≡ true → role_at m (map (with_role_if n r) cs) ≡ Some (Bound s)
    → role_at m cs ≡ Some (Bound s)
role_after n m s r cs other there its = go (same_or m n)
  where
    one : Some r ≡ Some (Bound s) → r ≡ Bound s
    one same = cc

    go : (m ≡ n) ⊎ (m ≢ n) → role_at m cs ≡ Some (Bound s)
    go (inl same) = absurd (other (one (sym (role_given n r cs there) ∙ ap (λ (i : ℕ). role_at i (map (with_role_if n r) cs)) (sym same) ∙ its)))
    go (inr apart) = sym (role_other n m r cs apart) ∙ its

-- a session has the connection that it had where another one changes what it is for
pub conn_after : (n s : ℕ) (r : Role) (cs : List Conn) → Differ cs → (role_at n cs ≡ Some (Bound s) → ⊥) → (r ≡ Bound s → ⊥) → conn_for s (map (with_role_if n r) cs) ≡ conn_for s cs
conn_after n s r cs differ apart other = for_role n s r cs (none_for n s cs differ apart) (unbound r other)
  where
    unbound : (x : Role) → (x ≡ Bound s → ⊥) → is_role_of s x ≡ false
    unbound New differs = refl
    unbound Waiting differs = refl
    unbound (Bound session) differs = ne_eqb session s (λ same. differs (ap Bound same))
    unbound (Closing session) differs = refl

-- what other connections make of a session's: it has the same, and no more are its
pub record ConnsFor (s : ℕ) (cs ds : List Conn) : Type 0 where
  pub conn : conn_for s ds ≡ conn_for s cs
  pub only : (n : ℕ) → role_at n ds ≡ Some (Bound s) → role_at n cs ≡ Some (Bound s)

pub conns_same : (s : ℕ) (cs ds : List Conn) → ds ≡ cs → ConnsFor s cs ds
conns_same s cs ds same = record { conn = ap (conn_for s) same; only = λ n role. ap (role_at n) (sym same) ∙ role }

pub conns_then : (s : ℕ) (cs ds es : List Conn) → ConnsFor s cs ds → ConnsFor s ds es → ConnsFor s cs es
conns_then s cs ds es x y = record { conn = y.conn ∙ x.conn; only = λ n role. x.only n (y.only n role) }

pub conns_role : (s n : ℕ) (r : Role) (cs : List Conn) → Differ cs → (role_at n cs ≡ Some (Bound s) → ⊥) → (r ≡ Bound s → ⊥) → is_some (find (is_conn n) cs) ≡ true
    → ConnsFor s cs (map (with_role_if n r) cs)
conns_role s n r cs differ apart other there = record { conn = conn_after n s r cs differ apart other; only = λ m role. role_after n m s r cs other there role }

pub conns_gone : (s n : ℕ) (cs : List Conn) → Differ cs → (role_at n cs ≡ Some (Bound s) → ⊥) → ConnsFor s cs (filter (is_other_conn n) cs)
conns_gone s n cs differ apart = record { conn = ap (option_map number_of) (for_gone n s cs (none_for n s cs differ apart)); only = λ m role. role_before n m (Bound s) cs role }

pub conns_dropped : (s : ℕ) (o : Option ℕ) (cs : List Conn) → Differ cs → ((n : ℕ) → o ≡ Some n → role_at n cs ≡ Some (Bound s) → ⊥) → ConnsFor s cs (dropped o cs)
conns_dropped s None cs differ apart = conns_same s cs cs refl
conns_dropped s (Some n) cs differ apart = conns_gone s n cs differ (apart n refl)

pub conns_more : (s n : ℕ) (cs : List Conn) → ConnsFor s cs (cs ++ record { number = n; role = New } ∷ [])
conns_more s n cs = record {
  conn = ap (option_map number_of) (for_more s (record { number = n; role = New }) cs refl);
  only = λ m role. role_less m (record { number = n; role = New }) cs (Bound s) (λ same. absurd cc) role;
}

-- what other changes make of the session
pub steady_by : (q s : ℕ) (b c : Sofar) → ConnsFor s b.state.conns c.state.conns → (live b.state.order s ≡ true → live c.state.order s ≡ true)
    → Keeping (window_of b.state s) (window_of c.state s) → put_on q c.outs.frames ≡ put_on q b.outs.frames
    → (waiting_on q b.state.replies ≡ [] → waiting_on q c.state.replies ≡ []) → Steady q s b c
steady_by q s b c conns lives window put waits = record { conn = conns.conn; only = conns.only; lives = lives; window = window; put = put; waits = waits }

-- a frame that is told elsewhere
pub steady_tells : (q s r n seq : ℕ) (m : Down) (b : Sofar) → n ≢ q → Steady q s b (tells r n seq m b)
steady_tells q s r n seq m b apart =
    steady_by q s b (tells r n seq m b) (conns_same s b.state.conns b.state.conns refl) (λ lives. lives) (keeping_put b.state.windows r s) (put_there q n b.outs.frames _ apart) (λ quiet. quiet)

module _ (lane : Lane) (q s : ℕ) (in_round : Bool) where
  keeps_again : (r n : ℕ) (ms : List (ℕ × Down)) (b : Sofar) → n ≢ q → Keeps lane q s in_round b → Keeps lane q s in_round (sends_again r n ms b)
  keeps_again r n [] b apart k = k
  keeps_again r n (m ∷ ms) b apart k =
      keeps_again r n ms (tells r n m.0 m.1 b) apart (keeps_steady lane q s in_round b (tells r n m.0 m.1 b) (steady_tells q s r n m.0 m.1 b apart) k)

  -- another session goes on
  pub keeps_goes_on : (r n taken : ℕ) (b : Sofar) → n ≢ q → Keeps lane q s in_round b → Keeps lane q s in_round (goes_on r n taken b)
  keeps_goes_on r n taken b apart k =
      keeps_again r n (resent (window_of b.state r) taken) (tells r n 0 (old_welcome b.state r) b) apart
      (keeps_steady lane q s in_round b (tells r n 0 (old_welcome b.state r) b) (steady_tells q s r n 0 (old_welcome b.state r) b apart) k)

  -- a reply that leaves elsewhere
  pub keeps_leaves : (says : Says) (b : Sofar) → lane.down_taken ≤ length lane.down → Differ b.state.conns → says_on q says ≡ false → Keeps lane q s in_round b → Keeps lane q s in_round (leaves says b)
  keeps_leaves (NewWelcome conn session) b within differ out k =
      keeps_steady lane q s in_round b (tells session conn 0 (new_welcome b.state session) b)
      (steady_tells q s session conn 0 (new_welcome b.state session) b (λ same. true≢false (sym (eq-eqb conn q same) ∙ out))) k
  keeps_leaves (EpochWelcome conn session kept) b within differ out k =
      keeps_steady lane q s in_round b (tells session conn 0 (epoch_welcome b.state session kept) b)
      (steady_tells q s session conn 0 (epoch_welcome b.state session kept) b (λ same. true≢false (sym (eq-eqb conn q same) ∙ out))) k
  keeps_leaves (ResetOf conn session at) b within differ out k =
      keeps_steady lane q s in_round b (leaves (ResetOf conn session at) b)
      (steady_by q s b (leaves (ResetOf conn session at) b) (conns_same s b.state.conns b.state.conns refl) (λ lives. lives)
      (keeping_same (window_of b.state s) (window_of b.state s) refl) (put_there q conn b.outs.frames _ (λ same. true≢false (sym (eq-eqb conn q same) ∙ out))) (λ quiet. quiet)) k
  keeps_leaves (GrantOf session ticket at) b within differ out k = keeps_puts lane q s in_round within session _ b differ refl (λ normal. absurd (false≢true normal)) k
  keeps_leaves (AnswerOf session about job number at sum) b within differ out k =
      keeps_puts lane q s in_round within session _ b differ refl (λ normal. absurd (false≢true normal)) k

-- replies that wait nowhere on the connection
pub none_waits : (q : ℕ) (before : List Reply) (r : Reply) (behind : List Reply) → waiting_on q (before ++ r ∷ behind) ≡ [] → (says_on q r.says ≡ false) × (waiting_on q (before ++ behind) ≡ [])
none_waits q before r behind none = go (says_on q r.says) refl (sym (filter-append (λ (x : Reply). says_on q x.says) before (r ∷ behind)) ∙ none)
  where
    parts : (xs ys : List Reply) → xs ++ ys ≡ [] → (xs ≡ []) × (ys ≡ [])
    parts [] ys is = (refl, is)
    parts (x ∷ xs) ys is = absurd cc

    go : (m : Bool) → says_on q r.says ≡ m → waiting_on q before ++ cond (says_on q r.says) (r ∷ waiting_on q behind) (waiting_on q behind) ≡ []
        → (says_on q r.says ≡ false) × (waiting_on q (before ++ behind) ≡ [])
    go true on all = absurd (no (ap (λ (t : Bool). cond t (r ∷ waiting_on q behind) (waiting_on q behind)) (sym on) ∙ (parts (waiting_on q before) _ all).1))
      where
        no : r ∷ waiting_on q behind ≡ [] → ⊥
        no is = cc
    go false out all = (
      out,
      filter-append (λ (x : Reply). says_on q x.says) before behind
          ∙ ap (λ (xs : List Reply). xs ++ waiting_on q behind) (parts (waiting_on q before) _ all).0
          ∙ ap (λ (t : Bool). cond t (r ∷ waiting_on q behind) (waiting_on q behind)) (sym out) ∙ (parts (waiting_on q before) _ all).1,
    )
