-- The connection of a live session while a step goes on: all that was given to the session's window stands on it, with its numbers.
use Rattle.std.proofs.Common.{◌≡◌, ◌≢◌, ◌≤◌, ◌⊎◌, inl, inr, ◌+◌, ◌-◌, max, ℕ, Bool, true, false, List, [], ◌∷◌, ◌++◌, length, drop, Option, Some, None, refl, sym, ◌∙◌, ap, subst, arith}
use Rattle.std.specs.Prelude.{◌||◌}
use Rattle.std.specs.List.{AllByRecursion, find, list_any}
use Rattle.std.proofs.lemmas.Bool.{false≢true, true≢false}
use Rattle.std.proofs.lemmas.List.{drop-append-le, append_assoc, length-append}
use Rattle.plain_orders.specs.declared.entry.Entry.{Entry}
use Rattle.plain_orders.specs.Entries.{live}
use Rattle.ecp_messages.specs.declared.down.Down.{Down}
use Rattle.ecp_messages.specs.declared.down.Down.TheVariants as down
use Rattle.ecp_messages.specs.declared.down.DownFrame.{DownFrame}
use Rattle.end_words.specs.Windows.{Window, sent, with_ack, with_ack_put, with_sent}
use Rattle.block_holders.specs.declared.noted.Noted.{Noted}
use Rattle.block_holders.specs.HolderWords.{touched}
use Rattle.data_rules.specs.declared.rows.Conn.{Conn}
use Rattle.data_rules.specs.declared.rows.Role.TheVariants.{Bound}
use Rattle.data_rules.specs.DataState.{DataState, SessionWindow}
use Rattle.data_rules.specs.Conns.{role_of}
use Rattle.data_rules.specs.Entering.{appends, drops, drops_one, spans_of, with_entry}
use Rattle.data_rules.specs.Puts.{Sofar, becomes, conn_of, frame_on, puts, set_window, tells, tells_on, window_in, window_of, with_window}
use Rattle.cluster_runs.specs.Sent.{Lane}
use Rattle.cluster_invariant.specs.Link.{is_normal_frame, is_numbered_down}
use Rattle.cluster_invariant.specs.Words.{is_normal_down}
use Rattle.cluster_invariant.proofs.ConnRoles.{bound_role}
use Rattle.cluster_invariant.proofs.PutLaws.{only_puts}
use Rattle.data_pieces.proofs.ConnLists.{Differ, conn_for}
use Rattle.data_puts.proofs.TakenSame.{taken_puts}
use Rattle.coherence_server.proofs.SentWindows.{Sent, puts_here, puts_there}
use Rattle.link_kept.proofs.WindowLists.{set_elsewhere, set_here}
use Rattle.link_kept.proofs.WindowsGo.{drop_more, same_or}
use Rattle.link_downs.proofs.NumberedPuts.{PutNext, list_any_joined, put_bare, put_later, put_message, sent_so_far}
use Rattle.link_downs.proofs.OnConn.{HasOther, beside_puts, conns_puts, put_here, put_on, waiting_on}

-- The session's connection is this one and no other, its window keeps what it was given, which stands on the connection, and nothing waits
-- on that.
pub record Keeps (lane : Lane) (q s : ℕ) (in_round : Bool) (b : Sofar) : Type 0 where
  pub its : conn_of b.state s ≡ Some q
  pub only : (n : ℕ) → role_of b.state n ≡ Some (Bound s) → n ≡ q
  pub lives : live b.state.order s ≡ true
  pub given : List Down
  pub acked : (window_of b.state s).acked ≤ lane.down_taken
  pub waiting : (window_of b.state s).waiting ≡ drop (window_of b.state s).acked (lane.down ++ given)
  pub taken : lane.up_taken ≤ (window_of b.state s).taken
  pub put : PutNext (length lane.down) (window_of b.state s).taken (put_on q b.outs.frames) given
  -- a Normal is put only where a round was on
  pub normal : in_round ≡ false → list_any is_normal_frame (put_on q b.outs.frames) ≡ false
  pub quiet : waiting_on q b.state.replies ≡ []

-- two windows that keep the same, of which the second counts no less
pub record Keeping (w u : Window Down) : Type 0 where
  pub acked : u.acked ≡ w.acked
  pub waiting : u.waiting ≡ w.waiting
  pub taken : w.taken ≤ u.taken

pub keeping_same : (w u : Window Down) → u ≡ w → Keeping w u
keeping_same w u same = record { acked = ap (λ (x : Window Down). x.acked) same; waiting = ap (λ (x : Window Down). x.waiting) same; taken = omega (arith, ap (λ (x : Window Down). x.taken) same) }

-- a change that leaves the session and its connection
pub record Steady (q s : ℕ) (b c : Sofar) : Type 0 where
  pub conn : conn_of c.state s ≡ conn_of b.state s
  pub only : (n : ℕ) → role_of c.state n ≡ Some (Bound s) → role_of b.state n ≡ Some (Bound s)
  pub lives : live b.state.order s ≡ true → live c.state.order s ≡ true
  pub window : Keeping (window_of b.state s) (window_of c.state s)
  pub put : put_on q c.outs.frames ≡ put_on q b.outs.frames
  pub waits : waiting_on q b.state.replies ≡ [] → waiting_on q c.state.replies ≡ []

unfoldable pub keeps_steady : (lane : Lane) (q s : ℕ) (in_round : Bool) (b c : Sofar) → Steady q s b c → Keeps lane q s in_round b → Keeps lane q s in_round c
keeps_steady lane q s in_round b c x k = record {
  its = x.conn ∙ k.its;
  only = λ n role. k.only n (x.only n role);
  lives = x.lives k.lives;
  given = k.given;
  acked = omega (arith, x.window.acked, k.acked);
  waiting = x.window.waiting ∙ k.waiting ∙ ap (λ (n : ℕ). drop n (lane.down ++ k.given)) (sym x.window.acked);
  taken = omega (arith, x.window.taken, k.taken);
  put =
      subst (λ (fs : List DownFrame). PutNext (length lane.down) (window_of c.state s).taken fs k.given) (sym x.put)
      (put_later (length lane.down) (window_of b.state s).taken (window_of c.state s).taken (put_on q b.outs.frames) k.given x.window.taken k.put);
  normal = λ out. ap (list_any is_normal_frame) x.put ∙ k.normal out;
  quiet = x.waits k.quiet;
}

-- windows

-- one is set: another session's, or the session's own to one that keeps the same
pub keeping_set : (ws : List SessionWindow) (r s : ℕ) (w : Window Down) → (r ≡ s → Keeping (window_in ws s) w) → Keeping (window_in ws s) (window_in (set_window ws r w) s)
keeping_set ws r s w own = go (same_or s r)
  where
    go : (s ≡ r) ⊎ (s ≢ r) → Keeping (window_in ws s) (window_in (set_window ws r w) s)
    go (inl same) =
        subst (λ (n : ℕ). Keeping (window_in ws s) (window_in (set_window ws n w) s)) same
        (subst (λ (u : Window Down). Keeping (window_in ws s) u) (sym (set_here ws s w)) (own (sym same)))
    go (inr apart) = keeping_same (window_in ws s) (window_in (set_window ws r w) s) (set_elsewhere ws r s w apart)

-- a frame that goes out counts
pub keeping_put : (ws : List SessionWindow) (r s : ℕ) → Keeping (window_in ws s) (window_in (set_window ws r (with_ack_put (window_in ws r))) s)
keeping_put ws r s =
    keeping_set ws r s (with_ack_put (window_in ws r))
    (λ same. subst (λ (n : ℕ). Keeping (window_in ws n) (with_ack_put (window_in ws r))) same (record { acked = refl; waiting = refl; taken = omega arith }))

-- what is put

module _ (lane : Lane) (q s : ℕ) (in_round : Bool) (within : lane.down_taken ≤ length lane.down) where
  -- to the session
  pub keeps_put : (m : Down) (b : Sofar) → is_numbered_down m ≡ true → (is_normal_down m ≡ true → in_round ≡ true) → Keeps lane q s in_round b → Keeps lane q s in_round (puts s m b)
  keeps_put m b is may k = go (puts_here s m b)
    where
      w : Window Down
      w = window_of b.state s

      taken_same : (window_of (puts s m b).state s).taken ≡ w.taken
      taken_same = taken_puts s m b s

      so_far : sent w ≡ length lane.down + length k.given
      so_far = sent_so_far w lane.down k.given lane.down_taken k.acked within k.waiting

      frames : (puts s m b).outs.frames ≡ b.outs.frames ++ frame_on q (length lane.down + length k.given + 1) w.taken m ∷ []
      frames =
          ap (λ (o : Option ℕ). (tells_on s o (sent w + 1) m (becomes (λ d. with_window s (with_sent (window_of d s) m) d) b)).outs.frames) k.its
          ∙ ap (λ (n : ℕ). b.outs.frames ++ frame_on q (sent w + 1) n m ∷ []) (ap (λ (u : Window Down). u.taken) (set_here b.state.windows s (with_sent w m)))
          ∙ ap (λ (n : ℕ). b.outs.frames ++ frame_on q (n + 1) w.taken m ∷ []) so_far

      put_after : put_on q (puts s m b).outs.frames ≡ put_on q b.outs.frames ++ record { seq = length lane.down + length k.given + 1; ack = w.taken; message = m } ∷ []
      put_after = ap (put_on q) frames ∙ put_here q b.outs.frames _

      kept_normal : in_round ≡ false → (is_normal_down m || false) ≡ false
      kept_normal out = by (is_normal_down m) refl
        where
          by : (t : Bool) → is_normal_down m ≡ t → (t || false) ≡ false
          by true normal = absurd (true≢false (sym (may normal) ∙ out))
          by false normal = refl

      go : Sent w (window_of (puts s m b).state s) (m ∷ []) → Keeps lane q s in_round (puts s m b)
      go x = record {
        its = ap (λ (cs : List Conn). conn_for s cs) (conns_puts s m b) ∙ k.its;
        only = λ n role. k.only n (sym (ap (λ (d : DataState). role_of d n) (only_puts s m b).state) ∙ role);
        lives = ap (λ (d : DataState). live d.order s) (only_puts s m b).state ∙ k.lives;
        given = k.given ++ m ∷ [];
        acked = omega (arith, x.acked, k.acked);
        waiting =
            x.waiting ∙ ap (λ (ms : List Down). ms ++ m ∷ []) k.waiting
            ∙ sym (drop-append-le w.acked (lane.down ++ k.given) (m ∷ []) (omega (arith, k.acked, within, length-append lane.down k.given)))
            ∙ ap (drop w.acked) (append_assoc lane.down k.given (m ∷ [])) ∙ ap (λ (n : ℕ). drop n (lane.down ++ (k.given ++ m ∷ []))) (sym x.acked);
        taken = omega (arith, taken_same, k.taken);
        put =
            subst (λ (n : ℕ). PutNext (length lane.down) n (put_on q (puts s m b).outs.frames) (k.given ++ m ∷ [])) (sym taken_same)
            (subst (λ (fs : List DownFrame). PutNext (length lane.down) w.taken fs (k.given ++ m ∷ [])) (sym put_after)
            (put_message (length lane.down) w.taken w.taken (put_on q b.outs.frames) k.given m is (omega arith) k.put));
        normal = λ out. ap (list_any is_normal_frame) put_after ∙ list_any_joined is_normal_frame (put_on q b.outs.frames) (_ ∷ []) (k.normal out) (kept_normal out);
        quiet = ap (λ (d : DataState). waiting_on q d.replies) (only_puts s m b).state ∙ k.quiet;
      }

  -- no other session has the connection
  pub others_apart : (r : ℕ) (cs : List Conn) → Differ cs → conn_for s cs ≡ Some q → r ≢ s → HasOther q cs r
  others_apart r cs differ its apart at = one (sym (bound_role s cs q differ its) ∙ bound_role r cs q differ at)
    where
      one : Some (Bound s) ≡ Some (Bound r) → ⊥
      one same = apart (sym cc)

  -- to any session
  pub keeps_puts : (r : ℕ) (m : Down) (b : Sofar) → Differ b.state.conns → is_numbered_down m ≡ true → (is_normal_down m ≡ true → in_round ≡ true) → Keeps lane q s in_round b
      → Keeps lane q s in_round (puts r m b)
  keeps_puts r m b differ is may k = go (same_or s r)
    where
      go : (s ≡ r) ⊎ (s ≢ r) → Keeps lane q s in_round (puts r m b)
      go (inl same) = subst (λ (n : ℕ). Keeps lane q s in_round (puts n m b)) same (keeps_put m b is may k)
      go (inr apart) =
          keeps_steady lane q s in_round b (puts r m b)
          (record {
            conn = ap (λ (cs : List Conn). conn_for s cs) (conns_puts r m b);
            only = λ n role. sym (ap (λ (d : DataState). role_of d n) (only_puts r m b).state) ∙ role;
            lives = λ lives. ap (λ (d : DataState). live d.order s) (only_puts r m b).state ∙ lives;
            window = keeping_same (window_of b.state s) (window_of (puts r m b).state s) (puts_there r s m b apart);
            put = (beside_puts q r m b (others_apart r b.state.conns differ k.its (λ at. apart (sym at)))).put;
            waits = λ quiet. ap (λ (d : DataState). waiting_on q d.replies) (only_puts r m b).state ∙ quiet;
          }) k

  pub keeps_drops : (before : ℕ) (xs : List Noted) (b : Sofar) → Differ b.state.conns → Keeps lane q s in_round b → Keeps lane q s in_round (drops before xs b)
  keeps_drops before [] b differ k = k
  keeps_drops before (x ∷ xs) b differ k =
      keeps_drops before xs (drops_one before x xs b) (subst Differ (sym (conns_puts x.session _ b)) differ)
      (keeps_puts x.session _ b differ refl (λ normal. absurd (false≢true normal)) k)

  -- an entry with its Drops, behind which the session is live
  pub keeps_appends : (e : Entry) (b : Sofar) → Differ b.state.conns → live (b.state.order ++ e ∷ []) s ≡ true → Keeps lane q s in_round b → Keeps lane q s in_round (appends e b)
  keeps_appends e b differ lives k =
      keeps_drops (length b.state.order) (touched (spans_of b.state e) b.state.noted) (becomes (with_entry e (spans_of b.state e)) b) differ
      (record {
        its = k.its;
        only = k.only;
        lives = lives;
        given = k.given;
        acked = k.acked;
        waiting = k.waiting;
        taken = k.taken;
        put = k.put;
        normal = k.normal;
        quiet = k.quiet;
      })

  -- an acknowledgement by itself goes out on the connection
  pub keeps_bare : (b : Sofar) → Keeps lane q s in_round b → Keeps lane q s in_round (tells s q 0 down.Bare b)
  keeps_bare b k = go (keeping_put b.state.windows s s)
    where
      w : Window Down
      w = window_of b.state s

      put_after : put_on q (tells s q 0 down.Bare b).outs.frames ≡ put_on q b.outs.frames ++ record { seq = 0; ack = w.taken; message = down.Bare } ∷ []
      put_after = put_here q b.outs.frames _

      go : Keeping w (window_of (tells s q 0 down.Bare b).state s) → Keeps lane q s in_round (tells s q 0 down.Bare b)
      go x = record {
        its = k.its;
        only = k.only;
        lives = k.lives;
        given = k.given;
        acked = omega (arith, x.acked, k.acked);
        waiting = x.waiting ∙ k.waiting ∙ ap (λ (n : ℕ). drop n (lane.down ++ k.given)) (sym x.acked);
        taken = omega (arith, x.taken, k.taken);
        put =
            put_later (length lane.down) w.taken (window_of (tells s q 0 down.Bare b).state s).taken (put_on q (tells s q 0 down.Bare b).outs.frames) k.given x.taken
            (subst (λ (fs : List DownFrame). PutNext (length lane.down) w.taken fs k.given) (sym put_after)
            (put_bare (length lane.down) w.taken w.taken (put_on q b.outs.frames) k.given (omega arith) k.put));
        normal = λ out. ap (list_any is_normal_frame) put_after ∙ list_any_joined is_normal_frame (put_on q b.outs.frames) (_ ∷ []) (k.normal out) refl;
        quiet = k.quiet;
      }

  -- an acknowledgement of the session came
  pub keeps_acked : (u : Window Down) (ack : ℕ) (b : Sofar) → ack ≤ lane.down_taken → u.acked ≡ max (window_of b.state s).acked ack
      → u.waiting ≡ drop (ack - (window_of b.state s).acked) (window_of b.state s).waiting → (window_of b.state s).taken ≤ u.taken → Keeps lane q s in_round b
      → Keeps lane q s in_round (becomes (with_window s u) b)
  keeps_acked u ack b low acked waiting taken k = record {
    its = k.its;
    only = k.only;
    lives = k.lives;
    given = k.given;
    acked = omega (arith, ap (λ (x : Window Down). x.acked) here, acked, low, k.acked);
    waiting =
        ap (λ (x : Window Down). x.waiting) here ∙ waiting ∙ ap (drop (ack - w.acked)) k.waiting ∙ drop_more w.acked ack (lane.down ++ k.given)
        ∙ ap (λ (n : ℕ). drop n (lane.down ++ k.given)) (sym (ap (λ (x : Window Down). x.acked) here ∙ acked));
    taken = omega (arith, ap (λ (x : Window Down). x.taken) here, taken, k.taken);
    put =
        put_later (length lane.down) w.taken (window_of (becomes (with_window s u) b).state s).taken (put_on q b.outs.frames) k.given
        (omega (arith, ap (λ (x : Window Down). x.taken) here, taken)) k.put;
    normal = k.normal;
    quiet = k.quiet;
  }
    where
      w : Window Down
      w = window_of b.state s

      here : window_of (becomes (with_window s u) b).state s ≡ u
      here = set_here b.state.windows s u
