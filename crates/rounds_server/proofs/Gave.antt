-- What a step of a data server gave the window of a session, by its small changes.
use Rattle.std.proofs.Common.{◌≡◌, ◌≢◌, ◌≤◌, ◌⊎◌, inl, inr, ℕ, ◌+◌, ◌-◌, max, Bool, true, false, not, ◌&&◌, List, [], ◌∷◌, ◌++◌, length, drop, filter, Option, Some, None, refl, sym, ◌∙◌, ap, subst, arith}
use Rattle.std.specs.List.{list_any}
use Rattle.std.proofs.lemmas.List.{append_assoc, append-nil, length-append, drop-append-le, drop-drop}
use Rattle.plain_orders.specs.declared.act.Act.TheVariants as act
use Rattle.plain_orders.specs.declared.causes.ShutCause.{ShutCause}
use Rattle.plain_orders.specs.declared.entry.Entry.{Entry}
use Rattle.plain_orders.specs.declared.entry.Entry.TheVariants.{Opened, Closed}
use Rattle.plain_orders.specs.Entries.{live}
use Rattle.ecp_messages.specs.declared.down.Down.{Down}
use Rattle.ecp_messages.specs.declared.down.Down.TheVariants as down
use Rattle.end_words.specs.Windows.{Window, fresh, owes_bare, with_ack, with_ack_put, with_sent, with_taken}
use Rattle.block_holders.specs.declared.noted.Noted.{Noted}
use Rattle.block_holders.specs.HolderWords.{is_noted_for, touched}
use Rattle.data_rules.specs.DataState.{DataState, SessionWindow}
use Rattle.data_rules.specs.declared.rows.Reply.{Reply}
use Rattle.data_rules.specs.declared.rows.Role.{Role}
use Rattle.data_rules.specs.declared.rows.Role.TheVariants.{New, Waiting, Bound, Closing}
use Rattle.data_rules.specs.declared.rows.Says.{Says}
use Rattle.data_rules.specs.declared.rows.Says.TheVariants.{NewWelcome, EpochWelcome, ResetOf, GrantOf, AnswerOf}
use Rattle.data_rules.specs.Callers.{sends_again}
use Rattle.data_rules.specs.Closing.{silenced}
use Rattle.data_rules.specs.Entering.{appends, drop_head, drops, drops_one, enters, spans_of, with_entry}
use Rattle.data_rules.specs.Frames.{bares_role}
use Rattle.data_rules.specs.Leaving.{all_leave, bare_on, bare_to, epoch_welcome, flushed, leaves, may_leave, new_welcome}
use Rattle.data_rules.specs.Opening.{opens}
use Rattle.data_rules.specs.Puts.{Sofar, becomes, conn_of, head_of, puts, set_window, tells, window_in, window_of, with_window, writes}
use Rattle.cluster_runs.specs.Sent.{Lane}
use Rattle.cluster_runs.specs.WireDrops.{is_block}
use Rattle.cluster_invariant.specs.Link.{WindowIs}
use Rattle.cluster_invariant.specs.Words.{is_normal_down}
use Rattle.cluster_invariant.proofs.PieceKinds.{parts_from, shuts, with_close}
use Rattle.cluster_invariant.proofs.PutLaws.{puts_state, windows_put, with_waiting, with_windows}
use Rattle.link_kept.proofs.WindowLists.{gone_elsewhere, set_elsewhere, set_here}
use Rattle.link_kept.proofs.WindowPieces.{SameWindows, same_parts}
use Rattle.link_kept.proofs.WindowsGo.{close_live, open_or, same_or}

-- A window keeps what was put before the step and what the step gave it; something holds of that and of how many messages were taken.
pub record Gave (lane : Lane) (T : List Down → ℕ → Type 0) (w : Window Down) : Type 0 where
  pub more : List Down
  pub waiting : w.waiting ≡ drop w.acked (lane.down ++ more)
  pub acked : w.acked ≤ length lane.down
  pub holds : T more w.taken

-- one window

module _ (lane : Lane) where
  -- where a step begins nothing is given
  pub gave_first : (T : List Down → ℕ → Type 0) (w : Window Down) (reached came : ℕ) → WindowIs w lane.down reached came → reached ≤ length lane.down
      → T [] came → Gave lane T w
  gave_first T w reached came is low first = record {
    more = [];
    waiting = is.waiting ∙ ap (drop w.acked) (sym (append-nil lane.down));
    acked = omega (arith, is.acked, low);
    holds = subst (λ (n : ℕ). T [] n) (sym is.taken) first;
  }

  -- a message more
  gave_sent : (T U : List Down → ℕ → Type 0) (w : Window Down) (m : Down) → ((ms : List Down) (n : ℕ) → T ms n → U (ms ++ m ∷ []) n) → Gave lane T w
      → Gave lane U (with_sent w m)
  gave_sent T U w m keeps g = record {
    more = g.more ++ m ∷ [];
    waiting =
        ap (λ (ms : List Down). ms ++ m ∷ []) g.waiting
        ∙ sym (drop-append-le w.acked (lane.down ++ g.more) (m ∷ []) (omega (arith, g.acked, length-append lane.down g.more)))
        ∙ ap (drop w.acked) (append_assoc lane.down g.more (m ∷ []));
    acked = g.acked;
    holds = keeps g.more w.taken g.holds;
  }

  -- what else a frame changes
  gave_ack_put : (T : List Down → ℕ → Type 0) (w : Window Down) → Gave lane T w → Gave lane T (with_ack_put w)
  gave_ack_put T w g = record { more = g.more; waiting = g.waiting; acked = g.acked; holds = g.holds }

  -- an acknowledgement that came
  pub gave_ack : (T : List Down → ℕ → Type 0) (w : Window Down) (ack : ℕ) → ack ≤ length lane.down → Gave lane T w → Gave lane T (with_ack w ack)
  gave_ack T w ack low g = record {
    more = g.more;
    waiting =
        ap (drop (ack - w.acked)) g.waiting ∙ drop-drop (ack - w.acked) w.acked (lane.down ++ g.more)
        ∙ ap (λ (n : ℕ). drop n (lane.down ++ g.more)) same;
    acked = omega (arith, low, g.acked);
    holds = g.holds;
  }
    where
      same : w.acked + (ack - w.acked) ≡ max w.acked ack
      same = omega arith

  -- a message that was taken
  pub gave_taken : (T U : List Down → ℕ → Type 0) (w : Window Down) (ack : ℕ) → ack ≤ length lane.down
      → ((ms : List Down) → T ms w.taken → U ms (w.taken + 1)) → Gave lane T w
      → Gave lane U (with_taken w ack)
  gave_taken T U w ack low keeps g = go (gave_ack T w ack low g)
    where
      go : Gave lane T (with_ack w ack) → Gave lane U (with_taken w ack)
      go a = record { more = a.more; waiting = a.waiting; acked = a.acked; holds = keeps a.more a.holds }

  -- a fresh one, where nothing was put before
  pub gave_fresh : (T : List Down → ℕ → Type 0) → lane.down ≡ [] → T [] 0 → Gave lane T fresh
  gave_fresh T empty first = record { more = []; waiting = sym (ap (λ (ms : List Down). drop 0 (ms ++ [])) empty); acked = omega arith; holds = first }

  -- what follows of it holds too
  pub gave_also : (T U : List Down → ℕ → Type 0) (w : Window Down) → ((ms : List Down) (n : ℕ) → T ms n → U ms n) → Gave lane T w → Gave lane U w
  gave_also T U w also g = record { more = g.more; waiting = g.waiting; acked = g.acked; holds = also g.more w.taken g.holds }

-- the window of a session in a state, where it is live
abbrev pub GaveTo : Lane → ℕ → (List Down → ℕ → Type 0) → DataState → Type 0
GaveTo lane s T d = live d.order s ≡ true → Gave lane T (window_of d s)

module _ (lane : Lane) (s : ℕ) where
  -- where the order and the windows are as they were
  pub gave_same : (T : List Down → ℕ → Type 0) (b c : Sofar) → SameWindows b c → GaveTo lane s T b.state → GaveTo lane s T c.state
  gave_same T b c same h lives =
      subst (λ (ws : List SessionWindow). Gave lane T (window_in ws s)) (sym same.windows) (h (sym (ap (λ (es : List Entry). live es s) same.order) ∙ lives))

  pub gave_follows : (T U : List Down → ℕ → Type 0) (d : DataState) → ((ms : List Down) (n : ℕ) → T ms n → U ms n) → GaveTo lane s T d → GaveTo lane s U d
  gave_follows T U d also h lives = gave_also lane T U (window_of d s) also (h lives)

  -- a window in place of the one that a session had
  pub gave_set : (T U : List Down → ℕ → Type 0) (d : DataState) (q : ℕ) (w : Window Down) → (s ≡ q → Gave lane T (window_of d q) → Gave lane U w)
      → (s ≢ q → (ms : List Down) (n : ℕ) → T ms n → U ms n) → GaveTo lane s T d → GaveTo lane s U (with_window q w d)
  gave_set T U d q w here there h lives = go (same_or s q)
    where
      go : (s ≡ q) ⊎ (s ≢ q) → Gave lane U (window_in (set_window d.windows q w) s)
      go (inl same) =
          subst (λ (k : ℕ). Gave lane U (window_in (set_window d.windows q w) k)) (sym same)
          (subst (λ (u : Window Down). Gave lane U u) (sym (set_here d.windows q w))
          (here same (subst (λ (k : ℕ). Gave lane T (window_of d k)) same (h lives))))
      go (inr apart) =
          subst (λ (u : Window Down). Gave lane U u) (sym (set_elsewhere d.windows q s w apart)) (gave_also lane T U (window_of d s) (there apart) (h lives))

  -- a frame that goes out on the connection of a session
  pub gave_tells : (T : List Down → ℕ → Type 0) (q conn n : ℕ) (m : Down) (b : Sofar) → GaveTo lane s T b.state → GaveTo lane s T (tells q conn n m b).state
  gave_tells T q conn n m b h =
      gave_set T T b.state q (with_ack_put (window_of b.state q)) (λ same g. gave_ack_put lane T (window_of b.state q) g) (λ apart ms k is. is) h

  -- a message that is put to a session
  pub gave_puts : (T U : List Down → ℕ → Type 0) (q : ℕ) (m : Down) (b : Sofar) → (s ≡ q → (ms : List Down) (n : ℕ) → T ms n → U (ms ++ m ∷ []) n)
      → (s ≢ q → (ms : List Down) (n : ℕ) → T ms n → U ms n) → GaveTo lane s T b.state → GaveTo lane s U (puts q m b).state
  gave_puts T U q m b here there h = subst (λ (d : DataState). GaveTo lane s U d) (sym (puts_state q m b)) (go (conn_of b.state q))
    where
      once : GaveTo lane s U (with_window q (with_sent (window_of b.state q) m) b.state)
      once = gave_set T U b.state q (with_sent (window_of b.state q) m) (λ same g. gave_sent lane T U (window_of b.state q) m (here same) g) there h

      go : (o : Option ℕ) → GaveTo lane s U (with_windows (windows_put o q m b.state.windows) b.state)
      go None = once
      go (Some conn) =
          gave_set U U (with_window q (with_sent (window_of b.state q) m) b.state) q
          (with_ack_put (window_of (with_window q (with_sent (window_of b.state q) m) b.state) q))
          (λ same g. gave_ack_put lane U (window_of (with_window q (with_sent (window_of b.state q) m) b.state) q) g) (λ apart ms n is. is) once

-- the order is as it was as well
pub record GaveIn (lane : Lane) (s : ℕ) (T : List Down → ℕ → Type 0) (es : List Entry) (c : Sofar) : Type 0 where
  pub order : c.state.order ≡ es
  pub given : GaveTo lane s T c.state

-- messages that neither tell of a round nor answer a Fetch

abbrev pub is_plain : Down → Bool
is_plain m = not (is_normal_down m) && not (is_block m)

-- what such a message leaves
abbrev pub LeftByPlain : (List Down → ℕ → Type 0) → Type 0
LeftByPlain T = (m : Down) → is_plain m ≡ true → (ms : List Down) (n : ℕ) → T ms n → T (ms ++ m ∷ []) n

module _ (lane : Lane) (s : ℕ) (T : List Down → ℕ → Type 0) (plain : LeftByPlain T) where
  pub gave_plain : (q : ℕ) (m : Down) (b : Sofar) → is_plain m ≡ true → GaveTo lane s T b.state → GaveTo lane s T (puts q m b).state
  gave_plain q m b is h = gave_puts lane s T T q m b (λ same. plain m is) (λ apart ms n at. at) h

  gave_drops : (before : ℕ) (xs : List Noted) (b : Sofar) → GaveTo lane s T b.state → GaveTo lane s T (drops before xs b).state
  gave_drops before [] b h = h
  gave_drops before (x ∷ xs) b h =
      gave_drops before xs (drops_one before x xs b)
      (gave_plain x.session (down.Drop (drop_head (list_any (is_noted_for x.session) xs) b.state before x.session) x.span.lo x.span.hi) b refl h)

  -- an entry more, whose Drops are put
  pub gave_appends : (e : Entry) (b : Sofar) → (live (b.state.order ++ e ∷ []) s ≡ true → Gave lane T (window_of b.state s))
      → GaveTo lane s T (appends e b).state
  gave_appends e b h = gave_drops (length b.state.order) (touched (spans_of b.state e) b.state.noted) (becomes (with_entry e (spans_of b.state e)) b) h

  -- a session that opens, to which nothing was put before
  pub gave_opens : (app conn now : ℕ) (b : Sofar) → (s ≡ length b.state.order + 1 → (lane.down ≡ []) × T [] 0) → GaveTo lane s T b.state
      → GaveTo lane s T (opens app conn now b).state
  gave_opens app conn now b new h lives = go (same_or s q)
    where
      q : ℕ
      q = length b.state.order + 1

      entered : Sofar
      entered = enters (Opened q app) b

      rest : s ≢ q → GaveTo lane s T entered.state
      rest apart =
          gave_appends (Opened q app) (writes (act.Enter b.state.server (Opened q app)) b) (λ is. was (open_or b.state.order q app s is))
        where
          was : (s ≡ q) ⊎ (live b.state.order s ≡ true) → Gave lane T (window_of b.state s)
          was (inl same) = absurd (apart same)
          was (inr is) = h is

      go : (s ≡ q) ⊎ (s ≢ q) → Gave lane T (window_in (set_window entered.state.windows q fresh) s)
      go (inl same) =
          subst (λ (k : ℕ). Gave lane T (window_in (set_window entered.state.windows q fresh) k)) (sym same)
          (subst (λ (u : Window Down). Gave lane T u) (sym (set_here entered.state.windows q fresh)) (gave_fresh lane T (new same).0 (new same).1))
      go (inr apart) = subst (λ (u : Window Down). Gave lane T u) (sym (set_elsewhere entered.state.windows q s fresh apart)) (rest apart lives)

  -- a session that closes
  pub gave_closes : (q app : ℕ) (cause : ShutCause) (now : ℕ) (b : Sofar) → GaveTo lane s T b.state → GaveTo lane s T (shuts q app cause now b).state
  gave_closes q app cause now b h = go (same_parts cause (conn_of b.state q) q (with_close q cause b))
    where
      quiet : Sofar
      quiet = becomes (silenced q) (writes (act.Shut b.state.server q cause) b)

      closed : GaveTo lane s T (with_close q cause b).state
      closed =
          gave_appends (Closed q) quiet
          (λ lives.
          let at : (s ≢ q) × (live b.state.order s ≡ true) = close_live b.state.order q s lives in
          subst (λ (u : Window Down). Gave lane T u) (sym (gone_elsewhere b.state.windows q s at.0)) (h at.1))

      go : SameWindows (with_close q cause b) (parts_from cause (conn_of b.state q) q (with_close q cause b)) → GaveTo lane s T (shuts q app cause now b).state
      go same = gave_same lane s T (with_close q cause b) (shuts q app cause now b) (record { windows = same.windows; order = same.order }) closed

  -- a reply that leaves
  pub gave_leaves : (says : Says) (b : Sofar) → GaveTo lane s T b.state → GaveTo lane s T (leaves says b).state
  gave_leaves (NewWelcome conn q) b h = gave_tells lane s T q conn 0 (new_welcome b.state q) b h
  gave_leaves (EpochWelcome conn q kept) b h = gave_tells lane s T q conn 0 (epoch_welcome b.state q kept) b h
  gave_leaves (ResetOf conn q at) b h = h
  gave_leaves (GrantOf q ticket at) b h = gave_plain q (down.Grant (head_of b.state q) ticket at) b refl h
  gave_leaves (AnswerOf q about job number at sum) b h = gave_plain q (down.Answer (head_of b.state q) about job number at sum) b refl h

  gave_all_leave : (rs : List Reply) (b : Sofar) → GaveTo lane s T b.state → GaveTo lane s T (all_leave rs b).state
  gave_all_leave [] b h = h
  gave_all_leave (r ∷ rs) b h = gave_all_leave rs (leaves r.says b) (gave_leaves r.says b h)

  -- those that may leave do
  pub gave_flushed : (b : Sofar) → GaveTo lane s T b.state → GaveTo lane s T (flushed b).state
  gave_flushed b h = gave_all_leave (filter (may_leave b.state.synced) b.state.replies) (becomes with_waiting b) h

  -- what was put goes out again
  pub gave_again : (q conn : ℕ) (ms : List (ℕ × Down)) (b : Sofar) → GaveTo lane s T b.state → GaveTo lane s T (sends_again q conn ms b).state
  gave_again q conn [] b h = h
  gave_again q conn (m ∷ ms) b h = gave_again q conn ms (tells q conn m.0 m.1 b) (gave_tells lane s T q conn m.0 m.1 b h)

  -- an acknowledgement by itself
  pub gave_bares : (r : Option Role) (b : Sofar) → GaveTo lane s T b.state → GaveTo lane s T (bares_role r b).state
  gave_bares r b h = go r
    where
      by : (q conn : ℕ) (owed : Bool) → GaveTo lane s T (bare_to owed q conn b).state
      by q conn true = gave_tells lane s T q conn 0 down.Bare b h
      by q conn false = h

      on : (q : ℕ) (o : Option ℕ) → GaveTo lane s T (bare_on o q b).state
      on q None = h
      on q (Some conn) = by q conn (owes_bare (window_of b.state q))

      go : (o : Option Role) → GaveTo lane s T (bares_role o b).state
      go None = h
      go (Some New) = h
      go (Some Waiting) = h
      go (Some (Bound q)) = on q (conn_of b.state q)
      go (Some (Closing q)) = h
