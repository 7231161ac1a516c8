-- How many messages of a session are counted as taken, over each small change of a data server's step.
use Rattle.std.proofs.Common.{◌≡◌, ◌≢◌, ◌≤◌, ◌⊎◌, inl, inr, ℕ, ◌+◌, true, List, [], ◌∷◌, ◌++◌, length, Some, refl, sym, ◌∙◌, ap, subst, arith}
use Rattle.std.proofs.lemmas.List.{length-append}
use Rattle.plain_orders.specs.declared.act.Act.TheVariants as act
use Rattle.plain_orders.specs.declared.causes.ShutCause.{ShutCause}
use Rattle.plain_orders.specs.declared.entry.Entry.{Entry}
use Rattle.plain_orders.specs.declared.entry.Entry.TheVariants.{Closed, Opened}
use Rattle.plain_orders.specs.Entries.{live}
use Rattle.ecp_messages.specs.declared.down.Down.{Down}
use Rattle.ecp_messages.specs.declared.down.Down.TheVariants as down
use Rattle.ecp_messages.specs.declared.up.UpFrame.{UpFrame}
use Rattle.end_words.specs.Windows.{Window, fresh, with_ack, with_taken}
use Rattle.data_rules.specs.DataState.{DataState, SessionWindow}
use Rattle.data_rules.specs.Callers.{waiting_conn}
use Rattle.data_rules.specs.Closing.{silenced}
use Rattle.data_rules.specs.Conns.{end_breaks, is_normal, link_of, without_conn}
use Rattle.data_rules.specs.Entering.{enters}
use Rattle.data_rules.specs.Opening.{live_ends, opens}
use Rattle.data_rules.specs.Puts.{Sofar, becomes, conn_of, head_of, set_window, window_in, writes}
use Rattle.cluster_invariant.proofs.PieceKinds.{Piece, Accepts, Forgets, Breaks, Dials, Waits, Opens, OpensNext, Resumes, GoesOn, ComesAgain, AwaitsReset, Closes, Acknowledges, Takes, TakesDone, Enters, Fetches, PutsNormal, PutsAck, Replies, Leaves, Bares, Locks, RoundEnds, Ticks, calls, makes, next_caller, shuts, with_close, with_replies}
use Rattle.cluster_invariant.proofs.PieceMay.{ComesAgainMay, Coming, TakesMay}
use Rattle.cluster_invariant.proofs.Pieces.{MayMake}
use Rattle.cluster_invariant.proofs.PutLaws.{only_leaves, only_puts}
use Rattle.data_pieces.proofs.PieceFacts.{enters_facts, opens_facts, shuts_facts}
use Rattle.data_pieces.proofs.QuietPieces.{quiet_goes_on}
use Rattle.data_puts.proofs.TakenSame.{set_taken, taken_appends, taken_bare, taken_goes_on, taken_leaves, taken_puts}
use Rattle.link_kept.proofs.WindowLists.{gone_elsewhere, set_elsewhere, set_here}
use Rattle.link_kept.proofs.WindowPieces.{SameWindows, item_still, same_breaks, same_calls, same_cuts, same_drops, same_parts, same_round}
use Rattle.link_kept.proofs.WindowsGo.{close_live, open_or, same_or, still_live}

module _ (s n : ℕ) where
  -- the window of a session, as long as it is live, counts so many
  pub record TakenIs (b : Sofar) : Type 0 where
    pub there : s ≤ length b.state.order
    pub counted : live b.state.order s ≡ true → (window_in b.state.windows s).taken ≡ n

  pub taken_same : (b c : Sofar) → c.state.order ≡ b.state.order → (window_in c.state.windows s).taken ≡ (window_in b.state.windows s).taken → TakenIs b → TakenIs c
  taken_same b c order same h = record {
    there = subst (λ (es : List Entry). s ≤ length es) (sym order) h.there;
    counted = λ lives. same ∙ h.counted (ap (λ (es : List Entry). live es s) (sym order) ∙ lives);
  }

  pub taken_beside : (b c : Sofar) → SameWindows b c → TakenIs b → TakenIs c
  taken_beside b c same h = taken_same b c same.order (ap (λ (ws : List SessionWindow). (window_in ws s).taken) same.windows) h

  taken_via : (b m c : Sofar) → SameWindows b m → c.state.order ≡ m.state.order → c.state.windows ≡ m.state.windows → TakenIs b → TakenIs c
  taken_via b m c same order windows h = taken_same b c (order ∙ same.order) (ap (λ (ws : List SessionWindow). (window_in ws s).taken) (windows ∙ same.windows)) h

  -- an entry more
  taken_push : (b c : Sofar) (e : Entry) → c.state.order ≡ b.state.order ++ e ∷ [] → (live (b.state.order ++ e ∷ []) s ≡ true → live b.state.order s ≡ true)
      → (live (b.state.order ++ e ∷ []) s ≡ true → (window_in c.state.windows s).taken ≡ (window_in b.state.windows s).taken) → TakenIs b → TakenIs c
  taken_push b c e order lives same h = record {
    there = subst (λ (es : List Entry). s ≤ length es) (sym order) (omega (arith, h.there, length-append b.state.order (e ∷ [])));
    counted = λ is. go (ap (λ (es : List Entry). live es s) (sym order) ∙ is);
  }
    where
      go : live (b.state.order ++ e ∷ []) s ≡ true → (window_in c.state.windows s).taken ≡ n
      go is = same is ∙ h.counted (lives is)

  taken_opens : (app conn now : ℕ) (b : Sofar) → TakenIs b → TakenIs (opens app conn now b)
  taken_opens app conn now b h =
      taken_push b (opens app conn now b) (Opened (length b.state.order + 1) app) (opens_facts app conn now b).order (λ is. go (open_or b.state.order (length b.state.order + 1) app s is))
      (λ is.
      ap (λ (w : Window Down). w.taken) (set_elsewhere _ (length b.state.order + 1) s fresh (λ new. (let there : s ≤ length b.state.order = h.there in absurd (omega (arith, new, there)))))
      ∙ taken_appends (Opened (length b.state.order + 1) app) (writes (act.Enter b.state.server (Opened (length b.state.order + 1) app)) b) s) h
    where
      go : (s ≡ length b.state.order + 1) ⊎ (live b.state.order s ≡ true) → live b.state.order s ≡ true
      go (inl new) = absurd (omega (arith, new, h.there))
      go (inr was) = was

  taken_closes : (q app : ℕ) (cause : ShutCause) (now : ℕ) (b : Sofar) → TakenIs b → TakenIs (shuts q app cause now b)
  taken_closes q app cause now b h =
      taken_push b (shuts q app cause now b) (Closed q) (shuts_facts q app cause now b).order (λ is. (close_live b.state.order q s is).1) (λ is. windows (close_live b.state.order q s is).0) h
    where
      windows : s ≢ q → (window_in (shuts q app cause now b).state.windows s).taken ≡ (window_in b.state.windows s).taken
      windows differs =
          ap (λ (ws : List SessionWindow). (window_in ws s).taken) (same_parts cause (conn_of b.state q) q (with_close q cause b)).windows
          ∙ taken_appends (Closed q) (becomes (silenced q) (writes (act.Shut b.state.server q cause) b)) s
          ∙ ap (λ (w : Window Down). w.taken) (gone_elsewhere b.state.windows q s differs)

  -- a window is replaced
  taken_set : (q : ℕ) (w : Window Down) (b c : Sofar) → c.state.order ≡ b.state.order → c.state.windows ≡ set_window b.state.windows q w → (s ≡ q → w.taken ≡ n) → TakenIs b → TakenIs c
  taken_set q w b c order windows here h = record {
    there = subst (λ (es : List Entry). s ≤ length es) (sym order) h.there;
    counted = λ lives. ap (λ (ws : List SessionWindow). (window_in ws s).taken) windows ∙ go (ap (λ (es : List Entry). live es s) (sym order) ∙ lives) (same_or s q);
  }
    where
      go : live b.state.order s ≡ true → (s ≡ q) ⊎ (s ≢ q) → (window_in (set_window b.state.windows q w) s).taken ≡ n
      go lives (inl same) = ap (λ (k : ℕ). (window_in (set_window b.state.windows q w) k).taken) same ∙ ap (λ (v : Window Down). v.taken) (set_here b.state.windows q w) ∙ here same
      go lives (inr apart) = ap (λ (v : Window Down). v.taken) (set_elsewhere b.state.windows q s w apart) ∙ h.counted lives

  module _ (t : Coming) where
    -- Each of them, where no message of the session is taken, and where it comes again nothing was.
    pub taken_piece : (q : Piece) (b : Sofar) → MayMake t q b → ((conn : ℕ) (up : UpFrame) → TakesMay t conn s up b → ⊥) → ((conn kept : ℕ) → ComesAgainMay t s conn kept b → n ≡ 0) → TakenIs b
        → TakenIs (makes t.now q b)
    taken_piece (Accepts conn) b may takes again h = taken_same b (makes t.now (Accepts conn) b) refl refl h
    taken_piece (Forgets ending conn) b may takes again h =
        taken_beside (becomes (without_conn conn) b) (makes t.now (Forgets ending conn) b) (same_cuts ending conn (becomes (without_conn conn) b)) (taken_same b (becomes (without_conn conn) b) refl refl h)
    taken_piece (Breaks ending conn session app) b may takes again h =
        taken_beside (end_breaks (Some app) t.now (becomes (without_conn conn) b)) (makes t.now (Breaks ending conn session app) b)
        (same_cuts ending conn (end_breaks (Some app) t.now (becomes (without_conn conn) b)))
        (taken_via (becomes (without_conn conn) b) _ (end_breaks (Some app) t.now (becomes (without_conn conn) b))
        (same_breaks (is_normal (link_of (without_conn conn b.state) app)) app t.now (becomes (without_conn conn) b)) refl refl (taken_same b (becomes (without_conn conn) b) refl refl h))
    taken_piece (Dials app dial) b may takes again h = taken_same b (makes t.now (Dials app dial) b) refl refl h
    taken_piece (Waits app conn) b may takes again h = taken_via b _ (makes t.now (Waits app conn) b) (same_drops (waiting_conn b.state app) b) refl refl h
    taken_piece (Opens app conn) b may takes again h = taken_opens app conn t.now b h
    taken_piece (OpensNext app conn) b may takes again h = taken_opens app conn t.now (becomes next_caller b) (taken_same b (becomes next_caller b) refl refl h)
    taken_piece (Resumes app session conn) b may takes again h = taken_via b _ (makes t.now (Resumes app session conn) b) (same_drops (conn_of b.state session) b) refl refl h
    taken_piece (GoesOn session conn taken) b may takes again h =
        taken_same b (makes t.now (GoesOn session conn taken) b) (quiet_goes_on session conn taken b).core.order (taken_goes_on session conn taken b s) h
    taken_piece (ComesAgain session conn kept) b may takes again h =
        taken_set session fresh b (makes t.now (ComesAgain session conn kept) b) refl refl (λ same. sym (again conn kept (subst (λ (k : ℕ). ComesAgainMay t k conn kept b) (sym same) may))) h
    taken_piece (AwaitsReset session conn at) b may takes again h = taken_same b (makes t.now (AwaitsReset session conn at) b) refl refl h
    taken_piece (Closes session app cause) b may takes again h = taken_closes session app cause t.now b h
    taken_piece (Acknowledges conn session up) b may takes again h =
        taken_same b (makes t.now (Acknowledges conn session up) b) refl (set_taken b.state.windows session (with_ack (window_in b.state.windows session) up.ack) refl s) h
    taken_piece (Takes conn session up) b may takes again h =
        taken_set session (with_taken (window_in b.state.windows session) up.ack) b (makes t.now (Takes conn session up) b) refl refl
        (λ same. absurd (takes conn up (subst (λ (k : ℕ). TakesMay t conn k up b) (sym same) may))) h
    taken_piece (TakesDone conn session up) b may takes again h =
        taken_set session (with_taken (window_in b.state.windows session) up.ack) b (makes t.now (TakesDone conn session up) b) refl refl
        (λ same. absurd (takes conn up (subst (λ (k : ℕ). TakesMay t conn k up b) (sym same) may.takes))) h
    taken_piece (Enters e) b may takes again h =
        taken_push b (enters e b) e (enters_facts e b).order (λ is. sym (still_live b.state.order e s (item_still may.session may.its.up.message e may.item)) ∙ is)
        (λ is. taken_appends e (writes (act.Enter b.state.server e) b) s) h
    taken_piece (Fetches session run block) b may takes again h =
        taken_same b (makes t.now (Fetches session run block) b) (ap (λ (d : DataState). d.order) (only_puts session (down.Block (head_of b.state session) block) b).state)
        (taken_puts session (down.Block (head_of b.state session) block) b s) h
    taken_piece (PutsNormal app session) b may takes again h =
        taken_same b (makes t.now (PutsNormal app session) b) (ap (λ (d : DataState). d.order) (only_puts session (down.Normal (head_of b.state session)) b).state)
        (taken_puts session (down.Normal (head_of b.state session)) b s) h
    taken_piece (PutsAck session) b may takes again h =
        taken_same b (makes t.now (PutsAck session) b) (ap (λ (d : DataState). d.order) (only_puts session (down.Ack (head_of b.state session)) b).state)
        (taken_puts session (down.Ack (head_of b.state session)) b s) h
    taken_piece (Replies at says) b may takes again h = taken_same b (makes t.now (Replies at says) b) refl refl h
    taken_piece (Leaves before r behind) b may takes again h =
        taken_same b (makes t.now (Leaves before r behind) b) (ap (λ (d : DataState). d.order) (only_leaves r.says (becomes (with_replies (before ++ behind)) b)).state)
        (taken_leaves r.says (becomes (with_replies (before ++ behind)) b) s) h
    taken_piece (Bares session conn) b may takes again h = taken_same b (makes t.now (Bares session conn) b) refl (taken_bare session conn b s) h
    taken_piece (Locks call) b may takes again h = taken_beside b (calls call b) (same_calls call b) h
    taken_piece RoundEnds b may takes again h = taken_via b _ (makes t.now RoundEnds b) (same_round (live_ends b.state.order) t.now b) refl refl h
    taken_piece (Ticks app session) b may takes again h = taken_same b (makes t.now (Ticks app session) b) refl refl h
