-- How many messages the window of a session counts, over each small change of a data server's step.
use Rattle.std.proofs.Common.{◌≡◌, ◌≢◌, ◌⊎◌, inl, inr, ℕ, ◌+◌, Bool, true, false, if◌then◌else◌, List, [], ◌∷◌, ◌++◌, filter, length, Some, refl, sym, ◌∙◌, ap, subst}
use Rattle.std.specs.List.{list_any}
use Rattle.std.proofs.lemmas.Bool.{ne_eqb}
use Rattle.plain_orders.specs.declared.causes.ShutCause.{ShutCause}
use Rattle.plain_orders.specs.declared.act.Act.TheVariants as act
use Rattle.plain_orders.specs.declared.entry.Entry.{Entry}
use Rattle.plain_orders.specs.declared.entry.Entry.TheVariants.{Closed, Opened}
use Rattle.plain_orders.specs.Entries.{live}
use Rattle.plain_orders.proofs.EntryLemmas.{live-push}
use Rattle.ecp_messages.specs.declared.down.Down.{Down}
use Rattle.ecp_messages.specs.declared.down.Down.TheVariants as down
use Rattle.ecp_messages.specs.declared.up.UpFrame.{UpFrame}
use Rattle.end_words.specs.Windows.{Window, fresh, with_ack, with_taken}
use Rattle.data_rules.specs.DataState.{DataState, SessionWindow}
use Rattle.data_rules.specs.Callers.{waiting_conn}
use Rattle.data_rules.specs.Closing.{silenced}
use Rattle.data_rules.specs.Conns.{end_breaks, is_normal, link_of, without_conn}
use Rattle.data_rules.specs.Entering.{enters}
use Rattle.data_rules.specs.Opening.{live_ends, opens}
use Rattle.data_rules.specs.Puts.{Sofar, becomes, conn_of, head_of, is_window_elsewhere, puts, set_window, window_in, writes}
use Rattle.cluster_invariant.specs.Link.{is_window_of}
use Rattle.cluster_invariant.proofs.PieceKinds.{Piece, Accepts, Forgets, Breaks, Dials, Waits, Opens, OpensNext, Resumes, GoesOn, ComesAgain, AwaitsReset, Closes, Acknowledges, Takes, TakesDone, Enters, Fetches, PutsNormal, PutsAck, Replies, Leaves, Bares, Locks, RoundEnds, Ticks, calls, makes, next_caller, shuts, with_close, with_replies}
use Rattle.cluster_invariant.proofs.PieceMay.{ComesAgainMay, Coming, TakesMay}
use Rattle.cluster_invariant.proofs.Pieces.{MayMake}
use Rattle.cluster_invariant.proofs.PiecesOfCloses.{closed_dead}
use Rattle.cluster_invariant.proofs.PutLaws.{only_leaves, only_puts}
use Rattle.data_pieces.proofs.PieceFacts.{enters_facts, opens_facts, shuts_facts}
use Rattle.data_pieces.proofs.QuietPieces.{quiet_goes_on}
use Rattle.data_puts.proofs.TakenSame.{SameTaken, set_taken, taken_appends, taken_bare, taken_goes_on, taken_leaves, taken_puts}
use Rattle.link_kept.proofs.FitsWell.{closes_may, may_close}
use Rattle.link_kept.proofs.WindowLists.{gone_elsewhere, gone_there, none_there, set_elsewhere, set_here}
use Rattle.link_kept.proofs.WindowPieces.{SameWindows, item_still, same_breaks, same_calls, same_cuts, same_drops, same_parts, same_round}
use Rattle.link_kept.proofs.WindowsGo.{same_or, still_live}

-- how many messages its window counts
abbrev pub taken_in : Sofar → ℕ → ℕ
taken_in b s = (window_in b.state.windows s).taken

-- the session is as it was
pub record CountStays (b c : Sofar) (s : ℕ) : Type 0 where
  pub taken : taken_in c s ≡ taken_in b s
  pub lives : live c.state.order s ≡ live b.state.order s

-- its window begins anew: the session opens, or comes again
pub record CountBegins (t : Coming) (b c : Sofar) (s : ℕ) : Type 0 where
  pub taken : taken_in c s ≡ 0
  pub why : (s ≡ length b.state.order + 1) ⊎ ((conn : ℕ) × (kept : ℕ) × ComesAgainMay t s conn kept b)

-- the session is closed
pub record CountEnds (t : Coming) (c : Sofar) (s : ℕ) : Type 0 where
  pub taken : taken_in c s ≡ 0
  pub dead : live c.state.order s ≡ false
  pub closes : may_close t.input ≡ true

-- the next message of it was taken
pub record CountMore (t : Coming) (b c : Sofar) (s : ℕ) : Type 0 where
  pub conn : ℕ
  pub f : UpFrame
  pub may : TakesMay t conn s f b
  pub taken : taken_in c s ≡ taken_in b s + 1
  pub lives : live c.state.order s ≡ live b.state.order s

-- What a small change makes of it.
abbrev pub Counts : Coming → Sofar → Sofar → ℕ → Type 0
Counts t b c s = CountStays b c s ⊎ CountBegins t b c s ⊎ CountEnds t c s ⊎ CountMore t b c s

module _ (t : Coming) (s : ℕ) where
  stays_by : (b c : Sofar) → SameTaken b c → c.state.order ≡ b.state.order → Counts t b c s
  stays_by b c taken order = inl (record { taken = taken s; lives = ap (λ (es : List Entry). live es s) order })

  stays_same : (b c : Sofar) → SameWindows b c → Counts t b c s
  stays_same b c same = stays_by b c (λ q. ap (λ (ws : List SessionWindow). (window_in ws q).taken) same.windows) same.order

  -- a session opens
  open_counts : (app conn now : ℕ) (a b : Sofar) → SameWindows a b → Counts t a (opens app conn now b) s
  open_counts app conn now a b from = go (same_or s n)
    where
      n : ℕ
      n = length b.state.order + 1

      go : (s ≡ n) ⊎ (s ≢ n) → Counts t a (opens app conn now b) s
      go (inl same) =
          inr (inl (record {
            taken =
                subst (λ (k : ℕ). taken_in (opens app conn now b) k ≡ 0) (sym same)
                (ap (λ (w : Window Down). w.taken) (set_here (enters (Opened n app) b).state.windows n fresh));
            why = inl (same ∙ ap (λ (es : List Entry). length es + 1) from.order);
          }))
      go (inr other) =
          inl (record {
            taken =
                ap (λ (w : Window Down). w.taken) (set_elsewhere (enters (Opened n app) b).state.windows n s fresh other)
                ∙ taken_appends (Opened n app) (writes (act.Enter b.state.server (Opened n app)) b) s
                ∙ ap (λ (ws : List SessionWindow). (window_in ws s).taken) from.windows;
            lives =
                ap (λ (es : List Entry). live es s) (opens_facts app conn now b).order ∙ live-push b.state.order (Opened n app) s
                ∙ ap (λ (x : Bool). if x then true else live b.state.order s) (ne_eqb n s (λ is. other (sym is)))
                ∙ ap (λ (es : List Entry). live es s) from.order;
          })

  -- a session is closed
  close_counts : (q app : ℕ) (cause : ShutCause) (now : ℕ) (b : Sofar) → may_close t.input ≡ true → Counts t b (shuts q app cause now b) s
  close_counts q app cause now b closes = go (same_or s q)
    where
      c : Sofar
      c = shuts q app cause now b

      order : c.state.order ≡ b.state.order ++ Closed q ∷ []
      order = (shuts_facts q app cause now b).order

      gone : (k : ℕ) → taken_in c k ≡ (window_in (filter (is_window_elsewhere q) b.state.windows) k).taken
      gone k =
          ap (λ (ws : List SessionWindow). (window_in ws k).taken) (same_parts cause (conn_of b.state q) q (with_close q cause b)).windows
          ∙ taken_appends (Closed q) (becomes (silenced q) (writes (act.Shut b.state.server q cause) b)) k

      none : (x : Bool) → list_any (is_window_of q) (filter (is_window_elsewhere q) b.state.windows) ≡ x → window_in (filter (is_window_elsewhere q) b.state.windows) q ≡ fresh
      none true there = absurd ((gone_there b.state.windows q q there).0 refl)
      none false there = none_there (filter (is_window_elsewhere q) b.state.windows) q there

      go : (s ≡ q) ⊎ (s ≢ q) → Counts t b c s
      go (inl same) =
          inr (inr (inl (record {
            taken =
                subst (λ (k : ℕ). taken_in c k ≡ 0) (sym same)
                (gone q ∙ ap (λ (w : Window Down). w.taken) (none (list_any (is_window_of q) (filter (is_window_elsewhere q) b.state.windows)) refl));
            dead = subst (λ (k : ℕ). live c.state.order k ≡ false) (sym same) (ap (λ (es : List Entry). live es q) order ∙ closed_dead b.state.order q);
            closes = closes;
          })))
      go (inr other) =
          inl (record {
            taken = gone s ∙ ap (λ (w : Window Down). w.taken) (gone_elsewhere b.state.windows q s other);
            lives =
                ap (λ (es : List Entry). live es s) order ∙ live-push b.state.order (Closed q) s
                ∙ ap (λ (x : Bool). if x then false else live b.state.order s) (ne_eqb q s (λ is. other (sym is)));
          })

  -- one comes again
  again_counts : (q conn kept : ℕ) (b : Sofar) → ComesAgainMay t q conn kept b → Counts t b (makes t.now (ComesAgain q conn kept) b) s
  again_counts q conn kept b may = go (same_or s q)
    where
      go : (s ≡ q) ⊎ (s ≢ q) → Counts t b (makes t.now (ComesAgain q conn kept) b) s
      go (inl same) =
          inr (inl (record {
            taken =
                subst (λ (k : ℕ). (window_in (set_window b.state.windows q fresh) k).taken ≡ 0) (sym same)
                (ap (λ (w : Window Down). w.taken) (set_here b.state.windows q fresh));
            why = inr (conn, kept, subst (λ (k : ℕ). ComesAgainMay t k conn kept b) (sym same) may);
          }))
      go (inr other) =
          inl (record { taken = ap (λ (w : Window Down). w.taken) (set_elsewhere b.state.windows q s fresh other); lives = refl })

  -- a message is taken
  more_counts : (q conn : ℕ) (f : UpFrame) (b c : Sofar) → TakesMay t conn q f b → c.state.order ≡ b.state.order
      → c.state.windows ≡ set_window b.state.windows q (with_taken (window_in b.state.windows q) f.ack) → Counts t b c s
  more_counts q conn f b c may order windows = go (same_or s q)
    where
      go : (s ≡ q) ⊎ (s ≢ q) → Counts t b c s
      go (inl same) =
          inr (inr (inr (record {
            conn = conn;
            f = f;
            may = subst (λ (k : ℕ). TakesMay t conn k f b) (sym same) may;
            taken =
                subst (λ (k : ℕ). taken_in c k ≡ taken_in b k + 1) (sym same)
                (ap (λ (ws : List SessionWindow). (window_in ws q).taken) windows
                ∙ ap (λ (w : Window Down). w.taken) (set_here b.state.windows q (with_taken (window_in b.state.windows q) f.ack)));
            lives = ap (λ (es : List Entry). live es s) order;
          })))
      go (inr other) =
          inl (record {
            taken =
                ap (λ (ws : List SessionWindow). (window_in ws s).taken) windows
                ∙ ap (λ (w : Window Down). w.taken) (set_elsewhere b.state.windows q s (with_taken (window_in b.state.windows q) f.ack) other);
            lives = ap (λ (es : List Entry). live es s) order;
          })

  -- a message is put
  put_counts : (q : ℕ) (m : Down) (b c : Sofar) → c.state.windows ≡ (puts q m b).state.windows → c.state.order ≡ (puts q m b).state.order → Counts t b c s
  put_counts q m b c windows order =
      stays_by b c (λ k. ap (λ (ws : List SessionWindow). (window_in ws k).taken) windows ∙ taken_puts q m b k)
      (order ∙ ap (λ (d : DataState). d.order) (only_puts q m b).state)

  -- Each of them.
  pub counts_piece : (p : Piece) (b : Sofar) → MayMake t p b → Counts t b (makes t.now p b) s
  counts_piece (Accepts conn) b may = stays_by b _ (λ q. refl) refl
  counts_piece (Forgets ending conn) b may =
      stays_same b (makes t.now (Forgets ending conn) b)
      (record { windows = (same_cuts ending conn (becomes (without_conn conn) b)).windows; order = (same_cuts ending conn (becomes (without_conn conn) b)).order })
  counts_piece (Breaks ending conn session app) b may =
      stays_same b (makes t.now (Breaks ending conn session app) b)
      (record {
        windows = (same_cuts ending conn (end_breaks (Some app) t.now (becomes (without_conn conn) b))).windows
            ∙ (same_breaks (is_normal (link_of b.state app)) app t.now (becomes (without_conn conn) b)).windows;
        order = (same_cuts ending conn (end_breaks (Some app) t.now (becomes (without_conn conn) b))).order
            ∙ (same_breaks (is_normal (link_of b.state app)) app t.now (becomes (without_conn conn) b)).order;
      })
  counts_piece (Dials app dial) b may = stays_by b _ (λ q. refl) refl
  counts_piece (Waits app conn) b may =
      stays_same b (makes t.now (Waits app conn) b)
      (record { windows = (same_drops (waiting_conn b.state app) b).windows; order = (same_drops (waiting_conn b.state app) b).order })
  counts_piece (Opens app conn) b may = open_counts app conn t.now b b (record { windows = refl; order = refl })
  counts_piece (OpensNext app conn) b may = open_counts app conn t.now b (becomes next_caller b) (record { windows = refl; order = refl })
  counts_piece (Resumes app session conn) b may =
      stays_same b (makes t.now (Resumes app session conn) b)
      (record { windows = (same_drops (conn_of b.state session) b).windows; order = (same_drops (conn_of b.state session) b).order })
  counts_piece (GoesOn session conn taken) b may =
      stays_by b (makes t.now (GoesOn session conn taken) b) (taken_goes_on session conn taken b) (quiet_goes_on session conn taken b).core.order
  counts_piece (ComesAgain session conn kept) b may = again_counts session conn kept b may
  counts_piece (AwaitsReset session conn at) b may = stays_by b _ (λ q. refl) refl
  counts_piece (Closes session app cause) b may = close_counts session app cause t.now b (closes_may t session app cause b may.why)
  counts_piece (Acknowledges conn session f) b may =
      stays_by b _ (set_taken b.state.windows session (with_ack (window_in b.state.windows session) f.ack) refl) refl
  counts_piece (Takes conn session f) b may = more_counts session conn f b (makes t.now (Takes conn session f) b) may refl refl
  counts_piece (TakesDone conn session f) b may = more_counts session conn f b (makes t.now (TakesDone conn session f) b) may.takes refl refl
  counts_piece (Enters e) b may =
      inl (record {
        taken = taken_appends e (writes (act.Enter b.state.server e) b) s;
        lives = ap (λ (es : List Entry). live es s) (enters_facts e b).order ∙ still_live b.state.order e s (item_still may.session may.its.up.message e may.item);
      })
  counts_piece (Fetches session run block) b may = put_counts session (down.Block (head_of b.state session) block) b _ refl refl
  counts_piece (PutsNormal app session) b may = put_counts session (down.Normal (head_of b.state session)) b _ refl refl
  counts_piece (PutsAck session) b may = put_counts session (down.Ack (head_of b.state session)) b _ refl refl
  counts_piece (Replies at says) b may = stays_by b _ (λ q. refl) refl
  counts_piece (Leaves before r behind) b may =
      stays_by b (makes t.now (Leaves before r behind) b) (taken_leaves r.says (becomes (with_replies (before ++ behind)) b))
      (ap (λ (d : DataState). d.order) (only_leaves r.says (becomes (with_replies (before ++ behind)) b)).state)
  counts_piece (Bares session conn) b may = stays_by b _ (taken_bare session conn b) refl
  counts_piece (Locks call) b may = stays_same b (calls call b) (same_calls call b)
  counts_piece RoundEnds b may = stays_same b (makes t.now RoundEnds b) (same_round (live_ends b.state.order) t.now b)
  counts_piece (Ticks app session) b may = stays_by b _ (λ q. refl) refl
