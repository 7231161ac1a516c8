-- What goes along of a node's ends, with the frames that were put, over each small change of a step.
use Rattle.std.proofs.Common.{◌≡◌, ◌≢◌, ◌<◌, ℕ, true, option_map, List, [], ◌∷◌, Option, Some, None, is_some, refl, sym, ◌∙◌, ap, subst}
use Rattle.std.specs.List.{find, list_any}
use Rattle.plain_orders.specs.declared.layout.Layout.{Layout}
use Rattle.plain_runs.specs.Plain.{Plain}
use Rattle.ecp_messages.specs.declared.down.Down.{Down}
use Rattle.ecp_messages.specs.declared.down.Down.TheVariants as down
use Rattle.data_rules.specs.DataState.{DataState}
use Rattle.data_rules.specs.declared.limits.TheConstants.{APP_LIMIT}
use Rattle.data_rules.specs.declared.rows.Caller.{Caller}
use Rattle.data_rules.specs.declared.rows.Conn.{Conn}
use Rattle.data_rules.specs.declared.rows.Role.TheVariants.{Closing, New, Waiting}
use Rattle.data_rules.specs.Callers.{goes_on, old_welcome, sends_again, waiting_conn}
use Rattle.data_rules.specs.Conns.{end_breaks, is_conn, role_in, with_role, without_conn}
use Rattle.data_rules.specs.Opening.{all_apps, live_ends}
use Rattle.data_rules.specs.Puts.{Sofar, becomes, head_of, puts, tells, window_of}
use Rattle.end_words.specs.Windows.{resent}
use Rattle.cluster_invariant.specs.Words.{is_same}
use Rattle.cluster_invariant.proofs.AllLists.{all_joined}
use Rattle.cluster_invariant.proofs.ConnRoles.{dropped, new_stays, other_stays}
use Rattle.cluster_invariant.proofs.PieceKinds.{Piece, Accepts, Forgets, Breaks, Dials, Waits, Opens, OpensNext, Resumes, GoesOn, ComesAgain, AwaitsReset, Closes, Acknowledges, Takes, TakesDone, Enters, Fetches, PutsNormal, PutsAck, Replies, Leaves, Bares, Locks, RoundEnds, Ticks, makes, next_caller}
use Rattle.cluster_invariant.proofs.PieceMay.{Coming, HelloMay}
use Rattle.cluster_invariant.proofs.Pieces.{MayMake}
use Rattle.cluster_invariant.proofs.PiecesOfCloses.{role_given}
use Rattle.cluster_invariant.proofs.PiecesOfRounds.{back_written}
use Rattle.cluster_invariant.proofs.PutLaws.{only_puts}
use Rattle.data_pieces.proofs.CallersGo.{CallersOf}
use Rattle.data_pieces.proofs.CallerPieces.{waiting_role}
use Rattle.data_pieces.proofs.ConnLists.{Differ, role_at}
use Rattle.data_pieces.proofs.EndsAlong.{ends_piece}
use Rattle.data_pieces.proofs.EndsGo.{EndsGo}
use Rattle.data_pieces.proofs.EndsPieces.{ConnsHold, some_role}
use Rattle.data_pieces.proofs.PlainView.{view}
use Rattle.data_pieces.proofs.QuietPieces.{quiet_goes_on}
use Rattle.data_puts.proofs.Spoken.{ReplyOn, goes_on_conn, is_for_session, is_spoken, puts_on_conn, spoken_of, tells_on_conn}
use Rattle.data_puts.proofs.SpokenPieces.{SpeaksAt, speaks_accepts, speaks_as, speaks_back, speaks_breaks, speaks_calls, speaks_closing, speaks_cut, speaks_enters, speaks_gone, speaks_leaves, speaks_opens, speaks_replies, speaks_resumes, speaks_shuts, speaks_waits}

-- the ends with what was put
pub record Along (l : Layout) (p : Plain) (d k : ℕ) (t : Coming) (W : Caller → Type 0) (b : Sofar) : Type 0 where
  pub ends : EndsGo t W d (view l p d k b.outs.acts) b.state
  pub speaks : SpeaksAt b

again_replies : (s conn : ℕ) (ms : List (ℕ × Down)) (b : Sofar) → (sends_again s conn ms b).state.replies ≡ b.state.replies
again_replies s conn [] b = refl
again_replies s conn (m ∷ ms) b = again_replies s conn ms (tells s conn m.0 m.1 b)

goes_on_replies : (s conn taken : ℕ) (b : Sofar) → (goes_on s conn taken b).state.replies ≡ b.state.replies
goes_on_replies s conn taken b = again_replies s conn (resent (window_of b.state s) taken) (tells s conn 0 (old_welcome b.state s) b)

module _ (l : Layout) (p : Plain) (d k : ℕ) (t : Coming) (W : Caller → Type 0) where
  -- a message that is put to a session
  puts_go : (session : ℕ) (m : Down) (b : Sofar) → Differ b.state.conns → SpeaksAt b → SpeaksAt (puts session m b)
  puts_go session m b differ h =
      speaks_as (puts session m b) b.state.conns b.state.replies (ap (λ (d : DataState). d.conns) (only_puts session m b).state) (ap (λ (d : DataState). d.replies) (only_puts session m b).state)
      (puts_on_conn b.state.conns differ session m b refl h.frames) h.replies

  pub waiting_new : (app conn : ℕ) (b : Sofar) (o : Option ℕ) → waiting_conn b.state app ≡ o → CallersOf b.state.conns b.state.order b.state.callers → role_at conn b.state.conns ≡ Some New → role_at conn (dropped o b.state.conns) ≡ Some New
  waiting_new app conn b None its callers new = new
  waiting_new app conn b (Some w) its callers new = ap (λ (x : Option Conn). option_map role_in x) (other_stays b.state.conns w conn apart) ∙ new
    where
      apart : conn ≢ w
      apart same =
          (let waits : role_at w b.state.conns ≡ Some Waiting = waiting_role app w b.state.conns b.state.order b.state.callers callers.each its in
          let both : Some New ≡ Some Waiting = sym new ∙ ap (λ (q : ℕ). role_at q b.state.conns) same ∙ waits in cc)

  speaks_piece : (q : Piece) (b : Sofar) → MayMake t q b → Along l p d k t W b → SpeaksAt (makes t.now q b)
  speaks_piece (Accepts conn) b may h = speaks_accepts t conn b may.first h.speaks
  speaks_piece (Forgets ending conn) b may h = speaks_cut ending conn (becomes (without_conn conn) b) (speaks_gone conn b h.speaks)
  speaks_piece (Breaks ending conn session app) b may h =
      speaks_cut ending conn (end_breaks (Some app) t.now (becomes (without_conn conn) b)) (speaks_breaks app t.now (becomes (without_conn conn) b) (speaks_gone conn b h.speaks))
  speaks_piece (Dials app dial) b may h = record { frames = h.speaks.frames; replies = h.speaks.replies }
  speaks_piece (Waits app conn) b may h = speaks_waits t app conn b (waiting_conn b.state app) (waiting_new app conn b (waiting_conn b.state app) refl h.ends.callers may.is_new) h.speaks
  speaks_piece (Opens app conn) b may h = speaks_opens app conn t.now b h.ends.links.differ (some_role (find (is_conn conn) b.state.conns) New may.is_new) h.speaks
  speaks_piece (OpensNext app conn) b may h =
      speaks_opens app conn t.now (becomes next_caller b) h.ends.links.differ (some_role (find (is_conn conn) b.state.conns) Waiting first.each.0.0) (record { frames = h.speaks.frames; replies = h.speaks.replies })
    where
      first : CallersOf b.state.conns b.state.order (record { conn = conn; app = app } ∷ may.behind)
      first = subst (λ (ws : List Caller). CallersOf b.state.conns b.state.order ws) may.next h.ends.callers
  speaks_piece (Resumes app session conn) b may h = speaks_resumes t app session conn b (new_stays b.state session conn h.ends.links.differ may.is_new) h.speaks
  speaks_piece (GoesOn session conn taken) b may h =
      speaks_as (makes t.now (GoesOn session conn taken) b) b.state.conns b.state.replies (quiet_goes_on session conn taken b).core.conns (goes_on_replies session conn taken b)
      (goes_on_conn b.state.conns h.ends.links.differ session conn taken b (ap is_spoken may.bound) h.speaks.frames) h.speaks.replies
  speaks_piece (ComesAgain session conn kept) b may h =
      record { frames = h.speaks.frames; replies = all_joined (ReplyOn b.state.conns) b.state.replies (_ ∷ []) h.speaks.replies ((ap is_for_session may.bound, tt), tt) }
  speaks_piece (AwaitsReset session conn at) b may h = by (speaks_closing conn session b.state.conns b.outs.frames b.state.replies there h.speaks)
    where
      there : is_some (find (is_conn conn) b.state.conns) ≡ true
      there = some_role (find (is_conn conn) b.state.conns) New may.is_new

      by : SpeaksAt (becomes (with_role conn (Closing session)) b) → SpeaksAt (makes t.now (AwaitsReset session conn at) b)
      by g = record { frames = g.frames; replies = all_joined (ReplyOn (with_role conn (Closing session) b.state).conns) b.state.replies (_ ∷ []) g.replies ((ap is_for_session (role_given conn (Closing session) b.state.conns there), tt), tt) }
  speaks_piece (Closes session app cause) b may h = speaks_shuts session app cause t.now b h.ends.links.differ h.speaks
  speaks_piece (Acknowledges conn session up) b may h = record { frames = h.speaks.frames; replies = h.speaks.replies }
  speaks_piece (Takes conn session up) b may h = record { frames = h.speaks.frames; replies = h.speaks.replies }
  speaks_piece (TakesDone conn session up) b may h = record { frames = h.speaks.frames; replies = h.speaks.replies }
  speaks_piece (Enters e) b may h = speaks_enters e b h.ends.links.differ h.speaks
  speaks_piece (Fetches session run block) b may h = by (puts_go session (down.Block (head_of b.state session) block) b h.ends.links.differ h.speaks)
    where
      by : SpeaksAt (puts session (down.Block (head_of b.state session) block) b) → SpeaksAt (makes t.now (Fetches session run block) b)
      by g = record { frames = g.frames; replies = g.replies }
  speaks_piece (PutsNormal app session) b may h = puts_go session (down.Normal (head_of b.state session)) b h.ends.links.differ h.speaks
  speaks_piece (PutsAck session) b may h = puts_go session (down.Ack (head_of b.state session)) b h.ends.links.differ h.speaks
  speaks_piece (Replies at says) b may h = speaks_replies t at says b may h.speaks
  speaks_piece (Leaves before r behind) b may h = speaks_leaves t before r behind b h.ends.links.differ may.its h.speaks
  speaks_piece (Bares session conn) b may h =
      record { frames = tells_on_conn b.state.conns session conn 0 down.Bare b (spoken_of b.state.conns h.ends.links.differ session conn b refl may.its) h.speaks.frames; replies = h.speaks.replies }
  speaks_piece (Locks call) b may h = speaks_calls call b h.ends.links.differ h.speaks
  speaks_piece RoundEnds b may h = speaks_back (live_ends b.state.order) t.now (back_written b) (record { frames = h.speaks.frames; replies = h.speaks.replies })
  speaks_piece (Ticks app session) b may h = record { frames = h.speaks.frames; replies = h.speaks.replies }

  -- Each of them.
  pub along_piece : ConnsHold t.old → ((app : ℕ) → app < APP_LIMIT → list_any (is_same app) all_apps ≡ true) → ((app conn : ℕ) (b : Sofar) → HelloMay t app conn true b → W (record { conn = conn; app = app }))
      → (q : Piece) (b : Sofar) → MayMake t q b → Along l p d k t W b → Along l p d k t W (makes t.now q b)
  along_piece hold all greets q b may h = record { ends = ends_piece l p d k t W hold all greets q b may h.ends; speaks = speaks_piece q b may h }
