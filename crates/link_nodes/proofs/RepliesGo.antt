-- The replies that wait, and the frames that were put, in the midst of a step that closes nothing by a tick.
use Rattle.std.proofs.Common.{◌≡◌, ◌≢◌, ◌≤◌, ◌<◌, ◌⊎◌, inl, inr, ℕ, not, Bool, true, false, List, [], ◌∷◌, ◌++◌, map, filter, length, Option, Some, None, option_map, refl, sym, ◌∙◌, ap}
use Rattle.std.specs.Prelude.{⊤, ◌==◌}
use Rattle.std.specs.List.{AllByRecursion}
use Rattle.std.proofs.lemmas.Bool.{eq-eqb, true≢false}
use Rattle.plain_orders.specs.declared.entry.Entry.{Entry}
use Rattle.plain_orders.specs.declared.entry.Entry.TheVariants.{Closed}
use Rattle.plain_orders.specs.Entries.{entry_at, last_epoch}
use Rattle.plain_orders.specs.Sessions.{app_in, place_of_epoch}
use Rattle.plain_runs.specs.Plain.{Server}
use Rattle.ecp_messages.specs.declared.down.Down.{Down}
use Rattle.ecp_messages.specs.declared.down.Down.TheVariants as down
use Rattle.ecp_messages.specs.declared.up.Up.TheVariants.{Recover}
use Rattle.data_rules.specs.declared.data_in.DataIn.TheVariants as data_in
use Rattle.data_rules.specs.declared.down_frames.DownOut.{DownOut}
use Rattle.data_rules.specs.declared.rows.Conn.{Conn}
use Rattle.data_rules.specs.declared.rows.Reply.{Reply}
use Rattle.data_rules.specs.declared.rows.Role.{Role}
use Rattle.data_rules.specs.declared.rows.Role.TheVariants.{New, Bound, Closing}
use Rattle.data_rules.specs.declared.rows.Says.{Says}
use Rattle.data_rules.specs.declared.rows.Says.TheVariants.{NewWelcome, EpochWelcome, ResetOf, GrantOf, AnswerOf}
use Rattle.data_rules.specs.Callers.{dial_of}
use Rattle.data_rules.specs.Conns.{is_other_conn, role_in, with_role_if}
use Rattle.data_rules.specs.Places.{epoch_place}
use Rattle.data_rules.specs.Puts.{is_reply_elsewhere, says_on}
use Rattle.cluster_runs.specs.Machine.{Site}
use Rattle.cluster_runs.specs.Sent.{Lane}
use Rattle.cluster_invariant.specs.Waiting.{ReplyWaits, conns_in}
use Rattle.cluster_invariant.proofs.AllLists.{all_both, all_filtered, all_follow, all_joined, all_passed}
use Rattle.cluster_invariant.proofs.ConnRoles.{other_stays}
use Rattle.cluster_invariant.proofs.PieceMay.{Came, Coming}
use Rattle.data_pieces.proofs.CallersGo.{role_other}
use Rattle.data_pieces.proofs.ConnLists.{role_at}
use Rattle.data_pieces.proofs.ConnPieces.{role_before}
use Rattle.data_puts.proofs.Spoken.{is_for_session}
use Rattle.link_nodes.proofs.BoundsGo.{role_set}
use Rattle.link_nodes.proofs.WaitLists.{one_beside, one_each, one_fewer, one_more, waits_beside, waits_fewer, waits_for, waits_more}

-- where a reply that waits comes from

-- a Recover of the session came in an older epoch
pub record FreshEpoch (t : Coming) (conn session kept : ℕ) : Type 0 where
  pub app : ℕ
  pub epoch : ℕ
  pub taken : ℕ
  pub dial : ℕ
  pub came : Came t conn (Recover app session epoch taken dial)
  pub opened : app_in t.old.order session ≡ Some app
  pub later : dial_of t.old app ≤ dial
  pub older : epoch < last_epoch t.old.order
  pub known : place_of_epoch epoch 0 t.old.order ≡ Some kept

-- a Recover of the session came
pub record RecoverOf (t : Coming) (conn session : ℕ) : Type 0 where
  pub app : ℕ
  pub epoch : ℕ
  pub taken : ℕ
  pub dial : ℕ
  pub came : Came t conn (Recover app session epoch taken dial)
  pub was_new : role_at conn t.old.conns ≡ Some New

-- or a tick closes it
pub record TickReset (t : Coming) (conn session : ℕ) : Type 0 where
  pub came : t.input ≡ data_in.Tick
  pub was : role_at conn t.old.conns ≡ Some (Bound session)

-- a reply that the step made
abbrev pub FreshSays : Coming → Says → Type 0
FreshSays t (NewWelcome conn session) = length t.old.order < session
FreshSays t (EpochWelcome conn session kept) = FreshEpoch t conn session kept
FreshSays t (ResetOf conn session place) = RecoverOf t conn session ⊎ TickReset t conn session
FreshSays t (GrantOf session ticket number) = ⊤
FreshSays t (AnswerOf session about job number place sum) = ⊤

-- or one that waited
abbrev pub Origin : Server → Site → Coming → Reply → Type 0
Origin v x t r = ReplyWaits v x t.old r ⊎ FreshSays t r.says

-- what waits

-- a Welcome, on the connection of its session that didn't learn of the order
pub record WelcomeGo (lane_of : ℕ → Lane) (cs : List Conn) (place at conn session : ℕ) : Type 0 where
  pub until : at ≡ place
  pub bound : role_at conn cs ≡ Some (Bound session)
  pub unlearnt : (lane_of session).began ≡ None

pub record ResetGo (cs : List Conn) (es : List Entry) (at conn session place : ℕ) : Type 0 where
  pub until : at ≡ place
  pub closing : role_at conn cs ≡ Some (Closing session)
  pub closed : entry_at es place ≡ Some (Closed session)

abbrev pub SaysGo : (ℕ → Lane) → List Conn → List Entry → ℕ → Says → Type 0
SaysGo lane_of cs es at (NewWelcome conn session) = WelcomeGo lane_of cs session at conn session
SaysGo lane_of cs es at (EpochWelcome conn session kept) = WelcomeGo lane_of cs (epoch_place es) at conn session
SaysGo lane_of cs es at (ResetOf conn session place) = ResetGo cs es at conn session place
SaysGo lane_of cs es at (GrantOf session ticket number) = ⊤
SaysGo lane_of cs es at (AnswerOf session about job number place sum) = ⊤

abbrev pub ReplyGo : (ℕ → Lane) → (Reply → Type 0) → List Conn → List Entry → Reply → Type 0
ReplyGo lane_of O cs es r = O r × SaysGo lane_of cs es r.at r.says

-- a message that begins or ends what a connection carries
abbrev pub is_first : Down → Bool
is_first (down.Welcome session epoch kept front taken) = true
is_first (down.Reset session at) = true
is_first m = false

-- a frame that was put: no reply waits for its connection, or it neither begins nor ends anything, on one that awaits no Reset
abbrev pub FrameGo : List Conn → List Reply → DownOut → Type 0
FrameGo cs rs f = (waits_for f.conn rs ≡ false) ⊎ ((is_first f.down.message ≡ false) × ((s : ℕ) → role_at f.conn cs ≡ Some (Closing s) → ⊥))

pub record RepliesGo (lane_of : ℕ → Lane) (O : Reply → Type 0) (cs : List Conn) (es : List Entry) (rs : List Reply) (fs : List DownOut) : Type 0 where
  pub each : AllByRecursion (ReplyGo lane_of O cs es) rs
  pub one : one_each rs ≡ true
  pub frames : AllByRecursion (FrameGo cs rs) fs

module _ (lane_of : ℕ → Lane) (O : Reply → Type 0) where
  -- connections that are for sessions stay as they are
  says_roles : (cs ds : List Conn) (es : List Entry) → ((m : ℕ) → is_for_session (role_at m cs) ≡ true → role_at m ds ≡ role_at m cs) → (at : ℕ) (says : Says) → SaysGo lane_of cs es at says
      → SaysGo lane_of ds es at says
  says_roles cs ds es same at (NewWelcome conn session) g = record { until = g.until; bound = same conn (ap is_for_session g.bound) ∙ g.bound; unlearnt = g.unlearnt }
  says_roles cs ds es same at (EpochWelcome conn session kept) g = record { until = g.until; bound = same conn (ap is_for_session g.bound) ∙ g.bound; unlearnt = g.unlearnt }
  says_roles cs ds es same at (ResetOf conn session place) g = record { until = g.until; closing = same conn (ap is_for_session g.closing) ∙ g.closing; closed = g.closed }
  says_roles cs ds es same at (GrantOf session ticket number) g = tt
  says_roles cs ds es same at (AnswerOf session about job number place sum) g = tt

  frame_roles : (cs ds : List Conn) (rs : List Reply) → ((m s : ℕ) → role_at m ds ≡ Some (Closing s) → role_at m cs ≡ Some (Closing s)) → (f : DownOut) → FrameGo cs rs f → FrameGo ds rs f
  frame_roles cs ds rs before f (inl none) = inl none
  frame_roles cs ds rs before f (inr plain) = inr (plain.0, λ s is. plain.1 s (before f.conn s is))

  pub replies_roles : (cs ds : List Conn) (es : List Entry) (rs : List Reply) (fs : List DownOut) → ((m : ℕ) → is_for_session (role_at m cs) ≡ true → role_at m ds ≡ role_at m cs)
      → ((m s : ℕ) → role_at m ds ≡ Some (Closing s) → role_at m cs ≡ Some (Closing s)) → RepliesGo lane_of O cs es rs fs → RepliesGo lane_of O ds es rs fs
  replies_roles cs ds es rs fs same before h = record {
    each = all_follow (ReplyGo lane_of O cs es) (ReplyGo lane_of O ds es) (λ r g. (g.0, says_roles cs ds es same r.at r.says g.1)) rs h.each;
    one = h.one;
    frames = all_follow (FrameGo cs rs) (FrameGo ds rs) (λ f g. frame_roles cs ds rs before f g) fs h.frames;
  }

  -- one that was for no session is told what it is for, which is no Reset
  pub replies_told : (conn : ℕ) (r : Role) (cs : List Conn) (es : List Entry) (rs : List Reply) (fs : List DownOut) → is_for_session (role_at conn cs) ≡ false → ((s : ℕ) → r ≡ Closing s → ⊥)
      → RepliesGo lane_of O cs es rs fs → RepliesGo lane_of O (map (with_role_if conn r) cs) es rs fs
  replies_told conn r cs es rs fs other apart h =
      replies_roles cs (map (with_role_if conn r) cs) es rs fs
      (λ m is. role_other conn m r cs (λ same. true≢false (sym is ∙ ap (λ (k : ℕ). is_for_session (role_at k cs)) same ∙ other)))
      (λ m s is. go m s (role_set conn m r (Closing s) cs is)) h
    where
      go : (m s : ℕ) → ((m ≡ conn) × (Closing s ≡ r)) ⊎ ((m ≢ conn) × (role_at m cs ≡ Some (Closing s))) → role_at m cs ≡ Some (Closing s)
      go m s (inl here) = absurd (apart s (sym here.1))
      go m s (inr there) = there.1

  -- or that it awaits a Reset, before anything is put
  pub replies_closing : (conn session : ℕ) (cs : List Conn) (es : List Entry) (rs : List Reply) → is_for_session (role_at conn cs) ≡ false → RepliesGo lane_of O cs es rs []
      → RepliesGo lane_of O (map (with_role_if conn (Closing session)) cs) es rs []
  replies_closing conn session cs es rs other h = record {
    each = all_follow (ReplyGo lane_of O cs es) (ReplyGo lane_of O ds es) (λ r g. (g.0, says_roles cs ds es same r.at r.says g.1)) rs h.each;
    one = h.one;
    frames = tt;
  }
    where
      ds : List Conn
      ds = map (with_role_if conn (Closing session)) cs

      same : (m : ℕ) → is_for_session (role_at m cs) ≡ true → role_at m ds ≡ role_at m cs
      same m is = role_other conn m (Closing session) cs (λ same. true≢false (sym is ∙ ap (λ (k : ℕ). is_for_session (role_at k cs)) same ∙ other))

  not_same : (b : Bool) → not b ≡ true → b ≡ false
  not_same true is = sym is
  not_same false is = refl

  -- one goes, with what waits for it
  says_gone : (w : ℕ) (cs : List Conn) (es : List Entry) (at : ℕ) (says : Says) → not (says_on w says) ≡ true → SaysGo lane_of cs es at says → SaysGo lane_of (filter (is_other_conn w) cs) es at says
  says_gone w cs es at says elsewhere g = go says elsewhere g
    where
      still : (conn : ℕ) (r : Role) → not (conn == w) ≡ true → role_at conn cs ≡ Some r → role_at conn (filter (is_other_conn w) cs) ≡ Some r
      still conn r differs is = ap (λ (o : Option Conn). option_map role_in o) (other_stays cs w conn (λ same. true≢false (sym (eq-eqb conn w same) ∙ not_same (conn == w) differs))) ∙ is

      go : (says : Says) → not (says_on w says) ≡ true → SaysGo lane_of cs es at says → SaysGo lane_of (filter (is_other_conn w) cs) es at says
      go (NewWelcome conn session) differs g = record { until = g.until; bound = still conn (Bound session) differs g.bound; unlearnt = g.unlearnt }
      go (EpochWelcome conn session kept) differs g = record { until = g.until; bound = still conn (Bound session) differs g.bound; unlearnt = g.unlearnt }
      go (ResetOf conn session place) differs g = record { until = g.until; closing = still conn (Closing session) differs g.closing; closed = g.closed }
      go (GrantOf session ticket number) differs g = tt
      go (AnswerOf session about job number place sum) differs g = tt

  frame_fewer : (cs : List Conn) (p : Reply → Bool) (rs : List Reply) (f : DownOut) → FrameGo cs rs f → FrameGo cs (filter p rs) f
  frame_fewer cs p rs f (inl none) = inl (waits_fewer f.conn p rs none)
  frame_fewer cs p rs f (inr plain) = inr plain

  -- some replies go
  pub replies_fewer : (p : Reply → Bool) (cs : List Conn) (es : List Entry) (rs : List Reply) (fs : List DownOut) → RepliesGo lane_of O cs es rs fs → RepliesGo lane_of O cs es (filter p rs) fs
  replies_fewer p cs es rs fs h = record {
    each = all_filtered (ReplyGo lane_of O cs es) p rs h.each;
    one = one_fewer p rs h.one;
    frames = all_follow (FrameGo cs rs) (FrameGo cs (filter p rs)) (λ f g. frame_fewer cs p rs f g) fs h.frames;
  }

  pub replies_gone : (w : ℕ) (cs : List Conn) (es : List Entry) (rs : List Reply) (fs : List DownOut) → RepliesGo lane_of O cs es rs fs
      → RepliesGo lane_of O (filter (is_other_conn w) cs) es (filter (is_reply_elsewhere (says_on w)) rs) fs
  replies_gone w cs es rs fs h = record {
    each = all_follow (λ r. ReplyGo lane_of O cs es r × (is_reply_elsewhere (says_on w) r ≡ true)) (ReplyGo lane_of O (filter (is_other_conn w) cs) es)
        (λ r g. (g.0.0, says_gone w cs es r.at r.says g.1 g.0.1)) (filter (is_reply_elsewhere (says_on w)) rs)
        (all_both (ReplyGo lane_of O cs es) (λ r. is_reply_elsewhere (says_on w) r ≡ true) (filter (is_reply_elsewhere (says_on w)) rs) fewer.each (all_passed (is_reply_elsewhere (says_on w)) rs));
    one = fewer.one;
    frames = all_follow (FrameGo cs (filter (is_reply_elsewhere (says_on w)) rs)) (FrameGo (filter (is_other_conn w) cs) (filter (is_reply_elsewhere (says_on w)) rs))
        (λ f g. frame_roles cs (filter (is_other_conn w) cs) (filter (is_reply_elsewhere (says_on w)) rs) (λ m s is. role_before w m (Closing s) cs is) f g) fs fewer.frames;
  }
    where
      fewer : RepliesGo lane_of O cs es (filter (is_reply_elsewhere (says_on w)) rs) fs
      fewer = replies_fewer (is_reply_elsewhere (says_on w)) cs es rs fs h

  -- a list that goes on by no Epoch
  says_order : (cs : List Conn) (es fs : List Entry) → epoch_place fs ≡ epoch_place es → ((n : ℕ) (e : Entry) → entry_at es n ≡ Some e → entry_at fs n ≡ Some e) → (at : ℕ) (says : Says)
      → SaysGo lane_of cs es at says → SaysGo lane_of cs fs at says
  says_order cs es fs place stays at (NewWelcome conn session) g = g
  says_order cs es fs place stays at (EpochWelcome conn session kept) g = record { until = g.until ∙ sym place; bound = g.bound; unlearnt = g.unlearnt }
  says_order cs es fs place stays at (ResetOf conn session p) g = record { until = g.until; closing = g.closing; closed = stays p (Closed session) g.closed }
  says_order cs es fs place stays at (GrantOf session ticket number) g = tt
  says_order cs es fs place stays at (AnswerOf session about job number p sum) g = tt

  pub replies_order : (cs : List Conn) (es later : List Entry) (rs : List Reply) (fs : List DownOut) → epoch_place later ≡ epoch_place es
      → ((n : ℕ) (e : Entry) → entry_at es n ≡ Some e → entry_at later n ≡ Some e) → RepliesGo lane_of O cs es rs fs → RepliesGo lane_of O cs later rs fs
  replies_order cs es later rs fs place stays h = record {
    each = all_follow (ReplyGo lane_of O cs es) (ReplyGo lane_of O cs later) (λ r g. (g.0, says_order cs es later place stays r.at r.says g.1)) rs h.each;
    one = h.one;
    frames = h.frames;
  }

  -- a reply more for a connection that none waits for, and on which nothing was put
  pub replies_more : (conn : ℕ) (r : Reply) (cs : List Conn) (es : List Entry) (rs : List Reply) (fs : List DownOut) → conns_in r ≡ conn ∷ [] → waits_for conn rs ≡ false
      → AllByRecursion (λ (f : DownOut). f.conn ≢ conn) fs → ReplyGo lane_of O cs es r → RepliesGo lane_of O cs es rs fs → RepliesGo lane_of O cs es (rs ++ r ∷ []) fs
  replies_more conn r cs es rs fs its none silent is h = record {
    each = all_joined (ReplyGo lane_of O cs es) rs (r ∷ []) h.each (is, tt);
    one = one_more conn rs r its none h.one;
    frames = all_follow (λ f. FrameGo cs rs f × (f.conn ≢ conn)) (FrameGo cs (rs ++ r ∷ [])) (λ f g. go f g.1 g.0) fs (all_both (FrameGo cs rs) (λ (f : DownOut). f.conn ≢ conn) fs h.frames silent);
  }
    where
      go : (f : DownOut) → f.conn ≢ conn → FrameGo cs rs f → FrameGo cs (rs ++ r ∷ []) f
      go f apart (inl free) = inl (waits_more f.conn conn rs r its apart free)
      go f apart (inr plain) = inr plain

  -- or for none
  pub replies_beside : (r : Reply) (cs : List Conn) (es : List Entry) (rs : List Reply) (fs : List DownOut) → conns_in r ≡ [] → ReplyGo lane_of O cs es r → RepliesGo lane_of O cs es rs fs
      → RepliesGo lane_of O cs es (rs ++ r ∷ []) fs
  replies_beside r cs es rs fs its is h = record {
    each = all_joined (ReplyGo lane_of O cs es) rs (r ∷ []) h.each (is, tt);
    one = one_beside rs r its h.one;
    frames = all_follow (FrameGo cs rs) (FrameGo cs (rs ++ r ∷ [])) (λ f g. go f g) fs h.frames;
  }
    where
      go : (f : DownOut) → FrameGo cs rs f → FrameGo cs (rs ++ r ∷ []) f
      go f (inl free) = inl (waits_beside f.conn rs r its free)
      go f (inr plain) = inr plain

  -- a frame more
  pub replies_put : (f : DownOut) (cs : List Conn) (es : List Entry) (rs : List Reply) (fs : List DownOut) → FrameGo cs rs f → RepliesGo lane_of O cs es rs fs → RepliesGo lane_of O cs es rs (fs ++ f ∷ [])
  replies_put f cs es rs fs is h = record { each = h.each; one = h.one; frames = all_joined (FrameGo cs rs) fs (f ∷ []) h.frames (is, tt) }
