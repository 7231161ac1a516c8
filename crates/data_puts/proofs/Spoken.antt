-- Frames go out and replies wait on connections of sessions alone, in the midst of a step.
use Rattle.std.proofs.Common.{◌≡◌, ◌==◌, ℕ, ◌+◌, Bool, true, false, not, List, [], ◌∷◌, map, length, filter, Option, Some, None, is_some, option_map, refl, sym, ◌∙◌, ap, subst, eqb}
use Rattle.std.specs.List.{AllByRecursion, find}
use Rattle.std.proofs.lemmas.Bool.{eqb-true, eq-eqb, false≢true, true≢false}
use Rattle.plain_orders.specs.declared.entry.Entry.{Entry}
use Rattle.ecp_messages.specs.declared.down.Down.{Down}
use Rattle.end_words.specs.Windows.{sent, with_sent, resent}
use Rattle.block_holders.specs.declared.noted.Noted.{Noted}
use Rattle.block_holders.specs.HolderWords.{touched}
use Rattle.lock_table.specs.declared.rows.Request.{Request}
use Rattle.data_rules.specs.DataState.{DataState}
use Rattle.data_rules.specs.declared.down_frames.DownOut.{DownOut}
use Rattle.data_rules.specs.declared.rows.Conn.{Conn}
use Rattle.data_rules.specs.declared.rows.Reply.{Reply}
use Rattle.data_rules.specs.declared.rows.Role.{Role}
use Rattle.data_rules.specs.declared.rows.Role.TheVariants.{Bound, Closing, New, Waiting}
use Rattle.data_rules.specs.declared.rows.Says.{Says}
use Rattle.data_rules.specs.declared.rows.Says.TheVariants.{NewWelcome, EpochWelcome, ResetOf, GrantOf, AnswerOf}
use Rattle.data_rules.specs.Callers.{goes_on, old_welcome, sends_again}
use Rattle.data_rules.specs.Conns.{is_conn, is_other_conn, role_in, with_role_if}
use Rattle.data_rules.specs.Entering.{appends, drops, drops_one, spans_of, with_entry}
use Rattle.data_rules.specs.Granting.{grants, grants_one}
use Rattle.data_rules.specs.Leaving.{leaves}
use Rattle.data_rules.specs.Puts.{Sofar, becomes, conn_of, is_bound_to, is_reply_elsewhere, puts, says_on, tells, tells_on, window_of, with_window}
use Rattle.cluster_invariant.specs.Waiting.{conns_in, conns_of}
use Rattle.cluster_invariant.proofs.AllLists.{all_both, all_filtered, all_follow, all_joined, all_passed}
use Rattle.cluster_invariant.proofs.ConnRoles.{bound_role, other_stays}
use Rattle.cluster_invariant.proofs.PiecesOfCloses.{role_given}
use Rattle.cluster_invariant.proofs.PutLaws.{only_puts}
use Rattle.data_pieces.proofs.CallersGo.{role_other}
use Rattle.data_pieces.proofs.ConnLists.{Differ, role_at}
use Rattle.data_pieces.proofs.ConnPieces.{role_gone}

-- a connection of a session, live or closed
abbrev pub is_for_session : Option Role → Bool
is_for_session None = false
is_for_session (Some New) = false
is_for_session (Some Waiting) = false
is_for_session (Some (Bound s)) = true
is_for_session (Some (Closing s)) = true

-- or one that is gone
abbrev pub is_spoken : Option Role → Bool
is_spoken None = true
is_spoken (Some New) = false
is_spoken (Some Waiting) = false
is_spoken (Some (Bound s)) = true
is_spoken (Some (Closing s)) = true

pub spoken_for : (o : Option Role) → is_for_session o ≡ true → is_spoken o ≡ true
spoken_for None is = refl
spoken_for (Some New) is = is
spoken_for (Some Waiting) is = is
spoken_for (Some (Bound s)) is = refl
spoken_for (Some (Closing s)) is = refl

-- frames on such, and replies
abbrev pub SpokenOn : List Conn → DownOut → Type 0
SpokenOn cs f = is_spoken (role_at f.conn cs) ≡ true

abbrev pub FramesOn : List Conn → List DownOut → Type 0
FramesOn cs fs = AllByRecursion (SpokenOn cs) fs

abbrev pub ReplyOn : List Conn → Reply → Type 0
ReplyOn cs r = AllByRecursion (λ n. is_for_session (role_at n cs) ≡ true) (conns_in r)

abbrev pub RepliesOn : List Conn → List Reply → Type 0
RepliesOn cs rs = AllByRecursion (ReplyOn cs) rs

-- as connections change

pub frames_conns : (cs ds : List Conn) (fs : List DownOut) → ((m : ℕ) → is_spoken (role_at m cs) ≡ true → is_spoken (role_at m ds) ≡ true) → FramesOn cs fs → FramesOn ds fs
frames_conns cs ds fs keeps h = all_follow (SpokenOn cs) (SpokenOn ds) (λ f is. keeps f.conn is) fs h

pub replies_conns : (cs ds : List Conn) (rs : List Reply) → ((m : ℕ) → is_for_session (role_at m cs) ≡ true → is_for_session (role_at m ds) ≡ true) → RepliesOn cs rs → RepliesOn ds rs
replies_conns cs ds rs keeps h =
    all_follow (ReplyOn cs) (ReplyOn ds) (λ r is. all_follow (λ n. is_for_session (role_at n cs) ≡ true) (λ n. is_for_session (role_at n ds) ≡ true) keeps (conns_in r) is) rs h

-- one goes
pub gone_spoken : (w m : ℕ) (cs : List Conn) → is_spoken (role_at m cs) ≡ true → is_spoken (role_at m (filter (is_other_conn w) cs)) ≡ true
gone_spoken w m cs is = go (eqb m w) refl
  where
    go : (b : Bool) → eqb m w ≡ b → is_spoken (role_at m (filter (is_other_conn w) cs)) ≡ true
    go true same = ap is_spoken (ap (λ (k : ℕ). role_at k (filter (is_other_conn w) cs)) (eqb-true m w same) ∙ role_gone w cs)
    go false other = ap (λ (o : Option Conn). is_spoken (option_map role_in o)) (other_stays cs w m (λ same. false≢true (sym other ∙ eq-eqb m w same))) ∙ is

-- one is told what it is for, which is a session
pub role_spoken : (P : Option Role → Bool) (conn m : ℕ) (r : Role) (cs : List Conn) → P (Some r) ≡ true → is_some (find (is_conn conn) cs) ≡ true → P (role_at m cs) ≡ true → P (role_at m (map (with_role_if conn r) cs)) ≡ true
role_spoken P conn m r cs good there is = go (eqb m conn) refl
  where
    go : (b : Bool) → eqb m conn ≡ b → P (role_at m (map (with_role_if conn r) cs)) ≡ true
    go true same = ap P (ap (λ (k : ℕ). role_at k (map (with_role_if conn r) cs)) (eqb-true m conn same) ∙ role_given conn r cs there) ∙ good
    go false other = ap P (role_other conn m r cs (λ same. false≢true (sym other ∙ eq-eqb m conn same))) ∙ is

-- or waits, where it was new
pub waits_spoken : (P : Option Role → Bool) (conn m : ℕ) (cs : List Conn) → P (Some New) ≡ false → role_at conn cs ≡ Some New → P (role_at m cs) ≡ true → P (role_at m (map (with_role_if conn Waiting) cs)) ≡ true
waits_spoken P conn m cs bad new is = ap P (role_other conn m Waiting cs (λ same. true≢false (sym is ∙ ap (λ (k : ℕ). P (role_at k cs)) same ∙ ap P new ∙ bad))) ∙ is

-- replies that stay as a connection goes
pub replies_gone : (w : ℕ) (cs : List Conn) (rs : List Reply) → RepliesOn cs rs → RepliesOn (filter (is_other_conn w) cs) (filter (is_reply_elsewhere (says_on w)) rs)
replies_gone w cs rs h =
    all_follow (λ r. ReplyOn cs r × (is_reply_elsewhere (says_on w) r ≡ true)) (ReplyOn (filter (is_other_conn w) cs)) (λ r both. go r.says both.0 both.1) (filter (is_reply_elsewhere (says_on w)) rs)
    (all_both (ReplyOn cs) (λ r. is_reply_elsewhere (says_on w) r ≡ true) (filter (is_reply_elsewhere (says_on w)) rs) (all_filtered (ReplyOn cs) (is_reply_elsewhere (says_on w)) rs h) (all_passed (is_reply_elsewhere (says_on w)) rs))
  where
    not_same : (b : Bool) → not b ≡ true → b ≡ false
    not_same true is = sym is
    not_same false is = refl

    still : (n : ℕ) → not (n == w) ≡ true → is_for_session (role_at n cs) ≡ true → is_for_session (role_at n (filter (is_other_conn w) cs)) ≡ true
    still n differs is = ap (λ (o : Option Conn). is_for_session (option_map role_in o)) (other_stays cs w n (λ same. true≢false (sym (eq-eqb n w same) ∙ not_same (n == w) differs))) ∙ is

    go : (x : Says) → AllByRecursion (λ n. is_for_session (role_at n cs) ≡ true) (conns_of x) → not (says_on w x) ≡ true → AllByRecursion (λ n. is_for_session (role_at n (filter (is_other_conn w) cs)) ≡ true) (conns_of x)
    go (NewWelcome conn session) all differs = (still conn differs all.0, tt)
    go (EpochWelcome conn session kept) all differs = (still conn differs all.0, tt)
    go (ResetOf conn session place) all differs = (still conn differs all.0, tt)
    go (GrantOf session ticket number) all differs = tt
    go (AnswerOf session about job number place sum) all differs = tt

-- as frames are put

pub tells_on_conn : (cs : List Conn) (s conn n : ℕ) (m : Down) (b : Sofar) → is_spoken (role_at conn cs) ≡ true → FramesOn cs b.outs.frames → FramesOn cs (tells s conn n m b).outs.frames
tells_on_conn cs s conn n m b spoken h = all_joined (SpokenOn cs) b.outs.frames (_ ∷ []) h (spoken, tt)

module _ (cs : List Conn) (differ : Differ cs) where
  pub spoken_of : (s conn : ℕ) (b : Sofar) → b.state.conns ≡ cs → conn_of b.state s ≡ Some conn → is_spoken (role_at conn cs) ≡ true
  spoken_of s conn b same its = ap is_spoken (bound_role s cs conn differ (subst (λ (xs : List Conn). option_map (λ (c : Conn). c.number) (find (is_bound_to s) xs) ≡ Some conn) same its))

  pub puts_on_conn : (s : ℕ) (m : Down) (b : Sofar) → b.state.conns ≡ cs → FramesOn cs b.outs.frames → FramesOn cs (puts s m b).outs.frames
  puts_on_conn s m b same h = go (conn_of b.state s) (sent (window_of b.state s) + 1) (λ conn its. spoken_of s conn b same its)
    where
      go : (o : Option ℕ) (n : ℕ) → ((conn : ℕ) → o ≡ Some conn → is_spoken (role_at conn cs) ≡ true)
          → FramesOn cs (tells_on s o n m (becomes (λ d. with_window s (with_sent (window_of d s) m) d) b)).outs.frames
      go None n spoken = h
      go (Some conn) n spoken = tells_on_conn cs s conn n m (becomes (λ d. with_window s (with_sent (window_of d s) m) d) b) (spoken conn refl) h

  drops_on_conn : (before : ℕ) (xs : List Noted) (b : Sofar) → b.state.conns ≡ cs → FramesOn cs b.outs.frames → FramesOn cs (drops before xs b).outs.frames
  drops_on_conn before [] b same h = h
  drops_on_conn before (x ∷ xs) b same h =
      drops_on_conn before xs (drops_one before x xs b) (ap (λ (d : DataState). d.conns) (only_puts x.session _ b).state ∙ same) (puts_on_conn x.session _ b same h)

  pub appends_on_conn : (e : Entry) (b : Sofar) → b.state.conns ≡ cs → FramesOn cs b.outs.frames → FramesOn cs (appends e b).outs.frames
  appends_on_conn e b same h = drops_on_conn (length b.state.order) (touched (spans_of b.state e) b.state.noted) (becomes (with_entry e (spans_of b.state e)) b) same h

  pub leaves_on_conn : (says : Says) (b : Sofar) → b.state.conns ≡ cs → AllByRecursion (λ n. is_for_session (role_at n cs) ≡ true) (conns_of says) → FramesOn cs b.outs.frames → FramesOn cs (leaves says b).outs.frames
  leaves_on_conn (NewWelcome conn session) b same on h = tells_on_conn cs session conn 0 _ b (spoken_for (role_at conn cs) on.0) h
  leaves_on_conn (EpochWelcome conn session kept) b same on h = tells_on_conn cs session conn 0 _ b (spoken_for (role_at conn cs) on.0) h
  leaves_on_conn (ResetOf conn session at) b same on h = all_joined (SpokenOn cs) b.outs.frames (_ ∷ []) h (spoken_for (role_at conn cs) on.0, tt)
  leaves_on_conn (GrantOf session ticket at) b same on h = puts_on_conn session _ b same h
  leaves_on_conn (AnswerOf session about job number at sum) b same on h = puts_on_conn session _ b same h

  again_on_conn : (s conn : ℕ) (ms : List (ℕ × Down)) (b : Sofar) → is_spoken (role_at conn cs) ≡ true → FramesOn cs b.outs.frames → FramesOn cs (sends_again s conn ms b).outs.frames
  again_on_conn s conn [] b spoken h = h
  again_on_conn s conn (m ∷ ms) b spoken h = again_on_conn s conn ms (tells s conn m.0 m.1 b) spoken (tells_on_conn cs s conn m.0 m.1 b spoken h)

  pub goes_on_conn : (s conn taken : ℕ) (b : Sofar) → is_spoken (role_at conn cs) ≡ true → FramesOn cs b.outs.frames → FramesOn cs (goes_on s conn taken b).outs.frames
  goes_on_conn s conn taken b spoken h =
      again_on_conn s conn (resent (window_of b.state s) taken) (tells s conn 0 (old_welcome b.state s) b) spoken (tells_on_conn cs s conn 0 (old_welcome b.state s) b spoken h)

  pub grants_on_conn : (rs : List Request) (b : Sofar) → RepliesOn cs b.state.replies → RepliesOn cs (grants rs b).state.replies
  grants_on_conn [] b h = h
  grants_on_conn (r ∷ rs) b h = grants_on_conn rs (grants_one r b) (all_joined (ReplyOn cs) b.state.replies (_ ∷ []) h (tt, tt))
