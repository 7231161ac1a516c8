-- A round that ends, replies that leave, and an acknowledgement by itself: what follows each frame, and a save.
use Rattle.std.proofs.Common.{◌≡◌, ◌<◌, ℕ, Bool, true, false, not, List, [], ◌∷◌, length, map, filter, drop, Option, Some, None, is_some, option_map, refl, ◌∙◌, ap}
use Rattle.std.specs.List.{AllByRecursion, list_any, find}
use Rattle.std.proofs.lemmas.Bool.{and_parts, false≢true}
use Rattle.plain_orders.specs.declared.act.Act.TheVariants as act
use Rattle.plain_orders.specs.Entries.{live_session}
use Rattle.plain_orders.specs.Sessions.{is_close}
use Rattle.recovery_round.specs.RoundWords.{Round, is_over}
use Rattle.data_rules.specs.declared.rows.Caller.{Caller}
use Rattle.data_rules.specs.declared.rows.Conn.{Conn}
use Rattle.data_rules.specs.declared.rows.LiveEnd.{LiveEnd}
use Rattle.data_rules.specs.declared.rows.Reply.{Reply}
use Rattle.data_rules.specs.declared.rows.Role.{Role}
use Rattle.data_rules.specs.declared.rows.Role.TheVariants.{New, Waiting, Bound, Closing}
use Rattle.data_rules.specs.DataState.{DataState}
use Rattle.data_rules.specs.Conns.{role_of, is_conn, role_in}
use Rattle.data_rules.specs.Opening.{all_apps, come_back, is_round_over, live_ends, round_ends_if, rounds, without_round}
use Rattle.data_rules.specs.Puts.{Sofar, becomes, conn_of, writes}
use Rattle.cluster_runs.specs.Machine.{Site}
use Rattle.cluster_invariant.specs.Ends.{CallerIs, app_of_caller}
use Rattle.cluster_invariant.specs.Served.{HasLearnt}
use Rattle.cluster_invariant.specs.Words.{all_differ}
use Rattle.cluster_invariant.proofs.AllLists.{all_filtered, all_follow}
use Rattle.cluster_invariant.proofs.PiecesOfRounds.{ends_have}
use Rattle.cluster_invariant.proofs.PutLaws.{with_windows}
use Rattle.dials_server.proofs.TellsNodes.{all_one_more, tells_of}
use Rattle.dials_server.proofs.FittingFrames.{FrameFits}
use Rattle.dials_server.proofs.OpenedNodes.{IsFresh}
use Rattle.dials_server.proofs.SaveNodes.{ReplyFits, says_same}
use Rattle.data_rules.specs.Frames.{bares_role, settled}
use Rattle.data_rules.specs.Leaving.{all_leave, bare_on, bare_to, flushed, leaves, may_leave, must_wait}
use Rattle.data_rules.specs.Puts.{window_of}
use Rattle.end_words.specs.Windows.{owes_bare}
use Rattle.cluster_invariant.proofs.PutLaws.{OnlyWindows, only_leaves}
use Rattle.dials_server.proofs.GoNodes.{GoInv}
use Rattle.dials_server.proofs.RoundNodes.{OpenInv, open_all, open_backs, open_state}
use Rattle.dials_server.proofs.SaveNodes.{leaves_fit}

module _ (x : Site) (n : DataState) (gone : List ℕ) (fresh_at : (s : ℕ) → length n.order < s → IsFresh x s) where
  open_with : (b : Sofar) (cs : List Caller) → AllByRecursion (CallerIs b.state x) cs → all_differ (map app_of_caller cs) ≡ true → GoInv x n gone b → OpenInv x n gone cs b
  open_with b cs calls apart inv = record {
    nodes = inv.nodes;
    frames = inv.frames;
    cuts = inv.cuts;
    noted = inv.noted;
    replies = inv.replies;
    there = λ k. ap (λ (ks : List Conn). is_some (option_map role_in (find (is_conn k) ks))) inv.conns;
    stays = λ k r apart role. ap (λ (ks : List Conn). option_map role_in (find (is_conn k) ks)) inv.conns ∙ role;
    longer = inv.longer;
    within = inv.within;
    callers = calls;
    apart = apart;
  }

  over_learnt : (b : Sofar) → GoInv x n gone b → (o : Option Round) → b.state.round ≡ o → is_round_over b.state o ≡ true → (app s : ℕ) → live_session b.state.order app ≡ Some s
      → HasLearnt x s
  over_learnt b inv None its over = absurd (false≢true over)
  over_learnt b inv (Some r) its over = inv.round r its (and_parts (is_over r) (not (list_any is_close (drop b.state.synced b.state.order))) over).0

  -- A round ends where it is over.
  pub rounds_go : (now : ℕ) (b : Sofar) → GoInv x n gone b → OpenInv x n gone [] (rounds now b)
  rounds_go now b inv = go (is_round_over b.state b.state.round) refl
    where
      go : (over : Bool) → is_round_over b.state b.state.round ≡ over → OpenInv x n gone [] (round_ends_if over now b)
      go false on = open_with b [] tt refl inv
      go true over =
          open_all x n gone fresh_at b.state.callers now (come_back (live_ends b.state.order) now (writes (act.Back b.state.server) (becomes without_round b)))
          (open_backs x n gone b.state.callers (live_ends b.state.order) now (writes (act.Back b.state.server) (becomes without_round b))
          (all_follow (λ (e : LiveEnd). live_session b.state.order e.app ≡ Some e.session) (λ (e : LiveEnd). HasLearnt x e.session)
          (λ e has. over_learnt b inv b.state.round refl over e.app e.session has) (live_ends b.state.order) (ends_have all_apps b.state.order))
          (open_state x n gone b.state.callers b (writes (act.Back b.state.server) (becomes without_round b)) (without_round b.state) refl refl refl refl inv.replies refl
          inv.frames refl (open_with b b.state.callers inv.callers inv.apart inv)))

  -- replies leave
  open_windows : (b c : Sofar) → OnlyWindows b c → AllByRecursion (FrameFits x b.state) c.outs.frames → OpenInv x n gone [] b → OpenInv x n gone [] c
  open_windows b c only frames inv = open_state x n gone [] b c (with_windows only.windows b.state) refl refl refl refl inv.replies only.state frames only.cuts inv

  open_leave : (rs : List Reply) (b : Sofar) → AllByRecursion (ReplyFits x b.state) rs → OpenInv x n gone [] b → OpenInv x n gone [] (all_leave rs b)
  open_leave [] b fits inv = inv
  open_leave (r ∷ rs) b fits inv =
      open_leave rs (leaves r.says b)
      (all_follow (ReplyFits x b.state) (ReplyFits x (leaves r.says b).state)
      (λ q at. says_same x b.state (leaves r.says b).state (ap (λ (d : DataState). d.conns) (only_leaves r.says b).state) q.says at) rs fits.1)
      (open_windows b (leaves r.says b) (only_leaves r.says b) (leaves_fit x b.state r.says b fits.0 (tells_of x b.state inv.nodes) inv.frames) inv)

  pub flush_go : (b : Sofar) → OpenInv x n gone [] b → OpenInv x n gone [] (flushed b)
  flush_go b inv =
      open_leave (filter (may_leave b.state.synced) b.state.replies) waiting
      (all_follow (ReplyFits x b.state) (ReplyFits x waiting.state) (λ q at. says_same x b.state waiting.state refl q.says at)
      (filter (may_leave b.state.synced) b.state.replies) (all_filtered (ReplyFits x b.state) (may_leave b.state.synced) b.state.replies inv.replies))
      (open_state x n gone [] b waiting waiting.state refl refl refl refl (all_filtered (ReplyFits x b.state) (must_wait b.state.synced) b.state.replies inv.replies) refl
      inv.frames refl inv)
    where
      waiting : Sofar
      waiting = becomes (λ d. record d { replies = filter (must_wait d.synced) d.replies }) b

  -- an acknowledgement by itself, to a session that learnt of the order
  pub bares_go : (o : Option Role) (b : Sofar) → ((s : ℕ) → o ≡ Some (Bound s) → HasLearnt x s) → OpenInv x n gone [] b → OpenInv x n gone [] (bares_role o b)
  bares_go None b learnt inv = inv
  bares_go (Some New) b learnt inv = inv
  bares_go (Some Waiting) b learnt inv = inv
  bares_go (Some (Closing s)) b learnt inv = inv
  bares_go (Some (Bound s)) b learnt inv = on (conn_of b.state s) refl
    where
      to : (owed : Bool) (conn : ℕ) → conn_of b.state s ≡ Some conn → OpenInv x n gone [] (bare_to owed s conn b)
      to false conn its = inv
      to true conn its =
          open_windows b (bare_to true s conn b) (record { windows = _; state = refl; acts = refl; cuts = refl })
          (all_one_more (FrameFits x b.state) b.outs.frames _ inv.frames (tells_of x b.state inv.nodes s conn (learnt s refl) its)) inv

      on : (o : Option ℕ) → conn_of b.state s ≡ o → OpenInv x n gone [] (bare_on o s b)
      on None its = inv
      on (Some conn) its = to (owes_bare (window_of b.state s)) conn its

  -- What follows each frame.
  pub settled_go : (conn now : ℕ) (b : Sofar) → ((s : ℕ) → role_of (flushed (rounds now b)).state conn ≡ Some (Bound s) → HasLearnt x s) → GoInv x n gone b
      → OpenInv x n gone [] (settled conn now b)
  settled_go conn now b learnt inv =
      bares_go (role_of (flushed (rounds now b)).state conn) (flushed (rounds now b)) learnt (flush_go (rounds now b) (rounds_go now b inv))
