-- What a save makes of a data server's connections before a round ends by it: locks go, replies leave, and sessions are told what is synced.
use Rattle.std.proofs.Common.{◌≡◌, ℕ, ◌+◌, Bool, true, false, cond, List, [], ◌∷◌, ◌++◌, length, filter, Option, Some, None, option_map, refl, sym, ◌∙◌, ap, subst}
use Rattle.std.specs.List.{AllByRecursion, find}
use Rattle.plain_orders.specs.declared.act.Act.TheVariants as act
use Rattle.ecp_messages.specs.declared.down.Down.{Down}
use Rattle.ecp_messages.specs.declared.down.Down.TheVariants.{Welcome, Reset, Block, Drop, Ack, Grant, Answer, Normal, Bare}
use Rattle.end_words.specs.Windows.{sent, with_sent}
use Rattle.lock_table.specs.declared.rows.Request.{Request}
use Rattle.lock_table.specs.LockWords.{Locks, Freed, is_request_elsewhere, pass, waits, with_grant, without_session}
use Rattle.block_holders.specs.declared.noted.Noted.{Noted}
use Rattle.data_rules.specs.declared.down_frames.DownOut.{DownOut}
use Rattle.data_rules.specs.declared.rows.Conn.{Conn}
use Rattle.data_rules.specs.declared.rows.Reply.{Reply}
use Rattle.data_rules.specs.declared.rows.Says.{Says}
use Rattle.data_rules.specs.declared.rows.Says.TheVariants.{NewWelcome, EpochWelcome, ResetOf, GrantOf, AnswerOf}
use Rattle.data_rules.specs.declared.rows.Role.TheVariants.{Bound, Closing}
use Rattle.data_rules.specs.DataState.{DataState}
use Rattle.data_rules.specs.Conns.{is_conn, role_in, role_of}
use Rattle.data_rules.specs.Granting.{grants, grants_one, with_locks}
use Rattle.data_rules.specs.Leaving.{all_leave, flushed, leaves, may_leave, must_wait}
use Rattle.data_rules.specs.Puts.{Sofar, becomes, conn_of, puts, tells_on, window_of, with_window, writes}
use Rattle.data_rules.specs.Saving.{acks, acks_one, releases, releases_all}
use Rattle.cluster_runs.specs.Machine.{Site}
use Rattle.cluster_invariant.specs.Dials.{NodeDials}
use Rattle.cluster_invariant.specs.Served.{HasLearnt}
use Rattle.cluster_invariant.proofs.AllLists.{all_filtered, all_follow}
use Rattle.cluster_invariant.proofs.PutLaws.{OnlyWindows, only_leaves, only_puts, with_windows}
use Rattle.dials_server.proofs.FittingFrames.{FitsOn, FrameFits}
use Rattle.dials_server.proofs.NodeConns.{node_same}
use Rattle.dials_server.proofs.PlainFrames.{IsPlain, TellsOn}
use Rattle.dials_server.proofs.TellsNodes.{Tells, all_one_more, tells_of}

-- replies

-- a reply is for a connection that is for it, or for a session that learnt of the order
abbrev pub SaysFit : Says → Site → DataState → Type 0
SaysFit (NewWelcome conn session) x n = role_of n conn ≡ Some (Bound session)
SaysFit (EpochWelcome conn session kept) x n = role_of n conn ≡ Some (Bound session)
SaysFit (ResetOf conn session at) x n = role_of n conn ≡ Some (Closing session)
SaysFit (GrantOf session ticket at) x n = HasLearnt x session
SaysFit (AnswerOf session about job number at sum) x n = HasLearnt x session

abbrev pub ReplyFits : Site → DataState → Reply → Type 0
ReplyFits x n r = SaysFit r.says x n

-- connections that are as they were

roles_same : (n m : DataState) → m.conns ≡ n.conns → (conn : ℕ) → role_of m conn ≡ role_of n conn
roles_same n m same conn = ap (λ (cs : List Conn). option_map role_in (find (is_conn conn) cs)) same

pub says_same : (x : Site) (n m : DataState) → m.conns ≡ n.conns → (says : Says) → SaysFit says x n → SaysFit says x m
says_same x n m same (NewWelcome conn session) fits = roles_same n m same conn ∙ fits
says_same x n m same (EpochWelcome conn session kept) fits = roles_same n m same conn ∙ fits
says_same x n m same (ResetOf conn session at) fits = roles_same n m same conn ∙ fits
says_same x n m same (GrantOf session ticket at) fits = fits
says_same x n m same (AnswerOf session about job number at sum) fits = fits

pub on_same : (x : Site) (n m : DataState) → m.conns ≡ n.conns → (message : Down) (conn : ℕ) → FitsOn message x n conn → FitsOn message x m conn
on_same x n m same (Welcome session epoch kept front taken) conn fits = roles_same n m same conn ∙ fits
on_same x n m same (Reset session at) conn fits = roles_same n m same conn ∙ fits
on_same x n m same (Block front block) conn fits = fits
on_same x n m same (Drop front lo hi) conn fits = fits
on_same x n m same (Ack front) conn fits = fits
on_same x n m same (Grant front ticket at) conn fits = fits
on_same x n m same (Answer front about job number at sum) conn fits = fits
on_same x n m same (Normal front) conn fits = fits
on_same x n m same Bare conn fits = fits

pub frames_same : (x : Site) (n m : DataState) → m.conns ≡ n.conns → (fs : List DownOut) → AllByRecursion (FrameFits x n) fs → AllByRecursion (FrameFits x m) fs
frames_same x n m same fs fits = all_follow (FrameFits x n) (FrameFits x m) (λ f at. on_same x n m same f.down.message f.conn at) fs fits

-- What holds as a save goes on.
pub record SaveInv (x : Site) (n : DataState) (b : Sofar) : Type 0 where
  pub nodes : NodeDials x b.state
  pub frames : AllByRecursion (FrameFits x b.state) b.outs.frames
  pub cuts : b.outs.cuts ≡ []
  pub noted : AllByRecursion (λ (y : Noted). HasLearnt x y.session) b.state.noted
  pub requests : AllByRecursion (λ (r : Request). HasLearnt x r.who.session) b.state.locks.requests
  pub replies : AllByRecursion (ReplyFits x b.state) b.state.replies
  pub order : b.state.order ≡ n.order
  pub conns : b.state.conns ≡ n.conns
  pub round : b.state.round ≡ n.round
  pub callers : b.state.callers ≡ n.callers

module _ (x : Site) (n : DataState) where
  -- what changes neither connections nor order, nor dials
  pub save_state : (b : Sofar) (m : DataState) → m.conns ≡ b.state.conns → m.order ≡ b.state.order → m.dials ≡ b.state.dials → m.round ≡ b.state.round
      → m.callers ≡ b.state.callers → m.noted ≡ b.state.noted → AllByRecursion (λ (r : Request). HasLearnt x r.who.session) m.locks.requests
      → AllByRecursion (ReplyFits x b.state) m.replies → (fs : List DownOut) → AllByRecursion (FrameFits x b.state) fs → (c : Sofar) → c.state ≡ m → c.outs.frames ≡ fs
      → c.outs.cuts ≡ b.outs.cuts → SaveInv x n b → SaveInv x n c
  save_state b m conns order dials round callers noted requests replies fs fits c state frames cuts inv = record {
    nodes = subst (λ (d : DataState). NodeDials x d) (sym state) (node_same x b.state m order conns dials inv.nodes);
    frames =
        subst (λ (d : DataState). AllByRecursion (FrameFits x d) c.outs.frames) (sym state)
        (subst (λ (gs : List DownOut). AllByRecursion (FrameFits x m) gs) (sym frames) (frames_same x b.state m conns fs fits));
    cuts = cuts ∙ inv.cuts;
    noted = subst (λ (ys : List Noted). AllByRecursion (λ (y : Noted). HasLearnt x y.session) ys) (sym (ap (λ (d : DataState). d.noted) state ∙ noted)) inv.noted;
    requests = subst (λ (d : DataState). AllByRecursion (λ (r : Request). HasLearnt x r.who.session) d.locks.requests) (sym state) requests;
    replies =
        subst (λ (d : DataState). AllByRecursion (ReplyFits x d) d.replies) (sym state)
        (all_follow (ReplyFits x b.state) (ReplyFits x m) (λ r at. says_same x b.state m conns r.says at) m.replies replies);
    order = ap (λ (d : DataState). d.order) state ∙ order ∙ inv.order;
    conns = ap (λ (d : DataState). d.conns) state ∙ conns ∙ inv.conns;
    round = ap (λ (d : DataState). d.round) state ∙ round ∙ inv.round;
    callers = ap (λ (d : DataState). d.callers) state ∙ callers ∙ inv.callers;
  }

  pub save_windows : (b c : Sofar) → OnlyWindows b c → AllByRecursion (FrameFits x b.state) c.outs.frames → SaveInv x n b → SaveInv x n c
  save_windows b c only fits inv =
      save_state b (with_windows only.windows b.state) refl refl refl refl refl refl inv.requests inv.replies c.outs.frames fits c only.state refl only.cuts inv

-- frames that are put

pub plain_fits : (m : Down) → IsPlain m → (x : Site) (n : DataState) (conn : ℕ) → TellsOn x conn → FitsOn m x n conn
plain_fits (Welcome session epoch kept front taken) plain x n conn tells = absurd plain
plain_fits (Reset session at) plain x n conn tells = absurd plain
plain_fits (Block front block) plain x n conn tells = tells
plain_fits (Drop front lo hi) plain x n conn tells = tells
plain_fits (Ack front) plain x n conn tells = tells
plain_fits (Grant front ticket at) plain x n conn tells = tells
plain_fits (Answer front about job number at sum) plain x n conn tells = tells
plain_fits (Normal front) plain x n conn tells = tells
plain_fits Bare plain x n conn tells = tells

pub puts_fit : (x : Site) (d : DataState) (s : ℕ) (m : Down) (b : Sofar) → IsPlain m → HasLearnt x s → Tells x b.state → AllByRecursion (FrameFits x d) b.outs.frames
    → AllByRecursion (FrameFits x d) (puts s m b).outs.frames
puts_fit x d s m b plain learnt tells all = go (conn_of b.state s) refl
  where
    go : (o : Option ℕ) → conn_of b.state s ≡ o
        → AllByRecursion (FrameFits x d) (tells_on s o (sent (window_of b.state s) + 1) m (becomes (λ e. with_window s (with_sent (window_of e s) m) e) b)).outs.frames
    go None its = all
    go (Some conn) its = all_one_more (FrameFits x d) b.outs.frames _ all (plain_fits m plain x d conn (tells s conn learnt its))

pub save_puts : (x : Site) (n : DataState) (s : ℕ) (m : Down) (b : Sofar) → IsPlain m → HasLearnt x s → SaveInv x n b → SaveInv x n (puts s m b)
save_puts x n s m b plain learnt inv =
    save_windows x n b (puts s m b) (only_puts s m b) (puts_fit x b.state s m b plain learnt (tells_of x b.state inv.nodes) inv.frames) inv

-- locks

module _ (P : ℕ → Type 0) where
  abbrev Requests : List Request → Type 0
  Requests rs = AllByRecursion (λ (r : Request). P r.who.session) rs

  pub record FreedAll (f : Freed) : Type 0 where
    pub left : Requests f.locks.requests
    pub given : Requests f.grants

  pub pass_all : (l : Locks) (left given rs : List Request) (at : ℕ) → Requests left → Requests given → Requests rs → FreedAll (pass l left given rs at)
  pass_all l left given [] at lefts gives rest = record { left = lefts; given = gives }
  pass_all l left given (r ∷ rs) at lefts gives rest =
      go (waits l.holds left r) (pass_all l (left ++ r ∷ []) given rs at (all_one_more (λ (q : Request). P q.who.session) left r lefts rest.0) gives rest.1)
      (pass_all (with_grant l r at) left (given ++ r ∷ []) rs at lefts (all_one_more (λ (q : Request). P q.who.session) given r gives rest.0) rest.1)
    where
      go : (b : Bool) → FreedAll (pass l (left ++ r ∷ []) given rs at) → FreedAll (pass (with_grant l r at) left (given ++ r ∷ []) rs at)
          → FreedAll (cond b (pass l (left ++ r ∷ []) given rs at) (pass (with_grant l r at) left (given ++ r ∷ []) rs at))
      go true stays goes = stays
      go false stays goes = goes

-- requests that are granted
save_grants : (x : Site) (n : DataState) (rs : List Request) (b : Sofar) → AllByRecursion (λ (r : Request). HasLearnt x r.who.session) rs → SaveInv x n b → SaveInv x n (grants rs b)
save_grants x n [] b learnt inv = inv
save_grants x n (r ∷ rs) b learnt inv =
    save_grants x n rs (grants_one r b) learnt.1
    (save_state x n b (grants_one r b).state refl refl refl refl refl refl inv.requests
    (all_one_more (ReplyFits x b.state) b.state.replies _ inv.replies learnt.0) b.outs.frames inv.frames (grants_one r b) refl refl refl inv)

-- the locks of a session go
pub save_releases : (x : Site) (n : DataState) (ss : List ℕ) (b : Sofar) → SaveInv x n b → SaveInv x n (releases_all ss b)
save_releases x n [] b inv = inv
save_releases x n (s ∷ ss) b inv = save_releases x n ss (releases s b) (go freed)
  where
    f : Freed
    f = without_session b.state.locks s (length b.state.order)

    freed : FreedAll (HasLearnt x) f
    freed =
        pass_all (HasLearnt x) _ [] [] (filter (is_request_elsewhere s) b.state.locks.requests) (length b.state.order) tt tt
        (all_filtered (λ (r : Request). HasLearnt x r.who.session) (is_request_elsewhere s) b.state.locks.requests inv.requests)

    released : Sofar
    released = becomes (with_locks f.locks) (writes (act.Release b.state.server s) b)

    go : FreedAll (HasLearnt x) f → SaveInv x n (releases s b)
    go all =
        save_grants x n f.grants released all.given
        (save_state x n b released.state refl refl refl refl refl refl all.left inv.replies b.outs.frames inv.frames released refl refl refl inv)

-- replies leave

pub leaves_fit : (x : Site) (d : DataState) (says : Says) (b : Sofar) → SaysFit says x d → Tells x b.state → AllByRecursion (FrameFits x d) b.outs.frames
    → AllByRecursion (FrameFits x d) (leaves says b).outs.frames
leaves_fit x d (NewWelcome conn session) b fits tells all = all_one_more (FrameFits x d) b.outs.frames _ all fits
leaves_fit x d (EpochWelcome conn session kept) b fits tells all = all_one_more (FrameFits x d) b.outs.frames _ all fits
leaves_fit x d (ResetOf conn session at) b fits tells all = all_one_more (FrameFits x d) b.outs.frames _ all fits
leaves_fit x d (GrantOf session ticket at) b fits tells all = puts_fit x d session _ b tt fits tells all
leaves_fit x d (AnswerOf session about job number at sum) b fits tells all = puts_fit x d session _ b tt fits tells all

save_leave : (x : Site) (n : DataState) (rs : List Reply) (b : Sofar) → AllByRecursion (ReplyFits x b.state) rs → SaveInv x n b → SaveInv x n (all_leave rs b)
save_leave x n [] b fits inv = inv
save_leave x n (r ∷ rs) b fits inv =
    save_leave x n rs (leaves r.says b)
    (all_follow (ReplyFits x b.state) (ReplyFits x (leaves r.says b).state) (λ q at. says_same x b.state (leaves r.says b).state conns q.says at) rs fits.1)
    (save_windows x n b (leaves r.says b) (only_leaves r.says b) (leaves_fit x b.state r.says b fits.0 (tells_of x b.state inv.nodes) inv.frames) inv)
  where
    conns : (leaves r.says b).state.conns ≡ b.state.conns
    conns = ap (λ (d : DataState). d.conns) (only_leaves r.says b).state

pub save_flush : (x : Site) (n : DataState) (b : Sofar) → SaveInv x n b → SaveInv x n (flushed b)
save_flush x n b inv =
    save_leave x n (filter (may_leave b.state.synced) b.state.replies) waiting
    (all_follow (ReplyFits x b.state) (ReplyFits x waiting.state) (λ q at. says_same x b.state waiting.state refl q.says at)
    (filter (may_leave b.state.synced) b.state.replies) (all_filtered (ReplyFits x b.state) (may_leave b.state.synced) b.state.replies inv.replies))
    (save_state x n b waiting.state refl refl refl refl refl refl inv.requests (all_filtered (ReplyFits x b.state) (must_wait b.state.synced) b.state.replies inv.replies)
    b.outs.frames inv.frames waiting refl refl refl inv)
  where
    waiting : Sofar
    waiting = becomes (λ d. record d { replies = filter (must_wait d.synced) d.replies }) b

-- sessions are told what is synced
pub save_acks : (x : Site) (n : DataState) (ss : List ℕ) (b : Sofar) → AllByRecursion (HasLearnt x) ss → SaveInv x n b → SaveInv x n (acks ss b)
save_acks x n [] b learnt inv = inv
save_acks x n (s ∷ ss) b learnt inv = save_acks x n ss (acks_one s b) learnt.1 (save_puts x n s _ b tt learnt.0 inv)
