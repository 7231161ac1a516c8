-- What holds of a data server's connections while a step goes on that takes the message of a session that learnt of the order.
use Rattle.std.proofs.Common.{◌≡◌, ◌≤◌, ◌<◌, ℕ, true, List, [], ◌∷◌, ◌++◌, length, map, Option, Some, None, option_map, refl, sym, ◌∙◌, ap, subst, arith}
use Rattle.std.specs.Prelude.{IfSome, get_or}
use Rattle.std.specs.List.{AllByRecursion, find}
use Rattle.plain_orders.specs.declared.act.Act.TheVariants as act
use Rattle.plain_orders.specs.declared.entry.Entry.{Entry}
use Rattle.plain_orders.specs.Entries.{live_session}
use Rattle.recovery_round.specs.RoundWords.{Round, is_over}
use Rattle.ecp_messages.specs.declared.down.Down.{Down}
use Rattle.lock_table.specs.declared.rows.Request.{Request}
use Rattle.lock_table.specs.LockWords.{Freed, Locks}
use Rattle.subscript_keys.specs.declared.span.Span.{Span}
use Rattle.block_holders.specs.declared.noted.Noted.{Noted}
use Rattle.block_holders.specs.HolderWords.{is_touched, is_untouched, touched}
use Rattle.data_rules.specs.declared.down_frames.DownOut.{DownOut}
use Rattle.data_rules.specs.declared.rows.Caller.{Caller}
use Rattle.data_rules.specs.declared.rows.Conn.{Conn}
use Rattle.data_rules.specs.declared.rows.Role.{Role}
use Rattle.data_rules.specs.declared.rows.Role.TheVariants.{New, Waiting, Bound, Closing}
use Rattle.data_rules.specs.declared.rows.Says.{Says}
use Rattle.data_rules.specs.DataState.{DataState, SessionWindow}
use Rattle.data_rules.specs.Conns.{is_conn, role_in, role_of}
use Rattle.data_rules.specs.Entering.{enters, spans_of, with_entry}
use Rattle.data_rules.specs.Granting.{grants, grants_one, locks_become, with_locks}
use Rattle.data_rules.specs.Places.{epoch_place}
use Rattle.data_rules.specs.Puts.{Sofar, becomes, is_bound_to, number_of, puts, replies, writes}
use Rattle.cluster_runs.specs.Machine.{Site}
use Rattle.cluster_runs.specs.Sent.{Knew, Mark}
use Rattle.cluster_invariant.specs.Dials.{BoundTo, CameFor, GreatestDial, NodeDials, RoleIs}
use Rattle.cluster_invariant.specs.Ends.{CallerIs, app_of_caller}
use Rattle.cluster_invariant.specs.Served.{HasLearnt}
use Rattle.cluster_invariant.specs.Words.{all_differ}
use Rattle.cluster_invariant.proofs.AllLists.{all_filtered, all_follow}
use Rattle.cluster_invariant.proofs.PutLaws.{Appended, OnlyWindows, appends_state, only_puts, with_appended, with_windows}
use Rattle.dials_server.proofs.SameLists.{IsItem, SameLists, item_lists, lists_same}
use Rattle.dials_server.proofs.TellsNodes.{all_one_more, tells_of}
use Rattle.dials_server.proofs.ClosedNodes.{linked_as}
use Rattle.dials_server.proofs.FittingFrames.{FrameFits}
use Rattle.dials_server.proofs.OpenedNodes.{Within}
use Rattle.dials_server.proofs.PlainFrames.{IsPlain}
use Rattle.dials_server.proofs.SaveNodes.{ReplyFits, frames_same, puts_fit, says_same}
use Rattle.dials_server.proofs.RoundNodes.{drops_fit}

-- where a round is over each live session learnt of the order
abbrev pub RoundFits : Site → List Entry → Option Round → Type 0
RoundFits x es o = (r : Round) → o ≡ Some r → is_over r ≡ true → (app s : ℕ) → live_session es app ≡ Some s → HasLearnt x s

pub record GoInv (x : Site) (n : DataState) (gone : List ℕ) (b : Sofar) : Type 0 where
  pub nodes : NodeDials x b.state
  pub frames : AllByRecursion (FrameFits x b.state) b.outs.frames
  pub cuts : b.outs.cuts ≡ gone
  pub noted : AllByRecursion (λ (y : Noted). HasLearnt x y.session) b.state.noted
  pub requests : AllByRecursion (λ (r : Request). HasLearnt x r.who.session) b.state.locks.requests
  pub replies : AllByRecursion (ReplyFits x b.state) b.state.replies
  pub conns : b.state.conns ≡ n.conns
  pub longer : length n.order ≤ length b.state.order
  pub within : Within b.state.order
  pub callers : AllByRecursion (CallerIs b.state x) b.state.callers
  pub apart : all_differ (map app_of_caller b.state.callers) ≡ true
  pub round : RoundFits x b.state.order b.state.round

came_as : (es fs : List Entry) → epoch_place fs ≡ epoch_place es → (s : ℕ) (knew : Knew) (o : Option Mark) → CameFor es s knew o → CameFor fs s knew o
came_as es fs same s knew None is = subst (λ (i : ℕ). i < s) (sym same) is
came_as es fs same s knew (Some m) is = is

-- a node whose order goes on by such
pub node_lists : (x : Site) (n m : DataState) → SameLists n.order m.order → m.conns ≡ n.conns → m.dials ≡ n.dials → NodeDials x n → NodeDials x m
node_lists x n m lists conns dials is = record {
  places = ap (λ (ds : List ℕ). length ds) dials ∙ is.places;
  dials = λ app low. subst (λ (ds : List ℕ). GreatestDial x.past (x.end_at app) (get_or ds app 0)) (sym dials) (is.dials app low);
  differ = ap (λ (cs : List Conn). all_differ (map number_of cs)) conns ∙ is.differ;
  roles = λ k. subst (λ (cs : List Conn). IfSome (option_map role_in (find (is_conn k) cs)) (RoleIs x m k)) (sym conns) (go k (role_of n k) (is.roles k));
}
  where
    role : (k : ℕ) (r : Role) → RoleIs x n k r → RoleIs x m k r
    role k New at = at
    role k Waiting at = at
    role k (Bound s) at = record {
      lives = lists.lives s ∙ at.lives;
      its = ap (λ (cs : List Conn). option_map number_of (find (is_bound_to s) cs)) conns ∙ at.its;
      app = at.app;
      opened = lists.apps s ∙ at.opened;
      linked =
          linked_as x k at.app (BoundTo x n.order s) (BoundTo x m.order s)
          (λ c on. record {
            carries = on.carries;
            came = came_as n.order m.order lists.place s c.knew c.knew.mark on.came;
            told = on.told;
            silent = on.silent;
            unreset = on.unreset;
          }) at.linked;
      newest = at.newest;
    }
    role k (Closing s) at = record { ended = lists.ended s at.ended; app = at.app; opened = lists.apps s ∙ at.opened; linked = at.linked }

    go : (k : ℕ) (o : Option Role) → IfSome o (RoleIs x n k) → IfSome o (RoleIs x m k)
    go k None at = tt
    go k (Some r) at = role k r at

within_lists : (es fs : List Entry) → SameLists es fs → Within es → Within fs
within_lists es fs lists is = record {
  dead = λ q above. lists.lives q ∙ is.dead q (omega (arith, above, lists.longer));
  unopened = λ q above. lists.apps q ∙ is.unopened q (omega (arith, above, lists.longer));
}

caller_lists : (x : Site) (d e : DataState) → e.conns ≡ d.conns → SameLists d.order e.order → (c : Caller) → CallerIs d x c → CallerIs e x c
caller_lists x d e conns lists c is = record {
  waits = ap (λ (cs : List Conn). option_map role_in (find (is_conn c.conn) cs)) conns ∙ is.waits;
  free = lists.sessions c.app ∙ is.free;
  linked = is.linked;
}

-- What a change needs that leaves the connections.
pub record GoesOnBy (x : Site) (b : Sofar) (m : DataState) : Type 0 where
  pub conns : m.conns ≡ b.state.conns
  pub lists : SameLists b.state.order m.order
  pub dials : m.dials ≡ b.state.dials
  pub callers : m.callers ≡ b.state.callers
  pub noted : AllByRecursion (λ (y : Noted). HasLearnt x y.session) m.noted
  pub requests : AllByRecursion (λ (r : Request). HasLearnt x r.who.session) m.locks.requests
  pub replies : AllByRecursion (ReplyFits x b.state) m.replies
  pub round : RoundFits x m.order m.round

module _ (x : Site) (n : DataState) (gone : List ℕ) where
  abbrev Go : Sofar → Type 0
  Go b = GoInv x n gone b

  pub go_by : (b c : Sofar) (m : DataState) → c.state ≡ m → AllByRecursion (FrameFits x b.state) c.outs.frames → c.outs.cuts ≡ b.outs.cuts → GoesOnBy x b m → Go b → Go c
  go_by b c m state frames cuts by inv =
      subst (λ (d : DataState). GoInv x n gone (record { state = d; outs = c.outs })) (sym state) (record {
        nodes = node_lists x b.state m by.lists by.conns by.dials inv.nodes;
        frames = frames_same x b.state m by.conns c.outs.frames frames;
        cuts = cuts ∙ inv.cuts;
        noted = by.noted;
        requests = by.requests;
        replies = all_follow (ReplyFits x b.state) (ReplyFits x m) (λ r at. says_same x b.state m by.conns r.says at) m.replies by.replies;
        conns = by.conns ∙ inv.conns;
        longer = omega (arith, inv.longer, by.lists.longer);
        within = within_lists b.state.order m.order by.lists inv.within;
        callers =
            subst (λ (cs : List Caller). AllByRecursion (CallerIs m x) cs) (sym by.callers)
            (all_follow (CallerIs b.state x) (CallerIs m x) (λ c at. caller_lists x b.state m by.conns by.lists c at) b.state.callers inv.callers);
        apart = ap (λ (cs : List Caller). all_differ (map app_of_caller cs)) by.callers ∙ inv.apart;
        round = by.round;
      })

  -- the state but for some parts is as it was
  same_by : (b : Sofar) → Go b → GoesOnBy x b b.state
  same_by b inv = record {
    conns = refl;
    lists = lists_same b.state.order b.state.order refl;
    dials = refl;
    callers = refl;
    noted = inv.noted;
    requests = inv.requests;
    replies = inv.replies;
    round = inv.round;
  }

  by_windows : (b : Sofar) (ws : List SessionWindow) → Go b → GoesOnBy x b (with_windows ws b.state)
  by_windows b ws inv = record {
    conns = refl;
    lists = lists_same b.state.order b.state.order refl;
    dials = refl;
    callers = refl;
    noted = inv.noted;
    requests = inv.requests;
    replies = inv.replies;
    round = inv.round;
  }

  pub go_windows : (b c : Sofar) → OnlyWindows b c → AllByRecursion (FrameFits x b.state) c.outs.frames → Go b → Go c
  go_windows b c only frames inv = go_by b c (with_windows only.windows b.state) only.state frames only.cuts (by_windows b only.windows inv) inv

  pub go_puts : (s : ℕ) (m : Down) (b : Sofar) → IsPlain m → HasLearnt x s → Go b → Go (puts s m b)
  go_puts s m b plain learnt inv =
      go_windows b (puts s m b) (only_puts s m b) (puts_fit x b.state s m b plain learnt (tells_of x b.state inv.nodes) inv.frames) inv

  pub go_reply : (at : ℕ) (says : Says) (b : Sofar) → ReplyFits x b.state (record { at = at; says = says }) → Go b → Go (replies at says b)
  go_reply at says b fits inv =
      go_by b (replies at says b) (replies at says b).state refl inv.frames refl (record {
        conns = refl;
        lists = lists_same b.state.order b.state.order refl;
        dials = refl;
        callers = refl;
        noted = inv.noted;
        requests = inv.requests;
        replies = all_one_more (ReplyFits x b.state) b.state.replies (record { at = at; says = says }) inv.replies fits;
        round = inv.round;
      }) inv

  go_grants : (rs : List Request) (b : Sofar) → AllByRecursion (λ (r : Request). HasLearnt x r.who.session) rs → Go b → Go (grants rs b)
  go_grants [] b learnt inv = inv
  go_grants (r ∷ rs) b learnt inv =
      go_grants rs (grants_one r b) learnt.1
      (go_by b (grants_one r b) (grants_one r b).state refl inv.frames refl (record {
        conns = refl;
        lists = lists_same b.state.order b.state.order refl;
        dials = refl;
        callers = refl;
        noted = inv.noted;
        requests = inv.requests;
        replies = all_one_more (ReplyFits x b.state) b.state.replies _ inv.replies learnt.0;
        round = inv.round;
      }) inv)

  -- the table of locks
  pub go_table : (l : Locks) (b c : Sofar) → AllByRecursion (λ (r : Request). HasLearnt x r.who.session) l.requests → c.state ≡ b.state → c.outs.frames ≡ b.outs.frames
      → c.outs.cuts ≡ b.outs.cuts → Go b → Go (becomes (with_locks l) c)
  go_table l b c requests state frames cuts inv =
      go_by b (becomes (with_locks l) c) (with_locks l b.state) (ap (with_locks l) state)
      (subst (λ (fs : List DownOut). AllByRecursion (FrameFits x b.state) fs) (sym frames) inv.frames) cuts (record {
        conns = refl;
        lists = lists_same b.state.order b.state.order refl;
        dials = refl;
        callers = refl;
        noted = inv.noted;
        requests = requests;
        replies = inv.replies;
        round = inv.round;
      }) inv

  pub go_locks : (f : Freed) (b c : Sofar) → AllByRecursion (λ (r : Request). HasLearnt x r.who.session) f.locks.requests
      → AllByRecursion (λ (r : Request). HasLearnt x r.who.session) f.grants → c.state ≡ b.state → c.outs.frames ≡ b.outs.frames → c.outs.cuts ≡ b.outs.cuts → Go b
      → Go (locks_become f c)
  go_locks f b c left given state frames cuts inv = go_grants f.grants (becomes (with_locks f.locks) c) given (go_table f.locks b c left state frames cuts inv)

  -- an item enters
  pub go_item : (e : Entry) (b : Sofar) → IsItem e → Go b → Go (enters e b)
  go_item e b item inv = go (appends_state e (writes (act.Enter b.state.server e) b))
    where
      entering : Sofar
      entering = writes (act.Enter b.state.server e) b

      spans : List Span
      spans = spans_of entering.state e

      lists : SameLists b.state.order (b.state.order ++ e ∷ [])
      lists = item_lists b.state.order e item

      go : Appended e entering (enters e b) → Go (enters e b)
      go a =
          go_by b (enters e b) (with_appended e a.windows b.state) a.state
          (drops_fit x b.state (length b.state.order) (touched spans b.state.noted) (becomes (with_entry e spans) entering)
          (all_filtered (λ (y : Noted). HasLearnt x y.session) (is_touched spans) b.state.noted inv.noted) (tells_of x b.state inv.nodes) inv.frames) a.cuts (record {
            conns = refl;
            lists = lists;
            dials = refl;
            callers = refl;
            noted = all_filtered (λ (y : Noted). HasLearnt x y.session) (is_untouched spans) b.state.noted inv.noted;
            requests = inv.requests;
            replies = inv.replies;
            round = λ r its over app s has. inv.round r its over app s (sym (lists.sessions app) ∙ has);
          }) inv
