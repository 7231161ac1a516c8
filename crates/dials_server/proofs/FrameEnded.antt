-- A data server ends the connection that a frame came on: the part on connections then, and what the node goes on from.
use Rattle.std.proofs.Common.{◌≡◌, ◌≢◌, ℕ, Bool, true, false, not, ◌&&◌, ◌||◌, ◌==◌, cond, if◌then◌else◌, List, [], ◌∷◌, ◌++◌, map, filter, Option, Some, None, is_some, option_map, refl, sym, ◌∙◌, ap, subst, arith}
use Rattle.std.specs.Prelude.{IsSomeAnd}
use Rattle.std.specs.List.{AllByRecursion, find, list_any}
use Rattle.std.proofs.lemmas.Bool.{eq-eqb, false≢true}
use Rattle.plain_orders.specs.declared.entry.Entry.{Entry}
use Rattle.plain_orders.specs.Entries.{live_session}
use Rattle.plain_runs.specs.Plain.{Server}
use Rattle.lock_table.specs.declared.rows.Request.{Request}
use Rattle.lock_table.specs.LockWords.{Locks}
use Rattle.block_holders.specs.declared.noted.Noted.{Noted}
use Rattle.data_rules.specs.declared.data_in.DataIn.{DataIn}
use Rattle.data_rules.specs.declared.data_in.DataIn.TheVariants as data_in
use Rattle.data_rules.specs.declared.data_outs.DataOuts.{DataOuts}
use Rattle.data_rules.specs.declared.down_frames.DownOut.{DownOut}
use Rattle.data_rules.specs.declared.rows.Caller.{Caller}
use Rattle.data_rules.specs.declared.rows.Conn.{Conn}
use Rattle.data_rules.specs.declared.rows.Reply.{Reply}
use Rattle.data_rules.specs.declared.rows.Says.{Says}
use Rattle.data_rules.specs.declared.rows.Says.TheVariants.{NewWelcome, EpochWelcome, ResetOf, GrantOf, AnswerOf}
use Rattle.data_rules.specs.DataState.{DataState}
use Rattle.data_rules.specs.Conns.{ends_conn, is_conn, is_other_caller, leaves_conn as node_leaves, role_in, role_of, without_conn}
use Rattle.data_rules.specs.Puts.{Sofar, becomes, begun, is_reply_elsewhere, no_outs, says_on}
use Rattle.ecp_messages.specs.declared.down.DownFrame.{DownFrame}
use Rattle.cluster_runs.specs.Machine.{Site}
use Rattle.cluster_runs.specs.Sent.{Connection}
use Rattle.cluster_runs.specs.Connections.{data_leaves, down_of, hears_downs, is_link, is_out_on, leaves_conn as site_leaves, leaves_conns, left, link_in, link_of, with_downs}
use Rattle.cluster_runs.specs.Lanes.{with_data_step}
use Rattle.cluster_runs.specs.Goes.{with_hellos, with_lanes, with_node}
use Rattle.cluster_invariant.specs.Dials.{DialsAre, NodeDials}
use Rattle.cluster_invariant.specs.Ends.{CallerIs, HelloAlone, app_of_caller}
use Rattle.cluster_invariant.specs.Served.{HasLearnt}
use Rattle.cluster_invariant.specs.Words.{all_differ, is_same}
use Rattle.cluster_invariant.proofs.AllLists.{all_both, all_filtered, all_follow, all_passed}
use Rattle.cluster_invariant.proofs.ConnRoles.{other_stays}
use Rattle.cluster_invariant.proofs.Small.{of_some}
use Rattle.dials_kept.proofs.ConnectionsGrow.{known_same}
use Rattle.dials_server.proofs.EndedDials.{LosesOnly, broken_site, left_link, loses_only}
use Rattle.dials_server.proofs.FittingFrames.{FrameFits, frames_on}
use Rattle.dials_server.proofs.FrameSettled.{PutsFrames}
use Rattle.dials_server.proofs.GoNodes.{GoInv}
use Rattle.dials_server.proofs.NodeConns.{there_fewer}
use Rattle.dials_server.proofs.OpenedNodes.{Within}
use Rattle.dials_server.proofs.QuietServer.{lane_step}
use Rattle.dials_server.proofs.SaveNodes.{ReplyFits, SaysFit}

not_true : (b : Bool) → not b ≡ true → b ≡ false
not_true true is = absurd (false≢true is)
not_true false is = refl

both_parts : (a b : Bool) → (not a && b) ≡ true → (a ≡ false) × (b ≡ true)
both_parts true b is = absurd (false≢true is)
both_parts false b is = (refl, is)

-- fewer Hellos are still of different application servers
differ_callers : (p : Caller → Bool) (cs : List Caller) → all_differ (map app_of_caller cs) ≡ true → all_differ (map app_of_caller (filter p cs)) ≡ true
differ_callers p [] differ = refl
differ_callers p (c ∷ cs) differ = go (p c) parts.0 (differ_callers p cs parts.1)
  where
    parts : (list_any (is_same c.app) (map app_of_caller cs) ≡ false) × (all_differ (map app_of_caller cs) ≡ true)
    parts = both_parts (list_any (is_same c.app) (map app_of_caller cs)) (all_differ (map app_of_caller cs)) differ

    fewer : (ds : List Caller) → list_any (is_same c.app) (map app_of_caller ds) ≡ false → list_any (is_same c.app) (map app_of_caller (filter p ds)) ≡ false
    fewer [] none = refl
    fewer (d ∷ ds) none = by (p d) (c.app == d.app) refl none (λ rest. fewer ds rest)
      where
        by : (t s : Bool) → (c.app == d.app) ≡ s → (s || list_any (is_same c.app) (map app_of_caller ds)) ≡ false
            → (list_any (is_same c.app) (map app_of_caller ds) ≡ false → list_any (is_same c.app) (map app_of_caller (filter p ds)) ≡ false)
            → list_any (is_same c.app) (map app_of_caller (cond t (d ∷ filter p ds) (filter p ds))) ≡ false
        by t true same found more = absurd (false≢true (sym found))
        by true false other none more = ap (λ (b : Bool). b || list_any (is_same c.app) (map app_of_caller (filter p ds))) other ∙ more none
        by false false other none more = more none

    go : (t : Bool) → list_any (is_same c.app) (map app_of_caller cs) ≡ false → all_differ (map app_of_caller (filter p cs)) ≡ true
        → all_differ (map app_of_caller (cond t (c ∷ filter p cs) (filter p cs))) ≡ true
    go true none more = ap (λ (b : Bool). not b && all_differ (map app_of_caller (filter p cs))) (fewer cs none) ∙ more
    go false none more = more

module _ (v : Server) (z : Site) (dead : ℕ → Bool) (n : DataState) (now conn : ℕ) (is : DialsAre v z dead) (runs : z.node ≡ Some n) (inv : GoInv z n [] (begun n)) where
  abbrev pub ended : Sofar
  ended = ends_conn conn now (begun n)

  abbrev pub left_node : DataState
  left_node = (node_leaves conn now (begun n)).state

  abbrev pub site_ended : Site
  site_ended = with_lanes n left_node no_outs (with_hellos (data_in.Broken conn) (leaves_conns [] (hears_downs [] (with_node now left_node (site_leaves conn z)))))

  only : LosesOnly (becomes (without_conn conn) (begun n)) (node_leaves conn now (begun n))
  only = loses_only (role_of n conn) now (becomes (without_conn conn) (begun n))

  pub order_left : left_node.order ≡ n.order
  order_left = only.order

  pub dials_ended : DialsAre v site_ended dead
  dials_ended = broken_site v v z dead n left_node no_outs now conn (known_same v) runs refl refl only.order only.dials only.conns is

  lanes : (s k : ℕ) → ((site_ended.lane_at s k).began ≡ (z.lane_at s k).began) × ((site_ended.lane_at s k).down_taken ≡ (z.lane_at s k).down_taken)
  lanes s k = lane_step (k == z.past) (z.lane_at s k) (with_data_step n left_node [] s (z.lane_at s k)) refl refl

  moved : (s : ℕ) → HasLearnt z s → HasLearnt site_ended s
  moved s learnt = ap (λ (o : Option ℕ). is_some o) (lanes s z.past).0 ∙ learnt

  role_stays : (i : ℕ) → i ≢ conn → role_of left_node i ≡ role_of n i
  role_stays i apart = ap (λ (cs : List Conn). option_map role_in (find (is_conn i) cs)) only.conns ∙ ap (option_map role_in) (other_stays n.conns conn i apart)

  off : (i : ℕ) → (i == conn) ≡ false → i ≢ conn
  off i other same = false≢true (sym other ∙ eq-eqb i conn same)

  says_ended : (says : Says) → SaysFit says z n → says_on conn says ≡ false → SaysFit says site_ended left_node
  says_ended (NewWelcome i session) fits other = role_stays i (off i other) ∙ fits
  says_ended (EpochWelcome i session kept) fits other = role_stays i (off i other) ∙ fits
  says_ended (ResetOf i session at) fits other = role_stays i (off i other) ∙ fits
  says_ended (GrantOf session ticket at) fits other = moved session fits
  says_ended (AnswerOf session about job number at sum) fits other = moved session fits

  links : (i : ℕ) → link_of site_ended i ≡ link_of z i
  links i = go (i == conn)
    where
      go : (b : Bool) → link_in (if b then option_map left (z.connection_at i) else z.connection_at i) ≡ link_of z i
      go true = left_link (z.connection_at i)
      go false = refl

  keeps : (P : Connection → Type 0) → ((c : Connection) → P c → P (data_leaves c)) → (b : Bool) (o : Option Connection) → IsSomeAnd o P
      → IsSomeAnd (option_map (λ c. c) (option_map (λ c. if b then data_leaves c else c) o)) P
  keeps P kept b None at = at
  keeps P kept true (Some c) at = kept c at
  keeps P kept false (Some c) at = at

  caller_ended : (c : Caller) → CallerIs n z c → is_other_caller conn c ≡ true → CallerIs left_node site_ended c
  caller_ended c at other = record {
    waits = role_stays c.conn (off c.conn (not_true (c.conn == conn) other)) ∙ at.waits;
    free = ap (λ (es : List Entry). live_session es c.app) only.order ∙ at.free;
    linked = record {
      dial = at.linked.dial;
      link = links c.conn ∙ at.linked.link;
      first =
          keeps (λ e. e.first ≡ Some (record { order = z.past; conn = c.conn })) (λ e was. was) (is_link c.app at.linked.dial (link_of z conn))
          ((z.end_at c.app).connection_at at.linked.dial) at.linked.first;
      its =
          keeps HelloAlone (λ e was. record { hello = was.hello; one = was.one; taken = was.taken; silent = was.silent; its = was.its })
          (is_link c.app at.linked.dial (link_of z conn)) ((z.end_at c.app).connection_at at.linked.dial) at.linked.its;
    };
  }

  -- what the node goes on from
  pub go_ended : GoInv site_ended left_node (conn ∷ []) ended
  go_ended = record {
    nodes = of_some (NodeDials site_ended) site_ended.node left_node refl dials_ended.node;
    frames = subst (λ (fs : List DownOut). AllByRecursion (FrameFits site_ended left_node) fs) (sym only.frames) tt;
    cuts = ap (λ (cs : List ℕ). cs ++ conn ∷ []) only.cuts;
    noted =
        subst (λ (ys : List Noted). AllByRecursion (λ (y : Noted). HasLearnt site_ended y.session) ys) (sym only.noted)
        (all_follow (λ (y : Noted). HasLearnt z y.session) (λ (y : Noted). HasLearnt site_ended y.session) (λ y at. moved y.session at) n.noted inv.noted);
    requests =
        subst (λ (t : Locks). AllByRecursion (λ (r : Request). HasLearnt site_ended r.who.session) t.requests) (sym only.locks)
        (all_follow (λ (r : Request). HasLearnt z r.who.session) (λ (r : Request). HasLearnt site_ended r.who.session) (λ r at. moved r.who.session at) n.locks.requests inv.requests);
    replies =
        subst (λ (rs : List Reply). AllByRecursion (ReplyFits site_ended left_node) rs) (sym only.replies)
        (all_follow (λ (r : Reply). ReplyFits z n r × (is_reply_elsewhere (says_on conn) r ≡ true)) (ReplyFits site_ended left_node)
        (λ r both. says_ended r.says both.0 (not_true (says_on conn r.says) both.1)) (filter (is_reply_elsewhere (says_on conn)) n.replies)
        (all_both (ReplyFits z n) (λ (r : Reply). is_reply_elsewhere (says_on conn) r ≡ true) (filter (is_reply_elsewhere (says_on conn)) n.replies)
        (all_filtered (ReplyFits z n) (is_reply_elsewhere (says_on conn)) n.replies inv.replies) (all_passed (is_reply_elsewhere (says_on conn)) n.replies)));
    conns = refl;
    longer = omega arith;
    within = subst Within (sym only.order) inv.within;
    callers =
        subst (λ (cs : List Caller). AllByRecursion (CallerIs left_node site_ended) cs) (sym only.callers)
        (all_follow (λ (c : Caller). CallerIs n z c × (is_other_caller conn c ≡ true)) (CallerIs left_node site_ended) (λ c both. caller_ended c both.0 both.1)
        (filter (is_other_caller conn) n.callers)
        (all_both (CallerIs n z) (λ (c : Caller). is_other_caller conn c ≡ true) (filter (is_other_caller conn) n.callers)
        (all_filtered (CallerIs n z) (is_other_caller conn) n.callers inv.callers) (all_passed (is_other_caller conn) n.callers)));
    apart = ap (λ (cs : List Caller). all_differ (map app_of_caller cs)) only.callers ∙ differ_callers (is_other_caller conn) n.callers inv.apart;
    round = λ r its over app s has. moved s (inv.round r (sym only.round ∙ its) over app s (ap (λ (es : List Entry). live_session es app) (sym only.order) ∙ has));
  }

  -- nothing is for it any more
  pub role_gone : is_some (role_of left_node conn) ≡ false
  role_gone =
      ap (λ (cs : List Conn). is_some (option_map role_in (find (is_conn conn) cs))) only.conns ∙ there_fewer n.conns conn conn
      ∙ ap (λ (b : Bool). if b then false else is_some (option_map role_in (find (is_conn conn) n.conns))) (eq-eqb conn conn refl)

  -- the site after the step, which put frames before it left the connection
  module _ (st : DataState) (outs : DataOuts) (input : DataIn) where
    abbrev pub y : Site
    y = with_lanes n st outs (with_hellos input (leaves_conns (conn ∷ []) (hears_downs outs.frames (with_node now st z))))

    lanes_y : (s k : ℕ) → ((y.lane_at s k).began ≡ (z.lane_at s k).began) × ((y.lane_at s k).down_taken ≡ (z.lane_at s k).down_taken)
    lanes_y s k = lane_step (k == z.past) (z.lane_at s k) (with_data_step n st outs.frames s (z.lane_at s k)) refl refl

    outs_same : (a d : ℕ) (fs : List DownOut) → filter (is_out_on z a d) fs ≡ filter (is_out_on site_ended a d) fs
    outs_same a d [] = refl
    outs_same a d (g ∷ gs) =
        ap (λ (b : Bool). cond b (g ∷ filter (is_out_on z a d) gs) (filter (is_out_on z a d) gs)) (ap (is_link a d) (sym (links g.conn)))
        ∙ ap (λ (os : List DownOut). cond (is_out_on site_ended a d g) (g ∷ os) os) (outs_same a d gs)

    down_left : (gs : List DownFrame) (c : Connection) → data_leaves (with_downs z.past gs c) ≡ with_downs z.past gs (data_leaves c)
    down_left [] c = refl
    down_left (g ∷ gs) c = down_left gs _

    turned : (b : Bool) (gs : List DownFrame) (o : Option Connection) → option_map (λ c. if b then data_leaves c else c) (option_map (λ c. with_downs z.past gs c) o)
        ≡ option_map (with_downs z.past gs) (option_map (λ c. c) (option_map (λ c. if b then data_leaves c else c) o))
    turned b gs None = refl
    turned true gs (Some c) = ap (λ (e : Connection). Some e) (down_left gs c)
    turned false gs (Some c) = refl

    pub puts_ended : PutsFrames site_ended y st outs.frames
    puts_ended = record {
      past = refl;
      began = λ s k. (lanes_y s k).0 ∙ sym (lanes s k).0;
      taken = λ s k. omega (arith, (lanes_y s k).1, (lanes s k).1);
      connections = refl;
      each =
          λ a d.
          turned (is_link a d (link_of z conn)) (frames_on z a d outs.frames) ((z.end_at a).connection_at d)
          ∙ ap (λ (os : List DownOut). option_map (with_downs z.past (map down_of os)) ((site_ended.end_at a).connection_at d)) (outs_same a d outs.frames);
      states = λ a. refl;
      tolds = λ a. refl;
      node = refl;
    }
