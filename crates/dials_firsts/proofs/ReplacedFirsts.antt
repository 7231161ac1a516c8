-- A Hello that is taken while its application server has a session: that is closed and its connection ended, and a session opens or the
-- Hello waits.
use Rattle.std.proofs.Common.{◌≡◌, ◌≢◌, ◌≤◌, ℕ, zero, suc, Bool, true, false, ◌==◌, ◌&&◌, ◌||◌, not, cond, if◌then◌else◌, List, [], ◌∷◌, ◌++◌, length}
use Rattle.std.proofs.Common.{map, filter, drop, Option, Some, None, is_some, option_map, refl, sym, ◌∙◌, ap, subst, arith, inr}
use Rattle.std.specs.Prelude.{IsSomeAnd, set}
use Rattle.std.specs.List.{AllByRecursion, find, list_any}
use Rattle.std.proofs.lemmas.Bool.{eq-eqb, eqb-true, false≢true}
use Rattle.std.proofs.lemmas.List.{length-append}
use Rattle.plain_orders.specs.declared.causes.ShutCause.TheVariants as shuts
use Rattle.plain_orders.specs.declared.entry.Entry.{Entry}
use Rattle.plain_orders.specs.declared.entry.Entry.TheVariants.{Closed}
use Rattle.plain_orders.specs.Entries.{live_session, unless_closed}
use Rattle.plain_orders.specs.Sessions.{is_close}
use Rattle.plain_orders.proofs.EntryLemmas.{live_session-push}
use Rattle.plain_runs.specs.Plain.{Server}
use Rattle.link_states.specs.declared.link_event.LinkEvent.TheVariants as event
use Rattle.recovery_round.specs.RoundWords.{Round, is_over}
use Rattle.lock_table.specs.declared.rows.Request.{Request}
use Rattle.ecp_messages.specs.declared.up.UpFrame.{UpFrame}
use Rattle.data_rules.specs.declared.down_frames.DownOut.{DownOut}
use Rattle.data_rules.specs.declared.rows.Caller.{Caller}
use Rattle.data_rules.specs.declared.rows.Conn.{Conn}
use Rattle.data_rules.specs.declared.rows.Reply.{Reply}
use Rattle.data_rules.specs.declared.rows.Role.{Role}
use Rattle.data_rules.specs.declared.rows.Role.TheVariants.{New, Waiting, Bound}
use Rattle.data_rules.specs.DataState.{DataState}
use Rattle.data_rules.specs.Callers.{caller_conn, dial_of, is_caller, waiting_conn, with_caller}
use Rattle.data_rules.specs.Closing.{closes}
use Rattle.data_rules.specs.Conns.{drops_conn, is_conn, is_other_caller, is_other_conn, role_in, role_of, with_event, with_role, with_role_if}
use Rattle.data_rules.specs.Opening.{is_round_over, opens}
use Rattle.data_rules.specs.Puts.{Sofar, becomes, begun, conn_of, number_of}
use Rattle.cluster_runs.specs.CoresState.{Linked}
use Rattle.cluster_runs.specs.Machine.{Site}
use Rattle.cluster_runs.specs.Connections.{link_of as site_link}
use Rattle.cluster_runs.specs.Goes.{with_node}
use Rattle.cluster_invariant.specs.Dials.{NodeDials}
use Rattle.cluster_invariant.specs.Ends.{CallerIs}
use Rattle.cluster_invariant.specs.Served.{HasLearnt}
use Rattle.cluster_invariant.specs.Words.{all_differ}
use Rattle.cluster_invariant.proofs.AllLists.{all_filtered, all_follow}
use Rattle.cluster_invariant.proofs.ConnRoles.{other_stays}
use Rattle.cluster_invariant.proofs.Small.{of_some}
use Rattle.dials_server.proofs.ClosedNodes.{conns_closed, node_closes}
use Rattle.dials_server.proofs.FittingFrames.{FrameFits}
use Rattle.dials_server.proofs.FrameSettled.{PutsFrames}
use Rattle.dials_server.proofs.NodeConns.{differ_fewer}
use Rattle.dials_server.proofs.OpenedNodes.{Within}
use Rattle.dials_server.proofs.PlainFrames.{PlainOn, TellsOn}
use Rattle.dials_server.proofs.RoundNodes.{OpenInv, open_state}
use Rattle.dials_server.proofs.SaveDials.{within_ordered}
use Rattle.dials_server.proofs.SaveNodes.{ReplyFits, plain_fits, says_same}
use Rattle.dials_server.proofs.TakenFrames.{site_taken}
use Rattle.dials_server.proofs.TellsNodes.{Tells, tells_of}
use Rattle.dials_firsts.proofs.CutIfs.{CutStage, all_elsewhere, callers_if, conns_if, cut_is, drops_if, gone_of, on_if, replies_if}
use Rattle.dials_firsts.proofs.FirstComes.{Comes, FirstAt}
use Rattle.dials_firsts.proofs.FirstStages.{after_site}
use Rattle.dials_firsts.proofs.HelloFirsts.{fresh_if, hello_linked}
use Rattle.dials_firsts.proofs.OpenedFirsts.{hello_opens, none_over, opens_quiet, opens_round}
use Rattle.dials_firsts.proofs.OpensRoles.{opens_waits}
use Rattle.dials_firsts.proofs.ReplacedNodes.{ShutBy, shut_by, shut_is, within_closed}
use Rattle.dials_firsts.proofs.ResumedNodes.{c_at, conns_are, dials_are, its_apart, m, nodes_if, noted_if, order_is, unbound_now, waiting_node}
use Rattle.dials_firsts.proofs.ResumedNodes.{waiting_stage, waits_if}
use Rattle.dials_firsts.proofs.RoleLists.{SameBounds, found_for, waits_unbound}
use Rattle.dials_firsts.proofs.ShortFirsts.{has_nodes, new_role}

-- a connection that is new among those that are left
pub new_if : (conn : ℕ) (o : Option ℕ) (cs : List Conn) → o ≢ Some conn → option_map role_in (find (is_conn conn) cs) ≡ Some New
    → option_map role_in (find (is_conn conn) (conns_if o cs)) ≡ Some New
new_if conn None cs apart new = new
new_if conn (Some old) cs apart new = ap (option_map role_in) (other_stays cs old conn (λ same. apart (ap (λ (i : ℕ). Some i) (sym same)))) ∙ new

pub differ_if : (o : Option ℕ) (cs : List Conn) → all_differ (map number_of cs) ≡ true → all_differ (map number_of (conns_if o cs)) ≡ true
differ_if None cs differ = differ
differ_if (Some old) cs differ = differ_fewer (is_other_conn old) cs differ

-- none of these Hellos is of this application server
none_found : (app : ℕ) (cs : List Caller) → AllByRecursion (λ (c : Caller). is_caller app c ≡ false) cs → find (is_caller app) cs ≡ None
none_found app [] all = refl
none_found app (c ∷ cs) all = ap (λ (b : Bool). cond b (Some c) (find (is_caller app) cs)) all.0 ∙ none_found app cs all.1

none_left_found : (app : ℕ) (o : Option ℕ) (cs : List Caller) → AllByRecursion (λ (c : Caller). is_caller app c ≡ false) cs
    → find (is_caller app) (callers_if o cs) ≡ None
none_left_found app None cs all = none_found app cs all
none_left_found app (Some old) cs all = none_found app (filter (is_other_caller old) cs)
    (all_filtered (λ (c : Caller). is_caller app c ≡ false) (is_other_caller old) cs all)

-- a Close that isn't synced keeps the round on
any_last : (es : List Entry) (s : ℕ) → list_any is_close (es ++ Closed s ∷ []) ≡ true
any_last [] s = refl
any_last (e ∷ es) s = or_true (is_close e) (any_last es s)
  where
    or_true : (a : Bool) {b : Bool} → b ≡ true → (a || b) ≡ true
    or_true true is = refl
    or_true false is = is

close_behind : (k : ℕ) (es : List Entry) (s : ℕ) → k ≤ length es → list_any is_close (drop k (es ++ Closed s ∷ [])) ≡ true
close_behind zero es s low = any_last es s
close_behind (suc k) [] s low = absurd (omega (arith, low))
close_behind (suc k) (e ∷ es) s low = close_behind k es s (omega (arith, low))

pub still_on : (d : DataState) (o : Option Round) → list_any is_close (drop d.synced d.order) ≡ true → is_round_over d o ≡ false
still_on d None behind = refl
still_on d (Some r) behind = ap (λ (b : Bool). is_over r && not b) behind ∙ go (is_over r)
  where
    go : (b : Bool) → (b && false) ≡ false
    go true = refl
    go false = refl

module _ (v : Server) (x : Site) (dead : ℕ → Bool) (n : DataState) (conn : ℕ) (l : Linked) (f : UpFrame) (at : FirstAt v x dead n conn l f) (now : ℕ)
    (later : dial_of n l.app ≤ l.dial)
    (hello : at.next.on.knew.mark ≡ None) (s : ℕ) (its : live_session n.order l.app ≡ Some s)
  where
    abbrev z : Site
    z = site_taken x conn l (Some l)

    abbrev d0 : DataState
    d0 = record n { dials = set n.dials l.app l.dial }

    abbrev o : Option ℕ
    o = conn_of n s

    abbrev apart : o ≢ Some conn
    apart = its_apart v x dead n conn l f at now later s

    abbrev left : DataState
    left = m v x dead n conn l f at now later s

    abbrev cut : CutStage v dead n (waiting_node v x dead n conn l f at now later) now conn f z o
    cut = c_at v x dead n conn l f at now later s

    abbrev P : Reply → Type 0
    P r = on_if o r.says ≡ false → ReplyFits cut.site left r

    -- who hears what the Close drops
    tells : Tells cut.site d0
    tells q i learnt bound =
        subst (λ (p : Option Linked). IsSomeAnd p (λ j. IsSomeAnd ((cut.site.end_at j.app).connection_at j.dial) (λ c. is_some c.its ≡ true)))
        (sym (cut.links i))
        (go (site_link z i) told)
      where
        u : Site
        u = with_node now (waiting_node v x dead n conn l f at now later) z

        nodes_u : NodeDials u (waiting_node v x dead n conn l f at now later)
        nodes_u = of_some (NodeDials u) u.node (waiting_node v x dead n conn l f at now later) refl (waiting_stage v x dead n conn l f at now later).dials.node

        learnt_z : HasLearnt u q
        learnt_z = ap (λ (p : Option ℕ). is_some p) (sym (cut.began q)) ∙ subst (λ (k : ℕ). is_some (cut.site.lane_at q k).began ≡ true) cut.past learnt

        told : TellsOn u i
        told = tells_of u (waiting_node v x dead n conn l f at now later) nodes_u q i learnt_z
            (waits_unbound conn n.conns (has_nodes v x dead n conn l f at).differ (new_role v x dead n conn l f at) q ∙ bound)

        go : (p : Option Linked) → IsSomeAnd p (λ j. IsSomeAnd ((z.end_at j.app).connection_at j.dial) (λ c. is_some c.its ≡ true))
            → IsSomeAnd p (λ j. IsSomeAnd ((cut.site.end_at j.app).connection_at j.dial) (λ c. is_some c.its ≡ true))
        go None none = none
        go (Some j) some = cut.kept (λ c. is_some c.its ≡ true) (λ c. is_some c.its ≡ true) (λ c was. was) (λ c was. was) j.app j.dial some

    shut : ShutBy cut.site P d0 s (shut_by s d0)
    shut =
        shut_is cut.site P (λ session ticket place learnt other. learnt) d0 s (noted_if v x dead n conn l f at now later o apart)
        (all_follow (λ (r : Request). HasLearnt x r.who.session) (λ (r : Request). HasLearnt cut.site r.who.session)
        (λ r learnt. cut.learnt r.who.session learnt) n.locks.requests at.requests)
        (all_follow (ReplyFits (with_node now (waiting_node v x dead n conn l f at now later) z) (waiting_node v x dead n conn l f at now later)) P
        (λ r fits other. cut.reply r fits other) n.replies
        (waiting_stage v x dead n conn l f at now later).inv.replies) tells

    abbrev c : Sofar
    c = shut_by s d0

    -- the state then, with the connection that was ended gone
    abbrev b : Sofar
    b = becomes (with_event l.app now event.Replaced)
        (record {
          state = record c.state { conns = conns_if o c.state.conns; callers = callers_if o c.state.callers; replies = replies_if o c.state.replies };
          outs = record c.outs { cuts = c.outs.cuts ++ gone_of o };
        })

    made : becomes (with_event l.app now event.Replaced) (closes s shuts.Replaced (begun d0)) ≡ b
    made =
        ap (becomes (with_event l.app now event.Replaced))
        (drops_if o c ∙ ap (λ (d : DataState). record { state = d; outs = record c.outs { cuts = c.outs.cuts ++ gone_of o } }) (cut_is o c.state))

    order_b : b.state.order ≡ n.order ++ Closed s ∷ []
    order_b = shut.order

    conns_b : b.state.conns ≡ conns_if o n.conns
    conns_b = ap (conns_if o) shut.conns

    -- as if the connection waited
    abbrev waits : Sofar
    waits = becomes (with_role conn Waiting) b

    conns_w : waits.state.conns ≡ left.conns
    conns_w = ap (map (with_role_if conn Waiting)) conns_b ∙ sym (conns_are v x dead n conn l f at now later o apart)

    inv : OpenInv cut.site left (gone_of o) [] waits
    inv = record {
      nodes =
          node_closes cut.site left waits.state s
          (record {
            order = order_b ∙ ap (λ (es : List Entry). es ++ Closed s ∷ []) (sym (order_is v x dead n conn l f at now later o apart));
            dials = shut.dials ∙ sym (dials_are v x dead n conn l f at now later o apart);
            conns = conns_w ∙ ap (λ (p : Option ℕ). conns_closed p s left.conns) (sym (unbound_now v x dead n conn l f at now later s));
            before = λ there. absurd (false≢true (sym (ap (λ (p : Option ℕ). is_some p) (unbound_now v x dead n conn l f at now later s)) ∙ there));
          }) (nodes_if v x dead n conn l f at now later o apart);
      frames = all_follow (PlainOn cut.site) (FrameFits cut.site waits.state)
          (λ g p. plain_fits g.down.message p.plain cut.site waits.state g.conn p.tells) c.outs.frames shut.frames;
      cuts = ap (λ (cs : List ℕ). cs ++ gone_of o) shut.cuts;
      noted = shut.noted;
      replies =
          all_follow (ReplyFits cut.site left) (ReplyFits cut.site waits.state) (λ r fits. says_same cut.site left waits.state conns_w r.says fits)
          (replies_if o c.state.replies)
          (all_elsewhere (ReplyFits cut.site left) o c.state.replies shut.replies);
      there = λ i. ap (λ (cs : List Conn). is_some (option_map role_in (find (is_conn i) cs))) conns_w;
      stays = λ i r other was. ap (λ (cs : List Conn). option_map role_in (find (is_conn i) cs)) conns_w ∙ was;
      longer =
          omega (
            arith,
            ap (λ (es : List Entry). length es) (order_is v x dead n conn l f at now later o apart),
            ap (λ (es : List Entry). length es) order_b,
            length-append n.order (Closed s ∷ []),
          );
      within = subst Within (sym order_b) (within_closed n.order s (within_ordered n.order at.ordered));
      callers = tt;
      apart = refl;
    }

    same_bounds : SameBounds conn b.state.conns
    same_bounds =
        subst (SameBounds conn) (sym conns_b)
        (waits_unbound conn (conns_if o n.conns) (differ_if o n.conns (has_nodes v x dead n conn l f at).differ)
        (new_if conn o n.conns apart (new_role v x dead n conn l f at)))

    waits_now : role_of waits.state conn ≡ Some Waiting
    waits_now = ap (λ (cs : List Conn). option_map role_in (find (is_conn conn) cs)) conns_w ∙ waits_if v x dead n conn l f at now later o apart

    -- the application server has no session then
    free : live_session waits.state.order l.app ≡ None
    free =
        ap (λ (es : List Entry). live_session es l.app) order_b ∙ live_session-push n.order (Closed s) l.app ∙ ap (unless_closed s) its
        ∙ ap (λ (t : Bool). if t then None else Some s) (eq-eqb s s refl)

    there_b : is_some (find (is_conn conn) b.state.conns) ≡ true
    there_b = ap (λ (cs : List Conn). is_some (find (is_conn conn) cs)) conns_b
        ∙ found_for New (find (is_conn conn) (conns_if o n.conns)) (new_if conn o n.conns apart (new_role v x dead n conn l f at))

    -- In no round a session opens then.
    pub comes_replaces : is_some n.round ≡ false
        → Comes v x dead n now conn f l (opens l.app conn now (becomes (with_event l.app now event.Replaced) (closes s shuts.Replaced (begun d0))))
    comes_replaces off = subst (λ (e : Sofar). Comes v x dead n now conn f l (opens l.app conn now e)) (sym made) (record {
      site = cut.site;
      node = left;
      gone = gone_of o;
      dials = cut.stage.dials;
      runs = cut.stage.runs;
      past = cut.past;
      order = order_is v x dead n conn l f at now later o apart;
      inv =
          subst (λ (e : Sofar). OpenInv cut.site left (gone_of o) [] e) (opens_waits conn l.app now b same_bounds)
          (hello_opens cut.site left (gone_of o) (fresh_if v x dead n conn l f at now later hello o apart) l.app conn now waits waits_now free
          (hello_linked v x dead n conn l f at now later hello o apart) inv);
      on = none_over (opens l.app conn now b).state (opens l.app conn now b).state.round
          (ap (λ (p : Option Round). is_some p) (opens_round l.app conn now b) ∙ shut.round ∙ off);
      known = λ q role. inr (opens_quiet l.app conn now b there_b q role);
      before = [];
      begins = (opens l.app conn now b).outs.frames;
      frames = refl;
      puts = λ st outs rest same. subst (λ (fs : List DownOut). PutsFrames cut.site (after_site n now conn f z (gone_of o) st outs) st fs) same
          (cut.stage.puts st outs);
    })

    -- In a round it waits: no other Hello of the application server does.
    none_waits : waiting_conn b.state l.app ≡ None
    none_waits =
        ap (λ (cs : List Caller). option_map caller_conn (find (is_caller l.app) (callers_if o cs))) shut.callers
        ∙ ap (option_map caller_conn)
        (none_left_found l.app o n.callers (all_follow (CallerIs n x) (λ (k : Caller). is_caller l.app k ≡ false)
        (λ k is. other k is (k.app == l.app) refl) n.callers at.ends.callers.each))
      where
        other : (k : Caller) → CallerIs n x k → (t : Bool) → (k.app == l.app) ≡ t → t ≡ false
        other k is false same = refl
        other k is true same =
            (let both : ◌≡◌ {A = Option ℕ} None (Some s) = sym is.free ∙ ap (live_session n.order) (eqb-true k.app l.app same) ∙ its in absurd cc)

    pub comes_replaces_later : Comes v x dead n now conn f l
        (becomes (with_caller l.app conn) (drops_conn (waiting_conn
        (becomes (with_event l.app now event.Replaced) (closes s shuts.Replaced (begun d0))).state l.app)
        (becomes (with_event l.app now event.Replaced) (closes s shuts.Replaced (begun d0)))))
    comes_replaces_later =
        subst (λ (e : Sofar). Comes v x dead n now conn f l (becomes (with_caller l.app conn) (drops_conn (waiting_conn e.state l.app) e))) (sym made)
        (subst (λ (p : Option ℕ). Comes v x dead n now conn f l (becomes (with_caller l.app conn) (drops_conn p b))) (sym none_waits) (record {
          site = cut.site;
          node = left;
          gone = gone_of o;
          dials = cut.stage.dials;
          runs = cut.stage.runs;
          past = cut.past;
          order = order_is v x dead n conn l f at now later o apart;
          inv = open_state cut.site left (gone_of o) [] waits (becomes (with_caller l.app conn) b)
              (becomes (with_caller l.app conn) b).state refl refl refl refl inv.replies refl inv.frames refl inv;
          on =
              still_on (becomes (with_caller l.app conn) b).state (becomes (with_caller l.app conn) b).state.round
              (ap (λ (k : ℕ). list_any is_close (drop k b.state.order)) shut.synced ∙ ap (λ (es : List Entry). list_any is_close (drop n.synced es)) order_b
              ∙ close_behind n.synced n.order s at.synced);
          known = λ q role. (let both : ◌≡◌ {A = Option Role} (Some Waiting) (Some (Bound q)) = sym waits_now ∙ role in absurd cc);
          before = [];
          begins = b.outs.frames;
          frames = refl;
          puts = λ st outs rest same. subst (λ (fs : List DownOut). PutsFrames cut.site (after_site n now conn f z (gone_of o) st outs) st fs) same
              (cut.stage.puts st outs);
        }))
