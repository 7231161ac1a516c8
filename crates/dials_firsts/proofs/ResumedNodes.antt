-- A session takes a first frame's connection in place of an older one: what the step has then.
use Rattle.std.proofs.Common.{◌≡◌, ◌≢◌, ◌≤◌, ℕ, Bool, true, false, List, [], map, drop, Option, Some, None, is_some, option_map, refl, sym, ◌∙◌, ap}
use Rattle.std.proofs.Common.{subst, arith}
use Rattle.std.specs.Prelude.{IfSome, get_or, set}
use Rattle.std.specs.List.{AllByRecursion, find}
use Rattle.std.proofs.lemmas.Bool.{ne_eqb}
use Rattle.std.proofs.lemmas.List.{get_or-set_same}
use Rattle.plain_orders.specs.declared.entry.Entry.{Entry}
use Rattle.plain_orders.specs.Entries.{live}
use Rattle.plain_orders.specs.Sessions.{app_in}
use Rattle.plain_runs.specs.Plain.{Server}
use Rattle.ecp_messages.specs.declared.up.UpFrame.{UpFrame}
use Rattle.block_holders.specs.declared.noted.Noted.{Noted}
use Rattle.data_rules.specs.declared.rows.Conn.{Conn}
use Rattle.data_rules.specs.declared.rows.Reply.{Reply}
use Rattle.data_rules.specs.declared.rows.Role.{Role}
use Rattle.data_rules.specs.declared.rows.Role.TheVariants.{New, Waiting, Bound}
use Rattle.data_rules.specs.DataState.{DataState}
use Rattle.data_rules.specs.Callers.{dial_of}
use Rattle.data_rules.specs.Conns.{is_conn, role_in, role_of, with_role_if}
use Rattle.data_rules.specs.Puts.{conn_of, is_bound_to, is_role_of, number_of}
use Rattle.cluster_runs.specs.CoresState.{Linked}
use Rattle.cluster_runs.specs.Machine.{Site}
use Rattle.cluster_runs.specs.Sent.{Connection, Knew}
use Rattle.cluster_runs.specs.Connections.{data_leaves, link_of as site_link}
use Rattle.cluster_runs.specs.Goes.{with_node}
use Rattle.cluster_invariant.specs.Dials.{BoundTo, IsNewest, LinkedTo, NodeDials, RoleIs}
use Rattle.cluster_invariant.specs.Served.{HasLearnt}
use Rattle.cluster_invariant.proofs.AllLists.{all_follow}
use Rattle.cluster_invariant.proofs.ConnRoles.{bound_role}
use Rattle.cluster_invariant.proofs.PiecesOfCloses.{role_given}
use Rattle.cluster_invariant.proofs.Small.{of_some}
use Rattle.dials_server.proofs.ClosedNodes.{there_still}
use Rattle.dials_server.proofs.FirstSites.{link_now}
use Rattle.dials_server.proofs.RoundNodes.{role_kept, says_opened}
use Rattle.dials_server.proofs.SaveNodes.{ReplyFits}
use Rattle.dials_server.proofs.TakenFrames.{site_taken}
use Rattle.dials_firsts.proofs.CutIfs.{CutStage, conns_if, cut_if, cut_is, cut_stage, linked_cut, newest_of, replies_if, roles_if, unbound_if}
use Rattle.dials_firsts.proofs.FirstComes.{FirstAt}
use Rattle.dials_firsts.proofs.FirstRoles.{node_role}
use Rattle.dials_firsts.proofs.FirstStages.{Stage, after_site}
use Rattle.dials_firsts.proofs.RoleLists.{bound_given, found_for, role_twice, waits_unbound}
use Rattle.dials_firsts.proofs.ShortFirsts.{conn_there, first_now, first_stage, frame_says, has_nodes, linked_now, new_role, node_later, none_taken, on_is}

-- A connection of which a first frame was taken just now, and on which nothing was put.
pub record TakenNow (past conn : ℕ) (knew : Knew) (c : Connection) : Type 0 where
  pub first : c.first ≡ Some (record { order = past; conn = conn })
  pub its : c.its ≡ None
  pub silent : c.downs ≡ []
  pub one : c.ups_taken ≡ 1
  pub alone : drop 1 c.ups ≡ []
  pub says : c.knew ≡ knew

taken_left : (past conn : ℕ) (knew : Knew) (c : Connection) → TakenNow past conn knew c → TakenNow past conn knew (data_leaves c)
taken_left past conn knew c at = record { first = at.first; its = at.its; silent = at.silent; one = at.one; alone = at.alone; says = at.says }

module _ (v : Server) (x : Site) (dead : ℕ → Bool) (n : DataState) (conn : ℕ) (l : Linked) (f : UpFrame) (at : FirstAt v x dead n conn l f) (now : ℕ)
    (later : dial_of n l.app ≤ l.dial) where
  abbrev z : Site
  z = site_taken x conn l (Some l)

  -- the connection waits, and its dial counts
  abbrev pub waiting_node : DataState
  waiting_node = record n { dials = set n.dials l.app l.dial; conns = map (with_role_if conn Waiting) n.conns }

  pub waiting_stage : Stage v dead (with_node now waiting_node z) waiting_node [] (after_site n now conn f z [])
  waiting_stage =
      first_stage v x dead n conn l f at now (set n.dials l.app l.dial) Waiting
      (node_later v x dead n conn l f at Waiting later (λ i s role. refl)
      (ap (λ (o : Option Linked). is_some o) (link_now v x dead conn l f at.unlinked at.here at.past at.next at.new at.is)))

  -- and this other one is ended, or none
  module _ (o : Option ℕ) (apart : o ≢ Some conn) where
    pub stage_if : CutStage v dead n waiting_node now conn f z o
    stage_if = cut_stage v z dead n waiting_node now conn f waiting_stage o

    abbrev pub left_if : DataState
    left_if = cut_if o waiting_node

    pub waits_if : role_of left_if conn ≡ Some Waiting
    waits_if = stage_if.role conn apart ∙ conn_there v x dead n conn l f at Waiting

    pub nodes_if : NodeDials stage_if.site left_if
    nodes_if = of_some (NodeDials stage_if.site) stage_if.site.node left_if stage_if.stage.runs stage_if.stage.dials.node

    pub conns_are : left_if.conns ≡ map (with_role_if conn Waiting) (conns_if o n.conns)
    conns_are = ap (λ (d : DataState). d.conns) (cut_is o waiting_node) ∙ roles_if conn o Waiting n.conns

    pub order_is : left_if.order ≡ n.order
    order_is = ap (λ (d : DataState). d.order) (cut_is o waiting_node)

    pub dials_are : left_if.dials ≡ set n.dials l.app l.dial
    dials_are = ap (λ (d : DataState). d.dials) (cut_is o waiting_node)

    pub found_if : is_some (find (is_conn conn) left_if.conns) ≡ true
    found_if = found_for Waiting (find (is_conn conn) left_if.conns) waits_if

    -- what is said of the connection at the site then
    pub linked_if : (Q : Connection → Type 0) → ((c : Connection) → TakenNow x.past conn at.next.on.knew c → Q c) → LinkedTo stage_if.site conn l.app Q
    linked_if Q goes =
        linked_cut v dead n waiting_node now conn f z o stage_if conn l.app (TakenNow x.past conn at.next.on.knew) Q goes
        (λ c t. goes (data_leaves c) (taken_left x.past conn at.next.on.knew c t))
        (linked_now v x dead n conn l f at (TakenNow x.past conn at.next.on.knew) (record {
          first = first_now v x dead n conn l f at;
          its = (frame_says v x dead n conn l f at).its;
          silent = (on_is v x dead n conn l f at).silent (none_taken v x dead n conn l f at);
          one = omega (arith, none_taken v x dead n conn l f at);
          alone = (on_is v x dead n conn l f at).alone (none_taken v x dead n conn l f at);
          says = refl;
        }))

    pub link_if : site_link stage_if.site conn ≡ Some l
    link_if = stage_if.links conn ∙ link_now v x dead conn l f at.unlinked at.here at.past at.next at.new at.is

    -- the greatest connection
    pub newest_if : (s : ℕ) → IsNewest (stage_if.site.end_at l.app) s stage_if.site.past l.dial
    newest_if s = newest_of v stage_if.site dead left_if l.app s l.dial stage_if.stage.dials nodes_if at.low (omega (arith, counts))
      where
        counts : dial_of left_if l.app ≡ l.dial
        counts =
            ap (λ (ds : List ℕ). get_or ds l.app 0) dials_are
            ∙ get_or-set_same n.dials l.app l.dial 0 (omega (arith, at.low, (has_nodes v x dead n conn l f at).places))

    pub noted_if : AllByRecursion (λ (y : Noted). HasLearnt stage_if.site y.session) n.noted
    noted_if = subst (λ (ys : List Noted). AllByRecursion (λ (y : Noted). HasLearnt stage_if.site y.session) ys)
        (ap (λ (d : DataState). d.noted) (cut_is o waiting_node)) stage_if.stage.inv.noted

    pub replies_are : AllByRecursion (ReplyFits stage_if.site left_if) (replies_if o n.replies)
    replies_are =
        subst (λ (rs : List Reply). AllByRecursion (ReplyFits stage_if.site left_if) rs)
        (ap (λ (d : DataState). d.replies) (cut_is o waiting_node)) stage_if.stage.inv.replies

  -- the session's own connection is ended

  module _ (s : ℕ) where
    pub its_apart : conn_of n s ≢ Some conn
    its_apart same =
        (let both : ◌≡◌ {A = Option Role} (Some New) (Some (Bound s))
        = sym (new_role v x dead n conn l f at) ∙ bound_role s n.conns conn (has_nodes v x dead n conn l f at).differ same in absurd cc)

    abbrev pub m : DataState
    m = left_if (conn_of n s) its_apart

    abbrev pub c_at : CutStage v dead n waiting_node now conn f z (conn_of n s)
    c_at = stage_if (conn_of n s) its_apart

    pub unbound_now : conn_of m s ≡ None
    unbound_now =
        ap (λ (d : DataState). option_map number_of (find (is_bound_to s) d.conns)) (cut_is (conn_of n s) waiting_node)
        ∙ unbound_if s waiting_node.conns (conn_of n s) started.differ
        (λ i role. (of_some (RoleIs u waiting_node i) (role_of waiting_node i) (Bound s) role (started.roles i)).its)
        (waits_unbound conn n.conns (has_nodes v x dead n conn l f at).differ (new_role v x dead n conn l f at) s)
      where
        u : Site
        u = with_node now waiting_node z

        started : NodeDials u waiting_node
        started = of_some (NodeDials u) u.node waiting_node refl waiting_stage.dials.node

    -- others stay where they were
    unlike : (i q : ℕ) → role_of m i ≡ Some (Bound q) → is_role_of q (Bound s) ≡ false
    unlike i q role = ne_eqb s q (λ same. (let both : ◌≡◌ {A = Option ℕ} None (Some i) = sym unbound_now ∙ ap (conn_of m) same ∙ its in absurd cc))
      where
        its : conn_of m q ≡ Some i
        its = (of_some (RoleIs c_at.site m i) (role_of m i) (Bound q) role ((nodes_if (conn_of n s) its_apart).roles i)).its

    -- A node where the session has the connection.
    module _ (r : DataState) (order : r.order ≡ n.order) (dials : r.dials ≡ set n.dials l.app l.dial)
        (conns : r.conns ≡ map (with_role_if conn (Bound s)) (conns_if (conn_of n s) n.conns))
        (is_live : live n.order s ≡ true) (opened : app_in n.order s ≡ Some l.app)
      where
        pub conns_given : r.conns ≡ map (with_role_if conn (Bound s)) m.conns
        conns_given =
            conns ∙ sym (role_twice conn (Bound s) Waiting (conns_if (conn_of n s) n.conns))
            ∙ sym (ap (map (with_role_if conn (Bound s))) (conns_are (conn_of n s) its_apart))

        pub bound_role_now : role_of r conn ≡ Some (Bound s)
        bound_role_now =
            ap (λ (cs : List Conn). option_map role_in (find (is_conn conn) cs)) conns_given
            ∙ role_given conn (Bound s) m.conns (found_if (conn_of n s) its_apart)

        -- it is the session's there
        pub bound_at : (y : Site) → NodeDials y m → LinkedTo y conn l.app (BoundTo y n.order s)
            → IfSome (site_link y conn) (λ j. IsNewest (y.end_at l.app) s y.past j.dial) → NodeDials y r
        bound_at y nodes linked newest =
            node_role conn (Bound s) m r (order ∙ sym (order_is (conn_of n s) its_apart)) conns_given
            (ap (λ (o : Option Role). is_some o) (waits_if (conn_of n s) its_apart)) unlike y
            (dials ∙ sym (dials_are (conn_of n s) its_apart))
            (record {
              lives = ap (λ (es : List Entry). live es s) order ∙ is_live;
              its = ap (λ (cs : List Conn). option_map number_of (find (is_bound_to s) cs)) conns_given
                  ∙ bound_given s conn m.conns (found_if (conn_of n s) its_apart) unbound_now;
              app = l.app;
              opened = ap (λ (es : List Entry). app_in es s) order ∙ opened;
              linked = subst (λ (es : List Entry). LinkedTo y conn l.app (BoundTo y es s)) (sym order) linked;
              newest = newest;
            }) nodes

        pub there_now : (i : ℕ) → is_some (role_of r i) ≡ is_some (role_of m i)
        there_now i = ap (λ (cs : List Conn). is_some (option_map role_in (find (is_conn i) cs))) conns_given ∙ there_still conn (Bound s) i m.conns

        pub stays_now : (i : ℕ) (q : Role) → (q ≡ Waiting → ⊥) → role_of m i ≡ Some q → role_of r i ≡ Some q
        stays_now i q other was = role_kept c_at.site m r conn s conns_given (waits_if (conn_of n s) its_apart) i apart ∙ was
          where
            apart : i ≢ conn
            apart same = other (cc (was, ap (role_of m) same, waits_if (conn_of n s) its_apart))

        pub replies_now : (y : Site) → AllByRecursion (ReplyFits y m) (replies_if (conn_of n s) n.replies)
            → AllByRecursion (ReplyFits y r) (replies_if (conn_of n s) n.replies)
        replies_now y all =
            all_follow (ReplyFits y m) (ReplyFits y r) (λ q fits. says_opened y m r conn s conns_given (waits_if (conn_of n s) its_apart) q.says fits)
            (replies_if (conn_of n s) n.replies) all
