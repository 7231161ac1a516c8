-- First frames that end their connection, and a Recover of a session that was closed.
use Rattle.std.proofs.Common.{◌≡◌, ◌≤◌, ◌<◌, ℕ, ◌+◌, Bool, true, false, ◌||◌, if◌then◌else◌, List, [], ◌∷◌, map, Option, Some, None, is_some}
use Rattle.std.proofs.Common.{option_map, refl, sym, ◌∙◌, ap, subst, arith}
use Rattle.std.specs.Prelude.{IfSome, IsSomeAnd, set}
use Rattle.std.specs.List.{find, list_any}
use Rattle.std.proofs.lemmas.Bool.{ltb-false}
use Rattle.plain_orders.specs.declared.entry.Entry.{Entry}
use Rattle.plain_orders.specs.Entries.{closes}
use Rattle.plain_orders.specs.Sessions.{app_in}
use Rattle.plain_runs.specs.Plain.{Server}
use Rattle.ecp_messages.specs.declared.up.UpFrame.{UpFrame}
use Rattle.data_rules.specs.declared.down_frames.DownOut.{DownOut}
use Rattle.data_rules.specs.declared.rows.Conn.{Conn}
use Rattle.data_rules.specs.declared.rows.Role.{Role}
use Rattle.data_rules.specs.declared.rows.Role.TheVariants.{New, Waiting, Bound, Closing}
use Rattle.data_rules.specs.declared.rows.Says.TheVariants.{ResetOf}
use Rattle.data_rules.specs.DataState.{DataState}
use Rattle.data_rules.specs.Callers.{dial_of, with_dial}
use Rattle.data_rules.specs.Conns.{ends_conn, is_conn, loses_conn, role_in, role_of, with_role, with_role_if, without_conn}
use Rattle.data_rules.specs.Opening.{is_round_over}
use Rattle.data_rules.specs.Places.{close_place, place_from}
use Rattle.data_rules.specs.Puts.{Sofar, becomes, begun, cuts, is_role_of, replies}
use Rattle.cluster_runs.specs.CoresState.{Linked}
use Rattle.cluster_runs.specs.Machine.{Site}
use Rattle.cluster_runs.specs.Sent.{Connection, FirstTaken, Place}
use Rattle.cluster_runs.specs.Connections.{first_else, is_link, link_of as site_link, up_taken}
use Rattle.cluster_runs.specs.Goes.{with_node}
use Rattle.cluster_invariant.specs.Dials.{ClosedOn, ConnectionIs, LinkedTo, NodeDials, RoleIs}
use Rattle.cluster_invariant.proofs.PiecesOfCloses.{role_given}
use Rattle.cluster_invariant.proofs.Small.{of_some}
use Rattle.dials_server.proofs.FirstNodes.{node_first}
use Rattle.dials_server.proofs.FirstSites.{link_now}
use Rattle.dials_server.proofs.FirstTakes.{FirstSays}
use Rattle.dials_server.proofs.FrameSettled.{PutsFrames}
use Rattle.dials_server.proofs.LinkWords.{is_link_itself}
use Rattle.dials_server.proofs.NodeConns.{none_left}
use Rattle.dials_server.proofs.RoundNodes.{OpenInv, open_state}
use Rattle.dials_server.proofs.SaveDials.{within_ordered}
use Rattle.dials_server.proofs.SaveNodes.{ReplyFits}
use Rattle.dials_server.proofs.TakenFrames.{site_taken}
use Rattle.dials_server.proofs.TellsNodes.{all_one_more}
use Rattle.dials_firsts.proofs.CutStages.{site_cut, stage_cut}
use Rattle.dials_firsts.proofs.FirstComes.{Comes, FirstAt}
use Rattle.dials_firsts.proofs.FirstRoles.{node_older}
use Rattle.dials_firsts.proofs.FirstStages.{Stage, after_site, ended_at, nodes, role_new, says, stage_first}
use Rattle.dials_firsts.proofs.RoleLists.{found_for, role_dropped}

-- the entry before a place that is found passes
pub place_any : (test : Entry → Bool) (k at : ℕ) (es : List Entry) → place_from test k es ≡ Some at → list_any test es ≡ true
place_any test k at [] is = absurd (cc (is))
place_any test k at (e ∷ es) is = go (test e) is (place_any test (k + 1) at es)
  where
    go : (b : Bool) → (if b then Some (k + 1) else place_from test (k + 1) es) ≡ Some at → (place_from test (k + 1) es ≡ Some at → list_any test es ≡ true)
        → (b || list_any test es) ≡ true
    go true found more = refl
    go false found more = more found

module _ (v : Server) (x : Site) (dead : ℕ → Bool) (n : DataState) (conn : ℕ) (l : Linked) (f : UpFrame) (at : FirstAt v x dead n conn l f) where
  abbrev z : Site
  z = site_taken x conn l (Some l)

  pub new_role : role_of n conn ≡ Some New
  new_role = role_new v x dead n conn l f at.unlinked at.here at.past at.next at.new at.is at.runs

  pub has_nodes : NodeDials x n
  has_nodes = nodes v x dead n conn l f at.unlinked at.here at.past at.next at.new at.is at.runs

  pub frame_says : FirstSays v x l f at.next.on at.next.behind
  frame_says = says v x dead n conn l f at.unlinked at.here at.past at.next at.new at.is at.runs

  pub on_is : ConnectionIs v x l.app l.dial at.next.on
  on_is = of_some (ConnectionIs v x l.app l.dial) ((x.end_at l.app).connection_at l.dial) at.next.on at.next.there ((at.is.pairs l.app).each l.dial)

  -- nothing was taken of it
  pub none_taken : at.next.on.ups_taken ≡ 0
  none_taken = omega (arith, ltb-false 0 at.next.on.ups_taken (sym on_is.linked ∙ at.new))

  pub conn_there : (r : Role) → role_of (record n { conns = map (with_role_if conn r) n.conns }) conn ≡ Some r
  conn_there r = role_given conn r n.conns (found_for New (find (is_conn conn) n.conns) new_role)

  -- the connection that it names, after it
  pub taken_now : (z.end_at l.app).connection_at l.dial ≡ Some (up_taken x.past conn at.next.on)
  taken_now =
      ap (option_map (λ (c : Connection). if is_link l.app l.dial (Some l) then up_taken x.past conn c else c)) at.next.there
      ∙ ap (λ (b : Bool). Some (if b then up_taken x.past conn at.next.on else at.next.on)) (is_link_itself l.app l.dial)

  pub first_now : (up_taken x.past conn at.next.on).first ≡ Some (record { order = x.past; conn = conn })
  first_now = ap (λ (t : Option FirstTaken). Some (first_else t (record { order = x.past; conn = conn }))) frame_says.untaken

  pub linked_now : (P : Connection → Type 0) → P (up_taken x.past conn at.next.on) → LinkedTo z conn l.app P
  linked_now P holds = record {
    dial = l.dial;
    link = link_now v x dead conn l f at.unlinked at.here at.past at.next at.new at.is;
    first = subst (λ (o : Option Connection). IsSomeAnd o (λ c. c.first ≡ Some (record { order = x.past; conn = conn }))) (sym taken_now) first_now;
    its = subst (λ (o : Option Connection). IsSomeAnd o P) (sym taken_now) holds;
  }

  -- What the step goes on from, where the connection is for this and these dials count.
  pub first_stage : (now : ℕ) (ds : List ℕ) (r : Role) → NodeDials z (record n { dials = ds; conns = map (with_role_if conn r) n.conns })
      → Stage v dead (with_node now (record n { dials = ds; conns = map (with_role_if conn r) n.conns }) z)
      (record n { dials = ds; conns = map (with_role_if conn r) n.conns }) []
      (after_site n now conn f z [])
  first_stage now ds r node = stage_first v x dead n conn l f at.unlinked at.here at.past at.next at.new at.is at.runs now ds r node at.noted at.replies
      (within_ordered n.order at.ordered)

  -- A frame that is older than others ends the connection.
  pub comes_ends : (now : ℕ) → l.dial < dial_of n l.app → Comes v x dead n now conn f l (ends_conn conn now (begun n))
  comes_ends now older = record {
    site = site_cut v z dead n k now conn conn f stage;
    node = without_conn conn k;
    gone = conn ∷ [];
    dials = cut.dials;
    runs = cut.runs;
    past = refl;
    order = refl;
    inv = subst (λ (b : Sofar). OpenInv (site_cut v z dead n k now conn conn f stage) (without_conn conn k) (conn ∷ []) [] b) (sym made) cut.inv;
    on = ap (λ (b : Sofar). over b) made ∙ at.ends.round.is_on;
    known = λ s role. absurd (gone s role);
    before = [];
    begins = [];
    frames = ap (λ (b : Sofar). b.outs.frames) made;
    puts = λ st outs rest same. subst (λ (fs : List DownOut). PutsFrames (site_cut v z dead n k now conn conn f stage)
        (after_site n now conn f z (conn ∷ []) st outs) st fs) same (cut.puts st outs);
  }
    where
      k : DataState
      k = record n { dials = n.dials; conns = map (with_role_if conn Waiting) n.conns }

      stage : Stage v dead (with_node now k z) k [] (after_site n now conn f z [])
      stage =
          first_stage now n.dials Waiting
          (node_older x conn l at.next.on at.next.there frame_says.untaken n k Waiting refl refl refl (omega (arith, older)) new_role
          (λ i s role. refl) waits has_nodes)
        where
          waits : is_some (site_link z conn) ≡ true
          waits = ap (λ (o : Option Linked). is_some o) (link_now v x dead conn l f at.unlinked at.here at.past at.next at.new at.is)

      cut : Stage v dead (site_cut v z dead n k now conn conn f stage) (without_conn conn k) (conn ∷ []) (after_site n now conn f z (conn ∷ []))
      cut = stage_cut v z dead n k now conn conn f stage

      over : Sofar → Bool
      over b = is_round_over b.state b.state.round

      made : ends_conn conn now (begun n) ≡ ended_at (without_conn conn k) (conn ∷ [])
      made =
          ap (λ (r : Option Role). cuts conn (loses_conn r now (becomes (without_conn conn) (begun n)))) new_role
          ∙ ap (λ (cs : List Conn). ended_at (record (without_conn conn n) { conns = cs }) (conn ∷ [])) (sym (role_dropped conn Waiting n.conns))

      gone : (s : ℕ) → role_of (ends_conn conn now (begun n)).state conn ≡ Some (Bound s) → ⊥
      gone s role =
          (let both : ◌≡◌ {A = Option Role} None (Some (Bound s))
          = sym (ap (λ (b : Sofar). role_of b.state conn) made ∙ ap (option_map role_in) (none_left (map (with_role_if conn Waiting) n.conns) conn))
          ∙ role in absurd cc)

  -- the dial counts, and the connection is for this
  pub node_later : (r : Role) → dial_of n l.app ≤ l.dial → ((i s : ℕ) → role_of n i ≡ Some (Bound s) → is_role_of s r ≡ false)
      → RoleIs z (record n { dials = set n.dials l.app l.dial; conns = map (with_role_if conn r) n.conns }) conn r
      → NodeDials z (record n { dials = set n.dials l.app l.dial; conns = map (with_role_if conn r) n.conns })
  node_later r later unlike now =
      node_first x conn l at.next.on at.next.there frame_says.untaken n
      (record n { dials = set n.dials l.app l.dial; conns = map (with_role_if conn r) n.conns }) r refl refl refl later new_role unlike
      now has_nodes

  -- A Recover of a session that was closed: the connection awaits the Reset.
  pub comes_gone : (now s place : ℕ) → dial_of n l.app ≤ l.dial → app_in n.order s ≡ Some l.app → close_place n.order s ≡ Some place
      → IsSomeAnd at.next.on.knew.mark (λ m. at.next.on.knew.session ≡ s)
      → Comes v x dead n now conn f l (replies place (ResetOf conn s place) (becomes (λ d. with_role conn (Closing s) (with_dial l.app l.dial d)) (begun n)))
  comes_gone now s place later opened closed came = record {
    site = u;
    node = k;
    gone = [];
    dials = stage.dials;
    runs = refl;
    past = refl;
    order = refl;
    inv =
        open_state u k [] [] (ended_at k []) b b.state refl refl refl refl
        (all_one_more (ReplyFits u k) k.replies _ stage.inv.replies (conn_there (Closing s))) refl tt refl stage.inv;
    on = at.ends.round.is_on;
    known = λ q role. (let both : ◌≡◌ {A = Option Role} (Some (Closing s)) (Some (Bound q)) = sym (conn_there (Closing s)) ∙ role in absurd cc);
    before = [];
    begins = [];
    frames = refl;
    puts = λ st outs rest same. subst (λ (fs : List DownOut). PutsFrames u (after_site n now conn f z [] st outs) st fs) same (stage.puts st outs);
  }
    where
      k : DataState
      k = record n { dials = set n.dials l.app l.dial; conns = map (with_role_if conn (Closing s)) n.conns }

      u : Site
      u = with_node now k z

      b : Sofar
      b = replies place (ResetOf conn s place) (becomes (λ d. with_role conn (Closing s) (with_dial l.app l.dial d)) (begun n))

      stage : Stage v dead u k [] (after_site n now conn f z [])
      stage =
          first_stage now (set n.dials l.app l.dial) (Closing s)
          (node_later (Closing s) later (λ i q role. refl)
          (record {
            ended = place_any (closes s) 0 place n.order closed;
            app = l.app;
            opened = opened;
            linked =
                linked_now (ClosedOn z s)
                (record {
                  carries = subst (λ (o : Option Place). IfSome o (λ p. p ≡ record { session = s; order = x.past })) (sym frame_says.its) tt;
                  came = came;
                });
          }))
