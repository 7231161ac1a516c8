-- The part on connections in the midst of a step that takes a first frame: what the step goes on from, and what it comes to.
use Rattle.std.proofs.Common.{◌≡◌, ◌≤◌, ℕ, Bool, true, false, ◌==◌, List, [], map, Option, Some, None, is_some, option_map, refl, sym, ◌∙◌, ap, arith}
use Rattle.std.specs.Prelude.{IfSome}
use Rattle.std.specs.List.{AllByRecursion, find}
use Rattle.std.proofs.lemmas.Bool.{false≢true}
use Rattle.plain_runs.specs.Plain.{Server, current, order_at}
use Rattle.ecp_messages.specs.declared.up.UpFrame.{UpFrame}
use Rattle.block_holders.specs.declared.noted.Noted.{Noted}
use Rattle.data_rules.specs.declared.data_in.DataIn.TheVariants as data_in
use Rattle.data_rules.specs.declared.data_outs.DataOuts.{DataOuts}
use Rattle.data_rules.specs.declared.down_frames.DownOut.{DownOut}
use Rattle.data_rules.specs.declared.rows.Conn.{Conn}
use Rattle.data_rules.specs.declared.rows.Reply.{Reply}
use Rattle.data_rules.specs.declared.rows.Role.{Role}
use Rattle.data_rules.specs.declared.rows.Role.TheVariants.{New, Waiting, Bound, Closing}
use Rattle.data_rules.specs.declared.rows.Says.{Says}
use Rattle.data_rules.specs.declared.rows.Says.TheVariants.{NewWelcome, EpochWelcome, ResetOf, GrantOf, AnswerOf}
use Rattle.data_rules.specs.DataState.{DataState}
use Rattle.data_rules.specs.Conns.{is_conn, role_in, role_of, with_role_if}
use Rattle.data_rules.specs.Puts.{Sofar}
use Rattle.cluster_runs.specs.CoresState.{Linked}
use Rattle.cluster_runs.specs.Machine.{DataConnection, Site}
use Rattle.cluster_runs.specs.Connections.{hears_downs, leaves_conns, link_of}
use Rattle.cluster_runs.specs.Lanes.{with_data_step}
use Rattle.cluster_runs.specs.Goes.{with_hellos, with_lanes, with_node}
use Rattle.cluster_invariant.specs.Dials.{BoundIs, ClosingIs, ConnectionIs, DialsAre, NodeDials, RoleIs, has_conn, is_here}
use Rattle.cluster_invariant.specs.Served.{HasLearnt}
use Rattle.cluster_invariant.proofs.AllLists.{all_follow}
use Rattle.cluster_invariant.proofs.Small.{of_some}
use Rattle.dials_kept.proofs.ConnectionsGrow.{StaysKnown}
use Rattle.dials_server.proofs.ClosedNodes.{other_role, there_still}
use Rattle.dials_server.proofs.FirstDials.{first_dials}
use Rattle.dials_server.proofs.FirstSites.{PartsAre, first_parts}
use Rattle.dials_server.proofs.FirstTakes.{FirstSays, first_says}
use Rattle.dials_server.proofs.FittingDials.{dials_after}
use Rattle.dials_server.proofs.FittingFrames.{FrameFits}
use Rattle.dials_server.proofs.FrameSettled.{PutsFrames}
use Rattle.dials_server.proofs.OpenedNodes.{Within}
use Rattle.dials_server.proofs.QuietServer.{lane_step}
use Rattle.dials_server.proofs.RoundNodes.{OpenInv}
use Rattle.dials_server.proofs.SaveNodes.{ReplyFits, SaysFit}
use Rattle.dials_server.proofs.TakenFrames.{NextFrame, site_taken}

-- a step that has this state, and ended these connections
abbrev pub ended_at : DataState → List ℕ → Sofar
ended_at m gone = record { state = m; outs = record { frames = []; cuts = gone; acts = [] } }

-- the site after a step that took a frame
abbrev pub after_site : DataState → ℕ → ℕ → UpFrame → Site → List ℕ → DataState → DataOuts → Site
after_site n now conn f z gone st outs = with_lanes n st outs
    (with_hellos (data_in.Frame conn f) (leaves_conns gone (hears_downs outs.frames (with_node now st z))))

-- What a step goes on from: a site with its node, where so many connections were ended, and what frames make of it.
pub record Stage (v : Server) (dead : ℕ → Bool) (u : Site) (m : DataState) (gone : List ℕ) (after : DataState → DataOuts → Site) : Type 0 where
  pub dials : DialsAre v u dead
  pub runs : u.node ≡ Some m
  pub inv : OpenInv u m gone [] (ended_at m gone)
  pub puts : (st : DataState) (outs : DataOuts) → PutsFrames u (after st outs) st outs.frames

-- What it comes to, where these frames are put from there.
pub stage_ends : (v w : Server) (u y : Site) (dead : ℕ → Bool) (m st : DataState) (gone : List ℕ) (outs : DataOuts) (fs : List DownOut) → StaysKnown v w
    → DialsAre v u dead → u.node ≡ Some m
    → OpenInv u m gone [] (record { state = st; outs = outs }) → AllByRecursion (FrameFits u st) fs → PutsFrames u y st fs → st.order ≡ order_at w u.past
    → DialsAre w y dead
stage_ends v w u y dead m st gone outs fs later is runs inv fits put order =
    dials_after v w u y dead st fs later
    (record { past = put.past; began = put.began; connections = put.connections; each = put.each; fits = fits }) put.taken put.states put.tolds is
    inv.nodes order put.node
    (λ i.
    ap (λ (g : ℕ → Option DataConnection). is_here (g i)) put.connections ∙ is.here i ∙ ap (λ (o : Option DataState). has_conn o i) runs ∙ sym (inv.there i))

-- replies on other connections than one that was new

module _ (conn : ℕ) (r : Role) (n k : DataState) (conns : k.conns ≡ map (with_role_if conn r) n.conns) (role : role_of n conn ≡ Some New) where
  pub role_stays : (i : ℕ) (q : Role) → (q ≡ New → ⊥) → role_of n i ≡ Some q → role_of k i ≡ Some q
  role_stays i q old was = ap (λ (cs : List Conn). option_map role_in (find (is_conn i) cs)) conns ∙ other_role conn r i n.conns apart ∙ was
    where
      apart : i ≡ conn → ⊥
      apart same = old (cc (was, ap (role_of n) same, role))

  says_stay : (x z : Site) → ((s : ℕ) → HasLearnt x s → HasLearnt z s) → (says : Says) → SaysFit says x n → SaysFit says z k
  says_stay x z learnt (NewWelcome i session) fits = role_stays i (Bound session) (λ same. absurd (cc (same))) fits
  says_stay x z learnt (EpochWelcome i session kept) fits = role_stays i (Bound session) (λ same. absurd (cc (same))) fits
  says_stay x z learnt (ResetOf i session at) fits = role_stays i (Closing session) (λ same. absurd (cc (same))) fits
  says_stay x z learnt (GrantOf session ticket at) fits = learnt session fits
  says_stay x z learnt (AnswerOf session about job number at sum) fits = learnt session fits

  pub replies_stay : (x z : Site) → ((s : ℕ) → HasLearnt x s → HasLearnt z s) → (rs : List Reply) → AllByRecursion (ReplyFits x n) rs
      → AllByRecursion (ReplyFits z k) rs
  replies_stay x z learnt rs all = all_follow (ReplyFits x n) (ReplyFits z k) (λ q at. says_stay x z learnt q.says at) rs all

-- the first frame is taken

module _ (v : Server) (x : Site) (dead : ℕ → Bool) (n : DataState) (conn : ℕ) (l : Linked) (f : UpFrame) (unlinked : link_of x conn ≡ None)
    (here : is_here (x.connection_at conn) ≡ true)
    (past : x.past ≤ current v) (next : NextFrame x l f) (new : next.on.linked ≡ false) (is : DialsAre v x dead) (runs : x.node ≡ Some n)
  where
    pub nodes : NodeDials x n
    nodes = of_some (NodeDials x) x.node n runs is.node

    -- the connection was new
    pub role_new : role_of n conn ≡ Some New
    role_new = go (role_of n conn) refl (sym (is.here conn ∙ ap (λ (o : Option DataState). has_conn o conn) runs) ∙ here) (nodes.roles conn)
      where
        linked_so : (j : Linked) → link_of x conn ≡ Some j → ⊥
        linked_so j at = (let both : ◌≡◌ {A = Option Linked} None (Some j) = sym unlinked ∙ at in absurd cc)

        go : (o : Option Role) → role_of n conn ≡ o → is_some o ≡ true → IfSome o (RoleIs x n conn) → o ≡ Some New
        go None was there at = absurd (false≢true there)
        go (Some New) was there at = refl
        go (Some Waiting) was there at = absurd (false≢true (sym (ap (λ (o : Option Linked). is_some o) unlinked) ∙ at))
        go (Some (Bound s)) was there at = absurd (linked_so _ (bound at))
          where
            bound : (at : BoundIs x n conn s) → link_of x conn ≡ Some (record { app = at.app; dial = at.linked.dial })
            bound at = at.linked.link
        go (Some (Closing s)) was there at = absurd (linked_so _ (closing at))
          where
            closing : (at : ClosingIs x n conn s) → link_of x conn ≡ Some (record { app = at.app; dial = at.linked.dial })
            closing at = at.linked.link

    pub says : FirstSays v x l f next.on next.behind
    says = first_says v x l f next new (of_some (ConnectionIs v x l.app l.dial) ((x.end_at l.app).connection_at l.dial) next.on next.there
        ((is.pairs l.app).each l.dial))

    pub parts : PartsAre v x (site_taken x conn l (Some l)) dead
    parts = first_parts v x dead conn l f unlinked here past next new is

    -- The connection is for this from then on, and these dials count.
    pub stage_first : (now : ℕ) (ds : List ℕ) (r : Role)
        → NodeDials (site_taken x conn l (Some l)) (record n { dials = ds; conns = map (with_role_if conn r) n.conns })
        → AllByRecursion (λ (y : Noted). HasLearnt x y.session) n.noted
        → AllByRecursion (ReplyFits x n) n.replies → Within n.order
        → Stage v dead (with_node now (record n { dials = ds; conns = map (with_role_if conn r) n.conns }) (site_taken x conn l (Some l)))
        (record n { dials = ds; conns = map (with_role_if conn r) n.conns }) [] (after_site n now conn f (site_taken x conn l (Some l)) [])
    stage_first now ds r node noted replies within = record {
      dials = started;
      runs = refl;
      inv = record {
        nodes = of_some (NodeDials u) u.node k refl started.node;
        frames = tt;
        cuts = refl;
        noted = noted;
        replies = replies_stay conn r n k refl role_new x u (λ s learnt. learnt) n.replies replies;
        there = λ i. refl;
        stays = λ i q other was. was;
        longer = omega arith;
        within = within;
        callers = tt;
        apart = refl;
      };
      puts = puts;
    }
      where
        z : Site
        z = site_taken x conn l (Some l)

        k : DataState
        k = record n { dials = ds; conns = map (with_role_if conn r) n.conns }

        u : Site
        u = with_node now k z

        started : DialsAre v u dead
        started =
            first_dials v x z dead now k parts node
            (λ i. is.here i ∙ ap (λ (o : Option DataState). has_conn o i) runs ∙ sym (there_still conn r i n.conns))

        puts : (st : DataState) (outs : DataOuts) → PutsFrames u (after_site n now conn f z [] st outs) st outs.frames
        puts st outs = record {
          past = refl;
          began = λ s i. (lane_step (i == z.past) (z.lane_at s i) (with_data_step n st outs.frames s (z.lane_at s i)) refl refl).0;
          taken = λ s i. omega (arith, (lane_step (i == z.past) (z.lane_at s i) (with_data_step n st outs.frames s (z.lane_at s i)) refl refl).1);
          connections = refl;
          each = λ a d. refl;
          states = λ a. refl;
          tolds = λ a. refl;
          node = refl;
        }
