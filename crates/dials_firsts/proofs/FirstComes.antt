-- The part on connections as a first frame was taken, by what the step came to before replies leave.
use Rattle.std.proofs.Common.{◌≡◌, ◌≤◌, ◌<◌, ◌⊎◌, ℕ, Bool, true, false, List, [], ◌++◌, length, Some, None, sym, ◌∙◌, ap, subst}
use Rattle.std.specs.List.{AllByRecursion}
use Rattle.plain_orders.specs.Ordered.{IsOrdered}
use Rattle.plain_runs.specs.Plain.{Server, current, order_at}
use Rattle.ecp_messages.specs.declared.up.UpFrame.{UpFrame}
use Rattle.lock_table.specs.declared.rows.Request.{Request}
use Rattle.block_holders.specs.declared.noted.Noted.{Noted}
use Rattle.data_rules.specs.declared.data_outs.DataOuts.{DataOuts}
use Rattle.data_rules.specs.declared.down_frames.DownOut.{DownOut}
use Rattle.data_rules.specs.DataState.{DataState}
use Rattle.data_rules.specs.declared.limits.TheConstants.{APP_LIMIT}
use Rattle.data_rules.specs.declared.rows.Role.TheVariants.{Bound}
use Rattle.data_rules.specs.Conns.{role_of}
use Rattle.data_rules.specs.Frames.{settled}
use Rattle.data_rules.specs.Opening.{is_round_over}
use Rattle.data_rules.specs.Puts.{Sofar}
use Rattle.data_rules.specs.Step.{made}
use Rattle.cluster_runs.specs.CoresState.{Linked}
use Rattle.cluster_runs.specs.Machine.{Site}
use Rattle.cluster_runs.specs.Connections.{link_of}
use Rattle.cluster_invariant.specs.Dials.{DialsAre, is_here}
use Rattle.cluster_invariant.specs.Ends.{NodeEnds}
use Rattle.cluster_invariant.specs.Served.{HasLearnt}
use Rattle.dials_kept.proofs.ConnectionsGrow.{StaysKnown}
use Rattle.dials_server.proofs.FittingFrames.{FrameFits}
use Rattle.dials_server.proofs.FrameSettled.{PutsFrames}
use Rattle.dials_server.proofs.OpenedNodes.{IsFresh}
use Rattle.dials_server.proofs.RoundNodes.{OpenInv}
use Rattle.dials_server.proofs.SaveDials.{fresh_at}
use Rattle.dials_server.proofs.SaveNodes.{ReplyFits}
use Rattle.dials_server.proofs.TakenFrames.{NextFrame, site_taken}
use Rattle.dials_firsts.proofs.FirstStages.{after_site, stage_ends}
use Rattle.dials_firsts.proofs.FramesGrow.{Grown, all_behind, grown_settled}
use Rattle.dials_firsts.proofs.QuietWindows.{QuietIn, settled_open}
use Rattle.std.proofs.lemmas.List.{append_assoc}

-- What is known as a first frame comes.
pub record FirstAt (v : Server) (x : Site) (dead : ℕ → Bool) (n : DataState) (conn : ℕ) (l : Linked) (f : UpFrame) : Type 0 where
  pub unlinked : link_of x conn ≡ None
  pub here : is_here (x.connection_at conn) ≡ true
  pub past : x.past ≤ current v
  pub next : NextFrame x l f
  pub new : next.on.linked ≡ false
  pub is : DialsAre v x dead
  pub runs : x.node ≡ Some n
  pub noted : AllByRecursion (λ (y : Noted). HasLearnt x y.session) n.noted
  pub requests : AllByRecursion (λ (r : Request). HasLearnt x r.who.session) n.locks.requests
  pub replies : AllByRecursion (ReplyFits x n) n.replies
  pub ordered : IsOrdered n.order
  pub order : order_at v x.past ≡ n.order
  pub synced : n.synced ≤ length n.order
  pub ends : NodeEnds v x n
  pub low : l.app < APP_LIMIT

-- What the step came to.
pub record Comes (v : Server) (x : Site) (dead : ℕ → Bool) (n : DataState) (now conn : ℕ) (f : UpFrame) (l : Linked) (b : Sofar) : Type 0 where
  pub site : Site
  pub node : DataState
  pub gone : List ℕ
  pub dials : DialsAre v site dead
  pub runs : site.node ≡ Some node
  pub past : site.past ≡ x.past
  pub order : node.order ≡ n.order
  pub inv : OpenInv site node gone [] b
  pub on : is_round_over b.state b.state.round ≡ false
  pub known : (s : ℕ) → role_of b.state conn ≡ Some (Bound s) → HasLearnt site s ⊎ QuietIn b.state.windows s
  -- the frames that the site has already
  pub before : List DownOut
  pub begins : List DownOut
  pub frames : b.outs.frames ≡ before ++ begins
  pub puts : (st : DataState) (outs : DataOuts) (rest : List DownOut) → outs.frames ≡ before ++ rest
      → PutsFrames site (after_site n now conn f (site_taken x conn l (Some l)) gone st outs) st rest

-- So the part holds after the step.
pub comes_dials : (v w : Server) (x : Site) (dead : ℕ → Bool) (n : DataState) (now conn : ℕ) (f : UpFrame) (l : Linked) (b : Sofar)
    → FirstAt v x dead n conn l f
    → Comes v x dead n now conn f l b → StaysKnown v w → (st : DataState) (outs : DataOuts) → made st outs ≡ settled conn now b → st.order ≡ order_at w x.past
    → DialsAre w (after_site n now conn f (site_taken x conn l (Some l)) outs.cuts st outs) dead
comes_dials v w x dead n now conn f l b at it later st outs steps order =
    subst (λ (cs : List ℕ). DialsAre w (after_site n now conn f z cs st outs) dead) (sym last.cuts)
    (stage_ends v w it.site (after_site n now conn f z it.gone st outs) dead it.node st it.gone outs rest later it.dials it.runs last
    (all_behind (FrameFits it.site st) it.before rest (subst (λ (fs : List DownOut). AllByRecursion (FrameFits it.site st) fs) frames last.frames))
    (it.puts st outs rest frames) (order ∙ ap (order_at w) (sym it.past)))
  where
    z : Site
    z = site_taken x conn l (Some l)

    fresh : (s : ℕ) → length it.node.order < s → IsFresh it.site s
    fresh = fresh_at v it.site dead it.node.order (ap (order_at v) it.past ∙ at.order ∙ sym it.order) (subst IsOrdered (sym it.order) at.ordered) it.dials

    last : OpenInv it.site it.node it.gone [] (made st outs)
    last = subst (λ (c : Sofar). OpenInv it.site it.node it.gone [] c) (sym steps) (settled_open it.site it.node it.gone fresh conn now b it.on it.known it.inv)

    grown : Grown b (settled conn now b)
    grown = grown_settled conn now b it.on

    rest : List DownOut
    rest = it.begins ++ grown.more

    frames : outs.frames ≡ it.before ++ rest
    frames =
        ap (λ (c : Sofar). c.outs.frames) steps ∙ grown.frames ∙ ap (λ (fs : List DownOut). fs ++ grown.more) it.frames
        ∙ append_assoc it.before it.begins grown.more
