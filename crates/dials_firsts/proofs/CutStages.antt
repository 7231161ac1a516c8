-- What a step goes on from that takes a first frame and ends another connection, or that one.
use Rattle.std.proofs.Common.{◌≡◌, ◌≢◌, ℕ, Bool, true, false, not, ◌==◌, cond, if◌then◌else◌, List, [], ◌∷◌, map, filter, Option, Some, None, is_some}
use Rattle.std.proofs.Common.{option_map, refl, sym, ◌∙◌, ap, arith}
use Rattle.std.specs.Prelude.{IsSomeAnd}
use Rattle.std.proofs.lemmas.Bool.{eq-eqb, false≢true}
use Rattle.plain_runs.specs.Plain.{Server}
use Rattle.ecp_messages.specs.declared.down.DownFrame.{DownFrame}
use Rattle.ecp_messages.specs.declared.up.UpFrame.{UpFrame}
use Rattle.block_holders.specs.declared.noted.Noted.{Noted}
use Rattle.data_rules.specs.declared.data_in.DataIn.TheVariants as data_in
use Rattle.data_rules.specs.declared.data_outs.DataOuts.{DataOuts}
use Rattle.data_rules.specs.declared.down_frames.DownOut.{DownOut}
use Rattle.data_rules.specs.declared.rows.Reply.{Reply}
use Rattle.data_rules.specs.declared.rows.Says.{Says}
use Rattle.data_rules.specs.declared.rows.Says.TheVariants.{NewWelcome, EpochWelcome, ResetOf, GrantOf, AnswerOf}
use Rattle.data_rules.specs.DataState.{DataState}
use Rattle.data_rules.specs.Conns.{role_in, role_of, without_conn}
use Rattle.data_rules.specs.Puts.{is_reply_elsewhere, no_outs, says_on}
use Rattle.cluster_runs.specs.Machine.{Site}
use Rattle.cluster_runs.specs.Sent.{Connection}
use Rattle.cluster_runs.specs.Connections.{data_leaves, down_of, hears_downs, is_link, is_out_on, leaves_conn as site_leaves, leaves_conns, left}
use Rattle.cluster_runs.specs.Connections.{link_in, link_of, with_downs}
use Rattle.cluster_runs.specs.Lanes.{with_data_step}
use Rattle.cluster_runs.specs.Goes.{with_hellos, with_lanes, with_node}
use Rattle.cluster_invariant.specs.Dials.{DialsAre, NodeDials}
use Rattle.cluster_invariant.specs.Served.{HasLearnt}
use Rattle.cluster_invariant.proofs.AllLists.{all_both, all_filtered, all_follow, all_passed}
use Rattle.cluster_invariant.proofs.ConnRoles.{other_stays}
use Rattle.cluster_invariant.proofs.Small.{of_some}
use Rattle.dials_kept.proofs.ConnectionsGrow.{known_same}
use Rattle.dials_server.proofs.EndedDials.{broken_site, left_link}
use Rattle.dials_server.proofs.FittingFrames.{frames_on}
use Rattle.dials_server.proofs.FrameSettled.{PutsFrames}
use Rattle.dials_server.proofs.QuietServer.{lane_step}
use Rattle.dials_server.proofs.RoundNodes.{OpenInv}
use Rattle.dials_server.proofs.SaveNodes.{ReplyFits, SaysFit}
use Rattle.dials_firsts.proofs.FirstStages.{Stage, after_site, ended_at}

-- a test that fails
pub not_true : (b : Bool) → not b ≡ true → b ≡ false
not_true true is = absurd (false≢true is)
not_true false is = refl

module _ (v : Server) (z : Site) (dead : ℕ → Bool) (n k : DataState) (now conn old : ℕ) (f : UpFrame)
    (stage : Stage v dead (with_node now k z) k [] (after_site n now conn f z [])) where
  abbrev u : Site
  u = with_node now k z

  abbrev m : DataState
  m = without_conn old k

  -- the site then
  abbrev pub site_cut : Site
  site_cut = with_lanes k m no_outs (with_hellos (data_in.Broken old) (leaves_conns [] (hears_downs [] (with_node now m (site_leaves old u)))))

  pub dials_cut : DialsAre v site_cut dead
  dials_cut = broken_site v v u dead k m no_outs now old (known_same v) refl refl refl refl refl refl stage.dials

  lanes : (s i : ℕ) → ((site_cut.lane_at s i).began ≡ (z.lane_at s i).began) × ((site_cut.lane_at s i).down_taken ≡ (z.lane_at s i).down_taken)
  lanes s i = lane_step (i == z.past) (z.lane_at s i) (with_data_step k m [] s (z.lane_at s i)) refl refl

  -- what was learnt stays so
  pub learnt_cut : (s : ℕ) → HasLearnt z s → HasLearnt site_cut s
  learnt_cut s learnt = ap (λ (o : Option ℕ). is_some o) (lanes s z.past).0 ∙ learnt

  pub unlearnt_cut : (s : ℕ) → (site_cut.lane_at s z.past).began ≡ (z.lane_at s z.past).began
  unlearnt_cut s = (lanes s z.past).0

  -- other connections are for what they were for
  pub role_cut : (i : ℕ) → i ≢ old → role_of m i ≡ role_of k i
  role_cut i apart = ap (option_map role_in) (other_stays k.conns old i apart)

  pub links_cut : (i : ℕ) → link_of site_cut i ≡ link_of z i
  links_cut i = go (i == old)
    where
      go : (b : Bool) → link_in (if b then option_map left (z.connection_at i) else z.connection_at i) ≡ link_of z i
      go true = left_link (z.connection_at i)
      go false = refl

  -- each connection is as it was, but that it may be left
  pub kept_cut : (P Q : Connection → Type 0) → ((c : Connection) → P c → Q c) → ((c : Connection) → P c → Q (data_leaves c)) → (a d : ℕ)
      → IsSomeAnd ((z.end_at a).connection_at d) P
      → IsSomeAnd ((site_cut.end_at a).connection_at d) Q
  kept_cut P Q same leaves a d = go (is_link a d (link_of z old)) ((z.end_at a).connection_at d)
    where
      go : (b : Bool) (o : Option Connection) → IsSomeAnd o P → IsSomeAnd (option_map (λ c. c) (option_map (λ c. if b then data_leaves c else c) o)) Q
      go b None at = at
      go true (Some c) at = leaves c at
      go false (Some c) at = same c at

  says_cut : (says : Says) → SaysFit says u k → says_on old says ≡ false → SaysFit says site_cut m
  says_cut (NewWelcome i session) fits other = role_cut i (λ same. false≢true (sym other ∙ eq-eqb i old same)) ∙ fits
  says_cut (EpochWelcome i session kept) fits other = role_cut i (λ same. false≢true (sym other ∙ eq-eqb i old same)) ∙ fits
  says_cut (ResetOf i session at) fits other = role_cut i (λ same. false≢true (sym other ∙ eq-eqb i old same)) ∙ fits
  says_cut (GrantOf session ticket at) fits other = learnt_cut session fits
  says_cut (AnswerOf session about job number at sum) fits other = learnt_cut session fits

  -- replies on others fit
  pub reply_cut : (r : Reply) → ReplyFits u k r → says_on old r.says ≡ false → ReplyFits site_cut m r
  reply_cut r fits other = says_cut r.says fits other

  inv_cut : OpenInv site_cut m (old ∷ []) [] (ended_at m (old ∷ []))
  inv_cut = record {
    nodes = of_some (NodeDials site_cut) site_cut.node m refl dials_cut.node;
    frames = tt;
    cuts = refl;
    noted = all_follow (λ (y : Noted). HasLearnt u y.session) (λ (y : Noted). HasLearnt site_cut y.session)
        (λ y at. learnt_cut y.session at) k.noted stage.inv.noted;
    replies =
        all_follow (λ (r : Reply). ReplyFits u k r × (is_reply_elsewhere (says_on old) r ≡ true)) (ReplyFits site_cut m)
        (λ r both. reply_cut r both.0 (not_true (says_on old r.says) both.1)) (filter (is_reply_elsewhere (says_on old)) k.replies)
        (all_both (ReplyFits u k) (λ (r : Reply). is_reply_elsewhere (says_on old) r ≡ true) (filter (is_reply_elsewhere (says_on old)) k.replies)
        (all_filtered (ReplyFits u k) (is_reply_elsewhere (says_on old)) k.replies stage.inv.replies)
        (all_passed (is_reply_elsewhere (says_on old)) k.replies));
    there = λ i. refl;
    stays = λ i r other was. was;
    longer = omega arith;
    within = stage.inv.within;
    callers = tt;
    apart = refl;
  }

  -- the site after the step, which put frames before it left the connection

  outs_same : (a d : ℕ) (fs : List DownOut) → filter (is_out_on z a d) fs ≡ filter (is_out_on site_cut a d) fs
  outs_same a d [] = refl
  outs_same a d (g ∷ gs) =
      ap (λ (b : Bool). cond b (g ∷ filter (is_out_on z a d) gs) (filter (is_out_on z a d) gs)) (ap (is_link a d) (sym (links_cut g.conn)))
      ∙ ap (λ (os : List DownOut). cond (is_out_on site_cut a d g) (g ∷ os) os) (outs_same a d gs)

  down_left : (gs : List DownFrame) (c : Connection) → data_leaves (with_downs z.past gs c) ≡ with_downs z.past gs (data_leaves c)
  down_left [] c = refl
  down_left (g ∷ gs) c = down_left gs _

  turned : (b : Bool) (gs : List DownFrame) (o : Option Connection)
      → option_map (λ c. if b then data_leaves c else c) (option_map (λ c. with_downs z.past gs c) o)
      ≡ option_map (with_downs z.past gs) (option_map (λ c. c) (option_map (λ c. if b then data_leaves c else c) o))
  turned b gs None = refl
  turned true gs (Some c) = ap (λ (e : Connection). Some e) (down_left gs c)
  turned false gs (Some c) = refl

  puts_cut : (st : DataState) (outs : DataOuts) → PutsFrames site_cut (after_site n now conn f z (old ∷ []) st outs) st outs.frames
  puts_cut st outs = record {
    past = refl;
    began = λ s i. (lanes_y s i).0 ∙ sym (lanes s i).0;
    taken = λ s i. omega (arith, (lanes_y s i).1, (lanes s i).1);
    connections = refl;
    each =
        λ a d.
        turned (is_link a d (link_of z old)) (frames_on z a d outs.frames) ((z.end_at a).connection_at d)
        ∙ ap (λ (os : List DownOut). option_map (with_downs z.past (map down_of os)) ((site_cut.end_at a).connection_at d)) (outs_same a d outs.frames);
    states = λ a. refl;
    tolds = λ a. refl;
    node = refl;
  }
    where
      lanes_y : (s i : ℕ) → (((after_site n now conn f z (old ∷ []) st outs).lane_at s i).began ≡ (z.lane_at s i).began)
          × (((after_site n now conn f z (old ∷ []) st outs).lane_at s i).down_taken ≡ (z.lane_at s i).down_taken)
      lanes_y s i = lane_step (i == z.past) (z.lane_at s i) (with_data_step n st outs.frames s (z.lane_at s i)) refl refl

  -- A connection is ended.
  pub stage_cut : Stage v dead site_cut m (old ∷ []) (after_site n now conn f z (old ∷ []))
  stage_cut = record { dials = dials_cut; runs = refl; inv = inv_cut; puts = puts_cut }
