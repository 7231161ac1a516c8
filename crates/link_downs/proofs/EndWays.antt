-- What is on its way to a living application end whose connection carries its session's messages, over a step of its data server: the Welcome
-- came, or is the first frame left.
use Rattle.std.proofs.Common.{◌≡◌, ◌≤◌, ◌⊎◌, inl, inr, ℕ, true, false, List, [], ◌∷◌, ◌++◌, Option, Some, is_some, refl, sym, ◌∙◌, ap, subst, arith}
use Rattle.std.specs.Prelude.{IfSome}
use Rattle.plain_orders.specs.declared.act.Act.{Act}
use Rattle.plain_orders.specs.declared.layout.Layout.{Layout}
use Rattle.plain_runs.specs.Plain.{Server, current, order_at}
use Rattle.plain_runs.specs.Run.{IsRun, after_all, state_after}
use Rattle.ecp_messages.specs.declared.down.Down.{Down}
use Rattle.ecp_messages.specs.declared.down.Down.TheVariants.{Welcome}
use Rattle.ecp_messages.specs.declared.down.DownFrame.{DownFrame}
use Rattle.ecp_messages.specs.declared.front.Front.{Front}
use Rattle.data_rules.specs.declared.data_in.DataIn.{DataIn}
use Rattle.data_rules.specs.DataState.{DataState}
use Rattle.app_rules.specs.declared.line.Line.{Line}
use Rattle.app_rules.specs.declared.line.Line.TheVariants.{Asking, Joined}
use Rattle.app_rules.specs.AppState.{Session}
use Rattle.cluster_runs.specs.declared.move_outs.MoveOuts.{MoveOuts}
use Rattle.cluster_runs.specs.declared.moves.Move.TheVariants.{Server as ServerMove}
use Rattle.cluster_runs.specs.CoresState.{CoresState}
use Rattle.cluster_runs.specs.Goes.{ServerGoes, server_site}
use Rattle.cluster_runs.specs.Machine.{Machine, Site}
use Rattle.cluster_runs.specs.Mirrors.{Mirrors}
use Rattle.cluster_runs.specs.Moves.{Allowed}
use Rattle.cluster_runs.specs.Sent.{Connection, Place}
use Rattle.cluster_invariant.specs.Dials.{CarriesOf}
use Rattle.cluster_invariant.specs.Ends.{due_stands, stands}
use Rattle.cluster_invariant.specs.Holds.{Holds, SiteHolds}
use Rattle.cluster_invariant.specs.Link.{AskedFirst, AskedWay, DownWay, EpochWelcomeOn, JoinedWay, SameWelcome, WholeIf, is_in_recovery, is_normal_frame}
use Rattle.cluster_invariant.specs.Rounds.{RoundGoes, RoundOf, SessionRound}
use Rattle.cluster_invariant.specs.Waiting.{IsUnended}
use Rattle.cluster_invariant.specs.Words.{downs_left, is_begun, stays_at}
use Rattle.cluster_invariant.proofs.Small.{of_some}
use Rattle.data_ends_kept.proofs.NodeEndsServer as ends
use Rattle.link_kept.proofs.AppLater.{LaneLater}
use Rattle.link_kept.proofs.Later.{Later, counts_front}
use Rattle.link_downs.proofs.AskingSilent.{no_frame}
use Rattle.link_downs.proofs.CarriedNow as carried
use Rattle.link_downs.proofs.CarriedWays.{TellsNormal, WayAfter}
use Rattle.link_downs.proofs.NodeAfter as nodes
use Rattle.link_downs.proofs.CountsStill.{taken_still}
use Rattle.link_downs.proofs.DueSessions.{recovers, undue_untold, unended_due}
use Rattle.link_downs.proofs.NumberedPuts.{list_any_joined}
use Rattle.link_downs.proofs.StepPuts.{StepPuts}
use Rattle.link_downs.proofs.StepWays as step
use Rattle.link_downs.proofs.WelcomesStay.{says_stays}

module _ (l : Layout) (c0 : CoresState) (m : Machine) (server now : ℕ) (input : DataIn) (outs : MoveOuts) (written : List Act) (new : Machine)
    (h : Holds l m) (run : IsRun l m.trail) (after_run : IsRun l new.trail) (shows : Mirrors c0 m) (allowed : Allowed c0 (ServerMove server now input))
    (goes : ServerGoes m server now input outs written new)
    (puts : StepPuts (m.site_at server) (server_site goes.node now input goes.data_outs goes.state (m.site_at server)) (is_some goes.node.round) goes.node goes.state goes.data_outs.frames) where
  abbrev x : Site
  x = m.site_at server

  abbrev v : Server
  v = (state_after l m.trail).server_at server

  abbrev w : Server
  w = (after_all l (state_after l m.trail) written).server_at server

  abbrev y : Site
  y = server_site goes.node now input goes.data_outs goes.state (m.site_at server)

  its : SiteHolds l server m.is_dead_at v x
  its = h.sites server

  later : Later x v w
  later = step.later l c0 m server now input outs written new h run after_run shows allowed goes

  lanes : (s k : ℕ) → LaneLater (x.lane_at s k) (y.lane_at s k)
  lanes = step.lanes_later l c0 m server now input outs written new h run after_run shows allowed goes

  node_order : order_at v x.past ≡ goes.node.order
  node_order = nodes.node_order l c0 m server now input outs written new h run after_run shows allowed goes

  same_current : current w ≡ current v
  same_current =
      sym (nodes.now_past l c0 m server now input outs written new h run after_run shows allowed goes)
      ∙ step.past_now l c0 m server now input outs written new h run after_run shows allowed goes

  round_goes : IfSome goes.node.round (λ r. RoundGoes x goes.node)
  round_goes = of_some (λ (n : DataState). IfSome n.round (λ r. RoundGoes x n)) x.node goes.node goes.runs its.rounds.node

  module _ (a : ℕ) (alive : m.is_dead_at a ≡ false) (s : Session) (k : ℕ) (has : (x.end_at a).state.session ≡ Some s) (p : Place) (told : (x.end_at a).told ≡ Some p) (at : p.order ≡ k)
      (c : Connection) (it : (x.end_at a).connection_at (x.end_at a).state.dial ≡ Some c) where
    abbrev dial : ℕ
    dial = (x.end_at a).state.dial

    round : SessionRound (order_at v k) (x.lane_at s.number k) s
    round =
        subst (λ (i : ℕ). SessionRound (order_at v i) (x.lane_at s.number i) s) at
        (of_some (λ (q : Place). SessionRound (order_at v q.order) (x.lane_at s.number q.order) s) (x.end_at a).told p told
        (of_some (RoundOf v x (x.end_at a)) (x.end_at a).state.session s has (its.rounds.apps a alive)))

    due : k ≡ x.past → IsUnended goes.node.order s.number (x.lane_at s.number x.past) → s.normal_due ≡ true
    due = unended_due v x goes.node node_order s k round

    -- one whose Welcome came

    pub joined_now : (x.end_at a).state.line ≡ Joined → JoinedWay v x (x.end_at a).state s k c
        → IfSome ((y.end_at a).connection_at dial) (JoinedWay w y (x.end_at a).state s k)
    joined_now line j = go (carried.carried_now l c0 m server now input outs written new h run after_run shows allowed goes puts a dial c it s.number k j.its (is_in_recovery (x.end_at a).state.link)
        [] (downs_left c) refl j.way j.whole (λ same is. in_recovery (due same is)))
      where
        in_recovery : s.normal_due ≡ true → is_in_recovery (x.end_at a).state.link ≡ true
        in_recovery is =
            recovers (x.end_at a).state.link s.normal_due (subst (λ (z : Line). stands (x.end_at a).state.link z ≡ true) line (its.ends.tables a alive).stands)
            (subst (λ (z : Line). due_stands (x.end_at a).state.link z s.normal_due ≡ true) line
            (of_some (λ (q : Session). due_stands (x.end_at a).state.link (x.end_at a).state.line q.normal_due ≡ true) (x.end_at a).state.session s has (its.ends.tables a alive).normal_due)) is

        go : carried.CarriedTo l c0 m server now input outs written new h run after_run shows allowed goes puts a dial c s.number k (is_in_recovery (x.end_at a).state.link) (downs_left c)
            → IfSome ((y.end_at a).connection_at dial) (JoinedWay w y (x.end_at a).state s k)
        go (d, (there, after)) =
            subst (λ (o : Option Connection). IfSome o (JoinedWay w y (x.end_at a).state s k)) (sym there) (record {
              its = after.its ∙ j.its;
              way = subst (λ (fs : List DownFrame). DownWay (order_at w k) (stays_at w k) s.number (y.lane_at s.number k) (is_in_recovery (x.end_at a).state.link) fs) (sym after.left) after.way;
              whole = subst (λ (fs : List DownFrame). WholeIf y s.number k (y.lane_at s.number k) d fs) (sym after.left) after.whole;
            })

    -- one whose Welcome is the first frame left

    module _ (line : (x.end_at a).state.line ≡ Asking) (f : DownFrame) (fs : List DownFrame) (left : downs_left c ≡ f ∷ fs) where
      learnt : k ≡ x.past → is_begun (x.lane_at s.number k) ≡ true
      learnt same =
          subst (λ (i : ℕ). is_begun (x.lane_at s.number i) ≡ true) at
          (of_some (λ (q : Place). is_some (x.lane_at s.number q.order).began ≡ true) (x.end_at a).told p told
          (of_some (λ (z : Session). IfSome (x.end_at a).told (λ q. is_some (x.lane_at z.number q.order).began ≡ true)) (x.end_at a).state.session s has (its.link.apps a alive).begun))

      -- as much was taken of it
      taken_same : c.its ≡ Some (record { session = s.number; order = k }) → (y.lane_at s.number k).up_taken ≡ (x.lane_at s.number k).up_taken
      taken_same c_its =
          taken_still l c0 m server now input outs written new h run after_run shows allowed goes s.number k learnt
          (λ same conn g came role. no_frame v x (m.is_dead_at a) m.is_dead_at goes.node input node_order
          (ends.at_frame l c0 m server now input outs written new h run shows allowed goes) a (its.dials.pairs a) line c it s.number
          (subst (λ (i : ℕ). c.its ≡ Some (record { session = s.number; order = i })) same c_its)
          (subst (λ (i : ℕ). CarriesOf v a c.first (record { session = s.number; order = i })) same
          (carried.carries l c0 m server now input outs written new h run after_run shows allowed goes puts a dial c it s.number k c_its)) conn role g came)

      same_at : (epoch : ℕ) (front : Front) (taken : ℕ) (there : k ≤ current v) (e : SameWelcome v x s k c s.number epoch front taken fs) (d : Connection)
          (after : WayAfter w y s.number k s.normal_due (TellsNormal x goes.node s.number k) fs c d) → SameWelcome w y s k d s.number epoch front taken (fs ++ after.put)
      same_at epoch front taken there e d after = record {
        its = after.its ∙ e.its;
        number = refl;
        epoch_told = e.epoch_told;
        counted = e.counted ∙ sym (taken_same e.its);
        synced =
            omega (
              arith,
              e.synced,
              counts_front (order_at v k) (order_at w k) (stays_at v k) (stays_at w k) s.number (later.goes_on k there)
                  (later.within k there) (later.stays k there),
            );
        way = after.way;
        whole = after.whole;
        awaited = λ undue.
            list_any_joined is_normal_frame fs after.put (e.awaited undue)
            (after.calm (undue_untold v x goes.node node_order s k round round_goes undue));
      }

      epoch_at : (epoch kept : ℕ) (front : Front) (taken : ℕ) (e : EpochWelcomeOn v x s k c s.number epoch kept front taken fs) (d : Connection)
          (after : WayAfter w y s.number e.order true (TellsNormal x goes.node s.number e.order) fs c d) → EpochWelcomeOn w y s k d s.number epoch kept front taken (fs ++ after.put)
      epoch_at epoch kept front taken e d after = record {
        order = e.order;
        its = after.its ∙ e.its;
        number = refl;
        told_before = e.told_before;
        says = says_stays v w x later same_current s.number k e.order epoch kept front e.unlearnt e.says;
        none_taken = e.none_taken;
        unlearnt = (lanes s.number e.order).began ∙ e.unlearnt;
        way = after.way;
        whole = after.whole;
      }

      -- So what is on its way goes on.
      pub asked_now : (session epoch kept : ℕ) (front : Front) (taken : ℕ) → k ≤ current v → f.message ≡ Welcome session epoch kept front taken → f.seq ≡ 0
          → SameWelcome v x s k c session epoch front taken fs ⊎ EpochWelcomeOn v x s k c session epoch kept front taken fs
          → IfSome ((y.end_at a).connection_at dial) (λ d. AskedWay w y s k d (downs_left d))
      asked_now session epoch kept front taken there says zeroed is = go is
        where
          -- the connection after the step, with its first frame
          after_it : (d : Connection) (more : List DownFrame) → (y.end_at a).connection_at dial ≡ Some d → downs_left d ≡ downs_left c ++ more
              → SameWelcome w y s k d session epoch front taken (fs ++ more) ⊎ EpochWelcomeOn w y s k d session epoch kept front taken (fs ++ more)
              → IfSome ((y.end_at a).connection_at dial) (λ z. AskedWay w y s k z (downs_left z))
          after_it d more d_there d_left first =
              subst (λ (o : Option Connection). IfSome o (λ z. AskedWay w y s k z (downs_left z))) (sym d_there)
              (subst (λ (gs : List DownFrame). AskedWay w y s k d gs) (sym (d_left ∙ ap (λ (gs : List DownFrame). gs ++ more) left))
              (zeroed, subst (λ (u : Down). AskedFirst w y s k d (fs ++ more) u) (sym says) first))

          by_same : (e : SameWelcome v x s k c session epoch front taken fs) → SameWelcome v x s k c s.number epoch front taken fs
              → IfSome ((y.end_at a).connection_at dial) (λ z. AskedWay w y s k z (downs_left z))
          by_same e at_number =
              at_end
              (carried.carried_now l c0 m server now input outs written new h run after_run shows allowed goes puts a dial c it s.number k at_number.its s.normal_due (f ∷ []) fs left
              at_number.way at_number.whole due)
            where
              at_end : carried.CarriedTo l c0 m server now input outs written new h run after_run shows allowed goes puts a dial c s.number k s.normal_due fs
                  → IfSome ((y.end_at a).connection_at dial) (λ z. AskedWay w y s k z (downs_left z))
              at_end (d, (d_there, after)) =
                  after_it d after.put d_there after.left
                  (inl (subst (λ (i : ℕ). SameWelcome w y s k d i epoch front taken (fs ++ after.put)) (sym e.number) (same_at epoch front taken there at_number d after)))

          by_epoch : (e : EpochWelcomeOn v x s k c session epoch kept front taken fs) → EpochWelcomeOn v x s k c s.number epoch kept front taken fs
              → IfSome ((y.end_at a).connection_at dial) (λ z. AskedWay w y s k z (downs_left z))
          by_epoch e at_number =
              at_end
              (carried.carried_now l c0 m server now input outs written new h run after_run shows allowed goes puts a dial c it s.number at_number.order at_number.its true (f ∷ []) fs left
              at_number.way at_number.whole (λ same is. refl))
            where
              at_end : carried.CarriedTo l c0 m server now input outs written new h run after_run shows allowed goes puts a dial c s.number at_number.order true fs
                  → IfSome ((y.end_at a).connection_at dial) (λ z. AskedWay w y s k z (downs_left z))
              at_end (d, (d_there, after)) =
                  after_it d after.put d_there after.left
                  (inr (subst (λ (i : ℕ). EpochWelcomeOn w y s k d i epoch kept front taken (fs ++ after.put)) (sym e.number) (epoch_at epoch kept front taken at_number d after)))

          go : SameWelcome v x s k c session epoch front taken fs ⊎ EpochWelcomeOn v x s k c session epoch kept front taken fs
              → IfSome ((y.end_at a).connection_at dial) (λ z. AskedWay w y s k z (downs_left z))
          go (inl e) = by_same e (subst (λ (i : ℕ). SameWelcome v x s k c i epoch front taken fs) e.number e)
          go (inr e) = by_epoch e (subst (λ (i : ℕ). EpochWelcomeOn v x s k c i epoch kept front taken fs) e.number e)
