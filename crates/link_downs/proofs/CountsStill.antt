-- Where no frame comes on a session's connection a step of a data server leaves how many of its messages were taken.
use Rattle.std.proofs.Common.{◌≡◌, ◌≢◌, ◌⊎◌, inl, inr, ◌+◌, ℕ, Bool, true, false, if◌then◌else◌, List, length, Option, Some, None, is_some, refl, sym, ◌∙◌, ap, subst, arith}
use Rattle.std.specs.Prelude.{nat_lt}
use Rattle.std.proofs.lemmas.Bool.{false≢true, true≢false}
use Rattle.plain_orders.specs.declared.act.Act.{Act}
use Rattle.plain_orders.specs.declared.layout.Layout.{Layout}
use Rattle.plain_orders.specs.Entries.{live}
use Rattle.plain_runs.specs.Run.{IsRun}
use Rattle.ecp_messages.specs.declared.up.UpFrame.{UpFrame}
use Rattle.data_rules.specs.declared.data_in.DataIn.{DataIn}
use Rattle.data_rules.specs.declared.data_in.DataIn.TheVariants as data_in
use Rattle.data_rules.specs.declared.rows.Role.TheVariants.{Bound}
use Rattle.data_rules.specs.DataState.{DataState}
use Rattle.data_rules.specs.Conns.{role_of}
use Rattle.data_rules.specs.Puts.{Sofar, becomes, begun, window_of}
use Rattle.data_rules.specs.Saving.{writes_synced}
use Rattle.data_rules.specs.Step.{made}
use Rattle.cluster_runs.specs.declared.move_outs.MoveOuts.{MoveOuts}
use Rattle.cluster_runs.specs.declared.moves.Move.TheVariants.{Server as ServerMove}
use Rattle.cluster_runs.specs.CoresState.{CoresState}
use Rattle.cluster_runs.specs.Goes.{ServerGoes, server_site}
use Rattle.cluster_runs.specs.Machine.{Machine, Site}
use Rattle.cluster_runs.specs.Mirrors.{Mirrors}
use Rattle.cluster_runs.specs.Moves.{Allowed}
use Rattle.cluster_runs.specs.Sent.{Lane}
use Rattle.cluster_invariant.specs.Holds.{Holds}
use Rattle.cluster_invariant.specs.Words.{is_begun}
use Rattle.cluster_invariant.proofs.PieceKinds.{Piece, makes}
use Rattle.cluster_invariant.proofs.PieceMay.{Coming, ComesAgainMay, begins}
use Rattle.cluster_invariant.proofs.Pieces.{MayMake}
use Rattle.asks_kept.proofs.CountsPieces.{CountBegins, CountMore, Counts, counts_piece}
use Rattle.data_ends_kept.proofs.NodeEndsServer as ends
use Rattle.link_kept.proofs.FramesFit.{begins_old}
use Rattle.link_kept.proofs.WindowsGo.{same_or}
use Rattle.link_kept.proofs.WindowsServer.{LanesGrow, server_lanes}
use Rattle.link_nodes.proofs.ServedSteps as served
use Rattle.link_nodes.proofs.ServedSteps.{Known}
use Rattle.link_downs.proofs.StepWays as step

module _ (l : Layout) (c : CoresState) (m : Machine) (server now : ℕ) (input : DataIn) (outs : MoveOuts) (written : List Act) (new : Machine)
    (h : Holds l m) (run : IsRun l m.trail) (after_run : IsRun l new.trail) (shows : Mirrors c m) (allowed : Allowed c (ServerMove server now input))
    (goes : ServerGoes m server now input outs written new) where
  abbrev x : Site
  x = m.site_at server

  abbrev y : Site
  y = server_site goes.node now input goes.data_outs goes.state (m.site_at server)

  abbrev t : Coming
  t = record { old = goes.node; now = now; input = input }

  abbrev lane_of : ℕ → Lane
  lane_of s = (m.site_at server).lane_at s (m.site_at server).past

  grow : LanesGrow goes.node goes.state goes.data_outs x y
  grow = server_lanes goes.node now input goes.data_outs goes.state x

  module _ (s : ℕ) (learnt : is_begun (lane_of s) ≡ true) (no_frame : (conn : ℕ) (f : UpFrame) → input ≡ data_in.Frame conn f → role_of goes.node conn ≡ Some (Bound s) → ⊥) where
    -- while it lives
    abbrev Counted : Sofar → Type 0
    Counted b = live b.state.order s ≡ true → (window_of b.state s).taken ≡ (lane_of s).up_taken

    unlearnt_not : (lane_of s).began ≡ None → ⊥
    unlearnt_not none = false≢true (sym (ap (λ (o : Option ℕ). is_some o) none) ∙ learnt)

    first : (i : DataIn) → Counted (begins (record { old = goes.node; now = now; input = i }))
    first i = go i
      where
        at_old : live goes.node.order s ≡ true → (window_of goes.node s).taken ≡ (lane_of s).up_taken
        at_old lives = ((ends.link l c m server now input outs written new h run shows allowed goes).windows.each s lives).taken

        go : (j : DataIn) → Counted (begins (record { old = goes.node; now = now; input = j }))
        go (data_in.Frame conn f) = at_old
        go (data_in.Connected conn) = at_old
        go (data_in.Broken conn) = at_old
        go data_in.Tick = at_old
        go (data_in.Saved upto) = by (nat_lt goes.node.synced upto)
          where
            by : (rises : Bool) → Counted (becomes (λ d. record d { synced = upto }) (writes_synced rises upto (begun goes.node)))
            by true = at_old
            by false = at_old

    keeps : (q : Piece) (b : Sofar) → MayMake t q b → Known l c m server now input outs written new h run shows allowed goes b → Counted b
        → Counted (makes now q b)
    keeps q b may k was = go (counts_piece t s q b may)
      where
        a : Sofar
        a = makes now q b

        none_new : s ≡ length b.state.order + 1 → ⊥
        none_new same =
            unlearnt_not (served.to_open l c m server now input outs written new h run shows allowed goes s (omega (arith, same, k.bounds.longer)))

        none_again : (conn : ℕ) (kept : ℕ) → ComesAgainMay t s conn kept b → ⊥
        none_again conn kept again = unlearnt_not (served.again_unlearnt l c m server now input outs written new h run shows allowed goes s conn kept b k again)

        begins_not : CountBegins t b a s → ⊥
        begins_not z = by z.why
          where
            by : (s ≡ length b.state.order + 1) ⊎ ((conn : ℕ) × (kept : ℕ) × ComesAgainMay t s conn kept b) → ⊥
            by (inl same) = none_new same
            by (inr again) = none_again again.0 again.1 again.2

        more_not : CountMore t b a s → ⊥
        more_not z = no_frame z.conn z.f z.may.on.came (sym (ap (λ (d : DataState). role_of d z.conn) same) ∙ z.may.on.bound)
          where
            same : b.state ≡ goes.node
            same = ap (λ (e : Sofar). e.state) z.may.first ∙ begins_old t z.conn z.f z.may.on.came

        go : Counts t b a s → Counted a
        go (inl still) = λ lives. still.taken ∙ was (sym still.lives ∙ lives)
        go (inr (inl anew)) = λ lives. absurd (begins_not anew)
        go (inr (inr (inl gone))) = λ lives. absurd (true≢false (sym lives ∙ gone.dead))
        go (inr (inr (inr more))) = λ lives. absurd (more_not more)

    in_the_end : Counted (made goes.state goes.data_outs)
    in_the_end = step.by_step l c m server now input outs written new h run after_run shows allowed goes Counted (λ q b may well k g. keeps q b may k g) (first input)

    here : (y.lane_at s x.past).up_taken ≡ (lane_of s).up_taken
    here = ap (λ (z : Lane). z.up_taken) (grow.here s) ∙ go (live goes.state.order s) refl
      where
        go : (b : Bool) → live goes.state.order s ≡ b → (if b then (window_of goes.state s).taken else (lane_of s).up_taken) ≡ (lane_of s).up_taken
        go true lives = in_the_end lives
        go false dead = refl

  -- in each order
  pub taken_still : (s k : ℕ) → (k ≡ x.past → is_begun (x.lane_at s k) ≡ true)
      → (k ≡ x.past → (conn : ℕ) (f : UpFrame) → input ≡ data_in.Frame conn f → role_of goes.node conn ≡ Some (Bound s) → ⊥)
      → (y.lane_at s k).up_taken ≡ (x.lane_at s k).up_taken
  taken_still s k learnt no_frame = go (same_or k x.past)
    where
      go : (k ≡ x.past) ⊎ (k ≢ x.past) → (y.lane_at s k).up_taken ≡ (x.lane_at s k).up_taken
      go (inl same) =
          subst (λ (i : ℕ). (y.lane_at s i).up_taken ≡ (x.lane_at s i).up_taken) (sym same)
          (here s (subst (λ (i : ℕ). is_begun (x.lane_at s i) ≡ true) same (learnt same)) (no_frame same))
      go (inr apart) = ap (λ (z : Lane). z.up_taken) (grow.others s k apart)
