-- What a tick puts on the connections of a data server, by what each was for: Drops on those of live sessions, and nothing on others.
use Rattle.std.proofs.Common.{◌≡◌, ◌≤◌, inl, inr, ℕ, Bool, true, false, if◌then◌else◌, List, [], ◌++◌, length, drop, Some, None, is_some, sym, ◌∙◌, ap, subst}
use Rattle.std.specs.Prelude.{◌&&◌, not}
use Rattle.std.proofs.lemmas.Bool.{true≢false}
use Rattle.std.proofs.lemmas.List.{append-nil}
use Rattle.std.proofs.Math.Seq.{drop-append_seam}
use Rattle.plain_orders.specs.declared.act.Act.{Act}
use Rattle.plain_orders.specs.declared.entry.Entry.{Entry}
use Rattle.plain_orders.specs.declared.layout.Layout.{Layout}
use Rattle.plain_orders.specs.Entries.{live}
use Rattle.plain_runs.specs.Plain.{Server}
use Rattle.plain_runs.specs.Run.{IsRun, state_after}
use Rattle.ecp_messages.specs.declared.down.Down.{Down}
use Rattle.data_rules.specs.declared.data_in.DataIn.{DataIn}
use Rattle.data_rules.specs.declared.data_in.DataIn.TheVariants as data_in
use Rattle.data_rules.specs.declared.rows.Role.TheVariants.{Bound, Closing}
use Rattle.data_rules.specs.Conns.{role_of}
use Rattle.data_rules.specs.Opening.{live_ends}
use Rattle.data_rules.specs.Puts.{begun, window_of}
use Rattle.data_rules.specs.Step.{DataStep, made}
use Rattle.cluster_runs.specs.declared.move_outs.MoveOuts.{MoveOuts}
use Rattle.cluster_runs.specs.declared.moves.Move.TheVariants.{Server as ServerMove}
use Rattle.cluster_runs.specs.CoresState.{CoresState}
use Rattle.cluster_runs.specs.Goes.{ServerGoes, server_site}
use Rattle.cluster_runs.specs.Lanes.{downs_given, drops_until, is_closed_by, notes_of}
use Rattle.cluster_runs.specs.Machine.{Machine, Site}
use Rattle.cluster_runs.specs.Mirrors.{Mirrors}
use Rattle.cluster_runs.specs.Moves.{Allowed}
use Rattle.cluster_runs.specs.Sent.{Lane}
use Rattle.cluster_invariant.specs.Holds.{Holds}
use Rattle.cluster_invariant.specs.Link.{NodeLink}
use Rattle.data_ends_kept.proofs.NodeEndsServer as ends
use Rattle.link_kept.proofs.WindowsServer.{LanesGrow, server_lanes}
use Rattle.link_downs.proofs.NumberedPuts.{PutNext}
use Rattle.link_downs.proofs.OnConn.{put_on, waiting_on}
use Rattle.link_downs.proofs.PlainPuts as plain
use Rattle.link_downs.proofs.StepPuts.{BoundAfter, PutsGo, StepPuts}
use Rattle.link_downs.proofs.StepWays as step
use Rattle.link_downs.proofs.StepWays.{at_old}
use Rattle.link_downs.proofs.TickBound.{Lives, Shut, TickAt}
use Rattle.link_downs.proofs.TickEnds.{ticks_at}
use Rattle.link_downs.proofs.TickSilent.{tick_silent}

module _ (l : Layout) (c0 : CoresState) (m : Machine) (server now : ℕ) (input : DataIn) (outs : MoveOuts) (written : List Act) (new : Machine)
    (h : Holds l m) (run : IsRun l m.trail) (after_run : IsRun l new.trail) (shows : Mirrors c0 m) (allowed : Allowed c0 (ServerMove server now input))
    (goes : ServerGoes m server now input outs written new) (came : input ≡ data_in.Tick) where
  abbrev x : Site
  x = m.site_at server

  abbrev v : Server
  v = (state_after l m.trail).server_at server

  abbrev y : Site
  y = server_site goes.node now input goes.data_outs goes.state (m.site_at server)

  steps : DataStep goes.node now data_in.Tick goes.data_outs goes.state
  steps = subst (λ (i : DataIn). DataStep goes.node now i goes.data_outs goes.state) came goes.steps

  node : NodeLink v x m.is_dead_at goes.node
  node = ends.link l c0 m server now input outs written new h run shows allowed goes

  silent : (q : ℕ) → ((s : ℕ) → role_of goes.node q ≡ Some (Bound s) → ⊥) → put_on q goes.data_outs.frames ≡ []
  silent q none =
      tick_silent v x m.is_dead_at goes.node goes.state now goes.data_outs node (ends.dials l c0 m server now input outs written new h run shows allowed goes).differ steps q
      (λ s role. absurd (none s role))

  module _ (q s : ℕ) (role : role_of goes.node q ≡ Some (Bound s)) (quiet : waiting_on q goes.node.replies ≡ []) where
    abbrev lane : Lane
    lane = x.lane_at s x.past

    within : lane.down_taken ≤ length lane.down
    within = (step.counts l c0 m server now input outs written new h run after_run shows allowed goes s x.past).down_taken

    lives_old : live goes.node.order s ≡ true
    lives_old = ((ends.hold l c0 m server now input outs written new h run shows allowed goes).bound q s role).0

    first : Lives goes.node lane q s (is_some goes.node.round) within (begun goes.node)
    unfolding at_old
    first = record {
      keeps = at_old l c0 m server now input outs written new h run after_run shows allowed goes q s role quiet;
      differ = (ends.dials l c0 m server now input outs written new h run shows allowed goes).differ;
      count = (step.was l c0 m server now input outs written new h run after_run shows allowed goes q s role quiet).taken;
      so = λ es. ap (drops_until s (notes_of goes.node s)) (drop-append_seam goes.node.order es);
    }

    after : TickAt goes.node lane q s (is_some goes.node.round) within (made goes.state goes.data_outs)
    after =
        subst (TickAt goes.node lane q s (is_some goes.node.round) within) (sym steps)
        (ticks_at goes.node lane q s (is_some goes.node.round) within (live_ends goes.node.order) now (begun goes.node) (inl first))

    grow : LanesGrow goes.node goes.state goes.data_outs x y
    grow = server_lanes goes.node now input goes.data_outs goes.state x

    shut : Shut goes.node lane q s (is_some goes.node.round) within (made goes.state goes.data_outs)
        → PutsGo lane (y.lane_at s x.past) q s (is_some goes.node.round) goes.state (put_on q goes.data_outs.frames)
    shut is = record {
      given = is.given;
      down = ap (λ (z : Lane). z.down) (grow.here s) ∙ ap (λ (ms : List Down). lane.down ++ ms) given_is;
      its = subst (λ (i : ℕ). PutNext (length lane.down) i (put_on q goes.data_outs.frames) is.given) (sym taken_is) is.put;
      normal = is.normal;
      bound = λ lives. absurd (true≢false (sym lives ∙ is.dead));
      closed = λ dead. is.closing;
    }
      where
        closed_so : is_closed_by goes.node goes.state s ≡ true
        closed_so = ap (λ (b : Bool). b && not (live goes.state.order s)) lives_old ∙ ap not is.dead

        given_is : downs_given (is_closed_by goes.node goes.state s) goes.node goes.state s ≡ is.given
        given_is =
            ap (λ (b : Bool). downs_given b goes.node goes.state s) closed_so
            ∙ ap (λ (es : List Entry). drops_until s (notes_of goes.node s) (drop (length goes.node.order) es)) (sym (append-nil goes.state.order)) ∙ is.so []

        taken_is : (y.lane_at s x.past).up_taken ≡ lane.up_taken
        taken_is =
            ap (λ (z : Lane). z.up_taken) (grow.here s) ∙ ap (λ (b : Bool). if b then (window_of goes.state s).taken else lane.up_taken) is.dead

    bound_puts : BoundAfter lane (y.lane_at s x.past) q s (is_some goes.node.round) goes.state (put_on q goes.data_outs.frames)
    bound_puts = go after
      where
        go : TickAt goes.node lane q s (is_some goes.node.round) within (made goes.state goes.data_outs)
            → BoundAfter lane (y.lane_at s x.past) q s (is_some goes.node.round) goes.state (put_on q goes.data_outs.frames)
        go (inl lives) = inl (plain.keeps l c0 m server now input outs written new h run after_run shows allowed goes q s role quiet lives.keeps)
        go (inr closed) = inl (shut closed)

  pub tick_puts : StepPuts x y (is_some goes.node.round) goes.node goes.state goes.data_outs.frames
  tick_puts = record {
    none = λ q none. silent q (λ s role. no_one s (sym none ∙ role));
    bound = bound_puts;
    closing = λ q s ws role waits resets. inl (silent q (λ r bound. two r s (sym role ∙ bound)));
  }
    where
      no_one : (s : ℕ) → None ≡ Some (Bound s) → ⊥
      no_one s same = cc

      two : (r s : ℕ) → Some (Closing s) ≡ Some (Bound r) → ⊥
      two r s same = cc
