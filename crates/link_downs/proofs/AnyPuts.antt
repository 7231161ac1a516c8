-- What each step of a data server puts on its connections, a tick or none.
use Rattle.std.proofs.Common.{◌≡◌, ℕ, List, is_some, refl, sym, ◌∙◌}
use Rattle.plain_orders.specs.declared.act.Act.{Act}
use Rattle.plain_orders.specs.declared.layout.Layout.{Layout}
use Rattle.plain_runs.specs.Run.{IsRun}
use Rattle.data_rules.specs.declared.data_in.DataIn.{DataIn}
use Rattle.data_rules.specs.declared.data_in.DataIn.TheVariants as data_in
use Rattle.cluster_runs.specs.declared.move_outs.MoveOuts.{MoveOuts}
use Rattle.cluster_runs.specs.declared.moves.Move.TheVariants.{Server as ServerMove}
use Rattle.cluster_runs.specs.CoresState.{CoresState}
use Rattle.cluster_runs.specs.Goes.{ServerGoes, server_site}
use Rattle.cluster_runs.specs.Machine.{Machine}
use Rattle.cluster_runs.specs.Mirrors.{Mirrors}
use Rattle.cluster_runs.specs.Moves.{Allowed}
use Rattle.cluster_invariant.specs.Holds.{Holds}
use Rattle.link_downs.proofs.PlainPuts.{plain_puts}
use Rattle.link_downs.proofs.StepPuts.{StepPuts}
use Rattle.link_downs.proofs.TickPuts.{tick_puts}

module _ (l : Layout) (c0 : CoresState) (m : Machine) (server now : ℕ) (input : DataIn) (outs : MoveOuts) (written : List Act) (new : Machine)
    (h : Holds l m) (run : IsRun l m.trail) (after_run : IsRun l new.trail) (shows : Mirrors c0 m) (allowed : Allowed c0 (ServerMove server now input))
    (goes : ServerGoes m server now input outs written new) where
  pub step_puts : StepPuts (m.site_at server) (server_site goes.node now input goes.data_outs goes.state (m.site_at server)) (is_some goes.node.round) goes.node goes.state goes.data_outs.frames
  step_puts = go input refl
    where
      other : (input ≡ data_in.Tick → ⊥)
          → StepPuts (m.site_at server) (server_site goes.node now input goes.data_outs goes.state (m.site_at server)) (is_some goes.node.round) goes.node goes.state goes.data_outs.frames
      other no_tick = plain_puts l c0 m server now input outs written new h run after_run shows allowed goes no_tick

      go : (i : DataIn) → input ≡ i
          → StepPuts (m.site_at server) (server_site goes.node now input goes.data_outs goes.state (m.site_at server)) (is_some goes.node.round) goes.node goes.state goes.data_outs.frames
      go (data_in.Frame conn f) is = other (λ same. (let both : data_in.Frame conn f ≡ data_in.Tick = sym is ∙ same in absurd cc))
      go (data_in.Connected conn) is = other (λ same. (let both : data_in.Connected conn ≡ data_in.Tick = sym is ∙ same in absurd cc))
      go (data_in.Broken conn) is = other (λ same. (let both : data_in.Broken conn ≡ data_in.Tick = sym is ∙ same in absurd cc))
      go data_in.Tick is = tick_puts l c0 m server now input outs written new h run after_run shows allowed goes is
      go (data_in.Saved upto) is = other (λ same. (let both : data_in.Saved upto ≡ data_in.Tick = sym is ∙ same in absurd cc))
