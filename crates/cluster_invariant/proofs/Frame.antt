-- What a move leaves: other data servers when one moves, and all of them at a tick.
use Rattle.std.proofs.Common.{◌≡◌, ◌≢◌, ℕ, List, [], ◌∷◌, refl, sym, ◌∙◌, subst}
use Rattle.plain_orders.specs.declared.act.Act.{Act}
use Rattle.plain_orders.specs.declared.act.Act.TheVariants as act
use Rattle.plain_orders.specs.declared.layout.Layout.{Layout}
use Rattle.plain_runs.specs.Plain.{Plain, Server, start, put}
use Rattle.plain_runs.specs.Run.{after_all, state_after}
use Rattle.plain_runs.proofs.RunLemmas.{after_all-append, after_all-more}
use Rattle.cluster_runs.specs.declared.move_outs.MoveOuts.{MoveOuts}
use Rattle.cluster_runs.specs.Machine.{Machine, Site, with_acts}
use Rattle.cluster_runs.specs.Goes.{at_site, TickGoes}
use Rattle.cluster_invariant.specs.Commands.{CommandsHold}
use Rattle.cluster_invariant.specs.Holds.{SiteHolds, HoldsOf, Holds}
use Rattle.cluster_invariant.proofs.Small.{at_places}

-- Where one data server moves the others' parts stay, if the acts leave their plain servers.
pub others_left : (l : Layout) (p q : Plain) (m : Machine) (server : ℕ) (y : Site) (R : ℕ → Server → Site → Type 0)
    → ((d : ℕ) → R d (p.server_at d) (m.site_at d)) → ((e : ℕ) → e ≢ server → q.server_at e ≡ p.server_at e)
    → R server (q.server_at server) y → (d : ℕ) → R d (q.server_at d) (put m.site_at server y d)
others_left l p q m server y R before others here =
    at_places (λ d x. R d (q.server_at d) x) m.site_at server y here
    (λ d other. subst (λ (v : Server). R d v (m.site_at d)) (sym (others d other)) (before d))

-- A move of one data server keeps all if it keeps that one's parts.
pub kept_at : (l : Layout) (m new : Machine) (server : ℕ) (f : Site → Site) (written : List Act) → Holds l m
    → new ≡ with_acts written (at_site server f m)
    → ((e : ℕ) → e ≢ server → (after_all l (state_after l m.trail) written).server_at e ≡ (state_after l m.trail).server_at e)
    → (after_all l (state_after l m.trail) written).clock ≡ (state_after l m.trail).clock
    → ((app : ℕ) → (after_all l (state_after l m.trail) written).died_at app ≡ (state_after l m.trail).died_at app)
    → SiteHolds l server m.is_dead_at ((after_all l (state_after l m.trail) written).server_at server) (f (m.site_at server))
    → CommandsHold (with_acts written (at_site server f m)) → Holds l new
kept_at l m new server f written h after others clock died here commands =
    subst (λ (n : Machine). Holds l n) (sym after)
    (subst (λ (q : Plain). HoldsOf l q (with_acts written (at_site server f m))) (sym (after_all-append l start m.trail written)) (record {
      layout = h.layout;
      clock = clock ∙ h.clock;
      died = λ app. died app ∙ h.died app;
      sites = others_left l (state_after l m.trail) (after_all l (state_after l m.trail) written) m server (f (m.site_at server)) (λ d v x. SiteHolds l d m.is_dead_at v x) h.sites others here;
      commands = commands;
    }))

-- A tick keeps all.
pub kept_by_tick : (l : Layout) (m new : Machine) (now : ℕ) (outs : MoveOuts) (written : List Act) → Holds l m → TickGoes m now outs written new → Holds l new
kept_by_tick l m new now outs written h goes =
    subst (λ (n : Machine). Holds l n) (sym goes.after)
    (subst (λ (w : List Act). Holds l (with_acts w (record m { clock = now }))) (sym goes.acts)
    (subst (λ (q : Plain). HoldsOf l q (with_acts (act.Tick now ∷ []) (record m { clock = now }))) (sym (after_all-more l start m.trail (act.Tick now)))
    (record { layout = h.layout; clock = refl; died = h.died; sites = h.sites; commands = commands })))
  where
    commands : CommandsHold (with_acts (act.Tick now ∷ []) (record m { clock = now }))
    commands = record { index = h.commands.index; lost = h.commands.lost; asks = h.commands.asks }
