-- A tick of the lists is a tick of the machine that they show.
use Rattle.std.proofs.Common.{ℕ, List, ◌∷◌, ◌++◌, sym, ap, subst, refl}
use Rattle.plain_orders.specs.declared.act.Act.{Act}
use Rattle.cluster_runs.specs.declared.moves.Move.TheVariants.{Tick}
use Rattle.cluster_runs.specs.CoresState.{CoresState}
use Rattle.cluster_runs.specs.Steps.{writes}
use Rattle.cluster_runs.specs.Machine.{Machine, with_acts}
use Rattle.cluster_runs.specs.Mirrors.{IsWhole, IsApp, Mirrors}
use Rattle.cluster_runs.specs.Reached.{CoresReached}
use Rattle.cluster_runs.specs.Laws.{TickReaches}

whole_ticked : (c : CoresState) (now : ℕ) (written : List Act) → IsWhole c → IsWhole (writes written (record c { clock = now }))
whole_ticked c now written w = record {
  nodes = w.nodes;
  orders = w.orders;
  server_nows = w.server_nows;
  apps = w.apps;
  app_nows = w.app_nows;
  dead = w.dead;
  shown = w.shown;
  rows = w.rows;
  jobs = w.jobs;
  begun = w.begun;
  views = w.views;
  used = w.used;
}

app_ticked : (c : CoresState) (now : ℕ) (written : List Act) (app : ℕ) → IsApp c app → IsApp (writes written (record c { clock = now })) app
app_ticked c now written app a = record { its = a.its; times = a.times; whole = a.whole }

tick_shows : (c : CoresState) (m : Machine) (now : ℕ) (written : List Act) → Mirrors c m
    → Mirrors (writes written (record c { clock = now })) (with_acts written (record m { clock = now }))
tick_shows c m now written s = record {
  layout = s.layout;
  whole = whole_ticked c now written s.whole;
  nodes = s.nodes;
  orders = s.orders;
  server_nows = s.server_nows;
  accepted = s.accepted;
  apps = λ app below. app_ticked c now written app (s.apps app below);
  ends = s.ends;
  shown = s.shown;
  dials = s.dials;
  jobs = s.jobs;
  begun = s.begun;
  views = s.views;
  app_nows = s.app_nows;
  dead = s.dead;
  clock = refl;
  trail = ap (λ (t : List Act). t ++ written) s.trail;
}

pub tick_reaches : TickReaches
tick_reaches l c now outs written new (m, (h, by), shows) made =
    subst (λ (x : CoresState). CoresReached l x) (sym made.after) (
      with_acts written (record m { clock = now }),
      (
        record { move = Tick now; outs = outs; acts = written } ∷ h,
        (m, by, record { shows = c; mirrors = shows; allowed = tt; goes = record { sent = made.puts; acts = made.acts; after = refl } }),
      ),
      tick_shows c m now written shows,
    )
