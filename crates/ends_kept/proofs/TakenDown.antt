-- The frame that an application server takes is the first on its way on the connection that its end has.
use Rattle.std.proofs.Common.{◌≡◌, ℕ, Bool, true, false, List, [], ◌∷◌, drop, Option, Some, None, option_map, refl, sym, ◌∙◌, ap, if◌then◌else◌}
use Rattle.ecp_messages.specs.declared.down.DownFrame.{DownFrame}
use Rattle.app_rules.specs.declared.app_in.AppIn.TheVariants as app_in
use Rattle.app_rules.specs.AppState.{AppEnd}
use Rattle.cluster_runs.specs.CoresState.{CoresState, dial_at}
use Rattle.cluster_runs.specs.Connections.{dial_of}
use Rattle.cluster_runs.specs.Mirrors.{Mirrors}
use Rattle.cluster_runs.specs.Moves.{AppTakes, next_down, first_of}
use Rattle.cluster_runs.specs.Machine.{Machine, End}
use Rattle.cluster_runs.specs.Sent.{Connection}
use Rattle.cluster_runs.specs.Wires.{last_dial}
use Rattle.cluster_invariant.specs.Words.{downs_left}

-- the connection, the frame at the head of what is on its way, and what is behind it
pub record Taken (e : End) (frame : DownFrame) : Type 0 where
  pub connection : Connection
  pub its : e.connection_at e.state.dial ≡ Some connection
  pub behind : List DownFrame
  pub left : downs_left connection ≡ frame ∷ behind

first_there : (fs : List DownFrame) (f : DownFrame) → first_of fs ≡ Some f → (rest : List DownFrame) × (fs ≡ f ∷ rest)
first_there [] f h = absurd (cc (h))
first_there (g ∷ fs) f h = (fs, ap (λ (o : Option DownFrame). head_or o g ∷ fs) h)
  where
    head_or : Option DownFrame → DownFrame → DownFrame
    head_or None d = d
    head_or (Some x) d = x

pub taken_down : (c : CoresState) (m : Machine) (app d : ℕ) (frame : DownFrame) → Mirrors c m → AppTakes c app (app_in.Frame d frame) → Taken ((m.site_at d).end_at app) frame
taken_down c m app d frame shows takes = go (e.connection_at e.state.dial) refl there
  where
    e : End
    e = (m.site_at d).end_at app

    number : last_dial c app d ≡ e.state.dial
    number = ap (λ (x : AppEnd). x.dial) (shows.ends app d)

    there : next_down (option_map (dial_of app d e.state.dial) (e.connection_at e.state.dial)) ≡ Some frame
    there = ap next_down (sym (shows.dials app d e.state.dial)) ∙ ap (λ n. next_down (dial_at c app d n)) (sym number) ∙ takes

    go : (o : Option Connection) → e.connection_at e.state.dial ≡ o → next_down (option_map (dial_of app d e.state.dial) o) ≡ Some frame → Taken e frame
    go None is h = absurd (cc (h))
    go (Some y) is h = by y.app_left h
      where
        by : (left : Bool) → first_of (if left then [] else drop y.downs_taken y.downs) ≡ Some frame → Taken e frame
        by true t = absurd (cc (t))
        by false t = let r : (rest : List DownFrame) × (downs_left y ≡ frame ∷ rest) = first_there (downs_left y) frame t in record { connection = y; its = is; behind = r.0; left = r.1 }
