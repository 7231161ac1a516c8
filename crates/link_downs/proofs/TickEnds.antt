-- A tick at each end with a live session: the connection of a live session keeps what it is given, or the session is closed on it.
use Rattle.std.proofs.Common.{◌≡◌, ◌≤◌, ℕ, Bool, true, false, List, [], ◌∷◌, length, Option, refl}
use Rattle.link_states.specs.declared.data_link.DataLink.{DataLink}
use Rattle.link_states.specs.declared.data_link.DataLink.TheVariants.{Free, Normal, Trouble, Recovering}
use Rattle.link_states.specs.declared.link_event.LinkEvent.TheVariants as event
use Rattle.link_states.specs.Tables.{data_next}
use Rattle.data_rules.specs.declared.rows.LiveEnd.{LiveEnd}
use Rattle.data_rules.specs.DataState.{DataState}
use Rattle.data_rules.specs.Closing.{turns_away, waits_for_reset}
use Rattle.data_rules.specs.Conns.{link_of, with_event}
use Rattle.data_rules.specs.Messages.{is_awaited}
use Rattle.data_rules.specs.Puts.{Sofar, becomes}
use Rattle.data_rules.specs.Saving.{cause_of, closes_late, hears_tick, is_free, ticks, ticks_end, ticks_one}
use Rattle.cluster_runs.specs.Sent.{Lane}
use Rattle.link_downs.proofs.TickBound.{TickAt, at_same, closes_at}

module _ (old : DataState) (lane : Lane) (q s : ℕ) (in_round : Bool) (within : lane.down_taken ≤ length lane.down) where
  turn_of : (x : DataLink) (now r : ℕ) (o : Option ℕ) (at : ℕ) (c : Sofar) → turns_away (cause_of x now) o r at c ≡ waits_for_reset o r at c
  turn_of Free now r o at c = refl
  turn_of Normal now r o at c = refl
  turn_of (Trouble broke) now r o at c = refl
  turn_of (Recovering due) now r o at c = refl

  late_at : (late : Bool) (r now : ℕ) (x : DataLink) (b : Sofar) → TickAt old lane q s in_round within b
      → TickAt old lane q s in_round within (closes_late late r now (cause_of x now) b)
  late_at true r now x b h = closes_at old lane q s in_round within r (cause_of x now) b (turn_of x now r) h
  late_at false r now x b h = h

  end_at : (hears : Bool) (app r now : ℕ) (b : Sofar) → TickAt old lane q s in_round within b
      → TickAt old lane q s in_round within (ticks_end hears app r now b)
  end_at true app r now b h = at_same old lane q s in_round within c (becomes (with_event app now event.Ticked) c) (record { conns = refl; order = refl; synced = refl; noted = refl; windows = refl; put = refl; waits = refl }) (late_at late r now (link_of b.state app) b h)
    where
      late : Bool
      late = is_free (data_next b.state.times now (link_of b.state app) event.Ticked)

      c : Sofar
      c = closes_late late r now (cause_of (link_of b.state app) now) b
  end_at false app r now b h = h

  pub ticks_at : (xs : List LiveEnd) (now : ℕ) (b : Sofar) → TickAt old lane q s in_round within b → TickAt old lane q s in_round within (ticks xs now b)
  ticks_at [] now b h = h
  ticks_at (x ∷ xs) now b h = ticks_at xs now (ticks_one x now b) (end_at (hears_tick (link_of b.state x.app) (is_awaited b.state x.session)) x.app x.session now b h)
