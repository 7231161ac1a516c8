-- Inputs of an application server that put no frame and cut no connection: an attempt that failed, a connection that ended, a pair that was
-- joined again, and a tick.
use Rattle.std.proofs.Common.{◌≡◌, ℕ, Bool, true, false, List, [], ◌∷◌, refl, ◌∙◌}
use Rattle.std.specs.Prelude.{nat_le}
use Rattle.plain_orders.specs.Times.{until}
use Rattle.link_states.specs.declared.app_link.AppLink.{AppLink}
use Rattle.link_states.specs.declared.app_link.AppLink.TheVariants.{NotConnected, Normal as NormalLink, Trouble, Recovery}
use Rattle.app_rules.specs.declared.line.Line.{Line}
use Rattle.app_rules.specs.declared.line.Line.TheVariants.{Apart, Trying, Greeting, Asking, Joined}
use Rattle.app_rules.specs.Losing.{broken, broken_from, failed, failed_from, joins_from, ticks, ticks_from, ticks_trouble, tries_when}
use Rattle.app_rules.specs.Works.{Sofar, becomes, end_at, with_line, is_apart, tries_if}

-- nothing more
pub record PutsNone (b c : Sofar) : Type 0 where
  pub frames : c.outs.frames ≡ b.outs.frames
  pub cuts : c.outs.cuts ≡ b.outs.cuts

pub failed_none : (d before later now : ℕ) (b : Sofar) → PutsNone b (failed d before later now b)
failed_none d before later now b = go (end_at b.state d).link
  where
    go : (k : AppLink) → PutsNone b (failed_from k d before later now (becomes d (with_line Apart) b))
    go NotConnected = record { frames = refl; cuts = refl }
    go NormalLink = record { frames = refl; cuts = refl }
    go (Trouble broke try_at) = record { frames = refl; cuts = refl }
    go Recovery = record { frames = refl; cuts = refl }

pub broken_none : (d now : ℕ) (b : Sofar) → PutsNone b (broken d now b)
broken_none d now b = go (end_at b.state d).line
  where
    go : (k : Line) → PutsNone b (broken_from k d now b)
    go Apart = record { frames = refl; cuts = refl }
    go Trying = record { frames = refl; cuts = refl }
    go Greeting = record { frames = refl; cuts = refl }
    go Asking = record { frames = refl; cuts = refl }
    go Joined = record { frames = refl; cuts = refl }

tries_none : (t : Bool) (d : ℕ) (b : Sofar) → PutsNone b (tries_if t d b)
tries_none true d b = record { frames = refl; cuts = refl }
tries_none false d b = record { frames = refl; cuts = refl }

pub joins_none : (k : AppLink) (d : ℕ) (b : Sofar) → PutsNone b (joins_from k d b)
joins_none NotConnected d b = record { frames = refl; cuts = refl }
joins_none NormalLink d b = record { frames = refl; cuts = refl }
joins_none (Trouble broke try_at) d b = tries_none (is_apart (end_at b.state d).line) d b
joins_none Recovery d b = record { frames = refl; cuts = refl }

tick_none : (k : AppLink) (d now : ℕ) (b : Sofar) → PutsNone b (ticks_from k d now b)
tick_none NotConnected d now b = record { frames = refl; cuts = refl }
tick_none NormalLink d now b = record { frames = refl; cuts = refl }
tick_none (Trouble broke try_at) d now b = go (nat_le (until broke b.state.times.recover) now)
  where
    by : (may : Bool) → PutsNone b (tries_when may d b)
    by true = tries_none (is_apart (end_at b.state d).line) d b
    by false = record { frames = refl; cuts = refl }

    go : (over : Bool) → PutsNone b (ticks_trouble over d broke try_at now b)
    go true = record { frames = refl; cuts = refl }
    go false = by (nat_le try_at now)
tick_none Recovery d now b = record { frames = refl; cuts = refl }

pub ticks_none : (ds : List ℕ) (now : ℕ) (b : Sofar) → PutsNone b (ticks ds now b)
ticks_none [] now b = record { frames = refl; cuts = refl }
ticks_none (d ∷ ds) now b = go (tick_none (end_at b.state d).link d now b) (ticks_none ds now (ticks_from (end_at b.state d).link d now b))
  where
    go : PutsNone b (ticks_from (end_at b.state d).link d now b) → PutsNone (ticks_from (end_at b.state d).link d now b) (ticks (d ∷ ds) now b)
        → PutsNone b (ticks (d ∷ ds) now b)
    go x y = record { frames = y.frames ∙ x.frames; cuts = y.cuts ∙ x.cuts }
