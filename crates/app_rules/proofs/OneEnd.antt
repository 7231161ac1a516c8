-- A step changes the end with one data server.
use Rattle.std.proofs.Common.{ℕ, Bool, true, false, List, [], ◌∷◌, refl, ◌∙◌}
use Rattle.std.proofs.lemmas.List.{length-set, get_or-set_other}
use Rattle.ecp_messages.specs.declared.up.Up.{Up}
use Rattle.app_rules.specs.AppState.{AppState, AppEnd, no_end}
use Rattle.std.specs.Prelude.{nat_le}
use Rattle.plain_orders.specs.Times.{until}
use Rattle.link_states.specs.declared.app_link.AppLink.{AppLink}
use Rattle.link_states.specs.declared.app_link.AppLink.TheVariants.{NotConnected, Normal, Trouble, Recovery}
use Rattle.end_words.specs.Windows.{owes_bare}
use Rattle.app_rules.specs.declared.line.Line.{Line}
use Rattle.app_rules.specs.declared.line.Line.TheVariants.{Apart, Trying, Greeting, Asking, Joined}
use Rattle.app_rules.specs.Works.{Sofar, with_end, end_at, session_at, becomes, cuts, tells, tells_if, puts, puts_all, is_joined, is_apart, with_line, tries, tries_if}
use Rattle.app_rules.specs.Losing.{breaks, broken, broken_from, ends_it, tries_when, ticks_trouble, ticks_from, joins_from, recovers, connected_from, connected, with_dial, failed_from, failed}
use Rattle.app_rules.specs.Welcoming.{sends_again, settles_unless}
use Rattle.app_rules.specs.Delivering.{goes_normal, to_put_again}
use Rattle.app_rules.specs.Downs.{bares_if, bares_joined, settled, joined}
use Rattle.app_rules.specs.Laws.{IsSameApp, KeepsOthers}

-- the same application server, of whose ends one may have changed
pub record IsOne (a b : AppState) (d : ℕ) : Type 0 where
  pub same : IsSameApp a b
  pub others : KeepsOthers a b d

pub one_same : (a : AppState) (d : ℕ) → IsOne a a d
one_same a d = record { same = record { app = refl; times = refl; ends = refl }; others = λ e other. refl }

pub one_then : {a b c : AppState} {d : ℕ} → IsOne a b d → IsOne b c d → IsOne a c d
one_then x y = record {
  same = record { app = y.same.app ∙ x.same.app; times = y.same.times ∙ x.same.times; ends = y.same.ends ∙ x.same.ends };
  others = λ e other. y.others e other ∙ x.others e other;
}

pub one_end : (d : ℕ) (e : AppEnd) (a : AppState) → IsOne a (with_end d e a) d
one_end d e a = record {
  same = record { app = refl; times = refl; ends = length-set a.ends d e };
  others = λ k other. get_or-set_other a.ends d k e no_end other;
}

pub one_tells_if : (t : Bool) (d seq : ℕ) (m : Up) (b : Sofar) → IsOne b.state (tells_if t d seq m b).state d
one_tells_if true d seq m b = one_end d _ b.state
one_tells_if false d seq m b = one_same b.state d

pub one_puts : (d : ℕ) (m : Up) (b : Sofar) → IsOne b.state (puts d m b).state d
one_puts d m b = one_then (one_end d _ b.state) (one_tells_if (is_joined (end_at b.state d).line) d _ m _)

pub one_puts_all : (d : ℕ) (ms : List Up) (b : Sofar) → IsOne b.state (puts_all d ms b).state d
one_puts_all d [] b = one_same b.state d
one_puts_all d (m ∷ ms) b = one_then (one_puts d m b) (one_puts_all d ms (puts d m b))

pub one_sends_again : (d : ℕ) (ms : List (ℕ × Up)) (b : Sofar) → IsOne b.state (sends_again d ms b).state d
one_sends_again d [] b = one_same b.state d
one_sends_again d (m ∷ ms) b = one_then (one_end d _ b.state) (one_sends_again d ms (tells d m.0 m.1 b))

one_tries_if : (t : Bool) (d : ℕ) (b : Sofar) → IsOne b.state (tries_if t d b).state d
one_tries_if true d b = one_end d _ b.state
one_tries_if false d b = one_same b.state d

pub one_tries : (d : ℕ) (b : Sofar) → IsOne b.state (tries d b).state d
one_tries d b = one_tries_if (is_apart (end_at b.state d).line) d b

one_breaks : (d now : ℕ) (b : Sofar) → IsOne b.state (breaks d now b).state d
one_breaks d now b = one_then (one_end d _ b.state) (one_end d _ _)

one_broken_from : (l : Line) (d now : ℕ) (b : Sofar) → IsOne b.state (broken_from l d now b).state d
one_broken_from Apart d now b = one_same b.state d
one_broken_from Trying d now b = one_same b.state d
one_broken_from Greeting d now b = one_end d _ b.state
one_broken_from Asking d now b = one_breaks d now b
one_broken_from Joined d now b = one_breaks d now b

pub one_broken : (d now : ℕ) (b : Sofar) → IsOne b.state (broken d now b).state d
one_broken d now b = one_broken_from (end_at b.state d).line d now b

pub one_ends_it : (d now : ℕ) (b : Sofar) → IsOne b.state (ends_it d now b).state d
one_ends_it d now b = one_broken d now (cuts d b)

one_tries_when : (t : Bool) (d : ℕ) (b : Sofar) → IsOne b.state (tries_when t d b).state d
one_tries_when true d b = one_tries d b
one_tries_when false d b = one_same b.state d

one_trouble : (t : Bool) (d broke try_at now : ℕ) (b : Sofar) → IsOne b.state (ticks_trouble t d broke try_at now b).state d
one_trouble true d broke try_at now b = one_end d _ b.state
one_trouble false d broke try_at now b = one_tries_when (nat_le try_at now) d b

pub one_ticks_from : (l : AppLink) (d now : ℕ) (b : Sofar) → IsOne b.state (ticks_from l d now b).state d
one_ticks_from NotConnected d now b = one_same b.state d
one_ticks_from Normal d now b = one_same b.state d
one_ticks_from (Trouble broke try_at) d now b = one_trouble (nat_le (until broke b.state.times.recover) now) d broke try_at now b
one_ticks_from Recovery d now b = one_same b.state d

pub one_joins : (l : AppLink) (d : ℕ) (b : Sofar) → IsOne b.state (joins_from l d b).state d
one_joins NotConnected d b = one_same b.state d
one_joins Normal d b = one_same b.state d
one_joins (Trouble broke try_at) d b = one_tries d b
one_joins Recovery d b = one_same b.state d

one_recovers : (d now : ℕ) (b : Sofar) → IsOne b.state (recovers d now b).state d
one_recovers d now b = one_then (one_end d _ b.state) (one_then (one_end d _ _) (one_end d _ _))

one_connected_from : (l : AppLink) (d now : ℕ) (b : Sofar) → IsOne b.state (connected_from l d now b).state d
one_connected_from NotConnected d now b = one_end d _ b.state
one_connected_from Normal d now b = one_end d _ b.state
one_connected_from (Trouble broke try_at) d now b = one_recovers d now b
one_connected_from Recovery d now b = one_end d _ b.state

pub one_connected : (d now : ℕ) (b : Sofar) → IsOne b.state (connected d now b).state d
one_connected d now b = one_then (one_end d _ b.state) (one_connected_from (end_at b.state d).link d now (becomes d with_dial b))

one_failed_from : (l : AppLink) (d before after now : ℕ) (b : Sofar) → IsOne b.state (failed_from l d before after now b).state d
one_failed_from NotConnected d before after now b = one_end d _ b.state
one_failed_from Normal d before after now b = one_same b.state d
one_failed_from (Trouble broke try_at) d before after now b = one_end d _ b.state
one_failed_from Recovery d before after now b = one_same b.state d

pub one_failed : (d before after now : ℕ) (b : Sofar) → IsOne b.state (failed d before after now b).state d
one_failed d before after now b =
    one_then (one_end d _ b.state) (one_failed_from (end_at b.state d).link d before after now (becomes d (with_line Apart) b))

pub one_settles : (t : Bool) (d now : ℕ) (b : Sofar) → IsOne b.state (settles_unless t d now b).state d
one_settles true d now b = one_same b.state d
one_settles false d now b = one_end d _ b.state

pub one_goes_normal : (d now : ℕ) (b : Sofar) → IsOne b.state (goes_normal d now b).state d
one_goes_normal d now b = one_then (one_end d _ b.state) (one_then (one_end d _ _) (one_puts_all d (to_put_again (session_at b.state d)) _))

one_bares_if : (t : Bool) (d : ℕ) (b : Sofar) → IsOne b.state (bares_if t d b).state d
one_bares_if true d b = one_end d _ b.state
one_bares_if false d b = one_same b.state d

one_bares_joined : (t : Bool) (d : ℕ) (b : Sofar) → IsOne b.state (bares_joined t d b).state d
one_bares_joined true d b = one_bares_if (owes_bare (session_at b.state d).window) d b
one_bares_joined false d b = one_same b.state d

pub one_settled : (d : ℕ) (b : Sofar) → IsOne b.state (settled d b).state d
one_settled d b = one_bares_joined (joined b d) d b
