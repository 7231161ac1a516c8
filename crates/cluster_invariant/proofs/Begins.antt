-- What holds holds before any move.
use Rattle.std.proofs.Common.{◌≡◌, ℕ, zero, suc, Bool, true, false, refl, sym, ap, arith, List, [], length, None}
use Rattle.std.specs.Prelude.{map, nat_lt}
use Rattle.std.specs.List.{range_with_len}
use Rattle.std.proofs.lemmas.List.{get_or_past}
use Rattle.std.proofs.lemmas.List.FromFn.{get_or-map-range_with_len, length-map-range_with_len}
use Rattle.std.proofs.lemmas.Bool.{le-ltb, ltb-true, ltb-false, false≢true}
use Rattle.plain_orders.specs.declared.entry.Entry.{Entry}
use Rattle.plain_orders.specs.declared.layout.Layout.{Layout}
use Rattle.plain_runs.specs.Plain.{nothing_opened}
use Rattle.app_rules.specs.AppState.{no_end}
use Rattle.app_rules.specs.JobState.{JobState, no_job}
use Rattle.cluster_runs.specs.CoresState.{new_job}
use Rattle.cluster_runs.specs.Sent.{no_lane}
use Rattle.cluster_runs.specs.Machine.{fresh_site, fresh_end, begin}
use Rattle.cluster_invariant.specs.Orders.{OrderIs}
use Rattle.cluster_invariant.specs.Ends.{EndsAre, AppTables, AppTold}
use Rattle.cluster_invariant.specs.Dials.{DialsAre, PairDials, is_made}
use Rattle.cluster_invariant.specs.Link.{LinkHolds, AppWay, LaneCounts}
use Rattle.cluster_invariant.specs.Coherence.{CoherenceHolds, IsCoherent, IsHeader}
use Rattle.cluster_invariant.specs.Fronts.{FrontsHold}
use Rattle.cluster_invariant.specs.Rounds.{RoundsHold, LaneRound}
use Rattle.cluster_invariant.specs.Asks.{AsksHold}
use Rattle.cluster_invariant.specs.Commands.{CommandsHold}
use Rattle.cluster_invariant.specs.Holds.{SiteHolds, Holds}

order_begins : (l : Layout) (d : ℕ) → OrderIs l d nothing_opened fresh_site
order_begins l d = record { past = refl; disk = refl; node = tt; no_conns = λ shut conn. refl; to_come = λ session k later. refl }

ends_begin : EndsAre nothing_opened fresh_site (λ _. false)
ends_begin = record { tables = λ app alive. tables; told = λ app alive. told app; node = tt; unopened = λ shut app. refl }
  where
    tables : AppTables (record { session = None; broke = None }) no_end
    tables = record { session = refl; connected = refl; broke = refl; stands = refl; normal_due = tt }

    told : (app : ℕ) → AppTold nothing_opened app fresh_end
    told app = record { synced = omega arith; newest = tt; met = λ number. tt; place = tt }

none_made : (number : ℕ) → false ≡ is_made 0 number
none_made zero = refl
none_made (suc n) = sym (le-ltb n 0 (omega arith))

dials_begin : DialsAre nothing_opened fresh_site (λ _. false)
dials_begin = record { pairs = pairs; learnt = λ session k. tt; links = λ conn. tt; here = λ conn. refl; node = tt }
  where
    pairs : (app : ℕ) → PairDials nothing_opened fresh_site false app fresh_end
    pairs app = record { made = none_made; left = λ number. tt; each = λ number. tt; rising = λ before number low. tt; now = λ number. tt; still = tt }

link_begins : LinkHolds nothing_opened fresh_site (λ _. false)
link_begins = record { lanes = λ session k. counts; node = tt; apps = λ app alive. way app }
  where
    counts : LaneCounts no_lane
    counts = record { up_taken = omega arith; down_taken = omega arith; no_up = λ none. refl; no_down = λ none. refl; ups = refl; downs = refl }

    way : (app : ℕ) → AppWay nothing_opened fresh_site app fresh_end
    way app = record { window = tt; begun = tt; down = tt }

-- the header of nothing
pub no_header : (es : List Entry) (stays session : ℕ) → IsHeader es stays session (record { n = 0; w = 0; s = 0 })
no_header es stays session = record { within = omega arith; counted = refl; synced = omega arith; below = omega arith }

-- and what nothing was put to
pub none_coherent : (es : List Entry) (stays session : ℕ) → IsCoherent es stays session (record { n = 0; w = 0; s = 0 }) []
none_coherent es stays session = record { first = no_header es stays session; rising = tt; headers = tt; blocks = tt }

coherence_begins : CoherenceHolds nothing_opened fresh_site
coherence_begins = record { lanes = λ session k there. none_coherent _ _ session; node = tt }

fronts_begin : FrontsHold nothing_opened fresh_site (λ _. false)
fronts_begin = record { apps = λ app alive. tt; shown = λ app alive. refl }

-- nothing was put in a round either
pub no_round : (es : List Entry) (session : ℕ) → LaneRound es session no_lane
no_round es session = record { once = omega arith; opened = λ here. refl; awaits = λ learnt awaits. absurd (false≢true learnt); blocks = refl }

rounds_begin : RoundsHold nothing_opened fresh_site (λ _. false)
rounds_begin = record { lanes = λ session k there. no_round _ session; node = tt; apps = λ app alive. tt }

-- nor was a lock asked for
asks_begin : AsksHold fresh_site (λ _. false)
asks_begin = record { lanes = λ session k. record { follow = tt; grants = tt }; node = tt; apps = λ app alive. tt }

-- each job has its own index
index_begins : (l : Layout) (job : ℕ) → ((begin l).job_at job).index ≡ job
index_begins l job = go (nat_lt job (length l.job_apps)) refl
  where
    go : (b : Bool) → nat_lt job (length l.job_apps) ≡ b → ((begin l).job_at job).index ≡ job
    go true there =
        ap (λ (j : JobState). j.index)
        (get_or-map-range_with_len (new_job l) 0 (length l.job_apps) job job (no_job job 0 0) (ltb-true job (length l.job_apps) there) (omega arith))
    go false past =
        ap (λ (j : JobState). j.index)
        (get_or_past (map (new_job l) (range_with_len 0 (length l.job_apps))) job (no_job job 0 0)
        (omega (arith, length-map-range_with_len (new_job l) 0 (length l.job_apps), ltb-false job (length l.job_apps) past)))

commands_begin : (l : Layout) → CommandsHold (begin l)
commands_begin l = record { index = index_begins l; lost = λ app d alive. record { told = tt; below = tt }; asks = λ app d alive. tt }

site_begins : (l : Layout) (d : ℕ) → SiteHolds l d (λ _. false) nothing_opened fresh_site
site_begins l d = record {
  order = order_begins l d;
  ends = ends_begin;
  dials = dials_begin;
  link = link_begins;
  coherence = coherence_begins;
  fronts = fronts_begin;
  rounds = rounds_begin;
  windows = tt;
  asks = asks_begin;
}

pub begin_holds : (l : Layout) → Holds l (begin l)
begin_holds l = record { layout = refl; clock = refl; died = λ app. refl; sites = site_begins l; commands = commands_begin l }
