-- The trails that the examples begin with.
use Rattle.plain_runs.specs.Run.{IsRun}
use Rattle.fit_examples.specs.Groups.{two, met}
use Rattle.fit_examples.specs.Trails.{locked, locked_y, locked_both, locked_shared, kept, kept_within, within, within_more, kept_gone, kept_lost, kept_again, kept_broke, kept_untold, set_one, set_both, set_lost, lost_told, barred}

-- each of them is a run of the plain machine
abbrev pub TrailExamples : Type 0
TrailExamples =
    IsRun two met
    × IsRun two locked
    × IsRun two locked_y
    × IsRun two locked_both
    × IsRun two locked_shared
    × IsRun two kept
    × IsRun two kept_within
    × IsRun two within
    × IsRun two within_more
    × IsRun two kept_gone
    × IsRun two kept_lost
    × IsRun two kept_again
    × IsRun two kept_broke
    × IsRun two kept_untold
    × IsRun two set_one
    × IsRun two set_both
    × IsRun two set_lost
    × IsRun two lost_told
    × IsRun two barred
