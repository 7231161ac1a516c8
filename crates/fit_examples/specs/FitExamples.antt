-- Whole outputs that do not fit, and acts that name what is not declared.
use Rattle.std.specs.Prelude.{List, [], ◌∷◌}
use Rattle.plain_orders.specs.declared.act.Act.TheVariants.{Opened, Enter, Synced, Met, Issue, Reached, Level, Died}
use Rattle.plain_orders.specs.declared.item.Item.TheVariants.{Commit as CommitItem}
use Rattle.fit_examples.specs.Groups.{two}
use Rattle.plain_orders.specs.declared.entry.Entry.TheVariants.{Opened as OpenEntry, Commit as CommitEntry}
use Rattle.std.specs.Prelude.{◌≡◌}
use Rattle.script_fits.specs.declared.output.Output.{Output}
use Rattle.script_fits.specs.Fits.{Fits}
use Rattle.script_fits.specs.Breaks.{NetCounts}
use Rattle.script_fits.specs.Naming.{IsDeclared}
use Rattle.plain_orders.specs.declared.causes.PairEnd.TheVariants.{App as AppEnd}
use Rattle.fit_examples.specs.Scripts.{declared}
use Rattle.plain_orders.specs.declared.act.Act.TheVariants.{Broke}

-- what is declared
abbrev pub DeclaredExamples : Type 0
DeclaredExamples =
    -- an act of a declared data server
    IsDeclared two (Synced 1 2)
    -- an act of a declared job
    × IsDeclared two (Reached 2 5 1 2)
    -- a foreign data server begins
    × (¬ IsDeclared two (Opened 2 []))
    -- it syncs
    × (¬ IsDeclared two (Synced 2 2))
    -- a session of a foreign application server is opened
    × (¬ IsDeclared two (Enter 0 (OpenEntry 2 2)))
    -- an item of a foreign job enters
    × (¬ IsDeclared two (Enter 0 (CommitEntry 2 1 3 1)))
    -- a foreign application server meets a session
    × (¬ IsDeclared two (Met 2 0 2))
    -- a session is met at a foreign data server
    × (¬ IsDeclared two (Met 0 2 2))
    -- a foreign job issues
    × (¬ IsDeclared two (Issue 3 5 0 1 (CommitItem 1)))
    -- a job issues at a foreign data server
    × (¬ IsDeclared two (Issue 0 5 2 1 (CommitItem 1)))
    -- a foreign job has a level
    × (¬ IsDeclared two (Level 3 5 1))
    -- a connection of a foreign application server breaks
    × (¬ IsDeclared two (Broke 2 0 AppEnd 0))
    -- a foreign application server dies
    × (¬ IsDeclared two (Died 2))

-- whole outputs
abbrev pub FitExamples : Type 0
FitExamples =
    -- four declarations, and no act
    ((nets : List NetCounts) (out : Output) → out.trail ≡ [] → ¬ Fits declared nets out)
    -- the data server begins twice
    × ((nets : List NetCounts) (out : Output) → out.trail ≡ Opened 0 [] ∷ Opened 0 [] ∷ [] → ¬ Fits declared nets out)
    -- a foreign data server acts
    × ((nets : List NetCounts) (out : Output) → out.trail ≡ Opened 0 [] ∷ Synced 1 1 ∷ [] → ¬ Fits declared nets out)
