-- Examples of what an act changes: what is accepted after it and was refused before, or the other way.
use Rattle.std.specs.Prelude.{Some, [], ◌∷◌}
use Rattle.plain_orders.specs.declared.act.Act.TheVariants.{Read, Grant, Granted, Refused as RefusedAct}
use Rattle.plain_orders.specs.declared.mode.Mode.TheVariants.{Exclusive}
use Rattle.plain_orders.specs.declared.via.Via.TheVariants.{Own}
use Rattle.plain_orders.specs.declared.question.Question.TheVariants.{Get}
use Rattle.plain_orders.specs.declared.refused.Refused.TheVariants.{Network}
use Rattle.plain_orders.specs.declared.refused.ReasonName.TheVariants.{NoWay}
use Rattle.plain_orders.specs.declared.refused.LinkName.TheVariants.{NotConnected}
use Rattle.plain_examples.specs.Leads.{Accepted, MayNotCome}
use Rattle.plain_examples.specs.ChangeLeads.{held_saved, released, held_given, freed, granted_told, granted_back, no_way_met, no_way_issued, seen_cut, seen_told}

-- a release and a free make room for another lock
abbrev pub RoomExamples : Type 0
RoomExamples =
    MayNotCome held_saved (Grant 0 3 1 Exclusive (120 ∷ 0 ∷ []) 4)
    × Accepted released (Grant 0 3 1 Exclusive (120 ∷ 0 ∷ []) 4)
    × MayNotCome held_given (Grant 0 3 1 Exclusive (120 ∷ 0 ∷ []) 3)
    × Accepted freed (Grant 0 3 1 Exclusive (120 ∷ 0 ∷ []) 3)

-- the end of the recovery round drops a grant that was not answered
abbrev pub UnclaimedExamples : Type 0
UnclaimedExamples = Accepted granted_told (Granted 0 5 0 2) × MayNotCome granted_back (Granted 0 5 0 2)

-- a job that acts at the server is not told of an earlier failed connect any more
abbrev pub NewsExamples : Type 0
NewsExamples =
    Accepted no_way_met (RefusedAct 0 6 (Network 0 NotConnected NoWay))
    × MayNotCome no_way_issued (RefusedAct 0 6 (Network 0 NotConnected NoWay))

-- once its session is told of an epoch, a job reads less than it saw
abbrev pub SeenExamples : Type 0
SeenExamples =
    MayNotCome seen_cut (Read 0 7 0 2 Own (Get (120 ∷ 0 ∷ []) (Some (53 ∷ []))))
    × Accepted seen_told (Read 0 7 0 2 Own (Get (120 ∷ 0 ∷ []) (Some (53 ∷ []))))
