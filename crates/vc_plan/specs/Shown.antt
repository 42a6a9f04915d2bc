-- What a user sees of an evaluation: its status, its bill and its routing.
use Rattle.std.specs.Prelude.{List, [], Option, None, Some}
use Rattle.vc_plan.specs.declared.plans.Plan.{Plan}
use Rattle.vc_plan.specs.declared.shown.BillLine.{BillLine}
use Rattle.vc_plan.specs.declared.shown.OperationLine.{OperationLine}
use Rattle.vc_plan.specs.declared.shown.Status.{Status}
use Rattle.vc_plan.specs.Bills.{bill_of, routing_of}
use Rattle.vc_plan.specs.Evaluate.{Evaluated, broken_at, reached, Users, evaluation_of, holds, last_set}
use Rattle.vc_plan.specs.Readings.{Reading, full_reading}
use Rattle.vc_plan.specs.Seen.{Seen, seen_of}
use Rattle.vc_plan.specs.Showing.{settled_status}

-- the reading of a stage's set, with the user's sets
abbrev pub reading_of : Plan → Users → Seen → Reading
reading_of plan users seen = full_reading plan seen (holds users)

-- the bill of an evaluation; a broken one has none
abbrev pub bill_after : Plan → Users → Evaluated → List BillLine
bill_after plan users (broken_at k entries) = []
bill_after plan users (reached sets entries) =
    let seen = seen_of (last_set plan sets) in bill_of plan seen (reading_of plan users seen)

abbrev pub bill : Plan → Users → List BillLine
bill plan users = bill_after plan users (evaluation_of plan users)

-- the routing of an evaluation; a broken one has none
abbrev pub routing_after : Plan → Users → Evaluated → List OperationLine
routing_after plan users (broken_at k entries) = []
routing_after plan users (reached sets entries) =
    let seen = seen_of (last_set plan sets) in routing_of plan seen (reading_of plan users seen)

abbrev pub routing : Plan → Users → List OperationLine
routing plan users = routing_after plan users (evaluation_of plan users)

-- the status of an evaluation that is settled; whom a broken one blames isn't said here
abbrev pub status_after : Plan → Users → Evaluated → Option Status
status_after plan users (broken_at k entries) = None
status_after plan users (reached sets entries) =
    let seen = seen_of (last_set plan sets) in Some (settled_status plan seen (reading_of plan users seen))

abbrev pub status : Plan → Users → Option Status
status plan users = status_after plan users (evaluation_of plan users)
