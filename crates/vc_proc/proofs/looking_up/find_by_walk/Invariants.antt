-- The first of the rows from here on with the keys is the first of all.
use Rattle.std.proofs.Common.{◌≡◌, length}
use Rattle.std.specs.List.{find}
use Rattle.vc_plan.specs.Parts.{procedure_reading}
use Rattle.vc_plan.specs.Statements.{has_keys}
use Rattle.vc_proc.proofs.looking_up.find_by_walk.Given as goal

abbrev pub invariant-loop-rest : goal.invariant-loop-rest
invariant-loop-rest g l =
    let reading = procedure_reading l.plan (g.R.View.seen l.stage) l.overlay (g.R.Reading.holdings l.stage) in
    find (has_keys l.plan reading l.keys) l.rest ≡ find (has_keys l.plan reading l.keys) l.rows

abbrev pub decreases-loop-rest : goal.decreases-loop-rest
decreases-loop-rest g l = length l.rest
