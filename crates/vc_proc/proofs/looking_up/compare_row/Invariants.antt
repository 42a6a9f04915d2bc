-- What the keys from here on say is what all say.
use Rattle.std.proofs.Common.{◌≡◌, length}
use Rattle.vc_plan.specs.Parts.{procedure_reading}
use Rattle.vc_proc.specs.LookingUp.{compared_with}
use Rattle.vc_proc.proofs.looking_up.compare_row.Given as goal

abbrev pub invariant-loop-rest : goal.invariant-loop-rest
invariant-loop-rest g l =
    let reading = procedure_reading l.plan (g.R.View.seen l.stage) l.overlay (g.R.Reading.holdings l.stage) in
    compared_with l.plan reading l.rest l.row ≡ compared_with l.plan reading l.keys l.row

abbrev pub decreases-loop-rest : goal.decreases-loop-rest
decreases-loop-rest g l = length l.rest
