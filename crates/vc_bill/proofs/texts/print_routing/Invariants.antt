-- What is put so far, with the rows to come, is all of it.
use Rattle.std.proofs.Common.{◌≡◌, ◌++◌, drop}
use Rattle.std.specs.List.{flat_map}
use Rattle.vc_bill.specs.Texts.{routing_row}
use Rattle.vc_bill.proofs.texts.print_routing.Given as goal

abbrev pub invariant-loop-row : goal.invariant-loop-row
invariant-loop-row l = l.out ++ flat_map (routing_row l.plan) (drop l.row-index l.lines)
    ≡ flat_map (routing_row l.plan) l.lines
