use Rattle.std.proofs.Common.{◌≡◌, drop}
use Rattle.vc_types.specs.Faults.{stands}
use Rattle.vc_types_dependency.specs.Found.{setting_in, tree_in}
use Rattle.vc_types_dependency.specs.Kinds.{least_of}
use Rattle.vc_types_dependency.proofs.faults.first_standing.Given as goal

abbrev pub invariant-loop-kind : goal.invariant-loop-kind
invariant-loop-kind l =
    least_of (stands (setting_in l.found) (tree_in l.found)) (drop l.kind-index l.kinds)
    ≡ least_of (stands (setting_in l.found) (tree_in l.found)) l.kinds
