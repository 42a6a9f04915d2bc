-- No column before these is given the variable.
use Rattle.std.proofs.Common.{◌≡◌, length}
use Rattle.std.specs.Prelude.{nat_eq}
use Rattle.std.specs.List.{flat_map, list_any}
use Rattle.vc_plan_reasons.specs.Things.{vars_of_column}
use Rattle.vc_net_readers.proofs.touching.is_in_columns.Given as goal

abbrev pub invariant-loop-rest : goal.invariant-loop-rest
invariant-loop-rest l =
    list_any (nat_eq l.var) (flat_map vars_of_column l.rest)
    ≡ list_any (nat_eq l.var) (flat_map vars_of_column l.columns)

abbrev pub decreases-loop-rest : goal.decreases-loop-rest
decreases-loop-rest l = length l.rest
