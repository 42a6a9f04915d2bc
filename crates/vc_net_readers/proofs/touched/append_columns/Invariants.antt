-- The variables so far, with those of the columns from here on, are all.
use Rattle.std.proofs.Common.{◌≡◌, ◌++◌, length}
use Rattle.std.specs.List.{flat_map}
use Rattle.vc_plan_reasons.specs.Things.{vars_of_column}
use Rattle.vc_net_readers.proofs.touched.append_columns.Given as goal

abbrev pub invariant-loop-rest : goal.invariant-loop-rest
invariant-loop-rest l = l.vars ++ flat_map vars_of_column l.rest ≡ l.fn.vars ++ flat_map vars_of_column l.columns

abbrev pub decreases-loop-rest : goal.decreases-loop-rest
decreases-loop-rest l = length l.rest
