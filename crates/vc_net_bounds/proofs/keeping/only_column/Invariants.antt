-- The column met, with those from here on, are all.
use Rattle.std.proofs.Common.{◌≡◌, ◌++◌, length}
use Rattle.vc_net_bounds.specs.Keeping.{if_met, own_columns}
use Rattle.vc_net_bounds.proofs.keeping.only_column.Given as goal

abbrev pub invariant-loop-rest : goal.invariant-loop-rest
invariant-loop-rest l = own_columns l.var l.columns ≡ if_met l.met ++ own_columns l.var l.rest

abbrev pub decreases-loop-rest : goal.decreases-loop-rest
decreases-loop-rest l = length l.rest
