-- What the columns from here on say is what all say.
use Rattle.std.proofs.Common.{◌≡◌, length}
use Rattle.vc_rule_table.specs.TableSaid.{has_column}
use Rattle.vc_rule_table.proofs.rows.has_column.Given as goal

abbrev pub invariant-loop-rest : goal.invariant-loop-rest
invariant-loop-rest l = has_column l.rest l.var ≡ has_column l.columns l.var

abbrev pub decreases-loop-rest : goal.decreases-loop-rest
decreases-loop-rest l = length l.rest
