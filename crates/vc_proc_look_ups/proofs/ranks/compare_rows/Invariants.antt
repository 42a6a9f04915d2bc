-- What the columns from here on say is what all say.
use Rattle.std.proofs.Common.{◌≡◌, length}
use Rattle.vc_proc_look_ups.specs.Ranks.{rows_compared}
use Rattle.vc_proc_look_ups.proofs.ranks.compare_rows.Given as goal

abbrev pub invariant-loop-rest : goal.invariant-loop-rest
invariant-loop-rest l = rows_compared l.rest l.row l.other ≡ rows_compared l.columns l.row l.other

abbrev pub decreases-loop-rest : goal.decreases-loop-rest
decreases-loop-rest l = length l.rest
