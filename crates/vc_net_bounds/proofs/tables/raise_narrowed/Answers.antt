use Rattle.std.proofs.Common.{sym}
use Rattle.vc_net_bounds.proofs.KindLemmas.{narrowed_not}
use Rattle.vc_net_bounds.proofs.tables.raise_narrowed.Goals as goal

pub returns-else-has_column-clause-is : goal.returns-else-has_column-clause-is
returns-else-has_column-clause-is c =
    narrowed_not c.args.plan.now c.args.table c.args.bound c.args.var c.args.columns.now c.args.bounds.now
    (sym c.if-has_column.ensures)
