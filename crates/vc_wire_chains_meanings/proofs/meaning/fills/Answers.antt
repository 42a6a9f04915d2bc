-- Whether it is one of the columns' variables is whether it is one column's.
use Rattle.std.proofs.Common.{◌∙◌}
use Rattle.vc_wire_chains_meanings.proofs.WritingLemmas.{filled_any}
use Rattle.vc_wire_chains_meanings.proofs.meaning.fills.Goals as goal

pub returns : goal.returns
returns c = c.some_column.ensures ∙ filled_any c.args.filled.now c.args.var
