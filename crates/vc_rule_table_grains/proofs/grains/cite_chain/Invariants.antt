-- What is cited so far, with the rows from here on, is all; the row here has the key.
use Rattle.std.proofs.Common.{◌-◌, length}
use Rattle.vc_rule_table_grains.proofs.CallLaws.{IsOn}
use Rattle.vc_rule_table_grains.proofs.grains.cite_chain.Given as goal

abbrev pub invariant-loop-row : goal.invariant-loop-row
invariant-loop-row g l = IsOn g.V.View.seen l.marked.call.now l.grain l.key l.fn.out l.out l.at

abbrev pub decreases-loop-row : goal.decreases-loop-row
decreases-loop-row g l = length l.marked.call.now.rows.now - l.at
