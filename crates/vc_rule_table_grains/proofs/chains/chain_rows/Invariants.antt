-- The rows from here on are chained.
use Rattle.vc_plan.specs.TableRows.{columns_of}
use Rattle.vc_rule_table_grains.proofs.ChainLemmas.{IsChained}
use Rattle.vc_rule_table_grains.proofs.chains.chain_rows.Given as goal

abbrev pub invariant-loop-at : goal.invariant-loop-at
invariant-loop-at l = IsChained l.domain (columns_of l.var l.columns) l.rows l.at l.heads l.next

abbrev pub decreases-loop-at : goal.decreases-loop-at
decreases-loop-at l = l.at
