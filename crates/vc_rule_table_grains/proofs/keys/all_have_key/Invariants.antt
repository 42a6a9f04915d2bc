-- What the columns from here on say is what all say.
use Rattle.std.proofs.Common.{◌≡◌, length}
use Rattle.vc_plan.specs.TableRows.{columns_of}
use Rattle.vc_rule_table_grains.specs.Keys.{all_have_key}
use Rattle.vc_rule_table_grains.proofs.keys.all_have_key.Given as goal

abbrev pub invariant-loop-rest : goal.invariant-loop-rest
invariant-loop-rest l = all_have_key l.domain (columns_of l.var l.rest) l.row l.key
    ≡ all_have_key l.domain (columns_of l.var l.columns) l.row l.key

abbrev pub decreases-loop-rest : goal.decreases-loop-rest
decreases-loop-rest l = length l.rest
