-- What is concluded so far, with the variables from here on, is all; and it is told whether why rows aren't possible is
-- cited.
use Rattle.std.proofs.Common.{◌≡◌, length}
use Rattle.std.specs.Prelude.{flat_map}
use Rattle.std.specs.List.{filter}
use Rattle.vc_rule_premises.specs.Saying.{take_conclusions}
use Rattle.vc_rule_table.specs.TableSaid.{has_column}
use Rattle.vc_rule_table_saying.specs.Calls.{newly, reasons_of}
use Rattle.vc_rule_table_saying.specs.Sharing.{IsCiting, kept}
use Rattle.vc_rule_table_saying.proofs.tables.narrow_all.Given as goal

abbrev pub invariant-loop-rest : goal.invariant-loop-rest
invariant-loop-rest g l =
    let seen = g.V.View.seen in
    (take_conclusions (kept l.base l.out) (flat_map (newly seen l.call) (filter (has_column l.call.columns.now) l.rest))
    ≡ take_conclusions l.fn.out (flat_map (newly seen l.call) (filter (has_column l.call.columns.now) l.vars)))
    × IsCiting l.base (reasons_of seen l.call) l.shared l.out

abbrev pub decreases-loop-rest : goal.decreases-loop-rest
decreases-loop-rest g l = length l.rest
