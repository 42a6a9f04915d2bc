-- What is concluded so far, with the grains from here on, is all.
use Rattle.std.proofs.Common.{◌≡◌, ◌-◌}
use Rattle.std.specs.List.{range_with_len}
use Rattle.vc_plan.specs.Domains.{count_of, numbers_below}
use Rattle.vc_rule_premises.specs.Saying.{take_conclusions}
use Rattle.vc_rule_table_grains.specs.Calls.{narrowed}
use Rattle.vc_rule_table_grains.proofs.grains.narrow_each.Given as goal

abbrev pub invariant-loop-grain : goal.invariant-loop-grain
invariant-loop-grain g l =
    let count = count_of l.marked.call.now.plan.now l.marked.call.now.var in
    take_conclusions l.out (narrowed g.V.View.seen l.marked.call.now (range_with_len l.grain (count - l.grain)))
    ≡ take_conclusions l.fn.out (narrowed g.V.View.seen l.marked.call.now (numbers_below count))
