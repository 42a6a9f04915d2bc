-- What the grains from here on say is what all say.
use Rattle.std.proofs.Common.{◌≡◌, ◌-◌, length}
use Rattle.std.specs.Prelude.{Some}
use Rattle.std.specs.List.{list_any, range_with_len}
use Rattle.vc_plan.specs.Domains.{grains_in, numbers_below}
use Rattle.vc_rule_table.specs.Cells.{holds_left}
use Rattle.vc_rule_table.proofs.cells.has_left_among.Given as goal

abbrev pub invariant-loop-grain : goal.invariant-loop-grain
invariant-loop-grain g l =
    let grains = grains_in (Some l.domain) in
    let test = holds_left grains (g.V.View.seen l.view) l.var l.known l.value in
    list_any test (range_with_len l.grain (length grains - l.grain)) ≡ list_any test (numbers_below (length grains))
