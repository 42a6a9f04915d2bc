-- What the grains from here on say is what all say.
use Rattle.std.proofs.Common.{◌≡◌, ◌-◌, length}
use Rattle.std.specs.Prelude.{Some}
use Rattle.std.specs.List.{list_any, range_with_len}
use Rattle.vc_plan.specs.Domains.{grains_in, numbers_below}
use Rattle.vc_rule_table.specs.Cells.{grain_holds}
use Rattle.vc_rule_table_saying.proofs.agreed.some_grain_holds.Given as goal

abbrev pub invariant-loop-grain : goal.invariant-loop-grain
invariant-loop-grain l =
    let grains = grains_in (Some l.domain) in
    list_any (grain_holds grains l.value) (range_with_len l.grain (length grains - l.grain))
    ≡ list_any (grain_holds grains l.value) (numbers_below (length grains))
