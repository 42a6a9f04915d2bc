-- The first of the grains from here on is the first of all: those before aren't spelled so.
use Rattle.std.proofs.Common.{◌≡◌, ◌-◌}
use Rattle.std.specs.List.{find, range_with_len}
use Rattle.vc_plan.specs.Domains.{is_grain_with}
use Rattle.vc_wire_chains_lines.specs.Values.{grain_spelled, is_piece}
use Rattle.vc_wire_chains_lines.proofs.values.grain_spelled.Given as goal

abbrev pub invariant-loop-grain : goal.invariant-loop-grain
invariant-loop-grain l =
    find (is_grain_with l.plan l.var (is_piece l.plan l.spelling)) (range_with_len l.grain (l.grain-end - l.grain))
    ≡ grain_spelled l.plan l.var l.spelling
