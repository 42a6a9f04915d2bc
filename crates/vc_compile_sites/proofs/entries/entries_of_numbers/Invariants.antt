use Rattle.std.proofs.Common.{◌≡◌, ◌++◌, drop, map}
use Rattle.vc_compile_plan.specs.Shown.{entry_of_numbers}
use Rattle.vc_compile_sites.specs.Standing.{entry_seen}
use Rattle.vc_compile_sites.proofs.entries.entries_of_numbers.Given as goal

abbrev pub invariant-loop-value : goal.invariant-loop-value
invariant-loop-value l =
    map entry_seen l.entries ++ map entry_of_numbers (drop l.value-index l.values) ≡ map entry_of_numbers l.values
