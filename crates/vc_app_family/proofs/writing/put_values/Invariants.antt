-- What is put so far, with what the numbers to come give, is all of it.
use Rattle.std.proofs.Common.{◌≡◌, ◌+◌, ◌-◌, ◌≤◌, ◌++◌}
use Rattle.std.specs.List.{flat_map, range_with_len}
use Rattle.vc_app_family.specs.Families.{value_line, value_lines}
use Rattle.vc_app_family.proofs.writing.put_values.Given as goal

abbrev pub invariant-loop-value : goal.invariant-loop-value
invariant-loop-value l =
    (l.out ++ flat_map value_line (range_with_len l.value (l.count - l.value))
    ≡ l.initial.out ++ value_lines l.count)
    × (l.value ≤ l.count)
