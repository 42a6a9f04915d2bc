-- What is put so far, with what the numbers to come give, is all of it.
use Rattle.std.proofs.Common.{◌≡◌, ◌+◌, ◌-◌, ◌≤◌, ◌++◌}
use Rattle.std.specs.List.{flat_map, range_with_len}
use Rattle.vc_app_family.specs.Families.{restriction, restrictions_by}
use Rattle.vc_app_family.proofs.writing.put_restrictions_by.Given as goal

abbrev pub invariant-loop-value : goal.invariant-loop-value
invariant-loop-value l =
    (l.out ++ flat_map (restriction l.family l.characteristic)
    (range_with_len l.value (l.count - l.value))
    ≡ l.initial.out ++ restrictions_by l.family l.characteristic)
    × (l.value ≤ l.count)
