-- What is put so far, with what the numbers to come give, is all of it.
use Rattle.std.proofs.Common.{◌≡◌, ◌+◌, ◌-◌, ◌≤◌, ◌++◌}
use Rattle.std.specs.List.{flat_map, range_with_len}
use Rattle.vc_app_family.specs.Families.{all_characteristics, characteristic_lines}
use Rattle.vc_app_family.proofs.writing.put_characteristics.Given as goal

abbrev pub invariant-loop-place : goal.invariant-loop-place
invariant-loop-place l =
    (l.out ++ flat_map (λ place. characteristic_lines l.values (place + 1)) (range_with_len l.place (l.count - l.place))
    ≡ l.initial.out ++ all_characteristics l.values l.count)
    × (l.place ≤ l.count)
