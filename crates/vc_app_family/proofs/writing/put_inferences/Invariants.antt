-- What is put so far, with what the numbers to come give, is all of it.
use Rattle.std.proofs.Common.{◌≡◌, ◌+◌, ◌-◌, ◌≤◌, ◌++◌}
use Rattle.std.specs.List.{flat_map, range_with_len}
use Rattle.vc_app_family.specs.Families.{inference, inferences}
use Rattle.vc_app_family.proofs.writing.put_inferences.Given as goal

abbrev pub invariant-loop-place : goal.invariant-loop-place
invariant-loop-place l =
    (l.out ++ flat_map (λ place. inference (place + 1)) (range_with_len l.place (l.count - l.place))
    ≡ l.initial.out ++ inferences l.count)
    × (l.place ≤ l.count)
