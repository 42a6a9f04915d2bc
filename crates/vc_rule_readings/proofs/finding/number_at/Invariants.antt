-- The first from here on is the first of all: those before are of other slots or another characteristic.
use Rattle.std.proofs.Common.{◌≡◌, ◌-◌}
use Rattle.std.specs.Prelude.{length, slice_get}
use Rattle.std.specs.List.{find, range_with_len}
use Rattle.vc_rule_readings.specs.Finding.{first_at, is_at}
use Rattle.vc_rule_readings.proofs.finding.number_at.Given as goal

abbrev pub invariant-loop-number : goal.invariant-loop-number
invariant-loop-number g l =
    find (λ k. is_at g.T.AtSlot.slot_of g.T.AtSlot.characteristic_of l.slot l.characteristic (slice_get l.things k))
    (range_with_len l.number (length l.things - l.number))
    ≡ first_at g.T.AtSlot.slot_of g.T.AtSlot.characteristic_of l.slot l.characteristic l.things
