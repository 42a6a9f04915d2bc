use Rattle.std.proofs.Common.{◌≡◌, ◌++◌, ◌<◌, ◌≤◌, ◌^◌}
use Rattle.vc_value.specs.Numerals.{fraction_digits}
use Rattle.vc_value.proofs.numeral.put_digits.Given as goal

abbrev pub invariant-loop-units : goal.invariant-loop-units
invariant-loop-units l = record {
  so_far : l.text ++ fraction_digits l.places l.units ≡ l.fn.text ++ fraction_digits 6 l.millionths;
  below : l.units < 10 ^ l.places;
  few : l.places ≤ 6;
}

abbrev pub decreases-loop-units : goal.decreases-loop-units
decreases-loop-units l = l.places
