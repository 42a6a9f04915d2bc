use Rattle.std.proofs.Common.{◌≡◌, ◌≤◌, ◌+◌, drop, length}
use Rattle.std.specs.Str.Lines.{lines}
use Rattle.vc_model_lines.specs.Classified.{lines_from, lines_of}
use Rattle.vc_model_faults.specs.Places.{seen_places}
use Rattle.vc_model_faults.specs.Readings.{seen_readings}
use Rattle.vc_model_faults.proofs.LinesLaws.{IsChecked}
use Rattle.vc_model_faults.proofs.all_lines.find_fault.Given as goal

abbrev pub invariant-lines : goal.invariant-lines
invariant-lines l = record {
  counted : l.line + length l.rest ≤ 1 + length l.text;
  checked : IsChecked (lines_of l.text) (lines_from l.inside (lines l.rest)) l.line l.scope (seen_readings l.readings)
      (seen_places l.text l.places);
  from : l.rest ≡ drop l.start l.text;
  passed : l.start + length l.rest ≡ length l.text;
}

abbrev pub decreases-lines : goal.decreases-lines
decreases-lines l = length l.rest
