-- Operands with what they mean.
use Rattle.std.specs.Prelude.{List, map}
use Rattle.vc_types.specs.Occurrences.{Use}
use Rattle.vc_types.specs.Settings.{Setting, meaning}
use Rattle.vc_types_occurrences.specs.declared.uses.Use.{Use as Met}

abbrev pub met : Setting → Use → Met
met setting u = record { meaning = meaning setting u.operand; for_set = u.for_set }

abbrev pub all_met : Setting → List Use → List Met
all_met setting uses = map (met setting) uses
