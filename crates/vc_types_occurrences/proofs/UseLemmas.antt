-- What operands mean, of lists that are joined.
use Rattle.std.proofs.Common.{◌≡◌, List, [], ◌∷◌, ◌++◌, map, flat_map, refl, ap, ◌∙◌}
use Rattle.std.proofs.lemmas.List.{map-append}
use Rattle.vc_types.specs.Occurrences.{Use}
use Rattle.vc_types.specs.Settings.{Setting}
use Rattle.vc_types_occurrences.specs.Met.{all_met}
use Rattle.vc_types_occurrences.specs.declared.uses.Use.{Use as Met}

pub met_join : (setting : Setting) (first second : List Use)
    → all_met setting (first ++ second) ≡ all_met setting first ++ all_met setting second
met_join setting first second = map-append _ first second

pub ruleset joins = (met_join, map-append)
