use Rattle.std.proofs.Common.{◌≡◌, ℕ, List, drop, flat_map}
use Rattle.std.specs.Option.{option_or}
use Rattle.vc_types.specs.Meanings.{variables_of_object}
use Rattle.vc_types_names.specs.FirstNames.{value_of}
use Rattle.vc_types_meanings.specs.Referents.{referent_among}
use Rattle.vc_types_meanings.proofs.variables.referents.Given as goal

abbrev pub invariant-loop-object : goal.invariant-loop-object
invariant-loop-object l = (name : List ℕ) →
    option_or (value_of l.variables name)
    (referent_among (flat_map (variables_of_object l.names.model.now) (drop l.object-index l.objects)) name)
    ≡ referent_among (flat_map (variables_of_object l.names.model.now) l.objects) name
