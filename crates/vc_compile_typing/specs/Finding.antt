-- The first fault of the typing among what was found so far and what is typed next.
use Rattle.std.specs.Prelude.{List, Option, None, Some, option_map, filter_map, if◌then◌else◌}
use Rattle.vc_model_parts.specs.declared.parts.Model.{Model}
use Rattle.vc_compile_plan.specs.Refusals as refusals
use Rattle.vc_compile_typing.specs.declared.finding.Found.{Found}

-- a fault as the definitions have it
abbrev pub seen : Found → refusals.TypeFault
seen found = record { line = found.line; kind = found.kind }

abbrev pub seen_if : Option Found → Option refusals.TypeFault
seen_if found = option_map seen found

-- the earlier of two faults
abbrev pub first_of_both : Option refusals.TypeFault → Option refusals.TypeFault → Option refusals.TypeFault
first_of_both before None = before
first_of_both None (Some next) = Some next
first_of_both (Some before) (Some next) = Some (if refusals.is_before next before then next else before)

-- the first fault, with what is typed too
abbrev pub first_with : Model → Option refusals.TypeFault → List refusals.Typed → Option refusals.TypeFault
first_with model before typed = first_of_both before (refusals.first_of (filter_map (refusals.fault_at model) typed))
