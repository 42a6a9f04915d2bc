-- That lines, operations and what stands at characteristics name things that the plan has.
use Rattle.std.specs.Prelude.{Bool, true, ◌&&◌, Option, None, Some}
use Rattle.std.specs.List.{list_all}
use Rattle.vc_plan.specs.declared.conditions.Piece.{Piece}
use Rattle.vc_plan.specs.declared.plans.Guard.{Guard}
use Rattle.vc_plan.specs.declared.plans.Line as bill
use Rattle.vc_plan.specs.declared.plans.Named.{Named}
use Rattle.vc_plan.specs.declared.plans.Named.TheVariants.{Var, Set}
use Rattle.vc_plan.specs.declared.plans.Operation.{Operation}
use Rattle.vc_plan.specs.declared.plans.Plan.{Plan}
use Rattle.vc_plan.specs.declared.plans.Requirement.{Requirement}
use Rattle.vc_plan.specs.declared.plans.Selection.{Selection}
use Rattle.vc_plan.specs.Ranges.{is_of, piece_there}

abbrev pub selection_there : Plan → Selection → Bool
selection_there plan selection = is_of plan.dependencies selection.dependency
    && is_of plan.conditions selection.condition

abbrev pub line_there : Plan → bill.Line → Bool
line_there plan line = is_of plan.slots line.slot
    && (is_of plan.terms line.quantity && list_all (selection_there plan) line.selections)

abbrev pub operation_there : Plan → Operation → Bool
operation_there plan operation =
    is_of plan.slots operation.slot
    && (is_of plan.terms operation.time && list_all (selection_there plan) operation.selections)

abbrev pub named_there : Plan → Named → Bool
named_there plan (Var v) = is_of plan.vars v
named_there plan (Set set) = is_of plan.sets set

abbrev pub piece_there_if : Plan → Option Piece → Bool
piece_there_if plan None = true
piece_there_if plan (Some piece) = piece_there plan piece

abbrev pub guard_there : Plan → Guard → Bool
guard_there plan guard =
    (named_there plan guard.at && piece_there_if plan guard.value)
    && (is_of plan.dependencies guard.dependency && is_of plan.conditions guard.condition)

abbrev pub requirement_there : Plan → Requirement → Bool
requirement_there plan requirement = named_there plan requirement.at && selection_there plan requirement.selection
