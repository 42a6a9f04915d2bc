-- Which faults a dependency has at a place, and the least of them.
use Rattle.std.specs.Prelude.{Bool, List, [], ◌∷◌, Option, Some, None, filter}
use Rattle.vc_model_parts.specs.declared.parts.Model.{Model}
use Rattle.vc_syntax_tree.specs.Trees.{Dependency}
use Rattle.vc_types.specs.NameFaults.{unknown_name, double_name, self_named, parent_missing, self_of_line, strays}
use Rattle.vc_types.specs.NameFaults.{too_many_objects}
use Rattle.vc_types.specs.PlaceFaults.{not_monotone, no_key, not_a_term, sum_place, part_of_place}
use Rattle.vc_types.specs.RangeFaults.{range_too_wide}
use Rattle.vc_types.specs.Settings.{Setting, setting_of}
use Rattle.vc_types.specs.SortFaults.{wrong_kind}
use Rattle.vc_types.specs.declared.fault.TypeFaultKind.{TypeFaultKind}
use Rattle.vc_types.specs.declared.fault.TypeFaultKind.TheVariants as kinds
use Rattle.vc_types.specs.declared.place.Place.{Place}

-- whether a fault of the kind stands in the dependency
abbrev pub stands : Setting → Dependency → TypeFaultKind → Bool
stands setting dependency kinds.UnknownName = unknown_name setting dependency
stands setting dependency kinds.DoubleName = double_name setting dependency
stands setting dependency kinds.WrongKind = wrong_kind setting dependency
stands setting dependency kinds.NotMonotone = not_monotone setting dependency
stands setting dependency kinds.SelfInConstraint = self_named setting dependency
stands setting dependency kinds.NoParent = parent_missing setting dependency
stands setting dependency kinds.SelfInLine = self_of_line setting dependency
stands setting dependency kinds.VariableOutside = strays setting dependency
stands setting dependency kinds.NoKey = no_key setting dependency
stands setting dependency kinds.NotATerm = not_a_term setting dependency
stands setting dependency kinds.SumPlace = sum_place dependency
stands setting dependency kinds.RangeTooWide = range_too_wide setting dependency
stands setting dependency kinds.PartOfPlace = part_of_place dependency
stands setting dependency kinds.TooManyObjects = too_many_objects dependency

-- all kinds, the least first
abbrev pub all_kinds : List TypeFaultKind
all_kinds =
    kinds.UnknownName ∷ (kinds.DoubleName
    ∷ (kinds.WrongKind ∷ (kinds.NotMonotone ∷ (kinds.SelfInConstraint ∷ (kinds.NoParent ∷ (kinds.SelfInLine
    ∷ (kinds.VariableOutside
    ∷ (kinds.NoKey ∷ (kinds.NotATerm
    ∷ (kinds.SumPlace ∷ (kinds.RangeTooWide ∷ (kinds.PartOfPlace ∷ (kinds.TooManyObjects ∷ [])))))))))))))

-- the kinds that stand, ascending
abbrev pub faults_of : Model → Place → Dependency → List TypeFaultKind
faults_of model place dependency = filter (stands (setting_of model place dependency) dependency) all_kinds

-- the least kind, if any stands
abbrev pub first_of : List TypeFaultKind → Option TypeFaultKind
first_of [] = None
first_of (kind ∷ kinds) = Some kind

abbrev pub fault_of : Model → Place → Dependency → Option TypeFaultKind
fault_of model place dependency = first_of (faults_of model place dependency)
