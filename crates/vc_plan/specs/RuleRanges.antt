-- That rules and tables name things that the plan has.
use Rattle.std.specs.Prelude.{ℕ, Bool, true, ◌&&◌, ◌==◌, nat_lt, List, length, slice_get, Option, None, Some}
use Rattle.std.specs.List.{list_all}
use Rattle.vc_value.specs.declared.value.Value.{Value}
use Rattle.vc_plan.specs.declared.plans.Plan.{Plan}
use Rattle.vc_plan.specs.declared.plans.Table.{Table}
use Rattle.vc_plan.specs.declared.rules.Binding.{Binding}
use Rattle.vc_plan.specs.declared.rules.Kind.{Kind}
use Rattle.vc_plan.specs.declared.rules.Kind.TheVariants.{Among, Compare, Equate, ByTable, Never, Last, Line}
use Rattle.vc_plan.specs.declared.rules.Operand.{Operand}
use Rattle.vc_plan.specs.declared.rules.Operand.TheVariants.{Constant, Variable}
use Rattle.vc_plan.specs.declared.rules.Restriction.{Restriction}
use Rattle.vc_plan.specs.declared.rules.Restriction.TheVariants.{Against, OneOf}
use Rattle.vc_plan.specs.declared.rules.Rule.{Rule}
use Rattle.vc_plan.specs.Ranges.{is_of, is_of_if, value_there, piece_there}

abbrev pub restriction_there : Plan → Restriction → Bool
restriction_there plan (Against r a) = value_there plan a
restriction_there plan (OneOf pieces) = list_all (piece_there plan) pieces

-- how many columns the table has; none where there is no such table
abbrev pub width_in : Option Table → ℕ
width_in None = 0
width_in (Some table) = length table.columns

abbrev pub width_of : Plan → ℕ → ℕ
width_of plan table = width_in (slice_get plan.tables table)

abbrev pub operand_there : Plan → Operand → Bool
operand_there plan (Constant a) = value_there plan a
operand_there plan (Variable v) = is_of plan.vars v

abbrev pub binding_there : Plan → ℕ → Binding → Bool
binding_there plan table binding = nat_lt binding.column (width_of plan table) && operand_there plan binding.operand

abbrev pub kind_there : Plan → Kind → Bool
kind_there plan (Among v restriction) = is_of plan.vars v && restriction_there plan restriction
kind_there plan (Compare r a b) = is_of plan.terms a && is_of plan.terms b
kind_there plan (Equate a b) = is_of plan.terms a && is_of plan.terms b
kind_there plan (ByTable table columns) = is_of plan.tables table && list_all (binding_there plan table) columns
kind_there plan Never = true
kind_there plan (Last v) = is_of plan.vars v
kind_there plan (Line i) = is_of plan.slots i

abbrev pub rule_there : Plan → Rule → Bool
rule_there plan rule =
    ((is_of_if plan.dependencies rule.dependency && is_of plan.conditions rule.condition)
    && (list_all (is_of plan.slots) rule.slots && list_all (is_of plan.vars) rule.inferred))
    && kind_there plan rule.kind

-- each row has a cell for each column
abbrev pub row_there : Plan → Table → List Value → Bool
row_there plan table row = (length row == length table.columns) && list_all (value_there plan) row

abbrev pub table_there : Plan → Table → Bool
table_there plan table =
    list_all (λ column. is_of plan.characteristics column.characteristic) table.columns
    && list_all (row_there plan table) table.rows
