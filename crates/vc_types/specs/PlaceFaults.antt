-- Faults of place: what may not be asked where the dependency stands.
use Rattle.std.specs.Prelude.{ℕ, ◌==◌, Bool, true, false, not, ◌&&◌, ◌||◌, List, [], ◌∷◌, ◌++◌, flat_map, Option, Some}
use Rattle.std.specs.Prelude.{None}
use Rattle.std.specs.List.{list_any}
use Rattle.vc_model_parts.specs.declared.parts.Table.{Table}
use Rattle.vc_model_parts.specs.declared.parts.TableColumn.{TableColumn}
use Rattle.vc_syntax_tree.specs.declared.Operand.TheVariants.{Owned}
use Rattle.vc_syntax_tree.specs.declared.Owner.TheVariants.{Itself}
use Rattle.vc_syntax_tree.specs.Trees.{Term, Operand}
use Rattle.vc_syntax_tree.specs.Trees.{Condition, Or, And, Not, Related, Specified, PartOf, Binding, TableCall}
use Rattle.vc_syntax_tree.specs.Trees.{Dependency, Precondition, Selection, Procedure, Constrains, Counts}
use Rattle.vc_types.specs.Looking.{characteristic_named, table_named, column_in}
use Rattle.vc_types.specs.NameFaults.{has_some}
use Rattle.vc_types.specs.Occurrences.{if_there, is_literal, Use, uses_in, calls_in, conditions_in}
use Rattle.vc_types.specs.Occurrences.{condition_of_restriction, specified_in, parted_in, asks_sum}
use Rattle.vc_types.specs.Settings.{Setting, meaning, is_constraint, is_set}
use Rattle.vc_types.specs.declared.place.At.{At}
use Rattle.vc_types.specs.declared.place.At.TheVariants as at

-- where the net asks: in a constraint, or at a configurable line
abbrev pub is_for_net : At → Bool
is_for_net at.Constraint = true
is_for_net at.Characteristic = false
is_for_net at.Procedure = false
is_for_net (at.Line configurable) = configurable
is_for_net at.Operation = false

-- SPECIFIED under NOT, however many
abbrev pub denies_specified : Condition → Bool
denies_specified (Or left right) = denies_specified left || denies_specified right
denies_specified (And left right) = denies_specified left || denies_specified right
denies_specified (Not condition) = has_some (specified_in condition)
denies_specified (Related relation) = false
denies_specified (Specified operand) = false
denies_specified (PartOf part whole) = false

abbrev pub uses_set : Setting → Use → Bool
uses_set setting u = is_set setting.model (meaning setting u.operand)

abbrev pub not_monotone : Setting → Dependency → Bool
not_monotone setting dependency =
    is_for_net setting.place.at
    && (list_any denies_specified (conditions_in dependency) || list_any (uses_set setting) (uses_in dependency))

-- a part sum elsewhere than in a procedure
abbrev pub is_procedure : Dependency → Bool
is_procedure (Precondition condition) = false
is_procedure (Selection condition) = false
is_procedure (Procedure statements) = true
is_procedure (Constrains constraint) = false
is_procedure (Counts term) = false

abbrev pub sum_place : Dependency → Bool
sum_place dependency = not (is_procedure dependency) && asks_sum dependency

-- PART_OF elsewhere than as CONDITION, or as one of the parts that AND joins at its top
abbrev pub joined_parts : Condition → List Condition
joined_parts (And left right) = joined_parts left ++ joined_parts right
joined_parts (Or left right) = Or left right ∷ []
joined_parts (Not condition) = Not condition ∷ []
joined_parts (Related relation) = Related relation ∷ []
joined_parts (Specified operand) = Specified operand ∷ []
joined_parts (PartOf part whole) = PartOf part whole ∷ []

abbrev pub asks_part : Condition → Bool
asks_part condition = has_some (parted_in condition)

abbrev pub hides_part : Condition → Bool
hides_part (PartOf part whole) = false
hides_part (Or left right) = asks_part (Or left right)
hides_part (And left right) = asks_part (And left right)
hides_part (Not condition) = asks_part (Not condition)
hides_part (Related relation) = false
hides_part (Specified operand) = false

abbrev pub part_of_place : Dependency → Bool
part_of_place (Precondition condition) = asks_part condition
part_of_place (Selection condition) = asks_part condition
part_of_place (Procedure statements) = list_any asks_part (conditions_in (Procedure statements))
part_of_place (Constrains constraint) =
    list_any hides_part (flat_map joined_parts (if_there (λ c. c ∷ []) constraint.condition))
    || list_any asks_part (flat_map condition_of_restriction constraint.restrictions)
part_of_place (Counts term) = false

-- a term of a constraint's call that is neither a characteristic nor a literal
abbrev pub is_operand : Term → Bool
is_operand (Operand operand) = true
is_operand term = false

abbrev pub is_computed : Binding → Bool
is_computed binding = not (is_literal binding.value) && not (is_operand binding.value)

abbrev pub not_a_term : Setting → Dependency → Bool
not_a_term setting dependency = is_constraint setting.place.at
    && list_any (λ call. list_any is_computed call.bindings) (calls_in dependency)

-- a look-up of a procedure: the columns of a call, keys and others
abbrev pub is_key : Option TableColumn → Bool
is_key None = false
is_key (Some column) = column.key

abbrev pub is_other : Option TableColumn → Bool
is_other None = false
is_other (Some column) = not column.key

abbrev pub bound_column : Setting → TableCall → Binding → Option TableColumn
bound_column setting call binding =
    column_in setting.model binding.column.name (table_named setting.model call.table.name)

-- a key of the table that the call doesn't name
abbrev pub is_number : ℕ → Option ℕ → Bool
is_number c None = false
is_number c (Some d) = c == d

abbrev pub names_column : Setting → TableCall → TableColumn → Bool
names_column setting call column =
    list_any (λ binding. is_number column.characteristic (characteristic_named setting.model binding.column.name))
    call.bindings

abbrev pub lacks_key : Setting → TableCall → TableColumn → Bool
lacks_key setting call column = column.key && not (names_column setting call column)

-- a column that is no key, given something else than a characteristic of the instance
abbrev pub is_own : Term → Bool
is_own (Operand (Owned Itself leaf)) = true
is_own term = false

abbrev pub gives_other : Setting → TableCall → Binding → Bool
gives_other setting call binding = is_other (bound_column setting call binding) && not (is_own binding.value)

abbrev pub looks_up_wrongly : Setting → TableCall → Option Table → Bool
looks_up_wrongly setting call None = false
looks_up_wrongly setting call (Some table) =
    (not (list_any (λ column. column.key) table.columns) || list_any (lacks_key setting call) table.columns)
    || (not (list_any (λ binding. is_other (bound_column setting call binding)) call.bindings)
    || list_any (gives_other setting call) call.bindings)

abbrev pub no_key : Setting → Dependency → Bool
no_key setting dependency =
    is_procedure dependency
    && list_any (λ call. looks_up_wrongly setting call (table_named setting.model call.table.name))
    (calls_in dependency)
