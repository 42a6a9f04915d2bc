-- Faults of names: what isn't there, what stands twice, and whose characteristic may not be meant where the dependency
-- stands.
use Rattle.std.specs.Prelude.{ℕ, Bool, true, false, not, ◌&&◌, ◌||◌, List, [], ◌∷◌, map, length, nat_lt, Option, Some}
use Rattle.std.specs.Prelude.{is_some, is_none}
use Rattle.std.specs.List.{list_any}
use Rattle.std.specs.Str.{bytes_eq}
use Rattle.vc_syntax_tree.specs.declared.Alias.{Alias}
use Rattle.vc_syntax_tree.specs.declared.NameLeaf.{NameLeaf}
use Rattle.vc_syntax_tree.specs.declared.Object.{Object}
use Rattle.vc_syntax_tree.specs.Trees.{Binding, TableCall, Dependency, Constrains}
use Rattle.vc_types.specs.Looking.{member_of, table_named, column_in}
use Rattle.vc_types.specs.Meanings.{class_meant, variable_named}
use Rattle.vc_types.specs.Occurrences.{uses_in, calls_in, parted_names, summed_names, asks_sum}
use Rattle.vc_types.specs.Settings.{Setting, meaning, is_constraint, is_line, has_instance, component_classes}
use Rattle.vc_types.specs.declared.meaning.Meaning.{Meaning}
use Rattle.vc_types.specs.declared.meaning.Meaning.TheVariants as meanings

-- an operand of the dependency has a meaning that passes the test
abbrev pub some_operand : (Meaning → Bool) → Setting → Dependency → Bool
some_operand test setting dependency = list_any (λ u. test (meaning setting u.operand)) (uses_in dependency)

abbrev pub objects_in : Dependency → List Object
objects_in (Constrains constraint) = constraint.objects
objects_in dependency = []

-- unknown: an operand, a class or object, the characteristic of a WHERE, a table or column, a variable of PART_OF, what
-- no component has of which a part sum is asked
abbrev pub is_unknown : Meaning → Bool
is_unknown meanings.Unknown = true
is_unknown meaning = false

abbrev pub is_unknown_alias : Setting → Option ℕ → Alias → Bool
is_unknown_alias setting class alias = is_none (member_of setting.model alias.characteristic.name class)

abbrev pub is_unknown_object : Setting → Object → Bool
is_unknown_object setting object =
    is_none (class_meant setting.model object.kind)
    || list_any (is_unknown_alias setting (class_meant setting.model object.kind)) object.aliases

abbrev pub is_unknown_column : Setting → TableCall → Binding → Bool
is_unknown_column setting call binding =
    is_none (column_in setting.model binding.column.name (table_named setting.model call.table.name))

abbrev pub is_unknown_call : Setting → TableCall → Bool
is_unknown_call setting call =
    is_none (table_named setting.model call.table.name) || list_any (is_unknown_column setting call) call.bindings

abbrev pub is_undeclared : Setting → NameLeaf → Bool
is_undeclared setting leaf = is_constraint setting.place.at && is_none (variable_named setting.variables leaf.name)

abbrev pub is_of_no_part : Setting → NameLeaf → Bool
is_of_no_part setting leaf =
    has_instance setting.place.at
    && not (list_any (λ class. is_some (member_of setting.model leaf.name (Some class))) (component_classes setting))

abbrev pub unknown_name : Setting → Dependency → Bool
unknown_name setting dependency =
    (some_operand is_unknown setting dependency
    || (list_any (is_unknown_object setting) (objects_in dependency)
    || list_any (is_unknown_call setting) (calls_in dependency)))
    || (list_any (is_undeclared setting) (parted_names dependency)
    || list_any (is_of_no_part setting) (summed_names dependency))

-- twice: a variable, or a column in one call
abbrev pub some_twice : List (List ℕ) → Bool
some_twice [] = false
some_twice (name ∷ names) = list_any (bytes_eq name) names || some_twice names

abbrev pub names_column_twice : TableCall → Bool
names_column_twice call = some_twice (map (λ binding. binding.column.name) call.bindings)

abbrev pub double_name : Setting → Dependency → Bool
double_name setting dependency =
    some_twice (map (λ variable. variable.name) setting.variables) || list_any names_column_twice (calls_in dependency)

-- a constraint that speaks of an instance otherwise than by a variable; `$PARENT` at the root; `$SELF` in a line. A
-- part sum
-- speaks of `$SELF`
abbrev pub is_self_in_constraint : Meaning → Bool
is_self_in_constraint meanings.SelfInConstraint = true
is_self_in_constraint meaning = false

abbrev pub self_named : Setting → Dependency → Bool
self_named setting dependency = some_operand is_self_in_constraint setting dependency
    || (is_constraint setting.place.at && asks_sum dependency)

abbrev pub lacks_parent : Meaning → Bool
lacks_parent meanings.NoParent = true
lacks_parent meaning = false

abbrev pub parent_missing : Setting → Dependency → Bool
parent_missing setting dependency = some_operand lacks_parent setting dependency

abbrev pub is_self_in_line : Meaning → Bool
is_self_in_line meanings.SelfInLine = true
is_self_in_line meaning = false

abbrev pub self_of_line : Setting → Dependency → Bool
self_of_line setting dependency = some_operand is_self_in_line setting dependency
    || (is_line setting.place.at && asks_sum dependency)

-- a `?` variable outside a constraint, of PART_OF too
abbrev pub is_variable_outside : Meaning → Bool
is_variable_outside meanings.VariableOutside = true
is_variable_outside meaning = false

abbrev pub has_some : {X : Type 0} → List X → Bool
has_some [] = false
has_some (x ∷ xs) = true

abbrev pub strays : Setting → Dependency → Bool
strays setting dependency =
    some_operand is_variable_outside setting dependency
    || (not (is_constraint setting.place.at) && has_some (parted_names dependency))

-- more than four variables of objects
abbrev pub too_many_objects : Dependency → Bool
too_many_objects dependency = nat_lt 4 (length (objects_in dependency))
