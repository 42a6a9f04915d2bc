-- Faults of kind: texts and numbers that meet, and what stands where something else belongs.
use Rattle.std.specs.Prelude.{ℕ, Bool, true, false, not, ◌&&◌, ◌||◌, Option, Some, None}
use Rattle.std.specs.List.{list_any}
use Rattle.vc_model_parts.specs.declared.parts.TableColumn.{TableColumn}
use Rattle.vc_syntax_tree.specs.declared.Alias.{Alias}
use Rattle.vc_syntax_tree.specs.declared.Item.{Item}
use Rattle.vc_syntax_tree.specs.declared.Item.TheVariants as items
use Rattle.vc_syntax_tree.specs.declared.NameLeaf.{NameLeaf}
use Rattle.vc_syntax_tree.specs.declared.Object.{Object}
use Rattle.vc_syntax_tree.specs.declared.Operand.TheVariants.{Owned}
use Rattle.vc_syntax_tree.specs.declared.Owner.TheVariants.{Itself}
use Rattle.vc_syntax_tree.specs.Trees.{Term, Number, Text, Operand, Negated, Combined, Applied, SumOfParts}
use Rattle.vc_syntax_tree.specs.Trees.{CountOfParts}
use Rattle.vc_syntax_tree.specs.Trees.{Relation, Compared, Within, Binding, TableCall, Action, Assign, SetDefault}
use Rattle.vc_syntax_tree.specs.Trees.{DelDefault, Calls}
use Rattle.vc_syntax_tree.specs.Trees.{Dependency, Procedure, Counts}
use Rattle.vc_types.specs.Looking.{member_of, table_named, column_in}
use Rattle.vc_types.specs.Meanings.{class_meant, known, referent_of, variable_named}
use Rattle.vc_types.specs.NameFaults.{some_operand, objects_in}
use Rattle.vc_types.specs.Occurrences.{is_equality, Use, uses_in, calls_in, relations_in, terms_in, parted_names}
use Rattle.vc_types.specs.Occurrences.{summed_names}
use Rattle.vc_types.specs.Settings.{Setting, meaning, is_constraint, has_instance, sort_of_characteristic, sort_meant}
use Rattle.vc_types.specs.Settings.{is_set, component_classes}
use Rattle.vc_types.specs.declared.meaning.Meaning.{Meaning}
use Rattle.vc_types.specs.declared.meaning.Meaning.TheVariants as meanings
use Rattle.vc_types.specs.declared.meaning.Referent.{Referent}
use Rattle.vc_types.specs.declared.meaning.Referent.TheVariants as referents
use Rattle.vc_types.specs.declared.meaning.Sort.{Sort}
use Rattle.vc_types.specs.declared.meaning.Sort.TheVariants.{Texts as of_texts, Numbers as of_numbers}

-- the sort of a term; none of an operand that means no characteristic
abbrev pub sort_of : Setting → Term → Option Sort
sort_of setting (Number leaf) = Some of_numbers
sort_of setting (Text leaf) = Some of_texts
sort_of setting (Operand operand) = sort_meant setting.model (meaning setting operand)
sort_of setting (Negated term) = Some of_numbers
sort_of setting (Combined left operator right) = Some of_numbers
sort_of setting (Applied function term) = Some of_numbers
sort_of setting (SumOfParts name) = Some of_numbers
sort_of setting CountOfParts = Some of_numbers

abbrev pub is_text : Option Sort → Bool
is_text None = false
is_text (Some of_texts) = true
is_text (Some of_numbers) = false

abbrev pub is_number : Option Sort → Bool
is_number None = false
is_number (Some of_texts) = false
is_number (Some of_numbers) = true

-- a text meets a number
abbrev pub differ : Option Sort → Option Sort → Bool
differ a b = (is_text a && is_number b) || (is_number a && is_text b)

abbrev pub sort_of_item : Item → Option Sort
sort_of_item (items.Text leaf) = Some of_texts
sort_of_item (items.Number number) = Some of_numbers
sort_of_item (items.Interval low high) = Some of_numbers

-- a relation in which a text meets a number, or an order a text
abbrev pub relates_wrongly : Setting → Relation → Bool
relates_wrongly setting (Compared left relator right) =
    differ (sort_of setting left) (sort_of setting right)
    || (not (is_equality relator) && (is_text (sort_of setting left) || is_text (sort_of setting right)))
relates_wrongly setting (Within operand listed) =
    list_any (λ item. differ (sort_meant setting.model (meaning setting operand)) (sort_of_item item)) listed

-- arithmetic meets a text
abbrev pub computes_with_text : Setting → Term → Bool
computes_with_text setting (Number leaf) = false
computes_with_text setting (Text leaf) = false
computes_with_text setting (Operand operand) = false
computes_with_text setting (Negated term) = is_text (sort_of setting term) || computes_with_text setting term
computes_with_text setting (Combined left operator right) =
    (is_text (sort_of setting left) || is_text (sort_of setting right))
    || (computes_with_text setting left || computes_with_text setting right)
computes_with_text setting (Applied function term) = is_text (sort_of setting term) || computes_with_text setting term
computes_with_text setting (SumOfParts name) = false
computes_with_text setting CountOfParts = false

-- a characteristic that is given a value of the other sort
abbrev pub gives_wrongly : Setting → NameLeaf → Term → Bool
gives_wrongly setting name term =
    differ (sort_meant setting.model (meaning setting (Owned Itself name))) (sort_of setting term)

abbrev pub acts_wrongly : Setting → Action → Bool
acts_wrongly setting (Assign name term) = gives_wrongly setting name term
acts_wrongly setting (SetDefault name term) = gives_wrongly setting name term
acts_wrongly setting (DelDefault name term) = gives_wrongly setting name term
acts_wrongly setting (Calls call) = false

-- a quantity or a time that is a text
abbrev pub acts_or_counts_wrongly : Setting → Dependency → Bool
acts_or_counts_wrongly setting (Procedure statements) =
    list_any (λ statement. acts_wrongly setting statement.action) statements
acts_or_counts_wrongly setting (Counts term) = is_text (sort_of setting term)
acts_or_counts_wrongly setting dependency = false

-- a column that meets a value of the other sort
abbrev pub sort_of_column : Setting → Option TableColumn → Option Sort
sort_of_column setting None = None
sort_of_column setting (Some column) = sort_of_characteristic setting.model column.characteristic

abbrev pub binds_wrongly : Setting → TableCall → Binding → Bool
binds_wrongly setting call binding =
    differ (sort_of_column setting
    (column_in setting.model binding.column.name (table_named setting.model call.table.name)))
    (sort_of setting binding.value)

abbrev pub calls_wrongly : Setting → TableCall → Bool
calls_wrongly setting call = list_any (binds_wrongly setting call) call.bindings

-- a variable of an object for a value, or one of a value for an object
abbrev pub is_other_variable : Meaning → Bool
is_other_variable meanings.ObjectForValue = true
is_other_variable meanings.ValueForObject = true
is_other_variable meaning = false

abbrev pub is_value_variable : Option Referent → Bool
is_value_variable None = false
is_value_variable (Some (referents.Object class)) = false
is_value_variable (Some (referents.Value c)) = true

abbrev pub parts_a_value : Setting → NameLeaf → Bool
parts_a_value setting leaf = is_constraint setting.place.at
    && is_value_variable (referent_of (variable_named setting.variables leaf.name))

-- a set where a single value belongs: as an operand, or behind WHERE
abbrev pub misuses_set : Setting → Use → Bool
misuses_set setting u = not u.for_set && is_set setting.model (meaning setting u.operand)

abbrev pub aliases_set : Setting → Option ℕ → Alias → Bool
aliases_set setting class alias = is_set setting.model (known (member_of setting.model alias.characteristic.name class))

abbrev pub declares_set : Setting → Object → Bool
declares_set setting object = list_any (aliases_set setting (class_meant setting.model object.kind)) object.aliases

-- a part sum of texts
abbrev pub sums_texts : Setting → NameLeaf → Bool
sums_texts setting leaf =
    has_instance setting.place.at
    && list_any (λ class. is_text (sort_meant setting.model (known (member_of setting.model leaf.name (Some class)))))
    (component_classes setting)

abbrev pub wrong_kind : Setting → Dependency → Bool
wrong_kind setting dependency =
    ((list_any (relates_wrongly setting) (relations_in dependency)
    || list_any (computes_with_text setting) (terms_in dependency))
    || (acts_or_counts_wrongly setting dependency || list_any (calls_wrongly setting) (calls_in dependency)))
    || ((some_operand is_other_variable setting dependency
    || list_any (parts_a_value setting) (parted_names dependency))
    || ((list_any (misuses_set setting) (uses_in dependency) || list_any (declares_set setting) (objects_in dependency))
    || list_any (sums_texts setting) (summed_names dependency)))
