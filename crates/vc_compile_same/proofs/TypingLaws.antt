-- A dependency has the same faults at a place in two models of which the same is seen.
use Rattle.std.proofs.Common.{◌≡◌, ℕ, Bool, not, ◌&&◌, ◌||◌, List, refl, Option, None, Some}
use Rattle.std.specs.Prelude.{is_none, is_some}
use Rattle.std.specs.List.{filter, list_any}
use Rattle.vc_model_parts.specs.declared.parts.Table.{Table}
use Rattle.vc_model_parts.specs.declared.parts.TableColumn.{TableColumn}
use Rattle.vc_syntax_tree.specs.declared.Alias.{Alias}
use Rattle.vc_syntax_tree.specs.declared.NameLeaf.{NameLeaf}
use Rattle.vc_syntax_tree.specs.declared.Object.{Object}
use Rattle.vc_syntax_tree.specs.declared.Operand.{Operand as Name}
use Rattle.vc_syntax_tree.specs.declared.Operand.TheVariants.{Owned}
use Rattle.vc_syntax_tree.specs.declared.Owner.TheVariants.{Itself}
use Rattle.vc_syntax_tree.specs.Trees.{Term, Number, Text, Operand, Negated, Combined, Applied, SumOfParts}
use Rattle.vc_syntax_tree.specs.Trees.{CountOfParts, Relation, Compared, Within, Binding, TableCall, Action, Assign}
use Rattle.vc_syntax_tree.specs.Trees.{SetDefault, DelDefault, Calls}
use Rattle.vc_syntax_tree.specs.Trees.{Dependency, Precondition, Selection, Procedure, Constrains, Counts}
use Rattle.vc_types.specs.Faults.{all_kinds, fault_of, first_of, stands}
use Rattle.vc_types.specs.Looking.{column_in, member_of, table_named}
use Rattle.vc_types.specs.Meanings.{Variable, known}
use Rattle.vc_types.specs.NameFaults.{has_some, is_of_no_part, is_self_in_constraint, is_self_in_line, is_undeclared}
use Rattle.vc_types.specs.NameFaults.{is_unknown, is_unknown_call, is_unknown_object, is_variable_outside, lacks_parent}
use Rattle.vc_types.specs.NameFaults.{objects_in, parent_missing, self_named, self_of_line, some_operand, strays}
use Rattle.vc_types.specs.NameFaults.{unknown_name}
use Rattle.vc_types.specs.Occurrences.{Use, asks_sum, calls_in, conditions_in, is_equality, parted_names, relations_in}
use Rattle.vc_types.specs.Occurrences.{summed_names, terms_in, uses_in}
use Rattle.vc_types.specs.PlaceFaults.{denies_specified, is_for_net, is_procedure, looks_up_wrongly, no_key}
use Rattle.vc_types.specs.PlaceFaults.{not_monotone}
use Rattle.vc_types.specs.RangeFaults.{applied_size, combined_load, combined_size, gets_too_large, is_too_large}
use Rattle.vc_types.specs.RangeFaults.{range_too_wide, size_meant, size_of}
use Rattle.vc_types.specs.Settings.{Setting, component_classes, has_instance, is_constraint, is_line, is_set, meaning}
use Rattle.vc_types.specs.Settings.{sort_meant, variables_in}
use Rattle.vc_types.specs.SortFaults.{acts_or_counts_wrongly, acts_wrongly, binds_wrongly, calls_wrongly}
use Rattle.vc_types.specs.SortFaults.{computes_with_text, declares_set, differ, gives_wrongly, is_other_variable}
use Rattle.vc_types.specs.SortFaults.{is_text, misuses_set, parts_a_value, relates_wrongly, sort_of, sort_of_column}
use Rattle.vc_types.specs.SortFaults.{sort_of_item, sums_texts, wrong_kind}
use Rattle.vc_types.specs.declared.fault.TypeFaultKind.{TypeFaultKind}
use Rattle.vc_types.specs.declared.fault.TypeFaultKind.TheVariants as kinds
use Rattle.vc_types.specs.declared.meaning.Meaning.{Meaning}
use Rattle.vc_types.specs.declared.meaning.Meaning.TheVariants as meanings
use Rattle.vc_types.specs.declared.place.Place.{Place}
use Rattle.vc_compile_same.specs.Twins.{Twins, other, set_in}
use Rattle.vc_compile_same.proofs.NameLaws.{class_meant_same, component_classes_same, is_set_same, meaning_same}
use Rattle.vc_compile_same.proofs.NameLaws.{member_of_same, sort_meant_same, variables_in_same}

module _ (t : Twins) (place : Place) (variables : List Variable) where
  abbrev here : Setting
  here = set_in t.one place variables

  abbrev there : Setting
  there = set_in (other t) place variables

  means : (operand : Name) → meaning here operand ≡ meaning there operand
  means operand = meaning_same t place variables operand

  sort_means : (operand : Name) → sort_meant t.one (meaning here operand) ≡ sort_meant (other t) (meaning there operand)
  sort_means operand = λ i. sort_meant_same t (means operand i) i

  set_means : (operand : Name) → is_set t.one (meaning here operand) ≡ is_set (other t) (meaning there operand)
  set_means operand = λ i. is_set_same t (means operand i) i

  classes : component_classes here ≡ component_classes there
  classes = component_classes_same t place variables

  -- names
  operand_same : (test : Meaning → Bool) (d : Dependency) → some_operand test here d ≡ some_operand test there d
  operand_same test d = λ i. list_any (λ u. test (means u.operand i)) (uses_in d)

  alias_same : (class : Option ℕ) (alias : Alias)
      → is_none (member_of t.one alias.characteristic.name class)
      ≡ is_none (member_of (other t) alias.characteristic.name class)
  alias_same class alias = λ i. is_none (member_of_same t alias.characteristic.name class i)

  object_same : (object : Object) → is_unknown_object here object ≡ is_unknown_object there object
  object_same object = λ i.
      is_none (class_meant_same t object.kind i)
      || list_any (λ alias. alias_same (class_meant_same t object.kind i) alias i) object.aliases

  no_part_same : (leaf : NameLeaf) → is_of_no_part here leaf ≡ is_of_no_part there leaf
  no_part_same leaf = λ i.
      has_instance place.at
      && not (list_any (λ class. is_some (member_of t.one leaf.name (Some class))) (classes i))

  unknown_same : (d : Dependency) → unknown_name here d ≡ unknown_name there d
  unknown_same d = λ i.
      (operand_same is_unknown d i
      || (list_any (λ object. object_same object i) (objects_in d) || list_any (is_unknown_call here) (calls_in d)))
      || (list_any (is_undeclared here) (parted_names d) || list_any (λ leaf. no_part_same leaf i) (summed_names d))

  self_named_same : (d : Dependency) → self_named here d ≡ self_named there d
  self_named_same d = λ i. operand_same is_self_in_constraint d i || (is_constraint place.at && asks_sum d)

  parent_same : (d : Dependency) → parent_missing here d ≡ parent_missing there d
  parent_same d = operand_same lacks_parent d

  line_same : (d : Dependency) → self_of_line here d ≡ self_of_line there d
  line_same d = λ i. operand_same is_self_in_line d i || (is_line place.at && asks_sum d)

  strays_same : (d : Dependency) → strays here d ≡ strays there d
  strays_same d = λ i.
      operand_same is_variable_outside d i || (not (is_constraint place.at) && has_some (parted_names d))

  -- places
  monotone_same : (d : Dependency) → not_monotone here d ≡ not_monotone there d
  monotone_same d = λ i.
      is_for_net place.at
      && (list_any denies_specified (conditions_in d) || list_any (λ u. set_means u.operand i) (uses_in d))

  looks_up_same : (call : TableCall) (table : Option Table)
      → looks_up_wrongly here call table ≡ looks_up_wrongly there call table
  looks_up_same call None = refl
  looks_up_same call (Some table) = refl

  key_same : (d : Dependency) → no_key here d ≡ no_key there d
  key_same d = λ i.
      is_procedure d && list_any (λ call. looks_up_same call (table_named t.one call.table.name) i) (calls_in d)

  -- ranges
  size_meant_same : (m : Meaning) → size_meant t.one m ≡ size_meant (other t) m
  size_meant_same (meanings.Characteristic c) = refl
  size_meant_same m = refl

  size_same : (term : Term) → size_of here term ≡ size_of there term
  size_same (Number leaf) = refl
  size_same (Text leaf) = refl
  size_same (Operand operand) = λ i. size_meant_same (means operand i) i
  size_same (Negated term) = size_same term
  size_same (Combined left operator right) = λ i. combined_size operator (size_same left i) (size_same right i)
  size_same (Applied function term) = λ i. applied_size function (size_same term i)
  size_same (SumOfParts name) = refl
  size_same CountOfParts = refl

  too_large_same : (term : Term) → gets_too_large here term ≡ gets_too_large there term
  too_large_same (Number leaf) = refl
  too_large_same (Text leaf) = refl
  too_large_same (Operand operand) = refl
  too_large_same (Negated term) = too_large_same term
  too_large_same (Combined left operator right) = λ i.
      (is_too_large (combined_load operator (size_same left i) (size_same right i))
      || is_too_large (combined_size operator (size_same left i) (size_same right i)))
      || (too_large_same left i || too_large_same right i)
  too_large_same (Applied function term) = λ i.
      is_too_large (applied_size function (size_same term i)) || too_large_same term i
  too_large_same (SumOfParts name) = refl
  too_large_same CountOfParts = refl

  range_same : (d : Dependency) → range_too_wide here d ≡ range_too_wide there d
  range_same d = λ i. list_any (λ term. too_large_same term i) (terms_in d)

  -- sorts
  sort_same : (term : Term) → sort_of here term ≡ sort_of there term
  sort_same (Number leaf) = refl
  sort_same (Text leaf) = refl
  sort_same (Operand operand) = sort_means operand
  sort_same (Negated term) = refl
  sort_same (Combined left operator right) = refl
  sort_same (Applied function term) = refl
  sort_same (SumOfParts name) = refl
  sort_same CountOfParts = refl

  relates_same : (relation : Relation) → relates_wrongly here relation ≡ relates_wrongly there relation
  relates_same (Compared left relator right) = λ i.
      differ (sort_same left i) (sort_same right i)
      || (not (is_equality relator) && (is_text (sort_same left i) || is_text (sort_same right i)))
  relates_same (Within operand listed) = λ i.
      list_any (λ item. differ (sort_means operand i) (sort_of_item item)) listed

  computes_same : (term : Term) → computes_with_text here term ≡ computes_with_text there term
  computes_same (Number leaf) = refl
  computes_same (Text leaf) = refl
  computes_same (Operand operand) = refl
  computes_same (Negated term) = λ i. is_text (sort_same term i) || computes_same term i
  computes_same (Combined left operator right) = λ i.
      (is_text (sort_same left i) || is_text (sort_same right i)) || (computes_same left i || computes_same right i)
  computes_same (Applied function term) = λ i. is_text (sort_same term i) || computes_same term i
  computes_same (SumOfParts name) = refl
  computes_same CountOfParts = refl

  gives_same : (name : NameLeaf) (term : Term) → gives_wrongly here name term ≡ gives_wrongly there name term
  gives_same name term = λ i. differ (sort_means (Owned Itself name) i) (sort_same term i)

  acts_same : (action : Action) → acts_wrongly here action ≡ acts_wrongly there action
  acts_same (Assign name term) = gives_same name term
  acts_same (SetDefault name term) = gives_same name term
  acts_same (DelDefault name term) = gives_same name term
  acts_same (Calls call) = refl

  acts_or_counts_same : (d : Dependency) → acts_or_counts_wrongly here d ≡ acts_or_counts_wrongly there d
  acts_or_counts_same (Precondition condition) = refl
  acts_or_counts_same (Selection condition) = refl
  acts_or_counts_same (Procedure statements) = λ i. list_any (λ statement. acts_same statement.action i) statements
  acts_or_counts_same (Constrains constraint) = refl
  acts_or_counts_same (Counts term) = λ i. is_text (sort_same term i)

  column_same : (column : Option TableColumn) → sort_of_column here column ≡ sort_of_column there column
  column_same None = refl
  column_same (Some column) = refl

  binds_same : (call : TableCall) (binding : Binding)
      → binds_wrongly here call binding ≡ binds_wrongly there call binding
  binds_same call binding = λ i.
      differ (column_same (column_in t.one binding.column.name (table_named t.one call.table.name)) i)
      (sort_same binding.value i)

  calls_same : (call : TableCall) → calls_wrongly here call ≡ calls_wrongly there call
  calls_same call = λ i. list_any (λ binding. binds_same call binding i) call.bindings

  misuses_same : (u : Use) → misuses_set here u ≡ misuses_set there u
  misuses_same u = λ i. not u.for_set && set_means u.operand i

  aliased_same : (class : Option ℕ) (alias : Alias)
      → is_set t.one (known (member_of t.one alias.characteristic.name class))
      ≡ is_set (other t) (known (member_of (other t) alias.characteristic.name class))
  aliased_same class alias = λ i. is_set_same t (known (member_of_same t alias.characteristic.name class i)) i

  declares_same : (object : Object) → declares_set here object ≡ declares_set there object
  declares_same object = λ i.
      list_any (λ alias. aliased_same (class_meant_same t object.kind i) alias i) object.aliases

  summed_same : (leaf : NameLeaf) (class : ℕ)
      → is_text (sort_meant t.one (known (member_of t.one leaf.name (Some class))))
      ≡ is_text (sort_meant (other t) (known (member_of (other t) leaf.name (Some class))))
  summed_same leaf class = λ i. is_text (sort_meant_same t (known (member_of t.one leaf.name (Some class))) i)

  sums_same : (leaf : NameLeaf) → sums_texts here leaf ≡ sums_texts there leaf
  sums_same leaf = λ i. has_instance place.at && list_any (λ class. summed_same leaf class i) (classes i)

  kind_same : (d : Dependency) → wrong_kind here d ≡ wrong_kind there d
  kind_same d = λ i.
      ((list_any (λ relation. relates_same relation i) (relations_in d)
      || list_any (λ term. computes_same term i) (terms_in d))
      || (acts_or_counts_same d i || list_any (λ call. calls_same call i) (calls_in d)))
      || ((operand_same is_other_variable d i || list_any (parts_a_value here) (parted_names d))
      || ((list_any (λ u. misuses_same u i) (uses_in d) || list_any (λ object. declares_same object i) (objects_in d))
      || list_any (λ leaf. sums_same leaf i) (summed_names d)))

  -- each kind of fault
  stands_same : (d : Dependency) (kind : TypeFaultKind) → stands here d kind ≡ stands there d kind
  stands_same d kinds.UnknownName = unknown_same d
  stands_same d kinds.DoubleName = refl
  stands_same d kinds.WrongKind = kind_same d
  stands_same d kinds.NotMonotone = monotone_same d
  stands_same d kinds.SelfInConstraint = self_named_same d
  stands_same d kinds.NoParent = parent_same d
  stands_same d kinds.SelfInLine = line_same d
  stands_same d kinds.VariableOutside = strays_same d
  stands_same d kinds.NoKey = key_same d
  stands_same d kinds.NotATerm = refl
  stands_same d kinds.SumPlace = refl
  stands_same d kinds.RangeTooWide = range_same d
  stands_same d kinds.PartOfPlace = refl
  stands_same d kinds.TooManyObjects = refl

-- the least of the kinds that pass a test
least_same : (p q : TypeFaultKind → Bool) → ((kind : TypeFaultKind) → p kind ≡ q kind) → (ks : List TypeFaultKind)
    → first_of (filter p ks) ≡ first_of (filter q ks)
least_same p q same ks = λ i. first_of (filter (λ kind. same kind i) ks)

pub fault_same : (t : Twins) (place : Place) (d : Dependency) → fault_of t.one place d ≡ fault_of (other t) place d
fault_same t place d =
    least_same (stands (set_in t.one place (variables_in t.one d)) d)
    (stands (set_in (other t) place (variables_in (other t) d)) d)
    (λ kind. λ i. stands_same t place (variables_in_same t d i) d kind i) all_kinds
