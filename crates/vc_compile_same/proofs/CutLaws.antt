-- Domains are cut at the same numbers in two models of which the same is seen.
use Rattle.std.proofs.Common.{◌≡◌, if◌then◌else◌, List, [], ◌++◌, map, flat_map, refl, Option, None, Some}
use Rattle.vc_value.specs.declared.decimal.Dec.{Dec}
use Rattle.vc_syntax_tree.specs.declared.Operand.{Operand as OperandLeaf}
use Rattle.vc_syntax_tree.specs.declared.Operand.TheVariants as operands
use Rattle.vc_syntax_tree.specs.Trees.{Relation, Compared, Within, TableCall, Binding, Dependency}
use Rattle.vc_table.specs.declared.table.VariantTable.{VariantTable}
use Rattle.vc_types.specs.Meanings.{Variable}
use Rattle.vc_types.specs.Occurrences.{conditions_in, relations_of, demanded_relations}
use Rattle.vc_compile_plan.specs.Cuts.{all_marks, binding_marks, call_marks, cell_numbers, characteristic_of}
use Rattle.vc_compile_plan.specs.Cuts.{constraint_calls, dependency_marks, domains_from, domains_of, is_equation}
use Rattle.vc_compile_plan.specs.Cuts.{item_numbers, literal_number, marks_at, marks_if, marks_of, relation_marks}
use Rattle.vc_compile_plan.specs.Cuts.{restriction_marks, rounded_mark}
use Rattle.vc_compile_plan.specs.Tables.{column_cells, column_number, table_number}
use Rattle.vc_compile_plan.specs.Terms.{lone_of}
use Rattle.vc_compile_same.specs.Twins.{Laid, Twins, laid_out, other}
use Rattle.vc_compile_same.proofs.NameLaws.{variables_in_same}
use Rattle.vc_compile_same.proofs.SlotLaws.{tree_same}
use Rattle.vc_compile_same.proofs.UseLaws.{used_same}

module _ (t : Twins) where
  named_same : (variables : List Variable) (operand : OperandLeaf)
      → characteristic_of t.one variables operand ≡ characteristic_of (other t) variables operand
  named_same variables (operands.Plain leaf) = refl
  named_same variables (operands.Owned owner leaf) = refl
  named_same variables (operands.Member variable leaf) = refl
  named_same variables (operands.Variable leaf) = refl

  marks_same : (variables : List Variable) (operand : Option OperandLeaf) (numbers : List Dec)
      → marks_of t.one variables operand numbers ≡ marks_of (other t) variables operand numbers
  marks_same variables None numbers = refl
  marks_same variables (Some operand) numbers = λ i. marks_at (named_same variables operand i) numbers

  relation_same : (variables : List Variable) (relation : Relation)
      → relation_marks t.one variables relation ≡ relation_marks (other t) variables relation
  relation_same variables (Compared left relator right) = λ i.
      marks_same variables (lone_of left) (literal_number right) i
      ++ marks_same variables (lone_of right) (literal_number left) i
  relation_same variables (Within operand listed) = marks_same variables (Some operand) (flat_map item_numbers listed)

  restriction_same : (variables : List Variable) (relation : Relation)
      → restriction_marks t.one variables relation ≡ restriction_marks (other t) variables relation
  restriction_same variables relation = λ i.
      relation_same variables relation i
      ++ (if is_equation relation then map (rounded_mark t.one) (relation_same variables relation i) else [])

  binding_same : (tables : List VariantTable) (variables : List Variable) (call : TableCall) (binding : Binding)
      → binding_marks t.one tables variables call binding ≡ binding_marks (other t) tables variables call binding
  binding_same tables variables call binding =
      marks_same variables (lone_of binding.value)
      (flat_map cell_numbers
      (column_cells tables (table_number t.one call.table.name)
      (column_number t.one call.table.name binding.column.name)))

  call_same : (tables : List VariantTable) (variables : List Variable) (call : TableCall)
      → call_marks t.one tables variables call ≡ call_marks (other t) tables variables call
  call_same tables variables call = λ i.
      flat_map (λ binding. binding_same tables variables call binding i) call.bindings

  dependency_same : (tables : List VariantTable) (d : Dependency)
      → dependency_marks t.one tables d ≡ dependency_marks (other t) tables d
  dependency_same tables d = λ i.
      flat_map (λ r. relation_same (variables_in_same t d i) r i) (flat_map relations_of (conditions_in d))
      ++ (flat_map (λ r. restriction_same (variables_in_same t d i) r i) (demanded_relations d)
      ++ flat_map (λ call. call_same tables (variables_in_same t d i) call i) (constraint_calls d))

  marks_if_same : (tables : List VariantTable) (tree : Option Dependency)
      → marks_if t.one tables tree ≡ marks_if (other t) tables tree
  marks_if_same tables None = refl
  marks_if_same tables (Some d) = dependency_same tables d

  all_marks_same : (l : Laid) (tables : List VariantTable)
      → all_marks (laid_out t.one l) tables ≡ all_marks (laid_out (other t) l) tables
  all_marks_same l tables = λ i. flat_map (λ d. marks_if_same tables (tree_same t d i) i) (used_same t l i)

  pub domains_same : (l : Laid) (tables : List VariantTable)
      → domains_of (laid_out t.one l) tables ≡ domains_of (laid_out (other t) l) tables
  domains_same l tables = λ i. domains_from (all_marks_same l tables i) 0 (t.one).characteristics
