-- Plans that a model has: what every call may take for granted.
use Rattle.std.specs.Prelude.{◌≡◌, ℕ, ◌^◌, Bool, true, false, not, ◌&&◌, ◌||◌, ◌==◌, nat_lt, nat_le, List, drop, length}
use Rattle.std.specs.Prelude.{slice_get, Option, None, Some, IsUtf8}
use Rattle.std.specs.List.{list_all}
use Rattle.vc_value.specs.Words.{same_bytes}
use Rattle.vc_plan.specs.declared.conditions.Condition.{Condition}
use Rattle.vc_plan.specs.declared.plans.Characteristic.{Characteristic}
use Rattle.vc_plan.specs.declared.plans.Line.{Line}
use Rattle.vc_plan.specs.declared.plans.Operation.{Operation}
use Rattle.vc_plan.specs.declared.plans.Plan.{Plan}
use Rattle.vc_plan.specs.declared.procedures.Statement.{Statement}
use Rattle.vc_plan.specs.declared.terms.Term.{Term}
use Rattle.vc_plan.specs.Alike.{are_of_one_domain, sets_of_one_domain, is_proper, have_one_bill, have_one_routing}
use Rattle.vc_plan.specs.Alike.{lines_at, operations_at}
use Rattle.vc_plan.specs.Bounds.{cell_bound}
use Rattle.vc_plan.specs.Classes.{has_sets, has_its_vars, has_its_sets, are_procedures_in_order, are_guards_in_order}
use Rattle.vc_plan.specs.Cuts.{is_cut}
use Rattle.vc_plan.specs.Domains.{numbers_below, grains_in, texts_in, count_of, atom_count}
use Rattle.vc_plan.specs.Lists.{has_its_list, has_its_texts, are_listed}
use Rattle.vc_plan.specs.PartSums.{sums_numbers, condition_sums_numbers}
use Rattle.vc_plan.specs.Ranges.{characteristic_there, object_there, slot_there, var_there, set_there, domain_there}
use Rattle.vc_plan.specs.Ranges.{condition_there, term_there}
use Rattle.vc_plan.specs.RuleRanges.{rule_there, table_there}
use Rattle.vc_plan.specs.ProcedureRanges.{procedure_there}
use Rattle.vc_plan.specs.BillRanges.{line_there, operation_there, guard_there, requirement_there}
use Rattle.vc_plan.specs.Orders.{are_apart, are_in_order}
use Rattle.vc_plan.specs.Slots.{is_root, is_below, follows_in_preorder, is_item_before, has_its_slots}
use Rattle.vc_plan.specs.RuleShapes.{stays_at_its_slots, is_numbered, has_one_last, has_its_lines, are_one_rule}
use Rattle.vc_plan.specs.RuleShapes.{are_one_line, are_with_and_without, asks_by_right, columns_once, is_not_among}
use Rattle.vc_plan.specs.LookUps.{writes_own, action_proper, keys_apart, trigger_listed, guard_listed}
use Rattle.vc_plan.specs.Outside.{conditions_outside, terms_outside}
use Rattle.vc_plan.specs.Scopes.{reads_own, guard_own, requirement_own, operation_own, line_own, rule_own}
use Rattle.vc_plan.specs.Spelling.{is_upper_name, is_material, is_unit, is_text, is_graphic}
use Rattle.vc_plan.specs.Typing.{is_numeric, condition_typed, kind_typed, statement_typed}
use Rattle.vc_plan.specs.Monotone.{has_part_sum, condition_sums, is_for_nets}
use Rattle.vc_plan.specs.Sizes.{is_small, condition_small}

-- whether all slots, all variables and all statements pass a test
abbrev pub each_slot : Plan → (ℕ → Bool) → Bool
each_slot plan test = list_all test (numbers_below (length plan.slots))

abbrev pub each_var : Plan → (ℕ → Bool) → Bool
each_var plan test = list_all test (numbers_below (length plan.vars))

abbrev pub each_statement : Plan → (Statement → Bool) → Bool
each_statement plan test = list_all (λ procedure. list_all test procedure.statements) plan.procedures

-- whether a condition, and whether a term, is there and passes a test
abbrev pub condition_passes : (Condition → Bool) → Option Condition → Bool
condition_passes test None = false
condition_passes test (Some c) = test c

abbrev pub asks : Plan → (Condition → Bool) → ℕ → Bool
asks plan test c = condition_passes test (slice_get plan.conditions c)

abbrev pub term_passes : (Term → Bool) → Option Term → Bool
term_passes test None = false
term_passes test (Some term) = test term

abbrev pub means : Plan → (Term → Bool) → ℕ → Bool
means plan test term = term_passes test (slice_get plan.terms term)

-- lines by slot and item, operations by slot and number
abbrev pub is_line_before : Line → Line → Bool
is_line_before a b = nat_lt a.slot b.slot || ((a.slot == b.slot) && nat_lt a.item b.item)

abbrev pub is_operation_before : Operation → Operation → Bool
is_operation_before a b = nat_lt a.slot b.slot || ((a.slot == b.slot) && nat_lt a.number b.number)

-- whether no text of the list has a control character, and how long the list is
abbrev pub has_graphic_texts : Plan → Characteristic → Bool
has_graphic_texts plan characteristic =
    list_all (λ t. is_graphic (slice_get plan.texts t)) (texts_in (Some characteristic.list))

abbrev pub list_length : Characteristic → ℕ
list_length characteristic = length (grains_in (Some characteristic.list))

-- whether four digits are enough for a number
abbrev pub is_four_digits : ℕ → Bool
is_four_digits n = nat_lt n 10_000

-- all that a plan keeps
pub record IsValid (plan : Plan) : Type 0 where
  -- every number is that of a thing that the plan has
  pub characteristics_there : list_all (characteristic_there plan) plan.characteristics ≡ true
  pub objects_there : list_all (object_there plan) plan.objects ≡ true
  pub slots_there : list_all (slot_there plan) plan.slots ≡ true
  pub vars_there : list_all (var_there plan) plan.vars ≡ true
  pub sets_there : list_all (set_there plan) plan.sets ≡ true
  pub domains_there : list_all (domain_there plan) plan.domains ≡ true
  pub tables_there : list_all (table_there plan) plan.tables ≡ true
  pub conditions_there : list_all (condition_there plan) plan.conditions ≡ true
  pub terms_there : list_all (term_there plan) plan.terms ≡ true
  pub rules_there : list_all (rule_there plan) plan.rules ≡ true
  pub procedures_there : list_all (procedure_there plan) plan.procedures ≡ true
  pub lines_there : list_all (line_there plan) plan.lines ≡ true
  pub operations_there : list_all (operation_there plan) plan.operations ≡ true
  pub guards_there : list_all (guard_there plan) plan.guards ≡ true
  pub requirements_there : list_all (requirement_there plan) plan.requirements ≡ true
  -- the root, and for each configurable line of a slot one slot below it, in preorder and item order
  pub root : is_root (slice_get plan.slots 0) ≡ true
  pub below : list_all (λ slot. is_below plan slot slot.parent) (drop 1 plan.slots) ≡ true
  pub preorder : each_slot plan (follows_in_preorder plan) ≡ true
  pub items : are_in_order is_item_before plan.slots ≡ true
  pub line_slots : list_all (λ l. has_its_slots plan l (slice_get plan.lines l)) (numbers_below (length plan.lines))
      ≡ true
  -- classes have a characteristic once; variables and sets are those of the slots' classes, by slot and class order
  pub classes : list_all (λ object. are_apart (λ c d. c == d) object.characteristics) plan.objects ≡ true
  pub class_vars : each_slot plan (has_its_vars plan) ≡ true
  pub class_sets : each_slot plan (has_its_sets plan) ≡ true
  pub vars_by_slot : are_in_order (λ a b. nat_le a.slot b.slot) plan.vars ≡ true
  pub sets_by_slot : are_in_order (λ a b. nat_le a.slot b.slot) plan.sets ≡ true
  pub one_domain : list_all (λ x. list_all (are_of_one_domain x) plan.vars) plan.vars ≡ true
  pub one_text_list : list_all (λ x. list_all (sets_of_one_domain x) plan.sets) plan.sets ≡ true
  pub one_bill : each_slot plan (λ i. each_slot plan (have_one_bill plan i)) ≡ true
  pub one_routing : each_slot plan (λ i. each_slot plan (have_one_routing plan i)) ≡ true
  -- lists have a value once; domains are lists cut up, in grains that ascend; sets have the texts of their lists
  pub lists : list_all (λ characteristic. is_proper characteristic.list) plan.characteristics ≡ true
  pub some_grain : each_var plan (λ v. nat_lt 0 (count_of plan v)) ≡ true
  pub proper : list_all is_proper plan.domains ≡ true
  pub whole : list_all (has_its_list plan) plan.vars ≡ true
  pub cut : each_var plan (is_cut plan) ≡ true
  pub set_texts : list_all (has_its_texts plan) plan.sets ≡ true
  -- tables: columns of different characteristics, which have no sets, and cells of their lists; keys once, where there
  -- are any
  pub table_columns : list_all (λ table. are_apart (λ a b. a.characteristic == b.characteristic) table.columns)
      plan.tables ≡ true
  pub single_columns : list_all (λ table. list_all (λ c. not (has_sets plan c.characteristic)) table.columns)
      plan.tables ≡ true
  pub cells : list_all (λ table. list_all (are_listed plan table.columns) table.rows) plan.tables ≡ true
  pub keys : list_all keys_apart plan.tables ≡ true
  -- rules: at their slots, none twice, one Last a variable, a Line for each slot but the root
  pub own_slots : list_all (stays_at_its_slots plan) plan.rules ≡ true
  pub numbered : list_all is_numbered plan.rules ≡ true
  pub rules_once : are_apart are_one_rule plan.rules ≡ true
  pub lines_once : are_apart are_one_line plan.rules ≡ true
  pub lasts : each_var plan (has_one_last plan) ≡ true
  pub slot_lines : each_slot plan (has_its_lines plan) ≡ true
  pub lone_lines : are_apart are_with_and_without plan.rules ≡ true
  pub asked_by_right : list_all (asks_by_right plan) plan.rules ≡ true
  pub columns : list_all (λ rule. columns_once rule.kind) plan.rules ≡ true
  pub not_among : list_all (λ rule. is_not_among plan rule.kind) plan.rules ≡ true
  -- typing: texts meet texts and numbers numbers, nets ask what is monotone, part sums stand in procedures, sizes are
  -- kept
  pub conditions_typed : list_all (condition_typed plan) plan.conditions ≡ true
  pub rules_typed : list_all (λ rule. kind_typed plan rule.kind) plan.rules ≡ true
  pub statements_typed : each_statement plan (statement_typed plan) ≡ true
  pub quantities : list_all (λ line. means plan (is_numeric plan) line.quantity) plan.lines ≡ true
  pub times : list_all (λ operation. means plan (is_numeric plan) operation.time) plan.operations ≡ true
  pub nets : list_all (λ rule. asks plan is_for_nets rule.condition) plan.rules ≡ true
  pub no_sum_asked : list_all (asks plan (λ c. not (condition_sums c))) (conditions_outside plan) ≡ true
  pub no_sum_meant : list_all (means plan (λ term. not (has_part_sum term))) (terms_outside plan) ≡ true
  pub sums_asked : list_all (condition_sums_numbers plan) plan.conditions ≡ true
  pub sums_meant : list_all (sums_numbers plan) plan.terms ≡ true
  pub terms_small : list_all (is_small plan) plan.terms ≡ true
  pub conditions_small : list_all (condition_small plan) plan.conditions ≡ true
  -- procedures write at their own slot, and look up by all keys
  pub own_writes : list_all (writes_own plan) plan.procedures ≡ true
  pub look_ups : each_statement plan (λ statement. action_proper plan statement.action) ≡ true
  -- all but constraints read what can be named where they stand: the slot, its parent and the root; a line its owner
  -- and the root
  pub procedure_reads : list_all (reads_own plan) plan.procedures ≡ true
  pub guard_reads : list_all (guard_own plan) plan.guards ≡ true
  pub requirement_reads : list_all (requirement_own plan) plan.requirements ≡ true
  pub operation_reads : list_all (operation_own plan) plan.operations ≡ true
  pub line_reads : list_all (line_own plan) plan.lines ≡ true
  pub component_reads : list_all (rule_own plan) plan.rules ≡ true
  -- what stands at a value stands at one of its list
  pub triggers : list_all (λ procedure. trigger_listed plan procedure.slot procedure.trigger) plan.procedures ≡ true
  pub guards : list_all (guard_listed plan) plan.guards ≡ true
  -- lines in item order, operations by their numbers
  pub lines_in_order : are_in_order is_line_before plan.lines ≡ true
  pub operations_in_order : are_in_order is_operation_before plan.operations ≡ true
  -- procedures and preconditions by slot, class order and list order
  pub procedures_in_order : are_in_order (are_procedures_in_order plan) plan.procedures ≡ true
  pub guards_in_order : are_in_order (are_guards_in_order plan) plan.guards ≡ true
  -- names and texts, spelled and each once
  pub name : is_upper_name plan.name ≡ true
  pub version : (nat_lt 0 plan.version && nat_lt plan.version 1_000_000) ≡ true
  pub names : list_all (λ characteristic. is_upper_name characteristic.name) plan.characteristics ≡ true
  pub units : list_all (λ characteristic. is_unit characteristic.unit) plan.characteristics ≡ true
  pub dependency_names : list_all is_upper_name plan.dependencies ≡ true
  pub table_names : list_all (λ table. is_upper_name table.name) plan.tables ≡ true
  pub materials : list_all (λ object. is_material object.material) plan.objects ≡ true
  pub line_words : list_all (λ line. is_material line.material && is_material line.unit) plan.lines ≡ true
  pub operation_words : list_all (λ operation. is_upper_name operation.name && is_material operation.unit)
      plan.operations ≡ true
  pub line_items : list_all (λ line. is_four_digits line.item) plan.lines ≡ true
  pub operation_numbers : list_all (λ operation. is_four_digits operation.number) plan.operations ≡ true
  pub texts : list_all is_text plan.texts ≡ true
  pub utf8 : (t : ℕ) (text : List ℕ) → slice_get plan.texts t ≡ Some text → IsUtf8 text
  pub listed_texts : list_all (has_graphic_texts plan) plan.characteristics ≡ true
  pub names_once : are_apart (λ a b. same_bytes a.name b.name) plan.characteristics ≡ true
  pub dependencies_once : are_apart same_bytes plan.dependencies ≡ true
  pub tables_once : are_apart (λ a b. same_bytes a.name b.name) plan.tables ≡ true
  pub materials_once : are_apart (λ a b. same_bytes a.material b.material) plan.objects ≡ true
  pub texts_once : are_apart same_bytes plan.texts ≡ true
  -- the sizes that a plan may have
  pub levels : list_all (λ slot. nat_lt slot.depth 4) plan.slots ≡ true
  pub slot_limit : nat_le (length plan.slots) 40 ≡ true
  pub rule_limit : nat_le (length plan.rules) 20_000 ≡ true
  pub atom_limit : nat_le (atom_count plan) 40_000 ≡ true
  pub cell_limit : nat_le (cell_bound plan) 500_000 ≡ true
  pub characteristic_limit : nat_le (length plan.characteristics) 2_000 ≡ true
  pub list_limit : list_all (λ characteristic. nat_le (list_length characteristic) 1_000) plan.characteristics ≡ true
  pub class_limit : list_all (λ object. nat_le (length object.characteristics) 500) plan.objects ≡ true
  pub object_limit : nat_le (length plan.objects) 500 ≡ true
  pub dependency_limit : nat_le (length plan.dependencies) 2_000 ≡ true
  pub table_limit : nat_le (length plan.tables) 200 ≡ true
  pub row_limit : list_all (λ table. nat_le (length table.rows) 10_000) plan.tables ≡ true
  pub column_limit : list_all (λ table. nat_le (length table.columns) 20) plan.tables ≡ true
  pub line_limit : each_slot plan (λ i. nat_le (length (lines_at plan i)) 1_000) ≡ true
  pub operation_limit : each_slot plan (λ i. nat_le (length (operations_at plan i)) 1_000) ≡ true
  -- what reasons name by numbers of 32 bits; that there are few rules is said above
  pub procedure_limit : nat_lt (length plan.procedures) (2 ^ 32) ≡ true
  pub statement_limit : list_all (λ procedure. nat_lt (length procedure.statements) (2 ^ 32)) plan.procedures ≡ true
