-- A compiled plan keeps all that a plan keeps.
use Rattle.vc_plan.specs.Valid.{IsValid}
use Rattle.vc_plan.specs.declared.plans.Plan.{Plan}
use Rattle.vc_compile_valid.specs.Domains.{HasDomains}
use Rattle.vc_compile_valid.specs.Places.{HasFewProcedures, HasPlaces}
use Rattle.vc_compile_valid.specs.Rules.{HasRules}
use Rattle.vc_compile_valid.specs.Slots.{HasLineSlots, HasOneBill, HasPreorder}
use Rattle.vc_compile_meant.specs.Calls.{HasColumns}
use Rattle.vc_compile_meant.specs.Scopes.{HasNets, HasOwnSlots, HasScopes}
use Rattle.vc_compile_meant.specs.Sorts.{HasAmounts}
use Rattle.vc_compile_meant.specs.Sums.{HasNoSums}
use Rattle.vc_compile_ranges.specs.Ranges.{HasRanges}
use Rattle.vc_compile_sorts.specs.Sorts.{HasSums, HasTypes}
use Rattle.vc_compile_sizes.specs.LookUps.{HasLookUps}
use Rattle.vc_compile_sizes.specs.Sizes.{HasSizes}
use Rattle.vc_compile_cutting.specs.Cuts.{IsCut}
use Rattle.vc_compile_laws.specs.Bills.{HasBills}
use Rattle.vc_compile_laws.specs.Classes.{HasClasses}
use Rattle.vc_compile_laws.specs.Compiles.{CompiledKeeps}
use Rattle.vc_compile_laws.specs.Guards.{HasGuards}
use Rattle.vc_compile_laws.specs.Lists.{HasLists}
use Rattle.vc_compile_laws.specs.Orders.{HasFewLines, HasOrders}
use Rattle.vc_compile_laws.specs.Sizes.{HasCounts, IsWithin}
use Rattle.vc_compile_laws.specs.Slots.{HasSlots}
use Rattle.vc_compile_laws.specs.Statements.{HasFewStatements}
use Rattle.vc_compile_laws.specs.Tables.{HasTables}
use Rattle.vc_compile_laws.specs.Variables.{HasVariables}
use Rattle.vc_compile_laws.specs.Words.{HasTexts, HasWords}
use Rattle.vc_compile_laws.proofs.AtSlotLaws.{has_few_lines}
use Rattle.vc_compile_laws.proofs.BillLaws.{has_bills}
use Rattle.vc_compile_laws.proofs.ClassLaws.{has_classes}
use Rattle.vc_compile_laws.proofs.GuardLaws.{has_guards}
use Rattle.vc_compile_laws.proofs.ListedLaws.{has_lists}
use Rattle.vc_compile_laws.proofs.OrderLaws.{has_orders}
use Rattle.vc_compile_laws.proofs.SizeLaws.{is_within}
use Rattle.vc_compile_laws.proofs.SlotLaws.{has_slots}
use Rattle.vc_compile_laws.proofs.StatementLaws.{has_few_statements}
use Rattle.vc_compile_laws.proofs.TableLaws.{has_tables}
use Rattle.vc_compile_laws.proofs.TextLaws.{has_texts}
use Rattle.vc_compile_laws.proofs.TypedLaws.{has_look_ups, has_ranges, has_sizes, has_sums, has_types, is_cut}
use Rattle.vc_compile_laws.proofs.ValidLaws.{has_amounts, has_columns, has_domains, has_few_procedures, has_line_slots}
use Rattle.vc_compile_laws.proofs.ValidLaws.{has_nets, has_no_sums, has_one_bill, has_own_slots, has_places}
use Rattle.vc_compile_laws.proofs.ValidLaws.{has_preorder, has_rules, has_scopes}
use Rattle.vc_compile_laws.proofs.VariableLaws.{has_variables}
use Rattle.vc_compile_laws.proofs.WordLaws.{has_counts, has_words}

-- the facts of a valid plan, each from the record that has it
valid_by : (plan : Plan) → HasLists plan → HasSlots plan → HasVariables plan → HasDomains plan → HasTables plan
    → HasRanges plan → HasBills plan → HasGuards plan → HasPreorder plan → HasLineSlots plan → HasClasses plan
    → HasOneBill plan → IsCut plan → HasOwnSlots plan → HasRules plan → HasColumns plan → HasTypes plan
    → HasAmounts plan → HasNets plan → HasNoSums plan → HasSums plan → HasSizes plan → HasScopes plan → HasLookUps plan
    → HasPlaces plan → HasOrders plan → HasWords plan → HasTexts plan → IsWithin plan → HasCounts plan
    → HasFewLines plan → HasFewProcedures plan → HasFewStatements plan → IsValid plan
valid_by plan lists slots variables domains tables ranges bills guards preorder line_slots classes one_bill cut
    own_slots rules columns types amounts nets no_sums sums sizes scopes look_ups places orders words texts within
    counts few_lines few_procedures few_statements = record {
      characteristics_there = lists.characteristics_there;
      objects_there = lists.objects_there;
      slots_there = slots.slots_there;
      vars_there = variables.vars_there;
      sets_there = variables.sets_there;
      domains_there = domains.domains_there;
      tables_there = tables.tables_there;
      conditions_there = ranges.conditions_there;
      terms_there = ranges.terms_there;
      rules_there = ranges.rules_there;
      procedures_there = ranges.procedures_there;
      lines_there = bills.lines_there;
      operations_there = bills.operations_there;
      guards_there = guards.guards_there;
      requirements_there = guards.requirements_there;
      root = slots.root;
      below = preorder.below;
      preorder = preorder.preorder;
      items = preorder.items;
      line_slots = line_slots;
      classes = lists.classes;
      class_vars = classes.class_vars;
      class_sets = classes.class_sets;
      vars_by_slot = variables.vars_by_slot;
      sets_by_slot = variables.sets_by_slot;
      one_domain = variables.one_domain;
      one_text_list = variables.one_text_list;
      one_bill = one_bill.one_bill;
      one_routing = one_bill.one_routing;
      lists = lists.lists;
      some_grain = domains.some_grain;
      proper = domains.proper;
      whole = domains.whole;
      cut = cut.cut;
      set_texts = variables.set_texts;
      table_columns = tables.table_columns;
      single_columns = variables.single_columns;
      cells = tables.cells;
      keys = tables.keys;
      own_slots = own_slots.own_slots;
      numbered = rules.numbered;
      rules_once = rules.rules_once;
      lines_once = rules.lines_once;
      lasts = rules.lasts;
      slot_lines = rules.slot_lines;
      lone_lines = rules.lone_lines;
      asked_by_right = rules.asked_by_right;
      columns = columns.columns;
      not_among = rules.not_among;
      conditions_typed = types.conditions_typed;
      rules_typed = types.rules_typed;
      statements_typed = types.statements_typed;
      quantities = amounts.quantities;
      times = amounts.times;
      nets = nets.nets;
      no_sum_asked = no_sums.no_sum_asked;
      no_sum_meant = no_sums.no_sum_meant;
      sums_asked = sums.sums_asked;
      sums_meant = sums.sums_meant;
      terms_small = sizes.terms_small;
      conditions_small = sizes.conditions_small;
      own_writes = scopes.own_writes;
      look_ups = look_ups.look_ups;
      procedure_reads = scopes.procedure_reads;
      guard_reads = scopes.guard_reads;
      requirement_reads = scopes.requirement_reads;
      operation_reads = scopes.operation_reads;
      line_reads = scopes.line_reads;
      component_reads = scopes.component_reads;
      triggers = places.triggers;
      guards = guards.guards;
      lines_in_order = orders.lines_in_order;
      operations_in_order = orders.operations_in_order;
      procedures_in_order = places.procedures_in_order;
      guards_in_order = places.guards_in_order;
      name = words.name;
      version = words.version;
      names = words.names;
      units = words.units;
      dependency_names = words.dependency_names;
      table_names = words.table_names;
      materials = words.materials;
      line_words = bills.line_words;
      operation_words = bills.operation_words;
      line_items = bills.line_items;
      operation_numbers = bills.operation_numbers;
      texts = texts.texts;
      utf8 = texts.utf8;
      listed_texts = texts.listed_texts;
      names_once = words.names_once;
      dependencies_once = words.dependencies_once;
      tables_once = words.tables_once;
      materials_once = words.materials_once;
      texts_once = texts.texts_once;
      levels = slots.levels;
      slot_limit = within.slot_limit;
      rule_limit = within.rule_limit;
      atom_limit = within.atom_limit;
      cell_limit = within.cell_limit;
      characteristic_limit = counts.characteristic_limit;
      list_limit = lists.list_limit;
      class_limit = counts.class_limit;
      object_limit = counts.object_limit;
      dependency_limit = counts.dependency_limit;
      table_limit = counts.table_limit;
      row_limit = tables.row_limit;
      column_limit = counts.column_limit;
      line_limit = few_lines.line_limit;
      operation_limit = few_lines.operation_limit;
      procedure_limit = few_procedures.procedure_limit;
      statement_limit = few_statements.statement_limit;
    }

pub is_valid : CompiledKeeps IsValid
is_valid text model tables plan spells read compiles =
    valid_by plan
    (has_lists text model tables plan spells read compiles)
    (has_slots text model tables plan spells read compiles)
    (has_variables text model tables plan spells read compiles)
    (has_domains text model tables plan spells read compiles)
    (has_tables text model tables plan spells read compiles)
    (has_ranges text model tables plan spells read compiles)
    (has_bills text model tables plan spells read compiles)
    (has_guards text model tables plan spells read compiles)
    (has_preorder text model tables plan spells read compiles)
    (has_line_slots text model tables plan spells read compiles)
    (has_classes text model tables plan spells read compiles)
    (has_one_bill text model tables plan spells read compiles)
    (is_cut text model tables plan spells read compiles)
    (has_own_slots text model tables plan spells read compiles)
    (has_rules text model tables plan spells read compiles)
    (has_columns text model tables plan spells read compiles)
    (has_types text model tables plan spells read compiles)
    (has_amounts text model tables plan spells read compiles)
    (has_nets text model tables plan spells read compiles)
    (has_no_sums text model tables plan spells read compiles)
    (has_sums text model tables plan spells read compiles)
    (has_sizes text model tables plan spells read compiles)
    (has_scopes text model tables plan spells read compiles)
    (has_look_ups text model tables plan spells read compiles)
    (has_places text model tables plan spells read compiles)
    (has_orders text model tables plan spells read compiles)
    (has_words text model tables plan spells read compiles)
    (has_texts text model tables plan spells read compiles)
    (is_within text model tables plan spells read compiles)
    (has_counts text model tables plan spells read compiles)
    (has_few_lines text model tables plan spells read compiles)
    (has_few_procedures text model tables plan spells read compiles)
    (has_few_statements text model tables plan spells read compiles)
