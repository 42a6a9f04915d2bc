-- Preconditions, requirements, lines, operations and procedures are the same in two models of which the same is seen.
use Rattle.std.proofs.Common.{◌≡◌, ℕ, if◌then◌else◌, List, [], ◌∷◌, ◌++◌, map, flat_map, slice_get, refl, ◌∙◌, Option}
use Rattle.std.proofs.Common.{None, Some, option_map}
use Rattle.std.specs.Prelude.{filter_map}
use Rattle.vc_model_parts.specs.declared.parts.BillItem.{BillItem}
use Rattle.vc_model_parts.specs.declared.parts.Characteristic.{Characteristic}
use Rattle.vc_model_parts.specs.declared.parts.Component.{Component}
use Rattle.vc_model_parts.specs.declared.parts.Component.TheVariants as components
use Rattle.vc_model_parts.specs.declared.parts.Object.{Object}
use Rattle.vc_model_parts.specs.declared.parts.Operation.{Operation}
use Rattle.vc_model_drafts.specs.Seen.{SeenItem, SeenObject, SeenOperation, seen_item, seen_object, seen_operation}
use Rattle.vc_syntax_tree.specs.declared.Operand.TheVariants.{Owned}
use Rattle.vc_syntax_tree.specs.declared.Owner.TheVariants.{Itself}
use Rattle.vc_syntax_tree.specs.Trees as syntax
use Rattle.vc_syntax_tree.specs.Trees.{term_of}
use Rattle.vc_types.specs.Looking.{column_in, table_named}
use Rattle.vc_types.specs.PlaceFaults.{is_key}
use Rattle.vc_types.specs.declared.place.At.TheVariants as at
use Rattle.vc_plan.specs.declared.conditions.Piece.{Piece}
use Rattle.vc_plan.specs.declared.plans.Named.{Named}
use Rattle.vc_plan.specs.declared.plans.Slot.{Slot}
use Rattle.vc_plan.specs.declared.procedures.Trigger.{Trigger}
use Rattle.vc_plan.specs.declared.procedures.Trigger.TheVariants.{Anyway}
use Rattle.vc_compile_plan.specs.Numbering.{drafts_of}
use Rattle.vc_compile_plan.specs.Places.{Asked, precondition_in, selection_in, selections_among, site_at}
use Rattle.vc_compile_plan.specs.Places.{statements_in}
use Rattle.vc_compile_plan.specs.Procedures.{action_at, assign, delete_default, entries_in, filled_by, key_of, look_up}
use Rattle.vc_compile_plan.specs.Procedures.{operand_in, procedure_at, procedure_drafts, procedures_among}
use Rattle.vc_compile_plan.specs.Procedures.{procedures_at}
use Rattle.vc_compile_plan.specs.Procedures.{profile_in, set_default, statement_at, trigger_of, uses_in}
use Rattle.vc_compile_plan.specs.Procedures.{value_procedures}
use Rattle.vc_compile_plan.specs.Shown.{ItemDraft, choice_at, entries_of, guard_drafts, guards_among, guards_at}
use Rattle.vc_compile_plan.specs.Shown.{guards_of, is_configurable, line_at, line_choices, line_drafts, material_in}
use Rattle.vc_compile_plan.specs.Shown.{material_of, operation_at, operation_drafts, operations_in, requirement_drafts}
use Rattle.vc_compile_plan.specs.Shown.{requirements_at, requirements_of}
use Rattle.vc_compile_plan.specs.Sites.{named_at}
use Rattle.vc_compile_plan.specs.Slots.{bill_of}
use Rattle.vc_compile_plan.specs.Tables.{column_number, table_number}
use Rattle.vc_compile_plan.specs.Terms as compiled
use Rattle.vc_compile_plan.specs.Variables.{by_slot}
use Rattle.vc_compile_same.specs.Twins.{Laid, Stand, Twins, laid_out, other, site_in}
use Rattle.vc_compile_same.proofs.ListLaws.{got, map_same}
use Rattle.vc_compile_same.proofs.RuleLaws.{rules_same}
use Rattle.vc_compile_same.proofs.SiteLaws.{condition_same, place_same, stand_at, term_same, var_meant_same}
use Rattle.vc_compile_same.proofs.SlotLaws.{bill_same, members_same, tree_same}
use Rattle.vc_compile_same.proofs.UseLaws.{asked_same}

-- what is seen of an object that may be there
abbrev seen_material : Option SeenObject → List ℕ
seen_material None = []
seen_material (Some object) = object.material

material_seen : (o : Option Object) → material_in o ≡ seen_material (option_map seen_object o)
material_seen None = refl
material_seen (Some object) = refl

abbrev seen_operations : Option SeenObject → List SeenOperation
seen_operations None = []
seen_operations (Some object) = object.operations

operations_seen : (o : Option Object)
    → map seen_operation (operations_in o) ≡ seen_operations (option_map seen_object o)
operations_seen None = refl
operations_seen (Some object) = refl

abbrev seen_profile : Option SeenObject → List ℕ
seen_profile None = []
seen_profile (Some object) = object.procedures

profile_seen : (o : Option Object) → profile_in o ≡ seen_profile (option_map seen_object o)
profile_seen None = refl
profile_seen (Some object) = refl

material_same : (t : Twins) (component : Component) → material_of t.one component ≡ material_of (other t) component
material_same t (components.Object o) =
    got seen_object material_in material_in seen_material material_seen material_seen (t.one).objects t.objects
    t.same_objects o
material_same t (components.Plain material) = refl

pub operations_same : (t : Twins) (o : ℕ)
    → map seen_operation (operations_in (slice_get (t.one).objects o))
    ≡ map seen_operation (operations_in (slice_get t.objects o))
operations_same t o =
    got seen_object (λ x. map seen_operation (operations_in x)) (λ x. map seen_operation (operations_in x))
    seen_operations operations_seen operations_seen (t.one).objects t.objects t.same_objects o

profile_same : (t : Twins) (o : ℕ)
    → profile_in (slice_get (t.one).objects o) ≡ profile_in (slice_get t.objects o)
profile_same t o =
    got seen_object profile_in profile_in seen_profile profile_seen profile_seen (t.one).objects t.objects
    t.same_objects o

-- at a site
module _ (t : Twins) (l : Laid) (s : Stand) where
  choice_same : (asked : Asked)
      → choice_at (laid_out t.one l) (site_in t.one s) asked
      ≡ choice_at (laid_out (other t) l) (site_in (other t) s) asked
  choice_same asked = λ i.
      record { dependency = asked.dependency; condition = condition_same t l s asked.condition i }

  guards_among_same : (named : Named) (value : Option Piece) (uses : List ℕ)
      → guards_among (laid_out t.one l) (site_in t.one s) named value uses
      ≡ guards_among (laid_out (other t) l) (site_in (other t) s) named value uses
  guards_among_same named value uses = λ i.
      map (λ asked. record { at = named; value = value; choice = choice_same asked i })
      (asked_same t precondition_in uses i)

  guards_of_same : (named : Named) (c : Option Characteristic)
      → guards_of (laid_out t.one l) (site_in t.one s) named c
      ≡ guards_of (laid_out (other t) l) (site_in (other t) s) named c
  guards_of_same named None = refl
  guards_of_same named (Some c) = λ i.
      guards_among_same named None c.uses i
      ++ flat_map (λ entry. guards_among_same named (Some entry.piece) entry.uses i) (entries_of c.values)

  requirements_of_same : (named : Named) (c : Option Characteristic)
      → requirements_of (laid_out t.one l) (site_in t.one s) named c
      ≡ requirements_of (laid_out (other t) l) (site_in (other t) s) named c
  requirements_of_same named None = refl
  requirements_of_same named (Some c) = λ i.
      map (λ asked. record { at = named; choice = choice_same asked i }) (asked_same t selection_in c.uses i)

  choices_same : (component : Component) (uses : List ℕ)
      → line_choices (laid_out t.one l) (site_in t.one s) component uses
      ≡ line_choices (laid_out (other t) l) (site_in (other t) s) component uses
  choices_same (components.Object o) uses = refl
  choices_same (components.Plain material) uses = λ i.
      map (λ asked. choice_same asked i) (asked_same t selection_in uses i)

  -- a procedure's statements
  key_same : (table : List ℕ) (binding : syntax.Binding)
      → key_of (laid_out t.one l) (site_in t.one s) table binding
      ≡ key_of (laid_out (other t) l) (site_in (other t) s) table binding
  key_same table binding = λ i.
      if is_key (column_in t.one binding.column.name (table_named t.one table))
      then (record {
        column = column_number t.one table binding.column.name;
        term = term_same t l s binding.value i;
      }) ∷ []
      else []

  filled_same : (table : List ℕ) (binding : syntax.Binding)
      → filled_by (laid_out t.one l) (site_in t.one s) table binding
      ≡ filled_by (laid_out (other t) l) (site_in (other t) s) table binding
  filled_same table binding = λ i.
      if is_key (column_in t.one binding.column.name (table_named t.one table))
      then []
      else (record {
        column = column_number t.one table binding.column.name;
        var = var_meant_same t l s (Owned Itself (operand_in binding.value binding.column)) i;
      }) ∷ []

  action_same : (action : syntax.Action)
      → action_at (laid_out t.one l) (site_in t.one s) action
      ≡ action_at (laid_out (other t) l) (site_in (other t) s) action
  action_same (syntax.Assign name term) = λ i.
      assign (var_meant_same t l s (Owned Itself name) i) (term_same t l s term i)
  action_same (syntax.SetDefault name term) = λ i.
      set_default (var_meant_same t l s (Owned Itself name) i) (term_same t l s term i)
  action_same (syntax.DelDefault name term) = λ i.
      delete_default (var_meant_same t l s (Owned Itself name) i) (term_same t l s term i)
  action_same (syntax.Calls call) = λ i.
      look_up (table_number t.one call.table.name)
      (flat_map (λ binding. key_same call.table.name binding i) call.bindings)
      (flat_map (λ binding. filled_same call.table.name binding i) call.bindings)

  statement_same : (statement : syntax.Statement)
      → statement_at (laid_out t.one l) (site_in t.one s) statement
      ≡ statement_at (laid_out (other t) l) (site_in (other t) s) statement
  statement_same statement = λ i.
      record {
        action = action_same statement.action i;
        condition = option_map (λ c. condition_same t l s c i) statement.condition;
      }

module _ (t : Twins) (l : Laid) where
  -- preconditions and requirements
  guards_at_same : (n : ℕ) (slot : Slot)
      → guards_at (laid_out t.one l) n slot ≡ guards_at (laid_out (other t) l) n slot
  guards_at_same n slot = λ i.
      flat_map (λ c. guards_of_same t l
      (stand_at n slot (place_same t l slot at.Characteristic i) at.Characteristic) (named_at (laid_out t.one l) n c)
      (slice_get (t.one).characteristics c) i)
      (members_same t slot.object i)

  pub guards_same : guard_drafts (laid_out t.one l) ≡ guard_drafts (laid_out (other t) l)
  guards_same = λ i. by_slot (λ n slot. guards_at_same n slot i) 0 l.slots

  requirements_at_same : (n : ℕ) (slot : Slot)
      → requirements_at (laid_out t.one l) n slot ≡ requirements_at (laid_out (other t) l) n slot
  requirements_at_same n slot = λ i.
      flat_map (λ c. requirements_of_same t l
      (stand_at n slot (place_same t l slot at.Characteristic i) at.Characteristic) (named_at (laid_out t.one l) n c)
      (slice_get (t.one).characteristics c) i)
      (members_same t slot.object i)

  pub requirements_same : requirement_drafts (laid_out t.one l) ≡ requirement_drafts (laid_out (other t) l)
  requirements_same = λ i. by_slot (λ n slot. requirements_at_same n slot i) 0 l.slots

  -- lines
  abbrev seen_line : ℕ → Slot → SeenItem → ItemDraft
  seen_line n slot item =
      let site = site_at (laid_out t.one l) n slot (at.Line (is_configurable item.component)) in
      record {
        slot = n;
        number = item.item;
        word = material_of t.one item.component;
        unit = item.unit;
        term = compiled.term_at (laid_out t.one l) site item.quantity;
        choices = line_choices (laid_out t.one l) site item.component item.uses;
      }

  line_same : (n : ℕ) (slot : Slot) (item : BillItem)
      → line_at (laid_out t.one l) n slot item ≡ line_at (laid_out (other t) l) n slot item
  line_same n slot item = λ i.
      record {
        slot = n;
        number = item.item;
        word = material_same t item.component i;
        unit = item.unit;
        term = term_same t l
            (stand_at n slot (place_same t l slot (at.Line (is_configurable item.component)) i)
            (at.Line (is_configurable item.component)))
            (term_of item.quantity.value) i;
        choices = choices_same t l
            (stand_at n slot (place_same t l slot (at.Line (is_configurable item.component)) i)
            (at.Line (is_configurable item.component)))
            item.component item.uses i;
      }

  lines_at_same : (n : ℕ) (slot : Slot)
      → map (line_at (laid_out t.one l) n slot) (bill_of t.one slot.object)
      ≡ map (line_at (laid_out (other t) l) n slot) (bill_of (other t) slot.object)
  lines_at_same n slot =
      map_same seen_item (seen_line n slot) (bill_of t.one slot.object) (bill_of (other t) slot.object)
      (bill_same t slot.object)
      ∙ (λ i. map (λ item. line_same n slot item i) (bill_of (other t) slot.object))

  pub lines_same : line_drafts (laid_out t.one l) ≡ line_drafts (laid_out (other t) l)
  lines_same = λ i. by_slot (λ n slot. lines_at_same n slot i) 0 l.slots

  -- operations
  abbrev seen_operation_at : ℕ → Slot → SeenOperation → ItemDraft
  seen_operation_at n slot operation =
      let site = site_at (laid_out t.one l) n slot at.Operation in
      record {
        slot = n;
        number = operation.number;
        word = operation.centre;
        unit = operation.unit;
        term = compiled.term_at (laid_out t.one l) site operation.time;
        choices = map (choice_at (laid_out t.one l) site) (selections_among t.one operation.uses);
      }

  operation_same : (n : ℕ) (slot : Slot) (operation : Operation)
      → operation_at (laid_out t.one l) n slot operation ≡ operation_at (laid_out (other t) l) n slot operation
  operation_same n slot operation = λ i.
      record {
        slot = n;
        number = operation.number;
        word = operation.centre;
        unit = operation.unit;
        term = term_same t l (stand_at n slot (place_same t l slot at.Operation i) at.Operation)
            (term_of operation.time.value) i;
        choices = map
            (λ asked. choice_same t l (stand_at n slot (place_same t l slot at.Operation i) at.Operation) asked i)
            (asked_same t selection_in operation.uses i);
      }

  operations_at_same : (n : ℕ) (slot : Slot)
      → map (operation_at (laid_out t.one l) n slot) (operations_in (slice_get (t.one).objects slot.object))
      ≡ map (operation_at (laid_out (other t) l) n slot) (operations_in (slice_get t.objects slot.object))
  operations_at_same n slot =
      map_same seen_operation (seen_operation_at n slot) (operations_in (slice_get (t.one).objects slot.object))
      (operations_in (slice_get t.objects slot.object)) (operations_same t slot.object)
      ∙ (λ i. map (λ operation. operation_same n slot operation i) (operations_in (slice_get t.objects slot.object)))

  pub operation_drafts_same : operation_drafts (laid_out t.one l) ≡ operation_drafts (laid_out (other t) l)
  operation_drafts_same = λ i. by_slot (λ n slot. operations_at_same n slot i) 0 l.slots

  -- procedures
  procedure_same : (n : ℕ) (slot : Slot) (trigger : Trigger) (d : ℕ) (statements : List syntax.Statement)
      → procedure_at (laid_out t.one l) n slot trigger d statements
      ≡ procedure_at (laid_out (other t) l) n slot trigger d statements
  procedure_same n slot trigger d statements = λ i.
      record {
        slot = n;
        dependency = d;
        trigger = trigger;
        statements = map
            (λ x. statement_same t l (stand_at n slot (place_same t l slot at.Procedure i) at.Procedure) x i)
            statements;
      }

  among_same : (n : ℕ) (slot : Slot) (trigger : Trigger) (uses : List ℕ)
      → procedures_among (laid_out t.one l) n slot trigger uses
      ≡ procedures_among (laid_out (other t) l) n slot trigger uses
  among_same n slot trigger uses = λ i.
      filter_map (λ d. option_map (λ x. procedure_same n slot trigger d x i) (statements_in (tree_same t d i))) uses

  value_procedures_same : (n : ℕ) (slot : Slot) (c : ℕ)
      → value_procedures (laid_out t.one l) n slot c ≡ value_procedures (laid_out (other t) l) n slot c
  value_procedures_same n slot c = λ i.
      flat_map
      (λ entry. among_same n slot (trigger_of (named_at (laid_out t.one l) n c) entry.piece) entry.uses i)
      (entries_in (slice_get (t.one).characteristics c))

  procedures_at_same : (n : ℕ) (slot : Slot)
      → procedures_at (laid_out t.one l) n slot ≡ procedures_at (laid_out (other t) l) n slot
  procedures_at_same n slot = λ i.
      among_same n slot Anyway (profile_same t slot.object i) i
      ++ (flat_map (λ c. among_same n slot Anyway (uses_in (slice_get (t.one).characteristics c)) i)
      (members_same t slot.object i)
      ++ flat_map (λ c. value_procedures_same n slot c i) (members_same t slot.object i))

  procedures_same : procedure_drafts (laid_out t.one l) ≡ procedure_drafts (laid_out (other t) l)
  procedures_same = λ i. by_slot (λ n slot. procedures_at_same n slot i) 0 l.slots

  -- all that has conditions and terms
  pub drafts_same : drafts_of (laid_out t.one l) ≡ drafts_of (laid_out (other t) l)
  drafts_same = λ i.
      record {
        rules = rules_same t l i;
        guards = guards_same i;
        requirements = requirements_same i;
        lines = lines_same i;
        operations = operation_drafts_same i;
        procedures = procedures_same i;
      }
