-- Two models of which the same is seen have the same plan, and the same fault.
use Rattle.std.proofs.Common.{◌≡◌, ℕ, suc, if◌then◌else◌, List, [], ◌∷◌, ◌++◌, map, flat_map, slice_get, refl, sym, ap}
use Rattle.std.proofs.Common.{subst, ◌∙◌, Option, None, Some, option_map}
use Rattle.std.specs.Prelude.{filter_map}
use Rattle.std.specs.List.{filter}
use Rattle.vc_model_parts.specs.declared.parts.BillItem.{BillItem}
use Rattle.vc_model_parts.specs.declared.parts.Model.{Model}
use Rattle.vc_model_parts.specs.declared.parts.NamedDependency.{NamedDependency}
use Rattle.vc_model_parts.specs.declared.parts.Object.{Object}
use Rattle.vc_model_parts.specs.declared.parts.Operation.{Operation}
use Rattle.vc_model_drafts.specs.Seen.{SeenDependency, SeenItem, SeenObject, SeenOperation, seen_dependency, seen_item}
use Rattle.vc_model_drafts.specs.Seen.{seen_model, seen_object, seen_operation}
use Rattle.vc_syntax_tree.specs.Trees.{Dependency, Counts, term_of}
use Rattle.vc_table.specs.declared.table.VariantTable.{VariantTable}
use Rattle.vc_types.specs.declared.place.At.TheVariants as at
use Rattle.vc_types.specs.declared.place.Place.{Place}
use Rattle.vc_plan.specs.Domains.{numbers_below}
use Rattle.vc_plan.specs.declared.plans.Object as plan
use Rattle.vc_plan.specs.declared.plans.Plan.{Plan}
use Rattle.vc_plan.specs.declared.plans.Slot.{Slot}
use Rattle.vc_compile_plan.specs.Numbering.{conditions_of, drafts_of, guards_of, lines_of, operations_of, procedures_of}
use Rattle.vc_compile_plan.specs.Numbering.{requirements_of, rules_of, terms_of}
use Rattle.vc_compile_plan.specs.PlanOf.{IsPlanOf, plan_of, plan_over}
use Rattle.vc_compile_plan.specs.Places.{place_at}
use Rattle.vc_compile_plan.specs.Refusals.{Typed, at_of, compile_fault, fault_at, first_of, is_in_net, size_fault}
use Rattle.vc_compile_plan.specs.Refusals.{type_fault, type_faults, typed_at, typed_constraints, typed_if, typed_line}
use Rattle.vc_compile_plan.specs.Refusals.{typed_object, typed_of, typed_operation, typed_slot, typing_fault_or}
use Rattle.vc_compile_plan.specs.Rules.{in_net}
use Rattle.vc_compile_plan.specs.Shown.{is_configurable}
use Rattle.vc_compile_plan.specs.Tables.{characteristics_of, objects_from, objects_of, tables_of}
use Rattle.vc_compile_plan.specs.Trees.{Spot, kept_condition, kept_term}
use Rattle.vc_compile_plan.specs.Uses.{uses_of_characteristic}
use Rattle.vc_compile_plan.specs.Variables.{members_if, members_of}
use Rattle.vc_compile_plan.specs.declared.fault.CompileFault.TheVariants as faults
use Rattle.vc_compile_same.specs.Twins.{Laid, Twins, laid_out, other}
use Rattle.vc_compile_same.proofs.CutLaws.{domains_same}
use Rattle.vc_compile_same.proofs.ListLaws.{flat_mapped, got, map_same}
use Rattle.vc_compile_same.proofs.ShownLaws.{drafts_same}
use Rattle.vc_compile_same.proofs.SiteLaws.{place_same}
use Rattle.vc_compile_same.proofs.SlotLaws.{deep_same, laid_same, many_same, members_same}
use Rattle.vc_compile_same.proofs.TypingLaws.{fault_same}
use Rattle.vc_compile_same.proofs.UseLaws.{dependencies_count_same}

-- objects of a plan, by what is seen of the model's
abbrev objects_seen : Model → ℕ → List SeenObject → List plan.Object
objects_seen model o [] = []
objects_seen model o (object ∷ objects) =
    record { material = object.material; characteristics = members_of model o } ∷ objects_seen model (suc o) objects

objects_are : (model : Model) (o : ℕ) (objects : List Object)
    → objects_from model o objects ≡ objects_seen model o (map seen_object objects)
objects_are model o [] = refl
objects_are model o (object ∷ objects) =
    ap (λ rest. record { material = object.material; characteristics = members_of model o } ∷ rest)
    (objects_are model (suc o) objects)

seen_objects_same : (t : Twins) (o : ℕ) (objects : List SeenObject)
    → objects_seen t.one o objects ≡ objects_seen (other t) o objects
seen_objects_same t o [] = refl
seen_objects_same t o (object ∷ objects) = λ i.
    (record { material = object.material; characteristics = members_same t o i })
    ∷ seen_objects_same t (suc o) objects i

objects_same : (t : Twins) → objects_of t.one ≡ objects_of (other t)
objects_same t =
    objects_are t.one 0 (t.one).objects ∙ (λ i. seen_objects_same t 0 (t.same_objects i) i)
    ∙ sym (objects_are (other t) 0 t.objects)

names_same : (t : Twins)
    → map (λ dependency. dependency.name) (t.one).dependencies ≡ map (λ dependency. dependency.name) t.dependencies
names_same t =
    map_same seen_dependency (λ dependency. dependency.name) (t.one).dependencies t.dependencies t.same_dependencies

-- the plan
plan_over_same : (t : Twins) (l : Laid) (p : Spot) (tables : List VariantTable)
    → plan_over p (laid_out t.one l) (drafts_of (laid_out t.one l)) tables
    ≡ plan_over p (laid_out (other t) l) (drafts_of (laid_out (other t) l)) tables
plan_over_same t l p tables = λ i.
    record {
      name = (t.one).name;
      version = (t.one).version;
      texts = l.texts;
      dependencies = names_same t i;
      characteristics = characteristics_of t.one;
      objects = objects_same t i;
      domains = domains_same t l tables i;
      tables = tables_of t.one tables;
      slots = l.slots;
      vars = l.vars;
      sets = l.sets;
      conditions = map (kept_condition p) (conditions_of (drafts_same t l i));
      terms = map (kept_term p) (terms_of (drafts_same t l i));
      rules = rules_of (drafts_same t l i);
      procedures = procedures_of (drafts_same t l i);
      lines = lines_of (drafts_same t l i);
      operations = operations_of (drafts_same t l i);
      guards = guards_of (drafts_same t l i);
      requirements = requirements_of (drafts_same t l i);
    }

-- a plan of one is a plan of the other
twin_plan_is : (t : Twins) (tables : List VariantTable) (plan : Plan) → IsPlanOf t.one tables plan
    → IsPlanOf (other t) tables plan
twin_plan_is t tables plan is = record {
  name = is.name;
  version = is.version;
  texts = is.texts ∙ (λ i. (laid_same t i).texts);
  dependencies = is.dependencies ∙ names_same t;
  characteristics = is.characteristics;
  objects = is.objects ∙ objects_same t;
  domains = is.domains ∙ (λ i. domains_same t (laid_same t i) tables i);
  tables = is.tables;
  slots = is.slots ∙ (λ i. (laid_same t i).slots);
  vars = is.vars ∙ (λ i. (laid_same t i).vars);
  sets = is.sets ∙ (λ i. (laid_same t i).sets);
  conditions = is.conditions ∙ (λ i. conditions_of (drafts_same t (laid_same t i) i));
  terms = is.terms ∙ (λ i. terms_of (drafts_same t (laid_same t i) i));
  rules = is.rules ∙ (λ i. rules_of (drafts_same t (laid_same t i) i));
  procedures = is.procedures ∙ (λ i. procedures_of (drafts_same t (laid_same t i) i));
  lines = is.lines ∙ (λ i. lines_of (drafts_same t (laid_same t i) i));
  operations = is.operations ∙ (λ i. operations_of (drafts_same t (laid_same t i) i));
  guards = is.guards ∙ (λ i. guards_of (drafts_same t (laid_same t i) i));
  requirements = is.requirements ∙ (λ i. requirements_of (drafts_same t (laid_same t i) i));
}

twin_plans : (t : Twins) (p : Spot) (tables : List VariantTable) → plan_of p t.one tables ≡ plan_of p (other t) tables
twin_plans t p tables = λ i. plan_over_same t (laid_same t i) p tables i

-- what is typed
abbrev seen_typed : (Dependency → Place) → Option SeenDependency → List Typed
seen_typed place None = []
seen_typed place (Some named) = record { line = named.line; place = place named.tree; tree = named.tree } ∷ []

abbrev named_typed : (Dependency → Place) → Option NamedDependency → List Typed
named_typed place o = seen_typed place (option_map seen_dependency o)

typed_is : (model : Model) (place : Dependency → Place) (d : ℕ)
    → typed_if model place d ≡ named_typed place (slice_get model.dependencies d)
typed_is model place d = by (slice_get model.dependencies d) refl
  where
    by : (o : Option NamedDependency) → slice_get model.dependencies d ≡ o
        → typed_if model place d ≡ named_typed place (slice_get model.dependencies d)
    by None e = rw e refl
    by (Some x) e = rw e refl

typed_if_same : (t : Twins) (place : Dependency → Place) (d : ℕ)
    → typed_if t.one place d ≡ typed_if (other t) place d
typed_if_same t place d =
    typed_is t.one place d
    ∙ got seen_dependency (named_typed place) (named_typed place) (seen_typed place) (λ o. refl) (λ o. refl)
    (t.one).dependencies t.dependencies t.same_dependencies d
    ∙ sym (typed_is (other t) place d)

typed_at_same : (t : Twins) (place : Dependency → Place) (uses : List ℕ)
    → typed_at t.one place uses ≡ typed_at (other t) place uses
typed_at_same t place uses = λ i. flat_map (λ d. typed_if_same t place d i) uses

typed_constraints_same : (t : Twins) → typed_constraints t.one ≡ typed_constraints (other t)
typed_constraints_same t = λ i.
    typed_at_same t (λ dependency. in_net)
    (filter (is_in_net t.one) (numbers_below (dependencies_count_same t i))) i

-- what is typed of what is seen of an object at a slot
module _ (t : Twins) (l : Laid) where
  abbrev seen_line : Slot → SeenItem → List Typed
  seen_line slot item =
      let place = place_at (laid_out t.one l) slot (at.Line (is_configurable item.component)) in
      record { line = item.line; place = place; tree = Counts item.quantity }
      ∷ typed_at t.one (λ dependency. place) item.uses

  abbrev seen_operation_at : Slot → SeenOperation → List Typed
  seen_operation_at slot operation =
      let place = place_at (laid_out t.one l) slot at.Operation in
      record { line = operation.line; place = place; tree = Counts operation.time }
      ∷ typed_at t.one (λ dependency. place) operation.uses

  abbrev seen_object_at : Slot → Option SeenObject → List Typed
  seen_object_at slot None = []
  seen_object_at slot (Some object) =
      typed_at t.one (λ dependency. place_at (laid_out t.one l) slot (at_of dependency))
      (object.procedures
      ++ flat_map (λ c. uses_of_characteristic (slice_get (t.one).characteristics c))
      (members_if t.one (Some object.class)))
      ++ (flat_map (seen_line slot) object.bill ++ flat_map (seen_operation_at slot) object.operations)

  object_seen : (slot : Slot) (o : Option Object)
      → typed_object (laid_out t.one l) slot o ≡ seen_object_at slot (option_map seen_object o)
  object_seen slot None = refl
  object_seen slot (Some object) = λ i.
      typed_at t.one (λ dependency. place_at (laid_out t.one l) slot (at_of dependency))
      (object.procedures
      ++ flat_map (λ c. uses_of_characteristic (slice_get (t.one).characteristics c))
      (members_if t.one (Some object.class)))
      ++ (flat_mapped seen_item (seen_line slot) object.bill i
      ++ flat_mapped seen_operation (seen_operation_at slot) object.operations i)

  line_same : (slot : Slot) (item : BillItem)
      → typed_line (laid_out t.one l) slot item ≡ typed_line (laid_out (other t) l) slot item
  line_same slot item = λ i.
      (record {
        line = item.line;
        place = place_same t l slot (at.Line (is_configurable item.component)) i;
        tree = Counts (term_of item.quantity.value);
      })
      ∷ typed_at_same t (λ dependency. place_same t l slot (at.Line (is_configurable item.component)) i) item.uses i

  operation_same : (slot : Slot) (operation : Operation)
      → typed_operation (laid_out t.one l) slot operation ≡ typed_operation (laid_out (other t) l) slot operation
  operation_same slot operation = λ i.
      (record {
        line = operation.line;
        place = place_same t l slot at.Operation i;
        tree = Counts (term_of operation.time.value);
      })
      ∷ typed_at_same t (λ dependency. place_same t l slot at.Operation i) operation.uses i

  object_same : (slot : Slot) (o : Option Object)
      → typed_object (laid_out t.one l) slot o ≡ typed_object (laid_out (other t) l) slot o
  object_same slot None = refl
  object_same slot (Some object) = λ i.
      typed_at_same t (λ dependency. place_same t l slot (at_of dependency) i)
      (object.procedures
      ++ flat_map (λ c. uses_of_characteristic (slice_get (t.one).characteristics c))
      (members_if t.one (Some object.class))) i
      ++ (flat_map (λ item. line_same slot item i) object.bill
      ++ flat_map (λ operation. operation_same slot operation i) object.operations)

  slot_same : (slot : Slot) → typed_slot (laid_out t.one l) slot ≡ typed_slot (laid_out (other t) l) slot
  slot_same slot =
      got seen_object (typed_object (laid_out t.one l) slot) (typed_object (laid_out (other t) l) slot)
      (seen_object_at slot) (object_seen slot) (λ o. sym (object_same slot o) ∙ object_seen slot o)
      (t.one).objects t.objects t.same_objects slot.object

  typed_same : typed_of (laid_out t.one l) ≡ typed_of (laid_out (other t) l)
  typed_same = λ i. typed_constraints_same t i ++ flat_map (λ slot. slot_same slot i) l.slots

  fault_at_same : (typed : Typed) → fault_at t.one typed ≡ fault_at (other t) typed
  fault_at_same typed = λ i.
      option_map (λ kind. record { line = typed.line; kind = kind }) (fault_same t typed.place typed.tree i)

  type_faults_same : type_faults (laid_out t.one l) ≡ type_faults (laid_out (other t) l)
  type_faults_same = λ i. filter_map (λ typed. fault_at_same typed i) (typed_same i)

twin_types : (t : Twins) → type_fault t.one ≡ type_fault (other t)
twin_types t = λ i. first_of (type_faults_same t (laid_same t i) i)

-- the fault
twin_faults : (t : Twins) (p : Spot) (tables : List VariantTable)
    → compile_fault p t.one tables ≡ compile_fault p (other t) tables
twin_faults t p tables = λ i.
    let sizes = size_fault (twin_plans t p tables i) in
    let typing = typing_fault_or sizes (twin_types t i) in
    let slots = if many_same t i then Some faults.TooManySlots else typing in
    if deep_same t i then Some faults.TooDeep else slots

-- two models of which the same is seen are twins, but for what is equal anyway
abbrev twins_of : (m n : Model) → seen_model m ≡ seen_model n → Twins
twins_of m n same = record {
  one = m;
  dependencies = n.dependencies;
  objects = n.objects;
  same_dependencies = λ i. (same i).dependencies;
  same_objects = λ i. (same i).objects;
}

other_is : (m n : Model) (same : seen_model m ≡ seen_model n) → other (twins_of m n same) ≡ n
other_is m n same = λ i.
    record {
      name = (same i).name;
      version = (same i).version;
      characteristics = (same i).characteristics;
      texts = (same i).texts;
      classes = (same i).classes;
      tables = (same i).tables;
      dependencies = n.dependencies;
      nets = (same i).nets;
      objects = n.objects;
      root = (same i).root;
    }

pub same_plans : (m n : Model) (tables : List VariantTable) (plan : Plan) → seen_model m ≡ seen_model n
    → IsPlanOf m tables plan → IsPlanOf n tables plan
same_plans m n tables plan same is =
    subst (λ x. IsPlanOf x tables plan) (other_is m n same) (twin_plan_is (twins_of m n same) tables plan is)

pub same_faults : (m n : Model) (tables : List VariantTable) → seen_model m ≡ seen_model n → (p : Spot)
    → compile_fault p m tables ≡ compile_fault p n tables
same_faults m n tables same p =
    twin_faults (twins_of m n same) p tables ∙ ap (λ x. compile_fault p x tables) (other_is m n same)
