-- Why a model has no plan: the first fault, in a stated order.
use Rattle.std.specs.Prelude.{ℕ, Bool, ◌&&◌, ◌||◌, ◌==◌, nat_lt, if◌then◌else◌, List, [], ◌∷◌, ◌++◌, length, flat_map}
use Rattle.std.specs.Prelude.{slice_get, Option, None, Some, option_map, filter_map}
use Rattle.std.specs.List.{filter, list_any}
use Rattle.vc_model_parts.specs.declared.parts.BillItem.{BillItem}
use Rattle.vc_model_parts.specs.declared.parts.Model.{Model}
use Rattle.vc_model_parts.specs.declared.parts.NamedDependency.{NamedDependency}
use Rattle.vc_model_parts.specs.declared.parts.Object.{Object}
use Rattle.vc_model_parts.specs.declared.parts.Operation.{Operation}
use Rattle.vc_syntax_tree.specs.Trees.{Dependency, Precondition, Selection, Procedure, Constrains, Counts, term_of}
use Rattle.vc_syntax_tree.specs.Trees.{dependency_of}
use Rattle.vc_table.specs.declared.table.VariantTable.{VariantTable}
use Rattle.vc_types.specs.Faults.{fault_of}
use Rattle.vc_types.specs.Kinds.{number_of}
use Rattle.vc_types.specs.declared.fault.TypeFaultKind.{TypeFaultKind}
use Rattle.vc_types.specs.declared.place.At.{At}
use Rattle.vc_types.specs.declared.place.At.TheVariants as at
use Rattle.vc_types.specs.declared.place.Place.{Place}
use Rattle.vc_plan.specs.Bounds.{cell_bound}
use Rattle.vc_plan.specs.Domains.{numbers_below, atom_count}
use Rattle.vc_plan.specs.declared.plans.Plan.{Plan}
use Rattle.vc_plan.specs.declared.plans.Slot.{Slot}
use Rattle.vc_compile_plan.specs.Layouts.{Layout, layout_of}
use Rattle.vc_compile_plan.specs.Places.{place_at}
use Rattle.vc_compile_plan.specs.PlanOf.{plan_of}
use Rattle.vc_compile_plan.specs.Rules.{in_net}
use Rattle.vc_compile_plan.specs.Shown.{is_configurable}
use Rattle.vc_compile_plan.specs.Slots.{is_too_deep, has_too_many_slots}
use Rattle.vc_compile_plan.specs.Trees.{Spot}
use Rattle.vc_compile_plan.specs.Uses.{is_one_of, uses_of_members, object_of_slot}
use Rattle.vc_compile_plan.specs.declared.fault.CompileFault.{CompileFault}
use Rattle.vc_compile_plan.specs.declared.fault.CompileFault.TheVariants as faults

-- a tree where it is typed, with its line in the text
pub record Typed : Type 0 where
  pub line : ℕ
  pub place : Place
  pub tree : Dependency

-- the dependencies of these numbers, each at the place of its kind
abbrev pub typed_if : Model → (Dependency → Place) → ℕ → List Typed
typed_if model place d = of_named (slice_get model.dependencies d)
  where
    of_named : Option NamedDependency → List Typed
    of_named None = []
    of_named (Some named) =
        record { line = named.line; place = place (dependency_of named.tree); tree = dependency_of named.tree } ∷ []

abbrev pub typed_at : Model → (Dependency → Place) → List ℕ → List Typed
typed_at model place uses = flat_map (typed_if model place) uses

-- a procedure stands elsewhere than a condition at the same characteristic or value
abbrev pub at_of : Dependency → At
at_of (Procedure statements) = at.Procedure
at_of (Precondition condition) = at.Characteristic
at_of (Selection condition) = at.Characteristic
at_of (Constrains constraint) = at.Characteristic
at_of (Counts term) = at.Characteristic

-- the constraints that some net uses, active or not, once each
abbrev pub is_in_net : Model → ℕ → Bool
is_in_net model d = list_any (λ net. is_one_of net.constraints d) model.nets

abbrev pub typed_constraints : Model → List Typed
typed_constraints model =
    typed_at model (λ dependency. in_net) (filter (is_in_net model) (numbers_below (length model.dependencies)))

-- what stands at the object of a slot
abbrev pub typed_line : Layout → Slot → BillItem → List Typed
typed_line layout slot item =
    let place = place_at layout slot (at.Line (is_configurable item.component)) in
    record { line = item.line; place = place; tree = Counts (term_of item.quantity.value) }
    ∷ typed_at layout.model (λ dependency. place) item.uses

abbrev pub typed_operation : Layout → Slot → Operation → List Typed
typed_operation layout slot operation =
    let place = place_at layout slot at.Operation in
    record { line = operation.line; place = place; tree = Counts (term_of operation.time.value) }
    ∷ typed_at layout.model (λ dependency. place) operation.uses

abbrev pub typed_object : Layout → Slot → Option Object → List Typed
typed_object layout slot None = []
typed_object layout slot (Some object) =
    typed_at layout.model (λ dependency. place_at layout slot (at_of dependency))
    (object.procedures ++ uses_of_members layout.model (Some object))
    ++ (flat_map (typed_line layout slot) object.bill ++ flat_map (typed_operation layout slot) object.operations)

abbrev pub typed_slot : Layout → Slot → List Typed
typed_slot layout slot = typed_object layout slot (object_of_slot layout slot)

-- all that is typed, each at each of its places
abbrev pub typed_of : Layout → List Typed
typed_of layout = typed_constraints layout.model ++ flat_map (typed_slot layout) layout.slots

-- a fault of the typing, with its line
pub record TypeFault : Type 0 where
  pub line : ℕ
  pub kind : TypeFaultKind

abbrev pub fault_at : Model → Typed → Option TypeFault
fault_at model typed =
    option_map (λ kind. record { line = typed.line; kind = kind }) (fault_of model typed.place typed.tree)

abbrev pub type_faults : Layout → List TypeFault
type_faults layout = filter_map (fault_at layout.model) (typed_of layout)

-- the first line that has one, and there the least kind
abbrev pub is_before : TypeFault → TypeFault → Bool
is_before a b = nat_lt a.line b.line || ((a.line == b.line) && nat_lt (number_of a.kind) (number_of b.kind))

abbrev pub earlier : TypeFault → Option TypeFault → TypeFault
earlier a None = a
earlier a (Some b) = if is_before b a then b else a

abbrev pub first_of : List TypeFault → Option TypeFault
first_of [] = None
first_of (fault ∷ faults) = Some (earlier fault (first_of faults))

abbrev pub type_fault : Model → Option TypeFault
type_fault model = first_of (type_faults (layout_of model))

-- the sizes of a plan
abbrev pub most_rules : ℕ
most_rules = 20_000

abbrev pub most_atoms : ℕ
most_atoms = 40_000

abbrev pub most_cells : ℕ
most_cells = 500_000

abbrev pub has_too_many_rules : Plan → Bool
has_too_many_rules plan = nat_lt most_rules (length plan.rules)

abbrev pub has_too_many_atoms : Plan → Bool
has_too_many_atoms plan = nat_lt most_atoms (atom_count plan)

abbrev pub has_too_many_cells : Plan → Bool
has_too_many_cells plan = nat_lt most_cells (cell_bound plan)

-- levels and slots, then the typing, then rules, atoms and cells: what comes later isn't asked where something earlier
-- is found
abbrev pub size_fault : Plan → Option CompileFault
size_fault plan =
    let cells = if has_too_many_cells plan then Some faults.TooManyCells else None in
    let atoms = if has_too_many_atoms plan then Some faults.TooManyAtoms else cells in
    if has_too_many_rules plan then Some faults.TooManyRules else atoms

abbrev pub typing_fault_or : Option CompileFault → Option TypeFault → Option CompileFault
typing_fault_or later None = later
typing_fault_or later (Some fault) = Some (faults.Typing fault.kind fault.line)

abbrev pub compile_fault : Spot → Model → List VariantTable → Option CompileFault
compile_fault p model tables =
    let sizes = size_fault (plan_of p model tables) in
    let typing = typing_fault_or sizes (type_fault model) in
    let slots = if has_too_many_slots model then Some faults.TooManySlots else typing in
    if is_too_deep model then Some faults.TooDeep else slots
