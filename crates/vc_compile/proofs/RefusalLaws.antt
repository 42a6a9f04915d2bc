-- The first fault of a model with its tables, by what is found on the way to its plan.
use Rattle.std.proofs.Common.{◌≡◌, ◌<◌, Bool, true, false, List, length, refl, sym, ap, subst, ◌∙◌, Option, None, Some}
use Rattle.std.proofs.Common.{if◌then◌else◌}
use Rattle.vc_model_parts.specs.declared.parts.Model.{Model}
use Rattle.vc_table.specs.declared.table.VariantTable.{VariantTable}
use Rattle.vc_plan.specs.declared.plans.Plan.{Plan}
use Rattle.vc_compile_plan.specs.Layouts.{Layout, layout_of}
use Rattle.vc_compile_plan.specs.Numbering.{drafts_of}
use Rattle.vc_compile_plan.specs.PlanOf.{IsPlanOf, IsPlanOver, plan_of}
use Rattle.vc_compile_plan.specs.Refusals.{TypeFault, compile_fault, has_too_many_atoms, has_too_many_cells}
use Rattle.vc_compile_plan.specs.Refusals.{has_too_many_rules, most_rules, size_fault, type_fault, typing_fault_or}
use Rattle.vc_compile_plan.specs.Slots.{has_too_many_slots, is_too_deep}
use Rattle.vc_compile_plan.specs.Trees.{Spot}
use Rattle.vc_compile_plan.specs.declared.fault.CompileFault.{CompileFault}
use Rattle.vc_compile_plan.specs.declared.fault.CompileFault.TheVariants as faults
use Rattle.vc_compile_plan.specs.declared.standings.Standing.{Standing}
use Rattle.vc_compile_plan.proofs.PlanLaws.{defined_plans_are_ones}
use Rattle.vc_compile.specs.Compiled.{IsFaultOver, IsLaidOut, IsPlanWithin, IsRefusal, IsSizeFault, IsSound, IsTyped}
use Rattle.vc_compile.proofs.Above.{above, is_above}
use Rattle.vc_compile_parts.proofs.InTurnLaws.{rules_are_counted}
use Rattle.vc_compile.proofs.SizeLaws.{sizes_same}

-- the first fault by what is found of levels, slots, the typing and the sizes
abbrev first_fault : Bool → Bool → Option TypeFault → Option CompileFault → Option CompileFault
first_fault deep many typing sizes =
    let slots = if many then Some faults.TooManySlots else typing_fault_or sizes typing in
    if deep then Some faults.TooDeep else slots

fault_is : (p : Spot) (model : Model) (tables : List VariantTable) (deep many : Bool) (typing : Option TypeFault)
    (sizes : Option CompileFault) → is_too_deep model ≡ deep → has_too_many_slots model ≡ many
    → type_fault model ≡ typing
    → size_fault (plan_of p model tables) ≡ sizes → compile_fault p model tables ≡ first_fault deep many typing sizes
fault_is p model tables deep many typing sizes levels slots types large =
    ap (λ d. first_fault d (has_too_many_slots model) (type_fault model) (size_fault (plan_of p model tables))) levels
    ∙ ap (λ m. first_fault deep m (type_fault model) (size_fault (plan_of p model tables))) slots
    ∙ ap (λ t. first_fault deep many t (size_fault (plan_of p model tables))) types
    ∙ ap (first_fault deep many typing) large

pub deep_refuses : (model : Model) (tables : List VariantTable) → is_too_deep model ≡ true
    → IsRefusal model tables faults.TooDeep
deep_refuses model tables deep p =
    fault_is p model tables true (has_too_many_slots model) (type_fault model) (size_fault (plan_of p model tables))
    deep refl refl refl

pub slots_refuse : (model : Model) (tables : List VariantTable) → is_too_deep model ≡ false
    → has_too_many_slots model ≡ true
    → IsRefusal model tables faults.TooManySlots
slots_refuse model tables levels many p =
    fault_is p model tables false true (type_fault model) (size_fault (plan_of p model tables)) levels many refl refl

-- a size of one of its plans is one of all
size_of_all : (p : Spot) (model : Model) (tables : List VariantTable) (plan : Plan) (fault : Option CompileFault)
    → IsPlanOf model tables plan
    → size_fault plan ≡ fault → size_fault (plan_of p model tables) ≡ fault
size_of_all p model tables plan fault its large =
    sizes_same (layout_of model) (drafts_of (layout_of model)) tables (plan_of p model tables) plan
    (defined_plans_are_ones p model tables) its
    ∙ large

too_many_rules : (p : Spot) (model : Model) (tables : List VariantTable)
    → most_rules < length (drafts_of (layout_of model)).rules
    → size_fault (plan_of p model tables) ≡ Some faults.TooManyRules
too_many_rules p model tables many =
    ap (λ b. if b then Some faults.TooManyRules else (if has_too_many_atoms (plan_of p model tables)
    then Some faults.TooManyAtoms
    else (if has_too_many_cells (plan_of p model tables) then Some faults.TooManyCells else None)))
    (above _ _ (subst (λ n. most_rules < n) (sym (rules_are_counted (layout_of model))) many))

-- the fault by whether rules, atoms and cells are too many
abbrev size_by : Bool → Bool → Bool → Option CompileFault
size_by rules atoms cells =
    let last = if cells then Some faults.TooManyCells else None in
    let later = if atoms then Some faults.TooManyAtoms else last in
    if rules then Some faults.TooManyRules else later

-- which is of one of these three kinds, and of the first where there are too many rules
abbrev IsOfSizes : Bool → Option CompileFault → Type 0
IsOfSizes rules None = Unit {0}
IsOfSizes rules (Some faults.OutOfMemory) = ⊥
IsOfSizes rules (Some faults.TooDeep) = ⊥
IsOfSizes rules (Some faults.TooManySlots) = ⊥
IsOfSizes rules (Some faults.TooManyRules) = rules ≡ true
IsOfSizes rules (Some faults.TooManyAtoms) = Unit {0}
IsOfSizes rules (Some faults.TooManyCells) = Unit {0}
IsOfSizes rules (Some (faults.Typing kind line)) = ⊥

of_sizes : (rules atoms cells : Bool) → IsOfSizes rules (size_by rules atoms cells)
of_sizes true atoms cells = refl
of_sizes false true cells = tt
of_sizes false false true = tt
of_sizes false false false = tt

size_is : (plan : Plan) (fault : CompileFault) → size_fault plan ≡ Some fault
    → IsOfSizes (has_too_many_rules plan) (Some fault)
size_is plan fault large =
    subst (IsOfSizes (has_too_many_rules plan)) large
    (of_sizes (has_too_many_rules plan) (has_too_many_atoms plan) (has_too_many_cells plan))

-- a fault of the sizes of its plan refuses a layout
pub size_refuses : (layout : Layout) (tables : List VariantTable) (plan : Plan) (fault : CompileFault) → IsTyped layout
    → IsPlanOver layout (drafts_of layout) tables plan → IsSizeFault plan fault → IsFaultOver layout tables fault
size_refuses layout tables plan faults.OutOfMemory typed its large = tt
size_refuses layout tables plan faults.TooDeep typed its large = size_is plan faults.TooDeep large
size_refuses layout tables plan faults.TooManySlots typed its large = size_is plan faults.TooManySlots large
size_refuses layout tables plan faults.TooManyRules typed its large = record {
  typed = typed;
  many = subst (λ n. most_rules < n) (ap length its.rules ∙ rules_are_counted layout)
      (is_above _ _ (size_is plan faults.TooManyRules large));
}
size_refuses layout tables plan faults.TooManyAtoms typed its large =
    record { typed = typed; plan = plan; is_its = its; large = large }
size_refuses layout tables plan faults.TooManyCells typed its large =
    record { typed = typed; plan = plan; is_its = its; large = large }
size_refuses layout tables plan (faults.Typing kind line) typed its large =
    absurd (size_is plan (faults.Typing kind line) large)

-- what refuses a layout refuses the model
pub layout_refuses : (model : Model) (tables : List VariantTable) (standings : List Standing) (fault : CompileFault)
    → IsLaidOut model standings → IsFaultOver (layout_of model) tables fault → IsRefusal model tables fault
layout_refuses model tables standings faults.OutOfMemory laid found = tt
layout_refuses model tables standings faults.TooDeep laid found = absurd found
layout_refuses model tables standings faults.TooManySlots laid found = absurd found
layout_refuses model tables standings faults.TooManyRules laid found = λ p.
    fault_is p model tables false false None (Some faults.TooManyRules) laid.levels laid.slots found.typed
    (too_many_rules p model tables found.many)
layout_refuses model tables standings faults.TooManyAtoms laid found = λ p.
    fault_is p model tables false false None (Some faults.TooManyAtoms) laid.levels laid.slots found.typed
    (size_of_all p model tables found.plan (Some faults.TooManyAtoms) found.is_its found.large)
layout_refuses model tables standings faults.TooManyCells laid found = λ p.
    fault_is p model tables false false None (Some faults.TooManyCells) laid.levels laid.slots found.typed
    (size_of_all p model tables found.plan (Some faults.TooManyCells) found.is_its found.large)
layout_refuses model tables standings (faults.Typing kind line) laid found = λ p.
    fault_is p model tables false false (Some (record { line = line; kind = kind }))
    (size_fault (plan_of p model tables))
    laid.levels laid.slots found refl

-- a plan within its sizes makes its model sound
pub plan_is_sound : (model : Model) (tables : List VariantTable) (standings : List Standing) (plan : Plan)
    → IsLaidOut model standings → IsPlanWithin (layout_of model) tables plan → IsSound model tables
plan_is_sound model tables standings plan laid found p =
    fault_is p model tables false false None None laid.levels laid.slots found.typed
    (size_of_all p model tables plan None found.is_its found.within)
