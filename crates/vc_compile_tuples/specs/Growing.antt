-- Tuples that grow slot by slot.
use Rattle.std.specs.Prelude.{◌≡◌, ◌≤◌, ◌<◌, ℕ, suc, Bool, true, false, not, ◌&&◌, ◌==◌, List, [], ◌∷◌, ◌++◌, length}
use Rattle.std.specs.Prelude.{map, flat_map, if◌then◌else◌, Option, Some}
use Rattle.std.specs.List.{filter, list_any}
use Rattle.vc_syntax_tree.specs.declared.Object.{Object}
use Rattle.vc_syntax_tree.specs.declared.ObjectKind.{ObjectKind}
use Rattle.vc_plan.specs.declared.plans.Slot.{Slot}
use Rattle.vc_syntax_tree.specs.declared.ObjectKind.TheVariants as objects
use Rattle.vc_model_parts.specs.declared.parts.Model.{Model}
use Rattle.vc_types.specs.Looking.{class_of, class_named, object_named}
use Rattle.vc_compile_plan.specs.Tuples.{are_same}
use Rattle.vc_compile_tuples.specs.Parts.{are_met, may_be}
use Rattle.vc_compile_tuples.specs.declared.parts.Part.{Part}

-- whether an object is one of the class, or of the material, named
abbrev pub is_kind : Model → ObjectKind → Option ℕ → Bool
is_kind model (objects.Class leaf) object = are_same (class_named model leaf.name) (class_of model object)
is_kind model (objects.Material leaf) object = are_same (object_named model leaf.text) object

-- the slots whose objects are of a kind; the first of these slots has this number
abbrev pub choice_from : Model → ObjectKind → ℕ → List Slot → List ℕ
choice_from model kind i [] = []
choice_from model kind i (slot ∷ slots) =
    if is_kind model kind (Some slot.object)
    then (i ∷ choice_from model kind (suc i) slots)
    else choice_from model kind (suc i) slots

abbrev pub choices_of : Model → List Slot → List Object → List (List ℕ)
choices_of model slots objects = map (λ object. choice_from model object.kind 0 slots) objects

-- whether a slot may stand behind those that are chosen
abbrev pub fits : List Slot → List Part → List ℕ → ℕ → Bool
fits slots parts front i = not (list_any (λ j. j == i) front) && may_be slots parts (front ++ i ∷ [])

-- the tuples that begin so and go on by a slot of each choice
abbrev pub below : List Slot → List Part → List ℕ → List (List ℕ) → List (List ℕ)
below slots parts front [] = if are_met slots parts front then front ∷ [] else []
below slots parts front (choice ∷ choices) =
    flat_map (λ i. if fits slots parts front i then below slots parts (front ++ i ∷ []) choices else []) choice

-- how putting tuples behind others ends: all fit, or there are more than so many
abbrev pub Adds : ℕ → Bool → List (List ℕ) → List (List ℕ) → List (List ℕ) → Type 0
Adds most true before after more = (after ≡ before ++ more) × (length after ≤ most)
Adds most false before after more = most < length (before ++ more)
