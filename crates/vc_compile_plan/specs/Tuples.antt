-- The tuples of slots that a constraint speaks of.
use Rattle.std.specs.Prelude.{ℕ, zero, suc, Bool, true, false, not, ◌&&◌, ◌==◌, List, [], ◌∷◌, length, map, flat_map}
use Rattle.std.specs.Prelude.{slice_get, Option, None, Some}
use Rattle.std.specs.List.{filter, list_all, list_any, position_or_len}
use Rattle.vc_syntax_tree.specs.declared.Object.{Object}
use Rattle.vc_syntax_tree.specs.declared.ObjectKind.{ObjectKind}
use Rattle.vc_syntax_tree.specs.declared.ObjectKind.TheVariants as objects
use Rattle.vc_syntax_tree.specs.Trees.{Condition, Or, And, Not, Related, Specified, PartOf, Constraint}
use Rattle.vc_plan.specs.Domains.{numbers_below}
use Rattle.vc_types.specs.Looking.{class_of, class_named, object_named}
use Rattle.vc_types.specs.Occurrences.{if_there}
use Rattle.vc_types.specs.PlaceFaults.{joined_parts}
use Rattle.vc_plan.specs.Orders.{is_number}
use Rattle.vc_plan.specs.Seen.{parent_in}
use Rattle.vc_compile_plan.specs.Layouts.{Layout, object_at}
use Rattle.vc_compile_plan.specs.Sites.{is_called}

-- all tuples of so many of the numbers, in ascending order, compared from the first
abbrev pub tuples_from : List ℕ → ℕ → List (List ℕ)
tuples_from numbers zero = [] ∷ []
tuples_from numbers (suc n) = let shorter = tuples_from numbers n in
    flat_map (λ i. map (λ tuple. i ∷ tuple) shorter) numbers

-- whether both are there and the same
abbrev pub are_same : Option ℕ → Option ℕ → Bool
are_same None b = false
are_same (Some a) b = is_number a b

-- whether an object is one of the class, or of the material, named
abbrev pub is_of_kind : Layout → ObjectKind → Option ℕ → Bool
is_of_kind layout (objects.Class leaf) object =
    are_same (class_named layout.model leaf.name) (class_of layout.model object)
is_of_kind layout (objects.Material leaf) object = are_same (object_named layout.model leaf.text) object

-- whether each slot of a tuple has an object as its place in the constraint says
abbrev pub are_of_kinds : Layout → List Object → List ℕ → Bool
are_of_kinds layout [] tuple = true
are_of_kinds layout (object ∷ objects) [] = false
are_of_kinds layout (object ∷ objects) (i ∷ tuple) =
    is_of_kind layout object.kind (object_at layout i) && are_of_kinds layout objects tuple

-- whether no slot stands twice
abbrev pub are_different : List ℕ → Bool
are_different [] = true
are_different (i ∷ tuple) = not (list_any (λ j. j == i) tuple) && are_different tuple

-- the slot of a variable's object
abbrev pub slot_called : List Object → List ℕ → List ℕ → Option ℕ
slot_called declared tuple name = slice_get tuple (position_or_len (is_called name) declared)

-- whether a part of a constraint's CONDITION is met by the slots alone: PART_OF asks for the slot above another
abbrev pub slot_above : Layout → Option ℕ → Option ℕ
slot_above layout None = None
slot_above layout (Some i) = parent_in (slice_get layout.slots i)

abbrev pub is_part_met : Layout → List Object → List ℕ → Condition → Bool
is_part_met layout declared tuple (PartOf part whole) =
    are_same (slot_called declared tuple whole.name) (slot_above layout (slot_called declared tuple part.name))
is_part_met layout declared tuple (Or left right) = true
is_part_met layout declared tuple (And left right) = true
is_part_met layout declared tuple (Not condition) = true
is_part_met layout declared tuple (Related relation) = true
is_part_met layout declared tuple (Specified operand) = true

abbrev pub are_parts_met : Layout → List Object → Option Condition → List ℕ → Bool
are_parts_met layout declared condition tuple =
    list_all (is_part_met layout declared tuple) (if_there joined_parts condition)

-- whether a tuple matches the constraint
abbrev pub matches : Layout → Constraint → List ℕ → Bool
matches layout constraint tuple =
    (are_of_kinds layout constraint.objects tuple && are_different tuple)
    && are_parts_met layout constraint.objects constraint.condition tuple

-- the matching ones of all tuples
abbrev pub tuples_of : Layout → Constraint → List (List ℕ)
tuples_of layout constraint =
    filter (matches layout constraint) (tuples_from (numbers_below (length layout.slots)) (length constraint.objects))

-- what CONDITION asks of values: all but its PART_OFs; nothing where there is nothing else
abbrev pub both : Option Condition → Option Condition → Option Condition
both None condition = condition
both (Some left) None = Some left
both (Some left) (Some right) = Some (And left right)

abbrev pub without_parts : Condition → Option Condition
without_parts (And left right) = both (without_parts left) (without_parts right)
without_parts (PartOf part whole) = None
without_parts (Or left right) = Some (Or left right)
without_parts (Not condition) = Some (Not condition)
without_parts (Related relation) = Some (Related relation)
without_parts (Specified operand) = Some (Specified operand)

abbrev pub asked_of : Option Condition → Option Condition
asked_of None = None
asked_of (Some condition) = without_parts condition
