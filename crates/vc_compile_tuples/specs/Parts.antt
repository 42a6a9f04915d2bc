-- PART_OF between objects of a constraint, by their places among its objects.
use Rattle.std.specs.Prelude.{ℕ, Bool, true, ◌&&◌, List, [], ◌∷◌, ◌++◌, length, nat_lt, slice_get, if◌then◌else◌}
use Rattle.std.specs.Prelude.{Option, None, Some}
use Rattle.std.specs.List.{list_all, position_or_len}
use Rattle.vc_syntax_tree.specs.declared.Object.{Object}
use Rattle.vc_syntax_tree.specs.Trees.{Condition, Or, And, Not, Related, Specified, PartOf}
use Rattle.vc_plan.specs.Seen.{parent_in}
use Rattle.vc_plan.specs.declared.plans.Slot.{Slot}
use Rattle.vc_compile_plan.specs.Sites.{is_called}
use Rattle.vc_compile_plan.specs.Tuples.{are_same}
use Rattle.vc_compile_tuples.specs.declared.parts.Part.{Part}

-- those that AND joins at the top of a condition
abbrev pub parts_in : List Object → Condition → List Part
parts_in declared (And left right) = parts_in declared left ++ parts_in declared right
parts_in declared (PartOf part whole) =
    record {
      part = position_or_len (is_called part.name) declared;
      whole = position_or_len
          (is_called whole.name) declared;
    } ∷ []
parts_in declared (Or left right) = []
parts_in declared (Not condition) = []
parts_in declared (Related relation) = []
parts_in declared (Specified operand) = []

abbrev pub parts_of : List Object → Option Condition → List Part
parts_of declared None = []
parts_of declared (Some condition) = parts_in declared condition

-- the slot above another
abbrev pub above : List Slot → Option ℕ → Option ℕ
above slots None = None
above slots (Some i) = parent_in (slice_get slots i)

-- whether the slot of the whole is above that of the part
abbrev pub is_met : List Slot → List ℕ → Part → Bool
is_met slots tuple part = are_same (slice_get tuple part.whole) (above slots (slice_get tuple part.part))

abbrev pub are_met : List Slot → List Part → List ℕ → Bool
are_met slots parts tuple = list_all (is_met slots tuple) parts

-- whether it may be met yet, where a tuple is begun: both slots are chosen, and it is, or one isn't
abbrev pub are_chosen : List ℕ → Part → Bool
are_chosen tuple part = nat_lt part.part (length tuple) && nat_lt part.whole (length tuple)

abbrev pub may_be_met : List Slot → List ℕ → Part → Bool
may_be_met slots tuple part = if are_chosen tuple part then is_met slots tuple part else true

abbrev pub may_be : List Slot → List Part → List ℕ → Bool
may_be slots parts tuple = list_all (may_be_met slots tuple) parts
