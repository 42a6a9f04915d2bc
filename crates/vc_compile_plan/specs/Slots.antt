-- Slots: the root object and, below each, one for each line of its bill that has an object, in preorder.
use Rattle.std.specs.Prelude.{ℕ, zero, suc, ◌+◌, Bool, true, nat_lt, List, [], ◌∷◌, ◌++◌, length, map, take, slice_get}
use Rattle.std.specs.Prelude.{Option, None, Some, filter_map, sum_by}
use Rattle.std.specs.List.{list_any}
use Rattle.vc_model_parts.specs.declared.parts.BillItem.{BillItem}
use Rattle.vc_model_parts.specs.declared.parts.Component.{Component}
use Rattle.vc_model_parts.specs.declared.parts.Component.TheVariants as components
use Rattle.vc_model_parts.specs.declared.parts.Model.{Model}
use Rattle.vc_model_parts.specs.declared.parts.Object.{Object}
use Rattle.vc_plan.specs.declared.plans.Slot.{Slot}
use Rattle.vc_compile_plan.specs.declared.standings.Standing.{Standing}

-- the bill of an object; none where the model has no such object
abbrev pub bill_in : Option Object → List BillItem
bill_in None = []
bill_in (Some object) = object.bill

abbrev pub bill_of : Model → ℕ → List BillItem
bill_of model o = bill_in (slice_get model.objects o)

abbrev pub bill_if : Model → Option ℕ → List BillItem
bill_if model None = []
bill_if model (Some o) = bill_of model o

-- the object of a line, if it is configurable
abbrev pub object_in : Component → Option ℕ
object_in (components.Object o) = Some o
object_in (components.Plain material) = None

abbrev pub components_of : Model → ℕ → List ℕ
components_of model o = filter_map (λ line. object_in line.component) (bill_of model o)

-- what stands for a line: nothing where it has no object
abbrev pub for_line : (ℕ → List Standing) → Option ℕ → List Standing
for_line brought None = []
for_line brought (Some o) = brought o

-- what stands for lines, one after another; the first is the line, and the slot, of this number
abbrev pub for_lines : (ℕ → ℕ → ℕ → List Standing) → ℕ → ℕ → List BillItem → List Standing
for_lines brought item number [] = []
for_lines brought item number (line ∷ lines) =
    let first = for_line (brought item number) (object_in line.component) in
    first ++ for_lines brought (suc item) (number + length first) lines

-- an object that stands below a slot for a line, as the slot of this number, with all that stands below it; so many
-- levels in all
abbrev pub standings_from : Model → ℕ → Option ℕ → ℕ → ℕ → ℕ → ℕ → List Standing
standings_from model zero parent depth item number o = []
standings_from model (suc levels) parent depth item number o =
    record { parent = parent; depth = depth; object = o; item = item }
    ∷ for_lines (standings_from model levels (Some number) (suc depth)) 0 (suc number) (bill_of model o)

-- a model has no more levels of slots than these
abbrev pub most_levels : ℕ
most_levels = 4

abbrev pub standings_of : Model → List Standing
standings_of model = standings_from model most_levels None 0 0 0 model.root

-- the number, among the plan's lines, of a line of a slot: the lines of all slots before it come first
abbrev pub line_number : Model → List Standing → Option ℕ → ℕ → ℕ
line_number model standings None item = 0
line_number model standings (Some i) item =
    sum_by (λ standing. length (bill_of model standing.object)) (take i standings) + item

abbrev pub slot_of : Model → List Standing → Standing → Slot
slot_of model standings standing = record {
  parent = standing.parent;
  depth = standing.depth;
  object = standing.object;
  line = line_number model standings standing.parent standing.item;
}

abbrev pub slots_of : Model → List Slot
slots_of model = let standings = standings_of model in map (slot_of model standings) standings

-- whether components of components stand so many levels below the object
abbrev pub has_levels_below : Model → ℕ → ℕ → Bool
has_levels_below model zero o = true
has_levels_below model (suc levels) o = list_any (has_levels_below model levels) (components_of model o)

-- whether there are more levels of slots than there may be, and more slots
abbrev pub is_too_deep : Model → Bool
is_too_deep model = has_levels_below model most_levels model.root

abbrev pub most_slots : ℕ
most_slots = 40

abbrev pub has_too_many_slots : Model → Bool
has_too_many_slots model = nat_lt most_slots (length (slots_of model))
