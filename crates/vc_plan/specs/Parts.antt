-- The parts of an instance, their quantities, and sums over them.
use Rattle.std.specs.Prelude.{ℕ, ℤ, pos, ◌^◌, Bool, false, ◌&&◌, ◌==◌, nat_lt, if◌then◌else◌, unsigned_abs, List, []}
use Rattle.std.specs.Prelude.{◌∷◌, length, map, slice_get, Option, None, Some, is_some}
use Rattle.std.specs.List.{filter, find}
use Rattle.vc_plan.specs.declared.conditions.Kleene.TheVariants.{False}
use Rattle.vc_plan.specs.declared.plans.Line.{Line}
use Rattle.vc_plan.specs.declared.plans.Plan.{Plan}
use Rattle.vc_plan.specs.declared.plans.Slot.{Slot}
use Rattle.vc_plan.specs.declared.plans.Var.{Var}
use Rattle.vc_plan.specs.declared.terms.Operator.TheVariants.{Plus, Times}
use Rattle.vc_plan.specs.Domains.{numbers_below, texts_of}
use Rattle.vc_plan.specs.Entries.{Entries, value_read}
use Rattle.vc_plan.specs.Numbers.{joined}
use Rattle.vc_plan.specs.Orders.{is_number}
use Rattle.vc_plan.specs.Readings.{Reading}
use Rattle.vc_plan.specs.Seen.{Seen, parent_in}
use Rattle.vc_plan.specs.Truth.{number_of_value, value_at}

-- what is read where no part sums are: by the entries first, then by the stage, and the user's sets
abbrev pub line_reading : Plan → Seen → Entries → (ℕ → ℕ → Bool) → Reading
line_reading plan seen entries holds = record {
  value = value_read seen entries;
  texts = λ set. filter (holds set) (texts_of plan set);
  part_sum = λ slot characteristic. None;
  part_count = λ slot. None;
  unspecified = False;
}

-- a quantity or a time, in millionths; there is none of a size of 10^9 or more
abbrev pub amount_of : Option ℤ → Option ℤ
amount_of None = None
amount_of (Some z) = if nat_lt (unsigned_abs z) (10 ^ 15) then Some z else None

abbrev pub amount_at : Plan → Reading → ℕ → Option ℤ
amount_at plan reading term = amount_of (number_of_value (value_at plan reading term))

-- the quantity of the line of this number
abbrev pub quantity_in : Plan → Reading → Option Line → Option ℤ
quantity_in plan reading None = None
quantity_in plan reading (Some line) = amount_at plan reading line.quantity

abbrev pub quantity_of : Plan → Reading → ℕ → Option ℤ
quantity_of plan reading n = quantity_in plan reading (slice_get plan.lines n)

-- whether the slot's parent is this one
abbrev pub is_part : Plan → ℕ → ℕ → Bool
is_part plan i j = is_number i (parent_in (slice_get plan.slots j))

-- the instances that are parts of this one: here, and directly below
abbrev pub parts_of : Plan → Seen → ℕ → List ℕ
parts_of plan seen i = filter (λ j. is_part plan i j && seen.here j) (numbers_below (length plan.slots))

-- the quantity of the line that a part stands for
abbrev pub line_in : Option Slot → ℕ
line_in None = 0
line_in (Some slot) = slot.line

abbrev pub part_quantity : Plan → Reading → ℕ → Option ℤ
part_quantity plan reading j = quantity_of plan reading (line_in (slice_get plan.slots j))

-- the slot's variable of the characteristic, if its class has that
abbrev pub is_var_of : ℕ → ℕ → Option Var → Bool
is_var_of slot characteristic None = false
is_var_of slot characteristic (Some x) = (x.slot == slot) && (x.characteristic == characteristic)

abbrev pub var_of : Plan → ℕ → ℕ → Option ℕ
var_of plan slot characteristic =
    find (λ v. is_var_of slot characteristic (slice_get plan.vars v)) (numbers_below (length plan.vars))

-- the sum, if all of them are there
abbrev pub total : List (Option ℤ) → Option ℤ
total [] = Some (pos 0)
total (x ∷ xs) = joined Plus x (total xs)

-- quantity times value of a part with the characteristic
abbrev pub weighed : Reading → Option ℤ → Option ℕ → Option ℤ
weighed reading quantity None = None
weighed reading quantity (Some v) = joined Times quantity (number_of_value (reading.value v))

abbrev pub part_weight : Plan → Reading → ℕ → ℕ → Option ℤ
part_weight plan reading characteristic j =
    weighed reading (part_quantity plan reading j) (var_of plan j characteristic)

-- the sum, over the parts that have the characteristic, of quantity times value
abbrev pub sum_of_parts : Plan → Seen → Reading → ℕ → ℕ → Option ℤ
sum_of_parts plan seen reading i characteristic =
    total (map (part_weight plan reading characteristic)
    (filter (λ j. is_some (var_of plan j characteristic)) (parts_of plan seen i)))

-- the sum of the quantities of the parts
abbrev pub count_of_parts : Plan → Seen → Reading → ℕ → Option ℤ
count_of_parts plan seen reading i = total (map (part_quantity plan reading) (parts_of plan seen i))

-- what procedures read: the same, and sums over the parts
abbrev pub procedure_reading : Plan → Seen → Entries → (ℕ → ℕ → Bool) → Reading
procedure_reading plan seen entries holds =
    let reading = line_reading plan seen entries holds in record {
      value = reading.value;
      texts = reading.texts;
      part_sum = sum_of_parts plan seen reading;
      part_count = count_of_parts plan seen reading;
      unspecified = False;
    }
