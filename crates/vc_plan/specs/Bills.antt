-- The bill of materials and the routing of an evaluation that is settled.
use Rattle.std.specs.Prelude.{ℕ, zero, suc, ◌+◌, ℤ, Bool, true, false, ◌&&◌, ◌==◌, List, [], ◌∷◌, length, slice_get}
use Rattle.std.specs.Prelude.{Option, None, Some}
use Rattle.std.specs.List.{filter, find, flat_map, list_any}
use Rattle.vc_value.specs.declared.decimal.Dec.{Dec}
use Rattle.vc_plan.specs.declared.plans.Line.{Line}
use Rattle.vc_plan.specs.declared.plans.Operation.{Operation}
use Rattle.vc_plan.specs.declared.plans.Plan.{Plan}
use Rattle.vc_plan.specs.declared.plans.Selection.{Selection}
use Rattle.vc_plan.specs.declared.plans.Slot.{Slot}
use Rattle.vc_plan.specs.declared.shown.BillLine.{BillLine}
use Rattle.vc_plan.specs.declared.shown.OperationLine.{OperationLine}
use Rattle.vc_plan.specs.Domains.{numbers_below}
use Rattle.vc_plan.specs.Kleene.{is_true}
use Rattle.vc_plan.specs.Parts.{amount_at, quantity_of}
use Rattle.vc_plan.specs.Readings.{Reading}
use Rattle.vc_plan.specs.Seen.{Seen}
use Rattle.vc_plan.specs.Slots.{stands_for}
use Rattle.vc_plan.specs.Truth.{truth_at}

-- an amount as a stored number
abbrev pub stored : Option ℤ → Option Dec
stored None = None
stored (Some z) = Some (record { millionths = z })

-- the slot that stands for the line of this number, where that is configurable
abbrev pub is_for_line : ℕ → Option Slot → Bool
is_for_line n None = false
is_for_line n (Some slot) = stands_for n slot

abbrev pub component_of : Plan → ℕ → Option ℕ
component_of plan n = find (λ j. is_for_line n (slice_get plan.slots j)) (numbers_below (length plan.slots))

-- selection conditions: none are met, or one of them is True
abbrev pub is_selected : Plan → Reading → List Selection → Bool
is_selected plan reading [] = true
is_selected plan reading (selection ∷ selections) =
    list_any (λ s. is_true (truth_at plan reading s.condition)) (selection ∷ selections)

-- whether the line of an instance is taken: a configurable one where its slot is here, another by its selection
-- conditions
abbrev pub takes_line : Plan → Seen → Reading → Line → Option ℕ → Bool
takes_line plan seen reading line None = is_selected plan reading line.selections
takes_line plan seen reading line (Some j) = seen.here j

abbrev pub is_line_of : Plan → Seen → Reading → ℕ → ℕ → Option Line → Bool
is_line_of plan seen reading i n None = false
is_line_of plan seen reading i n (Some line) = (line.slot == i)
    && takes_line plan seen reading line (component_of plan n)

-- the lines of an instance that are taken, in item order
abbrev pub lines_of : Plan → Seen → Reading → ℕ → List ℕ
lines_of plan seen reading i =
    filter (λ n. is_line_of plan seen reading i n (slice_get plan.lines n)) (numbers_below (length plan.lines))

abbrev pub bill_line : Plan → Reading → ℕ → ℕ → ℕ → BillLine
bill_line plan reading level i n =
    record { level = level; slot = i; line = n; quantity = stored (quantity_of plan reading n) }

-- what follows a line: the bill of its component, if it is configurable
abbrev pub below : (ℕ → List BillLine) → Option ℕ → List BillLine
below bill None = []
below bill (Some j) = bill j

-- the bill of an instance: each line that is taken, and after it its component's bill; so many levels at most
abbrev pub bill_from : Plan → Seen → Reading → ℕ → ℕ → ℕ → List BillLine
bill_from plan seen reading zero level i = []
bill_from plan seen reading (suc levels) level i =
    flat_map (λ n. bill_line plan reading level i n
    ∷ below (bill_from plan seen reading levels (level + 1)) (component_of plan n))
    (lines_of plan seen reading i)

-- the bill of an instance whole: there are no more levels than slots
abbrev pub own_bill : Plan → Seen → Reading → ℕ → ℕ → List BillLine
own_bill plan seen reading level i = bill_from plan seen reading (length plan.slots) level i

-- that of the root
abbrev pub bill_of : Plan → Seen → Reading → List BillLine
bill_of plan seen reading = own_bill plan seen reading 1 0

-- whether an operation is taken: its instance is here, and its selection conditions are met
abbrev pub takes_operation : Plan → Seen → Reading → Option Operation → Bool
takes_operation plan seen reading None = false
takes_operation plan seen reading (Some operation) = seen.here operation.slot
    && is_selected plan reading operation.selections

abbrev pub operation_line : Plan → Reading → ℕ → Option Operation → List OperationLine
operation_line plan reading n None = []
operation_line plan reading n (Some operation) =
    record { slot = operation.slot; operation = n; time = stored (amount_at plan reading operation.time) } ∷ []

-- the routing: the operations that are taken, by slot and number
abbrev pub routing_of : Plan → Seen → Reading → List OperationLine
routing_of plan seen reading =
    flat_map (λ n. operation_line plan reading n (slice_get plan.operations n))
    (filter (λ n. takes_operation plan seen reading (slice_get plan.operations n))
    (numbers_below (length plan.operations)))
