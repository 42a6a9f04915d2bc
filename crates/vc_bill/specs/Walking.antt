-- What each line and each operation adds to a bill and a routing.
use Rattle.std.specs.Prelude.{ℕ, ◌+◌, if◌then◌else◌, List, [], ◌∷◌, slice_get, Option}
use Rattle.vc_plan.specs.declared.plans.Operation.{Operation}
use Rattle.vc_plan.specs.declared.plans.Plan.{Plan}
use Rattle.vc_plan.specs.declared.shown.BillLine.{BillLine}
use Rattle.vc_plan.specs.declared.shown.OperationLine.{OperationLine}
use Rattle.vc_plan.specs.Bills.{below, bill_from, bill_line, component_of, is_line_of, operation_line, takes_operation}
use Rattle.vc_plan.specs.Readings.{Reading}
use Rattle.vc_plan.specs.Seen.{Seen}

-- a line and its component's bill of so many levels
abbrev pub with_component_bill : Plan → Seen → Reading → ℕ → ℕ → ℕ → ℕ → List BillLine
with_component_bill plan seen reading levels level i n =
    bill_line plan reading level i n ∷ below (bill_from plan seen reading levels (level + 1)) (component_of plan n)

-- the same where the line is one of the instance and taken
abbrev pub line_bill : Plan → Seen → Reading → ℕ → ℕ → ℕ → ℕ → List BillLine
line_bill plan seen reading levels level i n =
    let rows = with_component_bill plan seen reading levels level i n in
    if is_line_of plan seen reading i n (slice_get plan.lines n) then rows else []

-- an operation, where it is taken
abbrev pub taken_operation : Plan → Seen → Reading → ℕ → Option Operation → List OperationLine
taken_operation plan seen reading n operation =
    let rows
    = operation_line plan reading n operation in if takes_operation plan seen reading operation then rows else []
