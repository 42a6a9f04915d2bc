-- The texts of bills and routings.
use Rattle.std.specs.Prelude.{ℕ, nat_lt, if◌then◌else◌, List, [], ◌++◌, codes, slice_get, Option, None, Some}
use Rattle.std.specs.List.{flat_map}
use Rattle.std.specs.Fmt.{decimal}
use Rattle.vc_value.specs.declared.decimal.Dec.{Dec}
use Rattle.vc_value.specs.Numerals.{number_text}
use Rattle.vc_plan.specs.declared.plans.Line as bill
use Rattle.vc_plan.specs.declared.plans.Operation.{Operation}
use Rattle.vc_plan.specs.declared.plans.Plan.{Plan}
use Rattle.vc_plan.specs.declared.shown.BillLine.{BillLine}
use Rattle.vc_plan.specs.declared.shown.OperationLine.{OperationLine}

-- a word and a space
abbrev pub spaced : List ℕ → List ℕ
spaced word = word ++ codes " "

-- a number with zeros in front, at least four digits
abbrev pub zeros : ℕ → List ℕ
zeros n = if nat_lt n 10
    then codes "000" else (if nat_lt n 100 then codes "00" else (if nat_lt n 1_000 then codes "0" else []))

abbrev pub four_digits : ℕ → List ℕ
four_digits n = zeros n ++ decimal n

-- an amount; `?` where it is missing
abbrev pub amount_text : Option Dec → List ℕ
amount_text None = codes "?"
amount_text (Some amount) = number_text amount

-- an amount, its unit and the line's end
abbrev pub measured : Option Dec → List ℕ → List ℕ
measured amount unit = spaced (amount_text amount) ++ (unit ++ codes "\n")

-- `LEVEL ITEM MATERIAL QUANTITY UNIT`
abbrev pub bill_line : BillLine → bill.Line → List ℕ
bill_line row line = spaced (decimal row.level)
    ++ (spaced (four_digits line.item) ++ (spaced line.material ++ measured row.quantity line.unit))

abbrev pub bill_line_if : BillLine → Option bill.Line → List ℕ
bill_line_if row None = []
bill_line_if row (Some line) = bill_line row line

abbrev pub bill_row : Plan → BillLine → List ℕ
bill_row plan row = bill_line_if row (slice_get plan.lines row.line)

abbrev pub bill_text : Plan → List BillLine → List ℕ
bill_text plan rows = flat_map (bill_row plan) rows

-- `SLOT NUMBER CENTRE TIME UNIT`
abbrev pub operation_line : OperationLine → Operation → List ℕ
operation_line row operation =
    spaced (decimal row.slot)
    ++ (spaced (four_digits operation.number) ++ (spaced operation.name ++ measured row.time operation.unit))

abbrev pub operation_line_if : OperationLine → Option Operation → List ℕ
operation_line_if row None = []
operation_line_if row (Some operation) = operation_line row operation

abbrev pub routing_row : Plan → OperationLine → List ℕ
routing_row plan row = operation_line_if row (slice_get plan.operations row.operation)

abbrev pub routing_text : Plan → List OperationLine → List ℕ
routing_text plan rows = flat_map (routing_row plan) rows
