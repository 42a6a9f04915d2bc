-- Worked rows of the texts of bills and routings, by computing. Beside what is so stands what would be so by a likely
-- slip, and
-- isn't.
use Rattle.std.proofs.Common.{◌≡◌, ℕ, ◌*◌, pos, negsuc, List, [], ◌∷◌, map, refl, ap, arith}
use Rattle.std.specs.Prelude.{None, Some, codes, slice_index_or, ◌≢◌}
use Rattle.std.specs.Fmt.{digits}
use Rattle.vc_plan.specs.declared.plans.Line.{Line}
use Rattle.vc_plan.specs.declared.plans.Plan.{Plan}
use Rattle.vc_plan.specs.declared.shown.BillLine.{BillLine}
use Rattle.vc_plan.proofs.PlanRows.Models.{empty}
use Rattle.vc_bill.specs.Texts.{amount_text, bill_text, four_digits, routing_text}

abbrev line : ℕ → List ℕ → Line
line item material =
    record { slot = 0; item = item; material = material; unit = codes "PC"; quantity = 0; selections = [] }

abbrev row : ℕ → ℕ → BillLine
row n quantity = record {
  level = 1;
  slot = 0;
  line = n;
  quantity =
      Some (record { millionths = pos (quantity * 1_000_000) });
}

-- GEAR's three parts
abbrev gear : Plan
gear = record empty { lines = line 10 (codes "P1") ∷ line 20 (codes "P2") ∷ line 30 (codes "P3") ∷ [] }

three_parts : bill_text gear (row 0 1 ∷ row 1 2 ∷ row 2 1 ∷ [])
    ≡ codes "1 0010 P1 1 PC\n1 0020 P2 2 PC\n1 0030 P3 1 PC\n"
unfolding digits
three_parts = refl

-- MACH's drive, and nothing where it isn't driven
abbrev machine : Plan
machine = record empty { lines = line 10 (codes "DRIVE") ∷ [] }

driven : bill_text machine (row 0 1 ∷ []) ≡ codes "1 0010 DRIVE 1 PC\n"
unfolding digits
driven = refl

not_driven : bill_text machine [] ≡ []
unfolding digits
not_driven = refl

-- PUMP's housing and seal, and its assembly without a time and with one
abbrev pump : Plan
pump = record empty {
  lines = line 10 (codes "HOUSING") ∷ line 20 (codes "SEAL") ∷ [];
  operations = record { slot = 0; number = 10; name = codes "ASSY"; unit = codes "MIN"; time = 0; selections = [] }
      ∷ [];
}

large : bill_text pump (row 0 1 ∷ row 1 2 ∷ []) ≡ codes "1 0010 HOUSING 1 PC\n1 0020 SEAL 2 PC\n"
unfolding digits
large = refl

no_time : routing_text pump (record { slot = 0; operation = 0; time = None } ∷ []) ≡ codes "0 0010 ASSY ? MIN\n"
unfolding digits
no_time = refl

with_flow : routing_text pump
    (record { slot = 0; operation = 0; time = Some (record { millionths = pos 17_500_000 }) } ∷ [])
    ≡ codes "0 0010 ASSY 17.5 MIN\n"
unfolding digits
with_flow = refl

no_time_is_none : routing_text pump (record { slot = 0; operation = 0; time = None } ∷ []) ≢ codes "0 0010 ASSY 0 MIN\n"
unfolding digits
no_time_is_none e = let told : 63 ≡ 48 = ap (λ text. slice_index_or text 12 0) e in absurd (omega (arith, told))

-- items of one to four digits
items : map four_digits (0 ∷ 9 ∷ 10 ∷ 100 ∷ 1_000 ∷ 9_999 ∷ [])
    ≡ codes "0000" ∷ codes "0009" ∷ codes "0010" ∷ codes "0100" ∷ codes "1000" ∷ codes "9999" ∷ []
unfolding digits
items = refl

amounts : map amount_text
    (None ∷ Some (record { millionths = pos 1 }) ∷ Some (record { millionths = negsuc 2_499_999 }) ∷ [])
    ≡ codes "?" ∷ codes "0.000001" ∷ codes "-2.5" ∷ []
unfolding digits
amounts = refl
