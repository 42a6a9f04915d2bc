-- GEAR: a total over three parts, and bills of more levels.
use Rattle.std.proofs.Common.{◌≡◌, ℕ, ◌+◌, ◌*◌, pos, true, false, map, [], ◌∷◌, refl}
use Rattle.std.specs.Prelude.{None, Some, ◌≢◌}
use Rattle.vc_value.specs.declared.table_header.Domain.TheVariants.{Nums}
use Rattle.vc_value.specs.declared.value.Value.{Value}
use Rattle.vc_plan.specs.declared.atoms.Atom.TheVariants.{Here, Is}
use Rattle.vc_plan.specs.declared.plans.Plan.{Plan}
use Rattle.vc_plan.specs.declared.plans.Slot.{Slot}
use Rattle.vc_plan.specs.declared.plans.Var.{Var}
use Rattle.vc_plan.specs.declared.procedures.Action.TheVariants.{Assign}
use Rattle.vc_plan.specs.declared.rules.Kind.TheVariants.{Line}
use Rattle.vc_plan.specs.declared.shown.BillLine.{BillLine}
use Rattle.vc_plan.specs.declared.terms.Term.TheVariants.{Literal, PartSum, PartCount}
use Rattle.vc_plan.specs.Shown.{bill}
use Rattle.vc_plan.proofs.PlanRows.Models.{empty, root, own_rule, last, number, whole, from_to}
use Rattle.vc_plan.proofs.StageRows.StageModels.{always, chosen, ends_at, line, says}

abbrev part : ℕ → Slot
part n = record { parent = Some 0; depth = 1; object = n + 1; line = n }

abbrev weight : ℕ → Var
weight slot = record { slot = slot; characteristic = 0; domain = 0; restrictable = false }

-- variable 0 is TOTAL, of the root; variables 1 to 3 are the WEIGHTs of the parts
abbrev pub gear : Plan
gear = record empty {
  domains = Nums 1 (from_to 0 100 ∷ []) ∷ Nums 1 (from_to 0 1000 ∷ []) ∷ [];
  slots = root ∷ part 0 ∷ part 1 ∷ part 2 ∷ [];
  vars = record { slot = 0; characteristic = 1; domain = 1; restrictable = false } ∷ weight 1 ∷ weight 2 ∷ weight 3
      ∷ [];
  terms = Literal (whole 1) ∷ Literal (whole 2) ∷ PartSum 0 0 ∷ PartCount 0 ∷ [];
  rules = last 0 ∷ last 1 ∷ last 2 ∷ last 3 ∷ own_rule 0 (Line 1) ∷ own_rule 0 (Line 2) ∷ own_rule 0 (Line 3) ∷ [];
  procedures = always 0 (says (Assign 0 2) 0 ∷ []) ∷ [];
  lines = line 0 0 [] ∷ line 0 1 [] ∷ line 0 0 [] ∷ [];
}

abbrev pub two_and_a_half : Value
two_and_a_half = number (pos 2_500_000)

-- a weight is missing, so there is no total
two_weights : ends_at gear (chosen (None ∷ Some two_and_a_half ∷ Some (whole 3) ∷ []))
    (Here 0 ∷ Here 1 ∷ Here 2 ∷ Here 3 ∷ Is 1 two_and_a_half ∷ Is 2 (whole 3) ∷ []) ≡ true
two_weights = refl

-- 1 times 2.5, 2 times 3 and 1 times 4
three_weights : ends_at gear (chosen (None ∷ Some two_and_a_half ∷ Some (whole 3) ∷ Some (whole 4) ∷ []))
    (Here 0 ∷ Here 1 ∷ Here 2 ∷ Here 3 ∷ Is 1 two_and_a_half ∷ Is 2 (whole 3) ∷ Is 3 (whole 4)
    ∷ Is 0 (number (pos 12_500_000)) ∷ []) ≡ true
three_weights = refl

without_quantities : ends_at gear (chosen (None ∷ Some two_and_a_half ∷ Some (whole 3) ∷ Some (whole 4) ∷ []))
    (Here 0 ∷ Here 1 ∷ Here 2 ∷ Here 3 ∷ Is 1 two_and_a_half ∷ Is 2 (whole 3) ∷ Is 3 (whole 4)
    ∷ Is 0 (number (pos 9_500_000)) ∷ []) ≢ true
without_quantities e = cc

-- the count of parts is the sum of their quantities
counted : ends_at (record gear { procedures = always 0 (says (Assign 0 3) 0 ∷ []) ∷ [] }) (chosen [])
    (Here 0 ∷ Here 1 ∷ Here 2 ∷ Here 3 ∷ Is 0 (whole 4) ∷ []) ≡ true
counted = refl

-- a line of the bill, of this level, slot and number, with a whole quantity
abbrev row : ℕ → ℕ → ℕ → ℕ → BillLine
row level slot n quantity =
    record {
      level = level;
      slot = slot;
      line = n;
      quantity =
          Some (record { millionths = pos (quantity * 1_000_000) });
    }

three_lines : bill gear (chosen []) ≡ row 1 0 0 1 ∷ row 1 0 1 2 ∷ row 1 0 2 1 ∷ []
three_lines = refl

-- a component's own bill follows its line at once: line 0 is a component with line 2, line 1 isn't configurable
abbrev nested : Plan
nested = record empty {
  slots = root ∷ part 0 ∷ [];
  terms = Literal (whole 1) ∷ Literal (whole 2) ∷ [];
  rules = own_rule 0 (Line 1) ∷ [];
  lines = line 0 0 [] ∷ line 0 1 [] ∷ line 1 0 [] ∷ [];
}

own_bill_first : bill nested (chosen []) ≡ row 1 0 0 1 ∷ row 2 1 2 1 ∷ row 1 0 1 2 ∷ []
own_bill_first = refl

slot_by_slot : map (λ row. row.slot) (bill nested (chosen [])) ≢ 0 ∷ 0 ∷ 1 ∷ []
slot_by_slot e = cc
