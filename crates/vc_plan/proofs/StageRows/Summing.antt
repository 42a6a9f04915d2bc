-- Sums over parts: which procedures take them, over which parts, in which order and in which stage.
use Rattle.std.proofs.Common.{◌≡◌, ℕ, ◌+◌, pos, neg_ℤ, Bool, true, false, List, [], ◌∷◌, map, refl}
use Rattle.std.specs.Prelude.{Some, None, ◌≢◌, Box}
use Rattle.std.specs.declared.alloc.Global.{Global}
use Rattle.vc_value.specs.declared.table_header.Domain.TheVariants.{Texts, Nums}
use Rattle.vc_plan.specs.declared.atoms.Atom.TheVariants.{Here, Is}
use Rattle.vc_plan.specs.declared.conditions.Condition.{Condition}
use Rattle.vc_plan.specs.declared.conditions.Condition.TheVariants.{Always, Compared, Specified, Not', And', Or'}
use Rattle.vc_plan.specs.declared.conditions.Relation.TheVariants.{Equal, Greater}
use Rattle.vc_plan.specs.declared.plans.Plan.{Plan}
use Rattle.vc_plan.specs.declared.plans.Slot.{Slot}
use Rattle.vc_plan.specs.declared.plans.Var.{Var}
use Rattle.vc_plan.specs.declared.procedures.Action.{Action}
use Rattle.vc_plan.specs.declared.procedures.Action.TheVariants.{Assign, SetDefault, DeleteDefault, LookUp}
use Rattle.vc_plan.specs.declared.procedures.Statement.{Statement}
use Rattle.vc_plan.specs.declared.rules.Kind.TheVariants.{Line}
use Rattle.vc_plan.specs.declared.terms.Function.TheVariants.{Abs, Negative}
use Rattle.vc_plan.specs.declared.terms.Operator.TheVariants.{Plus, Times}
use Rattle.vc_plan.specs.declared.terms.Term.{Term}
use Rattle.vc_plan.specs.declared.terms.Term.TheVariants.{Literal, Read, PartSum, PartCount, Applied', Joined'}
use Rattle.vc_plan.specs.Evaluate.{Users}
use Rattle.vc_plan.specs.Shown.{bill}
use Rattle.vc_plan.specs.Writes.{is_summing, last_stage, procedures_at}
use Rattle.vc_plan.proofs.PlanRows.Models.{empty, from_to, last, number, own_rule, root, whole}
use Rattle.vc_plan.proofs.StageRows.Gears.{gear, two_and_a_half}
use Rattle.vc_plan.proofs.StageRows.Machines.{two_drives}
use Rattle.vc_plan.proofs.StageRows.StageModels.{always, chosen, ends_at, ends_late, entry_for, line, says}

-- GEAR with more terms, and conditions that count parts: on the right, under NOT, and in a part of AND and OR
abbrev counts : Condition
counts = Compared Greater (Literal (whole 3)) (PartCount 0)

abbrev asking : Box (Unit {0}) Global → Plan
asking p = record gear {
  terms =
      Literal (whole 1) ∷ PartSum 0 0 ∷ PartCount 0 ∷ Applied' Abs p (PartCount 0)
      ∷ Joined' Plus p (Literal (whole 1)) p (PartSum 0 0)
      ∷ [];
  conditions =
      Always ∷ Specified 0 ∷ counts ∷ Not' p counts ∷ And' p Always p counts ∷ And' p counts p Always
      ∷ Or' p Always p counts
      ∷ Or' p counts p Always ∷ [];
}

abbrev sums : Box (Unit {0}) Global → List Statement → Bool
sums p statements = is_summing (asking p) (always 0 statements)

abbrev by_key : ℕ → Action
by_key term = LookUp 0 (record { column = 0; term = 0 } ∷ record { column = 1; term = term } ∷ [])
    (record { column = 2; var = 0 } ∷ [])

-- a procedure is a summing one by a sum in a term of any statement, under a function or in a join
assigned : (p : Box (Unit {0}) Global)
    → map (λ term. sums p (says (Assign 0 term) 0 ∷ [])) (0 ∷ 1 ∷ 2 ∷ 3 ∷ 4 ∷ [])
    ≡ false ∷ true ∷ true ∷ true ∷ true ∷ []
assigned p = refl

defaulted : (p : Box (Unit {0}) Global)
    → map (λ term. sums p (says (SetDefault 0 term) 0 ∷ [])) (0 ∷ 1 ∷ 2 ∷ []) ≡ false ∷ true ∷ true ∷ []
defaulted p = refl

deleted : (p : Box (Unit {0}) Global)
    → map (λ term. sums p (says (DeleteDefault 0 term) 0 ∷ [])) (0 ∷ 1 ∷ 2 ∷ []) ≡ false ∷ true ∷ true ∷ []
deleted p = refl

-- in a later key of a table, and in an IF
looked_up : (p : Box (Unit {0}) Global)
    → map (λ term. sums p (says (by_key term) 0 ∷ [])) (0 ∷ 1 ∷ 2 ∷ []) ≡ false ∷ true ∷ true ∷ []
looked_up p = refl

asked : (p : Box (Unit {0}) Global)
    → map (λ c. sums p (says (Assign 0 0) c ∷ [])) (0 ∷ 1 ∷ 2 ∷ 3 ∷ 4 ∷ 5 ∷ 6 ∷ 7 ∷ [])
    ≡ false ∷ false ∷ true ∷ true ∷ true ∷ true ∷ true ∷ true ∷ []
asked p = refl

by_terms_alone : (p : Box (Unit {0}) Global) → sums p (says (Assign 0 0) 2 ∷ []) ≢ false
by_terms_alone p e = cc

-- and in its second statement
in_second : (p : Box (Unit {0}) Global) → sums p (says (Assign 0 0) 0 ∷ says (Assign 0 1) 0 ∷ []) ≡ true
in_second p = refl

-- summing procedures run apart from the others
apart : (p : Box (Unit {0}) Global) → let plan = record (asking p) {
  procedures = always 0 (says (Assign 0 0) 0 ∷ []) ∷ always 0 (says (Assign 0 0) 2 ∷ []) ∷ [];
} in (procedures_at plan false 0 ≡ 0 ∷ []) × (procedures_at plan true 0 ≡ 1 ∷ [])
apart p = (refl, refl)

-- GEAR whose third part waits for a total, which never comes before the sum: 1 times 2.5 and 2 times 3
abbrev waiting : Plan
waiting = record gear {
  conditions = Always ∷ Compared Equal (Read 0) (Literal (whole 999)) ∷ [];
  rules = last 0 ∷ last 1 ∷ last 2 ∷ last 3 ∷ own_rule 0 (Line 1) ∷ own_rule 0 (Line 2) ∷ own_rule 1 (Line 3) ∷ [];
}

abbrev two_weights : Users
two_weights = chosen (None ∷ Some two_and_a_half ∷ Some (whole 3) ∷ [])

absent_part : ends_at waiting two_weights
    (Here 0 ∷ Here 1 ∷ Here 2 ∷ Is 1 two_and_a_half ∷ Is 2 (whole 3) ∷ Is 0 (number (pos 8_500_000)) ∷ []) ≡ true
absent_part = refl

absent_misses : ends_at waiting two_weights (Here 0 ∷ Here 1 ∷ Here 2 ∷ Is 1 two_and_a_half ∷ Is 2 (whole 3) ∷ []) ≢
    true
absent_misses e = cc

-- and whose third part has no weight: it counts, and isn't summed
abbrev weightless : ℕ → Plan
weightless term = record gear {
  vars =
      record { slot = 0; characteristic = 1; domain = 1; restrictable = false }
      ∷ record { slot = 1; characteristic = 0; domain = 0; restrictable = false }
      ∷ record { slot = 2; characteristic = 0; domain = 0; restrictable = false } ∷ [];
  rules = last 0 ∷ last 1 ∷ last 2 ∷ own_rule 0 (Line 1) ∷ own_rule 0 (Line 2) ∷ own_rule 0 (Line 3) ∷ [];
  procedures = always 0 (says (Assign 0 term) 0 ∷ []) ∷ [];
}

no_weight : ends_at (weightless 2) two_weights
    (Here 0 ∷ Here 1 ∷ Here 2 ∷ Here 3 ∷ Is 1 two_and_a_half ∷ Is 2 (whole 3) ∷ Is 0 (number (pos 8_500_000)) ∷ [])
    ≡ true
no_weight = refl

no_weight_misses : entry_for (weightless 2) two_weights 0 ≢ None
no_weight_misses e = cc

no_weight_counts : ends_at (weightless 3) (chosen []) (Here 0 ∷ Here 1 ∷ Here 2 ∷ Here 3 ∷ Is 0 (whole 4) ∷ []) ≡ true
no_weight_counts = refl

-- a part whose quantity is missing has no count
no_quantity : entry_for (record gear {
  terms = Literal (whole 1) ∷ Read 1 ∷ PartSum 0 0 ∷ PartCount 0 ∷ [];
  procedures = always 0 (says (Assign 0 3) 0 ∷ []) ∷ [];
}) (chosen []) 0 ≡ None
no_quantity = refl

-- a quantity is missing from 10^9 on, on either side: 999,999,999 and what is left to it is one
abbrev billion : Box (Unit {0}) Global → Term
billion p = Joined' Times p (Literal (whole 100_000)) p (Literal (whole 10_000))

abbrev amounts : Box (Unit {0}) Global → Plan
amounts p = record empty {
  slots = root ∷ [];
  terms =
      billion p ∷ Literal (number (pos 999_999_999_999_999)) ∷ Applied' Negative p (billion p)
      ∷ Literal (number (neg_ℤ (pos 999_999_999_999_999))) ∷ [];
  lines = line 0 0 [] ∷ line 0 1 [] ∷ line 0 2 [] ∷ line 0 3 [] ∷ [];
}

limit : (p : Box (Unit {0}) Global) → map (λ row. row.quantity) (bill (amounts p) (chosen []))
    ≡ None ∷ Some (record { millionths = pos 999_999_999_999_999 }) ∷ None
    ∷ Some (record { millionths = neg_ℤ (pos 999_999_999_999_999) }) ∷ []
limit p = refl

-- sums are taken from the last slot to the first: the total of the root has that of its part, which is taken before
abbrev below : ℕ → Slot
below parent = record { parent = Some parent; depth = parent + 1; object = parent + 1; line = parent }

abbrev number_at : ℕ → Var
number_at slot = record { slot = slot; characteristic = 0; domain = 0; restrictable = false }

abbrev three_levels : Plan
three_levels = record empty {
  domains = Nums 0 (from_to 0 100 ∷ []) ∷ [];
  slots = root ∷ below 0 ∷ below 1 ∷ [];
  vars = number_at 0 ∷ number_at 1 ∷ number_at 2 ∷ [];
  terms = Literal (whole 2) ∷ PartSum 0 0 ∷ PartSum 1 0 ∷ [];
  rules = last 0 ∷ last 1 ∷ last 2 ∷ own_rule 0 (Line 1) ∷ own_rule 0 (Line 2) ∷ [];
  procedures = always 0 (says (Assign 0 1) 0 ∷ []) ∷ always 1 (says (Assign 1 2) 0 ∷ []) ∷ [];
  lines = line 0 0 [] ∷ line 1 0 [] ∷ [];
}

from_below : ends_at three_levels (chosen (None ∷ None ∷ Some (whole 3) ∷ []))
    (Here 0 ∷ Here 1 ∷ Here 2 ∷ Is 2 (whole 3) ∷ Is 1 (whole 6) ∷ Is 0 (whole 12) ∷ []) ≡ true
from_below = refl

from_above : entry_for three_levels (chosen (None ∷ None ∷ Some (whole 3) ∷ [])) 0 ≢ None
from_above e = cc

-- sums of late instances aren't taken: the second drive comes by what the first one's procedure enters
abbrev late_sum : Plan
late_sum = record two_drives {
  domains = Texts (0 ∷ 1 ∷ []) ∷ Nums 0 (from_to 0 9 ∷ []) ∷ [];
  conditions = Always ∷ Compared Equal (Read 1) (Literal (whole 1)) ∷ [];
  terms = Literal (whole 1) ∷ Literal (whole 1) ∷ PartCount 2 ∷ PartCount 1 ∷ [];
  procedures = always 1 (says (Assign 1 1) 0 ∷ []) ∷ always 2 (says (Assign 2 2) 0 ∷ []) ∷ [];
}

late : ends_late late_sum (chosen []) 2 ≡ true
late = refl

late_untaken : entry_for late_sum (chosen []) 2 ≡ None
late_untaken = refl

-- of an instance in time it is: over no parts it is 0
in_time : entry_for (record late_sum { procedures = always 1 (says (Assign 1 3) 0 ∷ []) ∷ [] }) (chosen []) 1 ≢ None
in_time e = cc

-- stage 0 is the user's, each level has one, and the last is for sums
last_stages : (last_stage (record empty { slots = root ∷ [] }) ≡ 2) × (last_stage gear ≡ 3)
    × (last_stage three_levels ≡ 4)
last_stages = (refl, refl, refl)

by_level : last_stage gear ≢ 2
by_level e = cc
