-- PUMP's bill and routing, and a procedure that looks up a table.
use Rattle.std.proofs.Common.{◌≡◌, ℕ, ◌*◌, pos, true, [], ◌∷◌, refl}
use Rattle.std.specs.Prelude.{None, Some, ◌≢◌, Box}
use Rattle.std.specs.declared.alloc.Global.{Global}
use Rattle.vc_value.specs.declared.value.Value.TheVariants.{Text}
use Rattle.vc_plan.specs.declared.conditions.Condition.TheVariants.{Always, Compared}
use Rattle.vc_plan.specs.declared.conditions.Relation.TheVariants.{Equal}
use Rattle.vc_plan.specs.declared.plans.Plan.{Plan}
use Rattle.vc_plan.specs.declared.procedures.Action.TheVariants.{LookUp}
use Rattle.vc_plan.specs.declared.shown.BillLine.{BillLine}
use Rattle.vc_plan.specs.declared.shown.Status.TheVariants.{Complete, Unfinished}
use Rattle.vc_plan.specs.declared.terms.Operator.TheVariants.{Over, Plus}
use Rattle.vc_plan.specs.declared.terms.Term.TheVariants.{Joined', Literal, Read}
use Rattle.vc_plan.specs.Shown.{bill, routing, status}
use Rattle.vc_plan.proofs.PlanRows.Models.{empty, fixed_var, last, pump, root, table_of, whole}
use Rattle.vc_plan.proofs.StageRows.StageModels.{always, chosen, entry_for, line, says}
use Rattle.vc_value.specs.declared.table_header.Domain.TheVariants.{Texts}
use Rattle.vc_plan.specs.declared.atoms.Mark.TheVariants.{Held}

-- a housing always, two seals where SIZE is L, and 15 + FLOW / 2 minutes; SIZE is required
abbrev machine : Box (Unit {0}) Global → Plan
machine p = record pump {
  characteristics = record { name = []; unit = None; required = true; list = Texts (0 ∷ 1 ∷ 2 ∷ []) } ∷ [];
  conditions = Always ∷ Compared Equal (Read 0) (Literal (Text 2)) ∷ [];
  terms = Literal (whole 1) ∷ Literal (whole 2)
      ∷ Joined' Plus p (Literal (whole 15)) p (Joined' Over p (Read 2) p (Literal (whole 2))) ∷ [];
  lines = line 0 0 [] ∷ line 0 1 (record { dependency = 1; condition = 1 } ∷ []) ∷ [];
  operations = record { slot = 0; number = 10; name = []; unit = []; time = 2; selections = [] } ∷ [];
}

abbrev row : ℕ → ℕ → BillLine
row n quantity = record {
  level = 1;
  slot = 0;
  line = n;
  quantity =
      Some (record { millionths = pos (quantity * 1_000_000) });
}

without_size : (p : Box (Unit {0}) Global) → bill (machine p) (chosen []) ≡ row 0 1 ∷ []
without_size p = refl

large : (p : Box (Unit {0}) Global) → bill (machine p) (chosen (Some (Text 2) ∷ [])) ≡ row 0 1 ∷ row 1 2 ∷ []
large p = refl

small : (p : Box (Unit {0}) Global) → bill (machine p) (chosen (Some (Text 0) ∷ [])) ≢ row 0 1 ∷ row 1 2 ∷ []
small p e = cc

-- an operation stands in the routing with or without its time
no_time : (p : Box (Unit {0}) Global)
    → routing (machine p) (chosen []) ≡ record { slot = 0; operation = 0; time = None } ∷ []
no_time p = refl

with_flow : (p : Box (Unit {0}) Global)
    → routing (machine p) (chosen (None ∷ None ∷ Some (whole 5) ∷ []))
    ≡ record { slot = 0; operation = 0; time = Some (record { millionths = pos 17_500_000 }) } ∷ []
with_flow p = refl

-- SIZE is asked for as long as it has no value
asked : (p : Box (Unit {0}) Global) → status (machine p) (chosen []) ≡ Some Unfinished
asked p = refl

answered : (p : Box (Unit {0}) Global) → status (machine p) (chosen (Some (Text 2) ∷ [])) ≡ Some Complete
answered p = refl

-- a value that follows answers too
by_motor : (p : Box (Unit {0}) Global) → status (machine p) (chosen (None ∷ Some (Text 5) ∷ [])) ≡ Some Complete
by_motor p = refl

-- a procedure looks up the second column by the first: text 0 has 2, text 1 has none
abbrev looked_up : Plan
looked_up = record empty {
  domains = Texts (0 ∷ 1 ∷ []) ∷ Texts (2 ∷ 3 ∷ []) ∷ [];
  tables = table_of ((Text 0 ∷ Text 2 ∷ []) ∷ []) ∷ [];
  slots = root ∷ [];
  vars = fixed_var 0 ∷ fixed_var 1 ∷ [];
  terms = Read 0 ∷ [];
  rules = last 0 ∷ last 1 ∷ [];
  procedures = always 0
      (says (LookUp 0 (record { column = 0; term = 0 } ∷ []) (record { column = 1; var = 1 } ∷ [])) 0 ∷ []) ∷ [];
}

found : entry_for looked_up (chosen (Some (Text 0) ∷ [])) 1
    ≡ Some (record { mark = Held (Text 2); hard = true; procedure = 0; statement = 0 })
found = refl

not_found : entry_for looked_up (chosen (Some (Text 1) ∷ [])) 1 ≡ None
not_found = refl

-- without a key nothing is looked up, not even in the only row
no_key : entry_for looked_up (chosen []) 1 ≢ Some
    (record { mark = Held (Text 2); hard = true; procedure = 0; statement = 0 })
no_key e = cc
