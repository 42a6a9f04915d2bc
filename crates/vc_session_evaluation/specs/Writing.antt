-- Which variables statements write.
use Rattle.std.specs.Prelude.{◌≡◌, ℕ, false, List, nat_eq, slice_index_or, Option, None}
use Rattle.std.specs.List.{flat_map}
use Rattle.vc_base.specs.Sets.{has}
use Rattle.vc_plan.specs.declared.plans.Plan.{Plan}
use Rattle.vc_plan.specs.declared.procedures.Procedure.{Procedure}
use Rattle.vc_plan.specs.declared.procedures.Statement.{Statement}
use Rattle.vc_plan.specs.LookUps.{action_writes}

-- the variables that a statement, those of a procedure, and all of a plan write
abbrev pub statement_written : Statement → List ℕ
statement_written statement = action_writes statement.action

abbrev pub procedure_written : Procedure → List ℕ
procedure_written procedure = flat_map statement_written procedure.statements

abbrev pub all_written : Plan → List ℕ
all_written plan = flat_map procedure_written plan.procedures

-- the list has nothing for a variable that is none of these
abbrev pub IsBlankBeside : {A : Type 0} → List ℕ → List (Option A) → Type 0
IsBlankBeside vars xs = (v : ℕ) → has nat_eq vars v ≡ false → slice_index_or xs v None ≡ None
