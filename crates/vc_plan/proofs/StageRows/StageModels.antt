-- What the rows of evaluations ask.
use Rattle.std.proofs.Common.{ℕ, Bool, false, List, []}
use Rattle.std.specs.Prelude.{Option, None, Some}
use Rattle.vc_base.specs.Rounds.{settled}
use Rattle.vc_value.specs.declared.value.Value.{Value}
use Rattle.vc_plan.specs.declared.atoms.Atom.{Atom}
use Rattle.vc_plan.specs.declared.plans.Line.{Line}
use Rattle.vc_plan.specs.declared.plans.Plan.{Plan}
use Rattle.vc_plan.specs.declared.plans.Selection.{Selection}
use Rattle.vc_plan.specs.declared.procedures.Action.{Action}
use Rattle.vc_plan.specs.declared.procedures.Procedure.{Procedure}
use Rattle.vc_plan.specs.declared.procedures.Statement.{Statement}
use Rattle.vc_plan.specs.declared.procedures.Trigger.TheVariants.{Anyway}
use Rattle.vc_plan.specs.Entries.{Written, written_at}
use Rattle.vc_plan.specs.Evaluate.{Evaluated, broken_at, reached, Users, evaluation_of, is_late, last_set}
use Rattle.vc_plan.proofs.PlanRows.Models.{has_just}

-- the user's values, and no sets
abbrev pub chosen : List (Option Value) → Users
chosen values = record { values = values; texts = [] }

-- whether the last stage has just these atoms
abbrev pub shows_just : Plan → Evaluated → List Atom → Bool
shows_just plan (broken_at k entries) atoms = false
shows_just plan (reached sets entries) atoms = has_just (settled (last_set plan sets)) atoms

abbrev pub ends_at : Plan → Users → List Atom → Bool
ends_at plan users atoms = shows_just plan (evaluation_of plan users) atoms

-- the stage at which it breaks, if it does
abbrev pub stage_in : Evaluated → Option ℕ
stage_in (broken_at k entries) = Some k
stage_in (reached sets entries) = None

abbrev pub breaks_at : Plan → Users → Option ℕ
breaks_at plan users = stage_in (evaluation_of plan users)

-- what was written to a variable at the end
abbrev pub entry_in : ℕ → Evaluated → Option Written
entry_in v (broken_at k entries) = None
entry_in v (reached sets entries) = written_at entries v

abbrev pub entry_for : Plan → Users → ℕ → Option Written
entry_for plan users v = entry_in v (evaluation_of plan users)

-- whether a slot is late at the end
abbrev pub late_in : Plan → ℕ → Evaluated → Bool
late_in plan i (broken_at k entries) = false
late_in plan i (reached sets entries) = is_late plan sets i

abbrev pub ends_late : Plan → Users → ℕ → Bool
ends_late plan users i = late_in plan i (evaluation_of plan users)

-- a statement, and a procedure of statements that runs wherever its slot is here
abbrev pub says : Action → ℕ → Statement
says action condition = record { action = action; condition = condition }

abbrev pub always : ℕ → List Statement → Procedure
always slot statements = record { slot = slot; dependency = 0; trigger = Anyway; statements = statements }

-- a line of a slot
abbrev pub line : ℕ → ℕ → List Selection → Line
line slot quantity selections =
    record { slot = slot; item = 10; material = []; unit = []; quantity = quantity; selections = selections }
