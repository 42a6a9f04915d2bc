-- Steps and plans of the rows.
use Rattle.std.proofs.Common.{ℕ, List, [], ◌∷◌}
use Rattle.vc_value.specs.declared.table_header.Domain.TheVariants.{Texts}
use Rattle.vc_value.specs.declared.value.Value.{Value}
use Rattle.vc_value.specs.declared.value.Value.TheVariants.{Text}
use Rattle.vc_plan.specs.declared.atoms.Atom.{Atom}
use Rattle.vc_plan.specs.declared.atoms.Atom.TheVariants.{Out, Is}
use Rattle.vc_plan.specs.declared.atoms.Clash.{Clash}
use Rattle.vc_plan.specs.declared.atoms.Culprit.{Culprit}
use Rattle.vc_plan.specs.declared.atoms.Origin.{Origin}
use Rattle.vc_plan.specs.declared.atoms.Origin.TheVariants.{Rule, User}
use Rattle.vc_plan.specs.declared.atoms.Step.{Step}
use Rattle.vc_plan.specs.declared.plans.Plan.{Plan}
use Rattle.vc_plan.specs.declared.rules.Kind.TheVariants.{ByTable}
use Rattle.vc_plan.proofs.PlanRows.Models.{empty, root, open_var, rule, column, table_of}

-- a step, and one by the user
abbrev pub step : Atom → Origin → List ℕ → Step
step atom origin premises = record { conclusion = atom; origin = origin; premises = premises }

abbrev pub by_user : ℕ → Value → Step
by_user v a = step (Is v a) User []

abbrev pub clash_of : List Step → Culprit → List ℕ → Clash
clash_of steps culprit premises = record { steps = steps; culprit = culprit; premises = premises }

-- PUMP: the user's size, and what the table says of the motors then
abbrev pub large_size : Step
large_size = by_user 0 (Text 2)

abbrev pub no_e1 : List ℕ → Step
no_e1 premises = step (Out 1 0) (Rule 0) premises

abbrev pub no_e2 : List ℕ → Step
no_e2 premises = step (Out 1 1) (Rule 0) premises

-- why a large pump's motor is E3
abbrev pub why_motor : List Step
why_motor = large_size ∷ no_e1 (1 ∷ []) ∷ no_e2 (1 ∷ []) ∷ step (Is 1 (Text 5)) (Rule 2) (2 ∷ 3 ∷ []) ∷ []

-- two variables that are equal by a table
abbrev pub mirror : Plan
mirror = record empty {
  domains = Texts (1 ∷ 2 ∷ []) ∷ Texts (1 ∷ 2 ∷ []) ∷ [];
  tables = table_of ((Text 1 ∷ Text 1 ∷ []) ∷ (Text 2 ∷ Text 2 ∷ []) ∷ []) ∷ [];
  slots = root ∷ [];
  vars = open_var 0 ∷ open_var 1 ∷ [];
  rules = rule 0 (0 ∷ 1 ∷ []) (ByTable 0 (column 0 0 ∷ column 1 1 ∷ [])) ∷ [];
}
