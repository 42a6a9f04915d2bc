-- What follows for a variable that is to have a value, as it is told.
use Rattle.std.specs.Prelude.{[], ◌∷◌}
use Rattle.vc_base.specs.Rounds.{Given, clash, atoms}
use Rattle.vc_plan.specs.declared.atoms.Atom.{Atom}
use Rattle.vc_plan.specs.declared.atoms.Atom.TheVariants.{Is}
use Rattle.vc_plan.specs.declared.plans.Plan.{Plan}
use Rattle.vc_plan.specs.Answers.{nothing}
use Rattle.vc_plan.specs.Seen.{Seen}
use Rattle.vc_rule_premises.specs.Saying.{Said, said_from}
use Rattle.vc_rule_sides.specs.Comparing.{values_in}
use Rattle.vc_rule_sides.specs.declared.assigning.Assigned.{Assigned}
use Rattle.vc_rule_sides.specs.declared.assigning.Assigned.TheVariants.{Nothing, NoGrain, To}
use Rattle.vc_rule_sides.specs.declared.equating.EqualSide.{EqualSide}

abbrev pub assigned_given : Assigned → Given Atom
assigned_given Nothing = nothing
assigned_given NoGrain = clash
assigned_given (To v a) = atoms (Is v a ∷ [])

-- what is said of a side of an equation
abbrev pub equal_side_said : Plan → Seen → EqualSide → Said
equal_side_said plan seen side = said_from seen (values_in plan seen side.other) (assigned_given side.assigned)
