-- Which statement writes, and which mark.
use Rattle.vc_plan.specs.declared.atoms.Mark.{Mark}
use Rattle.vc_plan.specs.declared.atoms.Mark.TheVariants.{Held, Outside}
use Rattle.vc_plan.specs.Statements as statements
use Rattle.vc_rule_sides.specs.declared.assigning.Assigned.{Assigned}
use Rattle.vc_rule_sides.specs.declared.assigning.Assigned.TheVariants.{Nothing, NoGrain, To}
use Rattle.vc_proc.specs.declared.writing.Place.{Place}

abbrev pub place_from : Place → statements.Place
place_from told = record { procedure = told.proc; statement = told.statement }

-- the mark of the value that a variable is to have, rounded to its decimals
abbrev pub mark_for : Assigned → Mark
mark_for Nothing = Outside
mark_for NoGrain = Outside
mark_for (To v a) = Held a
