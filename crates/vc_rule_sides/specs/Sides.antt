-- What is said of a side of a comparison, as it is told.
use Rattle.vc_base.specs.Rounds.{Given}
use Rattle.vc_plan.specs.declared.atoms.Atom.{Atom}
use Rattle.vc_plan.specs.declared.plans.Plan.{Plan}
use Rattle.vc_plan.specs.Restrictions.{related}
use Rattle.vc_plan.specs.Seen.{Seen}
use Rattle.vc_plan_values.specs.Values.{meant_if}
use Rattle.vc_rule_premises.specs.Saying.{Said}
use Rattle.vc_rule_sides.specs.Comparing.{values_in, related_said}
use Rattle.vc_rule_sides.specs.declared.comparing.Side.{Side}

abbrev pub side_given : Plan → Seen → Side → Given Atom
side_given plan seen side = related plan seen side.relation side.var (meant_if side.value)

abbrev pub side_said : Plan → Seen → Side → Said
side_said plan seen side =
    related_said plan seen side.relation side.var (values_in plan seen side.other) (meant_if side.value)
