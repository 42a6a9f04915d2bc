-- What an equation of two terms says with what it follows from.
use Rattle.std.specs.Prelude.{ℕ, min, ◌&&◌, ◌++◌, is_none}
use Rattle.vc_plan.specs.declared.plans.Plan.{Plan}
use Rattle.vc_plan.specs.declared.rules.Rule.{Rule}
use Rattle.vc_plan.specs.Readings.{net_reading}
use Rattle.vc_plan.specs.Restrictions.{lone, lone_inferred, equal_to, decimals_in_side, differ}
use Rattle.vc_plan.specs.Seen.{Seen}
use Rattle.vc_plan.specs.Truth.{value_at}
use Rattle.vc_rule_premises.specs.Saying.{Said, together, clash_when, said_from}
use Rattle.vc_rule_sides.specs.Comparing.{values_in}

-- Equate: a clash from both sides where no side may be narrowed and their values differ; else what follows for a side
-- that
-- is a lone inferred variable from the values of the other
abbrev pub equate_said : Plan → Seen → Rule → ℕ → ℕ → Said
equate_said plan seen rule a b =
    let first = value_at plan (net_reading seen) a in
    let second = value_at plan (net_reading seen) b in
    let v = lone_inferred plan rule a in
    let w = lone_inferred plan rule b in
    let decimals = min (decimals_in_side plan (lone plan a)) (decimals_in_side plan (lone plan b)) in
    clash_when ((is_none v && is_none w) && differ decimals first second)
    (values_in plan seen a ++ values_in plan seen b)
    (together (said_from seen (values_in plan seen b) (equal_to plan v second))
    (said_from seen (values_in plan seen a) (equal_to plan w first)))
