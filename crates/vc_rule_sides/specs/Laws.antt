-- Laws of what a comparison and an equation say.
use Rattle.std.specs.Prelude.{◌≡◌, ℕ, map}
use Rattle.vc_plan.specs.declared.conditions.Relation.{Relation}
use Rattle.vc_plan.specs.declared.plans.Plan.{Plan}
use Rattle.vc_plan.specs.declared.rules.Rule.{Rule}
use Rattle.vc_plan.specs.Answers.{fresh}
use Rattle.vc_plan.specs.Restrictions.{compare, equate}
use Rattle.vc_plan.specs.Seen.{Seen}
use Rattle.vc_plan_values.specs.Computing.{ValuesAreLeft}
use Rattle.vc_plan_reasons.specs.Things.{var_at, vars_of_sides}
use Rattle.vc_rule_premises.specs.Saying.{given_of}
use Rattle.vc_rule_premises.specs.Sufficing.{EachFollows}
use Rattle.vc_rule_grains.specs.Laws.{Stands, IsOf}
use Rattle.vc_rule_sides.specs.Comparing.{compare_said}
use Rattle.vc_rule_sides.specs.Equating.{equate_said}

-- without what it follows from it is what the comparison gives, but for what stands already
abbrev pub CompareIsSaid : Type 0
CompareIsSaid = (plan : Plan) (seen : Seen) (rule : Rule) (r : Relation) (a b : ℕ)
    → given_of (compare_said plan seen rule r a b) ≡ fresh seen (compare plan seen rule r a b)

-- the same of the equation
abbrev pub EquateIsSaid : Type 0
EquateIsSaid = (plan : Plan) (seen : Seen) (rule : Rule) (a b : ℕ)
    → given_of (equate_said plan seen rule a b) ≡ fresh seen (equate plan seen rule a b)

-- each premise stands
abbrev pub CompareStands : Type 0
CompareStands = (plan : Plan) (seen : Seen) (rule : Rule) (r : Relation) (a b : ℕ)
    → Stands seen (compare_said plan seen rule r a b)

abbrev pub EquateStands : Type 0
EquateStands = (plan : Plan) (seen : Seen) (rule : Rule) (a b : ℕ) → Stands seen (equate_said plan seen rule a b)

-- each premise is of a variable that a side reads
abbrev pub CompareIsRead : Type 0
CompareIsRead = (plan : Plan) (seen : Seen) (rule : Rule) (r : Relation) (a b : ℕ)
    → IsOf (map var_at (vars_of_sides plan a b)) (compare_said plan seen rule r a b)

abbrev pub EquateIsRead : Type 0
EquateIsRead = (plan : Plan) (seen : Seen) (rule : Rule) (a b : ℕ)
    → IsOf (map var_at (vars_of_sides plan a b)) (equate_said plan seen rule a b)

-- all that is said follows from its premises alone
abbrev pub CompareFollows : Type 0
CompareFollows = (plan : Plan) (seen : Seen) (rule : Rule) (r : Relation) (a b : ℕ) → ValuesAreLeft plan seen
    → EachFollows (λ part. compare plan part rule r a b) seen (compare_said plan seen rule r a b)

abbrev pub EquateFollows : Type 0
EquateFollows = (plan : Plan) (seen : Seen) (rule : Rule) (a b : ℕ)
    → EachFollows (λ part. equate plan part rule a b) seen (equate_said plan seen rule a b)
