-- What a rule says at what is seen, with what it follows from.
use Rattle.std.specs.Prelude.{ℕ, if◌then◌else◌, slice_get, Option, None, Some}
use Rattle.vc_plan.specs.declared.plans.Plan.{Plan}
use Rattle.vc_plan.specs.declared.rules.Kind.{Kind}
use Rattle.vc_plan.specs.declared.rules.Kind.TheVariants.{Among, Compare, Equate, ByTable, Never, Last, Line}
use Rattle.vc_plan.specs.declared.rules.Rule.{Rule}
use Rattle.vc_plan.specs.Gives.{acts}
use Rattle.vc_plan.specs.Seen.{Seen}
use Rattle.vc_plan.specs.Valid.{IsValid}
use Rattle.vc_plan_values.specs.Computing.{TermsFit}
use Rattle.vc_rule_yield.specs.Yielding.{Yielded}
use Rattle.vc_rule_premises.specs.Citing.{cited_all, why_it_acts}
use Rattle.vc_rule_premises.specs.Saying.{Said, silent, said_with, taken}
use Rattle.vc_rule_grains.specs.Finding.{GrainsFit}
use Rattle.vc_rule_grains.specs.Kinds.{among_said, never_said, last_said, line_said}
use Rattle.vc_rule_sides.specs.Comparing.{compare_said}
use Rattle.vc_rule_sides.specs.Equating.{equate_said}
use Rattle.vc_rule_table.specs.TableSaid.{table_said}

-- what a rule that acts says, with what it follows from beside why the rule acts
abbrev pub kind_said : Plan → Seen → Rule → Kind → Said
kind_said plan seen rule (Among v restriction) = among_said plan seen rule v restriction
kind_said plan seen rule (Compare r a b) = compare_said plan seen rule r a b
kind_said plan seen rule (Equate a b) = equate_said plan seen rule a b
kind_said plan seen rule (ByTable table columns) = table_said plan seen rule table columns
kind_said plan seen rule Never = never_said
kind_said plan seen rule (Last v) = last_said plan seen v
kind_said plan seen rule (Line i) = line_said plan seen i

-- what is found by a rule, if it is there and acts: what it says, with why it acts cited first
abbrev pub found_by : Plan → Seen → Option Rule → Said
found_by plan seen None = silent
found_by plan seen (Some rule) =
    let said = said_with (why_it_acts plan seen rule) (kind_said plan seen rule rule.kind) in
    if acts plan seen rule then said else silent

abbrev pub found_at : Plan → Seen → ℕ → Said
found_at plan seen r = found_by plan seen (slice_get plan.rules r)

-- how a yield takes what a rule says
abbrev pub taken_from : Plan → Seen → Rule → Yielded → Yielded
taken_from plan seen rule y =
    let more = taken (cited_all y (why_it_acts plan seen rule)) (kind_said plan seen rule rule.kind) in
    if acts plan seen rule then more else y

-- terms and conditions fit, and so do grains
pub record RulesFit (plan : Plan) : Type 0 where
  pub terms : TermsFit plan
  pub grains : GrainsFit plan

-- those of a valid plan do
abbrev pub ValidRulesFit : Type 0
ValidRulesFit = (plan : Plan) → IsValid plan → RulesFit plan
