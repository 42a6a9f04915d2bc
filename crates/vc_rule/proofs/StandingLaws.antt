-- Each premise of what is found stands.
use Rattle.std.proofs.Common.{◌≡◌, ℕ, Bool, true, false, cond, List, [], ◌∷◌, map, refl}
use Rattle.std.specs.Prelude.{Option, None, Some, slice_get}
use Rattle.std.specs.List.{list_all}
use Rattle.std.proofs.lemmas.Bool.{and_parts, and_from}
use Rattle.vc_plan.specs.declared.atoms.Atom.TheVariants.{Here}
use Rattle.vc_plan.specs.declared.plans.Plan.{Plan}
use Rattle.vc_plan.specs.declared.rules.Kind.{Kind}
use Rattle.vc_plan.specs.declared.rules.Kind.TheVariants.{Among, Compare, Equate, ByTable, Never, Last, Line}
use Rattle.vc_plan.specs.declared.rules.Rule.{Rule}
use Rattle.vc_plan.specs.Gives.{acts}
use Rattle.vc_plan.specs.Kleene.{is_true}
use Rattle.vc_plan.specs.Readings.{net_reading}
use Rattle.vc_plan.specs.Seen.{Seen, says}
use Rattle.vc_plan.specs.Truth.{truth_at}
use Rattle.vc_plan_reasons.specs.Things.{vars_of_sides}
use Rattle.vc_rule_premises.specs.Citing.{values_of, deciding_if, why_it_acts}
use Rattle.vc_rule_premises.specs.Saying.{silent, said_with}
use Rattle.vc_rule_premises.specs.Sufficing.{SaysAll, each_premise}
use Rattle.vc_rule_premises.proofs.SufficingLaws.{value_says}
use Rattle.vc_rule_grains.proofs.KindLaws.{among_stands, last_stands, line_stands}
use Rattle.vc_rule_table.proofs.StandingLaws.{table_stands}
use Rattle.vc_rule.specs.Evaluating.{kind_said, found_by}
use Rattle.vc_rule.specs.Laws.{FoundStands}
use Rattle.vc_rule.proofs.PassingLemmas.{VarsPass, both_pass, each_with, values_pass, compare_passes, equate_passes}

slots_stand : (seen : Seen) (is : List ℕ) → list_all seen.here is ≡ true → SaysAll seen (map Here is)
slots_stand seen [] e = refl
slots_stand seen (i ∷ is) e =
    let h : (seen.here i ≡ true) × (list_all seen.here is ≡ true) = and_parts (seen.here i) (list_all seen.here is) e in
    and_from (seen.here i) (list_all (says seen) (map Here is)) h.0 (slots_stand seen is h.1)

all_stand : (seen : Seen) (vs : List ℕ) → VarsPass (says seen) seen vs
all_stand seen [] = tt
all_stand seen (v ∷ vs) = ((λ g e. e, λ a e. value_says seen v a e), all_stand seen vs)

pub acting_stands : (plan : Plan) (seen : Seen) (rule : Rule) → acts plan seen rule ≡ true
    → SaysAll seen (why_it_acts plan seen rule)
acting_stands plan seen rule e =
    let vs = deciding_if seen (slice_get plan.conditions rule.condition) in
    let h : (list_all seen.here rule.slots ≡ true)
    × (is_true (truth_at plan (net_reading seen) rule.condition) ≡ true) =
    and_parts (list_all seen.here rule.slots) (is_true (truth_at plan (net_reading seen) rule.condition)) e in
    both_pass (says seen) (map Here rule.slots) (values_of seen vs) (slots_stand seen rule.slots h.0)
    (values_pass (says seen) seen vs (all_stand seen vs))

kind_stands : (plan : Plan) (seen : Seen) (rule : Rule) (kind : Kind)
    → each_premise (says seen) (kind_said plan seen rule kind) ≡ true
kind_stands plan seen rule (Among v restriction) = among_stands plan seen rule v restriction
kind_stands plan seen rule (Compare r a b) = compare_passes (says seen) plan seen rule r a b
    (all_stand seen (vars_of_sides plan a b))
kind_stands plan seen rule (Equate a b) = equate_passes (says seen) plan seen rule a b
    (all_stand seen (vars_of_sides plan a b))
kind_stands plan seen rule (ByTable table columns) = table_stands plan seen rule table columns
kind_stands plan seen rule Never = refl
kind_stands plan seen rule (Last v) = last_stands plan seen v
kind_stands plan seen rule (Line i) = line_stands plan seen i

pub found_stands : FoundStands
found_stands plan seen r = by (slice_get plan.rules r)
  where
    acting : (rule : Rule) (b : Bool) → acts plan seen rule ≡ b
        → each_premise (says seen) (cond b (said_with (why_it_acts plan seen rule)
        (kind_said plan seen rule rule.kind)) silent) ≡ true
    acting rule true e =
        each_with (says seen) (why_it_acts plan seen rule) (kind_said plan seen rule rule.kind)
        (acting_stands plan seen rule e)
        (kind_stands plan seen rule rule.kind)
    acting rule false e = refl

    by : (o : Option Rule) → each_premise (says seen) (found_by plan seen o) ≡ true
    by None = refl
    by (Some rule) = acting rule (acts plan seen rule) refl
