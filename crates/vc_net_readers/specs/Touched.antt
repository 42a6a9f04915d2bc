-- The slots and the variables that a rule touches, as they stand in it.
use Rattle.std.specs.Prelude.{ℕ, List, [], ◌∷◌, ◌++◌, slice_get, Option, None, Some}
use Rattle.vc_plan.specs.declared.plans.Plan.{Plan}
use Rattle.vc_plan.specs.declared.rules.Kind.{Kind}
use Rattle.vc_plan.specs.declared.rules.Kind.TheVariants.{Among, Compare, Equate, ByTable, Never, Last, Line}
use Rattle.vc_plan.specs.declared.rules.Rule.{Rule}
use Rattle.vc_plan.specs.Reads.{vars_of_condition}
use Rattle.vc_plan_reasons.specs.Things.{parents_of, slots_of_var, vars_of_kind}

-- the slots of what a rule says: those that it looks at, and the one that it may bring
abbrev pub slots_told : Plan → Kind → List ℕ
slots_told plan (Among v restriction) = []
slots_told plan (Compare r a b) = []
slots_told plan (Equate a b) = []
slots_told plan (ByTable table columns) = []
slots_told plan Never = []
slots_told plan (Last v) = slots_of_var plan v
slots_told plan (Line i) = parents_of plan i ++ i ∷ []

abbrev pub touched_slots : Plan → Rule → List ℕ
touched_slots plan rule = rule.slots ++ slots_told plan rule.kind

abbrev pub touched_vars : Plan → Rule → List ℕ
touched_vars plan rule =
    vars_of_condition (slice_get plan.conditions rule.condition) ++ vars_of_kind plan rule.kind

-- those of the rule of a number
abbrev pub slots_in_rule : Plan → Option Rule → List ℕ
slots_in_rule plan None = []
slots_in_rule plan (Some rule) = touched_slots plan rule

abbrev pub slots_by : Plan → ℕ → List ℕ
slots_by plan r = slots_in_rule plan (slice_get plan.rules r)

abbrev pub vars_in_rule : Plan → Option Rule → List ℕ
vars_in_rule plan None = []
vars_in_rule plan (Some rule) = touched_vars plan rule

abbrev pub vars_by : Plan → ℕ → List ℕ
vars_by plan r = vars_in_rule plan (slice_get plan.rules r)
