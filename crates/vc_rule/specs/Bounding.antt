-- What is found by a rule has no more premises than its bound.
use Rattle.std.specs.Prelude.{◌≡◌, ◌≤◌, ℕ, true, List, length, slice_get, Some}
use Rattle.std.specs.List.{AllByRecursion}
use Rattle.vc_plan.specs.declared.atoms.Atom.{Atom}
use Rattle.vc_plan.specs.declared.atoms.Atom.TheVariants.{Here, Out, Is}
use Rattle.vc_plan.specs.declared.plans.Plan.{Plan}
use Rattle.vc_plan.specs.declared.rules.Kind.{Kind}
use Rattle.vc_plan.specs.declared.rules.Rule.{Rule}
use Rattle.vc_plan.specs.Bounds.{here_bound, is_bound, out_bound, kind_clash_bound, place_for}
use Rattle.vc_plan.specs.Bounds.{clash_bound, greatest, place_bound}
use Rattle.vc_plan.specs.Clear.{is_clear}
use Rattle.vc_plan.specs.Seen.{Seen, seen_of}
use Rattle.vc_plan.specs.Valid.{IsValid}
use Rattle.vc_plan_values.specs.Computing.{LiesInGrains}
use Rattle.vc_rule_premises.specs.Saying.{Said, clashing, concluding}
use Rattle.vc_rule.specs.Evaluating.{found_at}

-- the premises at most of an atom that a rule of the kind concludes
abbrev pub kind_bound : Plan → Rule → Kind → Atom → ℕ
kind_bound plan rule kind (Here i) = here_bound plan rule kind i
kind_bound plan rule kind (Out v g) = out_bound plan rule kind v g
kind_bound plan rule kind (Is v a) = is_bound plan rule kind v

-- whether nothing that is said by a rule of the kind has more premises than its bound
abbrev pub IsWithin : Plan → Rule → Kind → Said → Type 0
IsWithin plan rule kind (clashing premises) = length premises ≤ kind_clash_bound plan rule kind
IsWithin plan rule kind (concluding conclusions) =
    AllByRecursion (λ conclusion. length conclusion.premises ≤ kind_bound plan rule kind conclusion.atom) conclusions

-- values lie in grains where a clear set says them
abbrev pub ClearLiesInGrains : Type 0
ClearLiesInGrains = (plan : Plan) (set : List Atom) → is_clear plan set ≡ true → LiesInGrains plan (seen_of set)

-- there what is found by a rule is within its bounds
abbrev pub FoundIsFew : Type 0
FoundIsFew = (plan : Plan) (seen : Seen) (r : ℕ) (rule : Rule) → IsValid plan → LiesInGrains plan seen
    → slice_get plan.rules r ≡ Some rule → IsWithin plan rule rule.kind (found_at plan seen r)

-- and so no more than the bound of all rules and sources there
abbrev pub IsWithinPlaces : Plan → Said → Type 0
IsWithinPlaces plan (clashing premises) = length premises ≤ greatest (clash_bound plan) plan.rules
IsWithinPlaces plan (concluding conclusions) =
    AllByRecursion (λ found. length found.premises ≤ place_bound plan (place_for found.atom)) conclusions

abbrev pub FoundFitsPlaces : Type 0
FoundFitsPlaces = (plan : Plan) (seen : Seen) (r : ℕ) → IsValid plan → LiesInGrains plan seen
    → IsWithinPlaces plan (found_at plan seen r)
