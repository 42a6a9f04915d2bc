-- Which values are still asked for, by what asks for them.
use Rattle.std.specs.Prelude.{ℕ, Bool, not, ◌&&◌, ◌||◌, List, length}
use Rattle.std.specs.List.{filter, list_any}
use Rattle.vc_plan.specs.declared.plans.Named.{Named}
use Rattle.vc_plan.specs.declared.plans.Named.TheVariants.{Var, Set}
use Rattle.vc_plan.specs.declared.plans.Plan.{Plan}
use Rattle.vc_plan.specs.declared.plans.Requirement.{Requirement}
use Rattle.vc_plan.specs.Domains.{numbers_below}
use Rattle.vc_plan.specs.Kleene.{is_true}
use Rattle.vc_plan.specs.Readings.{Reading}
use Rattle.vc_plan.specs.Seen.{Seen}
use Rattle.vc_plan.specs.Showing.{characteristic_of, has_value, is_hidden, is_marked, is_named_here}
use Rattle.vc_plan.specs.Truth.{truth_at}

-- the variables that are marked as required
abbrev pub marked_of : Plan → List ℕ
marked_of plan = filter (λ v. is_marked (characteristic_of plan (Var v))) (numbers_below (length plan.vars))

-- whether its instance is here, and it has no value
abbrev pub is_bare : Plan → Seen → Reading → Named → Bool
is_bare plan seen reading named = is_named_here plan seen named && not (has_value reading named)

-- and it is marked as required, and not hidden
abbrev pub lacks_marked : Plan → Seen → Reading → Named → Bool
lacks_marked plan seen reading named =
    is_bare plan seen reading named && (is_marked (characteristic_of plan named) && not (is_hidden plan reading named))

-- and the selection condition is true, and it isn't hidden
abbrev pub is_demanding : Plan → Reading → Requirement → Bool
is_demanding plan reading requirement = is_true (truth_at plan reading requirement.selection.condition)

abbrev pub lacks_demanded : Plan → Seen → Reading → Requirement → Bool
lacks_demanded plan seen reading requirement =
    is_bare plan seen reading requirement.at
    && (is_demanding plan reading requirement && not (is_hidden plan reading requirement.at))

-- one pass over the variables, one over the sets, and one over the selection conditions
abbrev pub lacks_some : Plan → Seen → Reading → Bool
lacks_some plan seen reading =
    list_any (λ v. lacks_marked plan seen reading (Var v)) (numbers_below (length plan.vars))
    || (list_any (λ s. lacks_marked plan seen reading (Set s)) (numbers_below (length plan.sets))
    || list_any (lacks_demanded plan seen reading) plan.requirements)
