-- How large the numbers of a plan's terms get.
use Rattle.std.specs.Prelude.{◌≡◌, true}
use Rattle.std.specs.List.{list_all}
use Rattle.vc_plan.specs.Ranges.{condition_there, term_there}
use Rattle.vc_plan.specs.Sizes.{condition_small, is_small}
use Rattle.vc_plan.specs.declared.plans.Plan.{Plan}

-- what conditions and terms name is there, and their literals may be stored
pub record HasTrees (plan : Plan) : Type 0 where
  pub conditions_there : list_all (condition_there plan) plan.conditions ≡ true
  pub terms_there : list_all (term_there plan) plan.terms ≡ true

-- each step of a computation stays within the limit
pub record HasSizes (plan : Plan) : Type 0 where
  pub terms_small : list_all (is_small plan) plan.terms ≡ true
  pub conditions_small : list_all (condition_small plan) plan.conditions ≡ true
