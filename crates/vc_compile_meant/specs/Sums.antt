-- Sums over parts stand in procedures alone.
use Rattle.std.specs.Prelude.{◌≡◌, true, not}
use Rattle.std.specs.List.{list_all}
use Rattle.vc_plan.specs.Monotone.{condition_sums, has_part_sum}
use Rattle.vc_plan.specs.Outside.{conditions_outside, terms_outside}
use Rattle.vc_plan.specs.Valid.{asks, means}
use Rattle.vc_plan.specs.declared.plans.Plan.{Plan}

pub record HasNoSums (plan : Plan) : Type 0 where
  pub no_sum_asked : list_all (asks plan (λ c. not (condition_sums c))) (conditions_outside plan) ≡ true
  pub no_sum_meant : list_all (means plan (λ term. not (has_part_sum term))) (terms_outside plan) ≡ true
