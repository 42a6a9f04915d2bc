-- The variables and sets of a plan.
use Rattle.std.specs.Prelude.{◌≡◌, true, not, nat_le}
use Rattle.std.specs.List.{list_all}
use Rattle.vc_plan.specs.Alike.{are_of_one_domain, sets_of_one_domain}
use Rattle.vc_plan.specs.Classes.{has_sets}
use Rattle.vc_plan.specs.Lists.{has_its_texts}
use Rattle.vc_plan.specs.Orders.{are_in_order}
use Rattle.vc_plan.specs.Ranges.{set_there, var_there}
use Rattle.vc_plan.specs.declared.plans.Plan.{Plan}

pub record HasVariables (plan : Plan) : Type 0 where
  pub vars_there : list_all (var_there plan) plan.vars ≡ true
  pub sets_there : list_all (set_there plan) plan.sets ≡ true
  pub vars_by_slot : are_in_order (λ a b. nat_le a.slot b.slot) plan.vars ≡ true
  pub sets_by_slot : are_in_order (λ a b. nat_le a.slot b.slot) plan.sets ≡ true
  pub one_domain : list_all (λ x. list_all (are_of_one_domain x) plan.vars) plan.vars ≡ true
  pub one_text_list : list_all (λ x. list_all (sets_of_one_domain x) plan.sets) plan.sets ≡ true
  pub set_texts : list_all (has_its_texts plan) plan.sets ≡ true
  pub single_columns : list_all (λ table. list_all (λ c. not (has_sets plan c.characteristic)) table.columns)
      plan.tables ≡ true
