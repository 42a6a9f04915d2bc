-- The domains of a plan: the lists of characteristics, cut up.
use Rattle.std.specs.Prelude.{◌≡◌, true, nat_lt}
use Rattle.std.specs.List.{list_all}
use Rattle.vc_plan.specs.Alike.{is_proper}
use Rattle.vc_plan.specs.Domains.{count_of}
use Rattle.vc_plan.specs.Lists.{has_its_list}
use Rattle.vc_plan.specs.Ranges.{characteristic_there, domain_there, var_there}
use Rattle.vc_plan.specs.Valid.{each_var}
use Rattle.vc_plan.specs.declared.plans.Plan.{Plan}

-- that lists and variables name what is there, and that lists are proper
pub record HasLists (plan : Plan) : Type 0 where
  pub characteristics_there : list_all (characteristic_there plan) plan.characteristics ≡ true
  pub vars_there : list_all (var_there plan) plan.vars ≡ true
  pub lists : list_all (λ characteristic. is_proper characteristic.list) plan.characteristics ≡ true

pub record HasDomains (plan : Plan) : Type 0 where
  pub domains_there : list_all (domain_there plan) plan.domains ≡ true
  pub some_grain : each_var plan (λ v. nat_lt 0 (count_of plan v)) ≡ true
  pub proper : list_all is_proper plan.domains ≡ true
  pub whole : list_all (has_its_list plan) plan.vars ≡ true
