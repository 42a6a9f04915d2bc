-- The lists of characteristics and the classes of objects in a plan.
use Rattle.std.specs.Prelude.{◌≡◌, true, ◌==◌, nat_le}
use Rattle.std.specs.List.{list_all}
use Rattle.vc_plan.specs.Alike.{is_proper}
use Rattle.vc_plan.specs.Orders.{are_apart}
use Rattle.vc_plan.specs.Ranges.{characteristic_there, object_there}
use Rattle.vc_plan.specs.Valid.{list_length}
use Rattle.vc_plan.specs.declared.plans.Plan.{Plan}

pub record HasLists (plan : Plan) : Type 0 where
  pub characteristics_there : list_all (characteristic_there plan) plan.characteristics ≡ true
  pub objects_there : list_all (object_there plan) plan.objects ≡ true
  pub classes : list_all (λ object. are_apart (λ c d. c == d) object.characteristics) plan.objects ≡ true
  pub lists : list_all (λ characteristic. is_proper characteristic.list) plan.characteristics ≡ true
  pub list_limit : list_all (λ characteristic. nat_le (list_length characteristic) 1_000) plan.characteristics ≡ true
