-- The order of a plan's procedures and preconditions, and where procedures of values stand.
use Rattle.std.specs.Prelude.{◌≡◌, ◌==◌, ◌^◌, true, nat_le, nat_lt, length}
use Rattle.std.specs.List.{list_all}
use Rattle.vc_plan.specs.Alike.{is_proper}
use Rattle.vc_plan.specs.Classes.{are_guards_in_order, are_procedures_in_order}
use Rattle.vc_plan.specs.LookUps.{trigger_listed}
use Rattle.vc_plan.specs.Orders.{are_apart, are_in_order}
use Rattle.vc_plan.specs.Valid.{list_length}
use Rattle.vc_plan.specs.declared.plans.Plan.{Plan}

-- that classes and lists have nothing twice, and few things
pub record HasOnce (plan : Plan) : Type 0 where
  pub classes : list_all (λ object. are_apart (λ c d. c == d) object.characteristics) plan.objects ≡ true
  pub lists : list_all (λ characteristic. is_proper characteristic.list) plan.characteristics ≡ true

pub record HasFew (plan : Plan) : Type 0 where
  pub class_limit : list_all (λ object. nat_le (length object.characteristics) 500) plan.objects ≡ true
  pub list_limit : list_all (λ characteristic. nat_le (list_length characteristic) 1_000) plan.characteristics ≡ true
  pub slot_limit : nat_le (length plan.slots) 40 ≡ true

pub record HasPlaces (plan : Plan) : Type 0 where
  pub triggers : list_all (λ procedure. trigger_listed plan procedure.slot procedure.trigger) plan.procedures ≡ true
  pub procedures_in_order : are_in_order (are_procedures_in_order plan) plan.procedures ≡ true
  pub guards_in_order : are_in_order (are_guards_in_order plan) plan.guards ≡ true

pub record HasFewProcedures (plan : Plan) : Type 0 where
  pub procedure_limit : nat_lt (length plan.procedures) (2 ^ 32) ≡ true
