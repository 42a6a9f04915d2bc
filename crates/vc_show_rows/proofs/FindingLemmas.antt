-- What is found of sets of texts is what the plan calls the slot's.
use Rattle.std.proofs.Common.{◌≡◌, ℕ, refl}
use Rattle.std.specs.Prelude.{Option, None, Some, length, slice_get}
use Rattle.vc_plan.specs.declared.plans.Plan.{Plan}
use Rattle.vc_plan.specs.declared.plans.TextSet.{TextSet}
use Rattle.vc_plan.specs.Domains.{numbers_below}
use Rattle.vc_rule_readings.specs.Finding.{first_at, is_at}
use Rattle.vc_rule_readings.proofs.RangeLemmas.{find_alike}
use Rattle.vc_show_rows.specs.Rows.{is_set_of, set_of}

pub first_set : (plan : Plan) (slot characteristic : ℕ)
    → first_at (λ (x : TextSet). x.slot) (λ (x : TextSet). x.characteristic) slot characteristic plan.sets
    ≡ set_of plan slot characteristic
first_set plan slot characteristic =
    find_alike
    (λ s. is_at (λ (x : TextSet). x.slot) (λ (x : TextSet). x.characteristic) slot characteristic
    (slice_get plan.sets s))
    (λ s. is_set_of slot characteristic (slice_get plan.sets s)) (λ s. same (slice_get plan.sets s))
    (numbers_below (length plan.sets))
  where
    same : (o : Option TextSet)
        → is_at (λ (x : TextSet). x.slot) (λ (x : TextSet). x.characteristic) slot characteristic o
        ≡ is_set_of slot characteristic o
    same None = refl
    same (Some x) = refl
