-- What has another slot isn't found, and what is found of variables is what the plan calls theirs.
use Rattle.std.proofs.Common.{◌≡◌, ℕ, Bool, true, false, ◌&&◌, refl}
use Rattle.std.specs.Prelude.{Option, None, Some, length, slice_get, ◌==◌}
use Rattle.std.proofs.lemmas.Bool.{eqb-true}
use Rattle.vc_plan.specs.declared.plans.Plan.{Plan}
use Rattle.vc_plan.specs.declared.plans.Var.{Var}
use Rattle.vc_plan.specs.Domains.{numbers_below}
use Rattle.vc_plan.specs.Parts.{is_var_of, var_of}
use Rattle.vc_rule_readings.specs.Finding.{first_at, is_at}
use Rattle.vc_rule_readings.proofs.RangeLemmas.{find_alike}

pub other_slot : {X : Type 0} (slot_of characteristic_of : X → ℕ) (slot characteristic : ℕ) (o : Option X)
    → ((x : X) → o ≡ Some x → slot_of x ≡ slot → ⊥) → is_at slot_of characteristic_of slot characteristic o ≡ false
other_slot slot_of characteristic_of slot characteristic None apart = refl
other_slot slot_of characteristic_of slot characteristic (Some x) apart = by (slot_of x == slot) refl
  where
    by : (b : Bool) → (slot_of x == slot) ≡ b → (b && (characteristic_of x == characteristic)) ≡ false
    by true e = absurd (apart x refl (eqb-true (slot_of x) slot e))
    by false e = refl

pub first_var : (plan : Plan) (slot characteristic : ℕ)
    → first_at (λ (x : Var). x.slot) (λ (x : Var). x.characteristic) slot characteristic plan.vars
    ≡ var_of plan slot characteristic
first_var plan slot characteristic =
    find_alike
    (λ v. is_at (λ (x : Var). x.slot) (λ (x : Var). x.characteristic) slot characteristic (slice_get plan.vars v))
    (λ v. is_var_of slot characteristic (slice_get plan.vars v)) (λ v. same (slice_get plan.vars v))
    (numbers_below (length plan.vars))
  where
    same : (o : Option Var)
        → is_at (λ (x : Var). x.slot) (λ (x : Var). x.characteristic) slot characteristic o
        ≡ is_var_of slot characteristic o
    same None = refl
    same (Some x) = refl
