-- Selection conditions: none are met, or one of them is true.
use Rattle.std.proofs.Common.{◌≡◌, ◌||◌, List, [], ◌∷◌, length, refl, ap, arith}
use Rattle.std.specs.Prelude.{◌==◌}
use Rattle.std.specs.List.{list_any}
use Rattle.std.proofs.lemmas.Bool.{ne_eqb}
use Rattle.vc_plan.specs.declared.plans.Plan.{Plan}
use Rattle.vc_plan.specs.declared.plans.Selection.{Selection}
use Rattle.vc_plan.specs.Bills.{is_selected}
use Rattle.vc_plan.specs.Kleene.{is_true}
use Rattle.vc_plan.specs.Readings.{Reading}
use Rattle.vc_plan.specs.Truth.{truth_at}

pub selected : (plan : Plan) (reading : Reading) (selections : List Selection)
    → ((length selections == 0) || list_any (λ s. is_true (truth_at plan reading s.condition)) selections)
    ≡ is_selected plan reading selections
selected plan reading [] = refl
selected plan reading (selection ∷ selections) =
    ap (λ b. b || list_any (λ s. is_true (truth_at plan reading s.condition)) (selection ∷ selections))
    (ne_eqb (length (selection ∷ selections)) 0 (λ none. omega (arith, none)))
