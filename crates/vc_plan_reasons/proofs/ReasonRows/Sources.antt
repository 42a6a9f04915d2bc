-- Which sources fit a plan with a slot below the root.
use Rattle.std.proofs.Common.{◌≡◌, ℕ, Bool, true, false, List, [], ◌∷◌, map, refl}
use Rattle.std.specs.Prelude.{Option, None, Some, ◌≢◌}
use Rattle.vc_value.specs.declared.value.Value.{Value}
use Rattle.vc_value.specs.declared.value.Value.TheVariants.{Text}
use Rattle.vc_plan.specs.declared.atoms.Mark.{Mark}
use Rattle.vc_plan.specs.declared.atoms.Mark.TheVariants.{Held, Outside}
use Rattle.vc_plan.proofs.PlanRows.Models.{users}
use Rattle.vc_plan.proofs.StageRows.Paints.{paint}
use Rattle.vc_plan.proofs.StageRows.StageModels.{chosen}
use Rattle.vc_plan.specs.Evaluate.{Users, evaluation_of}
use Rattle.vc_plan.specs.Sources.{Sources}
use Rattle.vc_plan_reasons.specs.Fitting.{sources_at_end, sources_fit}
use Rattle.vc_plan_reasons.proofs.ReasonRows.Below.{drive}

-- values of the user: each in a grain, one of another variable, and one of a variable that isn't there
abbrev by_users : List (Option Value) → Bool
by_users values = sources_fit drive (users values)

users_fit : map by_users
    ([] ∷ (Some (Text 0) ∷ Some (Text 3) ∷ []) ∷ (None ∷ Some (Text 0) ∷ []) ∷ (None ∷ None ∷ Some (Text 0) ∷ []) ∷ [])
    ≡ true ∷ true ∷ false ∷ false ∷ []
users_fit = refl

in_no_grain : by_users (Some (Text 2) ∷ []) ≢ true
in_no_grain e = cc

-- an entry of POWER, by each of the drive's statements, of which the third writes nothing; by one that isn't there, and
-- by another procedure
abbrev written : Mark → ℕ → ℕ → Bool
written mark procedure statement =
    sources_fit drive (record {
      user = [];
      written = None ∷ Some (record { mark = mark; procedure = procedure; statement = statement }) ∷ [];
    })

by_statements : map (written (Held (Text 2)) 0) (0 ∷ 1 ∷ 2 ∷ 3 ∷ []) ≡ true ∷ true ∷ false ∷ false ∷ []
by_statements = refl

by_no_procedure : written (Held (Text 2)) 1 0 ≢ true
by_no_procedure e = cc

by_deletion : written (Held (Text 2)) 0 2 ≢ true
by_deletion e = cc

-- a value that it holds lies in a grain; one outside needs none
held : map (λ mark. written mark 0 0) (Held (Text 3) ∷ Held (Text 0) ∷ Outside ∷ []) ≡ true ∷ false ∷ true ∷ []
held = refl

-- the drive's statements don't write DRIVEN, which is the root's
abbrev of_driven : Sources
of_driven = record { user = []; written = Some (record { mark = Held (Text 0); procedure = 0; statement = 0 }) ∷ [] }

of_another_slot : sources_fit drive of_driven ≢ true
of_another_slot e = cc

-- PAINT with BLUE and H, broken by what the second procedure wrote
abbrev blue_h : Users
blue_h = chosen (Some (Text 1) ∷ Some (Text 3) ∷ [])

broken_fits : sources_fit paint (sources_at_end blue_h (evaluation_of paint blue_h)) ≡ true
broken_fits = refl
